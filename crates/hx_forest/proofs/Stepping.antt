-- One step of the walks up the parents.
--     to_on          after how many steps it comes to a name
--     counted_on     a count of what is passed, and of what is left
--     to_out, to_here      where it stops
--     ends_on        how many nodes it passes
--     halts_on       whether it passes a node that has a reason by its parent
--     halted_by, such_node      which is told by how nodes stand
use Rattle.std.proofs.Common.{◌≡◌, ℕ, zero, suc, ◌+◌, ◌-◌, ◌<◌, Bool, true, false, cond, not, ◌&&◌, ◌||◌, Option, Some, None, option_map, List, [], ◌∷◌, is_some, refl, sym, ap, ◌∙◌, arith}
use Rattle.std.specs.Prelude.{option_and_then}
use Rattle.std.specs.Option.{option_map_or}
use Rattle.std.specs.Str.{bytes_eq}
use Rattle.std.proofs.lemmas.Option.{none-some, same_Some}
use Rattle.hx_model.specs.declared.node.Node.{Node}
use Rattle.hx_model.specs.Forest.{Forest, is_there, node_of, parent_of}
use Rattle.hx_model.specs.Walks.{walk_to, walk_ends}
use Rattle.hx_model.specs.First.{so, first}
use Rattle.hx_model.specs.declared.node.Halt.TheVariants.{ParentMissing, IllegalParent}
use Rattle.hx_forest.specs.declared.node_table.Standing.{Standing}
use Rattle.hx_forest.specs.Inside.{halt_at, halt_by, is_halted_by, node_at, nodes_end, nodes_halt}
use Rattle.hx_forest.specs.NodeTable.{standing_of}

nothing_left : {A : Type 0} → 0 < 0 → A
nothing_left pos = let no : ⊥ = omega arith in absurd no

one_less : (left : ℕ) → left ≡ suc left - 1
one_less left = omega arith

-- ---- after how many steps it comes to a name

pub to_on : (left : ℕ) (f : Forest) (next : Option (List ℕ)) (n a : List ℕ) (node : Node) → 0 < left → next ≡ Some n → node_of f n ≡ Some node → bytes_eq n a ≡ false
    → walk_to left f next a ≡ option_map (λ k. suc k) (walk_to (left - 1) f node.parent a)
to_on zero f next n a node pos is found other = nothing_left pos
to_on (suc left) f next n a node pos is found other = ap (λ o. walk_to (suc left) f o a) is
    ∙ (λ i. cond (is_some (found i)) (cond (other i) (Some 0) (option_map (λ k. suc k) (walk_to left f (option_and_then (λ node. node.parent) (found i)) a))) None)
    ∙ ap (λ k. option_map (λ k. suc k) (walk_to k f node.parent a)) (one_less left)

-- what is passed before counts too
abbrev pub counted_on : ℕ → Option ℕ → Option ℕ
counted_on passed more = option_map (λ k. passed + k) more

pub counted_one : (passed : ℕ) (more : Option ℕ) → counted_on (passed + 1) more ≡ counted_on passed (option_map (λ k. suc k) more)
counted_one passed None = refl
counted_one passed (Some k) = let same : passed + 1 + k ≡ passed + suc k = omega arith in ap Some same

pub counted_none : (more : Option ℕ) → counted_on 0 more ≡ more
counted_none None = refl
counted_none (Some k) = let same : 0 + k ≡ k = omega arith in ap Some same

-- it doesn't go on from a name that isn't there
pub to_out : (left : ℕ) (f : Forest) (next : Option (List ℕ)) (n a : List ℕ) → next ≡ Some n → is_there f n ≡ false → walk_to left f next a ≡ None
to_out zero f next n a is out = refl
to_out (suc left) f next n a is out = ap (λ o. walk_to (suc left) f o a) is ∙ ap (λ b. cond b (cond (bytes_eq n a) (Some 0) (option_map (λ k. suc k) (walk_to left f (parent_of f n) a))) None) out

-- it has come to the name
pub to_here : (left : ℕ) (f : Forest) (next : Option (List ℕ)) (n a : List ℕ) → 0 < left → next ≡ Some n → is_there f n ≡ true → bytes_eq n a ≡ true → walk_to left f next a ≡ Some 0
to_here zero f next n a pos is there same = nothing_left pos
to_here (suc left) f next n a pos is there same = ap (λ o. walk_to (suc left) f o a) is
    ∙ (λ i. cond (there i) (cond (same i) (Some 0) (option_map (λ k. suc k) (walk_to left f (parent_of f n) a))) None)

-- ---- where it ends

pub ends_on : (left : ℕ) (f : Forest) (next : Option Node) (node : Node) (passed : ℕ) → 0 < left → next ≡ Some node
    → counted_on (passed + 1) (nodes_end (left - 1) f (node_at f node.parent)) ≡ counted_on passed (nodes_end left f next)
ends_on zero f next node passed pos is = nothing_left pos
ends_on (suc left) f next node passed pos is =
    ap (λ k. counted_on (passed + 1) (nodes_end k f (node_at f node.parent))) (sym (one_less left))
    ∙ counted_one passed (nodes_end left f (node_at f node.parent))
    ∙ ap (λ o. counted_on passed (nodes_end (suc left) f o)) (sym is)

-- by nodes where by names
pub ends_same : (left : ℕ) (f : Forest) (next : Option (List ℕ)) → nodes_end left f (node_at f next) ≡ walk_ends left f next
ends_same zero f next = refl
ends_same (suc left) f None = refl
ends_same (suc left) f (Some n) = at (ends_same left f) (node_of f n)
  where
    at : ((next : Option (List ℕ)) → nodes_end left f (node_at f next) ≡ walk_ends left f next) → (o : Option Node)
        → nodes_end (suc left) f o ≡ cond (is_some o) (option_map (λ k. suc k) (walk_ends left f (option_and_then (λ node. node.parent) o))) (Some 0)
    at further None = refl
    at further (Some node) = ap (λ (o : Option ℕ). option_map (λ k. suc k) o) (further node.parent)

-- ---- whether it passes a node that has a reason by its parent

-- what is passed before counts too
abbrev pub halts_with : Bool → Option Bool → Option Bool
halts_with has more = option_map (λ b. has || b) more

pub halts_on : (left : ℕ) (f : Forest) (next : Option Node) (node : Node) (has : Bool) → 0 < left → next ≡ Some node
    → halts_with (has || is_some (halt_by f node.parent)) (nodes_halt (left - 1) f (node_at f node.parent)) ≡ halts_with has (nodes_halt left f next)
halts_on zero f next node has pos is = nothing_left pos
halts_on (suc left) f next node has pos is =
    ap (λ k. halts_with (has || is_some (halt_by f node.parent)) (nodes_halt k f (node_at f node.parent))) (sym (one_less left))
    ∙ further has (is_some (halt_by f node.parent)) (nodes_halt left f (node_at f node.parent))
    ∙ ap (λ o. halts_with has (nodes_halt (suc left) f o)) (sym is)
  where
    further : (a b : Bool) (o : Option Bool) → halts_with (a || b) o ≡ halts_with a (option_map (λ c. b || c) o)
    further a b None = refl
    further true b (Some c) = refl
    further false b (Some c) = refl

-- which is told by how the nodes stand
pub halted_by : (node : Node) (above : Option Node) → is_halted_by (standing_of node) (option_map standing_of above) ≡ is_some (halt_at node.parent above)
halted_by node above = by node.parent above
  where
    under : (terminating excluded : Bool) → not (not terminating && not excluded) ≡ is_some (first (so terminating ParentMissing ∷ so excluded IllegalParent ∷ []))
    under true excluded = refl
    under false true = refl
    under false false = refl

    by : (parent : Option (List ℕ)) (above : Option Node) → (not (not (is_some parent)) && option_map_or (λ (s : Standing). not s.eligible) (option_map standing_of above) true) ≡ is_some (halt_at parent above)
    by None above = refl
    by (Some p) None = refl
    by (Some p) (Some q) = under q.terminating q.excluded

pub such_node : {P : Type 0} (o : Option Node) (s : Standing) → Some s ≡ option_map standing_of o → ((node : Node) → o ≡ Some node → s ≡ standing_of node → P) → P
such_node None s is then = absurd (none-some s (sym is))
such_node (Some node) s is then = then node refl (same_Some s (standing_of node) is)
