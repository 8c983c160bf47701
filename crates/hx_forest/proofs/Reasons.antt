-- Why a namespace is halted.
--     nowhere                       a name without a namespace
--     open_by, closed_by            whether one takes part, by its node
--     halt_walked                   where the walk up ends
--     endless                       where it doesn't
--     ring_above                    where the walk up goes in a cycle, and it has no reason by itself
--     apart_from                    a parent that isn't below a namespace
use Rattle.std.proofs.Common.{◌≡◌, Bool, true, false, cond, not, ◌&&◌, ◌||◌, Option, Some, None, option_map, List, [], ◌∷◌, ℕ, zero, suc, ◌+◌, ◌<◌, length, is_some, refl, sym, ap, subst, ◌∙◌, inl, inr, arith, true≢false}
use Rattle.std.specs.Prelude.{IfSome, is_none, option_and_then}
use Rattle.std.specs.Option.{option_map_or}
use Rattle.std.specs.List.{list_any}
use Rattle.std.proofs.lemmas.Bool.{cases_Bool}
use Rattle.std.proofs.lemmas.Option.{same_Some}
use Rattle.hx_model.specs.First.{so, first, or_else}
use Rattle.hx_model.specs.declared.node.Node.{Node}
use Rattle.hx_model.specs.declared.node.Halt.{Halt}
use Rattle.hx_model.specs.declared.node.Halt.TheVariants.{Ancestor, InCycle, ParentMissing, IllegalParent}
use Rattle.hx_model.specs.Forest.{Forest, is_in, node_of, is_there, is_live, is_excluded, parent_of, chain_of, tail_of, comes_back, own_halt_of, in_chain, has_halted_ancestor, halt_of}
use Rattle.hx_model.specs.TreeLabels.{is_open}
use Rattle.hx_model.specs.Walks.{walk_halts, walk_ends}
use Rattle.hx_model.proofs.Climbing.{few, above_chain, itself}
use Rattle.hx_model.proofs.Parents.{up_to, up_to_all, chain_alone, chain_parent}
use Rattle.hx_model.proofs.Walking.{walk_halts_above, Ends, past_top, missing, passing, walk_ends_Ends, not_above_parent, no_parent, no_halt_apart, chain_there, chain_missing}
use Rattle.hx_forest.proofs.Rings.{begins}
use Rattle.hx_forest.specs.Inside.{halt_under, halt_by, node_at, nodes_halt}

-- ---- walks that end

-- who is on a walk that ends isn't above its own parent
ends_apart : (f : Forest) (n : List ℕ) (k : ℕ) → Ends f (Some n) k → comes_back f n ≡ false
ends_apart f n zero (missing out) = ap (λ (o : Option (List ℕ)). option_map_or (λ p. in_chain f p n) o false) (no_parent f n out)
ends_apart f n (suc k) (passing there ends) = at (parent_of f n) refl
  where
    at : (o : Option (List ℕ)) → parent_of f n ≡ o → option_map_or (λ p. in_chain f p n) o false ≡ false
    at None is = refl
    at (Some p) is = not_above_parent f n p k (passing there ends) (subst (λ (o : Option (List ℕ)). Ends f o k) is ends)

-- without a cycle the reason is that by its parent
own_by : (f : Forest) (n : List ℕ) → comes_back f n ≡ false → own_halt_of f n ≡ halt_by f (parent_of f n)
own_by f n apart =
    ap (λ b. first (so b InCycle ∷ so (option_map_or (λ p. not (is_live f p)) (parent_of f n) false) ParentMissing ∷ so (option_map_or (λ p. is_excluded f p) (parent_of f n) false) IllegalParent ∷ [])) apart
    ∙ by (parent_of f n)
  where
    marked : (a b : Bool) → first (so false InCycle ∷ so (not (not a)) ParentMissing ∷ so b IllegalParent ∷ []) ≡ first (so a ParentMissing ∷ so b IllegalParent ∷ [])
    marked true b = refl
    marked false b = refl

    at : (o : Option Node) → first (so false InCycle ∷ so (not (option_map_or (λ node. not node.terminating) o false)) ParentMissing ∷ so (option_map_or (λ node. node.excluded) o false) IllegalParent ∷ []) ≡ option_map_or halt_under o (Some ParentMissing)
    at None = refl
    at (Some node) = marked node.terminating node.excluded

    by : (o : Option (List ℕ)) → first (so false InCycle ∷ so (option_map_or (λ p. not (is_live f p)) o false) ParentMissing ∷ so (option_map_or (λ p. is_excluded f p) o false) IllegalParent ∷ []) ≡ halt_by f o
    by None = refl
    by (Some p) = at (node_of f p)

mapped : {A B : Type 0} (g : A → B) (o : Option A) → is_some (option_map g o) ≡ is_some o
mapped g None = refl
mapped g (Some a) = refl

-- a walk by nodes ends where that by names does
halts_end : (left : ℕ) (f : Forest) (next : Option (List ℕ)) → is_some (nodes_halt left f (node_at f next)) ≡ is_some (walk_ends left f next)
halts_end zero f next = refl
halts_end (suc left) f None = refl
halts_end (suc left) f (Some n) = at (halts_end left f) (node_of f n)
  where
    at : ((next : Option (List ℕ)) → is_some (nodes_halt left f (node_at f next)) ≡ is_some (walk_ends left f next)) → (o : Option Node)
        → is_some (nodes_halt (suc left) f o) ≡ is_some (cond (is_some o) (option_map (λ k. suc k) (walk_ends left f (option_and_then (λ node. node.parent) o))) (Some 0))
    at further None = refl
    at further (Some node) = mapped (λ has. is_some (halt_by f node.parent) || has) (nodes_halt left f (node_at f node.parent)) ∙ further node.parent ∙ sym (mapped (λ k. suc k) (walk_ends left f node.parent))

-- one step of it
nodes_on : (left : ℕ) (f : Forest) (n : List ℕ) → is_there f n ≡ true
    → nodes_halt (suc left) f (node_of f n) ≡ option_map (λ has. is_some (halt_by f (parent_of f n)) || has) (nodes_halt left f (node_at f (parent_of f n)))
nodes_on left f n there = at (node_of f n) there
  where
    at : (o : Option Node) → is_some o ≡ true
        → nodes_halt (suc left) f o ≡ (let p = option_and_then (λ node. node.parent) o in option_map (λ has. is_some (halt_by f p) || has) (nodes_halt left f (node_at f p)))
    at None h = absurd (true≢false (sym h))
    at (Some node) h = refl

same_walks : (left : ℕ) (f : Forest) (next : Option (List ℕ)) (k : ℕ) → Ends f next k → is_some (nodes_halt left f (node_at f next)) ≡ true → nodes_halt left f (node_at f next) ≡ Some (walk_halts left f next)
same_walks zero f next k ends enough = absurd (true≢false (sym enough))
same_walks (suc left) f None zero past_top enough = refl
same_walks (suc left) f None (suc k) ends enough = elim ends [ ]
same_walks (suc left) f (Some n) zero (missing out) enough = at (node_of f n) out
  where
    at : (o : Option Node) → is_some o ≡ false → nodes_halt (suc left) f o ≡ Some (is_some o && (is_some (own_halt_of f n) || walk_halts left f (parent_of f n)))
    at None h = refl
    at (Some node) h = absurd (true≢false h)
same_walks (suc left) f (Some n) (suc k) (passing there ends) enough =
    let on = nodes_on left f n there in
    let by = λ (has : Bool). is_some (halt_by f (parent_of f n)) || has in
    let more = sym (mapped by (nodes_halt left f (node_at f (parent_of f n)))) ∙ sym (ap is_some on) ∙ enough in
    on ∙ ap (option_map by) (same_walks left f (parent_of f n) k ends more)
    ∙ (λ i. Some (sym there i && (is_some (sym (own_by f n (ends_apart f n (suc k) (passing there ends))) i) || walk_halts left f (parent_of f n))))

by_ancestors : (f : Forest) (n : List ℕ) (b : Bool) → own_halt_of f n ≡ None → walk_halts (length f) f (parent_of f n) ≡ b → halt_of f n ≡ or_else (so b Ancestor) None
by_ancestors f n b own walk =
    ap (λ (o : Option Halt). or_else o (or_else (so (has_halted_ancestor f n) Ancestor) None)) own
    ∙ ap (λ t. or_else (so t Ancestor) None) (sym (walk_halts_above f n own) ∙ walk)

-- a walk that ends tells the reason
pub halt_walked : (f : Forest) (n : List ℕ) (node : Node) (b : Bool) → node_of f n ≡ Some node → nodes_halt (length f) f (node_at f node.parent) ≡ Some b → first (halt_by f node.parent ∷ so b Ancestor ∷ []) ≡ halt_of f n
halt_walked f n node b found walk = subst (λ (p : Option (List ℕ)). first (halt_by f p ∷ so b Ancestor ∷ []) ≡ halt_of f n) up (told (halt_by f (parent_of f n)) refl)
  where
    up : parent_of f n ≡ node.parent
    up = ap (λ (o : Option Node). option_and_then (λ node. node.parent) o) found

    above : nodes_halt (length f) f (node_at f (parent_of f n)) ≡ Some b
    above = subst (λ (p : Option (List ℕ)). nodes_halt (length f) f (node_at f p) ≡ Some b) (sym up) walk

    ended : (k : ℕ) × Ends f (parent_of f n) k
    ended = at (walk_ends (length f) f (parent_of f n)) refl (sym (halts_end (length f) f (parent_of f n)) ∙ ap is_some above)
      where
        at : (o : Option ℕ) → walk_ends (length f) f (parent_of f n) ≡ o → is_some o ≡ true → (k : ℕ) × Ends f (parent_of f n) k
        at None is h = absurd (true≢false (sym h))
        at (Some k) is h = (k, walk_ends_Ends (length f) f (parent_of f n) k is)

    own : own_halt_of f n ≡ halt_by f (parent_of f n)
    own = own_by f n (ends_apart f n (suc ended.0) (passing (ap is_some found) ended.1))

    halts : walk_halts (length f) f (parent_of f n) ≡ b
    halts = same_Some (walk_halts (length f) f (parent_of f n)) b (sym (same_walks (length f) f (parent_of f n) ended.0 ended.1 (ap is_some above)) ∙ above)

    told : (o : Option Halt) → halt_by f (parent_of f n) ≡ o → first (o ∷ so b Ancestor ∷ []) ≡ halt_of f n
    told None is = sym (by_ancestors f n b (own ∙ is) halts)
    told (Some halt) is = sym (ap (λ (o : Option Halt). or_else o (or_else (so (has_halted_ancestor f n) Ancestor) None)) (own ∙ is))

-- a name without a namespace isn't halted
pub nowhere : (f : Forest) (n : List ℕ) → is_there f n ≡ false → None ≡ halt_of f n
nowhere f n out = sym (ap (λ (o : Option Halt). or_else o (or_else (so (has_halted_ancestor f n) Ancestor) None)) own ∙ ap (λ xs. or_else (so (list_any (λ a. is_some (own_halt_of f a)) (tail_of xs)) Ancestor) None) (chain_missing f n out))
  where
    own : own_halt_of f n ≡ None
    own = own_by f n (ends_apart f n 0 (missing out)) ∙ ap (halt_by f) (no_parent f n out)

-- whether a namespace takes part, by its node
pub open_by : (f : Forest) (n : List ℕ) (node : Node) → node_of f n ≡ Some node → (not node.terminating && not node.excluded) && is_none (halt_of f n) ≡ is_open f n
open_by f n node found = by (not node.terminating) (not node.excluded)
    ∙ (λ i. option_map_or (λ (m : Node). not m.terminating) (sym found i) false && (not (option_map_or (λ (m : Node). m.excluded) (sym found i) false) && is_none (halt_of f n)))
  where
    by : (a b : Bool) → (a && b) && is_none (halt_of f n) ≡ a && (b && is_none (halt_of f n))
    by true b = refl
    by false b = refl

-- and without one
pub closed_by : (f : Forest) (n : List ℕ) → node_of f n ≡ None → false ≡ is_open f n
closed_by f n none = ap (λ (o : Option Node). option_map_or (λ m. not m.terminating) o false && (not (is_excluded f n) && is_none (halt_of f n))) (sym none)

-- a walk by nodes that doesn't end
pub endless : (f : Forest) (n : List ℕ) (node : Node) → node_of f n ≡ Some node → nodes_halt (length f) f (node_at f node.parent) ≡ None → is_some (walk_ends (length f + 1) f (Some n)) ≡ false
endless f n node found walk =
    let one_more : length f + 1 ≡ suc (length f) = omega arith in
    ap (λ k. is_some (walk_ends k f (Some n))) one_more
    ∙ ap (λ (o : Option Node). is_some (cond (is_some o) (option_map (λ k. suc k) (walk_ends (length f) f (option_and_then (λ node. node.parent) o))) (Some 0))) found
    ∙ mapped (λ k. suc k) (walk_ends (length f) f node.parent) ∙ sym (halts_end (length f) f node.parent) ∙ ap is_some walk

-- ---- walks in a cycle

-- with steps enough a walk that ends has ended
ends_found : (left : ℕ) (f : Forest) (next : Option (List ℕ)) (k : ℕ) → Ends f next k → k < left → walk_ends left f next ≡ Some k
ends_found zero f next k ends enough = let no : ⊥ = omega arith in absurd no
ends_found (suc left) f None zero past_top enough = refl
ends_found (suc left) f None (suc k) ends enough = elim ends [ ]
ends_found (suc left) f (Some n) zero (missing out) enough = ap (λ b. cond b (option_map (λ i. suc i) (walk_ends left f (parent_of f n))) (Some 0)) out
ends_found (suc left) f (Some n) (suc k) (passing there ends) enough =
    ap (λ b. cond b (option_map (λ i. suc i) (walk_ends left f (parent_of f n))) (Some 0)) there
    ∙ ap (λ (o : Option ℕ). option_map (λ i. suc i) o) (ends_found left f (parent_of f n) k ends (omega arith))

free_first : (a b : Bool) → (a || b) ≡ false → a ≡ false
free_first true b h = absurd (true≢false h)
free_first false b h = refl

free_rest : (a b : Bool) → (a || b) ≡ false → b ≡ false
free_rest true b h = absurd (true≢false h)
free_rest false b h = h

no_halt : (o : Option Halt) → is_some o ≡ false → o ≡ None
no_halt None h = refl
no_halt (Some halt) h = absurd (true≢false h)

free_on : (k : ℕ) (f : Forest) (n : List ℕ) → length (chain_of f n) ≡ suc k → list_any (λ a. is_some (own_halt_of f a)) (chain_of f n) ≡ false → is_there f n ≡ true → (o : Option (List ℕ)) → parent_of f n ≡ o
    → ((p : List ℕ) → length (chain_of f p) ≡ k → list_any (λ a. is_some (own_halt_of f a)) (chain_of f p) ≡ false → Ends f (Some p) k) → Ends f (Some n) (suc k)
free_on k f n long free there None is further =
    let one : 1 ≡ suc k = sym (ap length (chain_alone f n there is)) ∙ long in
    let none : 0 ≡ k = omega (arith, one) in
    subst (λ (j : ℕ). Ends f (Some n) (suc j)) none (passing there (subst (λ (o : Option (List ℕ)). Ends f o 0) (sym is) past_top))
free_on k f n long free there (Some p) is further =
    let t = λ (a : List ℕ). is_some (own_halt_of f a) in
    let at : (t n || list_any t (up_to n (chain_of f p))) ≡ false = sym (ap (list_any t) (chain_parent f n p there is)) ∙ free in
    let back : comes_back f n ≡ false = no_halt_apart f n (no_halt (own_halt_of f n) (free_first (t n) (list_any t (up_to n (chain_of f p))) at)) in
    let apart : in_chain f p n ≡ false = subst (λ (o : Option (List ℕ)). option_map_or (λ q. in_chain f q n) o false ≡ false) is back in
    let whole : chain_of f n ≡ n ∷ chain_of f p = chain_parent f n p there is ∙ ap (λ xs. n ∷ xs) (up_to_all n (chain_of f p) apart) in
    let longer : suc (length (chain_of f p)) ≡ suc k = sym (ap length whole) ∙ long in
    passing there (subst (λ (o : Option (List ℕ)). Ends f o k) (sym is) (further p (omega (arith, longer)) (free_rest (t n) (list_any t (chain_of f p)) (sym (ap (list_any t) whole) ∙ free))))

-- where no member of a chain is halted by itself, the walk ends
free_ends : (k : ℕ) (f : Forest) (n : List ℕ) → length (chain_of f n) ≡ k → list_any (λ a. is_some (own_halt_of f a)) (chain_of f n) ≡ false → Ends f (Some n) k
free_ends zero f n long free = elim (cases_Bool (is_there f n)) [
  | inl there ↦ absurd (true≢false (sym (above_chain f n n (itself there)) ∙ ap (is_in n) (nothing (chain_of f n) long)))
  | inr out ↦ missing out
]
  where
    nothing : (xs : List (List ℕ)) → length xs ≡ 0 → xs ≡ []
    nothing [] h = refl
    nothing (x ∷ xs) h = absurd (omega (arith, h))
free_ends (suc k) f n long free = elim (cases_Bool (is_there f n)) [
  | inl there ↦ free_on k f n long free there (parent_of f n) refl (free_ends k f)
  | inr out ↦ let none : 0 ≡ suc k = sym (ap length (chain_missing f n out)) ∙ long in absurd (omega (arith, none))
]

all_free : (f : Forest) (n : List ℕ) → own_halt_of f n ≡ None → has_halted_ancestor f n ≡ false → list_any (λ a. is_some (own_halt_of f a)) (chain_of f n) ≡ false
all_free f n own above = elim (cases_Bool (is_there f n)) [
  | inl there ↦
      let at = begins f n there in
      ap (list_any (λ a. is_some (own_halt_of f a))) at.1 ∙ ap (λ (o : Option Halt). is_some o || list_any (λ a. is_some (own_halt_of f a)) at.0) own
      ∙ sym (ap (λ xs. list_any (λ a. is_some (own_halt_of f a)) (tail_of xs)) at.1) ∙ above
  | inr out ↦ ap (list_any (λ a. is_some (own_halt_of f a))) (chain_missing f n out)
]

-- the walk goes in a cycle, and n isn't halted by itself
pub ring_above : (f : Forest) (n : List ℕ) → is_some (walk_ends (length f + 1) f (Some n)) ≡ false → own_halt_of f n ≡ None → Some Ancestor ≡ halt_of f n
ring_above f n endless own =
    sym (ap (λ (o : Option Halt). or_else o (or_else (so (has_halted_ancestor f n) Ancestor) None)) own ∙ ap (λ t. or_else (so t Ancestor) None) above)
  where
    above : has_halted_ancestor f n ≡ true
    above = elim (cases_Bool (has_halted_ancestor f n)) [
      | inl has ↦ has
      | inr out ↦
          let ends = free_ends (length (chain_of f n)) f n refl (all_free f n own out) in
          absurd (true≢false (sym (ap is_some (ends_found (length f + 1) f (Some n) (length (chain_of f n)) ends (omega (arith, few f (chain_of f n) (chain_there f n))))) ∙ endless))
    ]

-- a parent that isn't below n
pub apart_from : (f : Forest) (n : List ℕ) (parent : Option (List ℕ)) → IfSome parent (λ p. in_chain f p n ≡ false) → option_map_or (λ p. in_chain f p n) parent false ≡ false
apart_from f n None h = refl
apart_from f n (Some p) h = h
