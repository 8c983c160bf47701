-- The forest of entries, and steps up in it.
--     node_of-tree, tree_length         the node of a name, and how many there are
--     has_ended, goes_on, has_come      a step of a walk: at the end, on, at the name
use Rattle.std.proofs.Common.{◌≡◌, ℕ, zero, suc, ◌-◌, ◌<◌, true, false, cond, ◌&&◌, ◌||◌, Option, Some, None, option_map, List, [], ◌∷◌, length, refl, sym, ap, ◌∙◌, arith, true≢false}
use Rattle.std.specs.Prelude.{option_and_then, IfSome}
use Rattle.std.specs.Option.{option_map_or}
use Rattle.std.specs.Str.{bytes_eq}
use Rattle.hx_model.specs.Forest.{Forest, node_of, is_there, parent_of}
use Rattle.hx_model.specs.Walks.{walk_has}
use Rattle.hx_quota.specs.Counters.{Entries, entry_of, node_for, tree_of}

pub node_of-tree : (es : Entries) (n : List ℕ) → node_of (tree_of es) n ≡ option_map node_for (entry_of es n)
node_of-tree [] n = refl
node_of-tree (e ∷ es) n = elim (bytes_eq n e.0) as (λ b. cond b (Some (node_for e.1)) (node_of (tree_of es) n) ≡ option_map node_for (cond b (Some e.1) (entry_of es n))) [
  | true ↦ refl
  | false ↦ node_of-tree es n
]

pub tree_length : (es : Entries) → length (tree_of es) ≡ length es
tree_length [] = refl
tree_length (e ∷ es) = ap (λ k. suc k) (tree_length es)

nothing_left : {A : Type 0} → 0 < 0 → A
nothing_left pos = let no : ⊥ = omega arith in absurd no

one_less : (left : ℕ) → left ≡ suc left - 1
one_less left = omega arith

-- it has ended
pub has_ended : (left : ℕ) (f : Forest) (next : Option (List ℕ)) (a : List ℕ) → next ≡ None → walk_has left f next a ≡ false
has_ended zero f next a is = refl
has_ended (suc left) f next a is = ap (λ o. walk_has (suc left) f o a) is

-- it goes on from a name that isn't the one
pub goes_on : (left : ℕ) (f : Forest) (next : Option (List ℕ)) (a : List ℕ) → 0 < left → option_map_or (λ n. bytes_eq n a) next false ≡ false → IfSome next (λ n. is_there f n ≡ true)
    → walk_has left f next a ≡ walk_has (left - 1) f (option_and_then (parent_of f) next) a
goes_on zero f next a pos other there = nothing_left pos
goes_on (suc left) f None a pos other there = sym (has_ended (suc left - 1) f None a refl)
goes_on (suc left) f (Some n) a pos other there = (λ i. there i && (other i || walk_has left f (parent_of f n) a)) ∙ ap (λ k. walk_has k f (parent_of f n) a) (one_less left)

-- it has come to the name
pub has_come : (left : ℕ) (f : Forest) (next : Option (List ℕ)) (a : List ℕ) → 0 < left → option_map_or (λ n. bytes_eq n a) next false ≡ true → IfSome next (λ n. is_there f n ≡ true) → walk_has left f next a ≡ true
has_come zero f next a pos same there = nothing_left pos
has_come (suc left) f None a pos same there = absurd (true≢false (sym same))
has_come (suc left) f (Some n) a pos same there = λ i. there i && (same i || walk_has left f (parent_of f n) a)
