-- Walks up the parents still end after a change.
--     ends_added, ends_removed, ends_moved      where a namespace comes, goes, or gets another parent
use Rattle.std.specs.Prelude.{is_some, option_and_then, IfSome}
use Rattle.std.proofs.Common.{◌≡◌, ℕ, ◌⊎◌, Bool, true, false, cond, Option, Some, None, option_map, List, [], ◌∷◌, refl, sym, ap, ◌∙◌, subst, inl, inr, true≢false}
use Rattle.std.specs.Option.{option_map_or}
use Rattle.std.specs.Str.{bytes_eq}
use Rattle.std.proofs.lemmas.Bool.{false_from_ne_true}
use Rattle.std.proofs.lemmas.Option.{none-some}
use Rattle.hx_model.specs.declared.node.Node.{Node}
use Rattle.hx_model.specs.Forest.{Forest, is_in, node_of, is_there, parent_of, in_chain, comes_back, subtree_of, with_parent as forest_with_parent}
use Rattle.hx_model.proofs.Climbing.{Above, itself, through, chain_above, above_chain, chain_trans, is_same, same_itself}
use Rattle.hx_model.proofs.Moving.{moved_there, moved_parent, other_parent, moved_chain_same}
use Rattle.hx_forest.proofs.Named.{lookup-with_value}
use Rattle.hx_quota.specs.Counters.{Entries, entry_of, node_for, tree_of, with_entry, new_entry, without_entry, with_parent}
use Rattle.hx_quota.specs.Inside.{AllEnd, IsFree}
use Rattle.hx_quota.proofs.Attaching.{chain_new}
use Rattle.hx_quota.proofs.Ending.{closed_all}
use Rattle.hx_quota.proofs.Moved.{tree_moved, closed_moved}
use Rattle.hx_quota.proofs.Rounds.{none_comes_back, end_without}
use Rattle.hx_quota.proofs.Trees.{node_of-tree}
use Rattle.hx_quota.proofs.UsedSums.{added_new, closed_added, removed_new, closed_removed}

-- ---- who comes back to itself

-- none does that isn't there
back_out : (f : Forest) (n : List ℕ) → is_there f n ≡ false → comes_back f n ≡ false
back_out f n out = at (node_of f n) out
  where
    at : (o : Option Node) → is_some o ≡ false → option_map_or (λ p. in_chain f p n) (option_and_then (λ node. node.parent) o) false ≡ false
    at None h = refl
    at (Some node) h = absurd (true≢false h)

none_back : (f : Forest) → AllEnd f → (n : List ℕ) → comes_back f n ≡ false
none_back f all n = at (is_there f n) refl
  where
    at : (b : Bool) → is_there f n ≡ b → comes_back f n ≡ false
    at true there = none_comes_back f all n there
    at false out = back_out f n out

-- under the same parent, whose chain has no more
back_alike : (f g : Forest) (m : List ℕ) → parent_of g m ≡ parent_of f m → ((p : List ℕ) → parent_of f m ≡ Some p → in_chain g p m ≡ true → in_chain f p m ≡ true) → comes_back f m ≡ false → comes_back g m ≡ false
back_alike f g m same down none = false_from_ne_true (comes_back g m) (λ h. at (parent_of f m) refl (subst (λ (o : Option (List ℕ)). option_map_or (λ p. in_chain g p m) o false ≡ true) same h))
  where
    at : (o : Option (List ℕ)) → parent_of f m ≡ o → option_map_or (λ p. in_chain g p m) o false ≡ true → ⊥
    at None is h = true≢false (sym h)
    at (Some p) is h = true≢false (sym (down p is h) ∙ sym (ap (λ (o : Option (List ℕ)). option_map_or (λ p. in_chain f p m) o false) is) ∙ none)

-- ---- one comes or goes

pub ends_added : (es : Entries) (n : List ℕ) → entry_of es n ≡ None → AllEnd (tree_of es) → AllEnd (tree_of (with_entry n new_entry es))
ends_added es n none all = end_without g (λ m. at m (bytes_eq n m) refl) (closed_added es n none closed)
  where
    g : Forest
    g = tree_of (with_entry n new_entry es)

    closed : (m q : List ℕ) → parent_of (tree_of es) m ≡ Some q → is_there (tree_of es) q ≡ true
    closed = closed_all es all

    at : (m : List ℕ) (b : Bool) → bytes_eq n m ≡ b → comes_back g m ≡ false
    at m true same =
        let mine : bytes_eq m n ≡ true = subst (λ (k : List ℕ). bytes_eq k n ≡ true) (is_same n m same) (same_itself n) in
        ap (λ (o : Option Node). option_map_or (λ p. in_chain g p m) (option_and_then (λ node. node.parent) o) false)
        (node_of-tree (with_entry n new_entry es) m ∙ ap (option_map node_for) (lookup-with_value n new_entry es m ∙ ap (λ b. cond b (Some new_entry) (entry_of es m)) mine))
    at m false out =
        let same : parent_of g m ≡ parent_of (tree_of es) m = ap (λ (o : Option Node). option_and_then (λ node. node.parent) o) ((added_new es n none closed).others m out) in
        back_alike (tree_of es) g m same (λ p is h. sym (chain_new g (tree_of es) n (added_new es n none closed) p m (closed m p is)) ∙ h) (none_back (tree_of es) all m)

pub ends_removed : (es : Entries) (n : List ℕ) → subtree_of (tree_of es) n ≡ n ∷ [] → is_some (entry_of es n) ≡ true → AllEnd (tree_of es) → AllEnd (tree_of (without_entry n es))
ends_removed es n alone there all = end_without g (λ m. at m (bytes_eq n m) refl) closed_less
  where
    g : Forest
    g = tree_of (without_entry n es)

    closed : (m q : List ℕ) → parent_of (tree_of es) m ≡ Some q → is_there (tree_of es) q ≡ true
    closed = closed_all es all

    closed_less : (m q : List ℕ) → parent_of g m ≡ Some q → is_there g q ≡ true
    closed_less = closed_removed es n alone there closed

    at : (m : List ℕ) (b : Bool) → bytes_eq n m ≡ b → comes_back g m ≡ false
    at m true same = back_out g m (subst (λ (k : List ℕ). is_there g k ≡ false) (is_same n m same) (removed_new es n alone there closed).absent)
    at m false out =
        let same : parent_of g m ≡ parent_of (tree_of es) m = ap (λ (o : Option Node). option_and_then (λ node. node.parent) o) (sym ((removed_new es n alone there closed).others m out)) in
        back_alike (tree_of es) g m same (λ p is h. chain_new (tree_of es) g n (removed_new es n alone there closed) p m (closed_less m p (same ∙ is)) ∙ h) (none_back (tree_of es) all m)

-- ---- one gets another parent

module _ (f : Forest) (n : List ℕ) (parent : Option (List ℕ)) (there : is_there f n ≡ true) (free : IsFree f n parent) (all : AllEnd f) where
  abbrev then : Forest
  then = forest_with_parent n parent f

  -- in the chain of the new parent
  abbrev IsOver : List ℕ → Type 0
  IsOver a = option_map_or (λ p. in_chain f p a) parent false ≡ true

  -- who is above then was so, or is above the new parent
  up_before : (x a : List ℕ) → Above then x a → (in_chain f x a ≡ true) ⊎ IsOver a
  up_before x a (itself here) = inl (above_chain f x x (itself (sym (moved_there f n parent x) ∙ here)))
  up_before x a (through {p = q} here on rest) = at (bytes_eq n x) refl (up_before q a rest)
    where
      at : (b : Bool) → bytes_eq n x ≡ b → (in_chain f q a ≡ true) ⊎ IsOver a → (in_chain f x a ≡ true) ⊎ IsOver a
      at true same (inl low) =
          let is : parent ≡ Some q = sym (moved_parent f n parent there) ∙ subst (λ (k : List ℕ). parent_of then k ≡ Some q) (sym (is_same n x same)) on in
          inr (ap (λ (o : Option (List ℕ)). option_map_or (λ p. in_chain f p a) o false) is ∙ low)
      at true same (inr over) = inr over
      at false out (inl low) = inl (above_chain f x a (through (sym (moved_there f n parent x) ∙ here) (sym (other_parent f n parent x out) ∙ on) (chain_above f q a low)))
      at false out (inr over) = inr over

  -- none comes back through it
  none_over : (m p : List ℕ) → parent_of f m ≡ Some p → in_chain f p n ≡ true → IsOver m → ⊥
  none_over m p on has = at parent free
    where
      there_by : (o : Option Node) → option_and_then (λ node. node.parent) o ≡ Some p → is_some o ≡ true
      there_by None h = absurd (none-some p h)
      there_by (Some node) h = refl

      at : (o : Option (List ℕ)) → IsFree f n o → option_map_or (λ q. in_chain f q m) o false ≡ true → ⊥
      at None free over = true≢false (sym over)
      at (Some q) free over = true≢false (sym (chain_trans f q m n over (above_chain f m n (through (there_by (node_of f m) on) on (chain_above f p n has)))) ∙ free)

  no_rounds : (m : List ℕ) → comes_back then m ≡ false
  no_rounds m = at (bytes_eq n m) refl
    where
      mine : (o : Option (List ℕ)) → IsFree f n o → option_map_or (λ p. in_chain then p n) o false ≡ false
      mine None free = refl
      mine (Some p) free = ap (is_in n) (moved_chain_same f n parent p free) ∙ free

      down : (p : List ℕ) → parent_of f m ≡ Some p → in_chain then p m ≡ true → in_chain f p m ≡ true
      down p on up = by (in_chain f p n) refl
        where
          by : (b : Bool) → in_chain f p n ≡ b → in_chain f p m ≡ true
          by true has = elim (up_before p m (chain_above then p m up)) [
            | inl low ↦ low
            | inr over ↦ absurd (none_over m p on has over)
          ]
          by false out = sym (ap (is_in m) (moved_chain_same f n parent p out)) ∙ up

      at : (b : Bool) → bytes_eq n m ≡ b → comes_back then m ≡ false
      at true same = subst (λ (k : List ℕ). comes_back then k ≡ false) (is_same n m same) (ap (λ (o : Option (List ℕ)). option_map_or (λ p. in_chain then p n) o false) (moved_parent f n parent there) ∙ mine parent free)
      at false out = back_alike f then m (other_parent f n parent m out) down (none_back f all m)

pub ends_moved : (es : Entries) (n : List ℕ) (parent : Option (List ℕ)) → is_there (tree_of es) n ≡ true → IfSome parent (λ p. is_there (tree_of es) p ≡ true) → IsFree (tree_of es) n parent → AllEnd (tree_of es) → AllEnd (tree_of (with_parent n parent es))
ends_moved es n parent there given free all =
    let is = tree_moved n parent es in
    let closed : (m q : List ℕ) → parent_of (forest_with_parent n parent (tree_of es)) m ≡ Some q → is_there (forest_with_parent n parent (tree_of es)) q ≡ true =
    subst (λ (t : Forest). (m q : List ℕ) → parent_of t m ≡ Some q → is_there t q ≡ true) is (closed_moved es n parent there given (closed_all es all)) in
    subst (λ (t : Forest). AllEnd t) (sym is) (end_without (forest_with_parent n parent (tree_of es)) (no_rounds (tree_of es) n parent there free all) closed)
