-- What a namespace has with all below it, after a change.
--     used_absent                   nothing, where it isn't there
--     used_added, used_removed      the same, after one comes or goes that has nothing and is in no other chain
--     used_shifted                  after own sums of a member of its subtree are shifted
use Rattle.std.specs.Prelude.{is_some, option_and_then, sum_by}
use Rattle.std.proofs.Common.{◌≡◌, ℕ, ◌+◌, Bool, true, false, cond, ◌&&◌, ◌||◌, Option, Some, None, option_map, List, [], ◌∷◌, refl, sym, ap, ◌∙◌, subst, arith, true≢false}
use Rattle.std.specs.Option.{option_map_or}
use Rattle.std.specs.Str.{bytes_eq}
use Rattle.std.proofs.lemmas.Bool.{false_from_ne_true}
use Rattle.std.proofs.lemmas.List.Sums.{sum_by-cons}
use Rattle.std.proofs.lemmas.Option.{none-some}
use Rattle.hx_model.specs.declared.node.Node.{Node}
use Rattle.hx_model.specs.declared.resource.Resource.{Resource}
use Rattle.hx_model.specs.Forest.{Forest, is_in, names_of, node_of, is_there, parent_of, in_chain, subtree_of}
use Rattle.hx_model.proofs.Climbing.{Above, itself, through, above_chain, is_same, same_itself}
use Rattle.hx_model.proofs.Parents.{in_below, swap_same}
use Rattle.hx_model.proofs.Walking.{chain_there}
use Rattle.hx_forest.specs.Named.{with_changed}
use Rattle.hx_forest.proofs.Named.{ascends, lookup-with_value, lookup-without_value}
use Rattle.hx_quota.specs.declared.entry.Delta.{Delta}
use Rattle.hx_quota.specs.Counters.{Entry}
use Rattle.hx_quota.specs.Counters.{Entries, entry_of, node_for, tree_of, own_of, own_in, part_of, used_in, with_entry, new_entry, without_entry}
use Rattle.hx_quota.specs.Inside.{AreClosed}
use Rattle.hx_quota.proofs.Attaching.{IsNew, chain_new}
use Rattle.hx_quota.proofs.Cutting.{of_entry, sum-cut, sum-changed, sum-alike}
use Rattle.hx_quota.proofs.Deltas.{shift_in}
use Rattle.hx_quota.proofs.Fitting.{has_nothing}
use Rattle.hx_quota.proofs.Sums.{Pair, sum-with_entry}
use Rattle.hx_quota.proofs.Trees.{node_of-tree}

-- ---- look-ups

pub in_tree : (es : Entries) (n : List ℕ) → is_there (tree_of es) n ≡ is_some (entry_of es n)
in_tree es n = ap is_some (node_of-tree es n) ∙ either (entry_of es n)
  where
    either : (o : Option Entry) → is_some (option_map node_for o) ≡ is_some o
    either None = refl
    either (Some e) = refl

pub out_of_tree : (es : Entries) (n : List ℕ) → entry_of es n ≡ None → is_there (tree_of es) n ≡ false
out_of_tree es n none = in_tree es n ∙ ap is_some none

-- ---- nothing

no_sum : (es : Entries) → sum_by (λ (e : Pair). 0) es ≡ 0
no_sum [] = refl
no_sum (e ∷ es) = omega (arith, sum_by-cons (λ (e : Pair). 0) e es, no_sum es)

pub not_above : (f : Forest) (m n : List ℕ) → is_there f n ≡ false → in_chain f m n ≡ false
not_above f m n out = false_from_ne_true (in_chain f m n) (λ h. true≢false (sym ((chain_there f m).there n h) ∙ out))

-- a namespace that isn't there has nothing
pub used_absent : (es : Entries) (n : List ℕ) (r : Resource) → entry_of es n ≡ None → used_in es n r ≡ 0
used_absent es n r none =
    sum-alike (part_of (tree_of es) n r) (λ e. 0) es (λ e _. ap (λ b. cond b (own_of r e.1) 0) (not_above (tree_of es) e.0 n (out_of_tree es n none))) ∙ no_sum es

-- ---- one more

pub added_new : (es : Entries) (n : List ℕ) → entry_of es n ≡ None → AreClosed es → IsNew (tree_of (with_entry n new_entry es)) (tree_of es) n
added_new es n none closed = record {
  others = λ m out. node_of-tree (with_entry n new_entry es) m ∙ ap (option_map node_for) (lookup-with_value n new_entry es m ∙ ap (λ b. cond b (Some new_entry) (entry_of es m)) (swap_same n m out)) ∙ sym (node_of-tree es m);
  absent = out_of_tree es n none;
  closed = closed;
}

nothing_of : (b : Bool) (k : ℕ) → k ≡ 0 → cond b k 0 ≡ 0
nothing_of true k h = h
nothing_of false k h = refl

pub used_added : (es : Entries) (n : List ℕ) → entry_of es n ≡ None → AreClosed es → (a : List ℕ) (r : Resource) → used_in (with_entry n new_entry es) a r ≡ used_in es a r
used_added es n none closed a r =
    let f = tree_of (with_entry n new_entry es) in
    let more = sum-with_entry (part_of f a r) n new_entry es none in
    let own : part_of f a r (n, new_entry) ≡ 0 = nothing_of (in_chain f n a) (own_of r new_entry) (has_nothing r) in
    let same : sum_by (part_of f a r) es ≡ used_in es a r = sum-alike (part_of f a r) (part_of (tree_of es) a r) es (λ e there.
    ap (λ b. cond b (own_of r e.1) 0) (chain_new f (tree_of es) n (added_new es n none closed) e.0 a (in_tree es e.0 ∙ there))) in
    omega (arith, more, own, same)

pub closed_added : (es : Entries) (n : List ℕ) → entry_of es n ≡ None → AreClosed es → AreClosed (with_entry n new_entry es)
closed_added es n none closed m q is = at (bytes_eq n m) refl
  where
    f : Forest
    f = tree_of (with_entry n new_entry es)

    node : (k : List ℕ) → node_of f k ≡ option_map node_for (cond (bytes_eq k n) (Some new_entry) (entry_of es k))
    node k = node_of-tree (with_entry n new_entry es) k ∙ ap (option_map node_for) (lookup-with_value n new_entry es k)

    still : (k : List ℕ) → is_there (tree_of es) k ≡ true → is_there f k ≡ true
    still k h = ap is_some (node k) ∙ either (bytes_eq k n) (entry_of es k) (sym (in_tree es k) ∙ h)
      where
        either : (b : Bool) (o : Option Entry) → is_some o ≡ true → is_some (option_map node_for (cond b (Some new_entry) o)) ≡ true
        either true o e = refl
        either false (Some x) e = refl
        either false None e = e

    at : (b : Bool) → bytes_eq n m ≡ b → is_there f q ≡ true
    at true same =
        let mine : bytes_eq m n ≡ true = subst (λ (k : List ℕ). bytes_eq k n ≡ true) (is_same n m same) (same_itself n) in
        absurd (none-some q (sym (ap (λ (o : Option Node). option_and_then (λ node. node.parent) o) (node m ∙ ap (λ b. option_map node_for (cond b (Some new_entry) (entry_of es m))) mine)) ∙ is))
    at false out =
        still q (closed m q (sym (ap (λ (o : Option Node). option_and_then (λ node. node.parent) o) ((added_new es n none closed).others m out)) ∙ is))

-- ---- one less

-- no other one has it in its chain
pub alone_apart : (es : Entries) (n m : List ℕ) → subtree_of (tree_of es) n ≡ n ∷ [] → bytes_eq n m ≡ false → is_in m (names_of (tree_of es)) ≡ true → in_chain (tree_of es) m n ≡ false
alone_apart es n m alone out among = false_from_ne_true (in_chain (tree_of es) m n) (λ h.
    let has : is_in m (subtree_of (tree_of es) n) ≡ true = in_below (tree_of es) m n ∙ (λ i. among i && h i) in
    true≢false (sym (ap (is_in m) (sym alone) ∙ has) ∙ ap (λ b. b || false) (swap_same n m out)))

pub among_names : (es : Entries) (m : List ℕ) → is_some (entry_of es m) ≡ true → is_in m (names_of (tree_of es)) ≡ true
among_names [] m there = absurd (true≢false (sym there))
among_names (e ∷ es) m there = elim (bytes_eq m e.0) as (λ b. is_some (cond b (Some e.1) (entry_of es m)) ≡ true → (b || is_in m (names_of (tree_of es))) ≡ true) [
  | true ↦ λ h. refl
  | false ↦ λ h. among_names es m h
] there

module _ (es : Entries) (n : List ℕ) (alone : subtree_of (tree_of es) n ≡ n ∷ []) (there : is_some (entry_of es n) ≡ true) (closed : AreClosed es) where
  abbrev less : Entries
  less = without_entry n es

  node_less : (k : List ℕ) → node_of (tree_of less) k ≡ option_map node_for (cond (bytes_eq k n) None (entry_of es k))
  node_less k = node_of-tree less k ∙ ap (option_map node_for) (lookup-without_value n es k)

  others_less : (m : List ℕ) → bytes_eq n m ≡ false → node_of (tree_of es) m ≡ node_of (tree_of less) m
  others_less m out = sym (node_less m ∙ ap (λ b. option_map node_for (cond b None (entry_of es m))) (swap_same n m out) ∙ sym (node_of-tree es m))

  gone : node_of (tree_of less) n ≡ None
  gone = node_less n ∙ ap (λ b. option_map node_for (cond b None (entry_of es n))) (same_itself n)

  pub closed_removed : AreClosed less
  closed_removed m q is = at (bytes_eq n m) refl
    where
      at : (b : Bool) → bytes_eq n m ≡ b → is_there (tree_of less) q ≡ true
      at true same = absurd (none-some q (sym (ap (λ (o : Option Node). option_and_then (λ node. node.parent) o) (subst (λ (k : List ℕ). node_of (tree_of less) k ≡ None) (is_same n m same) gone)) ∙ is))
      at false out =
          let was : parent_of (tree_of es) m ≡ Some q = ap (λ (o : Option Node). option_and_then (λ node. node.parent) o) (others_less m out) ∙ is in
          let up : is_there (tree_of es) q ≡ true = closed m q was in
          let mine : is_there (tree_of es) m ≡ true = has_parent (node_of (tree_of es) m) was in
          let apart : in_chain (tree_of es) m n ≡ false = alone_apart es n m alone out (among_names es m (sym (in_tree es m) ∙ mine)) in
          let other : bytes_eq n q ≡ false = false_from_ne_true (bytes_eq n q) (λ same. true≢false (sym (above_chain (tree_of es) m n (subst (λ (k : List ℕ). Above (tree_of es) m k) (sym (is_same n q same)) (through mine was (itself up)))) ∙ apart)) in
          sym (ap is_some (others_less q other)) ∙ up
        where
          has_parent : (o : Option Node) → option_and_then (λ node. node.parent) o ≡ Some q → is_some o ≡ true
          has_parent None h = absurd (none-some q h)
          has_parent (Some x) h = refl

  pub removed_new : IsNew (tree_of es) (tree_of less) n
  removed_new = record { others = others_less; absent = ap is_some gone; closed = closed_removed }

  pub used_removed : ascends es ≡ true → ((r : Resource) → own_in es n r ≡ 0) → (a : List ℕ) (r : Resource) → used_in less a r ≡ used_in es a r
  used_removed up nothing a r =
      let f = tree_of es in
      let whole = sum-cut (part_of f a r) n es up in
      let own : of_entry (part_of f a r) n (entry_of es n) ≡ 0 = zero_of (entry_of es n) (nothing r) in
      let same : sum_by (part_of f a r) less ≡ used_in less a r = sum-alike (part_of f a r) (part_of (tree_of less) a r) less (λ e has.
      ap (λ b. cond b (own_of r e.1) 0) (chain_new f (tree_of less) n removed_new e.0 a (in_tree less e.0 ∙ has))) in
      omega (arith, whole, own, same)
    where
      zero_of : (o : Option Entry) → option_map_or (own_of r) o 0 ≡ 0 → of_entry (part_of (tree_of es) a r) n o ≡ 0
      zero_of None h = refl
      zero_of (Some e) h = nothing_of (in_chain (tree_of es) n a) (own_of r e) h

-- ---- one with other sums

pub same_tree : (n : List ℕ) (deltas : List Delta) (es : Entries) → tree_of (with_changed n (shift_in deltas) es) ≡ tree_of es
same_tree n deltas [] = refl
same_tree n deltas (e ∷ es) = λ i. (e.0, either (bytes_eq n e.0) i) ∷ same_tree n deltas es i
  where
    either : (b : Bool) → node_for (cond b (shift_in deltas e.1) e.1) ≡ node_for e.1
    either true = refl
    either false = refl

pub used_shifted : (es : Entries) (n : List ℕ) (deltas : List Delta) (entry : Entry) → ascends es ≡ true → entry_of es n ≡ Some entry → (a : List ℕ) (r : Resource)
    → used_in (with_changed n (shift_in deltas) es) a r + cond (in_chain (tree_of es) n a) (own_of r entry) 0 ≡ used_in es a r + cond (in_chain (tree_of es) n a) (own_of r (shift_in deltas entry)) 0
used_shifted es n deltas entry up there a r =
    let new = with_changed n (shift_in deltas) es in
    let same : used_in new a r ≡ sum_by (part_of (tree_of es) a r) new = ap (λ f. sum_by (part_of f a r) new) (same_tree n deltas es) in
    let rest = sum-changed (part_of (tree_of es) a r) n (shift_in deltas) entry es up there in
    omega (arith, same, rest)
