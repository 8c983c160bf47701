-- The sums of places are those of subtrees after a change.
--     no_other_child                                  whose parent one isn't
--     summed_added, summed_removed, summed_moved      after one comes, goes or moves
--     parent_over                                     the last parent counts
--     ended_by_shift, ended_by_move                   all walks up end then
--     all_ends                                        where all do, that from a name ends
use Rattle.std.specs.Prelude.{slice_index, is_some, option_and_then, IfSome}
use Rattle.std.proofs.Common.{◌≡◌, ℕ, Bool, true, false, cond, Option, Some, None, option_map, List, [], ◌∷◌, length, replicate, refl, sym, ap, subst, ◌∙◌, true≢false}
use Rattle.std.specs.Str.{bytes_eq}
use Rattle.std.proofs.lemmas.Option.{none-some, same_Some}
use Rattle.hx_model.specs.Forest.{Forest, is_there, parent_of, in_chain, subtree_of}
use Rattle.hx_model.specs.declared.node.Node.{Node}
use Rattle.hx_model.specs.declared.resource.Resource.{Resource}
use Rattle.hx_model.proofs.Climbing.{itself, through, above_chain, is_same}
use Rattle.hx_forest.proofs.Named.{ascends-values}
use Rattle.hx_quota.specs.declared.entry.Delta.{Delta}
use Rattle.hx_quota.specs.PlaceRows.{Place}
use Rattle.hx_quota.specs.Counters.{Entries, Entry, entry_of, node_for, tree_of, own_in, place_of, used_in, with_entry, new_entry, without_entry, with_parent, with_shifted}
use Rattle.hx_quota.specs.Inside.{Places, place_at, entries_in, ordered, ends_by, ends_up, AllEnd, HasUsage, SameSums, AreClosed, IsFree}
use Rattle.hx_quota.proofs.Ended.{ends_shrunk, ends_grown}
use Rattle.hx_quota.proofs.Ending.{in_places}
use Rattle.hx_quota.proofs.Fitting.{has_nothing}
use Rattle.hx_quota.proofs.Lasting.{ends_moved}
use Rattle.hx_quota.proofs.Placed.{entry_in, entry_at}
use Rattle.hx_quota.proofs.Trees.{node_of-tree}
use Rattle.hx_quota.proofs.UsedSums.{in_tree, alone_apart, among_names, same_tree, used_absent, added_new, used_added, removed_new, used_removed}

in_forest : (es : Entries) (o : Option (List ℕ)) → IfSome o (λ p. is_some (entry_of es p) ≡ true) → IfSome o (λ p. is_there (tree_of es) p ≡ true)
in_forest es None h = tt
in_forest es (Some p) h = in_tree es p ∙ h

-- a place is in the tree
there_by_place : (places : Places) (q : List ℕ) (p : Place) → place_at places q ≡ Some p → is_there (tree_of (ordered places)) q ≡ true
there_by_place places q p found = in_places places q ∙ ap is_some found

parent_in : (places : Places) (m : List ℕ) (p : Place) → place_at places m ≡ Some p → parent_of (tree_of (ordered places)) m ≡ p.entry.parent
parent_in places m p found = ap (λ (o : Option Node). option_and_then (λ node. node.parent) o) (node_of-tree (ordered places) m ∙ ap (λ (o : Option Entry). option_map node_for o) (entry_at places m ∙ ap entry_in found))

-- who has none below it is no other one's
pub no_other_child : (places : Places) (n : List ℕ) → subtree_of (tree_of (ordered places)) n ≡ n ∷ [] → is_some (entry_of (ordered places) n) ≡ true → (m : List ℕ) (p : Place) → bytes_eq n m ≡ false → place_at places m ≡ Some p → p.entry.parent ≡ Some n → ⊥
no_other_child places n alone there m p out found is =
    let es = ordered places in
    let f = tree_of es in
    let apart : in_chain f m n ≡ false = alone_apart es n m alone out (among_names es m (ap is_some (entry_at places m ∙ ap entry_in found))) in
    let up : in_chain f m n ≡ true = above_chain f m n (through (there_by_place places m p found) (parent_in places m p found ∙ is) (itself (in_tree es n ∙ there))) in
    true≢false (sym up ∙ apart)

pub summed_added : (old new : Places) (n : List ℕ) (place : Place) → entry_of (ordered old) n ≡ None → place.sums ≡ replicate 15 0 → ((q : List ℕ) → place_at new q ≡ cond (bytes_eq n q) (Some place) (place_at old q))
    → ordered new ≡ with_entry n new_entry (ordered old) → AreClosed (ordered old) → HasUsage old (ordered old) → HasUsage new (ordered new)
summed_added old new n place none empty is same closed was q p found ends r = at (bytes_eq n q) refl (sym (is q) ∙ found)
  where
    used : used_in (ordered new) q r ≡ used_in (ordered old) q r
    used = ap (λ (es : Entries). used_in es q r) same ∙ used_added (ordered old) n none closed q r

    top : is_there (tree_of (ordered old)) q ≡ true → ends_up (tree_of (ordered old)) q ≡ true
    top there = ends_shrunk (tree_of (with_entry n new_entry (ordered old))) (tree_of (ordered old)) n (added_new (ordered old) n none closed) q there (subst (λ (es : Entries). ends_up (tree_of es) q ≡ true) same ends)

    at : (b : Bool) → bytes_eq n q ≡ b → cond b (Some place) (place_at old q) ≡ Some p → slice_index p.sums (place_of r) ≡ used_in (ordered new) q r
    at true here h =
        ap (λ (x : Place). slice_index x.sums (place_of r)) (sym (same_Some place p h)) ∙ ap (λ (xs : List ℕ). slice_index xs (place_of r)) empty ∙ has_nothing r
        ∙ sym (used ∙ used_absent (ordered old) q r (subst (λ (k : List ℕ). entry_of (ordered old) k ≡ None) (is_same n q here) none))
    at false out h = was q p h (top (there_by_place old q p h)) r ∙ sym used

pub summed_removed : (old new : Places) (n : List ℕ) → is_some (entry_of (ordered old) n) ≡ true → ((r : Resource) → own_in (ordered old) n r ≡ 0) → subtree_of (tree_of (ordered old)) n ≡ n ∷ []
    → ((q : List ℕ) → place_at new q ≡ cond (bytes_eq n q) None (place_at old q)) → ordered new ≡ without_entry n (ordered old) → AreClosed (ordered old) → HasUsage old (ordered old) → HasUsage new (ordered new)
summed_removed old new n there nothing alone is same closed was q p found ends r = at (bytes_eq n q) (sym (is q) ∙ found)
  where
    used : used_in (ordered new) q r ≡ used_in (ordered old) q r
    used = ap (λ (es : Entries). used_in es q r) same ∙ used_removed (ordered old) n alone there closed (ascends-values (entries_in old)) nothing q r

    top : ends_up (tree_of (ordered old)) q ≡ true
    top = ends_grown (tree_of (ordered old)) (tree_of (without_entry n (ordered old))) n (removed_new (ordered old) n alone there closed) q
        (subst (λ (es : Entries). is_there (tree_of es) q ≡ true) same (there_by_place new q p found)) (subst (λ (es : Entries). ends_up (tree_of es) q ≡ true) same ends)

    at : (b : Bool) → cond b None (place_at old q) ≡ Some p → slice_index p.sums (place_of r) ≡ used_in (ordered new) q r
    at true h = absurd (none-some p h)
    at false h = was q p h top r ∙ sym used

-- after a move, where the sums were made those of the subtrees before the parent was set
pub summed_moved : (old mid new : Places) (n : List ℕ) (parent : Option (List ℕ)) → ordered mid ≡ ordered old → HasUsage mid (with_parent n parent (ordered old)) → ordered new ≡ with_parent n parent (ordered mid)
    → ((q : List ℕ) (p : Place) → place_at new q ≡ Some p → SameSums (place_at mid q) p) → HasUsage new (ordered new)
summed_moved old mid new n parent same usage moved sums q p found ends r =
    let kept = sums q p found in
    ap (λ (xs : List ℕ). slice_index xs (place_of r)) kept.2 ∙ usage q kept.0 kept.1 (subst (λ (es : Entries). ends_up (tree_of es) q ≡ true) whole ends) r ∙ sym (ap (λ (es : Entries). used_in es q r) whole)
  where
    whole : ordered new ≡ with_parent n parent (ordered old)
    whole = moved ∙ ap (with_parent n parent) same

-- the last parent counts
pub parent_over : (n : List ℕ) (last first : Option (List ℕ)) (es : Entries) → with_parent n last (with_parent n first es) ≡ with_parent n last es
parent_over n last first [] = refl
parent_over n last first (e ∷ es) = λ i. (e.0, either (bytes_eq n e.0) i) ∷ parent_over n last first es i
  where
    either : (b : Bool) → cond b (record (cond b (record (e.1) { parent = first }) e.1) { parent = last }) (cond b (record (e.1) { parent = first }) e.1) ≡ cond b (record (e.1) { parent = last }) e.1
    either true = refl
    either false = refl

-- all walks up end as before, where one gets other sums or a parent that isn't below it
pub ended_by_shift : (old new : Entries) (n : List ℕ) (deltas : List Delta) → new ≡ with_shifted (n ∷ []) deltas old → AllEnd (tree_of old) → AllEnd (tree_of new)
ended_by_shift old new n deltas is all = subst (λ (f : Forest). AllEnd f) (sym (ap tree_of is ∙ same_tree n deltas old)) all

pub ended_by_move : (old new : Entries) (n : List ℕ) (parent : Option (List ℕ)) → is_some (entry_of old n) ≡ true → IfSome parent (λ p. is_some (entry_of old p) ≡ true) → IsFree (tree_of old) n parent → new ≡ with_parent n parent old → AllEnd (tree_of old) → AllEnd (tree_of new)
ended_by_move old new n parent there given free is all = subst (λ (es : Entries). AllEnd (tree_of es)) (sym is) (ends_moved old n parent (in_tree old n ∙ there) (in_forest old parent given) free all)

-- where all walks up end, that from a name ends that may be none
pub all_ends : (es : Entries) (o : Option (List ℕ)) → IfSome o (λ n. is_some (entry_of es n) ≡ true) → AllEnd (tree_of es) → ends_by (length (tree_of es)) (tree_of es) o ≡ true
all_ends es None there all = refl
all_ends es (Some n) there all = all n (in_tree es n ∙ there)
