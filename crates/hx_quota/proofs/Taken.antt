-- Sums that go from the namespaces above one to those above its new parent.
--     from_ends, to_ends              the walks from all above it end
--     may_take, may_give              sums may be taken off, and then be added
--     sums_taken                      they are then those of the subtrees after the move
use Rattle.std.specs.Prelude.{slice_index}
use Rattle.std.proofs.Common.{◌≡◌, ℕ, ◌+◌, ◌-◌, ◌<◌, ◌≤◌, ◌^◌, Bool, true, false, cond, Option, Some, List, length, replicate, refl, sym, ap, subst, ◌∙◌, inl, arith}
use Rattle.hx_model.specs.Forest.{Forest, is_in, is_there, parent_of}
use Rattle.hx_model.specs.Moves.{chain_from}
use Rattle.hx_model.specs.declared.resource.Resource.{Resource}
use Rattle.hx_quota.specs.PlaceRows.{Place}
use Rattle.hx_quota.specs.Counters.{Entries, tree_of, place_of, used_in, total_of, with_parent, AllFit}
use Rattle.hx_quota.specs.Inside.{Places, place_at, ordered, IsFree, MayAdjust, IsAdjusted, HasUsage, ends_by, ends_up}
use Rattle.hx_quota.proofs.Adjusting.{may_by, was_there}
use Rattle.hx_quota.proofs.Deltas.{in_place}
use Rattle.hx_quota.proofs.Ended.{ends_parent, ends_chain, ended_before}
use Rattle.hx_quota.proofs.Ending.{free}
use Rattle.hx_quota.proofs.Fitting.{has_nothing, fits_moved, used_within}
use Rattle.hx_quota.proofs.Moved.{tree_moved, rest_of, used_before, used_after}

abbrev zeros : List ℕ
zeros = replicate 15 0

module _ (old : Places) (n : List ℕ) (parent : Option (List ℕ)) (there : is_there (tree_of (ordered old)) n ≡ true) (ended : ends_up (tree_of (ordered old)) n ≡ true)
    (ends : ends_by (length (tree_of (ordered old))) (tree_of (ordered old)) parent ≡ true) (free_new : IsFree (tree_of (ordered old)) n parent)
    (fits : AllFit (ordered old)) (summed : HasUsage old (ordered old)) (mine : Place) (has : place_at old n ≡ Some mine) where
  abbrev es : Entries
  es = ordered old

  abbrev then : Entries
  then = with_parent n parent es

  -- those above it now, and then
  abbrev from : List (List ℕ)
  from = chain_from (tree_of es) (parent_of (tree_of es) n)

  abbrev to : List (List ℕ)
  to = chain_from (tree_of es) parent

  free_old : IsFree (tree_of es) n (parent_of (tree_of es) n)
  free_old = free (tree_of es) n ended

  -- what others have
  abbrev rest : List ℕ → Resource → ℕ
  rest q r = rest_of es n there free_old q r

  own_sum : (r : Resource) → slice_index mine.sums (place_of r) ≡ used_in es n r
  own_sum r = summed n mine has ended r

  -- the walks from all above it end, and so do those from all above it then
  pub from_ends : (q : List ℕ) → is_in q from ≡ true → ends_up (tree_of es) q ≡ true
  from_ends q mem = ends_chain (tree_of es) (parent_of (tree_of es) n) (ends_parent (tree_of es) n ended) q mem

  pub to_ends : (q : List ℕ) → is_in q to ≡ true → ends_up (tree_of es) q ≡ true
  to_ends q mem = ends_chain (tree_of es) parent ends q mem

  before : (q : List ℕ) (r : Resource) → used_in es q r ≡ rest q r + cond (is_in q from) (slice_index mine.sums (place_of r)) 0
  before q r = used_before es n there free_old q r ∙ ap (λ k. rest q r + cond (is_in q from) k 0) (sym (own_sum r))

  after : (q : List ℕ) (r : Resource) → used_in then q r ≡ rest q r + cond (is_in q to) (slice_index mine.sums (place_of r)) 0
  after q r = used_after es n there free_old parent free_new q r ∙ ap (λ k. rest q r + cond (is_in q to) k 0) (sym (own_sum r))

  within_now : (q : List ℕ) (r : Resource) → used_in es q r < 2 ^ 128
  within_now q r = less (used_in es q r) (total_of es r) (used_within (tree_of es) q r es) (fits r)
    where
      less : (a b : ℕ) → a ≤ b → b < 2 ^ 128 → a < 2 ^ 128
      less a b le lt = omega (arith, le, lt)

  within_then : (q : List ℕ) (r : Resource) → used_in then q r < 2 ^ 128
  within_then q r = less (used_in then q r) (total_of then r) (used_within (tree_of then) q r then) (fits_moved es then n parent refl fits r)
    where
      less : (a b : ℕ) → a ≤ b → b < 2 ^ 128 → a < 2 ^ 128
      less a b le lt = omega (arith, le, lt)

  off_of : (u rest s x z : ℕ) (b : Bool) → x ≡ u → u ≡ rest + cond b s 0 → z ≡ 0 → cond b (x - s + z) x ≡ rest
  off_of u rest s x z true is whole none = omega (arith, is, whole, none)
  off_of u rest s x z false is whole none = omega (arith, is, whole)

  on_of : (v rest s x z : ℕ) (b : Bool) → x ≡ rest → v ≡ rest + cond b s 0 → z ≡ 0 → cond b (x - z + s) x ≡ v
  on_of v rest s x z true is whole none = omega (arith, is, whole, none)
  on_of v rest s x z false is whole none = omega (arith, is, whole)

  pub may_take : (q : List ℕ) (x : Place) → is_in q from ≡ true → place_at old q ≡ Some x → MayAdjust mine.sums zeros x.sums
  may_take q x mem found = may_by mine.sums zeros x.sums (λ r. fine (used_in es q r) (rest q r) (slice_index mine.sums (place_of r)) (slice_index x.sums (place_of r)) (slice_index zeros (place_of r))
      (summed q x found (from_ends q mem) r) (before q r ∙ ap (λ b. rest q r + cond b (slice_index mine.sums (place_of r)) 0) mem) (has_nothing r) (within_now q r))
    where
      fine : (u rest s x z : ℕ) → x ≡ u → u ≡ rest + s → z ≡ 0 → u < 2 ^ 128 → (s ≤ x) × (x - s + z < 2 ^ 128)
      fine u rest s x z is whole none lt = (omega (arith, is, whole), omega (arith, is, whole, none, lt))

  module _ (mid : Places) (is_mid : (q : List ℕ) → IsAdjusted mine.sums zeros (is_in q from) (place_at old q) (place_at mid q)) where
    -- in between, the sums are those of others
    sums_between : (q : List ℕ) (x : Place) → place_at mid q ≡ Some x → ends_up (tree_of es) q ≡ true → (r : Resource) → slice_index x.sums (place_of r) ≡ rest q r
    sums_between q x found top r =
        let was = was_there mine.sums zeros (is_in q from) (place_at old q) x (subst (λ (w : Option Place). IsAdjusted mine.sums zeros (is_in q from) (place_at old q) w) found (is_mid q)) in
        was.2 (place_of r) (in_place r)
        ∙ off_of (used_in es q r) (rest q r) (slice_index mine.sums (place_of r)) (slice_index was.0.sums (place_of r)) (slice_index zeros (place_of r)) (is_in q from) (summed q was.0 was.1 top r) (before q r) (has_nothing r)

    pub may_give : (q : List ℕ) (x : Place) → is_in q to ≡ true → place_at mid q ≡ Some x → MayAdjust zeros mine.sums x.sums
    may_give q x mem found = may_by zeros mine.sums x.sums (λ r. fine (used_in then q r) (rest q r) (slice_index mine.sums (place_of r)) (slice_index x.sums (place_of r)) (slice_index zeros (place_of r))
        (sums_between q x found (to_ends q mem) r) (after q r ∙ ap (λ b. rest q r + cond b (slice_index mine.sums (place_of r)) 0) mem) (has_nothing r) (within_then q r))
      where
        fine : (v rest s x z : ℕ) → x ≡ rest → v ≡ rest + s → z ≡ 0 → v < 2 ^ 128 → (z ≤ x) × (x - z + s < 2 ^ 128)
        fine v rest s x z is whole none lt = (omega (arith, none), omega (arith, is, whole, none, lt))

    pub sums_taken : (new : Places) → ((q : List ℕ) → IsAdjusted zeros mine.sums (is_in q to) (place_at mid q) (place_at new q)) → HasUsage new then
    sums_taken new is_new q x found top r =
        let top_before : ends_up (tree_of es) q ≡ true = ended_before (tree_of es) n parent there (inl ended) q (subst (λ (f : Forest). ends_up f q ≡ true) (tree_moved n parent es) top) in
        let was = was_there zeros mine.sums (is_in q to) (place_at mid q) x (subst (λ (w : Option Place). IsAdjusted zeros mine.sums (is_in q to) (place_at mid q) w) found (is_new q)) in
        was.2 (place_of r) (in_place r)
        ∙ on_of (used_in then q r) (rest q r) (slice_index mine.sums (place_of r)) (slice_index was.0.sums (place_of r)) (slice_index zeros (place_of r)) (is_in q to) (sums_between q was.0 was.1 top_before r) (after q r) (has_nothing r)
