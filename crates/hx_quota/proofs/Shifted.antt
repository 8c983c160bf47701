-- Sums after own sums of the first of a chain are shifted, along that chain.
--     first_there, above_there         the first of a chain, and a parent with one, are there
--     between_entries, between_chains  the entries then, and that chains stay
--     may_shift_sums, sums_shifted     the sums may be adjusted, and are then those of the subtrees
use Rattle.std.specs.Prelude.{is_some, IfSome, slice_get, slice_index, sum_by}
use Rattle.std.proofs.Common.{◌≡◌, ℕ, ◌+◌, ◌-◌, ◌<◌, ◌≤◌, ◌^◌, Bool, true, false, cond, Option, Some, None, List, [], ◌∷◌, refl, sym, ap, subst, ◌∙◌, arith}
use Rattle.std.specs.Str.{bytes_eq}
use Rattle.std.proofs.lemmas.Bool.{or_left}
use Rattle.std.proofs.lemmas.Option.{same_Some}
use Rattle.hx_model.specs.Forest.{Forest, is_in, is_there, chain_of}
use Rattle.hx_model.specs.declared.resource.Resource.{Resource}
use Rattle.hx_model.proofs.Climbing.{is_same, same_itself}
use Rattle.hx_model.proofs.Walking.{chain_there}
use Rattle.hx_forest.specs.Named.{with_changed}
use Rattle.hx_forest.proofs.Named.{ascends, ascends-values}
use Rattle.hx_quota.specs.declared.entry.Delta.{Delta}
use Rattle.hx_quota.specs.Counters.{Entry}
use Rattle.hx_quota.specs.declared.places.Change.{Change}
use Rattle.hx_quota.specs.PlaceRows.{Place}
use Rattle.hx_quota.specs.Counters.{Entries, entry_of, tree_of, own_of, place_of, part_of, used_in, total_of, without_entry, with_shifted, IsChain, IsAbove, AllFit}
use Rattle.hx_quota.specs.Inside.{Places, place_at, entries_in, ordered, adjusted, MayAdjust, IsAdjusted, HasShifted, HasUsage, ends_up}
use Rattle.hx_quota.proofs.Adjusting.{may_by, was_there}
use Rattle.hx_quota.proofs.Cutting.{of_entry, sum-cut}
use Rattle.hx_quota.proofs.Deltas.{in_place, shift_in}
use Rattle.hx_quota.proofs.Ended.{ends_chain}
use Rattle.hx_quota.proofs.Fitting.{used_within}
use Rattle.hx_quota.proofs.Placed.{entry_in, entry_at, changed_places, adjusted_entries}
use Rattle.hx_quota.proofs.UsedSums.{in_tree, same_tree, used_shifted}

pub first_there : (es : Entries) (chain : List (List ℕ)) (n : List ℕ) → IsChain es chain → slice_get chain 0 ≡ Some n → is_there (tree_of es) n ≡ true
first_there es [] n is first = absurd is
first_there es (m ∷ names) n is first = subst (λ (k : List ℕ). is_there (tree_of es) k ≡ true) (same_Some m n first)
    ((chain_there (tree_of es) m).there m (ap (is_in m) is ∙ or_left (bytes_eq m m) (is_in m names) (same_itself m)))

-- a parent with a chain
pub above_there : (es : Entries) (o : Option (List ℕ)) (names : List (List ℕ)) → IsAbove es o names → IfSome o (λ p. is_some (entry_of es p) ≡ true)
above_there es None names is = tt
above_there es (Some p) [] is = absurd is
above_there es (Some p) (m ∷ names) is = sym (in_tree es p) ∙ subst (λ (k : List ℕ). is_there (tree_of es) k ≡ true) (sym is.0) (first_there es (m ∷ names) m is.1 refl)

-- what one entry adds to a sum is within it
part_within : (g : List ℕ × Entry → ℕ) (n : List ℕ) (entry : Entry) (es : Entries) → ascends es ≡ true → entry_of es n ≡ Some entry → g (n, entry) ≤ sum_by g es
part_within g n entry es up there =
    let whole = subst (λ (o : Option Entry). sum_by g (without_entry n es) + of_entry g n o ≡ sum_by g es) there (sum-cut g n es up) in
    omega (arith, whole)

-- the entries after own sums are shifted
pub between_entries : (old mid : Places) (n : List ℕ) (deltas : List Delta) (change : Change) → HasShifted old mid n deltas change → ordered mid ≡ with_shifted (n ∷ []) deltas (ordered old)
between_entries old mid n deltas change has =
    let place = has.0 in
    changed_places mid old n (shift_in deltas) place (record place { entry = shift_in deltas place.entry }) has.1 refl has.3

-- and the chains
pub between_chains : (old mid : Places) (n : List ℕ) (deltas : List Delta) (change : Change) → HasShifted old mid n deltas change → tree_of (ordered mid) ≡ tree_of (ordered old)
between_chains old mid n deltas change has = ap tree_of (between_entries old mid n deltas change has) ∙ same_tree n deltas (ordered old)

module _ (old mid : Places) (n : List ℕ) (deltas : List Delta) (change : Change) (has : HasShifted old mid n deltas change) (fits : AllFit (with_shifted (n ∷ []) deltas (ordered old))) (summed : HasUsage old (ordered old)) where
  abbrev es : Entries
  es = ordered old

  abbrev place : Place
  place = has.0

  abbrev put : Place
  put = record place { entry = shift_in deltas place.entry }

  there : entry_of es n ≡ Some place.entry
  there = entry_at old n ∙ ap entry_in has.1

  abbrev chain : List (List ℕ)
  chain = chain_of (tree_of es) n

  -- a place in between has the sums that it had
  sums_between : (q : List ℕ) (x : Place) → place_at mid q ≡ Some x → ends_up (tree_of es) q ≡ true → (r : Resource) → slice_index x.sums (place_of r) ≡ used_in es q r
  sums_between q x found top r = at (bytes_eq n q) refl (sym (has.3 q) ∙ found)
    where
      at : (b : Bool) → bytes_eq n q ≡ b → cond b (Some put) (place_at old q) ≡ Some x → slice_index x.sums (place_of r) ≡ used_in es q r
      at true same h = ap (λ (y : Place). slice_index y.sums (place_of r)) (sym (same_Some put x h)) ∙ summed n place has.1 (subst (λ (k : List ℕ). ends_up (tree_of es) k ≡ true) (sym (is_same n q same)) top) r ∙ ap (λ (k : List ℕ). used_in es k r) (is_same n q same)
      at false out h = summed q x h top r

  abbrev then : Entries
  then = with_changed n (shift_in deltas) es

  moves : (q : List ℕ) (r : Resource) → used_in then q r + cond (is_in q chain) (slice_index change.take (place_of r)) 0 ≡ used_in es q r + cond (is_in q chain) (slice_index change.give (place_of r)) 0
  moves q r = by (is_in q chain) (used_shifted es n deltas place.entry (ascends-values (entries_in old)) there q r)
    where
      by : (b : Bool) → used_in then q r + cond b (own_of r place.entry) 0 ≡ used_in es q r + cond b (own_of r (shift_in deltas place.entry)) 0
          → used_in then q r + cond b (slice_index change.take (place_of r)) 0 ≡ used_in es q r + cond b (slice_index change.give (place_of r)) 0
      by true whole = omega (arith, whole, (has.2 r).1)
      by false whole = whole

  own_within : (q : List ℕ) (r : Resource) → is_in q chain ≡ true → slice_index change.take (place_of r) ≤ used_in es q r
  own_within q r mem =
      let own : own_of r place.entry ≤ used_in es q r = subst (λ (k : ℕ). k ≤ used_in es q r) (ap (λ b. cond b (own_of r place.entry) 0) mem) (part_within (part_of (tree_of es) q r) n place.entry es (ascends-values (entries_in old)) there) in
      omega (arith, own, (has.2 r).0)

  within_then : (q : List ℕ) (r : Resource) → used_in then q r < 2 ^ 128
  within_then q r = less (used_in then q r) (total_of then r) (used_within (tree_of then) q r then) (fits r)
    where
      less : (a b : ℕ) → a ≤ b → b < 2 ^ 128 → a < 2 ^ 128
      less a b le lt = omega (arith, le, lt)

  step_of : (u v a b s : ℕ) → s ≡ u → v + a ≡ u + b → a ≤ u → s - a + b ≡ v
  step_of u v a b s is_u whole le = omega (arith, is_u, whole, le)

  adjusted_sum : (q : List ℕ) (x : Place) → place_at mid q ≡ Some x → ends_up (tree_of es) q ≡ true → is_in q chain ≡ true → (r : Resource) → adjusted change.take change.give x.sums (place_of r) ≡ used_in then q r
  adjusted_sum q x found top mem r =
      let whole : used_in then q r + slice_index change.take (place_of r) ≡ used_in es q r + slice_index change.give (place_of r) =
      (λ i. used_in then q r + cond (sym mem i) (slice_index change.take (place_of r)) 0) ∙ moves q r ∙ (λ i. used_in es q r + cond (mem i) (slice_index change.give (place_of r)) 0) in
      step_of (used_in es q r) (used_in then q r) (slice_index change.take (place_of r)) (slice_index change.give (place_of r)) (slice_index x.sums (place_of r)) (sums_between q x found top r) whole (own_within q r mem)

  changed : ordered mid ≡ then
  changed = changed_places mid old n (shift_in deltas) place put has.1 refl has.3

  -- where the walk up from it ends, the sums of its chain may be adjusted
  module _ (ends : ends_up (tree_of es) n ≡ true) where
    above_ends : (q : List ℕ) → is_in q chain ≡ true → ends_up (tree_of es) q ≡ true
    above_ends q mem = ends_chain (tree_of es) (Some n) ends q mem

    pub may_shift_sums : (q : List ℕ) (x : Place) → is_in q chain ≡ true → place_at mid q ≡ Some x → MayAdjust change.take change.give x.sums
    may_shift_sums q x mem found = may_by change.take change.give x.sums (λ r. (
      subst (λ (k : ℕ). slice_index change.take (place_of r) ≤ k) (sym (sums_between q x found (above_ends q mem) r)) (own_within q r mem),
      subst (λ (k : ℕ). k < 2 ^ 128) (sym (adjusted_sum q x found (above_ends q mem) mem r)) (within_then q r),
    ))

  ended_now : (q : List ℕ) → ends_up (tree_of (ordered mid)) q ≡ true → ends_up (tree_of es) q ≡ true
  ended_now q top = subst (λ (f : Forest). ends_up f q ≡ true) (between_chains old mid n deltas change has) top

  -- who isn't in the chain has what it had
  stays : (q : List ℕ) (r : Resource) → is_in q chain ≡ false → used_in then q r ≡ used_in es q r
  stays q r out = level (used_in then q r) (used_in es q r)
      ((λ i. used_in then q r + cond (sym out i) (slice_index change.take (place_of r)) 0) ∙ moves q r ∙ (λ i. used_in es q r + cond (out i) (slice_index change.give (place_of r)) 0))
    where
      level : (a b : ℕ) → a + 0 ≡ b + 0 → a ≡ b
      level a b h = omega (arith, h)

  pub sums_shifted : (new : Places) → ((q : List ℕ) → IsAdjusted change.take change.give (is_in q chain) (place_at mid q) (place_at new q)) → HasUsage new (ordered new)
  sums_shifted new is_new q x found ends r =
      at (is_in q chain) refl (was_there change.take change.give (is_in q chain) (place_at mid q) x (subst (λ (w : Option Place). IsAdjusted change.take change.give (is_in q chain) (place_at mid q) w) found (is_new q)))
      ∙ sym (ap (λ (xs : Entries). used_in xs q r) (same ∙ changed))
    where
      same : ordered new ≡ ordered mid
      same = adjusted_entries change.take change.give (λ q. is_in q chain) mid new is_new

      top : ends_up (tree_of es) q ≡ true
      top = ended_now q (subst (λ (xs : Entries). ends_up (tree_of xs) q ≡ true) same ends)

      at : (b : Bool) → is_in q chain ≡ b
          → (p : Place) × (place_at mid q ≡ Some p) × ((k : ℕ) → k < 15 → slice_index x.sums k ≡ cond (is_in q chain) (adjusted change.take change.give p.sums k) (slice_index p.sums k))
          → slice_index x.sums (place_of r) ≡ used_in then q r
      at true mem h = h.2 (place_of r) (in_place r) ∙ ap (λ b. cond b (adjusted change.take change.give h.0.sums (place_of r)) (slice_index h.0.sums (place_of r))) mem ∙ adjusted_sum q h.0 h.1 top mem r
      at false out h = h.2 (place_of r) (in_place r) ∙ ap (λ b. cond b (adjusted change.take change.give h.0.sums (place_of r)) (slice_index h.0.sums (place_of r))) out ∙ sums_between q h.0 h.1 top r ∙ sym (stays q r out)
