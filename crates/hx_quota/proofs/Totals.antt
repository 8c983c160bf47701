-- What all namespaces have together, after a change.
--     totals_added, totals_removed                    where one comes or goes
--     old_totals, fit_totals, shifted_totals          where own sums of one are shifted
--     totals_fit                                      all fits then, where the totals do
use Rattle.std.proofs.Common.{◌≡◌, ℕ, ◌+◌, ◌≤◌, ◌<◌, ◌^◌, Option, Some, None, List, [], ◌∷◌, length, refl, sym, ap, subst, ◌∙◌, arith, true≢false}
use Rattle.std.specs.Prelude.{is_some, slice_index}
use Rattle.std.specs.Option.{option_map_or}
use Rattle.hx_model.specs.declared.resource.Resource.{Resource}
use Rattle.hx_quota.specs.declared.entry.Delta.{Delta}
use Rattle.hx_quota.specs.Counters.{Entry}
use Rattle.hx_quota.specs.Counters.{Entries, entry_of, own_in, own_of, place_of, total_of, shifted, with_entry, new_entry, without_entry, with_shifted, HaveOld, AllFit}
use Rattle.hx_quota.specs.Counting.{AreRegular}
use Rattle.hx_quota.specs.Inside.{OwnFit}
use Rattle.hx_quota.specs.SubtreeUsage.{HasTotals, MayShift}
use Rattle.hx_quota.proofs.CountingDeltas.{shifted_at, total_shifted}
use Rattle.hx_quota.proofs.CountingRegular.{in_order}
use Rattle.hx_quota.proofs.Cutting.{sum-cut}
use Rattle.hx_quota.proofs.Fitting.{has_nothing}
use Rattle.hx_quota.proofs.Sums.{sum-with_entry, part-le}

plain : (k : ℕ) → k + 0 ≡ k
plain k = omega arith

pub totals_added : (totals : List ℕ) (es new : Entries) (n : List ℕ) → entry_of es n ≡ None → new ≡ with_entry n new_entry es → HasTotals totals es → HasTotals totals new
totals_added totals es new n none is whole r =
    let more : total_of (with_entry n new_entry es) r ≡ total_of es r = sum-with_entry (λ e. own_of r e.1) n new_entry es none ∙ ap (λ k. total_of es r + k) (has_nothing r) ∙ plain (total_of es r) in
    whole r ∙ sym (ap (λ (xs : Entries). total_of xs r) is ∙ more)

pub totals_removed : (totals : List ℕ) (es new : Entries) (n : List ℕ) → AreRegular es → ((r : Resource) → own_in es n r ≡ 0) → new ≡ without_entry n es → HasTotals totals es → HasTotals totals new
totals_removed totals es new n regular nothing is whole r =
    whole r ∙ sym (ap (λ (xs : Entries). total_of xs r) is ∙ level (total_of (without_entry n es) r) (total_of es r) (own_in es n r) (sum-cut (λ e. own_of r e.1) n es (in_order es regular)) (nothing r))
  where
    level : (a b c : ℕ) → a + c ≡ b → c ≡ 0 → a ≡ b
    level a b c e f = omega (arith, e, f)

-- ---- sums that fit

-- each does
abbrev pub EachFits : List ℕ → Type 0
EachFits xs = (k : ℕ) → slice_index xs k < 2 ^ 128

-- ---- own sums that are shifted

old_within : (own totals : List ℕ) (deltas : List Delta) → HaveOld deltas own → ((r : Resource) → slice_index own (place_of r) ≤ slice_index totals (place_of r)) → HaveOld deltas totals
old_within own totals [] have within = tt
old_within own totals (d ∷ deltas) have within = (both d.old (slice_index own (place_of d.resource)) (slice_index totals (place_of d.resource)) have.0 (within d.resource), old_within own totals deltas have.1 within)
  where
    both : (a b c : ℕ) → a ≤ b → b ≤ c → a ≤ c
    both a b c e f = omega (arith, e, f)

module _ (totals : List ℕ) (es : Entries) (regular : AreRegular es) (long : length totals ≡ 15) (whole : HasTotals totals es) where
  -- the namespace is there
  entry_there : (n : List ℕ) (deltas : List Delta) → MayShift es n deltas → (entry : Entry) × (entry_of es n ≡ Some entry)
  entry_there n deltas may = at (entry_of es n) refl
    where
      at : (o : Option Entry) → entry_of es n ≡ o → (entry : Entry) × (entry_of es n ≡ Some entry)
      at None is = absurd (true≢false (sym may.0 ∙ ap is_some is))
      at (Some entry) is = (entry, is)

  own_old : (n : List ℕ) (deltas : List Delta) (may : MayShift es n deltas) (entry : Entry) → entry_of es n ≡ Some entry → HaveOld deltas entry.own
  own_old n deltas may entry is = subst (λ (xs : List ℕ). HaveOld deltas xs) (ap (λ (o : Option Entry). option_map_or (λ e. e.own) o []) is) may.2

  pub old_totals : (n : List ℕ) (deltas : List Delta) → MayShift es n deltas → HaveOld deltas totals
  old_totals n deltas may =
      let found = entry_there n deltas may in
      old_within found.0.own totals deltas (own_old n deltas may found.0 found.1) (λ r. subst (λ (k : ℕ). own_of r found.0 ≤ k) (sym (whole r)) (part-le (own_of r) n found.0 es found.1))

  pub shifted_totals : (n : List ℕ) (deltas : List Delta) → MayShift es n deltas → HasTotals (shifted deltas totals) (with_shifted (n ∷ []) deltas es)
  shifted_totals n deltas may = λ r.
      let found = entry_there n deltas may in
      shifted_at deltas totals r long may.1 ∙ (rw (whole r) (sym (total_shifted es n [] found.0 (in_order es regular) found.1 (regular.long n found.0 found.1) deltas may.1 (own_old n deltas may found.0 found.1) r)))

  pub fit_totals : (n : List ℕ) (deltas : List Delta) → MayShift es n deltas → AllFit (with_shifted (n ∷ []) deltas es) → OwnFit (shifted deltas totals)
  fit_totals n deltas may fits r = subst (λ (k : ℕ). k < 2 ^ 128) (sym (shifted_totals n deltas may r)) (fits r)

  pub totals_fit : (n : List ℕ) (deltas : List Delta) → OwnFit (shifted deltas totals) → MayShift es n deltas → AllFit (with_shifted (n ∷ []) deltas es)
  totals_fit n deltas fits may r = subst (λ (k : ℕ). k < 2 ^ 128) (shifted_totals n deltas may r) (fits r)
