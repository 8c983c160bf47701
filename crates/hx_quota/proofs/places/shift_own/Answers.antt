use Rattle.std.proofs.Common.{◌∙◌, List, ℕ, replicate, ap, sym, subst}
use Rattle.std.specs.List.{IsDistinct}
use Rattle.std.specs.Map.{keys_of}
use Rattle.std.specs.Str.{bytes_eq}
use Rattle.hx_quota.specs.Counters.{place_of, shifted}
use Rattle.hx_quota.specs.PlaceRows.{Place, place_at}
use Rattle.hx_quota.specs.Inside.{entries_in, taken_by, Replaces}
use Rattle.hx_quota.specs.Anew.{name_at}
use Rattle.hx_quota.proofs.Deltas.{replaces}
use Rattle.hx_quota.proofs.Indexed.{keys_changed, name_changed, place_changed}
use Rattle.hx_quota.proofs.Placed.{same_keys}
use Rattle.hx_quota.proofs.places.shift_own.Goals as goal

pub returns-clause-shifted : goal.returns-clause-shifted
returns-clause-shifted c = λ n lies.
    let old = c.args.places.now.entries in
    let deltas = c.args.deltas.now in
    let place = lies.0 in
    let own = place.entry.own in
    let long = c.shift_own.ensures.long n place lies.1 in (
      place,
      lies.2,
      λ r. subst (λ (take : List ℕ). Replaces take c.change_of.result.give own (shifted deltas own) (place_of r)) (sym c.change_of.ensures.take)
          (subst (λ (give : List ℕ). Replaces (taken_by deltas (replicate 15 0)) give own (shifted deltas own) (place_of r)) (sym c.change_of.ensures.give) (replaces deltas own long c.requires.apart (c.requires.old n place lies.1) r)),
      λ q. ap (λ xs. place_at xs q) c.shift_own.ensures.entries ∙ place_changed c.args.at (λ (p : Place). record p { entry = record (p.entry) { own = shifted deltas p.entry.own } }) old n place c.shift_own.ensures.distinct lies.1 q,
    )

pub returns-clause-name : goal.returns-clause-name
returns-clause-name c =
    let deltas = c.args.deltas.now in
    ap (λ xs. name_at (entries_in xs) c.args.at) c.shift_own.ensures.entries ∙ name_changed c.args.at (λ (p : Place). record p { entry = record (p.entry) { own = shifted deltas p.entry.own } }) c.args.places.now.entries c.args.at

pub returns-clause-distinct : goal.returns-clause-distinct
returns-clause-distinct c =
    let deltas = c.args.deltas.now in
    let old = c.args.places.now.entries in
    subst (λ (ks : List (List ℕ)). IsDistinct bytes_eq ks)
    (sym (same_keys c.shift_own.new.self.entries ∙ ap (λ xs. keys_of xs) c.shift_own.ensures.entries ∙ keys_changed c.args.at (λ (p : Place). record p { entry = record (p.entry) { own = shifted deltas p.entry.own } }) old)) c.shift_own.ensures.distinct
