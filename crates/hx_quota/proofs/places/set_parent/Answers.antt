use Rattle.std.proofs.Common.{◌≡◌, ap, sym, refl, subst, ◌∙◌, Some, List, ℕ, cond}
use Rattle.std.specs.List.{IsDistinct}
use Rattle.std.specs.Map.{keys_of}
use Rattle.std.specs.Str.{bytes_eq}
use Rattle.hx_quota.specs.PlaceRows.{Place, place_at, IsFoundAt}
use Rattle.hx_quota.specs.Inside.{entries_in}
use Rattle.hx_quota.specs.Anew.{name_from, named}
use Rattle.hx_quota.proofs.Indexed.{keys_changed, place_changed, kept_sums}
use Rattle.hx_quota.proofs.Placed.{same_keys, changed_places}
use Rattle.hx_quota.proofs.Reached.{lies_at}
use Rattle.hx_quota.proofs.places.set_parent.Goals as goal

lies : (c : goal.After-set_parent) → IsFoundAt c.args.places.now.entries (named (entries_in c.args.places.now.entries) c.args.at) (Some c.args.at)
lies c =
    let places = c.args.places.now.entries in
    lies_at places (subst (λ (ks : List (List ℕ)). IsDistinct bytes_eq ks) (sym (same_keys places)) c.set_parent.ensures.distinct) c.args.at c.requires.within

abbrev changed : goal.After-set_parent → Place → Place
changed c p = record p { entry = record (p.entry) { parent = name_from (entries_in c.args.places.now.entries) c.args.up } }

looks : (c : goal.After-set_parent) (q : List ℕ) → place_at c.set_parent.new.self.entries q ≡ cond (bytes_eq (named (entries_in c.args.places.now.entries) c.args.at) q) (Some (changed c (lies c).0)) (place_at c.args.places.now.entries q)
looks c q =
    let places = c.args.places.now.entries in
    ap (λ xs. place_at xs q) c.set_parent.ensures.entries ∙ place_changed c.args.at (changed c) places (named (entries_in places) c.args.at) (lies c).0 c.set_parent.ensures.distinct (lies c).1 q

pub returns-clause-entries : goal.returns-clause-entries
returns-clause-entries c =
    let places = c.args.places.now.entries in
    changed_places c.set_parent.new.self.entries places (named (entries_in places) c.args.at) (λ e. record e { parent = name_from (entries_in places) c.args.up }) (lies c).0 (changed c (lies c).0) (lies c).2 refl (looks c)

pub returns-clause-sums : goal.returns-clause-sums
returns-clause-sums c =
    let places = c.args.places.now.entries in
    kept_sums places c.set_parent.new.self.entries (named (entries_in places) c.args.at) (lies c).0 (changed c (lies c).0) (lies c).2 refl (looks c)

pub returns-clause-names : goal.returns-clause-names
returns-clause-names c = ap (λ xs. keys_of xs) c.set_parent.ensures.entries ∙ keys_changed c.args.at (changed c) c.args.places.now.entries
