use Rattle.std.proofs.Common.{◌≡◌, ◌∙◌, Option, None, ℕ, is_some, option_copied, ap, sym, subst, true≢false}
use Rattle.hx_quota.specs.Counters.{with_parent}
use Rattle.hx_quota.specs.PlaceRows.{place_at, IsFoundAt}
use Rattle.hx_quota.specs.Inside.{entries_of, ordered}
use Rattle.hx_quota.proofs.Placed.{entry_in, entry_at}
use Rattle.hx_quota.proofs.Reached.{found_named}
use Rattle.hx_quota.proofs.Ringed.{ringed_some, given_open}
use Rattle.hx_quota.proofs.ledger.Ledger.move_subtree.Goals as goal

pub returns-in_default-clause-entries : goal.returns-in_default-clause-entries
returns-in_default-clause-entries c =
    let places = c.args.self.now.places.entries in
    let moved = c.args.moved.now in
    let away : place_at places moved ≡ None = subst (λ (o : Option ℕ). IsFoundAt places moved o) c.in_default.is c.index_near.ensures.place in
    absurd (true≢false (sym c.requires.there ∙ ringed_some c.args.self.now.places.rings (ordered places) moved ∙ ap is_some (entry_at places moved ∙ ap entry_in away)))

pub index_from-up-requires : goal.index_from-up-requires
index_from-up-requires c =
    let places = c.args.self.now.places in
    given_open places.rings (ordered places.entries) (option_copied c.args.parent) c.requires.given

pub returns-clause-entries : goal.returns-clause-entries
returns-clause-entries c =
    let places = c.args.self.now.places.entries in
    let moved = c.args.moved.now in
    let name = found_named places moved c.in-Some.at (subst (λ (o : Option ℕ). IsFoundAt places moved o) c.in-Some.is c.index_near.ensures.place) in
    let parent = c.index_from-up.ensures.name in
    c.move_at.ensures.entries ∙ (λ i. with_parent (name i) (parent i) (entries_of c.args.self.now))
