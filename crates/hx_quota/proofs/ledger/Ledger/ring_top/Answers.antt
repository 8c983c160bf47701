use Rattle.std.proofs.Common.{Option, List, ℕ, sym, subst, ◌∙◌}
use Rattle.std.proofs.lemmas.Option.{none-some}
use Rattle.hx_quota.specs.Counters.{tree_of}
use Rattle.hx_quota.specs.PlaceRows.{ring_in}
use Rattle.hx_quota.specs.RingLinks.{IsRingTop}
use Rattle.hx_quota.specs.Inside.{entries_in, ordered}
use Rattle.hx_quota.specs.Anew.{name_from, named}
use Rattle.hx_quota.proofs.Opened.{no_ring_top, ring_top}
use Rattle.hx_quota.proofs.Reached.{named_at}
use Rattle.hx_quota.proofs.ledger.Ledger.ring_top.Goals as goal

pub returns-then-not-self-clause-top : goal.returns-then-not-self-clause-top
returns-then-not-self-clause-top c = λ t p low link over. none-some p (sym (c.requires.kept.none c.if-not-self.true t) ∙ link)

pub returns-then-has_above-clause-top : goal.returns-then-has_above-clause-top
returns-then-has_above-clause-top c =
    let places = c.args.self.now.places.entries in
    let f = tree_of (ordered places) in
    let n = named (entries_in places) c.args.at in
    let t = named (entries_in places) c.top_of-top.result in
    subst (λ (o : Option (List ℕ)). IsRingTop (ring_in c.args.self.now.places.rings) f n o) (sym (named_at places c.top_of-top.result c.top_of-top.ensures.within))
    (ring_top (ring_in c.args.self.now.places.rings) f c.requires.kept.rings n t c.top_of-top.ensures.above (name_from (entries_in places) c.ring_at-up.result) c.ring_at-up.ensures.ring (sym c.has_above.ensures ∙ c.if-has_above.true))

pub returns-else-has_above-clause-top : goal.returns-else-has_above-clause-top
returns-else-has_above-clause-top c =
    let places = c.args.self.now.places.entries in
    let f = tree_of (ordered places) in
    let n = named (entries_in places) c.args.at in
    let t = named (entries_in places) c.top_of-top.result in
    no_ring_top (ring_in c.args.self.now.places.rings) f c.requires.kept.rings n t c.top_of-top.ensures.above (name_from (entries_in places) c.ring_at-up.result) c.ring_at-up.ensures.ring c.top_of-top.ensures.root (sym c.has_above.ensures ∙ c.if-has_above.false)
