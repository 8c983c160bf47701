use Rattle.std.proofs.Common.{ap, ◌∙◌}
use Rattle.std.specs.Map.{keys_of}
use Rattle.hx_model.specs.Forest.{parent_of}
use Rattle.hx_quota.specs.Counters.{tree_of}
use Rattle.hx_quota.specs.PlaceRows.{PlacesView, ring_in}
use Rattle.hx_quota.specs.RingLinks.{with_rings}
use Rattle.hx_quota.specs.Inside.{entries_in, ordered}
use Rattle.hx_quota.specs.Anew.{named}
use Rattle.hx_quota.proofs.ledger.Ledger.open_ring.Goals as goal

pub returns-clause-entries : goal.returns-clause-entries
returns-clause-entries c = ap (λ (v : PlacesView). with_rings v.rings (ordered v.entries)) c.note_rings.ensures.places ∙ c.turn_ring.ensures.entries

pub returns-clause-names : goal.returns-clause-names
returns-clause-names c = ap (λ (v : PlacesView). keys_of v.entries) c.note_rings.ensures.places ∙ c.turn_ring.ensures.names

pub returns-clause-free : goal.returns-clause-free
returns-clause-free c =
    let n = named (entries_in c.args.self.now.places.entries) c.args.at in
    let same = c.note_rings.ensures.places in
    record {
      root = ap (λ (v : PlacesView). parent_of (tree_of (ordered v.entries)) n) same ∙ c.turn_ring.ensures.free.root;
      free = ap (λ (v : PlacesView). ring_in v.rings n) same ∙ c.turn_ring.ensures.free.free;
    }
