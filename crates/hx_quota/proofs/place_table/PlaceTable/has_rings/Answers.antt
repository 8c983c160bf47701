use Rattle.std.proofs.Common.{sym, ◌∙◌}
use Rattle.hx_quota.proofs.RingTable.{no_rings}
use Rattle.hx_quota.proofs.place_table.PlaceTable.has_rings.Goals as goal

pub returns : goal.returns
returns c = λ no.
    let names = c.self.inside.names.keys in
    rw (← c.self.view_is) (no_rings names names c.self.inside.rings.items (sym c.any.ensures ∙ no))
