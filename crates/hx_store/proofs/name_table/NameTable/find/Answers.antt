use Rattle.std.proofs.Common.{ap, sym, ◌∙◌}
use Rattle.std.specs.Prelude.{is_some}
use Rattle.hx_store.specs.ObjectTable.{found}
use Rattle.hx_store.proofs.Shown.{missing}
use Rattle.hx_store.proofs.name_table.NameTable.find.Goals as goal

pub returns-in-None : goal.returns-in-None
returns-in-None c =
    let name_table = c.args.self.now in
    sym (ap found (missing name_table.shown name_table.places.keys c.args.name.now (sym c.get_index_of.ensures.found ∙ ap is_some c.in-None.is)))
