use Rattle.std.proofs.Common.{◌≡◌, ◌∙◌, ap, subst}
use Rattle.std.specs.Option.{option_map}
use Rattle.std.specs.Prelude.{IfOk, find as find_first}
use Rattle.std.specs.declared.option.Option.{Option}
use Rattle.hx_ports.specs.declared.keeper.Row.{Row}
use Rattle.hx_ports.specs.Keeping.{row_of_entry}
use Rattle.hx_ports.specs.Rows.{entries_of, lies_behind}
use Rattle.hx_ports.proofs.Unordered.{first-given, none_held}
use Rattle.hx_ports.proofs.given_rows.row_behind.Goals as goal

pub returns-then-is_empty-clause-row : goal.returns-then-is_empty-clause-row
returns-then-is_empty-clause-row c =
    let none = none_held c.args.held.now (c.is_empty.ensures.0 c.if-is_empty.true) in
    let law = ap (λ rows. option_map row_of_entry (find_first (lies_behind c.args.after.now) (entries_of rows))) c.as_slice.ensures.value
    ∙ first-given c.args.after.now c.args.given.now.items c.args.held.now (c.requires.ascends c.if-ascends.true) none in
    subst (λ (found : Option Row). IfOk c.given_row_behind.result (λ row. row ≡ found)) law c.given_row_behind.ensures
