use Rattle.std.proofs.Common.{◌≡◌, [], ◌∙◌, ap, false, Some, None, if◌then◌else◌}
use Rattle.hx_ports.specs.Rows.{is_told, rows_in, rows_over, rows_of, kept_of}
use Rattle.hx_ports.proofs.Placed.{rows_over-empty}
use Rattle.hx_ports.proofs.sure_keeper.SureKeeper.new.Goals as goal

pub returns-clause-shown : goal.returns-clause-shown
returns-clause-shown c =
    let given = c.args.rows.items in
    let laid : rows_over given (rows_in c.with_hasher.result) ≡ rows_of given = rows_over-empty given c.with_hasher.result c.with_hasher.ensures.empty in
    let tells = c.is_told-tells.ensures ∙ ap (λ rows. is_told rows c.args.meta) c.as_slice.ensures.value in
    λ i. record { place = None; kept = if tells i then Some (record (kept_of given c.args.meta) { rows = laid i }) else None; broken = false; faults = 0; watchers = [] }

pub returns-clause-held : goal.returns-clause-held
returns-clause-held c =
    let given = c.args.rows.items in
    let laid : rows_over given (rows_in c.with_hasher.result) ≡ rows_of given = rows_over-empty given c.with_hasher.result c.with_hasher.ensures.empty in
    λ i. record (kept_of given c.args.meta) { rows = laid i }
