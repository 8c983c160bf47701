use Rattle.std.proofs.Common.{◌≡◌, None, refl}
use Rattle.hx_core.specs.Starting.{Tells}
use Rattle.hx_core.proofs.Damaging.{damaged_on, never_more, whole_on}
use Rattle.hx_core.proofs.Loading.{asked_on, at_most_all, holds_loaded, undamaged_loaded}
use Rattle.hx_core.proofs.start.load_all.Goals as goal

pub load_rows-requires-clause-rows : goal.load_rows-requires-clause-rows
load_rows-requires-clause-rows g c = at_most_all (g.K.Keeper.shown c.args.keeper.now).kept c.args.rows c.requires.rows

pub returns-clause-holds : goal.returns-clause-holds
returns-clause-holds g c = holds_loaded (g.K.Keeper.shown c.args.keeper.now).kept c.load_rows.new.state.state c.in_ok-last.last c.args.rows c.in_ok-last.ensures.loaded c.requires.rows

pub returns-clause-undamaged : goal.returns-clause-undamaged
returns-clause-undamaged g c = undamaged_loaded (g.K.Keeper.shown c.args.keeper.now).kept c.load_rows.new.state.state c.in_ok-last.last c.args.rows c.in_ok-last.ensures.loaded c.requires.rows

pub returns-in_err-last-clause-damaged : goal.returns-in_err-last-clause-damaged
returns-in_err-last-clause-damaged g c =
    damaged_on c.from_residual.result c.in_err-last.field-0.0 (g.K.Keeper.shown c.args.keeper.now).kept (g.K.Keeper.shown c.args.keeper.now).kept (λ row d held. Tells held row d c.load_rows.new.damaged_key) c.from_residual.ensures.1 refl c.in_err-last.ensures.damaged

pub returns-in_err-check_end-clause-damaged : goal.returns-in_err-check_end-clause-damaged
returns-in_err-check_end-clause-damaged g c =
    never_more c.from_residual-in_err-check_end.result c.in_err-check_end.field-0.0 (g.K.Keeper.shown c.args.keeper.now).kept (g.K.Keeper.shown c.load_rows.new.keeper).kept c.load_rows.new.state.state c.in_ok-last.last c.args.rows (λ row d held. Tells held row d c.check_end.new.damaged_key)
    c.from_residual-in_err-check_end.ensures.1 c.in_ok-last.ensures.asked.same.kept c.in_err-check_end.ensures.more c.in_ok-last.ensures.loaded c.requires.rows

pub returns-in_err-last-clause-keyless : goal.returns-in_err-last-clause-keyless
returns-in_err-last-clause-keyless g c = whole_on c.from_residual.result c.in_err-last.field-0.0 (c.load_rows.new.damaged_key ≡ None) c.from_residual.ensures.1 c.in_err-last.ensures.keyless

pub returns-in_err-check_end-clause-keyless : goal.returns-in_err-check_end-clause-keyless
returns-in_err-check_end-clause-keyless g c = whole_on c.from_residual-in_err-check_end.result c.in_err-check_end.field-0.0 (c.check_end.new.damaged_key ≡ None) c.from_residual-in_err-check_end.ensures.1 c.in_err-check_end.ensures.keyless

-- the keeper shows what it showed where nothing failed
pub returns-in_err-last-clause-asked : goal.returns-in_err-last-clause-asked
returns-in_err-last-clause-asked g c =
    asked_on (g.K.Keeper.shown c.args.keeper.now) (g.K.Keeper.shown c.args.keeper.now) (g.K.Keeper.shown c.load_rows.new.keeper) c.in_err-last.field-0.0 c.from_residual.result refl c.in_err-last.ensures.asked c.from_residual.ensures.1

pub returns-in_err-check_end-clause-asked : goal.returns-in_err-check_end-clause-asked
returns-in_err-check_end-clause-asked g c =
    asked_on (g.K.Keeper.shown c.args.keeper.now) (g.K.Keeper.shown c.load_rows.new.keeper) (g.K.Keeper.shown c.check_end.new.keeper) c.in_err-check_end.field-0.0 c.from_residual-in_err-check_end.result
    (c.in_ok-last.ensures.asked.still (λ e. cc)) c.in_err-check_end.ensures.asked c.from_residual-in_err-check_end.ensures.1
