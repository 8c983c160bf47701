use Rattle.std.proofs.Common.{◌≡◌, Option, IfSome, Err, refl, sym, subst, ◌∙◌}
use Rattle.std.specs.FinMap as map
use Rattle.hx_ports.specs.Keeping.{Kept}
use Rattle.hx_core.specs.Refinement.{kept_of}
use Rattle.hx_core.specs.Starting.{IfDamage, IsUndamaged, Tells}
use Rattle.hx_core.proofs.Damaging.{tells_misfit}
use Rattle.hx_core.proofs.Loading.{asked_on, counted, same_view}
use Rattle.hx_core.proofs.start.load_state.Goals as goal

pub load_all-requires-clause-rows : goal.load_all-requires-clause-rows
load_all-requires-clause-rows g c =
    subst (λ (k : Option Kept). IfSome k (λ held. c.in_ok-meta.meta.rows ≡ map.len held.rows)) (sym c.in_ok-meta.ensures.same.kept) (counted (g.K.Keeper.shown c.args.keeper.now).kept c.in_ok-meta.meta c.in_ok-meta.ensures.meta)

pub returns-in-Ok-clause-holds : goal.returns-in-Ok-clause-holds
returns-in-Ok-clause-holds g c = subst (λ k. IfSome k (λ held. held ≡ kept_of c.load_all.new.state.state)) c.in_ok-meta.ensures.same.kept c.in-Ok.ensures.holds

pub returns-in-Ok-clause-undamaged : goal.returns-in-Ok-clause-undamaged
returns-in-Ok-clause-undamaged g c = subst (λ k. IfSome k IsUndamaged) c.in_ok-meta.ensures.same.kept c.in-Ok.ensures.undamaged

pub returns-in-Err-clause-damaged : goal.returns-in-Err-clause-damaged
returns-in-Err-clause-damaged g c = subst (λ k. IfDamage c.in-Err.fault (λ row d. IfSome k (λ held. Tells held row d c.load_all.new.damaged_key))) c.in_ok-meta.ensures.same.kept c.in-Err.ensures.damaged

-- the keeper shows what it showed once it has said its numbers
pub returns-in-Err-clause-asked : goal.returns-in-Err-clause-asked
returns-in-Err-clause-asked g c =
    asked_on (g.K.Keeper.shown c.args.keeper.now) (g.K.Keeper.shown c.meta.new.self) (g.K.Keeper.shown c.load_all.new.keeper) c.in-Err.fault (Err c.in-Err.fault)
    (same_view (g.K.Keeper.shown c.args.keeper.now) (g.K.Keeper.shown c.meta.new.self) c.in_ok-meta.ensures.same (c.in_ok-meta.ensures.cause.still (λ e. cc))) c.in-Err.ensures.asked refl

pub returns-then-is_misfit-clause-damaged : goal.returns-then-is_misfit-clause-damaged
returns-then-is_misfit-clause-damaged g c =
    tells_misfit (g.K.Keeper.shown c.args.keeper.now).kept c.in_ok-meta.meta c.misfit_of-damage.result c.args.damaged_key.now c.in_ok-meta.ensures.meta (sym c.is_misfit.ensures ∙ c.if-is_misfit.true) c.misfit_of-damage.ensures c.requires
