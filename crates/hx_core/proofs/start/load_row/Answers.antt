use Rattle.std.proofs.Common.{◌≡◌, Some, IfSome, refl, subst}
use Rattle.hx_ports.specs.Keeping.{row_after}
use Rattle.hx_core.proofs.Damaging.{tells_hindered, tells_missing}
use Rattle.hx_core.proofs.Loading.{loaded_next, none_if}
use Rattle.hx_core.proofs.start.load_row.Goals as goal

pub returns-in_default-clause-damaged : goal.returns-in_default-clause-damaged
returns-in_default-clause-damaged g c =
    tells_missing (g.K.Keeper.shown c.args.keeper.now).kept c.args.state.now.state c.args.key c.args.before c.in_ok-row.field-0 c.args.damaged_key.now c.requires.loaded
    (subst (λ k. IfSome (g.K.Keeper.shown c.args.keeper.now).kept (λ held. c.in_ok-row.field-0 ≡ row_after k held)) c.as_slice.ensures c.in_ok-row.ensures.row) c.requires.within (none_if c.in_ok-row.field-0 c.in_default.not-Some) c.requires.unset

pub returns-in-Err-Damaged-clause-damaged : goal.returns-in-Err-Damaged-clause-damaged
returns-in-Err-Damaged-clause-damaged g c =
    tells_hindered (g.K.Keeper.shown c.args.keeper.now).kept c.args.state.now.state c.args.key c.args.before c.in-Some.row c.in-Err-Damaged.damage (Some c.in-Some.row.key) c.requires.loaded
    (subst (λ o. IfSome (g.K.Keeper.shown c.args.keeper.now).kept (λ held. o ≡ row_after c.args.key held)) c.in-Some.is (subst (λ k. IfSome (g.K.Keeper.shown c.args.keeper.now).kept (λ held. c.in_ok-row.field-0 ≡ row_after k held)) c.as_slice.ensures c.in_ok-row.ensures.row))
    c.requires.within (rw c.in-Err-Damaged.field-0-is at c.in-Err-Damaged.ensures.untaken) refl

pub returns-in-Ok-clause-loaded : goal.returns-in-Ok-clause-loaded
returns-in-Ok-clause-loaded g c =
    loaded_next c.args.state.now.state c.take_row.new.state.state (g.K.Keeper.shown c.args.keeper.now).kept c.args.key c.in-Some.row c.args.before c.requires.loaded
    (subst (λ o. IfSome (g.K.Keeper.shown c.args.keeper.now).kept (λ held. o ≡ row_after c.args.key held)) c.in-Some.is (subst (λ k. IfSome (g.K.Keeper.shown c.args.keeper.now).kept (λ held. c.in_ok-row.field-0 ≡ row_after k held)) c.as_slice.ensures c.in_ok-row.ensures.row))
    c.in-Ok.ensures.text c.in-Ok.ensures.taken
