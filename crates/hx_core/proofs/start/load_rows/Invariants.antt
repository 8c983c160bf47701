use Rattle.std.proofs.Common.{◌≡◌, [], None}
use Rattle.hx_core.specs.Loading.{IsLoaded}
use Rattle.hx_core.proofs.start.load_rows.Given as goal

abbrev pub invariant-loop-before : goal.invariant-loop-before
invariant-loop-before g l =
    (g.K.Keeper.shown l.keeper ≡ g.K.Keeper.shown l.fn.keeper)
    × IsLoaded l.state.state (g.K.Keeper.shown l.fn.keeper).kept l.key l.before
    × (l.state.state.config ≡ l.fn.state.state.config)
    × (l.state.staged ≡ [])
    × (l.damaged_key ≡ None)
