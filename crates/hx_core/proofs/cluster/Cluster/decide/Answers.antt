use Rattle.std.proofs.Common.{sym, ap, ◌∙◌}
use Rattle.std.specs.Prelude.{nat_le}
use Rattle.hx_model.specs.Limits.{greatest_version}
use Rattle.hx_core.specs.Inside.{view_of}
use Rattle.hx_core.proofs.Attempting.{tried_stale, tried_spent, version_left}
use Rattle.hx_core.proofs.cluster.Cluster.decide.Goals as goal

pub returns-then-not-may : goal.returns-then-not-may
returns-then-not-may g c =
    let requires = rw (← c.self.view_is) at c.requires in
    rw (← c.self.view_is) (tried_stale (view_of c.self.inside.state.state c.self.inside.workers.seen (g.K.Keeper.shown c.self.inside.keeper)) c.args.worker c.args.brief.now c.args.write c.args.may c.version-now.result c.if-not-may.true requires.may c.version-now.ensures)

pub returns-then-is_spent : goal.returns-then-is_spent
returns-then-is_spent g c =
    let requires = rw (← c.self.view_is) at c.requires in
    rw (← c.self.view_is) (tried_spent (view_of c.self.inside.state.state c.self.inside.workers.seen (g.K.Keeper.shown c.self.inside.keeper)) c.args.worker c.args.brief.now c.args.write (sym requires.may ∙ c.if-not-may.false) (ap (nat_le greatest_version) (sym c.version-now.ensures) ∙ (sym c.is_spent.ensures ∙ c.if-is_spent.true)) c.self.invariant.sound.valid.fits)

pub make-requires-clause-may : goal.make-requires-clause-may
make-requires-clause-may g c =
    let requires = rw (← c.self.view_is) at c.requires in
    rw (← c.self.view_is) (sym requires.may ∙ c.if-not-may.false)

pub make-requires-clause-fits : goal.make-requires-clause-fits
make-requires-clause-fits g c = rw (← c.self.view_is) (version_left c.self.inside.state.state.last (ap (nat_le greatest_version) (sym c.version-now.ensures) ∙ (sym c.is_spent.ensures ∙ c.if-is_spent.false)))
