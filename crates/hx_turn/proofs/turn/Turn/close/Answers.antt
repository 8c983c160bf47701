use Rattle.std.proofs.Common.{sym, ◌∙◌, subst}
use mathlib.Core.Option.{some-injective}
use Rattle.hx_turn.proofs.Steps.{ended, same_Some}
use Rattle.hx_turn.proofs.turn.Turn.close.Goals as goal

pub unreachable-requires : goal.unreachable-requires
unreachable-requires g c =
    let e = ended g.T.Stands.stands (g.T.Stands.opening c.self.inside.table.shared.key.value) c.args.pass.id c.args.pass.me.0 _ _ c.close_with-closed.ensures.values.2 c.requires.outside.1 c.requires.last in
    c.in_default.not-Some e.0 (some-injective _ _ (sym c.take-slot.ensures.value ∙ e.1))

pub returns : goal.returns
returns g c =
    let e = ended g.T.Stands.stands (g.T.Stands.opening c.self.inside.table.shared.key.value) c.args.pass.id c.args.pass.me.0 _ _ c.close_with-closed.ensures.values.2 c.requires.outside.1 c.requires.last in
    let same = same_Some (sym (some-injective _ _ (sym c.take-slot.ensures.value ∙ e.1)) ∙ c.in-Some.is) in
    let log = e.2 in (log.2.0, log.2.1, (log.0, log.1, subst (λ x. g.T.Stands.stands x log.2.0 log.0) same log.2.2))
