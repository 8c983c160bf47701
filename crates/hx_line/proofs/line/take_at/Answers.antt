use Rattle.std.proofs.Common.{◌-◌, arith}
use Rattle.hx_line.proofs.Lining.{leaves_placed, leaves_other}
use Rattle.hx_line.proofs.line.take_at.Goals as goal

pub returns-then-at-ordered-clause-leaves : goal.returns-then-at-ordered-clause-leaves
returns-then-at-ordered-clause-leaves c =
    let less = c.if-at-ordered.true in
    leaves_placed c.args.ordered c.args.at (c.args.ordered - 1) c.args.items.now.entries c.unplace.new.items.entries c.remove_at.new.items.entries
    less c.requires.within (omega (arith, less)) c.unplace.ensures.moved c.unplace.ensures.last c.unplace.ensures.heap c.unplace.ensures.kept c.remove_at.ensures.out

pub returns-clause-leaves : goal.returns-clause-leaves
returns-clause-leaves c =
    let more = c.if-at-ordered.false in
    leaves_other c.args.ordered c.args.at c.args.items.now.entries c.remove_at-2.new.items.entries (omega (arith, more)) c.requires.at c.requires.heap c.remove_at-2.ensures.out
