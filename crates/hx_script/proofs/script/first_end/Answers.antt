use Rattle.hx_script.proofs.Ends.{found, nowhere}
use Rattle.hx_script.proofs.script.first_end.Goals as goal

pub returns-clause-found : goal.returns-clause-found
returns-clause-found c = found c.args.piece.now c.memchr.result c.memchr.ensures

pub returns-clause-none : goal.returns-clause-none
returns-clause-none c = nowhere c.args.piece.now c.memchr.result c.memchr.ensures
