use Rattle.std.proofs.Common.{◌∙◌}
use Rattle.hx_serve.proofs.Fixed.{no_memory_is}
use Rattle.hx_serve.proofs.reply.no_memory.Goals as goal

pub returns : goal.returns
returns c = c.no_memory_reply.ensures ∙ no_memory_is c.args.last
