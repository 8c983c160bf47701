use Rattle.std.proofs.Common.{◌∙◌}
use Rattle.hx_serve.proofs.Fixed.{store_failed_is}
use Rattle.hx_serve.proofs.reply.store_failed.Goals as goal

pub returns : goal.returns
returns c = c.store_failed_reply.ensures ∙ store_failed_is c.args.last
