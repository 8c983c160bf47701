use Rattle.hx_model.specs.Replies.{version_message}
use Rattle.hx_model.proofs.status.push_version.Goals as goal

pub returns : goal.returns
unfolding version_message
returns c = rw (← c.resource-resource.ensures) (c.in_ok-write.ensures.bytes)
