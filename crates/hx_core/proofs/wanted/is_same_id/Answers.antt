use Rattle.hx_core.proofs.Alike.{same_id_by}
use Rattle.hx_core.proofs.wanted.is_same_id.Goals as goal

pub returns : goal.returns
returns c = same_id_by c.args.id.now c.args.other.now c.is_same.result c.is_same.ensures.0 c.is_same.ensures.1
