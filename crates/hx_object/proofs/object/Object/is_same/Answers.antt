use Rattle.hx_object.proofs.Sameness.{same_object_from}
use Rattle.hx_object.proofs.object.Object.is_same.Goals as goal

pub returns : goal.returns
returns c = same_object_from c.args.self.now c.args.other.now c.eq.result c.eq.ensures
