use Rattle.hx_marks.proofs.Searching.{same_members}
use Rattle.hx_marks.proofs.name_set.NameSet.new.Goals as goal

pub returns : goal.returns
returns c = λ q. same_members c.args.names.items c.sort_unstable.new.self.items c.sort_unstable.ensures.permutation q
