use Rattle.std.proofs.lemmas.Result.{IfOk-weaker}
use Rattle.hx_marks.proofs.Promising.{covers, keeps_within}
use Rattle.hx_marks.proofs.writes.marks.Goals as goal

pub returns-clause-covers : goal.returns-clause-covers
returns-clause-covers c = IfOk-weaker c.listed_marks.result _ _ (λ keys is. covers c.args.state.now.state c.args.writes.now keys.items c.law_of_validity.ensures c.requires is) c.listed_marks.ensures

pub returns-clause-within : goal.returns-clause-within
returns-clause-within c = IfOk-weaker c.listed_marks.result _ _ (λ keys is. keeps_within c.args.state.now.state c.args.writes.now keys.items c.law_of_validity.ensures c.requires is) c.listed_marks.ensures
