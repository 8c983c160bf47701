use Rattle.std.proofs.Common.{ap, length}
use Rattle.hx_forest.proofs.Indexing.{tied_names}
use Rattle.hx_forest.proofs.children.Children.reserve_under.Goals as goal

pub returns-in-None-clause-tied : goal.returns-in-None-clause-tied
returns-in-None-clause-tied c = λ nodes tied. tied_names nodes c.args.self.now c.reserve_other.new.self (ap (λ v. length v.items) c.reserve_other.ensures.lists) c.reserve_other.ensures.names tied
