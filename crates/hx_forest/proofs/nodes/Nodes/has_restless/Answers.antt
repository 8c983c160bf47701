use Rattle.hx_forest.proofs.Restless.{none_named}
use Rattle.hx_forest.proofs.nodes.Nodes.has_restless.Goals as goal

pub returns : goal.returns
returns c = λ none. none_named c.args.self.now (c.has_restless.ensures none)
