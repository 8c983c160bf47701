use Rattle.std.proofs.Common.{[], subst, sym}
use Rattle.hx_shared.specs.Calls.{StandsAt}
use Rattle.hx_shared.proofs.Orders.{opens}
use Rattle.hx_shared.proofs.shared.Shared.make.Goals as goal

pub share-requires : goal.share-requires
share-requires g c = subst (λ x. StandsAt x [] x) (sym c.in-Ok.ensures.ok) (opens c.args.cluster c.requires c.law_of_worlds.ensures.world)
