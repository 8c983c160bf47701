use Rattle.std.proofs.Common.{rules}
use Rattle.hx_store.proofs.Listing.{sorted_by_ids}
use Rattle.hx_store.proofs.store.sort.Goals as goal

pub returns-clause-sorted : goal.returns-clause-sorted
returns-clause-sorted c = sorted_by_ids _ c.sort_unstable_by.ensures.sorted (λ a r q k. search rules)
