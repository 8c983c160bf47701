use Rattle.std.proofs.Common.{subst, List, ℕ}
use Rattle.std.specs.List.{IsDistinct}
use Rattle.std.specs.Str.{bytes_eq}
use Rattle.hx_forest.proofs.Ascending.{distinct_names}
use Rattle.hx_quota.proofs.planting.children.Goals as goal

pub returns-clause-once : goal.returns-clause-once
returns-clause-once c = subst (λ (names : List (List ℕ)). IsDistinct bytes_eq names) c.children.ensures.names (distinct_names c.children.result.now c.children.ensures.order)
