use Rattle.std.specs.Prelude.{◌≡◌, ◌++◌, None, drop, map}
use Rattle.hx_quota.specs.Counting.{let_go}
use Rattle.hx_quota.specs.declared.change.CounterChange.TheVariants.{Move}
use Rattle.hx_quota.proofs.planting.push_let_go.Given as goal

-- the changes so far, with those by the children that are left, are all
abbrev pub invariant-loop-child : goal.invariant-loop-child
invariant-loop-child l = l.changes.items ++ map (λ c. Move c None) (drop l.child-index l.child-items) ≡ l.fn.changes.items ++ let_go l.forest.nodes l.name
