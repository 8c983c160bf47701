use Rattle.std.specs.Prelude.{◌≡◌, ◌++◌, Some, drop, map}
use Rattle.hx_quota.specs.Counting.{taken_in}
use Rattle.hx_quota.specs.declared.change.CounterChange.TheVariants.{Move}
use Rattle.hx_quota.proofs.planting.push_taken_in.Given as goal

-- the changes so far, with those by the children that are left, are all
abbrev pub invariant-loop-child : goal.invariant-loop-child
invariant-loop-child l = l.changes.items ++ map (λ c. Move c (Some l.name)) (drop l.child-index l.child-items) ≡ l.fn.changes.items ++ taken_in l.forest.nodes l.name
