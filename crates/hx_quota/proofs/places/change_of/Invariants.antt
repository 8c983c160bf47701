use Rattle.std.specs.Prelude.{◌≡◌, drop, replicate}
use Rattle.hx_quota.specs.Inside.{taken_by, given_by}
use Rattle.hx_quota.proofs.places.change_of.Given as goal

-- those that are left take and give the rest
abbrev pub invariant-loop-delta : goal.invariant-loop-delta
invariant-loop-delta l = record {
  take : taken_by (drop l.delta-index l.deltas) l.take ≡ taken_by l.deltas (replicate 15 0);
  give : given_by (drop l.delta-index l.deltas) l.give ≡ given_by l.deltas (replicate 15 0);
}
