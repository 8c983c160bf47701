use Rattle.hx_core.proofs.Batching.{Batched}
use Rattle.hx_core.proofs.rows.batch_of.Given as goal

-- what is made so far is of the first writes
abbrev pub invariant-loop-change : goal.invariant-loop-change
invariant-loop-change l = Batched l.writes l.change-index l.puts.items l.cuts.items
