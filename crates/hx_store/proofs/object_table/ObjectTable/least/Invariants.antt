use Rattle.hx_store.specs.ObjectTable.{IsSound}
use Rattle.hx_store.proofs.InNamespace.{NoneBelow}
use Rattle.hx_store.proofs.object_table.ObjectTable.least.Given as goal

-- no kind so far has an object in the namespace
abbrev pub invariant-loop-index : goal.invariant-loop-index
invariant-loop-index l = IsSound l.self → NoneBelow l.self l.ns l.index
