use Rattle.std.specs.Prelude.{◌≡◌, vec_len}
use Rattle.std.specs.Vec.{vec_capacity}
use Rattle.hx_quota.proofs.Linked.{relinked_to}
use Rattle.hx_quota.proofs.up_table.relink.Given as goal

-- those so far are relinked
abbrev pub invariant-loop-at : goal.invariant-loop-at
invariant-loop-at l = record {
  ups : l.ups.items ≡ relinked_to l.at l.from l.to l.fn.ups.items;
  len : vec_len l.ups ≡ vec_len l.fn.ups;
  room : vec_capacity l.ups ≡ vec_capacity l.fn.ups;
}
