use Rattle.std.proofs.Common.{◌≡◌, ◌+◌, ◌-◌, ◌≤◌, ◌∙◌, ap, arith, length, length-take, min, take}
use Rattle.hx_ports.proofs.Found.{sure}
use Rattle.hx_ports.proofs.Keys.{pushed}
use Rattle.hx_ports.proofs.row_keys.push_part.Goals as goal

pub returns : goal.returns
returns c =
    let old = c.args.front.now.items in
    let part = c.args.part.now in
    let room : c.remaining_capacity.result ≡ 320 - length old = omega (arith, c.remaining_capacity.ensures) in
    let fits : length old ≤ 320 = omega (arith, c.remaining_capacity.ensures) in
    let taken : length (take c.min-room.result part) ≤ c.min-room.result = simp length-take (omega arith) in
    let within : length old + length (take c.min-room.result part) ≤ 320 = omega (arith, taken, c.min-room.ensures, c.remaining_capacity.ensures) in
    pushed old part c.try_extend_from_slice.new.self.items c.min-room.result (c.min-room.ensures ∙ ap (λ n. min n (length part)) room) fits
    (sure c.try_extend_from_slice.result (c.try_extend_from_slice.ensures.variant.1 within) c.try_extend_from_slice.ensures.ok)
