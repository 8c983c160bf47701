use Rattle.std.proofs.Common.{◌∙◌}
use Rattle.hx_ports.proofs.Keys.{formed}
use Rattle.hx_ports.proofs.row_keys.key_front.Goals as goal

pub returns : goal.returns
returns c =
    formed c.args.id.now c.new-front.result.items c.push_part.new.front.items c.push_part-2.new.front.items c.push_part-3.new.front.items c.push_part-4.new.front.items c.push_part-5.new.front.items
    c.as_bytes.result.now c.as_bytes-2.result.now c.as_bytes-3.result.now c.as_bytes-4.result.now c.as_bytes-5.result.now
    c.new-front.ensures c.push_part.ensures c.push_part-2.ensures c.push_part-3.ensures c.push_part-4.ensures c.push_part-5.ensures
    (c.as_bytes.ensures.value ∙ c.digits_of.ensures) c.as_bytes-2.ensures.value c.as_bytes-3.ensures c.as_bytes-4.ensures.value c.as_bytes-5.ensures
