use Rattle.std.proofs.Common.{◌∙◌, sym, rules, arith}
use Rattle.hx_object.proofs.Putting.{put_there, put_before, put_last}
use Rattle.hx_object.proofs.pairs.put_in.Goals as goal
use Rattle.hx_object.proofs.pairs.put_in.Goals.{else-place-len-via-then-place-len+else-eq, else-place-len-via-else-place-len}

pub returns-then-eq : goal.returns-then-eq
returns-then-eq c =
    put_there c.args.key c.args.value c.args.pairs.now.items c.place_of-place.result c.index.result.now (c.place_of-place.ensures ∙ search rules) (omega arith) c.index.ensures (sym c.if-eq.ensures)

pub returns-in_ok-insert : goal.returns-in_ok-insert
returns-in_ok-insert c =
    elim c.else-place-len.branch [
      | else-place-len-via-then-place-len+else-eq w ↦
          c.in_ok-insert.ensures.items
          ∙ put_before c.args.key c.args.value c.args.pairs.now.items c.place_of-place.result w.index.result.now (c.place_of-place.ensures ∙ search rules) w.index.ensures (sym w.if-eq.ensures)
      | else-place-len-via-else-place-len w ↦
          c.in_ok-insert.ensures.items
          ∙ put_last c.args.key c.args.value c.args.pairs.now.items c.place_of-place.result (c.place_of-place.ensures ∙ search rules) (let h = w.if-place-len.false in omega arith)
    ]
