use Rattle.std.proofs.Common.{◌≡◌, ◌≢◌, ◌+◌, ◌<◌, ◌∙◌, length, slice_index, inl, inr, sym, arith, get_or-set_other, get_or-set_same}
use Rattle.std.proofs.lemmas.Bool.{cases_lt}
use Rattle.std.proofs.lemmas.List.{get_or_past}
use borrow.Author.Count.{below_more}
use Rattle.hx_overlay.proofs.changing.change_range.Goals as goal

pub loop-i-preserved : goal.loop-i-preserved
loop-i-preserved c =
    let range = c.loop-i.range in
    let i = c.loop-i.i in
    let byte = c.byte_behind.result in
    let within : i < length range = omega (arith, c.loop-i.auto.range, c.loop-i-test.true) in (
      λ k high. let other : k ≢ i = omega arith in get_or-set_other range i k byte 0 other ∙ c.loop-i.invariant.0 k (omega arith),
      λ file long has. below_more _ _
          (λ k low. let other : k ≢ i = omega arith in get_or-set_other range i k byte 0 other ∙ c.loop-i.invariant.1 file long has k low)
          (
          let first : c.cut_byte.result ≡ slice_index file (c.args.at + i) =
          elim (cases_lt (c.args.at + i) c.args.len) [
            | inl low ↦ c.cut_byte.ensures.below low ∙ c.loop-i.invariant.0 i (omega arith) ∙ has i c.loop-i-test.true low
            | inr high ↦ c.cut_byte.ensures.behind high ∙ sym (get_or_past file (c.args.at + i) 0 (omega arith))
          ] in
          get_or-set_same range i byte 0 within ∙ c.byte_behind.ensures file first
          ),
    )
