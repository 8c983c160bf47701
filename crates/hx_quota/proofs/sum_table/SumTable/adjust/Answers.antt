use Rattle.std.specs.Prelude.{slice_get, slice_index}
use Rattle.std.proofs.Common.{◌≡◌, ℕ, ◌+◌, ◌-◌, ◌<◌, Some, List, sym, subst, arith}
use Rattle.std.proofs.lemmas.Option.{slice_get_past}
use Rattle.hx_quota.specs.Inside.{MayAdjust}
use Rattle.hx_quota.specs.SumRows.{SumsView, column_at, height_of, AreTold}
use Rattle.hx_quota.proofs.Rows.{is_there, may_each, room_as, adjusted_level, adjusted_row, told_set}
use Rattle.hx_quota.proofs.sum_table.SumTable.adjust.Goals as goal

pub adjust_all-requires-clause-may : goal.adjust_all-requires-clause-may
adjust_all-requires-clause-may c =
    let within : c.args.at < height_of c.self.inside.columns = is_there c.self.inside.columns c.args.at c.self.view_is (omega (arith, c.if-at-len.true, c.len.ensures.len)) in
    may_each c.args.change.now.take c.args.change.now.give c.args.at c.self.inside.columns c.self.invariant.0.all within (subst (λ (v : SumsView). (row : List ℕ) → slice_get v.rows c.args.at ≡ Some row → MayAdjust c.args.change.now.take c.args.change.now.give row) (sym c.self.view_is) c.requires)

pub invariant_of-self : goal.invariant_of-self
invariant_of-self c =
    let within : c.args.at < height_of c.self.inside.columns = is_there c.self.inside.columns c.args.at c.self.view_is (omega (arith, c.if-at-len.true, c.len.ensures.len)) in (
      adjusted_level c.args.change.now.take c.args.change.now.give c.args.at c.self.inside.columns c.adjust_all.new.columns c.self.invariant.0 c.adjust_all.ensures.long within c.adjust_all.ensures.sums,
      subst (AreTold c.adjust_all.new.columns) (sym c.set.ensures.flags)
          (told_set c.self.inside.columns c.adjust_all.new.columns c.self.invariant.0 c.self.inside.filled.flags c.self.invariant.1 c.args.at c.adjust_all.new.filled
          (λ k. slice_index (column_at c.self.inside.columns k).sums c.args.at - slice_index c.args.change.now.take k + slice_index c.args.change.now.give k) c.adjust_all.ensures.empty c.adjust_all.ensures.sums),
    )

pub returns-then-at-len-clause-there : goal.returns-then-at-len-clause-there
returns-then-at-len-clause-there c =
    let within : c.args.at < height_of c.self.inside.columns = is_there c.self.inside.columns c.args.at c.self.view_is (omega (arith, c.if-at-len.true, c.len.ensures.len)) in
    λ _. rw (← c.self.view_is) (adjusted_row c.args.change.now.take c.args.change.now.give c.args.at c.self.inside.columns c.adjust_all.new.columns c.self.invariant.0 c.adjust_all.ensures.long within c.adjust_all.ensures.sums)

pub returns-then-at-len-clause-room : goal.returns-then-at-len-clause-room
returns-then-at-len-clause-room c = rw (← c.self.view_is) (omega (arith, room_as c.self.inside.columns c.adjust_all.new.columns c.self.invariant.0.all c.adjust_all.ensures.long c.adjust_all.ensures.room, c.set.ensures.room))

pub returns-else-at-len-clause-absent : goal.returns-else-at-len-clause-absent
returns-else-at-len-clause-absent c = λ _. slice_get_past _ c.args.at (omega (arith, c.if-at-len.false, c.len.ensures.len))
