use Rattle.std.proofs.Common.{rules, ◌≡◌, ℕ, List, [], ◌∷◌, IfSome, subst}
use Rattle.hx_quota.specs.declared.change.CounterChange.TheVariants.{Shift}
use Rattle.hx_quota.specs.declared.entry.Delta.{Delta}
use Rattle.hx_quota.specs.Counters.{Entries, with_shifted, AllFit}
use Rattle.hx_quota.specs.SubtreeUsage.{MayShift}
use Rattle.hx_quota.proofs.Staged.{may_shift_some}
use Rattle.hx_quota.proofs.subtrees.Usage.stage_shift.Goals as goal

pub stage_changes-requires : goal.stage_changes-requires
stage_changes-requires c =
    let is : c.push.new.self.items ≡ Shift c.args.ns c.args.deltas.items ∷ [] = search rules in
    let fits = subst (λ (ds : List Delta). IfSome c.args.self.now.now (λ (es : Entries). (k : List ℕ) → MayShift es k ds → AllFit (with_shifted (k ∷ []) ds es))) c.deref.ensures.value c.in_ok-check_fit.ensures in
    may_shift_some c.args.self.now.now c.args.ns c.args.deltas.items c.requires fits c.push.new.self.items is
