use Rattle.std.proofs.Common.{rules, ◌≡◌, ◌∷◌, List, ap, subst, ◌∙◌}
use Rattle.std.specs.Vec.Iter.{into_iter_items}
use Rattle.hx_quota.specs.declared.change.CounterChange.{CounterChange}
use Rattle.hx_quota.specs.Counting.{changed_all}
use Rattle.hx_quota.specs.SubtreeUsage.{IsReady}
use Rattle.hx_quota.proofs.Staged.{ready_next}
use Rattle.hx_quota.proofs.changing.make_all.Goals as goal

pub loop-change-preserved : goal.loop-change-preserved
loop-change-preserved c =
    let before = c.loop-change in
    let change = c.in-Some.change in
    let rest = into_iter_items c.next.new.self in
    let split : into_iter_items before.change-iterator ≡ change ∷ rest = search rules in
    record {
      ready = ready_next before.counters c.make.new.counters before.totals c.make.new.totals change rest (subst (λ (cs : List CounterChange). IsReady before.counters before.totals cs) split before.invariant.ready)
          c.make.ensures.entries c.make.ensures.totals c.make.ensures.room;
      entries = ap (changed_all rest) c.make.ensures.entries ∙ (rw split at before.invariant.entries);
    }
