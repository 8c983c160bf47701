use Rattle.std.specs.Prelude.{◌≡◌}
use Rattle.std.specs.Vec.Iter.{into_iter_items}
use Rattle.hx_quota.specs.Counting.{changed_all}
use Rattle.hx_quota.specs.SubtreeUsage.{IsReady}
use Rattle.hx_quota.proofs.changing.make_all.Given as goal

-- the changes that are left are ready, and lead to the same entries
abbrev pub invariant-loop-change : goal.invariant-loop-change
invariant-loop-change l = record {
  ready : IsReady l.counters l.totals (into_iter_items l.change-iterator);
  entries : changed_all (into_iter_items l.change-iterator) l.counters.entries ≡ changed_all l.fn.changes.items l.fn.counters.entries;
}
