use Rattle.std.proofs.Common.{◌≡◌, []}
use Rattle.std.specs.Vec.Iter.{into_iter_items}
use Rattle.hx_forest.specs.Kept.{changed_by_all}
use Rattle.hx_forest.specs.ParentRefs.{forest_of, AllLeadUp}
use Rattle.hx_forest.specs.Notes.{AreNoted}
use Rattle.hx_forest.specs.Staged.{changes_of}
use Rattle.hx_forest.specs.Invariant.{IsReady}
use Rattle.hx_forest.proofs.forest.Forest.apply.Given as goal

-- the changes that are left lead to the same nodes, and are ready; each way up comes to a parent, and what is noted is so
abbrev pub invariant-loop-prepared : goal.invariant-loop-prepared
invariant-loop-prepared l = record {
  nodes : changed_by_all (changes_of (into_iter_items l.prepared-iterator)) (forest_of l.self-inside.nodes) ≡ changed_by_all l.fn.self.staged l.fn.self.nodes;
  none : l.self-inside.staged.items ≡ [];
  ready : IsReady l.self-inside.nodes l.self-inside.children (into_iter_items l.prepared-iterator);
  parent_refs : AllLeadUp l.self-inside.nodes;
  notes : AreNoted l.self-inside.nodes;
}
