use Rattle.std.proofs.Common.{◌≡◌, ◌≤◌}
use Rattle.std.specs.Map.{keys_of}
use Rattle.hx_forest.specs.ParentRefs.{forest_of, AllLeadUp}
use Rattle.hx_forest.specs.Notes.{AreNoted}
use Rattle.hx_forest.proofs.nodes.Nodes.find_parent_refs.Given as goal

-- the nodes stay
abbrev pub invariant-loop-name : goal.invariant-loop-name
invariant-loop-name l = record {
  nodes : forest_of l.self ≡ forest_of l.initial.self;
  names : keys_of l.self.places.entries ≡ keys_of l.initial.self.places.entries;
  parent_refs : AllLeadUp l.initial.self → AllLeadUp l.self;
  notes : AreNoted l.initial.self → AreNoted l.self;
  room : l.initial.self.places.spare ≤ l.self.places.spare;
}
