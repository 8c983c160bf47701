-- What holds inside a forest.
--     IsReady      the children are those of the nodes, and the prepared changes may be made without taking memory
--     IsKept       that, of the fields of a forest, and each way up comes to a parent, and what is noted is so
use Rattle.std.specs.Prelude.{◌-◌, ◌≤◌, List, length, vec_capacity, vec_len}
use Rattle.std.specs.List.{AllByRecursion}
use Rattle.indexmap.specs.IndexMap.{spare}
use Rattle.hx_forest.specs.Children.{lists_of, IsIndex}
use Rattle.hx_forest.specs.Kept.{MayChangeAll}
use Rattle.hx_forest.specs.ParentRefs.{forest_of, AllLeadUp}
use Rattle.hx_forest.specs.Notes.{AreNoted}
use Rattle.hx_forest.specs.Staged.{IsPrepared, changes_of}
use Rattle.hx_forest.specs.declared.nodes.Nodes.{Nodes}
use Rattle.hx_forest.specs.declared.children.Children.{Children}
use Rattle.hx_forest.specs.declared.prepared.Prepared.{Prepared}
use Rattle.hx_forest.specs.declared.forest.Forest.TheInside.{Inside}

-- the lists are those of the children of the nodes, and the changes may be made one after the other, with room for as many nodes, lists of namespaces and other lists
pub record IsReady (nodes : Nodes) (c : Children) (staged : List Prepared) : Type 0 where
  pub index : IsIndex nodes c (forest_of nodes)
  pub may : MayChangeAll (changes_of staged) (forest_of nodes)
  pub prepared : AllByRecursion (IsPrepared (length staged) (lists_of nodes c)) staged
  pub node_room : length staged ≤ nodes.places.spare
  pub list_room : length staged ≤ vec_capacity c.lists - vec_len c.lists
  pub other_room : length staged ≤ spare c.others

-- the fields of a forest
abbrev pub IsKept : Inside → Type 0
IsKept f = IsReady f.nodes f.children f.staged.items × AllLeadUp f.nodes × AreNoted f.nodes
