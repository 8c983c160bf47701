use Rattle.std.proofs.Common.{◌≡◌, ◌-◌, ◌≤◌, ℕ, List, option_map}
use Rattle.std.specs.Prelude.{vec_capacity, vec_len}
use Rattle.std.specs.List.{AllWithin}
use Rattle.indexmap.specs.IndexMap.{spare}
use Rattle.hx_forest.specs.Names.{NamesView}
use Rattle.hx_forest.specs.Children.{lists_of, IsTied}
use Rattle.hx_forest.specs.Staged.{FitsUnder}
use Rattle.hx_forest.proofs.prepared.reserve_lists.Given as goal

-- the lists have the names that they had, and those of the changes so far have room
abbrev pub invariant-loop-one : goal.invariant-loop-one
invariant-loop-one l = record {
  names : (q : List ℕ) → option_map (λ (n : NamesView). n.names) (lists_of l.nodes l.children q) ≡ option_map (λ (n : NamesView). n.names) (lists_of l.nodes l.initial.children q);
  tied : IsTied l.nodes l.children;
  room : vec_capacity l.initial.children.lists - vec_len l.initial.children.lists ≤ vec_capacity l.children.lists - vec_len l.children.lists;
  other_room : spare l.initial.children.others ≤ spare l.children.others;
  fits : AllWithin (λ p. FitsUnder l.room (lists_of l.nodes l.children) p.link) l.prepared 0 l.one-index;
}
