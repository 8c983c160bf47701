-- The move of a case of the rules.
--     can_move         where the parent changes and no cycle is closed, the namespace may get the new one
--     moved_by_case    the write of a case leaves the parent that the rules look at
use Rattle.std.specs.Prelude.{IfSome, option_and_then, if◌then◌else◌}
use Rattle.std.proofs.Common.{◌≡◌, Bool, true, false, not, Option, refl, ap}
use Rattle.std.specs.Str.{bytes_eq}
use Rattle.hx_object.specs.declared.object.Id.{Id}
use Rattle.hx_object.specs.declared.object.Object.{Object}
use Rattle.hx_model.specs.Answers.{case_at}
use Rattle.hx_model.specs.Cases.{Case, same_name}
use Rattle.hx_model.specs.Forest.{parent_of}
use Rattle.hx_model.specs.Limits.{is_hierarchy}
use Rattle.hx_model.specs.RulesHierarchy.{changes_parent, parent_after, closes_cycle}
use Rattle.hx_model.specs.State.{State}
use Rattle.hx_model.specs.Tree.{hierarchy, parent_with, forest_of}
use Rattle.hx_model.proofs.Planting.{home_of_hierarchy}
use Rattle.hx_admit.specs.Moves.{CanMove, IsMovedBy}
use Rattle.hx_admit.specs.Ruling.{IsAtHome}
use Rattle.hx_admit.proofs.Ruling.{moves_there, moves_apart}

-- where the parent changes and no cycle is closed, the namespace may get the new one
pub can_move : (c : Case) → IsAtHome c → closes_cycle c ≡ false → same_name (parent_of c.tree c.id.ns) (parent_after c) ≡ false → CanMove c.tree c.id.ns (parent_after c)
can_move c at_home open_chain differs =
    let moves : changes_parent c ≡ true = ap not differs in
    record { there = moves_there c at_home moves; apart = moves_apart c at_home open_chain moves }

-- the write of a case leaves the parent that the rules look at
pub moved_by_case : (s : State) (id : Id) (old new : Option Object) (skip : Bool) → is_hierarchy id.kind ≡ true → IfSome new (λ x. x.id ≡ id) → IsMovedBy s id.ns (parent_after (case_at s id old new skip)) id new
moved_by_case s id old new skip is placed = record {
  kind = is;
  home = refl;
  placed = placed;
  named = ap (λ home. if bytes_eq id.name hierarchy then option_and_then (parent_with new) home else parent_of (forest_of s) id.ns) (home_of_hierarchy s.objects id is);
}
