use Rattle.std.proofs.Common.{◌≡◌, List, ℕ, Option, None, false, true≢false, sym, ap, subst, ◌∙◌}
use Rattle.std.specs.Prelude.{option_copied, option_and_then, if◌then◌else◌}
use Rattle.std.specs.Str.{bytes_eq}
use Rattle.hx_object.specs.declared.object.Id.{Id}
use Rattle.hx_object.specs.declared.object.Object.{Object}
use Rattle.hx_model.specs.Answers.{case_at}
use Rattle.hx_model.specs.Cases.{any_of, same_name}
use Rattle.hx_model.specs.Conflicts.{makes_conflict, with_written}
use Rattle.hx_model.specs.Forest.{Forest, in_chain, parent_of}
use Rattle.hx_model.specs.RulesHierarchy.{closes_cycle, brought_parent, parent_after}
use Rattle.hx_model.specs.State.{home_in}
use Rattle.hx_model.specs.Tree.{hierarchy, parent_with, forest_of}
use Rattle.hx_admit.specs.Moves.{CanMove, IsMovedBy}
use Rattle.hx_state.specs.Homes.{owner_in, home_in_case}
use Rattle.hx_admit.specs.Ruling.{family_in}
use Rattle.hx_state.proofs.Counting.{valid_served}
use Rattle.hx_state.proofs.Owned.{owner_kept, same_after}
use Rattle.hx_admit.proofs.Ruled.{at_home}
use Rattle.hx_admit.proofs.Moved.{if_ok_by}
use Rattle.hx_admit.proofs.MovedCase.{can_move, moved_by_case}
use Rattle.hx_admit.proofs.findings.moves_into_conflict.Goals as goal

pub returns-then-closes_cycle : goal.returns-then-closes_cycle
returns-then-closes_cycle c =
    let trees : c.forest.result.now.nodes ≡ forest_of c.args.state.now.state = c.forest.ensures in
    λ apart. absurd (true≢false (sym c.if-closes_cycle.true ∙ c.closes_cycle.ensures
    ∙ ap (λ (f : Forest). any_of (λ p. in_chain f p c.args.id.now.ns) (brought_parent (option_copied c.args.old) (option_copied c.args.new))) trees ∙ apart))

pub overwrites_by_move-requires : goal.overwrites_by_move-requires
overwrites_by_move-requires c =
    let trees : c.forest.result.now.nodes ≡ forest_of c.args.state.now.state = c.forest.ensures in
    let home = at_home c.args.state.now.state
    (record { id = c.args.id.now; old = option_copied c.args.old; new = option_copied c.args.new; home = home_in_case c.home_of.result; hnc_config = None; conflict = false; family = family_in c.unasked_family.result; tree = c.forest.result.now.nodes; config = c.config.result.now; skip = false })
    (valid_served c.args.state.now.state c.law_of_validity.ensures) trees c.requires.there (owner_kept (owner_in c.home_of.result) ∙ c.home_of.ensures c.requires.kind) c.requires.kind in
    record {
      moves =
          subst (λ (f : Forest). same_name (parent_of f c.args.id.now.ns) (option_copied c.parent_after.result) ≡ false → CanMove f c.args.id.now.ns (option_copied c.parent_after.result)) trees
          (subst (λ (p : Option (List ℕ)). same_name (parent_of c.forest.result.now.nodes c.args.id.now.ns) p ≡ false → CanMove c.forest.result.now.nodes c.args.id.now.ns p) (sym c.parent_after.ensures)
          (can_move _ home (sym c.closes_cycle.ensures ∙ c.if-closes_cycle.false)));
    }

pub returns : goal.returns
returns c =
    let trees : c.forest.result.now.nodes ≡ forest_of c.args.state.now.state = c.forest.ensures in
    let given = option_copied c.args.new in
    let homes : option_and_then (parent_with given) (home_in_case c.home_of.result) ≡ option_and_then (parent_with given) (home_in c.args.state.now.state.objects c.args.id.now) =
    same_after given _ _ (owner_kept (owner_in c.home_of.result) ∙ c.home_of.ensures c.requires.kind) in
    let parent : option_copied c.parent_after.result ≡ parent_after (case_at c.args.state.now.state c.args.id.now (option_copied c.args.old) (option_copied c.args.new) false) =
    c.parent_after.ensures ∙ (λ i. if bytes_eq c.args.id.now.name hierarchy then homes i else parent_of (trees i) c.args.id.now.ns) in
    let moved : IsMovedBy c.args.state.now.state c.args.id.now.ns (option_copied c.parent_after.result) c.args.id.now (option_copied c.args.new) =
    subst (λ (p : Option (List ℕ)). IsMovedBy c.args.state.now.state c.args.id.now.ns p c.args.id.now (option_copied c.args.new)) (sym parent) (moved_by_case c.args.state.now.state c.args.id.now (option_copied c.args.old) (option_copied c.args.new) false c.requires.kind c.requires.given) in
    if_ok_by
    (λ makes. (id : Id) → (new : Option Object) → IsMovedBy c.args.state.now.state c.args.id.now.ns (option_copied c.parent_after.result) id new → makes ≡ makes_conflict c.args.state.now.state (with_written c.args.state.now.state id new))
    (λ makes. closes_cycle (case_at c.args.state.now.state c.args.id.now (option_copied c.args.old) (option_copied c.args.new) false) ≡ false → makes ≡ makes_conflict c.args.state.now.state (with_written c.args.state.now.state c.args.id.now (option_copied c.args.new)))
    c.overwrites_by_move.result
    (λ found is _. is c.args.id.now (option_copied c.args.new) moved)
    c.overwrites_by_move.ensures
