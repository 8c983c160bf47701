use Rattle.std.proofs.Common.{◌++◌, ◌∷◌, ℕ, List, ◌∙◌, ap}
use Rattle.std.specs.Prelude.{flat_map, option_copied}
use Rattle.hx_model.specs.Forest.{Forest, chain_of}
use Rattle.hx_model.specs.Moves.{chain_from, up_to}
use Rattle.hx_marks.specs.Law.{all_of, live_below}
use Rattle.hx_marks.proofs.Adding.{grown}
use Rattle.hx_marks.proofs.moves.opening_marks.Goals as goal

pub returns : goal.returns
returns c =
    let above = c.deref.ensures.value ∙ c.in_ok-above.ensures in
    let members = c.deref-2.ensures.value ∙ c.in_ok-members.ensures in
    grown c.all_by_ways.result _ _ _ _
    ((λ i. flat_map (λ (m : List ℕ). all_of c.args.current.now.store.now.objects (up_to c.args.name.now (chain_of c.args.current.now.forest.now.nodes m) ++ c.args.name.now ∷ above i) m) (members i))
    ∙ ap (λ (f : Forest). flat_map (λ (m : List ℕ). all_of c.args.current.now.store.now.objects (up_to c.args.name.now (chain_of f m) ++ c.args.name.now ∷ chain_from f (option_copied c.args.new)) m) (live_below f c.args.name.now)) c.args.current.now.tree)
    c.all_by_ways.ensures
