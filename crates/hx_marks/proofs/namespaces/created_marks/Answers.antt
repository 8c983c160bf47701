use Rattle.std.proofs.Common.{◌++◌, ◌∷◌, ℕ, List, ◌∙◌, ap}
use Rattle.std.specs.Prelude.{flat_map, option_copied}
use Rattle.hx_model.specs.Forest.{Forest, chain_of}
use Rattle.hx_model.specs.Moves.{chain_from}
use Rattle.hx_marks.specs.Law.{all_of, asking_keys, below_created}
use Rattle.hx_marks.proofs.Adding.{grown_on}
use Rattle.hx_marks.proofs.namespaces.created_marks.Goals as goal

pub returns : goal.returns
returns c =
    let above = c.deref.ensures.value ∙ c.in_ok-above.ensures in
    let members = c.deref-2.ensures.value ∙ c.in_ok-members.ensures in
    let asking = asking_keys c.args.current.now.store.now.objects c.args.name.now in
    grown_on c.asking_keys.result _ _ c.args.keys.now.items _ asking _ c.in_ok-marks_under.ensures
    ((λ i. flat_map (λ (m : List ℕ). all_of c.args.current.now.store.now.objects (chain_of c.args.current.now.forest.now.nodes m ++ c.args.name.now ∷ above i) m) (members i) ++ asking)
    ∙ ap (λ (f : Forest). flat_map (λ (m : List ℕ). all_of c.args.current.now.store.now.objects (chain_of f m ++ c.args.name.now ∷ chain_from f (option_copied c.args.parent)) m) (below_created f c.args.name.now) ++ asking) c.args.current.now.tree)
    c.asking_keys.ensures
