use Rattle.std.proofs.Common.{◌∙◌, ap, List, ℕ}
use Rattle.std.specs.Prelude.{flat_map}
use Rattle.hx_model.specs.Forest.{Forest, chain_of}
use Rattle.hx_model.specs.Moves.{chain_from}
use Rattle.hx_marks.specs.Law.{all_of, live_below}
use Rattle.hx_marks.specs.Links.{way}
use Rattle.hx_marks.proofs.Adding.{grown}
use Rattle.hx_marks.proofs.Linking.{closing_ways}
use Rattle.hx_marks.proofs.moves.closing_marks.Goals as goal

pub returns : goal.returns
returns c =
    let f = c.args.current.now.forest.now.nodes in
    let n = c.args.name.now in
    let objects = c.args.current.now.store.now.objects in
    let above = c.deref.ensures.value ∙ c.in_ok-above.ensures ∙ ap (chain_from f) c.parent-parent.ensures in
    let members = c.deref-2.ensures.value ∙ c.in_ok-members.ensures in
    grown c.all_by_ways.result _ _ _ _
    ((λ i. flat_map (λ (m : List ℕ). all_of objects (way f n (above i) m) m) (members i))
    ∙ closing_ways objects f n c.requires.part
    ∙ ap (λ (t : Forest). flat_map (λ (m : List ℕ). all_of objects (chain_of t m) m) (live_below t n)) c.args.current.now.tree)
    c.all_by_ways.ensures
