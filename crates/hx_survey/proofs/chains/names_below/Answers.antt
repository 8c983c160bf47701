use Rattle.std.proofs.Common.{rules, ◌≡◌, ◌==◌, ◌∙◌, ℕ, List, Some, length, refl, sym}
use Rattle.std.specs.Prelude.{slice_get}
use Rattle.std.proofs.lemmas.Option.{slice_get_read}
use Rattle.hx_model.specs.declared.node.Node.{Node}
use Rattle.hx_survey.specs.Inside.{place_of, walk_at}
use Rattle.hx_survey.proofs.Placed.{place_at_index, name_kept, name_passed}
use Rattle.hx_survey.proofs.chains.names_below.Goals.{then-is_below+in_ok-clone+in_ok-push, else-is_below}
use Rattle.hx_survey.proofs.chains.names_below.Goals as goal

pub is_below-requires : goal.is_below-requires
is_below-requires c =
    let e = c.index-nodes-place.result in
    place_at_index c.args.nodes.now c.loop-place.place e.0 e.1 c.requires (slice_get_read c.args.nodes.now (length c.args.nodes.now) c.loop-place.place e refl c.loop-place-test.true c.index-nodes-place.is)

pub loop-place-preserved : goal.loop-place-preserved
loop-place-preserved c =
    let f = c.args.nodes.now in
    let e = c.index-nodes-place.result in
    let passes = λ (x : List ℕ × Node). walk_at (λ place. place == c.args.sought) (length c.args.ups.now) c.args.ups.now (place_of f x.0) in
    let here : slice_get f c.loop-place.place ≡ Some e = slice_get_read f (length f) c.loop-place.place e refl c.loop-place-test.true c.index-nodes-place.is in
    elim c.if-is_below.branch [
      | then-is_below+in_ok-clone+in_ok-push w ↦
          let copy : w.in_ok-clone.field-0 ≡ e.0 = search rules in
          rw (w.names-is, w.in_ok-push.ensures.items, copy) (name_kept passes f c.loop-place.place e c.loop-place.names.items _ here (sym c.is_below.ensures ∙ w.if-is_below.true) c.loop-place.invariant)
      | else-is_below w ↦
          rw w.names-is (name_passed passes f c.loop-place.place e c.loop-place.names.items _ here (sym c.is_below.ensures ∙ w.if-is_below.false) c.loop-place.invariant)
    ]
