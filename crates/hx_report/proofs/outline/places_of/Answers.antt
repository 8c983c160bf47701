use Rattle.std.proofs.Common.{◌≡◌, ◌++◌, ◌+◌, ◌∷◌, drop, filter, sym, ap, ◌∙◌, append-nil}
use Rattle.std.proofs.lemmas.List.{at_drop_more, at_drop_all}
use Rattle.hx_model.specs.Forest.{names_of}
use Rattle.hx_survey.specs.Surveyed.{tree_of}
use Rattle.hx_report.specs.Inside.{list_at}
use Rattle.hx_report.specs.Outline.{stands_below}
use Rattle.hx_report.proofs.Standing.{first_tops, first_below}
use Rattle.hx_report.proofs.outline.places_of.Goals as goal

pub loop-entry-preserved : goal.loop-entry-preserved
loop-entry-preserved c =
    let nodes = c.nodes-nodes.result.now in
    let at = c.loop-entry.entry-index in
    let n = c.entry-item.result.0 in
    let begins : names_of (drop at nodes) ≡ n ∷ names_of (drop (at + 1) nodes) =
    at_drop_more names_of nodes at c.entry-item.result c.loop-entry-test.true ∙ ap (λ (e : _). e.0 ∷ names_of (drop (at + 1) nodes)) (sym c.entry-item.is) in
    record {
      tops = first_tops (tree_of c.args.survey.now) n _ _ _ _ _ _ _ begins c.in_ok-clone.ensures.cases c.in_ok-above.ensures c.in_ok-put.ensures.tops c.loop-entry.invariant.tops;
      below = λ q. first_below (tree_of c.args.survey.now) q n _ _ _ _ _ _ _ begins c.in_ok-clone.ensures.cases c.in_ok-above.ensures (c.in_ok-put.ensures.below q) (c.loop-entry.invariant.below q);
    }

pub returns-clause-below : goal.returns-clause-below
returns-clause-below c = λ q.
    let f = tree_of c.args.survey.now in
    let nodes = c.nodes-nodes.result.now in
    let found = list_at c.loop-entry.places q in
    sym (append-nil found)
    ∙ ap (λ ns. found ++ filter (stands_below f q) ns) (sym (at_drop_all names_of nodes c.loop-entry.entry-index c.loop-entry-test.false))
    ∙ c.loop-entry.invariant.below q
    ∙ ap (λ es. filter (stands_below f q) (names_of es)) c.nodes-nodes.ensures
