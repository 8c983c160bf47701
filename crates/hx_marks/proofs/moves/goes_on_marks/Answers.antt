use Rattle.std.proofs.Common.{◌∙◌, ap}
use Rattle.std.specs.Prelude.{flat_map, option_copied}
use Rattle.hx_model.specs.Forest.{Forest}
use Rattle.hx_model.specs.Moves.{chain_from}
use Rattle.hx_marks.specs.Law.{all_sent, in_one, live_below, sent_marks}
use Rattle.hx_marks.proofs.Adding.{grown}
use Rattle.hx_marks.proofs.moves.goes_on_marks.Goals as goal

pub returns : goal.returns
returns c =
    let sent = c.deref.ensures.value ∙ c.in_ok-sent.ensures in
    let members = c.deref-2.ensures.value ∙ c.in_ok-members.ensures in
    grown c.sent_marks.result _ _ _ _
    ((λ i. flat_map (sent_marks (sent i)) (members i))
    ∙ ap (λ (f : Forest). flat_map (sent_marks (all_sent c.args.current.now.store.now.objects (in_one (chain_from f (option_copied c.args.old)) (chain_from f (option_copied c.args.new))))) (live_below f c.args.name.now)) c.args.current.now.tree)
    c.sent_marks.ensures
