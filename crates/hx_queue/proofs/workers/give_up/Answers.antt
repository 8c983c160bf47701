use Rattle.std.proofs.Common.{◌≡◌, ◌∙◌, sym, ap, Some, None, position, ◌==◌}
use Rattle.hx_queue.specs.Tied.{hands_of}
use Rattle.hx_queue.specs.declared.workers.Handed.{Handed}
use Rattle.hx_queue.proofs.Finding.{not_some}
use Rattle.hx_queue.proofs.Handing.{found_hand, no_hand, hands_left, same_hands}
use Rattle.hx_queue.proofs.workers.give_up.Goals as goal

pub returns-in_default-clause-brief : goal.returns-in_default-clause-brief
returns-in_default-clause-brief c =
    let none : c.place_of.result ≡ None = not_some c.place_of.result c.in_default.not-Some in
    sym (no_hand c.args.worker c.args.hands.now.items (ap (position (λ (h : Handed). h.worker == c.args.worker)) (sym c.as_slice.ensures.value) ∙ sym c.place_of.ensures ∙ none))

pub returns-in_default-clause-hands : goal.returns-in_default-clause-hands
returns-in_default-clause-hands c = sym (same_hands c.args.worker (hands_of c.args.hands.now.items) (sym (returns-in_default-clause-brief c)))

pub returns-clause-brief : goal.returns-clause-brief
returns-clause-brief c =
    let place : position (λ (h : Handed). h.worker == c.args.worker) c.args.hands.now.items ≡ Some c.in-Some.place
    = ap (position (λ (h : Handed). h.worker == c.args.worker)) (sym c.as_slice.ensures.value) ∙ sym c.in-Some.ensures in
    sym (found_hand c.args.worker c.in-Some.place c.args.hands.now.items c.remove-brief.result place c.remove-brief.ensures.value)

pub returns-clause-hands : goal.returns-clause-hands
returns-clause-hands c =
    let place : position (λ (h : Handed). h.worker == c.args.worker) c.args.hands.now.items ≡ Some c.in-Some.place
    = ap (position (λ (h : Handed). h.worker == c.args.worker)) (sym c.as_slice.ensures.value) ∙ sym c.in-Some.ensures in
    ap hands_of c.remove-brief.ensures.items ∙ hands_left c.args.worker c.in-Some.place c.args.hands.now.items c.requires place
