use Rattle.std.proofs.Common.{◌≡◌, ◌∙◌, sym, ap, Some, position, ◌==◌}
use Rattle.hx_queue.specs.declared.workers.Handed.{Handed}
use Rattle.hx_queue.proofs.Handing.{found_hand, no_hand}
use Rattle.hx_queue.proofs.workers.brief_of.Goals as goal

pub returns-in-Some : goal.returns-in-Some
returns-in-Some c =
    let place : position (λ (h : Handed). h.worker == c.args.worker) c.args.hands.now.items ≡ Some c.in-Some.place
    = ap (position (λ (h : Handed). h.worker == c.args.worker)) (sym c.as_slice.ensures.value) ∙ sym c.in-Some.ensures in
    sym (found_hand c.args.worker c.in-Some.place c.args.hands.now.items c.index.result.now place c.index.ensures)

pub returns-in-None : goal.returns-in-None
returns-in-None c = sym (no_hand c.args.worker c.args.hands.now.items (ap (position (λ (h : Handed). h.worker == c.args.worker)) (sym c.as_slice.ensures.value) ∙ sym c.in-None.ensures))
