use Rattle.std.proofs.Common.{ℕ, List, length, take, ap, sym, ◌∙◌}
use Rattle.std.proofs.lemmas.List.{take_all}
use Rattle.hx_overlay.specs.Changes.{changed, changed_by}
use Rattle.hx_overlay.proofs.ChangedBy.{changed_by-more}
use Rattle.hx_overlay.proofs.changing.len_behind.Goals as goal

pub loop-change-preserved : goal.loop-change-preserved
loop-change-preserved c file was =
    let changes = c.args.changes.now in
    let i = c.loop-change.change-index in
    c.len-len.ensures (changed_by (take i changes) file) (c.loop-change.invariant file was)
    ∙ sym (ap (λ (new : List ℕ). length new) (changed_by-more changes i c.change-item.result file c.loop-change-test.true
    ∙ ap (λ change. changed change (changed_by (take i changes) file)) (sym c.change-item.is)))

pub returns : goal.returns
returns c file was =
    c.loop-change.invariant file was
    ∙ ap (λ done. length (changed_by done file)) (take_all c.loop-change.change-index c.args.changes.now c.loop-change-test.false)
