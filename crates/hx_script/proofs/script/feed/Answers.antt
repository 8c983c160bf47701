use Rattle.std.proofs.Common.{arith, refl, length-drop, take, ap, ◌∙◌, ◌++◌}
use Rattle.std.proofs.lemmas.List.{take_rest}
use Rattle.hx_ports.proofs.Writing.{calm_on, on_err_all}
use Rattle.hx_script.specs.Running.{most_kept}
use Rattle.hx_script.proofs.Kept.{IsWaiting-keep}
use Rattle.hx_script.proofs.Pieces.{add_back, Feeds-none, Feeds-line, Feeds-rest, IsKept-line, IsKept-rest, Cuts-line, Cuts-rest}
use Rattle.hx_script.proofs.Unended.{IsKept-start}
use Rattle.hx_script.proofs.script.feed.Goals as goal

pub loop-end-init : goal.loop-end-init
loop-end-init g c = record { within = omega arith; waits = c.requires.waits; kept = IsKept-start c.args.waiting.now.items c.requires.waits; idle = c.requires.idle; calm = record { faults = refl; stalls = refl }; feeds = Feeds-none _ _ _ }

pub loop-end-preserved : goal.loop-end-preserved
loop-end-preserved g c =
    let ends = rw (take_rest c.args.piece.now c.loop-end.at) at c.in-Some.ensures.found in
    let answered = rw (add_back c.loop-end.at c.in-Some.end) at c.in_ok-end_line.ensures.does in
    rw c.in_ok-end_line.ensures.cleared (record {
      within = omega (arith, ends.within, length-drop c.loop-end.at c.args.piece.now);
      waits = record { no_end = tt; few = omega arith };
      kept = IsKept-line c.args.waiting.now.items c.args.piece.now c.loop-end.at c.in-Some.end ends;
      idle = c.in_ok-end_line.ensures.idle;
      calm = calm_on _ _ _ c.loop-end.invariant.calm c.in_ok-end_line.ensures.still;
      feeds = Feeds-line _ _ _ _ _ _ _ _ _ _ _ c.loop-end.invariant.feeds c.loop-end.invariant.waits ends answered;
    })

pub returns-in_err-end_line-clause-cut : goal.returns-in_err-end_line-clause-cut
returns-in_err-end_line-clause-cut g c =
    let ends = rw (take_rest c.args.piece.now c.loop-end.at) at c.in-Some.ensures.found in
    let cut = rw (add_back c.loop-end.at c.in-Some.end) at c.in_err-end_line.ensures.cut in
    on_err_all _ (Cuts-line _ _ _ _ _ _ _ _ _ _ _ c.loop-end.invariant.feeds c.loop-end.invariant.waits ends cut)

pub returns-in_err-keep-clause-cut : goal.returns-in_err-keep-clause-cut
returns-in_err-keep-clause-cut g c = on_err_all _ (Cuts-rest _ _ _ _ _ _ _ _ c.loop-end.invariant.feeds)

pub returns-clause-waits : goal.returns-clause-waits
returns-clause-waits g c = rw (c.in_ok-keep.ensures) (IsWaiting-keep _ _ c.loop-end.invariant.waits.no_end c.in_default.ensures.none)

pub returns-clause-feeds : goal.returns-clause-feeds
returns-clause-feeds g c =
    let none = rw (take_rest c.args.piece.now c.loop-end.at) at c.in_default.ensures.none in
    let kept = c.in_ok-keep.ensures ∙ ap (λ l. take most_kept (c.loop-end.waiting.items ++ l)) (take_rest c.args.piece.now c.loop-end.at) in
    rw kept (Feeds-rest _ _ _ _ _ _ _ _ c.loop-end.invariant.feeds c.loop-end.invariant.waits none)

pub returns-clause-kept : goal.returns-clause-kept
returns-clause-kept g c =
    let none = rw (take_rest c.args.piece.now c.loop-end.at) at c.in_default.ensures.none in
    let kept = c.in_ok-keep.ensures ∙ ap (λ l. take most_kept (c.loop-end.waiting.items ++ l)) (take_rest c.args.piece.now c.loop-end.at) in
    rw kept (IsKept-rest c.args.waiting.now.items c.args.piece.now c.loop-end.waiting.items c.loop-end.at c.loop-end.invariant.kept none)
