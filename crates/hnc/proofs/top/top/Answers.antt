use Rattle.std.proofs.Common.{◌≡◌, ◌∙◌, Some, true, ap, inl, inr, refl, subst, sym}
use Rattle.hnc.proofs.Leaving.{Starts, cut_by_fault, ends_unharmed, nothing_printed, of_report, of_report-front, of_run-front, of_run-long, of_run-read, of_run-whole, reads_of, report_ends, runs_of, starts_on, not_done, still_ok, told_as, wants_memory}
use Rattle.std.specs.Prelude.{IsErr, IsOk}
use Rattle.hnc.proofs.Linking.{of_serving, serves_of}
use Rattle.hnc.proofs.MakingLeft.{makes_of, making_cut, making_ends, of_making-front, of_making-part, of_making-whole}
use Rattle.hnc.specs.Headline.{is_complete, is_cut_short}
use Rattle.hnc.specs.declared.top.Status.{Status}
use Rattle.hnc.specs.declared.top.Status.TheVariants as ending
use Rattle.hnc.proofs.top.top.Given.{Over}
use Rattle.hnc.proofs.top.top.Goals as goal

-- what a run stands on
started : (g : Over) (c : goal.After-drop-task-in-Run g) → Starts c.in-Ok.command (g.K.Keeper.shown c.args.keeper) c.in-Ok-start.cluster
started g c =
    let attached = c.in_default.ensures in
    let begun = c.in-Ok-start.ensures in
    starts_on c.in-Ok.command (g.K.Keeper.shown c.args.keeper) (g.K.Keeper.shown c.attach.new.self) c.in-Ok-start.cluster (attached.place ∙ ap Some c.as_str.ensures.value) attached.same attached.whole attached.watchers _ attached.cause begun.keeper begun.opens begun.config begun.valid begun.holds begun.undamaged

-- the same of a report
begun_to_read : (g : Over) (c : goal.After-drop-task-in-Print g) → Starts c.in-Ok.command (g.K.Keeper.shown c.args.keeper) c.in-Ok-start.cluster
begun_to_read g c =
    let attached = c.in_default.ensures in
    let begun = c.in-Ok-start.ensures in
    starts_on c.in-Ok.command (g.K.Keeper.shown c.args.keeper) (g.K.Keeper.shown c.attach.new.self) c.in-Ok-start.cluster (attached.place ∙ ap Some c.as_str.ensures.value) attached.same attached.whole attached.watchers _ attached.cause begun.keeper begun.opens begun.config begun.valid begun.holds begun.undamaged

pub returns-in-Err-start-clause-complete : goal.returns-in-Err-start-clause-complete
returns-in-Err-start-clause-complete g c = λ _ _ _ calm _ sound.
    ap is_complete (wants_memory c.status_of_start.result c.in-Err-start.field-0.fault (g.K.Keeper.shown c.args.keeper) (g.K.Keeper.shown c.attach.new.self) (g.K.Keeper.shown c.in-Err-start.field-0.keeper).faults c.status_of_start.ensures.unbegun c.status_of_start.ensures.keeper_fault
    c.status_of_start.ensures.damaged (still_ok (g.K.Keeper.shown c.args.keeper).faults (g.K.Keeper.shown c.attach.new.self).faults _ c.in_default.ensures.cause) c.in-Err-start.ensures.failed calm c.in_default.ensures.same sound c.in-Err-start.ensures.damaged)

pub returns-in-Run-clause-done : goal.returns-in-Run-clause-done
returns-in-Run-clause-done g c = λ e.
    inl (of_run-whole _ c.in-Ok.command (g.S.Source.shown c.args.source.now) (g.W.Sink.shown c.args.sink.now) (g.W.Sink.shown c.run_script-end.new.sink) (g.K.Keeper.shown c.args.keeper) (g.K.Keeper.shown c.end_with-in-Run.result.keeper) c.in-Ok-start.cluster c.run_script-end.new.cluster
    (runs_of _ c.in-Ok.command c.in-Ok.ensures.words c.in-Run.is) (started g c) (ap g.K.Keeper.shown c.end_with-in-Run.ensures.1 ∙ c.close.ensures.keeper) (c.run_script-end.ensures.done (c.status_of_end.ensures.done (sym c.end_with-in-Run.ensures.0 ∙ e))))

pub returns-in-Run-clause-cut : goal.returns-in-Run-clause-cut
returns-in-Run-clause-cut g c = λ e.
    inl (of_run-front _ c.in-Ok.command (g.S.Source.shown c.args.source.now) (g.W.Sink.shown c.args.sink.now) (g.W.Sink.shown c.run_script-end.new.sink) (g.K.Keeper.shown c.args.keeper) (g.K.Keeper.shown c.end_with-in-Run.result.keeper) c.in-Ok-start.cluster c.run_script-end.new.cluster
    (runs_of _ c.in-Ok.command c.in-Ok.ensures.words c.in-Run.is) (started g c) (ap g.K.Keeper.shown c.end_with-in-Run.ensures.1 ∙ c.close.ensures.keeper) (c.run_script-end.ensures.cut (c.status_of_end.ensures.cut (ap is_cut_short (sym c.end_with-in-Run.ensures.0) ∙ e))))

pub returns-in-Run-clause-memory : goal.returns-in-Run-clause-memory
returns-in-Run-clause-memory g c = λ e.
    inr (inl (of_run-front _ c.in-Ok.command (g.S.Source.shown c.args.source.now) (g.W.Sink.shown c.args.sink.now) (g.W.Sink.shown c.run_script-end.new.sink) (g.K.Keeper.shown c.args.keeper) (g.K.Keeper.shown c.end_with-in-Run.result.keeper) c.in-Ok-start.cluster c.run_script-end.new.cluster
    (runs_of _ c.in-Ok.command c.in-Ok.ensures.words c.in-Run.is) (started g c) (ap g.K.Keeper.shown c.end_with-in-Run.ensures.1 ∙ c.close.ensures.keeper) (c.run_script-end.ensures.cut (not_done _ (c.status_of_end.ensures.memory (sym c.end_with-in-Run.ensures.0 ∙ e))))))

pub returns-in-Run-clause-unread : goal.returns-in-Run-clause-unread
returns-in-Run-clause-unread g c = λ e.
    of_run-read _ c.in-Ok.command (g.S.Source.shown c.args.source.now) (g.S.Source.shown c.run_script-end.new.source) (g.W.Sink.shown c.args.sink.now) (g.W.Sink.shown c.run_script-end.new.sink) (g.K.Keeper.shown c.args.keeper) (g.K.Keeper.shown c.end_with-in-Run.result.keeper) c.in-Ok-start.cluster c.run_script-end.new.cluster
    (runs_of _ c.in-Ok.command c.in-Ok.ensures.words c.in-Run.is) (started g c) (ap g.K.Keeper.shown c.end_with-in-Run.ensures.1 ∙ c.close.ensures.keeper) (c.run_script-end.ensures.unread (c.status_of_end.ensures.read_fault (sym c.end_with-in-Run.ensures.0 ∙ e)))

pub returns-in-Run-clause-unsettled : goal.returns-in-Run-clause-unsettled
returns-in-Run-clause-unsettled g c = λ e. absurd (c.status_of_end.ensures.scripted.0 (sym c.end_with-in-Run.ensures.0 ∙ e))

pub returns-in-Run-clause-not_found : goal.returns-in-Run-clause-not_found
returns-in-Run-clause-not_found g c = λ e. absurd (c.status_of_end.ensures.scripted.1 (sym c.end_with-in-Run.ensures.0 ∙ e))

pub returns-in-Run-clause-too_long : goal.returns-in-Run-clause-too_long
returns-in-Run-clause-too_long g c = λ e.
    of_run-long _ c.in-Ok.command (g.S.Source.shown c.args.source.now) (g.W.Sink.shown c.args.sink.now) (g.W.Sink.shown c.run_script-end.new.sink) (g.K.Keeper.shown c.args.keeper) (g.K.Keeper.shown c.end_with-in-Run.result.keeper) c.in-Ok-start.cluster c.run_script-end.new.cluster
    (runs_of _ c.in-Ok.command c.in-Ok.ensures.words c.in-Run.is) (started g c) (ap g.K.Keeper.shown c.end_with-in-Run.ensures.1 ∙ c.close.ensures.keeper) (c.run_script-end.ensures.too_long (c.status_of_end.ensures.too_long (sym c.end_with-in-Run.ensures.0 ∙ e)))

pub returns-in-Print-clause-done : goal.returns-in-Print-clause-done
returns-in-Print-clause-done g c = λ e.
    inr (inl (of_report _ c.in-Ok.command c.in-Print.report ending.Done (g.W.Sink.shown c.args.sink.now) (g.W.Sink.shown c.print-status.new.sink) (g.K.Keeper.shown c.args.keeper) (g.K.Keeper.shown c.end_with-in-Print.result.keeper) c.in-Ok-start.cluster
    (reads_of _ c.in-Ok.command _ c.in-Ok.ensures.words c.in-Print.is) (begun_to_read g c) c.in-Print.is (ap g.K.Keeper.shown c.end_with-in-Print.ensures.1 ∙ c.close-in-Print.ensures.keeper)
    (told_as c.in-Print.report c.print-status.result ending.Done c.in-Ok-start.cluster.state (g.W.Sink.shown c.args.sink.now) (g.W.Sink.shown c.print-status.new.sink) (sym c.end_with-in-Print.ensures.0 ∙ e) refl c.print-status.ensures.told)))

pub returns-in-Print-clause-cut : goal.returns-in-Print-clause-cut
returns-in-Print-clause-cut g c = λ e.
    inr (inl (of_report-front _ c.in-Ok.command c.in-Print.report (g.W.Sink.shown c.args.sink.now) (g.W.Sink.shown c.print-status.new.sink) (g.K.Keeper.shown c.args.keeper) (g.K.Keeper.shown c.end_with-in-Print.result.keeper) c.in-Ok-start.cluster
    (reads_of _ c.in-Ok.command _ c.in-Ok.ensures.words c.in-Print.is) (begun_to_read g c) c.in-Print.is (ap g.K.Keeper.shown c.end_with-in-Print.ensures.1 ∙ c.close-in-Print.ensures.keeper)
    (c.print-status.ensures.cut (cut_by_fault c.print-status.result c.print-status.ensures.ends (ap is_cut_short (sym c.end_with-in-Print.ensures.0) ∙ e)))))

pub returns-in-Print-clause-not_found : goal.returns-in-Print-clause-not_found
returns-in-Print-clause-not_found g c = λ e.
    of_report _ c.in-Ok.command c.in-Print.report ending.NotFound (g.W.Sink.shown c.args.sink.now) (g.W.Sink.shown c.print-status.new.sink) (g.K.Keeper.shown c.args.keeper) (g.K.Keeper.shown c.end_with-in-Print.result.keeper) c.in-Ok-start.cluster
    (reads_of _ c.in-Ok.command _ c.in-Ok.ensures.words c.in-Print.is) (begun_to_read g c) c.in-Print.is (ap g.K.Keeper.shown c.end_with-in-Print.ensures.1 ∙ c.close-in-Print.ensures.keeper)
    (told_as c.in-Print.report c.print-status.result ending.NotFound c.in-Ok-start.cluster.state (g.W.Sink.shown c.args.sink.now) (g.W.Sink.shown c.print-status.new.sink) (sym c.end_with-in-Print.ensures.0 ∙ e) refl c.print-status.ensures.told)

pub returns-in-Run-clause-write_fault : goal.returns-in-Run-clause-write_fault
returns-in-Run-clause-write_fault g c = λ e. c.run_script-end.ensures.write_fault (c.status_of_end.ensures.write_fault (sym c.end_with-in-Run.ensures.0 ∙ e))

pub returns-in-Run-clause-read_calm : goal.returns-in-Run-clause-read_calm
returns-in-Run-clause-read_calm g c = λ other. c.run_script-end.ensures.read_calm (λ e. other (c.end_with-in-Run.ensures.0 ∙ c.status_of_end.ensures.reads e))

pub returns-in-Run-clause-write_calm : goal.returns-in-Run-clause-write_calm
returns-in-Run-clause-write_calm g c = λ other. c.run_script-end.ensures.write_calm (λ e. other (c.end_with-in-Run.ensures.0 ∙ c.status_of_end.ensures.writes e))

pub returns-in-Run-clause-complete : goal.returns-in-Run-clause-complete
returns-in-Run-clause-complete g c = λ _ unread unwritten _ _ _.
    subst (λ (status : Status). is_complete status ≡ true) (sym c.end_with-in-Run.ensures.0)
    (ends_unharmed c.status_of_end.result _ _ c.status_of_end.ensures.begun c.status_of_end.ensures.scripted.2 (λ e. c.run_script-end.ensures.read_fault (c.status_of_end.ensures.read_fault e)) (λ e. c.run_script-end.ensures.write_fault (c.status_of_end.ensures.write_fault e)) unread unwritten)

pub returns-in-Print-clause-memory : goal.returns-in-Print-clause-memory
returns-in-Print-clause-memory g c = λ e.
    inl (nothing_printed _ c.in-Ok.command _ _ _ (g.K.Keeper.shown c.args.keeper) (g.K.Keeper.shown c.end_with-in-Print.result.keeper) c.in-Ok-start.cluster c.in-Ok.ensures.words (begun_to_read g c)
    (ap g.K.Keeper.shown c.end_with-in-Print.ensures.1 ∙ c.close-in-Print.ensures.keeper) (c.print-status.ensures.unwritten (sym c.end_with-in-Print.ensures.0 ∙ e)))

pub returns-in-Print-clause-unsettled : goal.returns-in-Print-clause-unsettled
returns-in-Print-clause-unsettled g c = λ e.
    of_report _ c.in-Ok.command c.in-Print.report ending.Unsettled (g.W.Sink.shown c.args.sink.now) (g.W.Sink.shown c.print-status.new.sink) (g.K.Keeper.shown c.args.keeper) (g.K.Keeper.shown c.end_with-in-Print.result.keeper) c.in-Ok-start.cluster
    (reads_of _ c.in-Ok.command _ c.in-Ok.ensures.words c.in-Print.is) (begun_to_read g c) c.in-Print.is (ap g.K.Keeper.shown c.end_with-in-Print.ensures.1 ∙ c.close-in-Print.ensures.keeper)
    (told_as c.in-Print.report c.print-status.result ending.Unsettled c.in-Ok-start.cluster.state (g.W.Sink.shown c.args.sink.now) (g.W.Sink.shown c.print-status.new.sink) (sym c.end_with-in-Print.ensures.0 ∙ e) refl c.print-status.ensures.told)

pub returns-in-Print-clause-write_fault : goal.returns-in-Print-clause-write_fault
returns-in-Print-clause-write_fault g c = λ e. c.print-status.ensures.write_fault (sym c.end_with-in-Print.ensures.0 ∙ e)

pub returns-in-Print-clause-complete : goal.returns-in-Print-clause-complete
returns-in-Print-clause-complete g c = λ _ _ unwritten _ _ _.
    subst (λ (status : Status). is_complete status ≡ true) (sym c.end_with-in-Print.ensures.0)
    (report_ends c.print-status.result _ c.print-status.ensures.ends c.print-status.ensures.write_fault unwritten)

pub returns-in-Run-clause-left : goal.returns-in-Run-clause-left
returns-in-Run-clause-left g c = λ e. absurd (c.status_of_end.ensures.scripted.2 (sym c.end_with-in-Run.ensures.0 ∙ e))

pub returns-in-Run-clause-door_fault : goal.returns-in-Run-clause-door_fault
returns-in-Run-clause-door_fault g c = λ e. absurd (c.status_of_end.ensures.scripted.2 (sym c.end_with-in-Run.ensures.0 ∙ e))

-- what serving stands on
serving_started : (g : Over) (c : goal.After-drop-task-in-Serve g) → Starts c.in-Ok.command (g.K.Keeper.shown c.args.keeper) c.in-Ok-start.cluster
serving_started g c =
    let attached = c.in_default.ensures in
    let begun = c.in-Ok-start.ensures in
    starts_on c.in-Ok.command (g.K.Keeper.shown c.args.keeper) (g.K.Keeper.shown c.attach.new.self) c.in-Ok-start.cluster (attached.place ∙ ap Some c.as_str.ensures.value) attached.same attached.whole attached.watchers _ attached.cause begun.keeper begun.opens begun.config begun.valid begun.holds begun.undamaged

pub returns-in-Serve-clause-done : goal.returns-in-Serve-clause-done
returns-in-Serve-clause-done g c = λ e.
    inr (inr (inl (of_serving IsOk _ c.in-Ok.command c.in-Serve.serving (g.D.Door.shown c.args.door) (g.D.Door.shown c.serve_at.result.door) (g.K.Keeper.shown c.args.keeper) (g.K.Keeper.shown c.serve_at.result.keeper) c.in-Ok-start.cluster
    (serves_of _ c.in-Ok.command c.in-Serve.serving c.in-Ok.ensures.words c.in-Serve.is) c.in-Serve.is (serving_started g c) (c.serve_at.ensures.served e))))

pub returns-in-Serve-clause-left : goal.returns-in-Serve-clause-left
returns-in-Serve-clause-left g c = λ e. elim (c.serve_at.ensures.left e) [
  | inl kept ↦ inl (nothing_printed _ c.in-Ok.command _ _ _ (g.K.Keeper.shown c.args.keeper) (g.K.Keeper.shown c.serve_at.result.keeper) c.in-Ok-start.cluster c.in-Ok.ensures.words (serving_started g c) kept refl)
  | inr has ↦ inr (of_serving IsErr _ c.in-Ok.command c.in-Serve.serving (g.D.Door.shown c.args.door) (g.D.Door.shown c.serve_at.result.door) (g.K.Keeper.shown c.args.keeper) (g.K.Keeper.shown c.serve_at.result.keeper) c.in-Ok-start.cluster
      (serves_of _ c.in-Ok.command c.in-Serve.serving c.in-Ok.ensures.words c.in-Serve.is) c.in-Serve.is (serving_started g c) has)
]

-- what making a cluster stands on
making_started : (g : Over) (c : goal.After-drop-task-2 g) → Starts c.in-Ok.command (g.K.Keeper.shown c.args.keeper) c.in-Ok-start.cluster
making_started g c =
    let attached = c.in_default.ensures in
    let begun = c.in-Ok-start.ensures in
    starts_on c.in-Ok.command (g.K.Keeper.shown c.args.keeper) (g.K.Keeper.shown c.attach.new.self) c.in-Ok-start.cluster (attached.place ∙ ap Some c.as_str.ensures.value) attached.same attached.whole attached.watchers _ attached.cause begun.keeper begun.opens begun.config begun.valid begun.holds begun.undamaged

pub returns-clause-done : goal.returns-clause-done
returns-clause-done g c = λ e.
    inr (inr (inr (of_making-whole _ c.in-Ok.command c.in-Generate.workload (g.W.Sink.shown c.args.sink.now) (g.W.Sink.shown c.generate-status.new.sink) (g.K.Keeper.shown c.args.keeper) (g.K.Keeper.shown c.end_with-in-Generate.result.keeper) c.in-Ok-start.cluster c.generate-status.new.cluster
    (makes_of _ c.in-Ok.command c.in-Generate.workload c.in-Ok.ensures.words c.in-Generate.is) c.in-Generate.is (making_started g c) (ap g.K.Keeper.shown c.end_with-in-Generate.ensures.1 ∙ c.close-in-Generate.ensures.keeper) (c.generate-status.ensures.made (sym c.end_with-in-Generate.ensures.0 ∙ e)))))

pub returns-clause-cut : goal.returns-clause-cut
returns-clause-cut g c = λ e.
    inr (inr (of_making-front _ c.in-Ok.command c.in-Generate.workload (g.W.Sink.shown c.args.sink.now) (g.W.Sink.shown c.generate-status.new.sink) (g.K.Keeper.shown c.args.keeper) (g.K.Keeper.shown c.end_with-in-Generate.result.keeper) c.in-Ok-start.cluster c.generate-status.new.cluster
    (makes_of _ c.in-Ok.command c.in-Generate.workload c.in-Ok.ensures.words c.in-Generate.is) c.in-Generate.is (making_started g c) (ap g.K.Keeper.shown c.end_with-in-Generate.ensures.1 ∙ c.close-in-Generate.ensures.keeper) (c.generate-status.ensures.cut (making_cut c.generate-status.result c.generate-status.ensures.ends (ap is_cut_short (sym c.end_with-in-Generate.ensures.0) ∙ e)))))

pub returns-clause-memory : goal.returns-clause-memory
returns-clause-memory g c = λ e.
    let wanting = sym c.end_with-in-Generate.ensures.0 ∙ e in
    inr (inr (of_making-part _ c.in-Ok.command c.in-Generate.workload (g.W.Sink.shown c.args.sink.now) (g.W.Sink.shown c.generate-status.new.sink) (g.K.Keeper.shown c.args.keeper) (g.K.Keeper.shown c.end_with-in-Generate.result.keeper) c.in-Ok-start.cluster c.generate-status.new.cluster
    (makes_of _ c.in-Ok.command c.in-Generate.workload c.in-Ok.ensures.words c.in-Generate.is) c.in-Generate.is (making_started g c) (ap g.K.Keeper.shown c.end_with-in-Generate.ensures.1 ∙ c.close-in-Generate.ensures.keeper) (ap g.W.Sink.shown (c.generate-status.ensures.unwritten wanting)) (c.generate-status.ensures.part wanting)))

pub returns-clause-write_fault : goal.returns-clause-write_fault
returns-clause-write_fault g c = λ e. c.generate-status.ensures.write_fault (sym c.end_with-in-Generate.ensures.0 ∙ e)

pub returns-clause-complete : goal.returns-clause-complete
returns-clause-complete g c = λ _ _ unwritten _ _ _.
    subst (λ (status : Status). is_complete status ≡ true) (sym c.end_with-in-Generate.ensures.0)
    (making_ends c.generate-status.result _ c.generate-status.ensures.ends c.generate-status.ensures.write_fault unwritten)
