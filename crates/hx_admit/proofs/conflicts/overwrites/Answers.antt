use Rattle.std.proofs.Common.{◌≡◌, ◌∙◌, sym}
use Rattle.std.specs.Prelude.{option_copied}
use Rattle.hx_model.specs.Conflicts.{makes_conflict}
use Rattle.hx_admit.specs.Conflicting.{with_object, hits}
use Rattle.hx_admit.proofs.Conflicting.{no_conflict, conflict_taken, conflict_alike, conflict_hits}
use Rattle.hx_admit.proofs.conflicts.overwrites.Goals as goal

pub returns-then-not-is_source : goal.returns-then-not-is_source
returns-then-not-is_source c = no_conflict c.args.state.now.state c.args.new.now c.requires.copied (sym c.is_source.ensures ∙ c.if-not-is_source.true)

pub returns-then-branch : goal.returns-then-branch
returns-then-branch c =
    conflict_taken c.args.state.now.state c.args.new.now c.requires.copied c.in_ok-is_taken.ensures.order (sym c.is_source.ensures ∙ c.if-not-is_source.false) (sym c.in_ok-is_taken.ensures.taken ∙ c.if-branch.true)

pub returns-then-goes_as_before : goal.returns-then-goes_as_before
returns-then-goes_as_before c =
    conflict_alike c.args.state.now.state c.args.new.now (option_copied c.args.old) c.requires.copied c.in_ok-is_taken.ensures.order (sym c.is_source.ensures ∙ c.if-not-is_source.false) (sym c.in_ok-is_taken.ensures.taken ∙ c.if-branch.false)
    c.requires.there (sym c.goes_as_before.ensures ∙ c.if-goes_as_before.true)

pub returns : goal.returns
returns c =
    let is : hits c.args.state.now.state c.args.new.now ≡ makes_conflict c.args.state.now.state (with_object c.args.state.now.state c.args.new.now) =
    conflict_hits c.args.state.now.state c.args.new.now c.requires.copied c.in_ok-is_taken.ensures.order (sym c.is_source.ensures ∙ c.if-not-is_source.false) (sym c.in_ok-is_taken.ensures.taken ∙ c.if-branch.false) in
    rw (← is) c.hits.ensures
