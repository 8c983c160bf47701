use Rattle.std.proofs.Common.{◌≡◌, ◌∙◌, sym}
use Rattle.std.specs.Prelude.{option_copied}
use Rattle.hx_admit.specs.Conflicting.{is_reached, is_taken}
use Rattle.hx_admit.proofs.Conflicting.{taken_found, taken_closed, taken_reached, taken_unreached}
use Rattle.hx_admit.proofs.conflicts.is_taken.Goals as goal
use Rattle.hx_admit.proofs.conflicts.is_taken.Goals.{then-is_source_in-via-then-is_source_in, then-is_source_in-via-else-is_source_in+then-not-may_be_reached, then-is_source_in-via-else-is_source_in+else-not-may_be_reached+then-not-is_open}

pub returns-then-is_source_in-clause-taken : goal.returns-then-is_source_in-clause-taken
returns-then-is_source_in-clause-taken c = elim c.then-is_source_in.branch [
  | then-is_source_in-via-then-is_source_in w ↦ taken_found c.args.state.now.state c.args.new.now (option_copied c.args.old) c.requires.there (sym c.is_source_in.ensures ∙ w.if-is_source_in.true)
  | then-is_source_in-via-else-is_source_in+then-not-may_be_reached w ↦ taken_unreached c.args.state.now.state c.args.new.now (w.may_be_reached.ensures w.if-not-may_be_reached.true)
  | then-is_source_in-via-else-is_source_in+else-not-may_be_reached+then-not-is_open w ↦ taken_closed c.args.state.now.state c.args.new.now (sym w.is_open.ensures ∙ w.if-not-is_open.true)
]

pub returns-clause-taken : goal.returns-clause-taken
returns-clause-taken c =
    let is : is_reached c.args.state.now.state c.args.new.now.id.ns c.args.new.now.id.kind c.args.new.now.id.name ≡ is_taken c.args.state.now.state c.args.new.now =
    taken_reached c.args.state.now.state c.args.new.now (option_copied c.args.old) c.requires.there (sym c.is_source_in.ensures ∙ c.if-is_source_in.false) (sym c.is_open.ensures ∙ c.if-not-is_open.false) in
    rw (← is) c.is_reached.ensures
