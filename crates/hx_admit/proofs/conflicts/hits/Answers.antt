use Rattle.std.proofs.Common.{◌≡◌, ◌∙◌, sym, ap}
use Rattle.std.specs.List.{list_any}
use Rattle.hx_object.specs.declared.object.Object.{Object}
use Rattle.hx_admit.specs.Conflicting.{is_hit, hits}
use Rattle.hx_admit.proofs.Conflicting.{home_hits, mode_hits, hits_is}
use Rattle.hx_admit.proofs.conflicts.hits.Goals as goal
use Rattle.hx_admit.proofs.conflicts.hits.Goals.{then-stays_home-via-then-stays_home, then-stays_home-via-else-stays_home+then-not-is_propagated}

pub returns-then-stays_home : goal.returns-then-stays_home
returns-then-stays_home c = elim c.then-stays_home.branch [
  | then-stays_home-via-then-stays_home w ↦ home_hits c.args.state.now.state c.args.new.now (sym c.stays_home.ensures ∙ w.if-stays_home.true)
  | then-stays_home-via-else-stays_home+then-not-is_propagated w ↦ mode_hits c.args.state.now.state c.args.new.now w.mode.result w.mode.ensures (sym w.is_propagated.ensures ∙ w.if-not-is_propagated.true)
]

pub returns : goal.returns
returns c =
    let is : list_any (λ (y : Object). is_hit c.args.state.now.state c.args.new.now y.id.ns) c.deref.result.now ≡ hits c.args.state.now.state c.args.new.now =
    ap (list_any (λ (y : Object). is_hit c.args.state.now.state c.args.new.now y.id.ns)) (c.deref.ensures.value ∙ c.in_ok-others.ensures) ∙ hits_is c.args.state.now.state c.args.new.now in
    rw (← is) c.any_hit.ensures
