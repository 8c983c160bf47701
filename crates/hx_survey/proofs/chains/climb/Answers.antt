use Rattle.std.proofs.Common.{rules, ◌≡◌, ◌∙◌, Some, true, false, sym, ap, option_copied}
use Rattle.std.specs.Prelude.{slice_get, slice_index_or, slice_set}
use Rattle.hx_model.specs.Forest.{is_in}
use Rattle.hx_survey.proofs.Climbed.{mark_is, climb_further, unset}
use Rattle.hx_survey.proofs.Placed.{marked}
use Rattle.hx_survey.proofs.chains.climb.Goals as goal

pub loop-left-preserved : goal.loop-left-preserved
loop-left-preserved c =
    let f = c.args.nodes.now in
    let built = c.loop-left.built.items in
    let place = c.in-Some.place in
    let entry = c.in-Some-entry_at.entry.now in
    let here : slice_get f place ≡ Some entry = sym c.entry_at.ensures ∙ ap option_copied c.in-Some-entry_at.is in
    let fresh : c.mark.result ≡ true = search rules in
    let new : is_in entry.0 built ≡ false = sym (mark_is f built c.loop-left.seen.items place entry.0 entry.1 c.loop-left.invariant.seen here) ∙ unset (slice_index_or c.loop-left.seen.items place true) (sym c.mark.ensures.fresh ∙ fresh) in
    let copy : c.in_ok-clone.field-0 ≡ entry.0 = search rules in
    record {
      climbs = rw (c.in_ok-push.ensures.items, copy, c.up_from-at.ensures)
          (climb_further c.loop-left.left f c.args.ups.now built c.loop-left.at place entry.0 entry.1 c.requires.order c.requires.ups c.loop-left-test.true c.in-Some.is here new ∙ c.loop-left.invariant.climbs);
      seen = c.mark.ensures.marked fresh
          ∙ ap (λ marks. slice_set marks place true) c.loop-left.invariant.seen
          ∙ rw (c.in_ok-push.ensures.items, copy) (marked f built entry.0 entry.1 place c.requires.order here);
    }
