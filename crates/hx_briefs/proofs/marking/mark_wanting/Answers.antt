use Rattle.std.proofs.Common.{◌∙◌}
use Rattle.hx_briefs.proofs.Marked.{marked_alone, none_held, none_again}
use Rattle.hx_briefs.proofs.marking.mark_wanting.Goals as goal

pub returns-clause-waiting : goal.returns-clause-waiting
returns-clause-waiting c =
    marked_alone c.in_ok-wanting.wanting.items c.reserve.new.self.seen c.mark_all.new.self.seen (c.reserve.ensures.seen ∙ c.requires.idle) c.mark_all.ensures.marked c.args.state.now.state c.in_ok-wanting.ensures

pub returns-clause-hands : goal.returns-clause-hands
returns-clause-hands c = none_held c.in_ok-wanting.wanting.items c.reserve.new.self.seen c.mark_all.new.self.seen (c.reserve.ensures.seen ∙ c.requires.idle) c.mark_all.ensures.marked

pub returns-clause-again : goal.returns-clause-again
returns-clause-again c = none_again c.in_ok-wanting.wanting.items c.reserve.new.self.seen c.mark_all.new.self.seen (c.reserve.ensures.seen ∙ c.requires.idle) c.mark_all.ensures.marked
