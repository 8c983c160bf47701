use Rattle.std.proofs.Common.{◌≡◌, drop, sym, ap, subst, ◌∙◌}
use Rattle.std.specs.Prelude.{option_copied}
use Rattle.hx_queue.specs.Kept.{is_held}
use Rattle.hx_queue.specs.Spread.{IsSpread, SpreadView, is_spread, keys_in, waiting_in}
use Rattle.hx_queue.specs.Spreading.{scope_of}
use Rattle.hx_queue.proofs.Spreads.{first_free, first_removed, first_up, some_up, without_first}
use Rattle.hx_queue.proofs.spread.Spread.line_up.Goals as goal

pub mark_in-requires-clause-free : goal.mark_in-requires-clause-free
mark_in-requires-clause-free c k place =
    first_free c.self.inside.ids.keys c.in-Some.id.now k (is_held c.args.queue.now k) (sym c.first.ensures.key ∙ ap option_copied c.in-Some.is)
    (λ held. ap (λ (v : SpreadView). is_spread v.ids k) c.self.view_is ∙ c.requires k held) place

pub returns-in_err-mark_in-clause-waiting : goal.returns-in_err-mark_in-clause-waiting
returns-in_err-mark_in-clause-waiting c =
    rw (← c.self.view_is)
    (some_up (scope_of c.self.inside.scope) c.self.inside.ids.keys c.in-Some.id.now c.args.queue.now.waiting c.mark_in.new.queue.waiting c.self.invariant
    (sym c.first.ensures.key ∙ ap option_copied c.in-Some.is) c.mark_in.ensures.some)

removed : (c : goal.Joined-first-2) → c.shift_remove_index-first.new.self.keys ≡ drop 1 c.self.inside.ids.keys
removed c = c.shift_remove_index-first.ensures.keys ∙ first_removed c.self.inside.ids.keys

pub invariant_of-self : goal.invariant_of-self
invariant_of-self c = subst (IsSpread (scope_of c.self.inside.scope)) (sym (removed c)) (without_first (scope_of c.self.inside.scope) c.self.inside.ids.keys c.self.invariant)

pub returns-clause-waiting : goal.returns-clause-waiting
returns-clause-waiting c =
    rw (← c.self.view_is)
    (ap (λ l. waiting_in c.mark_in.new.queue.waiting (keys_in (scope_of c.self.inside.scope) l)) (removed c)
    ∙ first_up (scope_of c.self.inside.scope) c.self.inside.ids.keys c.in-Some.id.now c.args.queue.now.waiting c.mark_in.new.queue.waiting c.self.invariant
    (sym c.first.ensures.key ∙ ap option_copied c.in-Some.is) c.in_ok-mark_in.ensures.all)
