use Rattle.std.proofs.Common.{◌≡◌, ◌∙◌, ◌++◌, ◌∷◌, [], sym, ap, subst}
use Rattle.std.proofs.lemmas.List.{map-append}
use Rattle.hx_model.specs.Hands.{hand_of, is_held}
use Rattle.hx_reconcile.specs.Briefs.{hand_by}
use Rattle.hx_queue.specs.Spread.{is_spread}
use Rattle.hx_queue.specs.Tied.{hands_of, hand_in, IsKept}
use Rattle.hx_queue.specs.Workers.{WorkersKept, IsTakenBy}
use Rattle.hx_queue.proofs.Tying.{held_in_hands}
use Rattle.hx_queue.proofs.Whole.{kept_by_take, seen_by_taken, whole_of}
use Rattle.hx_queue.proofs.workers.Workers.take.Goals as goal

pub hold-requires-clause-free : goal.hold-requires-clause-free
hold-requires-clause-free c =
    let hands = hands_of c.self.inside.hands.items in
    sym (held_in_hands c.args.key hands c.self.inside.queue c.self.invariant.tied) ∙ ap (λ (w : WorkersKept). is_held c.args.key w.seen.hands) c.self.view_is ∙ c.requires.free

pub invariant_of-self : goal.invariant_of-self
invariant_of-self c =
    let hands = hands_of c.self.inside.hands.items in
    let hand = hand_by c.args.worker c.args.brief in
    let new : hands_of c.push.new.self.items ≡ hands ++ hand ∷ [] = ap hands_of (rw c.unwrap.ensures at c.push.ensures.items) ∙ map-append hand_in _ _ in
    subst (λ hs. IsKept hs c.hold.new.self c.self.inside.spread) (sym new)
    (kept_by_take hand c.args.key hands c.self.inside.queue c.hold.new.self c.self.inside.spread c.requires.is c.self.invariant
    (ap (λ (w : WorkersKept). hand_of c.args.worker w.seen.hands) c.self.view_is ∙ c.requires.empty)
    (ap (λ (w : WorkersKept). is_held c.args.key w.seen.hands) c.self.view_is ∙ c.requires.free) (ap (λ (w : WorkersKept). is_spread w.spread c.args.key) c.self.view_is ∙ c.requires.apart) c.hold.ensures)

pub returns-clause-taken : goal.returns-clause-taken
returns-clause-taken c =
    let hands = hands_of c.self.inside.hands.items in
    let hand = hand_by c.args.worker c.args.brief in
    let new : hands_of c.push.new.self.items ≡ hands ++ hand ∷ [] = ap hands_of (rw c.unwrap.ensures at c.push.ensures.items) ∙ map-append hand_in _ _ in
    let apart = ap (λ (w : WorkersKept). is_spread w.spread c.args.key) c.self.view_is ∙ c.requires.apart in
    rw (← c.self.view_is) (subst (λ hs. IsTakenBy hand (whole_of hands c.self.inside.queue c.self.inside.spread) (whole_of hs c.hold.new.self c.self.inside.spread)) (sym new)
    (seen_by_taken hand c.args.key hands c.self.inside.queue c.hold.new.self c.self.inside.spread c.requires.is apart c.hold.ensures))
