use Rattle.std.proofs.Common.{◌≡◌, ◌∙◌, None, sym, ap, subst}
use Rattle.hx_model.specs.Hands.{hand_of}
use Rattle.hx_reconcile.specs.Briefs.{hand_by}
use Rattle.hx_reconcile.specs.declared.brief.Brief.{Brief}
use Rattle.hx_queue.specs.Kept.{Releases, is_held}
use Rattle.hx_queue.specs.Tied.{hands_of, IsKept}
use Rattle.hx_queue.specs.Workers.{IsLetGo}
use Rattle.hx_queue.proofs.Handing.{same_hands}
use Rattle.hx_queue.proofs.Tying.{key_held}
use Rattle.hx_queue.proofs.Whole.{kept_by_release, seen_by_let_go, whole_of}
use Rattle.hx_queue.proofs.workers.Workers.let_go.Goals as goal

pub release-requires : goal.release-requires
release-requires c =
    let hands = hands_of c.self.inside.hands.items in
    ap (λ (b : Brief). is_held c.self.inside.queue b.key) c.brief.ensures
    ∙ key_held c.args.worker (hand_by c.args.worker c.in-Some.brief) hands c.self.inside.queue c.self.invariant.tied (sym c.in-Some.ensures.brief)

pub invariant_of-self : goal.invariant_of-self
invariant_of-self c =
    let hands = hands_of c.self.inside.hands.items in
    let hand = hand_by c.args.worker c.in-Some.brief in
    let released : Releases hand.key c.args.waits c.self.inside.queue c.release.new.self = subst (λ (b : Brief). Releases b.key c.args.waits c.self.inside.queue c.release.new.self) c.brief.ensures c.release.ensures in
    subst (λ hs. IsKept hs c.release.new.self c.self.inside.spread) (sym c.in-Some.ensures.hands)
    (kept_by_release c.args.worker hand c.args.waits hands c.self.inside.queue c.release.new.self c.self.inside.spread c.self.invariant (sym c.in-Some.ensures.brief) released)

pub invariant_of-self-in-None : goal.invariant_of-self-in-None
invariant_of-self-in-None c =
    let hands = hands_of c.self.inside.hands.items in
    subst (λ hs. IsKept hs c.self.inside.queue c.self.inside.spread) (sym (c.in-None.ensures.hands ∙ same_hands c.args.worker hands (sym c.in-None.ensures.brief))) c.self.invariant

pub returns-in-Some-clause-some : goal.returns-in-Some-clause-some
returns-in-Some-clause-some c =
    let hands = hands_of c.self.inside.hands.items in
    let hand = hand_by c.args.worker c.in-Some.brief in
    let released : Releases hand.key c.args.waits c.self.inside.queue c.release.new.self = subst (λ (b : Brief). Releases b.key c.args.waits c.self.inside.queue c.release.new.self) c.brief.ensures c.release.ensures in
    rw (← c.self.view_is) (
      sym c.in-Some.ensures.brief,
      subst (λ hs. IsLetGo c.args.worker hand.key c.args.waits (whole_of hands c.self.inside.queue c.self.inside.spread) (whole_of hs c.release.new.self c.self.inside.spread)) (sym c.in-Some.ensures.hands)
          (seen_by_let_go c.args.worker hand.key c.args.waits hands c.self.inside.queue c.release.new.self c.self.inside.spread released),
    )

pub returns-in-None-clause-none : goal.returns-in-None-clause-none
returns-in-None-clause-none c =
    let hands = hands_of c.self.inside.hands.items in
    let none : hand_of c.args.worker hands ≡ None = sym c.in-None.ensures.brief in
    rw (← c.self.view_is) (none, ap (λ hs. whole_of hs c.self.inside.queue c.self.inside.spread) (c.in-None.ensures.hands ∙ same_hands c.args.worker hands none))
