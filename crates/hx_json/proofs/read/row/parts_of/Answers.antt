use Rattle.std.proofs.Common.{◌≡◌, ◌∙◌, None, Some, sym, true≢false}
use Rattle.hx_json.proofs.Keys.{inner_back, key_is, known_back, may_back, outer_cut}
use Rattle.hx_json.proofs.read.row.parts_of.Goals as goal

pub returns-in_err-digits-clause-back : goal.returns-in_err-digits-clause-back
returns-in_err-digits-clause-back c = λ id h. absurd (c.in_err-digits.ensures.back _ _ (outer_cut c.args.key.now id h))

pub returns-in_err-ns-clause-back : goal.returns-in_err-ns-clause-back
returns-in_err-ns-clause-back c = λ id h.
    absurd (c.in_err-ns.ensures.back _ _ (inner_back c.args.key.now c.in_ok-digits.digits.now c.in_ok-digits.rest.now id h c.in_ok-digits.ensures.back))

pub returns-in_err-kind-clause-back : goal.returns-in_err-kind-clause-back
returns-in_err-kind-clause-back c = λ id h.
    let clash : ◌≡◌ {A = _} None (Some id.kind) = c.in_err-kind.ensures ∙ known_back c.args.key.now c.in_ok-digits.digits.now c.in_ok-digits.rest.now id h c.in_ok-digits.ensures.back in
    absurd (cc)

pub returns-then-not-may_lie_in-clause-back : goal.returns-then-not-may_lie_in-clause-back
returns-then-not-may_lie_in-clause-back c = λ id h.
    let ns = (c.in_ok-ns.ensures.back _ _ (inner_back c.args.key.now c.in_ok-digits.digits.now c.in_ok-digits.rest.now id h c.in_ok-digits.ensures.back)).0 in
    let found : Some c.in_ok-kind.kind ≡ Some id.kind = c.in_ok-kind.ensures ∙ known_back c.args.key.now c.in_ok-digits.digits.now c.in_ok-digits.rest.now id h c.in_ok-digits.ensures.back in
    let same : c.in_ok-kind.kind ≡ id.kind = cc in
    let may = may_back c.args.key.now c.in_ok-digits.digits.now c.in_ok-digits.rest.now id h c.in_ok-digits.ensures.back c.in_ok-ns.ns.now c.in_ok-kind.kind ns same in
    true≢false (sym may ∙ sym c.may_lie_in.ensures ∙ c.if-not-may_lie_in.true)

pub returns-clause-parts : goal.returns-clause-parts
returns-clause-parts c =
    key_is c.args.key.now c.in_ok-digits.digits.now c.in_ok-digits.rest.now c.in_ok-ns.ns.now c.in_ok-ns.name.now c.in_ok-kind.kind
    c.in_ok-digits.ensures.cut c.in_ok-ns.ensures.cut (sym (c.in_ok-kind.ensures)) (sym c.may_lie_in.ensures ∙ c.if-not-may_lie_in.false)

pub returns-clause-back : goal.returns-clause-back
returns-clause-back c = λ id h.
    let parts = c.in_ok-ns.ensures.back _ _ (inner_back c.args.key.now c.in_ok-digits.digits.now c.in_ok-digits.rest.now id h c.in_ok-digits.ensures.back) in
    let found : Some c.in_ok-kind.kind ≡ Some id.kind = c.in_ok-kind.ensures ∙ known_back c.args.key.now c.in_ok-digits.digits.now c.in_ok-digits.rest.now id h c.in_ok-digits.ensures.back in
    let same : c.in_ok-kind.kind ≡ id.kind = cc in
    (same, parts.0, parts.1)
