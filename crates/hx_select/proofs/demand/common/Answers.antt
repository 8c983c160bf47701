use Rattle.std.proofs.Common.{◌≡◌, ◌∙◌, ◌+◌, ◌<◌, ◌∷◌, ◌||◌, ◌&&◌, ap, sym, length, get_or, drop, rules}
use Rattle.hx_select.specs.Matching.{is_allowed}
use Rattle.hx_select.specs.Selectors.{is_among}
use Rattle.hx_select.proofs.Members.{kept, left_out, next_of}
use Rattle.hx_select.proofs.demand.common.Goals as goal

pub loop-value-preserved-then-not-is_allowed : goal.loop-value-preserved-then-not-is_allowed
loop-value-preserved-then-not-is_allowed c = λ q.
    let allowed = c.args.allowed.now in
    let value = c.value-item.result in
    let rest = drop (c.loop-value.value-index + 1) c.args.values.now in
    let within : c.loop-value.value-index < length c.args.values.now = search rules in
    let here : value ≡ get_or c.args.values.now c.loop-value.value-index value = search rules in
    let step = next_of c.args.values.now c.loop-value.value-index value within here in
    left_out allowed value (sym c.is_allowed.ensures ∙ c.if-not-is_allowed.true) q (is_among q c.loop-value.texts) (is_among q rest)
    ∙ ap (λ left. is_among q c.loop-value.texts || (is_allowed allowed q && is_among q left)) step
    ∙ c.loop-value.invariant q

pub loop-value-preserved : goal.loop-value-preserved
loop-value-preserved c = λ q.
    let allowed = c.args.allowed.now in
    let value = c.value-item.result in
    let rest = drop (c.loop-value.value-index + 1) c.args.values.now in
    let within : c.loop-value.value-index < length c.args.values.now = search rules in
    let here : value ≡ get_or c.args.values.now c.loop-value.value-index value = search rules in
    let step = next_of c.args.values.now c.loop-value.value-index value within here in
    ap (λ there. there || (is_allowed allowed q && is_among q rest)) (c.in_ok-insert.ensures q ∙ ap (λ text. is_among q (text ∷ c.loop-value.texts)) c.in_ok-clone.ensures.cases)
    ∙ kept allowed value (sym c.is_allowed.ensures ∙ c.if-not-is_allowed.false) q (is_among q c.loop-value.texts) (is_among q rest)
    ∙ ap (λ left. is_among q c.loop-value.texts || (is_allowed allowed q && is_among q left)) step
    ∙ c.loop-value.invariant q
