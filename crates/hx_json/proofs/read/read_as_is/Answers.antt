use Rattle.std.proofs.Common.{rules, ◌∙◌, sym}
use Rattle.json.specs.Value.{value_view}
use Rattle.hx_json.specs.Inside.{target_of}
use Rattle.hx_json.specs.Trees.{said}
use Rattle.hx_json.proofs.Orders.{ordered_canonical, ordered_shallow, ordered_whole, fault_told, read_told}
use Rattle.hx_json.proofs.read.read_as_is.Goals as goal

pub returns-in_err-value-clause-fault : goal.returns-in_err-value-clause-fault
returns-in_err-value-clause-fault c = let h = c.in_err-value.ensures.fault (target_of c.args.asked) in search (rules, h)

pub tell-requires-clause-canonical : goal.tell-requires-clause-canonical
tell-requires-clause-canonical c = ordered_canonical c.args.text.now c.args.asked.kind (value_view c.in_ok-value.value) c.in_ok-value.ensures.ok (sym c.is_ordered.ensures ∙ c.if-not-is_ordered.false)

pub tell-requires-clause-shallow : goal.tell-requires-clause-shallow
tell-requires-clause-shallow c = ordered_shallow c.args.text.now c.args.asked.kind (value_view c.in_ok-value.value) c.in_ok-value.ensures.ok (sym c.is_ordered.ensures ∙ c.if-not-is_ordered.false)

pub returns-in_err-said-clause-fault : goal.returns-in_err-said-clause-fault
returns-in_err-said-clause-fault c =
    let whole = ordered_whole c.args.text.now c.args.asked.kind (value_view c.in_ok-value.value) c.in_ok-value.ensures.ok (sym c.is_ordered.ensures ∙ c.if-not-is_ordered.false) c.utf8.text in
    let h = fault_told (target_of c.args.asked) c.args.text.now (said c.in_ok-value.value) c.in_err-said.field-0.0 whole c.in_err-said.ensures.fault in
    search (rules, h)

pub returns-clause-ok : goal.returns-clause-ok
returns-clause-ok c =
    let whole = ordered_whole c.args.text.now c.args.asked.kind (value_view c.in_ok-value.value) c.in_ok-value.ensures.ok (sym c.is_ordered.ensures ∙ c.if-not-is_ordered.false) c.utf8.text in
    read_told (target_of c.args.asked) c.args.text.now (said c.in_ok-value.value) c.in_ok-said.said.object c.in_ok-said.said.expected whole c.in_ok-said.ensures.ok
