use Rattle.std.proofs.Common.{rules, sym, subst}
use Rattle.std.proofs.lemmas.Result.{IfOk-weaker, IfErr-weaker}
use Rattle.hx_json.specs.Inside.{AreAlike, target_of}
use Rattle.hx_json.specs.Trees.{IsOrdered}
use Rattle.hx_json.proofs.Orders.{read_alike, fault_alike}
use Rattle.hx_json.proofs.read.read_text.Goals as goal

pub read_ordered-requires-clause-ordered : goal.read_ordered-requires-clause-ordered
read_ordered-requires-clause-ordered c = subst (IsOrdered c.args.asked.kind) (sym c.as_str.ensures.value) (c.in_ok-ordered.ensures.ordered c.args.asked.kind)

pub returns-clause-ok : goal.returns-clause-ok
returns-clause-ok c =
    let alike = subst (AreAlike c.args.text.now) (sym c.as_str.ensures.value) c.in_ok-ordered.ensures.alike in
    IfOk-weaker c.read_ordered.result _ _ (λ r h. read_alike (target_of c.args.asked) c.args.text.now c.as_str.result.now r.object r.expected alike h) c.read_ordered.ensures.ok

pub returns-clause-fault : goal.returns-clause-fault
returns-clause-fault c =
    let alike = subst (AreAlike c.args.text.now) (sym c.as_str.ensures.value) c.in_ok-ordered.ensures.alike in
    IfErr-weaker c.read_ordered.result _ _ (λ f h. fault_alike (target_of c.args.asked) c.args.text.now c.as_str.result.now f alike h) c.read_ordered.ensures.fault

pub returns-in_err-ordered-clause-fault : goal.returns-in_err-ordered-clause-fault
returns-in_err-ordered-clause-fault c = let h = c.in_err-ordered.ensures.fault (target_of c.args.asked) in search (rules, h)
