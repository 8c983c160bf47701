use Rattle.std.proofs.Common.{◌≡◌, [], sym, ◌∙◌, rules}
use Rattle.hx_marks.specs.Law.{open_below}
use Rattle.hx_marks.proofs.Eligible.{all_open}
use Rattle.hx_marks.proofs.SpreadLaw.{open_distinct}
use Rattle.hx_marks.proofs.TakingPart.{open_below_none}
use Rattle.hx_marks.proofs.below.open_below.Goals as goal

pub returns-then-not-is_open-clause-named : goal.returns-then-not-is_open-clause-named
returns-then-not-is_open-clause-named c =
    let none : c.new-names.result.items ≡ [] = search rules in
    none ∙ sym (open_below_none c.args.forest.now.nodes c.args.name.now (sym c.is_open.ensures ∙ c.if-not-is_open.true))

pub returns-then-not-is_open-clause-distinct : goal.returns-then-not-is_open-clause-distinct
returns-then-not-is_open-clause-distinct c s valid tree = open_distinct s c.args.forest.now.nodes c.args.name.now c.new-names.result.items valid tree (returns-then-not-is_open-clause-named c)

pub returns-then-not-may_be_restless-clause-named : goal.returns-then-not-may_be_restless-clause-named
returns-then-not-may_be_restless-clause-named c =
    c.in_ok-below.ensures ∙ all_open c.args.forest.now.nodes c.args.name.now (c.may_be_restless.ensures c.if-not-may_be_restless.true) (sym c.is_open.ensures ∙ c.if-not-is_open.false)

pub returns-then-not-may_be_restless-clause-distinct : goal.returns-then-not-may_be_restless-clause-distinct
returns-then-not-may_be_restless-clause-distinct c s valid tree = open_distinct s c.args.forest.now.nodes c.args.name.now c.in_ok-below.below.items valid tree (returns-then-not-may_be_restless-clause-named c)

pub returns-clause-distinct : goal.returns-clause-distinct
returns-clause-distinct c s valid tree =
    let are : c.push_open.new.list.items ≡ open_below c.args.forest.now.nodes c.args.name.now = search rules in
    open_distinct s c.args.forest.now.nodes c.args.name.now c.push_open.new.list.items valid tree are
