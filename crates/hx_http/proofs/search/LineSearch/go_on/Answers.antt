use Rattle.std.proofs.lemmas.List.{take_rest}
use Rattle.hx_http.proofs.Searching.{head-ends, line-passed, line-kept, none-ends, searched-all, is-empty, is-filled}
use Rattle.hx_http.proofs.search.LineSearch.go_on.Goals as goal

pub returns-then-self-gt0-clause-found : goal.returns-then-self-gt0-clause-found
returns-then-self-gt0-clause-found c =
    let feeds = rw (take_rest c.args.bytes.now c.loop-end.self.at) at c.in-Some.ensures.found in
    head-ends c.args.bytes.now c.loop-end.self c.in-Some.end c.loop-end.invariant feeds
    (is-empty c.without_return.result.now _ c.is_empty-is_empty.result c.is_empty-is_empty.ensures c.if-not-is_empty.false c.without_return.ensures) c.if-self-gt0.true

pub loop-end-preserved-then-not-is_empty : goal.loop-end-preserved-then-not-is_empty
loop-end-preserved-then-not-is_empty c =
    let feeds = rw (take_rest c.args.bytes.now c.loop-end.self.at) at c.in-Some.ensures.found in
    line-kept c.args.bytes.now c.loop-end.self c.in-Some.end c.loop-end.invariant feeds
    (is-filled c.without_return.result.now _ c.is_empty-is_empty.result c.is_empty-is_empty.ensures c.if-not-is_empty.true c.without_return.ensures)

pub loop-end-preserved : goal.loop-end-preserved
loop-end-preserved c =
    let feeds = rw (take_rest c.args.bytes.now c.loop-end.self.at) at c.in-Some.ensures.found in
    line-passed c.args.bytes.now c.loop-end.self c.in-Some.end c.loop-end.invariant feeds
    (is-empty c.without_return.result.now _ c.is_empty-is_empty.result c.is_empty-is_empty.ensures c.if-not-is_empty.false c.without_return.ensures) c.if-self-gt0.false

pub returns-clause-none : goal.returns-clause-none
returns-clause-none c =
    let none = rw (take_rest c.args.bytes.now c.loop-end.self.at) at c.in_default.ensures.none in
    none-ends c.args.bytes.now c.loop-end.self c.loop-end.invariant none

pub returns-clause-searched : goal.returns-clause-searched
returns-clause-searched c =
    let none = rw (take_rest c.args.bytes.now c.loop-end.self.at) at c.in_default.ensures.none in
    searched-all c.args.bytes.now c.loop-end.self c.loop-end.invariant none
