use Rattle.std.proofs.Common.{◌≡◌, ◌∙◌, true, ap, rules}
use Rattle.hx_object.specs.Pairs.{has_ascending_keys}
use Rattle.hx_select.specs.Selectors.{selects}
use Rattle.hx_select.proofs.Selecting.{as-counted, as-unmet}
use Rattle.hx_select.proofs.matcher.Matcher.matches.Goals as goal

pub returns-in-Some : goal.returns-in-Some
returns-in-Some c =
    let labels = c.as_slice-2.result.now in
    let ascends : has_ascending_keys labels ≡ true = search rules in
    rw (← c.self.view_is)
    (as-counted c.self.inside.selector.needs c.self.inside.demands.entries c.self.inside.wanted c.self.invariant labels ascends c.in-Some.ensures.0 c.in-Some.found c.in-Some.ensures.1
    ∙ ap (selects c.self.inside.selector) c.as_slice-2.ensures.pairs)

pub returns-in-None : goal.returns-in-None
returns-in-None c =
    let labels = c.as_slice-2.result.now in
    let ascends : has_ascending_keys labels ≡ true = search rules in
    rw (← c.self.view_is)
    (as-unmet c.self.inside.selector.needs c.self.inside.demands.entries c.self.inside.wanted c.self.invariant labels ascends c.in-None.ensures
    ∙ ap (selects c.self.inside.selector) c.as_slice-2.ensures.pairs)
