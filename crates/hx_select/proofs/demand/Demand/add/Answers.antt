use Rattle.std.proofs.Common.{◌≡◌, ◌∙◌, ◌&&◌, ap, sym}
use Rattle.hx_select.specs.Matching.{meets}
use Rattle.hx_select.specs.Selectors.{holds_for}
use Rattle.hx_select.specs.declared.selector.Test.TheVariants.{NotIn}
use Rattle.hx_select.proofs.Asking.{asks_not_in}
use Rattle.hx_select.proofs.demand.Demand.add.Goals as goal

pub returns-in_ok-insert_all-in-NotIn : goal.returns-in_ok-insert_all-in-NotIn
returns-in_ok-insert_all-in-NotIn c = λ label.
    let values = c.as_slice-in-NotIn.result.now in
    let test : NotIn values ≡ c.args.test.now = ap NotIn c.as_slice-in-NotIn.ensures ∙ sym c.in-NotIn.is in
    asks_not_in c.args.self.now values c.insert_all.new.self c.in_ok-insert_all-in-NotIn.ensures label
    ∙ ap (λ t. meets c.args.self.now label && holds_for t label) test
