use Rattle.std.proofs.Common.{refl, subst}
use Rattle.std.specs.Prelude.{IfOk, IfSome}
use Rattle.hx_model.specs.State.{State}
use Rattle.hx_model.specs.Tree.{forest_of}
use Rattle.hx_marks.specs.Spread.{IsSpread}
use Rattle.hx_marks.proofs.Promising.{spread_covers, spread_within}
use Rattle.hx_marks.proofs.SpreadLaw.{commit_leaves, only_one, told}
use Rattle.hx_marks.proofs.spread.spread_marks.Goals as goal

pub returns-clause-covers : goal.returns-clause-covers
returns-clause-covers c =
    let s = c.args.state.now.state in
    let one = only_one c.args.writes.now c.write-item.result c.in-len1.len_at_least c.in-len1.len_below c.write-item.is in
    told c.spread_of.result _ _ (λ spread is. spread_covers s c.args.writes.now c.write-item.result spread.id spread.others.items c.law_of_validity.ensures c.requires one is)
    (subst (λ (t : State). IfOk c.spread_of.result (λ o. IfSome o (λ spread. IsSpread t c.write-item.result spread.id spread.others.items))) c.of.ensures c.spread_of.ensures)

pub returns-clause-within : goal.returns-clause-within
returns-clause-within c =
    let s = c.args.state.now.state in
    let one = only_one c.args.writes.now c.write-item.result c.in-len1.len_at_least c.in-len1.len_below c.write-item.is in
    told c.spread_of.result _ _ (λ spread is. spread_within s c.args.writes.now c.write-item.result spread.id spread.others.items c.law_of_validity.ensures c.requires one is)
    (subst (λ (t : State). IfOk c.spread_of.result (λ o. IfSome o (λ spread. IsSpread t c.write-item.result spread.id spread.others.items))) c.of.ensures c.spread_of.ensures)

pub returns-clause-tree : goal.returns-clause-tree
returns-clause-tree c =
    let s = c.args.state.now.state in
    let one = only_one c.args.writes.now c.write-item.result c.in-len1.len_at_least c.in-len1.len_below c.write-item.is in
    told c.spread_of.result _ _ (λ spread is. commit_leaves s (forest_of s) c.args.writes.now c.write-item.result refl one spread.id spread.others.items is)
    (subst (λ (t : State). IfOk c.spread_of.result (λ o. IfSome o (λ spread. IsSpread t c.write-item.result spread.id spread.others.items))) c.of.ensures c.spread_of.ensures)
