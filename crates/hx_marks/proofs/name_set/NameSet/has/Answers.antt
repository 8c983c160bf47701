use Rattle.std.proofs.Common.{◌∙◌, sym, ap, subst}
use Rattle.std.specs.List.Sorted.{IsSorted}
use Rattle.hx_object.specs.Texts.{bytes_cmp}
use Rattle.hx_model.specs.Forest.{is_in}
use Rattle.hx_marks.proofs.Searching.{searched}
use Rattle.hx_marks.proofs.name_set.NameSet.has.Goals as goal

pub returns : goal.returns
returns c =
    let names = c.as_slice.result.now in
    let up : IsSorted bytes_cmp names = subst (IsSorted bytes_cmp) (sym c.as_slice.ensures.value) c.self.invariant in
    c.is_ok.ensures.value
    ∙ searched names c.args.name.now c.binary_search.result up c.binary_search.ensures.bound c.binary_search.ensures.position
    ∙ ap (is_in c.args.name.now) (c.as_slice.ensures.value ∙ c.self.view_is)
