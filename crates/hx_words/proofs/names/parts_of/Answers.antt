use Rattle.std.proofs.Common.{◌∙◌, ap, lit<}
use Rattle.std.specs.Str.Iter.{split_text, split_has_more, split_pattern}
use Rattle.std.proofs.lemmas.Iterator.Consumers.{YieldsList-end}
use Rattle.std.proofs.lemmas.Iterator.Splits.{YieldsList-from_str_split}
use Rattle.hx_words.proofs.names.parts_of.Goals as goal

pub returns : goal.returns
returns c =
    let same = c.into_iter-part-iterator.ensures.into_iter_gives in
    let parts = c.split-part-items.ensures in
    let yields = YieldsList-from_str_split 44 c.args.value.now (lit< tt) (ap split_text same ∙ parts.text) (ap split_has_more same ∙ parts.has_more) (ap split_pattern same ∙ parts.pattern) in
    c.loop-part.invariant ∙ (YieldsList-end yields c.loop-part.yielded _ c.loop-part.yielded_by _ _ c.in-None.is c.next.ensures.steps).0
