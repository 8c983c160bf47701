use Rattle.std.proofs.Common.{rules, tests, ◌==◌}
use Rattle.std.proofs.lemmas.Iterator.Search.{all_from_yields_List}
use Rattle.std.proofs.lemmas.Iterator.Splits.{YieldsList-from_slice_split}
use Rattle.hx_object.specs.Names.{is_dns_part}
use Rattle.hx_object.proofs.names.has_parts.Goals as goal

pub returns : goal.returns
returns c = all_from_yields_List (is_dns_part c.args.any_case) _ _ _ c.all.ensures.ran
    (YieldsList-from_slice_split _ (λ byte. byte == 46) c.args.name.now c.split.ensures.rest c.split.ensures.done c.split.ensures.closure (λ x b q k. search (rules, tests)))
    (λ x b q k. search (rules, tests))
