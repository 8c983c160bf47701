use Rattle.std.proofs.Common.{◌≡◌, ◌<◌, ◌∙◌, [], sym, ap, get_or, rules, arith}
use Rattle.std.proofs.lemmas.Option.{slice_get_within, get_or_from_slice_get}
use Rattle.hx_store.proofs.object_table.empty_kinds.Goals as goal

pub returns-clause-empty : goal.returns-clause-empty
returns-clause-empty c i s e =
    let below = slice_get_within c.from_fn.result i s e in
    let long = c.from_fn.ensures.items.long in
    let within : i < 14 = omega (arith, below, long) in
    let call = (c.from_fn.ensures.items.at i s within).2 in
    let empty : (get_or c.from_fn.result i s).namespaces.entries ≡ [] = search rules in
    ap (λ t. t.namespaces.entries) (sym (get_or_from_slice_get c.from_fn.result i s s e)) ∙ empty
