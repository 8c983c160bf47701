use Rattle.std.proofs.Common.{◌∙◌, ◌+◌, ◌++◌, [], ◌∷◌, drop, sym, ap, append_assoc, Some}
use Rattle.std.specs.Prelude.{option_copied}
use Rattle.hx_watch.proofs.Finding.{next-from}
use Rattle.hx_watch.proofs.window.events_from.Goals as goal

pub loop-index-preserved : goal.loop-index-preserved
loop-index-preserved c =
    let rest = drop (c.loop-index.index + 1) c.args.ring.now.items in
    let next = next-from c.args.ring.now.items c.loop-index.index c.in_ok-share.field-0 (sym c.get.ensures ∙ ap option_copied c.in-Some.is ∙ ap Some (sym c.in_ok-share.ensures)) in
    ap (λ l. l ++ rest) c.in_ok-push.ensures.items ∙ append_assoc c.loop-index.events.items (c.in_ok-share.field-0 ∷ []) rest
    ∙ ap (λ l. c.loop-index.events.items ++ l) (sym next) ∙ c.loop-index.invariant
