use Rattle.std.proofs.Common.{◌≡◌, ◌∙◌, false, rules, true}
use Rattle.hx_team.proofs.Teaming.{led_as, led_then, stayed_then}
use Rattle.hx_team.proofs.session.serve_alone.Goals as goal

pub returns-then-not-serve_next_alone-clause-led : goal.returns-then-not-serve_next_alone-clause-led
returns-then-not-serve_next_alone-clause-led g c =
    let off : c.serve_next_alone.result ≡ false = search rules in
    led_then false _ _ _ c.serving.invariant.2 (led_as _ false _ _ off c.serve_next_alone.ensures.led)

pub serving-preserved : goal.serving-preserved
serving-preserved g c =
    let i = c.serving.invariant in
    let t = c.serve_next_alone.ensures in
    let on : c.serve_next_alone.result ≡ true = search rules in (t.own ∙ i.0, stayed_then _ _ _ i.1 t.stayed, led_then true _ _ _ i.2 (led_as _ true _ _ on t.led))
