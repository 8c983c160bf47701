-- The bound on settling, in the exchanges of a script.
--     SettlesFor made reading c      a settle with turns enough, before which no worker holds a key, doesn't end unsettled
--     AreBounded exchanges old new   so it is with each exchange, in the cluster that those before it left
use Rattle.std.specs.Prelude.{◌≡◌, ◌≤◌, List, [], ◌∷◌, length, Ok}
use Rattle.std.specs.declared.result.Result.{Result}
use Rattle.hx_model.specs.declared.refusal.Refusal.{Refusal}
use Rattle.hx_bound.specs.Bound.{turn_bound}
use Rattle.hx_core.specs.Bounding.{IsUnsettled}
use Rattle.hx_core.specs.Refinement.{ClusterView, HasWorld, Simulates}
use Rattle.hx_script.specs.Exchanges.{Exchange, Made, Turns, made_entries}
use Rattle.hx_script.specs.Forms.{reading_of}
use Rattle.hx_script.specs.declared.order.Order.{Order}
use Rattle.hx_script.specs.declared.order.Order.TheVariants as order

-- as many turns as the bound has suffice where no worker holds a key, unless one is lost or memory is wanting
abbrev pub SettlesFor : Made → Result Order Refusal → ClusterView → Type 0
SettlesFor (Turns turns end) (Ok (order.Settle most)) c = c.workers.hands ≡ [] → turn_bound c.state (length c.workers.waiting) ≤ most → IsUnsettled end → ⊥
SettlesFor _ _ c = Unit {0}

-- each on what the ones before left
abbrev pub AreBounded : List Exchange → ClusterView → ClusterView → Type 0
AreBounded [] old new = new ≡ old
AreBounded (exchange ∷ exchanges) old new =
    SettlesFor exchange.made (reading_of exchange.line) old
    × ((between : ClusterView) × (HasWorld old → Simulates old (made_entries exchange.made) between) × AreBounded exchanges between new)
