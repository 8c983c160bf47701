-- What is marked as a whole, as its fields have it.
--     scope_of       a reach as it is seen
--     AreLinedUp     some first ones of some keys came in line
use Rattle.std.specs.Prelude.{◌≡◌, ℕ, List, Option, option_map, take}
use Rattle.hx_model.specs.declared.key.Key.{Key}
use Rattle.hx_queue.specs.Spread.{Scope, waiting_in}
use Rattle.hx_queue.specs.declared.spread.Scope.{Scope as Held}

abbrev pub scope_of : Option Held → Option Scope
scope_of scope = option_map (λ (r : Held). record { root = r.root; names = r.names.items; current = r.current }) scope

-- some first ones of some keys came in line, unless they stood there
pub record AreLinedUp (keys old new : List Key) : Type 0 where
  pub many : ℕ
  pub lined : new ≡ waiting_in old (take many keys)
