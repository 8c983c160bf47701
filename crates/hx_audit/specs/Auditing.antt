-- What an audit of stored rows finds.
--     HasRows objects excluded s   a state of these objects, where these names are excluded from trees
--     IsFirst s found       the least key that wants a write or, where none does, nothing
--     IsOneAtMost           of a state one thing is found
--     IsNothingExactly      nothing is found exactly where no key wants a write
use Rattle.std.specs.Prelude.{◌≡◌, ℕ, true, List, Option, Some, None, is_some}
use Rattle.std.specs.declared.cmp.Ordering.TheVariants.{Less}
use Rattle.hx_order.specs.KeyOrder.{key_cmp}
use Rattle.hx_model.specs.State.{State, Objects}
use Rattle.hx_model.specs.Wanted.{wanted_write}
use Rattle.hx_model.specs.declared.key.Key.{Key}

-- its objects and the names that it excludes are these; its version may be any
pub record HasRows (rows : Objects) (excluded : List (List ℕ)) (s : State) : Type 0 where
  pub objects : s.objects ≡ rows
  pub excludes : s.config.excluded ≡ excluded

-- it wants a write, and no key that is less does; or no key at all wants one, whether it is one of the state or not
abbrev pub IsFirst : State → Option Key → Type 0
IsFirst s (Some k) = (is_some (wanted_write s k) ≡ true) × ((other : Key) → key_cmp other k ≡ Less → wanted_write s other ≡ None)
IsFirst s None = (k : Key) → wanted_write s k ≡ None

-- what is found is determined by the state
abbrev pub IsOneAtMost : Type 0
IsOneAtMost = (s : State) (a b : Option Key) → IsFirst s a → IsFirst s b → a ≡ b

-- each of the two says the other
abbrev pub IsNothingExactly : Type 0
IsNothingExactly = (s : State) (found : Option Key) → IsFirst s found → (found ≡ None → (k : Key) → wanted_write s k ≡ None) × (((k : Key) → wanted_write s k ≡ None) → found ≡ None)
