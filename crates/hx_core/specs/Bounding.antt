-- How turns of a settle count against the bound on settling.
--     IsCounted old result new    a turn that wasn't lost is one that the bound counts, where no worker holds a key
--     AreTurnsTo                  turns one behind the other lead from a state and the keys that wait in it to others
--     AreCounted old count new    so many turns that the bound counts were made, where no worker holds a key
--     IsUnsettled end             a settle ended with keys that wait or are held
use Rattle.std.specs.Prelude.{◌≡◌, ℕ, List, [], ◌∷◌, length, None}
use Rattle.hx_model.specs.State.{State}
use Rattle.hx_model.specs.declared.key.Key.{Key}
use Rattle.hx_bound.specs.Settles.{IsTurn as IsBoundTurn, turn_of}
use Rattle.hx_core.specs.Refinement.{ClusterView}
use Rattle.hx_core.specs.Turns.{loss_in}
use Rattle.hx_core.specs.declared.turns.Settle.{Settle}
use Rattle.hx_core.specs.declared.turns.Settle.TheVariants as settled
use Rattle.hx_core.specs.declared.turns.Turn.{Turn}
use Rattle.hx_core.specs.declared.turns.Turn.TheVariants as turn

-- a turn of the first key that waits, which wrote what the key wants, and after which no worker holds a key
pub record Counts (old : ClusterView) (k : Key) (new : ClusterView) : Type 0 where
  pub turn : IsBoundTurn old.state old.workers.waiting k new.workers.waiting
  pub state : new.state ≡ turn_of old.state k
  pub hands : new.workers.hands ≡ []

-- where no worker holds a key, and the turn wasn't lost
abbrev pub IsCounted : ClusterView → Turn → ClusterView → Type 0
IsCounted old (turn.Made turned) new = old.workers.hands ≡ [] → loss_in turned.end ≡ None → Counts old turned.key new
IsCounted old (turn.Over end) new = Unit {0}

-- one behind the other: each key with those that wait behind its turn
abbrev pub AreTurnsTo : State → List Key → List (Key × List Key) → State → List Key → Type 0
AreTurnsTo s waiting [] t behind = (t ≡ s) × (behind ≡ waiting)
AreTurnsTo s waiting (turn ∷ turns) t behind = IsBoundTurn s waiting turn.0 turn.1 × AreTurnsTo (turn_of s turn.0) turn.1 turns t behind

-- so many turns
pub record HasCounted (old : ClusterView) (count : ℕ) (new : ClusterView) : Type 0 where
  pub turns : List (Key × List Key)
  pub are : AreTurnsTo old.state old.workers.waiting turns new.state new.workers.waiting
  pub counts : length turns ≡ count
  pub hands : new.workers.hands ≡ []

-- where no worker holds a key
abbrev pub AreCounted : ClusterView → ℕ → ClusterView → Type 0
AreCounted old count new = old.workers.hands ≡ [] → HasCounted old count new

-- keys wait, or are held
abbrev pub IsUnsettled : Settle → Type 0
IsUnsettled (settled.Unsettled waiting held) = Unit {0}
IsUnsettled _ = ⊥
