-- What a seat knows, and what calls make of it.
--     SeatView              what a seat knows: the cluster that was shared, what it has seen, and its own calls
--     HasHistory v          what it has seen is a legal history of the cluster that was shared
--     HasTaken v w brief    it took a worker's key, and has neither finished nor dropped it
--     Adds old e new        it has made one call more, and seen all that was called before
--     Meets old other new   it has met another seat: what both had seen begins what it has seen
--     IsLeftBy v c          a cluster is what a legal history leaves that begins with what the seat has seen
use Rattle.std.specs.Prelude.{◌≡◌, ℕ, ◌+◌, ◌++◌, [], ◌∷◌, Some, None}
use mathlib.Core.List.{IsPrefix}
use Rattle.hx_turn.specs.declared.view.View.{View}
use Rattle.hx_reconcile.specs.declared.brief.Brief.{Brief}
use Rattle.hx_core.specs.Refinement.{ClusterView}
use Rattle.hx_shared.specs.Calls.{Log, IsHistoryFrom, StandsAt, opened}
use Rattle.hx_shared.specs.declared.call.Call.{Call}

-- what a seat knows: it is a pass of the lock under which the cluster lies
abbrev pub SeatView : Type 0
SeatView = View Call ClusterView

-- what it has seen is a legal history of the cluster that was shared
abbrev pub HasHistory : SeatView → Type 0
HasHistory v = (o : ClusterView) × (v.opening ≡ Some o) × IsHistoryFrom o v.seen

-- it took the worker's key and was given this brief, and has neither finished nor dropped it
abbrev pub HasTaken : SeatView → ℕ → Brief → Type 0
HasTaken v worker brief = opened worker None v.mine ≡ Some (v.number, brief)

-- It has made one call more, and has seen all that was called before it, behind what it had seen. All else stays
pub record Adds (old : SeatView) (e : Call) (new : SeatView) : Type 0 where
  pub between : Log
  pub seen : new.seen ≡ (old.seen ++ between) ++ (old.number, e) ∷ []
  pub mine : new.mine ≡ old.mine ++ (old.number, e) ∷ []
  pub number : new.number ≡ old.number
  pub opening : new.opening ≡ old.opening
  pub rights : new.rights ≡ old.rights
  pub first : new.first ≡ old.first

-- It has met another seat, whose rights it has. What both had seen begins what it has seen. All else stays
pub record Meets (old other new : SeatView) : Type 0 where
  pub seen : IsPrefix old.seen new.seen
  pub heard : IsPrefix other.seen new.seen
  pub rights : new.rights ≡ old.rights + other.rights
  pub mine : new.mine ≡ old.mine
  pub number : new.number ≡ old.number
  pub opening : new.opening ≡ old.opening
  pub first : new.first ≡ old.first

-- the cluster is what a legal history leaves that begins with what the seat has seen
pub record IsLeftBy (v : SeatView) (c : ClusterView) : Type 0 where
  pub opening : ClusterView
  pub opened : v.opening ≡ Some opening
  pub log : Log
  pub begins : IsPrefix v.seen log
  pub stands : StandsAt opening log c
