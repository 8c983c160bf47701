-- When a fault may be answered: only where the count of the object's own faults rose.
--     HasCause              a count never falls, and it rose exactly where the call failed
--     KeeperCause           the same of a keeper, whose want of memory is free
--     IsStall               a write took nothing of a piece that isn't empty
--     StallCause            the count of stalls never falls, and it rose exactly at a stall
use Rattle.std.specs.Prelude.{◌≡◌, ℕ, ◌<◌, ◌≤◌, Ok, OnOk, OnErr, IfOk, IsErrOf, List, length}
use Rattle.std.specs.declared.result.Result.{Result}
pub use Rattle.hx_model.specs.Counts.{Rose}
use Rattle.hx_ports.specs.declared.keeper.KeepFault.{KeepFault}
use Rattle.hx_ports.specs.declared.keeper.KeepFault.TheVariants.{Fault}

-- a count that never falls, that rose where the call failed, and that stays where it didn't
pub record HasCause {T E : Type 0} (before now : ℕ) (result : Result T E) : Type 0 where
  pub later : before ≤ now
  pub failed : OnErr result (Rose before now)
  pub still : OnOk result (now ≡ before)

-- a count that never falls, that rose where the keeper answers a fault of its own, and that stays where it doesn't
pub record KeeperCause {T : Type 0} (before now : ℕ) (result : Result T KeepFault) : Type 0 where
  pub later : before ≤ now
  pub failed : IsErrOf result Fault → Rose before now
  pub still : ¬ IsErrOf result Fault → now ≡ before

-- a write takes no more than it is given
abbrev pub WritesAtMost : {E : Type 0} → Result ℕ E → List ℕ → Type 0
WritesAtMost result from = IfOk result (λ n. n ≤ length from)

-- a write took nothing of a piece that isn't empty
abbrev pub IsStall : {E : Type 0} → Result ℕ E → List ℕ → Type 0
IsStall result from = (result ≡ Ok 0) × (0 < length from)

-- a count that never falls, that rose at a stall, and that stays where there was none
pub record StallCause {E : Type 0} (before now : ℕ) (result : Result ℕ E) (from : List ℕ) : Type 0 where
  pub later : before ≤ now
  pub stalled : IsStall result from → Rose before now
  pub still : ¬ IsStall result from → now ≡ before
