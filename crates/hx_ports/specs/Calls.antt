-- Which calls of a port in memory fail, by their numbers.
--     is_planned            the next call is one that fails
--     FailsByPlan           a call failed exactly where it was planned, and is counted
--     landing               whether the batch of a failing commit lands, if the commit is one that fails
--     CommitsByPlan         what a commit answers and does, by the plan
use Rattle.std.specs.Prelude.{◌≡◌, ℕ, Bool, true, false, List, nat_eq, Some, None, find as find_first, IsErr, IsErrOf, ◌↔◌, IsTrue}
use Rattle.std.specs.List.{list_any}
use Rattle.std.specs.Option.{option_map}
use Rattle.std.specs.declared.option.Option.{Option}
use Rattle.std.specs.declared.result.Result.{Result}
pub use Rattle.hx_model.specs.Counts.{next_number}
use Rattle.hx_ports.specs.declared.keeper.KeepFault.{KeepFault}
use Rattle.hx_ports.specs.declared.keeper.KeepFault.TheVariants.{Fault}
use Rattle.hx_ports.specs.declared.keeper.Batch.{Batch}
use Rattle.hx_ports.specs.declared.mem.Plan.{Plan}
use Rattle.hx_ports.specs.declared.mem.FailCommit.{FailCommit}
use Rattle.hx_ports.specs.Keeping.{Kept, Lands}

-- the next call is one that fails
abbrev pub is_planned : Plan → Bool
is_planned plan = list_any (λ n. nat_eq n (next_number plan.calls)) plan.numbers.items

-- a call was counted
abbrev pub after_call : Plan → Plan
after_call plan = record plan { calls = next_number plan.calls }

-- a call failed exactly where it was planned, and is counted
pub record FailsByPlan {T E : Type 0} (old new : Plan) (result : Result T E) : Type 0 where
  pub fails : IsErr result ↔ IsTrue (is_planned old)
  pub counted : new ≡ after_call old

-- whether the batch of the commit with this number lands, if that commit is one that fails
abbrev pub landing : List FailCommit → ℕ → Option Bool
landing fails number = option_map (λ fail. fail.landed) (find_first (λ fail. nat_eq fail.call number) fails)

-- what a commit answers and does, by whether the keeper was broken and what was planned
abbrev pub CommitsByPlan : {T : Type 0} → Bool → Option Bool → Batch → Option Kept → Option Kept → Result T KeepFault → Type 0
CommitsByPlan true plan batch old new result = IsErrOf result Fault × (new ≡ old)
CommitsByPlan false None batch old new result = ¬ IsErrOf result Fault
CommitsByPlan false (Some false) batch old new result = IsErrOf result Fault × (new ≡ old)
CommitsByPlan false (Some true) batch old new result = IsErr result × (IsErrOf result Fault → Lands batch old new)
