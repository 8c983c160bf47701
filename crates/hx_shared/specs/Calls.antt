-- What a history of calls is.
--     Log                   calls with the numbers of their seats
--     entry_of, entries     the entry that a call is, by its answer;  those of all calls, in order
--     opened w None log     by which seat a worker's key was taken and what it was given, unless it has finished or dropped it since
--     MayFollow, IsOrderly  a take gives only to a worker that holds nothing, and a finish or a drop comes from the seat that took;  so does each of a history
--     HandsAre log hands    what workers hold is what the calls say
--     StandsAt o log c      what opened as o is c after these calls
--     IsHistoryFrom o log   the calls are a legal history of what opened as o
use Rattle.std.specs.Prelude.{◌≡◌, ℕ, ◌==◌, ◌++◌, List, [], ◌∷◌, Option, Some, None, IsSomeAnd, option_map, if◌then◌else◌}
use Rattle.hx_model.specs.Hands.{Hand, hand_of}
use Rattle.hx_model.specs.Machine.{World, Entry, History, Finished, Dropped, Checked, IsHistory}
use Rattle.hx_model.specs.Requests.{request_entry}
use Rattle.hx_reconcile.specs.Briefs.{hand_by}
use Rattle.hx_reconcile.specs.declared.brief.Brief.{Brief}
use Rattle.hx_core.specs.Refinement.{ClusterView, HasWorld, Represents, Simulates}
use Rattle.hx_core.specs.Turns.{take_entry}
use Rattle.hx_core.specs.declared.turns.Take.{Take}
use Rattle.hx_core.specs.declared.turns.Take.TheVariants as take
use Rattle.hx_shared.specs.declared.call.Call.{Call}
use Rattle.hx_shared.specs.declared.call.Call.TheVariants as call

-- calls with the numbers of their seats
abbrev pub Log : Type 0
Log = List (ℕ × Call)

-- the entry of the cluster's machine that a call is, by its answer
abbrev pub entry_of : Call → Entry
entry_of (call.Request ask answer) = request_entry ask answer
entry_of (call.Take worker taken) = take_entry worker taken
entry_of (call.Finish worker end) = Finished worker end
entry_of (call.Drop worker key) = Dropped worker key
entry_of (call.Busy waiting held) = Checked waiting held

-- those of all calls, in order
abbrev pub entries : Log → History
entries [] = []
entries (e ∷ es) = entry_of e.1 ∷ entries es

-- ---- who took what

-- what is open for a worker after a take by a seat: a job opens, and any other answer changes nothing
abbrev pub opened_take : ℕ → Option (ℕ × Brief) → ℕ → ℕ → Take → Option (ℕ × Brief)
opened_take w o n v (take.Job brief) = if v == w then Some (n, brief) else o
opened_take w o n v take.Idle = o
opened_take w o n v (take.Already brief) = o
opened_take w o n v (take.Other holder) = o
opened_take w o n v take.NoMemory = o

-- what is open after one more call: a finish or a drop closes
abbrev pub opened_by : ℕ → Option (ℕ × Brief) → ℕ → Call → Option (ℕ × Brief)
opened_by w o n (call.Request ask answer) = o
opened_by w o n (call.Take v taken) = opened_take w o n v taken
opened_by w o n (call.Finish v end) = if v == w then None else o
opened_by w o n (call.Drop v key) = if v == w then None else o
opened_by w o n (call.Busy waiting held) = o

-- what is open after calls: the number of the seat that took, and the brief that the worker was given
abbrev pub opened : ℕ → Option (ℕ × Brief) → Log → Option (ℕ × Brief)
opened w o [] = o
opened w o (e ∷ es) = opened w (opened_by w o e.0 e.1) es

-- what is open was taken by the seat
abbrev pub IsOpenedBy : ℕ → Option (ℕ × Brief) → Type 0
IsOpenedBy n o = IsSomeAnd o (λ p. p.0 ≡ n)

-- a job goes to a worker with nothing open
abbrev pub MayTake : Log → ℕ → Take → Type 0
MayTake before v (take.Job brief) = opened v None before ≡ None
MayTake before v take.Idle = Unit {0}
MayTake before v (take.Already brief) = Unit {0}
MayTake before v (take.Other holder) = Unit {0}
MayTake before v take.NoMemory = Unit {0}

-- a finish or a drop comes from the seat that took
abbrev pub MayFollow : Log → ℕ → Call → Type 0
MayFollow before n (call.Request ask answer) = Unit {0}
MayFollow before n (call.Take v taken) = MayTake before v taken
MayFollow before n (call.Finish v end) = IsOpenedBy n (opened v None before)
MayFollow before n (call.Drop v key) = IsOpenedBy n (opened v None before)
MayFollow before n (call.Busy waiting held) = Unit {0}

-- each call may follow those before it
abbrev pub IsOrderly : Log → Log → Type 0
IsOrderly before [] = Unit {0}
IsOrderly before (e ∷ es) = MayFollow before e.0 e.1 × IsOrderly (before ++ e ∷ []) es

-- what workers hold is what the calls say
abbrev pub HandsAre : Log → List Hand → Type 0
HandsAre log hands = (w : ℕ) → hand_of w hands ≡ option_map (λ (o : ℕ × Brief). hand_by w o.1) (opened w None log)

-- ---- clusters and their histories

-- what opened as o is c after these calls: they made these entries, finishes and drops came from the seats that took, and what workers hold is what the calls say
pub record StandsAt (o : ClusterView) (log : Log) (c : ClusterView) : Type 0 where
  pub simulates : Simulates o (entries log) c
  pub orderly : IsOrderly [] log
  pub hands : HandsAre log c.workers.hands

-- A history that is legal in every world that the opening stood for, and there is one. Finishes and drops come from the seats that took
pub record IsHistoryFrom (o : ClusterView) (log : Log) : Type 0 where
  pub stood : HasWorld o
  pub legal : (w : World) → Represents o w → IsHistory w (entries log)
  pub orderly : IsOrderly [] log
