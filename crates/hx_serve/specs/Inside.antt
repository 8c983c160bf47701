-- What serves the code alone.
--     IsSaid last answer text       an answer was said
--     IsCalled reading old answer new      a cluster answered what was read, or the reading was refused
--     IsServed end source sink ..   a link with these ends was served, and the door took it back
use Rattle.std.specs.Prelude.{◌≡◌, ◌≢◌, ◌⊎◌, ℕ, Bool, List, [], ◌∷◌, length, Ok, Err}
use Rattle.std.specs.declared.result.Result.{Result}
use Rattle.std.specs.List.{AllByRecursion}
use Rattle.hx_http.specs.Replies.{no_memory_text}
use Rattle.hx_model.specs.Requests.{request_entry}
use Rattle.hx_model.specs.declared.ask.Answer.{Answer}
use Rattle.hx_model.specs.declared.ask.Answer.TheVariants.{Refused}
use Rattle.hx_model.specs.declared.ask.Ask.{Ask}
use Rattle.hx_model.specs.declared.refusal.Refusal.{Refusal}
use Rattle.hx_model.specs.declared.refusal.Refusal.TheVariants.{NoMemory, StoreFailed}
use Rattle.hx_core.specs.Refinement.{ClusterView, HasWorld, Simulates}
use Rattle.hx_ports.specs.Views.{SinkView, SourceView}
use Rattle.hx_link.specs.declared.link.LinkEnd.{LinkEnd}
use Rattle.hx_door.specs.Doors.{DoorView, TakesBack}
use Rattle.hx_serve.specs.Exchanges.{reply_of}
use Rattle.hx_serve.specs.Visits.{HaveVisited, IsVisit, Visit, visit_entries, visits_entries}

-- an answer was said by its reply or, but for that of a loss, by the fixed one for want of memory
abbrev pub IsSaid : Bool → Answer → List ℕ → Type 0
IsSaid last answer text = (text ≡ reply_of last answer) ⊎ ((text ≡ no_memory_text last) × (answer ≢ Refused StoreFailed))

-- the cluster answered the ask that was read
pub record IsMade (reading : Result Ask Refusal) (old : ClusterView) (answer : Answer) (new : ClusterView) : Type 0 where
  pub ask : Ask
  pub reads : reading ≡ Ok ask
  pub simulates : Simulates old (request_entry ask answer ∷ []) new

-- it was refused where it was read, for want of memory too, and the cluster stays
pub record IsUnread (reading : Result Ask Refusal) (old : ClusterView) (answer : Answer) (new : ClusterView) : Type 0 where
  pub refusal : Refusal
  pub refused : answer ≡ Refused refusal
  pub cause : (refusal ≡ NoMemory) ⊎ (reading ≡ Err refusal)
  pub same : new ≡ old

abbrev pub IsCalled : Result Ask Refusal → ClusterView → Answer → ClusterView → Type 0
IsCalled reading old answer new = IsMade reading old answer new ⊎ IsUnread reading old answer new

-- ---- links

-- a link with these ends was served, and what it left was settled. The door took it back
pub record IsServed (end : LinkEnd) (source : SourceView) (sink : SinkView) (old new : ClusterView) (before after : DoorView) : Type 0 where
  pub visit : Visit
  pub is : IsVisit visit
  pub opens : visit.before ≡ record { source = source; sink = sink }
  pub simulates : HasWorld old → Simulates old (visit_entries visit) new
  pub takes : TakesBack before after visit.after.sink

-- so many links were served
pub record HaveServed (count : ℕ) (old new : ClusterView) (before after : DoorView) : Type 0 where
  pub visits : List Visit
  pub each : AllByRecursion IsVisit visits
  pub simulates : HasWorld old → Simulates old (visits_entries visits) new
  pub visited : HaveVisited before visits after
  pub many : length visits ≡ count
