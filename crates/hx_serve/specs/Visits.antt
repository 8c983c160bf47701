-- What is left where links are served one after the other.
--     settled_turns          how many turns are settled behind a link, at most
--     Visit                  a link that was served, and what was settled behind it
--     Answers, AnswersFirst  exchanges answer questions, but for some last ones;  some first ones
--     AnswersRead            they answer what was read before a read failed
--     IsEnd                  what the exchanges of a visit answer, by how its link ended, and why it ended so
--     IsVisit                that, and what was settled
--     visit_entries, visits_entries      the entries of a visit, and of several
--     HaveVisited            a door handed the links out and took them back, one after the other
--     TellsScripts, TellsTexts      what it then tells of what came on them and of what was written to them
--     LawOfVisits            it does
--     most_links             how many links are served at most
--     EndsServing            why no more were
--     Serves                 links were served by a cluster
use Rattle.std.specs.Prelude.{◌≡◌, ◌≢◌, ◌≤◌, ◌<◌, ◌⊎◌, ◌-◌, ◌^◌, ℕ, List, [], ◌∷◌, ◌++◌, flat_map, length, map, Option, Some, Ok, Err, unwrap_or}
use Rattle.std.specs.declared.result.Result.{Result}
use Rattle.std.specs.List.{AllByRecursion}
use Rattle.std.specs.Io.KnownBytes.{Appends, Consumes}
use Rattle.hx_ports.specs.Causes.{Rose}
use Rattle.hx_ports.specs.Pieces.{IsCalm, OfBytes, most_stream_bytes}
use Rattle.hx_ports.specs.Views.{SinkView, SourceView}
use Rattle.hx_http.specs.Streams.{Question, behind, stream_of}
use Rattle.hx_link.specs.Exchanges.{LacksLast, questions_of, texts_of}
use Rattle.hx_link.specs.Running.{HasRead, IsClosed, IsCutShort}
use Rattle.hx_link.specs.declared.link.LinkEnd.{LinkEnd}
use Rattle.hx_link.specs.declared.link.LinkEnd.TheVariants as end
use Rattle.hx_door.specs.Doors.{DoorView, Hands, Closes, TakesBack}
use Rattle.hx_door.specs.declared.door.DoorFault.{DoorFault}
use Rattle.hx_model.specs.Machine.{History}
use Rattle.hx_core.specs.Refinement.{ClusterView, HasWorld, Simulates}
use Rattle.hx_script.specs.Exchanges.{Made, made_entries, Makes}
use Rattle.hx_script.specs.declared.order.Order.TheVariants as order
use Rattle.hx_serve.specs.Exchanges.{Exchange, IsExchange, entries_of, plain}

-- ---- one link

-- how many turns of worker 0 are made behind a link, at most
abbrev pub settled_turns : ℕ
settled_turns = 64

-- what the two ends of a link show
pub record LinkView : Type 0 where
  pub source : SourceView
  pub sink : SinkView

-- A link that was served: how it ended, what it showed as the door handed it out and as it had ended, what was asked and answered, and what was settled behind it
pub record Visit : Type 0 where
  pub end : LinkEnd
  pub before : LinkView
  pub after : LinkView
  pub exchanges : List Exchange
  pub settled : Made

-- The exchanges answer these questions in order, all but the rest. What was written are their replies, but for what is lacking of the last one
pub record Answers (exchanges : List Exchange) (questions rest : List Question) (lacking : List ℕ) (before after : Option (List ℕ)) : Type 0 where
  pub text : List ℕ
  pub each : AllByRecursion IsExchange exchanges
  pub split : questions ≡ questions_of (plain exchanges) ++ rest
  pub says : texts_of (plain exchanges) ≡ text ++ lacking
  pub lacks : LacksLast (plain exchanges) lacking
  pub wrote : Appends before after text

-- they answer some first questions, the last of them perhaps not whole
pub record AnswersFirst (exchanges : List Exchange) (questions : List Question) (before after : Option (List ℕ)) : Type 0 where
  pub rest : List Question
  pub lacking : List ℕ
  pub answers : Answers exchanges questions rest lacking before after

-- A read failed behind some bytes. They answer the messages that are whole in these, and whatever follows, it is asked from the one on that isn't whole
pub record AnswersRead (exchanges : List Exchange) (told left : Option (List ℕ)) (before after : Option (List ℕ)) : Type 0 where
  pub bytes : List ℕ
  pub read : Consumes told left bytes
  pub answers : Answers exchanges (stream_of bytes).questions [] [] before after
  pub goes_on : (more : List ℕ) → stream_of (bytes ++ more) ≡ behind (stream_of bytes).questions (stream_of ((stream_of bytes).unused ++ more))

-- They answer all that the bytes ask where the link ended between two requests, or within one; else the first of it. A fault of reading or writing has its cause, and a link that is too long its length
abbrev pub IsEnd : LinkEnd → LinkView → LinkView → List Exchange → Type 0
IsEnd end.Closed before after exchanges = OfBytes before.source.left (λ bytes. IsClosed (stream_of bytes) × Answers exchanges (stream_of bytes).questions [] [] before.sink.written after.sink.written)
IsEnd end.CutShort before after exchanges = OfBytes before.source.left (λ bytes. IsCutShort (stream_of bytes) × Answers exchanges (stream_of bytes).questions [] [] before.sink.written after.sink.written)
IsEnd end.ReadFault before after exchanges = AnswersRead exchanges before.source.left after.source.left before.sink.written after.sink.written × Rose before.source.faults after.source.faults
IsEnd end.WriteFault before after exchanges =
    OfBytes before.source.left (λ bytes. AnswersFirst exchanges (stream_of bytes).questions before.sink.written after.sink.written) × (Rose before.sink.faults after.sink.faults ⊎ Rose before.sink.stalls after.sink.stalls)
IsEnd end.TooLong before after exchanges =
    OfBytes before.source.left (λ bytes. AnswersFirst exchanges (stream_of bytes).questions before.sink.written after.sink.written) × HasRead before.source.left after.source.left (λ count. most_stream_bytes < count)
IsEnd end.NoMemory before after exchanges = OfBytes before.source.left (λ bytes. AnswersFirst exchanges (stream_of bytes).questions before.sink.written after.sink.written)

-- what was answered, by how the link ended; what was settled behind it; and that no read or write failed where the end isn't that
pub record IsVisit (visit : Visit) : Type 0 where
  pub ends : IsEnd visit.end visit.before visit.after visit.exchanges
  pub settles : Makes (Ok (order.Settle settled_turns)) visit.settled
  pub read_calm : visit.end ≢ end.ReadFault → visit.after.source.faults ≡ visit.before.source.faults
  pub write_calm : visit.end ≢ end.WriteFault → IsCalm visit.before.sink visit.after.sink

-- the entries of a visit: those of its exchanges, and then those of what was settled
abbrev pub visit_entries : Visit → History
visit_entries visit = entries_of visit.exchanges ++ made_entries visit.settled

-- ---- one after the other

-- the entries of visits, one behind the other
abbrev pub visits_entries : List Visit → History
visits_entries visits = flat_map visit_entries visits

-- a door handed a link out and took it back
pub record HasVisited (old : DoorView) (visit : Visit) (new : DoorView) : Type 0 where
  pub between : DoorView
  pub hands : Hands old between visit.before.source visit.before.sink
  pub takes : TakesBack between new visit.after.sink

-- and so the others, one after the other
abbrev pub HaveVisited : DoorView → List Visit → DoorView → Type 0
HaveVisited old [] new = new ≡ old
HaveVisited old (visit ∷ visits) new = (between : DoorView) × HasVisited old visit between × HaveVisited between visits new

-- what the source of a link had to give
abbrev pub left_of : Visit → Option (List ℕ)
left_of visit = visit.before.source.left

-- what had been written to a link when it ended
abbrev pub written_of : Visit → Option (List ℕ)
written_of visit = visit.after.sink.written

-- where a door told what was to come, the sources had the first of it to give, in order, and it tells the rest
abbrev pub TellsScripts : DoorView → List Visit → DoorView → Type 0
TellsScripts old visits new = (scripts : List (List ℕ)) → old.coming ≡ Some scripts → (sent : List (List ℕ)) × (rest : List (List ℕ)) × (scripts ≡ sent ++ rest) × (new.coming ≡ Some rest) × (map left_of visits ≡ map Some sent)

-- where it told what was written to links, it tells what was written to these behind that
abbrev pub TellsTexts : DoorView → List Visit → DoorView → Type 0
TellsTexts old visits new = (texts : List (List ℕ)) → old.written ≡ Some texts → (got : List (List ℕ)) × (new.written ≡ Some (texts ++ got)) × (map written_of visits ≡ map Some got)

-- what a door tells of the links that it handed out
abbrev pub LawOfVisits : Type 0
LawOfVisits = (old new : DoorView) (visits : List Visit) → AllByRecursion IsVisit visits → HaveVisited old visits new → TellsScripts old visits new × TellsTexts old visits new

-- how many links are served at most
abbrev pub most_links : Option ℕ → ℕ
most_links links = unwrap_or links (2 ^ 64 - 1)

-- So many links were served as were wanted, or the door is closed; or the door failed
abbrev pub EndsServing : Result ℕ DoorFault → Option ℕ → List Visit → DoorView → DoorView → Type 0
EndsServing (Ok count) links visits old new = (count ≡ length visits) × (((count ≡ most_links links) × (new ≡ old)) ⊎ Closes old new)
EndsServing (Err fault) links visits old new = new ≡ record old { faults = new.faults }

-- Links were served by a cluster, one after the other, each with what was settled behind it. Their entries are one history, which the cluster made if it stood for a world
pub record Serves (result : Result ℕ DoorFault) (links : Option ℕ) (old new : ClusterView) (before after : DoorView) : Type 0 where
  pub visits : List Visit
  pub each : AllByRecursion IsVisit visits
  pub simulates : HasWorld old → Simulates old (visits_entries visits) new
  pub between : DoorView
  pub visited : HaveVisited before visits between
  pub few : length visits ≤ most_links links
  pub ends : EndsServing result links visits between after
