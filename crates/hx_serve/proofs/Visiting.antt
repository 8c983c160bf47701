-- Links that were served.
--     Linked              what the engine says of a link
--     served              a link was served, and what it left was settled
--     served-none, served-more      none yet, and one more
--     serves-enough, serves-closed, serves-fault      no more are
--     served_calm, closes_calm, fault_cause, calm_cause      when the door's count rises
use Rattle.std.proofs.Common.{◌≡◌, ◌≤◌, ◌<◌, ◌+◌, ℕ, List, [], ◌∷◌, ◌++◌, Option, Ok, Err, refl, sym, ap, subst, ◌∙◌, inl, inr, arith, append-nil, length-append}
use Rattle.std.specs.Prelude.{◌≢◌, ◌⊎◌}
use Rattle.std.specs.List.{AllByRecursion}
use Rattle.std.proofs.lemmas.Grind.{flat_map-append}
use Rattle.hx_ports.specs.Causes.{HasCause, Rose}
use Rattle.hx_ports.specs.Pieces.{IsCalm, OfBytes, most_stream_bytes}
use Rattle.hx_ports.specs.Views.{SinkView, SourceView}
use Rattle.hx_http.specs.Streams.{Question, stream_of}
use Rattle.hx_link.specs.Exchanges.{Exchange as Plain, LacksLast, questions_of, texts_of}
use Rattle.hx_link.specs.Reading.{ReadsFront}
use Rattle.hx_link.specs.Running.{Cuts, Does, HasRead, IsClosed, IsCutShort, Ran}
use Rattle.hx_link.specs.declared.link.LinkEnd.{LinkEnd}
use Rattle.hx_link.specs.declared.link.LinkEnd.TheVariants as end
use Rattle.hx_door.specs.Doors.{Closes, DoorView, Hands, TakesBack}
use Rattle.hx_door.specs.declared.door.DoorFault.{DoorFault}
use Rattle.hx_model.specs.Machine.{History}
use Rattle.hx_core.specs.Refinement.{ClusterView, HasWorld, Simulates}
use Rattle.hx_script.specs.Exchanges.{made_entries}
use Rattle.hx_script.proofs.Simulating.{Simulates-after, Simulates-none}
use Rattle.hx_serve.specs.Exchanges.{Exchange, HasAnswered, HasSettled, entries_of}
use Rattle.hx_serve.specs.Inside.{HaveServed, IsServed}
use Rattle.hx_serve.specs.Visits.{Answers, AnswersFirst, HasVisited, HaveVisited, IsEnd, IsVisit, LinkView, Serves, Visit, most_links, settled_turns, visit_entries, visits_entries}

-- ---- one link

-- what the engine says of a link that a cluster served
pub record Linked (how : LinkEnd) (old new : ClusterView) (before after : LinkView) : Type 0 where
  pub closed : how ≡ end.Closed → OfBytes before.source.left (λ bytes. IsClosed (stream_of bytes) × Does HasAnswered (stream_of bytes).questions old new before.sink.written after.sink.written)
  pub cut_short : how ≡ end.CutShort → OfBytes before.source.left (λ bytes. IsCutShort (stream_of bytes) × Does HasAnswered (stream_of bytes).questions old new before.sink.written after.sink.written)
  pub cut : OfBytes before.source.left (λ bytes. Cuts HasAnswered (stream_of bytes).questions old new before.sink.written after.sink.written)
  pub unread : how ≡ end.ReadFault → ReadsFront HasAnswered before.source.left after.source.left old new before.sink.written after.sink.written
  pub too_long : how ≡ end.TooLong → HasRead before.source.left after.source.left (λ count. most_stream_bytes < count)
  pub read_calm : how ≢ end.ReadFault → after.source.faults ≡ before.source.faults
  pub write_calm : how ≢ end.WriteFault → IsCalm before.sink after.sink
  pub read_fault : how ≡ end.ReadFault → Rose before.source.faults after.source.faults
  pub write_fault : how ≡ end.WriteFault → Rose before.sink.faults after.sink.faults ⊎ Rose before.sink.stalls after.sink.stalls

-- what was answered, with the entries that were made
record Answered (how : LinkEnd) (old new : ClusterView) (before after : LinkView) : Type 0 where
  pub exchanges : List Exchange
  pub ends : IsEnd how before after exchanges
  pub simulates : HasWorld old → Simulates old (entries_of exchanges) new

answers : (qs rest : List Question) (lacking : List ℕ) (a b : ClusterView) (x y : Option (List ℕ)) (p : Ran HasAnswered qs rest lacking a b x y) → Answers p.does_them.exchanges qs rest lacking x y
answers qs rest lacking a b x y p =
    record {
      text = p.text;
      each = p.does_them.each;
      split = subst (λ (l : List (Plain Question)). qs ≡ questions_of l ++ rest) p.does_them.are p.split;
      says = subst (λ (l : List (Plain Question)). texts_of l ≡ p.text ++ lacking) p.does_them.are p.says;
      lacks = subst (λ (l : List (Plain Question)). LacksLast l lacking) p.does_them.are p.lacks;
      wrote = p.wrote;
    }

first : (qs : List Question) (a b : ClusterView) (x y : Option (List ℕ)) (p : Cuts HasAnswered qs a b x y) → AnswersFirst p.ran.does_them.exchanges qs x y
first qs a b x y p = record { rest = p.rest; lacking = p.lacking; answers = answers qs p.rest p.lacking a b x y p.ran }

answered : (how : LinkEnd) (a b : ClusterView) (before after : LinkView) → Linked how a b before after → Answered how a b before after
answered end.Closed a b before after p =
    let all = p.closed refl in
    record { exchanges = all.2.1.does_them.exchanges; ends = (all.0, all.1, (all.2.0, answers _ [] [] a b _ _ all.2.1)); simulates = all.2.1.does_them.simulates }
answered end.ReadFault a b before after p =
    let read = p.unread refl in
    record {
      exchanges = read.does_them.does_them.exchanges;
      ends = (record { bytes = read.bytes; read = read.read; answers = answers _ [] [] a b _ _ read.does_them; goes_on = read.goes_on }, p.read_fault refl);
      simulates = read.does_them.does_them.simulates;
    }
answered end.WriteFault a b before after p = record { exchanges = p.cut.2.ran.does_them.exchanges; ends = ((p.cut.0, p.cut.1, first _ a b _ _ p.cut.2), p.write_fault refl); simulates = p.cut.2.ran.does_them.simulates }
answered end.CutShort a b before after p =
    let all = p.cut_short refl in
    record { exchanges = all.2.1.does_them.exchanges; ends = (all.0, all.1, (all.2.0, answers _ [] [] a b _ _ all.2.1)); simulates = all.2.1.does_them.simulates }
answered end.TooLong a b before after p = record { exchanges = p.cut.2.ran.does_them.exchanges; ends = ((p.cut.0, p.cut.1, first _ a b _ _ p.cut.2), p.too_long refl); simulates = p.cut.2.ran.does_them.simulates }
answered end.NoMemory a b before after p = record { exchanges = p.cut.2.ran.does_them.exchanges; ends = (p.cut.0, p.cut.1, first _ a b _ _ p.cut.2); simulates = p.cut.2.ran.does_them.simulates }

-- it was served, and what it left was settled
pub served : (how : LinkEnd) (a b c : ClusterView) (before after : LinkView) (x y : DoorView) → Linked how a b before after → HasSettled settled_turns b c → TakesBack x y after.sink → IsServed how before.source before.sink a c x y
served how a b c before after x y p settles takes =
    let all = answered how a b before after p in
    record {
      visit = record { end = how; before = before; after = after; exchanges = all.exchanges; settled = settles.made };
      is = record { ends = all.ends; settles = settles.makes; read_calm = p.read_calm; write_calm = p.write_calm };
      opens = refl;
      simulates = Simulates-after a b c (entries_of all.exchanges) (made_entries settles.made) all.simulates settles.simulates;
      takes = takes;
    }

-- ---- one after the other

pub served-none : (c : ClusterView) (x : DoorView) → HaveServed 0 c c x x
served-none c x = record { visits = []; each = tt; simulates = λ stood. Simulates-none c stood; visited = refl; many = refl }

all_more : (vs : List Visit) (v : Visit) → AllByRecursion IsVisit vs → IsVisit v → AllByRecursion IsVisit (vs ++ v ∷ [])
all_more [] v p q = (q, tt)
all_more (u ∷ vs) v p q = (p.0, all_more vs v p.1 q)

visited_more : (vs : List Visit) (v : Visit) (x y z : DoorView) → HaveVisited x vs y → HasVisited y v z → HaveVisited x (vs ++ v ∷ []) z
visited_more [] v x y z p q = (z, subst (λ (w : DoorView). HasVisited w v z) p q, refl)
visited_more (u ∷ vs) v x y z (between, first, rest) q = (between, first, visited_more vs v between y z rest q)

-- a link was handed out and served
pub served-more : (n : ℕ) (how : LinkEnd) (source : SourceView) (sink : SinkView) (a b c : ClusterView) (x y between z : DoorView) → HaveServed n a b x y → Hands y between source sink → IsServed how source sink b c between z → HaveServed (n + 1) a c x z
served-more n how source sink a b c x y between z p hands q =
    let opened : Hands y between q.visit.before.source q.visit.before.sink = subst (λ (v : LinkView). Hands y between v.source v.sink) (sym q.opens) hands in
    record {
      visits = p.visits ++ q.visit ∷ [];
      each = all_more p.visits q.visit p.each q.is;
      simulates = λ stood. subst (λ (h : History). Simulates a h c) (sym (flat_map-append visit_entries p.visits (q.visit ∷ []) ∙ ap (λ l. visits_entries p.visits ++ l) (append-nil (visit_entries q.visit))))
          (Simulates-after a b c (visits_entries p.visits) (visit_entries q.visit) p.simulates q.simulates stood);
      visited = visited_more p.visits q.visit x y z p.visited (record { between = between; hands = opened; takes = q.takes });
      many = length-append p.visits (q.visit ∷ []) ∙ ap (λ k. k + 1) p.many;
    }

-- ---- no more are

pub serves-enough : (links : Option ℕ) (n : ℕ) (a b : ClusterView) (x y : DoorView) → HaveServed n a b x y → n ≡ most_links links → Serves (Ok n) links a b x y
serves-enough links n a b x y p all =
    record { visits = p.visits; each = p.each; simulates = p.simulates; between = y; visited = p.visited; few = omega (arith, p.many, all); ends = (sym p.many, inl (all, refl)) }

pub serves-closed : (links : Option ℕ) (n : ℕ) (a b : ClusterView) (x y z : DoorView) → HaveServed n a b x y → n < most_links links → Closes y z → Serves (Ok n) links a b x z
serves-closed links n a b x y z p few closes =
    record { visits = p.visits; each = p.each; simulates = p.simulates; between = y; visited = p.visited; few = omega (arith, p.many, few); ends = (sym p.many, inr closes) }

pub serves-fault : (links : Option ℕ) (n : ℕ) (fault : DoorFault) (a b : ClusterView) (x y z : DoorView) → HaveServed n a b x y → n < most_links links → z ≡ record y { faults = z.faults } → Serves (Err fault) links a b x z
serves-fault links n fault a b x y z p few fails =
    record { visits = p.visits; each = p.each; simulates = p.simulates; between = y; visited = p.visited; few = omega (arith, p.many, few); ends = fails }

-- ---- the door's count

visit_calm : (x y : DoorView) (v : Visit) → HasVisited x v y → y.faults ≡ x.faults
visit_calm x y v p = ap (λ (d : DoorView). d.faults) p.takes.counts ∙ ap (λ (d : DoorView). d.faults) p.hands.counts

visits_calm : (vs : List Visit) (x y : DoorView) → HaveVisited x vs y → y.faults ≡ x.faults
visits_calm [] x y p = ap (λ (d : DoorView). d.faults) p
visits_calm (v ∷ vs) x y (between, first, rest) = visits_calm vs between y rest ∙ visit_calm x between v first

-- links that were served count nothing
pub served_calm : (n : ℕ) (a b : ClusterView) (x y : DoorView) → HaveServed n a b x y → y.faults ≡ x.faults
served_calm n a b x y p = visits_calm p.visits x y p.visited

pub closes_calm : (x y : DoorView) → Closes x y → y.faults ≡ x.faults
closes_calm x y p = ap (λ (d : DoorView). d.faults) p.stays

-- a fault has its cause, whatever was to be answered
pub fault_cause : {T U : Type 0} (old mid new : ℕ) (fault : DoorFault) → mid ≡ old → HasCause {T = T} mid new (Err fault) → HasCause {T = U} old new (Err fault)
fault_cause old mid new fault same p = record { later = subst (λ n. n ≤ new) same p.later; failed = subst (λ n. Rose n new) same p.failed; still = tt }

pub calm_cause : {T : Type 0} (old new : ℕ) (answer : T) → new ≡ old → HasCause {E = DoorFault} old new (Ok answer)
calm_cause old new answer same = record { later = omega (arith, same); failed = tt; still = same }
