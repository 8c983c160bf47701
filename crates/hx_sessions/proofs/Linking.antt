-- Links that were served over a seat.
--     Linked          what the engine says of a link
--     linked          what was asked and answered on it
use Rattle.std.proofs.Common.{◌≡◌, ◌<◌, ℕ, List, [], ◌∷◌, ◌++◌, Option, refl, subst, map}
use Rattle.std.specs.Prelude.{◌≢◌, ◌⊎◌}
use Rattle.std.specs.List.{AllByRecursion}
use Rattle.hx_ports.specs.Causes.{Rose}
use Rattle.hx_ports.specs.Pieces.{IsCalm, OfBytes, most_stream_bytes}
use Rattle.hx_http.specs.Streams.{Question, stream_of}
use Rattle.hx_link.specs.Exchanges.{Exchange as Plain, LacksLast, questions_of, texts_of}
use Rattle.hx_link.specs.Reading.{ReadsFront}
use Rattle.hx_link.specs.Running.{Cuts, Does, Doing, HasRead, IsClosed, IsCutShort, Ran}
use Rattle.hx_link.specs.declared.link.LinkEnd.{LinkEnd}
use Rattle.hx_link.specs.declared.link.LinkEnd.TheVariants as end
use Rattle.hx_serve.specs.Exchanges.{IsExchange}
use Rattle.hx_serve.specs.Visits.{Answers, AnswersFirst, IsEnd, LinkView}
use Rattle.hx_shared.specs.Seats.{SeatView}
use Rattle.hx_sessions.specs.Seats.{HasAsked, IsServedBy, IsSeatExchange, SeatExchange, exchange_of}

are_exchanges : (xs : List SeatExchange) → AllByRecursion IsSeatExchange xs → AllByRecursion IsExchange (map exchange_of xs)
are_exchanges [] p = tt
are_exchanges (x ∷ xs) p = (p.0.0, are_exchanges xs p.1)

module _ {V : Type 0} (at : V → SeatView) (does : Doing Question V) (asks : (a b : V) (xs : List (Plain Question)) → does a xs b → HasAsked (at a) xs (at b)) where
  -- what the engine says of a link that was served
  pub record Linked (how : LinkEnd) (old new : V) (before after : LinkView) : Type 0 where
    pub closed : how ≡ end.Closed → OfBytes before.source.left (λ bytes. IsClosed (stream_of bytes) × Does does (stream_of bytes).questions old new before.sink.written after.sink.written)
    pub cut_short : how ≡ end.CutShort → OfBytes before.source.left (λ bytes. IsCutShort (stream_of bytes) × Does does (stream_of bytes).questions old new before.sink.written after.sink.written)
    pub cut : OfBytes before.source.left (λ bytes. Cuts does (stream_of bytes).questions old new before.sink.written after.sink.written)
    pub unread : how ≡ end.ReadFault → ReadsFront does before.source.left after.source.left old new before.sink.written after.sink.written
    pub too_long : how ≡ end.TooLong → HasRead before.source.left after.source.left (λ count. most_stream_bytes < count)
    pub read_calm : how ≢ end.ReadFault → after.source.faults ≡ before.source.faults
    pub write_calm : how ≢ end.WriteFault → IsCalm before.sink after.sink
    pub read_fault : how ≡ end.ReadFault → Rose before.source.faults after.source.faults
    pub write_fault : how ≡ end.WriteFault → Rose before.sink.faults after.sink.faults ⊎ Rose before.sink.stalls after.sink.stalls

  -- what was asked, and what it made of the seat
  record Served (how : LinkEnd) (old new : V) (before after : LinkView) : Type 0 where
    pub exchanges : List (Plain Question)
    pub asked : HasAsked (at old) exchanges (at new)
    pub ends : IsEnd how before after (map exchange_of asked.exchanges)

  answers : (qs rest : List Question) (lacking : List ℕ) (a b : V) (x y : Option (List ℕ)) (p : Ran does qs rest lacking a b x y) → Answers (map exchange_of (asks a b p.exchanges p.does_them).exchanges) qs rest lacking x y
  answers qs rest lacking a b x y p =
      let h = asks a b p.exchanges p.does_them in
      record {
        text = p.text;
        each = are_exchanges h.exchanges h.each;
        split = subst (λ (l : List (Plain Question)). qs ≡ questions_of l ++ rest) h.are p.split;
        says = subst (λ (l : List (Plain Question)). texts_of l ≡ p.text ++ lacking) h.are p.says;
        lacks = subst (λ (l : List (Plain Question)). LacksLast l lacking) h.are p.lacks;
        wrote = p.wrote;
      }

  first : (qs : List Question) (a b : V) (x y : Option (List ℕ)) (p : Cuts does qs a b x y) → AnswersFirst (map exchange_of (asks a b p.ran.exchanges p.ran.does_them).exchanges) qs x y
  first qs a b x y p = record { rest = p.rest; lacking = p.lacking; answers = answers qs p.rest p.lacking a b x y p.ran }

  served : (how : LinkEnd) (a b : V) (before after : LinkView) → Linked how a b before after → Served how a b before after
  served end.Closed a b before after p =
      let all = p.closed refl in
      record { exchanges = all.2.1.exchanges; asked = asks a b all.2.1.exchanges all.2.1.does_them; ends = (all.0, all.1, (all.2.0, answers _ [] [] a b _ _ all.2.1)) }
  served end.ReadFault a b before after p =
      let read = p.unread refl in
      record {
        exchanges = read.does_them.exchanges;
        asked = asks a b read.does_them.exchanges read.does_them.does_them;
        ends = (record { bytes = read.bytes; read = read.read; answers = answers _ [] [] a b _ _ read.does_them; goes_on = read.goes_on }, p.read_fault refl);
      }
  served end.WriteFault a b before after p =
      record { exchanges = p.cut.2.ran.exchanges; asked = asks a b p.cut.2.ran.exchanges p.cut.2.ran.does_them; ends = ((p.cut.0, p.cut.1, first _ a b _ _ p.cut.2), p.write_fault refl) }
  served end.CutShort a b before after p =
      let all = p.cut_short refl in
      record { exchanges = all.2.1.exchanges; asked = asks a b all.2.1.exchanges all.2.1.does_them; ends = (all.0, all.1, (all.2.0, answers _ [] [] a b _ _ all.2.1)) }
  served end.TooLong a b before after p =
      record { exchanges = p.cut.2.ran.exchanges; asked = asks a b p.cut.2.ran.exchanges p.cut.2.ran.does_them; ends = ((p.cut.0, p.cut.1, first _ a b _ _ p.cut.2), p.too_long refl) }
  served end.NoMemory a b before after p =
      record { exchanges = p.cut.2.ran.exchanges; asked = asks a b p.cut.2.ran.exchanges p.cut.2.ran.does_them; ends = (p.cut.0, p.cut.1, first _ a b _ _ p.cut.2) }

  -- a link was served over a seat
  pub linked : (how : LinkEnd) (a b : V) (before after : LinkView) → Linked how a b before after → IsServedBy how before after (at a) (at b)
  linked how a b before after p =
      let s = served how a b before after p in
      record { exchanges = s.asked.exchanges; each = s.asked.each; ends = s.ends; called = s.asked.called; legal = s.asked.legal; read_calm = p.read_calm; write_calm = p.write_calm }
