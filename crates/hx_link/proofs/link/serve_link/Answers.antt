use Rattle.std.proofs.Common.{◌≡◌, ◌<◌, ◌≤◌, ◌+◌, ◌∙◌, ◌++◌, refl, sym, ap, subst, take, List, ℕ, arith}
use Rattle.hx_http.specs.Searches.{IsSearched}
use Rattle.hx_ports.proofs.Writing.{calm_on}
use Rattle.hx_ports.specs.Pieces.{most_stream_bytes}
use Rattle.hx_link.specs.Running.{Feeds, Ends, CutsPiece}
use Rattle.hx_link.proofs.Pieces.{Reads-start, Reads-unread, Reads-fed, Reads-ended, Reads-end, Reads-cut, Reads-stop, Reads-fault, cut_of, closed_end, short_end, cut_end}
use Rattle.hx_link.proofs.Counts.{count-none, Reads-count, Reads-count-none, Reads-count-fault, Reads-front}
use Rattle.hx_link.proofs.link.serve_link.Goals as goal

pub returns-in_default-clause-cut : goal.returns-in_default-clause-cut
returns-in_default-clause-cut g c = Reads-unread g.V.Service.does c.law_of_none.ensures c.law_of_more.ensures (g.S.Source.shown c.args.source.now).left _ _

pub reading-init : goal.reading-init
reading-init g c = rw c.new-waiting.ensures.items (record {
  waits = refl;
  goes_on = c.new-search.ensures;
  room = omega (arith, c.in-Ok.ensures);
  few = omega arith;
  reads = Reads-start g.V.Service.does c.law_of_none.ensures c.law_of_more.ensures (g.S.Source.shown c.args.source.now).left _ _;
  read_calm = refl;
  write_calm = record { faults = refl; stalls = refl };
})

pub returns-in-Err-clause-cut : goal.returns-in-Err-clause-cut
returns-in-Err-clause-cut g c = Reads-fault g.V.Service.does c.law_of_none.ensures c.law_of_more.ensures (g.S.Source.shown c.args.source.now).left (g.S.Source.shown c.reading.source).left (g.S.Source.shown c.read_piece.new.source).left c.reading.waiting.items c.reading.total _ _ _ _ c.reading.invariant.reads c.in-Err.ensures.bytes

pub returns-then-count-eq0-clause-closed : goal.returns-then-count-eq0-clause-closed
returns-then-count-eq0-clause-closed g c =
    let zero = rw c.if-count-eq0.true at c.in-Ok-read_piece.ensures.bytes in
    let ended = Reads-end g.V.Service.does c.law_of_none.ensures c.law_of_more.ensures (g.S.Source.shown c.args.source.now).left (g.S.Source.shown c.reading.source).left (g.S.Source.shown c.read_piece.new.source).left c.reading.waiting.items c.reading.total _ _ _ _ c.reading.invariant.reads zero.0 (zero.1 refl (omega (arith, c.reading.invariant.room, c.in-Ok-read_piece.ensures.same))) c.reading.invariant.waits in
    closed_end g.V.Service.does c.law_of_none.ensures c.law_of_more.ensures _ c.reading.waiting.items c.end_of.result _ _ _ _ c.end_of.ensures ended

pub returns-then-count-eq0-clause-cut_short : goal.returns-then-count-eq0-clause-cut_short
returns-then-count-eq0-clause-cut_short g c =
    let zero = rw c.if-count-eq0.true at c.in-Ok-read_piece.ensures.bytes in
    let ended = Reads-end g.V.Service.does c.law_of_none.ensures c.law_of_more.ensures (g.S.Source.shown c.args.source.now).left (g.S.Source.shown c.reading.source).left (g.S.Source.shown c.read_piece.new.source).left c.reading.waiting.items c.reading.total _ _ _ _ c.reading.invariant.reads zero.0 (zero.1 refl (omega (arith, c.reading.invariant.room, c.in-Ok-read_piece.ensures.same))) c.reading.invariant.waits in
    short_end g.V.Service.does c.law_of_none.ensures c.law_of_more.ensures _ c.reading.waiting.items c.end_of.result _ _ _ _ c.end_of.ensures ended

pub returns-then-count-eq0-clause-cut : goal.returns-then-count-eq0-clause-cut
returns-then-count-eq0-clause-cut g c =
    let zero = rw c.if-count-eq0.true at c.in-Ok-read_piece.ensures.bytes in
    let ended = Reads-end g.V.Service.does c.law_of_none.ensures c.law_of_more.ensures (g.S.Source.shown c.args.source.now).left (g.S.Source.shown c.reading.source).left (g.S.Source.shown c.read_piece.new.source).left c.reading.waiting.items c.reading.total _ _ _ _ c.reading.invariant.reads zero.0 (zero.1 refl (omega (arith, c.reading.invariant.room, c.in-Ok-read_piece.ensures.same))) c.reading.invariant.waits in
    cut_end g.V.Service.does c.law_of_none.ensures c.law_of_more.ensures _ c.reading.waiting.items _ _ _ _ ended

pub returns-then-total-count-clause-cut : goal.returns-then-total-count-clause-cut
returns-then-total-count-clause-cut g c = Reads-stop g.V.Service.does c.law_of_none.ensures c.law_of_more.ensures (g.S.Source.shown c.args.source.now).left (g.S.Source.shown c.reading.source).left (g.S.Source.shown c.read_piece.new.source).left _ c.reading.waiting.items c.reading.total _ _ _ _ c.reading.invariant.reads c.in-Ok-read_piece.ensures.bytes.0

pub returns-then-total-count-clause-too_long : goal.returns-then-total-count-clause-too_long
returns-then-total-count-clause-too_long g c =
    let long : most_stream_bytes < c.reading.total + c.in-Ok-read_piece.count = omega arith in
    λ _. Reads-count g.V.Service.does c.law_of_none.ensures c.law_of_more.ensures (g.S.Source.shown c.args.source.now).left (g.S.Source.shown c.reading.source).left (g.S.Source.shown c.read_piece.new.source).left c.read_piece.new.piece.items c.reading.waiting.items c.reading.total c.in-Ok-read_piece.count _ _ _ _ (λ count. most_stream_bytes < count) c.reading.invariant.reads c.in-Ok-read_piece.ensures.bound.0 c.in-Ok-read_piece.ensures.bytes.0 long

pub returns-in_default-clause-few : goal.returns-in_default-clause-few
returns-in_default-clause-few g c = λ _. count-none (g.S.Source.shown c.args.source.now).left

pub returns-in-Err-clause-few : goal.returns-in-Err-clause-few
returns-in-Err-clause-few g c = λ _. Reads-count-fault g.V.Service.does c.law_of_none.ensures c.law_of_more.ensures (g.S.Source.shown c.args.source.now).left (g.S.Source.shown c.reading.source).left (g.S.Source.shown c.read_piece.new.source).left c.reading.waiting.items c.reading.total _ _ _ _ c.reading.invariant.reads c.in-Err.ensures.bytes c.reading.invariant.few

pub returns-in-Err-clause-unread : goal.returns-in-Err-clause-unread
returns-in-Err-clause-unread g c = λ _. Reads-front g.V.Service.does c.law_of_none.ensures c.law_of_more.ensures (g.S.Source.shown c.args.source.now).left (g.S.Source.shown c.reading.source).left (g.S.Source.shown c.read_piece.new.source).left c.reading.waiting.items c.reading.total _ _ _ _ c.reading.invariant.reads c.in-Err.ensures.bytes c.reading.invariant.waits

pub returns-then-count-eq0-clause-few : goal.returns-then-count-eq0-clause-few
returns-then-count-eq0-clause-few g c =
    let zero = rw c.if-count-eq0.true at c.in-Ok-read_piece.ensures.bytes in
    λ _. Reads-count-none g.V.Service.does c.law_of_none.ensures c.law_of_more.ensures (g.S.Source.shown c.args.source.now).left (g.S.Source.shown c.reading.source).left (g.S.Source.shown c.read_piece.new.source).left c.reading.waiting.items c.reading.total _ _ _ _ c.reading.invariant.reads zero.0 c.reading.invariant.few

pub returns-in-Ok-false-clause-few : goal.returns-in-Ok-false-clause-few
returns-in-Ok-false-clause-few g c =
    let few : c.reading.total + c.in-Ok-read_piece.count ≤ most_stream_bytes = omega arith in
    λ _. Reads-count g.V.Service.does c.law_of_none.ensures c.law_of_more.ensures (g.S.Source.shown c.args.source.now).left (g.S.Source.shown c.reading.source).left (g.S.Source.shown c.read_piece.new.source).left c.read_piece.new.piece.items c.reading.waiting.items c.reading.total c.in-Ok-read_piece.count _ _ _ _ (λ count. count ≤ most_stream_bytes) c.reading.invariant.reads c.in-Ok-read_piece.ensures.bound.0 c.in-Ok-read_piece.ensures.bytes.0 few

pub returns-in-Err-feed_waiting-clause-few : goal.returns-in-Err-feed_waiting-clause-few
returns-in-Err-feed_waiting-clause-few g c =
    let few : c.reading.total + c.in-Ok-read_piece.count ≤ most_stream_bytes = omega arith in
    λ _. Reads-count g.V.Service.does c.law_of_none.ensures c.law_of_more.ensures (g.S.Source.shown c.args.source.now).left (g.S.Source.shown c.reading.source).left (g.S.Source.shown c.read_piece.new.source).left c.read_piece.new.piece.items c.reading.waiting.items c.reading.total c.in-Ok-read_piece.count _ _ _ _ (λ count. count ≤ most_stream_bytes) c.reading.invariant.reads c.in-Ok-read_piece.ensures.bound.0 c.in-Ok-read_piece.ensures.bytes.0 few

pub returns-in-Err-keep-clause-few : goal.returns-in-Err-keep-clause-few
returns-in-Err-keep-clause-few g c =
    let few : c.reading.total + c.in-Ok-read_piece.count ≤ most_stream_bytes = omega arith in
    λ _. Reads-count g.V.Service.does c.law_of_none.ensures c.law_of_more.ensures (g.S.Source.shown c.args.source.now).left (g.S.Source.shown c.reading.source).left (g.S.Source.shown c.read_piece.new.source).left c.read_piece.new.piece.items c.reading.waiting.items c.reading.total c.in-Ok-read_piece.count _ _ _ _ (λ count. count ≤ most_stream_bytes) c.reading.invariant.reads c.in-Ok-read_piece.ensures.bound.0 c.in-Ok-read_piece.ensures.bytes.0 few

pub reading-preserved : goal.reading-preserved
reading-preserved g c =
    let piece : List ℕ = take c.in-Ok-read_piece.count c.read_piece.new.piece.items in
    let same : c.keep.new.waiting.items ≡ c.reading.waiting.items ++ piece = c.in_default-keep.ensures ∙ ap (λ l. c.reading.waiting.items ++ take c.in-Ok-read_piece.count l) c.deref.ensures.value in
    let fed = subst (λ l. Feeds g.V.Service.does l c.feed_waiting.new.waiting.items c.reading.service c.feed_waiting.new.service (g.W.Sink.shown c.reading.sink).written (g.W.Sink.shown c.feed_waiting.new.sink).written) same (c.in-Ok-true.ensures.feeds c.in-Ok-true.field-0-test) in
    record {
      waits = c.in-Ok-true.ensures.waits c.in-Ok-true.field-0-test;
      goes_on = c.in-Ok-true.ensures.goes_on c.in-Ok-true.field-0-test;
      room = omega (arith, c.reading.invariant.room, c.in-Ok-read_piece.ensures.same);
      few = omega arith;
      reads = Reads-fed g.V.Service.does c.law_of_none.ensures c.law_of_more.ensures (g.S.Source.shown c.args.source.now).left (g.S.Source.shown c.reading.source).left (g.S.Source.shown c.read_piece.new.source).left c.read_piece.new.piece.items c.reading.waiting.items c.feed_waiting.new.waiting.items c.reading.total c.in-Ok-read_piece.count _ _ _ _ _ _ c.reading.invariant.reads c.in-Ok-read_piece.ensures.bound.0 c.in-Ok-read_piece.ensures.bytes.0 fed;
      read_calm = c.in-Ok-read_piece.ensures.cause.still ∙ c.reading.invariant.read_calm;
      write_calm = calm_on _ _ _ c.reading.invariant.write_calm c.in-Ok-true.ensures.cause.still;
    }

pub returns-in-Ok-false-clause-closed : goal.returns-in-Ok-false-clause-closed
returns-in-Ok-false-clause-closed g c =
    let piece : List ℕ = take c.in-Ok-read_piece.count c.read_piece.new.piece.items in
    let same : c.keep.new.waiting.items ≡ c.reading.waiting.items ++ piece = c.in_default-keep.ensures ∙ ap (λ l. c.reading.waiting.items ++ take c.in-Ok-read_piece.count l) c.deref.ensures.value in
    let ended = subst (λ l. Ends g.V.Service.does l c.reading.service c.feed_waiting.new.service (g.W.Sink.shown c.reading.sink).written (g.W.Sink.shown c.feed_waiting.new.sink).written) same (c.in-Ok-false.ensures.ends c.in-Ok-false.field-0-test) in
    λ _. Reads-ended g.V.Service.does c.law_of_none.ensures c.law_of_more.ensures (g.S.Source.shown c.args.source.now).left (g.S.Source.shown c.reading.source).left (g.S.Source.shown c.read_piece.new.source).left piece c.reading.waiting.items c.reading.total _ _ _ _ _ _ c.reading.invariant.reads c.in-Ok-read_piece.ensures.bytes.0 ended

pub returns-in-Ok-false-clause-cut : goal.returns-in-Ok-false-clause-cut
returns-in-Ok-false-clause-cut g c = cut_of g.V.Service.does c.law_of_none.ensures c.law_of_more.ensures _ _ _ _ _ (returns-in-Ok-false-clause-closed g c refl)

pub returns-in-Err-feed_waiting-clause-cut : goal.returns-in-Err-feed_waiting-clause-cut
returns-in-Err-feed_waiting-clause-cut g c =
    let piece : List ℕ = take c.in-Ok-read_piece.count c.read_piece.new.piece.items in
    let same : c.keep.new.waiting.items ≡ c.reading.waiting.items ++ piece = c.in_default-keep.ensures ∙ ap (λ l. c.reading.waiting.items ++ take c.in-Ok-read_piece.count l) c.deref.ensures.value in
    let cut = subst (λ l. CutsPiece g.V.Service.does l c.reading.service c.feed_waiting.new.service (g.W.Sink.shown c.reading.sink).written (g.W.Sink.shown c.feed_waiting.new.sink).written) same c.in-Err-feed_waiting.ensures.cut in
    Reads-cut g.V.Service.does c.law_of_none.ensures c.law_of_more.ensures (g.S.Source.shown c.args.source.now).left (g.S.Source.shown c.reading.source).left (g.S.Source.shown c.read_piece.new.source).left piece c.reading.waiting.items c.reading.total _ _ _ _ _ _ c.reading.invariant.reads c.in-Ok-read_piece.ensures.bytes.0 cut

pub feed_waiting-requires : goal.feed_waiting-requires
feed_waiting-requires g c =
    let piece : List ℕ = take c.in-Ok-read_piece.count c.read_piece.new.piece.items in
    let same : c.keep.new.waiting.items ≡ c.reading.waiting.items ++ piece = c.in_default-keep.ensures ∙ ap (λ l. c.reading.waiting.items ++ take c.in-Ok-read_piece.count l) c.deref.ensures.value in
    record { searched = subst (λ l. IsSearched l c.reading.search) (sym same) (c.reading.invariant.goes_on piece) }
