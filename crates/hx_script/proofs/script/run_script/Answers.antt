use Rattle.std.proofs.Common.{◌<◌, ◌+◌, ◌∙◌, refl, ap, arith}
use Rattle.hx_model.specs.Hands.{hand_of}
use Rattle.hx_ports.proofs.Writing.{calm_on}
use Rattle.hx_ports.specs.Pieces.{most_stream_bytes}
use Rattle.hx_script.proofs.Pieces.{Cuts-unread, ReadsOn-start, ReadsOn-feed, ReadsOn-end, ReadsOn-cut, ReadsOn-cut_last, ReadsOn-fault, ReadsOn-front, ReadsOn-long}
use Rattle.hx_script.proofs.script.run_script.Goals as goal

pub reading-init : goal.reading-init
reading-init g c = rw c.new-waiting.ensures.items (record {
  waits = record { no_end = tt; few = omega arith };
  idle = ap (hand_of 0) c.requires;
  room = omega (arith, c.in-Ok.ensures);
  few = omega arith;
  reads = ReadsOn-start (g.S.Source.shown c.args.source.now).left _ _;
  read_calm = refl;
  write_calm = record { faults = refl; stalls = refl };
})

pub reading-preserved : goal.reading-preserved
reading-preserved g c =
    let fed = c.in_default-feed.ensures in
    let feeds = rw c.deref.ensures.value at fed.feeds in
    let kept = rw c.deref.ensures.value at fed.kept in
    let read = c.in-Ok-read_piece.ensures.bytes.0 in
    record {
      waits = fed.waits;
      idle = fed.idle;
      room = omega (arith, c.reading.invariant.room, c.in-Ok-read_piece.ensures.same);
      few = omega arith;
      reads = ReadsOn-feed (g.S.Source.shown c.args.source.now).left (g.S.Source.shown c.reading.source).left (g.S.Source.shown c.read_piece.new.source).left c.read_piece.new.piece.items c.reading.waiting.items c.feed.new.waiting.items c.reading.total c.in-Ok-read_piece.count _ _ _ _ _ _ c.reading.invariant.reads c.in-Ok-read_piece.ensures.bound.0 read kept feeds;
      read_calm = c.in-Ok-read_piece.ensures.cause.still ∙ c.reading.invariant.read_calm;
      write_calm = calm_on _ _ _ c.reading.invariant.write_calm fed.still;
    }

pub returns-in_default-clause-cut : goal.returns-in_default-clause-cut
returns-in_default-clause-cut g c = λ _. Cuts-unread (g.S.Source.shown c.args.source.now).left _ _

pub returns-in-Err-clause-cut : goal.returns-in-Err-clause-cut
returns-in-Err-clause-cut g c = λ _. ReadsOn-fault (g.S.Source.shown c.args.source.now).left (g.S.Source.shown c.reading.source).left (g.S.Source.shown c.read_piece.new.source).left c.reading.waiting.items c.reading.total _ _ _ _ c.reading.invariant.reads c.in-Err.ensures.bytes

pub returns-in-Err-clause-unread : goal.returns-in-Err-clause-unread
returns-in-Err-clause-unread g c = λ _. ReadsOn-front (g.S.Source.shown c.args.source.now).left (g.S.Source.shown c.reading.source).left (g.S.Source.shown c.read_piece.new.source).left c.reading.waiting.items c.reading.total _ _ _ _ c.reading.invariant.reads c.in-Err.ensures.bytes

pub returns-then-total-count-clause-cut : goal.returns-then-total-count-clause-cut
returns-then-total-count-clause-cut g c =
    let long : most_stream_bytes < c.reading.total + c.in-Ok-read_piece.count = omega arith in
    let more = ReadsOn-long (g.S.Source.shown c.args.source.now).left (g.S.Source.shown c.reading.source).left (g.S.Source.shown c.read_piece.new.source).left c.read_piece.new.piece.items c.reading.waiting.items c.reading.total c.in-Ok-read_piece.count _ _ _ _ c.reading.invariant.reads c.in-Ok-read_piece.ensures.bound.0 c.in-Ok-read_piece.ensures.bytes.0 long in
    λ _. (more.0, more.1, more.2.1)

pub returns-then-total-count-clause-too_long : goal.returns-then-total-count-clause-too_long
returns-then-total-count-clause-too_long g c =
    let long : most_stream_bytes < c.reading.total + c.in-Ok-read_piece.count = omega arith in
    λ _. ReadsOn-long (g.S.Source.shown c.args.source.now).left (g.S.Source.shown c.reading.source).left (g.S.Source.shown c.read_piece.new.source).left c.read_piece.new.piece.items c.reading.waiting.items c.reading.total c.in-Ok-read_piece.count _ _ _ _ c.reading.invariant.reads c.in-Ok-read_piece.ensures.bound.0 c.in-Ok-read_piece.ensures.bytes.0 long

pub returns-in-Err-feed-clause-cut : goal.returns-in-Err-feed-clause-cut
returns-in-Err-feed-clause-cut g c = λ _. ReadsOn-cut (g.S.Source.shown c.args.source.now).left (g.S.Source.shown c.reading.source).left (g.S.Source.shown c.read_piece.new.source).left _ c.reading.waiting.items c.reading.total _ _ _ _ _ _ c.reading.invariant.reads c.in-Ok-read_piece.ensures.bytes.0 (rw c.deref.ensures.value at c.in-Err-feed.ensures.cut)

pub returns-in-Ok-answer_part-clause-done : goal.returns-in-Ok-answer_part-clause-done
returns-in-Ok-answer_part-clause-done g c =
    let zero = rw c.if-count-eq0.true at c.in-Ok-read_piece.ensures.bytes in
    λ _. ReadsOn-end (g.S.Source.shown c.args.source.now).left (g.S.Source.shown c.reading.source).left (g.S.Source.shown c.read_piece.new.source).left c.reading.waiting.items c.reading.total _ _ _ _ _ _ c.reading.invariant.reads zero.0 (zero.1 refl (omega (arith, c.reading.invariant.room, c.in-Ok-read_piece.ensures.same))) c.reading.invariant.few c.reading.invariant.waits.no_end (rw c.as_slice.ensures.value at c.in-Ok-answer_part.ensures.does)

pub returns-clause-cut : goal.returns-clause-cut
returns-clause-cut g c =
    let zero = rw c.if-count-eq0.true at c.in-Ok-read_piece.ensures.bytes in
    λ _. ReadsOn-cut_last (g.S.Source.shown c.args.source.now).left (g.S.Source.shown c.reading.source).left (g.S.Source.shown c.read_piece.new.source).left c.reading.waiting.items c.reading.total _ _ _ _ _ _ c.reading.invariant.reads zero.0 (zero.1 refl (omega (arith, c.reading.invariant.room, c.in-Ok-read_piece.ensures.same))) c.reading.invariant.waits.no_end (rw c.as_slice.ensures.value at c.in-Err-answer_part.ensures.cut)
