-- What was read of a message stays so when more bytes come.
use Rattle.std.proofs.Common.{◌≡◌, ◌≤◌, ◌+◌, ◌-◌, ℕ, false, List, [], ◌++◌, Some, Ok, sym, ap, subst, ◌∙◌, length, take, drop, min, arith, length-append, length-drop, length-take}
use Rattle.std.specs.Prelude.{slice_range, IsUtf8}
use Rattle.std.specs.declared.result.Result.{Result}
use Rattle.std.proofs.lemmas.List.{take-append-drop, take-append-le, drop-append-le}
use Rattle.httparse.specs.Spans.{span_bytes}
use Rattle.hx_http.specs.Fronts.{Front, front_of}
use Rattle.hx_http.specs.Messages.{Framing, most_front_bytes}
use Rattle.hx_http.specs.Searches.{AreSearched, IsRead, framing_at}
use Rattle.hx_http.specs.Inside.{IsTarget}
use Rattle.hx_http.specs.declared.fault.HeadFault.{HeadFault}
use Rattle.hx_http.specs.declared.message.Framing.{Framing as Read}
use Rattle.hx_http.specs.declared.search.LineSearch.{LineSearch}
use Rattle.hx_http.proofs.Pieces.{front_kept, take_grows, room-taken, Found}
use Rattle.hx_http.proofs.Searching.{searched-more}
use Rattle.hx_http.proofs.Streams.{front_takes}

-- ---- the end of a head

pub lines-of-room : (bytes : List ℕ) (room : ℕ) (s : LineSearch) → room ≡ min (length bytes) most_front_bytes → AreSearched (take most_front_bytes bytes) s → AreSearched (take room bytes) s
lines-of-room bytes room s room_is are = subst (λ l. AreSearched l s) (sym (room-taken bytes room room_is)) are

pub lines-of-more : (bytes more : List ℕ) (room : ℕ) (s : LineSearch) → room ≡ min (length bytes) most_front_bytes → AreSearched (take room bytes) s → AreSearched (take most_front_bytes (bytes ++ more)) s
lines-of-more bytes more room s room_is are =
    let grown = take_grows most_front_bytes bytes more in
    let here : AreSearched (take most_front_bytes bytes) s = subst (λ l. AreSearched l s) (room-taken bytes room room_is) are in
    subst (λ l. AreSearched l s) (sym grown.1) (searched-more (take most_front_bytes bytes) grown.0 s here)

-- ---- a head that was read

-- a part of bytes is a part of longer ones
part-of-more : (bytes more : List ℕ) (start end : ℕ) → start ≤ end → end ≤ length bytes → slice_range (bytes ++ more) start end ≡ slice_range bytes start end
part-of-more bytes more start end before within =
    ap (take (end - start)) (drop-append-le start bytes more (omega arith)) ∙ take-append-le (end - start) (drop start bytes) more (omega (arith, length-drop start bytes))

part-of-taken : (n : ℕ) (bytes : List ℕ) (start end : ℕ) → start ≤ end → end ≤ length (take n bytes) → slice_range (take n bytes) start end ≡ slice_range bytes start end
part-of-taken n bytes start end before within =
    sym (part-of-more (take n bytes) (drop n bytes) start end before within) ∙ ap (λ l. slice_range l start end) (take-append-drop n bytes)

-- what a head decides, by the target's text
abbrev framing_with : Read → List ℕ → Result Framing HeadFault
framing_with f target = Ok (record { method = f.method; target = target; body_bytes = f.body_bytes; last = f.last })

pub read-more : (bytes more : List ℕ) (f : Read) → IsRead bytes f → IsRead (bytes ++ more) f
read-more bytes more f is =
    let grown = take_grows most_front_bytes bytes more in
    let front : Front = record { length = f.head_bytes; lines = is.texts } in
    let within = is.within in
    let ordered = is.target.0 in
    let inside = is.target.1 in
    let same : span_bytes (bytes ++ more) f.target ≡ span_bytes bytes f.target = part-of-more bytes more f.target.start f.target.end ordered inside in
    record {
      texts = is.texts;
      front = ap front_of grown.1 ∙ front_kept (take most_front_bytes bytes) grown.0 false [] front is.front;
      decides = is.decides ∙ ap (framing_with f) (sym same);
      within = omega (arith, length-append bytes more);
      target = (ordered, omega (arith, length-append bytes more));
      text = subst IsUtf8 (sym same) is.text;
    }

-- the head was found, and it decides this
pub read-here : (bytes : List ℕ) (at : ℕ) (f : Read) → at ≤ length bytes → IsTarget (take at bytes) f → Found bytes at (Ok (framing_at (take at bytes) f)) → IsRead bytes f
read-here bytes at f within target found =
    let ordered = target.within.0 in
    let inside = target.within.1 in
    let same : span_bytes (take at bytes) f.target ≡ span_bytes bytes f.target = part-of-taken at bytes f.target.start f.target.end ordered inside in
    let place : f.head_bytes ≡ at = omega (arith, target.head, length-take at bytes) in
    record {
      texts = found.texts;
      front = found.front ∙ (λ i. Some (record { length = sym place i; lines = found.texts }));
      decides = found.decides ∙ ap (framing_with f) same;
      within = omega arith;
      target = (ordered, omega (arith, length-take at bytes));
      text = subst IsUtf8 same target.text;
    }

-- a message takes a byte at least, and lies in the bytes
pub read-uses : (bytes : List ℕ) (f : Read) → IsRead bytes f → f.body_bytes ≤ length bytes - f.head_bytes → (1 ≤ f.head_bytes + f.body_bytes) × (f.head_bytes + f.body_bytes ≤ length bytes)
read-uses bytes f is few =
    let some = front_takes (take most_front_bytes bytes) false [] (record { length = f.head_bytes; lines = is.texts }) is.front in
    let within = is.within in
    (omega arith, omega arith)
