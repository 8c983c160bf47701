-- How far the end of a head was looked for.
use Rattle.std.proofs.Common.{◌≡◌, ◌≤◌, ◌<◌, ◌+◌, ◌-◌, ℕ, suc, Bool, true, false, List, [], ◌∷◌, ◌++◌, None, Some, sym, ap, ◌∙◌, length, take, drop, arith, append_assoc, append-nil, length-append, length-drop, length-take, drop-cons}
use Rattle.std.specs.Prelude.{slice_range, ◌==◌, nat_lt}
use Rattle.std.proofs.lemmas.Bool.Decides.{nat_tests}
use Rattle.std.specs.declared.option.Option.{Option}
use Rattle.std.specs.Str.Lines.{strip_carriage_return}
use Rattle.std.proofs.Math.Seq.{take-add}
use Rattle.std.proofs.lemmas.List.{take-append-drop, take_all, drop-drop, take-append-le, drop-append-le}
use Rattle.hx_http.specs.Fronts.{Front, line_ended, front_from, front_of}
use Rattle.hx_http.specs.Searches.{after, has_begun, AreSearched}
use Rattle.hx_http.specs.Inside.{HasNoFeed, FeedsAt}
use Rattle.hx_http.specs.declared.search.LineSearch.{LineSearch}
use Rattle.hx_http.proofs.Printing.{after-after, line-after, front-stretch, front-feed}

abbrev stretch : List ℕ → ℕ → ℕ → List ℕ
stretch bytes at end = take end (drop at bytes)

-- around a line feed
around : (bytes : List ℕ) (at end : ℕ) → FeedsAt (drop at bytes) end → take (at + end + 1) bytes ≡ take at bytes ++ (stretch bytes at end ++ 10 ∷ [])
around bytes at end feeds =
    let split : drop at bytes ≡ take end (drop at bytes) ++ 10 ∷ drop (suc end) (drop at bytes) =
    sym (take-append-drop end (drop at bytes)) ∙ ap (λ l. take end (drop at bytes) ++ l) (drop-cons (drop at bytes) end 0 feeds.within ∙ ap (λ b. b ∷ drop (suc end) (drop at bytes)) feeds.is) in
    let first : take (end + 1) (drop at bytes) ≡ take end (drop at bytes) ++ 10 ∷ [] =
    take-add end 1 (drop at bytes) ∙ ap (λ l. take end (drop at bytes) ++ take 1 l) (drop-cons (drop at bytes) end 0 feeds.within ∙ ap (λ b. b ∷ drop (suc end) (drop at bytes)) feeds.is) in
    let place : at + end + 1 ≡ at + (end + 1) = omega arith in
    ap (λ n. take n bytes) place ∙ take-add at (end + 1) bytes ∙ ap (λ l. take at bytes ++ l) first

longer : (bytes : List ℕ) (line at end : ℕ) → line ≤ at → slice_range bytes line at ++ take end (drop at bytes) ≡ slice_range bytes line (at + end)
longer bytes line at end before =
    let count : at - line + end ≡ at + end - line = omega arith in
    let place : line + (at - line) ≡ at = omega arith in
    ap (λ l. take (at - line) (drop line bytes) ++ take end l) (ap (λ n. drop n bytes) (sym place) ∙ sym (drop-drop (at - line) line bytes)) ∙ sym (take-add (at - line) end (drop line bytes)) ∙ ap (λ n. take n (drop line bytes)) count

-- a line ended
ended : (bytes : List ℕ) (s : LineSearch) (end : ℕ) (is : AreSearched bytes s) → FeedsAt (drop s.at bytes) end → (more : List ℕ)
    → front_of (take (s.at + end + 1) bytes ++ more) ≡ after (s.at + end + 1) is.texts (line_ended (has_begun s) (strip_carriage_return (slice_range bytes s.line (s.at + end))) (λ (b : Bool). front_from more b []))
ended bytes s end is feeds more =
    let part = stretch bytes s.at end in
    let split : take (s.at + end + 1) bytes ++ more ≡ take s.at bytes ++ (part ++ 10 ∷ more) =
    ap (λ l. l ++ more) (around bytes s.at end feeds) ∙ append_assoc (take s.at bytes) (part ++ 10 ∷ []) more ∙ ap (λ l. take s.at bytes ++ l) (append_assoc part (10 ∷ []) more) in
    let within = feeds.within in
    let len : length part ≡ end = omega (arith, length-take end (drop s.at bytes), within) in
    let line : slice_range bytes s.line s.at ++ part ≡ slice_range bytes s.line (s.at + end) = longer bytes s.line s.at end is.line in
    let rest : Bool → Option Front = λ b. front_from more b [] in
    let count : 1 + end + s.at ≡ s.at + end + 1 = omega arith in
    ap front_of split ∙ is.is (part ++ 10 ∷ more)
    ∙ ap (after s.at is.texts) (front-stretch part (10 ∷ more) (has_begun s) (slice_range bytes s.line s.at) feeds.before ∙ ap (λ n. after n [] (front_from (10 ∷ more) (has_begun s) (slice_range bytes s.line s.at ++ part))) len
    ∙ ap (after end []) (front-feed more (has_begun s) (slice_range bytes s.line s.at ++ part)) ∙ after-after end 1 [] [] _ ∙ ap (λ l. after (1 + end) [] (line_ended (has_begun s) (strip_carriage_return l) rest)) line)
    ∙ after-after s.at (1 + end) is.texts [] _ ∙ ap (λ n. after n (is.texts ++ []) found) count ∙ ap (λ t. after (s.at + end + 1) t found) (append-nil is.texts)
  where
    found : Option Front
    found = line_ended (has_begun s) (strip_carriage_return (slice_range bytes s.line (s.at + end))) (λ (b : Bool). front_from more b [])

-- it is the last of the head
pub head-ends : (bytes : List ℕ) (s : LineSearch) (end : ℕ) (is : AreSearched bytes s) → FeedsAt (drop s.at bytes) end → strip_carriage_return (slice_range bytes s.line (s.at + end)) ≡ [] → 0 < s.lines
    → (texts : List (List ℕ)) × (length texts ≡ s.lines) × (front_of bytes ≡ Some (record { length = s.at + end + 1; lines = texts }))
head-ends bytes s end is feeds empty some =
    let begun : has_begun s ≡ true = grind (arith, nat_tests, some) in
    let place = s.at + end + 1 in
    let rest : Bool → Option Front = λ b. front_from (drop place bytes) b [] in
    let found : line_ended (has_begun s) (strip_carriage_return (slice_range bytes s.line (s.at + end))) rest ≡ Some (record { length = 0; lines = [] }) =
    ap (λ l. line_ended (has_begun s) l rest) empty ∙ ap (λ b. line_ended b [] rest) begun in
    let len : 0 + (s.at + end + 1) ≡ s.at + end + 1 = omega arith in
    (is.texts, is.many, ap front_of (sym (take-append-drop place bytes)) ∙ ended bytes s end is feeds (drop place bytes) ∙ ap (after place is.texts) found ∙ (λ i. Some (record { length = len i; lines = append-nil is.texts i })))

nothing : (bytes : List ℕ) (n : ℕ) → slice_range bytes n n ≡ []
nothing bytes n = let none : n - n ≡ 0 = omega arith in ap (λ k. take k (drop n bytes)) none

place-within : (bytes : List ℕ) (at end : ℕ) → at ≤ length bytes → FeedsAt (drop at bytes) end → at + end + 1 ≤ length bytes
place-within bytes at end within feeds = let before = feeds.within in omega (arith, length-drop at bytes, before)

-- it is an empty one before the head
pub line-passed : (bytes : List ℕ) (s : LineSearch) (end : ℕ) (is : AreSearched bytes s) → FeedsAt (drop s.at bytes) end → strip_carriage_return (slice_range bytes s.line (s.at + end)) ≡ [] → s.lines ≤ 0
    → AreSearched bytes (record { at = s.at + end + 1; line = s.at + end + 1; lines = s.lines })
line-passed bytes s end is feeds empty none =
    let begun : has_begun s ≡ false = grind (arith, nat_tests, none) in
    let place = s.at + end + 1 in
    let few = is.few in
    record {
      line = omega arith;
      within = place-within bytes s.at end is.within feeds;
      texts = is.texts;
      many = is.many;
      few = omega arith;
      is = λ more.
          let rest : Bool → Option Front = λ b. front_from more b [] in
          let found : line_ended (has_begun s) (strip_carriage_return (slice_range bytes s.line (s.at + end))) rest ≡ front_from more (has_begun s) (slice_range bytes place place) =
          ap (λ l. line_ended (has_begun s) l rest) empty ∙ ap (λ b. line_ended b [] rest) begun ∙ ap rest (sym begun) ∙ ap (front_from more (has_begun s)) (sym (nothing bytes place)) in
          ended bytes s end is feeds more ∙ ap (after place is.texts) found;
    }

-- it is another of the head
pub line-kept : (bytes : List ℕ) (s : LineSearch) (end : ℕ) (is : AreSearched bytes s) → FeedsAt (drop s.at bytes) end → 0 < length (strip_carriage_return (slice_range bytes s.line (s.at + end)))
    → AreSearched bytes (record { at = s.at + end + 1; line = s.at + end + 1; lines = s.lines + 1 })
line-kept bytes s end is feeds some =
    let place = s.at + end + 1 in
    let text = strip_carriage_return (slice_range bytes s.line (s.at + end)) in
    let few = is.few in
    record {
      line = omega arith;
      within = place-within bytes s.at end is.within feeds;
      texts = is.texts ++ text ∷ [];
      many = omega (arith, length-append is.texts (text ∷ []), is.many);
      few = omega arith;
      is = λ more.
          let rest : Bool → Option Front = λ b. front_from more b [] in
          let len : 0 + place ≡ place = omega arith in
          ended bytes s end is feeds more ∙ ap (after place is.texts) (kept (has_begun s) text rest some)
          ∙ after-after place 0 is.texts (text ∷ []) (front_from more true []) ∙ ap (λ n. after n (is.texts ++ text ∷ []) (front_from more true [])) len
          ∙ ap (λ b. after place (is.texts ++ text ∷ []) (front_from more b [])) (sym (later s.lines)) ∙ ap (λ l. after place (is.texts ++ text ∷ []) (front_from more (nat_lt 0 (s.lines + 1)) l)) (sym (nothing bytes place));
    }
  where
    later : (n : ℕ) → nat_lt 0 (n + 1) ≡ true
    later n = grind (arith, nat_tests)

    kept : (begun : Bool) (text : List ℕ) (rest : Bool → Option Front) → 0 < length text → line_ended begun text rest ≡ after 0 (text ∷ []) (rest true)
    kept begun [] rest some = absurd (omega arith)
    kept true (byte ∷ text) rest some = line-after (byte ∷ text) (rest true)
    kept false (byte ∷ text) rest some = line-after (byte ∷ text) (rest true)

-- no line ends any more
unended : (bytes : List ℕ) (s : LineSearch) (is : AreSearched bytes s) → HasNoFeed (drop s.at bytes) → (more : List ℕ) → front_of (bytes ++ more) ≡ after (length bytes) is.texts (front_from more (has_begun s) (slice_range bytes s.line (length bytes)))
unended bytes s is none more =
    let within = is.within in
    let part = drop s.at bytes in
    let split : bytes ++ more ≡ take s.at bytes ++ (part ++ more) = ap (λ l. l ++ more) (sym (take-append-drop s.at bytes)) ∙ append_assoc (take s.at bytes) part more in
    let len : length part + s.at ≡ length bytes = omega (arith, length-drop s.at bytes) in
    let all : take (length bytes - s.at) part ≡ part = take_all (length bytes - s.at) part (omega (arith, length-drop s.at bytes)) in
    let place : s.at + (length bytes - s.at) ≡ length bytes = omega arith in
    let line : slice_range bytes s.line s.at ++ part ≡ slice_range bytes s.line (length bytes) =
    ap (λ l. slice_range bytes s.line s.at ++ l) (sym all) ∙ longer bytes s.line s.at (length bytes - s.at) is.line ∙ ap (slice_range bytes s.line) place in
    ap front_of split ∙ is.is (part ++ more) ∙ ap (after s.at is.texts) (front-stretch part more (has_begun s) (slice_range bytes s.line s.at) none) ∙ after-after s.at (length part) is.texts [] _
    ∙ ap (λ n. after n (is.texts ++ []) (front_from more (has_begun s) (slice_range bytes s.line s.at ++ part))) len
    ∙ ap (λ t. after (length bytes) t (front_from more (has_begun s) (slice_range bytes s.line s.at ++ part))) (append-nil is.texts) ∙ ap (λ l. after (length bytes) is.texts (front_from more (has_begun s) l)) line

pub none-ends : (bytes : List ℕ) (s : LineSearch) (is : AreSearched bytes s) → HasNoFeed (drop s.at bytes) → front_of bytes ≡ None
none-ends bytes s is none = ap front_of (sym (append-nil bytes)) ∙ unended bytes s is none []

pub searched-all : (bytes : List ℕ) (s : LineSearch) (is : AreSearched bytes s) → HasNoFeed (drop s.at bytes) → AreSearched bytes (record { at = length bytes; line = s.line; lines = s.lines })
searched-all bytes s is none =
    let within = is.within in
    let line = is.line in
    let few = is.few in
    record {
      line = omega arith;
      within = omega arith;
      texts = is.texts;
      many = is.many;
      few = omega arith;
      is = λ more. ap (λ l. front_of (l ++ more)) (take_all (length bytes) bytes (omega arith)) ∙ unended bytes s is none more;
    }

-- what was looked at stays so when more bytes come
pub searched-more : (bytes more : List ℕ) (s : LineSearch) → AreSearched bytes s → AreSearched (bytes ++ more) s
searched-more bytes more s is =
    let within = is.within in
    let line = is.line in
    let same : slice_range (bytes ++ more) s.line s.at ≡ slice_range bytes s.line s.at =
    ap (take (s.at - s.line)) (drop-append-le s.line bytes more (omega arith)) ∙ take-append-le (s.at - s.line) (drop s.line bytes) more (omega (arith, length-drop s.line bytes)) in
    record {
      line = is.line;
      within = omega (arith, length-append bytes more);
      texts = is.texts;
      many = is.many;
      few = is.few;
      is = λ rest. ap (λ l. front_of (l ++ rest)) (take-append-le s.at bytes more is.within) ∙ is.is rest ∙ ap (λ l. after s.at is.texts (front_from rest (has_begun s) l)) (sym same);
    }

-- tests of a line
pub is-empty : (text line : List ℕ) (test : Bool) → test ≡ (length text == 0) → test ≡ true → text ≡ line → line ≡ []
is-empty [] line test tests is same = sym same
is-empty (byte ∷ text) line test tests is same =
    let e : (length (byte ∷ text) == 0) ≡ true = sym tests ∙ is in
    absurd (grind (arith, nat_tests, e))

pub is-filled : (text line : List ℕ) (test : Bool) → test ≡ (length text == 0) → test ≡ false → text ≡ line → 0 < length line
is-filled [] line test tests is same = let e : true ≡ false = sym tests ∙ is in absurd (cc e)
is-filled (byte ∷ text) line test tests is same = omega (arith, ap length same)
