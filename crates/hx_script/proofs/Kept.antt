-- What is kept of a line tells as much as the line.
use Rattle.std.proofs.Common.{◌≡◌, ℕ, suc, zero, ◌+◌, ◌-◌, ◌<◌, ◌≤◌, Bool, true, false, cond, List, [], ◌∷◌, ◌++◌, map, take, length, refl, sym, ap, ◌∙◌, inl, inr, arith, length-take}
use Rattle.std.specs.Prelude.{◌⊎◌, filter, min, nat_le, ◌==◌, slice_index}
use Rattle.std.specs.List.{slice_split, onto_first}
use Rattle.std.specs.Str.Lines.{strip_carriage_return}
use Rattle.std.proofs.lemmas.Bool.{cases_lt}
use Rattle.std.proofs.lemmas.Bool.Decides.{nat_tests}
use Rattle.std.proofs.lemmas.List.{take_all, take_min, length-take-le}
use Rattle.std.proofs.Math.Seq.{take-append-add}
use Rattle.std.proofs.lemmas.List.Splits.{slice_split-cons_no}
use Rattle.hx_script.specs.Lines.{Short, Long, line_of_text, lines_of_parts, script_lines, asking, is_asking, most_line_bytes}
use Rattle.hx_script.specs.Running.{HasNoEnd, IsWaiting, most_kept}

-- ---- one part

-- a part with parts behind it
pub asking-cons : (part : List ℕ) (parts : List (List ℕ)) → lines_of_parts (part ∷ parts) ≡ asking part ++ lines_of_parts parts
asking-cons part parts = elim (is_asking (strip_carriage_return part)) as (λ b. map line_of_text (cond b (strip_carriage_return part ∷ filter is_asking (map strip_carriage_return parts)) (filter is_asking (map strip_carriage_return parts)))
    ≡ map line_of_text (cond b (strip_carriage_return part ∷ []) []) ++ lines_of_parts parts) [ true ↦ refl | false ↦ refl ]

-- the line of a text that is too long
line-long : (text : List ℕ) → most_line_bytes < length text → line_of_text text ≡ Long
line-long text long =
    let test : nat_le (length text) most_line_bytes ≡ false = grind (arith, nat_tests) in
    ap (λ b. cond b (Short text) Long) test

-- the text of a part has one byte less at most, and begins as the part does
record Strips (part text : List ℕ) : Type 0 where
  pub long : length part ≤ suc (length text)
  pub begins : is_asking text ≡ is_asking part

asks_front : (byte : ℕ) (rest : List ℕ) (n : ℕ) → 0 < n → is_asking (take n (byte ∷ rest)) ≡ is_asking (byte ∷ rest)
asks_front byte rest zero h = absurd (omega arith)
asks_front byte rest (suc n) h = refl

strips_as : (part : List ℕ) (b : Bool) → 2 ≤ length part → Strips part (cond b (take (length part - 1) part) part)
strips_as [] b h = absurd (omega arith)
strips_as (byte ∷ rest) true h = record { long = omega (arith, length-take (length (byte ∷ rest) - 1) (byte ∷ rest)); begins = asks_front byte rest (length (byte ∷ rest) - 1) (omega arith) }
strips_as (byte ∷ rest) false h = record { long = omega arith; begins = refl }

mapped : (b : Bool) (text : List ℕ) → line_of_text text ≡ Long → map line_of_text (cond b (text ∷ []) []) ≡ cond b (Long ∷ []) []
mapped true text line = ap (λ l. l ∷ []) line
mapped false text line = refl

-- a part that is too long
asking-long : (part : List ℕ) → most_kept ≤ length part → asking part ≡ cond (is_asking part) (Long ∷ []) []
asking-long part long =
    let strips : Strips part (strip_carriage_return part) = strips_as part (slice_index part (length part - 1) == 13) (omega arith) in
    let line = line-long (strip_carriage_return part) (omega (arith, strips.long)) in
    ap (λ b. map line_of_text (cond b (strip_carriage_return part ∷ []) [])) strips.begins ∙ mapped (is_asking part) (strip_carriage_return part) line

asks_take : (n : ℕ) (part : List ℕ) → 0 < n → is_asking (take n part) ≡ is_asking part
asks_take zero part h = absurd (omega arith)
asks_take (suc n) [] h = refl
asks_take (suc n) (byte ∷ rest) h = refl

kept_part : (part : List ℕ) → (length part < most_kept) ⊎ (most_kept ≤ length part) → asking (take most_kept part) ≡ asking part
kept_part part (inl few) = ap asking (take_all most_kept part (omega arith))
kept_part part (inr many) =
    asking-long (take most_kept part) (omega (arith, length-take-le most_kept part many)) ∙ ap (λ b. cond b (Long ∷ []) []) (asks_take most_kept part (omega arith)) ∙ sym (asking-long part many)

-- the line of a part rests on its first bytes alone
pub asking-kept : (part : List ℕ) → asking (take most_kept part) ≡ asking part
asking-kept part = kept_part part (cases_lt (length part) most_kept)

-- ---- a part that goes on

pub take_twice : (k : ℕ) (xs more : List ℕ) → take k (take k xs ++ more) ≡ take k (xs ++ more)
take_twice zero xs more = refl
take_twice (suc k) [] more = refl
take_twice (suc k) (x ∷ xs) more = ap (λ l. x ∷ l) (take_twice k xs more)

-- the bytes in front of the first part
abbrev onto_front : List ℕ → List (List ℕ) → List (List ℕ)
onto_front xs [] = xs ∷ []
onto_front xs (part ∷ parts) = (xs ++ part) ∷ parts

onto_both : (x : ℕ) (xs : List ℕ) (parts : List (List ℕ)) → onto_first x (onto_front xs parts) ≡ onto_front (x ∷ xs) parts
onto_both x xs [] = refl
onto_both x xs (part ∷ parts) = refl

onto_none : (x : ℕ) (parts : List (List ℕ)) → onto_first x parts ≡ onto_front [] (onto_first x parts)
onto_none x [] = refl
onto_none x (part ∷ parts) = refl

begun : (rest : List ℕ) → slice_split (λ byte. byte == 10) rest ≡ onto_front [] (slice_split (λ byte. byte == 10) rest)
begun [] = refl
begun (x ∷ rest) = elim (x == 10) as (λ b. cond b ([] ∷ slice_split (λ byte. byte == 10) rest) (onto_first x (slice_split (λ byte. byte == 10) rest)) ≡ onto_front [] (cond b ([] ∷ slice_split (λ byte. byte == 10) rest) (onto_first x (slice_split (λ byte. byte == 10) rest))))
    [ true ↦ refl | false ↦ onto_none x (slice_split (λ byte. byte == 10) rest) ]

-- bytes in which no line ends stand before the first part
front_split : (xs rest : List ℕ) → HasNoEnd xs → slice_split (λ byte. byte == 10) (xs ++ rest) ≡ onto_front xs (slice_split (λ byte. byte == 10) rest)
front_split [] rest none = begun rest
front_split (x ∷ xs) rest none =
    slice_split-cons_no (λ byte. byte == 10) x (xs ++ rest) none.0 ∙ ap (λ l. onto_first x l) (front_split xs rest none.1) ∙ onto_both x xs (slice_split (λ byte. byte == 10) rest)

same_front : (xs : List ℕ) (parts : List (List ℕ)) → lines_of_parts (onto_front (take most_kept xs) parts) ≡ lines_of_parts (onto_front xs parts)
same_front xs [] = asking-kept xs
same_front xs (part ∷ parts) =
    let same : asking (take most_kept xs ++ part) ≡ asking (xs ++ part) = sym (asking-kept (take most_kept xs ++ part)) ∙ ap asking (take_twice most_kept xs part) ∙ asking-kept (xs ++ part) in
    asking-cons (take most_kept xs ++ part) parts ∙ ap (λ l. l ++ lines_of_parts parts) same ∙ sym (asking-cons (xs ++ part) parts)

pub HasNoEnd-take : (n : ℕ) (xs : List ℕ) → HasNoEnd xs → HasNoEnd (take n xs)
HasNoEnd-take zero xs none = tt
HasNoEnd-take (suc n) [] none = tt
HasNoEnd-take (suc n) (x ∷ xs) none = (none.0, HasNoEnd-take n xs none.1)

pub HasNoEnd-append : (xs ys : List ℕ) → HasNoEnd xs → HasNoEnd ys → HasNoEnd (xs ++ ys)
HasNoEnd-append [] ys p q = q
HasNoEnd-append (x ∷ xs) ys p q = (p.0, HasNoEnd-append xs ys p.1 q)

-- the lines of a script rest on what is kept of the first one
pub script_lines-kept : (xs rest : List ℕ) → HasNoEnd xs → script_lines (xs ++ rest) ≡ script_lines (take most_kept xs ++ rest)
script_lines-kept xs rest none =
    ap lines_of_parts (front_split xs rest none) ∙ sym (same_front xs (slice_split (λ byte. byte == 10) rest)) ∙ sym (ap lines_of_parts (front_split (take most_kept xs) rest (HasNoEnd-take most_kept xs none)))

-- what is kept still waits
pub IsWaiting-keep : (now stretch : List ℕ) → HasNoEnd now → HasNoEnd stretch → IsWaiting (take most_kept (now ++ stretch))
IsWaiting-keep now stretch p q = record { no_end = HasNoEnd-take most_kept (now ++ stretch) (HasNoEnd-append now stretch p q); few = omega (arith, length-take most_kept (now ++ stretch)) }

-- the bytes for which there is room
pub take_room : (k room count : ℕ) (xs ys : List ℕ) → length xs ≤ k → room ≡ k - length xs → count ≡ min (length ys) room → xs ++ take count ys ≡ take k (xs ++ ys)
take_room k room count xs ys few is least =
    let whole : length xs + room ≡ k = omega arith in
    let same : count ≡ min room (length ys) = omega arith in
    ap (λ n. xs ++ take n ys) same ∙ ap (λ l. xs ++ l) (take_min room ys) ∙ sym (take-append-add xs ys room) ∙ ap (λ n. take n (xs ++ ys)) whole
