-- What a change leaves of a file, byte by byte.
use Rattle.std.proofs.Common.{refl, ◌≡◌, ◌<◌, ◌≤◌, ◌+◌, ◌-◌, ◌∙◌, ℕ, List, ◌++◌, length, max, drop, replicate, slice_index, inl, inr, ap, sym, arith, length-append, length-drop, get_or-take, get_or-drop}
use Rattle.std.proofs.lemmas.Bool.{cases_lt}
use Rattle.std.proofs.lemmas.List.{get_or_append_left, get_or-append_right, get_or_past, get_or-replicate, length-replicate}
use Rattle.sqlite_disk.specs.Events.{overlaid, padded}
use Rattle.sqlite_disk.proofs.EventLemmas.{length-padded, Holds-overlaid}

-- zeros, read as far as one likes
zeros : (n i : ℕ) → slice_index (replicate n 0) i ≡ 0
zeros n i = elim (cases_lt i n) [
  | inl low ↦ get_or-replicate n i 0 0 low
  | inr high ↦ get_or_past (replicate n 0) i 0 (omega (arith, length-replicate {A = ℕ} n 0))
]

-- a file with zeros behind it reads as the file does
widened : (file : List ℕ) (n i : ℕ) → slice_index (file ++ replicate n 0) i ≡ slice_index file i
widened file n i = elim (cases_lt i (length file)) [
  | inl low ↦ get_or_append_left file (replicate n 0) 0 i low
  | inr high ↦ get_or-append_right file (replicate n 0) (length file) i 0 refl high ∙ zeros n (i - length file) ∙ sym (get_or_past file i 0 high)
]

pub padded_below : (file : List ℕ) (len i : ℕ) → i < len → slice_index (padded file len) i ≡ slice_index file i
unfolding padded
padded_below file len i low = get_or-take len _ i 0 low ∙ widened file (len - length file) i

pub padded_behind : (file : List ℕ) (len i : ℕ) → len ≤ i → slice_index (padded file len) i ≡ 0
padded_behind file len i high = get_or_past (padded file len) i 0 (omega (arith, length-padded file len))

module _ (file : List ℕ) (at : ℕ) (bytes : List ℕ) where
  front : length (padded file at ++ bytes) ≡ at + length bytes
  front = omega (arith, length-append (padded file at) bytes, length-padded file at)

  pub length-overlaid : length (overlaid file at bytes) ≡ max (length file) (at + length bytes)
  unfolding overlaid
  length-overlaid =
      omega (arith, front, length-append (padded file at ++ bytes) (drop (at + length bytes) file), length-drop (at + length bytes) file)

  pub overlaid_below : (i : ℕ) → i < at → slice_index (overlaid file at bytes) i ≡ slice_index file i
  unfolding overlaid
  overlaid_below i low =
      get_or_append_left (padded file at ++ bytes) _ 0 i (omega (arith, front))
      ∙ get_or_append_left (padded file at) bytes 0 i (omega (arith, length-padded file at)) ∙ padded_below file at i low

  pub overlaid_behind : (i : ℕ) → at + length bytes ≤ i → slice_index (overlaid file at bytes) i ≡ slice_index file i
  unfolding overlaid
  overlaid_behind i high =
      let back : at + length bytes + (i - (at + length bytes)) ≡ i = omega arith in
      get_or-append_right (padded file at ++ bytes) _ (at + length bytes) i 0 front high
      ∙ get_or-drop (at + length bytes) file (i - (at + length bytes)) 0 ∙ ap (slice_index file) back

  pub overlaid_in : (i : ℕ) → at ≤ i → i < at + length bytes → slice_index (overlaid file at bytes) i ≡ slice_index bytes (i - at)
  overlaid_in i low high =
      let back : at + (i - at) ≡ i = omega arith in
      ap (slice_index (overlaid file at bytes)) (sym back) ∙ (Holds-overlaid file at bytes).each (i - at) (omega arith)
