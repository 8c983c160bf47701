-- Changes, one behind the other.
use Rattle.std.proofs.Common.{refl, ◌≡◌, ◌<◌, ◌≤◌, ◌+◌, ◌∙◌, ℕ, List, [], ◌∷◌, ◌++◌, All, length, take, drop, get_or, ap, sym, arith, ext_get_or, length-take, length-drop, get_or-take, get_or-drop}
use Rattle.std.proofs.lemmas.List.{take_more}
use Rattle.std.proofs.lemmas.List.Elements.{All-head, All-tail}
use Rattle.sqlite_disk.specs.Disk.{Holds}
use Rattle.sqlite_disk.proofs.EventLemmas.{length-padded}
use Rattle.hx_overlay.specs.declared.change.Change.{Change}
use Rattle.hx_overlay.specs.declared.change.Change.TheVariants.{Written, Cut}
use Rattle.hx_overlay.specs.Changes.{IsKeptBelow, start_of, changed, changed_by}
use Rattle.hx_overlay.proofs.ByteByByte.{length-overlaid, overlaid_below, padded_below}

pub changed_by-push : (changes : List Change) (change : Change) (file : List ℕ) → changed_by (changes ++ change ∷ []) file ≡ changed change (changed_by changes file)
changed_by-push [] change file = refl
changed_by-push (first ∷ changes) change file = changed_by-push changes change (changed first file)

pub changed_by-more : (changes : List Change) (i : ℕ) (d : Change) (file : List ℕ) → i < length changes
    → changed_by (take (i + 1) changes) file ≡ changed (get_or changes i d) (changed_by (take i changes) file)
changed_by-more changes i d file low =
    ap (λ (done : List Change). changed_by done file) (take_more changes i d low) ∙ changed_by-push (take i changes) (get_or changes i d) file

kept_once : (end : ℕ) (change : Change) (file : List ℕ) → end ≤ start_of change → end ≤ length file → IsKeptBelow end file (changed change file)
kept_once end (Written piece) file low within = record {
  there = within;
  within = omega (arith, length-overlaid file piece.at piece.bytes.items);
  each = λ i under. overlaid_below file piece.at piece.bytes.items i (omega arith);
}
kept_once end (Cut len) file low within = record {
  there = within;
  within = omega (arith, length-padded file len);
  each = λ i under. padded_below file len i (omega arith);
}

pub kept_below : (end : ℕ) (changes : List Change) (file : List ℕ) → All (λ change. end ≤ start_of change) changes → end ≤ length file → IsKeptBelow end file (changed_by changes file)
kept_below end [] file low within = record { there = within; within = within; each = λ i under. refl }
kept_below end (change ∷ changes) file low within =
    let once = kept_once end change file (All-head (λ x. end ≤ start_of x) change changes low) within in
    let more = kept_below end changes (changed change file) (All-tail (λ x. end ≤ start_of x) change changes low) once.within in
    record { there = within; within = more.within; each = λ i under. more.each i under ∙ once.each i under }

-- a range below what is kept
pub range_kept : (at n : ℕ) (file new : List ℕ) → IsKeptBelow (at + n) file new → take n (drop at new) ≡ take n (drop at file)
range_kept at n file new kept =
    ext_get_or 0 (take n (drop at new)) (take n (drop at file))
    (omega (arith, kept.there, kept.within, length-take n (drop at new), length-take n (drop at file), length-drop at new, length-drop at file))
    λ i low.
    let under : i < n = omega (arith, length-take n (drop at new)) in
    get_or-take n (drop at new) i 0 under ∙ get_or-drop at new i 0 ∙ kept.each (at + i) (omega arith) ∙ sym (get_or-take n (drop at file) i 0 under ∙ get_or-drop at file i 0)

-- what the file holds below, it holds still
pub range_held : (at : ℕ) (bytes file new : List ℕ) → IsKeptBelow (at + length bytes) file new → Holds file at bytes → Holds new at bytes
range_held at bytes file new kept held = record { within = kept.within; each = λ i low. kept.each (at + i) (omega arith) ∙ held.each i low }
