-- What the marks of writes leave.
--     marks_left         marks but for one
--     marked_within      keys were marked that may be
--     covered_marked     no work is forgotten
use Rattle.std.proofs.Common.{◌≡◌, ◌≢◌, Bool, true, false, cond, not, ◌&&◌, ◌||◌, List, [], ◌∷◌, Option, Some, None, IfSome, IfNone, filter, refl, sym, ap, ◌∙◌, subst, inl, inr, true≢false}
use Rattle.std.specs.Prelude.{◌⊎◌}
use Rattle.std.specs.List.{AllByRecursion}
use Rattle.std.proofs.lemmas.Bool.{or_cases, or_left, or_right}
use Rattle.hx_model.specs.Covered.{IsCovered}
use Rattle.hx_model.specs.Hands.{is_held}
use Rattle.hx_model.specs.Keys.{same_key, is_among}
use Rattle.hx_model.specs.State.{State, state_after}
use Rattle.hx_model.specs.Wanted.{wanted_write}
use Rattle.hx_model.specs.declared.key.Key.{Key}
use Rattle.hx_model.specs.declared.key.Write.{Write}
use Rattle.hx_marks.proofs.Among.{same_key_is}
use Rattle.hx_marks.specs.Halves.{Covers, IsRegular, IsWithin}
use Rattle.hx_core.specs.Committing.{AreMarksBut, HasMarked, HasMarkedBut, marks_but}
use Rattle.hx_core.specs.Turns.{IsOf}
use Rattle.hx_queue.specs.Workers.{WorkersView, IsMarkedBy}
use Rattle.hx_core.proofs.Laws.{stays_covered}

-- ---- marks but for one

still_among : (own k : Key) (keys : List Key) → is_among k (filter (λ j. not (same_key own j)) keys) ≡ true → is_among k keys ≡ true
still_among own k [] e = e
still_among own k (x ∷ keys) e =
    elim (same_key own x) as (λ b. is_among k (cond (not b) (x ∷ filter (λ j. not (same_key own j)) keys) (filter (λ j. not (same_key own j)) keys)) ≡ true → (same_key k x || is_among k keys) ≡ true) [
      | true ↦ λ h. or_right (same_key k x) (is_among k keys) (still_among own k keys h)
      | false ↦ λ h. elim (or_cases (same_key k x) (is_among k (filter (λ j. not (same_key own j)) keys)) h) [
        | inl here ↦ or_left (same_key k x) (is_among k keys) here
        | inr later ↦ or_right (same_key k x) (is_among k keys) (still_among own k keys later)
      ]
    ] e

among_but : (own : Option Key) (k : Key) (keys : List Key) → is_among k (marks_but own keys) ≡ true → is_among k keys ≡ true
among_but None k keys e = e
among_but (Some own) k keys e = still_among own k keys e

-- a key that is left out is the one
out_by : (own k x : Key) (keys : List Key) (a b : Bool) → same_key own x ≡ a → same_key k x ≡ b → (is_among k keys ≡ true → (is_among k (filter (λ j. not (same_key own j)) keys) ≡ true) ⊎ (own ≡ k)) → (b || is_among k keys) ≡ true
    → (is_among k (cond (not a) (x ∷ filter (λ j. not (same_key own j)) keys) (filter (λ j. not (same_key own j)) keys)) ≡ true) ⊎ (own ≡ k)
out_by own k x keys true true p q later h = inr (same_key_is own x p ∙ sym (same_key_is k x q))
out_by own k x keys true false p q later h = later h
out_by own k x keys false true p q later h = inl (or_left (same_key k x) _ q)
out_by own k x keys false false p q later h = elim (later h) [
  | inl there ↦ inl (or_right (same_key k x) _ there)
  | inr same ↦ inr same
]

left_out : (own k : Key) (keys : List Key) → is_among k keys ≡ true → (is_among k (filter (λ j. not (same_key own j)) keys) ≡ true) ⊎ (own ≡ k)
left_out own k [] e = absurd (true≢false (sym e))
left_out own k (x ∷ keys) e = out_by own k x keys (same_key own x) (same_key k x) refl refl (λ h. left_out own k keys h) e

but_among : (own : Option Key) (k : Key) (keys : List Key) → is_among k keys ≡ true → (is_among k (marks_but own keys) ≡ true) ⊎ (own ≡ Some k)
but_among None k keys e = inl e
but_among (Some own) k keys e = elim (left_out own k keys e) [ inl is ↦ inl is | inr same ↦ inr (ap Some same) ]

but_by : (own : Option Key) (new old : List Key) → IfSome own (λ key. new ≡ filter (λ k. not (same_key key k)) old) → IfNone own (new ≡ old) → new ≡ marks_but own old
but_by None new old some none = none
but_by (Some own) new old some none = some

pub marks_left : (s : State) (ws : List Write) (own : Option Key) (new old : List Key) → Covers s ws old → IsWithin s ws old → IfSome own (λ key. new ≡ filter (λ k. not (same_key key k)) old) → IfNone own (new ≡ old) → AreMarksBut s ws own new
marks_left s ws own new old covers within some none = record { marks = old; covers = covers; within = within; is = but_by own new old some none }

-- ---- what may be marked

pub marked_within : (s : State) (ws : List Write) (own : Option Key) (old new : WorkersView) → ws ≢ [] → IsRegular s ws → HasMarkedBut s ws own old new → HasMarked s ws old new
marked_within s ws own old new some regular m = record {
  keys = marks_but own m.marks;
  may = λ k e. m.within regular k (among_but own k m.marks e);
  marked = m.marked;
  none = λ none. absurd (some none);
}

-- ---- no work is forgotten

-- a key that is marked waits, or is held and marked again
marked_is : (keys : List Key) (old new : WorkersView) (k : Key) → IsMarkedBy keys old new → is_among k keys ≡ true → (is_among k new.waiting ≡ true) ⊎ (is_among k new.again ≡ true)
marked_is keys old new k marked e = by (is_held k old.hands) refl
  where
    both : (b c : Bool) → c ≡ b → b ≡ true → (is_among k keys && c) ≡ true
    both b c same is = ap (λ a. a && c) e ∙ (same ∙ is)

    by : (b : Bool) → is_held k old.hands ≡ b → (is_among k new.waiting ≡ true) ⊎ (is_among k new.again ≡ true)
    by true held = inr (marked.again k ∙ or_right (is_among k old.again) (is_among k keys && is_held k old.hands) (both true (is_held k old.hands) held refl))
    by false free = inl (marked.waiting k ∙ or_right (is_among k old.waiting) (is_among k keys && not (is_held k old.hands)) (both true (not (is_held k old.hands)) (ap not free) refl))

wants_none : (s : State) (own : Option Key) (k : Key) → IfSome own (λ j. wanted_write s j ≡ None) → own ≡ Some k → wanted_write s k ≡ None
wants_none s own k nothing is = subst (λ o. IfSome o (λ j. wanted_write s j ≡ None)) is nothing

pub covered_marked : (s : State) (ws : List Write) (own : Option Key) (old new : WorkersView) → IsRegular s ws → IfSome own (λ j. wanted_write (state_after s ws) j ≡ None) → AllByRecursion (IsOf s) old.hands
    → IsCovered s old.hands old.waiting old.again → HasMarkedBut s ws own old new → IsCovered (state_after s ws) new.hands new.waiting new.again
covered_marked s ws own old new regular nothing taken covered m =
    stays_covered s ws m.marks old new m.covers regular taken covered m.marked.hands
    (λ k e. m.marked.waiting k ∙ or_left (is_among k old.waiting) _ e) (λ k e. m.marked.again k ∙ or_left (is_among k old.again) _ e)
    (λ k e. elim (but_among own k m.marks e) [
      | inl among ↦ elim (marked_is (marks_but own m.marks) old new k m.marked among) [ inl waits ↦ inl waits | inr again ↦ inr (inl again) ]
      | inr own_is ↦ inr (inr (wants_none (state_after s ws) own k nothing own_is))
    ])
