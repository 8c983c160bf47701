-- That no work is forgotten where a worker takes a key or lets it go.
--     other_worker        two hands of one worker are one
--     covered_taken, covered_let
--     again_held          a key that is marked again is held
--     waits_each          each key that wants a write, and that nobody holds, waits
use Rattle.std.proofs.Common.{◌≡◌, ◌≢◌, ℕ, Bool, true, false, not, ◌==◌, ◌&&◌, ◌||◌, List, [], ◌∷◌, Some, None, refl, sym, ap, ◌∙◌, subst, inl, inr, true≢false}
use Rattle.std.specs.Prelude.{◌⊎◌}
use Rattle.std.specs.List.{AllByRecursion}
use Rattle.std.proofs.lemmas.Bool.{eqb-true, or_left, or_right}
use Rattle.hx_model.specs.Covered.{IsCovered, IsUpToDate, IsHeldWell}
use Rattle.hx_model.specs.Hands.{Hand, hand_of, is_held}
use Rattle.hx_model.specs.Keys.{same_key, is_among}
use Rattle.hx_model.specs.State.{State}
use Rattle.hx_model.specs.Wanted.{wanted_write}
use Rattle.hx_model.specs.declared.key.Key.{Key}
use Rattle.hx_marks.proofs.Among.{same_key_is, same_key_itself}
use Rattle.hx_queue.specs.Workers.{WorkersView, IsTakenBy, IsLetGo, AreApart}
use Rattle.hx_core.specs.Working.{IsDone}
use Rattle.hx_core.proofs.Holding.{held_new, held_old, stays, held_by}

one_hand : (a b : Hand) → Some a ≡ Some b → a ≡ b
one_hand a b e = cc

and_both : (a b : Bool) → a ≡ true → b ≡ true → (a && b) ≡ true
and_both a b e f = ap (λ x. x && b) e ∙ f

-- ---- a key is taken

pub covered_taken : (s : State) (hand : Hand) (old new : WorkersView) → IsCovered s old.hands old.waiting old.again → IsTakenBy hand old new → hand_of hand.worker old.hands ≡ None → IsUpToDate s hand
    → IsCovered s new.hands new.waiting new.again
covered_taken s hand old new covered taken none fresh k wants = by (same_key k hand.key) refl
  where
    -- another key is covered as it was
    other : same_key k hand.key ≡ false → (is_among k old.waiting ≡ true) ⊎ (is_among k old.again ≡ true) ⊎ IsHeldWell s old.hands k → (is_among k new.waiting ≡ true) ⊎ (is_among k new.again ≡ true) ⊎ IsHeldWell s new.hands k
    other apart (inl waits) = inl (taken.waiting k ∙ and_both (is_among k old.waiting) (not (same_key k hand.key)) waits (ap not apart))
    other apart (inr (inl again)) = inr (inl (taken.again k ∙ again))
    other apart (inr (inr (h, at, is, well))) = inr (inr (h, subst (λ hands. hand_of h.worker hands ≡ Some h) (sym taken.hands) (held_old h.worker old.hands hand h at), is, well))

    by : (b : Bool) → same_key k hand.key ≡ b → (is_among k new.waiting ≡ true) ⊎ (is_among k new.again ≡ true) ⊎ IsHeldWell s new.hands k
    by true same = inr (inr (hand, subst (λ hands. hand_of hand.worker hands ≡ Some hand) (sym taken.hands) (held_new old.hands hand none), sym (same_key_is k hand.key same), fresh))
    by false apart = other apart (covered k wants)

-- ---- a key is let go

pub covered_let : (s : State) (worker : ℕ) (hand : Hand) (waits : Bool) (old new : WorkersView) → IsCovered s old.hands old.waiting old.again → IsLetGo worker hand.key waits old new → hand_of worker old.hands ≡ Some hand → (waits ≡ false → IsDone s hand)
    → IsCovered s new.hands new.waiting new.again
covered_let s worker hand waits old new covered gone at done k wants = by (covered k wants)
  where
    waiting : same_key k hand.key ≡ true → (waits || is_among hand.key old.again) ≡ true → is_among k new.waiting ≡ true
    waiting same again = gone.waiting k ∙ or_right (is_among k old.waiting) (same_key k hand.key && (waits || is_among hand.key old.again)) (and_both (same_key k hand.key) (waits || is_among hand.key old.again) same again)

    marked : (b : Bool) → same_key k hand.key ≡ b → is_among k old.again ≡ true → (is_among k new.waiting ≡ true) ⊎ (is_among k new.again ≡ true) ⊎ IsHeldWell s new.hands k
    marked true same again = inl (waiting same (or_right waits (is_among hand.key old.again) (subst (λ j. is_among j old.again ≡ true) (same_key_is k hand.key same) again)))
    marked false apart again = inr (inl (gone.again k ∙ and_both (is_among k old.again) (not (same_key k hand.key)) again (ap not apart)))

    held : (h : Hand) (b : Bool) (v : Bool) → (h.worker == worker) ≡ b → waits ≡ v → hand_of h.worker old.hands ≡ Some h → h.key ≡ k → IsUpToDate s h → (is_among k new.waiting ≡ true) ⊎ (is_among k new.again ≡ true) ⊎ IsHeldWell s new.hands k
    held h false v apart e found is well = inr (inr (h, subst (λ hands. hand_of h.worker hands ≡ Some h) (sym gone.hands) (stays worker h.worker old.hands h apart found), is, well))
    held h true true same e found is well =
        let one : h ≡ hand = one_hand h hand (sym found ∙ ap (λ n. hand_of n old.hands) (eqb-true h.worker worker same) ∙ at) in
        let key : k ≡ hand.key = sym is ∙ ap (λ (x : Hand). x.key) one in
        inl (waiting (subst (λ j. same_key k j ≡ true) key (same_key_itself k)) (or_left waits (is_among hand.key old.again) e))
    held h true false same e found is well =
        let one : h ≡ hand = one_hand h hand (sym found ∙ ap (λ n. hand_of n old.hands) (eqb-true h.worker worker same) ∙ at) in
        let key : hand.key ≡ k = ap (λ (x : Hand). x.key) (sym one) ∙ is in
        absurd (wants (subst (λ j. wanted_write s j ≡ None) key (done e (subst (IsUpToDate s) one well))))

    by : (is_among k old.waiting ≡ true) ⊎ (is_among k old.again ≡ true) ⊎ IsHeldWell s old.hands k → (is_among k new.waiting ≡ true) ⊎ (is_among k new.again ≡ true) ⊎ IsHeldWell s new.hands k
    by (inl still) = inl (gone.waiting k ∙ or_left (is_among k old.waiting) (same_key k hand.key && (waits || is_among hand.key old.again)) still)
    by (inr (inl again)) = marked (same_key k hand.key) refl again
    by (inr (inr (h, at, is, well))) = held h (h.worker == worker) waits refl refl at is well

-- ---- keys that nobody holds

among_all : (P : Key → Type 0) (k : Key) (keys : List Key) → AllByRecursion P keys → is_among k keys ≡ true → P k
among_all P k [] all e = absurd (true≢false (sym e))
among_all P k (x ∷ keys) all e =
    elim (same_key k x) as (λ b. same_key k x ≡ b → (b || is_among k keys) ≡ true → P k) [
      | true ↦ λ same h. subst P (sym (same_key_is k x same)) all.0
      | false ↦ λ apart h. among_all P k keys all.1 h
    ] refl e

-- a key that is marked again is held
pub again_held : (v : WorkersView) (k : Key) → AreApart v → is_among k v.again ≡ true → is_held k v.hands ≡ true
again_held v k apart e = among_all (λ j. is_held j v.hands ≡ true) k v.again apart.again e

-- a key that waits isn't held
pub waits_free : (v : WorkersView) (k : Key) → AreApart v → is_among k v.waiting ≡ true → is_held k v.hands ≡ false
waits_free v k apart e = among_all (λ j. is_held j v.hands ≡ false) k v.waiting apart.apart e

pub waits_each : (s : State) (v : WorkersView) (k : Key) → IsCovered s v.hands v.waiting v.again → AreApart v → wanted_write s k ≢ None → is_held k v.hands ≡ false → is_among k v.waiting ≡ true
waits_each s v k covered apart wants free = by (covered k wants)
  where
    by : (is_among k v.waiting ≡ true) ⊎ (is_among k v.again ≡ true) ⊎ IsHeldWell s v.hands k → is_among k v.waiting ≡ true
    by (inl waits) = waits
    by (inr (inl again)) = absurd (true≢false (sym (again_held v k apart again) ∙ free))
    by (inr (inr (h, at, is, well))) = absurd (true≢false (sym (held_by h.worker v.hands h at) ∙ ap (λ j. is_held j v.hands) is ∙ free))
