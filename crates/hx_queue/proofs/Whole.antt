-- Hands, a queue and what was marked as a whole: what their calls do, and what is kept.
--     kept_by_marks, seen_by_all_marks    keys were marked one by one
--     kept_by_take, seen_by_taken         a worker took a key
--     kept_by_release, seen_by_let_go     a worker lets its key go
--     may_by                              one more object's keys may be marked as a whole
--     kept_by_spread, seen_by_spread      they were
--     whole_apart                         no key is there twice
--     whole_many, whole_none              how many keys wait, and where nothing does
use Rattle.std.proofs.Common.{◌≡◌, ℕ, Bool, true, false, not, ◌&&◌, ◌||◌, List, [], ◌∷◌, ◌++◌, map, filter, length, refl, sym, ap, ◌∙◌, true≢false, Option, Some, None}
use Rattle.std.specs.List.{IsDistinct, list_any}
use Rattle.std.proofs.lemmas.List.Folds.{list_any-append}
use Rattle.std.proofs.lemmas.List.Sorted.{list_any-IsPermutation}
use Rattle.std.proofs.lemmas.Map.Views.{any-filter_same}
use Rattle.hx_object.specs.declared.object.Id.{Id}
use Rattle.hx_model.specs.Hands.{Hand, hand_of, without_hand, is_held as is_in_hands}
use Rattle.hx_model.specs.Keys.{same_key, is_among}
use Rattle.hx_model.specs.declared.key.Key.{Key}
use Rattle.hx_model.proofs.SameKeys.{same_key_is}
use Rattle.hx_queue.specs.Kept.{Held, QueueView, Holds, Releases, AreApart as IsQueueApart, held_without, is_held, marked_again}
use Rattle.hx_queue.specs.Ordered.{in_order}
use Rattle.hx_queue.specs.Spread.{HasPlace, Scope, SpreadView, is_place_of, is_spread, keys_in, names_in, place_keys, waiting_in, with_id}
use Rattle.hx_queue.specs.Tied.{IsKept, IsTied, MarksEach, all_waiting, any_held, hand_in, hands_of, with_spread}
use Rattle.hx_queue.specs.Workers.{AreApart, IsMarkedBy, IsTakenBy, IsLetGo, MaySpread, WorkersView, no_work}
use Rattle.hx_queue.specs.declared.workers.Handed.{Handed}
use Rattle.hx_queue.proofs.Beside.{among_more, among_waiting, distinct_waiting, places_apart, spread_absent, spread_more}
use Rattle.hx_queue.proofs.Finding.{any_map}
use Rattle.hx_queue.proofs.Marking.{held_any}
use Rattle.hx_queue.proofs.Ordered.{among_in_order, in_order_distinct, in_order_none, length_in_order}
use Rattle.hx_queue.proofs.Tying.{all_apart, held_in_hands, seen_by_marks, seen_by_release, seen_by_take, tied_by_release, tied_by_take, view_of}

-- what is seen of hands, a queue and what was marked as a whole
abbrev pub whole_of : List Hand → QueueView → SpreadView → WorkersView
whole_of hands q s = view_of hands (with_spread q s)

-- which keys wait
waits_in : (k : Key) (q : QueueView) (s : SpreadView) → is_among k (in_order (all_waiting q s)) ≡ (is_among k q.waiting || is_among k (keys_in s.scope s.ids))
waits_in k q s = among_in_order k (all_waiting q s) ∙ among_waiting k q.waiting (keys_in s.scope s.ids)

-- ---- keys that were marked one by one

-- a, s: a key waited in line, or as a whole; x: it comes in line
beside : (a x s : Bool) → ((a || x) || s) ≡ ((a || s) || x)
beside true x s = refl
beside false true true = refl
beside false true false = refl
beside false false true = refl
beside false false false = refl

pub tied_by_marks : (keys : List Key) (hands : List Hand) (old new : QueueView) → IsTied hands old → MarksEach keys old new → IsTied hands new
tied_by_marks keys hands old new tied m = record { same = λ test. tied.same test ∙ sym (m.held test); workers = tied.workers; keys = tied.keys }

pub kept_by_marks : (keys : List Key) (hands : List Hand) (old new : QueueView) (s : SpreadView) → IsKept hands old s → MarksEach keys old new → IsKept hands new s
kept_by_marks keys hands old new s kept m = record {
  tied = tied_by_marks keys hands old new kept.tied m;
  free = λ k held. kept.free k (held_any old k ∙ sym (m.held (λ key worker. same_key k key)) ∙ sym (held_any new k) ∙ held);
}

pub seen_by_all_marks : (keys : List Key) (hands : List Hand) (old new : QueueView) (s : SpreadView) → IsKept hands old s → MarksEach keys old new → IsMarkedBy keys (whole_of hands old s) (whole_of hands new s)
seen_by_all_marks keys hands old new s kept m =
    let line = seen_by_marks keys hands old new kept.tied m in
    record {
      hands = refl;
      waiting = λ k. waits_in k new s
          ∙ ap (λ b. b || is_among k (keys_in s.scope s.ids)) (line.waiting k)
          ∙ beside (is_among k old.waiting) (is_among k keys && not (is_in_hands k hands)) (is_among k (keys_in s.scope s.ids))
          ∙ ap (λ b. b || (is_among k keys && not (is_in_hands k hands))) (sym (waits_in k old s));
      again = line.again;
    }

-- ---- a key that is taken

-- a, s: a key waited in line, or as a whole; same: it is the one that is taken
but_one : (a s same : Bool) → (same ≡ true → s ≡ false) → ((a && not same) || s) ≡ ((a || s) && not same)
but_one true true true h = absurd (true≢false (h refl))
but_one true true false h = refl
but_one true false true h = refl
but_one true false false h = refl
but_one false true true h = absurd (true≢false (h refl))
but_one false true false h = refl
but_one false false true h = refl
but_one false false false h = refl

one_held : (a same : Bool) {P : Type 0} → (a || (same || false)) ≡ true → (a ≡ true → P) → (same ≡ true → P) → P
one_held true same h old own = old refl
one_held false true h old own = own refl
one_held false false h old own = absurd (true≢false (sym h))

pub kept_by_take : (hand : Hand) (k : Key) (hands : List Hand) (old new : QueueView) (s : SpreadView) → hand.key ≡ k → IsKept hands old s → hand_of hand.worker hands ≡ None → is_in_hands k hands ≡ false → is_spread s.ids k ≡ false → Holds hand.worker k old new
    → IsKept (hands ++ hand ∷ []) new s
kept_by_take hand k hands old new s is kept empty free apart h = record {
  tied = tied_by_take hand k hands old new is kept.tied empty free h;
  free = λ j held. one_held (any_held (λ key worker. same_key j key) old.held) (same_key j k)
      (sym (held_any new j ∙ ap (any_held (λ key worker. same_key j key)) h.held ∙ list_any-append (λ (x : Held). same_key j x.key) old.held (record { key = k; worker = hand.worker; again = false } ∷ [])) ∙ held)
      (λ old_held. kept.free j (held_any old j ∙ old_held))
      (λ same. ap (is_spread s.ids) (same_key_is j k same) ∙ apart);
}

pub seen_by_taken : (hand : Hand) (k : Key) (hands : List Hand) (old new : QueueView) (s : SpreadView) → hand.key ≡ k → is_spread s.ids k ≡ false → Holds hand.worker k old new
    → IsTakenBy hand (whole_of hands old s) (whole_of (hands ++ hand ∷ []) new s)
seen_by_taken hand k hands old new s is apart h =
    let line = seen_by_take hand k hands old new is h in
    record {
      hands = refl;
      waiting = λ j. waits_in j new s
          ∙ ap (λ b. b || is_among j (keys_in s.scope s.ids)) (line.waiting j)
          ∙ but_one (is_among j old.waiting) (is_among j (keys_in s.scope s.ids)) (same_key j hand.key)
          (λ same. spread_absent j s.scope s.ids (ap (is_spread s.ids) (same_key_is j hand.key same ∙ is) ∙ apart))
          ∙ ap (λ b. b && not (same_key j hand.key)) (sym (waits_in j old s));
      again = line.again;
    }

-- ---- a key that is let go

right_of : (a b : Bool) → (a && b) ≡ true → b ≡ true
right_of true b e = e
right_of false b e = absurd (true≢false (sym e))

-- what is held then was held before
held_before : (k j : Key) (waits : Bool) (old new : QueueView) → Releases k waits old new → is_held new j ≡ true → is_held old j ≡ true
held_before k j waits old new r held =
    held_any old j
    ∙ right_of (not (same_key k j)) (any_held (λ key worker. same_key j key) old.held)
    (sym (held_any new j ∙ list_any-IsPermutation (λ (h : Held). same_key j h.key) new.held (held_without k old.held) r.held
    ∙ any-filter_same (λ (h : Held). same_key j h.key) (λ (h : Held). not (same_key k h.key)) (not (same_key k j)) (λ h e. ap (λ y. not (same_key k y)) (sym (same_key_is j h.key e))) old.held)
    ∙ held)

pub kept_by_release : (w : ℕ) (hand : Hand) (waits : Bool) (hands : List Hand) (old new : QueueView) (s : SpreadView) → IsKept hands old s → hand_of w hands ≡ Some hand → Releases hand.key waits old new → IsKept (without_hand w hands) new s
kept_by_release w hand waits hands old new s kept e r = record {
  tied = tied_by_release w hand waits hands old new kept.tied e r;
  free = λ j held. kept.free j (held_before hand.key j waits old new r held);
}

pub seen_by_let_go : (w : ℕ) (k : Key) (waits : Bool) (hands : List Hand) (old new : QueueView) (s : SpreadView) → Releases k waits old new → IsLetGo w k waits (whole_of hands old s) (whole_of (without_hand w hands) new s)
seen_by_let_go w k waits hands old new s r =
    let line = seen_by_release w k waits hands old new r in
    record {
      hands = refl;
      waiting = λ j. waits_in j new s
          ∙ ap (λ b. b || is_among j (keys_in s.scope s.ids)) (line.waiting j)
          ∙ beside (is_among j old.waiting) (same_key j k && (waits || is_among k (marked_again old))) (is_among j (keys_in s.scope s.ids))
          ∙ ap (λ b. b || (same_key j k && (waits || is_among k (marked_again old)))) (sym (waits_in j old s));
      again = line.again;
    }

-- ---- keys that are marked as a whole

-- no key that is held is one of an object's
no_place : (id : Id) (k : Key) (hands : List Hand) → list_any (λ (h : Hand). is_place_of id h.key) hands ≡ false → is_in_hands k hands ≡ true → is_place_of id k ≡ false
no_place id k [] free held = absurd (true≢false (sym held))
no_place id k (h ∷ hands) free held = by (same_key k h.key) refl held (λ later. no_place id k hands (right_no (is_place_of id h.key) (list_any (λ (h : Hand). is_place_of id h.key) hands) free) later)
  where
    left_no : (a b : Bool) → (a || b) ≡ false → a ≡ false
    left_no true b e = absurd (true≢false e)
    left_no false b e = refl

    right_no : (a b : Bool) → (a || b) ≡ false → b ≡ false
    right_no true b e = absurd (true≢false e)
    right_no false b e = e

    by : (b : Bool) → same_key k h.key ≡ b → (b || is_in_hands k hands) ≡ true → (is_in_hands k hands ≡ true → is_place_of id k ≡ false) → is_place_of id k ≡ false
    by true e later rest = ap (is_place_of id) (same_key_is k h.key e) ∙ left_no (is_place_of id h.key) (list_any (λ (h : Hand). is_place_of id h.key) hands) free
    by false e later rest = rest later

pub kept_by_spread : (id : Id) (hands : List Hand) (q : QueueView) (s t : SpreadView) → IsKept hands q s → MaySpread id hands s.scope s.ids → t.ids ≡ with_id id s.ids → IsKept hands q t
kept_by_spread id hands q s t kept may is = record {
  tied = kept.tied;
  free = λ k held. ap (λ ids. is_spread ids k) is ∙ spread_more k id s.ids (no_place id k hands may.free (held_in_hands k hands q kept.tied ∙ held)) (kept.free k held);
}

-- what tells that they may be
pub may_by : (id : Id) (hands : List Handed) (scope : Option Scope) (ids : List Id) (holds : Bool) → HasPlace scope ids → holds ≡ list_any (λ (h : Handed). is_place_of id h.brief.key) hands → not holds ≡ true → MaySpread id (hands_of hands) scope ids
may_by id hands scope ids true fits is free = absurd (true≢false (sym free))
may_by id hands scope ids false fits is free = record { free = any_map hand_in (λ (h : Hand). is_place_of id h.key) hands ∙ sym is; fits = fits }

-- a, s: a key waited in line, or as a whole; p: it is one of the object's; h: it is held
waits_more : (a s p h : Bool) → (h ≡ true → p ≡ false) → (a || (s || p)) ≡ ((a || s) || (p && not h))
waits_more true s p h none = refl
waits_more false true p h none = refl
waits_more false false true true none = absurd (true≢false (none refl))
waits_more false false true false none = refl
waits_more false false false h none = refl

again_same : (g p h : Bool) → (h ≡ true → p ≡ false) → g ≡ (g || (p && h))
again_same true p h none = refl
again_same false true true none = absurd (true≢false (none refl))
again_same false true false none = refl
again_same false false h none = refl

pub seen_by_spread : (id : Id) (hands : List Hand) (q : QueueView) (s t : SpreadView) → MaySpread id hands s.scope s.ids → t.scope ≡ s.scope → t.ids ≡ with_id id s.ids → IsMarkedBy (place_keys (names_in s.scope) id) (whole_of hands q s) (whole_of hands q t)
seen_by_spread id hands q s t may scope is = record {
  hands = refl;
  waiting = λ k. waits_in k q t
      ∙ (λ i. is_among k q.waiting || is_among k (keys_in (scope i) (is i)))
      ∙ ap (λ b. is_among k q.waiting || b) (among_more k id s.scope s.ids)
      ∙ waits_more (is_among k q.waiting) (is_among k (keys_in s.scope s.ids)) (is_among k (place_keys (names_in s.scope) id)) (is_in_hands k hands) (none k)
      ∙ ap (λ b. b || (is_among k (place_keys (names_in s.scope) id) && not (is_in_hands k hands))) (sym (waits_in k q s));
  again = λ k. again_same (is_among k (marked_again q)) (is_among k (place_keys (names_in s.scope) id)) (is_in_hands k hands) (none k);
}
  where
    none : (k : Key) → is_in_hands k hands ≡ true → is_among k (place_keys (names_in s.scope) id) ≡ false
    none k held = places_apart id k (names_in s.scope) (no_place id k hands may.free held)

-- ---- what is apart

pub whole_apart : (hands : List Hand) (q : QueueView) (s : SpreadView) → IsKept hands q s → IsQueueApart q → AreApart (whole_of hands q s)
whole_apart hands q s kept apart =
    all_apart hands (with_spread q s)
    (record { same = kept.tied.same; workers = kept.tied.workers; keys = kept.tied.keys })
    (record {
      waiting = in_order_distinct (all_waiting q s);
      held = apart.held;
      apart = λ k held. waits_in k q s ∙ (λ i. apart.apart k held i || spread_absent k s.scope s.ids (kept.free k held) i);
    })

-- ---- how many wait

pub whole_many : (q : QueueView) (s : SpreadView) → IsQueueApart q → IsDistinct same_key (keys_in s.scope s.ids) → length (all_waiting q s) ≡ length (in_order (all_waiting q s))
whole_many q s apart distinct = sym (length_in_order (all_waiting q s) (distinct_waiting q.waiting (keys_in s.scope s.ids) apart.waiting distinct))

-- nothing was marked
pub whole_none : (hands : List Hand) (q : QueueView) (s : SpreadView) → hands ≡ [] → q.waiting ≡ [] → q.held ≡ [] → s.ids ≡ [] → whole_of hands q s ≡ no_work
whole_none hands q s nobody line held ids =
    let none : all_waiting q s ≡ [] = λ i. waiting_in (line i) (keys_in s.scope (ids i)) in
    λ i. record { hands = nobody i; waiting = in_order_none (all_waiting q s) none i; again = map (λ (h : Held). h.key) (filter (λ (h : Held). h.again) (held i)) }
