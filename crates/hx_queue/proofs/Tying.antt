-- That hands and a queue stay tied, and what their calls do.
use Rattle.std.proofs.Common.{◌≡◌, ℕ, Bool, true, false, not, cond, ◌&&◌, ◌||◌, List, [], ◌∷◌, ◌++◌, slice_index_or, refl, sym, ap, ◌∙◌, true≢false, Option, Some, None, is_some, IsSomeAnd, IfSome, IfNone}
use Rattle.std.specs.Prelude.{◌==◌, option_map, slice_get}
use Rattle.std.specs.List.{list_any, AllByRecursion}
use Rattle.std.proofs.Math.Bool.{or-false, and_comm}
use Rattle.std.proofs.lemmas.Bool.{eq-eqb}
use Rattle.std.proofs.lemmas.List.Folds.{list_any-append}
use Rattle.std.proofs.lemmas.List.Kept.{AllPairs-filter}
use Rattle.std.proofs.lemmas.List.Quantifiers.{all_pairs_push}
use Rattle.std.proofs.lemmas.List.Sorted.{list_any-IsPermutation}
use Rattle.std.proofs.lemmas.Map.Keys.{apart_from_distinct}
use Rattle.std.proofs.lemmas.Map.Views.{any-filter_same}
use Rattle.hx_model.specs.Hands.{Hand, hand_of, without_hand, is_held as is_in_hands}
use Rattle.hx_model.specs.Keys.{same_key, is_among}
use Rattle.hx_model.specs.declared.key.Key.{Key}
use Rattle.hx_queue.specs.Kept.{Held, QueueView, Holds, Releases, AreApart as IsQueueApart, held_without, holding_of, is_held, marked_again}
use Rattle.hx_line.specs.Line.{waiting_without}
use Rattle.hx_queue.specs.Tied.{IsTied, MarksEach, any_held}
use Rattle.hx_queue.specs.Workers.{WorkersView, AreApart, IsMarkedBy, IsTakenBy, IsLetGo}
use Rattle.hx_queue.proofs.Finding.{some_any, any_same, any_kept, any_by_found, found_passes, none_at}
use Rattle.hx_queue.proofs.Handing.{only_there, sole}
use Rattle.hx_model.proofs.SameKeys.{same_key_is, same_key_itself, same_turned}
use Rattle.hx_queue.proofs.Marking.{among_again, held_any}

-- what is seen of hands and a queue
abbrev pub view_of : List Hand → QueueView → WorkersView
view_of hands q = record { hands = hands; waiting = q.waiting; again = marked_again q }

-- ---- look-ups

-- a hand has a key where the queue holds it
pub held_in_hands : (k : Key) (hands : List Hand) (q : QueueView) → IsTied hands q → is_in_hands k hands ≡ is_held q k
held_in_hands k hands q tied = tied.same (λ key worker. same_key k key) ∙ sym (held_any q k)

-- the key of a hand is held
pub key_held : (w : ℕ) (hand : Hand) (hands : List Hand) (q : QueueView) → IsTied hands q → hand_of w hands ≡ Some hand → is_held q hand.key ≡ true
key_held w hand hands q tied e = sym (held_in_hands hand.key hands q tied) ∙ any_by_found (λ (h : Hand). h.worker == w) (λ (h : Hand). same_key hand.key h.key) hands hand e (same_key_itself hand.key)

-- who holds a key in the queue has a hand with it
pub holder_some : (k : Key) (hands : List Hand) (q : QueueView) → IsTied hands q → IfSome (option_map (λ (h : Held). h.worker) (holding_of q k)) (λ w. IsSomeAnd (hand_of w hands) (λ hand. hand.key ≡ k))
holder_some k hands q tied = by (holding_of q k) refl
  where
    by : (o : Option Held) → holding_of q k ≡ o → IfSome (option_map (λ (h : Held). h.worker) o) (λ w. IsSomeAnd (hand_of w hands) (λ hand. hand.key ≡ k))
    by None e = tt
    by (Some h) e =
        sole h.worker k hands tied.workers
        (tied.same (λ key worker. same_key k key && (worker == h.worker))
        ∙ any_by_found (λ (x : Held). same_key k x.key) (λ (x : Held). same_key k x.key && (x.worker == h.worker)) q.held h e
        (ap (λ b. b && (h.worker == h.worker)) (found_passes (λ (x : Held). same_key k x.key) q.held h e) ∙ eq-eqb h.worker h.worker refl))

pub holder_none : (k : Key) (hands : List Hand) (q : QueueView) → IsTied hands q → IfNone (option_map (λ (h : Held). h.worker) (holding_of q k)) (is_in_hands k hands ≡ false)
holder_none k hands q tied = by (holding_of q k) refl
  where
    by : (o : Option Held) → holding_of q k ≡ o → IfNone (option_map (λ (h : Held). h.worker) o) (is_in_hands k hands ≡ false)
    by None e = held_in_hands k hands q tied ∙ ap is_some e
    by (Some h) e = tt

-- ---- marks

pub seen_by_marks : (keys : List Key) (hands : List Hand) (old new : QueueView) → IsTied hands old → MarksEach keys old new → IsMarkedBy keys (view_of hands old) (view_of hands new)
seen_by_marks keys hands old new tied m = record {
  hands = refl;
  waiting = λ k. m.waiting k ∙ ap (λ b. is_among k old.waiting || (is_among k keys && not b)) (sym (held_in_hands k hands old tied));
  again = λ k. m.again k ∙ ap (λ b. is_among k (marked_again old) || (is_among k keys && b)) (sym (held_in_hands k hands old tied));
}

-- ---- a key that is taken

pub tied_by_take : (hand : Hand) (k : Key) (hands : List Hand) (old new : QueueView) → hand.key ≡ k → IsTied hands old → hand_of hand.worker hands ≡ None → is_in_hands k hands ≡ false → Holds hand.worker k old new
    → IsTied (hands ++ hand ∷ []) new
tied_by_take hand k hands old new is tied empty free h = record {
  same = λ test. list_any-append (λ (x : Hand). test x.key x.worker) hands (hand ∷ [])
      ∙ (λ i. tied.same test i || (test (is i) hand.worker || false))
      ∙ sym (ap (any_held test) h.held ∙ list_any-append (λ (x : Held). test x.key x.worker) old.held (record { key = k; worker = hand.worker; again = false } ∷ []));
  workers = all_pairs_push (λ (a b : Hand). (a.worker == b.worker) ≡ false) hands hand tied.workers
      (λ j d within. none_at (λ (x : Hand). x.worker == hand.worker) hands (sym (some_any (λ (x : Hand). x.worker == hand.worker) hands) ∙ ap is_some empty) j d within);
  keys = all_pairs_push (λ (a b : Hand). same_key a.key b.key ≡ false) hands hand tied.keys
      (λ j d within. same_turned _ hand.key ∙ ap (λ key. same_key key (slice_index_or hands j d).key) is ∙ none_at (λ (x : Hand). same_key k x.key) hands free j d within);
}

pub seen_by_take : (hand : Hand) (k : Key) (hands : List Hand) (old new : QueueView) → hand.key ≡ k → Holds hand.worker k old new → IsTakenBy hand (view_of hands old) (view_of (hands ++ hand ∷ []) new)
seen_by_take hand k hands old new is h = record {
  hands = refl;
  waiting = λ j. list_any-IsPermutation (same_key j) new.waiting (waiting_without old.waiting k) h.waiting
      ∙ any-filter_same (same_key j) (λ other. not (same_key k other)) (not (same_key k j)) (λ x e. ap (λ y. not (same_key k y)) (sym (same_key_is j x e))) old.waiting
      ∙ and_comm (not (same_key k j)) (is_among j old.waiting)
      ∙ ap (λ b. is_among j old.waiting && not b) (same_turned k j ∙ ap (same_key j) (sym is));
  again = λ j. among_again j new.held ∙ ap (list_any (λ (x : Held). x.again && same_key j x.key)) h.held
      ∙ list_any-append (λ (x : Held). x.again && same_key j x.key) old.held (record { key = k; worker = hand.worker; again = false } ∷ [])
      ∙ or-false (list_any (λ (x : Held). x.again && same_key j x.key) old.held) ∙ sym (among_again j old.held);
}

-- ---- a key that is let go

pub tied_by_release : (w : ℕ) (hand : Hand) (waits : Bool) (hands : List Hand) (old new : QueueView) → IsTied hands old → hand_of w hands ≡ Some hand → Releases hand.key waits old new → IsTied (without_hand w hands) new
tied_by_release w hand waits hands old new tied e r = record {
  same = λ test. any_kept (λ (h : Hand). not (h.worker == w)) (λ (h : Hand). test h.key h.worker) hands
      ∙ any_same (λ (h : Hand). not (h.worker == w) && test h.key h.worker) (λ (h : Hand). not (same_key hand.key h.key) && test h.key h.worker) hands
      (others test hands (only_there w hand hands tied.workers tied.keys e))
      ∙ tied.same (λ key worker. not (same_key hand.key key) && test key worker)
      ∙ sym (any_kept (λ (h : Held). not (same_key hand.key h.key)) (λ (h : Held). test h.key h.worker) old.held)
      ∙ sym (list_any-IsPermutation (λ (h : Held). test h.key h.worker) new.held (held_without hand.key old.held) r.held);
  workers = AllPairs-filter (λ (a b : Hand). (a.worker == b.worker) ≡ false) (λ (h : Hand). not (h.worker == w)) hands tied.workers;
  keys = AllPairs-filter (λ (a b : Hand). same_key a.key b.key ≡ false) (λ (h : Hand). not (h.worker == w)) hands tied.keys;
}
  where
    others : (test : Key → ℕ → Bool) (xs : List Hand) → AllByRecursion (λ (h : Hand). (h.worker == w) ≡ same_key hand.key h.key) xs
        → AllByRecursion (λ (h : Hand). (not (h.worker == w) && test h.key h.worker) ≡ (not (same_key hand.key h.key) && test h.key h.worker)) xs
    others test [] h = tt
    others test (x ∷ xs) h = (ap (λ b. not b && test x.key x.worker) h.0, others test xs h.1)

pub seen_by_release : (w : ℕ) (k : Key) (waits : Bool) (hands : List Hand) (old new : QueueView) → Releases k waits old new → IsLetGo w k waits (view_of hands old) (view_of (without_hand w hands) new)
seen_by_release w k waits hands old new r = record {
  hands = refl;
  waiting = λ j. ap (is_among j) r.waiting ∙ waiting j (waits || is_among k (marked_again old));
  again = λ j. among_again j new.held
      ∙ list_any-IsPermutation (λ (h : Held). h.again && same_key j h.key) new.held (held_without k old.held) r.held
      ∙ any-filter_same (λ (h : Held). h.again && same_key j h.key) (λ (h : Held). not (same_key k h.key)) (not (same_key k j)) (λ h e. ap (λ y. not (same_key k y)) (sym (same_key_is j h.key (right_of h.again (same_key j h.key) e)))) old.held
      ∙ and_comm (not (same_key k j)) (list_any (λ (h : Held). h.again && same_key j h.key) old.held)
      ∙ (λ i. sym (among_again j old.held) i && not (same_turned k j i));
}
  where
    right_of : (a b : Bool) → (a && b) ≡ true → b ≡ true
    right_of true b e = e
    right_of false b e = absurd (true≢false (sym e))

    and_true : (a : Bool) → (a || false) ≡ (a && true)
    and_true true = refl
    and_true false = refl

    and_no : (a b : Bool) → a ≡ (a || (b && false))
    and_no true b = refl
    and_no false true = refl
    and_no false false = refl

    waiting : (j : Key) (b : Bool) → is_among j (cond b (old.waiting ++ k ∷ []) old.waiting) ≡ (is_among j old.waiting || (same_key j k && b))
    waiting j true = list_any-append (same_key j) old.waiting (k ∷ []) ∙ ap (λ b. is_among j old.waiting || b) (and_true (same_key j k))
    waiting j false = and_no (is_among j old.waiting) (same_key j k)

-- ---- what is apart

or_true : (a b : Bool) → b ≡ true → (a || b) ≡ true
or_true true b h = refl
or_true false b h = h

each_among : (P : Key → Type 0) (xs : List Key) → ((k : Key) → is_among k xs ≡ true → P k) → AllByRecursion P xs
each_among P [] h = tt
each_among P (x ∷ xs) h = (h x (ap (λ b. b || is_among x xs) (same_key_itself x)), each_among P xs (λ k is. h k (or_true (same_key k x) (is_among k xs) is)))

-- what waits isn't held
pub waits_free : (k : Key) (hands : List Hand) (q : QueueView) → IsTied hands q → IsQueueApart q → is_among k q.waiting ≡ true → is_in_hands k hands ≡ false
waits_free k hands q tied apart waits = held_in_hands k hands q tied ∙ by (is_held q k) refl
  where
    by : (b : Bool) → is_held q k ≡ b → b ≡ false
    by true e = absurd (true≢false (sym waits ∙ apart.apart k e))
    by false e = refl

again_held : (k : Key) (held : List Held) → list_any (λ (h : Held). h.again && same_key k h.key) held ≡ true → list_any (λ (h : Held). same_key k h.key) held ≡ true
again_held k [] e = e
again_held k (h ∷ held) e = by (same_key k h.key) h.again e (again_held k held)
  where
    by : (b a : Bool) → (a && b || list_any (λ (h : Held). h.again && same_key k h.key) held) ≡ true → (list_any (λ (h : Held). h.again && same_key k h.key) held ≡ true → list_any (λ (h : Held). same_key k h.key) held ≡ true) → (b || list_any (λ (h : Held). same_key k h.key) held) ≡ true
    by true a e rest = refl
    by false true e rest = rest e
    by false false e rest = rest e

pub all_apart : (hands : List Hand) (q : QueueView) → IsTied hands q → IsQueueApart q → AreApart (view_of hands q)
all_apart hands q tied apart = record {
  waiting = λ i j d lt within. apart_from_distinct same_key q.waiting i j d apart.waiting lt within;
  workers = tied.workers;
  held = tied.keys;
  apart = each_among (λ k. is_in_hands k hands ≡ false) q.waiting (λ k is. waits_free k hands q tied apart is);
  again = each_among (λ k. is_in_hands k hands ≡ true) (marked_again q)
      (λ k is. held_in_hands k hands q tied ∙ held_any q k ∙ again_held k q.held (sym (among_again k q.held) ∙ is));
}

-- the first that waits
pub first_waits : (k : Key) (xs : List Key) → slice_get xs 0 ≡ Some k → is_among k xs ≡ true
first_waits k [] e = absurd (true≢false (sym (ap is_some e)))
first_waits k (x ∷ xs) e = ap (λ b. b || is_among k xs) (ap (same_key k) (ap (λ (o : Option Key). elim o [ Some z ↦ z | None ↦ x ]) e) ∙ same_key_itself k)
