-- Marks in a queue, one after the other, as look-ups tell them.
use Rattle.std.proofs.Common.{◌≡◌, Bool, true, false, not, cond, ◌&&◌, ◌||◌, List, [], ◌∷◌, ◌++◌, map, filter, refl, sym, ap, ◌∙◌, true≢false, arith}
use Rattle.std.specs.List.{list_any}
use Rattle.std.proofs.Math.Bool.{or-false}
use Rattle.std.proofs.lemmas.List.Folds.{list_any-append}
use Rattle.hx_model.specs.Keys.{same_key, is_among}
use Rattle.hx_model.specs.declared.key.Key.{Key}
use Rattle.hx_queue.specs.Kept.{Held, QueueView, Marks, again_in, is_held, is_waiting, marked_again, waiting_with}
use Rattle.hx_queue.specs.Tied.{MarksEach, any_held}
use Rattle.hx_queue.proofs.Finding.{some_any, any_alike, any_map, any_kept, any_either, any_where}
use Rattle.hx_model.proofs.SameKeys.{same_key_is, same_turned}

-- ---- look-ups

-- which keys are held and were marked
pub among_again : (k : Key) (held : List Held) → is_among k (map (λ (h : Held). h.key) (filter (λ (h : Held). h.again) held)) ≡ list_any (λ (h : Held). h.again && same_key k h.key) held
among_again k held = any_map (λ (h : Held). h.key) (same_key k) (filter (λ (h : Held). h.again) held) ∙ any_kept (λ (h : Held). h.again) (λ (h : Held). same_key k h.key) held

-- which keys are held
pub held_any : (q : QueueView) (k : Key) → is_held q k ≡ any_held (λ key worker. same_key k key) q.held
held_any q k = some_any (λ (h : Held). same_key k h.key) q.held

-- ---- one mark

both : (b : Bool) (x : Bool) → cond b x x ≡ x
both true x = refl
both false x = refl

-- a is whether the key waited, s whether it is the marked one, h whether it is held; the other two are those of the marked one
waits_then : (a s h own_h own_a : Bool) → (s ≡ true → h ≡ own_h) → (s ≡ true → a ≡ own_a) → cond (own_h || own_a) a (a || (s || false)) ≡ (a || ((s || false) && not h))
waits_then true s h own_h own_a p q = both (own_h || own_a) true
waits_then false false h own_h own_a p q = both (own_h || own_a) false
waits_then false true h own_h true p q = absurd (true≢false (sym (q refl)))
waits_then false true true own_h false p q = ap (λ b. cond (b || false) false true) (sym (p refl))
waits_then false true false own_h false p q = ap (λ b. cond (b || false) false true) (sym (p refl))

marked_then : (k j : Key) (h : Held) → ((same_key k h.key || h.again) && same_key j h.key) ≡ (h.again && same_key j h.key || same_key j k && same_key j h.key)
marked_then k j h = by (same_key j h.key) refl
  where
    none : (a b : Bool) → (a && false) ≡ (b && false || (a && false))
    none true true = refl
    none true false = refl
    none false true = refl
    none false false = refl

    no : (a b c : Bool) → ((a || b) && false) ≡ (b && false || c && false)
    no true true true = refl
    no true true false = refl
    no true false true = refl
    no true false false = refl
    no false true true = refl
    no false true false = refl
    no false false true = refl
    no false false false = refl

    yes : (a b : Bool) → ((a || b) && true) ≡ (b && true || a && true)
    yes true true = refl
    yes true false = refl
    yes false true = refl
    yes false false = refl

    by : (b : Bool) → same_key j h.key ≡ b → ((same_key k h.key || h.again) && b) ≡ (h.again && b || same_key j k && b)
    by true is =
        let turned : same_key k h.key ≡ same_key j k = ap (same_key k) (sym (same_key_is j h.key is)) ∙ same_turned k j in
        ap (λ b. (b || h.again) && true) turned ∙ yes (same_key j k) h.again
    by false is = no (same_key k h.key) h.again (same_key j k)

pub mark_one : (k : Key) (old new : QueueView) → Marks k old new → MarksEach (k ∷ []) old new
mark_one k old new m = record {
  waiting = λ j. ap (is_among j) m.waiting ∙ waiting j;
  again = λ j. ap (λ held. is_among j (map (λ (h : Held). h.key) (filter (λ (h : Held). h.again) held))) m.held ∙ again j;
  held = λ test. ap (any_held test) m.held ∙ any_map (λ (h : Held). record h { again = same_key k h.key || h.again }) (λ (h : Held). test h.key h.worker) old.held;
  ranks = m.ranks;
  spare = m.spare;
}
  where
    split : (j : Key) (b : Bool) → is_among j (cond b old.waiting (old.waiting ++ k ∷ [])) ≡ cond b (is_among j old.waiting) (is_among j old.waiting || (same_key j k || false))
    split j true = refl
    split j false = list_any-append (same_key j) old.waiting (k ∷ [])

    waiting : (j : Key) → is_among j (waiting_with old k) ≡ (is_among j old.waiting || ((same_key j k || false) && not (is_held old j)))
    waiting j =
        split j (is_held old k || is_waiting old k)
        ∙ waits_then (is_among j old.waiting) (same_key j k) (is_held old j) (is_held old k) (is_waiting old k) (λ is. ap (is_held old) (same_key_is j k is)) (λ is. ap (is_waiting old) (same_key_is j k is))

    again : (j : Key) → is_among j (map (λ (h : Held). h.key) (filter (λ (h : Held). h.again) (again_in k old.held))) ≡ (is_among j (marked_again old) || ((same_key j k || false) && is_held old j))
    again j =
        among_again j (again_in k old.held)
        ∙ any_map (λ (h : Held). record h { again = same_key k h.key || h.again }) (λ (h : Held). h.again && same_key j h.key) old.held
        ∙ any_alike (λ (h : Held). (same_key k h.key || h.again) && same_key j h.key) (λ (h : Held). h.again && same_key j h.key || same_key j k && same_key j h.key) (marked_then k j) old.held
        ∙ any_either (λ (h : Held). h.again && same_key j h.key) (λ (h : Held). same_key j k && same_key j h.key) old.held
        ∙ (λ i. sym (among_again j old.held) i || (any_where (same_key j k) (λ (h : Held). same_key j h.key) old.held ∙ (λ l. sym (or-false (same_key j k)) l && sym (held_any old j) l)) i)

-- ---- many marks

-- no keys are marked
pub none_marked : (q : QueueView) → MarksEach [] q q
none_marked q = record {
  waiting = λ k. sym (or-false (is_among k q.waiting));
  again = λ k. sym (or-false (is_among k (marked_again q)));
  ranks = refl;
  held = λ test. refl;
  spare = omega arith;
}

-- a is what was there, s what comes of the first one, and t of the others
joined : (a s t n : Bool) → ((a || ((s || false) && n)) || (t && n)) ≡ (a || ((s || t) && n))
joined true s t n = refl
joined false true true true = refl
joined false true true false = refl
joined false true false true = refl
joined false true false false = refl
joined false false t n = refl

-- a mark, and then the others
pub mark_more : (k : Key) (keys : List Key) (u v w : QueueView) → MarksEach (k ∷ []) u v → MarksEach keys v w → MarksEach (k ∷ keys) u w
mark_more k keys u v w first rest = record {
  waiting = λ j. rest.waiting j ∙ (λ i. first.waiting j i || (is_among j keys && not (held_then j i))) ∙ joined (is_among j u.waiting) (same_key j k) (is_among j keys) (not (is_held u j));
  again = λ j. rest.again j ∙ (λ i. first.again j i || (is_among j keys && held_then j i)) ∙ joined (is_among j (marked_again u)) (same_key j k) (is_among j keys) (is_held u j);
  ranks = rest.ranks ∙ first.ranks;
  held = λ test. rest.held test ∙ first.held test;
  spare = omega (arith, first.spare, rest.spare);
}
  where
    held_then : (j : Key) → is_held v j ≡ is_held u j
    held_then j = held_any v j ∙ first.held (λ key worker. same_key j key) ∙ sym (held_any u j)
