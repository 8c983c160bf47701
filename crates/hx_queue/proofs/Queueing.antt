-- What a queue keeps, when it changes.
use Rattle.std.proofs.Common.{◌≡◌, ◌≤◌, ◌<◌, ◌+◌, ℕ, Bool, true, false, not, cond, ◌&&◌, ◌||◌, List, [], ◌∷◌, ◌++◌, map, filter, length, refl, sym, ap, subst, ◌∙◌, true≢false, arith, Some, is_some, unwrap_or, if◌then◌else◌}
use Rattle.std.specs.Prelude.{find, option_map}
use Rattle.std.specs.List.{IsDistinct}
use Rattle.std.specs.List.Sorted.{IsPermutation}
use lib.ListN.{length-map}
use Rattle.std.proofs.lemmas.List.{length-append}
use Rattle.std.proofs.lemmas.List.Folds.{list_any-append}
use Rattle.std.proofs.lemmas.List.Sorted.{IsPermutation-map, IsPermutation-sym, list_any-IsPermutation}
use Rattle.std.proofs.lemmas.Map.Keys.{IsDistinct-head, IsDistinct-tail, IsDistinct-push, IsDistinct-IsPermutation}
use Rattle.hx_model.specs.Keys.{same_key, is_among}
use Rattle.hx_model.specs.declared.key.Key.{Key}
use Rattle.hx_queue.specs.Kept.{Held, QueueView, AreApart, again_in, held_without, keys_held, waiting_after, Releases}
use Rattle.hx_line.specs.Line.{LineView, waiting_without, with_key}
use Rattle.hx_queue.specs.Slots.{held_of, held_by, view, seen, IsQueue}
use Rattle.hx_queue.specs.declared.slots.Slot.{Slot}
use Rattle.hx_model.proofs.SameKeys.{key_laws, same_key_is, same_turned}
use Rattle.hx_line.proofs.Sets.{among_without, distinct_filter, head_absent}

-- ---- keys that wait, and keys that are held

-- a key is held if it is among the keys that are
pub is_held_among : (k : Key) (hs : List Held) → is_some (find (λ (h : Held). same_key k h.key) hs) ≡ is_among k (keys_held hs)
is_held_among k [] = refl
is_held_among k (h ∷ hs) = by (same_key k h.key) refl (is_held_among k hs)
  where
    by : (b : Bool) → same_key k h.key ≡ b → is_some (find (λ (h : Held). same_key k h.key) hs) ≡ is_among k (keys_held hs) → is_some (find (λ (h : Held). same_key k h.key) (h ∷ hs)) ≡ is_among k (keys_held (h ∷ hs))
    by true is rest = ap (λ b. is_some (cond b (Some h) (find (λ (h : Held). same_key k h.key) hs))) is ∙ sym (ap (λ b. b || is_among k (keys_held hs)) is)
    by false is rest = ap (λ b. is_some (cond b (Some h) (find (λ (h : Held). same_key k h.key) hs))) is ∙ rest ∙ sym (ap (λ b. b || is_among k (keys_held hs)) is)

abbrev Apart : List Key → List Key → Type 0
Apart keys held = (q : Key) → is_among q held ≡ true → is_among q keys ≡ false

apart_from : (keys : List Key) (ranks : List (Key × ℕ)) (hs : List Held) → IsDistinct same_key keys → IsDistinct same_key (keys_held hs) → Apart keys (keys_held hs) → (n : ℕ) → AreApart (view keys ranks hs n)
apart_from keys ranks hs c d a n = record { waiting = c; held = d; apart = λ q is. a q (sym (is_held_among q hs) ∙ is) }

apart_in : (keys : List Key) (ranks : List (Key × ℕ)) (hs : List Held) → ((n : ℕ) → AreApart (view keys ranks hs n)) → Apart keys (keys_held hs)
apart_in keys ranks hs a q is = (a 0).apart q (is_held_among q hs ∙ is)

-- other depths
ranked_apart : (keys : List Key) (ranks others : List (Key × ℕ)) (hs : List Held) → ((n : ℕ) → AreApart (view keys ranks hs n)) → (n : ℕ) → AreApart (view keys others hs n)
ranked_apart keys ranks others hs a n = let at = a n in record { waiting = at.waiting; held = at.held; apart = at.apart }

-- what is left without a key is distinct
distinct_after : (k : Key) (old new : List Key) → IsDistinct same_key old → IsPermutation new (waiting_without old k) → IsDistinct same_key new
distinct_after k old new d p = IsDistinct-IsPermutation same_key same_turned (waiting_without old k) new (IsPermutation-sym _ _ p) (distinct_filter (λ other. not (same_key k other)) old d)

pub keys_again : (k : Key) (hs : List Held) → keys_held (again_in k hs) ≡ keys_held hs
keys_again k [] = refl
keys_again k (h ∷ hs) = ap (λ l. h.key ∷ l) (keys_again k hs)

pub keys_without : (k : Key) (hs : List Held) → keys_held (held_without k hs) ≡ waiting_without (keys_held hs) k
keys_without k [] = refl
keys_without k (h ∷ hs) = by (same_key k h.key) refl (keys_without k hs)
  where
    by : (b : Bool) → same_key k h.key ≡ b → keys_held (held_without k hs) ≡ waiting_without (keys_held hs) k → keys_held (held_without k (h ∷ hs)) ≡ waiting_without (keys_held (h ∷ hs)) k
    by true is rest = ap (λ b. keys_held (cond (not b) (h ∷ held_without k hs) (held_without k hs))) is ∙ rest ∙ sym (ap (λ b. cond (not b) (h.key ∷ waiting_without (keys_held hs) k) (waiting_without (keys_held hs) k)) is)
    by false is rest = ap (λ b. keys_held (cond (not b) (h ∷ held_without k hs) (held_without k hs))) is ∙ ap (λ l. h.key ∷ l) rest ∙ sym (ap (λ b. cond (not b) (h.key ∷ waiting_without (keys_held hs) k) (waiting_without (keys_held hs) k)) is)

-- ---- room

pub as_many : (es fs : List (Key × Slot)) → keys_held (held_of fs) ≡ keys_held (held_of es) → length fs ≡ length es
as_many es fs h =
    sym (length-map fs held_by) ∙ sym (length-map (held_of fs) (λ (h : Held). h.key)) ∙ ap length h ∙ length-map (held_of es) (λ (h : Held). h.key) ∙ length-map es held_by

-- ---- the line, or the entries, with the same keys

pub still_queue : (a b : LineView) (es fs : List (Key × Slot)) → IsQueue a es → b.keys ≡ a.keys → a.room ≤ b.room → fs ≡ es → IsQueue b fs
still_queue a b es fs q keys room is =
    let kept : IsQueue b es = record { apart = subst (λ l. (n : ℕ) → AreApart (view l b.ranks (held_of es) n)) (sym keys) (ranked_apart a.keys a.ranks b.ranks (held_of es) q.apart); room = omega (arith, q.room, room) } in
    subst (IsQueue b) (sym is) kept

pub marked_queue : (k : Key) (a : LineView) (es fs : List (Key × Slot)) → IsQueue a es → held_of fs ≡ again_in k (held_of es) → IsQueue a fs
marked_queue k a es fs q is =
    let keys : keys_held (held_of fs) ≡ keys_held (held_of es) = ap keys_held is ∙ keys_again k (held_of es) in
    let long = as_many es fs keys in
    let at = q.apart 0 in
    record {
      apart = apart_from a.keys a.ranks (held_of fs) at.waiting (subst (IsDistinct same_key) (sym keys) at.held) (subst (Apart a.keys) (sym keys) (apart_in a.keys a.ranks (held_of es) q.apart));
      room = omega (arith, q.room, long);
    }

-- the keys in line in another order
pub ranked_queue : (a b : LineView) (es : List (Key × Slot)) → IsQueue a es → IsPermutation a.keys b.keys → a.room ≤ b.room → IsQueue b es
ranked_queue a b es q keys room =
    let at = q.apart 0 in
    record {
      apart = apart_from b.keys b.ranks (held_of es) (IsDistinct-IsPermutation same_key same_turned a.keys b.keys keys at.waiting) at.held
          (λ p held. sym (list_any-IsPermutation (same_key p) a.keys b.keys keys) ∙ apart_in a.keys a.ranks (held_of es) q.apart p held);
      room = omega (arith, q.room, room);
    }

-- ---- a key waits

among_push : (q k : Key) (keys : List Key) → is_among q (keys ++ k ∷ []) ≡ (is_among q keys || same_key q k)
among_push q k keys = list_any-append (same_key q) keys (k ∷ []) ∙ ap (λ b. is_among q keys || b) (or_false (same_key q k))
  where
    or_false : (b : Bool) → (b || false) ≡ b
    or_false true = refl
    or_false false = refl

-- a key that is neither there nor held
pushed_queue : (k : Key) (a b : LineView) (es fs : List (Key × Slot)) → IsQueue a es → held_of fs ≡ again_in k (held_of es) → b.keys ≡ a.keys ++ k ∷ [] → a.room ≤ b.room + 1 → length es < a.room
    → is_among k a.keys ≡ false → is_some (find (λ (h : Held). same_key k h.key) (held_of es)) ≡ false → IsQueue b fs
pushed_queue k a b es fs q is keys room more absent free =
    let m = marked_queue k a es fs q is in
    let at = m.apart 0 in
    let long = as_many es fs (ap keys_held is ∙ keys_again k (held_of es)) in
    record {
      apart = subst (λ l. (n : ℕ) → AreApart (view l b.ranks (held_of fs) n)) (sym keys)
          (apart_from (a.keys ++ k ∷ []) b.ranks (held_of fs) (IsDistinct-push key_laws a.keys k at.waiting absent) at.held (λ p held. among_push p k a.keys ∙ by p held (same_key p k) refl (apart_in a.keys a.ranks (held_of fs) m.apart p held)));
      room = omega (arith, room, more, long);
    }
  where
    by : (p : Key) → is_among p (keys_held (held_of fs)) ≡ true → (t : Bool) → same_key p k ≡ t → is_among p a.keys ≡ false → (is_among p a.keys || same_key p k) ≡ false
    by p held true e out =
        absurd (true≢false (sym held ∙ ap (is_among p) (ap keys_held is ∙ keys_again k (held_of es)) ∙ ap (λ x. is_among x (keys_held (held_of es))) (same_key_is p k e) ∙ sym (is_held_among k (held_of es)) ∙ free))
    by p held false e out = (λ i. out i || e i)

-- a key waits, or did before
pub with_queue : (k : Key) (a b : LineView) (es fs : List (Key × Slot)) → IsQueue a es → held_of fs ≡ again_in k (held_of es) → b.keys ≡ with_key k a.keys → a.room ≤ b.room + 1 → length es < a.room
    → is_some (find (λ (h : Held). same_key k h.key) (held_of es)) ≡ false → IsQueue b fs
with_queue k a b es fs q is keys room more free = by (is_among k a.keys) refl
  where
    by : (t : Bool) → is_among k a.keys ≡ t → IsQueue b fs
    by false absent = pushed_queue k a b es fs q is (keys ∙ ap (λ t. cond t a.keys (a.keys ++ k ∷ [])) absent) room more absent free
    by true there =
        let m = marked_queue k a es fs q is in
        let same : b.keys ≡ a.keys = keys ∙ ap (λ t. cond t a.keys (a.keys ++ k ∷ [])) there in
        let long = as_many es fs (ap keys_held is ∙ keys_again k (held_of es)) in
        record { apart = subst (λ l. (n : ℕ) → AreApart (view l b.ranks (held_of fs) n)) (sym same) (ranked_apart a.keys a.ranks b.ranks (held_of fs) m.apart); room = omega (arith, room, more, long) }

-- ---- a key is held

keys_append : (hs : List Held) (h : Held) → keys_held (hs ++ h ∷ []) ≡ keys_held hs ++ h.key ∷ []
keys_append [] h = refl
keys_append (x ∷ xs) h = ap (λ l. x.key ∷ l) (keys_append xs h)

held_append : (es : List (Key × Slot)) (e : Key × Slot) → held_of (es ++ e ∷ []) ≡ held_of es ++ held_by e ∷ []
held_append [] e = refl
held_append (x ∷ xs) e = ap (λ l. held_by x ∷ l) (held_append xs e)

pub held_queue : (k : Key) (s : Slot) (a b : LineView) (es fs : List (Key × Slot)) → IsQueue a es → IsPermutation b.keys (waiting_without a.keys k) → fs ≡ es ++ (k, s) ∷ [] → a.room ≤ b.room → length es < a.room
    → is_some (find (λ (h : Held). same_key k h.key) (held_of es)) ≡ false → IsQueue b fs
held_queue k s a b es fs q keys is room more free =
    let at = q.apart 0 in
    let held : keys_held (held_of fs) ≡ keys_held (held_of es) ++ k ∷ [] = ap (λ l. keys_held (held_of l)) is ∙ ap keys_held (held_append es (k, s)) ∙ keys_append (held_of es) (held_by (k, s)) in
    let absent : is_among k (keys_held (held_of es)) ≡ false = sym (is_held_among k (held_of es)) ∙ free in
    let long = ap length is ∙ length-append es ((k, s) ∷ []) in
    record {
      apart = apart_from b.keys b.ranks (held_of fs) (distinct_after k a.keys b.keys at.waiting keys) (subst (IsDistinct same_key) (sym held) (IsDistinct-push key_laws (keys_held (held_of es)) k at.held absent))
          (λ p h. left p ∙ by p (same_key k p) refl (sym (among_push p k (keys_held (held_of es))) ∙ sym (ap (is_among p) held) ∙ h));
      room = omega (arith, room, more, long);
    }
  where
    left : (p : Key) → is_among p b.keys ≡ (not (same_key k p) && is_among p a.keys)
    left p = list_any-IsPermutation (same_key p) b.keys (waiting_without a.keys k) keys ∙ among_without k p a.keys

    by : (p : Key) (t : Bool) → same_key k p ≡ t → (is_among p (keys_held (held_of es)) || same_key p k) ≡ true → (not (same_key k p) && is_among p a.keys) ≡ false
    by p true e h = ap (λ t. not t && is_among p a.keys) e
    by p false e h =
        let other : same_key p k ≡ false = same_turned p k ∙ e in
        ap (λ t. not t && is_among p a.keys) e ∙ apart_in a.keys a.ranks (held_of es) q.apart p (or_left (is_among p (keys_held (held_of es))) (sym (ap (λ t. is_among p (keys_held (held_of es)) || t) other) ∙ h))
      where
        or_left : (t : Bool) → (t || false) ≡ true → t ≡ true
        or_left true h = refl
        or_left false h = h

-- ---- a key is let go

pub let_go_keys : (k : Key) (es fs : List (Key × Slot)) → IsPermutation (held_of fs) (held_without k (held_of es)) → IsPermutation (keys_held (held_of fs)) (waiting_without (keys_held (held_of es)) k)
let_go_keys k es fs p = subst (IsPermutation (keys_held (held_of fs))) (keys_without k (held_of es)) (IsPermutation-map (λ (h : Held). h.key) (held_of fs) (held_without k (held_of es)) p)

-- what is held then was held, and isn't the key
still_held : (k p : Key) (es fs : List (Key × Slot)) → IsPermutation (held_of fs) (held_without k (held_of es)) → is_among p (keys_held (held_of fs)) ≡ true → (same_key k p ≡ false) × (is_among p (keys_held (held_of es)) ≡ true)
still_held k p es fs perm h = parts (same_key k p) (is_among p (keys_held (held_of es))) (sym (among_without k p (keys_held (held_of es))) ∙ sym (list_any-IsPermutation (same_key p) (keys_held (held_of fs)) (waiting_without (keys_held (held_of es)) k) (let_go_keys k es fs perm)) ∙ h)
  where
    parts : (s t : Bool) → (not s && t) ≡ true → (s ≡ false) × (t ≡ true)
    parts true t e = absurd (true≢false (sym e))
    parts false t e = (refl, e)

pub free_queue : (k : Key) (a : LineView) (es fs : List (Key × Slot)) → IsQueue a es → IsPermutation (held_of fs) (held_without k (held_of es)) → length fs + 1 ≡ length es → IsQueue a fs
free_queue k a es fs q perm long =
    let at = q.apart 0 in
    record {
      apart = apart_from a.keys a.ranks (held_of fs) at.waiting (distinct_after k (keys_held (held_of es)) (keys_held (held_of fs)) at.held (let_go_keys k es fs perm)) (λ p h. apart_in a.keys a.ranks (held_of es) q.apart p (still_held k p es fs perm h).1);
      room = omega (arith, q.room, long);
    }

pub back_queue : (k : Key) (a b : LineView) (es fs : List (Key × Slot)) → IsQueue a es → IsPermutation (held_of fs) (held_without k (held_of es)) → length fs + 1 ≡ length es → b.keys ≡ a.keys ++ k ∷ [] → a.room ≤ b.room + 1
    → is_among k a.keys ≡ false → IsQueue b fs
back_queue k a b es fs q perm long keys room absent =
    let m = free_queue k a es fs q perm long in
    let at = m.apart 0 in
    record {
      apart = subst (λ l. (n : ℕ) → AreApart (view l b.ranks (held_of fs) n)) (sym keys)
          (apart_from (a.keys ++ k ∷ []) b.ranks (held_of fs) (IsDistinct-push key_laws a.keys k at.waiting absent) at.held
          (λ p h. among_push p k a.keys ∙ (λ i. apart_in a.keys a.ranks (held_of fs) m.apart p h i || (same_turned p k ∙ (still_held k p es fs perm h).0) i)));
      room = omega (arith, q.room, room, long);
    }

-- a key that is held doesn't wait
pub held_absent : (k : Key) (a : LineView) (es : List (Key × Slot)) → IsQueue a es → is_some (find (λ (h : Held). same_key k h.key) (held_of es)) ≡ true → is_among k a.keys ≡ false
held_absent k a es q h = (q.apart 0).apart k h

-- ---- whether a key was marked since

none_marked : (k : Key) (hs : List Held) → is_among k (keys_held hs) ≡ false → is_among k (map (λ (h : Held). h.key) (filter (λ (h : Held). h.again) hs)) ≡ false
none_marked k [] h = refl
none_marked k (x ∷ xs) h = by x.again refl (same_key k x.key) refl (none_marked k xs)
  where
    by : (b : Bool) → x.again ≡ b → (t : Bool) → same_key k x.key ≡ t → (is_among k (keys_held xs) ≡ false → is_among k (map (λ (h : Held). h.key) (filter (λ (h : Held). h.again) xs)) ≡ false) → is_among k (map (λ (h : Held). h.key) (filter (λ (h : Held). h.again) (x ∷ xs))) ≡ false
    by b e true is rest = absurd (true≢false (sym (ap (λ t. t || is_among k (keys_held xs)) is) ∙ h))
    by true e false is rest =
        ap (λ b. is_among k (map (λ (h : Held). h.key) (cond b (x ∷ filter (λ (h : Held). h.again) xs) (filter (λ (h : Held). h.again) xs)))) e
        ∙ ap (λ t. t || is_among k (map (λ (h : Held). h.key) (filter (λ (h : Held). h.again) xs))) is ∙ rest (sym (ap (λ t. t || is_among k (keys_held xs)) is) ∙ h)
    by false e false is rest =
        ap (λ b. is_among k (map (λ (h : Held). h.key) (cond b (x ∷ filter (λ (h : Held). h.again) xs) (filter (λ (h : Held). h.again) xs)))) e
        ∙ rest (sym (ap (λ t. t || is_among k (keys_held xs)) is) ∙ h)

pub marked_is : (k : Key) (b : Bool) (hs : List Held) → IsDistinct same_key (keys_held hs) → option_map (λ (h : Held). h.again) (find (λ (h : Held). same_key k h.key) hs) ≡ Some b
    → is_among k (map (λ (h : Held). h.key) (filter (λ (h : Held). h.again) hs)) ≡ b
marked_is k b [] d h = absurd (true≢false (sym (ap is_some h)))
marked_is k b (x ∷ xs) d h = by x.again refl (same_key k x.key) refl (marked_is k b xs (IsDistinct-tail same_key x.key (keys_held xs) d))
  where
    found : (t : Bool) → same_key k x.key ≡ t → option_map (λ (h : Held). h.again) (cond t (Some x) (find (λ (h : Held). same_key k h.key) xs)) ≡ Some b
    found t is = sym (ap (λ t. option_map (λ (h : Held). h.again) (cond t (Some x) (find (λ (h : Held). same_key k h.key) xs))) is) ∙ h

    later : same_key k x.key ≡ true → is_among k (map (λ (h : Held). h.key) (filter (λ (h : Held). h.again) xs)) ≡ false
    later is = none_marked k xs (ap (λ y. is_among y (keys_held xs)) (same_key_is k x.key is) ∙ head_absent x.key (keys_held xs) (IsDistinct-head same_key x.key (keys_held xs) d))

    by : (a : Bool) → x.again ≡ a → (t : Bool) → same_key k x.key ≡ t
        → (option_map (λ (h : Held). h.again) (find (λ (h : Held). same_key k h.key) xs) ≡ Some b → is_among k (map (λ (h : Held). h.key) (filter (λ (h : Held). h.again) xs)) ≡ b)
        → is_among k (map (λ (h : Held). h.key) (filter (λ (h : Held). h.again) (x ∷ xs))) ≡ b
    by true e true is rest =
        ap (λ b. is_among k (map (λ (h : Held). h.key) (cond b (x ∷ filter (λ (h : Held). h.again) xs) (filter (λ (h : Held). h.again) xs)))) e
        ∙ ap (λ t. t || is_among k (map (λ (h : Held). h.key) (filter (λ (h : Held). h.again) xs))) is ∙ sym e ∙ ap (λ o. unwrap_or o b) (found true is)
    by false e true is rest =
        ap (λ b. is_among k (map (λ (h : Held). h.key) (cond b (x ∷ filter (λ (h : Held). h.again) xs) (filter (λ (h : Held). h.again) xs)))) e
        ∙ later is ∙ sym e ∙ ap (λ o. unwrap_or o b) (found true is)
    by true e false is rest =
        ap (λ b. is_among k (map (λ (h : Held). h.key) (cond b (x ∷ filter (λ (h : Held). h.again) xs) (filter (λ (h : Held). h.again) xs)))) e
        ∙ ap (λ t. t || is_among k (map (λ (h : Held). h.key) (filter (λ (h : Held). h.again) xs))) is ∙ rest (found false is)
    by false e false is rest =
        ap (λ b. is_among k (map (λ (h : Held). h.key) (cond b (x ∷ filter (λ (h : Held). h.again) xs) (filter (λ (h : Held). h.again) xs)))) e
        ∙ rest (found false is)

-- where a key waits that is let go
pub waits_after : (k : Key) (again marked r : Bool) (q : QueueView) → IsDistinct same_key (keys_held q.held) → option_map (λ (h : Held). h.again) (find (λ (h : Held). same_key k h.key) q.held) ≡ Some marked
    → (again || marked) ≡ r → waiting_after q k again ≡ (if r then q.waiting ++ k ∷ [] else q.waiting)
waits_after k again marked r q d h is = ap (λ t. if again || t then q.waiting ++ k ∷ [] else q.waiting) (marked_is k marked q.held d h) ∙ ap (λ t. if t then q.waiting ++ k ∷ [] else q.waiting) is

-- ---- what a release does

module _ (k : Key) (again marked : Bool) (a : LineView) (es fs : List (Key × Slot)) (m n : ℕ) (q : IsQueue a es) (h : option_map (λ (h : Held). h.again) (find (λ (h : Held). same_key k h.key) (held_of es)) ≡ Some marked)
    (held : IsPermutation (held_of fs) (held_without k (held_of es))) (long : length fs + 1 ≡ length es) (room : m ≤ n) where
  pub back : (b : LineView) → (again || marked) ≡ true → b.keys ≡ a.keys ++ k ∷ [] → b.ranks ≡ a.ranks → a.room ≤ b.room + 1 → Releases k again (seen a es m) (seen b fs n)
  back b is keys ranks more = record {
    waiting = keys ∙ sym (waits_after k again marked true (seen a es m) (q.apart m).held h is);
    ranks = ranks;
    held = held;
    spare = omega (arith, long, more, room, q.room);
  }

  pub free : (again || marked) ≡ false → Releases k again (seen a es m) (seen a fs n)
  free is = record {
    waiting = sym (waits_after k again marked false (seen a es m) (q.apart m).held h is);
    ranks = refl;
    held = held;
    spare = omega (arith, long, room, q.room);
  }

pub released_back : (k : Key) (again marked : Bool) (a b : LineView) (es fs : List (Key × Slot)) (m n : ℕ) → IsQueue a es → option_map (λ (h : Held). h.again) (find (λ (h : Held). same_key k h.key) (held_of es)) ≡ Some marked
    → (again || marked) ≡ true → b.keys ≡ a.keys ++ k ∷ [] → b.ranks ≡ a.ranks → a.room ≤ b.room + 1 → IsPermutation (held_of fs) (held_without k (held_of es)) → length fs + 1 ≡ length es → m ≤ n → Releases k again (seen a es m) (seen b fs n)
released_back k again marked a b es fs m n q h is keys ranks more held long room = back k again marked a es fs m n q h held long room b is keys ranks more

pub released_free : (k : Key) (again marked : Bool) (a : LineView) (es fs : List (Key × Slot)) (m n : ℕ) → IsQueue a es → option_map (λ (h : Held). h.again) (find (λ (h : Held). same_key k h.key) (held_of es)) ≡ Some marked
    → (again || marked) ≡ false → IsPermutation (held_of fs) (held_without k (held_of es)) → length fs + 1 ≡ length es → m ≤ n → Releases k again (seen a es m) (seen a fs n)
released_free k again marked a es fs m n q h is held long room = free k again marked a es fs m n q h held long room is
