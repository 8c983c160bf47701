-- The hands of workers: which one a worker has, and the others.
use Rattle.std.proofs.Common.{◌≡◌, ◌+◌, ◌<◌, ◌≤◌, ℕ, suc, Bool, true, false, not, cond, ◌&&◌, ◌||◌, List, [], ◌∷◌, ◌++◌, length, slice_index_or, refl, sym, ap, subst, ◌∙◌, true≢false, arith, nat_lt, position, Option, Some, None, is_some}
use Rattle.std.specs.Prelude.{find, ◌==◌, option_map, IsSomeAnd}
use Rattle.std.specs.List.{list_any, AllByRecursion, AllPairs, remove, position_or_len}
use Rattle.std.proofs.lemmas.Bool.{eqb-true, eq-eqb, ltb-false, ltb-true}
use Rattle.std.proofs.lemmas.List.{take-map, drop-map, map-append, length-map}
use Rattle.std.proofs.lemmas.List.Quantifiers.{position-Some}
use Rattle.hx_model.specs.Hands.{Hand, hand_of, without_hand}
use Rattle.hx_model.specs.Keys.{same_key}
use Rattle.hx_model.specs.declared.key.Key.{Key}
use Rattle.hx_reconcile.specs.Briefs.{hand_by}
use Rattle.hx_queue.specs.Tied.{hand_in, hands_of}
use Rattle.hx_queue.specs.declared.workers.Handed.{Handed}
use Rattle.hx_queue.proofs.Finding.{first_of, others_of, all_at_found, inside, none_kept, rest_is}
use Rattle.hx_model.proofs.SameKeys.{same_key_is, same_key_itself, same_turned}

abbrev pub AreWorkersApart : List Hand → Type 0
AreWorkersApart hands = AllPairs (λ (a b : Hand). (a.worker == b.worker) ≡ false) hands

abbrev pub AreKeysApart : List Hand → Type 0
AreKeysApart hands = AllPairs (λ (a b : Hand). same_key a.key b.key ≡ false) hands

-- ---- numbers

-- numbers that aren't the same aren't both a third
pub not_both : (m n w : ℕ) → (m == n) ≡ false → (m == w) ≡ true → (n == w) ≡ false
not_both m n w h e = by (n == w) refl
  where
    by : (b : Bool) → (n == w) ≡ b → b ≡ false
    by true is = absurd (true≢false (sym (eq-eqb m n (eqb-true m w e ∙ sym (eqb-true n w is))) ∙ h))
    by false is = refl

-- ---- a worker's place

pub hand_at_place : (w : ℕ) (hands : List Handed) → hand_of w (hands_of hands) ≡ option_map hand_in (find (λ (h : Handed). h.worker == w) hands)
hand_at_place w [] = refl
hand_at_place w (h ∷ hands) = elim (h.worker == w) as (λ b. cond b (Some (hand_in h)) (hand_of w (hands_of hands)) ≡ option_map hand_in (cond b (Some h) (find (λ (h : Handed). h.worker == w) hands))) [
  | true ↦ refl
  | false ↦ hand_at_place w hands
]

pub place_in_hands : (w : ℕ) (hands : List Handed) → position_or_len (λ (h : Hand). h.worker == w) (hands_of hands) ≡ position_or_len (λ (h : Handed). h.worker == w) hands
place_in_hands w [] = refl
place_in_hands w (h ∷ hands) = ap (λ n. cond (not (h.worker == w)) (1 + n) 0) (place_in_hands w hands)

placed : (b : Bool) (n i : ℕ) → cond b (Some n) None ≡ Some i → (b ≡ true) × (n ≡ i)
placed true n i e = (refl, ap (λ (o : Option ℕ). elim o [ Some m ↦ m | None ↦ 0 ]) e)
placed false n i e = absurd (true≢false (sym (ap is_some e)))

not_placed : (b : Bool) (n : ℕ) → cond b (Some n) None ≡ None → b ≡ false
not_placed true n e = absurd (true≢false (ap is_some e))
not_placed false n e = refl

found_in : {X : Type 0} (p : X → Bool) (xs : List X) (d : X) → position_or_len p xs < length xs → find p xs ≡ Some (slice_index_or xs (position_or_len p xs) d)
found_in p [] d within = absurd (omega arith)
found_in {X} p (x ∷ xs) d within = by (p x) within (found_in p xs d)
  where
    by : (b : Bool) → cond (not b) (1 + position_or_len p xs) 0 < length (x ∷ xs) → (position_or_len p xs < length xs → find p xs ≡ Some (slice_index_or xs (position_or_len p xs) d))
        → cond b (Some x) (find p xs) ≡ Some (slice_index_or (x ∷ xs) (cond (not b) (1 + position_or_len p xs) 0) d)
    by true within rest = refl
    by false within rest =
        let n : 1 + position_or_len p xs ≡ suc (position_or_len p xs) = omega arith in
        rest (omega arith) ∙ sym (ap (λ m. Some (slice_index_or (x ∷ xs) m d)) n)

missed_in : {X : Type 0} (p : X → Bool) (xs : List X) → length xs ≤ position_or_len p xs → find p xs ≡ None
missed_in p [] past = refl
missed_in {X} p (x ∷ xs) past = by (p x) past (missed_in p xs)
  where
    by : (b : Bool) → length (x ∷ xs) ≤ cond (not b) (1 + position_or_len p xs) 0 → (length xs ≤ position_or_len p xs → find p xs ≡ None) → cond b (Some x) (find p xs) ≡ None
    by true past rest = absurd (omega arith)
    by false past rest = rest (omega arith)

-- the hand at a worker's place is that worker's
pub found_hand : (w i : ℕ) (hands : List Handed) (x : Handed) → position (λ (h : Handed). h.worker == w) hands ≡ Some i → x ≡ slice_index_or hands i x → hand_of w (hands_of hands) ≡ Some (hand_by w x.brief)
found_hand w i hands x place is =
    let at = position-Some (λ (h : Handed). h.worker == w) hands i x place in
    let parts = placed (nat_lt (position_or_len (λ (h : Handed). h.worker == w) hands) (length hands)) (position_or_len (λ (h : Handed). h.worker == w) hands) i place in
    let own : x.worker ≡ w = eqb-true x.worker w (ap (λ (h : Handed). h.worker == w) is ∙ at.1) in
    hand_at_place w hands
    ∙ ap (option_map hand_in) (found_in (λ (h : Handed). h.worker == w) hands x (subst (λ n. n < length hands) (sym parts.1) at.0) ∙ ap (λ n. Some (slice_index_or hands n x)) parts.1 ∙ ap Some (sym is))
    ∙ ap (λ n. Some (hand_by n x.brief)) own

pub no_hand : (w : ℕ) (hands : List Handed) → position (λ (h : Handed). h.worker == w) hands ≡ None → hand_of w (hands_of hands) ≡ None
no_hand w hands place =
    let past = not_placed (nat_lt (position_or_len (λ (h : Handed). h.worker == w) hands) (length hands)) (position_or_len (λ (h : Handed). h.worker == w) hands) place in
    hand_at_place w hands ∙ ap (option_map hand_in) (missed_in (λ (h : Handed). h.worker == w) hands (ltb-false _ _ past))

-- ---- without a hand

removed_hands : (hands : List Handed) (i : ℕ) → hands_of (remove hands i) ≡ remove (hands_of hands) i
removed_hands hands i = map-append hand_in _ _ ∙ (λ j. sym (take-map hand_in i hands) j ++ sym (drop-map hand_in (suc i) hands) j)

pub hands_left : (w i : ℕ) (hands : List Handed) → AreWorkersApart (hands_of hands) → position (λ (h : Handed). h.worker == w) hands ≡ Some i → hands_of (remove hands i) ≡ without_hand w (hands_of hands)
hands_left w i hands apart place =
    let parts = placed (nat_lt (position_or_len (λ (h : Handed). h.worker == w) hands) (length hands)) (position_or_len (λ (h : Handed). h.worker == w) hands) i place in
    let there : position_or_len (λ (h : Hand). h.worker == w) (hands_of hands) ≡ i = place_in_hands w hands ∙ parts.1 in
    removed_hands hands i ∙ ap (remove (hands_of hands)) (sym there)
    ∙ rest_is (λ (h : Hand). h.worker == w) (hands_of hands) (λ a b d lt within. not_both _ _ w (apart a b d lt within)) (within (ltb-true _ _ parts.0))
  where
    within : position_or_len (λ (h : Handed). h.worker == w) hands < length hands → position_or_len (λ (h : Hand). h.worker == w) (hands_of hands) < length (hands_of hands)
    within h = subst (λ n. n < length (hands_of hands)) (sym (place_in_hands w hands)) (subst (λ n. position_or_len (λ (h : Handed). h.worker == w) hands < n) (sym (length-map hands hand_in)) h)

pub same_hands : (w : ℕ) (hands : List Hand) → hand_of w hands ≡ None → without_hand w hands ≡ hands
same_hands w hands none = none_kept (λ (h : Hand). h.worker == w) hands none

-- ---- a worker and its key

-- a hand with the key and the worker is the worker's
pub sole : (w : ℕ) (k : Key) (hands : List Hand) → AreWorkersApart hands → list_any (λ (h : Hand). same_key k h.key && (h.worker == w)) hands ≡ true → IsSomeAnd (hand_of w hands) (λ hand. hand.key ≡ k)
sole w k [] apart h = absurd (true≢false (sym h))
sole w k (x ∷ xs) apart h = by (x.worker == w) refl (same_key k x.key) refl h (sole w k xs (others_of (λ (a b : Hand). (a.worker == b.worker) ≡ false) x xs apart))
  where
    later : (ys : List Hand) → (x.worker == w) ≡ true → AllByRecursion (λ (y : Hand). (x.worker == y.worker) ≡ false) ys → list_any (λ (h : Hand). same_key k h.key && (h.worker == w)) ys ≡ false
    later [] own h = refl
    later (y ∷ ys) own h = ap (λ b. same_key k y.key && b || list_any (λ (h : Hand). same_key k h.key && (h.worker == w)) ys) (not_both x.worker y.worker w h.0 own) ∙ ap (λ b. b || list_any (λ (h : Hand). same_key k h.key && (h.worker == w)) ys) (and_no (same_key k y.key)) ∙ later ys own h.1
      where
        and_no : (b : Bool) → (b && false) ≡ false
        and_no true = refl
        and_no false = refl

    by : (b : Bool) → (x.worker == w) ≡ b → (c : Bool) → same_key k x.key ≡ c → (c && b || list_any (λ (h : Hand). same_key k h.key && (h.worker == w)) xs) ≡ true
        → (list_any (λ (h : Hand). same_key k h.key && (h.worker == w)) xs ≡ true → IsSomeAnd (hand_of w xs) (λ hand. hand.key ≡ k))
        → IsSomeAnd (cond b (Some x) (hand_of w xs)) (λ hand. hand.key ≡ k)
    by true own true is h rest = sym (same_key_is k x.key is)
    by true own false is h rest = absurd (true≢false (sym h ∙ later xs own (first_of (λ (a b : Hand). (a.worker == b.worker) ≡ false) x xs apart)))
    by false own true is h rest = rest h
    by false own false is h rest = rest h

-- among hands whose workers and keys differ, the key of a worker's hand is only there
pub only_there : (w : ℕ) (hand : Hand) (hands : List Hand) → AreWorkersApart hands → AreKeysApart hands → hand_of w hands ≡ Some hand
    → AllByRecursion (λ (h : Hand). (h.worker == w) ≡ same_key hand.key h.key) hands
only_there w hand [] apart keys e = tt
only_there w hand (x ∷ xs) apart keys e =
    by (x.worker == w) refl e
    (only_there w hand xs (others_of (λ (a b : Hand). (a.worker == b.worker) ≡ false) x xs apart) (others_of (λ (a b : Hand). same_key a.key b.key ≡ false) x xs keys))
    (first_of (λ (a b : Hand). (a.worker == b.worker) ≡ false) x xs apart) (first_of (λ (a b : Hand). same_key a.key b.key ≡ false) x xs keys)
  where
    later : (ys : List Hand) → (x.worker == w) ≡ true → x ≡ hand → AllByRecursion (λ (y : Hand). (x.worker == y.worker) ≡ false) ys → AllByRecursion (λ (y : Hand). same_key x.key y.key ≡ false) ys
        → AllByRecursion (λ (h : Hand). (h.worker == w) ≡ same_key hand.key h.key) ys
    later [] own is h g = tt
    later (y ∷ ys) own is h g = (not_both x.worker y.worker w h.0 own ∙ sym (ap (λ (z : Hand). same_key z.key y.key) (sym is) ∙ g.0), later ys own is h.1 g.1)

    by : (b : Bool) → (x.worker == w) ≡ b → cond b (Some x) (hand_of w xs) ≡ Some hand
        → (hand_of w xs ≡ Some hand → AllByRecursion (λ (h : Hand). (h.worker == w) ≡ same_key hand.key h.key) xs)
        → AllByRecursion (λ (y : Hand). (x.worker == y.worker) ≡ false) xs → AllByRecursion (λ (y : Hand). same_key x.key y.key ≡ false) xs
        → AllByRecursion (λ (h : Hand). (h.worker == w) ≡ same_key hand.key h.key) (x ∷ xs)
    by true own e rest first first_key =
        let is : x ≡ hand = inside x hand e in
        (own ∙ sym (ap (λ (z : Hand). same_key z.key x.key) (sym is) ∙ same_key_itself x.key), later xs own is first first_key)
    by false own e rest first first_key =
        (own ∙ sym (same_turned hand.key x.key ∙ all_at_found (λ (y : Hand). same_key x.key y.key ≡ false) (λ (h : Hand). h.worker == w) xs hand first_key e), rest e)
