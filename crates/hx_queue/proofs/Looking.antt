-- What look-ups in a queue answer after its calls.
use Rattle.std.proofs.Common.{◌≡◌, ◌+◌, ℕ, Bool, true, false, not, cond, ◌&&◌, ◌||◌, List, [], ◌∷◌, ◌++◌, map, filter, length, refl, sym, ap, subst, ◌∙◌, Option, Some, None, is_some, if◌then◌else◌}
use Rattle.std.specs.Prelude.{find, option_map}
use Rattle.std.specs.List.{IsDistinct, list_any}
use Rattle.std.proofs.lemmas.List.{length-append}
use Rattle.std.proofs.lemmas.List.Folds.{list_any-append}
use Rattle.std.proofs.lemmas.List.Sorted.{IsPermutation-sym, IsPermutation-map, list_any-IsPermutation}
use Rattle.std.specs.Map.{keys_of, lookup}
use Rattle.indexmap.proofs.MapLemmas.{lookup_permutation}
use Rattle.hx_model.specs.Keys.{same_key, is_among}
use Rattle.hx_model.specs.declared.key.Key.{Key}
use Rattle.hx_queue.specs.Kept.{Held, QueueView, AreApart, Marks, Holds, Releases, again_in, held_without, keys_held, is_waiting, is_held, holding_of, marked_again}
use Rattle.hx_line.specs.Line.{waiting_without}
use Rattle.hx_model.proofs.SameKeys.{key_laws, same_key_is, same_turned}
use Rattle.hx_line.proofs.Sets.{among_without}
use Rattle.hx_queue.proofs.Queueing.{is_held_among, keys_again, keys_without}

-- ---- keys and tests

or_false : (b : Bool) → (b || false) ≡ b
or_false true = refl
or_false false = refl

and_turned : (a b : Bool) → (a && b) ≡ (b && a)
and_turned true true = refl
and_turned true false = refl
and_turned false true = refl
and_turned false false = refl

among_push : (q k : Key) (keys : List Key) → is_among q (keys ++ k ∷ []) ≡ (is_among q keys || same_key q k)
among_push q k keys = list_any-append (same_key q) keys (k ∷ []) ∙ ap (λ b. is_among q keys || b) (or_false (same_key q k))

-- the same key has the same answers
one_key : (f : Key → Bool) (q k : Key) (b : Bool) → same_key q k ≡ b → (b && f k) ≡ (b && f q)
one_key f q k true e = ap f (sym (same_key_is q k e))
one_key f q k false e = refl

-- a key is held and was marked since
pub was_marked : (k : Key) (hs : List Held) → is_among k (map (λ (h : Held). h.key) (filter (λ (h : Held). h.again) hs)) ≡ list_any (λ (h : Held). same_key k h.key && h.again) hs
was_marked k [] = refl
was_marked k (h ∷ hs) = by h.again refl (was_marked k hs)
  where
    by : (b : Bool) → h.again ≡ b → is_among k (map (λ (h : Held). h.key) (filter (λ (h : Held). h.again) hs)) ≡ list_any (λ (h : Held). same_key k h.key && h.again) hs
        → is_among k (map (λ (h : Held). h.key) (filter (λ (h : Held). h.again) (h ∷ hs))) ≡ list_any (λ (h : Held). same_key k h.key && h.again) (h ∷ hs)
    by true is later =
        ap (λ b. is_among k (map (λ (h : Held). h.key) (cond b (h ∷ filter (λ (h : Held). h.again) hs) (filter (λ (h : Held). h.again) hs)))) is
        ∙ ap (λ t. same_key k h.key || t) later
        ∙ ap (λ t. t || list_any (λ (h : Held). same_key k h.key && h.again) hs) (and_true (same_key k h.key) ∙ ap (λ b. same_key k h.key && b) (sym is))
      where
        and_true : (b : Bool) → b ≡ (b && true)
        and_true true = refl
        and_true false = refl
    by false is later =
        ap (λ b. is_among k (map (λ (h : Held). h.key) (cond b (h ∷ filter (λ (h : Held). h.again) hs) (filter (λ (h : Held). h.again) hs)))) is
        ∙ later
        ∙ ap (λ t. t || list_any (λ (h : Held). same_key k h.key && h.again) hs) (and_false (same_key k h.key) ∙ ap (λ b. same_key k h.key && b) (sym is))
      where
        and_false : (b : Bool) → false ≡ (b && false)
        and_false true = refl
        and_false false = refl

-- the keys that are held, as entries
abbrev pair : Held → Key × Held
pair h = (h.key, h)

abbrev pairs : List Held → List (Key × Held)
pairs hs = map pair hs

by_keys : (q : Key) (hs : List Held) → lookup (same_key q) (pairs hs) ≡ find (λ (h : Held). same_key q h.key) hs
by_keys q [] = refl
by_keys q (h ∷ hs) = ap (cond (same_key q h.key) (Some h)) (by_keys q hs)

keys_pairs : (hs : List Held) → keys_of (pairs hs) ≡ keys_held hs
keys_pairs [] = refl
keys_pairs (h ∷ hs) = ap (λ l. h.key ∷ l) (keys_pairs hs)

-- ---- after a mark

module _ (k : Key) (old new : QueueView) (m : Marks k old new) where
  -- the key waits where nobody holds it
  pub waits_marked : (q : Key) → is_waiting new q ≡ (is_waiting old q || (same_key q k && not (is_held old q)))
  waits_marked q = ap (is_among q) m.waiting ∙ by (is_held old k) refl (is_waiting old k) refl ∙ ap (λ t. is_waiting old q || t) (one_key (λ y. not (is_held old y)) q k (same_key q k) refl)
    where
      by : (h : Bool) → is_held old k ≡ h → (w : Bool) → is_waiting old k ≡ w → is_among q (if is_held old k || is_waiting old k then old.waiting else old.waiting ++ k ∷ []) ≡ (is_waiting old q || (same_key q k && not (is_held old k)))
      by true e w f =
          ap (λ t. is_among q (if t || is_waiting old k then old.waiting else old.waiting ++ k ∷ [])) e
          ∙ sym (ap (λ t. is_waiting old q || (same_key q k && not t)) e ∙ ap (λ t. is_waiting old q || t) (and_turned (same_key q k) false) ∙ or_false (is_waiting old q))
      by false e true f =
          (λ i. is_among q (if e i || f i then old.waiting else old.waiting ++ k ∷ []))
          ∙ there (same_key q k) refl ∙ sym (ap (λ t. is_waiting old q || (same_key q k && not t)) e)
        where
          there : (t : Bool) → same_key q k ≡ t → is_waiting old q ≡ (is_waiting old q || (same_key q k && true))
          there true is = let w = ap (is_waiting old) (same_key_is q k is) ∙ f in w ∙ sym (ap (λ t. t || (same_key q k && true)) w)
          there false is = sym (ap (λ t. is_waiting old q || (t && true)) is ∙ or_false (is_waiting old q))
      by false e false f =
          (λ i. is_among q (if e i || f i then old.waiting else old.waiting ++ k ∷ [])) ∙ among_push q k old.waiting
          ∙ ap (λ t. is_waiting old q || t) (and_turned true (same_key q k)) ∙ sym (ap (λ t. is_waiting old q || (same_key q k && not t)) e)

  -- the same keys are held
  pub held_marked : (q : Key) → is_held new q ≡ is_held old q
  held_marked q = ap (λ hs. is_some (find (λ (h : Held). same_key q h.key) hs)) m.held ∙ is_held_among q (again_in k old.held) ∙ ap (is_among q) (keys_again k old.held) ∙ sym (is_held_among q old.held)

  -- by the same workers
  pub holding_marked : (q : Key) → holding_of new q ≡ option_map (λ (h : Held). record h { again = same_key k h.key || h.again }) (holding_of old q)
  holding_marked q = ap (find (λ (h : Held). same_key q h.key)) m.held ∙ through old.held
    where
      through : (hs : List Held) → find (λ (h : Held). same_key q h.key) (again_in k hs) ≡ option_map (λ (h : Held). record h { again = same_key k h.key || h.again }) (find (λ (h : Held). same_key q h.key) hs)
      through [] = refl
      through (h ∷ hs) = elim (same_key q h.key) as (λ b. cond b (Some (record h { again = same_key k h.key || h.again })) (find (λ (h : Held). same_key q h.key) (again_in k hs)) ≡ option_map (λ (h : Held). record h { again = same_key k h.key || h.again }) (cond b (Some h) (find (λ (h : Held). same_key q h.key) hs))) [ true ↦ refl | false ↦ through hs ]

  -- the key was marked where it is held
  pub again_marked : (q : Key) → is_among q (marked_again new) ≡ (is_among q (marked_again old) || (same_key q k && is_held old q))
  again_marked q =
      was_marked q new.held ∙ ap (list_any (λ (h : Held). same_key q h.key && h.again)) m.held ∙ through old.held
      ∙ (λ i. sym (was_marked q old.held) i || (same_key q k && sym (is_held_among q old.held) i))
    where
      step : (a s t u r : Bool) (x : Bool) → (a ≡ true → s ≡ t) → ((a && (s || u)) || (r || (t && x))) ≡ (((a && u) || r) || (t && (a || x)))
      step true s true u r x h = ap (λ b. (true && (b || u)) || (r || x)) (h refl) ∙ turned ((u || r))
        where
          turned : (b : Bool) → true ≡ (b || true)
          turned true = refl
          turned false = refl
      step true s false u r x h = ap (λ b. (b || u) || (r || false)) (h refl) ∙ assoc u r
        where
          assoc : (u r : Bool) → (u || (r || false)) ≡ ((u || r) || false)
          assoc true r = refl
          assoc false r = refl
      step false s t u r x h = refl

      through : (hs : List Held) → list_any (λ (h : Held). same_key q h.key && h.again) (again_in k hs) ≡ (list_any (λ (h : Held). same_key q h.key && h.again) hs || (same_key q k && is_among q (keys_held hs)))
      through [] = sym (and_turned (same_key q k) false)
      through (h ∷ hs) =
          ap (λ t. (same_key q h.key && (same_key k h.key || h.again)) || t) (through hs)
          ∙ step (same_key q h.key) (same_key k h.key) (same_key q k) h.again (list_any (λ (h : Held). same_key q h.key && h.again) hs) (is_among q (keys_held hs))
          (λ e. ap (same_key k) (sym (same_key_is q h.key e)) ∙ same_turned k q)

-- ---- after a hold

module _ (worker : ℕ) (k : Key) (old new : QueueView) (m : Holds worker k old new) where
  -- the key doesn't wait
  pub waits_held : (q : Key) → is_waiting new q ≡ (is_waiting old q && not (same_key q k))
  waits_held q =
      list_any-IsPermutation (same_key q) new.waiting (waiting_without old.waiting k) m.waiting ∙ among_without k q old.waiting
      ∙ and_turned (not (same_key k q)) (is_waiting old q) ∙ ap (λ b. is_waiting old q && not b) (same_turned k q)

  pub held_held : (q : Key) → is_held new q ≡ (is_held old q || same_key q k)
  held_held q =
      ap (λ hs. is_some (find (λ (h : Held). same_key q h.key) hs)) m.held ∙ is_held_among q (old.held ++ record { key = k; worker = worker; again = false } ∷ []) ∙ ap (is_among q) (keys old.held)
      ∙ among_push q k (keys_held old.held) ∙ ap (λ b. b || same_key q k) (sym (is_held_among q old.held))
    where
      keys : (hs : List Held) → keys_held (hs ++ record { key = k; worker = worker; again = false } ∷ []) ≡ keys_held hs ++ k ∷ []
      keys [] = refl
      keys (h ∷ hs) = ap (λ l. h.key ∷ l) (keys hs)

  -- the worker holds it, where nobody did
  pub holding_held : (q : Key) → is_held old k ≡ false → holding_of new q ≡ (if same_key q k then Some (record { key = k; worker = worker; again = false }) else holding_of old q)
  holding_held q free = ap (find (λ (h : Held). same_key q h.key)) m.held ∙ through old.held ∙ by (same_key q k) refl
    where
      through : (hs : List Held) → find (λ (h : Held). same_key q h.key) (hs ++ record { key = k; worker = worker; again = false } ∷ []) ≡ cond (is_some (find (λ (h : Held). same_key q h.key) hs)) (find (λ (h : Held). same_key q h.key) hs) (cond (same_key q k) (Some (record { key = k; worker = worker; again = false })) None)
      through [] = refl
      through (h ∷ hs) = elim (same_key q h.key) as (λ b. cond b (Some h) (find (λ (h : Held). same_key q h.key) (hs ++ record { key = k; worker = worker; again = false } ∷ [])) ≡ cond (is_some (cond b (Some h) (find (λ (h : Held). same_key q h.key) hs))) (cond b (Some h) (find (λ (h : Held). same_key q h.key) hs)) (cond (same_key q k) (Some (record { key = k; worker = worker; again = false })) None)) [ true ↦ refl | false ↦ through hs ]

      none : (o : Option Held) → o ≡ cond (is_some o) o None
      none None = refl
      none (Some h) = refl

      by : (b : Bool) → same_key q k ≡ b → cond (is_held old q) (holding_of old q) (cond (same_key q k) (Some (record { key = k; worker = worker; again = false })) None) ≡ (if same_key q k then Some (record { key = k; worker = worker; again = false }) else holding_of old q)
      by true e =
          ap (λ b. cond b (holding_of old q) (cond (same_key q k) (Some (record { key = k; worker = worker; again = false })) None)) (ap (is_held old) (same_key_is q k e) ∙ free)
          ∙ ap (λ b. cond b (Some (record { key = k; worker = worker; again = false })) None) e
          ∙ sym (ap (λ b. if b then Some (record { key = k; worker = worker; again = false }) else holding_of old q) e)
      by false e =
          ap (λ b. cond (is_held old q) (holding_of old q) (cond b (Some (record { key = k; worker = worker; again = false })) None)) e
          ∙ sym (none (holding_of old q))
          ∙ sym (ap (λ b. if b then Some (record { key = k; worker = worker; again = false }) else holding_of old q) e)

  -- and it wasn't marked since
  pub again_held : (q : Key) → is_among q (marked_again new) ≡ is_among q (marked_again old)
  again_held q =
      was_marked q new.held ∙ ap (list_any (λ (h : Held). same_key q h.key && h.again)) m.held
      ∙ list_any-append (λ (h : Held). same_key q h.key && h.again) old.held (record { key = k; worker = worker; again = false } ∷ [])
      ∙ ap (λ b. list_any (λ (h : Held). same_key q h.key && h.again) old.held || (b || false)) (and_turned (same_key q k) false)
      ∙ or_false (list_any (λ (h : Held). same_key q h.key && h.again) old.held) ∙ sym (was_marked q old.held)

  pub count_held : length new.held ≡ length old.held + 1
  count_held = ap length m.held ∙ length-append old.held (record { key = k; worker = worker; again = false } ∷ [])

-- ---- after a release

module _ (k : Key) (again : Bool) (old new : QueueView) (m : Releases k again old new) where
  -- the key waits where it was marked, or is to wait
  pub waits_released : (q : Key) → is_waiting new q ≡ (is_waiting old q || (same_key q k && (again || is_among q (marked_again old))))
  waits_released q = ap (is_among q) m.waiting ∙ by (again || is_among k (marked_again old)) refl ∙ ap (λ t. is_waiting old q || t) (one_key (λ y. again || is_among y (marked_again old)) q k (same_key q k) refl)
    where
      by : (b : Bool) → (again || is_among k (marked_again old)) ≡ b → is_among q (if again || is_among k (marked_again old) then old.waiting ++ k ∷ [] else old.waiting) ≡ (is_waiting old q || (same_key q k && (again || is_among k (marked_again old))))
      by true e =
          ap (λ b. is_among q (if b then old.waiting ++ k ∷ [] else old.waiting)) e ∙ among_push q k old.waiting ∙ ap (λ t. is_waiting old q || t) (and_turned true (same_key q k))
          ∙ sym (ap (λ b. is_waiting old q || (same_key q k && b)) e)
      by false e =
          ap (λ b. is_among q (if b then old.waiting ++ k ∷ [] else old.waiting)) e
          ∙ sym (ap (λ b. is_waiting old q || (same_key q k && b)) e ∙ ap (λ t. is_waiting old q || t) (and_turned (same_key q k) false) ∙ or_false (is_waiting old q))

  pub held_released : (q : Key) → is_held new q ≡ (is_held old q && not (same_key q k))
  held_released q =
      is_held_among q new.held
      ∙ list_any-IsPermutation (same_key q) (keys_held new.held) (keys_held (held_without k old.held)) (IsPermutation-map (λ (h : Held). h.key) new.held (held_without k old.held) m.held)
      ∙ ap (is_among q) (keys_without k old.held) ∙ among_without k q (keys_held old.held)
      ∙ and_turned (not (same_key k q)) (is_among q (keys_held old.held))
      ∙ (λ i. sym (is_held_among q old.held) i && not (same_turned k q i))

  -- the other keys stay marked
  pub again_released : (q : Key) → is_among q (marked_again new) ≡ (is_among q (marked_again old) && not (same_key q k))
  again_released q =
      was_marked q new.held ∙ list_any-IsPermutation (λ (h : Held). same_key q h.key && h.again) new.held (held_without k old.held) m.held
      ∙ through old.held ∙ ap (λ b. b && not (same_key q k)) (sym (was_marked q old.held))
    where
      own : (h : Held) (s t : Bool) → same_key k h.key ≡ s → same_key q h.key ≡ t → (cond (not s) (t && h.again) false) ≡ ((t && h.again) && not (same_key q k))
      own h true true e f = sym (ap (λ b. h.again && not b) (ap (same_key q) (same_key_is k h.key e) ∙ f) ∙ and_turned h.again false)
      own h true false e f = refl
      own h false true e f = and_turned true h.again ∙ sym (ap (λ b. h.again && not b) (same_turned q k ∙ ap (same_key k) (same_key_is q h.key f) ∙ e))
      own h false false e f = refl

      spread : (a b c : Bool) → ((a && c) || (b && c)) ≡ ((a || b) && c)
      spread true b true = refl
      spread true b false = and_turned b false
      spread false b c = refl

      part : (b : Bool) (h : Held) (hs : List Held) → list_any (λ (h : Held). same_key q h.key && h.again) (cond b (h ∷ hs) hs) ≡ (cond b (same_key q h.key && h.again) false || list_any (λ (h : Held). same_key q h.key && h.again) hs)
      part true h hs = refl
      part false h hs = refl

      through : (hs : List Held) → list_any (λ (h : Held). same_key q h.key && h.again) (held_without k hs) ≡ (list_any (λ (h : Held). same_key q h.key && h.again) hs && not (same_key q k))
      through [] = refl
      through (h ∷ hs) =
          part (not (same_key k h.key)) h (held_without k hs)
          ∙ (λ i. own h (same_key k h.key) (same_key q h.key) refl refl i || through hs i)
          ∙ spread (same_key q h.key && h.again) (list_any (λ (h : Held). same_key q h.key && h.again) hs) (not (same_key q k))

  -- the other keys are held as before
  pub holding_released : AreApart new → (q : Key) → holding_of new q ≡ (if same_key q k then None else holding_of old q)
  holding_released apart q =
      sym (by_keys q new.held)
      ∙ lookup_permutation key_laws (pairs (held_without k old.held)) (pairs new.held) (IsPermutation-map pair (held_without k old.held) new.held (IsPermutation-sym new.held (held_without k old.held) m.held))
      (subst (IsDistinct same_key) (sym (keys_pairs new.held)) apart.held) (same_key q) (key_laws.congr q)
      ∙ by_keys q (held_without k old.held) ∙ through old.held
    where
      own : (h : Held) (s t : Bool) (rest : Option Held) → same_key k h.key ≡ s → same_key q h.key ≡ t → cond (not s) (cond t (Some h) (if same_key q k then None else rest)) (if same_key q k then None else rest) ≡ (if same_key q k then None else cond t (Some h) rest)
      own h true true rest e f = let is = ap (same_key q) (same_key_is k h.key e) ∙ f in ap (λ b. if b then None else rest) is ∙ sym (ap (λ b. if b then None else Some h) is)
      own h true false rest e f = refl
      own h false true rest e f = sym (ap (λ b. if b then None else Some h) (same_turned q k ∙ ap (same_key k) (same_key_is q h.key f) ∙ e))
      own h false false rest e f = refl

      same_none : (b : Bool) → find (λ (h : Held). same_key q h.key) [] ≡ (if b then None else None)
      same_none true = refl
      same_none false = refl

      part : (b : Bool) (h : Held) (hs : List Held) → find (λ (h : Held). same_key q h.key) (cond b (h ∷ hs) hs) ≡ cond b (cond (same_key q h.key) (Some h) (find (λ (h : Held). same_key q h.key) hs)) (find (λ (h : Held). same_key q h.key) hs)
      part true h hs = refl
      part false h hs = refl

      through : (hs : List Held) → find (λ (h : Held). same_key q h.key) (held_without k hs) ≡ (if same_key q k then None else find (λ (h : Held). same_key q h.key) hs)
      through [] = same_none (same_key q k)
      through (h ∷ hs) =
          part (not (same_key k h.key)) h (held_without k hs)
          ∙ ap (λ o. cond (not (same_key k h.key)) (cond (same_key q h.key) (Some h) o) o) (through hs)
          ∙ own h (same_key k h.key) (same_key q h.key) (find (λ (h : Held). same_key q h.key) hs) refl refl
