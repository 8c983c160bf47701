-- Keys in line, and those behind them that were marked as a whole.
--     lined_all, lined_some           some of the keys came in line
--     lined_more                      one more did
use Rattle.std.proofs.Common.{◌≡◌, Bool, true, false, not, cond, ◌||◌, List, [], ◌∷◌, ◌++◌, filter, refl, sym, ap, ◌∙◌, true≢false}
use Rattle.std.specs.List.{IsDistinct}
use Rattle.std.proofs.lemmas.List.{append_assoc, append-nil}
use Rattle.std.proofs.lemmas.List.Folds.{list_any-append}
use Rattle.std.proofs.lemmas.List.Elements.{filter-append}
use Rattle.std.proofs.lemmas.Map.Keys.{IsDistinct-head, IsDistinct-tail}
use Rattle.hx_model.specs.Keys.{same_key, is_among}
use Rattle.hx_model.specs.declared.key.Key.{Key}
use Rattle.hx_model.proofs.SameKeys.{same_key_is, same_key_itself}
use Rattle.hx_line.specs.Line.{with_key}
use Rattle.hx_queue.specs.Spread.{waiting_in}
use Rattle.hx_queue.proofs.Beside.{among_waiting}
use Rattle.hx_line.proofs.Sets.{head_absent}

abbrev out_of : List Key → Key → Bool
out_of line k = not (is_among k line)

-- ---- keys among some

-- a key of some is among them
pub among_cons : (k : Key) (ks : List Key) → is_among k (k ∷ ks) ≡ true
among_cons k ks = ap (λ b. b || is_among k ks) (same_key_itself k)

pub among_later : (k x : Key) (ks : List Key) → is_among k ks ≡ true → is_among k (x ∷ ks) ≡ true
among_later k x ks h = ap (λ b. same_key k x || b) h ∙ or_true (same_key k x)
  where
    or_true : (b : Bool) → (b || true) ≡ true
    or_true true = refl
    or_true false = refl

filter_none : (p : Key → Bool) (xs : List Key) → ((k : Key) → is_among k xs ≡ true → p k ≡ false) → filter p xs ≡ []
filter_none p [] h = refl
filter_none p (x ∷ xs) h = ap (λ b. cond b (x ∷ filter p xs) (filter p xs)) (h x (among_cons x xs)) ∙ filter_none p xs (λ k there. h k (among_later k x xs there))

filter_as : (p q : Key → Bool) (xs : List Key) → ((k : Key) → is_among k xs ≡ true → p k ≡ q k) → filter p xs ≡ filter q xs
filter_as p q [] h = refl
filter_as p q (x ∷ xs) h =
    ap (λ b. cond b (x ∷ filter p xs) (filter p xs)) (h x (among_cons x xs))
    ∙ ap (λ l. cond (q x) (x ∷ l) l) (filter_as p q xs (λ k there. h k (among_later k x xs there)))

-- ---- some keys in line

-- of distinct keys, the later ones aren't among the earlier ones
pub distinct_apart : (xs ys : List Key) → IsDistinct same_key (xs ++ ys) → (k : Key) → is_among k ys ≡ true → is_among k xs ≡ false
distinct_apart [] ys d k there = refl
distinct_apart (x ∷ xs) ys d k there = by (same_key k x) refl (distinct_apart xs ys (IsDistinct-tail same_key x (xs ++ ys) d) k there)
  where
    or_true : (b : Bool) → (b || true) ≡ true
    or_true true = refl
    or_true false = refl

    by : (b : Bool) → same_key k x ≡ b → is_among k xs ≡ false → is_among k (x ∷ xs) ≡ false
    by false e rest = ap (λ b. b || is_among k xs) e ∙ rest
    by true e rest =
        let absent = ap (λ y. is_among y (xs ++ ys)) (same_key_is k x e) ∙ head_absent x (xs ++ ys) (IsDistinct-head same_key x (xs ++ ys) d) in
        absurd (true≢false (sym (list_any-append (same_key k) xs ys ∙ ap (λ b. is_among k xs || b) there ∙ or_true (is_among k xs)) ∙ absent))

module _ (line xs ys : List Key) (d : IsDistinct same_key (xs ++ ys)) where
  later : filter (out_of (waiting_in line xs)) ys ≡ filter (out_of line) ys
  later = filter_as (out_of (waiting_in line xs)) (out_of line) ys (λ k there. ap not (among_waiting k line xs ∙ ap (λ b. is_among k line || b) (distinct_apart xs ys d k there) ∙ or_false (is_among k line)))
    where
      or_false : (b : Bool) → (b || false) ≡ b
      or_false true = refl
      or_false false = refl

  -- the first ones of some keys came in line, and only the later ones are left
  pub lined_all : waiting_in (waiting_in line xs) ys ≡ waiting_in line (xs ++ ys)
  lined_all =
      ap (λ l. waiting_in line xs ++ l) later ∙ append_assoc line (filter (out_of line) xs) (filter (out_of line) ys)
      ∙ ap (λ l. line ++ l) (sym (filter-append (out_of line) xs ys))

  -- they came in line, and all are still kept
  pub lined_some : waiting_in (waiting_in line xs) (xs ++ ys) ≡ waiting_in line (xs ++ ys)
  lined_some =
      ap (λ l. waiting_in line xs ++ l) (filter-append (out_of (waiting_in line xs)) xs ys ∙ ap (λ l. l ++ filter (out_of (waiting_in line xs)) ys) none) ∙ lined_all
    where
      none : filter (out_of (waiting_in line xs)) xs ≡ []
      none = filter_none (out_of (waiting_in line xs)) xs (λ k there. ap not (among_waiting k line xs ∙ ap (λ b. is_among k line || b) there ∙ or_true (is_among k line)))
        where
          or_true : (b : Bool) → (b || true) ≡ true
          or_true true = refl
          or_true false = refl

-- one more key comes in line
pub lined_more : (line xs : List Key) (k : Key) → is_among k xs ≡ false → with_key k (waiting_in line xs) ≡ waiting_in line (xs ++ k ∷ [])
lined_more line xs k absent =
    ap (λ b. cond b (waiting_in line xs) (waiting_in line xs ++ k ∷ [])) (among_waiting k line xs ∙ ap (λ b. is_among k line || b) absent)
    ∙ by (is_among k line) refl ∙ ap (λ l. line ++ l) (sym (filter-append (out_of line) xs (k ∷ [])))
  where
    by : (b : Bool) → is_among k line ≡ b → cond (is_among k line || false) (waiting_in line xs) (waiting_in line xs ++ k ∷ []) ≡ line ++ (filter (out_of line) xs ++ filter (out_of line) (k ∷ []))
    by true e =
        ap (λ b. cond (b || false) (waiting_in line xs) (waiting_in line xs ++ k ∷ [])) e
        ∙ sym (ap (λ b. line ++ (filter (out_of line) xs ++ cond (not b) (k ∷ []) [])) e ∙ ap (λ l. line ++ l) (append-nil (filter (out_of line) xs)))
    by false e =
        ap (λ b. cond (b || false) (waiting_in line xs) (waiting_in line xs ++ k ∷ [])) e
        ∙ append_assoc line (filter (out_of line) xs) (k ∷ [])
        ∙ sym (ap (λ b. line ++ (filter (out_of line) xs ++ cond (not b) (k ∷ []) [])) e)
