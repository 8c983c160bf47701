-- What waits in line, and what was marked as a whole.
--     among_waiting      which keys wait
--     place_itself       the key of an object in a namespace is the object's
--     among_spread       which keys were marked as a whole
--     spread_absent      a key of no object that was marked as a whole isn't among them
--     places_apart       nor is one that isn't an object's among those of the object
--     among_more, spread_less, spread_more     one more object's keys, and one object less
--     distinct_waiting   no key waits twice
use Rattle.std.proofs.Common.{◌≡◌, Bool, true, false, not, cond, ◌&&◌, ◌||◌, ℕ, List, [], ◌∷◌, ◌++◌, filter, drop, refl, sym, ap, subst, ◌∙◌, true≢false, Option}
use Rattle.std.specs.List.{IsDistinct, list_any}
use Rattle.std.proofs.Math.Bool.{or-false}
use Rattle.std.proofs.lemmas.Bool.{eq-eqb}
use Rattle.std.proofs.lemmas.List.{append-nil, append_assoc}
use Rattle.std.proofs.lemmas.List.Folds.{list_any-append}
use Rattle.std.proofs.lemmas.Map.Keys.{IsDistinct-head, IsDistinct-tail, IsDistinct-push}
use Rattle.std.proofs.lemmas.Map.Views.{any-filter_same}
use Rattle.hx_object.specs.Kinds.{number_of}
use Rattle.hx_object.specs.declared.object.Id.{Id}
use Rattle.hx_object.proofs.Sameness.{exact_id}
use Rattle.hx_model.specs.Keys.{same_key, is_among}
use Rattle.hx_model.specs.declared.key.Key.{Key}
use Rattle.hx_model.specs.declared.key.Key.TheVariants as key
use Rattle.hx_model.proofs.Climbing.{same_itself}
use Rattle.hx_model.proofs.SameKeys.{key_laws, same_key_is, same_key_itself}
use Rattle.hx_queue.specs.Spread.{Scope, equal_ids, is_place_of, is_spread, keys_in, names_in, place_keys, waiting_in, with_id}
use Rattle.hx_line.proofs.Sets.{distinct_filter, head_absent}

-- ---- what waits

-- a is whether a key stands in line, s whether it was marked as a whole
either : (a s : Bool) → (a || (not a && s)) ≡ (a || s)
either true s = refl
either false s = refl

pub among_waiting : (k : Key) (line spread : List Key) → is_among k (waiting_in line spread) ≡ (is_among k line || is_among k spread)
among_waiting k line spread =
    list_any-append (same_key k) line (filter (λ x. not (is_among x line)) spread)
    ∙ ap (λ b. is_among k line || b) (any-filter_same (same_key k) (λ x. not (is_among x line)) (not (is_among k line)) (λ x e. ap (λ y. not (is_among y line)) (sym (same_key_is k x e))) spread)
    ∙ either (is_among k line) (is_among k spread)

-- ---- what was marked as a whole

pub among_spread : (k : Key) (scope : Option Scope) (ids : List Id) → is_among k (keys_in scope ids) ≡ list_any (λ (id : Id). is_among k (place_keys (names_in scope) id)) ids
among_spread k scope [] = refl
among_spread k scope (id ∷ ids) = list_any-append (same_key k) (place_keys (names_in scope) id) (keys_in scope ids) ∙ ap (λ b. is_among k (place_keys (names_in scope) id) || b) (among_spread k scope ids)

no_or : (a b : Bool) → a ≡ false → b ≡ false → (a || b) ≡ false
no_or a b e f = (λ i. e i || f i)

left_no : (a b : Bool) → (a || b) ≡ false → a ≡ false
left_no true b e = absurd (true≢false e)
left_no false b e = refl

right_no : (a b : Bool) → (a || b) ≡ false → b ≡ false
right_no true b e = absurd (true≢false e)
right_no false b e = e

-- the key of an object in a namespace is the object's
pub place_itself : (id : Id) (m : List ℕ) → is_place_of id (key.Copy m id.kind id.name) ≡ true
place_itself id m = (λ i. eq-eqb (number_of id.kind) (number_of id.kind) refl i && same_itself id.name i)

-- a key that isn't an object's isn't the one in a namespace
other_place : (id : Id) (k : Key) (m : List ℕ) → is_place_of id k ≡ false → same_key k (key.Copy m id.kind id.name) ≡ false
other_place id k m apart = by (same_key k (key.Copy m id.kind id.name)) refl
  where
    by : (b : Bool) → same_key k (key.Copy m id.kind id.name) ≡ b → b ≡ false
    by true e = absurd (true≢false (sym (place_itself id m) ∙ ap (is_place_of id) (sym (same_key_is k (key.Copy m id.kind id.name) e)) ∙ apart))
    by false e = refl

pub places_apart : (id : Id) (k : Key) (names : List (List ℕ)) → is_place_of id k ≡ false → is_among k (place_keys names id) ≡ false
places_apart id k [] apart = refl
places_apart id k (m ∷ names) apart = no_or (same_key k (key.Copy m id.kind id.name)) (is_among k (place_keys names id)) (other_place id k m apart) (places_apart id k names apart)

pub spread_absent : (k : Key) (scope : Option Scope) (ids : List Id) → is_spread ids k ≡ false → is_among k (keys_in scope ids) ≡ false
spread_absent k scope ids apart = among_spread k scope ids ∙ by ids apart
  where
    by : (ids : List Id) → is_spread ids k ≡ false → list_any (λ (id : Id). is_among k (place_keys (names_in scope) id)) ids ≡ false
    by [] e = refl
    by (id ∷ ids) e =
        no_or (is_among k (place_keys (names_in scope) id)) (list_any (λ (id : Id). is_among k (place_keys (names_in scope) id)) ids)
        (places_apart id k (names_in scope) (left_no (is_place_of id k) (is_spread ids k) e)) (by ids (right_no (is_place_of id k) (is_spread ids k) e))

-- what isn't marked as a whole isn't where one was taken out
pub spread_less : (k : Key) (ids : List Id) → is_spread ids k ≡ false → is_spread (drop 1 ids) k ≡ false
spread_less k [] e = refl
spread_less k (id ∷ ids) e = right_no (is_place_of id k) (is_spread ids k) e

-- ---- one more object

absorbed : (a b : Bool) → (b ≡ true → a ≡ true) → a ≡ (a || b)
absorbed true b h = refl
absorbed false true h = h refl
absorbed false false h = refl

pub equal_ids_is : (a b : Id) → equal_ids a b ≡ true → a ≡ b
unfolding equal_ids
equal_ids_is a b e = exact_id a b e

any_of : (id : Id) (f : Id → Bool) (ids : List Id) → list_any (equal_ids id) ids ≡ true → f id ≡ true → list_any f ids ≡ true
any_of id f [] there passes = absurd (true≢false (sym there))
any_of id f (x ∷ xs) there passes = by (equal_ids id x) refl there (λ later. any_of id f xs later passes)
  where
    or_right : (a b : Bool) → b ≡ true → (a || b) ≡ true
    or_right true b e = refl
    or_right false b e = e

    by : (b : Bool) → equal_ids id x ≡ b → (b || list_any (equal_ids id) xs) ≡ true → (list_any (equal_ids id) xs ≡ true → list_any f xs ≡ true) → (f x || list_any f xs) ≡ true
    by true e h rest = ap (λ b. b || list_any f xs) (ap f (sym (equal_ids_is id x e)) ∙ passes)
    by false e h rest = or_right (f x) (list_any f xs) (rest h)

any_with : (id : Id) (f : Id → Bool) (ids : List Id) → list_any f (with_id id ids) ≡ (list_any f ids || f id)
any_with id f ids = by (list_any (equal_ids id) ids) refl
  where
    by : (b : Bool) → list_any (equal_ids id) ids ≡ b → list_any f (cond b ids (ids ++ id ∷ [])) ≡ (list_any f ids || f id)
    by true e = absorbed (list_any f ids) (f id) (any_of id f ids e)
    by false e = list_any-append f ids (id ∷ []) ∙ ap (λ b. list_any f ids || b) (or-false (f id))

pub among_more : (k : Key) (id : Id) (scope : Option Scope) (ids : List Id) → is_among k (keys_in scope (with_id id ids)) ≡ (is_among k (keys_in scope ids) || is_among k (place_keys (names_in scope) id))
among_more k id scope ids =
    among_spread k scope (with_id id ids)
    ∙ any_with id (λ (id : Id). is_among k (place_keys (names_in scope) id)) ids
    ∙ ap (λ b. b || is_among k (place_keys (names_in scope) id)) (sym (among_spread k scope ids))

pub spread_more : (k : Key) (id : Id) (ids : List Id) → is_place_of id k ≡ false → is_spread ids k ≡ false → is_spread (with_id id ids) k ≡ false
spread_more k id ids own others = any_with id (λ (id : Id). is_place_of id k) ids ∙ no_or (is_spread ids k) (is_place_of id k) others own

-- ---- no key twice

or_left : (a b : Bool) → a ≡ true → (a || b) ≡ true
or_left a b e = ap (λ a. a || b) e

pub distinct_append : (xs ys : List Key) → IsDistinct same_key xs → IsDistinct same_key ys → ((k : Key) → is_among k ys ≡ true → is_among k xs ≡ false) → IsDistinct same_key (xs ++ ys)
distinct_append xs [] c d apart = subst (IsDistinct same_key) (sym (append-nil xs)) c
distinct_append xs (y ∷ ys) c d apart =
    subst (IsDistinct same_key) (append_assoc xs (y ∷ []) ys)
    (distinct_append (xs ++ y ∷ []) ys (IsDistinct-push key_laws xs y c (apart y (or_left (same_key y y) (is_among y ys) (same_key_itself y)))) (IsDistinct-tail same_key y ys d)
    (λ k there. list_any-append (same_key k) xs (y ∷ []) ∙ no_or (is_among k xs) (same_key k y || false) (apart k (or_true (same_key k y) (is_among k ys) there)) (or-false (same_key k y) ∙ other k (same_key k y) refl there)))
  where
    or_true : (a b : Bool) → b ≡ true → (a || b) ≡ true
    or_true true b e = refl
    or_true false b e = e

    other : (k : Key) (b : Bool) → same_key k y ≡ b → is_among k ys ≡ true → b ≡ false
    other k true e there = absurd (true≢false (sym there ∙ ap (λ x. is_among x ys) (same_key_is k y e) ∙ head_absent y ys (IsDistinct-head same_key y ys d)))
    other k false e there = refl

pub distinct_waiting : (line spread : List Key) → IsDistinct same_key line → IsDistinct same_key spread → IsDistinct same_key (waiting_in line spread)
distinct_waiting line spread c d =
    distinct_append line (filter (λ x. not (is_among x line)) spread) c (distinct_filter (λ x. not (is_among x line)) spread d)
    (λ k there. by (is_among k line) (is_among k spread)
    (sym (any-filter_same (same_key k) (λ x. not (is_among x line)) (not (is_among k line)) (λ x e. ap (λ y. not (is_among y line)) (sym (same_key_is k x e))) spread) ∙ there))
  where
    by : (a s : Bool) → (not a && s) ≡ true → a ≡ false
    by true s e = absurd (true≢false (sym e))
    by false s e = refl
