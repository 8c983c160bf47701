-- Keys that were marked as a whole: where they differ, and what look-ups say.
use Rattle.std.proofs.Common.{get_or, unwrap_or, ◌≡◌, ◌≤◌, ◌<◌, ◌+◌, ◌*◌, ℕ, Bool, true, false, not, cond, ◌||◌, ◌==◌, List, [], ◌∷◌, ◌++◌, filter, take, drop, length, refl, sym, ap, subst, ◌∙◌, true≢false, arith, Option, None, Some, is_some, eqb-true, slice_get}
use Rattle.std.specs.Prelude.{flat_map, find, IsSomeAnd}
use Rattle.std.proofs.Math.Nat.{suc-mul, zero-mul}
use Rattle.std.specs.Cmp.{IsEquivalence}
use Rattle.std.specs.List.{AllByRecursion, IsDistinct, list_any, remove}
use Rattle.std.specs.Str.{bytes_eq}
use Rattle.std.specs.Cmp.Lexicographic.{bytes_decides}
use Rattle.std.proofs.lemmas.Bool.{and_parts, false_from_ne_true}
use Rattle.std.proofs.lemmas.List.{append_assoc, take-append-drop, append-nil, take_more, drop_more, length-append, map-append}
use Rattle.std.proofs.lemmas.List.Elements.{filter-append}
use Rattle.std.proofs.lemmas.List.Filters.{length-filter_both}
use lib.ListN.{length-map}
use Rattle.std.proofs.lemmas.List.Folds.{list_any-append}
use Rattle.std.proofs.lemmas.Map.Keys.{IsDistinct-head, IsDistinct-tail, IsDistinct-cons, IsDistinct-push}
use Rattle.hx_object.proofs.Identities.{number_of-one}
use Rattle.hx_object.specs.Kinds.{number_of}
use Rattle.hx_object.specs.contracts.object.IdEq.TheImpl.Laws.{laws-law}
use Rattle.hx_object.specs.declared.kind.Kind.{Kind}
use Rattle.hx_object.specs.declared.object.Id.{Id}
use Rattle.hx_model.specs.Keys.{same_key, is_among}
use Rattle.hx_model.specs.declared.key.Key.{Key}
use Rattle.hx_model.specs.declared.key.Key.TheVariants as key
use Rattle.hx_model.proofs.SameKeys.{same_key_is, same_key_itself}
use Rattle.hx_queue.specs.Kept.{Held, Marks, QueueView, again_in, is_held}
use Rattle.hx_line.specs.Line.{with_key}
use Rattle.hx_queue.specs.Spread.{HasPlace, IsOf, IsSpread, Scope, equal_ids, is_place_of, is_spread, keys_in, most_spread, names_in, place_keys, waiting_in, with_id}
use Rattle.hx_queue.specs.Spreading.{AreLinedUp}
use Rattle.hx_queue.proofs.Beside.{distinct_append, equal_ids_is, place_itself}
use Rattle.hx_queue.proofs.Waiting.{distinct_apart, lined_all, lined_some, lined_more}

-- ---- identities

pub id_laws : IsEquivalence equal_ids
unfolding equal_ids
id_laws = laws-law

equal_itself : (a : Id) → equal_ids a a ≡ true
equal_itself a = id_laws.refl a

same_bool : (a b : Bool) → (a ≡ true → b ≡ true) → (b ≡ true → a ≡ true) → a ≡ b
same_bool true b h g = sym (h refl)
same_bool false true h g = g refl
same_bool false false h g = refl

-- ---- keys of an object's kind and name

pub place_is : (id : Id) (m : List ℕ) (kind : Kind) (name : List ℕ) → is_place_of id (key.Copy m kind name) ≡ true → (kind ≡ id.kind) × (id.name ≡ name)
place_is id m kind name h =
    let parts = and_parts (number_of kind == number_of id.kind) (bytes_eq id.name name) h in
    (number_of-one kind id.kind (eqb-true _ _ parts.0), (bytes_decides id.name name).0 parts.1)

pub among_places : (id : Id) (names : List (List ℕ)) (k : Key) → is_among k (place_keys names id) ≡ true → is_place_of id k ≡ true
among_places id [] k h = absurd (true≢false (sym h))
among_places id (m ∷ names) k h = by (same_key k (key.Copy m id.kind id.name)) refl (among_places id names k)
  where
    by : (b : Bool) → same_key k (key.Copy m id.kind id.name) ≡ b → (is_among k (place_keys names id) ≡ true → is_place_of id k ≡ true) → is_place_of id k ≡ true
    by true e rest = ap (is_place_of id) (same_key_is k (key.Copy m id.kind id.name) e) ∙ place_itself id m
    by false e rest = rest (sym (ap (λ b. b || is_among k (place_keys names id)) e) ∙ h)

pub among_keys : (scope : Option Scope) (ids : List Id) (k : Key) → is_among k (keys_in scope ids) ≡ true → is_spread ids k ≡ true
among_keys scope [] k h = absurd (true≢false (sym h))
among_keys scope (id ∷ ids) k h = by (is_among k (place_keys (names_in scope) id)) refl (among_keys scope ids k)
  where
    split : (is_among k (place_keys (names_in scope) id) || is_among k (keys_in scope ids)) ≡ true
    split = sym (list_any-append (same_key k) (place_keys (names_in scope) id) (keys_in scope ids)) ∙ h

    by : (b : Bool) → is_among k (place_keys (names_in scope) id) ≡ b → (is_among k (keys_in scope ids) ≡ true → is_spread ids k ≡ true) → is_spread (id ∷ ids) k ≡ true
    by true e rest = ap (λ b. b || is_spread ids k) (among_places id (names_in scope) k e)
    by false e rest = ap (λ b. is_place_of id k || b) (rest (sym (ap (λ b. b || is_among k (keys_in scope ids)) e) ∙ split)) ∙ or_true (is_place_of id k)
      where
        or_true : (b : Bool) → (b || true) ≡ true
        or_true true = refl
        or_true false = refl

-- ---- look-ups

-- an object of the namespace at the top is found by the kind and name of a key
one_found : (root m name : List ℕ) (kind : Kind) (id : Id) → root ≡ id.ns → equal_ids (record { kind = kind; ns = root; name = name }) id ≡ is_place_of id (key.Copy m kind name)
one_found root m name kind id at = same_bool _ _ there back
  where
    own : Id
    own = record { kind = kind; ns = root; name = name }

    there : equal_ids own id ≡ true → is_place_of id (key.Copy m kind name) ≡ true
    there e = let is = equal_ids_is own id e in ap (λ (x : Id). is_place_of id (key.Copy m x.kind x.name)) is ∙ place_itself id m

    back : is_place_of id (key.Copy m kind name) ≡ true → equal_ids own id ≡ true
    back h =
        let parts = place_is id m kind name h in
        let is : own ≡ id = λ i. record { kind = parts.0 i; ns = at i; name = sym parts.1 i } in
        ap (λ x. equal_ids x id) is ∙ equal_itself id

pub found_in : (root m name : List ℕ) (kind : Kind) (ids : List Id) → AllByRecursion (λ (id : Id). root ≡ id.ns) ids → list_any (equal_ids (record { kind = kind; ns = root; name = name })) ids ≡ is_spread ids (key.Copy m kind name)
found_in root m name kind [] h = refl
found_in root m name kind (id ∷ ids) h = λ i. one_found root m name kind id h.0 i || found_in root m name kind ids h.1 i

-- ---- they differ

text_of : Key → List ℕ
text_of (key.Copy m kind name) = m
text_of _ = []

places_apart : (id : Id) (m : List ℕ) (names : List (List ℕ)) → AllByRecursion (λ n. bytes_eq m n ≡ false) names → AllByRecursion (λ y. same_key (key.Copy m id.kind id.name) y ≡ false) (place_keys names id)
unfolding text_of
places_apart id m [] h = tt
places_apart id m (n ∷ names) h =
    (false_from_ne_true _ (λ e. true≢false (sym ((bytes_decides m n).1 (ap text_of (same_key_is (key.Copy m id.kind id.name) (key.Copy n id.kind id.name) e))) ∙ h.0)), places_apart id m names h.1)

pub places_distinct : (id : Id) (names : List (List ℕ)) → IsDistinct bytes_eq names → IsDistinct same_key (place_keys names id)
unfolding IsDistinct
places_distinct id [] d = d
places_distinct id (m ∷ names) d =
    IsDistinct-cons same_key (key.Copy m id.kind id.name) (place_keys names id) (places_apart id m names (IsDistinct-head bytes_eq m names d)) (places_distinct id names (IsDistinct-tail bytes_eq m names d))

-- two objects of the namespace at the top with one key are one
one_object : (scope : Option Scope) (id : Id) (ids : List Id) (k : Key) → AllByRecursion (IsOf scope) (id ∷ ids) → is_place_of id k ≡ true → is_spread ids k ≡ true → list_any (equal_ids id) ids ≡ true
one_object None id ids k at h g = absurd at.0
one_object (Some scope) id ids (key.Copy m kind name) at h g =
    let parts = place_is id m kind name h in
    let is : record { kind = kind; ns = scope.root; name = name } ≡ id = λ i. record { kind = parts.0 i; ns = at.0 i; name = sym parts.1 i } in
    ap (λ x. list_any (equal_ids x) ids) (sym is) ∙ found_in scope.root m name kind ids at.1 ∙ g
one_object (Some scope) id ids _ at h g = absurd (true≢false (sym h))

pub keys_distinct : (scope : Option Scope) (ids : List Id) → IsDistinct bytes_eq (names_in scope) → IsDistinct equal_ids ids → AllByRecursion (IsOf scope) ids → IsDistinct same_key (keys_in scope ids)
unfolding IsDistinct
keys_distinct scope [] n d at = tt
keys_distinct scope (id ∷ ids) n d at =
    distinct_append (place_keys (names_in scope) id) (keys_in scope ids) (places_distinct id (names_in scope) n) (keys_distinct scope ids n (IsDistinct-tail equal_ids id ids d) at.1)
    (λ k again. false_from_ne_true _ (λ there. true≢false (sym (one_object scope id ids k at (among_places id (names_in scope) k there) (among_keys scope ids k again)) ∙ none ids (IsDistinct-head equal_ids id ids d))))
  where
    none : (zs : List Id) → AllByRecursion (λ y. equal_ids id y ≡ false) zs → list_any (equal_ids id) zs ≡ false
    none [] a = refl
    none (z ∷ zs) a = ap (λ b. b || list_any (equal_ids id) zs) a.0 ∙ none zs a.1

pub spread_distinct : (scope : Option Scope) (ids : List Id) → IsSpread scope ids → IsDistinct same_key (keys_in scope ids)
spread_distinct scope ids s = keys_distinct scope ids s.places s.objects s.at

-- ---- one key comes in line

-- a key that nobody holds is marked
again_none : (k : Key) (hs : List Held) → is_some (find (λ (h : Held). same_key k h.key) hs) ≡ false → again_in k hs ≡ hs
again_none k [] h = refl
again_none k (x ∷ hs) h = by (same_key k x.key) refl (again_none k hs)
  where
    by : (b : Bool) → same_key k x.key ≡ b → (is_some (find (λ (h : Held). same_key k h.key) hs) ≡ false → again_in k hs ≡ hs) → again_in k (x ∷ hs) ≡ x ∷ hs
    by true e rest = absurd (true≢false (sym (ap (λ b. is_some (cond b (Some x) (find (λ (h : Held). same_key k h.key) hs))) e) ∙ h))
    by false e rest = λ i. record x { again = e i || x.again } ∷ rest (sym (ap (λ b. is_some (cond b (Some x) (find (λ (h : Held). same_key k h.key) hs))) e) ∙ h) i

pub held_by_none : (k : Key) (old new : QueueView) → Marks k old new → is_held old k ≡ false → (new.waiting ≡ with_key k old.waiting) × (new.held ≡ old.held)
held_by_none k old new m free = (m.waiting ∙ ap (λ b. cond (b || is_among k old.waiting) old.waiting (old.waiting ++ k ∷ [])) free, m.held ∙ again_none k old.held free)

-- the key in the next namespace
pub one_more : (id : Id) (names : List (List ℕ)) (i : ℕ) (m : List ℕ) (line now new : List Key) → IsDistinct bytes_eq names → i < length names → m ≡ get_or names i m
    → now ≡ waiting_in line (place_keys (take i names) id) → new ≡ with_key (key.Copy m id.kind id.name) now → new ≡ waiting_in line (place_keys (take (i + 1) names) id)
one_more id names i m line now new d within at before is =
    is ∙ ap (with_key k) before ∙ lined_more line (place_keys (take i names) id) k absent ∙ ap (waiting_in line) (sym split)
  where
    k : Key
    k = key.Copy m id.kind id.name

    split : place_keys (take (i + 1) names) id ≡ place_keys (take i names) id ++ k ∷ []
    split =
        ap (λ l. place_keys l id) (take_more names i m within ∙ ap (λ (n : List ℕ). take i names ++ n ∷ []) (sym at))
        ∙ map-append (λ (n : List ℕ). key.Copy n id.kind id.name) (take i names) (m ∷ [])

    whole : place_keys names id ≡ place_keys (take i names) id ++ place_keys (drop i names) id
    whole = ap (λ l. place_keys l id) (sym (take-append-drop i names)) ∙ map-append (λ (n : List ℕ). key.Copy n id.kind id.name) (take i names) (drop i names)

    first : is_among k (place_keys (drop i names) id) ≡ true
    first = ap (λ l. is_among k (place_keys l id)) (drop_more names i m within ∙ ap (λ (n : List ℕ). n ∷ drop (i + 1) names) (sym at)) ∙ ap (λ b. b || is_among k (place_keys (drop (i + 1) names) id)) (same_key_itself k)

    absent : is_among k (place_keys (take i names) id) ≡ false
    absent = distinct_apart (place_keys (take i names) id) (place_keys (drop i names) id) (subst (IsDistinct same_key) whole (places_distinct id names d)) k first

-- ---- the keys of the first object come in line

-- they are held by nobody
pub first_free : (ids : List Id) (id : Id) (k : Key) (b : Bool) → slice_get ids 0 ≡ Some id → (b ≡ true → is_spread ids k ≡ false) → is_place_of id k ≡ true → b ≡ false
first_free [] id k b at h place = absurd (true≢false (sym (ap is_some at)))
first_free (x ∷ ids) id k true at h place = absurd (true≢false (sym (ap (λ (y : Id). is_place_of y k || is_spread ids k) (some_is at) ∙ ap (λ b. b || is_spread ids k) place) ∙ h refl))
  where
    some_is : Some x ≡ Some id → x ≡ id
    some_is e = ap (λ o. unwrap_or o x) e
first_free (x ∷ ids) id k false at h place = refl

-- all of them
pub first_up : (scope : Option Scope) (ids : List Id) (id : Id) (line now : List Key) → IsSpread scope ids → slice_get ids 0 ≡ Some id → now ≡ waiting_in line (place_keys (names_in scope) id)
    → waiting_in now (keys_in scope (drop 1 ids)) ≡ waiting_in line (keys_in scope ids)
first_up scope [] id line now s at is = absurd (true≢false (sym (ap is_some at)))
first_up scope (x ∷ ids) id line now s at is =
    ap (λ l. waiting_in l (keys_in scope ids)) (is ∙ ap (λ (y : Id). waiting_in line (place_keys (names_in scope) y)) (sym (some_is at)))
    ∙ lined_all line (place_keys (names_in scope) x) (keys_in scope ids) (spread_distinct scope (x ∷ ids) s)
  where
    some_is : Some x ≡ Some id → x ≡ id
    some_is e = ap (λ o. unwrap_or o x) e

-- some of them
pub some_up : (scope : Option Scope) (ids : List Id) (id : Id) (line now : List Key) → IsSpread scope ids → slice_get ids 0 ≡ Some id → AreLinedUp (place_keys (names_in scope) id) line now
    → waiting_in now (keys_in scope ids) ≡ waiting_in line (keys_in scope ids)
some_up scope [] id line now s at up = absurd (true≢false (sym (ap is_some at)))
some_up scope (x ∷ ids) id line now s at up =
    let own = place_keys (names_in scope) x in
    let parts : take up.many own ++ (drop up.many own ++ keys_in scope ids) ≡ own ++ keys_in scope ids
    = sym (append_assoc (take up.many own) (drop up.many own) (keys_in scope ids)) ∙ ap (λ l. l ++ keys_in scope ids) (take-append-drop up.many own) in
    ap (λ l. waiting_in l (own ++ keys_in scope ids)) (up.lined ∙ ap (λ (y : Id). waiting_in line (take up.many (place_keys (names_in scope) y))) (sym (some_is at)))
    ∙ subst (λ l. waiting_in (waiting_in line (take up.many own)) l ≡ waiting_in line l) parts
    (lined_some line (take up.many own) (drop up.many own ++ keys_in scope ids) (subst (IsDistinct same_key) (sym parts) (spread_distinct scope (x ∷ ids) s)))
  where
    some_is : Some x ≡ Some id → x ≡ id
    some_is e = ap (λ o. unwrap_or o x) e

pub first_removed : (ids : List Id) → remove ids 0 ≡ drop 1 ids
first_removed [] = refl
first_removed (x ∷ ids) = refl

-- what is kept without the first object
pub without_first : (scope : Option Scope) (ids : List Id) → IsSpread scope ids → IsSpread scope (drop 1 ids)
without_first scope [] s = s
without_first scope (x ∷ ids) s = record {
  places = s.places;
  objects = IsDistinct-tail equal_ids x ids s.objects;
  at = s.at.1;
  most = let one = suc-mul (length ids) (length (names_in scope)) in omega (arith, one, s.most);
}

-- with one more
pub with_one : (scope : Option Scope) (ids : List Id) (id : Id) → IsSpread scope ids → IsOf scope id → HasPlace scope ids → IsSpread scope (with_id id ids)
with_one scope ids id s at fits = by (list_any (equal_ids id) ids) refl
  where
    of_all : (xs : List Id) → AllByRecursion (IsOf scope) xs → AllByRecursion (IsOf scope) (xs ++ id ∷ [])
    of_all [] h = (at, tt)
    of_all (x ∷ xs) h = (h.0, of_all xs h.1)

    by : (b : Bool) → list_any (equal_ids id) ids ≡ b → IsSpread scope (with_id id ids)
    by true e = subst (IsSpread scope) (sym (ap (λ b. cond b ids (ids ++ id ∷ [])) e)) s
    by false e = subst (IsSpread scope) (sym (ap (λ b. cond b ids (ids ++ id ∷ [])) e)) record {
      places = s.places;
      objects = IsDistinct-push id_laws ids id s.objects e;
      at = of_all ids s.at;
      most = subst (λ n. n * length (names_in scope) ≤ most_spread) (sym (length-append ids (id ∷ []))) fits;
    }

-- where nothing is marked as a whole
pub nothing : IsSpread None []
unfolding IsDistinct
nothing = record { places = tt; objects = tt; at = tt; most = omega arith }

pub is_of : (scope : Option Scope) (id : Id) → IsSomeAnd scope (λ (r : Scope). r.root ≡ id.ns) → IsOf scope id
is_of None id h = h
is_of (Some scope) id h = h

pub nowhere : (ids : List Id) (k : Key) → AllByRecursion (IsOf None) ids → is_spread ids k ≡ false
nowhere [] k h = refl
nowhere (id ∷ ids) k h = absurd h.0

-- a key that isn't that of a copy
pub no_copy : (ids : List Id) (k : Key) → ((m : List ℕ) (kind : Kind) (name : List ℕ) → k ≡ key.Copy m kind name → ⊥) → is_spread ids k ≡ false
no_copy [] k h = refl
no_copy (id ∷ ids) (key.Copy m kind name) h = absurd (h m kind name refl)
no_copy (id ∷ ids) (key.Tree m) h = no_copy ids (key.Tree m) h
no_copy (id ∷ ids) (key.Report m) h = no_copy ids (key.Report m) h
no_copy (id ∷ ids) (key.Child m name) h = no_copy ids (key.Child m name) h
no_copy (id ∷ ids) (key.Anchor m name) h = no_copy ids (key.Anchor m name) h
no_copy (id ∷ ids) (key.Used m name) h = no_copy ids (key.Used m name) h
no_copy (id ∷ ids) (key.Purge m) h = no_copy ids (key.Purge m) h

-- ---- how many there are

-- where there is no reach all keys stand in line
pub all_in_line : (line : List Key) (scope : Option Scope) (ids : List Id) → scope ≡ None → length line ≡ length (waiting_in line (keys_in scope ids))
all_in_line line scope ids none = sym (ap length (ap (λ l. waiting_in line l) (ap (λ r. keys_in r ids) none ∙ empty ids) ∙ append-nil line))
  where
    empty : (xs : List Id) → keys_in None xs ≡ []
    empty [] = refl
    empty (x ∷ xs) = empty xs

passed : (p : Key → Bool) (xs : List Key) → length (filter p xs) ≤ length xs
passed p xs = let both = length-filter_both p (λ k. not (p k)) (λ k. refl) xs in omega (arith, both)

-- as many as objects times namespaces at most
pub counted : (p : Key → Bool) (names : List (List ℕ)) (ids : List Id) → length (filter p (flat_map (place_keys names) ids)) ≤ length ids * length names
counted p names ids = let few = passed p (flat_map (place_keys names) ids) in let long = all ids in omega (arith, few, long)
  where
    all : (xs : List Id) → length (flat_map (place_keys names) xs) ≡ length xs * length names
    all [] = sym (zero-mul (length names))
    all (x ∷ xs) =
        let joined = length-append (place_keys names x) (flat_map (place_keys names) xs) in
        let one = suc-mul (length xs) (length names) in
        let own = length-map names (λ (m : List ℕ). key.Copy m x.kind x.name) in
        omega (arith, joined, one, own, all xs)

-- those of the next object, and of the later ones
pub next_counted : (p : Key → Bool) (names : List (List ℕ)) (ids : List Id) (i : ℕ) (id : Id) → i < length ids → id ≡ get_or ids i id
    → length (filter p (flat_map (place_keys names) (drop i ids))) ≡ length (filter p (place_keys names id)) + length (filter p (flat_map (place_keys names) (drop (i + 1) ids)))
next_counted p names ids i id within at =
    ap (λ l. length (filter p (flat_map (place_keys names) l))) (drop_more ids i id within ∙ ap (λ (x : Id). x ∷ drop (i + 1) ids) (sym at))
    ∙ ap length (filter-append p (place_keys names id) (flat_map (place_keys names) (drop (i + 1) ids)))
    ∙ length-append (filter p (place_keys names id)) (filter p (flat_map (place_keys names) (drop (i + 1) ids)))
