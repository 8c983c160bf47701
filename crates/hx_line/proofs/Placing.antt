-- How keys lie in line, with their depths.
--     placed_total           the order of keys with their depths is total
--     placed_heap, placed_keys, placed_right    a key behind a heap gets its depth, and rises
--     are_all, all_of        what the first ones pass, by their list
--     first_current          where all lie as deep as is kept, the key at the front has its turn
--     first_early            or where its turn depends on no depth
use Rattle.std.proofs.Common.{◌≡◌, ◌<◌, ◌+◌, ◌⊎◌, inl, inr, ℕ, zero, suc, nat_lt, Bool, true, false, ◌&&◌, ◌||◌, List, [], ◌∷◌, take, length, Some, slice_get, refl, sym, ap, subst, ◌∙◌, true≢false, arith, eq-eqb}
use Rattle.std.specs.Prelude.{IfSome}
use Rattle.std.specs.declared.cmp.Ordering.{Ordering}
use Rattle.std.specs.declared.cmp.Ordering.TheVariants.{Greater}
use Rattle.std.specs.Ordering.{nat_cmp, ordering_then, is_lt}
use Rattle.std.specs.Cmp.{IsTotalOrder, on_total, then_total, nat_cmp_total, nat_cmp_is}
use Rattle.std.specs.List.{list_all}
use Rattle.std.specs.List.Sorted.{IsPermutation}
use Rattle.std.proofs.Math.ListN.{get_or}
use Rattle.std.proofs.lemmas.Bool.{and_parts, or_cases, cases_eq, ltb-true, eqb-true}
use Rattle.std.proofs.lemmas.List.Sorted.{IsPermutation-map}
use Rattle.std.proofs.lemmas.Option.{none-some, same_Some}
use Rattle.hx_model.specs.Forest.{Forest}
use Rattle.hx_model.specs.Keys.{same_key, is_among}
use Rattle.hx_model.specs.declared.key.Key.{Key}
use Rattle.hx_model.specs.declared.key.Key.TheVariants as key
use Rattle.hx_model.proofs.SameKeys.{same_key_is, same_key_itself}
use Rattle.hx_order.specs.KeyOrder.{key_cmp}
use Rattle.hx_order.specs.Ranks.{rank_of, depth_in, turn_cmp, IsFirst}
use Rattle.hx_order.proofs.Ordered.{key_cmp_total}
use Rattle.hx_line.specs.Heap.{IsHeap, Rises, AreAll, KeepsAll, level_of, placed_cmp, with_depth_at}
use Rattle.hx_line.specs.Line.{is_at, keys_in}
use Rattle.hx_line.proofs.Heaping.{cases, top, pushed}

pub placed_total : IsTotalOrder placed_cmp
placed_total = then_total (on_total (λ (e : Key × ℕ). rank_of e.0) nat_cmp_total) (then_total (on_total level_of nat_cmp_total) (on_total (λ (e : Key × ℕ). e.0) key_cmp_total))

-- ---- a key gets its depth

pub long_with_depth : (es : List (Key × ℕ)) (i n : ℕ) → length (with_depth_at es i n) ≡ length es
long_with_depth [] i n = refl
long_with_depth (e ∷ es) zero n = refl
long_with_depth (e ∷ es) (suc i) n = ap suc (long_with_depth es i n)

keys_with_depth : (es : List (Key × ℕ)) (i n : ℕ) → keys_in (with_depth_at es i n) ≡ keys_in es
keys_with_depth [] i n = refl
keys_with_depth (e ∷ es) zero n = refl
keys_with_depth (e ∷ es) (suc i) n = ap (λ l. e.0 ∷ l) (keys_with_depth es i n)

other_depth : (es : List (Key × ℕ)) (i n k : ℕ) (d : Key × ℕ) → (k ≡ i → ⊥) → get_or (with_depth_at es i n) k d ≡ get_or es k d
other_depth [] i n k d u = refl
other_depth (e ∷ es) zero n zero d u = absurd (u refl)
other_depth (e ∷ es) zero n (suc k) d u = refl
other_depth (e ∷ es) (suc i) n zero d u = refl
other_depth (e ∷ es) (suc i) n (suc k) d u = other_depth es i n k d (λ h. u (ap suc h))

this_depth : (es : List (Key × ℕ)) (i n : ℕ) (d : Key × ℕ) → i < length es → get_or (with_depth_at es i n) i d ≡ ((get_or es i d).0, n)
this_depth [] i n d l = absurd (omega (arith, l))
this_depth (e ∷ es) zero n d l = refl
this_depth (e ∷ es) (suc i) n d l = this_depth es i n d (omega (arith, l))

at_place : {X : Type 0} (P : X → Type 0) (es : List X) (i : ℕ) (d : X) → i < length es → IfSome (slice_get es i) P → P (get_or es i d)
at_place P [] i d l h = absurd (omega (arith, l))
at_place P (e ∷ es) zero d l h = h
at_place P (e ∷ es) (suc i) d l h = at_place P es i d (omega (arith, l)) h

pub placed_heap : (i n : ℕ) (xs ys zs : List (Key × ℕ)) → ys ≡ with_depth_at xs i n → Rises placed_cmp (i + 1) ys i zs → IsHeap placed_cmp i xs → IsHeap placed_cmp (i + 1) zs
unfolding Rises
placed_heap i n xs ys zs is rises h = rises (pushed placed_cmp placed_total i xs ys (λ k d f. ap (λ l. get_or l k d) is ∙ other_depth xs i n k d (omega (arith, f))) h)

pub placed_keys : (i n : ℕ) (xs ys zs : List (Key × ℕ)) → ys ≡ with_depth_at xs i n → IsPermutation ys zs → IsPermutation (keys_in xs) (keys_in zs)
placed_keys i n xs ys zs is p = subst (λ l. IsPermutation l (keys_in zs)) (ap keys_in is ∙ keys_with_depth xs i n) (IsPermutation-map (λ (e : Key × ℕ). e.0) ys zs p)

pub placed_right : (f : Forest) (i n : ℕ) (xs ys zs : List (Key × ℕ)) → i < length xs → ys ≡ with_depth_at xs i n → IfSome (slice_get xs i) (λ e. n ≡ depth_in f e.0)
    → KeepsAll (i + 1) ys zs → AreAll i (is_at f) xs → AreAll (i + 1) (is_at f) zs
unfolding KeepsAll
placed_right f i n xs ys zs within is deep kept h =
    let long : length ys ≡ length xs = ap length is ∙ long_with_depth xs i n in
    kept (is_at f) (λ k d a b. cases (cases_eq k i)
    (λ e.
    let this : get_or ys k d ≡ ((get_or xs i d).0, n) = ap (λ m. get_or ys m d) e ∙ ap (λ l. get_or l i d) is ∙ this_depth xs i n d within in
    ap (is_at f) this ∙ eq-eqb n (depth_in f (get_or xs i d).0) (at_place (λ (x : Key × ℕ). n ≡ depth_in f x.0) xs i d within deep))
    (λ u. ap (is_at f) (ap (λ l. get_or l k d) is ∙ other_depth xs i n k d u) ∙ h k d (omega arith) (omega (arith, long, b))))

-- ---- what the first ones pass

pub are_all : {X : Type 0} (test : X → Bool) (n : ℕ) (xs : List X) → list_all test (take n xs) ≡ true → AreAll n test xs
are_all test zero xs h i d f g = absurd (omega arith)
are_all test (suc n) [] h i d f g = absurd (omega (arith, g))
are_all test (suc n) (x ∷ xs) h zero d f g = (and_parts (test x) (list_all test (take n xs)) h).0
are_all test (suc n) (x ∷ xs) h (suc i) d f g = are_all test n xs (and_parts (test x) (list_all test (take n xs)) h).1 i d (omega (arith, f)) (omega (arith, g))

pub all_of : {X : Type 0} (test : X → Bool) (n : ℕ) (xs : List X) → AreAll n test xs → list_all test (take n xs) ≡ true
all_of test zero xs h = refl
all_of test (suc n) [] h = refl
all_of test (suc n) (x ∷ xs) h =
    let here : test x ≡ true = h 0 x (omega arith) (omega arith) in
    let rest : list_all test (take n xs) ≡ true = all_of test n xs (λ i d f g. h (suc i) d (omega (arith, f)) (omega (arith, g))) in
    λ j. here j && rest j

-- ---- whose turn it is

-- where two keys lie as deep as is kept, their turns are as their places
same_turn : (f : Forest) (a b : Key × ℕ) → level_of a ≡ depth_in f a.0 → level_of b ≡ depth_in f b.0 → placed_cmp a b ≡ turn_cmp f a.0 b.0
same_turn f a b p q = λ i. ordering_then (nat_cmp (rank_of a.0) (rank_of b.0)) (ordering_then (nat_cmp (p i) (q i)) (key_cmp a.0 b.0))

right_level : (f : Forest) (a : Key × ℕ) → is_at f a ≡ true → level_of a ≡ depth_in f a.0
right_level f (key.Copy n kind name, depth) h = eqb-true depth (depth_in f (key.Copy n kind name)) h
right_level f (key.Tree n, depth) h = refl
right_level f (key.Report n, depth) h = refl
right_level f (key.Child n m, depth) h = refl
right_level f (key.Anchor n m, depth) h = refl
right_level f (key.Used n m, depth) h = refl
right_level f (key.Purge n, depth) h = refl

-- only a copy's depth counts
no_depth : (f : Forest) (a : Key × ℕ) → (rank_of a.0 ≡ 3) ⊎ (level_of a ≡ depth_in f a.0)
no_depth f (key.Copy n kind name, depth) = inl refl
no_depth f (key.Tree n, depth) = inr refl
no_depth f (key.Report n, depth) = inr refl
no_depth f (key.Child n m, depth) = inr refl
no_depth f (key.Anchor n m, depth) = inr refl
no_depth f (key.Used n m, depth) = inr refl
no_depth f (key.Purge n, depth) = inr refl

later : (a b : ℕ) (o : Ordering) → b < a → is_lt (ordering_then (nat_cmp a b) o) ≡ false
later a b o h = ap (λ r. is_lt (ordering_then r o)) (sym (nat_cmp_is a b Greater h))

early_turn : (f : Forest) (a b : Key × ℕ) → rank_of b.0 < 3 → is_lt (placed_cmp a b) ≡ false → is_lt (turn_cmp f a.0 b.0) ≡ false
early_turn f a b low h = cases (no_depth f b) (λ e. absurd (omega (arith, e, low)))
    (λ q. cases (no_depth f a)
    (λ e. later (rank_of a.0) (rank_of b.0) (ordering_then (nat_cmp (depth_in f a.0) (depth_in f b.0)) (key_cmp a.0 b.0)) (omega (arith, e, low)))
    (λ p. sym (ap is_lt (same_turn f a b p q)) ∙ h))

-- what holds of each key by its place holds of all that are there
each_key : (P : Key → Type 0) (es : List (Key × ℕ)) (d : Key × ℕ) → ((i : ℕ) → i < length es → P (get_or es i d).0) → (j : Key) → is_among j (keys_in es) ≡ true → P j
each_key P [] d h j there = absurd (true≢false (sym there))
each_key P (e ∷ es) d h j there = cases (or_cases (same_key j e.0) (is_among j (keys_in es)) there)
    (λ same. subst P (sym (same_key_is j e.0 same)) (h 0 (omega arith)))
    (λ rest. each_key P es d (λ i l. h (suc i) (omega (arith, l))) j rest)

front : (f : Forest) (es : List (Key × ℕ)) (k : Key) → slice_get (keys_in es) 0 ≡ Some k
    → ((e : Key × ℕ) → e.0 ≡ k → e ≡ get_or es 0 e → (i : ℕ) → i < length es → is_lt (turn_cmp f (get_or es i e).0 e.0) ≡ false) → IsFirst f (keys_in es) k
front f [] k is h = absurd (none-some k is)
front f (e ∷ es) k is h =
    let same : e.0 ≡ k = same_Some e.0 k is in
    record {
      there = subst (λ x. is_among x (e.0 ∷ keys_in es) ≡ true) same (ap (λ b. b || is_among e.0 (keys_in es)) (same_key_itself e.0));
      least = λ j there. subst (λ x. is_lt (turn_cmp f j x) ≡ false) same (each_key (λ x. is_lt (turn_cmp f x e.0) ≡ false) (e ∷ es) e (h e same refl) j there);
    }

pub first_current : (f : Forest) (n : ℕ) (es : List (Key × ℕ)) (k : Key) → n ≡ length es → IsHeap placed_cmp n es → AreAll n (is_at f) es → slice_get (keys_in es) 0 ≡ Some k → IsFirst f (keys_in es) k
first_current f n es k all heap right is = front f es k is
    (λ e same head i l.
    let here : is_at f e ≡ true = ap (is_at f) head ∙ right 0 e (omega (arith, all, l)) (omega (arith, l)) in
    let there : is_at f (get_or es i e) ≡ true = right i e (omega (arith, all, l)) l in
    sym (ap is_lt (same_turn f (get_or es i e) e (right_level f (get_or es i e) there) (right_level f e here)))
    ∙ ap (λ x. is_lt (placed_cmp (get_or es i e) x)) head ∙ top placed_cmp placed_total n es e heap i (omega (arith, all, l)))

pub first_early : (f : Forest) (n : ℕ) (es : List (Key × ℕ)) (k : Key) → n ≡ length es → IsHeap placed_cmp n es → IfSome (slice_get (keys_in es) 0) (λ x. true ≡ nat_lt (rank_of x) 3) → slice_get (keys_in es) 0 ≡ Some k → IsFirst f (keys_in es) k
first_early f n es k all heap early is = front f es k is
    (λ e same head i l.
    let low : true ≡ nat_lt (rank_of k) 3 = subst (λ o. IfSome o (λ x. true ≡ nat_lt (rank_of x) 3)) is early in
    let below : rank_of e.0 < 3 = ltb-true (rank_of e.0) 3 (ap (λ x. nat_lt (rank_of x) 3) same ∙ sym low) in
    early_turn f (get_or es i e) e below (ap (λ x. is_lt (placed_cmp (get_or es i e) x)) head ∙ top placed_cmp placed_total n es e heap i (omega (arith, all, l))))

-- no keys, so none at the front
pub first_none : (f : Forest) (ks : List Key) (k : Key) → ks ≡ [] → slice_get ks 0 ≡ Some k → IsFirst f ks k
first_none f ks k none is = absurd (none-some k (sym (ap (λ l. slice_get l 0) none) ∙ is))
