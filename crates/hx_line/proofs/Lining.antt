-- How the keys that wait change.
--     no_keys                        at first there are none
--     there_key, behind_key, behind_line, behind_ranks    a key that is there already;  one that is put behind the others
--     removed                        the last entry takes the place of another one
--     last_is                        an entry goes behind the first ones
--     leaves_placed, leaves_other    the entry that is taken was in heap order;  or wasn't
--     taken_keys, taken_line, taken_ranks    a key that is taken
--     absent_keys                    a key that wasn't there
--     as_many                        as many keys as before
--     ranked_line                    all are in heap order
--     ranked_right, ranked_all       how deep keys lie, before and after
--     room_ranked                    the room for more stays
use Rattle.std.proofs.Common.{◌≡◌, ◌≤◌, ◌<◌, ◌+◌, ◌-◌, ℕ, zero, suc, Bool, true, false, not, cond, ◌&&◌, ◌||◌, List, [], ◌∷◌, ◌++◌, take, length, refl, sym, ap, subst, ◌∙◌, true≢false, arith, nat_lt, position, Option, Some, None, is_some, Result, Ok, Err, slice_get}
use Rattle.std.specs.Prelude.{IfSome, OnOk, IsOk}
use Rattle.std.specs.List.{IsDistinct, list_any, position_or_len, swap, swap_remove}
use Rattle.std.specs.List.Sorted.{IsPermutation}
use Rattle.std.specs.Map.{lookup}
use Rattle.std.proofs.Math.ListN.{get_or, set}
use Rattle.std.proofs.lemmas.Bool.{ltb-true}
use Rattle.std.proofs.lemmas.List.{get_or-set_other, get_or-take, get_or_append_left, length-append, length-map, map-append}
use Rattle.std.proofs.lemmas.List.Sorted.{IsPermutation-refl, IsPermutation-trans, IsPermutation-map, IsPermutation-swap_remove, length_permutation, list_any-IsPermutation}
use Rattle.std.proofs.lemmas.Map.Keys.{IsDistinct-head, IsDistinct-tail, IsDistinct-push, IsDistinct-IsPermutation}
use Rattle.std.proofs.lemmas.Option.{none-some, same_Some}
use Rattle.indexmap.specs.IndexMap.{insert_entry}
use Rattle.indexmap.proofs.MapLemmas.{absent_from_lookup, insert_entry-absent}
use Rattle.hx_model.specs.Forest.{Forest}
use Rattle.hx_model.specs.Keys.{same_key, is_among}
use Rattle.hx_model.specs.declared.key.Key.{Key}
use Rattle.hx_model.proofs.SameKeys.{key_laws, same_key_is, same_turned}
use Rattle.hx_line.specs.Heap.{IsHeap, AreAll, KeepsFewer, KeepsRest, IsOut, Leaves, placed_cmp}
use Rattle.hx_line.specs.Line.{IsRanked, KeepsRanks, is_at, keys_in, most_line, ranks_in, room_in, waiting_without, with_key, IsLine}
use Rattle.hx_line.proofs.Heaping.{as_long, swapped, fewer, none_placed}
use Rattle.hx_line.proofs.Placing.{placed_total, are_all, all_of}
use Rattle.hx_line.proofs.Sets.{without_absent, among_without, distinct_filter, head_absent, same_keys}

pub no_keys : IsLine [] 0
unfolding IsDistinct
no_keys = record { distinct = tt; within = omega arith; heap = none_placed placed_cmp placed_total []; most = omega arith }

-- whether a look-up finds a key
pub among_there : (t : Key → Bool) (es : List (Key × ℕ)) → is_some (lookup t es) ≡ list_any t (keys_in es)
among_there t [] = refl
among_there t (e ∷ es) = by (t e.0) refl (among_there t es)
  where
    by : (b : Bool) → t e.0 ≡ b → is_some (lookup t es) ≡ list_any t (keys_in es) → is_some (cond (t e.0) (Some e.1) (lookup t es)) ≡ (t e.0 || list_any t (keys_in es))
    by true h rest = ap (λ b. is_some (cond b (Some e.1) (lookup t es))) h ∙ sym (ap (λ b. b || list_any t (keys_in es)) h)
    by false h rest = ap (λ b. is_some (cond b (Some e.1) (lookup t es))) h ∙ rest ∙ sym (ap (λ b. b || list_any t (keys_in es)) h)

none_there : {X : Type 0} (o : Option X) → is_some o ≡ false → o ≡ None
none_there None h = refl
none_there (Some x) h = absurd (true≢false h)

-- ---- keys that are pushed

-- a key that is there already
pub there_key : (k : Key) (es : List (Key × ℕ)) → true ≡ is_some (lookup (same_key k) es) → keys_in es ≡ with_key k (keys_in es)
there_key k es there = sym (ap (λ b. cond b (keys_in es) (keys_in es ++ k ∷ [])) (sym (among_there (same_key k) es) ∙ sym there))

done : {X E : Type 0} (r : Result X E) (P : Type 0) → OnOk r P → IsOk r → P
done (Ok x) P h ok = h
done (Err e) P h ok = absurd (true≢false (sym ok))

-- one that isn't goes behind the others
pub behind : {X E : Type 0} (r : Result X E) (k : Key) (es new : List (Key × ℕ)) → false ≡ is_some (lookup (same_key k) es) → OnOk r (new ≡ insert_entry same_key es k 0) → IsOk r → new ≡ es ++ (k, 0) ∷ []
behind r k es new out is ok = done r (new ≡ insert_entry same_key es k 0) is ok ∙ insert_entry-absent same_key k 0 es (absent_from_lookup (same_key k) es (none_there (lookup (same_key k) es) (sym out)))

keys_behind : (k : Key) (es new : List (Key × ℕ)) → new ≡ es ++ (k, 0) ∷ [] → keys_in new ≡ keys_in es ++ k ∷ []
keys_behind k es new is = ap keys_in is ∙ map-append (λ (e : Key × ℕ). e.0) es ((k, 0) ∷ [])

pub behind_key : (k : Key) (es new : List (Key × ℕ)) → false ≡ is_some (lookup (same_key k) es) → new ≡ es ++ (k, 0) ∷ [] → keys_in new ≡ with_key k (keys_in es)
behind_key k es new out is = keys_behind k es new is ∙ sym (ap (λ b. cond b (keys_in es) (keys_in es ++ k ∷ [])) (sym (among_there (same_key k) es) ∙ sym out))

pub behind_line : (k : Key) (es new : List (Key × ℕ)) (ordered : ℕ) → false ≡ is_some (lookup (same_key k) es) → new ≡ es ++ (k, 0) ∷ [] → length es < most_line → IsLine es ordered → IsLine new ordered
behind_line k es new ordered out is less line =
    let long : length new ≡ length es + 1 = ap length is ∙ length-append es ((k, 0) ∷ []) in
    record {
      distinct = subst (IsDistinct same_key) (sym (keys_behind k es new is)) (IsDistinct-push key_laws (keys_in es) k line.distinct (sym (among_there (same_key k) es) ∙ sym out));
      within = omega (arith, long, line.within);
      heap = fewer placed_cmp placed_total ordered ordered es new (omega arith) (λ i d f. ap (λ l. get_or l i d) is ∙ get_or_append_left es ((k, 0) ∷ []) d i (omega (arith, f, line.within))) line.heap;
      most = omega (arith, long, less);
    }

take_front : {X : Type 0} (n : ℕ) (xs ys : List X) → n ≤ length xs → take n (xs ++ ys) ≡ take n xs
take_front zero xs ys l = refl
take_front (suc n) [] ys l = absurd (omega (arith, l))
take_front (suc n) (x ∷ xs) ys l = ap (λ r. x ∷ r) (take_front n xs ys (omega (arith, l)))

pub behind_ranks : (k : Key) (es new : List (Key × ℕ)) (ordered : ℕ) (current : Bool) → new ≡ es ++ (k, 0) ∷ [] → IsLine es ordered → ranks_in new ordered current ≡ ranks_in es ordered current
behind_ranks k es new ordered current is line = ap (λ l. cond current l []) (ap (take ordered) is ∙ take_front ordered es ((k, 0) ∷ []) line.within)

-- ---- an entry that is taken out

out_of : {X : Type 0} (o : Option X) (xs ys : List X) (i : ℕ) → i < length xs → o ≡ slice_get xs i → IfSome o (λ p. ys ≡ swap_remove xs i p) → (x : X) → slice_get xs i ≡ Some x → ys ≡ swap_remove xs i x
out_of {X = X} o xs ys i l is h x there = subst (λ (r : Option X). IfSome r (λ p. ys ≡ swap_remove xs i p)) (is ∙ there) h

place_of : {X : Type 0} (xs : List X) (i : ℕ) (x : X) → slice_get xs i ≡ Some x → x ≡ get_or xs i x
place_of [] i x h = absurd (none-some x h)
place_of (y ∷ ys) zero x h = sym (same_Some y x h)
place_of (y ∷ ys) (suc i) x h = place_of ys i x h

there_is : {X : Type 0} (xs : List X) (i : ℕ) → i < length xs → (x : X) × (slice_get xs i ≡ Some x)
there_is [] i l = absurd (omega (arith, l))
there_is (x ∷ xs) zero l = (x, refl)
there_is (x ∷ xs) (suc i) l = there_is xs i (omega (arith, l))

any_default : {X : Type 0} (xs : List X) (i : ℕ) (c d : X) → i < length xs → get_or xs i c ≡ get_or xs i d
any_default [] i c d l = absurd (omega (arith, l))
any_default (x ∷ xs) zero c d l = refl
any_default (x ∷ xs) (suc i) c d l = any_default xs i c d (omega (arith, l))

-- the last entry takes the place of another one
pub removed : {X : Type 0} (o : Option X) (xs ys : List X) (i : ℕ) → i < length xs → o ≡ slice_get xs i → IfSome o (λ p. ys ≡ swap_remove xs i p) → IsOut i xs ys
removed {X} o xs ys i l is h =
    let some = there_is xs i l in
    let x = some.0 in
    let at = out_of o xs ys i l is h in
    let whole : (y : X) → slice_get xs i ≡ Some y → IsPermutation xs (y ∷ ys) = λ y e. subst (λ z. IsPermutation xs (y ∷ z)) (sym (at y e)) (IsPermutation-swap_remove xs i y l (place_of xs i y e)) in
    let count = length_permutation xs (x ∷ ys) (whole x some.1) in
    record {
      long = omega (arith, count);
      out = whole;
      same = λ k d f. ap (λ z. get_or z k d) (at x some.1) ∙ get_or-take (length xs - 1) (set xs i (get_or xs (length xs - 1) x)) k d (omega (arith, f, l)) ∙ get_or-set_other xs i k (get_or xs (length xs - 1) x) d (omega (arith, f));
    }

-- the item that went behind the first ones
pub last_is : {X : Type 0} (n at : ℕ) (old mid new : List X) → at < n → n < length old → mid ≡ swap old at n → IsPermutation mid new → KeepsRest n mid new → slice_get new n ≡ slice_get old at
unfolding KeepsRest
last_is n at old mid new below within is moved rest =
    let some = there_is old at (omega (arith, below, within)) in
    let x = some.0 in
    let long : length new ≡ length old = length_permutation mid new moved ∙ ap length is ∙ as_long old at n in
    let here : get_or new n x ≡ get_or old at x = rest n x (omega arith) ∙ (swapped old mid at n x (omega (arith, below, within)) within is).1 in
    let end = there_is new n (omega (arith, long, within)) in
    end.1 ∙ ap Some (place_of new n end.0 end.1 ∙ any_default new n end.0 x (omega (arith, long, within)) ∙ here ∙ sym (place_of old at x some.1)) ∙ sym some.1

-- it was in heap order, and was moved behind the others
pub leaves_placed : (ordered at left : ℕ) (old mid new : List (Key × ℕ)) → at < ordered → ordered ≤ length old → left + 1 ≡ ordered → IsPermutation old mid → slice_get mid left ≡ slice_get old at
    → IsHeap placed_cmp left mid → KeepsFewer left old mid → IsOut left mid new → Leaves ordered at old new left
unfolding KeepsFewer
leaves_placed ordered at left old mid new in' within one moved last heap kept out =
    let long = length_permutation old mid moved in
    let less = out.long in
    record {
      long = omega (arith, long, less);
      out = λ x there. IsPermutation-trans old mid (x ∷ new) moved (out.out x (last ∙ there));
      within = omega (arith, long, less, one, within);
      heap = fewer placed_cmp placed_total left left mid new (omega arith) (λ k d f. out.same k d f) heap;
      kept = λ test all i d f g. ap test (out.same i d f) ∙ kept test (subst (λ n. AreAll n test old) (sym one) all) i d f (omega (arith, less, g));
    }

-- or it was behind them
pub leaves_other : (ordered at : ℕ) (old new : List (Key × ℕ)) → ordered ≤ at → at < length old → IsHeap placed_cmp ordered old → IsOut at old new → Leaves ordered at old new ordered
leaves_other ordered at old new behind within heap out =
    let less = out.long in
    record {
      long = less;
      out = out.out;
      within = omega (arith, less, behind, within);
      heap = fewer placed_cmp placed_total ordered ordered old new (omega arith) (λ k d f. out.same k d (omega (arith, f, behind))) heap;
      kept = λ test all i d f g. ap test (out.same i d (omega (arith, f, behind))) ∙ all i d f (omega (arith, less, g));
    }

-- ---- keys that are taken

-- a key that wasn't there
pub absent_keys : (k : Key) (es : List (Key × ℕ)) → is_some (lookup (same_key k) es) ≡ false → IsPermutation (keys_in es) (waiting_without (keys_in es) k)
absent_keys k es out = subst (IsPermutation (keys_in es)) (sym (without_absent k (keys_in es) (sym (among_there (same_key k) es) ∙ out))) (IsPermutation-refl (keys_in es))

pub same_ranks : (ranks : List (Key × ℕ)) → KeepsRanks ranks ranks
same_ranks ranks = λ test h. h

found : (t : Key → Bool) (ks : List Key) → position_or_len t ks < length ks → IfSome (slice_get ks (position_or_len t ks)) (λ x. t x ≡ true)
found t [] l = absurd (omega (arith, l))
found t (x ∷ xs) l = by (t x) refl (found t xs)
  where
    at : ℕ → Type 0
    at n = IfSome (slice_get (x ∷ xs) n) (λ y. t y ≡ true)

    by : (b : Bool) → t x ≡ b → (position_or_len t xs < length xs → IfSome (slice_get xs (position_or_len t xs)) (λ y. t y ≡ true)) → IfSome (slice_get (x ∷ xs) (position_or_len t (x ∷ xs))) (λ y. t y ≡ true)
    by true e rest =
        let here : 0 ≡ position_or_len t (x ∷ xs) = sym (ap (λ b. cond (not b) (1 + position_or_len t xs) 0) e) in
        subst at here e
    by false e rest =
        let here : position_or_len t (x ∷ xs) ≡ 1 + position_or_len t xs = ap (λ b. cond (not b) (1 + position_or_len t xs) 0) e in
        let next : suc (position_or_len t xs) ≡ position_or_len t (x ∷ xs) = omega (arith, here) in
        subst at next (rest (omega (arith, here, l)))

-- the key that is found by itself
pub placed_at : (k : Key) (ks : List Key) (i : ℕ) → Some i ≡ position (same_key k) ks → slice_get ks i ≡ Some k
placed_at k ks i is = by (nat_lt (position_or_len (same_key k) ks) (length ks)) refl
  where
    n : ℕ
    n = position_or_len (same_key k) ks

    so : (o : Option Key) → slice_get ks i ≡ o → is_some o ≡ true → IfSome o (λ x. same_key k x ≡ true) → slice_get ks i ≡ Some k
    so None e some h = absurd (true≢false (sym some))
    so (Some x) e some h = e ∙ ap Some (sym (same_key_is k x h))

    by : (b : Bool) → nat_lt n (length ks) ≡ b → slice_get ks i ≡ Some k
    by true e =
        let same : i ≡ n = same_Some i n (is ∙ ap (λ b. cond b (Some n) None) e) in
        let below : n < length ks = ltb-true n (length ks) e in
        let some = there_is ks i (omega (arith, same, below)) in
        so (slice_get ks i) refl (ap is_some some.1) (subst (λ m. IfSome (slice_get ks m) (λ x. same_key k x ≡ true)) (sym same) (found (same_key k) ks below))
    by false e = absurd (none-some i (sym (is ∙ ap (λ b. cond b (Some n) None) e)))

entry_at : (es : List (Key × ℕ)) (i : ℕ) (k : Key) → slice_get (keys_in es) i ≡ Some k → (n : ℕ) × (slice_get es i ≡ Some (k, n))
entry_at [] i k h = absurd (none-some k h)
entry_at (e ∷ es) zero k h = (e.1, λ j. Some (same_Some e.0 k h j, e.1))
entry_at (e ∷ es) (suc i) k h = entry_at es i k h

-- a key and the others
apart : (k : Key) (ordered at left : ℕ) (old new : List (Key × ℕ)) → Some at ≡ position (same_key k) (keys_in old) → Leaves ordered at old new left → IsPermutation (keys_in old) (k ∷ keys_in new)
apart k ordered at left old new is leaves =
    let e = entry_at old at k (placed_at k (keys_in old) at is) in
    IsPermutation-map (λ (x : Key × ℕ). x.0) old ((k, e.0) ∷ new) (leaves.out (k, e.0) e.1)

taken_out : (k : Key) (old new : List Key) → IsDistinct same_key old → IsPermutation old (k ∷ new) → IsPermutation new (waiting_without old k)
taken_out k old new d p = same_keys new (waiting_without old k) (IsDistinct-tail same_key k new whole) (distinct_filter (λ other. not (same_key k other)) old d) (λ q. by q (same_key k q) refl ∙ sym (among_without k q old))
  where
    whole : IsDistinct same_key (k ∷ new)
    whole = IsDistinct-IsPermutation same_key same_turned old (k ∷ new) p d

    by : (q : Key) (b : Bool) → same_key k q ≡ b → is_among q new ≡ (not (same_key k q) && is_among q old)
    by q true e =
        ap (λ x. is_among x new) (sym (same_key_is k q e)) ∙ head_absent k new (IsDistinct-head same_key k new whole)
        ∙ sym (ap (λ b. not b && is_among q old) e)
    by q false e =
        sym (ap (λ b. b || is_among q new) (same_turned q k ∙ e)) ∙ sym (list_any-IsPermutation (same_key q) old (k ∷ new) p)
        ∙ sym (ap (λ b. not b && is_among q old) e)

pub taken_keys : (k : Key) (ordered at left : ℕ) (old new : List (Key × ℕ)) → Some at ≡ position (same_key k) (keys_in old) → Leaves ordered at old new left → IsLine old ordered
    → IsPermutation (keys_in new) (waiting_without (keys_in old) k)
taken_keys k ordered at left old new is leaves line = taken_out k (keys_in old) (keys_in new) line.distinct (apart k ordered at left old new is leaves)

pub taken_line : (k : Key) (ordered at left : ℕ) (old new : List (Key × ℕ)) → Some at ≡ position (same_key k) (keys_in old) → Leaves ordered at old new left → IsLine old ordered → IsLine new left
taken_line k ordered at left old new is leaves line =
    let less = leaves.long in
    record {
      distinct = IsDistinct-tail same_key k (keys_in new) (IsDistinct-IsPermutation same_key same_turned (keys_in old) (k ∷ keys_in new) (apart k ordered at left old new is leaves) line.distinct);
      within = leaves.within;
      heap = leaves.heap;
      most = omega (arith, less, line.most);
    }

pub taken_ranks : (ordered at left : ℕ) (current : Bool) (old new : List (Key × ℕ)) → Leaves ordered at old new left → KeepsRanks (ranks_in old ordered current) (ranks_in new left current)
taken_ranks ordered at left true old new leaves = λ test h. all_of test left new (leaves.kept test (are_all test ordered old h))
taken_ranks ordered at left false old new leaves = λ test h. h

-- ---- all are in heap order

pub as_many : (old new : List (Key × ℕ)) → IsPermutation (keys_in old) (keys_in new) → length new ≡ length old
as_many old new p = sym (length-map new (λ (e : Key × ℕ). e.0)) ∙ length_permutation (keys_in old) (keys_in new) p ∙ length-map old (λ (e : Key × ℕ). e.0)

pub ranked_line : (ordered n : ℕ) (old new : List (Key × ℕ)) → n ≡ length new → IsPermutation (keys_in old) (keys_in new) → IsHeap placed_cmp (length new) new → IsLine old ordered → IsLine new n
ranked_line ordered n old new all p heap line =
    let long = as_many old new p in
    record {
      distinct = IsDistinct-IsPermutation same_key same_turned (keys_in old) (keys_in new) p line.distinct;
      within = omega (arith, all);
      heap = subst (λ m. IsHeap placed_cmp m new) (sym all) heap;
      most = omega (arith, long, line.most);
    }

-- the first ones lie as deep as is kept, where that is current
pub ranked_right : (f : Forest) (es : List (Key × ℕ)) (ordered : ℕ) (current : Bool) → IsRanked f (ranks_in es ordered current) → current ≡ true → AreAll ordered (is_at f) es
ranked_right f es ordered true h e = are_all (is_at f) ordered es h
ranked_right f es ordered false h e = absurd (true≢false (sym e))

pub ranked_all : (f : Forest) (es : List (Key × ℕ)) (n : ℕ) (current : Bool) → n ≡ length es → (current ≡ true → AreAll (length es) (is_at f) es) → IsRanked f (ranks_in es n current)
ranked_all f es n true all h = all_of (is_at f) n es (subst (λ m. AreAll m (is_at f) es) (sym all) (h refl))
ranked_all f es n false all h = refl

pub room_ranked : (old new : List (Key × ℕ)) (s t : ℕ) → IsPermutation (keys_in old) (keys_in new) → s ≤ t → room_in old s ≤ room_in new t
room_ranked old new s t p more =
    let long = as_many old new p in
    omega (arith, long, more)
