-- What lies at an index, once a list has changed.
--     set_here, set_other           one item is another one
--     push_here, push_before        one more is at the end
--     length_moved, moved_slot      one is gone, and the last one has filled the gap
--     cut_out                       so it is with places
--     index_keys, index_push        where names lie depends on the names alone;  one more at the end
--     index_within, own_slot        an index is below the length, and is that of one name
--     index_none                    a name without a place lies nowhere
--     keys_push, keys_changed       the names with one more place, and with a changed one
--     cut_names                     what is gone stays so where the names stay
use Rattle.std.specs.Prelude.{◌<◌, ◌==◌, slice_get, swap_remove, slice_set, slice_index_or, take, if◌then◌else◌}
use Rattle.std.proofs.Common.{◌≡◌, ℕ, zero, suc, ◌+◌, ◌-◌, Bool, true, false, cond, List, [], ◌∷◌, ◌++◌, length, Option, Some, None, option_map, refl, sym, ap, ◌∙◌, arith, true≢false}
use Rattle.std.specs.List.{IsDistinct}
use Rattle.std.specs.Map.{keys_of, lookup}
use Rattle.std.specs.Str.{bytes_eq}
use Rattle.std.proofs.lemmas.Bool.{eqb-true, eqb-false}
use Rattle.std.proofs.lemmas.Cmp.{nat_list_eq_equiv}
use Rattle.std.proofs.lemmas.List.{length-set, length-take-le}
use Rattle.std.proofs.lemmas.Map.Entries.{length-keys_of}
use Rattle.std.proofs.lemmas.Option.{none-some, same_Some, slice_get-get_or, slice_get_within}
use Rattle.hx_model.proofs.Climbing.{is_same, same_itself}
use Rattle.hx_model.proofs.Objects.{swap_tests}
use Rattle.hx_forest.specs.NodeTable.{Place, index_in, entry_in, changed_at, moved, IsCut}
use Rattle.hx_forest.proofs.Placing.{place_at_index, name_at_index, own_index}

abbrev Rows : Type 0
Rows = List (List ℕ × Place)

-- ---- one item is another one

pub set_here : {A : Type 0} (xs : List A) (i : ℕ) (x : A) → i < length xs → slice_get (slice_set xs i x) i ≡ Some x
set_here [] i x within = absurd (omega (arith, within))
set_here (y ∷ ys) zero x within = refl
set_here (y ∷ ys) (suc i) x within = set_here ys i x (omega (arith, within))

pub set_other : {A : Type 0} (xs : List A) (i j : ℕ) (x : A) → (i ≡ j → ⊥) → slice_get (slice_set xs i x) j ≡ slice_get xs j
set_other [] i j x out = refl
set_other (y ∷ ys) zero zero x out = absurd (out refl)
set_other (y ∷ ys) zero (suc j) x out = refl
set_other (y ∷ ys) (suc i) zero x out = refl
set_other (y ∷ ys) (suc i) (suc j) x out = set_other ys i j x (λ e. out (ap (λ k. suc k) e))

-- ---- one more is at the end

pub push_here : {A : Type 0} (xs : List A) (x : A) → slice_get (xs ++ x ∷ []) (length xs) ≡ Some x
push_here [] x = refl
push_here (y ∷ ys) x = push_here ys x

pub push_before : {A : Type 0} (xs : List A) (x : A) (i : ℕ) → i < length xs → slice_get (xs ++ x ∷ []) i ≡ slice_get xs i
push_before [] x i within = absurd (omega (arith, within))
push_before (y ∷ ys) x zero within = refl
push_before (y ∷ ys) x (suc i) within = push_before ys x i (omega (arith, within))

-- ---- one is gone, and the last one has filled the gap

take_get : {A : Type 0} (xs : List A) (n i : ℕ) → i < n → slice_get (take n xs) i ≡ slice_get xs i
take_get xs zero i within = absurd (omega (arith, within))
take_get [] (suc n) i within = refl
take_get (y ∷ ys) (suc n) zero within = refl
take_get (y ∷ ys) (suc n) (suc i) within = take_get ys n i (omega (arith, within))

pub length_moved : {A : Type 0} (xs : List A) (at : ℕ) (d : A) → at < length xs → length (swap_remove xs at d) + 1 ≡ length xs
length_moved xs at d within =
    let set = length-set xs at (slice_index_or xs (length xs - 1) d) in
    let less = length-take-le (length xs - 1) (slice_set xs at (slice_index_or xs (length xs - 1) d)) (omega (arith, within, set)) in
    omega (arith, less, within)

pub moved_slot : {A : Type 0} (xs : List A) (at last j : ℕ) (d : A) → last + 1 ≡ length xs → at < length xs → j < length xs → (at ≡ j → ⊥) → slice_get (swap_remove xs at d) (moved at last j) ≡ slice_get xs j
moved_slot {A} xs at last j d size at_within within apart = by (j == last) refl
  where
    end : length xs - 1 ≡ last
    end = omega (arith, size)

    filled : List A
    filled = slice_set xs at (slice_index_or xs last d)

    cut : swap_remove xs at d ≡ take last filled
    cut = ap (λ k. take k (slice_set xs at (slice_index_or xs k d))) end

    by : (b : Bool) → (j == last) ≡ b → slice_get (swap_remove xs at d) (if b then at else j) ≡ slice_get xs j
    by true same =
        let is = eqb-true j last same in
        ap (λ ys. slice_get ys at) cut
        ∙ take_get filled last at (omega (arith, size, at_within, is, apart))
        ∙ set_here xs at (slice_index_or xs last d) at_within
        ∙ sym (slice_get-get_or xs last d (omega (arith, size)))
        ∙ ap (slice_get xs) (sym is)
    by false other =
        let not_last = eqb-false j last other in
        ap (λ ys. slice_get ys j) cut
        ∙ take_get filled last j (omega (arith, size, within, not_last))
        ∙ set_other xs at j (slice_index_or xs last d) apart

-- ---- where names lie

abbrev index_names : List (List ℕ) → List ℕ → Option ℕ
index_names [] n = None
index_names (m ∷ names) n = cond (bytes_eq n m) (Some 0) (option_map (λ i. suc i) (index_names names n))

by_names : (es : Rows) (n : List ℕ) → index_in es n ≡ index_names (keys_of es) n
by_names [] n = refl
by_names (e ∷ es) n = ap (λ o. cond (bytes_eq n e.0) (Some 0) (option_map (λ i. suc i) o)) (by_names es n)

pub index_keys : (es fs : Rows) (n : List ℕ) → keys_of fs ≡ keys_of es → index_in fs n ≡ index_in es n
index_keys es fs n same = by_names fs n ∙ ap (λ names. index_names names n) same ∙ sym (by_names es n)

names_push : (names : List (List ℕ)) (n q : List ℕ) → index_names names n ≡ None → index_names (names ++ n ∷ []) q ≡ cond (bytes_eq n q) (Some (length names)) (index_names names q)
names_push [] n q none = ap (λ b. cond b (Some 0) None) (nat_list_eq_equiv.symm q n)
names_push (m ∷ names) n q none = by (bytes_eq n m) refl none (λ out. names_push names n q out)
  where
    further : (o : Option ℕ) → option_map (λ i. suc i) o ≡ None → o ≡ None
    further None _ = refl
    further (Some i) none = absurd (none-some (suc i) (sym none))

    inner : (b : Bool) (o : Option ℕ) → option_map (λ i. suc i) (cond b (Some (length names)) o) ≡ cond b (Some (suc (length names))) (option_map (λ i. suc i) o)
    inner true o = refl
    inner false o = refl

    by : (b : Bool) → bytes_eq n m ≡ b → cond b (Some 0) (option_map (λ i. suc i) (index_names names n)) ≡ None
        → (index_names names n ≡ None → index_names (names ++ n ∷ []) q ≡ cond (bytes_eq n q) (Some (length names)) (index_names names q))
        → cond (bytes_eq q m) (Some 0) (option_map (λ i. suc i) (index_names (names ++ n ∷ []) q)) ≡ cond (bytes_eq n q) (Some (suc (length names))) (cond (bytes_eq q m) (Some 0) (option_map (λ i. suc i) (index_names names q)))
    by true _ is _ = absurd (none-some 0 (sym is))
    by false other is rest = ap (λ o. cond (bytes_eq q m) (Some 0) (option_map (λ i. suc i) o)) (rest (further (index_names names n) is))
        ∙ ap (cond (bytes_eq q m) (Some 0)) (inner (bytes_eq n q) (index_names names q))
        ∙ swap_tests (bytes_eq n q) (bytes_eq q m) (Some (suc (length names))) (Some 0) (option_map (λ i. suc i) (index_names names q)) (λ here there. true≢false (sym (ap (bytes_eq n) (sym (is_same q m there)) ∙ here) ∙ other))

pub index_push : (es fs : Rows) (n q : List ℕ) → keys_of fs ≡ keys_of es ++ n ∷ [] → index_in es n ≡ None → index_in fs q ≡ cond (bytes_eq n q) (Some (length es)) (index_in es q)
index_push es fs n q is none =
    by_names fs q ∙ ap (λ names. index_names names q) is ∙ names_push (keys_of es) n q (sym (by_names es n) ∙ none)
    ∙ (λ i. cond (bytes_eq n q) (Some (length-keys_of es i)) (sym (by_names es q) i))

pub index_within : (es : Rows) (n : List ℕ) (i : ℕ) → index_in es n ≡ Some i → i < length es
index_within es n i at = by (slice_get es i) refl (name_at_index es n i at)
  where
    by : (o : Option (List ℕ × Place)) → slice_get es i ≡ o → option_map (λ e. e.0) o ≡ Some n → i < length es
    by None _ h = absurd (none-some n h)
    by (Some e) there _ = slice_get_within es i e there

-- two names lie apart
pub own_slot : (es : Rows) (p q : List ℕ) (i j : ℕ) → index_in es p ≡ Some i → index_in es q ≡ Some j → bytes_eq p q ≡ false → i ≡ j → ⊥
own_slot es p q i j at there out same =
    let one : p ≡ q = same_Some p q (sym (name_at_index es p i at) ∙ ap (λ k. option_map (λ (e : List ℕ × Place). e.0) (slice_get es k)) same ∙ name_at_index es q j there) in
    true≢false (sym (same_itself p) ∙ ap (bytes_eq p) one ∙ out)

pub index_none : (es : Rows) (n : List ℕ) → lookup (bytes_eq n) es ≡ None → index_in es n ≡ None
index_none es n none = by (index_in es n) refl
  where
    by : (o : Option ℕ) → index_in es n ≡ o → o ≡ None
    by None _ = refl
    by (Some i) at = lies (slice_get es i) refl
      where
        lies : (o : Option (List ℕ × Place)) → slice_get es i ≡ o → Some i ≡ None
        lies None there = absurd (none-some n (sym (ap (option_map (λ (e : List ℕ × Place). e.0)) there) ∙ name_at_index es n i at))
        lies (Some e) there = absurd (none-some e.1 (sym none ∙ sym (place_at_index es n) ∙ ap (λ o. option_map (λ (e : List ℕ × Place). e.1) (entry_in es o)) at ∙ ap (option_map (λ (e : List ℕ × Place). e.1)) there))

pub keys_push : (es : Rows) (n : List ℕ) (p : Place) → keys_of (es ++ (n, p) ∷ []) ≡ keys_of es ++ n ∷ []
keys_push [] n p = refl
keys_push (e ∷ es) n p = ap (λ names. e.0 ∷ names) (keys_push es n p)

pub keys_changed : (change : Place → Place) (i : ℕ) (es : Rows) → keys_of (changed_at change i es) ≡ keys_of es
keys_changed change i [] = refl
keys_changed change zero (e ∷ es) = refl
keys_changed change (suc i) (e ∷ es) = ap (λ names. e.0 ∷ names) (keys_changed change i es)

-- ---- a place is gone

pub cut_out : (es fs : Rows) (n : List ℕ) (at : ℕ) (p : List ℕ × Place) → IsDistinct bytes_eq (keys_of fs) → index_in es n ≡ Some at → fs ≡ swap_remove es at p
    → ((q : List ℕ) → lookup (bytes_eq q) fs ≡ cond (bytes_eq n q) None (lookup (bytes_eq q) es)) → IsCut es fs n at
cut_out es fs n at p distinct here is found = record {
  fewer = fewer;
  places = λ q. by q (bytes_eq n q) refl;
}
  where
    fewer : length fs + 1 ≡ length es
    fewer = ap (λ (gs : Rows). length gs + 1) is ∙ length_moved es at p (index_within es n at here)

    further : (q : List ℕ) → bytes_eq n q ≡ false → (o : Option ℕ) → index_in es q ≡ o → index_in fs q ≡ option_map (moved at (length fs)) o
    further q out None none = index_none fs q (found q ∙ ap (λ b. cond b None (lookup (bytes_eq q) es)) out ∙ sym (place_at_index es q) ∙ ap (λ o. option_map (λ (e : List ℕ × Place). e.1) (entry_in es o)) none)
    further q out (Some j) there = lies (slice_get es j) refl (name_at_index es q j there)
      where
        lies : (o : Option (List ℕ × Place)) → slice_get es j ≡ o → option_map (λ e. e.0) o ≡ Some q → index_in fs q ≡ Some (moved at (length fs) j)
        lies None _ h = absurd (none-some q h)
        lies (Some e) lie h =
            let name : e.0 ≡ q = same_Some e.0 q h in
            let there_now : slice_get fs (moved at (length fs) j) ≡ Some (q, e.1) =
            ap (λ (gs : Rows). slice_get gs (moved at (length fs) j)) is ∙ moved_slot es at (length fs) j p fewer (index_within es n at here) (index_within es q j there) (own_slot es n q at j here there out)
            ∙ lie ∙ (λ i. Some (name i, e.1)) in
            own_index fs (moved at (length fs) j) q e.1 distinct there_now

    by : (q : List ℕ) (b : Bool) → bytes_eq n q ≡ b → index_in fs q ≡ cond b None (option_map (moved at (length fs)) (index_in es q))
    by q true same = index_none fs q (found q ∙ ap (λ b. cond b None (lookup (bytes_eq q) es)) same)
    by q false out = further q out (index_in es q) refl

-- what is gone stays so where the names stay
pub cut_names : (es fs gs : Rows) (n : List ℕ) (at : ℕ) → keys_of gs ≡ keys_of fs → IsCut es fs n at → IsCut es gs n at
cut_names es fs gs n at same cut = record {
  fewer = ap (λ k. k + 1) many ∙ cut.fewer;
  places = λ q. index_keys fs gs q same ∙ cut.places q ∙ ap (λ k. cond (bytes_eq n q) None (option_map (moved at k) (index_in es q))) (sym many);
}
  where
    many : length gs ≡ length fs
    many = sym (length-keys_of gs) ∙ ap (λ (names : List (List ℕ)). length names) same ∙ length-keys_of fs
