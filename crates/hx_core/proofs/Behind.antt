-- Entries behind a key, in a list whose keys rise.
--     next_behind      those behind a key are the first one that is, and those behind it
--     none_behind      where there is no first one there are none
--     found_passes, found_all      what the first one that is found meets
--     filter_whole     a filter that leaves out nothing leaves the list
--     is_some-front, is_some-split, is_some-filter      where a key is found
use Rattle.std.proofs.Common.{◌≡◌, ◌≤◌, ℕ, suc, Bool, true, false, cond, ◌&&◌, List, [], ◌∷◌, ◌++◌, length, Some, None, is_some, Ordering, Less, Equal, Greater, refl, sym, ap, subst, ◌∙◌, arith, true≢false}
use Rattle.std.specs.Prelude.{T, filter, find as find_first}
use Rattle.std.specs.List.{AllByRecursion}
use Rattle.std.specs.Cmp.{tied_itself}
use Rattle.std.specs.Cmp.Lexicographic.{nat_list_cmp_total}
use Rattle.std.specs.FinMap.{find, is_sorted}
use Rattle.std.specs.FinMap.Entries.{below_all}
use Rattle.std.specs.Ordering.{is_lt, is_eq, eq_by_cmp, ordering_reverse}
use Rattle.hx_object.specs.Texts.{bytes_cmp}
use Rattle.hx_ports.specs.Rows.{Entry}

-- the entry lies behind the key
abbrev pub is_behind : List ℕ → Entry → Bool
is_behind key e = is_lt (bytes_cmp key e.0)

-- ---- orders

pub less_of : (r : Ordering) → is_lt r ≡ true → r ≡ Less
less_of Less is = refl
less_of Equal is = absurd (true≢false (sym is))
less_of Greater is = absurd (true≢false (sym is))

less_T : (r : Ordering) → T (is_lt r) → r ≡ Less
less_T Less is = refl
less_T Equal is = absurd is
less_T Greater is = absurd is

both_T : (a b : Bool) → T (a && b) → T a × T b
both_T true b h = (tt, h)
both_T false b h = absurd h

-- what is greater isn't less
pub not_back : (a b : List ℕ) → bytes_cmp a b ≡ Less → is_lt (bytes_cmp b a) ≡ false
not_back a b less = ap is_lt (nat_list_cmp_total.antisymm b a ∙ ap ordering_reverse less)

-- ---- what is found

pub found_all : {A : Type 0} (P : A → Type 0) (p : A → Bool) (xs : List A) (x : A) → AllByRecursion P xs → find_first p xs ≡ Some x → P x
found_all P p [] x all is = absurd (let h : None ≡ Some x = is in cc)
found_all P p (y ∷ ys) x all is =
    elim (p y) as (λ b. cond b (Some y) (find_first p ys) ≡ Some x → P x) [
      | true ↦ λ some. subst P (let h : y ≡ x = cc in h) all.0
      | false ↦ λ rest. found_all P p ys x all.1 rest
    ] is

pub found_passes : {A : Type 0} (p : A → Bool) (xs : List A) (x : A) → find_first p xs ≡ Some x → p x ≡ true
found_passes p [] x is = absurd (let h : None ≡ Some x = is in cc)
found_passes p (y ∷ ys) x is =
    elim (p y) as (λ b. p y ≡ b → cond b (Some y) (find_first p ys) ≡ Some x → p x ≡ true) [
      | true ↦ λ here some. let same : y ≡ x = cc in ap p (sym same) ∙ here
      | false ↦ λ here rest. found_passes p ys x rest
    ] refl is

pub none_behind : {A : Type 0} (p : A → Bool) (xs : List A) → find_first p xs ≡ None → filter p xs ≡ []
none_behind p [] is = refl
none_behind p (x ∷ xs) is =
    elim (p x) as (λ b. cond b (Some x) (find_first p xs) ≡ None → cond b (x ∷ filter p xs) (filter p xs) ≡ []) [
      | true ↦ λ some. absurd (let h : Some x ≡ None = some in cc)
      | false ↦ λ rest. none_behind p xs rest
    ] is

-- ---- filters

keep_all : {A : Type 0} (p : A → Bool) (xs : List A) → AllByRecursion (λ x. p x ≡ true) xs → filter p xs ≡ xs
keep_all p [] all = refl
keep_all p (x ∷ xs) all = ap (λ b. cond b (x ∷ filter p xs) (filter p xs)) all.0 ∙ ap (λ l. x ∷ l) (keep_all p xs all.1)

pub all_kept : {A : Type 0} (p : A → Bool) (xs : List A) → AllByRecursion (λ x. p x ≡ true) xs → filter p xs ≡ xs
all_kept p xs all = keep_all p xs all

pub filter_at_most : {A : Type 0} (p : A → Bool) (xs : List A) → length (filter p xs) ≤ length xs
filter_at_most p [] = omega arith
filter_at_most p (x ∷ xs) =
    let rest = filter_at_most p xs in
    elim (p x) as (λ b. length (cond b (x ∷ filter p xs) (filter p xs)) ≤ suc (length xs)) [ true ↦ omega (arith, rest) | false ↦ omega (arith, rest) ]

pub filter_whole : {A : Type 0} (p : A → Bool) (xs : List A) → length xs ≤ length (filter p xs) → filter p xs ≡ xs
filter_whole p [] long = refl
filter_whole p (x ∷ xs) long =
    elim (p x) as (λ b. suc (length xs) ≤ length (cond b (x ∷ filter p xs) (filter p xs)) → cond b (x ∷ filter p xs) (filter p xs) ≡ x ∷ xs) [
      | true ↦ λ more. ap (λ l. x ∷ l) (filter_whole p xs (omega (arith, more)))
      | false ↦ λ more. absurd (let most = filter_at_most p xs in omega (arith, more, most))
    ] long

-- ---- the next entry

above_all : (key : List ℕ) (es : List Entry) → T (below_all bytes_cmp key es) → AllByRecursion (λ (e : Entry). bytes_cmp key e.0 ≡ Less) es
above_all key [] h = tt
above_all key (e ∷ es) h = let parts = both_T (is_lt (bytes_cmp key e.0)) (below_all bytes_cmp key es) h in (less_T (bytes_cmp key e.0) parts.0, above_all key es parts.1)

behind_all : (low high : List ℕ) (es : List Entry) → bytes_cmp low high ≡ Less → AllByRecursion (λ (e : Entry). bytes_cmp high e.0 ≡ Less) es → AllByRecursion (λ e. is_behind low e ≡ true) es
behind_all low high [] less all = tt
behind_all low high (e ∷ es) less all = (ap is_lt (nat_list_cmp_total.trans low high e.0 less all.0), behind_all low high es less all.1)

pub still_behind : (key : List ℕ) (es : List Entry) → AllByRecursion (λ (e : Entry). bytes_cmp key e.0 ≡ Less) es → AllByRecursion (λ e. is_behind key e ≡ true) es
still_behind key [] all = tt
still_behind key (e ∷ es) all = (ap is_lt all.0, still_behind key es all.1)

first_kept : (key : List ℕ) (e : Entry) (es : List Entry) → bytes_cmp key e.0 ≡ Less → T (below_all bytes_cmp e.0 es) → filter (is_behind key) es ≡ filter (is_behind e.0) (e ∷ es)
first_kept key e es less below =
    let above = above_all e.0 es below in
    keep_all (is_behind key) es (behind_all key e.0 es less above)
    ∙ sym (ap (λ r. cond (is_lt r) (e ∷ filter (is_behind e.0) es) (filter (is_behind e.0) es)) (tied_itself nat_list_cmp_total e.0) ∙ keep_all (is_behind e.0) es (still_behind e.0 es above))

pub next_behind : (key : List ℕ) (es : List Entry) (f : Entry) → T (is_sorted bytes_cmp es) → find_first (is_behind key) es ≡ Some f → filter (is_behind key) es ≡ f ∷ filter (is_behind f.0) es
next_behind key [] f sorted is = absurd (let h : None ≡ Some f = is in cc)
next_behind key (e ∷ es) f sorted is =
    let parts = both_T (below_all bytes_cmp e.0 es) (is_sorted bytes_cmp es) sorted in
    elim (is_behind key e) as (λ b. is_behind key e ≡ b → cond b (Some e) (find_first (is_behind key) es) ≡ Some f → cond b (e ∷ filter (is_behind key) es) (filter (is_behind key) es) ≡ f ∷ filter (is_behind f.0) (e ∷ es)) [
      | true ↦ λ here some.
          let same : e ≡ f = cc in
          subst (λ (g : Entry). e ∷ filter (is_behind key) es ≡ g ∷ filter (is_behind g.0) (e ∷ es)) same (ap (λ l. e ∷ l) (first_kept key e es (less_of (bytes_cmp key e.0) here) parts.0))
      | false ↦ λ here rest.
          let above : bytes_cmp e.0 f.0 ≡ Less = found_all (λ (g : Entry). bytes_cmp e.0 g.0 ≡ Less) (is_behind key) es f (above_all e.0 es parts.0) rest in
          next_behind key es f parts.1 rest ∙ ap (λ l. f ∷ l) (sym (ap (λ b. cond b (e ∷ filter (is_behind f.0) es) (filter (is_behind f.0) es)) (not_back e.0 f.0 above)))
    ] refl is

-- ---- where a key is found

pub is_some-front : (key : List ℕ) (xs ys : List Entry) → is_some (find bytes_cmp key xs) ≡ true → is_some (find bytes_cmp key (xs ++ ys)) ≡ true
is_some-front key [] ys there = absurd (true≢false (sym there))
is_some-front key (x ∷ xs) ys there =
    elim (eq_by_cmp bytes_cmp key x.0) as (λ b. is_some (cond b (Some x.1) (find bytes_cmp key xs)) ≡ true → is_some (cond b (Some x.1) (find bytes_cmp key (xs ++ ys))) ≡ true) [
      | true ↦ λ here. refl
      | false ↦ λ rest. is_some-front key xs ys rest
    ] there

pub is_some-split : (key : List ℕ) (xs ys : List Entry) → find bytes_cmp key ys ≡ None → is_some (find bytes_cmp key (xs ++ ys)) ≡ true → is_some (find bytes_cmp key xs) ≡ true
is_some-split key [] ys none there = absurd (true≢false (sym there ∙ ap is_some none))
is_some-split key (x ∷ xs) ys none there =
    elim (eq_by_cmp bytes_cmp key x.0) as (λ b. is_some (cond b (Some x.1) (find bytes_cmp key (xs ++ ys))) ≡ true → is_some (cond b (Some x.1) (find bytes_cmp key xs)) ≡ true) [
      | true ↦ λ here. refl
      | false ↦ λ rest. is_some-split key xs ys none rest
    ] there

pub is_some-filter : (key : List ℕ) (p : Entry → Bool) (es : List Entry) → is_some (find bytes_cmp key (filter p es)) ≡ true → is_some (find bytes_cmp key es) ≡ true
is_some-filter key p [] there = there
is_some-filter key p (e ∷ es) there =
    elim (eq_by_cmp bytes_cmp key e.0) as (λ t. eq_by_cmp bytes_cmp key e.0 ≡ t → is_some (cond t (Some e.1) (find bytes_cmp key es)) ≡ true) [
      | true ↦ λ tie. refl
      | false ↦ λ apart. is_some-filter key p es (elim (p e) as (λ b. is_some (find bytes_cmp key (cond b (e ∷ filter p es) (filter p es))) ≡ true → is_some (find bytes_cmp key (filter p es)) ≡ true) [
        | true ↦ λ found. sym (ap (λ t. is_some (cond t (Some e.1) (find bytes_cmp key (filter p es)))) apart) ∙ found
        | false ↦ λ found. found
      ] there)
    ] refl

pub not_found : (key : List ℕ) (es : List Entry) → AllByRecursion (λ (e : Entry). bytes_cmp key e.0 ≡ Less) es → find bytes_cmp key es ≡ None
not_found key [] all = refl
not_found key (e ∷ es) all = ap (λ r. cond (is_eq r) (Some e.1) (find bytes_cmp key es)) all.0 ∙ not_found key es all.1
