-- Pairs where one is put in its place, or some are kept.
--     put_there               a pair that is set where its key stands is in its place
--     put_before, put_last    so is one that is inserted before the next key;  or behind all
--     ascending-with_pair     pairs stay in order where one is put
--     ascending-filter        and where some of them are kept
use Rattle.std.proofs.Common.{◌≡◌, ℕ, suc, ◌+◌, ◌<◌, ◌≤◌, Bool, true, false, cond, ◌&&◌, List, [], ◌∷◌, length, get_or, set, insert, take_while, filter, refl, sym, ap, ◌∙◌, subst, true≢false, arith, nat_eq}
use Rattle.std.specs.Ordering.{is_lt, is_eq, is_gt, ordering_reverse}
use Rattle.std.specs.declared.cmp.Ordering.{Ordering}
use Rattle.std.specs.declared.cmp.Ordering.TheVariants.{Less, Equal, Greater}
use Rattle.std.specs.Cmp.{Equal-is}
use Rattle.std.specs.Cmp.Lexicographic.{pointwise, nat_list_cmp_total, texts_ties}
use Rattle.std.specs.FinMap.Entries.{by_order}
use Rattle.std.specs.List.{AllByRecursion, prefix_len}
use Rattle.std.proofs.lemmas.Bool.{and_parts}
use Rattle.std.proofs.lemmas.List.Folds.{length-prefix_len}
use Rattle.hx_object.specs.Pairs.{has_ascending_keys, with_pair}
use Rattle.hx_object.specs.Texts.{bytes_cmp}

-- ---- the place of a key

-- how many pairs stand before it
pub place : List ℕ → List (List ℕ × List ℕ) → ℕ
place key [] = 0
place key (pair ∷ pairs) = by_order (bytes_cmp key pair.0) 0 0 (suc (place key pairs))

pub place_is : (key : List ℕ) (pairs : List (List ℕ × List ℕ)) → length (take_while (λ pair. is_gt (bytes_cmp key pair.0)) pairs) ≡ place key pairs
unfolding place
place_is key pairs = length-prefix_len (λ (pair : List ℕ × List ℕ). is_gt (bytes_cmp key pair.0)) pairs ∙ by pairs
  where
    by : (pairs : List (List ℕ × List ℕ)) → prefix_len (λ pair. is_gt (bytes_cmp key pair.0)) pairs ≡ place key pairs
    by [] = refl
    by (pair ∷ pairs) = elim (bytes_cmp key pair.0) as (λ o. cond (is_gt o) (1 + prefix_len (λ (pair : List ℕ × List ℕ). is_gt (bytes_cmp key pair.0)) pairs) 0 ≡ by_order o 0 0 (suc (place key pairs))) [
      | Less ↦ refl
      | Equal ↦ refl
      | Greater ↦ omega (arith, by pairs)
    ]

ties : (a b : List ℕ) → pointwise nat_eq a b ≡ is_eq (bytes_cmp a b)
ties a b = texts_ties a b

-- texts that are one tie
tied : (a b : List ℕ) → pointwise nat_eq b a ≡ true → bytes_cmp a b ≡ Equal
tied a b e = nat_list_cmp_total.antisymm a b ∙ ap ordering_reverse ((Equal-is (bytes_cmp b a)).0 (sym (ties b a) ∙ e))

apart : (a b : List ℕ) → pointwise nat_eq b a ≡ false → bytes_cmp a b ≡ Equal → ⊥
apart a b e tie = true≢false (sym (ties b a ∙ (Equal-is (bytes_cmp b a)).1 (nat_list_cmp_total.antisymm b a ∙ ap ordering_reverse tie)) ∙ e)

-- ---- what is put

module _ (key value : List ℕ) (d : List ℕ × List ℕ) where
  set_there : (pairs : List (List ℕ × List ℕ)) → place key pairs < length pairs → bytes_cmp key (get_or pairs (place key pairs) d).0 ≡ Equal
      → set pairs (place key pairs) (key, value) ≡ with_pair key value pairs
  unfolding place
  set_there [] within tie = absurd (omega arith)
  set_there (p ∷ ps) within tie =
      elim (bytes_cmp key p.0) as (λ o. bytes_cmp key p.0 ≡ o → by_order o 0 0 (suc (place key ps)) < suc (length ps) → bytes_cmp key (get_or (p ∷ ps) (by_order o 0 0 (suc (place key ps))) d).0 ≡ Equal
      → set (p ∷ ps) (by_order o 0 0 (suc (place key ps))) (key, value) ≡ by_order o ((key, value) ∷ p ∷ ps) ((key, value) ∷ ps) (p ∷ with_pair key value ps)) [
        | Less ↦ λ e w t. absurd (let h : Less ≡ Equal = sym e ∙ t in cc)
        | Equal ↦ λ e w t. refl
        | Greater ↦ λ e w t. ap (λ (l : List (List ℕ × List ℕ)). p ∷ l) (set_there ps (omega arith) t)
      ] refl within tie

  insert_there : (pairs : List (List ℕ × List ℕ)) → (place key pairs < length pairs → bytes_cmp key (get_or pairs (place key pairs) d).0 ≡ Equal → ⊥)
      → insert pairs (place key pairs) (key, value) ≡ with_pair key value pairs
  unfolding place
  insert_there [] other = refl
  insert_there (p ∷ ps) other =
      elim (bytes_cmp key p.0) as (λ o. bytes_cmp key p.0 ≡ o → (by_order o 0 0 (suc (place key ps)) < suc (length ps) → bytes_cmp key (get_or (p ∷ ps) (by_order o 0 0 (suc (place key ps))) d).0 ≡ Equal → ⊥)
      → insert (p ∷ ps) (by_order o 0 0 (suc (place key ps))) (key, value) ≡ by_order o ((key, value) ∷ p ∷ ps) ((key, value) ∷ ps) (p ∷ with_pair key value ps)) [
        | Less ↦ λ e other. refl
        | Equal ↦ λ e other. absurd (other (omega arith) e)
        | Greater ↦ λ e other. ap (λ (l : List (List ℕ × List ℕ)). p ∷ l) (insert_there ps (λ w t. other (omega arith) t))
      ] refl other

-- what is read there has the key
pub put_there : (key value : List ℕ) (pairs : List (List ℕ × List ℕ)) (n : ℕ) (read : List ℕ × List ℕ) → n ≡ length (take_while (λ pair. is_gt (bytes_cmp key pair.0)) pairs)
    → n < length pairs → read ≡ get_or pairs n read → pointwise nat_eq read.0 key ≡ true → set pairs n (key, value) ≡ with_pair key value pairs
put_there key value pairs n read at within is e =
    let here : n ≡ place key pairs = at ∙ place_is key pairs in
    ap (λ m. set pairs m (key, value)) here
    ∙ set_there key value read pairs (omega arith) (tied key _ (subst (λ (p : List ℕ × List ℕ). pointwise nat_eq p.0 key ≡ true) (is ∙ ap (λ m. get_or pairs m read) here) e))

-- what is read there has another key
pub put_before : (key value : List ℕ) (pairs : List (List ℕ × List ℕ)) (n : ℕ) (read : List ℕ × List ℕ) → n ≡ length (take_while (λ pair. is_gt (bytes_cmp key pair.0)) pairs)
    → read ≡ get_or pairs n read → pointwise nat_eq read.0 key ≡ false → insert pairs n (key, value) ≡ with_pair key value pairs
put_before key value pairs n read at is e =
    let here : n ≡ place key pairs = at ∙ place_is key pairs in
    ap (λ m. insert pairs m (key, value)) here
    ∙ insert_there key value read pairs (λ w. apart key _ (subst (λ (p : List ℕ × List ℕ). pointwise nat_eq p.0 key ≡ false) (is ∙ ap (λ m. get_or pairs m read) here) e))

-- nothing stands there
pub put_last : (key value : List ℕ) (pairs : List (List ℕ × List ℕ)) (n : ℕ) → n ≡ length (take_while (λ pair. is_gt (bytes_cmp key pair.0)) pairs)
    → length pairs ≤ n → insert pairs n (key, value) ≡ with_pair key value pairs
put_last key value pairs n at past =
    let here : n ≡ place key pairs = at ∙ place_is key pairs in
    ap (λ m. insert pairs m (key, value)) here
    ∙ insert_there key value ([], []) pairs (λ w. absurd (omega arith))

-- ---- order

-- a key is less than those of all pairs
abbrev IsBelow : List ℕ → List (List ℕ × List ℕ) → Type 0
IsBelow key pairs = AllByRecursion (λ pair. bytes_cmp key pair.0 ≡ Less) pairs

less_is : (o : Ordering) → is_lt o ≡ true → o ≡ Less
less_is Less e = refl
less_is Equal e = absurd (true≢false (sym e))
less_is Greater e = absurd (true≢false (sym e))

below_all : (a b : List ℕ) (pairs : List (List ℕ × List ℕ)) → bytes_cmp a b ≡ Less → IsBelow b pairs → IsBelow a pairs
below_all a b [] less all = tt
below_all a b (p ∷ ps) less all = (nat_list_cmp_total.trans a b p.0 less all.0, below_all a b ps less all.1)

ascending_parts : (p : List ℕ × List ℕ) (ps : List (List ℕ × List ℕ)) → has_ascending_keys (p ∷ ps) ≡ true → IsBelow p.0 ps × (has_ascending_keys ps ≡ true)
ascending_parts p [] e = (tt, refl)
ascending_parts p (q ∷ ps) e =
    let parts = and_parts (is_lt (bytes_cmp p.0 q.0)) (has_ascending_keys (q ∷ ps)) e in
    let less = less_is _ parts.0 in
    ((less, below_all p.0 q.0 ps less (ascending_parts q ps parts.1).0), parts.1)

ascending_of : (p : List ℕ × List ℕ) (ps : List (List ℕ × List ℕ)) → IsBelow p.0 ps → has_ascending_keys ps ≡ true → has_ascending_keys (p ∷ ps) ≡ true
ascending_of p [] below e = refl
ascending_of p (q ∷ ps) below e = ap (λ o. is_lt o && has_ascending_keys (q ∷ ps)) below.0 ∙ e

below-filter : (key : List ℕ) (test : List ℕ × List ℕ → Bool) (ps : List (List ℕ × List ℕ)) → IsBelow key ps → IsBelow key (filter test ps)
below-filter key test [] below = tt
below-filter key test (p ∷ ps) below = elim (test p) as (λ b. IsBelow key (cond b (p ∷ filter test ps) (filter test ps))) [
  | true ↦ (below.0, below-filter key test ps below.1)
  | false ↦ below-filter key test ps below.1
]

pub ascending-filter : (test : List ℕ × List ℕ → Bool) (ps : List (List ℕ × List ℕ)) → has_ascending_keys ps ≡ true → has_ascending_keys (filter test ps) ≡ true
ascending-filter test [] e = refl
ascending-filter test (p ∷ ps) e =
    let parts = ascending_parts p ps e in
    elim (test p) as (λ b. has_ascending_keys (cond b (p ∷ filter test ps) (filter test ps)) ≡ true) [
      | true ↦ ascending_of p (filter test ps) (below-filter p.0 test ps parts.0) (ascending-filter test ps parts.1)
      | false ↦ ascending-filter test ps parts.1
    ]

below-with_pair : (a key value : List ℕ) (ps : List (List ℕ × List ℕ)) → bytes_cmp a key ≡ Less → IsBelow a ps → IsBelow a (with_pair key value ps)
below-with_pair a key value [] less below = (less, tt)
below-with_pair a key value (p ∷ ps) less below = elim (bytes_cmp key p.0) as (λ o. IsBelow a (by_order o ((key, value) ∷ p ∷ ps) ((key, value) ∷ ps) (p ∷ with_pair key value ps))) [
  | Less ↦ (less, below)
  | Equal ↦ (less, below.1)
  | Greater ↦ (below.0, below-with_pair a key value ps less below.1)
]

below_tied : (a b : List ℕ) (ps : List (List ℕ × List ℕ)) → bytes_cmp a b ≡ Equal → IsBelow b ps → IsBelow a ps
below_tied a b [] tie below = tt
below_tied a b (p ∷ ps) tie below = (nat_list_cmp_total.congr a b p.0 tie ∙ below.0, below_tied a b ps tie below.1)

pub ascending-with_pair : (key value : List ℕ) (ps : List (List ℕ × List ℕ)) → has_ascending_keys ps ≡ true → has_ascending_keys (with_pair key value ps) ≡ true
ascending-with_pair key value [] e = refl
ascending-with_pair key value (p ∷ ps) e =
    let parts = ascending_parts p ps e in
    elim (bytes_cmp key p.0) as (λ o. bytes_cmp key p.0 ≡ o → has_ascending_keys (by_order o ((key, value) ∷ p ∷ ps) ((key, value) ∷ ps) (p ∷ with_pair key value ps)) ≡ true) [
      | Less ↦ λ less. ascending_of (key, value) (p ∷ ps) (less, below_all key p.0 ps less parts.0) e
      | Equal ↦ λ tie. ascending_of (key, value) ps (below_tied key p.0 ps tie parts.0) parts.1
      | Greater ↦ λ more. ascending_of p (with_pair key value ps) (below-with_pair p.0 key value ps (nat_list_cmp_total.antisymm p.0 key ∙ ap ordering_reverse more) parts.0) (ascending-with_pair key value ps parts.1)
    ] refl
