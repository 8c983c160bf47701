-- The chain of a namespace from that of its parent, and who is below.
use Rattle.std.proofs.Common.{◌≡◌, ℕ, Bool, true, false, cond, not, ◌&&◌, ◌||◌, Option, Some, None, List, [], ◌∷◌, ◌++◌, filter, refl, sym, ap, ◌∙◌, subst, inl, inr, true≢false, append_assoc, append-nil}
use Rattle.std.proofs.lemmas.Bool.{and_parts, and_from, or_cases, or_left, not-true, not_from_false, false_from_ne_true}
use Rattle.std.specs.Str.{bytes_eq}
use Rattle.hx_model.specs.Forest.{Forest, is_in, names_of, is_there, parent_of, goes_on, chain_of, in_chain, subtree_of}
pub use Rattle.hx_model.specs.Moves.{up_to}
use Rattle.hx_model.proofs.Climbing.{Climbs, at_top, stopped, onward, chain-Climbs, is_same, same_itself, one_end, stop_reason, is_in_push}

pub out_head : (a b : Bool) → (a || b) ≡ false → a ≡ false
out_head true b h = h
out_head false b h = refl

pub out_tail : (a b : Bool) → (a || b) ≡ false → b ≡ false
out_tail true b h = absurd (true≢false h)
out_tail false b h = h

pub up_to_all : (n : List ℕ) (ms : List (List ℕ)) → is_in n ms ≡ false → up_to n ms ≡ ms
up_to_all n [] out = refl
up_to_all n (m ∷ ms) out = ap (λ b. cond b [] (m ∷ up_to n ms)) (out_head (bytes_eq n m) (is_in n ms) out) ∙ ap (λ xs. m ∷ xs) (up_to_all n ms (out_tail (bytes_eq n m) (is_in n ms) out))

up_to_here : (n : List ℕ) (ms more : List (List ℕ)) → is_in n ms ≡ false → up_to n (ms ++ n ∷ [] ++ more) ≡ ms
up_to_here n [] more out = ap (λ b. cond b [] (n ∷ up_to n more)) (same_itself n)
up_to_here n (m ∷ ms) more out = ap (λ b. cond b [] (m ∷ up_to n (ms ++ n ∷ [] ++ more))) (out_head (bytes_eq n m) (is_in n ms) out) ∙ ap (λ xs. m ∷ xs) (up_to_here n ms more (out_tail (bytes_eq n m) (is_in n ms) out))

-- the list goes on from what it has
grows : (f : Forest) (built : List (List ℕ)) (next : Option (List ℕ)) (all : List (List ℕ)) → Climbs f built next all → (more : List (List ℕ)) × (all ≡ built ++ more)
grows f built None all at_top = ([], sym (append-nil built))
grows f built (Some n) all (stopped stops) = ([], sym (append-nil built))
grows f built (Some n) all (onward goes rest) =
    let on = grows f (built ++ n ∷ []) (parent_of f n) all rest in
    (n ∷ on.0, on.1 ∙ append_assoc built (n ∷ []) on.0)

goes_apart : (f : Forest) (n : List ℕ) (built : List (List ℕ)) (m : List ℕ) → goes_on f (n ∷ built) m ≡ true → goes_on f built m ≡ true
goes_apart f n built m goes =
    let parts = and_parts (is_there f m) (not (is_in m (n ∷ built))) goes in
    and_from (is_there f m) (not (is_in m built)) parts.0 (not_from_false (is_in m built) (out_tail (bytes_eq m n) (is_in m built) (not-true (is_in m (n ∷ built)) parts.1)))

pub swap_same : (a b : List ℕ) → bytes_eq a b ≡ false → bytes_eq b a ≡ false
swap_same a b out = false_from_ne_true (bytes_eq b a) (λ h. true≢false (sym (subst (λ (c : List ℕ). bytes_eq a c ≡ true) (sym (is_same b a h)) (same_itself a)) ∙ out))

goes_not_n : (f : Forest) (n : List ℕ) (built : List (List ℕ)) (m : List ℕ) → goes_on f (n ∷ built) m ≡ true → bytes_eq n m ≡ false
goes_not_n f n built m goes =
    let parts = and_parts (is_there f m) (not (is_in m (n ∷ built))) goes in
    swap_same m n (out_head (bytes_eq m n) (is_in m built) (not-true (is_in m (n ∷ built)) parts.1))

stops_at_n : (f : Forest) (n : List ℕ) (built : List (List ℕ)) (m : List ℕ) → goes_on f (n ∷ built) m ≡ false → goes_on f built m ≡ true → m ≡ n
stops_at_n f n built m stops goes =
    let parts = and_parts (is_there f m) (not (is_in m built)) goes in
    elim (or_cases (bytes_eq m n) (is_in m built) (stop_reason f (n ∷ built) m stops parts.0)) [
      | inl is ↦ is_same m n is
      | inr old ↦ absurd (true≢false (sym old ∙ not-true (is_in m built) parts.1))
    ]

not_in_push : (n : List ℕ) (built : List (List ℕ)) (m : List ℕ) → is_in n built ≡ false → bytes_eq n m ≡ false → is_in n (built ++ m ∷ []) ≡ false
not_in_push n built m out apart = false_from_ne_true (is_in n (built ++ m ∷ [])) (λ h. elim (is_in_push n built m h) [
  | inl old ↦ true≢false (sym old ∙ out)
  | inr is ↦ true≢false (sym (subst (λ (c : List ℕ). bytes_eq n c ≡ true) is (same_itself n)) ∙ apart)
])

-- from the same place, a list that begins with n ends where the other comes to n
cut : (f : Forest) (n : List ℕ) (built : List (List ℕ)) (next : Option (List ℕ)) (xs ys : List (List ℕ)) → is_in n built ≡ false → Climbs f (n ∷ built) next xs → Climbs f built next ys → xs ≡ n ∷ up_to n ys
cut f n built None xs ys out at_top at_top = ap (λ zs. n ∷ zs) (sym (up_to_all n built out))
cut f n built (Some m) xs ys out (stopped _) (stopped _) = ap (λ zs. n ∷ zs) (sym (up_to_all n built out))
cut f n built (Some m) xs ys out (stopped stops) (onward goes rest) =
    let is : m ≡ n = stops_at_n f n built m stops goes in
    let on = grows f (built ++ m ∷ []) (parent_of f m) ys rest in
    let whole : ys ≡ built ++ n ∷ [] ++ on.0 = on.1 ∙ ap (λ (b : List ℕ). built ++ b ∷ [] ++ on.0) is in
    ap (λ zs. n ∷ zs) (sym (ap (up_to n) whole ∙ up_to_here n built on.0 out))
cut f n built (Some m) xs ys out (onward goes rest) (stopped stops) = absurd (true≢false (sym (goes_apart f n built m goes) ∙ stops))
cut f n built (Some m) xs ys out (onward goes left) (onward _ right) = cut f n (built ++ m ∷ []) (parent_of f m) xs ys (not_in_push n built m out (goes_not_n f n built m goes)) left right

from_first : (f : Forest) (n : List ℕ) (all : List (List ℕ)) → is_there f n ≡ true → Climbs f [] (Some n) all → Climbs f (n ∷ []) (parent_of f n) all
from_first f n all there (stopped stops) = absurd (true≢false (sym (and_from (is_there f n) true there refl) ∙ stops))
from_first f n all there (onward goes rest) = rest

-- n alone, where it names no parent
pub chain_alone : (f : Forest) (n : List ℕ) → is_there f n ≡ true → parent_of f n ≡ None → chain_of f n ≡ n ∷ []
chain_alone f n there none = one_end f (n ∷ []) None _ _ (subst (λ (p : Option (List ℕ)). Climbs f (n ∷ []) p (chain_of f n)) none (from_first f n (chain_of f n) there (chain-Climbs f n))) at_top

-- n and the chain of its parent, cut before n
pub chain_parent : (f : Forest) (n p : List ℕ) → is_there f n ≡ true → parent_of f n ≡ Some p → chain_of f n ≡ n ∷ up_to n (chain_of f p)
chain_parent f n p there is = cut f n [] (Some p) (chain_of f n) (chain_of f p) refl (subst (λ (q : Option (List ℕ)). Climbs f (n ∷ []) q (chain_of f n)) is (from_first f n (chain_of f n) there (chain-Climbs f n))) (chain-Climbs f p)

-- ---- below

pub is_in_filter : (t : List ℕ → Bool) (n : List ℕ) (names : List (List ℕ)) → is_in n (filter t names) ≡ (is_in n names && t n)
is_in_filter t n [] = refl
is_in_filter t n (m ∷ names) =
    elim (bytes_eq n m) as (λ b. bytes_eq n m ≡ b → is_in n (cond (t m) (m ∷ filter t names) (filter t names)) ≡ ((b || is_in n names) && t n)) [
      | true ↦ λ e. elim (t m) as (λ b. t m ≡ b → is_in n (cond b (m ∷ filter t names) (filter t names)) ≡ t n) [
        | true ↦ λ h. or_left (bytes_eq n m) (is_in n (filter t names)) e ∙ sym (ap t (is_same n m e) ∙ h)
        | false ↦ λ h. is_in_filter t n names ∙ ap (λ b. is_in n names && b) (ap t (is_same n m e) ∙ h) ∙ and_false (is_in n names) ∙ sym (ap t (is_same n m e) ∙ h)
      ] refl
      | false ↦ λ e. elim (t m) as (λ b. is_in n (cond b (m ∷ filter t names) (filter t names)) ≡ (is_in n names && t n)) [
        | true ↦ ap (λ b. b || is_in n (filter t names)) e ∙ is_in_filter t n names
        | false ↦ is_in_filter t n names
      ]
    ] refl
  where
    and_false : (a : Bool) → (a && false) ≡ false
    and_false true = refl
    and_false false = refl

-- a namespace of the forest is below a exactly if a is in its chain
pub in_below : (f : Forest) (n a : List ℕ) → is_in n (subtree_of f a) ≡ (is_in n (names_of f) && in_chain f n a)
in_below f n a = is_in_filter (λ m. in_chain f m a) n (names_of f)
