-- The chain without its measure: how the list grows, and who is in it.
use Rattle.std.specs.Prelude.{is_some, unwrap_or}
use Rattle.std.proofs.Common.{◌≡◌, ℕ, zero, suc, ◌+◌, ◌≤◌, ◌⊎◌, true, false, cond, not, ◌||◌, Option, Some, None, List, [], ◌∷◌, ◌++◌, length, refl, sym, ap, ◌∙◌, subst, inl, inr, arith, length-append, true≢false}
use Rattle.std.specs.List.{IsDistinct}
use Rattle.std.proofs.lemmas.Cmp.{nat_list_eq_equiv}
use Rattle.std.proofs.lemmas.Slice.Eq.{bytes_eq-Decides}
use Rattle.std.proofs.lemmas.Map.Keys.{IsDistinct-push}
use Rattle.std.proofs.lemmas.Map.Steps.{length-le_from_keys}
use Rattle.std.proofs.lemmas.List.Folds.{list_any-append}
use Rattle.std.proofs.lemmas.Bool.{and_parts, and_from, or_cases, or_left, or_right, not-true, not_from_false, cases_Bool}
use Rattle.std.specs.Str.{bytes_eq}
use Rattle.hx_model.specs.Forest.{Forest, is_in, is_there, parent_of, goes_on, climb, chain_of}

-- how the list grows to its end
pub data Climbs (f : Forest) : List (List ℕ) → Option (List ℕ) → List (List ℕ) → Type 0 where
  at_top : {built : List (List ℕ)} → Climbs f built None built
  stopped : {built : List (List ℕ)} {n : List ℕ} → goes_on f built n ≡ false → Climbs f built (Some n) built
  onward : {built : List (List ℕ)} {n : List ℕ} {all : List (List ℕ)} → goes_on f built n ≡ true → Climbs f (built ++ n ∷ []) (parent_of f n) all → Climbs f built (Some n) all

pub is_same : (a b : List ℕ) → bytes_eq a b ≡ true → a ≡ b
is_same a b h = (bytes_eq-Decides a b).0 h

pub same_itself : (a : List ℕ) → bytes_eq a a ≡ true
same_itself a = (bytes_eq-Decides a a).1 refl

-- what is in a list with one more at its end
pub is_in_push : (a : List ℕ) (xs : List (List ℕ)) (n : List ℕ) → is_in a (xs ++ n ∷ []) ≡ true → (is_in a xs ≡ true) ⊎ (a ≡ n)
is_in_push a xs n h = elim (or_cases (is_in a xs) (bytes_eq a n || false) (sym (list_any-append (bytes_eq a) xs (n ∷ [])) ∙ h)) [
  | inl old ↦ inl old
  | inr last ↦ elim (or_cases (bytes_eq a n) false last) [ inl is ↦ inr (is_same a n is) | inr never ↦ absurd (true≢false (sym never)) ]
]

pub old_in_push : (a : List ℕ) (xs : List (List ℕ)) (n : List ℕ) → is_in a xs ≡ true → is_in a (xs ++ n ∷ []) ≡ true
old_in_push a xs n h = list_any-append (bytes_eq a) xs (n ∷ []) ∙ or_left (is_in a xs) (bytes_eq a n || false) h

pub last_in_push : (xs : List (List ℕ)) (n : List ℕ) → is_in n (xs ++ n ∷ []) ≡ true
last_in_push xs n = list_any-append (bytes_eq n) xs (n ∷ []) ∙ or_right (is_in n xs) (bytes_eq n n || false) (or_left (bytes_eq n n) false (same_itself n))

-- the names in the list are distinct namespaces of the forest
pub record AreThere (f : Forest) (built : List (List ℕ)) : Type 0 where
  pub distinct : IsDistinct bytes_eq built
  pub there : (a : List ℕ) → is_in a built ≡ true → is_there f a ≡ true

pub AreThere-push : (f : Forest) (built : List (List ℕ)) (n : List ℕ) → goes_on f built n ≡ true → AreThere f built → AreThere f (built ++ n ∷ [])
AreThere-push f built n goes fine =
    let parts = and_parts (is_there f n) (not (is_in n built)) goes in
    record {
      distinct = IsDistinct-push nat_list_eq_equiv built n fine.distinct (not-true (is_in n built) parts.1);
      there = λ a h. elim (is_in_push a built n h) [ inl old ↦ fine.there a old | inr is ↦ subst (λ (b : List ℕ). is_there f b ≡ true) (sym is) parts.0 ];
    }

-- distinct namespaces of the forest are at most as many as the forest has
pub few : (f : Forest) (built : List (List ℕ)) → AreThere f built → length built ≤ length f
few f built fine = length-le_from_keys nat_list_eq_equiv built f fine.distinct fine.there

-- with enough left to go, the list grows to its end
pub climb-Climbs : (left : ℕ) (f : Forest) (built : List (List ℕ)) (next : Option (List ℕ)) → AreThere f built → length f ≤ left + length built → Climbs f built next (climb left f built next)
climb-Climbs zero f built None fine enough = at_top
climb-Climbs zero f built (Some n) fine enough = elim (cases_Bool (goes_on f built n)) [
  | inl goes ↦ absurd (omega (arith, few f (built ++ n ∷ []) (AreThere-push f built n goes fine), length-append built (n ∷ [])))
  | inr stops ↦ stopped stops
]
climb-Climbs (suc left) f built None fine enough = at_top
climb-Climbs (suc left) f built (Some n) fine enough =
    elim (goes_on f built n) as (λ b. goes_on f built n ≡ b → Climbs f built (Some n) (cond b (climb left f (built ++ n ∷ []) (parent_of f n)) built)) [
      | true ↦ λ goes. onward goes (climb-Climbs left f (built ++ n ∷ []) (parent_of f n) (AreThere-push f built n goes fine) (omega (arith, length-append built (n ∷ []))))
      | false ↦ λ stops. stopped stops
    ] refl

pub none_there : (f : Forest) → AreThere f []
unfolding IsDistinct
none_there f = record { distinct = tt; there = λ a h. absurd (true≢false (sym h)) }

pub chain-Climbs : (f : Forest) (n : List ℕ) → Climbs f [] (Some n) (chain_of f n)
chain-Climbs f n = climb-Climbs (length f) f [] (Some n) (none_there f) (omega arith)

-- ---- who is in the chain: n, its parent, the parent's parent and so on, as long as each is there
pub data Above (f : Forest) : List ℕ → List ℕ → Type 0 where
  itself : {n : List ℕ} → is_there f n ≡ true → Above f n n
  through : {n p a : List ℕ} → is_there f n ≡ true → parent_of f n ≡ Some p → Above f p a → Above f n a

abbrev AboveNext : Forest → Option (List ℕ) → List ℕ → Type 0
AboveNext f None a = ⊥
AboveNext f (Some n) a = Above f n a

above_from_next : (f : Forest) (n : List ℕ) (next : Option (List ℕ)) (a : List ℕ) → is_there f n ≡ true → parent_of f n ≡ next → AboveNext f next a → Above f n a
above_from_next f n None a there is h = absurd h
above_from_next f n (Some p) a there is h = through there is h

members : (f : Forest) (built : List (List ℕ)) (next : Option (List ℕ)) (all : List (List ℕ)) → Climbs f built next all → (a : List ℕ) → is_in a all ≡ true → (is_in a built ≡ true) ⊎ AboveNext f next a
members f built None all at_top a h = inl h
members f built (Some n) all (stopped stops) a h = inl h
members f built (Some n) all (onward goes rest) a h =
    let there = (and_parts (is_there f n) (not (is_in n built)) goes).0 in
    elim (members f (built ++ n ∷ []) (parent_of f n) all rest a h) [
      | inl near ↦ elim (is_in_push a built n near) [ inl old ↦ inl old | inr is ↦ inr (subst (λ (b : List ℕ). Above f n b) (sym is) (itself there)) ]
      | inr far ↦ inr (above_from_next f n (parent_of f n) a there refl far)
    ]

-- a member of the chain is above n
pub chain_above : (f : Forest) (n a : List ℕ) → is_in a (chain_of f n) ≡ true → Above f n a
chain_above f n a h = elim (members f [] (Some n) (chain_of f n) (chain-Climbs f n) a h) [ inl never ↦ absurd (true≢false (sym never)) | inr above ↦ above ]

-- each parent in the list is in it too, or comes next
abbrev IsClosedBut : Forest → List (List ℕ) → Option (List ℕ) → Type 0
IsClosedBut f built next = (m p : List ℕ) → is_in m built ≡ true → parent_of f m ≡ Some p → (is_in p built ≡ true) ⊎ (next ≡ Some p)

inside : (a b : List ℕ) → Some a ≡ Some b → a ≡ b
inside a b e = ap (λ o. unwrap_or o a) e

not_none : (a : List ℕ) → None ≡ Some a → ⊥
not_none a e = true≢false (sym (ap is_some e))

-- where the list stops before n, n is in it or isn't there
pub stop_reason : (f : Forest) (built : List (List ℕ)) (n : List ℕ) → goes_on f built n ≡ false → is_there f n ≡ true → is_in n built ≡ true
stop_reason f built n stops there = elim (cases_Bool (is_in n built)) [
  | inl mem ↦ mem
  | inr out ↦ absurd (true≢false (sym (and_from (is_there f n) (not (is_in n built)) there (not_from_false (is_in n built) out)) ∙ stops))
]

closed_push : (f : Forest) (built : List (List ℕ)) (n : List ℕ) → IsClosedBut f built (Some n) → IsClosedBut f (built ++ n ∷ []) (parent_of f n)
closed_push f built n but m p mem is = elim (is_in_push m built n mem) [
  | inl old ↦ elim (but m p old is) [
    | inl mem_p ↦ inl (old_in_push p built n mem_p)
    | inr last ↦ inl (subst (λ (b : List ℕ). is_in b (built ++ n ∷ []) ≡ true) (inside n p last) (last_in_push built n))
  ]
  | inr same ↦ inr (subst (λ (b : List ℕ). parent_of f b ≡ Some p) same is)
]

closed : (f : Forest) (built : List (List ℕ)) (next : Option (List ℕ)) (all : List (List ℕ)) → Climbs f built next all → IsClosedBut f built next
    → (m p : List ℕ) → is_in m all ≡ true → parent_of f m ≡ Some p → is_there f p ≡ true → is_in p all ≡ true
closed f built None all at_top but m p mem is there = elim (but m p mem is) [ inl old ↦ old | inr none ↦ absurd (not_none p none) ]
closed f built (Some n) all (stopped stops) but m p mem is there = elim (but m p mem is) [
  | inl old ↦ old
  | inr last ↦ stop_reason f built p (subst (λ (b : List ℕ). goes_on f built b ≡ false) (inside n p last) stops) there
]
closed f built (Some n) all (onward goes rest) but m p mem is there = closed f (built ++ n ∷ []) (parent_of f n) all rest (closed_push f built n but) m p mem is there

-- the list keeps what it has
pub kept : (f : Forest) (built : List (List ℕ)) (next : Option (List ℕ)) (all : List (List ℕ)) → Climbs f built next all → (a : List ℕ) → is_in a built ≡ true → is_in a all ≡ true
kept f built None all at_top a h = h
kept f built (Some n) all (stopped stops) a h = h
kept f built (Some n) all (onward goes rest) a h = kept f (built ++ n ∷ []) (parent_of f n) all rest a (old_in_push a built n h)

-- it begins with n, where n is there
begins : (f : Forest) (n : List ℕ) (all : List (List ℕ)) → Climbs f [] (Some n) all → is_there f n ≡ true → is_in n all ≡ true
begins f n all (stopped stops) there = stop_reason f [] n stops there
begins f n all (onward goes rest) there = kept f (n ∷ []) (parent_of f n) all rest n (or_left (bytes_eq n n) false (same_itself n))

above_there : (f : Forest) (n a : List ℕ) → Above f n a → is_there f n ≡ true
above_there f n a (itself there) = there
above_there f n a (through there is rest) = there

climbs_closed : (f : Forest) (n : List ℕ) (m p : List ℕ) → is_in m (chain_of f n) ≡ true → parent_of f m ≡ Some p → is_there f p ≡ true → is_in p (chain_of f n) ≡ true
climbs_closed f n = closed f [] (Some n) (chain_of f n) (chain-Climbs f n) (λ m p mem is. absurd (true≢false (sym mem)))

from_member : (f : Forest) (n m a : List ℕ) → is_in m (chain_of f n) ≡ true → Above f m a → is_in a (chain_of f n) ≡ true
from_member f n m a mem (itself there) = mem
from_member f n m a mem (through {p = p} there is rest) = from_member f n p a (climbs_closed f n m p mem is (above_there f p a rest)) rest

-- what is above n is in its chain
pub above_chain : (f : Forest) (n a : List ℕ) → Above f n a → is_in a (chain_of f n) ≡ true
above_chain f n a h = from_member f n n a (begins f n (chain_of f n) (chain-Climbs f n) (above_there f n a h)) h

above_chains : (f : Forest) (n b a : List ℕ) → Above f n b → Above f b a → Above f n a
above_chains f n b a (itself there) h = h
above_chains f n b a (through there is rest) h = through there is (above_chains f _ b a rest h)

-- a chain has the chains of its members
pub chain_trans : (f : Forest) (n b a : List ℕ) → is_in b (chain_of f n) ≡ true → is_in a (chain_of f b) ≡ true → is_in a (chain_of f n) ≡ true
chain_trans f n b a low high = above_chain f n a (above_chains f n b a (chain_above f n b low) (chain_above f b a high))

-- a list grows to one end alone
pub one_end : (f : Forest) (built : List (List ℕ)) (next : Option (List ℕ)) (xs ys : List (List ℕ)) → Climbs f built next xs → Climbs f built next ys → xs ≡ ys
one_end f built None xs ys at_top at_top = refl
one_end f built (Some n) xs ys (stopped stops) (stopped _) = refl
one_end f built (Some n) xs ys (stopped stops) (onward goes _) = absurd (true≢false (sym goes ∙ stops))
one_end f built (Some n) xs ys (onward goes _) (stopped stops) = absurd (true≢false (sym goes ∙ stops))
one_end f built (Some n) xs ys (onward goes left) (onward _ right) = one_end f (built ++ n ∷ []) (parent_of f n) xs ys left right
