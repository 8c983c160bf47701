-- Where namespaces stand, by their chains.
--     top_above       who stands at level 0
--     below_above     who stands below whom
--     first_tops, first_below   one namespace more is put in its place
use Rattle.std.proofs.Common.{◌≡◌, ℕ, suc, ◌-◌, Bool, true, false, cond, not, ◌&&◌, ◌||◌, Option, Some, None, List, [], ◌∷◌, ◌++◌, filter, length, refl, sym, ap, ◌∙◌, subst, arith, append_assoc, append-nil, is_none}
use Rattle.std.specs.Prelude.{◌==◌, slice_get, if◌then◌else◌}
use Rattle.std.specs.Option.{option_map_or}
use Rattle.std.specs.Cmp.{both_ways}
use Rattle.std.specs.Str.{bytes_eq}
use Rattle.std.proofs.lemmas.Bool.Decides.{nat_tests}
use Rattle.std.proofs.lemmas.Slice.Eq.{bytes_eq-Decides}
use Rattle.hx_model.specs.Forest.{Forest, parent_of, chain_of, comes_back, is_child}
use Rattle.hx_model.proofs.Climbing.{Climbs, at_top, stopped, onward, chain-Climbs}
use Rattle.hx_report.specs.Inside.{above_of, is_that}
use Rattle.hx_report.specs.Outline.{is_top, stands_below}

and_none : (a : Bool) → (a && false) ≡ false
and_none true = refl
and_none false = refl

and_all : (a : Bool) → (a && true) ≡ a
and_all true = refl
and_all false = refl

or_all : (a : Bool) → (a || true) ≡ true
or_all true = refl
or_all false = refl

turned : (a b : List ℕ) → bytes_eq a b ≡ bytes_eq b a
turned a b = both_ways (bytes_eq a b) (bytes_eq b a) (λ h. (bytes_eq-Decides b a).1 (sym ((bytes_eq-Decides a b).0 h))) (λ h. (bytes_eq-Decides a b).1 (sym ((bytes_eq-Decides b a).0 h)))

deep : (n : ℕ) → (suc (suc n) - 1 == 0) ≡ false
deep n = let e : suc (suc n) - 1 ≡ suc n = omega arith in grind (arith, nat_tests)

top_by : (cycle : Bool) (chain : List (List ℕ)) → ((length chain - 1 == 0) || cycle) ≡ is_none (if cycle then None else slice_get chain 1)
top_by true chain = or_all (length chain - 1 == 0)
top_by false [] = refl
top_by false (a ∷ []) = refl
top_by false (a ∷ b ∷ chain) = ap (λ d. d || false) (deep (length chain))

-- at level 0 stands who stands below nobody
pub top_above : (f : Forest) (n : List ℕ) → is_top f n ≡ is_none (above_of f n)
top_above f n = top_by (comes_back f n) (chain_of f n)

-- the list goes on from what it has
pub grows : (f : Forest) (built : List (List ℕ)) (next : Option (List ℕ)) (all : List (List ℕ)) → Climbs f built next all → (more : List (List ℕ)) × (all ≡ built ++ more)
grows f built None all at_top = ([], sym (append-nil built))
grows f built (Some n) all (stopped stops) = ([], sym (append-nil built))
grows f built (Some n) all (onward goes rest) =
    let on = grows f (built ++ n ∷ []) (parent_of f n) all rest in
    (n ∷ on.0, on.1 ∙ append_assoc built (n ∷ []) on.0)

-- m stands below q by its chain, where it is in no cycle
abbrev By : List ℕ → Option (List ℕ) → List (List ℕ) → Type 0
By q next chain = (option_map_or (bytes_eq q) next false && not ((length chain - 1 == 0) || false)) ≡ is_that (slice_get chain 1) q

two : (q m p : List ℕ) (more : List (List ℕ)) → By q (Some p) (m ∷ p ∷ more)
two q m p more = ap (λ d. bytes_eq q p && not (d || false)) (deep (length more)) ∙ and_all (bytes_eq q p) ∙ turned q p

by_parent : (f : Forest) (q m : List ℕ) (next : Option (List ℕ)) (chain : List (List ℕ)) → Climbs f (m ∷ []) next chain → By q next chain
by_parent f q m None chain at_top = refl
by_parent f q m (Some p) chain (stopped stops) = and_none (bytes_eq q p)
by_parent f q m (Some p) chain (onward goes rest) =
    let on = grows f (m ∷ p ∷ []) (parent_of f p) chain rest in
    subst (λ (c : List (List ℕ)). By q (Some p) c) (sym on.1) (two q m p on.0)

by_chain : (f : Forest) (q m : List ℕ) (cycle : Bool) (chain : List (List ℕ)) → Climbs f [] (Some m) chain → (is_child f q m && not ((length chain - 1 == 0) || cycle)) ≡ is_that (if cycle then None else slice_get chain 1) q
by_chain f q m true chain climbs = ap (λ b. is_child f q m && not b) (or_all (length chain - 1 == 0)) ∙ and_none (is_child f q m)
by_chain f q m false chain (stopped stops) = and_none (is_child f q m)
by_chain f q m false chain (onward goes rest) = by_parent f q m (parent_of f m) chain rest

-- who stands below whom
pub below_above : (f : Forest) (q m : List ℕ) → stands_below f q m ≡ is_that (above_of f m) q
below_above f q m = by_chain f q m (comes_back f m) (chain_of f m) (chain-Climbs f m)

-- what was put before, with the next one where it is taken, and with those of the rest that are taken
one_more : (test : List ℕ → Bool) (n : List ℕ) (takes : Bool) (before rest : List (List ℕ)) → test n ≡ takes → (before ++ (if takes then n ∷ [] else [])) ++ filter test rest ≡ before ++ filter test (n ∷ rest)
one_more test n true before rest is = append_assoc before (n ∷ []) (filter test rest) ∙ ap (λ b. before ++ cond b (n ∷ filter test rest) (filter test rest)) (sym is)
one_more test n false before rest is = ap (λ xs. xs ++ filter test rest) (append-nil before) ∙ ap (λ b. before ++ cond b (n ∷ filter test rest) (filter test rest)) (sym is)

-- one more is put at level 0, if it stands there
pub first_tops : (f : Forest) (n name : List ℕ) (above : Option (List ℕ)) (old new left rest whole : List (List ℕ)) → left ≡ n ∷ rest → name ≡ n → above ≡ above_of f n → new ≡ old ++ (if is_none above then name ∷ [] else []) → old ++ filter (is_top f) left ≡ whole → new ++ filter (is_top f) rest ≡ whole
first_tops f n name above old new left rest whole begins named is put so_far =
    ap (λ xs. xs ++ filter (is_top f) rest) (put ∙ ap (λ (m : List ℕ). old ++ (if is_none above then m ∷ [] else [])) named)
    ∙ one_more (is_top f) n (is_none above) old rest (top_above f n ∙ ap is_none (sym is))
    ∙ ap (λ ns. old ++ filter (is_top f) ns) (sym begins)
    ∙ so_far

-- one more is put below q, if it stands there
pub first_below : (f : Forest) (q n name : List ℕ) (above : Option (List ℕ)) (old new left rest whole : List (List ℕ)) → left ≡ n ∷ rest → name ≡ n → above ≡ above_of f n → new ≡ old ++ (if is_that above q then name ∷ [] else []) → old ++ filter (stands_below f q) left ≡ whole → new ++ filter (stands_below f q) rest ≡ whole
first_below f q n name above old new left rest whole begins named is put so_far =
    ap (λ xs. xs ++ filter (stands_below f q) rest) (put ∙ ap (λ (m : List ℕ). old ++ (if is_that above q then m ∷ [] else [])) named)
    ∙ one_more (stands_below f q) n (is_that above q) old rest (below_above f q n ∙ ap (λ a. is_that a q) (sym is))
    ∙ ap (λ ns. old ++ filter (stands_below f q) ns) (sym begins)
    ∙ so_far
