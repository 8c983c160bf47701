-- All walks up the parents end exactly where no namespace is in a cycle and all parents are there.
--     none_comes_back      where they end, none is in a cycle
--     end_without          where none is, they end
use Rattle.std.proofs.Common.{◌≡◌, ℕ, zero, suc, ◌+◌, ◌≤◌, Bool, true, false, not, Option, Some, None, List, [], ◌∷◌, ◌++◌, length, length-append, IfSome, refl, sym, ap, ◌∙◌, subst, inl, inr, arith, true≢false}
use Rattle.std.specs.Option.{option_map_or}
use Rattle.std.proofs.lemmas.Bool.{and_from}
use Rattle.hx_model.specs.Forest.{Forest, is_in, is_there, parent_of, chain_of, in_chain, comes_back}
use Rattle.hx_model.proofs.Climbing.{Climbs, at_top, stopped, onward, chain-Climbs, few, is_in_push, Above, itself, through, chain_above, above_chain, chain_trans}
use Rattle.hx_model.proofs.Walking.{chain_there, longer}
use Rattle.hx_quota.specs.Inside.{ends_by, AllEnd}
use Rattle.hx_quota.proofs.Ending.{free}

pub none_comes_back : (f : Forest) → AllEnd f → (n : List ℕ) → is_there f n ≡ true → comes_back f n ≡ false
none_comes_back f all n there = free f n (all n there)

-- each of those so far is below one whose parent comes next
abbrev LeadOn : Forest → List (List ℕ) → Option (List ℕ) → Type 0
LeadOn f built next = (b : List ℕ) → is_in b built ≡ true → (x : List ℕ) × Above f b x × (parent_of f x ≡ next)

module _ (f : Forest) (none : (n : List ℕ) → comes_back f n ≡ false) (closed : (m q : List ℕ) → parent_of f m ≡ Some q → is_there f q ≡ true) where
  top_there : (b x : List ℕ) → Above f b x → is_there f x ≡ true
  top_there b x up = (chain_there f b).there x (above_chain f b x up)

  parent_there : (n : List ℕ) (o : Option (List ℕ)) → parent_of f n ≡ o → IfSome o (λ p. is_there f p ≡ true)
  parent_there n None is = tt
  parent_there n (Some p) is = closed n p is

  -- a walk comes to none that it has passed
  comes_round : (built : List (List ℕ)) (n : List ℕ) → LeadOn f built (Some n) → is_in n built ≡ true → ⊥
  comes_round built n lead passed =
      let below = lead n passed in
      let round : comes_back f below.0 ≡ true = ap (λ (o : Option (List ℕ)). option_map_or (λ p. in_chain f p below.0) o false) below.2 ∙ above_chain f n below.0 below.1 in
      true≢false (sym round ∙ none below.0)

  lead_more : (built : List (List ℕ)) (n : List ℕ) → is_there f n ≡ true → LeadOn f built (Some n) → LeadOn f (built ++ n ∷ []) (parent_of f n)
  lead_more built n there lead b mem = elim (is_in_push b built n mem) [
    | inl old ↦ (let x = lead b old in (n, chain_above f b n (chain_trans f b x.0 n (above_chain f b x.0 x.1) (above_chain f x.0 n (through (top_there b x.0 x.1) x.2 (itself there)))), refl))
    | inr is ↦ (n, subst (λ (k : List ℕ). Above f k n) (sym is) (itself there), refl)
  ]

  ends_climb : (left : ℕ) (built : List (List ℕ)) (next : Option (List ℕ)) (all : List (List ℕ)) → Climbs f built next all → length all ≤ left + length built → LeadOn f built next → IfSome next (λ n. is_there f n ≡ true) → ends_by left f next ≡ true
  ends_climb left built None all at_top enough lead there = refl
  ends_climb left built (Some n) all (stopped stops) enough lead there = absurd (comes_round built n lead (passed (is_in n built) refl))
    where
      passed : (b : Bool) → is_in n built ≡ b → b ≡ true
      passed true is = refl
      passed false is = absurd (true≢false (sym (and_from (is_there f n) (not (is_in n built)) there (ap not is)) ∙ stops))
  ends_climb zero built (Some n) all (onward goes rest) enough lead there = absurd (omega (arith, longer f (built ++ n ∷ []) (parent_of f n) all rest, length-append built (n ∷ [])))
  ends_climb (suc left) built (Some n) all (onward goes rest) enough lead there =
      and_from (is_there f n) (ends_by left f (parent_of f n)) there
      (ends_climb left (built ++ n ∷ []) (parent_of f n) all rest (omega (arith, enough, length-append built (n ∷ []))) (lead_more built n there lead) (parent_there n (parent_of f n) refl))

  pub end_without : AllEnd f
  end_without n there =
      ends_climb (length f) [] (Some n) (chain_of f n) (chain-Climbs f n) (omega (arith, few f (chain_of f n) (chain_there f n))) (λ b mem. absurd (true≢false (sym mem))) there
