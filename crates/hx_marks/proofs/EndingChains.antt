-- Trees of which more is on its way out: the names, the parents and what is excluded stay, and only fewer are live.
--     quiet_chain      chains stay
--     quiet_above      of one that takes part all of its chain are live
--     quiet_or         a member of a chain isn't live any more, or who takes part stays
use Rattle.std.specs.Prelude.{is_none}
use Rattle.std.proofs.Common.{◌≡◌, ℕ, Bool, true, false, not, ◌&&◌, Option, Some, None, List, [], ◌∷◌, ◌++◌, ◌⊎◌, refl, sym, ap, ◌∙◌, subst, inl, inr, true≢false}
use Rattle.std.specs.List.{list_all, list_any}
use Rattle.std.specs.Str.{bytes_eq}
use Rattle.std.proofs.lemmas.Bool.{and_parts, cases_Bool, or_left, or_right}
use Rattle.hx_model.specs.declared.node.Halt.TheVariants.{InCycle, ParentMissing, IllegalParent}
use Rattle.hx_model.specs.First.{so, first}
use Rattle.hx_model.specs.Forest.{Forest, is_in, is_there, is_live, is_excluded, parent_of, chain_of, in_chain, own_halt_of, halt_of}
use Rattle.hx_model.specs.Moves.{up_to, is_eligible}
use Rattle.hx_model.specs.TreeLabels.{is_open}
use Rattle.hx_model.proofs.Climbing.{Climbs, at_top, stopped, onward, chain-Climbs, same_itself, itself, through, above_chain, chain_trans, one_end}
use Rattle.hx_model.proofs.Opening.{halts_by_members, not_live}
use Rattle.hx_model.proofs.Walking.{chain_there}
use Rattle.hx_marks.proofs.Among.{found_name, passing_name}
use Rattle.hx_marks.proofs.CreatedChains.{own_by}
use Rattle.hx_marks.proofs.OpenBelow.{in_own_chain}
use Rattle.hx_marks.proofs.TakingPart.{open_under}

all_alike : (t u : List ℕ → Bool) (xs : List (List ℕ)) → ((a : List ℕ) → is_in a xs ≡ true → t a ≡ u a) → list_all t xs ≡ list_all u xs
all_alike t u [] same = refl
all_alike t u (x ∷ xs) same =
    ap (λ b. b && list_all t xs) (same x (or_left (bytes_eq x x) (is_in x xs) (same_itself x)))
    ∙ ap (λ b. u x && b) (all_alike t u xs (λ a mem. same a (or_right (bytes_eq a x) (is_in a xs) mem)))

-- names, parents and what is excluded stay, and only fewer are live
pub record IsQuieter (f g : Forest) : Type 0 where
  pub there : (m : List ℕ) → is_there g m ≡ is_there f m
  pub parent : (m : List ℕ) → parent_of g m ≡ parent_of f m
  pub excluded : (m : List ℕ) → is_excluded g m ≡ is_excluded f m
  pub live : (m : List ℕ) → is_live g m ≡ true → is_live f m ≡ true

module _ (f g : Forest) (quieter : IsQuieter f g) where
  climbs : (built : List (List ℕ)) (next : Option (List ℕ)) (all : List (List ℕ)) → Climbs g built next all → Climbs f built next all
  climbs built None all at_top = at_top
  climbs built (Some m) all (stopped stops) = stopped (ap (λ b. b && not (is_in m built)) (sym (quieter.there m)) ∙ stops)
  climbs built (Some m) all (onward goes rest) =
      onward (ap (λ b. b && not (is_in m built)) (sym (quieter.there m)) ∙ goes) (subst (λ (p : Option (List ℕ)). Climbs f (built ++ m ∷ []) p all) (quieter.parent m) (climbs (built ++ m ∷ []) (parent_of g m) all rest))

  pub quiet_chain : (m : List ℕ) → chain_of g m ≡ chain_of f m
  quiet_chain m = one_end f [] (Some m) _ _ (climbs [] (Some m) (chain_of g m) (chain-Climbs g m)) (chain-Climbs f m)

  pub quiet_above : (m a : List ℕ) → in_chain f m a ≡ true → is_open g m ≡ true → is_live g a ≡ true
  quiet_above m a has acts =
      (and_parts (is_live g a) (not (is_excluded g a) && is_none (halt_of g a))
      (and_parts (list_all (is_eligible g) (up_to a (chain_of g m))) (is_open g a) (sym (open_under g a m (ap (is_in a) (quiet_chain m) ∙ has)) ∙ acts)).1).0

  -- ---- where all of a chain are as live as before

  module _ (m : List ℕ) (lives : (a : List ℕ) → is_in a (chain_of f m) ≡ true → is_live g a ≡ is_live f a) where
    good_same : (a : List ℕ) → is_in a (chain_of f m) ≡ true → is_none (own_halt_of g a) ≡ is_none (own_halt_of f a)
    good_same a mem = by (parent_of f a) refl
      where
        live_parent : (q : List ℕ) → parent_of f a ≡ Some q → is_live g q ≡ is_live f q
        live_parent q is = elim (cases_Bool (is_there f q)) [
          | inl there ↦ lives q (chain_trans f m a q mem (above_chain f a q (through ((chain_there f m).there a mem) is (itself there))))
          | inr gone ↦ not_live g q (quieter.there q ∙ gone) ∙ sym (not_live f q gone)
        ]

        by : (next : Option (List ℕ)) → parent_of f a ≡ next → is_none (own_halt_of g a) ≡ is_none (own_halt_of f a)
        by None is = ap (λ o. is_none (own_by g a o)) (quieter.parent a ∙ is) ∙ sym (ap (λ o. is_none (own_by f a o)) is)
        by (Some q) is =
            ap (λ o. is_none (own_by g a o)) (quieter.parent a ∙ is)
            ∙ (λ i. is_none (first (so (is_in a (quiet_chain q i)) InCycle ∷ so (not (live_parent q is i)) ParentMissing ∷ so (quieter.excluded q i) IllegalParent ∷ [])))
            ∙ sym (ap (λ o. is_none (own_by f a o)) is)

    quiet_same : is_open g m ≡ is_open f m
    quiet_same = elim (cases_Bool (is_there f m)) [
      | inl there ↦
          let halts : is_none (halt_of g m) ≡ is_none (halt_of f m) =
          halts_by_members g m (quieter.there m ∙ there)
          ∙ ap (list_all (λ a. is_none (own_halt_of g a))) (quiet_chain m)
          ∙ all_alike (λ a. is_none (own_halt_of g a)) (λ a. is_none (own_halt_of f a)) (chain_of f m) good_same
          ∙ sym (halts_by_members f m there) in
          (λ i. lives m (in_own_chain f m there) i && (not (quieter.excluded m i) && halts i))
      | inr gone ↦
          ap (λ b. b && (not (is_excluded g m) && is_none (halt_of g m))) (not_live g m (quieter.there m ∙ gone))
          ∙ sym (ap (λ b. b && (not (is_excluded f m) && is_none (halt_of f m))) (not_live f m gone))
    ]

  -- ---- either

  abbrev fallen : List ℕ → Bool
  fallen a = is_live f a && not (is_live g a)

  same_live : (before after : Bool) → (after ≡ true → before ≡ true) → (before && not after) ≡ false → after ≡ before
  same_live true true less e = refl
  same_live true false less e = absurd (true≢false e)
  same_live false true less e = sym (less refl)
  same_live false false less e = refl

  not_true : (b : Bool) → not b ≡ true → b ≡ false
  not_true true e = absurd (true≢false (sym e))
  not_true false e = refl

  pub quiet_or : (m : List ℕ) → ((a : List ℕ) × (in_chain f m a ≡ true) × (is_live f a ≡ true) × (is_live g a ≡ false)) ⊎ ((is_open g m ≡ is_open f m) × ((a : List ℕ) → is_in a (chain_of f m) ≡ true → is_live g a ≡ is_live f a))
  quiet_or m = elim (cases_Bool (list_any fallen (chain_of f m))) [
    | inl some ↦
        let found = found_name fallen (chain_of f m) some in
        let parts = and_parts (is_live f found.0) (not (is_live g found.0)) found.2 in
        inl (found.0, found.1, parts.0, not_true (is_live g found.0) parts.1)
    | inr none ↦
        let lives : (a : List ℕ) → is_in a (chain_of f m) ≡ true → is_live g a ≡ is_live f a = λ a mem. same_live (is_live f a) (is_live g a) (quieter.live a) (stands a mem none) in
        inr (quiet_same m lives, lives)
  ]
    where
      stands : (a : List ℕ) → is_in a (chain_of f m) ≡ true → list_any fallen (chain_of f m) ≡ false → fallen a ≡ false
      stands a mem none = elim (cases_Bool (fallen a)) [ inl is ↦ absurd (true≢false (sym (passing_name fallen a (chain_of f m) mem is) ∙ none)) | inr out ↦ out ]
