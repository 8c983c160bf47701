-- Chains of the tree of counters: those of the tree that they count.
--     IsTreeOf f g      g has the namespaces of f, each under its parent where that is there
--     same_chain        a namespace of f has the same chain in both
--     there_counted     the same namespaces are there
--     tree_counted      the tree of counters is one of the tree that they count
--     chains            so chains are the same in both
use Rattle.std.proofs.Common.{◌≡◌, ℕ, Bool, true, false, not, ◌&&◌, Option, Some, None, List, [], ◌∷◌, ◌++◌, refl, sym, ap, ◌∙◌, subst}
use Rattle.std.specs.Prelude.{option_and_then}
use Rattle.std.proofs.lemmas.Bool.{and_parts}
use Rattle.hx_model.specs.First.{so}
use Rattle.hx_model.specs.Forest.{Forest, is_in, is_there, parent_of, chain_of}
use Rattle.hx_model.specs.State.{Objects}
use Rattle.hx_model.proofs.Climbing.{Climbs, at_top, stopped, onward, chain-Climbs, one_end}
use Rattle.hx_model.proofs.Walking.{chain_missing}
use Rattle.hx_quota.specs.Counters.{Entries, tree_of}
use Rattle.hx_quota.specs.Counting.{Counts, if_there, parent_there}
use Rattle.hx_quota.proofs.UsedSums.{in_tree}

-- g has the namespaces of f, each under its parent where that is there
pub record IsTreeOf (f g : Forest) : Type 0 where
  pub there : (n : List ℕ) → is_there f n ≡ true → is_there g n ≡ true
  pub parents : (n : List ℕ) → parent_of g n ≡ parent_there f n

module _ (f g : Forest) (is : IsTreeOf f g) where
  -- a list grows alike, where a name that isn't there is none
  climbs_there : (built : List (List ℕ)) (next : Option (List ℕ)) (all : List (List ℕ)) → Climbs f built next all → Climbs g built (option_and_then (if_there f) next) all
  climbs_there built None all at_top = at_top
  climbs_there built (Some n) all (stopped stops) = at (is_there f n) refl
    where
      at : (b : Bool) → is_there f n ≡ b → Climbs g built (so b n) built
      at true there = stopped (ap (λ b. b && not (is_in n built)) (is.there n there ∙ sym there) ∙ stops)
      at false out = at_top
  climbs_there built (Some n) all (onward goes rest) =
      let there : is_there f n ≡ true = (and_parts (is_there f n) (not (is_in n built)) goes).0 in
      let up : Climbs g (built ++ n ∷ []) (parent_of g n) all = subst (λ (o : Option (List ℕ)). Climbs g (built ++ n ∷ []) o all) (sym (is.parents n)) (climbs_there (built ++ n ∷ []) (parent_of f n) all rest) in
      subst (λ b. Climbs g built (so b n) all) (sym there) (onward (ap (λ b. b && not (is_in n built)) (is.there n there ∙ sym there) ∙ goes) up)

  pub same_chain : (n : List ℕ) → is_there f n ≡ true → chain_of g n ≡ chain_of f n
  same_chain n there = one_end g [] (Some n) _ _ (chain-Climbs g n) (subst (λ b. Climbs g [] (so b n) (chain_of f n)) there (climbs_there [] (Some n) (chain_of f n) (chain-Climbs f n)))

module _ (objects : Objects) (f : Forest) (es : Entries) (counts : Counts objects f es) where
  pub there_counted : (n : List ℕ) → is_there (tree_of es) n ≡ is_there f n
  there_counted n = in_tree es n ∙ counts.there n

  pub tree_counted : IsTreeOf f (tree_of es)
  tree_counted = record { there = λ n there. there_counted n ∙ there; parents = counts.parents }

  pub chains : (n : List ℕ) → chain_of (tree_of es) n ≡ chain_of f n
  chains n = at (is_there f n) refl
    where
      at : (b : Bool) → is_there f n ≡ b → chain_of (tree_of es) n ≡ chain_of f n
      at true there = same_chain f (tree_of es) tree_counted n there
      at false out = chain_missing (tree_of es) n (there_counted n ∙ out) ∙ sym (chain_missing f n out)
