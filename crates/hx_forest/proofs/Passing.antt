-- The names that a walk up passes.
--     names_none                               a walk from nowhere
--     names_chain                              as many steps as the chain is long pass the chain
--     names_on, one_fewer                      one step from a place
use Rattle.std.proofs.Common.{◌≡◌, ℕ, zero, suc, ◌+◌, ◌-◌, ◌<◌, cond, not, Option, Some, None, List, [], ◌∷◌, ◌++◌, length, is_some, refl, sym, ap, ◌∙◌, arith, length-append, append_assoc, append-nil}
use Rattle.std.specs.Prelude.{option_and_then}
use Rattle.std.proofs.lemmas.Bool.{and_parts}
use Rattle.hx_model.specs.declared.node.Node.{Node}
use Rattle.hx_model.specs.Forest.{Forest, is_in, is_there, node_of, parent_of, chain_of}
use Rattle.hx_model.proofs.Climbing.{Climbs, at_top, stopped, onward, chain-Climbs}
use Rattle.hx_model.proofs.Walking.{longer}
use Rattle.hx_forest.specs.Inside.{walk_names}
use Rattle.hx_forest.specs.declared.nodes.Nodes.{Nodes}
use Rattle.hx_forest.specs.NodeTable.{Place}
use Rattle.hx_forest.specs.ParentRefs.{forest_of, node_in, place_of}
use Rattle.hx_forest.proofs.ParentRefs.{node_there}

pub names_none : (left : ℕ) (f : Forest) → walk_names left f None ≡ []
names_none zero f = refl
names_none (suc left) f = refl

climbs_names : (f : Forest) (built : List (List ℕ)) (next : Option (List ℕ)) (all : List (List ℕ)) → Climbs f built next all → (k : ℕ) → length all ≡ length built + k → all ≡ built ++ walk_names k f next
climbs_names f built None all at_top k long = sym (ap (λ xs. built ++ xs) (names_none k f) ∙ append-nil built)
climbs_names f built (Some n) all (stopped stops) k long =
    let none : k ≡ 0 = omega arith in
    sym (ap (λ (j : ℕ). built ++ walk_names j f (Some n)) none ∙ append-nil built)
climbs_names f built (Some n) all (onward goes rest) zero long = let no : ⊥ = omega (arith, longer f (built ++ n ∷ []) (parent_of f n) all rest, length-append built (n ∷ [])) in absurd no
climbs_names f built (Some n) all (onward goes rest) (suc k) long =
    let there = (and_parts (is_there f n) (not (is_in n built)) goes).0 in
    climbs_names f (built ++ n ∷ []) (parent_of f n) all rest k (omega (arith, long, length-append built (n ∷ [])))
    ∙ append_assoc built (n ∷ []) (walk_names k f (parent_of f n))
    ∙ ap (λ b. built ++ cond b (n ∷ walk_names k f (parent_of f n)) []) (sym there)

-- as many steps as the chain is long pass the chain
pub names_chain : (f : Forest) (n : List ℕ) → walk_names (length (chain_of f n)) f (Some n) ≡ chain_of f n
names_chain f n = sym (climbs_names f [] (Some n) (chain_of f n) (chain-Climbs f n) (length (chain_of f n)) (omega arith))

-- a step from a place passes its name, and goes on from the parent's
pub names_on : (left : ℕ) (nodes : Nodes) (n : List ℕ) (place : Place) → 0 < left → place_of nodes n ≡ Some place
    → walk_names left (forest_of nodes) (Some n) ≡ n ∷ walk_names (left - 1) (forest_of nodes) place.node.parent
names_on zero nodes n place pos here = let no : ⊥ = omega arith in absurd no
names_on (suc left) nodes n place pos here =
    let found : node_of (forest_of nodes) n ≡ Some place.node = node_there nodes n ∙ ap node_in here in
    let same : left ≡ suc left - 1 = omega arith in
    (λ i. cond (is_some (found i)) (n ∷ walk_names left (forest_of nodes) (option_and_then (λ (node : Node). node.parent) (found i))) [])
    ∙ ap (λ k. n ∷ walk_names k (forest_of nodes) place.node.parent) same

-- fewer are left then
pub one_fewer : (all left : List (List ℕ)) (n : List ℕ) → all ≡ n ∷ left → length left < length all
one_fewer all left n is = let more : length all ≡ suc (length left) = ap length is in omega (arith, more)
