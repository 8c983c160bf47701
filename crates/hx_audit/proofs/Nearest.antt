-- The sources of a chain, the nearest first, turned round.
--     farthest_first      they are those the farthest first
use Rattle.std.proofs.Common.{◌≡◌, ℕ, List, [], ◌∷◌, ◌++◌, Option, Some, None, refl, ap, ◌∙◌}
use Rattle.std.specs.Prelude.{reverse}
use Rattle.std.proofs.lemmas.List.{reverse-append}
use Rattle.hx_object.specs.declared.kind.Kind.{Kind}
use Rattle.hx_object.specs.declared.object.Object.{Object}
use Rattle.hx_audit.specs.Candidates.{nearest_first}
use Rattle.hx_model.specs.Propagation.{as_list, id_in, source_at, sources_along}
use Rattle.hx_model.specs.State.{Objects}

one_turned : (found : Option Object) → reverse (as_list found) ≡ as_list found
one_turned None = refl
one_turned (Some x) = refl

pub farthest_first : (objects : Objects) (kind : Kind) (name : List ℕ) (chain : List (List ℕ)) → reverse (nearest_first objects kind name chain) ≡ sources_along objects kind name chain
farthest_first objects kind name [] = refl
farthest_first objects kind name (a ∷ chain) =
    reverse-append (as_list (source_at objects (id_in kind name a))) (nearest_first objects kind name chain)
    ∙ ap (λ xs. xs ++ reverse (as_list (source_at objects (id_in kind name a)))) (farthest_first objects kind name chain)
    ∙ ap (λ xs. sources_along objects kind name chain ++ xs) (one_turned (source_at objects (id_in kind name a)))
