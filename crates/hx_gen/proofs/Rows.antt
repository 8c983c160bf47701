-- Draws, parents and asks, computed. Each expected value is written out.
use Rattle.std.proofs.Common.{◌≡◌, [], ◌∷◌, refl}
use Rattle.std.specs.Prelude.{map, codes}
use Rattle.std.specs.Fmt.{digits}
use Rattle.std.specs.List.{range_with_len}
use Rattle.hx_gen.specs.Draws.{number_after, draw_of, parent_of}
use Rattle.hx_gen.specs.Asked.{asks_of, namespace_name, role_name, namespace_ask, hierarchy_ask, role_ask, pod_ask}

first_draws : map (λ n. draw_of (number_after 1 n)) (range_with_len 1 4) ≡ 16838 ∷ 5758 ∷ 10113 ∷ 17515 ∷ []
first_draws = refl

first_parents : map (parent_of 1) (range_with_len 1 4) ≡ 0 ∷ 0 ∷ 0 ∷ 3 ∷ []
first_parents = refl

tenth_name : namespace_name 10 ≡ codes "n10"
unfolding digits
tenth_name = refl

tenth_role : role_name 10 ≡ codes "r10"
unfolding digits
tenth_role = refl

three_namespaces : asks_of 1 3 ≡ namespace_ask 0 ∷ namespace_ask 1 ∷ hierarchy_ask 1 0 ∷ namespace_ask 2 ∷ hierarchy_ask 2 0
    ∷ role_ask 0 ∷ pod_ask 0 ∷ role_ask 1 ∷ pod_ask 1 ∷ role_ask 2 ∷ pod_ask 2 ∷ []
unfolding asks_of
three_namespaces = refl
