-- Names in ascending order.
--     IsAscending names      each name is below those after it
--     NamesView              the names, and how many more fit without taking memory
use Rattle.std.specs.Prelude.{ℕ, List, refl}
use Rattle.std.specs.Coded.{Coded, code_by, coded×, coded_list, coded_ℕ}
use Rattle.std.specs.List.Sorted.{IsStrictlySortedBy}
use Rattle.hx_object.specs.Texts.{bytes_cmp}

-- each name is below those after it
abbrev pub IsAscending : List (List ℕ) → Type 0
IsAscending names = IsStrictlySortedBy bytes_cmp names

-- the names, and how many more fit without taking memory
pub record NamesView : Type 0 where
  pub names : List (List ℕ)
  pub spare : ℕ

-- both, as a pair
abbrev pub names_code : Coded NamesView
names_code = code_by (List (List ℕ) × ℕ) (coded× (coded_list (coded_list coded_ℕ)) coded_ℕ)
    (λ n. (n.names, n.spare)) (λ p. record { names = p.0; spare = p.1 }) (λ _. refl)
