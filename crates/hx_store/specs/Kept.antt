-- What a store is seen as.
--     StoreView     the objects, the version, and the writes that are staged
use Rattle.std.specs.Prelude.{ℕ, List, refl}
use Rattle.std.specs.Coded.{Coded, code_by, coded×, coded_list, coded_ℕ}
use Rattle.hx_object.specs.declared.object.Object.{Object}
use Rattle.hx_object.specs.contracts.object.Object as object
use Rattle.hx_model.specs.declared.key.Write.{Write}
use Rattle.hx_model.specs.State.{Objects}
use Rattle.hx_store.specs.Changes.{write_code}

-- `staged` are writes that are ready to be made, the first one first
pub record StoreView : Type 0 where
  pub objects : Objects
  pub version : ℕ
  pub staged : List Write

-- the view of a store, as pairs
abbrev pub store_code : Coded StoreView
store_code = code_by (List Object × (ℕ × List Write)) (coded× (coded_list object.the_row.coded) (coded× coded_ℕ (coded_list write_code)))
    (λ s. (s.objects, (s.version, s.staged))) (λ p. record { objects = p.0; version = p.1.0; staged = p.1.1 }) (λ _. refl)
