-- The view of a keeper as a tuple, for types that are seen as one.
--     kept_code              what a keeper holds
--     keeper_view_code       what a keeper shows
use Rattle.std.specs.Prelude.{ℕ, Bool, List, refl}
use Rattle.std.specs.Coded.{Coded, code_by, coded×, coded_list, coded_ℕ, coded_bool, coded_option}
use Rattle.std.specs.FinMap as map
use Rattle.std.specs.declared.option.Option.{Option}
use Rattle.hx_watch.specs.Watching.{Members, members_code}
use Rattle.hx_ports.specs.Keeping.{Kept, Rows}
use Rattle.hx_ports.specs.Views.{KeeperView}

-- what a keeper holds, as a tuple
abbrev pub kept_code : Coded Kept
kept_code = code_by (ℕ × (ℕ × Rows)) (coded× coded_ℕ (coded× coded_ℕ (map.code (coded_list coded_ℕ) (coded× coded_ℕ (coded_list coded_ℕ)))))
    (λ k. (k.schema, (k.version, k.rows))) (λ p. record { schema = p.0; version = p.1.0; rows = p.1.1 }) (λ _. refl)

-- what a keeper shows, as a tuple
abbrev pub keeper_view_code : Coded KeeperView
keeper_view_code = code_by (Option (List ℕ) × (Option Kept × (Bool × (ℕ × Members)))) (coded× (coded_option (coded_list coded_ℕ)) (coded× (coded_option kept_code) (coded× coded_bool (coded× coded_ℕ members_code))))
    (λ k. (k.place, (k.kept, (k.broken, (k.faults, k.watchers))))) (λ p. record { place = p.0; kept = p.1.0; broken = p.1.1.0; faults = p.1.1.1.0; watchers = p.1.1.1.1 }) (λ _. refl)
