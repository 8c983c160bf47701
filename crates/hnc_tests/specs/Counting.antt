-- Namespaces of the tests of counters, and what becomes of them.
--     roots      acme and team, each without a parent, and with nothing
--     joined     team lies under acme
--     charged    and has a Pod
--     ringed     and acme lies under it
--     cleared    acme and team as they were at first, without the Pod
use Rattle.std.specs.Prelude.{ℕ, List, [], ◌∷◌, codes, Some, None}
use Rattle.hx_model.specs.declared.resource.Resource.TheVariants.{Pods}
use Rattle.hx_quota.specs.declared.entry.Delta.{Delta}
use Rattle.hx_quota.specs.Counters.{Entries, new_entry, with_entry, with_parent, with_shifted}

abbrev pub acme : List ℕ
acme = codes "acme"

abbrev pub team : List ℕ
team = codes "team"

abbrev pub roots : Entries
roots = with_entry team new_entry (with_entry acme new_entry [])

abbrev pub joined : Entries
joined = with_parent team (Some acme) roots

abbrev of_pods : ℕ → ℕ → Delta
of_pods old new = record { resource = Pods; old = old; new = new }

abbrev pub charged : Entries
charged = with_shifted (team ∷ acme ∷ []) (of_pods 0 1000 ∷ []) joined

abbrev pub ringed : Entries
ringed = with_parent acme (Some team) charged

abbrev pub cleared : Entries
cleared = with_shifted (team ∷ []) (of_pods 1000 0 ∷ []) (with_parent team None (with_parent acme None ringed))
