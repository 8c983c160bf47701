-- The first limit of quotas that a write would exceed.
--     delta_of deltas r        the delta of a resource
--     over_limit               what is over one limit
--     over_limits              the first limit of a quota that is exceeded
--     over_from, first_over    the first one of all quotas
use Rattle.std.specs.Prelude.{ℕ, ◌+◌, ◌-◌, ◌&&◌, nat_lt, List, [], ◌∷◌, find, Option, Some, None, if◌then◌else◌}
use Rattle.hx_object.specs.declared.object.Limit.{Limit}
use Rattle.hx_model.specs.Charges.{resource_named}
use Rattle.hx_model.specs.First.{or_else}
use Rattle.hx_model.specs.declared.resource.Resource.{Resource}
use Rattle.hx_quota.specs.declared.entry.Delta.{Delta}
use Rattle.hx_quota.specs.declared.limiting.QuotaRow.{QuotaRow}
use Rattle.hx_quota.specs.declared.limiting.Over.{Over}
use Rattle.hx_quota.specs.Counters.{Entries, used_in, is_of}

-- the delta of a resource
abbrev pub delta_of : List Delta → Resource → Option Delta
delta_of deltas r = find (is_of r) deltas

-- a delta that raises what is used over the hard amount
abbrev pub over_by : ℕ → ℕ → ℕ → ℕ → Option Delta → Option Over
over_by at limit hard used None = None
over_by at limit hard used (Some d) =
    if nat_lt d.old d.new && nat_lt hard (used + (d.new - d.old)) then Some (record { at = at; limit = limit; used = used; asked = d.new - d.old; hard = hard }) else None

-- what is over a limit for a resource; a name that stands for none limits nothing
abbrev pub over_named : Entries → List Delta → List ℕ → ℕ → ℕ → ℕ → Option Resource → Option Over
over_named es deltas ns at limit hard None = None
over_named es deltas ns at limit hard (Some r) = over_by at limit hard (used_in es ns r) (delta_of deltas r)

-- what is over a limit that is in the quota at a place and has that place in it
abbrev pub over_limit : Entries → List Delta → List ℕ → ℕ → ℕ → Limit → Option Over
over_limit es deltas ns at limit l = over_named es deltas ns at limit l.amount (resource_named l.resource)

-- the first of these limits of a quota in a namespace that is exceeded
abbrev pub over_limits : Entries → List Delta → List ℕ → ℕ → ℕ → List Limit → Option Over
over_limits es deltas ns at limit [] = None
over_limits es deltas ns at limit (l ∷ limits) = or_else (over_limit es deltas ns at limit l) (over_limits es deltas ns at (limit + 1) limits)

-- the first of these quotas, whose places begin with the given one
abbrev pub over_from : Entries → List Delta → ℕ → List QuotaRow → Option Over
over_from es deltas at [] = None
over_from es deltas at (q ∷ quotas) = or_else (over_limits es deltas q.ns at 0 q.hard) (over_from es deltas (at + 1) quotas)

-- the first excess, in the order of the quotas and of their limits
abbrev pub first_over : Entries → List QuotaRow → List Delta → Option Over
first_over es quotas deltas = over_from es deltas 0 quotas
