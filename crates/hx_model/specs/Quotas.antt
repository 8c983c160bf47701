-- What the quotas of a namespace and of those above it refuse.
--     quotas_for s n     the quotas that hold for what lies in a namespace
--     used s a r         what all objects of a subtree are charged for a resource
--     rise_of old x r    by how much a write raises what its object is charged
--     is_lacking         a Pod doesn't state what a quota limits
--     first_over         the first limit that a write passes
--     refused_by_quotas  why they refuse a write
-- A quota of a namespace limits what lies in its subtree, so that all quotas of the members of a chain hold at once (HNC user guide, "Limit resources over parent-child relationships"). `admission=skip` passes over none of this.
use Rattle.std.specs.Prelude.{ℕ, ◌+◌, ◌-◌, Bool, false, not, ◌&&◌, nat_lt, List, filter, flat_map, sum_by, Option, Some, option_and_then, if◌then◌else◌}
use Rattle.std.specs.List.{list_any}
use Rattle.std.specs.Option.{option_map_or}
use Rattle.hx_object.specs.contracts.object.NeedPartialEq.TheImpl as need_eq
use Rattle.hx_object.specs.declared.kind.Kind.TheVariants.{HierarchicalResourceQuota}
use Rattle.hx_object.specs.declared.object.Id.{Id}
use Rattle.hx_object.specs.declared.object.Limit.{Limit}
use Rattle.hx_object.specs.declared.object.Need.{Need}
use Rattle.hx_object.specs.declared.object.Object.{Object}
use Rattle.hx_object.specs.declared.object.Payload.{Payload}
use Rattle.hx_object.specs.declared.object.Payload.TheVariants.{Plain}
use Rattle.hx_model.specs.Cases.{any_of}
use Rattle.hx_model.specs.Charges.{hard_of, resource_named, charge_of, is_running, is_unstated}
use Rattle.hx_model.specs.First.{so, or_else, first_of}
use Rattle.hx_model.specs.Forest.{Forest, chain_of, in_chain}
use Rattle.hx_model.specs.State.{State, Objects, is_listed}
use Rattle.hx_model.specs.Tree.{forest_of}
use Rattle.hx_model.specs.declared.refusal.Refusal.{Refusal}
use Rattle.hx_model.specs.declared.refusal.Refusal.TheVariants.{Broken, OverQuota}
use Rattle.hx_model.specs.declared.resource.Resource.{Resource}
use Rattle.hx_model.specs.declared.rule.Rule.TheVariants.{Q2}

-- ---- quotas

-- the quotas of a namespace, in order of their names
abbrev pub quotas_in : Objects → List ℕ → Objects
quotas_in objects a = filter (is_listed HierarchicalResourceQuota (Some a)) objects

-- those that hold for what lies in n: its own first, and those of the topmost namespace last
abbrev pub quotas_for : State → List ℕ → Objects
quotas_for s n = flat_map (quotas_in s.objects) (chain_of (forest_of s) n)

-- ---- charges

-- what an object is charged where it lies in the subtree of a
abbrev pub charge_below : Forest → List ℕ → Resource → Object → ℕ
charge_below f a r x = if in_chain f x.id.ns a then charge_of x r else 0

-- what all objects of the subtree of a are charged, in thousandths
unfoldable pub used : State → List ℕ → Resource → ℕ
used s a r = sum_by (charge_below (forest_of s) a r) s.objects

-- what the object that is there is charged
abbrev pub charge_before : Option Object → Resource → ℕ
charge_before old r = option_map_or (λ y. charge_of y r) old 0

-- by how much the charge rises where x is written in the place of what is there
abbrev pub rise_of : Option Object → Object → Resource → ℕ
rise_of old x r = charge_of x r - charge_before old r

-- ---- what isn't stated

-- the test of two needs that code has: they are equal
unfoldable pub same_need : Need → Need → Bool
same_need = (need_eq.ghosts).eq

-- what was read of the members is the same
abbrev pub keeps_need : Payload → Payload → Bool
keeps_need (Plain _ old) (Plain _ need) = same_need old need
keeps_need _ _ = false

-- a Pod is given that hasn't finished, and asks for something else than the one that is there
abbrev pub asks_anew : Option Object → Object → Bool
asks_anew old x = is_running x.id.kind x.payload && not (any_of (λ y. keeps_need y.payload x.payload) old)

-- a limit is of a resource that the Pod doesn't state
abbrev pub is_left_open : Object → Limit → Bool
is_left_open x limit = any_of (is_unstated x) (resource_named limit.resource)

-- a limit of a quota is
abbrev pub is_lacking_in : Object → Object → Bool
is_lacking_in x q = list_any (is_left_open x) (hard_of q.payload)

-- a limit of some quota is
abbrev pub is_lacking : Object → Objects → Bool
is_lacking x quotas = list_any (is_lacking_in x) quotas

-- ---- what passes a limit

-- the rise passes a limit, where so much is used already
abbrev pub over_by : ℕ → ℕ → Id → Limit → Option Refusal
over_by sum rise quota limit = so (nat_lt 0 rise && nat_lt limit.amount (sum + rise)) (OverQuota quota.ns quota.name limit.resource sum rise limit.amount)

-- a write passes a limit of a quota. A name that stands for no resource limits nothing
abbrev pub over_limit : State → Option Object → Object → Object → Limit → Option Refusal
over_limit s old x q limit = option_and_then (λ r. over_by (used s q.id.ns r) (rise_of old x r) q.id limit) (resource_named limit.resource)

-- the first limit of a quota that it passes
abbrev pub over_quota : State → Option Object → Object → Object → Option Refusal
over_quota s old x q = first_of (over_limit s old x q) (hard_of q.payload)

-- the first limit of some quotas
abbrev pub first_over : State → Option Object → Object → Objects → Option Refusal
first_over s old x quotas = first_of (over_quota s old x) quotas

-- ---- refusals

-- the refusal by some quotas
abbrev pub refused_by : State → Option Object → Object → Objects → Option Refusal
refused_by s old x quotas = or_else (so (asks_anew old x && is_lacking x quotas) (Broken Q2)) (first_over s old x quotas)

-- the refusal by those that hold where x is written in the place of what is there
abbrev pub refused_by_quotas : State → Option Object → Object → Option Refusal
refused_by_quotas s old x = refused_by s old x (quotas_for s x.id.ns)
