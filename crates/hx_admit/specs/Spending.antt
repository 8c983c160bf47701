-- Where quotas are looked at.
--     raises         a charge rises
--     may_refuse     a charge rises, or a Pod asks for something else
use Rattle.std.specs.Prelude.{Bool, ◌||◌, nat_lt, Option}
use Rattle.std.specs.List.{list_any}
use Rattle.hx_object.specs.declared.object.Object.{Object}
use Rattle.hx_model.specs.Charges.{resources_for}
use Rattle.hx_model.specs.Quotas.{rise_of, asks_anew}

-- an object is charged more for some resource than the one that is there
abbrev pub raises : Option Object → Object → Bool
raises old x = list_any (λ r. nat_lt 0 (rise_of old x r)) (resources_for x.id.kind)

-- no quota refuses any other write
abbrev pub may_refuse : Option Object → Object → Bool
may_refuse old x = asks_anew old x || raises old x
