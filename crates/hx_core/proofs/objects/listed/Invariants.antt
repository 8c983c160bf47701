use Rattle.std.proofs.Common.{◌≡◌}
use Rattle.std.specs.Prelude.{take}
use Rattle.hx_core.specs.Listing.{of_kinds}
use Rattle.hx_core.proofs.objects.listed.Given as goal

-- the objects so far are those of the first kinds
abbrev pub invariant-loop-kind : goal.invariant-loop-kind
invariant-loop-kind l = l.objects.items ≡ of_kinds l.store.objects (take l.kind-index l.kinds)
