use Rattle.std.proofs.Common.{◌≡◌, drop}
use Rattle.std.specs.List.{list_any}
use Rattle.hx_model.specs.Propagation.{is_source}
use Rattle.hx_audit.proofs.copies.has_source.Given as goal

-- what is left tells whether there is one
abbrev pub invariant-loop-object : goal.invariant-loop-object
invariant-loop-object l = list_any is_source (drop l.object-index l.objects) ≡ list_any is_source l.objects
