use Rattle.std.proofs.Common.{◌≡◌, ◌++◌, drop}
use Rattle.std.specs.Prelude.{filter}
use Rattle.hx_model.specs.Limits.{is_copy}
use Rattle.hx_marks.proofs.wants.push_copies.Given as goal

-- the copies so far, and of the rest
abbrev pub invariant-loop-object : goal.invariant-loop-object
invariant-loop-object l = l.objects.items ++ filter is_copy (drop l.object-index l.listed) ≡ l.initial.objects.items ++ filter is_copy l.listed
