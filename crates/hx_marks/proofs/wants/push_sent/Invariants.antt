use Rattle.std.proofs.Common.{◌≡◌, ◌++◌, drop}
use Rattle.std.specs.Prelude.{filter}
use Rattle.hx_marks.specs.Law.{is_sent}
use Rattle.hx_marks.proofs.wants.push_sent.Given as goal

-- what is sent so far, and of the rest
abbrev pub invariant-loop-object : goal.invariant-loop-object
invariant-loop-object l = l.objects.items ++ filter (is_sent l.mode) (drop l.object-index l.listed) ≡ l.initial.objects.items ++ filter (is_sent l.mode) l.listed
