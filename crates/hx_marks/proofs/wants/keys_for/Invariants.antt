use Rattle.std.proofs.Common.{◌≡◌, ◌++◌, drop, map}
use Rattle.hx_marks.specs.Law.{key_for}
use Rattle.hx_marks.proofs.wants.keys_for.Given as goal

-- the marks so far, and those of the rest
abbrev pub invariant-loop-object : goal.invariant-loop-object
invariant-loop-object l = l.keys.items ++ map (key_for l.name) (drop l.object-index l.objects) ≡ l.initial.keys.items ++ map (key_for l.name) l.objects
