use Rattle.std.proofs.Common.{◌≡◌, ◌++◌, drop, flat_map}
use Rattle.hx_object.specs.declared.object.Object.{Object}
use Rattle.hx_audit.specs.Candidates.{place_keys}
use Rattle.hx_audit.proofs.copies.push_places.Given as goal

-- the keys so far, and those of the rest of the places
abbrev pub invariant-loop-object : goal.invariant-loop-object
invariant-loop-object l = l.wanting.items ++ flat_map (λ (y : Object). place_keys l.survey.objects l.mode l.member.namespace.now l.member.above.now l.member.name.now l.kind y.id.name) (drop l.object-index l.objects) ≡ l.initial.wanting.items ++ flat_map (λ (y : Object). place_keys l.survey.objects l.mode l.member.namespace.now l.member.above.now l.member.name.now l.kind y.id.name) l.objects
