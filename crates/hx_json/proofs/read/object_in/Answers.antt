use Rattle.std.proofs.Common.{ap, ◌∙◌}
use Rattle.hx_object.specs.declared.object.Id.{Id}
use Rattle.hx_model.specs.Serving.{has_type}
use Rattle.hx_json.specs.Inside.{has_quantities, target_of}
use Rattle.hx_json.specs.Trees.{said}
use Rattle.hx_json.proofs.Given.{quantities_sound, typed_sound}
use Rattle.hx_json.proofs.read.object_in.Goals as goal

pub object_at-requires-clause-typed : goal.object_at-requires-clause-typed
object_at-requires-clause-typed c =
    let d = said c.args.value.now in
    ap (λ (id : Id). has_type id.kind d) c.in_ok-id.ensures ∙ typed_sound (target_of c.args.asked) d c.requires.sound

pub object_at-requires-clause-quantities : goal.object_at-requires-clause-quantities
object_at-requires-clause-quantities c =
    let d = said c.args.value.now in
    ap (λ (id : Id). has_quantities id.kind d) c.in_ok-id.ensures ∙ quantities_sound (target_of c.args.asked) d c.requires.sound
