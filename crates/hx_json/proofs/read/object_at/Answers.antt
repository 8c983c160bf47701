use Rattle.std.proofs.Common.{rules, ◌≡◌, ◌∙◌, sym, subst, true, None}
use Rattle.hx_object.specs.Faults.{IsLegal, object_fault}
use Rattle.hx_object.specs.declared.object.Object.{Object}
use Rattle.hx_model.specs.Serving.{is_given, is_typed}
use Rattle.hx_json.specs.Rows.{said_object}
use Rattle.hx_json.specs.Trees.{said}
use Rattle.hx_json.proofs.Given.{payload_given, typed_is}
use Rattle.hx_json.proofs.Legal.{legal}
use Rattle.hx_json.proofs.read.object_at.Goals as goal

pub returns-in-Ok-clause-legal : goal.returns-in-Ok-clause-legal
returns-in-Ok-clause-legal c =
    let d = said c.args.value.now in
    let says : c.in-Ok.object ≡ said_object c.args.id c.args.version d = search rules in (
      subst IsLegal (sym says) (legal c.args.id c.args.version d c.requires.quantities c.requires.home c.requires.canonical c.requires.shallow (subst (λ o. object_fault o ≡ None) says c.in-Ok.ensures.sound)),
      record {
        labels = c.keep_their_types.ensures.labels;
        annotations = c.keep_their_types.ensures.annotations;
        payload = subst (λ (x : Object). is_given x.payload ≡ true) (sym says) (payload_given c.args.id.kind d);
        typed = subst (λ (x : Object). is_typed x.id.kind x.payload ≡ true) (sym says) (typed_is c.args.id.kind d c.requires.canonical c.requires.shallow ∙ c.requires.typed);
      },
    )
