use Rattle.std.proofs.Common.{◌∷◌, [], ◌++◌, ◌∙◌, ap, refl, sym, subst, string_bytes}
use Rattle.hx_json.specs.Pushed.{IsCut, head_text, plain_text, rest_text}
use Rattle.hx_json.proofs.Pushes.{rest_pushed}
use Rattle.hx_json.proofs.Spliced.{plain_cuts, plain_pushed}
use Rattle.hx_json.proofs.Steps.{glue, last}
use Rattle.hx_json.proofs.write.object.push_object.Goals as goal

pub push_plain-requires : goal.push_plain-requires
push_plain-requires c = subst (λ t. IsCut t c.places.result) (sym c.as_str.ensures.value) (plain_cuts c.in-Plain.members c.places.result c.places.ensures)

pub returns-in-Plain : goal.returns-in-Plain
returns-in-Plain c =
    last c.push_plain.result (λ e. e ∙ ap (λ t. string_bytes c.args.out.now ++ t)
    (ap (λ t. plain_text c.args.object.now t c.places.result) c.as_str.ensures.value
    ∙ plain_pushed c.args.object.now c.in-Plain.members c.in-Plain.need c.places.result c.requires c.in-Plain.is c.places.ensures)) c.push_plain.ensures

pub returns-in_ok-push_head-in_default : goal.returns-in_ok-push_head-in_default
returns-in_ok-push_head-in_default c =
    let x = c.args.object.now in
    last c.push_rest.result (λ e.
    glue (string_bytes c.args.out.now) (head_text x ∷ rest_text x.payload ∷ []) (string_bytes c.push_rest.new.out)
    (_, c.in_ok-push_head-in_default.ensures, e)
    ∙ ap (λ t. string_bytes c.args.out.now ++ t) (rest_pushed x x.payload refl c.in_default.not-Plain)) c.push_rest.ensures
