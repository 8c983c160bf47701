use Rattle.std.proofs.Common.{◌∙◌, ap, sym, subst}
use Rattle.std.specs.Str.{IsUtf8}
use Rattle.percent_encoding.specs.Percent.{percent_decode}
use Rattle.hx_api.proofs.Segments.{taken, refused}
use Rattle.hx_api.proofs.resource_path.segment_text.Goals as goal

pub returns-in_ok-text_in-in-Ok : goal.returns-in_ok-text_in-in-Ok
returns-in_ok-text_in-in-Ok c =
    let bytes = c.percent_decode.ensures.bytes ∙ ap percent_decode c.as_bytes.ensures.value in
    taken c.args.segment.now c.in_ok-text_in-in-Ok.field-0 (subst IsUtf8 bytes c.in-Ok.ensures.ok_only_if_utf8) (c.in_ok-text_in-in-Ok.ensures ∙ c.in-Ok.ensures.value ∙ bytes)

pub returns-in-Err-Utf8 : goal.returns-in-Err-Utf8
returns-in-Err-Utf8 c =
    let bytes = c.percent_decode.ensures.bytes ∙ ap percent_decode c.as_bytes.ensures.value in
    refused c.args.segment.now (λ utf8. let clash = c.in-Err-Utf8.ensures.utf8 (subst IsUtf8 (sym bytes) utf8) in cc)
