use Rattle.std.proofs.Common.{◌≡◌, ◌∙◌, ◌++◌, List, ℕ, ap, sym, codes}
use Rattle.std.specs.Str.{bytes_eq}
use Rattle.hx_object.specs.Kinds.{number_of}
use Rattle.hx_object.specs.declared.object.Id.{Id}
use Rattle.hx_model.specs.Texts.{key_text, two_digits}
use Rattle.hx_ports.proofs.Keys.{begun, behind_digits, key_is, not_begun}
use Rattle.hx_ports.proofs.row_keys.is_key_of.Goals as goal

-- the test of bytes against a key is that against its parts
whole : (id : Id) (bytes : List ℕ) → bytes_eq bytes (key_text id) ≡ bytes_eq bytes (two_digits (number_of id.kind) ++ behind_digits id)
whole id bytes = ap (bytes_eq bytes) (key_is id)

pub returns-in_default : goal.returns-in_default
returns-in_default c =
    let id = c.args.id.now in
    let bytes = c.args.bytes.now in
    sym (whole id bytes ∙ not_begun bytes c.as_bytes.result.now (two_digits (number_of id.kind)) (behind_digits id) (c.as_bytes.ensures.value ∙ c.digits_of.ensures) c.in_default.ensures.cases)

pub returns-in_default-strip_prefix : goal.returns-in_default-strip_prefix
returns-in_default-strip_prefix c =
    let id = c.args.id.now in
    let bytes = c.args.bytes.now in
    let one = c.in-Some.rest.now in
    sym (whole id bytes
    ∙ begun bytes c.as_bytes.result.now one (two_digits (number_of id.kind)) (behind_digits id) (c.as_bytes.ensures.value ∙ c.digits_of.ensures) c.in-Some.ensures.cases.0 c.in-Some.ensures.cases.1
    ∙ not_begun one c.as_bytes-2.result.now (codes "/") (id.ns ++ (codes "/" ++ id.name)) c.as_bytes-2.ensures.value c.in_default-strip_prefix.ensures.cases)

pub returns-in_default-strip_prefix-2 : goal.returns-in_default-strip_prefix-2
returns-in_default-strip_prefix-2 c =
    let id = c.args.id.now in
    let bytes = c.args.bytes.now in
    let one = c.in-Some.rest.now in
    let two = c.in-Some-strip_prefix.rest.now in
    sym (whole id bytes
    ∙ begun bytes c.as_bytes.result.now one (two_digits (number_of id.kind)) (behind_digits id) (c.as_bytes.ensures.value ∙ c.digits_of.ensures) c.in-Some.ensures.cases.0 c.in-Some.ensures.cases.1
    ∙ begun one c.as_bytes-2.result.now two (codes "/") (id.ns ++ (codes "/" ++ id.name)) c.as_bytes-2.ensures.value c.in-Some-strip_prefix.ensures.cases.0 c.in-Some-strip_prefix.ensures.cases.1
    ∙ not_begun two c.as_bytes-3.result.now id.ns (codes "/" ++ id.name) c.as_bytes-3.ensures c.in_default-strip_prefix-2.ensures.cases)

pub returns-in_default-strip_prefix-3 : goal.returns-in_default-strip_prefix-3
returns-in_default-strip_prefix-3 c =
    let id = c.args.id.now in
    let bytes = c.args.bytes.now in
    let one = c.in-Some.rest.now in
    let two = c.in-Some-strip_prefix.rest.now in
    let three = c.in-Some-strip_prefix-2.rest.now in
    sym (whole id bytes
    ∙ begun bytes c.as_bytes.result.now one (two_digits (number_of id.kind)) (behind_digits id) (c.as_bytes.ensures.value ∙ c.digits_of.ensures) c.in-Some.ensures.cases.0 c.in-Some.ensures.cases.1
    ∙ begun one c.as_bytes-2.result.now two (codes "/") (id.ns ++ (codes "/" ++ id.name)) c.as_bytes-2.ensures.value c.in-Some-strip_prefix.ensures.cases.0 c.in-Some-strip_prefix.ensures.cases.1
    ∙ begun two c.as_bytes-3.result.now three id.ns (codes "/" ++ id.name) c.as_bytes-3.ensures c.in-Some-strip_prefix-2.ensures.cases.0 c.in-Some-strip_prefix-2.ensures.cases.1
    ∙ not_begun three c.as_bytes-4.result.now (codes "/") id.name c.as_bytes-4.ensures.value c.in_default-strip_prefix-3.ensures.cases)

pub returns : goal.returns
returns c =
    let id = c.args.id.now in
    let bytes = c.args.bytes.now in
    let one = c.in-Some.rest.now in
    let two = c.in-Some-strip_prefix.rest.now in
    let three = c.in-Some-strip_prefix-2.rest.now in
    let four = c.in-Some-strip_prefix-3.rest.now in
    c.eq.ensures ∙ ap (bytes_eq four) c.as_bytes-5.ensures ∙ sym (whole id bytes
    ∙ begun bytes c.as_bytes.result.now one (two_digits (number_of id.kind)) (behind_digits id) (c.as_bytes.ensures.value ∙ c.digits_of.ensures) c.in-Some.ensures.cases.0 c.in-Some.ensures.cases.1
    ∙ begun one c.as_bytes-2.result.now two (codes "/") (id.ns ++ (codes "/" ++ id.name)) c.as_bytes-2.ensures.value c.in-Some-strip_prefix.ensures.cases.0 c.in-Some-strip_prefix.ensures.cases.1
    ∙ begun two c.as_bytes-3.result.now three id.ns (codes "/" ++ id.name) c.as_bytes-3.ensures c.in-Some-strip_prefix-2.ensures.cases.0 c.in-Some-strip_prefix-2.ensures.cases.1
    ∙ begun three c.as_bytes-4.result.now four (codes "/") id.name c.as_bytes-4.ensures.value c.in-Some-strip_prefix-3.ensures.cases.0 c.in-Some-strip_prefix-3.ensures.cases.1)
