use Rattle.std.proofs.Common.{◌≡◌, rules, sym, subst, ◌++◌, string_bytes, encode_utf8}
use Rattle.std.specs.Str.{IsCharBoundary}
use Rattle.std.specs.List.{prefix_len}
use Rattle.json.specs.Run.{is_plain}
use Rattle.hx_json.proofs.Escapes.{cut_boundary, escape_step, escape_end}
use Rattle.hx_json.proofs.write.text.push_inside.Goals as goal

pub split_at-requires : goal.split_at-requires
split_at-requires c =
    let len : c.plain_len.result ≡ prefix_len is_plain c.loop-chars.rest.now = search rules in
    subst (IsCharBoundary c.loop-chars.rest.now) (sym len) (cut_boundary c.loop-chars.rest.now)

pub returns-in_default : goal.returns-in_default
returns-in_default c =
    escape_end _ (string_bytes c.loop-chars.out) _ c.loop-chars.rest.now c.split_at.result.1.now c.loop-chars.invariant.1 (search rules) (search rules) (search rules)

pub loop-chars-preserved : goal.loop-chars-preserved
loop-chars-preserved c =
    let next : c.split_at.result.1.now ≡ encode_utf8 c.in-Some.c ++ c.as_str-rest.result.now = search rules in (
      c.as_str-rest.utf8,
      escape_step _ (string_bytes c.loop-chars.out) (string_bytes c.push.new.out) _ c.loop-chars.rest.now c.split_at.result.1.now _ c.in-Some.c c.loop-chars.invariant.1 (search rules) (search rules) next (search rules),
    )
