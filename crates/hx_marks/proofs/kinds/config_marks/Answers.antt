use Rattle.std.proofs.Common.{rules, ◌≡◌, ◌++◌, Bool, true, sym, ap}
use Rattle.std.specs.Prelude.{if◌then◌else◌, option_copied}
use Rattle.std.specs.Str.{bytes_eq}
use Rattle.hx_object.specs.WellKnown.{config}
use Rattle.hx_model.specs.Tree.{forest_of}
use Rattle.hx_marks.specs.Reads.{state_in}
use Rattle.hx_marks.specs.Law.{leaving_keys, mode_marks, object_marks}
use Rattle.hx_marks.specs.Usage.{charged_usage}
use Rattle.hx_marks.proofs.Adding.{grown_on}
use Rattle.hx_marks.proofs.kinds.config_marks.Goals as goal

pub returns : goal.returns
returns c =
    let s = state_in c.args.current.now in
    let id = c.args.id.now in
    let old = option_copied c.args.old in
    let new = option_copied c.args.new in
    let counts : bytes_eq c.args.id.now.name config ≡ true = search rules in
    grown_on c.charged_usage.result c.charged_usage.new.keys.items c.mode_marks.new.keys.items c.args.keys.now.items (mode_marks s old new) (charged_usage s id.ns old new) _ c.in_ok-mode_marks.ensures
    (sym (ap (λ (b : Bool). (if b then mode_marks s old new else (object_marks s id old new ++ leaving_keys (forest_of s) id.ns)) ++ charged_usage s id.ns old new) counts)) c.charged_usage.ensures
