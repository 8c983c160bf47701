use Rattle.std.proofs.Common.{sym}
use Rattle.std.proofs.lemmas.List.{append_assoc}
use Rattle.std.specs.Prelude.{option_copied}
use Rattle.hx_model.specs.Tree.{forest_of}
use Rattle.hx_marks.specs.Law.{leaving_keys, object_marks}
use Rattle.hx_marks.specs.Reads.{state_in}
use Rattle.hx_marks.specs.Spread.{beside_marks}
use Rattle.hx_marks.specs.Usage.{charged_usage}
use Rattle.hx_marks.proofs.Adding.{grown_on}
use Rattle.hx_marks.proofs.kinds.inner_marks.Goals as goal

pub returns : goal.returns
returns c =
    let s = state_in c.args.current.now in
    let id = c.args.id.now in
    let old = option_copied c.args.old in
    let new = option_copied c.args.new in
    grown_on c.beside_marks.result c.beside_marks.new.keys.items c.object_marks.new.keys.items c.args.keys.now.items (object_marks s id old new) (beside_marks s id old new) _
    c.in_ok-object_marks.ensures (sym (append_assoc (object_marks s id old new) (leaving_keys (forest_of s) id.ns) (charged_usage s id.ns old new))) c.beside_marks.ensures
