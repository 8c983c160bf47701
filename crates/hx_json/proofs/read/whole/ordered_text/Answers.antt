use Rattle.std.proofs.Common.{sym, subst}
use Rattle.std.specs.Prelude.{IsUtf8}
use Rattle.serde_json.specs.View.{view}
use Rattle.serde_json.proofs.Nesting.{depth-read}
use Rattle.hx_json.specs.Trees.{IsOrdered}
use Rattle.hx_json.proofs.Canonical.{read-canonical}
use Rattle.hx_json.proofs.Normal.{compact_ordered}
use Rattle.hx_json.proofs.read.whole.ordered_text.Goals as goal

pub returns-in-Ok-clause-alike : goal.returns-in-Ok-clause-alike
returns-in-Ok-clause-alike c =
    let d = view c.in_ok-value.value in
    let whole = c.in_ok-value.ensures.ok in
    let shallow = depth-read c.args.body.now d whole.1 in
    (d, whole, (subst IsUtf8 c.as_str.ensures.value c.as_str.utf8, c.in-Ok.ensures.reads_back shallow, whole.2))

pub returns-in-Ok-clause-ordered : goal.returns-in-Ok-clause-ordered
returns-in-Ok-clause-ordered c =
    let d = view c.in_ok-value.value in
    let whole = c.in_ok-value.ensures.ok in
    let shallow = depth-read c.args.body.now d whole.1 in
    let canonical = read-canonical c.args.body.now d whole.1 whole.2 in
    λ k. subst (IsOrdered k) (sym (c.in-Ok.ensures.text whole.2)) (compact_ordered k d canonical shallow)
