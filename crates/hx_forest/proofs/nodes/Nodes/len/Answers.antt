use Rattle.std.proofs.Common.{◌∙◌, List, ℕ, sym, subst}
use Rattle.std.specs.List.{IsDistinct}
use Rattle.std.specs.Str.{bytes_eq}
use Rattle.hx_forest.specs.ParentRefs.{nodes_of}
use Rattle.hx_forest.proofs.NodeLookups.{length-forest}
use Rattle.hx_forest.proofs.ParentRefs.{same_keys, same_count}
use Rattle.hx_forest.proofs.nodes.Nodes.len.Goals as goal

pub returns-clause-len : goal.returns-clause-len
returns-clause-len c =
    let es = c.args.self.now.places.entries in
    c.len.ensures.len ∙ sym (same_count es) ∙ sym (length-forest (nodes_of es) (subst (λ (ks : List (List ℕ)). IsDistinct bytes_eq ks) (sym (same_keys es)) c.len.ensures.unique))
