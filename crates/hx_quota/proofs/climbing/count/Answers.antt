use Rattle.std.proofs.Common.{◌∙◌, List, ℕ, sym, subst}
use Rattle.std.specs.List.{IsDistinct}
use Rattle.std.specs.Str.{bytes_eq}
use Rattle.hx_forest.proofs.Named.{length-values}
use Rattle.hx_quota.specs.Inside.{entries_in, ordered}
use Rattle.hx_quota.proofs.Placed.{same_keys, same_count}
use Rattle.hx_quota.proofs.Trees.{tree_length}
use Rattle.hx_quota.proofs.climbing.count.Goals as goal

pub returns-clause-count : goal.returns-clause-count
returns-clause-count c =
    let places = c.args.places.now.entries in
    c.len.ensures.len
    ∙ sym (tree_length (ordered places) ∙ length-values (entries_in places) (subst (λ (ks : List (List ℕ)). IsDistinct bytes_eq ks) (sym (same_keys places)) c.len.ensures.distinct) ∙ same_count places)
