use Rattle.std.proofs.Common.{rules, ℕ, List}
use Rattle.std.specs.Ordering.{is_lt}
use Rattle.std.proofs.lemmas.List.Sorted.{IsPartitionPoint-from_clause}
use Rattle.hx_object.specs.Texts.{bytes_cmp}
use Rattle.hx_model.specs.declared.node.Node.{Node}
use Rattle.hx_survey.proofs.Placed.{name_down}
use Rattle.hx_survey.proofs.Runs.{parted_from, point_prefix}
use Rattle.hx_survey.proofs.places.before.Goals as goal

pub returns : goal.returns
returns c =
    let p = λ (e : List ℕ × Node). is_lt (bytes_cmp e.0 c.args.name.now) in
    let parted = parted_from (λ (a b : List ℕ × Node). bytes_cmp a.0 b.0) p (λ a b. name_down c.args.name.now a.0 b.0) c.args.nodes.now c.requires in
    point_prefix p c.args.nodes.now c.partition_point.result c.partition_point.ensures.bound (IsPartitionPoint-from_clause p _ _ c.partition_point.ensures.partitioned parted (λ a r q k. search rules))
