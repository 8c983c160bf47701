use Rattle.std.proofs.Common.{rules}
use Rattle.std.specs.Ordering.{is_lt}
use Rattle.std.proofs.lemmas.List.Sorted.{IsPartitionPoint-from_clause}
use Rattle.hx_object.specs.Order.{id_cmp}
use Rattle.hx_object.specs.declared.object.Object.{Object}
use Rattle.hx_survey.specs.Inside.{side_of}
use Rattle.hx_survey.proofs.Runs.{parted_from, point_prefix}
use Rattle.hx_survey.proofs.Sides.{before_down, sorted_objects}
use Rattle.hx_survey.proofs.search.start_of.Goals as goal

pub returns : goal.returns
returns c =
    let p = λ (x : Object). is_lt (side_of c.args.sought x.id) in
    let parted = parted_from (λ (x y : Object). id_cmp x.id y.id) p (λ x y. before_down c.args.sought x.id y.id) c.args.objects.now (sorted_objects c.args.objects.now c.requires) in
    point_prefix p c.args.objects.now c.partition_point.result c.partition_point.ensures.bound (IsPartitionPoint-from_clause p _ _ c.partition_point.ensures.partitioned parted (λ a r q k. search rules))
