use Rattle.std.proofs.Common.{rules, ◌≡◌, ◌∷◌, ◌∙◌, subst, ap}
use Rattle.std.specs.Vec.Iter.{into_iter_items}
use Rattle.hx_forest.specs.Kept.{changed_by_all}
use Rattle.hx_forest.specs.Staged.{changes_of}
use Rattle.hx_forest.specs.Invariant.{IsReady}
use Rattle.hx_forest.proofs.Readiness.{ready_on}
use Rattle.hx_forest.proofs.forest.Forest.apply.Goals as goal

pub loop-prepared-preserved : goal.loop-prepared-preserved
loop-prepared-preserved c =
    let before = c.loop-prepared.self-inside in
    let p = c.in-Some.prepared in
    let rest = into_iter_items c.next.new.self in
    let split : into_iter_items c.loop-prepared.prepared-iterator ≡ p ∷ rest = search rules in
    record {
      nodes = ap (changed_by_all (changes_of rest)) c.make.ensures.nodes ∙ (rw split at c.loop-prepared.invariant.nodes);
      none = c.loop-prepared.invariant.none;
      ready = ready_on before.nodes c.make.new.nodes before.children c.make.new.children p rest (subst (IsReady before.nodes before.children) split c.loop-prepared.invariant.ready)
          c.make.ensures.nodes c.make.ensures.index c.make.ensures.node_room c.make.ensures.list_room c.make.ensures.other_room c.make.ensures.fits;
      parent_refs = c.make.ensures.parent_refs;
      notes = c.make.ensures.notes c.loop-prepared.invariant.notes;
    }
