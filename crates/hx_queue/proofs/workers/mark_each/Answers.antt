use Rattle.std.proofs.Common.{rules, ◌≡◌, ◌≤◌, ◌∷◌, [], List, length, sym, subst, arith}
use Rattle.std.proofs.lemmas.List.{nil_from_length}
use Rattle.std.specs.Vec.Iter.{into_iter_items}
use Rattle.hx_model.specs.declared.key.Key.{Key}
use Rattle.hx_queue.specs.Tied.{MarksEach}
use Rattle.hx_queue.proofs.Marking.{mark_one, mark_more, none_marked}
use Rattle.hx_queue.proofs.workers.mark_each.Goals as goal

pub loop-key-preserved : goal.loop-key-preserved
loop-key-preserved c =
    let before = c.loop-key.queue in
    let after = c.mark.new.self in
    let k = c.in-Some.key in
    let rest = into_iter_items c.next.new.self in
    let split : into_iter_items c.loop-key.key-iterator ≡ k ∷ rest = search rules in
    let long : length (k ∷ rest) ≤ before.spare = subst (λ (ks : List Key). length ks ≤ before.spare) split c.loop-key.invariant.room in
    record {
      marks = λ final others. c.loop-key.invariant.marks final (subst (λ (ks : List Key). MarksEach ks before final) (sym split) (mark_more k rest before after final (mark_one k before after c.mark.ensures) others));
      room = omega (arith, long, c.mark.ensures.spare);
    }

pub returns : goal.returns
returns c =
    let ended : length (into_iter_items c.loop-key.key-iterator) ≡ 0 = search rules in
    let none : into_iter_items c.loop-key.key-iterator ≡ [] = nil_from_length _ ended in
    c.loop-key.invariant.marks c.loop-key.queue (subst (λ (ks : List Key). MarksEach ks c.loop-key.queue c.loop-key.queue) (sym none) (none_marked c.loop-key.queue))
