-- Keys that were marked as a whole come in line.
--     lines_none, lines_one, lines_more    none came in line;  those of the first object, or none;  and then others
--     kept_by_lines, seen_by_lines         what is kept, and what is seen
use Rattle.std.proofs.Common.{◌≡◌, ◌≤◌, ◌<◌, false, List, [], ◌∷◌, map, filter, drop, length, refl, sym, ap, subst, ◌∙◌, arith, Result, Ok, Err, OnOk, OnErr}
use Rattle.hx_object.specs.declared.object.Id.{Id}
use Rattle.hx_model.specs.Hands.{Hand}
use Rattle.hx_model.specs.Keys.{same_key}
use Rattle.hx_model.specs.declared.key.Key.{Key}
use Rattle.hx_queue.specs.Kept.{Held, QueueView}
use Rattle.hx_queue.specs.Ordered.{in_order}
use Rattle.hx_queue.specs.Spread.{SpreadView, is_spread}
use Rattle.hx_queue.specs.Tied.{IsFree, IsKept, LinesUp, all_waiting, any_held}
use Rattle.hx_queue.proofs.Beside.{spread_less}
use Rattle.hx_queue.proofs.Marking.{held_any}
use Rattle.hx_queue.proofs.Whole.{whole_of}

-- ---- steps

pub lines_none : (q : QueueView) (s : SpreadView) → LinesUp q q s s
lines_none q s = record { waiting = refl; ranks = refl; held = refl; scope = refl; apart = λ k e. e; room = omega arith }

pub lines_more : (q r u : QueueView) (s t v : SpreadView) → LinesUp q r s t → LinesUp r u t v → LinesUp q u s v
lines_more q r u s t v first rest = record {
  waiting = rest.waiting ∙ first.waiting;
  ranks = rest.ranks ∙ first.ranks;
  held = rest.held ∙ first.held;
  scope = rest.scope ∙ first.scope;
  apart = λ k e. rest.apart k (first.apart k e);
  room = omega (arith, first.room, rest.room);
}

pub lines_one : {A E : Type 0} (result : Result A E) (q r : QueueView) (s t : SpreadView) → all_waiting r t ≡ all_waiting q s → r.ranks ≡ q.ranks → r.held ≡ q.held → OnOk result (t.ids ≡ drop 1 s.ids) → OnErr result (t.ids ≡ s.ids) → t.scope ≡ s.scope → s.room ≤ t.room → LinesUp q r s t
lines_one {A} {E} result q r s t waiting ranks held ok err scope room = record { waiting = waiting; ranks = ranks; held = held; scope = scope; apart = by result ok err; room = room }
  where
    by : (o : Result A E) → OnOk o (t.ids ≡ drop 1 s.ids) → OnErr o (t.ids ≡ s.ids) → (k : Key) → is_spread s.ids k ≡ false → is_spread t.ids k ≡ false
    by (Ok x) ok err = λ k e. ap (λ ids. is_spread ids k) ok ∙ spread_less k s.ids e
    by (Err x) ok err = λ k e. ap (λ ids. is_spread ids k) err ∙ e

-- what is held stays apart from what is marked as a whole
pub free_by_lines : (q r : QueueView) (s t : SpreadView) → LinesUp q r s t → IsFree q s.ids → IsFree r t.ids
free_by_lines q r s t l free k held = l.apart k (free k (held_any q k ∙ sym (ap (any_held (λ key worker. same_key k key)) l.held) ∙ sym (held_any r k) ∙ held))

-- fewer objects are left
pub fewer : (ids rest : List Id) → rest ≡ drop 1 ids → (ids ≡ [] → ⊥) → length rest < length ids
fewer [] rest is some = absurd (some refl)
fewer (id ∷ ids) rest is some = subst (λ (xs : List Id). length xs < length (id ∷ ids)) (sym is) (omega arith)

-- ---- what is kept and seen

pub kept_by_lines : (hands : List Hand) (q r : QueueView) (s t : SpreadView) → IsKept hands q s → LinesUp q r s t → IsKept hands r t
kept_by_lines hands q r s t kept l = record {
  tied = record { same = λ test. kept.tied.same test ∙ sym (ap (any_held test) l.held); workers = kept.tied.workers; keys = kept.tied.keys };
  free = free_by_lines q r s t l kept.free;
}

pub seen_by_lines : (hands : List Hand) (q r : QueueView) (s t : SpreadView) → LinesUp q r s t → whole_of hands r t ≡ whole_of hands q s
seen_by_lines hands q r s t l = λ i. record { hands = hands; waiting = in_order (l.waiting i); again = map (λ (h : Held). h.key) (filter (λ (h : Held). h.again) (l.held i)) }
