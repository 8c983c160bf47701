-- The key whose turn it is comes to the front of a queue.
--     brings_ranked, brings_lined, brings_rest     keys were ranked, with those in line or with all;  or some came in line
--     free_ranked, ranked_lined      what the steps require
--     front_early, front_all         the key at the front is the first of all that wait
--     kept_by_brings, seen_by_brings      what is kept, and what is seen
--     next_first, next_none, next_free    the key that is given
use Rattle.std.proofs.Common.{◌≡◌, ◌<◌, nat_lt, ltb-true, Bool, true, false, ◌||◌, List, [], ◌∷◌, map, filter, refl, sym, ap, subst, ◌∙◌, true≢false, arith, Option, Some, None, is_some, IfSome, IfNone}
use Rattle.std.specs.Prelude.{slice_get}
use Rattle.std.specs.Cmp.{nat_cmp_is}
use Rattle.std.specs.Ordering.{nat_cmp, ordering_then, is_lt}
use Rattle.std.specs.declared.cmp.Ordering.{Ordering}
use Rattle.std.specs.declared.cmp.Ordering.TheVariants.{Greater}
use Rattle.std.proofs.lemmas.List.{append-nil}
use Rattle.std.proofs.lemmas.List.Sorted.{list_any-IsPermutation}
use Rattle.hx_object.specs.declared.object.Id.{Id}
use Rattle.hx_model.specs.Forest.{Forest}
use Rattle.hx_model.specs.Hands.{Hand, is_held as is_in_hands}
use Rattle.hx_model.specs.Keys.{same_key, is_among}
use Rattle.hx_model.specs.declared.key.Key.{Key}
use Rattle.hx_model.specs.declared.key.Key.TheVariants as key
use Rattle.hx_order.specs.KeyOrder.{key_cmp}
use Rattle.hx_order.specs.Ranks.{IsFirst, depth_in, rank_of, turn_cmp}
use Rattle.hx_line.specs.Line.{IsRanked}
use Rattle.hx_queue.specs.Kept.{Held, QueueView, Ranks, AreApart as IsQueueApart}
use Rattle.hx_queue.specs.Ordered.{in_order}
use Rattle.hx_queue.specs.Spread.{Scope, SpreadView, is_place_of, is_spread, keys_in, waiting_in}
use Rattle.hx_queue.specs.Tied.{Brings, IsFree, IsInFront, IsKept, LinesUp, all_waiting, any_held}
use Rattle.hx_queue.proofs.Beside.{among_waiting, spread_absent}
use Rattle.hx_queue.proofs.Marking.{held_any}
use Rattle.hx_queue.proofs.Ordered.{among_in_order, first_in_order, in_order_same, none_among}
use Rattle.hx_queue.proofs.Tying.{first_waits, waits_free}
use Rattle.hx_queue.proofs.Whole.{whole_of}

-- ---- keys that are ranked

-- the same keys wait
among_ranked : (f : Forest) (q r : QueueView) (s : SpreadView) → Ranks f q r → (k : Key) → is_among k (all_waiting r s) ≡ is_among k (all_waiting q s)
among_ranked f q r s m k =
    among_waiting k r.waiting (keys_in s.scope s.ids)
    ∙ ap (λ b. b || is_among k (keys_in s.scope s.ids)) (sym (list_any-IsPermutation (same_key k) q.waiting r.waiting m.waiting))
    ∙ sym (among_waiting k q.waiting (keys_in s.scope s.ids))

-- those in line
pub brings_ranked : (f : Forest) (q r : QueueView) (s : SpreadView) → Ranks f q r → Brings f q r s s
brings_ranked f q r s m = record { waiting = among_ranked f q r s m; ranks = m.ranks; held = m.held; scope = refl; apart = λ k e. e }

-- and then some came in line that were marked as a whole
pub brings_lined : (f : Forest) (q r u : QueueView) (s t : SpreadView) → Ranks f q r → LinesUp r u s t → Brings f q u s t
brings_lined f q r u s t m l = record {
  waiting = λ k. ap (is_among k) l.waiting ∙ among_ranked f q r s m k;
  ranks = subst (IsRanked f) (sym l.ranks) m.ranks;
  held = l.held ∙ m.held;
  scope = l.scope;
  apart = l.apart;
}

-- and these were ranked, too
pub brings_rest : (f : Forest) (q r u v : QueueView) (s t : SpreadView) → Ranks f q r → LinesUp r u s t → Ranks f u v → Brings f q v s t
brings_rest f q r u v s t m l n =
    let before = brings_lined f q r u s t m l in
    record {
      waiting = λ k. among_ranked f u v t n k ∙ before.waiting k;
      ranks = n.ranks;
      held = n.held ∙ before.held;
      scope = l.scope;
      apart = l.apart;
    }

held_same : (q r : QueueView) (ids : List Id) → r.held ≡ q.held → IsFree q ids → IsFree r ids
held_same q r ids is free k held = free k (held_any q k ∙ sym (ap (any_held (λ key worker. same_key k key)) is) ∙ sym (held_any r k) ∙ held)

pub free_ranked : (f : Forest) (q r : QueueView) (ids : List Id) → Ranks f q r → IsFree q ids → IsFree r ids
free_ranked f q r ids m free = held_same q r ids m.held free

pub ranked_lined : (f : Forest) (q r u : QueueView) (s t : SpreadView) → Ranks f q r → LinesUp r u s t → IsRanked f u.ranks
ranked_lined f q r u s t m l = subst (IsRanked f) (sym l.ranks) m.ranks

-- ---- the key at the front

spread_none : (j : Key) (ids : List Id) → ((id : Id) → is_place_of id j ≡ false) → is_spread ids j ≡ false
spread_none j [] other = refl
spread_none j (id ∷ ids) other = ap (λ b. b || is_spread ids j) (other id) ∙ spread_none j ids other

no_spread : (j : Key) (scope : Option Scope) (ids : List Id) {P : Type 0} → ((id : Id) → is_place_of id j ≡ false) → is_among j (keys_in scope ids) ≡ true → P
no_spread j scope ids other there = absurd (true≢false (sym there ∙ spread_absent j scope ids (spread_none j ids other)))

-- what is marked as a whole are copies
spread_rank : (j : Key) (scope : Option Scope) (ids : List Id) → is_among j (keys_in scope ids) ≡ true → rank_of j ≡ 3
spread_rank (key.Copy n kind name) scope ids there = refl
spread_rank (key.Tree n) scope ids there = no_spread (key.Tree n) scope ids (λ id. refl) there
spread_rank (key.Report n) scope ids there = no_spread (key.Report n) scope ids (λ id. refl) there
spread_rank (key.Child n name) scope ids there = no_spread (key.Child n name) scope ids (λ id. refl) there
spread_rank (key.Anchor n name) scope ids there = no_spread (key.Anchor n name) scope ids (λ id. refl) there
spread_rank (key.Used n name) scope ids there = no_spread (key.Used n name) scope ids (λ id. refl) there
spread_rank (key.Purge n) scope ids there = no_spread (key.Purge n) scope ids (λ id. refl) there

-- a copy isn't before a key of a lower rank
copy_later : (f : Forest) (j k : Key) → rank_of j ≡ 3 → nat_lt (rank_of k) 3 ≡ true → is_lt (turn_cmp f j k) ≡ false
copy_later f j k copy early =
    let less : rank_of k < 3 = ltb-true (rank_of k) 3 early in
    let more : rank_of k < rank_of j = omega (arith, copy, less) in
    ap (λ (o : Ordering). is_lt (ordering_then o (ordering_then (nat_cmp (depth_in f j) (depth_in f k)) (key_cmp j k)))) (sym (nat_cmp_is (rank_of j) (rank_of k) Greater more))

none_at : (xs : List Key) → slice_get xs 0 ≡ None → xs ≡ []
none_at [] e = refl
none_at (x ∷ xs) e = absurd (true≢false (ap is_some e))

or_true : (a b : Bool) {P : Type 0} → (a || b) ≡ true → (a ≡ true → P) → (b ≡ true → P) → P
or_true true b e left right = left refl
or_true false b e left right = right e

-- one before all copies
pub front_early : (f : Forest) (q r : QueueView) (s : SpreadView) (early : Bool) → Ranks f q r → IfSome (slice_get r.waiting 0) (λ k. early ≡ nat_lt (rank_of k) 3) → (r.waiting ≡ [] → early ≡ false) → early ≡ true → IsInFront f r s
front_early f q r s early m some none is = record {
  first = λ k at. record {
    there = among_waiting k r.waiting (keys_in s.scope s.ids) ∙ ap (λ b. b || is_among k (keys_in s.scope s.ids)) (first_waits k r.waiting at);
    least = λ j there. or_true (is_among j r.waiting) (is_among j (keys_in s.scope s.ids)) (sym (among_waiting j r.waiting (keys_in s.scope s.ids)) ∙ there)
        ((m.first k at).least j)
        (λ spread. copy_later f j k (spread_rank j s.scope s.ids spread) (sym (subst (λ o. IfSome o (λ k. early ≡ nat_lt (rank_of k) 3)) at some) ∙ is));
  };
  none = λ at. absurd (true≢false (sym is ∙ none (none_at r.waiting at)));
}

-- where none is marked as a whole any more
pub front_all : (f : Forest) (u v : QueueView) (t : SpreadView) → Ranks f u v → t.ids ≡ [] → IsInFront f v t
front_all f u v t m none = record {
  first = λ k at. subst (λ keys. IsFirst f keys k) (sym whole) (m.first k at);
  none = λ at. whole ∙ none_at v.waiting at;
}
  where
    whole : all_waiting v t ≡ v.waiting
    whole = ap (λ ids. waiting_in v.waiting (keys_in t.scope ids)) none ∙ append-nil v.waiting

-- ---- what is kept and seen

module _ (f : Forest) (hands : List Hand) (q r : QueueView) (s t : SpreadView) (b : Brings f q r s t) where
  pub kept_by_brings : IsKept hands q s → IsKept hands r t
  kept_by_brings kept = record {
    tied = record { same = λ test. kept.tied.same test ∙ sym (ap (any_held test) b.held); workers = kept.tied.workers; keys = kept.tied.keys };
    free = λ k held. b.apart k (held_same q r s.ids b.held kept.free k held);
  }

  pub seen_by_brings : whole_of hands r t ≡ whole_of hands q s
  seen_by_brings =
      let waiting = in_order_same (all_waiting r t) (all_waiting q s) b.waiting in
      λ i. record { hands = hands; waiting = waiting i; again = map (λ (h : Held). h.key) (filter (λ (h : Held). h.again) (b.held i)) }

  -- ---- the key that is given

  pub next_first : (o : Option Key) → IsInFront f r t → o ≡ slice_get r.waiting 0 → IfSome o (λ k. IsFirst f (in_order (all_waiting q s)) k)
  next_first None front e = tt
  next_first (Some k) front e = first_in_order f (all_waiting r t) (all_waiting q s) k b.waiting (front.first k (sym e))

  pub next_none : (o : Option Key) → IsInFront f r t → o ≡ slice_get r.waiting 0 → IfNone o (in_order (all_waiting q s) ≡ [])
  next_none None front e = none_among (in_order (all_waiting q s)) (λ k. among_in_order k (all_waiting q s) ∙ sym (b.waiting k) ∙ ap (is_among k) (front.none (sym e)))
  next_none (Some k) front e = tt

  pub next_free : (o : Option Key) → IsKept hands q s → IsQueueApart r → o ≡ slice_get r.waiting 0 → IfSome o (λ k. is_in_hands k hands ≡ false)
  next_free None kept apart e = tt
  next_free (Some k) kept apart e = waits_free k hands r (kept_by_brings kept).tied apart (first_waits k r.waiting (sym e))
