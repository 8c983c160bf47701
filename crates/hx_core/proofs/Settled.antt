-- Runs of turns.
--     run_start, run_turn        no turn, and one more
--     turn_in, all_made          a turn that ended nothing, and all of them
--     ends_run, rests_run        a settle ends
--     rest_by                    with nothing left, or with keys that wait or are held
--     turn_rests, turn_lacks     no turn is made
--     turn_made                  one is
--     trace_lacks, trace_over    a trace gets none
--     trace_none, trace_some     it gets one that wasn't lost, or one that was
use Rattle.std.proofs.Common.{◌≡◌, ◌≢◌, ◌≤◌, ◌<◌, ◌+◌, ◌==◌, ◌&&◌, ℕ, Bool, true, false, List, [], ◌∷◌, ◌++◌, length, Option, Some, None, IfSome, IfNone, refl, sym, ap, ◌∙◌, subst, inl, inr, arith, true≢false}
use Rattle.std.specs.Prelude.{◌⊎◌, if◌then◌else◌}
use Rattle.std.proofs.lemmas.Bool.{eqb-true, eq-eqb}
use Rattle.std.proofs.lemmas.List.{append-nil, append_assoc, length-append}
use Rattle.std.proofs.lemmas.Grind.{flat_map-append}
use Rattle.hx_model.specs.Hands.{hand_of}
use Rattle.hx_model.specs.Machine.{Took, Finished, LostTake, Checked}
use Rattle.hx_model.specs.Tree.{forest_of}
use Rattle.hx_model.specs.declared.key.Finish.{Finish}
use Rattle.hx_model.specs.declared.key.Finish.TheVariants as ending
use Rattle.hx_model.specs.declared.key.Key.{Key}
use Rattle.hx_order.specs.Ranks.{IsFirst}
use Rattle.hx_reconcile.specs.declared.brief.Brief.{Brief}
use Rattle.hx_core.specs.Bounding.{IsCounted}
use Rattle.hx_core.specs.Queued.{HasTurned, HaveTurned, IsEnding}
use Rattle.hx_core.specs.Refinement.{ClusterView, HasWorld, Simulates}
use Rattle.hx_core.specs.Settling.{IsTurn, IsWhole, IsTraced, EndsWithin, IsEnded, IsRun, IsRest, rest_of}
use Rattle.hx_core.specs.Turns.{IsLeft, IsOver, LoseLast, EndsBy, IsSettleEnd, turn_entries, turns_entries, end_entries, loss_in, loss_of}
use Rattle.hx_core.specs.Working.{IsJob, IsNext}
use Rattle.hx_queue.specs.Workers.{WorkersView}
use Rattle.hx_core.specs.declared.turns.Settle.{Settle}
use Rattle.hx_core.specs.declared.turns.Settle.TheVariants as settled
use Rattle.hx_core.specs.declared.turns.Turn.TheVariants as turn
use Rattle.hx_core.specs.declared.turns.Turned.{Turned}
use Rattle.hx_core.proofs.Bounding.{counted_more, counted_start, loss_leaves, over_leaves}
use Rattle.hx_core.proofs.Simulating.{Simulates-none, Simulates-then}
use Rattle.hx_core.proofs.Turning.{takes_job}

-- ---- lists of turns

entries_append : (xs ys : List Turned) → turns_entries (xs ++ ys) ≡ turns_entries xs ++ turns_entries ys
entries_append xs ys = flat_map-append turn_entries xs ys

longer : (xs ys : List Turned) → length (xs ++ ys) ≡ length xs + length ys
longer xs ys = length-append {A = Turned} xs ys

-- behind turns none of which was lost, the last one of those that follow is the only one that may be
lose_last : (xs ys : List Turned) → IsWhole xs → length ys ≤ 1 → LoseLast (xs ++ ys)
lose_last [] [] whole few = tt
lose_last [] (y ∷ []) whole few = tt
lose_last [] (y ∷ z ∷ ys) whole few = absurd (omega (arith, few))
lose_last (x ∷ []) [] whole few = tt
lose_last (x ∷ []) (y ∷ ys) whole few = (whole.0, lose_last [] (y ∷ ys) tt few)
lose_last (x ∷ z ∷ xs) ys whole few = (whole.0, lose_last (z ∷ xs) ys whole.1 few)

loss_behind : (xs ys : List Turned) → IsWhole xs → loss_of (xs ++ ys) ≡ loss_of ys
loss_behind [] ys whole = refl
loss_behind (x ∷ []) [] whole = whole.0
loss_behind (x ∷ []) (y ∷ ys) whole = refl
loss_behind (x ∷ z ∷ xs) ys whole = loss_behind (z ∷ xs) ys whole.1

whole_more : (xs : List Turned) (turned : Turned) → IsWhole xs → loss_in turned.end ≡ None → IsWhole (xs ++ turned ∷ [])
whole_more [] turned whole last = (last, tt)
whole_more (x ∷ xs) turned whole last = (whole.0, whole_more xs turned whole.1 last)

have_turned : (xs ys : List Turned) (a b c : ClusterView) → HaveTurned xs a b → HaveTurned ys b c → HaveTurned (xs ++ ys) a c
have_turned [] ys a b c first rest = subst (λ (m : ClusterView). HaveTurned ys m c) first rest
have_turned (x ∷ xs) ys a b c (mid, one, first) rest = (mid, one, have_turned xs ys mid b c first rest)

-- ---- runs

pub run_start : (c : ClusterView) (trace : List Turned) → HasWorld c → hand_of 0 c.workers.hands ≡ None → IsRun c trace c trace 0
run_start c trace stood none = record { made = []; trace = sym (append-nil trace); simulates = Simulates-none c stood; leaves = refl; whole = tt; counts = refl; empty = none; counted = counted_start c }

pub run_turn : (old mid new : ClusterView) (before during after : List Turned) (count : ℕ) → IsRun old before mid during count → IsTraced mid during new after → hand_of 0 new.workers.hands ≡ None → IsRun old before new after (count + 1)
run_turn old mid new before during after count run traced none = record {
  made = run.made ++ traced.turned ∷ [];
  trace = traced.trace ∙ (ap (λ xs. xs ++ traced.turned ∷ []) run.trace ∙ append_assoc before run.made (traced.turned ∷ []));
  simulates = subst (λ h. Simulates old h new) (sym (entries_append run.made (traced.turned ∷ []))) (Simulates-then old mid new (turns_entries run.made) (turn_entries traced.turned) run.simulates traced.simulates);
  leaves = have_turned run.made (traced.turned ∷ []) old mid new run.leaves (new, traced.leaves, refl);
  whole = whole_more run.made traced.turned run.whole traced.whole;
  counts = let long : length (run.made ++ traced.turned ∷ []) ≡ length run.made + 1 = longer run.made (traced.turned ∷ []) in omega (arith, long, run.counts);
  empty = none;
  counted = counted_more old mid new count traced.turned run.counted traced.counts traced.whole;
}

-- a turn that ended nothing
pub turn_in : {P : Type 0} (o : Option Settle) → ((end : Settle) → o ≡ Some end → ⊥) → IfNone o P → P
turn_in None never p = p
turn_in (Some end) never p = absurd (never end refl)

pub all_made : (made most : ℕ) → made ≤ most → most ≤ made → made ≡ most
all_made made most few many = omega (arith, few, many)

-- ---- ends

-- before the turns are used up
over_ends : (most : ℕ) (turns : List Turned) (v : WorkersView) (end : Settle) → IsOver v end → EndsBy None most turns v end
over_ends most turns v settled.Settled e = e
over_ends most turns v (settled.Unsettled waiting held) e = (e.0, e.1, inr (e.2, e.3))
over_ends most turns v settled.Spent never = never
over_ends most turns v settled.Fault never = never
over_ends most turns v settled.NoMemory e = tt

within_ends : (most : ℕ) (turns : List Turned) (v : WorkersView) (end : Settle) (loss : Option Settle) → EndsWithin loss v end → EndsBy loss most turns v end
within_ends most turns v end None e = over_ends most turns v end e
within_ends most turns v end (Some loss) e = e

end_more : (most : ℕ) (made more : List Turned) (v : WorkersView) (end : Settle) → IsWhole made → length (made ++ more) ≤ most → length more ≤ 1 → EndsWithin (loss_of more) v end → IsSettleEnd most (made ++ more) v end
end_more most made more v end whole few one ends = record {
  few = few;
  whole = lose_last made more whole one;
  ends = subst (λ loss. EndsBy loss most (made ++ more) v end) (sym (loss_behind made more whole)) (within_ends most (made ++ more) v end (loss_of more) ends);
}

pub ends_run : (most : ℕ) (old mid new : ClusterView) (before during after : List Turned) (count : ℕ) (end : Settle) → count < most → IsRun old before mid during count → IsEnded mid during new after end
    → (made : List Turned) × (after ≡ before ++ made) × Simulates old (turns_entries made ++ end_entries end) new × HaveTurned made old new × IsSettleEnd most made new.workers end
ends_run most old mid new before during after count end less run ended =
    let made = run.made ++ ended.made in (
      made,
      ended.trace ∙ (ap (λ xs. xs ++ ended.made) run.trace ∙ append_assoc before run.made ended.made),
      subst (λ h. Simulates old h new) (sym (ap (λ h. h ++ end_entries end) (entries_append run.made ended.made) ∙ append_assoc (turns_entries run.made) (turns_entries ended.made) (end_entries end))) (Simulates-then old mid new (turns_entries run.made) (turns_entries ended.made ++ end_entries end) run.simulates ended.simulates),
      have_turned run.made ended.made old mid new run.leaves ended.leaves,
      end_more most run.made ended.made new.workers end run.whole (let long : length (run.made ++ ended.made) ≡ length run.made + length ended.made = longer run.made ended.made in omega (arith, long, run.counts, ended.few, less)) ended.few ended.ends,
    )

-- behind all of them
end_left : (most : ℕ) (made : List Turned) (v : WorkersView) (end : Settle) → length made ≡ most → IsLeft v end → EndsBy None most made v end
end_left most made v settled.Settled all e = e
end_left most made v (settled.Unsettled waiting held) all e = (e.0, e.1, elim e.2 [ inl some ↦ inl (all, some) | inr none ↦ inr none ])
end_left most made v settled.Spent all never = never
end_left most made v settled.Fault all never = never
end_left most made v settled.NoMemory all never = tt

end_all : (most : ℕ) (made : List Turned) (v : WorkersView) (end : Settle) → IsWhole made → length made ≡ most → IsLeft v end → IsSettleEnd most made v end
end_all most made v end whole all left = record {
  few = omega (arith, all);
  whole = subst LoseLast (append-nil made) (lose_last made [] whole (omega arith));
  ends = subst (λ loss. EndsBy loss most made v end) (sym (ap loss_of (sym (append-nil made)) ∙ loss_behind made [] whole)) (end_left most made v end all left);
}

pub rests_run : (most : ℕ) (old c : ClusterView) (before after : List Turned) (count : ℕ) (end : Settle) → count ≡ most → IsRun old before c after count → IsRest c end
    → (made : List Turned) × (after ≡ before ++ made) × Simulates old (turns_entries made ++ end_entries end) c × HaveTurned made old c × IsSettleEnd most made c.workers end
rests_run most old c before after count end all run rest =
    (run.made, run.trace, Simulates-then old c c (turns_entries run.made) (end_entries end) run.simulates rest.simulates, run.leaves, end_all most run.made c.workers end run.whole (run.counts ∙ all) rest.left)

-- what is left, by how many keys wait and are held
none_of_zero : {A : Type 0} (xs : List A) → length xs ≡ 0 → xs ≡ []
none_of_zero [] e = refl
none_of_zero (x ∷ xs) e = absurd (let h = e in cc)

zero_of_none : {A : Type 0} (xs : List A) → xs ≡ [] → length xs ≡ 0
zero_of_none xs e = ap length e

left_by : (v : WorkersView) (waiting held : ℕ) (a b : Bool) → (waiting == 0) ≡ a → (held == 0) ≡ b → waiting ≡ length v.waiting → held ≡ length v.hands → IsLeft v (if a && b then settled.Settled else settled.Unsettled waiting held)
left_by v waiting held true true p q many few = (none_of_zero v.waiting (sym many ∙ eqb-true waiting 0 p), none_of_zero v.hands (sym few ∙ eqb-true held 0 q))
left_by v waiting held true false p q many few = (many, few, inr (none_of_zero v.waiting (sym many ∙ eqb-true waiting 0 p), λ none. true≢false (sym (eq-eqb held 0 (few ∙ zero_of_none v.hands none)) ∙ q)))
left_by v waiting held false b p q many few = (many, few, inl (λ none. true≢false (sym (eq-eqb waiting 0 (many ∙ zero_of_none v.waiting none)) ∙ p)))

checks_by : (c : ClusterView) (waiting held : ℕ) (a b : Bool) → (waiting == 0) ≡ a → (held == 0) ≡ b → Simulates c (Checked waiting held ∷ []) c → Simulates c (end_entries (if a && b then settled.Settled else settled.Unsettled waiting held)) c
checks_by c waiting held true true p q sim = let one = eqb-true waiting 0 p in let two = eqb-true held 0 q in subst (λ h. Simulates c h c) (λ i. Checked (one i) (two i) ∷ []) sim
checks_by c waiting held true false p q sim = sim
checks_by c waiting held false b p q sim = sim

pub rest_by : (c : ClusterView) (waiting held : ℕ) (end : Settle) → Simulates c (Checked waiting held ∷ []) c → waiting ≡ length c.workers.waiting → held ≡ length c.workers.hands → end ≡ rest_of waiting held → IsRest c end
rest_by c waiting held end sim many few is =
    subst (IsRest c) (sym is) (record {
      simulates = checks_by c waiting held (waiting == 0) (held == 0) refl refl sim;
      left = left_by c.workers waiting held (waiting == 0) (held == 0) refl refl many few;
    })

-- ---- one turn

-- no key waits
over_by : (v : WorkersView) (end : Settle) → v.waiting ≡ [] → IsLeft v end → IsOver v end
over_by v settled.Settled none left = left
over_by v (settled.Unsettled waiting held) none left = (left.0, left.1, none, nobody left.2)
  where
    nobody : (v.waiting ≢ []) ⊎ ((v.waiting ≡ []) × (v.hands ≢ [])) → v.hands ≢ []
    nobody (inl some) = absurd (some none)
    nobody (inr rest) = rest.1
over_by v settled.Spent none never = never
over_by v settled.Fault none never = never
over_by v settled.NoMemory none never = tt

pub turn_rests : (c new : ClusterView) (end : Settle) → new ≡ c → c.workers.waiting ≡ [] → hand_of 0 c.workers.hands ≡ None → IsRest c end → IsTurn c (turn.Over end) new
turn_rests c new end same none empty rest =
    subst (λ (v : ClusterView). IsTurn c (turn.Over end) v) (sym same) (record { simulates = rest.simulates; leaves = refl; over = over_by c.workers end none rest.left; empty = empty; counts = tt })

-- memory is wanting
pub turn_lacks : (c new : ClusterView) → new ≡ c → hand_of 0 c.workers.hands ≡ None → Simulates c (LostTake 0 ∷ []) new → IsTurn c (turn.Over settled.NoMemory) new
turn_lacks c new same empty lost = record { simulates = lost; leaves = same; over = tt; empty = ap (λ (v : ClusterView). hand_of 0 v.workers.hands) same ∙ empty; counts = tt }

-- the first of the keys that wait was taken, and its turn ended
pub turn_made : (old mid new : ClusterView) (k taken : Key) (brief : Brief) (end : Finish) → HasWorld old → hand_of 0 old.workers.hands ≡ None → IsNext (forest_of old.state) old.workers k → taken ≡ k → IsJob 0 k old brief mid
    → Simulates mid (Finished 0 end ∷ []) new → IsEnding 0 mid end new → hand_of 0 new.workers.hands ≡ None → IsCounted old (turn.Made (record { key = taken; end = end })) new → IsTurn old (turn.Made (record { key = taken; end = end })) new
turn_made old mid new k taken brief end stood none next same job ends leaves empty counts =
    let took : Simulates old (Took 0 k false ∷ []) mid = takes_job old mid 0 k brief false stood none next.free (λ _. next.waits) next.again job in
    record {
      simulates = Simulates-then old mid new (Took 0 taken false ∷ []) (Finished 0 end ∷ []) (subst (λ j. Simulates old (Took 0 j false ∷ []) mid) (sym same) took) ends;
      leaves = record { between = mid; brief = brief; taken = record { same = job.same; taken = job.taken }; key = job.key ∙ sym same; first = subst (λ (j : Key). IsFirst (forest_of old.state) old.workers.waiting j) (sym same) next.first; ended = leaves };
      over = tt;
      empty = empty;
      counts = counts;
    }

-- ---- traces

-- memory is wanting for the trace
pub trace_lacks : (c : ClusterView) (before after : List Turned) → Simulates c (LostTake 0 ∷ []) c → after ≡ before → IsEnded c before c after settled.NoMemory
trace_lacks c before after lost same = record { made = []; trace = same ∙ sym (append-nil before); simulates = lost; leaves = refl; ends = tt; few = omega arith; all = λ none never. never }

-- no turn is made
pub trace_over : (old new : ClusterView) (before after : List Turned) (end : Settle) → Simulates old (end_entries end) new → new ≡ old → IsOver new.workers end → after ≡ before → IsEnded old before new after end
trace_over old new before after end simulates leaves over same = record { made = []; trace = same ∙ sym (append-nil before); simulates = simulates; leaves = leaves; ends = over; few = omega arith; all = λ none. over_leaves new.workers end over (ap (λ (v : ClusterView). v.workers.hands) leaves ∙ none) }

module _ (old new : ClusterView) (before after : List Turned) (turned : Turned) (simulates : Simulates old (turn_entries turned) new) (leaves : HasTurned turned old new) (trace : after ≡ before ++ turned ∷ []) (counts : IsCounted old (turn.Made turned) new) where
  -- one is that wasn't lost
  pub trace_none : (o : Option Settle) → o ≡ loss_in turned.end → IfNone o (IsTraced old before new after)
  trace_none None is = record { turned = turned; trace = trace; simulates = simulates; leaves = leaves; whole = sym is; counts = counts }
  trace_none (Some end) is = tt

  -- one is that was lost
  ended : (end : Settle) → loss_in turned.end ≡ Some end → Simulates old (turn_entries turned ++ end_entries end) new → IsEnded old before new after end
  ended end is both = record { made = turned ∷ []; trace = trace; simulates = both; leaves = (new, leaves, refl); ends = subst (λ loss. EndsWithin loss new.workers end) (sym is) refl; few = omega arith; all = λ _. loss_leaves turned.end end is }

  by_loss : (end : Finish) (loss : Settle) → loss_in end ≡ Some loss → Simulates new (LostTake 0 ∷ []) new → Simulates old (turn_entries turned ++ end_entries loss) new
  by_loss ending.Empty loss is lost = absurd (let h : None ≡ Some loss = is in cc)
  by_loss ending.Nothing loss is lost = absurd (let h : None ≡ Some loss = is in cc)
  by_loss (ending.Conflict seen now) loss is lost = absurd (let h : None ≡ Some loss = is in cc)
  by_loss (ending.Written version) loss is lost = absurd (let h : None ≡ Some loss = is in cc)
  by_loss ending.Spent loss is lost = let same : settled.Spent ≡ loss = cc in subst (λ e. Simulates old (turn_entries turned ++ end_entries e) new) same simulates
  by_loss ending.Fault loss is lost = let same : settled.Fault ≡ loss = cc in subst (λ e. Simulates old (turn_entries turned ++ end_entries e) new) same simulates
  by_loss ending.NoMemory loss is lost =
      let same : settled.NoMemory ≡ loss = cc in
      subst (λ e. Simulates old (turn_entries turned ++ end_entries e) new) same (Simulates-then old new new (turn_entries turned) (LostTake 0 ∷ []) simulates lost)

  pub trace_some : (o : Option Settle) → o ≡ loss_in turned.end → Simulates new (LostTake 0 ∷ []) new → IfSome o (IsEnded old before new after)
  trace_some None is lost = tt
  trace_some (Some end) is lost = ended end (sym is) (by_loss turned.end end (sym is) lost)
