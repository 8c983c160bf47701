-- Turns that the bound on settling counts.
--     ready_by                          where no worker holds a key, each key that wants a write waits, and none waits twice
--     turn_counts                       a turn that was made, and wasn't lost, is one that the bound counts
--     counted_start, counted_more       no turn, and one more
--     counted_within, bound_reached     they are fewer than the bound: so many are never made
--     loss_leaves, over_leaves          a settle that ends before that leaves no key
use Rattle.std.proofs.Common.{◌≡◌, ◌≢◌, ◌⊎◌, ◌≤◌, ◌<◌, ◌+◌, ℕ, suc, Bool, true, false, cond, not, ◌&&◌, ◌||◌, List, [], ◌∷◌, ◌++◌, length, Option, Some, None, refl, sym, ap, ◌∙◌, subst, inl, inr, arith, eq-eqb, true≢false}
use Rattle.std.specs.Prelude.{IsSome, is_some}
use Rattle.std.specs.List.{AllPairs, IsDistinct}
use Rattle.std.specs.Option.{option_eq}
use Rattle.std.proofs.lemmas.Bool.{and_from, and_parts, false_from_ne_true, or_cases, or_right}
use Rattle.std.proofs.lemmas.List.{length-append}
use Rattle.std.proofs.lemmas.List.Elements.{recursion_from_All}
use Rattle.std.proofs.lemmas.Map.Keys.{IsDistinct-cons}
use Rattle.std.proofs.lemmas.Map.Made.{length-from_same_keys}
use Rattle.hx_object.specs.declared.object.Object.{Object}
use Rattle.hx_model.specs.Covered.{IsCovered}
use Rattle.hx_model.specs.Hands.{Hand, are_met, hand_at, hand_of, is_held, is_writable, keeps_sources, may_finish, may_write, same_write, without_hand, writes_for}
use Rattle.hx_model.specs.Keys.{same_key, is_among, is_key_of_either, may_mark}
use Rattle.hx_model.specs.Limits.{greatest_version}
use Rattle.hx_model.specs.Machine.{World, Finished, IsEnd, IsEndOf, finished_by}
use Rattle.hx_model.specs.Propagation.{source_at}
use Rattle.hx_model.specs.Serving.{IsServed}
use Rattle.hx_model.specs.State.{State, state_after}
use Rattle.hx_model.specs.Tree.{forest_of}
use Rattle.hx_model.specs.Valid.{IsValid}
use Rattle.hx_model.specs.Wanted.{wanted_write, guards_of}
use Rattle.hx_model.specs.Writes.{id_written}
use Rattle.hx_model.specs.declared.key.Finish.{Finish}
use Rattle.hx_model.specs.declared.key.Finish.TheVariants as ending
use Rattle.hx_model.specs.declared.key.Key.{Key}
use Rattle.hx_model.specs.declared.key.Write.{Write}
use Rattle.hx_model.specs.declared.key.Write.TheVariants.{Put, Cut}
use Rattle.hx_model.proofs.Lists.{none_passes}
use Rattle.hx_model.proofs.Naming.{same_itself}
use Rattle.hx_model.proofs.SameKeys.{key_laws, same_key_is, same_key_itself}
use Rattle.hx_order.proofs.Ranked.{none_before}
use Rattle.hx_reconcile.specs.Briefs.{IsStorable, hand_by, planned_by}
use Rattle.hx_reconcile.specs.declared.brief.Brief.{Brief}
use Rattle.hx_reconcile.proofs.Storable.{storable}
use Rattle.hx_marks.proofs.Settling.{same_object-Decides}
use Rattle.hx_marks.proofs.StayingCovered.{fresh_met}
use Rattle.hx_queue.specs.Workers.{WorkersView, AreApart, IsLetGo, IsTakenBy}
use Rattle.hx_bound.specs.Bound.{turn_bound}
use Rattle.hx_bound.specs.Settles.{AreTurns, IsReady, IsTurn as IsBoundTurn, turn_of}
use Rattle.hx_bound.proofs.WithinBound.{settles_within}
use Rattle.hx_core.specs.Bounding.{AreCounted, AreTurnsTo, Counts, HasCounted, IsCounted, IsUnsettled}
use Rattle.hx_core.specs.Committing.{HasMarked}
use Rattle.hx_core.specs.Queued.{HasWritten, IsEnding, IsLet, IsReleased}
use Rattle.hx_core.specs.Refinement.{ClusterView, Represents, Simulates}
use Rattle.hx_core.specs.Turns.{IsOver, loss_in}
use Rattle.hx_core.specs.Working.{IsJob, IsNext}
use Rattle.hx_core.specs.declared.turns.Settle.{Settle}
use Rattle.hx_core.specs.declared.turns.Settle.TheVariants as settled
use Rattle.hx_core.specs.declared.turns.Turn.TheVariants as turn
use Rattle.hx_core.specs.declared.turns.Turned.{Turned}
use Rattle.hx_core.proofs.Covering.{again_held, waits_each}
use Rattle.hx_core.proofs.Holding.{held_new}

-- ---- keys that wait

-- keys no two of which are the same
distinct_pairs : (keys : List Key) → AllPairs (λ a b. same_key a b ≡ false) keys → IsDistinct same_key keys
unfolding IsDistinct
distinct_pairs [] h = tt
distinct_pairs (k ∷ keys) h = (recursion_from_All (λ j. same_key k j ≡ false) keys (λ j d within. h 0 (suc j) d (omega arith) (omega arith)), distinct_pairs keys (λ i j d less within. h (suc i) (suc j) d (omega arith) (omega arith)))

pub ready_by : (s : State) (v : WorkersView) → IsCovered s v.hands v.waiting v.again → AreApart v → v.hands ≡ [] → IsReady s v.waiting
ready_by s v covered apart none = record { distinct = distinct_pairs v.waiting apart.waiting; covered = λ k wants. waits_each s v k covered apart wants (ap (is_held k) none) }

-- and no key is marked again
again_none : (v : WorkersView) (k : Key) → AreApart v → v.hands ≡ [] → is_among k v.again ≡ false
again_none v k apart none = false_from_ne_true (is_among k v.again) (λ e. true≢false (sym (again_held v k apart e) ∙ ap (is_held k) none))

and_true : (b : Bool) → (b && true) ≡ b
and_true true = refl
and_true false = refl

-- one key less waits
module _ (k : Key) (waiting behind : List Key) (there : is_among k waiting ≡ true) (is : (j : Key) → is_among j behind ≡ (is_among j waiting && not (same_key j k))) where
  gone : is_among k behind ≡ false
  gone = false_from_ne_true (is_among k behind) (λ e. true≢false (sym (and_parts (is_among k waiting) (not (same_key k k)) (sym (is k) ∙ e)).1 ∙ ap not (same_key_itself k)))

  same_by : (j : Key) (b : Bool) → same_key j k ≡ b → (same_key j k || is_among j behind) ≡ is_among j waiting
  same_by j true e = ap (λ c. c || is_among j behind) e ∙ sym (ap (λ i. is_among i waiting) (same_key_is j k e) ∙ there)
  same_by j false e = ap (λ c. c || is_among j behind) e ∙ (is j ∙ (ap (λ c. is_among j waiting && not c) e ∙ and_true (is_among j waiting)))

  one_less : IsDistinct same_key waiting → IsDistinct same_key behind → length behind + 1 ≡ length waiting
  one_less many few =
      let long : suc (length behind) ≡ length waiting = length-from_same_keys key_laws (k ∷ behind) waiting (IsDistinct-cons same_key k behind (none_passes (same_key k) behind gone) few) many (λ j. same_by j (same_key j k) refl) in
      omega (arith, long)

-- ---- what a key wants may be written

write_itself : (write : Write) → same_write write write ≡ true
write_itself (Put x) = (same_object-Decides x x).1 refl
write_itself (Cut id) = same_itself id

fresh_may : (s : State) (k : Key) (write : Write) → wanted_write s k ≡ Some write → may_write s (hand_at s 0 k) write ≡ true
fresh_may s k write wants =
    and_from (are_met s (guards_of s k)) (keeps_sources s k write) (fresh_met s k)
    (or_right (not (is_some (source_at s.objects (id_written write)))) (option_eq same_write (wanted_write s k) (Some write)) (ap (λ o. option_eq same_write o (Some write)) wants ∙ write_itself write))

fresh_finishes : (s : State) (k : Key) (o : Option Write) → wanted_write s k ≡ o → IsSome o → may_finish s (hand_at s 0 k) ≡ true
fresh_finishes s k None e never = absurd (true≢false (sym never))
fresh_finishes s k (Some write) e some = ap (is_writable s (hand_at s 0 k)) e ∙ fresh_may s k write e

-- ---- what a turn leaves of the state

-- there was nothing to write, or it was written
abbrev IsMade : Finish → Type 0
IsMade ending.Nothing = Unit {0}
IsMade (ending.Written version) = Unit {0}
IsMade _ = ⊥

-- what the key wants is written, and a version was left for it
record Leaves (s : State) (k : Key) (end : Finish) (t : State) : Type 0 where
  made : IsMade end
  state : t ≡ turn_of s k
  fits : wanted_write s k ≢ None → s.last < greatest_version

end_leaves : (s : State) (k : Key) (w : World) (end : Finish) → w.state ≡ s → IsEndOf w (hand_at s 0 k) end → loss_in end ≡ None → Leaves s k end (finished_by w (Some (hand_at s 0 k)) 0 end).state
end_leaves s k w ending.Empty is never whole = absurd never
end_leaves s k w ending.Nothing is none whole = record { made = tt; state = is ∙ sym (ap (λ o. state_after s (writes_for s o)) none); fits = λ some. absurd (some none) }
end_leaves s k w (ending.Conflict seen now) is legal whole =
    absurd (true≢false (sym (fresh_finishes s k (wanted_write s k) refl legal.0) ∙ (ap (λ t. may_finish t (hand_at s 0 k)) (sym is) ∙ legal.1)))
end_leaves s k w ending.Spent is legal whole = absurd (true≢false (ap is_some whole))
end_leaves s k w (ending.Written version) is legal whole = record {
  made = tt;
  state = ap (λ t. state_after t (writes_for t (wanted_write s k))) is;
  fits = λ some. subst (λ (t : State). t.last < greatest_version) is legal.3;
}
end_leaves s k w ending.Fault is legal whole = absurd (true≢false (ap is_some whole))
end_leaves s k w ending.NoMemory is legal whole = absurd (true≢false (ap is_some whole))

-- by the entry that it made
left_by : (s : State) (k : Key) (mid new : ClusterView) (end : Finish) → mid.state ≡ s → hand_of 0 mid.workers.hands ≡ Some (hand_at s 0 k) → Simulates mid (Finished 0 end ∷ []) new → loss_in end ≡ None → Leaves s k end new.state
left_by s k mid new end is at simulates whole =
    let w : World = simulates.stood.0 in
    let stands : Represents mid w = simulates.stood.1 in
    let step = simulates.steps w stands in
    let here : hand_of 0 w.hands ≡ Some (hand_at s 0 k) = ap (hand_of 0) stands.hands ∙ at in
    let legal : IsEndOf w (hand_at s 0 k) end = subst (λ o. IsEnd w o end) here step.0.0 in
    let state : (finished_by w (Some (hand_at s 0 k)) 0 end).state ≡ new.state = subst (λ o. (finished_by w o 0 end).state ≡ new.state) here step.1.state in
    subst (Leaves s k end) state (end_leaves s k w end (stands.state ∙ is) legal whole)

-- ---- what it leaves of the keys that wait

-- what a commit may make wait is a key of one of the two states
either_of : (s : State) (writes : List Write) (j : Key) → may_mark s writes j ≡ true → is_key_of_either s (state_after s writes) j ≡ true
either_of s [] j e = absurd (true≢false (sym e))
either_of s (write ∷ []) j e = (and_parts (is_key_of_either s (state_after s (write ∷ [])) j) _ e).0
either_of s (write ∷ other ∷ writes) j e = e

unmarked : (waits own again : Bool) → again ≡ false → (waits || (own && again)) ≡ waits
unmarked true own again e = refl
unmarked false true again e = e
unmarked false false again e = refl

-- what waits behind a turn did before it, or is a key of one of the two states; where nothing was written it is one key less
record Behind (s : State) (k : Key) (waiting : List Key) (new : WorkersView) : Type 0 where
  hands : new.hands ≡ []
  kept : (j : Key) → is_among j new.waiting ≡ true → (is_among j waiting ≡ true) ⊎ (is_key_of_either s (turn_of s k) j ≡ true)
  less : wanted_write s k ≡ None → (j : Key) → is_among j new.waiting ≡ (is_among j waiting && not (same_key j k))

module _ (s : State) (k : Key) (old : WorkersView) (mid new : ClusterView) (none : old.hands ≡ []) (apart : AreApart old) (there : is_among k old.waiting ≡ true) (is : mid.state ≡ s) (taken : IsTakenBy (hand_at s 0 k) old mid.workers) where
  hands : mid.workers.hands ≡ hand_at s 0 k ∷ []
  hands = taken.hands ∙ ap (λ hs. hs ++ hand_at s 0 k ∷ []) none

  at : hand_of 0 mid.workers.hands ≡ Some (hand_at s 0 k)
  at = ap (hand_of 0) hands ∙ held_new [] (hand_at s 0 k) refl

  alone : without_hand 0 (hand_at s 0 k ∷ []) ≡ []
  alone = ap (λ b. cond (not b) (hand_at s 0 k ∷ []) []) (eq-eqb 0 0 refl)

  -- nothing was marked
  unmarked_waits : IsLetGo 0 k false mid.workers new.workers → (j : Key) → is_among j new.workers.waiting ≡ (is_among j old.waiting && not (same_key j k))
  unmarked_waits let_go j = let_go.waiting j ∙ (unmarked (is_among j mid.workers.waiting) (same_key j k) (is_among k mid.workers.again) (taken.again k ∙ again_none old k apart none) ∙ taken.waiting j)

  waits_then : (j : Key) → is_among j mid.workers.waiting ≡ true → is_among j old.waiting ≡ true
  waits_then j e = (and_parts (is_among j old.waiting) (not (same_key j k)) (sym (taken.waiting j) ∙ e)).0

  behind_nothing : IsReleased 0 false mid new → Behind s k old.waiting new.workers
  behind_nothing released =
      let let_go : IsLetGo 0 k false mid.workers new.workers = subst (λ o. IsLet 0 false o mid.workers new.workers) at released.workers in
      record {
        hands = let_go.hands ∙ (ap (without_hand 0) hands ∙ alone);
        kept = λ j e. inl (and_parts (is_among j old.waiting) (not (same_key j k)) (sym (unmarked_waits let_go j) ∙ e)).0;
        less = λ _. unmarked_waits let_go;
      }

  behind_written : HasWritten 0 (hand_of 0 mid.workers.hands) mid new → Behind s k old.waiting new.workers
  behind_written has = record {
    hands = let_go.hands ∙ (ap (without_hand 0) (marked.marked.hands ∙ hands) ∙ alone);
    kept = kept;
    less = λ wants. unmarked_waits (subst (λ (v : WorkersView). IsLetGo 0 k false v new.workers) (marked.none (ap (writes_for s) wants)) let_go);
  }
    where
      written : HasWritten 0 (Some (hand_at s 0 k)) mid new
      written = subst (λ o. HasWritten 0 o mid new) at has

      let_go : IsLetGo 0 k false written.between new.workers
      let_go = written.gone

      marked : HasMarked s (writes_for s (wanted_write s k)) mid.workers written.between
      marked = subst (λ t. HasMarked t (writes_for t (wanted_write s k)) mid.workers written.between) is written.marked

      kept : (j : Key) → is_among j new.workers.waiting ≡ true → (is_among j old.waiting ≡ true) ⊎ (is_key_of_either s (turn_of s k) j ≡ true)
      kept j e = elim (or_cases (is_among j written.between.waiting) (same_key j k && is_among k written.between.again) (sym (let_go.waiting j) ∙ e)) [
        | inl waits ↦ elim (or_cases (is_among j mid.workers.waiting) (is_among j marked.keys && not (is_held j mid.workers.hands)) (sym (marked.marked.waiting j) ∙ waits)) [
          | inl before ↦ inl (waits_then j before)
          | inr now ↦ inr (either_of s (writes_for s (wanted_write s k)) j (marked.may j (and_parts (is_among j marked.keys) (not (is_held j mid.workers.hands)) now).0))
        ]
        | inr own ↦ inl (ap (λ i. is_among i old.waiting) (same_key_is j k (and_parts (same_key j k) (is_among k written.between.again) own).0) ∙ there)
      ]

  behind_by : (end : Finish) → IsMade end → IsEnding 0 mid end new → Behind s k old.waiting new.workers
  behind_by ending.Empty never ends = absurd never
  behind_by ending.Nothing made ends = behind_nothing ends
  behind_by (ending.Conflict seen now) never ends = absurd never
  behind_by ending.Spent never ends = absurd never
  behind_by (ending.Written version) made ends = behind_written ends
  behind_by ending.Fault never ends = absurd never
  behind_by ending.NoMemory never ends = absurd never

  leaves_by : (end : Finish) → Simulates mid (Finished 0 end ∷ []) new → loss_in end ≡ None → Leaves s k end new.state
  leaves_by end simulates whole = left_by s k mid new end is at simulates whole

-- ---- a turn

-- a job was given, and its turn ended
pub turn_counts : (old mid new : ClusterView) (k taken : Key) (brief : Brief) (end : Finish) → hand_by 0 brief ≡ hand_at old.state 0 brief.key → IsValid old.state → AreApart old.workers → IsNext (forest_of old.state) old.workers k → taken ≡ k → IsJob 0 k old brief mid
    → Simulates mid (Finished 0 end ∷ []) new → IsEnding 0 mid end new → IsCovered new.state new.workers.hands new.workers.waiting new.workers.again → AreApart new.workers → IsCounted old (turn.Made (record { key = taken; end = end })) new
turn_counts old mid new k taken brief end stands valid apart next same job simulates ends covered apart_then none whole = subst (λ j. Counts old j new) (sym same) (record {
  turn = record {
    taken = next.waits;
    first = none_before (forest_of old.state) old.workers.waiting k next.first;
    may = λ write wants. record { valid = valid; fits = leaves.fits (λ never. true≢false (ap is_some (sym wants ∙ never))); wants = wants; served = served write wants };
    ready = subst (λ t. IsReady t new.workers.waiting) leaves.state ready;
    kept = behind.kept;
    fewer = λ wants. one_less k old.workers.waiting new.workers.waiting next.waits (behind.less wants) (distinct_pairs old.workers.waiting apart.waiting) ready.distinct;
  };
  state = leaves.state;
  hands = behind.hands;
})
  where
    hand_is : hand_by 0 brief ≡ hand_at old.state 0 k
    hand_is = stands ∙ ap (hand_at old.state 0) job.key

    has_taken : IsTakenBy (hand_at old.state 0 k) old.workers mid.workers
    has_taken = subst (λ h. IsTakenBy h old.workers mid.workers) hand_is job.taken

    leaves : Leaves old.state k end new.state
    leaves = leaves_by old.state k old.workers mid new none apart next.waits job.same.state has_taken end simulates whole

    behind : Behind old.state k old.workers.waiting new.workers
    behind = behind_by old.state k old.workers mid new none apart next.waits job.same.state has_taken end leaves.made ends

    ready : IsReady new.state new.workers.waiting
    ready = ready_by new.state new.workers covered apart_then behind.hands

    served : (write : Write) → wanted_write old.state k ≡ Some write → (x : Object) → write ≡ Put x → IsServed x
    served write wants x puts = (subst IsStorable (ap (λ (h : Hand). h.write) hand_is ∙ (wants ∙ ap Some puts)) (storable brief (planned_by brief) (record { planned = refl; short = job.short }) old.state valid job.stands)).0

-- ---- turns

-- one turn more behind others
more_turns : (turns : List (Key × List Key)) (s : State) (waiting : List Key) (t : State) (behind : List Key) (k : Key) (next : List Key) → AreTurnsTo s waiting turns t behind → IsBoundTurn t behind k next → AreTurnsTo s waiting (turns ++ (k, next) ∷ []) (turn_of t k) next
more_turns [] s waiting t behind k next (same, waits) one = (subst (λ u. IsBoundTurn u waiting k next) same (subst (λ keys. IsBoundTurn t keys k next) waits one), (ap (λ u. turn_of u k) same, refl))
more_turns (turn ∷ turns) s waiting t behind k next (first, rest) one = (first, more_turns turns (turn_of s turn.0) turn.1 t behind k next rest one)

-- wherever they lead
are_turns : (turns : List (Key × List Key)) (s : State) (waiting : List Key) (t : State) (behind : List Key) → AreTurnsTo s waiting turns t behind → AreTurns s waiting turns
are_turns [] s waiting t behind are = tt
are_turns (turn ∷ turns) s waiting t behind (first, rest) = (first, are_turns turns (turn_of s turn.0) turn.1 t behind rest)

-- no turn
pub counted_start : (c : ClusterView) → AreCounted c 0 c
counted_start c none = record { turns = []; are = (refl, refl); counts = refl; hands = none }

-- one more, which wasn't lost
pub counted_more : (old mid new : ClusterView) (count : ℕ) (turned : Turned) → AreCounted old count mid → IsCounted mid (turn.Made turned) new → loss_in turned.end ≡ None → AreCounted old (count + 1) new
counted_more old mid new count turned run one whole none =
    let before : HasCounted old count mid = run none in
    let last : Counts mid turned.key new = one before.hands whole in
    record {
      turns = before.turns ++ (turned.key, new.workers.waiting) ∷ [];
      are = subst (λ t. AreTurnsTo old.state old.workers.waiting (before.turns ++ (turned.key, new.workers.waiting) ∷ []) t new.workers.waiting) (sym last.state) (more_turns before.turns old.state old.workers.waiting mid.state mid.workers.waiting turned.key new.workers.waiting before.are last.turn);
      counts = let long : length (before.turns ++ (turned.key, new.workers.waiting) ∷ []) ≡ length before.turns + 1 = length-append {A = Key × List Key} before.turns ((turned.key, new.workers.waiting) ∷ []) in omega (arith, long, before.counts);
      hands = last.hands;
    }

-- they are fewer than the bound
pub counted_within : (old new : ClusterView) (count : ℕ) → IsCovered old.state old.workers.hands old.workers.waiting old.workers.again → AreApart old.workers → AreCounted old count new → old.workers.hands ≡ [] → count < turn_bound old.state (length old.workers.waiting)
counted_within old new count covered apart run none =
    let all : HasCounted old count new = run none in
    subst (λ n. n < turn_bound old.state (length old.workers.waiting)) all.counts
    (settles_within old.state old.workers.waiting all.turns (ready_by old.state old.workers covered apart none) (are_turns all.turns old.state old.workers.waiting new.state new.workers.waiting all.are))

never_so_many : {A : Type 0} (count most bound : ℕ) → count < bound → bound ≤ most → count ≡ most → A
never_so_many count most bound less enough all = absurd (omega (arith, less, enough, all))

-- so many are never made where the bound is no more
pub bound_reached : {A : Type 0} (old new : ClusterView) (count most : ℕ) → IsCovered old.state old.workers.hands old.workers.waiting old.workers.again → AreApart old.workers → AreCounted old count new → count ≡ most → old.workers.hands ≡ [] → turn_bound old.state (length old.workers.waiting) ≤ most → A
bound_reached old new count most covered apart run all none enough = never_so_many count most (turn_bound old.state (length old.workers.waiting)) (counted_within old new count covered apart run none) enough all

-- ---- ends

-- a turn that was lost doesn't end a settle for keys that are left
pub loss_leaves : (end : Finish) (loss : Settle) → loss_in end ≡ Some loss → IsUnsettled loss → ⊥
loss_leaves end settled.Settled is never = never
loss_leaves end (settled.Unsettled waiting held) is left = by end is
  where
    by : (e : Finish) → loss_in e ≡ Some (settled.Unsettled waiting held) → ⊥
    by ending.Spent h = let g : settled.Spent ≡ settled.Unsettled waiting held = let f = h in cc in cc
    by ending.Fault h = let g : settled.Fault ≡ settled.Unsettled waiting held = let f = h in cc in cc
    by ending.NoMemory h = let g : settled.NoMemory ≡ settled.Unsettled waiting held = let f = h in cc in cc
    by ending.Empty h = true≢false (sym (ap is_some h))
    by ending.Nothing h = true≢false (sym (ap is_some h))
    by (ending.Conflict seen now) h = true≢false (sym (ap is_some h))
    by (ending.Written version) h = true≢false (sym (ap is_some h))
loss_leaves end settled.Spent is never = never
loss_leaves end settled.Fault is never = never
loss_leaves end settled.NoMemory is never = never

-- where no turn is made, and no worker holds a key, none is left
pub over_leaves : (v : WorkersView) (end : Settle) → IsOver v end → v.hands ≡ [] → IsUnsettled end → ⊥
over_leaves v settled.Settled over none never = never
over_leaves v (settled.Unsettled waiting held) over none left = over.3 none
over_leaves v settled.Spent over none never = never
over_leaves v settled.Fault over none never = never
over_leaves v settled.NoMemory over none never = never
