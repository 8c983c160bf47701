-- The entries that calls make.
--     IsQuiet                    an entry tells nothing
--     makes_still, makes_landed, makes_failed     an entry by what it does to the keeper
--     marks_nothing, was_waiting, was_again     what marks leave
--     stands_landed, stands_failed    the worlds after a commit
--     enters_still               an entry that leaves its world
--     enters_landed              one whose writes landed
--     enters_failed              one whose writes were lost to a fault of the keeper
-- An entry is a request's, or any other whose worlds are told.
use Rattle.std.proofs.Common.{◌≡◌, ◌≤◌, Bool, true, false, List, [], ◌∷◌, None, Some, is_some, IfSome, refl, sym, ap, subst, ◌∙◌, inl, inr, arith, append-nil, true≢false}
use Rattle.std.specs.Prelude.{◌⊎◌, ◌&&◌, ◌||◌, not, if◌then◌else◌, IsSomeAnd, option_map}
use Rattle.std.proofs.lemmas.Bool.{or_cases, or_left, or_right, and_parts}
use Rattle.std.specs.declared.option.Option.{Option}
use Rattle.hx_ports.specs.Keeping.{Kept}
use Rattle.hx_ports.specs.Views.{KeeperView}
use Rattle.hx_model.specs.Machine.{World, Entry, IsLegal, world_after, written_by, broken_at, is_lost_to_fault}
use Rattle.hx_model.specs.Keys.{is_among, may_mark}
use Rattle.hx_model.specs.Hands.{is_held}
use Rattle.hx_model.specs.State.{State, events_of, state_after}
use Rattle.hx_model.specs.Valid.{IsValid}
use Rattle.hx_model.specs.Writes.{MayWriteAll}
use Rattle.hx_model.specs.declared.key.Key.{Key}
use Rattle.hx_model.specs.declared.key.Write.{Write}
use Rattle.hx_model.proofs.Writes.{valid_after}
use Rattle.hx_ports.specs.Causes.{Rose}
use Rattle.hx_watch.specs.Watching.{HaveFollowed, Members}
use Rattle.hx_watch.proofs.Following.{follow-nothing}
use Rattle.hx_core.specs.Committing.{HasLanded, HasFailed, HasMarked}
use Rattle.hx_model.specs.Happening.{events_at, events_in}
use Rattle.hx_queue.specs.Workers.{WorkersView}
use Rattle.hx_core.specs.Refinement.{ClusterView, IsValidWorld, Represents, HasWorld, Simulates, IsKeptOf, kept_of}

-- ---- one entry

either_lost : (x y : Bool) → (x || y) ≡ true → (x ≡ true) ⊎ (y ≡ true)
either_lost true y e = inl refl
either_lost false y e = inr e

neither_lost : (x y : Bool) → (x || y) ≡ false → (x ≡ false) × (y ≡ false)
neither_lost true y e = absurd (true≢false e)
neither_lost false y e = (refl, e)

-- what an entry does in a world
abbrev pub Enters : ClusterView → Entry → ClusterView → Type 0
Enters old e new = (w : World) → Represents old w → IsLegal w e × Represents new (world_after w e)

-- what an entry tells the keeper's watchers
abbrev pub Tells : ClusterView → Entry → ClusterView → Type 0
Tells old e new = (w : World) → Represents old w → HaveFollowed (events_at w e) old.keeper.watchers new.keeper.watchers

-- it tells nothing
abbrev pub IsQuiet : ClusterView → Entry → Type 0
IsQuiet c e = (w : World) → Represents c w → events_at w e ≡ []

untold : (old new : Members) → new ≡ old → HaveFollowed [] old new
untold old new same = subst (HaveFollowed [] old) (sym same) (follow-nothing old)

quietly : (old new : ClusterView) (e : Entry) → IsQuiet old e → new.keeper.watchers ≡ old.keeper.watchers → Tells old e new
quietly old new e quiet same w stands =
    subst (λ es. HaveFollowed es old.keeper.watchers new.keeper.watchers) (sym (quiet w stands)) (untold old.keeper.watchers new.keeper.watchers same)

told_one : (old new : ClusterView) (e : Entry) → Tells old e new → (w : World) → Represents old w → HaveFollowed (events_in w (e ∷ [])) old.keeper.watchers new.keeper.watchers
told_one old new e tells w stands = subst (λ es. HaveFollowed es old.keeper.watchers new.keeper.watchers) (sym (append-nil (events_at w e))) (tells w stands)

-- an entry that isn't lost to a fault, and a keeper that counts none
makes_whole : (old new : ClusterView) (e : Entry) → HasWorld old → Enters old e new → is_lost_to_fault e ≡ false → new.keeper.faults ≡ old.keeper.faults → is_some new.keeper.kept ≡ is_some old.keeper.kept → new.keeper.place ≡ old.keeper.place → Tells old e new
    → Simulates old (e ∷ []) new
makes_whole old new e stood steps whole same tells place told = record {
  stood = stood;
  steps = λ w stands. let step = steps w stands in ((step.0, tt), step.1);
  valid = λ w stands. (stands.valid, (steps w stands).1.valid);
  later = omega (arith, same);
  cause = λ lost. elim (either_lost (is_lost_to_fault e) false lost) [ inl is ↦ absurd (true≢false (sym is ∙ whole)) | inr is ↦ absurd (true≢false (sym is)) ];
  still = λ _. same;
  told = told_one old new e told;
  tells = tells;
  place = place;
}

-- ---- worlds

-- a cluster stands for a world of the same state, brokenness and content
stands_same : (old new : ClusterView) (w v : World) → new ≡ old → v ≡ w → Represents old w → Represents new v
stands_same old new w v same is stands = subst (Represents new) (sym is) (subst (λ c. Represents c w) (sym same) stands)

-- what is held of a state is what the keeper may hold in a world of it
holds_state : (s : State) (w : World) (kept : Option Kept) → w.state ≡ s → IfSome (option_map (λ _. kept_of s) kept) (IsKeptOf w)
holds_state s w None is = tt
holds_state s w (Some h) is = inl (ap kept_of (sym is))

still_kept : (kept : Option Kept) (w : World) (torn : State) → IfSome kept (IsKeptOf w) → IfSome kept (IsKeptOf (broken_at w torn))
still_kept None w torn p = tt
still_kept (Some h) w torn (inl is) = inl is
still_kept (Some h) w torn (inr (broken, is)) = inr (refl, subst (λ b. IsSomeAnd (if b then w.torn else Some torn) (λ s. h ≡ kept_of s)) (sym broken) is)

maybe_written : (kept : Option Kept) (w : World) (torn s : State) → w.broken ≡ false → torn ≡ s → IfSome (option_map (λ _. kept_of s) kept) (IsKeptOf (broken_at w torn))
maybe_written None w torn s whole is = tt
maybe_written (Some h) w torn s whole is = inr (refl, subst (λ b. IsSomeAnd (if b then w.torn else Some torn) (λ t. kept_of s ≡ kept_of t)) (sym whole) (ap kept_of (sym is)))

-- the world after writes that may be made, and the one that broke at them
valid_landed : (w : World) (ws : List Write) → IsValidWorld w → MayWriteAll w.state ws → IsValidWorld (written_by w ws)
valid_landed w ws valid may = record { state = valid_after w.state ws valid.state may; torn = valid.torn }

valid_broken : (w : World) (torn : State) → IsValidWorld w → IsValid torn → IsValidWorld (broken_at w torn)
valid_broken w torn valid may = record { state = valid.state; torn = by w.broken }
  where
    by : (b : Bool) → IfSome (if b then w.torn else Some torn) IsValid
    by true = valid.torn
    by false = may

-- ---- marks

or_none : (b : Bool) → b ≡ (b || false)
or_none true = refl
or_none false = refl

-- no writes mark nothing
pub marks_nothing : (s : State) (old new : WorkersView) → new ≡ old → HasMarked s [] old new
marks_nothing s old new same = record {
  keys = [];
  may = λ k e. absurd (true≢false (sym e));
  marked = record {
    hands = ap (λ (v : WorkersView). v.hands) same;
    waiting = λ k. ap (λ (v : WorkersView). is_among k v.waiting) same ∙ or_none (is_among k old.waiting);
    again = λ k. ap (λ (v : WorkersView). is_among k v.again) same ∙ or_none (is_among k old.again);
  };
  none = λ _. same;
}

module _ (s : State) (ws : List Write) (old new : WorkersView) (marks : HasMarked s ws old new) where
  either : (k : Key) (a b : Bool) → (a || (is_among k marks.keys && b)) ≡ true → (a ≡ true) ⊎ (may_mark s ws k ≡ true)
  either k a b e = elim (or_cases a (is_among k marks.keys && b) e) [
    | inl here ↦ inl here
    | inr there ↦ inr (marks.may k (and_parts (is_among k marks.keys) b there).0)
  ]

  -- what waits then waited before, or may be marked
  pub was_waiting : (k : Key) → is_among k new.waiting ≡ true → (is_among k old.waiting ≡ true) ⊎ (may_mark s ws k ≡ true)
  was_waiting k e = either k (is_among k old.waiting) (not (is_held k old.hands)) (sym (marks.marked.waiting k) ∙ e)

  pub was_again : (k : Key) → is_among k new.again ≡ true → (is_among k old.again ≡ true) ⊎ (may_mark s ws k ≡ true)
  was_again k e = either k (is_among k old.again) (is_held k old.hands) (sym (marks.marked.again k) ∙ e)

-- what was marked before, or is marked by the writes
marked_after : (s : State) (ws : List Write) (w : World) (k : Key) (b : Bool) → w.state ≡ s → (b ≡ true → w.marked k ≡ true) → (b ≡ true) ⊎ (may_mark s ws k ≡ true) → (w.marked k || may_mark w.state ws k) ≡ true
marked_after s ws w k b is before (inl old) = or_left (w.marked k) (may_mark w.state ws k) (before old)
marked_after s ws w k b is before (inr new) = or_right (w.marked k) (may_mark w.state ws k) (ap (λ t. may_mark t ws k) is ∙ new)

-- the cluster that made the writes, and marked keys, stands for the world after them
pub stands_landed : (old new : ClusterView) (ws : List Write) (w v : World) → HasLanded old.state old.keeper ws new.state new.keeper → HasMarked old.state ws old.workers new.workers → Represents old w → v ≡ written_by w ws → Represents new v
stands_landed old new ws w v landed marked stands is =
    let next : World = written_by w ws in
    let state : next.state ≡ new.state = ap (λ s. state_after s ws) stands.state ∙ sym landed.state in
    subst (Represents new) (sym is) (record {
      valid = valid_landed w ws stands.valid (subst (λ s. MayWriteAll s ws) (sym stands.state) landed.may);
      state = state;
      hands = stands.hands ∙ sym marked.marked.hands;
      waiting = λ k e. marked_after old.state ws w k (is_among k old.workers.waiting) stands.state (stands.waiting k) (was_waiting old.state ws old.workers new.workers marked k e);
      again = λ k e. marked_after old.state ws w k (is_among k old.workers.again) stands.state (stands.again k) (was_again old.state ws old.workers new.workers marked k e);
      broken = stands.broken ∙ sym landed.broken;
      kept = subst (λ (k : Option Kept). IfSome k (IsKeptOf next)) (sym landed.kept) (holds_state new.state next old.keeper.kept state);
    })

-- the cluster whose keeper failed stands for the world that broke at them
pub stands_failed : (old new : ClusterView) (ws : List Write) (w v : World) → HasFailed old.state old.keeper ws new.state new.keeper → new.workers ≡ old.workers → Represents old w → v ≡ broken_at w (state_after w.state ws) → Represents new v
stands_failed old new ws w v failed same stands is =
    let torn : State = state_after w.state ws in
    subst (Represents new) (sym is) (record {
      valid = valid_broken w torn stands.valid (valid_after w.state ws stands.valid.state (subst (λ s. MayWriteAll s ws) (sym stands.state) failed.may));
      state = stands.state ∙ sym failed.state;
      hands = stands.hands ∙ sym (ap (λ (x : WorkersView). x.hands) same);
      waiting = λ k e. stands.waiting k (sym (ap (λ (x : WorkersView). is_among k x.waiting) same) ∙ e);
      again = λ k e. stands.again k (sym (ap (λ (x : WorkersView). is_among k x.again) same) ∙ e);
      broken = sym failed.broken;
      kept = elim failed.kept [
        | inl same ↦ subst (λ k. IfSome k (IsKeptOf (broken_at w torn))) (sym same) (still_kept old.keeper.kept w torn stands.kept)
        | inr (whole, held) ↦ subst (λ k. IfSome k (IsKeptOf (broken_at w torn))) (sym held) (maybe_written old.keeper.kept w torn (state_after old.state ws) (stands.broken ∙ whole) (ap (λ s. state_after s ws) stands.state))
      ];
    })

-- ---- the entries

-- an entry that leaves its world
pub enters_still : (old new : ClusterView) (e : Entry) → HasWorld old → new ≡ old → is_lost_to_fault e ≡ false → ((w : World) → Represents old w → IsLegal w e × (world_after w e ≡ w)) → IsQuiet old e → Simulates old (e ∷ []) new
enters_still old new e stood same whole stays quiet =
    makes_whole old new e stood (λ w stands. let here = stays w stands in (here.0, stands_same old new w (world_after w e) same here.1 stands)) whole
    (ap (λ (c : ClusterView). c.keeper.faults) same) (ap (λ (c : ClusterView). is_some c.keeper.kept) same) (ap (λ (c : ClusterView). c.keeper.place) same)
    (quietly old new e quiet (ap (λ (c : ClusterView). c.keeper.watchers) same))

still_told : {A B : Type 0} (o : Option A) (f : A → B) → is_some (option_map f o) ≡ is_some o
still_told None f = refl
still_told (Some a) f = refl

-- one whose writes the keeper took
pub makes_landed : (old new : ClusterView) (ws : List Write) (e : Entry) (k : KeeperView) (t : State) → HasWorld old → HasLanded old.state old.keeper ws t k → new.keeper ≡ k → is_lost_to_fault e ≡ false → Enters old e new → ((w : World) → Represents old w → events_at w e ≡ events_of w.state ws) → Simulates old (e ∷ []) new
makes_landed old new ws e k t stood landed same whole steps tells =
    makes_whole old new e stood steps whole
    (ap (λ (c : KeeperView). c.faults) same ∙ landed.faults) (ap (λ (c : KeeperView). is_some c.kept) same ∙ ap is_some landed.kept ∙ still_told old.keeper.kept (λ _. kept_of t)) (ap (λ (c : KeeperView). c.place) same ∙ landed.place)
    (λ w stands. subst (λ es. HaveFollowed es old.keeper.watchers new.keeper.watchers) (sym (tells w stands ∙ ap (λ s. events_of s ws) stands.state)) (subst (λ (c : KeeperView). HaveFollowed (events_of old.state ws) old.keeper.watchers c.watchers) (sym same) landed.told))

-- an entry whose writes landed
pub enters_landed : (old new : ClusterView) (ws : List Write) (e : Entry) → HasWorld old → HasLanded old.state old.keeper ws new.state new.keeper → HasMarked old.state ws old.workers new.workers → is_lost_to_fault e ≡ false
    → ((w : World) → Represents old w → IsLegal w e × (world_after w e ≡ written_by w ws)) → ((w : World) → Represents old w → events_at w e ≡ events_of w.state ws) → Simulates old (e ∷ []) new
enters_landed old new ws e stood landed marked whole lands tells =
    makes_landed old new ws e new.keeper new.state stood landed refl whole (λ w stands. let here = lands w stands in (here.0, stands_landed old new ws w (world_after w e) landed marked stands here.1)) tells

-- one that leaves the keeper
pub makes_still : (old new : ClusterView) (e : Entry) → HasWorld old → Enters old e new → is_lost_to_fault e ≡ false → new.keeper ≡ old.keeper → IsQuiet old e → Simulates old (e ∷ []) new
makes_still old new e stood steps whole kept quiet =
    makes_whole old new e stood steps whole (ap (λ (k : KeeperView). k.faults) kept) (ap (λ (k : KeeperView). is_some k.kept) kept) (ap (λ (k : KeeperView). k.place) kept)
    (quietly old new e quiet (ap (λ (k : KeeperView). k.watchers) kept))

failed_tells : (s : State) (k : KeeperView) (ws : List Write) (t : State) (k' : KeeperView) → HasFailed s k ws t k' → is_some k'.kept ≡ is_some k.kept
failed_tells s k ws t k' failed = elim failed.kept [
  | inl same ↦ ap is_some same
  | inr (whole, held) ↦ ap is_some held ∙ still_told k.kept (λ _. kept_of (state_after s ws))
]

-- one at which the keeper failed
pub makes_failed : (old new : ClusterView) (ws : List Write) (e : Entry) (k : KeeperView) (t : State) → HasWorld old → HasFailed old.state old.keeper ws t k → new.keeper ≡ k → is_lost_to_fault e ≡ true → Enters old e new → IsQuiet old e → Simulates old (e ∷ []) new
makes_failed old new ws e k t stood failed same lost steps quiet = record {
  stood = stood;
  steps = λ w stands. let here = steps w stands in ((here.0, tt), here.1);
  valid = λ w stands. (stands.valid, (steps w stands).1.valid);
  later = subst (λ (c : KeeperView). old.keeper.faults ≤ c.faults) (sym same) failed.later;
  cause = λ _. subst (λ (c : KeeperView). Rose old.keeper.faults c.faults) (sym same) failed.rose;
  still = λ none. absurd (true≢false (sym lost ∙ (neither_lost (is_lost_to_fault e) false none).0));
  told = told_one old new e (quietly old new e quiet (ap (λ (c : KeeperView). c.watchers) same ∙ failed.watchers));
  tells = ap (λ (c : KeeperView). is_some c.kept) same ∙ failed_tells old.state old.keeper ws t k failed;
  place = ap (λ (c : KeeperView). c.place) same ∙ failed.place;
}

-- an entry whose writes were lost to a fault of the keeper
pub enters_failed : (old new : ClusterView) (ws : List Write) (e : Entry) → HasWorld old → HasFailed old.state old.keeper ws new.state new.keeper → new.workers ≡ old.workers → is_lost_to_fault e ≡ true
    → ((w : World) → Represents old w → IsLegal w e × (world_after w e ≡ broken_at w (state_after w.state ws))) → IsQuiet old e → Simulates old (e ∷ []) new
enters_failed old new ws e stood failed same lost fails quiet =
    makes_failed old new ws e new.keeper new.state stood failed refl lost (λ w stands. let here = fails w stands in (here.0, stands_failed old new ws w (world_after w e) failed same stands here.1)) quiet
