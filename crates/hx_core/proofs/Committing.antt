-- What a commit leaves, by how the keeper took the batch.
--     held_prepared      what a keeper holds before its batch
--     landed             the batch landed
--     failed             the keeper failed
--     sound_landed, sound_failed     the fields are sound afterwards
--     sound_committed    they are, however the commit ended
use Rattle.std.proofs.Common.{◌≡◌, ◌≢◌, ◌≤◌, true, false, List, [], None, Some, IfSome, Option, refl, sym, ap, subst, ◌∙◌, inl, inr, ◌⊎◌, true≢false, Ok, Err}
use Rattle.std.specs.Prelude.{OnOk, OnErr, IsErrOf}
use Rattle.std.specs.List.{AllByRecursion}
use Rattle.std.specs.declared.result.Result.{Result}
use Rattle.hx_ports.specs.Causes.{Rose}
use Rattle.hx_ports.specs.Keeping.{Kept, Lands}
use Rattle.hx_ports.specs.Views.{KeeperView}
use Rattle.hx_ports.specs.declared.keeper.Batch.{Batch}
use Rattle.hx_ports.specs.declared.keeper.KeepFault.{KeepFault}
use Rattle.hx_ports.specs.declared.keeper.KeepFault.TheVariants.{Fault, NoMemory as KeepNoMemory}
use Rattle.hx_model.specs.Covered.{IsCovered}
use Rattle.hx_model.specs.Hands.{Hand}
use Rattle.hx_model.specs.Machine.{World, written_by, broken_at}
use Rattle.hx_model.specs.State.{State, state_after}
use Rattle.hx_model.specs.Valid.{IsValid}
use Rattle.hx_model.specs.Wanted.{wanted_write}
use Rattle.hx_model.specs.Writes.{MayWriteAll}
use Rattle.hx_model.specs.declared.key.Key.{Key}
use Rattle.hx_model.specs.declared.key.Write.{Write}
use Rattle.hx_model.proofs.Writes.{valid_after}
use Rattle.hx_watch.specs.Watching.{HaveFollowed}
use Rattle.hx_core.specs.Committing.{HasLanded, HasFailed, HasMarked, HasMarkedBut, Holds, IsOrderly, IsPrepared, holding}
use Rattle.hx_core.specs.Inside.{IsSound, view_of}
use Rattle.hx_core.specs.Refinement.{ClusterView, kept_of}
use Rattle.hx_core.specs.Turns.{IsOf}
use Rattle.hx_queue.specs.Workers.{WorkersView}
use Rattle.hx_core.specs.declared.commit.CommitFault.{CommitFault}
use Rattle.hx_core.specs.declared.commit.CommitFault.TheVariants.{KeeperFault, NoMemory}
use Rattle.hx_core.proofs.Making.{stands_landed, stands_failed}
use Rattle.hx_core.proofs.Marked.{marked_within, covered_marked}
use Rattle.hx_core.proofs.Since.{taken_after}
use Rattle.hx_core.proofs.Storing.{landed_held}

-- the keeper took the batch
pub landed : (s t : State) (ws : List Write) (batch : Batch) (k k' : KeeperView) → IsValid s → Holds s k → IsPrepared s ws batch → t ≡ state_after s ws
    → Lands batch k.kept k'.kept → k.broken ≡ false → k'.broken ≡ false → k'.place ≡ k.place → k'.faults ≡ k.faults → HaveFollowed batch.events k.watchers k'.watchers → HasLanded s k ws t k'
landed s t ws batch k k' valid held ready moves lands whole whole' place faults told =
    record {
      may = ready.may;
      state = moves;
      place = place;
      kept = landed_held s ws batch k.kept k'.kept valid ready (held whole) lands ∙ ap (λ u. holding u k.kept) (sym moves);
      whole = whole;
      broken = whole' ∙ sym whole;
      faults = faults;
      told = subst (λ (b : Batch). HaveFollowed b.events k.watchers k'.watchers) ready.is told;
    }

-- the keeper failed
pub failed : (s t : State) (ws : List Write) (batch : Batch) (k k' : KeeperView) → IsValid s → Holds s k → IsPrepared s ws batch → t ≡ s
    → (k'.kept ≡ k.kept) ⊎ (Lands batch k.kept k'.kept × (k.broken ≡ false)) → k'.broken ≡ true → k'.place ≡ k.place → k.faults ≤ k'.faults → Rose k.faults k'.faults → k'.watchers ≡ k.watchers → HasFailed s k ws t k'
failed s t ws batch k k' valid held ready same torn breaks place later rose untold =
    record { may = ready.may; state = same; place = place; broken = breaks; kept = elim torn [ inl e ↦ inl e | inr (lands, whole) ↦ inr (whole, landed_held s ws batch k.kept k'.kept valid ready (held whole) lands) ]; later = later; rose = rose; watchers = untold }

-- ---- the fields afterwards

holds_landed : (t : State) (kept : Option Kept) → IfSome (holding t kept) (λ held. held ≡ kept_of t)
holds_landed t None = tt
holds_landed t (Some h) = refl

pub sound_same : (s t : State) (v v' : WorkersView) (k k' : KeeperView) (staged staged' : List Write) → IsSound s v k staged → staged' ≡ [] → view_of t v' k' ≡ view_of s v k → IsSound t v' k' staged'
sound_same s t v v' k k' staged staged' sound none same =
    subst (λ (c : ClusterView). IsSound c.state c.workers c.keeper staged') (sym same) (record { valid = sound.valid; held = sound.held; covered = sound.covered; taken = sound.taken; world = sound.world; none = none })

-- the writes of a commit landed, and their keys are marked
pub sound_landed : (s t : State) (v v' : WorkersView) (ws : List Write) (own : Option Key) (k k' : KeeperView) (staged staged' : List Write) → IsSound s v k staged → MayWriteAll s ws → IsOrderly s ws → ws ≢ []
    → IfSome own (λ j. wanted_write (state_after s ws) j ≡ None) → staged' ≡ [] → HasLanded s k ws t k' → HasMarkedBut s ws own v v' → IsSound t v' k' staged'
sound_landed s t v v' ws own k k' staged staged' sound may orderly some nothing none done marked =
    let next : World = written_by sound.world.0 ws in
    record {
      valid = subst IsValid (sym done.state) (valid_after s ws sound.valid may);
      held = λ _. subst (λ (o : Option Kept). IfSome o (λ held. held ≡ kept_of t)) (sym done.kept) (holds_landed t k.kept);
      covered = subst (λ (u : State). IsCovered u v'.hands v'.waiting v'.again) (sym done.state) (covered_marked s ws own v v' orderly.regular nothing sound.taken sound.covered marked);
      taken = subst (λ (hands : List Hand). AllByRecursion (IsOf t) hands) (sym marked.marked.hands) (subst (λ (u : State). AllByRecursion (IsOf u) v.hands) (sym done.state) (taken_after s ws v.hands may orderly.out sound.taken));
      world = (next, stands_landed (view_of s v k) (view_of t v' k') ws sound.world.0 next done (marked_within s ws own v v' some orderly.regular marked) sound.world.1 refl);
      none = none;
    }

pub sound_failed : (s t : State) (v v' : WorkersView) (ws : List Write) (k k' : KeeperView) (staged staged' : List Write) → IsSound s v k staged → staged' ≡ [] → HasFailed s k ws t k' → v' ≡ v → IsSound t v' k' staged'
sound_failed s t v v' ws k k' staged staged' sound none lost same =
    let next : World = broken_at sound.world.0 (state_after sound.world.0.state ws) in
    record {
      valid = subst IsValid (sym lost.state) sound.valid;
      held = λ whole. absurd (true≢false (sym lost.broken ∙ whole));
      covered = subst (λ (u : WorkersView). IsCovered t u.hands u.waiting u.again) (sym same) (subst (λ (u : State). IsCovered u v.hands v.waiting v.again) (sym lost.state) sound.covered);
      taken = subst (λ (u : WorkersView). AllByRecursion (IsOf t) u.hands) (sym same) (subst (λ (u : State). AllByRecursion (IsOf u) v.hands) (sym lost.state) sound.taken);
      world = (next, stands_failed (view_of s v k) (view_of t v' k') ws sound.world.0 next lost same sound.world.1 refl);
      none = none;
    }

-- ---- the answers of a commit

-- a fault of the commit is one of the keeper
pub fault_of_keeper : (fault : KeepFault) (r : CommitFault) → (fault ≡ KeepNoMemory → r ≡ NoMemory) → r ≡ KeeperFault → fault ≡ Fault
fault_of_keeper Fault r memory e = refl
fault_of_keeper KeepNoMemory r memory e = let h : r ≡ NoMemory = memory refl in cc

-- the fields are sound, however the commit ended
pub sound_committed : {T : Type 0} (s t : State) (v v' : WorkersView) (ws : List Write) (own : Option Key) (k k' : KeeperView) (staged staged' : List Write) (result : Result T CommitFault) → IsSound s v k staged → MayWriteAll s ws → IsOrderly s ws → ws ≢ []
    → IfSome own (λ j. wanted_write (state_after s ws) j ≡ None) → staged' ≡ [] → OnOk result (HasLanded s k ws t k') → OnOk result (HasMarkedBut s ws own v v') → OnErr result (v' ≡ v)
    → (IsErrOf result NoMemory → t ≡ s) → (IsErrOf result NoMemory → k' ≡ k) → (IsErrOf result KeeperFault → HasFailed s k ws t k') → IsSound t v' k' staged'
sound_committed s t v v' ws own k k' staged staged' (Ok l) sound may orderly some nothing none done marked same state keeper fault = sound_landed s t v v' ws own k k' staged staged' sound may orderly some nothing none done marked
sound_committed s t v v' ws own k k' staged staged' (Err NoMemory) sound may orderly some nothing none done marked same state keeper fault = sound_same s t v v' k k' staged staged' sound none (λ i. view_of (state refl i) (same i) (keeper refl i))
sound_committed s t v v' ws own k k' staged staged' (Err KeeperFault) sound may orderly some nothing none done marked same state keeper fault = sound_failed s t v v' ws k k' staged staged' sound none (fault refl) same

-- what is marked may be
pub marked_committed : {T : Type 0} (s : State) (v v' : WorkersView) (ws : List Write) (own : Option Key) (result : Result T CommitFault) → IsOrderly s ws → ws ≢ [] → OnOk result (HasMarkedBut s ws own v v') → OnOk result (HasMarked s ws v v')
marked_committed s v v' ws own (Ok l) orderly some marked = marked_within s ws own v v' some orderly.regular marked
marked_committed s v v' ws own (Err fault) orderly some marked = tt

-- where no memory was left, nothing changed
pub same_committed : {T : Type 0} (s t : State) (v v' : WorkersView) (k k' : KeeperView) (result : Result T CommitFault) → OnErr result (v' ≡ v) → (IsErrOf result NoMemory → t ≡ s) → (IsErrOf result NoMemory → k' ≡ k) → IsErrOf result NoMemory → view_of t v' k' ≡ view_of s v k
same_committed s t v v' k k' (Ok l) same state keeper is = absurd (let h = is in cc)
same_committed s t v v' k k' (Err fault) same state keeper is = λ i. view_of (state is i) (same i) (keeper is i)
