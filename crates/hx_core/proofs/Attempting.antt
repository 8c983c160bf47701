-- A hand's write.
--     hand_of_state               what a worker holds is of an earlier state
--     may_make                    it may be made where its guards are met
--     make_orderly                it is one that a commit may make
--     own_wants_none              its key wants nothing then, if nothing was written since and it is of no removal
--     tried_written, tried_lost   it was made, or the keeper failed at it
--     tried_failed                however its write was lost
--     tried_stale, tried_spent, version_left    its guards aren't met, or no version is left
use Rattle.std.proofs.Common.{◌≡◌, ◌≢◌, ◌≤◌, ◌<◌, ◌+◌, ℕ, Bool, true, false, ◌&&◌, List, [], ◌∷◌, Option, Some, None, IfSome, refl, sym, ap, ◌∙◌, subst, arith, inl, inr, true≢false}
use Rattle.std.specs.Prelude.{nat_le}
use Rattle.std.proofs.lemmas.Bool.{and_parts, leb-true}
use Rattle.std.proofs.lemmas.Bool.Decides.{leb_tells}
use Rattle.std.specs.List.{AllByRecursion}
use Rattle.hx_model.specs.Hands.{Hand, hand_of, are_met, keeps_sources, may_write, versioned}
use Rattle.hx_model.specs.Limits.{greatest_version}
use Rattle.hx_model.specs.State.{State, state_after}
use Rattle.hx_model.specs.Valid.{IsValid}
use Rattle.hx_model.specs.Wanted.{wanted_write}
use Rattle.hx_model.specs.Writes.{MayWriteAll}
use Rattle.hx_model.specs.declared.key.Finish.{Finish}
use Rattle.hx_model.specs.declared.key.Finish.TheVariants as ending
use Rattle.hx_model.specs.declared.key.Key.{Key}
use Rattle.hx_model.specs.declared.key.Key.TheVariants as key
use Rattle.hx_model.specs.declared.key.Write.{Write}
use Rattle.hx_reconcile.specs.Briefs.{hand_by, planned_by}
use Rattle.hx_reconcile.specs.declared.brief.Brief.{Brief}
use Rattle.hx_marks.proofs.Making.{is_removal as is_once}
use Rattle.hx_core.specs.Committing.{HasLanded, HasFailed, HasMarked, IsOrderly, StaysOut}
use Rattle.hx_core.specs.Refinement.{ClusterView}
use Rattle.hx_core.specs.declared.commit.CommitFault.{CommitFault}
use Rattle.hx_core.specs.declared.commit.CommitFault.TheVariants.{KeeperFault, NoMemory}
use Rattle.hx_core.specs.Turns.{IsOf}
use Rattle.hx_core.specs.Working.{IsTried, is_removal}
use Rattle.hx_core.proofs.Holding.{All-of}
use Rattle.hx_core.proofs.Laws.{fresh_satisfies}
use Rattle.hx_core.proofs.Meeting.{may_write_now, past_write, stays_out_now, wanted_then}

-- what a worker holds is of an earlier state
pub hand_of_state : (s : State) (worker : ℕ) (hands : List Hand) (brief : Brief) → AllByRecursion (IsOf s) hands → hand_of worker hands ≡ Some (hand_by worker brief) → IsOf s (hand_by worker brief)
hand_of_state s worker hands brief all at = All-of (IsOf s) worker hands (hand_by worker brief) all at

pub may_make : (s : State) (worker : ℕ) (brief : Brief) (write : Write) (ws : List Write) → IsOf s (hand_by worker brief) → Some write ≡ planned_by brief → may_write s (hand_by worker brief) write ≡ true → s.last < greatest_version → ws ≡ versioned (s.last + 1) write ∷ [] → MayWriteAll s ws
may_make s worker brief write ws of planned may fits is =
    subst (MayWriteAll s) (sym is) (may_write_now s (hand_by worker brief) write of (sym planned) (and_parts (are_met s brief.guards) (keeps_sources s brief.key write) may).0 fits)

-- it is one that a commit may make
pub make_orderly : (s : State) (worker : ℕ) (brief : Brief) (write : Write) (ws : List Write) → IsOf s (hand_by worker brief) → Some write ≡ planned_by brief → may_write s (hand_by worker brief) write ≡ true → ws ≡ versioned (s.last + 1) write ∷ [] → IsOrderly s ws
make_orderly s worker brief write ws of planned may is = record {
  regular = inl (versioned (s.last + 1) write, is);
  out = subst (AllByRecursion (StaysOut s)) (sym is) (stays_out_now s (hand_by worker brief) write of (sym planned) (and_parts (are_met s brief.guards) (keeps_sources s brief.key write) may).0, tt);
}

pub some_write : (ws : List Write) (write : Write) → ws ≡ write ∷ [] → ws ≢ []
some_write ws write is none = let h : write ∷ [] ≡ [] = sym is ∙ none in cc

-- a key that is of no removal
once_key : (k : Key) → is_removal k ≡ false → is_once k ≡ false
once_key (key.Purge n) e = e
once_key _ e = refl

pub own_wants_none : (s : State) (worker : ℕ) (brief : Brief) (write : Write) (ws : List Write) (own : Option Key) → IsValid s → IsOf s (hand_by worker brief) → Some write ≡ planned_by brief → ws ≡ versioned (s.last + 1) write ∷ []
    → IfSome own (λ k. (k ≡ brief.key) × (brief.seen ≡ s.last) × (is_removal brief.key ≡ false)) → IfSome own (λ k. wanted_write (state_after s ws) k ≡ None)
own_wants_none s worker brief write ws None valid of planned is fresh = tt
own_wants_none s worker brief write ws (Some k) valid of planned is fresh =
    let seen : brief.seen ≡ of.then.last = ap (λ (h : Hand). h.seen) of.is in
    let same : of.then ≡ s = of.since.same (sym seen ∙ fresh.1) in
    let wants : wanted_write s brief.key ≡ Some write = subst (λ t. wanted_write t brief.key ≡ Some write) same (wanted_then s (hand_by worker brief) write of (sym planned)) in
    subst (λ us. wanted_write (state_after s us) k ≡ None) (sym is) (subst (λ j. wanted_write (state_after s (versioned (s.last + 1) write ∷ [])) j ≡ None) (sym fresh.0) (fresh_satisfies s brief.key write valid (once_key brief.key fresh.2) wants))

pub tried_written : (c new : ClusterView) (worker : ℕ) (brief : Brief) (write : Write) (ws : List Write) (version : ℕ) → IsOf c.state (hand_by worker brief) → Some write ≡ planned_by brief → may_write c.state (hand_by worker brief) write ≡ true → c.state.last < greatest_version
    → version ≡ c.state.last + 1 → ws ≡ versioned (c.state.last + 1) write ∷ [] → HasLanded c.state c.keeper ws new.state new.keeper → HasMarked c.state ws c.workers new.workers → IsTried (hand_by worker brief) write c (ending.Written version) new
tried_written c new worker brief write ws version of planned may fits number is landed marked = (
  may,
  record {
    version_is = number;
    fits = fits;
    landed = subst (λ us. HasLanded c.state c.keeper us new.state new.keeper) is landed;
    marked = subst (λ us. HasMarked c.state us c.workers new.workers) is marked;
    past = ap (λ (s : State). are_met s brief.guards) (landed.state ∙ ap (state_after c.state) is) ∙ past_write c.state (hand_by worker brief) write of (sym planned) fits;
  },
)

pub tried_lost : (c new : ClusterView) (worker : ℕ) (brief : Brief) (write : Write) (ws : List Write) → may_write c.state (hand_by worker brief) write ≡ true → c.state.last < greatest_version → ws ≡ versioned (c.state.last + 1) write ∷ []
    → HasFailed c.state c.keeper ws new.state new.keeper → new.workers ≡ c.workers → IsTried (hand_by worker brief) write c ending.Fault new
tried_lost c new worker brief write ws may fits is failed same = (may, record { fits = fits; failed = subst (λ us. HasFailed c.state c.keeper us new.state new.keeper) is failed; workers = same })

-- however its write was lost
pub tried_failed : (c new : ClusterView) (worker : ℕ) (brief : Brief) (write : Write) (ws : List Write) (fault : CommitFault) (end : Finish) → may_write c.state (hand_by worker brief) write ≡ true → c.state.last < greatest_version → ws ≡ versioned (c.state.last + 1) write ∷ []
    → (fault ≡ NoMemory → new ≡ c) → (fault ≡ KeeperFault → HasFailed c.state c.keeper ws new.state new.keeper) → new.workers ≡ c.workers → (fault ≡ KeeperFault → end ≡ ending.Fault) → (fault ≡ NoMemory → end ≡ ending.NoMemory) → IsTried (hand_by worker brief) write c end new
tried_failed c new worker brief write ws KeeperFault end may fits is memory failed same keeper room = subst (λ e. IsTried (hand_by worker brief) write c e new) (sym (keeper refl)) (tried_lost c new worker brief write ws may fits is (failed refl) same)
tried_failed c new worker brief write ws NoMemory end may fits is memory failed same keeper room = subst (λ e. IsTried (hand_by worker brief) write c e new) (sym (room refl)) (memory refl)

pub tried_stale : (c : ClusterView) (worker : ℕ) (brief : Brief) (write : Write) (may : Bool) (now : ℕ) → may ≡ false → may ≡ (are_met c.state brief.guards && keeps_sources c.state brief.key write) → now ≡ c.state.last → IsTried (hand_by worker brief) write c (ending.Conflict brief.seen now) c
tried_stale c worker brief write may now stale is last = (sym is ∙ stale, refl, last, refl)

-- no version is left where the last one isn't less than the greatest
spent_at : (most last : ℕ) → nat_le most last ≡ true → last ≤ most → last ≡ most
spent_at most last over fits = let le : most ≤ last = leb-true most last over in omega (arith, le, fits)

left_at : (most last : ℕ) → nat_le most last ≡ false → last < most
left_at most last over = elim (leb_tells most last) [
  | inl (is, le) ↦ absurd (true≢false (sym is ∙ over))
  | inr (is, lt) ↦ lt
]

pub tried_spent : (c : ClusterView) (worker : ℕ) (brief : Brief) (write : Write) → may_write c.state (hand_by worker brief) write ≡ true → nat_le greatest_version c.state.last ≡ true → c.state.last ≤ greatest_version → IsTried (hand_by worker brief) write c ending.Spent c
tried_spent c worker brief write may most fits = (may, spent_at greatest_version c.state.last most fits, refl)

pub version_left : (last : ℕ) → nat_le greatest_version last ≡ false → last < greatest_version
version_left last over = left_at greatest_version last over
