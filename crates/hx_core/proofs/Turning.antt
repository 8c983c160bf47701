-- The entries of workers' takes and drops.
--     hand_stands           what a worker is given is its hand as the state is
--     given_by              what a worker was given, of a cluster
--     takes_job, loses      a key was given, or no memory was left
--     given_lost, given_same    no key was given
--     gives, gives_key      a key is given
--     in_hand               the worker has it
--     keeps, keeps_key      a worker holds a key already
--     idles                 no key waits
--     meets                 another worker holds the key
--     take_kept, take_idle, take_lost, take_given       what a take does
--     named_kept, named_met, named_given                and one whose line names a key
--     drops                 a worker drops what it holds
--     stands_back, stands_gone   the worlds where a hand is let go
use Rattle.std.proofs.Common.{◌≡◌, ℕ, Bool, true, false, not, ◌&&◌, List, [], ◌∷◌, ◌++◌, Option, Some, None, IfSome, IfNone, refl, sym, ap, ◌∙◌, subst, inl, inr, true≢false}
use Rattle.std.specs.Prelude.{IsSomeAnd, option_map, is_some}
use Rattle.std.proofs.lemmas.Bool.{or_cases, or_left, or_right, and_parts}
use Rattle.hx_ports.specs.Views.{KeeperView}
use Rattle.hx_model.specs.Covered.{IsCovered}
use Rattle.hx_model.specs.Forest.{Forest}
use Rattle.hx_model.specs.Hands.{Hand, hand_at, hand_of, is_held, without_hand}
use Rattle.hx_model.specs.Keys.{same_key, is_among}
use Rattle.hx_model.specs.Machine.{World, Took, Idle, Already, HeldBy, LostTake, Dropped, taken_by, let_go, given_back}
use Rattle.hx_model.specs.State.{State}
use Rattle.hx_model.specs.Tree.{forest_of}
use Rattle.hx_model.specs.Wanted.{wanted_write}
use Rattle.hx_model.specs.declared.key.Key.{Key}
use Rattle.hx_model.specs.declared.key.Key.TheVariants as key
use Rattle.hx_model.specs.declared.key.Write.{Write}
use Rattle.hx_order.specs.Ranks.{IsFirst}
use Rattle.hx_reconcile.specs.Briefs.{StandsFor, facts_of, hand_by, planned}
use Rattle.hx_reconcile.specs.declared.brief.Brief.{Brief}
use Rattle.hx_reconcile.specs.declared.brief.Facts.{Facts}
use Rattle.hx_marks.proofs.Among.{same_key_is}
use Rattle.hx_core.specs.Refinement.{ClusterView, Represents, HasWorld, Simulates, IsKeptOf}
use Rattle.hx_core.specs.Turns.{IsInHand, IsOfKey, take_entry, take_key_entry}
use Rattle.hx_queue.specs.Workers.{WorkersView, AreApart, IsLetGo}
use Rattle.hx_core.specs.Inside.{view_of}
use Rattle.hx_core.specs.Queued.{GivesFirst, IsLet, IsReleased, IsSameKeeping, IsTaking}
use Rattle.hx_core.specs.Working.{IsGiven, IsGivenBy, IsJob, IsKept, IsNext, IsTake, IsTakeOf}
use Rattle.hx_core.specs.declared.turns.Take.{Take}
use Rattle.hx_core.specs.declared.turns.Take.TheVariants as take
use Rattle.hx_core.proofs.Covering.{waits_each}
use Rattle.hx_core.proofs.Holding.{held_new}
use Rattle.hx_core.proofs.Making.{enters_still, makes_still}

and_both : (a b : Bool) → a ≡ true → b ≡ true → (a && b) ≡ true
and_both a b e f = ap (λ x. x && b) e ∙ f

-- ---- what a worker is given

pub facts_want : (s : State) (k : Key) (facts : Facts) → facts ≡ facts_of s k → planned k facts ≡ wanted_write s k
facts_want s (key.Copy n kind name) facts e = ap (planned (key.Copy n kind name)) e
facts_want s (key.Tree n) facts e = ap (planned (key.Tree n)) e
facts_want s (key.Report n) facts e = ap (planned (key.Report n)) e
facts_want s (key.Child n name) facts e = ap (planned (key.Child n name)) e
facts_want s (key.Anchor n name) facts e = ap (planned (key.Anchor n name)) e
facts_want s (key.Used n name) facts e = ap (planned (key.Used n name)) e
facts_want s (key.Purge n) facts e = ap (planned (key.Purge n)) e

pub hand_stands : (worker : ℕ) (s : State) (brief : Brief) → StandsFor brief s → hand_by worker brief ≡ hand_at s worker brief.key
hand_stands worker s brief stands = λ i. record { worker = worker; key = brief.key; seen = stands.seen i; guards = stands.guards i; write = facts_want s brief.key brief.facts stands.facts i }

-- ---- takes

pub stands_taken : (old new : ClusterView) (w : World) (worker : ℕ) (k : Key) (brief : Brief) → Represents old w → IsJob worker k old brief new → is_among k old.workers.again ≡ false → Represents new (taken_by w worker k)
stands_taken old new w worker k brief stands job free = record {
  valid = record { state = stands.valid.state; torn = stands.valid.torn };
  state = stands.state ∙ sym job.same.state;
  hands = hands;
  waiting = waiting;
  again = again;
  broken = stands.broken ∙ sym (ap (λ (v : KeeperView). v.broken) job.same.keeper);
  kept = subst (λ (v : KeeperView). IfSome v.kept (IsKeptOf (taken_by w worker k))) (sym job.same.keeper) stands.kept;
}
  where
    hand : hand_by worker brief ≡ hand_at w.state worker k
    hand = hand_stands worker old.state brief job.stands ∙ (let back = sym stands.state in λ i. hand_at (back i) worker (job.key i))

    hands : (w.hands ++ hand_at w.state worker k ∷ []) ≡ new.workers.hands
    hands = (let back = sym hand in λ i. stands.hands i ++ back i ∷ []) ∙ sym job.taken.hands

    waiting : (other : Key) → is_among other new.workers.waiting ≡ true → (w.marked other && not (same_key other k)) ≡ true
    waiting other e =
        let parts = and_parts (is_among other old.workers.waiting) (not (same_key other brief.key)) (sym (job.taken.waiting other) ∙ e) in
        and_both (w.marked other) (not (same_key other k)) (stands.waiting other parts.0) (ap (λ j. not (same_key other j)) (sym job.key) ∙ parts.1)

    apart : (other : Key) (b : Bool) → same_key other k ≡ b → is_among other old.workers.again ≡ true → not b ≡ true
    apart other true same e = absurd (true≢false (sym e ∙ ap (λ j. is_among j old.workers.again) (same_key_is other k same) ∙ free))
    apart other false differs e = refl

    again : (other : Key) → is_among other new.workers.again ≡ true → (w.marked other && not (same_key other k)) ≡ true
    again other e =
        let before : is_among other old.workers.again ≡ true = sym (job.taken.again other) ∙ e in
        and_both (w.marked other) (not (same_key other k)) (stands.again other before) (apart other (same_key other k) refl before)

pub takes_job : (old new : ClusterView) (worker : ℕ) (k : Key) (brief : Brief) (named : Bool) → HasWorld old → hand_of worker old.workers.hands ≡ None → is_held k old.workers.hands ≡ false → (named ≡ false → is_among k old.workers.waiting ≡ true) → is_among k old.workers.again ≡ false
    → IsJob worker k old brief new → Simulates old (Took worker k named ∷ []) new
takes_job old new worker k brief named stood none free waits again job =
    makes_still old new (Took worker k named) stood (λ w stands. (
      (ap (hand_of worker) stands.hands ∙ none, ap (is_held k) stands.hands ∙ free, λ e. stands.waiting k (waits e)),
      stands_taken old new w worker k brief stands job again,
    )) refl job.same.keeper (λ w stands. refl)

pub loses : (old new : ClusterView) (worker : ℕ) → HasWorld old → new ≡ old → Simulates old (LostTake worker ∷ []) new
loses old new worker stood same = enters_still old new (LostTake worker) stood same refl (λ w stands. (tt, refl)) (λ w stands. refl)

-- a key that waits is given
pub gives : (old new : ClusterView) (worker : ℕ) (k : Key) (answer : Take) → HasWorld old → hand_of worker old.workers.hands ≡ None → is_held k old.workers.hands ≡ false → is_among k old.workers.waiting ≡ true → is_among k old.workers.again ≡ false
    → IsGiven worker k old answer new → Simulates old (take_entry worker answer ∷ []) new
gives old new worker k (take.Job brief) stood none free waits again job = subst (λ j. Simulates old (Took worker j false ∷ []) new) (sym job.key) (takes_job old new worker k brief false stood none free (λ _. waits) again job)
gives old new worker k take.Idle stood none free waits again never = absurd never
gives old new worker k (take.Already brief) stood none free waits again never = absurd never
gives old new worker k (take.Other holder) stood none free waits again never = absurd never
gives old new worker k take.NoMemory stood none free waits again same = loses old new worker stood same

-- a key that is named is given
pub gives_key : (old new : ClusterView) (worker : ℕ) (k : Key) (answer : Take) → HasWorld old → hand_of worker old.workers.hands ≡ None → is_held k old.workers.hands ≡ false → is_among k old.workers.again ≡ false
    → IsGiven worker k old answer new → Simulates old (take_key_entry worker k answer ∷ []) new
gives_key old new worker k (take.Job brief) stood none free again job = takes_job old new worker k brief true stood none free (λ e. absurd (true≢false e)) again job
gives_key old new worker k take.Idle stood none free again never = absurd never
gives_key old new worker k (take.Already brief) stood none free again never = absurd never
gives_key old new worker k (take.Other holder) stood none free again never = absurd never
gives_key old new worker k take.NoMemory stood none free again same = loses old new worker stood same

pub in_hand : (old new : ClusterView) (worker : ℕ) (k : Key) (answer : Take) → hand_of worker old.workers.hands ≡ None → IsGiven worker k old answer new → IsInHand new.workers.hands worker answer
in_hand old new worker k (take.Job brief) none job = ap (hand_of worker) job.taken.hands ∙ held_new old.workers.hands (hand_by worker brief) none
in_hand old new worker k take.Idle none never = tt
in_hand old new worker k (take.Already brief) none never = absurd never
in_hand old new worker k (take.Other holder) none never = tt
in_hand old new worker k take.NoMemory none same = tt

pub given_by : (s : State) (v v' : WorkersView) (k : KeeperView) (worker : ℕ) (key : Key) (answer : Take) → IsGivenBy worker key s v answer v' → IsGiven worker key (view_of s v k) answer (view_of s v' k)
given_by s v v' k worker key (take.Job brief) (is, stands, short, taken) = record { same = record { state = refl; keeper = refl }; key = is; stands = stands; short = short; taken = taken }
given_by s v v' k worker key take.Idle never = absurd never
given_by s v v' k worker key (take.Already brief) never = absurd never
given_by s v v' k worker key (take.Other holder) never = absurd never
given_by s v v' k worker key take.NoMemory same = ap (λ u. view_of s u k) same

-- ---- keys that are held

key_of_hand : (worker : ℕ) (hands : List Hand) (h : Hand) (k : Key) → hand_of worker hands ≡ Some h → h.key ≡ k → IsSomeAnd (hand_of worker hands) (λ hand. hand.key ≡ k)
key_of_hand worker hands h k at is = subst (λ o. IsSomeAnd o (λ (hand : Hand). hand.key ≡ k)) (sym at) is

already : (c : ClusterView) (worker : ℕ) (brief : Brief) → HasWorld c → hand_of worker c.workers.hands ≡ Some (hand_by worker brief) → Simulates c (Already worker brief.key ∷ []) c
already c worker brief stood at = enters_still c c (Already worker brief.key) stood refl refl (λ w stands. (key_of_hand worker w.hands (hand_by worker brief) brief.key (ap (hand_of worker) stands.hands ∙ at) refl, refl)) (λ w stands. refl)

-- a worker that holds a brief is told so
pub keeps : (c : ClusterView) (worker : ℕ) (brief : Brief) (answer : Take) → HasWorld c → hand_of worker c.workers.hands ≡ Some (hand_by worker brief) → IsKept brief answer → Simulates c (take_entry worker answer ∷ []) c
keeps c worker brief (take.Job other) stood at never = absurd never
keeps c worker brief take.Idle stood at never = absurd never
keeps c worker brief (take.Already other) stood at same = already c worker other stood (at ∙ ap (λ b. Some (hand_by worker b)) (sym same))
keeps c worker brief (take.Other holder) stood at never = absurd never
keeps c worker brief take.NoMemory stood at same = loses c c worker stood refl

pub keeps_key : (c : ClusterView) (worker : ℕ) (k : Key) (brief : Brief) (answer : Take) → HasWorld c → hand_of worker c.workers.hands ≡ Some (hand_by worker brief) → IsKept brief answer → Simulates c (take_key_entry worker k answer ∷ []) c
keeps_key c worker k brief (take.Job other) stood at never = absurd never
keeps_key c worker k brief take.Idle stood at never = absurd never
keeps_key c worker k brief (take.Already other) stood at same = already c worker other stood (at ∙ ap (λ b. Some (hand_by worker b)) (sym same))
keeps_key c worker k brief (take.Other holder) stood at never = absurd never
keeps_key c worker k brief take.NoMemory stood at same = loses c c worker stood refl

pub keeps_hand : (hands : List Hand) (worker : ℕ) (brief : Brief) (answer : Take) → hand_of worker hands ≡ Some (hand_by worker brief) → IsKept brief answer → IsInHand hands worker answer
keeps_hand hands worker brief (take.Job other) at never = absurd never
keeps_hand hands worker brief take.Idle at never = tt
keeps_hand hands worker brief (take.Already other) at same = at ∙ ap (λ b. Some (hand_by worker b)) (sym same)
keeps_hand hands worker brief (take.Other holder) at never = tt
keeps_hand hands worker brief take.NoMemory at same = tt

-- another worker holds the key
pub meets : (c : ClusterView) (worker : ℕ) (k : Key) (holder : ℕ) → HasWorld c → hand_of worker c.workers.hands ≡ None → IsSomeAnd (hand_of holder c.workers.hands) (λ hand. hand.key ≡ k) → Simulates c (HeldBy worker k holder ∷ []) c
meets c worker k holder stood none held =
    enters_still c c (HeldBy worker k holder) stood refl refl (λ w stands. ((ap (hand_of worker) stands.hands ∙ none, subst (λ hands. IsSomeAnd (hand_of holder hands) (λ hand. hand.key ≡ k)) (sym stands.hands) held), refl)) (λ w stands. refl)

-- ---- where no key waits

pub wants_nothing : (s : State) (v : WorkersView) (k : Key) → IsCovered s v.hands v.waiting v.again → AreApart v → v.waiting ≡ [] → is_held k v.hands ≡ false → wanted_write s k ≡ None
wants_nothing s v k covered apart none free = by (wanted_write s k) refl
  where
    by : (o : Option Write) → wanted_write s k ≡ o → o ≡ None
    by None e = refl
    by (Some write) e = absurd (true≢false (sym (waits_each s v k covered apart (λ never. true≢false (ap is_some (sym e ∙ never))) free) ∙ ap (is_among k) none))

pub idles : (c : ClusterView) (worker : ℕ) → HasWorld c → IsCovered c.state c.workers.hands c.workers.waiting c.workers.again → AreApart c.workers → c.workers.waiting ≡ [] → hand_of worker c.workers.hands ≡ None → Simulates c (Idle worker ∷ []) c
idles c worker stood covered apart none empty =
    enters_still c c (Idle worker) stood refl refl (λ w stands. (
      (ap (hand_of worker) stands.hands ∙ empty, λ k free. ap (λ s. wanted_write s k) stands.state ∙ wants_nothing c.state c.workers k covered apart none (ap (is_held k) (sym stands.hands) ∙ free)),
      refl,
    )) (λ w stands. refl)

-- ---- takes as a whole

-- where no key was given, no memory was left
pub given_lost : (old new : ClusterView) (worker : ℕ) (k : Key) (answer : Take) → HasWorld old → IsGiven worker k old answer new → ((brief : Brief) → answer ≡ take.Job brief → ⊥) → Simulates old (LostTake worker ∷ []) new
given_lost old new worker k (take.Job brief) stood job other = absurd (other brief refl)
given_lost old new worker k take.Idle stood never other = absurd never
given_lost old new worker k (take.Already brief) stood never other = absurd never
given_lost old new worker k (take.Other holder) stood never other = absurd never
given_lost old new worker k take.NoMemory stood same other = loses old new worker stood same

pub given_same : (old new : ClusterView) (worker : ℕ) (k : Key) (answer : Take) → IsGiven worker k old answer new → ((brief : Brief) → answer ≡ take.Job brief → ⊥) → new ≡ old
given_same old new worker k (take.Job brief) job other = absurd (other brief refl)
given_same old new worker k take.Idle never other = absurd never
given_same old new worker k (take.Already brief) never other = absurd never
given_same old new worker k (take.Other holder) never other = absurd never
given_same old new worker k take.NoMemory same other = same

given_not_idle : {A : Type 0} (worker : ℕ) (k : Key) (old new : ClusterView) (answer : Take) → IsGiven worker k old answer new → answer ≡ take.Idle → A
given_not_idle worker k old new answer given is = absurd (subst (λ a. IsGiven worker k old a new) is given)

kept_not_idle : {A : Type 0} (brief : Brief) (answer : Take) → IsKept brief answer → answer ≡ take.Idle → A
kept_not_idle brief answer kept is = absurd (subst (IsKept brief) is kept)

-- what a take leaves
kept_leaves : (c : ClusterView) (worker : ℕ) (brief : Brief) (answer : Take) → IsKept brief answer → IsTaking worker c answer c
kept_leaves c worker brief (take.Job other) never = absurd never
kept_leaves c worker brief take.Idle never = refl
kept_leaves c worker brief (take.Already other) same = refl
kept_leaves c worker brief (take.Other holder) never = refl
kept_leaves c worker brief take.NoMemory same = refl

kept_first : (f : Forest) (keys : List Key) (brief : Brief) (answer : Take) → IsKept brief answer → GivesFirst f keys answer
kept_first f keys brief (take.Job other) never = absurd never
kept_first f keys brief take.Idle never = tt
kept_first f keys brief (take.Already other) same = tt
kept_first f keys brief (take.Other holder) never = tt
kept_first f keys brief take.NoMemory same = tt

given_leaves : (old new : ClusterView) (worker : ℕ) (k : Key) (answer : Take) → IsGiven worker k old answer new → IsTaking worker old answer new
given_leaves old new worker k (take.Job brief) job = record { same = job.same; taken = job.taken }
given_leaves old new worker k take.Idle never = absurd never
given_leaves old new worker k (take.Already brief) never = absurd never
given_leaves old new worker k (take.Other holder) never = absurd never
given_leaves old new worker k take.NoMemory same = same

given_first : (old new : ClusterView) (worker : ℕ) (k : Key) (answer : Take) → IsFirst (forest_of old.state) old.workers.waiting k → IsGiven worker k old answer new → GivesFirst (forest_of old.state) old.workers.waiting answer
given_first old new worker k (take.Job brief) first job = subst (λ (j : Key). IsFirst (forest_of old.state) old.workers.waiting j) (sym job.key) first
given_first old new worker k take.Idle first never = tt
given_first old new worker k (take.Already brief) first never = tt
given_first old new worker k (take.Other holder) first never = tt
given_first old new worker k take.NoMemory first same = tt

-- a worker holds a brief already
pub take_kept : (c : ClusterView) (worker : ℕ) (brief : Brief) (answer : Take) → HasWorld c → hand_of worker c.workers.hands ≡ Some (hand_by worker brief) → IsKept brief answer → IsTake worker c answer c
take_kept c worker brief answer stood at kept = record {
  simulates = keeps c worker brief answer stood at kept;
  hand = keeps_hand c.workers.hands worker brief answer at kept;
  idle = λ is. kept_not_idle brief answer kept is;
  unnamed = λ holder is. subst (IsKept brief) is kept;
  leaves = kept_leaves c worker brief answer kept;
  first = kept_first (forest_of c.state) c.workers.waiting brief answer kept;
}

pub take_idle : (c : ClusterView) (worker : ℕ) → HasWorld c → IsCovered c.state c.workers.hands c.workers.waiting c.workers.again → AreApart c.workers → c.workers.waiting ≡ [] → hand_of worker c.workers.hands ≡ None → IsTake worker c take.Idle c
take_idle c worker stood covered apart none empty = record { simulates = idles c worker stood covered apart none empty; hand = tt; idle = λ _. (none, empty); unnamed = λ holder is. let h : take.Idle ≡ take.Other holder = is in cc; leaves = refl; first = tt }

pub take_lost : (c : ClusterView) (worker : ℕ) → HasWorld c → IsTake worker c take.NoMemory c
take_lost c worker stood = record { simulates = loses c c worker stood refl; hand = tt; idle = λ is. absurd (let h : take.NoMemory ≡ take.Idle = is in cc); unnamed = λ holder is. let h : take.NoMemory ≡ take.Other holder = is in cc; leaves = refl; first = tt }

pub take_given : (old new : ClusterView) (worker : ℕ) (k : Key) (answer : Take) → HasWorld old → hand_of worker old.workers.hands ≡ None → IsNext (forest_of old.state) old.workers k → IsGiven worker k old answer new → IsTake worker old answer new
take_given old new worker k answer stood none next given = record {
  simulates = gives old new worker k answer stood none next.free next.waits next.again given;
  hand = in_hand old new worker k answer none given;
  idle = λ is. given_not_idle worker k old new answer given is;
  unnamed = λ holder is. subst (λ a. IsGiven worker k old a new) is given;
  leaves = given_leaves old new worker k answer given;
  first = given_first old new worker k answer next.first given;
}

kept_of_key : (k : Key) (brief : Brief) (answer : Take) → IsKept brief answer → IsOfKey k answer
kept_of_key k brief (take.Job other) never = absurd never
kept_of_key k brief take.Idle never = tt
kept_of_key k brief (take.Already other) same = tt
kept_of_key k brief (take.Other holder) never = tt
kept_of_key k brief take.NoMemory same = tt

given_key : (worker : ℕ) (k : Key) (old new : ClusterView) (answer : Take) → IsGiven worker k old answer new → IsOfKey k answer
given_key worker k old new (take.Job brief) job = job.key
given_key worker k old new take.Idle never = tt
given_key worker k old new (take.Already brief) never = tt
given_key worker k old new (take.Other holder) never = tt
given_key worker k old new take.NoMemory same = tt

pub named_kept : (c : ClusterView) (worker : ℕ) (k : Key) (brief : Brief) (answer : Take) → HasWorld c → hand_of worker c.workers.hands ≡ Some (hand_by worker brief) → IsKept brief answer → IsTakeOf worker k c answer c
named_kept c worker k brief answer stood at kept = record {
  simulates = keeps_key c worker k brief answer stood at kept;
  hand = keeps_hand c.workers.hands worker brief answer at kept;
  key = kept_of_key k brief answer kept;
  busy = λ is. kept_not_idle brief answer kept is;
  leaves = kept_leaves c worker brief answer kept;
}

pub named_met : (c : ClusterView) (worker : ℕ) (k : Key) (holder : ℕ) → HasWorld c → hand_of worker c.workers.hands ≡ None → IsSomeAnd (hand_of holder c.workers.hands) (λ hand. hand.key ≡ k) → IsTakeOf worker k c (take.Other holder) c
named_met c worker k holder stood none held = record { simulates = meets c worker k holder stood none held; hand = tt; key = tt; busy = λ is. let h : take.Other holder ≡ take.Idle = is in cc; leaves = refl }

pub named_given : (old new : ClusterView) (worker : ℕ) (k : Key) (answer : Take) → HasWorld old → hand_of worker old.workers.hands ≡ None → is_held k old.workers.hands ≡ false → is_among k old.workers.again ≡ false → IsGiven worker k old answer new → IsTakeOf worker k old answer new
named_given old new worker k answer stood none free again given = record {
  simulates = gives_key old new worker k answer stood none free again given;
  hand = in_hand old new worker k answer none given;
  key = given_key worker k old new answer given;
  busy = λ is. given_not_idle worker k old new answer given is;
  leaves = given_leaves old new worker k answer given;
}

-- ---- hands that are let go

-- its key may wait again
pub stands_back : (old new : ClusterView) (w : World) (worker : ℕ) (hand : Hand) → Represents old w → IsSameKeeping old new → IsLetGo worker hand.key true old.workers new.workers → Represents new (given_back w (Some hand) worker)
stands_back old new w worker hand stands same gone = record {
  valid = record { state = stands.valid.state; torn = stands.valid.torn };
  state = stands.state ∙ sym same.state;
  hands = ap (without_hand worker) stands.hands ∙ sym gone.hands;
  waiting = λ other e. elim (or_cases (is_among other old.workers.waiting) (same_key other hand.key && true) (sym (gone.waiting other) ∙ e)) [
    | inl before ↦ or_left (w.marked other) (same_key other hand.key) (stands.waiting other before)
    | inr own ↦ or_right (w.marked other) (same_key other hand.key) (and_parts (same_key other hand.key) true own).0
  ];
  again = λ other e. or_left (w.marked other) (same_key other hand.key) (stands.again other (and_parts (is_among other old.workers.again) (not (same_key other hand.key)) (sym (gone.again other) ∙ e)).0);
  broken = stands.broken ∙ sym (ap (λ (v : KeeperView). v.broken) same.keeper);
  kept = subst (λ (v : KeeperView). IfSome v.kept (IsKeptOf (given_back w (Some hand) worker))) (sym same.keeper) stands.kept;
}

-- its key waits only where it was marked since
pub stands_gone : (old new : ClusterView) (w : World) (worker : ℕ) (hand : Hand) → Represents old w → IsSameKeeping old new → IsLetGo worker hand.key false old.workers new.workers → Represents new (let_go w worker)
stands_gone old new w worker hand stands same gone = record {
  valid = record { state = stands.valid.state; torn = stands.valid.torn };
  state = stands.state ∙ sym same.state;
  hands = ap (without_hand worker) stands.hands ∙ sym gone.hands;
  waiting = λ other e. elim (or_cases (is_among other old.workers.waiting) (same_key other hand.key && is_among hand.key old.workers.again) (sym (gone.waiting other) ∙ e)) [
    | inl before ↦ stands.waiting other before
    | inr own ↦
        let parts = and_parts (same_key other hand.key) (is_among hand.key old.workers.again) own in
        stands.again other (ap (λ j. is_among j old.workers.again) (same_key_is other hand.key parts.0) ∙ parts.1)
  ];
  again = λ other e. stands.again other (and_parts (is_among other old.workers.again) (not (same_key other hand.key)) (sym (gone.again other) ∙ e)).0;
  broken = stands.broken ∙ sym (ap (λ (v : KeeperView). v.broken) same.keeper);
  kept = subst (λ (v : KeeperView). IfSome v.kept (IsKeptOf (let_go w worker))) (sym same.keeper) stands.kept;
}

same_cluster : (old new : ClusterView) → IsSameKeeping old new → new.workers ≡ old.workers → new ≡ old
same_cluster old new same workers = λ i. record { state = same.state i; workers = workers i; keeper = same.keeper i }

-- a worker drops what it holds
pub drops : (old new : ClusterView) (worker : ℕ) (dropped : Option Brief) → HasWorld old → IsReleased worker true old new → IfSome dropped (λ brief. hand_of worker old.workers.hands ≡ Some (hand_by worker brief)) → IfNone dropped (hand_of worker old.workers.hands ≡ None)
    → Simulates old (Dropped worker (option_map (λ (brief : Brief). brief.key) dropped) ∷ []) new
drops old new worker None stood released some none =
    enters_still old new (Dropped worker None) stood (same_cluster old new released.same (subst (λ o. IsLet worker true o old.workers new.workers) none released.workers)) refl (λ w stands.
    let at : hand_of worker w.hands ≡ None = ap (hand_of worker) stands.hands ∙ none in
    (ap (option_map (λ (h : Hand). h.key)) (sym at), ap (λ o. given_back w o worker) at)) (λ w stands. refl)
drops old new worker (Some brief) stood released some none =
    makes_still old new (Dropped worker (Some brief.key)) stood (λ w stands.
    let at : hand_of worker w.hands ≡ Some (hand_by worker brief) = ap (hand_of worker) stands.hands ∙ some in
    (ap (option_map (λ (h : Hand). h.key)) (sym at), subst (Represents new) (ap (λ o. given_back w o worker) (sym at)) (stands_back old new w worker (hand_by worker brief) stands released.same (subst (λ o. IsLet worker true o old.workers new.workers) some released.workers)))) refl released.same.keeper (λ w stands. refl)
