-- What a cluster keeps true where a worker takes a key or lets it go.
--     again_free         a key that nobody holds isn't marked again
--     next_in            the first of the keys that wait
--     short_by, given_job    a brief that is given
--     sound_taken, sound_given, sound_let
--     sound_ready              where nothing that is seen changes
--     let_by, let_some, let_none, released, empty_after    a hand that is let go
--     settled_now        where no key waits and none is held, the state is settled
--     counts             how many keys wait and are held
use Rattle.std.proofs.Common.{◌≡◌, ◌≢◌, ◌<◌, ◌^◌, ℕ, Bool, true, false, List, [], ◌∷◌, length, ◌||◌, Option, Some, None, IfSome, IfNone, is_some, refl, sym, ap, ◌∙◌, subst, true≢false, Ok, Err}
use Rattle.std.specs.Prelude.{IfOk}
use Rattle.std.specs.declared.result.Result.{Result}
use Rattle.std.specs.List.{AllByRecursion}
use Rattle.hx_ports.specs.Views.{KeeperView}
use Rattle.hx_model.specs.Covered.{IsCovered, IsUpToDate}
use Rattle.hx_model.specs.Forest.{Forest}
use Rattle.hx_model.specs.Hands.{Hand, hand_of, is_held, are_met}
use Rattle.hx_model.specs.Keys.{same_key, is_among}
use Rattle.hx_model.specs.Machine.{World, Checked, given_back, let_go, taken_by, wants}
use Rattle.hx_model.specs.Settled.{IsSettled}
use Rattle.hx_model.specs.State.{State}
use Rattle.hx_model.specs.Valid.{IsValid}
use Rattle.hx_model.specs.Wanted.{wanted_write}
use Rattle.hx_model.specs.declared.key.Key.{Key}
use Rattle.hx_model.specs.declared.key.Write.{Write}
use Rattle.hx_order.specs.Ranks.{IsFirst}
use Rattle.hx_reconcile.specs.Briefs.{IsShort, IsStorable, StandsFor, hand_by, planned_by}
use Rattle.hx_reconcile.specs.declared.brief.Brief.{Brief}
use Rattle.hx_reconcile.specs.declared.brief.Facts.{Facts}
use Rattle.hx_reconcile.specs.declared.brief.Facts.TheVariants as found
use Rattle.hx_reconcile.proofs.Storable.{storable}
use Rattle.hx_marks.proofs.Among.{same_key_itself}
use Rattle.hx_marks.proofs.Settling.{settled_exactly}
use Rattle.hx_marks.proofs.StayingCovered.{fresh_met}
use Rattle.hx_core.specs.Inside.{IsSound, view_of}
use Rattle.hx_core.specs.Refinement.{ClusterView, HasWorld, Simulates}
use Rattle.hx_core.specs.Turns.{IsOf}
use Rattle.hx_queue.specs.Workers.{WorkersView, AreApart, IsTakenBy, IsLetGo}
use Rattle.hx_core.specs.Queued.{IsLet, IsReleased, IsSameKeeping}
use Rattle.hx_core.specs.Working.{IsDone, IsGivenBy, IsJob, IsNext, chain_in, sums_in}
use Rattle.hx_core.specs.declared.turns.Take.{Take}
use Rattle.hx_core.specs.declared.turns.Take.TheVariants as take
use Rattle.hx_core.proofs.Covering.{again_held, covered_taken, covered_let, waits_each}
use Rattle.hx_core.proofs.Holding.{All-more, All-without, gone}
use Rattle.hx_core.proofs.Making.{enters_still}
use Rattle.hx_core.proofs.Since.{since_itself}
use Rattle.hx_core.proofs.Turning.{facts_want, hand_stands, stands_taken, stands_back, stands_gone, wants_nothing}
use Rattle.std.proofs.lemmas.Bool.{false_from_ne_true}

pub again_free : (v : WorkersView) (k : Key) → AreApart v → is_held k v.hands ≡ false → is_among k v.again ≡ false
again_free v k apart free = false_from_ne_true (is_among k v.again) (λ e. true≢false (sym (again_held v k apart e) ∙ free))

-- the first of the keys that wait, in a tree, which nobody holds
pub next_in : {E : Type 0} (f g : Forest) (v : WorkersView) (r : Result (Option Key) E) → AreApart v → f ≡ g → IfOk r (λ o. IfSome o (λ k. IsFirst f v.waiting k)) → IfOk r (λ o. IfSome o (λ k. is_held k v.hands ≡ false)) → IfOk r (λ o. IfSome o (IsNext g v))
next_in f g v (Err e) apart same first free = tt
next_in f g v (Ok None) apart same first free = tt
next_in f g v (Ok (Some k)) apart same first free = record { first = subst (λ (t : Forest). IsFirst t v.waiting k) same first; waits = first.there; free = free; again = again_free v k apart free }

-- ---- a key is taken

-- a worker's new hand is up to date
fresh_hand : (s : State) (worker : ℕ) (brief : Brief) → StandsFor brief s → IsUpToDate s (hand_by worker brief)
fresh_hand s worker brief stands = record { wanted = facts_want s brief.key brief.facts stands.facts; met = ap (are_met s) stands.guards ∙ fresh_met s brief.key }

-- and is of the state
new_of : (s : State) (worker : ℕ) (brief : Brief) → IsValid s → StandsFor brief s → IsShort brief.facts (planned_by brief) → IsOf s (hand_by worker brief)
new_of s worker brief valid stands short = record {
  then = s;
  valid = valid;
  since = since_itself s;
  is = hand_stands worker s brief stands;
  storable = λ x e. (subst IsStorable e (storable brief (planned_by brief) (record { planned = refl; short = short }) s valid stands)).0;
}

pub sound_taken : (s : State) (v v' : WorkersView) (k : KeeperView) (staged : List Write) (worker : ℕ) (brief : Brief) → IsSound s v k staged → IsTakenBy (hand_by worker brief) v v' → StandsFor brief s → IsShort brief.facts (planned_by brief)
    → hand_of worker v.hands ≡ None → is_held brief.key v.hands ≡ false → AreApart v → IsSound s v' k staged
sound_taken s v v' k staged worker brief sound taken stands short none free apart = record {
  valid = sound.valid;
  held = sound.held;
  covered = covered_taken s (hand_by worker brief) v v' sound.covered taken none (fresh_hand s worker brief stands);
  taken = subst (λ (hands : List Hand). AllByRecursion (IsOf s) hands) (sym taken.hands) (All-more (IsOf s) v.hands (hand_by worker brief) sound.taken (new_of s worker brief sound.valid stands short));
  world = (taken_by sound.world.0 worker brief.key, stands_taken (view_of s v k) (view_of s v' k) sound.world.0 worker brief.key brief sound.world.1 job (again_free v brief.key apart free));
  none = sound.none;
}
  where
    job : IsJob worker brief.key (view_of s v k) brief (view_of s v' k)
    job = record { same = record { state = refl; keeper = refl }; key = refl; stands = stands; short = short; taken = taken }

-- a chain is short where the facts have one, and sums fit where they have some
pub short_by : (facts : Facts) (write : Option Write) → length (chain_in facts) < 2 ^ 64 → AllByRecursion (λ sum. sum < 2 ^ 128) (sums_in facts) → IsShort facts write
short_by (found.Tree ns takes_part chain) None short fit = tt
short_by (found.Tree ns takes_part chain) (Some write) short fit = short
short_by (found.Used live quota sums) None short fit = tt
short_by (found.Used live quota sums) (Some write) short fit = fit
short_by (found.Copy ns takes_part place mode sources) write short fit = tt
short_by (found.Report takes hierarchy children conditions) write short fit = tt
short_by (found.Child takes_part anchored excluded taken) write short fit = tt
short_by (found.Anchor live anchor status) write short fit = tt
short_by (found.Purge leaving least) write short fit = tt

-- a brief was given, and the worker has the same one
pub given_job : (s : State) (v mid v' : WorkersView) (worker : ℕ) (key : Key) (brief shared : Brief) → mid ≡ v → shared ≡ brief → brief.key ≡ key → StandsFor brief s → IsShort brief.facts (planned_by brief) → IsTakenBy (hand_by worker brief) mid v'
    → IsGivenBy worker key s v (take.Job shared) v'
given_job s v mid v' worker key brief shared same one is stands short taken =
    subst (λ (b : Brief). IsGivenBy worker key s v (take.Job b) v') (sym one) (is, stands, short, subst (λ u. IsTakenBy (hand_by worker brief) u v') same taken)

-- however the take ended
-- where nothing that is seen changes, all of it stays sound
pub sound_ready : (s s' : State) (v : WorkersView) (k : KeeperView) (staged staged' : List Write) → s' ≡ s → staged' ≡ staged → IsSound s v k staged → IsSound s' v k staged'
sound_ready s s' v k staged staged' state ready sound = subst (λ (t : State). IsSound t v k staged') (sym state) (subst (λ (ws : List Write). IsSound s v k ws) (sym ready) sound)

pub sound_given : (s : State) (v v' : WorkersView) (k : KeeperView) (staged : List Write) (worker : ℕ) (key : Key) (answer : Take) → IsSound s v k staged → hand_of worker v.hands ≡ None → is_held key v.hands ≡ false → AreApart v → IsGivenBy worker key s v answer v' → IsSound s v' k staged
sound_given s v v' k staged worker key (take.Job brief) sound none free apart (is, stands, short, taken) =
    sound_taken s v v' k staged worker brief sound taken stands short none (ap (λ j. is_held j v.hands) is ∙ free) apart
sound_given s v v' k staged worker key take.Idle sound none free apart never = absurd never
sound_given s v v' k staged worker key (take.Already brief) sound none free apart never = absurd never
sound_given s v v' k staged worker key (take.Other holder) sound none free apart never = absurd never
sound_given s v v' k staged worker key take.NoMemory sound none free apart same = subst (λ u. IsSound s u k staged) (sym same) sound

-- ---- a hand is let go

-- what a worker lets go
pub let_by : (v v' : WorkersView) (worker : ℕ) (waits : Bool) (result : Option Brief) → IfNone result ((hand_of worker v.hands ≡ None) × (v' ≡ v)) → IfSome result (λ brief. (hand_of worker v.hands ≡ Some (hand_by worker brief)) × IsLetGo worker brief.key waits v v')
    → IsLet worker waits (hand_of worker v.hands) v v'
let_by v v' worker waits None none some = subst (λ o. IsLet worker waits o v v') (sym none.0) none.1
let_by v v' worker waits (Some brief) none some = subst (λ o. IsLet worker waits o v v') (sym some.0) some.1

pub let_some : (v v' : WorkersView) (worker : ℕ) (waits : Bool) (result : Option Brief) → IfSome result (λ brief. (hand_of worker v.hands ≡ Some (hand_by worker brief)) × IsLetGo worker brief.key waits v v') → IfSome result (λ brief. hand_of worker v.hands ≡ Some (hand_by worker brief))
let_some v v' worker waits None some = tt
let_some v v' worker waits (Some brief) some = some.0

pub let_none : (v v' : WorkersView) (worker : ℕ) (result : Option Brief) → IfNone result ((hand_of worker v.hands ≡ None) × (v' ≡ v)) → IfNone result (hand_of worker v.hands ≡ None)
let_none v v' worker None none = none.0
let_none v v' worker (Some brief) none = tt

pub released : (s : State) (v v' : WorkersView) (k : KeeperView) (worker : ℕ) (waits : Bool) → IsLet worker waits (hand_of worker v.hands) v v' → IsReleased worker waits (view_of s v k) (view_of s v' k)
released s v v' k worker waits is_let = record { same = record { state = refl; keeper = refl }; workers = is_let }

-- its hand is empty
pub empty_after : (v v' : WorkersView) (worker : ℕ) (waits : Bool) → IsLet worker waits (hand_of worker v.hands) v v' → hand_of worker v'.hands ≡ None
empty_after v v' worker waits is_let = by (hand_of worker v.hands) refl
  where
    by : (o : Option Hand) → hand_of worker v.hands ≡ o → hand_of worker v'.hands ≡ None
    by None e = ap (λ (u : WorkersView). hand_of worker u.hands) (subst (λ o. IsLet worker waits o v v') e is_let) ∙ e
    by (Some hand) e = let go : IsLetGo worker hand.key waits v v' = subst (λ o. IsLet worker waits o v v') e is_let in ap (hand_of worker) go.hands ∙ gone worker v.hands

sound_gone : (s : State) (v v' : WorkersView) (k : KeeperView) (staged : List Write) (worker : ℕ) (hand : Hand) (waits : Bool) → IsSound s v k staged → hand_of worker v.hands ≡ Some hand → IsLetGo worker hand.key waits v v' → (waits ≡ false → IsDone s hand) → IsSound s v' k staged
sound_gone s v v' k staged worker hand waits sound at go done = record {
  valid = sound.valid;
  held = sound.held;
  covered = covered_let s worker hand waits v v' sound.covered go at done;
  taken = subst (λ (hands : List Hand). AllByRecursion (IsOf s) hands) (sym go.hands) (All-without (IsOf s) worker v.hands sound.taken);
  world = world waits go;
  none = sound.none;
}
  where
    same : IsSameKeeping (view_of s v k) (view_of s v' k)
    same = record { state = refl; keeper = refl }

    world : (b : Bool) → IsLetGo worker hand.key b v v' → HasWorld (view_of s v' k)
    world true g = (given_back sound.world.0 (Some hand) worker, stands_back (view_of s v k) (view_of s v' k) sound.world.0 worker hand sound.world.1 same g)
    world false g = (let_go sound.world.0 worker, stands_gone (view_of s v k) (view_of s v' k) sound.world.0 worker hand sound.world.1 same g)

pub sound_let : (s : State) (v v' : WorkersView) (k : KeeperView) (staged : List Write) (worker : ℕ) (waits : Bool) → IsSound s v k staged → IsLet worker waits (hand_of worker v.hands) v v' → (waits ≡ false → IfSome (hand_of worker v.hands) (IsDone s)) → IsSound s v' k staged
sound_let s v v' k staged worker waits sound is_let done = by (hand_of worker v.hands) refl
  where
    by : (o : Option Hand) → hand_of worker v.hands ≡ o → IsSound s v' k staged
    by None e = subst (λ (u : WorkersView). IsSound s u k staged) (sym (subst (λ o. IsLet worker waits o v v') e is_let)) sound
    by (Some hand) e = sound_gone s v v' k staged worker hand waits sound e (subst (λ o. IsLet worker waits o v v') e is_let) (λ stays. subst (λ o. IfSome o (IsDone s)) e (done stays))

-- ---- where nothing is left

pub settled_now : (s : State) (v : WorkersView) → IsValid s → IsCovered s v.hands v.waiting v.again → AreApart v → v.waiting ≡ [] → v.hands ≡ [] → IsSettled s
settled_now s v valid covered apart none empty = settled_exactly s valid (λ k. wants_nothing s v k covered apart none (ap (is_held k) empty))

some_wanted : (o : Option Write) → is_some o ≡ true → o ≢ None
some_wanted o e none = true≢false (sym e ∙ ap is_some none)

none_of_zero : {A : Type 0} (xs : List A) → length xs ≡ 0 → xs ≡ []
none_of_zero [] e = refl
none_of_zero (x ∷ xs) e = absurd (let h = e in cc)

each_marked : (w : World) (keys : List Key) → ((k : Key) → is_among k keys ≡ true → w.marked k ≡ true) → AllByRecursion (λ k. w.marked k ≡ true) keys
each_marked w [] marked = tt
each_marked w (k ∷ keys) marked = (marked k (ap (λ b. b || is_among k keys) (same_key_itself k)), each_marked w keys (λ j e. marked j (later (same_key j k) (is_among j keys) e)))
  where
    later : (a b : Bool) → b ≡ true → (a || b) ≡ true
    later true b e = refl
    later false b e = e

pub counts : (c : ClusterView) (waiting held : ℕ) → HasWorld c → IsValid c.state → IsCovered c.state c.workers.hands c.workers.waiting c.workers.again → AreApart c.workers → waiting ≡ length c.workers.waiting → held ≡ length c.workers.hands → Simulates c (Checked waiting held ∷ []) c
counts c waiting held stood valid covered apart many few =
    enters_still c c (Checked waiting held) stood refl refl (λ w stands. (
      (
        (
          c.workers.waiting,
          sym many,
          record {
            distinct = apart.waiting;
            marked = each_marked w c.workers.waiting stands.waiting;
            free = subst (λ hands. AllByRecursion (λ k. is_held k hands ≡ false) c.workers.waiting) (sym stands.hands) apart.apart;
            all = λ k some free. waits_each c.state c.workers k covered apart (some_wanted (wanted_write c.state k) (ap (λ s. wants s k) (sym stands.state) ∙ some)) (ap (is_held k) (sym stands.hands) ∙ free);
          },
        ),
        few ∙ ap length (sym stands.hands),
        λ nothing nobody. subst IsSettled (sym stands.state) (settled_now c.state c.workers valid covered apart (none_of_zero c.workers.waiting (sym many ∙ nothing)) (none_of_zero c.workers.hands (sym few ∙ nobody))),
      ),
      refl,
    )) (λ w stands. refl)
