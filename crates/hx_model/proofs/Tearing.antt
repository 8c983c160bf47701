-- Limits in the state that the store may hold after a fault.
--     IfTorn               what holds of such a state, where there is one: the store is broken, and no limit is passed from the state that is served to it
--     torn_after           it is kept by each legal entry: a broken store takes no write
--     holds_after_fault    so it holds behind each legal history
use Rattle.std.proofs.Common.{◌≡◌, ℕ, Bool, true, false, Option, Some, None, List, [], ◌∷◌, refl, sym, ◌∙◌, subst, true≢false}
use Rattle.std.specs.Prelude.{if◌then◌else◌}
use Rattle.hx_model.specs.Answers.{answer_by, refusal_of, writes_of, Mutates}
use Rattle.hx_model.specs.Hands.{Hand, hand_of}
use Rattle.hx_model.specs.Machine.{World, Entry, History, IsHistory, IsLegal, IsEnd, opening_world, replay, world_after, finished_by, writes_by, given_back, broken_at, Refused, Request, LostRequest, Took, Idle, Already, HeldBy, LostTake, Finished, Dropped, Checked, NoMemory, KeeperFault}
use Rattle.hx_model.specs.Overruns.{IsHeldBetween, HoldsAfterFault}
use Rattle.hx_model.specs.State.{State, state_after}
use Rattle.hx_model.specs.declared.ask.Ask.{Ask}
use Rattle.hx_model.specs.declared.key.Finish.{Finish}
use Rattle.hx_model.specs.declared.key.Finish.TheVariants as ending
use Rattle.hx_model.specs.declared.key.Write.{Write}
use Rattle.hx_model.specs.declared.refusal.Refusal.{Refusal}
use Rattle.hx_model.specs.declared.resource.Resource.{Resource}
use Rattle.hx_model.proofs.Overrunning.{Keeps, IfWanted, keeps_after, hand_wanted, request_held, written_held}

-- no limit is passed from one state to another
abbrev Holds : State → State → Type 0
Holds s t = (a : List ℕ) (r : Resource) → IsHeldBetween s t a r

abbrev IfTorn : State → Bool → Option State → Type 0
IfTorn s broken None = Unit {0}
IfTorn s broken (Some t) = (broken ≡ true) × Holds s t

abbrev IsTorn : World → Type 0
IsTorn w = IfTorn w.state w.broken w.torn

-- where a broken store leaves the state as it is
torn_stays : (s u : State) (broken : Bool) (torn : Option State) → (broken ≡ true → u ≡ s) → IfTorn s broken torn → IfTorn u broken torn
torn_stays s u broken None same held = tt
torn_stays s u broken (Some t) same held = (held.0, λ a r. subst (λ (v : State). IsHeldBetween v t a r) (sym (same held.0)) (held.1 a r))

-- a fault at another write
torn_anew : (s : State) (broken : Bool) (torn : Option State) (t : State) → IfTorn s broken torn → Holds s t → IfTorn s true (if broken then torn else Some t)
torn_anew s true None t held new = tt
torn_anew s true (Some u) t held new = (refl, held.1)
torn_anew s false torn t held new = (refl, new)

torn_back : (w : World) (hand : Option Hand) (worker : ℕ) → IsTorn w → IsTorn (given_back w hand worker)
torn_back w None worker held = held
torn_back w (Some hand) worker held = held

-- a request changes nothing where the store is broken
answered_same : (s : State) (ask : Ask) (broken : Bool) → (Mutates s ask → broken ≡ false) → broken ≡ true → (refusal : Option Refusal) → refusal_of s ask ≡ refusal → (answer_by s ask refusal).1 ≡ s
answered_same s ask broken whole is (Some refusal) e = refl
answered_same s ask broken whole is None e = by (writes_of s ask) refl
  where
    by : (ws : List Write) → writes_of s ask ≡ ws → state_after s ws ≡ s
    by [] none = refl
    by (w ∷ ws) some = absurd (true≢false (sym is ∙ whole (e, λ none. let h : w ∷ ws ≡ [] = sym some ∙ none in cc)))

torn_faulted : (w : World) (hand : Option Hand) (worker : ℕ) → IsTorn w → Holds w.state (state_after w.state (writes_by w.state hand)) → IsTorn (broken_at (given_back w hand worker) (state_after w.state (writes_by w.state hand)))
torn_faulted w None worker held new = torn_anew w.state w.broken w.torn (state_after w.state (writes_by w.state None)) held new
torn_faulted w (Some hand) worker held new = torn_anew w.state w.broken w.torn (state_after w.state (writes_by w.state (Some hand))) held new

-- nor does a worker write there
end_whole : (w : World) (hand : Option Hand) (version : ℕ) → IsEnd w hand (ending.Written version) → w.broken ≡ false
end_whole w None version legal = absurd (let h : ending.Written version ≡ ending.Empty = legal in cc)
end_whole w (Some hand) version legal = legal.1

torn_finished : (w : World) (hand : Option Hand) (worker : ℕ) (end : Finish) → Keeps w → IfWanted hand → IsEnd w hand end → IsTorn w → IsTorn (finished_by w hand worker end)
torn_finished w hand worker ending.Empty keeps wanted legal held = held
torn_finished w hand worker ending.Nothing keeps wanted legal held = held
torn_finished w hand worker (ending.Conflict seen now) keeps wanted legal held = torn_back w hand worker held
torn_finished w hand worker ending.Spent keeps wanted legal held = torn_back w hand worker held
torn_finished w hand worker (ending.Written version) keeps wanted legal held =
    torn_stays w.state (state_after w.state (writes_by w.state hand)) w.broken w.torn (λ is. absurd (true≢false (sym is ∙ end_whole w hand version legal))) held
torn_finished w hand worker ending.Fault keeps wanted legal held = torn_faulted w hand worker held (λ a r. written_held w.state a r keeps.0 hand wanted)
torn_finished w hand worker ending.NoMemory keeps wanted legal held = torn_back w hand worker held

pub torn_after : (w : World) (e : Entry) → Keeps w → IsLegal w e → IsTorn w → IsTorn (world_after w e)
torn_after w (Refused refusal) keeps legal held = held
torn_after w (Request ask answer) keeps legal held = torn_stays w.state _ w.broken w.torn (λ is. answered_same w.state ask w.broken legal.1 is (refusal_of w.state ask) refl) held
torn_after w (LostRequest ask NoMemory) keeps legal held = held
torn_after w (LostRequest ask KeeperFault) keeps legal held = torn_anew w.state w.broken w.torn (state_after w.state (writes_of w.state ask)) held (λ a r. request_held w.state a r keeps.0 ask legal.0)
torn_after w (Took worker k named) keeps legal held = held
torn_after w (Idle worker) keeps legal held = held
torn_after w (Already worker k) keeps legal held = held
torn_after w (HeldBy worker k holder) keeps legal held = held
torn_after w (LostTake worker) keeps legal held = held
torn_after w (Finished worker end) keeps legal held = torn_finished w (hand_of worker w.hands) worker end keeps (hand_wanted worker w.hands keeps.1) legal held
torn_after w (Dropped worker key) keeps legal held = torn_back w (hand_of worker w.hands) worker held
torn_after w (Checked waiting held_so) keeps legal held = held

torn_replay : (w : World) (es : History) → Keeps w → IsHistory w es → IsTorn w → IsTorn (replay w es)
torn_replay w [] keeps legal held = held
torn_replay w (e ∷ es) keeps legal held = torn_replay (world_after w e) es (keeps_after w e keeps) legal.1 (torn_after w e keeps legal.0 held)

pub holds_after_fault : HoldsAfterFault
holds_after_fault broken s es t a r up legal is =
    let w = replay (opening_world broken s) es in
    let held : IfTorn w.state w.broken (Some t) = subst (IfTorn w.state w.broken) is (torn_replay (opening_world broken s) es (up, tt) legal tt) in
    held.1 a r
