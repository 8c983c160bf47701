-- Limits throughout a history.
--     Keeps, keeps_after       objects are in order, and what workers hold was wanted in some state
--     commit_held              a commit that raises no charge passes no limit
--     request_held             nor does an ask that is admitted
--     holds_throughout         at each entry where what a subtree uses rises, by no object that it takes in, the limits hold afterwards
use Rattle.std.proofs.Common.{◌≡◌, ◌≤◌, ◌<◌, ◌+◌, ◌-◌, ◌⊎◌, ℕ, zero, suc, Bool, true, false, cond, not, ◌==◌, Option, Some, None, List, [], ◌∷◌, ◌++◌, flat_map, refl, sym, ap, ◌∙◌, subst, arith, inl, inr, true≢false}
use Rattle.std.specs.Prelude.{if◌then◌else◌}
use Rattle.std.specs.List.{AllByRecursion}
use Rattle.std.specs.Str.{bytes_eq}
use Rattle.std.proofs.lemmas.Bool.{or_cases}
use Rattle.hx_object.specs.declared.object.Object.{Object}
use Rattle.hx_object.specs.declared.object.Payload.{Payload}
use Rattle.hx_model.specs.Answers.{answer_by, refusal_of, writes_of, with_status, same_object, replaced_by, replacing}
use Rattle.hx_model.specs.Forest.{Forest, is_in, chain_of, in_chain}
use Rattle.hx_model.specs.Hands.{Hand, hand_at, hand_of, without_hand, writes_for}
use Rattle.hx_model.specs.Machine.{World, Entry, History, opening_world, world_after, finished_by, writes_by, let_go, given_back, Refused, Request, LostRequest, Took, Idle, Already, HeldBy, LostTake, Finished, Dropped, Checked, NoMemory, KeeperFault}
use Rattle.hx_model.specs.Overruns.{HoldsFor, HoldsIn, RaiseNothing, RaiseNothingBelow, IsHeldBetween, KeepsLimits, HoldsThroughout}
use Rattle.hx_model.specs.Quotas.{quotas_in, used, charge_before, rise_of}
use Rattle.hx_model.specs.State.{State, Objects, object_at, ascends, with_version, state_after}
use Rattle.hx_model.specs.Tree.{forest_of}
use Rattle.hx_model.specs.Wanted.{wanted_write}
use Rattle.hx_model.specs.Writes.{id_written}
use Rattle.hx_model.specs.declared.ask.Ask.{Ask}
use Rattle.hx_model.specs.declared.ask.Ask.TheVariants.{Get, List as ListOf, Create, Replace, Delete, Document as DocumentOf, Events as EventsSince}
use Rattle.hx_model.specs.declared.key.Finish.{Finish}
use Rattle.hx_model.specs.declared.key.Finish.TheVariants as ending
use Rattle.hx_model.specs.declared.key.Write.{Write}
use Rattle.hx_model.specs.declared.key.Write.TheVariants.{Put}
use Rattle.hx_model.specs.declared.refusal.Refusal.{Refusal}
use Rattle.hx_model.specs.declared.resource.Resource.{Resource}
use Rattle.hx_model.proofs.Admitting.{ReadsAlike, made, charge_made, status_alike, alike_itself, held_at_admission}
use Rattle.hx_model.proofs.Climbing.{is_same}
use Rattle.hx_model.proofs.Freely.{keys_raise_nothing, deletions_raise_nothing}
use Rattle.hx_model.proofs.Rising.{rises_by_charges_alone}
use Rattle.hx_model.proofs.Writes.{ascends_after}

-- ---- what each world of a history keeps

-- what a worker holds was wanted in some state
abbrev WasWanted : Hand → Type 0
WasWanted hand = (s : State) × (hand.write ≡ wanted_write s hand.key)

abbrev pub Keeps : World → Type 0
Keeps w = (ascends w.state.objects ≡ true) × AllByRecursion WasWanted w.hands

in_order_after : (s : State) (ws : List Write) → ascends s.objects ≡ true → ascends (state_after s ws).objects ≡ true
in_order_after s [] up = up
in_order_after s (w ∷ ws) up = ascends_after (w ∷ ws) s.objects up

hands_pushed : (hands : List Hand) (hand : Hand) → AllByRecursion WasWanted hands → WasWanted hand → AllByRecursion WasWanted (hands ++ hand ∷ [])
hands_pushed [] hand all new = (new, tt)
hands_pushed (h ∷ hands) hand all new = (all.0, hands_pushed hands hand all.1 new)

hands_without : (worker : ℕ) (hands : List Hand) → AllByRecursion WasWanted hands → AllByRecursion WasWanted (without_hand worker hands)
hands_without worker [] all = tt
hands_without worker (h ∷ hands) all = elim (h.worker == worker) as (λ b. AllByRecursion WasWanted (cond (not b) (h ∷ without_hand worker hands) (without_hand worker hands))) [
  | true ↦ hands_without worker hands all.1
  | false ↦ (all.0, hands_without worker hands all.1)
]

-- what a worker holds, where it holds something
abbrev pub IfWanted : Option Hand → Type 0
IfWanted None = Unit {0}
IfWanted (Some hand) = WasWanted hand

pub hand_wanted : (worker : ℕ) (hands : List Hand) → AllByRecursion WasWanted hands → IfWanted (hand_of worker hands)
hand_wanted worker [] all = tt
hand_wanted worker (h ∷ hands) all = elim (h.worker == worker) as (λ b. IfWanted (cond b (Some h) (hand_of worker hands))) [
  | true ↦ all.0
  | false ↦ hand_wanted worker hands all.1
]

keeps_let_go : (w : World) (worker : ℕ) → Keeps w → Keeps (let_go w worker)
keeps_let_go w worker keeps = (keeps.0, hands_without worker w.hands keeps.1)

keeps_given_back : (w : World) (hand : Option Hand) (worker : ℕ) → Keeps w → Keeps (given_back w hand worker)
keeps_given_back w None worker keeps = keeps
keeps_given_back w (Some hand) worker keeps = keeps_let_go w worker keeps

keeps_finished : (w : World) (hand : Option Hand) (worker : ℕ) (end : Finish) → Keeps w → Keeps (finished_by w hand worker end)
keeps_finished w hand worker ending.Empty keeps = keeps
keeps_finished w hand worker ending.Nothing keeps = keeps_let_go w worker keeps
keeps_finished w hand worker (ending.Conflict seen now) keeps = keeps_given_back w hand worker keeps
keeps_finished w hand worker ending.Spent keeps = keeps_given_back w hand worker keeps
keeps_finished w hand worker (ending.Written version) keeps = (in_order_after w.state (writes_by w.state hand) keeps.0, hands_without worker w.hands keeps.1)
keeps_finished w hand worker ending.Fault keeps = keeps_given_back w hand worker keeps
keeps_finished w hand worker ending.NoMemory keeps = keeps_given_back w hand worker keeps

answered_in_order : (s : State) (ask : Ask) (refusal : Option Refusal) → ascends s.objects ≡ true → ascends (answer_by s ask refusal).1.objects ≡ true
answered_in_order s ask (Some refusal) up = up
answered_in_order s ask None up = in_order_after s (writes_of s ask) up

pub keeps_after : (w : World) (e : Entry) → Keeps w → Keeps (world_after w e)
keeps_after w (Refused refusal) keeps = keeps
keeps_after w (Request ask answer) keeps = (answered_in_order w.state ask (refusal_of w.state ask) keeps.0, keeps.1)
keeps_after w (LostRequest ask NoMemory) keeps = keeps
keeps_after w (LostRequest ask KeeperFault) keeps = keeps
keeps_after w (Took worker k named) keeps = (keeps.0, hands_pushed w.hands (hand_at w.state worker k) keeps.1 (w.state, refl))
keeps_after w (Idle worker) keeps = keeps
keeps_after w (Already worker k) keeps = keeps
keeps_after w (HeldBy worker k holder) keeps = keeps
keeps_after w (LostTake worker) keeps = keeps
keeps_after w (Finished worker end) keeps = keeps_finished w (hand_of worker w.hands) worker end keeps
keeps_after w (Dropped worker key) keeps = keeps_given_back w (hand_of worker w.hands) worker keeps
keeps_after w (Checked waiting held) keeps = keeps

-- ---- commits

-- where no more is used, nothing rises
no_rise : (s t : State) (a : List ℕ) (r : Resource) → used t a r ≤ used s a r → IsHeldBetween s t a r
no_rise s t a r less out rises = absurd (omega (arith, less, rises))

stays_held : (s : State) (a : List ℕ) (r : Resource) → IsHeldBetween s s a r
stays_held s a r = no_rise s s a r (omega arith)

raise_nothing_below : (f : Forest) (s : State) (ws : List Write) (a : List ℕ) (r : Resource) → RaiseNothing s ws r → RaiseNothingBelow f s ws a r
raise_nothing_below f s [] a r raises = tt
raise_nothing_below f s (w ∷ ws) a r raises = (λ inside. raises.0, raise_nothing_below f s ws a r raises.1)

commit_held : (s : State) (ws : List Write) (a : List ℕ) (r : Resource) → ascends s.objects ≡ true → RaiseNothing s ws r → IsHeldBetween s (state_after s ws) a r
commit_held s ws a r up raises out = no_rise s (state_after s ws) a r (rises_by_charges_alone s ws a r up out (raise_nothing_below (forest_of (state_after s ws)) s ws a r raises)) out

-- ---- requests

all_split : (P : Object → Type 0) (xs ys : Objects) → AllByRecursion P (xs ++ ys) → AllByRecursion P xs × AllByRecursion P ys
all_split P [] ys all = (tt, all)
all_split P (x ∷ xs) ys all = let rest = all_split P xs ys all.1 in ((all.0, rest.0), rest.1)

-- the quotas of a member of a chain are among those of the chain
all_of_member : (P : Object → Type 0) (objects : Objects) (a : List ℕ) (names : List (List ℕ)) → is_in a names ≡ true → AllByRecursion P (flat_map (quotas_in objects) names) → AllByRecursion P (quotas_in objects a)
all_of_member P objects a [] among all = absurd (true≢false (sym among))
all_of_member P objects a (n ∷ names) among all =
    let parts = all_split P (quotas_in objects n) (flat_map (quotas_in objects) names) all in
    elim (or_cases (bytes_eq a n) (is_in a names) among) [
      | inl here ↦ subst (λ (m : List ℕ). AllByRecursion P (quotas_in objects m)) (sym (is_same a n here)) parts.0
      | inr later ↦ all_of_member P objects a names later parts.1
    ]

holds_in : (s : State) (n a : List ℕ) (r : Resource) → in_chain (forest_of s) n a ≡ true → HoldsFor s n r → HoldsIn s a r
holds_in s n a r inside holds = all_of_member _ s.objects a (chain_of (forest_of s) n) inside holds

module _ (s : State) (a : List ℕ) (r : Resource) (up : ascends s.objects ≡ true) where
  -- a write of one object, where its charge rises only to a sum within the limits
  put_held : (x : Object) (ws : List Write) → RaiseNothing s ws r ⊎ (0 < rise_of (object_at s.objects x.id) x r) → (0 < rise_of (object_at s.objects x.id) x r → HoldsFor (state_after s ws) x.id.ns r)
      → AllByRecursion (λ w. (id_written w).ns ≡ x.id.ns) ws → IsHeldBetween s (state_after s ws) a r
  put_held x ws (inl raises) holds same = commit_held s ws a r up raises
  put_held x ws (inr rises) holds same = by (in_chain (forest_of (state_after s ws)) x.id.ns a) refl
    where
      beside : (f : Forest) (us : List Write) → in_chain f x.id.ns a ≡ false → AllByRecursion (λ w. (id_written w).ns ≡ x.id.ns) us → RaiseNothingBelow f s us a r
      beside f [] apart all = tt
      beside f (w ∷ us) apart all = (λ inside. absurd (true≢false (sym inside ∙ ap (λ n. in_chain f n a) all.0 ∙ apart)), beside f us apart all.1)

      by : (b : Bool) → in_chain (forest_of (state_after s ws)) x.id.ns a ≡ b → IsHeldBetween s (state_after s ws) a r
      by true inside = λ out more. holds_in (state_after s ws) x.id.ns a r inside (holds rises)
      by false apart = λ out. no_rise s (state_after s ws) a r (rises_by_charges_alone s ws a r up out (beside (forest_of (state_after s ws)) ws apart same)) out

  nought_or_more : (n : ℕ) → (n ≡ 0) ⊎ (0 < n)
  nought_or_more zero = inl refl
  nought_or_more (suc n) = inr (omega arith)

  raises_or_not : (x : Object) (payload : Payload) (version : ℕ) → ReadsAlike payload x.payload → RaiseNothing s (Put (made x payload version) ∷ []) r ⊎ (0 < rise_of (object_at s.objects x.id) x r)
  raises_or_not x payload version alike = by (nought_or_more (rise_of (object_at s.objects x.id) x r))
    where
      by : (rise_of (object_at s.objects x.id) x r ≡ 0) ⊎ (0 < rise_of (object_at s.objects x.id) x r) → RaiseNothing s (Put (made x payload version) ∷ []) r ⊎ (0 < rise_of (object_at s.objects x.id) x r)
      by (inl none) = inl (ap (λ n. n - charge_before (object_at s.objects x.id) r) (charge_made x payload version r alike) ∙ none, tt)
      by (inr rises) = inr rises

  replacing_raises : (x : Object) (found : Option Object) → RaiseNothing s (replacing found x (s.last + 1)) r ⊎ (0 < rise_of (object_at s.objects x.id) x r)
  replacing_raises x None = inl tt
  replacing_raises x (Some old) = elim (same_object (replaced_by old x) old) as (λ b. RaiseNothing s (if b then [] else Put (with_version (replaced_by old x) (s.last + 1)) ∷ []) r ⊎ (0 < rise_of (object_at s.objects x.id) x r)) [
    | true ↦ inl tt
    | false ↦ raises_or_not x (with_status old.payload x.payload) (s.last + 1) (status_alike old.payload x.payload)
  ]

  replacing_there : (x : Object) (found : Option Object) → AllByRecursion (λ w. (id_written w).ns ≡ x.id.ns) (replacing found x (s.last + 1))
  replacing_there x None = tt
  replacing_there x (Some old) = elim (same_object (replaced_by old x) old) as (λ b. AllByRecursion (λ w. (id_written w).ns ≡ x.id.ns) (if b then [] else Put (with_version (replaced_by old x) (s.last + 1)) ∷ [])) [
    | true ↦ tt
    | false ↦ (refl, tt)
  ]

  pub request_held : (ask : Ask) → refusal_of s ask ≡ None → IsHeldBetween s (state_after s (writes_of s ask)) a r
  request_held (Get id) none = stays_held s a r
  request_held (ListOf kind ns selector fields) none = stays_held s a r
  request_held (DocumentOf document) none = stays_held s a r
  request_held (EventsSince version) none = stays_held s a r
  request_held (Create x skip) none = put_held x (writes_of s (Create x skip)) (raises_or_not x x.payload (s.last + 1) (alike_itself x.payload)) (held_at_admission s (Create x skip) x r up refl none) (refl, tt)
  request_held (Replace x expected skip) none =
      put_held x (writes_of s (Replace x expected skip)) (replacing_raises x (object_at s.objects x.id)) (held_at_admission s (Replace x expected skip) x r up refl none) (replacing_there x (object_at s.objects x.id))
  request_held (Delete id skip) none = commit_held s (writes_of s (Delete id skip)) a r up (deletions_raise_nothing s id skip r)

  answered_held : (ask : Ask) (refusal : Option Refusal) → refusal_of s ask ≡ refusal → IsHeldBetween s (answer_by s ask refusal).1 a r
  answered_held ask (Some refusal) is = stays_held s a r
  answered_held ask None is = request_held ask is

  -- ---- entries

  pub written_held : (hand : Option Hand) → IfWanted hand → IsHeldBetween s (state_after s (writes_by s hand)) a r
  written_held None wanted = stays_held s a r
  written_held (Some hand) wanted = commit_held s (writes_for s hand.write) a r up (subst (λ (write : Option Write). RaiseNothing s (writes_for s write) r) (sym wanted.1) (keys_raise_nothing wanted.0 s hand.key r))

back_held : (w : World) (hand : Option Hand) (worker : ℕ) (a : List ℕ) (r : Resource) → IsHeldBetween w.state (given_back w hand worker).state a r
back_held w None worker a r = stays_held w.state a r
back_held w (Some hand) worker a r = stays_held w.state a r

finished_held : (w : World) (hand : Option Hand) (worker : ℕ) (end : Finish) (a : List ℕ) (r : Resource) → ascends w.state.objects ≡ true → IfWanted hand → IsHeldBetween w.state (finished_by w hand worker end).state a r
finished_held w hand worker ending.Empty a r up wanted = stays_held w.state a r
finished_held w hand worker ending.Nothing a r up wanted = stays_held w.state a r
finished_held w hand worker (ending.Conflict seen now) a r up wanted = back_held w hand worker a r
finished_held w hand worker ending.Spent a r up wanted = back_held w hand worker a r
finished_held w hand worker (ending.Written version) a r up wanted = written_held w.state a r up hand wanted
finished_held w hand worker ending.Fault a r up wanted = back_held w hand worker a r
finished_held w hand worker ending.NoMemory a r up wanted = back_held w hand worker a r

entry_held : (w : World) (e : Entry) (a : List ℕ) (r : Resource) → Keeps w → IsHeldBetween w.state (world_after w e).state a r
entry_held w (Refused refusal) a r keeps = stays_held w.state a r
entry_held w (Request ask answer) a r keeps = answered_held w.state a r keeps.0 ask (refusal_of w.state ask) refl
entry_held w (LostRequest ask NoMemory) a r keeps = stays_held w.state a r
entry_held w (LostRequest ask KeeperFault) a r keeps = stays_held w.state a r
entry_held w (Took worker k named) a r keeps = stays_held w.state a r
entry_held w (Idle worker) a r keeps = stays_held w.state a r
entry_held w (Already worker k) a r keeps = stays_held w.state a r
entry_held w (HeldBy worker k holder) a r keeps = stays_held w.state a r
entry_held w (LostTake worker) a r keeps = stays_held w.state a r
entry_held w (Finished worker end) a r keeps = finished_held w (hand_of worker w.hands) worker end a r keeps.0 (hand_wanted worker w.hands keeps.1)
entry_held w (Dropped worker key) a r keeps = back_held w (hand_of worker w.hands) worker a r
entry_held w (Checked waiting held) a r keeps = stays_held w.state a r

keeps_limits : (w : World) (es : History) → Keeps w → KeepsLimits w es
keeps_limits w [] keeps = tt
keeps_limits w (e ∷ es) keeps = (λ a r. entry_held w e a r keeps, keeps_limits (world_after w e) es (keeps_after w e keeps))

pub holds_throughout : HoldsThroughout
holds_throughout broken s es up = keeps_limits (opening_world broken s) es (up, tt)
