-- A run speaks of known keys alone.
--     marks_key            what a commit may make wait is a key of the state before it or of the one after it
--     Knows                each key that may wait, or that a worker holds, is known
--     knows_after          it is kept by each legal entry
--     speaks_of_keys_alone     so each entry speaks of what is known
use Rattle.std.proofs.Common.{◌≡◌, ◌⊎◌, ℕ, Bool, true, false, cond, not, ◌||◌, ◌==◌, Option, Some, None, List, [], ◌∷◌, option_map, inl, inr, refl, sym, ap, ◌∙◌, subst, true≢false}
use Rattle.std.specs.Prelude.{IfSome, IsSomeAnd}
use Rattle.std.specs.List.{AllByRecursion}
use Rattle.std.proofs.lemmas.Bool.{and_parts, or_cases, or_left, or_right}
use Rattle.hx_model.specs.Answers.{answer_by, refusal_of}
use Rattle.hx_model.specs.Hands.{Hand, hand_at, hand_of, without_hand}
use Rattle.hx_model.specs.Keys.{same_key, is_key, is_key_of_either, may_mark}
use Rattle.hx_model.specs.Machine.{World, Entry, History, IsHistory, IsLegal, HoldsKey, IsWaitingCount, opening_world, world_after, finished_by, writes_made, writes_by, let_go, given_back, Refused, Request, LostRequest, Took, Idle, Already, HeldBy, LostTake, Finished, Dropped, Checked, NoMemory, KeeperFault}
use Rattle.hx_model.specs.State.{State, state_after}
use Rattle.hx_model.specs.declared.ask.Ask.{Ask}
use Rattle.hx_model.specs.declared.key.Finish.{Finish}
use Rattle.hx_model.specs.declared.key.Finish.TheVariants as ending
use Rattle.hx_model.specs.declared.key.Key.{Key}
use Rattle.hx_model.specs.declared.key.Write.{Write}
use Rattle.hx_model.proofs.SameKeys.{same_key_is, same_key_itself}
use Rattle.hx_model.specs.Known.{known_in, known_behind, none_known, SpeaksOf, SpeaksOfKeys, SpeaksOfKeysAlone}
use Rattle.hx_model.proofs.Lists.{all_more, all_pushed}
use Rattle.hx_model.proofs.Wanting.{wanted_is_key}
use Rattle.hx_model.proofs.Writing.{answered_state}

-- ---- what a commit marks

marks_key : (s : State) (ws : List Write) (k : Key) → may_mark s ws k ≡ true → (is_key s k ≡ true) ⊎ (is_key (state_after s ws) k ≡ true)
marks_key s [] k h = absurd (true≢false (sym h))
marks_key s (w ∷ []) k h = or_cases (is_key s k) (is_key (state_after s (w ∷ [])) k) (and_parts (is_key_of_either s (state_after s (w ∷ [])) k) _ h).0
marks_key s (w ∷ v ∷ ws) k h = or_cases (is_key s k) (is_key (state_after s (w ∷ v ∷ ws)) k) h

-- ---- what each world of a history keeps

-- each key that a worker holds is known
abbrev HandsKnown : (Key → Bool) → List Hand → Type 0
HandsKnown known hands = AllByRecursion (λ (h : Hand). known h.key ≡ true) hands

-- each key that may wait is
abbrev MarksKnown : (Key → Bool) → (Key → Bool) → Type 0
MarksKnown known marked = (k : Key) → marked k ≡ true → known k ≡ true

-- in a world where so much was known before
abbrev Knows : (Key → Bool) → World → Type 0
Knows known w = MarksKnown (known_in known w.state) w.marked × HandsKnown (known_in known w.state) w.hands

hands_without : (known : Key → Bool) (worker : ℕ) (hands : List Hand) → HandsKnown known hands → HandsKnown known (without_hand worker hands)
hands_without known worker [] all = tt
hands_without known worker (h ∷ hands) all = elim (h.worker == worker) as (λ b. HandsKnown known (cond (not b) (h ∷ without_hand worker hands) (without_hand worker hands))) [
  | true ↦ hands_without known worker hands all.1
  | false ↦ (all.0, hands_without known worker hands all.1)
]

-- what a worker holds, where it holds something, is known
abbrev IfKnown : (Key → Bool) → Option Hand → Type 0
IfKnown known hand = IfSome hand (λ (h : Hand). known h.key ≡ true)

hand_known : (known : Key → Bool) (worker : ℕ) (hands : List Hand) → HandsKnown known hands → IfKnown known (hand_of worker hands)
hand_known known worker [] all = tt
hand_known known worker (h ∷ hands) all = elim (h.worker == worker) as (λ b. IfKnown known (cond b (Some h) (hand_of worker hands))) [
  | true ↦ all.0
  | false ↦ hand_known known worker hands all.1
]

module _ (known : Key → Bool) (w : World) (e : Entry) where
  -- what is known where the entry stands
  abbrev now : Key → Bool
  now = known_in known w.state

  -- what is known in a state behind it
  abbrev later : State → Key → Bool
  later t = known_in (known_behind known w.state e) t

  stays : (t : State) (k : Key) → now k ≡ true → later t k ≡ true
  stays t k h = or_left (known_behind known w.state e k) (is_key t k) (or_left (now k) _ h)

  comes : (t : State) (k : Key) → is_key t k ≡ true → later t k ≡ true
  comes t k h = or_right (known_behind known w.state e k) (is_key t k) h

  hands_stay : (t : State) (hands : List Hand) → HandsKnown now hands → HandsKnown (later t) hands
  hands_stay t hands all = all_more _ _ hands (λ h. stays t h.key) all

  marks_stay : (t : State) (marked : Key → Bool) → MarksKnown now marked → MarksKnown (later t) marked
  marks_stay t marked all k h = stays t k (all k h)

  -- an entry that leaves the world
  still : Knows known w → Knows (known_behind known w.state e) w
  still knows = (marks_stay w.state w.marked knows.0, hands_stay w.state w.hands knows.1)

  -- what a commit leads to, and what it marks
  marks_written : (t : State) (ws : List Write) → t ≡ state_after w.state ws → MarksKnown now w.marked → MarksKnown (later t) (λ k. w.marked k || may_mark w.state ws k)
  marks_written t ws is all k h = elim (or_cases (w.marked k) (may_mark w.state ws k) h) [
    | inl old ↦ stays t k (all k old)
    | inr new ↦ elim (marks_key w.state ws k new) [
      | inl before ↦ stays t k (or_right (known k) (is_key w.state k) before)
      | inr after ↦ comes t k (ap (λ u. is_key u k) is ∙ after)
    ]
  ]

  knows_let_go : (worker : ℕ) → Knows known w → Knows (known_behind known w.state e) (let_go w worker)
  knows_let_go worker knows = (marks_stay w.state w.marked knows.0, hands_without (later w.state) worker w.hands (hands_stay w.state w.hands knows.1))

  -- a key that is given back
  knows_given_back : (hand : Option Hand) (worker : ℕ) → IfKnown now hand → Knows known w → Knows (known_behind known w.state e) (given_back w hand worker)
  knows_given_back None worker held knows = still knows
  knows_given_back (Some hand) worker held knows = (
    λ k h. elim (or_cases (w.marked k) (same_key k hand.key) h) [
      | inl old ↦ stays w.state k (knows.0 k old)
      | inr same ↦ stays w.state k (ap now (same_key_is k hand.key same) ∙ held)
    ],
    (knows_let_go worker knows).1,
  )

  knows_finished : (hand : Option Hand) (worker : ℕ) (end : Finish) → IfKnown now hand → Knows known w → Knows (known_behind known w.state e) (finished_by w hand worker end)
  knows_finished hand worker ending.Empty held knows = still knows
  knows_finished hand worker ending.Nothing held knows = knows_let_go worker knows
  knows_finished hand worker (ending.Conflict seen at) held knows = knows_given_back hand worker held knows
  knows_finished hand worker ending.Spent held knows = knows_given_back hand worker held knows
  knows_finished hand worker (ending.Written version) held knows =
      let ws = writes_by w.state hand in
      let t = state_after w.state ws in
      (marks_written t ws refl knows.0, hands_without (later t) worker w.hands (hands_stay t w.hands knows.1))
  knows_finished None worker ending.Fault held knows = still knows
  knows_finished (Some hand) worker ending.Fault held knows = knows_given_back (Some hand) worker held knows
  knows_finished hand worker ending.NoMemory held knows = knows_given_back hand worker held knows

knows_answered : (known : Key → Bool) (w : World) (e : Entry) (ask : Ask) → Knows known w → Knows (known_behind known w.state e) (record w { state = (answer_by w.state ask (refusal_of w.state ask)).1; marked = λ k. w.marked k || may_mark w.state (writes_made w.state ask) k })
knows_answered known w e ask knows =
    let t = (answer_by w.state ask (refusal_of w.state ask)).1 in
    (marks_written known w e t (writes_made w.state ask) (answered_state w.state ask (refusal_of w.state ask)) knows.0, hands_stay known w e t w.hands knows.1)

-- a key that a worker takes by itself may wait, and one that its line gives is known from then on
knows_taken : (known : Key → Bool) (w : World) (worker : ℕ) (k : Key) (named : Bool) → (named ≡ false → w.marked k ≡ true) → Knows known w → Knows (known_behind known w.state (Took worker k named)) (world_after w (Took worker k named))
knows_taken known w worker k named marked knows =
    let e = Took worker k named in (
      λ other h. stays known w e w.state other (knows.0 other (and_parts (w.marked other) _ h).0),
      all_pushed _ w.hands (hand_at w.state worker k) (hands_stay known w e w.state w.hands knows.1) (by named marked),
    )
  where
    by : (b : Bool) → (b ≡ false → w.marked k ≡ true) → known_in (known_behind known w.state (Took worker k b)) w.state k ≡ true
    by false waits = stays known w (Took worker k false) w.state k (knows.0 k (waits refl))
    by true waits = or_left (known_behind known w.state (Took worker k true) k) (is_key w.state k) (or_right (known_in known w.state k) (same_key k k) (same_key_itself k))

knows_after : (known : Key → Bool) (w : World) (e : Entry) → IsLegal w e → Knows known w → Knows (known_behind known w.state e) (world_after w e)
knows_after known w (Refused refusal) legal knows = still known w (Refused refusal) knows
knows_after known w (Request ask answer) legal knows = knows_answered known w (Request ask answer) ask knows
knows_after known w (LostRequest ask NoMemory) legal knows = still known w (LostRequest ask NoMemory) knows
knows_after known w (LostRequest ask KeeperFault) legal knows = still known w (LostRequest ask KeeperFault) knows
knows_after known w (Took worker k named) legal knows = knows_taken known w worker k named legal.2 knows
knows_after known w (Idle worker) legal knows = still known w (Idle worker) knows
knows_after known w (Already worker k) legal knows = still known w (Already worker k) knows
knows_after known w (HeldBy worker k holder) legal knows = still known w (HeldBy worker k holder) knows
knows_after known w (LostTake worker) legal knows = still known w (LostTake worker) knows
knows_after known w (Finished worker end) legal knows = knows_finished known w (Finished worker end) (hand_of worker w.hands) worker end (hand_known (known_in known w.state) worker w.hands knows.1) knows
knows_after known w (Dropped worker key) legal knows = knows_given_back known w (Dropped worker key) (hand_of worker w.hands) worker (hand_known (known_in known w.state) worker w.hands knows.1) knows
knows_after known w (Checked waiting held) legal knows = still known w (Checked waiting held) knows

-- ---- what an entry speaks of

-- the key that a worker holds
key_known : (known : Key → Bool) (hand : Option Hand) (k : Key) → IfKnown known hand → IsSomeAnd hand (λ h. h.key ≡ k) → known k ≡ true
key_known known None k held is = absurd is
key_known known (Some hand) k held is = ap known (sym is) ∙ held

held_known : (known : Key → Bool) (w : World) (worker : ℕ) (k : Key) → Knows known w → HoldsKey w worker k → known_in known w.state k ≡ true
held_known known w worker k knows is = key_known (known_in known w.state) (hand_of worker w.hands) k (hand_known (known_in known w.state) worker w.hands knows.1) is

dropped_known : (known : Key → Bool) (hand : Option Hand) → IfKnown known hand → IfSome (option_map (λ (h : Hand). h.key) hand) (λ k. known k ≡ true)
dropped_known known None held = tt
dropped_known known (Some hand) held = held

speaks_of : (known : Key → Bool) (w : World) (e : Entry) → IsLegal w e → Knows known w → SpeaksOf (known_in known w.state) w e
speaks_of known w (Refused refusal) legal knows = tt
speaks_of known w (Request ask answer) legal knows = tt
speaks_of known w (LostRequest ask cause) legal knows = tt
speaks_of known w (Took worker k named) legal knows = λ by_itself. knows.0 k (legal.2 by_itself)
speaks_of known w (Idle worker) legal knows = tt
speaks_of known w (Already worker k) legal knows = held_known known w worker k knows legal
speaks_of known w (HeldBy worker k holder) legal knows = held_known known w holder k knows legal.1
speaks_of known w (LostTake worker) legal knows = tt
speaks_of known w (Finished worker end) legal knows = tt
speaks_of known w (Dropped worker key) legal knows =
    subst (λ o. IfSome o (λ k. known_in known w.state k ≡ true)) (sym legal) (dropped_known (known_in known w.state) (hand_of worker w.hands) (hand_known (known_in known w.state) worker w.hands knows.1))
speaks_of known w (Checked waiting held) legal knows =
    let count : IsWaitingCount w waiting = legal.0 in
    (count.0, count.1, count.2, all_more _ _ count.0 knows.0 count.2.marked)

speaks_of_keys : (known : Key → Bool) (w : World) (es : History) → IsHistory w es → Knows known w → SpeaksOfKeys known w es
speaks_of_keys known w [] legal knows = tt
speaks_of_keys known w (e ∷ es) legal knows = (speaks_of known w e legal.0 knows, speaks_of_keys (known_behind known w.state e) (world_after w e) es legal.1 (knows_after known w e legal.0 knows))

pub speaks_of_keys_alone : SpeaksOfKeysAlone
speaks_of_keys_alone broken s es valid legal = speaks_of_keys none_known (opening_world broken s) es legal (λ k waits. wanted_is_key s valid k waits, tt)
