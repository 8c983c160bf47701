-- That the turns which are counted by objects suffice, and that they spend no version.
--     asks_within            there are at most four asks a namespace
--     enough, enough_by      the bound on settling is at most what is counted by objects
--     still_at               no entry gives out more than one version
--     never_spent            a settle of few turns in which no version is spent
use Rattle.std.proofs.Common.{◌≡◌, ◌≢◌, ◌≤◌, ◌<◌, ◌+◌, ◌*◌, ◌^◌, ℕ, zero, suc, Bool, true, false, if◌then◌else◌, List, [], ◌∷◌, ◌++◌, filter, length, length-append, Option, Some, None, refl, sym, ap, ◌∙◌, subst, arith}
use Rattle.std.specs.List.{flat_map, list_any, range_with_len}
use Rattle.std.specs.Str.{bytes_eq}
use Rattle.std.proofs.lemmas.List.{length-map}
use Rattle.std.proofs.lemmas.List.FromFn.{length-range_with_len}
use Rattle.std.proofs.lemmas.List.Sums.{count_by-le-length, length-filter}
use Rattle.std.proofs.lemmas.Nat.{mul-le}
use Rattle.hx_object.specs.Kinds.{can_be_copied, is_anchor, is_namespace}
use Rattle.hx_object.specs.declared.kind.Kind.{Kind}
use Rattle.hx_object.specs.declared.object.Object.{Object}
use Rattle.hx_model.specs.Answers.{answer_by, refusal_of, writes_of}
use Rattle.hx_model.specs.Forest.{names_of}
use Rattle.hx_model.specs.Hands.{Hand, hand_of}
use Rattle.hx_model.specs.Limits.{greatest_version}
use Rattle.hx_model.specs.Machine.{World, Entry, History, Refused, Request, LostRequest, Took, Idle, Already, HeldBy, LostTake, Finished, Dropped, Checked, NoMemory, KeeperFault, IsEnd, IsHistory, finished_by, given_back, replay, taken_by, world_after, writes_by}
use Rattle.hx_model.specs.State.{State, state_after}
use Rattle.hx_model.specs.Tree.{forest_of}
use Rattle.hx_model.specs.declared.ask.Ask.{Ask}
use Rattle.hx_model.specs.declared.key.Finish.{Finish}
use Rattle.hx_model.specs.declared.key.Finish.TheVariants as ending
use Rattle.hx_model.specs.declared.key.Write.{Write}
use Rattle.hx_model.specs.declared.refusal.Refusal.{Refusal}
use Rattle.hx_bound.specs.Bound.{anchor_count, anchored_names, copied_pairs, count, is_going, key_count, most_left, names_asked, once, pairs_of, quota_count, same_pair, turn_bound}
use Rattle.hx_core.specs.Turns.{loss_in, loss_of, turns_entries}
use Rattle.hx_core.specs.declared.turns.Settle.TheVariants as settled
use Rattle.hx_core.specs.declared.turns.Turned.{Turned}
use Rattle.hx_gen.specs.Asked.{asks_of, object_asks, tree_asks}
use Rattle.hx_gen.specs.Draws.{parent_of}
use Rattle.hnc.specs.Generating.{keys_for, most_turns, turns_for}

-- ---- asks

place_few : (i parent : ℕ) → length (tree_asks i parent) ≤ 2
place_few zero parent = omega arith
place_few (suc i) parent = omega arith

tree_few : (number : ℕ) (places : List ℕ) → length (flat_map (λ i. tree_asks i (parent_of number i)) places) ≤ 2 * length places
tree_few number [] = omega arith
tree_few number (i ∷ places) =
    let own = tree_asks i (parent_of number i) in
    let rest = flat_map (λ j. tree_asks j (parent_of number j)) places in
    omega (arith, length-append own rest, place_few i (parent_of number i), tree_few number places)

objects_few : (places : List ℕ) → length (flat_map object_asks places) ≤ 2 * length places
objects_few [] = omega arith
objects_few (i ∷ places) = omega (arith, length-append (object_asks i) (flat_map object_asks places), objects_few places)

asks_few : (number count : ℕ) → length (asks_of number count) ≤ 4 * count
unfolding asks_of
asks_few number count =
    let places = range_with_len 0 count in
    let all = length-append (flat_map (λ i. tree_asks i (parent_of number i)) places) (flat_map object_asks places) in
    omega (arith, all, tree_few number places, objects_few places, length-range_with_len 0 count)

pub asks_within : (number count : ℕ) → count < 2 ^ 32 → length (asks_of number count) < most_turns
asks_within number count few = let all = asks_few number count in omega (arith, all, few)

-- ---- by objects

either : {X : Type 0} (b : Bool) (xs ys : List X) (n : ℕ) → length xs ≤ n → length ys ≤ n → length (if b then xs else ys) ≤ n
either true xs ys n p q = p
either false xs ys n p q = q

once_few : {X : Type 0} (same : X → X → Bool) (xs : List X) → length (once same xs) ≤ length xs
once_few same [] = omega arith
once_few same (x ∷ xs) = let few = once_few same xs in either (list_any (same x) xs) (once same xs) (x ∷ once same xs) (suc (length xs)) (omega (arith, few)) (omega (arith, few))

passed_few : {X : Type 0} (p : X → Bool) (xs : List X) → length (filter p xs) ≤ length xs
passed_few p xs = omega (arith, length-filter p xs, count_by-le-length p xs)

-- each object has at most two names
names_few : (s : State) → length (names_asked s) ≤ 2 * length s.objects
names_few s =
    let anchors = filter (λ (x : Object). is_anchor x.id.kind) s.objects in
    let all = once_few bytes_eq (names_of (forest_of s) ++ anchored_names s.objects) in
    let parts = length-append (names_of (forest_of s)) (anchored_names s.objects) in
    let asked : length (anchored_names s.objects) ≤ length s.objects = let each = length-map anchors (λ (x : Object). x.id.name) in let few = passed_few (λ (x : Object). is_anchor x.id.kind) s.objects in omega (arith, each, few) in
    omega (arith, all, parts, asked, nodes_few s)
  where
    nodes_few : (t : State) → length (names_of (forest_of t)) ≤ length t.objects
    nodes_few t =
        let namespaces = filter (λ (x : Object). is_namespace x.id.kind) t.objects in
        let named = length-map (forest_of t) (λ e. e.0) in
        let few = passed_few (λ (x : Object). is_namespace x.id.kind) t.objects in
        let nodes : length (forest_of t) ≡ length namespaces = length-map namespaces _ in
        omega (arith, named, few, nodes)

pairs_few : (s : State) → length (pairs_of s) ≤ length s.objects
pairs_few s =
    let copied = filter (λ (x : Object). can_be_copied x.id.kind) s.objects in
    let each : length (copied_pairs s.objects) ≡ length copied = length-map {B = Kind × List ℕ} copied (λ (x : Object). (x.id.kind, x.id.name)) in
    let few = passed_few (λ (x : Object). can_be_copied x.id.kind) s.objects in
    let all = once_few same_pair (copied_pairs s.objects) in
    omega (arith, each, few, all)

keys_few : (s : State) → key_count s ≤ keys_for (length s.objects)
keys_few s =
    let n = length s.objects in
    let anchors : anchor_count s ≤ n = passed_few _ s.objects in
    let quotas : quota_count s ≤ n = passed_few _ s.objects in
    let names = names_few s in
    let copies = mul-le (length (names_asked s)) (length (pairs_of s)) (2 * n) n names (pairs_few s) in
    omega (arith, anchors, quotas, names, copies)

enough : (s : State) (waiting : ℕ) → turn_bound s waiting ≤ turns_for (length s.objects) waiting
enough s waiting =
    let n = length s.objects in
    let going : count (is_going (forest_of s)) s.objects ≤ n = passed_few (is_going (forest_of s)) s.objects in
    let anchors : anchor_count s ≤ n = passed_few _ s.objects in
    let left : most_left s ≤ 2 * n = omega (arith, going, anchors) in
    let keys = keys_few s in
    mul-le (most_left s + key_count s + 1) (key_count s + waiting + 1) (2 * n + keys_for n + 1) (keys_for n + waiting + 1) (omega (arith, left, keys)) (omega (arith, keys))

pub enough_by : (s : State) (waiting objects waits turns : ℕ) → objects ≡ length s.objects → waits ≡ waiting → turns ≡ turns_for objects waits → turn_bound s waiting ≤ turns
enough_by s waiting objects waits turns many same is = subst (λ n. turn_bound s waiting ≤ n) (sym (is ∙ ap (λ n. turns_for n waits) many ∙ ap (turns_for (length s.objects)) same)) (enough s waiting)

-- ---- versions

after_one : (s : State) (writes : List Write) → (state_after s writes).last ≤ s.last + 1
after_one s [] = omega arith
after_one s (write ∷ writes) = omega arith

answered_one : (s : State) (ask : Ask) (refused : Option Refusal) → (answer_by s ask refused).1.last ≤ s.last + 1
answered_one s ask (Some refusal) = omega arith
answered_one s ask None = after_one s (writes_of s ask)

back_one : (w : World) (hand : Option Hand) (worker : ℕ) → (given_back w hand worker).state.last ≤ w.state.last + 1
back_one w None worker = omega arith
back_one w (Some hand) worker = omega arith

finished_one : (w : World) (hand : Option Hand) (worker : ℕ) (end : Finish) → (finished_by w hand worker end).state.last ≤ w.state.last + 1
finished_one w hand worker ending.Empty = omega arith
finished_one w hand worker ending.Nothing = omega arith
finished_one w hand worker (ending.Conflict seen now) = back_one w hand worker
finished_one w hand worker ending.Spent = back_one w hand worker
finished_one w hand worker (ending.Written version) = after_one w.state (writes_by w.state hand)
finished_one w hand worker ending.Fault = back_one w hand worker
finished_one w hand worker ending.NoMemory = back_one w hand worker

entry_one : (w : World) (e : Entry) → (world_after w e).state.last ≤ w.state.last + 1
entry_one w (Refused refusal) = omega arith
entry_one w (Request ask answer) = answered_one w.state ask (refusal_of w.state ask)
entry_one w (LostRequest ask NoMemory) = omega arith
entry_one w (LostRequest ask KeeperFault) = omega arith
entry_one w (Took worker k named) = omega arith
entry_one w (Idle worker) = omega arith
entry_one w (Already worker k) = omega arith
entry_one w (HeldBy worker k holder) = omega arith
entry_one w (LostTake worker) = omega arith
entry_one w (Finished worker end) = finished_one w (hand_of worker w.hands) worker end
entry_one w (Dropped worker key) = back_one w (hand_of worker w.hands) worker
entry_one w (Checked waiting held) = omega arith

-- no entry gives out more than one
pub still_at : (w : World) (h : History) → (replay w h).state.last ≤ w.state.last + length h
still_at w [] = omega arith
still_at w (e ∷ es) = omega (arith, entry_one w e, still_at (world_after w e) es)

-- a turn that ends for a spent version stands where all are given out
spent_at : (w : World) (hand : Option Hand) → IsEnd w hand ending.Spent → w.state.last ≡ greatest_version
spent_at w None ends = cc
spent_at w (Some hand) ends = ends.1

spent_end : (end : Finish) → loss_in end ≡ Some settled.Spent → end ≡ ending.Spent
spent_end ending.Empty is = cc
spent_end ending.Nothing is = cc
spent_end (ending.Conflict seen now) is = cc
spent_end ending.Spent is = refl
spent_end (ending.Written version) is = cc
spent_end ending.Fault is = cc
spent_end ending.NoMemory is = cc

-- the turns of a settle that are few spend none
pub never_spent : (w : World) (turns : List Turned) (rest : History) → IsHistory w (turns_entries turns ++ rest) → w.state.last + length turns ≤ greatest_version → loss_of turns ≢ Some settled.Spent
never_spent w [] rest legal few = λ spent. cc
never_spent w (turned ∷ []) rest legal few = λ spent.
    let between = taken_by w 0 turned.key in
    let all : w.state.last ≡ greatest_version = spent_at between (hand_of 0 between.hands) (subst (λ (end : Finish). IsEnd between (hand_of 0 between.hands) end) (spent_end turned.end spent) legal.1.0) in
    omega (arith, few, all)
never_spent w (turned ∷ next ∷ turns) rest legal few =
    let between = taken_by w 0 turned.key in
    let one = entry_one between (Finished 0 turned.end) in
    never_spent (world_after between (Finished 0 turned.end)) (next ∷ turns) rest legal.1.1 (omega (arith, one, few))
