-- How many turns settling takes at most, and what there is to count.
--     once                     each item of a list once
--     names_asked, pairs_of    the names of namespaces and those that anchors ask for;  the kinds and names of what can be copied: each once
--     key_count                as many keys a state has
--     left_of, most_left       what removals and subnamespaces have left to do;  it is at most so much
--     turn_bound               the bound, where so many keys wait
--     Writes, next_of          a key wants a write that may be made;  the state after it
--     EarlyWrites              a write of a removal or a subnamespace leaves less to do
--     LateWrites               any other write, where these want nothing, keeps the order
--     KeysStay, KeysCount      no write brings keys;  a state has no more than that
use Rattle.std.specs.Prelude.{◌≡◌, ◌≤◌, ◌<◌, ◌+◌, ◌*◌, ◌==◌, ℕ, Bool, true, false, not, ◌&&◌, ◌||◌, List, [], ◌∷◌, ◌++◌, length, filter, map, Some, if◌then◌else◌}
use Rattle.std.specs.List.{AllByRecursion, IsDistinct, list_any}
use Rattle.std.specs.Str.{bytes_eq}
use Rattle.hx_object.specs.Kinds.{number_of, can_be_copied, is_anchor, is_namespace, is_in_cluster, is_quota}
use Rattle.hx_object.specs.declared.kind.Kind.{Kind}
use Rattle.hx_object.specs.declared.object.Object.{Object}
use Rattle.hx_model.specs.Cases.{is_leaving}
use Rattle.hx_model.specs.Forest.{Forest, names_of, is_live}
use Rattle.hx_model.specs.Hands.{writes_for}
use Rattle.hx_model.specs.Keys.{same_key, is_key}
use Rattle.hx_model.specs.Limits.{greatest_version}
use Rattle.hx_model.specs.Serving.{IsServed}
use Rattle.hx_model.specs.State.{State, Objects, state_after}
use Rattle.hx_model.specs.Tree.{forest_of, is_terminating}
use Rattle.hx_model.specs.Valid.{IsValid}
use Rattle.hx_model.specs.Wanted.{wanted_write}
use Rattle.hx_model.specs.declared.key.Key.{Key}
use Rattle.hx_model.specs.declared.key.Write.{Write}
use Rattle.hx_model.specs.declared.key.Write.TheVariants.{Put}
use Rattle.hx_bound.specs.Rank.{IsCalm, KeepsOrder, is_early}

-- ---- numbers

-- each item once: where it comes for the last time
abbrev pub once : {X : Type 0} → (X → X → Bool) → List X → List X
once same [] = []
once same (x ∷ xs) = if list_any (same x) xs then once same xs else x ∷ once same xs

-- how many objects pass a test
abbrev pub count : (Object → Bool) → Objects → ℕ
count test objects = length (filter test objects)

-- the names that anchors ask for
abbrev pub anchored_names : Objects → List (List ℕ)
anchored_names objects = map (λ (x : Object). x.id.name) (filter (λ (x : Object). is_anchor x.id.kind) objects)

-- the names of namespaces, and those that anchors ask for, each once
abbrev pub names_asked : State → List (List ℕ)
names_asked s = once bytes_eq (names_of (forest_of s) ++ anchored_names s.objects)

-- two pairs of a kind and a name are one
abbrev pub same_pair : Kind × List ℕ → Kind × List ℕ → Bool
same_pair a b = (number_of a.0 == number_of b.0) && bytes_eq a.1 b.1

-- the kinds and names of the objects that can be copied
abbrev pub copied_pairs : Objects → List (Kind × List ℕ)
copied_pairs objects = map (λ (x : Object). (x.id.kind, x.id.name)) (filter (λ (x : Object). can_be_copied x.id.kind) objects)

-- these pairs, each once
abbrev pub pairs_of : State → List (Kind × List ℕ)
pairs_of s = once same_pair (copied_pairs s.objects)

abbrev pub anchor_count : State → ℕ
anchor_count s = count (λ (x : Object). is_anchor x.id.kind) s.objects

abbrev pub quota_count : State → ℕ
quota_count s = count (λ (x : Object). is_quota x.id.kind) s.objects

-- of each name a key for each pair, and those of the removal, the tree labels and the report; of each anchor those of the subnamespace and the status; of each quota one
abbrev pub key_count : State → ℕ
key_count s = length (names_asked s) * length (pairs_of s) + 3 * length (names_asked s) + 2 * anchor_count s + quota_count s

-- an object that lies in a namespace which is on its way out, or is one
abbrev pub is_going : Forest → Object → Bool
is_going f x = (not (is_in_cluster x.id.kind) && is_leaving f x.id.ns) || (is_namespace x.id.kind && is_terminating x.payload)

-- an anchor whose namespace isn't there or is on its way out
abbrev pub is_asking : Forest → Object → Bool
is_asking f x = is_anchor x.id.kind && not (is_live f x.id.name)

-- what removals and subnamespaces have left to do
abbrev pub left_of : State → ℕ
left_of s = count (is_going (forest_of s)) s.objects + count (is_asking (forest_of s)) s.objects

-- at most so much: as if each anchor asked
abbrev pub most_left : State → ℕ
most_left s = count (is_going (forest_of s)) s.objects + anchor_count s

-- the bound, where so many keys wait
abbrev pub turn_bound : State → ℕ → ℕ
turn_bound s waiting = (most_left s + key_count s + 1) * (key_count s + waiting + 1)

-- ---- what is to be shown

-- a key wants a write that may be made
pub record Writes (s : State) (k : Key) (write : Write) : Type 0 where
  pub valid : IsValid s
  pub fits : s.last < greatest_version
  pub wants : wanted_write s k ≡ Some write
  pub served : (x : Object) → write ≡ Put x → IsServed x

-- the state after the write
abbrev pub next_of : State → Write → State
next_of s write = state_after s (writes_for s (Some write))

-- a removal and a subnamespace leave less to do
abbrev pub EarlyWrites : Type 0
EarlyWrites = (s : State) (k : Key) (write : Write) → Writes s k write → is_early k ≡ true → left_of (next_of s write) < left_of s

-- any other write, once these want nothing, keeps the order
abbrev pub LateWrites : Type 0
LateWrites = (s : State) (k : Key) (write : Write) → Writes s k write → IsCalm s → is_early k ≡ false → KeepsOrder s (next_of s write) k

-- no write of a key brings keys
abbrev pub KeysStay : Type 0
KeysStay = (s : State) (k : Key) (write : Write) → Writes s k write → (j : Key) → is_key (next_of s write) j ≡ true → is_key s j ≡ true

-- a state has no more keys than that
abbrev pub KeysCount : Type 0
KeysCount = (s : State) (keys : List Key) → IsDistinct same_key keys → AllByRecursion (λ k. is_key s k ≡ true) keys → length keys ≤ key_count s
