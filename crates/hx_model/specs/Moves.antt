-- What lies below a namespace that gets another parent, and which sources are overwritten there.
--     up_to n names        the names before n
--     is_eligible f n          there and not on its way out, and not excluded
--     is_open_above f parent   the parent takes part, where there is one
--     moved_chain_of f n parent m   the chain of a namespace below n then
--     is_moved_open f n parent m    it takes part then
--     open_chain, open_moved     the chain of a namespace that takes part, before and then. One that doesn't has none here
--     is_met                     a source of a kind and name goes along a chain to the place of its first member
--     is_newly_met               a source that one goes over along the chain then, and none before
--     overwrites_in              there is such a source in a namespace
use Rattle.std.specs.Prelude.{ℕ, Bool, true, false, not, ◌&&◌, List, [], ◌∷◌, ◌++◌, filter, Option, Some, None, if◌then◌else◌}
use Rattle.std.specs.List.{list_all, list_any}
use Rattle.std.specs.Option.{option_map_or}
use Rattle.std.specs.Str.{bytes_eq}
use Rattle.hx_object.specs.declared.kind.Kind.{Kind}
use Rattle.hx_object.specs.declared.kind.Kind.TheVariants.{Role, RoleBinding, ConfigMap, Secret, NetworkPolicy, LimitRange}
use Rattle.hx_object.specs.declared.object.Mode.{Mode}
use Rattle.hx_object.specs.declared.object.Object.{Object}
use Rattle.hx_model.specs.Answers.{is_listed}
use Rattle.hx_model.specs.Forest.{Forest, is_live, is_excluded, chain_of, tail_of}
use Rattle.hx_model.specs.Modes.{config_id, mode_in}
use Rattle.hx_model.specs.Propagation.{goes_to, is_source, id_in}
use Rattle.hx_model.specs.State.{Objects, object_at, namespace_id}
use Rattle.hx_model.specs.TreeLabels.{is_open, prescribed_labels}

-- the names before n
abbrev pub up_to : List ℕ → List (List ℕ) → List (List ℕ)
up_to n [] = []
up_to n (m ∷ ms) = if bytes_eq n m then [] else m ∷ up_to n ms

-- the chain from a name that may be none
abbrev pub chain_from : Forest → Option (List ℕ) → List (List ℕ)
chain_from f None = []
chain_from f (Some p) = chain_of f p

-- there and not on its way out, and not excluded
abbrev pub is_eligible : Forest → List ℕ → Bool
is_eligible f n = is_live f n && not (is_excluded f n)

-- the parent takes part, where there is one
abbrev pub is_open_above : Forest → Option (List ℕ) → Bool
is_open_above f parent = option_map_or (is_open f) parent true

-- up to n as before, and then the chain of the new parent
abbrev pub moved_chain_of : Forest → List ℕ → Option (List ℕ) → List ℕ → List (List ℕ)
moved_chain_of f n parent m = up_to n (chain_of f m) ++ n ∷ chain_from f parent

-- all up to n are eligible, and the new parent takes part
abbrev pub is_moved_open : Forest → List ℕ → Option (List ℕ) → List ℕ → Bool
is_moved_open f n parent m = list_all (is_eligible f) (up_to n (chain_of f m)) && (is_eligible f n && is_open_above f parent)

-- ---- sources

-- the labels that a namespace has
abbrev pub labels_in : Objects → List ℕ → List (List ℕ × List ℕ)
labels_in objects n = option_map_or (λ (x : Object). x.labels) (object_at objects (namespace_id n)) []

-- the mode of a kind
abbrev pub mode_at : Objects → Kind → Mode
mode_at objects kind = mode_in (object_at objects config_id) kind

-- what is found goes to labels
abbrev pub is_going : Mode → List (List ℕ × List ℕ) → Option Object → Bool
is_going mode labels found = option_map_or (λ (x : Object). goes_to mode x labels) found false

-- a source of a kind and name goes from a later member of a chain to the place of its first one, n
abbrev pub is_met : Objects → List ℕ → List (List ℕ) → Kind → List ℕ → Bool
is_met objects n chain kind name = list_any (λ a. is_going (mode_at objects kind) (prescribed_labels chain (labels_in objects n)) (object_at objects (id_in kind name a))) (tail_of chain)

-- the chain of a namespace that takes part
abbrev pub open_chain : Forest → List ℕ → List (List ℕ)
open_chain f n = if is_open f n then chain_of f n else []

-- the same once n has that parent, where m is in its subtree
abbrev pub open_moved : Forest → List ℕ → Option (List ℕ) → List ℕ → List (List ℕ)
open_moved f n parent m = if is_moved_open f n parent m then moved_chain_of f n parent m else []

-- a source over which one goes along the chain afterwards, and none before
abbrev pub is_newly_met : Objects → List ℕ → List (List ℕ) → List (List ℕ) → Object → Bool
is_newly_met objects n after before x = is_source x && (is_met objects n after x.id.kind x.id.name && not (is_met objects n before x.id.kind x.id.name))

-- the kinds that can be copied
abbrev pub copied_kinds : List Kind
copied_kinds = Role ∷ RoleBinding ∷ ConfigMap ∷ Secret ∷ NetworkPolicy ∷ LimitRange ∷ []

-- there is such a source of a kind in a namespace
abbrev pub overwrites_kind : Objects → List ℕ → List (List ℕ) → List (List ℕ) → Kind → Bool
overwrites_kind objects n after before kind = list_any (is_newly_met objects n after before) (filter (is_listed kind (Some n)) objects)

-- there is such a source in a namespace
abbrev pub overwrites_in : Objects → List ℕ → List (List ℕ) → List (List ℕ) → Bool
overwrites_in objects n after before = list_any (overwrites_kind objects n after before) copied_kinds
