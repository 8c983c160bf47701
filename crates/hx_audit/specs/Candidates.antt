-- Which keys of a survey want a write, found by walking.
--     state_of v             the state of what is surveyed. What keys want depends on no version
--     kept k facts           a key, where it wants a write by facts
--     wanted v k             the same, by the facts of the survey
--     nearest_first          the sources of a kind and name in the namespaces of a chain, the nearest first
--     place_keys, sent_keys  of a place of copies;  of the places of the sources that a namespace sends to one where nothing lies
--     senders                the namespaces above that have sources of a kind
--     kind_keys, copy_keys   of a kind;  of all places of a namespace that takes part
--     active_kinds           the kinds that may want one: any other is passed over
--     anchor_keys, quota_keys   of an anchor;  of a quota
--     wanting_of, wanting    of a namespace;  of all
--     least_from best keys   the least of keys and of one that was found before
use Rattle.std.specs.Prelude.{ℕ, Bool, true, false, not, ◌&&◌, ◌==◌, length, List, [], ◌∷◌, ◌++◌, Option, Some, None, is_some, is_none, filter, flat_map, if◌then◌else◌}
use Rattle.std.specs.Ordering.{is_lt}
use Rattle.std.specs.List.{list_any}
use Rattle.hx_object.specs.declared.kind.Kind.{Kind}
use Rattle.hx_object.specs.declared.kind.Kind.TheVariants.{SubnamespaceAnchor, HierarchicalResourceQuota}
use Rattle.hx_object.specs.declared.object.Mode.{Mode}
use Rattle.hx_object.specs.declared.object.Mode.TheVariants.{Ignore}
use Rattle.hx_object.specs.declared.object.Object.{Object}
use Rattle.hx_order.specs.KeyOrder.{key_cmp}
use Rattle.hx_model.specs.Answers.{is_listed}
use Rattle.hx_model.specs.Forest.{Forest, chain_of, tail_of}
use Rattle.hx_model.specs.Moves.{copied_kinds, mode_at}
use Rattle.hx_model.specs.Propagation.{as_list, id_in, is_source, source_at, sources_along}
use Rattle.hx_model.specs.State.{State, Objects, object_at, namespace_id}
use Rattle.hx_model.specs.TreeLabels.{is_open}
use Rattle.hx_model.specs.Windows.{opened}
use Rattle.hx_model.specs.declared.key.Key.{Key}
use Rattle.hx_model.specs.declared.key.Key.TheVariants as key
use Rattle.hx_reconcile.specs.Briefs.{facts_of, planned}
use Rattle.hx_reconcile.specs.declared.brief.Facts.{Facts}
use Rattle.hx_reconcile.specs.declared.brief.Facts.TheVariants as facts
use Rattle.hx_survey.specs.Surveyed.{Surveyed, tree_of}

abbrev pub state_of : Surveyed → State
state_of v = record { objects = v.objects; last = 0; config = record { excluded = v.excluded; allow_skip = false }; window = opened 0 }

-- ---- one key

-- where it wants a write by these facts
abbrev pub kept : Key → Facts → List Key
kept k found = if is_some (planned k found) then k ∷ [] else []

-- where it wants one by those of the survey
abbrev pub wanted : Surveyed → Key → List Key
wanted v k = kept k (facts_of (state_of v) k)

-- ---- copies

-- the sources of a kind and name in the namespaces of a chain, the nearest first
abbrev pub nearest_first : Objects → Kind → List ℕ → List (List ℕ) → List Object
nearest_first objects kind name [] = []
nearest_first objects kind name (a ∷ chain) = as_list (source_at objects (id_in kind name a)) ++ nearest_first objects kind name chain

-- the objects of a kind in a namespace
abbrev pub listed_in : Objects → Kind → List ℕ → Objects
listed_in objects kind n = filter (is_listed kind (Some n)) objects

-- the place of a kind and name in a namespace that takes part, x, where its kind is in this mode and these are above it
abbrev pub place_facts : Objects → Mode → Object → List (List ℕ) → List ℕ → Kind → List ℕ → Facts
place_facts objects mode x above n kind name = facts.Copy (Some x) true (object_at objects (id_in kind name n)) mode (sources_along objects kind name above)

abbrev pub place_keys : Objects → Mode → Object → List (List ℕ) → List ℕ → Kind → List ℕ → List Key
place_keys objects mode x above n kind name = kept (key.Copy n kind name) (place_facts objects mode x above n kind name)

-- a source whose place in a namespace is empty
abbrev pub is_lacking : Objects → List ℕ → Kind → Object → Bool
is_lacking objects n kind y = is_source y && is_none (object_at objects (id_in kind y.id.name n))

-- the place of a source that is sent, where nothing lies there
abbrev pub lacking_keys : Objects → Mode → Object → List (List ℕ) → List ℕ → Kind → Object → List Key
lacking_keys objects mode x above n kind y = if is_lacking objects n kind y then place_keys objects mode x above n kind y.id.name else []

-- the places of what a namespace above sends
abbrev pub sent_keys : Objects → Mode → Object → List (List ℕ) → List ℕ → Kind → List ℕ → List Key
sent_keys objects mode x above n kind a = flat_map (lacking_keys objects mode x above n kind) (listed_in objects kind a)

-- the places where something lies
abbrev pub taken_keys : Objects → Mode → Object → List (List ℕ) → List ℕ → Kind → List Key
taken_keys objects mode x above n kind = flat_map (λ (y : Object). place_keys objects mode x above n kind y.id.name) (listed_in objects kind n)

abbrev pub is_ignored : Mode → Bool
is_ignored Ignore = true
is_ignored _ = false

-- a namespace has sources of a kind
abbrev pub has_sources : Objects → Kind → List ℕ → Bool
has_sources objects kind a = list_any is_source (listed_in objects kind a)

-- those of some that have
abbrev pub senders : Objects → Kind → List (List ℕ) → List (List ℕ)
senders objects kind names = filter (has_sources objects kind) names

-- of a kind, below those that have sources of it
abbrev pub kind_keys : Objects → Object → List (List ℕ) → List ℕ → Kind → List Key
kind_keys objects x above n kind =
    taken_keys objects (mode_at objects kind) x (senders objects kind above) n kind
    ++ flat_map (sent_keys objects (mode_at objects kind) x (senders objects kind above) n kind) (senders objects kind above)

-- a kind that isn't ignored, and of which there are objects
abbrev pub is_active : Objects → Kind → Bool
is_active objects kind = not (is_ignored (mode_at objects kind)) && not (length (filter (is_listed kind None) objects) == 0)

-- of some kinds, of what is found as the namespace
abbrev pub copy_keys : Objects → List Kind → List (List ℕ) → List ℕ → Option Object → List Key
copy_keys objects kinds above n None = []
copy_keys objects kinds above n (Some x) = flat_map (kind_keys objects x above n) kinds

-- where it takes part
abbrev pub open_keys : Objects → List Kind → Bool → List (List ℕ) → List ℕ → List Key
open_keys objects kinds acts above n = if acts then copy_keys objects kinds above n (object_at objects (namespace_id n)) else []

-- ---- the others

-- the subnamespace that an anchor asks for, and its status
abbrev pub anchor_keys : Surveyed → List ℕ → Object → List Key
anchor_keys v n x = wanted v (key.Child n x.id.name) ++ wanted v (key.Anchor n x.id.name)

-- the status of a quota
abbrev pub quota_keys : Surveyed → List ℕ → Object → List Key
quota_keys v n x = wanted v (key.Used n x.id.name)

-- ---- all

-- the kinds that may want a write
abbrev pub active_kinds : Surveyed → List Kind
active_kinds v = filter (is_active v.objects) copied_kinds

-- those of a namespace
abbrev pub wanting_of : Surveyed → List ℕ → List Key
wanting_of v n =
    open_keys v.objects (active_kinds v) (is_open (tree_of v) n) (tail_of (chain_of (tree_of v) n)) n
    ++ (wanted v (key.Tree n)
    ++ (wanted v (key.Report n)
    ++ (wanted v (key.Purge n)
    ++ (flat_map (anchor_keys v n) (listed_in v.objects SubnamespaceAnchor n)
    ++ flat_map (quota_keys v n) (listed_in v.objects HierarchicalResourceQuota n)))))

-- those of some namespaces
abbrev pub wanting_in : Surveyed → Forest → List Key
wanting_in v nodes = flat_map (λ e. wanting_of v e.0) nodes

abbrev pub wanting : Surveyed → List Key
wanting v = wanting_in v (tree_of v)

-- ---- the least

-- the lesser of two
abbrev pub lesser : Option Key → Key → Key
lesser None k = k
lesser (Some best) k = if is_lt (key_cmp k best) then k else best

abbrev pub least_from : Option Key → List Key → Option Key
least_from best [] = best
least_from best (k ∷ keys) = least_from (Some (lesser best k)) keys
