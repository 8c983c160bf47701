-- The keys of reconcilers' work, in a state.
--     same_key             two keys are one
--     is_among k keys      a key is among keys
--     is_name s n          a namespace has the name, or an anchor asks for one of it
--     is_key s k           a key of the state: of a name, and for copies of a kind and a name that some object has; of an anchor; of a quota
--     touches s id k       a write of one such object may change what the key wants
--     may_mark s ws k      a commit of these writes may make the key wait
use Rattle.std.specs.Prelude.{ℕ, Bool, true, false, ◌&&◌, ◌||◌, ◌==◌, List, [], ◌∷◌, is_some, if◌then◌else◌}
use Rattle.std.specs.List.{list_any}
use Rattle.std.specs.Str.{bytes_eq}
use Rattle.hx_object.specs.Kinds.{number_of, can_be_copied, is_plain}
use Rattle.hx_object.specs.declared.kind.Kind.{Kind}
use Rattle.hx_object.specs.declared.kind.Kind.TheVariants.{SubnamespaceAnchor, HierarchicalResourceQuota}
use Rattle.hx_object.specs.declared.object.Id.{Id}
use Rattle.hx_object.specs.declared.object.Object.{Object}
use Rattle.hx_model.specs.contracts.key.KeyPartialEq.TheImpl as key_eq
use Rattle.hx_model.specs.Forest.{in_chain, is_there}
use Rattle.hx_model.specs.Propagation.{id_in}
use Rattle.hx_model.specs.State.{State, Objects, object_at, state_after}
use Rattle.hx_model.specs.Tree.{forest_of}
use Rattle.hx_model.specs.Writes.{id_written}
use Rattle.hx_model.specs.declared.key.Key.{Key}
use Rattle.hx_model.specs.declared.key.Key.TheVariants as key
use Rattle.hx_model.specs.declared.key.Write.{Write}

-- the test of two keys that code has: they are equal
unfoldable pub same_key : Key → Key → Bool
same_key = (key_eq.ghosts).eq

abbrev pub is_among : Key → List Key → Bool
is_among k keys = list_any (same_key k) keys

-- ---- the keys of a state

-- an object of a kind has a name, in any namespace
abbrev pub has_named : Objects → Kind → List ℕ → Bool
has_named objects kind name = list_any (λ (x : Object). (number_of kind == number_of x.id.kind) && bytes_eq name x.id.name) objects

-- a namespace has the name, or an anchor asks for one of it
abbrev pub is_name : State → List ℕ → Bool
is_name s n = is_there (forest_of s) n || has_named s.objects SubnamespaceAnchor n

abbrev pub is_key : State → Key → Bool
is_key s (key.Copy n kind name) = is_name s n && (can_be_copied kind && has_named s.objects kind name)
is_key s (key.Tree n) = is_name s n
is_key s (key.Report n) = is_name s n
is_key s (key.Purge n) = is_name s n
is_key s (key.Child n name) = is_some (object_at s.objects (id_in SubnamespaceAnchor name n))
is_key s (key.Anchor n name) = is_some (object_at s.objects (id_in SubnamespaceAnchor name n))
is_key s (key.Used n name) = is_some (object_at s.objects (id_in HierarchicalResourceQuota name n))

-- ---- what a commit may make wait

-- an object of a kind that is kept as it is given touches the copies of its kind and name in the subtree of its namespace, the quotas of the namespaces above, and the removal of its namespace
abbrev pub touches : State → Id → Key → Bool
touches s id (key.Copy n kind name) = (number_of kind == number_of id.kind) && (bytes_eq name id.name && in_chain (forest_of s) n id.ns)
touches s id (key.Used n name) = in_chain (forest_of s) id.ns n
touches s id (key.Purge n) = bytes_eq n id.ns
touches s id _ = false

-- a key of one of two states
abbrev pub is_key_of_either : State → State → Key → Bool
is_key_of_either s t k = is_key s k || is_key t k

-- a write makes no key wait but those of the states before and after it, and one of such an object only those of them that it touches
abbrev pub may_mark_by : State → State → Write → Key → Bool
may_mark_by s t write k = is_key_of_either s t k && (if is_plain (id_written write).kind then touches s (id_written write) k else true)

-- so does a commit of several writes, none of which is of such an object
abbrev pub may_mark : State → List Write → Key → Bool
may_mark s [] k = false
may_mark s (write ∷ []) k = may_mark_by s (state_after s (write ∷ [])) write k
may_mark s writes k = is_key_of_either s (state_after s writes) k
