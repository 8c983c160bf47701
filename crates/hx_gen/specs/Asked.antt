-- The asks that make a cluster of so many namespaces.
--     namespace_name, role_name       the names that a place has
--     namespace_ask, hierarchy_ask, role_ask, pod_ask      the requests
--     tree_asks, object_asks          those of one place: for its namespace;  for what lies in it
--     made, creating, no_members      an object without labels;  to store it;  a payload without members
--     asks_of number count            all of them
--     IsNext                          what the next ask leaves
use Rattle.std.specs.Prelude.{◌≡◌, ℕ, zero, suc, false, List, [], ◌∷◌, ◌++◌, codes, flat_map, Option, Some, None}
use Rattle.std.specs.Fmt.{decimal}
use Rattle.std.specs.List.{range_with_len}
use Rattle.hx_object.specs.WellKnown.{hierarchy}
use Rattle.hx_object.specs.declared.kind.Kind.TheVariants.{Namespace, HierarchyConfiguration, Role, Pod}
use Rattle.hx_object.specs.declared.object.Id.{Id}
use Rattle.hx_object.specs.declared.object.Object.{Object}
use Rattle.hx_object.specs.declared.object.Payload.{Payload}
use Rattle.hx_object.specs.declared.object.Payload.TheVariants.{Namespace as NamespaceOf, Hierarchy, Plain}
use Rattle.hx_model.specs.declared.ask.Ask.{Ask}
use Rattle.hx_model.specs.declared.ask.Ask.TheVariants.{Create}
use Rattle.hx_gen.specs.Draws.{parent_of}

-- ---- names

-- `n` and the place
abbrev pub namespace_name : ℕ → List ℕ
namespace_name i = codes "n" ++ decimal i

-- `r` and the place
abbrev pub role_name : ℕ → List ℕ
role_name i = codes "r" ++ decimal i

-- ---- requests

-- an object without labels and annotations
abbrev pub made : Id → Payload → Object
made id payload = record { id = id; version = 0; labels = []; annotations = []; payload = payload }

-- to store it, by the rules of admission
abbrev pub creating : Id → Payload → Ask
creating id payload = Create (made id payload) false

-- a payload without members
abbrev pub no_members : Payload
no_members = Plain (codes "{}") (record { finished = false; token = false; storage = 0; containers = [] })

-- a namespace
abbrev pub namespace_ask : ℕ → Ask
namespace_ask i = creating (record { kind = Namespace; ns = []; name = namespace_name i }) (NamespaceOf false)

-- the namespace at a place gets that of another one as its parent
abbrev pub hierarchy_ask : ℕ → ℕ → Ask
hierarchy_ask i parent = creating (record { kind = HierarchyConfiguration; ns = namespace_name i; name = hierarchy }) (Hierarchy (Some (namespace_name parent)) false [] [])

-- a Role without rules
abbrev pub role_ask : ℕ → Ask
role_ask i = creating (record { kind = Role; ns = namespace_name i; name = role_name i }) no_members

-- a Pod without a specification
abbrev pub pod_ask : ℕ → Ask
pod_ask i = creating (record { kind = Pod; ns = namespace_name i; name = codes "p" }) no_members

-- ---- lists of requests

-- the namespace of a place, and the parent of each but the first
abbrev pub tree_asks : ℕ → ℕ → List Ask
tree_asks zero parent = namespace_ask 0 ∷ []
tree_asks (suc i) parent = namespace_ask (suc i) ∷ hierarchy_ask (suc i) parent ∷ []

-- what lies in the namespace of a place
abbrev pub object_asks : ℕ → List Ask
object_asks i = role_ask i ∷ pod_ask i ∷ []

-- the tree of so many namespaces, and then what lies in each
unfoldable pub asks_of : ℕ → ℕ → List Ask
asks_of number count = flat_map (λ i. tree_asks i (parent_of number i)) (range_with_len 0 count) ++ flat_map object_asks (range_with_len 0 count)

-- the first of the asks, and those behind it. None is behind none
abbrev pub IsNext : Option Ask → List Ask → List Ask → Type 0
IsNext None old new = (old ≡ []) × (new ≡ [])
IsNext (Some ask) old new = old ≡ ask ∷ new
