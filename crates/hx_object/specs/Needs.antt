-- What quotas and propagation need to know of the members of Secrets, Pods and claims.
--     amount_in d      the amount, in thousandths, of a value that is a quantity: a text, or a whole number that isn't negative
--     written_in d     such a value as a text
--     need_of k ms     what the members of a plain kind say
-- These are Kubernetes' `type` of a Secret, `status.phase` and the resources of the containers of a Pod, and the storage of a PersistentVolumeClaim. Wherever a member isn't of its form, it says nothing.
use Rattle.std.specs.Prelude.{ℕ, Bool, true, false, ◌||◌, List, [], ◌∷◌, ◌++◌, codes, Option, Some, None, Result, Ok, Err, option_and_then, unwrap_or}
use Rattle.std.specs.Fmt.{decimal}
use Rattle.std.specs.Str.{bytes_eq}
use Rattle.serde_json.specs.Data.{Data, unsigned, number, string, object, Items, no_items, item, Members}
use Rattle.serde_json.specs.Find.{get_member}
use Rattle.hx_object.specs.Quantities.{quantity_of}
use Rattle.hx_object.specs.Values.{counted_member, in_spec, in_status, items_in, text_in}
use Rattle.hx_object.specs.declared.kind.Kind.{Kind}
use Rattle.hx_object.specs.declared.kind.Kind.TheVariants.{Secret, Pod, PersistentVolumeClaim}
use Rattle.hx_object.specs.declared.object.Container.{Container}
use Rattle.hx_object.specs.declared.object.Need.{Need}
use Rattle.hx_object.specs.declared.quantity.QuantityFault.{QuantityFault}

-- ---- quantities in JSON

-- what was read, where it was
abbrev pub if_ok : Result ℕ QuantityFault → Option ℕ
if_ok (Ok amount) = Some amount
if_ok (Err fault) = None

-- a value that may be a quantity, as a text
abbrev pub written_in : Data → Option (List ℕ)
written_in (string text) = Some text
written_in (number (unsigned n)) = Some (decimal n)
written_in _ = None

-- the amount of a text that is a quantity
abbrev pub amount_of_text : List ℕ → Option ℕ
amount_of_text text = if_ok (quantity_of text)

-- the amount of a value that is a quantity
abbrev pub amount_in : Data → Option ℕ
amount_in d = option_and_then amount_of_text (written_in d)

-- the amount of a member, where it is there and is a quantity
abbrev pub amount_at : List ℕ → Data → Option ℕ
amount_at name d = option_and_then amount_in (counted_member name d)

-- ---- Secrets

abbrev pub token_type : List ℕ
token_type = codes "kubernetes.io/service-account-token"

abbrev pub is_token : Option Data → Bool
is_token (Some (string text)) = bytes_eq text token_type
is_token _ = false

-- ---- Pods

-- a phase in which a Pod's containers have ended
abbrev pub is_end : Option (List ℕ) → Bool
is_end None = false
is_end (Some phase) = bytes_eq phase (codes "Succeeded") || bytes_eq phase (codes "Failed")

-- what a container asks for of one resource, under `requests` or `limits`
abbrev pub asked_in : List ℕ → List ℕ → Data → Option ℕ
asked_in part resource container = option_and_then (amount_at resource) (option_and_then (counted_member part) (counted_member (codes "resources") container))

-- the first of two that is there
abbrev pub either : Option ℕ → Option ℕ → Option ℕ
either (Some amount) other = Some amount
either None other = other

-- a request that isn't there is the limit on the same resource
abbrev pub request_in : List ℕ → Data → Option ℕ
request_in resource container = either (asked_in (codes "requests") resource container) (asked_in (codes "limits") resource container)

-- what a container asks for
abbrev pub asks_in : Data → List (Option ℕ)
asks_in container = request_in (codes "cpu") container ∷ request_in (codes "memory") container ∷ asked_in (codes "limits") (codes "cpu") container ∷ asked_in (codes "limits") (codes "memory") container ∷ []

abbrev pub container_of : Bool → Data → Container
container_of init container = record { init = init; asks = asks_in container }

abbrev pub containers_of : Bool → Items → List Container
containers_of init no_items = []
containers_of init (item container containers) = container_of init container ∷ containers_of init containers

-- the containers of a Pod, and then its init containers
abbrev pub containers_in : Data → List Container
containers_in d = containers_of false (items_in (in_spec (codes "containers") d)) ++ containers_of true (items_in (in_spec (codes "initContainers") d))

abbrev pub is_finished_in : Data → Bool
is_finished_in d = is_end (text_in (in_status (codes "phase") d))

-- ---- claims

-- what a claim asks for under `spec.resources.requests`
abbrev pub storage_asked : Data → Option ℕ
storage_asked d = option_and_then (amount_at (codes "storage")) (option_and_then (counted_member (codes "requests")) (in_spec (codes "resources") d))

-- ---- all kinds

-- what the members of a plain kind say
abbrev pub need_of : Kind → Members → Need
need_of Secret ms = record { finished = false; token = is_token (get_member (codes "type") ms); storage = 0; containers = [] }
need_of Pod ms = record { finished = is_finished_in (object ms); token = false; storage = 0; containers = containers_in (object ms) }
need_of PersistentVolumeClaim ms = record { finished = false; token = false; storage = unwrap_or (storage_asked (object ms)) 0; containers = [] }
need_of _ ms = record { finished = false; token = false; storage = 0; containers = [] }
