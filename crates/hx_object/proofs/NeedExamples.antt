-- What the members of Pods and claims say, on examples. Each value is worked out by hand.
use Prim.Native.String.{String}
use Rattle.std.specs.Prelude.{◌≡◌, true, false, List, [], ◌∷◌, codes, Some, None, refl}
use Rattle.std.specs.Fmt.{digits}
use Rattle.serde_json.specs.Data.{Data, null, number, unsigned, string, array, object, no_items, item, Members, no_members, member}
use Rattle.hx_object.specs.Needs.{amount_in, need_of, written_in}
use Rattle.hx_object.specs.Quantities.{factor_of, quantity_of}
use Rattle.hx_object.specs.declared.kind.Kind.TheVariants.{Pod, PersistentVolumeClaim}
use Rattle.hx_object.specs.declared.object.Container.{Container}

abbrev text : String → Data
text s = string (codes s)

-- an object of one member
abbrev only : String → Data → Data
only name d = object (member (codes name) d no_members)

-- a container's resources
abbrev requesting : Data → Data
requesting asked = only "resources" (only "requests" asked)

abbrev limited : Data → Data
limited asked = only "resources" (only "limits" asked)

-- ---- quantities in JSON

number_is_decimal : written_in (number (unsigned 10)) ≡ Some (codes "10")
unfolding digits
number_is_decimal = refl

number_is_whole : amount_in (number (unsigned 10)) ≡ Some 10000
unfolding digits quantity_of factor_of
number_is_whole = refl

text_is_quantity : amount_in (text "0.5") ≡ Some 500
unfolding quantity_of factor_of
text_is_quantity = refl

null_is_none : amount_in null ≡ None
null_is_none = refl

-- ---- Pods

-- a request that isn't there is the limit; one that is null isn't there
abbrev containers : Data
containers = array (item (requesting (only "cpu" (text "250m"))) (item (limited (object (member (codes "cpu") (text "0.5") (member (codes "memory") (number (unsigned 1024)) no_members)))) (item (requesting (only "cpu" null)) no_items)))

abbrev init_containers : Data
init_containers = array (item (requesting (only "cpu" (text "1"))) no_items)

abbrev pod_with : String → Members
pod_with phase =
    member (codes "spec") (object (member (codes "containers") containers (member (codes "initContainers") init_containers no_members))) (member (codes "status") (only "phase" (text phase)) no_members)

abbrev asked_for : List Container
asked_for =
    (record { init = false; asks = Some 250 ∷ None ∷ None ∷ None ∷ [] })
    ∷ (record { init = false; asks = Some 500 ∷ Some 1024000 ∷ Some 500 ∷ Some 1024000 ∷ [] })
    ∷ (record { init = false; asks = None ∷ None ∷ None ∷ None ∷ [] })
    ∷ (record { init = true; asks = Some 1000 ∷ None ∷ None ∷ None ∷ [] })
    ∷ []

running_pod : need_of Pod (pod_with "Running") ≡ record { finished = false; token = false; storage = 0; containers = asked_for }
unfolding digits quantity_of factor_of
running_pod = refl

finished_pod : need_of Pod (pod_with "Succeeded") ≡ record { finished = true; token = false; storage = 0; containers = asked_for }
unfolding digits quantity_of factor_of
finished_pod = refl

empty_pod : need_of Pod no_members ≡ record { finished = false; token = false; storage = 0; containers = [] }
empty_pod = refl

-- ---- claims

abbrev claim_of : Data → Members
claim_of asked = member (codes "spec") (only "resources" (only "requests" asked)) no_members

claim : need_of PersistentVolumeClaim (claim_of (only "storage" (text "5Ki"))) ≡ record { finished = false; token = false; storage = 5120000; containers = [] }
unfolding quantity_of factor_of
claim = refl

claim_of_nothing : need_of PersistentVolumeClaim (claim_of (only "storage" null)) ≡ record { finished = false; token = false; storage = 0; containers = [] }
claim_of_nothing = refl
