-- The texts of small stores, computed. Each expected value is written out.
--     tree        acme over team over app
--     ring        a and b name each other, and c lies under b
use Rattle.std.specs.Prelude.{codes}
use Rattle.std.proofs.Common.{◌≡◌, ℕ, Bool, true, false, List, [], ◌∷◌, None, Some, refl}
use Rattle.std.specs.Fmt.{digits}
use Rattle.hx_object.specs.WellKnown.{inherited_from, subnamespace_of}
use Rattle.hx_object.specs.declared.kind.Kind.{Kind}
use Rattle.hx_object.specs.declared.kind.Kind.TheVariants.{HierarchicalResourceQuota, SubnamespaceAnchor, ConfigMap, Secret, Pod}
use Rattle.hx_object.specs.declared.object.Limit.{Limit}
use Rattle.hx_object.specs.declared.object.Object.{Object}
use Rattle.hx_object.specs.declared.object.Payload.{Payload}
use Rattle.hx_object.specs.declared.object.Payload.TheVariants.{Namespace as NamespaceOf, Hierarchy, Anchor, Quota, Plain}
use Rattle.hx_object.specs.Quantities.{quantity_text}
use Rattle.hx_model.specs.Charges.{resource_named, charge_of}
use Rattle.hx_model.specs.Limits.{is_copy}
use Rattle.hx_model.specs.State.{Objects, ascends, namespace_id}
use Rattle.hx_model.specs.Tree.{hierarchy_id}
use Rattle.hx_report.specs.Describing.{describe_text}
use Rattle.hx_report.specs.Sums.{quota_text, used_below}
use Rattle.hx_report.specs.Trees.{tree_text}

-- ---- objects

abbrev acme : List ℕ
acme = codes "acme"

abbrev team : List ℕ
team = codes "team"

abbrev app : List ℕ
app = codes "app"

abbrev a : List ℕ
a = codes "a"

abbrev b : List ℕ
b = codes "b"

abbrev c : List ℕ
c = codes "c"

abbrev ab : List ℕ
ab = codes "ab"

-- a namespace, by whether it is on its way out
abbrev space : List ℕ → Bool → Object
space name terminating = record { id = namespace_id name; labels = []; annotations = []; payload = NamespaceOf terminating; version = 1 }

abbrev live : List ℕ → Object
live name = space name false

-- a namespace with the annotation of a subnamespace
abbrev sub : List ℕ → List ℕ → Object
sub name parent = record (live name) { annotations = (subnamespace_of, parent) ∷ [] }

-- a HierarchyConfiguration that names a parent
abbrev under : List ℕ → List ℕ → Object
under ns parent = record { id = hierarchy_id ns; labels = []; annotations = []; payload = Hierarchy (Some parent) false [] []; version = 1 }

abbrev holds : Kind → List ℕ → List ℕ → Payload → Object
holds kind ns name payload = record { id = record { kind = kind; ns = ns; name = name }; labels = []; annotations = []; payload = payload; version = 1 }

abbrev anchor : List ℕ → List ℕ → Object
anchor ns name = holds SubnamespaceAnchor ns name (Anchor None)

abbrev plain : Payload
plain = Plain (codes "{}") (record { finished = false; token = false; storage = 0; containers = [] })

abbrev copy : Object → Object
copy x = record x { labels = (inherited_from, acme) ∷ [] }

abbrev limit : List ℕ → ℕ → Limit
limit resource amount = record { resource = resource; written = []; amount = amount }

abbrev quota : List ℕ → List ℕ → List Limit → Object
quota ns name hard = holds HierarchicalResourceQuota ns name (Quota hard [])

-- a Pod that asks for so many thousandths of a processor
abbrev pod : List ℕ → List ℕ → ℕ → Object
pod ns name cpu = holds Pod ns name (Plain (codes "{}") (record { finished = false; token = false; storage = 0; containers = record { init = false; asks = Some cpu ∷ None ∷ None ∷ None ∷ [] } ∷ [] }))

-- ---- acme over team over app

abbrev tree : Objects
tree = live acme ∷ live app ∷ live team ∷ under app team ∷ under team acme ∷ []

tree_in_order : ascends tree ≡ true
tree_in_order = refl

tree_printed : tree_text [] tree ≡ codes "acme\n  team\n    app\n"
unfolding tree_text
tree_printed = refl

app_described : describe_text [] tree app ≡ codes "namespace app\nparent team\nchildren -\nconditions -\ndepth 2\nsources 0\ncopies 0\n"
unfolding describe_text is_copy digits
app_described = refl

acme_described : describe_text [] tree acme ≡ codes "namespace acme\nparent -\nchildren team\nconditions -\ndepth 0\nsources 0\ncopies 0\n"
unfolding describe_text is_copy digits
acme_described = refl

-- no namespace at all
nothing_printed : tree_text [] [] ≡ []
unfolding tree_text
nothing_printed = refl

-- ---- rings

abbrev ring : Objects
ring = live a ∷ live b ∷ live c ∷ under a b ∷ under b a ∷ under c b ∷ []

ring_in_order : ascends ring ≡ true
ring_in_order = refl

-- each member stands at level 0, with what hangs below it outside the ring
ring_printed : tree_text [] ring ≡ codes "a (InCycle)\nb (InCycle)\n  c (AncestorHaltActivities)\n"
unfolding tree_text
ring_printed = refl

b_described : describe_text [] ring b ≡ codes "namespace b\nparent a\nchildren a c\nconditions InCycle\ndepth 1\nsources 0\ncopies 0\n"
unfolding describe_text is_copy digits
b_described = refl

-- a namespace that is its own parent, with one below
abbrev own : Objects
own = live a ∷ live b ∷ under a a ∷ under b a ∷ []

own_in_order : ascends own ≡ true
own_in_order = refl

own_printed : tree_text [] own ≡ codes "a (InCycle)\n  b (AncestorHaltActivities)\n"
unfolding tree_text
own_printed = refl

-- ---- parents

-- one that isn't there
missing_printed : tree_text [] (live b ∷ live c ∷ under b a ∷ under c b ∷ []) ≡ codes "b (ParentMissing)\n  c (AncestorHaltActivities)\n"
unfolding tree_text
missing_printed = refl

-- one that is excluded
excluded_printed : tree_text (a ∷ []) (live a ∷ live b ∷ under b a ∷ []) ≡ codes "a\n  b (IllegalParent)\n"
unfolding tree_text
excluded_printed = refl

-- an excluded one is told why it is halted as well
excluded_child_printed : tree_text (b ∷ []) (live b ∷ under b a ∷ []) ≡ codes "b (ParentMissing)\n"
unfolding tree_text
excluded_child_printed = refl

-- one that is on its way out
ending_printed : tree_text [] (space a true ∷ live b ∷ under b a ∷ []) ≡ codes "a\n  b (ParentMissing)\n"
unfolding tree_text
ending_printed = refl

-- a child that is on its way out is a child
ending_child_described : describe_text [] (live a ∷ space b true ∷ live c ∷ under b a ∷ under c a ∷ []) a ≡ codes "namespace a\nparent -\nchildren b c\nconditions -\ndepth 0\nsources 0\ncopies 0\n"
unfolding describe_text is_copy digits
ending_child_described = refl

-- ---- subnamespaces

-- with its anchor
anchored_printed : tree_text [] (live a ∷ sub b a ∷ anchor a b ∷ []) ≡ codes "a\n  [s] b\n"
unfolding tree_text
anchored_printed = refl

-- without it
unanchored_printed : tree_text [] (live a ∷ sub b a ∷ []) ≡ codes "a\n  [s] b (SubnamespaceAnchorMissing)\n"
unfolding tree_text
unanchored_printed = refl

-- it is halted, too: its parent is in a ring
both_printed : tree_text [] (live a ∷ sub b a ∷ under a a ∷ []) ≡ codes "a (InCycle)\n  [s] b (AncestorHaltActivities) (SubnamespaceAnchorMissing)\n"
unfolding tree_text
both_printed = refl

both_described : describe_text [] (live a ∷ sub b a ∷ under a a ∷ []) b ≡ codes "namespace b\nparent a\nchildren -\nconditions AncestorHaltActivities SubnamespaceAnchorMissing\ndepth 1\nsources 0\ncopies 0\n"
unfolding describe_text is_copy digits
both_described = refl

-- ---- names

-- names that others begin with
prefixes_printed : tree_text [] (live a ∷ live ab ∷ live b ∷ under a b ∷ under ab b ∷ []) ≡ codes "b\n  a\n  ab\n"
unfolding tree_text
prefixes_printed = refl

-- ---- sources and copies

-- objects of other kinds, and those of other namespaces, are none of them
counted_described : describe_text [] (live a ∷ live ab ∷ holds ConfigMap a b plain ∷ copy (holds ConfigMap a c plain) ∷ holds ConfigMap ab b plain ∷ holds Secret a b plain ∷ pod a b 250 ∷ []) a ≡ codes "namespace a\nparent -\nchildren -\nconditions -\ndepth 0\nsources 2\ncopies 1\n"
unfolding describe_text is_copy digits
counted_described = refl

-- ---- quotas

abbrev pods : List ℕ
pods = codes "pods"

abbrev counted : Objects
counted = live acme ∷ live app ∷ live team ∷ under app team ∷ under team acme ∷ quota acme (codes "wide") (limit pods 10000 ∷ []) ∷ quota team (codes "few") (limit pods 3000 ∷ []) ∷ pod app a 250 ∷ pod app b 250 ∷ pod app c 250 ∷ []

counted_in_order : ascends counted ≡ true
counted_in_order = refl

quotas_printed : quota_text [] counted ≡ codes "acme wide pods 3 10\nteam few pods 3 3\n"
unfolding quota_text used_below resource_named charge_of is_copy quantity_text digits
quotas_printed = refl

-- two quotas on one resource, by two of its names, and one on a name that stands for no resource; parts of a unit are printed in thousandths
abbrev shared : Objects
shared = live a ∷ quota a (codes "q") (limit (codes "cpu") 500 ∷ limit (codes "gone") 1000 ∷ []) ∷ quota a (codes "r") (limit (codes "requests.cpu") 2000 ∷ []) ∷ pod a b 250 ∷ []

shared_printed : quota_text [] shared ≡ codes "a q cpu 250m 500m\na q gone 0 1\na r requests.cpu 250m 2\n"
unfolding quota_text used_below resource_named charge_of is_copy quantity_text digits
shared_printed = refl

-- in a ring each member counts what all hold
ringed_printed : quota_text [] (live a ∷ live b ∷ under a b ∷ under b a ∷ quota b (codes "q") (limit pods 1000 ∷ []) ∷ pod a c 0 ∷ pod b c 0 ∷ []) ≡ codes "b q pods 2 1\n"
unfolding quota_text used_below resource_named charge_of is_copy quantity_text digits
ringed_printed = refl

-- no quota at all
none_printed : quota_text [] tree ≡ []
unfolding quota_text
none_printed = refl
