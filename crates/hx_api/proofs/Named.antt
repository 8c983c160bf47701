-- The nine routes: a path that one takes is that route's, and one that none takes names nothing.
use Rattle.std.proofs.Common.{◌≡◌, ℕ, List, [], ◌∷◌, Option, Some, None, Bool, true, false, ◌&&◌, refl, sym, ◌∙◌, codes, true≢false}
use Rattle.std.specs.Prelude.{bytes_eq, option_and_then, if◌then◌else◌}
use Rattle.hx_model.specs.First.{so}
use Rattle.std.proofs.lemmas.Slice.Eq.{bytes_eq-Decides}
use Rattle.hx_object.specs.Kinds.{api_version_of, kind_of_plural}
use Rattle.hx_object.specs.declared.kind.Kind.{Kind}
use Rattle.hx_object.specs.declared.kind.Kind.TheVariants.{Namespace, HncConfiguration, HierarchyConfiguration, SubnamespaceAnchor, HierarchicalResourceQuota, Role, RoleBinding, ConfigMap, Secret, NetworkPolicy, LimitRange, Pod, Service, PersistentVolumeClaim}
use Rattle.hx_api.specs.Paths.{cluster_object, collection_in, core_resource, feed_resource, group_resource, is_namespaces, is_served_under, kind_under, object_in, parts_of, resource_of_parts, resource_under, root_resource, same_parts}
use Rattle.hx_api.specs.InsideRoutes.{resource_on}
use Rattle.hx_api.specs.declared.resource_path.ResourcePath.{ResourcePath}
use Rattle.hx_api.specs.declared.routes.Form.{Form}
use Rattle.hx_api.specs.declared.routes.Form.TheVariants.{Collection, Object, CollectionIn, ObjectIn}
use Rattle.hx_api.specs.declared.routes.Route.{Route}
use Rattle.hx_api.specs.declared.routes.Route.TheVariants.{Core, Group, Events}
use Rattle.hx_api.proofs.Pieces.{Piece, takes, taken}

abbrev pub form_pieces : Form → List Piece
form_pieces Collection = None ∷ []
form_pieces Object = None ∷ None ∷ []
form_pieces CollectionIn = Some (codes "namespaces") ∷ None ∷ None ∷ []
form_pieces ObjectIn = Some (codes "namespaces") ∷ None ∷ None ∷ None ∷ []

-- the parts of a route's paths behind the first slash
abbrev pub pieces_of : Route → List Piece
pieces_of (Core form) = Some (codes "api") ∷ Some (codes "v1") ∷ form_pieces form
pieces_of (Group form) = Some (codes "apis") ∷ None ∷ None ∷ form_pieces form
pieces_of Events = Some (codes "hnc") ∷ Some (codes "v1") ∷ Some (codes "events") ∷ []

-- ---- a route takes the path

abbrev Named : Route → List (List ℕ) → Type 0
Named route parts = resource_on route parts ≡ resource_of_parts parts

pub named : (route : Route) (parts : List (List ℕ)) → takes (Some [] ∷ pieces_of route) parts ≡ true → resource_on route parts ≡ resource_of_parts parts
named (Core Collection) = taken (Some [] ∷ pieces_of (Core Collection)) (Named (Core Collection)) (λ plural. refl)
named (Core Object) = taken (Some [] ∷ pieces_of (Core Object)) (Named (Core Object)) (λ plural name. refl)
named (Core CollectionIn) = taken (Some [] ∷ pieces_of (Core CollectionIn)) (Named (Core CollectionIn)) (λ ns plural. refl)
named (Core ObjectIn) = taken (Some [] ∷ pieces_of (Core ObjectIn)) (Named (Core ObjectIn)) (λ ns plural name. refl)
named (Group Collection) = taken (Some [] ∷ pieces_of (Group Collection)) (Named (Group Collection)) (λ group version plural. refl)
named (Group Object) = taken (Some [] ∷ pieces_of (Group Object)) (Named (Group Object)) (λ group version plural name. refl)
named (Group CollectionIn) = taken (Some [] ∷ pieces_of (Group CollectionIn)) (Named (Group CollectionIn)) (λ group version ns plural. refl)
named (Group ObjectIn) = taken (Some [] ∷ pieces_of (Group ObjectIn)) (Named (Group ObjectIn)) (λ group version ns plural name. refl)
named Events = taken (Some [] ∷ pieces_of Events) (Named Events) refl

-- ---- versions that serve no kind

by_version : (Q : List (List ℕ) → Type 0) → Q (codes "v1" ∷ []) → Q (codes "hnc.x-k8s.io" ∷ codes "v1alpha2" ∷ []) → Q (codes "rbac.authorization.k8s.io" ∷ codes "v1" ∷ []) → Q (codes "networking.k8s.io" ∷ codes "v1" ∷ [])
    → (kind : Kind) → Q (parts_of (api_version_of kind))
by_version Q core own roles net Namespace = core
by_version Q core own roles net HncConfiguration = own
by_version Q core own roles net HierarchyConfiguration = own
by_version Q core own roles net SubnamespaceAnchor = own
by_version Q core own roles net HierarchicalResourceQuota = own
by_version Q core own roles net Role = roles
by_version Q core own roles net RoleBinding = roles
by_version Q core own roles net ConfigMap = core
by_version Q core own roles net Secret = core
by_version Q core own roles net NetworkPolicy = net
by_version Q core own roles net LimitRange = core
by_version Q core own roles net Pod = core
by_version Q core own roles net Service = core
by_version Q core own roles net PersistentVolumeClaim = core

and_false : (u : Bool) → (u && false) ≡ false
and_false true = refl
and_false false = refl

abbrev IsUnserved : List (List ℕ) → Type 0
IsUnserved version = (kind : Kind) → is_served_under version kind ≡ false

other_core : (version : List ℕ) → bytes_eq version (codes "v1") ≡ false → IsUnserved (version ∷ [])
other_core version other =
    by_version (λ own. same_parts own (version ∷ []) ≡ false) (by (bytes_eq (codes "v1") version) refl) (and_false _) (and_false _) (and_false _)
  where
    by : (v : Bool) → bytes_eq (codes "v1") version ≡ v → (v && true) ≡ false
    by true is = absurd (true≢false (sym ((bytes_eq-Decides version (codes "v1")).1 (sym ((bytes_eq-Decides (codes "v1") version).0 is))) ∙ other))
    by false is = refl

no_group : (version : List ℕ) → IsUnserved ([] ∷ version ∷ [])
no_group version = by_version (λ own. same_parts own ([] ∷ version ∷ []) ≡ false) refl refl refl refl

no_version : (group : List ℕ) → IsUnserved (group ∷ [] ∷ [])
no_version group = by_version (λ own. same_parts own (group ∷ [] ∷ []) ≡ false) (and_false _) (and_false _) (and_false _) (and_false _)

no_kind : (version : List (List ℕ)) → IsUnserved version → (plural : List ℕ) → kind_under version plural ≡ None
no_kind version unserved plural = by (kind_of_plural plural)
  where
    by : (kind : Option Kind) → option_and_then (λ kind. so (is_served_under version kind) kind) kind ≡ None
    by None = refl
    by (Some kind) = rw (unserved kind) refl

only : (u : Bool) (resource : Option (ResourcePath (List ℕ))) → (u ≡ true → resource ≡ None) → (if u then resource else None) ≡ None
only true resource none = none refl
only false resource none = refl

no_object : (version : List (List ℕ)) (plural name : List ℕ) → kind_under version plural ≡ None → cluster_object version plural name ≡ None
no_object version plural [] none = refl
no_object version plural (c ∷ name) none = rw none refl

no_collection_in : (version : List (List ℕ)) (ns plural : List ℕ) → kind_under version plural ≡ None → collection_in version ns plural ≡ None
no_collection_in version [] plural none = refl
no_collection_in version (c ∷ ns) plural none = rw none refl

no_object_in : (version : List (List ℕ)) (ns plural name : List ℕ) → kind_under version plural ≡ None → object_in version ns plural name ≡ None
no_object_in version [] plural name none = refl
no_object_in version (c ∷ ns) plural [] none = refl
no_object_in version (c ∷ ns) plural (d ∷ name) none = rw none refl

unserved_under : (version : List (List ℕ)) → IsUnserved version → (parts : List (List ℕ)) → resource_under version parts ≡ None
unserved_under version unserved [] = refl
unserved_under version unserved (plural ∷ []) = rw (no_kind version unserved plural) refl
unserved_under version unserved (plural ∷ name ∷ []) = no_object version plural name (no_kind version unserved plural)
unserved_under version unserved (word ∷ ns ∷ plural ∷ []) = only (is_namespaces word) _ (λ is. no_collection_in version ns plural (no_kind version unserved plural))
unserved_under version unserved (word ∷ ns ∷ plural ∷ name ∷ []) = only (is_namespaces word) _ (λ is. no_object_in version ns plural name (no_kind version unserved plural))
unserved_under version unserved (word ∷ ns ∷ plural ∷ name ∷ more ∷ parts) = refl

-- ---- no route takes the path

past : (u v : Bool) → u ≡ true → (u && v) ≡ false → v ≡ false
past true v is h = h
past false v is h = absurd (true≢false (sym is))

abbrev LacksForms : List (List ℕ) → Type 0
LacksForms parts = (form : Form) → takes (form_pieces form) parts ≡ false

-- a namespace, a plural and maybe a name, one of which is empty
lacks_in : (version : List (List ℕ)) (ns plural : List ℕ) → takes (None ∷ None ∷ []) (ns ∷ plural ∷ []) ≡ false → collection_in version ns plural ≡ None
lacks_in version [] plural h = refl
lacks_in version (c ∷ ns) [] h = refl
lacks_in version (c ∷ ns) (d ∷ plural) h = absurd (true≢false h)

lacks_object_in : (version : List (List ℕ)) (ns plural name : List ℕ) → takes (None ∷ None ∷ None ∷ []) (ns ∷ plural ∷ name ∷ []) ≡ false → object_in version ns plural name ≡ None
lacks_object_in version [] plural name h = refl
lacks_object_in version (c ∷ ns) plural [] h = refl
lacks_object_in version (c ∷ ns) [] (e ∷ name) h = refl
lacks_object_in version (c ∷ ns) (d ∷ plural) (e ∷ name) h = absurd (true≢false h)

lacks_under : (version : List (List ℕ)) (parts : List (List ℕ)) → LacksForms parts → resource_under version parts ≡ None
lacks_under version [] lacks = refl
lacks_under version ([] ∷ []) lacks = refl
lacks_under version ((c ∷ plural) ∷ []) lacks = absurd (true≢false (lacks Collection))
lacks_under version (plural ∷ [] ∷ []) lacks = refl
lacks_under version ([] ∷ (d ∷ name) ∷ []) lacks = refl
lacks_under version ((c ∷ plural) ∷ (d ∷ name) ∷ []) lacks = absurd (true≢false (lacks Object))
lacks_under version (word ∷ ns ∷ plural ∷ []) lacks = only (is_namespaces word) _ (λ is. lacks_in version ns plural (past _ _ is (lacks CollectionIn)))
lacks_under version (word ∷ ns ∷ plural ∷ name ∷ []) lacks = only (is_namespaces word) _ (λ is. lacks_object_in version ns plural name (past _ _ is (lacks ObjectIn)))
lacks_under version (word ∷ ns ∷ plural ∷ name ∷ more ∷ parts) lacks = refl

lacks_core : (parts : List (List ℕ)) → ((form : Form) → takes (Some (codes "v1") ∷ form_pieces form) parts ≡ false) → core_resource parts ≡ None
lacks_core [] lacks = refl
lacks_core (version ∷ parts) lacks = by (bytes_eq version (codes "v1")) refl
  where
    by : (v : Bool) → bytes_eq version (codes "v1") ≡ v → resource_under (version ∷ []) parts ≡ None
    by true is = lacks_under (version ∷ []) parts (λ form. past _ _ is (lacks form))
    by false other = unserved_under (version ∷ []) (other_core version other) parts

lacks_group : (parts : List (List ℕ)) → ((form : Form) → takes (None ∷ None ∷ form_pieces form) parts ≡ false) → group_resource parts ≡ None
lacks_group [] lacks = refl
lacks_group (group ∷ []) lacks = refl
lacks_group ([] ∷ version ∷ parts) lacks = unserved_under ([] ∷ version ∷ []) (no_group version) parts
lacks_group ((c ∷ group) ∷ [] ∷ parts) lacks = unserved_under ((c ∷ group) ∷ [] ∷ []) (no_version (c ∷ group)) parts
lacks_group ((c ∷ group) ∷ (d ∷ version) ∷ parts) lacks = lacks_under ((c ∷ group) ∷ (d ∷ version) ∷ []) parts lacks

lacks_feed : (parts : List (List ℕ)) → takes (Some (codes "v1") ∷ Some (codes "events") ∷ []) parts ≡ false → feed_resource parts ≡ None
lacks_feed [] lacks = refl
lacks_feed (version ∷ []) lacks = rw (and_false (bytes_eq version (codes "v1"))) refl
lacks_feed (version ∷ word ∷ []) lacks = rw lacks refl
lacks_feed (version ∷ word ∷ more ∷ parts) lacks = rw lacks refl

either : (u v w : Bool) (a b c : Option (ResourcePath (List ℕ))) → (u ≡ true → a ≡ None) → (v ≡ true → b ≡ None) → (w ≡ true → c ≡ None)
    → (if u then a else (if v then b else (if w then c else None))) ≡ None
either true v w a b c no_a no_b no_c = no_a refl
either false true w a b c no_a no_b no_c = no_b refl
either false false true a b c no_a no_b no_c = no_c refl
either false false false a b c no_a no_b no_c = refl

lacks_root : (word : List ℕ) (parts : List (List ℕ)) → ((route : Route) → takes (pieces_of route) (word ∷ parts) ≡ false) → root_resource word parts ≡ None
lacks_root word parts lacks =
    either _ _ _ _ _ _ (λ is. lacks_core parts (λ form. past _ _ is (lacks (Core form))))
    (λ is. lacks_group parts (λ form. past _ _ is (lacks (Group form))))
    (λ is. lacks_feed parts (past _ _ is (lacks Events)))

pub nameless : (parts : List (List ℕ)) → ((route : Route) → takes (Some [] ∷ pieces_of route) parts ≡ false) → resource_of_parts parts ≡ None
nameless [] lacks = refl
nameless (root ∷ []) lacks = refl
nameless ((c ∷ root) ∷ word ∷ parts) lacks = refl
nameless ([] ∷ word ∷ parts) lacks = lacks_root word parts lacks
