-- The paths that are served, and the methods that each takes.
--     parts_of path              the parts of a path, between its slashes
--     resource_of path           the objects that a path names, its segments as they were sent
--     named_by path              what a path names: these, or a document
--     allows resource method     the resource takes the method
--     decoded_resource resource  the resource with its segments decoded, where they are UTF-8 then
-- The prefix of a kind is `/api/` or, where its `apiVersion` has a group, `/apis/`, and then that `apiVersion`.
use Rattle.std.specs.Prelude.{ℕ, Bool, true, false, not, ◌&&◌, ◌==◌, List, [], ◌∷◌, codes, Option, Some, None, option_and_then, option_map, if◌then◌else◌}
use Rattle.std.specs.Option.{option_or}
use Rattle.hx_discovery.specs.Documents.{document_on}
use Rattle.std.specs.List.{slice_split}
use Rattle.std.specs.Str.{bytes_eq, is_utf8}
use Rattle.percent_encoding.specs.Percent.{percent_decode}
use Rattle.hx_object.specs.Kinds.{api_version_of, is_in_cluster, kind_of_plural}
use Rattle.hx_object.specs.Names.{slash}
use Rattle.hx_object.specs.declared.kind.Kind.{Kind}
use Rattle.hx_model.specs.First.{so}
use Rattle.hx_http.specs.declared.method.Method.{Method}
use Rattle.hx_http.specs.declared.method.Method.TheVariants.{Get, Post, Put, Delete}
use Rattle.hx_api.specs.declared.resource_path.ResourcePath.{ResourcePath}
use Rattle.hx_api.specs.declared.resource_path.ResourcePath.TheVariants.{Events, Document, Collection, Object}

-- ---- parts

abbrev pub is_slash : ℕ → Bool
is_slash byte = byte == slash

-- the parts of a path, between its slashes
abbrev pub parts_of : List ℕ → List (List ℕ)
parts_of path = slice_split is_slash path

abbrev pub is_blank : List ℕ → Bool
is_blank [] = true
is_blank (byte ∷ text) = false

-- two lists of texts are equal
abbrev pub same_parts : List (List ℕ) → List (List ℕ) → Bool
same_parts [] [] = true
same_parts (x ∷ xs) (y ∷ ys) = bytes_eq x y && same_parts xs ys
same_parts _ _ = false

-- ---- kinds

-- the kind is served under these parts of a version
abbrev pub is_served_under : List (List ℕ) → Kind → Bool
is_served_under version kind = same_parts (parts_of (api_version_of kind)) version

-- the kind of a plural, where it is served under these parts of a version
abbrev pub kind_under : List (List ℕ) → List ℕ → Option Kind
kind_under version plural = option_and_then (λ kind. so (is_served_under version kind) kind) (kind_of_plural plural)

-- such a kind, whose objects lie in no namespace
abbrev pub cluster_kind : List (List ℕ) → List ℕ → Option Kind
cluster_kind version plural = option_and_then (λ kind. so (is_in_cluster kind) kind) (kind_under version plural)

-- such a kind, whose objects lie in namespaces
abbrev pub namespaced_kind : List (List ℕ) → List ℕ → Option Kind
namespaced_kind version plural = option_and_then (λ kind. so (not (is_in_cluster kind)) kind) (kind_under version plural)

-- ---- places

-- the part before a namespace
abbrev pub is_namespaces : List ℕ → Bool
is_namespaces word = bytes_eq word (codes "namespaces")

-- the objects of a kind in all namespaces or in none
abbrev pub collection : List (List ℕ) → List ℕ → Option (ResourcePath (List ℕ))
collection version plural = option_map (λ kind. Collection kind None) (kind_under version plural)

-- an object in no namespace
abbrev pub cluster_object : List (List ℕ) → List ℕ → List ℕ → Option (ResourcePath (List ℕ))
cluster_object version plural name =
    if is_blank name then None else option_map (λ kind. Object kind None name) (cluster_kind version plural)

-- the objects of a kind in a namespace
abbrev pub collection_in : List (List ℕ) → List ℕ → List ℕ → Option (ResourcePath (List ℕ))
collection_in version ns plural =
    if is_blank ns then None else option_map (λ kind. Collection kind (Some ns)) (namespaced_kind version plural)

-- an object in a namespace
abbrev pub object_in : List (List ℕ) → List ℕ → List ℕ → List ℕ → Option (ResourcePath (List ℕ))
object_in version ns plural name =
    if is_blank ns then None
    else (if is_blank name then None else option_map (λ kind. Object kind (Some ns) name) (namespaced_kind version plural))

-- what the parts behind a prefix name
abbrev pub resource_under : List (List ℕ) → List (List ℕ) → Option (ResourcePath (List ℕ))
resource_under version (plural ∷ []) = collection version plural
resource_under version (plural ∷ name ∷ []) = cluster_object version plural name
resource_under version (word ∷ ns ∷ plural ∷ []) = if is_namespaces word then collection_in version ns plural else None
resource_under version (word ∷ ns ∷ plural ∷ name ∷ []) = if is_namespaces word then object_in version ns plural name else None
resource_under version _ = None

-- behind `/api`, the version of the core group
abbrev pub core_resource : List (List ℕ) → Option (ResourcePath (List ℕ))
core_resource (version ∷ parts) = resource_under (version ∷ []) parts
core_resource _ = None

-- behind `/apis`, a group and its version
abbrev pub group_resource : List (List ℕ) → Option (ResourcePath (List ℕ))
group_resource (group ∷ version ∷ parts) = resource_under (group ∷ version ∷ []) parts
group_resource _ = None

-- behind `/hnc`, the feed of events
abbrev pub feed_resource : List (List ℕ) → Option (ResourcePath (List ℕ))
feed_resource parts = so (same_parts parts (codes "v1" ∷ codes "events" ∷ [])) Events

-- by the first part behind the slash that a path begins with
abbrev pub root_resource : List ℕ → List (List ℕ) → Option (ResourcePath (List ℕ))
root_resource word parts =
    if bytes_eq word (codes "api") then core_resource parts
    else (if bytes_eq word (codes "apis") then group_resource parts
    else (if bytes_eq word (codes "hnc") then feed_resource parts else None))

-- what the parts of a path name
abbrev pub resource_of_parts : List (List ℕ) → Option (ResourcePath (List ℕ))
resource_of_parts (root ∷ word ∷ parts) = if is_blank root then root_resource word parts else None
resource_of_parts _ = None

-- the objects that a path names, or the feed, its segments as they were sent
unfoldable pub resource_of : List ℕ → Option (ResourcePath (List ℕ))
resource_of path = resource_of_parts (parts_of path)

-- what a path names: these, or a document
abbrev pub named_by : List ℕ → Option (ResourcePath (List ℕ))
named_by path = option_or (resource_of path) (option_map (λ document. Document document) (document_on path))

-- ---- methods

-- the resource takes the method. Without a namespace only objects of the cluster are made
abbrev pub allows : ResourcePath (List ℕ) → Method → Bool
allows Events Get = true
allows (Document document) Get = true
allows (Collection kind ns) Get = true
allows (Collection kind None) Post = is_in_cluster kind
allows (Collection kind (Some ns)) Post = true
allows (Object kind ns name) Get = true
allows (Object kind ns name) Put = true
allows (Object kind ns name) Delete = true
allows resource method = false

-- ---- segments

-- the text that a segment stands for, if that is UTF-8. A `%` that no two hexadecimal digits follow stands for itself
unfoldable pub segment_text : List ℕ → Option (List ℕ)
segment_text segment = so (is_utf8 (percent_decode segment)) (percent_decode segment)

-- the same of a segment that may be absent
abbrev pub namespace_text : Option (List ℕ) → Option (Option (List ℕ))
namespace_text None = Some None
namespace_text (Some segment) = option_map (λ text. Some text) (segment_text segment)

-- an object, where its segments are UTF-8
abbrev pub decoded_object : Kind → Option (Option (List ℕ)) → Option (List ℕ) → Option (ResourcePath (List ℕ))
decoded_object kind (Some ns) (Some name) = Some (Object kind ns name)
decoded_object kind ns name = None

-- the resource with its segments decoded, where they are UTF-8 then
abbrev pub decoded_resource : ResourcePath (List ℕ) → Option (ResourcePath (List ℕ))
decoded_resource Events = Some Events
decoded_resource (Document document) = Some (Document document)
decoded_resource (Collection kind ns) = option_map (λ text. Collection kind text) (namespace_text ns)
decoded_resource (Object kind ns name) = decoded_object kind (namespace_text ns) (segment_text name)
