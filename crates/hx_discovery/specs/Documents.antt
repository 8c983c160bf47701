-- The documents in which the server says what it serves, as compact JSON.
--     path_of           where a document is found
--     document_on       the document that is found at a path
--     resource_text     what is said of a kind
--     group_text        what is said of a group
--     patch_text        what the schema says of the path of a kind's objects: their PATCH, by which clients tell that the server looks at each body itself
--     document_text     the text of a document
-- Members stand in byte order of their names.
use Rattle.std.specs.Prelude.{ℕ, Bool, true, false, not, List, [], ◌∷◌, ◌++◌, codes, find, Option, if◌then◌else◌}
use Rattle.std.specs.Str.{bytes_eq}
use Rattle.hx_object.specs.Kinds.{name_of, plural_of, is_in_cluster}
use Rattle.hx_object.specs.declared.kind.Kind.{Kind}
use Rattle.hx_discovery.specs.declared.document.Document.{Document}
use Rattle.hx_discovery.specs.declared.document.Document.TheVariants.{Versions, Groups, Resources, Release, Swagger, Schemas, Schema}
use Rattle.hx_discovery.specs.declared.group.ApiGroup.{ApiGroup}
use Rattle.hx_discovery.specs.declared.group.ApiGroup.TheVariants.{Core, Hnc, Rbac, Networking}
use Rattle.hx_discovery.specs.Groups.{all_groups, group_name, group_version, kinds_of, named_groups, place_of, short_names, version_of}

-- ---- paths

-- where a document is found
abbrev pub path_of : Document → List ℕ
path_of Versions = codes "/api"
path_of Groups = codes "/apis"
path_of (Resources group) = codes "/" ++ place_of group
path_of Release = codes "/version"
path_of Swagger = codes "/openapi/v2"
path_of Schemas = codes "/openapi/v3"
path_of (Schema group) = codes "/openapi/v3/" ++ place_of group

-- all documents
abbrev pub all_documents : List Document
all_documents =
    Versions ∷ Groups ∷ Resources Core ∷ Resources Hnc ∷ Resources Rbac ∷ Resources Networking ∷ Release
    ∷ Swagger ∷ Schemas ∷ Schema Core ∷ Schema Hnc ∷ Schema Rbac ∷ Schema Networking ∷ []

-- the document that is found at a path
unfoldable pub document_on : List ℕ → Option Document
document_on path = find (λ document. bytes_eq path (path_of document)) all_documents

-- ---- parts

-- a comma, where something stands before
abbrev pub comma_if : Bool → List ℕ
comma_if true = codes ","
comma_if false = []

-- the texts of some things, with commas between
abbrev pub listed : {X : Type 0} → (X → List ℕ) → Bool → List X → List ℕ
listed text later [] = []
listed text later (x ∷ xs) = comma_if later ++ (text x ++ listed text true xs)

abbrev pub truth : Bool → List ℕ
truth true = codes "true"
truth false = codes "false"

-- what stands before, between and behind the words that are said of a kind
unfoldable pub kind_head : List ℕ
kind_head = codes "{\"kind\":\""

unfoldable pub plural_head : List ℕ
plural_head = codes "\",\"name\":\""

unfoldable pub scope_head : List ℕ
scope_head = codes "\",\"namespaced\":"

unfoldable pub short_head : List ℕ
short_head = codes ",\"shortNames\":["

unfoldable pub resource_end : List ℕ
resource_end = codes "],\"singularName\":\"\",\"verbs\":[\"create\",\"delete\",\"get\",\"list\",\"update\"]}"

-- its names
unfoldable pub names_text : Kind → List ℕ
names_text kind = kind_head ++ (name_of kind ++ (plural_head ++ plural_of kind))

-- whether its objects lie in namespaces, and its short names
unfoldable pub scope_text : Kind → List ℕ
scope_text kind = scope_head ++ (truth (not (is_in_cluster kind)) ++ (short_head ++ (short_names kind ++ resource_end)))

-- what is said of a kind
unfoldable pub resource_text : Kind → List ℕ
resource_text kind = names_text kind ++ scope_text kind

-- what stands before, between and behind a group's version
unfoldable pub both_head : List ℕ
both_head = codes "{\"groupVersion\":\""

unfoldable pub version_head : List ℕ
version_head = codes "\",\"version\":\""

unfoldable pub preferred_head : List ℕ
preferred_head = codes "\",\"preferredVersion\":"

unfoldable pub versions_head : List ℕ
versions_head = codes ",\"versions\":["

-- its version, with and without the name
unfoldable pub group_version_text : ApiGroup → List ℕ
group_version_text group = both_head ++ (group_version group ++ (version_head ++ (version_of group ++ codes "\"}")))

unfoldable pub group_name_text : ApiGroup → List ℕ
group_name_text group = codes "{\"name\":\"" ++ group_name group

-- the version that is preferred, and all versions: there is one
unfoldable pub group_versions_text : ApiGroup → List ℕ
group_versions_text group = preferred_head ++ (group_version_text group ++ (versions_head ++ (group_version_text group ++ codes "]}")))

-- what is said of a group
unfoldable pub group_text : ApiGroup → List ℕ
group_text group = group_name_text group ++ group_versions_text group

unfoldable pub schema_link : List ℕ
schema_link = codes "\":{\"serverRelativeURL\":\"/openapi/v3/"

-- where the schema of a group is found
unfoldable pub schema_place_text : ApiGroup → List ℕ
schema_place_text group = codes "\"" ++ (place_of group ++ (schema_link ++ (place_of group ++ codes "\"}")))

-- what stands in a path between the version and the plural of a kind
unfoldable pub namespace_part : List ℕ
namespace_part = codes "/namespaces/{namespace}"

abbrev pub behind_place : Kind → List ℕ
behind_place kind = if is_in_cluster kind then [] else namespace_part

-- the path of a kind's objects, in quotes
unfoldable pub path_text : ApiGroup → Kind → List ℕ
path_text group kind = codes "\"/" ++ (place_of group ++ (behind_place kind ++ (codes "/" ++ (plural_of kind ++ codes "/{name}\""))))

-- a PATCH has a parameter `fieldValidation`, and is told of a kind
unfoldable pub patch_head : List ℕ
patch_head = codes ":{\"patch\":{\"parameters\":[{\"in\":\"query\",\"name\":\"fieldValidation\"}],\"responses\":{},\"x-kubernetes-group-version-kind\":{\"group\":\""

unfoldable pub told_kind_head : List ℕ
told_kind_head = codes "\",\"kind\":\""

-- a kind, with its group and version
unfoldable pub told_kind_text : ApiGroup → Kind → List ℕ
told_kind_text group kind = group_name group ++ (told_kind_head ++ (name_of kind ++ (version_head ++ (version_of group ++ codes "\"}}}"))))

-- what the schema says of the path of a kind's objects: that its PATCH has a parameter `fieldValidation`
unfoldable pub patch_text : ApiGroup → Kind → List ℕ
patch_text group kind = path_text group kind ++ (patch_head ++ told_kind_text group kind)

-- ---- documents

-- the versions of the core group
unfoldable pub versions_text : List ℕ
versions_text = codes "{\"kind\":\"APIVersions\",\"serverAddressByClientCIDRs\":[],\"versions\":[\"v1\"]}"

-- the groups that have a name
unfoldable pub groups_head : List ℕ
groups_head = codes "{\"apiVersion\":\"v1\",\"groups\":["

unfoldable pub groups_end : List ℕ
groups_end = codes "],\"kind\":\"APIGroupList\"}"

unfoldable pub groups_text : List ℕ
groups_text = groups_head ++ (listed group_text false named_groups ++ groups_end)

unfoldable pub list_head : List ℕ
list_head = codes "{\"apiVersion\":\"v1\",\"groupVersion\":\""

unfoldable pub resources_head : List ℕ
resources_head = codes "\",\"kind\":\"APIResourceList\",\"resources\":["

unfoldable pub head_of_resources : ApiGroup → List ℕ
head_of_resources group = list_head ++ (group_version group ++ resources_head)

-- the resources of a group
unfoldable pub resources_text : ApiGroup → List ℕ
resources_text group = head_of_resources group ++ (listed resource_text false (kinds_of group) ++ codes "]}")

-- the program's release
unfoldable pub release_text : List ℕ
release_text = codes "{\"buildDate\":\"\",\"compiler\":\"rattle\",\"gitCommit\":\"\",\"gitTreeState\":\"\",\"gitVersion\":\"v0.1.0\",\"goVersion\":\"\",\"major\":\"0\",\"minor\":\"1\",\"platform\":\"\"}"

-- a schema that says nothing of the paths
unfoldable pub swagger_text : List ℕ
swagger_text = codes "{\"info\":{\"title\":\"hnc\",\"version\":\"v0.1.0\"},\"paths\":{},\"swagger\":\"2.0\"}"

-- where the schemas of the groups are found
unfoldable pub schemas_text : List ℕ
schemas_text = codes "{\"paths\":{" ++ (listed schema_place_text false all_groups ++ codes "}}")

-- the schema of a group's paths
unfoldable pub schema_head : List ℕ
schema_head = codes "{\"info\":{\"title\":\"hnc\",\"version\":\"v0.1.0\"},\"openapi\":\"3.0.0\",\"paths\":{"

unfoldable pub schema_text : ApiGroup → List ℕ
schema_text group = schema_head ++ (listed (patch_text group) false (kinds_of group) ++ codes "}}")

-- the text of a document
abbrev pub document_text : Document → List ℕ
document_text Versions = versions_text
document_text Groups = groups_text
document_text (Resources group) = resources_text group
document_text Release = release_text
document_text Swagger = swagger_text
document_text Schemas = schemas_text
document_text (Schema group) = schema_text group
