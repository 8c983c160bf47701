-- The table of routes.
--     table_rows               the rows that the router holds
--     resource_on route parts     what the parts of a path name that took a route
use Rattle.std.specs.Prelude.{ℕ, List, [], ◌∷◌, codes, Option, Some, None, Result, Ok, Err}
use Rattle.std.specs.List.{join_with_byte}
use Rattle.matchit.specs.Rows.{RowsOf}
use Rattle.matchit.specs.Order.{placed}
use Rattle.matchit.specs.Router.{RouteOf, route_from}
use Rattle.matchit.specs.Route.{Scan, parse_route}
use Rattle.matchit.specs.declared.error.InsertError.{InsertError}
use Rattle.hx_object.specs.Names.{slash}
use Rattle.hx_api.specs.Paths.{cluster_object, collection, collection_in, object_in}
use Rattle.hx_api.specs.declared.resource_path.ResourcePath.{ResourcePath}
use Rattle.hx_api.specs.declared.resource_path.ResourcePath.TheVariants as resource
use Rattle.hx_api.specs.declared.routes.Form.{Form}
use Rattle.hx_api.specs.declared.routes.Form.TheVariants.{Collection, Object, CollectionIn, ObjectIn}
use Rattle.hx_api.specs.declared.routes.Route.{Route}
use Rattle.hx_api.specs.declared.routes.Route.TheVariants.{Core, Group, Events}

-- ---- rows

-- a router's patterns, each with its route, in the router's order
abbrev pub Rows : Type 0
Rows = RowsOf (RouteOf Route)

-- the rows with one more, where its pattern was read
abbrev pub with_read : Result Scan InsertError → Route → Rows → Rows
with_read (Ok read) route rows = placed (read.pattern, route_from read route) rows
with_read (Err error) route rows = rows

-- the rows with a route for the paths of a pattern
unfoldable pub added : List ℕ → Route → Rows → Rows
added pattern route rows = with_read (parse_route pattern) route rows

-- the paths of the core group
abbrev pub core_rows : Rows
core_rows =
    added (codes "/api/v1/namespaces/{namespace}/{plural}/{name}") (Core ObjectIn)
    (added (codes "/api/v1/namespaces/{namespace}/{plural}") (Core CollectionIn)
    (added (codes "/api/v1/{plural}/{name}") (Core Object)
    (added (codes "/api/v1/{plural}") (Core Collection) [])))

-- those and the paths of the other groups
abbrev pub group_rows : Rows
group_rows =
    added (codes "/apis/{group}/{version}/namespaces/{namespace}/{plural}/{name}") (Group ObjectIn)
    (added (codes "/apis/{group}/{version}/namespaces/{namespace}/{plural}") (Group CollectionIn)
    (added (codes "/apis/{group}/{version}/{plural}/{name}") (Group Object)
    (added (codes "/apis/{group}/{version}/{plural}") (Group Collection) core_rows)))

-- all paths that are served
abbrev pub table_rows : Rows
table_rows = added (codes "/hnc/v1/events") Events group_rows

-- ---- places

-- the path that has these parts
abbrev pub path_of_parts : List (List ℕ) → List ℕ
path_of_parts parts = join_with_byte slash parts

-- what the parts behind a version name, of which the last goes to the end of the path
abbrev pub resource_behind : List (List ℕ) → Form → List (List ℕ) → Option (ResourcePath (List ℕ))
resource_behind version Collection parts = collection version (path_of_parts parts)
resource_behind version Object (plural ∷ name ∷ parts) = cluster_object version plural (path_of_parts (name ∷ parts))
resource_behind version CollectionIn (word ∷ ns ∷ plural ∷ parts) = collection_in version ns (path_of_parts (plural ∷ parts))
resource_behind version ObjectIn (word ∷ ns ∷ plural ∷ name ∷ parts) = object_in version ns plural (path_of_parts (name ∷ parts))
resource_behind version form parts = None

-- behind a slash and `api`, the version of the core group
abbrev pub core_resource_on : Form → List (List ℕ) → Option (ResourcePath (List ℕ))
core_resource_on form (root ∷ word ∷ version ∷ parts) = resource_behind (version ∷ []) form parts
core_resource_on form parts = None

-- behind a slash and `apis`, a group and its version
abbrev pub group_resource_on : Form → List (List ℕ) → Option (ResourcePath (List ℕ))
group_resource_on form (root ∷ word ∷ group ∷ version ∷ parts) = resource_behind (group ∷ version ∷ []) form parts
group_resource_on form parts = None

-- what the parts of a path name that took a route
abbrev pub resource_on : Route → List (List ℕ) → Option (ResourcePath (List ℕ))
resource_on (Core form) parts = core_resource_on form parts
resource_on (Group form) parts = group_resource_on form parts
resource_on Events parts = Some resource.Events
