-- What a request asks.
--     ask_of method target body    the ask, or the first refusal that holds
-- The refusals come in this order: the path, the method, the segments, the label selector of a list, the query, the feed where no version is given, the body.
use Rattle.std.specs.Prelude.{ℕ, Bool, true, false, List, [], ◌∷◌, Option, Some, None, Result, Ok, Err, option_map, unwrap_or, if◌then◌else◌, codes}
use Rattle.hx_object.specs.declared.kind.Kind.{Kind}
use Rattle.hx_object.specs.declared.object.Id.{Id}
use Rattle.hx_object.specs.Pairs.{value_of}
use Rattle.hx_json.specs.Reading.{target_at}
use Rattle.hx_json.specs.declared.fault.JsonFault.{JsonFault}
use Rattle.hx_select.specs.Selectors.{everything, selector_of}
use Rattle.hx_select.specs.declared.selector.Selector.{Selector}
use Rattle.hx_select.specs.declared.selector.SelectFault.{SelectFault}
use Rattle.hx_model.specs.declared.ask.Ask.{Ask}
use Rattle.hx_model.specs.declared.ask.Ask.TheVariants as of
use Rattle.hx_model.specs.declared.refusal.Refusal.{Refusal}
use Rattle.hx_model.specs.declared.refusal.Refusal.TheVariants.{BadPath, BadQuery, NoPath, NoMethod}
use Rattle.hx_api.specs.Bodies.{Said, read_body, refusal_of}
use Rattle.hx_model.specs.Fields.{no_fields}
use Rattle.hx_model.specs.declared.fields.Fields.{Fields}
use Rattle.hx_api.specs.FieldSelectors.{fields_in, fields_text}
use Rattle.hx_api.specs.Paths.{allows, decoded_resource, named_by}
use Rattle.hx_api.specs.Queries.{Parameters, bad_parameter, is_skip, parameters_of, path_of, query_of, selector_text, since_in}
use Rattle.hx_http.specs.declared.method.Method.{Method}
use Rattle.hx_http.specs.declared.method.Method.TheVariants.{Get, Post, Put, Delete}
use Rattle.hx_api.specs.declared.resource_path.ResourcePath.{ResourcePath}
use Rattle.hx_api.specs.declared.resource_path.ResourcePath.TheVariants.{Events, Document, Collection, Object}

-- ---- places

-- the resource, or a refusal where a segment isn't UTF-8
abbrev pub readable : Option (ResourcePath (List ℕ)) → Result (ResourcePath (List ℕ)) Refusal
readable None = Err BadPath
readable (Some resource) = Ok resource

-- the resource of a request, its segments decoded, if the path is served and takes the method
abbrev pub resource_for : Method → Option (ResourcePath (List ℕ)) → Result (ResourcePath (List ℕ)) Refusal
resource_for method None = Err NoPath
resource_for method (Some resource) = if allows resource method then readable (decoded_resource resource) else Err NoMethod

-- ---- queries

abbrev pub is_feed : ResourcePath (List ℕ) → Bool
is_feed Events = true
is_feed _ = false

-- the request is for a list
abbrev pub is_list : Method → ResourcePath (List ℕ) → Bool
is_list Get (Collection kind ns) = true
is_list method resource = false

-- the refusal of the first parameter whose value isn't taken
abbrev pub query_refusal : Method → ResourcePath (List ℕ) → Parameters → Option Refusal
query_refusal method resource query = option_map (λ name. BadQuery name) (bad_parameter (is_feed resource) (is_list method resource) query)

-- ---- selectors

-- what is read as a selector, or the refusal of a text that is none
abbrev pub selector_or_refusal : Result Selector SelectFault → Result Selector Refusal
selector_or_refusal (Ok selector) = Ok selector
selector_or_refusal (Err fault) = Err (BadQuery (codes "labelSelector"))

-- the selector that a text is. An empty text selects everything
abbrev pub selector_in : List ℕ → Result Selector Refusal
selector_in [] = Ok everything
selector_in (byte ∷ text) = selector_or_refusal (selector_of (byte ∷ text))

-- the selector of a request: only lists have one
abbrev pub selector_for : Method → ResourcePath (List ℕ) → Parameters → Result Selector Refusal
selector_for Get (Collection kind ns) query = selector_in (selector_text query)
selector_for method resource query = Ok everything

-- ---- fields

-- the fields of a request: only lists have some
abbrev pub fields_for : Method → ResourcePath (List ℕ) → Parameters → Fields
fields_for Get (Collection kind ns) query = fields_in (fields_text query)
fields_for method resource query = no_fields

-- ---- asks

-- the namespace, empty where there is none
abbrev pub namespace : Option (List ℕ) → List ℕ
namespace ns = unwrap_or ns []

-- the identity of an object
abbrev pub id_at : Kind → Option (List ℕ) → List ℕ → Id
id_at kind ns name = record { kind = kind; ns = namespace ns; name = name }

-- to store what a body says
abbrev pub created : Kind → Bool → Result Said JsonFault → Result Ask Refusal
created kind skip (Ok said) = Ok (of.Create said.0 skip)
created kind skip (Err fault) = Err (refusal_of kind fault)

-- to store what a body says in place of what is there
abbrev pub replaced : Kind → Bool → Result Said JsonFault → Result Ask Refusal
replaced kind skip (Ok said) = Ok (of.Replace said.0 said.1 skip)
replaced kind skip (Err fault) = Err (refusal_of kind fault)

-- the events after a version, which has to be given
abbrev pub events_after : Option ℕ → Result Ask Refusal
events_after (Some version) = Ok (of.Events version)
events_after None = Err (BadQuery (codes "since"))

-- the ask of a method at a resource that takes it
abbrev pub ask_at : Method → ResourcePath (List ℕ) → Selector → Fields → Option ℕ → Bool → List ℕ → Result Ask Refusal
ask_at Get Events selector fields since skip body = events_after since
ask_at Get (Collection kind ns) selector fields since skip body = Ok (of.List kind ns selector fields)
ask_at Get (Document document) selector fields since skip body = Ok (of.Document document)
ask_at Get (Object kind ns name) selector fields since skip body = Ok (of.Get (id_at kind ns name))
ask_at Post (Collection kind ns) selector fields since skip body = created kind skip (read_body (target_at kind (namespace ns) None) body)
ask_at Put (Object kind ns name) selector fields since skip body = replaced kind skip (read_body (target_at kind (namespace ns) (Some name)) body)
ask_at Delete (Object kind ns name) selector fields since skip body = Ok (of.Delete (id_at kind ns name) skip)
ask_at method resource selector fields since skip body = Err NoMethod

-- a refusal, or else the ask
abbrev pub ask_unless : Option Refusal → Result Ask Refusal → Result Ask Refusal
ask_unless (Some refusal) ask = Err refusal
ask_unless None ask = ask

-- what is asked at a resource, by the selector of the request
abbrev pub asked_by : Method → Parameters → List ℕ → ResourcePath (List ℕ) → Result Selector Refusal → Result Ask Refusal
asked_by method query body resource (Err refusal) = Err refusal
asked_by method query body resource (Ok selector) =
    ask_unless (query_refusal method resource query) (ask_at method resource selector (fields_for method resource query) (since_in query) (is_skip (value_of query (codes "admission"))) body)

-- what is asked at the resource of a request
abbrev pub asked_at : Method → Parameters → List ℕ → Result (ResourcePath (List ℕ)) Refusal → Result Ask Refusal
asked_at method query body (Err refusal) = Err refusal
asked_at method query body (Ok resource) = asked_by method query body resource (selector_for method resource query)

-- the ask, or the first refusal that holds
unfoldable pub ask_of : Method → List ℕ → List ℕ → Result Ask Refusal
ask_of method target body = asked_at method (parameters_of (query_of target)) body (resource_for method (named_by (path_of target)))
