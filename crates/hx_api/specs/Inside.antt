-- What serves the code alone: paths as the code holds them, and what it knows of a path that it has read.
--     as_sent                a resource path whose segments lie in the path that was sent
--     parts_of_version       the parts of an `apiVersion` that a path has
--     FitsScope              objects of the cluster have no namespace
--     name_of parameter      its name
--     is_no_number said      the first value of `since` is no number
--     said_by query          what the first values of a query's parameters say
--     over x y               what two queries say, one behind the other
--     selector_said query    the first text of its label selector
--     fields_said query      the first text of its field selector
--     IsReading              what was read of a query
use Rattle.std.specs.Prelude.{◌≡◌, ℕ, Bool, true, false, not, List, [], ◌∷◌, codes, Option, Some, None, option_map}
use Rattle.std.specs.Option.{option_or}
use Rattle.std.specs.Cow.{cow_str_bytes}
use Rattle.std.specs.declared.alloc.Global.{Global}
use Rattle.std.specs.declared.borrow.CowStr.{CowStr}
use Rattle.std.specs.Borrow.{Bor}
use Rattle.std.specs.Str.{bytes_eq}
use Rattle.hx_object.specs.Kinds.{is_in_cluster}
use Rattle.hx_object.specs.Pairs.{value_of}
use Rattle.hx_json.specs.LongDecimals.{long_decimal}
use Rattle.hx_api.specs.Paths.{is_blank}
use Rattle.hx_api.specs.Queries.{Parameters}
use Rattle.hx_api.specs.declared.query.Parameter.{Parameter}
use Rattle.hx_api.specs.declared.query.Parameter.TheVariants.{Watch, FieldSelector, DryRun, Continue}
use Rattle.hx_api.specs.declared.query.Said.{Said}
use Rattle.hx_api.specs.declared.resource_path.ResourcePath.{ResourcePath}
use Rattle.hx_api.specs.declared.resource_path.ResourcePath.TheVariants.{Events, Document, Collection, Object}
use Rattle.hx_api.specs.declared.served.Version.{Version}
use Rattle.hx_api.specs.declared.served.Version.TheVariants.{Core, Group}

-- a resource of code, whose segments lie in the path
abbrev pub as_sent : ResourcePath (Bor (List ℕ)) → ResourcePath (List ℕ)
as_sent Events = Events
as_sent (Document document) = Document document
as_sent (Collection kind ns) = Collection kind (option_map (λ segment. segment.now) ns)
as_sent (Object kind ns name) = Object kind (option_map (λ segment. segment.now) ns) name.now

-- objects of the cluster have no namespace
abbrev pub FitsScope : ResourcePath (List ℕ) → Type 0
FitsScope Events = Unit {0}
FitsScope (Document document) = Unit {0}
FitsScope (Collection kind ns) = is_in_cluster kind ≡ true → ns ≡ None
FitsScope (Object kind ns name) = is_in_cluster kind ≡ true → ns ≡ None

-- the version alone, or the group and the version
abbrev pub parts_of_version : Version → List (List ℕ)
parts_of_version (Core version) = version.now ∷ []
parts_of_version (Group group version) = group.now ∷ version.now ∷ []

-- ---- queries

-- the name of a parameter
abbrev pub name_of : Parameter → List ℕ
name_of Watch = codes "watch"
name_of FieldSelector = codes "fieldSelector"
name_of DryRun = codes "dryRun"
name_of Continue = codes "continue"

-- the value isn't empty
abbrev pub is_filled : List ℕ → Bool
is_filled value = not (is_blank value)

-- what the first value of a parameter says by a test, where it has one
abbrev pub first_by : {A : Type 0} → (List ℕ → A) → List ℕ → Parameters → Option A
first_by test name query = option_map test (value_of query name)

-- what the first values of a query's parameters say
unfoldable pub said_by : Parameters → Said
said_by query = record {
  admission = first_by (λ value. bytes_eq value (codes "skip")) (codes "admission") query;
  since = first_by long_decimal (codes "since") query;
  watch = first_by is_filled (codes "watch") query;
  field_selector = first_by is_filled (codes "fieldSelector") query;
  dry_run = first_by is_filled (codes "dryRun") query;
  continued = first_by is_filled (codes "continue") query;
}

-- what they say of a parameter: whether its first value isn't empty
abbrev pub given_in : Said → Parameter → Option Bool
given_in said Watch = said.watch
given_in said FieldSelector = said.field_selector
given_in said DryRun = said.dry_run
given_in said Continue = said.continued

-- what they say of `since`: that its first value is no number
abbrev pub is_no_number : Option (Option ℕ) → Bool
is_no_number (Some None) = true
is_no_number said = false

-- what two queries say, one behind the other
unfoldable pub over : Said → Said → Said
over x y = record {
  admission = option_or x.admission y.admission;
  since = option_or x.since y.since;
  watch = option_or x.watch y.watch;
  field_selector = option_or x.field_selector y.field_selector;
  dry_run = option_or x.dry_run y.dry_run;
  continued = option_or x.continued y.continued;
}

-- the first text of the label selector, where there is one
abbrev pub selector_said : Parameters → Option (List ℕ)
selector_said query = value_of query (codes "labelSelector")

-- the first text of the field selector, where there is one
abbrev pub fields_said : Parameters → Option (List ℕ)
fields_said query = value_of query (codes "fieldSelector")

-- what is kept of a text that may be borrowed
abbrev pub kept_text : Option (CowStr Global) → Option (List ℕ)
kept_text text = option_map cow_str_bytes text

-- what was read of a query
pub record IsReading (query : Parameters) (said : Said) (selector fields : Option (CowStr Global)) : Type 0 where
  pub says : said ≡ said_by query
  pub selects : kept_text selector ≡ selector_said query
  pub asks : kept_text fields ≡ fields_said query
