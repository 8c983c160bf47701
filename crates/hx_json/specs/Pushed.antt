-- How code puts texts together, piece by piece from left to right. Those of `pushed_list`, `pushed_status` and `pushed_deleted` are the whole texts.
--     pairs_text, pairs_front      pairs as an object, and the same under a name and with a comma behind
--     metadata_text, head_text     the metadata, and an object up to its metadata
--     front_part, later_part       kept members in front of the first that each object has, and those between two
--     plain_text                   an object of a plain kind
--     namespace_rest, config_rest    what other kinds have behind the metadata
--     quota_spec, usages_rest        of a quota, its limits and what is reported of them
--     spec_part, status_rest         of a HierarchyConfiguration
--     rest_text                      of each kind that isn't plain
use Rattle.std.specs.Prelude.{◌≤◌, ◌-◌, ℕ, ◌==◌, ◌&&◌, nat_lt, Bool, true, false, List, [], ◌∷◌, ◌++◌, codes, length, map, take, slice_range, Option, Some, None}
use Rattle.std.specs.Fmt.{decimal}
use Rattle.std.specs.Str.{IsCharBoundary}
use Rattle.json.specs.Print.{quoted}
use Rattle.serde_json.specs.Data.{object}
use Rattle.serde_json.specs.Written.{comma_if, compact_text, items_text, members_text}
use Rattle.hx_object.specs.Quantities.{quantity_text}
use Rattle.hx_object.specs.Json.{pairs_members, texts_items, entries_items, conditions_items, limits_members, hard_pair, used_pair, own_members}
use Rattle.hx_object.specs.Kinds.{name_of, api_version_of}
use Rattle.hx_object.specs.declared.kind.Kind.{Kind}
use Rattle.hx_object.specs.declared.members.Places.{Places}
use Rattle.hx_object.specs.declared.object.Condition.{Condition}
use Rattle.hx_object.specs.declared.object.Limit.{Limit}
use Rattle.hx_object.specs.declared.object.ModeEntry.{ModeEntry}
use Rattle.hx_object.specs.declared.object.Object.{Object}
use Rattle.hx_object.specs.declared.object.Payload.{Payload}
use Rattle.hx_object.specs.declared.object.Payload.TheVariants.{Namespace, Config, Hierarchy, Anchor, Quota, Plain}
use Rattle.hx_object.specs.declared.object.Usage.{Usage}
use Rattle.hx_model.specs.Json.{objects_items}
use Rattle.hx_model.specs.Replies.{code_of, message_of, name_of_rule, reason_of}
use Rattle.hx_model.specs.declared.refusal.Refusal.{Refusal}
use Rattle.hx_model.specs.declared.refusal.Refusal.TheVariants.{Broken, OverQuota}
use Rattle.hx_model.specs.declared.rule.Rule.{Rule}

-- ---- metadata

-- pairs of texts as an object
abbrev pub pairs_text : List (List ℕ × List ℕ) → List ℕ
pairs_text pairs = compact_text (object (pairs_members pairs))

-- pairs under a name that has its quotes and its colon, and a comma behind them; nothing where there are none
abbrev pub pairs_front : List ℕ → List (List ℕ × List ℕ) → List ℕ
pairs_front name [] = []
pairs_front name (pair ∷ pairs) = name ++ (pairs_text (pair ∷ pairs) ++ codes ",")

-- the namespace, where there is one, with a comma in front
abbrev pub namespace_text : List ℕ → List ℕ
namespace_text [] = []
namespace_text (byte ∷ ns) = codes ",\"namespace\":" ++ quoted (byte ∷ ns)

-- the metadata of an object
unfoldable pub metadata_text : Object → List ℕ
metadata_text x =
    codes "{" ++ (pairs_front (codes "\"annotations\":") x.annotations ++ (pairs_front (codes "\"labels\":") x.labels
    ++ (codes "\"name\":" ++ (quoted x.id.name ++ (namespace_text x.id.ns ++ (codes ",\"resourceVersion\":" ++ (quoted (decimal x.version) ++ codes "}")))))))

-- ---- objects

-- an object up to its metadata, where none of its members comes before them
unfoldable pub head_text : Object → List ℕ
head_text x =
    codes "{\"apiVersion\":" ++ (quoted (api_version_of x.id.kind) ++ (codes ",\"kind\":" ++ (quoted (name_of x.id.kind) ++ (codes ",\"metadata\":" ++ metadata_text x))))

-- ---- kept members

-- a part of a text that can be cut out
abbrev pub IsPart : List ℕ → ℕ → ℕ → Type 0
IsPart text from to = (from ≤ to) × IsCharBoundary text from × IsCharBoundary text to

-- a text can be cut at its places, and in front of its last brace
abbrev pub IsCut : List ℕ → Places → Type 0
IsCut text places =
    (1 ≤ length text) × IsPart text 0 places.api_version × IsPart text places.api_version places.kind × IsPart text places.kind places.metadata × IsPart text places.metadata (length text - 1)

-- the brace and the kept members in front of a place, with a comma behind those
abbrev pub front_part : List ℕ → ℕ → List ℕ
front_part text to = take to text ++ comma_if (nat_lt 1 to)

-- the kept members between two places, with a comma in front
abbrev pub later_part : List ℕ → ℕ → ℕ → List ℕ
later_part text from to = comma_if (from == 1 && nat_lt from to) ++ slice_range text from to

-- an object of a plain kind whose members have this text and these places
unfoldable pub plain_text : Object → List ℕ → Places → List ℕ
plain_text x text places =
    front_part text places.api_version ++ (codes "\"apiVersion\":" ++ (quoted (api_version_of x.id.kind) ++ (later_part text places.api_version places.kind
    ++ (codes ",\"kind\":" ++ (quoted (name_of x.id.kind) ++ (later_part text places.kind places.metadata
    ++ (codes ",\"metadata\":" ++ (metadata_text x ++ (later_part text places.metadata (length text - 1) ++ codes "}")))))))))

-- ---- what is behind the metadata

unfoldable pub namespace_rest : Bool → List ℕ
namespace_rest true = codes ",\"status\":{\"phase\":\"Terminating\"}}"
namespace_rest false = codes ",\"status\":{\"phase\":\"Active\"}}"

unfoldable pub config_rest : List ModeEntry → List ℕ
config_rest entries = codes ",\"spec\":{\"resources\":[" ++ (items_text false (entries_items entries) ++ codes "}}")

-- the limits of a quota
unfoldable pub quota_spec : List Limit → List ℕ
quota_spec hard = codes ",\"spec\":{\"hard\":{" ++ (members_text false (limits_members hard) ++ codes "}")

-- limits as they are reported, and what is used of them, each with the brace behind them
abbrev pub hard_text : List Usage → List ℕ
hard_text usages = members_text false (pairs_members (map hard_pair usages))

abbrev pub used_text : List Usage → List ℕ
used_text usages = members_text false (pairs_members (map used_pair usages))

-- what is reported of a quota
abbrev pub usages_rest : List Usage → List ℕ
usages_rest [] = codes "}"
usages_rest (usage ∷ usages) = codes ",\"status\":{\"hard\":{" ++ (hard_text (usage ∷ usages) ++ (codes ",\"used\":{" ++ (used_text (usage ∷ usages) ++ codes "}}")))

-- what is asked of a HierarchyConfiguration that names no parent, and what stands in front of one that is named
abbrev pub spec_alone : Bool → List ℕ
spec_alone true = codes ",\"spec\":{\"allowCascadingDeletion\":true}"
spec_alone false = codes ",\"spec\":{}"

abbrev pub spec_front : Bool → List ℕ
spec_front true = codes ",\"spec\":{\"allowCascadingDeletion\":true,\"parent\":"
spec_front false = codes ",\"spec\":{\"parent\":"

abbrev pub spec_part : Option (List ℕ) → Bool → List ℕ
spec_part None cascade = spec_alone cascade
spec_part (Some parent) cascade = spec_front cascade ++ (quoted parent ++ codes "}")

-- conditions that have no children in front of them, or have some
abbrev pub conditions_alone : List Condition → List ℕ
conditions_alone [] = codes "}"
conditions_alone (c ∷ cs) = codes ",\"status\":{\"conditions\":[" ++ (items_text false (conditions_items (c ∷ cs)) ++ codes "}}")

abbrev pub conditions_behind : List Condition → List ℕ
conditions_behind [] = []
conditions_behind (c ∷ cs) = codes ",\"conditions\":[" ++ items_text false (conditions_items (c ∷ cs))

-- what is reported of a HierarchyConfiguration
abbrev pub status_rest : List (List ℕ) → List Condition → List ℕ
status_rest [] conditions = conditions_alone conditions
status_rest (text ∷ texts) conditions = codes ",\"status\":{\"children\":[" ++ (items_text false (texts_items (text ∷ texts)) ++ (conditions_behind conditions ++ codes "}}"))

-- what an object has behind its metadata, unless its kind is plain
abbrev pub rest_text : Payload → List ℕ
rest_text (Namespace terminating) = namespace_rest terminating
rest_text (Config entries) = config_rest entries
rest_text (Hierarchy parent cascade children conditions) = spec_part parent cascade ++ status_rest children conditions
rest_text (Anchor status) = members_text true (own_members (Anchor status))
rest_text (Quota hard status) = quota_spec hard ++ usages_rest status
rest_text (Plain members need) = []

-- ---- lists and refusals

-- a list of objects of one kind
unfoldable pub pushed_list : Kind → List Object → ℕ → List ℕ
pushed_list kind objects version =
    codes "{\"apiVersion\":" ++ (quoted (api_version_of kind) ++ (codes ",\"items\":[" ++ (items_text false (objects_items objects)
    ++ (codes ",\"kind\":\"" ++ (name_of kind ++ (codes "List\",\"metadata\":{\"resourceVersion\":" ++ (quoted (decimal version) ++ codes "}}")))))))

-- the rule that was broken, where one was
unfoldable pub rule_text : Rule → List ℕ
rule_text rule = codes ",\"details\":{\"rule\":" ++ (quoted (name_of_rule rule) ++ codes "}")

-- an amount in quotes
abbrev pub amount_text : ℕ → List ℕ
amount_text amount = quoted (quantity_text amount)

-- of a limit of a quota that is passed, which limit it is, and its numbers
unfoldable pub over_text : List ℕ → List ℕ → List ℕ → ℕ → ℕ → ℕ → List ℕ
over_text ns quota resource used asked hard =
    codes ",\"details\":{\"asked\":" ++ (amount_text asked ++ (codes ",\"hard\":" ++ (amount_text hard
    ++ (codes ",\"namespace\":" ++ (quoted ns ++ (codes ",\"quota\":" ++ (quoted quota ++ (codes ",\"resource\":" ++ (quoted resource
    ++ (codes ",\"rule\":\"Q1\",\"used\":" ++ (amount_text used ++ codes "}")))))))))))

abbrev pub details_part : Refusal → List ℕ
details_part (Broken rule) = rule_text rule
details_part (OverQuota ns quota resource used asked hard) = over_text ns quota resource used asked hard
details_part _ = []

-- a refusal
unfoldable pub pushed_status : Refusal → List ℕ
pushed_status r =
    codes "{\"apiVersion\":\"v1\",\"code\":" ++ (decimal (code_of r) ++ (details_part r ++ (codes ",\"kind\":\"Status\",\"message\":" ++ (quoted (message_of r)
    ++ (codes ",\"metadata\":{},\"reason\":" ++ (quoted (reason_of r) ++ codes ",\"status\":\"Failure\"}"))))))

-- a removal
unfoldable pub pushed_deleted : ℕ → List ℕ
pushed_deleted version = codes "{\"apiVersion\":\"v1\",\"kind\":\"Status\",\"metadata\":{\"resourceVersion\":" ++ (quoted (decimal version) ++ codes "},\"status\":\"Success\"}")
