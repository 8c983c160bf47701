-- The size of an object, and what of it counts.
--     is_counted    a label that counts: neither one of the tree nor one that a reconciler writes
--     size_of       the size in bytes
use Rattle.std.specs.Prelude.{ℕ, ◌+◌, Bool, not, ◌&&◌, ◌||◌, nat_lt, nat_eq, List, [], length, filter, sum_by, Option}
use Rattle.std.specs.List.{ends_with}
use Rattle.std.specs.Str.{bytes_eq}
use Rattle.serde_json.specs.Data.{object}
use Rattle.serde_json.specs.Written.{compact_text}
use Rattle.hx_object.specs.Json.{specified_members}
use Rattle.hx_object.specs.WellKnown.{inherited_from, included_namespace, tree_suffix}
use Rattle.hx_object.specs.declared.object.Limit.{Limit}
use Rattle.hx_object.specs.declared.object.ModeEntry.{ModeEntry}
use Rattle.hx_object.specs.declared.object.Object.{Object}
use Rattle.hx_object.specs.declared.object.Payload.{Payload}
use Rattle.hx_object.specs.declared.object.Payload.TheVariants.{Namespace as NamespaceOf, Config, Hierarchy, Anchor, Quota, Plain}

-- ---- labels

-- at least one byte, and then the suffix of the tree's labels
unfoldable pub is_tree_key : List ℕ → Bool
is_tree_key key = nat_lt (length tree_suffix) (length key) && ends_with nat_eq key tree_suffix

-- a reconciler writes the label
unfoldable pub is_reconciled_key : List ℕ → Bool
is_reconciled_key key = bytes_eq key included_namespace || bytes_eq key inherited_from

-- neither a label of the tree nor one that a reconciler writes
unfoldable pub is_counted : List ℕ × List ℕ → Bool
is_counted pair = not (is_tree_key pair.0) && not (is_reconciled_key pair.0)

abbrev pub counted : List (List ℕ × List ℕ) → List (List ℕ × List ℕ)
counted labels = filter is_counted labels

-- ---- sizes

abbrev pub pair_size : List ℕ × List ℕ → ℕ
pair_size pair = length pair.0 + length pair.1

-- the texts of what a request gives, by the payload
unfoldable pub config_size : List ModeEntry → ℕ
config_size entries = length (compact_text (object (specified_members (Config entries))))

unfoldable pub hierarchy_size : Option (List ℕ) → Bool → ℕ
hierarchy_size parent cascade = length (compact_text (object (specified_members (Hierarchy parent cascade [] []))))

unfoldable pub quota_size : List Limit → ℕ
quota_size hard = length (compact_text (object (specified_members (Quota hard []))))

-- for a plain kind the text is kept as it is
abbrev pub specified_size : Payload → ℕ
specified_size (Plain members need) = length members
specified_size (NamespaceOf terminating) = 2
specified_size (Anchor status) = 2
specified_size (Config entries) = config_size entries
specified_size (Hierarchy parent cascade children conditions) = hierarchy_size parent cascade
specified_size (Quota hard status) = quota_size hard

-- the bytes of counted labels, of annotations, and of the text of what a request gives
unfoldable pub size_of : Object → ℕ
size_of x = sum_by pair_size (counted x.labels) + (sum_by pair_size x.annotations + specified_size x.payload)

abbrev pub greatest_size : ℕ
greatest_size = 65536
