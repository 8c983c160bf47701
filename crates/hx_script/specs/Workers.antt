-- The lines for reconcilers.
--     key_named           the key of a reconciler's work that a text names: what it looks after, and where
--     worker_order        what a line in one of their forms orders: `take W`, `take W KEY`, `finish W`, `drop W`, `settle N` or `check`
use Rattle.std.specs.Prelude.{ℕ, List, codes, Option, Some, None, option_and_then, option_map, if◌then◌else◌}
use Rattle.std.specs.Str.{bytes_eq}
use Rattle.std.specs.Str.Parse.{digits_value}
use Rattle.hx_object.specs.Kinds.{can_be_copied, kind_of_plural}
use Rattle.hx_object.specs.Names.{is_dns_label, is_name_of}
use Rattle.hx_object.specs.declared.kind.Kind.{Kind}
use Rattle.hx_object.specs.declared.kind.Kind.TheVariants.{Namespace, SubnamespaceAnchor, HierarchicalResourceQuota}
use Rattle.hx_model.specs.First.{so}
use Rattle.hx_model.specs.declared.key.Key.{Key}
use Rattle.hx_model.specs.declared.key.Key.TheVariants as key
use Rattle.hx_script.specs.Words.{word_of, rest_of, is_number}
use Rattle.hx_script.specs.declared.order.Order.{Order}
use Rattle.hx_script.specs.declared.order.Order.TheVariants as order

-- ---- keys

-- what follows is there, and is the name of such an object
abbrev pub name_after : Kind → Option (List ℕ) → Option (List ℕ)
name_after kind rest = option_and_then (λ name. so (is_name_of kind name) name) rest

-- the copied kind of a plural
abbrev pub copied_kind : List ℕ → Option Kind
copied_kind plural = option_and_then (λ kind. so (can_be_copied kind) kind) (kind_of_plural plural)

-- PLURAL NAME
abbrev pub copy_of_kind : List ℕ → Option (List ℕ) → Option Kind → Option Key
copy_of_kind n rest None = None
copy_of_kind n rest (Some kind) = option_map (λ name. key.Copy n kind name) (name_after kind rest)

abbrev pub copy_in : List ℕ → Option (List ℕ) → Option Key
copy_in n None = None
copy_in n (Some rest) = copy_of_kind n (rest_of rest) (copied_kind (word_of rest))

-- NS PLURAL NAME
abbrev pub copy_named : List ℕ → Option Key
copy_named text = if is_dns_label (word_of text) then copy_in (word_of text) (rest_of text) else None

-- NS NAME: the name of an object of the kind, behind its namespace
abbrev pub place_named : Kind → (List ℕ → List ℕ → Key) → List ℕ → Option Key
place_named kind make text = if is_dns_label (word_of text) then option_map (make (word_of text)) (name_after kind (rest_of text)) else None

-- NS
abbrev pub namespace_named : (List ℕ → Key) → List ℕ → Option Key
namespace_named make text = so (is_dns_label text) (make text)

-- a key of a namespace and a name
abbrev pub place_key : List ℕ → List ℕ → Option Key
place_key word rest =
    if bytes_eq word (codes "child") then place_named Namespace (λ n name. key.Child n name) rest else (
    if bytes_eq word (codes "anchor") then place_named SubnamespaceAnchor (λ n name. key.Anchor n name) rest else (
    if bytes_eq word (codes "used") then place_named HierarchicalResourceQuota (λ n name. key.Used n name) rest else None))

-- a key of a namespace, or of a namespace and a name
abbrev pub namespace_key : List ℕ → List ℕ → Option Key
namespace_key word rest =
    if bytes_eq word (codes "tree") then namespace_named (λ n. key.Tree n) rest else (
    if bytes_eq word (codes "report") then namespace_named (λ n. key.Report n) rest else (
    if bytes_eq word (codes "purge") then namespace_named (λ n. key.Purge n) rest else place_key word rest))

-- a key, by its first word and what follows it
abbrev pub key_after : List ℕ → List ℕ → Option Key
key_after word rest = if bytes_eq word (codes "copy") then copy_named rest else namespace_key word rest

-- `copy NS PLURAL NAME`, `tree NS`, `report NS`, `child NS NAME`, `anchor NS NAME`, `used NS NAME` or `purge NS`
unfoldable pub key_named : List ℕ → Option Key
key_named text = option_and_then (key_after (word_of text)) (rest_of text)

-- ---- lines

-- the number of a worker
abbrev pub worker_named : List ℕ → Option ℕ
worker_named text = so (is_number 1 64 text) (digits_value 10 text)

-- nothing, or a key
abbrev pub taking : ℕ → Option (List ℕ) → Option Order
taking worker None = Some (order.Take worker None)
taking worker (Some text) = option_map (λ k. order.Take worker (Some k)) (key_named text)

-- W, or W KEY
abbrev pub take_order : List ℕ → Option Order
take_order text = option_and_then (λ worker. taking worker (rest_of text)) (worker_named (word_of text))

-- at most so many turns
abbrev pub settle_order : List ℕ → Option Order
settle_order text = so (is_number 0 1000000000 text) (order.Settle (digits_value 10 text))

-- what the other words order
abbrev pub turn_order : List ℕ → List ℕ → Option Order
turn_order word rest =
    if bytes_eq word (codes "finish") then option_map (λ worker. order.Finish worker) (worker_named rest) else (
    if bytes_eq word (codes "drop") then option_map (λ worker. order.Drop worker) (worker_named rest) else (
    if bytes_eq word (codes "settle") then settle_order rest else None))

-- a line, by its first word and what follows it
abbrev pub order_after : List ℕ → List ℕ → Option Order
order_after word rest = if bytes_eq word (codes "take") then take_order rest else turn_order word rest

abbrev pub order_by : List ℕ → Option (List ℕ) → Option Order
order_by word None = so (bytes_eq word (codes "check")) order.Check
order_by word (Some rest) = order_after word rest

-- `take W`, `take W KEY`, `finish W`, `drop W`, `settle N` or `check`
unfoldable pub worker_order : List ℕ → Option Order
worker_order line = order_by (word_of line) (rest_of line)
