-- Refusals as a Kubernetes `Status`.
--     reason_row             the HTTP status and the word of a reason
--     rule_row               a rule as refusals name it, its reason and its message
--     status_of              the reason and the message of a refusal
--     code_of, reason_of, message_of      its HTTP status, its reason in one word, and its message
--     details_of             the rule that was broken, and of a limit of a quota its names and numbers
--     status_data, status_text      the whole body, as a JSON value and as its compact text
use Rattle.std.specs.Prelude.{ℕ, List, ◌++◌, codes}
use Rattle.std.specs.Fmt.{decimal}
use Prim.Native.String.{String}
use Rattle.serde_json.specs.Data.{Data, string, object, number, unsigned, Members, no_members, member}
use Rattle.serde_json.specs.Written.{compact_text}
use Rattle.hx_object.specs.Json.{unless_empty}
use Rattle.hx_object.specs.Kinds.{name_of, resource_of}
use Rattle.hx_object.specs.Quantities.{quantity_text}
use Rattle.hx_object.specs.declared.kind.Kind.{Kind}
use Rattle.hx_model.specs.declared.reason.Reason.{Reason}
use Rattle.hx_model.specs.declared.reason.Reason.TheVariants as of
use Rattle.hx_model.specs.declared.reason.Reason.TheVariants.{BadRequest, Forbidden, MethodNotAllowed, AlreadyExists, Conflict, Expired, RequestEntityTooLarge, Invalid, InternalError, NotImplemented, ServiceUnavailable, InsufficientStorage}
use Rattle.hx_model.specs.declared.rule.Rule.{Rule}
use Rattle.hx_model.specs.declared.rule.Rule.TheVariants.{X1, N4, H7, C1, O1, N3, H1, H2, H3, H4, H5, H6, H8, C2, C3, C4, C6, C5, A2, A1, A4, A3, N1, N2, O3, O2, Q3, Q2, L1, L2, L3, L4}
use Rattle.hx_model.specs.declared.refusal.Refusal.{Refusal}
use Rattle.hx_model.specs.declared.refusal.Refusal.TheVariants.{BadLine, BadPath, BadQuery, NotJson, NotWhole, NotKind, OtherPlace, Broken, OverQuota, NoPath, NotFound, NoMethod, Exists, OtherVersion, Expired as ExpiredAt, TooLong, Missing, WrongType, NoQuantity, BadName, BadLabel, TooManyLabels, TooLarge, StoreFailed, NotServed, NoMemory}

-- ---- reasons

-- a reason's HTTP status, and its word in a `Status`
pub record ReasonRow : Type 0 where
  pub code : ℕ
  pub name : List ℕ

abbrev reason_as : ℕ → String → ReasonRow
reason_as code name = record { code = code; name = codes name }

abbrev pub reason_row : Reason → ReasonRow
reason_row BadRequest = reason_as 400 "BadRequest"
reason_row Forbidden = reason_as 403 "Forbidden"
reason_row of.NotFound = reason_as 404 "NotFound"
reason_row MethodNotAllowed = reason_as 405 "MethodNotAllowed"
reason_row AlreadyExists = reason_as 409 "AlreadyExists"
reason_row Conflict = reason_as 409 "Conflict"
reason_row Expired = reason_as 410 "Expired"
reason_row RequestEntityTooLarge = reason_as 413 "RequestEntityTooLarge"
reason_row Invalid = reason_as 422 "Invalid"
reason_row InternalError = reason_as 500 "InternalError"
reason_row NotImplemented = reason_as 501 "NotImplemented"
reason_row ServiceUnavailable = reason_as 503 "ServiceUnavailable"
reason_row InsufficientStorage = reason_as 507 "InsufficientStorage"

-- ---- rules

-- a rule as refusals name it, the reason of a refusal by it, and what one says of it
pub record RuleRow : Type 0 where
  pub name : List ℕ
  pub reason : Reason
  pub message : List ℕ

abbrev rule_as : String → Reason → String → RuleRow
rule_as name reason message = record { name = codes name; reason = reason; message = codes message }

-- a rule of admission forbids, and a limit of the store says that there is no room
abbrev pub rule_row : Rule → RuleRow
rule_row X1 = rule_as "X1" Forbidden "skipping admission is not allowed"
rule_row N4 = rule_as "N4" Forbidden "the namespace is terminating"
rule_row H7 = rule_as "H7" Forbidden "the name must be hierarchy"
rule_row C1 = rule_as "C1" Forbidden "the name must be config"
rule_row O1 = rule_as "O1" Forbidden "propagated copies cannot be made or changed"
rule_row N3 = rule_as "N3" Forbidden "the subnamespace annotation cannot be changed"
rule_row H1 = rule_as "H1" Forbidden "the new parent does not exist"
rule_row H2 = rule_as "H2" Forbidden "the new parent is in the subtree of the namespace"
rule_row H3 = rule_as "H3" Forbidden "the parent of a subnamespace cannot be changed"
rule_row H4 = rule_as "H4" Forbidden "the tree is halted"
rule_row H5 = rule_as "H5" Forbidden "a source would be overwritten"
rule_row H6 = rule_as "H6" Forbidden "the namespace is excluded"
rule_row H8 = rule_as "H8" Forbidden "the tree would be deeper than 64"
rule_row C2 = rule_as "C2" Forbidden "the resource is unknown"
rule_row C3 = rule_as "C3" Forbidden "the resource is named twice"
rule_row C4 = rule_as "C4" Forbidden "the mode of this resource is fixed"
rule_row C6 = rule_as "C6" Forbidden "the resource cannot be propagated"
rule_row C5 = rule_as "C5" Forbidden "a source would be overwritten"
rule_row A2 = rule_as "A2" Forbidden "the namespace is excluded"
rule_row A1 = rule_as "A1" Forbidden "the namespace exists elsewhere"
rule_row A4 = rule_as "A4" Forbidden "the tree would be deeper than 64"
rule_row A3 = rule_as "A3" Forbidden "the subnamespace has children"
rule_row N1 = rule_as "N1" Forbidden "delete the anchor instead"
rule_row N2 = rule_as "N2" Forbidden "cascading deletion is not allowed"
rule_row O3 = rule_as "O3" Forbidden "the exception is not valid"
rule_row O2 = rule_as "O2" Forbidden "a source would overwrite or be overwritten"
rule_row Q3 = rule_as "Q3" Forbidden "the quota resource is unknown"
rule_row Q2 = rule_as "Q2" Forbidden "a container does not state a limited resource"
rule_row L1 = rule_as "L1" InsufficientStorage "too many namespaces"
rule_row L2 = rule_as "L2" InsufficientStorage "too many objects"
rule_row L3 = rule_as "L3" InsufficientStorage "too many bytes"
rule_row L4 = rule_as "L4" InsufficientStorage "no version is left"

-- a rule as refusals name it
abbrev pub name_of_rule : Rule → List ℕ
name_of_rule rule = (rule_row rule).name

-- ---- parts of messages

-- a resource and a name in quotes, and what is said of it
unfoldable pub message_about : Kind → List ℕ → List ℕ → List ℕ
message_about kind name said = resource_of kind ++ (codes " \"" ++ (name ++ (codes "\" " ++ said)))

-- the version that a name has
unfoldable pub version_message : Kind → List ℕ → ℕ → List ℕ
version_message kind name version = resource_of kind ++ (codes " \"" ++ (name ++ (codes "\" has version " ++ decimal version)))

-- the version up to which events are gone
unfoldable pub gone_message : ℕ → List ℕ
gone_message floor = codes "events up to version " ++ (decimal floor ++ codes " are gone")

-- the limit of a quota that is passed, with what is used, what is asked for and the limit
unfoldable pub quota_message : List ℕ → List ℕ → List ℕ → ℕ → ℕ → ℕ → List ℕ
quota_message ns quota resource used asked hard =
    codes "quota " ++ (quota ++ (codes " in namespace " ++ (ns ++ (codes ": " ++ (resource ++ (codes " used " ++ (quantity_text used ++ (codes ", asked " ++ (quantity_text asked ++ (codes ", hard " ++ quantity_text hard))))))))))

-- two texts, one after the other
unfoldable pub said_of : List ℕ → List ℕ → List ℕ
said_of front back = front ++ back

-- ---- refusals

-- why in one word, and what is said
pub record Status : Type 0 where
  pub reason : Reason
  pub message : List ℕ

abbrev says : Reason → List ℕ → Status
says reason message = record { reason = reason; message = message }

abbrev pub status_of : Refusal → Status
status_of BadLine = says BadRequest (codes "line in no form of the script")
status_of BadPath = says BadRequest (codes "bad path")
status_of (BadQuery name) = says BadRequest (said_of (codes "bad query ") name)
status_of NotJson = says BadRequest (codes "body is not JSON")
status_of NotWhole = says BadRequest (codes "body has a number that is not whole")
status_of (NotKind kind) = says BadRequest (said_of (codes "body is not ") (name_of kind))
status_of OtherPlace = says BadRequest (codes "body names another place")
status_of (Broken rule) = says (rule_row rule).reason (rule_row rule).message
status_of (OverQuota ns quota resource used asked hard) = says Forbidden (quota_message ns quota resource used asked hard)
status_of NoPath = says of.NotFound (codes "path not served")
status_of (NotFound kind name) = says of.NotFound (message_about kind name (codes "not found"))
status_of NoMethod = says MethodNotAllowed (codes "method not served here")
status_of (Exists kind name) = says AlreadyExists (message_about kind name (codes "already exists"))
status_of (OtherVersion kind name version) = says Conflict (version_message kind name version)
status_of (ExpiredAt floor) = says Expired (gone_message floor)
status_of TooLong = says RequestEntityTooLarge (codes "more than 131072 bytes")
status_of (Missing path) = says Invalid (said_of path (codes " is missing"))
status_of (WrongType path) = says Invalid (said_of path (codes " has the wrong type"))
status_of (NoQuantity path) = says Invalid (said_of path (codes " is no quantity"))
status_of BadName = says Invalid (codes "name is not allowed")
status_of BadLabel = says Invalid (codes "label or annotation is not allowed")
status_of TooManyLabels = says Invalid (codes "more than 256 labels")
status_of TooLarge = says Invalid (codes "object is larger than 65536 bytes")
status_of StoreFailed = says InternalError (codes "the store failed")
status_of NotServed = says NotImplemented (codes "not served")
status_of NoMemory = says ServiceUnavailable (codes "out of memory")

-- the HTTP status
abbrev pub code_of : Refusal → ℕ
code_of refusal = (reason_row (status_of refusal).reason).code

-- the reason in one word
abbrev pub reason_of : Refusal → List ℕ
reason_of refusal = (reason_row (status_of refusal).reason).name

-- the message
abbrev pub message_of : Refusal → List ℕ
message_of refusal = (status_of refusal).message

-- ---- bodies

-- the rule that was broken; of a limit that is passed also which one, and its numbers
abbrev pub details_of : Refusal → Members
details_of (Broken rule) = member (codes "rule") (string (name_of_rule rule)) no_members
details_of (OverQuota ns quota resource used asked hard) =
    member (codes "asked") (string (quantity_text asked)) (member (codes "hard") (string (quantity_text hard)) (member (codes "namespace") (string ns) (member (codes "quota") (string quota)
    (member (codes "resource") (string resource) (member (codes "rule") (string (codes "Q1")) (member (codes "used") (string (quantity_text used)) no_members))))))
details_of _ = no_members

-- the body of a refusal
abbrev pub status_data : Refusal → Data
status_data refusal =
    object (member (codes "apiVersion") (string (codes "v1")) (member (codes "code") (number (unsigned (code_of refusal))) (unless_empty (codes "details") (details_of refusal)
    (member (codes "kind") (string (codes "Status")) (member (codes "message") (string (message_of refusal))
    (member (codes "metadata") (object no_members) (member (codes "reason") (string (reason_of refusal)) (member (codes "status") (string (codes "Failure")) no_members))))))))

-- its text
unfoldable pub status_text : Refusal → List ℕ
status_text refusal = compact_text (status_data refusal)

-- ---- removals

-- the body of a removal, with the version of its write
abbrev pub deleted_data : ℕ → Data
deleted_data version =
    object (member (codes "apiVersion") (string (codes "v1")) (member (codes "kind") (string (codes "Status"))
    (member (codes "metadata") (object (member (codes "resourceVersion") (string (decimal version)) no_members)) (member (codes "status") (string (codes "Success")) no_members))))

-- its text
unfoldable pub deleted_text : ℕ → List ℕ
deleted_text version = compact_text (deleted_data version)
