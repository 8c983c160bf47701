-- Short histories, texts and counts, computed. Each expected value is written out.
use Rattle.std.specs.Prelude.{codes, replicate}
use Rattle.std.proofs.Common.{◌≡◌, ℕ, Bool, true, false, true≢false, List, [], ◌∷◌, Option, None, Some, refl, option_map}
use Rattle.std.specs.Fmt.{digits}
use Rattle.serde_json.proofs.OnLiterals.{serde_json_on_literals}
use Rattle.hx_object.specs.Json.{object_text}
use Rattle.hx_object.specs.Sizes.{size_of, is_tree_key, is_reconciled_key, is_counted}
use Rattle.hx_object.specs.WellKnown.{subnamespace_of}
use Rattle.hx_object.specs.declared.kind.Kind.TheVariants.{Namespace, HierarchyConfiguration, SubnamespaceAnchor, Role, ConfigMap, Service}
use Rattle.hx_object.specs.declared.object.Id.{Id}
use Rattle.hx_object.specs.declared.object.Need.{Need}
use Rattle.hx_object.specs.declared.object.Object.{Object}
use Rattle.hx_object.specs.declared.object.Payload.TheVariants.{Namespace as NamespaceOf, Hierarchy, Anchor, Plain}
use Rattle.hx_object.specs.declared.object.Condition.TheVariants.{ParentMissing, AnchorMissing}
use Rattle.hx_object.specs.declared.object.AnchorStatus.TheVariants.{Ok}
use Rattle.hx_select.specs.Selectors.{everything}
use Rattle.hx_model.specs.declared.ask.Ask.TheVariants.{Get, List as ListOf, Create, Replace, Delete}
use Rattle.hx_model.specs.declared.ask.Answer.TheVariants.{One, Many, Deleted, Refused as Refusing}
use Rattle.hx_model.specs.declared.refusal.Refusal.TheVariants.{BadQuery, NotKind, Broken, NoPath, NotFound, NoMethod, Exists, OtherVersion, TooLong, Missing, WrongType, NotServed}
use Rattle.hx_model.specs.declared.rule.Rule.TheVariants.{N4, L1, L2, L3, L4}
use Rattle.hx_model.specs.declared.key.Write.TheVariants.{Put, Cut}
use Rattle.hx_model.specs.Windows.{opened}
use Rattle.hx_model.proofs.Quiet.{quiet}
use Rattle.hx_model.specs.State.{State, Objects, put, cut, ascends, objects_from, with_version, opening_state, state_after, namespace_id}
use Rattle.hx_model.specs.Texts.{key_text, new_namespace}
use Rattle.hx_model.specs.Json.{list_text}
use Rattle.hx_model.specs.Replies.{status_text, deleted_text, message_about, version_message, said_of}
use Rattle.hx_model.specs.Fields.{no_fields}
use Rattle.hx_model.specs.Limits.{is_copy, counts, names_in, objects_in, bytes_in}
use Rattle.hx_model.specs.Answers.{with_status, same_object, answer_to, refusal_of}
use Rattle.hx_model.specs.Machine.{World, History, Refused, Request, LostRequest, KeeperFault, opening_world, IsLegal, IsHistory, replay, loses_to_fault}
use Rattle.hx_model.specs.declared.config.RunConfig.{RunConfig}

-- nothing is excluded, and nothing skipped
abbrev no_config : RunConfig
no_config = record { excluded = []; allow_skip = false }

abbrev acme : List ℕ
acme = codes "acme"

abbrev team : List ℕ
team = codes "team"

-- the namespace as it is stored
abbrev stored : List ℕ → ℕ → Object
stored name version = with_version (new_namespace name) version

-- the namespace acme with a label
abbrev labelled : ℕ → Object
labelled version = record { id = namespace_id acme; labels = (codes "team", codes "red") ∷ []; annotations = []; payload = NamespaceOf false; version = version }

-- what a world has but hands and keys
record Left : Type 0 where
  state : State
  broken : Bool
  torn : Option State

abbrev left : World → Left
left w = record { state = quiet w.state; broken = w.broken; torn = option_map quiet w.torn }

-- a ConfigMap's identity
abbrev config_id : List ℕ → List ℕ → Id
config_id ns name = record { kind = ConfigMap; ns = ns; name = name }

-- what the members of a ConfigMap need
abbrev nothing : Need
nothing = record { finished = false; token = false; storage = 0; containers = [] }

-- a ConfigMap without members of its own
abbrev config : List ℕ → List ℕ → ℕ → Object
config ns name version = record { id = config_id ns name; labels = []; annotations = []; payload = Plain (codes "{}") nothing; version = version }

-- ---- keys and objects

pub key_of_acme : key_text (namespace_id acme) ≡ codes "01//acme"
unfolding key_text
key_of_acme = refl

pub key_of_role : key_text (record { kind = Role; ns = team; name = codes "r" }) ≡ codes "06/team/r"
unfolding key_text
key_of_role = refl

pub text_of_acme : object_text (stored acme 1) ≡ codes "{\"apiVersion\":\"v1\",\"kind\":\"Namespace\",\"metadata\":{\"name\":\"acme\",\"resourceVersion\":\"1\"},\"status\":{\"phase\":\"Active\"}}"
unfolding object_text digits serde_json_on_literals
text_of_acme = refl

pub text_of_list : list_text Namespace (stored acme 1 ∷ []) 1
    ≡ codes "{\"apiVersion\":\"v1\",\"items\":[{\"apiVersion\":\"v1\",\"kind\":\"Namespace\",\"metadata\":{\"name\":\"acme\",\"resourceVersion\":\"1\"},\"status\":{\"phase\":\"Active\"}}],\"kind\":\"NamespaceList\",\"metadata\":{\"resourceVersion\":\"1\"}}"
unfolding list_text digits serde_json_on_literals
text_of_list = refl

pub text_of_no_roles : list_text Role [] 12 ≡ codes "{\"apiVersion\":\"rbac.authorization.k8s.io/v1\",\"items\":[],\"kind\":\"RoleList\",\"metadata\":{\"resourceVersion\":\"12\"}}"
unfolding list_text digits serde_json_on_literals
text_of_no_roles = refl

pub text_of_deleted : deleted_text 3 ≡ codes "{\"apiVersion\":\"v1\",\"kind\":\"Status\",\"metadata\":{\"resourceVersion\":\"3\"},\"status\":\"Success\"}"
unfolding deleted_text digits serde_json_on_literals
text_of_deleted = refl

-- ---- refusals

pub status_of_query : status_text (BadQuery (codes "resourceVersion"))
    ≡ codes "{\"apiVersion\":\"v1\",\"code\":400,\"kind\":\"Status\",\"message\":\"bad query resourceVersion\",\"metadata\":{},\"reason\":\"BadRequest\",\"status\":\"Failure\"}"
unfolding status_text said_of digits serde_json_on_literals
status_of_query = refl

pub status_of_kind : status_text (NotKind ConfigMap)
    ≡ codes "{\"apiVersion\":\"v1\",\"code\":400,\"kind\":\"Status\",\"message\":\"body is not ConfigMap\",\"metadata\":{},\"reason\":\"BadRequest\",\"status\":\"Failure\"}"
unfolding status_text said_of digits serde_json_on_literals
status_of_kind = refl

pub status_of_path : status_text NoPath ≡ codes "{\"apiVersion\":\"v1\",\"code\":404,\"kind\":\"Status\",\"message\":\"path not served\",\"metadata\":{},\"reason\":\"NotFound\",\"status\":\"Failure\"}"
unfolding status_text digits serde_json_on_literals
status_of_path = refl

pub status_of_role : status_text (NotFound Role (codes "r"))
    ≡ codes "{\"apiVersion\":\"v1\",\"code\":404,\"kind\":\"Status\",\"message\":\"roles.rbac.authorization.k8s.io \\\"r\\\" not found\",\"metadata\":{},\"reason\":\"NotFound\",\"status\":\"Failure\"}"
unfolding status_text message_about digits serde_json_on_literals
status_of_role = refl

pub status_of_method : status_text NoMethod
    ≡ codes "{\"apiVersion\":\"v1\",\"code\":405,\"kind\":\"Status\",\"message\":\"method not served here\",\"metadata\":{},\"reason\":\"MethodNotAllowed\",\"status\":\"Failure\"}"
unfolding status_text digits serde_json_on_literals
status_of_method = refl

pub status_of_exists : status_text (Exists Namespace acme)
    ≡ codes "{\"apiVersion\":\"v1\",\"code\":409,\"kind\":\"Status\",\"message\":\"namespaces \\\"acme\\\" already exists\",\"metadata\":{},\"reason\":\"AlreadyExists\",\"status\":\"Failure\"}"
unfolding status_text message_about digits serde_json_on_literals
status_of_exists = refl

pub status_of_conflict : status_text (OtherVersion Namespace acme 1)
    ≡ codes "{\"apiVersion\":\"v1\",\"code\":409,\"kind\":\"Status\",\"message\":\"namespaces \\\"acme\\\" has version 1\",\"metadata\":{},\"reason\":\"Conflict\",\"status\":\"Failure\"}"
unfolding status_text version_message digits serde_json_on_literals
status_of_conflict = refl

pub status_of_length : status_text TooLong
    ≡ codes "{\"apiVersion\":\"v1\",\"code\":413,\"kind\":\"Status\",\"message\":\"more than 131072 bytes\",\"metadata\":{},\"reason\":\"RequestEntityTooLarge\",\"status\":\"Failure\"}"
unfolding status_text digits serde_json_on_literals
status_of_length = refl

pub status_of_missing : status_text (Missing (codes "metadata.name"))
    ≡ codes "{\"apiVersion\":\"v1\",\"code\":422,\"kind\":\"Status\",\"message\":\"metadata.name is missing\",\"metadata\":{},\"reason\":\"Invalid\",\"status\":\"Failure\"}"
unfolding status_text said_of digits serde_json_on_literals
status_of_missing = refl

pub status_of_type : status_text (WrongType (codes "metadata.name"))
    ≡ codes "{\"apiVersion\":\"v1\",\"code\":422,\"kind\":\"Status\",\"message\":\"metadata.name has the wrong type\",\"metadata\":{},\"reason\":\"Invalid\",\"status\":\"Failure\"}"
unfolding status_text said_of digits serde_json_on_literals
status_of_type = refl

pub status_of_not_served : status_text NotServed ≡ codes "{\"apiVersion\":\"v1\",\"code\":501,\"kind\":\"Status\",\"message\":\"not served\",\"metadata\":{},\"reason\":\"NotImplemented\",\"status\":\"Failure\"}"
unfolding status_text digits serde_json_on_literals
status_of_not_served = refl

-- a broken rule is named in the details
pub status_of_rule : status_text (Broken L4)
    ≡ codes "{\"apiVersion\":\"v1\",\"code\":507,\"details\":{\"rule\":\"L4\"},\"kind\":\"Status\",\"message\":\"no version is left\",\"metadata\":{},\"reason\":\"InsufficientStorage\",\"status\":\"Failure\"}"
unfolding status_text digits serde_json_on_literals
status_of_rule = refl

-- ---- rows

-- identities put the namespace `a` before `a-b`
pub in_order : objects_from (stored (codes "a-b") 2 ∷ stored (codes "a") 1 ∷ []) ≡ stored (codes "a") 1 ∷ stored (codes "a-b") 2 ∷ []
in_order = refl

pub replaced : put (stored acme 2) (stored acme 1 ∷ stored team 1 ∷ []) ≡ stored acme 2 ∷ stored team 1 ∷ []
replaced = refl

pub without_acme : cut (namespace_id acme) (stored acme 1 ∷ stored team 2 ∷ []) ≡ stored team 2 ∷ []
without_acme = refl

pub out_of_order : ascends (stored team 1 ∷ stored acme 2 ∷ []) ≡ false
out_of_order = refl

-- one write of two objects takes one version
pub one_version : quiet (state_after (opening_state no_config 0) (Put (stored acme 1) ∷ Put (stored team 1) ∷ [])) ≡ record { objects = stored acme 1 ∷ stored team 1 ∷ []; last = 1; config = no_config; window = opened 0 }
one_version = refl

-- a write goes on from the last version of the store
pub next_version : quiet (state_after (opening_state no_config 6) (Cut (namespace_id team) ∷ [])) ≡ record { objects = []; last = 7; config = no_config; window = opened 0 }
next_version = refl

-- a write of nothing takes no version
pub no_version : quiet (state_after (opening_state no_config 6) []) ≡ record { objects = []; last = 6; config = no_config; window = opened 0 }
no_version = refl

-- ---- histories

-- acme is created, is there already, and is found; another name isn't, and a line isn't served
abbrev first_requests : History
first_requests =
    Request (Create (new_namespace acme) false) (One (stored acme 1) true)
    ∷ Request (Create (new_namespace acme) false) (Refusing (Exists Namespace acme))
    ∷ Request (Get (namespace_id acme)) (One (stored acme 1) false)
    ∷ Request (Get (namespace_id (codes "none"))) (Refusing (NotFound Namespace (codes "none")))
    ∷ Refused NotServed
    ∷ []

pub first_requests_legal : IsHistory (opening_world false (opening_state no_config 0)) first_requests
unfolding counts
first_requests_legal = ((refl, λ _. refl), ((refl, λ _. refl), ((refl, λ _. refl), ((refl, λ _. refl), (tt, tt)))))

pub first_requests_leave : left (replay (opening_world false (opening_state no_config 0)) first_requests) ≡ record { state = record { objects = stored acme 1 ∷ []; last = 1; config = no_config; window = opened 0 }; broken = false; torn = None }
unfolding counts
first_requests_leave = refl

-- acme is replaced: not where another version is expected, without a write by the same content, and by a new label
abbrev replacements : History
replacements =
    Request (Create (new_namespace acme) false) (One (stored acme 1) true)
    ∷ Request (Replace (new_namespace acme) (Some 7) false) (Refusing (OtherVersion Namespace acme 1))
    ∷ Request (Replace (new_namespace acme) None false) (One (stored acme 1) false)
    ∷ Request (Replace (labelled 0) (Some 1) false) (One (labelled 2) false)
    ∷ Request (Replace (new_namespace team) None false) (Refusing (NotFound Namespace team))
    ∷ []

pub replacements_legal : IsHistory (opening_world false (opening_state no_config 0)) replacements
unfolding same_object counts is_copy
replacements_legal = ((refl, λ _. refl), ((refl, λ _. refl), ((refl, λ _. refl), ((refl, λ _. refl), ((refl, λ _. refl), tt)))))

pub replacements_leave : left (replay (opening_world false (opening_state no_config 0)) replacements) ≡ record { state = record { objects = labelled 2 ∷ []; last = 2; config = no_config; window = opened 0 }; broken = false; torn = None }
unfolding same_object counts is_copy
replacements_leave = refl

-- the same content leaves the state as it is
pub same_content : answer_to (record { objects = stored acme 1 ∷ []; last = 4; config = no_config; window = opened 0 }) (Replace (new_namespace acme) (Some 1) false) ≡ (One (stored acme 1) false, record { objects = stored acme 1 ∷ []; last = 4; config = no_config; window = opened 0 })
unfolding same_object counts is_copy
same_content = refl

-- a namespace on its way out isn't changed any more
pub same_phase : answer_to (record { objects = record (stored acme 1) { payload = NamespaceOf true } ∷ []; last = 4; config = no_config; window = opened 0 }) (Replace (labelled 0) None false)
    ≡ (Refusing (Broken N4), record { objects = record (stored acme 1) { payload = NamespaceOf true } ∷ []; last = 4; config = no_config; window = opened 0 })
unfolding same_object counts is_copy
same_phase = refl

-- a ConfigMap wants its namespace, is listed where it lies, and is removed once
abbrev config_requests : History
config_requests =
    Request (Create (config acme (codes "c") 0) false) (Refusing (NotFound Namespace acme))
    ∷ Request (Create (new_namespace acme) false) (One (stored acme 1) true)
    ∷ Request (Create (config acme (codes "c") 0) false) (One (config acme (codes "c") 2) true)
    ∷ Request (ListOf ConfigMap (Some acme) everything no_fields) (Many ConfigMap (config acme (codes "c") 2 ∷ []) 2)
    ∷ Request (ListOf ConfigMap (Some team) everything no_fields) (Many ConfigMap [] 2)
    ∷ Request (Delete (config_id acme (codes "c")) false) (Deleted 3)
    ∷ Request (Get (config_id acme (codes "c"))) (Refusing (NotFound ConfigMap (codes "c")))
    ∷ Request (Delete (config_id acme (codes "c")) false) (Refusing (NotFound ConfigMap (codes "c")))
    ∷ Request (ListOf ConfigMap None everything no_fields) (Many ConfigMap [] 3)
    ∷ []

pub config_requests_legal : IsHistory (opening_world false (opening_state no_config 0)) config_requests
unfolding counts is_copy size_of
config_requests_legal =
    ((refl, λ _. refl), ((refl, λ _. refl), ((refl, λ _. refl), ((refl, λ _. refl), ((refl, λ _. refl), ((refl, λ _. refl), ((refl, λ _. refl), ((refl, λ _. refl), ((refl, λ _. refl), tt)))))))))

pub config_requests_leave : left (replay (opening_world false (opening_state no_config 0)) config_requests) ≡ record { state = record { objects = stored acme 1 ∷ []; last = 3; config = no_config; window = opened 0 }; broken = false; torn = None }
unfolding counts is_copy size_of
config_requests_leave = refl

-- lists go by namespace and name, `a` before `a-b`
abbrev listings : History
listings =
    Request (Create (new_namespace (codes "a-b")) false) (One (stored (codes "a-b") 1) true)
    ∷ Request (Create (config (codes "a-b") (codes "c") 0) false) (One (config (codes "a-b") (codes "c") 2) true)
    ∷ Request (Create (new_namespace (codes "a")) false) (One (stored (codes "a") 3) true)
    ∷ Request (Create (config (codes "a") (codes "d") 0) false) (One (config (codes "a") (codes "d") 4) true)
    ∷ Request (Create (config (codes "a") (codes "b") 0) false) (One (config (codes "a") (codes "b") 5) true)
    ∷ Request (ListOf ConfigMap None everything no_fields) (Many ConfigMap (config (codes "a") (codes "b") 5 ∷ config (codes "a") (codes "d") 4 ∷ config (codes "a-b") (codes "c") 2 ∷ []) 5)
    ∷ Request (ListOf ConfigMap (Some (codes "a")) everything no_fields) (Many ConfigMap (config (codes "a") (codes "b") 5 ∷ config (codes "a") (codes "d") 4 ∷ []) 5)
    ∷ Request (ListOf Namespace None everything no_fields) (Many Namespace (stored (codes "a") 3 ∷ stored (codes "a-b") 1 ∷ []) 5)
    ∷ []

pub listings_legal : IsHistory (opening_world false (opening_state no_config 0)) listings
unfolding counts is_copy size_of
listings_legal = ((refl, λ _. refl), ((refl, λ _. refl), ((refl, λ _. refl), ((refl, λ _. refl), ((refl, λ _. refl), ((refl, λ _. refl), ((refl, λ _. refl), ((refl, λ _. refl), tt))))))))

pub listings_leave : left (replay (opening_world false (opening_state no_config 0)) listings) ≡ record {
  state = record { objects = stored (codes "a") 3 ∷ stored (codes "a-b") 1 ∷ config (codes "a") (codes "b") 5 ∷ config (codes "a") (codes "d") 4 ∷ config (codes "a-b") (codes "c") 2 ∷ []; last = 5; config = no_config; window = opened 0 };
  broken = false;
  torn = None;
}
unfolding counts is_copy size_of
listings_leave = refl

-- a store whose versions are used up answers reads, and takes no write
abbrev used_up : History
used_up =
    Request (Create (new_namespace acme) false) (Refusing (Broken L4))
    ∷ Request (Get (namespace_id acme)) (Refusing (NotFound Namespace acme))
    ∷ Request (ListOf Namespace None everything no_fields) (Many Namespace [] 9223372036854775807)
    ∷ []

pub used_up_legal : IsHistory (opening_world false (opening_state no_config 9223372036854775807)) used_up
unfolding counts
used_up_legal = ((refl, λ _. refl), ((refl, λ _. refl), ((refl, λ _. refl), tt)))

pub used_up_leaves : left (replay (opening_world false (opening_state no_config 9223372036854775807)) used_up) ≡ record { state = record { objects = []; last = 9223372036854775807; config = no_config; window = opened 0 }; broken = false; torn = None }
unfolding counts
used_up_leaves = refl

-- the last version is given out
pub last_version : IsLegal (opening_world false (opening_state no_config 9223372036854775806)) (Request (Create (new_namespace acme) false) (One (stored acme 9223372036854775807) true))
unfolding counts
last_version = (refl, λ _. refl)

-- the third of three writes fails: reads go on, each later write fails, and the store may hold the third
abbrev third_fails : History
third_fails =
    Request (Create (new_namespace (codes "a")) false) (One (stored (codes "a") 1) true)
    ∷ Request (Create (new_namespace (codes "b")) false) (One (stored (codes "b") 2) true)
    ∷ LostRequest (Create (new_namespace (codes "c")) false) KeeperFault
    ∷ Request (Get (namespace_id (codes "c"))) (Refusing (NotFound Namespace (codes "c")))
    ∷ LostRequest (Create (new_namespace (codes "d")) false) KeeperFault
    ∷ []

pub third_fails_legal : IsHistory (opening_world false (opening_state no_config 0)) third_fails
unfolding counts
third_fails_legal = ((refl, λ _. refl), ((refl, λ _. refl), ((refl, λ none. cc), ((refl, λ changes. absurd (changes.1 refl)), ((refl, λ none. cc), tt)))))

pub third_fails_leaves : left (replay (opening_world false (opening_state no_config 0)) third_fails) ≡ record {
  state = record { objects = stored (codes "a") 1 ∷ stored (codes "b") 2 ∷ []; last = 2; config = no_config; window = opened 0 };
  broken = true;
  torn = Some (record { objects = stored (codes "a") 1 ∷ stored (codes "b") 2 ∷ stored (codes "c") 3 ∷ []; last = 3; config = no_config; window = opened 0 });
}
unfolding counts
third_fails_leaves = refl

pub third_fails_loses : loses_to_fault third_fails ≡ true
third_fails_loses = refl

-- a broken store takes no write
pub no_write_when_broken : IsLegal (opening_world true (opening_state no_config 0)) (Request (Create (new_namespace acme) false) (One (stored acme 1) true)) → ⊥
unfolding counts
no_write_when_broken legal = true≢false (legal.1 (refl, λ none. cc))

-- a broken store answers a replacement by the same content, which writes nothing
pub same_content_when_broken : IsLegal (record { state = record { objects = stored acme 1 ∷ []; last = 1; config = no_config; window = opened 0 }; hands = []; marked = λ _. false; broken = true; torn = None }) (Request (Replace (new_namespace acme) None false) (One (stored acme 1) false))
unfolding same_object counts is_copy
same_content_when_broken = (refl, λ changes. absurd (changes.1 refl))

-- an answer from another state isn't legal
pub no_stale_answer : IsLegal (replay (opening_world false (opening_state no_config 0)) first_requests) (Request (Get (namespace_id acme)) (Refusing (NotFound Namespace acme))) → ⊥
unfolding counts
no_stale_answer legal = absurd (let e : Refusing (NotFound Namespace acme) ≡ One (stored acme 1) false = legal.0 in cc)

-- ---- what is reported, and what counts

-- a replacement takes parent and cascade, and keeps children and conditions
pub reports_stay : with_status (Hierarchy (Some acme) false (codes "child" ∷ []) (ParentMissing ∷ [])) (Hierarchy (Some team) true [] (AnchorMissing ∷ [])) ≡ Hierarchy (Some team) true (codes "child" ∷ []) (ParentMissing ∷ [])
reports_stay = refl

pub phase_stays : with_status (NamespaceOf true) (NamespaceOf false) ≡ NamespaceOf true
phase_stays = refl

pub anchor_status_stays : with_status (Anchor (Some Ok)) (Anchor None) ≡ Anchor (Some Ok)
anchor_status_stays = refl

-- a plain kind has nothing that is reported
pub members_change : with_status (Plain (codes "{}") nothing) (Plain (codes "{\"data\":{}}") nothing) ≡ Plain (codes "{\"data\":{}}") nothing
members_change = refl

abbrev anchor : List ℕ → List ℕ → Object
anchor ns name = record { id = record { kind = SubnamespaceAnchor; ns = ns; name = name }; labels = []; annotations = []; payload = Anchor None; version = 1 }

-- the names a, b, d and c: an anchor of a namespace's name adds none, and two anchors of one name add one
abbrev named : Objects
named =
    stored (codes "a") 1 ∷ stored (codes "b") 1 ∷ stored (codes "d") 1
    ∷ anchor (codes "b") (codes "a") ∷ anchor (codes "b") (codes "c") ∷ anchor (codes "d") (codes "c") ∷ []

pub four_names : names_in named ≡ 4
four_names = refl

-- a HierarchyConfiguration without a parent
abbrev hierarchy : List ℕ → Object
hierarchy ns = record { id = record { kind = HierarchyConfiguration; ns = ns; name = codes "hierarchy" }; labels = []; annotations = []; payload = Hierarchy None false [] []; version = 1 }

-- a Role with labels
abbrev role : List (List ℕ × List ℕ) → Object
role labels = record { id = record { kind = Role; ns = acme; name = codes "r" }; labels = labels; annotations = []; payload = Plain (codes "{}") nothing; version = 1 }

-- a copy from another namespace
abbrev copied : Object
copied = role ((codes "hnc.x-k8s.io/inherited-from", team) ∷ [])

-- namespaces, HierarchyConfigurations and copies don't count
pub none_count : objects_in (stored acme 1 ∷ hierarchy acme ∷ copied ∷ []) ≡ 0
unfolding counts is_copy
none_count = refl

pub no_bytes_count : bytes_in (stored acme 1 ∷ hierarchy acme ∷ copied ∷ []) ≡ 0
unfolding counts is_copy
no_bytes_count = refl

-- an anchor and the other Roles do
pub two_count : objects_in (stored acme 1 ∷ anchor acme team ∷ role ((codes "team", codes "red") ∷ []) ∷ []) ≡ 2
unfolding counts is_copy
two_count = refl

-- two bytes of the anchor's `{}`, seven of the Role's label, and two of its `{}`
pub eleven_bytes : bytes_in (stored acme 1 ∷ anchor acme team ∷ role ((codes "team", codes "red") ∷ []) ∷ []) ≡ 11
unfolding counts is_copy size_of is_counted is_tree_key is_reconciled_key
eleven_bytes = refl

-- the label makes no copy of a Service, which isn't copied down a tree
pub service_counts : objects_in (record copied { id = record { kind = Service; ns = acme; name = codes "r" } } ∷ []) ≡ 1
unfolding counts is_copy
service_counts = refl

-- ---- limits

-- acme, and so many objects of one kind, of which only the number counts here
abbrev crowd : ℕ → Object → State
crowd count x = record { objects = stored acme 1 ∷ replicate count x; last = 1; config = no_config; window = opened 0 }

-- the 4,096th name is taken, and the next one isn't
pub last_name : refusal_of (crowd 4094 (stored team 1)) (Create (new_namespace (codes "a")) false) ≡ None
unfolding counts
last_name = refl

pub no_name_is_left : refusal_of (crowd 4095 (stored team 1)) (Create (new_namespace (codes "a")) false) ≡ Some (Broken L1)
unfolding counts
no_name_is_left = refl

-- a subnamespace of acme
abbrev owned : List ℕ → ℕ → Object
owned name version = record (stored name version) { annotations = (subnamespace_of, acme) ∷ [] }

-- an anchor of a namespace's name brings no name
pub old_name : refusal_of (crowd 4095 (owned team 1)) (Create (anchor acme team) false) ≡ None
unfolding counts is_copy size_of
old_name = refl

pub last_object : refusal_of (crowd 65535 (role [])) (Create (config acme (codes "c") 0) false) ≡ None
unfolding counts is_copy size_of
last_object = refl

pub no_object_is_left : refusal_of (crowd 65536 (role [])) (Create (config acme (codes "c") 0) false) ≡ Some (Broken L2)
unfolding counts is_copy size_of
no_object_is_left = refl

-- an object of the greatest size, of which 4,096 make up the greatest sum
abbrev big : List ℕ → Object
big name = record { id = config_id acme name; labels = []; annotations = []; payload = Plain (replicate 65536 97) nothing; version = 0 }

pub last_bytes : refusal_of (crowd 4095 (big (codes "a"))) (Create (big (codes "b")) false) ≡ None
unfolding counts is_copy size_of
last_bytes = refl

pub no_byte_is_left : refusal_of (crowd 4096 (big (codes "a"))) (Create (config acme (codes "b") 0) false) ≡ Some (Broken L3)
unfolding counts is_copy size_of
no_byte_is_left = refl

-- ---- which refusal comes first

-- a namespace and a ConfigMap, and no version is left
abbrev ended : State
ended = record { objects = stored acme 1 ∷ config acme (codes "c") 2 ∷ []; last = 9223372036854775807; config = no_config; window = opened 0 }

pub place_before_version : refusal_of ended (Replace (new_namespace team) (Some 7) false) ≡ Some (NotFound Namespace team)
place_before_version = refl

pub place_before_limits : refusal_of ended (Create (new_namespace acme) false) ≡ Some (Exists Namespace acme)
place_before_limits = refl

pub version_before_limits : refusal_of ended (Replace (labelled 0) (Some 7) false) ≡ Some (OtherVersion Namespace acme 1)
version_before_limits = refl

pub names_before_versions : refusal_of (record (crowd 4095 (stored team 1)) { last = 9223372036854775807 }) (Create (new_namespace (codes "a")) false) ≡ Some (Broken L1)
unfolding counts
names_before_versions = refl

-- a change and a removal want a version
pub change_is_refused : refusal_of ended (Replace (labelled 0) (Some 1) false) ≡ Some (Broken L4)
unfolding same_object counts is_copy size_of
change_is_refused = refl

pub removal_is_refused : refusal_of ended (Delete (config_id acme (codes "c")) false) ≡ Some (Broken L4)
unfolding counts is_copy size_of
removal_is_refused = refl

-- the same content wants none
pub same_content_passes : refusal_of ended (Replace (new_namespace acme) (Some 1) false) ≡ None
unfolding same_object counts is_copy size_of
same_content_passes = refl
