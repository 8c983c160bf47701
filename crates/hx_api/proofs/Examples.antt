-- Paths and requests on examples.
use Rattle.std.proofs.Common.{◌≡◌, [], false, Some, None, Ok, Err, codes, refl}
use Rattle.std.specs.Str.{is_utf8, chars}
use Rattle.std.specs.Str.Lossy.{utf8_lossy, utf8_valid_len}
use lib.Utf8.{encode}
use Rattle.form_urlencoded.proofs.OnLiterals.{form_urlencoded_on_literals}
use Rattle.hx_object.specs.declared.kind.Kind.TheVariants.{Namespace, Role, Pod, Secret}
use Rattle.hx_select.specs.Selectors.{everything, selector_of}
use Rattle.hx_model.specs.declared.ask.Ask.TheVariants as of
use Rattle.hx_discovery.specs.Documents.{document_on}
use Rattle.hx_discovery.specs.declared.document.Document.TheVariants.{Groups, Resources}
use Rattle.hx_discovery.specs.declared.group.ApiGroup.TheVariants.{Hnc}
use Rattle.hx_model.specs.declared.refusal.Refusal.TheVariants.{NoMethod, NoPath, BadQuery}
use Rattle.hx_model.specs.Fields.{no_fields}
use Rattle.hx_api.specs.Asks.{ask_of}
use Rattle.hx_api.specs.FieldSelectors.{are_fields, fields_in}
use Rattle.hx_api.specs.Paths.{resource_of, segment_text}
use Rattle.hx_api.specs.Queries.{bad_parameter, parameters_of}
use Rattle.hx_http.specs.declared.method.Method.TheVariants.{Get, Post, Delete}
use Rattle.hx_api.specs.declared.resource_path.ResourcePath.TheVariants.{Events, Collection, Object}

all_pods : resource_of (codes "/api/v1/pods") ≡ Some (Collection Pod None)
unfolding resource_of
all_pods = refl

roles_in : resource_of (codes "/apis/rbac.authorization.k8s.io/v1/namespaces/acme/roles") ≡ Some (Collection Role (Some (codes "acme")))
unfolding resource_of
roles_in = refl

secret : resource_of (codes "/api/v1/namespaces/acme/secrets/key") ≡ Some (Object Secret (Some (codes "acme")) (codes "key"))
unfolding resource_of
secret = refl

namespace : resource_of (codes "/api/v1/namespaces/acme") ≡ Some (Object Namespace None (codes "acme"))
unfolding resource_of
namespace = refl

events : resource_of (codes "/hnc/v1/events") ≡ Some Events
unfolding resource_of
events = refl

no_name : resource_of (codes "/api/v1/namespaces/") ≡ None
unfolding resource_of
no_name = refl

roles_of_the_core : resource_of (codes "/api/v1/roles") ≡ None
unfolding resource_of
roles_of_the_core = refl

pod_of_the_cluster : resource_of (codes "/api/v1/pods/a") ≡ None
unfolding resource_of
pod_of_the_cluster = refl

-- the method is tried before the segments and the query
method_first : ask_of Post (codes "/api/v1/namespaces/%ff?watch=1") [] ≡ Err NoMethod
unfolding ask_of resource_of
method_first = refl

second_watch : ask_of Get (codes "/api/v1/pods?watch=&watch=1") [] ≡ Ok (of.List Pod None everything no_fields)
unfolding ask_of resource_of bad_parameter are_fields fields_in parameters_of form_urlencoded_on_literals utf8_lossy utf8_valid_len is_utf8 chars encode
second_watch = refl

bad_watch : ask_of Get (codes "/api/v1/pods?watch=1") [] ≡ Err (BadQuery (codes "watch"))
unfolding ask_of resource_of bad_parameter are_fields fields_in parameters_of form_urlencoded_on_literals utf8_lossy utf8_valid_len is_utf8 chars encode
bad_watch = refl

-- the selector of a list is tried before the other parameters, and only that of a list
bad_selector : ask_of Get (codes "/api/v1/pods?watch=1&labelSelector=,&labelSelector=") [] ≡ Err (BadQuery (codes "labelSelector"))
unfolding ask_of resource_of bad_parameter are_fields fields_in selector_of parameters_of form_urlencoded_on_literals utf8_lossy utf8_valid_len is_utf8 chars encode
bad_selector = refl

selector_of_an_object : ask_of Get (codes "/api/v1/namespaces/a?labelSelector=,") [] ≡ Ok (of.Get (record { kind = Namespace; ns = []; name = codes "a" }))
unfolding ask_of resource_of segment_text bad_parameter are_fields fields_in parameters_of form_urlencoded_on_literals utf8_lossy utf8_valid_len is_utf8 chars encode
selector_of_an_object = refl

empty_selector : ask_of Get (codes "/api/v1/pods?labelSelector=&labelSelector=,") [] ≡ Ok (of.List Pod None everything no_fields)
unfolding ask_of resource_of bad_parameter are_fields fields_in parameters_of form_urlencoded_on_literals utf8_lossy utf8_valid_len is_utf8 chars encode
empty_selector = refl

decoded : ask_of Get (codes "/api/v1/namespaces/a%2Fb") [] ≡ Ok (of.Get (record { kind = Namespace; ns = []; name = codes "a/b" }))
unfolding ask_of resource_of segment_text bad_parameter are_fields fields_in parameters_of form_urlencoded_on_literals is_utf8 chars encode
decoded = refl

removal : ask_of Delete (codes "/api/v1/namespaces/a") [] ≡ Ok (of.Delete (record { kind = Namespace; ns = []; name = codes "a" }) false)
unfolding ask_of resource_of segment_text bad_parameter are_fields fields_in parameters_of form_urlencoded_on_literals is_utf8 chars encode
removal = refl

-- ---- documents and field selectors

groups : ask_of Get (codes "/apis?timeout=32s") [] ≡ Ok (of.Document Groups)
unfolding ask_of resource_of document_on bad_parameter are_fields fields_in parameters_of form_urlencoded_on_literals utf8_lossy utf8_valid_len is_utf8 chars encode
groups = refl

resources : ask_of Get (codes "/apis/hnc.x-k8s.io/v1alpha2") [] ≡ Ok (of.Document (Resources Hnc))
unfolding ask_of resource_of document_on bad_parameter are_fields fields_in parameters_of form_urlencoded_on_literals utf8_lossy utf8_valid_len is_utf8 chars encode
resources = refl

made_document : ask_of Post (codes "/api/v1") [] ≡ Err NoMethod
unfolding ask_of resource_of document_on
made_document = refl

no_document : ask_of Get (codes "/apis/apps/v1") [] ≡ Err NoPath
unfolding ask_of resource_of document_on
no_document = refl

by_name : ask_of Get (codes "/api/v1/pods?fieldSelector=metadata.name%3Da") [] ≡ Ok (of.List Pod None everything (record { name = Some (codes "a"); ns = None }))
unfolding ask_of resource_of bad_parameter are_fields fields_in parameters_of form_urlencoded_on_literals utf8_lossy utf8_valid_len is_utf8 chars encode
by_name = refl

by_both : ask_of Get (codes "/api/v1/pods?fieldSelector=metadata.namespace=b,metadata.name=a") [] ≡ Ok (of.List Pod None everything (record { name = Some (codes "a"); ns = Some (codes "b") }))
unfolding ask_of resource_of bad_parameter are_fields fields_in parameters_of form_urlencoded_on_literals utf8_lossy utf8_valid_len is_utf8 chars encode
by_both = refl

other_field : ask_of Get (codes "/api/v1/pods?fieldSelector=status.phase=Running") [] ≡ Err (BadQuery (codes "fieldSelector"))
unfolding ask_of resource_of bad_parameter are_fields fields_in parameters_of form_urlencoded_on_literals utf8_lossy utf8_valid_len is_utf8 chars encode
other_field = refl

field_twice : ask_of Get (codes "/api/v1/pods?fieldSelector=metadata.name=a,metadata.name=b") [] ≡ Err (BadQuery (codes "fieldSelector"))
unfolding ask_of resource_of bad_parameter are_fields fields_in parameters_of form_urlencoded_on_literals utf8_lossy utf8_valid_len is_utf8 chars encode
field_twice = refl

field_of_an_object : ask_of Get (codes "/api/v1/namespaces/a?fieldSelector=metadata.name=a") [] ≡ Err (BadQuery (codes "fieldSelector"))
unfolding ask_of resource_of segment_text bad_parameter are_fields fields_in parameters_of form_urlencoded_on_literals utf8_lossy utf8_valid_len is_utf8 chars encode
field_of_an_object = refl

-- ---- the feed of events

feed_since : ask_of Get (codes "/hnc/v1/events?since=7") [] ≡ Ok (of.Events 7)
unfolding ask_of resource_of bad_parameter are_fields fields_in parameters_of form_urlencoded_on_literals utf8_lossy utf8_valid_len is_utf8 chars encode
feed_since = refl

feed_from_the_start : ask_of Get (codes "/hnc/v1/events?since=0") [] ≡ Ok (of.Events 0)
unfolding ask_of resource_of bad_parameter are_fields fields_in parameters_of form_urlencoded_on_literals utf8_lossy utf8_valid_len is_utf8 chars encode
feed_from_the_start = refl

feed_decoded : ask_of Get (codes "/hnc/v1/events?since=%31%32") [] ≡ Ok (of.Events 12)
unfolding ask_of resource_of bad_parameter are_fields fields_in parameters_of form_urlencoded_on_literals utf8_lossy utf8_valid_len is_utf8 chars encode
feed_decoded = refl

feed_alone : ask_of Get (codes "/hnc/v1/events") [] ≡ Err (BadQuery (codes "since"))
unfolding ask_of resource_of bad_parameter are_fields fields_in parameters_of form_urlencoded_on_literals utf8_lossy utf8_valid_len is_utf8 chars encode
feed_alone = refl

feed_since_nothing : ask_of Get (codes "/hnc/v1/events?since=") [] ≡ Err (BadQuery (codes "since"))
unfolding ask_of resource_of bad_parameter are_fields fields_in parameters_of form_urlencoded_on_literals utf8_lossy utf8_valid_len is_utf8 chars encode
feed_since_nothing = refl

feed_zero_first : ask_of Get (codes "/hnc/v1/events?since=07") [] ≡ Err (BadQuery (codes "since"))
unfolding ask_of resource_of bad_parameter are_fields fields_in parameters_of form_urlencoded_on_literals utf8_lossy utf8_valid_len is_utf8 chars encode
feed_zero_first = refl

feed_long : ask_of Get (codes "/hnc/v1/events?since=12345678901234567890") [] ≡ Err (BadQuery (codes "since"))
unfolding ask_of resource_of bad_parameter are_fields fields_in parameters_of form_urlencoded_on_literals utf8_lossy utf8_valid_len is_utf8 chars encode
feed_long = refl

feed_second_since : ask_of Get (codes "/hnc/v1/events?since=1&since=x") [] ≡ Ok (of.Events 1)
unfolding ask_of resource_of bad_parameter are_fields fields_in parameters_of form_urlencoded_on_literals utf8_lossy utf8_valid_len is_utf8 chars encode
feed_second_since = refl

-- a version out of form comes before the parameters behind it, and one that is missing after them
feed_bad_since_first : ask_of Get (codes "/hnc/v1/events?watch=1&since=x") [] ≡ Err (BadQuery (codes "since"))
unfolding ask_of resource_of bad_parameter are_fields fields_in parameters_of form_urlencoded_on_literals utf8_lossy utf8_valid_len is_utf8 chars encode
feed_bad_since_first = refl

feed_no_since_last : ask_of Get (codes "/hnc/v1/events?watch=1") [] ≡ Err (BadQuery (codes "watch"))
unfolding ask_of resource_of bad_parameter are_fields fields_in parameters_of form_urlencoded_on_literals utf8_lossy utf8_valid_len is_utf8 chars encode
feed_no_since_last = refl

feed_no_labels : ask_of Get (codes "/hnc/v1/events?since=1&labelSelector=,") [] ≡ Ok (of.Events 1)
unfolding ask_of resource_of bad_parameter are_fields fields_in parameters_of form_urlencoded_on_literals utf8_lossy utf8_valid_len is_utf8 chars encode
feed_no_labels = refl

made_feed : ask_of Post (codes "/hnc/v1/events?since=x") [] ≡ Err NoMethod
unfolding ask_of resource_of
made_feed = refl

-- elsewhere the parameter is ignored
since_of_a_list : ask_of Get (codes "/api/v1/pods?since=x") [] ≡ Ok (of.List Pod None everything no_fields)
unfolding ask_of resource_of bad_parameter are_fields fields_in parameters_of form_urlencoded_on_literals utf8_lossy utf8_valid_len is_utf8 chars encode
since_of_a_list = refl
