-- No resource of the cluster has a namespace.
use Rattle.std.proofs.Common.{◌≡◌, ℕ, List, [], ◌∷◌, Bool, true, false, cond, not, true≢false, Option, Some, None, Ok, Err, IfSome, option_map, option_and_then, codes, refl, sym, subst, ◌∙◌}
use Rattle.std.specs.Str.{bytes_eq}
use Rattle.hx_object.specs.Kinds.{is_in_cluster}
use Rattle.hx_object.specs.declared.kind.Kind.{Kind}
use Rattle.std.specs.Option.{option_or}
use Rattle.hx_discovery.specs.Documents.{document_on}
use Rattle.hx_discovery.specs.declared.document.Document.{Document as DocumentOf}
use Rattle.hx_model.specs.First.{so}
use Rattle.hx_model.specs.declared.refusal.Refusal.TheVariants.{NoMethod}
use Rattle.hx_api.specs.Asks.{resource_for, readable}
use Rattle.hx_api.specs.Paths.{allows, decoded_object, decoded_resource, is_blank, is_namespaces, kind_under, cluster_kind, named_by, resource_of, resource_of_parts, resource_under, core_resource, group_resource, root_resource, parts_of, same_parts, segment_text}
use Rattle.hx_api.specs.Inside.{FitsScope}
use Rattle.hx_http.specs.declared.method.Method.{Method}
use Rattle.hx_api.specs.declared.resource_path.ResourcePath.{ResourcePath}
use Rattle.hx_api.specs.declared.resource_path.ResourcePath.TheVariants.{Events, Document, Collection, Object}

abbrev FitScope : Option (ResourcePath (List ℕ)) → Type 0
FitScope o = IfSome o FitsScope

either : (b : Bool) (o p : Option (ResourcePath (List ℕ))) → FitScope o → FitScope p → FitScope (cond b o p)
either true o p h k = h
either false o p h k = k

-- ---- places that paths name

all_of : (o : Option Kind) → FitScope (option_map (λ kind. Collection kind None) o)
all_of None = tt
all_of (Some kind) = λ _. refl

one_of : (o : Option Kind) (name : List ℕ) → FitScope (option_map (λ kind. Object kind None name) o)
one_of None name = tt
one_of (Some kind) name = λ _. refl

all_in : (o : Option Kind) (ns : List ℕ) → FitScope (option_map (λ kind. Collection kind (Some ns)) (option_and_then (λ kind. so (not (is_in_cluster kind)) kind) o))
all_in None ns = tt
all_in (Some kind) ns = by (is_in_cluster kind) refl
  where
    by : (b : Bool) → is_in_cluster kind ≡ b → FitScope (option_map (λ k. Collection k (Some ns)) (so (not b) kind))
    by true is = tt
    by false is = λ cluster. absurd (true≢false (sym cluster ∙ is))

one_in : (o : Option Kind) (ns name : List ℕ) → FitScope (option_map (λ kind. Object kind (Some ns) name) (option_and_then (λ kind. so (not (is_in_cluster kind)) kind) o))
one_in None ns name = tt
one_in (Some kind) ns name = by (is_in_cluster kind) refl
  where
    by : (b : Bool) → is_in_cluster kind ≡ b → FitScope (option_map (λ k. Object k (Some ns) name) (so (not b) kind))
    by true is = tt
    by false is = λ cluster. absurd (true≢false (sym cluster ∙ is))

under : (version parts : List (List ℕ)) → FitScope (resource_under version parts)
under version [] = tt
under version (plural ∷ []) = all_of (kind_under version plural)
under version (plural ∷ name ∷ []) = either (is_blank name) None _ tt (one_of (cluster_kind version plural) name)
under version (word ∷ ns ∷ plural ∷ []) = either (is_namespaces word) _ None (either (is_blank ns) None _ tt (all_in (kind_under version plural) ns)) tt
under version (word ∷ ns ∷ plural ∷ name ∷ []) =
    either (is_namespaces word) _ None (either (is_blank ns) None _ tt (either (is_blank name) None _ tt (one_in (kind_under version plural) ns name))) tt
under version (word ∷ ns ∷ plural ∷ name ∷ more ∷ parts) = tt

core : (parts : List (List ℕ)) → FitScope (core_resource parts)
core [] = tt
core (version ∷ parts) = under (version ∷ []) parts

group : (parts : List (List ℕ)) → FitScope (group_resource parts)
group [] = tt
group (word ∷ []) = tt
group (word ∷ version ∷ parts) = under (word ∷ version ∷ []) parts

feed : (b : Bool) → FitScope (so b Events)
feed true = tt
feed false = tt

root : (word : List ℕ) (parts : List (List ℕ)) → FitScope (root_resource word parts)
root word parts =
    either (bytes_eq word (codes "api")) _ _ (core parts) (either (bytes_eq word (codes "apis")) _ _ (group parts)
    (either (bytes_eq word (codes "hnc")) _ None (feed (same_parts parts (codes "v1" ∷ codes "events" ∷ []))) tt))

of_parts : (parts : List (List ℕ)) → FitScope (resource_of_parts parts)
of_parts [] = tt
of_parts (first ∷ []) = tt
of_parts (first ∷ word ∷ parts) = either (is_blank first) _ None (root word parts) tt

of_path : (path : List ℕ) → FitScope (resource_of path)
unfolding resource_of
of_path path = of_parts (parts_of path)

at_document : (o : Option DocumentOf) → FitScope (option_map (λ document. Document document) o)
at_document None = tt
at_document (Some document) = tt

first_of : (o p : Option (ResourcePath (List ℕ))) → FitScope o → FitScope p → FitScope (option_or o p)
first_of None p h k = k
first_of (Some resource) p h k = h

named : (path : List ℕ) → FitScope (named_by path)
named path = first_of (resource_of path) _ (of_path path) (at_document (document_on path))

-- ---- decoded places

collection_text : (kind : Kind) (o : Option (List ℕ)) → (is_in_cluster kind ≡ true → ⊥) → FitScope (option_map (λ text. Collection kind text) (option_map (λ text. Some text) o))
collection_text kind None no_cluster = tt
collection_text kind (Some text) no_cluster = λ cluster. absurd (no_cluster cluster)

object_text : (kind : Kind) (o : Option (List ℕ)) → FitScope (decoded_object kind (Some None) o)
object_text kind None = tt
object_text kind (Some name) = λ _. refl

object_texts : (kind : Kind) (o p : Option (List ℕ)) → (is_in_cluster kind ≡ true → ⊥) → FitScope (decoded_object kind (option_map (λ text. Some text) o) p)
object_texts kind None p no_cluster = tt
object_texts kind (Some ns) None no_cluster = tt
object_texts kind (Some ns) (Some name) no_cluster = λ cluster. absurd (no_cluster cluster)

none : (ns : List ℕ) → Some ns ≡ None → ⊥
none ns e = cc

decoded : (resource : ResourcePath (List ℕ)) → FitsScope resource → FitScope (decoded_resource resource)
decoded Events h = tt
decoded (Document document) h = tt
decoded (Collection kind None) h = λ _. refl
decoded (Collection kind (Some ns)) h = collection_text kind (segment_text ns) (λ cluster. none ns (h cluster))
decoded (Object kind None name) h = object_text kind (segment_text name)
decoded (Object kind (Some ns) name) h = object_texts kind (segment_text ns) (segment_text name) (λ cluster. none ns (h cluster))

is_readable : (o : Option (ResourcePath (List ℕ))) (resource : ResourcePath (List ℕ)) → FitScope o → readable o ≡ Ok resource → FitsScope resource
is_readable None resource h e = absurd (cc)
is_readable (Some found) resource h e = let same : found ≡ resource = cc in subst FitsScope same h

is_taken : (b : Bool) (found : ResourcePath (List ℕ)) (resource : ResourcePath (List ℕ)) → FitsScope found → cond b (readable (decoded_resource found)) (Err NoMethod) ≡ Ok resource → FitsScope resource
is_taken true found resource h e = is_readable (decoded_resource found) resource (decoded found h) e
is_taken false found resource h e = absurd (cc)

is_found : (method : Method) (o : Option (ResourcePath (List ℕ))) (resource : ResourcePath (List ℕ)) → FitScope o → resource_for method o ≡ Ok resource → FitsScope resource
is_found method None resource h e = absurd (cc)
is_found method (Some found) resource h e = is_taken (allows found method) found resource h e

-- the resource of a request
pub fits_scope : (method : Method) (path : List ℕ) (resource : ResourcePath (List ℕ)) → resource_for method (named_by path) ≡ Ok resource → FitsScope resource
fits_scope method path resource e = is_found method (named_by path) resource (named path) e
