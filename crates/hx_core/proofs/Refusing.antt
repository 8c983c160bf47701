-- Refusals of the machine are a request's own entry: want of memory and a fault of the store aren't among them.
--     refusal_entry     the entry of a request that is refused
use Rattle.std.proofs.Common.{◌≡◌, ℕ, ◌+◌, Bool, true, false, List, [], ◌∷◌, None, Some, Option, refl, subst, is_none, is_some}
use Rattle.std.specs.Prelude.{◌&&◌, nat_lt, nat_le, option_map, option_and_then}
use Rattle.hx_model.specs.Answers.{refusal_of, place_refusal, version_refusal, rule_refusal, quota_refusal, limit_refusals, other_version, lacks_namespace, case_of, not_found, already_there, brings_name, brings_object, exceeds_bytes, is_some_write, writes_of}
use Rattle.hx_model.specs.Charges.{hard_of, resource_named}
use Rattle.hx_model.specs.First.{so, first, first_of, or_else}
use Rattle.hx_model.specs.Limits.{most_names, most_objects, greatest_version, names_in, objects_in}
use Rattle.hx_model.specs.Machine.{Request}
use Rattle.hx_model.specs.Quotas.{quotas_for, used, rise_of, asks_anew, is_lacking, over_by, over_limit, over_quota, first_over, refused_by_quotas}
use Rattle.hx_model.specs.Requests.{request_entry}
use Rattle.hx_model.specs.Rules.{rules}
use Rattle.hx_model.specs.State.{State, object_at, after_writes}
use Rattle.hx_model.specs.declared.ask.Ask.{Ask}
use Rattle.hx_model.specs.declared.ask.Ask.TheVariants.{Get, List as ListOf, Create, Replace, Delete, Document as DocumentOf, Events as EventsSince}
use Rattle.hx_model.specs.declared.ask.Answer.TheVariants.{Refused as Refusing}
use Rattle.hx_model.specs.declared.refusal.Refusal.{Refusal}
use Rattle.hx_model.specs.declared.refusal.Refusal.TheVariants as refused_as
use Rattle.hx_model.specs.Cases.{Case}
use Rattle.hx_model.specs.Denials.{refusal_by}
use Rattle.hx_model.specs.declared.denial.Denial.{Denial}
use Rattle.hx_model.specs.declared.denial.Denial.TheVariants.{NoNamespace, NotFound, Exists, OtherVersion, Broken}
use Rattle.hx_object.specs.declared.object.Id.{Id}
use Rattle.hx_object.specs.declared.object.Limit.{Limit}
use Rattle.hx_object.specs.declared.object.Object.{Object}
use Rattle.hx_model.specs.declared.resource.Resource.{Resource}
use Rattle.hx_model.specs.declared.rule.Rule.TheVariants.{Q2, L1, L2, L3, L4}

-- ---- refusals are a request's own entry

-- the entry of a refusal is that of the request
abbrev IsOwn : Ask → Option Refusal → Type 0
IsOwn ask found = (refusal : Refusal) → found ≡ Some refusal → request_entry ask (Refusing refusal) ≡ Request ask (Refusing refusal)

own_none : (ask : Ask) → IsOwn ask None
own_none ask refusal e = absurd (let h = e in cc)

own_so : (ask : Ask) (test : Bool) (wanted : Refusal) → request_entry ask (Refusing wanted) ≡ Request ask (Refusing wanted) → IsOwn ask (so test wanted)
own_so ask true wanted own refusal e = let same : wanted ≡ refusal = cc in subst (λ r. request_entry ask (Refusing r) ≡ Request ask (Refusing r)) same own
own_so ask false wanted own refusal e = own_none ask refusal e

own_else : (ask : Ask) (a b : Option Refusal) → IsOwn ask a → IsOwn ask b → IsOwn ask (or_else a b)
own_else ask None b p q = q
own_else ask (Some x) b p q = p

own_denied : (ask : Ask) (id : Id) (found : Option Denial) → IsOwn ask (option_map (refusal_by id) found)
own_denied ask id None = own_none ask
own_denied ask id (Some NoNamespace) = own_so ask true (refusal_by id NoNamespace) refl
own_denied ask id (Some NotFound) = own_so ask true (refusal_by id NotFound) refl
own_denied ask id (Some Exists) = own_so ask true (refusal_by id Exists) refl
own_denied ask id (Some (OtherVersion version)) = own_so ask true (refusal_by id (OtherVersion version)) refl
own_denied ask id (Some (Broken rule)) = own_so ask true (refusal_by id (Broken rule)) refl

own_rule : (ask : Ask) (found : Option Case) → IsOwn ask (option_and_then (λ c. option_map (refusal_by c.id) (first (rules c))) found)
own_rule ask None = own_none ask
own_rule ask (Some c) = own_denied ask c.id (first (rules c))

own_place : (s : State) (ask : Ask) → IsOwn ask (place_refusal s ask)
own_place s (Get id) = own_so (Get id) (is_none (object_at s.objects id)) (not_found id) refl
own_place s (ListOf kind ns selector fields) = own_none (ListOf kind ns selector fields)
own_place s (DocumentOf document) = own_none (DocumentOf document)
own_place s (EventsSince version) = own_else (EventsSince version) _ _ (own_so (EventsSince version) (nat_lt s.last version) _ refl) (own_else (EventsSince version) _ _ (own_so (EventsSince version) (nat_lt version s.window.floor) _ refl) (own_none (EventsSince version)))
own_place s (Create x skip) = own_else (Create x skip) _ _ (own_so (Create x skip) (lacks_namespace s x.id) _ refl) (own_else (Create x skip) _ _ (own_so (Create x skip) (is_some (object_at s.objects x.id)) (already_there x.id) refl) (own_none (Create x skip)))
own_place s (Replace x expected skip) = own_so (Replace x expected skip) (is_none (object_at s.objects x.id)) (not_found x.id) refl
own_place s (Delete id skip) = own_so (Delete id skip) (is_none (object_at s.objects id)) (not_found id) refl

own_version : (s : State) (ask : Ask) → IsOwn ask (version_refusal s ask)
own_version s (Replace x expected skip) = by expected (object_at s.objects x.id)
  where
    by : (wanted : Option ℕ) (found : _) → IsOwn (Replace x expected skip) (other_version wanted found)
    by (Some wanted) (Some old) = own_so (Replace x expected skip) _ (refused_as.OtherVersion old.id.kind old.id.name old.version) refl
    by (Some wanted) None = own_none (Replace x expected skip)
    by None found = own_none (Replace x expected skip)
own_version s (Get id) = own_none (Get id)
own_version s (ListOf kind ns selector fields) = own_none (ListOf kind ns selector fields)
own_version s (DocumentOf document) = own_none (DocumentOf document)
own_version s (EventsSince version) = own_none (EventsSince version)
own_version s (Create x skip) = own_none (Create x skip)
own_version s (Delete id skip) = own_none (Delete id skip)

own_first : {A : Type 0} (ask : Ask) (f : A → Option Refusal) → ((x : A) → IsOwn ask (f x)) → (xs : List A) → IsOwn ask (first_of f xs)
own_first ask f own [] = own_none ask
own_first ask f own (x ∷ xs) = own_else ask (f x) (first_of f xs) (own x) (own_first ask f own xs)

own_limit : (s : State) (ask : Ask) (old : Option Object) (x q : Object) (limit : Limit) → IsOwn ask (over_limit s old x q limit)
own_limit s ask old x q limit = by (resource_named limit.resource)
  where
    by : (o : Option Resource) → IsOwn ask (option_and_then (λ r. over_by (used s q.id.ns r) (rise_of old x r) q.id limit) o)
    by None = own_none ask
    by (Some r) = own_so ask (nat_lt 0 (rise_of old x r) && nat_lt limit.amount (used s q.id.ns r + rise_of old x r)) (refused_as.OverQuota q.id.ns q.id.name limit.resource (used s q.id.ns r) (rise_of old x r) limit.amount) refl

own_quotas : (s : State) (ask : Ask) (old : Option Object) (x : Object) → IsOwn ask (refused_by_quotas s old x)
own_quotas s ask old x =
    own_else ask (so (asks_anew old x && is_lacking x (quotas_for s x.id.ns)) (refused_as.Broken Q2)) (first_over s old x (quotas_for s x.id.ns)) (own_so ask (asks_anew old x && is_lacking x (quotas_for s x.id.ns)) (refused_as.Broken Q2) refl)
    (own_first ask (over_quota s old x) (λ q. own_first ask (over_limit s old x q) (own_limit s ask old x q) (hard_of q.payload)) (quotas_for s x.id.ns))

own_quota : (s : State) (ask : Ask) → IsOwn ask (quota_refusal s ask)
own_quota s (Create x skip) = own_quotas s (Create x skip) None x
own_quota s (Replace x expected skip) = own_quotas s (Replace x expected skip) (object_at s.objects x.id) x
own_quota s (Get id) = own_none (Get id)
own_quota s (ListOf kind ns selector fields) = own_none (ListOf kind ns selector fields)
own_quota s (DocumentOf document) = own_none (DocumentOf document)
own_quota s (EventsSince version) = own_none (EventsSince version)
own_quota s (Delete id skip) = own_none (Delete id skip)

own_rules : (ask : Ask) (names objects bytes version : Bool) → IsOwn ask (first (so names (refused_as.Broken L1) ∷ so objects (refused_as.Broken L2) ∷ so bytes (refused_as.Broken L3) ∷ so version (refused_as.Broken L4) ∷ []))
own_rules ask names objects bytes version =
    own_else ask (so names (refused_as.Broken L1)) _ (own_so ask names (refused_as.Broken L1) refl) (own_else ask (so objects (refused_as.Broken L2)) _ (own_so ask objects (refused_as.Broken L2) refl)
    (own_else ask (so bytes (refused_as.Broken L3)) _ (own_so ask bytes (refused_as.Broken L3) refl) (own_else ask (so version (refused_as.Broken L4)) None (own_so ask version (refused_as.Broken L4) refl) (own_none ask))))

own_limits : (s : State) (ask : Ask) → IsOwn ask (first (limit_refusals s ask))
own_limits s ask =
    own_rules ask (brings_name s ask && nat_le most_names (names_in s.objects)) (brings_object ask && nat_le most_objects (objects_in s.objects)) (exceeds_bytes s.objects (after_writes (writes_of s ask) s.objects)) (is_some_write (writes_of s ask) && nat_le greatest_version s.last)

pub refusal_entry : (s : State) (ask : Ask) → IsOwn ask (refusal_of s ask)
refusal_entry s ask =
    own_else ask (place_refusal s ask) _ (own_place s ask) (own_else ask (version_refusal s ask) _ (own_version s ask) (own_else ask (rule_refusal s ask) _ (own_rule ask (case_of s ask)) (own_else ask (quota_refusal s ask) _ (own_quota s ask) (own_limits s ask))))
