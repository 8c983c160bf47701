-- That nothing new comes into a namespace that is on its way out.
--     leaving_is        a namespace is on its way out where its row says so
--     open_stays        one that takes part isn't
--     request_out       the writes of a request that isn't refused put nothing new into one
use Rattle.std.proofs.Common.{◌≡◌, ◌+◌, ℕ, Bool, true, false, cond, not, ◌&&◌, List, [], ◌∷◌, map, filter, Option, Some, None, refl, sym, ap, ◌∙◌, true≢false}
use Rattle.std.specs.Prelude.{is_none, is_some, option_map, if◌then◌else◌}
use Rattle.std.specs.List.{AllByRecursion}
use Rattle.std.specs.Option.{option_map_or}
use Rattle.std.proofs.lemmas.Bool.{and_parts}
use Rattle.hx_object.specs.Kinds.{is_in_cluster, is_namespace, is_anchor}
use Rattle.hx_object.specs.declared.kind.Kind.{Kind}
use Rattle.hx_object.specs.declared.kind.Kind.TheVariants as of
use Rattle.hx_object.specs.declared.object.Id.{Id}
use Rattle.hx_object.specs.declared.object.Object.{Object}
use Rattle.hx_model.specs.Answers.{begins_to_leave, case_at, ended, ending, is_ended, limit_refusals, owns_named, place_refusal, quota_refusal, refusal_of, replaced_by, replacing, rule_refusal, same_object, version_refusal, writes_of}
use Rattle.hx_model.specs.Cases.{Case, breaks, is_leaving, subject_of}
use Rattle.hx_model.specs.Denials.{refusal_by}
use Rattle.hx_model.specs.First.{first, or_else, so}
use Rattle.hx_model.specs.Forest.{halt_of, is_excluded, is_live}
use Rattle.hx_model.specs.Rules.{kind_rules, name_rule, rules}
use Rattle.hx_model.specs.RulesCopies.{touches_copy}
use Rattle.hx_model.specs.RulesNamespace.{enters_leaving}
use Rattle.hx_model.specs.Serving.{IsServed}
use Rattle.hx_model.specs.State.{State, Objects, namespace_id, object_at, with_version}
use Rattle.hx_model.specs.Tree.{forest_of, is_terminating, namespaces_in, node_in}
use Rattle.hx_model.specs.TreeLabels.{is_open}
use Rattle.hx_model.specs.Valid.{IsStored, IsValid}
use Rattle.hx_model.specs.declared.ask.Ask.{Ask}
use Rattle.hx_model.specs.declared.ask.Ask.TheVariants.{Get, List as ListOf, Create, Replace, Delete, Document as DocumentOf, Events as EventsSince}
use Rattle.hx_model.specs.declared.denial.Denial.{Denial}
use Rattle.hx_model.specs.declared.refusal.Refusal.{Refusal}
use Rattle.hx_model.specs.declared.denial.Denial.TheVariants.{Broken}
use Rattle.hx_model.specs.declared.key.Write.TheVariants.{Put, Cut}
use Rattle.hx_model.specs.declared.node.Node.{Node}
use Rattle.hx_model.specs.declared.rule.Rule.TheVariants.{X1, N4, O1}
use Rattle.hx_model.proofs.Planting.{node_of-objects}
use Rattle.hx_core.specs.Committing.{IsOutOrThere, StaysOut}

-- ---- rows of namespaces

all_served : (last : ℕ) (objects : Objects) → AllByRecursion (IsStored last) objects → AllByRecursion IsServed objects
all_served last [] all = tt
all_served last (x ∷ objects) all = (all.0.served, all_served last objects all.1)

-- a namespace is on its way out where its row says so
pub leaving_is : (s : State) (n : List ℕ) (home : Object) → IsValid s → object_at s.objects (namespace_id n) ≡ Some home → is_leaving (forest_of s) n ≡ is_terminating home.payload
leaving_is s n home valid at =
    ap (λ o. option_map_or (λ (node : Node). node.terminating) o false) (node_of-objects s.config.excluded s.objects n (all_served s.last s.objects valid.stored) ∙ ap (option_map (node_in s.config.excluded s.objects)) at)

pub not_true : (b : Bool) → not b ≡ true → b ≡ false
not_true false e = refl
not_true true e = absurd (true≢false (sym e))

-- one that takes part isn't
pub open_stays : (s : State) (n : List ℕ) (home : Object) → IsValid s → object_at s.objects (namespace_id n) ≡ Some home → is_open (forest_of s) n ≡ true → is_terminating home.payload ≡ false
open_stays s n home valid at acts =
    let live : is_live (forest_of s) n ≡ true = (and_parts (is_live (forest_of s) n) (not (is_excluded (forest_of s) n) && is_none (halt_of (forest_of s) n)) acts).0 in
    not_true (is_terminating home.payload)
    (sym (ap (λ o. option_map_or (λ (node : Node). not node.terminating) o false) (node_of-objects s.config.excluded s.objects n (all_served s.last s.objects valid.stored) ∙ ap (option_map (node_in s.config.excluded s.objects)) at)) ∙ live)

-- ---- kinds

inside_leaf : (k : Kind) → is_in_cluster k ≡ false → is_namespace k ≡ false
inside_leaf of.Namespace e = absurd (true≢false e)
inside_leaf _ e = refl

pub namespace_in_cluster : (k : Kind) → is_namespace k ≡ true → is_in_cluster k ≡ true
namespace_in_cluster of.Namespace e = refl
namespace_in_cluster _ e = absurd (true≢false (sym e))

-- ---- requests that aren't refused

none_else : {A : Type 0} (a b : Option A) → or_else a b ≡ None → (a ≡ None) × (b ≡ None)
none_else None b e = (refl, e)
none_else (Some a) b e = absurd (true≢false (ap is_some e))

none_map : {A B : Type 0} (f : A → B) (o : Option A) → option_map f o ≡ None → o ≡ None
none_map f None e = refl
none_map f (Some a) e = absurd (true≢false (ap is_some e))

so_none : {A : Type 0} (b : Bool) (a : A) → so b a ≡ None → b ≡ false
so_none false a e = refl
so_none true a e = absurd (true≢false (ap is_some e))

-- nothing is given in a namespace that is on its way out
never_enters : (c : Case) → first (rules c) ≡ None → enters_leaving c ≡ false
never_enters c passes =
    let rest : List (Option Denial) = name_rule c.id.kind c ∷ breaks O1 (touches_copy c) ∷ kind_rules c.id.kind c in
    so_none (enters_leaving c) (Broken N4) (none_else (breaks N4 (enters_leaving c)) (first rest) (none_else (breaks X1 (c.skip && not c.config.allow_skip)) (or_else (breaks N4 (enters_leaving c)) (first rest)) passes).1).0

passes_rules : (s : State) (ask : Ask) → refusal_of s ask ≡ None → rule_refusal s ask ≡ None
passes_rules s ask passes =
    let last : Option Refusal = or_else (quota_refusal s ask) (first (limit_refusals s ask)) in
    (none_else (rule_refusal s ask) last (none_else (version_refusal s ask) (or_else (rule_refusal s ask) last) (none_else (place_refusal s ask) (or_else (version_refusal s ask) (or_else (rule_refusal s ask) last)) passes).1).1).0

created_out : (s : State) (x : Object) (skip : Bool) → IsValid s → refusal_of s (Create x skip) ≡ None → IsOutOrThere s x.id
created_out s x skip valid passes home inside at ends =
    let c : Case = case_at s x.id None (Some x) skip in
    let stays : is_leaving (forest_of s) (subject_of x.id) ≡ false = never_enters c (none_map (refusal_by x.id) (first (rules c)) (passes_rules s (Create x skip) passes)) in
    let subject : subject_of x.id ≡ x.id.ns = ap (λ b. if b then x.id.name else x.id.ns) (inside_leaf x.id.kind inside) in
    absurd (true≢false (sym ends ∙ (sym (leaving_is s x.id.ns home valid at) ∙ (ap (is_leaving (forest_of s)) (sym subject) ∙ stays))))

-- ---- namespaces that begin to leave

ended_out : (s : State) (p : Object → Bool) (objects : Objects) → AllByRecursion (StaysOut s) (map (λ x. Put (ended (s.last + 1) x)) (filter p (namespaces_in objects)))
ended_out s p [] = tt
ended_out s p (x ∷ objects) =
    elim (is_namespace x.id.kind) as (λ b. is_namespace x.id.kind ≡ b → AllByRecursion (StaysOut s) (map (λ y. Put (ended (s.last + 1) y)) (filter p (cond b (x ∷ namespaces_in objects) (namespaces_in objects))))) [
      | true ↦ λ is.
          elim (p x) as (λ b. AllByRecursion (StaysOut s) (map (λ y. Put (ended (s.last + 1) y)) (cond b (x ∷ filter p (namespaces_in objects)) (filter p (namespaces_in objects))))) [
            | true ↦ ((λ home inside at ends. absurd (true≢false (sym (namespace_in_cluster x.id.kind is) ∙ inside))), ended_out s p objects)
            | false ↦ ended_out s p objects
          ]
      | false ↦ λ _. ended_out s p objects
    ] refl

ending_out : (s : State) (n : List ℕ) → AllByRecursion (StaysOut s) (ending s n)
ending_out s n = ended_out s (begins_to_leave s n) s.objects

-- ---- the writes of requests

replacing_out : (s : State) (x : Object) (o : Option Object) → object_at s.objects x.id ≡ o → AllByRecursion (StaysOut s) (replacing o x (s.last + 1))
replacing_out s x None e = tt
replacing_out s x (Some old) e =
    elim (same_object (replaced_by old x) old) as (λ b. AllByRecursion (StaysOut s) (if b then [] else Put (with_version (replaced_by old x) (s.last + 1)) ∷ [])) [
      | true ↦ tt
      | false ↦ ((λ home inside at ends. ap is_some e), tt)
    ]

deleting_out : (s : State) (id : Id) (a b c : Bool) → AllByRecursion (StaysOut s) (if a then (if b then [] else ending s id.name) else (if c then Cut id ∷ ending s id.name else Cut id ∷ []))
deleting_out s id true true c = tt
deleting_out s id true false c = ending_out s id.name
deleting_out s id false b true = (tt, ending_out s id.name)
deleting_out s id false b false = (tt, tt)

pub request_out : (s : State) (ask : Ask) → IsValid s → refusal_of s ask ≡ None → AllByRecursion (StaysOut s) (writes_of s ask)
request_out s (Get id) valid passes = tt
request_out s (ListOf kind ns selector fields) valid passes = tt
request_out s (DocumentOf document) valid passes = tt
request_out s (EventsSince version) valid passes = tt
request_out s (Create x skip) valid passes = (created_out s x skip valid passes, tt)
request_out s (Replace x expected skip) valid passes = replacing_out s x (object_at s.objects x.id) refl
request_out s (Delete id skip) valid passes = deleting_out s id (is_namespace id.kind) (is_ended (object_at s.objects id)) (is_anchor id.kind && (not skip && owns_named s id))
