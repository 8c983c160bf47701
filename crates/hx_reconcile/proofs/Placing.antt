-- When an object is written in its place.
--     made_of, made_otherwise      an object without its version is one of these parts;  or it isn't
--     put_where_new                what is put where it isn't there yet
--     labels_stand, labels_differ  a namespace that has the prescribed labels isn't written;  one that hasn't is
--     status_stands, status_differs  the same of an anchor and its status
--     report_stands, report_differs  and of a HierarchyConfiguration and what it reports
--     usages_stand, usages_differ, usages_elsewhere  and of a quota and what it tells;  nothing else tells it
--     same_condition-Decides, same_usage-Decides     the test of two conditions says whether they are one;  and that of two usages
use Rattle.std.proofs.Common.{◌≡◌, ℕ, Bool, true, false, not, List, [], Option, Some, None, refl, sym, ap, ◌∙◌, subst, true≢false}
use Rattle.std.specs.Bool.{Decides}
use Rattle.std.specs.Cmp.{both_ways}
use Rattle.std.proofs.lemmas.Bool.{and_from, eq-eqb}
use Rattle.hx_object.proofs.Sameness.{exact_condition, exact_usage, same_object_from}
use Rattle.hx_object.specs.contracts.object.ConditionPartialEq.TheImpl as condition_eq
use Rattle.hx_object.specs.contracts.object.UsagePartialEq.TheImpl as usage_eq
use Rattle.hx_object.specs.declared.object.AnchorStatus.{AnchorStatus}
use Rattle.hx_object.specs.declared.object.Condition.{Condition}
use Rattle.hx_object.specs.declared.object.Condition.TheVariants.{InCycle, ParentMissing, IllegalParent, Ancestor, AnchorMissing}
use Rattle.hx_object.specs.declared.object.Id.{Id}
use Rattle.hx_object.specs.declared.object.Limit.{Limit}
use Rattle.hx_object.specs.declared.object.Object.{Object}
use Rattle.hx_object.specs.declared.object.Payload.{Payload}
use Rattle.hx_object.specs.declared.object.Payload.TheVariants.{Namespace as NamespaceOf, Config, Anchor, Hierarchy, Quota, Plain}
use Rattle.hx_object.specs.declared.object.Usage.{Usage}
use Rattle.hx_model.specs.Answers.{same_object}
use Rattle.hx_model.specs.First.{so}
use Rattle.hx_model.specs.Propagation.{copy_of}
use Rattle.hx_model.specs.Reports.{report_write, with_report}
use Rattle.hx_model.specs.State.{with_version}
use Rattle.hx_model.specs.Subnamespaces.{allows_cascade}
use Rattle.hx_model.specs.Tree.{spec_parent}
use Rattle.hx_model.specs.TreeLabels.{prescribed_labels}
use Rattle.hx_model.specs.Wanted.{labelled, placed, usages, with_status_of, with_sums, with_usages}
use Rattle.hx_model.specs.declared.key.Write.TheVariants.{Put}
use Rattle.hx_model.proofs.Climbing.{same_itself}
use Rattle.hx_reconcile.specs.Briefs.{is_placed}

same_object-Decides : (a b : Object) → Decides (same_object a b) (a ≡ b)
unfolding same_object
same_object-Decides a b = same_object_from a b (same_object a b) refl

-- an object of these parts, without a version
abbrev pub made : Id → List (List ℕ × List ℕ) → List (List ℕ × List ℕ) → Payload → Object
made id labels annotations payload = record { id = id; labels = labels; annotations = annotations; payload = payload; version = 0 }

differ : (a b : Object) → (a ≡ b → ⊥) → same_object a b ≡ false
differ a b apart = by (same_object a b) refl
  where
    by : (t : Bool) → same_object a b ≡ t → t ≡ false
    by true e = absurd (apart ((same_object-Decides a b).0 e))
    by false e = refl

-- the last part decides where the others are the same
pub made_of : (old : Object) (id : Id) (labels annotations : List (List ℕ × List ℕ)) (payload : Payload) (t : Bool) → old.id ≡ id → old.labels ≡ labels → old.annotations ≡ annotations
    → Decides t (old.payload ≡ payload) → t ≡ same_object (with_version old 0) (made id labels annotations payload)
made_of old id labels annotations payload t p q r d =
    both_ways t (same_object (with_version old 0) (made id labels annotations payload))
    (λ e. (same_object-Decides (with_version old 0) (made id labels annotations payload)).1 (λ i. made (p i) (q i) (r i) (d.0 e i)))
    (λ e. d.1 (ap (λ (x : Object). x.payload) ((same_object-Decides (with_version old 0) (made id labels annotations payload)).0 e)))

pub made_otherwise : (old : Object) (id : Id) (labels annotations : List (List ℕ × List ℕ)) (payload : Payload) → (old.id ≡ id → old.labels ≡ labels → old.annotations ≡ annotations → ⊥)
    → false ≡ same_object (with_version old 0) (made id labels annotations payload)
made_otherwise old id labels annotations payload apart =
    sym (differ (with_version old 0) (made id labels annotations payload) (λ e. apart (ap (λ (x : Object). x.id) e) (ap (λ (x : Object). x.labels) e) (ap (λ (x : Object). x.annotations) e)))

pub put_where_new : (x : Object) (place : Option Object) → is_placed place x ≡ false → Some (Put x) ≡ placed x place
put_where_new x None e = refl
put_where_new x (Some old) e = ap (λ t. so (not t) (Put x)) (sym e)

pub kept_where_placed : (x : Object) (place : Option Object) → is_placed place x ≡ true → None ≡ placed x place
kept_where_placed x None e = absurd (true≢false (sym e))
kept_where_placed x (Some old) e = ap (λ t. so (not t) (Put x)) (sym e)

pub put_copy : (source : Object) (n : List ℕ) (place : Option Object) (id : Id) (labels annotations : List (List ℕ × List ℕ)) (payload : Payload) → id ≡ (copy_of source n).id → labels ≡ (copy_of source n).labels
    → annotations ≡ (copy_of source n).annotations → payload ≡ source.payload → is_placed place (made id labels annotations source.payload) ≡ false → Some (Put (made id labels annotations payload)) ≡ placed (copy_of source n) place
put_copy source n place id labels annotations payload p q r s new =
    (λ i. Some (Put (made (p i) (q i) (r i) (s i))))
    ∙ put_where_new (copy_of source n) place ((λ i. is_placed place (made (sym p i) (sym q i) (sym r i) source.payload)) ∙ new)

pub labels_stand : (chain : List (List ℕ)) (x : Object) (labels : List (List ℕ × List ℕ)) → labels ≡ prescribed_labels chain x.labels → labels ≡ x.labels → None ≡ placed (labelled chain x) (Some x)
labels_stand chain x labels is same =
    kept_where_placed (labelled chain x) (Some x) ((same_object-Decides (with_version x 0) (labelled chain x)).1 (λ i. made x.id ((sym same ∙ is) i) x.annotations x.payload))

pub labels_differ : (chain : List (List ℕ)) (x : Object) (id : Id) (labels annotations : List (List ℕ × List ℕ)) (payload : Payload) → id ≡ x.id → labels ≡ prescribed_labels chain x.labels → annotations ≡ x.annotations
    → payload ≡ x.payload → (labels ≡ x.labels → ⊥) → Some (Put (made id labels annotations payload)) ≡ placed (labelled chain x) (Some x)
labels_differ chain x id labels annotations payload p q r s apart =
    (λ i. Some (Put (made (p i) (q i) (r i) (s i))))
    ∙ put_where_new (labelled chain x) (Some x) (differ (with_version x 0) (labelled chain x) (λ e. apart (q ∙ sym (ap (λ (o : Object). o.labels) e))))

pub status_stands : (status : AnchorStatus) (x : Object) → x.payload ≡ Anchor (Some status) → None ≡ placed (with_status_of status x) (Some x)
status_stands status x same =
    kept_where_placed (with_status_of status x) (Some x) ((same_object-Decides (with_version x 0) (with_status_of status x)).1 (λ i. made x.id x.labels x.annotations (same i)))

pub status_differs : (status : AnchorStatus) (x : Object) (id : Id) (labels annotations : List (List ℕ × List ℕ)) → id ≡ x.id → labels ≡ x.labels → annotations ≡ x.annotations → (x.payload ≡ Anchor (Some status) → ⊥)
    → Some (Put (made id labels annotations (Anchor (Some status)))) ≡ placed (with_status_of status x) (Some x)
status_differs status x id labels annotations p q r apart =
    (λ i. Some (Put (made (p i) (q i) (r i) (Anchor (Some status)))))
    ∙ put_where_new (with_status_of status x) (Some x) (differ (with_version x 0) (with_status_of status x) (λ e. apart (ap (λ (o : Object). o.payload) e)))

-- what a HierarchyConfiguration holds that tells them, and gives what it gave
abbrev pub telling : List (List ℕ) → List Condition → Payload → Payload
telling children conditions p = Hierarchy (spec_parent p) (allows_cascade p) children conditions

pub report_stands : (children : List (List ℕ)) (conditions : List Condition) (x : Object) (n : List ℕ) → x.payload ≡ telling children conditions x.payload → None ≡ report_write true (Some x) children conditions n
report_stands children conditions x n same =
    kept_where_placed (with_report children conditions x) (Some x) ((same_object-Decides (with_version x 0) (with_report children conditions x)).1 (λ i. made x.id x.labels x.annotations (same i)))

pub report_differs : (children told : List (List ℕ)) (conditions known : List Condition) (parent : Option (List ℕ)) (cascade : Bool) (x : Object) (n : List ℕ) (id : Id) (labels annotations : List (List ℕ × List ℕ)) → id ≡ x.id → labels ≡ x.labels → annotations ≡ x.annotations
    → parent ≡ spec_parent x.payload → cascade ≡ allows_cascade x.payload → told ≡ children → known ≡ conditions → (x.payload ≡ telling children conditions x.payload → ⊥)
    → Some (Put (made id labels annotations (Hierarchy parent cascade told known))) ≡ report_write true (Some x) children conditions n
report_differs children told conditions known parent cascade x n id labels annotations p q r u c t k apart =
    (λ i. Some (Put (made (p i) (q i) (r i) (Hierarchy (u i) (c i) (t i) (k i)))))
    ∙ put_where_new (with_report children conditions x) (Some x) (differ (with_version x 0) (with_report children conditions x) (λ e. apart (ap (λ (o : Object). o.payload) e)))

-- what a quota tells
abbrev told_by : Payload → List Usage
told_by (Quota hard status) = status
told_by _ = []

pub usages_stand : (sums : List ℕ) (x : Object) (hard : List Limit) (status : List Usage) → x.payload ≡ Quota hard status → status ≡ usages hard sums → None ≡ placed (with_sums sums x) (Some x)
usages_stand sums x hard status is same =
    let still : x.payload ≡ with_usages sums x.payload = is ∙ ap (λ us. Quota hard us) same ∙ sym (ap (with_usages sums) is) in
    kept_where_placed (with_sums sums x) (Some x) ((same_object-Decides (with_version x 0) (with_sums sums x)).1 (λ i. made x.id x.labels x.annotations (still i)))

pub usages_differ : (sums : List ℕ) (x : Object) (hard kept : List Limit) (status told : List Usage) (id : Id) (labels annotations : List (List ℕ × List ℕ)) → id ≡ x.id → labels ≡ x.labels → annotations ≡ x.annotations
    → x.payload ≡ Quota hard status → kept ≡ hard → told ≡ usages hard sums → (status ≡ told → ⊥) → Some (Put (made id labels annotations (Quota kept told))) ≡ placed (with_sums sums x) (Some x)
usages_differ sums x hard kept status told id labels annotations p q r is k t apart =
    let new : Quota kept told ≡ with_usages sums x.payload = (λ i. Quota (k i) (t i)) ∙ sym (ap (with_usages sums) is) in
    (λ i. Some (Put (made (p i) (q i) (r i) (new i))))
    ∙ put_where_new (with_sums sums x) (Some x)
    (differ (with_version x 0) (with_sums sums x) (λ e. apart (ap told_by (sym is ∙ ap (λ (o : Object). o.payload) e ∙ ap (with_usages sums) is) ∙ sym t)))

pub usages_elsewhere : (sums : List ℕ) (x : Object) → ((hard : List Limit) (status : List Usage) → x.payload ≡ Quota hard status → ⊥) → None ≡ placed (with_sums sums x) (Some x)
usages_elsewhere sums x other = kept_where_placed (with_sums sums x) (Some x) ((same_object-Decides (with_version x 0) (with_sums sums x)).1 (λ i. made x.id x.labels x.annotations (still x.payload other i)))
  where
    still : (payload : Payload) → ((hard : List Limit) (status : List Usage) → payload ≡ Quota hard status → ⊥) → payload ≡ with_usages sums payload
    still (Quota hard status) none = absurd (none hard status refl)
    still (NamespaceOf terminating) none = refl
    still (Config entries) none = refl
    still (Hierarchy parent cascade children conditions) none = refl
    still (Anchor status) none = refl
    still (Plain members need) none = refl

-- the test of two conditions
abbrev pub same_condition : Condition → Condition → Bool
same_condition = (condition_eq.ghosts).eq

condition_itself : (a : Condition) → same_condition a a ≡ true
condition_itself InCycle = refl
condition_itself ParentMissing = refl
condition_itself IllegalParent = refl
condition_itself Ancestor = refl
condition_itself AnchorMissing = refl

pub same_condition-Decides : (a b : Condition) → Decides (same_condition a b) (a ≡ b)
same_condition-Decides a b = (exact_condition a b, (λ e. subst (λ (c : Condition). same_condition a c ≡ true) e (condition_itself a)))

-- the test of two usages
abbrev pub same_usage : Usage → Usage → Bool
same_usage = (usage_eq.ghosts).eq

usage_itself : (a : Usage) → same_usage a a ≡ true
usage_itself a = and_from _ _ (same_itself a.resource) (and_from _ _ (eq-eqb a.hard a.hard refl) (eq-eqb a.used a.used refl))

pub same_usage-Decides : (a b : Usage) → Decides (same_usage a b) (a ≡ b)
same_usage-Decides a b = (exact_usage a b, (λ e. subst (λ (c : Usage). same_usage a c ≡ true) e (usage_itself a)))
