-- What is planned may be stored.
--     legal_names          a legal object has legal names
--     copy_served          the copy of a source that may be stored, in a namespace of a legal name
--     labelled_served      a namespace that may be stored, with the labels that a short chain of such names prescribes
--     subnamespace_served  a subnamespace, where its name and its parent's are legal
--     status_served        an anchor that may be stored, with another status
--     sums_served          a quota that may be stored, with other usages that fit
--     report_served, bare_report_served   a HierarchyConfiguration that may be stored, with another report;  one that only reports
use Rattle.std.proofs.Common.{◌≡◌, ℕ, suc, ◌+◌, ◌-◌, ◌<◌, ◌≤◌, ◌^◌, Bool, true, false, not, ◌||◌, List, [], ◌∷◌, length, map, sum_by, codes, Option, None, Some, Ok, Err, decimal, nat_lt, nat_le, refl, sym, ap, ◌∙◌, true≢false, arith, if◌then◌else◌}
use Rattle.std.specs.List.{list_all, AllByRecursion}
use Rattle.std.proofs.lemmas.Bool.{and_parts, and_from, leb-true, le-leb}
use Rattle.json.specs.Print.{escape_byte}
use Rattle.hx_object.specs.Faults.{IsLegal, IsLimit, IsPayloadOf, IsUsage, object_fault, has_legal_names, has_legal_labels, has_legal_namespace, is_legal_label, is_legal_annotation, most_labels}
use Rattle.hx_object.specs.Json.{hard_pair, limit_pair}
use Rattle.hx_object.specs.Kinds.{can_be_copied, is_in_cluster, is_plain}
use Rattle.hx_object.specs.Names.{is_dns_label, is_name_of, is_key, is_subdomain, is_dns_part, is_qualified_part}
use Rattle.hx_object.specs.Pairs.{has_ascending_keys, with_pair}
use Rattle.hx_object.specs.Quantities.{Factor, amount_of, factor_of, is_bare, is_short, quantity_by, quantity_of, written_of}
use Rattle.hx_object.specs.Sizes.{counted, greatest_size, hierarchy_size, is_counted, is_tree_key, is_reconciled_key, pair_size, size_of, specified_size}
use Rattle.hx_object.specs.WellKnown.{inherited_from, included_namespace, subnamespace_of}
use Rattle.hx_object.specs.declared.kind.Kind.{Kind}
use Rattle.hx_object.specs.declared.kind.Kind.TheVariants.{Namespace, HncConfiguration, HierarchyConfiguration, SubnamespaceAnchor, HierarchicalResourceQuota, Role, RoleBinding, ConfigMap, Secret, NetworkPolicy, LimitRange, Pod, Service, PersistentVolumeClaim}
use Rattle.hx_object.specs.declared.object.AnchorStatus.{AnchorStatus}
use Rattle.hx_object.specs.declared.object.Condition.{Condition}
use Rattle.hx_object.specs.declared.object.Limit.{Limit}
use Rattle.hx_object.specs.declared.object.Object.{Object}
use Rattle.hx_object.specs.declared.object.ObjectFault.{ObjectFault}
use Rattle.hx_object.specs.declared.object.ObjectFault.TheVariants.{BadName, BadLabel, TooManyLabels, TooLarge}
use Rattle.hx_object.specs.declared.object.Payload.{Payload}
use Rattle.hx_object.specs.declared.object.Payload.TheVariants.{Namespace as NamespaceOf, Config, Hierarchy, Anchor, Quota, Plain}
use Rattle.hx_object.specs.declared.quantity.QuantityFault.TheVariants.{Syntax, TooLong, TooLarge as TooMuch}
use Rattle.hx_object.proofs.Putting.{ascending-with_pair, ascending-filter}
use Rattle.hx_model.specs.Propagation.{copy_of, is_hnc_key}
use Rattle.hx_model.specs.Reports.{bare_report, with_report}
use Rattle.hx_model.specs.Serving.{IsServed, is_kept, is_typed}
use Rattle.hx_model.specs.State.{namespace_id}
use Rattle.hx_model.specs.Subnamespaces.{allows_cascade}
use Rattle.hx_model.specs.Tree.{hierarchy_id, spec_parent}
use Rattle.hx_model.specs.TreeLabels.{own_labels, tree_key, tree_labels_from, with_pairs}
use Rattle.hx_model.specs.Wanted.{labelled, subnamespace, usages, with_status_of, with_sums, with_usages}
use Rattle.hx_reconcile.proofs.LabelNames.{label_length, label_value, tree_key_legal, tree_key_of_tree, depth_legal}
use Rattle.hx_reconcile.proofs.Labels.{all-with_pair, all-filter, same-with_pair, tree_uncounted, counted-own, sum-filter}

-- ---- faults

-- an object without fault has none of the four
record HasNoFault (x : Object) : Type 0 where
  names : has_legal_names x.id ≡ true
  labels : has_legal_labels x ≡ true
  few : nat_lt most_labels (length (counted x.labels)) ≡ false
  small : nat_lt greatest_size (size_of x) ≡ false

abbrev fault_by : Bool → Bool → Bool → Bool → Option ObjectFault
fault_by a b c d = if not a then Some BadName else (if not b then Some BadLabel else (if c then Some TooManyLabels else (if d then Some TooLarge else None)))

fault_parts : (a b c d : Bool) → fault_by a b c d ≡ None → (a ≡ true) × (b ≡ true) × (c ≡ false) × (d ≡ false)
fault_parts true true false false e = (refl, refl, refl, refl)
fault_parts true true false true e = absurd (let h : Some TooLarge ≡ None = e in cc)
fault_parts true true true d e = absurd (let h : Some TooManyLabels ≡ None = e in cc)
fault_parts true false c d e = absurd (let h : Some BadLabel ≡ None = e in cc)
fault_parts false b c d e = absurd (let h : Some BadName ≡ None = e in cc)

no_fault : (x : Object) → object_fault x ≡ None → HasNoFault x
unfolding object_fault
no_fault x e =
    let p = fault_parts (has_legal_names x.id) (has_legal_labels x) (nat_lt most_labels (length (counted x.labels))) (nat_lt greatest_size (size_of x)) e in
    record { names = p.0; labels = p.1; few = p.2; small = p.3 }

sound_of : (x : Object) → HasNoFault x → object_fault x ≡ None
unfolding object_fault
sound_of x none = λ i. fault_by (none.names i) (none.labels i) (none.few i) (none.small i)

-- no more than what isn't too much
still_small : (most a b : ℕ) → a ≤ b → nat_lt most b ≡ false → nat_lt most a ≡ false
still_small most a b le e = by (nat_lt most a) refl
  where
    by : (t : Bool) → nat_lt most a ≡ t → t ≡ false
    by false h = refl
    by true h = let more : suc most ≤ a = leb-true (suc most) a h in absurd (true≢false (sym (le-leb (suc most) b (omega arith)) ∙ e))

-- the labels that count are the same, the annotations aren't more, and what a request gave takes as much
record IsNoLarger (x y : Object) : Type 0 where
  counted_same : counted y.labels ≡ counted x.labels
  annotations : sum_by pair_size y.annotations ≤ sum_by pair_size x.annotations
  specified : specified_size y.payload ≡ specified_size x.payload

size-no_larger : (x y : Object) → IsNoLarger x y → size_of y ≤ size_of x
unfolding size_of
size-no_larger x y less =
    let l = ap (sum_by pair_size) less.counted_same in
    let p = less.specified in
    let a = less.annotations in
    omega arith

no_new_fault : (x y : Object) → IsNoLarger x y → has_legal_names y.id ≡ true → has_legal_labels y ≡ true → object_fault x ≡ None → object_fault y ≡ None
no_new_fault x y less names labels e =
    let none = no_fault x e in
    sound_of y (record {
      names = names;
      labels = labels;
      few = ap (λ (ls : List (List ℕ × List ℕ)). nat_lt most_labels (length ls)) less.counted_same ∙ none.few;
      small = still_small greatest_size (size_of y) (size_of x) (size-no_larger x y less) none.small;
    })

label_parts : (x : Object) → has_legal_labels x ≡ true → (list_all is_legal_label x.labels ≡ true) × (list_all is_legal_annotation x.annotations ≡ true)
unfolding has_legal_labels
label_parts x e = and_parts (list_all is_legal_label x.labels) (list_all is_legal_annotation x.annotations) e

labels_from : (x : Object) → list_all is_legal_label x.labels ≡ true → list_all is_legal_annotation x.annotations ≡ true → has_legal_labels x ≡ true
unfolding has_legal_labels
labels_from x p q = and_from (list_all is_legal_label x.labels) (list_all is_legal_annotation x.annotations) p q

-- ---- copies

copied_home : (kind : Kind) → can_be_copied kind ≡ true → is_in_cluster kind ≡ false
copied_home Role e = refl
copied_home RoleBinding e = refl
copied_home ConfigMap e = refl
copied_home Secret e = refl
copied_home NetworkPolicy e = refl
copied_home LimitRange e = refl
copied_home Namespace e = absurd (true≢false (sym e))
copied_home HncConfiguration e = absurd (true≢false (sym e))
copied_home HierarchyConfiguration e = absurd (true≢false (sym e))
copied_home SubnamespaceAnchor e = absurd (true≢false (sym e))
copied_home HierarchicalResourceQuota e = absurd (true≢false (sym e))
copied_home Pod e = absurd (true≢false (sym e))
copied_home Service e = absurd (true≢false (sym e))
copied_home PersistentVolumeClaim e = absurd (true≢false (sym e))

-- a legal object has legal names
pub legal_names : (x : Object) → IsLegal x → has_legal_names x.id ≡ true
legal_names x legal = (no_fault x legal.sound).names

-- the namespace of an object that lies in one is a DNS label
home_label : (x : Object) → is_in_cluster x.id.kind ≡ false → has_legal_names x.id ≡ true → is_dns_label x.id.ns ≡ true
unfolding has_legal_names
home_label x outside e = sym (ap (λ b. b || is_dns_label x.id.ns) outside) ∙ (and_parts (has_legal_namespace x.id) (is_name_of x.id.kind x.id.name) e).0

copy_names : (x : Object) (n : List ℕ) → is_dns_label n ≡ true → is_in_cluster x.id.kind ≡ false → has_legal_names x.id ≡ true → has_legal_names (copy_of x n).id ≡ true
unfolding has_legal_names
copy_names x n label outside e =
    and_from (is_in_cluster x.id.kind || is_dns_label n) (is_name_of x.id.kind x.id.name) (ap (λ b. b || is_dns_label n) outside ∙ label) (and_parts (has_legal_namespace x.id) (is_name_of x.id.kind x.id.name) e).1

inherited_legal : (ns : List ℕ) → is_dns_label ns ≡ true → is_legal_label (inherited_from, ns) ≡ true
unfolding is_key is_subdomain is_dns_part is_qualified_part
inherited_legal ns e = label_value ns e

inherited_uncounted : (value : List ℕ) → is_counted (inherited_from, value) ≡ false
unfolding is_counted is_tree_key is_reconciled_key
inherited_uncounted value = refl

pub copy_served : (x : Object) (n : List ℕ) → IsServed x → can_be_copied x.id.kind ≡ true → is_dns_label n ≡ true → IsServed (copy_of x n)
copy_served x n served copied label =
    let outside = copied_home x.id.kind copied in
    let none = no_fault x served.legal.sound in
    let legal = label_parts x none.labels in
    record {
      legal = record {
        sound = no_new_fault x (copy_of x n) (record {
          counted_same = same-with_pair is_counted inherited_from x.id.ns x.labels inherited_uncounted;
          annotations = sum-filter pair_size (λ pair. not (is_hnc_key pair.0)) x.annotations;
          specified = refl;
        }) (copy_names x n label outside none.names) (labels_from (copy_of x n) (all-with_pair is_legal_label inherited_from x.id.ns x.labels (inherited_legal x.id.ns (home_label x outside none.names)) legal.0)
            (all-filter is_legal_annotation (λ pair. not (is_hnc_key pair.0)) x.annotations legal.1)) served.legal.sound;
        home = λ inside. absurd (true≢false (sym inside ∙ outside));
        payload = served.legal.payload;
      };
      kept = record {
        labels = ascending-with_pair inherited_from x.id.ns x.labels served.kept.labels;
        annotations = ascending-filter (λ pair. not (is_hnc_key pair.0)) x.annotations served.kept.annotations;
        payload = served.kept.payload;
        typed = served.kept.typed;
      };
    }

-- ---- tree labels

-- names of namespaces
abbrev pub AreLabels : List (List ℕ) → Type 0
AreLabels names = AllByRecursion (λ n. is_dns_label n ≡ true) names

included_legal : is_legal_label (included_namespace, codes "true") ≡ true
unfolding is_key is_subdomain is_dns_part is_qualified_part
included_legal = refl

included_uncounted : (value : List ℕ) → is_counted (included_namespace, value) ≡ false
unfolding is_counted is_tree_key is_reconciled_key
included_uncounted value = refl

ascending-tree : (far : ℕ) (chain : List (List ℕ)) (ps : List (List ℕ × List ℕ)) → has_ascending_keys ps ≡ true → has_ascending_keys (with_pairs (tree_labels_from far chain) ps) ≡ true
ascending-tree far [] ps e = e
ascending-tree far (a ∷ chain) ps e = ascending-with_pair (tree_key a) (decimal far) (with_pairs (tree_labels_from (suc far) chain) ps) (ascending-tree (suc far) chain ps e)

counted-tree : (far : ℕ) (chain : List (List ℕ)) (ps : List (List ℕ × List ℕ)) → AreLabels chain → counted (with_pairs (tree_labels_from far chain) ps) ≡ counted ps
counted-tree far [] ps labels = refl
counted-tree far (a ∷ chain) ps labels =
    same-with_pair is_counted (tree_key a) (decimal far) (with_pairs (tree_labels_from (suc far) chain) ps) (λ v. tree_uncounted (tree_key a) v (tree_key_of_tree a labels.0))
    ∙ counted-tree (suc far) chain ps labels.1

legal-tree : (far : ℕ) (chain : List (List ℕ)) (ps : List (List ℕ × List ℕ)) → AreLabels chain → far + length chain < 2 ^ 64 → list_all is_legal_label ps ≡ true → list_all is_legal_label (with_pairs (tree_labels_from far chain) ps) ≡ true
legal-tree far [] ps labels short all = all
legal-tree far (a ∷ chain) ps labels short all =
    all-with_pair is_legal_label (tree_key a) (decimal far) (with_pairs (tree_labels_from (suc far) chain) ps)
    (and_from _ _ (tree_key_legal a labels.0) (depth_legal far (omega arith)))
    (legal-tree (suc far) chain ps labels.1 (omega arith) all)

pub labelled_served : (x : Object) (chain : List (List ℕ)) → IsServed x → AreLabels chain → length chain < 2 ^ 64 → IsServed (labelled chain x)
labelled_served x chain served names short =
    let none = no_fault x served.legal.sound in
    let legal = label_parts x none.labels in
    let own = own_labels x.labels in
    let taking = with_pair included_namespace (codes "true") own in
    record {
      legal = record {
        sound = no_new_fault x (labelled chain x) (record {
          counted_same = counted-tree 0 chain taking names ∙ (same-with_pair is_counted included_namespace (codes "true") own included_uncounted ∙ counted-own x.labels);
          annotations = omega arith;
          specified = refl;
        }) none.names (labels_from (labelled chain x)
            (legal-tree 0 chain taking names (omega arith) (all-with_pair is_legal_label included_namespace (codes "true") own included_legal (all-filter is_legal_label (λ pair. not (is_tree_key pair.0)) x.labels legal.0)))
            legal.1) served.legal.sound;
        home = served.legal.home;
        payload = served.legal.payload;
      };
      kept = record {
        labels = ascending-tree 0 chain taking (ascending-with_pair included_namespace (codes "true") own (ascending-filter (λ pair. not (is_tree_key pair.0)) x.labels served.kept.labels));
        annotations = served.kept.annotations;
        payload = served.kept.payload;
        typed = served.kept.typed;
      };
    }

-- ---- subnamespaces

-- the annotation that names the parent has a legal key
parent_legal : (n : List ℕ) → is_legal_annotation (subnamespace_of, n) ≡ true
unfolding is_key is_subdomain is_dns_part is_qualified_part
parent_legal n = refl

subnamespace_names : (m : List ℕ) → is_dns_label m ≡ true → has_legal_names (namespace_id m) ≡ true
unfolding has_legal_names
subnamespace_names m e = e

subnamespace_size : (n m : List ℕ) → length n ≤ 63 → size_of (subnamespace n m) ≤ 100
unfolding size_of
subnamespace_size n m short = omega arith

pub subnamespace_served : (n m : List ℕ) → is_dns_label n ≡ true → is_dns_label m ≡ true → IsServed (subnamespace n m)
subnamespace_served n m parent name =
    record {
      legal = record {
        sound = sound_of (subnamespace n m) (record {
          names = subnamespace_names m name;
          labels = labels_from (subnamespace n m) refl (and_from (is_legal_annotation (subnamespace_of, n)) true (parent_legal n) refl);
          few = refl;
          small = still_small greatest_size (size_of (subnamespace n m)) 100 (subnamespace_size n m (label_length n parent)) refl;
        });
        home = λ inside. refl;
        payload = refl;
      };
      kept = record { labels = refl; annotations = refl; payload = refl; typed = refl };
    }

-- ---- statuses of anchors

-- a status counts for nothing in the size
anchor_size : (kind : Kind) (p : Payload) → kind ≡ SubnamespaceAnchor → IsPayloadOf kind p → specified_size p ≡ 2
anchor_size kind (NamespaceOf terminating) e is = refl
anchor_size kind (Anchor status) e is = refl
anchor_size kind (Config entries) e is = absurd (let h : SubnamespaceAnchor ≡ HncConfiguration = sym e ∙ is in cc)
anchor_size kind (Hierarchy parent cascade children conditions) e is = absurd (let h : SubnamespaceAnchor ≡ HierarchyConfiguration = sym e ∙ is.0 in cc)
anchor_size kind (Quota hard status) e is = absurd (let h : SubnamespaceAnchor ≡ HierarchicalResourceQuota = sym e ∙ is.0 in cc)
anchor_size kind (Plain members need) e is = absurd (true≢false (sym is.0 ∙ ap is_plain e))

pub status_served : (status : AnchorStatus) (x : Object) → IsServed x → x.id.kind ≡ SubnamespaceAnchor → IsServed (with_status_of status x)
status_served status x served kind =
    let none = no_fault x served.legal.sound in
    let legal = label_parts x none.labels in
    record {
      legal = record {
        sound = no_new_fault x (with_status_of status x) (record { counted_same = refl; annotations = omega arith; specified = sym (anchor_size x.id.kind x.payload kind served.legal.payload) }) none.names
            (labels_from (with_status_of status x) legal.0 legal.1) served.legal.sound;
        home = served.legal.home;
        payload = kind;
      };
      kept = record { labels = served.kept.labels; annotations = served.kept.annotations; payload = refl; typed = ap (λ k. is_typed k (Anchor (Some status))) kind };
    }

-- ---- usages

-- what is told counts for nothing in the size
size_told : (sums : List ℕ) (p : Payload) → specified_size (with_usages sums p) ≡ specified_size p
size_told sums (Quota hard status) = refl
size_told sums payload = refl

-- an amount that a text says is at most 2^63 - 1
amount_fits : (text : List ℕ) (amount : ℕ) → quantity_of text ≡ Ok amount → amount < 2 ^ 64
unfolding quantity_of
amount_fits text amount e = said (factor_of (written_of text).suffix) e
  where
    small : (n : ℕ) (b : Bool) → nat_le n (2 ^ 63 - 1) ≡ b → (if b then Ok n else Err TooMuch) ≡ Ok amount → amount < 2 ^ 64
    small n true fits is = let same : n ≡ amount = (let h : Ok n ≡ Ok amount = is in cc) in omega (arith, leb-true n (2 ^ 63 - 1) fits, same)
    small n false fits is = absurd (let h : Err TooMuch ≡ Ok amount = is in cc)

    whole : (bare short : Bool) (n : ℕ) → (if bare then Err Syntax else (if short then amount_of n else Err TooLong)) ≡ Ok amount → amount < 2 ^ 64
    whole true short n is = absurd (let h : Err Syntax ≡ Ok amount = is in cc)
    whole false true n is = small n (nat_le n (2 ^ 63 - 1)) refl is
    whole false false n is = absurd (let h : Err TooLong ≡ Ok amount = is in cc)

    said : (factor : Option Factor) → quantity_by (written_of text) factor ≡ Ok amount → amount < 2 ^ 64
    said None is = absurd (let h : Err Syntax ≡ Ok amount = is in cc)
    said (Some factor) is = whole (is_bare (written_of text)) (is_short (written_of text)) _ is

usages_ascend : (hard : List Limit) (sums : List ℕ) → has_ascending_keys (map limit_pair hard) ≡ true → has_ascending_keys (map hard_pair (usages hard sums)) ≡ true
usages_ascend [] sums e = refl
usages_ascend (limit ∷ hard) [] e = refl
usages_ascend (limit ∷ []) (sum ∷ sums) e = refl
usages_ascend (limit ∷ next ∷ hard) (sum ∷ []) e = refl
usages_ascend (limit ∷ next ∷ hard) (sum ∷ more ∷ sums) e =
    let parts = and_parts _ _ e in
    and_from _ _ parts.0 (usages_ascend (next ∷ hard) (more ∷ sums) parts.1)

usages_fit : (hard : List Limit) (sums : List ℕ) → AllByRecursion IsLimit hard → AllByRecursion (λ sum. sum < 2 ^ 128) sums → AllByRecursion IsUsage (usages hard sums)
usages_fit [] sums limits fit = tt
usages_fit (limit ∷ hard) [] limits fit = tt
usages_fit (limit ∷ hard) (sum ∷ sums) limits fit = ((amount_fits limit.written limit.amount limits.0, fit.0), usages_fit hard sums limits.1 fit.1)

told_of_kind : (sums : List ℕ) (kind : Kind) (p : Payload) → AllByRecursion (λ sum. sum < 2 ^ 128) sums → IsPayloadOf kind p → IsPayloadOf kind (with_usages sums p)
told_of_kind sums kind (Quota hard status) fit is = (is.0, is.1, is.2, usages_ascend hard sums is.1, usages_fit hard sums is.2 fit)
told_of_kind sums kind (NamespaceOf terminating) fit is = is
told_of_kind sums kind (Config entries) fit is = is
told_of_kind sums kind (Hierarchy parent cascade children conditions) fit is = is
told_of_kind sums kind (Anchor status) fit is = is
told_of_kind sums kind (Plain members need) fit is = is

told_kept : (sums : List ℕ) (p : Payload) → is_kept (with_usages sums p) ≡ is_kept p
told_kept sums (Quota hard status) = refl
told_kept sums payload = refl

told_typed : (sums : List ℕ) (kind : Kind) (p : Payload) → is_typed kind (with_usages sums p) ≡ is_typed kind p
told_typed sums Secret (Quota hard status) = refl
told_typed sums kind (Quota hard status) = refl
told_typed sums kind payload = refl

pub sums_served : (sums : List ℕ) (x : Object) → IsServed x → AllByRecursion (λ sum. sum < 2 ^ 128) sums → IsServed (with_sums sums x)
sums_served sums x served fit =
    let none = no_fault x served.legal.sound in
    let legal = label_parts x none.labels in
    let y = with_sums sums x in
    record {
      legal = record {
        sound = no_new_fault x y (record { counted_same = refl; annotations = omega arith; specified = size_told sums x.payload }) none.names (labels_from y legal.0 legal.1) served.legal.sound;
        home = served.legal.home;
        payload = told_of_kind sums x.id.kind x.payload fit served.legal.payload;
      };
      kept = record { labels = served.kept.labels; annotations = served.kept.annotations; payload = told_kept sums x.payload ∙ served.kept.payload; typed = told_typed sums x.id.kind x.payload ∙ served.kept.typed };
    }

-- ---- reports

-- what is reported counts for nothing in the size
same_size : (children : List (List ℕ)) (conditions : List Condition) (kind : Kind) (p : Payload) → kind ≡ HierarchyConfiguration → IsPayloadOf kind p → specified_size (Hierarchy (spec_parent p) (allows_cascade p) children conditions) ≡ specified_size p
same_size children conditions kind (Hierarchy parent cascade told known) e is = refl
same_size children conditions kind (NamespaceOf terminating) e is = absurd (let h : HierarchyConfiguration ≡ Namespace = sym e ∙ is in cc)
same_size children conditions kind (Anchor status) e is = absurd (let h : HierarchyConfiguration ≡ SubnamespaceAnchor = sym e ∙ is in cc)
same_size children conditions kind (Config entries) e is = absurd (let h : HierarchyConfiguration ≡ HncConfiguration = sym e ∙ is in cc)
same_size children conditions kind (Quota hard status) e is = absurd (let h : HierarchyConfiguration ≡ HierarchicalResourceQuota = sym e ∙ is.0 in cc)
same_size children conditions kind (Plain members need) e is = absurd (true≢false (sym is.0 ∙ ap is_plain e))

-- a parent that is given has a name
named_still : (kind : Kind) (p : Payload) → kind ≡ HierarchyConfiguration → IsPayloadOf kind p → (spec_parent p ≡ Some []) → ⊥
named_still kind (Hierarchy parent cascade told known) e is = is.1
named_still kind (NamespaceOf terminating) e is = λ h. let g : None ≡ Some [] = h in cc
named_still kind (Anchor status) e is = λ h. let g : None ≡ Some [] = h in cc
named_still kind (Config entries) e is = λ h. let g : None ≡ Some [] = h in cc
named_still kind (Quota hard status) e is = λ h. let g : None ≡ Some [] = h in cc
named_still kind (Plain members need) e is = λ h. let g : None ≡ Some [] = h in cc

pub report_served : (children : List (List ℕ)) (conditions : List Condition) (x : Object) → IsServed x → x.id.kind ≡ HierarchyConfiguration → IsServed (with_report children conditions x)
report_served children conditions x served kind =
    let none = no_fault x served.legal.sound in
    let legal = label_parts x none.labels in
    let y = with_report children conditions x in
    record {
      legal = record {
        sound = no_new_fault x y (record { counted_same = refl; annotations = omega arith; specified = same_size children conditions x.id.kind x.payload kind served.legal.payload }) none.names (labels_from y legal.0 legal.1) served.legal.sound;
        home = served.legal.home;
        payload = (kind, named_still x.id.kind x.payload kind served.legal.payload);
      };
      kept = record { labels = served.kept.labels; annotations = served.kept.annotations; payload = refl; typed = ap (λ k. is_typed k y.payload) kind };
    }

report_names : (n : List ℕ) → is_dns_label n ≡ true → has_legal_names (hierarchy_id n) ≡ true
unfolding has_legal_names is_subdomain is_dns_part
report_names n label = and_from (is_dns_label n) _ label refl

bare_size : hierarchy_size None false ≡ 11
unfolding hierarchy_size escape_byte
bare_size = refl

report_size : (n : List ℕ) (children : List (List ℕ)) (conditions : List Condition) → size_of (bare_report n children conditions) ≤ 100
unfolding size_of
report_size n children conditions = omega (arith, bare_size)

pub bare_report_served : (n : List ℕ) (children : List (List ℕ)) (conditions : List Condition) → is_dns_label n ≡ true → IsServed (bare_report n children conditions)
bare_report_served n children conditions label =
    let y = bare_report n children conditions in
    record {
      legal = record {
        sound = sound_of y (record {
          names = report_names n label;
          labels = labels_from y refl refl;
          few = refl;
          small = still_small greatest_size (size_of y) 100 (report_size n children conditions) refl;
        });
        home = λ inside. absurd (true≢false (sym inside));
        payload = (refl, λ h. let g : None ≡ Some [] = h in cc);
      };
      kept = record { labels = refl; annotations = refl; payload = refl; typed = refl };
    }
