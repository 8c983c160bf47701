-- What the check of the rules is given, and what it finds.
--     at_home          the namespace of a HierarchyConfiguration has the parent that the tree says
--     no_home, no_config, looked_at, no_family     what the rules don't look at
--     ruled            what it is given is the case of the state
--     same_annotation  a namespace that passes the rules keeps its annotation
use Rattle.std.proofs.Common.{◌≡◌, ℕ, Bool, true, false, not, ◌&&◌, ◌||◌, List, [], ◌∷◌, None, Some, Option, IfSome, refl, sym, ap, subst, ◌∙◌, true≢false}
use Rattle.std.specs.Prelude.{is_some, if◌then◌else◌, option_map, option_and_then, option_copied}
use Rattle.std.specs.List.{AllByRecursion}
use Rattle.std.specs.Str.{bytes_eq}
use Rattle.std.proofs.lemmas.Bool.{and_parts}
use Rattle.std.proofs.lemmas.Slice.Eq.{bytes_eq-Decides}
use Rattle.hx_object.specs.Kinds.{can_be_copied}
use Rattle.hx_object.specs.declared.object.Id.{Id}
use Rattle.hx_object.specs.declared.object.Object.{Object}
use Rattle.hx_model.specs.Answers.{case_at, rule_refusal, version_refusal}
use Rattle.hx_model.specs.First.{so, or_else, first}
use Rattle.hx_model.specs.Forest.{Forest, is_there, parent_of, halt_of, with_parent, reaches_deeper}
use Rattle.hx_model.specs.Limits.{is_namespace, is_anchor, is_hierarchy, is_copy}
use Rattle.hx_model.specs.Cases.{Case, breaks, any_of, is_write, is_kept_out, same_name}
use Rattle.hx_model.specs.Denials.{refusal_by}
use Rattle.hx_model.specs.Modes.{config_id, mode_in, entries_of}
use Rattle.hx_model.specs.Rules.{rules, name_rule, kind_rules}
use Rattle.hx_model.specs.RulesAnchors.{unskipped_rules, creates, asks_excluded, reaches_too_deep}
use Rattle.hx_model.specs.RulesConfig.{entry_rules}
use Rattle.hx_model.specs.RulesCopies.{is_ignored, writes_copy, removes_copy, touches_copy, misuses_exceptions, source_rules}
use Rattle.hx_model.specs.RulesHierarchy.{tree_rules, annotated_parent, parent_after, lacks_parent, closes_cycle, contradicts, moves_halted, meets_excluded, grows_too_deep, is_ancestor, greatest_depth}
use Rattle.hx_model.specs.RulesNamespace.{namespace_rules, enters_leaving, changes_annotation}
use Rattle.hx_model.specs.Serving.{IsServed}
use Rattle.hx_model.specs.State.{State, Objects, object_at, namespace_id, home_in}
use Rattle.hx_model.specs.Subnamespaces.{is_owned_by}
use Rattle.hx_model.specs.Tree.{hierarchy, hierarchy_id, subnamespace_parent, named_parent, is_terminating, node_in, forest_of}
use Rattle.hx_model.specs.declared.ask.Ask.TheVariants.{Replace}
use Rattle.hx_model.specs.declared.node.Node.{Node}
use Rattle.hx_model.specs.declared.denial.Denial.{Denial}
use Rattle.hx_model.specs.declared.denial.Denial.TheVariants.{Broken}
use Rattle.hx_object.specs.declared.kind.Kind.{Kind}
use Rattle.hx_object.specs.declared.kind.Kind.TheVariants.{Namespace, HierarchyConfiguration, HncConfiguration, SubnamespaceAnchor, HierarchicalResourceQuota}
use Rattle.hx_object.proofs.KindTests.{namespace_kind}
use Rattle.hx_model.specs.declared.rule.Rule.TheVariants.{X1, N4, O1, N1, N2, N3, A1, A2, A3, A4, H1, H2, H3, H4, H5, H6, H8, O2, O3}
use Rattle.hx_model.proofs.Planting.{hierarchy_kind, node_of-objects, there-objects}
use Rattle.hx_model.proofs.Objects.{found_id}
use Rattle.hx_state.specs.Homes.{IsHomeOf}
use Rattle.hx_admit.specs.Inside.{IsConfigFor, IsConflictFor}
use Rattle.hx_admit.specs.Families.{IsFamilyFor}
use Rattle.hx_admit.specs.Ruling.{IsAtHome, family_in}
use Rattle.hx_admit.specs.declared.case.Family as kin
use Rattle.hx_state.proofs.Owned.{same_there, same_owner, same_after, same_parent}
use Rattle.hx_model.specs.Tree.{parent_with}
use Rattle.hx_model.specs.declared.config.RunConfig.{RunConfig}

-- ---- the namespace

home_found : (rows : Objects) (id : Id) → is_hierarchy id.kind ≡ true → home_in rows id ≡ object_at rows (namespace_id id.ns)
home_found rows id is = ap (λ kind. home_in rows (record id { kind = kind })) (hierarchy_kind id is)

stored_at_home : (s : State) (c : Case) → AllByRecursion IsServed s.objects → c.tree ≡ forest_of s → object_at s.objects c.id ≡ c.old → c.home ≡ home_in s.objects c.id → is_hierarchy c.id.kind ≡ true → IsAtHome c
stored_at_home s c served planted there is_home is =
    let found : object_at s.objects (namespace_id c.id.ns) ≡ c.home = sym (home_found s.objects c.id is) ∙ sym is_home in
    record { there = ap (λ (f : Forest). is_there f c.id.ns) planted ∙ there-objects s.config.excluded s.objects c.id.ns served ∙ ap is_some found; parent = λ named. by c.home found named }
  where
    by : (found : Option Object) → object_at s.objects (namespace_id c.id.ns) ≡ found → c.id.name ≡ hierarchy → IfSome found (λ x. parent_of c.tree c.id.ns ≡ parent_with c.old x)
    by None e named = tt
    by (Some x) e named =
        let kind = hierarchy_kind c.id is in
        let exact : c.id ≡ hierarchy_id c.id.ns = λ i. record { kind = kind i; ns = c.id.ns; name = named i } in
        let name : x.id.name ≡ c.id.ns = sym (ap (λ (q : Id). q.name) (found_id s.objects (namespace_id c.id.ns) x e)) in
        let node : parent_of (forest_of s) c.id.ns ≡ (node_in s.config.excluded s.objects x).parent =
        ap (option_and_then (λ (node : Node). node.parent)) (node_of-objects s.config.excluded s.objects c.id.ns served ∙ ap (option_map (node_in s.config.excluded s.objects)) e) in
        ap (λ (f : Forest). parent_of f c.id.ns) planted ∙ node
        ∙ ap (λ o. or_else (subnamespace_parent x) (option_and_then named_parent o)) (ap (λ n. object_at s.objects (hierarchy_id n)) name ∙ ap (object_at s.objects) (sym exact) ∙ there)

-- as far as the rules look at it: the parent that its annotation names
pub at_home : (s : State) (c : Case) → AllByRecursion IsServed s.objects → c.tree ≡ forest_of s → object_at s.objects c.id ≡ c.old → option_map subnamespace_parent c.home ≡ option_map subnamespace_parent (home_in s.objects c.id) → is_hierarchy c.id.kind ≡ true → IsAtHome c
at_home s c served planted there owner is =
    let stored : IsAtHome (record c { home = home_in s.objects c.id }) = stored_at_home s (record c { home = home_in s.objects c.id }) served planted there refl is in
    record {
      there = stored.there ∙ sym (same_there c.home (home_in s.objects c.id) owner);
      parent = λ named. same_parent c.old c.home (home_in s.objects c.id) (parent_of c.tree c.id.ns) owner (stored.parent named);
    }

-- ---- the rules

-- for a HierarchyConfiguration they look at the parent that the annotation of the namespace names
pub same_home : (c : Case) (home : Option Object) → is_hierarchy c.id.kind ≡ true → option_map subnamespace_parent c.home ≡ option_map subnamespace_parent home → rules c ≡ rules (record c { home = home })
same_home c home is owner = λ i. breaks X1 (c.skip && not c.config.allow_skip) ∷ breaks N4 (enters_leaving c) ∷ names c.id.kind i ∷ breaks O1 (touches_copy c) ∷ by c.id.kind is i
  where
    other : Case
    other = record c { home = home }

    names : (kind : Kind) → name_rule kind c ≡ name_rule kind other
    names HierarchyConfiguration = refl
    names HncConfiguration = refl
    names _ = refl

    annotated_same : annotated_parent c ≡ annotated_parent other
    annotated_same = same_owner c.home home owner

    after : parent_after c ≡ parent_after other
    after = ap (λ p. if bytes_eq c.id.name hierarchy then p else parent_of c.tree c.id.ns) (same_after c.new c.home home owner)

    tree : tree_rules c ≡ tree_rules other
    tree = λ i.
        breaks H1 (lacks_parent c)
        ∷ breaks H2 (closes_cycle c)
        ∷ breaks H3 (any_of (λ p. any_of (λ q. not (bytes_eq p q)) (annotated_same i)) (option_and_then named_parent c.new))
        ∷ breaks H4 (not (same_name (parent_of c.tree c.id.ns) (after i)) && (any_of is_ancestor (halt_of c.tree c.id.ns) || any_of (λ p. is_some (halt_of c.tree p)) (after i)))
        ∷ breaks H5 c.conflict
        ∷ breaks H6 (is_write c && meets_excluded c)
        ∷ breaks H8 (is_write c && (not (same_name (parent_of c.tree c.id.ns) (after i)) && reaches_deeper greatest_depth (with_parent c.id.ns (after i) c.tree) c.id.ns))
        ∷ []

    by : (kind : Kind) → is_hierarchy kind ≡ true → kind_rules kind c ≡ kind_rules kind other
    by HierarchyConfiguration e = ap (λ rows. if c.skip then [] else rows) tree
    by _ e = absurd (true≢false (sym e))

-- for other kinds the rules don't look at the namespace
pub no_home : (c : Case) (home : Option Object) → is_hierarchy c.id.kind ≡ false → rules c ≡ rules (record c { home = home })
no_home c home other = λ i. breaks X1 (c.skip && not c.config.allow_skip) ∷ breaks N4 (enters_leaving c) ∷ names c.id.kind i ∷ breaks O1 (touches_copy c) ∷ by c.id.kind other i
  where
    names : (kind : Kind) → name_rule kind c ≡ name_rule kind (record c { home = home })
    names HierarchyConfiguration = refl
    names _ = refl

    by : (kind : Kind) → is_hierarchy kind ≡ false → kind_rules kind c ≡ kind_rules kind (record c { home = home })
    by HierarchyConfiguration e = absurd (true≢false e)
    by _ e = refl

-- only where a copy is removed they look at the HNCConfiguration
pub no_config : (c : Case) (found : Option Object) → (is_some c.new ≡ false → any_of is_copy c.old ≡ true → c.hnc_config ≡ found) → rules c ≡ rules (record c { hnc_config = found })
no_config c found same = λ i. breaks X1 (c.skip && not c.config.allow_skip) ∷ breaks N4 (enters_leaving c) ∷ names c.id.kind i ∷ breaks O1 (touches (is_some c.new) refl i) ∷ by c.id.kind i
  where
    names : (kind : Kind) → name_rule kind c ≡ name_rule kind (record c { hnc_config = found })
    names HierarchyConfiguration = refl
    names _ = refl

    by : (kind : Kind) → kind_rules kind c ≡ kind_rules kind (record c { hnc_config = found })
    by HierarchyConfiguration = refl
    by _ = refl

    removes : (copy : Bool) → is_some c.new ≡ false → any_of is_copy c.old ≡ copy → (copy && (not (is_kept_out c c.id.ns) && not (is_ignored (mode_in c.hnc_config c.id.kind)))) ≡ (copy && (not (is_kept_out c c.id.ns) && not (is_ignored (mode_in found c.id.kind))))
    removes true gone e = ap (λ h. not (is_kept_out c c.id.ns) && not (is_ignored (mode_in h c.id.kind))) (same gone e)
    removes false gone e = refl

    touches : (written : Bool) → is_some c.new ≡ written → (if written then writes_copy c else removes_copy c) ≡ (if written then writes_copy c else removes_copy (record c { hnc_config = found }))
    touches true e = refl
    touches false e = removes (any_of is_copy c.old) e refl

-- they look at a conflict where they aren't skipped, for a HierarchyConfiguration that closes no cycle, an HNCConfiguration, and an object that can be copied
pub looked_at : (c : Case) (conflict : Bool) → IsConflictFor c conflict → first (rules (record c { conflict = conflict })) ≡ first (rules c)
looked_at c conflict same = λ i. or_else (breaks X1 (c.skip && not c.config.allow_skip)) (or_else (breaks N4 (enters_leaving c)) (or_else (names c.id.kind i) (or_else (breaks O1 (touches_copy c)) (by c.id.kind refl i))))
  where
    other : Case
    other = record c { conflict = conflict }

    names : (kind : Kind) → name_rule kind other ≡ name_rule kind c
    names HierarchyConfiguration = refl
    names HncConfiguration = refl
    names _ = refl

    -- what stands behind the rule on cycles
    rest : Bool → List (Option Denial)
    rest b =
        breaks H3 (contradicts c)
        ∷ breaks H4 (moves_halted c)
        ∷ breaks H5 b
        ∷ breaks H6 (is_write c && meets_excluded c)
        ∷ breaks H8 (is_write c && grows_too_deep c)
        ∷ []

    tree : (closes : Bool) → closes_cycle c ≡ closes → (closes ≡ false → conflict ≡ c.conflict) → first (tree_rules other) ≡ first (tree_rules c)
    tree true e is =
        ap (λ b. or_else (breaks H1 (lacks_parent c)) (or_else (breaks H2 b) (first (rest conflict)))) e
        ∙ sym (ap (λ b. or_else (breaks H1 (lacks_parent c)) (or_else (breaks H2 b) (first (rest c.conflict)))) e)
    tree false e is = ap (λ b. or_else (breaks H1 (lacks_parent c)) (or_else (breaks H2 (closes_cycle c)) (first (rest b)))) (is refl)

    moved : (skip : Bool) → c.skip ≡ skip → (skip ≡ false → closes_cycle c ≡ false → conflict ≡ c.conflict) → first (if skip then [] else tree_rules other) ≡ first (if skip then [] else tree_rules c)
    moved true e is = refl
    moved false e is = tree (closes_cycle c) refl (is refl)

    not_skipped : (skip : Bool) → c.skip ≡ skip → (skip ≡ false → conflict ≡ c.conflict) → (not skip && conflict) ≡ (not skip && c.conflict)
    not_skipped true e is = refl
    not_skipped false e is = is refl

    given : (b : Bool) → (is_write c && can_be_copied c.id.kind) ≡ b → (b && (not c.skip && conflict)) ≡ (b && (not c.skip && c.conflict))
    given true e =
        let parts = and_parts (is_write c) (can_be_copied c.id.kind) e in
        not_skipped c.skip refl (same.source parts.0 parts.1)
    given false e = refl

    sources : first (source_rules other) ≡ first (source_rules c)
    sources = ap (λ b. first (breaks O3 (misuses_exceptions c) ∷ breaks O2 b ∷ [])) (given (is_write c && can_be_copied c.id.kind) refl)

    by : (kind : Kind) → c.id.kind ≡ kind → first (kind_rules kind other) ≡ first (kind_rules kind c)
    by Namespace e = refl
    by HierarchyConfiguration e = moved c.skip refl (same.move (ap is_hierarchy e))
    by SubnamespaceAnchor e = refl
    by HncConfiguration e = ap (λ b. first (entry_rules (entries_of c.new) b)) (not_skipped c.skip refl (same.modes e))
    by HierarchicalResourceQuota e = refl
    by _ e = sources

-- they look at the family where a namespace is removed, and where an anchor is written or removed and they aren't skipped
pub no_family : (s : State) (id : Id) (old new : Option Object) (skip : Bool) (f : kin.Family) → IsFamilyFor s id new skip f → rules (record (case_at s id old new skip) { family = family_in f }) ≡ rules (case_at s id old new skip)
no_family s id old new skip f same = λ i. breaks X1 (skip && not s.config.allow_skip) ∷ breaks N4 (enters_leaving c) ∷ names id.kind i ∷ breaks O1 (touches_copy c) ∷ by id.kind refl i
  where
    c : Case
    c = case_at s id old new skip

    other : Case
    other = record (case_at s id old new skip) { family = family_in f }

    names : (kind : Kind) → name_rule kind other ≡ name_rule kind c
    names HierarchyConfiguration = refl
    names HncConfiguration = refl
    names _ = refl

    -- what is looked at only where nothing is given
    removing : (given : Bool) (t a b : Bool) → is_some new ≡ given → (is_some new ≡ false → a ≡ b) → ((not given && t) && a) ≡ ((not given && t) && b)
    removing true t a b e is = refl
    removing false t a b e is = ap (λ q. t && q) (is e)

    going : (given : Bool) (a b : Bool) → is_some new ≡ given → (is_some new ≡ false → a ≡ b) → (not given && a) ≡ (not given && b)
    going true a b e is = refl
    going false a b e is = is e

    stays : Bool
    stays = any_of (λ (x : Object). not (is_terminating x.payload)) old

    leaving : is_namespace id.kind ≡ true → namespace_rules other ≡ namespace_rules c
    leaving is = λ i. breaks N3 (is_write c && changes_annotation c)
        ∷ breaks N1 (removing (is_some new) stays f.anchored c.family.anchored refl (same.anchored is) i)
        ∷ breaks N2 (removing (is_some new) stays (f.has_followers && not f.cascades) (c.family.has_followers && not c.family.cascades) refl (same.followers is) i)
        ∷ []

    asked : is_anchor id.kind ≡ true → (b : Bool) → skip ≡ b → (if b then [] else unskipped_rules other) ≡ (if b then [] else unskipped_rules c)
    asked is true e = refl
    asked is false e = λ i. breaks A2 (creates c && asks_excluded c)
        ∷ breaks A1 (creates c && any_of (λ (x : Object). not (is_owned_by id.ns x)) (same.named is e i))
        ∷ breaks A4 (creates c && reaches_too_deep c)
        ∷ breaks A3 (kept i)
        ∷ []
      where
        kept : (not (is_some new) && (any_of (is_owned_by id.ns) (option_copied f.named) && (f.has_children && not f.cascades))) ≡ (not (is_some new) && (any_of (is_owned_by id.ns) c.family.named && (c.family.has_children && not c.family.cascades)))
        kept =
            ap (λ (o : Option Object). not (is_some new) && (any_of (is_owned_by id.ns) o && (f.has_children && not f.cascades))) (same.named is e)
            ∙ going (is_some new) (any_of (is_owned_by id.ns) c.family.named && (f.has_children && not f.cascades)) (any_of (is_owned_by id.ns) c.family.named && (c.family.has_children && not c.family.cascades)) refl (λ gone. ap (λ q. any_of (is_owned_by id.ns) c.family.named && q) (same.children is e gone))

    by : (kind : Kind) → id.kind ≡ kind → kind_rules kind other ≡ kind_rules kind c
    by Namespace e = leaving (ap is_namespace e)
    by HierarchyConfiguration e = refl
    by HncConfiguration e = refl
    by SubnamespaceAnchor e = asked (ap is_anchor e) skip refl
    by _ e = refl

-- what the check is given is the case of the state
module _ (s : State) (id : Id) (old new home found : Option Object) (conflict skip : Bool) (f : kin.Family) (nodes : Forest) (config : RunConfig) where
  abbrev given : Case
  given = record { id = id; old = old; new = new; home = home; hnc_config = found; conflict = conflict; family = family_in f; tree = nodes; config = config; skip = skip }

  pub ruled : nodes ≡ forest_of s → config ≡ s.config → IsHomeOf s id (option_map subnamespace_parent home) → IsConfigFor s old new found → IsConflictFor (case_at s id old new skip) conflict → IsFamilyFor s id new skip f → first (rules given) ≡ first (rules (case_at s id old new skip))
  ruled planted same is_home is_config is_conflict is_family =
      (λ i. first (rules (record given { tree = planted i; config = same i })))
      ∙ ap first (no_config (record given { tree = forest_of s; config = s.config }) (object_at s.objects config_id) is_config)
      ∙ by (is_hierarchy id.kind) refl
      ∙ looked_at (record (case_at s id old new skip) { family = family_in f }) conflict (record { move = is_conflict.move; modes = is_conflict.modes; source = is_conflict.source })
      ∙ ap first (no_family s id old new skip f is_family)
    where
      by : (b : Bool) → is_hierarchy id.kind ≡ b → first (rules (record given { tree = forest_of s; config = s.config; hnc_config = object_at s.objects config_id })) ≡ first (rules (record (case_at s id old new skip) { family = family_in f; conflict = conflict }))
      by true e = ap first (same_home (record given { tree = forest_of s; config = s.config; hnc_config = object_at s.objects config_id }) (home_in s.objects id) e (is_home e))
      by false e = ap first (no_home (record given { tree = forest_of s; config = s.config; hnc_config = object_at s.objects config_id }) (home_in s.objects id) e)

-- ---- the annotation of a namespace

same_name_exact : (a b : Option (List ℕ)) → same_name a b ≡ true → a ≡ b
same_name_exact None None e = refl
same_name_exact None (Some m) e = cc
same_name_exact (Some n) None e = cc
same_name_exact (Some n) (Some m) e = ap Some ((bytes_eq-Decides n m).0 e)

second_none : {A : Type 0} (a b : Option A) → or_else a (or_else b None) ≡ None → b ≡ None
second_none None None e = refl
second_none None (Some b) e = e
second_none (Some a) b e = absurd (let h : Some a ≡ None = e in cc)

rest_none : {A : Type 0} (a b : Option A) → or_else a b ≡ None → b ≡ None
rest_none None b e = e
rest_none (Some a) b e = absurd (let h : Some a ≡ None = e in cc)

undenied : (id : Id) (o : Option Denial) → option_map (refusal_by id) o ≡ None → o ≡ None
undenied id None e = refl
undenied id (Some denial) e = absurd (let h : Some (refusal_by id denial) ≡ None = e in cc)

or_none : {A : Type 0} (a : Option A) → or_else a None ≡ None → a ≡ None
or_none None e = refl
or_none (Some a) e = e

untested : (same : Bool) → so (not same) (Broken N3) ≡ None → same ≡ true
untested true e = refl
untested false e = absurd (let h : Some (Broken N3) ≡ None = e in cc)

-- a namespace that passes the rules has the annotation that is there
pub same_annotation : (s : State) (x old : Object) (expected : Option ℕ) (skip : Bool) → object_at s.objects x.id ≡ Some old → first (version_refusal s (Replace x expected skip) ∷ rule_refusal s (Replace x expected skip) ∷ []) ≡ None → is_namespace x.id.kind ≡ true
    → subnamespace_parent x ≡ subnamespace_parent old
same_annotation s x old expected skip there passes is =
    let quiet : first (rules (case_at s x.id (object_at s.objects x.id) (Some x) skip)) ≡ None = undenied x.id _ (second_none (version_refusal s (Replace x expected skip)) (rule_refusal s (Replace x expected skip)) passes) in
    let case : Case = case_at s x.id (object_at s.objects x.id) (Some x) skip in
    let of_kind : first (kind_rules x.id.kind case) ≡ None = rest_none (breaks O1 (touches_copy case)) _ (rest_none (name_rule x.id.kind case) _ (rest_none (breaks N4 (enters_leaving case)) _ (rest_none (breaks X1 (skip && not s.config.allow_skip)) _ quiet))) in
    let third : so (not (same_name (option_and_then subnamespace_parent (object_at s.objects x.id)) (subnamespace_parent x))) (Broken N3) ≡ None = or_none _ (subst (λ kind. first (kind_rules kind (case_at s x.id (object_at s.objects x.id) (Some x) skip)) ≡ None) (namespace_kind x.id.kind is) of_kind) in
    let same = untested (same_name (option_and_then subnamespace_parent (object_at s.objects x.id)) (subnamespace_parent x)) third in
    sym (same_name_exact (option_and_then subnamespace_parent (object_at s.objects x.id)) (subnamespace_parent x) same) ∙ ap (option_and_then subnamespace_parent) there
