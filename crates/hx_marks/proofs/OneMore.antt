-- Two states, of which the second has one namespace more.
--     HasOneMore        all else is as in the first one
--     one_more          so it is where all other objects are found alike
--     keeps_put, keeps_cut                   the other names stay in their order
--     apart_copy, apart_tree, apart_child    keys of a namespace whose chain doesn't have that one want the same
--     apart_status, apart_purge              so do those that speak of others
--     apart_report      and the report of one that is no parent or child of that one, and is halted as before
--     noted             what an annotation names is the parent
--     unasked           where the keys of those that ask for its name are left out, no anchor does
use Rattle.std.proofs.Common.{◌≡◌, ℕ, Bool, true, false, not, ◌&&◌, ◌||◌, Option, Some, None, option_map, option_and_then, cond, List, [], ◌∷◌, map, Less, Equal, Greater, refl, sym, ap, ◌∙◌, subst, inl, inr, true≢false}
use Rattle.std.specs.Prelude.{is_some, is_none, filter}
use Rattle.std.specs.FinMap.Entries.{by_order}
use Rattle.std.specs.List.{AllByRecursion}
use Rattle.std.specs.Option.{option_map_or}
use Rattle.std.specs.Str.{bytes_eq}
use Rattle.std.proofs.lemmas.Bool.{and_parts, cases_Bool, false_from_ne_true}
use Rattle.hx_object.specs.Kinds.{is_in_cluster, is_namespace}
use Rattle.hx_object.specs.Order.{id_cmp}
use Rattle.hx_object.specs.declared.kind.Kind.{Kind}
use Rattle.hx_object.specs.declared.object.Id.{Id}
use Rattle.hx_object.specs.declared.object.Object.{Object}
use Rattle.hx_object.proofs.KindTests.{namespace_kind}
use Rattle.hx_model.specs.Cases.{is_leaving}
use Rattle.hx_model.specs.Covered.{IsSameFor}
use Rattle.hx_model.specs.First.{or_else}
use Rattle.hx_model.specs.Forest.{Forest, in_chain, is_in, is_live, is_child, children_of, halt_of, names_of, parent_of}
use Rattle.hx_model.specs.Keys.{is_among}
use Rattle.hx_model.specs.Modes.{config_id}
use Rattle.hx_model.specs.Moves.{is_eligible}
use Rattle.hx_model.specs.Propagation.{id_in}
use Rattle.hx_model.specs.Reports.{conditions_by, misses_anchor}
use Rattle.hx_model.specs.Serving.{IsServed}
use Rattle.hx_model.specs.State.{State, Objects, object_at, same_id, put, cut, namespace_id, lies_in, least_in}
use Rattle.hx_model.specs.Subnamespaces.{anchor_id}
use Rattle.hx_model.specs.Tree.{forest_of, forest_in, namespaces_in, hierarchy_id, named_parent, node_in, subnamespace_parent}
use Rattle.hx_model.specs.Wanted.{status_by, anchor_status}
use Rattle.hx_model.specs.declared.key.Key.{Key}
use Rattle.hx_model.specs.declared.key.Key.TheVariants as key
use Rattle.hx_model.specs.declared.node.Node.{Node}
use Rattle.hx_model.proofs.Climbing.{is_same}
use Rattle.hx_model.proofs.Objects.{is_same_id, same_from_Equal}
use Rattle.hx_model.proofs.Planting.{node_of-objects, there-objects}
use Rattle.hx_model.proofs.Walking.{no_parent}
use Rattle.hx_marks.proofs.Asking.{asking_among}
use Rattle.hx_marks.proofs.CreatedChains.{IsMade, another, parent_same, made_chain_same, made_open_same}
use Rattle.hx_marks.proofs.Keeping.{Stands, kept_copy, kept_tree, kept_child, kept_anchor, kept_purge}
use Rattle.hx_marks.proofs.KeptTree.{node_alike}
use Rattle.hx_marks.proofs.OneMoreHalting.{eligible_same}
use Rattle.hx_marks.proofs.Replacing.{copied_leaf}
use Rattle.hx_marks.proofs.Reporting.{same_report, silent_report}
use Rattle.hx_marks.specs.Law.{anchor_keys, asking_keys}

-- other objects are found alike
abbrev pub FindsOthers : State → State → Type 0
FindsOthers s t = (q : Id) → is_namespace q.kind ≡ false → object_at t.objects q ≡ object_at s.objects q

abbrev pub FindsNames : State → State → List ℕ → Type 0
FindsNames s t n = (m : List ℕ) → bytes_eq n m ≡ false → object_at t.objects (namespace_id m) ≡ object_at s.objects (namespace_id m)

-- the other names stay in their order
abbrev pub KeepsNames : Forest → Forest → List ℕ → Type 0
KeepsNames f g n = (test : List ℕ → Bool) → test n ≡ false → filter test (names_of g) ≡ filter test (names_of f)

-- what an annotation names is the parent
abbrev pub FollowsNotes : State → Type 0
FollowsNotes s = (m p : List ℕ) (x : Object) → object_at s.objects (namespace_id m) ≡ Some x → subnamespace_parent x ≡ Some p → parent_of (forest_of s) m ≡ Some p

pub record HasOneMore (s t : State) (n : List ℕ) : Type 0 where
  pub excluded : t.config.excluded ≡ s.config.excluded
  pub made : IsMade (forest_of s) (forest_of t) n
  pub others : FindsOthers s t
  pub names : FindsNames s t n
  pub least : (m : List ℕ) → least_in t.objects m ≡ least_in s.objects m
  pub order : KeepsNames (forest_of s) (forest_of t) n
  pub notes : FollowsNotes s

pub noted : (s : State) → AllByRecursion IsServed s.objects → FollowsNotes s
noted s served m p x found note =
    ap (λ o. option_and_then (λ (node : Node). node.parent) o) (node_of-objects s.config.excluded s.objects m served ∙ ap (option_map (node_in s.config.excluded s.objects)) found)
    ∙ ap (λ o. or_else o (parent_by (object_at s.objects (hierarchy_id x.id.name)))) note
  where
    parent_by : Option Object → Option (List ℕ)
    parent_by o = option_and_then named_parent o

pub one_more : (s t : State) (n : List ℕ) → AllByRecursion IsServed s.objects → AllByRecursion IsServed t.objects → t.config.excluded ≡ s.config.excluded → FindsOthers s t → FindsNames s t n
    → is_some (object_at s.objects (namespace_id n)) ≡ false → is_some (object_at t.objects (namespace_id n)) ≡ true → ((m : List ℕ) → least_in t.objects m ≡ least_in s.objects m) → KeepsNames (forest_of s) (forest_of t) n → HasOneMore s t n
one_more s t n before after excluded others names absent there least order = record {
  excluded = excluded;
  made = record {
    absent = there-objects s.config.excluded s.objects n before ∙ absent;
    made = there-objects t.config.excluded t.objects n after ∙ there;
    others = λ m off. node_alike s t before after excluded (λ name. others (hierarchy_id name) refl) m (names m off);
  };
  others = others;
  names = names;
  least = least;
  order = order;
  notes = noted s before;
}

-- ---- names

-- the names of the namespaces among some objects
abbrev plain : Objects → List (List ℕ)
plain objects = map (λ (x : Object). x.id.name) (namespaces_in objects)

names_are : (node : Object → Node) (xs : Objects) → names_of (map (λ (x : Object). (x.id.name, node x)) xs) ≡ map (λ (x : Object). x.id.name) xs
names_are node [] = refl
names_are node (x ∷ xs) = ap (λ names. x.id.name ∷ names) (names_are node xs)

module _ (test : List ℕ → Bool) where
  -- a namespace that fails counts for nothing
  failing_first : (x : Object) (objects : Objects) → test x.id.name ≡ false → filter test (plain (x ∷ objects)) ≡ filter test (plain objects)
  failing_first x objects out = elim (is_namespace x.id.kind) as (λ b. filter test (map (λ (y : Object). y.id.name) (cond b (x ∷ namespaces_in objects) (namespaces_in objects))) ≡ filter test (plain objects)) [
    | true ↦ ap (λ b. cond b (x.id.name ∷ filter test (plain objects)) (filter test (plain objects))) out
    | false ↦ refl
  ]

  alike_behind : (y : Object) (old new : Objects) → filter test (plain new) ≡ filter test (plain old) → filter test (plain (y ∷ new)) ≡ filter test (plain (y ∷ old))
  alike_behind y old new same = elim (is_namespace y.id.kind) as (λ b. filter test (map (λ (z : Object). z.id.name) (cond b (y ∷ namespaces_in new) (namespaces_in new))) ≡ filter test (map (λ (z : Object). z.id.name) (cond b (y ∷ namespaces_in old) (namespaces_in old)))) [
    | true ↦ ap (λ names. cond (test y.id.name) (y.id.name ∷ names) names) same
    | false ↦ same
  ]

  plain_put : (x : Object) (objects : Objects) → test x.id.name ≡ false → filter test (plain (put x objects)) ≡ filter test (plain objects)
  plain_put x [] out = failing_first x [] out
  plain_put x (y ∷ objects) out =
      elim (id_cmp x.id y.id) as (λ o. id_cmp x.id y.id ≡ o → filter test (plain (by_order o (x ∷ y ∷ objects) (x ∷ objects) (y ∷ put x objects))) ≡ filter test (plain (y ∷ objects))) [
        | Less ↦ λ e. failing_first x (y ∷ objects) out
        | Equal ↦ λ e. failing_first x objects out ∙ sym (failing_first y objects (ap (λ (q : Id). test q.name) (sym (is_same_id x.id y.id (same_from_Equal x.id y.id e))) ∙ out))
        | Greater ↦ λ e. alike_behind y objects (put x objects) (plain_put x objects out)
      ] refl

  plain_cut : (id : Id) (objects : Objects) → test id.name ≡ false → filter test (plain (cut id objects)) ≡ filter test (plain objects)
  plain_cut id [] out = refl
  plain_cut id (y ∷ objects) out =
      elim (same_id id y.id) as (λ b. same_id id y.id ≡ b → filter test (plain (cond (not b) (y ∷ cut id objects) (cut id objects))) ≡ filter test (plain (y ∷ objects))) [
        | true ↦ λ is. plain_cut id objects out ∙ sym (failing_first y objects (ap (λ (q : Id). test q.name) (sym (is_same_id id y.id is)) ∙ out))
        | false ↦ λ other. alike_behind y objects (cut id objects) (plain_cut id objects out)
      ] refl

-- where one is put, and where one is cut
pub keeps_put : (ex : List (List ℕ)) (x : Object) (objects : Objects) → KeepsNames (forest_in ex objects) (forest_in ex (put x objects)) x.id.name
keeps_put ex x objects test out =
    ap (filter test) (names_are (node_in ex (put x objects)) (namespaces_in (put x objects)))
    ∙ plain_put test x objects out
    ∙ sym (ap (filter test) (names_are (node_in ex objects) (namespaces_in objects)))

pub keeps_cut : (ex : List (List ℕ)) (id : Id) (objects : Objects) → KeepsNames (forest_in ex (cut id objects)) (forest_in ex objects) id.name
keeps_cut ex id objects test out =
    ap (filter test) (names_are (node_in ex objects) (namespaces_in objects))
    ∙ sym (plain_cut test id objects out)
    ∙ sym (ap (filter test) (names_are (node_in ex (cut id objects)) (namespaces_in (cut id objects))))

-- ---- keys

-- what lies in a namespace is none
pub inside_leaf : (n : List ℕ) (q : Id) → lies_in n q ≡ true → is_namespace q.kind ≡ false
inside_leaf n q lies = false_from_ne_true (is_namespace q.kind) (λ h. true≢false (sym (and_parts (not (is_in_cluster q.kind)) (bytes_eq n q.ns) lies).0 ∙ ap (λ (kind : Kind). not (is_in_cluster kind)) (namespace_kind q.kind h)))

-- and a namespace lies in none
pub lies_nowhere : (n : List ℕ) (q : Id) → is_namespace q.kind ≡ true → lies_in n q ≡ false
lies_nowhere n q is = ap (λ (kind : Kind). not (is_in_cluster kind) && bytes_eq n q.ns) (namespace_kind q.kind is)

module _ (s t : State) (n : List ℕ) (more : HasOneMore s t n) where
  -- a namespace whose chain doesn't have it stands as before
  stands : (m : List ℕ) → in_chain (forest_of t) m n ≡ false → Stands s t m
  stands m out = record {
    acts = made_open_same (forest_of s) (forest_of t) n more.made m out;
    chain = made_chain_same (forest_of s) (forest_of t) n more.made m out;
    home = more.names m (another (forest_of s) (forest_of t) n more.made m out);
  }

  pub apart_copy : (m : List ℕ) (kind : Kind) (name : List ℕ) → in_chain (forest_of t) m n ≡ false → IsSameFor s t (key.Copy m kind name)
  apart_copy m kind name out = kept_copy s t m kind name (stands m out) (more.others config_id refl) (λ a copied. more.others (id_in kind name a) (copied_leaf kind copied))

  pub apart_tree : (m : List ℕ) → in_chain (forest_of t) m n ≡ false → IsSameFor s t (key.Tree m)
  apart_tree m out = kept_tree s t m (stands m out)

  pub apart_child : (m name : List ℕ) → in_chain (forest_of t) m n ≡ false → bytes_eq n name ≡ false → IsSameFor s t (key.Child m name)
  apart_child m name out off = kept_child s t m name (stands m out) more.excluded (more.others (anchor_id m name) refl) (ap is_some (more.names name off))

  pub apart_status : (m name : List ℕ) → bytes_eq n m ≡ false → bytes_eq n name ≡ false → IsSameFor s t (key.Anchor m name)
  apart_status m name off other =
      let live : is_live (forest_of t) m ≡ is_live (forest_of s) m = ap (λ o. option_map_or (λ (node : Node). not node.terminating) o false) (more.made.others m off) in
      let status : anchor_status t m name ≡ anchor_status s m name = λ i. status_by (is_in m (more.excluded i) || is_in name (more.excluded i)) m (more.names name other i) in
      kept_anchor s t m name live (more.names m off) (more.others (anchor_id m name) refl) status

  pub apart_purge : (m : List ℕ) → bytes_eq n m ≡ false → IsSameFor s t (key.Purge m)
  apart_purge m off =
      let leaves : is_leaving (forest_of t) m ≡ is_leaving (forest_of s) m = ap (λ o. option_map_or (λ (node : Node). node.terminating) o false) (more.made.others m off) in
      kept_purge s t m leaves (more.names m off) (λ q lies. more.others q (inside_leaf m q lies)) (more.least m)

  -- ---- reports

  pub children_same : (m : List ℕ) → is_child (forest_of t) m n ≡ false → children_of (forest_of t) m ≡ children_of (forest_of s) m
  children_same m up = (λ i. filter (λ a. child_same a i) (names_of (forest_of t))) ∙ more.order (is_child (forest_of s) m) none_before
    where
      none_before : is_child (forest_of s) m n ≡ false
      none_before = ap (λ o. option_map_or (bytes_eq m) o false) (no_parent (forest_of s) n more.made.absent)

      child_same : (a : List ℕ) → is_child (forest_of t) m a ≡ is_child (forest_of s) m a
      child_same a = elim (cases_Bool (bytes_eq n a)) [
        | inl same ↦ subst (λ (q : List ℕ). is_child (forest_of t) m q ≡ is_child (forest_of s) m q) (is_same n a same) (up ∙ sym none_before)
        | inr off ↦ ap (λ o. option_map_or (bytes_eq m) o false) (parent_same (forest_of s) (forest_of t) n more.made a off)
      ]

  misses_same : (m : List ℕ) → bytes_eq n m ≡ false → is_child (forest_of t) n m ≡ false
      → option_map_or (misses_anchor t.objects m) (object_at t.objects (namespace_id m)) false ≡ option_map_or (misses_anchor s.objects m) (object_at s.objects (namespace_id m)) false
  misses_same m off down = ap (λ o. option_map_or (misses_anchor t.objects m) o false) (more.names m off) ∙ by (object_at s.objects (namespace_id m)) refl
    where
      by_note : (x : Object) (note : Option (List ℕ)) → object_at s.objects (namespace_id m) ≡ Some x → subnamespace_parent x ≡ note
          → option_map_or (λ p. is_some (object_at t.objects (namespace_id p)) && is_none (object_at t.objects (anchor_id p m))) note false
          ≡ option_map_or (λ p. is_some (object_at s.objects (namespace_id p)) && is_none (object_at s.objects (anchor_id p m))) note false
      by_note x None found note = refl
      by_note x (Some p) found note =
          let other : bytes_eq n p ≡ false = sym (ap (λ o. option_map_or (bytes_eq n) o false) (parent_same (forest_of s) (forest_of t) n more.made m off ∙ more.notes m p x found note)) ∙ down in
          λ i. is_some (more.names p other i) && is_none (more.others (anchor_id p m) refl i)

      by : (o : Option Object) → object_at s.objects (namespace_id m) ≡ o → option_map_or (misses_anchor t.objects m) o false ≡ option_map_or (misses_anchor s.objects m) o false
      by None found = refl
      by (Some x) found = by_note x (subnamespace_parent x) found refl

  -- one that isn't named by it and doesn't name it, and is halted as before
  pub apart_report : (m : List ℕ) → bytes_eq n m ≡ false
      → (is_eligible (forest_of s) m ≡ true → (is_child (forest_of t) m n ≡ false) × (is_child (forest_of t) n m ≡ false) × (halt_of (forest_of t) m ≡ halt_of (forest_of s) m))
      → IsSameFor s t (key.Report m)
  apart_report m off stays = elim (cases_Bool (is_eligible (forest_of s) m)) [
    | inr restless ↦ silent_report s t m restless (eligible ∙ restless)
    | inl eligible_before ↦
        let same = stays eligible_before in
        same_report s t m eligible (more.others (hierarchy_id m) refl) (more.names m off) (children_same m same.0) (λ i. conditions_by (same.2 i) (misses_same m off same.1 i))
  ]
    where
      eligible : is_eligible (forest_of t) m ≡ is_eligible (forest_of s) m
      eligible = eligible_same (forest_of s) (forest_of t) n more.made m off

-- where the keys of those that ask for a name are left out, no anchor does
pub unasked : (objects : Objects) (n m name : List ℕ) (k : Key) → is_among k (anchor_keys (anchor_id m name)) ≡ true → is_among k (asking_keys objects n) ≡ false → bytes_eq n name ≡ true → object_at objects (anchor_id m name) ≡ None
unasked objects n m name k its out same = by (object_at objects (anchor_id m name)) refl
  where
    by : (o : Option Object) → object_at objects (anchor_id m name) ≡ o → o ≡ None
    by None e = refl
    by (Some x) e =
        let is : name ≡ n = sym (is_same n name same) in
        let mem : is_among k (asking_keys objects n) ≡ true = asking_among objects m n k x (subst (λ (q : List ℕ). object_at objects (anchor_id m q) ≡ Some x) is e) (subst (λ (q : List ℕ). is_among k (anchor_keys (anchor_id m q)) ≡ true) is its) in
        absurd (true≢false (sym mem ∙ out))
