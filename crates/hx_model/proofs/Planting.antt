-- The tree of the rows after a write.
--     namespace_is_homed, is_hierarchy_id    the identities of namespaces, and of HierarchyConfigurations named `hierarchy`
--     nodes node objects                     the nodes of the namespaces, each by a function of its row: a tree of whichever kind
--     look_up, namespaces-put, namespaces-cut, nodes-put, nodes-cut    what it tells of a name;  other objects leave it as it is;  a namespace brings its node, or takes it along
--     node_of-objects, there-objects               what the tree tells of a name, by the row of its namespace
--     forest-put, forest-cut                 objects that are neither namespaces nor HierarchyConfigurations leave the tree as it is
--     forest-put_other, forest-cut_other     so does a HierarchyConfiguration of another name than `hierarchy`
--     forest-put_hierarchy, forest-cut_hierarchy     one of that name sets the parent of its namespace
--     forest-put_stray, forest-cut_stray     and changes nothing where the namespace isn't there
--     forest-put_namespace                   a namespace brings its node, or replaces it
--     forest-put_again                       one with the same annotation and phase leaves the tree as it is
--     put_there                              a put of what is there changes nothing
--     forest-put_terminating                 one that is on its way out in the place of one with the same annotation
--     forest-cut_namespace                   a namespace that is cut takes its node along
--     forest-put_moves, forest-kept_moves, forest-cut_moves     a HierarchyConfiguration of any name, by the namespace that is found
--     terminating-replaced    what a replacement keeps
-- The laws hold of any object: none looks at its version.
use Rattle.std.proofs.Common.{◌≡◌, ℕ, Bool, true, false, cond, not, Option, Some, None, List, [], ◌∷◌, map, Ordering, Less, Equal, Greater, is_lt, refl, sym, ap, ◌∙◌, subst, true≢false}
use Rattle.std.specs.Prelude.{is_some, unwrap_or, if◌then◌else◌, option_map, option_and_then}
use Rattle.std.specs.Option.{option_map_or}
use Rattle.std.specs.List.{AllByRecursion}
use Rattle.std.specs.Str.{bytes_eq}
use Rattle.std.specs.FinMap.Entries.{by_order}
use Rattle.std.specs.Cmp.{tied_itself, both_ways}
use Rattle.std.proofs.lemmas.Slice.Eq.{bytes_eq-Decides}
use Rattle.std.proofs.lemmas.Bool.{and_parts, and_from, false_from_ne_true}
use Rattle.hx_object.specs.Faults.{IsPayloadOf}
use Rattle.hx_object.specs.Kinds.{is_in_cluster}
use Rattle.hx_object.proofs.KindTests.{namespace_kind, hierarchy_kind as kind_of_hierarchy}
use Rattle.hx_object.specs.Order.{id_cmp}
use Rattle.hx_object.specs.Texts.{bytes_cmp}
use Rattle.hx_object.specs.declared.kind.Kind.TheVariants.{Namespace, HierarchyConfiguration}
use Rattle.hx_object.specs.declared.object.Id.{Id}
use Rattle.hx_object.specs.declared.object.Object.{Object}
use Rattle.hx_object.specs.declared.object.Payload.{Payload}
use Rattle.hx_object.specs.declared.object.Payload.TheVariants.{Namespace as NamespaceOf, Config, Hierarchy, Anchor, Quota, Plain}
use Rattle.hx_model.specs.First.{or_else}
use Rattle.hx_model.specs.Forest.{Forest, is_in, node_of, is_there, with_parent}
use Rattle.hx_model.specs.ForestChanges.{with_node, without_node, with_terminating}
use Rattle.hx_model.specs.Limits.{is_namespace, is_hierarchy}
use Rattle.hx_model.specs.Serving.{IsServed}
use Rattle.hx_model.specs.State.{Objects, same_id, object_at, put, cut, is_below_all, ascends, namespace_id, home_in}
use Rattle.hx_model.specs.Tree.{hierarchy, hierarchy_id, subnamespace_parent, named_parent, is_terminating, node_in, namespaces_in, forest_in}
use Rattle.hx_model.specs.Answers.{with_status, replaced_by}
use Rattle.hx_model.specs.declared.node.Node.{Node}
use Rattle.hx_model.proofs.Storing.{All-found}
use Rattle.hx_model.proofs.Objects.{id_total, exact_ids, is_same_id, same_from_Equal, object_at-put, object_at-cut, found_id, none_below, less_than_all, ascends-put, same_rows}

-- ---- identities

-- a namespace lies in no namespace, and so its name is its identity
abbrev IsHomed : Object → Type 0
IsHomed x = is_namespace x.id.kind ≡ true → x.id ≡ namespace_id x.id.name

-- such is each namespace that is served
pub namespace_is_homed : (x : Object) → IsServed x → is_namespace x.id.kind ≡ true → x.id ≡ namespace_id x.id.name
namespace_is_homed x served is =
    let kind : x.id.kind ≡ Namespace = namespace_kind x.id.kind is in
    let ns : x.id.ns ≡ [] = served.legal.home (ap is_in_cluster kind) in
    λ i. record { kind = kind i; ns = ns i; name = x.id.name }

pub all_homed : (objects : Objects) → AllByRecursion IsServed objects → AllByRecursion IsHomed objects
all_homed [] served = tt
all_homed (x ∷ objects) served = (namespace_is_homed x served.0, all_homed objects served.1)

-- an identity that is no namespace's is none of them
not_a_namespace : (n : List ℕ) (id : Id) → is_namespace id.kind ≡ false → same_id (namespace_id n) id ≡ false
not_a_namespace n id out = false_from_ne_true (same_id (namespace_id n) id) (λ h. true≢false (ap (λ (q : Id). is_namespace q.kind) (is_same_id (namespace_id n) id h) ∙ out))

-- one that is no HierarchyConfiguration's is none of theirs
not_a_hierarchy : (n : List ℕ) (id : Id) → is_hierarchy id.kind ≡ false → same_id (hierarchy_id n) id ≡ false
not_a_hierarchy n id out = false_from_ne_true (same_id (hierarchy_id n) id) (λ h. true≢false (ap (λ (q : Id). is_hierarchy q.kind) (is_same_id (hierarchy_id n) id h) ∙ out))

-- nor is one of another name
not_that_name : (n : List ℕ) (id : Id) → bytes_eq id.name hierarchy ≡ false → same_id (hierarchy_id n) id ≡ false
not_that_name n id out = false_from_ne_true (same_id (hierarchy_id n) id) (λ h. true≢false (ap (λ (q : Id). bytes_eq q.name hierarchy) (is_same_id (hierarchy_id n) id h) ∙ out))

-- the kind of a HierarchyConfiguration
pub hierarchy_kind : (id : Id) → is_hierarchy id.kind ≡ true → id.kind ≡ HierarchyConfiguration
hierarchy_kind id is = kind_of_hierarchy id.kind is

-- a HierarchyConfiguration isn't a namespace
pub hierarchy_no_namespace : (id : Id) → is_hierarchy id.kind ≡ true → is_namespace id.kind ≡ false
hierarchy_no_namespace id is = ap is_namespace (hierarchy_kind id is)

-- the identity of a HierarchyConfiguration named `hierarchy`
pub is_hierarchy_id : (id : Id) → is_hierarchy id.kind ≡ true → bytes_eq id.name hierarchy ≡ true → id ≡ hierarchy_id id.ns
is_hierarchy_id id is named =
    let kind = hierarchy_kind id is in
    let name = (bytes_eq-Decides id.name hierarchy).0 named in
    λ i. record { kind = kind i; ns = id.ns; name = name i }

-- ---- nodes, each by a function of its row

abbrev entry : (Object → Node) → Object → List ℕ × Node
entry node x = (x.id.name, node x)

abbrev pub nodes : (Object → Node) → Objects → Forest
nodes node objects = map (entry node) (namespaces_in objects)

nodes-namespace : (node : Object → Node) (x : Object) (objects : Objects) → is_namespace x.id.kind ≡ true → nodes node (x ∷ objects) ≡ entry node x ∷ nodes node objects
nodes-namespace node x objects is = ap (λ b. map (entry node) (cond b (x ∷ namespaces_in objects) (namespaces_in objects))) is

nodes-other : (node : Object → Node) (x : Object) (objects : Objects) → is_namespace x.id.kind ≡ false → nodes node (x ∷ objects) ≡ nodes node objects
nodes-other node x objects out = ap (λ b. map (entry node) (cond b (x ∷ namespaces_in objects) (namespaces_in objects))) out

-- a node depends on all rows by the HierarchyConfiguration alone
abbrev node_by : List (List ℕ) → Object → Option Object → Node
node_by ex x found = record { parent = or_else (subnamespace_parent x) (option_and_then named_parent found); terminating = is_terminating x.payload; excluded = is_in x.id.name ex }

-- where all HierarchyConfigurations are found alike, all nodes are the same
nodes_alike : (ex : List (List ℕ)) (old new objects : Objects) → ((n : List ℕ) → object_at new (hierarchy_id n) ≡ object_at old (hierarchy_id n)) → nodes (node_in ex new) objects ≡ nodes (node_in ex old) objects
nodes_alike ex old new objects alike = ap (λ (f : Object → List ℕ × Node). map f (namespaces_in objects)) (λ i x. (x.id.name, node_by ex x (alike x.id.name i)))

-- ---- look-ups

pub look_up : (node : Object → Node) (objects : Objects) (n : List ℕ) → AllByRecursion IsHomed objects → node_of (nodes node objects) n ≡ option_map node (object_at objects (namespace_id n))
look_up node [] n homes = refl
look_up node (y ∷ objects) n homes =
    elim (is_namespace y.id.kind) as (λ b. is_namespace y.id.kind ≡ b
    → node_of (map (entry node) (cond b (y ∷ namespaces_in objects) (namespaces_in objects))) n ≡ option_map node (cond (same_id (namespace_id n) y.id) (Some y) (object_at objects (namespace_id n)))) [
      | true ↦ λ is.
          either (bytes_eq n y.id.name) (look_up node objects n homes.1)
          ∙ ap (λ b. option_map node (cond b (Some y) (object_at objects (namespace_id n)))) (sym (ap (same_id (namespace_id n)) (homes.0 is)))
      | false ↦ λ out.
          look_up node objects n homes.1
          ∙ ap (λ b. option_map node (cond b (Some y) (object_at objects (namespace_id n)))) (sym (not_a_namespace n y.id out))
    ] refl
  where
    either : (b : Bool) → node_of (nodes node objects) n ≡ option_map node (object_at objects (namespace_id n))
        → cond b (Some (node y)) (node_of (nodes node objects) n) ≡ option_map node (cond b (Some y) (object_at objects (namespace_id n)))
    either true e = refl
    either false e = e

-- the node of a namespace is that of its row
pub node_of-objects : (ex : List (List ℕ)) (objects : Objects) (n : List ℕ) → AllByRecursion IsServed objects → node_of (forest_in ex objects) n ≡ option_map (node_in ex objects) (object_at objects (namespace_id n))
node_of-objects ex objects n served = look_up (node_in ex objects) objects n (all_homed objects served)

-- a namespace is there where its row is
pub there-objects : (ex : List (List ℕ)) (objects : Objects) (n : List ℕ) → AllByRecursion IsServed objects → is_there (forest_in ex objects) n ≡ is_some (object_at objects (namespace_id n))
there-objects ex objects n served = ap is_some (node_of-objects ex objects n served) ∙ each (object_at objects (namespace_id n))
  where
    each : (found : Option Object) → is_some (option_map (node_in ex objects) found) ≡ is_some found
    each None = refl
    each (Some x) = refl

-- ---- objects that are no namespaces

pub namespaces-put : (node : Object → Node) (x : Object) (objects : Objects) → is_namespace x.id.kind ≡ false → nodes node (put x objects) ≡ nodes node objects
namespaces-put node x [] out = nodes-other node x [] out
namespaces-put node x (y ∷ objects) out =
    elim (id_cmp x.id y.id) as (λ o. id_cmp x.id y.id ≡ o → nodes node (by_order o (x ∷ y ∷ objects) (x ∷ objects) (y ∷ put x objects)) ≡ nodes node (y ∷ objects)) [
      | Less ↦ λ e. nodes-other node x (y ∷ objects) out
      | Equal ↦ λ e. nodes-other node x objects out ∙ sym (nodes-other node y objects (subst (λ (q : Id). is_namespace q.kind ≡ false) (exact_ids x.id y.id e) out))
      | Greater ↦ λ e. onward (is_namespace y.id.kind) (namespaces-put node x objects out)
    ] refl
  where
    onward : (b : Bool) → nodes node (put x objects) ≡ nodes node objects
        → map (entry node) (cond b (y ∷ namespaces_in (put x objects)) (namespaces_in (put x objects))) ≡ map (entry node) (cond b (y ∷ namespaces_in objects) (namespaces_in objects))
    onward true e = ap (λ (f : Forest). entry node y ∷ f) e
    onward false e = e

pub namespaces-cut : (node : Object → Node) (id : Id) (objects : Objects) → is_namespace id.kind ≡ false → nodes node (cut id objects) ≡ nodes node objects
namespaces-cut node id [] out = refl
namespaces-cut node id (y ∷ objects) out =
    elim (same_id id y.id) as (λ b. same_id id y.id ≡ b → nodes node (cond (not b) (y ∷ cut id objects) (cut id objects)) ≡ nodes node (y ∷ objects)) [
      | true ↦ λ e. namespaces-cut node id objects out ∙ sym (nodes-other node y objects (subst (λ (q : Id). is_namespace q.kind ≡ false) (is_same_id id y.id e) out))
      | false ↦ λ e. onward (is_namespace y.id.kind) (namespaces-cut node id objects out)
    ] refl
  where
    onward : (b : Bool) → nodes node (cut id objects) ≡ nodes node objects
        → map (entry node) (cond b (y ∷ namespaces_in (cut id objects)) (namespaces_in (cut id objects))) ≡ map (entry node) (cond b (y ∷ namespaces_in objects) (namespaces_in objects))
    onward true e = ap (λ (f : Forest). entry node y ∷ f) e
    onward false e = e

-- of an identity that no HierarchyConfiguration named `hierarchy` has
same-put : (ex : List (List ℕ)) (x : Object) (objects : Objects) → is_namespace x.id.kind ≡ false → ((n : List ℕ) → same_id (hierarchy_id n) x.id ≡ false) → forest_in ex (put x objects) ≡ forest_in ex objects
same-put ex x objects out other =
    nodes_alike ex objects (put x objects) (put x objects) (λ n. object_at-put x objects (hierarchy_id n) ∙ ap (λ b. cond b (Some x) (object_at objects (hierarchy_id n))) (other n))
    ∙ namespaces-put (node_in ex objects) x objects out

same-cut : (ex : List (List ℕ)) (id : Id) (objects : Objects) → is_namespace id.kind ≡ false → ((n : List ℕ) → same_id (hierarchy_id n) id ≡ false) → forest_in ex (cut id objects) ≡ forest_in ex objects
same-cut ex id objects out other =
    nodes_alike ex objects (cut id objects) (cut id objects) (λ n. object_at-cut id objects (hierarchy_id n) ∙ ap (λ b. cond b None (object_at objects (hierarchy_id n))) (other n))
    ∙ namespaces-cut (node_in ex objects) id objects out

-- an object that is neither a namespace nor a HierarchyConfiguration is put
pub forest-put : (ex : List (List ℕ)) (x : Object) (objects : Objects) → is_namespace x.id.kind ≡ false → is_hierarchy x.id.kind ≡ false → forest_in ex (put x objects) ≡ forest_in ex objects
forest-put ex x objects out leaf = same-put ex x objects out (λ n. not_a_hierarchy n x.id leaf)

-- and is cut
pub forest-cut : (ex : List (List ℕ)) (id : Id) (objects : Objects) → is_namespace id.kind ≡ false → is_hierarchy id.kind ≡ false → forest_in ex (cut id objects) ≡ forest_in ex objects
forest-cut ex id objects out leaf = same-cut ex id objects out (λ n. not_a_hierarchy n id leaf)

-- a HierarchyConfiguration of another name is put
pub forest-put_other : (ex : List (List ℕ)) (x : Object) (objects : Objects) → is_hierarchy x.id.kind ≡ true → bytes_eq x.id.name hierarchy ≡ false → forest_in ex (put x objects) ≡ forest_in ex objects
forest-put_other ex x objects is other = same-put ex x objects (hierarchy_no_namespace x.id is) (λ n. not_that_name n x.id other)

-- and is cut
pub forest-cut_other : (ex : List (List ℕ)) (id : Id) (objects : Objects) → is_hierarchy id.kind ≡ true → bytes_eq id.name hierarchy ≡ false → forest_in ex (cut id objects) ≡ forest_in ex objects
forest-cut_other ex id objects is other = same-cut ex id objects (hierarchy_no_namespace id is) (λ n. not_that_name n id other)

-- ---- HierarchyConfigurations named `hierarchy`

-- each of the rows is found under its identity
unique : (objects : Objects) → ascends objects ≡ true → AllByRecursion (λ (y : Object). object_at objects y.id ≡ Some y) objects
unique [] up = tt
unique (y ∷ objects) up =
    let parts = and_parts (is_below_all y.id objects) (ascends objects) up in
    (ap (λ b. cond b (Some y) (object_at objects y.id)) (same_from_Equal y.id y.id (tied_itself id_total y.id)), lifted objects objects parts.0 (unique objects parts.1))
  where
    apart : (z : Object) → is_lt (id_cmp y.id z.id) ≡ true → same_id z.id y.id ≡ false
    apart z low = false_from_ne_true (same_id z.id y.id) (λ h. true≢false (sym low ∙ ap is_lt (ap (λ (q : Id). id_cmp y.id q) (is_same_id z.id y.id h) ∙ tied_itself id_total y.id)))

    lifted : (all rest : Objects) → is_below_all y.id rest ≡ true → AllByRecursion (λ (z : Object). object_at all z.id ≡ Some z) rest → AllByRecursion (λ (z : Object). object_at (y ∷ all) z.id ≡ Some z) rest
    lifted all [] low own = tt
    lifted all (z ∷ rest) low own =
        let parts = and_parts (is_lt (id_cmp y.id z.id)) (is_below_all y.id rest) low in
        (ap (λ b. cond b (Some y) (object_at all z.id)) (apart z parts.0) ∙ own.0, lifted all rest parts.1 own.1)

-- two functions that agree at the namespaces
map_alike : (u v : Object → List ℕ × Node) (objects : Objects) → AllByRecursion (λ (y : Object). is_namespace y.id.kind ≡ true → u y ≡ v y) objects → map u (namespaces_in objects) ≡ map v (namespaces_in objects)
map_alike u v [] agree = refl
map_alike u v (y ∷ objects) agree =
    elim (is_namespace y.id.kind) as (λ b. is_namespace y.id.kind ≡ b → map u (cond b (y ∷ namespaces_in objects) (namespaces_in objects)) ≡ map v (cond b (y ∷ namespaces_in objects) (namespaces_in objects))) [
      | true ↦ λ is. λ i. agree.0 is i ∷ map_alike u v objects agree.1 i
      | false ↦ λ out. map_alike u v objects agree.1
    ] refl

-- the entry of a namespace with another parent
abbrev moved_entry : List (List ℕ) → Objects → List ℕ → Option (List ℕ) → Object → List ℕ × Node
moved_entry ex all n parent y = (y.id.name, if bytes_eq n y.id.name then record (node_in ex all y) { parent = parent } else node_in ex all y)

moved_map : (ex : List (List ℕ)) (all : Objects) (n : List ℕ) (parent : Option (List ℕ)) (xs : Objects) → map (moved_entry ex all n parent) xs ≡ with_parent n parent (map (entry (node_in ex all)) xs)
moved_map ex all n parent [] = refl
moved_map ex all n parent (y ∷ xs) = ap (λ (f : Forest). moved_entry ex all n parent y ∷ f) (moved_map ex all n parent xs)

-- the identities of two HierarchyConfigurations named `hierarchy`
same_hierarchy : (m n : List ℕ) → same_id (hierarchy_id m) (hierarchy_id n) ≡ bytes_eq n m
same_hierarchy m n = both_ways (same_id (hierarchy_id m) (hierarchy_id n)) (bytes_eq n m)
    (λ h. (bytes_eq-Decides n m).1 (sym (ap (λ (q : Id). q.ns) (is_same_id (hierarchy_id m) (hierarchy_id n) h))))
    (λ h. subst (λ (k : List ℕ). same_id (hierarchy_id m) (hierarchy_id k) ≡ true) (sym ((bytes_eq-Decides n m).0 h)) (same_from_Equal (hierarchy_id m) (hierarchy_id m) (tied_itself id_total (hierarchy_id m))))

-- in the new rows another HierarchyConfiguration of n is found, or none
module _ (ex : List (List ℕ)) (old new : Objects) (n : List ℕ) (found : Option Object) (changed : (m : List ℕ) → object_at new (hierarchy_id m) ≡ cond (bytes_eq n m) found (object_at old (hierarchy_id m))) where
  -- the only namespace of that name
  only : (y : Object) → IsHomed y → object_at old y.id ≡ Some y → is_namespace y.id.kind ≡ true → bytes_eq n y.id.name ≡ true → object_at old (namespace_id n) ≡ Some y
  only y home own is named = ap (object_at old) (ap namespace_id ((bytes_eq-Decides n y.id.name).0 named) ∙ sym (home is)) ∙ own

  module _ (home : Object) (there : object_at old (namespace_id n) ≡ Some home) where
    abbrev after : Option (List ℕ)
    after = or_else (subnamespace_parent home) (option_and_then named_parent found)

    at_name : (y : Object) → IsHomed y → object_at old y.id ≡ Some y → is_namespace y.id.kind ≡ true → (b : Bool) → bytes_eq n y.id.name ≡ b
        → node_by ex y (cond b found (object_at old (hierarchy_id y.id.name))) ≡ (if b then record (node_in ex old y) { parent = after } else node_in ex old y)
    at_name y homed own is true named =
        let same : y ≡ home = ap (λ (o : Option Object). unwrap_or o y) (sym (only y homed own is named) ∙ there) in
        ap (λ (z : Object). record (node_by ex y found) { parent = or_else (subnamespace_parent z) (option_and_then named_parent found) }) same
    at_name y homed own is false other = refl

    moved : (objects : Objects) → AllByRecursion IsHomed objects → AllByRecursion (λ (y : Object). object_at old y.id ≡ Some y) objects
        → AllByRecursion (λ (y : Object). is_namespace y.id.kind ≡ true → entry (node_in ex new) y ≡ moved_entry ex old n after y) objects
    moved [] homes own = tt
    moved (y ∷ objects) homes own =
        (λ is i. (y.id.name, (ap (node_by ex y) (changed y.id.name) ∙ at_name y homes.0 own.0 is (bytes_eq n y.id.name) refl) i), moved objects homes.1 own.1)

    with_found : ascends old ≡ true → AllByRecursion IsServed old → nodes (node_in ex new) old ≡ with_parent n after (forest_in ex old)
    with_found up served = map_alike (entry (node_in ex new)) (moved_entry ex old n after) old (moved old (all_homed old served) (unique old up)) ∙ moved_map ex old n after (namespaces_in old)

  module _ (absent : object_at old (namespace_id n) ≡ None) where
    unmoved : (objects : Objects) → AllByRecursion IsHomed objects → AllByRecursion (λ (y : Object). object_at old y.id ≡ Some y) objects → AllByRecursion (λ (y : Object). is_namespace y.id.kind ≡ true → entry (node_in ex new) y ≡ entry (node_in ex old) y) objects
    unmoved [] homes own = tt
    unmoved (y ∷ objects) homes own =
        (λ is i. (y.id.name, node_by ex y ((changed y.id.name ∙ ap (λ b. cond b found (object_at old (hierarchy_id y.id.name))) (apart is)) i)), unmoved objects homes.1 own.1)
      where
        apart : is_namespace y.id.kind ≡ true → bytes_eq n y.id.name ≡ false
        apart is = false_from_ne_true (bytes_eq n y.id.name) (λ named. true≢false (ap is_some (sym (only y homes.0 own.0 is named) ∙ absent)))

    without_home : ascends old ≡ true → AllByRecursion IsServed old → nodes (node_in ex new) old ≡ forest_in ex old
    without_home up served = map_alike (entry (node_in ex new)) (entry (node_in ex old)) old (unmoved old (all_homed old served) (unique old up))

changed-put : (x : Object) (objects : Objects) (n : List ℕ) → x.id ≡ hierarchy_id n → (m : List ℕ) → object_at (put x objects) (hierarchy_id m) ≡ cond (bytes_eq n m) (Some x) (object_at objects (hierarchy_id m))
changed-put x objects n is m = object_at-put x objects (hierarchy_id m) ∙ ap (λ b. cond b (Some x) (object_at objects (hierarchy_id m))) (ap (same_id (hierarchy_id m)) is ∙ same_hierarchy m n)

changed-cut : (objects : Objects) (n : List ℕ) (m : List ℕ) → object_at (cut (hierarchy_id n) objects) (hierarchy_id m) ≡ cond (bytes_eq n m) None (object_at objects (hierarchy_id m))
changed-cut objects n m = object_at-cut (hierarchy_id n) objects (hierarchy_id m) ∙ ap (λ b. cond b None (object_at objects (hierarchy_id m))) (same_hierarchy m n)

-- one is put, and sets the parent of its namespace
pub forest-put_hierarchy : (ex : List (List ℕ)) (x : Object) (objects : Objects) (n : List ℕ) (home : Object) → x.id ≡ hierarchy_id n → object_at objects (namespace_id n) ≡ Some home → ascends objects ≡ true → AllByRecursion IsServed objects
    → forest_in ex (put x objects) ≡ with_parent n (or_else (subnamespace_parent home) (named_parent x)) (forest_in ex objects)
forest-put_hierarchy ex x objects n home is there up served = namespaces-put (node_in ex (put x objects)) x objects (ap (λ (q : Id). is_namespace q.kind) is) ∙ with_found ex objects (put x objects) n (Some x) (changed-put x objects n is) home there up served

-- one is cut
pub forest-cut_hierarchy : (ex : List (List ℕ)) (objects : Objects) (n : List ℕ) (home : Object) → object_at objects (namespace_id n) ≡ Some home → ascends objects ≡ true → AllByRecursion IsServed objects
    → forest_in ex (cut (hierarchy_id n) objects) ≡ with_parent n (or_else (subnamespace_parent home) None) (forest_in ex objects)
forest-cut_hierarchy ex objects n home there up served = namespaces-cut (node_in ex (cut (hierarchy_id n) objects)) (hierarchy_id n) objects refl ∙ with_found ex objects (cut (hierarchy_id n) objects) n None (changed-cut objects n) home there up served

-- one without a namespace is put
pub forest-put_stray : (ex : List (List ℕ)) (x : Object) (objects : Objects) (n : List ℕ) → x.id ≡ hierarchy_id n → object_at objects (namespace_id n) ≡ None → ascends objects ≡ true → AllByRecursion IsServed objects → forest_in ex (put x objects) ≡ forest_in ex objects
forest-put_stray ex x objects n is absent up served = namespaces-put (node_in ex (put x objects)) x objects (ap (λ (q : Id). is_namespace q.kind) is) ∙ without_home ex objects (put x objects) n (Some x) (changed-put x objects n is) absent up served

-- and is cut
pub forest-cut_stray : (ex : List (List ℕ)) (objects : Objects) (n : List ℕ) → object_at objects (namespace_id n) ≡ None → ascends objects ≡ true → AllByRecursion IsServed objects → forest_in ex (cut (hierarchy_id n) objects) ≡ forest_in ex objects
forest-cut_stray ex objects n absent up served = namespaces-cut (node_in ex (cut (hierarchy_id n) objects)) (hierarchy_id n) objects refl ∙ without_home ex objects (cut (hierarchy_id n) objects) n None (changed-cut objects n) absent up served

-- ---- namespaces

-- of two namespaces the names decide
name_cmp : (n : List ℕ) (y : Object) → IsHomed y → is_namespace y.id.kind ≡ true → id_cmp (namespace_id n) y.id ≡ bytes_cmp n y.id.name
name_cmp n y home is = ap (id_cmp (namespace_id n)) (home is)

is_less : (o : Ordering) → is_lt o ≡ true → o ≡ Less
is_less Less e = refl
is_less Equal e = absurd (true≢false (sym e))
is_less Greater e = absurd (true≢false (sym e))

-- a name that is less than all stands first
with_least : (node : Object → Node) (n : List ℕ) (own : Node) (objects : Objects) → AllByRecursion IsHomed objects → is_below_all (namespace_id n) objects ≡ true → with_node n own (nodes node objects) ≡ (n, own) ∷ nodes node objects
with_least node n own [] homes low = refl
with_least node n own (y ∷ objects) homes low =
    let parts = and_parts (is_lt (id_cmp (namespace_id n) y.id)) (is_below_all (namespace_id n) objects) low in
    elim (is_namespace y.id.kind) as (λ b. is_namespace y.id.kind ≡ b → with_node n own (map (entry node) (cond b (y ∷ namespaces_in objects) (namespaces_in objects))) ≡ (n, own) ∷ map (entry node) (cond b (y ∷ namespaces_in objects) (namespaces_in objects))) [
      | true ↦ λ is.
          ap (λ o. by_order o ((n, own) ∷ entry node y ∷ nodes node objects) ((n, own) ∷ nodes node objects) (entry node y ∷ with_node n own (nodes node objects)))
          (sym (name_cmp n y homes.0 is) ∙ is_less (id_cmp (namespace_id n) y.id) parts.0)
      | false ↦ λ out. with_least node n own objects homes.1 parts.1
    ] refl

module _ (node : Object → Node) (x : Object) (home : x.id ≡ namespace_id x.id.name) where
  is_one : is_namespace x.id.kind ≡ true
  is_one = ap (λ (q : Id). is_namespace q.kind) home

  cmp_at : (y : Object) (o : Ordering) → IsHomed y → is_namespace y.id.kind ≡ true → id_cmp x.id y.id ≡ o → bytes_cmp x.id.name y.id.name ≡ o
  cmp_at y o homed is e = sym (name_cmp x.id.name y homed is) ∙ ap (λ (q : Id). id_cmp q y.id) (sym home) ∙ e

  pub nodes-put : (objects : Objects) → ascends objects ≡ true → AllByRecursion IsHomed objects → nodes node (put x objects) ≡ with_node x.id.name (node x) (nodes node objects)
  nodes-put [] up homes = nodes-namespace node x [] is_one
  nodes-put (y ∷ objects) up homes =
      let parts = and_parts (is_below_all y.id objects) (ascends objects) up in
      elim (id_cmp x.id y.id) as (λ o. id_cmp x.id y.id ≡ o → nodes node (by_order o (x ∷ y ∷ objects) (x ∷ objects) (y ∷ put x objects)) ≡ with_node x.id.name (node x) (nodes node (y ∷ objects))) [
        | Less ↦ λ e.
            let low : is_below_all x.id (y ∷ objects) ≡ true = and_from _ _ (ap is_lt e) (less_than_all x.id y.id objects e parts.0) in
            nodes-namespace node x (y ∷ objects) is_one ∙ sym (with_least node x.id.name (node x) (y ∷ objects) homes (subst (λ (q : Id). is_below_all q (y ∷ objects) ≡ true) home low))
        | Equal ↦ λ e.
            let is : is_namespace y.id.kind ≡ true = subst (λ (q : Id). is_namespace q.kind ≡ true) (exact_ids x.id y.id e) is_one in
            nodes-namespace node x objects is_one
            ∙ sym (ap (with_node x.id.name (node x)) (nodes-namespace node y objects is) ∙ steps y objects Equal (cmp_at y Equal homes.0 is e))
        | Greater ↦ λ e.
            elim (is_namespace y.id.kind) as (λ b. is_namespace y.id.kind ≡ b
            → map (entry node) (cond b (y ∷ namespaces_in (put x objects)) (namespaces_in (put x objects))) ≡ with_node x.id.name (node x) (map (entry node) (cond b (y ∷ namespaces_in objects) (namespaces_in objects)))) [
              | true ↦ λ is. ap (λ (f : Forest). entry node y ∷ f) (nodes-put objects parts.1 homes.1) ∙ sym (steps y objects Greater (cmp_at y Greater homes.0 is e))
              | false ↦ λ out. nodes-put objects parts.1 homes.1
            ] refl
      ] refl
    where
      steps : (y : Object) (objects : Objects) (o : Ordering) → bytes_cmp x.id.name y.id.name ≡ o
          → with_node x.id.name (node x) (entry node y ∷ nodes node objects)
          ≡ by_order o ((x.id.name, node x) ∷ entry node y ∷ nodes node objects) ((x.id.name, node x) ∷ nodes node objects) (entry node y ∷ with_node x.id.name (node x) (nodes node objects))
      steps y objects o e = ap (λ p. by_order p ((x.id.name, node x) ∷ entry node y ∷ nodes node objects) ((x.id.name, node x) ∷ nodes node objects) (entry node y ∷ with_node x.id.name (node x) (nodes node objects))) e

-- a namespace is put, and its node stands in its place
pub forest-put_namespace : (ex : List (List ℕ)) (x : Object) (objects : Objects) → x.id ≡ namespace_id x.id.name → ascends objects ≡ true → AllByRecursion IsServed objects
    → forest_in ex (put x objects) ≡ with_node x.id.name (node_in ex objects x) (forest_in ex objects)
forest-put_namespace ex x objects home up served =
    let out : is_hierarchy x.id.kind ≡ false = ap (λ (q : Id). is_hierarchy q.kind) home in
    nodes_alike ex objects (put x objects) (put x objects) (λ n. object_at-put x objects (hierarchy_id n) ∙ ap (λ b. cond b (Some x) (object_at objects (hierarchy_id n))) (not_a_hierarchy n x.id out))
    ∙ nodes-put (node_in ex objects) x home objects up (all_homed objects served)

-- to put what is there changes nothing
pub put_there : (x : Object) (objects : Objects) → object_at objects x.id ≡ Some x → ascends objects ≡ true → put x objects ≡ objects
put_there x objects there up = same_rows (put x objects) objects (ascends-put x objects up) up (λ q. object_at-put x objects q ∙ each q (same_id q x.id) refl)
  where
    each : (q : Id) (b : Bool) → same_id q x.id ≡ b → cond b (Some x) (object_at objects q) ≡ object_at objects q
    each q true same = sym (ap (object_at objects) (is_same_id q x.id same) ∙ there)
    each q false other = refl

-- a namespace is put in the place of one with the same annotation and phase
pub forest-put_again : (ex : List (List ℕ)) (x old : Object) (objects : Objects) → is_namespace x.id.kind ≡ true → object_at objects x.id ≡ Some old → subnamespace_parent x ≡ subnamespace_parent old
    → is_terminating x.payload ≡ is_terminating old.payload → ascends objects ≡ true → AllByRecursion IsServed objects → forest_in ex (put x objects) ≡ forest_in ex objects
forest-put_again ex x old objects is there annotated phase up served =
    let same : x.id ≡ old.id = found_id objects x.id old there in
    let old_is : is_namespace old.id.kind ≡ true = subst (λ (q : Id). is_namespace q.kind ≡ true) same is in
    let old_home : old.id ≡ namespace_id old.id.name = namespace_is_homed old (All-found IsServed x.id old objects served there) old_is in
    let home : x.id ≡ namespace_id x.id.name = subst (λ (q : Id). q ≡ namespace_id q.name) (sym same) old_home in
    let node : node_in ex objects x ≡ node_in ex objects old = λ i. record { parent = or_else (annotated i) (option_and_then named_parent (object_at objects (hierarchy_id ((same i).name)))); terminating = phase i; excluded = is_in ((same i).name) ex } in
    forest-put_namespace ex x objects home up served
    ∙ (λ i. with_node ((same i).name) (node i) (forest_in ex objects))
    ∙ sym (forest-put_namespace ex old objects old_home up served)
    ∙ ap (forest_in ex) (put_there old objects (subst (λ (q : Id). object_at objects q ≡ Some old) same there) up)

-- ---- namespaces that leave

-- two namespaces of one name are one
same_names : (n : List ℕ) (y : Object) → IsHomed y → is_namespace y.id.kind ≡ true → bytes_eq n y.id.name ≡ same_id (namespace_id n) y.id
same_names n y homed is = sym (ap (same_id (namespace_id n)) (homed is))

-- the entry of a namespace that may be on its way out
abbrev leaving_entry : List (List ℕ) → Objects → List ℕ → Object → List ℕ × Node
leaving_entry ex all n y = (y.id.name, if bytes_eq n y.id.name then record (node_in ex all y) { terminating = true } else node_in ex all y)

leaving_map : (ex : List (List ℕ)) (all : Objects) (n : List ℕ) (xs : Objects) → map (leaving_entry ex all n) xs ≡ with_terminating n (map (entry (node_in ex all)) xs)
leaving_map ex all n [] = refl
leaving_map ex all n (y ∷ xs) = ap (λ (f : Forest). leaving_entry ex all n y ∷ f) (leaving_map ex all n xs)

module _ (ex : List (List ℕ)) (all : Objects) (x old : Object) (home : x.id ≡ namespace_id x.id.name) (annotated : subnamespace_parent x ≡ subnamespace_parent old) (leaves : is_terminating x.payload ≡ true) where
  -- another namespace stays
  stays : (y : Object) → IsHomed y → same_id x.id y.id ≡ false → is_namespace y.id.kind ≡ true → entry (node_in ex all) y ≡ leaving_entry ex all x.id.name y
  stays y homed other is =
      let apart : bytes_eq x.id.name y.id.name ≡ false = same_names x.id.name y homed is ∙ ap (λ q. same_id q y.id) (sym home) ∙ other in
      ap (λ b. (y.id.name, if b then record (node_in ex all y) { terminating = true } else node_in ex all y)) (sym apart)

  rest_stays : (objects : Objects) → is_below_all x.id objects ≡ true → AllByRecursion IsHomed objects → nodes (node_in ex all) objects ≡ map (leaving_entry ex all x.id.name) (namespaces_in objects)
  rest_stays objects low homes = map_alike (entry (node_in ex all)) (leaving_entry ex all x.id.name) objects (each objects low homes)
    where
      each : (objects : Objects) → is_below_all x.id objects ≡ true → AllByRecursion IsHomed objects → AllByRecursion (λ (y : Object). is_namespace y.id.kind ≡ true → entry (node_in ex all) y ≡ leaving_entry ex all x.id.name y) objects
      each [] low homes = tt
      each (y ∷ objects) low homes =
          let parts = and_parts (is_lt (id_cmp x.id y.id)) (is_below_all x.id objects) low in
          (stays y homes.0 (false_from_ne_true (same_id x.id y.id) (λ h. true≢false (sym parts.0 ∙ ap is_lt (ap (id_cmp x.id) (sym (is_same_id x.id y.id h)) ∙ tied_itself id_total x.id)))), each objects parts.1 homes.1)

  nodes-leave : (objects : Objects) → ascends objects ≡ true → AllByRecursion IsHomed objects → object_at objects x.id ≡ Some old → nodes (node_in ex all) (put x objects) ≡ map (leaving_entry ex all x.id.name) (namespaces_in objects)
  nodes-leave [] up homes there = absurd (let h = there in cc)
  nodes-leave (y ∷ objects) up homes there =
      let parts = and_parts (is_below_all y.id objects) (ascends objects) up in
      elim (id_cmp x.id y.id) as (λ o. id_cmp x.id y.id ≡ o → nodes (node_in ex all) (by_order o (x ∷ y ∷ objects) (x ∷ objects) (y ∷ put x objects)) ≡ map (leaving_entry ex all x.id.name) (namespaces_in (y ∷ objects))) [
        | Less ↦ λ e. absurd (none_some (sym (none_below x.id (y ∷ objects) (and_from _ _ (ap is_lt e) (less_than_all x.id y.id objects e parts.0))) ∙ there))
        | Equal ↦ λ e.
            let same : x.id ≡ y.id = exact_ids x.id y.id e in
            let found : y ≡ old = some_same y old (sym (ap (λ b. cond b (Some y) (object_at objects x.id)) (same_from_Equal x.id y.id e)) ∙ there) in
            let is : is_namespace y.id.kind ≡ true = subst (λ (q : Id). is_namespace q.kind ≡ true) same (ap (λ (q : Id). is_namespace q.kind) home) in
            let named : bytes_eq x.id.name y.id.name ≡ true = (bytes_eq-Decides x.id.name y.id.name).1 (ap (λ (q : Id). q.name) same) in
            nodes-namespace (node_in ex all) x objects (ap (λ (q : Id). is_namespace q.kind) home)
            ∙ (λ i. head y same found named i ∷ rest_stays objects (subst (λ (q : Id). is_below_all q objects ≡ true) (sym same) parts.0) homes.1 i)
            ∙ sym (ap (λ b. map (leaving_entry ex all x.id.name) (cond b (y ∷ namespaces_in objects) (namespaces_in objects))) is)
        | Greater ↦ λ e.
            elim (is_namespace y.id.kind) as (λ b. is_namespace y.id.kind ≡ b
            → map (entry (node_in ex all)) (cond b (y ∷ namespaces_in (put x objects)) (namespaces_in (put x objects))) ≡ map (leaving_entry ex all x.id.name) (cond b (y ∷ namespaces_in objects) (namespaces_in objects))) [
              | true ↦ λ is. λ i. stays y homes.0 (apart y e) is i ∷ nodes-leave objects parts.1 homes.1 (onward y objects (apart y e) there) i
              | false ↦ λ out. nodes-leave objects parts.1 homes.1 (onward y objects (apart y e) there)
            ] refl
      ] refl
    where
      none_some : ◌≡◌ {A = Option Object} None (Some old) → ⊥
      none_some e = cc

      some_same : (a b : Object) → Some a ≡ Some b → a ≡ b
      some_same a b e = cc

      apart : (y : Object) → id_cmp x.id y.id ≡ Greater → same_id x.id y.id ≡ false
      apart y e = false_from_ne_true (same_id x.id y.id) (λ h. not_equal (id_cmp x.id y.id) e (ap (id_cmp x.id) (sym (is_same_id x.id y.id h)) ∙ tied_itself id_total x.id))
        where
          not_equal : (o : Ordering) → o ≡ Greater → o ≡ Equal → ⊥
          not_equal o p q = cc

      onward : (y : Object) (objects : Objects) → same_id x.id y.id ≡ false → object_at (y ∷ objects) x.id ≡ Some old → object_at objects x.id ≡ Some old
      onward y objects other e = ap (λ b. cond b (Some y) (object_at objects x.id)) (sym other) ∙ e

      head : (y : Object) → x.id ≡ y.id → y ≡ old → bytes_eq x.id.name y.id.name ≡ true → entry (node_in ex all) x ≡ leaving_entry ex all x.id.name y
      head y same found named =
          (λ i. ((same i).name, record { parent = or_else ((annotated ∙ ap subnamespace_parent (sym found)) i) (option_and_then named_parent (object_at all (hierarchy_id ((same i).name)))); terminating = leaves i; excluded = is_in ((same i).name) ex }))
          ∙ ap (λ b. (y.id.name, if b then record (node_in ex all y) { terminating = true } else node_in ex all y)) (sym named)

-- one that is on its way out, in the place of one with the same annotation
pub forest-put_terminating : (ex : List (List ℕ)) (x old : Object) (objects : Objects) → x.id ≡ namespace_id x.id.name → object_at objects x.id ≡ Some old → subnamespace_parent x ≡ subnamespace_parent old
    → is_terminating x.payload ≡ true → ascends objects ≡ true → AllByRecursion IsServed objects → forest_in ex (put x objects) ≡ with_terminating x.id.name (forest_in ex objects)
forest-put_terminating ex x old objects home there annotated leaves up served =
    nodes_alike ex objects (put x objects) (put x objects) (λ n. object_at-put x objects (hierarchy_id n) ∙ ap (λ b. cond b (Some x) (object_at objects (hierarchy_id n))) (not_a_hierarchy n x.id (ap (λ (q : Id). is_hierarchy q.kind) home)))
    ∙ nodes-leave ex objects x old home annotated leaves objects up (all_homed objects served) there
    ∙ leaving_map ex objects x.id.name (namespaces_in objects)

pub nodes-cut : (node : Object → Node) (n : List ℕ) (objects : Objects) → AllByRecursion IsHomed objects → nodes node (cut (namespace_id n) objects) ≡ without_node n (nodes node objects)
nodes-cut node n [] homes = refl
nodes-cut node n (y ∷ objects) homes =
    elim (is_namespace y.id.kind) as (λ b. is_namespace y.id.kind ≡ b → nodes node (cut (namespace_id n) (y ∷ objects)) ≡ without_node n (map (entry node) (cond b (y ∷ namespaces_in objects) (namespaces_in objects)))) [
      | true ↦ λ is. ap (λ t. nodes node (cond (not t) (y ∷ cut (namespace_id n) objects) (cut (namespace_id n) objects))) (sym (same_names n y homes.0 is)) ∙ kept is (bytes_eq n y.id.name) (nodes-cut node n objects homes.1)
      | false ↦ λ out. ap (λ t. nodes node (cond (not t) (y ∷ cut (namespace_id n) objects) (cut (namespace_id n) objects))) (not_a_namespace n y.id out) ∙ nodes-other node y (cut (namespace_id n) objects) out ∙ nodes-cut node n objects homes.1
    ] refl
  where
    kept : is_namespace y.id.kind ≡ true → (t : Bool) → nodes node (cut (namespace_id n) objects) ≡ without_node n (nodes node objects)
        → nodes node (cond (not t) (y ∷ cut (namespace_id n) objects) (cut (namespace_id n) objects)) ≡ cond (not t) (entry node y ∷ without_node n (nodes node objects)) (without_node n (nodes node objects))
    kept is true rest = rest
    kept is false rest = nodes-namespace node y (cut (namespace_id n) objects) is ∙ ap (λ (f : Forest). entry node y ∷ f) rest

-- a namespace is cut, and takes its node along
pub forest-cut_namespace : (ex : List (List ℕ)) (n : List ℕ) (objects : Objects) → AllByRecursion IsServed objects → forest_in ex (cut (namespace_id n) objects) ≡ without_node n (forest_in ex objects)
forest-cut_namespace ex n objects served =
    nodes_alike ex objects (cut (namespace_id n) objects) (cut (namespace_id n) objects) (λ m. object_at-cut (namespace_id n) objects (hierarchy_id m) ∙ ap (λ b. cond b None (object_at objects (hierarchy_id m))) (not_a_hierarchy m (namespace_id n) refl))
    ∙ nodes-cut (node_in ex objects) n objects (all_homed objects served)

-- ---- as rulings have it

-- the namespace of a HierarchyConfiguration
pub home_of_hierarchy : (objects : Objects) (id : Id) → is_hierarchy id.kind ≡ true → home_in objects id ≡ object_at objects (namespace_id id.ns)
home_of_hierarchy objects id is = ap (λ kind. home_in objects (record id { kind = kind })) (hierarchy_kind id is)

-- a HierarchyConfiguration of any name, by the namespace that is found
module _ (ex : List (List ℕ)) (objects : Objects) (id : Id) (is : is_hierarchy id.kind ≡ true) (up : ascends objects ≡ true) (served : AllByRecursion IsServed objects) where
  -- is put, and names that parent
  pub forest-put_moves : (x : Object) (parent : Option (List ℕ)) → x.id ≡ id → named_parent x ≡ parent
      → forest_in ex (put x objects) ≡ (if bytes_eq id.name hierarchy then option_map_or (λ home. with_parent id.ns (or_else (subnamespace_parent home) parent) (forest_in ex objects)) (home_in objects id) (forest_in ex objects) else forest_in ex objects)
  forest-put_moves x parent same named = by_name (bytes_eq id.name hierarchy) refl
    where
      is_x : is_hierarchy x.id.kind ≡ true
      is_x = ap (λ (q : Id). is_hierarchy q.kind) same ∙ is

      by_home : (found : Option Object) → object_at objects (namespace_id id.ns) ≡ found → x.id ≡ hierarchy_id id.ns
          → forest_in ex (put x objects) ≡ option_map_or (λ home. with_parent id.ns (or_else (subnamespace_parent home) parent) (forest_in ex objects)) found (forest_in ex objects)
      by_home None absent exact = forest-put_stray ex x objects id.ns exact absent up served
      by_home (Some home) there exact = forest-put_hierarchy ex x objects id.ns home exact there up served ∙ ap (λ p. with_parent id.ns (or_else (subnamespace_parent home) p) (forest_in ex objects)) named

      by_name : (b : Bool) → bytes_eq id.name hierarchy ≡ b
          → forest_in ex (put x objects) ≡ (if b then option_map_or (λ home. with_parent id.ns (or_else (subnamespace_parent home) parent) (forest_in ex objects)) (home_in objects id) (forest_in ex objects) else forest_in ex objects)
      by_name true e = by_home (home_in objects id) (sym (home_of_hierarchy objects id is)) (same ∙ is_hierarchy_id id is e)
      by_name false e = forest-put_other ex x objects is_x (ap (λ (q : Id). bytes_eq q.name hierarchy) same ∙ e)

  -- is there, and stays: the tree has its parent already
  pub forest-kept_moves : (old : Object) (parent : Option (List ℕ)) → object_at objects id ≡ Some old → named_parent old ≡ parent
      → forest_in ex objects ≡ (if bytes_eq id.name hierarchy then option_map_or (λ home. with_parent id.ns (or_else (subnamespace_parent home) parent) (forest_in ex objects)) (home_in objects id) (forest_in ex objects) else forest_in ex objects)
  forest-kept_moves old parent there named =
      let same : id ≡ old.id = found_id objects id old there in
      sym (ap (forest_in ex) (put_there old objects (subst (λ (q : Id). object_at objects q ≡ Some old) same there) up)) ∙ forest-put_moves old parent (sym same) named

  -- is cut
  pub forest-cut_moves : forest_in ex (cut id objects) ≡ (if bytes_eq id.name hierarchy then option_map_or (λ home. with_parent id.ns (or_else (subnamespace_parent home) None) (forest_in ex objects)) (home_in objects id) (forest_in ex objects) else forest_in ex objects)
  forest-cut_moves = by_name (bytes_eq id.name hierarchy) refl
    where
      by_home : (found : Option Object) → object_at objects (namespace_id id.ns) ≡ found
          → forest_in ex (cut (hierarchy_id id.ns) objects) ≡ option_map_or (λ home. with_parent id.ns (or_else (subnamespace_parent home) None) (forest_in ex objects)) found (forest_in ex objects)
      by_home None absent = forest-cut_stray ex objects id.ns absent up served
      by_home (Some home) there = forest-cut_hierarchy ex objects id.ns home there up served

      by_name : (b : Bool) → bytes_eq id.name hierarchy ≡ b
          → forest_in ex (cut id objects) ≡ (if b then option_map_or (λ home. with_parent id.ns (or_else (subnamespace_parent home) None) (forest_in ex objects)) (home_in objects id) (forest_in ex objects) else forest_in ex objects)
      by_name true e = ap (λ q. forest_in ex (cut q objects)) (is_hierarchy_id id is e) ∙ by_home (home_in objects id) (sym (home_of_hierarchy objects id is))
      by_name false e = forest-cut_other ex id objects is e

-- ---- replacements

-- a namespace keeps its phase
pub terminating-replaced : (old x : Object) → old.id ≡ x.id → is_namespace x.id.kind ≡ true → IsServed old → IsServed x → is_terminating (replaced_by old x).payload ≡ is_terminating old.payload
terminating-replaced old x same is old_served served = kept old.payload x.payload (subst (λ (q : Id). IsPayloadOf q.kind old.payload) (same ∙ home) old_served.legal.payload) (subst (λ (q : Id). IsPayloadOf q.kind x.payload) home served.legal.payload)
  where
    home : x.id ≡ namespace_id x.id.name
    home = namespace_is_homed x served is

    kept : (a b : Payload) → IsPayloadOf Namespace a → IsPayloadOf Namespace b → is_terminating (with_status a b) ≡ is_terminating a
    kept (NamespaceOf t) (NamespaceOf u) p q = refl
    kept (NamespaceOf t) (Config entries) p q = cc
    kept (NamespaceOf t) (Hierarchy a b c d) p q = cc
    kept (NamespaceOf t) (Anchor status) p q = cc
    kept (NamespaceOf t) (Quota hard status) p q = cc
    kept (NamespaceOf t) (Plain members need) p q = absurd (true≢false (sym q.0))
    kept (Config entries) b p q = cc
    kept (Hierarchy c d e f) b p q = cc
    kept (Anchor status) b p q = cc
    kept (Quota hard status) b p q = cc
    kept (Plain members need) b p q = absurd (true≢false (sym p.0))
