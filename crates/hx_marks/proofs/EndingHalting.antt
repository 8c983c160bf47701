-- What stays of namespaces where more of them are on their way out.
--     eligible_is_there       one that takes reports is there
--     own_same            the reasons that one has by itself, where its parent is as live as before
--     halt_same           why it is halted, where it takes reports and takes part as before
--     forest_ascends      the names of a tree are in ascending order
--     children_stay       the children of a namespace
use Rattle.std.proofs.Common.{◌≡◌, ℕ, Bool, true, false, not, ◌&&◌, Option, Some, None, List, [], ◌∷◌, cond, map, is_lt, inl, inr, refl, sym, ap, ◌∙◌, true≢false}
use Rattle.std.specs.Prelude.{is_none}
use Rattle.std.specs.List.{AllByRecursion}
use Rattle.std.specs.Option.{option_map_or}
use Rattle.std.specs.Str.{bytes_eq}
use Rattle.std.proofs.lemmas.Bool.{and_parts, and_from, cases_Bool}
use Rattle.hx_object.specs.Kinds.{is_namespace}
use Rattle.hx_object.specs.Order.{id_cmp}
use Rattle.hx_object.specs.Texts.{bytes_cmp}
use Rattle.hx_object.specs.declared.object.Id.{Id}
use Rattle.hx_object.specs.declared.object.Object.{Object}
use Rattle.hx_model.specs.First.{so, first}
use Rattle.hx_model.specs.Forest.{Forest, is_in, is_there, is_live, is_excluded, parent_of, children_of, own_halt_of, has_halted_ancestor, halt_of}
use Rattle.hx_model.specs.Moves.{is_eligible}
use Rattle.hx_model.specs.Serving.{IsServed}
use Rattle.hx_model.specs.State.{State, Objects, namespace_id, ascends as objects_ascend, is_below_all as objects_below}
use Rattle.hx_model.specs.Tree.{forest_of, node_in, namespaces_in}
use Rattle.hx_model.specs.TreeLabels.{is_open}
use Rattle.hx_model.specs.declared.node.Halt.{Halt}
use Rattle.hx_model.specs.declared.node.Halt.TheVariants.{InCycle, ParentMissing, IllegalParent, Ancestor}
use Rattle.hx_model.proofs.Opening.{not_live}
use Rattle.hx_model.proofs.Planting.{namespace_is_homed}
use Rattle.hx_forest.proofs.Changing.{same_children}
use Rattle.hx_forest.proofs.Named.{ascends, is_below_all}
use Rattle.hx_marks.proofs.CreatedChains.{own_by}
use Rattle.hx_marks.proofs.EndingChains.{IsQuieter, quiet_chain}

-- ---- reasons

pub eligible_is_there : (f : Forest) (m : List ℕ) → is_eligible f m ≡ true → is_there f m ≡ true
eligible_is_there f m eligible = elim (cases_Bool (is_there f m)) [
  | inl there ↦ there
  | inr gone ↦ absurd (true≢false (sym (and_parts (is_live f m) (not (is_excluded f m)) eligible).0 ∙ not_live f m gone))
]

-- the reasons that m has by itself stay where its parent is as live as before
pub own_same : (f g : Forest) → IsQuieter f g → (m : List ℕ) → ((p : List ℕ) → parent_of f m ≡ Some p → is_live g p ≡ is_live f p) → own_halt_of g m ≡ own_halt_of f m
own_same f g quieter m lives = by (parent_of f m) refl
  where
    by : (next : Option (List ℕ)) → parent_of f m ≡ next → own_halt_of g m ≡ own_halt_of f m
    by None is = ap (own_by g m) (quieter.parent m ∙ is) ∙ sym (ap (own_by f m) is)
    by (Some p) is =
        ap (own_by g m) (quieter.parent m ∙ is)
        ∙ (λ i. first (so (is_in m (quiet_chain f g quieter p i)) InCycle ∷ so (not (lives p is i)) ParentMissing ∷ so (quieter.excluded p i) IllegalParent ∷ []))
        ∙ sym (ap (own_by f m) is)

-- one that takes reports takes part exactly if it isn't halted
open_eligible : (f : Forest) (m : List ℕ) → is_eligible f m ≡ true → is_open f m ≡ is_none (halt_of f m)
open_eligible f m eligible = by (is_live f m) (not (is_excluded f m)) (is_none (halt_of f m)) eligible
  where
    by : (a b c : Bool) → (a && b) ≡ true → (a && (b && c)) ≡ c
    by true true c e = refl
    by true false c e = absurd (true≢false (sym e))
    by false b c e = absurd (true≢false (sym e))

-- why m is halted stays where its own reasons do, and whether it takes part
pub halt_same : (f g : Forest) (m : List ℕ) → is_eligible f m ≡ true → is_eligible g m ≡ true → own_halt_of g m ≡ own_halt_of f m → is_open g m ≡ is_open f m → halt_of g m ≡ halt_of f m
halt_same f g m before after own acts =
    ap (λ o. first (o ∷ so (has_halted_ancestor g m) Ancestor ∷ [])) own
    ∙ by (own_halt_of f m) (has_halted_ancestor g m) (has_halted_ancestor f m)
    (ap (λ o. is_none (first (o ∷ so (has_halted_ancestor g m) Ancestor ∷ []))) (sym own) ∙ sym (open_eligible g m after) ∙ acts ∙ open_eligible f m before)
  where
    by : (o : Option Halt) (a b : Bool) → is_none (first (o ∷ so a Ancestor ∷ [])) ≡ is_none (first (o ∷ so b Ancestor ∷ [])) → first (o ∷ so a Ancestor ∷ []) ≡ first (o ∷ so b Ancestor ∷ [])
    by (Some halt) a b e = refl
    by None true true e = refl
    by None true false e = absurd (true≢false (sym e))
    by None false true e = absurd (true≢false e)
    by None false false e = refl

-- ---- children

abbrev nodes_by : List (List ℕ) → Objects → Objects → Forest
nodes_by excluded all objects = map (λ (x : Object). (x.id.name, node_in excluded all x)) objects

names_below : (excluded : List (List ℕ)) (all : Objects) (n : List ℕ) (objects : Objects) → objects_below (namespace_id n) objects ≡ true → AllByRecursion IsServed objects → is_below_all n (nodes_by excluded all (namespaces_in objects)) ≡ true
names_below excluded all n [] low served = refl
names_below excluded all n (y ∷ objects) low served =
    let parts = and_parts (is_lt (id_cmp (namespace_id n) y.id)) (objects_below (namespace_id n) objects) low in
    let rest = names_below excluded all n objects parts.1 served.1 in
    elim (is_namespace y.id.kind) as (λ b. is_namespace y.id.kind ≡ b → is_below_all n (nodes_by excluded all (cond b (y ∷ namespaces_in objects) (namespaces_in objects))) ≡ true) [
      | true ↦ λ is. and_from (is_lt (bytes_cmp n y.id.name)) (is_below_all n (nodes_by excluded all (namespaces_in objects))) (ap is_lt (sym (ap (id_cmp (namespace_id n)) (namespace_is_homed y served.0 is))) ∙ parts.0) rest
      | false ↦ λ out. rest
    ] refl

nodes_ascend : (excluded : List (List ℕ)) (all objects : Objects) → objects_ascend objects ≡ true → AllByRecursion IsServed objects → ascends (nodes_by excluded all (namespaces_in objects)) ≡ true
nodes_ascend excluded all [] up served = refl
nodes_ascend excluded all (y ∷ objects) up served =
    let parts = and_parts (objects_below y.id objects) (objects_ascend objects) up in
    let rest = nodes_ascend excluded all objects parts.1 served.1 in
    elim (is_namespace y.id.kind) as (λ b. is_namespace y.id.kind ≡ b → ascends (nodes_by excluded all (cond b (y ∷ namespaces_in objects) (namespaces_in objects))) ≡ true) [
      | true ↦ λ is. and_from (is_below_all y.id.name (nodes_by excluded all (namespaces_in objects))) (ascends (nodes_by excluded all (namespaces_in objects)))
          (names_below excluded all y.id.name objects (ap (λ (q : Id). objects_below q objects) (sym (namespace_is_homed y served.0 is)) ∙ parts.0) served.1) rest
      | false ↦ λ out. rest
    ] refl

pub forest_ascends : (s : State) → objects_ascend s.objects ≡ true → AllByRecursion IsServed s.objects → ascends (forest_of s) ≡ true
forest_ascends s up served = nodes_ascend s.config.excluded s.objects s.objects up served

pub children_stay : (f g : Forest) → IsQuieter f g → ascends f ≡ true → ascends g ≡ true → (p : List ℕ) → children_of g p ≡ children_of f p
children_stay f g quieter before after p = same_children f g p before after (λ m. ap (λ o. option_map_or (bytes_eq p) o false) (quieter.parent m))
