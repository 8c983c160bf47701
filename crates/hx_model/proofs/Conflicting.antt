-- Where sources are overwritten, and what a put of a source changes of that.
--     conflict_found, conflict_of     a new conflict is one of some identity
--     reached_any                     a source above goes to a place: one of a chain does
--     tail_in, tail_chain, head_out   a chain without its first member
--     overwritten_in                  where the tree and the namespaces stay, the mode and the objects tell
--     overwritten_put                 where an object that can be copied is put, the objects tell
use Rattle.std.proofs.Common.{◌≡◌, ℕ, Bool, true, false, cond, not, ◌&&◌, ◌||◌, Option, Some, None, List, [], ◌∷◌, ◌++◌, ◌⊎◌, inl, inr, refl, sym, ap, ◌∙◌, subst, true≢false}
use Rattle.std.specs.Prelude.{is_some, find, option_and_then}
use Rattle.std.specs.List.{list_any, IsDistinct, AllByRecursion}
use Rattle.std.specs.Option.{option_map_or}
use Rattle.std.specs.Str.{bytes_eq}
use Rattle.std.specs.Cmp.{tied_itself}
use Rattle.std.proofs.lemmas.Map.Keys.{IsDistinct-head}
use Rattle.std.proofs.lemmas.Bool.{and_parts, and_from, or_cases, or_left, or_right, not-true, not_from_false, false_from_ne_true}
use Rattle.hx_object.specs.Kinds.{can_be_copied}
use Rattle.hx_object.specs.declared.kind.Kind.{Kind}
use Rattle.hx_object.specs.declared.kind.Kind.TheVariants as of
use Rattle.hx_object.specs.declared.object.Id.{Id}
use Rattle.hx_object.specs.declared.object.Mode.{Mode}
use Rattle.hx_object.specs.declared.object.Object.{Object}
use Rattle.hx_model.specs.Exceptions.{is_allowed}
use Rattle.hx_model.specs.Conflicts.{labels_at, is_overwritten, makes_conflict}
use Rattle.hx_model.specs.First.{so}
use Rattle.hx_model.specs.Forest.{Forest, is_in, parent_of, chain_of, tail_of}
use Rattle.hx_model.specs.Limits.{is_namespace, is_hierarchy}
use Rattle.hx_model.specs.Modes.{config_id, mode_in, mode_of}
use Rattle.hx_model.specs.Propagation.{goes_to, is_propagated, is_source, stays_home, id_in, as_list, source_at, sources_along, top_of}
use Rattle.hx_model.specs.State.{State, Objects, same_id, object_at, put, namespace_id}
use Rattle.hx_model.specs.Tree.{forest_in, forest_of}
use Rattle.hx_model.specs.TreeLabels.{is_open, prescribed_labels}
use Rattle.hx_model.proofs.Climbing.{Climbs, at_top, stopped, onward, chain-Climbs}
use Rattle.hx_model.proofs.Objects.{id_total, is_same_id, same_from_Equal, object_at-put}
use Rattle.hx_model.proofs.Planting.{forest-put}
use Rattle.hx_model.proofs.Walking.{chain_there}

-- ---- an identity among objects

-- an object passes by its identity, which is found
pub found_any : (P : Id → Bool) (objects : Objects) → list_any (λ (y : Object). P y.id) objects ≡ true → (id : Id) × (y : Object) × (object_at objects id ≡ Some y) × (P id ≡ true)
found_any P [] h = absurd (true≢false (sym h))
found_any P (y ∷ objects) h = elim (or_cases (P y.id) (list_any (λ (z : Object). P z.id) objects) h) [
  | inl here ↦ (y.id, y, ap (λ b. cond b (Some y) (object_at objects y.id)) (same_from_Equal y.id y.id (tied_itself id_total y.id)), here)
  | inr later ↦
      let found = found_any P objects later in
      either (same_id found.0 y.id) found.0 found.1 refl found.2 found.3
]
  where
    either : (b : Bool) (id : Id) (z : Object) → same_id id y.id ≡ b → object_at objects id ≡ Some z → P id ≡ true → (q : Id) × (x : Object) × (object_at (y ∷ objects) q ≡ Some x) × (P q ≡ true)
    either true id z e at passes = (id, y, ap (λ b. cond b (Some y) (object_at objects id)) e, passes)
    either false id z e at passes = (id, z, ap (λ b. cond b (Some y) (object_at objects id)) e ∙ at, passes)

-- and the other way round
pub any_found : (P : Id → Bool) (objects : Objects) (id : Id) (y : Object) → object_at objects id ≡ Some y → P id ≡ true → list_any (λ (z : Object). P z.id) objects ≡ true
any_found P [] id y at passes = absurd (true≢false (sym (ap is_some at)))
any_found P (z ∷ objects) id y at passes =
    elim (same_id id z.id) as (λ b. same_id id z.id ≡ b → cond b (Some z) (object_at objects id) ≡ Some y → (P z.id || list_any (λ (x : Object). P x.id) objects) ≡ true) [
      | true ↦ λ e _. or_left (P z.id) _ (subst (λ (q : Id). P q ≡ true) (is_same_id id z.id e) passes)
      | false ↦ λ e later. or_right (P z.id) _ (any_found P objects id y later passes)
    ] refl at

-- ---- sources above a place

-- what is found goes to labels
abbrev pub goes_from : Mode → List (List ℕ × List ℕ) → Option Object → Bool
goes_from mode labels found = option_map_or (λ (x : Object). goes_to mode x labels) found false

find_two : {A : Type 0} (p : A → Bool) (xs ys : List A) → is_some (find p (xs ++ ys)) ≡ (is_some (find p ys) || is_some (find p xs))
find_two p [] ys = sym (or_nothing (is_some (find p ys)))
  where
    or_nothing : (b : Bool) → (b || false) ≡ b
    or_nothing true = refl
    or_nothing false = refl
find_two p (x ∷ xs) ys = elim (p x) as (λ b. is_some (cond b (Some x) (find p (xs ++ ys))) ≡ (is_some (find p ys) || is_some (cond b (Some x) (find p xs)))) [
  | true ↦ sym (or_right (is_some (find p ys)) true refl)
  | false ↦ find_two p xs ys
]

pub unpropagated : (mode : Mode) (x : Object) (labels : List (List ℕ × List ℕ)) → is_propagated mode ≡ false → goes_to mode x labels ≡ false
unpropagated mode x labels e = ap (λ b. b && (is_source x && (not (stays_home x) && is_allowed x labels))) e

no_source : (mode : Mode) (x : Object) (labels : List (List ℕ × List ℕ)) → is_source x ≡ false → goes_to mode x labels ≡ false
no_source mode x labels e = ap (λ b. is_propagated mode && (b && (not (stays_home x) && is_allowed x labels))) e ∙ never (is_propagated mode)
  where
    never : (b : Bool) → (b && false) ≡ false
    never true = refl
    never false = refl

one_goes : (mode : Mode) (labels : List (List ℕ × List ℕ)) (found : Option Object) → is_some (find (λ x. goes_to mode x labels) (as_list (option_and_then (λ x. so (is_source x) x) found))) ≡ goes_from mode labels found
one_goes mode labels None = refl
one_goes mode labels (Some x) = elim (is_source x) as (λ b. is_source x ≡ b → is_some (find (λ y. goes_to mode y labels) (as_list (so b x))) ≡ goes_to mode x labels) [
  | true ↦ λ e. by (goes_to mode x labels)
  | false ↦ λ e. sym (no_source mode x labels e)
] refl
  where
    by : (b : Bool) → is_some (cond {A = Option Object} b (Some x) None) ≡ b
    by true = refl
    by false = refl

-- a source of a chain goes to labels
pub reached_any : (mode : Mode) (labels : List (List ℕ × List ℕ)) (objects : Objects) (kind : Kind) (name : List ℕ) (chain : List (List ℕ))
    → is_some (top_of mode labels (sources_along objects kind name chain)) ≡ list_any (λ a. goes_from mode labels (object_at objects (id_in kind name a))) chain
reached_any mode labels objects kind name [] = refl
reached_any mode labels objects kind name (a ∷ chain) =
    find_two (λ x. goes_to mode x labels) (sources_along objects kind name chain) (as_list (source_at objects (id_in kind name a)))
    ∙ ap (λ b. b || is_some (find (λ x. goes_to mode x labels) (sources_along objects kind name chain))) (one_goes mode labels (object_at objects (id_in kind name a)))
    ∙ ap (λ b. goes_from mode labels (object_at objects (id_in kind name a)) || b) (reached_any mode labels objects kind name chain)

-- ---- chains

-- what goes on from a first member has it first
begins : (f : Forest) (m : List ℕ) (built : List (List ℕ)) (next : Option (List ℕ)) (all : List (List ℕ)) → Climbs f (m ∷ built) next all → (rest : List (List ℕ)) × (all ≡ m ∷ rest)
begins f m built None all at_top = (built, refl)
begins f m built (Some n) all (stopped stops) = (built, refl)
begins f m built (Some n) all (onward goes rest) = begins f m (built ++ n ∷ []) (parent_of f n) all rest

-- a chain is empty, or begins with its name
chain_begins : (f : Forest) (m : List ℕ) (all : List (List ℕ)) → Climbs f [] (Some m) all → (all ≡ []) ⊎ ((rest : List (List ℕ)) × (all ≡ m ∷ rest))
chain_begins f m all (stopped stops) = inl refl
chain_begins f m all (onward goes rest) = inr (begins f m [] (parent_of f m) all rest)

-- another member comes later
pub tail_in : (f : Forest) (m n : List ℕ) → bytes_eq n m ≡ false → is_in n (chain_of f m) ≡ true → is_in n (tail_of (chain_of f m)) ≡ true
tail_in f m n apart mem = by (chain_of f m) mem (chain_begins f m (chain_of f m) (chain-Climbs f m))
  where
    by : (all : List (List ℕ)) → is_in n all ≡ true → (all ≡ []) ⊎ ((rest : List (List ℕ)) × (all ≡ m ∷ rest)) → is_in n (tail_of all) ≡ true
    by all mem (inl is) = absurd (true≢false (sym mem ∙ ap (is_in n) is))
    by all mem (inr (rest, is)) =
        let here : (bytes_eq n m || is_in n rest) ≡ true = sym (ap (is_in n) is) ∙ mem in
        ap (λ l. is_in n (tail_of l)) is ∙ sym (ap (λ b. b || is_in n rest) apart) ∙ here

in_tail : (n : List ℕ) (all : List (List ℕ)) → is_in n (tail_of all) ≡ true → is_in n all ≡ true
in_tail n [] mem = mem
in_tail n (m ∷ rest) mem = or_right (bytes_eq n m) (is_in n rest) mem

-- a later member is a member
pub tail_chain : (f : Forest) (m n : List ℕ) → is_in n (tail_of (chain_of f m)) ≡ true → is_in n (chain_of f m) ≡ true
tail_chain f m n mem = in_tail n (chain_of f m) mem

none_of : (n : List ℕ) (names : List (List ℕ)) → AllByRecursion (λ a. bytes_eq n a ≡ false) names → is_in n names ≡ false
none_of n [] all = refl
none_of n (a ∷ names) all = ap (λ b. b || is_in n names) all.0 ∙ none_of n names all.1

-- the first member doesn't come again
pub head_out : (f : Forest) (n : List ℕ) → is_in n (tail_of (chain_of f n)) ≡ false
head_out f n = by (chain_of f n) (chain_there f n).distinct (chain_begins f n (chain_of f n) (chain-Climbs f n))
  where
    by : (all : List (List ℕ)) → IsDistinct bytes_eq all → (all ≡ []) ⊎ ((rest : List (List ℕ)) × (all ≡ n ∷ rest)) → is_in n (tail_of all) ≡ false
    by all distinct (inl is) = ap (λ l. is_in n (tail_of l)) is
    by all distinct (inr (rest, is)) = ap (λ l. is_in n (tail_of l)) is ∙ none_of n rest (IsDistinct-head bytes_eq n rest (subst (IsDistinct bytes_eq) is distinct))

-- ---- where the tree and the namespaces stay

-- a source above goes to a place
abbrev pub reaches : State → Mode → Objects → Id → Bool
reaches s mode objects id = list_any (λ a. goes_from mode (labels_at s id.ns) (object_at objects (id_in id.kind id.name a))) (tail_of (chain_of (forest_of s) id.ns))

-- a source is overwritten, by the mode of its kind and the sources of some objects
abbrev pub overwritten_by : State → Mode → Objects → Id → Bool
overwritten_by s mode objects id = is_open (forest_of s) id.ns && (is_some (source_at objects id) && reaches s mode objects id)

pub overwritten_in : (s : State) (objects : Objects) (id : Id) → forest_in s.config.excluded objects ≡ forest_of s → ((m : List ℕ) → object_at objects (namespace_id m) ≡ object_at s.objects (namespace_id m))
    → is_overwritten (record s { objects = objects }) id ≡ overwritten_by s (mode_in (object_at objects config_id) id.kind) objects id
overwritten_in s objects id tree found =
    let labels : labels_at (record s { objects = objects }) id.ns ≡ labels_at s id.ns = λ i. prescribed_labels (chain_of (tree i) id.ns) (option_map_or (λ (x : Object). x.labels) (found id.ns i) []) in
    let mode = mode_in (object_at objects config_id) id.kind in
    (λ i. is_open (tree i) id.ns && (is_some (source_at objects id) && is_some (top_of mode (labels i) (sources_along objects id.kind id.name (tail_of (chain_of (tree i) id.ns))))))
    ∙ ap (λ b. is_open (forest_of s) id.ns && (is_some (source_at objects id) && b)) (reached_any mode (labels_at s id.ns) objects id.kind id.name (tail_of (chain_of (forest_of s) id.ns)))

pub overwritten_now : (s : State) (id : Id) → is_overwritten s id ≡ overwritten_by s (mode_of s id.kind) s.objects id
overwritten_now s id = ap (λ b. is_open (forest_of s) id.ns && (is_some (source_at s.objects id) && b)) (reached_any (mode_of s id.kind) (labels_at s id.ns) s.objects id.kind id.name (tail_of (chain_of (forest_of s) id.ns)))

-- ---- where an object that can be copied is put

copied_leaf : (kind : Kind) → can_be_copied kind ≡ true → (is_namespace kind ≡ false) × (is_hierarchy kind ≡ false)
copied_leaf of.Namespace e = absurd (true≢false (sym e))
copied_leaf of.HierarchyConfiguration e = absurd (true≢false (sym e))
copied_leaf _ e = (refl, refl)

-- other objects are found as before
pub other_at : (x : Object) (objects : Objects) (q : Id) → same_id q x.id ≡ false → object_at (put x objects) q ≡ object_at objects q
other_at x objects q apart = object_at-put x objects q ∙ ap (λ b. cond b (Some x) (object_at objects q)) apart

-- such are those of kinds that can't be copied
uncopied_apart : (x : Object) (q : Id) → can_be_copied x.id.kind ≡ true → can_be_copied q.kind ≡ false → same_id q x.id ≡ false
uncopied_apart x q copied out = false_from_ne_true (same_id q x.id) (λ h. true≢false (sym copied ∙ sym (ap (λ (p : Id). can_be_copied p.kind) (is_same_id q x.id h)) ∙ out))

pub overwritten_put : (s : State) (x : Object) (id : Id) → can_be_copied x.id.kind ≡ true → is_overwritten (record s { objects = put x s.objects }) id ≡ overwritten_by s (mode_of s id.kind) (put x s.objects) id
overwritten_put s x id copied =
    let leaf = copied_leaf x.id.kind copied in
    overwritten_in s (put x s.objects) id (forest-put s.config.excluded x s.objects leaf.0 leaf.1) (λ m. other_at x s.objects (namespace_id m) (uncopied_apart x (namespace_id m) copied refl))
    ∙ ap (λ o. overwritten_by s (mode_in o id.kind) (put x s.objects) id) (other_at x s.objects config_id (uncopied_apart x config_id copied refl))

-- ---- new conflicts

pub conflict_found : (s t : State) → makes_conflict s t ≡ true → (id : Id) × (is_overwritten t id ≡ true) × (is_overwritten s id ≡ false)
conflict_found s t h =
    let found = found_any (λ id. is_overwritten t id && not (is_overwritten s id)) t.objects h in
    let parts = and_parts (is_overwritten t found.0) (not (is_overwritten s found.0)) found.3 in
    (found.0, parts.0, not-true (is_overwritten s found.0) parts.1)

pub conflict_of : (s t : State) (id : Id) → is_overwritten t id ≡ true → is_overwritten s id ≡ false → makes_conflict s t ≡ true
conflict_of s t id after before =
    let rest = (and_parts (is_open (forest_of t) id.ns) _ after).1 in
    let found = there (object_at t.objects id) (and_parts (is_some (source_at t.objects id)) _ rest).0 in
    any_found (λ q. is_overwritten t q && not (is_overwritten s q)) t.objects id found.0 found.1 (and_from (is_overwritten t id) (not (is_overwritten s id)) after (not_from_false (is_overwritten s id) before))
  where
    there : (o : Option Object) → is_some (option_and_then (λ x. so (is_source x) x) o) ≡ true → (y : Object) × (o ≡ Some y)
    there None e = absurd (true≢false (sym e))
    there (Some y) e = (y, refl)
