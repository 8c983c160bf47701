-- Where an HNCConfiguration makes a conflict.
--     conflict_modes     a kind comes to be propagated, and some source of it lies where a source from above goes
use Rattle.std.proofs.Common.{◌≡◌, ℕ, Bool, true, false, cond, not, ◌&&◌, ◌||◌, Option, Some, None, List, [], ◌∷◌, filter, refl, sym, ap, ◌∙◌, subst, true≢false, eqb, eq-eqb, eqb-true, inl, inr}
use Rattle.std.specs.Prelude.{is_some, option_and_then, IfSome}
use Rattle.std.specs.List.{list_any}
use Rattle.std.specs.Option.{option_map_or}
use Rattle.std.specs.Str.{bytes_eq}
use Rattle.std.proofs.lemmas.Map.Entries.{option_filter}
use Rattle.std.proofs.lemmas.Bool.{and_parts, and_from, and_left, and_right, or_cases, or_left, or_right, not-true, not_from_false, false_from_ne_true}
use Rattle.hx_object.specs.Kinds.{number_of, can_be_copied}
use Rattle.hx_object.specs.WellKnown.{config}
use Rattle.hx_object.specs.declared.kind.Kind.{Kind}
use Rattle.hx_object.specs.declared.kind.Kind.TheVariants.{HncConfiguration, Role, RoleBinding, ConfigMap, Secret, NetworkPolicy, LimitRange}
use Rattle.hx_object.specs.declared.object.Id.{Id}
use Rattle.hx_object.specs.declared.object.Mode.{Mode}
use Rattle.hx_object.specs.declared.object.Mode.TheVariants.{Propagate}
use Rattle.hx_object.specs.declared.object.Object.{Object}
use Rattle.hx_model.specs.Answers.{is_listed}
use Rattle.hx_model.specs.Conflicts.{labels_at, is_overwritten, makes_conflict}
use Rattle.hx_model.specs.First.{so}
use Rattle.hx_model.specs.Forest.{chain_of, tail_of}
use Rattle.hx_model.specs.Limits.{is_copy, is_namespace, is_hierarchy}
use Rattle.std.proofs.lemmas.Slice.Eq.{bytes_eq-Decides}
use Rattle.hx_model.specs.Modes.{config_id, mode_in, mode_of}
use Rattle.hx_model.specs.Propagation.{is_propagated, is_source, id_in, source_at}
use Rattle.hx_model.specs.State.{State, Objects, same_id, object_at, put, cut, ascends, namespace_id}
use Rattle.hx_model.specs.Tree.{forest_in, forest_of}
use Rattle.hx_model.specs.TreeLabels.{is_open}
use Rattle.hx_model.proofs.Conflicting.{found_any, any_found, goes_from, unpropagated, reaches, overwritten_by, overwritten_in, overwritten_now, conflict_found, conflict_of}
use Rattle.hx_model.proofs.Objects.{is_same_id, same_kind, object_at-put, object_at-cut, object_at-filter, ascends-filter, found_id}
use Rattle.hx_model.proofs.Planting.{forest-put, forest-cut}
use Rattle.hx_model.proofs.Walking.{both}
use Rattle.hx_admit.specs.Conflicting.{copied_kinds, with_written, config_after, would_go, has_overwritten, comes_over, goes_down}

-- ---- Booleans and lists

no_name : (P : List ℕ → Bool) (names : List (List ℕ)) → ((a : List ℕ) → P a ≡ false) → list_any P names ≡ false
no_name P [] none = refl
no_name P (a ∷ names) none = ap (λ b. b || list_any P names) (none a) ∙ no_name P names none

any_kept : (r P : Object → Bool) (ys : List Object) → list_any (λ y. r y && P y) ys ≡ list_any P (filter r ys)
any_kept r P [] = refl
any_kept r P (y ∷ ys) = elim (r y) as (λ b. ((b && P y) || list_any (λ z. r z && P z) ys) ≡ list_any P (cond b (y ∷ filter r ys) (filter r ys))) [
  | true ↦ ap (λ b. P y || b) (any_kept r P ys)
  | false ↦ any_kept r P ys
]

some_kind : (P : Kind → Bool) (kinds : List Kind) → list_any P kinds ≡ true → (kind : Kind) × (P kind ≡ true)
some_kind P [] h = absurd (true≢false (sym h))
some_kind P (kind ∷ kinds) h = elim (or_cases (P kind) (list_any P kinds) h) [ inl here ↦ (kind, here) | inr later ↦ some_kind P kinds later ]

in_kinds : (P : Kind → Bool) (kind : Kind) → can_be_copied kind ≡ true → P kind ≡ true → list_any P copied_kinds ≡ true
in_kinds P Role e p = or_left (P Role) _ p
in_kinds P RoleBinding e p = or_right (P Role) _ (or_left (P RoleBinding) _ p)
in_kinds P ConfigMap e p = or_right (P Role) _ (or_right (P RoleBinding) _ (or_left (P ConfigMap) _ p))
in_kinds P Secret e p = or_right (P Role) _ (or_right (P RoleBinding) _ (or_right (P ConfigMap) _ (or_left (P Secret) _ p)))
in_kinds P NetworkPolicy e p = or_right (P Role) _ (or_right (P RoleBinding) _ (or_right (P ConfigMap) _ (or_right (P Secret) _ (or_left (P NetworkPolicy) _ p))))
in_kinds P LimitRange e p = or_right (P Role) _ (or_right (P RoleBinding) _ (or_right (P ConfigMap) _ (or_right (P Secret) _ (or_right (P NetworkPolicy) _ (or_left (P LimitRange) _ p)))))
in_kinds P _ e p = absurd (true≢false (sym e))

propagate_is : (mode : Mode) → is_propagated mode ≡ true → mode ≡ Propagate
propagate_is Propagate e = refl
propagate_is _ e = absurd (true≢false (sym e))

so_some : (b : Bool) (x : Object) → is_some (so b x) ≡ true → b ≡ true
so_some true x e = refl
so_some false x e = absurd (true≢false (sym e))

some_so : (b : Bool) (x : Object) → b ≡ true → is_some (so b x) ≡ true
some_so true x e = refl
some_so false x e = absurd (true≢false (sym e))

source_there : (o : Option Object) → is_some (option_and_then (λ x. so (is_source x) x) o) ≡ true → (y : Object) × (o ≡ Some y) × (is_source y ≡ true)
source_there None e = absurd (true≢false (sym e))
source_there (Some y) e = (y, refl, so_some (is_source y) y e)

kept_out : (p : Object → Bool) (o : Option Object) (y : Object) → option_filter p o ≡ Some y → (o ≡ Some y) × (p y ≡ true)
kept_out p None y e = absurd (true≢false (sym (ap is_some e)))
kept_out p (Some z) y e = by (p z) refl e
  where
    by : (b : Bool) → p z ≡ b → cond {A = Option Object} b (Some z) None ≡ Some y → (Some z ≡ Some y) × (p y ≡ true)
    by true is e = (e, subst (λ (o : Option Object). option_map_or p o true ≡ true) e is)
    by false is e = absurd (true≢false (sym (ap is_some e)))

-- in a mode that isn't propagated nothing is overwritten
unpropagated_none : (s : State) (mode : Mode) (objects : Objects) (id : Id) → is_propagated mode ≡ false → overwritten_by s mode objects id ≡ false
unpropagated_none s mode objects id out =
    and_right (is_open (forest_of s) id.ns) _ (and_right (is_some (source_at objects id)) _ (no_name _ (tail_of (chain_of (forest_of s) id.ns)) (λ a. by (object_at objects (id_in id.kind id.name a)))))
  where
    by : (found : Option Object) → goes_from mode (labels_at s id.ns) found ≡ false
    by None = refl
    by (Some x) = unpropagated mode x (labels_at s id.ns) out

would_is : (s : State) (id : Id) → would_go s id ≡ (is_open (forest_of s) id.ns && reaches s Propagate s.objects id)
unfolding would_go goes_down
would_is s id = refl

-- ---- where the objects that can be copied are found as before

module _ (s : State) (objects : Objects) (order : ascends s.objects ≡ true) (tree : forest_in s.config.excluded objects ≡ forest_of s)
    (homes : (m : List ℕ) → object_at objects (namespace_id m) ≡ object_at s.objects (namespace_id m)) (same : (q : Id) → can_be_copied q.kind ≡ true → object_at objects q ≡ object_at s.objects q) where
  abbrev then : State
  then = record s { objects = objects }

  abbrev mode_then : Kind → Mode
  mode_then kind = mode_in (object_at objects config_id) kind

  after_is : (id : Id) → can_be_copied id.kind ≡ true → is_overwritten then id ≡ overwritten_by s (mode_then id.kind) s.objects id
  after_is id copied = overwritten_in s objects id tree homes
      ∙ (λ i. is_open (forest_of s) id.ns && (is_some (option_and_then (λ x. so (is_source x) x) (same id copied i))
      && list_any (λ a. goes_from (mode_then id.kind) (labels_at s id.ns) (same (id_in id.kind id.name a) copied i)) (tail_of (chain_of (forest_of s) id.ns))))

  -- a kind comes to be propagated, and a source of it lies so
  lies : (id : Id) (y : Object) → object_at s.objects id ≡ Some y → is_source y ≡ true → would_go s id ≡ true → has_overwritten s id.kind ≡ true
  unfolding has_overwritten
  lies id y at source goes =
      let is = found_id s.objects id y at in
      let listed : is_listed id.kind None y ≡ true = and_from (eqb (number_of id.kind) (number_of y.id.kind)) _ (eq-eqb _ _ (ap (λ (q : Id). number_of q.kind) is)) refl in
      any_kept is_source (λ z. would_go s z.id) (filter (is_listed id.kind None) s.objects)
      ∙ any_found (would_go s) (filter is_source (filter (is_listed id.kind None) s.objects)) id y
      (object_at-filter is_source (filter (is_listed id.kind None) s.objects) id (ascends-filter (is_listed id.kind None) s.objects order)
      ∙ ap (option_filter is_source) (object_at-filter (is_listed id.kind None) s.objects id order ∙ ap (option_filter (is_listed id.kind None)) at ∙ ap (λ b. cond {A = Option Object} b (Some y) None) listed)
      ∙ ap (λ b. cond {A = Option Object} b (Some y) None) source) goes

  lies_at : (kind : Kind) → has_overwritten s kind ≡ true → (id : Id) × (y : Object) × (object_at s.objects id ≡ Some y) × (is_source y ≡ true) × (id.kind ≡ kind) × (would_go s id ≡ true)
  unfolding has_overwritten
  lies_at kind h =
      let found = found_any (would_go s) (filter is_source (filter (is_listed kind None) s.objects)) (sym (any_kept is_source (λ z. would_go s z.id) (filter (is_listed kind None) s.objects)) ∙ h) in
      let one = kept_out is_source (object_at (filter (is_listed kind None) s.objects) found.0) found.1 (sym (object_at-filter is_source (filter (is_listed kind None) s.objects) found.0 (ascends-filter (is_listed kind None) s.objects order)) ∙ found.2) in
      let two = kept_out (is_listed kind None) (object_at s.objects found.0) found.1 (sym (object_at-filter (is_listed kind None) s.objects found.0 order) ∙ one.0) in
      let of_kind = (and_parts (eqb (number_of kind) (number_of found.1.id.kind)) true two.1).0 in
      (found.0, found.1, two.0, one.1, ap (λ (q : Id). q.kind) (found_id s.objects found.0 found.1 two.0) ∙ sym (same_kind kind found.1.id.kind (eqb-true _ _ of_kind)), found.3)

  forth : makes_conflict s then ≡ true → list_any (comes_over s (object_at objects config_id)) copied_kinds ≡ true
  unfolding comes_over
  forth h =
      let new = conflict_found s then h in
      let placed : overwritten_by s (mode_then new.0.kind) objects new.0 ≡ true = sym (overwritten_in s objects new.0 tree homes) ∙ new.1 in
      let there = source_there (object_at objects new.0) (and_parts (is_some (source_at objects new.0)) _ (and_parts (is_open (forest_of s) new.0.ns) _ placed).1).0 in
      let copied : can_be_copied new.0.kind ≡ true = ap (λ (q : Id). can_be_copied q.kind) (found_id objects new.0 there.0 there.1) ∙ (and_parts (can_be_copied there.0.id.kind) (not (is_copy there.0)) there.2).0 in
      by new.0 there.0 copied (sym (same new.0 copied) ∙ there.1) there.2 (sym (after_is new.0 copied) ∙ new.1) (sym (overwritten_now s new.0) ∙ new.2) (is_propagated (mode_then new.0.kind)) refl (is_propagated (mode_of s new.0.kind)) refl
    where
      by : (id : Id) (y : Object) → can_be_copied id.kind ≡ true → object_at s.objects id ≡ Some y → is_source y ≡ true → overwritten_by s (mode_then id.kind) s.objects id ≡ true → overwritten_by s (mode_of s id.kind) s.objects id ≡ false
          → (b : Bool) → is_propagated (mode_then id.kind) ≡ b → (d : Bool) → is_propagated (mode_of s id.kind) ≡ d → list_any (comes_over s (object_at objects config_id)) copied_kinds ≡ true
      by id y copied at source after before false e d f = absurd (true≢false (sym after ∙ unpropagated_none s (mode_then id.kind) s.objects id e))
      by id y copied at source after before true e true f =
          absurd (true≢false (sym after ∙ ap (λ m. overwritten_by s m s.objects id) (propagate_is (mode_then id.kind) e ∙ sym (propagate_is (mode_of s id.kind) f)) ∙ before))
      by id y copied at source after before true e false f =
          let parts = and_parts (is_open (forest_of s) id.ns) _ after in
          let rest = and_parts (is_some (source_at s.objects id)) _ parts.1 in
          let goes : would_go s id ≡ true = would_is s id ∙ and_from (is_open (forest_of s) id.ns) _ parts.0 (ap (λ m. reaches s m s.objects id) (sym (propagate_is (mode_then id.kind) e)) ∙ rest.1) in
          in_kinds (comes_over s (object_at objects config_id)) id.kind copied (and_from (is_propagated (mode_then id.kind)) _ e (and_from (not (is_propagated (mode_of s id.kind))) _ (not_from_false _ f) (lies id y at source goes)))

  back : list_any (comes_over s (object_at objects config_id)) copied_kinds ≡ true → makes_conflict s then ≡ true
  unfolding comes_over
  back h =
      let over = some_kind (comes_over s (object_at objects config_id)) copied_kinds h in
      let one = and_parts (is_propagated (mode_then over.0)) _ over.1 in
      let two = and_parts (not (is_propagated (mode_of s over.0))) _ one.1 in
      let at = lies_at over.0 two.1 in
      by at.0 at.1 at.2 at.3 (ap (λ kind. is_propagated (mode_then kind)) at.4 ∙ one.0) (ap (λ kind. is_propagated (mode_of s kind)) at.4 ∙ not-true (is_propagated (mode_of s over.0)) two.0) at.5
    where
      by : (id : Id) (y : Object) → object_at s.objects id ≡ Some y → is_source y ≡ true → is_propagated (mode_then id.kind) ≡ true → is_propagated (mode_of s id.kind) ≡ false → would_go s id ≡ true → makes_conflict s then ≡ true
      by id y at source e f goes =
          let copied : can_be_copied id.kind ≡ true = ap (λ (q : Id). can_be_copied q.kind) (found_id s.objects id y at) ∙ (and_parts (can_be_copied y.id.kind) (not (is_copy y)) source).0 in
          let parts = and_parts (is_open (forest_of s) id.ns) _ (sym (would_is s id) ∙ goes) in
          let there : is_some (source_at s.objects id) ≡ true = ap (λ o. is_some (option_and_then (λ x. so (is_source x) x) o)) at ∙ some_so (is_source y) y source in
          conflict_of s then id
          (after_is id copied ∙ and_from (is_open (forest_of s) id.ns) _ parts.0 (and_from (is_some (source_at s.objects id)) _ there (ap (λ m. reaches s m s.objects id) (propagate_is (mode_then id.kind) e) ∙ parts.1)))
          (overwritten_now s id ∙ unpropagated_none s (mode_of s id.kind) s.objects id f)

  found_so : makes_conflict s then ≡ list_any (comes_over s (object_at objects config_id)) copied_kinds
  found_so = both (makes_conflict s then) (list_any (comes_over s (object_at objects config_id)) copied_kinds) forth back

-- ---- an HNCConfiguration

-- other kinds are found as before
apart : (id q : Id) → id.kind ≡ HncConfiguration → (q.kind ≡ HncConfiguration → ⊥) → same_id q id ≡ false
apart id q kind other = false_from_ne_true (same_id q id) (λ h. other (ap (λ (p : Id). p.kind) (is_same_id q id h) ∙ kind))

copied_other : (kind : Kind) → can_be_copied kind ≡ true → kind ≡ HncConfiguration → ⊥
copied_other kind copied is = true≢false (sym copied ∙ ap can_be_copied is)

namespace_other : (m : List ℕ) → (namespace_id m).kind ≡ HncConfiguration → ⊥
namespace_other m is = true≢false (ap (λ kind. eqb (number_of kind) 1) is)

config_at : (id : Id) → id.kind ≡ HncConfiguration → (b c : Bool) → bytes_eq id.name config ≡ b → bytes_eq id.ns [] ≡ c → same_id config_id id ≡ (b && c)
config_at id kind b c name ns = both (same_id config_id id) (b && c)
    (λ h. let is = is_same_id config_id id h in and_from b c (sym name ∙ ap (λ (q : Id). bytes_eq q.name config) (sym is)) (sym ns ∙ ap (λ (q : Id). bytes_eq q.ns []) (sym is)))
    (λ h. let parts = and_parts b c h in
    let n = (bytes_eq-Decides id.name config).0 (name ∙ parts.0) in
    let m = (bytes_eq-Decides id.ns []).0 (ns ∙ parts.1) in
    subst (λ (q : Id). same_id config_id q ≡ true) (sym (λ i. record { kind = kind i; ns = m i; name = n i })) refl)

pub conflict_modes : (s : State) (id : Id) (new : Option Object) → ascends s.objects ≡ true → id.kind ≡ HncConfiguration → IfSome new (λ x. x.id ≡ id)
    → makes_conflict s (with_written s id new) ≡ list_any (comes_over s (config_after s id new)) copied_kinds
conflict_modes s id None order kind is =
    found_so s (cut id s.objects) order (forest-cut s.config.excluded id s.objects (ap is_namespace kind) (ap is_hierarchy kind)) (λ m. as_before (namespace_id m) (namespace_other m)) (λ q copied. as_before q (copied_other q.kind copied))
    ∙ ap (λ o. list_any (comes_over s o) copied_kinds) (object_at-cut id s.objects config_id ∙ ap (λ b. cond b None (object_at s.objects config_id)) (config_at id kind _ _ refl refl))
  where
    as_before : (q : Id) → (q.kind ≡ HncConfiguration → ⊥) → object_at (cut id s.objects) q ≡ object_at s.objects q
    as_before q other = object_at-cut id s.objects q ∙ ap (λ b. cond b None (object_at s.objects q)) (apart id q kind other)
conflict_modes s id (Some x) order kind is =
    let own : x.id.kind ≡ HncConfiguration = ap (λ (q : Id). q.kind) is ∙ kind in
    found_so s (put x s.objects) order (forest-put s.config.excluded x s.objects (ap is_namespace own) (ap is_hierarchy own)) (λ m. as_before own (namespace_id m) (namespace_other m)) (λ q copied. as_before own q (copied_other q.kind copied))
    ∙ ap (λ o. list_any (comes_over s o) copied_kinds) (object_at-put x s.objects config_id ∙ ap (λ (q : Id). cond (same_id config_id q) (Some x) (object_at s.objects config_id)) is
    ∙ ap (λ b. cond b (Some x) (object_at s.objects config_id)) (config_at id kind _ _ refl refl))
  where
    as_before : x.id.kind ≡ HncConfiguration → (q : Id) → (q.kind ≡ HncConfiguration → ⊥) → object_at (put x s.objects) q ≡ object_at s.objects q
    as_before own q other = object_at-put x s.objects q ∙ ap (λ b. cond b (Some x) (object_at s.objects q)) (apart x.id q own other)

-- ---- the look-ups

pub config_conflict : (s : State) (id : Id) (new : Option Object) → ascends s.objects ≡ true → id.kind ≡ HncConfiguration → IfSome new (λ x. x.id ≡ id) → (bytes_eq id.name config && bytes_eq id.ns []) ≡ true
    → list_any (comes_over s new) copied_kinds ≡ makes_conflict s (with_written s id new)
config_conflict s id new order kind is test = sym (conflict_modes s id new order kind is ∙ ap (λ b. list_any (comes_over s (cond b new (object_at s.objects config_id))) copied_kinds) test)

no_kind : (P : Kind → Bool) (kinds : List Kind) → ((kind : Kind) → P kind ≡ false) → list_any P kinds ≡ false
no_kind P [] none = refl
no_kind P (kind ∷ kinds) none = ap (λ b. b || list_any P kinds) (none kind) ∙ no_kind P kinds none

-- where the modes stay, nothing comes to be propagated
same_modes : (s : State) (kind : Kind) → comes_over s (object_at s.objects config_id) kind ≡ false
unfolding comes_over
same_modes s kind = by (is_propagated (mode_of s kind))
  where
    by : (b : Bool) → (b && (not b && has_overwritten s kind)) ≡ false
    by true = refl
    by false = refl

-- one of another name makes none
pub other_config : (s : State) (id : Id) (new : Option Object) → ascends s.objects ≡ true → id.kind ≡ HncConfiguration → IfSome new (λ x. x.id ≡ id) → (bytes_eq id.name config && bytes_eq id.ns []) ≡ false
    → false ≡ makes_conflict s (with_written s id new)
other_config s id new order kind is test = sym (conflict_modes s id new order kind is ∙ ap (λ b. list_any (comes_over s (cond b new (object_at s.objects config_id))) copied_kinds) test
    ∙ no_kind (comes_over s (object_at s.objects config_id)) copied_kinds (same_modes s))

pub over_none : (s : State) (found : Option Object) (kind : Kind) → is_propagated (mode_in found kind) ≡ false → false ≡ comes_over s found kind
unfolding comes_over
over_none s found kind out = sym (and_left (is_propagated (mode_in found kind)) _ out)

pub over_before : (s : State) (found stored : Option Object) (kind : Kind) → object_at s.objects config_id ≡ stored → is_propagated (mode_in stored kind) ≡ true → false ≡ comes_over s found kind
unfolding comes_over
over_before s found stored kind there is = sym (and_right (is_propagated (mode_in found kind)) _ (and_left (not (is_propagated (mode_of s kind))) _ (ap (λ o. not (is_propagated (mode_in o kind))) there ∙ ap not is)))

pub over_has : (s : State) (found stored : Option Object) (kind : Kind) → object_at s.objects config_id ≡ stored → is_propagated (mode_in found kind) ≡ true → is_propagated (mode_in stored kind) ≡ false → has_overwritten s kind ≡ comes_over s found kind
unfolding comes_over
over_has s found stored kind there is out = sym (λ i. is i && (not ((ap (λ o. is_propagated (mode_in o kind)) there ∙ out) i) && has_overwritten s kind))

pub has_is : (s : State) (kind : Kind) → list_any (λ (y : Object). is_source y && would_go s y.id) (filter (is_listed kind None) s.objects) ≡ has_overwritten s kind
unfolding has_overwritten
has_is s kind = refl

pub would_closed : (s : State) (id : Id) → is_open (forest_of s) id.ns ≡ false → false ≡ would_go s id
unfolding would_go
would_closed s id closed = sym (and_left (is_open (forest_of s) id.ns) _ closed)

pub would_reached : (s : State) (id : Id) → is_open (forest_of s) id.ns ≡ true → list_any (goes_down s Propagate id.ns id.kind id.name) (tail_of (chain_of (forest_of s) id.ns)) ≡ would_go s id
unfolding would_go
would_reached s id takes_part = sym (ap (λ b. b && list_any (goes_down s Propagate id.ns id.kind id.name) (tail_of (chain_of (forest_of s) id.ns))) takes_part)
