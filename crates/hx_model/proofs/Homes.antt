-- The namespaces of objects stay there, where objects are put, and where what is cut is no namespace.
--     home-put, home-cut          a namespace that is there stays so
--     housed-put, housed-cut      each object still lies in one that is there
--     housed_gone                 a namespace goes in which nothing lies
--     housed_after                the same after the writes of one commit
use Rattle.std.proofs.Common.{◌≡◌, suc, Bool, true, false, cond, ◌||◌, List, [], ◌∷◌, ℕ, Option, Some, None, option_and_then, is_some, find, not, ◌&&◌, length, refl, sym, ap, ◌∙◌, arith, true≢false}
use Rattle.std.specs.Prelude.{if◌then◌else◌}
use Rattle.std.specs.List.{AllByRecursion, list_any}
use Rattle.std.specs.Str.{bytes_eq}
use Rattle.std.proofs.lemmas.Slice.Eq.{bytes_eq-Decides}
use Rattle.hx_object.specs.Kinds.{is_in_cluster, is_namespace}
use Rattle.hx_object.specs.declared.object.Id.{Id}
use Rattle.hx_object.specs.declared.object.Object.{Object}
use Rattle.hx_model.specs.State.{State, Objects, object_at, put, cut, same_id, namespace_id, has_home, lies_in, least_in, after_writes}
use Rattle.hx_model.specs.Valid.{AreHoused}
use Rattle.hx_model.specs.Writes.{MayWrite, MayWriteAll, MayCut, removes_namespace}
use Rattle.hx_model.specs.declared.key.Write.{Write}
use Rattle.hx_model.specs.declared.key.Write.TheVariants.{Put, Cut}
use Rattle.hx_model.proofs.Objects.{is_same_id, object_at-put, object_at-cut}
use Rattle.hx_model.proofs.Storing.{All-put, All-cut}

-- ---- a namespace that is there

either : {A : Type 0} (b : Bool) (x : A) (o : Option A) → is_some o ≡ true → is_some (cond b (Some x) o) ≡ true
either true x o there = refl
either false x o there = there

-- where each namespace that is there stays there, each home does
homes_stay : (old new : Objects) (id : Id) → ((n : List ℕ) → is_some (object_at old (namespace_id n)) ≡ true → is_some (object_at new (namespace_id n)) ≡ true) → has_home old id ≡ true → has_home new id ≡ true
homes_stay old new id stays home =
    elim (is_in_cluster id.kind) as (λ b. (b || is_some (option_and_then (object_at old) (if b then None else Some (namespace_id id.ns)))) ≡ true → (b || is_some (option_and_then (object_at new) (if b then None else Some (namespace_id id.ns)))) ≡ true) [
      | true ↦ λ _. refl
      | false ↦ λ there. stays id.ns there
    ] home

pub home-put : (x : Object) (objects : Objects) (id : Id) → has_home objects id ≡ true → has_home (put x objects) id ≡ true
home-put x objects id home =
    homes_stay objects (put x objects) id (λ n there. ap is_some (object_at-put x objects (namespace_id n)) ∙ either (same_id (namespace_id n) x.id) x (object_at objects (namespace_id n)) there) home

no_namespace : (n : List ℕ) (id : Id) → is_namespace id.kind ≡ false → same_id (namespace_id n) id ≡ false
no_namespace n id leaf = by (same_id (namespace_id n) id) refl
  where
    by : (b : Bool) → same_id (namespace_id n) id ≡ b → b ≡ false
    by true is = absurd (true≢false (ap (λ (q : Id). is_namespace q.kind) (is_same_id (namespace_id n) id is) ∙ leaf))
    by false is = refl

pub home-cut : (leaf : Id) (objects : Objects) (id : Id) → is_namespace leaf.kind ≡ false → has_home objects id ≡ true → has_home (cut leaf objects) id ≡ true
home-cut leaf objects id is home =
    homes_stay objects (cut leaf objects) id (λ n there. ap is_some (object_at-cut leaf objects (namespace_id n) ∙ ap (λ b. cond b None (object_at objects (namespace_id n))) (no_namespace n leaf is)) ∙ there) home

-- ---- each object

all_stay : (P Q : Object → Type 0) (objects : Objects) → ((x : Object) → P x → Q x) → AllByRecursion P objects → AllByRecursion Q objects
all_stay P Q [] stays all = tt
all_stay P Q (x ∷ objects) stays all = (stays x all.0, all_stay P Q objects stays all.1)

pub housed-put : (x : Object) (objects : Objects) → has_home objects x.id ≡ true → AreHoused objects → AreHoused (put x objects)
housed-put x objects home housed =
    let P : Object → Type 0 = λ y. has_home objects y.id ≡ true in
    let Q : Object → Type 0 = λ y. has_home (put x objects) y.id ≡ true in
    All-put Q x objects (home-put x objects x.id home) (all_stay P Q objects (λ y. home-put x objects y.id) housed)

pub housed-cut : (leaf : Id) (objects : Objects) → is_namespace leaf.kind ≡ false → AreHoused objects → AreHoused (cut leaf objects)
housed-cut leaf objects is housed =
    let P : Object → Type 0 = λ y. has_home objects y.id ≡ true in
    let Q : Object → Type 0 = λ y. has_home (cut leaf objects) y.id ≡ true in
    All-cut Q leaf objects (all_stay P Q objects (λ y. home-cut leaf objects y.id is) housed)

-- ---- a namespace that goes

-- what isn't found is nowhere
none_found : (p : Object → Bool) (objects : Objects) → find p objects ≡ None → AllByRecursion (λ (x : Object). p x ≡ false) objects
none_found p [] none = tt
none_found p (x ∷ objects) none =
    elim (p x) as (λ b. p x ≡ b → cond b (Some x) (find p objects) ≡ None → AllByRecursion (λ (y : Object). p y ≡ false) (x ∷ objects)) [
      | true ↦ λ _ found. absurd (let e : Some x ≡ None = found in cc)
      | false ↦ λ is rest. (is, none_found p objects rest)
    ] refl none

-- what doesn't lie in it keeps its home
home_stays : (gone : Id) (objects : Objects) (id : Id) → lies_in gone.name id ≡ false → has_home objects id ≡ true → has_home (cut gone objects) id ≡ true
home_stays gone objects id apart home =
    elim (is_in_cluster id.kind) as (λ b. (not b && bytes_eq gone.name id.ns) ≡ false → (b || is_some (option_and_then (object_at objects) (if b then None else Some (namespace_id id.ns)))) ≡ true → (b || is_some (option_and_then (object_at (cut gone objects)) (if b then None else Some (namespace_id id.ns)))) ≡ true) [
      | true ↦ λ _ _. refl
      | false ↦ λ other there.
          ap is_some (object_at-cut gone objects (namespace_id id.ns) ∙ ap (λ b. cond b None (object_at objects (namespace_id id.ns))) (elsewhere other)) ∙ there
    ] apart home
  where
    elsewhere : bytes_eq gone.name id.ns ≡ false → same_id (namespace_id id.ns) gone ≡ false
    elsewhere other = by (same_id (namespace_id id.ns) gone) refl
      where
        by : (b : Bool) → same_id (namespace_id id.ns) gone ≡ b → b ≡ false
        by false is = refl
        by true is = absurd (true≢false (sym ((bytes_eq-Decides gone.name id.ns).1 (sym (ap (λ (q : Id). q.name) (is_same_id (namespace_id id.ns) gone is)))) ∙ other))

pub housed_gone : (gone : Id) (objects : Objects) → least_in objects gone.name ≡ None → AreHoused objects → AreHoused (cut gone objects)
housed_gone gone objects empty housed =
    let Q : Object → Type 0 = λ y. has_home (cut gone objects) y.id ≡ true in
    All-cut Q gone objects (each objects (none_found (λ (x : Object). lies_in gone.name x.id) objects empty) housed)
  where
    each : (some : Objects) → AllByRecursion (λ (x : Object). lies_in gone.name x.id ≡ false) some → AllByRecursion (λ (x : Object). has_home objects x.id ≡ true) some → AllByRecursion (λ (x : Object). has_home (cut gone objects) x.id ≡ true) some
    each [] apart homes = tt
    each (x ∷ some) apart homes = (home_stays gone objects x.id apart.0 homes.0, each some apart.1 homes.1)

-- ---- writes

or_parts : (a b : Bool) → (a || b) ≡ false → (a ≡ false) × (b ≡ false)
or_parts true b e = absurd (true≢false e)
or_parts false b e = (refl, e)

-- those of a commit that takes no namespace away
housed_kept : (s : State) (ws : List Write) (objects : Objects) → AllByRecursion (MayWrite s) ws → list_any removes_namespace ws ≡ false → ((id : Id) → has_home s.objects id ≡ true → has_home objects id ≡ true) → AreHoused objects → AreHoused (after_writes ws objects)
housed_kept s [] objects may none stay housed = housed
housed_kept s (Put x ∷ ws) objects may none stay housed =
    housed_kept s ws (put x objects) may.1 none (λ id home. home-put x objects id (stay id home)) (housed-put x objects (stay x.id may.0.home) housed)
housed_kept s (Cut id ∷ ws) objects may none stay housed =
    housed_kept s ws (cut id objects) may.1 (or_parts (is_namespace id.kind) (list_any removes_namespace ws) none).1 (λ q home. home-cut id objects q (or_parts (is_namespace id.kind) (list_any removes_namespace ws) none).0 (stay q home)) (housed-cut id objects (or_parts (is_namespace id.kind) (list_any removes_namespace ws) none).0 housed)

one_removal : (s : State) (id : Id) (is : is_namespace id.kind ≡ true) → MayCut s id → AreHoused s.objects → AreHoused (cut id s.objects)
one_removal s id is may housed = housed_gone id s.objects (may.leaf is).empty housed

-- each object lies in a namespace that is there, after the writes of one commit
pub housed_after : (s : State) (ws : List Write) → MayWriteAll s ws → AreHoused s.objects → AreHoused (after_writes ws s.objects)
housed_after s ws may housed = by (list_any removes_namespace ws) refl
  where
    alone : (ws : List Write) → AllByRecursion (MayWrite s) ws → list_any removes_namespace ws ≡ true → length ws ≡ 1 → AreHoused (after_writes ws s.objects)
    alone [] each some one = absurd (true≢false (sym some))
    alone (Put x ∷ []) each some one = absurd (true≢false (sym some))
    alone (Cut id ∷ []) each some one = one_removal s id (first_of (is_namespace id.kind) some) each.0 housed
      where
        first_of : (b : Bool) → (b || false) ≡ true → b ≡ true
        first_of true e = refl
        first_of false e = e
    alone (w ∷ v ∷ ws) each some one = absurd (let two : suc (suc (length ws)) ≡ 1 = one in omega (arith, two))

    by : (b : Bool) → list_any removes_namespace ws ≡ b → AreHoused (after_writes ws s.objects)
    by true some = alone ws may.each some (may.alone some)
    by false none = housed_kept s ws s.objects may.each none (λ id home. home) housed
