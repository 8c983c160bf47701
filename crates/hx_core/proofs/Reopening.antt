-- The rows of a state tell the state.
--     never_both        no rows are both undamaged and damaged
--     undamaged_rows    the rows of a valid state are undamaged
--     same_objects      two valid states of the same rows have the same objects
--     tells_state       and are one, under one configuration and with one window of events
--     intact            a start on the rows of a valid state finds no damage
--     same_state        a valid state of the rows that another one has is what a start makes of that one, where it has no events
use Rattle.std.proofs.Common.{◌≡◌, ◌<◌, ◌≤◌, ◌^◌, ℕ, zero, suc, true, false, cond, not, ◌||◌, ◌==◌, nat_lt, List, [], ◌∷◌, map, length, Option, Some, None, IfSome, is_some, Less, Equal, Greater, refl, sym, ap, subst, ◌∙◌, arith, true≢false}
use Rattle.std.specs.Prelude.{option_map, option_and_then, if◌then◌else◌, drop}
use Rattle.std.specs.List.{AllByRecursion}
use Rattle.std.specs.Cmp.{tied_itself}
use Rattle.std.specs.Cmp.Lexicographic.{nat_list_cmp_total}
use Rattle.std.specs.FinMap.{find, get, entries, entries-insert, from_entries, len-entries, get-from_entries}
use Rattle.std.specs.FinMap.Entries.{by_order, put as put_entry}
use Rattle.std.proofs.lemmas.Bool.{le-ltb}
use Rattle.std.specs.Ordering.{is_eq, eq_by_cmp}
use Rattle.hx_object.specs.Json.{object_text}
use Rattle.hx_object.specs.Kinds.{is_in_cluster}
use Rattle.hx_object.specs.Texts.{bytes_cmp}
use Rattle.hx_object.specs.declared.object.Id.{Id}
use Rattle.hx_object.specs.declared.object.Object.{Object}
use Rattle.hx_ports.specs.Keeping.{Kept, Rows, greatest_version}
use Rattle.hx_ports.specs.Rows.{Entry}
use Rattle.hx_ports.proofs.Placed.{entries-from_entries}
use Rattle.hx_json.proofs.Telling.{served_told}
use Rattle.hx_model.specs.State.{State, Objects, object_at, same_id, namespace_id, has_home, restarted}
use Rattle.hx_model.specs.Texts.{key_text, stored_entry, rows_of}
use Rattle.hx_model.specs.Valid.{IsValid, IsStored, IsRecent}
use Rattle.hx_model.specs.Windows.{opened}
use Rattle.hx_model.specs.declared.config.RunConfig.{RunConfig}
use Rattle.hx_model.proofs.Legality.{keyed_legal}
use Rattle.hx_model.proofs.Objects.{found_id, is_same_id, same_rows}
use Rattle.hx_model.proofs.Storing.{All-found, HasNoSlash, IsKeyed, stored_contains, same_bytes}
use Rattle.hx_model.proofs.Writes.{key_apart}
use Rattle.hx_core.specs.Refinement.{kept_of}
use Rattle.hx_core.specs.declared.start.StartFault.{StartFault}
use Rattle.hx_core.specs.declared.start.StartFault.TheVariants.{KeeperFault, Damaged, NoMemory}
use Rattle.hx_core.specs.Starting.{IfDamaged, has_home_row, IsSoundRow, IsUndamaged, given_rows, IsUnsoundNext, IsDamagedAt}
use Rattle.hx_core.proofs.Behind.{is_behind, all_kept}
use Rattle.hx_core.proofs.Loading.{key_behind}
use Rattle.hx_core.proofs.Storing.{stored_keyed}

-- ---- undamaged or damaged

keys_behind : (held : Kept) (es : List Entry) → AllByRecursion (IsSoundRow held) es → AllByRecursion (λ e. is_behind [] e ≡ true) es
keys_behind held [] all = tt
keys_behind held (e ∷ es) all = (ap (λ (f : Entry). is_behind [] f) (sym all.0.row) ∙ key_behind all.0.object.id, keys_behind held es all.1)

none_unsound : (held : Kept) (before : ℕ) (es : List Entry) → before < length es → AllByRecursion (IsSoundRow held) es → IsUnsoundNext held (drop before es) → ⊥
none_unsound held before [] within all next = omega (arith, within)
none_unsound held zero (e ∷ es) within all next = next all.0
none_unsound held (suc before) (e ∷ es) within all next = none_unsound held before es (omega (arith, within)) all.1 next

pub never_both : (held : Kept) (row : ℕ) → IsUndamaged held → IsDamagedAt held row → ⊥
never_both held zero good bad = true≢false (sym bad ∙ good.fits)
never_both held (suc before) good bad =
    let whole : given_rows held ≡ entries held.rows = all_kept (is_behind []) (entries held.rows) (keys_behind held (entries held.rows) good.sound) in
    let long = len-entries held.rows in
    none_unsound held before (entries held.rows) (omega (arith, long, bad.1.within)) good.sound (subst (λ es. IsUnsoundNext held (drop before es)) whole bad.1.next)

-- ---- the rows of a state

all_put : (P : Entry → Type 0) (key : List ℕ) (value : ℕ × List ℕ) (es : List Entry) → P (key, value) → AllByRecursion P es → AllByRecursion P (put_entry bytes_cmp key value es)
all_put P key value [] p all = (p, tt)
all_put P key value (e ∷ es) p all =
    elim (bytes_cmp key e.0) as (λ o. bytes_cmp key e.0 ≡ o → AllByRecursion P (by_order o ((key, value) ∷ e ∷ es) ((e.0, value) ∷ es) (e ∷ put_entry bytes_cmp key value es))) [
      | Less ↦ λ is. (p, all)
      | Equal ↦ λ is. (subst (λ k. P (k, value)) (same_bytes key e.0 is) p, all.1)
      | Greater ↦ λ is. (all.0, all_put P key value es p all.1)
    ] refl

all_entries : (P : Entry → Type 0) (es : List Entry) → AllByRecursion P es → AllByRecursion P (entries (from_entries {R = bytes_cmp} es))
all_entries P [] all = subst (AllByRecursion P) (sym (entries-from_entries [] tt)) tt
all_entries P (e ∷ es) all = subst (AllByRecursion P) (sym (entries-insert nat_list_cmp_total (from_entries {R = bytes_cmp} es) e.0 e.1)) (all_put P e.0 e.1 (entries (from_entries {R = bytes_cmp} es)) all.0 (all_entries P es all.1))

home_row : (s : State) (id : Id) → has_home s.objects id ≡ true → has_home_row (rows_of s) id ≡ true
home_row s id home =
    elim (is_in_cluster id.kind) as (λ b. (b || is_some (option_and_then (object_at s.objects) (if b then None else Some (namespace_id id.ns)))) ≡ true → (b || is_some (get (rows_of s) (key_text (namespace_id id.ns)))) ≡ true) [
      | true ↦ λ _. refl
      | false ↦ λ there. by (object_at s.objects (namespace_id id.ns)) refl there
    ] home
  where
    by : (o : Option Object) → object_at s.objects (namespace_id id.ns) ≡ o → is_some o ≡ true → is_some (get (rows_of s) (key_text (namespace_id id.ns))) ≡ true
    by None is some = absurd (true≢false (sym some))
    by (Some y) is some = stored_contains (namespace_id id.ns) y s.objects is

objects_entries : (s : State) (objects : Objects) → AllByRecursion (IsStored s.last) objects → AllByRecursion (λ (x : Object). has_home s.objects x.id ≡ true) objects → AllByRecursion (IsSoundRow (kept_of s)) (map stored_entry objects)
objects_entries s [] stored housed = tt
objects_entries s (x ∷ objects) stored housed = (record { object = x; stored = stored.0; row = refl; home = home_row s x.id housed.0 }, objects_entries s objects stored.1 housed.1)

pub undamaged_rows : (s : State) → IsValid s → IsUndamaged (kept_of s)
undamaged_rows s valid = record {
  fits = fits s.last valid.fits;
  sound = all_entries (IsSoundRow (kept_of s)) (map stored_entry s.objects) (objects_entries s s.objects valid.stored valid.housed);
}
  where
    fits : (last : ℕ) → last ≤ greatest_version → (not (2 == 2) || nat_lt greatest_version last) ≡ false
    fits last within = le-ltb greatest_version last within

-- ---- the state of rows

abbrev told : Object → ℕ × List ℕ
told x = (x.version, object_text x)

-- what is found under the key of an identity is what its object tells
look_up : (id : Id) (objects : Objects) → HasNoSlash id.ns → AllByRecursion IsKeyed objects → find bytes_cmp (key_text id) (map stored_entry objects) ≡ option_map told (object_at objects id)
look_up id [] keyed all = refl
look_up id (y ∷ objects) keyed all =
    elim (same_id id y.id) as (λ b. same_id id y.id ≡ b → cond (eq_by_cmp bytes_cmp (key_text id) (key_text y.id)) (Some (told y)) (find bytes_cmp (key_text id) (map stored_entry objects)) ≡ option_map told (cond b (Some y) (object_at objects id))) [
      | true ↦ λ same. ap (λ b. cond b (Some (told y)) (find bytes_cmp (key_text id) (map stored_entry objects))) (ap (λ (i : Id). eq_by_cmp bytes_cmp (key_text id) (key_text i)) (sym (is_same_id id y.id same)) ∙ ap is_eq (tied_itself nat_list_cmp_total (key_text id)))
      | false ↦ λ apart. ap (λ b. cond b (Some (told y)) (find bytes_cmp (key_text id) (map stored_entry objects))) (key_apart id y.id keyed all.0 apart) ∙ look_up id objects keyed all.1
    ] refl

-- two objects that are stored under one text are one
same_told : (last : ℕ) (x y : Object) → last ≤ greatest_version → IsStored last x → IsStored last y → told x ≡ told y → x ≡ y
same_told last x y fits a b same =
    served_told x y a.served b.served (let h : x.version < 2 ^ 64 = omega (arith, a.known, fits) in h)
    (let h : y.version < 2 ^ 64 = omega (arith, b.known, fits) in h) (ap (λ (p : ℕ × List ℕ). p.1) same)

module _ (s t : State) (a : IsValid s) (b : IsValid t) (last : s.last ≡ t.last) (rows : rows_of s ≡ rows_of t) where
  same_look_up : (q : Id) → HasNoSlash q.ns → option_map told (object_at s.objects q) ≡ option_map told (object_at t.objects q)
  same_look_up q keyed =
      sym (look_up q s.objects keyed (stored_keyed s.last s.objects a.stored)) ∙ sym (get-from_entries nat_list_cmp_total (map stored_entry s.objects) (key_text q))
      ∙ ap (λ (m : Rows). get m (key_text q)) rows
      ∙ get-from_entries nat_list_cmp_total (map stored_entry t.objects) (key_text q) ∙ look_up q t.objects keyed (stored_keyed t.last t.objects b.stored)

  same_at : (q : Id) → object_at s.objects q ≡ object_at t.objects q
  same_at q = by (object_at s.objects q) (object_at t.objects q) refl refl
    where
      keyed : (u : State) (x : Object) → IsValid u → object_at u.objects q ≡ Some x → HasNoSlash q.ns
      keyed u x valid is = subst (λ (i : Id). HasNoSlash i.ns) (sym (found_id u.objects q x is)) (keyed_legal x (All-found (IsStored u.last) q x u.objects valid.stored is).served.legal)

      by : (o p : Option Object) → object_at s.objects q ≡ o → object_at t.objects q ≡ p → o ≡ p
      by None None is that = refl
      by (Some x) None is that = absurd (let h : Some (told x) ≡ None = ap (option_map told) (sym is) ∙ same_look_up q (keyed s x a is) ∙ ap (option_map told) that in cc)
      by None (Some y) is that = absurd (let h : None ≡ Some (told y) = ap (option_map told) (sym is) ∙ same_look_up q (keyed t y b that) ∙ ap (option_map told) that in cc)
      by (Some x) (Some y) is that =
          let h : Some (told x) ≡ Some (told y) = ap (option_map told) (sym is) ∙ same_look_up q (keyed s x a is) ∙ ap (option_map told) that in
          let same : told x ≡ told y = cc in
          ap Some (same_told s.last x y a.fits (All-found (IsStored s.last) q x s.objects a.stored is) (subst (λ n. IsStored n y) (sym last) (All-found (IsStored t.last) q y t.objects b.stored that)) same)

  pub same_objects : s.objects ≡ t.objects
  same_objects = same_rows s.objects t.objects a.in_order b.in_order same_at

-- two valid states of the same rows are one
pub tells_state : (s t : State) → IsValid s → IsValid t → s.config ≡ t.config → s.window ≡ t.window → kept_of s ≡ kept_of t → s ≡ t
tells_state s t a b configured windows same =
    let last : s.last ≡ t.last = ap (λ (k : Kept). k.version) same in
    let objects : s.objects ≡ t.objects = same_objects s t a b last (ap (λ (k : Kept). k.rows) same) in
    λ i. record { objects = objects i; last = last i; config = configured i; window = windows i }

-- a window to which no event came
unheard : (last : ℕ) → IsRecent last (opened last)
unheard last = record { ascend = tt; known = omega arith; legal = tt }

pub same_state : (kept : Option Kept) (s t : State) (config : RunConfig) → t.config ≡ config → t.window ≡ opened t.last → IsValid s → IsValid t → kept ≡ Some (kept_of s) → IfSome kept (λ held. held ≡ kept_of t) → t ≡ restarted config s
same_state kept s t config configured fresh a b is holds =
    let same : kept_of s ≡ kept_of t = subst (λ k. IfSome k (λ held. held ≡ kept_of t)) is holds in
    tells_state t (restarted config s) b (record { in_order = a.in_order; stored = a.stored; housed = a.housed; fits = a.fits; recent = unheard s.last }) configured (fresh ∙ ap (λ (k : Kept). opened k.version) (sym same)) (sym same)

-- a start on the rows of a valid state finds no damage
never_damaged : (kept : Option Kept) (s : State) (row : ℕ) → IsValid s → kept ≡ Some (kept_of s) → IfSome kept (λ held. IsDamagedAt held row) → ⊥
never_damaged kept s row valid is damaged = never_both (kept_of s) row (undamaged_rows s valid) (subst (λ k. IfSome k (λ held. IsDamagedAt held row)) is damaged)

pub intact : (kept : Option Kept) (fault : StartFault) → IfDamaged fault (λ row. IfSome kept (λ held. IsDamagedAt held row)) → IfDamaged fault (λ row. (s : State) → IsValid s → kept ≡ Some (kept_of s) → ⊥)
intact kept KeeperFault damaged = tt
intact kept (Damaged row damage) damaged = λ s valid is. never_damaged kept s row valid is damaged
intact kept NoMemory damaged = tt
