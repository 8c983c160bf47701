-- What is damaged of the first damaged row, and its key.
--     tells_misfit        the keeper's own schema or last version
--     tells_missing, tells_hindered     the next row is missing, or can't be taken
--     never_more          no row is one too many, where the keeper tells its rows
--     damaged_on, whole_on              what holds of the fault of a call that is passed on
--     first_told, damage_told, key_told what is told of a fault
use Rattle.std.proofs.Common.{◌≡◌, ◌≤◌, ◌<◌, ◌+◌, ℕ, suc, Bool, true, false, not, ◌||◌, ◌==◌, nat_lt, List, Option, Some, None, IfSome, refl, sym, ap, subst, ◌∙◌, arith, true≢false, eqb-true, eq-eqb}
use Rattle.std.specs.Prelude.{◌⊎◌, option_map, IfErr, IsErrAnd, IsSomeAnd, if◌then◌else◌, find as find_first}
use Rattle.std.specs.declared.result.Result.{Result}
use Rattle.std.specs.declared.result.Result.TheVariants.{Ok, Err}
use Rattle.std.specs.FinMap as finite
use Rattle.std.specs.FinMap.{entries}
use Rattle.std.proofs.lemmas.Bool.{false_from_ne_true, ltb-true}
use Rattle.hx_object.specs.declared.object.Object.{Object}
use Rattle.hx_ports.specs.Keeping.{Kept, meta_of, row_of_entry, row_after, greatest_version}
use Rattle.hx_ports.specs.Rows.{Entry}
use Rattle.hx_ports.specs.declared.keeper.Meta.{Meta}
use Rattle.hx_ports.specs.declared.keeper.Row.{Row}
use Rattle.hx_model.specs.State.{State}
use Rattle.hx_model.specs.Texts.{stored_entry}
use Rattle.hx_model.specs.Valid.{IsValid, IsStored}
use Rattle.hx_core.specs.Loading.{HasRowBehind, Hinders, IsUntakeable, IsFront, IsLoaded}
use Rattle.hx_core.specs.Rows.{current_schema}
use Rattle.hx_core.specs.declared.damage.Damage.{Damage}
use Rattle.hx_core.specs.declared.damage.Damage.TheVariants as damage
use Rattle.hx_core.specs.declared.start.StartFault.{StartFault}
use Rattle.hx_core.specs.declared.start.StartFault.TheVariants.{KeeperFault, Damaged, NoMemory}
use Rattle.hx_core.specs.Starting.{IfDamage, IfDamaged, IfWhole, is_misfit, has_home_row, IsDamagedAt, IsRowOfObject, IsDamageOf, next_row, row_at, key_at, Tells}
use Rattle.hx_core.proofs.Behind.{is_behind, found_passes, none_behind}
use Rattle.hx_core.proofs.Loading.{by_next, damaged_none, damaged_some, hindered, left_is, not_one_more, rest_is, unsound_next}

-- ---- what the keeper says of itself

-- the first of the two that no cluster has
misfit : (held : Kept) → is_misfit (meta_of held) ≡ true → IsDamageOf held 0 (if held.schema == current_schema then damage.LastVersion else damage.Schema)
misfit held bad = by (held.schema == current_schema) refl bad
  where
    by : (b : Bool) → (held.schema == current_schema) ≡ b → (not b || nat_lt greatest_version held.version) ≡ true → IsDamageOf held 0 (if b then damage.LastVersion else damage.Schema)
    by true is past = (refl, eqb-true held.schema current_schema is, ltb-true greatest_version held.version past)
    by false is _ = (refl, λ same. true≢false (sym (eq-eqb held.schema current_schema same) ∙ is))

pub tells_misfit : (kept : Option Kept) (meta : Meta) (d : Damage) (key : Option (List ℕ)) → IfSome kept (λ held. meta ≡ meta_of held) → is_misfit meta ≡ true → d ≡ (if meta.schema == current_schema then damage.LastVersion else damage.Schema) → key ≡ None → IfSome kept (λ held. Tells held 0 d key)
tells_misfit None meta d key says bad is none = tt
tells_misfit (Some held) meta d key says bad is none =
    let first : is_misfit (meta_of held) ≡ true = ap is_misfit (sym says) ∙ bad in
    record {
      first = first;
      damaged = subst (IsDamageOf held 0) (sym (is ∙ ap (λ (m : Meta). if m.schema == current_schema then damage.LastVersion else damage.Schema) says)) (misfit held first);
      named = none;
    }

-- ---- the next row

module _ (held : Kept) (s : State) (key : List ℕ) (count : ℕ) (front : IsFront held s key count) (valid : IsValid s) (within : count < finite.len held.rows) where
  number_is : suc count ≡ count + 1
  number_is = omega arith

  missing : find_first (is_behind key) (entries held.rows) ≡ None → Tells held (count + 1) damage.Missing None
  missing none =
      let nothing : row_at held (suc count) ≡ None = ap next_row (left_is held s key count front valid ∙ none_behind (is_behind key) (entries held.rows) none) in
      let out : row_at held (count + 1) ≡ None = subst (λ n. row_at held n ≡ None) number_is nothing in
      record {
        first = damaged_none held s key count front valid within none;
        damaged = (omega arith, omega (arith, within), out);
        named = sym (ap (option_map (λ (e : Entry). e.0)) out);
      }

  module _ (e : Entry) (next : find_first (is_behind key) (entries held.rows) ≡ Some e) where
    here : row_at held (count + 1) ≡ Some e
    here = subst (λ n. row_at held n ≡ Some e) number_is (ap next_row (left_is held s key count front valid ∙ rest_is held s key count front valid e next))

    -- what is damaged, where the row has it
    of_row : (P : Entry → Type 0) → P e → IsSomeAnd (row_at held (count + 1)) P
    of_row P p = subst (λ (o : Option Entry). IsSomeAnd o P) (sym here) p

    homeless : (x : Object) → IsStored held.version x → stored_entry x ≡ e → IsUntakeable s key (row_of_entry e) → has_home_row held.rows x.id ≡ false
    homeless x stored row out = false_from_ne_true (has_home_row held.rows x.id) (λ home.
        unsound_next held s key count front valid e next out (record { object = x; stored = stored; row = row; home = home }))

    damaged_here : (d : Damage) → Hinders s key (row_of_entry e) d → IsDamageOf held (count + 1) d
    damaged_here damage.KeyOrder out = absurd (true≢false (sym (found_passes (is_behind key) (entries held.rows) e next) ∙ out))
    damaged_here damage.RowVersion out = of_row (λ f. (f.1.0 ≡ 0) ⊎ (held.version < f.1.0)) (subst (λ last. (e.1.0 ≡ 0) ⊎ (last < e.1.0)) front.version out)
    damaged_here damage.NoObject out =
        of_row (λ f. (1 ≤ f.1.0) × (f.1.0 ≤ held.version) × ((x : Object) → IsRowOfObject held f x → ⊥))
        (out.0, subst (λ last. e.1.0 ≤ last) front.version out.1, λ x it. out.2 x (subst (λ last. IsStored last x) (sym front.version) it.stored) it.row)
    damaged_here damage.NoNamespace out =
        let stored : IsStored held.version out.0 = subst (λ last. IsStored last out.0) front.version out.1 in
        of_row (λ f. (x : Object) × IsRowOfObject held f x × (has_home_row held.rows x.id ≡ false))
        (out.0, record { stored = stored; row = out.2 }, homeless out.0 stored out.2 (hindered s key (row_of_entry e) damage.NoNamespace out))
    damaged_here _ out = absurd out

    told_here : (d : Damage) → Hinders s key (row_of_entry e) d → Tells held (count + 1) d (Some e.0)
    told_here d out = record {
      first = damaged_some held s key count front valid within e next (hindered s key (row_of_entry e) d out);
      damaged = damaged_here d out;
      named = sym (ap (option_map (λ (f : Entry). f.0)) here);
    }

-- the row is missing
pub tells_missing : (kept : Option Kept) (s : State) (key : List ℕ) (count : ℕ) (found : Option Row) (told : Option (List ℕ)) → IsLoaded s kept key count → IfSome kept (λ held. found ≡ row_after key held) → IfSome kept (λ held. count < finite.len held.rows) → found ≡ None → told ≡ None
    → IfSome kept (λ held. Tells held (count + 1) damage.Missing told)
tells_missing None s key count found told loaded gives within none unset = tt
tells_missing (Some held) s key count found told loaded gives within none unset =
    subst (Tells held (count + 1) damage.Missing) (sym unset) (by (find_first (is_behind key) (entries held.rows)) refl (sym none ∙ gives))
  where
    by : (o : Option Entry) → find_first (is_behind key) (entries held.rows) ≡ o → None ≡ option_map row_of_entry o → Tells held (count + 1) damage.Missing None
    by None is nothing = missing held s key count loaded.front loaded.valid within is
    by (Some e) is nothing = absurd (let h : None ≡ Some (row_of_entry e) = nothing in cc)

-- the row can't be taken
pub tells_hindered : (kept : Option Kept) (s : State) (key : List ℕ) (count : ℕ) (row : Row) (d : Damage) (told : Option (List ℕ)) → IsLoaded s kept key count → IfSome kept (λ held. Some row ≡ row_after key held) → IfSome kept (λ held. count < finite.len held.rows) → Hinders s key row d → told ≡ Some row.key
    → IfSome kept (λ held. Tells held (count + 1) d told)
tells_hindered None s key count row d told loaded gives within out is = tt
tells_hindered (Some held) s key count row d told loaded gives within out is =
    subst (Tells held (count + 1) d) (sym is)
    (by_next (Some held) key row (λ h. IsFront h s key count → count < finite.len h.rows → Tells h (count + 1) d (Some row.key)) gives (λ h e next same front more.
    subst (λ (k : List ℕ). Tells h (count + 1) d (Some k)) (sym (ap (λ (r : Row). r.key) same)) (told_here h s key count front loaded.valid more e next d (subst (λ r. Hinders s key r d) same out))) loaded.front within)

-- ---- faults that are passed on

-- no start ends because a row is one too many, where the keeper tells its rows
pub never_more : {T : Type 0} (r : Result T StartFault) (error : StartFault) (kept now : Option Kept) (s : State) (key : List ℕ) (count : ℕ) (P : ℕ → Damage → Kept → Type 0) → IsErrAnd r (λ found. found ≡ error) → now ≡ kept → IfDamaged error (λ row. IfSome now (HasRowBehind key))
    → IsLoaded s kept key count → IfSome kept (λ held. count ≡ finite.len held.rows) → IfErr r (λ fault. IfDamage fault (λ row d. IfSome kept (P row d)))
never_more (Ok x) error kept now s key count P is same more loaded full = tt
never_more (Err found) error kept now s key count P is same more loaded full = subst (λ fault. IfDamage fault (λ row d. IfSome kept (P row d))) (sym is) (by error (subst (λ k. IfDamaged error (λ row. IfSome k (HasRowBehind key))) same more))
  where
    by : (fault : StartFault) → IfDamaged fault (λ row. IfSome kept (HasRowBehind key)) → IfDamage fault (λ row d. IfSome kept (P row d))
    by KeeperFault given = tt
    by (Damaged row d) given = not_one_more kept s key count (P row d) loaded full given
    by NoMemory given = tt

-- what is damaged in what a keeper held before calls that succeeded, by the fault of the last one
pub damaged_on : {T : Type 0} (r : Result T StartFault) (error : StartFault) (kept now : Option Kept) (P : ℕ → Damage → Kept → Type 0) → IsErrAnd r (λ found. found ≡ error) → now ≡ kept → IfDamage error (λ row d. IfSome now (P row d)) → IfErr r (λ fault. IfDamage fault (λ row d. IfSome kept (P row d)))
damaged_on (Ok x) error kept now P is same given = tt
damaged_on (Err found) error kept now P is same given = subst (λ fault. IfDamage fault (λ row d. IfSome kept (P row d))) (sym is) (subst (λ k. IfDamage error (λ row d. IfSome k (P row d))) same given)

-- what holds where nothing is damaged
pub whole_on : {T : Type 0} (r : Result T StartFault) (error : StartFault) (P : Type 0) → IsErrAnd r (λ found. found ≡ error) → IfWhole error P → IfErr r (λ fault. IfWhole fault P)
whole_on (Ok x) error P is given = tt
whole_on (Err found) error P is given = subst (λ fault. IfWhole fault P) (sym is) given

-- ---- what a fault tells

pub first_told : (fault : StartFault) (kept : Option Kept) (key : Option (List ℕ)) → IfDamage fault (λ row d. IfSome kept (λ held. Tells held row d key)) → IfDamaged fault (λ row. IfSome kept (λ held. IsDamagedAt held row))
first_told KeeperFault kept key told = tt
first_told (Damaged row d) None key told = tt
first_told (Damaged row d) (Some held) key told = told.first
first_told NoMemory kept key told = tt

pub damage_told : (fault : StartFault) (kept : Option Kept) (key : Option (List ℕ)) → IfDamage fault (λ row d. IfSome kept (λ held. Tells held row d key)) → IfDamage fault (λ row d. IfSome kept (λ held. IsDamageOf held row d))
damage_told KeeperFault kept key told = tt
damage_told (Damaged row d) None key told = tt
damage_told (Damaged row d) (Some held) key told = told.damaged
damage_told NoMemory kept key told = tt

pub key_told : (fault : StartFault) (kept : Option Kept) (key : Option (List ℕ)) → IfDamage fault (λ row d. IfSome kept (λ held. Tells held row d key)) → IfDamaged fault (λ row. IfSome kept (λ held. key ≡ key_at held row))
key_told KeeperFault kept key told = tt
key_told (Damaged row d) None key told = tt
key_told (Damaged row d) (Some held) key told = told.named
key_told NoMemory kept key told = tt
