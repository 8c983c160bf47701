-- Where there is no place of another name.
--     none_another    entries of which none has another name
--     none_beside     what the index has no place for lies in no other namespace
use Rattle.std.proofs.Common.{◌≡◌, ℕ, Bool, true, false, cond, not, ◌||◌, Some, None, List, [], ◌∷◌, refl, sym, ap, ◌∙◌, true≢false}
use Rattle.std.specs.Prelude.{is_some}
use Rattle.std.specs.List.{list_any}
use Rattle.std.specs.Str.{bytes_eq}
use Rattle.std.proofs.lemmas.Slice.Eq.{bytes_eq-Decides}
use Rattle.hx_object.specs.declared.kind.Kind.{Kind}
use Rattle.hx_store.specs.ObjectTable.{IsSound, HasNoOther, found, is_of_another, objects_at, place_at}
use Rattle.hx_store.specs.Sources.{HasNoneBeside, indexed_in}
use Rattle.hx_store.specs.ByName.{IsIndex, entry_place}
use Rattle.hx_store.specs.declared.object_table.ObjectTable.{ObjectTable}
use Rattle.hx_store.specs.declared.by_name.ByName.{ByName}
use Rattle.hx_store.proofs.Edits.{none_from}
use Rattle.hx_store.proofs.Finding.{found_at, id_of}
use Rattle.hx_store.proofs.Least.{Entry, place_among}

neither : (a b : Bool) → (a || b) ≡ false → (a ≡ false) × (b ≡ false)
neither true b e = absurd (true≢false e)
neither false b e = (refl, e)

pub none_another : (name : List ℕ) (es : List Entry) → list_any (is_of_another name) es ≡ false → HasNoOther (place_among es) name
none_another name [] none q apart = refl
none_another name (e ∷ es) none q apart = by (none_another name es parts.1 q apart) (bytes_eq q e.0) refl
  where
    parts : (is_of_another name e ≡ false) × (list_any (is_of_another name) es ≡ false)
    parts = neither (is_of_another name e) (list_any (is_of_another name) es) none

    by : place_among es q ≡ None → (b : Bool) → bytes_eq q e.0 ≡ b → cond b (Some e.1) (place_among es q) ≡ None
    by rest true same = absurd (true≢false (sym (ap not (ap (bytes_eq name) (sym ((bytes_eq-Decides q e.0).0 same)) ∙ apart)) ∙ parts.0))
    by rest false other = rest

-- what the index has no place for lies in no other namespace
pub none_beside : (places : ObjectTable) (by_name : ByName) → IsSound places → IsIndex by_name places → (kind : Kind) (name ns : List ℕ) → HasNoOther (entry_place by_name kind name) ns → HasNoneBeside (objects_at places) kind name ns
none_beside places by_name sound index kind name ns none m apart = ap indexed_in (found_at places sound (id_of kind m name)) ∙ by (is_some (indexed_in (found (place_at places (id_of kind m name))))) refl
  where
    by : (b : Bool) → is_some (indexed_in (found (place_at places (id_of kind m name)))) ≡ b → indexed_in (found (place_at places (id_of kind m name))) ≡ None
    by true some = absurd (true≢false (sym (index.all (id_of kind m name) some) ∙ ap is_some (none m apart)))
    by false e = none_from (indexed_in (found (place_at places (id_of kind m name)))) e
