-- The index of sources and anchors, as writes change it with the objects.
use Rattle.std.proofs.Common.{◌≡◌, ◌==◌, ℕ, Bool, true, false, cond, ◌&&◌, Option, Some, None, List, [], length, refl, sym, ap, subst, ◌∙◌, true≢false}
use Rattle.std.specs.Prelude.{is_some, IsSome, Result, Ok, Err, MatchResult, OnOk, slice_get}
use Rattle.std.specs.Str.{bytes_eq}
use Rattle.hx_object.specs.Kinds.{number_of}
use Rattle.hx_object.specs.declared.object.Id.{Id}
use Rattle.hx_object.specs.declared.object.Object.{Object}
use Rattle.hx_model.specs.State.{same_id}
use Rattle.hx_model.specs.declared.key.Write.{Write}
use Rattle.hx_model.specs.declared.key.Write.TheVariants.{Put, Cut}
use Rattle.hx_model.proofs.Objects.{is_same_id}
use Rattle.hx_store.specs.Changes.{id_of, object_of}
use Rattle.hx_store.specs.ObjectTable.{Place, IsObjectTable, HasSame, EditsObjectTable, found, filled, made, swept, unchanged, place_at}
use Rattle.hx_store.specs.Sources.{is_indexed, indexed_in}
use Rattle.hx_store.specs.ByName.{HasEntry, HasEntries, IsIndex, KeepsEntries, turned_places, turned}
use Rattle.hx_store.specs.declared.object_table.ObjectTable.{ObjectTable}
use Rattle.hx_store.specs.declared.kind_table.KindTable.{KindTable}
use Rattle.hx_store.specs.declared.by_name.ByName.{ByName}
use Rattle.hx_store.proofs.Edits.{made_keeps}
use Rattle.hx_store.proofs.Writing.{empty_sound, none_placed, kept_by, here, made_some}

-- ---- where the same is found

pub index_places : (by_name : ByName) (old new : ObjectTable) → HasSame old new → IsIndex by_name old → IsIndex by_name new
index_places by_name old new same index = record { distinct = index.distinct; all = λ id some. index.all id (ap (λ o. is_some (indexed_in o)) (sym (same id)) ∙ some) }

-- ---- edits of the index that take no place away

module _ (g : Place → Place) (keeps : (p : Place) → IsSome p → IsSome (g p)) (old new : ByName) (id : Id) (edits : EditsObjectTable g (turned_places old) (turned_places new) id) where
  entries_kept : KeepsEntries old new
  entries_kept (Put x) there = λ indexed. kept_by g (turned_places old) (turned_places new) id edits keeps (turned x.id) (there indexed)
  entries_kept (Cut _) there = tt

  index_kept : (places : ObjectTable) → IsObjectTable (turned_places new) → IsIndex old places → IsIndex new places
  index_kept places distinct index = record { distinct = distinct; all = λ q some. kept_by g (turned_places old) (turned_places new) id edits keeps (turned q) (index.all q some) }

-- ---- what making a place ensures

pub add_index : {X Y : Type 0} (old new : ByName) (places : ObjectTable) (id : Id) (r : Result X Y) → (IsObjectTable (turned_places old) → IsObjectTable (turned_places new))
    → MatchResult r (λ _. EditsObjectTable made (turned_places old) (turned_places new) id) (λ _. EditsObjectTable unchanged (turned_places old) (turned_places new) id) → IsIndex old places → IsIndex new places
add_index old new places id (Ok _) distinct edits index = index_kept made made_keeps old new id edits places (distinct index.distinct) index
add_index old new places id (Err _) distinct edits index = index_kept unchanged (λ p some. some) old new id edits places (distinct index.distinct) index

pub add_kept : {X Y : Type 0} (old new : ByName) (id : Id) (r : Result X Y) → MatchResult r (λ _. EditsObjectTable made (turned_places old) (turned_places new) id) (λ _. EditsObjectTable unchanged (turned_places old) (turned_places new) id) → KeepsEntries old new
add_kept old new id (Ok _) edits = entries_kept made made_keeps old new id edits
add_kept old new id (Err _) edits = entries_kept unchanged (λ p some. some) old new id edits

entry_there : (old new : ByName) (w : Write) → EditsObjectTable made (turned_places old) (turned_places new) (turned (id_of w)) → HasEntry new w
entry_there old new (Put x) edits = λ indexed. subst IsSome (sym (here made (turned_places old) (turned_places new) (turned x.id) edits)) (made_some (place_at (turned_places old) (turned x.id)))
entry_there old new (Cut id) edits = tt

pub add_there : {X Y : Type 0} (old new : ByName) (w : Write) (id : Id) (r : Result X Y) → id ≡ id_of w → MatchResult r (λ _. EditsObjectTable made (turned_places old) (turned_places new) (turned id)) (λ _. EditsObjectTable unchanged (turned_places old) (turned_places new) (turned id)) → OnOk r (HasEntry new w)
add_there old new w id (Ok _) same edits = entry_there old new w (subst (λ i. EditsObjectTable made (turned_places old) (turned_places new) (turned i)) same edits)
add_there old new w id (Err _) same edits = tt

-- where a source or an anchor lies, the index has its place
pub entry_known : (by_name : ByName) (places : ObjectTable) (w : Write) (id : Id) → IsIndex by_name places → id ≡ id_of w → is_some (indexed_in (found (place_at places id))) ≡ true → HasEntry by_name w
entry_known by_name places (Put x) id index same some = λ _. index.all x.id (ap (λ i. is_some (indexed_in (found (place_at places i)))) (sym same) ∙ some)
entry_known by_name places (Cut _) id index same some = tt

-- ---- a write

indexed_from : (b : Bool) (x : Object) → is_some (cond {A = Option Object} b (Some x) None) ≡ true → b ≡ true
indexed_from true x some = refl
indexed_from false x some = absurd (true≢false (sym some))

-- what a write leaves in a place has its place in the index
put_there : (by_name : ByName) (w : Write) (p : Place) → HasEntry by_name w → is_some (indexed_in (found (filled (object_of w) p))) ≡ true → IsSome (place_at (turned_places by_name) (turned (id_of w)))
put_there by_name (Put x) None awaited some = absurd (true≢false (sym some))
put_there by_name (Put x) (Some _) awaited some = awaited (indexed_from (is_indexed x) x some)
put_there by_name (Cut id) None awaited some = absurd (true≢false (sym some))
put_there by_name (Cut id) (Some _) awaited some = absurd (true≢false (sym some))

pub index_write : (by_name : ByName) (old new : ObjectTable) (w : Write) → EditsObjectTable (filled (object_of w)) old new (id_of w) → IsIndex by_name old → HasEntry by_name w → IsIndex by_name new
index_write by_name old new w edits index awaited = record {
  distinct = index.distinct;
  all = λ q some. by q (same_id (id_of w) q) refl (ap (λ p. is_some (indexed_in (found p))) (sym (edits q)) ∙ some);
}
  where
    by : (q : Id) (b : Bool) → same_id (id_of w) q ≡ b → is_some (indexed_in (found (cond b (filled (object_of w) (place_at old q)) (place_at old q)))) ≡ true → IsSome (place_at (turned_places by_name) (turned q))
    by q true same some = subst (λ (i : Id). IsSome (place_at (turned_places by_name) (turned i))) (is_same_id (id_of w) q same) (put_there by_name w (place_at old q) awaited some)
    by q false other some = index.all q some

-- ---- a sweep

and_turned : (a b c : Bool) → (a && b && c) ≡ (a && c && b)
and_turned false b c = refl
and_turned true false false = refl
and_turned true false true = refl
and_turned true true false = refl
and_turned true true true = refl

-- identities are one where they are so turned
pub same_turned : (a b : Id) → same_id (turned a) (turned b) ≡ same_id a b
same_turned a b = and_turned (number_of a.kind == number_of b.kind) (bytes_eq a.name b.name) (bytes_eq a.ns b.ns)

-- where no source and no anchor lies, a place may go
pub index_sweep : (old new : ByName) (places : ObjectTable) (id : Id) → is_some (indexed_in (found (place_at places id))) ≡ false → (IsObjectTable (turned_places old) → IsObjectTable (turned_places new)) → EditsObjectTable swept (turned_places old) (turned_places new) (turned id)
    → IsIndex old places → IsIndex new places
index_sweep old new places id none distinct edits index = record { distinct = distinct index.distinct; all = λ q some. by q (same_id id q) refl some }
  where
    by : (q : Id) (b : Bool) → same_id id q ≡ b → is_some (indexed_in (found (place_at places q))) ≡ true → IsSome (place_at (turned_places new) (turned q))
    by q true same some = absurd (true≢false (sym some ∙ ap (λ i. is_some (indexed_in (found (place_at places i)))) (sym (is_same_id id q same)) ∙ none))
    by q false other some =
        ap is_some (edits (turned q) ∙ ap (λ b. cond b (swept (place_at (turned_places old) (turned q))) (place_at (turned_places old) (turned q))) (same_turned id q ∙ other))
        ∙ index.all q some

-- ---- a store without objects, or without staged writes

pub empty_index : (places : ObjectTable) (by_name : ByName) → length places.kinds ≡ 14 → ((i : ℕ) (kind_table : KindTable) → slice_get places.kinds i ≡ Some kind_table → kind_table.namespaces.entries ≡ [])
    → length by_name.kinds ≡ 14 → ((i : ℕ) (kind_table : KindTable) → slice_get by_name.kinds i ≡ Some kind_table → kind_table.namespaces.entries ≡ []) → IsIndex by_name places
empty_index places by_name long empty long_too empty_too = record {
  distinct = (empty_sound (turned_places by_name) long_too empty_too).distinct;
  all = λ id some. absurd (true≢false (sym some ∙ ap (λ p. is_some (indexed_in (found p))) (none_placed places long empty id)));
}

pub none_staged : (by_name : ByName) (ws : List Write) → ws ≡ [] → HasEntries by_name ws
none_staged by_name ws none i w e = absurd (true≢false (sym (ap is_some (sym (ap (λ l. slice_get l i) none) ∙ e))))
