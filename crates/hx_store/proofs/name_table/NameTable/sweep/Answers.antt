use Rattle.std.proofs.Common.{◌≡◌, Some, ap, false, refl, slice_get, subst, swap_remove, sym, ◌∙◌}
use Rattle.std.specs.Prelude.{IfSome, is_some, option_copied}
use Rattle.std.specs.Map.{keys_of}
use Rattle.indexmap.specs.IndexSet.{Updates}
use Rattle.hx_store.specs.Least.{Descends}
use Rattle.hx_store.specs.ObjectTable.{place_on, swept}
use Rattle.hx_store.specs.Slots.{Entry, same_name}
use Rattle.hx_store.proofs.Edits.{stay_edits}
use Rattle.hx_store.proofs.Shown.{distinct_shown, missing, slot_at, swept_edits, swept_there, taken_away, taken_behind}
use Rattle.hx_store.proofs.name_table.NameTable.sweep.Goals as goal

pub returns-in_default-clause-places : goal.returns-in_default-clause-places
returns-in_default-clause-places c =
    let name_table = c.args.self.now in
    let none = missing name_table.shown name_table.places.keys c.args.name.now (sym c.get_index_of.ensures.found ∙ ap is_some c.in_default.is) in
    stay_edits swept (place_on name_table) (place_on name_table) c.args.name.now (λ q. refl) (ap swept none ∙ sym none)

pub returns-in-Some-object_at-clause-places : goal.returns-in-Some-object_at-clause-places
returns-in-Some-object_at-clause-places c =
    let name_table = c.args.self.now in
    let there = ap option_copied (sym c.in-Some-object_at.is) ∙ c.object_at.ensures c.args.name.now c.in-Some.ensures.index in
    stay_edits swept (place_on name_table) (place_on name_table) c.args.name.now (λ q. refl) (swept_there (place_on name_table c.args.name.now) c.in-Some-object_at._object.now there)

slot : (c : goal.Joined-slot) → (e : Entry) × (slice_get c.args.self.now.places.keys c.in-Some.index ≡ Some e) × (c.args.name.now ≡ e.0)
slot c = slot_at c.args.self.now.places.keys c.args.name.now c.in-Some.index c.in-Some.ensures.index

here : (c : goal.Joined-slot) → slice_get c.hide-index.new.self.places.keys c.hide-index.result ≡ Some (slot c).0
here c = c.hide-index.ensures.at ∙ (slot c).1

left : (c : goal.Joined-slot) → c.swap_remove_index-slot.new.self.keys ≡ swap_remove c.hide-index.new.self.places.keys c.hide-index.result (slot c).0
left c =
    subst (λ o. IfSome o (λ e. c.swap_remove_index-slot.new.self.keys ≡ swap_remove c.hide-index.new.self.places.keys c.hide-index.result e)) (c.swap_remove_index-slot.ensures.key ∙ here c) c.swap_remove_index-slot.ensures.keys

pub returns-clause-name_table : goal.returns-clause-name_table
returns-clause-name_table c = λ name_table.
    let hidden = c.hide-index.new.self in
    let es = hidden.places.keys in
    let fs = c.swap_remove_index-slot.new.self.keys in (
      distinct_shown hidden.shown fs c.swap_remove_index-slot.ensures.unique,
      λ t. subst (λ l. Descends (keys_of l)) (sym (taken_behind hidden.shown c.hide-index.result es (slot c).0 c.hide-index.ensures.unique c.hide-index.ensures.behind (here c) fs (left c))) ((c.hide-index.ensures.name_table name_table).1 t),
    )

pub returns-clause-places : goal.returns-clause-places
returns-clause-places c =
    let hidden = c.hide-index.new.self in
    let e = (slot c).0 in
    let nothing = ap option_copied (sym c.in_default-object_at.is) ∙ c.object_at.ensures c.args.name.now c.in-Some.ensures.index in
    let updates = subst (λ o. IfSome o (λ x. Updates same_name hidden.places c.swap_remove_index-slot.new.self x false)) (c.swap_remove_index-slot.ensures.key ∙ here c) c.swap_remove_index-slot.ensures.updates in
    swept_edits (place_on c.args.self.now) (place_on hidden) (place_on (record { places = c.swap_remove_index-slot.new.self; shown = hidden.shown; descends = hidden.descends })) c.args.name.now e (slot c).2 nothing
    (c.hide-index.ensures.places e (slot c).1)
    (taken_away hidden.shown c.hide-index.result hidden.places.keys e c.hide-index.ensures.unique c.hide-index.ensures.behind (here c) c.swap_remove_index-slot.new.self.keys (left c) updates.1 updates.2)
