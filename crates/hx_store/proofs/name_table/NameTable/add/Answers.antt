use Rattle.std.proofs.Common.{sym, ap, ◌∙◌, refl, true≢false}
use Rattle.std.specs.List.{position_or_len}
use Rattle.indexmap.specs.IndexSet.{insert_key}
use Rattle.hx_store.specs.ObjectTable.{place_on, added}
use Rattle.hx_store.specs.Slots.{Entry, same_name}
use Rattle.hx_store.proofs.Edits.{stay_edits}
use Rattle.hx_store.proofs.Shown.{added_there, distinct_shown, pushed_edits, there_shown}
use Rattle.hx_store.proofs.name_table.NameTable.add.Goals as goal

pub returns-then-contains-clause-places : goal.returns-then-contains-clause-places
returns-then-contains-clause-places c =
    let name_table = c.args.self.now in
    let there = there_shown name_table.shown name_table.places.keys c.args.name.now ∙ sym c.contains.ensures ∙ c.if-contains.true in
    stay_edits (added c.args.place) (place_on name_table) (place_on name_table) c.args.name.now (λ q. refl) (added_there c.args.place (place_on name_table c.args.name.now) there)

pub returns-clause-name_table : goal.returns-clause-name_table
returns-clause-name_table c = λ _. c.show.ensures.name_table (distinct_shown c.args.self.now.shown c.insert_full.new.self.keys c.insert_full.ensures.unique, λ t. absurd (true≢false (sym t)))

pub returns-clause-places : goal.returns-clause-places
returns-clause-places c =
    let name_table = c.args.self.now in
    let es = name_table.places.keys in
    pushed_edits name_table.shown es c.insert_full.new.self.keys (c.args.name.now, c.args.place) c.in_ok-index.index (place_on c.show.new.self) (sym c.contains.ensures ∙ c.if-contains.false)
    (c.in_ok-index.ensures.keys ∙ ap (insert_key same_name es) c.in_ok-slot.ensures) (c.in_ok-index.ensures.index ∙ ap (λ (e : Entry). position_or_len (same_name e) es) c.in_ok-slot.ensures) c.show.ensures.places
