use Rattle.std.proofs.Common.{refl, sym, ap, ◌∙◌}
use Rattle.std.specs.Prelude.{slice_set}
use Rattle.std.specs.Vec.{with_item}
use Rattle.hx_store.specs.ObjectTable.{filled, place_along}
use Rattle.hx_store.proofs.Along.{write_edits, write_distinct, missing}
use Rattle.hx_store.proofs.Edits.{stay_edits}
use Rattle.hx_store.proofs.name_list.NameList.fill.Goals as goal

pub returns-in-Some-clause-name_list : goal.returns-in-Some-clause-name_list
returns-in-Some-clause-name_list c =
    let es = c.args.self.now.places.items in
    let d = c.index_mut.result.now in
    write_distinct c.args.name.now es (with_item c.args.self.now.places c.in-Some.index (d.0, c.args.object)).items c.in-Some.index d c.args.object (sym c.index_of.ensures ∙ c.in-Some.is)
    (ap (λ n. slice_set es c.in-Some.index (n, c.args.object)) (ap (λ e. e.0) c.index_mut.ensures.value))

pub returns-in-Some-clause-places : goal.returns-in-Some-clause-places
returns-in-Some-clause-places c =
    let es = c.args.self.now.places.items in
    let d = c.index_mut.result.now in
    write_edits c.args.name.now es (with_item c.args.self.now.places c.in-Some.index (d.0, c.args.object)).items c.in-Some.index d c.args.object (sym c.index_of.ensures ∙ c.in-Some.is)
    (ap (λ n. slice_set es c.in-Some.index (n, c.args.object)) (ap (λ e. e.0) c.index_mut.ensures.value))

pub returns-in-None-clause-places : goal.returns-in-None-clause-places
returns-in-None-clause-places c =
    let none = missing c.args.name.now c.args.self.now.places.items (sym c.index_of.ensures ∙ c.in-None.is) in
    stay_edits (filled c.args.object) (place_along c.args.self.now) (place_along c.args.self.now) c.args.name.now (λ q. refl) (ap (filled c.args.object) none ∙ sym none)
