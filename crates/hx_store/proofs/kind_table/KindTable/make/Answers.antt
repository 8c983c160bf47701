use Rattle.std.proofs.Common.{◌≡◌, Some, sym, ap, subst, ◌∙◌}
use Rattle.std.specs.Option.{option_copied_mut}
use Rattle.hx_store.specs.declared.kind_table.KindTable.{KindTable}
use Rattle.hx_store.specs.ObjectTable.{made, unchanged, name_map_in, IsKindTable}
use Rattle.hx_store.proofs.Edits.{either_way, make_full, written_edits, written_full}
use Rattle.hx_store.proofs.kind_table.KindTable.make.Goals as goal

there : (c : goal.After-self-in-Some-1) → name_map_in c.args.self.now c.args.ns.now ≡ Some c.in-Some.name_map.now
there c = sym c.get_mut.ensures.value ∙ ap option_copied_mut c.in-Some.is

pub returns-in-Some-clause-kind_table : goal.returns-in-Some-clause-kind_table
returns-in-Some-clause-kind_table c = written_full c.args.self.now (record { namespaces = c.get_mut.follows.lender c.make.new.self }) c.args.ns.now c.in-Some.name_map.now c.make.new.self
    (there c) (c.get_mut.follows.holds c.make.new.self) c.make.ensures.name_map
    (make_full c.in-Some.name_map.now c.make.new.self c.args.name.now c.make.result c.make.ensures.places)

pub returns-in-Some-clause-places : goal.returns-in-Some-clause-places
returns-in-Some-clause-places c =
    let new : KindTable = record { namespaces = c.get_mut.follows.lender c.make.new.self } in
    let writes = c.get_mut.follows.holds c.make.new.self in
    either_way c.make.result c.make.ensures.places
    (written_edits c.args.self.now new c.args.ns.now made c.args.name.now c.in-Some.name_map.now c.make.new.self (there c) writes)
    (written_edits c.args.self.now new c.args.ns.now unchanged c.args.name.now c.in-Some.name_map.now c.make.new.self (there c) writes)

pub returns-in-None-clause-kind_table : goal.returns-in-None-clause-kind_table
returns-in-None-clause-kind_table c sound = c.add.ensures.kind_table (subst (λ m. IsKindTable (record { namespaces = m })) (sym c.get_mut.follows.holds-at-none) sound)
