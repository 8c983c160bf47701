use Rattle.std.proofs.Common.{◌≡◌, Some, [], sym, ap, subst, ◌∙◌}
use Rattle.std.specs.Option.{option_copied_mut}
use Rattle.hx_store.specs.declared.kind_table.KindTable.{KindTable}
use Rattle.hx_store.specs.ObjectTable.{unchanged, name_map_in, IsKindTable}
use Rattle.hx_store.proofs.Edits.{stay_name_map, stay_full, stay_kind_table, written_edits, written_full}
use Rattle.hx_store.proofs.kind_table.KindTable.sort.Goals as goal

there : (c : goal.After-self-in-Some-1) → name_map_in c.args.self.now c.args.ns.now ≡ Some c.in-Some.name_map.now
there c = sym c.get_mut.ensures.value ∙ ap option_copied_mut c.in-Some.is

pub returns-in-Some-clause-kind_table : goal.returns-in-Some-clause-kind_table
returns-in-Some-clause-kind_table c = written_full c.args.self.now (record { namespaces = c.get_mut.follows.lender c.sort.new.self }) c.args.ns.now c.in-Some.name_map.now c.sort.new.self
    (there c) (c.get_mut.follows.holds c.sort.new.self) c.sort.ensures.name_map (stay_full c.in-Some.name_map.now c.sort.new.self c.sort.ensures.places)

pub returns-in-Some-clause-places : goal.returns-in-Some-clause-places
returns-in-Some-clause-places c =
    let new : KindTable = record { namespaces = c.get_mut.follows.lender c.sort.new.self } in
    stay_kind_table c.args.self.now new c.args.ns.now []
    (written_edits c.args.self.now new c.args.ns.now unchanged [] c.in-Some.name_map.now c.sort.new.self (there c) (c.get_mut.follows.holds c.sort.new.self) (stay_name_map c.in-Some.name_map.now c.sort.new.self [] c.sort.ensures.places))

pub returns-in_default-clause-kind_table : goal.returns-in_default-clause-kind_table
returns-in_default-clause-kind_table c sound = subst (λ m. IsKindTable (record { namespaces = m })) (sym c.get_mut.follows.holds-at-none) sound
