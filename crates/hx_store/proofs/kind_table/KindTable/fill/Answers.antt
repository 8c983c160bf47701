use Rattle.std.proofs.Common.{◌≡◌, Some, sym, ap, subst, ◌∙◌}
use Rattle.std.specs.Option.{option_copied_mut}
use Rattle.hx_store.specs.ObjectTable.{filled, name_map_in, IsKindTable}
use Rattle.hx_store.proofs.Edits.{filled_keeps, full_edits, written_edits, written_full}
use Rattle.hx_store.proofs.kind_table.KindTable.fill.Goals as goal

there : (c : goal.After-self-in-Some-1) → name_map_in c.args.self.now c.args.ns.now ≡ Some c.in-Some.name_map.now
there c = sym c.get_mut.ensures.value ∙ ap option_copied_mut c.in-Some.is

pub returns-in-Some-clause-kind_table : goal.returns-in-Some-clause-kind_table
returns-in-Some-clause-kind_table c = written_full c.args.self.now (record { namespaces = c.get_mut.follows.lender c.fill.new.self }) c.args.ns.now c.in-Some.name_map.now c.fill.new.self
    (there c) (c.get_mut.follows.holds c.fill.new.self) c.fill.ensures.name_map
    (full_edits (filled c.args.object) c.in-Some.name_map.now c.fill.new.self c.args.name.now c.fill.ensures.places (filled_keeps c.args.object))

pub returns-in-Some-clause-places : goal.returns-in-Some-clause-places
returns-in-Some-clause-places c = written_edits c.args.self.now (record { namespaces = c.get_mut.follows.lender c.fill.new.self }) c.args.ns.now (filled c.args.object) c.args.name.now c.in-Some.name_map.now c.fill.new.self
    (there c) (c.get_mut.follows.holds c.fill.new.self) c.fill.ensures.places

pub returns-in-None-clause-kind_table : goal.returns-in-None-clause-kind_table
returns-in-None-clause-kind_table c sound = subst (λ m. IsKindTable (record { namespaces = m })) (sym c.get_mut.follows.holds-at-none) sound
