use Rattle.std.proofs.Common.{◌≡◌, None, Some, sym, ap, subst, ◌∙◌, true≢false}
use Rattle.std.specs.Option.{option_copied_mut}
use Rattle.hx_store.specs.ObjectTable.{swept, name_map_in, IsKindTable}
use Rattle.hx_store.proofs.Edits.{is_kind_table, written_edits, written_but, written_full}
use Rattle.hx_store.proofs.kind_table.KindTable.sweep.Goals as goal

pub returns-then-is_empty-clause-kind_table : goal.returns-then-is_empty-clause-kind_table
returns-then-is_empty-clause-kind_table c sound =
    let there : name_map_in c.args.self.now c.args.ns.now ≡ Some c.in-Some.name_map.now = sym c.get_mut.ensures.value ∙ ap option_copied_mut c.in-Some.is in
    is_kind_table (record { namespaces = c.get_mut.follows.lender c.sweep.new.self }) (record { namespaces = c.swap_remove-name_map.new.self }) c.args.ns.now None c.swap_remove-name_map.ensures.updates.0 c.swap_remove-name_map.ensures.unique tt
    (written_but c.args.self.now (record { namespaces = c.get_mut.follows.lender c.sweep.new.self }) c.args.ns.now c.in-Some.name_map.now c.sweep.new.self
    there (c.get_mut.follows.holds c.sweep.new.self) c.sweep.ensures.name_map sound)

pub returns-else-is_empty-clause-kind_table : goal.returns-else-is_empty-clause-kind_table
returns-else-is_empty-clause-kind_table c =
    let there : name_map_in c.args.self.now c.args.ns.now ≡ Some c.in-Some.name_map.now = sym c.get_mut.ensures.value ∙ ap option_copied_mut c.in-Some.is in
    written_full c.args.self.now (record { namespaces = c.get_mut.follows.lender c.sweep.new.self }) c.args.ns.now c.in-Some.name_map.now c.sweep.new.self
    there (c.get_mut.follows.holds c.sweep.new.self) c.sweep.ensures.name_map (λ _ none. true≢false (sym (c.is_empty.ensures.1 none) ∙ c.if-is_empty.false))

pub returns-else-is_empty-clause-places : goal.returns-else-is_empty-clause-places
returns-else-is_empty-clause-places c =
    let there : name_map_in c.args.self.now c.args.ns.now ≡ Some c.in-Some.name_map.now = sym c.get_mut.ensures.value ∙ ap option_copied_mut c.in-Some.is in
    written_edits c.args.self.now (record { namespaces = c.get_mut.follows.lender c.sweep.new.self }) c.args.ns.now swept c.args.name.now c.in-Some.name_map.now c.sweep.new.self
    there (c.get_mut.follows.holds c.sweep.new.self) c.sweep.ensures.places

pub returns-in_default-clause-kind_table : goal.returns-in_default-clause-kind_table
returns-in_default-clause-kind_table c sound = subst (λ m. IsKindTable (record { namespaces = m })) (sym c.get_mut.follows.holds-at-none) sound
