use Rattle.std.proofs.Common.{◌≡◌, List, ℕ, Some, cond, ap, ◌∙◌}
use Rattle.std.specs.Str.{bytes_eq}
use Rattle.hx_store.specs.ObjectTable.{name_map_in}
use Rattle.hx_store.proofs.Edits.{all_but, new_edits, new_full, is_kind_table, same_kind_table}
use Rattle.hx_store.proofs.kind_table.KindTable.add.Goals as goal

looks : (c : goal.Joined-none) → (q : List ℕ) → name_map_in (record { namespaces = c.insert.new.self }) q ≡ cond (bytes_eq c.args.ns.now q) (Some c.in_ok-name_map.name_map) (name_map_in c.args.self.now q)
looks c q =
    c.in_ok-_none.ensures.updates.0 q
    ∙ ap (λ n. cond (bytes_eq n q) (Some c.in_ok-name_map.name_map) (name_map_in c.args.self.now q)) c.in_ok-of.ensures

pub returns-clause-kind_table : goal.returns-clause-kind_table
returns-clause-kind_table c sound = is_kind_table c.args.self.now (record { namespaces = c.insert.new.self }) c.args.ns.now (Some c.in_ok-name_map.name_map) (looks c) c.insert.ensures.unique
    (c.in_ok-name_map.ensures.name_map, new_full c.args.name.now c.in_ok-name_map.name_map c.in_ok-name_map.ensures.places) (all_but c.args.self.now c.args.ns.now sound)

pub returns-clause-places : goal.returns-clause-places
returns-clause-places c = new_edits c.args.self.now (record { namespaces = c.insert.new.self }) c.args.ns.now c.in_ok-name_map.name_map c.args.name.now c.requires (looks c) c.in_ok-name_map.ensures.places

pub returns-in_err-_none-clause-kind_table : goal.returns-in_err-_none-clause-kind_table
returns-in_err-_none-clause-kind_table c = same_kind_table c.args.self.now (record { namespaces = c.insert.new.self }) c.in_err-_none.ensures.err
