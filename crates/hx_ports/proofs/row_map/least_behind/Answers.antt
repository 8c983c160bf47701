use Rattle.std.proofs.Common.{◌∙◌, ◌++◌, ◌∷◌, [], ap, sym, map, option_copied}
use Rattle.std.proofs.lemmas.List.{map-append}
use Rattle.std.specs.FinMap.{entries, from_entries}
use Rattle.std.specs.Map.Iter.{deref}
use Rattle.std.specs.Prelude.{find as find_first}
use Rattle.hx_object.specs.Texts.{bytes_cmp}
use Rattle.hx_ports.specs.Rows.{lies_behind}
use Rattle.hx_ports.proofs.Unordered.{least-step, none_walked, parts-step}
use Rattle.hx_ports.proofs.row_map.least_behind.Goals as goal

pub loop-row-init : goal.loop-row-init
loop-row-init c = record { parts = c.into_iter-row-iterator.ensures.into_iter_gives ∙ c.iter-row-items.ensures.rest; least = none_walked c.args.after.now }

pub loop-row-preserved : goal.loop-row-preserved
loop-row-preserved c = record {
  parts =
      let walked = map deref c.loop-row.yielded in
      let is = map-append deref c.loop-row.yielded (c.in-Some.row ∷ []) in
      parts-step walked _ c.loop-row.row-iterator c.next.new.self c.args.held.now.keys c.in-Some.row.now is c.in-Some.ensures.steps c.loop-row.invariant.parts;
  least =
      let walked = map deref c.loop-row.yielded in
      let is = map-append deref c.loop-row.yielded (c.in-Some.row ∷ []) in
      let there = ap (λ l. walked ++ l) (sym c.in-Some.ensures.steps) ∙ c.loop-row.invariant.parts in
      c.nearer-least.ensures
      ∙ least-step c.args.after.now walked c.next.new.self c.args.held.now.keys c.in-Some.row.now (option_copied c.loop-row.least) there c.iter-row-items.ensures.unique c.loop-row.invariant.least
      ∙ ap (λ l. find_first (lies_behind c.args.after.now) (entries (from_entries {R = bytes_cmp} l))) (sym is);
}
