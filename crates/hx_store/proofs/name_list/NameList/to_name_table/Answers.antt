use Rattle.std.proofs.Common.{◌≡◌, ◌≤◌, List, ℕ, cond, length, rules, ap, ◌∙◌}
use Rattle.std.specs.Str.{bytes_eq}
use Rattle.hx_store.specs.ObjectTable.{added, place_on}
use Rattle.hx_store.proofs.Along.{next_place, all_added}
use Rattle.hx_store.proofs.name_list.NameList.to_name_table.Goals as goal

pub loop-name-preserved : goal.loop-name-preserved
loop-name-preserved c = (
  c.add.ensures.name_table c.loop-name.invariant.0,
  λ q.
      let x = c.loop-name-item.result in
      let old = place_on c.loop-name.name_table in
      let edits : (m : List ℕ) → place_on c.add.new.self m ≡ cond (bytes_eq x.0 m) (added x.1 (old m)) (old m) =
      λ m. c.in_ok-add.ensures.places m ∙ ap (λ n. cond (bytes_eq n m) (added c.in_ok-share.field-0 (old m)) (old m)) c.as_str.ensures.value ∙ ap (λ p. cond (bytes_eq x.0 m) (added p (old m)) (old m)) c.in_ok-share.ensures in
      next_place c.args.self.now.places.items c.loop-name.name-index x old (place_on c.add.new.self) (search rules) (search rules) edits q (c.loop-name.invariant.1 q),
)

pub returns-clause-places : goal.returns-clause-places
returns-clause-places c q =
    let past : length c.args.self.now.places.items ≤ c.loop-name.name-index = search rules in
    all_added c.args.self.now.places.items c.loop-name.name-index (place_on c.loop-name.name_table q) q past (c.loop-name.invariant.1 q)
