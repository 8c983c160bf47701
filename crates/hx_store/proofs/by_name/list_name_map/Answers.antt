use Rattle.std.proofs.Common.{◌≤◌, ◌++◌, length, arith}
use Rattle.std.specs.Prelude.{option_copied}
use Rattle.hx_store.specs.ObjectTable.{entries_of, of_place}
use Rattle.hx_store.specs.ByName.{indexed_among, indexed_at}
use Rattle.hx_store.proofs.Named.{all_listed, more_listed}
use Rattle.hx_store.proofs.by_name.list_name_map.Goals as goal

pub loop-index-preserved : goal.loop-index-preserved
loop-index-preserved c =
    let es = entries_of c.args.name_map.now in
    more_listed (λ ns. of_place (indexed_at c.args.places.now c.args.kind c.args.name.now ns)) es c.loop-index.index (option_copied c.name_at.result) c.loop-index.listed.items c.list_in.new.listed.items
    (c.args.listed.now.items ++ indexed_among c.args.places.now c.args.kind c.args.name.now es) c.name_at.ensures c.in_ok-list_in.ensures c.loop-index.invariant

pub returns : goal.returns
returns c =
    let es = entries_of c.args.name_map.now in
    let past : length es ≤ c.loop-index.index = omega (arith, c.len-index-end.ensures, c.loop-index-test.false) in
    all_listed (λ ns. of_place (indexed_at c.args.places.now c.args.kind c.args.name.now ns)) es c.loop-index.index c.loop-index.listed.items
    (c.args.listed.now.items ++ indexed_among c.args.places.now c.args.kind c.args.name.now es) past c.loop-index.invariant
