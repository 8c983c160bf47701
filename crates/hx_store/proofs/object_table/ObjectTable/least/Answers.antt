use Rattle.std.proofs.Common.{get_or, subst, arith}
use Rattle.std.specs.Prelude.{option_copied}
use Rattle.std.proofs.lemmas.Option.{slice_get-get_or}
use Rattle.hx_store.specs.Least.{IsLeast}
use Rattle.hx_store.specs.ObjectTable.{found, place_of}
use Rattle.hx_store.proofs.InNamespace.{kind_gives, more_none, none_lies}
use Rattle.hx_store.proofs.object_table.ObjectTable.least.Goals as goal

pub loop-index-init : goal.loop-index-init
loop-index-init c sound i third less = absurd (omega (arith, third, less))

pub returns-in-Some : goal.returns-in-Some
returns-in-Some c sound =
    let places = c.args.self.now in
    let ns = c.args.ns.now in
    let i = c.loop-index.index in
    let s = get_or places.kinds i c.index-self-index.result in
    let at = slice_get-get_or places.kinds i c.index-self-index.result (omega (arith, sound.distinct.0, c.loop-index-test.true)) in
    kind_gives places sound ns i s c.in-Some.object.now c.loop-index.auto.index at (c.loop-index.invariant sound)
    (subst (λ o. IsLeast (λ name. found (place_of s ns name)) (option_copied o)) c.in-Some.is (c.least.ensures (sound.distinct.1 i s at)))

pub loop-index-preserved : goal.loop-index-preserved
loop-index-preserved c sound =
    let places = c.args.self.now in
    let ns = c.args.ns.now in
    let i = c.loop-index.index in
    let s = get_or places.kinds i c.index-self-index.result in
    let at = slice_get-get_or places.kinds i c.index-self-index.result (omega (arith, sound.distinct.0, c.loop-index-test.true)) in
    more_none places sound ns i s at (c.loop-index.invariant sound)
    (subst (λ o. IsLeast (λ name. found (place_of s ns name)) (option_copied o)) c.in_default.is (c.least.ensures (sound.distinct.1 i s at)))

pub returns : goal.returns
returns c sound = none_lies c.args.self.now sound c.args.ns.now (λ i third less. c.loop-index.invariant sound i third (omega (arith, less, c.loop-index-test.false)))
