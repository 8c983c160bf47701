use Rattle.std.proofs.Common.{◌≡◌, true, false, rules, sym, ap, ◌∙◌, true≢false}
use Rattle.std.specs.Prelude.{is_some}
use Rattle.hx_store.specs.ObjectTable.{found, place_at}
use Rattle.hx_store.specs.Sources.{indexed_in, may_be_indexed}
use Rattle.hx_store.specs.ByName.{turned, turned_places}
use Rattle.hx_store.proofs.Indexing.{index_sweep}
use Rattle.hx_store.proofs.Waiting.{swept_gone}
use Rattle.hx_store.proofs.writes.sweep_entry.Goals as goal

pub returns-then-not-may_be_indexed-clause-swept : goal.returns-then-not-may_be_indexed-clause-swept
returns-then-not-may_be_indexed-clause-swept c = λ may none.
    let neither : may_be_indexed c.args.id.now.kind ≡ false = search rules in
    absurd (true≢false (sym may ∙ neither))

pub returns-then-has_indexed-clause-swept : goal.returns-then-has_indexed-clause-swept
returns-then-has_indexed-clause-swept c = λ may none.
    let some : is_some (indexed_in (found (place_at c.args.places.now c.args.id.now))) ≡ true = search rules in
    absurd (true≢false (sym some ∙ ap is_some none))

pub returns-clause-index : goal.returns-clause-index
returns-clause-index c = index_sweep c.args.by_name.now c.sweep.new.self c.args.places.now c.args.id.now (search rules) c.sweep.ensures.places c.sweep.ensures.swept c.requires

pub returns-clause-swept : goal.returns-clause-swept
returns-clause-swept c = λ may none. swept_gone (turned_places c.args.by_name.now) (turned_places c.sweep.new.self) (turned c.args.id.now) c.sweep.ensures.swept
