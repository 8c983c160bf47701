use Rattle.std.proofs.Common.{ℕ, ◌∙◌, not, ◌&&◌, List, refl, arith}
use Rattle.std.specs.Str.{bytes_eq}
use Rattle.std.specs.Vec.{with_item}
use Rattle.hx_model.specs.Forest.{is_in}
use Rattle.hx_forest.proofs.Indexing.{list_put, fits_put, tied_other}
use Rattle.hx_forest.proofs.children.Children.unlink.Goals as goal

pub returns-in-Some-clause-list : goal.returns-in-Some-clause-list
returns-in-Some-clause-list c = λ nodes at.
    let old = c.args.self.now in
    let names = c.take_from.new.names in
    list_put nodes old (record old { lists = with_item old.lists c.in-Some.at names }) c.args.parent.now c.args.at c.in-Some.at c.index_mut.result.now names refl refl c.requires c.index_mut.ensures.value c.in-Some.is at
    (λ (xs : List (List ℕ)) q. not (bytes_eq q c.args.child.now) && is_in q xs) c.take_from.ensures.order c.take_from.ensures.members

pub returns-in-Some-clause-fits : goal.returns-in-Some-clause-fits
returns-in-Some-clause-fits c = λ nodes at k q.
    let old = c.args.self.now in
    let names = c.take_from.new.names in
    fits_put nodes old (record old { lists = with_item old.lists c.in-Some.at names }) c.args.parent.now c.args.at c.in-Some.at c.index_mut.result.now names refl refl c.requires c.index_mut.ensures.value c.in-Some.is at
    k k (omega arith) (c.take_from.ensures.fits k) q

pub returns-in-None-clause-tied : goal.returns-in-None-clause-tied
returns-in-None-clause-tied c = λ nodes at tied.
    tied_other nodes c.args.self.now c.unlink_other.new.self c.args.parent.now c.unlink_other.ensures.lists c.unlink_other.ensures.list.others c.unlink_other.ensures.full (at ∙ c.in-None.is) tied
