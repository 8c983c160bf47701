use Rattle.std.proofs.Common.{ℕ, ◌+◌, ◌||◌, List, refl, arith, ◌∙◌}
use Rattle.std.specs.Str.{bytes_eq}
use Rattle.std.specs.Vec.{with_item}
use Rattle.hx_model.specs.Forest.{is_in}
use Rattle.hx_forest.specs.Children.{names_in, others_of}
use Rattle.hx_forest.proofs.Indexing.{list_put, fits_put, full_joined, tied_other}
use Rattle.hx_forest.proofs.children.Children.link.Goals as goal

pub returns-in-Some-clause-list : goal.returns-in-Some-clause-list
returns-in-Some-clause-list c = λ nodes at.
    let old = c.args.self.now in
    let names = c.add_to.new.names in
    list_put nodes old (record old { lists = with_item old.lists c.in-Some.at names }) c.args.link.parent c.args.at c.in-Some.at c.index_mut.result.now names refl refl c.requires.there c.index_mut.ensures.value c.in-Some.is at
    (λ (xs : List (List ℕ)) q. bytes_eq q c.args.link.child || is_in q xs) c.add_to.ensures.order c.add_to.ensures.members

pub returns-in-Some-clause-fits : goal.returns-in-Some-clause-fits
returns-in-Some-clause-fits c = λ nodes at k q room.
    let old = c.args.self.now in
    let names = c.add_to.new.names in
    fits_put nodes old (record old { lists = with_item old.lists c.in-Some.at names }) c.args.link.parent c.args.at c.in-Some.at c.index_mut.result.now names refl refl c.requires.there c.index_mut.ensures.value c.in-Some.is at
    (k + 1) k (omega arith) (c.add_to.ensures.fits k room) q

pub returns-in-None-clause-tied : goal.returns-in-None-clause-tied
returns-in-None-clause-tied c = λ nodes at tied.
    let old = c.args.self.now in
    let new = c.link_other.new.self in
    let p = c.args.link.parent in
    let list = c.link_other.ensures.list in
    tied_other nodes old new p c.link_other.ensures.lists list.others (full_joined (others_of new p) c.args.link.child (λ q. is_in q (names_in (others_of old p))) list.members) (at ∙ c.in-None.is) tied
