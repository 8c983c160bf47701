use Rattle.std.proofs.Common.{◌∙◌, refl}
use Rattle.hx_forest.proofs.Indexing.{held_names, held_tied}
use Rattle.hx_forest.proofs.prepared.reserve.Goals as goal

pub returns-in_err-reserve-clause-names : goal.returns-in_err-reserve-clause-names
returns-in_err-reserve-clause-names c = held_names c.args.nodes.now c.reserve.new.self c.args.children.now c.args.children.now c.reserve.ensures.names refl refl

pub returns-in_err-reserve-clause-tied : goal.returns-in_err-reserve-clause-tied
returns-in_err-reserve-clause-tied c = held_tied c.args.nodes.now c.reserve.new.self c.args.children.now c.args.children.now c.reserve.ensures.names refl refl c.requires

pub returns-in_err-reserve-2-clause-names : goal.returns-in_err-reserve-2-clause-names
returns-in_err-reserve-2-clause-names c = held_names c.args.nodes.now c.reserve.new.self c.args.children.now c.reserve-2.new.self c.reserve.ensures.names c.reserve-2.ensures.lists c.reserve-2.ensures.others

pub returns-in_err-reserve-2-clause-tied : goal.returns-in_err-reserve-2-clause-tied
returns-in_err-reserve-2-clause-tied c = held_tied c.args.nodes.now c.reserve.new.self c.args.children.now c.reserve-2.new.self c.reserve.ensures.names c.reserve-2.ensures.lists c.reserve-2.ensures.others c.requires

pub reserve_lists-requires : goal.reserve_lists-requires
reserve_lists-requires c = held_tied c.args.nodes.now c.reserve.new.self c.args.children.now c.reserve-2.new.self c.reserve.ensures.names c.reserve-2.ensures.lists c.reserve-2.ensures.others c.requires

pub returns-clause-names : goal.returns-clause-names
returns-clause-names c = λ q. c.reserve_lists.ensures.names q ∙ held_names c.args.nodes.now c.reserve.new.self c.args.children.now c.reserve-2.new.self c.reserve.ensures.names c.reserve-2.ensures.lists c.reserve-2.ensures.others q
