use Rattle.std.proofs.Common.{◌≡◌, true, sym, ap, ◌∙◌}
use Rattle.std.specs.Prelude.{is_some, option_copied}
use Rattle.hx_model.specs.Forest.{is_there}
use Rattle.hx_marks.proofs.Linking.{none_live, put_live, top_live}
use Rattle.hx_marks.proofs.live.Live.below.Goals as goal

pub fill-requires : goal.fill-requires
fill-requires c =
    let f = c.args.forest.now.nodes in
    let n = c.args.top.now in
    let there : is_there f n ≡ true = ap is_some (sym c.node.ensures ∙ ap option_copied c.in-Some.is) in
    put_live f n c.new-live.result c.put.new.self n true (none_live f n c.new-live.result c.new-live.ensures) (top_live f n there) c.in_ok-put.ensures
