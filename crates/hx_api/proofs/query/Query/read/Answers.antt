use Rattle.std.proofs.Common.{◌≡◌, [], refl, rules}
use Rattle.form_urlencoded.specs.Form.{raw_pairs}
use Rattle.form_urlencoded.specs.Parse.{pairs_left}
use Rattle.hx_api.specs.Inside.{over}
use Rattle.hx_api.specs.Queries.{parameters_of}
use Rattle.hx_api.proofs.Said.{read_all}
use Rattle.hx_api.proofs.query.Query.read.Goals as goal

pub loop-pair-init : goal.loop-pair-init
unfolding over parameters_of
loop-pair-init c = let all : pairs_left c.into_iter-pair-iterator.result ≡ raw_pairs c.args.query.now = search rules in rw all (refl, refl, refl)

pub invariant_of-result : goal.invariant_of-result
invariant_of-result c =
    let l = c.loop-pair in
    let end : pairs_left l.pair-iterator ≡ [] = search rules in
    read_all l.said l.selector l.fields (parameters_of c.args.query.now) _ end l.invariant
