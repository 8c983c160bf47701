use Rattle.hx_json.proofs.Keys.{cut_back, cut_is}
use Rattle.hx_json.proofs.read.row.cut_at_slash.Goals as goal

pub returns-clause-cut : goal.returns-clause-cut
returns-clause-cut c = cut_is c.args.text.now c.split_once.result c.split_once.ensures.cases

pub returns-clause-back : goal.returns-clause-back
returns-clause-back c = cut_back c.args.text.now c.split_once.result c.split_once.ensures.cases
