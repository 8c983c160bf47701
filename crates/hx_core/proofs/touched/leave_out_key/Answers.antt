use Rattle.std.proofs.Common.{Bool, not, rules}
use Rattle.std.proofs.lemmas.Fn.{filter_same}
use Rattle.hx_model.specs.Keys.{same_key}
use Rattle.hx_model.specs.declared.key.Key.{Key}
use Rattle.hx_core.proofs.touched.leave_out_key.Goals as goal

pub returns : goal.returns
returns c =
    let holds : Key → Bool = λ k. not (same_key c.args.key.now k) in
    filter_same _ holds _ (λ x b f k. search rules) _ _ c.retain.ensures.filtered
