use Rattle.std.proofs.Common.{◌∙◌}
use Rattle.hnc.proofs.Making.{generated_front, part_made}
use Rattle.hnc.proofs.generating.generate.Goals as goal

pub returns-in-Err-told_of-clause-part : goal.returns-in-Err-told_of-clause-part
returns-in-Err-told_of-clause-part g c = λ _. part_made _ _ _ c.in-Ok.end c.in-Ok.ensures.made

pub returns-clause-cut : goal.returns-clause-cut
returns-clause-cut g c = λ _.
    generated_front _ c.in-Ok.end _ _ c.as_bytes.result.now _ _ c.in-Ok.ensures.made (c.as_bytes.ensures.value ∙ c.in-Ok-told_of.ensures) c.in-Err-write_all.ensures.cut
