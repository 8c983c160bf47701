use Rattle.std.proofs.Common.{◌∙◌, ap, string_bytes}
use Rattle.hnc.proofs.Reporting.{audited_none, found_as}
use Rattle.hnc.proofs.printing.audit_on.Goals as goal

pub returns-in_ok-from_str-in-None-clause-text : goal.returns-in_ok-from_str-in-None-clause-text
returns-in_ok-from_str-in-None-clause-text c = λ s has.
    audited_none s _ _ c.done.ensures.1 (ap string_bytes c.done.ensures.0 ∙ c.in_ok-from_str-in-None.ensures.ok) (found_as s _ _ c.in-None.is (c.in_ok-first_wanting.ensures s has))

pub returns-in_ok-difference-in-Some-clause-text : goal.returns-in_ok-difference-in-Some-clause-text
returns-in_ok-difference-in-Some-clause-text c = λ s has.
    (c.in-Some.key, (found_as s _ _ c.in-Some.is (c.in_ok-first_wanting.ensures s has), c.in_ok-difference-in-Some.ensures))
