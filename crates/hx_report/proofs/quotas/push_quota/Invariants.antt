use Rattle.std.proofs.Common.{◌≡◌, ◌++◌, drop, string_bytes}
use Rattle.std.specs.List.{flat_map}
use Rattle.hx_survey.specs.Surveyed.{tree_of}
use Rattle.hx_report.specs.Sums.{limit_line}
use Rattle.hx_report.proofs.quotas.push_quota.Given as goal

-- with the lines of the limits that are left it is the whole
abbrev pub invariant-loop-limit : goal.invariant-loop-limit
invariant-loop-limit l = string_bytes l.out ++ flat_map (limit_line l.survey.objects (tree_of l.survey) l.quota) (drop l.limit-index l.limits) ≡ string_bytes l.fn.out ++ flat_map (limit_line l.survey.objects (tree_of l.survey) l.quota) l.limits
