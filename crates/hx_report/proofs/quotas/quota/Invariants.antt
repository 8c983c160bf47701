use Rattle.std.proofs.Common.{◌≡◌, ◌++◌, drop, string_bytes}
use Rattle.std.specs.List.{flat_map}
use Rattle.hx_survey.specs.Surveyed.{tree_of}
use Rattle.hx_report.specs.Sums.{quota_lines}
use Rattle.hx_report.proofs.quotas.quota.Given as goal

-- with the lines of the quotas that are left it is the whole
abbrev pub invariant-loop-quota : goal.invariant-loop-quota
invariant-loop-quota l = string_bytes l.out ++ flat_map (quota_lines l.survey.objects (tree_of l.survey)) (drop l.quota-index l.quotas) ≡ flat_map (quota_lines l.survey.objects (tree_of l.survey)) l.quotas
