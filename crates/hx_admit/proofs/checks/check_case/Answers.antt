use Rattle.std.proofs.Common.{◌∙◌}
use Rattle.std.specs.Prelude.{option_copied}
use Rattle.hx_state.specs.Homes.{owner_in, home_in_case}
use Rattle.hx_state.proofs.Counting.{valid_served}
use Rattle.hx_state.proofs.Owned.{owner_kept}
use Rattle.hx_admit.proofs.Ruled.{at_home, ruled}
use Rattle.hx_admit.proofs.checks.check_case.Goals as goal

pub check_rules-requires-clause-home : goal.check_rules-requires-clause-home
check_rules-requires-clause-home c =
    λ is. at_home c.args.state.now.state _ (valid_served c.args.state.now.state c.law_of_validity.ensures) c.forest.ensures c.requires.there (owner_kept (owner_in c.home_of.result) ∙ c.home_of.ensures is) is

pub returns-clause-fault : goal.returns-clause-fault
returns-clause-fault c =
    c.check_rules.ensures
    ∙ ruled c.args.state.now.state c.args.id.now (option_copied c.args.old) (option_copied c.args.new) (home_in_case c.home_of.result) (option_copied c.hnc_config_for.result) c.args.found.conflict c.args.skip c.family_for.result c.forest.result.now.nodes c.config.result.now
    c.forest.ensures c.config.ensures (λ is. owner_kept (owner_in c.home_of.result) ∙ c.home_of.ensures is) c.hnc_config_for.ensures c.requires.found.conflict c.family_for.ensures

pub returns-clause-valid : goal.returns-clause-valid
returns-clause-valid c = c.law_of_validity.ensures
