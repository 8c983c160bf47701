use Rattle.hx_team.proofs.team.+serve_with.Given as goal

abbrev pub decreases-serve_with : goal.decreases-serve_with
decreases-serve_with g l = l.others
