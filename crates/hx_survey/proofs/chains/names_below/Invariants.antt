use Rattle.std.proofs.Common.{◌≡◌, ◌==◌, ◌++◌, drop, filter, length, map}
use Rattle.hx_survey.specs.Inside.{place_of, walk_at}
use Rattle.hx_survey.proofs.chains.names_below.Given as goal

-- the names so far, and those that the rest gives
abbrev pub invariant-loop-place : goal.invariant-loop-place
invariant-loop-place l =
    l.names.items ++ map (λ e. e.0) (filter (λ e. walk_at (λ place. place == l.sought) (length l.ups) l.ups (place_of l.nodes e.0)) (drop l.place l.nodes))
    ≡ map (λ e. e.0) (filter (λ e. walk_at (λ place. place == l.sought) (length l.ups) l.ups (place_of l.nodes e.0)) l.nodes)
