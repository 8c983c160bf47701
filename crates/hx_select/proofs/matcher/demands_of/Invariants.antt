use Rattle.std.proofs.Common.{◌≡◌, ◌&&◌, ℕ, List, Option, drop}
use Rattle.hx_select.specs.Matching.{asked, meets_at}
use Rattle.hx_select.proofs.matcher.demands_of.Given as goal

-- what is asked so far, and by what is left, is what the whole asks
abbrev pub invariant-loop-need : goal.invariant-loop-need
invariant-loop-need l = (key : List ℕ) (label : Option (List ℕ)) → (meets_at l.demands.entries key label && asked (drop l.need-index l.needs) key label) ≡ asked l.needs key label
