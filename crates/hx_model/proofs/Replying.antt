-- The answers of the machine, by its refusals and its writes.
use Rattle.std.proofs.Common.{◌≡◌, [], None, Some, ap, sym, ◌∙◌}
use Rattle.std.specs.Prelude.{List}
use Rattle.hx_model.specs.declared.ask.Ask.{Ask}
use Rattle.hx_model.specs.declared.ask.Answer.TheVariants.{Refused}
use Rattle.hx_model.specs.declared.key.Write.{Write}
use Rattle.hx_model.specs.declared.refusal.Refusal.{Refusal}
use Rattle.hx_model.specs.State.{State, state_after}
use Rattle.hx_model.specs.Answers.{answer_to, answer_by, refusal_of, writes_of, success, Mutates}

-- an ask that is refused
pub answer-refused : (s : State) (ask : Ask) (refusal : Refusal) → refusal_of s ask ≡ Some refusal → answer_to s ask ≡ (Refused refusal, s)
answer-refused s ask refusal e = ap (answer_by s ask) e

-- one that isn't
pub answer-passed : (s : State) (ask : Ask) (writes : List Write) → refusal_of s ask ≡ None → writes_of s ask ≡ writes → answer_to s ask ≡ (success s (state_after s writes) ask, state_after s writes)
answer-passed s ask writes e is = ap (answer_by s ask) e ∙ ap (λ ws. (success s (state_after s ws) ask, state_after s ws)) is

pub changes-refused : (s : State) (ask : Ask) (refusal : Refusal) → refusal_of s ask ≡ Some refusal → Mutates s ask → ⊥
changes-refused s ask refusal e changes = let h : Some refusal ≡ None = sym e ∙ changes.0 in cc

pub changes-read : (s : State) (ask : Ask) → writes_of s ask ≡ [] → Mutates s ask → ⊥
changes-read s ask e changes = changes.1 e
