use Rattle.std.proofs.Common.{◌≡◌, ◌||◌, ℕ, List, drop}
use Rattle.hx_select.specs.Selectors.{is_among}
use Rattle.hx_select.proofs.texts.Texts.insert_all.Given as goal

-- what is there so far, and what is left, are what is there in the end
abbrev pub invariant-loop-text : goal.invariant-loop-text
invariant-loop-text l = (q : List ℕ) → (is_among q (drop l.text-index l.texts) || is_among q l.self) ≡ (is_among q l.texts || is_among q l.initial.self)
