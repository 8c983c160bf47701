use Rattle.std.proofs.Common.{◌≡◌, ◌-◌, ◌≤◌, ℕ, true, List, [], ◌∷◌, length, drop, refl, sym, ◌∙◌, arith, length-drop}
use Rattle.hx_object.specs.Pairs.{has_ascending_keys}
use Rattle.hx_object.proofs.pairs.Pairs.has_ascending_keys.Goals as goal

-- a pair alone is in order
alone : (pairs : List (List ℕ × List ℕ)) → length pairs ≤ 1 → has_ascending_keys pairs ≡ true
alone [] short = refl
alone (pair ∷ []) short = refl
alone (pair ∷ next ∷ pairs) short = absurd (omega arith)

pub returns : goal.returns
returns c =
    let pairs = c.args.items.now in
    let last = drop (c.loop-i.i - 1) pairs in
    sym (alone last (omega (arith, length-drop (c.loop-i.i - 1) pairs))) ∙ c.loop-i.invariant
