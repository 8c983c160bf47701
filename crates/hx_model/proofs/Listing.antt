-- What the plain programs need: a step of a climb.
--     climb_on     a climb that goes on does so with one member more
use Rattle.std.proofs.Common.{◌≡◌, ℕ, zero, suc, ◌<◌, ◌-◌, true, cond, Option, Some, List, [], ◌∷◌, ◌++◌, sym, ap, ◌∙◌, arith}
use Rattle.hx_model.specs.Forest.{Forest, parent_of, goes_on, climb}

climb_step : (left : ℕ) (f : Forest) (built : List (List ℕ)) (n : List ℕ) → 0 < left → climb left f built (Some n) ≡ cond (goes_on f built n) (climb (left - 1) f (built ++ n ∷ []) (parent_of f n)) built
climb_step zero f built n some = absurd (omega arith)
climb_step (suc left) f built n some = ap (λ k. cond (goes_on f built n) (climb k f (built ++ n ∷ []) (parent_of f n)) built) (omega arith)

-- a climb that goes on does so with one member more
pub climb_on : (left : ℕ) (f : Forest) (built : List (List ℕ)) (next : Option (List ℕ)) (n : List ℕ) → next ≡ Some n → 0 < left → goes_on f built n ≡ true → climb (left - 1) f (built ++ n ∷ []) (parent_of f n) ≡ climb left f built next
climb_on left f built next n here some goes =
    sym (ap (climb left f built) here ∙ climb_step left f built n some ∙ ap (λ b. cond b (climb (left - 1) f (built ++ n ∷ []) (parent_of f n)) built) goes)
