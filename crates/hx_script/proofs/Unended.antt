-- What is kept of a line that hasn't ended.
--     IsKept-start    nothing was read
--     IsKept-end      a line ended
--     IsKept-more     no line ended in what followed
--     IsKept-then     behind what was read before
--     lines_behind    the lines that follow are those behind the last line feed
use Rattle.std.proofs.Common.{◌≡◌, ℕ, Bool, true, false, List, [], ◌∷◌, ◌++◌, take, refl, sym, ap, subst, ◌∙◌, cond, append-nil, true≢false}
use Rattle.std.specs.Prelude.{◌==◌, ◌||◌}
use Rattle.std.proofs.Math.Bool.{or-false, or-true}
use Rattle.std.proofs.lemmas.List.{take_all}
use Rattle.hx_script.specs.Lines.{has_end, unended, script_lines}
use Rattle.hx_script.specs.Running.{HasNoEnd, IsKept, IsWaiting, most_kept}
use Rattle.hx_script.proofs.Kept.{HasNoEnd-append, HasNoEnd-take, script_lines-kept, take_twice}

-- ---- line feeds

has_end-append : (xs ys : List ℕ) → has_end (xs ++ ys) ≡ (has_end xs || has_end ys)
has_end-append [] ys = refl
has_end-append (x ∷ xs) ys = elim (x == 10) as (λ b. (b || has_end (xs ++ ys)) ≡ ((b || has_end xs) || has_end ys)) [ true ↦ refl | false ↦ has_end-append xs ys ]

has_none : (xs : List ℕ) → HasNoEnd xs → has_end xs ≡ false
has_none [] none = refl
has_none (x ∷ xs) none = ap (λ b. b || has_end xs) none.0 ∙ has_none xs none.1

none_by : (x : ℕ) (xs : List ℕ) (b : Bool) → (x == 10) ≡ b → has_end (x ∷ xs) ≡ false → (has_end xs ≡ false → HasNoEnd xs) → HasNoEnd (x ∷ xs)
none_by x xs true is none rest = absurd (true≢false (sym (ap (λ b. b || has_end xs) is) ∙ none))
none_by x xs false is none rest = (is, rest (sym (ap (λ b. b || has_end xs) is) ∙ none))

no_end : (xs : List ℕ) → has_end xs ≡ false → HasNoEnd xs
no_end [] none = tt
no_end (x ∷ xs) none = none_by x xs (x == 10) refl none (no_end xs)

-- ---- behind the last one

behind_by : (x : ℕ) (xs : List ℕ) (b : Bool) → has_end (x ∷ xs) ≡ b → HasNoEnd (unended xs) → HasNoEnd (cond b (unended xs) (x ∷ xs))
behind_by x xs true is rest = rest
behind_by x xs false is rest = no_end (x ∷ xs) is

HasNoEnd-unended : (xs : List ℕ) → HasNoEnd (unended xs)
HasNoEnd-unended [] = tt
HasNoEnd-unended (x ∷ xs) = behind_by x xs (has_end (x ∷ xs)) refl (HasNoEnd-unended xs)

unended-none : (xs : List ℕ) → HasNoEnd xs → unended xs ≡ xs
unended-none [] none = refl
unended-none (x ∷ xs) none = ap (λ b. cond b (unended xs) (x ∷ xs)) (has_none (x ∷ xs) none)

-- a line ends in what follows
unended-end : (xs ys : List ℕ) → has_end ys ≡ true → unended (xs ++ ys) ≡ unended ys
unended-end [] ys ends = refl
unended-end (x ∷ xs) ys ends = ap (λ b. cond b (unended (xs ++ ys)) (x ∷ (xs ++ ys))) (has_end-append (x ∷ xs) ys ∙ ap (λ b. has_end (x ∷ xs) || b) ends ∙ or-true (has_end (x ∷ xs))) ∙ unended-end xs ys ends

-- none does
more_by : (x : ℕ) (xs ys : List ℕ) (b : Bool) → unended (xs ++ ys) ≡ unended xs ++ ys → cond b (unended (xs ++ ys)) (x ∷ (xs ++ ys)) ≡ cond b (unended xs) (x ∷ xs) ++ ys
more_by x xs ys true same = same
more_by x xs ys false same = refl

unended-more : (xs ys : List ℕ) → HasNoEnd ys → unended (xs ++ ys) ≡ unended xs ++ ys
unended-more [] ys none = unended-none ys none
unended-more (x ∷ xs) ys none =
    let alike = has_end-append (x ∷ xs) ys ∙ ap (λ b. has_end (x ∷ xs) || b) (has_none ys none) ∙ or-false (has_end (x ∷ xs)) in
    ap (λ b. cond b (unended (xs ++ ys)) (x ∷ (xs ++ ys))) alike ∙ more_by x xs ys (has_end (x ∷ xs)) (unended-more xs ys none)

-- ---- what is kept

-- nothing was read, but what waits
pub IsKept-start : (waiting : List ℕ) → IsWaiting waiting → IsKept (waiting ++ []) waiting
IsKept-start waiting p = record { is = sym (ap (λ l. take most_kept (unended l)) (append-nil waiting) ∙ ap (take most_kept) (unended-none waiting p.no_end) ∙ take_all most_kept waiting p.few) }

-- a line ended
pub IsKept-end : (xs : List ℕ) → IsKept (xs ++ 10 ∷ []) []
IsKept-end xs = record { is = sym (ap (take most_kept) (unended-end xs (10 ∷ []) refl)) }

-- no line ended in what followed
pub IsKept-more : (xs ys waiting : List ℕ) → IsKept xs waiting → HasNoEnd ys → IsKept (xs ++ ys) (take most_kept (waiting ++ ys))
IsKept-more xs ys waiting p none = record { is = ap (λ l. take most_kept (l ++ ys)) p.is ∙ take_twice most_kept (unended xs) ys ∙ ap (take most_kept) (sym (unended-more xs ys none)) }

-- behind what was read before
kept_behind : (xs ys waiting : List ℕ) → IsKept xs waiting → (b : Bool) → has_end ys ≡ b → take most_kept (unended (waiting ++ ys)) ≡ take most_kept (unended (xs ++ ys))
kept_behind xs ys waiting p true ends = ap (take most_kept) (unended-end waiting ys ends ∙ sym (unended-end xs ys ends))
kept_behind xs ys waiting p false none =
    let kept : HasNoEnd waiting = subst (λ l. HasNoEnd l) (sym p.is) (HasNoEnd-take most_kept (unended xs) (HasNoEnd-unended xs)) in
    let here : unended (waiting ++ ys) ≡ waiting ++ ys = unended-none (waiting ++ ys) (HasNoEnd-append waiting ys kept (no_end ys none)) in
    let there = IsKept-more xs ys waiting p (no_end ys none) in
    ap (take most_kept) here ∙ there.is

pub IsKept-then : (xs ys waiting now : List ℕ) → IsKept xs waiting → IsKept (waiting ++ ys) now → IsKept (xs ++ ys) now
IsKept-then xs ys waiting now p q = record { is = q.is ∙ kept_behind xs ys waiting p (has_end ys) refl }

-- the lines that follow are those behind the last line feed
pub lines_behind : (xs rest waiting : List ℕ) → IsKept xs waiting → script_lines (waiting ++ rest) ≡ script_lines (unended xs ++ rest)
lines_behind xs rest waiting p = ap (λ l. script_lines (l ++ rest)) p.is ∙ sym (script_lines-kept (unended xs) rest (HasNoEnd-unended xs))
