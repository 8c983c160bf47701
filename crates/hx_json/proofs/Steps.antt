-- Texts that are appended one after another.
use Rattle.std.proofs.Common.{◌≡◌, ℕ, List, [], ◌∷◌, ◌++◌, ap, ◌∙◌, append_assoc, append-nil, sym}
use Rattle.std.specs.Prelude.{Result, Ok, Err, OnOk}

-- the pieces as one text
abbrev pub glued : List (List ℕ) → List ℕ
glued [] = []
glued (p ∷ []) = p
glued (p ∷ q ∷ ps) = p ++ glued (q ∷ ps)

-- the pieces were appended in turn
abbrev pub Appends : List ℕ → List (List ℕ) → List ℕ → Type 0
Appends s [] t = t ≡ s
Appends s (p ∷ []) t = t ≡ s ++ p
Appends s (p ∷ q ∷ ps) t = (u : List ℕ) × (u ≡ s ++ p) × Appends u (q ∷ ps) t

pub glue : (s : List ℕ) (ps : List (List ℕ)) (t : List ℕ) → Appends s ps t → t ≡ s ++ glued ps
glue s [] t e = e ∙ sym (append-nil s)
glue s (p ∷ []) t e = e
glue s (p ∷ q ∷ ps) t e = glue e.0 (q ∷ ps) t e.2 ∙ ap (λ l. l ++ glued (q ∷ ps)) e.1 ∙ append_assoc s p (glued (q ∷ ps))

-- what is appended, by another name for a part of it
pub seen : {A : Type 0} (s : List ℕ) {t : List ℕ} {a b : A} (f : A → List ℕ) → a ≡ b → t ≡ s ++ f a → t ≡ s ++ f b
seen s f same e = e ∙ ap (λ l. s ++ f l) same

-- what the last call gives
pub last : {T E : Type 0} {P Q : Type 0} (r : Result T E) → (P → Q) → OnOk r P → OnOk r Q
last (Ok x) f h = f h
last (Err e) f h = h
