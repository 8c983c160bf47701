-- The topmost of the namespaces that begin to leave, above one that takes part.
--     Topmost     one at a namespace or above it, whose parent isn't among them
--     topmost     from one of them that takes part there is a way up to such a one
use Rattle.std.proofs.Common.{◌≡◌, ℕ, zero, suc, true, false, not, ◌&&◌, Option, Some, None, List, ◌∷◌, length, inl, inr, refl, sym, ap, ◌∙◌, arith, suc-ne-zero}
use Rattle.std.specs.Option.{option_map_or}
use Rattle.std.specs.Str.{bytes_eq}
use Rattle.std.proofs.lemmas.Bool.{and_parts, cases_Bool, or_right}
use Rattle.hx_model.specs.Forest.{Forest, is_in, parent_of, chain_of, in_chain}
use Rattle.hx_model.specs.Moves.{chain_from, is_open_above}
use Rattle.hx_model.specs.TreeLabels.{is_open}
use Rattle.hx_marks.specs.Law.{follows}
use Rattle.hx_marks.proofs.MoveChains.{open_chain, open_parent}
use Rattle.hx_marks.proofs.OpenBelow.{in_own_chain, open_is_there}

module _ (f : Forest) (names : List (List ℕ)) (Is : List ℕ → Type 0) (each : (p : List ℕ) → is_in p names ≡ true → Is p) where
  -- one at a or above it, whose parent isn't among these
  abbrev pub Topmost : List ℕ → Type 0
  Topmost a = (b : List ℕ) × Is b × (in_chain f a b ≡ true) × (follows f names b ≡ false)

  -- one whose parent isn't among these is it, and else the way goes on at the parent
  onward : (a : List ℕ) → is_open f a ≡ true → Is a → ((p : List ℕ) → parent_of f a ≡ Some p → is_open f p ≡ true → Is p → Topmost p) → Topmost a
  onward a acts one go = by (parent_of f a) refl
    where
      own : in_chain f a a ≡ true
      own = in_own_chain f a (open_is_there f a acts)

      by : (next : Option (List ℕ)) → parent_of f a ≡ next → Topmost a
      by None is = (a, one, own, ap (λ o. option_map_or (λ p. not (bytes_eq p a) && is_in p names) o false) is)
      by (Some p) is = elim (cases_Bool (not (bytes_eq p a) && is_in p names)) [
        | inr out ↦ (a, one, own, ap (λ o. option_map_or (λ q. not (bytes_eq q a) && is_in q names) o false) is ∙ out)
        | inl among ↦
            let top : Topmost p = go p is (sym (ap (is_open_above f) is) ∙ open_parent f a acts) (each p (and_parts (not (bytes_eq p a)) (is_in p names) among).1) in
            let whole : chain_of f a ≡ a ∷ chain_of f p = open_chain f a acts ∙ ap (λ o. a ∷ chain_from f o) is in
            (top.0, top.1, ap (is_in top.0) whole ∙ or_right (bytes_eq top.0 a) (is_in top.0 (chain_of f p)) top.2, top.3)
      ]

  -- each step up leaves a shorter chain
  topmost_by : (k : ℕ) (a : List ℕ) → length (chain_of f a) ≡ k → is_open f a ≡ true → Is a → Topmost a
  topmost_by zero a long acts one = absurd (suc-ne-zero _ (sym (ap length (open_chain f a acts)) ∙ long))
  topmost_by (suc k) a long acts one =
      onward a acts one (λ p is takes there.
      let less : suc (length (chain_of f p)) ≡ suc k = sym (ap length (open_chain f a acts ∙ ap (λ o. a ∷ chain_from f o) is)) ∙ long in
      topmost_by k p (omega (arith, less)) takes there)

  pub topmost : (a : List ℕ) → is_open f a ≡ true → Is a → Topmost a
  topmost a = topmost_by (length (chain_of f a)) a refl
