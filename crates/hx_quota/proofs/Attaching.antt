-- Chains where a namespace without a parent gets one, and where one comes or goes that is in no other chain.
--     IsUnder, chain_under, apart_under      n is under p in the one forest, and a root in the other
--     IsNew, chain_new                       the one forest has n beside all that the other has
use Rattle.std.specs.Prelude.{is_some, option_and_then}
use Rattle.std.proofs.Common.{◌≡◌, ℕ, ◌⊎◌, Bool, true, false, ◌&&◌, ◌||◌, Option, Some, None, List, refl, sym, ap, ◌∙◌, subst, inl, inr, true≢false}
use Rattle.std.specs.Str.{bytes_eq}
use Rattle.std.proofs.lemmas.Bool.{and_parts, and_from, or_cases, or_left, or_right, false_from_ne_true}
use Rattle.std.proofs.lemmas.Option.{none-some, same_Some}
use Rattle.hx_model.specs.declared.node.Node.{Node}
use Rattle.hx_model.specs.Forest.{Forest, node_of, is_there, parent_of, in_chain}
use Rattle.hx_model.proofs.Climbing.{Above, itself, through, chain_above, above_chain, chain_trans, is_same}
use Rattle.hx_model.proofs.Walking.{both}

-- n is under p in f, and a root in g; all else is the same
pub record IsUnder (f g : Forest) (n p : List ℕ) : Type 0 where
  pub others : (m : List ℕ) → bytes_eq n m ≡ false → node_of f m ≡ node_of g m
  pub there : is_there f n ≡ true
  pub root_there : is_there g n ≡ true
  pub root : parent_of g n ≡ None
  pub under : parent_of f n ≡ Some p

module _ (f g : Forest) (n p : List ℕ) (is : IsUnder f g n p) where
  to_there : (m : List ℕ) → is_there g m ≡ true → is_there f m ≡ true
  to_there m h = at (bytes_eq n m) refl
    where
      at : (b : Bool) → bytes_eq n m ≡ b → is_there f m ≡ true
      at true same = subst (λ (k : List ℕ). is_there f k ≡ true) (is_same n m same) is.there
      at false out = ap is_some (is.others m out) ∙ h

  back_there : (m : List ℕ) → is_there f m ≡ true → is_there g m ≡ true
  back_there m h = at (bytes_eq n m) refl
    where
      at : (b : Bool) → bytes_eq n m ≡ b → is_there g m ≡ true
      at true same = subst (λ (k : List ℕ). is_there g k ≡ true) (is_same n m same) is.root_there
      at false out = sym (ap is_some (is.others m out)) ∙ h

  to_parent : (m q : List ℕ) → parent_of g m ≡ Some q → parent_of f m ≡ Some q
  to_parent m q h = at (bytes_eq n m) refl
    where
      at : (b : Bool) → bytes_eq n m ≡ b → parent_of f m ≡ Some q
      at true same = absurd (none-some q (sym (subst (λ (k : List ℕ). parent_of g k ≡ None) (is_same n m same) is.root) ∙ h))
      at false out = ap (λ (o : Option Node). option_and_then (λ node. node.parent) o) (is.others m out) ∙ h

  -- who is above in g is so in f
  pub upward : (m a : List ℕ) → Above g m a → Above f m a
  upward m a (itself there) = itself (to_there m there)
  upward m a (through {p = q} there on rest) = through (to_there m there) (to_parent m q on) (upward q a rest)

  -- who is above in f is so in g, or above p where m is below n
  downward : (Above g p n → ⊥) → (m a : List ℕ) → Above f m a → Above g m a ⊎ (Above g m n × Above g p a)
  downward free m a (itself there) = inl (itself (back_there m there))
  downward free m a (through {p = q} there on rest) = at (bytes_eq n m) refl (downward free q a rest)
    where
      at : (b : Bool) → bytes_eq n m ≡ b → Above g q a ⊎ (Above g q n × Above g p a) → Above g m a ⊎ (Above g m n × Above g p a)
      at true same (inl x) =
          let here : p ≡ q = same_Some p q (sym is.under ∙ subst (λ (k : List ℕ). parent_of f k ≡ Some q) (sym (is_same n m same)) on) in
          inr (subst (λ (k : List ℕ). Above g k n) (is_same n m same) (itself is.root_there), subst (λ (k : List ℕ). Above g k a) (sym here) x)
      at true same (inr y) =
          let here : p ≡ q = same_Some p q (sym is.under ∙ subst (λ (k : List ℕ). parent_of f k ≡ Some q) (sym (is_same n m same)) on) in
          absurd (free (subst (λ (k : List ℕ). Above g k n) (sym here) y.0))
      at false out (inl x) = inl (through (back_there m there) (sym (ap (λ (o : Option Node). option_and_then (λ node. node.parent) o) (is.others m out)) ∙ on) x)
      at false out (inr y) = inr (through (back_there m there) (sym (ap (λ (o : Option Node). option_and_then (λ node. node.parent) o) (is.others m out)) ∙ on) y.0, y.1)

  -- below a root, who is above is below that root
  below_root : (m k a : List ℕ) → parent_of g k ≡ None → Above g m k → Above g m a → Above g a k
  below_root m k a root (itself there) (itself _) = itself there
  below_root m k a root (itself there) (through {p = q} _ on _) = absurd (none-some q (sym root ∙ on))
  below_root m k a root (through there on rest) (itself _) = through there on rest
  below_root m k a root (through {p = q} there on rest) (through {p = s} _ on2 rest2) =
      below_root q k a root rest (subst (λ (x : List ℕ). Above g x a) (same_Some s q (sym on2 ∙ on)) rest2)

  pub free_in : in_chain g p n ≡ false → Above g p n → ⊥
  free_in free h = true≢false (sym (above_chain g p n h) ∙ free)

  pub chain_under : in_chain g p n ≡ false → (m a : List ℕ) → in_chain f m a ≡ (in_chain g m a || (in_chain g m n && in_chain g p a))
  chain_under free m a = both (in_chain f m a) (in_chain g m a || (in_chain g m n && in_chain g p a)) to from
    where
      to : in_chain f m a ≡ true → (in_chain g m a || (in_chain g m n && in_chain g p a)) ≡ true
      to h = elim (downward (free_in free) m a (chain_above f m a h)) [
        | inl x ↦ or_left (in_chain g m a) (in_chain g m n && in_chain g p a) (above_chain g m a x)
        | inr y ↦ or_right (in_chain g m a) (in_chain g m n && in_chain g p a) (and_from (in_chain g m n) (in_chain g p a) (above_chain g m n y.0) (above_chain g p a y.1))
      ]

      from : (in_chain g m a || (in_chain g m n && in_chain g p a)) ≡ true → in_chain f m a ≡ true
      from h = elim (or_cases (in_chain g m a) (in_chain g m n && in_chain g p a) h) [
        | inl x ↦ above_chain f m a (upward m a (chain_above g m a x))
        | inr y ↦
            let parts = and_parts (in_chain g m n) (in_chain g p a) y in
            chain_trans f m n a (above_chain f m n (upward m n (chain_above g m n parts.0)))
            (above_chain f n a (through is.there is.under (upward p a (chain_above g p a parts.1))))
      ]

  pub apart_under : in_chain g p n ≡ false → (m a : List ℕ) → in_chain g m n ≡ true → in_chain g p a ≡ true → in_chain g m a ≡ false
  apart_under free m a low high = false_from_ne_true (in_chain g m a) (λ h.
      true≢false (sym (chain_trans g p a n high (above_chain g a n (below_root m n a is.root (chain_above g m n low) (chain_above g m a h)))) ∙ free))

-- ---- a namespace that is in no other chain

-- f has n, which g has not, and all else is the same; the parents in g are there
pub record IsNew (f g : Forest) (n : List ℕ) : Type 0 where
  pub others : (m : List ℕ) → bytes_eq n m ≡ false → node_of f m ≡ node_of g m
  pub absent : is_there g n ≡ false
  pub closed : (m q : List ℕ) → parent_of g m ≡ Some q → is_there g q ≡ true

module _ (f g : Forest) (n : List ℕ) (is : IsNew f g n) where
  pub alike : (m : List ℕ) → is_there g m ≡ true → node_of f m ≡ node_of g m
  alike m there = at (bytes_eq n m) refl
    where
      at : (b : Bool) → bytes_eq n m ≡ b → node_of f m ≡ node_of g m
      at true same = absurd (true≢false (sym there ∙ subst (λ (k : List ℕ). is_there g k ≡ false) (is_same n m same) is.absent))
      at false out = is.others m out

  grown : (m a : List ℕ) → Above g m a → Above f m a
  grown m a (itself there) = itself (ap is_some (alike m there) ∙ there)
  grown m a (through {p = q} there on rest) = through (ap is_some (alike m there) ∙ there) (ap (λ (o : Option Node). option_and_then (λ node. node.parent) o) (alike m there) ∙ on) (grown q a rest)

  shrunk : (m a : List ℕ) → is_there g m ≡ true → Above f m a → Above g m a
  shrunk m a there (itself _) = itself there
  shrunk m a there (through {p = q} _ on rest) =
      let mine : parent_of g m ≡ Some q = sym (ap (λ (o : Option Node). option_and_then (λ node. node.parent) o) (alike m there)) ∙ on in
      through there mine (shrunk q a (is.closed m q mine) rest)

  pub chain_new : (m a : List ℕ) → is_there g m ≡ true → in_chain f m a ≡ in_chain g m a
  chain_new m a there = both (in_chain f m a) (in_chain g m a) (λ h. above_chain g m a (shrunk m a there (chain_above f m a h))) (λ h. above_chain f m a (grown m a (chain_above g m a h)))
