-- Chains in a forest with links that close rings, by those in the forest without them.
--     one_root, below_root, same_root, root_above      who is above a root, and below one; two roots above one
--     IsClosed                 a forest has those links beside another one's
--     upward                   who is above without them is so with them
--     chain_apart, chain_round      who is above one that is in no ring, and one that is in a ring
--     rings_parted, rings_joined    each leads from a root to one below it, after one got no parent, and after a root got one
--     free_link, rings_opened       and after a ring was opened, whose link is then as all others
use Rattle.std.proofs.Common.{◌≡◌, ℕ, ◌⊎◌, Bool, true, false, Option, Some, None, List, refl, sym, ap, ◌∙◌, subst, inl, inr, true≢false}
use Rattle.std.specs.Str.{bytes_eq}
use Rattle.std.proofs.lemmas.Bool.{false_from_ne_true}
use Rattle.std.proofs.lemmas.Option.{none-some, same_Some}
use Rattle.hx_model.specs.Forest.{Forest, is_in, is_there, parent_of, in_chain, with_parent as forest_with_parent}
use Rattle.hx_model.proofs.Climbing.{Above, itself, through, chain_above, above_chain, chain_trans, is_same, same_itself}
use Rattle.hx_model.proofs.Moving.{moved_there, moved_parent, other_parent, moved_chain_same}
use Rattle.hx_model.proofs.Walking.{both, same_flips}
use Rattle.hx_quota.specs.RingLinks.{or_ring, AreRings, IsRingTop}

-- ---- roots

pub one_root : (g : Forest) (a k : List ℕ) → parent_of g a ≡ None → Above g a k → a ≡ k
one_root g a k root (itself there) = refl
one_root g a k root (through {p = q} there on rest) = absurd (none-some q (sym root ∙ on))

-- below a root, who is above is below that root
pub below_root : (g : Forest) (m k a : List ℕ) → parent_of g k ≡ None → Above g m k → Above g m a → Above g a k
below_root g m k a root (itself there) (itself _) = itself there
below_root g m k a root (itself there) (through {p = q} _ on _) = absurd (none-some q (sym root ∙ on))
below_root g m k a root (through there on rest) (itself _) = through there on rest
below_root g m k a root (through {p = q} there on rest) (through {p = s} _ on2 rest2) =
    below_root g q k a root rest (subst (λ (x : List ℕ). Above g x a) (same_Some s q (sym on2 ∙ on)) rest2)

pub same_root : (g : Forest) (m j k : List ℕ) → parent_of g j ≡ None → parent_of g k ≡ None → in_chain g m j ≡ true → in_chain g m k ≡ true → j ≡ k
same_root g m j k root_j root_k up_j up_k = one_root g j k root_j (below_root g m k j root_k (chain_above g m k up_k) (chain_above g m j up_j))

-- one on the way to a root is below it
pub root_above : (g : Forest) (m k a : List ℕ) → parent_of g k ≡ None → in_chain g m k ≡ true → in_chain g m a ≡ true → in_chain g a k ≡ true
root_above g m k a root up at = above_chain g a k (below_root g m k a root (chain_above g m k up) (chain_above g m a at))

-- ---- with links that close rings

pub record IsClosed (ring : List ℕ → Option (List ℕ)) (f g : Forest) : Type 0 where
  pub there : (m : List ℕ) → is_there f m ≡ is_there g m
  pub parents : (m : List ℕ) → parent_of f m ≡ or_ring (ring m) (parent_of g m)

-- a way that leads round
record Round (ring : List ℕ → Option (List ℕ)) (g : Forest) (m a : List ℕ) : Type 0 where
  pub top : List ℕ
  pub up : List ℕ
  pub link : ring top ≡ Some up
  pub below : Above g m top
  pub over : Above g up a

module _ (ring : List ℕ → Option (List ℕ)) (f g : Forest) (is : IsClosed ring f g) (are : AreRings ring g) where
  up_step : (m q : List ℕ) → parent_of g m ≡ Some q → parent_of f m ≡ Some q
  up_step m q on = by (ring m) refl
    where
      by : (o : Option (List ℕ)) → ring m ≡ o → parent_of f m ≡ Some q
      by None none = is.parents m ∙ ap (λ (o : Option (List ℕ)). or_ring o (parent_of g m)) none ∙ on
      by (Some p) some = absurd (none-some q (sym (are m p some).0 ∙ on))

  pub upward : (m a : List ℕ) → Above g m a → Above f m a
  upward m a (itself there) = itself (is.there m ∙ there)
  upward m a (through {p = q} there on rest) = through (is.there m ∙ there) (up_step m q on) (upward q a rest)

  downward : (m a : List ℕ) → Above f m a → Above g m a ⊎ Round ring g m a
  downward m a (itself there) = inl (itself (sym (is.there m) ∙ there))
  downward m a (through {p = q} there on rest) = by (ring m) refl (downward q a rest)
    where
      here : is_there g m ≡ true
      here = sym (is.there m) ∙ there

      link_of : (o : Option (List ℕ)) → ring m ≡ o → or_ring o (parent_of g m) ≡ Some q
      link_of o h = sym (is.parents m ∙ ap (λ (x : Option (List ℕ)). or_ring x (parent_of g m)) h) ∙ on

      by : (o : Option (List ℕ)) → ring m ≡ o → Above g q a ⊎ Round ring g q a → Above g m a ⊎ Round ring g m a
      by None none (inl x) = inl (through here (link_of None none) x)
      by None none (inr r) = inr (record { top = r.top; up = r.up; link = r.link; below = through here (link_of None none) r.below; over = r.over })
      by (Some p) some (inl x) = inr (record { top = m; up = q; link = some ∙ link_of (Some p) some; below = itself here; over = x })
      by (Some p) some (inr r) =
          let mine : ring m ≡ Some q = some ∙ link_of (Some p) some in
          let same : r.top ≡ m = same_root g q r.top m (are r.top r.up r.link).0 (are m q mine).0 (above_chain g q r.top r.below) (are m q mine).1 in
          let up : r.up ≡ q = same_Some r.up q (sym r.link ∙ ap ring same ∙ mine) in
          inr (record { top = m; up = q; link = mine; below = itself here; over = subst (λ (x : List ℕ). Above g x a) up r.over })

  -- a way round comes to one that is in a ring
  way_round : (m n : List ℕ) → (r : Round ring g m n) → in_chain g n r.top ≡ true
  way_round m n r = root_above g r.up r.top n (are r.top r.up r.link).0 (are r.top r.up r.link).1 (above_chain g r.up n r.over)

  pub chain_apart : (n : List ℕ) → IsRingTop ring g n None → (m : List ℕ) → in_chain f m n ≡ in_chain g m n
  chain_apart n none m = both (in_chain f m n) (in_chain g m n) to (λ h. above_chain f m n (upward m n (chain_above g m n h)))
    where
      to : in_chain f m n ≡ true → in_chain g m n ≡ true
      to h = elim (downward m n (chain_above f m n h)) [
        | inl x ↦ above_chain g m n x
        | inr r ↦ absurd (none r.top r.up (way_round m n r) r.link (above_chain g r.up n r.over))
      ]

  pub chain_round : (n t : List ℕ) → IsRingTop ring g n (Some t) → (m : List ℕ) → in_chain f m n ≡ in_chain g m t
  chain_round n t (p, low, link, over) m = both (in_chain f m n) (in_chain g m t) to from
    where
      root : parent_of g t ≡ None
      root = (are t p link).0

      to : in_chain f m n ≡ true → in_chain g m t ≡ true
      to h = elim (downward m n (chain_above f m n h)) [
        | inl x ↦ chain_trans g m n t (above_chain g m n x) low
        | inr r ↦ subst (λ (k : List ℕ). in_chain g m k ≡ true) (same_root g n r.top t (are r.top r.up r.link).0 root (way_round m n r) low) (above_chain g m r.top r.below)
      ]

      from : in_chain g m t ≡ true → in_chain f m n ≡ true
      from h =
          let first = upward m t (chain_above g m t h) in
          let here : is_there f t ≡ true = is.there t ∙ there_at g m t (chain_above g m t h) in
          let step : parent_of f t ≡ Some p = is.parents t ∙ ap (λ (o : Option (List ℕ)). or_ring o (parent_of g t)) link in
          chain_trans f m t n (above_chain f m t first) (above_chain f t n (through here step (upward p n (chain_above g p n over))))
        where
          there_at : (h : Forest) (x a : List ℕ) → Above h x a → is_there h a ≡ true
          there_at h x a (itself there) = there
          there_at h x a (through {p = q} there on rest) = there_at h q a rest

-- ---- after a change

module _ (ring : List ℕ → Option (List ℕ)) (g : Forest) (are : AreRings ring g) (n : List ℕ) (there : is_there g n ≡ true) where
  -- the link of another one leads past n
  past : (m q : List ℕ) → ring m ≡ Some q → (in_chain g q n ≡ true → ⊥) → (parent : Option (List ℕ)) → in_chain (forest_with_parent n parent g) q m ≡ true
  past m q link out parent = ap (is_in m) (moved_chain_same g n parent q (false_from_ne_true (in_chain g q n) out)) ∙ (are m q link).1

  root_then : (m : List ℕ) → parent_of g m ≡ None → parent_of (forest_with_parent n None g) m ≡ None
  root_then m root = by (bytes_eq n m) refl
    where
      by : (b : Bool) → bytes_eq n m ≡ b → parent_of (forest_with_parent n None g) m ≡ None
      by true same = subst (λ (k : List ℕ). parent_of (forest_with_parent n None g) k ≡ None) (is_same n m same) (moved_parent g n None there)
      by false out = other_parent g n None m out ∙ root

  -- where one that is in no ring gets no parent
  pub rings_parted : IsRingTop ring g n None → AreRings ring (forest_with_parent n None g)
  rings_parted none m q link = (root_then m (are m q link).0, past m q link (λ up. none m q (root_above g q m n (are m q link).0 (are m q link).1 up) link up) None)

  -- where a root that has no such link gets a parent
  pub rings_joined : (parent : Option (List ℕ)) → parent_of g n ≡ None → ring n ≡ None → AreRings ring (forest_with_parent n parent g)
  rings_joined parent root free m q link = (
    other_parent g n parent m (false_from_ne_true (bytes_eq n m) (λ same. other (is_same n m same))) ∙ (are m q link).0,
    past m q link (λ up. other (same_root g q n m root (are m q link).0 up (are m q link).1)) parent,
  )
    where
      other : n ≡ m → ⊥
      other same = none-some q (sym free ∙ ap ring same ∙ link)

-- who is below it stays so
stays_below : (g : Forest) (n : List ℕ) (parent : Option (List ℕ)) → is_there g n ≡ true → (x : List ℕ) → Above g x n → Above (forest_with_parent n parent g) x n
stays_below g n parent there x (itself _) = itself (moved_there g n parent n ∙ there)
stays_below g n parent there x (through {p = y} here on rest) = by (bytes_eq n x) refl (stays_below g n parent there y rest)
  where
    by : (b : Bool) → bytes_eq n x ≡ b → Above (forest_with_parent n parent g) y n → Above (forest_with_parent n parent g) x n
    by true same up = subst (λ (k : List ℕ). Above (forest_with_parent n parent g) k n) (is_same n x same) (itself (moved_there g n parent n ∙ there))
    by false out up = through (moved_there g n parent x ∙ here) (other_parent g n parent x out ∙ on) up

-- where a ring is opened at n, which isn't its top
module _ (ring then : List ℕ → Option (List ℕ)) (g : Forest) (are : AreRings ring g) (n t p : List ℕ) (there : is_there g n ≡ true) (low : in_chain g n t ≡ true) (link : ring t ≡ Some p) (over : in_chain g p n ≡ true) (out : bytes_eq t n ≡ false)
    (without : (m q : List ℕ) → then m ≡ Some q → (ring m ≡ Some q) × (bytes_eq t m ≡ false)) where
  abbrev parted : Forest
  parted = forest_with_parent n None g

  root : parent_of g t ≡ None
  root = (are t p link).0

  differs : (m : List ℕ) → bytes_eq t m ≡ false → t ≡ m → ⊥
  differs m other same = true≢false (sym (subst (λ (k : List ℕ). bytes_eq t k ≡ true) same (same_itself t)) ∙ other)

  -- its link is free then
  pub free_link : in_chain parted p t ≡ false
  free_link = false_from_ne_true (in_chain parted p t) (λ h. differs n out
      (same_root parted p t n (other_parent g n None t (same_flips n t ∙ out) ∙ root) (moved_parent g n None there) h (above_chain parted p n (stays_below g n None there p (chain_above g p n over)))))

  pub rings_opened : AreRings then (forest_with_parent t (Some p) parted)
  rings_opened m q is =
      let old = without m q is in
      let mine = are m q old.0 in
      let past_n : in_chain g q n ≡ true → ⊥ = λ up. differs m old.1 (sym (same_root g n m t mine.0 root (root_above g q m n mine.0 mine.1 up) low)) in
      let past_t : in_chain g q t ≡ false = false_from_ne_true (in_chain g q t) (λ up. differs m old.1 (same_root g q t m root mine.0 up mine.1)) in
      let out_n : in_chain g q n ≡ false = false_from_ne_true (in_chain g q n) past_n in
      let out_t : in_chain parted q t ≡ false = ap (is_in t) (moved_chain_same g n None q out_n) ∙ past_t in (
        other_parent parted t (Some p) m old.1 ∙ root_then ring g are n there m mine.0,
        ap (is_in m) (moved_chain_same parted t (Some p) q out_t) ∙ past ring g are n there m q old.0 past_n None,
      )
