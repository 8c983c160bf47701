-- Why namespaces are halted, before and after one of them gets another parent.
--     halt_by_open       a namespace that is eligible is halted by its own reasons, or else exactly if it takes no part
--     ring_of            a ring that has m, and n above it, has n: its parent's chain has both
--     ring_closes        a ring that has n under its new parent: so the chain of that parent had both
--     own_moved          another namespace has its own reasons as before, where it comes back to itself as before
--     back_outside       so does one that isn't below n
--     open_moved_under   below n one takes part then exactly if all up to n are eligible, and n takes part
use Rattle.std.specs.Prelude.{is_none}
use Rattle.std.proofs.Common.{◌≡◌, ℕ, suc, ◌≤◌, ◌⊎◌, Bool, true, false, not, ◌&&◌, Option, Some, None, List, [], ◌∷◌, refl, sym, ap, ◌∙◌, subst, inl, inr, arith, true≢false}
use Rattle.std.specs.List.{list_all}
use Rattle.std.specs.Option.{option_map_or}
use Rattle.std.specs.Str.{bytes_eq}
use Rattle.std.proofs.lemmas.Bool.{and_parts, cases_Bool, false_from_ne_true}
use Rattle.std.proofs.lemmas.Option.{same_Some}
use Rattle.hx_model.specs.First.{so, first}
use Rattle.hx_model.specs.Forest.{Forest, is_in, is_there, is_live, is_excluded, parent_of, chain_of, in_chain, comes_back, own_halt_of, halt_of, has_halted_ancestor, with_parent}
use Rattle.hx_model.specs.Moves.{up_to, chain_from, is_eligible, is_open_above}
use Rattle.hx_model.specs.TreeLabels.{is_open}
use Rattle.hx_model.specs.declared.node.Halt.{Halt}
use Rattle.hx_model.specs.declared.node.Halt.TheVariants.{InCycle, ParentMissing, IllegalParent, Ancestor}
use Rattle.hx_model.proofs.Climbing.{Above, itself, through, chain_above, above_chain, chain_trans, is_same, same_itself}
use Rattle.hx_model.proofs.Moving.{Steps, arrived, step, IsApart, one_count, moved_there, moved_parent, other_parent, moved_chain_same}
use Rattle.hx_model.proofs.Opening.{steps_of, moved_live, moved_excluded, moved_open_below}
use Rattle.hx_marks.specs.Before.{comes_back_by}
use Rattle.hx_marks.proofs.MoveBelow.{moved_has}
use Rattle.hx_marks.proofs.MoveChains.{open_apart, open_above, up_none}

-- ---- why one is halted

-- by its own reasons, or else exactly if it takes no part
pub halt_by_open : (f : Forest) (m : List ℕ) → is_eligible f m ≡ true → halt_of f m ≡ first (own_halt_of f m ∷ so (not (is_open f m)) Ancestor ∷ [])
halt_by_open f m eligible =
    by (own_halt_of f m) (has_halted_ancestor f m)
    ∙ ap (λ b. first (own_halt_of f m ∷ so (not b) Ancestor ∷ [])) (sym opens)
  where
    opens : is_open f m ≡ is_none (halt_of f m)
    opens =
        let parts = and_parts (is_live f m) (not (is_excluded f m)) eligible in
        ap (λ b. b && (not (is_excluded f m) && is_none (halt_of f m))) parts.0
        ∙ ap (λ b. b && is_none (halt_of f m)) parts.1

    by : (own : Option Halt) (b : Bool) → first (own ∷ so b Ancestor ∷ []) ≡ first (own ∷ so (not (is_none (first (own ∷ so b Ancestor ∷ [])))) Ancestor ∷ [])
    by None true = refl
    by None false = refl
    by (Some halt) b = refl

-- ---- rings

starts : (f : Forest) (n a : List ℕ) → Above f n a → is_there f n ≡ true
starts f n a (itself there) = there
starts f n a (through there is rest) = there

-- on the way from x to m, which is on a ring, the next one is before m, too
next_above : (f : Forest) (m r x y : List ℕ) → parent_of f m ≡ Some r → Above f r m → parent_of f x ≡ Some y → Above f x m → Above f y m
next_above f m r x y is back on (itself there) = subst (λ (z : List ℕ). Above f z m) (same_Some r y (sym is ∙ on)) back
next_above f m r x y is back on (through {p = z} there at more) = subst (λ (w : List ℕ). Above f w m) (same_Some z y (sym at ∙ on)) more

-- who is on a ring is above all that is above it
ring_above : (f : Forest) (m r a x : List ℕ) → parent_of f m ≡ Some r → Above f r m → Above f x a → Above f x m → Above f a m
ring_above f m r a x is back (itself there) up = up
ring_above f m r a x is back (through {p = y} there on rest) up = ring_above f m r a y is back rest (next_above f m r x y is back on up)

-- the parent of n, where n is below m and m below n
over_ring : (f : Forest) (n m : List ℕ) → in_chain f m n ≡ true → bytes_eq n m ≡ false → Above f n m → (comes_back f n ≡ true) × (is_in m (chain_from f (parent_of f n)) ≡ true)
over_ring f n m has apart (itself there) = absurd (true≢false (sym (same_itself n) ∙ apart))
over_ring f n m has apart (through {p = p} there is rest) =
    let up : in_chain f p m ≡ true = above_chain f p m rest in (
      ap (λ o. option_map_or (λ q. in_chain f q n) o false) is ∙ chain_trans f p m n up has,
      ap (λ o. is_in m (chain_from f o)) is ∙ up,
    )

-- a ring that has m, and n above it: the chain of n's parent has both
pub ring_of : (f : Forest) (n m : List ℕ) → in_chain f m n ≡ true → bytes_eq n m ≡ false → comes_back f m ≡ true → (comes_back f n ≡ true) × (is_in m (chain_from f (parent_of f n)) ≡ true)
ring_of f n m has apart back = by (parent_of f m) refl back
  where
    by : (next : Option (List ℕ)) → parent_of f m ≡ next → option_map_or (λ p. in_chain f p m) next false ≡ true → (comes_back f n ≡ true) × (is_in m (chain_from f (parent_of f n)) ≡ true)
    by None is none = absurd (true≢false (sym none))
    by (Some r) is ring =
        let below = chain_above f m n has in
        over_ring f n m has apart (ring_above f m r n m is (chain_above f r m ring) below (itself (starts f m n below)))

-- ---- a move

-- the way up to m then: as it was, or through n
first_way : (f : Forest) (n : List ℕ) (parent : Option (List ℕ)) (m x : List ℕ) (k : ℕ) → Steps (with_parent n parent f) m x k → (Above f x m) ⊎ ((j : ℕ) × (j ≤ k) × Steps (with_parent n parent f) m n j)
first_way f n parent m x k (arrived is there) = inl (subst (λ (y : List ℕ). Above f x y) is (itself (sym (moved_there f n parent x) ∙ there)))
first_way f n parent m x k (step {q = y} {k = i} there off is more) = elim (cases_Bool (bytes_eq n x)) [
  | inl here ↦ inr (suc i, omega arith, subst (λ (z : List ℕ). Steps (with_parent n parent f) m z (suc i)) (sym (is_same n x here)) (step there off is more))
  | inr apart ↦ elim (first_way f n parent m y i more) [
    | inl above ↦ inl (through (sym (moved_there f n parent x) ∙ there) (sym (other_parent f n parent x apart) ∙ is) above)
    | inr late ↦ inr (late.0, omega (arith, late.1), late.2)
  ]
]

-- the way from the new parent doesn't come to m through n alone
not_through : (f : Forest) (n p m : List ℕ) (k j : ℕ) → is_there f n ≡ true → bytes_eq n m ≡ false → Steps (with_parent n (Some p) f) m p k → j ≤ k → Steps (with_parent n (Some p) f) m n j → ⊥
not_through f n p m k j there apart way less (arrived is here) = true≢false (sym (subst (λ (x : List ℕ). bytes_eq n x ≡ true) is (same_itself n)) ∙ apart)
not_through f n p m k j there apart way less (step {q = y} {k = i} here off is more) =
    let same : p ≡ y = same_Some p y (sym (moved_parent f n (Some p) there) ∙ is) in
    omega (arith, less, one_count (with_parent n (Some p) f) m p i k (subst (λ (x : List ℕ). Steps (with_parent n (Some p) f) m x i) (sym same) more) way)

-- a ring that has n under its new parent: the chain of that parent had n, and those of the ring
pub ring_closes : (f : Forest) (n : List ℕ) (parent : Option (List ℕ)) (m : List ℕ) → is_there f n ≡ true → bytes_eq n m ≡ false
    → comes_back (with_parent n parent f) n ≡ true → is_in m (chain_from (with_parent n parent f) (parent_of (with_parent n parent f) n)) ≡ true
    → (comes_back_by f n parent ≡ true) × (is_in m (chain_from f parent) ≡ true)
ring_closes f n parent m there apart back mem =
    by parent refl (sym (ap (λ o. option_map_or (λ q. in_chain (with_parent n parent f) q n) o false) (moved_parent f n parent there)) ∙ back) (sym (ap (λ o. is_in m (chain_from (with_parent n parent f) o)) (moved_parent f n parent there)) ∙ mem)
  where
    by : (next : Option (List ℕ)) → parent ≡ next → option_map_or (λ q. in_chain (with_parent n parent f) q n) next false ≡ true → is_in m (chain_from (with_parent n parent f) next) ≡ true → (comes_back_by f n next ≡ true) × (is_in m (chain_from f next) ≡ true)
    by None is ring has = absurd (true≢false (sym ring))
    by (Some p) is ring has = (old_ring, old_member)
      where
        old_ring : in_chain f p n ≡ true
        old_ring = elim (cases_Bool (in_chain f p n)) [
          | inl old ↦ old
          | inr out ↦ absurd (true≢false (sym ring ∙ ap (is_in n) (moved_chain_same f n parent p out) ∙ out))
        ]

        old_member : in_chain f p m ≡ true
        old_member =
            let way = steps_of (with_parent n (Some p) f) m p (subst (λ (o : Option (List ℕ)). in_chain (with_parent n o f) p m ≡ true) is has) in
            elim (first_way f n (Some p) m p way.0 way.1) [
              | inl above ↦ above_chain f p m above
              | inr late ↦ absurd (not_through f n p m way.0 late.0 there apart way.1 late.1 late.2)
            ]

-- ---- own reasons

module _ (f : Forest) (n : List ℕ) (parent : Option (List ℕ)) (m : List ℕ) (apart : bytes_eq n m ≡ false) where
  abbrev g : Forest
  g = with_parent n parent f

  -- where it comes back to itself as before
  pub own_moved : comes_back g m ≡ comes_back f m → own_halt_of g m ≡ own_halt_of f m
  own_moved back i = first (
      so (back i) InCycle
      ∷ so (option_map_or (λ p. not (moved_live f n parent p i)) (other_parent f n parent m apart i) false) ParentMissing
      ∷ so (option_map_or (λ p. moved_excluded f n parent p i) (other_parent f n parent m apart i) false) IllegalParent
      ∷ [])

  -- one that isn't below n does so
  pub back_outside : is_there f m ≡ true → in_chain f m n ≡ false → comes_back g m ≡ comes_back f m
  back_outside there out = by (parent_of f m) refl
    where
      by : (next : Option (List ℕ)) → parent_of f m ≡ next → comes_back g m ≡ comes_back f m
      by None is = ap (λ o. option_map_or (λ p. in_chain g p m) o false) (other_parent f n parent m apart ∙ is) ∙ sym (ap (λ o. option_map_or (λ p. in_chain f p m) o false) is)
      by (Some r) is =
          let above : in_chain f r n ≡ false = false_from_ne_true (in_chain f r n) (λ h. true≢false (sym (above_chain f m n (through there is (chain_above f r n h))) ∙ out)) in
          ap (λ o. option_map_or (λ p. in_chain g p m) o false) (other_parent f n parent m apart ∙ is)
          ∙ ap (is_in m) (moved_chain_same f n parent r above)
          ∙ sym (ap (λ o. option_map_or (λ p. in_chain f p m) o false) is)

-- ---- who takes part

and_false : (a : Bool) → (a && false) ≡ false
and_false true = refl
and_false false = refl

-- below n: where all up to n are eligible, and n takes part
pub open_moved_under : (f : Forest) (n : List ℕ) (parent : Option (List ℕ)) (m : List ℕ) → is_there f n ≡ true → in_chain f m n ≡ true
    → is_open (with_parent n parent f) m ≡ (list_all (is_eligible f) (up_to n (chain_of f m)) && is_open (with_parent n parent f) n)
open_moved_under f n parent m there has = elim (cases_Bool (is_open g n)) [
  | inr shut ↦ false_from_ne_true (is_open g m) (λ h. true≢false (sym (open_above g n m (moved_has f n parent m has) h) ∙ shut)) ∙ sym (ap (λ b. eligible && b) shut ∙ and_false eligible)
  | inl takes ↦ moved_open_below f n parent (apart takes) there m has ∙ ap (λ b. eligible && b) (sym (top (apart takes)))
]
  where
    g : Forest
    g = with_parent n parent f

    eligible : Bool
    eligible = list_all (is_eligible f) (up_to n (chain_of f m))

    apart : is_open (with_parent n parent f) n ≡ true → IsApart f n parent
    apart h = by parent (sym (ap (λ o. option_map_or (λ q. in_chain (with_parent n parent f) q n) o false) (moved_parent f n parent there)) ∙ open_apart (with_parent n parent f) n h)
      where
        by : (next : Option (List ℕ)) → option_map_or (λ q. in_chain (with_parent n parent f) q n) next false ≡ false → IsApart f n next
        by None out = refl
        by (Some q) out = false_from_ne_true (in_chain f q n) (λ h. true≢false (sym (moved_has f n parent q h) ∙ out))

    itself_in : in_chain f n n ≡ true
    itself_in = above_chain f n n (itself there)

    top : IsApart f n parent → is_open (with_parent n parent f) n ≡ (is_eligible f n && is_open_above f parent)
    top far = moved_open_below f n parent far there n itself_in ∙ ap (λ xs. list_all (is_eligible f) xs && (is_eligible f n && is_open_above f parent)) (up_none f n there)
