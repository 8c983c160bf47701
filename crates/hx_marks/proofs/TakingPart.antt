-- Who takes part below a namespace, and at the top of a move.
--     open_under       below a namespace one takes part exactly if all up to it are eligible, and it takes part
--     open_below_live, open_below_none     so below one that takes part, and below one that doesn't
--     open_beside      one whose parent takes part does so exactly if it is eligible
--     opens_after      a namespace takes part once it has another parent
use Rattle.std.specs.Prelude.{is_none}
use Rattle.std.proofs.Common.{◌≡◌, ℕ, Bool, true, false, cond, not, ◌&&◌, ◌||◌, Option, Some, None, List, [], ◌∷◌, length, filter, refl, sym, ap, ◌∙◌, inl, inr, true≢false, if◌then◌else◌}
use Rattle.std.specs.List.{list_all}
use Rattle.std.specs.Option.{option_map_or}
use Rattle.std.specs.Str.{bytes_eq}
use Rattle.std.proofs.lemmas.Bool.{cases_Bool, or_left}
use Rattle.hx_model.specs.Cases.{same_name}
use Rattle.hx_model.specs.First.{so, first}
use Rattle.hx_model.specs.Forest.{Forest, is_in, names_of, is_there, is_live, is_excluded, parent_of, chain_of, in_chain, comes_back, own_halt_of, halt_of, tail_of, subtree_of, with_parent}
use Rattle.hx_model.specs.Moves.{up_to, is_eligible, is_open_above}
use Rattle.hx_model.specs.TreeLabels.{is_open}
use Rattle.hx_model.specs.Walks.{walk_to}
use Rattle.hx_model.specs.declared.node.Halt.TheVariants.{InCycle, ParentMissing, IllegalParent}
use Rattle.hx_model.proofs.Climbing.{is_same, same_itself}
use Rattle.hx_model.proofs.Moving.{moved_there, moved_parent, moved_in_chain, walk_to_none}
use Rattle.hx_model.proofs.Opening.{chain_first, halts_by_members, moved_open_below, not_live}
use Rattle.hx_model.proofs.Walking.{chain_there}
use Rattle.hx_marks.specs.Before.{comes_back_by, opens_under}
use Rattle.hx_marks.specs.Law.{live_below, open_below}
use Rattle.hx_marks.proofs.Alike.{same_parent_open}

-- ---- a namespace in its own chain

in_itself : (f : Forest) (n : List ℕ) → is_there f n ≡ true → in_chain f n n ≡ true
in_itself f n there = ap (is_in n) (chain_first f n there) ∙ or_left (bytes_eq n n) (is_in n (tail_of (chain_of f n))) (same_itself n)

up_none : (f : Forest) (n : List ℕ) → is_there f n ≡ true → up_to n (chain_of f n) ≡ []
up_none f n there = ap (up_to n) (chain_first f n there) ∙ ap (λ b. cond b [] (n ∷ up_to n (tail_of (chain_of f n)))) (same_itself n)

-- ---- cycles

and_false : (a : Bool) → (a && false) ≡ false
and_false true = refl
and_false false = refl

and_true : (a : Bool) → (a && true) ≡ a
and_true true = refl
and_true false = refl

-- one of a cycle has a reason by itself
cycle_own : (f : Forest) (n : List ℕ) → comes_back f n ≡ true → is_none (own_halt_of f n) ≡ false
cycle_own f n back = ap (λ b. is_none (first (so b InCycle ∷ so (option_map_or (λ p. not (is_live f p)) (parent_of f n) false) ParentMissing ∷ so (option_map_or (λ p. is_excluded f p) (parent_of f n) false) IllegalParent ∷ []))) back

fails : (t : List ℕ → Bool) (a : List ℕ) (xs : List (List ℕ)) → is_in a xs ≡ true → t a ≡ false → list_all t xs ≡ false
fails t a [] mem out = absurd (true≢false (sym mem))
fails t a (x ∷ xs) mem out =
    elim (bytes_eq a x) as (λ b. bytes_eq a x ≡ b → (b || is_in a xs) ≡ true → (t x && list_all t xs) ≡ false) [
      | true ↦ λ is _. ap (λ b. b && list_all t xs) (sym (ap t (is_same a x is)) ∙ out)
      | false ↦ λ _ later. ap (λ b. t x && b) (fails t a xs later out) ∙ and_false (t x)
    ] refl mem

-- below one of a cycle nobody takes part
cycle_shut : (f : Forest) (n m : List ℕ) → comes_back f n ≡ true → in_chain f m n ≡ true → is_open f m ≡ false
cycle_shut f n m back has = elim (cases_Bool (is_there f m)) [
  | inl there ↦
      ap (λ b. is_live f m && (not (is_excluded f m) && b)) (halts_by_members f m there ∙ fails (λ a. is_none (own_halt_of f a)) n (chain_of f m) has (cycle_own f n back))
      ∙ ap (λ b. is_live f m && b) (and_false (not (is_excluded f m))) ∙ and_false (is_live f m)
  | inr gone ↦ ap (λ b. b && (not (is_excluded f m) && is_none (halt_of f m))) (not_live f m gone)
]

-- ---- below a namespace

-- one that isn't in a cycle takes part exactly if it is eligible, and its parent takes part
open_top : (f : Forest) (n : List ℕ) → comes_back f n ≡ false → is_there f n ≡ true → is_open f n ≡ (is_eligible f n && is_open_above f (parent_of f n))
open_top f n apart there =
    sym (same_parent_open f n n)
    ∙ moved_open_below f n (parent_of f n) apart there n (in_itself f n there)
    ∙ ap (λ xs. list_all (is_eligible f) xs && (is_eligible f n && is_open_above f (parent_of f n))) (up_none f n there)

pub open_under : (f : Forest) (n m : List ℕ) → in_chain f m n ≡ true → is_open f m ≡ (list_all (is_eligible f) (up_to n (chain_of f m)) && is_open f n)
open_under f n m has = elim (cases_Bool (comes_back f n)) [
  | inl back ↦
      cycle_shut f n m back has
      ∙ sym (ap (λ b. list_all (is_eligible f) (up_to n (chain_of f m)) && b) (cycle_shut f n n back (in_itself f n there)) ∙ and_false (list_all (is_eligible f) (up_to n (chain_of f m))))
  | inr apart ↦
      sym (same_parent_open f n m)
      ∙ moved_open_below f n (parent_of f n) apart there m has
      ∙ ap (λ b. list_all (is_eligible f) (up_to n (chain_of f m)) && b) (sym (open_top f n apart there))
]
  where
    there : is_there f n ≡ true
    there = (chain_there f m).there n has

-- a filter looks at what is there alone
filter_inside : (t u v : List ℕ → Bool) (xs : List (List ℕ)) → ((x : List ℕ) → v x ≡ true → t x ≡ u x) → filter t (filter v xs) ≡ filter u (filter v xs)
filter_inside t u v [] same = refl
filter_inside t u v (x ∷ xs) same = elim (v x) as (λ b. v x ≡ b → filter t (cond b (x ∷ filter v xs) (filter v xs)) ≡ filter u (cond b (x ∷ filter v xs) (filter v xs))) [
  | true ↦ λ e. λ i. if same x e i then x ∷ filter_inside t u v xs same i else filter_inside t u v xs same i
  | false ↦ λ _. filter_inside t u v xs same
] refl

filter_none : (xs : List (List ℕ)) (t : List ℕ → Bool) → ((x : List ℕ) → t x ≡ false) → filter t xs ≡ []
filter_none [] t out = refl
filter_none (x ∷ xs) t out = ap (λ b. cond b (x ∷ filter t xs) (filter t xs)) (out x) ∙ filter_none xs t out

-- below a parent that takes part, and where there is none, one does so exactly if it is eligible
open_child : (f : Forest) (m : List ℕ) → is_open_above f (parent_of f m) ≡ true → is_open f m ≡ is_eligible f m
open_child f m above = elim (cases_Bool (is_there f m)) [
  | inr gone ↦
      ap (λ b. b && (not (is_excluded f m) && is_none (halt_of f m))) (not_live f m gone)
      ∙ sym (ap (λ b. b && not (is_excluded f m)) (not_live f m gone))
  | inl there ↦ elim (cases_Bool (comes_back f m)) [
    | inr apart ↦ open_top f m apart there ∙ ap (λ b. is_eligible f m && b) above ∙ and_true (is_eligible f m)
    | inl back ↦ ring (parent_of f m) refl back above
  ]
]
  where
    ring : (o : Option (List ℕ)) → parent_of f m ≡ o → comes_back f m ≡ true → is_open_above f (parent_of f m) ≡ true → is_open f m ≡ is_eligible f m
    ring None is back above = absurd (true≢false (sym back ∙ ap (λ o. option_map_or (λ p. in_chain f p m) o false) is))
    ring (Some p) is back above =
        let has : in_chain f p m ≡ true = sym (ap (λ o. option_map_or (λ q. in_chain f q m) o false) is) ∙ back in
        absurd (true≢false (sym above ∙ ap (is_open_above f) is ∙ cycle_shut f m p back has))

same_name_exact : (a b : Option (List ℕ)) → same_name a b ≡ true → a ≡ b
same_name_exact None None e = refl
same_name_exact None (Some m) e = absurd (true≢false (sym e))
same_name_exact (Some n) None e = absurd (true≢false (sym e))
same_name_exact (Some n) (Some m) e = ap Some (is_same n m e)

pub open_beside : (f : Forest) (m : List ℕ) (parent known : Option (List ℕ)) → parent ≡ parent_of f m → same_name parent known ≡ true → is_open_above f known ≡ true → is_eligible f m ≡ is_open f m
open_beside f m parent known is same takes = sym (open_child f m (ap (is_open_above f) (sym is ∙ same_name_exact parent known same) ∙ takes))

-- below one that takes part: all that do whenever it does
pub open_below_live : (f : Forest) (n : List ℕ) → is_open f n ≡ true → open_below f n ≡ live_below f n
open_below_live f n takes =
    filter_inside (is_open f) (λ m. list_all (is_eligible f) (up_to n (chain_of f m))) (λ m. in_chain f m n) (names_of f)
    (λ m has. open_under f n m has ∙ ap (λ b. list_all (is_eligible f) (up_to n (chain_of f m)) && b) takes ∙ and_true (list_all (is_eligible f) (up_to n (chain_of f m))))

-- and below one that doesn't: nobody
pub open_below_none : (f : Forest) (n : List ℕ) → is_open f n ≡ false → open_below f n ≡ []
open_below_none f n shut =
    filter_inside (is_open f) (λ m. false) (λ m. in_chain f m n) (names_of f)
    (λ m has. open_under f n m has ∙ ap (λ b. list_all (is_eligible f) (up_to n (chain_of f m)) && b) shut ∙ and_false (list_all (is_eligible f) (up_to n (chain_of f m))))
    ∙ filter_none (subtree_of f n) (λ m. false) (λ _. refl)

-- ---- a move

found_way : (f : Forest) (n p : List ℕ) → in_chain f p n ≡ true → (k : ℕ) × (walk_to (length f) f (Some p) n ≡ Some k)
found_way f n p has = by (walk_to (length f) f (Some p) n) refl
  where
    by : (o : Option ℕ) → walk_to (length f) f (Some p) n ≡ o → (k : ℕ) × (walk_to (length f) f (Some p) n ≡ Some k)
    by None e = absurd (true≢false (sym has ∙ walk_to_none f n p e))
    by (Some k) e = (k, e)

-- under a parent whose chain has it, it is in a cycle
closes_cycle : (f : Forest) (n : List ℕ) (parent : Option (List ℕ)) → is_there f n ≡ true → comes_back_by f n parent ≡ true → comes_back (with_parent n parent f) n ≡ true
closes_cycle f n None there back = absurd (true≢false (sym back))
closes_cycle f n (Some p) there back =
    ap (λ o. option_map_or (λ q. in_chain (with_parent n (Some p) f) q n) o false) (moved_parent f n (Some p) there)
    ∙ (let way = found_way f n p back in moved_in_chain f n (Some p) p way.0 way.1)

pub opens_after : (f : Forest) (n : List ℕ) (parent : Option (List ℕ)) → is_there f n ≡ true → is_open (with_parent n parent f) n ≡ opens_under f n parent
opens_after f n parent there = elim (cases_Bool (comes_back_by f n parent)) [
  | inl back ↦
      cycle_shut (with_parent n parent f) n n (closes_cycle f n parent there back) (in_itself (with_parent n parent f) n (moved_there f n parent n ∙ there))
      ∙ sym (ap (λ b. is_eligible f n && (is_open_above f parent && not b)) back ∙ ap (λ b. is_eligible f n && b) (and_false (is_open_above f parent)) ∙ and_false (is_eligible f n))
  | inr apart ↦
      moved_open_below f n parent apart there n (in_itself f n there)
      ∙ ap (λ xs. list_all (is_eligible f) xs && (is_eligible f n && is_open_above f parent)) (up_none f n there)
      ∙ sym (ap (λ b. is_eligible f n && (is_open_above f parent && not b)) apart ∙ ap (λ b. is_eligible f n && b) (and_true (is_open_above f parent)))
]
