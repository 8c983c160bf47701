-- What the objects of a subtree are charged, by its namespaces.
--     charge_in_by     what those in a namespace are charged, among all objects
--     used_by_names    what those of a subtree are, by the namespaces in it
use Rattle.std.proofs.Common.{◌≡◌, ℕ, ◌+◌, ◌==◌, Bool, true, false, cond, ◌&&◌, ◌||◌, List, [], ◌∷◌, Some, filter, sum_by, refl, sym, ap, ◌∙◌, subst, arith}
use Rattle.std.specs.List.{AllByRecursion}
use Rattle.std.specs.List.Sorted.{IsStrictlySortedBy}
use Rattle.std.specs.Str.{bytes_eq}
use Rattle.std.specs.declared.cmp.Ordering.TheVariants.{Less}
use Rattle.std.proofs.lemmas.List.Sums.{sum_by-cons}
use Rattle.hx_object.specs.Kinds.{number_of}
use Rattle.hx_object.specs.Texts.{bytes_cmp}
use Rattle.hx_object.specs.declared.object.Object.{Object}
use Rattle.hx_model.specs.Charges.{charge_of, kind_for}
use Rattle.hx_model.specs.Forest.{Forest, is_in, names_of, in_chain, subtree_of}
use Rattle.hx_model.specs.Quotas.{charge_below}
use Rattle.hx_model.specs.State.{Objects, is_listed}
use Rattle.hx_model.specs.declared.node.Node.{Node}
use Rattle.hx_model.specs.declared.resource.Resource.{Resource}
use Rattle.hx_model.proofs.Charging.{charged_elsewhere}
use Rattle.hx_model.proofs.Climbing.{is_same}
use Rattle.hx_model.proofs.Parents.{in_below}
use Rattle.hx_model.proofs.Walking.{names_have, chain_missing}
use Rattle.hx_survey.specs.Inside.{Ascends, charge_in}
use Rattle.hx_survey.proofs.Placed.{apart}

module _ (r : Resource) where
  -- what an object is charged, if a test holds of its namespace
  abbrev charge_if : (List ℕ → Bool) → Object → ℕ
  charge_if t x = cond (t x.id.ns) (charge_of x r) 0

  no_charge : (b : Bool) (x : Object) → charge_of x r ≡ 0 → 0 ≡ cond b (charge_of x r) 0
  no_charge true x none = sym none
  no_charge false x none = refl

  listed_if : (n : List ℕ) (x : Object) → cond (is_listed (kind_for r) (Some n) x) (charge_of x r) 0 ≡ charge_if (λ m. bytes_eq m n) x
  listed_if n x = elim (number_of (kind_for r) == number_of x.id.kind) as (λ b. (number_of (kind_for r) == number_of x.id.kind) ≡ b → cond (b && bytes_eq x.id.ns n) (charge_of x r) 0 ≡ cond (bytes_eq x.id.ns n) (charge_of x r) 0) [
    | true ↦ λ is. refl
    | false ↦ λ out. no_charge (bytes_eq x.id.ns n) x (charged_elsewhere r x (ap (λ b. b && true) out))
  ] refl

  kept_sum : (t : Object → Bool) (x : Object) (objects : Objects) → sum_by (λ (y : Object). charge_of y r) (filter t (x ∷ objects)) ≡ cond (t x) (charge_of x r) 0 + sum_by (λ (y : Object). charge_of y r) (filter t objects)
  kept_sum t x objects = elim (t x) as (λ b. sum_by (λ (y : Object). charge_of y r) (cond b (x ∷ filter t objects) (filter t objects)) ≡ cond b (charge_of x r) 0 + sum_by (λ (y : Object). charge_of y r) (filter t objects)) [
    | true ↦ sum_by-cons (λ (y : Object). charge_of y r) x (filter t objects)
    | false ↦ omega arith
  ]

  -- what those in a namespace are charged, among all objects
  pub charge_in_by : (n : List ℕ) (objects : Objects) → charge_in objects r n ≡ sum_by (charge_if (λ m. bytes_eq m n)) objects
  charge_in_by n [] = refl
  charge_in_by n (x ∷ objects) =
      kept_sum (is_listed (kind_for r) (Some n)) x objects
      ∙ (λ i. listed_if n x i + charge_in_by n objects i)
      ∙ sym (sum_by-cons (charge_if (λ m. bytes_eq m n)) x objects)

  parted : (a b : Bool) (k : ℕ) → (a ≡ true → b ≡ false) → cond (a || b) k 0 ≡ cond a k 0 + cond b k 0
  parted true b k out = rw (out refl) (omega arith)
  parted false b k out = omega arith

  -- two tests that don't hold together
  sum_parted : (s t : List ℕ → Bool) → ((n : List ℕ) → s n ≡ true → t n ≡ false) → (objects : Objects) → sum_by (charge_if (λ n. s n || t n)) objects ≡ sum_by (charge_if s) objects + sum_by (charge_if t) objects
  sum_parted s t out [] = omega arith
  sum_parted s t out (x ∷ objects) =
      omega (
        arith,
        sum_by-cons (charge_if (λ n. s n || t n)) x objects,
        sum_by-cons (charge_if s) x objects,
        sum_by-cons (charge_if t) x objects,
        parted (s x.id.ns) (t x.id.ns) (charge_of x r) (out x.id.ns),
        sum_parted s t out objects,
      )

  sum_none : (objects : Objects) → 0 ≡ sum_by (charge_if (λ n. false)) objects
  sum_none [] = refl
  sum_none (x ∷ objects) = omega (arith, sum_by-cons (charge_if (λ n. false)) x objects, sum_none objects)

  not_among : (t : List ℕ → Bool) (n : List ℕ) (f : Forest) → AllByRecursion (λ (e : List ℕ × Node). bytes_cmp n e.0 ≡ Less) f → is_in n (filter t (names_of f)) ≡ false
  not_among t n [] all = refl
  not_among t n (x ∷ f) all = elim (t x.0) as (λ b. is_in n (cond b (x.0 ∷ filter t (names_of f)) (filter t (names_of f))) ≡ false) [
    | true ↦ ap (λ b. b || is_in n (filter t (names_of f))) (apart n x.0 all.0) ∙ not_among t n f all.1
    | false ↦ not_among t n f all.1
  ]

  -- what those in some namespaces are charged, by the namespaces
  by_names : (t : List ℕ → Bool) (f : Forest) (objects : Objects) → Ascends f → sum_by (charge_in objects r) (filter t (names_of f)) ≡ sum_by (charge_if (λ n. is_in n (filter t (names_of f)))) objects
  unfolding IsStrictlySortedBy
  by_names t [] objects sorted = sum_none objects
  by_names t (x ∷ f) objects sorted =
      elim (t x.0) as (λ b. sum_by (charge_in objects r) (cond b (x.0 ∷ filter t (names_of f)) (filter t (names_of f))) ≡ sum_by (charge_if (λ n. is_in n (cond b (x.0 ∷ filter t (names_of f)) (filter t (names_of f))))) objects) [
        | true ↦
            let rest = by_names t f objects sorted.1 in
            let out : (n : List ℕ) → bytes_eq n x.0 ≡ true → is_in n (filter t (names_of f)) ≡ false = λ n is. subst (λ (m : List ℕ). is_in m (filter t (names_of f)) ≡ false) (sym (is_same n x.0 is)) (not_among t x.0 f sorted.0) in
            omega (arith, sum_by-cons (charge_in objects r) x.0 (filter t (names_of f)), charge_in_by x.0 objects, rest, sum_parted (λ n. bytes_eq n x.0) (λ n. is_in n (filter t (names_of f))) out objects)
        | false ↦ by_names t f objects sorted.1
      ]

  -- a namespace is in the subtree where its chain has the name
  in_subtree : (f : Forest) (a n : List ℕ) → is_in n (subtree_of f a) ≡ in_chain f n a
  in_subtree f a n = in_below f n a ∙ elim (is_in n (names_of f)) as (λ b. is_in n (names_of f) ≡ b → (b && in_chain f n a) ≡ in_chain f n a) [
    | true ↦ λ there. refl
    | false ↦ λ out. sym (ap (is_in a) (chain_missing f n (names_have f n ∙ out)))
  ] refl

  same_charges : (s t : List ℕ → Bool) → ((n : List ℕ) → s n ≡ t n) → (objects : Objects) → sum_by (charge_if s) objects ≡ sum_by (charge_if t) objects
  same_charges s t same objects = ap (λ u. sum_by (charge_if u) objects) (λ i n. same n i)

  -- what those of a subtree are charged, by the namespaces in it
  pub used_by_names : (f : Forest) (a : List ℕ) (objects : Objects) → Ascends f → sum_by (charge_in objects r) (subtree_of f a) ≡ sum_by (charge_below f a r) objects
  used_by_names f a objects sorted = by_names (λ n. in_chain f n a) f objects sorted ∙ same_charges (λ n. is_in n (subtree_of f a)) (λ n. in_chain f n a) (in_subtree f a) objects
