-- Where names lie in a tree whose names ascend.
--     name_down            what is less than a name that is less
--     place_found          the first place that isn't before a name tells where it lies
--     IsPlace, found_at    what lies there;  so it is with what is found
--     none_at              a name that isn't found
--     same_places          two names are one where their places are
--     own_nodes            each node is found by its name
--     marked               the names of a list and one more, by the places
--     place_at_index       a name lies at its index
--     children_by          the children by their own nodes
use Rattle.std.proofs.Common.{◌≡◌, ℕ, zero, suc, ◌+◌, eqb, eqb-true, eq-eqb, Bool, true, false, cond, ◌||◌, List, [], ◌∷◌, ◌++◌, map, filter, drop, append_assoc, Option, Some, None, option_map, refl, sym, ap, ◌∙◌, subst, arith, true≢false}
use Rattle.std.specs.Prelude.{option_and_then, slice_get, slice_set}
use Rattle.std.specs.Cmp.{both_ways, tied_itself}
use Rattle.std.specs.Cmp.Lexicographic.{nat_list_cmp_total}
use Rattle.std.specs.FinMap.{nat_cmp-IsAntisymmetric, slice_cmp-IsAntisymmetric}
use Rattle.std.specs.List.{AllByRecursion, prefix_len}
use Rattle.std.specs.List.Sorted.{IsStrictlySortedBy}
use Rattle.std.specs.Option.{option_map_or}
use Rattle.std.specs.Ordering.{is_lt, is_eq, ordering_reverse}
use Rattle.std.specs.Str.{bytes_eq}
use Rattle.std.specs.declared.cmp.Ordering.{Ordering}
use Rattle.std.specs.declared.cmp.Ordering.TheVariants.{Less, Equal, Greater}
use Rattle.std.proofs.lemmas.Bool.{false_from_ne_true}
use Rattle.std.proofs.lemmas.List.Folds.{list_any-append}
use Rattle.std.proofs.lemmas.Option.{none-some, same_Some}
use Rattle.std.proofs.lemmas.Slice.Eq.{bytes_eq-Decides}
use Rattle.hx_object.specs.Texts.{bytes_cmp}
use Rattle.hx_model.specs.Forest.{Forest, is_in, names_of, node_of, is_child, children_of}
use Rattle.hx_model.specs.declared.node.Node.{Node}
use Rattle.hx_survey.specs.Inside.{Ascends, has_name, marks, names_parent, node_at, place_of}

-- ---- the order of names

is_same : (a b : List ℕ) → bytes_eq a b ≡ true → a ≡ b
is_same a b h = (bytes_eq-Decides a b).0 h

itself : (a : List ℕ) → bytes_eq a a ≡ true
itself a = (bytes_eq-Decides a a).1 refl

less : (o : Ordering) → is_lt o ≡ true → o ≡ Less
less Less h = refl
less Equal h = absurd (true≢false (sym h))
less Greater h = absurd (true≢false (sym h))

-- what is less than a name that is less
pub name_down : (n a b : List ℕ) → bytes_cmp a b ≡ Less → is_lt (bytes_cmp b n) ≡ true → is_lt (bytes_cmp a n) ≡ true
name_down n a b h low = ap is_lt (nat_list_cmp_total.trans a b n h (less (bytes_cmp b n) low))

tied : (a : List ℕ) → bytes_cmp a a ≡ Equal
tied a = tied_itself nat_list_cmp_total a

apart_by : (a b : List ℕ) (o : Ordering) → bytes_cmp a b ≡ o → is_eq o ≡ false → bytes_eq a b ≡ false
apart_by a b o is out = false_from_ne_true (bytes_eq a b) (λ h. true≢false (sym (ap is_eq (sym is ∙ subst (λ (x : List ℕ). bytes_cmp a x ≡ Equal) (is_same a b h) (tied a))) ∙ out))

-- names of which one is less differ
pub apart : (a b : List ℕ) → bytes_cmp a b ≡ Less → bytes_eq a b ≡ false
apart a b h = apart_by a b Less h refl

pub flipped : (a b : List ℕ) → bytes_eq a b ≡ bytes_eq b a
flipped a b = both_ways (bytes_eq a b) (bytes_eq b a) (turn a b) (turn b a)
  where
    turn : (x y : List ℕ) → bytes_eq x y ≡ true → bytes_eq y x ≡ true
    turn x y h = subst (λ (z : List ℕ). bytes_eq y z ≡ true) (sym (is_same x y h)) (itself y)

-- ---- where a name lies

-- what a place tells of a name
abbrev pub place_if : List ℕ → ℕ → Option (List ℕ × Node) → Option ℕ
place_if n k o = cond (has_name n o) (Some k) None

abbrev before_in : List ℕ → Forest → ℕ
before_in n f = prefix_len (λ (e : List ℕ × Node). is_lt (bytes_cmp e.0 n)) f

further : (n : List ℕ) (k : ℕ) (o : Option (List ℕ × Node)) → place_if n (suc k) o ≡ option_map (λ i. suc i) (place_if n k o)
further n k None = refl
further n k (Some e) = elim (bytes_eq n e.0) as (λ b. cond b (Some (suc k)) None ≡ option_map (λ i. suc i) (cond b (Some k) None)) [ true ↦ refl | false ↦ refl ]

none_behind : (n : List ℕ) (x : List ℕ × Node) (f : Forest) → bytes_cmp n x.0 ≡ Less → AllByRecursion (λ (e : List ℕ × Node). bytes_cmp x.0 e.0 ≡ Less) f → place_of f n ≡ None
none_behind n x [] h all = refl
none_behind n x (e ∷ f) h all =
    ap (λ b. cond b (Some 0) (option_map (λ i. suc i) (place_of f n))) (apart n e.0 (nat_list_cmp_total.trans n x.0 e.0 h all.0))
    ∙ ap (λ o. option_map (λ i. suc i) o) (none_behind n x f h all.1)

-- the first place that isn't before a name tells where it lies
pub place_found : (n : List ℕ) (f : Forest) → Ascends f → place_if n (before_in n f) (slice_get f (before_in n f)) ≡ place_of f n
unfolding IsStrictlySortedBy
place_found n [] sorted = refl
place_found n (x ∷ f) sorted = elim (bytes_cmp x.0 n) as (λ o. bytes_cmp x.0 n ≡ o → place_if n (cond (is_lt o) (1 + before_in n f) 0) (slice_get (x ∷ f) (cond (is_lt o) (1 + before_in n f) 0)) ≡ place_of (x ∷ f) n) [
  | Less ↦ λ e.
      let next : 1 + before_in n f ≡ suc (before_in n f) = omega arith in
      let out : bytes_eq n x.0 ≡ false = flipped n x.0 ∙ apart x.0 n e in
      ap (λ k. place_if n k (slice_get (x ∷ f) k)) next ∙ further n (before_in n f) (slice_get f (before_in n f)) ∙ ap (λ o. option_map (λ i. suc i) o) (place_found n f sorted.1)
      ∙ sym (ap (λ b. cond b (Some 0) (option_map (λ i. suc i) (place_of f n))) out)
  | Equal ↦ λ e.
      let same : x.0 ≡ n = slice_cmp-IsAntisymmetric nat_cmp-IsAntisymmetric x.0 n e in
      let here : bytes_eq n x.0 ≡ true = subst (λ (y : List ℕ). bytes_eq y x.0 ≡ true) same (itself x.0) in
      ap (λ b. cond b (Some 0) None) here ∙ sym (ap (λ b. cond b (Some 0) (option_map (λ i. suc i) (place_of f n))) here)
  | Greater ↦ λ e.
      let low : bytes_cmp n x.0 ≡ Less = nat_list_cmp_total.antisymm n x.0 ∙ ap ordering_reverse e in
      let out : bytes_eq n x.0 ≡ false = apart n x.0 low in
      ap (λ b. cond b (Some 0) None) out
      ∙ sym (ap (λ b. cond b (Some 0) (option_map (λ i. suc i) (place_of f n))) out ∙ ap (λ o. option_map (λ i. suc i) o) (none_behind n x f low sorted.0))
] refl

-- so what is found there decides
pub place_by : (n : List ℕ) (f : Forest) (k : ℕ) (b : Bool) → Ascends f → k ≡ prefix_len (λ (e : List ℕ × Node). is_lt (bytes_cmp e.0 n)) f → has_name n (slice_get f k) ≡ b → cond b (Some k) None ≡ place_of f n
place_by n f k b sorted is test = ap (λ t. cond t (Some k) None) (sym test) ∙ ap (λ j. place_if n j (slice_get f j)) is ∙ place_found n f sorted

-- ---- what lies there

pub record IsPlace (f : Forest) (n : List ℕ) (k : ℕ) : Type 0 where
  pub node : Node
  pub entry : slice_get f k ≡ Some (n, node)
  pub found : node_of f n ≡ Some node

-- what is found lies there
pub found_at : (f : Forest) (n : List ℕ) (k : ℕ) → place_of f n ≡ Some k → IsPlace f n k
found_at [] n k h = absurd (none-some k h)
found_at (x ∷ f) n k h = elim (bytes_eq n x.0) as (λ b. bytes_eq n x.0 ≡ b → cond b (Some 0) (option_map (λ i. suc i) (place_of f n)) ≡ Some k → IsPlace (x ∷ f) n k) [
  | true ↦ λ e is. subst (λ (j : ℕ). IsPlace (x ∷ f) n j) (same_Some 0 k is) (record { node = x.1; entry = λ i. Some (sym (is_same n x.0 e) i, x.1); found = ap (λ b. cond b (Some x.1) (node_of f n)) e })
  | false ↦ λ e is. behind e (found_at f n) (place_of f n) refl is
] refl h
  where
    behind : bytes_eq n x.0 ≡ false → ((j : ℕ) → place_of f n ≡ Some j → IsPlace f n j) → (o : Option ℕ) → place_of f n ≡ o → option_map (λ i. suc i) o ≡ Some k → IsPlace (x ∷ f) n k
    behind e on None is h = absurd (none-some k h)
    behind e on (Some j) is h =
        let there = on j is in
        subst (λ (i : ℕ). IsPlace (x ∷ f) n i) (same_Some (suc j) k h) (record { node = there.node; entry = there.entry; found = ap (λ b. cond b (Some x.1) (node_of f n)) e ∙ there.found })

not_suc : (o : Option ℕ) → option_map (λ i. suc i) o ≡ None → o ≡ None
not_suc None h = refl
not_suc (Some i) h = absurd (none-some (suc i) (sym h))

-- what is found is the node
pub node_there : (f : Forest) (n : List ℕ) (k : ℕ) → place_of f n ≡ Some k → option_map (λ (e : List ℕ × Node). e.1) (slice_get f k) ≡ node_of f n
node_there f n k h = let there = found_at f n k h in ap (λ o. option_map (λ (e : List ℕ × Node). e.1) o) there.entry ∙ sym there.found

-- a name that isn't found has no node
pub none_at : (f : Forest) (n : List ℕ) → place_of f n ≡ None → node_of f n ≡ None
none_at [] n h = refl
none_at (x ∷ f) n h = elim (bytes_eq n x.0) as (λ b. cond b (Some 0) (option_map (λ i. suc i) (place_of f n)) ≡ None → cond b (Some x.1) (node_of f n) ≡ None) [
  | true ↦ λ e. absurd (none-some 0 (sym e))
  | false ↦ λ e. none_at f n (not_suc (place_of f n) e)
] h

inside : (a b : List ℕ × Node) → Some a ≡ Some b → a ≡ b
inside a b h = same_Some a b h

-- the node where a name lies is its node
pub node_place : (f : Forest) (n : List ℕ) → node_at f (place_of f n) ≡ node_of f n
node_place f n = at (place_of f n) refl
  where
    at : (o : Option ℕ) → place_of f n ≡ o → node_at f o ≡ node_of f n
    at None is = sym (none_at f n is)
    at (Some k) is = node_there f n k is

-- two names are one where their places are
pub same_places : (f : Forest) (n m : List ℕ) (i j : ℕ) → place_of f n ≡ Some i → place_of f m ≡ Some j → bytes_eq m n ≡ eqb i j
same_places f n m i j here there = both_ways (bytes_eq m n) (eqb i j)
    (λ h. eq-eqb i j (same_Some i j (sym here ∙ ap (place_of f) (sym (is_same m n h)) ∙ there)))
    (λ h.
    let first = found_at f n i here in
    let second = found_at f m j there in
    let one : i ≡ j = eqb-true i j h in
    let both : Some (m, second.node) ≡ Some (n, first.node) = sym second.entry ∙ ap (slice_get f) (sym one) ∙ first.entry in
    subst (λ (y : List ℕ). bytes_eq m y ≡ true) (ap (λ (e : List ℕ × Node). e.0) (inside (m, second.node) (n, first.node) both)) (itself m))

-- ---- own nodes

-- what holds of all that is greater
all_through : {P Q : List ℕ × Node → Type 0} (f : Forest) → ((e : List ℕ × Node) → P e → Q e) → AllByRecursion P f → AllByRecursion Q f
all_through [] step all = tt
all_through (x ∷ f) step all = (step x all.0, all_through f step all.1)

both_hold : (P Q : List ℕ × Node → Type 0) (f : Forest) → AllByRecursion P f → AllByRecursion Q f → AllByRecursion (λ e. P e × Q e) f
both_hold P Q [] p q = tt
both_hold P Q (x ∷ f) p q = ((p.0, q.0), both_hold P Q f p.1 q.1)

-- each node is found by its name
pub own_nodes : (f : Forest) → Ascends f → AllByRecursion (λ (e : List ℕ × Node). node_of f e.0 ≡ Some e.1) f
unfolding IsStrictlySortedBy
own_nodes [] sorted = tt
own_nodes (x ∷ f) sorted = (
  ap (λ b. cond b (Some x.1) (node_of f x.0)) (itself x.0),
  all_through f (λ e both. ap (λ b. cond b (Some x.1) (node_of f e.0)) (flipped e.0 x.0 ∙ apart x.0 e.0 both.0) ∙ both.1)
      (both_hold (λ (e : List ℕ × Node). bytes_cmp x.0 e.0 ≡ Less) (λ (e : List ℕ × Node). node_of f e.0 ≡ Some e.1) f sorted.0 (own_nodes f sorted.1)),
)

-- the names by a test of the nodes that answers alike
pub names_by : (p : List ℕ → Bool) (t : List ℕ × Node → Bool) (f : Forest) → AllByRecursion (λ (e : List ℕ × Node). p e.0 ≡ t e) f → map (λ (e : List ℕ × Node). e.0) (filter t f) ≡ filter p (names_of f)
names_by p t [] all = refl
names_by p t (x ∷ f) all = by (names_by p t f all.1) (t x) refl
  where
    by : map (λ (e : List ℕ × Node). e.0) (filter t f) ≡ filter p (names_of f) → (b : Bool) → t x ≡ b → map (λ (e : List ℕ × Node). e.0) (cond b (x ∷ filter t f) (filter t f)) ≡ filter p (names_of (x ∷ f))
    by rest true is = ap (λ names. x.0 ∷ names) rest ∙ sym (ap (λ b. cond b (x.0 ∷ filter p (names_of f)) (filter p (names_of f))) (all.0 ∙ is))
    by rest false is = rest ∙ sym (ap (λ b. cond b (x.0 ∷ filter p (names_of f)) (filter p (names_of f))) (all.0 ∙ is))

-- the children, each by its own node
pub children_by : (f : Forest) (n : List ℕ) → Ascends f → map (λ (e : List ℕ × Node). e.0) (filter (λ (e : List ℕ × Node). names_parent n e.1) f) ≡ children_of f n
children_by f n sorted = names_by (is_child f n) (λ (e : List ℕ × Node). names_parent n e.1) f
    (all_through f (λ e is. ap (λ o. option_map_or (bytes_eq n) (option_and_then (λ (node : Node). node.parent) o) false) is) (own_nodes f sorted))

-- ---- marks

push_in : (a n : List ℕ) (built : List (List ℕ)) (b : Bool) → bytes_eq a n ≡ b → is_in a (built ++ n ∷ []) ≡ (is_in a built || (b || false))
push_in a n built b is = list_any-append (bytes_eq a) built (n ∷ []) ∙ ap (λ t. is_in a built || (t || false)) is

kept : (b : Bool) → (b || (false || false)) ≡ b
kept true = refl
kept false = refl

taken : (b : Bool) → (b || (true || false)) ≡ true
taken true = refl
taken false = refl

marks_behind : (n : List ℕ) (built : List (List ℕ)) (f : Forest) → AllByRecursion (λ (e : List ℕ × Node). bytes_cmp n e.0 ≡ Less) f → marks built f ≡ marks (built ++ n ∷ []) f
marks_behind n built [] all = refl
marks_behind n built (x ∷ f) all =
    let head : is_in x.0 built ≡ is_in x.0 (built ++ n ∷ []) = sym (push_in x.0 n built false (flipped x.0 n ∙ apart n x.0 all.0) ∙ kept (is_in x.0 built)) in
    λ i. head i ∷ marks_behind n built f all.1 i

-- what lies at an index behind a name
below_at : (m : List ℕ) (g : Forest) (j : ℕ) (n : List ℕ) (node : Node) → slice_get g j ≡ Some (n, node) → AllByRecursion (λ (e : List ℕ × Node). bytes_cmp m e.0 ≡ Less) g → bytes_cmp m n ≡ Less
below_at m [] j n node h all = absurd (none-some (n, node) h)
below_at m (y ∷ g) zero n node h all = subst (λ (z : List ℕ). bytes_cmp m z ≡ Less) (ap (λ (e : List ℕ × Node). e.0) (inside y (n, node) h)) all.0
below_at m (y ∷ g) (suc j) n node h all = below_at m g j n node h all.1

-- with one more name, what lies at its place is marked too
pub marked : (f : Forest) (built : List (List ℕ)) (n : List ℕ) (node : Node) (k : ℕ) → Ascends f → slice_get f k ≡ Some (n, node) → slice_set (marks built f) k true ≡ marks (built ++ n ∷ []) f
unfolding IsStrictlySortedBy
marked [] built n node k sorted here = absurd (none-some (n, node) here)
marked (x ∷ f) built n node zero sorted here =
    let same : x.0 ≡ n = ap (λ (e : List ℕ × Node). e.0) (inside x (n, node) here) in
    let head : true ≡ is_in x.0 (built ++ n ∷ []) = sym (push_in x.0 n built true (subst (λ (y : List ℕ). bytes_eq x.0 y ≡ true) same (itself x.0)) ∙ taken (is_in x.0 built)) in
    let rest = marks_behind n built f (subst (λ (y : List ℕ). AllByRecursion (λ (e : List ℕ × Node). bytes_cmp y e.0 ≡ Less) f) same sorted.0) in
    λ i. head i ∷ rest i
marked (x ∷ f) built n node (suc k) sorted here =
    let low : bytes_cmp x.0 n ≡ Less = below_at x.0 f k n node here sorted.0 in
    let head : is_in x.0 built ≡ is_in x.0 (built ++ n ∷ []) = sym (push_in x.0 n built false (apart x.0 n low) ∙ kept (is_in x.0 built)) in
    λ i. head i ∷ marked f built n node k sorted.1 here i

-- ---- places of names

-- a name lies at its index
pub place_at_index : (f : Forest) (k : ℕ) (n : List ℕ) (node : Node) → Ascends f → slice_get f k ≡ Some (n, node) → place_of f n ≡ Some k
unfolding IsStrictlySortedBy
place_at_index [] k n node sorted here = absurd (none-some (n, node) here)
place_at_index (x ∷ f) zero n node sorted here =
    let same : x.0 ≡ n = ap (λ (e : List ℕ × Node). e.0) (inside x (n, node) here) in
    ap (λ b. cond b (Some 0) (option_map (λ i. suc i) (place_of f n))) (subst (λ (y : List ℕ). bytes_eq y x.0 ≡ true) same (itself x.0))
place_at_index (x ∷ f) (suc k) n node sorted here =
    ap (λ b. cond b (Some 0) (option_map (λ i. suc i) (place_of f n))) (flipped n x.0 ∙ apart x.0 n (below_at x.0 f k n node here sorted.0))
    ∙ ap (λ o. option_map (λ i. suc i) o) (place_at_index f k n node sorted.1 here)

-- ---- a list of names so far

drop_at : (f : Forest) (k : ℕ) (e : List ℕ × Node) → slice_get f k ≡ Some e → drop k f ≡ e ∷ drop (k + 1) f
drop_at [] k e here = absurd (none-some e here)
drop_at (x ∷ f) zero e here = ap (λ y. y ∷ f) (inside x e here)
drop_at (x ∷ f) (suc k) e here =
    let next : suc k + 1 ≡ suc (k + 1) = omega arith in
    drop_at f k e here ∙ sym (ap (λ j. e ∷ drop j (x ∷ f)) next)

-- one more that a test takes
pub name_kept : (t : List ℕ × Node → Bool) (f : Forest) (k : ℕ) (e : List ℕ × Node) (names all : List (List ℕ)) → slice_get f k ≡ Some e → t e ≡ true
    → names ++ map (λ (x : List ℕ × Node). x.0) (filter t (drop k f)) ≡ all → (names ++ e.0 ∷ []) ++ map (λ (x : List ℕ × Node). x.0) (filter t (drop (k + 1) f)) ≡ all
name_kept t f k e names all here passes so_far =
    append_assoc names (e.0 ∷ []) (map (λ (x : List ℕ × Node). x.0) (filter t (drop (k + 1) f)))
    ∙ sym (ap (λ (xs : Forest). names ++ map (λ (x : List ℕ × Node). x.0) (filter t xs)) (drop_at f k e here)
    ∙ ap (λ b. names ++ map (λ (x : List ℕ × Node). x.0) (cond b (e ∷ filter t (drop (k + 1) f)) (filter t (drop (k + 1) f)))) passes)
    ∙ so_far

-- and one that it doesn't
pub name_passed : (t : List ℕ × Node → Bool) (f : Forest) (k : ℕ) (e : List ℕ × Node) (names all : List (List ℕ)) → slice_get f k ≡ Some e → t e ≡ false
    → names ++ map (λ (x : List ℕ × Node). x.0) (filter t (drop k f)) ≡ all → names ++ map (λ (x : List ℕ × Node). x.0) (filter t (drop (k + 1) f)) ≡ all
name_passed t f k e names all here fails so_far =
    sym (ap (λ (xs : Forest). names ++ map (λ (x : List ℕ × Node). x.0) (filter t xs)) (drop_at f k e here)
    ∙ ap (λ b. names ++ map (λ (x : List ℕ × Node). x.0) (cond b (e ∷ filter t (drop (k + 1) f)) (filter t (drop (k + 1) f)))) fails)
    ∙ so_far
