-- A write of a removal or a subnamespace leaves less to do.
--     count_most, count_less     a test that holds of fewer objects counts no more;  where it fails of one, it counts less
--     IsLess              fewer namespaces are on their way out, and none that is live ceases to be
--     early_writes
--     most_falls                 what is left to do is no more than if each anchor asked
use Rattle.std.proofs.Common.{◌≡◌, ◌≤◌, ◌<◌, ◌+◌, ◌⊎◌, ℕ, suc, Bool, true, false, cond, not, ◌&&◌, Option, Some, None, List, [], ◌∷◌, filter, length, option_map, Less, Equal, Greater, inl, inr, refl, sym, ap, ◌∙◌, subst, true≢false, arith}
use Rattle.std.specs.FinMap.Entries.{by_order}
use Rattle.std.specs.Option.{option_map_or}
use Rattle.std.specs.Prelude.{is_some}
use Rattle.std.specs.List.{list_any}
use Rattle.std.proofs.lemmas.Bool.{and_from, and_parts, cases_Bool, false_from_ne_true, or_cases, or_left, or_right}
use Rattle.hx_object.specs.Kinds.{is_anchor, is_in_cluster, is_namespace}
use Rattle.hx_object.specs.Order.{id_cmp}
use Rattle.hx_object.specs.declared.object.Id.{Id}
use Rattle.hx_object.specs.declared.object.Object.{Object}
use Rattle.hx_model.specs.Cases.{is_leaving}
use Rattle.hx_model.specs.Forest.{is_live, node_of}
use Rattle.hx_model.specs.State.{State, Objects, cut, least_in, object_at, put, same_id, namespace_id, state_after, with_version}
use Rattle.hx_model.specs.Subnamespaces.{anchor_id}
use Rattle.hx_model.specs.Tree.{forest_of, is_terminating, node_in}
use Rattle.hx_model.specs.Valid.{IsValid}
use Rattle.hx_model.specs.Wanted.{least_id, next_to_go, subnamespace}
use Rattle.hx_model.specs.declared.key.Key.TheVariants as key
use Rattle.hx_model.specs.declared.key.Write.{Write}
use Rattle.hx_model.specs.declared.key.Write.TheVariants.{Put, Cut}
use Rattle.hx_model.specs.declared.node.Node.{Node}
use Rattle.hx_model.proofs.Climbing.{is_same}
use Rattle.hx_model.proofs.Objects.{found_id, is_same_id, object_at-cut, object_at-put}
use Rattle.hx_model.proofs.Passing.{passing_object}
use Rattle.hx_model.proofs.Planting.{node_of-objects}
use Rattle.hx_marks.proofs.Frames.{least_lies}
use Rattle.hx_marks.proofs.Making.{IsChildWrite, IsRemovalWrite, child_write_known, removal_write_known}
use Rattle.hx_model.proofs.Naming.{same_itself as id_itself}
use Rattle.hx_marks.proofs.Permitting.{least_at}
use Rattle.hx_marks.proofs.Replacing.{leaving_found, valid_served}
use Rattle.hx_bound.specs.Bound.{EarlyWrites, count, is_asking, is_going, left_of, most_left, next_of}
use Rattle.hx_bound.proofs.KeysStaying.{next_valid}

-- ---- counts

-- one more passes where the first one does
first_counts : (t : Object → Bool) (x : Object) (xs : Objects) → (t x ≡ true → count t (x ∷ xs) ≡ count t xs + 1) × (t x ≡ false → count t (x ∷ xs) ≡ count t xs)
first_counts t x xs = (λ is. ap (λ b. length (cond b (x ∷ filter t xs) (filter t xs))) is ∙ one (count t xs), λ out. ap (λ b. length (cond b (x ∷ filter t xs) (filter t xs))) out)
  where
    one : (n : ℕ) → suc n ≡ n + 1
    one n = omega arith

module _ (t u : Object → Bool) (less : (x : Object) → u x ≡ true → t x ≡ true) where
  -- a test that holds of fewer
  pub count_most : (xs : Objects) → count u xs ≤ count t xs
  count_most [] = omega arith
  count_most (x ∷ xs) = by (cases_Bool (u x)) (cases_Bool (t x)) (count_most xs)
    where
      by : (u x ≡ true) ⊎ (u x ≡ false) → (t x ≡ true) ⊎ (t x ≡ false) → count u xs ≤ count t xs → count u (x ∷ xs) ≤ count t (x ∷ xs)
      by (inl a) (inl b) rest = let p = (first_counts u x xs).0 a in let q = (first_counts t x xs).0 b in omega (arith, p, q, rest)
      by (inl a) (inr b) rest = absurd (true≢false (sym (less x a) ∙ b))
      by (inr a) (inl b) rest = let p = (first_counts u x xs).1 a in let q = (first_counts t x xs).0 b in omega (arith, p, q, rest)
      by (inr a) (inr b) rest = let p = (first_counts u x xs).1 a in let q = (first_counts t x xs).1 b in omega (arith, p, q, rest)

  -- and fails of one
  pub count_less : (xs : Objects) → list_any (λ x. t x && not (u x)) xs ≡ true → count u xs < count t xs
  count_less [] h = absurd (true≢false (sym h))
  count_less (x ∷ xs) h = by (cases_Bool (u x)) (cases_Bool (t x)) (or_cases (t x && not (u x)) (list_any (λ y. t y && not (u y)) xs) h) (count_most xs) (count_less xs)
    where
      by : (u x ≡ true) ⊎ (u x ≡ false) → (t x ≡ true) ⊎ (t x ≡ false) → ((t x && not (u x)) ≡ true) ⊎ (list_any (λ y. t y && not (u y)) xs ≡ true) → count u xs ≤ count t xs → (list_any (λ y. t y && not (u y)) xs ≡ true → count u xs < count t xs) → count u (x ∷ xs) < count t (x ∷ xs)
      by (inl a) (inl b) (inl here) most rest = absurd (true≢false (sym (and_parts (t x) _ here).1 ∙ ap not a))
      by (inl a) (inl b) (inr later) most rest = let p = (first_counts u x xs).0 a in let q = (first_counts t x xs).0 b in let r = rest later in omega (arith, p, q, r)
      by (inl a) (inr b) _ most rest = absurd (true≢false (sym (less x a) ∙ b))
      by (inr a) (inl b) _ most rest = let p = (first_counts u x xs).1 a in let q = (first_counts t x xs).0 b in omega (arith, p, q, most)
      by (inr a) (inr b) (inl here) most rest = absurd (true≢false (sym (and_parts (t x) _ here).0 ∙ b))
      by (inr a) (inr b) (inr later) most rest = let p = (first_counts u x xs).1 a in let q = (first_counts t x xs).1 b in let r = rest later in omega (arith, p, q, r)

-- what passes among those that are kept
count_kept : (t keep : Object → Bool) (xs : Objects) → count t (filter keep xs) ≡ count (λ x. keep x && t x) xs
count_kept t keep [] = refl
count_kept t keep (x ∷ xs) = elim (keep x) as (λ b. length (filter t (cond b (x ∷ filter keep xs) (filter keep xs))) ≡ length (cond (b && t x) (x ∷ filter (λ y. keep y && t y) xs) (filter (λ y. keep y && t y) xs))) [
  | true ↦ elim (t x) as (λ b. length (cond b (x ∷ filter t (filter keep xs)) (filter t (filter keep xs))) ≡ length (cond b (x ∷ filter (λ y. keep y && t y) xs) (filter (λ y. keep y && t y) xs))) [
    | true ↦ ap (λ n. suc n) (count_kept t keep xs)
    | false ↦ count_kept t keep xs
  ]
  | false ↦ count_kept t keep xs
]

-- an object that doesn't pass counts nothing
count_put : (t : Object → Bool) (x : Object) (objects : Objects) → t x ≡ false → count t (put x objects) ≤ count t objects
count_put t x [] out = let none = (first_counts t x []).1 out in omega (arith, none)
count_put t x (y ∷ objects) out = elim (id_cmp x.id y.id) as (λ o. count t (by_order o (x ∷ y ∷ objects) (x ∷ objects) (y ∷ put x objects)) ≤ count t (y ∷ objects)) [
  | Less ↦ let none = (first_counts t x (y ∷ objects)).1 out in omega (arith, none)
  | Equal ↦ let none = (first_counts t x objects).1 out in let more = more_counts y objects in omega (arith, none, more)
  | Greater ↦ by (cases_Bool (t y)) (count_put t x objects out)
]
  where
    more_counts : (z : Object) (zs : Objects) → count t zs ≤ count t (z ∷ zs)
    more_counts z zs = elim (cases_Bool (t z)) [
      | inl is ↦ let p = (first_counts t z zs).0 is in omega (arith, p)
      | inr fails ↦ let p = (first_counts t z zs).1 fails in omega (arith, p)
    ]

    by : (t y ≡ true) ⊎ (t y ≡ false) → count t (put x objects) ≤ count t objects → count t (y ∷ put x objects) ≤ count t (y ∷ objects)
    by (inl is) rest = let p = (first_counts t y (put x objects)).0 is in let q = (first_counts t y objects).0 is in omega (arith, p, q, rest)
    by (inr fails) rest = let p = (first_counts t y (put x objects)).1 fails in let q = (first_counts t y objects).1 fails in omega (arith, p, q, rest)

-- ---- who is on its way out

abbrev leaves_by : Option Object → Bool
leaves_by o = option_map_or (λ (x : Object). is_terminating x.payload) o false

abbrev lives_by : Option Object → Bool
lives_by o = option_map_or (λ (x : Object). not (is_terminating x.payload)) o false

module _ (s : State) (valid : IsValid s) (n : List ℕ) where
  nodes : node_of (forest_of s) n ≡ option_map (node_in s.config.excluded s.objects) (object_at s.objects (namespace_id n))
  nodes = node_of-objects s.config.excluded s.objects n (valid_served s valid)

  leaves_is : is_leaving (forest_of s) n ≡ leaves_by (object_at s.objects (namespace_id n))
  leaves_is = ap (λ o. option_map_or (λ (node : Node). node.terminating) o false) nodes ∙ by (object_at s.objects (namespace_id n))
    where
      by : (o : Option Object) → option_map_or (λ (node : Node). node.terminating) (option_map (node_in s.config.excluded s.objects) o) false ≡ leaves_by o
      by None = refl
      by (Some x) = refl

  lives_is : is_live (forest_of s) n ≡ lives_by (object_at s.objects (namespace_id n))
  lives_is = ap (λ o. option_map_or (λ (node : Node). not node.terminating) o false) nodes ∙ by (object_at s.objects (namespace_id n))
    where
      by : (o : Option Object) → option_map_or (λ (node : Node). not node.terminating) (option_map (node_in s.config.excluded s.objects) o) false ≡ lives_by o
      by None = refl
      by (Some x) = refl

-- no more are on their way out, and no fewer are live
record IsLess (s t : State) : Type 0 where
  leaving : (n : List ℕ) → is_leaving (forest_of t) n ≡ true → is_leaving (forest_of s) n ≡ true
  live : (n : List ℕ) → is_live (forest_of s) n ≡ true → is_live (forest_of t) n ≡ true

-- it is enough to say so of the namespaces that are found
less_by : (s t : State) → IsValid s → IsValid t
    → ((n : List ℕ) → (leaves_by (object_at t.objects (namespace_id n)) ≡ true → leaves_by (object_at s.objects (namespace_id n)) ≡ true) × (lives_by (object_at s.objects (namespace_id n)) ≡ true → lives_by (object_at t.objects (namespace_id n)) ≡ true))
    → IsLess s t
less_by s t before after each = record {
  leaving = λ n h. leaves_is s before n ∙ (each n).0 (sym (leaves_is t after n) ∙ h);
  live = λ n h. lives_is t after n ∙ (each n).1 (sym (lives_is s before n) ∙ h);
}

module _ (s t : State) (less : IsLess s t) where
  going_less : (x : Object) → is_going (forest_of t) x ≡ true → is_going (forest_of s) x ≡ true
  going_less x h = elim (or_cases (not (is_in_cluster x.id.kind) && is_leaving (forest_of t) x.id.ns) (is_namespace x.id.kind && is_terminating x.payload) h) [
    | inl inside ↦
        let parts = and_parts (not (is_in_cluster x.id.kind)) _ inside in
        or_left (not (is_in_cluster x.id.kind) && is_leaving (forest_of s) x.id.ns) _ (and_from (not (is_in_cluster x.id.kind)) (is_leaving (forest_of s) x.id.ns) parts.0 (less.leaving x.id.ns parts.1))
    | inr itself ↦ or_right (not (is_in_cluster x.id.kind) && is_leaving (forest_of s) x.id.ns) _ itself
  ]

  asking_less : (x : Object) → is_asking (forest_of t) x ≡ true → is_asking (forest_of s) x ≡ true
  asking_less x h =
      let parts = and_parts (is_anchor x.id.kind) _ h in
      let dead : is_live (forest_of s) x.id.name ≡ false = false_from_ne_true (is_live (forest_of s) x.id.name) (λ lives. true≢false (sym parts.1 ∙ ap not (less.live x.id.name lives))) in
      and_from (is_anchor x.id.kind) (not (is_live (forest_of s) x.id.name)) parts.0 (ap not dead)

-- ---- removals

module _ (s : State) (id : Id) (less : IsLess s (state_after s (Cut id ∷ []))) where
  abbrev t : State
  t = state_after s (Cut id ∷ [])

  abbrev keep : Object → Bool
  keep x = not (same_id id x.id)

  -- where what goes was on its way out
  cut_falls : (x : Object) → object_at s.objects id ≡ Some x → is_going (forest_of s) x ≡ true → left_of t < left_of s
  cut_falls x at going =
      let g = is_going (forest_of t) in
      let a = is_asking (forest_of t) in
      let gone : keep x ≡ false = ap not (subst (λ (q : Id). same_id id q ≡ true) (found_id s.objects id x at) (id_itself id)) in
      let found : list_any (λ y. is_going (forest_of s) y && not (keep y && g y)) s.objects ≡ true =
      passing_object (λ y. is_going (forest_of s) y && not (keep y && g y)) s.objects id x at (and_from (is_going (forest_of s) x) (not (keep x && g x)) going (ap (λ b. not (b && g x)) gone)) in
      let falls : count (λ y. keep y && g y) s.objects < count (is_going (forest_of s)) s.objects =
      count_less (is_going (forest_of s)) (λ y. keep y && g y) (λ y h. going_less s t less y (and_parts (keep y) (g y) h).1) s.objects found in
      let stays : count (λ y. keep y && a y) s.objects ≤ count (is_asking (forest_of s)) s.objects =
      count_most (is_asking (forest_of s)) (λ y. keep y && a y) (λ y h. asking_less s t less y (and_parts (keep y) (a y) h).1) s.objects in
      let p = count_kept g keep s.objects in
      let q = count_kept a keep s.objects in
      omega (arith, falls, stays, p, q)

-- the namespaces after a cut
cut_homes : (s : State) (id : Id) → IsValid s → IsValid (state_after s (Cut id ∷ [])) → ((n : List ℕ) → same_id (namespace_id n) id ≡ true → lives_by (object_at s.objects (namespace_id n)) ≡ false) → IsLess s (state_after s (Cut id ∷ []))
cut_homes s id before after dead = less_by s (state_after s (Cut id ∷ [])) before after (λ n. by n (same_id (namespace_id n) id) refl)
  where
    by : (n : List ℕ) (b : Bool) → same_id (namespace_id n) id ≡ b
        → (leaves_by (object_at (cut id s.objects) (namespace_id n)) ≡ true → leaves_by (object_at s.objects (namespace_id n)) ≡ true) × (lives_by (object_at s.objects (namespace_id n)) ≡ true → lives_by (object_at (cut id s.objects) (namespace_id n)) ≡ true)
    by n true is =
        let gone : object_at (cut id s.objects) (namespace_id n) ≡ None = object_at-cut id s.objects (namespace_id n) ∙ ap (λ b. cond b None (object_at s.objects (namespace_id n))) is in
        (λ h. absurd (true≢false (sym h ∙ ap leaves_by gone)), λ h. absurd (true≢false (sym h ∙ dead n is)))
    by n false apart =
        let same : object_at (cut id s.objects) (namespace_id n) ≡ object_at s.objects (namespace_id n) = object_at-cut id s.objects (namespace_id n) ∙ ap (λ b. cond b None (object_at s.objects (namespace_id n))) apart in
        (λ h. sym (ap leaves_by same) ∙ h, λ h. ap lives_by same ∙ h)

removal_falls : (s : State) (n : List ℕ) → IsValid s → is_leaving (forest_of s) n ≡ true → (least : Option Object) → least_in s.objects n ≡ least → (id : Id) → id ≡ next_to_go (option_map (λ (x : Object). x.id) least) n → IsValid (state_after s (Cut id ∷ [])) → left_of (state_after s (Cut id ∷ [])) < left_of s
removal_falls s n valid leaves None none id is after =
    let home = leaving_found s valid n leaves in
    let at : object_at s.objects id ≡ Some home.0 = ap (object_at s.objects) is ∙ home.1 in
    let place : namespace_id n ≡ home.0.id = found_id s.objects (namespace_id n) home.0 home.1 in
    let going : is_going (forest_of s) home.0 ≡ true =
    or_right (not (is_in_cluster home.0.id.kind) && is_leaving (forest_of s) home.0.id.ns) (is_namespace home.0.id.kind && is_terminating home.0.payload) (and_from (is_namespace home.0.id.kind) (is_terminating home.0.payload) (ap (λ (q : Id). is_namespace q.kind) (sym place)) home.2) in
    cut_falls s id (cut_homes s id valid after (λ m same. ap (λ (q : Id). lives_by (object_at s.objects q)) (is_same_id (namespace_id m) id same) ∙ ap lives_by at ∙ ap not home.2)) home.0 at going
removal_falls s n valid leaves (Some x) first id is after =
    let lies = least_lies s.objects n x first in
    let parts = and_parts (not (is_in_cluster x.id.kind)) _ lies in
    let at : object_at s.objects id ≡ Some x = ap (object_at s.objects) is ∙ least_at s.objects n x valid.in_order first in
    let going : is_going (forest_of s) x ≡ true =
    or_left (not (is_in_cluster x.id.kind) && is_leaving (forest_of s) x.id.ns) (is_namespace x.id.kind && is_terminating x.payload) (and_from (not (is_in_cluster x.id.kind)) (is_leaving (forest_of s) x.id.ns) parts.0 (ap (is_leaving (forest_of s)) (sym (is_same n x.id.ns parts.1)) ∙ leaves)) in
    cut_falls s id (cut_homes s id valid after (λ m same. absurd (true≢false (sym parts.0 ∙ ap (λ (q : Id). not (is_in_cluster q.kind)) (sym (is_same_id (namespace_id m) id same ∙ is)))))) x at going

-- ---- subnamespaces

neither : (b : Bool) → (b && false) ≡ false
neither true = refl
neither false = refl

module _ (s : State) (n m : List ℕ) (version : ℕ) (valid : IsValid s) (absent : object_at s.objects (namespace_id m) ≡ None) where
  abbrev made : Object
  made = with_version (subnamespace n m) version

  abbrev then : State
  then = state_after s (Put made ∷ [])

  homes_then : (a : List ℕ) (b : Bool) → same_id (namespace_id a) (namespace_id m) ≡ b → object_at then.objects (namespace_id a) ≡ cond b (Some made) (object_at s.objects (namespace_id a))
  homes_then a b is = object_at-put made s.objects (namespace_id a) ∙ ap (λ c. cond c (Some made) (object_at s.objects (namespace_id a))) is

  more_live : IsValid then → IsLess s then
  more_live after = less_by s then valid after (λ a. by a (same_id (namespace_id a) (namespace_id m)) refl)
    where
      by : (a : List ℕ) (b : Bool) → same_id (namespace_id a) (namespace_id m) ≡ b
          → (leaves_by (object_at then.objects (namespace_id a)) ≡ true → leaves_by (object_at s.objects (namespace_id a)) ≡ true) × (lives_by (object_at s.objects (namespace_id a)) ≡ true → lives_by (object_at then.objects (namespace_id a)) ≡ true)
      by a true is = (λ h. absurd (true≢false (sym h ∙ ap leaves_by (homes_then a true is))), λ h. ap lives_by (homes_then a true is))
      by a false apart = (λ h. sym (ap leaves_by (homes_then a false apart)) ∙ h, λ h. ap lives_by (homes_then a false apart) ∙ h)

  put_falls : IsValid then → (x : Object) → object_at s.objects (anchor_id n m) ≡ Some x → left_of then < left_of s
  put_falls after x at =
      let less = more_live after in
      let place : anchor_id n m ≡ x.id = found_id s.objects (anchor_id n m) x at in
      let dead : is_live (forest_of s) x.id.name ≡ false = ap (λ (q : Id). is_live (forest_of s) q.name) (sym place) ∙ lives_is s valid m ∙ ap lives_by absent in
      let lives : is_live (forest_of then) x.id.name ≡ true = ap (λ (q : Id). is_live (forest_of then) q.name) (sym place) ∙ lives_is then after m ∙ ap lives_by (homes_then m true (id_itself (namespace_id m))) in
      let anchor : is_anchor x.id.kind ≡ true = ap (λ (q : Id). is_anchor q.kind) (sym place) in
      let asked : is_asking (forest_of s) x ≡ true = and_from (is_anchor x.id.kind) (not (is_live (forest_of s) x.id.name)) anchor (ap not dead) in
      let found : list_any (λ y. is_asking (forest_of s) y && not (is_asking (forest_of then) y)) s.objects ≡ true =
      passing_object (λ y. is_asking (forest_of s) y && not (is_asking (forest_of then) y)) s.objects (anchor_id n m) x at (and_from (is_asking (forest_of s) x) (not (is_asking (forest_of then) x)) asked (ap (λ b. not b) (answered x lives))) in
      let falls = count_less (is_asking (forest_of s)) (is_asking (forest_of then)) (asking_less s then less) s.objects found in
      let stays = count_most (is_going (forest_of s)) (is_going (forest_of then)) (going_less s then less) s.objects in
      let p = count_put (is_going (forest_of then)) made s.objects refl in
      let q = count_put (is_asking (forest_of then)) made s.objects refl in
      omega (arith, falls, stays, p, q)
    where
      answered : (x : Object) → is_live (forest_of then) x.id.name ≡ true → is_asking (forest_of then) x ≡ false
      answered x lives = ap (λ b. is_anchor x.id.kind && not b) lives ∙ neither (is_anchor x.id.kind)

anchor_there : (o : Option Object) → is_some o ≡ true → (x : Object) × (o ≡ Some x)
anchor_there None h = absurd (true≢false (sym h))
anchor_there (Some x) h = (x, refl)

-- ---- each of them

purge_falls : (s : State) (n : List ℕ) (write : Write) → IsValid s → IsRemovalWrite s n write → IsValid (next_of s write) → left_of (next_of s write) < left_of s
purge_falls s n write valid known after =
    subst (λ w. IsValid (next_of s w) → left_of (next_of s w) < left_of s) (sym known.cuts) (removal_falls s n valid known.leaves (least_in s.objects n) refl (next_to_go (least_id s n) n) refl) after

child_falls : (s : State) (n m : List ℕ) (write : Write) → IsValid s → IsChildWrite s n m write → IsValid (next_of s write) → left_of (next_of s write) < left_of s
child_falls s n m write valid known after =
    let anchor = anchor_there (object_at s.objects (anchor_id n m)) known.anchored in
    subst (λ w. IsValid (next_of s w) → left_of (next_of s w) < left_of s) (sym known.puts) (λ later. put_falls s n m (s.last + 1) valid known.absent later anchor.0 anchor.1) after

pub early_writes : EarlyWrites
early_writes s (key.Purge n) write w early = purge_falls s n write w.valid (removal_write_known s n write w.wants) (next_valid s (key.Purge n) write w)
early_writes s (key.Child n m) write w early = child_falls s n m write w.valid (child_write_known s n m write w.wants) (next_valid s (key.Child n m) write w)
early_writes s _ write w early = absurd (true≢false (sym early))

pub most_falls : (s : State) (keys : ℕ) → left_of s + keys + 1 ≤ most_left s + keys + 1
most_falls s keys = let few = count_most (λ (x : Object). is_anchor x.id.kind) (is_asking (forest_of s)) (λ x h. (and_parts (is_anchor x.id.kind) (not (is_live (forest_of s) x.id.name)) h).0) s.objects in omega (arith, few)
