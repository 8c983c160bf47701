-- The writes of one commit don't touch one another.
--     after_writes-append       some writes after others
--     all_map, all_at, all_take what holds of each in a list
--     DontTouch a b             two identities, neither of which matters for a write of the other
--     may_at                    a write of those that may be made as one, and that the writes before it don't touch it
--     found_own, found_home, found_config      what a write looks at is as it was before all of them
use Rattle.std.proofs.Common.{◌≡◌, ◌<◌, ℕ, suc, zero, true, false, cond, ◌&&◌, List, [], ◌∷◌, ◌++◌, length, map, take, slice_index_or, None, Some, refl, sym, ap, subst, ◌∙◌, arith, true≢false}
use Rattle.std.specs.List.{AllByRecursion, IsDistinct}
use Rattle.std.specs.Cmp.{tied_itself}
use Rattle.std.specs.Str.{bytes_eq}
use Rattle.std.proofs.lemmas.Bool.{false_from_ne_true}
use Rattle.std.proofs.lemmas.Slice.Eq.{bytes_eq-Decides}
use Rattle.hx_object.specs.declared.object.Id.{Id}
use Rattle.hx_model.specs.Limits.{is_hierarchy}
use Rattle.hx_model.specs.State.{State, Objects, same_id, object_at, put, cut, namespace_id, home_in, after_writes}
use Rattle.hx_model.specs.Tree.{hierarchy_id}
use Rattle.hx_model.specs.Writes.{AreApart, are_joined, id_written}
use Rattle.hx_model.specs.declared.key.Write.{Write}
use Rattle.hx_model.specs.declared.key.Write.TheVariants.{Put, Cut}
use Rattle.hx_model.proofs.Objects.{id_total, is_same_id, same_from_Equal, object_at-put, object_at-cut}
use Rattle.hx_model.proofs.Planting.{hierarchy_kind}
use Rattle.hx_store.specs.Changes.{id_of}
use Rattle.hx_state.specs.Planning.{MayMake, MayMakeAll}

-- ---- lists

pub after_writes-append : (ws vs : List Write) (objects : Objects) → after_writes (ws ++ vs) objects ≡ after_writes vs (after_writes ws objects)
after_writes-append [] vs objects = refl
after_writes-append (Put x ∷ ws) vs objects = after_writes-append ws vs (put x objects)
after_writes-append (Cut id ∷ ws) vs objects = after_writes-append ws vs (cut id objects)

pub all_map : {A : Type 0} (P Q : A → Type 0) (xs : List A) → ((x : A) → P x → Q x) → AllByRecursion P xs → AllByRecursion Q xs
all_map P Q [] f all = tt
all_map P Q (x ∷ xs) f all = (f x all.0, all_map P Q xs f all.1)

pub all_take : {A : Type 0} (P : A → Type 0) (xs : List A) (i : ℕ) → AllByRecursion P xs → AllByRecursion P (take i xs)
all_take P [] zero all = tt
all_take P [] (suc i) all = tt
all_take P (x ∷ xs) zero all = tt
all_take P (x ∷ xs) (suc i) all = (all.0, all_take P xs i all.1)

all_at : {A : Type 0} (P : A → Type 0) (xs : List A) (i : ℕ) (x : A) → i < length xs → x ≡ slice_index_or xs i x → AllByRecursion P xs → P x
all_at P [] i x less at all = absurd (omega arith)
all_at P (y ∷ ys) zero x less at all = subst P (sym at) all.0
all_at P (y ∷ ys) (suc i) x less at all = all_at P ys i x (omega arith) at all.1

-- of the images
all_image_at : {A B : Type 0} (f : A → B) (P : B → Type 0) (xs : List A) (i : ℕ) (x : A) → i < length xs → x ≡ slice_index_or xs i x → AllByRecursion P (map f xs) → P (f x)
all_image_at f P [] i x less at all = absurd (omega arith)
all_image_at f P (y ∷ ys) zero x less at all = subst (λ z. P (f z)) (sym at) all.0
all_image_at f P (y ∷ ys) (suc i) x less at all = all_image_at f P ys i x (omega arith) at all.1

all_image_take : {A B : Type 0} (f : A → B) (P : B → Type 0) (xs : List A) (i : ℕ) → AllByRecursion P (map f xs) → AllByRecursion (λ x. P (f x)) (take i xs)
all_image_take f P [] zero all = tt
all_image_take f P [] (suc i) all = tt
all_image_take f P (y ∷ ys) zero all = tt
all_image_take f P (y ∷ ys) (suc i) all = (all.0, all_image_take f P ys i all.1)

-- two identities, neither of which matters for a write of the other
pub record DontTouch (a b : Id) : Type 0 where
  pub other : same_id a b ≡ false
  pub above : are_joined a b ≡ false
  pub below : are_joined b a ≡ false

distinct_before : (ws : List Write) (i : ℕ) (w : Write) → i < length ws → w ≡ slice_index_or ws i w → IsDistinct same_id (map id_written ws) → AllByRecursion (λ d. same_id (id_written d) (id_written w) ≡ false) (take i ws)
unfolding IsDistinct
distinct_before [] i w less at distinct = absurd (omega arith)
distinct_before (v ∷ ws) zero w less at distinct = tt
distinct_before (v ∷ ws) (suc i) w less at distinct = (all_image_at id_written (λ b. same_id (id_written v) b ≡ false) ws i w (omega arith) at distinct.0, distinct_before ws i w (omega arith) at distinct.1)

all_three : (ws : List Write) (w : Write) → AllByRecursion (λ d. same_id (id_written d) (id_written w) ≡ false) ws → AllByRecursion (λ d. are_joined (id_written d) (id_written w) ≡ false) ws → AllByRecursion (λ d. are_joined (id_written w) (id_written d) ≡ false) ws
    → AllByRecursion (λ d. DontTouch (id_of d) (id_of w)) ws
all_three [] w p q r = tt
all_three (d ∷ ws) w p q r = (record { other = p.0; above = q.0; below = r.0 }, all_three ws w p.1 q.1 r.1)

-- the writes before one don't touch it
apart_before : (ws : List Write) (i : ℕ) (w : Write) → i < length ws → w ≡ slice_index_or ws i w → IsDistinct same_id (map id_written ws) → AreApart (map id_written ws) → AllByRecursion (λ d. DontTouch (id_of d) (id_of w)) (take i ws)
apart_before ws i w less at distinct apart =
    let ids = map id_written ws in
    let below : AllByRecursion (λ b. are_joined (id_written w) b ≡ false) (map id_written ws) = all_image_at id_written (λ a. AllByRecursion (λ b. are_joined a b ≡ false) ids) ws i w less at apart in
    all_three (take i ws) w (distinct_before ws i w less at distinct)
    (all_map (λ d. AllByRecursion (λ b. are_joined (id_written d) b ≡ false) ids) (λ d. are_joined (id_written d) (id_written w) ≡ false) (take i ws) (λ d all. all_image_at id_written (λ b. are_joined (id_written d) b ≡ false) ws i w less at all)
    (all_image_take id_written (λ a. AllByRecursion (λ b. are_joined a b ≡ false) ids) ws i apart))
    (all_image_take id_written (λ b. are_joined (id_written w) b ≡ false) ws i below)

-- a write may be made, and those before it don't touch it
pub may_at : (s : State) (ws : List Write) (i : ℕ) (w : Write) → i < length ws → w ≡ slice_index_or ws i w → MayMakeAll s ws → MayMake s w × AllByRecursion (λ d. DontTouch (id_of d) (id_of w)) (take i ws)
may_at s ws i w less at may = (all_at (MayMake s) ws i w less at may.each, apart_before ws i w less at may.distinct may.apart)

-- ---- what is found

other_way : (a b : Id) → same_id a b ≡ false → same_id b a ≡ false
other_way a b other = false_from_ne_true (same_id b a) (λ h. true≢false (sym (ap (λ (q : Id). same_id q b) (sym (is_same_id b a h)) ∙ same_from_Equal b b (tied_itself id_total b)) ∙ other))

-- an identity that isn't written is found as before
object_at-apart : (ws : List Write) (objects : Objects) (q : Id) → AllByRecursion (λ w. same_id q (id_of w) ≡ false) ws → object_at (after_writes ws objects) q ≡ object_at objects q
object_at-apart [] objects q apart = refl
object_at-apart (Put x ∷ ws) objects q apart = object_at-apart ws (put x objects) q apart.1 ∙ object_at-put x objects q ∙ ap (λ b. cond b (Some x) (object_at objects q)) apart.0
object_at-apart (Cut id ∷ ws) objects q apart = object_at-apart ws (cut id objects) q apart.1 ∙ object_at-cut id objects q ∙ ap (λ b. cond b None (object_at objects q)) apart.0

module _ (done : List Write) (objects : Objects) (id : Id) (apart : AllByRecursion (λ d. DontTouch (id_of d) id) done) where
  -- the object that is written
  pub found_own : object_at (after_writes done objects) id ≡ object_at objects id
  found_own = object_at-apart done objects id (all_map (λ d. DontTouch (id_of d) id) (λ d. same_id id (id_of d) ≡ false) done (λ d a. other_way (id_of d) id a.other) apart)

  -- the namespace of a HierarchyConfiguration
  pub found_home : is_hierarchy id.kind ≡ true → home_in (after_writes done objects) id ≡ home_in objects id
  found_home is = away (after_writes done objects) ∙ object_at-apart done objects (namespace_id id.ns) (all_map (λ d. DontTouch (id_of d) id) (λ d. same_id (namespace_id id.ns) (id_of d) ≡ false) done (λ d a. untouched (id_of d) a) apart) ∙ sym (away objects)
    where
      away : (all : Objects) → home_in all id ≡ object_at all (namespace_id id.ns)
      away all = ap (λ kind. home_in all (record id { kind = kind })) (hierarchy_kind id is)

      joined : are_joined (namespace_id id.ns) id ≡ true
      joined = (λ i. is i && bytes_eq id.ns id.ns) ∙ (bytes_eq-Decides id.ns id.ns).1 refl

      untouched : (d : Id) → DontTouch d id → same_id (namespace_id id.ns) d ≡ false
      untouched d a = false_from_ne_true (same_id (namespace_id id.ns) d) (λ h. true≢false (sym (ap (λ q. are_joined q id) (sym (is_same_id (namespace_id id.ns) d h)) ∙ joined) ∙ a.above))

  -- the HierarchyConfiguration of a namespace
  pub found_config : (n : List ℕ) → id ≡ namespace_id n → object_at (after_writes done objects) (hierarchy_id n) ≡ object_at objects (hierarchy_id n)
  found_config n named = object_at-apart done objects (hierarchy_id n) (all_map (λ d. DontTouch (id_of d) id) (λ d. same_id (hierarchy_id n) (id_of d) ≡ false) done (λ d a. untouched (id_of d) a) apart)
    where
      joined : are_joined id (hierarchy_id n) ≡ true
      joined = ap (λ (q : Id). are_joined q (hierarchy_id n)) named ∙ (bytes_eq-Decides n n).1 refl

      untouched : (d : Id) → DontTouch d id → same_id (hierarchy_id n) d ≡ false
      untouched d a = false_from_ne_true (same_id (hierarchy_id n) d) (λ h. true≢false (sym (ap (are_joined id) (sym (is_same_id (hierarchy_id n) d h)) ∙ joined) ∙ a.below))
