-- Keys among lists, and what holds of all of them.
--     all_joined, all_over          of two lists;  of the lists of each member
--     among_append, among_flat_map  a key is among lists that are put together
--     among_first, among_later      it is among one of them
--     kept_all, kept_among          of a key that is kept where it wants a write
--     passing_listed                what is found in a namespace is listed there
--     there_passes                  a namespace that is there is one of the forest's
--     live_there, leaving_there, open_live, eligible_live   a namespace is there
use Rattle.std.proofs.Common.{◌≡◌, ℕ, Bool, true, false, cond, not, ◌&&◌, ◌||◌, ◌==◌, Option, Some, None, List, [], ◌∷◌, ◌++◌, flat_map, refl, sym, ap, ◌∙◌, subst, true≢false, eq-eqb}
use Rattle.std.specs.Prelude.{is_some, is_none, if◌then◌else◌}
use Rattle.std.specs.List.{AllByRecursion, list_any}
use Rattle.std.specs.Option.{option_map_or}
use Rattle.std.specs.Str.{bytes_eq}
use Rattle.std.proofs.lemmas.Bool.{and_parts, and_from, or_left, or_right}
use Rattle.std.proofs.lemmas.List.Folds.{list_any-append}
use Rattle.hx_audit.specs.Candidates.{kept, listed_in}
use Rattle.hx_model.proofs.Climbing.{is_same, same_itself}
use Rattle.hx_model.proofs.Objects.{found_id}
use Rattle.hx_model.proofs.Passing.{any_filter, passing_object}
use Rattle.hx_model.proofs.SameKeys.{same_key_itself}
use Rattle.hx_model.specs.Answers.{is_listed}
use Rattle.hx_model.specs.Cases.{is_leaving}
use Rattle.hx_model.specs.First.{so}
use Rattle.hx_model.specs.Forest.{Forest, node_of, is_live, is_excluded, halt_of}
use Rattle.hx_model.specs.Keys.{same_key, is_among}
use Rattle.hx_model.specs.Moves.{is_eligible}
use Rattle.hx_model.specs.Propagation.{id_in}
use Rattle.hx_model.specs.State.{Objects, object_at}
use Rattle.hx_model.specs.TreeLabels.{is_open}
use Rattle.hx_model.specs.declared.key.Key.{Key}
use Rattle.hx_model.specs.declared.node.Node.{Node}
use Rattle.hx_object.specs.Kinds.{number_of}
use Rattle.hx_object.specs.declared.kind.Kind.{Kind}
use Rattle.hx_object.specs.declared.object.Id.{Id}
use Rattle.hx_object.specs.declared.object.Object.{Object}
use Rattle.hx_reconcile.specs.Briefs.{planned}
use Rattle.hx_reconcile.specs.declared.brief.Facts.{Facts}

-- ---- all of some keys

module _ (P : Key → Type 0) where
  pub all_joined : (xs ys : List Key) → AllByRecursion P xs → AllByRecursion P ys → AllByRecursion P (xs ++ ys)
  all_joined [] ys all more = more
  all_joined (x ∷ xs) ys all more = (all.0, all_joined xs ys all.1 more)

  pub all_over : {A : Type 0} (f : A → List Key) → ((a : A) → AllByRecursion P (f a)) → (xs : List A) → AllByRecursion P (flat_map f xs)
  all_over f each [] = tt
  all_over f each (a ∷ rest) = all_joined (f a) (flat_map f rest) (each a) (all_over f each rest)

  -- of a key that is kept
  pub kept_all : (k : Key) (facts : Facts) → (is_some (planned k facts) ≡ true → P k) → AllByRecursion P (kept k facts)
  kept_all k facts holds = by (is_some (planned k facts)) refl
    where
      by : (b : Bool) → is_some (planned k facts) ≡ b → AllByRecursion P (if b then k ∷ [] else [])
      by true is = (holds is, tt)
      by false is = tt

-- ---- a key among some

pub among_append : (k : Key) (xs ys : List Key) → is_among k (xs ++ ys) ≡ (is_among k xs || is_among k ys)
among_append k xs ys = list_any-append (same_key k) xs ys

pub among_first : (k : Key) (xs ys : List Key) → is_among k xs ≡ true → is_among k (xs ++ ys) ≡ true
among_first k xs ys h = among_append k xs ys ∙ or_left (is_among k xs) (is_among k ys) h

pub among_later : (k : Key) (xs ys : List Key) → is_among k ys ≡ true → is_among k (xs ++ ys) ≡ true
among_later k xs ys h = among_append k xs ys ∙ or_right (is_among k xs) (is_among k ys) h

pub among_flat_map : {A : Type 0} (k : Key) (f : A → List Key) (xs : List A) → is_among k (flat_map f xs) ≡ list_any (λ x. is_among k (f x)) xs
among_flat_map k f [] = refl
among_flat_map k f (x ∷ xs) = among_append k (f x) (flat_map f xs) ∙ ap (λ b. is_among k (f x) || b) (among_flat_map k f xs)

pub kept_among : (k : Key) (facts : Facts) → is_some (planned k facts) ≡ true → is_among k (kept k facts) ≡ true
kept_among k facts h = ap (λ b. is_among k (if b then k ∷ [] else [])) h ∙ or_left (same_key k k) false (same_key_itself k)

-- ---- what lies in a namespace

pub passing_listed : (k : Key) (g : Object → List Key) (objects : Objects) (kind : Kind) (n name : List ℕ) (x : Object) → object_at objects (id_in kind name n) ≡ Some x → is_among k (g x) ≡ true → is_among k (flat_map g (listed_in objects kind n)) ≡ true
passing_listed k g objects kind n name x at h =
    let is : id_in kind name n ≡ x.id = found_id objects (id_in kind name n) x at in
    let there : is_listed kind (Some n) x ≡ true =
    subst (λ (q : Id). ((number_of kind == number_of q.kind) && bytes_eq q.ns n) ≡ true) is (and_from (number_of kind == number_of kind) (bytes_eq n n) (eq-eqb (number_of kind) (number_of kind) refl) (same_itself n)) in
    among_flat_map k g (listed_in objects kind n)
    ∙ any_filter (λ y. is_among k (g y)) (is_listed kind (Some n)) objects
    ∙ passing_object (λ y. is_listed kind (Some n) y && is_among k (g y)) objects (id_in kind name n) x at (and_from (is_listed kind (Some n) x) (is_among k (g x)) there h)

-- ---- namespaces

pub there_passes : (t : List ℕ → Bool) (n : List ℕ) (f : Forest) → is_some (node_of f n) ≡ true → t n ≡ true → list_any (λ e. t e.0) f ≡ true
there_passes t n [] there passes = absurd (true≢false (sym there))
there_passes t n (e ∷ f) there passes = by (bytes_eq n e.0) refl there (λ h. there_passes t n f h passes)
  where
    by : (b : Bool) → bytes_eq n e.0 ≡ b → is_some (cond b (Some e.1) (node_of f n)) ≡ true → (is_some (node_of f n) ≡ true → list_any (λ e. t e.0) f ≡ true) → (t e.0 || list_any (λ e. t e.0) f) ≡ true
    by true is h later = or_left (t e.0) (list_any (λ e. t e.0) f) (subst (λ (a : List ℕ). t a ≡ true) (is_same n e.0 is) passes)
    by false is h later = or_right (t e.0) (list_any (λ e. t e.0) f) (later h)

pub live_there : (f : Forest) (n : List ℕ) → is_live f n ≡ true → is_some (node_of f n) ≡ true
live_there f n h = by (node_of f n) h
  where
    by : (o : Option Node) → option_map_or (λ (node : Node). not node.terminating) o false ≡ true → is_some o ≡ true
    by None e = absurd (true≢false (sym e))
    by (Some node) e = refl

pub leaving_there : (f : Forest) (n : List ℕ) → is_leaving f n ≡ true → is_some (node_of f n) ≡ true
leaving_there f n h = by (node_of f n) h
  where
    by : (o : Option Node) → option_map_or (λ (node : Node). node.terminating) o false ≡ true → is_some o ≡ true
    by None e = absurd (true≢false (sym e))
    by (Some node) e = refl

pub open_live : (f : Forest) (n : List ℕ) → is_open f n ≡ true → is_live f n ≡ true
open_live f n h = (and_parts (is_live f n) (not (is_excluded f n) && is_none (halt_of f n)) h).0

pub eligible_live : (f : Forest) (n : List ℕ) → is_eligible f n ≡ true → is_live f n ≡ true
eligible_live f n h = (and_parts (is_live f n) (not (is_excluded f n)) h).0

-- what is there where a test holds
pub from_so : {A : Type 0} (b : Bool) (x : A) → is_some (so b x) ≡ true → b ≡ true
from_so true x h = refl
from_so false x h = absurd (true≢false (sym h))
