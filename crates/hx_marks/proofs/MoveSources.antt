-- The source that wins at a place, along two chains that join.
--     sent_among         the key of what some namespaces send is marked
--     found_append       the sources of two parts of a chain, the farther ones first
--     same_found         where members of exactly one of two chains send nothing that goes, the same one wins along both
--     unsent             a key that isn't marked for what some namespaces send: none of them sends to its place
--     same_top           both for what two chains don't share
use Rattle.std.proofs.Common.{◌≡◌, ℕ, Bool, true, false, cond, not, ◌&&◌, ◌||◌, ◌==◌, Option, Some, None, List, [], ◌∷◌, ◌++◌, map, filter, find, refl, sym, ap, ◌∙◌, subst, inl, inr, true≢false, eq-eqb}
use Rattle.std.specs.Prelude.{option_and_then}
use Rattle.std.specs.List.{list_any, IsDistinct}
use Rattle.std.specs.Option.{option_or}
use Rattle.std.specs.Str.{bytes_eq}
use Rattle.std.proofs.lemmas.Bool.{and_from, or_cases, or_left, or_right, cases_Bool, not_from_false, false_from_ne_true}
use Rattle.std.proofs.lemmas.List.Folds.{list_any-append, find-append}
use Rattle.hx_object.specs.Kinds.{can_be_copied, number_of}
use Rattle.hx_object.specs.declared.kind.Kind.{Kind}
use Rattle.hx_object.specs.declared.object.Id.{Id}
use Rattle.hx_object.specs.declared.object.Object.{Object}
use Rattle.hx_model.specs.Answers.{is_listed}
use Rattle.hx_model.specs.First.{so}
use Rattle.hx_model.specs.Forest.{Forest, is_in}
use Rattle.hx_model.specs.Keys.{same_key, is_among}
use Rattle.hx_model.specs.Moves.{up_to, chain_from, is_open_above, mode_at, copied_kinds}
use Rattle.hx_model.specs.Propagation.{goes_to, is_source, id_in, as_list, source_at, sources_along, top_of}
use Rattle.hx_model.specs.State.{Objects, object_at}
use Rattle.hx_model.specs.declared.key.Key.TheVariants as key
use Rattle.hx_model.proofs.Climbing.{is_same, same_itself}
use Rattle.hx_model.proofs.Objects.{found_id}
use Rattle.hx_model.proofs.Parents.{is_in_filter}
use Rattle.hx_marks.specs.Law.{is_sent, listed_in, sent_from, key_for, apart, in_one, all_sent}
use Rattle.hx_marks.proofs.Among.{same_key_itself, among_map, any_filter, passing_object, passing_name, passing_kind}
use Rattle.hx_marks.proofs.Wanting.{any_flat_map, sent_from_goes}
use Rattle.hx_marks.proofs.MoveChains.{IsJoined, joined, from_distinct, apart_in}

-- ---- what is sent

-- an object of a namespace that is sent is among those that some namespaces send
pub sent_among : (objects : Objects) (names : List (List ℕ)) (m : List ℕ) (kind : Kind) (name a : List ℕ) (x : Object) → can_be_copied kind ≡ true → is_in a names ≡ true → object_at objects (id_in kind name a) ≡ Some x
    → is_sent (mode_at objects kind) x ≡ true → is_among (key.Copy m kind name) (map (key_for m) (all_sent objects names)) ≡ true
sent_among objects names m kind name a x copied has at sent =
    among_map (key.Copy m kind name) (key_for m) (all_sent objects names)
    ∙ any_flat_map marked (λ one. sent_from objects one names) copied_kinds
    ∙ passing_kind (λ one. list_any marked (sent_from objects one names)) kind copied
    (any_flat_map marked (λ b. filter (is_sent (mode_at objects kind)) (listed_in objects kind b)) names
    ∙ passing_name (λ b. list_any marked (filter (is_sent (mode_at objects kind)) (listed_in objects kind b))) a names has
    (any_filter marked (is_sent (mode_at objects kind)) (listed_in objects kind a)
    ∙ any_filter (λ y. is_sent (mode_at objects kind) y && marked y) (is_listed kind (Some a)) objects
    ∙ passing_object (λ y. is_listed kind (Some a) y && (is_sent (mode_at objects kind) y && marked y)) objects (id_in kind name a) x at
    (and_from (is_listed kind (Some a) x) _ listed (and_from (is_sent (mode_at objects kind) x) (marked x) sent same))))
  where
    marked : Object → Bool
    marked y = same_key (key.Copy m kind name) (key_for m y)

    is : id_in kind name a ≡ x.id
    is = found_id objects (id_in kind name a) x at

    listed : is_listed kind (Some a) x ≡ true
    listed = subst (λ (q : Id). ((number_of kind == number_of q.kind) && bytes_eq q.ns a) ≡ true) is (and_from _ _ (eq-eqb (number_of kind) (number_of kind) refl) (same_itself a))

    same : marked x ≡ true
    same = subst (λ (q : Id). same_key (key.Copy m kind name) (key.Copy m q.kind q.name) ≡ true) is (same_key_itself (key.Copy m kind name))

-- ---- the first that goes

or_nothing : {A : Type 0} (o : Option A) → option_or o None ≡ o
or_nothing None = refl
or_nothing (Some a) = refl

or_or : {A : Type 0} (o p q : Option A) → option_or (option_or o p) q ≡ option_or o (option_or p q)
or_or None p q = refl
or_or (Some a) p q = refl

module _ (objects : Objects) (kind : Kind) (name : List ℕ) (going : Object → Bool) where
  -- the source of one namespace, if it goes
  abbrev pub one_found : List ℕ → Option Object
  one_found a = find going (as_list (source_at objects (id_in kind name a)))

  -- the first along a chain, the farthest first
  abbrev pub first_found : List (List ℕ) → Option Object
  first_found chain = find going (sources_along objects kind name chain)

  found_cons : (a : List ℕ) (chain : List (List ℕ)) → first_found (a ∷ chain) ≡ option_or (first_found chain) (one_found a)
  found_cons a chain = find-append going (sources_along objects kind name chain) (as_list (source_at objects (id_in kind name a)))

  pub found_append : (xs chain : List (List ℕ)) → first_found (xs ++ chain) ≡ option_or (first_found chain) (first_found xs)
  found_append [] chain = sym (or_nothing (first_found chain))
  found_append (x ∷ xs) chain =
      found_cons x (xs ++ chain)
      ∙ ap (λ o. option_or o (one_found x)) (found_append xs chain)
      ∙ or_or (first_found chain) (first_found xs) (one_found x)
      ∙ sym (ap (option_or (first_found chain)) (found_cons x xs))

  none_found : (xs : List (List ℕ)) → ((a : List ℕ) → is_in a xs ≡ true → one_found a ≡ None) → first_found xs ≡ None
  none_found [] silent = refl
  none_found (x ∷ xs) silent =
      found_cons x xs
      ∙ ap (λ o. option_or o (one_found x)) (none_found xs (λ a mem. silent a (or_right (bytes_eq a x) (is_in a xs) mem)))
      ∙ silent x (or_left (bytes_eq x x) (is_in x xs) (same_itself x))

  -- members of exactly one of them find nothing
  pub record AreSilent (names other : List (List ℕ)) : Type 0 where
    pub left : (a : List ℕ) → is_in a names ≡ true → is_in a other ≡ false → one_found a ≡ None
    pub right : (a : List ℕ) → is_in a other ≡ true → is_in a names ≡ false → one_found a ≡ None

  pub same_found : (names other : List (List ℕ)) → IsJoined names other → IsDistinct bytes_eq other → AreSilent names other → first_found names ≡ first_found other
  same_found [] other joined distinct silent = sym (none_found other (λ a mem. silent.right a mem refl))
  same_found (a ∷ names) other joined distinct silent = elim (cases_Bool (is_in a other)) [
    | inl has ↦
        let whole : other ≡ up_to a other ++ a ∷ names = joined.0 has in
        let before : first_found (up_to a other) ≡ None = none_found (up_to a other) (λ b mem. silent.right b (before_in b mem) (apart_in (up_to a other) (a ∷ names) b (subst (IsDistinct bytes_eq) whole distinct) mem)) in
        sym (or_nothing (first_found (a ∷ names))) ∙ sym (ap (option_or (first_found (a ∷ names))) before) ∙ sym (found_append (up_to a other) (a ∷ names)) ∙ sym (ap first_found whole)
    | inr out ↦
        found_cons a names
        ∙ ap (option_or (first_found names)) (silent.left a (or_left (bytes_eq a a) (is_in a names) (same_itself a)) out)
        ∙ or_nothing (first_found names)
        ∙ same_found names other joined.1 distinct (record {
          left = λ b mem gone. silent.left b (or_right (bytes_eq b a) (is_in b names) mem) gone;
          right = λ b mem gone. silent.right b mem (not_there out b mem gone);
        })
  ]
    where
      before_in : (b : List ℕ) → is_in b (up_to a other) ≡ true → is_in b other ≡ true
      before_in b mem = before b other mem
        where
          before : (b : List ℕ) (xs : List (List ℕ)) → is_in b (up_to a xs) ≡ true → is_in b xs ≡ true
          before b [] mem = mem
          before b (x ∷ xs) mem = elim (bytes_eq a x) as (λ t. is_in b (cond t [] (x ∷ up_to a xs)) ≡ true → is_in b (x ∷ xs) ≡ true) [
            | true ↦ λ e. absurd (true≢false (sym e))
            | false ↦ λ e. elim (or_cases (bytes_eq b x) (is_in b (up_to a xs)) e) [
              | inl here ↦ or_left (bytes_eq b x) (is_in b xs) here
              | inr later ↦ or_right (bytes_eq b x) (is_in b xs) (before b xs later)
            ]
          ] mem

      not_there : is_in a other ≡ false → (b : List ℕ) → is_in b other ≡ true → is_in b names ≡ false → is_in b (a ∷ names) ≡ false
      not_there out b mem gone = ap (λ t. t || is_in b names) (false_from_ne_true (bytes_eq b a) (λ h. true≢false (sym (subst (λ (c : List ℕ). is_in c other ≡ true) (is_same b a h) mem) ∙ out))) ∙ gone

-- ---- what two chains don't share

module _ (objects : Objects) (m : List ℕ) (kind : Kind) (name : List ℕ) (labels : List (List ℕ × List ℕ)) (copied : can_be_copied kind ≡ true) where
  abbrev goes : Object → Bool
  goes x = goes_to (mode_at objects kind) x labels

  -- none of these namespaces sends to a place that isn't marked for them
  unsent : (names : List (List ℕ)) (a : List ℕ) → is_among (key.Copy m kind name) (map (key_for m) (all_sent objects names)) ≡ false → is_in a names ≡ true → one_found objects kind name goes a ≡ None
  unsent names a unmarked has = by (object_at objects (id_in kind name a)) refl
    where
      by : (o : Option Object) → object_at objects (id_in kind name a) ≡ o → find goes (as_list (option_and_then (λ x. so (is_source x) x) o)) ≡ None
      by None at = refl
      by (Some x) at = elim (is_source x) as (λ b. find goes (as_list (so b x)) ≡ None) [
        | true ↦ ap (λ b. cond {A = Option Object} b (Some x) None) (false_from_ne_true (goes x) (λ h. true≢false (sym (sent_among objects names m kind name a x copied has at (sent_from_goes (mode_at objects kind) x labels h)) ∙ unmarked)))
        | false ↦ refl
      ]

  in_left : (xs ys : List (List ℕ)) (a : List ℕ) → is_in a xs ≡ true → is_in a ys ≡ false → is_in a (in_one xs ys) ≡ true
  in_left xs ys a mem out = list_any-append (bytes_eq a) (apart xs ys) (apart ys xs) ∙ or_left (is_in a (apart xs ys)) _ (is_in_filter (λ b. not (is_in b ys)) a xs ∙ and_from (is_in a xs) _ mem (not_from_false (is_in a ys) out))

  in_right : (xs ys : List (List ℕ)) (a : List ℕ) → is_in a ys ≡ true → is_in a xs ≡ false → is_in a (in_one xs ys) ≡ true
  in_right xs ys a mem out = list_any-append (bytes_eq a) (apart xs ys) (apart ys xs) ∙ or_right (is_in a (apart xs ys)) _ (is_in_filter (λ b. not (is_in b xs)) a ys ∙ and_from (is_in a ys) _ mem (not_from_false (is_in a xs) out))

  -- along the chains of two parents that take part the same source wins, behind the same namespaces
  pub same_top : (f : Forest) (p q : Option (List ℕ)) (below : List (List ℕ)) → is_open_above f p ≡ true → is_open_above f q ≡ true
      → is_among (key.Copy m kind name) (map (key_for m) (all_sent objects (in_one (chain_from f p) (chain_from f q)))) ≡ false
      → top_of (mode_at objects kind) labels (sources_along objects kind name (below ++ chain_from f p)) ≡ top_of (mode_at objects kind) labels (sources_along objects kind name (below ++ chain_from f q))
  same_top f p q below above other unmarked =
      let both = in_one (chain_from f p) (chain_from f q) in
      found_append objects kind name goes below (chain_from f p)
      ∙ ap (λ o. option_or o (first_found objects kind name goes below)) (same_found objects kind name goes (chain_from f p) (chain_from f q) (joined f p q above other) (from_distinct f q) (record {
        left = λ a mem out. unsent both a unmarked (in_left (chain_from f p) (chain_from f q) a mem out);
        right = λ a mem out. unsent both a unmarked (in_right (chain_from f p) (chain_from f q) a mem out);
      }))
      ∙ sym (found_append objects kind name goes below (chain_from f q))
