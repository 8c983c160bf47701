-- The number of names, write by write.
--     come_is, gone_is     what the change of the names by a write adds to the number, and what it takes off
--     names_at             the number after the next of all the writes
--     name_fits            a name that goes is one of those that are counted
--     is_named_count       whether a name is one that is there, by how many anchors have it
--     last_namespace, last_anchor      whether the name of a namespace, or of an anchor, goes with it
use Rattle.std.proofs.Common.{◌≡◌, ◌≤◌, ◌<◌, ◌+◌, ℕ, zero, suc, Bool, true, false, cond, not, ◌&&◌, List, [], ◌∷◌, ◌++◌, filter, length, map, take, slice_index_or, sum_by, None, Some, Option, inl, inr, ◌⊎◌, ◌==◌, eqb-true, ◌||◌, refl, sym, ap, ◌∙◌, arith, true≢false}
use Rattle.std.specs.Prelude.{is_some, is_none, nat_lt, nat_le, nat_eq, if◌then◌else◌}
use Rattle.std.specs.List.{AllByRecursion, IsDistinct}
use Rattle.std.proofs.lemmas.Bool.{le-leb, lt-leb, lt-ltb, false_from_ne_true}
use Rattle.std.proofs.lemmas.Bool.Decides.{leb_tells}
use Rattle.std.proofs.lemmas.List.{take_more}
use Rattle.std.proofs.lemmas.List.Sums.{sum_by-append, sum_by-cons}
use Rattle.hx_object.specs.declared.kind.Kind.TheVariants.{Namespace, SubnamespaceAnchor}
use Rattle.hx_object.specs.declared.object.Id.{Id}
use Rattle.hx_object.specs.declared.object.Object.{Object}
use Rattle.hx_model.specs.Limits.{is_namespace, is_anchor, names_in, is_named}
use Rattle.hx_model.specs.State.{State, Objects, same_id, object_at, cut, namespace_id, after_writes}
use Rattle.hx_model.specs.Writes.{gives_name, changes_names, id_written}
use Rattle.hx_model.specs.declared.key.Write.{Write}
use Rattle.hx_model.specs.declared.key.Write.TheVariants.{Put, Cut}
use Rattle.hx_model.proofs.Distinct.{one_unless}
use Rattle.hx_model.proofs.Naming.{AreNamed, is_named_by, named_without_namespace, named_without_anchor}
use Rattle.hx_model.proofs.NamesAfter.{IsFitting, brings, takes, brings_found, names_after_writes}
use Rattle.hx_model.proofs.Planting.{namespace_is_homed}
use Rattle.hx_store.specs.Changes.{id_of, object_of}
use Rattle.hx_store.specs.Sources.{is_anchor_of}
use Rattle.hx_state.specs.Counting.{is_last_name, name_change, come, gone}
use Rattle.hx_state.specs.Planning.{MayMake, MayMakeAll}
use Rattle.hx_state.specs.declared.names.NameChange.{NameChange}
use Rattle.hx_state.specs.declared.names.NameChange.TheVariants.{Comes, Goes, Stays}
use Rattle.hx_state.proofs.Apart.{after_writes-append, all_take}

-- ---- one write

-- what a write changes of the names, by what is there
abbrev pub names_by : Objects → Write → NameChange
names_by objects w = name_change objects (id_of w) (object_at objects (id_of w)) (object_of w)

come_where : (gives named : Bool) → come (if gives && not named then Comes else Stays) ≡ (if gives then one_unless named else 0)
come_where true true = refl
come_where true false = refl
come_where false named = refl

gone_where : (gives named : Bool) → gone (if gives && not named then Goes else Stays) ≡ (if gives then one_unless named else 0)
gone_where true true = refl
gone_where true false = refl
gone_where false named = refl

none_come : (b : Bool) → come (if b then Goes else Stays) ≡ 0
none_come true = refl
none_come false = refl

none_gone : (b : Bool) → gone (if b then Comes else Stays) ≡ 0
none_gone true = refl
none_gone false = refl

pub come_is : (objects : Objects) (w : Write) → IsFitting objects w → come (names_by objects w) ≡ brings objects w
come_is objects (Put x) fits = by (object_at objects x.id) refl
  where
    quiet : (gives : Bool) (count : ℕ) → (if gives && false then count else 0) ≡ 0
    quiet true count = refl
    quiet false count = refl

    by : (o : Option Object) → object_at objects x.id ≡ o → come (name_change objects x.id o (Some x)) ≡ brings objects (Put x)
    by None none = come_where (gives_name x.id.kind) (is_named objects x.id.name)
    by (Some old) there =
        sym (brings_found x objects fits ∙ ap (λ (o : Option Object). if gives_name x.id.kind && is_none o then one_unless (is_named objects x.id.name) else 0) there ∙ quiet (gives_name x.id.kind) (one_unless (is_named objects x.id.name)))
come_is objects (Cut id) fits = by (object_at objects id)
  where
    by : (o : Option Object) → come (name_change objects id o None) ≡ 0
    by None = refl
    by (Some old) = none_come (gives_name id.kind && not (is_named (cut id objects) id.name))

pub gone_is : (objects : Objects) (w : Write) → IsFitting objects w → gone (names_by objects w) ≡ takes objects w
gone_is objects (Put x) fits = by (object_at objects x.id)
  where
    by : (o : Option Object) → gone (name_change objects x.id o (Some x)) ≡ 0
    by None = none_gone (gives_name x.id.kind && not (is_named objects x.id.name))
    by (Some old) = refl
gone_is objects (Cut id) fits = by (object_at objects id) refl
  where
    -- nothing goes where nothing is there
    absent : (gives : Bool) (count : ℕ) → (gives ≡ true → false ≡ true) → 0 ≡ (if gives then count else 0)
    absent true count there = absurd (let h : false ≡ true = there refl in cc)
    absent false count there = refl

    by : (o : Option Object) → object_at objects id ≡ o → gone (name_change objects id o None) ≡ takes objects (Cut id)
    by None none = absent (gives_name id.kind) (one_unless (is_named (cut id objects) id.name)) (λ gives. sym (ap is_some none) ∙ fits gives)
    by (Some old) there = gone_where (gives_name id.kind) (is_named (cut id objects) id.name)

-- ---- the first of some writes

distinct_take : (ws : List Write) (i : ℕ) → IsDistinct same_id (map id_written ws) → IsDistinct same_id (map id_written (take i ws))
unfolding IsDistinct
distinct_take [] zero distinct = tt
distinct_take [] (suc i) distinct = tt
distinct_take (w ∷ ws) zero distinct = tt
distinct_take (w ∷ ws) (suc i) distinct = (others ws i distinct.0, distinct_take ws i distinct.1)
  where
    others : (vs : List Write) (i : ℕ) → AllByRecursion (λ b. same_id (id_written w) b ≡ false) (map id_written vs) → AllByRecursion (λ b. same_id (id_written w) b ≡ false) (map id_written (take i vs))
    others [] zero all = tt
    others [] (suc i) all = tt
    others (v ∷ vs) zero all = tt
    others (v ∷ vs) (suc i) all = (all.0, others vs i all.1)

filter_take : (p : Write → Bool) (ws : List Write) (i : ℕ) → length (filter p (take i ws)) ≤ length (filter p ws)
filter_take p [] zero = omega arith
filter_take p [] (suc i) = omega arith
filter_take p (w ∷ ws) zero = omega arith
filter_take p (w ∷ ws) (suc i) = by (p w) (filter_take p ws i)
  where
    by : (b : Bool) → length (filter p (take i ws)) ≤ length (filter p ws) → length (cond b (w ∷ filter p (take i ws)) (filter p (take i ws))) ≤ length (cond b (w ∷ filter p ws) (filter p ws))
    by true less = let h : suc (length (filter p (take i ws))) ≤ suc (length (filter p ws)) = omega (arith, less) in h
    by false less = less

fitting : (s : State) (ws : List Write) → AllByRecursion (MayMake s) ws → AllByRecursion (IsFitting s.objects) ws
fitting s [] may = tt
fitting s (Put x ∷ ws) may = (namespace_is_homed x may.0.0, fitting s ws may.1)
fitting s (Cut id ∷ ws) may = ((λ gives. ap is_some may.0.1), fitting s ws may.1)

-- ---- the next of all the writes

module _ (s : State) (ws : List Write) (named : AreNamed s.objects) (may : MayMakeAll s ws) where
  -- the number after the first of them
  first_names : (i : ℕ) → names_in (after_writes (take i ws) s.objects) + sum_by (takes s.objects) (take i ws) ≡ names_in s.objects + sum_by (brings s.objects) (take i ws)
  first_names i =
      let most : length (filter (changes_names s.objects) (take i ws)) ≤ 1 = omega (arith, filter_take (changes_names s.objects) ws i, may.naming) in
      names_after_writes (take i ws) s.objects named (all_take (IsFitting s.objects) ws i (fitting s ws may.each)) (distinct_take ws i may.distinct) most

  module _ (i : ℕ) (w : Write) (less : i < length ws) (at : w ≡ slice_index_or ws i w) where
    more : take (i + 1) ws ≡ take i ws ++ w ∷ []
    more = take_more ws i w less ∙ ap (λ v. take i ws ++ v ∷ []) (sym at)

    one_more : (f : Write → ℕ) → sum_by f (take (i + 1) ws) ≡ sum_by f (take i ws) + f w
    one_more f = ap (sum_by f) more ∙ sum_by-append f (take i ws) (w ∷ []) ∙ omega (arith, sum_by-cons f w [])

    number : names_in (after_writes (w ∷ []) (after_writes (take i ws) s.objects)) + takes s.objects w ≡ names_in (after_writes (take i ws) s.objects) + brings s.objects w
    number =
        let whole : names_in (after_writes (take (i + 1) ws) s.objects) ≡ names_in (after_writes (w ∷ []) (after_writes (take i ws) s.objects)) = ap (λ v. names_in (after_writes v s.objects)) more ∙ ap names_in (after_writes-append (take i ws) (w ∷ []) s.objects) in
        omega (arith, whole, first_names i, first_names (i + 1), one_more (takes s.objects), one_more (brings s.objects))

    pub names_at : MayMake s w → names_in (after_writes (w ∷ []) (after_writes (take i ws) s.objects)) + gone (names_by s.objects w) ≡ names_in (after_writes (take i ws) s.objects) + come (names_by s.objects w)
    names_at may_w =
        let fits : IsFitting s.objects w = (fitting s (w ∷ []) (may_w, tt)).0 in
        omega (arith, number, come_is s.objects w fits, gone_is s.objects w fits)

    -- a name that goes is one of those that are counted
    pub name_fits : MayMake s w → gone (names_by s.objects w) ≤ names_in (after_writes (take i ws) s.objects)
    name_fits may_w = let fits : IsFitting s.objects w = (fitting s (w ∷ []) (may_w, tt)).0 in omega (arith, gone_is s.objects w fits, by w number)
      where
        by : (w : Write) → names_in (after_writes (w ∷ []) (after_writes (take i ws) s.objects)) + takes s.objects w ≡ names_in (after_writes (take i ws) s.objects) + brings s.objects w → takes s.objects w ≤ names_in (after_writes (take i ws) s.objects)
        by (Put x) number = let h : 0 ≤ names_in (after_writes (take i ws) s.objects) = omega arith in h
        by (Cut id) number =
            let n : names_in (after_writes (Cut id ∷ []) (after_writes (take i ws) s.objects)) + takes s.objects (Cut id) ≡ names_in (after_writes (take i ws) s.objects) + 0 = number in
            omega (arith, n)

-- ---- by how many anchors have the name

is_more : (n : ℕ) → nat_lt 0 n ≡ not (n == 0)
is_more zero = refl
is_more (suc n) = lt-ltb 0 (suc n) (omega arith) ∙ sym (ap not (false_from_ne_true (suc n == 0) (λ e. let h : suc n ≡ 0 = eqb-true (suc n) 0 e in omega (arith, h))))

pub is_named_count : (objects : Objects) (name : List ℕ) (count : ℕ) → is_some (object_at objects (namespace_id name)) ≡ false → count ≡ length (filter (is_anchor_of name) objects) → nat_lt 0 count ≡ is_named objects name
is_named_count objects name count none is =
    ap (nat_lt 0) is ∙ is_more (length (filter (is_anchor_of name) objects)) ∙ sym (is_named_by objects name ∙ ap (λ b. b || not (length (filter (is_anchor_of name) objects) == 0)) none)

some_at : (o : Option Object) → is_some o ≡ true → (x : Object) × (o ≡ Some x)
some_at (Some x) is = (x, refl)
some_at None is = absurd (true≢false (sym is))

module _ (objects : Objects) (id : Id) (count : ℕ) (named : AreNamed objects) (there : is_some (object_at objects id) ≡ true) (is : count ≡ length (filter (is_anchor_of id.name) objects)) where
  pub last_namespace : id.kind ≡ Namespace → nat_eq count 0 ≡ is_last_name objects id
  last_namespace kind =
      let x = some_at (object_at objects id) there in
      let after : is_named (cut id objects) id.name ≡ not (count == 0) = named_without_namespace id x.0 objects named x.1 (ap is_namespace kind) ∙ ap (λ n. not (n == 0)) (sym is) in
      sym (twice (count == 0)) ∙ sym (ap (λ k. gives_name k && not (not (count == 0))) kind) ∙ ap (λ b. gives_name id.kind && not b) (sym after)
    where
      twice : (b : Bool) → not (not b) ≡ b
      twice true = refl
      twice false = refl

  pub last_anchor : id.kind ≡ SubnamespaceAnchor → (taken : Bool) → is_some (object_at objects (namespace_id id.name)) ≡ taken → (not taken && nat_le count 1) ≡ is_last_name objects id
  last_anchor kind taken has =
      let x = some_at (object_at objects id) there in
      let after : is_named (cut id objects) id.name ≡ (taken || nat_lt 1 count) = named_without_anchor id x.0 objects named.in_order x.1 (ap is_anchor kind) ∙ (λ i. has i || nat_lt 1 (sym is i)) in
      either taken ∙ sym (ap (λ k. gives_name k && not (taken || nat_lt 1 count)) kind) ∙ ap (λ b. gives_name id.kind && not b) (sym after)
    where
      most_one : (n : ℕ) → nat_le n 1 ≡ not (nat_lt 1 n)
      most_one n = by (leb_tells n 1)
        where
          by : ((nat_le n 1 ≡ true) × (n ≤ 1)) ⊎ ((nat_le n 1 ≡ false) × (1 < n)) → nat_le n 1 ≡ not (nat_lt 1 n)
          by (inl few) = few.0 ∙ sym (ap not (lt-leb 2 n (omega (arith, few.1))))
          by (inr more) = more.0 ∙ sym (ap not (le-leb 2 n (omega (arith, more.1))))

      either : (b : Bool) → (not b && nat_le count 1) ≡ not (b || nat_lt 1 count)
      either true = refl
      either false = most_one count
