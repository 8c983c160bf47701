-- To prescribe labels twice is to prescribe them once.
--     prescribed_again     along a chain of names that make keys of the tree
--     chain_keys           such are the chains of a state whose objects are served
use Rattle.std.proofs.Common.{◌≡◌, ℕ, suc, ◌+◌, ◌-◌, ◌≤◌, Bool, true, false, cond, not, ◌&&◌, Option, Some, None, List, [], ◌∷◌, length, drop, filter, codes, decimal, nat_eq, nat_le, nat_lt, refl, sym, ap, ◌∙◌, subst, true≢false, arith}
use Rattle.std.specs.Prelude.{is_some, if◌then◌else◌}
use Rattle.std.specs.List.{list_all, ends_with, AllByRecursion}
use Rattle.std.specs.Cmp.{tied_itself}
use Rattle.std.specs.Cmp.Lexicographic.{pointwise, nat_list_eq_equiv, nat_list_cmp_total}
use Rattle.std.specs.declared.cmp.Ordering.TheVariants.{Less, Equal, Greater}
use Rattle.std.specs.FinMap.Entries.{by_order}
use Rattle.std.proofs.Math.Seq.{drop-append_seam}
use Rattle.std.proofs.lemmas.Bool.{and_parts, and_from, or_left, or_right, leb-true, le-leb}
use Rattle.std.proofs.lemmas.List.{length-append}
use Rattle.hx_object.specs.Faults.{has_legal_names, has_legal_namespace, object_fault}
use Rattle.hx_object.specs.Names.{is_dns_label, is_name_of, is_dns_byte, is_dns_end, has_length, has_ends}
use Rattle.hx_object.specs.Pairs.{with_pair}
use Rattle.hx_object.specs.Sizes.{is_tree_key}
use Rattle.hx_object.specs.Texts.{bytes_cmp}
use Rattle.hx_object.specs.WellKnown.{tree_suffix, included_namespace}
use Rattle.hx_object.specs.declared.kind.Kind.TheVariants.{Namespace}
use Rattle.hx_object.specs.declared.object.Object.{Object}
use Rattle.hx_object.specs.declared.object.ObjectFault.{ObjectFault}
use Rattle.hx_object.specs.declared.object.ObjectFault.TheVariants.{BadName}
use Rattle.hx_model.specs.Forest.{is_in, chain_of}
use Rattle.hx_model.specs.Serving.{IsServed}
use Rattle.hx_model.specs.State.{State, Objects, object_at, namespace_id}
use Rattle.hx_model.specs.Tree.{forest_of}
use Rattle.hx_model.specs.TreeLabels.{tree_key, tree_labels_from, tree_labels_of, with_pairs, own_labels, prescribed_labels}
use Rattle.hx_model.proofs.Climbing.{same_itself}
use Rattle.hx_model.proofs.Objects.{found_id}
use Rattle.hx_model.proofs.Planting.{there-objects}
use Rattle.hx_model.proofs.Storing.{All-found, same_bytes}
use Rattle.hx_model.proofs.Walking.{chain_there}

-- ---- pairs

-- what holds of each pair still does where one is put
all_with_pair : (test : List ℕ × List ℕ → Bool) (key value : List ℕ) (ps : List (List ℕ × List ℕ)) → test (key, value) ≡ true → list_all test ps ≡ true → list_all test (with_pair key value ps) ≡ true
all_with_pair test key value [] new all = and_from (test (key, value)) true new refl
all_with_pair test key value (p ∷ ps) new all =
    let parts = and_parts (test p) (list_all test ps) all in
    elim (bytes_cmp key p.0) as (λ o. list_all test (by_order o ((key, value) ∷ p ∷ ps) ((key, value) ∷ ps) (p ∷ with_pair key value ps)) ≡ true) [
      | Less ↦ and_from (test (key, value)) (list_all test (p ∷ ps)) new all
      | Equal ↦ and_from (test (key, value)) (list_all test ps) new parts.1
      | Greater ↦ and_from (test p) (list_all test (with_pair key value ps)) parts.0 (all_with_pair test key value ps new parts.1)
    ]

-- a pair that a filter skips changes nothing of what it keeps
same_with_pair : (keeps : List ℕ × List ℕ → Bool) (key value : List ℕ) (ps : List (List ℕ × List ℕ)) → ((v : List ℕ) → keeps (key, v) ≡ false) → filter keeps (with_pair key value ps) ≡ filter keeps ps
same_with_pair keeps key value [] skips = ap (λ b. cond b ((key, value) ∷ []) []) (skips value)
same_with_pair keeps key value (p ∷ ps) skips =
    elim (bytes_cmp key p.0) as (λ o. bytes_cmp key p.0 ≡ o → filter keeps (by_order o ((key, value) ∷ p ∷ ps) ((key, value) ∷ ps) (p ∷ with_pair key value ps)) ≡ filter keeps (p ∷ ps)) [
      | Less ↦ λ e. ap (λ b. cond b ((key, value) ∷ filter keeps (p ∷ ps)) (filter keeps (p ∷ ps))) (skips value)
      | Equal ↦ λ e.
          ap (λ b. cond b ((key, value) ∷ filter keeps ps) (filter keeps ps)) (skips value)
          ∙ sym (ap (λ b. cond b (p ∷ filter keeps ps) (filter keeps ps)) (subst (λ (k : List ℕ). keeps (k, p.1) ≡ false) (same_bytes key p.0 e) (skips p.1)))
      | Greater ↦ λ e. ap (λ l. cond (keeps p) (p ∷ l) l) (same_with_pair keeps key value ps skips)
    ] refl

pub kept_pass : {A : Type 0} (test : A → Bool) (xs : List A) → list_all test (filter test xs) ≡ true
kept_pass test [] = refl
kept_pass test (x ∷ xs) = elim (test x) as (λ b. test x ≡ b → list_all test (cond b (x ∷ filter test xs) (filter test xs)) ≡ true) [
  | true ↦ λ e. and_from (test x) (list_all test (filter test xs)) e (kept_pass test xs)
  | false ↦ λ e. kept_pass test xs
] refl

all_kept : {A : Type 0} (test : A → Bool) (xs : List A) → list_all test xs ≡ true → filter test xs ≡ xs
all_kept test [] all = refl
all_kept test (x ∷ xs) all =
    let parts = and_parts (test x) (list_all test xs) all in
    ap (λ b. cond b (x ∷ filter test xs) (filter test xs)) parts.0 ∙ ap (λ l. x ∷ l) (all_kept test xs parts.1)

put_onto : (key value : List ℕ) (ps : List (List ℕ × List ℕ)) → with_pair key value ((key, value) ∷ ps) ≡ (key, value) ∷ ps
put_onto key value ps = ap (λ o. by_order o ((key, value) ∷ (key, value) ∷ ps) ((key, value) ∷ ps) ((key, value) ∷ with_pair key value ps)) (tied_itself nat_list_cmp_total key)

-- a pair that is put twice is put once
pub put_twice : (key value : List ℕ) (ps : List (List ℕ × List ℕ)) → with_pair key value (with_pair key value ps) ≡ with_pair key value ps
put_twice key value [] = put_onto key value []
put_twice key value (p ∷ ps) =
    elim (bytes_cmp key p.0) as (λ o. bytes_cmp key p.0 ≡ o
    → with_pair key value (by_order o ((key, value) ∷ p ∷ ps) ((key, value) ∷ ps) (p ∷ with_pair key value ps)) ≡ by_order o ((key, value) ∷ p ∷ ps) ((key, value) ∷ ps) (p ∷ with_pair key value ps)) [
      | Less ↦ λ e. put_onto key value (p ∷ ps)
      | Equal ↦ λ e. put_onto key value ps
      | Greater ↦ λ e.
          ap (λ o. by_order o ((key, value) ∷ p ∷ with_pair key value ps) ((key, value) ∷ with_pair key value ps) (p ∷ with_pair key value (with_pair key value ps))) e
          ∙ ap (λ (l : List (List ℕ × List ℕ)). p ∷ l) (put_twice key value ps)
    ] refl

-- ---- labels

abbrev is_own : List ℕ × List ℕ → Bool
is_own pair = not (is_tree_key pair.0)

-- names that make keys of the tree
abbrev pub MakeKeys : List (List ℕ) → Type 0
MakeKeys chain = AllByRecursion (λ a. is_tree_key (tree_key a) ≡ true) chain

-- labels of the tree are none of its own
own_with_pairs : (far : ℕ) (chain : List (List ℕ)) (labels : List (List ℕ × List ℕ)) → MakeKeys chain → own_labels (with_pairs (tree_labels_from far chain) labels) ≡ own_labels labels
own_with_pairs far [] labels keys = refl
own_with_pairs far (a ∷ chain) labels keys =
    same_with_pair is_own (tree_key a) (decimal far) (with_pairs (tree_labels_from (suc far) chain) labels) (λ v. ap not keys.0)
    ∙ own_with_pairs (suc far) chain labels keys.1

included_is_own : is_own (included_namespace, codes "true") ≡ true
unfolding is_tree_key
included_is_own = refl

pub prescribed_again : (chain : List (List ℕ)) (labels : List (List ℕ × List ℕ)) → MakeKeys chain → prescribed_labels chain (prescribed_labels chain labels) ≡ prescribed_labels chain labels
prescribed_again chain labels keys =
    let base = with_pair included_namespace (codes "true") (own_labels labels) in
    let own : own_labels (prescribed_labels chain labels) ≡ base =
    own_with_pairs 0 chain base keys ∙ all_kept is_own base (all_with_pair is_own included_namespace (codes "true") (own_labels labels) included_is_own (kept_pass is_own labels)) in
    ap (λ (ls : List (List ℕ × List ℕ)). with_pairs (tree_labels_of chain) (with_pair included_namespace (codes "true") ls)) own
    ∙ ap (with_pairs (tree_labels_of chain)) (put_twice included_namespace (codes "true") (own_labels labels))

-- ---- names

-- a name that isn't empty makes a key of the tree
name_makes_key : (n : List ℕ) → 1 ≤ length n → is_tree_key (tree_key n) ≡ true
unfolding is_tree_key
name_makes_key n least =
    let size : length (tree_key n) ≡ length n + 24 = length-append n tree_suffix in
    and_from (nat_lt (length tree_suffix) (length (tree_key n))) (ends_with nat_eq (tree_key n) tree_suffix) (le-leb (suc 24) (length (tree_key n)) (omega arith)) (ends n size)
  where
    ends : (n : List ℕ) → length (tree_key n) ≡ length n + 24 → ends_with nat_eq (tree_key n) tree_suffix ≡ true
    ends n size =
        let cut : length (tree_key n) - length tree_suffix ≡ length n = omega arith in
        ap (λ (k : ℕ). pointwise nat_eq tree_suffix (drop k (tree_key n))) cut
        ∙ (ap (λ (k : List ℕ). pointwise nat_eq tree_suffix k) (drop-append_seam n tree_suffix) ∙ nat_list_eq_equiv.refl tree_suffix)

named_label : (n : List ℕ) → is_dns_label n ≡ true → 1 ≤ length n
unfolding is_dns_label
named_label n e =
    let p = and_parts (has_length 1 63 n) (list_all is_dns_byte n && has_ends is_dns_end n) e in
    leb-true 1 (length n) (and_parts (nat_le 1 (length n)) (nat_le (length n) 63) p.0).0

legal_name : (x : Object) → object_fault x ≡ None → has_legal_names x.id ≡ true
unfolding object_fault
legal_name x e = by (has_legal_names x.id) _ e
  where
    by : (b : Bool) (rest : Option ObjectFault) → (if not b then Some BadName else rest) ≡ None → b ≡ true
    by true rest h = refl
    by false rest h = absurd (true≢false (ap is_some h))

-- a namespace that is there has a legal name
named_there : (objects : Objects) (n : List ℕ) (y : Object) → AllByRecursion IsServed objects → object_at objects (namespace_id n) ≡ Some y → is_dns_label n ≡ true
unfolding has_legal_names
named_there objects n y all e =
    let names : has_legal_names (namespace_id n) ≡ true = ap has_legal_names (found_id objects (namespace_id n) y e) ∙ legal_name y (All-found IsServed (namespace_id n) y objects all e).legal.sound in
    (and_parts (has_legal_namespace (namespace_id n)) (is_name_of Namespace n) names).1

each_in : (P : List ℕ → Type 0) (names : List (List ℕ)) → ((a : List ℕ) → is_in a names ≡ true → P a) → AllByRecursion P names
each_in P [] holds = tt
each_in P (n ∷ names) holds = (holds n (or_left _ (is_in n names) (same_itself n)), each_in P names (λ a e. holds a (or_right _ (is_in a names) e)))

-- each member of a chain makes a key of the tree
pub chain_keys : (s : State) (n : List ℕ) → AllByRecursion IsServed s.objects → MakeKeys (chain_of (forest_of s) n)
chain_keys s n all =
    each_in (λ a. is_tree_key (tree_key a) ≡ true) (chain_of (forest_of s) n) (λ a e.
    let found = there_is (object_at s.objects (namespace_id a)) (sym (there-objects s.config.excluded s.objects a all) ∙ (chain_there (forest_of s) n).there a e) in
    name_makes_key a (named_label a (named_there s.objects a found.0 all found.1)))
  where
    there_is : (o : Option Object) → is_some o ≡ true → (y : Object) × (o ≡ Some y)
    there_is (Some y) e = (y, refl)
    there_is None e = absurd (true≢false (sym e))
