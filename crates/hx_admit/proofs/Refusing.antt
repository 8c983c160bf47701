-- What stands against a POST, a PUT and a DELETE.
--     grown                            the limits of growth, by the numbers
--     create_ruled, create_first, create_over, create_rest      a POST: its place, a rule or a quota stands against it, or what is left
--     create_counted, create_grown     a limit of names and objects does, or what is left
--     replace_first, replace_over, replace_rest      a PUT of another version or against a rule, one against a quota, and what is left
--     quotas_found                     its quotas, by the object that is there
--     replace_two                      its version and its rules, by what was checked
--     replace_unchanged, replace_grown     one that changes nothing, and one that does
--     bytes_stay                       namespaces that begin to leave and objects that go add no bytes
--     delete_rest                      what is left of a DELETE
use Rattle.std.proofs.Common.{◌≡◌, cond, filter, map, ◌<◌, ◌≤◌, ◌+◌, ◌-◌, ℕ, Bool, true, false, not, ◌&&◌, nat_lt, nat_le, List, [], ◌∷◌, None, Some, Option, IfSome, refl, sym, ap, subst, ◌∙◌, arith, le-ltb, option_map}
use Rattle.std.specs.Prelude.{Result, is_none, if◌then◌else◌}
use Rattle.std.specs.Cmp.{both_ways}
use Rattle.std.specs.List.{AllByRecursion}
use Rattle.std.proofs.lemmas.Bool.{ltb-true, lt-ltb}
use Rattle.hx_object.specs.Sizes.{size_of, greatest_size}
use Rattle.hx_object.specs.declared.object.Id.{Id}
use Rattle.hx_object.specs.declared.object.Object.{Object}
use Rattle.hx_model.specs.Answers.{refusal_of, place_refusal, version_refusal, rule_refusal, quota_refusal, limit_refusals, other_version, brings_name, exceeds_bytes, replaced_by, same_object, replacing, writes_of, case_at, not_found, is_some_write, deleting, ending, ended, begins_to_leave, is_ended, owns_named}
use Rattle.hx_model.specs.First.{so, or_else, first}
use Rattle.hx_model.specs.Limits.{part_of, counted_size, counts, is_copy, is_namespace, is_anchor, names_in, objects_in, bytes_in, most_names, most_objects, most_bytes, greatest_version}
use Rattle.hx_model.specs.Quotas.{refused_by_quotas}
use Rattle.hx_model.specs.Rules.{rules}
use Rattle.hx_model.specs.Serving.{IsServed}
use Rattle.hx_model.specs.State.{State, Objects, object_at, ascends, put, cut, with_version, after_writes}
use Rattle.hx_model.specs.Tree.{namespaces_in}
use Rattle.hx_model.specs.Valid.{IsValid, IsStored}
use Rattle.hx_model.specs.declared.key.Write.{Write}
use Rattle.hx_model.specs.declared.ask.Ask.{Ask}
use Rattle.hx_model.specs.declared.ask.Ask.TheVariants.{Create, Replace, Delete}
use Rattle.hx_model.specs.declared.key.Write.TheVariants.{Put, Cut}
use Rattle.hx_model.specs.declared.refusal.Refusal.{Refusal}
use Rattle.hx_model.specs.declared.refusal.Refusal.TheVariants as of
use Rattle.hx_model.specs.declared.rule.Rule.TheVariants.{L1, L2, L3, L4}
use Rattle.hx_model.proofs.Objects.{sum-put, sum-cut, ascends-put, ascends-cut}
use Rattle.hx_model.proofs.Storing.{All-found}
use Rattle.hx_state.specs.Counting.{counts_of}
use Rattle.hx_admit.specs.Inside.{IsReplacement, IsDeletion, place_refusals, growth_refusals, objects_with}
use Rattle.hx_admit.specs.Limiting.{count_denials, growth_denials, rises_over}
use Rattle.hx_model.specs.Denials.{refusal_by}
use Rattle.hx_admit.specs.Refusing.{fault_in}
use Rattle.hx_model.specs.declared.denial.Denial.{Denial}
use Rattle.hx_model.specs.declared.denial.Denial.TheVariants.{Broken}
use Rattle.hx_state.specs.declared.limits.LimitCounts.{LimitCounts}
use Rattle.hx_state.proofs.Counting.{small_legal}
use Rattle.hx_admit.proofs.Sameness.{same_object_is, differs}

-- ---- the order of the refusals

-- what is left where no rule stands against an ask
abbrev last_refusal : State → Ask → Option Refusal
last_refusal s ask = or_else (quota_refusal s ask) (first (limit_refusals s ask))

-- where nothing stands before the rules
unplaced : (s : State) (ask : Ask) → place_refusal s ask ≡ None → version_refusal s ask ≡ None → refusal_of s ask ≡ or_else (rule_refusal s ask) (last_refusal s ask)
unplaced s ask place version =
    ap (λ o. or_else o (or_else (version_refusal s ask) (or_else (rule_refusal s ask) (last_refusal s ask)))) place
    ∙ ap (λ o. or_else o (or_else (rule_refusal s ask) (last_refusal s ask))) version

none_of_two : {A : Type 0} (a b rest : Option A) → or_else a (or_else b None) ≡ None → or_else a (or_else b rest) ≡ rest
none_of_two (Some a) b rest e = absurd (let h : Some a ≡ None = e in cc)
none_of_two None (Some b) rest e = absurd (let h : Some b ≡ None = e in cc)
none_of_two None None rest e = refl

first_of_two : {A : Type 0} (a b rest : Option A) (found : A) → or_else a (or_else b None) ≡ Some found → or_else a (or_else b rest) ≡ Some found
first_of_two (Some a) b rest found e = e
first_of_two None (Some b) rest found e = e
first_of_two None None rest found e = absurd (let h : None ≡ Some found = e in cc)

alone : {A : Type 0} (o : Option A) → or_else o None ≡ o
alone None = refl
alone (Some a) = refl

-- ---- growth

growth_alike : (id : Id) (c d : Bool) → first (so c (of.Broken L3) ∷ so d (of.Broken L4) ∷ []) ≡ option_map (refusal_by id) (first (so c (Broken L3) ∷ so d (Broken L4) ∷ []))
growth_alike id true d = refl
growth_alike id false true = refl
growth_alike id false false = refl

tests_alike : (a b c d : ℕ) → (a < b → c < d) → (c < d → a < b) → nat_lt a b ≡ nat_lt c d
tests_alike a b c d there back = both_ways (nat_lt a b) (nat_lt c d) (λ e. lt-ltb c d (there (ltb-true a b e))) (λ e. lt-ltb a b (back (ltb-true c d e)))

-- the test of the code is that of the sums
exceeding : (before after old new : ℕ) → after + old ≡ before + new → old ≤ before → new ≤ greatest_size → rises_over before old new ≡ (nat_lt before after && nat_lt most_bytes after)
exceeding before after old new sums part small =
    (λ i. tests_alike old new before after (λ h. omega arith) (λ h. omega arith) i && tests_alike (most_bytes - new) (before - old) most_bytes after (λ h. omega arith) (λ h. omega arith) i)

-- the size of an object doesn't depend on its version
size-with_version : (x : Object) (version : ℕ) → counted_size (with_version x version) ≡ counted_size x
unfolding counts is_copy size_of
size-with_version x version = refl

part_small : (o : Option Object) → IfSome o (λ x. size_of x ≤ greatest_size) → part_of counted_size o ≤ greatest_size
part_small None small = omega arith
part_small (Some x) small = by (counts x)
  where
    by : (b : Bool) → (if b then size_of x else 0) ≤ greatest_size
    by true = small
    by false = omega arith

pub small_found : (s : State) (id : Id) (found : Option Object) → IsValid s → object_at s.objects id ≡ found → IfSome found (λ x. size_of x ≤ greatest_size)
small_found s id None valid e = tt
small_found s id (Some x) valid e = small_legal x (All-found (IsStored s.last) id x s.objects valid.stored e).served.legal

pub small_new : (id : Id) (new : Option Object) → IfSome new (λ x. IsServed x × (x.id ≡ id)) → IfSome new (λ x. size_of x ≤ greatest_size)
small_new id None served = tt
small_new id (Some x) served = small_legal x served.0.legal

bytes_after : (s : State) (id : Id) (new : Option Object) → ascends s.objects ≡ true → IfSome new (λ x. IsServed x × (x.id ≡ id)) → bytes_in (objects_with s id new) + part_of counted_size (object_at s.objects id) ≡ bytes_in s.objects + part_of counted_size new
bytes_after s id None up served = omega (arith, sum-cut counted_size id s.objects up)
bytes_after s id (Some x) up served =
    subst (λ (q : Id). bytes_in (objects_with s q (Some x)) + part_of counted_size (object_at s.objects q) ≡ bytes_in s.objects + part_of counted_size (Some x)) served.1
    (sum-put counted_size (with_version x (s.last + 1)) s.objects up ∙ ap (λ n. bytes_in s.objects + n) (size-with_version x (s.last + 1)))

-- the limits of growth, by the numbers
pub grown : (s : State) (tally : LimitCounts) (id : Id) (old new : Option Object) → IsValid s → tally ≡ counts_of s.objects → object_at s.objects id ≡ old → IfSome new (λ x. IsServed x × (x.id ≡ id))
    → option_map (refusal_by id) (first (growth_denials tally old new s.last)) ≡ first (growth_refusals s (objects_with s id new))
grown s tally id old new valid numbers there served =
    let bytes : tally.bytes ≡ bytes_in s.objects = ap (λ (c : LimitCounts). c.bytes) numbers in
    let sums : bytes_in (objects_with s id new) + part_of counted_size old ≡ tally.bytes + part_of counted_size new =
    ap (λ o. bytes_in (objects_with s id new) + part_of counted_size o) (sym there) ∙ bytes_after s id new valid.in_order served ∙ ap (λ n. n + part_of counted_size new) (sym bytes) in
    let part : part_of counted_size old ≤ tally.bytes = rw (bytes, ← there) (omega (arith, sum-cut counted_size id s.objects valid.in_order)) in
    let test : rises_over tally.bytes (part_of counted_size old) (part_of counted_size new) ≡ exceeds_bytes s.objects (objects_with s id new) =
    exceeding tally.bytes (bytes_in (objects_with s id new)) (part_of counted_size old) (part_of counted_size new) sums part (part_small new (small_new id new served))
    ∙ ap (λ n. nat_lt n (bytes_in (objects_with s id new)) && nat_lt most_bytes (bytes_in (objects_with s id new))) bytes in
    sym (growth_alike id (rises_over tally.bytes (part_of counted_size old) (part_of counted_size new)) (nat_le greatest_version s.last))
    ∙ ap (λ b. first (so b (of.Broken L3) ∷ so (nat_le greatest_version s.last) (of.Broken L4) ∷ [])) test

-- ---- POST

-- its place is free: a rule may be broken
pub create_ruled : (s : State) (x : Object) (skip : Bool) (rule : Option Denial) → first (place_refusals s x.id) ≡ None → first (rules (case_at s x.id None (Some x) skip)) ≡ rule
    → first (place_refusal s (Create x skip) ∷ rule_refusal s (Create x skip) ∷ []) ≡ option_map (refusal_by x.id) rule
create_ruled s x skip rule place ruled =
    ap (λ o. or_else o (or_else (rule_refusal s (Create x skip)) None)) place ∙ alone (rule_refusal s (Create x skip)) ∙ ap (option_map (refusal_by x.id)) ruled

-- its place or a rule stands against it
pub create_first : (s : State) (x : Object) (skip : Bool) (refusal : Refusal) → first (place_refusal s (Create x skip) ∷ rule_refusal s (Create x skip) ∷ []) ≡ Some refusal → refusal_of s (Create x skip) ≡ Some refusal
create_first s x skip refusal refused = first_of_two (place_refusal s (Create x skip)) (rule_refusal s (Create x skip)) (last_refusal s (Create x skip)) refusal refused

-- what is left where neither does
unruled : (s : State) (x : Object) (skip : Bool) → first (place_refusal s (Create x skip) ∷ rule_refusal s (Create x skip) ∷ []) ≡ None → refusal_of s (Create x skip) ≡ last_refusal s (Create x skip)
unruled s x skip passes = none_of_two (place_refusal s (Create x skip)) (rule_refusal s (Create x skip)) (last_refusal s (Create x skip)) passes

-- a quota stands against it
pub create_over : (s : State) (x : Object) (skip : Bool) (refusal : Refusal) → first (place_refusal s (Create x skip) ∷ rule_refusal s (Create x skip) ∷ []) ≡ None → quota_refusal s (Create x skip) ≡ Some refusal → refusal_of s (Create x skip) ≡ Some refusal
create_over s x skip refusal passes over = unruled s x skip passes ∙ ap (λ o. or_else o (first (limit_refusals s (Create x skip)))) over

-- what is left where none does
pub create_rest : (s : State) (x : Object) (skip : Bool) → first (place_refusal s (Create x skip) ∷ rule_refusal s (Create x skip) ∷ []) ≡ None → quota_refusal s (Create x skip) ≡ None → refusal_of s (Create x skip) ≡ first (limit_refusals s (Create x skip))
create_rest s x skip passes within = unruled s x skip passes ∙ ap (λ o. or_else o (first (limit_refusals s (Create x skip)))) within

first_limits : (id : Id) (a b : Bool) (rest : List (Option Refusal)) (denial : Denial) → first (so a (Broken L1) ∷ so b (Broken L2) ∷ []) ≡ Some denial → first (so a (of.Broken L1) ∷ so b (of.Broken L2) ∷ rest) ≡ Some (refusal_by id denial)
first_limits id true b rest denial e = let same : Broken L1 ≡ denial = cc in ap (λ h. Some (refusal_by id h)) same
first_limits id false true rest denial e = let same : Broken L2 ≡ denial = cc in ap (λ h. Some (refusal_by id h)) same
first_limits id false false rest denial e = absurd (let h : None ≡ Some denial = e in cc)

last_limits : (a b : Bool) (rest : List (Option Refusal)) → first (so a (Broken L1) ∷ so b (Broken L2) ∷ []) ≡ None → first (so a (of.Broken L1) ∷ so b (of.Broken L2) ∷ rest) ≡ first rest
last_limits true b rest e = absurd (let h : Some (Broken L1) ≡ None = e in cc)
last_limits false true rest e = absurd (let h : Some (Broken L2) ≡ None = e in cc)
last_limits false false rest e = refl

module _ (s : State) (tally : LimitCounts) (numbers : tally ≡ counts_of s.objects) (x : Object) (skip named : Bool) (brings : named ≡ brings_name s (Create x skip)) where
  -- the limits, by what it brings
  brought : first (limit_refusals s (Create x skip)) ≡ first (so (named && nat_le most_names tally.names) (of.Broken L1) ∷ so (counts x && nat_le most_objects tally.objects) (of.Broken L2) ∷ growth_refusals s (put (with_version x (s.last + 1)) s.objects))
  brought =
      let names : names_in s.objects ≡ tally.names = sym (ap (λ (c : LimitCounts). c.names) numbers) in
      let objects : objects_in s.objects ≡ tally.objects = sym (ap (λ (c : LimitCounts). c.objects) numbers) in
      (λ i. first (so (sym brings i && nat_le most_names (names i)) (of.Broken L1) ∷ so (counts x && nat_le most_objects (objects i)) (of.Broken L2) ∷ growth_refusals s (put (with_version x (s.last + 1)) s.objects)))

  -- a name or an object that it brings is refused
  pub create_counted : (denial : Denial) → first (count_denials named (counts x) tally) ≡ Some denial → first (limit_refusals s (Create x skip)) ≡ Some (refusal_by x.id denial)
  create_counted denial refused = brought ∙ first_limits x.id _ _ (growth_refusals s (put (with_version x (s.last + 1)) s.objects)) denial refused

  -- what is left where none is
  pub create_grown : first (count_denials named (counts x) tally) ≡ None → first (limit_refusals s (Create x skip)) ≡ first (growth_refusals s (put (with_version x (s.last + 1)) s.objects))
  create_grown passed = brought ∙ last_limits _ _ (growth_refusals s (put (with_version x (s.last + 1)) s.objects)) passed

-- ---- PUT

-- an object is there
replace_found : (s : State) (x old : Object) (expected : Option ℕ) (skip : Bool) → object_at s.objects x.id ≡ Some old
    → refusal_of s (Replace x expected skip) ≡ or_else (version_refusal s (Replace x expected skip)) (or_else (rule_refusal s (Replace x expected skip)) (last_refusal s (Replace x expected skip)))
replace_found s x old expected skip there =
    ap (λ o. or_else o (or_else (version_refusal s (Replace x expected skip)) (or_else (rule_refusal s (Replace x expected skip)) (last_refusal s (Replace x expected skip))))) (ap (λ (o : Option Object). so (is_none o) (not_found x.id)) there)

-- it has another version, or a rule is broken
pub replace_first : (s : State) (x old : Object) (expected : Option ℕ) (skip : Bool) (refusal : Refusal) → object_at s.objects x.id ≡ Some old → first (version_refusal s (Replace x expected skip) ∷ rule_refusal s (Replace x expected skip) ∷ []) ≡ Some refusal
    → refusal_of s (Replace x expected skip) ≡ Some refusal
replace_first s x old expected skip refusal there refused =
    replace_found s x old expected skip there ∙ first_of_two (version_refusal s (Replace x expected skip)) (rule_refusal s (Replace x expected skip)) (last_refusal s (Replace x expected skip)) refusal refused

-- the two, by the object that is there
pub replace_two : (s : State) (x old : Object) (expected : Option ℕ) (skip : Bool) (version : Option Refusal) (rule : Option Denial) → object_at s.objects x.id ≡ Some old → version ≡ other_version expected (Some old)
    → rule ≡ first (rules (case_at s x.id (Some old) (Some x) skip))
    → first (version_refusal s (Replace x expected skip) ∷ rule_refusal s (Replace x expected skip) ∷ []) ≡ first (version ∷ option_map (refusal_by x.id) rule ∷ [])
replace_two s x old expected skip version rule there is ruled =
    let others = ap (other_version expected) there ∙ sym is in
    let rules_are : rule_refusal s (Replace x expected skip) ≡ option_map (refusal_by x.id) rule =
    ap (λ o. option_map (refusal_by x.id) (first (rules (case_at s x.id o (Some x) skip)))) there ∙ ap (option_map (refusal_by x.id)) (sym ruled) in
    λ i. first (others i ∷ rules_are i ∷ [])

-- what is left where neither holds
replace_last : (s : State) (x old : Object) (expected : Option ℕ) (skip : Bool) → object_at s.objects x.id ≡ Some old → first (version_refusal s (Replace x expected skip) ∷ rule_refusal s (Replace x expected skip) ∷ []) ≡ None
    → refusal_of s (Replace x expected skip) ≡ last_refusal s (Replace x expected skip)
replace_last s x old expected skip there passes =
    replace_found s x old expected skip there ∙ none_of_two (version_refusal s (Replace x expected skip)) (rule_refusal s (Replace x expected skip)) (last_refusal s (Replace x expected skip)) passes

-- the quotas, by the object that is there
pub quotas_found : (s : State) (x old : Object) (expected : Option ℕ) (skip : Bool) (found : Option Refusal) → object_at s.objects x.id ≡ Some old → found ≡ refused_by_quotas s (Some old) x → quota_refusal s (Replace x expected skip) ≡ found
quotas_found s x old expected skip found there is = ap (λ o. refused_by_quotas s o x) there ∙ sym is

-- a quota stands against it
pub replace_over : (s : State) (x old : Object) (expected : Option ℕ) (skip : Bool) (refusal : Refusal) → object_at s.objects x.id ≡ Some old → first (version_refusal s (Replace x expected skip) ∷ rule_refusal s (Replace x expected skip) ∷ []) ≡ None
    → quota_refusal s (Replace x expected skip) ≡ Some refusal → refusal_of s (Replace x expected skip) ≡ Some refusal
replace_over s x old expected skip refusal there passes over = replace_last s x old expected skip there passes ∙ ap (λ o. or_else o (first (limit_refusals s (Replace x expected skip)))) over

-- what is left where none does
replace_rest : (s : State) (x old : Object) (expected : Option ℕ) (skip : Bool) → object_at s.objects x.id ≡ Some old → first (version_refusal s (Replace x expected skip) ∷ rule_refusal s (Replace x expected skip) ∷ []) ≡ None
    → quota_refusal s (Replace x expected skip) ≡ None → refusal_of s (Replace x expected skip) ≡ first (limit_refusals s (Replace x expected skip))
replace_rest s x old expected skip there passes within = replace_last s x old expected skip there passes ∙ ap (λ o. or_else o (first (limit_refusals s (Replace x expected skip)))) within

not_less : (n : ℕ) → nat_lt n n ≡ false
not_less n = le-ltb n n (omega arith)

module _ (s : State) (x old next : Object) (expected : Option ℕ) (skip : Bool) (r : IsReplacement s x old expected skip next) where
  -- a PUT that changes nothing
  pub replace_unchanged : next ≡ old → (refusal_of s (Replace x expected skip) ≡ None) × (writes_of s (Replace x expected skip) ≡ [])
  replace_unchanged same =
      let there : object_at s.objects x.id ≡ Some old = r.there in
      let alike : same_object (replaced_by old x) old ≡ true = same_object_is (replaced_by old x) old (sym r.gives ∙ same) in
      let writes : replacing (object_at s.objects x.id) x (s.last + 1) ≡ [] = rw (there, alike) refl in
      let limits : first (limit_refusals s (Replace x expected skip)) ≡ None = rw (writes, not_less (bytes_in s.objects)) refl in
      (replace_rest s x old expected skip there r.passes r.quotas ∙ limits, writes)

  -- one that changes an object
  replace_changed : (next ≡ old → ⊥) → refusal_of s (Replace x expected skip) ≡ first (growth_refusals s (put (with_version next (s.last + 1)) s.objects))
  replace_changed apart =
      let there : object_at s.objects x.id ≡ Some old = r.there in
      let unlike : same_object (replaced_by old x) old ≡ false = differs (replaced_by old x) old (λ e. apart (r.gives ∙ e)) in
      let writes : replacing (object_at s.objects x.id) x (s.last + 1) ≡ Put (with_version (replaced_by old x) (s.last + 1)) ∷ [] = rw (there, unlike) refl in
      let limits : first (limit_refusals s (Replace x expected skip)) ≡ first (growth_refusals s (put (with_version (replaced_by old x) (s.last + 1)) s.objects)) = rw writes refl in
      replace_rest s x old expected skip there r.passes r.quotas ∙ limits ∙ ap (λ (y : Object). first (growth_refusals s (put (with_version y (s.last + 1)) s.objects))) (sym r.gives)

  -- what is left of one that does, as it was checked
  pub replace_grown : {A : Type 0} (result : Result A Denial) (found : Option Denial) → (next ≡ old → ⊥) → option_map (refusal_by next.id) (fault_in result) ≡ first (growth_refusals s (put (with_version next (s.last + 1)) s.objects)) → fault_in result ≡ found
      → refusal_of s (Replace x expected skip) ≡ option_map (refusal_by next.id) found
  replace_grown result found apart checked finds = replace_changed apart ∙ sym checked ∙ ap (option_map (refusal_by next.id)) finds

-- ---- DELETE

-- what may be written without more bytes: namespaces, which don't count
abbrev pub AddsNothing : Write → Type 0
AddsNothing (Put x) = is_namespace x.id.kind ≡ true
AddsNothing (Cut id) = Unit {0}

uncounted : (x : Object) → is_namespace x.id.kind ≡ true → counted_size x ≡ 0
unfolding counts
uncounted x is = rw is refl

-- then the bytes don't rise
bytes_stay : (ws : List Write) (objects : Objects) → AllByRecursion AddsNothing ws → ascends objects ≡ true → bytes_in (after_writes ws objects) ≤ bytes_in objects
bytes_stay [] objects light up = omega arith
bytes_stay (Put x ∷ ws) objects light up = omega (arith, bytes_stay ws (put x objects) light.1 (ascends-put x objects up), sum-put counted_size x objects up, uncounted x light.0)
bytes_stay (Cut id ∷ ws) objects light up = omega (arith, bytes_stay ws (cut id objects) light.1 (ascends-cut id objects up), sum-cut counted_size id objects up)

-- those that begin to leave are namespaces
each_ends : (version : ℕ) (test : Object → Bool) (objects : Objects) → AllByRecursion AddsNothing (map (λ x. Put (ended version x)) (filter test (namespaces_in objects)))
each_ends version test [] = tt
each_ends version test (y ∷ objects) =
    elim (is_namespace y.id.kind) as (λ b. is_namespace y.id.kind ≡ b → AllByRecursion AddsNothing (map (λ x. Put (ended version x)) (filter test (cond b (y ∷ namespaces_in objects) (namespaces_in objects))))) [
      | true ↦ λ is. elim (test y) as (λ b. AllByRecursion AddsNothing (map (λ x. Put (ended version x)) (cond b (y ∷ filter test (namespaces_in objects)) (filter test (namespaces_in objects))))) [
        | true ↦ (is, each_ends version test objects)
        | false ↦ each_ends version test objects
      ]
      | false ↦ λ out. each_ends version test objects
    ] refl

adds_nothing : (s : State) (id : Id) (skip : Bool) → AllByRecursion AddsNothing (deleting s id skip)
adds_nothing s id skip = by (is_namespace id.kind) (is_ended (object_at s.objects id)) (is_anchor id.kind && (not skip && owns_named s id))
  where
    by : (a b c : Bool) → AllByRecursion AddsNothing (if a then (if b then [] else ending s id.name) else (if c then Cut id ∷ ending s id.name else Cut id ∷ []))
    by true true c = tt
    by true false c = each_ends (s.last + 1) (begins_to_leave s id.name) s.objects
    by false b true = (tt, each_ends (s.last + 1) (begins_to_leave s id.name) s.objects)
    by false b false = (tt, tt)

unexceeded : (a b : ℕ) → b ≤ a → (nat_lt a b && nat_lt most_bytes b) ≡ false
unexceeded a b less = ap (λ t. t && nat_lt most_bytes b) (le-ltb a b less)

-- what is left where an object is there
delete_found : (s : State) (id : Id) (old : Object) (skip : Bool) → IsValid s → object_at s.objects id ≡ Some old
    → refusal_of s (Delete id skip) ≡ or_else (rule_refusal s (Delete id skip)) (so (is_some_write (deleting s id skip) && nat_le greatest_version s.last) (of.Broken L4))
delete_found s id old skip valid there =
    unplaced s (Delete id skip) (ap (λ (o : Option Object). so (is_none o) (not_found id)) there) refl
    ∙ ap (λ b. or_else (rule_refusal s (Delete id skip)) (first (so b (of.Broken L3) ∷ so (is_some_write (deleting s id skip) && nat_le greatest_version s.last) (of.Broken L4) ∷ [])))
    (unexceeded (bytes_in s.objects) (bytes_in (after_writes (deleting s id skip) s.objects)) (bytes_stay (deleting s id skip) s.objects (adds_nothing s id skip) valid.in_order))
    ∙ ap (or_else (rule_refusal s (Delete id skip))) (alone (so (is_some_write (deleting s id skip) && nat_le greatest_version s.last) (of.Broken L4)))

-- what is left where none is, as it was checked
pub delete_rest : {A : Type 0} (s : State) (id : Id) (old : Object) (skip : Bool) (writes : List Write) (result : Result A Denial) (found : Option Denial) → IsDeletion s id old skip writes
    → fault_in result ≡ so (is_some_write writes && nat_le greatest_version s.last) (Broken L4) → fault_in result ≡ found → refusal_of s (Delete id skip) ≡ option_map (refusal_by id) found
delete_rest s id old skip writes result found d checked finds =
    delete_found s id old skip d.valid d.there
    ∙ ap (λ o. or_else o (so (is_some_write (deleting s id skip) && nat_le greatest_version s.last) (of.Broken L4))) d.passes
    ∙ ap (λ ws. so (is_some_write ws && nat_le greatest_version s.last) (of.Broken L4)) (sym d.changes)
    ∙ by (is_some_write writes && nat_le greatest_version s.last)
    ∙ ap (option_map (refusal_by id)) (sym checked ∙ finds)
  where
    by : (b : Bool) → so b (of.Broken L4) ≡ option_map (refusal_by id) (so b (Broken L4))
    by true = refl
    by false = refl
