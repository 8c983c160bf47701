-- NodeTable, in the order in which they lie.
--     as_many, keys_from, distinct_from, distinct_seen, length_from, names_from, nodes_from, steps_from, standings_from     of nodes and rungs in the same order
--     index_position         the index of a name, by the test of names
--     place_at_index         what lies where a name lies
--     name_at_index, own_index     the name there, and where the name lies that lies at an index
--     places_push, standing_push, look_added      one more at the end
--     item_at                what is read of a list at an index
--     none_places            what a name has of nodes alone
--     look_cut, places_out, rung_placed, no_place, standing_out        one out, with the last one in its place
--     rung_set, rung_none, both_set, node_none, rung_there, standing_rung, standing_both     one is changed
--     set_keys, look_changed, changed_twice        the names then, and what is found
use Rattle.std.specs.Prelude.{◌<◌, slice_get, position, swap_remove, slice_set, slice_index_or, take, nat_lt, not}
use Rattle.std.proofs.Common.{◌≡◌, ℕ, zero, suc, ◌+◌, ◌-◌, Bool, true, false, cond, List, [], ◌∷◌, ◌++◌, length, Option, Some, None, option_map, refl, sym, ap, subst, ◌∙◌, arith, true≢false}
use Rattle.std.specs.List.{AllByRecursion, IsDistinct, ItemBy, position_or_len}
use Rattle.std.specs.Map.{keys_of, values_of, lookup}
use Rattle.std.specs.Str.{bytes_eq}
use Rattle.std.proofs.lemmas.Bool.{lt-ltb, le-ltb, ltb-true, ltb-false}
use Rattle.std.proofs.lemmas.Cmp.{nat_list_eq_equiv}
use Rattle.std.proofs.lemmas.Map.Keys.{IsDistinct-head, IsDistinct-tail}
use Rattle.std.proofs.lemmas.Option.{none-some, same_Some, get_or_from_slice_get, slice_get_within, slice_get_past, slice_get_read}
use Rattle.indexmap.specs.IndexMap.{set_value_at}
use Rattle.indexmap.proofs.MapLemmas.{swap_remove-default}
use Rattle.indexmap.proofs.RemoveLemmas.{swap_out}
use Rattle.hx_model.proofs.Climbing.{is_same, same_itself}
use Rattle.hx_model.proofs.Objects.{same_test, swap_tests}
use Rattle.hx_model.specs.declared.node.Node.{Node}
use Rattle.hx_forest.specs.declared.node_table.Standing.{Standing}
use Rattle.hx_forest.specs.declared.node_table.Step.{Step}
use Rattle.hx_forest.specs.NodeTable.{Place, NodeTableView, place_with, step_of, standing_of, places_from, AreStanding, index_in, entry_in, changed_at}

abbrev Nodes : Type 0
Nodes = List (List ℕ × Node)

abbrev Rungs : Type 0
Rungs = List (Step × Standing)

abbrev Rows : Type 0
Rows = List (List ℕ × Place)

-- ---- nodes and rungs

pub as_many : (es : Nodes) (rs : Rungs) → AreStanding es rs → length rs ≡ length es
as_many [] [] is = refl
as_many [] (r ∷ rs) is = absurd is
as_many (e ∷ es) [] is = absurd is
as_many (e ∷ es) (r ∷ rs) is = ap (λ k. suc k) (as_many es rs is.1)

pub keys_from : (es : Nodes) (rs : Rungs) → AreStanding es rs → keys_of (places_from es rs) ≡ keys_of es
keys_from [] rs is = refl
keys_from (e ∷ es) [] is = absurd is
keys_from (e ∷ es) (r ∷ rs) is = ap (λ ks. e.0 ∷ ks) (keys_from es rs is.1)

pub distinct_from : (es : Nodes) (rs : Rungs) → AreStanding es rs → IsDistinct bytes_eq (keys_of es) → IsDistinct bytes_eq (keys_of (places_from es rs))
distinct_from es rs is distinct = subst (λ (ks : List (List ℕ)). IsDistinct bytes_eq ks) (sym (keys_from es rs is)) distinct

pub distinct_seen : (es : Nodes) (rs : Rungs) (k : ℕ) (seen : NodeTableView) → record { entries = places_from es rs; spare = k } ≡ seen → AreStanding es rs → IsDistinct bytes_eq (keys_of es) → IsDistinct bytes_eq (keys_of seen.entries)
distinct_seen es rs k seen is standing distinct = subst (λ (v : NodeTableView). IsDistinct bytes_eq (keys_of v.entries)) is (distinct_from es rs standing distinct)

pub length_from : (es : Nodes) (rs : Rungs) → AreStanding es rs → length (places_from es rs) ≡ length es
length_from [] rs is = refl
length_from (e ∷ es) [] is = absurd is
length_from (e ∷ es) (r ∷ rs) is = ap (λ k. suc k) (length_from es rs is.1)

pub names_from : (es : Nodes) (rs : Rungs) (i : ℕ) → AreStanding es rs → option_map (λ e. e.0) (slice_get es i) ≡ option_map (λ e. e.0) (slice_get (places_from es rs) i)
names_from [] rs i is = refl
names_from (e ∷ es) [] i is = absurd is
names_from (e ∷ es) (r ∷ rs) zero is = refl
names_from (e ∷ es) (r ∷ rs) (suc i) is = names_from es rs i is.1

pub nodes_from : (es : Nodes) (rs : Rungs) (i : ℕ) → AreStanding es rs → option_map (λ e. e.1) (slice_get es i) ≡ option_map (λ e. e.1.node) (slice_get (places_from es rs) i)
nodes_from [] rs i is = refl
nodes_from (e ∷ es) [] i is = absurd is
nodes_from (e ∷ es) (r ∷ rs) zero is = refl
nodes_from (e ∷ es) (r ∷ rs) (suc i) is = nodes_from es rs i is.1

rungs_from : (es : Nodes) (rs : Rungs) (i : ℕ) → AreStanding es rs → slice_get rs i ≡ option_map (λ e. (step_of e.1, standing_of e.1.node)) (slice_get (places_from es rs) i)
rungs_from [] [] i is = refl
rungs_from [] (r ∷ rs) i is = absurd is
rungs_from (e ∷ es) [] i is = absurd is
rungs_from (e ∷ es) (r ∷ rs) zero is = ap (λ (standing : Standing). Some (r.0, standing)) is.0
rungs_from (e ∷ es) (r ∷ rs) (suc i) is = rungs_from es rs i is.1

pub steps_from : (es : Nodes) (rs : Rungs) (i : ℕ) → AreStanding es rs → option_map (λ r. r.0) (slice_get rs i) ≡ option_map (λ e. step_of e.1) (slice_get (places_from es rs) i)
steps_from es rs i is = ap (option_map (λ (r : Step × Standing). r.0)) (rungs_from es rs i is) ∙ by (slice_get (places_from es rs) i)
  where
    by : (o : Option (List ℕ × Place)) → option_map (λ (r : Step × Standing). r.0) (option_map (λ e. (step_of e.1, standing_of e.1.node)) o) ≡ option_map (λ e. step_of e.1) o
    by None = refl
    by (Some e) = refl

pub standings_from : (es : Nodes) (rs : Rungs) (i : ℕ) → AreStanding es rs → option_map (λ r. r.1) (slice_get rs i) ≡ option_map (λ e. standing_of e.1.node) (slice_get (places_from es rs) i)
standings_from es rs i is = ap (option_map (λ (r : Step × Standing). r.1)) (rungs_from es rs i is) ∙ by (slice_get (places_from es rs) i)
  where
    by : (o : Option (List ℕ × Place)) → option_map (λ (r : Step × Standing). r.1) (option_map (λ e. (step_of e.1, standing_of e.1.node)) o) ≡ option_map (λ e. standing_of e.1.node) o
    by None = refl
    by (Some e) = refl

-- what is read at an index
pub item_at : {R X : Type 0} (now : R → X) (xs : List X) (i : ℕ) (r : Option R) → ItemBy now xs i i r → option_map now r ≡ slice_get xs i
item_at now xs i None item = sym (slice_get_past xs i item.3)
item_at now xs i (Some x) item = sym (slice_get_read xs (length xs) i (now x) refl item.3.0 (item.3.1 (now x)))

-- the node of a name
look_nodes : (es : Nodes) (rs : Rungs) (n : List ℕ) → AreStanding es rs → lookup (bytes_eq n) es ≡ option_map (λ p. p.node) (lookup (bytes_eq n) (places_from es rs))
look_nodes [] rs n is = refl
look_nodes (e ∷ es) [] n is = absurd is
look_nodes (e ∷ es) (r ∷ rs) n is = ap (cond (bytes_eq n e.0) (Some e.1)) (look_nodes es rs n is.1) ∙ by (bytes_eq n e.0)
  where
    by : (b : Bool) → cond b (Some e.1) (option_map (λ (p : Place). p.node) (lookup (bytes_eq n) (places_from es rs))) ≡ option_map (λ p. p.node) (cond b (Some (place_with r.0 e.1)) (lookup (bytes_eq n) (places_from es rs)))
    by true = refl
    by false = refl

pub none_places : (es : Nodes) (rs : Rungs) (n : List ℕ) → AreStanding es rs → lookup (bytes_eq n) (places_from es rs) ≡ None → lookup (bytes_eq n) es ≡ None
none_places es rs n is none = look_nodes es rs n is ∙ ap (option_map (λ (p : Place). p.node)) none

-- ---- indices

one_less : (a b : ℕ) → nat_lt (suc a) (suc b) ≡ nat_lt a b
one_less a b = by (nat_lt a b) refl
  where
    by : (t : Bool) → nat_lt a b ≡ t → nat_lt (suc a) (suc b) ≡ t
    by true less = let more = ltb-true a b less in lt-ltb (suc a) (suc b) (omega (arith, more))
    by false not_less = let more = ltb-false a b not_less in le-ltb (suc a) (suc b) (omega (arith, more))

pub index_position : (es : Rows) (n : List ℕ) → position (bytes_eq n) (keys_of es) ≡ index_in es n
index_position [] n = refl
index_position (e ∷ es) n = by (bytes_eq n e.0) (index_position es n)
  where
    by : (b : Bool) → position (bytes_eq n) (keys_of es) ≡ index_in es n
        → cond (nat_lt (cond (not b) (1 + position_or_len (bytes_eq n) (keys_of es)) 0) (suc (length (keys_of es)))) (Some (cond (not b) (1 + position_or_len (bytes_eq n) (keys_of es)) 0)) None ≡ cond b (Some 0) (option_map (λ i. suc i) (index_in es n))
    by true _ = ap (λ t. cond t (Some 0) None) (lt-ltb 0 (suc (length (keys_of es))) (omega arith))
    by false rest = ap (λ k. cond (nat_lt k (suc (length (keys_of es)))) (Some k) None) one
        ∙ ap (λ t. cond t (Some (suc (position_or_len (bytes_eq n) (keys_of es)))) None) (one_less (position_or_len (bytes_eq n) (keys_of es)) (length (keys_of es)))
        ∙ further (nat_lt (position_or_len (bytes_eq n) (keys_of es)) (length (keys_of es))) ∙ ap (option_map (λ (i : ℕ). suc i)) rest
      where
        one : 1 + position_or_len (bytes_eq n) (keys_of es) ≡ suc (position_or_len (bytes_eq n) (keys_of es))
        one = omega arith

        further : (b : Bool) → cond b (Some (suc (position_or_len (bytes_eq n) (keys_of es)))) None ≡ option_map (λ i. suc i) (cond b (Some (position_or_len (bytes_eq n) (keys_of es))) None)
        further true = refl
        further false = refl

-- what lies where a name lies
pub place_at_index : (es : Rows) (n : List ℕ) → option_map (λ e. e.1) (entry_in es (index_in es n)) ≡ lookup (bytes_eq n) es
place_at_index [] n = refl
place_at_index (e ∷ es) n = by (bytes_eq n e.0) (place_at_index es n)
  where
    further : (o : Option ℕ) → entry_in (e ∷ es) (option_map (λ i. suc i) o) ≡ entry_in es o
    further None = refl
    further (Some i) = refl

    by : (b : Bool) → option_map (λ e. e.1) (entry_in es (index_in es n)) ≡ lookup (bytes_eq n) es → option_map (λ e. e.1) (entry_in (e ∷ es) (cond b (Some 0) (option_map (λ i. suc i) (index_in es n)))) ≡ cond b (Some e.1) (lookup (bytes_eq n) es)
    by true _ = refl
    by false rest = ap (option_map (λ (e : List ℕ × Place). e.1)) (further (index_in es n)) ∙ rest

-- the name there
pub name_at_index : (es : Rows) (n : List ℕ) (i : ℕ) → index_in es n ≡ Some i → option_map (λ e. e.0) (slice_get es i) ≡ Some n
name_at_index [] n i is = absurd (none-some i is)
name_at_index (e ∷ es) n i is = by (bytes_eq n e.0) refl is (name_at_index es n)
  where
    further : (o : Option ℕ) → index_in es n ≡ o → (j : ℕ) → option_map (λ i. suc i) o ≡ Some j → ((k : ℕ) → index_in es n ≡ Some k → option_map (λ e. e.0) (slice_get es k) ≡ Some n) → option_map (λ e. e.0) (slice_get (e ∷ es) j) ≡ Some n
    further None _ j at rest = absurd (none-some j at)
    further (Some k) found j at rest = subst (λ (x : ℕ). option_map (λ e. e.0) (slice_get (e ∷ es) x) ≡ Some n) (same_Some (suc k) j at) (rest k found)

    by : (b : Bool) → bytes_eq n e.0 ≡ b → cond b (Some 0) (option_map (λ i. suc i) (index_in es n)) ≡ Some i
        → ((k : ℕ) → index_in es n ≡ Some k → option_map (λ e. e.0) (slice_get es k) ≡ Some n) → option_map (λ e. e.0) (slice_get (e ∷ es) i) ≡ Some n
    by true same at _ = subst (λ (x : ℕ). option_map (λ e. e.0) (slice_get (e ∷ es) x) ≡ Some n) (same_Some 0 i at) (ap Some (sym (is_same n e.0 same)))
    by false _ at rest = further (index_in es n) refl i at rest

apart_at : (a : List ℕ) (es : Rows) (i : ℕ) (b : List ℕ) (p : Place) → AllByRecursion (λ y. bytes_eq a y ≡ false) (keys_of es) → slice_get es i ≡ Some (b, p) → bytes_eq a b ≡ false
apart_at a [] i b p apart is = absurd (none-some {A = List ℕ × Place} (b, p) is)
apart_at a (e ∷ es) zero b p apart is = ap (λ (x : List ℕ × Place). bytes_eq a x.0) (sym (same_Some {A = List ℕ × Place} e (b, p) is)) ∙ apart.0
apart_at a (e ∷ es) (suc i) b p apart is = apart_at a es i b p apart.1 is

-- where the name lies that lies at an index
pub own_index : (es : Rows) (i : ℕ) (b : List ℕ) (p : Place) → IsDistinct bytes_eq (keys_of es) → slice_get es i ≡ Some (b, p) → index_in es b ≡ Some i
own_index [] i b p distinct is = absurd (none-some {A = List ℕ × Place} (b, p) is)
own_index (e ∷ es) zero b p distinct is = ap (λ t. cond t (Some 0) (option_map (λ i. suc i) (index_in es b)))
    (ap (λ (x : List ℕ × Place). bytes_eq b x.0) (same_Some {A = List ℕ × Place} e (b, p) is) ∙ same_itself b)
own_index (e ∷ es) (suc i) b p distinct is =
    let other : bytes_eq b e.0 ≡ false = nat_list_eq_equiv.symm b e.0 ∙ apart_at e.0 es i b p (IsDistinct-head bytes_eq e.0 (keys_of es) distinct) is in
    ap (λ t. cond t (Some 0) (option_map (λ i. suc i) (index_in es b))) other
    ∙ ap (option_map (λ (i : ℕ). suc i)) (own_index es i b p (IsDistinct-tail bytes_eq e.0 (keys_of es) distinct) is)

-- ---- one more at the end

pub places_push : (es : Nodes) (rs : Rungs) (k : List ℕ) (n : Node) (r : Step × Standing) → AreStanding es rs → places_from (es ++ (k, n) ∷ []) (rs ++ r ∷ []) ≡ places_from es rs ++ (k, place_with r.0 n) ∷ []
places_push [] [] k n r is = refl
places_push [] (m ∷ rs) k n r is = absurd is
places_push (e ∷ es) [] k n r is = absurd is
places_push (e ∷ es) (m ∷ rs) k n r is = ap (λ xs. (e.0, place_with m.0 e.1) ∷ xs) (places_push es rs k n r is.1)

pub standing_push : (es : Nodes) (rs : Rungs) (k : List ℕ) (n : Node) (r : Step × Standing) → AreStanding es rs → r.1 ≡ standing_of n → AreStanding (es ++ (k, n) ∷ []) (rs ++ r ∷ [])
standing_push [] [] k n r is new = (new, tt)
standing_push [] (m ∷ rs) k n r is new = absurd is
standing_push (e ∷ es) [] k n r is new = absurd is
standing_push (e ∷ es) (m ∷ rs) k n r is new = (is.0, standing_push es rs k n r is.1 new)

look_push : (es : Rows) (n : List ℕ) (p : Place) → lookup (bytes_eq n) es ≡ None → (q : List ℕ) → lookup (bytes_eq q) (es ++ (n, p) ∷ []) ≡ cond (bytes_eq n q) (Some p) (lookup (bytes_eq q) es)
look_push [] n p none q = ap (λ b. cond b (Some p) None) (nat_list_eq_equiv.symm q n)
look_push (e ∷ es) n p none q = by (bytes_eq n e.0) refl none (λ out. look_push es n p out q)
  where
    by : (b : Bool) → bytes_eq n e.0 ≡ b → cond b (Some e.1) (lookup (bytes_eq n) es) ≡ None
        → (lookup (bytes_eq n) es ≡ None → lookup (bytes_eq q) (es ++ (n, p) ∷ []) ≡ cond (bytes_eq n q) (Some p) (lookup (bytes_eq q) es))
        → cond (bytes_eq q e.0) (Some e.1) (lookup (bytes_eq q) (es ++ (n, p) ∷ [])) ≡ cond (bytes_eq n q) (Some p) (cond (bytes_eq q e.0) (Some e.1) (lookup (bytes_eq q) es))
    by true _ is _ = absurd (none-some e.1 (sym is))
    by false other is rest = ap (cond (bytes_eq q e.0) (Some e.1)) (rest is)
        ∙ swap_tests (bytes_eq n q) (bytes_eq q e.0) (Some p) (Some e.1) (lookup (bytes_eq q) es) (λ here there. true≢false (sym (ap (bytes_eq n) (sym (is_same q e.0 there)) ∙ here) ∙ other))

pub look_added : (new held old : Rows) (n : List ℕ) (p : Place) → new ≡ held ++ (n, p) ∷ [] → held ≡ old → lookup (bytes_eq n) old ≡ None → (q : List ℕ) → lookup (bytes_eq q) new ≡ cond (bytes_eq n q) (Some p) (lookup (bytes_eq q) old)
look_added new held old n p is same none q = ap (lookup (bytes_eq q)) (is ∙ ap (λ (es : Rows). es ++ (n, p) ∷ []) same) ∙ look_push old n p none q

-- ---- one is changed

pub rung_set : (change : Place → Place) (r s : Step × Standing) → ((n : Node) → place_with s.0 n ≡ change (place_with r.0 n))
    → (i : ℕ) (es : Nodes) (rs : Rungs) → AreStanding es rs → slice_get rs i ≡ Some r → places_from es (slice_set rs i s) ≡ changed_at change i (places_from es rs)
rung_set change r s same i [] [] is at = absurd (none-some r at)
rung_set change r s same i [] (x ∷ rs) is at = absurd is
rung_set change r s same i (e ∷ es) [] is at = absurd is
rung_set change r s same zero (e ∷ es) (x ∷ rs) is at = ap (λ (p : Place). (e.0, p) ∷ places_from es rs) (same e.1 ∙ ap (λ (y : Step × Standing). change (place_with y.0 e.1)) (sym (same_Some x r at)))
rung_set change r s same (suc i) (e ∷ es) (x ∷ rs) is at = ap (λ xs. (e.0, place_with x.0 e.1) ∷ xs) (rung_set change r s same i es rs is.1 at)

pub standing_rung : (r s : Step × Standing) → s.1 ≡ r.1 → (i : ℕ) (es : Nodes) (rs : Rungs) → AreStanding es rs → slice_get rs i ≡ Some r → AreStanding es (slice_set rs i s)
standing_rung r s same i [] [] is at = is
standing_rung r s same i [] (x ∷ rs) is at = absurd is
standing_rung r s same i (e ∷ es) [] is at = absurd is
standing_rung r s same zero (e ∷ es) (x ∷ rs) is at = (same ∙ ap (λ (y : Step × Standing). y.1) (sym (same_Some x r at)) ∙ is.0, is.1)
standing_rung r s same (suc i) (e ∷ es) (x ∷ rs) is at = (is.0, standing_rung r s same i es rs is.1 at)

pub rung_none : (change : Place → Place) (i : ℕ) (es : Nodes) (rs : Rungs) → slice_get rs i ≡ None → places_from es rs ≡ changed_at change i (places_from es rs)
rung_none change i [] rs none = refl
rung_none change i (e ∷ es) [] none = refl
rung_none change zero (e ∷ es) (x ∷ rs) none = absurd (none-some x (sym none))
rung_none change (suc i) (e ∷ es) (x ∷ rs) none = ap (λ xs. (e.0, place_with x.0 e.1) ∷ xs) (rung_none change i es rs none)

-- a node, and its rung along with it
pub both_set : (change : Place → Place) (n m : Node) (r s : Step × Standing) → place_with s.0 m ≡ change (place_with r.0 n)
    → (i : ℕ) (es : Nodes) (rs : Rungs) → AreStanding es rs → slice_get (values_of es) i ≡ Some n → slice_get rs i ≡ Some r → places_from (set_value_at es i m) (slice_set rs i s) ≡ changed_at change i (places_from es rs)
both_set change n m r s same i [] rs is at lies = absurd (none-some n at)
both_set change n m r s same i (e ∷ es) [] is at lies = absurd is
both_set change n m r s same zero (e ∷ es) (x ∷ rs) is at lies = ap (λ (p : Place). (e.0, p) ∷ places_from es rs)
    (same ∙ (λ j. change (place_with ((sym (same_Some x r lies) j).0) (sym (same_Some e.1 n at) j))))
both_set change n m r s same (suc i) (e ∷ es) (x ∷ rs) is at lies = ap (λ xs. (e.0, place_with x.0 e.1) ∷ xs) (both_set change n m r s same i es rs is.1 at lies)

pub standing_both : (m : Node) (s : Step × Standing) → s.1 ≡ standing_of m → (i : ℕ) (es : Nodes) (rs : Rungs) → AreStanding es rs → AreStanding (set_value_at es i m) (slice_set rs i s)
standing_both m s same i [] [] is = is
standing_both m s same i [] (x ∷ rs) is = absurd is
standing_both m s same i (e ∷ es) [] is = absurd is
standing_both m s same zero (e ∷ es) (x ∷ rs) is = (same, is.1)
standing_both m s same (suc i) (e ∷ es) (x ∷ rs) is = (is.0, standing_both m s same i es rs is.1)

pub node_none : (change : Place → Place) (i : ℕ) (es : Nodes) (rs : Rungs) → slice_get (values_of es) i ≡ None → places_from es rs ≡ changed_at change i (places_from es rs)
node_none change i [] rs none = refl
node_none change i (e ∷ es) [] none = refl
node_none change zero (e ∷ es) (x ∷ rs) none = absurd (none-some e.1 (sym none))
node_none change (suc i) (e ∷ es) (x ∷ rs) none = ap (λ xs. (e.0, place_with x.0 e.1) ∷ xs) (node_none change i es rs none)

pub rung_there : (i : ℕ) (es : Nodes) (rs : Rungs) (n : Node) → AreStanding es rs → slice_get (values_of es) i ≡ Some n → i < length rs
rung_there i [] rs n is at = absurd (none-some n at)
rung_there i (e ∷ es) [] n is at = absurd is
rung_there zero (e ∷ es) (x ∷ rs) n is at = omega arith
rung_there (suc i) (e ∷ es) (x ∷ rs) n is at = let more = rung_there i es rs n is.1 at in omega (arith, more)

pub set_keys : (i : ℕ) (es : Nodes) (n : Node) → IsDistinct bytes_eq (keys_of es) → IsDistinct bytes_eq (keys_of (set_value_at es i n))
set_keys i es n distinct = subst (λ (ks : List (List ℕ)). IsDistinct bytes_eq ks) (sym (keys i es n)) distinct
  where
    keys : (i : ℕ) (es : Nodes) (n : Node) → keys_of (set_value_at es i n) ≡ keys_of es
    keys i [] n = refl
    keys zero (e ∷ es) n = refl
    keys (suc i) (e ∷ es) n = ap (λ ks. e.0 ∷ ks) (keys i es n)

-- what is found then
pub look_changed : (change : Place → Place) (es : Rows) (n : List ℕ) (i : ℕ) (p : Place) → index_in es n ≡ Some i → lookup (bytes_eq n) es ≡ Some p
    → (q : List ℕ) → lookup (bytes_eq q) (changed_at change i es) ≡ cond (bytes_eq n q) (Some (change p)) (lookup (bytes_eq q) es)
look_changed change [] n i p is there q = absurd (none-some i is)
look_changed change (e ∷ es) n i p is there q = by (bytes_eq n e.0) refl is there (λ k here found. look_changed change es n k p here found q)
  where
    further : (o : Option ℕ) → index_in es n ≡ o → (j : ℕ) → option_map (λ i. suc i) o ≡ Some j → bytes_eq n e.0 ≡ false
        → ((k : ℕ) → index_in es n ≡ Some k → lookup (bytes_eq q) (changed_at change k es) ≡ cond (bytes_eq n q) (Some (change p)) (lookup (bytes_eq q) es))
        → lookup (bytes_eq q) (changed_at change j (e ∷ es)) ≡ cond (bytes_eq n q) (Some (change p)) (cond (bytes_eq q e.0) (Some e.1) (lookup (bytes_eq q) es))
    further None _ j at other rest = absurd (none-some j at)
    further (Some k) found j at other rest = subst (λ (x : ℕ). lookup (bytes_eq q) (changed_at change x (e ∷ es)) ≡ cond (bytes_eq n q) (Some (change p)) (cond (bytes_eq q e.0) (Some e.1) (lookup (bytes_eq q) es))) (same_Some (suc k) j at)
        (ap (cond (bytes_eq q e.0) (Some e.1)) (rest k found)
        ∙ swap_tests (bytes_eq n q) (bytes_eq q e.0) (Some (change p)) (Some e.1) (lookup (bytes_eq q) es) (λ here there. true≢false (sym (ap (bytes_eq n) (sym (is_same q e.0 there)) ∙ here) ∙ other)))

    by : (b : Bool) → bytes_eq n e.0 ≡ b → cond b (Some 0) (option_map (λ i. suc i) (index_in es n)) ≡ Some i → cond b (Some e.1) (lookup (bytes_eq n) es) ≡ Some p
        → ((k : ℕ) → index_in es n ≡ Some k → lookup (bytes_eq n) es ≡ Some p → lookup (bytes_eq q) (changed_at change k es) ≡ cond (bytes_eq n q) (Some (change p)) (lookup (bytes_eq q) es))
        → lookup (bytes_eq q) (changed_at change i (e ∷ es)) ≡ cond (bytes_eq n q) (Some (change p)) (cond (bytes_eq q e.0) (Some e.1) (lookup (bytes_eq q) es))
    by true same at found _ =
        let flip : bytes_eq q e.0 ≡ bytes_eq n q = nat_list_eq_equiv.symm q e.0 ∙ ap (λ (x : List ℕ). bytes_eq x q) (sym (is_same n e.0 same)) in
        subst (λ (x : ℕ). lookup (bytes_eq q) (changed_at change x (e ∷ es)) ≡ cond (bytes_eq n q) (Some (change p)) (cond (bytes_eq q e.0) (Some e.1) (lookup (bytes_eq q) es))) (same_Some 0 i at)
        ((λ j. cond (flip j) (Some (change (same_Some e.1 p found j))) (lookup (bytes_eq q) es))
        ∙ same_test (bytes_eq n q) (bytes_eq q e.0) (Some (change p)) (Some e.1) (lookup (bytes_eq q) es) (sym flip))
    by false other at found rest = further (index_in es n) refl i at other (λ k here. rest k here found)

pub changed_twice : (change more : Place → Place) (i : ℕ) (es : Rows) → changed_at more i (changed_at change i es) ≡ changed_at (λ p. more (change p)) i es
changed_twice change more i [] = refl
changed_twice change more zero (e ∷ es) = refl
changed_twice change more (suc i) (e ∷ es) = ap (λ xs. e ∷ xs) (changed_twice change more i es)

-- ---- one out, with the last one in its place

set_both : (es : Nodes) (rs : Rungs) (i : ℕ) (e : List ℕ × Node) (r : Step × Standing) → places_from (slice_set es i e) (slice_set rs i r) ≡ slice_set (places_from es rs) i (e.0, place_with r.0 e.1)
set_both [] rs i e r = refl
set_both (x ∷ es) [] i e r = none (slice_set (x ∷ es) i e)
  where
    none : (xs : Nodes) → places_from xs [] ≡ []
    none [] = refl
    none (x ∷ xs) = refl
set_both (x ∷ es) (y ∷ rs) zero e r = refl
set_both (x ∷ es) (y ∷ rs) (suc i) e r = ap (λ xs. (x.0, place_with y.0 x.1) ∷ xs) (set_both es rs i e r)

set_standing : (es : Nodes) (rs : Rungs) (i : ℕ) (e : List ℕ × Node) (r : Step × Standing) → r.1 ≡ standing_of e.1 → AreStanding es rs → AreStanding (slice_set es i e) (slice_set rs i r)
set_standing [] [] i e r same is = is
set_standing [] (y ∷ rs) i e r same is = absurd is
set_standing (x ∷ es) [] i e r same is = absurd is
set_standing (x ∷ es) (y ∷ rs) zero e r same is = (same, is.1)
set_standing (x ∷ es) (y ∷ rs) (suc i) e r same is = (is.0, set_standing es rs i e r same is.1)

index_both : (es : Nodes) (rs : Rungs) (i : ℕ) (e : List ℕ × Node) (r : Step × Standing) → AreStanding es rs
    → slice_index_or (places_from es rs) i (e.0, place_with r.0 e.1) ≡ ((slice_index_or es i e).0, place_with ((slice_index_or rs i r).0) ((slice_index_or es i e).1))
index_both [] [] i e r is = refl
index_both [] (y ∷ rs) i e r is = absurd is
index_both (x ∷ es) [] i e r is = absurd is
index_both (x ∷ es) (y ∷ rs) zero e r is = refl
index_both (x ∷ es) (y ∷ rs) (suc i) e r is = index_both es rs i e r is.1

index_standing : (es : Nodes) (rs : Rungs) (i : ℕ) (e : List ℕ × Node) (r : Step × Standing) → r.1 ≡ standing_of e.1 → AreStanding es rs → (slice_index_or rs i r).1 ≡ standing_of ((slice_index_or es i e).1)
index_standing [] [] i e r same is = same
index_standing [] (y ∷ rs) i e r same is = absurd is
index_standing (x ∷ es) [] i e r same is = absurd is
index_standing (x ∷ es) (y ∷ rs) zero e r same is = is.0
index_standing (x ∷ es) (y ∷ rs) (suc i) e r same is = index_standing es rs i e r same is.1

take_both : (k : ℕ) (es : Nodes) (rs : Rungs) → places_from (take k es) (take k rs) ≡ take k (places_from es rs)
take_both zero es rs = refl
take_both (suc k) [] rs = refl
take_both (suc k) (e ∷ es) [] = refl
take_both (suc k) (e ∷ es) (r ∷ rs) = ap (λ xs. (e.0, place_with r.0 e.1) ∷ xs) (take_both k es rs)

take_standing : (k : ℕ) (es : Nodes) (rs : Rungs) → AreStanding es rs → AreStanding (take k es) (take k rs)
take_standing zero es rs is = tt
take_standing (suc k) [] [] is = is
take_standing (suc k) [] (r ∷ rs) is = absurd is
take_standing (suc k) (e ∷ es) [] is = absurd is
take_standing (suc k) (e ∷ es) (r ∷ rs) is = (is.0, take_standing k es rs is.1)

places_cut : (es : Nodes) (rs : Rungs) (i : ℕ) (e : List ℕ × Node) (r : Step × Standing) → AreStanding es rs → places_from (swap_remove es i e) (swap_remove rs i r) ≡ swap_remove (places_from es rs) i (e.0, place_with r.0 e.1)
places_cut es rs i e r is =
    let last = length es - 1 in
    ap (λ k. places_from (swap_remove es i e) (take (k - 1) (slice_set rs i (slice_index_or rs (k - 1) r)))) (as_many es rs is)
    ∙ take_both last (slice_set es i (slice_index_or es last e)) (slice_set rs i (slice_index_or rs last r))
    ∙ ap (take last) (set_both es rs i (slice_index_or es last e) (slice_index_or rs last r) ∙ ap (slice_set (places_from es rs) i) (sym (index_both es rs last e r is)))
    ∙ ap (λ k. take (k - 1) (slice_set (places_from es rs) i (slice_index_or (places_from es rs) (k - 1) (e.0, place_with r.0 e.1)))) (sym (length_from es rs is))

standing_cut : (es : Nodes) (rs : Rungs) (i : ℕ) (e : List ℕ × Node) (r : Step × Standing) → r.1 ≡ standing_of e.1 → AreStanding es rs → AreStanding (swap_remove es i e) (swap_remove rs i r)
standing_cut es rs i e r same is =
    let last = length es - 1 in
    subst (λ (k : ℕ). AreStanding (swap_remove es i e) (take (k - 1) (slice_set rs i (slice_index_or rs (k - 1) r)))) (sym (as_many es rs is))
    (take_standing last (slice_set es i (slice_index_or es last e)) (slice_set rs i (slice_index_or rs last r))
    (set_standing es rs i (slice_index_or es last e) (slice_index_or rs last r) (index_standing es rs last e r same is) is))

pub rung_placed : (es : Nodes) (rs : Rungs) (i : ℕ) (e : List ℕ × Node) → AreStanding es rs → slice_get es i ≡ Some e → i < length rs
rung_placed es rs i e is at = let less = slice_get_within es i e at in omega (arith, less, as_many es rs is)

-- no name lies where no node does
pub no_place : (es : Nodes) (rs : Rungs) (i : ℕ) (n : List ℕ) → AreStanding es rs → slice_get es i ≡ None → index_in (places_from es rs) n ≡ Some i → ⊥
no_place es rs i n is none here = none-some n (sym (ap (option_map (λ (e : List ℕ × Node). e.0)) none) ∙ names_from es rs i is ∙ name_at_index (places_from es rs) n i here)

module _ (es : Nodes) (rs : Rungs) (i : ℕ) (e : List ℕ × Node) (rung : Step × Standing) (standing : AreStanding es rs) (at : slice_get es i ≡ Some e) (is : rung ≡ slice_index_or rs i rung) where
  entry : {P : Type 0} → ((p : List ℕ × Place) → slice_get (places_from es rs) i ≡ Some p → rung ≡ (step_of p.1, standing_of p.1.node) → P) → P
  entry {P} then = by (slice_get (places_from es rs) i) refl
    where
      by : (o : Option (List ℕ × Place)) → slice_get (places_from es rs) i ≡ o → P
      by None none = absurd (none-some e.0 (sym (names_from es rs i standing ∙ ap (option_map (λ (p : List ℕ × Place). p.0)) none) ∙ ap (option_map (λ (d : List ℕ × Node). d.0)) at))
      by (Some p) there =
          let lies : slice_get rs i ≡ Some (step_of p.1, standing_of p.1.node) = rungs_from es rs i standing ∙ ap (option_map (λ (e : List ℕ × Place). (step_of e.1, standing_of e.1.node))) there in
          then p there (is ∙ get_or_from_slice_get rs i (step_of p.1, standing_of p.1.node) rung lies)

  module _ (fs : Nodes) (ss : Rungs) (nodes : fs ≡ swap_remove es i e) (rungs : ss ≡ swap_remove rs i rung) where
    cut : (d : List ℕ × Node) → fs ≡ swap_remove es i d
    cut d = nodes ∙ swap_remove-default es i e d (let less = slice_get_within es i e at in omega (arith, less))

    pub standing_out : AreStanding fs ss
    standing_out = entry (λ p there same.
        let d : List ℕ × Node = (p.0, p.1.node) in
        let whole : AreStanding (swap_remove es i d) (swap_remove rs i rung) = standing_cut es rs i d rung (ap (λ (r : Step × Standing). r.1) same) standing in
        subst (λ (xs : Nodes). AreStanding xs ss) (sym (cut d)) (subst (λ (xs : Rungs). AreStanding (swap_remove es i d) xs) (sym rungs) whole))

    pub places_out : {P : Type 0} → ((p : List ℕ × Place) → slice_get (places_from es rs) i ≡ Some p → places_from fs ss ≡ swap_remove (places_from es rs) i p → P) → P
    places_out then = entry (λ p there same.
        let d : List ℕ × Node = (p.0, p.1.node) in
        then p there
        ((λ j. places_from (cut d j) (rungs j))
        ∙ places_cut es rs i d rung standing
        ∙ ap (λ (r : Step × Standing). swap_remove (places_from es rs) i (p.0, place_with r.0 p.1.node)) same))

    pub look_cut : IsDistinct bytes_eq (keys_of es) → (n : List ℕ) → index_in (places_from es rs) n ≡ Some i → (q : List ℕ) → lookup (bytes_eq q) (places_from fs ss) ≡ cond (bytes_eq n q) None (lookup (bytes_eq q) (places_from es rs))
    look_cut distinct n here q = places_out (λ p there out.
        (swap_out bytes_eq nat_list_eq_equiv (bytes_eq n) (nat_list_eq_equiv.congr n) (places_from es rs) i p (index_position (places_from es rs) n ∙ here) there
        (distinct_from es rs standing distinct) (places_from fs ss) out).updated.0 q)
