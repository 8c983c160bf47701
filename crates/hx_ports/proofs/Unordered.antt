-- Rows that are kept by their keys in any order: how many they are, that those in order are the entries of their map, and that the first row behind a key is the least of all that lie behind it.
use Rattle.std.proofs.Common.{◌≡◌, ℕ, ◌+◌, Bool, true, false, cond, List, [], ◌∷◌, ◌++◌, length, get_or, None, Some, refl, sym, ap, subst, ◌∙◌, arith}
use Rattle.std.proofs.lemmas.List.{append_assoc, get_or-map, length-map}
use Rattle.std.proofs.lemmas.Map.Keys.{IsDistinct-head, IsDistinct-tail, apart_from_distinct, sorted_from_all_adjacent}
use Rattle.std.specs.Cmp.Lexicographic.{nat_list_cmp_total, nat_list_eq_equiv, texts_ties}
use Rattle.std.specs.FinMap.{contains_key, entries-insert, from_entries_push, get-entries, get-from_entries, put, len-empty, len-entries, len-insert, len, entries, is_sorted, from_entries, find}
use Rattle.std.specs.FinMap.Entries.{by_order}
use Rattle.std.specs.List.{AllByRecursion, IsDistinct}
use Rattle.std.specs.List.Sorted.{IsSorted}
use Rattle.std.specs.Map.{keys_of}
use Rattle.std.specs.Ordering.{is_eq, is_lt, ordering_reverse}
use Rattle.std.specs.Option.{option_map}
use Rattle.std.specs.Prelude.{T, Ok, Err, OnOk, ◌&&◌, is_some, find as find_first}
use Rattle.std.specs.Str.{bytes_eq}
use Rattle.std.specs.declared.cmp.Ordering.{Ordering}
use Rattle.std.specs.declared.cmp.Ordering.TheVariants.{Less, Equal, Greater}
use Rattle.std.specs.declared.option.Option.{Option}
use Rattle.std.specs.declared.result.Result.{Result}
use Rattle.hx_object.specs.Texts.{bytes_cmp}
use Rattle.hx_ports.specs.declared.keeper.Row.{Row}
use Rattle.hx_ports.specs.Keeping.{Rows, first_behind, row_of_entry}
use Rattle.hx_ports.specs.Rows.{Entry, HeldRows, entry_of, entries_of, lies_behind, nearer, rows_in, rows_over, same_key}
use Rattle.hx_ports.proofs.Placed.{entries-from_entries, rows_over-empty, same_bytes, sorted-keys}

missing : (q : List ℕ) (es : List Entry) → AllByRecursion (λ y. bytes_eq q y ≡ false) (keys_of es) → find bytes_cmp q es ≡ None
missing q [] h = refl
missing q (e ∷ es) h = ap (λ b. cond b (Some e.1) (find bytes_cmp q es)) (sym (texts_ties q e.0) ∙ h.0) ∙ missing q es h.1

-- the map of entries no key of which stands twice has as many
pub len-distinct : (es : List Entry) → IsDistinct bytes_eq (keys_of es) → len (from_entries {R = bytes_cmp} es) ≡ length es
len-distinct [] d = len-empty bytes_cmp _
len-distinct (e ∷ es) d =
    let new : contains_key (from_entries {R = bytes_cmp} es) e.0 ≡ false = ap is_some (get-from_entries nat_list_cmp_total es e.0 ∙ missing e.0 es (IsDistinct-head bytes_eq e.0 (keys_of es) d)) in
    let before = len-distinct es (IsDistinct-tail bytes_eq e.0 (keys_of es) d) in
    len-insert nat_list_cmp_total (from_entries es) e.0 e.1 ∙ ap (λ b. cond b (len (from_entries {R = bytes_cmp} es)) (len (from_entries {R = bytes_cmp} es) + 1)) new ∙ ap (λ n. n + 1) before ∙ (omega arith)

-- rows no two of which have one key have keys none of which stands twice
apart : (es : List Entry) → IsDistinct same_key es → IsDistinct bytes_eq (keys_of es)
unfolding IsDistinct
apart [] d = tt
apart (e ∷ es) d = (each es d.0, apart es d.1)
  where
    each : (fs : List Entry) → AllByRecursion (λ f. same_key e f ≡ false) fs → AllByRecursion (λ k. bytes_eq e.0 k ≡ false) (keys_of fs)
    each [] all = tt
    each (f ∷ fs) all = (all.0, each fs all.1)

pub len-rows_in : (held : HeldRows) → IsDistinct same_key held.keys → len (rows_in held) ≡ length held.keys
len-rows_in held d = len-distinct held.keys (apart held.keys d)

not_greater : (r : Ordering) → is_lt (ordering_reverse r) ≡ false → is_eq r ≡ false → r ≡ Less
not_greater Less g e = refl
not_greater Equal g e = cc
not_greater Greater g e = cc

-- rows whose keys don't descend, none of which stands twice, ascend
pub sorted-distinct : (es : List Entry) → IsSorted (λ (e f : Entry). bytes_cmp e.0 f.0) es → IsDistinct same_key es → T (is_sorted bytes_cmp es)
sorted-distinct es up d = sorted-keys es (sorted_from_all_adjacent nat_list_cmp_total (keys_of es) [] (λ k within.
    let none : Entry = ([], (0, [])) in
    let long : length (keys_of es) ≡ length es = length-map es (λ (e : Entry). e.0) in
    let a = get_or es k none in
    let b = get_or es (k + 1) none in
    let here = get_or-map (λ (e : Entry). e.0) es k none [] (omega arith) in
    let next = get_or-map (λ (e : Entry). e.0) es (k + 1) none [] (omega arith) in
    (λ i. bytes_cmp (here i) (next i))
    ∙ not_greater (bytes_cmp a.0 b.0) (ap is_lt (sym (nat_list_cmp_total.antisymm b.0 a.0)) ∙ up k none (omega arith) (omega arith)) (sym (texts_ties a.0 b.0) ∙ apart_from_distinct same_key es k (k + 1) none d (omega arith) (omega arith))))

-- rows in order are the entries of their map
pub entries-rows_in : (held : HeldRows) → is_sorted bytes_cmp held.keys ≡ true → entries (rows_in held) ≡ held.keys
entries-rows_in held h = entries-from_entries held.keys (subst T (sym h) tt)

pub ordered-rows : {A E : Type 0} (r : Result A E) (held : HeldRows) (rows : Rows) → OnOk r (is_sorted bytes_cmp held.keys ≡ true) → rows_in held ≡ rows → OnOk r (entries rows ≡ held.keys)
ordered-rows (Ok a) held rows sorted same = ap entries (sym same) ∙ entries-rows_in held sorted
ordered-rows (Err e) held rows sorted same = tt

no_entries : (es : List Entry) → length es ≡ 0 → es ≡ []
no_entries [] e = refl
no_entries (x ∷ es) e = absurd (omega arith)

pub none_held : (held : HeldRows) → length held.keys ≡ 0 → held.keys ≡ []
none_held held e = no_entries held.keys e

-- where none are held, the given rows that ascend are all that there are
pub count-given : (given : List Row) (held : HeldRows) → is_sorted bytes_cmp (entries_of given) ≡ true → held.keys ≡ [] → length given ≡ len (rows_over given (rows_in held))
count-given given held h none = sym (ap len (rows_over-empty given held none) ∙ len-entries _ ∙ ap length (entries-from_entries (entries_of given) (subst T (sym h) tt)) ∙ length-map given entry_of)

pub first-given : (after : List ℕ) (given : List Row) (held : HeldRows) → is_sorted bytes_cmp (entries_of given) ≡ true → held.keys ≡ []
    → option_map row_of_entry (find_first (lies_behind after) (entries_of given)) ≡ first_behind after (rows_over given (rows_in held))
first-given after given held h none =
    sym (ap (first_behind after) (rows_over-empty given held none) ∙ ap (λ es. option_map row_of_entry (find_first (lies_behind after) es)) (entries-from_entries (entries_of given) (subst T (sym h) tt)))

-- an entry between others is none of those before it
not_before : (walked rest : List Entry) (e : Entry) → IsDistinct bytes_eq (keys_of (walked ++ e ∷ rest)) → find bytes_cmp e.0 walked ≡ None
not_before [] rest e d = refl
not_before (w ∷ walked) rest e d =
    ap (λ b. cond b (Some w.1) (find bytes_cmp e.0 walked)) (sym (texts_ties e.0 w.0) ∙ nat_list_eq_equiv.symm e.0 w.0 ∙ between walked (IsDistinct-head bytes_eq w.0 (keys_of (walked ++ e ∷ rest)) d))
    ∙ not_before walked rest e (IsDistinct-tail bytes_eq w.0 (keys_of (walked ++ e ∷ rest)) d)
  where
    between : (es : List Entry) → AllByRecursion (λ y. bytes_eq w.0 y ≡ false) (keys_of (es ++ e ∷ rest)) → bytes_eq w.0 e.0 ≡ false
    between [] h = h.0
    between (f ∷ es) h = between es h.1

less : (r : Ordering) → is_lt r ≡ true → r ≡ Less
less Less p = refl
less Equal p = cc
less Greater p = cc

and_false : (b : Bool) → (b && false) ≡ false
and_false true = refl
and_false false = refl

-- what doesn't lie behind the key is passed over
pub not-nearer : (after : List ℕ) (least : Option Entry) (e : Entry) → lies_behind after e ≡ false → nearer after least e ≡ least
not-nearer after None e not = ap (λ b. cond b (Some e) None) not
not-nearer after (Some least) e not = ap (λ b. cond (b && is_lt (bytes_cmp e.0 least.0)) (Some e) (Some least)) not

-- what lies behind what lies behind a key
farther : (after : List ℕ) (e f : Entry) → bytes_cmp e.0 f.0 ≡ Less → lies_behind after e ≡ true → lies_behind after f ≡ true
farther after e f below lies = ap is_lt (nat_list_cmp_total.trans after e.0 f.0 (less _ lies) below)

-- the first behind a key, once an entry is put among those in order
first-put : (after : List ℕ) (e : Entry) (es : List Entry) → find bytes_cmp e.0 es ≡ None → nearer after (find_first (lies_behind after) es) e ≡ find_first (lies_behind after) (put bytes_cmp e.0 e.1 es)
first-put after e [] none = refl
first-put after e (f ∷ es) none =
    elim (bytes_cmp e.0 f.0) as (λ r. bytes_cmp e.0 f.0 ≡ r → nearer after (find_first (lies_behind after) (f ∷ es)) e ≡ find_first (lies_behind after) (by_order r (e ∷ f ∷ es) ((f.0, e.1) ∷ es) (f ∷ put bytes_cmp e.0 e.1 es))) [
      | Less ↦ λ p. before p (lies_behind after e) refl
      | Equal ↦ λ p. absurd (some_is (sym (ap (λ r. cond (is_eq r) (Some f.1) (find bytes_cmp e.0 es)) p) ∙ none))
      | Greater ↦ λ p. behind p (first-put after e es (sym (ap (λ r. cond (is_eq r) (Some f.1) (find bytes_cmp e.0 es)) p) ∙ none)) (lies_behind after f) refl
    ] refl
  where
    some_is : Some f.1 ≡ None → ⊥
    some_is h = cc

    before : bytes_cmp e.0 f.0 ≡ Less → (b : Bool) → lies_behind after e ≡ b → nearer after (find_first (lies_behind after) (f ∷ es)) e ≡ find_first (lies_behind after) (e ∷ f ∷ es)
    before p true lies =
        ap (λ b. nearer after (cond b (Some f) (find_first (lies_behind after) es)) e) (farther after e f p lies)
        ∙ (λ i. cond (lies i && is_lt (p i)) (Some e) (Some f)) ∙ sym (ap (λ b. cond b (Some e) (find_first (lies_behind after) (f ∷ es))) lies)
    before p false lies = not-nearer after (find_first (lies_behind after) (f ∷ es)) e lies ∙ sym (ap (λ b. cond b (Some e) (find_first (lies_behind after) (f ∷ es))) lies)

    behind : bytes_cmp e.0 f.0 ≡ Greater → nearer after (find_first (lies_behind after) es) e ≡ find_first (lies_behind after) (put bytes_cmp e.0 e.1 es) → (b : Bool) → lies_behind after f ≡ b → nearer after (find_first (lies_behind after) (f ∷ es)) e ≡ find_first (lies_behind after) (f ∷ put bytes_cmp e.0 e.1 es)
    behind p rest true lies =
        ap (λ b. nearer after (cond b (Some f) (find_first (lies_behind after) es)) e) lies
        ∙ ap (λ b. cond b (Some e) (Some f)) (ap (λ r. lies_behind after e && is_lt r) p ∙ and_false (lies_behind after e))
        ∙ sym (ap (λ b. cond b (Some f) (find_first (lies_behind after) (put bytes_cmp e.0 e.1 es))) lies)
    behind p rest false lies =
        ap (λ b. nearer after (cond b (Some f) (find_first (lies_behind after) es)) e) lies
        ∙ rest
        ∙ sym (ap (λ b. cond b (Some f) (find_first (lies_behind after) (put bytes_cmp e.0 e.1 es))) lies)

-- the next entry is walked
pub least-step : (after : List ℕ) (walked rest es : List Entry) (e : Entry) (least : Option Entry) → walked ++ e ∷ rest ≡ es → IsDistinct same_key es → least ≡ find_first (lies_behind after) (entries (from_entries {R = bytes_cmp} walked))
    → nearer after least e ≡ find_first (lies_behind after) (entries (from_entries {R = bytes_cmp} (walked ++ e ∷ [])))
least-step after walked rest es e least is d so_far =
    let none = not_before walked rest e (apart (walked ++ e ∷ rest) (subst (λ (fs : List Entry). IsDistinct same_key fs) (sym is) d)) in
    let before = from_entries {R = bytes_cmp} walked in
    ap (λ o. nearer after o e) so_far
    ∙ first-put after e (entries before) (sym (get-entries before e.0) ∙ get-from_entries nat_list_cmp_total walked e.0 ∙ none)
    ∙ ap (find_first (lies_behind after)) (sym (ap entries (from_entries_push nat_list_cmp_total same_bytes walked e.0 e.1 none) ∙ entries-insert nat_list_cmp_total before e.0 e.1))

pub none_walked : (after : List ℕ) → None ≡ find_first (lies_behind after) (entries (from_entries {R = bytes_cmp} []))
none_walked after = ap (find_first (lies_behind after)) (sym (entries-from_entries [] tt))

pub parts-step : (walked now left rest es : List Entry) (e : Entry) → now ≡ walked ++ e ∷ [] → left ≡ e ∷ rest → walked ++ left ≡ es → now ++ rest ≡ es
parts-step walked now left rest es e is next parts = ap (λ l. l ++ rest) is ∙ append_assoc walked (e ∷ []) rest ∙ ap (λ l. walked ++ l) (sym next) ∙ parts

-- the nearer one of two
pub kept-nearer : (after : List ℕ) (least : Option Entry) (other e : Entry) → least ≡ Some other → is_lt (bytes_cmp e.0 other.0) ≡ false → least ≡ nearer after least e
kept-nearer after least other e is not =
    is ∙ ap (λ b. cond b (Some e) (Some other)) (sym (ap (λ b. lies_behind after e && b) not ∙ and_false (lies_behind after e))) ∙ ap (λ o. nearer after o e) (sym is)

pub took-nearer : (after : List ℕ) (least : Option Entry) (other e : Entry) → least ≡ Some other → lies_behind after e ≡ true → is_lt (bytes_cmp e.0 other.0) ≡ true → Some e ≡ nearer after least e
took-nearer after least other e is lies below = (λ i. cond (sym lies i && sym below i) (Some e) (Some other)) ∙ ap (λ o. nearer after o e) (sym is)

pub took-first : (after : List ℕ) (least : Option Entry) (e : Entry) → least ≡ None → lies_behind after e ≡ true → Some e ≡ nearer after least e
took-first after least e is lies = ap (λ b. cond b (Some e) None) (sym lies) ∙ ap (λ o. nearer after o e) (sym is)
