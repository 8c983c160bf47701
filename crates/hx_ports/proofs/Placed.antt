-- Rows in a list over those in their places, and when rows in a list ascend.
use Rattle.std.proofs.Common.{◌≡◌, ℕ, suc, ◌+◌, ◌-◌, ◌<◌, ◌≤◌, Bool, true, false, List, [], ◌∷◌, ◌++◌, map, length, get_or, take, drop, Some, refl, sym, ap, subst, ◌∙◌, arith}
use Rattle.std.proofs.lemmas.Bool.{and_parts}
use Rattle.std.proofs.lemmas.List.{length-map, take_at as take_at_seam, take-append-drop, length-take, length-drop, drop-drop, map-append}
use Rattle.std.proofs.Math.Seq.{drop-cons}
use Rattle.std.specs.Cmp.Lexicographic.{nat_list_cmp_total, slice_partial_cmp, lists_agrees}
use Rattle.std.specs.FinMap.{IsAntisymmetric, nat_cmp-IsAntisymmetric, slice_cmp-IsAntisymmetric, same_map, empty, get-from_entries, get-from_sorted, entries-from_sorted, entries, is_sorted, from_sorted, from_entries, put, insert as map_insert}
use Rattle.std.specs.FinMap.Entries.{by_order, below_all, is_sorted-put}
use Rattle.std.specs.List.{drop-map, AllByRecursion}
use Rattle.std.specs.List.Sorted.{IsStrictlySortedBy}
use Rattle.std.specs.Map.{keys_of}
use Rattle.std.specs.Ordering.{nat_cmp, is_eq, is_lt, is_ge, is_some_and}
use Rattle.std.specs.Prelude.{T, ◌&&◌}
use Rattle.std.specs.declared.cmp.Ordering.{Ordering}
use Rattle.std.specs.declared.cmp.Ordering.TheVariants.{Less, Equal, Greater}
use Rattle.hx_object.specs.Texts.{bytes_cmp}
use Rattle.hx_ports.specs.declared.keeper.Row.{Row}
use Rattle.hx_ports.specs.Keeping.{Rows}
use Rattle.hx_ports.specs.Rows.{Entry, HeldRows, entry_of, entries_of, onto, rows_in, rows_of, rows_over}

pub same_bytes : IsAntisymmetric bytes_cmp
same_bytes = slice_cmp-IsAntisymmetric nat_cmp-IsAntisymmetric

both : (a b : Bool) → T a → T b → T (a && b)
both true b p q = q
both false b p q = p

tied : (r : Ordering) → is_eq r ≡ true → r ≡ Equal
tied Less e = cc
tied Equal e = refl
tied Greater e = cc

pub onto-push : (es : List Entry) (e : Entry) (rows : Rows) → onto (es ++ e ∷ []) rows ≡ onto es (map_insert rows e.0 e.1)
onto-push [] e rows = refl
onto-push (f ∷ es) e rows = ap (λ m. map_insert m f.0 f.1) (onto-push es e rows)

pub onto-empty : (es : List Entry) → onto es empty ≡ from_entries es
onto-empty [] = refl
onto-empty (e ∷ es) = ap (λ m. map_insert m e.0 e.1) (onto-empty es)

-- keys that ascend are those of entries that do
pub sorted-keys : (es : List Entry) → IsStrictlySortedBy bytes_cmp (keys_of es) → T (is_sorted bytes_cmp es)
unfolding IsStrictlySortedBy
sorted-keys [] h = tt
sorted-keys (e ∷ es) h = both _ _ (below es h.0) (sorted-keys es h.1)
  where
    below : (fs : List Entry) → AllByRecursion (λ y. bytes_cmp e.0 y ≡ Less) (keys_of fs) → T (below_all bytes_cmp e.0 fs)
    below [] h = tt
    below (f ∷ fs) h = both _ _ (subst (λ r. T (is_lt r)) (sym h.0) tt) (below fs h.1)

-- the entries from i on begin with that of the row at i
pub drop_at : (rows : List Row) (i : ℕ) (row : Row) → i < length rows → row ≡ get_or rows i row → drop i (entries_of rows) ≡ entry_of row ∷ drop (suc i) (entries_of rows)
drop_at rows i row h is =
    drop-map entry_of i rows ∙ ap (map entry_of) (drop-cons rows i row h) ∙ ap (λ r. entry_of r ∷ map entry_of (drop (suc i) rows)) (sym is) ∙ ap (λ l. entry_of row ∷ l) (sym (drop-map entry_of (suc i) rows))

-- where the entries ascend, the map has them in their order
pub entries-from_entries : (es : List Entry) → T (is_sorted bytes_cmp es) → entries (from_entries {R = bytes_cmp} es) ≡ es
entries-from_entries es h =
    let e = same_map nat_list_cmp_total same_bytes (from_entries es) (from_sorted es) (λ q. get-from_entries nat_list_cmp_total es q ∙ sym (get-from_sorted bytes_cmp es q h)) in
    ap entries e ∙ entries-from_sorted bytes_cmp es h

-- what a read from the middle of the bytes gives
pub read_piece : (bytes into piece : List ℕ) (at n : ℕ) → n + at ≤ length bytes → n ≤ length into → piece ≡ take n (drop at bytes) → drop at bytes ≡ take n (piece ++ drop n into) ++ drop (at + n) bytes
read_piece bytes into piece at n fits room is =
    let long : length piece ≡ n = ap length is ∙ (simp (length-take, length-drop) (omega arith)) in
    sym (take-append-drop n (drop at bytes)) ∙ ap (λ l. l ++ drop n (drop at bytes)) (sym is ∙ sym (take_at_seam piece (drop n into) n long)) ∙ ap (λ l. take n (piece ++ drop n into) ++ l) (drop-drop n at bytes)

same_tests : (a b : Bool) → (T a → T b) → (T b → T a) → a ≡ b
same_tests true true f g = refl
same_tests true false f g = absurd (f tt)
same_tests false true f g = absurd (g tt)
same_tests false false f g = refl

pub first : (a b : Bool) → T (a && b) → T a
first true b p = tt
first false b p = p

pub second : (a b : Bool) → T (a && b) → T b
second true b p = p
second false b p = absurd p

pub so-true : (b : Bool) → T b → b ≡ true
so-true true p = refl
so-true false p = absurd p

-- a list of two and more ascends where the rest does and its first key is less than the next one
pub sorted-next : (e f : Entry) (es : List Entry) → bytes_cmp e.0 f.0 ≡ Less → is_sorted bytes_cmp (e ∷ f ∷ es) ≡ is_sorted bytes_cmp (f ∷ es)
sorted-next e f es less = same_tests _ _ (second _ _)
    (λ h. subst (λ r. T (is_sorted bytes_cmp (by_order r (e ∷ f ∷ es) ((f.0, e.1) ∷ es) (f ∷ put bytes_cmp e.0 e.1 es)))) less (is_sorted-put bytes_cmp nat_list_cmp_total e.0 e.1 (f ∷ es) h))

pub sorted-not : (e f : Entry) (es : List Entry) → is_lt (bytes_cmp e.0 f.0) ≡ false → is_sorted bytes_cmp (e ∷ f ∷ es) ≡ false
sorted-not e f es h = ap (λ b. (b && below_all bytes_cmp e.0 es) && is_sorted bytes_cmp (f ∷ es)) h

pub sorted-short : (es : List Entry) → length es ≤ 1 → is_sorted bytes_cmp es ≡ true
sorted-short [] h = refl
sorted-short (e ∷ []) h = refl
sorted-short (e ∷ f ∷ es) h = absurd (omega arith)

-- what a test of the order of two texts answers
pub order-is : (test : Ordering → Bool) (b : Bool) (x y : List ℕ) → b ≡ is_some_and test (slice_partial_cmp (λ m n. Some (nat_cmp m n)) x y) → b ≡ test (bytes_cmp x y)
order-is test b x y e = e ∙ ap (is_some_and test) (lists_agrees (λ m n. refl) x y)

pub less-of : (r : Ordering) → is_ge r ≡ false → r ≡ Less
less-of Less e = refl
less-of Equal e = cc
less-of Greater e = cc

pub not_less-of : (r : Ordering) → is_ge r ≡ true → is_lt r ≡ false
not_less-of Less e = cc
not_less-of Equal e = refl
not_less-of Greater e = refl

-- a pair of neighbours among the rows
pub ascends-pair : (rows : List Row) (i : ℕ) (e f : Row) → suc i < length rows → e ≡ get_or rows i e → f ≡ get_or rows (suc i) f → drop i (entries_of rows) ≡ entry_of e ∷ entry_of f ∷ drop (suc (suc i)) (entries_of rows)
ascends-pair rows i e f h is_e is_f = drop_at rows i e (omega arith) is_e ∙ ap (λ l. entry_of e ∷ l) (drop_at rows (suc i) f h is_f)

-- the rows ascend where those from the row before this one on do
abbrev pub SoFar : List Row → ℕ → Type 0
SoFar rows i = is_sorted bytes_cmp (entries_of rows) ≡ is_sorted bytes_cmp (drop i (entries_of rows))

not-at : (rows : List Row) (i : ℕ) (e f : Row) (b : Bool) → suc i < length rows → e ≡ get_or rows i e → f ≡ get_or rows (suc i) f → SoFar rows i → b ≡ is_ge (bytes_cmp e.key f.key) → b ≡ true → false ≡ is_sorted bytes_cmp (entries_of rows)
not-at rows i e f b h is_e is_f so_far is above =
    sym (so_far ∙ ap (is_sorted bytes_cmp) (ascends-pair rows i e f h is_e is_f) ∙ sorted-not (entry_of e) (entry_of f) (drop (suc (suc i)) (entries_of rows)) (not_less-of _ (sym is ∙ above)))

next-at : (rows : List Row) (i : ℕ) (e f : Row) (b : Bool) → suc i < length rows → e ≡ get_or rows i e → f ≡ get_or rows (suc i) f → SoFar rows i → b ≡ is_ge (bytes_cmp e.key f.key) → b ≡ false → SoFar rows (suc i)
next-at rows i e f b h is_e is_f so_far is below =
    so_far ∙ ap (is_sorted bytes_cmp) (ascends-pair rows i e f h is_e is_f) ∙ sorted-next (entry_of e) (entry_of f) (drop (suc (suc i)) (entries_of rows)) (less-of _ (sym is ∙ below)) ∙ ap (is_sorted bytes_cmp) (sym (drop_at rows (suc i) f h is_f))

pub ascends-not : (rows : List Row) (i : ℕ) (e f : Row) (b : Bool) → 1 ≤ i → i < length rows → e ≡ get_or rows (i - 1) e → f ≡ get_or rows i f → SoFar rows (i - 1) → b ≡ is_ge (bytes_cmp e.key f.key) → b ≡ true → false ≡ is_sorted bytes_cmp (entries_of rows)
ascends-not rows i e f b low h is_e is_f so_far is above =
    let back : suc (i - 1) ≡ i = omega arith in
    not-at rows (i - 1) e f b (omega arith) is_e (rw back is_f) so_far is above

pub ascends-next : (rows : List Row) (i : ℕ) (e f : Row) (b : Bool) → 1 ≤ i → i < length rows → e ≡ get_or rows (i - 1) e → f ≡ get_or rows i f → SoFar rows (i - 1) → b ≡ is_ge (bytes_cmp e.key f.key) → b ≡ false → SoFar rows ((i + 1) - 1)
ascends-next rows i e f b low h is_e is_f so_far is below =
    let back : suc (i - 1) ≡ i = omega arith in
    let there : suc (i - 1) ≡ (i + 1) - 1 = omega arith in
    subst (SoFar rows) there (next-at rows (i - 1) e f b (omega arith) is_e (rw back is_f) so_far is below)

pub ascends-all : (rows : List Row) (i : ℕ) → length rows ≤ i → SoFar rows (i - 1) → true ≡ is_sorted bytes_cmp (entries_of rows)
ascends-all rows i h so_far = sym (so_far ∙ sorted-short (drop (i - 1) (entries_of rows)) (simp (length-drop, length-map) (omega arith)))

-- the last of the rows that are left goes into the map
pub lay_rows-step : (old new : List Row) (row : Row) (before after rows : Rows) → old ≡ new ++ row ∷ [] → after ≡ map_insert before row.key (row.version, row.body) → rows_over old before ≡ rows → rows_over new after ≡ rows
lay_rows-step old new row before after rows is put so_far =
    ap (onto (entries_of new)) put ∙ sym (onto-push (entries_of new) (entry_of row) before)
    ∙ ap (λ es. onto es before) (sym (map-append entry_of new (row ∷ [])) ∙ ap entries_of (sym is)) ∙ so_far

below-init : (q : List ℕ) (es : List Entry) (e : Entry) → below_all bytes_cmp q (es ++ e ∷ []) ≡ true → below_all bytes_cmp q es ≡ true
below-init q [] e h = refl
below-init q (f ∷ es) e h =
    let parts = and_parts (is_lt (bytes_cmp q f.0)) (below_all bytes_cmp q (es ++ e ∷ [])) h in
    let rest = below-init q es e parts.1 in
    λ i. parts.0 i && rest i

sorted-init : (es : List Entry) (e : Entry) → is_sorted bytes_cmp (es ++ e ∷ []) ≡ true → is_sorted bytes_cmp es ≡ true
sorted-init [] e h = refl
sorted-init (f ∷ es) e h =
    let parts = and_parts (below_all bytes_cmp f.0 (es ++ e ∷ [])) (is_sorted bytes_cmp (es ++ e ∷ [])) h in
    let first = below-init f.0 es e parts.0 in
    let rest = sorted-init es e parts.1 in
    λ i. first i && rest i

-- rows without their last one still ascend
pub lay_rows-ascends : (old new : List Row) (row : Row) → old ≡ new ++ row ∷ [] → is_sorted bytes_cmp (entries_of old) ≡ true → is_sorted bytes_cmp (entries_of new) ≡ true
lay_rows-ascends old new row is up = sorted-init (entries_of new) (entry_of row) (ap (is_sorted bytes_cmp) (sym (ap entries_of is ∙ map-append entry_of new (row ∷ []))) ∙ up)

-- rows over an empty map are their own map
pub rows_over-empty : (rows : List Row) (held : HeldRows) → held.keys ≡ [] → rows_over rows (rows_in held) ≡ rows_of rows
rows_over-empty rows held none = ap (λ es. onto (entries_of rows) (from_entries es)) none ∙ onto-empty (entries_of rows)

-- once no rows lie outside of the map, it has them all
pub laid_rows : (given left : List Row) (before after : Rows) → left ≡ [] → rows_over left after ≡ rows_over given before → after ≡ rows_over given before
laid_rows given left before after none same = ap (λ l. rows_over l after) (sym none) ∙ same
