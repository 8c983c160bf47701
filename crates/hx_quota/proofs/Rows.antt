-- Sums that are kept resource by resource, as rows.
--     same_sum                             as much is added as is taken
--     column_read                          what a read of a column gives
--     room_each, room_all                  the room of all is the least of those of the columns
--     room_after, room_as                  it is as large as before, but for so much, or as it was
--     long_rows, wide_rows, at_rows        how many rows there are;  each has 15 sums;  what a row has of a resource
--     is_there, there_at, absent_at        an index of a row;  a row that is there;  one that isn't
--     whole_row, may_each                  all of a row;  what may be made of it
--     level_as, rows_as                    columns with the same sums
--     pushed_rows, removed_rows, set_rows  a row more, a row less, another row
--     adjusted_row                         a row that is adjusted
--     told_as, told_set                    flags stay right with the same sums;  those of another row
--     told_pushed, told_removed            those of a row more, a row less
use Rattle.std.specs.Prelude.{slice_index, slice_set, slice_get}
use Rattle.std.specs.List.{range_with_len, swap_remove, AllByRecursion}
use Rattle.std.proofs.Common.{◌≡◌, ℕ, Bool, true, false, zero, suc, ◌+◌, ◌-◌, ◌<◌, ◌≤◌, ◌^◌, inl, inr, Some, None, List, [], ◌∷◌, ◌++◌, length, map, get_or, set, take, replicate, sym, ap, subst, ◌∙◌, arith}
use Rattle.std.proofs.lemmas.Bool.{cases_eq, cases_lt}
use Rattle.std.proofs.lemmas.List.{set-get_or, ext_get_or, get_or-map, length-map, length_push, get_or_append_left, get_or_push, get_or-take, get_or-set_same, get_or-set_other, length-take, length-set, get_or_past, get_or-replicate, get_or_default}
use Rattle.std.proofs.lemmas.List.FromFn.{length-map-range_with_len, get_or-map-range_with_len}
use Rattle.std.proofs.lemmas.Option.{slice_get-get_or, slice_get_within, get_or_from_slice_get, none-some}
use Rattle.hx_quota.specs.Inside.{adjusted, MayAdjust}
use Rattle.hx_quota.specs.SumRows.{ColumnView, SumsView, no_column, column_at, height_of, row_at, rows_of, least_room, flags_at, flag_of, AreLevel, AreTold, AdjustsRow}

-- where as much is added as is taken
pub same_sum : (sums : List ℕ) (at take give : ℕ) → take ≡ give → take ≤ slice_index sums at → sums ≡ slice_set sums at (slice_index sums at - take + give)
same_sum sums at take give same enough =
    let e : slice_index sums at ≡ slice_index sums at - take + give = omega (arith, same, enough) in
    sym (set-get_or sums at 0) ∙ ap (λ n. set sums at n) e

-- what a read of a column gives
pub column_read : (cs : List ColumnView) (k : ℕ) (c : ColumnView) → length cs ≡ 15 → k < 15 → get_or cs k c ≡ column_at cs k
column_read cs k c all within = get_or_default cs k c no_column (omega (arith, all, within))

-- ---- the room

pub room_each : (cs : List ColumnView) (k : ℕ) → k < length cs → least_room cs ≤ (column_at cs k).spare
room_each [] k h = absurd (omega (arith, h))
room_each (c ∷ []) zero h = omega arith
room_each (c ∷ []) (suc k) h = absurd (omega (arith, h))
room_each (c ∷ d ∷ cs) zero h = omega arith
room_each (c ∷ d ∷ cs) (suc k) h = omega (arith, room_each (d ∷ cs) k (omega (arith, h)))

room_of : (cs : List ColumnView) (n : ℕ) → 0 < length cs → ((k : ℕ) → k < length cs → n ≤ (column_at cs k).spare) → n ≤ least_room cs
room_of [] n some each = absurd (omega (arith, some))
room_of (c ∷ []) n some each = each 0 (omega arith)
room_of (c ∷ d ∷ cs) n some each = omega (arith, each 0 (omega arith), room_of (d ∷ cs) n (omega arith) (λ k h. each (suc k) (omega (arith, h))))

pub room_all : (cs : List ColumnView) (n : ℕ) → length cs ≡ 15 → ((k : ℕ) → k < 15 → n ≤ (column_at cs k).spare) → n ≤ least_room cs
room_all cs n all each = room_of cs n (omega (arith, all)) (λ k h. each k (omega (arith, h, all)))

pub room_after : (m : ℕ) (old new : List ColumnView) → length old ≡ 15 → length new ≡ 15 → ((k : ℕ) → k < 15 → (column_at old k).spare ≤ (column_at new k).spare + m) → least_room old ≤ least_room new + m
room_after m old new all all_new each =
    let h = room_all new (least_room old - m) all_new (λ k h. omega (arith, each k h, room_each old k (omega (arith, h, all)))) in
    omega (arith, h)

pub room_as : (old new : List ColumnView) → length old ≡ 15 → length new ≡ 15 → ((k : ℕ) → k < 15 → (column_at old k).spare ≤ (column_at new k).spare) → least_room old ≤ least_room new
room_as old new all all_new each = omega (arith, room_after 0 old new all all_new (λ k h. omega (arith, each k h)))

-- ---- rows

pub long_rows : (cs : List ColumnView) → length (rows_of cs) ≡ height_of cs
long_rows cs = length-map-range_with_len (row_at cs) 0 (height_of cs)

-- an index of a row is one of the columns
pub is_there : (cs : List ColumnView) {room : ℕ} {seen : SumsView} (i : ℕ) → record { rows = rows_of cs; spare = room } ≡ seen → i < length seen.rows → i < height_of cs
is_there cs i view within = omega (arith, within, ap (λ (v : SumsView). length v.rows) view, long_rows cs)

wide_from : (cs : List ColumnView) → length cs ≡ 15 → (is : List ℕ) → AllByRecursion (λ (row : List ℕ). length row ≡ 15) (map (row_at cs) is)
wide_from cs all [] = tt
wide_from cs all (i ∷ is) = (length-map cs _ ∙ all, wide_from cs all is)

pub wide_rows : (cs : List ColumnView) → length cs ≡ 15 → AllByRecursion (λ (row : List ℕ). length row ≡ 15) (rows_of cs)
wide_rows cs all = wide_from cs all (range_with_len 0 (height_of cs))

row_there : (cs : List ColumnView) (i : ℕ) → i < height_of cs → get_or (rows_of cs) i [] ≡ row_at cs i
row_there cs i within = get_or-map-range_with_len (row_at cs) 0 (height_of cs) i i [] within (omega arith)

row_place : (cs : List ColumnView) (i k : ℕ) → length cs ≡ 15 → k < 15 → slice_index (row_at cs i) k ≡ slice_index (column_at cs k).sums i
row_place cs i k all within = get_or-map (λ (c : ColumnView). slice_index c.sums i) cs k no_column 0 (omega (arith, all, within))

-- what a row has of a resource
pub at_rows : (cs : List ColumnView) (i k : ℕ) → length cs ≡ 15 → i < height_of cs → k < 15 → slice_index (get_or (rows_of cs) i []) k ≡ slice_index (column_at cs k).sums i
at_rows cs i k all within place = ap (λ row. slice_index row k) (row_there cs i within) ∙ row_place cs i k all place

row_wide : (cs : List ColumnView) (i : ℕ) → length cs ≡ 15 → i < height_of cs → length (get_or (rows_of cs) i []) ≡ 15
row_wide cs i all within = ap length (row_there cs i within) ∙ length-map cs _ ∙ all

missing : {X : Type 0} (xs : List X) (i : ℕ) → slice_get xs i ≡ None → length xs ≤ i
missing [] i e = omega arith
missing (x ∷ xs) zero e = absurd (none-some x (sym e))
missing (x ∷ xs) (suc i) e = omega (arith, missing xs i e)

-- a row that is there
pub there_at : (cs : List ColumnView) (i k : ℕ) (row : List ℕ) → AreLevel cs → slice_get (rows_of cs) i ≡ Some row → k < 15 → slice_index (column_at cs k).sums i ≡ slice_index row k
there_at cs i k row l there place =
    let within : i < height_of cs = omega (arith, slice_get_within (rows_of cs) i row there, long_rows cs) in
    sym (at_rows cs i k l.all within place) ∙ ap (λ r. slice_index r k) (get_or_from_slice_get (rows_of cs) i row [] there)

-- a row that isn't
pub absent_at : (cs : List ColumnView) (i k : ℕ) → AreLevel cs → slice_get (rows_of cs) i ≡ None → k < 15 → slice_index (column_at cs k).sums i ≡ 0
absent_at cs i k l none place = get_or_past (column_at cs k).sums i 0 (omega (arith, missing (rows_of cs) i none, long_rows cs, l.level k place))

-- all of a row
pub whole_row : (cs : List ColumnView) (i : ℕ) (row : List ℕ) → AreLevel cs → i < height_of cs → length row ≡ 15 → ((k : ℕ) → k < 15 → slice_index row k ≡ slice_index (column_at cs k).sums i) → Some row ≡ slice_get (rows_of cs) i
whole_row cs i row l within wide each =
    let same : row ≡ get_or (rows_of cs) i [] =
    ext_get_or 0 row (get_or (rows_of cs) i []) (wide ∙ sym (row_wide cs i l.all within)) (λ k h. each k (omega (arith, h, wide)) ∙ sym (at_rows cs i k l.all within (omega (arith, h, wide)))) in
    ap (λ (r : List ℕ). Some r) same ∙ sym (slice_get-get_or (rows_of cs) i [] (omega (arith, within, long_rows cs)))

-- what may be made of a row may be of each column
pub may_each : (take give : List ℕ) (i : ℕ) (cs : List ColumnView) → length cs ≡ 15 → i < height_of cs → ((row : List ℕ) → slice_get (rows_of cs) i ≡ Some row → MayAdjust take give row)
    → (k : ℕ) → k < 15 → (slice_index take k ≤ slice_index (column_at cs k).sums i) × (slice_index (column_at cs k).sums i - slice_index take k + slice_index give k < 2 ^ 128)
may_each take give i cs all within may k place =
    let there = slice_get-get_or (rows_of cs) i [] (omega (arith, within, long_rows cs)) in
    subst (λ (n : ℕ). (slice_index take k ≤ n) × (n - slice_index take k + slice_index give k < 2 ^ 128)) (at_rows cs i k all within place) (may (get_or (rows_of cs) i []) there k place)

-- rows that have the same of each resource
same_rows : (cs : List ColumnView) (rows : List (List ℕ)) → length cs ≡ 15 → length rows ≡ height_of cs → ((i : ℕ) → i < height_of cs → length (get_or rows i []) ≡ 15)
    → ((i k : ℕ) → i < height_of cs → k < 15 → slice_index (column_at cs k).sums i ≡ slice_index (get_or rows i []) k) → rows_of cs ≡ rows
same_rows cs rows all long wide same =
    ext_get_or [] (rows_of cs) rows (long_rows cs ∙ sym long) (λ i h.
    let within : i < height_of cs = omega (arith, h, long_rows cs) in
    let w : length (get_or (rows_of cs) i []) ≡ 15 = row_wide cs i all within in
    ext_get_or 0 _ _ (w ∙ sym (wide i within)) (λ k place.
    let below : k < 15 = omega (arith, place, w) in
    at_rows cs i k all within below ∙ same i k within below))

-- ---- the last one in the place of another

swapped_long : {X : Type 0} (xs : List X) (at : ℕ) (d : X) → length (swap_remove xs at d) ≡ length xs - 1
swapped_long xs at d =
    let set_at = slice_set xs at (get_or xs (length xs - 1) d) in
    let same : length set_at ≡ length xs = length-set xs at (get_or xs (length xs - 1) d) in
    omega (arith, length-take (length xs - 1) set_at, same)

swapped_here : {X : Type 0} (xs : List X) (at : ℕ) (d e : X) → at + 1 < length xs → get_or (swap_remove xs at d) at e ≡ get_or xs (length xs - 1) e
swapped_here xs at d e h =
    let last = get_or xs (length xs - 1) d in
    get_or-take (length xs - 1) (set xs at last) at e (omega (arith, h)) ∙ get_or-set_same xs at last e (omega (arith, h)) ∙ get_or_default xs (length xs - 1) d e (omega (arith, h))

swapped_other : {X : Type 0} (xs : List X) (at i : ℕ) (d e : X) → i + 1 < length xs → (i ≡ at → ⊥) → get_or (swap_remove xs at d) i e ≡ get_or xs i e
swapped_other xs at i d e h out =
    let last = get_or xs (length xs - 1) d in
    get_or-take (length xs - 1) (set xs at last) i e (omega (arith, h)) ∙ get_or-set_other xs at i last e out

-- ---- columns that were changed alike

level_by : (n : ℕ) (cs : List ColumnView) → length cs ≡ 15 → ((k : ℕ) → k < 15 → length (column_at cs k).sums ≡ n) → AreLevel cs
level_by n cs all each = record {
  all = all;
  level = λ k within. each k within ∙ sym (each 0 (omega arith));
}

module _ (old new : List ColumnView) (l : AreLevel old) (all : length new ≡ 15) where
  -- with the same sums
  module _ (sums : (k : ℕ) → k < 15 → (column_at new k).sums ≡ (column_at old k).sums) where
    pub level_as : AreLevel new
    level_as = level_by (height_of old) new all (λ k within. ap length (sums k within) ∙ l.level k within)

    pub rows_as : rows_of new ≡ rows_of old
    rows_as =
        let height : height_of new ≡ height_of old = ap length (sums 0 (omega arith)) in
        same_rows new (rows_of old) all (long_rows old ∙ sym height) (λ i h. row_wide old i l.all (omega (arith, h, height)))
        (λ i k h place. ap (λ (xs : List ℕ). slice_index xs i) (sums k place) ∙ sym (at_rows old i k l.all (omega (arith, h, height)) place))

  -- nothing came behind the others
  module _ (sums : (k : ℕ) → k < 15 → (column_at new k).sums ≡ (column_at old k).sums ++ 0 ∷ []) where
    pushed_long : (k : ℕ) → k < 15 → length (column_at new k).sums ≡ height_of old + 1
    pushed_long k within = ap length (sums k within) ∙ length_push (column_at old k).sums 0 ∙ ap (λ n. n + 1) (l.level k within)

    pub pushed_level : AreLevel new
    pushed_level = level_by (height_of old + 1) new all pushed_long

    pub pushed_rows : rows_of new ≡ rows_of old ++ replicate 15 0 ∷ []
    pushed_rows = same_rows new (rows_of old ++ replicate 15 0 ∷ []) all (length_push (rows_of old) (replicate 15 0) ∙ ap (λ n. n + 1) (long_rows old) ∙ sym height) wide same
      where
        height : height_of new ≡ height_of old + 1
        height = pushed_long 0 (omega arith)

        before : (i : ℕ) → i < height_of old → get_or (rows_of old ++ replicate 15 0 ∷ []) i [] ≡ get_or (rows_of old) i []
        before i h = get_or_append_left (rows_of old) (replicate 15 0 ∷ []) [] i (omega (arith, h, long_rows old))

        last : (i : ℕ) → i ≡ height_of old → get_or (rows_of old ++ replicate 15 0 ∷ []) i [] ≡ replicate 15 0
        last i e = get_or_push (rows_of old) (replicate 15 0) [] i (long_rows old ∙ sym e)

        below : (i : ℕ) → i < height_of new → (i ≡ height_of old → ⊥) → i < height_of old
        below i h out = grind (arith, h, height, out)

        wide : (i : ℕ) → i < height_of new → length (get_or (rows_of old ++ replicate 15 0 ∷ []) i []) ≡ 15
        wide i h = elim (cases_eq i (height_of old)) [ inl e ↦ ap length (last i e) | inr e ↦ ap length (before i (below i h e)) ∙ row_wide old i l.all (below i h e) ]

        same : (i k : ℕ) → i < height_of new → k < 15 → slice_index (column_at new k).sums i ≡ slice_index (get_or (rows_of old ++ replicate 15 0 ∷ []) i []) k
        same i k h place =
            let now : slice_index (column_at new k).sums i ≡ slice_index ((column_at old k).sums ++ 0 ∷ []) i = ap (λ (xs : List ℕ). slice_index xs i) (sums k place) in
            elim (cases_eq i (height_of old)) [
              | inl e ↦ now ∙ get_or_push (column_at old k).sums 0 0 i (l.level k place ∙ sym e) ∙ sym (ap (λ (row : List ℕ). slice_index row k) (last i e) ∙ get_or-replicate 15 k 0 0 place)
              | inr e ↦ now ∙ get_or_append_left (column_at old k).sums (0 ∷ []) 0 i (omega (arith, below i h e, l.level k place)) ∙ sym (ap (λ (row : List ℕ). slice_index row k) (before i (below i h e)) ∙ at_rows old i k l.all (below i h e) place)
            ]

  -- a row is taken out, and the last one comes in its place
  module _ (at : ℕ) (there : at < height_of old) (sums : (k : ℕ) → k < 15 → (column_at new k).sums ≡ swap_remove (column_at old k).sums at 0) where
    removed_long : (k : ℕ) → k < 15 → length (column_at new k).sums ≡ height_of old - 1
    removed_long k within = ap length (sums k within) ∙ swapped_long (column_at old k).sums at 0 ∙ ap (λ n. n - 1) (l.level k within)

    pub removed_level : AreLevel new
    removed_level = level_by (height_of old - 1) new all removed_long

    pub removed_rows : rows_of new ≡ swap_remove (rows_of old) at []
    removed_rows = same_rows new (swap_remove (rows_of old) at []) all (swapped_long (rows_of old) at [] ∙ ap (λ n. n - 1) (long_rows old) ∙ sym height) wide same
      where
        height : height_of new ≡ height_of old - 1
        height = removed_long 0 (omega arith)

        last : get_or (rows_of old) (length (rows_of old) - 1) [] ≡ get_or (rows_of old) (height_of old - 1) []
        last = ap (λ n. get_or (rows_of old) (n - 1) []) (long_rows old)

        here : (i : ℕ) → i < height_of new → i ≡ at → get_or (swap_remove (rows_of old) at []) i [] ≡ get_or (rows_of old) (height_of old - 1) []
        here i h e = ap (λ n. get_or (swap_remove (rows_of old) at []) n []) e ∙ swapped_here (rows_of old) at [] [] (omega (arith, h, e, height, long_rows old)) ∙ last

        other : (i : ℕ) → i < height_of new → (i ≡ at → ⊥) → get_or (swap_remove (rows_of old) at []) i [] ≡ get_or (rows_of old) i []
        other i h out = swapped_other (rows_of old) at i [] [] (omega (arith, h, height, long_rows old)) out

        wide : (i : ℕ) → i < height_of new → length (get_or (swap_remove (rows_of old) at []) i []) ≡ 15
        wide i h = elim (cases_eq i at) [
          | inl e ↦ ap length (here i h e) ∙ row_wide old (height_of old - 1) l.all (omega (arith, there))
          | inr out ↦ ap length (other i h out) ∙ row_wide old i l.all (omega (arith, h, height))
        ]

        same : (i k : ℕ) → i < height_of new → k < 15 → slice_index (column_at new k).sums i ≡ slice_index (get_or (swap_remove (rows_of old) at []) i []) k
        same i k h place =
            let now : slice_index (column_at new k).sums i ≡ slice_index (swap_remove (column_at old k).sums at 0) i = ap (λ (xs : List ℕ). slice_index xs i) (sums k place) in
            let long = l.level k place in
            elim (cases_eq i at) [
              | inl e ↦ now ∙ ap (λ n. slice_index (swap_remove (column_at old k).sums at 0) n) e ∙ swapped_here (column_at old k).sums at 0 0 (omega (arith, h, e, height, long))
                  ∙ ap (λ n. slice_index (column_at old k).sums (n - 1)) long
                  ∙ sym (ap (λ (row : List ℕ). slice_index row k) (here i h e) ∙ at_rows old (height_of old - 1) k l.all (omega (arith, there)) place)
              | inr out ↦ now ∙ swapped_other (column_at old k).sums at i 0 0 (omega (arith, h, height, long)) out ∙ sym (ap (λ (row : List ℕ). slice_index row k) (other i h out) ∙ at_rows old i k l.all (omega (arith, h, height)) place)
            ]

  -- another row at an index
  module _ (at : ℕ) (row : List ℕ) (long : length row ≡ 15) (sums : (k : ℕ) → k < 15 → (column_at new k).sums ≡ slice_set (column_at old k).sums at (slice_index row k)) where
    set_long : (k : ℕ) → k < 15 → length (column_at new k).sums ≡ height_of old
    set_long k within = ap length (sums k within) ∙ length-set (column_at old k).sums at (slice_index row k) ∙ l.level k within

    pub set_level : AreLevel new
    set_level = level_by (height_of old) new all set_long

    pub set_rows : rows_of new ≡ slice_set (rows_of old) at row
    set_rows = same_rows new (slice_set (rows_of old) at row) all (length-set (rows_of old) at row ∙ long_rows old ∙ sym height) wide same
      where
        height : height_of new ≡ height_of old
        height = set_long 0 (omega arith)

        here : (i : ℕ) → i < height_of new → i ≡ at → get_or (slice_set (rows_of old) at row) i [] ≡ row
        here i h e = ap (λ n. get_or (slice_set (rows_of old) at row) n []) e ∙ get_or-set_same (rows_of old) at row [] (omega (arith, h, e, height, long_rows old))

        other : (i : ℕ) → (i ≡ at → ⊥) → get_or (slice_set (rows_of old) at row) i [] ≡ get_or (rows_of old) i []
        other i out = get_or-set_other (rows_of old) at i row [] out

        wide : (i : ℕ) → i < height_of new → length (get_or (slice_set (rows_of old) at row) i []) ≡ 15
        wide i h = elim (cases_eq i at) [ inl e ↦ ap length (here i h e) ∙ long | inr out ↦ ap length (other i out) ∙ row_wide old i l.all (omega (arith, h, height)) ]

        same : (i k : ℕ) → i < height_of new → k < 15 → slice_index (column_at new k).sums i ≡ slice_index (get_or (slice_set (rows_of old) at row) i []) k
        same i k h place =
            let now : slice_index (column_at new k).sums i ≡ slice_index (slice_set (column_at old k).sums at (slice_index row k)) i = ap (λ (xs : List ℕ). slice_index xs i) (sums k place) in
            elim (cases_eq i at) [
              | inl e ↦ now ∙ ap (λ n. slice_index (slice_set (column_at old k).sums at (slice_index row k)) n) e
                  ∙ get_or-set_same (column_at old k).sums at (slice_index row k) 0 (omega (arith, h, e, height, l.level k place)) ∙ sym (ap (λ (r : List ℕ). slice_index r k) (here i h e))
              | inr out ↦ now ∙ get_or-set_other (column_at old k).sums at i (slice_index row k) 0 out ∙ sym (ap (λ (r : List ℕ). slice_index r k) (other i out) ∙ at_rows old i k l.all (omega (arith, h, height)) place)
            ]

-- a row whose sums are adjusted
abbrev pub adjusted_by : List ℕ → List ℕ → List ℕ → List ℕ
adjusted_by take give row = map (adjusted take give row) (range_with_len 0 15)

module _ (take give : List ℕ) (at : ℕ) (old new : List ColumnView) (l : AreLevel old) (all : length new ≡ 15) (there : at < height_of old)
    (sums : (k : ℕ) → k < 15 → (column_at new k).sums ≡ slice_set (column_at old k).sums at (slice_index (column_at old k).sums at - slice_index take k + slice_index give k)) where
  abbrev before : List ℕ
  before = get_or (rows_of old) at []

  is_adjusted : (k : ℕ) → k < 15 → slice_index (adjusted_by take give before) k ≡ adjusted take give before k
  is_adjusted k within = get_or-map-range_with_len (adjusted take give before) 0 15 k k 0 within (omega arith)

  as_set : (k : ℕ) → k < 15 → (column_at new k).sums ≡ slice_set (column_at old k).sums at (slice_index (adjusted_by take give before) k)
  as_set k within =
      sums k within ∙ ap (λ n. set (column_at old k).sums at (n - slice_index take k + slice_index give k)) (sym (at_rows old at k l.all there within)) ∙ ap (λ n. set (column_at old k).sums at n) (sym (is_adjusted k within))

  pub adjusted_level : AreLevel new
  adjusted_level = set_level old new l all at (adjusted_by take give before) (length-map-range_with_len (adjusted take give before) 0 15) as_set

  pub adjusted_row : AdjustsRow take give at (rows_of old) (rows_of new)
  adjusted_row = record {
    before = before;
    after = adjusted_by take give before;
    there = slice_get-get_or (rows_of old) at [] (omega (arith, there, long_rows old));
    rows = set_rows old new l all at (adjusted_by take give before) (length-map-range_with_len (adjusted take give before) 0 15) as_set;
    each = is_adjusted;
  }

-- ---- flags

module _ (old new : List ColumnView) (l : AreLevel old) (flags : List (List Bool)) (t : AreTold old flags) where
  -- with the same sums
  pub told_as : ((k : ℕ) → k < 15 → (column_at new k).sums ≡ (column_at old k).sums) → AreTold new flags
  told_as sums = record {
    long = t.long ∙ sym (ap length (sums 0 (omega arith)));
    empty = λ i k place down. ap (λ (xs : List ℕ). slice_index xs i) (sums k place) ∙ t.empty i k place down;
  }

  -- nothing came behind the others
  pub told_pushed : ((k : ℕ) → k < 15 → (column_at new k).sums ≡ (column_at old k).sums ++ 0 ∷ []) → AreTold new (flags ++ replicate 15 false ∷ [])
  told_pushed sums = record {
    long = length_push flags (replicate 15 false) ∙ ap (λ n. n + 1) t.long ∙ sym (ap length (sums 0 (omega arith)) ∙ length_push (column_at old 0).sums 0);
    empty = λ i k place down. ap (λ (xs : List ℕ). slice_index xs i) (sums k place) ∙ elim (cases_lt i (height_of old)) [
      | inl before ↦
          let same : flags_at (flags ++ replicate 15 false ∷ []) i ≡ flags_at flags i = get_or_append_left flags (replicate 15 false ∷ []) (replicate 15 true) i (omega (arith, before, t.long)) in
          get_or_append_left (column_at old k).sums (0 ∷ []) 0 i (omega (arith, before, l.level k place)) ∙ t.empty i k place (sym (ap (λ (fs : List Bool). flag_of fs k) same) ∙ down)
      | inr past ↦ elim (cases_eq i (height_of old)) [
        | inl e ↦ get_or_push (column_at old k).sums 0 0 i (l.level k place ∙ sym e)
        | inr out ↦ get_or_past ((column_at old k).sums ++ 0 ∷ []) i 0 (grind (arith, past, out, l.level k place, length_push (column_at old k).sums 0))
      ]
    ];
  }

  -- a row is taken out, and the last one comes in its place
  pub told_removed : (at : ℕ) → at < height_of old → ((k : ℕ) → k < 15 → (column_at new k).sums ≡ swap_remove (column_at old k).sums at 0) → AreTold new (swap_remove flags at [])
  told_removed at there sums = record {
    long = swapped_long flags at [] ∙ ap (λ n. n - 1) t.long ∙ sym (ap length (sums 0 (omega arith)) ∙ swapped_long (column_at old 0).sums at 0);
    empty = λ i k place down. ap (λ (xs : List ℕ). slice_index xs i) (sums k place) ∙ elim (cases_lt (i + 1) (height_of old)) [
      | inr past ↦ get_or_past (swap_remove (column_at old k).sums at 0) i 0 (omega (arith, past, swapped_long (column_at old k).sums at 0, l.level k place))
      | inl within ↦ elim (cases_eq i at) [
        | inl e ↦
            let same : flags_at (swap_remove flags at []) i ≡ flags_at flags (height_of old - 1) =
            ap (λ n. flags_at (swap_remove flags at []) n) e ∙ swapped_here flags at [] (replicate 15 true) (omega (arith, within, e, t.long)) ∙ ap (λ n. flags_at flags (n - 1)) t.long in
            ap (λ n. slice_index (swap_remove (column_at old k).sums at 0) n) e ∙ swapped_here (column_at old k).sums at 0 0 (omega (arith, within, e, l.level k place))
            ∙ ap (λ n. slice_index (column_at old k).sums (n - 1)) (l.level k place) ∙ t.empty (height_of old - 1) k place (sym (ap (λ (fs : List Bool). flag_of fs k) same) ∙ down)
        | inr out ↦
            let same : flags_at (swap_remove flags at []) i ≡ flags_at flags i = swapped_other flags at i [] (replicate 15 true) (omega (arith, within, t.long)) out in
            swapped_other (column_at old k).sums at i 0 0 (omega (arith, within, l.level k place)) out ∙ t.empty i k place (sym (ap (λ (fs : List Bool). flag_of fs k) same) ∙ down)
      ]
    ];
  }

  -- other sums at an index, and other flags
  pub told_set : (at : ℕ) (row : List Bool) (sum : ℕ → ℕ) → ((k : ℕ) → k < 15 → flag_of row k ≡ false → sum k ≡ 0) → ((k : ℕ) → k < 15 → (column_at new k).sums ≡ slice_set (column_at old k).sums at (sum k))
      → AreTold new (slice_set flags at row)
  told_set at row sum told sums = record {
    long = length-set flags at row ∙ t.long ∙ sym (ap length (sums 0 (omega arith)) ∙ length-set (column_at old 0).sums at (sum 0));
    empty = λ i k place down. ap (λ (xs : List ℕ). slice_index xs i) (sums k place) ∙ elim (cases_eq i at) [
      | inr out ↦
          let same : flags_at (slice_set flags at row) i ≡ flags_at flags i = get_or-set_other flags at i row (replicate 15 true) out in
          get_or-set_other (column_at old k).sums at i (sum k) 0 out ∙ t.empty i k place (sym (ap (λ (fs : List Bool). flag_of fs k) same) ∙ down)
      | inl e ↦ elim (cases_lt at (height_of old)) [
        | inl within ↦
            let same : flags_at (slice_set flags at row) i ≡ row =
            ap (λ n. flags_at (slice_set flags at row) n) e ∙ get_or-set_same flags at row (replicate 15 true) (omega (arith, within, t.long)) in
            ap (λ n. slice_index (slice_set (column_at old k).sums at (sum k)) n) e ∙ get_or-set_same (column_at old k).sums at (sum k) 0 (omega (arith, within, l.level k place))
            ∙ told k place (sym (ap (λ (fs : List Bool). flag_of fs k) same) ∙ down)
        | inr past ↦ get_or_past (slice_set (column_at old k).sums at (sum k)) i 0 (omega (arith, e, past, length-set (column_at old k).sums at (sum k), l.level k place))
      ]
    ];
  }
