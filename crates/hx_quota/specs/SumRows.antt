-- Sums by indices, kept resource by resource.
--     ColumnView, SumsView    the sums of one resource;  those of all, as a row for each index. With the room
--     column_at               the column of a resource
--     row_at, rows_of         the row at an index;  all rows
--     least_room              the room of the column that has least
--     FilledView, flags_at    which sums of each index may be other than 0;  those of an index, all where it isn't there
--     flag_of                 the flag of a resource
--     AreLevel                there are 15 columns that are equally long
--     AreTold                 the columns have 0 where the flags say so
--     AdjustsRow              the row at an index is adjusted
use Rattle.std.specs.Prelude.{◌≡◌, ℕ, Bool, true, false, ◌<◌, min, replicate, List, [], ◌∷◌, length, map, Some, slice_get, slice_index, slice_index_or, slice_set}
use Rattle.std.specs.List.{range_with_len}
use Rattle.hx_quota.specs.Inside.{adjusted}

-- the sums of one resource by the index of the namespace, and how many more there is room for
pub record ColumnView : Type 0 where
  pub sums : List ℕ
  pub spare : ℕ

-- the sums at each index, in the order of the resources, and how many more rows there is room for
pub record SumsView : Type 0 where
  pub rows : List (List ℕ)
  pub spare : ℕ

abbrev pub no_column : ColumnView
no_column = record { sums = []; spare = 0 }

-- the column of a resource
abbrev pub column_at : List ColumnView → ℕ → ColumnView
column_at columns k = slice_index_or columns k no_column

abbrev pub height_of : List ColumnView → ℕ
height_of columns = length (column_at columns 0).sums

-- the row at an index
abbrev pub row_at : List ColumnView → ℕ → List ℕ
row_at columns i = map (λ (c : ColumnView). slice_index c.sums i) columns

-- all rows
abbrev pub rows_of : List ColumnView → List (List ℕ)
rows_of columns = map (row_at columns) (range_with_len 0 (height_of columns))

-- the room of the column that has least
abbrev pub least_room : List ColumnView → ℕ
least_room [] = 0
least_room (c ∷ []) = c.spare
least_room (c ∷ cs) = min c.spare (least_room cs)

-- there are 15 columns that are equally long
pub record AreLevel (columns : List ColumnView) : Type 0 where
  pub all : length columns ≡ 15
  pub level : (k : ℕ) → k < 15 → length (column_at columns k).sums ≡ height_of columns

-- which sums of each index may be other than 0, and how many more indices there is room for
pub record FilledView : Type 0 where
  pub flags : List (List Bool)
  pub spare : ℕ

-- the flags of an index: where it isn't there, all are up
abbrev pub flags_at : List (List Bool) → ℕ → List Bool
flags_at flags i = slice_index_or flags i (replicate 15 true)

-- the flag of a resource
abbrev pub flag_of : List Bool → ℕ → Bool
flag_of flags k = slice_index_or flags k true

-- each index has flags, and the columns have 0 where they say so
pub record AreTold (columns : List ColumnView) (flags : List (List Bool)) : Type 0 where
  pub long : length flags ≡ height_of columns
  pub empty : (i k : ℕ) → k < 15 → flag_of (flags_at flags i) k ≡ false → slice_index (column_at columns k).sums i ≡ 0

-- the row at an index is adjusted, and the others are as they were
pub record AdjustsRow (take give : List ℕ) (at : ℕ) (old new : List (List ℕ)) : Type 0 where
  pub before : List ℕ
  pub after : List ℕ
  pub there : slice_get old at ≡ Some before
  pub rows : new ≡ slice_set old at after
  pub each : (k : ℕ) → k < 15 → slice_index after k ≡ adjusted take give before k
