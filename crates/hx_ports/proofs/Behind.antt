-- The first row behind a key among rows that ascend, by one search.
use Rattle.std.proofs.Common.{◌≡◌, ℕ, zero, suc, ◌+◌, ◌<◌, Bool, true, false, cond, List, [], ◌∷◌, length, get_or, drop, Some, refl, sym, ap, subst, ◌∙◌, arith, add-one}
use Rattle.std.proofs.lemmas.Option.{slice_get_read}
use Rattle.std.specs.Cmp.Lexicographic.{nat_list_cmp_total, slice_partial_cmp}
use Rattle.std.specs.FinMap.{is_sorted}
use Rattle.std.specs.FinMap.Entries.{below_all}
use Rattle.std.specs.Option.{option_map}
use Rattle.std.specs.Ordering.{is_lt, is_some_and, nat_cmp}
use Rattle.std.specs.Prelude.{T, IfSome, find as find_first, slice_get}
use Rattle.std.specs.declared.cmp.Ordering.{Ordering}
use Rattle.std.specs.declared.cmp.Ordering.TheVariants.{Less, Equal, Greater}
use Rattle.std.specs.declared.option.Option.{Option}
use Rattle.hx_object.specs.Texts.{bytes_cmp}
use Rattle.hx_ports.specs.declared.keeper.Row.{Row}
use Rattle.hx_ports.specs.Rows.{Entry, entry_of, entries_of, lies_behind}
use Rattle.hx_ports.proofs.Placed.{first, second, order-is}

less : (r : Ordering) → T (is_lt r) → r ≡ Less
less Less p = refl
less Equal p = absurd p
less Greater p = absurd p

-- a key that is below all is less than that of each
less_at : (key : List ℕ) (rows : List Row) (m : ℕ) (row : Row) → T (below_all bytes_cmp key (entries_of rows)) → m < length rows → row ≡ get_or rows m row → bytes_cmp key row.key ≡ Less
less_at key [] m row h within is = absurd (omega arith)
less_at key (r ∷ rows) zero row h within is = ap (λ x. bytes_cmp key x.key) is ∙ less _ (first _ _ h)
less_at key (r ∷ rows) (suc m) row h within is = less_at key rows m row (second _ _ h) (omega arith) is

-- what is less than a row that doesn't lie behind a key doesn't either
lesser : (after : List ℕ) (e f : Entry) → bytes_cmp e.0 f.0 ≡ Less → lies_behind after f ≡ false → lies_behind after e ≡ false
lesser after e f below not =
    elim (bytes_cmp after e.0) as (λ r. bytes_cmp after e.0 ≡ r → is_lt r ≡ false) [
      | Less ↦ λ p. sym (ap is_lt (nat_list_cmp_total.trans after e.0 f.0 p below)) ∙ not
      | Equal ↦ λ p. refl
      | Greater ↦ λ p. refl
    ] refl

-- where a row doesn't lie behind a key, the first that does is among those after it
skipped : (after : List ℕ) (rows : List Row) (m : ℕ) (row : Row) → T (is_sorted bytes_cmp (entries_of rows)) → m < length rows → row ≡ get_or rows m row → lies_behind after (entry_of row) ≡ false
    → find_first (lies_behind after) (drop (suc m) (entries_of rows)) ≡ find_first (lies_behind after) (entries_of rows)
skipped after [] m row h within is not = absurd (omega arith)
skipped after (r ∷ rows) zero row h within is not =
    sym (ap (λ b. cond b (Some (entry_of r)) (find_first (lies_behind after) (entries_of rows))) (ap (λ x. lies_behind after (entry_of x)) (sym is) ∙ not))
skipped after (r ∷ rows) (suc m) row h within is not =
    skipped after rows m row (second _ _ h) (omega arith) is not
    ∙ sym (ap (λ b. cond b (Some (entry_of r)) (find_first (lies_behind after) (entries_of rows))) (lesser after (entry_of r) (entry_of row) (less_at r.key rows m row (first _ _ h) (omega arith) is) not))

pub low-step : (after : List ℕ) (rows : List Row) (m : ℕ) (row : Row) → is_sorted bytes_cmp (entries_of rows) ≡ true → m < length rows → row ≡ get_or rows m row → lies_behind after (entry_of row) ≡ false
    → find_first (lies_behind after) (drop (m + 1) (entries_of rows)) ≡ find_first (lies_behind after) (entries_of rows)
low-step after rows m row h within is not = rw (add-one m) (skipped after rows m row (subst T (sym h) tt) within is not)

-- the row at a place lies behind a key, or there is none
abbrev pub Lies : List ℕ → List Row → ℕ → Type 0
Lies after rows m = IfSome (slice_get rows m) (λ row. lies_behind after (entry_of row) ≡ true)

pub lies-at : (after : List ℕ) (rows : List Row) (m : ℕ) (row : Row) → m < length rows → row ≡ get_or rows m row → lies_behind after (entry_of row) ≡ true → Lies after rows m
lies-at after rows m row within is lies = subst (λ (found : Option Row). IfSome found (λ r. lies_behind after (entry_of r) ≡ true)) (sym (slice_get_read rows (length rows) m row refl within is)) lies

-- the first of the rows from a place on, where that one lies behind the key
pub found-at : (after : List ℕ) (rows : List Row) (m : ℕ) → Lies after rows m → option_map entry_of (slice_get rows m) ≡ find_first (lies_behind after) (drop m (entries_of rows))
found-at after [] zero lies = refl
found-at after [] (suc m) lies = refl
found-at after (r ∷ rows) zero lies = sym (ap (λ b. cond b (Some (entry_of r)) (find_first (lies_behind after) (entries_of rows))) lies)
found-at after (r ∷ rows) (suc m) lies = found-at after rows m lies

-- what a test of two keys says
pub lies-is : (after key seen : List ℕ) (b was : Bool) → b ≡ is_some_and is_lt (slice_partial_cmp (λ m n. Some (nat_cmp m n)) after seen) → seen ≡ key → b ≡ was → is_lt (bytes_cmp after key) ≡ was
lies-is after key seen b was e same is = ap (λ k. is_lt (bytes_cmp after k)) (sym same) ∙ sym (order-is is_lt b after seen e) ∙ is
