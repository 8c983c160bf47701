-- Rows that are kept by their keys in any order: how their map changes where a row is put or cut, and that it stays where they are put into another order.
use Rattle.std.proofs.Common.{◌≡◌, ℕ, zero, suc, ◌<◌, Bool, true, false, cond, ◌||◌, if◌then◌else◌, List, [], ◌∷◌, ◌++◌, length, get_or, None, Some, Contains, ◌⊎◌, inl, inr, refl, sym, ap, subst, ◌∙◌, arith, true≢false, swap_remove, position, take, slice_set, ◌-◌}
use Rattle.std.proofs.lemmas.List.{get_or_default}
use Rattle.std.proofs.lemmas.List.Quantifiers.{position-Some}
use Rattle.std.proofs.lemmas.List.Sorted.{IsPermutation-sym, IsPermutation-swap_remove, Contains-permutation}
use Rattle.std.proofs.lemmas.Map.Keys.{IsDistinct-cons, IsDistinct-tail, IsDistinct-IsPermutation, apart_from_distinct}
use Rattle.std.specs.Cmp.Lexicographic.{bytes_decides, nat_list_cmp_total, nat_list_eq_equiv, texts_ties}
use Rattle.std.specs.FinMap.{same_map, get-from_entries, get-insert, get-remove, find, insert as map_insert, remove as map_remove}
use Rattle.std.specs.List.{AllByRecursion, IsDistinct, list_any}
use Rattle.std.specs.List.Sorted.{IsPermutation}
use Rattle.std.specs.Option.{option_map_or}
use Rattle.std.specs.Ordering.{eq_by_cmp}
use Rattle.std.specs.Prelude.{Ok, Err, IsOk, OnOk}
use Rattle.std.specs.Str.{bytes_eq}
use Rattle.std.specs.declared.result.Result.{Result}
use Rattle.indexmap.specs.IndexSet.{replace_key, swap_key, swap_remove_by}
use Rattle.hx_object.specs.Texts.{bytes_cmp}
use Rattle.hx_model.proofs.Objects.{swap_tests}
use Rattle.hx_ports.specs.Rows.{Entry, HeldRows, rows_in, same_key}
use Rattle.hx_ports.proofs.Placed.{same_bytes}

-- ---- keys

-- a key ties with another
abbrev ties : List ℕ → List ℕ → Bool
ties q key = eq_by_cmp bytes_cmp q key

one_key : (q key : List ℕ) → ties q key ≡ true → q ≡ key
one_key q key e = (bytes_decides q key).0 (texts_ties q key ∙ e)

-- of two rows with other keys no key ties with both
not_both : (q : List ℕ) (e f : Entry) → same_key e f ≡ false → ties q e.0 ≡ true → ties q f.0 ≡ true → ⊥
not_both q e f apart p r = true≢false (sym ((bytes_decides e.0 f.0).1 (sym (one_key q e.0 p) ∙ one_key q f.0 r)) ∙ apart)

shadowed : {A : Type 0} (a b : Bool) (u v w : A) → a ≡ b → cond a u w ≡ cond a u (cond b v w)
shadowed true b u v w e = refl
shadowed false true u v w e = absurd (true≢false (sym e))
shadowed false false u v w e = refl

neither : (a b : Bool) → (a || b) ≡ false → (a ≡ false) × (b ≡ false)
neither true b h = absurd (true≢false h)
neither false b h = (refl, h)

-- ---- a row is put

found-swapped : (q : List ℕ) (e : Entry) (es : List Entry) → list_any (same_key e) es ≡ true → find bytes_cmp q (swap_key (same_key e) es e) ≡ cond (ties q e.0) (Some e.1) (find bytes_cmp q es)
found-swapped q e [] h = absurd (true≢false (sym h))
found-swapped q e (f ∷ es) h =
    elim (same_key e f) as (λ b. same_key e f ≡ b → find bytes_cmp q (cond b (e ∷ es) (f ∷ swap_key (same_key e) es e)) ≡ cond (ties q e.0) (Some e.1) (cond (ties q f.0) (Some f.1) (find bytes_cmp q es))) [
      | true ↦ λ is. shadowed (ties q e.0) (ties q f.0) (Some e.1) (Some f.1) (find bytes_cmp q es) (ap (ties q) ((bytes_decides e.0 f.0).0 is))
      | false ↦ λ is.
          ap (cond (ties q f.0) (Some f.1)) (found-swapped q e es (sym (ap (λ b. b || list_any (same_key e) es) is) ∙ h))
          ∙ swap_tests (ties q e.0) (ties q f.0) (Some e.1) (Some f.1) (find bytes_cmp q es) (not_both q e f is)
    ] refl

found-pushed : (q : List ℕ) (e : Entry) (es : List Entry) → list_any (same_key e) es ≡ false → find bytes_cmp q (es ++ e ∷ []) ≡ cond (ties q e.0) (Some e.1) (find bytes_cmp q es)
found-pushed q e [] h = refl
found-pushed q e (f ∷ es) h =
    let parts = neither (same_key e f) (list_any (same_key e) es) h in
    ap (cond (ties q f.0) (Some f.1)) (found-pushed q e es parts.1)
    ∙ swap_tests (ties q e.0) (ties q f.0) (Some e.1) (Some f.1) (find bytes_cmp q es) (not_both q e f parts.0)

found-put : (q : List ℕ) (e : Entry) (es : List Entry) → find bytes_cmp q (replace_key same_key es e) ≡ cond (ties q e.0) (Some e.1) (find bytes_cmp q es)
found-put q e es =
    elim (list_any (same_key e) es) as (λ b. list_any (same_key e) es ≡ b → find bytes_cmp q (if b then swap_key (same_key e) es e else es ++ e ∷ []) ≡ cond (ties q e.0) (Some e.1) (find bytes_cmp q es)) [
      | true ↦ λ is. found-swapped q e es is
      | false ↦ λ is. found-pushed q e es is
    ] refl

pub put-rows_in : (old new : HeldRows) (e : Entry) → new.keys ≡ replace_key same_key old.keys e → rows_in new ≡ map_insert (rows_in old) e.0 e.1
put-rows_in old new e is = same_map nat_list_cmp_total same_bytes _ _ (λ q.
    get-from_entries nat_list_cmp_total new.keys q ∙ ap (find bytes_cmp q) is ∙ found-put q e old.keys
    ∙ sym (get-insert nat_list_cmp_total (rows_in old) e.0 e.1 q ∙ ap (cond (ties q e.0) (Some e.1)) (get-from_entries nat_list_cmp_total old.keys q)))

-- ---- rows in another order

-- the row that is found by a key
record IsThere (q : List ℕ) (es : List Entry) (row : ℕ × List ℕ) : Type 0 where
  pub entry : Entry
  pub among : Contains es entry
  pub key : ties q entry.0 ≡ true
  pub is : entry.1 ≡ row

there : (q : List ℕ) (es : List Entry) (row : ℕ × List ℕ) → find bytes_cmp q es ≡ Some row → IsThere q es row
there q [] row e = absurd (let h = e in cc)
there q (f ∷ es) row e =
    elim (ties q f.0) as (λ b. ties q f.0 ≡ b → cond b (Some f.1) (find bytes_cmp q es) ≡ Some row → IsThere q (f ∷ es) row) [
      | true ↦ λ key is. record { entry = f; among = (0, (omega arith), refl); key = key; is = let h : f.1 ≡ row = cc in h }
      | false ↦ λ _ is.
          let rest = there q es row is in
          let within : rest.among.0 < length es = rest.among.1 in
          record { entry = rest.entry; among = (suc rest.among.0, (omega arith), rest.among.2); key = rest.key; is = rest.is }
    ] refl e

-- a row is found by its key, where no key stands twice
found_at : (q : List ℕ) (es : List Entry) (k : ℕ) (e : Entry) → IsDistinct same_key es → k < length es → get_or es k e ≡ e → ties q e.0 ≡ true → find bytes_cmp q es ≡ Some e.1
found_at q [] k e d within at key = absurd (omega arith)
found_at q (f ∷ es) zero e d within at key = ap (λ b. cond b (Some f.1) (find bytes_cmp q es)) (ap (λ (x : Entry). ties q x.0) at ∙ key) ∙ ap (λ (x : Entry). Some x.1) at
found_at q (f ∷ es) (suc k) e d within at key =
    let apart : same_key f e ≡ false = subst (λ (x : Entry). same_key f x ≡ false) at (apart_from_distinct same_key (f ∷ es) 0 (suc k) e d (omega arith) within) in
    elim (ties q f.0) as (λ b. ties q f.0 ≡ b → cond b (Some f.1) (find bytes_cmp q es) ≡ Some e.1) [
      | true ↦ λ too. absurd (not_both q f e apart too key)
      | false ↦ λ _. found_at q es k e (IsDistinct-tail same_key f es d) (omega arith) at key
    ] refl

moved_to : (q : List ℕ) (es fs : List Entry) (row : ℕ × List ℕ) → IsPermutation es fs → IsDistinct same_key fs → find bytes_cmp q es ≡ Some row → find bytes_cmp q fs ≡ Some row
moved_to q es fs row moved d is =
    let was = there q es row is in
    let among = Contains-permutation es fs was.entry moved was.among in
    found_at q fs among.0 was.entry d among.1 among.2 was.key ∙ ap Some was.is

flips : (e f : Entry) → same_key e f ≡ same_key f e
flips e f = nat_list_eq_equiv.symm e.0 f.0

same_found : (q : List ℕ) (es fs : List Entry) → IsPermutation es fs → IsDistinct same_key fs → find bytes_cmp q es ≡ find bytes_cmp q fs
same_found q es fs moved d =
    let back = IsPermutation-sym es fs moved in
    let d' = IsDistinct-IsPermutation same_key flips fs es back d in
    elim (find bytes_cmp q es) as (λ o. find bytes_cmp q es ≡ o → o ≡ find bytes_cmp q fs) [
      | Some row ↦ λ is. sym (moved_to q es fs row moved d is)
      | None ↦ λ none.
          elim (find bytes_cmp q fs) as (λ o. find bytes_cmp q fs ≡ o → None ≡ o) [
            | Some row ↦ λ is. absurd (let h : None ≡ Some row = sym none ∙ moved_to q fs es row back d' is in cc)
            | None ↦ λ _. refl
          ] refl
    ] refl

pub same-rows_in : (old new : HeldRows) → IsPermutation old.keys new.keys → IsDistinct same_key new.keys → rows_in new ≡ rows_in old
same-rows_in old new moved d = same_map nat_list_cmp_total same_bytes _ _ (λ q.
    get-from_entries nat_list_cmp_total new.keys q ∙ sym (same_found q old.keys new.keys moved d) ∙ sym (get-from_entries nat_list_cmp_total old.keys q))

-- ---- a row is cut

-- what is left of rows where the first that passes a test is taken away
taken : (test : Entry → Bool) (es : List Entry) → (swap_remove_by test es ≡ es) ⊎ ((e : Entry) × (test e ≡ true) × IsPermutation es (e ∷ swap_remove_by test es))
taken test [] = inl refl
taken test (f ∷ es) =
    elim (position test (f ∷ es)) as (λ o. position test (f ∷ es) ≡ o → (option_map_or (λ i. swap_remove (f ∷ es) i f) o (f ∷ es) ≡ f ∷ es)
    ⊎ ((e : Entry) × (test e ≡ true) × IsPermutation (f ∷ es) (e ∷ option_map_or (λ i. swap_remove (f ∷ es) i f) o (f ∷ es)))) [
      | None ↦ λ _. inl refl
      | Some i ↦ λ is.
          let at = position-Some test (f ∷ es) i f is in
          let within : i < length (f ∷ es) = at.0 in
          let e = get_or (f ∷ es) i f in
          let last : swap_remove (f ∷ es) i e ≡ swap_remove (f ∷ es) i f = ap (λ y. take (length (f ∷ es) - 1) (slice_set (f ∷ es) i y)) (get_or_default (f ∷ es) _ e f (omega arith)) in
          inr (e, at.1, subst (λ l. IsPermutation (f ∷ es) (e ∷ l)) last (IsPermutation-swap_remove (f ∷ es) i e within (get_or_default (f ∷ es) i f e within)))
    ] refl

-- no row is found by a key that none passes
not_found : (q key : List ℕ) (es : List Entry) → ties q key ≡ true → list_any (λ (e : Entry). bytes_eq key e.0) es ≡ false → find bytes_cmp q es ≡ None
not_found q key [] tie none = refl
not_found q key (f ∷ es) tie none =
    let parts = neither (bytes_eq key f.0) (list_any (λ (e : Entry). bytes_eq key e.0) es) none in
    ap (λ b. cond b (Some f.1) (find bytes_cmp q es)) (ap (λ k. ties k f.0) (one_key q key tie) ∙ sym (texts_ties key f.0) ∙ parts.0) ∙ not_found q key es tie parts.1

all_apart : (e : Entry) (es : List Entry) → list_any (λ (f : Entry). bytes_eq e.0 f.0) es ≡ false → AllByRecursion (λ f. same_key e f ≡ false) es
all_apart e [] none = tt
all_apart e (f ∷ es) none = let parts = neither (same_key e f) (list_any (λ (f : Entry). bytes_eq e.0 f.0) es) none in (parts.0, all_apart e es parts.1)

found-cut : (q key : List ℕ) (es fs : List Entry) → fs ≡ swap_remove_by (λ (e : Entry). bytes_eq key e.0) es → list_any (λ (e : Entry). bytes_eq key e.0) fs ≡ false → IsDistinct same_key fs
    → find bytes_cmp q fs ≡ cond (ties q key) None (find bytes_cmp q es)
found-cut q key es fs is none d =
    elim (ties q key) as (λ b. ties q key ≡ b → find bytes_cmp q fs ≡ cond b None (find bytes_cmp q es)) [
      | true ↦ λ tie. not_found q key fs tie none
      | false ↦ λ apart.
          elim (taken (λ (e : Entry). bytes_eq key e.0) es) [
            | inl same ↦ ap (find bytes_cmp q) (is ∙ same)
            | inr out ↦
                let e = out.0 in
                let here : key ≡ e.0 = (bytes_decides key e.0).0 out.1 in
                let moved : IsPermutation es (e ∷ fs) = subst (λ l. IsPermutation es (e ∷ l)) (sym is) out.2 in
                let whole : IsDistinct same_key (e ∷ fs) = IsDistinct-cons same_key e fs (all_apart e fs (subst (λ (k : List ℕ). list_any (λ (f : Entry). bytes_eq k f.0) fs ≡ false) here none)) d in
                sym (same_found q es (e ∷ fs) moved whole ∙ ap (λ b. cond b (Some e.1) (find bytes_cmp q fs)) (ap (ties q) (sym here) ∙ apart))
          ]
    ] refl

pub cut-rows_in : (old new : HeldRows) (key : List ℕ) → new.keys ≡ swap_remove_by (λ (e : Entry). bytes_eq key e.0) old.keys → list_any (λ (e : Entry). bytes_eq key e.0) new.keys ≡ false → IsDistinct same_key new.keys
    → rows_in new ≡ map_remove (rows_in old) key
cut-rows_in old new key is none d = same_map nat_list_cmp_total same_bytes _ _ (λ q.
    get-from_entries nat_list_cmp_total new.keys q ∙ found-cut q key old.keys new.keys is none d
    ∙ sym (get-remove nat_list_cmp_total (rows_in old) key q ∙ ap (cond (ties q key) None) (get-from_entries nat_list_cmp_total old.keys q)))

-- of a call that doesn't fail
pub sure : {A E P : Type 0} (result : Result A E) → IsOk result → OnOk result P → P
sure (Ok a) is done = done
sure (Err e) is done = cc
