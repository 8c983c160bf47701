-- Which places are empty: those of writes that are staged, and no others.
use Rattle.std.proofs.Common.{◌≡◌, ◌≢◌, ◌<◌, ◌+◌, ◌==◌, ◌||◌, ℕ, zero, suc, Bool, true, false, cond, Some, None, List, [], ◌∷◌, length, get_or, refl, sym, ap, subst, ◌∙◌, true≢false, eqb-true, eq-eqb, arith}
use Rattle.std.specs.Prelude.{is_some, IsSome, slice_get, slice_set, Result, Ok, Err, MatchResult}
use Rattle.std.proofs.lemmas.Option.{get_or_from_slice_get}
use Rattle.hx_object.specs.declared.object.Id.{Id}
use Rattle.hx_model.specs.State.{same_id}
use Rattle.hx_model.specs.declared.key.Write.{Write}
use Rattle.hx_model.specs.declared.key.Write.TheVariants.{Put, Cut}
use Rattle.hx_model.proofs.Objects.{is_same_id}
use Rattle.hx_store.specs.Changes.{id_of}
use Rattle.hx_store.specs.ObjectTable.{IsObjectTable, HasPlace, Place, EditsObjectTable, found, AreAwaited, AreSwept, IsReady, IsSound, KeepsOthers, is_written, made, swept, unchanged, place_at}
use Rattle.hx_store.specs.declared.object_table.ObjectTable.{ObjectTable}
use Rattle.hx_store.proofs.Writing.{flip_same, here, same_itself, sound_by}

or_false : (a b : Bool) → (a || b) ≡ false → (a ≡ false) × (b ≡ false)
or_false true b e = absurd (true≢false e)
or_false false b e = (refl, e)

-- ---- which identities are written

written_at : (ws : List Write) (n : ℕ) (d : Write) (id : Id) → n < length ws → is_written ws id ≡ false → same_id id (id_of (get_or ws n d)) ≡ false
written_at [] n d id within none = absurd (omega arith)
written_at (w ∷ ws) zero d id within none = (or_false (same_id id (id_of w)) (is_written ws id) none).0
written_at (w ∷ ws) (suc n) d id within none = written_at ws n d id (omega arith) (or_false (same_id id (id_of w)) (is_written ws id) none).1

find_written : (ws : List Write) (id : Id) → is_written ws id ≡ true → (i : ℕ) × (w : Write) × (slice_get ws i ≡ Some w) × (same_id id (id_of w) ≡ true)
find_written [] id e = absurd (true≢false (sym e))
find_written (w ∷ ws) id e = by (same_id id (id_of w)) refl e (find_written ws id)
  where
    by : (b : Bool) → same_id id (id_of w) ≡ b → (b || is_written ws id) ≡ true → (is_written ws id ≡ true → (i : ℕ) × (v : Write) × (slice_get ws i ≡ Some v) × (same_id id (id_of v) ≡ true))
        → (i : ℕ) × (v : Write) × (slice_get (w ∷ ws) i ≡ Some v) × (same_id id (id_of v) ≡ true)
    by true same _ _ = (zero, w, refl, same)
    by false other e rest = let found = rest e in (suc found.0, found.1, found.2, found.3)

-- a write that is changed stays one of its identity
pub same_written : (ws : List Write) (n : ℕ) (d v : Write) (id : Id) → id_of v ≡ id_of (get_or ws n d) → is_written (slice_set ws n v) id ≡ is_written ws id
same_written [] n d v id same = refl
same_written (w ∷ ws) zero d v id same = ap (λ (i : Id). same_id id i || is_written ws id) same
same_written (w ∷ ws) (suc n) d v id same = ap (λ b. same_id id (id_of w) || b) (same_written ws n d v id same)

-- ---- the places of others

pub edit_others : (g : Place → Place) (old new : ObjectTable) (w : Write) (id : Id) → id ≡ id_of w → EditsObjectTable g old new id → KeepsOthers (w ∷ []) old new
edit_others g old new w id same edits q none =
    edits q ∙ ap (λ b. cond b (g (place_at old q)) (place_at old q)) (ap (λ i. same_id i q) same ∙ flip_same (id_of w) q ∙ (or_false (same_id q (id_of w)) false none).0)

pub make_others : {X Y : Type 0} (old new : ObjectTable) (w : Write) (id : Id) (r : Result X Y) → id ≡ id_of w → MatchResult r (λ _. EditsObjectTable made old new id) (λ _. EditsObjectTable unchanged old new id) → KeepsOthers (w ∷ []) old new
make_others old new w id (Ok _) same edits = edit_others made old new w id same edits
make_others old new w id (Err _) same edits = edit_others unchanged old new w id same edits

pub more_others : (ws vs : List Write) (n : ℕ) (d : Write) (first old new : ObjectTable) → n < length vs → ((id : Id) → is_written vs id ≡ is_written ws id) → KeepsOthers ws first old → KeepsOthers (get_or vs n d ∷ []) old new → KeepsOthers ws first new
more_others ws vs n d first old new within same before this id none =
    this id (ap (λ b. b || false) (written_at vs n d id within (same id ∙ none))) ∙ before id none

-- ---- what is swept isn't empty

swept_some : (p : Place) → swept p ≢ Some None
swept_some None e = true≢false (sym (ap is_some e))
swept_some (Some None) e = true≢false (sym (ap is_some e))
swept_some (Some (Some x)) e = let none : Some x ≡ None = cc in true≢false (ap is_some none)

pub swept_gone : (old new : ObjectTable) (id : Id) → EditsObjectTable swept old new id → place_at new id ≢ Some None
swept_gone old new id edits empty = swept_some (place_at old id) (sym (here swept old new id edits) ∙ empty)

pub more_swept : (old new : ObjectTable) (ws : List Write) (n : ℕ) (d : Write) (id : Id) → id ≡ id_of (get_or ws n d) → EditsObjectTable swept old new id → ((i : ℕ) (w : Write) → i < n → slice_get ws i ≡ Some w → place_at old (id_of w) ≢ Some None)
    → (i : ℕ) (w : Write) → i < n + 1 → slice_get ws i ≡ Some w → place_at new (id_of w) ≢ Some None
more_swept old new ws n d id same edits before i w less at empty = by (i == n) refl
  where
    either : (b : Bool) → place_at old (id_of w) ≢ Some None → cond b (swept (place_at old (id_of w))) (place_at old (id_of w)) ≡ Some None → ⊥
    either true was e = swept_some (place_at old (id_of w)) e
    either false was e = was e

    by : (b : Bool) → (i == n) ≡ b → ⊥
    by true here =
        let this : id ≡ id_of w = same ∙ ap (λ k. id_of (get_or ws k d)) (sym (eqb-true i n here)) ∙ ap id_of (get_or_from_slice_get ws i w d at) in
        swept_some (place_at old (id_of w)) (ap (λ b. cond b (swept (place_at old (id_of w))) (place_at old (id_of w))) (sym (ap (λ k. same_id k (id_of w)) this ∙ same_itself (id_of w))) ∙ sym (edits (id_of w)) ∙ empty)
    by false other =
        let apart : i ≢ n = λ k. true≢false (sym (eq-eqb i n k) ∙ other) in
        either (same_id id (id_of w)) (before i w (omega (arith, less, apart)) at) (sym (edits (id_of w)) ∙ empty)

-- ---- what is awaited

pub more_awaited : (old new : ObjectTable) (was ws : List Write) → ((id : Id) → is_written was id ≡ true → is_written ws id ≡ true) → AreAwaited old was → KeepsOthers ws old new → AreAwaited new ws
more_awaited old new was ws more awaited others id empty = by (is_written ws id) refl
  where
    by : (b : Bool) → is_written ws id ≡ b → is_written ws id ≡ true
    by true e = e
    by false e = more id (awaited id (sym (others id e) ∙ empty))

pub none_awaited : (old new : ObjectTable) (ws vs : List Write) → ((id : Id) → is_written vs id ≡ is_written ws id) → AreAwaited old ws → KeepsOthers vs old new → AreSwept new vs → AreAwaited new []
none_awaited old new ws vs same awaited others swept id empty = absurd (by (is_written vs id) refl)
  where
    by : (b : Bool) → is_written vs id ≡ b → ⊥
    by true e =
        let found = find_written vs id e in
        swept found.0 found.1 found.2 (subst (λ i. place_at new i ≡ Some None) (is_same_id id (id_of found.1) found.3) empty)
    by false e = true≢false (sym (awaited id (sym (others id e) ∙ empty)) ∙ sym (same id) ∙ e)

-- where nothing is staged and no place is empty, a store is ready
pub none_ready : (places : ObjectTable) (ws : List Write) → ws ≡ [] → IsSound places → AreAwaited places [] → IsReady places ws
none_ready places ws none sound awaited = record {
  sound = sound;
  there = λ i w e. absurd (true≢false (sym (ap is_some (sym (ap (λ l. slice_get l i) none) ∙ e))));
  awaited = λ id e. absurd (true≢false (sym (awaited id e)));
}

-- where each place stays, a store stays ready
pub stay_ready : (old new : ObjectTable) (ws : List Write) → IsObjectTable new → ((id : Id) → place_at new id ≡ place_at old id) → IsReady old ws → IsReady new ws
stay_ready old new ws distinct same ready = record {
  sound = sound_by old new ready.sound distinct (λ id. ap found (same id));
  there = λ i w e. by w (ready.there i w e);
  awaited = λ id e. ready.awaited id (sym (same id) ∙ e);
}
  where
    by : (w : Write) → HasPlace old w → HasPlace new w
    by (Put x) there = subst IsSome (sym (same x.id)) there
    by (Cut id) there = tt
