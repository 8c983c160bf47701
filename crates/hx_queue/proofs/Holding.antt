-- How the keys that are held change.
use Rattle.std.proofs.Common.{◌≡◌, Bool, true, false, not, cond, ◌||◌, List, [], ◌∷◌, filter, refl, sym, ap, subst, ◌∙◌, true≢false, Option, Some, None, Result, Ok, Err, IsOk, OnOk, is_some, IsSome, unwrap_or}
use Rattle.std.specs.Prelude.{find, option_map}
use Rattle.std.specs.List.{IsDistinct, AllByRecursion}
use Rattle.std.specs.List.Sorted.{IsPermutation}
use Rattle.std.specs.Map.{keys_of, lookup, lookup_key, set_value}
use Rattle.std.specs.HashMap.{HashMap}
use Rattle.std.proofs.lemmas.List.Sorted.{IsPermutation-map}
use Rattle.std.proofs.lemmas.Map.Keys.{IsDistinct-head, IsDistinct-tail}
use Rattle.std.proofs.lemmas.Map.Made.{IsDistinct-keys_filter, lookup_key_passes}
use Rattle.std.proofs.lemmas.Map.Entries.{lookup-filter-keys}
use Rattle.std.proofs.lemmas.Map.Lookups.{map_keys, hash_map_IsPermutation_from_get}
use Rattle.indexmap.specs.IndexMap.{with_entries}
use Rattle.hx_model.specs.Keys.{same_key}
use Rattle.hx_model.specs.declared.key.Key.{Key}
use Rattle.hx_queue.specs.Kept.{Held, again_in, held_without}
use Rattle.hx_queue.specs.Slots.{held_of, held_by}
use Rattle.hx_queue.specs.declared.slots.Slot.{Slot}
use Rattle.hx_model.proofs.SameKeys.{key_laws, same_key_is}

abbrev pub Entries : Type 0
Entries = List (Key × Slot)

abbrev pub held_at : Key → Entries → Option Held
held_at k es = find (λ (h : Held). same_key k h.key) (held_of es)

-- ---- look-ups

-- what is held by a key is what the map has at it
pub told_by : {X : Type 0} (f : Slot → X) (g : Held → X) → ((e : Key × Slot) → g (held_by e) ≡ f e.1) → (k : Key) (es : Entries) → option_map g (held_at k es) ≡ option_map f (lookup (same_key k) es)
told_by f g same k [] = refl
told_by f g same k (e ∷ es) = by (same_key k e.0) refl (told_by f g same k es)
  where
    by : (b : Bool) → same_key k e.0 ≡ b → option_map g (held_at k es) ≡ option_map f (lookup (same_key k) es) → option_map g (held_at k (e ∷ es)) ≡ option_map f (lookup (same_key k) (e ∷ es))
    by true is rest =
        ap (λ b. option_map g (cond b (Some (held_by e)) (held_at k es))) is ∙ ap Some (same e)
        ∙ sym (ap (λ b. option_map f (cond b (Some e.1) (lookup (same_key k) es))) is)
    by false is rest =
        ap (λ b. option_map g (cond b (Some (held_by e)) (held_at k es))) is ∙ rest
        ∙ sym (ap (λ b. option_map f (cond b (Some e.1) (lookup (same_key k) es))) is)

some_map : {X Y : Type 0} (f : X → Y) (o : Option X) → is_some (option_map f o) ≡ is_some o
some_map f None = refl
some_map f (Some x) = refl

pub is_held_at : (k : Key) (es : Entries) → is_some (held_at k es) ≡ is_some (lookup (same_key k) es)
is_held_at k es = sym (some_map (λ (h : Held). h.again) (held_at k es)) ∙ ap is_some (told_by (λ s. s.again) (λ h. h.again) (λ e. refl) k es) ∙ some_map (λ (s : Slot). s.again) (lookup (same_key k) es)

pub worker_at : (k : Key) (es : Entries) → option_map (λ (h : Held). h.worker) (held_at k es) ≡ option_map (λ (s : Slot). s.worker) (lookup (same_key k) es)
worker_at k es = told_by (λ s. s.worker) (λ h. h.worker) (λ e. refl) k es

pub again_at : (k : Key) (es : Entries) → option_map (λ (h : Held). h.again) (held_at k es) ≡ option_map (λ (s : Slot). s.again) (lookup (same_key k) es)
again_at k es = told_by (λ s. s.again) (λ h. h.again) (λ e. refl) k es

pub none_at : (k : Key) (es : Entries) → is_some (held_at k es) ≡ false → lookup (same_key k) es ≡ None
none_at k es h = none_from (lookup (same_key k) es) (sym (is_held_at k es) ∙ h)
  where
    none_from : (o : Option Slot) → is_some o ≡ false → o ≡ None
    none_from None e = refl
    none_from (Some x) e = absurd (true≢false e)

-- ---- marks

-- a key that isn't held isn't marked
pub again_absent : (k : Key) (es : Entries) → lookup (same_key k) es ≡ None → again_in k (held_of es) ≡ held_of es
again_absent k [] h = refl
again_absent k (e ∷ es) h = by (same_key k e.0) refl (again_absent k es)
  where
    by : (b : Bool) → same_key k e.0 ≡ b → (lookup (same_key k) es ≡ None → again_in k (held_of es) ≡ held_of es) → again_in k (held_of (e ∷ es)) ≡ held_of (e ∷ es)
    by true is rest = absurd (true≢false (ap is_some (sym (ap (λ b. cond b (Some e.1) (lookup (same_key k) es)) is) ∙ h)))
    by false is rest =
        let others = rest (sym (ap (λ b. cond b (Some e.1) (lookup (same_key k) es)) is) ∙ h) in
        λ i. record { key = e.0; worker = e.1.worker; again = is i || e.1.again } ∷ others i

-- a later key isn't that of the first entry
pub none_later : (k : Key) (es : Entries) → AllByRecursion (λ y. same_key k y ≡ false) (keys_of es) → lookup (same_key k) es ≡ None
none_later k [] h = refl
none_later k (e ∷ es) h = ap (λ b. cond b (Some e.1) (lookup (same_key k) es)) h.0 ∙ none_later k es h.1

-- a key that is held is marked in its place
pub again_set : (k : Key) (s : Slot) (es : Entries) → IsDistinct same_key (keys_of es) → lookup (same_key k) es ≡ Some s
    → held_of (set_value (same_key k) es (record s { again = true })) ≡ again_in k (held_of es)
again_set k s [] d h = refl
again_set k s (e ∷ es) d h = by (same_key k e.0) refl (again_set k s es (IsDistinct-tail same_key e.0 (keys_of es) d))
  where
    w : Slot
    w = record s { again = true }

    by : (b : Bool) → same_key k e.0 ≡ b → (lookup (same_key k) es ≡ Some s → held_of (set_value (same_key k) es w) ≡ again_in k (held_of es)) → held_of (set_value (same_key k) (e ∷ es) w) ≡ again_in k (held_of (e ∷ es))
    by true is rest =
        let own : e.1 ≡ s = ap (λ o. unwrap_or o s) (sym (ap (λ b. cond b (Some e.1) (lookup (same_key k) es)) is) ∙ h) in
        let others : again_in k (held_of es) ≡ held_of es
        = again_absent k es (ap (λ q. lookup (same_key q) es) (same_key_is k e.0 is) ∙ none_later e.0 es (IsDistinct-head same_key e.0 (keys_of es) d)) in
        ap (λ b. held_of (cond b ((e.0, w) ∷ es) (e ∷ set_value (same_key k) es w))) is
        ∙ (λ i. record { key = e.0; worker = (sym own i).worker; again = sym is i || e.1.again } ∷ sym others i)
    by false is rest =
        let others = rest (sym (ap (λ b. cond b (Some e.1) (lookup (same_key k) es)) is) ∙ h) in
        ap (λ b. held_of (cond b ((e.0, w) ∷ es) (e ∷ set_value (same_key k) es w))) is
        ∙ (λ i. record { key = e.0; worker = e.1.worker; again = sym is i || e.1.again } ∷ others i)

-- ---- keys that are let go

held_filter : (k : Key) (es : Entries) → held_of (filter (λ e. not (same_key k e.0)) es) ≡ held_without k (held_of es)
held_filter k [] = refl
held_filter k (e ∷ es) = by (same_key k e.0) refl (held_filter k es)
  where
    by : (b : Bool) → same_key k e.0 ≡ b → held_of (filter (λ e. not (same_key k e.0)) es) ≡ held_without k (held_of es) → held_of (filter (λ e. not (same_key k e.0)) (e ∷ es)) ≡ held_without k (held_of (e ∷ es))
    by true is rest = ap (λ b. held_of (cond (not b) (e ∷ filter (λ e. not (same_key k e.0)) es) (filter (λ e. not (same_key k e.0)) es))) is ∙ rest ∙ sym (ap (λ b. cond (not b) (held_by e ∷ held_without k (held_of es)) (held_without k (held_of es))) is)
    by false is rest = ap (λ b. held_of (cond (not b) (e ∷ filter (λ e. not (same_key k e.0)) es) (filter (λ e. not (same_key k e.0)) es))) is ∙ ap (λ l. held_by e ∷ l) rest ∙ sym (ap (λ b. cond (not b) (held_by e ∷ held_without k (held_of es)) (held_without k (held_of es))) is)

keys_kept : (es : Entries) → map_keys (λ k. k) es ≡ es
keys_kept [] = refl
keys_kept (e ∷ es) = ap (λ l. e ∷ l) (keys_kept es)

pub let_go_held : {S : Type 0} (k : Key) (m n : HashMap Key Slot S) → IsDistinct same_key (keys_of m.entries) → IsDistinct same_key (keys_of n.entries)
    → ((q : Key) → lookup (same_key q) n.entries ≡ cond (same_key k q) None (lookup (same_key q) m.entries))
    → IsPermutation (held_of n.entries) (held_without k (held_of m.entries))
let_go_held {S} k m n c d h =
    let rest = filter (λ e. not (same_key k e.0)) m.entries in
    let moved = hash_map_IsPermutation_from_get key_laws n (with_entries m rest) d (IsDistinct-keys_filter same_key (λ e. not (same_key k e.0)) m.entries c) (λ q. h q ∙ by q (same_key k q) refl ∙ sym (at q)) (λ x. x) same_key_is in
    subst (IsPermutation (held_of n.entries)) (held_filter k m.entries) (IsPermutation-map held_by n.entries rest (subst (λ l. IsPermutation l rest) (keys_kept n.entries) (subst (IsPermutation (map_keys (λ x. x) n.entries)) (keys_kept rest) moved)))
  where
    at : (q : Key) → lookup (same_key q) (filter (λ e. not (same_key k e.0)) m.entries) ≡ cond (not (same_key k q)) (lookup (same_key q) m.entries) None
    at q = lookup-filter-keys (same_key q) (λ x. not (same_key k x)) (not (same_key k q)) (λ x is. ap (λ y. not (same_key k y)) (sym (same_key_is q x is))) m.entries

    by : (q : Key) (b : Bool) → same_key k q ≡ b → cond (same_key k q) None (lookup (same_key q) m.entries) ≡ cond (not (same_key k q)) (lookup (same_key q) m.entries) None
    by q true is = ap (λ b. cond b None (lookup (same_key q) m.entries)) is ∙ sym (ap (λ b. cond (not b) (lookup (same_key q) m.entries) None) is)
    by q false is = ap (λ b. cond b None (lookup (same_key q) m.entries)) is ∙ sym (ap (λ b. cond (not b) (lookup (same_key q) m.entries) None) is)

-- the stored key is the one that was looked up
pub stored_is : (k q : Key) (es : Entries) → lookup_key (same_key k) es ≡ Some q → q ≡ k
stored_is k q es h = sym (same_key_is k q (lookup_key_passes (same_key k) es q h))

-- ---- answers

pub on_ok : {A E : Type 0} (r : Result A E) (P : Type 0) → IsOk r → OnOk r P → P
on_ok (Ok x) P ok h = h
on_ok (Err e) P ok h = absurd (true≢false (sym ok))

pub some_from : {X Y : Type 0} (f : X → Y) (o : Option X) (p : Option Y) → option_map f o ≡ p → is_some p ≡ true → IsSome o
some_from f None p e h = absurd (true≢false (sym (ap is_some e ∙ h)))
some_from f (Some x) p e h = refl
