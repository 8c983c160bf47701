-- What a keeper holds once writes are committed.
--     is_batch        the batch of the writes of a commit is one
--     may_follow      it may be put to a keeper of the state
--     landed_held     what is held after it
-- A batch puts rows first and then cuts, whatever the order of the writes: no identity is written twice.
use Rattle.std.proofs.Common.{◌≡◌, ◌≢◌, ◌≤◌, ◌<◌, ◌+◌, ℕ, Bool, true, false, List, [], ◌∷◌, map, None, Some, IfSome, refl, sym, ap, subst, ◌∙◌, cond, Option, arith, true≢false}
use Rattle.std.specs.Prelude.{option_map}
use Rattle.std.specs.List.{AllByRecursion, IsDistinct}
use Rattle.std.specs.List.Sorted.{IsPermutation}
use Rattle.std.specs.Cmp.Lexicographic.{nat_list_cmp_total}
use Rattle.std.specs.Ordering.{eq_by_cmp}
use Rattle.std.specs.FinMap as finite
use Rattle.std.specs.FinMap.{same_map, get-insert, get-remove}
use Rattle.std.proofs.lemmas.Cmp.{eq_by_cmp_equiv}
use Rattle.std.proofs.lemmas.List.Sorted.{IsPermutation-refl, IsPermutation-trans, IsPermutation-sym, IsPermutation-cons, IsPermutation-middle}
use Rattle.std.proofs.lemmas.Map.Keys.{IsDistinct-IsPermutation}
use Rattle.hx_object.specs.Texts.{bytes_cmp}
use Rattle.hx_object.specs.declared.object.Id.{Id}
use Rattle.hx_object.specs.declared.object.Object.{Object}
use Rattle.hx_object.specs.Json.{object_text}
use Rattle.hx_ports.specs.Keeping.{Kept, Rows, Lands, with_batch, with_puts, with_cuts, keys_of, IsPut, IsBatch, MayFollow, greatest_version}
use Rattle.hx_ports.specs.declared.keeper.Batch.{Batch}
use Rattle.hx_model.specs.State.{State, Objects, events_of, object_at, put, cut, after_writes, state_after, same_id}
use Rattle.hx_model.specs.Windows.{most_events, with_events}
use Rattle.hx_model.specs.Texts.{rows_of_objects, key_text}
use Rattle.hx_model.specs.Valid.{IsValid, IsStored}
use Rattle.hx_model.specs.Writes.{id_written, MayWrite, MayWriteAll}
use Rattle.hx_model.specs.declared.key.Write.{Write}
use Rattle.hx_model.specs.declared.key.Write.TheVariants.{Put, Cut}
use Rattle.hx_model.proofs.Legality.{keyed_legal}
use Rattle.hx_model.proofs.Objects.{found_id}
use Rattle.hx_model.proofs.Storing.{All-found, All-put, All-cut, HasNoSlash, IsKeyed, rows_of_objects-put, rows_of_objects-cut, stored_contains, same_bytes}
use Rattle.hx_model.proofs.Writes.{key_apart}
use Rattle.hx_core.specs.Committing.{IsPrepared}
use Rattle.hx_core.specs.Refinement.{kept_of}
use Rattle.hx_core.specs.Rows.{objects_put, ids_cut, batch_of}

-- ---- legal objects

-- the namespace of each identity that is written has no slash
abbrev pub IsKeyedWrite : Write → Type 0
IsKeyedWrite w = HasNoSlash (id_written w).ns

pub stored_keyed : (last : ℕ) (objects : Objects) → AllByRecursion (IsStored last) objects → AllByRecursion IsKeyed objects
stored_keyed last [] all = tt
stored_keyed last (x ∷ objects) all = (keyed_legal x all.0.served.legal, stored_keyed last objects all.1)

-- one that is cut is legal, since it was stored before
cut_keyed : (s : State) (id : Id) (x : Object) → IsValid s → object_at s.objects id ≡ Some x → HasNoSlash id.ns
cut_keyed s id x valid e =
    subst (λ (q : Id). HasNoSlash q.ns) (sym (found_id s.objects id x e)) (keyed_legal x (All-found (IsStored s.last) id x s.objects valid.stored e).served.legal)

writes_keyed : (s : State) (ws : List Write) → IsValid s → AllByRecursion (MayWrite s) ws → AllByRecursion IsKeyedWrite ws
writes_keyed s [] valid may = tt
writes_keyed s (Put x ∷ ws) valid may = (keyed_legal x may.0.served.legal, writes_keyed s ws valid may.1)
writes_keyed s (Cut id ∷ ws) valid may = (cut_keyed s id may.0.there.0 valid may.0.there.1, writes_keyed s ws valid may.1)

-- ---- keys

-- the keys of writes, in their order
abbrev keys_written : List Write → List (List ℕ)
keys_written ws = map (λ w. key_text (id_written w)) ws

-- the keys of the batch, the puts first
abbrev keys_in : List Write → List (List ℕ)
keys_in ws = keys_of (batch_of ws 0 [])

same_keys : (ws : List Write) → IsPermutation (keys_written ws) (keys_in ws)
same_keys [] = IsPermutation-refl []
same_keys (Put x ∷ ws) = IsPermutation-cons (key_text x.id) (keys_written ws) (keys_in ws) (same_keys ws)
same_keys (Cut id ∷ ws) =
    IsPermutation-trans (key_text id ∷ keys_written ws) (key_text id ∷ keys_in ws) (keys_in (Cut id ∷ ws)) (IsPermutation-cons (key_text id) (keys_written ws) (keys_in ws) (same_keys ws))
    (IsPermutation-sym (keys_in (Cut id ∷ ws)) (key_text id ∷ keys_in ws) (IsPermutation-middle (map (λ (x : Object). key_text x.id) (objects_put ws)) (key_text id) (map key_text (ids_cut ws))))

-- a key apart from those of the writes
keys_apart : (w : Write) (ws : List Write) → IsKeyedWrite w → AllByRecursion IsKeyedWrite ws → AllByRecursion (λ b. same_id (id_written w) b ≡ false) (map id_written ws) → AllByRecursion (λ k. eq_by_cmp bytes_cmp (key_text (id_written w)) k ≡ false) (keys_written ws)
keys_apart w [] keyed all apart = tt
keys_apart w (v ∷ ws) keyed all apart = (key_apart (id_written w) (id_written v) keyed all.0 apart.0, keys_apart w ws keyed all.1 apart.1)

keys_distinct : (ws : List Write) → AllByRecursion IsKeyedWrite ws → IsDistinct same_id (map id_written ws) → IsDistinct (eq_by_cmp bytes_cmp) (keys_written ws)
unfolding IsDistinct
keys_distinct [] keyed distinct = tt
keys_distinct (w ∷ ws) keyed distinct = (keys_apart w ws keyed.0 keyed.1 distinct.0, keys_distinct ws keyed.1 distinct.1)

batch_distinct : (ws : List Write) → AllByRecursion IsKeyedWrite ws → IsDistinct same_id (map id_written ws) → IsDistinct (eq_by_cmp bytes_cmp) (keys_in ws)
batch_distinct ws keyed distinct =
    IsDistinct-IsPermutation (eq_by_cmp bytes_cmp) (eq_by_cmp_equiv nat_list_cmp_total).symm (keys_written ws) (keys_in ws) (same_keys ws) (keys_distinct ws keyed distinct)

-- ---- batches

-- the objects are legal, and of the next version
objects_right : (s : State) (ws : List Write) → s.last + 1 ≤ greatest_version → AllByRecursion (MayWrite s) ws → AllByRecursion IsPut (objects_put ws)
objects_right s [] fits may = tt
objects_right s (Put x ∷ ws) fits may =
    (record { legal = may.0.served.legal; version = subst (λ v. v ≤ greatest_version) (sym may.0.next) fits }, objects_right s ws fits may.1)
objects_right s (Cut id ∷ ws) fits may = objects_right s ws fits may.1

-- the version of the writes fits
pub next_fits : (s : State) (ws : List Write) → MayWriteAll s ws → ws ≢ [] → s.last + 1 ≤ greatest_version
next_fits s ws may some = let less : s.last < greatest_version = may.fits some in omega arith

pub is_batch : (s : State) (ws : List Write) (batch : Batch) → IsValid s → IsPrepared s ws batch → IsBatch batch
is_batch s ws batch valid ready =
    let fits = next_fits s ws ready.may ready.some in
    let right : IsBatch (batch_of ws (s.last + 1) (events_of s ws)) = record {
      distinct = batch_distinct ws (writes_keyed s ws valid ready.may.each) ready.may.distinct;
      version = fits;
      puts = objects_right s ws fits ready.may.each;
    } in
    subst IsBatch (sym ready.is) right

cuts_there : (s : State) (ws : List Write) → AllByRecursion (MayWrite s) ws → AllByRecursion (λ id. finite.contains_key (rows_of_objects s.objects) (key_text id) ≡ true) (ids_cut ws)
cuts_there s [] may = tt
cuts_there s (Put x ∷ ws) may = cuts_there s ws may.1
cuts_there s (Cut id ∷ ws) may = (stored_contains id may.0.there.0 s.objects may.0.there.1, cuts_there s ws may.1)

-- the batch may be put to a keeper of the state
pub may_follow : (s : State) (ws : List Write) (batch : Batch) (kept : Option Kept) → IsPrepared s ws batch → IfSome kept (λ held. held ≡ kept_of s) → IfSome kept (MayFollow batch)
may_follow s ws batch None ready held = tt
may_follow s ws batch (Some h) ready held =
    let follows : MayFollow (batch_of ws (s.last + 1) (events_of s ws)) (kept_of s) = record { next = refl; there = cuts_there s ws ready.may.each } in
    subst (λ b. MayFollow b h) (sym ready.is) (subst (MayFollow (batch_of ws (s.last + 1) (events_of s ws))) (sym held) follows)

-- ---- what is held

-- a test that is met by at most one of two keys
swapped : {A : Type 0} (a b : Bool) (x : A) (o : Option A) → (a ≡ true → b ≡ true → ⊥) → cond a None (cond b (Some x) o) ≡ cond b (Some x) (cond a None o)
swapped true true x o apart = absurd (apart refl refl)
swapped true false x o apart = refl
swapped false b x o apart = refl

-- no key ties with two that are apart
not_both : (q k j : List ℕ) → eq_by_cmp bytes_cmp k j ≡ false → eq_by_cmp bytes_cmp q k ≡ true → eq_by_cmp bytes_cmp q j ≡ true → ⊥
not_both q k j apart p r = let law = eq_by_cmp_equiv nat_list_cmp_total in true≢false (sym r ∙ law.congr q k j p ∙ apart)

-- a row of another key is cut before or after one is put
cut_then_put : (k j : List ℕ) (v : ℕ × List ℕ) (rows : Rows) → eq_by_cmp bytes_cmp k j ≡ false → finite.remove (finite.insert rows j v) k ≡ finite.insert (finite.remove rows k) j v
cut_then_put k j v rows apart = same_map nat_list_cmp_total same_bytes _ _ (λ q.
    get-remove nat_list_cmp_total (finite.insert rows j v) k q ∙ ap (cond (eq_by_cmp bytes_cmp q k) None) (get-insert nat_list_cmp_total rows j v q)
    ∙ swapped (eq_by_cmp bytes_cmp q k) (eq_by_cmp bytes_cmp q j) v (finite.get rows q) (not_both q k j apart)
    ∙ sym (get-insert nat_list_cmp_total (finite.remove rows k) j v q ∙ ap (cond (eq_by_cmp bytes_cmp q j) (Some v)) (get-remove nat_list_cmp_total rows k q)))

cut_then_puts : (k : List ℕ) (ws : List Write) (rows : Rows) → AllByRecursion (λ j. eq_by_cmp bytes_cmp k j ≡ false) (keys_written ws) → finite.remove (with_puts (objects_put ws) rows) k ≡ with_puts (objects_put ws) (finite.remove rows k)
cut_then_puts k [] rows apart = refl
cut_then_puts k (Put x ∷ ws) rows apart =
    cut_then_puts k ws (finite.insert rows (key_text x.id) (x.version, object_text x)) apart.1
    ∙ ap (with_puts (objects_put ws)) (cut_then_put k (key_text x.id) (x.version, object_text x) rows apart.0)
cut_then_puts k (Cut id ∷ ws) rows apart = cut_then_puts k ws rows apart.1

-- puts and then cuts make the rows of the objects after the writes
rows_after : (ws : List Write) (objects : Objects) → AllByRecursion IsKeyedWrite ws → AllByRecursion IsKeyed objects → IsDistinct (eq_by_cmp bytes_cmp) (keys_written ws)
    → with_cuts (ids_cut ws) (with_puts (objects_put ws) (rows_of_objects objects)) ≡ rows_of_objects (after_writes ws objects)
unfolding IsDistinct
rows_after [] objects keyed all distinct = refl
rows_after (Put x ∷ ws) objects keyed all distinct =
    ap (λ rows. with_cuts (ids_cut ws) (with_puts (objects_put ws) rows)) (sym (rows_of_objects-put x objects keyed.0 all))
    ∙ rows_after ws (put x objects) keyed.1 (All-put IsKeyed x objects keyed.0 all) distinct.1
rows_after (Cut id ∷ ws) objects keyed all distinct =
    ap (with_cuts (ids_cut ws)) (cut_then_puts (key_text id) ws (rows_of_objects objects) distinct.0 ∙ ap (with_puts (objects_put ws)) (sym (rows_of_objects-cut id objects keyed.0 all)))
    ∙ rows_after ws (cut id objects) keyed.1 (All-cut IsKeyed id objects all) distinct.1

after_some : (s : State) (ws : List Write) → ws ≢ [] → ◌≡◌ {A = State} (record s { objects = after_writes ws s.objects; last = s.last + 1; window = with_events most_events s.window (events_of s ws) }) (state_after s ws)
after_some s [] some = absurd (some refl)
after_some s (w ∷ ws) some = refl

batch_held : (s : State) (ws : List Write) → IsValid s → MayWriteAll s ws → ws ≢ [] → with_batch (batch_of ws (s.last + 1) (events_of s ws)) (kept_of s) ≡ kept_of (state_after s ws)
batch_held s ws valid may some =
    let keyed = writes_keyed s ws valid may.each in
    let rows = rows_after ws s.objects keyed (stored_keyed s.last s.objects valid.stored) (keys_distinct ws keyed may.distinct) in
    let held : with_batch (batch_of ws (s.last + 1) (events_of s ws)) (kept_of s) ≡ kept_of (record s { objects = after_writes ws s.objects; last = s.last + 1; window = with_events most_events s.window (events_of s ws) }) = λ i. record { schema = 2; version = s.last + 1; rows = rows i } in
    held ∙ ap kept_of (after_some s ws some)

-- what is held once the batch landed
pub landed_held : (s : State) (ws : List Write) (batch : Batch) (kept kept' : Option Kept) → IsValid s → IsPrepared s ws batch → IfSome kept (λ held. held ≡ kept_of s) → Lands batch kept kept' → kept' ≡ option_map (λ _. kept_of (state_after s ws)) kept
landed_held s ws batch None kept' valid ready held lands = lands
landed_held s ws batch (Some h) kept' valid ready held lands =
    let now : with_batch batch h ≡ kept_of (state_after s ws) = (λ i. with_batch (ready.is i) (held i)) ∙ batch_held s ws valid ready.may ready.some in
    lands ∙ ap Some now
