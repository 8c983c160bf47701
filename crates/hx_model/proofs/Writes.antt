-- What the writes of one commit keep.
--     stored_next       what is stored stays stored under the next version
--     stored_after      each object after the writes is stored
--     ascends_after     they are in order
--     valid_after       the state after the writes is valid
--     key_apart         distinct identities have distinct keys
use Rattle.std.proofs.Common.{◌≡◌, ◌≤◌, ℕ, ◌+◌, true, false, List, [], ◌∷◌, refl, sym, ap, ◌∙◌, arith, true≢false}
use Rattle.std.specs.List.{AllByRecursion}
use Rattle.std.specs.Cmp.{tied_itself}
use Rattle.std.specs.declared.cmp.Ordering.{Ordering}
use Rattle.std.specs.declared.cmp.Ordering.TheVariants.{Less, Equal, Greater}
use Rattle.std.specs.Ordering.{eq_by_cmp, is_eq}
use Rattle.hx_object.specs.Order.{id_cmp}
use Rattle.hx_object.specs.Texts.{bytes_cmp}
use Rattle.hx_object.specs.declared.object.Id.{Id}
use Rattle.hx_object.specs.declared.object.Object.{Object}
use Rattle.hx_model.specs.State.{State, Objects, ascends, put, cut, after_writes, state_after, same_id}
use Rattle.hx_model.specs.Limits.{greatest_version}
use Rattle.hx_model.specs.Texts.{key_text}
use Rattle.hx_model.specs.Valid.{IsValid, IsStored}
use Rattle.hx_model.specs.Writes.{MayPut, MayWrite, MayWriteAll}
use Rattle.hx_model.specs.declared.key.Write.{Write}
use Rattle.hx_model.specs.declared.key.Write.TheVariants.{Put, Cut}
use Rattle.hx_model.proofs.Objects.{id_total, same_from_Equal, ascends-put, ascends-cut}
use Rattle.hx_model.proofs.Happening.{recent_after}
use Rattle.hx_model.proofs.Homes.{housed_after}
use Rattle.hx_model.proofs.Storing.{HasNoSlash, key_text-injective, same_bytes, All-put, All-cut}

-- ---- the state after the writes

-- what is stored stays so under the next version
pub stored_next : (last : ℕ) (objects : Objects) → AllByRecursion (IsStored last) objects → AllByRecursion (IsStored (last + 1)) objects
stored_next last [] all = tt
stored_next last (x ∷ objects) all = (record { served = all.0.served; given = all.0.given; known = omega (arith, all.0.known) }, stored_next last objects all.1)

-- an object that may be put is stored afterwards
pub stored_new : (s : State) (x : Object) → MayPut s x → IsStored (s.last + 1) x
stored_new s x may = record { served = may.served; given = omega (arith, may.next); known = omega (arith, may.next) }

pub stored_after : (s : State) (ws : List Write) (objects : Objects) → AllByRecursion (MayWrite s) ws → AllByRecursion (IsStored (s.last + 1)) objects → AllByRecursion (IsStored (s.last + 1)) (after_writes ws objects)
stored_after s [] objects may all = all
stored_after s (Put x ∷ ws) objects may all = stored_after s ws (put x objects) may.1 (All-put (IsStored (s.last + 1)) x objects (stored_new s x may.0) all)
stored_after s (Cut id ∷ ws) objects may all = stored_after s ws (cut id objects) may.1 (All-cut (IsStored (s.last + 1)) id objects all)

pub ascends_after : (ws : List Write) (objects : Objects) → ascends objects ≡ true → ascends (after_writes ws objects) ≡ true
ascends_after [] objects h = h
ascends_after (Put x ∷ ws) objects h = ascends_after ws (put x objects) (ascends-put x objects h)
ascends_after (Cut id ∷ ws) objects h = ascends_after ws (cut id objects) (ascends-cut id objects h)

-- the state after the writes of a commit is valid
pub valid_after : (s : State) (ws : List Write) → IsValid s → MayWriteAll s ws → IsValid (state_after s ws)
valid_after s [] valid may = valid
valid_after s (w ∷ ws) valid may = record {
  in_order = ascends_after (w ∷ ws) s.objects valid.in_order;
  stored = stored_after s (w ∷ ws) s.objects may.each (stored_next s.last s.objects valid.stored);
  housed = housed_after s (w ∷ ws) may valid.housed;
  fits = let less : s.last + 1 ≤ greatest_version = omega (arith, may.fits (λ none. cc)) in less;
  recent = recent_after s (w ∷ ws) valid may.each;
}

-- ---- keys

-- distinct identities have distinct keys
pub key_apart : (a b : Id) → HasNoSlash a.ns → HasNoSlash b.ns → same_id a b ≡ false → eq_by_cmp bytes_cmp (key_text a) (key_text b) ≡ false
key_apart a b p q apart = by (bytes_cmp (key_text a) (key_text b)) refl
  where
    by : (o : Ordering) → bytes_cmp (key_text a) (key_text b) ≡ o → is_eq o ≡ false
    by Less e = refl
    by Greater e = refl
    by Equal e = absurd (true≢false (sym (same_from_Equal a b (ap (λ i. id_cmp a i) (sym (key_text-injective a b p q (same_bytes (key_text a) (key_text b) e))) ∙ tied_itself id_total a)) ∙ apart))
