-- A cluster that starts in the state whose rows a keeper has.
--     stands_opening      it stands for the opening world of that state
--     sound_opening       its fields are sound
use Rattle.std.proofs.Common.{◌≡◌, ◌≢◌, true, false, List, [], None, Some, is_some, IfSome, refl, sym, ap, ◌∙◌, subst, inl, Option, true≢false}
use Rattle.std.specs.List.{AllByRecursion}
use Rattle.hx_ports.specs.Keeping.{Kept}
use Rattle.hx_ports.specs.Views.{KeeperView}
use Rattle.hx_model.specs.Covered.{IsCovered}
use Rattle.hx_model.specs.Hands.{Hand}
use Rattle.hx_model.specs.Keys.{is_among}
use Rattle.hx_model.specs.Machine.{opening_world, wants}
use Rattle.hx_model.specs.State.{State}
use Rattle.hx_model.specs.Valid.{IsValid}
use Rattle.hx_model.specs.Wanted.{wanted_write}
use Rattle.hx_model.specs.declared.key.Key.{Key}
use Rattle.hx_model.specs.declared.key.Write.{Write}
use Rattle.hx_core.specs.Inside.{IsSound, view_of}
use Rattle.hx_core.specs.Refinement.{Represents, IsKeptOf, kept_of}
use Rattle.hx_core.specs.Turns.{IsOf}
use Rattle.hx_queue.specs.Workers.{WorkersView}

pub stands_opening : (k : KeeperView) (s : State) (v : WorkersView) → IsValid s → IfSome k.kept (λ held. held ≡ kept_of s) → ((key : Key) → is_among key v.waiting ≡ wants s key) → v.hands ≡ [] → v.again ≡ [] → Represents (view_of s v k) (opening_world k.broken s)
stands_opening k s v valid held waits none empty = record {
  valid = record { state = valid; torn = tt };
  state = refl;
  hands = sym none;
  waiting = λ key e. sym (waits key) ∙ e;
  again = λ key e. let never : false ≡ true = ap (is_among key) (sym empty) ∙ e in absurd (true≢false (sym never));
  broken = refl;
  kept = by k.kept held;
}
  where
    by : (kept : Option Kept) → IfSome kept (λ h. h ≡ kept_of s) → IfSome kept (IsKeptOf (opening_world k.broken s))
    by None p = tt
    by (Some h) p = inl p

-- each key that wants a write waits
covered_opening : (s : State) (v : WorkersView) → ((key : Key) → is_among key v.waiting ≡ wants s key) → IsCovered s v.hands v.waiting v.again
covered_opening s v waits key some = inl (waits key ∙ there (wanted_write s key) some)
  where
    there : (o : Option Write) → o ≢ None → is_some o ≡ true
    there None never = absurd (never refl)
    there (Some w) some = refl

pub sound_opening : (old new : KeeperView) (s : State) (v : WorkersView) (staged : List Write) → IsValid s → staged ≡ [] → new.kept ≡ old.kept → IfSome old.kept (λ held. held ≡ kept_of s) → ((key : Key) → is_among key v.waiting ≡ wants s key) → v.hands ≡ [] → v.again ≡ []
    → IsSound s v new staged
sound_opening old new s v staged valid none same held waits free empty =
    let now = subst (λ kept. IfSome kept (λ h. h ≡ kept_of s)) (sym same) held in
    record {
      valid = valid;
      held = λ _. now;
      covered = covered_opening s v waits;
      taken = subst (λ (hands : List Hand). AllByRecursion (IsOf s) hands) (sym free) tt;
      world = (opening_world new.broken s, stands_opening new s v valid now waits free empty);
      none = none;
    }
