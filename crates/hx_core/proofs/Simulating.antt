-- Entries one after the other.
--     Simulates-none, Simulates-then    no entries, and some after others
--     HasWorld-after                    the cluster stands for a world afterwards
--     events_in-append                  what both parts of a history tell
use Rattle.std.proofs.Common.{◌≡◌, ◌≤◌, ℕ, Bool, true, false, [], ◌∷◌, ◌++◌, refl, sym, ap, subst, ◌∙◌, inl, inr, arith, append_assoc, true≢false}
use Rattle.std.specs.Prelude.{◌⊎◌, ◌||◌}
use Rattle.hx_ports.specs.Causes.{Rose}
use Rattle.hx_model.specs.Machine.{World, History, replay, loses_to_fault, world_after}
use Rattle.hx_model.proofs.Histories.{IsHistory-append, replay-append, loses_to_fault-append}
use Rattle.hx_watch.specs.Watching.{HaveFollowed}
use Rattle.hx_watch.proofs.Following.{follow-nothing, follow-in-parts}
use Rattle.hx_model.specs.Happening.{events_at, events_in}
use Rattle.hx_core.specs.Refinement.{AllValid, ClusterView, Represents, HasWorld, Simulates}

pub Simulates-none : (c : ClusterView) → HasWorld c → Simulates c [] c
Simulates-none c stood = record { stood = stood; steps = λ w stands. (tt, stands); valid = λ w stands. stands.valid; later = omega arith; cause = λ e. absurd (true≢false (sym e)); still = λ e. refl; told = λ w stands. follow-nothing c.keeper.watchers; tells = refl; place = refl }

rose_before : (a b c : ℕ) → a ≤ b → Rose b c → Rose a c
rose_before a b c le rose = omega arith

rose_after : (a b c : ℕ) → b ≤ c → Rose a b → Rose a c
rose_after a b c le rose = omega arith

either_lost : (x y : Bool) → (x || y) ≡ true → (x ≡ true) ⊎ (y ≡ true)
either_lost true y e = inl refl
either_lost false y e = inr e

first_kept : (x y : Bool) → (x || y) ≡ false → x ≡ false
first_kept true y e = absurd (true≢false e)
first_kept false y e = refl

second_kept : (x y : Bool) → (x || y) ≡ false → y ≡ false
second_kept true y e = absurd (true≢false e)
second_kept false y e = e

-- histories of valid worlds one after the other
AllValid-append : (w : World) (h k : History) → AllValid w h → AllValid (replay w h) k → AllValid w (h ++ k)
AllValid-append w [] k p q = q
AllValid-append w (e ∷ h) k p q = (p.0, AllValid-append (world_after w e) h k p.1 q)

pub events_in-append : (w : World) (h k : History) → events_in w (h ++ k) ≡ events_in w h ++ events_in (replay w h) k
events_in-append w [] k = refl
events_in-append w (e ∷ h) k = ap (λ es. events_at w e ++ es) (events_in-append (world_after w e) h k) ∙ sym (append_assoc (events_at w e) (events_in (world_after w e) h) (events_in (replay (world_after w e) h) k))

pub HasWorld-after : (a b : ClusterView) (h : History) → Simulates a h b → HasWorld b
HasWorld-after a b h p = (replay p.stood.0 h, (p.steps p.stood.0 p.stood.1).1)

pub Simulates-then : (a b c : ClusterView) (h k : History) → Simulates a h b → Simulates b k c → Simulates a (h ++ k) c
Simulates-then a b c h k p q =
    let lost = loses_to_fault-append h k in
    record {
      stood = p.stood;
      steps = λ w stands.
          let first = p.steps w stands in
          let second = q.steps (replay w h) first.1 in
          (IsHistory-append w h k first.0 second.0, subst (Represents c) (sym (replay-append w h k)) second.1);
      valid = λ w stands. AllValid-append w h k (p.valid w stands) (q.valid (replay w h) (p.steps w stands).1);
      later = omega (arith, p.later, q.later);
      cause = λ e. elim (either_lost (loses_to_fault h) (loses_to_fault k) (sym lost ∙ e)) [
        | inl left ↦ rose_after a.keeper.faults b.keeper.faults c.keeper.faults q.later (p.cause left)
        | inr right ↦ rose_before a.keeper.faults b.keeper.faults c.keeper.faults p.later (q.cause right)
      ];
      still = λ e. q.still (second_kept (loses_to_fault h) (loses_to_fault k) (sym lost ∙ e)) ∙ p.still (first_kept (loses_to_fault h) (loses_to_fault k) (sym lost ∙ e));
      told = λ w stands. subst (λ es. HaveFollowed es a.keeper.watchers c.keeper.watchers) (sym (events_in-append w h k))
          (follow-in-parts (events_in w h) (events_in (replay w h) k) a.keeper.watchers b.keeper.watchers c.keeper.watchers (p.told w stands) (q.told (replay w h) (p.steps w stands).1));
      tells = q.tells ∙ p.tells;
      place = q.place ∙ p.place;
    }
