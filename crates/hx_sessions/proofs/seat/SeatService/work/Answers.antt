use Rattle.std.proofs.Common.{◌≡◌, false, refl, sym, true, true≢false}
use Rattle.hx_shared.specs.declared.work.WorkEnd.{WorkEnd}
use Rattle.hx_shared.specs.declared.work.WorkEnd.TheVariants as ended
use Rattle.hx_sessions.proofs.seat.SeatService.work.Goals as goal

-- no turn is stopped at an open gate
never_stopped : (end : WorkEnd) (P : Type 0) → (end ≡ ended.Used → P) → (end ≡ ended.Stopped → false ≡ true) → P
never_stopped ended.Used P used stopped = used refl
never_stopped ended.Stopped P used stopped = absurd (true≢false (sym (stopped refl)))

pub returns-clause-worked : goal.returns-clause-worked
returns-clause-worked g c =
    let all = c.work-worked.ensures in
    never_stopped c.work-worked.result.end _ all.used (λ e. let s = all.stopped e in s.3)
