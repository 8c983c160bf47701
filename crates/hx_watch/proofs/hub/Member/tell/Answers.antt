use Rattle.std.proofs.Common.{[], ◌∷◌, true, refl, subst}
use Rattle.hx_watch.specs.Watching.{HasFollowed, MemberView}
use Rattle.hx_watch.proofs.Following.{set-aside}
use Rattle.hx_watch.proofs.hub.Member.tell.Goals as goal

pub returns-in-Err : goal.returns-in-Err
returns-in-Err g c =
    let old : MemberView = record { shown = g.W.Watcher.shown c.self.inside.watcher; gone = c.self.inside.gone } in
    let new : MemberView = record { shown = g.W.Watcher.shown c.push.new.self; gone = true } in
    subst (λ (m : MemberView). HasFollowed (c.args.event.now ∷ []) m new) c.self.view_is (set-aside c.args.event.now old new c.if-self.false refl c.in-Err.ensures.refused)
