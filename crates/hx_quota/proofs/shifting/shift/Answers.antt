use Rattle.std.proofs.Common.{rules, ◌≡◌, length, refl}
use Rattle.hx_quota.proofs.Deltas.{may_shift}
use Rattle.hx_quota.proofs.shifting.shift.Goals as goal

pub loop-delta-init : goal.loop-delta-init
loop-delta-init c =
    let long : length c.args.own.now ≡ 15 = search rules in
    record {
      may = may_shift c.args.deltas.now c.args.own.now long c.requires.apart c.requires.old c.requires.fits;
      same = refl;
    }
