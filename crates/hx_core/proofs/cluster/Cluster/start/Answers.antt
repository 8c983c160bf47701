use Rattle.std.proofs.Common.{◌≡◌, IfSome, subst, sym}
use Rattle.hx_core.specs.Refinement.{kept_of}
use Rattle.hx_core.proofs.Damaging.{damage_told, first_told, key_told}
use Rattle.hx_core.proofs.Reopening.{intact, same_state}
use Rattle.hx_core.proofs.Starting.{sound_opening, stands_opening}
use Rattle.hx_core.proofs.cluster.Cluster.start.Goals as goal

pub invariant_of-result : goal.invariant_of-result
invariant_of-result g c =
    record {
      sound = sound_opening (g.K.Keeper.shown c.args.keeper) (g.K.Keeper.shown c.load_work.new.keeper) c.in-Ok.state.state c.in-Ok.workers.seen c.in-Ok.state.staged c.in-Ok.ensures.valid c.in-Ok.ensures.staged c.in-Ok.ensures.asked.same.kept c.in-Ok.ensures.holds
          c.in-Ok.ensures.waiting c.in-Ok.ensures.hands c.in-Ok.ensures.again;
      scope = c.in-Ok.ensures.scope;
      ranks = c.in-Ok.ensures.ranks;
    }

pub returns-in-Ok-clause-opens : goal.returns-in-Ok-clause-opens
returns-in-Ok-clause-opens g c =
    stands_opening (g.K.Keeper.shown c.load_work.new.keeper) c.in-Ok.state.state c.in-Ok.workers.seen c.in-Ok.ensures.valid (subst (λ kept. IfSome kept (λ held. held ≡ kept_of c.in-Ok.state.state)) (sym c.in-Ok.ensures.asked.same.kept) c.in-Ok.ensures.holds) c.in-Ok.ensures.waiting c.in-Ok.ensures.hands c.in-Ok.ensures.again

pub returns-in-Ok-clause-reopens : goal.returns-in-Ok-clause-reopens
returns-in-Ok-clause-reopens g c = λ s valid is.
    same_state (g.K.Keeper.shown c.args.keeper).kept s c.in-Ok.state.state c.args.config c.in-Ok.ensures.config c.in-Ok.ensures.window valid c.in-Ok.ensures.valid is c.in-Ok.ensures.holds

pub returns-in-Err-clause-intact : goal.returns-in-Err-clause-intact
returns-in-Err-clause-intact g c = intact (g.K.Keeper.shown c.args.keeper).kept c.in-Err.fault (first_told c.in-Err.fault (g.K.Keeper.shown c.args.keeper).kept c.load_work.new.damaged_key c.in-Err.ensures.damaged)

pub returns-in-Err-clause-damaged : goal.returns-in-Err-clause-damaged
returns-in-Err-clause-damaged g c = first_told c.in-Err.fault (g.K.Keeper.shown c.args.keeper).kept c.load_work.new.damaged_key c.in-Err.ensures.damaged

pub returns-in-Err-clause-damage : goal.returns-in-Err-clause-damage
returns-in-Err-clause-damage g c = damage_told c.in-Err.fault (g.K.Keeper.shown c.args.keeper).kept c.load_work.new.damaged_key c.in-Err.ensures.damaged

pub returns-in-Err-clause-key : goal.returns-in-Err-clause-key
returns-in-Err-clause-key g c = key_told c.in-Err.fault (g.K.Keeper.shown c.args.keeper).kept c.load_work.new.damaged_key c.in-Err.ensures.damaged
