use Rattle.std.proofs.Common.{◌≡◌, ap, Err}
use Rattle.hx_ports.specs.declared.keeper.KeepFault.TheVariants.{Fault}
use Rattle.hx_core.specs.declared.commit.CommitFault.TheVariants.{KeeperFault}
use Rattle.hx_core.proofs.Committing.{landed, failed, fault_of_keeper}
use Rattle.hx_core.proofs.Storing.{is_batch, may_follow}
use Rattle.hx_core.proofs.commit.commit.Goals as goal

pub commit-requires-clause-batch : goal.commit-requires-clause-batch
commit-requires-clause-batch g c = is_batch c.args.state.now.state c.args.state.now.staged c.args.prepared.batch c.requires.valid c.requires.prepared

pub commit-requires-clause-follows : goal.commit-requires-clause-follows
commit-requires-clause-follows g c = λ whole. may_follow c.args.state.now.state c.args.state.now.staged c.args.prepared.batch (g.K.Keeper.shown c.args.keeper.now).kept c.requires.prepared (c.requires.held whole)

pub returns-in-Ok-clause-landed : goal.returns-in-Ok-clause-landed
returns-in-Ok-clause-landed g c =
    landed c.args.state.now.state c.apply.new.self.state c.args.state.now.staged c.args.prepared.batch (g.K.Keeper.shown c.args.keeper.now) (g.K.Keeper.shown c.commit.new.self)
    c.requires.valid c.requires.held c.requires.prepared c.apply.ensures.state c.in-Ok.ensures.ok.0 c.in-Ok.ensures.ok.1 c.in-Ok.ensures.ok.2 c.in-Ok.ensures.place (c.in-Ok.ensures.cause.still (λ e. cc e)) c.in-Ok.ensures.told

pub returns-in-Err-clause-fault : goal.returns-in-Err-clause-fault
returns-in-Err-clause-fault g c = λ e.
    let is : c.in-Err.fault ≡ Fault = fault_of_keeper c.in-Err.fault c.from.result c.from.ensures.memory (let same : c.from.result ≡ KeeperFault = cc e in same) in
    failed c.args.state.now.state c.discard.new.self.state c.args.state.now.staged c.args.prepared.batch (g.K.Keeper.shown c.args.keeper.now) (g.K.Keeper.shown c.commit.new.self)
    c.requires.valid c.requires.held c.requires.prepared c.discard.ensures.state (c.in-Err.ensures.torn (ap Err is)) (c.in-Err.ensures.breaks (ap Err is)) c.in-Err.ensures.place c.in-Err.ensures.cause.later (c.in-Err.ensures.cause.failed (ap Err is)) c.in-Err.ensures.untold
