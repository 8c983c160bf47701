use Rattle.std.proofs.Common.{sym, ap, ◌∙◌}
use Rattle.std.proofs.lemmas.Result.{IfOk-weaker}
use Rattle.hx_model.specs.declared.key.Key.{Key}
use Rattle.hx_reconcile.specs.Briefs.{planned}
use Rattle.hx_reconcile.proofs.planning.write_of.Goals as goal

pub returns-in-Copy-clause-planned : goal.returns-in-Copy-clause-planned
returns-in-Copy-clause-planned c =
    IfOk-weaker c.write_of_copy.result _ _ (λ write told. told c.in-Copy.kind c.in-Copy.name ∙ ap (λ (k : Key). planned k c.args.brief.now.facts) (sym c.in-Copy.is)) c.write_of_copy.ensures.planned

pub returns-in-Tree-clause-planned : goal.returns-in-Tree-clause-planned
returns-in-Tree-clause-planned c = IfOk-weaker c.write_of_tree.result _ _ (λ write told. told c.in-Tree.ns ∙ ap (λ (k : Key). planned k c.args.brief.now.facts) (sym c.in-Tree.is)) c.write_of_tree.ensures.planned

pub returns-in-Anchor-clause-planned : goal.returns-in-Anchor-clause-planned
returns-in-Anchor-clause-planned c =
    IfOk-weaker c.write_of_anchor.result _ _ (λ write told. told c.in-Anchor.ns c.in-Anchor.name ∙ ap (λ (k : Key). planned k c.args.brief.now.facts) (sym c.in-Anchor.is)) c.write_of_anchor.ensures.planned

pub returns-in-Used-clause-planned : goal.returns-in-Used-clause-planned
returns-in-Used-clause-planned c = IfOk-weaker c.write_of_used.result _ _ (λ write told. told c.in-Used.ns c.in-Used.name ∙ ap (λ (k : Key). planned k c.args.brief.now.facts) (sym c.in-Used.is)) c.write_of_used.ensures.planned
