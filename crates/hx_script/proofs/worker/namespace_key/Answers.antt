use Rattle.std.proofs.Common.{◌≡◌, ◌∙◌, Some, sym, ap, subst, option_map}
use Rattle.hx_model.specs.declared.key.Key.TheVariants as key
use Rattle.hx_script.specs.Inside.{key_by}
use Rattle.hx_script.specs.Workers.{namespace_key}
use Rattle.hx_script.proofs.worker.namespace_key.Goals as goal

pub returns-in_err-namespace_named-in-tree : goal.returns-in_err-namespace_named-in-tree
returns-in_err-namespace_named-in-tree c = subst (λ w. option_map key_by c.from_residual.result ≡ namespace_key w c.args.rest.now) (sym c.in-tree.is) (ap (option_map key_by) c.from_residual.ensures ∙ c.in_err-namespace_named-in-tree.ensures (λ n. key.Tree n))

pub returns-in_ok-namespace_named-in-tree : goal.returns-in_ok-namespace_named-in-tree
returns-in_ok-namespace_named-in-tree c = subst (λ w. Some (key.Tree c.in_ok-namespace_named-in-tree.field-0.now) ≡ namespace_key w c.args.rest.now) (sym c.in-tree.is) (c.in_ok-namespace_named-in-tree.ensures (λ n. key.Tree n))

pub returns-in_err-namespace_named-in-report : goal.returns-in_err-namespace_named-in-report
returns-in_err-namespace_named-in-report c = subst (λ w. option_map key_by c.from_residual-in_err-namespace_named-in-report.result ≡ namespace_key w c.args.rest.now) (sym c.in-report.is) (ap (option_map key_by) c.from_residual-in_err-namespace_named-in-report.ensures ∙ c.in_err-namespace_named-in-report.ensures (λ n. key.Report n))

pub returns-in_ok-namespace_named-in-report : goal.returns-in_ok-namespace_named-in-report
returns-in_ok-namespace_named-in-report c = subst (λ w. Some (key.Report c.in_ok-namespace_named-in-report.field-0.now) ≡ namespace_key w c.args.rest.now) (sym c.in-report.is) (c.in_ok-namespace_named-in-report.ensures (λ n. key.Report n))

pub returns-in_err-namespace_named-in-purge : goal.returns-in_err-namespace_named-in-purge
returns-in_err-namespace_named-in-purge c = subst (λ w. option_map key_by c.from_residual-in_err-namespace_named-in-purge.result ≡ namespace_key w c.args.rest.now) (sym c.in-purge.is) (ap (option_map key_by) c.from_residual-in_err-namespace_named-in-purge.ensures ∙ c.in_err-namespace_named-in-purge.ensures (λ n. key.Purge n))

pub returns-in_ok-namespace_named-in-purge : goal.returns-in_ok-namespace_named-in-purge
returns-in_ok-namespace_named-in-purge c = subst (λ w. Some (key.Purge c.in_ok-namespace_named-in-purge.field-0.now) ≡ namespace_key w c.args.rest.now) (sym c.in-purge.is) (c.in_ok-namespace_named-in-purge.ensures (λ n. key.Purge n))
