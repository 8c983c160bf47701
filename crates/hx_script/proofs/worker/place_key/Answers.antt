use Rattle.std.proofs.Common.{◌≡◌, ◌∙◌, Some, sym, ap, subst, option_map}
use Rattle.hx_model.specs.declared.key.Key.TheVariants as key
use Rattle.hx_script.specs.Inside.{key_by}
use Rattle.hx_script.specs.Workers.{place_key}
use Rattle.hx_script.proofs.worker.place_key.Goals as goal

pub returns-in_err-ns-in-child : goal.returns-in_err-ns-in-child
returns-in_err-ns-in-child c = subst (λ w. option_map key_by c.from_residual.result ≡ place_key w c.args.rest.now) (sym c.in-child.is) (ap (option_map key_by) c.from_residual.ensures ∙ c.in_err-ns-in-child.ensures (λ n name. key.Child n name))

pub returns-in_ok-ns-in-child : goal.returns-in_ok-ns-in-child
returns-in_ok-ns-in-child c = subst (λ w. Some (key.Child c.in_ok-ns-in-child.ns.now c.in_ok-ns-in-child.name.now) ≡ place_key w c.args.rest.now) (sym c.in-child.is) (c.in_ok-ns-in-child.ensures (λ n name. key.Child n name))

pub returns-in_err-ns-in-anchor : goal.returns-in_err-ns-in-anchor
returns-in_err-ns-in-anchor c = subst (λ w. option_map key_by c.from_residual-in_err-ns-in-anchor.result ≡ place_key w c.args.rest.now) (sym c.in-anchor.is) (ap (option_map key_by) c.from_residual-in_err-ns-in-anchor.ensures ∙ c.in_err-ns-in-anchor.ensures (λ n name. key.Anchor n name))

pub returns-in_ok-ns-in-anchor : goal.returns-in_ok-ns-in-anchor
returns-in_ok-ns-in-anchor c = subst (λ w. Some (key.Anchor c.in_ok-ns-in-anchor.ns.now c.in_ok-ns-in-anchor.name.now) ≡ place_key w c.args.rest.now) (sym c.in-anchor.is) (c.in_ok-ns-in-anchor.ensures (λ n name. key.Anchor n name))

pub returns-in_err-ns-in-used : goal.returns-in_err-ns-in-used
returns-in_err-ns-in-used c = subst (λ w. option_map key_by c.from_residual-in_err-ns-in-used.result ≡ place_key w c.args.rest.now) (sym c.in-used.is) (ap (option_map key_by) c.from_residual-in_err-ns-in-used.ensures ∙ c.in_err-ns-in-used.ensures (λ n name. key.Used n name))

pub returns-in_ok-ns-in-used : goal.returns-in_ok-ns-in-used
returns-in_ok-ns-in-used c = subst (λ w. Some (key.Used c.in_ok-ns-in-used.ns.now c.in_ok-ns-in-used.name.now) ≡ place_key w c.args.rest.now) (sym c.in-used.is) (c.in_ok-ns-in-used.ensures (λ n name. key.Used n name))
