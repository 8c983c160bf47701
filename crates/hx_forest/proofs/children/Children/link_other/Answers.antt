use Rattle.std.proofs.Common.{◌≡◌, ap, sym, ◌∙◌, Some, is_some, cond, subst, ◌+◌}
use Rattle.std.specs.Option.{option_copied_mut}
use Rattle.std.specs.Map.{lookup}
use Rattle.std.specs.Str.{bytes_eq}
use Rattle.hx_model.proofs.Climbing.{same_itself}
use Rattle.hx_forest.specs.Children.{others_of, Fits}
use Rattle.hx_forest.proofs.children.Children.link_other.Goals as goal

pub returns-in-Some-clause-fits : goal.returns-in-Some-clause-fits
returns-in-Some-clause-fits c = λ k room fits.
    let p = c.args.link.parent in
    let found : others_of c.args.self.now p ≡ Some c.in-Some.names.now = sym c.get_mut.ensures.value ∙ ap option_copied_mut c.in-Some.is in
    let updates = (c.get_mut.follows.holds c.add_to.new.names).3 (ap is_some found) in
    let new : lookup (bytes_eq p) (c.get_mut.follows.lender c.add_to.new.names).entries ≡ Some c.add_to.new.names = updates.0 p ∙ ap (λ b. cond b (Some c.add_to.new.names) (others_of c.args.self.now p)) (same_itself p) in
    subst (Fits k) (sym new) (c.add_to.ensures.fits k room (subst (Fits (k + 1)) found fits))
