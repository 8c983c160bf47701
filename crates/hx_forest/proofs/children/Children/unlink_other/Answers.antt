use Rattle.std.proofs.Common.{◌≡◌, ap, sym, ◌∙◌, Some, None, is_some, cond, subst, arith}
use Rattle.std.specs.Option.{option_copied_mut}
use Rattle.std.specs.Map.{lookup}
use Rattle.std.specs.Str.{bytes_eq}
use Rattle.hx_model.proofs.Climbing.{same_itself}
use Rattle.hx_forest.specs.Children.{others_of, Fits}
use Rattle.hx_forest.proofs.Indexing.{no_list, still_full}
use Rattle.hx_forest.proofs.children.Children.unlink_other.Goals as goal

pub returns-in_default-clause-list : goal.returns-in_default-clause-list
returns-in_default-clause-list c =
    let old = c.args.self.now in
    let none : others_of old c.args.parent.now ≡ None = sym c.get_mut.ensures.value ∙ ap option_copied_mut c.in_default.is in
    no_list (others_of old) (others_of (record old { others = c.get_mut.follows.lender-at-none })) c.args.parent.now c.args.child.now (λ q. ap (λ m. lookup (bytes_eq q) m.entries) c.get_mut.follows.holds-at-none) none

pub returns-else-is_empty-clause-fits : goal.returns-else-is_empty-clause-fits
returns-else-is_empty-clause-fits c = λ k fits.
    let p = c.args.parent.now in
    let names = c.in-Some.names.now in
    let found : others_of c.args.self.now p ≡ Some names = sym c.get_mut.ensures.value ∙ ap option_copied_mut c.in-Some.is in
    let updates = (c.get_mut.follows.holds c.remove.new.self).3 (ap is_some found) in
    let new : lookup (bytes_eq p) (c.get_mut.follows.lender c.remove.new.self).entries ≡ Some c.remove.new.self = updates.0 p ∙ ap (λ b. cond b (Some c.remove.new.self) (others_of c.args.self.now p)) (same_itself p) in
    subst (Fits k) (sym new) (λ full.
    let few = (subst (Fits k) found fits) (still_full names.names c.remove.new.self.names c.args.child.now c.remove.ensures.members full) in
    omega (arith, few, c.remove.ensures.spare))
