use Rattle.std.proofs.Common.{◌<◌, None, List, ℕ, sym, subst, ◌∙◌}
use Rattle.std.specs.Prelude.{IfSome}
use Rattle.hx_quota.specs.Counters.{with_parent}
use Rattle.hx_quota.specs.Inside.{entries_in, entries_of, IsParted}
use Rattle.hx_quota.specs.Anew.{name_from, named}
use Rattle.hx_quota.proofs.Fitting.{fits_moved}
use Rattle.hx_quota.proofs.Keeping.{parent_over}
use Rattle.hx_quota.proofs.Opened.{names_from, same_named, same_long}
use Rattle.hx_quota.proofs.ledger.Ledger.move_at.Goals as goal

pub join-requires-clause-within : goal.join-requires-clause-within
join-requires-clause-within c = subst (λ (k : ℕ). c.args.at < k) (sym (same_long c.part.new.self.places.entries c.args.self.now.places.entries c.part.ensures.names)) c.requires.within

pub join-requires-clause-given : goal.join-requires-clause-given
join-requires-clause-given c = subst (λ (k : ℕ). IfSome c.args.up (λ i. i < k)) (sym (same_long c.part.new.self.places.entries c.args.self.now.places.entries c.part.ensures.names)) c.requires.given

pub join-requires-clause-free : goal.join-requires-clause-free
join-requires-clause-free c = subst (λ (n : List ℕ). IsParted c.part.new.self n) (sym (same_named c.part.new.self.places.entries c.args.self.now.places.entries c.part.ensures.names c.args.at)) c.part.ensures.free

pub join-requires-clause-fits : goal.join-requires-clause-fits
join-requires-clause-fits c = fits_moved (entries_of c.args.self.now) (entries_of c.part.new.self) (named (entries_in c.args.self.now.places.entries) c.args.at) None c.part.ensures.entries c.requires.fits

pub returns-clause-entries : goal.returns-clause-entries
returns-clause-entries c =
    let old = c.args.self.now.places.entries in
    let mid = c.part.new.self.places.entries in
    let name = same_named mid old c.part.ensures.names c.args.at in
    let parent = names_from mid old c.part.ensures.names c.args.up in
    c.join.ensures.entries ∙ (λ i. with_parent (name i) (parent i) (c.part.ensures.entries i))
    ∙ parent_over (named (entries_in old) c.args.at) (name_from (entries_in old) c.args.up) None (entries_of c.args.self.now)
