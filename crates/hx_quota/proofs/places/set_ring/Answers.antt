use Rattle.std.proofs.Common.{List, ℕ, sym, subst}
use Rattle.std.specs.List.{IsDistinct}
use Rattle.std.specs.Str.{bytes_eq}
use Rattle.hx_quota.specs.Inside.{entries_in}
use Rattle.hx_quota.specs.Anew.{named}
use Rattle.hx_quota.proofs.Placed.{same_keys}
use Rattle.hx_quota.proofs.Reached.{lies_at}
use Rattle.hx_quota.proofs.places.set_ring.Goals as goal

pub returns-clause-rings : goal.returns-clause-rings
returns-clause-rings c =
    let places = c.args.places.now.entries in
    c.set_ring.ensures.rings (named (entries_in places) c.args.at) (lies_at places (subst (λ (ks : List (List ℕ)). IsDistinct bytes_eq ks) (sym (same_keys places)) c.set_ring.ensures.distinct) c.args.at c.requires.within)
