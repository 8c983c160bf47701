use Rattle.std.proofs.Common.{Option, List, ℕ, true, is_some, option_copied, ap, sym, subst, ◌≡◌, ◌∙◌}
use Rattle.std.specs.Prelude.{IfSome}
use Rattle.hx_quota.specs.Counters.{entry_of}
use Rattle.hx_quota.specs.Inside.{ordered}
use Rattle.hx_quota.proofs.Reached.{found_name}
use Rattle.hx_quota.proofs.climbing.index_from.Goals as goal

pub returns-in-Some-clause-name : goal.returns-in-Some-clause-name
returns-in-Some-clause-name c =
    let places = c.args.places.now.entries in
    let given = ap option_copied c.in-Some.is in
    found_name places c.in-Some.name.now c.index_near.result (subst (λ (o : Option (List ℕ)). IfSome o (λ n. is_some (entry_of (ordered places) n) ≡ true)) given c.requires) c.index_near.ensures.place ∙ sym given
