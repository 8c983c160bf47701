use Rattle.std.proofs.Common.{List, ℕ, sym, subst}
use Rattle.std.specs.List.{IsDistinct}
use Rattle.std.specs.Str.{bytes_eq}
use Rattle.hx_quota.proofs.Placed.{same_keys}
use Rattle.hx_quota.proofs.Stepping.{up_name, up_chain, up_walks}
use Rattle.hx_quota.proofs.climbing.parent_index.Goals as goal

pub returns-clause-name : goal.returns-clause-name
returns-clause-name c = up_name c.args.places.now.entries c.args.at c.up_at.result c.up_at.ensures.distinct c.up_at.ensures.up

pub returns-clause-chain : goal.returns-clause-chain
returns-clause-chain c = up_chain c.args.places.now.entries c.args.at c.up_at.result c.up_at.ensures.distinct c.up_at.ensures.up

pub returns-clause-walks : goal.returns-clause-walks
returns-clause-walks c = up_walks c.args.places.now.entries c.args.at c.up_at.result c.up_at.ensures.distinct c.up_at.ensures.up

pub returns-clause-distinct : goal.returns-clause-distinct
returns-clause-distinct c = subst (λ (ks : List (List ℕ)). IsDistinct bytes_eq ks) (sym (same_keys c.args.places.now.entries)) c.up_at.ensures.distinct
