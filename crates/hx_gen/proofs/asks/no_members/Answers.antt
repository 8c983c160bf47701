use Rattle.std.proofs.Common.{rules, refl}
use Rattle.serde_json.specs.Data.{no_members}
use Rattle.hx_gen.proofs.asks.no_members.Goals as goal
use Prim.{search}

pub new-members-requires : goal.new-members-requires
new-members-requires c = record { whole = no_members; text = c.in_ok-text.ensures; canonical = search rules; shallow = search rules; api_version = refl; kind = refl; metadata = refl }
