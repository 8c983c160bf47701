-- The keys that want a write are keys of the state.
--     name_key       a name of a namespace that is there is one of the state
--     wanted_key     each key that wants a write is one
use Rattle.std.proofs.Common.{◌≡◌, ◌≢◌, ℕ, true, None, List}
use Rattle.std.proofs.lemmas.Bool.{or_left}
use Rattle.hx_object.specs.declared.kind.Kind.TheVariants.{SubnamespaceAnchor}
use Rattle.hx_model.specs.Forest.{is_there, chain_of}
use Rattle.hx_model.specs.Keys.{is_among, has_named, is_name, is_key}
use Rattle.hx_model.specs.State.{State}
use Rattle.hx_model.specs.Tree.{forest_of}
use Rattle.hx_model.specs.TreeLabels.{is_open}
use Rattle.hx_model.specs.Wanted.{wanted_write}
use Rattle.hx_model.specs.declared.key.Key.{Key}
use Rattle.hx_model.specs.declared.key.Key.TheVariants as key
use Rattle.hx_marks.specs.Law.{all_of}
use Rattle.hx_marks.proofs.OpenBelow.{open_is_there}
use Rattle.hx_marks.proofs.Reporting.{eligible_there}
use Rattle.hx_marks.proofs.UsageKeys.{usage_is_key}
use Rattle.hx_marks.proofs.Wanting.{all_known}
use Rattle.hx_marks.proofs.Within.{all_keys, leaving_there, status_key}

-- a namespace that is there has the name
name_key : (s : State) (n : List ℕ) → is_there (forest_of s) n ≡ true → is_name s n ≡ true
name_key s n there = or_left (is_there (forest_of s) n) (has_named s.objects SubnamespaceAnchor n) there

-- so has one that takes part
taking_key : (s : State) (k : Key) → (m : List ℕ) × (is_open (forest_of s) m ≡ true) × (is_among k (all_of s.objects (chain_of (forest_of s) m) m) ≡ true) → is_key s k ≡ true
taking_key s k (m, acts, among) = all_keys s (chain_of (forest_of s) m) m k (name_key s m (open_is_there (forest_of s) m acts)) among

-- a key that wants a write
pub wanted_key : (s : State) (k : Key) → wanted_write s k ≢ None → is_key s k ≡ true
wanted_key s (key.Copy n kind name) wants = taking_key s (key.Copy n kind name) (all_known s (key.Copy n kind name) wants)
wanted_key s (key.Tree n) wants = taking_key s (key.Tree n) (all_known s (key.Tree n) wants)
wanted_key s (key.Child n name) wants = taking_key s (key.Child n name) (all_known s (key.Child n name) wants)
wanted_key s (key.Report n) wants = name_key s n (eligible_there (forest_of s) n (all_known s (key.Report n) wants))
wanted_key s (key.Anchor n name) wants = status_key s n (key.Anchor n name) (all_known s (key.Anchor n name) wants).1
wanted_key s (key.Used n name) wants = usage_is_key s n (key.Used n name) (all_known s (key.Used n name) wants).1
wanted_key s (key.Purge n) wants = name_key s n (leaving_there (forest_of s) n (all_known s (key.Purge n) wants))
