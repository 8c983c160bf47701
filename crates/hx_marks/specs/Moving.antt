-- A namespace gets another parent.
--     moved_marks_to s n old new   all that it then marks: its own keys first, then reports, then quotas
use Rattle.std.specs.Prelude.{ℕ, List, ◌++◌, Option}
use Rattle.hx_model.specs.Forest.{chain_of, tail_of}
use Rattle.hx_model.specs.Moves.{chain_from, up_to}
use Rattle.hx_model.specs.State.{State}
use Rattle.hx_model.specs.Tree.{forest_of}
use Rattle.hx_model.specs.TreeLabels.{is_open}
use Rattle.hx_model.specs.declared.key.Key.{Key}
use Rattle.hx_marks.specs.Before.{opens_under}
use Rattle.hx_marks.specs.Below.{in_one}
use Rattle.hx_marks.specs.Law.{leaving_keys, moved_by}
use Rattle.hx_marks.specs.Reports.{moved_reports}
use Rattle.hx_marks.specs.Usage.{usage_of}

abbrev pub moved_marks_to : State → List ℕ → Option (List ℕ) → Option (List ℕ) → List Key
moved_marks_to s n old new =
    (moved_by s n old new (is_open (forest_of s) n) (opens_under (forest_of s) n new) ++ leaving_keys (forest_of s) n)
    ++ (moved_reports (forest_of s) n old new (is_open (forest_of s) n) (opens_under (forest_of s) n new) ++ usage_of s.objects (in_one (tail_of (chain_of (forest_of s) n)) (up_to n (chain_from (forest_of s) new))))
