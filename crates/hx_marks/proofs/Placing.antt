-- What a namespace marks that is given a parent.
--     stays, goes   the one that it has;  another one
use Rattle.std.proofs.Common.{◌≡◌, ℕ, true, false, Option, List, [], ◌++◌, sym, ap, ◌∙◌, append-nil, if◌then◌else◌}
use Rattle.hx_model.specs.Cases.{same_name}
use Rattle.hx_model.specs.Forest.{parent_of, chain_of, tail_of}
use Rattle.hx_model.specs.Moves.{chain_from, up_to}
use Rattle.hx_model.specs.State.{State}
use Rattle.hx_model.specs.Tree.{forest_of}
use Rattle.hx_model.specs.TreeLabels.{is_open}
use Rattle.hx_model.specs.declared.key.Key.{Key}
use Rattle.hx_marks.specs.Before.{move_marks_to, opens_under, place_reports_to}
use Rattle.hx_marks.specs.Below.{in_one}
use Rattle.hx_marks.specs.Law.{leaving_keys, moved_by}
use Rattle.hx_marks.specs.Moving.{moved_marks_to}
use Rattle.hx_marks.specs.Reports.{moved_reports, report_keys}
use Rattle.hx_marks.specs.Usage.{moved_usage, usage_of}

-- what another parent marks: keys of its own, reports, and quotas
abbrev moves : State → List ℕ → Option (List ℕ) → List Key
moves s n parent = moved_by s n (parent_of (forest_of s) n) parent (is_open (forest_of s) n) (opens_under (forest_of s) n parent)

abbrev told : State → List ℕ → Option (List ℕ) → List Key
told s n parent = moved_reports (forest_of s) n (parent_of (forest_of s) n) parent (is_open (forest_of s) n) (opens_under (forest_of s) n parent)

abbrev used : State → List ℕ → Option (List ℕ) → List Key
used s n parent = usage_of s.objects (in_one (tail_of (chain_of (forest_of s) n)) (up_to n (chain_from (forest_of s) parent)))

pub stays : (s : State) (n : List ℕ) (parent : Option (List ℕ)) → same_name (parent_of (forest_of s) n) parent ≡ true
    → leaving_keys (forest_of s) n ++ report_keys (forest_of s) n ≡ (move_marks_to s n parent ++ leaving_keys (forest_of s) n) ++ (place_reports_to s n parent ++ moved_usage s n parent)
stays s n parent same =
    sym (
    (λ i. ((if same i then [] else moves s n parent) ++ leaving_keys (forest_of s) n) ++ ((if same i then report_keys (forest_of s) n else told s n parent) ++ (if same i then [] else used s n parent)))
    ∙ ap (λ (keys : List Key). leaving_keys (forest_of s) n ++ keys) (append-nil (report_keys (forest_of s) n)))

pub goes : (s : State) (n : List ℕ) (parent old : Option (List ℕ)) → old ≡ parent_of (forest_of s) n → same_name (parent_of (forest_of s) n) parent ≡ false
    → moved_marks_to s n old parent ≡ (move_marks_to s n parent ++ leaving_keys (forest_of s) n) ++ (place_reports_to s n parent ++ moved_usage s n parent)
goes s n parent old is other =
    ap (λ (o : Option (List ℕ)). moved_marks_to s n o parent) is
    ∙ sym (λ i. ((if other i then [] else moves s n parent) ++ leaving_keys (forest_of s) n) ++ ((if other i then report_keys (forest_of s) n else told s n parent) ++ (if other i then [] else used s n parent)))
