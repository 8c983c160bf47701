-- Namespaces begin to leave, and anchors go: what quotas tell stays, but for those of these namespaces, which are marked.
--     begun_stays          a namespace that begins to leave keeps its place
--     ended_keeps          the tree stays, but for who is on its way out
--     usage_of_ended       a quota that isn't marked tells the same in the state that such writes leave
--     following_usage      the quotas of a namespace are among what it marks itself
use Rattle.std.proofs.Common.{◌≡◌, ℕ, true, false, List, [], ◌∷◌, ◌++◌, inl, inr, sym, ◌∙◌, true≢false}
use Rattle.std.specs.List.{AllByRecursion}
use Rattle.std.proofs.lemmas.Bool.{or_left, or_right, false_from_ne_true}
use Rattle.hx_model.specs.Covered.{IsSameFor}
use Rattle.hx_model.specs.Forest.{children_of}
use Rattle.hx_model.specs.Keys.{is_among}
use Rattle.hx_model.specs.Serving.{IsServed}
use Rattle.hx_model.specs.State.{State, ascends}
use Rattle.hx_model.specs.Tree.{forest_of}
use Rattle.hx_model.specs.declared.key.Key.{Key}
use Rattle.hx_model.specs.declared.key.Key.TheVariants as key
use Rattle.hx_marks.specs.Law.{status_keys, following_marks}
use Rattle.hx_marks.specs.Reports.{report_keys, reports_of}
use Rattle.hx_marks.specs.Usage.{usage_keys}
use Rattle.hx_marks.proofs.Among.{among_append}
use Rattle.hx_marks.proofs.EndingWrites.{HasBegun, HasEnded}
use Rattle.hx_marks.proofs.KeptTree.{StaysThere, KeepsTree}
use Rattle.hx_marks.proofs.UsageFrames.{keeps_used, left_used}

-- the quotas of a namespace are among what it marks itself
pub following_usage : (s : State) (n : List ℕ) (k : Key) → is_among k (usage_keys s.objects n) ≡ true → is_among k (following_marks s n) ≡ true
following_usage s n k mem =
    let reports : List Key = report_keys (forest_of s) n ++ reports_of (forest_of s) (children_of (forest_of s) n) in
    let own : List Key = usage_keys s.objects n ++ key.Purge n ∷ [] in
    among_append k (status_keys s.objects n ++ own) reports
    ∙ or_left (is_among k (status_keys s.objects n ++ own)) (is_among k reports)
    (among_append k (status_keys s.objects n) own
    ∙ or_right (is_among k (status_keys s.objects n)) (is_among k own)
    (among_append k (usage_keys s.objects n) (key.Purge n ∷ []) ∙ or_left (is_among k (usage_keys s.objects n)) (is_among k (key.Purge n ∷ [])) mem))

-- one that begins to leave keeps its place
abbrev pub begun_stays : (s t : State) (names : List (List ℕ)) (keys : List Key) (m : List ℕ) → HasBegun s t names keys m → StaysThere s t m
begun_stays s t names keys m begun = record { old = begun.old; new = begun.new; before = begun.there; after = begun.ends; keeps = record { annotation = begun.annotation; phase = λ was. begun.leaves } }

module _ (s t : State) (names : List (List ℕ)) (keys : List Key) (before : AllByRecursion IsServed s.objects) (up : ascends s.objects ≡ true) (has : HasEnded s t names keys) where
  pub ended_keeps : KeepsTree s t
  ended_keeps = record {
    excluded = has.excluded;
    served = before;
    serves = has.served;
    up = up;
    ascending = has.ascending;
    others = has.others;
    homes = λ m. elim (has.homes m) [ inl same ↦ inl same | inr begun ↦ inr (begun_stays s t names keys m begun) ];
  }

  pub usage_of_ended : (n name : List ℕ) → is_among (key.Used n name) keys ≡ false → IsSameFor s t (key.Used n name)
  usage_of_ended n name out = elim (has.homes n) [
    | inl home ↦ keeps_used s t ended_keeps n name home
    | inr begun ↦
        left_used s t ended_keeps n name
        (false_from_ne_true (is_among (key.Used n name) (usage_keys s.objects n)) (λ mem. true≢false (sym (begun.own (key.Used n name) (following_usage s n (key.Used n name) mem)) ∙ out)))
  ]
