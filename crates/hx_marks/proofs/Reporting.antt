-- Reports: when they want the same in two states, and which keys are theirs.
--     silent_report       one that doesn't, before and after, wants nothing
--     same_report         where all that it tells stays, and what lies there, so does the key
--     conditions_same     what is told stays, where why it is halted stays, and what it is, and who is there and has anchors
--     report_among        the report of such a namespace is among those of some names
--     reports_known       what is among them
--     report_key, reports_key   these are keys of the state
use Rattle.std.proofs.Common.{◌≡◌, ℕ, true, false, not, ◌&&◌, Option, Some, None, option_map, List, [], ◌∷◌, inl, inr, refl, sym, ap, ◌∙◌, true≢false}
use Rattle.std.specs.Prelude.{if◌then◌else◌, is_none, is_some}
use Rattle.std.specs.Option.{option_map_or}
use Rattle.std.proofs.lemmas.Bool.{and_parts, or_cases, or_left}
use Rattle.std.proofs.lemmas.List.{append-nil}
use Rattle.hx_object.specs.declared.kind.Kind.TheVariants.{SubnamespaceAnchor}
use Rattle.hx_object.specs.declared.object.Condition.{Condition}
use Rattle.hx_object.specs.declared.object.Object.{Object}
use Rattle.hx_model.specs.Covered.{IsSameFor}
use Rattle.hx_model.specs.Forest.{Forest, children_of, halt_of, is_excluded, is_in, is_live, is_there, node_of}
use Rattle.hx_model.specs.Keys.{same_key, has_named, is_among, is_key}
use Rattle.hx_model.specs.Moves.{is_eligible}
use Rattle.hx_model.specs.Reports.{conditions_by, conditions_of, misses_anchor, report_write}
use Rattle.hx_model.specs.State.{State, object_at, namespace_id}
use Rattle.hx_model.specs.Subnamespaces.{anchor_id}
use Rattle.hx_model.specs.Tree.{forest_of, hierarchy_id, subnamespace_parent}
use Rattle.hx_model.specs.Wanted.{wanted_report}
use Rattle.hx_model.specs.declared.key.Key.{Key}
use Rattle.hx_model.specs.declared.key.Key.TheVariants as key
use Rattle.hx_model.specs.declared.node.Node.{Node}
use Rattle.hx_marks.specs.Reports.{report_keys, reports_of}
use Rattle.hx_marks.proofs.Among.{same_key_is, among_here, among_cond, among_flat_map, found_name, passing_name}
use Rattle.hx_marks.proofs.Frames.{none_in_both, same_in_both}

-- ---- what a report wants

silent : (found : Option Object) (children : List (List ℕ)) (conditions : List Condition) (n : List ℕ) → report_write false found children conditions n ≡ None
silent None children conditions n = refl
silent (Some x) children conditions n = refl

pub silent_wants : (s : State) (m : List ℕ) → is_eligible (forest_of s) m ≡ false → wanted_report s m ≡ None
silent_wants s m out =
    ap (λ b. report_write b (object_at s.objects (hierarchy_id m)) (children_of (forest_of s) m) (conditions_of s m) m) out
    ∙ silent (object_at s.objects (hierarchy_id m)) (children_of (forest_of s) m) (conditions_of s m) m

-- where its namespace takes none, before and after
pub silent_report : (s t : State) (m : List ℕ) → is_eligible (forest_of s) m ≡ false → is_eligible (forest_of t) m ≡ false → IsSameFor s t (key.Report m)
silent_report s t m before after = none_in_both s t (key.Report m) (silent_wants s m before) (silent_wants t m after)

-- where all that is looked at stays
pub same_report : (s t : State) (m : List ℕ) → is_eligible (forest_of t) m ≡ is_eligible (forest_of s) m → object_at t.objects (hierarchy_id m) ≡ object_at s.objects (hierarchy_id m) → object_at t.objects (namespace_id m) ≡ object_at s.objects (namespace_id m)
    → children_of (forest_of t) m ≡ children_of (forest_of s) m → conditions_of t m ≡ conditions_of s m → IsSameFor s t (key.Report m)
same_report s t m eligible found home children conditions =
    same_in_both s t (key.Report m)
    (λ i. report_write (sym eligible i) (sym found i) (sym children i) (sym conditions i) m)
    (λ i. (record { id = hierarchy_id m; version = option_version (sym found i) }) ∷ (record { id = namespace_id m; version = option_version (sym home i) }) ∷ [])
  where
    option_version : Option Object → Option ℕ
    option_version o = option_map (λ (x : Object). x.version) o

-- why it is halted and what it is stay, and for each parent whether it is there and has the anchor
pub conditions_same : (s t : State) (m : List ℕ) → halt_of (forest_of t) m ≡ halt_of (forest_of s) m → object_at t.objects (namespace_id m) ≡ object_at s.objects (namespace_id m)
    → ((p : List ℕ) → is_some (object_at t.objects (namespace_id p)) ≡ is_some (object_at s.objects (namespace_id p))) → ((p : List ℕ) → is_none (object_at t.objects (anchor_id p m)) ≡ is_none (object_at s.objects (anchor_id p m)))
    → conditions_of t m ≡ conditions_of s m
conditions_same s t m halts home names anchors =
    (λ i. conditions_by (halts i) (option_map_or (misses_anchor t.objects m) (home i) false)) ∙ ap (conditions_by (halt_of (forest_of s) m)) (by (object_at s.objects (namespace_id m)))
  where
    by : (o : Option Object) → option_map_or (misses_anchor t.objects m) o false ≡ option_map_or (misses_anchor s.objects m) o false
    by None = refl
    by (Some x) = parent (subnamespace_parent x)
      where
        parent : (o : Option (List ℕ)) → option_map_or (λ p. is_some (object_at t.objects (namespace_id p)) && is_none (object_at t.objects (anchor_id p m))) o false
            ≡ option_map_or (λ p. is_some (object_at s.objects (namespace_id p)) && is_none (object_at s.objects (anchor_id p m))) o false
        parent None = refl
        parent (Some p) = λ i. names p i && anchors p i

-- ---- keys of reports

-- the report of one that takes them is among its own
pub own_report : (f : Forest) (m : List ℕ) → is_eligible f m ≡ true → is_among (key.Report m) (report_keys f m) ≡ true
own_report f m eligible = ap (λ b. is_among (key.Report m) (if b then key.Report m ∷ [] else [])) eligible ∙ among_here (key.Report m) []

pub report_among : (f : Forest) (names : List (List ℕ)) (m : List ℕ) → is_eligible f m ≡ true → is_in m names ≡ true → is_among (key.Report m) (reports_of f names) ≡ true
report_among f names m eligible mem =
    among_flat_map (key.Report m) (report_keys f) names
    ∙ passing_name (λ n. is_among (key.Report m) (report_keys f n)) m names mem (own_report f m eligible)

-- what is among them is the report of one of the names, which takes reports
pub reports_known : (f : Forest) (names : List (List ℕ)) (k : Key) → is_among k (reports_of f names) ≡ true → (m : List ℕ) × (k ≡ key.Report m) × (is_eligible f m ≡ true) × (is_in m names ≡ true)
reports_known f names k mem =
    let found = found_name (λ n. is_among k (report_keys f n)) names (sym (among_flat_map k (report_keys f) names) ∙ mem) in
    let parts = and_parts (is_eligible f found.0) _ (sym (among_cond k (is_eligible f found.0) (key.Report found.0 ∷ [])) ∙ found.2) in
    (found.0, only found.0 parts.1, parts.0, found.1)
  where
    only : (m : List ℕ) → is_among k (key.Report m ∷ []) ≡ true → k ≡ key.Report m
    only m h = elim (or_cases (same_key k (key.Report m)) false h) [
      | inl same ↦ same_key_is k (key.Report m) same
      | inr never ↦ absurd (true≢false (sym never))
    ]

-- a namespace that takes reports is there
pub eligible_there : (f : Forest) (m : List ℕ) → is_eligible f m ≡ true → is_there f m ≡ true
eligible_there f m eligible = by (node_of f m) (and_parts (is_live f m) (not (is_excluded f m)) eligible).0
  where
    by : (o : Option Node) → option_map_or (λ (node : Node). not node.terminating) o false ≡ true → is_some o ≡ true
    by None e = absurd (true≢false (sym e))
    by (Some node) e = refl

pub reports_key : (s : State) (names : List (List ℕ)) (k : Key) → is_among k (reports_of (forest_of s) names) ≡ true → is_key s k ≡ true
reports_key s names k mem =
    let found = reports_known (forest_of s) names k mem in
    ap (is_key s) found.1 ∙ or_left (is_there (forest_of s) found.0) (has_named s.objects SubnamespaceAnchor found.0) (eligible_there (forest_of s) found.0 found.2)

pub report_key : (s : State) (n : List ℕ) (k : Key) → is_among k (report_keys (forest_of s) n) ≡ true → is_key s k ≡ true
report_key s n k mem = reports_key s (n ∷ []) k (ap (is_among k) (append-nil (report_keys (forest_of s) n)) ∙ mem)
