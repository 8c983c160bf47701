-- The reports that change where namespaces begin to leave, and anchors go.
--     near_reports             its own, and those of its children
--     near_own, near_child     they are marked where they take reports
--     ending_open              so are those of what took part below it
--     anchored_own                             so is that of a namespace whose anchor goes
--     ending_reports_key, anchored_key         only keys of the state are marked so
use Rattle.std.proofs.Common.{◌≡◌, ℕ, true, false, ◌||◌, Option, Some, None, List, [], ◌∷◌, ◌++◌, inl, inr, sym, ap, ◌∙◌}
use Rattle.std.specs.Prelude.{if◌then◌else◌}
use Rattle.std.specs.Option.{option_map_or}
use Rattle.std.specs.Str.{bytes_eq}
use Rattle.std.proofs.lemmas.Bool.{and_parts, or_cases, or_left, or_right}
use Rattle.hx_object.specs.declared.kind.Kind.TheVariants.{SubnamespaceAnchor}
use Rattle.hx_object.specs.declared.object.Id.{Id}
use Rattle.hx_object.specs.declared.object.Object.{Object}
use Rattle.hx_model.specs.Answers.{owns_named}
use Rattle.hx_model.specs.Cases.{same_name}
use Rattle.hx_model.specs.Forest.{Forest, is_in, is_there, parent_of, children_of, in_chain}
use Rattle.hx_model.specs.Keys.{is_among, has_named, is_key}
use Rattle.hx_model.specs.Moves.{is_eligible}
use Rattle.hx_model.specs.State.{State, object_at, namespace_id}
use Rattle.hx_model.specs.Subnamespaces.{anchor_id, is_owned_by}
use Rattle.hx_model.specs.Tree.{forest_of, subnamespace_parent}
use Rattle.hx_model.specs.TreeLabels.{is_open}
use Rattle.hx_model.specs.declared.key.Key.{Key}
use Rattle.hx_model.specs.declared.key.Key.TheVariants as key
use Rattle.hx_model.proofs.Climbing.{same_itself}
use Rattle.hx_forest.proofs.Changing.{children_has}
use Rattle.hx_marks.specs.Below.{open_below}
use Rattle.hx_marks.specs.Reports.{report_keys, reports_of, ending_reports, anchored_reports}
use Rattle.hx_marks.proofs.Among.{among_append, among_cond, among_here}
use Rattle.hx_marks.proofs.EndingHalting.{eligible_is_there}
use Rattle.hx_marks.proofs.OpenBelow.{in_open_below}
use Rattle.hx_marks.proofs.Reporting.{report_among, reports_known}

-- ---- what is marked

own_among : (f : Forest) (m : List ℕ) → is_eligible f m ≡ true → is_among (key.Report m) (report_keys f m) ≡ true
own_among f m eligible = ap (λ b. is_among (key.Report m) (if b then key.Report m ∷ [] else [])) eligible ∙ among_here (key.Report m) []

-- its own, or one of the others
ending_parts : (f : Forest) (a : List ℕ) (k : Key) → is_among k (ending_reports f a) ≡ (is_among k (report_keys f a) || (is_among k (reports_of f (children_of f a)) || is_among k (reports_of f (open_below f a))))
ending_parts f a k =
    among_append k (report_keys f a) (reports_of f (children_of f a) ++ reports_of f (open_below f a))
    ∙ ap (λ b. is_among k (report_keys f a) || b) (among_append k (reports_of f (children_of f a)) (reports_of f (open_below f a)))

-- its own, and those of its children
abbrev pub near_reports : Forest → List ℕ → List Key
near_reports f a = report_keys f a ++ reports_of f (children_of f a)

pub near_own : (f : Forest) (a : List ℕ) → is_eligible f a ≡ true → is_among (key.Report a) (near_reports f a) ≡ true
near_own f a eligible = among_append (key.Report a) (report_keys f a) (reports_of f (children_of f a)) ∙ or_left (is_among (key.Report a) (report_keys f a)) _ (own_among f a eligible)

pub near_child : (f : Forest) (a m : List ℕ) → is_eligible f m ≡ true → parent_of f m ≡ Some a → is_among (key.Report m) (near_reports f a) ≡ true
near_child f a m eligible under =
    let mem : is_in m (children_of f a) ≡ true = children_has f a m ∙ ap (λ o. option_map_or (bytes_eq a) o false) under ∙ same_itself a in
    among_append (key.Report m) (report_keys f a) (reports_of f (children_of f a))
    ∙ or_right (is_among (key.Report m) (report_keys f a)) _ (report_among f (children_of f a) m eligible mem)

pub ending_open : (f : Forest) (a m : List ℕ) → is_eligible f m ≡ true → is_open f m ≡ true → in_chain f m a ≡ true → is_among (key.Report m) (ending_reports f a) ≡ true
ending_open f a m eligible acts over =
    ending_parts f a (key.Report m)
    ∙ or_right (is_among (key.Report m) (report_keys f a)) _
    (or_right (is_among (key.Report m) (reports_of f (children_of f a))) _ (report_among f (open_below f a) m eligible (in_open_below f a m acts over)))

-- the anchor of m in p goes, where m names p by its annotation
pub anchored_own : (s : State) (p m : List ℕ) (x a : Object) → object_at s.objects (namespace_id m) ≡ Some x → subnamespace_parent x ≡ Some p → object_at s.objects (anchor_id p m) ≡ Some a → is_eligible (forest_of s) m ≡ true
    → is_among (key.Report m) (anchored_reports s (anchor_id p m) (object_at s.objects (anchor_id p m)) None) ≡ true
anchored_own s p m x a there named held eligible =
    let owns : owns_named s (anchor_id p m) ≡ true = ap (λ o. option_map_or (is_owned_by p) o false) there ∙ ap (λ o. same_name o (Some p)) named ∙ same_itself p in
    ap (λ o. is_among (key.Report m) (anchored_reports s (anchor_id p m) o None)) held
    ∙ ap (λ b. is_among (key.Report m) (if b then report_keys (forest_of s) m else [])) owns
    ∙ own_among (forest_of s) m eligible

-- ---- keys of the state

-- the reports of some namespaces
reported_key : (s : State) (names : List (List ℕ)) (k : Key) → is_among k (reports_of (forest_of s) names) ≡ true → is_key s k ≡ true
reported_key s names k mem =
    let (m, is, eligible, within) = reports_known (forest_of s) names k mem in
    ap (is_key s) is ∙ or_left (is_there (forest_of s) m) (has_named s.objects SubnamespaceAnchor m) (eligible_is_there (forest_of s) m eligible)

own_key : (s : State) (n : List ℕ) (k : Key) → is_among k (report_keys (forest_of s) n) ≡ true → is_key s k ≡ true
own_key s n k mem = reported_key s (n ∷ []) k (among_append k (report_keys (forest_of s) n) [] ∙ or_left (is_among k (report_keys (forest_of s) n)) false mem)

pub ending_reports_key : (s : State) (n : List ℕ) (k : Key) → is_among k (ending_reports (forest_of s) n) ≡ true → is_key s k ≡ true
ending_reports_key s n k mem =
    let f = forest_of s in
    elim (or_cases (is_among k (report_keys f n)) _ (sym (ending_parts f n k) ∙ mem)) [
      | inl own ↦ own_key s n k own
      | inr others ↦ elim (or_cases (is_among k (reports_of f (children_of f n))) (is_among k (reports_of f (open_below f n))) others) [
        | inl child ↦ reported_key s (children_of f n) k child
        | inr below ↦ reported_key s (open_below f n) k below
      ]
    ]

pub anchored_key : (s : State) (id : Id) (old new : Option Object) (k : Key) → is_among k (anchored_reports s id old new) ≡ true → is_key s k ≡ true
anchored_key s id old new k mem = own_key s id.name k (and_parts _ (is_among k (report_keys (forest_of s) id.name)) (sym (among_cond k _ (report_keys (forest_of s) id.name)) ∙ mem)).1
