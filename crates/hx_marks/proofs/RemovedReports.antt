-- Reports where a namespace goes: the state s has one namespace n more than t, which isn't live.
--     report_gone       the report that isn't marked wants what it wanted
--     gone_within       only keys of the state before are marked
use Rattle.std.proofs.Common.{◌≡◌, ℕ, true, false, ◌&&◌, ◌||◌, List, [], ◌++◌, sym, ap, ◌∙◌, subst, inl, inr, true≢false}
use Rattle.std.specs.Prelude.{if◌then◌else◌}
use Rattle.std.specs.Str.{bytes_eq}
use Rattle.std.proofs.lemmas.Bool.{and_parts, and_from, or_cases, or_left, cases_Bool, false_from_ne_true}
use Rattle.hx_object.specs.declared.kind.Kind.TheVariants.{SubnamespaceAnchor}
use Rattle.hx_model.specs.Covered.{IsSameFor}
use Rattle.hx_model.specs.Forest.{Forest, is_in, is_there, is_live, names_of, parent_of, chain_of, in_chain, comes_back, children_of, is_child, halt_of}
use Rattle.hx_model.specs.Keys.{is_among, has_named, is_key}
use Rattle.hx_model.specs.Moves.{is_eligible}
use Rattle.hx_model.specs.Propagation.{as_list}
use Rattle.hx_model.specs.State.{State}
use Rattle.hx_model.specs.Tree.{forest_of}
use Rattle.hx_model.specs.declared.key.Key.{Key}
use Rattle.hx_model.specs.declared.key.Key.TheVariants as key
use Rattle.hx_model.proofs.Climbing.{is_same, same_itself}
use Rattle.hx_model.proofs.Opening.{not_live}
use Rattle.hx_model.proofs.Parents.{is_in_filter}
use Rattle.hx_model.proofs.Walking.{names_have}
use Rattle.hx_marks.specs.Reports.{reports_of, removed_reports}
use Rattle.hx_marks.proofs.Among.{among_append, among_cond, out_left, out_right}
use Rattle.hx_marks.proofs.Keeping.{turned}
use Rattle.hx_marks.proofs.OneMore.{HasOneMore, apart_report}
use Rattle.hx_marks.proofs.OneMoreHalting.{named, eligible_there, eligible_live, eligible_same, ring_back, halt_apart, halt_below}
use Rattle.hx_marks.proofs.Reporting.{silent_report, report_among, reports_known}

-- only keys of the state are marked
pub gone_within : (s : State) (n : List ℕ) (k : Key) → is_among k (removed_reports (forest_of s) n) ≡ true → is_key s k ≡ true
gone_within s n k mem = elim (or_cases (is_among k near) (is_among k (below ++ ring)) (sym (among_append k near (below ++ ring)) ∙ mem)) [
  | inl up ↦ known_name (as_list (parent_of f n)) up
  | inr rest ↦ elim (or_cases (is_among k below) (is_among k ring) (sym (among_append k below ring) ∙ rest)) [
    | inl down ↦ known_name (children_of f n) down
    | inr round ↦ known_name (chain_of f n) (and_parts (comes_back f n) _ (sym (among_cond k (comes_back f n) (reports_of f (chain_of f n))) ∙ round)).1
  ]
]
  where
    f : Forest
    f = forest_of s

    near : List Key
    near = reports_of (forest_of s) (as_list (parent_of (forest_of s) n))

    below : List Key
    below = reports_of (forest_of s) (children_of (forest_of s) n)

    ring : List Key
    ring = if comes_back (forest_of s) n then reports_of (forest_of s) (chain_of (forest_of s) n) else []

    known_name : (names : List (List ℕ)) → is_among k (reports_of (forest_of s) names) ≡ true → is_key s k ≡ true
    known_name names among =
        let known = reports_known (forest_of s) names k among in
        ap (is_key s) known.1 ∙ or_left (is_there (forest_of s) known.0) (has_named s.objects SubnamespaceAnchor known.0) (eligible_there (forest_of s) known.0 known.2)

module _ (s t : State) (n : List ℕ) (more : HasOneMore t s n) (dead : is_live (forest_of s) n ≡ false) where
  abbrev f : Forest
  f = forest_of s

  abbrev g : Forest
  g = forest_of t

  module _ (m : List ℕ) (out : is_among (key.Report m) (removed_reports f n) ≡ false) (off : bytes_eq n m ≡ false) (eligible_then : is_eligible g m ≡ true) where
    abbrev k : Key
    k = key.Report m

    eligible : is_eligible f m ≡ true
    eligible = eligible_same g f n more.made m off ∙ eligible_then

    there : is_there f m ≡ true
    there = eligible_there f m eligible

    abbrev near : List Key
    near = reports_of f (as_list (parent_of f n))

    abbrev below : List Key
    below = reports_of f (children_of f n)

    abbrev ring : List Key
    ring = if comes_back f n then reports_of f (chain_of f n) else []

    out_near : is_among k near ≡ false
    out_near = out_left (is_among k near) (is_among k (below ++ ring)) (sym (among_append k near (below ++ ring)) ∙ out)

    out_rest : (is_among k below || is_among k ring) ≡ false
    out_rest = sym (among_append k below ring) ∙ out_right (is_among k near) (is_among k (below ++ ring)) (sym (among_append k near (below ++ ring)) ∙ out)

    out_below : is_among k below ≡ false
    out_below = out_left (is_among k below) (is_among k ring) out_rest

    out_ring : (comes_back f n && is_among k (reports_of f (chain_of f n))) ≡ false
    out_ring = sym (among_cond k (comes_back f n) (reports_of f (chain_of f n))) ∙ out_right (is_among k below) (is_among k ring) out_rest

    -- it isn't the parent, which is marked
    no_parent_of : is_child f m n ≡ false
    no_parent_of = false_from_ne_true (is_child f m n) (λ h.
        let mem : is_in m (as_list (parent_of f n)) ≡ true = ap (λ o. is_in m (as_list o)) (named f m n h) ∙ or_left (bytes_eq m m) false (same_itself m) in
        true≢false (sym (report_among f (as_list (parent_of f n)) m eligible mem) ∙ out_near))

    -- nor a child
    no_child_of : is_child f n m ≡ false
    no_child_of = false_from_ne_true (is_child f n m) (λ h.
        let mem : is_in m (children_of f n) ≡ true = is_in_filter (is_child f n) m (names_of f) ∙ and_from (is_in m (names_of f)) (is_child f n m) (sym (names_have f m) ∙ there) h in
        true≢false (sym (report_among f (children_of f n) m eligible mem) ∙ out_below))

    -- nor one of its ring
    no_ring : in_chain f m n ≡ true → in_chain f n m ≡ false
    no_ring has = false_from_ne_true (in_chain f n m) (λ h.
        true≢false (sym (and_from (comes_back f n) (is_among k (reports_of f (chain_of f n))) (ring_back f n m off h has) (report_among f (chain_of f n) m eligible h)) ∙ out_ring))

    halts : halt_of f m ≡ halt_of g m
    halts = elim (cases_Bool (in_chain f m n)) [
      | inl has ↦ halt_below g f n more.made m off there has dead no_child_of (no_ring has)
      | inr hasnt ↦ halt_apart g f n more.made m there hasnt
    ]

  pub report_gone : (m : List ℕ) → is_among (key.Report m) (removed_reports f n) ≡ false → IsSameFor s t (key.Report m)
  report_gone m out = elim (cases_Bool (bytes_eq n m)) [
    | inl here ↦ subst (λ (q : List ℕ). IsSameFor s t (key.Report q)) (is_same n m here) (silent_report s t n (eligible_live f n dead) (eligible_live g n (not_live g n more.made.absent)))
    | inr off ↦ turned t s (key.Report m) (apart_report t s n more m off (λ eligible. (no_parent_of m out off eligible, no_child_of m out off eligible, halts m out off eligible)))
  ]
