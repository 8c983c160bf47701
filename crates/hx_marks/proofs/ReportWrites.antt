-- The write by which a report is made.
--     IsReportWrite, report_write_known   what is known of one that is wanted
--     report_satisfied                    once it is made, the key wants nothing
use Rattle.std.proofs.Common.{◌≡◌, ℕ, Bool, true, false, not, Option, Some, None, option_map, List, [], ◌∷◌, refl, sym, ap, ◌∙◌, subst, true≢false}
use Rattle.std.specs.Prelude.{is_none, is_some, option_and_then}
use Rattle.std.specs.Option.{option_map_or}
use Rattle.std.proofs.lemmas.Bool.{false_from_ne_true}
use Rattle.hx_object.specs.Kinds.{is_hierarchy}
use Rattle.hx_object.specs.declared.object.Condition.{Condition}
use Rattle.hx_object.specs.declared.object.Id.{Id}
use Rattle.hx_object.specs.declared.object.Object.{Object}
use Rattle.hx_model.specs.Answers.{same_object}
use Rattle.hx_model.specs.First.{so, or_else}
use Rattle.hx_model.specs.Forest.{Forest, children_of, halt_of, parent_of, with_parent}
use Rattle.hx_model.specs.Hands.{versioned}
use Rattle.hx_model.specs.Moves.{is_eligible}
use Rattle.hx_model.specs.Reports.{bare_report, conditions_of, is_telling, report_write, with_report}
use Rattle.hx_model.specs.State.{State, object_at, put, same_id, namespace_id, with_version, state_after}
use Rattle.hx_model.specs.Subnamespaces.{anchor_id}
use Rattle.hx_model.specs.Tree.{forest_in, forest_of, hierarchy_id, named_parent, node_in, parent_with, subnamespace_parent}
use Rattle.hx_model.specs.Valid.{IsValid}
use Rattle.hx_model.specs.Wanted.{wanted_report}
use Rattle.hx_model.specs.declared.key.Write.{Write}
use Rattle.hx_model.specs.declared.key.Write.TheVariants.{Put}
use Rattle.hx_model.specs.declared.node.Node.{Node}
use Rattle.hx_model.proofs.Displacing.{KeepsOthers, put_keeps, with_same_parent}
use Rattle.hx_model.proofs.Objects.{found_id, found_again, is_same_id}
use Rattle.hx_model.proofs.Planting.{node_of-objects, there-objects}
use Rattle.hx_marks.proofs.MoveLaw.{MovesTree, put_moves}
use Rattle.hx_marks.proofs.Replacing.{valid_served}
use Rattle.hx_marks.proofs.Reporting.{eligible_there, conditions_same}
use Rattle.hx_marks.proofs.Settling.{stands_placed}

-- what is put tells what the state has to tell, and gives what was given
pub record IsReportWrite (s : State) (n : List ℕ) (write : Write) : Type 0 where
  pub eligible : is_eligible (forest_of s) n ≡ true
  pub home : Object
  pub there : object_at s.objects (namespace_id n) ≡ Some home
  pub report : Object
  pub puts : write ≡ Put report
  pub place : report.id ≡ hierarchy_id n
  pub given : named_parent report ≡ option_and_then named_parent (object_at s.objects (hierarchy_id n))
  pub tells : (version : ℕ) → with_report (children_of (forest_of s) n) (conditions_of s n) (with_version report version) ≡ report

some_put : (x : Object) (write : Write) → Some (Put x) ≡ Some write → write ≡ Put x
some_put x write e = let same : Put x ≡ write = cc in sym same

no_write : (write : Write) → ◌≡◌ {A = Option Write} None (Some write) → ⊥
no_write write e = true≢false (sym (ap is_some e))

pub report_write_known : (s : State) (n : List ℕ) (write : Write) → IsValid s → wanted_report s n ≡ Some write → IsReportWrite s n write
report_write_known s n write valid wants = by (is_eligible (forest_of s) n) (object_at s.objects (hierarchy_id n)) refl refl wants
  where
    children : List (List ℕ)
    children = children_of (forest_of s) n

    conditions : List Condition
    conditions = conditions_of s n

    home_of : (o : Option Object) → object_at s.objects (namespace_id n) ≡ o → is_eligible (forest_of s) n ≡ true → (x : Object) × (object_at s.objects (namespace_id n) ≡ Some x)
    home_of (Some x) at eligible = (x, at)
    home_of None absent eligible = absurd (true≢false (sym (eligible_there (forest_of s) n eligible) ∙ there-objects s.config.excluded s.objects n (valid_served s valid) ∙ ap is_some absent))

    made : (x : Object) → is_eligible (forest_of s) n ≡ true → write ≡ Put x → x.id ≡ hierarchy_id n → named_parent x ≡ option_and_then named_parent (object_at s.objects (hierarchy_id n)) → ((version : ℕ) → with_report children conditions (with_version x version) ≡ x)
        → IsReportWrite s n write
    made x eligible puts place given tells =
        let home = home_of (object_at s.objects (namespace_id n)) refl eligible in
        record { eligible = eligible; home = home.0; there = home.1; report = x; puts = puts; place = place; given = given; tells = tells }

    by_test : (b : Bool) (x : Object) → so b (Put x) ≡ Some write → write ≡ Put x
    by_test true x e = some_put x write e
    by_test false x e = absurd (no_write write e)

    by : (eligible : Bool) (found : Option Object) → is_eligible (forest_of s) n ≡ eligible → object_at s.objects (hierarchy_id n) ≡ found → report_write eligible found children conditions n ≡ Some write → IsReportWrite s n write
    by false None is at e = absurd (no_write write e)
    by false (Some x) is at e = absurd (no_write write e)
    by true None is at e =
        made (bare_report n children conditions) is (by_test (is_telling children conditions) (bare_report n children conditions) e) refl (sym (ap (option_and_then named_parent) at)) (λ version. refl)
    by true (Some x) is at e =
        made (with_report children conditions x) is (by_test (not (same_object (with_version x 0) (with_report children conditions x))) (with_report children conditions x) e)
        (sym (found_id s.objects (hierarchy_id n) x at)) (sym (ap (option_and_then named_parent) at)) (λ version. refl)

-- the parent of a namespace that is there
parent_there : (s : State) (n : List ℕ) (home : Object) → IsValid s → object_at s.objects (namespace_id n) ≡ Some home → parent_of (forest_of s) n ≡ parent_with (object_at s.objects (hierarchy_id n)) home
parent_there s n home valid there =
    ap (λ o. option_and_then (λ (node : Node). node.parent) o) (node_of-objects s.config.excluded s.objects n (valid_served s valid) ∙ ap (option_map (node_in s.config.excluded s.objects)) there)
    ∙ ap (λ (q : Id). parent_with (object_at s.objects (hierarchy_id q.name)) home) (sym (found_id s.objects (namespace_id n) home there))

pub report_satisfied : (s : State) (n : List ℕ) (write : Write) (version : ℕ) → IsValid s → IsReportWrite s n write → wanted_report (state_after s (versioned version write ∷ [])) n ≡ None
report_satisfied s n write version valid known =
    let f = forest_of s in
    let y = with_version known.report version in
    let t = state_after s (Put y ∷ []) in
    let place : y.id ≡ hierarchy_id n = known.place in
    let is : is_hierarchy y.id.kind ≡ true = ap (λ (q : Id). is_hierarchy q.kind) place in
    let moves : forest_of t ≡ with_parent n (or_else (subnamespace_parent known.home) (named_parent known.report)) f = moved y place (put_moves s valid y is) in
    let parent : or_else (subnamespace_parent known.home) (named_parent known.report) ≡ parent_of f n = ap (or_else (subnamespace_parent known.home)) known.given ∙ sym (parent_there s n known.home valid known.there) in
    let tree : forest_of t ≡ f = moves ∙ ap (λ p. with_parent n p f) parent ∙ with_same_parent s valid n known.home known.there in
    let found : object_at t.objects (hierarchy_id n) ≡ Some y = ap (object_at t.objects) (sym place) ∙ found_again y s.objects in
    let keeps : KeepsOthers y.id s.objects t.objects = put_keeps y y.id s.objects refl in
    let other : (q : Id) → is_hierarchy q.kind ≡ false → object_at t.objects q ≡ object_at s.objects q =
    λ q out. keeps q (false_from_ne_true (same_id q y.id) (λ h. true≢false (sym is ∙ sym (ap (λ (p : Id). is_hierarchy p.kind) (is_same_id q y.id h)) ∙ out))) in
    let told : conditions_of t n ≡ conditions_of s n =
    conditions_same s t n (ap (λ (g : Forest). halt_of g n) tree) (other (namespace_id n) refl) (λ p. ap is_some (other (namespace_id p) refl)) (λ p. ap is_none (other (anchor_id p n) refl)) in
    ap (λ w. wanted_report (state_after s (versioned version w ∷ [])) n) known.puts
    ∙ (λ i. report_write (is_eligible (tree i) n) (found i) (children_of (tree i) n) (told i) n)
    ∙ ap (λ b. report_write b (Some y) (children_of f n) (conditions_of s n) n) known.eligible
    ∙ stands_placed (with_report (children_of f n) (conditions_of s n) y) y (sym (ap (λ (x : Object). with_version x 0) (known.tells version)))
  where
    moved : (y : Object) → y.id ≡ hierarchy_id n → MovesTree s y.id (named_parent y) (put y s.objects) → forest_in s.config.excluded (put y s.objects) ≡ with_parent n (or_else (subnamespace_parent known.home) (named_parent y)) (forest_of s)
    moved y place moves = subst (λ (q : Id). MovesTree s q (named_parent y) (put y s.objects)) place moves ∙ ap (λ o. option_map_or (λ home. with_parent n (or_else (subnamespace_parent home) (named_parent y)) (forest_of s)) o (forest_of s)) known.there
