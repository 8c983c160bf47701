-- What a hand's guards tell of a later state.
--     may_write_now      where they are met, the hand's write may be made
--     wanted_then        what it wants was wanted when it was taken
--     past_write         and after it they aren't
--     stays_out_now      and it puts nothing new into a namespace that is on its way out
use Rattle.std.proofs.Common.{◌≡◌, ◌≤◌, ◌<◌, ◌+◌, ℕ, Bool, true, false, cond, not, ◌&&◌, ◌||◌, ◌==◌, List, [], ◌∷◌, Option, Some, None, refl, sym, ap, ◌∙◌, subst, arith, true≢false}
use Rattle.std.specs.Prelude.{is_some, option_map, option_and_then, if◌then◌else◌, IsSomeAnd}
use Rattle.std.specs.Cmp.{tied_itself}
use Rattle.std.specs.Option.{option_eq}
use Rattle.std.specs.Str.{bytes_eq}
use Rattle.std.proofs.lemmas.Bool.{and_parts, eqb-true, false_from_ne_true}
use Rattle.hx_object.specs.Kinds.{can_be_copied, is_in_cluster, is_namespace}
use Rattle.hx_object.specs.declared.kind.Kind.{Kind}
use Rattle.hx_object.specs.declared.kind.Kind.TheVariants as of
use Rattle.hx_object.specs.declared.object.AnchorStatus.{AnchorStatus}
use Rattle.hx_object.specs.declared.object.Id.{Id}
use Rattle.hx_object.specs.declared.object.Mode.{Mode}
use Rattle.hx_object.specs.declared.object.Mode.TheVariants.{Propagate, AllowPropagate, Remove, Ignore}
use Rattle.hx_object.specs.declared.object.Object.{Object}
use Rattle.hx_model.specs.Answers.{same_object}
use Rattle.hx_model.specs.Cases.{is_leaving}
use Rattle.hx_model.specs.First.{so}
use Rattle.hx_model.specs.Forest.{chain_of, is_in, is_live, tail_of}
use Rattle.hx_model.specs.Hands.{Hand, are_met, is_met, versioned}
use Rattle.hx_model.specs.Limits.{greatest_version, is_copy}
use Rattle.hx_model.specs.Modes.{mode_of}
use Rattle.hx_model.specs.Propagation.{copy_of, goes_to, id_in, sources_above, top_of}
use Rattle.hx_model.specs.Serving.{IsKept, IsServed}
use Rattle.hx_model.specs.State.{State, object_at, namespace_id, has_home, least_in, lies_in, same_id, state_after, with_version}
use Rattle.hx_model.specs.Subnamespaces.{anchor_id}
use Rattle.hx_model.specs.Tree.{forest_of, hierarchy_id, is_terminating}
use Rattle.hx_model.specs.TreeLabels.{is_open}
use Rattle.hx_model.specs.Valid.{IsValid, IsStored}
use Rattle.hx_model.specs.Wanted.{anchor_status, anchor_write, child_write, copied_in, copy_write, guard_at, guards_of, labelled, least_id, next_to_go, placed, purge_guards, subnamespace, tree_write, wanted_anchor, wanted_child, wanted_copy, wanted_purge, wanted_report, wanted_tree, wanted_write, with_status_of, without_copy, quota_id, sums_of, used_write, wanted_used, with_sums}
use Rattle.hx_model.specs.Writes.{HasPlace, MayLeave, MayWrite, MayWriteAll, id_written}
use Rattle.hx_model.specs.declared.key.Key.{Key}
use Rattle.hx_model.specs.declared.key.Key.TheVariants as key
use Rattle.hx_model.specs.declared.key.Write.{Write}
use Rattle.hx_model.specs.declared.key.Write.TheVariants.{Put, Cut}
use Rattle.hx_model.proofs.Climbing.{is_same}
use Rattle.hx_model.proofs.Legality.{legal_with_version}
use Rattle.hx_model.proofs.Objects.{id_total, same_from_Equal, found_id, object_at-put_itself, object_at-cut}
use Rattle.hx_model.proofs.Storing.{All-found}
use Rattle.hx_marks.proofs.Frames.{least_lies}
use Rattle.hx_marks.proofs.Permitting.{one_write}
use Rattle.hx_marks.proofs.Replacing.{live_is}
use Rattle.hx_marks.proofs.ReportWrites.{report_write_known}
use Rattle.hx_marks.proofs.Wanting.{along_found, wants_copied}
use Rattle.hx_core.specs.Committing.{IsOutOrThere, StaysOut}
use Rattle.hx_core.specs.Turns.{IsSince, IsOf}
use Rattle.hx_core.proofs.Entering.{namespace_in_cluster, not_true, open_stays}
use Rattle.hx_core.proofs.Laws.{wanted_may_be_written}

-- ---- versions

same_version : (a b : Option ℕ) → option_eq (λ n m. n == m) a b ≡ true → a ≡ b
same_version None None e = refl
same_version None (Some b) e = absurd (true≢false (sym e))
same_version (Some a) None e = absurd (true≢false (sym e))
same_version (Some a) (Some b) e = ap Some (eqb-true a b e)

-- ---- the place of a wanted write

no_write : {A : Type 0} (write : Write) → ◌≡◌ {A = Option Write} None (Some write) → A
no_write write e = absurd (true≢false (sym (ap is_some e)))

placed_is : (x : Object) (place : Option Object) (write : Write) → placed x place ≡ Some write → write ≡ Put x
placed_is x None write e = let h = e in cc
placed_is x (Some old) write e = by (same_object (with_version old 0) x) e
  where
    by : (b : Bool) → so (not b) (Put x) ≡ Some write → write ≡ Put x
    by true h = no_write write h
    by false h = let g = h in cc

without_is : (place : Option Object) (write : Write) → without_copy place ≡ Some write → (x : Object) × (place ≡ Some x) × (write ≡ Cut x.id)
without_is None write e = no_write write e
without_is (Some x) write e = by (is_copy x) e
  where
    by : (b : Bool) → so b (Cut x.id) ≡ Some write → (y : Object) × (Some x ≡ Some y) × (write ≡ Cut y.id)
    by true h = (x, refl, (let g = h in cc))
    by false h = no_write write h

copied_place : (kind : Kind) (name n : List ℕ) (mode : Mode) (top place : Option Object) (write : Write) → ((t : Object) → top ≡ Some t → (t.id.kind ≡ kind) × (t.id.name ≡ name)) → ((x : Object) → place ≡ Some x → id_in kind name n ≡ x.id)
    → copied_in mode top n place ≡ Some write → id_written write ≡ id_in kind name n
copied_place kind name n mode top place write sent lies e = by mode top sent e
  where
    puts : (t : Object) → (t.id.kind ≡ kind) × (t.id.name ≡ name) → placed (copy_of t n) place ≡ Some write → id_written write ≡ id_in kind name n
    puts t same h = ap id_written (placed_is (copy_of t n) place write h) ∙ (λ i. id_in (same.0 i) (same.1 i) n)

    cuts : without_copy place ≡ Some write → id_written write ≡ id_in kind name n
    cuts h = let found = without_is place write h in ap id_written found.2 ∙ sym (lies found.0 found.1)

    by : (m : Mode) (o : Option Object) → ((t : Object) → o ≡ Some t → (t.id.kind ≡ kind) × (t.id.name ≡ name)) → copied_in m o n place ≡ Some write → id_written write ≡ id_in kind name n
    by Propagate (Some t) from h = puts t (from t refl) h
    by Propagate None from h = cuts h
    by AllowPropagate (Some t) from h = puts t (from t refl) h
    by AllowPropagate None from h = cuts h
    by Remove o from h = cuts h
    by Ignore o from h = no_write write h

copy_place : (s : State) (kind : Kind) (name n : List ℕ) (acts : Bool) (ns : Option Object) (write : Write) → copy_write acts ns (mode_of s kind) (sources_above s n kind name) n (object_at s.objects (id_in kind name n)) ≡ Some write → id_written write ≡ id_in kind name n
copy_place s kind name n acts None write e = no_write write e
copy_place s kind name n false (Some x) write e = no_write write e
copy_place s kind name n true (Some x) write e =
    copied_place kind name n (mode_of s kind) (top_of (mode_of s kind) x.labels (sources_above s n kind name)) (object_at s.objects (id_in kind name n)) write
    (λ t is.
    let found = along_found (λ (y : Object). goes_to (mode_of s kind) y x.labels) s.objects kind name (tail_of (chain_of (forest_of s) n)) t is in
    let same : id_in kind name found.0 ≡ t.id = found_id s.objects (id_in kind name found.0) t found.2 in
    (ap (λ (id : Id). id.kind) (sym same), ap (λ (id : Id). id.name) (sym same)))
    (λ y is. found_id s.objects (id_in kind name n) y is) e

tree_place : (s : State) (n : List ℕ) (acts : Bool) (chain : List (List ℕ)) (ns : Option Object) (write : Write) → object_at s.objects (namespace_id n) ≡ ns → tree_write acts chain ns ≡ Some write → id_written write ≡ namespace_id n
tree_place s n acts chain None write at e = no_write write e
tree_place s n false chain (Some x) write at e = no_write write e
tree_place s n true chain (Some x) write at e = ap id_written (placed_is (labelled chain x) (Some x) write e) ∙ sym (found_id s.objects (namespace_id n) x at)

tree_puts : (acts : Bool) (chain : List (List ℕ)) (ns : Option Object) (write : Write) → tree_write acts chain ns ≡ Some write → (x : Object) × (write ≡ Put x)
tree_puts acts chain None write e = no_write write e
tree_puts false chain (Some x) write e = no_write write e
tree_puts true chain (Some x) write e = (labelled chain x, placed_is (labelled chain x) (Some x) write e)

name_cut : (id q : Id) → Cut id ≡ Cut q → id.name ≡ q.name
name_cut id q e = ap (λ w. (id_written w).name) e

id_cut : (id q : Id) → Cut id ≡ Cut q → id ≡ q
id_cut id q e = ap id_written e

-- what is known of the write of a place of copies: its namespace takes part and is there, and the kind can be copied
copy_acts : (acts : Bool) (ns : Option Object) (mode : Mode) (sources : List Object) (n : List ℕ) (place : Option Object) (write : Write) → copy_write acts ns mode sources n place ≡ Some write → (acts ≡ true) × ((x : Object) × (ns ≡ Some x))
copy_acts acts None mode sources n place write e = no_write write e
copy_acts false (Some x) mode sources n place write e = no_write write e
copy_acts true (Some x) mode sources n place write e = (refl, (x, refl))

so_is : (b : Bool) (write found : Write) → so b write ≡ Some found → (b ≡ true) × (found ≡ write)
so_is true write found e = (refl, (let h = e in cc))
so_is false write found e = no_write found e

child_is : (acts anchored excluded taken : Bool) (n m : List ℕ) (write : Write) → child_write acts anchored excluded taken n m ≡ Some write → write ≡ Put (subnamespace n m)
child_is acts anchored excluded taken n m write e = (so_is (acts && (anchored && (not excluded && not taken))) (Put (subnamespace n m)) write e).1

anchor_is : (live : Bool) (status : AnchorStatus) (found : Option Object) (write : Write) → anchor_write live status found ≡ Some write → (x : Object) × (found ≡ Some x) × (write ≡ Put (with_status_of status x))
anchor_is live status None write e = no_write write e
anchor_is true status (Some x) write e = (x, refl, placed_is (with_status_of status x) (Some x) write e)
anchor_is false status (Some x) write e = no_write write e

-- the write of an anchor's status is of the anchor, which is there
anchor_place : (s : State) (n m : List ℕ) (write : Write) → wanted_anchor s n m ≡ Some write → (id_written write ≡ anchor_id n m) × (is_some (object_at s.objects (anchor_id n m)) ≡ true)
anchor_place s n m write e =
    let known = anchor_is (is_live (forest_of s) n) (anchor_status s n m) (object_at s.objects (anchor_id n m)) write e in
    (ap id_written known.2 ∙ sym (found_id s.objects (anchor_id n m) known.0 known.1), ap is_some known.1)

used_is : (live : Bool) (sums : List ℕ) (found : Option Object) (write : Write) → used_write live sums found ≡ Some write → (x : Object) × (found ≡ Some x) × (write ≡ Put (with_sums sums x))
used_is live sums None write e = no_write write e
used_is true sums (Some x) write e = (x, refl, placed_is (with_sums sums x) (Some x) write e)
used_is false sums (Some x) write e = no_write write e

-- the write of a quota's status is of the quota, which is there
used_place : (s : State) (n m : List ℕ) (write : Write) → wanted_used s n m ≡ Some write → (id_written write ≡ quota_id n m) × (is_some (object_at s.objects (quota_id n m)) ≡ true)
used_place s n m write e =
    let known = used_is (is_live (forest_of s) n) (sums_of s n (object_at s.objects (quota_id n m))) (object_at s.objects (quota_id n m)) write e in
    (ap id_written known.2 ∙ sym (found_id s.objects (quota_id n m) known.0 known.1), ap is_some known.1)

purge_is : (s : State) (n : List ℕ) (write : Write) → wanted_purge s n ≡ Some write → write ≡ Cut (next_to_go (least_id s n) n)
purge_is s n write e = (so_is (is_leaving (forest_of s) n) (Cut (next_to_go (least_id s n) n)) write e).1

-- ---- what lies there in a later state

-- the object of a guard that is met is the same
place_same : (was s : State) (id : Id) → IsValid was → IsSince was s → is_met s (guard_at was id) ≡ true → object_at s.objects id ≡ object_at was.objects id
place_same was s id valid since met = by (object_at s.objects id) (object_at was.objects id) refl refl (same_version _ _ met)
  where
    by : (o p : Option Object) → object_at s.objects id ≡ o → object_at was.objects id ≡ p → option_map (λ (x : Object). x.version) o ≡ option_map (λ (x : Object). x.version) p → o ≡ p
    by None None e f same = refl
    by None (Some z) e f same = absurd (true≢false (sym (ap is_some same)))
    by (Some y) None e f same = absurd (true≢false (ap is_some same))
    by (Some y) (Some z) e f same =
        let one : y.version ≡ z.version = let h = same in cc in
        let known : z.version ≤ was.last = (All-found (IsStored was.last) id z was.objects valid.stored f).known in
        sym (since.kept id y e (omega (arith, one, known))) ∙ f

same_home : (was s : State) (id : Id) → (is_in_cluster id.kind ≡ false → object_at s.objects (namespace_id id.ns) ≡ object_at was.objects (namespace_id id.ns)) → has_home s.objects id ≡ has_home was.objects id
same_home was s id same =
    elim (is_in_cluster id.kind) as (λ b. is_in_cluster id.kind ≡ b → (b || is_some (option_and_then (object_at s.objects) (if b then None else Some (namespace_id id.ns)))) ≡ (b || is_some (option_and_then (object_at was.objects) (if b then None else Some (namespace_id id.ns))))) [
      | true ↦ λ e. refl
      | false ↦ λ e. ap is_some (same e)
    ] refl

-- what lies in a place and around it is as it was: a namespace that might go may still, and nothing new comes into one that is on its way out
record Stays (was s : State) (write : Write) : Type 0 where
  place : object_at s.objects (id_written write) ≡ object_at was.objects (id_written write)
  home : has_home s.objects (id_written write) ≡ has_home was.objects (id_written write)
  leaves : (q : Id) → write ≡ Cut q → is_namespace q.kind ≡ true → MayLeave was q.name → MayLeave s q.name
  out : StaysOut s write

out_by : (s : State) (write : Write) → IsOutOrThere s (id_written write) → StaysOut s write
out_by s (Put x) out = out
out_by s (Cut id) out = tt

-- a cluster holds it
out_in_cluster : (s : State) (n : List ℕ) → IsOutOrThere s (namespace_id n)
out_in_cluster s n home inside at ends = absurd (true≢false inside)

never_cut : {A : Type 0} (x : Object) (q : Id) (write : Write) → write ≡ Put x → write ≡ Cut q → A
never_cut x q write puts cuts = let h : Put x ≡ Cut q = sym puts ∙ cuts in cc

copied_leaf : (kind : Kind) → can_be_copied kind ≡ true → is_namespace kind ≡ false
copied_leaf of.Namespace e = absurd (true≢false (sym e))
copied_leaf _ e = refl

module _ (was s : State) (write : Write) (valid : IsValid was) (since : IsSince was s) where
  copy_stays : (n : List ℕ) (kind : Kind) (name : List ℕ) → wanted_copy was n kind name ≡ Some write → are_met s (guards_of was (key.Copy n kind name)) ≡ true → Stays was s write
  copy_stays n kind name wants met =
      let parts = and_parts (is_met s (guard_at was (id_in kind name n))) _ met in
      let more = and_parts (is_met s (guard_at was (namespace_id n))) true parts.1 in
      let known = copy_acts (is_open (forest_of was) n) (object_at was.objects (namespace_id n)) (mode_of was kind) (sources_above was n kind name) n (object_at was.objects (id_in kind name n)) write wants in
      let copied : can_be_copied kind ≡ true = wants_copied was.objects (chain_of (forest_of was) n) n kind name (is_open (forest_of was) n) (object_at was.objects (namespace_id n)) (λ none. no_write write (sym none ∙ wants)) in
      let place : id_written write ≡ id_in kind name n = copy_place was kind name n (is_open (forest_of was) n) (object_at was.objects (namespace_id n)) write wants in
      let same : object_at s.objects (namespace_id n) ≡ object_at was.objects (namespace_id n) = place_same was s (namespace_id n) valid since more.0 in
      let stays : is_terminating known.1.0.payload ≡ false = open_stays was n known.1.0 valid known.1.1 known.0 in
      record {
        place = subst (λ (q : Id). object_at s.objects q ≡ object_at was.objects q) (sym place) (place_same was s (id_in kind name n) valid since parts.0);
        home = subst (λ (q : Id). has_home s.objects q ≡ has_home was.objects q) (sym place) (same_home was s (id_in kind name n) (λ e. same));
        leaves = λ q cuts is may. absurd (true≢false (sym is ∙ (ap (λ (p : Id). is_namespace p.kind) (sym (ap id_written cuts) ∙ place) ∙ copied_leaf kind copied)));
        out = out_by s write (subst (IsOutOrThere s) (sym place) (λ home inside at ends.
            let one : Some home ≡ Some known.1.0 = sym at ∙ (same ∙ known.1.1) in
            let payload : home.payload ≡ known.1.0.payload = let h = one in cc in
            absurd (true≢false (sym ends ∙ (ap is_terminating payload ∙ stays)))));
      }

  -- a namespace is put
  namespace_stays : (n : List ℕ) (x : Object) → write ≡ Put x → id_written write ≡ namespace_id n → is_met s (guard_at was (namespace_id n)) ≡ true → Stays was s write
  namespace_stays n x puts place met = record {
    place = subst (λ (q : Id). object_at s.objects q ≡ object_at was.objects q) (sym place) (place_same was s (namespace_id n) valid since met);
    home = subst (λ (q : Id). has_home s.objects q ≡ has_home was.objects q) (sym place) refl;
    leaves = λ q cuts is may. never_cut x q write puts cuts;
    out = out_by s write (subst (IsOutOrThere s) (sym place) (out_in_cluster s n));
  }

  tree_stays : (n : List ℕ) → wanted_tree was n ≡ Some write → are_met s (guards_of was (key.Tree n)) ≡ true → Stays was s write
  tree_stays n wants met =
      let known = tree_puts (is_open (forest_of was) n) (chain_of (forest_of was) n) (object_at was.objects (namespace_id n)) write wants in
      namespace_stays n known.0 known.1 (tree_place was n (is_open (forest_of was) n) (chain_of (forest_of was) n) (object_at was.objects (namespace_id n)) write refl wants) (and_parts (is_met s (guard_at was (namespace_id n))) true met).0

  child_stays : (n m : List ℕ) → wanted_child was n m ≡ Some write → are_met s (guards_of was (key.Child n m)) ≡ true → Stays was s write
  child_stays n m wants met =
      let puts : write ≡ Put (subnamespace n m) = child_is (is_open (forest_of was) n) (is_some (object_at was.objects (anchor_id n m))) (is_in m was.config.excluded) (is_some (object_at was.objects (namespace_id m))) n m write wants in
      let rest = and_parts (is_met s (guard_at was (namespace_id n))) _ (and_parts (is_met s (guard_at was (anchor_id n m))) _ met).1 in
      namespace_stays m (subnamespace n m) puts (ap id_written puts) (and_parts (is_met s (guard_at was (namespace_id m))) true rest.1).0

  anchor_stays : (n m : List ℕ) → wanted_anchor was n m ≡ Some write → are_met s (guards_of was (key.Anchor n m)) ≡ true → Stays was s write
  anchor_stays n m wants met =
      let parts = and_parts (is_met s (guard_at was (anchor_id n m))) _ met in
      let more = and_parts (is_met s (guard_at was (namespace_id n))) true parts.1 in
      let known = anchor_is (is_live (forest_of was) n) (anchor_status was n m) (object_at was.objects (anchor_id n m)) write wants in
      let at = anchor_place was n m write wants in
      let same : object_at s.objects (anchor_id n m) ≡ object_at was.objects (anchor_id n m) = place_same was s (anchor_id n m) valid since parts.0 in
      record {
        place = subst (λ (q : Id). object_at s.objects q ≡ object_at was.objects q) (sym at.0) same;
        home = subst (λ (q : Id). has_home s.objects q ≡ has_home was.objects q) (sym at.0) (same_home was s (anchor_id n m) (λ e. place_same was s (namespace_id n) valid since more.0));
        leaves = λ q cuts is may. never_cut (with_status_of (anchor_status was n m) known.0) q write known.2 cuts;
        out = out_by s write (subst (IsOutOrThere s) (sym at.0) (λ home inside there ends. ap is_some same ∙ at.1));
      }

  used_stays : (n m : List ℕ) → wanted_used was n m ≡ Some write → are_met s (guards_of was (key.Used n m)) ≡ true → Stays was s write
  used_stays n m wants met =
      let parts = and_parts (is_met s (guard_at was (quota_id n m))) _ met in
      let more = and_parts (is_met s (guard_at was (namespace_id n))) true parts.1 in
      let sums = sums_of was n (object_at was.objects (quota_id n m)) in
      let known = used_is (is_live (forest_of was) n) sums (object_at was.objects (quota_id n m)) write wants in
      let at = used_place was n m write wants in
      let same : object_at s.objects (quota_id n m) ≡ object_at was.objects (quota_id n m) = place_same was s (quota_id n m) valid since parts.0 in
      record {
        place = subst (λ (q : Id). object_at s.objects q ≡ object_at was.objects q) (sym at.0) same;
        home = subst (λ (q : Id). has_home s.objects q ≡ has_home was.objects q) (sym at.0) (same_home was s (quota_id n m) (λ e. place_same was s (namespace_id n) valid since more.0));
        leaves = λ q cuts is may. never_cut (with_sums sums known.0) q write known.2 cuts;
        out = out_by s write (subst (IsOutOrThere s) (sym at.0) (λ home inside there ends. ap is_some same ∙ at.1));
      }

  -- a report is of a namespace that isn't on its way out
  report_stays : (n : List ℕ) → wanted_report was n ≡ Some write → are_met s (guards_of was (key.Report n)) ≡ true → Stays was s write
  report_stays n wants met =
      let parts = and_parts (is_met s (guard_at was (hierarchy_id n))) _ met in
      let more = and_parts (is_met s (guard_at was (namespace_id n))) true parts.1 in
      let known = report_write_known was n write valid wants in
      let place : id_written write ≡ hierarchy_id n = ap id_written known.puts ∙ known.place in
      let same : object_at s.objects (namespace_id n) ≡ object_at was.objects (namespace_id n) = place_same was s (namespace_id n) valid since more.0 in
      let live : not (is_terminating known.home.payload) ≡ true = sym (live_is was valid n known.home known.there) ∙ (and_parts (is_live (forest_of was) n) _ known.eligible).0 in
      record {
        place = subst (λ (q : Id). object_at s.objects q ≡ object_at was.objects q) (sym place) (place_same was s (hierarchy_id n) valid since parts.0);
        home = subst (λ (q : Id). has_home s.objects q ≡ has_home was.objects q) (sym place) (same_home was s (hierarchy_id n) (λ e. same));
        leaves = λ q cuts is may. never_cut known.report q write known.puts cuts;
        out = out_by s write (subst (IsOutOrThere s) (sym place) (λ home inside at ends.
            let one : Some home ≡ Some known.home = sym at ∙ (same ∙ known.there) in
            let payload : home.payload ≡ known.home.payload = let h = one in cc in
            absurd (true≢false (sym live ∙ ap (λ p. not (is_terminating p)) (sym payload) ∙ ap not ends))));
      }

  -- the namespace may go, too, if nothing lay in it then
  purge_stays : (n : List ℕ) → wanted_purge was n ≡ Some write → are_met s (guards_of was (key.Purge n)) ≡ true → Stays was s write
  purge_stays n wants met = by (least_in was.objects n) refl
    where
      taken : (o : Option Object) → least_in was.objects n ≡ o → write ≡ Cut (next_to_go (option_map (λ (x : Object). x.id) o) n)
      taken o e = purge_is was n write wants ∙ ap (λ p. Cut (next_to_go (option_map (λ (x : Object). x.id) p) n)) e

      rests : (o : Option Object) → least_in was.objects n ≡ o → are_met s (purge_guards was (option_map (λ (x : Object). x.id) o) n) ≡ true
      rests o e = ap (λ p. are_met s (purge_guards was (option_map (λ (x : Object). x.id) p) n)) (sym e) ∙ met

      still : (x : Object) → object_at was.objects (namespace_id n) ≡ Some x → object_at s.objects (namespace_id n) ≡ object_at was.objects (namespace_id n) → is_terminating x.payload ≡ true → least_in was.objects n ≡ None → MayLeave s n
      still x at same ends none = record {
        ended = subst (λ o. IsSomeAnd o (λ (y : Object). is_terminating y.payload ≡ true)) (sym (same ∙ at)) ends;
        empty = since.shut n x (same ∙ at) (All-found (IsStored was.last) (namespace_id n) x was.objects valid.stored at).known ends none;
      }

      leaves : object_at s.objects (namespace_id n) ≡ object_at was.objects (namespace_id n) → MayLeave was n → MayLeave s n
      leaves same may = found (object_at was.objects (namespace_id n)) refl may.ended
        where
          found : (o : Option Object) → object_at was.objects (namespace_id n) ≡ o → IsSomeAnd o (λ (y : Object). is_terminating y.payload ≡ true) → MayLeave s n
          found None at ends = absurd ends
          found (Some x) at ends = still x at same ends may.empty

      by : (o : Option Object) → least_in was.objects n ≡ o → Stays was s write
      by None e =
          let cuts : write ≡ Cut (namespace_id n) = taken None e in
          let same : object_at s.objects (namespace_id n) ≡ object_at was.objects (namespace_id n) = place_same was s (namespace_id n) valid since (and_parts (is_met s (guard_at was (namespace_id n))) true (rests None e)).0 in
          subst (Stays was s) (sym cuts) (record {
            place = same;
            home = refl;
            leaves = λ q is kind may. subst (MayLeave s) (name_cut (namespace_id n) q is) (leaves same (subst (MayLeave was) (sym (name_cut (namespace_id n) q is)) may));
            out = tt;
          })
      by (Some x) e =
          let cuts : write ≡ Cut x.id = taken (Some x) e in
          let parts = and_parts (is_met s (guard_at was x.id)) _ (rests (Some x) e) in
          let lies : lies_in n x.id ≡ true = least_lies was.objects n x e in
          let inside = and_parts (not (is_in_cluster x.id.kind)) (bytes_eq n x.id.ns) lies in
          let same : object_at s.objects (namespace_id n) ≡ object_at was.objects (namespace_id n) = place_same was s (namespace_id n) valid since (and_parts (is_met s (guard_at was (namespace_id n))) true parts.1).0 in
          subst (Stays was s) (sym cuts) (record {
            place = place_same was s x.id valid since parts.0;
            home = same_home was s x.id (λ _. subst (λ m. object_at s.objects (namespace_id m) ≡ object_at was.objects (namespace_id m)) (is_same n x.id.ns inside.1) same);
            leaves = λ q is kind may. absurd (true≢false (sym (namespace_in_cluster q.kind kind) ∙ (ap (λ (p : Id). is_in_cluster p.kind) (sym (id_cut x.id q is)) ∙ not_true (is_in_cluster x.id.kind) inside.0)));
            out = tt;
          })

stays : (was s : State) (k : Key) (write : Write) → IsValid was → IsSince was s → wanted_write was k ≡ Some write → are_met s (guards_of was k) ≡ true → Stays was s write
stays was s (key.Copy n kind name) write valid since wants met = copy_stays was s write valid since n kind name wants met
stays was s (key.Tree n) write valid since wants met = tree_stays was s write valid since n wants met
stays was s (key.Report n) write valid since wants met = report_stays was s write valid since n wants met
stays was s (key.Child n name) write valid since wants met = child_stays was s write valid since n name wants met
stays was s (key.Anchor n name) write valid since wants met = anchor_stays was s write valid since n name wants met
stays was s (key.Used n name) write valid since wants met = used_stays was s write valid since n name wants met
stays was s (key.Purge n) write valid since wants met = purge_stays was s write valid since n wants met

-- ---- the write may be made

kept_with : (x : Object) (version : ℕ) → IsKept x → IsKept (with_version x version)
kept_with x version kept = record { labels = kept.labels; annotations = kept.annotations; payload = kept.payload; typed = kept.typed }

write_now : (was s : State) (write : Write) → ((x : Object) → write ≡ Put x → IsServed x) → Stays was s write → MayWrite was (versioned (was.last + 1) write) → MayWrite s (versioned (s.last + 1) write)
write_now was s (Put x) served stays may =
    let here : IsServed x = served x refl in
    record {
      served = record { legal = legal_with_version x (s.last + 1) here.legal; kept = kept_with x (s.last + 1) here.kept };
      next = refl;
      home = stays.home ∙ may.home;
      place = λ is. subst (λ o. HasPlace o (with_version x (s.last + 1))) (sym stays.place) (each (object_at was.objects x.id) (may.place is));
    }
  where
    each : (o : Option Object) → HasPlace o (with_version x (was.last + 1)) → HasPlace o (with_version x (s.last + 1))
    each None p = p
    each (Some old) p = record { annotation = p.annotation; phase = p.phase }
write_now was s (Cut id) served stays may = record { there = (may.there.0, stays.place ∙ may.there.1); leaf = λ is. stays.leaves id refl is (may.leaf is) }

out_then : (s : State) (version : ℕ) (write : Write) → StaysOut s write → StaysOut s (versioned version write)
out_then s version (Put x) out = out
out_then s version (Cut id) out = tt

pub wanted_then : (s : State) (hand : Hand) (write : Write) (of : IsOf s hand) → hand.write ≡ Some write → wanted_write of.then hand.key ≡ Some write
wanted_then s hand write of is = ap (λ (h : Hand). h.write) (sym of.is) ∙ is

fits_then : (a b c : ℕ) → a ≤ b → b < c → a < c
fits_then a b c le less = omega (arith, le, less)

may_then : (s : State) (hand : Hand) (write : Write) (of : IsOf s hand) → hand.write ≡ Some write → s.last < greatest_version → MayWriteAll of.then (versioned (of.then.last + 1) write ∷ [])
may_then s hand write of is fits = wanted_may_be_written of.then hand.key write of.valid (fits_then of.then.last s.last greatest_version of.since.later fits) (wanted_then s hand write of is) (λ x e. of.storable x (is ∙ ap Some e))

pub may_write_now : (s : State) (hand : Hand) (write : Write) → IsOf s hand → hand.write ≡ Some write → are_met s hand.guards ≡ true → s.last < greatest_version → MayWriteAll s (versioned (s.last + 1) write ∷ [])
may_write_now s hand write of is met fits =
    let wants = wanted_then s hand write of is in
    let now : are_met s (guards_of of.then hand.key) ≡ true = ap (λ (h : Hand). are_met s h.guards) (sym of.is) ∙ met in
    one_write s (versioned (s.last + 1) write) fits (write_now of.then s write (λ x e. of.storable x (is ∙ ap Some e)) (stays of.then s hand.key write of.valid of.since wants now) (may_then s hand write of is fits).each.0)

-- and it puts nothing new into a namespace that is on its way out
pub stays_out_now : (s : State) (hand : Hand) (write : Write) → IsOf s hand → hand.write ≡ Some write → are_met s hand.guards ≡ true → StaysOut s (versioned (s.last + 1) write)
stays_out_now s hand write of is met =
    let now : are_met s (guards_of of.then hand.key) ≡ true = ap (λ (h : Hand). are_met s h.guards) (sym of.is) ∙ met in
    out_then s (s.last + 1) write (stays of.then s hand.key write of.valid of.since (wanted_then s hand write of is) now).out

-- ---- after it

same_id-itself : (id : Id) → same_id id id ≡ true
same_id-itself id = same_from_Equal id id (tied_itself id_total id)

-- what a write leaves in its place meets no guard that was made before
unmet : (was s : State) (id : Id) (write : Write) → IsValid was → was.last ≤ s.last → id_written write ≡ id → MayWrite was (versioned (was.last + 1) write) → is_met (state_after s (versioned (s.last + 1) write ∷ [])) (guard_at was id) ≡ false
unmet was s id (Put x) valid later is may =
    subst (λ j. is_met (state_after s (Put (with_version x (s.last + 1)) ∷ [])) (guard_at was j) ≡ false) is
    (ap (λ o. option_eq (λ n m. n == m) (option_map (λ (y : Object). y.version) o) (option_map (λ (y : Object). y.version) (object_at was.objects x.id))) (object_at-put_itself (with_version x (s.last + 1)) s.objects)
    ∙ by (object_at was.objects x.id) refl)
  where
    by : (o : Option Object) → object_at was.objects x.id ≡ o → option_eq (λ n m. n == m) (Some (s.last + 1)) (option_map (λ (y : Object). y.version) o) ≡ false
    by None e = refl
    by (Some z) e =
        let known : z.version ≤ was.last = (All-found (IsStored was.last) x.id z was.objects valid.stored e).known in
        false_from_ne_true ((s.last + 1) == z.version) (λ same. past (eqb-true (s.last + 1) z.version same) known)
      where
        past : s.last + 1 ≡ z.version → z.version ≤ was.last → ⊥
        past same known = omega (arith, same, known, later)
unmet was s id (Cut other) valid later is may =
    subst (λ j. is_met (state_after s (Cut other ∷ [])) (guard_at was j) ≡ false) is
    (ap (λ o. option_eq (λ n m. n == m) (option_map (λ (y : Object). y.version) o) (option_map (λ (y : Object). y.version) (object_at was.objects other))) (object_at-cut other s.objects other ∙ ap (λ b. cond b None (object_at s.objects other)) (same_id-itself other))
    ∙ ap (λ o. option_eq (λ n m. n == m) None (option_map (λ (y : Object). y.version) o)) may.there.1)

first_out : (a b : Bool) → a ≡ false → (a && b) ≡ false
first_out a b e = ap (λ c. c && b) e

second_out : (a b : Bool) → b ≡ false → (a && b) ≡ false
second_out true b e = e
second_out false b e = refl

module _ (was s : State) (write : Write) (valid : IsValid was) (later : was.last ≤ s.last) (may : MayWrite was (versioned (was.last + 1) write)) where
  abbrev new : State
  new = state_after s (versioned (s.last + 1) write ∷ [])

  purge_unmet : (n : List ℕ) → wanted_purge was n ≡ Some write → are_met new (guards_of was (key.Purge n)) ≡ false
  purge_unmet n wants = by (least_id was n) refl
    where
      by : (o : Option Id) → least_id was n ≡ o → are_met new (purge_guards was (least_id was n) n) ≡ false
      by None e =
          ap (λ o. are_met new (purge_guards was o n)) e
          ∙ first_out (is_met new (guard_at was (namespace_id n))) true (unmet was s (namespace_id n) write valid later (ap id_written (purge_is was n write wants) ∙ ap (λ o. next_to_go o n) e) may)
      by (Some id) e =
          ap (λ o. are_met new (purge_guards was o n)) e
          ∙ first_out (is_met new (guard_at was id)) _ (unmet was s id write valid later (ap id_written (purge_is was n write wants) ∙ ap (λ o. next_to_go o n) e) may)

  unmet_all : (k : Key) → wanted_write was k ≡ Some write → are_met new (guards_of was k) ≡ false
  unmet_all (key.Copy n kind name) wants =
      first_out (is_met new (guard_at was (id_in kind name n))) _
      (unmet was s (id_in kind name n) write valid later (copy_place was kind name n (is_open (forest_of was) n) (object_at was.objects (namespace_id n)) write wants) may)
  unmet_all (key.Tree n) wants =
      first_out (is_met new (guard_at was (namespace_id n))) true (unmet was s (namespace_id n) write valid later (tree_place was n (is_open (forest_of was) n) (chain_of (forest_of was) n) (object_at was.objects (namespace_id n)) write refl wants) may)
  unmet_all (key.Report n) wants =
      let known = report_write_known was n write valid wants in
      first_out (is_met new (guard_at was (hierarchy_id n))) _ (unmet was s (hierarchy_id n) write valid later (ap id_written known.puts ∙ known.place) may)
  unmet_all (key.Child n m) wants =
      let puts : write ≡ Put (subnamespace n m) = child_is (is_open (forest_of was) n) (is_some (object_at was.objects (anchor_id n m))) (is_in m was.config.excluded) (is_some (object_at was.objects (namespace_id m))) n m write wants in
      second_out (is_met new (guard_at was (anchor_id n m))) _ (second_out (is_met new (guard_at was (namespace_id n))) _ (first_out (is_met new (guard_at was (namespace_id m))) true (unmet was s (namespace_id m) write valid later (ap id_written puts) may)))
  unmet_all (key.Anchor n m) wants = first_out (is_met new (guard_at was (anchor_id n m))) _ (unmet was s (anchor_id n m) write valid later (anchor_place was n m write wants).0 may)
  unmet_all (key.Used n m) wants = first_out (is_met new (guard_at was (quota_id n m))) _ (unmet was s (quota_id n m) write valid later (used_place was n m write wants).0 may)
  unmet_all (key.Purge n) wants = purge_unmet n wants

pub past_write : (s : State) (hand : Hand) (write : Write) → IsOf s hand → hand.write ≡ Some write → s.last < greatest_version → are_met (state_after s (versioned (s.last + 1) write ∷ [])) hand.guards ≡ false
past_write s hand write of is fits =
    ap (λ (h : Hand). are_met (state_after s (versioned (s.last + 1) write ∷ [])) h.guards) of.is
    ∙ unmet_all of.then s write of.valid of.since.later (may_then s hand write of is fits).each.0 hand.key (wanted_then s hand write of is)
