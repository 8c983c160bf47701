-- What writes leave by which namespaces begin to leave, and anchors go.
--     IsLeavingWrite           a namespace begins to leave, or an anchor goes
--     all_leave                so do the writes of endings
--     put_marks, cut_marks     what one of them marks by itself
--     among_within             among others it marks no more than that
--     HasBegun                 a namespace began to leave, and its keys are marked
--     IsCutMarked              the keys of an anchor that goes are marked, and the report that changes by it
--     HasEnded                 all else is as it was, but for anchors that are gone, whose keys are marked
--     has_ended                such is the state after them
use Rattle.std.proofs.Common.{◌≡◌, ℕ, ◌+◌, Bool, true, false, cond, not, ◌&&◌, Option, Some, None, List, [], ◌∷◌, ◌++◌, ◌⊎◌, refl, sym, ap, ◌∙◌, subst, inl, inr, true≢false}
use Rattle.std.specs.Prelude.{flat_map, if◌then◌else◌}
use Rattle.std.specs.List.{AllByRecursion}
use Rattle.std.specs.Str.{bytes_eq}
use Rattle.std.proofs.lemmas.Bool.{and_parts, cases_Bool, or_cases, or_left, or_right, false_from_ne_true}
use Rattle.std.proofs.lemmas.List.{append-nil}
use Rattle.std.proofs.lemmas.List.Folds.{list_any-append}
use Rattle.hx_object.specs.Kinds.{is_in_cluster, is_namespace, is_hierarchy, is_anchor, is_quota, is_plain}
use Rattle.hx_object.specs.declared.object.Id.{Id}
use Rattle.hx_object.specs.declared.object.Object.{Object}
use Rattle.hx_model.specs.Forest.{is_in, children_of, chain_of}
use Rattle.hx_model.specs.Keys.{is_among}
use Rattle.hx_model.specs.Serving.{IsServed}
use Rattle.hx_model.specs.State.{State, Objects, ascends, object_at, put, cut, same_id, namespace_id, lies_in, least_in, after_writes, state_after}
use Rattle.hx_model.specs.Subnamespaces.{anchor_id}
use Rattle.hx_model.specs.Tree.{forest_of, is_terminating, subnamespace_parent}
use Rattle.hx_model.specs.Valid.{IsValid}
use Rattle.hx_model.specs.Writes.{MayWrite, MayWriteAll, id_written}
use Rattle.hx_model.specs.Windows.{WindowView}
use Rattle.hx_model.specs.declared.key.Key.{Key}
use Rattle.hx_model.specs.declared.key.Key.TheVariants as key
use Rattle.hx_model.specs.declared.key.Write.{Write}
use Rattle.hx_model.specs.declared.key.Write.TheVariants.{Put, Cut}
use Rattle.hx_model.proofs.Climbing.{is_same}
use Rattle.hx_model.proofs.Conflicting.{other_at}
use Rattle.hx_model.proofs.Displacing.{cut_keeps}
use Rattle.hx_model.proofs.Objects.{is_same_id, object_at-put, object_at-put_itself, object_at-cut}
use Rattle.hx_model.proofs.Planting.{namespace_is_homed}
use Rattle.hx_model.proofs.Storing.{All-put, All-cut}
use Rattle.hx_model.proofs.Writes.{ascends_after}
use Rattle.hx_marks.specs.Halves.{IsEndingWrite}
use Rattle.hx_marks.specs.Law.{all_of, anchor_keys, status_keys, open_below, ending_marks, leaving_keys, begins_to_end, begins_by, namespace_marks, namespace_reports, object_written, marks_by, report_marks, marks_of, ending_name, ending_names, follows, following_marks, marks_among, all_marks}
use Rattle.hx_marks.specs.Reports.{report_keys, reports_of, ending_reports, anchored_reports}
use Rattle.hx_marks.specs.Usage.{usage_keys}
use Rattle.hx_marks.proofs.Among.{among_append}
use Rattle.hx_marks.proofs.Asking.{is_anchor_place}
use Rattle.hx_marks.proofs.Frames.{put_least, cut_least}
use Rattle.hx_marks.proofs.OneMore.{inside_leaf, lies_nowhere}
use Rattle.hx_marks.proofs.Parts.{marks_beside, marks_parts, put_again_usage}
use Rattle.hx_marks.proofs.Replacing.{valid_served}
use Rattle.hx_marks.proofs.UsageCharges.{usage_elsewhere}

-- ---- what leaves

-- a namespace that is there is on its way out from now on, whatever else it gets
pub record LeavesNow (s : State) (x : Object) : Type 0 where
  pub kind : is_namespace x.id.kind ≡ true
  pub old : Object
  pub there : object_at s.objects x.id ≡ Some old
  pub stood : is_terminating old.payload ≡ false
  pub leaves : is_terminating x.payload ≡ true
  pub annotation : subnamespace_parent x ≡ subnamespace_parent old

abbrev pub IsLeavingWrite : State → Write → Type 0
IsLeavingWrite s (Put x) = LeavesNow s x
IsLeavingWrite s (Cut id) = is_anchor id.kind ≡ true

ending_leaves : (s : State) (w : Write) → IsEndingWrite s w → IsLeavingWrite s w
ending_leaves s (Put x) ends = record {
  kind = ends.kind;
  old = ends.old;
  there = ends.there;
  stood = ends.stood;
  leaves = ap (λ (y : Object). is_terminating y.payload) ends.is;
  annotation = ap subnamespace_parent ends.is;
}
ending_leaves s (Cut id) ends = ends

pub all_leave : (s : State) (ws : List Write) → AllByRecursion (IsEndingWrite s) ws → AllByRecursion (IsLeavingWrite s) ws
all_leave s [] ends = tt
all_leave s (w ∷ ws) ends = (ending_leaves s w ends.0, all_leave s ws ends.1)

-- ---- what is marked

pub put_marks : (s : State) (x : Object) → LeavesNow s x → marks_of s (Put x) ≡ ending_marks s x.id.name ++ ending_reports (forest_of s) x.id.name
put_marks s x ends = (λ i. own i ++ (reports i ++ put_again_usage s x ends.old ends.kind ends.there i)) ∙ ap (λ marks. ending_marks s x.id.name ++ marks) (append-nil (ending_reports (forest_of s) x.id.name))
  where
    taken : (b : Bool) (u v : List Key) → b ≡ true → (if b then u else v) ≡ u
    taken true u v e = refl
    taken false u v e = absurd (true≢false (sym e))

    begins : begins_to_end ends.old x ≡ true
    begins = (λ i. ends.leaves i && not (ends.stood i))

    own : marks_by s (state_after s (Put x ∷ [])) x.id (object_at s.objects x.id) (Some x) ≡ ending_marks s x.id.name
    own =
        taken (is_namespace x.id.kind) (namespace_marks s (state_after s (Put x ∷ [])) x.id.name (object_at s.objects x.id) (Some x)) _ ends.kind
        ∙ ap (λ o. namespace_marks s (state_after s (Put x ∷ [])) x.id.name o (Some x)) ends.there
        ∙ taken (begins_to_end ends.old x) _ _ begins

    reports : report_marks s (state_after s (Put x ∷ [])) x.id (object_at s.objects x.id) (Some x) ≡ ending_reports (forest_of s) x.id.name
    reports =
        taken (is_namespace x.id.kind) (namespace_reports s (state_after s (Put x ∷ [])) x.id.name (object_at s.objects x.id) (Some x)) _ ends.kind
        ∙ ap (λ o. namespace_reports s (state_after s (Put x ∷ [])) x.id.name o (Some x)) ends.there
        ∙ taken (begins_to_end ends.old x) _ _ begins

-- among others, which put these namespaces as on their way out
put_among : (s : State) (names : List (List ℕ)) (x : Object) → LeavesNow s x
    → marks_among s names (Put x) ≡ (if follows (forest_of s) names x.id.name then following_marks s x.id.name else (ending_marks s x.id.name ++ ending_reports (forest_of s) x.id.name))
put_among s names x ends =
    let f = forest_of s in
    let n : List ℕ = x.id.name in
    let all : List Key = marks_of s (Put x) in
    ap (λ o. if begins_by o (Some x) && (is_namespace x.id.kind && follows f names n) then following_marks s n else all) ends.there
    ∙ (λ i. if (ends.leaves i && not (ends.stood i)) && (ends.kind i && follows f names n) then following_marks s n else all)
    ∙ ap (λ marks. if follows f names n then following_marks s n else marks) (put_marks s x ends)

pub cut_marks : (s : State) (id : Id) → is_anchor id.kind ≡ true → marks_of s (Cut id) ≡ (anchor_keys id ++ leaving_keys (forest_of s) id.ns) ++ anchored_reports s id (object_at s.objects id) None
cut_marks s id is =
    let place = is_anchor_place id is in
    marks_parts s (Cut id)
    ∙ (λ i. marks_beside s (Cut id) ++ usage_elsewhere s (Cut id) (ap (λ (q : Id). is_namespace q.kind) place) (ap (λ (q : Id). is_hierarchy q.kind) place) (ap (λ (q : Id). is_quota q.kind) place) (ap (λ (q : Id). is_plain q.kind) place) i)
    ∙ append-nil (marks_beside s (Cut id))
    ∙ subst (λ (q : Id). marks_beside s (Cut q) ≡ (anchor_keys q ++ leaving_keys (forest_of s) q.ns) ++ anchored_reports s q (object_at s.objects q) None) (sym place) refl

-- ---- keys among keys

abbrev pub AreMarked : List Key → List Key → Type 0
AreMarked marks keys = (k : Key) → is_among k marks ≡ true → is_among k keys ≡ true

left_marked : (xs ys keys : List Key) → AreMarked (xs ++ ys) keys → AreMarked xs keys
left_marked xs ys keys marked k mem = marked k (among_append k xs ys ∙ or_left (is_among k xs) (is_among k ys) mem)

right_marked : (xs ys keys : List Key) → AreMarked (xs ++ ys) keys → AreMarked ys keys
right_marked xs ys keys marked k mem = marked k (among_append k xs ys ∙ or_right (is_among k xs) (is_among k ys) mem)

both_marked : (xs ys keys : List Key) → AreMarked xs keys → AreMarked ys keys → AreMarked (xs ++ ys) keys
both_marked xs ys keys left right k mem = elim (or_cases (is_among k xs) (is_among k ys) (sym (among_append k xs ys) ∙ mem)) [ inl here ↦ left k here | inr later ↦ right k later ]

-- what a namespace marks that follows its parent is a part of what it marks by itself
following_marked : (s : State) (n : List ℕ) (keys : List Key) → AreMarked (ending_marks s n ++ ending_reports (forest_of s) n) keys → AreMarked (following_marks s n) keys
following_marked s n keys all =
    let f = forest_of s in
    let below : List Key = flat_map (λ m. all_of s.objects (chain_of f m) m) (open_below f n) in
    let own : List Key = status_keys s.objects n ++ (usage_keys s.objects n ++ key.Purge n ∷ []) in
    let report : List Key = report_keys f n in
    let children : List Key = reports_of f (children_of f n) in
    let reports = right_marked (ending_marks s n) (ending_reports f n) keys all in
    both_marked own (report ++ children) keys
    (right_marked below own keys (left_marked (ending_marks s n) (ending_reports f n) keys all))
    (both_marked report children keys
    (left_marked report (children ++ reports_of f (open_below f n)) keys reports)
    (left_marked children (reports_of f (open_below f n)) keys (right_marked report (children ++ reports_of f (open_below f n)) keys reports)))

-- what a namespace marks among others: that, and all, where it doesn't follow its parent
abbrev IsPutMarked : State → List (List ℕ) → List Key → List ℕ → Type 0
IsPutMarked s names keys n = AreMarked (following_marks s n) keys × (follows (forest_of s) names n ≡ false → AreMarked (ending_marks s n ++ ending_reports (forest_of s) n) keys)

put_marked : (s : State) (names : List (List ℕ)) (x : Object) (keys : List Key) → LeavesNow s x → AreMarked (marks_among s names (Put x)) keys → IsPutMarked s names keys x.id.name
put_marked s names x keys ends marked = (
  elim (cases_Bool (follows (forest_of s) names x.id.name)) [ inl follow ↦ by true follow | inr top ↦ following_marked s x.id.name keys (by false top) ],
  λ top. by false top,
)
  where
    by : (b : Bool) → follows (forest_of s) names x.id.name ≡ b → AreMarked (if b then following_marks s x.id.name else (ending_marks s x.id.name ++ ending_reports (forest_of s) x.id.name)) keys
    by b is = subst (λ marks. AreMarked marks keys) (put_among s names x ends ∙ ap (λ c. if c then following_marks s x.id.name else (ending_marks s x.id.name ++ ending_reports (forest_of s) x.id.name)) is) marked

-- among others a write marks no more than by itself
pub among_within : (s : State) (names : List (List ℕ)) (w : Write) → IsLeavingWrite s w → AreMarked (marks_among s names w) (marks_of s w)
among_within s names (Cut id) ends = λ k mem. mem
among_within s names (Put x) ends = by (follows (forest_of s) names x.id.name) refl
  where
    by : (b : Bool) → follows (forest_of s) names x.id.name ≡ b → AreMarked (marks_among s names (Put x)) (marks_of s (Put x))
    by true is = subst (λ marks. AreMarked marks (marks_of s (Put x))) (sym (put_among s names x ends ∙ ap (λ c. if c then following_marks s x.id.name else (ending_marks s x.id.name ++ ending_reports (forest_of s) x.id.name)) is))
        (following_marked s x.id.name (marks_of s (Put x)) (λ k mem. ap (is_among k) (put_marks s x ends) ∙ mem))
    by false is = subst (λ marks. AreMarked marks (marks_of s (Put x))) (sym (put_among s names x ends ∙ ap (λ c. if c then following_marks s x.id.name else (ending_marks s x.id.name ++ ending_reports (forest_of s) x.id.name)) is))
        (λ k mem. ap (is_among k) (put_marks s x ends) ∙ mem)

cut_marked : (s : State) (id : Id) (keys : List Key) → is_anchor id.kind ≡ true → AreMarked (marks_of s (Cut id)) keys → AreMarked ((anchor_keys id ++ leaving_keys (forest_of s) id.ns) ++ anchored_reports s id (object_at s.objects id) None) keys
cut_marked s id keys is marked = subst (λ marks. AreMarked marks keys) (cut_marks s id is) marked

-- what writes mark which put these namespaces as on their way out
abbrev marks_with : State → List (List ℕ) → List Write → List Key
marks_with s names ws = flat_map (marks_among s names) ws

first_marked : (s : State) (names : List (List ℕ)) (w : Write) (ws : List Write) → AreMarked (marks_among s names w) (marks_with s names (w ∷ ws))
first_marked s names w ws k mem = among_append k (marks_among s names w) (marks_with s names ws) ∙ or_left (is_among k (marks_among s names w)) (is_among k (marks_with s names ws)) mem

later_marked : (s : State) (names : List (List ℕ)) (w : Write) (ws : List Write) → AreMarked (marks_with s names ws) (marks_with s names (w ∷ ws))
later_marked s names w ws k mem = among_append k (marks_among s names w) (marks_with s names ws) ∙ or_right (is_among k (marks_among s names w)) (is_among k (marks_with s names ws)) mem

-- ---- look-ups

-- an identity is written by one of some writes
record IsWritten (s : State) (names : List (List ℕ)) (ws : List Write) (found : Option Object) (q : Id) : Type 0 where
  write : Write
  is : id_written write ≡ q
  leaves : found ≡ object_written write
  ends : IsLeavingWrite s write
  marked : AreMarked (marks_among s names write) (marks_with s names ws)

widened : (s : State) (names : List (List ℕ)) (w : Write) (ws : List Write) (found : Option Object) (q : Id) → IsWritten s names ws found q → IsWritten s names (w ∷ ws) found q
widened s names w ws found q one = record { write = one.write; is = one.is; leaves = one.leaves; ends = one.ends; marked = λ k mem. later_marked s names w ws k (one.marked k mem) }

-- what is found under an identity is as before, or what one of the writes leaves
found_then : (s : State) (names : List (List ℕ)) (ws : List Write) (objects : Objects) (q : Id) → AllByRecursion (IsLeavingWrite s) ws
    → (object_at (after_writes ws objects) q ≡ object_at objects q) ⊎ IsWritten s names ws (object_at (after_writes ws objects) q) q
found_then s names [] objects q ends = inl refl
found_then s names (Put x ∷ ws) objects q ends = elim (found_then s names ws (put x objects) q ends.1) [
  | inr later ↦ inr (widened s names (Put x) ws (object_at (after_writes ws (put x objects)) q) q later)
  | inl same ↦ elim (cases_Bool (same_id q x.id)) [
    | inr off ↦ inl (same ∙ object_at-put x objects q ∙ ap (λ b. cond b (Some x) (object_at objects q)) off)
    | inl is ↦ inr (record {
      write = Put x;
      is = sym (is_same_id q x.id is);
      leaves = same ∙ object_at-put x objects q ∙ ap (λ b. cond b (Some x) (object_at objects q)) is;
      ends = ends.0;
      marked = first_marked s names (Put x) ws;
    })
  ]
]
found_then s names (Cut id ∷ ws) objects q ends = elim (found_then s names ws (cut id objects) q ends.1) [
  | inr later ↦ inr (widened s names (Cut id) ws (object_at (after_writes ws (cut id objects)) q) q later)
  | inl same ↦ elim (cases_Bool (same_id q id)) [
    | inr off ↦ inl (same ∙ object_at-cut id objects q ∙ ap (λ b. cond b None (object_at objects q)) off)
    | inl is ↦ inr (record {
      write = Cut id;
      is = sym (is_same_id q id is);
      leaves = same ∙ object_at-cut id objects q ∙ ap (λ b. cond b None (object_at objects q)) is;
      ends = ends.0;
      marked = first_marked s names (Cut id) ws;
    })
  ]
]

-- the name that a write puts as on its way out
ending_is : (s : State) (x : Object) (p : List ℕ) → LeavesNow s x → is_in p (ending_name (Put x)) ≡ true → p ≡ x.id.name
ending_is s x p ends mem = elim (or_cases (bytes_eq p x.id.name) false (sym (λ i. is_in p (if ends.kind i && ends.leaves i then x.id.name ∷ [] else [])) ∙ mem)) [
  | inl is ↦ is_same p x.id.name is
  | inr never ↦ absurd (true≢false (sym never))
]

-- a namespace that the writes put as on its way out is written by one of them
named_then : (s : State) (names : List (List ℕ)) (ws : List Write) (objects : Objects) (p : List ℕ) → AllByRecursion (MayWrite s) ws → AllByRecursion (IsLeavingWrite s) ws → is_in p (ending_names ws) ≡ true
    → IsWritten s names ws (object_at (after_writes ws objects) (namespace_id p)) (namespace_id p)
named_then s names [] objects p may ends mem = absurd (true≢false (sym mem))
named_then s names (Cut id ∷ ws) objects p may ends mem = widened s names (Cut id) ws (object_at (after_writes ws (cut id objects)) (namespace_id p)) (namespace_id p) (named_then s names ws (cut id objects) p may.1 ends.1 mem)
named_then s names (Put x ∷ ws) objects p may ends mem = elim (or_cases (is_in p (ending_name (Put x))) (is_in p (ending_names ws)) (sym (list_any-append (bytes_eq p) (ending_name (Put x)) (ending_names ws)) ∙ mem)) [
  | inr later ↦ widened s names (Put x) ws (object_at (after_writes ws (put x objects)) (namespace_id p)) (namespace_id p) (named_then s names ws (put x objects) p may.1 ends.1 later)
  | inl here ↦
      let is : x.id ≡ namespace_id p = namespace_is_homed x may.0.served ends.0.kind ∙ ap namespace_id (sym (ending_is s x p ends.0 here)) in
      elim (found_then s names ws (put x objects) (namespace_id p) ends.1) [
        | inr later ↦ widened s names (Put x) ws (object_at (after_writes ws (put x objects)) (namespace_id p)) (namespace_id p) later
        | inl same ↦ record {
          write = Put x;
          is = is;
          leaves = same ∙ ap (object_at (put x objects)) (sym is) ∙ object_at-put_itself x objects;
          ends = ends.0;
          marked = first_marked s names (Put x) ws;
        }
      ]
]

-- ---- what lies in a namespace

abbrev pub StaysInside : Objects → Objects → List ℕ → Type 0
StaysInside old new m = ((q : Id) → lies_in m q ≡ true → object_at new q ≡ object_at old q) × (least_in new m ≡ least_in old m)

inside_then : (s : State) (names : List (List ℕ)) (ws : List Write) (objects : Objects) (m : List ℕ) → AllByRecursion (IsLeavingWrite s) ws → StaysInside objects (after_writes ws objects) m ⊎ AreMarked (leaving_keys (forest_of s) m) (marks_with s names ws)
inside_then s names [] objects m ends = inl ((λ q lies. refl), refl)
inside_then s names (Put x ∷ ws) objects m ends = elim (inside_then s names ws (put x objects) m ends.1) [
  | inr marked ↦ inr (λ k mem. later_marked s names (Put x) ws k (marked k mem))
  | inl (same, least) ↦ inl ((λ q lies. same q lies ∙ other_at x objects q (false_from_ne_true (same_id q x.id) (λ h. true≢false (sym ends.0.kind ∙ sym (ap (λ (p : Id). is_namespace p.kind) (is_same_id q x.id h)) ∙ inside_leaf m q lies)))), least ∙ put_least x objects m (lies_nowhere m x.id ends.0.kind))
]
inside_then s names (Cut id ∷ ws) objects m ends = elim (inside_then s names ws (cut id objects) m ends.1) [
  | inr marked ↦ inr (λ k mem. later_marked s names (Cut id) ws k (marked k mem))
  | inl (same, least) ↦ elim (cases_Bool (lies_in m id)) [
    | inl lies ↦
        let here : m ≡ id.ns = is_same m id.ns (and_parts (not (is_in_cluster id.kind)) (bytes_eq m id.ns) lies).1 in
        let keys = marks_with s names (Cut id ∷ ws) in
        inr (subst (λ (n : List ℕ). AreMarked (leaving_keys (forest_of s) n) keys) (sym here)
        (right_marked (anchor_keys id) (leaving_keys (forest_of s) id.ns) keys
        (left_marked (anchor_keys id ++ leaving_keys (forest_of s) id.ns) (anchored_reports s id (object_at s.objects id) None) keys (cut_marked s id keys ends.0 (first_marked s names (Cut id) ws)))))
    | inr out ↦ inl ((λ q lies. same q lies ∙ cut_keeps id objects q (false_from_ne_true (same_id q id) (λ h. true≢false (sym lies ∙ ap (lies_in m) (is_same_id q id h) ∙ out)))), least ∙ cut_least id objects m out)
  ]
]

served_then : (s : State) (ws : List Write) (objects : Objects) → AllByRecursion (MayWrite s) ws → AllByRecursion IsServed objects → AllByRecursion IsServed (after_writes ws objects)
served_then s [] objects may all = all
served_then s (Put x ∷ ws) objects may all = served_then s ws (put x objects) may.1 (All-put IsServed x objects may.0.served all)
served_then s (Cut id ∷ ws) objects may all = served_then s ws (cut id objects) may.1 (All-cut IsServed id objects all)

-- ---- what is left

-- a namespace began to leave, and its keys are marked: those of what is below it where it doesn't follow its parent
pub record HasBegun (s t : State) (names : List (List ℕ)) (keys : List Key) (m : List ℕ) : Type 0 where
  pub old : Object
  pub new : Object
  pub there : object_at s.objects (namespace_id m) ≡ Some old
  pub stood : is_terminating old.payload ≡ false
  pub ends : object_at t.objects (namespace_id m) ≡ Some new
  pub leaves : is_terminating new.payload ≡ true
  pub annotation : subnamespace_parent new ≡ subnamespace_parent old
  pub own : AreMarked (following_marks s m) keys
  pub below : follows (forest_of s) names m ≡ false → AreMarked (ending_marks s m) keys × AreMarked (ending_reports (forest_of s) m) keys

-- the keys of an anchor that goes, and the report that changes by it
abbrev pub IsCutMarked : State → List Key → Id → Type 0
IsCutMarked s keys id = AreMarked (anchor_keys id) keys × AreMarked (anchored_reports s id (object_at s.objects id) None) keys

-- these namespaces began to leave, and all else is as it was, but for anchors that are gone, whose keys are marked
pub record HasEnded (s t : State) (names : List (List ℕ)) (keys : List Key) : Type 0 where
  pub excluded : t.config.excluded ≡ s.config.excluded
  pub served : AllByRecursion IsServed t.objects
  pub ascending : ascends t.objects ≡ true
  pub others : (q : Id) → is_namespace q.kind ≡ false → is_anchor q.kind ≡ false → object_at t.objects q ≡ object_at s.objects q
  pub homes : (m : List ℕ) → (object_at t.objects (namespace_id m) ≡ object_at s.objects (namespace_id m)) ⊎ HasBegun s t names keys m
  pub each : (p : List ℕ) → is_in p names ≡ true → HasBegun s t names keys p
  pub anchors : (m name : List ℕ) → (object_at t.objects (anchor_id m name) ≡ object_at s.objects (anchor_id m name)) ⊎ ((object_at t.objects (anchor_id m name) ≡ None) × IsCutMarked s keys (anchor_id m name))
  pub inside : (m : List ℕ) → StaysInside s.objects t.objects m ⊎ AreMarked (leaving_keys (forest_of s) m) keys

module _ (s : State) (names : List (List ℕ)) (ws : List Write) (ends : AllByRecursion (IsLeavingWrite s) ws) where
  abbrev new : Objects
  new = after_writes ws s.objects

  abbrev keys : List Key
  keys = marks_with s names ws

  abbrev after : ℕ → WindowView → State
  after last window = record s { objects = new; last = last; window = window }

  begun : (m : List ℕ) (last : ℕ) (window : WindowView) → IsWritten s names ws (object_at new (namespace_id m)) (namespace_id m) → HasBegun s (after last window) names keys m
  begun m last window one = by one.write one.is one.leaves one.ends one.marked
    where
      by : (write : Write) → id_written write ≡ namespace_id m → object_at new (namespace_id m) ≡ object_written write → IsLeavingWrite s write → AreMarked (marks_among s names write) keys → HasBegun s (after last window) names keys m
      by (Put x) is leaves end marked = record {
        old = end.old;
        new = x;
        there = ap (object_at s.objects) (sym is) ∙ end.there;
        stood = end.stood;
        ends = leaves;
        leaves = end.leaves;
        annotation = end.annotation;
        own = all.0;
        below = λ top. (
          left_marked (ending_marks s m) (ending_reports (forest_of s) m) keys (all.1 top),
          right_marked (ending_marks s m) (ending_reports (forest_of s) m) keys (all.1 top),
        );
      }
        where
          all : IsPutMarked s names keys m
          all = subst (λ (q : Id). IsPutMarked s names keys q.name) is (put_marked s names x keys end marked)
      by (Cut id) is leaves end marked = absurd (true≢false (sym end ∙ ap (λ (q : Id). is_anchor q.kind) is))

  gone : (m name : List ℕ) → IsWritten s names ws (object_at new (anchor_id m name)) (anchor_id m name) → (object_at new (anchor_id m name) ≡ None) × IsCutMarked s keys (anchor_id m name)
  gone m name one = by one.write one.is one.leaves one.ends one.marked
    where
      by : (write : Write) → id_written write ≡ anchor_id m name → object_at new (anchor_id m name) ≡ object_written write → IsLeavingWrite s write → AreMarked (marks_among s names write) keys → (object_at new (anchor_id m name) ≡ None) × IsCutMarked s keys (anchor_id m name)
      by (Put x) is leaves end marked = absurd (true≢false (sym end.kind ∙ ap (λ (q : Id). is_namespace q.kind) is))
      by (Cut id) is leaves end marked =
          let all = cut_marked s id keys end marked in (
            leaves,
            subst (IsCutMarked s keys) is (
              left_marked (anchor_keys id) (leaving_keys (forest_of s) id.ns) keys (left_marked (anchor_keys id ++ leaving_keys (forest_of s) id.ns) (anchored_reports s id (object_at s.objects id) None) keys all),
              right_marked (anchor_keys id ++ leaving_keys (forest_of s) id.ns) (anchored_reports s id (object_at s.objects id) None) keys all,
            ),
          )

  apart : (q : Id) → is_namespace q.kind ≡ false → is_anchor q.kind ≡ false → IsWritten s names ws (object_at new q) q → ⊥
  apart q leaf other one = by one.write one.is one.ends
    where
      by : (write : Write) → id_written write ≡ q → IsLeavingWrite s write → ⊥
      by (Put x) is end = true≢false (sym end.kind ∙ ap (λ (p : Id). is_namespace p.kind) is ∙ leaf)
      by (Cut id) is end = true≢false (sym end ∙ ap (λ (p : Id). is_anchor p.kind) is ∙ other)

  pub ended_with : (last : ℕ) (window : WindowView) → IsValid s → AllByRecursion (MayWrite s) ws → ((p : List ℕ) → is_in p names ≡ true → is_in p (ending_names ws) ≡ true) → HasEnded s (after last window) names keys
  ended_with last window valid may named = record {
    excluded = refl;
    served = served_then s ws s.objects may (valid_served s valid);
    ascending = ascends_after ws s.objects valid.in_order;
    others = λ q leaf other. elim (found_then s names ws s.objects q ends) [ inl same ↦ same | inr one ↦ absurd (apart q leaf other one) ];
    homes = λ m. elim (found_then s names ws s.objects (namespace_id m) ends) [ inl same ↦ inl same | inr one ↦ inr (begun m last window one) ];
    each = λ p mem. begun p last window (named_then s names ws s.objects p may ends (named p mem));
    anchors = λ m name. elim (found_then s names ws s.objects (anchor_id m name) ends) [ inl same ↦ inl same | inr one ↦ inr (gone m name one) ];
    inside = λ m. inside_then s names ws s.objects m ends;
  }

pub has_ended : (s : State) (ws : List Write) → IsValid s → MayWriteAll s ws → AllByRecursion (IsLeavingWrite s) ws → HasEnded s (state_after s ws) (ending_names ws) (all_marks s ws)
has_ended s [] valid may ends = ended_with s [] [] ends s.last s.window valid may.each (λ p mem. mem)
has_ended s (w ∷ ws) valid may ends = ended_with s (ending_names (w ∷ ws)) (w ∷ ws) ends (s.last + 1) _ valid may.each (λ p mem. mem)
