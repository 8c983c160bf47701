-- What a write of a source marks as a whole, and writes that leave the tree.
--     open_distinct     the names of those that take part in a subtree are distinct
--     tree_stays        writes of no namespace and of no HierarchyConfiguration leave the tree
--     only_one          a list of one write
--     commit_leaves     a write that is marked as a whole leaves the tree, too
--     commit_named      its keys are those of the subtree, and the others
--     told              what is told of a write that may be marked so
use Rattle.std.proofs.Common.{◌≡◌, ℕ, Bool, true, false, not, ◌&&◌, ◌||◌, Option, Some, None, List, [], ◌∷◌, ◌++◌, length, get_or, ◌<◌, ◌≤◌, Result, Ok, Err, refl, arith, sym, ap, ◌∙◌, subst, true≢false}
use Rattle.std.specs.Prelude.{if◌then◌else◌, IfOk, IfSome}
use Rattle.std.specs.List.{list_all, IsDistinct}
use Rattle.std.specs.Str.{bytes_eq}
use Rattle.std.proofs.lemmas.Bool.{and_parts, and_from}
use Rattle.std.proofs.lemmas.List.{append-nil, append_assoc}
use Rattle.hx_object.specs.Kinds.{can_be_copied, is_namespace, is_hierarchy}
use Rattle.hx_object.specs.declared.kind.Kind.{Kind}
use Rattle.hx_object.specs.declared.kind.Kind.TheVariants as of
use Rattle.hx_object.specs.declared.object.Id.{Id}
use Rattle.hx_object.specs.declared.object.Mode.{Mode}
use Rattle.hx_object.specs.declared.object.Mode.TheVariants.{Ignore}
use Rattle.hx_object.specs.declared.object.Object.{Object}
use Rattle.hx_model.specs.Forest.{Forest, in_chain, names_of, subtree_of}
use Rattle.hx_model.specs.Keys.{is_among}
use Rattle.hx_model.specs.Moves.{mode_at}
use Rattle.hx_model.specs.State.{State, Objects, object_at, after_writes, state_after}
use Rattle.hx_model.specs.Tree.{forest_in, forest_of}
use Rattle.hx_model.specs.TreeLabels.{is_open}
use Rattle.hx_model.specs.Valid.{IsValid}
use Rattle.hx_model.specs.Writes.{id_written, MayWriteAll}
use Rattle.hx_model.specs.declared.key.Key.{Key}
use Rattle.hx_model.specs.declared.key.Write.{Write}
use Rattle.hx_model.specs.declared.key.Write.TheVariants.{Put, Cut}
use Rattle.hx_model.proofs.Planting.{forest-put, forest-cut}
use Rattle.hx_model.proofs.Walking.{IsDistinct-filter}
use Rattle.hx_forest.proofs.Ascending.{distinct_names}
use Rattle.hx_forest.proofs.Listing.{names_sorted}
use Rattle.hx_marks.specs.Before.{marks_before, marks_before_among, marks_before_by}
use Rattle.hx_marks.specs.Law.{all_marks, begins_by, ending_names, following_marks, follows, is_any_sent, is_ignored, leaving_keys, object_marks, object_written, open_below, place_marks}
use Rattle.hx_marks.specs.Spread.{IsSpread, beside_marks, is_beside_tree, spread_keys}
use Rattle.hx_marks.specs.Usage.{charged_usage}
use Rattle.hx_marks.proofs.Among.{among_append}
use Rattle.hx_marks.proofs.EndingHalting.{forest_ascends}
use Rattle.hx_marks.proofs.Reading.{all_read}
use Rattle.hx_marks.proofs.Replacing.{valid_served, copied_leaf}

-- ---- names

pub open_distinct : (s : State) (f : Forest) (n : List ℕ) (names : List (List ℕ)) → IsValid s → f ≡ forest_of s → names ≡ open_below f n → IsDistinct bytes_eq names
open_distinct s f n names valid tree are =
    let all : IsDistinct bytes_eq (names_of (forest_of s)) = distinct_names (names_of (forest_of s)) (names_sorted (forest_of s) (forest_ascends s valid.in_order (valid_served s valid))) in
    let once : IsDistinct bytes_eq (names_of f) = subst (λ (g : Forest). IsDistinct bytes_eq (names_of g)) (sym tree) all in
    subst (λ (xs : List (List ℕ)). IsDistinct bytes_eq xs) (sym are) (IsDistinct-filter (is_open f) (subtree_of f n) (IsDistinct-filter (λ m. in_chain f m n) (names_of f) once))

-- ---- the tree

not_true : (b : Bool) → not b ≡ true → b ≡ false
not_true true h = absurd (true≢false (sym h))
not_true false h = refl

objects_stay : (ex : List (List ℕ)) (writes : List Write) (objects : Objects) → list_all is_beside_tree writes ≡ true → forest_in ex (after_writes writes objects) ≡ forest_in ex objects
objects_stay ex [] objects h = refl
objects_stay ex (Put x ∷ writes) objects h =
    let parts = and_parts (is_beside_tree (Put x)) (list_all is_beside_tree writes) h in
    let kind = and_parts (not (is_namespace x.id.kind)) (not (is_hierarchy x.id.kind)) parts.0 in
    objects_stay ex writes _ parts.1 ∙ forest-put ex x objects (not_true (is_namespace x.id.kind) kind.0) (not_true (is_hierarchy x.id.kind) kind.1)
objects_stay ex (Cut id ∷ writes) objects h =
    let parts = and_parts (is_beside_tree (Cut id)) (list_all is_beside_tree writes) h in
    let kind = and_parts (not (is_namespace id.kind)) (not (is_hierarchy id.kind)) parts.0 in
    objects_stay ex writes _ parts.1 ∙ forest-cut ex id objects (not_true (is_namespace id.kind) kind.0) (not_true (is_hierarchy id.kind) kind.1)

pub tree_stays : (writes : List Write) → list_all is_beside_tree writes ≡ true → (s : State) → forest_of (state_after s writes) ≡ forest_of s
tree_stays [] h s = refl
tree_stays (write ∷ writes) h s = objects_stay s.config.excluded (write ∷ writes) s.objects h

copied_beside : (kind : Kind) → can_be_copied kind ≡ true → (not (is_namespace kind) && not (is_hierarchy kind)) ≡ true
copied_beside of.Namespace e = absurd (true≢false (sym e))
copied_beside of.HierarchyConfiguration e = absurd (true≢false (sym e))
copied_beside _ e = refl

spread_leaves : (s : State) (write : Write) (id : Id) (others : List Key) → IsSpread s write id others → forest_of (state_after s (write ∷ [])) ≡ forest_of s
spread_leaves s write id others spread = tree_stays (write ∷ []) (and_from (is_beside_tree write) true (copied_beside (id_written write).kind spread.copied) refl) s

-- ---- marks

-- of a kind that is ignored nothing is sent
ignored_stays : (old new : Option Object) → is_any_sent Ignore old new ≡ false
ignored_stays None None = refl
ignored_stays None (Some x) = refl
ignored_stays (Some y) None = refl
ignored_stays (Some y) (Some x) = refl

counts : (mode : Mode) (old new : Option Object) → is_any_sent mode old new ≡ true → is_ignored mode ≡ false
counts Ignore old new sent = absurd (true≢false (sym sent ∙ ignored_stays old new))
counts _ old new sent = refl

-- its places are all in the subtree that take part
places : (s : State) (id : Id) (old new : Option Object) → can_be_copied id.kind ≡ true → is_any_sent (mode_at s.objects id.kind) old new ≡ true
    → object_marks s id old new ≡ spread_keys (open_below (forest_of s) id.ns) id
places s id old new copied sent =
    (λ i. if copied i && not (counts (mode_at s.objects id.kind) old new sent i) then place_marks (forest_of s) (is_any_sent (mode_at s.objects id.kind) old new) id else [])
    ∙ ap (λ b. place_marks (forest_of s) b id) sent

-- an object of such a kind marks its places, and what is beside them
by_kind : (s : State) (kind : Kind) (ns name : List ℕ) (old new : Option Object) → can_be_copied kind ≡ true
    → marks_before_by s (record { kind = kind; ns = ns; name = name }) old new
    ≡ (object_marks s (record { kind = kind; ns = ns; name = name }) old new ++ leaving_keys (forest_of s) ns) ++ charged_usage s ns old new
by_kind s of.Namespace ns name old new copied = absurd (true≢false (sym copied))
by_kind s of.HncConfiguration ns name old new copied = absurd (true≢false (sym copied))
by_kind s of.HierarchyConfiguration ns name old new copied = absurd (true≢false (sym copied))
by_kind s of.SubnamespaceAnchor ns name old new copied = absurd (true≢false (sym copied))
by_kind s of.HierarchicalResourceQuota ns name old new copied = absurd (true≢false (sym copied))
by_kind s _ ns name old new copied = refl

beside_parts : (s : State) (id : Id) (old new : Option Object) → can_be_copied id.kind ≡ true → is_any_sent (mode_at s.objects id.kind) old new ≡ true
    → marks_before_by s id old new ≡ spread_keys (open_below (forest_of s) id.ns) id ++ beside_marks s id old new
beside_parts s id old new copied sent =
    by_kind s id.kind id.ns id.name old new copied
    ∙ append_assoc (object_marks s id old new) (leaving_keys (forest_of s) id.ns) (charged_usage s id.ns old new)
    ∙ ap (λ (keys : List Key). keys ++ beside_marks s id old new) (places s id old new copied sent)

-- no namespace is on its way out by it
alone : (s : State) (names : List (List ℕ)) (write : Write) → is_namespace (id_written write).kind ≡ false → marks_before_among s names write ≡ marks_before s write
alone s names write leaf =
    let id = id_written write in
    let begins : Bool = begins_by (object_at s.objects id) (object_written write) in
    (λ i. if begins && (leaf i && follows (forest_of s) names id.name) then following_marks s id.name else marks_before s write)
    ∙ ap (λ b. if b then following_marks s id.name else marks_before s write) (never begins)
  where
    never : (b : Bool) → (b && false) ≡ false
    never true = refl
    never false = refl

turned : (a b : Bool) → (a || b) ≡ (b || a)
turned true true = refl
turned true false = refl
turned false true = refl
turned false false = refl

spread_named : (s : State) (write : Write) (id : Id) (others : List Key) → IsValid s → MayWriteAll s (write ∷ []) → IsSpread s write id others
    → (k : Key) → is_among k (all_marks s (write ∷ [])) ≡ (is_among k others || is_among k (spread_keys (open_below (forest_of s) id.ns) id))
spread_named s write id others valid may spread k =
    let q = id_written write in
    let old = object_at s.objects q in
    let new = object_written write in
    let names = ending_names (write ∷ []) in
    let keys = spread_keys (open_below (forest_of s) q.ns) q in
    let beside = beside_marks s q old new in
    let is : all_marks s (write ∷ []) ≡ keys ++ beside =
    all_read s valid names (write ∷ []) may.each
    ∙ append-nil (marks_before_among s names write)
    ∙ alone s names write (copied_leaf q.kind spread.copied)
    ∙ beside_parts s q old new spread.copied spread.sent in
    ap (is_among k) is
    ∙ among_append k keys beside
    ∙ turned (is_among k keys) (is_among k beside)
    ∙ (λ i. is_among k (sym spread.beside i) || is_among k (spread_keys (open_below (forest_of s) (sym spread.whose i).ns) (sym spread.whose i)))

-- ---- the writes of a commit

pub only_one : (writes : List Write) (write : Write) → 1 ≤ length writes → length writes < 2 → write ≡ get_or writes 0 write → writes ≡ write ∷ []
only_one [] write some few is = absurd (omega (arith, some))
only_one (w ∷ []) write some few is = ap (λ (x : Write). x ∷ []) (sym is)
only_one (w ∷ x ∷ writes) write some few is = absurd (omega (arith, few))

pub told : {A E : Type 0} (r : Result (Option A) E) (P Q : A → Type 0) → ((x : A) → P x → Q x) → IfOk r (λ o. IfSome o P) → IfOk r (λ o. IfSome o Q)
told (Ok (Some x)) P Q step h = step x h
told (Ok None) P Q step h = tt
told (Err e) P Q step h = tt

module _ (s : State) (f : Forest) (writes : List Write) (write : Write) (tree : f ≡ forest_of s) (one : writes ≡ write ∷ []) (id : Id) (others : List Key) (spread : IsSpread s write id others) where
  pub commit_leaves : forest_of (state_after s writes) ≡ f
  commit_leaves = ap (λ ws. forest_of (state_after s ws)) one ∙ spread_leaves s write id others spread ∙ sym tree

  pub commit_named : IsValid s → MayWriteAll s writes → (k : Key) → is_among k (all_marks s writes) ≡ (is_among k others || is_among k (spread_keys (open_below f id.ns) id))
  commit_named valid may k =
      ap (λ ws. is_among k (all_marks s ws)) one
      ∙ spread_named s write id others valid (subst (MayWriteAll s) one may) spread k
      ∙ ap (λ (g : Forest). is_among k others || is_among k (spread_keys (open_below g id.ns) id)) (sym tree)
