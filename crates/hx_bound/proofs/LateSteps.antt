-- What a write of tree labels, a copy, a report, a status or usage leaves.
--     kinds_differ    identities of which one is of such a kind, and the other isn't, are two
--     place_of        the identity that such a key writes
--     IsLateStep      the tree stays, each other object, and which namespaces and anchors are there
--     late_step       so it is for each such key
use Rattle.std.proofs.Common.{◌≡◌, ℕ, ◌+◌, Bool, true, false, Some, option_map, List, [], ◌∷◌, inl, inr, refl, sym, ap, ◌∙◌, subst, true≢false}
use Rattle.std.specs.Option.{option_map_or}
use Rattle.std.specs.Prelude.{is_some, option_and_then}
use Rattle.std.proofs.lemmas.Bool.{cases_Bool, false_from_ne_true}
use Rattle.hx_object.specs.Kinds.{can_be_copied, is_anchor, is_hierarchy, is_namespace}
use Rattle.hx_object.specs.declared.kind.Kind.{Kind}
use Rattle.hx_object.specs.declared.kind.Kind.TheVariants as of
use Rattle.hx_object.specs.declared.object.Id.{Id}
use Rattle.hx_object.specs.declared.object.Object.{Object}
use Rattle.hx_model.specs.First.{or_else}
use Rattle.hx_model.specs.Forest.{chain_of, parent_of, with_parent}
use Rattle.hx_model.specs.Hands.{versioned}
use Rattle.hx_model.specs.Propagation.{id_in}
use Rattle.hx_model.specs.State.{State, Objects, ascends, object_at, same_id, namespace_id, put, with_version, after_writes, state_after}
use Rattle.hx_model.specs.Subnamespaces.{anchor_id}
use Rattle.hx_model.specs.Tree.{forest_in, forest_of, hierarchy_id, named_parent, node_in, parent_with, subnamespace_parent}
use Rattle.hx_model.specs.Valid.{IsValid}
use Rattle.hx_model.specs.Wanted.{labelled, quota_id, anchor_status, sums_of, with_status_of, with_sums}
use Rattle.hx_model.specs.Writes.{id_written}
use Rattle.hx_model.specs.declared.key.Key.{Key}
use Rattle.hx_model.specs.declared.key.Key.TheVariants as key
use Rattle.hx_model.specs.declared.key.Write.{Write}
use Rattle.hx_model.specs.declared.key.Write.TheVariants.{Put, Cut}
use Rattle.hx_model.specs.declared.node.Node.{Node}
use Rattle.hx_model.proofs.Displacing.{KeepsOthers, cut_keeps, put_keeps, with_same_parent}
use Rattle.hx_model.proofs.Objects.{found_again, found_id, is_same_id}
use Rattle.hx_model.proofs.Planting.{forest-cut, forest-put, node_of-objects}
use Rattle.hx_model.proofs.Writes.{ascends_after}
use Rattle.hx_marks.proofs.Making.{IsCopyWrite, copy_write_known, IsTreeWrite, tree_write_known, IsStatusWrite, status_write_known, IsUsedWrite, used_write_known}
use Rattle.hx_marks.proofs.MoveLaw.{MovesTree, put_moves}
use Rattle.hx_marks.proofs.Replacing.{copied_leaf, replaced_forest, valid_served}
use Rattle.hx_marks.proofs.ReportWrites.{IsReportWrite, report_write_known}
use Rattle.hx_bound.specs.Bound.{Writes, next_of}
use Rattle.hx_bound.specs.Rank.{is_early}

-- ---- identities

pub kinds_differ : (test : Kind → Bool) (p q : Id) → test p.kind ≡ true → test q.kind ≡ false → same_id p q ≡ false
kinds_differ test p q is out = false_from_ne_true (same_id p q) (λ h. true≢false (sym is ∙ ap (λ (r : Id). test r.kind) (is_same_id p q h) ∙ out))

-- a kind that can be copied is no anchor's and no HierarchyConfiguration's
pub copied_anchor : (kind : Kind) → can_be_copied kind ≡ true → is_anchor kind ≡ false
copied_anchor of.SubnamespaceAnchor e = absurd (true≢false (sym e))
copied_anchor _ e = refl

copied_hierarchy : (kind : Kind) → can_be_copied kind ≡ true → is_hierarchy kind ≡ false
copied_hierarchy of.HierarchyConfiguration e = absurd (true≢false (sym e))
copied_hierarchy _ e = refl

-- the identity that a key writes; a removal takes one of several
abbrev pub place_of : Key → Id
place_of (key.Tree n) = namespace_id n
place_of (key.Copy n kind name) = id_in kind name n
place_of (key.Report n) = hierarchy_id n
place_of (key.Anchor n m) = anchor_id n m
place_of (key.Used n name) = quota_id n name
place_of (key.Child n m) = namespace_id m
place_of (key.Purge n) = namespace_id n

-- ---- what stays

-- the tree, all objects but that of one identity, and which namespaces and anchors are there
pub record IsLateStep (s t : State) (q : Id) : Type 0 where
  pub tree : forest_of t ≡ forest_of s
  pub config : t.config ≡ s.config
  pub up : ascends s.objects ≡ true
  pub ascending : ascends t.objects ≡ true
  pub others : KeepsOthers q s.objects t.objects
  pub names : (m : List ℕ) → is_some (object_at t.objects (namespace_id m)) ≡ is_some (object_at s.objects (namespace_id m))
  pub anchors : (n m : List ℕ) → is_some (object_at t.objects (anchor_id n m)) ≡ is_some (object_at s.objects (anchor_id n m))

-- where the object was there, and is, all that are there are
presence : (old new : Objects) (q : Id) → KeepsOthers q old new → is_some (object_at new q) ≡ is_some (object_at old q) → (p : Id) → is_some (object_at new p) ≡ is_some (object_at old p)
presence old new q keeps here p = elim (cases_Bool (same_id p q)) [
  | inl same ↦ let is = is_same_id p q same in ap (λ r. is_some (object_at new r)) is ∙ here ∙ sym (ap (λ r. is_some (object_at old r)) is)
  | inr apart ↦ ap is_some (keeps p apart)
]

-- an object in the place of another one
replaced_step : (s : State) (y : Object) (q : Id) (old : Object) → ascends s.objects ≡ true → y.id ≡ q → object_at s.objects q ≡ Some old → forest_of (state_after s (Put y ∷ [])) ≡ forest_of s → IsLateStep s (state_after s (Put y ∷ [])) q
replaced_step s y q old up place there tree =
    let keeps : KeepsOthers q s.objects (put y s.objects) = put_keeps y q s.objects place in
    let found : object_at (put y s.objects) q ≡ Some y = ap (object_at (put y s.objects)) (sym place) ∙ found_again y s.objects in
    let stays = presence s.objects (put y s.objects) q keeps (ap is_some found ∙ sym (ap is_some there)) in
    record { tree = tree; config = refl; up = up; ascending = ascends_after (Put y ∷ []) s.objects up; others = keeps; names = λ m. stays (namespace_id m); anchors = λ n m. stays (anchor_id n m) }

-- one that is no namespace and no anchor
leaf_step : (s : State) (w : Write) (q : Id) → ascends s.objects ≡ true → KeepsOthers q s.objects (after_writes (w ∷ []) s.objects) → forest_of (state_after s (w ∷ [])) ≡ forest_of s → is_namespace q.kind ≡ false → is_anchor q.kind ≡ false → IsLateStep s (state_after s (w ∷ [])) q
leaf_step s w q up keeps tree leaf plain =
    by w keeps tree
  where
    by : (w : Write) → KeepsOthers q s.objects (after_writes (w ∷ []) s.objects) → forest_of (state_after s (w ∷ [])) ≡ forest_of s → IsLateStep s (state_after s (w ∷ [])) q
    by w keeps tree = record {
      tree = tree;
      config = refl;
      up = up;
      ascending = ascends_after (w ∷ []) s.objects up;
      others = keeps;
      names = λ m. ap is_some (keeps (namespace_id m) (kinds_differ is_namespace (namespace_id m) q refl leaf));
      anchors = λ n m. ap is_some (keeps (anchor_id n m) (kinds_differ is_anchor (anchor_id n m) q refl plain));
    }

-- ---- copies

copy_step : (s : State) (n : List ℕ) (kind : Kind) (name : List ℕ) (write : Write) (version : ℕ) → ascends s.objects ≡ true → IsCopyWrite s n kind name write → IsLateStep s (state_after s (versioned version write ∷ [])) (id_in kind name n)
copy_step s n kind name write version up known = by write known.place
  where
    leaf : is_namespace kind ≡ false
    leaf = copied_leaf kind known.copied

    apart : is_hierarchy kind ≡ false
    apart = copied_hierarchy kind known.copied

    by : (w : Write) → id_written w ≡ id_in kind name n → IsLateStep s (state_after s (versioned version w ∷ [])) (id_in kind name n)
    by (Put x) place =
        leaf_step s (Put (with_version x version)) (id_in kind name n) up (put_keeps (with_version x version) (id_in kind name n) s.objects place)
        (forest-put s.config.excluded (with_version x version) s.objects (ap (λ (q : Id). is_namespace q.kind) place ∙ leaf) (ap (λ (q : Id). is_hierarchy q.kind) place ∙ apart)) leaf (copied_anchor kind known.copied)
    by (Cut id) place =
        leaf_step s (Cut id) (id_in kind name n) up (subst (λ (q : Id). KeepsOthers q s.objects (after_writes (Cut id ∷ []) s.objects)) place (cut_keeps id s.objects))
        (forest-cut s.config.excluded id s.objects (ap (λ (q : Id). is_namespace q.kind) place ∙ leaf) (ap (λ (q : Id). is_hierarchy q.kind) place ∙ apart)) leaf (copied_anchor kind known.copied)

-- ---- tree labels

tree_step : (s : State) (n : List ℕ) (write : Write) (version : ℕ) → IsValid s → IsTreeWrite s n write → IsLateStep s (state_after s (versioned version write ∷ [])) (namespace_id n)
tree_step s n write version valid known =
    let x = known.home in
    let y = with_version (labelled (chain_of (forest_of s) n) x) version in
    let id : namespace_id n ≡ x.id = found_id s.objects (namespace_id n) x known.there in
    let is : is_namespace y.id.kind ≡ true = ap (λ (q : Id). is_namespace q.kind) (sym id) in
    let there : object_at s.objects y.id ≡ Some x = ap (object_at s.objects) (sym id) ∙ known.there in
    subst (λ w. IsLateStep s (state_after s (versioned version w ∷ [])) (namespace_id n)) (sym known.puts)
    (replaced_step s y (namespace_id n) x valid.in_order (sym id) known.there (replaced_forest s y x valid refl is there refl))

-- ---- reports

-- the parent of a namespace that is there
parent_there : (s : State) (n : List ℕ) (home : Object) → IsValid s → object_at s.objects (namespace_id n) ≡ Some home → parent_of (forest_of s) n ≡ parent_with (object_at s.objects (hierarchy_id n)) home
parent_there s n home valid there =
    ap (λ o. option_and_then (λ (node : Node). node.parent) o) (node_of-objects s.config.excluded s.objects n (valid_served s valid) ∙ ap (option_map (node_in s.config.excluded s.objects)) there)
    ∙ ap (λ (q : Id). parent_with (object_at s.objects (hierarchy_id q.name)) home) (sym (found_id s.objects (namespace_id n) home there))

report_step : (s : State) (n : List ℕ) (write : Write) (version : ℕ) → IsValid s → IsReportWrite s n write → IsLateStep s (state_after s (versioned version write ∷ [])) (hierarchy_id n)
report_step s n write version valid known =
    let f = forest_of s in
    let y = with_version known.report version in
    let place : y.id ≡ hierarchy_id n = known.place in
    let moves : forest_of (state_after s (Put y ∷ [])) ≡ with_parent n (or_else (subnamespace_parent known.home) (named_parent known.report)) f = moved y place (put_moves s valid y (ap (λ (q : Id). is_hierarchy q.kind) place)) in
    let parent : or_else (subnamespace_parent known.home) (named_parent known.report) ≡ parent_of f n = ap (or_else (subnamespace_parent known.home)) known.given ∙ sym (parent_there s n known.home valid known.there) in
    let tree : forest_of (state_after s (Put y ∷ [])) ≡ f = moves ∙ ap (λ p. with_parent n p f) parent ∙ with_same_parent s valid n known.home known.there in
    subst (λ w. IsLateStep s (state_after s (versioned version w ∷ [])) (hierarchy_id n)) (sym known.puts)
    (leaf_step s (Put y) (hierarchy_id n) valid.in_order (put_keeps y (hierarchy_id n) s.objects place) tree refl refl)
  where
    moved : (y : Object) → y.id ≡ hierarchy_id n → MovesTree s y.id (named_parent y) (put y s.objects) → forest_in s.config.excluded (put y s.objects) ≡ with_parent n (or_else (subnamespace_parent known.home) (named_parent y)) (forest_of s)
    moved y place moves = subst (λ (q : Id). MovesTree s q (named_parent y) (put y s.objects)) place moves ∙ ap (λ o. option_map_or (λ home. with_parent n (or_else (subnamespace_parent home) (named_parent y)) (forest_of s)) o (forest_of s)) known.there

-- ---- statuses and usage

status_step : (s : State) (n m : List ℕ) (write : Write) (version : ℕ) → ascends s.objects ≡ true → IsStatusWrite s n m write → IsLateStep s (state_after s (versioned version write ∷ [])) (anchor_id n m)
status_step s n m write version up known =
    let x = known.anchor in
    let y = with_version (with_status_of (anchor_status s n m) x) version in
    let id : anchor_id n m ≡ x.id = found_id s.objects (anchor_id n m) x known.there in
    subst (λ w. IsLateStep s (state_after s (versioned version w ∷ [])) (anchor_id n m)) (sym known.puts)
    (replaced_step s y (anchor_id n m) x up (sym id) known.there (forest-put s.config.excluded y s.objects (ap (λ (q : Id). is_namespace q.kind) (sym id)) (ap (λ (q : Id). is_hierarchy q.kind) (sym id))))

used_step : (s : State) (n m : List ℕ) (write : Write) (version : ℕ) → ascends s.objects ≡ true → IsUsedWrite s n m write → IsLateStep s (state_after s (versioned version write ∷ [])) (quota_id n m)
used_step s n m write version up known =
    let x = known.quota in
    let y = with_version (with_sums (sums_of s n (Some x)) x) version in
    let id : quota_id n m ≡ x.id = found_id s.objects (quota_id n m) x known.there in
    subst (λ w. IsLateStep s (state_after s (versioned version w ∷ [])) (quota_id n m)) (sym known.puts)
    (replaced_step s y (quota_id n m) x up (sym id) known.there (forest-put s.config.excluded y s.objects (ap (λ (q : Id). is_namespace q.kind) (sym id)) (ap (λ (q : Id). is_hierarchy q.kind) (sym id))))

-- ---- each of them

pub late_step : (s : State) (k : Key) (write : Write) → Writes s k write → is_early k ≡ false → IsLateStep s (next_of s write) (place_of k)
late_step s (key.Tree n) write w late = tree_step s n write (s.last + 1) w.valid (tree_write_known s n write w.wants)
late_step s (key.Copy n kind name) write w late = copy_step s n kind name write (s.last + 1) w.valid.in_order (copy_write_known s n kind name write w.wants)
late_step s (key.Report n) write w late = report_step s n write (s.last + 1) w.valid (report_write_known s n write w.valid w.wants)
late_step s (key.Anchor n m) write w late = status_step s n m write (s.last + 1) w.valid.in_order (status_write_known s n m write w.wants)
late_step s (key.Used n name) write w late = used_step s n name write (s.last + 1) w.valid.in_order (used_write_known s n name write w.wants)
late_step s (key.Child n m) write w late = absurd (true≢false late)
late_step s (key.Purge n) write w late = absurd (true≢false late)
