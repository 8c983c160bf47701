-- What a HierarchyConfiguration that is written leaves of the keys' writes.
--     none_from              an option that isn't anything is none
--     spot, wanted_at        the namespace of a key, and what the key wants by its chain and whether it takes part
--     wanted_in              the same in a tree
--     at_closed, at_known    it wants nothing where it takes no part, and else what is among those that may
--     other_kind             what is no HierarchyConfiguration stays
--     same_for               where the tree tells the same, the key wants the same. That a report does is a premise
use Rattle.std.proofs.Common.{◌≡◌, ◌≢◌, ℕ, Bool, true, false, not, ◌&&◌, Option, Some, None, option_map, List, [], ◌∷◌, ◌++◌, refl, sym, ap, ◌∙◌, inl, inr, true≢false}
use Rattle.std.specs.Prelude.{is_some, option_and_then}
use Rattle.std.proofs.lemmas.Bool.{cases_Bool, false_from_ne_true}
use Rattle.hx_object.specs.Kinds.{can_be_copied, is_hierarchy}
use Rattle.hx_object.specs.declared.kind.Kind.{Kind}
use Rattle.hx_object.specs.declared.kind.Kind.TheVariants as of
use Rattle.hx_object.specs.declared.object.Id.{Id}
use Rattle.hx_object.specs.declared.object.Object.{Object}
use Rattle.hx_model.specs.Cases.{is_leaving}
use Rattle.hx_model.specs.Covered.{IsSameFor}
use Rattle.hx_model.specs.First.{so}
use Rattle.hx_model.specs.Forest.{Forest, chain_of, tail_of, is_in, is_live}
use Rattle.hx_model.specs.Keys.{is_among}
use Rattle.hx_model.specs.Limits.{is_copy}
use Rattle.hx_model.specs.Modes.{config_id, mode_in}
use Rattle.hx_model.specs.Moves.{mode_at}
use Rattle.hx_model.specs.Propagation.{is_source, id_in, as_list, source_at, sources_along}
use Rattle.hx_model.specs.State.{State, Objects, object_at, same_id, namespace_id}
use Rattle.hx_model.specs.Subnamespaces.{anchor_id}
use Rattle.hx_model.specs.Tree.{forest_in, forest_of}
use Rattle.hx_model.specs.TreeLabels.{is_open}
use Rattle.hx_model.specs.Wanted.{copy_write, tree_write, wanted_write, guard_at, guards_of, child_write}
use Rattle.hx_model.specs.Windows.{WindowView}
use Rattle.hx_model.specs.declared.key.Key.{Key}
use Rattle.hx_model.specs.declared.key.Key.TheVariants as key
use Rattle.hx_model.specs.declared.key.Write.{Write}
use Rattle.hx_model.proofs.Displacing.{KeepsOthers}
use Rattle.hx_model.proofs.Objects.{is_same_id, found_id}
use Rattle.hx_model.proofs.Planting.{hierarchy_no_namespace}
use Rattle.hx_marks.specs.Law.{all_of, leaving_keys}
use Rattle.hx_marks.proofs.Frames.{KeepsLeast, same_status, status_stays, removal_beside}
use Rattle.hx_marks.proofs.Parts.{UsedSame}
use Rattle.hx_marks.proofs.Wanting.{wants_known, wants_copied, all_wants, all_tree, all_children, child_known, child_among}

pub none_from : {A : Type 0} (o : Option A) → (o ≢ None → ⊥) → o ≡ None
none_from None never = refl
none_from (Some a) never = absurd (never (λ e. true≢false (ap is_some e)))

-- ---- what a key wants

-- the namespace of a key that may want something
abbrev pub spot : Key → List ℕ
spot (key.Copy m kind name) = m
spot (key.Tree m) = m
spot (key.Child m name) = m
spot _ = []

-- by whether its namespace takes part, and by its chain. Nothing of a report, a status or a removal
abbrev pub wanted_at : State → Bool → List (List ℕ) → Key → Option Write
wanted_at s acts chain (key.Copy m kind name) =
    copy_write acts (object_at s.objects (namespace_id m)) (mode_at s.objects kind) (sources_along s.objects kind name (tail_of chain)) m (object_at s.objects (id_in kind name m))
wanted_at s acts chain (key.Tree m) = tree_write acts chain (object_at s.objects (namespace_id m))
wanted_at s acts chain (key.Child m name) = child_write acts (is_some (object_at s.objects (anchor_id m name))) (is_in name s.config.excluded) (is_some (object_at s.objects (namespace_id name))) m name
wanted_at s acts chain _ = None

-- in a tree
abbrev pub wanted_in : State → Forest → Key → Option Write
wanted_in s f k = wanted_at s (is_open f (spot k)) (chain_of f (spot k)) k

-- nothing, where it takes no part
pub at_closed : (s : State) (chain : List (List ℕ)) (k : Key) → wanted_at s false chain k ≡ None
at_closed s chain (key.Copy m kind name) = by (object_at s.objects (namespace_id m))
  where
    by : (found : Option Object) → copy_write false found (mode_at s.objects kind) (sources_along s.objects kind name (tail_of chain)) m (object_at s.objects (id_in kind name m)) ≡ None
    by None = refl
    by (Some x) = refl
at_closed s chain (key.Tree m) = by (object_at s.objects (namespace_id m))
  where
    by : (found : Option Object) → tree_write false chain found ≡ None
    by None = refl
    by (Some x) = refl
at_closed s chain _ = refl

-- and else what is among those that may
pub at_known : (s : State) (acts : Bool) (chain : List (List ℕ)) (k : Key) → wanted_at s acts chain k ≢ None → is_among k (all_of s.objects chain (spot k)) ≡ true
at_known s acts chain (key.Copy m kind name) wants = all_wants s.objects chain m (key.Copy m kind name) (wants_known s.objects chain m kind name acts (object_at s.objects (namespace_id m)) wants).2
at_known s acts chain (key.Tree m) wants = all_tree s.objects chain m
at_known s acts chain (key.Child m name) wants =
    let known = child_known acts (object_at s.objects (anchor_id m name)) (is_in name s.config.excluded) (is_some (object_at s.objects (namespace_id name))) m name wants in
    all_children s.objects chain m (key.Child m name) (child_among s.objects m name known.1 known.2)
at_known s acts chain _ wants = absurd (wants refl)

-- ---- after a write

uncopied : (kind : Kind) → is_hierarchy kind ≡ true → can_be_copied kind ≡ false
uncopied of.HierarchyConfiguration is = refl
uncopied of.Role is = absurd (true≢false (sym is))
uncopied of.RoleBinding is = absurd (true≢false (sym is))
uncopied of.ConfigMap is = absurd (true≢false (sym is))
uncopied of.Secret is = absurd (true≢false (sym is))
uncopied of.NetworkPolicy is = absurd (true≢false (sym is))
uncopied of.LimitRange is = absurd (true≢false (sym is))
uncopied _ is = refl

copied_other : (kind : Kind) → can_be_copied kind ≡ true → is_hierarchy kind ≡ false
copied_other kind copied = false_from_ne_true (is_hierarchy kind) (λ h. true≢false (sym copied ∙ uncopied kind h))

-- nothing of another kind is a source
no_source : (objects : Objects) (q : Id) → can_be_copied q.kind ≡ false → source_at objects q ≡ None
no_source objects q out = by (object_at objects q) refl
  where
    by : (o : Option Object) → object_at objects q ≡ o → option_and_then (λ x. so (is_source x) x) o ≡ None
    by None e = refl
    by (Some x) e = ap (λ b. so (b && not (is_copy x)) x) (ap (λ (i : Id). can_be_copied i.kind) (sym (found_id objects q x e)) ∙ out)

module _ (s : State) (id : Id) (is : is_hierarchy id.kind ≡ true) (new : Objects) (last : ℕ) (window : WindowView) (keeps : KeepsOthers id s.objects new) where
  abbrev after : State
  after = record s { objects = new; last = last; window = window }

  pub other_kind : (q : Id) → is_hierarchy q.kind ≡ false → object_at new q ≡ object_at s.objects q
  other_kind q out = keeps q (false_from_ne_true (same_id q id) (λ h. true≢false (sym is ∙ sym (ap (λ (i : Id). is_hierarchy i.kind) (is_same_id q id h)) ∙ out)))

  same_source : (q : Id) → source_at new q ≡ source_at s.objects q
  same_source q = elim (cases_Bool (is_hierarchy q.kind)) [
    | inl h ↦ no_source new q (uncopied q.kind h) ∙ sym (no_source s.objects q (uncopied q.kind h))
    | inr out ↦ ap (λ o. option_and_then (λ x. so (is_source x) x) o) (other_kind q out)
  ]

  same_sources : (kind : Kind) (name : List ℕ) (chain : List (List ℕ)) → sources_along new kind name chain ≡ sources_along s.objects kind name chain
  same_sources kind name [] = refl
  same_sources kind name (a ∷ chain) = λ i. same_sources kind name chain i ++ as_list (same_source (id_in kind name a) i)

  -- a key wants by the new objects what it wants by the old ones
  same_at : (acts : Bool) (chain : List (List ℕ)) (k : Key) → wanted_at after acts chain k ≡ wanted_at s acts chain k
  same_at acts chain (key.Copy m kind name) = elim (cases_Bool (can_be_copied kind)) [
    | inl copied ↦ λ i. copy_write acts (other_kind (namespace_id m) refl i) (mode_by i) (same_sources kind name (tail_of chain) i) m (other_kind (id_in kind name m) (copied_other kind copied) i)
    | inr out ↦ nothing after out ∙ sym (nothing s out)
  ]
    where
      mode_by : mode_at new kind ≡ mode_at s.objects kind
      mode_by = ap (λ o. mode_in o kind) (other_kind config_id refl)

      nothing : (t : State) → can_be_copied kind ≡ false → wanted_at t acts chain (key.Copy m kind name) ≡ None
      nothing t out = none_from (wanted_at t acts chain (key.Copy m kind name)) (λ wants. true≢false (sym (wants_copied t.objects chain m kind name acts (object_at t.objects (namespace_id m)) wants) ∙ out))
  same_at acts chain (key.Tree m) = ap (tree_write acts chain) (other_kind (namespace_id m) refl)
  same_at acts chain (key.Child m name) = λ i. child_write acts (is_some (other_kind (anchor_id m name) refl i)) (is_in name s.config.excluded) (is_some (other_kind (namespace_id name) refl i)) m name
  same_at acts chain _ = refl

  same_guard : (q : Id) → is_hierarchy q.kind ≡ false → guard_at s q ≡ guard_at after q
  same_guard q out = ap (λ o. record { id = q; version = option_map (λ (x : Object). x.version) o }) (sym (other_kind q out))

  same_guards : (k : Key) → wanted_in s (forest_of s) k ≢ None → guards_of s k ≡ guards_of after k
  same_guards (key.Copy m kind name) wants =
      let copied = wants_copied s.objects (chain_of (forest_of s) m) m kind name (is_open (forest_of s) m) (object_at s.objects (namespace_id m)) wants in
      (λ i. same_guard (id_in kind name m) (copied_other kind copied) i ∷ same_guard (namespace_id m) refl i ∷ [])
  same_guards (key.Tree m) wants = λ i. same_guard (namespace_id m) refl i ∷ []
  same_guards (key.Child m name) wants = λ i. same_guard (anchor_id m name) refl i ∷ same_guard (namespace_id m) refl i ∷ same_guard (namespace_id name) refl i ∷ []
  same_guards (key.Report m) wants = absurd (wants refl)
  same_guards (key.Used m name) wants = absurd (wants refl)
  same_guards (key.Anchor m name) wants = absurd (wants refl)
  same_guards (key.Purge m) wants = absurd (wants refl)

  module _ (f : Forest) (tree : forest_in s.config.excluded new ≡ f) where
    -- where the new tree tells the same, and the key wants by the tree
    by_tree : (k : Key) → wanted_write s k ≡ wanted_in s (forest_of s) k → wanted_write after k ≡ wanted_in after (forest_of after) k → wanted_in s (forest_of s) k ≡ wanted_in s f k → IsSameFor s after k
    by_tree k before then same = (
      before ∙ same ∙ ap (λ (g : Forest). wanted_in s g k) (sym tree) ∙ sym (same_at (is_open (forest_of after) (spot k)) (chain_of (forest_of after) (spot k)) k) ∙ sym then,
      λ wants. same_guards k (λ none. wants (before ∙ none)),
    )

    -- where the new tree tells the same, the key wants the same
    pub same_for : ((n : List ℕ) → is_live f n ≡ is_live (forest_of s) n) → ((n : List ℕ) → is_leaving f n ≡ is_leaving (forest_of s) n) → KeepsLeast id s.objects new
        → (k : Key) → ((m : List ℕ) → k ≡ key.Report m → IsSameFor s after (key.Report m)) → UsedSame s after k → is_among k (leaving_keys (forest_of s) id.ns) ≡ false → wanted_in s (forest_of s) k ≡ wanted_in s f k → IsSameFor s after k
    same_for live leaving least (key.Copy m kind name) told used out same = by_tree (key.Copy m kind name) refl refl same
    same_for live leaving least (key.Tree m) told used out same = by_tree (key.Tree m) refl refl same
    same_for live leaving least (key.Report m) told used out same = told m refl
    same_for live leaving least (key.Child m name) told used out same = by_tree (key.Child m name) refl refl same
    same_for live leaving least (key.Anchor m name) told used out same =
        same_status s after m name (other_kind (anchor_id m name) refl) (other_kind (namespace_id m) refl) (ap (λ g. is_live g m) tree ∙ live m) (status_stays s after m name refl (other_kind (namespace_id name) refl))
    same_for live leaving least (key.Used m name) told used out same = used m name refl
    same_for live leaving least (key.Purge m) told used out same = removal_beside s after id (hierarchy_no_namespace id is) keeps least (λ n. ap (λ g. is_leaving g n) tree ∙ leaving n) m out
