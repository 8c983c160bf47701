-- Once the write that a key wants is made, the key wants nothing.
--     placed_put, taken_cut       what is put, and what is cut
--     IsCopyWrite, IsTreeWrite    what is known of a write that a place of copies wants;  a namespace's tree labels
--     copy_write_known, tree_write_known
--     IsChildWrite, IsStatusWrite, IsUsedWrite, IsRemovalWrite     of a subnamespace, of an anchor's status, of a quota's, and of a removal
--     child_write_known, status_write_known, used_write_known, removal_write_known
--     fresh_satisfies             for all keys but those of removals, which take one object after the other
use Rattle.std.proofs.Common.{◌≡◌, ℕ, ◌+◌, Bool, true, false, cond, not, Option, Some, None, List, [], ◌∷◌, map, ◌⊎◌, inl, inr, refl, sym, ap, ◌∙◌, subst, true≢false}
use Rattle.std.specs.Prelude.{is_some}
use Rattle.std.specs.Cmp.{tied_itself}
use Rattle.std.proofs.lemmas.Bool.{false_from_ne_true}
use Rattle.hx_object.specs.Kinds.{can_be_copied, is_namespace, is_hierarchy, is_plain}
use Rattle.hx_object.specs.declared.kind.Kind.{Kind}
use Rattle.hx_object.specs.declared.kind.Kind.TheVariants as of
use Rattle.hx_object.specs.declared.object.Id.{Id}
use Rattle.hx_object.specs.declared.object.Mode.{Mode}
use Rattle.hx_object.specs.declared.object.Mode.TheVariants.{Propagate, AllowPropagate, Remove, Ignore}
use Rattle.hx_object.specs.declared.object.Object.{Object}
use Rattle.hx_object.specs.declared.object.Payload.{Payload}
use Rattle.hx_object.specs.declared.object.Payload.TheVariants.{Namespace as NamespaceOf, Config, Hierarchy, Anchor, Quota, Plain}
use Rattle.hx_model.specs.Answers.{same_object}
use Rattle.hx_model.specs.Cases.{is_leaving}
use Rattle.hx_model.specs.Charges.{hard_of}
use Rattle.hx_model.specs.First.{so}
use Rattle.hx_model.specs.Forest.{is_in, in_chain, chain_of, tail_of, is_live}
use Rattle.hx_model.specs.Hands.{versioned}
use Rattle.hx_model.specs.Limits.{is_copy}
use Rattle.hx_model.specs.Modes.{config_id, mode_in, mode_of}
use Rattle.hx_model.specs.Propagation.{copy_of, goes_to, id_in, sources_along, sources_above, top_source}
use Rattle.hx_model.specs.Quotas.{used}
use Rattle.hx_model.specs.State.{State, Objects, object_at, put, same_id, namespace_id, with_version, ascends, after_writes, state_after}
use Rattle.hx_model.specs.Subnamespaces.{anchor_id}
use Rattle.hx_model.specs.Tree.{forest_in, forest_of}
use Rattle.hx_model.specs.TreeLabels.{is_open, prescribed_labels}
use Rattle.hx_model.specs.Valid.{IsValid}
use Rattle.hx_model.specs.Wanted.{placed, without_copy, copied, copied_in, copy_write, wanted_copy, labelled, tree_write, wanted_tree, wanted_write, child_write, wanted_child, subnamespace, with_status_of, anchor_status, anchor_write, wanted_anchor, quota_id, used_of, sums_of, with_usages, with_sums, used_write, wanted_used, next_to_go, least_id, purge_write, wanted_purge}
use Rattle.hx_model.specs.Writes.{id_written}
use Rattle.hx_model.specs.declared.key.Key.{Key}
use Rattle.hx_model.specs.declared.key.Key.TheVariants as key
use Rattle.hx_model.specs.declared.key.Write.{Write}
use Rattle.hx_model.specs.declared.key.Write.TheVariants.{Put, Cut}
use Rattle.hx_model.specs.declared.resource.Resource.{Resource}
use Rattle.hx_model.proofs.Conflicting.{head_out}
use Rattle.hx_model.proofs.Objects.{id_total, is_same_id, same_from_Equal, object_at-put, object_at-cut, found_again, found_id}
use Rattle.hx_model.proofs.Planting.{forest-put, forest-cut}
use Rattle.hx_model.proofs.Writes.{ascends_after}
use Rattle.hx_marks.proofs.Frames.{taken_child, status_stays}
use Rattle.hx_marks.proofs.Prescribing.{prescribed_again, chain_keys}
use Rattle.hx_marks.proofs.Replacing.{valid_served, sources_same, copied_leaf, tree_by}
use Rattle.hx_marks.proofs.ReportWrites.{report_satisfied, report_write_known}
use Rattle.hx_marks.proofs.Settling.{stands_placed}
use Rattle.hx_marks.proofs.UsageFrames.{sums_stay}
use Rattle.hx_marks.proofs.UsageTree.{used_alike}
use Rattle.hx_marks.proofs.Wanting.{along_found, wants_copied}

some_is : {A : Type 0} (a b : A) → Some a ≡ Some b → a ≡ b
some_is a b e = cc

none_some : {A : Type 0} (a : A) → ◌≡◌ {A = Option A} None (Some a) → ⊥
none_some a e = true≢false (sym (ap is_some e))

-- ---- what is written

pub placed_put : (x : Object) (place : Option Object) (write : Write) → placed x place ≡ Some write → write ≡ Put x
placed_put x None write e = sym (some_is (Put x) write e)
placed_put x (Some old) write e = by (same_object (with_version old 0) x) e
  where
    by : (b : Bool) → so (not b) (Put x) ≡ Some write → write ≡ Put x
    by true h = absurd (none_some write h)
    by false h = sym (some_is (Put x) write h)

pub taken_cut : (place : Option Object) (write : Write) → without_copy place ≡ Some write → (y : Object) × (place ≡ Some y) × (write ≡ Cut y.id)
taken_cut None write e = absurd (none_some write e)
taken_cut (Some y) write e = by (is_copy y) e
  where
    by : (b : Bool) → so b (Cut y.id) ≡ Some write → (z : Object) × (Some y ≡ Some z) × (write ≡ Cut z.id)
    by true h = (y, refl, sym (some_is (Cut y.id) write h))
    by false h = absurd (none_some write h)

-- the copy of what wins, or what lies there is cut
abbrev pub IsCopyOrCut : Option Object → List ℕ → Option Object → Write → Type 0
IsCopyOrCut top m place write = ((x : Object) × (top ≡ Some x) × (write ≡ Put (copy_of x m))) ⊎ ((y : Object) × (place ≡ Some y) × (write ≡ Cut y.id))

copied_is : (top : Option Object) (m : List ℕ) (place : Option Object) (write : Write) → copied top m place ≡ Some write → IsCopyOrCut top m place write
copied_is (Some x) m place write e = inl (x, refl, placed_put (copy_of x m) place write e)
copied_is None m place write e = inr (taken_cut place write e)

pub in_mode_is : (mode : Mode) (top : Option Object) (m : List ℕ) (place : Option Object) (write : Write) → copied_in mode top m place ≡ Some write → IsCopyOrCut top m place write
in_mode_is Propagate top m place write e = copied_is top m place write e
in_mode_is AllowPropagate top m place write e = copied_is top m place write e
in_mode_is Remove top m place write e = inr (taken_cut place write e)
in_mode_is Ignore top m place write e = absurd (none_some write e)

-- what lies in a place after a write
abbrev pub place_then : ℕ → Write → Option Object
place_then version (Put x) = Some (with_version x version)
place_then version (Cut id) = None

taken_then : (version : ℕ) (place : Option Object) (write : Write) → without_copy place ≡ Some write → without_copy (place_then version write) ≡ None
taken_then version place write e = let found = taken_cut place write e in ap (λ w. without_copy (place_then version w)) found.2

copied_then : (version : ℕ) (top : Option Object) (m : List ℕ) (place : Option Object) (write : Write) → copied top m place ≡ Some write → copied top m (place_then version write) ≡ None
copied_then version (Some x) m place write e =
    ap (λ w. placed (copy_of x m) (place_then version w)) (placed_put (copy_of x m) place write e)
    ∙ stands_placed (copy_of x m) (with_version (copy_of x m) version) refl
copied_then version None m place write e = taken_then version place write e

-- the place then wants nothing
pub in_mode_then : (version : ℕ) (mode : Mode) (top : Option Object) (m : List ℕ) (place : Option Object) (write : Write) → copied_in mode top m place ≡ Some write → copied_in mode top m (place_then version write) ≡ None
in_mode_then version Propagate top m place write e = copied_then version top m place write e
in_mode_then version AllowPropagate top m place write e = copied_then version top m place write e
in_mode_then version Remove top m place write e = taken_then version place write e
in_mode_then version Ignore top m place write e = refl

-- ---- what is known of a write that is wanted

pub record IsCopyWrite (s : State) (m : List ℕ) (kind : Kind) (name : List ℕ) (write : Write) : Type 0 where
  pub copied : can_be_copied kind ≡ true
  pub acts : is_open (forest_of s) m ≡ true
  pub home : Object
  pub there : object_at s.objects (namespace_id m) ≡ Some home
  pub wanted : copied_in (mode_of s kind) (top_source s m kind name home.labels) m (object_at s.objects (id_in kind name m)) ≡ Some write
  pub place : id_written write ≡ id_in kind name m

-- a write is of the place
written_there : (s : State) (m : List ℕ) (kind : Kind) (name : List ℕ) (write : Write) (labels : List (List ℕ × List ℕ))
    → IsCopyOrCut (top_source s m kind name labels) m (object_at s.objects (id_in kind name m)) write → id_written write ≡ id_in kind name m
written_there s m kind name write labels (inl (x, top, is)) =
    let found = along_found (λ y. goes_to (mode_of s kind) y labels) s.objects kind name (tail_of (chain_of (forest_of s) m)) x top in
    ap id_written is ∙ ap (λ (q : Id). id_in q.kind q.name m) (sym (found_id s.objects (id_in kind name found.0) x found.2))
written_there s m kind name write labels (inr (y, at, is)) = ap id_written is ∙ sym (found_id s.objects (id_in kind name m) y at)

pub copy_write_known : (s : State) (m : List ℕ) (kind : Kind) (name : List ℕ) (write : Write) → wanted_copy s m kind name ≡ Some write → IsCopyWrite s m kind name write
copy_write_known s m kind name write wants = by (is_open (forest_of s) m) (object_at s.objects (namespace_id m)) refl refl wants
  where
    by : (acts : Bool) (found : Option Object) → is_open (forest_of s) m ≡ acts → object_at s.objects (namespace_id m) ≡ found
        → copy_write acts found (mode_of s kind) (sources_above s m kind name) m (object_at s.objects (id_in kind name m)) ≡ Some write → IsCopyWrite s m kind name write
    by acts None is at e = absurd (none_some write e)
    by false (Some x) is at e = absurd (none_some write e)
    by true (Some x) is at e = record {
      copied = wants_copied s.objects (chain_of (forest_of s) m) m kind name true (Some x) (λ none. none_some write (sym none ∙ e));
      acts = is;
      home = x;
      there = at;
      wanted = e;
      place = written_there s m kind name write x.labels (in_mode_is (mode_of s kind) (top_source s m kind name x.labels) m (object_at s.objects (id_in kind name m)) write e);
    }

pub record IsTreeWrite (s : State) (m : List ℕ) (write : Write) : Type 0 where
  pub acts : is_open (forest_of s) m ≡ true
  pub home : Object
  pub there : object_at s.objects (namespace_id m) ≡ Some home
  pub puts : write ≡ Put (labelled (chain_of (forest_of s) m) home)

pub tree_write_known : (s : State) (m : List ℕ) (write : Write) → wanted_tree s m ≡ Some write → IsTreeWrite s m write
tree_write_known s m write wants = by (is_open (forest_of s) m) (object_at s.objects (namespace_id m)) refl refl wants
  where
    by : (acts : Bool) (found : Option Object) → is_open (forest_of s) m ≡ acts → object_at s.objects (namespace_id m) ≡ found → tree_write acts (chain_of (forest_of s) m) found ≡ Some write → IsTreeWrite s m write
    by acts None is at e = absurd (none_some write e)
    by false (Some x) is at e = absurd (none_some write e)
    by true (Some x) is at e = record { acts = is; home = x; there = at; puts = placed_put (labelled (chain_of (forest_of s) m) x) (Some x) write e }

pub record IsChildWrite (s : State) (n m : List ℕ) (write : Write) : Type 0 where
  pub acts : is_open (forest_of s) n ≡ true
  pub anchored : is_some (object_at s.objects (anchor_id n m)) ≡ true
  pub included : is_in m s.config.excluded ≡ false
  pub absent : object_at s.objects (namespace_id m) ≡ None
  pub puts : write ≡ Put (subnamespace n m)

pub child_write_known : (s : State) (n m : List ℕ) (write : Write) → wanted_child s n m ≡ Some write → IsChildWrite s n m write
child_write_known s n m write wants = by (is_open (forest_of s) n) (is_some (object_at s.objects (anchor_id n m))) (is_in m s.config.excluded) (object_at s.objects (namespace_id m)) refl refl refl refl wants
  where
    by : (acts anchored excluded : Bool) (found : Option Object) → is_open (forest_of s) n ≡ acts → is_some (object_at s.objects (anchor_id n m)) ≡ anchored → is_in m s.config.excluded ≡ excluded → object_at s.objects (namespace_id m) ≡ found
        → child_write acts anchored excluded (is_some found) n m ≡ Some write → IsChildWrite s n m write
    by true true false None opens there out none e = record { acts = opens; anchored = there; included = out; absent = none; puts = sym (some_is (Put (subnamespace n m)) write e) }
    by true true false (Some x) opens there out none e = absurd (none_some write e)
    by true true true found opens there out none e = absurd (none_some write e)
    by true false excluded found opens there out none e = absurd (none_some write e)
    by false anchored excluded found opens there out none e = absurd (none_some write e)

pub record IsStatusWrite (s : State) (n m : List ℕ) (write : Write) : Type 0 where
  pub live : is_live (forest_of s) n ≡ true
  pub anchor : Object
  pub there : object_at s.objects (anchor_id n m) ≡ Some anchor
  pub puts : write ≡ Put (with_status_of (anchor_status s n m) anchor)

pub status_write_known : (s : State) (n m : List ℕ) (write : Write) → wanted_anchor s n m ≡ Some write → IsStatusWrite s n m write
status_write_known s n m write wants = by (is_live (forest_of s) n) (object_at s.objects (anchor_id n m)) refl refl wants
  where
    by : (live : Bool) (found : Option Object) → is_live (forest_of s) n ≡ live → object_at s.objects (anchor_id n m) ≡ found → anchor_write live (anchor_status s n m) found ≡ Some write → IsStatusWrite s n m write
    by live None is at e = absurd (none_some write e)
    by false (Some x) is at e = absurd (none_some write e)
    by true (Some x) is at e = record { live = is; anchor = x; there = at; puts = placed_put (with_status_of (anchor_status s n m) x) (Some x) write e }

pub record IsUsedWrite (s : State) (n m : List ℕ) (write : Write) : Type 0 where
  pub live : is_live (forest_of s) n ≡ true
  pub quota : Object
  pub there : object_at s.objects (quota_id n m) ≡ Some quota
  pub puts : write ≡ Put (with_sums (sums_of s n (Some quota)) quota)

pub used_write_known : (s : State) (n m : List ℕ) (write : Write) → wanted_used s n m ≡ Some write → IsUsedWrite s n m write
used_write_known s n m write wants = by (is_live (forest_of s) n) (object_at s.objects (quota_id n m)) refl refl wants
  where
    by : (live : Bool) (found : Option Object) → is_live (forest_of s) n ≡ live → object_at s.objects (quota_id n m) ≡ found → used_write live (sums_of s n found) found ≡ Some write → IsUsedWrite s n m write
    by live None is at e = absurd (none_some write e)
    by false (Some x) is at e = absurd (none_some write e)
    by true (Some x) is at e = record { live = is; quota = x; there = at; puts = placed_put (with_sums (sums_of s n (Some x)) x) (Some x) write e }

pub record IsRemovalWrite (s : State) (n : List ℕ) (write : Write) : Type 0 where
  pub leaves : is_leaving (forest_of s) n ≡ true
  pub cuts : write ≡ Cut (next_to_go (least_id s n) n)

pub removal_write_known : (s : State) (n : List ℕ) (write : Write) → wanted_purge s n ≡ Some write → IsRemovalWrite s n write
removal_write_known s n write wants = by (is_leaving (forest_of s) n) refl wants
  where
    by : (leaves : Bool) → is_leaving (forest_of s) n ≡ leaves → purge_write leaves (least_id s n) n ≡ Some write → IsRemovalWrite s n write
    by false is e = absurd (none_some write e)
    by true is e = record { leaves = is; cuts = sym (some_is (Cut (next_to_go (least_id s n) n)) write e) }

-- ---- after a write in a place of copies

copied_hierarchy : (kind : Kind) → can_be_copied kind ≡ true → is_hierarchy kind ≡ false
copied_hierarchy of.HierarchyConfiguration e = absurd (true≢false (sym e))
copied_hierarchy _ e = refl

id_itself : (id : Id) → same_id id id ≡ true
id_itself id = same_from_Equal id id (tied_itself id_total id)

-- the objects after a write of an identity
record HasWritten (objects new : Objects) (id : Id) (found : Option Object) : Type 0 where
  here : object_at new id ≡ found
  others : (q : Id) → same_id q id ≡ false → object_at new q ≡ object_at objects q

has_written : (version : ℕ) (objects : Objects) (write : Write) → HasWritten objects (after_writes (versioned version write ∷ []) objects) (id_written write) (place_then version write)
has_written version objects (Put x) = record {
  here = found_again (with_version x version) objects;
  others = λ q apart. object_at-put (with_version x version) objects q ∙ ap (λ b. cond b (Some (with_version x version)) (object_at objects q)) apart;
}
has_written version objects (Cut id) = record {
  here = object_at-cut id objects id ∙ ap (λ b. cond b None (object_at objects id)) (id_itself id);
  others = λ q apart. object_at-cut id objects q ∙ ap (λ b. cond b None (object_at objects q)) apart;
}

same_forest : (ex : List (List ℕ)) (version : ℕ) (objects : Objects) (write : Write) → is_namespace (id_written write).kind ≡ false → is_hierarchy (id_written write).kind ≡ false
    → forest_in ex (after_writes (versioned version write ∷ []) objects) ≡ forest_in ex objects
same_forest ex version objects (Put x) out leaf = forest-put ex (with_version x version) objects out leaf
same_forest ex version objects (Cut id) out leaf = forest-cut ex id objects out leaf

module _ (s : State) (m : List ℕ) (kind : Kind) (name : List ℕ) (write : Write) (version : ℕ) (known : IsCopyWrite s m kind name write) where
  abbrev new : Objects
  new = after_writes (versioned version write ∷ []) s.objects

  written : HasWritten s.objects new (id_in kind name m) (place_then version write)
  written = subst (λ (q : Id). HasWritten s.objects new q (place_then version write)) known.place (has_written version s.objects write)

  tree : forest_in s.config.excluded new ≡ forest_of s
  tree =
      same_forest s.config.excluded version s.objects write (ap (λ (q : Id). is_namespace q.kind) known.place ∙ copied_leaf kind known.copied) (ap (λ (q : Id). is_hierarchy q.kind) known.place ∙ copied_hierarchy kind known.copied)

  -- an object of a kind that can't be copied is found as before
  uncopied_at : (q : Id) → can_be_copied q.kind ≡ false → object_at new q ≡ object_at s.objects q
  uncopied_at q out = written.others q (false_from_ne_true (same_id q (id_in kind name m)) (λ h. true≢false (sym known.copied ∙ sym (ap (λ (p : Id). can_be_copied p.kind) (is_same_id q (id_in kind name m) h)) ∙ out)))

  -- so are the sources above
  above : (a : List ℕ) → is_in a (tail_of (chain_of (forest_of s) m)) ≡ true → object_at new (id_in kind name a) ≡ object_at s.objects (id_in kind name a)
  above a mem = written.others (id_in kind name a) (false_from_ne_true (same_id (id_in kind name a) (id_in kind name m)) (λ h.
      true≢false (sym mem ∙ ap (λ (q : Id). is_in q.ns (tail_of (chain_of (forest_of s) m))) (is_same_id (id_in kind name a) (id_in kind name m) h) ∙ head_out (forest_of s) m)))

  pub copy_satisfied : wanted_copy (state_after s (versioned version write ∷ [])) m kind name ≡ None
  copy_satisfied =
      let home : object_at new (namespace_id m) ≡ Some known.home = uncopied_at (namespace_id m) refl ∙ known.there in
      let mode : object_at new config_id ≡ object_at s.objects config_id = uncopied_at config_id refl in
      (λ i. copy_write (is_open (tree i) m) (home i) (mode_in (mode i) kind) (sources_along new kind name (tail_of (chain_of (tree i) m))) m (written.here i))
      ∙ (λ i. copy_write (known.acts i) (Some known.home) (mode_of s kind) (sources_same s.objects new kind name (tail_of (chain_of (forest_of s) m)) above i) m (place_then version write))
      ∙ in_mode_then version (mode_of s kind) (top_source s m kind name known.home.labels) m (object_at s.objects (id_in kind name m)) write known.wanted

-- ---- after a write of tree labels

tree_satisfied : (s : State) (m : List ℕ) (write : Write) (version : ℕ) → IsValid s → IsTreeWrite s m write → wanted_tree (state_after s (versioned version write ∷ [])) m ≡ None
tree_satisfied s m write version valid known =
    let chain = chain_of (forest_of s) m in
    let x = known.home in
    let y = with_version (labelled chain x) version in
    let id : namespace_id m ≡ x.id = found_id s.objects (namespace_id m) x known.there in
    let is : is_namespace y.id.kind ≡ true = ap (λ (q : Id). is_namespace q.kind) (sym id) in
    let there : object_at s.objects y.id ≡ Some x = ap (object_at s.objects) (sym id) ∙ known.there in
    let found : object_at (put y s.objects) (namespace_id m) ≡ Some y = ap (object_at (put y s.objects)) id ∙ found_again y s.objects in
    let again : prescribed_labels chain (prescribed_labels chain x.labels) ≡ prescribed_labels chain x.labels = prescribed_again chain x.labels (chain_keys s m (valid_served s valid)) in
    ap (λ w. wanted_tree (state_after s (versioned version w ∷ [])) m) known.puts
    ∙ tree_by s y x valid refl is there refl m
    ∙ (λ i. tree_write (known.acts i) chain (found i))
    ∙ stands_placed (labelled chain y) y (λ i. record x { labels = sym again i; version = 0 })

-- ---- after a write of an anchor's

-- the subnamespace is there
child_satisfied : (s : State) (n m : List ℕ) (write : Write) (version : ℕ) → IsChildWrite s n m write → wanted_child (state_after s (versioned version write ∷ [])) n m ≡ None
child_satisfied s n m write version known =
    ap (λ w. wanted_child (state_after s (versioned version w ∷ [])) n m) known.puts
    ∙ taken_child (state_after s (Put (with_version (subnamespace n m) version) ∷ [])) n m (ap is_some (found_again (with_version (subnamespace n m) version) s.objects))

-- the anchor has its status, and the namespaces stay
status_satisfied : (s : State) (n m : List ℕ) (write : Write) (version : ℕ) → IsStatusWrite s n m write → wanted_anchor (state_after s (versioned version write ∷ [])) n m ≡ None
status_satisfied s n m write version known =
    let x = known.anchor in
    let y = with_version (with_status_of (anchor_status s n m) x) version in
    let t = state_after s (Put y ∷ []) in
    let id : anchor_id n m ≡ x.id = found_id s.objects (anchor_id n m) x known.there in
    let leaf : is_namespace x.id.kind ≡ false = ap (λ (q : Id). is_namespace q.kind) (sym id) in
    let tree : forest_of t ≡ forest_of s = forest-put s.config.excluded y s.objects leaf (ap (λ (q : Id). is_hierarchy q.kind) (sym id)) in
    let found : object_at t.objects (anchor_id n m) ≡ Some y = ap (object_at t.objects) id ∙ found_again y s.objects in
    let stays : object_at t.objects (namespace_id m) ≡ object_at s.objects (namespace_id m) =
    object_at-put y s.objects (namespace_id m)
    ∙ ap (λ b. cond b (Some y) (object_at s.objects (namespace_id m))) (false_from_ne_true (same_id (namespace_id m) x.id) (λ h. true≢false (ap (λ (q : Id). is_namespace q.kind) (is_same_id (namespace_id m) x.id h) ∙ leaf))) in
    ap (λ w. wanted_anchor (state_after s (versioned version w ∷ [])) n m) known.puts
    ∙ (λ i. anchor_write (is_live (tree i) n) (status_stays s t n m refl stays i) (found i))
    ∙ ap (λ b. anchor_write b (anchor_status s n m) (Some y)) known.live
    ∙ stands_placed (with_status_of (anchor_status s n m) y) y refl

-- ---- after a write of a quota's

-- it has the limits that it had, and tells the same of them again
same_hard : (sums : List ℕ) (payload : Payload) → hard_of (with_usages sums payload) ≡ hard_of payload
same_hard sums (Quota hard status) = refl
same_hard sums _ = refl

told_again : (sums : List ℕ) (payload : Payload) → with_usages sums payload ≡ with_usages sums (with_usages sums payload)
told_again sums (Quota hard status) = refl
told_again sums (NamespaceOf terminating) = refl
told_again sums (Config entries) = refl
told_again sums (Hierarchy parent cascade children conditions) = refl
told_again sums (Anchor status) = refl
told_again sums (Plain members need) = refl

-- what is used stays where an object of a kind that isn't charged is put, and the tree stays
used_stays : (s : State) (y : Object) → ascends s.objects ≡ true → is_plain y.id.kind ≡ false → forest_of (state_after s (Put y ∷ [])) ≡ forest_of s → (n : List ℕ) (r : Resource) → used s n r ≡ used (state_after s (Put y ∷ [])) n r
used_stays s y up out tree n =
    used_alike s (state_after s (Put y ∷ [])) n up (ascends_after (Put y ∷ []) s.objects up)
    (λ q plain. object_at-put y s.objects q ∙ ap (λ b. cond b (Some y) (object_at s.objects q)) (false_from_ne_true (same_id q y.id) (λ h. true≢false (sym plain ∙ ap (λ (p : Id). is_plain p.kind) (is_same_id q y.id h) ∙ out))))
    (λ x plain at. ap (λ f. in_chain f x.id.ns n) (sym tree))

-- the quota tells what is used, which stays
used_satisfied : (s : State) (n m : List ℕ) (write : Write) (version : ℕ) → IsValid s → IsUsedWrite s n m write → wanted_used (state_after s (versioned version write ∷ [])) n m ≡ None
used_satisfied s n m write version valid known =
    let x = known.quota in
    let sums = sums_of s n (Some x) in
    let y = with_version (with_sums sums x) version in
    let t = state_after s (Put y ∷ []) in
    let id : quota_id n m ≡ x.id = found_id s.objects (quota_id n m) x known.there in
    let tree : forest_of t ≡ forest_of s = forest-put s.config.excluded y s.objects (ap (λ (q : Id). is_namespace q.kind) (sym id)) (ap (λ (q : Id). is_hierarchy q.kind) (sym id)) in
    let found : object_at t.objects (quota_id n m) ≡ Some y = ap (object_at t.objects) id ∙ found_again y s.objects in
    let stays : sums_of t n (Some y) ≡ sums =
    sums_stay s t n (used_stays s y valid.in_order (ap (λ (q : Id). is_plain q.kind) (sym id)) tree n) (Some y) ∙ ap (map (used_of s n)) (same_hard sums x.payload) in
    let told : y.payload ≡ with_usages (sums_of t n (Some y)) y.payload = told_again sums x.payload ∙ ap (λ us. with_usages us y.payload) (sym stays) in
    ap (λ w. wanted_used (state_after s (versioned version w ∷ [])) n m) known.puts
    ∙ (λ i. used_write (is_live (tree i) n) (sums_of t n (found i)) (found i))
    ∙ ap (λ b. used_write b (sums_of t n (Some y)) (Some y)) known.live
    ∙ stands_placed (with_sums (sums_of t n (Some y)) y) y (λ i. record y { payload = told i; version = 0 })

-- ---- once it is made

-- the key of the removal of a namespace
abbrev pub is_removal : Key → Bool
is_removal (key.Purge n) = true
is_removal _ = false

-- the key then wants nothing. That of a removal goes on, as long as there is something to go
pub fresh_satisfies : (s : State) (k : Key) (write : Write) → IsValid s → is_removal k ≡ false → wanted_write s k ≡ Some write → wanted_write (state_after s (versioned (s.last + 1) write ∷ [])) k ≡ None
fresh_satisfies s (key.Copy m kind name) write valid once wants = copy_satisfied s m kind name write (s.last + 1) (copy_write_known s m kind name write wants)
fresh_satisfies s (key.Tree m) write valid once wants = tree_satisfied s m write (s.last + 1) valid (tree_write_known s m write wants)
fresh_satisfies s (key.Report m) write valid once wants = report_satisfied s m write (s.last + 1) valid (report_write_known s m write valid wants)
fresh_satisfies s (key.Child m name) write valid once wants = child_satisfied s m name write (s.last + 1) (child_write_known s m name write wants)
fresh_satisfies s (key.Anchor m name) write valid once wants = status_satisfied s m name write (s.last + 1) (status_write_known s m name write wants)
fresh_satisfies s (key.Used m name) write valid once wants = used_satisfied s m name write (s.last + 1) valid (used_write_known s m name write wants)
fresh_satisfies s (key.Purge m) write valid once wants = absurd (true≢false once)
