-- When a key wants the same in two states, by what it rests on.
--     guard_same              an identity that is found alike has the same guard
--     Stands                  a namespace has the same chain, takes part or doesn't, and is the same
--     kept_copy, kept_tree, kept_child, kept_anchor, kept_purge    keys whose parts stay want the same
--     closed_tree             a namespace that takes no part wants no tree labels
--     closed_copy, closed_labels, closed_children     where it takes no part in either, its keys want nothing
--     without_child, without_status, waiting_both, staying_both     nor those of an anchor that isn't there, and so on
--     waiting_status          the status of an anchor wants nothing where the namespace is on its way out, or absent
--     turned                  the same from the other side
use Rattle.std.proofs.Common.{◌≡◌, ◌≢◌, ℕ, Bool, true, false, Option, Some, None, option_map, List, [], ◌∷◌, refl, sym, ap, ◌∙◌, inl, inr, true≢false}
use Rattle.std.specs.Prelude.{is_some}
use Rattle.std.proofs.lemmas.Bool.{cases_Bool}
use Rattle.hx_object.specs.Kinds.{can_be_copied}
use Rattle.hx_object.specs.declared.kind.Kind.{Kind}
use Rattle.hx_object.specs.declared.object.Id.{Id}
use Rattle.hx_object.specs.declared.object.Object.{Object}
use Rattle.hx_model.specs.Cases.{is_leaving}
use Rattle.hx_model.specs.Covered.{IsSameFor}
use Rattle.hx_model.specs.Forest.{chain_of, tail_of, is_live, is_in}
use Rattle.hx_model.specs.Modes.{config_id, mode_in}
use Rattle.hx_model.specs.Propagation.{id_in, sources_along}
use Rattle.hx_model.specs.State.{State, object_at, namespace_id, lies_in, least_in}
use Rattle.hx_model.specs.Subnamespaces.{anchor_id}
use Rattle.hx_model.specs.Tree.{forest_of}
use Rattle.hx_model.specs.TreeLabels.{is_open}
use Rattle.hx_model.specs.Wanted.{guard_at, purge_guards, least_id, copy_write, wanted_copy, tree_write, wanted_tree, child_write, wanted_child, anchor_write, anchor_status, wanted_anchor, purge_write, wanted_purge}
use Rattle.hx_model.specs.declared.key.Key.{Key}
use Rattle.hx_model.specs.declared.key.Key.TheVariants as key
use Rattle.hx_marks.proofs.Frames.{none_in_both, same_in_both, closed_wants, uncopied_wants, shut_child, unanchored_child, unanchored_status, staying_removal, least_lies}
use Rattle.hx_marks.proofs.Replacing.{sources_same}

-- ---- keys that want nothing

pub closed_tree : (s : State) (m : List ℕ) → is_open (forest_of s) m ≡ false → wanted_tree s m ≡ None
closed_tree s m closed = ap (λ b. tree_write b (chain_of (forest_of s) m) (object_at s.objects (namespace_id m))) closed ∙ never (object_at s.objects (namespace_id m))
  where
    never : (found : Option Object) → tree_write false (chain_of (forest_of s) m) found ≡ None
    never None = refl
    never (Some x) = refl

pub waiting_status : (s : State) (m name : List ℕ) → is_live (forest_of s) m ≡ false → wanted_anchor s m name ≡ None
waiting_status s m name gone = ap (λ b. anchor_write b (anchor_status s m name) (object_at s.objects (anchor_id m name))) gone ∙ never (object_at s.objects (anchor_id m name))
  where
    never : (found : Option Object) → anchor_write false (anchor_status s m name) found ≡ None
    never None = refl
    never (Some x) = refl

-- the same from the other side
pub turned : (s t : State) (k : Key) → IsSameFor s t k → IsSameFor t s k
turned s t k same = (sym same.0, λ wants. sym (same.1 (λ none. wants (sym same.0 ∙ none))))

-- ---- keys whose parts stay

-- a namespace has the same chain, takes part or doesn't, and is the same
pub record Stands (s t : State) (m : List ℕ) : Type 0 where
  pub acts : is_open (forest_of t) m ≡ is_open (forest_of s) m
  pub chain : chain_of (forest_of t) m ≡ chain_of (forest_of s) m
  pub home : object_at t.objects (namespace_id m) ≡ object_at s.objects (namespace_id m)

none_is : (o : Option Object) → is_some o ≡ false → o ≡ None
none_is None e = refl
none_is (Some x) e = absurd (true≢false e)

module _ (s t : State) where
  pub guard_same : (q : Id) → object_at t.objects q ≡ object_at s.objects q → guard_at s q ≡ guard_at t q
  guard_same q e = λ i. record { id = q; version = option_map (λ (y : Object). y.version) (sym e i) }

  pub kept_copy : (m : List ℕ) (kind : Kind) (name : List ℕ) → Stands s t m → object_at t.objects config_id ≡ object_at s.objects config_id
      → ((a : List ℕ) → can_be_copied kind ≡ true → object_at t.objects (id_in kind name a) ≡ object_at s.objects (id_in kind name a)) → IsSameFor s t (key.Copy m kind name)
  kept_copy m kind name stands modes others = elim (cases_Bool (can_be_copied kind)) [
    | inr never ↦ none_in_both s t (key.Copy m kind name) (uncopied_wants s m kind name never) (uncopied_wants t m kind name never)
    | inl copied ↦
        let sources : sources_along t.objects kind name (tail_of (chain_of (forest_of t) m)) ≡ sources_along s.objects kind name (tail_of (chain_of (forest_of s) m)) =
        sources_same s.objects t.objects kind name (tail_of (chain_of (forest_of t) m)) (λ a _. others a copied) ∙ ap (λ chain. sources_along s.objects kind name (tail_of chain)) stands.chain in
        let same : wanted_copy t m kind name ≡ wanted_copy s m kind name = λ i. copy_write (stands.acts i) (stands.home i) (mode_in (modes i) kind) (sources i) m (others m copied i) in
        same_in_both s t (key.Copy m kind name) (sym same) (λ i. guard_same (id_in kind name m) (others m copied) i ∷ guard_same (namespace_id m) stands.home i ∷ [])
  ]

  pub kept_tree : (m : List ℕ) → Stands s t m → IsSameFor s t (key.Tree m)
  kept_tree m stands =
      let same : wanted_tree t m ≡ wanted_tree s m = λ i. tree_write (stands.acts i) (stands.chain i) (stands.home i) in
      same_in_both s t (key.Tree m) (sym same) (λ i. guard_same (namespace_id m) stands.home i ∷ [])

  pub kept_child : (m name : List ℕ) → Stands s t m → t.config.excluded ≡ s.config.excluded → object_at t.objects (anchor_id m name) ≡ object_at s.objects (anchor_id m name)
      → is_some (object_at t.objects (namespace_id name)) ≡ is_some (object_at s.objects (namespace_id name)) → IsSameFor s t (key.Child m name)
  kept_child m name stands excluded anchor taken =
      let same : wanted_child t m name ≡ wanted_child s m name = λ i. child_write (stands.acts i) (is_some (anchor i)) (is_in name (excluded i)) (taken i) m name in
      (sym same, λ wants i. guard_same (anchor_id m name) anchor i ∷ guard_same (namespace_id m) stands.home i ∷ guard_same (namespace_id name) (free wants) i ∷ [])
    where
      untaken : (acts anchored excluded taken : Bool) → child_write acts anchored excluded taken m name ≢ None → taken ≡ false
      untaken true true false false wants = refl
      untaken true true false true wants = absurd (wants refl)
      untaken true true true taken wants = absurd (wants refl)
      untaken true false excluded taken wants = absurd (wants refl)
      untaken false anchored excluded taken wants = absurd (wants refl)

      free : wanted_child s m name ≢ None → object_at t.objects (namespace_id name) ≡ object_at s.objects (namespace_id name)
      free wants =
          let out : is_some (object_at s.objects (namespace_id name)) ≡ false =
          untaken (is_open (forest_of s) m) (is_some (object_at s.objects (anchor_id m name))) (is_in name s.config.excluded) (is_some (object_at s.objects (namespace_id name))) wants in
          none_is (object_at t.objects (namespace_id name)) (taken ∙ out) ∙ sym (none_is (object_at s.objects (namespace_id name)) out)

  pub kept_anchor : (m name : List ℕ) → is_live (forest_of t) m ≡ is_live (forest_of s) m → object_at t.objects (namespace_id m) ≡ object_at s.objects (namespace_id m) → object_at t.objects (anchor_id m name) ≡ object_at s.objects (anchor_id m name)
      → anchor_status t m name ≡ anchor_status s m name → IsSameFor s t (key.Anchor m name)
  kept_anchor m name live home anchor status =
      let same : wanted_anchor t m name ≡ wanted_anchor s m name = λ i. anchor_write (live i) (status i) (anchor i) in
      same_in_both s t (key.Anchor m name) (sym same) (λ i. guard_same (anchor_id m name) anchor i ∷ guard_same (namespace_id m) home i ∷ [])

  pub kept_purge : (m : List ℕ) → is_leaving (forest_of t) m ≡ is_leaving (forest_of s) m → object_at t.objects (namespace_id m) ≡ object_at s.objects (namespace_id m)
      → ((q : Id) → lies_in m q ≡ true → object_at t.objects q ≡ object_at s.objects q) → least_in t.objects m ≡ least_in s.objects m → IsSameFor s t (key.Purge m)
  kept_purge m leaves home inside least =
      let same : wanted_purge t m ≡ wanted_purge s m = λ i. purge_write (leaves i) (option_map (λ (x : Object). x.id) (least i)) m in
      same_in_both s t (key.Purge m) (sym same) (by (least_in s.objects m) refl)
    where
      by : (o : Option Object) → least_in s.objects m ≡ o → purge_guards s (least_id s m) m ≡ purge_guards t (least_id t m) m
      by None at = ap (λ o. purge_guards s (option_map (λ (x : Object). x.id) o) m) at ∙ (λ i. guard_same (namespace_id m) home i ∷ []) ∙ sym (ap (λ o. purge_guards t (option_map (λ (x : Object). x.id) o) m) (least ∙ at))
      by (Some x) at =
          ap (λ o. purge_guards s (option_map (λ (y : Object). y.id) o) m) at
          ∙ (λ i. guard_same x.id (inside x.id (least_lies s.objects m x at)) i ∷ guard_same (namespace_id m) home i ∷ [])
          ∙ sym (ap (λ o. purge_guards t (option_map (λ (y : Object). y.id) o) m) (least ∙ at))

  -- ---- a namespace that takes no part in both

  pub closed_copy : (m : List ℕ) (kind : Kind) (name : List ℕ) → is_open (forest_of s) m ≡ false → is_open (forest_of t) m ≡ false → IsSameFor s t (key.Copy m kind name)
  closed_copy m kind name before after = none_in_both s t (key.Copy m kind name) (closed_wants s m kind name before) (closed_wants t m kind name after)

  pub closed_labels : (m : List ℕ) → is_open (forest_of s) m ≡ false → is_open (forest_of t) m ≡ false → IsSameFor s t (key.Tree m)
  closed_labels m before after = none_in_both s t (key.Tree m) (closed_tree s m before) (closed_tree t m after)

  pub closed_children : (m name : List ℕ) → is_open (forest_of s) m ≡ false → is_open (forest_of t) m ≡ false → IsSameFor s t (key.Child m name)
  closed_children m name before after = none_in_both s t (key.Child m name) (shut_child s m name before) (shut_child t m name after)

  pub without_child : (m name : List ℕ) → object_at s.objects (anchor_id m name) ≡ None → object_at t.objects (anchor_id m name) ≡ None → IsSameFor s t (key.Child m name)
  without_child m name before after = none_in_both s t (key.Child m name) (unanchored_child s m name before) (unanchored_child t m name after)

  pub without_status : (m name : List ℕ) → object_at s.objects (anchor_id m name) ≡ None → object_at t.objects (anchor_id m name) ≡ None → IsSameFor s t (key.Anchor m name)
  without_status m name before after = none_in_both s t (key.Anchor m name) (unanchored_status s m name before) (unanchored_status t m name after)

  pub waiting_both : (m name : List ℕ) → is_live (forest_of s) m ≡ false → is_live (forest_of t) m ≡ false → IsSameFor s t (key.Anchor m name)
  waiting_both m name before after = none_in_both s t (key.Anchor m name) (waiting_status s m name before) (waiting_status t m name after)

  pub staying_both : (m : List ℕ) → is_leaving (forest_of s) m ≡ false → is_leaving (forest_of t) m ≡ false → IsSameFor s t (key.Purge m)
  staying_both m before after = none_in_both s t (key.Purge m) (staying_removal s m before) (staying_removal t m after)
