-- What quotas tell where the HierarchyConfiguration of a namespace is written or removed.
--     usage_of_moved     the key of a quota that isn't marked wants the same
-- What was above the namespace, and isn't then, gives its subtree away, and what is then, and wasn't, takes it in. The parents may go in a cycle, before and then, so that a chain isn't always made of two parts: who is above goes by ways up.
use Rattle.std.proofs.Common.{◌≡◌, ℕ, ◌+◌, ◌⊎◌, Bool, true, false, not, ◌&&◌, ◌||◌, Option, Some, None, List, [], ◌∷◌, ◌++◌, filter, length, refl, sym, ap, ◌∙◌, subst, inl, inr, true≢false}
use Rattle.std.specs.Prelude.{is_some, option_and_then, if◌then◌else◌}
use Rattle.std.specs.Option.{option_map_or}
use Rattle.std.specs.Str.{bytes_eq}
use Rattle.std.proofs.lemmas.Bool.{cases_Bool, false_from_ne_true}
use Rattle.std.proofs.lemmas.List.Folds.{list_any-append}
use Rattle.hx_object.specs.Kinds.{is_hierarchy, is_plain, is_quota}
use Rattle.hx_object.specs.declared.object.Id.{Id}
use Rattle.hx_object.specs.declared.object.Object.{Object}
use Rattle.hx_object.proofs.KindTests.{hierarchy_kind}
use Rattle.hx_model.specs.Cases.{same_name}
use Rattle.hx_model.specs.Covered.{IsSameFor}
use Rattle.hx_model.specs.Forest.{Forest, is_in, is_there, is_live, parent_of, chain_of, in_chain, tail_of, with_parent}
use Rattle.hx_model.specs.Keys.{is_among}
use Rattle.hx_model.specs.Moves.{up_to, chain_from}
use Rattle.hx_model.specs.State.{State, Objects, object_at, put, cut, home_in, same_id, namespace_id, ascends, state_after}
use Rattle.hx_model.specs.Tree.{hierarchy, forest_in, forest_of, parent_with}
use Rattle.hx_model.specs.Valid.{IsValid}
use Rattle.hx_model.specs.Walks.{walk_to}
use Rattle.hx_model.specs.Wanted.{quota_id}
use Rattle.hx_model.specs.Writes.{id_written, MayWriteAll}
use Rattle.hx_model.specs.Windows.{WindowView}
use Rattle.hx_model.specs.declared.key.Key.{Key}
use Rattle.hx_model.specs.declared.key.Key.TheVariants as key
use Rattle.hx_model.specs.declared.key.Write.{Write}
use Rattle.hx_model.specs.declared.key.Write.TheVariants.{Put, Cut}
use Rattle.hx_model.proofs.Climbing.{Above, itself, through, chain_above, above_chain, chain_trans, is_same}
use Rattle.hx_model.proofs.Displacing.{KeepsOthers, put_keeps, cut_keeps, with_same_parent}
use Rattle.hx_model.proofs.Moving.{moved_there, moved_parent, other_parent, moved_chain_same, moved_in_chain, walk_to_none}
use Rattle.hx_model.proofs.Objects.{is_same_id}
use Rattle.hx_model.proofs.Opening.{chain_first, moved_live, moved_chain_below}
use Rattle.hx_model.proofs.Parents.{chain_alone, chain_parent, is_in_filter}
use Rattle.hx_model.proofs.Planting.{hierarchy_no_namespace, there-objects, home_of_hierarchy, forest-put_moves, forest-cut_moves}
use Rattle.hx_model.proofs.Walking.{both}
use Rattle.hx_model.proofs.Writes.{ascends_after}
use Rattle.hx_marks.specs.Law.{object_written}
use Rattle.hx_marks.specs.Usage.{usage_of, moved_usage, namespace_usage, hierarchy_usage, charged_usage, usage_marks}
use Rattle.hx_marks.proofs.Replacing.{valid_served}
use Rattle.hx_marks.proofs.UsageFrames.{without_used}
use Rattle.hx_marks.proofs.UsageTree.{unmarked_apart, kept_alike, used_alike}

-- ---- two forests that differ in what one namespace names as its parent

module _ (f g : Forest) (n : List ℕ) (there : (m : List ℕ) → is_there g m ≡ is_there f m) (others : (m : List ℕ) → bytes_eq n m ≡ false → parent_of g m ≡ parent_of f m) where
  -- who is above is so in the other one, or the way there passes n
  passes : (m a : List ℕ) → Above f m a → Above g m a ⊎ (Above f n a × Above g m n)
  passes m a (itself here) = inl (itself (there m ∙ here))
  passes m a (through {p = p} here is rest) = elim (cases_Bool (bytes_eq n m)) [
    | inl same ↦ inr (subst (λ (q : List ℕ). Above f q a × Above g m q) (sym (is_same n m same)) (through here is rest, itself (there m ∙ here)))
    | inr off ↦ elim (passes p a rest) [
      | inl above ↦ inl (through (there m ∙ here) (others m off ∙ is) above)
      | inr (up, below) ↦ inr (up, through (there m ∙ here) (others m off ∙ is) below)
    ]
  ]

  follows : (m a : List ℕ) → (in_chain f n a ≡ true → in_chain g n a ≡ true) → in_chain f m a ≡ true → in_chain g m a ≡ true
  follows m a stays has = elim (passes m a (chain_above f m a has)) [
    | inl above ↦ above_chain g m a above
    | inr (up, below) ↦ chain_trans g m n a (above_chain g m n below) (stays (above_chain f n a up))
  ]

-- where n's chain has it as before, so has every chain
alike_below : (f g : Forest) (n : List ℕ) → ((m : List ℕ) → is_there g m ≡ is_there f m) → ((m : List ℕ) → bytes_eq n m ≡ false → parent_of g m ≡ parent_of f m)
    → (m a : List ℕ) → in_chain f n a ≡ in_chain g n a → in_chain f m a ≡ in_chain g m a
alike_below f g n there others m a same = both (in_chain f m a) (in_chain g m a)
    (follows f g n there others m a (λ h. sym same ∙ h))
    (follows g f n (λ q. sym (there q)) (λ q off. sym (others q off)) m a (λ h. same ∙ h))

-- ---- a namespace gets another parent

-- the names that one of its two chains has, before or then
abbrev parts_of : Forest → List ℕ → Option (List ℕ) → List (List ℕ)
parts_of f n parent =
    filter (λ q. not (is_in q (up_to n (chain_from f parent)))) (tail_of (chain_of f n))
    ++ filter (λ q. not (is_in q (tail_of (chain_of f n)))) (up_to n (chain_from f parent))

-- what it named before doesn't count
detached_again : (f : Forest) (n : List ℕ) (parent : Option (List ℕ)) → with_parent n None (with_parent n parent f) ≡ with_parent n None f
detached_again [] n parent = refl
detached_again (e ∷ f) n parent = λ i. (e.0, node (bytes_eq n e.0) i) ∷ detached_again f n parent i
  where
    node : (b : Bool) → (if b then record (if b then record e.1 { parent = parent } else e.1) { parent = None } else (if b then record e.1 { parent = parent } else e.1)) ≡ (if b then record e.1 { parent = None } else e.1)
    node true = refl
    node false = refl

module _ (f : Forest) (n : List ℕ) (parent : Option (List ℕ)) (here : is_there f n ≡ true) where
  abbrev g : Forest
  g = with_parent n parent f

  has_then : (m : List ℕ) → in_chain f m n ≡ true → in_chain g m n ≡ true
  has_then m has = by (walk_to (length f) f (Some m) n) refl
    where
      by : (o : Option ℕ) → walk_to (length f) f (Some m) n ≡ o → in_chain (with_parent n parent f) m n ≡ true
      by None e = absurd (true≢false (sym has ∙ walk_to_none f n m e))
      by (Some k) e = moved_in_chain f n parent m k e

  -- what comes before n in a chain comes before it then
  before_same : (m a : List ℕ) → bytes_eq a n ≡ false → is_in a (up_to n (chain_of f m)) ≡ is_in a (up_to n (chain_of g m))
  before_same m a off = elim (cases_Bool (in_chain f m n)) [
    | inr out ↦ ap (λ names. is_in a (up_to n names)) (sym (moved_chain_same f n parent m out))
    | inl has ↦
        let same : up_to n (chain_of f m) ++ n ∷ [] ≡ up_to n (chain_of g m) ++ n ∷ [] =
        sym (moved_chain_below f n None refl m has) ∙ sym (ap (λ h. chain_of h m) (detached_again f n parent)) ∙ moved_chain_below g n None refl m (has_then m has) in
        sym (one_more (up_to n (chain_of f m))) ∙ ap (is_in a) same ∙ one_more (up_to n (chain_of g m))
  ]
    where
      or_false : (b c : Bool) → c ≡ false → (b || c) ≡ b
      or_false true c e = refl
      or_false false c e = e

      one_more : (names : List (List ℕ)) → is_in a (names ++ n ∷ []) ≡ is_in a names
      one_more names = list_any-append (bytes_eq a) names (n ∷ []) ∙ or_false (is_in a names) (bytes_eq a n || false) (ap (λ b. b || false) off)

  -- its own chain is n, and then that of its parent, cut before n
  own_then : (next : Option (List ℕ)) → parent ≡ next → (a : List ℕ) → bytes_eq a n ≡ false → in_chain g n a ≡ is_in a (up_to n (chain_from f next))
  own_then None is a off = ap (is_in a) (chain_alone g n (moved_there f n parent n ∙ here) (moved_parent f n parent here ∙ is)) ∙ ap (λ b. b || false) off
  own_then (Some p) is a off =
      ap (is_in a) (chain_parent g n p (moved_there f n parent n ∙ here) (moved_parent f n parent here ∙ is))
      ∙ ap (λ b. b || is_in a (up_to n (chain_of g p))) off
      ∙ sym (before_same p a off)

  -- a name that isn't in one of the two parts alone is in its chain as before
  own_alike : (a : List ℕ) → is_in a (parts_of f n parent) ≡ false → in_chain f n a ≡ in_chain g n a
  own_alike a out = elim (cases_Bool (bytes_eq a n)) [
    | inl is ↦ subst (λ (q : List ℕ). in_chain f n q ≡ in_chain g n q) (sym (is_same a n is)) (above_chain f n n (itself here) ∙ sym (above_chain g n n (itself (moved_there f n parent n ∙ here))))
    | inr off ↦ ap (is_in a) (chain_first f n here) ∙ ap (λ b. b || is_in a (tail_of (chain_of f n))) off ∙ shared ∙ sym (own_then parent refl a off)
  ]
    where
      in_both : (b c : Bool) → ((b && not c) || (c && not b)) ≡ false → b ≡ c
      in_both true true e = refl
      in_both true false e = absurd (true≢false e)
      in_both false true e = absurd (true≢false e)
      in_both false false e = refl

      shared : is_in a (tail_of (chain_of f n)) ≡ is_in a (up_to n (chain_from f parent))
      shared =
          let old = tail_of (chain_of f n) in
          let new = up_to n (chain_from f parent) in
          in_both (is_in a old) (is_in a new)
          (sym (list_any-append (bytes_eq a) (filter (λ q. not (is_in q new)) old) (filter (λ q. not (is_in q old)) new)
          ∙ (λ i. is_in_filter (λ q. not (is_in q new)) a old i || is_in_filter (λ q. not (is_in q old)) a new i)) ∙ out)

  -- so has every chain
  moved_alike : (a : List ℕ) → is_in a (parts_of f n parent) ≡ false → (m : List ℕ) → in_chain f m a ≡ in_chain g m a
  moved_alike a out m = alike_below f g n (moved_there f n parent) (other_parent f n parent) m a (own_alike a out)

-- ---- the state then

same_names : (a b : Option (List ℕ)) → same_name a b ≡ true → a ≡ b
same_names None None h = refl
same_names None (Some b) h = absurd (true≢false (sym h))
same_names (Some a) None h = absurd (true≢false (sym h))
same_names (Some a) (Some b) h = ap (λ x. Some x) (is_same a b h)

-- the tree where a HierarchyConfiguration is this one, or is none
abbrev TreeThen : State → Id → Option Object → Objects → Type 0
TreeThen s id found new =
    forest_in s.config.excluded new ≡ (if bytes_eq id.name hierarchy then option_map_or (λ home. with_parent id.ns (parent_with found home) (forest_of s)) (home_in s.objects id) (forest_of s) else forest_of s)

module _ (s : State) (valid : IsValid s) (id : Id) (is : is_hierarchy id.kind ≡ true) (new : Objects) (last : ℕ) (window : WindowView) (up : ascends new ≡ true) (keeps : KeepsOthers id s.objects new) (a name : List ℕ) where
  abbrev after : State
  after = record s { objects = new; last = last; window = window }

  abbrev f : Forest
  f = forest_of s

  other_kind : (q : Id) → is_hierarchy q.kind ≡ false → object_at new q ≡ object_at s.objects q
  other_kind q out = keeps q (false_from_ne_true (same_id q id) (λ h. true≢false (sym is ∙ sym (ap (λ (i : Id). is_hierarchy i.kind) (is_same_id q id h)) ∙ out)))

  plain_other : (q : Id) → is_plain q.kind ≡ true → is_hierarchy q.kind ≡ false
  plain_other q plain = false_from_ne_true (is_hierarchy q.kind) (λ h. true≢false (sym plain ∙ ap is_plain (hierarchy_kind q.kind h)))

  -- where every chain has the namespace of the quota as before
  by_chains : (g : Forest) → forest_in s.config.excluded new ≡ g → is_live g a ≡ is_live f a → ((m : List ℕ) → in_chain f m a ≡ in_chain g m a) → IsSameFor s after (key.Used a name)
  by_chains g tree live alike =
      kept_alike s after a
      (used_alike s after a valid.in_order up (λ q plain. other_kind q (plain_other q plain)) (λ x plain at. alike x.id.ns ∙ ap (λ h. in_chain h x.id.ns a) (sym tree)))
      name (other_kind (quota_id a name) refl) (ap (λ h. is_live h a) tree ∙ live) (other_kind (namespace_id a) refl)

  by_parent : (home : Object) (parent : Option (List ℕ)) → object_at s.objects (namespace_id id.ns) ≡ Some home → forest_in s.config.excluded new ≡ with_parent id.ns parent f → is_among (key.Used a name) (moved_usage s id.ns parent) ≡ false → IsSameFor s after (key.Used a name)
  by_parent home parent at tree = by (same_name (parent_of f id.ns) parent) refl
    where
      here : is_there (forest_of s) id.ns ≡ true
      here = there-objects s.config.excluded s.objects id.ns (valid_served s valid) ∙ ap is_some at

      by_quota : (o : Option Object) → object_at s.objects (quota_id a name) ≡ o → is_among (key.Used a name) (usage_of s.objects (parts_of (forest_of s) id.ns parent)) ≡ false → IsSameFor s after (key.Used a name)
      by_quota None none out = without_used s after a name none (other_kind (quota_id a name) refl ∙ none)
      by_quota (Some q) there out = by_chains (with_parent id.ns parent (forest_of s)) tree (moved_live (forest_of s) id.ns parent a) (moved_alike (forest_of s) id.ns parent here a (unmarked_apart s.objects a name q (parts_of (forest_of s) id.ns parent) there out))

      by : (b : Bool) → same_name (parent_of (forest_of s) id.ns) parent ≡ b → is_among (key.Used a name) (if b then [] else usage_of s.objects (parts_of (forest_of s) id.ns parent)) ≡ false → IsSameFor s after (key.Used a name)
      by true same out = by_chains (forest_of s) (tree ∙ ap (λ p. with_parent id.ns p (forest_of s)) (sym (same_names (parent_of (forest_of s) id.ns) parent same)) ∙ with_same_parent s valid id.ns home at) refl (λ m. refl)
      by false differs out = by_quota (object_at s.objects (quota_id a name)) refl out

  by_home : (found home : Option Object) → object_at s.objects (namespace_id id.ns) ≡ home → forest_in s.config.excluded new ≡ option_map_or (λ x. with_parent id.ns (parent_with found x) f) home f
      → is_among (key.Used a name) (moved_usage s id.ns (option_and_then (parent_with found) home)) ≡ false → IsSameFor s after (key.Used a name)
  by_home found None at tree out = by_chains f tree refl (λ m. refl)
  by_home found (Some home) at tree out = by_parent home (parent_with found home) at tree out

  by_name : (found : Option Object) (b : Bool) → forest_in s.config.excluded new ≡ (if b then option_map_or (λ home. with_parent id.ns (parent_with found home) f) (home_in s.objects id) f else f)
      → is_among (key.Used a name) (if b then moved_usage s id.ns (option_and_then (parent_with found) (object_at s.objects (namespace_id id.ns))) else []) ≡ false → IsSameFor s after (key.Used a name)
  by_name found true tree out = by_home found (object_at s.objects (namespace_id id.ns)) refl (tree ∙ ap (λ o. option_map_or (λ home. with_parent id.ns (parent_with found home) f) o f) (home_of_hierarchy s.objects id is)) out
  by_name found false tree out = by_chains f tree refl (λ m. refl)

  -- what it marks is by its name
  by_marks : (old found : Option Object) → TreeThen s id found new → is_among (key.Used a name) (usage_marks s id old found) ≡ false → IsSameFor s after (key.Used a name)
  by_marks old found tree out = by_name found (bytes_eq id.name hierarchy) tree (sym (ap (is_among (key.Used a name)) marks_are) ∙ out)
    where
      marks_are : usage_marks s id old found ≡ hierarchy_usage s id found
      marks_are =
          let rest : List Key = if is_quota id.kind then key.Used id.ns id.name ∷ [] else charged_usage s id.ns old found in
          ap (λ b. if b then namespace_usage s id.name old found else (if is_hierarchy id.kind then hierarchy_usage s id found else rest)) (hierarchy_no_namespace id is)
          ∙ ap (λ b. if b then hierarchy_usage s id found else rest) is

-- the HierarchyConfiguration of a namespace is written or removed: the key of a quota that isn't marked wants the same
pub usage_of_moved : (s : State) (write : Write) → IsValid s → MayWriteAll s (write ∷ []) → is_hierarchy (id_written write).kind ≡ true → (n name : List ℕ)
    → is_among (key.Used n name) (usage_marks s (id_written write) (object_at s.objects (id_written write)) (object_written write)) ≡ false → IsSameFor s (state_after s (write ∷ [])) (key.Used n name)
usage_of_moved s (Put x) valid may is n name out =
    by_marks s valid x.id is (put x s.objects) (s.last + 1) _ (ascends_after (Put x ∷ []) s.objects valid.in_order) (put_keeps x x.id s.objects refl) n name (object_at s.objects x.id) (Some x)
    (forest-put_moves s.config.excluded s.objects x.id is valid.in_order (valid_served s valid) x _ refl refl) out
usage_of_moved s (Cut id) valid may is n name out =
    by_marks s valid id is (cut id s.objects) (s.last + 1) _ (ascends_after (Cut id ∷ []) s.objects valid.in_order) (cut_keeps id s.objects) n name (object_at s.objects id) None
    (forest-cut_moves s.config.excluded s.objects id is valid.in_order (valid_served s valid)) out
