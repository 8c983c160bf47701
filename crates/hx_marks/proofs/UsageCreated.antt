-- What quotas tell where a namespace is made.
--     child_any            one that names it as its parent is among its children
--     there_then, named_then, above_then   in a forest with one namespace more the others are there, name the same parents, and have the same above them
--     grown_alike          a chain has the same names but for it, where no namespace that names it as its parent brings more of them in
--     lies_apart           a namespace in which something lies is another
--     more_used            in a state with one namespace more the key of a quota wants the same, where none brings the namespace of the quota in
--     usage_of_created     the key of a quota that isn't marked wants the same
use Rattle.std.proofs.Common.{◌≡◌, ℕ, true, false, Option, Some, None, option_map, option_and_then, List, [], ◌∷◌, refl, sym, ap, ◌∙◌, subst, inl, inr, true≢false}
use Rattle.std.specs.Prelude.{is_some, if◌then◌else◌}
use Rattle.std.specs.List.{AllByRecursion}
use Rattle.std.specs.Option.{option_map_or}
use Rattle.std.specs.Str.{bytes_eq}
use Rattle.std.proofs.lemmas.Bool.{and_from, cases_Bool, false_from_ne_true}
use Rattle.hx_object.specs.Kinds.{is_hierarchy, is_namespace, is_plain, is_quota}
use Rattle.hx_object.specs.declared.object.Id.{Id}
use Rattle.hx_object.specs.declared.object.Object.{Object}
use Rattle.hx_object.proofs.KindTests.{namespace_kind}
use Rattle.hx_model.specs.Covered.{IsSameFor}
use Rattle.hx_model.specs.Forest.{Forest, is_in, is_there, names_of, parent_of, in_chain, is_child, children_of}
use Rattle.hx_model.specs.Keys.{is_among}
use Rattle.hx_model.specs.Moves.{chain_from}
use Rattle.hx_model.specs.Serving.{IsServed}
use Rattle.hx_model.specs.State.{State, object_at, namespace_id, ascends, state_after}
use Rattle.hx_model.specs.Tree.{forest_of, hierarchy_id, parent_with, node_in}
use Rattle.hx_model.specs.Valid.{AreHoused, IsValid}
use Rattle.hx_model.specs.Wanted.{quota_id}
use Rattle.hx_model.specs.Writes.{MayPut, MayWriteAll}
use Rattle.hx_model.specs.declared.key.Key.{Key}
use Rattle.hx_model.specs.declared.key.Key.TheVariants as key
use Rattle.hx_model.specs.declared.key.Write.TheVariants.{Put}
use Rattle.hx_model.specs.declared.node.Node.{Node}
use Rattle.hx_model.proofs.Climbing.{Above, itself, through, chain_above, above_chain, is_same, same_itself}
use Rattle.hx_model.proofs.Parents.{is_in_filter}
use Rattle.hx_model.proofs.Planting.{node_of-objects, there-objects}
use Rattle.hx_model.proofs.Storing.{All-put}
use Rattle.hx_model.proofs.Walking.{both, chain_there, names_have}
use Rattle.hx_model.proofs.Writes.{ascends_after}
use Rattle.hx_marks.specs.Reports.{has_any}
use Rattle.hx_marks.specs.Usage.{usage_of, created_usage, namespace_usage, hierarchy_usage, charged_usage, usage_marks}
use Rattle.hx_marks.proofs.CreatedChains.{IsMade, AboveOne, parent_same, live_same, made_chain_same, made_comes_to, made_members}
use Rattle.hx_marks.proofs.OneMore.{HasOneMore}
use Rattle.hx_marks.proofs.OneMoreWrites.{found_put, put_more}
use Rattle.hx_marks.proofs.Replacing.{valid_served}
use Rattle.hx_marks.proofs.UsageFrames.{without_used}
use Rattle.hx_marks.proofs.UsageTree.{unmarked_apart, kept_alike, used_alike, found_home, plain_inside}

-- one that names it is among its children
pub child_any : (f : Forest) (n q : List ℕ) → is_there f q ≡ true → parent_of f q ≡ Some n → has_any (children_of f n) ≡ true
child_any f n q there names = any (children_of f n) (
    is_in_filter (is_child f n) q (names_of f)
    ∙ and_from (is_in q (names_of f)) (is_child f n q) (sym (names_have f q) ∙ there) (ap (λ o. option_map_or (bytes_eq n) o false) names ∙ same_itself n))
  where
    any : (xs : List (List ℕ)) → is_in q xs ≡ true → has_any xs ≡ true
    any [] mem = absurd (true≢false (sym mem))
    any (x ∷ xs) mem = refl

-- ---- a forest where n is made

module _ (f g : Forest) (n : List ℕ) (made : IsMade f g n) where
  apart : (m : List ℕ) → is_there f m ≡ true → bytes_eq n m ≡ false
  apart m there = false_from_ne_true (bytes_eq n m) (λ h. true≢false (sym there ∙ ap (is_there f) (sym (is_same n m h)) ∙ made.absent))

  pub there_then : (m : List ℕ) → is_there f m ≡ true → is_there g m ≡ true
  there_then m there = ap is_some (made.others m (apart m there)) ∙ there

  pub named_then : (m : List ℕ) → is_there f m ≡ true → parent_of g m ≡ parent_of f m
  named_then m there = parent_same f g n made m (apart m there)

  -- who is above stays so
  pub above_then : (m a : List ℕ) → Above f m a → Above g m a
  above_then m a (itself there) = itself (there_then m there)
  above_then m a (through {p = p} there is rest) = through (there_then m there) (named_then m there ∙ is) (above_then p a rest)

  from_above : (next : Option (List ℕ)) (a : List ℕ) → AboveOne f next a → is_in a (chain_from f next) ≡ true
  from_above None a h = absurd h
  from_above (Some p) a h = above_chain f p a h

  -- no other name comes into a chain, where none that names n as its parent brings it in
  pub grown_alike : (m a : List ℕ) → bytes_eq n m ≡ false → bytes_eq n a ≡ false
      → ((q : List ℕ) → is_there f q ≡ true → parent_of f q ≡ Some n → is_in a (chain_from f (parent_of g n)) ≡ false) → in_chain f m a ≡ in_chain g m a
  grown_alike m a off other none = both (in_chain f m a) (in_chain g m a)
      (λ h. above_chain g m a (above_then m a (chain_above f m a h)))
      (λ h. elim (cases_Bool (in_chain g m n)) [
        | inr out ↦ sym (ap (is_in a) (made_chain_same f g n made m out)) ∙ h
        | inl has ↦ elim (made_comes_to f g n made m (chain_above g m n has)) [
          | inl is ↦ absurd (true≢false (sym (subst (λ (q : List ℕ). bytes_eq q m ≡ true) is (same_itself m)) ∙ off))
          | inr (q, above, names) ↦ elim (made_members f g n made m a (chain_above g m a h)) [
            | inl at ↦ absurd (true≢false (sym (subst (λ (q : List ℕ). bytes_eq q a ≡ true) at (same_itself a)) ∙ other))
            | inr (inl near) ↦ above_chain f m a near
            | inr (inr far) ↦ absurd (true≢false (sym (from_above (parent_of g n) a far) ∙ none q ((chain_there f m).there q (above_chain f m q above)) names))
          ]
        ]
      ])

-- ---- the two states

module _ (s t : State) (n : List ℕ) (more : HasOneMore s t n) (served : AllByRecursion IsServed s.objects) (housed : AreHoused s.objects) (up : ascends s.objects ≡ true) (high : ascends t.objects ≡ true) where
  plain_leaf : (q : Id) → is_plain q.kind ≡ true → is_namespace q.kind ≡ false
  plain_leaf q plain = false_from_ne_true (is_namespace q.kind) (λ h. true≢false (sym plain ∙ ap is_plain (namespace_kind q.kind h)))

  -- a namespace in which something lies is another
  pub lies_apart : (m : List ℕ) → is_some (object_at s.objects (namespace_id m)) ≡ true → bytes_eq n m ≡ false
  lies_apart m there = apart (forest_of s) (forest_of t) n more.made m (there-objects s.config.excluded s.objects m served ∙ there)

  -- nothing that names it as its parent brings in the namespace of a quota
  pub more_used : (a name : List ℕ) → ((x : Object) → object_at s.objects (quota_id a name) ≡ Some x → (q : List ℕ) → is_there (forest_of s) q ≡ true → parent_of (forest_of s) q ≡ Some n → is_in a (chain_from (forest_of s) (parent_of (forest_of t) n)) ≡ false)
      → IsSameFor s t (key.Used a name)
  more_used a name none = by (object_at s.objects (quota_id a name)) refl
    where
      by : (o : Option Object) → object_at s.objects (quota_id a name) ≡ o → IsSameFor s t (key.Used a name)
      by None at = without_used s t a name at (more.others (quota_id a name) refl ∙ at)
      by (Some q) at =
          let off : bytes_eq n a ≡ false = lies_apart a (found_home s.objects (quota_id a name) q housed at refl) in
          kept_alike s t a
          (used_alike s t a up high (λ p plain. more.others p (plain_leaf p plain))
          (λ x plain there. grown_alike (forest_of s) (forest_of t) n more.made x.id.ns a (lies_apart x.id.ns (found_home s.objects x.id x housed there (plain_inside x.id.kind plain))) off (none q at)))
          name (more.others (quota_id a name) refl) (live_same (forest_of s) (forest_of t) n more.made a off) (more.names a off)

-- ---- a namespace is made

module _ (s : State) (x : Object) (valid : IsValid s) (may : MayPut s x) (is : is_namespace x.id.kind ≡ true) (absent : object_at s.objects x.id ≡ None) where
  abbrev t : State
  t = state_after s (Put x ∷ [])

  abbrev n : List ℕ
  n = x.id.name

  served : AllByRecursion IsServed s.objects
  served = valid_served s valid

  more : HasOneMore s t n
  more = put_more s x valid may is absent

  -- its parent, by the objects that are there
  parent_is : parent_of (forest_of t) n ≡ parent_with (object_at s.objects (hierarchy_id n)) x
  parent_is =
      ap (λ o. option_and_then (λ (node : Node). node.parent) o)
      (node_of-objects s.config.excluded t.objects n (All-put IsServed x s.objects may.served served) ∙ ap (option_map (node_in s.config.excluded t.objects)) (found_put s.objects x may.served is))
      ∙ ap (λ o. parent_with o x) (more.others (hierarchy_id n) refl)

  marks_are : usage_marks s x.id (object_at s.objects x.id) (Some x) ≡ created_usage s n (parent_of (forest_of t) n)
  marks_are =
      let rest : List Key = if is_hierarchy x.id.kind then hierarchy_usage s x.id (Some x) else (if is_quota x.id.kind then key.Used x.id.ns n ∷ [] else charged_usage s x.id.ns (object_at s.objects x.id) (Some x)) in
      ap (λ b. if b then namespace_usage s n (object_at s.objects x.id) (Some x) else rest) is
      ∙ ap (λ o. namespace_usage s n o (Some x)) absent
      ∙ ap (created_usage s n) (sym parent_is)

  used_made : (a name : List ℕ) → is_among (key.Used a name) (created_usage s n (parent_of (forest_of t) n)) ≡ false → IsSameFor s t (key.Used a name)
  used_made a name out = more_used s t n more served valid.housed valid.in_order (ascends_after (Put x ∷ []) s.objects valid.in_order) a name (λ q at p there names.
      unmarked_apart s.objects a name q (chain_from (forest_of s) (parent_of (forest_of t) n)) at
      (sym (ap (λ b. is_among (key.Used a name) (if b then usage_of s.objects (chain_from (forest_of s) (parent_of (forest_of t) n)) else [])) (child_any (forest_of s) n p there names)) ∙ out))

-- a namespace is made: the key of a quota that isn't marked wants the same
pub usage_of_created : (s : State) (x : Object) → IsValid s → MayWriteAll s (Put x ∷ []) → is_namespace x.id.kind ≡ true → object_at s.objects x.id ≡ None → (n name : List ℕ)
    → is_among (key.Used n name) (usage_marks s x.id None (Some x)) ≡ false → IsSameFor s (state_after s (Put x ∷ [])) (key.Used n name)
usage_of_created s x valid may is absent n name out =
    used_made s x valid may.each.0 is absent n name (sym (ap (is_among (key.Used n name)) (ap (λ o. usage_marks s x.id o (Some x)) (sym absent) ∙ marks_are s x valid may.each.0 is absent)) ∙ out)
