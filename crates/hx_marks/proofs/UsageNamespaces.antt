-- A namespace is put that is there: what quotas tell stays, but for those of the namespace itself, which are marked.
--     namespace_keeps          the tree stays, but for who is on its way out
--     usage_of_namespace       a quota that isn't among the keys of the namespace tells the same
use Rattle.std.proofs.Common.{◌≡◌, ℕ, true, false, Option, Some, List, [], ◌∷◌, inl, inr, refl, sym, ap, ◌∙◌, subst, true≢false}
use Rattle.std.specs.Str.{bytes_eq}
use Rattle.std.proofs.lemmas.Bool.{cases_Bool, false_from_ne_true}
use Rattle.hx_object.specs.Kinds.{is_namespace}
use Rattle.hx_object.specs.declared.object.Id.{Id}
use Rattle.hx_object.specs.declared.object.Object.{Object}
use Rattle.hx_model.specs.Covered.{IsSameFor}
use Rattle.hx_model.specs.Keys.{is_among}
use Rattle.hx_model.specs.Serving.{IsServed}
use Rattle.hx_model.specs.State.{State, object_at, same_id, namespace_id, state_after}
use Rattle.hx_model.specs.Valid.{IsValid}
use Rattle.hx_model.specs.Writes.{KeepsItsPlace, HasPlace, MayWriteAll}
use Rattle.hx_model.specs.declared.key.Key.TheVariants as key
use Rattle.hx_model.specs.declared.key.Write.TheVariants.{Put}
use Rattle.hx_model.proofs.Climbing.{is_same, same_itself}
use Rattle.hx_model.proofs.Displacing.{put_keeps}
use Rattle.hx_model.proofs.Objects.{is_same_id, found_again, ascends-put}
use Rattle.hx_model.proofs.Storing.{All-put}
use Rattle.hx_marks.specs.Usage.{usage_keys}
use Rattle.hx_marks.proofs.KeptTree.{KeepsTree}
use Rattle.hx_marks.proofs.Replacing.{valid_served}
use Rattle.hx_marks.proofs.UsageFrames.{keeps_used, left_used}

module _ (s : State) (x old : Object) (valid : IsValid s) (may : MayWriteAll s (Put x ∷ [])) (is : is_namespace x.id.kind ≡ true) (there : object_at s.objects x.id ≡ Some old) where
  abbrev t : State
  t = state_after s (Put x ∷ [])

  -- an identity of another kind
  other_stays : (q : Id) → is_namespace q.kind ≡ false → object_at t.objects q ≡ object_at s.objects q
  other_stays q leaf = put_keeps x x.id s.objects refl q (false_from_ne_true (same_id q x.id) (λ h. true≢false (sym is ∙ sym (ap (λ (p : Id). is_namespace p.kind) (is_same_id q x.id h)) ∙ leaf)))

  -- a namespace of another name
  home_stays : (m : List ℕ) → bytes_eq m x.id.name ≡ false → object_at t.objects (namespace_id m) ≡ object_at s.objects (namespace_id m)
  home_stays m apart =
      put_keeps x x.id s.objects refl (namespace_id m)
      (false_from_ne_true (same_id (namespace_id m) x.id) (λ h. true≢false (sym (subst (λ (q : Id). bytes_eq m q.name ≡ true) (is_same_id (namespace_id m) x.id h) (same_itself m)) ∙ apart)))

  pub namespace_keeps : KeepsTree s t
  namespace_keeps = record {
    excluded = refl;
    served = valid_served s valid;
    serves = All-put IsServed x s.objects may.each.0.served (valid_served s valid);
    up = valid.in_order;
    ascending = ascends-put x s.objects valid.in_order;
    others = λ q leaf other. other_stays q leaf;
    homes = λ m. elim (cases_Bool (same_id (namespace_id m) x.id)) [
      | inr apart ↦ inl (put_keeps x x.id s.objects refl (namespace_id m) apart)
      | inl h ↦
          let id : namespace_id m ≡ x.id = is_same_id (namespace_id m) x.id h in
          let keeps : KeepsItsPlace old x = subst (λ (o : Option Object). HasPlace o x) there (may.each.0.place is) in
          inr (record { old = old; new = x; before = ap (object_at s.objects) id ∙ there; after = ap (object_at t.objects) id ∙ found_again x s.objects; keeps = keeps })
    ];
  }

  -- whether it is replaced or begins to leave
  pub usage_of_namespace : (n name : List ℕ) → is_among (key.Used n name) (usage_keys s.objects x.id.name) ≡ false → IsSameFor s t (key.Used n name)
  usage_of_namespace n name out = elim (cases_Bool (bytes_eq n x.id.name)) [
    | inr apart ↦ keeps_used s t namespace_keeps n name (home_stays n apart)
    | inl same ↦ left_used s t namespace_keeps n name (ap (λ (m : List ℕ). is_among (key.Used n name) (usage_keys s.objects m)) (is_same n x.id.name same) ∙ out)
  ]
