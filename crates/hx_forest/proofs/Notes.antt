-- What is noted, after a place has changed.
--     notes_later      with a new epoch nothing is noted any more
--     notes_kept       in the same tree
--     later_changed, kept_changed      the place at an index is changed
use Rattle.std.proofs.Common.{◌≡◌, ℕ, ◌<◌, ◌≤◌, cond, List, Option, Some, sym, ap, ◌∙◌, subst, arith}
use Rattle.std.proofs.lemmas.Option.{same_Some}
use Rattle.std.specs.Str.{bytes_eq}
use Rattle.hx_model.specs.Forest.{Forest}
use Rattle.hx_forest.specs.declared.nodes.Nodes.{Nodes}
use Rattle.hx_forest.specs.NodeTable.{Place, changed_at}
use Rattle.hx_forest.specs.ParentRefs.{place_of, forest_of, index_at}
use Rattle.hx_forest.specs.Notes.{IsNoted, AreNoted}
use Rattle.hx_forest.proofs.ParentRefs.{either, kept_place, look_new}

module _ (old new : Nodes) (n : List ℕ) (w : Option Place) (is : (q : List ℕ) → place_of new q ≡ cond (bytes_eq n q) w (place_of old q)) where
  -- no place has the new epoch
  pub notes_later : (0 < new.epoch → (0 < old.epoch) × (old.epoch < new.epoch)) → ((p : Place) → w ≡ Some p → 0 < old.epoch → p.noted ≤ old.epoch) → AreNoted old → AreNoted new
  notes_later later mine notes = record {
    each = λ m p here pos.
        let since = later pos in
        let early : p.noted ≤ old.epoch = either (place_of old) (place_of new) n w is m p here (λ _ g. mine p g since.0) (λ g. (notes.each m p g since.0).0) in
        (omega (arith, early, since.1), λ same. absurd (omega (arith, early, since.1, same)));
  }

  -- the nodes stay, and what is noted of the place is so
  pub notes_kept : new.epoch ≡ old.epoch → forest_of new ≡ forest_of old → ((p : Place) → w ≡ Some p → IsNoted old.epoch (forest_of old) n p) → AreNoted old → AreNoted new
  notes_kept epoch nodes mine notes = record {
    each = λ m p here.
        let before : IsNoted old.epoch (forest_of old) m p = either (place_of old) (place_of new) n w is m p here
        (λ same g. subst (λ (q : List ℕ). IsNoted old.epoch (forest_of old) q p) same (mine p g)) (notes.each m p) in
        subst (λ (s : ℕ). IsNoted s (forest_of new) m p) (sym epoch) (subst (λ (f : Forest). IsNoted old.epoch f m p) (sym nodes) before);
  }

module _ (old new : Nodes) (n : List ℕ) (i : ℕ) (change : Place → Place) (at : index_at old (Some n) ≡ Some i) (is : new.places.entries ≡ changed_at change i old.places.entries) where
  pub later_changed : (0 < new.epoch → (0 < old.epoch) × (old.epoch < new.epoch)) → ((p : Place) → (change p).noted ≡ p.noted) → AreNoted old → AreNoted new
  later_changed later same notes = kept_place old n i at (λ p there _.
      notes_later old new n (Some (change p)) (look_new old new n i change at is p there) later
      (λ q here pos. subst (λ (x : ℕ). x ≤ old.epoch) (sym (same p) ∙ ap (λ (x : Place). x.noted) (same_Some (change p) q here)) (notes.each n p there pos).0) notes)

  pub kept_changed : new.epoch ≡ old.epoch → forest_of new ≡ forest_of old → ((p : Place) → place_of old n ≡ Some p → IsNoted old.epoch (forest_of old) n (change p)) → AreNoted old → AreNoted new
  kept_changed epoch nodes mine notes = kept_place old n i at (λ p there _.
      notes_kept old new n (Some (change p)) (look_new old new n i change at is p there) epoch nodes
      (λ q here. subst (IsNoted old.epoch (forest_of old) n) (same_Some (change p) q here) (mine p there)) notes)
