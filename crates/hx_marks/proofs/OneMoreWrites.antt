-- A namespace is put where none was, or one is cut: one of the two states has one namespace more.
--     found_put      the one that is put is found
--     put_more       the state after it has one more
--     cut_more       the state before the cut has one more
use Rattle.std.proofs.Common.{◌≡◌, ℕ, true, false, cond, Some, None, List, [], ◌∷◌, refl, sym, ap, ◌∙◌, subst, true≢false}
use Rattle.std.specs.Prelude.{is_some}
use Rattle.std.specs.Cmp.{tied_itself}
use Rattle.std.specs.Str.{bytes_eq}
use Rattle.std.proofs.lemmas.Bool.{false_from_ne_true}
use Rattle.hx_object.specs.Kinds.{is_namespace}
use Rattle.hx_object.specs.declared.object.Id.{Id}
use Rattle.hx_object.specs.declared.object.Object.{Object}
use Rattle.hx_model.specs.Serving.{IsServed}
use Rattle.hx_model.specs.State.{State, Objects, object_at, put, cut, same_id, namespace_id, state_after}
use Rattle.hx_model.specs.Valid.{IsValid}
use Rattle.hx_model.specs.Writes.{MayPut, MayCut}
use Rattle.hx_model.specs.declared.key.Write.TheVariants.{Put, Cut}
use Rattle.hx_model.proofs.Climbing.{same_itself}
use Rattle.hx_model.proofs.Conflicting.{other_at}
use Rattle.hx_model.proofs.Displacing.{cut_keeps}
use Rattle.hx_model.proofs.Objects.{id_total, is_same_id, same_from_Equal, found_again, found_id, object_at-cut}
use Rattle.hx_model.proofs.Planting.{namespace_is_homed}
use Rattle.hx_model.proofs.Storing.{All-put, All-cut, All-found}
use Rattle.hx_marks.proofs.Frames.{put_least, cut_least}
use Rattle.hx_marks.proofs.OneMore.{HasOneMore, one_more, lies_nowhere, keeps_put, keeps_cut}
use Rattle.hx_marks.proofs.Replacing.{valid_served}

-- an identity of another kind isn't that of a namespace, and neither is that of a namespace of another name
other_kind : (id : Id) → is_namespace id.kind ≡ true → (q : Id) → is_namespace q.kind ≡ false → same_id q id ≡ false
other_kind id is q leaf = false_from_ne_true (same_id q id) (λ h. true≢false (sym is ∙ sym (ap (λ (p : Id). is_namespace p.kind) (is_same_id q id h)) ∙ leaf))

other_name : (id : Id) (m : List ℕ) → bytes_eq id.name m ≡ false → same_id (namespace_id m) id ≡ false
other_name id m off =
    false_from_ne_true (same_id (namespace_id m) id)
    (λ h. true≢false (sym (subst (λ (q : List ℕ). bytes_eq id.name q ≡ true) (sym (ap (λ (p : Id). p.name) (is_same_id (namespace_id m) id h))) (same_itself id.name)) ∙ off))

-- the one that is put is found
pub found_put : (objects : Objects) (x : Object) → IsServed x → is_namespace x.id.kind ≡ true → object_at (put x objects) (namespace_id x.id.name) ≡ Some x
found_put objects x served is = ap (object_at (put x objects)) (sym (namespace_is_homed x served is)) ∙ found_again x objects

-- the state after it has one more
pub put_more : (s : State) (x : Object) → IsValid s → MayPut s x → is_namespace x.id.kind ≡ true → object_at s.objects x.id ≡ None → HasOneMore s (state_after s (Put x ∷ [])) x.id.name
put_more s x valid may is absent =
    one_more s (state_after s (Put x ∷ [])) x.id.name (valid_served s valid) (All-put IsServed x s.objects may.served (valid_served s valid)) refl
    (λ q leaf. other_at x s.objects q (other_kind x.id is q leaf))
    (λ m off. other_at x s.objects (namespace_id m) (other_name x.id m off))
    (ap is_some (ap (object_at s.objects) (sym (namespace_is_homed x may.served is)) ∙ absent))
    (ap is_some (found_put s.objects x may.served is))
    (λ m. put_least x s.objects m (lies_nowhere m x.id is))
    (keeps_put s.config.excluded x s.objects)

-- what is cut is found under its name, and isn't any more
cut_home : (s : State) (id : Id) → IsValid s → MayCut s id → is_namespace id.kind ≡ true → id ≡ namespace_id id.name
cut_home s id valid may is =
    let same : id ≡ may.there.0.id = found_id s.objects id may.there.0 may.there.1 in
    same
    ∙ namespace_is_homed may.there.0 (All-found IsServed id may.there.0 s.objects (valid_served s valid) may.there.1) (ap (λ (q : Id). is_namespace q.kind) (sym same) ∙ is)
    ∙ ap (λ (q : Id). namespace_id q.name) (sym same)

cut_gone : (objects : Objects) (id : Id) → object_at (cut id objects) id ≡ None
cut_gone objects id = object_at-cut id objects id ∙ ap (λ b. cond b None (object_at objects id)) (same_from_Equal id id (tied_itself id_total id))

-- the state before the cut has one more
pub cut_more : (s : State) (id : Id) → IsValid s → MayCut s id → is_namespace id.kind ≡ true → HasOneMore (state_after s (Cut id ∷ [])) s id.name
cut_more s id valid may is =
    let home = cut_home s id valid may is in
    one_more (state_after s (Cut id ∷ [])) s id.name (All-cut IsServed id s.objects (valid_served s valid)) (valid_served s valid) refl
    (λ q leaf. sym (cut_keeps id s.objects q (other_kind id is q leaf)))
    (λ m off. sym (cut_keeps id s.objects (namespace_id m) (other_name id m off)))
    (ap is_some (ap (object_at (cut id s.objects)) (sym home) ∙ cut_gone s.objects id))
    (ap is_some (ap (object_at s.objects) (sym home) ∙ may.there.1))
    (λ m. sym (cut_least id s.objects m (lies_nowhere m id is)))
    (keeps_cut s.config.excluded id s.objects)
