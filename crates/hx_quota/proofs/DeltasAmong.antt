-- What a write changes of a charge, among the resources of its kind.
--     found_kind, put_kind      what is there, and what is put, is of the kind
--     deltas_same               deltas of the resources of a kind are all
--     skip_delta                past one that doesn't change
use Rattle.std.proofs.Common.{◌≡◌, ℕ, ◌+◌, ◌<◌, Bool, true, false, cond, not, ◌&&◌, Option, Some, None, List, [], ◌∷◌, filter, map, length, drop, get_or, IfSome, refl, sym, ap, ◌∙◌}
use Rattle.std.specs.Prelude.{nat_eq, ◌==◌}
use Rattle.std.proofs.lemmas.Cmp.{nat_eq_equiv}
use Rattle.std.proofs.lemmas.List.{at_drop_more}
use Rattle.hx_object.specs.Kinds.{number_of}
use Rattle.hx_object.specs.declared.kind.Kind.{Kind}
use Rattle.hx_object.specs.declared.kind.Kind.TheVariants as of
use Rattle.hx_object.specs.declared.object.Id.{Id}
use Rattle.hx_object.specs.declared.object.Object.{Object}
use Rattle.hx_model.specs.Charges.{all_resources, kind_for, resources_for}
use Rattle.hx_model.specs.Quotas.{charge_before}
use Rattle.hx_model.specs.State.{Objects, object_at}
use Rattle.hx_model.specs.declared.key.Write.{Write}
use Rattle.hx_model.specs.declared.key.Write.TheVariants.{Put, Cut}
use Rattle.hx_model.specs.declared.resource.Resource.{Resource}
use Rattle.hx_model.specs.declared.resource.Resource.TheVariants.{Pods}
use Rattle.hx_model.proofs.Charging.{charged_elsewhere}
use Rattle.hx_model.proofs.Objects.{found_id}
use Rattle.hx_store.specs.Changes.{id_of, object_of}
use Rattle.hx_quota.specs.Counting.{deltas_of, delta_by, is_recharged}
use Rattle.hx_quota.specs.SubtreeUsage.{deltas_among}

filter_again : {A : Type 0} (p q : A → Bool) → ((r : A) → q r ≡ false → p r ≡ false) → (rs : List A) → filter p rs ≡ filter p (filter q rs)
filter_again p q none [] = refl
filter_again p q none (r ∷ rs) = at (q r) refl (filter_again p q none rs)
  where
    at : (b : Bool) → q r ≡ b → filter p rs ≡ filter p (filter q rs) → cond (p r) (r ∷ filter p rs) (filter p rs) ≡ filter p (cond b (r ∷ filter q rs) (filter q rs))
    at true is rest = ap (λ xs. cond (p r) (r ∷ xs) xs) rest
    at false out rest = ap (λ b. cond b (r ∷ filter p rs) (filter p rs)) (none r out) ∙ rest

abbrev is_of_kind : Kind → Resource → Bool
is_of_kind kind r = number_of (kind_for r) == number_of kind

resources_by : (kind : Kind) → filter (is_of_kind kind) all_resources ≡ resources_for kind
resources_by of.Pod = refl
resources_by _ = refl

with_true : (b : Bool) → b ≡ false → (b && true) ≡ false
with_true b e = ap (λ x. x && true) e

-- what is there of a kind is charged nothing for the resources of others
charged_other : (kind : Kind) (o : Option Object) → IfSome o (λ x. x.id.kind ≡ kind) → (r : Resource) → is_of_kind kind r ≡ false → charge_before o r ≡ 0
charged_other kind None is r other = refl
charged_other kind (Some x) is r other = charged_elsewhere r x (with_true (number_of (kind_for r) == number_of x.id.kind) (ap (λ (k : Kind). number_of (kind_for r) == number_of k) is ∙ other))

pub found_kind : (objects : Objects) (id : Id) (o : Option Object) → object_at objects id ≡ o → IfSome o (λ x. x.id.kind ≡ id.kind)
found_kind objects id None is = tt
found_kind objects id (Some x) is = ap (λ (k : Id). k.kind) (sym (found_id objects id x is))

pub put_kind : (w : Write) → IfSome (object_of w) (λ x. x.id.kind ≡ (id_of w).kind)
put_kind (Put x) = refl
put_kind (Cut id) = tt

pub deltas_same : (objects : Objects) (w : Write) → deltas_among (resources_for (id_of w).kind) (object_at objects (id_of w)) (object_of w) ≡ deltas_of (object_at objects (id_of w)) (object_of w)
deltas_same objects w =
    let old = object_at objects (id_of w) in
    let new = object_of w in
    let kind = (id_of w).kind in
    ap (λ rs. map (delta_by old new) (filter (is_recharged old new) rs)) (sym (resources_by kind))
    ∙ sym (ap (map (delta_by old new)) (filter_again (is_recharged old new) (is_of_kind kind) (λ r other.
    let before : charge_before old r ≡ 0 = charged_other kind old (found_kind objects (id_of w) old refl) r other in
    let after : charge_before new r ≡ 0 = charged_other kind new (put_kind w) r other in
    λ i. not (nat_eq (before i) (after i))) all_resources))

-- the deltas of the resources that are left, past one that doesn't change
pub skip_delta : (rs : List Resource) (i : ℕ) (old new : Option Object) (a b : ℕ) → i < length rs → a ≡ charge_before old (get_or rs i Pods) → b ≡ charge_before new (get_or rs i Pods) → a ≡ b → deltas_among (drop i rs) old new ≡ deltas_among (drop (i + 1) rs) old new
skip_delta rs i old new a b within is is_then same =
    let still : is_recharged old new (get_or rs i Pods) ≡ false = ap not (ap (nat_eq (charge_before old (get_or rs i Pods))) (sym is_then ∙ sym same ∙ is) ∙ nat_eq_equiv.refl (charge_before old (get_or rs i Pods))) in
    at_drop_more (λ xs. deltas_among xs old new) rs i Pods within
    ∙ ap (λ b. map (delta_by old new) (cond b (get_or rs i Pods ∷ filter (is_recharged old new) (drop (i + 1) rs)) (filter (is_recharged old new) (drop (i + 1) rs)))) still
