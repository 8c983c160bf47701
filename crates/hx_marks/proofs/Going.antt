-- Which sources go to a place, and which one wins.
--     sent_goes, unsent_stays     what goes to some labels is sent, and what isn't sent goes nowhere
--     sent_alike                  where an object is sent in both of two modes or in neither, it goes to the same labels
--     going                       the object that is found, where it goes
--     top_along                   where the same goes from each member of a chain, the same source wins
--     copied_in_none              what is wanted where nothing wins
--     top_goes                    what wins goes
use Rattle.std.proofs.Common.{◌≡◌, ℕ, Bool, true, false, cond, not, ◌&&◌, Option, Some, None, List, [], ◌∷◌, ◌++◌, refl, sym, ap, ◌∙◌, inl, inr, true≢false}
use Rattle.std.specs.Prelude.{is_some, find, option_and_then}
use Rattle.std.specs.Str.{bytes_eq}
use Rattle.std.proofs.lemmas.Bool.{and_parts, and_from, or_left, or_right, cases_Bool, false_from_ne_true}
use Rattle.hx_object.specs.declared.kind.Kind.{Kind}
use Rattle.hx_object.specs.declared.object.Mode.{Mode}
use Rattle.hx_object.specs.declared.object.Mode.TheVariants.{Propagate, AllowPropagate, Remove, Ignore}
use Rattle.hx_object.specs.declared.object.Object.{Object}
use Rattle.hx_model.specs.Exceptions.{none_of, passes, is_false, is_allowed}
use Rattle.hx_model.specs.First.{so, or_else}
use Rattle.hx_model.specs.Forest.{is_in}
use Rattle.hx_model.specs.Propagation.{goes_to, is_propagated, is_source, stays_home, id_in, as_list, source_at, sources_along, top_of}
use Rattle.hx_model.specs.State.{Objects, object_at}
use Rattle.hx_model.specs.Wanted.{without_copy, copied_in}
use Rattle.hx_model.proofs.Climbing.{same_itself}
use Rattle.hx_marks.specs.Law.{is_sent, is_ignored}

abbrev pub Labels : Type 0
Labels = List (List ℕ × List ℕ)

-- ---- what goes is sent

pub sent_goes : (mode : Mode) (x : Object) (labels : Labels) → goes_to mode x labels ≡ true → is_sent mode x ≡ true
sent_goes mode x labels h =
    let a = and_parts (is_propagated mode) _ h in
    let b = and_parts (is_source x) _ a.1 in
    let c = and_parts (not (stays_home x)) _ b.1 in
    let d = and_parts _ _ c.1 in
    let e = and_parts _ (passes is_false (none_of x)) d.1 in
    and_from (is_propagated mode) _ a.0 (and_from (is_source x) _ b.0 (and_from (not (stays_home x)) _ c.0 e.1))

pub unsent_stays : (mode : Mode) (x : Object) (labels : Labels) → is_sent mode x ≡ false → goes_to mode x labels ≡ false
unsent_stays mode x labels e = false_from_ne_true (goes_to mode x labels) (λ h. true≢false (sym (sent_goes mode x labels h) ∙ e))

-- what is sent in both of two modes or in neither goes to the same labels in both
pub sent_alike : (a b : Mode) (x : Object) (labels : Labels) → is_sent a x ≡ is_sent b x → goes_to a x labels ≡ goes_to b x labels
sent_alike a b x labels same = elim (cases_Bool (is_sent a x)) [
  | inr out ↦ unsent_stays a x labels out ∙ sym (unsent_stays b x labels (sym same ∙ out))
  | inl sent ↦
      let here = (and_parts (is_propagated a) _ sent).0 in
      let there = (and_parts (is_propagated b) _ (sym same ∙ sent)).0 in
      ap (λ p. p && (is_source x && (not (stays_home x) && is_allowed x labels))) (here ∙ sym there)
]

-- ---- the source that wins

-- the object that is found, where it goes
abbrev pub going : Mode → Labels → Option Object → Option Object
going mode labels found = option_and_then (λ x. so (goes_to mode x labels) x) found

find_two : {A : Type 0} (p : A → Bool) (xs ys : List A) → find p (xs ++ ys) ≡ or_else (find p xs) (find p ys)
find_two p [] ys = refl
find_two p (x ∷ xs) ys = elim (p x) as (λ b. cond b (Some x) (find p (xs ++ ys)) ≡ or_else (cond b (Some x) (find p xs)) (find p ys)) [
  | true ↦ refl
  | false ↦ find_two p xs ys
]

as_so : {A : Type 0} (b : Bool) (x : A) → cond b (Some x) None ≡ so b x
as_so true x = refl
as_so false x = refl

one_going : (mode : Mode) (labels : Labels) (found : Option Object) → find (λ x. goes_to mode x labels) (as_list (option_and_then (λ x. so (is_source x) x) found)) ≡ going mode labels found
one_going mode labels None = refl
one_going mode labels (Some x) = elim (cases_Bool (is_source x)) [
  | inl is ↦ ap (λ b. find (λ y. goes_to mode y labels) (as_list (so b x))) is ∙ as_so (goes_to mode x labels) x
  | inr out ↦ ap (λ b. find (λ y. goes_to mode y labels) (as_list (so b x))) out ∙ sym (ap (λ b. so b x) (false_from_ne_true (goes_to mode x labels) (λ h. true≢false (sym (and_parts (is_source x) _ (and_parts (is_propagated mode) _ h).1).0 ∙ out))))
]

-- where the same goes from each member of a chain, the same source wins
pub top_along : (a b : Mode) (labels : Labels) (old new : Objects) (kind : Kind) (name : List ℕ) (chain : List (List ℕ))
    → ((n : List ℕ) → is_in n chain ≡ true → going a labels (object_at old (id_in kind name n)) ≡ going b labels (object_at new (id_in kind name n)))
    → top_of a labels (sources_along old kind name chain) ≡ top_of b labels (sources_along new kind name chain)
top_along a b labels old new kind name [] alike = refl
top_along a b labels old new kind name (n ∷ chain) alike =
    let later = top_along a b labels old new kind name chain (λ m mem. alike m (or_right (bytes_eq m n) (is_in m chain) mem)) in
    let here = one_going a labels (object_at old (id_in kind name n)) ∙ alike n (or_left (bytes_eq n n) (is_in n chain) (same_itself n)) ∙ sym (one_going b labels (object_at new (id_in kind name n))) in
    find_two (λ x. goes_to a x labels) (sources_along old kind name chain) (as_list (source_at old (id_in kind name n)))
    ∙ (λ i. or_else (later i) (here i))
    ∙ sym (find_two (λ x. goes_to b x labels) (sources_along new kind name chain) (as_list (source_at new (id_in kind name n))))

-- what wins goes
pub top_goes : (mode : Mode) (labels : Labels) (sources : List Object) (x : Object) → top_of mode labels sources ≡ Some x → goes_to mode x labels ≡ true
top_goes mode labels [] x e = absurd (true≢false (sym (ap is_some e)))
top_goes mode labels (y ∷ sources) x e =
    elim (goes_to mode y labels) as (λ b. goes_to mode y labels ≡ b → cond b (Some y) (top_of mode labels sources) ≡ Some x → goes_to mode x labels ≡ true) [
      | true ↦ λ goes is. ap (λ z. goes_to mode z labels) (sym (inside y is)) ∙ goes
      | false ↦ λ _ later. top_goes mode labels sources x later
    ] refl e
  where
    inside : (y : Object) → Some y ≡ Some x → y ≡ x
    inside y e = cc

-- ---- where nothing wins

pub copied_in_none : (mode : Mode) (n : List ℕ) (place : Option Object) → copied_in mode None n place ≡ cond (is_ignored mode) None (without_copy place)
copied_in_none Propagate n place = refl
copied_in_none AllowPropagate n place = refl
copied_in_none Remove n place = refl
copied_in_none Ignore n place = refl
