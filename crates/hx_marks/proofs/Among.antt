-- Keys among keys.
--     among_append, among_flat_map, among_map   a key among lists that are put together
--     among_here, among_cond          a key is among those that begin with it;  among keys behind a condition
use Rattle.std.proofs.Common.{◌≡◌, Bool, true, false, cond, ◌&&◌, ◌||◌, List, [], ◌∷◌, ◌++◌, map, refl, ap, ◌∙◌}
use Rattle.std.specs.Prelude.{flat_map}
use Rattle.std.specs.List.{list_any}
use Rattle.std.proofs.lemmas.Bool.{or_left}
use Rattle.std.proofs.lemmas.List.Folds.{list_any-append}
use Rattle.hx_model.specs.Keys.{same_key, is_among}
use Rattle.hx_model.specs.declared.key.Key.{Key}
pub use Rattle.hx_model.proofs.Passing.{out_left, out_right, any_filter, passing_object, found_object, passing_name, found_name, passing_kind, found_kind}
pub use Rattle.hx_model.proofs.SameKeys.{same_key_is, same_key_itself}

pub among_append : (k : Key) (xs ys : List Key) → is_among k (xs ++ ys) ≡ (is_among k xs || is_among k ys)
among_append k xs ys = list_any-append (same_key k) xs ys

pub among_flat_map : {A : Type 0} (k : Key) (f : A → List Key) (xs : List A) → is_among k (flat_map f xs) ≡ list_any (λ x. is_among k (f x)) xs
among_flat_map k f [] = refl
among_flat_map k f (x ∷ xs) = among_append k (f x) (flat_map f xs) ∙ ap (λ b. is_among k (f x) || b) (among_flat_map k f xs)

pub among_map : {A : Type 0} (k : Key) (f : A → Key) (xs : List A) → is_among k (map f xs) ≡ list_any (λ x. same_key k (f x)) xs
among_map k f [] = refl
among_map k f (x ∷ xs) = ap (λ b. same_key k (f x) || b) (among_map k f xs)

pub among_here : (k : Key) (keys : List Key) → is_among k (k ∷ keys) ≡ true
among_here k keys = or_left (same_key k k) (is_among k keys) (same_key_itself k)

pub among_cond : (k : Key) (b : Bool) (keys : List Key) → is_among k (cond b keys []) ≡ (b && is_among k keys)
among_cond k true keys = refl
among_cond k false keys = refl
