-- Members without floats stay so where one without floats is put.
use Rattle.std.proofs.Common.{◌≡◌, ℕ, List, Bool, true, false, ◌||◌, Ordering, Less, Equal, Greater, refl, nat_cmp}
use Rattle.std.specs.Ordering.{match_ordering}
use Rattle.std.specs.Cmp.Lexicographic.{slice_cmp}
use Rattle.std.proofs.lemmas.Bool.{or_parts}
use Rattle.serde_json.specs.Data.{Data, Members, no_members, member, put}
use Rattle.serde_json.specs.Written.{has_float, members_have_float}

pub none_of : (u v : Bool) → u ≡ false → v ≡ false → (u || v) ≡ false
none_of true v h k = h
none_of false v h k = k

no_float_put_at : (o : Ordering) (k l : List ℕ) (d e : Data) (ms : Members) → has_float d ≡ false → members_have_float (member l e ms) ≡ false → members_have_float (put k d ms) ≡ false
    → members_have_float (match_ordering o (member k d (member l e ms)) (member l d ms) (member l e (put k d ms))) ≡ false
no_float_put_at Less k l d e ms one h later = none_of (has_float d) _ one h
no_float_put_at Equal k l d e ms one h later = none_of (has_float d) _ one (or_parts (has_float e) _ h).1
no_float_put_at Greater k l d e ms one h later = none_of (has_float e) _ (or_parts (has_float e) _ h).0 later

pub no_float_put : (k : List ℕ) (d : Data) (ms : Members) → has_float d ≡ false → members_have_float ms ≡ false → members_have_float (put k d ms) ≡ false
no_float_put k d no_members one h = none_of (has_float d) _ one refl
no_float_put k d (member l e ms) one h = no_float_put_at (slice_cmp nat_cmp k l) k l d e ms one h (no_float_put k d ms one (or_parts (has_float e) _ h).1)
