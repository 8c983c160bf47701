use Rattle.std.proofs.Common.{◌≡◌, Bool, true, false, List, ℕ, is_ok, cond, subst, sym}
use Rattle.hx_object.proofs.Putting.{ascending-with_pair}
use Rattle.hx_object.specs.Pairs.{has_ascending_keys, with_pair}
use Rattle.hx_object.proofs.pairs.Pairs.put.Goals as goal

either : (key value : List ℕ) (pairs : List (List ℕ × List ℕ)) (b : Bool) → has_ascending_keys pairs ≡ true → has_ascending_keys (cond b (with_pair key value pairs) pairs) ≡ true
either key value pairs true e = ascending-with_pair key value pairs e
either key value pairs false e = e

pub invariant_of-self : goal.invariant_of-self
invariant_of-self c = subst (λ pairs. has_ascending_keys pairs ≡ true) (sym c.put_in.ensures) (either c.args.key c.args.value c.self.inside.items.items (is_ok c.put_in.result) c.self.invariant)
