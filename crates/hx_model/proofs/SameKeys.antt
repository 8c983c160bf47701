-- What the test of two keys says: that they are equal.
use Rattle.std.proofs.Common.{◌≡◌, true, sym, ap, true≢false}
use Rattle.std.specs.Cmp.{IsEquivalence}
use Rattle.std.proofs.lemmas.Bool.{and_parts}
use Rattle.hx_object.proofs.Sameness.{exact_text, exact_kind}
use Rattle.hx_model.specs.Keys.{same_key}
use Rattle.hx_model.specs.contracts.key.KeyEq.TheImpl.Laws.{laws-law}
use Rattle.hx_model.specs.declared.key.Key.{Key}
use Rattle.hx_model.specs.declared.key.Key.TheVariants as key

pub key_laws : IsEquivalence same_key
unfolding same_key
key_laws = laws-law

pub same_key_is : (a b : Key) → same_key a b ≡ true → a ≡ b
unfolding same_key
same_key_is (key.Copy n k m) (key.Copy o l p) h =
    let x = and_parts _ _ h in
    let y = and_parts _ _ x.1 in
    λ i. key.Copy (exact_text n o x.0 i) (exact_kind k l y.0 i) (exact_text m p y.1 i)
same_key_is (key.Tree n) (key.Tree o) h = ap key.Tree (exact_text n o h)
same_key_is (key.Report n) (key.Report o) h = ap key.Report (exact_text n o h)
same_key_is (key.Child n m) (key.Child o p) h = let x = and_parts _ _ h in λ i. key.Child (exact_text n o x.0 i) (exact_text m p x.1 i)
same_key_is (key.Anchor n m) (key.Anchor o p) h = let x = and_parts _ _ h in λ i. key.Anchor (exact_text n o x.0 i) (exact_text m p x.1 i)
same_key_is (key.Used n m) (key.Used o p) h = let x = and_parts _ _ h in λ i. key.Used (exact_text n o x.0 i) (exact_text m p x.1 i)
same_key_is (key.Purge n) (key.Purge o) h = ap key.Purge (exact_text n o h)
same_key_is _ _ h = absurd (true≢false (sym h))

pub same_key_itself : (k : Key) → same_key k k ≡ true
same_key_itself k = key_laws.refl k

-- another key that is the same as a key is the same as those that it is the same as
pub same_turned : (a b : Key) → same_key a b ≡ same_key b a
same_turned a b = key_laws.symm a b
