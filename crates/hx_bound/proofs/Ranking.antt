-- The order of keys.
--     Follows           a key doesn't precede another: its rank is greater, or the same and its depth isn't less
--     keys_are_ranked   keys stand on levels
--     behind            what comes behind a key precedes nothing that the key doesn't precede
use Rattle.std.proofs.Common.{◌≡◌, ◌≤◌, ◌<◌, ◌==◌, ◌⊎◌, inl, inr, Bool, true, false, ◌&&◌, refl, sym, ◌∙◌, arith, nat_lt}
use Rattle.std.proofs.lemmas.Bool.{or_cases, or_parts, or_left, and_parts, ltb-true, ltb-false, eqb-true, eqb-false, cases_Bool, cases_lt}
use Rattle.hx_model.specs.Forest.{Forest}
use Rattle.hx_model.specs.declared.key.Key.{Key}
use Rattle.hx_order.specs.Ranks.{rank_of, depth_in, precedes}
use Rattle.hx_bound.specs.Rank.{KeysAreRanked}

module _ (f : Forest) where
  abbrev Follows : Key → Key → Type 0
  Follows a b = (rank_of b < rank_of a) ⊎ ((rank_of b ≡ rank_of a) × (depth_in f b ≤ depth_in f a))

  follows_by : (a b : Key) (t : Bool) → (rank_of a == rank_of b) ≡ t → rank_of b ≤ rank_of a → (t && nat_lt (depth_in f a) (depth_in f b)) ≡ false → Follows a b
  follows_by a b true is le less = inr (sym (eqb-true (rank_of a) (rank_of b) is), ltb-false (depth_in f a) (depth_in f b) less)
  follows_by a b false is le less = let apart = eqb-false (rank_of a) (rank_of b) is in elim (cases_lt (rank_of b) (rank_of a)) [
    | inl lower ↦ inl lower
    | inr higher ↦ absurd (apart (omega (arith, le, higher)))
  ]

  follows_where : (a b : Key) → precedes f a b ≡ false → Follows a b
  follows_where a b e = let p = or_parts (nat_lt (rank_of a) (rank_of b)) _ e in follows_by a b (rank_of a == rank_of b) refl (ltb-false (rank_of a) (rank_of b) p.0) p.1

  refutes : (a b : Key) → Follows a b → precedes f a b ≡ true → ⊥
  refutes a b after e = elim (or_cases (nat_lt (rank_of a) (rank_of b)) _ e) [
    | inl less ↦ let l = ltb-true (rank_of a) (rank_of b) less in elim after [ inl up ↦ absurd (omega (arith, l, up)) | inr tie ↦ let t = tie.0 in absurd (omega (arith, l, t)) ]
    | inr both ↦
        let p = and_parts (rank_of a == rank_of b) _ both in
        let same = eqb-true (rank_of a) (rank_of b) p.0 in
        let deeper = ltb-true (depth_in f a) (depth_in f b) p.1 in
        elim after [ inl up ↦ absurd (omega (arith, same, up)) | inr tie ↦ let t = tie.1 in absurd (omega (arith, deeper, t)) ]
  ]

  never : (a b : Key) → Follows a b → precedes f a b ≡ false
  never a b after = elim (cases_Bool (precedes f a b)) [ inl e ↦ absurd (refutes a b after e) | inr is ↦ is ]

  joined : (a b c : Key) → Follows a b → Follows b c → Follows a c
  joined a b c (inl p) (inl q) = inl (omega (arith, p, q))
  joined a b c (inl p) (inr q) = let e = q.0 in inl (omega (arith, p, e))
  joined a b c (inr p) (inl q) = let e = p.0 in inl (omega (arith, e, q))
  joined a b c (inr p) (inr q) = let d = p.1 in let e = q.1 in inr (q.0 ∙ p.0, omega (arith, d, e))

  turned : (a b : Key) → precedes f a b ≡ true → Follows b a
  turned a b e = elim (or_cases (nat_lt (rank_of a) (rank_of b)) _ e) [
    | inl less ↦ inl (ltb-true (rank_of a) (rank_of b) less)
    | inr both ↦
        let p = and_parts (rank_of a == rank_of b) _ both in
        let deeper = ltb-true (depth_in f a) (depth_in f b) p.1 in
        inr (eqb-true (rank_of a) (rank_of b) p.0, omega (arith, deeper))
  ]

  -- what doesn't come before either of two that follow one another
  between : (a b c : Key) → precedes f a b ≡ false → precedes f b c ≡ false → precedes f a c ≡ false
  between a b c first last = never a c (joined a b c (follows_where a b first) (follows_where b c last))

  pub itself : (a : Key) → precedes f a a ≡ false
  itself a = never a a (inr (refl, omega arith))

  -- what comes behind a key precedes nothing that the key doesn't precede
  pub behind : (j k later : Key) → precedes f k j ≡ false → precedes f k later ≡ true → precedes f later j ≡ false
  behind j k later first last = never later j (joined later k j (turned k later last) (follows_where k j first))

  pub chained : (a b c : Key) → precedes f a b ≡ true → precedes f b c ≡ true → precedes f a c ≡ true
  chained a b c first last = elim (cases_Bool (precedes f a c)) [
    | inl is ↦ is
    | inr out ↦ absurd (refutes b c (joined b a c (turned a b first) (follows_where a c out)) last)
  ]

-- a lower rank comes first
pub by_rank : (f : Forest) (a b : Key) → nat_lt (rank_of a) (rank_of b) ≡ true → precedes f a b ≡ true
by_rank f a b less = or_left (nat_lt (rank_of a) (rank_of b)) _ less

pub keys_are_ranked : KeysAreRanked
keys_are_ranked f = record { itself = itself f; chained = chained f; between = between f }
