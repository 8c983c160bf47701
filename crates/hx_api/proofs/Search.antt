-- A router whose parameters are whole parts finds a route exactly where one takes the path.
use Rattle.std.proofs.Common.{◌≡◌, inl, inr, ℕ, zero, suc, ◌-◌, ◌<◌, ◌≤◌, List, [], ◌∷◌, length, drop, Option, Some, None, Bool, true, false, cond, not, refl, sym, ap, ap₂, ◌∙◌, subst, arith, nat_eq, ◌==◌, ltb, ◌&&◌, ◌||◌, true≢false}
use Rattle.std.specs.Prelude.{⊤}
use Rattle.std.proofs.lemmas.Bool.Decides.{nat_tests}
use Rattle.std.proofs.lemmas.List.{drop_all}
use Rattle.matchit.specs.Level.{IsText}
use Rattle.std.specs.Cmp.Lexicographic.{pointwise}
use Rattle.matchit.specs.Rows.{RowsOf, param_token, catch_all_token}
use Rattle.matchit.specs.Seek.{slash, segment, has_slash, cuts, same_text, own, step, or_else, longest_from, longest_suffix, with_suffix, param_step, seek, first}
use Rattle.hx_api.proofs.Fits.{after_part, fits, ends_part, ArePlain, HasFit, HasNoFit, IsRouteOf}

-- ---- tests

and_left : (u v : Bool) → (u && v) ≡ true → u ≡ true
and_left true v h = refl
and_left false v h = h

and_right : (u v : Bool) → (u && v) ≡ true → v ≡ true
and_right true v h = h
and_right false v h = absurd (true≢false (sym h))

or_right : (u v : Bool) → (u || v) ≡ true → u ≡ false → v ≡ true
or_right true v h e = absurd (true≢false e)
or_right false v h e = h

not_true : (u : Bool) → not u ≡ true → u ≡ false
not_true true h = absurd (true≢false (sym h))
not_true false h = refl

same_byte : (x b : ℕ) → (x == b) ≡ true → x ≡ b
same_byte x b e = grind (arith, nat_tests)

self_eq : (b : ℕ) → (b == b) ≡ true
self_eq b = grind (arith, nat_tests)

is_byte : (b : ℕ) → b < 256 → (b == param_token) ≡ false
is_byte b h = grind (arith, nat_tests)

-- a token that is no parameter, or one that does not fit
token_none : (x : ℕ) (t : List ℕ) (b : ℕ) (p : List ℕ) → ((x == param_token) ≡ true → fits (x ∷ t) (b ∷ p) ≡ false) → ((x == b) && fits t p) ≡ false → fits (x ∷ t) (b ∷ p) ≡ false
token_none x t b p params h = by (x == param_token) refl
  where
    by : (v : Bool) → (x == param_token) ≡ v → fits (x ∷ t) (b ∷ p) ≡ false
    by true e = params e
    by false e = rw e h

after_text : (p : List ℕ) → IsText p → IsText (after_part p)
after_text [] h = tt
after_text (b ∷ p) h = by (b == slash) (after_text p h.1)
  where
    by : (v : Bool) → IsText (after_part p) → IsText (cond v (b ∷ p) (after_part p))
    by true ih = h
    by false ih = ih

-- ---- segments

last_slash : (x : ℕ) (p : List ℕ) → has_slash p ≡ true → drop (length (segment p)) (x ∷ segment p) ≡ slash ∷ []
last_slash x [] h = absurd (true≢false (sym h))
last_slash x (b ∷ p) h = by (b == slash) refl h (last_slash b p)
  where
    by : (v : Bool) → (b == slash) ≡ v → cond v true (has_slash p) ≡ true → (has_slash p ≡ true → drop (length (segment p)) (b ∷ segment p) ≡ slash ∷ [])
        → drop (length (cond v (b ∷ []) (b ∷ segment p))) (x ∷ cond v (b ∷ []) (b ∷ segment p)) ≡ slash ∷ []
    by true e h ih = let same : b ≡ slash = grind (arith, nat_tests) in ap (λ y. y ∷ []) same
    by false e h ih = ih h

no_slash : (x : ℕ) (p : List ℕ) → has_slash p ≡ false → (x == slash) ≡ false → pointwise nat_eq (slash ∷ []) (drop (length (segment p)) (x ∷ segment p)) ≡ false
no_slash x [] h other = let apart : nat_eq slash x ≡ false = grind (arith, nat_tests) in rw apart
no_slash x (b ∷ p) h other = by (b == slash) refl h (no_slash b p)
  where
    by : (v : Bool) → (b == slash) ≡ v → cond v true (has_slash p) ≡ false
        → (has_slash p ≡ false → (b == slash) ≡ false → pointwise nat_eq (slash ∷ []) (drop (length (segment p)) (b ∷ segment p)) ≡ false)
        → pointwise nat_eq (slash ∷ []) (drop (length (cond v (b ∷ []) (b ∷ segment p))) (x ∷ cond v (b ∷ []) (b ∷ segment p))) ≡ false
    by true e h ih = absurd (true≢false h)
    by false e h ih = ih h e

segment_some : (p : List ℕ) → has_slash p ≡ true → 0 < length (segment p)
segment_some [] h = absurd (true≢false (sym h))
segment_some (b ∷ p) h = by (b == slash)
  where
    by : (v : Bool) → 0 < length (cond v (b ∷ []) (b ∷ segment p))
    by true = omega arith
    by false = omega arith

-- what is left of the path after its segment but the slash
drop_segment : (p : List ℕ) → has_slash p ≡ true → drop (length (segment p) - 1) p ≡ after_part p
drop_segment [] h = refl
drop_segment (b ∷ p) h = by (b == slash) h (drop_segment p) (segment_some p)
  where
    later : (n : ℕ) → 0 < n → drop n (b ∷ p) ≡ drop (n - 1) p
    later zero some = absurd (omega arith)
    later (suc n) some = let e : suc n - 1 ≡ n = omega arith in rw e

    by : (v : Bool) → cond v true (has_slash p) ≡ true → (has_slash p ≡ true → drop (length (segment p) - 1) p ≡ after_part p) → (has_slash p ≡ true → 0 < length (segment p))
        → drop (length (cond v (b ∷ []) (b ∷ segment p)) - 1) (b ∷ p) ≡ cond v (b ∷ p) (after_part p)
    by true g ih some = refl
    by false g ih some =
        let e : suc (length (segment p)) - 1 ≡ length (segment p) = omega arith in
        rw e (later (length (segment p)) (some g) ∙ ih g)

after_none : (p : List ℕ) → has_slash p ≡ false → after_part p ≡ []
after_none [] h = refl
after_none (b ∷ p) h = by (b == slash) h (after_none p)
  where
    by : (v : Bool) → cond v true (has_slash p) ≡ false → (has_slash p ≡ false → after_part p ≡ []) → cond v (b ∷ p) (after_part p) ≡ []
    by true g ih = absurd (true≢false g)
    by false g ih = ih g

after_some : (p : List ℕ) → has_slash p ≡ true → (r : List ℕ) × (after_part p ≡ slash ∷ r)
after_some [] h = absurd (true≢false (sym h))
after_some (b ∷ p) h = by (b == slash) refl h (after_some p)
  where
    by : (v : Bool) → (b == slash) ≡ v → cond v true (has_slash p) ≡ true → (has_slash p ≡ true → (r : List ℕ) × (after_part p ≡ slash ∷ r)) → (r : List ℕ) × (cond v (b ∷ p) (after_part p) ≡ slash ∷ r)
    by true e g ih = let same : b ≡ slash = grind (arith, nat_tests) in (p, ap (λ y. y ∷ p) same)
    by false e g ih = ih g

after_shorter : (p : List ℕ) → length (after_part p) ≤ length p
after_shorter [] = omega arith
after_shorter (b ∷ p) = by (b == slash) (after_shorter p)
  where
    by : (v : Bool) → length (after_part p) ≤ length p → length (cond v (b ∷ p) (after_part p)) ≤ length (b ∷ p)
    by true ih = omega arith
    by false ih = omega arith

segment_on : (b : ℕ) (p : List ℕ) → (b == slash) ≡ false → segment (b ∷ p) ≡ b ∷ segment p
segment_on b p e = rw e

cuts_yes : (b : ℕ) (p : List ℕ) → has_slash p ≡ true → cuts (b ∷ segment p) (slash ∷ []) ≡ true
cuts_yes b p h =
    let some = segment_some p h in
    let long : ltb 1 (suc (length (segment p))) ≡ true = grind (arith, nat_tests) in
    let at : suc (length (segment p)) - 1 ≡ length (segment p) = omega arith in
    rw (long, at, last_slash b p h)

cuts_no : (b : ℕ) (p : List ℕ) → has_slash p ≡ false → (b == slash) ≡ false → cuts (b ∷ segment p) (slash ∷ []) ≡ false
cuts_no b p h other =
    let at : suc (length (segment p)) - 1 ≡ length (segment p) = omega arith in
    rw (at, no_slash b p h other) (false_right (ltb 1 (suc (length (segment p)))))
  where
    false_right : (v : Bool) → (v && false) ≡ false
    false_right true = refl
    false_right false = refl

is_slash : (x : ℕ) → (x == slash) ≡ true → x ≡ slash
is_slash x e = grind (arith, nat_tests)

abbrev is_param : List ℕ → Bool
is_param [] = false
is_param (x ∷ t) = x == param_token

Finds : Type 0 → ℕ → Type 0
Finds K n = (rs : RowsOf K) (q : List ℕ) → length q ≤ n → ArePlain rs → IsText q → IsRouteOf rs q (seek 0 rs q)

module _ {K : Type 0} where
  seek_end : (rs : RowsOf K) → seek 0 rs [] ≡ own rs
  unfolding seek
  seek_end rs = refl

  -- ---- the search

  skips : (k : ℕ) (rs : RowsOf K) (p : List ℕ) → seek k rs p ≡ seek 0 rs (drop k p)
  unfolding seek
  skips zero rs p = refl
  skips (suc k) rs [] = refl
  skips (suc k) rs (b ∷ p) = skips k rs p

  nothing_after : (path : List ℕ) → (param_step {K = K} [] path).1 ≡ []
  unfolding param_step
  nothing_after path = by (has_slash path)
    where
      by : (v : Bool) → (let q : ℕ × RowsOf K = cond v (0, []) (length path, []) in q.1) ≡ []
      by true = refl
      by false = refl

  nothing : (k : ℕ) (p : List ℕ) → seek {K = K} k [] p ≡ None
  unfolding seek
  nothing k [] = refl
  nothing (suc k) (b ∷ p) = nothing k p
  nothing zero (b ∷ p) = let last = nothing ((param_step {K = K} [] (b ∷ p)).0 - 1) p in rw (nothing_after (b ∷ p), nothing 0 p, last)

  -- ---- the longest suffix of rows that go on after a parameter

  AllEnd : RowsOf K → Type 0
  AllEnd [] = ⊤
  AllEnd ((t, k) ∷ rs) = (ends_part t ≡ true) × AllEnd rs

  goes_on : RowsOf K → Bool
  goes_on [] = false
  goes_on (([], k) ∷ rs) = goes_on rs
  goes_on ((x ∷ t, k) ∷ rs) = true

  longest_kept : (seg : List ℕ) (rs : RowsOf K) → AllEnd rs → longest_from seg (slash ∷ []) rs ≡ slash ∷ []
  unfolding AllEnd
  longest_kept seg [] h = refl
  longest_kept seg (([], k) ∷ rs) h = longest_kept seg rs h.1
  longest_kept seg ((x ∷ t, k) ∷ rs) h = rw (h.0) (longest_kept seg rs h.1)

  longest_miss : (seg : List ℕ) (rs : RowsOf K) → AllEnd rs → cuts seg (slash ∷ []) ≡ false → longest_from seg [] rs ≡ []
  unfolding AllEnd
  longest_miss seg [] h miss = refl
  longest_miss seg (([], k) ∷ rs) h miss = longest_miss seg rs h.1 miss
  longest_miss seg ((x ∷ t, k) ∷ rs) h miss = let e = is_slash x h.0 in rw (h.0, e, miss) (longest_miss seg rs h.1 miss)

  longest_hit : (seg : List ℕ) (rs : RowsOf K) → AllEnd rs → cuts seg (slash ∷ []) ≡ true → longest_from seg [] rs ≡ cond (goes_on rs) (slash ∷ []) []
  unfolding AllEnd goes_on
  longest_hit seg [] h hit = refl
  longest_hit seg (([], k) ∷ rs) h hit = longest_hit seg rs h.1 hit
  longest_hit seg ((x ∷ t, k) ∷ rs) h hit = let e = is_slash x h.0 in rw (h.0, e, hit) (longest_kept seg rs h.1)

  -- ---- a parameter's step

  param_more : (ps : RowsOf K) (b : ℕ) (p : List ℕ) → AllEnd ps → (b == slash) ≡ false → has_slash p ≡ true → goes_on ps ≡ true
      → param_step ps (b ∷ p) ≡ (length (segment p), with_suffix (slash ∷ []) ps)
  unfolding param_step
  param_more ps b p h other some goes =
      let found : longest_suffix (b ∷ segment p) ps ≡ slash ∷ [] = longest_hit (b ∷ segment p) ps h (cuts_yes b p some) ∙ ap (λ v. cond v (slash ∷ []) []) goes in
      let less : suc (length (segment p)) - 1 ≡ length (segment p) = omega arith in
      rw (other, found, less)

  param_none : (ps : RowsOf K) (b : ℕ) (p : List ℕ) → AllEnd ps → (b == slash) ≡ false → has_slash p ≡ true → goes_on ps ≡ false
      → param_step ps (b ∷ p) ≡ (0, [])
  unfolding param_step
  param_none ps b p h other some goes =
      let found : longest_suffix (b ∷ segment p) ps ≡ [] = longest_hit (b ∷ segment p) ps h (cuts_yes b p some) ∙ ap (λ v. cond v (slash ∷ []) []) goes in
      rw (other, found, some)

  param_end : (ps : RowsOf K) (b : ℕ) (p : List ℕ) → AllEnd ps → (b == slash) ≡ false → has_slash p ≡ false → param_step ps (b ∷ p) ≡ (suc (length p), ps)
  unfolding param_step
  param_end ps b p h other none =
      let found : longest_suffix (b ∷ segment p) ps ≡ [] = longest_miss (b ∷ segment p) ps h (cuts_no b p none other) in
      rw (other, found, none)

  param_slash : (ps : RowsOf K) (b : ℕ) (p : List ℕ) → AllEnd ps → (b == slash) ≡ true → param_step ps (b ∷ p) ≡ (0, [])
  unfolding param_step
  param_slash ps b p h is =
      let found : longest_suffix (b ∷ []) ps ≡ [] = longest_miss (b ∷ []) ps h refl in
      rw (is, found)

  -- ---- which rows take the path

  own_good : (rs : RowsOf K) → IsRouteOf rs [] (own rs)
  own_good [] = tt
  own_good (([], k) ∷ rs) = inl (refl, refl)
  own_good ((x ∷ t, k) ∷ rs) = by (own rs) (own_good rs)
    where
      by : (o : Option K) → IsRouteOf rs [] o → IsRouteOf ((x ∷ t, k) ∷ rs) [] o
      by None h = (refl, h)
      by (Some l) h = inr h

  -- the rows that begin with a parameter do not take the path
  NoParam : RowsOf K → List ℕ → Type 0
  NoParam [] path = ⊤
  NoParam ((t, k) ∷ rs) path = (is_param t ≡ true → fits t path ≡ false) × NoParam rs path

  wide : (s : List ℕ) (rs : RowsOf K) (q : List ℕ) (k : K) → HasFit (with_suffix s rs) q k → HasFit rs q k
  wide s [] q k h = h
  wide s ((t, l) ∷ rs) q k h = by (same_text (segment t) s) h (wide s rs q k)
    where
      by : (v : Bool) → HasFit (cond v ((t, l) ∷ with_suffix s rs) (with_suffix s rs)) q k → (HasFit (with_suffix s rs) q k → HasFit rs q k) → HasFit ((t, l) ∷ rs) q k
      by true (inl e) ih = inl e
      by true (inr g) ih = inr (ih g)
      by false g ih = inr (ih g)

  -- past a slash, the rows that go on with one are all that count
  wide_none : (rs : RowsOf K) (r : List ℕ) → AllEnd rs → HasNoFit (with_suffix (slash ∷ []) rs) (slash ∷ r) → HasNoFit rs (slash ∷ r)
  unfolding AllEnd
  wide_none [] r ends h = tt
  wide_none (([], k) ∷ rs) r ends h = (refl, wide_none rs r ends.1 h)
  wide_none ((x ∷ t, k) ∷ rs) r ends h =
      let e = is_slash x ends.0 in
      let kept : same_text (segment (x ∷ t)) (slash ∷ []) ≡ true = rw (ends.0, e) in
      let both = subst (λ v. HasNoFit (cond v ((x ∷ t, k) ∷ with_suffix (slash ∷ []) rs) (with_suffix (slash ∷ []) rs)) (slash ∷ r)) kept h in
      (both.0, wide_none rs r ends.1 both.1)

  all_end : (rs : RowsOf K) (r : List ℕ) → AllEnd rs → goes_on rs ≡ false → HasNoFit rs (slash ∷ r)
  unfolding AllEnd goes_on
  all_end [] r ends h = tt
  all_end (([], k) ∷ rs) r ends h = (refl, all_end rs r ends.1 h)
  all_end ((x ∷ t, k) ∷ rs) r ends h = absurd (true≢false h)

  suffix_plain : (s : List ℕ) (rs : RowsOf K) → ArePlain rs → ArePlain (with_suffix s rs)
  suffix_plain s [] h = tt
  suffix_plain s ((t, k) ∷ rs) h = by (same_text (segment t) s) (suffix_plain s rs h.1)
    where
      by : (v : Bool) → ArePlain (with_suffix s rs) → ArePlain (cond v ((t, k) ∷ with_suffix s rs) (with_suffix s rs))
      by true ih = (h.0, ih)
      by false ih = ih

  -- ---- one token further

  step_plain : (b : ℕ) (rs : RowsOf K) → ArePlain rs → ArePlain (step b rs)
  step_plain b [] h = tt
  step_plain b (([], k) ∷ rs) h = step_plain b rs h.1
  step_plain b ((x ∷ t, k) ∷ rs) h = by (x == b) (step_plain b rs h.1)
    where
      by : (v : Bool) → ArePlain (step b rs) → ArePlain (cond v ((t, k) ∷ step b rs) (step b rs))
      by true ih = (and_right _ _ (and_right _ _ h.0), ih)
      by false ih = ih

  step_end : (rs : RowsOf K) → ArePlain rs → AllEnd (step param_token rs)
  unfolding AllEnd
  step_end [] h = tt
  step_end (([], k) ∷ rs) h = step_end rs h.1
  step_end ((x ∷ t, k) ∷ rs) h = by (x == param_token) refl (step_end rs h.1)
    where
      by : (v : Bool) → (x == param_token) ≡ v → AllEnd (step param_token rs) → AllEnd (cond v ((t, k) ∷ step param_token rs) (step param_token rs))
      by true e ih = (or_right _ _ (and_left _ _ (and_right _ _ h.0)) (ap not e), ih)
      by false e ih = ih

  no_catch : (rs : RowsOf K) → ArePlain rs → step catch_all_token rs ≡ []
  no_catch [] h = refl
  no_catch (([], k) ∷ rs) h = no_catch rs h.1
  no_catch ((x ∷ t, k) ∷ rs) h = let e : (x == catch_all_token) ≡ false = not_true _ (and_left _ _ h.0) in rw e (no_catch rs h.1)

  byte_fits : (b : ℕ) (p : List ℕ) (k : K) (rs : RowsOf K) → (b == param_token) ≡ false → HasFit (step b rs) p k → HasFit rs (b ∷ p) k
  byte_fits b p k [] byte h = h
  byte_fits b p k (([], l) ∷ rs) byte h = inr (byte_fits b p k rs byte h)
  byte_fits b p k ((x ∷ t, l) ∷ rs) byte h = by (x == b) refl h (byte_fits b p k rs byte)
    where
      by : (v : Bool) → (x == b) ≡ v → HasFit (cond v ((t, l) ∷ step b rs) (step b rs)) p k → (HasFit (step b rs) p k → HasFit rs (b ∷ p) k) → HasFit ((x ∷ t, l) ∷ rs) (b ∷ p) k
      by true e (inl f) ih = let same = same_byte x b e in let at : fits (x ∷ t) (b ∷ p) ≡ true = rw (same, byte, self_eq b, f.0) in inl (at, f.1)
      by true e (inr g) ih = inr (ih g)
      by false e g ih = inr (ih g)

  byte_none : (b : ℕ) (p : List ℕ) (rs : RowsOf K) → NoParam rs (b ∷ p) → HasNoFit (step b rs) p → HasNoFit rs (b ∷ p)
  unfolding NoParam
  byte_none b p [] params h = tt
  byte_none b p (([], l) ∷ rs) params h = (refl, byte_none b p rs params.1 h)
  byte_none b p ((x ∷ t, l) ∷ rs) params h = by (x == b) refl h (byte_none b p rs params.1)
    where
      by : (v : Bool) → (x == b) ≡ v → HasNoFit (cond v ((t, l) ∷ step b rs) (step b rs)) p → (HasNoFit (step b rs) p → HasNoFit rs (b ∷ p)) → HasNoFit ((x ∷ t, l) ∷ rs) (b ∷ p)
      by true e g ih = (token_none x t b p params.0 (ap₂ (λ u v. u && v) e g.0), ih g.1)
      by false e g ih = (token_none x t b p params.0 (ap (λ u. u && fits t p) e), ih g)

  param_fits : (b : ℕ) (p : List ℕ) (k : K) (rs : RowsOf K) → (b == slash) ≡ false → HasFit (step param_token rs) (after_part p) k → HasFit rs (b ∷ p) k
  param_fits b p k [] other h = h
  param_fits b p k (([], l) ∷ rs) other h = inr (param_fits b p k rs other h)
  param_fits b p k ((x ∷ t, l) ∷ rs) other h = by (x == param_token) refl h (param_fits b p k rs other)
    where
      by : (v : Bool) → (x == param_token) ≡ v → HasFit (cond v ((t, l) ∷ step param_token rs) (step param_token rs)) (after_part p) k
          → (HasFit (step param_token rs) (after_part p) k → HasFit rs (b ∷ p) k) → HasFit ((x ∷ t, l) ∷ rs) (b ∷ p) k
      by true e (inl f) ih = let at : fits (x ∷ t) (b ∷ p) ≡ true = rw (e, other) f.0 in inl (at, f.1)
      by true e (inr g) ih = inr (ih g)
      by false e g ih = inr (ih g)

  param_no_fit : (b : ℕ) (p : List ℕ) (rs : RowsOf K) → (b == slash) ≡ false → HasNoFit (step param_token rs) (after_part p) → NoParam rs (b ∷ p)
  unfolding NoParam
  param_no_fit b p [] other h = tt
  param_no_fit b p (([], l) ∷ rs) other h = (λ e. absurd (true≢false (sym e)), param_no_fit b p rs other h)
  param_no_fit b p ((x ∷ t, l) ∷ rs) other h = by (x == param_token) refl h (param_no_fit b p rs other)
    where
      by : (v : Bool) → (x == param_token) ≡ v → HasNoFit (cond v ((t, l) ∷ step param_token rs) (step param_token rs)) (after_part p)
          → (HasNoFit (step param_token rs) (after_part p) → NoParam rs (b ∷ p)) → NoParam ((x ∷ t, l) ∷ rs) (b ∷ p)
      by true e g ih = (λ is. rw (e, other) g.0, ih g.1)
      by false e g ih = (λ is. absurd (true≢false (sym is ∙ e)), ih g)

  slash_no_fit : (b : ℕ) (p : List ℕ) (rs : RowsOf K) → (b == slash) ≡ true → NoParam rs (b ∷ p)
  unfolding NoParam
  slash_no_fit b p [] is = tt
  slash_no_fit b p (([], l) ∷ rs) is = (λ e. absurd (true≢false (sym e)), slash_no_fit b p rs is)
  slash_no_fit b p ((x ∷ t, l) ∷ rs) is = (λ e. rw (e, is), slash_no_fit b p rs is)

  -- ---- the theorem

  IsParam : RowsOf K → List ℕ → Option K → Type 0
  IsParam rs path None = NoParam rs path
  IsParam rs path (Some k) = HasFit rs path k

  lifted : (b : ℕ) (p : List ℕ) (rs : RowsOf K) (o : Option K) → (b == slash) ≡ false → IsRouteOf (step param_token rs) (after_part p) o → IsParam rs (b ∷ p) o
  unfolding IsParam
  lifted b p rs None other h = param_no_fit b p rs other h
  lifted b p rs (Some k) other h = param_fits b p k rs other h

  widened : (ps : RowsOf K) (r : List ℕ) (o : Option K) → AllEnd ps → IsRouteOf (with_suffix (slash ∷ []) ps) (slash ∷ r) o → IsRouteOf ps (slash ∷ r) o
  widened ps r None ends h = wide_none ps r ends h
  widened ps r (Some k) ends h = wide (slash ∷ []) ps (slash ∷ r) k h

  abbrev Want : ℕ → List ℕ → RowsOf K → ℕ × RowsOf K → Type 0
  Want b p rs q = IsParam rs (b ∷ p) (seek (q.0 - 1) q.1 p)

  param_case : (n : ℕ) (b : ℕ) (p : List ℕ) (rs ps : RowsOf K) → ps ≡ step param_token rs → AllEnd ps → ArePlain ps → length p ≤ n → IsText p → Finds K n
      → (u : Bool) → (b == slash) ≡ u → (v : Bool) → has_slash p ≡ v → (w : Bool) → goes_on ps ≡ w → Want b p rs (param_step ps (b ∷ p))
  unfolding IsParam Finds
  param_case n b p rs ps is_step ends plain short bytes finds true is v e w f =
      subst (Want b p rs) (sym (param_slash ps b p ends is)) (subst (IsParam rs (b ∷ p)) (sym (nothing 0 p)) (slash_no_fit b p rs is))
  param_case n b p rs ps is_step ends plain short bytes finds false other true some true goes =
      let rest = after_some p some in
      let kept = with_suffix (slash ∷ []) ps in
      let found : IsRouteOf kept (after_part p) (seek 0 kept (after_part p)) = finds kept (after_part p) (omega (arith, after_shorter p)) (suffix_plain (slash ∷ []) ps plain) (after_text p bytes) in
      let all : IsRouteOf ps (after_part p) (seek 0 kept (after_part p)) =
      subst (λ q. IsRouteOf ps q (seek 0 kept (after_part p))) (sym rest.1) (widened ps rest.0 _ ends (subst (λ q. IsRouteOf kept q (seek 0 kept (after_part p))) rest.1 found)) in
      let at : seek (length (segment p) - 1) kept p ≡ seek 0 kept (after_part p) = skips (length (segment p) - 1) kept p ∙ ap (seek 0 kept) (drop_segment p some) in
      subst (Want b p rs) (sym (param_more ps b p ends other some goes))
      (subst (IsParam rs (b ∷ p)) (sym at) (lifted b p rs _ other (subst (λ xs. IsRouteOf xs (after_part p) (seek 0 kept (after_part p))) is_step all)))
  param_case n b p rs ps is_step ends plain short bytes finds false other true some false goes =
      let rest = after_some p some in
      let all : IsRouteOf ps (after_part p) None = subst (λ q. HasNoFit ps q) (sym rest.1) (all_end ps rest.0 ends goes) in
      subst (Want b p rs) (sym (param_none ps b p ends other some goes))
      (subst (IsParam rs (b ∷ p)) (sym (nothing 0 p)) (lifted b p rs None other (subst (λ xs. IsRouteOf xs (after_part p) None) is_step all)))
  param_case n b p rs ps is_step ends plain short bytes finds false other false none w f =
      let less : suc (length p) - 1 ≡ length p = omega arith in
      let gone : drop (length p) p ≡ [] = drop_all (length p) p (omega arith) in
      let at : seek (suc (length p) - 1) ps p ≡ own ps = ap (λ m. seek m ps p) less ∙ skips (length p) ps p ∙ ap (seek 0 ps) gone ∙ seek_end ps in
      let all : IsRouteOf ps (after_part p) (own ps) = subst (λ q. IsRouteOf ps q (own ps)) (sym (after_none p none)) (own_good ps) in
      subst (Want b p rs) (sym (param_end ps b p ends other none))
      (subst (IsParam rs (b ∷ p)) (sym at) (lifted b p rs _ other (subst (λ xs. IsRouteOf xs (after_part p) (own ps)) is_step all)))

  by_param : (n : ℕ) (b : ℕ) (p : List ℕ) (rs : RowsOf K) → length p ≤ n → ArePlain rs → IsText p → Finds K n
      → IsParam rs (b ∷ p) (seek ((param_step (step param_token rs) (b ∷ p)).0 - 1) (param_step (step param_token rs) (b ∷ p)).1 p)
  by_param n b p rs short plain bytes finds =
      param_case n b p rs (step param_token rs) refl (step_end rs plain) (step_plain param_token rs plain) short bytes finds (b == slash) refl (has_slash p) refl (goes_on (step param_token rs)) refl

  either : (b : ℕ) (p : List ℕ) (rs : RowsOf K) (x y z : Option K) → (b == param_token) ≡ false → IsRouteOf (step b rs) p x → IsParam rs (b ∷ p) y → z ≡ None → IsRouteOf rs (b ∷ p) (or_else x (or_else y z))
  unfolding IsParam
  either b p rs (Some k) y z byte h params e = byte_fits b p k rs byte h
  either b p rs None (Some k) z byte h params e = params
  either b p rs None None z byte h params e = subst (λ o. IsRouteOf rs (b ∷ p) o) (sym e) (byte_none b p rs params h)

finds_all : (K : Type 0) (n : ℕ) → Finds K n
unfolding Finds seek
finds_all K n rs [] short plain bytes = own_good rs
finds_all K zero rs (b ∷ p) short plain bytes = absurd (omega arith)
finds_all K (suc n) rs (b ∷ p) short plain bytes =
    let byte : (b == param_token) ≡ false = is_byte b bytes.0 in
    either b p rs _ _ _ byte (finds_all K n (step b rs) p (omega arith) (step_plain b rs plain) bytes.1) (by_param n b p rs (omega arith) plain bytes.1 (finds_all K n)) (ap own (no_catch rs plain))

-- the search finds a row exactly where one takes the path
pub first-IsRouteOf : {K : Type 0} (rs : RowsOf K) (path : List ℕ) → ArePlain rs → IsText path → IsRouteOf rs path (first rs path)
unfolding Finds
first-IsRouteOf {K} rs path plain bytes = finds_all K (length path) rs path (omega arith) plain bytes
