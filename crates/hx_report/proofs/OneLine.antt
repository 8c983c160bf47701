-- Each namespace has exactly one line.
--     found         how often a name stands among the lines under another, down to a level
--     swap          a name stands under those below m as often as the one above it stands under m
--     ends          a walk up by who stands above whom ends, since it takes no name twice
--     one_line      so each namespace has one line
use Rattle.std.specs.Prelude.{is_some, is_none, slice_get, if◌then◌else◌}
use Rattle.std.proofs.Common.{◌≡◌, ℕ, zero, suc, ◌+◌, ◌≤◌, Bool, true, false, cond, not, ◌&&◌, ◌||◌, Option, Some, None, List, [], ◌∷◌, ◌++◌, filter, length, map, refl, sym, ap, ◌∙◌, subst, inl, inr, arith, true≢false, length-append, zero-add}
use Rattle.std.specs.List.{flat_map, IsDistinct}
use Rattle.std.specs.Map.{lookup}
use Rattle.std.specs.Option.{option_map_or}
use Rattle.std.specs.Str.{bytes_eq}
use Rattle.std.proofs.lemmas.Bool.{and_parts, false_from_ne_true}
use Rattle.hx_model.specs.Forest.{Forest, names_of, is_in, is_there, parent_of, chain_of, in_chain, comes_back}
use Rattle.hx_model.proofs.Climbing.{Climbs, at_top, stopped, onward, chain-Climbs, is_same, is_in_push, AreThere, AreThere-push, none_there, few, itself, through, above_chain, chain_trans}
use Rattle.hx_report.specs.Inside.{above_of, is_that}
use Rattle.hx_report.specs.Outline.{below, tops, is_top, stands_below, line_at, lines_under, lines_of}
use Rattle.hx_report.specs.Outlined.{lines_with}
use Rattle.hx_report.specs.declared.outline.Line.{Line}
use Rattle.hx_report.proofs.Once.{IsOnce, once_from}
use Rattle.hx_report.proofs.Standing.{top_above, below_above, grows}

-- ---- sums over names

abbrev one : Bool → ℕ
one b = if b then 1 else 0

abbrev total : (List ℕ → ℕ) → List (List ℕ) → ℕ
total h [] = 0
total h (m ∷ ms) = h m + total h ms

-- how often a name stands among some
abbrev times : List ℕ → List (List ℕ) → ℕ
times n ms = total (λ (m : List ℕ). one (bytes_eq n m)) ms

-- what a name that may be none counts
abbrev at_up : Option (List ℕ) → (List ℕ → ℕ) → ℕ
at_up o h = option_map_or h o 0

four : (a b c d : ℕ) → (a + b) + (c + d) ≡ (a + c) + (b + d)
four a b c d = omega arith

total_split : (a b : List ℕ → ℕ) (ms : List (List ℕ)) → total (λ (m : List ℕ). a m + b m) ms ≡ total a ms + total b ms
total_split a b [] = refl
total_split a b (m ∷ ms) = ap (λ s. (a m + b m) + s) (total_split a b ms) ∙ four (a m) (b m) (total a ms) (total b ms)

total_same : (a b : List ℕ → ℕ) → ((m : List ℕ) → a m ≡ b m) → (ms : List (List ℕ)) → total a ms ≡ total b ms
total_same a b same ms = let e : a ≡ b = λ i m. same m i in ap (λ (h : List ℕ → ℕ). total h ms) e

total_none : (ms : List (List ℕ)) → total (λ (m : List ℕ). 0) ms ≡ 0
total_none [] = refl
total_none (m ∷ ms) = let rest : total (λ (k : List ℕ). 0) ms ≡ 0 = total_none ms in omega (arith, rest)

total_up : (o : Option (List ℕ)) (h : List ℕ → List ℕ → ℕ) (ms : List (List ℕ)) → total (λ (m : List ℕ). at_up o (λ (p : List ℕ). h p m)) ms ≡ at_up o (λ (p : List ℕ). total (h p) ms)
total_up None h ms = total_none ms
total_up (Some p) h ms = refl

up_sum : (o : Option (List ℕ)) (a b : List ℕ → ℕ) → at_up o a + at_up o b ≡ at_up o (λ (p : List ℕ). a p + b p)
up_sum None a b = refl
up_sum (Some p) a b = refl

one_that : (o : Option (List ℕ)) (m : List ℕ) → one (is_that o m) ≡ at_up o (λ (p : List ℕ). one (bytes_eq p m))
one_that None m = refl
one_that (Some p) m = refl

-- of names that stand once, those that a test takes
once_filter : (n : List ℕ) (test : List ℕ → Bool) (names : List (List ℕ)) → IsOnce names → times n (filter test names) ≡ one (is_in n names && test n)
once_filter n test [] once = refl
once_filter n test (x ∷ names) once = by (bytes_eq n x) refl (test x) refl (once_filter n test names once.1)
  where
    by : (same : Bool) → bytes_eq n x ≡ same → (takes : Bool) → test x ≡ takes → times n (filter test names) ≡ one (is_in n names && test n) → times n (cond takes (x ∷ filter test names) (filter test names)) ≡ one ((same || is_in n names) && test n)
    by true is true tx rest =
        let e : n ≡ x = is_same n x is in
        let out : is_in n names ≡ false = subst (λ (k : List ℕ). is_in k names ≡ false) (sym e) once.0 in
        let tn : test n ≡ true = ap test e ∙ tx in
        let none : times n (filter test names) ≡ 0 = rest ∙ ap (λ b. one (b && test n)) out in
        let here : one (bytes_eq n x) ≡ 1 = ap one is in
        let whole : one (test n) ≡ 1 = ap one tn in
        omega (arith, none, here, whole)
    by true is false tx rest =
        let e : n ≡ x = is_same n x is in
        let out : is_in n names ≡ false = subst (λ (k : List ℕ). is_in k names ≡ false) (sym e) once.0 in
        rest ∙ ap (λ b. one (b && test n)) out ∙ sym (ap one (ap test e ∙ tx))
    by false is true tx rest = let here : one (bytes_eq n x) ≡ 0 = ap one is in omega (arith, here, rest)
    by false is false tx rest = rest

-- ---- lines

-- how often a name stands among the lines under another, down to a level
abbrev found : (List ℕ → List (List ℕ)) → List ℕ → ℕ → List ℕ → ℕ
found g n zero m = one (bytes_eq n m)
found g n (suc left) m = one (bytes_eq n m) + total (found g n left) (g m)

with_append : (n : List ℕ) (xs ys : List Line) → lines_with n (xs ++ ys) ≡ lines_with n xs + lines_with n ys
with_append n [] ys = omega arith
with_append n (line ∷ xs) ys = let rest : lines_with n (xs ++ ys) ≡ lines_with n xs + lines_with n ys = with_append n xs ys in omega (arith, rest)

with_all : (n : List ℕ) (lines : Line → List Line) (h : List ℕ → ℕ) → ((line : Line) → lines_with n (lines line) ≡ h line.name) → (level : ℕ) (ms : List (List ℕ)) → lines_with n (flat_map lines (map (line_at level) ms)) ≡ total h ms
with_all n lines h each level [] = refl
with_all n lines h each level (m ∷ ms) =
    with_append n (lines (line_at level m)) (flat_map lines (map (line_at level) ms))
    ∙ ap (λ s. s + lines_with n (flat_map lines (map (line_at level) ms))) (each (line_at level m))
    ∙ ap (λ s. h m + s) (with_all n lines h each level ms)

with_under : (g : List ℕ → List (List ℕ)) (n : List ℕ) (left : ℕ) (line : Line) → lines_with n (lines_under g left line) ≡ found g n left line.name
with_under g n zero line = omega arith
with_under g n (suc left) line = ap (λ s. one (bytes_eq n line.name) + s) (with_all n (lines_under g left) (found g n left) (with_under g n left) (line.level + 1) (g line.name))

-- ---- who is above

module _ (f : Forest) (once : IsOnce (names_of f)) where
  abbrev up : List ℕ → Option (List ℕ)
  up n = above_of f n

  below_times : (n m : List ℕ) → is_in n (names_of f) ≡ true → times n (below f m) ≡ at_up (up n) (λ (p : List ℕ). one (bytes_eq p m))
  below_times n m there = once_filter n (stands_below f m) (names_of f) once ∙ ap (λ b. one (b && stands_below f m n)) there ∙ ap one (below_above f m n) ∙ one_that (up n) m

  tops_times : (n : List ℕ) → is_in n (names_of f) ≡ true → times n (tops f) ≡ one (is_none (up n))
  tops_times n there = once_filter n (is_top f) (names_of f) once ∙ ap (λ b. one (b && is_top f n)) there ∙ ap one (top_above f n)

  -- a name stands under those below m as often as the one above it stands under m
  swap : (n : List ℕ) → is_in n (names_of f) ≡ true → (left : ℕ) (m : List ℕ) → total (found (below f) n left) (below f m) ≡ at_up (up n) (λ (p : List ℕ). found (below f) p left m)
  swap n there zero m = below_times n m there
  swap n there (suc left) m =
      total_split (λ (c : List ℕ). one (bytes_eq n c)) (λ (c : List ℕ). total (found (below f) n left) (below f c)) (below f m)
      ∙ ap (λ s. times n (below f m) + s) (total_same (λ (c : List ℕ). total (found (below f) n left) (below f c)) (λ (c : List ℕ). at_up (up n) (λ (p : List ℕ). found (below f) p left c)) (swap n there left) (below f m))
      ∙ ap (λ s. times n (below f m) + s) (total_up (up n) (λ (p c : List ℕ). found (below f) p left c) (below f m))
      ∙ ap (λ s. s + at_up (up n) (λ (p : List ℕ). total (found (below f) p left) (below f m))) (below_times n m there)
      ∙ up_sum (up n) (λ (p : List ℕ). one (bytes_eq p m)) (λ (p : List ℕ). total (found (below f) p left) (below f m))

  -- how many lines a name has, down to a level
  abbrev lines_to : ℕ → List ℕ → ℕ
  lines_to left n = total (found (below f) n left) (tops f)

  lines_more : (n : List ℕ) → is_in n (names_of f) ≡ true → (left : ℕ) → lines_to (suc left) n ≡ one (is_none (up n)) + at_up (up n) (lines_to left)
  lines_more n there left =
      total_split (λ (c : List ℕ). one (bytes_eq n c)) (λ (c : List ℕ). total (found (below f) n left) (below f c)) (tops f)
      ∙ ap (λ s. times n (tops f) + s) (total_same (λ (c : List ℕ). total (found (below f) n left) (below f c)) (λ (c : List ℕ). at_up (up n) (λ (p : List ℕ). found (below f) p left c)) (swap n there left) (tops f))
      ∙ ap (λ s. times n (tops f) + s) (total_up (up n) (λ (p c : List ℕ). found (below f) p left c) (tops f))
      ∙ ap (λ s. s + at_up (up n) (lines_to left)) (tops_times n there)

  -- ---- names that aren't there

  below_none : (n m : List ℕ) → is_in n (names_of f) ≡ false → times n (below f m) ≡ 0
  below_none n m out = once_filter n (stands_below f m) (names_of f) once ∙ ap (λ b. one (b && stands_below f m n)) out

  tops_none : (n : List ℕ) → is_in n (names_of f) ≡ false → times n (tops f) ≡ 0
  tops_none n out = once_filter n (is_top f) (names_of f) once ∙ ap (λ b. one (b && is_top f n)) out

  under_none : (n : List ℕ) → is_in n (names_of f) ≡ false → (left : ℕ) (m : List ℕ) → total (found (below f) n left) (below f m) ≡ 0
  under_none n out zero m = below_none n m out
  under_none n out (suc left) m =
      total_split (λ (c : List ℕ). one (bytes_eq n c)) (λ (c : List ℕ). total (found (below f) n left) (below f c)) (below f m)
      ∙ ap (λ s. times n (below f m) + s) (total_same (λ (c : List ℕ). total (found (below f) n left) (below f c)) (λ (c : List ℕ). 0) (under_none n out left) (below f m) ∙ total_none (below f m))
      ∙ ap (λ s. s + 0) (below_none n m out)

  no_line : (n : List ℕ) → is_in n (names_of f) ≡ false → (left : ℕ) → lines_to left n ≡ 0
  no_line n out zero = tops_none n out
  no_line n out (suc left) =
      total_split (λ (c : List ℕ). one (bytes_eq n c)) (λ (c : List ℕ). total (found (below f) n left) (below f c)) (tops f)
      ∙ ap (λ s. times n (tops f) + s) (total_same (λ (c : List ℕ). total (found (below f) n left) (below f c)) (λ (c : List ℕ). 0) (under_none n out left) (tops f) ∙ total_none (tops f))
      ∙ ap (λ s. s + 0) (tops_none n out)

-- ---- walks up

some_same : (p q : List ℕ) → Some q ≡ Some p → q ≡ p
some_same p q e = cc

-- who is above one: its parent, which is there, and it is in no cycle
record IsUp (f : Forest) (n p : List ℕ) : Type 0 where
  apart : comes_back f n ≡ false
  named : parent_of f n ≡ Some p
  there : is_there f p ≡ true

second : (f : Forest) (n p : List ℕ) (next : Option (List ℕ)) (chain : List (List ℕ)) → Climbs f (n ∷ []) next chain → slice_get chain 1 ≡ Some p → (next ≡ Some p) × (is_there f p ≡ true)
second f n p None chain at_top is = cc
second f n p (Some q) chain (stopped stops) is = cc
second f n p (Some q) chain (onward goes rest) is =
    let on = grows f (n ∷ q ∷ []) (parent_of f q) chain rest in
    let e : q ≡ p = some_same p q (sym (ap (λ (c : List (List ℕ)). slice_get c 1) on.1) ∙ is) in
    (ap (λ (k : List ℕ). Some k) e, subst (λ (k : List ℕ). is_there f k ≡ true) e (and_parts (is_there f q) (not (is_in q (n ∷ []))) goes).0)

first : (f : Forest) (n p : List ℕ) (chain : List (List ℕ)) → Climbs f [] (Some n) chain → slice_get chain 1 ≡ Some p → (parent_of f n ≡ Some p) × (is_there f p ≡ true)
first f n p chain (stopped stops) is = cc
first f n p chain (onward goes rest) is = second f n p (parent_of f n) chain rest is

up_facts : (f : Forest) (n p : List ℕ) → above_of f n ≡ Some p → IsUp f n p
up_facts f n p is = by (comes_back f n) refl
  where
    by : (cycle : Bool) → comes_back f n ≡ cycle → IsUp f n p
    by true back = let never : None ≡ Some p = sym (ap (λ b. if b then None else slice_get (chain_of f n) 1) back) ∙ is in cc
    by false back =
        let facts = first f n p (chain_of f n) (chain-Climbs f n) (sym (ap (λ b. if b then None else slice_get (chain_of f n) 1) back) ∙ is) in
        record { apart = back; named = facts.0; there = facts.1 }

is_named : (f : Forest) (n : List ℕ) → is_in n (names_of f) ≡ is_there f n
is_named [] n = refl
is_named (e ∷ f) n = elim (bytes_eq n e.0) as (λ b. (b || is_in n (names_of f)) ≡ is_some (cond b (Some e.1) (lookup (bytes_eq n) f))) [ true ↦ refl | false ↦ is_named f n ]

-- a walk so far: each name on it has a parent, in whose chain n is
abbrev LeadsTo : Forest → List (List ℕ) → List ℕ → Type 0
LeadsTo f built n = (b : List ℕ) → is_in b built ≡ true → (p : List ℕ) × (parent_of f b ≡ Some p) × (in_chain f p n ≡ true)

leads_on : (f : Forest) (built : List (List ℕ)) (n p : List ℕ) → is_there f n ≡ true → IsUp f n p → LeadsTo f built n → LeadsTo f (built ++ n ∷ []) p
leads_on f built n p there is leads b member = elim (is_in_push b built n member) [
  | inl old ↦
      let way = leads b old in
      (way.0, way.1, chain_trans f way.0 n p way.2 (above_chain f n p (through there is.named (itself is.there))))
  | inr last ↦ (p, subst (λ (k : List ℕ). parent_of f k ≡ Some p) (sym last) is.named, above_chain f p p (itself is.there))
]

-- the walk takes no name twice, where none is in a cycle
fresh : (f : Forest) (built : List (List ℕ)) (n : List ℕ) → comes_back f n ≡ false → LeadsTo f built n → is_in n built ≡ false
fresh f built n apart leads = false_from_ne_true (is_in n built) (λ member.
    let way = leads n member in
    let back : comes_back f n ≡ true = ap (λ (o : Option (List ℕ)). option_map_or (λ (p : List ℕ). in_chain f p n) o false) way.1 ∙ way.2 in
    true≢false (sym back ∙ apart))

goes : (there old : Bool) → there ≡ true → old ≡ false → (there && not old) ≡ true
goes true false a b = refl
goes true true a b = sym b
goes false old a b = absurd (true≢false (sym a))

-- a walk may take n where somebody is above it
longer : (f : Forest) (built : List (List ℕ)) (n p : List ℕ) → AreThere f built → is_there f n ≡ true → IsUp f n p → LeadsTo f built n → AreThere f (built ++ n ∷ [])
longer f built n p fine there is leads = AreThere-push f built n (goes (is_there f n) (is_in n built) there (fresh f built n is.apart leads)) fine

-- nobody is above it
at_end : (f : Forest) (once : IsOnce (names_of f)) (left : ℕ) (n : List ℕ) → is_in n (names_of f) ≡ true → above_of f n ≡ None → lines_to f once left n ≡ 1
at_end f once zero n named is = tops_times f once n named ∙ ap (λ (u : Option (List ℕ)). one (is_none u)) is
at_end f once (suc left) n named is = lines_more f once n named left ∙ ap (λ (u : Option (List ℕ)). one (is_none u) + at_up u (lines_to f once left)) is

-- somebody is, who has one line
further : (f : Forest) (once : IsOnce (names_of f)) (left : ℕ) (n p : List ℕ) → is_in n (names_of f) ≡ true → above_of f n ≡ Some p → lines_to f once left p ≡ 1 → lines_to f once (suc left) n ≡ 1
further f once left n p named is has = lines_more f once n named left ∙ ap (λ (u : Option (List ℕ)). one (is_none u) + at_up u (lines_to f once left)) is ∙ zero-add (lines_to f once left p) ∙ has

-- each namespace has one line
one_line : (f : Forest) (once : IsOnce (names_of f)) (left : ℕ) (n : List ℕ) (built : List (List ℕ)) → AreThere f built → is_there f n ≡ true → LeadsTo f built n → length f ≤ left + length built → lines_to f once left n ≡ 1
one_line f once zero n built fine there leads enough = elim (above_of f n) as (λ (o : Option (List ℕ)). above_of f n ≡ o → lines_to f once zero n ≡ 1) [
  | None ↦ λ is. at_end f once zero n (is_named f n ∙ there) is
  | Some p ↦ λ is. absurd (omega (arith, few f (built ++ n ∷ []) (longer f built n p fine there (up_facts f n p is) leads), length-append built (n ∷ [])))
] refl
one_line f once (suc left) n built fine there leads enough = elim (above_of f n) as (λ (o : Option (List ℕ)). above_of f n ≡ o → lines_to f once (suc left) n ≡ 1) [
  | None ↦ λ is. at_end f once (suc left) n (is_named f n ∙ there) is
  | Some p ↦ λ is.
      let facts = up_facts f n p is in
      let enough_left : length f ≤ left + length (built ++ n ∷ []) = omega (arith, length-append built (n ∷ [])) in
      further f once left n p (is_named f n ∙ there) is
      (one_line f once left p (built ++ n ∷ []) (longer f built n p fine there facts leads) facts.there (leads_on f built n p there facts leads) enough_left)
] refl

-- exactly the namespaces have a line, and each has one
pub has_one_line : (f : Forest) → IsDistinct bytes_eq (names_of f) → (n : List ℕ) → lines_with n (lines_of f) ≡ (if is_there f n then 1 else 0)
has_one_line f distinct n =
    with_all n (lines_under (below f) (length f)) (found (below f) n (length f)) (with_under (below f) n (length f)) 0 (tops f)
    ∙ by (is_there f n) refl
  where
    once : IsOnce (names_of f)
    once = once_from (names_of f) distinct

    by : (there : Bool) → is_there f n ≡ there → lines_to f once (length f) n ≡ one there
    by true there = one_line f once (length f) n [] (none_there f) there (λ b never. absurd (true≢false (sym never))) (omega arith)
    by false out = no_line f once n (is_named f n ∙ out) (length f)
