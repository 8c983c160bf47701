-- The text of an object of a plain kind is the text of the members that it keeps, cut at their places, with the members that each object has in between.
use Rattle.std.proofs.Common.{◌≡◌, ℕ, suc, ◌+◌, ◌-◌, ◌<◌, ◌==◌, ◌&&◌, ◌||◌, nat_lt, Bool, true, false, cond, List, [], ◌∷◌, ◌++◌, length, take, drop, get_or, codes, refl, sym, subst, ap, ◌∙◌, arith, append_assoc, length-append, nat_cmp, Ordering, Less, Equal, Greater, Some, None}
use Rattle.std.specs.List.{slice_range}
use Rattle.std.specs.Ordering.{match_ordering, ordering_reverse, is_lt}
use Rattle.std.specs.Cmp.Lexicographic.{slice_cmp}
use Rattle.std.specs.Str.{IsCharBoundary}
use Rattle.std.proofs.lemmas.Bool.{ne_eqb, lt-ltb}
use Rattle.std.proofs.lemmas.Cmp.{nat_list_cmp_total}
use Rattle.std.proofs.lemmas.List.{get_or-append-add}
use Rattle.std.proofs.lemmas.Str.{IsCharBoundary-before_ascii}
use lib.Seq.{take-append_seam, drop-append_seam}
use Rattle.json.specs.Print.{quoted, escape_byte}
use Rattle.serde_json.specs.Data.{Data, string, object, Members, no_members, member, put}
use Rattle.serde_json.specs.Find.{get_member}
use Rattle.serde_json.specs.Read.{read}
use Rattle.serde_json.specs.Written.{comma_if, compact_text, members_text}
use Rattle.hx_object.specs.Faults.{IsLegal}
use Rattle.hx_object.specs.Json.{members_in, metadata_of, own_members, object_text}
use Rattle.hx_object.specs.Kinds.{name_of, api_version_of}
use Rattle.hx_object.specs.Placed.{joined, below, place_of, IsPlaced}
use Rattle.hx_object.specs.declared.members.Places.{Places}
use Rattle.hx_object.specs.declared.object.Need.{Need}
use Rattle.hx_object.specs.declared.object.Object.{Object}
use Rattle.hx_object.specs.declared.object.Payload.TheVariants.{Plain}
use Rattle.hx_json.specs.Pushed.{IsCut, front_part, later_part, metadata_text, plain_text}
use Rattle.hx_json.proofs.Pushes.{metadata_pushed}
use Rattle.hx_json.proofs.RoundTrip.{join, join_none, read-compact_text}
use Rattle.hx_json.proofs.Telling.{LacksHead, own_lacks}

-- ---- texts of members in two parts

abbrev some : Members → Bool
some no_members = false
some (member k d ms) = true

more : (c q t j r : List ℕ) → c ++ (q ++ 58 ∷ (t ++ (j ++ r))) ≡ (c ++ (q ++ 58 ∷ (t ++ j))) ++ r
more c q t j r =
    sym (append_assoc c (q ++ 58 ∷ (t ++ j)) r ∙ ap (λ l. c ++ l) (append_assoc q (58 ∷ (t ++ j)) r ∙ ap (λ l. q ++ 58 ∷ l) (append_assoc t j r)))

members_text-join : (later : Bool) (xs ys : Members) → members_text later (join xs ys) ≡ joined later xs ++ members_text (later || some xs) ys
members_text-join false no_members ys = refl
members_text-join true no_members ys = refl
members_text-join false (member k d xs) ys = ap (λ t. quoted k ++ 58 ∷ (compact_text d ++ t)) (members_text-join true xs ys) ∙ more [] (quoted k) (compact_text d) (joined true xs) (members_text true ys)
members_text-join true (member k d xs) ys = ap (λ t. 44 ∷ (quoted k ++ 58 ∷ (compact_text d ++ t))) (members_text-join true xs ys) ∙ more (44 ∷ []) (quoted k) (compact_text d) (joined true xs) (members_text true ys)

joined-join : (later : Bool) (xs ys : Members) → joined later (join xs ys) ≡ joined later xs ++ joined (later || some xs) ys
joined-join false no_members ys = refl
joined-join true no_members ys = refl
joined-join false (member k d xs) ys = ap (λ t. quoted k ++ 58 ∷ (compact_text d ++ t)) (joined-join true xs ys) ∙ more [] (quoted k) (compact_text d) (joined true xs) (joined true ys)
joined-join true (member k d xs) ys = ap (λ t. 44 ∷ (quoted k ++ 58 ∷ (compact_text d ++ t))) (joined-join true xs ys) ∙ more (44 ∷ []) (quoted k) (compact_text d) (joined true xs) (joined true ys)

members_text-joined : (later : Bool) (ms : Members) → members_text later ms ≡ joined later ms ++ 125 ∷ []
members_text-joined later ms = ap (members_text later) (sym (join_none ms)) ∙ members_text-join later ms no_members

join_twice : (xs ys zs : Members) → join (join xs ys) zs ≡ join xs (join ys zs)
join_twice no_members ys zs = refl
join_twice (member k d xs) ys zs = ap (member k d) (join_twice xs ys zs)

-- ---- a text that is cut behind members

abbrev place : Members → ℕ
place ms = 1 + length (joined false ms)

place-join : (xs ys : Members) → place (join xs ys) ≡ place xs + length (joined (some xs) ys)
place-join xs ys =
    let e : length (joined false (join xs ys)) ≡ length (joined false xs) + length (joined (some xs) ys) = ap length (joined-join false xs ys) ∙ length-append (joined false xs) (joined (some xs) ys) in
    omega (arith, e)

head_ascii : (later : Bool) (ms : Members) → get_or (members_text later ms) 0 0 < 128
head_ascii later no_members = omega arith
head_ascii false (member k d ms) = omega arith
head_ascii true (member k d ms) = omega arith

some_text : (later : Bool) (ms : Members) → 0 < length (members_text later ms)
some_text later no_members = omega arith
some_text false (member k d ms) = omega arith
some_text true (member k d ms) = omega arith

-- the text is that of members in two parts, and p is where the second begins
record IsCutAt (text : List ℕ) (p : ℕ) (before rest : Members) : Type 0 where
  within : p < length text
  front : take p text ≡ 123 ∷ joined false before
  back : drop p text ≡ members_text (some before) rest
  edge : IsCharBoundary text p

cut_at : (text : List ℕ) (p : ℕ) (before rest : Members) → text ≡ compact_text (object (join before rest)) → p ≡ place before → IsCutAt text p before rest
cut_at text p before rest is at =
    let front : List ℕ = 123 ∷ joined false before in
    let back : List ℕ = members_text (some before) rest in
    let e : text ≡ front ++ back = is ∙ ap (λ t. 123 ∷ t) (members_text-join false before rest) in
    let long : length text ≡ length front + length back = ap length e ∙ length-append front back in
    let within : p < length text = omega (arith, long, at, some_text (some before) rest) in
    let start : p ≡ length front = omega (arith, at) in
    let start_too : p ≡ length front + 0 = omega (arith, at) in
    let first : get_or text p 0 ≡ get_or back 0 0 = (λ i. get_or (e i) (start_too i) 0) ∙ get_or-append-add front back 0 0 in
    record {
      within = within;
      front = (λ i. take (start i) (e i)) ∙ take-append_seam front back;
      back = (λ i. drop (start i) (e i)) ∙ drop-append_seam front back;
      edge = IsCharBoundary-before_ascii text p within (rw first (head_ascii (some before) rest));
    }

-- the place behind all members is that of the last brace
last_place : (text : List ℕ) (ms : Members) → text ≡ compact_text (object ms) → length text - 1 ≡ place ms
last_place text ms is =
    let long : length text ≡ suc (length (joined false ms) + 1) = ap length is ∙ ap (λ t. suc (length t)) (members_text-joined false ms) ∙ ap suc (length-append (joined false ms) (125 ∷ [])) in
    omega (arith, long)

-- a comma in front of members between two places
later_is : (before mid : Members) (p q : ℕ) → p ≡ place before → q ≡ place (join before mid) → comma_if ((p == 1) && nat_lt p q) ++ joined (some before) mid ≡ joined true mid
later_is no_members no_members p q at to = rw (at, to) refl
later_is no_members (member k d mid) p q at to = rw (lt-ltb p q (omega (arith, at, to))) (rw at refl)
later_is (member l e before) mid p q at to = rw (ne_eqb p 1 (λ same. omega (arith, at, same))) refl

later_part-is : (text : List ℕ) (p q : ℕ) (before mid rest : Members) → text ≡ compact_text (object (join before (join mid rest))) → p ≡ place before → q ≡ place (join before mid)
    → later_part text p q ≡ joined true mid
later_part-is text p q before mid rest is at to =
    let cut = cut_at text p before (join mid rest) is at in
    let sum = place-join before mid in
    let wide : q - p ≡ length (joined (some before) mid) = omega (arith, at, to, sum) in
    let inner : slice_range text p q ≡ joined (some before) mid =
    (λ i. take (wide i) (cut.back i)) ∙ ap (take (length (joined (some before) mid))) (by (some before) mid rest) ∙ take-append_seam (joined (some before) mid) _ in
    ap (λ t. comma_if ((p == 1) && nat_lt p q) ++ t) inner ∙ later_is before mid p q at to
  where
    by : (later : Bool) (mid rest : Members) → members_text later (join mid rest) ≡ joined later mid ++ members_text (later || some mid) rest
    by later mid rest = members_text-join later mid rest

front_part-is : (text : List ℕ) (p : ℕ) (before rest : Members) → text ≡ compact_text (object (join before rest)) → p ≡ place before → front_part text p ≡ (123 ∷ joined false before) ++ comma_if (some before)
front_part-is text p no_members rest is at = ap (λ t. t ++ comma_if (nat_lt 1 p)) (cut_at text p no_members rest is at).front ∙ rw at refl
front_part-is text p (member k d before) rest is at =
    ap (λ t. t ++ comma_if (nat_lt 1 p)) (cut_at text p (member k d before) rest is at).front ∙ ap (λ b. (123 ∷ joined false (member k d before)) ++ comma_if b) (lt-ltb 1 p (omega (arith, at)))

-- ---- members below a name, and the others

abbrev above : List ℕ → Members → Members
above name no_members = no_members
above name (member k d ms) = cond (is_lt (slice_cmp nat_cmp k name)) (above name ms) (member k d ms)

-- all keys are less than a name
AreLess : List ℕ → Members → Type 0
AreLess name no_members = Unit {0}
AreLess name (member k d ms) = (slice_cmp nat_cmp k name ≡ Less) × AreLess name ms

-- the first key is greater than a name
BeginsAbove : List ℕ → Members → Type 0
BeginsAbove name no_members = Unit {0}
BeginsAbove name (member k d ms) = slice_cmp nat_cmp name k ≡ Less

is_less : (o : Ordering) → is_lt o ≡ true → o ≡ Less
is_less Less h = refl
is_less Equal h = absurd (cc)
is_less Greater h = absurd (cc)

two_parts : (name : List ℕ) (ms : Members) → join (below name ms) (above name ms) ≡ ms
two_parts name no_members = refl
two_parts name (member k d ms) = by (is_lt (slice_cmp nat_cmp k name)) (two_parts name ms)
  where
    by : (b : Bool) → join (below name ms) (above name ms) ≡ ms → join (cond b (member k d (below name ms)) no_members) (cond b (above name ms) (member k d ms)) ≡ member k d ms
    by true later = ap (member k d) later
    by false later = refl

below_less : (name : List ℕ) (ms : Members) → AreLess name (below name ms)
unfolding AreLess
below_less name no_members = tt
below_less name (member k d ms) = by (is_lt (slice_cmp nat_cmp k name)) refl (below_less name ms)
  where
    by : (b : Bool) → is_lt (slice_cmp nat_cmp k name) ≡ b → AreLess name (below name ms) → AreLess name (cond b (member k d (below name ms)) no_members)
    by true is later = (is_less _ is, later)
    by false is later = tt

above_begins : (name : List ℕ) (ms : Members) → get_member name ms ≡ None → BeginsAbove name (above name ms)
unfolding BeginsAbove
above_begins name no_members none = tt
above_begins name (member k d ms) none = by (slice_cmp nat_cmp name k) refl (above_begins name ms) none
  where
    by : (o : Ordering) → slice_cmp nat_cmp name k ≡ o → (get_member name ms ≡ None → BeginsAbove name (above name ms)) → match_ordering o (get_member name ms) (Some d) (get_member name ms) ≡ None
        → BeginsAbove name (cond (is_lt (slice_cmp nat_cmp k name)) (above name ms) (member k d ms))
    by Less is later h = rw (nat_list_cmp_total.antisymm k name ∙ ap ordering_reverse is) is
    by Equal is later h = absurd (cc)
    by Greater is later h = rw (nat_list_cmp_total.antisymm k name ∙ ap ordering_reverse is) (later h)

above_lacks : (name other : List ℕ) (ms : Members) → get_member name ms ≡ None → get_member name (above other ms) ≡ None
above_lacks name other no_members none = refl
above_lacks name other (member k d ms) none = by (is_lt (slice_cmp nat_cmp k other)) (slice_cmp nat_cmp name k) refl (above_lacks name other ms) none
  where
    by : (b : Bool) (o : Ordering) → slice_cmp nat_cmp name k ≡ o → (get_member name ms ≡ None → get_member name (above other ms) ≡ None) → match_ordering o (get_member name ms) (Some d) (get_member name ms) ≡ None
        → get_member name (cond b (above other ms) (member k d ms)) ≡ None
    by true Less is later h = later h
    by true Equal is later h = absurd (cc)
    by true Greater is later h = later h
    by false o is later h = rw is h

less_too : (v k : List ℕ) (ms : Members) → slice_cmp nat_cmp v k ≡ Less → AreLess v ms → AreLess k ms
unfolding AreLess
less_too v k no_members less h = tt
less_too v k (member l d ms) less h = (nat_list_cmp_total.trans l v k h.0 less, less_too v k ms less h.1)

-- what is below a greater name is what is below a lesser one, and then what is below it of the others
below_both : (v k : List ℕ) (ms : Members) → slice_cmp nat_cmp v k ≡ Less → below k ms ≡ join (below v ms) (below k (above v ms))
below_both v k no_members less = refl
below_both v k (member l d ms) less = by (is_lt (slice_cmp nat_cmp l v)) refl (below_both v k ms less)
  where
    by : (b : Bool) → is_lt (slice_cmp nat_cmp l v) ≡ b → below k ms ≡ join (below v ms) (below k (above v ms))
        → cond (is_lt (slice_cmp nat_cmp l k)) (member l d (below k ms)) no_members
        ≡ join (cond b (member l d (below v ms)) no_members) (below k (cond b (above v ms) (member l d ms)))
    by true is later = rw (nat_list_cmp_total.trans l v k (is_less _ is) less) (ap (member l d) later)
    by false is later = refl

above_both : (v k : List ℕ) (ms : Members) → slice_cmp nat_cmp v k ≡ Less → above k ms ≡ above k (above v ms)
above_both v k no_members less = refl
above_both v k (member l d ms) less = by (is_lt (slice_cmp nat_cmp l v)) refl (above_both v k ms less)
  where
    by : (b : Bool) → is_lt (slice_cmp nat_cmp l v) ≡ b → above k ms ≡ above k (above v ms)
        → cond (is_lt (slice_cmp nat_cmp l k)) (above k ms) (member l d ms) ≡ above k (cond b (above v ms) (member l d ms))
    by true is later = rw (nat_list_cmp_total.trans l v k (is_less _ is) less) later
    by false is later = refl

-- ---- members that are put between

put_past : (k : List ℕ) (d : Data) (xs ys : Members) → AreLess k xs → put k d (join xs ys) ≡ join xs (put k d ys)
unfolding AreLess
put_past k d no_members ys h = refl
put_past k d (member l e xs) ys h =
    let greater : slice_cmp nat_cmp k l ≡ Greater = nat_list_cmp_total.antisymm k l ∙ ap ordering_reverse h.0 in
    rw greater (ap (member l e) (put_past k d xs ys h.1))

put_here : (k : List ℕ) (d : Data) (ys : Members) → BeginsAbove k ys → put k d ys ≡ member k d ys
unfolding BeginsAbove
put_here k d no_members h = refl
put_here k d (member l e ys) h = rw h refl

-- what begins above a name does so too where members go among it that come later
begins_too : (k m : List ℕ) (ys rest : Members) (d : Data) → slice_cmp nat_cmp k m ≡ Less → BeginsAbove k ys → BeginsAbove k (join (below m ys) (member m d rest))
unfolding BeginsAbove
begins_too k m no_members rest d less h = less
begins_too k m (member l e ys) rest d less h = by (is_lt (slice_cmp nat_cmp l m))
  where
    by : (b : Bool) → BeginsAbove k (join (cond b (member l e (below m ys)) no_members) (member m d rest))
    by true = h
    by false = less

-- the members that each object has, put among others that lack them
put_three : (version kind metadata : Data) (ms : Members) → LacksHead ms
    → put (codes "apiVersion") version (put (codes "kind") kind (put (codes "metadata") metadata ms))
    ≡ join (below (codes "apiVersion") ms) (member (codes "apiVersion") version
    (join (below (codes "kind") (above (codes "apiVersion") ms)) (member (codes "kind") kind
    (join (below (codes "metadata") (above (codes "kind") (above (codes "apiVersion") ms))) (member (codes "metadata") metadata (above (codes "metadata") (above (codes "kind") (above (codes "apiVersion") ms))))))))
unfolding LacksHead
put_three version kind metadata ms lacks =
    let v = codes "apiVersion" in
    let k = codes "kind" in
    let m = codes "metadata" in
    let r = above v ms in
    let s = above k r in
    let a = below v ms in
    let b = below k r in
    let c = below m s in
    let d = above m s in
    let whole : ms ≡ join a (join b (join c d)) = sym (two_parts v ms) ∙ ap (join a) (sym (two_parts k r) ∙ ap (join b) (sym (two_parts m s))) in
    let rest : Members = join c (member m metadata d) in
    let with_metadata : put m metadata ms ≡ join a (join b rest) =
    ap (put m metadata) whole
    ∙ put_past m metadata a _ (less_too v m a refl (below_less v ms))
    ∙ ap (join a) (put_past m metadata b _ (less_too k m b refl (below_less k r))
    ∙ ap (join b) (put_past m metadata c d (below_less m s) ∙ ap (join c) (put_here m metadata d (above_begins m s (above_lacks m k r (above_lacks m v ms lacks.2)))))) in
    let with_kind : put k kind (join a (join b rest)) ≡ join a (join b (member k kind rest)) =
    put_past k kind a _ (less_too v k a refl (below_less v ms))
    ∙ ap (join a) (put_past k kind b rest (below_less k r)
    ∙ ap (join b) (put_here k kind rest (begins_too k m s d metadata refl (above_begins k r (above_lacks k v ms lacks.1))))) in
    ap (λ t. put v version (put k kind t)) with_metadata
    ∙ ap (put v version) with_kind
    ∙ put_past v version a _ (below_less v ms)
    ∙ ap (join a) (put_here v version (join b (member k kind rest)) (begins_too v k r rest kind refl (above_begins v ms lacks.0)))

-- ---- the text

-- the pieces of an object's text
frame : (front version b kind c metadata d : List ℕ) → List ℕ
frame front version b kind c metadata d =
    front ++ (codes "\"apiVersion\":" ++ (version ++ (b ++ (codes ",\"kind\":" ++ (kind ++ (c ++ (codes ",\"metadata\":" ++ (metadata ++ (d ++ codes "}")))))))))

framed : (a b c d : Members) (version kind : List ℕ) (metadata : Data)
    → compact_text (object (join a (member (codes "apiVersion") (string version) (join b (member (codes "kind") (string kind) (join c (member (codes "metadata") metadata d)))))))
    ≡ frame ((123 ∷ joined false a) ++ comma_if (some a)) (quoted version) (joined true b) (quoted kind) (joined true c) (compact_text metadata) (joined true d)
unfolding frame escape_byte
framed a b c d version kind metadata =
    let third = members_text-joined true d in
    let second = members_text-join true c (member (codes "metadata") metadata d) ∙ ap (λ t. joined true c ++ (codes ",\"metadata\":" ++ (compact_text metadata ++ t))) third in
    let first = members_text-join true b (member (codes "kind") (string kind) (join c (member (codes "metadata") metadata d))) ∙ ap (λ t. joined true b ++ (codes ",\"kind\":" ++ (quoted kind ++ t))) second in
    let whole = members_text-join false a (member (codes "apiVersion") (string version) (join b (member (codes "kind") (string kind) (join c (member (codes "metadata") metadata d))))) in
    ap (λ t. 123 ∷ t) (whole ∙ ap (λ t. joined false a ++ (comma_if (some a) ++ (codes "\"apiVersion\":" ++ (quoted version ++ t)))) first)
    ∙ sym (append_assoc (123 ∷ joined false a) (comma_if (some a)) _)

abbrev text_of : Members → List ℕ
text_of ms = compact_text (object ms)

-- the cuts of a text at the places of four parts
cuts : (a b c d : Members) (text : List ℕ) (places : Places) → text ≡ text_of (join (join (join a b) c) d)
    → places.api_version ≡ place a → places.kind ≡ place (join a b) → places.metadata ≡ place (join (join a b) c) → IsCut text places
cuts a b c d text places is first second third =
    let one = cut_at text places.api_version a (join b (join c d)) (is ∙ ap text_of (join_twice (join a b) c d ∙ join_twice a b (join c d))) first in
    let two = cut_at text places.kind (join a b) (join c d) (is ∙ ap text_of (join_twice (join a b) c d)) second in
    let three = cut_at text places.metadata (join (join a b) c) d is third in
    let end = length text - 1 in
    let last = cut_at text end (join (join (join a b) c) d) no_members (is ∙ ap text_of (sym (join_none _))) (last_place text _ is) in
    let start : IsCharBoundary text 0 = IsCharBoundary-before_ascii text 0 (omega (arith, one.within)) (rw is (omega arith)) in
    let l = place-join a b in
    let m = place-join (join a b) c in
    let n = place-join (join (join a b) c) d in (
      omega (arith, one.within),
      (omega arith, start, one.edge),
      (omega (arith, first, second, l), one.edge, two.edge),
      (omega (arith, second, third, m), two.edge, three.edge),
      (omega (arith, third, n, last_place text _ is), three.edge, last.edge),
    )

-- the pieces that are cut
pieces : (x : Object) (a b c d : Members) (text : List ℕ) (places : Places) → text ≡ text_of (join (join (join a b) c) d)
    → places.api_version ≡ place a → places.kind ≡ place (join a b) → places.metadata ≡ place (join (join a b) c)
    → plain_text x text places ≡ frame ((123 ∷ joined false a) ++ comma_if (some a)) (quoted (api_version_of x.id.kind)) (joined true b) (quoted (name_of x.id.kind)) (joined true c) (metadata_text x) (joined true d)
unfolding plain_text frame
pieces x a b c d text places is first second third =
    let is_one : text ≡ text_of (join a (join b (join c d))) = is ∙ ap text_of (join_twice (join a b) c d ∙ join_twice a b (join c d)) in
    let is_two : text ≡ text_of (join (join a b) (join c d)) = is ∙ ap text_of (join_twice (join a b) c d) in
    let is_three : text ≡ text_of (join (join (join a b) c) (join d no_members)) = is ∙ ap (λ t. text_of (join (join (join a b) c) t)) (sym (join_none d)) in
    let front = front_part-is text places.api_version a (join b (join c d)) is_one first in
    let one = later_part-is text places.api_version places.kind a b (join c d) is_one first second in
    let two = later_part-is text places.kind places.metadata (join a b) c d is_two second third in
    let three = later_part-is text places.metadata (length text - 1) (join (join a b) c) d no_members is_three third (last_place text _ is) in
    λ i. frame (front i) (quoted (api_version_of x.id.kind)) (one i) (quoted (name_of x.id.kind)) (two i) (metadata_text x) (three i)

-- places of names are those of the parts between them
abbrev version_part : Members → Members
version_part ms = below (codes "apiVersion") ms

abbrev kind_part : Members → Members
kind_part ms = below (codes "kind") (above (codes "apiVersion") ms)

abbrev metadata_part : Members → Members
metadata_part ms = below (codes "metadata") (above (codes "kind") (above (codes "apiVersion") ms))

abbrev last_part : Members → Members
last_part ms = above (codes "metadata") (above (codes "kind") (above (codes "apiVersion") ms))

four_parts : (ms : Members) → join (join (join (version_part ms) (kind_part ms)) (metadata_part ms)) (last_part ms) ≡ ms
four_parts ms =
    let r = above (codes "apiVersion") ms in
    let s = above (codes "kind") r in
    join_twice (join (version_part ms) (kind_part ms)) (metadata_part ms) (last_part ms)
    ∙ ap (join (join (version_part ms) (kind_part ms))) (two_parts (codes "metadata") s)
    ∙ join_twice (version_part ms) (kind_part ms) s
    ∙ ap (join (version_part ms)) (two_parts (codes "kind") r)
    ∙ two_parts (codes "apiVersion") ms

kind_place : (ms : Members) → place_of (codes "kind") ms ≡ place (join (version_part ms) (kind_part ms))
kind_place ms = ap place (below_both (codes "apiVersion") (codes "kind") ms refl)

metadata_place : (ms : Members) → place_of (codes "metadata") ms ≡ place (join (join (version_part ms) (kind_part ms)) (metadata_part ms))
metadata_place ms =
    ap place (below_both (codes "kind") (codes "metadata") ms refl
    ∙ (λ i. join (below_both (codes "apiVersion") (codes "kind") ms refl i) (below (codes "metadata") (above_both (codes "apiVersion") (codes "kind") ms refl i))))

-- the text of kept members can be cut at their places
pub plain_cuts : (text : List ℕ) (places : Places) → IsPlaced text places → IsCut text places
plain_cuts text places p =
    cuts (version_part p.whole) (kind_part p.whole) (metadata_part p.whole) (last_part p.whole) text places (p.text ∙ ap text_of (sym (four_parts p.whole)))
    p.api_version (p.kind ∙ kind_place p.whole) (p.metadata ∙ metadata_place p.whole)

-- the pieces are the text of the object
pub plain_pushed : (x : Object) (text : List ℕ) (need : Need) (places : Places) → IsLegal x → x.payload ≡ Plain text need → IsPlaced text places → plain_text x text places ≡ object_text x
unfolding object_text
plain_pushed x text need places legal is p =
    let ms = p.whole in
    let own : own_members x.payload ≡ ms = ap own_members is ∙ ap members_in (ap read p.text ∙ read-compact_text (object ms) p.canonical p.shallow) in
    let lacks : LacksHead ms = subst LacksHead own (own_lacks x.id.kind x.payload legal.payload) in
    let version = string (api_version_of x.id.kind) in
    let kind = string (name_of x.id.kind) in
    pieces x (version_part ms) (kind_part ms) (metadata_part ms) (last_part ms) text places (p.text ∙ ap text_of (sym (four_parts ms))) p.api_version (p.kind ∙ kind_place ms) (p.metadata ∙ metadata_place ms)
    ∙ ap (λ t. frame ((123 ∷ joined false (version_part ms)) ++ comma_if (some (version_part ms))) (quoted (api_version_of x.id.kind)) (joined true (kind_part ms)) (quoted (name_of x.id.kind)) (joined true (metadata_part ms)) t (joined true (last_part ms)))
    (sym (metadata_pushed x))
    ∙ sym (framed (version_part ms) (kind_part ms) (metadata_part ms) (last_part ms) (api_version_of x.id.kind) (name_of x.id.kind) (object (metadata_of x)))
    ∙ ap text_of (sym (put_three version kind (object (metadata_of x)) ms lacks))
    ∙ ap (λ t. text_of (put (codes "apiVersion") version (put (codes "kind") kind (put (codes "metadata") (object (metadata_of x)) t)))) (sym own)
