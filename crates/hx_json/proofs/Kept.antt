-- Members in order: as they stand they are those of the value, and where names go among them.
use Rattle.std.proofs.Common.{◌≡◌, ◌≤◌, ℕ, ◌+◌, Bor, drop, List, ◌++◌, length, length-append, Bool, true, false, cond, ◌||◌, Option, Some, None, Ordering, Less, Equal, Greater, nat_cmp, is_lt, is_eq, codes, refl, sym, ap, ◌∙◌, subst, arith, true≢false, bytes_eq, append-nil}
use Rattle.std.specs.Prelude.{⊤}
use Rattle.std.specs.Ordering.{match_ordering, ordering_reverse}
use Rattle.std.specs.Cmp.Lexicographic.{slice_cmp}
use Rattle.std.proofs.lemmas.Bool.{and_parts}
use Rattle.std.proofs.lemmas.Cmp.{nat_list_cmp_total}
use Rattle.std.proofs.lemmas.List.{drop_all}
use Rattle.std.proofs.lemmas.Map.Text.{is_eq-slice_cmp}
use Rattle.std.proofs.lemmas.Slice.Eq.{bytes_eq-Decides}
use Rattle.json.specs.Json as json
use Rattle.json.specs.Json.{Json}
use Rattle.json.specs.Value.{members_view}
use Rattle.json.specs.declared.value.Value.{Value}
use Rattle.serde_json.specs.Data.{Data, array, object, item, Members, no_members, member, put, depth}
use Rattle.serde_json.specs.Read.{max_depth}
use Rattle.serde_json.specs.Written.{compact_text}
use Rattle.hx_object.specs.Canonical.{IsBefore, IsCanonical, AreMembers}
use Rattle.hx_object.specs.Pairs.{has_ascending_keys}
use Rattle.hx_object.specs.Placed.{IsPlaced, below, joined}
use Rattle.hx_object.specs.Texts.{bytes_cmp}
use Rattle.hx_object.specs.declared.members.Places.{Places}
use Rattle.hx_json.specs.Reading.{are_texts, kept_members, pairs_of, without}
use Rattle.hx_json.specs.Trees.{data_of, items_of, members_onto, laid_out, laid_items, laid_members, is_after, is_sorted, items_are_sorted, are_sorted, is_head, kept_of, own_trees, keeps_order, passed_by, passed, places_from, places_in}
use Rattle.hx_json.proofs.Canonical.{before_all, before_put}
use Rattle.hx_json.proofs.Legal.{before_without, kept_in_order, kept_shallow}
use Rattle.hx_json.proofs.RoundTrip.{join, AreBefore, join_none, join_one, put_last, still_before}

-- ---- keys that ascend

less : (o : Ordering) → is_lt o ≡ true → o ≡ Less
less Less h = refl
less Equal h = absurd (true≢false (sym h))
less Greater h = absurd (true≢false (sym h))

-- a key is behind the one before it
IsBehind : Option (List ℕ) → List ℕ → Type 0
IsBehind None k = ⊤
IsBehind (Some b) k = slice_cmp nat_cmp b k ≡ Less

behind : (o : Option (List ℕ)) (k : List ℕ) → is_after o k ≡ true → IsBehind o k
unfolding IsBehind
behind None k h = tt
behind (Some b) k h = less (slice_cmp nat_cmp b k) h

later_keys : (k : List ℕ) (ms : json.Members) → are_sorted (Some k) ms ≡ true → IsBefore k (laid_members ms)
later_keys k json.no_members h = tt
later_keys k (json.member l j ms) h =
    let parts = and_parts _ _ h in
    let rest = and_parts _ _ parts.1 in
    let first = less (slice_cmp nat_cmp k l) parts.0 in
    (first, before_all k l (laid_members ms) first (later_keys l ms rest.1))

-- ---- sorted trees stand as their values

mutual
  pub as_it_stands : (j : Json) → is_sorted j ≡ true → data_of j ≡ laid_out j
  as_it_stands json.null h = refl
  as_it_stands (json.boolean b) h = refl
  as_it_stands (json.number text) h = refl
  as_it_stands (json.string text) h = refl
  as_it_stands (json.array js) h = ap array (items_as_they_stand js h)
  as_it_stands (json.object ms) h = ap object (members_as_they_stand None ms no_members h tt)

  items_as_they_stand : (js : json.Items) → items_are_sorted js ≡ true → items_of js ≡ laid_items js
  items_as_they_stand json.no_items h = refl
  items_as_they_stand (json.item j js) h =
      let parts = and_parts (is_sorted j) _ h in
      ap (λ d. item d (items_of js)) (as_it_stands j parts.0) ∙ ap (item (laid_out j)) (items_as_they_stand js parts.1)

  members_as_they_stand : (b : Option (List ℕ)) (ms : json.Members) (found : Members) → are_sorted b ms ≡ true → AreBefore found (laid_members ms) → members_onto ms found ≡ join found (laid_members ms)
  members_as_they_stand b json.no_members found h before = sym (join_none found)
  members_as_they_stand b (json.member k j ms) found h before =
      let parts = and_parts (is_after b k) _ h in
      let rest = and_parts (is_sorted j) _ parts.1 in
      ap (λ d. members_onto ms (put k d found)) (as_it_stands j rest.0)
      ∙ ap (members_onto ms) (put_last found k (laid_out j) (laid_out j) (laid_members ms) before)
      ∙ members_as_they_stand (Some k) ms (join found (member k (laid_out j) no_members)) rest.1 (still_before found k (laid_out j) (laid_members ms) before (later_keys k ms rest.1))
      ∙ join_one found k (laid_out j) (laid_members ms)

pub members_stand : (ms : json.Members) → are_sorted None ms ≡ true → members_onto ms no_members ≡ laid_members ms
members_stand ms h = members_as_they_stand None ms no_members h tt

pub texts_stand : (ms : json.Members) → is_sorted (json.object ms) ≡ true → are_texts (members_onto ms no_members) ≡ are_texts (laid_members ms)
texts_stand ms h = ap are_texts (members_stand ms h)

-- the pairs of sorted members ascend
pub ascending : (b : Option (List ℕ)) (ms : json.Members) → are_sorted b ms ≡ true → has_ascending_keys (pairs_of (laid_members ms)) ≡ true
ascending b json.no_members h = refl
ascending b (json.member k j json.no_members) h = refl
ascending b (json.member k j (json.member l i ms)) h =
    let parts = and_parts (is_after b k) _ h in
    let rest = and_parts (is_sorted j) _ parts.1 in
    let next = and_parts (is_after (Some k) l) _ rest.1 in
    rw next.0 (ascending (Some k) (json.member l i ms) rest.1)

-- ---- what is kept

differ : (k l : List ℕ) → slice_cmp nat_cmp k l ≡ Less → bytes_eq k l ≡ false
differ k l is = sym (is_eq-slice_cmp k l) ∙ ap is_eq is

same_of : (k l : List ℕ) → bytes_eq k l ≡ true → k ≡ l
same_of k l e = (bytes_eq-Decides k l).0 e

-- nothing is removed where the key comes before
untouched : (n : List ℕ) (ms : Members) → IsBefore n ms → without n ms ≡ ms
untouched n no_members h = refl
untouched n (member k d ms) h = rw (differ n k h.0) (ap (member k d) (untouched n ms h.1))

AreInOrder : Members → Type 0
AreInOrder no_members = ⊤
AreInOrder (member k d ms) = IsBefore k ms × AreInOrder ms

order_put_at : (o : Ordering) (k l : List ℕ) (d e : Data) (ms : Members) → slice_cmp nat_cmp k l ≡ o → AreInOrder (member l e ms) → AreInOrder (put k d ms)
    → AreInOrder (match_ordering o (member k d (member l e ms)) (member l d ms) (member l e (put k d ms)))
unfolding AreInOrder
order_put_at Less k l d e ms is h later = ((is, before_all k l ms is h.0), h)
order_put_at Equal k l d e ms is h later = h
order_put_at Greater k l d e ms is h later =
    let below : slice_cmp nat_cmp l k ≡ Less = nat_list_cmp_total.antisymm l k ∙ ap ordering_reverse is in
    (before_put l k d ms below h.0, later)

order_put : (k : List ℕ) (d : Data) (ms : Members) → AreInOrder ms → AreInOrder (put k d ms)
unfolding AreInOrder
order_put k d no_members h = (tt, tt)
order_put k d (member l e ms) h = order_put_at (slice_cmp nat_cmp k l) k l d e ms refl h (order_put k d ms h.1)

-- what is put under the name is removed again
without_same : (n : List ℕ) (d : Data) (ms : Members) → AreInOrder ms → without n (put n d ms) ≡ without n ms
unfolding AreInOrder
without_same n d no_members h = rw ((bytes_eq-Decides n n).1 refl)
without_same n d (member l e ms) h = by (slice_cmp nat_cmp n l) refl (without_same n d ms h.1)
  where
    by : (o : Ordering) → slice_cmp nat_cmp n l ≡ o → without n (put n d ms) ≡ without n ms
        → without n (match_ordering o (member n d (member l e ms)) (member l d ms) (member l e (put n d ms))) ≡ without n (member l e ms)
    by Less is later = rw ((bytes_eq-Decides n n).1 refl) (sym (untouched n (member l e ms) (is, before_all n l ms is h.0)))
    by Equal is later = let same : bytes_eq n l ≡ true = sym (is_eq-slice_cmp n l) ∙ ap is_eq is in rw same
    by Greater is later = let other : bytes_eq n l ≡ false = sym (is_eq-slice_cmp n l) ∙ ap is_eq is in rw other (ap (member l e) later)

-- what is put under another name stays
without_other : (n k : List ℕ) (d : Data) (ms : Members) → bytes_eq n k ≡ false → AreInOrder ms → without n (put k d ms) ≡ put k d (without n ms)
unfolding AreInOrder
without_other n k d no_members other h = rw other
without_other n k d (member l e ms) other h = by (slice_cmp nat_cmp k l) refl (without_other n k d ms other h.1)
  where
    first : (b : Bool) → bytes_eq n l ≡ b → slice_cmp nat_cmp k l ≡ Less → member k d (cond b ms (member l e (without n ms))) ≡ put k d (cond b ms (member l e (without n ms)))
    first true same is = sym (put_first k d ms (before_all k l ms is h.0))
      where
        put_first : (k : List ℕ) (d : Data) (ms : Members) → IsBefore k ms → put k d ms ≡ member k d ms
        put_first k d no_members h = refl
        put_first k d (member l e ms) h = rw h.0
    first false apart is = rw is

    by : (o : Ordering) → slice_cmp nat_cmp k l ≡ o → without n (put k d ms) ≡ put k d (without n ms)
        → without n (match_ordering o (member k d (member l e ms)) (member l d ms) (member l e (put k d ms))) ≡ put k d (without n (member l e ms))
    by Less is later = rw other (first (bytes_eq n l) refl is)
    by Equal is later =
        let same : k ≡ l = same_of k l (sym (is_eq-slice_cmp k l) ∙ ap is_eq is) in
        let apart : bytes_eq n l ≡ false = ap (bytes_eq n) (sym same) ∙ other in
        rw apart (rw is)
    by Greater is later = beyond (bytes_eq n l) refl
      where
        beyond : (b : Bool) → bytes_eq n l ≡ b → cond b (put k d ms) (member l e (without n (put k d ms))) ≡ put k d (cond b ms (member l e (without n ms)))
        beyond true same = refl
        beyond false apart = rw is (ap (member l e) later)

order_without : (n : List ℕ) (ms : Members) → AreInOrder ms → AreInOrder (without n ms)
unfolding AreInOrder
order_without n no_members h = tt
order_without n (member k d ms) h = by (bytes_eq n k) (order_without n ms h.1)
  where
    by : (b : Bool) → AreInOrder (without n ms) → AreInOrder (cond b ms (member k d (without n ms)))
    by true later = h.1
    by false later = (before_without k n ms h.0, later)

turned : (k n : List ℕ) → bytes_eq k n ≡ false → bytes_eq n k ≡ false
turned k n other = by (bytes_eq n k) refl
  where
    by : (b : Bool) → bytes_eq n k ≡ b → b ≡ false
    by true e = absurd (true≢false (sym ((bytes_eq-Decides k n).1 (sym (same_of n k e))) ∙ other))
    by false e = refl

without_put : (n k : List ℕ) (d : Data) (ms : Members) (b : Bool) → bytes_eq k n ≡ b → AreInOrder ms → without n (put k d ms) ≡ cond b (without n ms) (put k d (without n ms))
without_put n k d ms true e h = let same : n ≡ k = sym (same_of k n e) in subst (λ m. without n (put m d ms) ≡ without n ms) same (without_same n d ms h)
without_put n k d ms false e h = without_other n k d ms (turned k n e) h

keep : Members → Members
keep ms = without (codes "metadata") (without (codes "kind") (without (codes "apiVersion") ms))

keep_put : (k : List ℕ) (d : Data) (ms : Members) → AreInOrder ms → keep (put k d ms) ≡ cond (is_head k) (keep ms) (put k d (keep ms))
unfolding keep
keep_put k d ms h = by (bytes_eq k a) refl (bytes_eq k n) refl (bytes_eq k m) refl
  where
    a : List ℕ
    a = codes "apiVersion"

    n : List ℕ
    n = codes "kind"

    m : List ℕ
    m = codes "metadata"

    by : (u : Bool) → bytes_eq k (codes "apiVersion") ≡ u → (v : Bool) → bytes_eq k (codes "kind") ≡ v → (w : Bool) → bytes_eq k (codes "metadata") ≡ w
        → without (codes "metadata") (without (codes "kind") (without (codes "apiVersion") (put k d ms)))
        ≡ cond (u || (v || w)) (without (codes "metadata") (without (codes "kind") (without (codes "apiVersion") ms))) (put k d (without (codes "metadata") (without (codes "kind") (without (codes "apiVersion") ms))))
    by true e v f w g = ap (λ x. without (codes "metadata") (without (codes "kind") x)) (without_put (codes "apiVersion") k d ms true e h)
    by false e true f w g =
        ap (λ x. without (codes "metadata") (without (codes "kind") x)) (without_put (codes "apiVersion") k d ms false e h)
        ∙ ap (without (codes "metadata")) (without_put (codes "kind") k d (without (codes "apiVersion") ms) true f (order_without (codes "apiVersion") ms h))
    by false e false f w g =
        let one = without (codes "apiVersion") ms in
        let two = without (codes "kind") one in
        let first = order_without (codes "apiVersion") ms h in
        ap (λ x. without (codes "metadata") (without (codes "kind") x)) (without_put (codes "apiVersion") k d ms false e h)
        ∙ ap (without (codes "metadata")) (without_put (codes "kind") k d one false f first)
        ∙ without_put (codes "metadata") k d two w g (order_without (codes "kind") one first)

kept_onto : (ms : json.Members) (found : Members) → AreInOrder found → keep (members_onto ms found) ≡ members_onto (kept_of ms) (keep found)
kept_onto json.no_members found h = refl
kept_onto (json.member k j ms) found h =
    kept_onto ms (put k (data_of j) found) (order_put k (data_of j) found h) ∙ ap (members_onto (kept_of ms)) (keep_put k (data_of j) found h) ∙ by (is_head k)
  where
    by : (b : Bool) → members_onto (kept_of ms) (cond b (keep found) (put k (data_of j) (keep found))) ≡ members_onto (cond b (kept_of ms) (json.member k j (kept_of ms))) (keep found)
    by true = refl
    by false = refl

-- what is kept of a tree in order are its members as they stand
pub kept_stand : (j : Json) → keeps_order j ≡ true → kept_members (data_of j) ≡ laid_members (kept_of (own_trees j))
unfolding keep AreInOrder
kept_stand json.null h = refl
kept_stand (json.boolean b) h = refl
kept_stand (json.number text) h = refl
kept_stand (json.string text) h = refl
kept_stand (json.array js) h = refl
kept_stand (json.object ms) h = kept_onto ms no_members tt ∙ members_stand (kept_of ms) h

-- ---- places

-- the place of one name
place : List ℕ → ℕ → Bool → ℕ → Members → ℕ
place name at later old no_members = old
place name at later old (member k d ms) = let end = at + length (joined later (member k d no_members)) in place name end true (passed_by name k end old) ms

each_place : (at : ℕ) (later : Bool) (old : Places) (ms : Members)
    → places_from at later old ms
    ≡ record { api_version = place (codes "apiVersion") at later old.api_version ms; kind = place (codes "kind") at later old.kind ms; metadata = place (codes "metadata") at later old.metadata ms }
unfolding place
each_place at later old no_members = refl
each_place at later old (member k d ms) = let end = at + length (joined later (member k d no_members)) in each_place end true (passed k end old) ms

IsPast : List ℕ → Members → Type 0
IsPast name no_members = ⊤
IsPast name (member k d ms) = (is_lt (bytes_cmp k name) ≡ false) × IsPast name ms

past : (name k : List ℕ) (ms : Members) → is_lt (bytes_cmp k name) ≡ false → IsBefore k ms → IsPast name ms
unfolding IsPast
past name k no_members h before = tt
past name k (member l d ms) h before = (by (is_lt (bytes_cmp l name)) refl, past name k ms h before.1)
  where
    by : (b : Bool) → is_lt (bytes_cmp l name) ≡ b → b ≡ false
    by true e = absurd (true≢false (sym (ap is_lt (nat_list_cmp_total.trans k l name before.0 (less (bytes_cmp l name) e))) ∙ h))
    by false e = refl

stays : (name : List ℕ) (at : ℕ) (later : Bool) (old : ℕ) (ms : Members) → IsPast name ms → place name at later old ms ≡ old
unfolding IsPast place
stays name at later old no_members h = refl
stays name at later old (member k d ms) h = rw h.0 (stays name (at + length (joined later (member k d no_members))) true old ms h.1)

longer : (later : Bool) (k : List ℕ) (d : Data) (ms : Members) → length (joined later (member k d ms)) ≡ length (joined later (member k d no_members)) + length (joined true ms)
longer later k d ms = grind (arith, length-append)

goes : (name : List ℕ) (at : ℕ) (later : Bool) (ms : Members) → AreInOrder ms → place name at later at ms ≡ at + length (joined later (below name ms))
unfolding AreInOrder place
goes name at later no_members h = omega arith
goes name at later (member k d ms) h = by (is_lt (bytes_cmp k name)) refl (goes name (at + length (joined later (member k d no_members))) true ms h.1)
  where
    by : (b : Bool) → is_lt (bytes_cmp k name) ≡ b
        → place name (at + length (joined later (member k d no_members))) true (at + length (joined later (member k d no_members))) ms ≡ at + length (joined later (member k d no_members)) + length (joined true (below name ms))
        → place name (at + length (joined later (member k d no_members))) true (cond b (at + length (joined later (member k d no_members))) at) ms
        ≡ at + length (joined later (cond b (member k d (below name ms)) no_members))
    by true e rest = omega (arith, rest, longer later k d (below name ms))
    by false e rest = let same = stays name (at + length (joined later (member k d no_members))) true at ms (past name k ms e h.0) in omega (arith, same)

order_of : (ms : Members) → AreMembers ms → AreInOrder ms
unfolding AreInOrder
order_of no_members h = tt
order_of (member k d ms) h = (h.0, order_of ms h.2)

-- the kept text with the places
pub placed : (j : Json) (text : List ℕ) (places : Places) → keeps_order j ≡ true → IsCanonical (data_of j) → depth (data_of j) ≤ max_depth
    → text ≡ compact_text (object (laid_members (kept_of (own_trees j)))) → places ≡ places_in (laid_members (kept_of (own_trees j))) → IsPlaced text places
placed j text places order canonical shallow is at =
    let ms = laid_members (kept_of (own_trees j)) in
    let kept : kept_members (data_of j) ≡ ms = kept_stand j order in
    let h : IsCanonical (object ms) = subst (λ x. IsCanonical (object x)) kept (kept_in_order (data_of j) canonical) in
    let each = at ∙ each_place 1 false (record { api_version = 1; kind = 1; metadata = 1 }) ms in
    record {
      whole = ms;
      text = is;
      canonical = h;
      shallow = subst (λ x. depth (object x) ≤ max_depth) kept (kept_shallow (data_of j) shallow);
      api_version = ap (λ p. p.api_version) each ∙ goes (codes "apiVersion") 1 false ms (order_of ms h);
      kind = ap (λ p. p.kind) each ∙ goes (codes "kind") 1 false ms (order_of ms h);
      metadata = ap (λ p. p.metadata) each ∙ goes (codes "metadata") 1 false ms (order_of ms h);
    }

-- what a loop over pairs has at its end
pub pairs_whole : {A : Type 0} (members : List (Bor (List ℕ) × Value A)) (n : ℕ) (done : List (List ℕ × List ℕ)) → length members ≤ n
    → pairs_of (laid_members (members_view members)) ≡ done ++ pairs_of (laid_members (members_view (drop n members))) → pairs_of (laid_members (members_view members)) ≡ done
pairs_whole members n done past h = h ∙ ap (λ xs. done ++ pairs_of (laid_members (members_view xs))) (drop_all n members past) ∙ append-nil done
