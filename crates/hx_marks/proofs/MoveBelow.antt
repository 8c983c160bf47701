-- What a namespace that gets another parent changes for the keys of its subtree, and that it is marked.
--     moved_has          who was below it is below it then
--     marked_of          a key that one name of a list marks
--     live_in            a namespace whose way up to it is eligible
--     outside_same       keys outside the subtree want the same
--     inside_same        so do those in it that aren't marked
--     moved_same         so do all that aren't marked
use Rattle.std.proofs.Common.{◌≡◌, ℕ, Bool, true, false, ◌&&◌, Option, Some, None, List, [], ◌∷◌, ◌++◌, map, flat_map, length, refl, sym, ap, ◌∙◌, subst, inl, inr, true≢false}
use Rattle.std.specs.List.{list_all}
use Rattle.std.specs.Option.{option_map_or}
use Rattle.std.specs.Str.{bytes_eq}
use Rattle.std.proofs.lemmas.Bool.{and_parts, and_from, or_left, or_right, cases_Bool, false_from_ne_true}
use Rattle.hx_object.specs.Kinds.{can_be_copied}
use Rattle.hx_object.specs.declared.kind.Kind.{Kind}
use Rattle.hx_object.specs.declared.object.Object.{Object}
use Rattle.hx_model.specs.Forest.{Forest, is_in, names_of, is_there, parent_of, chain_of, in_chain, tail_of, subtree_of, with_parent}
use Rattle.hx_model.specs.Keys.{same_key, is_among}
use Rattle.hx_model.specs.Moves.{up_to, chain_from, is_eligible, is_open_above, moved_chain_of, is_moved_open, mode_at}
use Rattle.hx_model.specs.Propagation.{id_in, sources_along, top_of}
use Rattle.hx_model.specs.State.{State, Objects, object_at, namespace_id}
use Rattle.hx_model.specs.Tree.{forest_of}
use Rattle.hx_model.specs.TreeLabels.{is_open}
use Rattle.hx_model.specs.Walks.{walk_to}
use Rattle.hx_model.specs.Wanted.{copy_write, copied_in}
use Rattle.hx_model.specs.declared.key.Key.{Key}
use Rattle.hx_model.specs.declared.key.Key.TheVariants as key
use Rattle.hx_model.specs.declared.key.Write.{Write}
use Rattle.hx_model.proofs.Climbing.{same_itself}
use Rattle.hx_model.proofs.Moving.{IsApart, moved_parent, moved_there, moved_chain_same, moved_in_chain, walk_to_none}
use Rattle.hx_model.proofs.Opening.{chain_first, moved_chain_below, moved_open_below, moved_open_same}
use Rattle.hx_model.proofs.Parents.{in_below, is_in_filter}
use Rattle.hx_model.proofs.Walking.{names_have}
use Rattle.hx_marks.specs.Law.{key_for, all_of, live_below, in_one, all_sent, sent_marks, moved_by}
use Rattle.hx_marks.proofs.Among.{among_flat_map, among_here, passing_name}
use Rattle.hx_marks.proofs.MoveChains.{open_there, open_apart, open_above}
use Rattle.hx_marks.proofs.MoveSources.{same_top}
use Rattle.hx_marks.proofs.MoveStates.{none_from, spot, wanted_at, wanted_in, at_closed, at_known}
use Rattle.hx_marks.proofs.Wanting.{wants_copied}

-- who was below n is below it then, whatever its new parent
pub moved_has : (f : Forest) (n : List ℕ) (parent : Option (List ℕ)) (m : List ℕ) → in_chain f m n ≡ true → in_chain (with_parent n parent f) m n ≡ true
moved_has f n parent m has = by (walk_to (length f) f (Some m) n) refl
  where
    by : (o : Option ℕ) → walk_to (length f) f (Some m) n ≡ o → in_chain (with_parent n parent f) m n ≡ true
    by None e = absurd (true≢false (sym has ∙ walk_to_none f n m e))
    by (Some k) e = moved_in_chain f n parent m k e

-- a key that one name of a list marks
pub marked_of : (k : Key) (marks : List ℕ → List Key) (names : List (List ℕ)) (m : List ℕ) → is_in m names ≡ true → is_among k (marks m) ≡ true → is_among k (flat_map marks names) ≡ true
marked_of k marks names m mem h = among_flat_map k marks names ∙ passing_name (λ a. is_among k (marks a)) m names mem h

-- a namespace below n whose way up to it is eligible
pub live_in : (f : Forest) (n m : List ℕ) → is_there f m ≡ true → in_chain f m n ≡ true → list_all (is_eligible f) (up_to n (chain_of f m)) ≡ true → is_in m (live_below f n) ≡ true
live_in f n m there has eligible =
    is_in_filter (λ a. list_all (is_eligible f) (up_to n (chain_of f a))) m (subtree_of f n)
    ∙ and_from (is_in m (subtree_of f n)) _ (in_below f m n ∙ and_from (is_in m (names_of f)) (in_chain f m n) (sym (names_have f m) ∙ there) has) eligible

not_open : (f : Forest) (n m : List ℕ) → in_chain f m n ≡ true → is_open f n ≡ false → is_open f m ≡ false
not_open f n m has shut = false_from_ne_true (is_open f m) (λ h. true≢false (sym (open_above f n m has h) ∙ shut))

-- the first members of a chain are before its end
tail_parts : (xs : List (List ℕ)) (n : List ℕ) (chain : List (List ℕ)) → tail_of (xs ++ n ∷ chain) ≡ tail_of (xs ++ n ∷ []) ++ chain
tail_parts [] n chain = refl
tail_parts (x ∷ xs) n chain = join xs
  where
    join : (ys : List (List ℕ)) → ys ++ n ∷ chain ≡ (ys ++ n ∷ []) ++ chain
    join [] = refl
    join (y ∷ ys) = ap (λ zs. y ∷ zs) (join ys)

module _ (s : State) (n : List ℕ) (parent : Option (List ℕ)) (there : is_there (forest_of s) n ≡ true) (same : with_parent n (parent_of (forest_of s) n) (forest_of s) ≡ forest_of s) where
  abbrev f : Forest
  f = forest_of s

  abbrev g : Forest
  g = with_parent n parent (forest_of s)

  -- ---- outside

  outside_same : (k : Key) → in_chain f (spot k) n ≡ false → wanted_in s f k ≡ wanted_in s g k
  outside_same k out = sym (λ i. wanted_at s (moved_open_same f n parent (spot k) out i) (moved_chain_same f n parent (spot k) out i) k)

  -- ---- who takes part

  apart_before : is_open f n ≡ true → IsApart f n (parent_of f n)
  apart_before h = open_apart f n h

  apart_after : is_open g n ≡ true → IsApart f n parent
  apart_after h = by parent (sym (ap (λ p. option_map_or (λ q. in_chain g q n) p false) (moved_parent f n parent there)) ∙ open_apart g n h)
    where
      by : (next : Option (List ℕ)) → option_map_or (λ q. in_chain g q n) next false ≡ false → IsApart f n next
      by None out = refl
      by (Some q) out = false_from_ne_true (in_chain f q n) (λ h. true≢false (sym (moved_has f n parent q h) ∙ out))

  opens_before : is_open f n ≡ true → (m : List ℕ) → in_chain f m n ≡ true → is_open f m ≡ is_moved_open f n (parent_of f n) m
  opens_before h m has = subst (λ (t : Forest). is_open t m ≡ is_moved_open f n (parent_of f n) m) same (moved_open_below f n (parent_of f n) (apart_before h) there m has)

  opens_after : is_open g n ≡ true → (m : List ℕ) → in_chain f m n ≡ true → is_open g m ≡ is_moved_open f n parent m
  opens_after h m has = moved_open_below f n parent (apart_after h) there m has

  chain_before : is_open f n ≡ true → (m : List ℕ) → in_chain f m n ≡ true → chain_of f m ≡ moved_chain_of f n (parent_of f n) m
  chain_before h m has = subst (λ (t : Forest). chain_of t m ≡ moved_chain_of f n (parent_of f n) m) same (moved_chain_below f n (parent_of f n) (apart_before h) m has)

  chain_after : is_open g n ≡ true → (m : List ℕ) → in_chain f m n ≡ true → chain_of g m ≡ moved_chain_of f n parent m
  chain_after h m has = moved_chain_below f n parent (apart_after h) m has

  -- n is in its own chain
  has_itself : in_chain f n n ≡ true
  has_itself = ap (is_in n) (chain_first f n there) ∙ or_left (bytes_eq n n) (is_in n (tail_of (chain_of f n))) (same_itself n)

  eligible_way : (m : List ℕ) (p : Option (List ℕ)) → is_moved_open f n p m ≡ true → list_all (is_eligible f) (up_to n (chain_of f m)) ≡ true
  eligible_way m p h = (and_parts (list_all (is_eligible f) (up_to n (chain_of f m))) _ h).0

  -- where n takes part, it is eligible, and its parent takes part
  top_before : is_open f n ≡ true → (is_eligible f n && is_open_above f (parent_of f n)) ≡ true
  top_before h = (and_parts (list_all (is_eligible f) (up_to n (chain_of f n))) _ (sym (opens_before h n has_itself) ∙ h)).1

  top_after : is_open g n ≡ true → (is_eligible f n && is_open_above f parent) ≡ true
  top_after h = (and_parts (list_all (is_eligible f) (up_to n (chain_of f n))) _ (sym (opens_after h n has_itself) ∙ h)).1

  above_before : is_open f n ≡ true → is_open_above f (parent_of f n) ≡ true
  above_before h = (and_parts (is_eligible f n) _ (top_before h)).1

  above_after : is_open g n ≡ true → is_open_above f parent ≡ true
  above_after h = (and_parts (is_eligible f n) _ (top_after h)).1

  -- ---- in the subtree

  module _ (k : Key) (has : in_chain f (spot k) n ≡ true) where
    abbrev before : Option Write
    before = wanted_at s (is_open f (spot k)) (chain_of f (spot k)) k

    abbrev after : Option Write
    after = wanted_at s (is_open g (spot k)) (chain_of g (spot k)) k

    nothing_before : is_open f (spot k) ≡ false → before ≡ None
    nothing_before shut = ap (λ b. wanted_at s b (chain_of f (spot k)) k) shut ∙ at_closed s (chain_of f (spot k)) k

    nothing_after : is_open g (spot k) ≡ false → after ≡ None
    nothing_after shut = ap (λ b. wanted_at s b (chain_of g (spot k)) k) shut ∙ at_closed s (chain_of g (spot k)) k

    shut_before : is_open f n ≡ false → is_open f (spot k) ≡ false
    shut_before shut = not_open f n (spot k) has shut

    shut_after : is_open g n ≡ false → is_open g (spot k) ≡ false
    shut_after shut = not_open g n (spot k) (moved_has f n parent (spot k) has) shut

    live : is_there f (spot k) ≡ true → list_all (is_eligible f) (up_to n (chain_of f (spot k))) ≡ true → is_in (spot k) (live_below f n) ≡ true
    live here eligible = live_in f n (spot k) here has eligible

    -- it takes part no more
    ends : is_open f n ≡ true → is_open g n ≡ false → is_among k (flat_map (λ a. all_of s.objects (chain_of f a) a) (live_below f n)) ≡ false → before ≡ after
    ends h shut unmarked = elim (cases_Bool (is_open f (spot k))) [
      | inl opens ↦
          none_from before (λ wants.
          true≢false (sym (marked_of k (λ a. all_of s.objects (chain_of f a) a) (live_below f n) (spot k) (live (open_there f (spot k) opens) (eligible_way (spot k) (parent_of f n) (sym (opens_before h (spot k) has) ∙ opens))) (at_known s (is_open f (spot k)) (chain_of f (spot k)) k wants))
          ∙ unmarked))
          ∙ sym (nothing_after (shut_after shut))
      | inr shuts ↦ nothing_before shuts ∙ sym (nothing_after (shut_after shut))
    ]

    -- it begins to take part
    begins : is_open f n ≡ false → is_open g n ≡ true → is_among k (flat_map (λ a. all_of s.objects (moved_chain_of f n parent a) a) (live_below f n)) ≡ false → before ≡ after
    begins shut h unmarked = elim (cases_Bool (is_open g (spot k))) [
      | inl opens ↦
          nothing_before (shut_before shut)
          ∙ sym (none_from after (λ wants.
          true≢false (sym (marked_of k (λ a. all_of s.objects (moved_chain_of f n parent a) a) (live_below f n) (spot k)
          (live (sym (moved_there f n parent (spot k)) ∙ open_there g (spot k) opens) (eligible_way (spot k) parent (sym (opens_after h (spot k) has) ∙ opens)))
          (subst (λ (chain : List (List ℕ)). is_among k (all_of s.objects chain (spot k)) ≡ true) (chain_after h (spot k) has) (at_known s (is_open g (spot k)) (chain_of g (spot k)) k wants)))
          ∙ unmarked)))
      | inr shuts ↦ nothing_before (shut_before shut) ∙ sym (nothing_after shuts)
    ]

  -- the place of a copy, where n always takes part
  copy_same : is_open f n ≡ true → is_open g n ≡ true → (m : List ℕ) (kind : Kind) (name : List ℕ)
      → is_among (key.Copy m kind name) (map (key_for m) (all_sent s.objects (in_one (chain_from f (parent_of f n)) (chain_from f parent)))) ≡ false
      → wanted_at s true (moved_chain_of f n (parent_of f n) m) (key.Copy m kind name) ≡ wanted_at s true (moved_chain_of f n parent m) (key.Copy m kind name)
  copy_same h j m kind name unmarked = elim (cases_Bool (can_be_copied kind)) [
    | inl copied ↦ by copied (object_at s.objects (namespace_id m))
    | inr out ↦ nothing (moved_chain_of f n (parent_of f n) m) out ∙ sym (nothing (moved_chain_of f n parent m) out)
  ]
    where
      nothing : (chain : List (List ℕ)) → can_be_copied kind ≡ false → wanted_at s true chain (key.Copy m kind name) ≡ None
      nothing chain out = none_from (wanted_at s true chain (key.Copy m kind name)) (λ wants. true≢false (sym (wants_copied s.objects chain m kind name true (object_at s.objects (namespace_id m)) wants) ∙ out))

      top : can_be_copied kind ≡ true → (x : Object)
          → top_of (mode_at s.objects kind) x.labels (sources_along s.objects kind name (tail_of (moved_chain_of f n (parent_of f n) m))) ≡ top_of (mode_at s.objects kind) x.labels (sources_along s.objects kind name (tail_of (moved_chain_of f n parent m)))
      top copied x =
          ap (λ chain. top_of (mode_at s.objects kind) x.labels (sources_along s.objects kind name chain)) (tail_parts (up_to n (chain_of f m)) n (chain_from f (parent_of f n)))
          ∙ same_top s.objects m kind name x.labels copied f (parent_of f n) parent (tail_of ((up_to n (chain_of f m)) ++ n ∷ [])) (above_before h) (above_after j) unmarked
          ∙ sym (ap (λ chain. top_of (mode_at s.objects kind) x.labels (sources_along s.objects kind name chain)) (tail_parts (up_to n (chain_of f m)) n (chain_from f parent)))

      by : can_be_copied kind ≡ true → (found : Option Object)
          → copy_write true found (mode_at s.objects kind) (sources_along s.objects kind name (tail_of (moved_chain_of f n (parent_of f n) m))) m (object_at s.objects (id_in kind name m))
          ≡ copy_write true found (mode_at s.objects kind) (sources_along s.objects kind name (tail_of (moved_chain_of f n parent m))) m (object_at s.objects (id_in kind name m))
      by copied None = refl
      by copied (Some x) = ap (λ o. copied_in (mode_at s.objects kind) o m (object_at s.objects (id_in kind name m))) (top copied x)

  -- what the two chains don't share
  abbrev sent : Objects
  sent = all_sent s.objects (in_one (chain_from f (parent_of f n)) (chain_from f parent))

  -- a key of a namespace that takes part before and then
  middle : is_open f n ≡ true → is_open g n ≡ true → (k : Key) → is_in (spot k) (live_below f n) ≡ true
      → is_among k (flat_map (sent_marks sent) (live_below f n)) ≡ false
      → wanted_at s true (moved_chain_of f n (parent_of f n) (spot k)) k ≡ wanted_at s true (moved_chain_of f n parent (spot k)) k
  middle h j (key.Copy m kind name) live unmarked = copy_same h j m kind name (false_from_ne_true (is_among (key.Copy m kind name) (map (key_for m) sent)) (λ mark.
      true≢false (sym (marked_of (key.Copy m kind name) (sent_marks sent) (live_below f n) m live (or_right (same_key (key.Copy m kind name) (key.Tree m)) _ mark)) ∙ unmarked)))
  middle h j (key.Tree m) live unmarked = absurd (true≢false (sym (marked_of (key.Tree m) (sent_marks sent) (live_below f n) m live (among_here (key.Tree m) (map (key_for m) sent))) ∙ unmarked))
  middle h j _ live unmarked = refl

  -- it always takes part
  stays : (k : Key) (has : in_chain f (spot k) n ≡ true) → is_open f n ≡ true → is_open g n ≡ true
      → is_among k (flat_map (sent_marks sent) (live_below f n)) ≡ false → before k has ≡ after k has
  stays k has h j unmarked = elim (cases_Bool (list_all (is_eligible f) (up_to n (chain_of f (spot k))))) [
    | inl eligible ↦
        let opens : is_open f (spot k) ≡ true = opens_before h (spot k) has ∙ and_from (list_all (is_eligible f) (up_to n (chain_of f (spot k)))) _ eligible (top_before h) in
        let moved : is_open g (spot k) ≡ true = opens_after j (spot k) has ∙ and_from (list_all (is_eligible f) (up_to n (chain_of f (spot k)))) _ eligible (top_after j) in
        (λ i. wanted_at s (opens i) (chain_before h (spot k) has i) k)
        ∙ middle h j k (live k has (open_there f (spot k) opens) eligible) unmarked
        ∙ sym (λ i. wanted_at s (moved i) (chain_after j (spot k) has i) k)
    | inr wild ↦
        nothing_before k has (opens_before h (spot k) has ∙ ap (λ b. b && (is_eligible f n && is_open_above f (parent_of f n))) wild)
        ∙ sym (nothing_after k has (opens_after j (spot k) has ∙ ap (λ b. b && (is_eligible f n && is_open_above f parent)) wild))
  ]

  inside_same : (a b : Bool) → is_open f n ≡ a → is_open g n ≡ b → (k : Key) → in_chain f (spot k) n ≡ true → is_among k (moved_by s n (parent_of f n) parent a b) ≡ false → wanted_in s f k ≡ wanted_in s g k
  inside_same true true h j k has unmarked = stays k has h j unmarked
  inside_same true false h j k has unmarked = ends k has h j unmarked
  inside_same false true h j k has unmarked = begins k has h j unmarked
  inside_same false false h j k has unmarked = nothing_before k has (shut_before k has h) ∙ sym (nothing_after k has (shut_after k has j))

  -- a key that isn't marked wants the same
  pub moved_same : (k : Key) → is_among k (moved_by s n (parent_of f n) parent (is_open f n) (is_open g n)) ≡ false → wanted_in s f k ≡ wanted_in s g k
  moved_same k unmarked = elim (cases_Bool (in_chain f (spot k) n)) [
    | inl has ↦ inside_same (is_open f n) (is_open g n) refl refl k has unmarked
    | inr out ↦ outside_same k out
  ]
