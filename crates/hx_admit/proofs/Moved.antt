-- What the look-up of a move's conflicts finds.
--     unlooked         a source that doesn't look at labels goes to all alike
--     met_none         where no source of a kind and name lies in another namespace, none goes along a chain
--     ways_apart       the ways up to the top come back to no member
--     none_below       where nothing of any kind is overwritten, none is below a namespace
--     none_moved       where the top doesn't take part, nothing is overwritten below
--     all_moved        and where it does, the ways up to it tell the chains
--     stays_answer, moves_answer      what is found is whether there is a new conflict
use Rattle.std.specs.Prelude.{is_some, IfSome, IfOk, Result, Ok, Err, if◌then◌else◌}
use Rattle.std.proofs.Common.{◌≡◌, ◌==◌, eqb-true, ℕ, zero, suc, arith, ◌+◌, ◌<◌, length, drop, get_or, drop-cons, Bool, true, false, cond, not, ◌&&◌, ◌||◌, Option, Some, None, List, [], ◌∷◌, filter, refl, sym, ap, ◌∙◌, subst, true≢false}
use Rattle.std.specs.List.{list_any, list_all}
use Rattle.std.specs.Str.{bytes_eq}
use Rattle.std.proofs.lemmas.Bool.{or_left, or_right, and_parts, false_from_ne_true}
use Rattle.hx_object.specs.Kinds.{number_of}
use Rattle.hx_object.specs.declared.kind.Kind.{Kind}
use Rattle.hx_object.specs.declared.object.Id.{Id}
use Rattle.hx_object.specs.declared.object.Mode.{Mode}
use Rattle.hx_object.specs.declared.object.Object.{Object}
use Rattle.hx_select.specs.Selectors.{selector_of}
use Rattle.hx_select.specs.TreeSelects.{tree_select_of}
use Rattle.hx_model.specs.Answers.{is_listed}
use Rattle.hx_model.specs.Cases.{same_name}
use Rattle.hx_model.specs.Conflicts.{makes_conflict, with_written, written_in}
use Rattle.hx_model.specs.Exceptions.{select_of, tree_select_in, none_of, passes, is_false, select_allows, tree_select_allows}
use Rattle.hx_model.specs.Forest.{Forest, is_in, names_of, with_parent, tail_of, in_chain, is_there, chain_of, parent_of, subtree_of}
use Rattle.hx_model.specs.Moves.{mode_at, labels_in, is_going, is_met, up_to, chain_from, is_eligible, is_open_above, moved_chain_of, open_chain, open_moved, is_newly_met, overwrites_kind, overwrites_in, copied_kinds}
use Rattle.hx_model.specs.Propagation.{id_in, goes_to, is_propagated, is_source, stays_home}
use Rattle.hx_model.specs.State.{State, Objects, object_at}
use Rattle.hx_model.specs.Tree.{forest_of}
use Rattle.hx_model.specs.Valid.{IsValid}
use Rattle.hx_model.specs.TreeLabels.{prescribed_labels}
use Rattle.hx_model.proofs.Climbing.{same_itself}
use Rattle.hx_model.proofs.Conflicting.{unpropagated, head_out}
use Rattle.hx_model.proofs.Objects.{same_kind}
use Rattle.hx_model.proofs.Displacing.{IsDecided, put_decided, cut_decided}
use Rattle.hx_model.proofs.Moving.{IsApart}
use Rattle.hx_model.proofs.Opening.{moved_chain_below}
use Rattle.hx_model.proofs.Parents.{in_below}
use Rattle.hx_store.specs.Sources.{HasNoneBeside}
use Rattle.hx_admit.specs.Moves.{open_way, is_later, CanMove, IsMovedBy}
use Rattle.hx_admit.proofs.Conflicting.{none_later, goes_none}

-- ---- loops and results

-- the next one, and the rest
next_of : {A : Type 0} (xs : List A) (i : ℕ) (x : A) → i < length xs → x ≡ get_or xs i x → drop i xs ≡ x ∷ drop (i + 1) xs
next_of xs i x within is =
    let one : suc i ≡ i + 1 = omega arith in
    drop-cons xs i x within ∙ (λ j. sym is j ∷ drop (one j) xs)

-- one of what is left passes
pub left_passes : {A : Type 0} (t : A → Bool) (xs : List A) (i : ℕ) (x : A) → i < length xs → x ≡ get_or xs i x → list_any t (drop i xs) ≡ list_any t xs → t x ≡ true → true ≡ list_any t xs
left_passes t xs i x within is left here = sym (or_left (t x) (list_any t (drop (i + 1) xs)) here) ∙ sym (ap (list_any t) (next_of xs i x within is)) ∙ left

-- one of what is left fails
pub left_fails : {A : Type 0} (t : A → Bool) (xs : List A) (i : ℕ) (x : A) → i < length xs → x ≡ get_or xs i x → list_any t (drop i xs) ≡ list_any t xs → t x ≡ false → list_any t (drop (i + 1) xs) ≡ list_any t xs
left_fails t xs i x within is left fails = sym (ap (list_any t) (next_of xs i x within is) ∙ ap (λ b. b || list_any t (drop (i + 1) xs)) fails) ∙ left

-- what holds of a result by what held of it
pub if_ok_by : {A E : Type 0} (P Q : A → Type 0) (r : Result A E) → ((a : A) → P a → Q a) → IfOk r P → IfOk r Q
if_ok_by P Q (Ok a) to h = to a h
if_ok_by P Q (Err e) to h = tt

-- ---- labels

-- a source that doesn't look at labels goes to all alike
pub unlooked : (mode : Mode) (x : Object) (labels others : List (List ℕ × List ℕ)) → (is_some (select_of x) || is_some (tree_select_in x)) ≡ false → goes_to mode x labels ≡ goes_to mode x others
unlooked mode x labels others none = ap (λ b. is_propagated mode && (is_source x && (not (stays_home x) && b))) (by (select_of x) (tree_select_in x) none)
  where
    by : (a b : Option (List ℕ)) → (is_some a || is_some b) ≡ false
        → (passes (λ text. select_allows labels (selector_of text)) a && (passes (λ text. tree_select_allows labels (tree_select_of text)) b && passes is_false (none_of x)))
        ≡ (passes (λ text. select_allows others (selector_of text)) a && (passes (λ text. tree_select_allows others (tree_select_of text)) b && passes is_false (none_of x)))
    by None None e = refl
    by None (Some b) e = absurd (true≢false e)
    by (Some a) b e = absurd (true≢false e)

-- ---- the subtree

none_pass : {A : Type 0} (t : A → Bool) (xs : List A) → ((x : A) → t x ≡ false) → list_any t xs ≡ false
none_pass t [] never = refl
none_pass t (x ∷ xs) never = ap (λ b. b || list_any t xs) (never x) ∙ none_pass t xs never

pass_alike : {A : Type 0} (t u : A → Bool) (xs : List A) → ((x : A) → t x ≡ u x) → list_any t xs ≡ list_any u xs
pass_alike t u [] same = refl
pass_alike t u (x ∷ xs) same = ap (λ b. b || list_any t xs) (same x) ∙ ap (λ b. u x || b) (pass_alike t u xs same)

pub and_false : (a : Bool) → (a && false) ≡ false
and_false true = refl
and_false false = refl

and_true : (a : Bool) → (a && true) ≡ a
and_true true = refl
and_true false = refl

-- nothing is overwritten along no chain
no_chain : (objects : Objects) (m : List ℕ) (before : List (List ℕ)) → overwrites_in objects m [] before ≡ false
no_chain objects m before = none_pass (overwrites_kind objects m [] before) copied_kinds (λ kind. none_pass (is_newly_met objects m [] before) (filter (is_listed kind (Some m)) objects) (λ x. and_false (is_source x)))

pub any_in_filter : {A : Type 0} (p q : A → Bool) (xs : List A) → list_any p (filter q xs) ≡ list_any (λ x. q x && p x) xs
any_in_filter p q [] = refl
any_in_filter p q (x ∷ xs) = elim (q x) as (λ b. list_any p (cond b (x ∷ filter q xs) (filter q xs)) ≡ ((b && p x) || list_any (λ y. q y && p y) xs)) [
  | true ↦ ap (λ b. p x || b) (any_in_filter p q xs)
  | false ↦ any_in_filter p q xs
]

-- nothing is overwritten of a kind that isn't propagated
pub no_mode : (objects : Objects) (n : List ℕ) (after before : List (List ℕ)) (kind : Kind) → is_propagated (mode_at objects kind) ≡ false → false ≡ overwrites_kind objects n after before kind
no_mode objects n after before kind out = sym (any_in_filter (is_newly_met objects n after before) (is_listed kind (Some n)) objects ∙ none_pass (λ x. is_listed kind (Some n) x && is_newly_met objects n after before x) objects never)
  where
    going : (mode : Mode) (labels : List (List ℕ × List ℕ)) (found : Option Object) → is_propagated mode ≡ false → is_going mode labels found ≡ false
    going mode labels None e = refl
    going mode labels (Some x) e = unpropagated mode x labels e

    unmet : (x : Object) → kind ≡ x.id.kind → is_met objects n after x.id.kind x.id.name ≡ false
    unmet x same = none_pass (λ a. is_going (mode_at objects x.id.kind) (prescribed_labels after (labels_in objects n)) (object_at objects (id_in x.id.kind x.id.name a))) (tail_of after) (λ a.
        going (mode_at objects x.id.kind) (prescribed_labels after (labels_in objects n)) (object_at objects (id_in x.id.kind x.id.name a)) (subst (λ (k : Kind). is_propagated (mode_at objects k) ≡ false) same out))

    never : (x : Object) → (is_listed kind (Some n) x && is_newly_met objects n after before x) ≡ false
    never x = false_from_ne_true (is_listed kind (Some n) x && is_newly_met objects n after before x) (λ h.
        let parts = and_parts (is_listed kind (Some n) x) (is_newly_met objects n after before x) h in
        let same : kind ≡ x.id.kind = same_kind kind x.id.kind (eqb-true (number_of kind) (number_of x.id.kind) (and_parts (number_of kind == number_of x.id.kind) (bytes_eq x.id.ns n) parts.0).0) in
        let met = (and_parts (is_met objects n after x.id.kind x.id.name) (not (is_met objects n before x.id.kind x.id.name)) (and_parts (is_source x) _ parts.1).1).0 in
        true≢false (sym met ∙ unmet x same))

-- where nothing of any kind is overwritten, none is below a namespace
pub none_below : (objects : Objects) (f : Forest) (n : List ℕ) (parent : Option (List ℕ)) (ms : List (List ℕ)) → ((m : List ℕ) (after before : List (List ℕ)) → overwrites_in objects m after before ≡ false)
    → false ≡ list_any (λ m. overwrites_in objects m (open_moved f n parent m) (open_chain f m)) ms
none_below objects f n parent ms never = sym (none_pass (λ m. overwrites_in objects m (open_moved f n parent m) (open_chain f m)) ms (λ m. never m (open_moved f n parent m) (open_chain f m)))

-- ---- a name that no source has in another namespace

-- none goes along a chain then, where no later member has the name of the first one
pub met_none : (objects : Objects) (kind : Kind) (name n : List ℕ) → HasNoneBeside objects kind name n → (chain : List (List ℕ)) → is_later n chain ≡ false → is_met objects n chain kind name ≡ false
met_none objects kind name n none chain out =
    let mode = mode_at objects kind in
    let labels = prescribed_labels chain (labels_in objects n) in
    none_later (λ a. is_going mode labels (object_at objects (id_in kind name a))) n (tail_of chain) out (λ a apart. goes_none mode labels (object_at objects (id_in kind name a)) (none a apart))

-- an item is among all
pub item_in : (names : List (List ℕ)) (i : ℕ) (n : List ℕ) → i < length names → n ≡ get_or names i n → is_in n names ≡ true
item_in [] i n within is = absurd (omega (arith, within))
item_in (m ∷ names) zero n within is = or_left (bytes_eq n m) (is_in n names) (ap (bytes_eq n) (sym is) ∙ same_itself n)
item_in (m ∷ names) (suc i) n within is = or_right (bytes_eq n m) (is_in n names) (item_in names i n (omega (arith, within)) is)

-- ---- the top

apart_of : (f : Forest) (n : List ℕ) (parent : Option (List ℕ)) → IfSome parent (λ p. in_chain f p n ≡ false) → IsApart f n parent
apart_of f n None out = refl
apart_of f n (Some p) out = out

-- the ways up to it come back to no member
pub ways_apart : (f : Forest) (n : List ℕ) (parent : Option (List ℕ)) (above ms : List (List ℕ)) → CanMove f n parent → above ≡ chain_from f parent → ms ≡ subtree_of f n
    → (m : List ℕ) → is_in m ms ≡ true → is_later m (open_way f n above m) ≡ false
ways_apart f n parent above ms may is all m has =
    ap (λ names. is_later m (open_way f n names m)) is
    ∙ by (and_parts (is_in m (names_of f)) (in_chain f m n) (sym (in_below f m n) ∙ sym (ap (is_in m) all) ∙ has)).1 (list_all (is_eligible f) (up_to n (chain_of f m)))
  where
    by : in_chain f m n ≡ true → (b : Bool) → is_later m (if b then moved_chain_of f n parent m else []) ≡ false
    by below true = ap (is_later m) (sym (moved_chain_below f n parent (apart_of f n parent may.apart) m below)) ∙ head_out (with_parent n parent f) m
    by below false = refl

-- where the top doesn't take part, nothing is overwritten below
pub none_moved : (objects : Objects) (f : Forest) (n : List ℕ) (parent : Option (List ℕ)) (ms : List (List ℕ)) → (is_eligible f n && is_open_above f parent) ≡ false
    → false ≡ list_any (λ m. overwrites_in objects m (open_moved f n parent m) (open_chain f m)) ms
none_moved objects f n parent ms out = sym (none_pass (λ m. overwrites_in objects m (open_moved f n parent m) (open_chain f m)) ms (λ m.
    ap (λ chain. overwrites_in objects m chain (open_chain f m)) (shut m) ∙ no_chain objects m (open_chain f m)))
  where
    shut : (m : List ℕ) → open_moved f n parent m ≡ []
    shut m = ap (λ b. if (list_all (is_eligible f) (up_to n (chain_of f m)) && b) then moved_chain_of f n parent m else []) out ∙ ap (λ b. if b then moved_chain_of f n parent m else []) (and_false (list_all (is_eligible f) (up_to n (chain_of f m))))

-- and where it does, the ways up to it tell the chains
pub all_moved : (objects : Objects) (f : Forest) (n : List ℕ) (parent : Option (List ℕ)) (above : List (List ℕ)) (ms : List (List ℕ)) → is_eligible f n ≡ true → is_open_above f parent ≡ true → above ≡ chain_from f parent → ms ≡ subtree_of f n
    → list_any (λ m. overwrites_in objects m (open_way f n above m) (open_chain f m)) ms ≡ list_any (λ m. overwrites_in objects m (open_moved f n parent m) (open_chain f m)) (subtree_of f n)
all_moved objects f n parent above ms eligible opens is all = pass_alike (λ m. overwrites_in objects m (open_way f n above m) (open_chain f m)) (λ m. overwrites_in objects m (open_moved f n parent m) (open_chain f m)) ms (λ m.
    ap (λ chain. overwrites_in objects m chain (open_chain f m)) (ap (λ xs. open_way f n xs m) is ∙ sym (way m)))
    ∙ ap (list_any (λ m. overwrites_in objects m (open_moved f n parent m) (open_chain f m))) all
  where
    way : (m : List ℕ) → open_moved f n parent m ≡ open_way f n (chain_from f parent) m
    way m =
        (λ i. if (list_all (is_eligible f) (up_to n (chain_of f m)) && (eligible i && opens i)) then moved_chain_of f n parent m else [])
        ∙ ap (λ b. if b then moved_chain_of f n parent m else []) (and_true (list_all (is_eligible f) (up_to n (chain_of f m))))

-- ---- the write

-- the write's objects are decided by the parent that it leaves
decided : (s : State) (valid : IsValid s) (parent : Option (List ℕ)) (id : Id) (new : Option Object) → IsMovedBy s id.ns parent id new → IsDecided s valid id parent (written_in id new s.objects)
decided s valid parent id None moved = subst (λ (p : Option (List ℕ)). IsDecided s valid id p (written_in id None s.objects)) (sym moved.named) (cut_decided s valid id moved.kind)
decided s valid parent id (Some x) moved = subst (λ (p : Option (List ℕ)). IsDecided s valid id p (written_in id (Some x) s.objects)) (sym moved.named) (put_decided s valid id x moved.kind moved.placed)

module _ (s : State) (valid : IsValid s) (n : List ℕ) (parent : Option (List ℕ)) where
  at_home : (id : Id) (new : Option Object) → (moved : IsMovedBy s n parent id new) → IsMovedBy s id.ns parent id new
  at_home id new moved = subst (λ (m : List ℕ). IsMovedBy s m parent id new) (sym moved.home) moved

  -- where the parent stays there is none
  pub stays_answer : same_name (parent_of (forest_of s) n) parent ≡ true → (id : Id) (new : Option Object) → IsMovedBy s n parent id new → false ≡ makes_conflict s (with_written s id new)
  stays_answer same id new moved = sym ((decided s valid parent id new (at_home id new moved)).stays (subst (λ (m : List ℕ). same_name (parent_of (forest_of s) m) parent ≡ true) (sym moved.home) same))

  -- and else those that are found
  pub moves_answer : (found : Bool) → same_name (parent_of (forest_of s) n) parent ≡ false → CanMove (forest_of s) n parent
      → found ≡ list_any (λ m. overwrites_in s.objects m (open_moved (forest_of s) n parent m) (open_chain (forest_of s) m)) (subtree_of (forest_of s) n)
      → (id : Id) (new : Option Object) → IsMovedBy s n parent id new → found ≡ makes_conflict s (with_written s id new)
  moves_answer found differs may is id new moved = by id.ns moved.home (decided s valid parent id new (at_home id new moved)).moves
    where
      by : (m : List ℕ) → m ≡ n
          → (same_name (parent_of (forest_of s) m) parent ≡ false → is_there (forest_of s) m ≡ true → IsApart (forest_of s) m parent
          → makes_conflict s (with_written s id new) ≡ list_any (λ q. overwrites_in s.objects q (open_moved (forest_of s) m parent q) (open_chain (forest_of s) q)) (subtree_of (forest_of s) m))
          → found ≡ makes_conflict s (with_written s id new)
      by m home moves =
          is ∙ sym (subst (λ (q : List ℕ). makes_conflict s (with_written s id new) ≡ list_any (λ r. overwrites_in s.objects r (open_moved (forest_of s) q parent r) (open_chain (forest_of s) r)) (subtree_of (forest_of s) q)) home
          (moves
          (subst (λ (q : List ℕ). same_name (parent_of (forest_of s) q) parent ≡ false) (sym home) differs)
          (subst (λ (q : List ℕ). is_there (forest_of s) q ≡ true) (sym home) may.there)
          (subst (λ (q : List ℕ). IsApart (forest_of s) q parent) (sym home) (apart_of (forest_of s) n parent may.apart))))

-- by the tree that is kept
pub kept_stays : (s : State) → IsValid s → (nodes : Forest) → nodes ≡ forest_of s → (n : List ℕ) (parent : Option (List ℕ)) → same_name (parent_of nodes n) parent ≡ true
    → (id : Id) (new : Option Object) → IsMovedBy s n parent id new → false ≡ makes_conflict s (with_written s id new)
kept_stays s valid nodes planted n parent same = stays_answer s valid n parent (sym (ap (λ (f : Forest). same_name (parent_of f n) parent) planted) ∙ same)

pub kept_may : (s : State) (nodes : Forest) → nodes ≡ forest_of s → (n : List ℕ) (parent : Option (List ℕ)) → same_name (parent_of nodes n) parent ≡ false
    → (same_name (parent_of (forest_of s) n) parent ≡ false → CanMove (forest_of s) n parent) → CanMove nodes n parent
kept_may s nodes planted n parent differs may = subst (λ (f : Forest). CanMove f n parent) (sym planted) (may (sym (ap (λ (f : Forest). same_name (parent_of f n) parent) planted) ∙ differs))

pub kept_moves : (s : State) → IsValid s → (nodes : Forest) → nodes ≡ forest_of s → (n : List ℕ) (parent : Option (List ℕ)) → same_name (parent_of nodes n) parent ≡ false
    → (same_name (parent_of (forest_of s) n) parent ≡ false → CanMove (forest_of s) n parent) → (found : Bool)
    → found ≡ list_any (λ m. overwrites_in s.objects m (open_moved nodes n parent m) (open_chain nodes m)) (subtree_of nodes n)
    → (id : Id) (new : Option Object) → IsMovedBy s n parent id new → found ≡ makes_conflict s (with_written s id new)
kept_moves s valid nodes planted n parent differs may found is =
    let moves = sym (ap (λ (f : Forest). same_name (parent_of f n) parent) planted) ∙ differs in
    moves_answer s valid n parent found moves (may moves) (is ∙ ap (λ (f : Forest). list_any (λ m. overwrites_in s.objects m (open_moved f n parent m) (open_chain f m)) (subtree_of f n)) planted)
