-- What the chain of a namespace sends is what those of it send that send something.
--     same_sent      of a kind
--     wants_by_senders, same_wants     so a namespace wants the same
--     wanted         so a call that has the senders above marks it
--     next_senders   those of a chain, and of the chain of its first member's parent
--     come_up        so where a call puts the first member before those of that chain
--     next_passes    the next item of a loop passes a test, and so does the rest
--     all_open, all_live     all that take part below a namespace do
use Rattle.std.proofs.Common.{◌≡◌, ℕ, Bool, true, false, cond, ◌&&◌, ◌||◌, Option, Some, List, [], ◌∷◌, ◌++◌, filter, map, refl, sym, ap, ◌∙◌, true≢false, ◌+◌, ◌<◌, length, get_or, drop, Result, Ok, Err, if◌then◌else◌}
use Rattle.std.specs.Prelude.{flat_map, OnOk}
use Rattle.std.specs.List.{list_any, list_all}
use Rattle.std.proofs.lemmas.Bool.{and_parts}
use Rattle.std.proofs.lemmas.List.{at_drop_more}
use Rattle.hx_object.specs.declared.kind.Kind.{Kind}
use Rattle.hx_object.specs.declared.object.Mode.{Mode}
use Rattle.hx_object.specs.declared.object.Mode.TheVariants as mode
use Rattle.hx_object.specs.declared.object.Object.{Object}
use Rattle.hx_model.specs.Forest.{Forest, parent_of, chain_of, subtree_of}
use Rattle.hx_model.specs.Limits.{is_copy}
use Rattle.hx_model.specs.Moves.{chain_from, mode_at, copied_kinds, is_open_above}
use Rattle.hx_model.specs.Propagation.{is_propagated}
use Rattle.hx_model.specs.State.{Objects}
use Rattle.hx_model.specs.declared.key.Key.{Key}
use Rattle.hx_model.specs.declared.key.Key.TheVariants as key
use Rattle.hx_model.specs.TreeLabels.{is_open}
use Rattle.hx_marks.specs.Law.{all_of, live_below, open_below, child_keys, is_ignored, is_sent, key_for, listed_in, sent_from, wants_of_kind}
use Rattle.hx_marks.specs.Senders.{is_sender, senders_of, sends_kind, sent_kinds}
use Rattle.hx_marks.proofs.Adding.{none_sent}
use Rattle.hx_marks.proofs.MoveChains.{open_chain}
use Rattle.hx_marks.proofs.Prescribing.{kept_pass}
use Rattle.hx_marks.proofs.TakingPart.{open_below_live}

-- ---- one namespace

or_out : (a b : Bool) → (a || b) ≡ false → (a ≡ false) × (b ≡ false)
or_out true b e = absurd (true≢false e)
or_out false b e = (refl, e)

-- nothing of a kind that is among some kinds, and propagated
quiet_kinds : (objects : Objects) (a : List ℕ) (kinds : List Kind) → is_sender objects (filter (λ kind. is_propagated (mode_at objects kind)) kinds) a ≡ false
    → list_any (λ kind. is_propagated (mode_at objects kind) && sends_kind objects a kind) kinds ≡ false
quiet_kinds objects a [] quiet = refl
quiet_kinds objects a (k ∷ kinds) quiet =
    elim (is_propagated (mode_at objects k)) as (λ b. list_any (sends_kind objects a) (cond b (k ∷ filter (λ kind. is_propagated (mode_at objects kind)) kinds) (filter (λ kind. is_propagated (mode_at objects kind)) kinds)) ≡ false
    → ((b && sends_kind objects a k) || list_any (λ kind. is_propagated (mode_at objects kind) && sends_kind objects a kind) kinds) ≡ false) [
      | true ↦ λ e. let parts = or_out (sends_kind objects a k) _ e in ap (λ b. b || list_any (λ kind. is_propagated (mode_at objects kind) && sends_kind objects a kind) kinds) parts.0 ∙ quiet_kinds objects a kinds parts.1
      | false ↦ λ e. quiet_kinds objects a kinds e
    ] quiet

none_kept_of : (t : Object → Bool) (xs : Objects) → list_any t xs ≡ false → filter t xs ≡ []
none_kept_of t [] none = refl
none_kept_of t (x ∷ xs) none = let parts = or_out (t x) (list_any t xs) none in ap (λ b. cond b (x ∷ filter t xs) (filter t xs)) parts.0 ∙ none_kept_of t xs parts.1

propagates : (m : Mode) → is_propagated m ≡ true → m ≡ mode.Propagate
propagates mode.Propagate e = refl
propagates mode.Remove e = absurd (true≢false (sym e))
propagates mode.Ignore e = absurd (true≢false (sym e))
propagates mode.AllowPropagate e = absurd (true≢false (sym e))

-- what one namespace sends of a kind
abbrev sent_by : Objects → Kind → List ℕ → Objects
sent_by objects kind a = filter (is_sent (mode_at objects kind)) (listed_in objects kind a)

quiet_sent : (objects : Objects) (kind : Kind) (a : List ℕ) → is_propagated (mode_at objects kind) ≡ true → sends_kind objects a kind ≡ false → sent_by objects kind a ≡ []
quiet_sent objects kind a on quiet =
    ap (λ m. filter (is_sent m) (listed_in objects kind a)) (propagates (mode_at objects kind) on) ∙ none_kept_of (is_sent mode.Propagate) (listed_in objects kind a) quiet

-- ---- of a kind, where those that aren't senders send nothing of it

kept_sent : (objects : Objects) (kind : Kind) (t : List ℕ → Bool) → ((a : List ℕ) → t a ≡ false → sent_by objects kind a ≡ []) → (names : List (List ℕ)) → sent_from objects kind (filter t names) ≡ sent_from objects kind names
kept_sent objects kind t out [] = refl
kept_sent objects kind t out (a ∷ names) =
    elim (t a) as (λ b. t a ≡ b → sent_from objects kind (cond b (a ∷ filter t names) (filter t names)) ≡ sent_by objects kind a ++ sent_from objects kind names) [
      | true ↦ λ e. ap (λ xs. sent_by objects kind a ++ xs) (kept_sent objects kind t out names)
      | false ↦ λ e. kept_sent objects kind t out names ∙ sym (ap (λ xs. xs ++ sent_from objects kind names) (out a e))
    ] refl

kind_sent : (objects : Objects) (kind : Kind) (kinds : List Kind) → ((a : List ℕ) → is_sender objects kinds a ≡ false → (is_propagated (mode_at objects kind) && sends_kind objects a kind) ≡ false)
    → (names : List (List ℕ)) → sent_from objects kind (senders_of objects kinds names) ≡ sent_from objects kind names
kind_sent objects kind kinds quiet names =
    elim (is_propagated (mode_at objects kind)) as (λ b. is_propagated (mode_at objects kind) ≡ b → sent_from objects kind (senders_of objects kinds names) ≡ sent_from objects kind names) [
      | true ↦ λ on. kept_sent objects kind (is_sender objects kinds) (λ a e. quiet_sent objects kind a on (sym (ap (λ b. b && sends_kind objects a kind) on) ∙ quiet a e)) names
      | false ↦ λ off. none_sent objects kind (senders_of objects kinds names) off ∙ sym (none_sent objects kind names off)
    ] refl

-- ---- of all kinds

-- a namespace wants of a kind what it wants by the senders alone
kind_wants : (objects : Objects) (kinds : List Kind) (m : List ℕ) (names : List (List ℕ)) (kind : Kind) → ((a : List ℕ) → is_sender objects kinds a ≡ false → (is_propagated (mode_at objects kind) && sends_kind objects a kind) ≡ false)
    → wants_of_kind objects (m ∷ senders_of objects kinds names) m kind ≡ wants_of_kind objects (m ∷ names) m kind
kind_wants objects kinds m names kind quiet =
    ap (λ xs. if is_ignored (mode_at objects kind) then [] else map (key_for m) (xs ++ filter is_copy (listed_in objects kind m))) (kind_sent objects kind kinds quiet names)

-- so of several
kinds_want : (objects : Objects) (senders : List Kind) (m : List ℕ) (names : List (List ℕ)) (kinds : List Kind)
    → ((a : List ℕ) → is_sender objects senders a ≡ false → list_any (λ kind. is_propagated (mode_at objects kind) && sends_kind objects a kind) kinds ≡ false)
    → flat_map (wants_of_kind objects (m ∷ senders_of objects senders names) m) kinds ≡ flat_map (wants_of_kind objects (m ∷ names) m) kinds
kinds_want objects senders m names [] quiet = refl
kinds_want objects senders m names (k ∷ kinds) quiet =
    λ i. kind_wants objects senders m names k (λ a e. (or_out (is_propagated (mode_at objects k) && sends_kind objects a k) _ (quiet a e)).0) i
    ++ kinds_want objects senders m names kinds (λ a e. (or_out (is_propagated (mode_at objects k) && sends_kind objects a k) _ (quiet a e)).1) i

-- so a namespace of a chain wants what it wants by the senders above it
pub wants_by_senders : (objects : Objects) (m : List ℕ) (names : List (List ℕ)) → all_of objects (m ∷ senders_of objects (sent_kinds objects) names) m ≡ all_of objects (m ∷ names) m
wants_by_senders objects m names = ap (λ keys. key.Tree m ∷ (keys ++ child_keys objects m)) (kinds_want objects (sent_kinds objects) m names copied_kinds (λ a. quiet_kinds objects a copied_kinds))

pub same_wants : (objects : Objects) (f : Forest) (kinds : List Kind) (m : List ℕ) (senders : List (List ℕ)) → kinds ≡ sent_kinds objects → is_open f m ≡ true → senders ≡ senders_of objects kinds (chain_from f (parent_of f m))
    → all_of objects (m ∷ senders) m ≡ all_of objects (chain_of f m) m
same_wants objects f kinds m senders are takes is =
    ap (λ xs. all_of objects (m ∷ xs) m) (is ∙ ap (λ ks. senders_of objects ks (chain_from f (parent_of f m))) are)
    ∙ wants_by_senders objects m (chain_from f (parent_of f m))
    ∙ ap (λ chain. all_of objects chain m) (sym (open_chain f m takes))

-- so a call that has the senders above marks what it wants
pub wanted : (objects : Objects) (f : Forest) (kinds : List Kind) (m : List ℕ) (parent : Option (List ℕ)) (above senders : List (List ℕ)) (new old : List Key) → kinds ≡ sent_kinds objects → is_open f m ≡ true → parent ≡ parent_of f m
    → senders ≡ senders_of objects kinds (chain_from f parent) → above ≡ senders → new ≡ old ++ all_of objects (m ∷ above) m → new ≡ old ++ all_of objects (chain_of f m) m
wanted objects f kinds m parent above senders new old are takes up known is h =
    h ∙ ap (λ keys. old ++ keys) (same_wants objects f kinds m above are takes (is ∙ known ∙ ap (λ o. senders_of objects kinds (chain_from f o)) up))

-- ---- chains

-- the senders of a chain are its first member, where it is one, and those of the chain of its parent
pub next_senders : (objects : Objects) (f : Forest) (kinds : List Kind) (n : List ℕ) → is_open f n ≡ true
    → senders_of objects kinds (n ∷ []) ++ senders_of objects kinds (chain_from f (parent_of f n)) ≡ senders_of objects kinds (chain_of f n)
next_senders objects f kinds n takes = first (is_sender objects kinds n) ∙ ap (senders_of objects kinds) (sym (open_chain f n takes))
  where
    rest : List (List ℕ)
    rest = senders_of objects kinds (chain_from f (parent_of f n))

    first : (b : Bool) → (cond b (n ∷ []) [] ++ rest) ≡ cond b (n ∷ rest) rest
    first true = refl
    first false = refl

pub come_up : {T E : Type 0} (r : Result T E) (new old : List (List ℕ)) (objects : Objects) (f : Forest) (kinds : List Kind) (n : List ℕ) (parent above : Option (List ℕ))
    → parent ≡ Some n → is_open_above f parent ≡ true → above ≡ parent_of f n → old ≡ senders_of objects kinds (chain_from f above)
    → OnOk r (new ≡ senders_of objects kinds (n ∷ []) ++ old) → OnOk r (new ≡ senders_of objects kinds (chain_from f parent))
come_up (Ok x) new old objects f kinds n parent above is takes up known h =
    h
    ∙ ap (λ xs. senders_of objects kinds (n ∷ []) ++ xs) (known ∙ ap (λ o. senders_of objects kinds (chain_from f o)) up)
    ∙ next_senders objects f kinds n (sym (ap (is_open_above f) is) ∙ takes)
    ∙ ap (λ o. senders_of objects kinds (chain_from f o)) (sym is)
come_up (Err e) new old objects f kinds n parent above is takes up known h = tt

-- ---- lists

pub next_passes : (t : List ℕ → Bool) (xs : List (List ℕ)) (i : ℕ) (x : List ℕ) → i < length xs → x ≡ get_or xs i x → list_all t (drop i xs) ≡ true → (t x ≡ true) × (list_all t (drop (i + 1) xs) ≡ true)
next_passes t xs i x within is all =
    and_parts (t x) (list_all t (drop (i + 1) xs)) (sym (at_drop_more (list_all t) xs i x within ∙ ap (λ y. t y && list_all t (drop (i + 1) xs)) (sym is)) ∙ all)

pub all_open : (f : Forest) (n : List ℕ) (xs : List (List ℕ)) → xs ≡ open_below f n → list_all (is_open f) xs ≡ true
all_open f n xs are = ap (list_all (is_open f)) are ∙ kept_pass (is_open f) (subtree_of f n)

pub all_live : (f : Forest) (n : List ℕ) (xs : List (List ℕ)) → is_open f n ≡ true → xs ≡ live_below f n → list_all (is_open f) xs ≡ true
all_live f n xs takes are = all_open f n xs (are ∙ sym (open_below_live f n takes))
