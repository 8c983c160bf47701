-- Hands among hands.
--     held_new, held_old   one hand more: it is found, and so are the others
--     gone, stays          without a worker's hand: it has none, and the others have theirs
--     held_by, holds_key   who has a hand of a key holds the key
--     All-more, All-without, All-of     what holds of all hands
use Rattle.std.proofs.Common.{◌≡◌, ℕ, Bool, true, false, cond, not, ◌==◌, ◌||◌, List, [], ◌∷◌, ◌++◌, Option, Some, None, refl, sym, ap, ◌∙◌, subst, true≢false}
use Rattle.std.specs.Prelude.{is_some}
use Rattle.std.specs.List.{AllByRecursion}
use Rattle.std.proofs.lemmas.Bool.{eqb-true, eq-eqb, or_left, or_right}
use Rattle.hx_model.specs.Hands.{Hand, hand_of, is_held, without_hand}
use Rattle.hx_model.specs.Keys.{same_key}
use Rattle.hx_model.specs.declared.key.Key.{Key}
use Rattle.hx_marks.proofs.Among.{same_key_itself}

no_hand : {A : Type 0} (h : Hand) → ◌≡◌ {A = Option Hand} None (Some h) → A
no_hand h e = absurd (true≢false (sym (ap is_some e)))

no_found : {A : Type 0} (h : Hand) → ◌≡◌ {A = Option Hand} (Some h) None → A
no_found h e = absurd (true≢false (ap is_some e))

one_hand : (a b : Hand) → Some a ≡ Some b → a ≡ b
one_hand a b e = cc

-- ---- one hand more

pub held_new : (hands : List Hand) (h : Hand) → hand_of h.worker hands ≡ None → hand_of h.worker (hands ++ h ∷ []) ≡ Some h
held_new [] h none = ap (λ b. cond b (Some h) None) (eq-eqb h.worker h.worker refl)
held_new (x ∷ hands) h none =
    elim (x.worker == h.worker) as (λ b. cond b (Some x) (hand_of h.worker hands) ≡ None → cond b (Some x) (hand_of h.worker (hands ++ h ∷ [])) ≡ Some h) [
      | true ↦ λ found. no_found x found
      | false ↦ λ found. held_new hands h found
    ] none

pub held_old : (worker : ℕ) (hands : List Hand) (h x : Hand) → hand_of worker hands ≡ Some x → hand_of worker (hands ++ h ∷ []) ≡ Some x
held_old worker [] h x found = no_hand x found
held_old worker (y ∷ hands) h x found =
    elim (y.worker == worker) as (λ b. cond b (Some y) (hand_of worker hands) ≡ Some x → cond b (Some y) (hand_of worker (hands ++ h ∷ [])) ≡ Some x) [
      | true ↦ λ here. here
      | false ↦ λ later. held_old worker hands h x later
    ] found

-- ---- one hand less

pub gone : (worker : ℕ) (hands : List Hand) → hand_of worker (without_hand worker hands) ≡ None
gone worker [] = refl
gone worker (x ∷ hands) =
    elim (x.worker == worker) as (λ b. (x.worker == worker) ≡ b → hand_of worker (cond (not b) (x ∷ without_hand worker hands) (without_hand worker hands)) ≡ None) [
      | true ↦ λ same. gone worker hands
      | false ↦ λ other. ap (λ b. cond b (Some x) (hand_of worker (without_hand worker hands))) other ∙ gone worker hands
    ] refl

stays_by : (worker other : ℕ) (hands : List Hand) (x h : Hand) → (other == worker) ≡ false → (a b : Bool) → (x.worker == worker) ≡ a → (x.worker == other) ≡ b → (hand_of other hands ≡ Some h → hand_of other (without_hand worker hands) ≡ Some h)
    → cond b (Some x) (hand_of other hands) ≡ Some h → hand_of other (cond (not a) (x ∷ without_hand worker hands) (without_hand worker hands)) ≡ Some h
stays_by worker other hands x h apart true true same same2 later here = absurd (true≢false (sym same ∙ ap (λ n. n == worker) (eqb-true x.worker other same2) ∙ apart))
stays_by worker other hands x h apart true false same other2 later e = later e
stays_by worker other hands x h apart false true differs same2 later here = ap (λ b. cond b (Some x) (hand_of other (without_hand worker hands))) same2 ∙ here
stays_by worker other hands x h apart false false differs other2 later e = ap (λ b. cond b (Some x) (hand_of other (without_hand worker hands))) other2 ∙ later e

pub stays : (worker other : ℕ) (hands : List Hand) (h : Hand) → (other == worker) ≡ false → hand_of other hands ≡ Some h → hand_of other (without_hand worker hands) ≡ Some h
stays worker other [] h apart found = no_hand h found
stays worker other (x ∷ hands) h apart found = stays_by worker other hands x h apart (x.worker == worker) (x.worker == other) refl refl (λ e. stays worker other hands h apart e) found

-- ---- who holds a key

pub holds_key : (k : Key) (worker : ℕ) (hands : List Hand) (h : Hand) → hand_of worker hands ≡ Some h → same_key k h.key ≡ true → is_held k hands ≡ true
holds_key k worker [] h found same = no_hand h found
holds_key k worker (x ∷ hands) h found same =
    elim (x.worker == worker) as (λ b. cond b (Some x) (hand_of worker hands) ≡ Some h → (same_key k x.key || is_held k hands) ≡ true) [
      | true ↦ λ here. or_left (same_key k x.key) (is_held k hands) (ap (λ (y : Hand). same_key k y.key) (one_hand x h here) ∙ same)
      | false ↦ λ later. or_right (same_key k x.key) (is_held k hands) (holds_key k worker hands h later same)
    ] found

pub held_by : (worker : ℕ) (hands : List Hand) (h : Hand) → hand_of worker hands ≡ Some h → is_held h.key hands ≡ true
held_by worker hands h found = holds_key h.key worker hands h found (same_key_itself h.key)

-- ---- what holds of all

pub All-more : (P : Hand → Type 0) (hands : List Hand) (h : Hand) → AllByRecursion P hands → P h → AllByRecursion P (hands ++ h ∷ [])
All-more P [] h all p = (p, tt)
All-more P (x ∷ hands) h all p = (all.0, All-more P hands h all.1 p)

pub All-without : (P : Hand → Type 0) (worker : ℕ) (hands : List Hand) → AllByRecursion P hands → AllByRecursion P (without_hand worker hands)
All-without P worker [] all = tt
All-without P worker (x ∷ hands) all =
    elim (x.worker == worker) as (λ b. AllByRecursion P (cond (not b) (x ∷ without_hand worker hands) (without_hand worker hands))) [
      | true ↦ All-without P worker hands all.1
      | false ↦ (all.0, All-without P worker hands all.1)
    ]

pub All-of : (P : Hand → Type 0) (worker : ℕ) (hands : List Hand) (h : Hand) → AllByRecursion P hands → hand_of worker hands ≡ Some h → P h
All-of P worker [] h all found = no_hand h found
All-of P worker (x ∷ hands) h all found =
    elim (x.worker == worker) as (λ b. cond b (Some x) (hand_of worker hands) ≡ Some h → P h) [
      | true ↦ λ here. subst P (one_hand x h here) all.0
      | false ↦ λ later. All-of P worker hands h all.1 later
    ] found
