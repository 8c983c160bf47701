-- Exactly the keys that want a write are marked.
--     among_filter     a key among those that pass
--     wanting_waits    the keys that want a write, of the namespaces
--     marked_alone     where they are marked, and nothing else was, exactly they wait
--     none_held, none_again    and no worker holds anything
use Rattle.std.proofs.Common.{◌≡◌, Bool, true, false, cond, ◌&&◌, ◌||◌, Option, Some, None, List, [], ◌∷◌, filter, refl, sym, ap, ◌∙◌, true≢false}
use Rattle.std.specs.Prelude.{is_some, not}
use Rattle.std.specs.List.{list_any}
use Rattle.hx_object.specs.declared.object.Object.{Object}
use Rattle.hx_model.specs.Hands.{is_held}
use Rattle.hx_model.specs.Keys.{same_key, is_among}
use Rattle.hx_model.specs.Machine.{wants}
use Rattle.hx_model.specs.State.{State}
use Rattle.hx_model.specs.Tree.{forest_of}
use Rattle.hx_model.specs.Wanted.{wanted_write}
use Rattle.hx_model.specs.declared.key.Key.{Key}
use Rattle.hx_model.specs.declared.key.Write.{Write}
use Rattle.hx_marks.specs.Law.{known_of}
use Rattle.hx_marks.proofs.Among.{same_key_is, same_key_itself, among_append}
use Rattle.hx_queue.specs.Workers.{WorkersView, IsMarkedBy, no_work}
use Rattle.hx_briefs.specs.Wants.{namespaces, wanting_of, wanting_in}
use Rattle.hx_briefs.proofs.Wanting.{known_listed}

and_none : (a : Bool) → (a && false) ≡ false
and_none true = refl
and_none false = refl

and_all : (a : Bool) → (a && true) ≡ a
and_all true = refl
and_all false = refl

both_or : (p a b : Bool) → ((p && a) || (p && b)) ≡ (p && (a || b))
both_or true a b = refl
both_or false a b = refl

-- ---- keys that pass

-- a key passes with the ones that are like it
like : (k x : Key) (p : Key → Bool) (rest b q : Bool) → same_key k x ≡ b → p x ≡ q → cond q (b || (p k && rest)) (p k && rest) ≡ (p k && (b || rest))
like k x p rest false true is passes = refl
like k x p rest false false is passes = refl
like k x p rest true true is passes = sym (ap (λ b. b && true) (ap p (same_key_is k x is) ∙ passes))
like k x p rest true false is passes = let out = ap p (same_key_is k x is) ∙ passes in ap (λ b. b && rest) out ∙ sym (ap (λ b. b && true) out)

step : (k x : Key) (kept : List Key) (there q : Bool) → is_among k kept ≡ there → is_among k (cond q (x ∷ kept) kept) ≡ cond q (same_key k x || there) there
step k x kept there true rest = ap (λ b. same_key k x || b) rest
step k x kept there false rest = rest

pub among_filter : (k : Key) (p : Key → Bool) (xs : List Key) → is_among k (filter p xs) ≡ (p k && is_among k xs)
among_filter k p [] = sym (and_none (p k))
among_filter k p (x ∷ xs) = step k x (filter p xs) (p k && is_among k xs) (p x) (among_filter k p xs) ∙ like k x p (is_among k xs) (same_key k x) (p x) refl refl

among_wanting : (s : State) (k : Key) (xs : List Object) → is_among k (wanting_in s xs) ≡ (wants s k && list_any (λ (x : Object). is_among k (known_of s.objects (forest_of s) x.id.name)) xs)
among_wanting s k [] = sym (and_none (wants s k))
among_wanting s k (x ∷ xs) =
    among_append k (wanting_of s x.id.name) (wanting_in s xs)
    ∙ (λ i. among_filter k (wants s) (known_of s.objects (forest_of s) x.id.name) i || among_wanting s k xs i)
    ∙ both_or (wants s k) (is_among k (known_of s.objects (forest_of s) x.id.name)) (list_any (λ (y : Object). is_among k (known_of s.objects (forest_of s) y.id.name)) xs)

pub wanting_waits : (s : State) (k : Key) → is_among k (wanting_in s (namespaces s.objects)) ≡ wants s k
wanting_waits s k = among_wanting s k (namespaces s.objects) ∙ by (wanted_write s k) refl
  where
    known : Bool
    known = list_any (λ (x : Object). is_among k (known_of s.objects (forest_of s) x.id.name)) (namespaces s.objects)

    by : (o : Option Write) → wanted_write s k ≡ o → (is_some o && known) ≡ is_some o
    by None is = refl
    by (Some write) is = known_listed s k (λ none. true≢false (ap is_some (sym is ∙ none)))

-- ---- marks

-- where no key is among some, there are none
none_there : (keys : List Key) → ((k : Key) → is_among k keys ≡ false) → keys ≡ []
none_there [] none = refl
none_there (k ∷ keys) none = absurd (true≢false (sym (ap (λ b. b || is_among k keys) (same_key_itself k)) ∙ none k))

module _ (keys : List Key) (old new : WorkersView) (fresh : old ≡ no_work) (m : IsMarkedBy keys old new) where
  pub marked_alone : (s : State) → keys ≡ wanting_in s (namespaces s.objects) → (k : Key) → is_among k new.waiting ≡ wants s k
  marked_alone s are k =
      m.waiting k
      ∙ ap (λ (v : WorkersView). is_among k v.waiting || (is_among k keys && not (is_held k v.hands))) fresh
      ∙ and_all (is_among k keys)
      ∙ ap (is_among k) are
      ∙ wanting_waits s k

  pub none_held : new.hands ≡ []
  none_held = m.hands ∙ ap (λ (v : WorkersView). v.hands) fresh

  pub none_again : new.again ≡ []
  none_again = none_there new.again (λ k.
      m.again k
      ∙ ap (λ (v : WorkersView). is_among k v.again || (is_among k keys && is_held k v.hands)) fresh
      ∙ and_none (is_among k keys))
