-- Hubs of watchers of which one refuses, and what isn't told so.
use Rattle.std.proofs.Common.{◌≡◌, ℕ, ◌+◌, List, [], ◌∷◌, true, false, true≢false, Some, refl, sym, ap, arith}
use Rattle.std.specs.Prelude.{length, unwrap_or}
use Rattle.hx_model.specs.declared.event.Event.{Event}
use Rattle.hx_watch.specs.Shown.{is_chosen}
use Rattle.hx_watch.specs.Watching.{WatcherView, MemberView, HasFollowed, HaveFollowed, joined}

-- a watcher that tells that it received these events, and refused so many
abbrev told : List Event → ℕ → WatcherView
told events refusals = record { received = Some events; may_refuse = true; refusals = refusals }

abbrev aside : WatcherView → MemberView
aside w = record { shown = w; gone = true }

-- how many events it tells
abbrev count : WatcherView → ℕ
count w = length (unwrap_or w.received [])

not_one_more : (n : ℕ) → n + 1 ≡ n → ⊥
not_one_more n e = omega (arith, e)

module _ (a b c : Event) where
  -- of three events the watcher in the middle refuses the second: it has the first, and the others have all
  middle_refuses : HaveFollowed (a ∷ b ∷ c ∷ []) (joined (told [] 0) ∷ joined (told [] 0) ∷ joined (told [] 0) ∷ [])
      (joined (told (a ∷ b ∷ c ∷ []) 0) ∷ aside (told (a ∷ []) 1) ∷ joined (told (a ∷ b ∷ c ∷ []) 0) ∷ [])
  middle_refuses = (refl, (record { front = a ∷ []; refused = b; others = c ∷ []; are = refl; refuses = record { may = refl; rose = omega arith; rest = refl } }, (refl, tt)))

  -- none gets an event twice
  not_twice : HasFollowed (a ∷ []) (joined (told [] 0)) (joined (told (a ∷ a ∷ []) 0)) → ⊥
  not_twice same = not_one_more 1 (ap count same)

  -- none misses one that wasn't set aside
  not_missed : HasFollowed (a ∷ []) (joined (told [] 0)) (joined (told [] 0)) → ⊥
  not_missed same = not_one_more 0 (sym (ap count same))

  -- one that was set aside gets no more, and stays so
  not_after : HasFollowed (a ∷ []) (aside (told [] 1)) (aside (told (a ∷ []) 1)) → ⊥
  not_after same = not_one_more 0 (ap count same.1)

  not_back : HasFollowed (a ∷ []) (aside (told [] 1)) (joined (told [] 1)) → ⊥
  not_back same = true≢false (sym same.0)

-- a watcher that refuses from the second event on, and one that refuses none
first_passes : is_chosen (record { refuse = 2; pushes = 0 }) ≡ false
first_passes = refl

second_is_refused : is_chosen (record { refuse = 2; pushes = 1 }) ≡ true
second_is_refused = refl

third_is_refused : is_chosen (record { refuse = 2; pushes = 2 }) ≡ true
third_is_refused = refl

none_is_refused : is_chosen (record { refuse = 0; pushes = 5 }) ≡ false
none_is_refused = refl
