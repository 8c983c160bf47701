-- What events make of watchers, call by call.
use Rattle.std.proofs.Common.{◌≡◌, ℕ, zero, suc, ◌+◌, ◌<◌, Bool, true, false, true≢false, List, [], ◌∷◌, ◌++◌, length, take, drop, Option, Some, None, refl, sym, ap, subst, ◌∙◌, arith, add-one, append-nil, append_assoc, get_or, slice_set}
use Rattle.std.specs.Option.{option_map}
use Rattle.hx_model.specs.declared.event.Event.{Event}
use Rattle.hx_watch.specs.Watching.{WatcherView, MemberView, Members, with_received, Refuses, Follows, HasFollowed, HaveFollowed, FollowNone, FollowInParts}

none-more : (told : Option (List Event)) → option_map (λ all. all ++ []) told ≡ told
none-more None = refl
none-more (Some all) = ap Some (append-nil all)

received-none : (w : WatcherView) → with_received w [] ≡ w
received-none w = ap (λ told. record w { received = told }) (none-more w.received)

more-more : (es fs : List Event) (told : Option (List Event)) → option_map (λ all. all ++ fs) (option_map (λ all. all ++ es) told) ≡ option_map (λ all. all ++ (es ++ fs)) told
more-more es fs None = refl
more-more es fs (Some all) = ap Some (append_assoc all es fs)

received-both : (es fs : List Event) (w : WatcherView) → with_received (with_received w es) fs ≡ with_received w (es ++ fs)
received-both es fs w = ap (λ told. record w { received = told }) (more-more es fs w.received)

follow-none : (gone : Bool) (w : WatcherView) → Follows gone gone [] w w
follow-none true w = (refl, refl)
follow-none false w = sym (received-none w)

pub follow-nothing : FollowNone
follow-nothing [] = tt
follow-nothing (m ∷ members) = (follow-none m.gone m.shown, follow-nothing members)

-- one watcher, by whether it was set aside before, between and after
follow-both : (before between after : Bool) (es fs : List Event) (old then new : WatcherView) → Follows before between es old then → Follows between after fs then new → Follows before after (es ++ fs) old new
follow-both true true after es fs old then new one two = (two.0, two.1 ∙ one.1)
follow-both true false after es fs old then new one two = absurd (true≢false (sym one.0))
follow-both false true true es fs old then new one two =
    record {
      front = one.front;
      refused = one.refused;
      others = one.others ++ fs;
      are = ap (λ l. l ++ fs) one.are ∙ append_assoc one.front (one.refused ∷ one.others) fs;
      refuses = subst (Refuses (with_received old one.front)) (sym two.1) one.refuses;
    }
follow-both false true false es fs old then new one two = absurd (true≢false (sym two.0))
follow-both false false true es fs old then new one two =
    record {
      front = es ++ two.front;
      refused = two.refused;
      others = two.others;
      are = ap (λ l. es ++ l) two.are ∙ sym (append_assoc es two.front (two.refused ∷ two.others));
      refuses = subst (λ w. Refuses w new) (ap (λ w. with_received w two.front) one ∙ received-both es two.front old) two.refuses;
    }
follow-both false false false es fs old then new one two = two ∙ ap (λ w. with_received w fs) one ∙ received-both es fs old

pub follow-in-parts : FollowInParts
follow-in-parts es fs [] [] [] one two = tt
follow-in-parts es fs [] [] (c ∷ new) one two = absurd two
follow-in-parts es fs [] (b ∷ then) new one two = absurd one
follow-in-parts es fs (a ∷ old) [] new one two = absurd one
follow-in-parts es fs (a ∷ old) (b ∷ then) [] one two = absurd two
follow-in-parts es fs (a ∷ old) (b ∷ then) (c ∷ new) one two = (follow-both a.gone b.gone c.gone es fs a.shown b.shown c.shown one.0 two.0, follow-in-parts es fs old then new one.1 two.1)

-- a watcher that wasn't set aside refuses an event
pub set-aside : (event : Event) (old new : MemberView) → old.gone ≡ false → new.gone ≡ true → Refuses old.shown new.shown → HasFollowed (event ∷ []) old new
set-aside event old new there gone refuses =
    rw (there, gone) (record {
      front = [];
      refused = event;
      others = [];
      are = refl;
      refuses = subst (λ w. Refuses w new.shown) (sym (received-none old.shown)) refuses;
    })

one-more : (members : Members) → suc (length members) ≡ 0 → ⊥
one-more members e = omega (arith, e)

-- where a watcher at a place is told of events that those before it were told of
tell-next : (events : List Event) (old now : Members) (i : ℕ) (d told : MemberView) → i < length now → HasFollowed events (get_or now i d) told
    → HaveFollowed events (take i old) (take i now) → drop i now ≡ drop i old
    → HaveFollowed events (take (suc i) old) (take (suc i) (slice_set now i told)) × (drop (suc i) (slice_set now i told) ≡ drop (suc i) old)
tell-next events old [] i d told within follows before rest = absurd (omega (arith, within))
tell-next events [] (n ∷ now) zero d told within follows before rest = absurd (one-more now (ap length rest))
tell-next events [] (n ∷ now) (suc i) d told within follows before rest = absurd before
tell-next events (o ∷ old) (n ∷ now) zero d told within follows before rest =
    ((subst (λ (a : MemberView). HasFollowed events a told) (ap (λ l. get_or l 0 d) rest) follows, tt), ap (drop 1) rest)
tell-next events (o ∷ old) (n ∷ now) (suc i) d told within follows before rest =
    let next = tell-next events old now i d told (omega (arith, within)) follows before.1 rest in
    ((before.0, next.0), next.1)

pub told-next : (events : List Event) (old now : Members) (i : ℕ) (d told : MemberView) → i < length now → HasFollowed events (get_or now i d) told
    → HaveFollowed events (take i old) (take i now) → drop i now ≡ drop i old
    → HaveFollowed events (take (i + 1) old) (take (i + 1) (slice_set now i told)) × (drop (i + 1) (slice_set now i told) ≡ drop (i + 1) old)
told-next events old now i d told within follows before rest = rw (add-one i) (tell-next events old now i d told within follows before rest)
