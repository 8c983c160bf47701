-- A loop that tells watchers of events.
--     told_none     nothing was told yet
--     told_next     an event more is told
--     told_all      all are told
use Rattle.std.proofs.Common.{◌≡◌, ◌<◌, ◌≤◌, ◌+◌, ℕ, List, [], ◌∷◌, ◌++◌, sym, ap, subst, ◌∙◌, take, length, slice_index_or}
use Rattle.std.proofs.lemmas.List.{take_more, take_all}
use Rattle.hx_model.specs.declared.event.Event.{Event}
use Rattle.hx_watch.specs.Watching.{Members, HaveFollowed}
use Rattle.hx_watch.proofs.Following.{follow-nothing, follow-in-parts}

pub told_none : (members : Members) → HaveFollowed [] members members
told_none = follow-nothing

pub told_next : (events : List Event) (index : ℕ) (event : Event) (old now next : Members) → index < length events → event ≡ slice_index_or events index event
    → HaveFollowed (take index events) old now → HaveFollowed (event ∷ []) now next → HaveFollowed (take (index + 1) events) old next
told_next events index event old now next less at before told =
    let up_to : take (index + 1) events ≡ take index events ++ event ∷ [] = take_more events index event less ∙ ap (λ e. take index events ++ e ∷ []) (sym at) in
    subst (λ (l : List Event). HaveFollowed l old next) (sym up_to) (follow-in-parts (take index events) (event ∷ []) old now next before told)

pub told_all : (events : List Event) (index : ℕ) (old now : Members) → length events ≤ index → HaveFollowed (take index events) old now → HaveFollowed events old now
told_all events index old now over told = subst (λ (l : List Event). HaveFollowed l old now) (take_all index events over) told
