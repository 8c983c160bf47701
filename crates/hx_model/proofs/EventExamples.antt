-- Events of small runs: what is told of them, and since which versions.
use Rattle.std.proofs.Common.{◌≡◌, ℕ, false, List, [], ◌∷◌, None, codes, refl}
use Rattle.std.specs.Fmt.{digits}
use Rattle.hx_object.specs.declared.kind.Kind.TheVariants.{ConfigMap}
use Rattle.hx_object.specs.declared.object.Object.{Object}
use Rattle.hx_object.specs.declared.object.Payload.TheVariants.{Namespace as NamespaceOf, Plain, Anchor}
use Rattle.hx_model.specs.declared.ask.Answer.TheVariants.{Events as Happened, Refused as Refusing}
use Rattle.hx_model.specs.declared.ask.Ask.TheVariants.{Events as EventsSince}
use Rattle.hx_model.specs.declared.config.RunConfig.{RunConfig}
use Rattle.hx_model.specs.declared.event.Event.{Event}
use Rattle.hx_model.specs.declared.event.What.{What}
use Rattle.hx_model.specs.declared.event.What.TheVariants.{Added, Changed, Removed}
use Rattle.hx_model.specs.declared.key.Write.TheVariants.{Put, Cut}
use Rattle.hx_model.specs.declared.refusal.Refusal.TheVariants.{BadQuery, Expired}
use Rattle.hx_model.specs.Answers.{answer_to, ended}
use Rattle.hx_model.specs.State.{State, events_of, namespace_id, opening_state, restarted, state_after}
use Rattle.hx_model.specs.Subnamespaces.{anchor_id}
use Rattle.hx_model.specs.Limits.{counts}
use Rattle.hx_model.specs.Replies.{message_of, gone_message}

abbrev no_config : RunConfig
no_config = record { excluded = []; allow_skip = false }

abbrev namespace : List ℕ → ℕ → Object
namespace name version = record { id = namespace_id name; labels = []; annotations = []; payload = NamespaceOf false; version = version }

abbrev config : ℕ → Object
config version = record { id = record { kind = ConfigMap; ns = codes "a"; name = codes "c" }; labels = []; annotations = []; payload = Plain [] (record { finished = false; token = false; storage = 0; containers = [] }); version = version }

abbrev event : ℕ → What → Object → Event
event version what x = record { version = version; what = what; object = x }

-- a, and then b
abbrev two : State
two = state_after (state_after (opening_state no_config 0) (Put (namespace (codes "a") 1) ∷ [])) (Put (namespace (codes "b") 2) ∷ [])

since_one : (answer_to two (EventsSince 1)).0 ≡ Happened (event 2 Added (namespace (codes "b") 2) ∷ []) 2
unfolding counts
since_one = refl

since_last : (answer_to two (EventsSince 2)).0 ≡ Happened [] 2
unfolding counts
since_last = refl

since_later : (answer_to two (EventsSince 3)).0 ≡ Refusing (BadQuery (codes "since"))
since_later = refl

-- a new start keeps none
started_again : (answer_to (restarted no_config two) (EventsSince 1)).0 ≡ Refusing (Expired 2)
started_again = refl

started_last : (answer_to (restarted no_config two) (EventsSince 2)).0 ≡ Happened [] 2
unfolding counts
started_last = refl

started_later : (answer_to (restarted no_config two) (EventsSince 3)).0 ≡ Refusing (BadQuery (codes "since"))
started_later = refl

-- a ConfigMap that comes, is changed and goes: it is told as it was stored last, under the version that removed it
abbrev with_config : State
with_config = state_after two (Put (config 3) ∷ [])

comes : events_of two (Put (config 3) ∷ []) ≡ event 3 Added (config 3) ∷ []
comes = refl

changes : events_of with_config (Put (config 4) ∷ []) ≡ event 4 Changed (config 4) ∷ []
changes = refl

goes : events_of with_config (Cut (config 0).id ∷ []) ≡ event 4 Removed (config 4) ∷ []
goes = refl

abbrev anchor : ℕ → Object
anchor version = record { id = anchor_id (codes "a") (codes "b"); labels = []; annotations = []; payload = Anchor None; version = version }

-- with an anchor its namespaces begin to leave: they are told before it
abbrev anchored : State
anchored = state_after two (Put (anchor 3) ∷ [])

in_order : events_of anchored (Cut (anchor_id (codes "a") (codes "b")) ∷ Put (ended 4 (namespace (codes "b") 2)) ∷ [])
    ≡ event 4 Changed (ended 4 (namespace (codes "b") 2)) ∷ event 4 Removed (anchor 4) ∷ []
in_order = refl

gone_up_to : message_of (Expired 2) ≡ codes "events up to version 2 are gone"
unfolding gone_message digits
gone_up_to = refl
