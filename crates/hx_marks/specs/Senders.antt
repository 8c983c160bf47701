-- Which namespaces of a chain send something.
--     sent_kinds objects          the kinds that are propagated
--     sends_kind objects a kind   a namespace sends a source of a kind that is propagated
--     is_sender objects kinds a   one of some kinds
--     senders_of objects kinds names    those of some namespaces that do
use Rattle.std.specs.Prelude.{ℕ, Bool, List, filter}
use Rattle.std.specs.List.{list_any}
use Rattle.hx_object.specs.declared.kind.Kind.{Kind}
use Rattle.hx_object.specs.declared.object.Mode.TheVariants.{Propagate}
use Rattle.hx_model.specs.Moves.{mode_at, copied_kinds}
use Rattle.hx_model.specs.Propagation.{is_propagated}
use Rattle.hx_model.specs.State.{Objects}
use Rattle.hx_marks.specs.Law.{is_sent, listed_in}

-- the kinds that are propagated
abbrev pub sent_kinds : Objects → List Kind
sent_kinds objects = filter (λ kind. is_propagated (mode_at objects kind)) copied_kinds

-- a namespace sends a source of a kind that is propagated
abbrev pub sends_kind : Objects → List ℕ → Kind → Bool
sends_kind objects a kind = list_any (is_sent Propagate) (listed_in objects kind a)

-- one of some kinds
abbrev pub is_sender : Objects → List Kind → List ℕ → Bool
is_sender objects kinds a = list_any (sends_kind objects a) kinds

-- those of some namespaces that do
abbrev pub senders_of : Objects → List Kind → List (List ℕ) → List (List ℕ)
senders_of objects kinds names = filter (is_sender objects kinds) names
