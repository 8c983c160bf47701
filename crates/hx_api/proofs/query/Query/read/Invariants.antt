use Rattle.std.proofs.Common.{◌≡◌, map}
use Rattle.std.specs.Option.{option_or}
use Rattle.form_urlencoded.specs.Parse.{pairs_left}
use Rattle.hx_api.specs.Inside.{fields_said, kept_text, over, said_by, selector_said}
use Rattle.hx_api.specs.Queries.{parameters_of, text_pair}
use Rattle.hx_api.proofs.query.Query.read.Given as goal

-- what the pairs so far say, and behind it what those to come say
abbrev pub invariant-loop-pair : goal.invariant-loop-pair
invariant-loop-pair l =
    let later = map text_pair (pairs_left l.pair-iterator) in
    (said_by (parameters_of l.query) ≡ over l.said (said_by later)) × (selector_said (parameters_of l.query) ≡ option_or (kept_text l.selector) (selector_said later))
    × (fields_said (parameters_of l.query) ≡ option_or (kept_text l.fields) (fields_said later))
