use Rattle.std.proofs.Common.{◌≡◌, refl, ap, ◌∙◌, subst, map, true}
use Rattle.std.specs.Prelude.{string_bytes}
use Rattle.std.proofs.lemmas.Result.{IfOk-weaker}
use Rattle.clap.specs.Words.{App, FailsBy, fault_of, is_simple, is_simple_and_free, subcommand_of}
use Rattle.hx_words.specs.Words.{hnc}
use Rattle.hx_words.proofs.grammar.parsed.Goals as goal

is_free : is_simple_and_free hnc ≡ true
is_free = refl

is_plain : is_simple hnc ≡ true
is_plain = refl

pub returns-clause-fails : goal.returns-clause-fails
returns-clause-fails c =
    let words = map string_bytes c.args.words.now in
    let app = c.in_ok-hnc.ensures.app in
    subst (λ (a : App). FailsBy (fault_of a words) c.try_get_matches_from.result) app (c.try_get_matches_from.ensures.kinds (ap is_simple_and_free app ∙ is_free))

pub returns-clause-matches : goal.returns-clause-matches
returns-clause-matches c =
    let words = map string_bytes c.args.words.now in
    let app = c.in_ok-hnc.ensures.app in
    IfOk-weaker c.try_get_matches_from.result _ _ (λ m h. (h (ap is_simple app ∙ is_plain)).1 ∙ ap (λ (a : App). subcommand_of a words) app) c.try_get_matches_from.ensures.matches
