-- What words ask for, by the faults and the rows that `clap` has of them.
use Rattle.std.proofs.Common.{◌≡◌, ◌≢◌, ◌⊎◌, inl, inr, refl, sym, ap, ◌∙◌, List, [], ◌∷◌, Option, Some, None, option_map, Result, Ok, Err}
use Rattle.std.specs.Prelude.{IsErrAnd, IsErrOf, option_and_then}
use Rattle.std.specs.Box.{box_value}
use Rattle.clap.specs.Words.{IsAmong, Kinds, Row, Text, fault_of, found_of, rows_of, subcommand_name_of, subcommand_of, subcommand_rows_of}
use Rattle.clap.specs.declared.parser.matches.ArgMatches.{ArgMatches}
use Rattle.clap.specs.declared.parser.matches.ArgMatches.TheViews.{out-ArgMatches, out-SubCommand}
use Rattle.clap.specs.declared.error.kind.ErrorKind.{ErrorKind}
use Rattle.clap.specs.declared.error.kind.ErrorKind.TheVariants.{OutOfMemory}
use Rattle.hx_words.specs.declared.command.Command.{Command}
use Rattle.hx_words.specs.declared.WordsFault.{WordsFault}
use Rattle.hx_words.specs.declared.WordsFault.TheVariants.{Usage}
use Rattle.hx_words.specs.Words.{asked_by, command_of, fault_told, hnc, without_fault}

taken : (kinds : Kinds) (asked : Option Command) → kinds ≡ [] → without_fault kinds asked ≡ asked
taken kinds asked none = ap (λ (ks : Kinds). without_fault ks asked) none

refused : (kinds : Kinds) (asked : Option Command) → kinds ≢ [] → without_fault kinds asked ≡ None
refused [] asked some = absurd (some refl)
refused (kind ∷ kinds) asked some = refl

mapped : {X A B : Type 0} (f : X → A) (g : X → B) (o : Option X) → option_map f o ≡ option_map (λ (p : A × B). p.0) (option_map (λ x. (f x, g x)) o)
mapped f g None = refl
mapped f g (Some x) = refl

-- the name of a subcommand is the one beside its rows
pub named : (matches : ArgMatches) → subcommand_name_of matches ≡ option_map (λ p. p.0) (subcommand_rows_of matches)
named matches = mapped (λ b. (out-SubCommand (box_value b)).name.now) (λ b. rows_of (found_of (out-SubCommand (box_value b)).matches)) (out-ArgMatches matches).subcommand

-- what a subcommand asks for, by its name and its rows told apart
asked : (sub : Option (Text × List Row)) (name : Text) (rows : List Row) → Some name ≡ option_map (λ p. p.0) sub → Some rows ≡ option_map (λ p. p.1) sub → option_and_then (λ p. asked_by p.0 p.1) sub ≡ asked_by name rows
asked None name rows named there = cc
asked (Some p) name rows named there =
    let same_name : p.0 ≡ name = cc in
    let same_rows : p.1 ≡ rows = cc in
    ap (λ n. asked_by n p.1) same_name ∙ ap (asked_by name) same_rows

-- words without a fault ask for what their subcommand and its rows say
pub command_of-taken : (words : List Text) (sub : Option (Text × List Row)) (name : Text) (rows : List Row) → fault_of hnc words ≡ []
    → sub ≡ subcommand_of hnc words → Some name ≡ option_map (λ p. p.0) sub → Some rows ≡ option_map (λ p. p.1) sub → command_of words ≡ asked_by name rows
unfolding command_of
command_of-taken words sub name rows none is named there =
    taken (fault_of hnc words) _ none ∙ ap (option_and_then (λ p. asked_by p.0 p.1)) (sym is) ∙ asked sub name rows named there

-- words without a fault or a subcommand ask for nothing
pub command_of-none : (words : List Text) (sub : Option (Text × List Row)) → fault_of hnc words ≡ [] → sub ≡ subcommand_of hnc words → None ≡ option_map (λ p. p.1) sub → command_of words ≡ None
unfolding command_of
command_of-none words sub none is there =
    taken (fault_of hnc words) _ none ∙ ap (option_and_then (λ p. asked_by p.0 p.1)) (sym is) ∙ unasked sub there
  where
    unasked : (sub : Option (Text × List Row)) → None ≡ option_map (λ p. p.1) sub → option_and_then (λ p. asked_by p.0 p.1) sub ≡ None
    unasked None there = refl
    unasked (Some p) there = cc

-- a parse whose error lies in the words has a fault
refusal : (kinds : Kinds) (kind : ErrorKind) → (kind ≡ OutOfMemory) ⊎ IsAmong kind kinds → fault_told kind ≡ Usage → kinds ≢ []
refusal [] kind (inl short) told = let told_so : fault_told OutOfMemory ≡ Usage = ap fault_told (sym short) ∙ told in absurd cc
refusal [] kind (inr among) told = absurd among
refusal (k ∷ kinds) kind has told = λ e. cc

pub has_fault : (result : Result Command WordsFault) (kinds : Kinds) (kind : ErrorKind) → IsErrAnd result (λ fault. fault ≡ fault_told kind) → (kind ≡ OutOfMemory) ⊎ IsAmong kind kinds → IsErrOf result Usage → kinds ≢ []
has_fault (Ok command) kinds kind told has is = absurd told
has_fault (Err fault) kinds kind told has is = let usage : fault ≡ Usage = cc in refusal kinds kind has (sym told ∙ usage)

-- words with a fault ask for nothing
pub command_of-refused : (words : List Text) → fault_of hnc words ≢ [] → command_of words ≡ None
unfolding command_of
command_of-refused words some = refused (fault_of hnc words) _ some
