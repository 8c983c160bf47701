-- What the words of the command line ask for. The first is a subcommand, and these stand behind it, in any order and each at most once:
--     run         --db PATH, --excluded-namespace NAMES, --allow-skip, --events
--     serve       those of run, --listen ADDRESS, which has to stand, --sessions 1 to 16, --workers 0 to 16, --links 1 to 1000000
--     tree        --db PATH, --excluded-namespace NAMES
--     describe    NAMESPACE, which has to stand, --db PATH, --excluded-namespace NAMES
--     quota       --db PATH
--     audit       --db PATH, --excluded-namespace NAMES
--     gen         NUMBER 0 to 2147483647 and COUNT 1 to 2048, which have to stand
-- The words are those behind the program's own name.
--     hnc                 the command, as the crate `clap` reads it
--     names_in value      the names that a value joins by commas
--     command_of words    what the words ask for, where they are taken
--     run_of words        the same, where it is a run of a script
--     serving_of words    the same, where it serves messages
--     number_in least most value       the number that a value says, within bounds
--     reading_of words    the same, where it only reads what is stored
--     making_of words     the same, where it makes a cluster
--     fault_told kind     how an error of `clap` is told
use Rattle.std.specs.Prelude.{ℕ, Bool, true, false, ◌&&◌, ◌==◌, nat_le, List, [], ◌∷◌, slice_index, codes, Option, Some, None, option_and_then, option_map, unwrap_or, if◌then◌else◌}
use Rattle.std.specs.List.{list_all, slice_split}
use Rattle.std.specs.Str.{bytes_eq}
use Rattle.std.specs.Str.Parse.{digits_value, without_leading_plus}
use Rattle.clap.specs.ValueTests.{is_unsigned_in}
use Rattle.clap.specs.declared.builder.value_parser.ValueParser.TheVariants.{Unsigned}
use Rattle.clap.specs.Words.{App, Kinds, Row, Rule, Text, fault_of, first_of, new_app, new_rule, subcommand_of, with_rule, with_subcommand}
use Rattle.clap.specs.declared.builder.action.ArgAction.TheVariants.{SetTrue}
use Rattle.clap.specs.declared.error.kind.ErrorKind.{ErrorKind}
use Rattle.clap.specs.declared.error.kind.ErrorKind.TheVariants.{OutOfMemory}
use Rattle.hx_object.specs.Names.{is_dns_label}
use Rattle.hx_model.specs.declared.config.RunConfig.{RunConfig}
use Rattle.hx_words.specs.declared.command.Command.{Command}
use Rattle.hx_words.specs.declared.command.Report.TheVariants.{Tree, Describe, Quota, Audit}
use Rattle.hx_words.specs.declared.command.Task.{Task}
use Rattle.hx_words.specs.declared.command.Task.TheVariants.{Run, Serve, Print, Generate}
use Rattle.hx_words.specs.declared.WordsFault.{WordsFault}
use Rattle.hx_words.specs.declared.WordsFault.TheVariants.{Usage, NoMemory}

-- ---- the command

-- an option with a value
abbrev pub text_option : Text → Rule
text_option name = record (new_rule name) { long = Some name }

-- an option with a value, which has to stand
abbrev pub required_option : Text → Rule
required_option name = record (text_option name) { required = true }

-- an option whose value is a number within bounds, and one that stands for it where it isn't given
abbrev pub number_option : Text → ℕ → ℕ → Text → Rule
number_option name least most usual = record (text_option name) { parser = Some (Unsigned least most); defaults = usual ∷ [] }

-- an option without a value
abbrev pub flag : Text → Rule
flag name = record (new_rule name) { long = Some name; action = Some SetTrue }

-- a value that has to stand, without an option before it
abbrev pub positional : Text → Rule
positional name = record (new_rule name) { required = true }

-- a number within bounds that has to stand, without an option before it
abbrev pub number : Text → ℕ → ℕ → Rule
number name least most = record (positional name) { parser = Some (Unsigned least most) }

-- a subcommand that reads what is stored
abbrev pub stored : Text → App
stored name = with_rule (new_app name) (text_option (codes "db"))

-- the same, with the namespaces that take no part
abbrev pub in_trees : Text → App
in_trees name = with_rule (stored name) (text_option (codes "excluded-namespace"))

-- a subcommand that changes what is stored
abbrev pub running : Text → App
running name = with_rule (with_rule (in_trees name) (flag (codes "allow-skip"))) (flag (codes "events"))

-- the subcommand that serves, with its address
abbrev pub listening : App
listening = with_rule (running (codes "serve")) (required_option (codes "listen"))

abbrev pub serve : App
serve = with_rule (with_rule (with_rule listening (number_option (codes "sessions") 1 16 (codes "4"))) (number_option (codes "workers") 0 16 (codes "2"))) (number_option (codes "links") 1 1000000 (codes "1000000"))

abbrev pub describe : App
describe = with_rule (in_trees (codes "describe")) (positional (codes "namespace"))

-- the subcommand that makes a cluster, with its two numbers
abbrev pub generate : App
generate = with_rule (with_rule (new_app (codes "gen")) (number (codes "number") 0 2147483647)) (number (codes "count") 1 2048)

-- the program: it has to be given a subcommand, and has no help
abbrev pub program : App
program = let a = new_app (codes "hnc") in record a {
  top = record a.top {
    no_binary_name = true;
    subcommand_required = true;
    disable_help_flag = true;
    disable_help_subcommand = true;
  };
}

-- the program with the subcommands that change what is stored
abbrev pub changing : App
changing = with_subcommand (with_subcommand program (running (codes "run")).top) serve.top

-- the program with the subcommands on trees
abbrev pub trees : App
trees = with_subcommand (with_subcommand changing (in_trees (codes "tree")).top) describe.top

-- the program with the subcommands that change or read what is stored
abbrev pub reading : App
reading = with_subcommand (with_subcommand trees (stored (codes "quota")).top) (in_trees (codes "audit")).top

-- the program with all its subcommands
abbrev pub hnc : App
hnc = with_subcommand reading generate.top

-- ---- what is asked for

abbrev comma : ℕ
comma = slice_index (codes ",") 0

-- what stands between the commas
abbrev pub parts_of : Text → List Text
parts_of value = slice_split (λ byte. byte == comma) value

-- the names that a value joins by commas. The empty value has none
abbrev pub names_in : Text → List Text
names_in [] = []
names_in (byte ∷ value) = parts_of (byte ∷ value)

-- the value of an option, and the empty text where it isn't given. `clap` gives an option without a value the value `true` where it is given, and else `false`
abbrev pub value_of : List Row → Text → Text
value_of rows name = unwrap_or (first_of name rows) []

-- what the options say of the configuration, where the excluded names are DNS labels
abbrev pub config_of : List Row → Option RunConfig
config_of rows =
    let names = names_in (value_of rows (codes "excluded-namespace")) in
    let config : RunConfig = record { excluded = names; allow_skip = bytes_eq (value_of rows (codes "allow-skip")) (codes "true") } in
    if list_all is_dns_label names then Some config else None

-- the options ask that events be printed
abbrev pub has_events : List Row → Bool
has_events rows = bytes_eq (value_of rows (codes "events")) (codes "true")

-- to describe a namespace, where its name is a DNS label
abbrev pub description_of : Text → Option Task
description_of name = if is_dns_label name then Some (Print (Describe name)) else None

-- the number that a value says, within bounds, as `clap` reads numbers: a plus may stand before the digits
abbrev pub number_in : ℕ → ℕ → Text → Option ℕ
number_in least most value = if is_unsigned_in least most value then Some (digits_value 10 (without_leading_plus value)) else None

-- a number, where it lies within bounds
abbrev pub if_within : ℕ → ℕ → ℕ → Option ℕ
if_within least most number = if nat_le least number && nat_le number most then Some number else None

-- to serve at an address, so many links at a time and in all, beside so many workers
abbrev pub serving_by : Text → Option ℕ → Option ℕ → Option ℕ → Option Task
serving_by listen (Some sessions) (Some workers) (Some links) = Some (Serve (record { listen = listen; sessions = sessions; workers = workers; links = links }))
serving_by listen _ _ _ = None

-- to serve, as the options say
abbrev pub serving_in : List Row → Option Task
serving_in rows = serving_by (value_of rows (codes "listen")) (number_in 1 16 (value_of rows (codes "sessions"))) (number_in 0 16 (value_of rows (codes "workers"))) (number_in 1 1000000 (value_of rows (codes "links")))

-- to make a cluster of so many namespaces, whose parents are drawn from a number
abbrev pub workload_by : Option ℕ → Option ℕ → Option Task
workload_by (Some number) (Some count) = Some (Generate (record { number = number; count = count }))
workload_by _ _ = None

-- to make a cluster, as the numbers say
abbrev pub workload_in : List Row → Option Task
workload_in rows = workload_by (number_in 0 2147483647 (value_of rows (codes "number"))) (number_in 1 2048 (value_of rows (codes "count")))

-- the task of a subcommand that prints a report
abbrev pub printing_of : Text → List Row → Option Task
printing_of name rows =
    if bytes_eq name (codes "tree") then Some (Print Tree) else (
    if bytes_eq name (codes "describe") then description_of (value_of rows (codes "namespace")) else (
    if bytes_eq name (codes "quota") then Some (Print Quota) else (
    if bytes_eq name (codes "audit") then Some (Print Audit) else None)))

-- the task that a subcommand names
abbrev pub task_of : Text → List Row → Option Task
task_of name rows =
    if bytes_eq name (codes "run") then Some Run else (
    if bytes_eq name (codes "serve") then serving_in rows else (
    if bytes_eq name (codes "gen") then workload_in rows else printing_of name rows))

-- what a subcommand and its options ask for
abbrev pub asked_by : Text → List Row → Option Command
asked_by name rows = option_and_then (λ (task : Task). option_map (λ (config : RunConfig). record { task = task; db = value_of rows (codes "db"); config = config; events = has_events rows }) (config_of rows)) (task_of name rows)

-- what is asked for, where there is no fault
abbrev pub without_fault : Kinds → Option Command → Option Command
without_fault [] asked = asked
without_fault (fault ∷ faults) asked = None

-- what the words ask for: what their subcommand and its options do, where `clap` has no fault in the words
unfoldable pub command_of : List Text → Option Command
command_of words = without_fault (fault_of hnc words) (option_and_then (λ sub. asked_by sub.0 sub.1) (subcommand_of hnc words))

-- ---- runs, servings, readings and makings

-- a task that answers a script
abbrev pub is_run : Task → Bool
is_run Run = true
is_run _ = false

-- a task that answers messages
abbrev pub is_serving : Task → Bool
is_serving (Serve serving) = true
is_serving _ = false

-- a task that only reads what is stored
abbrev pub is_reading : Task → Bool
is_reading (Print report) = true
is_reading _ = false

-- a task that makes a cluster
abbrev pub is_making : Task → Bool
is_making (Generate workload) = true
is_making _ = false

-- what is asked for, where its task is such a one
abbrev pub asked_if : (Task → Bool) → Option Command → Option Command
asked_if is asked = option_and_then (λ (command : Command). if is command.task then Some command else None) asked

-- what the words ask for, where it is a run of a script
abbrev pub run_of : List Text → Option Command
run_of words = asked_if is_run (command_of words)

-- what the words ask for, where it serves messages
abbrev pub serving_of : List Text → Option Command
serving_of words = asked_if is_serving (command_of words)

-- what the words ask for, where it only reads what is stored
abbrev pub reading_of : List Text → Option Command
reading_of words = asked_if is_reading (command_of words)

-- what the words ask for, where it makes a cluster
abbrev pub making_of : List Text → Option Command
making_of words = asked_if is_making (command_of words)

-- ---- faults

-- how an error of `clap` is told: all but want of memory lies in the words
abbrev pub fault_told : ErrorKind → WordsFault
fault_told OutOfMemory = NoMemory
fault_told _ = Usage
