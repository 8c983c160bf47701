-- The words of the command line on examples.
use Rattle.std.proofs.Common.{◌≡◌, List, Bool, true, false, [], ◌∷◌, Option, Some, None, codes, refl}
use Rattle.hx_object.specs.Names.{is_dns_label}
use Rattle.clap.proofs.OnLiterals.{clap_on_literals}
use Rattle.clap.specs.Words.{Text}
use Rattle.hx_words.specs.declared.command.Command.{Command}
use Rattle.hx_words.specs.declared.command.Report.TheVariants.{Tree, Describe, Quota, Audit}
use Rattle.hx_words.specs.declared.command.Task.{Task}
use Rattle.hx_words.specs.declared.command.Task.TheVariants.{Run, Serve, Print, Generate}
use Rattle.hx_words.specs.Words.{command_of, run_of, reading_of, making_of}

-- a command that is asked for
asking_for : Task → Text → List Text → Bool → Option Command
asking_for task db names allow_skip = Some (record { task = task; db = db; config = record { excluded = names; allow_skip = allow_skip }; events = false })

-- one whose events are to be printed
printing : Task → Text → Bool → Option Command
printing task db allow_skip = Some (record { task = task; db = db; config = record { excluded = []; allow_skip = allow_skip }; events = true })

-- a run that is asked for
asking : Text → List Text → Bool → Option Command
asking = asking_for Run

-- words that aren't taken
refused : List Text → Type 0
refused words = command_of words ≡ None

plain : command_of (codes "run" ∷ []) ≡ asking [] [] false
unfolding command_of asking_for asking clap_on_literals
plain = refl

skipping : command_of (codes "run" ∷ codes "--allow-skip" ∷ []) ≡ asking [] [] true
unfolding command_of asking_for asking clap_on_literals
skipping = refl

stored : command_of (codes "run" ∷ codes "--db" ∷ codes "a b" ∷ []) ≡ asking (codes "a b") [] false
unfolding command_of asking_for asking clap_on_literals
stored = refl

in_memory : command_of (codes "run" ∷ codes "--db" ∷ [] ∷ []) ≡ asking [] [] false
unfolding command_of asking_for asking clap_on_literals
in_memory = refl

excluded : command_of (codes "run" ∷ codes "--excluded-namespace" ∷ codes "a,b" ∷ []) ≡ asking [] (codes "a" ∷ codes "b" ∷ []) false
unfolding command_of asking_for asking clap_on_literals is_dns_label
excluded = refl

no_names : command_of (codes "run" ∷ codes "--excluded-namespace" ∷ [] ∷ []) ≡ asking [] [] false
unfolding command_of asking_for asking clap_on_literals
no_names = refl

all : command_of (codes "run" ∷ codes "--db" ∷ codes "a" ∷ codes "--excluded-namespace" ∷ codes "b" ∷ codes "--allow-skip" ∷ []) ≡ asking (codes "a") (codes "b" ∷ []) true
unfolding command_of asking_for asking clap_on_literals is_dns_label
all = refl

other_order : command_of (codes "run" ∷ codes "--allow-skip" ∷ codes "--excluded-namespace" ∷ codes "b" ∷ codes "--db" ∷ codes "a" ∷ []) ≡ asking (codes "a") (codes "b" ∷ []) true
unfolding command_of asking_for asking clap_on_literals is_dns_label
other_order = refl

attached : command_of (codes "run" ∷ codes "--db=-a=" ∷ codes "--excluded-namespace=b" ∷ []) ≡ asking (codes "-a=") (codes "b" ∷ []) false
unfolding command_of asking_for asking clap_on_literals is_dns_label
attached = refl

attached_empty : command_of (codes "run" ∷ codes "--db=" ∷ []) ≡ asking [] [] false
unfolding command_of asking_for asking clap_on_literals
attached_empty = refl

-- a word of two dashes says that no option follows
dashes : command_of (codes "run" ∷ codes "--" ∷ []) ≡ asking [] [] false
unfolding command_of asking_for asking clap_on_literals
dashes = refl

db_twice : refused (codes "run" ∷ codes "--db" ∷ codes "a" ∷ codes "--db" ∷ codes "a" ∷ [])
unfolding refused command_of clap_on_literals
db_twice = refl

skipping_twice : refused (codes "run" ∷ codes "--allow-skip" ∷ codes "--allow-skip" ∷ [])
unfolding refused command_of clap_on_literals
skipping_twice = refl

excluded_twice : refused (codes "run" ∷ codes "--excluded-namespace" ∷ codes "a" ∷ codes "--excluded-namespace=b" ∷ [])
unfolding refused command_of clap_on_literals is_dns_label
excluded_twice = refl

no_label : refused (codes "run" ∷ codes "--excluded-namespace" ∷ codes "A" ∷ [])
unfolding refused command_of clap_on_literals is_dns_label
no_label = refl

empty_name : refused (codes "run" ∷ codes "--excluded-namespace" ∷ codes "a,,b" ∷ [])
unfolding refused command_of clap_on_literals is_dns_label
empty_name = refl

no_value : refused (codes "run" ∷ codes "--db" ∷ [])
unfolding refused command_of clap_on_literals
no_value = refl

-- a word that begins with a dash is no value
option_as_value : refused (codes "run" ∷ codes "--db" ∷ codes "--allow-skip" ∷ [])
unfolding refused command_of clap_on_literals
option_as_value = refl

value_of_flag : refused (codes "run" ∷ codes "--allow-skip=true" ∷ [])
unfolding refused command_of clap_on_literals
value_of_flag = refl

help : refused (codes "--help" ∷ [])
unfolding refused command_of clap_on_literals
help = refl

help_behind_run : refused (codes "run" ∷ codes "--help" ∷ [])
unfolding refused command_of clap_on_literals
help_behind_run = refl

short_help : refused (codes "run" ∷ codes "-h" ∷ [])
unfolding refused command_of clap_on_literals
short_help = refl

help_as_command : refused (codes "help" ∷ [])
unfolding refused command_of clap_on_literals
help_as_command = refl

version : refused (codes "--version" ∷ [])
unfolding refused command_of clap_on_literals
version = refl

no_words : refused []
unfolding refused command_of clap_on_literals
no_words = refl

unknown : refused (codes "check" ∷ [])
unfolding refused command_of clap_on_literals
unknown = refl

option_first : refused (codes "--allow-skip" ∷ codes "run" ∷ [])
unfolding refused command_of clap_on_literals
option_first = refl

part_of_name : refused (codes "run" ∷ codes "--allow" ∷ [])
unfolding refused command_of clap_on_literals
part_of_name = refl

extra : refused (codes "run" ∷ codes "extra" ∷ [])
unfolding refused command_of clap_on_literals
extra = refl

run_twice : refused (codes "run" ∷ codes "run" ∷ [])
unfolding refused command_of clap_on_literals
run_twice = refl

tree : command_of (codes "tree" ∷ codes "--db" ∷ codes "a" ∷ codes "--excluded-namespace" ∷ codes "b,c" ∷ []) ≡ asking_for (Print Tree) (codes "a") (codes "b" ∷ codes "c" ∷ []) false
unfolding command_of asking_for clap_on_literals is_dns_label
tree = refl

describing : command_of (codes "describe" ∷ codes "a" ∷ []) ≡ asking_for (Print (Describe (codes "a"))) [] [] false
unfolding command_of asking_for clap_on_literals is_dns_label
describing = refl

describing_behind_options : command_of (codes "describe" ∷ codes "--db=x" ∷ codes "--excluded-namespace" ∷ codes "b" ∷ codes "a" ∷ []) ≡ asking_for (Print (Describe (codes "a"))) (codes "x") (codes "b" ∷ []) false
unfolding command_of asking_for clap_on_literals is_dns_label
describing_behind_options = refl

describing_before_options : command_of (codes "describe" ∷ codes "a" ∷ codes "--db" ∷ codes "x" ∷ []) ≡ asking_for (Print (Describe (codes "a"))) (codes "x") [] false
unfolding command_of asking_for clap_on_literals is_dns_label
describing_before_options = refl

-- a namespace may have the name of a subcommand
describing_tree : command_of (codes "describe" ∷ codes "tree" ∷ []) ≡ asking_for (Print (Describe (codes "tree"))) [] [] false
unfolding command_of asking_for clap_on_literals is_dns_label
describing_tree = refl

describing_behind_dashes : command_of (codes "describe" ∷ codes "--" ∷ codes "a" ∷ []) ≡ asking_for (Print (Describe (codes "a"))) [] [] false
unfolding command_of asking_for clap_on_literals is_dns_label
describing_behind_dashes = refl

quotas : command_of (codes "quota" ∷ codes "--db" ∷ codes "a" ∷ []) ≡ asking_for (Print Quota) (codes "a") [] false
unfolding command_of asking_for clap_on_literals
quotas = refl

auditing : command_of (codes "audit" ∷ codes "--excluded-namespace=a" ∷ []) ≡ asking_for (Print Audit) [] (codes "a" ∷ []) false
unfolding command_of asking_for clap_on_literals is_dns_label
auditing = refl

nothing_described : refused (codes "describe" ∷ [])
unfolding refused command_of clap_on_literals
nothing_described = refl

nothing_described_behind_options : refused (codes "describe" ∷ codes "--db" ∷ codes "a" ∷ [])
unfolding refused command_of clap_on_literals
nothing_described_behind_options = refl

two_described : refused (codes "describe" ∷ codes "a" ∷ codes "b" ∷ [])
unfolding refused command_of clap_on_literals is_dns_label
two_described = refl

no_label_described : refused (codes "describe" ∷ codes "A" ∷ [])
unfolding refused command_of clap_on_literals is_dns_label
no_label_described = refl

empty_described : refused (codes "describe" ∷ [] ∷ [])
unfolding refused command_of clap_on_literals is_dns_label
empty_described = refl

dashed_described : refused (codes "describe" ∷ codes "--" ∷ codes "-a" ∷ [])
unfolding refused command_of clap_on_literals is_dns_label
dashed_described = refl

tree_of_one : refused (codes "tree" ∷ codes "a" ∷ [])
unfolding refused command_of clap_on_literals
tree_of_one = refl

tree_skipping : refused (codes "tree" ∷ codes "--allow-skip" ∷ [])
unfolding refused command_of clap_on_literals
tree_skipping = refl

quotas_excluding : refused (codes "quota" ∷ codes "--excluded-namespace" ∷ codes "a" ∷ [])
unfolding refused command_of clap_on_literals
quotas_excluding = refl

audit_twice : refused (codes "audit" ∷ codes "--db=a" ∷ codes "--db=a" ∷ [])
unfolding refused command_of clap_on_literals
audit_twice = refl

help_behind_tree : refused (codes "tree" ∷ codes "--help" ∷ [])
unfolding refused command_of clap_on_literals
help_behind_tree = refl

serving : command_of (codes "serve" ∷ codes "--listen" ∷ codes "127.0.0.1:0" ∷ []) ≡ asking_for (Serve (record { listen = codes "127.0.0.1:0"; sessions = 4; workers = 2; links = 1000000 })) [] [] false
unfolding command_of asking_for clap_on_literals
serving = refl

serving_all : command_of (codes "serve" ∷ codes "--links=1" ∷ codes "--workers" ∷ codes "0" ∷ codes "--sessions" ∷ codes "16" ∷ codes "--listen=x" ∷ codes "--db" ∷ codes "a" ∷ codes "--allow-skip" ∷ []) ≡ asking_for (Serve (record { listen = codes "x"; sessions = 16; workers = 0; links = 1 })) (codes "a") [] true
unfolding command_of asking_for clap_on_literals
serving_all = refl

serving_nowhere : refused (codes "serve" ∷ [])
unfolding refused command_of clap_on_literals
serving_nowhere = refl

no_sessions : refused (codes "serve" ∷ codes "--listen=x" ∷ codes "--sessions" ∷ codes "0" ∷ [])
unfolding refused command_of clap_on_literals
no_sessions = refl

many_sessions : refused (codes "serve" ∷ codes "--listen=x" ∷ codes "--sessions" ∷ codes "17" ∷ [])
unfolding refused command_of clap_on_literals
many_sessions = refl

many_workers : refused (codes "serve" ∷ codes "--listen=x" ∷ codes "--workers=17" ∷ [])
unfolding refused command_of clap_on_literals
many_workers = refl

no_number : refused (codes "serve" ∷ codes "--listen=x" ∷ codes "--links" ∷ codes "many" ∷ [])
unfolding refused command_of clap_on_literals
no_number = refl

links_twice : refused (codes "serve" ∷ codes "--listen=x" ∷ codes "--links" ∷ codes "1" ∷ codes "--links" ∷ codes "1" ∷ [])
unfolding refused command_of clap_on_literals
links_twice = refl

running_served : refused (codes "run" ∷ codes "--listen" ∷ codes "x" ∷ [])
unfolding refused command_of clap_on_literals
running_served = refl

making : command_of (codes "gen" ∷ codes "1" ∷ codes "2" ∷ []) ≡ asking_for (Generate (record { number = 1; count = 2 })) [] [] false
unfolding command_of asking_for clap_on_literals
making = refl

making_most : command_of (codes "gen" ∷ codes "2147483647" ∷ codes "2048" ∷ []) ≡ asking_for (Generate (record { number = 2147483647; count = 2048 })) [] [] false
unfolding command_of asking_for clap_on_literals
making_most = refl

making_least : command_of (codes "gen" ∷ codes "--" ∷ codes "0" ∷ codes "1" ∷ []) ≡ asking_for (Generate (record { number = 0; count = 1 })) [] [] false
unfolding command_of asking_for clap_on_literals
making_least = refl

made_of_nothing : refused (codes "gen" ∷ [])
unfolding refused command_of clap_on_literals
made_of_nothing = refl

made_of_one : refused (codes "gen" ∷ codes "1" ∷ [])
unfolding refused command_of clap_on_literals
made_of_one = refl

made_of_three : refused (codes "gen" ∷ codes "1" ∷ codes "2" ∷ codes "3" ∷ [])
unfolding refused command_of clap_on_literals
made_of_three = refl

none_made : refused (codes "gen" ∷ codes "1" ∷ codes "0" ∷ [])
unfolding refused command_of clap_on_literals
none_made = refl

many_made : refused (codes "gen" ∷ codes "1" ∷ codes "2049" ∷ [])
unfolding refused command_of clap_on_literals
many_made = refl

great_number : refused (codes "gen" ∷ codes "2147483648" ∷ codes "1" ∷ [])
unfolding refused command_of clap_on_literals
great_number = refl

no_number_made : refused (codes "gen" ∷ codes "one" ∷ codes "2" ∷ [])
unfolding refused command_of clap_on_literals
no_number_made = refl

made_in_file : refused (codes "gen" ∷ codes "1" ∷ codes "2" ∷ codes "--db" ∷ codes "a" ∷ [])
unfolding refused command_of clap_on_literals
made_in_file = refl

making_excludes : refused (codes "gen" ∷ codes "1" ∷ codes "2" ∷ codes "--excluded-namespace=a" ∷ [])
unfolding refused command_of clap_on_literals
making_excludes = refl

-- ---- events

watched : command_of (codes "run" ∷ codes "--events" ∷ []) ≡ printing Run [] false
unfolding command_of printing clap_on_literals
watched = refl

watched_all : command_of (codes "run" ∷ codes "--events" ∷ codes "--db" ∷ codes "a" ∷ codes "--allow-skip" ∷ []) ≡ printing Run (codes "a") true
unfolding command_of printing clap_on_literals
watched_all = refl

watched_serving : command_of (codes "serve" ∷ codes "--listen=x" ∷ codes "--events" ∷ []) ≡ printing (Serve (record { listen = codes "x"; sessions = 4; workers = 2; links = 1000000 })) [] false
unfolding command_of printing clap_on_literals
watched_serving = refl

watched_twice : refused (codes "run" ∷ codes "--events" ∷ codes "--events" ∷ [])
unfolding refused command_of clap_on_literals
watched_twice = refl

watched_by_a_value : refused (codes "run" ∷ codes "--events=true" ∷ [])
unfolding refused command_of clap_on_literals
watched_by_a_value = refl

watched_tree : refused (codes "tree" ∷ codes "--events" ∷ [])
unfolding refused command_of clap_on_literals
watched_tree = refl

watched_description : refused (codes "describe" ∷ codes "a" ∷ codes "--events" ∷ [])
unfolding refused command_of clap_on_literals
watched_description = refl

watched_quota : refused (codes "quota" ∷ codes "--events" ∷ [])
unfolding refused command_of clap_on_literals
watched_quota = refl

watched_audit : refused (codes "audit" ∷ codes "--events" ∷ [])
unfolding refused command_of clap_on_literals
watched_audit = refl

-- ---- runs and readings

a_run_is_a_run : run_of (codes "run" ∷ []) ≡ asking [] [] false
unfolding command_of asking_for asking clap_on_literals
a_run_is_a_run = refl

a_run_is_no_reading : reading_of (codes "run" ∷ []) ≡ None
unfolding command_of clap_on_literals
a_run_is_no_reading = refl

a_tree_is_no_run : run_of (codes "tree" ∷ []) ≡ None
unfolding command_of clap_on_literals
a_tree_is_no_run = refl

a_tree_is_a_reading : reading_of (codes "tree" ∷ []) ≡ asking_for (Print Tree) [] [] false
unfolding command_of asking_for clap_on_literals
a_tree_is_a_reading = refl

a_making_is_a_making : making_of (codes "gen" ∷ codes "1" ∷ codes "2" ∷ []) ≡ asking_for (Generate (record { number = 1; count = 2 })) [] [] false
unfolding command_of asking_for clap_on_literals
a_making_is_a_making = refl

a_making_is_no_reading : reading_of (codes "gen" ∷ codes "1" ∷ codes "2" ∷ []) ≡ None
unfolding command_of clap_on_literals
a_making_is_no_reading = refl
