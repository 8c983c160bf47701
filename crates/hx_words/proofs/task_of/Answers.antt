use Rattle.std.proofs.Common.{rules, ◌≡◌, ◌∙◌, ap, if◌then◌else◌, Bool, false, Some, codes}
use Rattle.std.specs.Str.{bytes_eq}
use Rattle.clap.specs.Words.{found_of, rows_of}
use Rattle.hx_words.specs.Words.{printing_of, serving_in, workload_in}
use Rattle.hx_words.specs.declared.command.Task.TheVariants.{Run}
use Rattle.hx_words.proofs.task_of.Goals as goal

pub returns-in_default-clause-usage : goal.returns-in_default-clause-usage
returns-in_default-clause-usage c =
    let name = c.args.name.now in
    let rows = rows_of (found_of c.args.options.now) in
    let no_run : bytes_eq name (codes "run") ≡ false = search rules in
    let no_serve : bytes_eq name (codes "serve") ≡ false = search rules in
    let no_gen : bytes_eq name (codes "gen") ≡ false = search rules in
    λ usage.
    ap (λ (b : Bool). if b then Some Run else (if bytes_eq name (codes "serve") then serving_in rows else (if bytes_eq name (codes "gen") then workload_in rows else printing_of name rows))) no_run
    ∙ ap (λ (b : Bool). if b then serving_in rows else (if bytes_eq name (codes "gen") then workload_in rows else printing_of name rows)) no_serve
    ∙ ap (λ (b : Bool). if b then workload_in rows else printing_of name rows) no_gen
    ∙ c.printing_of.ensures.usage usage
