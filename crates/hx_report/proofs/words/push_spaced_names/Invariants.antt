use Rattle.std.proofs.Common.{◌≡◌, ◌++◌, drop, string_bytes}
use Rattle.std.specs.List.{flat_map}
use Rattle.hx_report.specs.Words.{spaced}
use Rattle.hx_report.proofs.words.push_spaced_names.Given as goal

-- with the words that are left it is the whole
abbrev pub invariant-loop-word : goal.invariant-loop-word
invariant-loop-word l = string_bytes l.out ++ flat_map spaced (drop l.word-index l.words) ≡ string_bytes l.fn.out ++ flat_map spaced l.words
