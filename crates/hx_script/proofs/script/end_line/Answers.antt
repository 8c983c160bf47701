use Rattle.std.proofs.Common.{◌≡◌, ◌∙◌, length, rules}
use Rattle.std.proofs.lemmas.List.{nil_from_length}
use Rattle.hx_ports.proofs.Writing.{on_err_all}
use Rattle.hx_script.proofs.Running.{Cuts-none}
use Rattle.hx_script.proofs.Pieces.{Does-alone, Does-kept, Cuts-alone, Cuts-kept}
use Rattle.hx_script.proofs.script.end_line.Goals as goal

pub returns-in_err-answer_part-clause-cut : goal.returns-in_err-answer_part-clause-cut
returns-in_err-answer_part-clause-cut g c =
    let few : length c.args.waiting.now.items ≡ 0 = search rules in
    let none = nil_from_length c.args.waiting.now.items few in
    on_err_all _ (Cuts-alone _ c.args.stretch.now _ _ _ _ none c.in_err-answer_part.ensures.cut)

pub returns-then-is_empty-clause-does : goal.returns-then-is_empty-clause-does
returns-then-is_empty-clause-does g c =
    let few : length c.args.waiting.now.items ≡ 0 = search rules in
    let none = nil_from_length c.args.waiting.now.items few in
    Does-alone _ c.args.stretch.now _ _ _ _ none c.in_ok-answer_part.ensures.does

pub returns-in_err-keep-clause-cut : goal.returns-in_err-keep-clause-cut
returns-in_err-keep-clause-cut g c = on_err_all _ (Cuts-none _ _ _)

pub returns-in_err-answer_part-2-clause-cut : goal.returns-in_err-answer_part-2-clause-cut
returns-in_err-answer_part-2-clause-cut g c =
    on_err_all _ (Cuts-kept _ c.as_slice.result.now _ _ _ _ (c.as_slice.ensures.value ∙ c.in_ok-keep.ensures) c.in_err-answer_part-2.ensures.cut)

pub returns-clause-does : goal.returns-clause-does
returns-clause-does g c = Does-kept _ c.as_slice.result.now _ _ _ _ (c.as_slice.ensures.value ∙ c.in_ok-keep.ensures) c.in_ok-answer_part-2.ensures.does
