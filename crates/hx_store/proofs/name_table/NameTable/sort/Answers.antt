use Rattle.std.proofs.Common.{◌≤◌, length, subst, sym, arith, ◌∙◌, true≢false}
use Rattle.std.proofs.lemmas.List.{take_all}
use Rattle.std.specs.Map.{keys_of}
use Rattle.hx_store.specs.Least.{Descends}
use Rattle.hx_store.proofs.Shown.{distinct_shown, same_in_order}
use Rattle.hx_store.proofs.name_table.NameTable.sort.Goals as goal

pub returns-in-Ok-clause-name_table : goal.returns-in-Ok-clause-name_table
returns-in-Ok-clause-name_table c =
    let fs = c.sort.new.places.keys in
    let shown = c.args.self.now.shown in
    let all : length fs ≤ shown = omega (arith, c.sort.ensures.len, c.len.ensures.len, c.if-self-len.false) in
    λ _. (distinct_shown shown fs c.sort.ensures.distinct, λ _. subst (λ l. Descends (keys_of l)) (sym (take_all shown fs all)) c.in-Ok.ensures.descends)

pub returns-in-Ok-clause-places : goal.returns-in-Ok-clause-places
returns-in-Ok-clause-places c =
    let es = c.args.self.now.places.keys in
    let all : length es ≤ c.args.self.now.shown = omega (arith, c.len.ensures.len, c.if-self-len.false) in
    same_in_order c.args.self.now.shown es c.sort.new.places.keys all c.sort.ensures.len c.sort.ensures.places

pub returns-in_default-clause-name_table : goal.returns-in_default-clause-name_table
returns-in_default-clause-name_table c = λ _. (distinct_shown c.args.self.now.shown c.sort.new.places.keys c.sort.ensures.distinct, λ t. absurd (true≢false (sym t ∙ c.if-self.false)))

pub returns-in_default-clause-places : goal.returns-in_default-clause-places
returns-in_default-clause-places c =
    let es = c.args.self.now.places.keys in
    let all : length es ≤ c.args.self.now.shown = omega (arith, c.len.ensures.len, c.if-self-len.false) in
    same_in_order c.args.self.now.shown es c.sort.new.places.keys all c.sort.ensures.len c.sort.ensures.places
