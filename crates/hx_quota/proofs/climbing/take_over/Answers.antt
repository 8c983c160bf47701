use Rattle.std.proofs.Common.{◌≡◌, ℕ, List, true, replicate, ap, sym, subst, ◌∙◌}
use Rattle.hx_model.specs.Forest.{is_in, is_there, parent_of}
use Rattle.hx_model.specs.Moves.{chain_from}
use Rattle.hx_quota.specs.Counters.{Entry, tree_of}
use Rattle.hx_quota.specs.Inside.{place_at, entries_from, entries_in, ordered, MayAdjust, IsAdjusted, ends_up}
use Rattle.hx_quota.specs.Anew.{chain_at, name_from, named}
use Rattle.hx_quota.proofs.Ended.{ends_parent, ends_chain}
use Rattle.hx_quota.proofs.Reached.{at_index, no_sums_at, there_at}
use Rattle.hx_quota.proofs.Taken.{may_take, may_give, sums_taken}
use Rattle.hx_quota.proofs.UsedSums.{in_tree}
use Rattle.hx_quota.proofs.climbing.take_over.Goals as goal

pub returns-in_default-clause-sums : goal.returns-in_default-clause-sums
returns-in_default-clause-sums c =
    let old = c.args.places.now.entries in
    absurd (no_sums_at old c.args.at (sym c.in_default.is ∙ c.sums_at.ensures) c.requires.within)

pub adjust_up-requires-clause-ends : goal.adjust_up-requires-clause-ends
adjust_up-requires-clause-ends c =
    let old = c.args.places.now.entries in
    let es = entries_in old in
    let f = tree_of (ordered old) in
    let n = named es c.args.at in
    let there : is_there f n ≡ true = in_tree (ordered old) n ∙ there_at old c.args.at c.requires.within in
    let mine = at_index old c.parent_index-from.ensures.distinct c.args.at c.requires.within c.in-Some.sums (sym c.in-Some.is ∙ c.sums_at.ensures) in
    λ q mem. ends_chain f (parent_of f n) (ends_parent f n c.requires.ended) q (ap (is_in q) (sym (c.parent_index-from.ensures.chain ∙ mine.3)) ∙ mem)

pub adjust_up-requires-clause-may : goal.adjust_up-requires-clause-may
adjust_up-requires-clause-may c =
    let old = c.args.places.now.entries in
    let es = entries_in old in
    let n = named es c.args.at in
    let there : is_there (tree_of (ordered old)) n ≡ true = in_tree (ordered old) n ∙ there_at old c.args.at c.requires.within in
    let mine = at_index old c.parent_index-from.ensures.distinct c.args.at c.requires.within c.in-Some.sums (sym c.in-Some.is ∙ c.sums_at.ensures) in
    λ q x mem found. subst (λ (s : List ℕ). MayAdjust s (replicate 15 0) x.sums) mine.2
    (may_take old n (name_from es c.args.up) there c.requires.ended c.requires.ends c.requires.open c.requires.fits c.requires.summed mine.0 mine.1 q x (ap (is_in q) (sym (c.parent_index-from.ensures.chain ∙ mine.3)) ∙ mem) found)

pub adjust_up-requires-2-clause-ends : goal.adjust_up-requires-2-clause-ends
adjust_up-requires-2-clause-ends c =
    let old = c.args.places.now.entries in
    let es = entries_in old in
    let f = tree_of (ordered old) in
    let over = ap (λ (xs : List (List ℕ × Entry)). chain_at xs c.args.up) c.adjust_up.ensures.entries in
    λ q mem. subst (λ (xs : List (List ℕ × Entry)). ends_up (tree_of (entries_from xs)) q ≡ true) (sym c.adjust_up.ensures.entries) (ends_chain f (name_from es c.args.up) c.requires.ends q (ap (is_in q) (sym over) ∙ mem))

pub adjust_up-requires-2-clause-may : goal.adjust_up-requires-2-clause-may
adjust_up-requires-2-clause-may c =
    let old = c.args.places.now.entries in
    let mid = c.adjust_up.new.places.entries in
    let es = entries_in old in
    let f = tree_of (ordered old) in
    let n = named es c.args.at in
    let none = replicate 15 0 in
    let sums = c.in-Some.sums in
    let there : is_there f n ≡ true = in_tree (ordered old) n ∙ there_at old c.args.at c.requires.within in
    let mine = at_index old c.parent_index-from.ensures.distinct c.args.at c.requires.within sums (sym c.in-Some.is ∙ c.sums_at.ensures) in
    let off = subst (λ (s : List ℕ). (q : List ℕ) → IsAdjusted s none (is_in q (chain_from f (parent_of f n))) (place_at old q) (place_at mid q)) (sym mine.2)
    (subst (λ (ns : List (List ℕ)). (q : List ℕ) → IsAdjusted sums none (is_in q ns) (place_at old q) (place_at mid q)) (c.parent_index-from.ensures.chain ∙ mine.3) c.adjust_up.ensures.sums) in
    let over = ap (λ (xs : List (List ℕ × Entry)). chain_at xs c.args.up) c.adjust_up.ensures.entries in
    λ q x mem found. subst (λ (s : List ℕ). MayAdjust none s x.sums) mine.2
    (may_give old n (name_from es c.args.up) there c.requires.ended c.requires.ends c.requires.open c.requires.fits c.requires.summed mine.0 mine.1 mid off q x (ap (is_in q) (sym over) ∙ mem) found)

pub returns-clause-sums : goal.returns-clause-sums
returns-clause-sums c =
    let old = c.args.places.now.entries in
    let mid = c.adjust_up.new.places.entries in
    let new = c.adjust_up-2.new.places.entries in
    let es = entries_in old in
    let f = tree_of (ordered old) in
    let n = named es c.args.at in
    let none = replicate 15 0 in
    let sums = c.in-Some.sums in
    let there : is_there f n ≡ true = in_tree (ordered old) n ∙ there_at old c.args.at c.requires.within in
    let mine = at_index old c.parent_index-from.ensures.distinct c.args.at c.requires.within sums (sym c.in-Some.is ∙ c.sums_at.ensures) in
    let off = subst (λ (s : List ℕ). (q : List ℕ) → IsAdjusted s none (is_in q (chain_from f (parent_of f n))) (place_at old q) (place_at mid q)) (sym mine.2)
    (subst (λ (ns : List (List ℕ)). (q : List ℕ) → IsAdjusted sums none (is_in q ns) (place_at old q) (place_at mid q)) (c.parent_index-from.ensures.chain ∙ mine.3) c.adjust_up.ensures.sums) in
    let over = ap (λ (xs : List (List ℕ × Entry)). chain_at xs c.args.up) c.adjust_up.ensures.entries in
    let on = subst (λ (s : List ℕ). (q : List ℕ) → IsAdjusted none s (is_in q (chain_from f (name_from es c.args.up))) (place_at mid q) (place_at new q)) (sym mine.2)
    (subst (λ (ns : List (List ℕ)). (q : List ℕ) → IsAdjusted none sums (is_in q ns) (place_at mid q) (place_at new q)) over c.adjust_up-2.ensures.sums) in
    sums_taken old n (name_from es c.args.up) there c.requires.ended c.requires.ends c.requires.open c.requires.fits c.requires.summed mine.0 mine.1 mid off new on

pub returns-clause-rings : goal.returns-clause-rings
returns-clause-rings c = c.adjust_up-2.ensures.rings ∙ c.adjust_up.ensures.rings
