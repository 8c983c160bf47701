-- Lines that are opened and not yet written.
--     pending              the lines that come of those that are opened, the last first
--     pending_all          those of some that stand at one level
--     pending_next         the last of them is the next line, and what stands below it is opened then
--     begun, written       it is so at first;  and after each line, with what was written
--     one_less             each line leaves one less
--     same_lines           who stands where tells all lines
use Rattle.std.proofs.Common.{◌≡◌, ℕ, suc, ◌+◌, ◌-◌, ◌<◌, ◌≤◌, Bool, true, false, cond, List, [], ◌∷◌, ◌++◌, length, map, reverse, refl, sym, ap, ◌∙◌, arith, append_assoc, append-nil}
use Rattle.std.specs.Prelude.{nat_lt}
use Rattle.std.specs.List.{flat_map}
use Rattle.std.proofs.lemmas.Bool.Decides.{nat_tests}
use Rattle.std.proofs.lemmas.List.{reverse-append}
use Rattle.hx_report.specs.Inside.{opened_below}
use Rattle.hx_report.specs.Outline.{line_at, lines_under}
use Rattle.hx_report.specs.declared.outline.Line.{Line}

abbrev Lists : Type 0
Lists = List ℕ → List (List ℕ)

-- the lines that come of those that are opened, the last first
abbrev pub pending : (List ℕ → List (List ℕ)) → ℕ → List Line → List Line
pending below most [] = []
pending below most (line ∷ opened) = pending below most opened ++ lines_under below (most - line.level) line

pending_append : (below : Lists) (most : ℕ) (xs ys : List Line) → pending below most (xs ++ ys) ≡ pending below most ys ++ pending below most xs
pending_append below most [] ys = sym (append-nil (pending below most ys))
pending_append below most (line ∷ xs) ys =
    ap (λ (ls : List Line). ls ++ lines_under below (most - line.level) line) (pending_append below most xs ys)
    ∙ append_assoc (pending below most ys) (pending below most xs) (lines_under below (most - line.level) line)

map_append : (level : ℕ) (xs ys : List (List ℕ)) → map (line_at level) (xs ++ ys) ≡ map (line_at level) xs ++ map (line_at level) ys
map_append level [] ys = refl
map_append level (x ∷ xs) ys = ap (λ ls. line_at level x ∷ ls) (map_append level xs ys)

-- those of some that stand at one level
pub pending_all : (below : Lists) (most level : ℕ) (names : List (List ℕ)) → pending below most (map (line_at level) (reverse names)) ≡ flat_map (lines_under below (most - level)) (map (line_at level) names)
pending_all below most level [] = refl
pending_all below most level (n ∷ names) =
    ap (λ (ns : List (List ℕ)). pending below most (map (line_at level) ns)) (reverse-append (n ∷ []) names)
    ∙ ap (pending below most) (map_append level (reverse names) (n ∷ []))
    ∙ pending_append below most (map (line_at level) (reverse names)) (line_at level n ∷ [])
    ∙ ap (λ ls. lines_under below (most - level) (line_at level n) ++ ls) (pending_all below most level names)

-- the lines of one, by how many levels are left
abbrev Follows : Lists → ℕ → Line → List Line → Type 0
Follows below left line kids = lines_under below left line ≡ line ∷ kids

deeper : (below : Lists) (most : ℕ) (line : Line) → line.level < most → Follows below (most - line.level) line (pending below most (map (line_at (line.level + 1)) (reverse (below line.name))))
deeper below most line lower =
    let one_less : most - line.level ≡ suc (most - (line.level + 1)) = omega arith in
    ap (λ left. lines_under below left line) one_less
    ∙ ap (λ ls. line ∷ ls) (sym (pending_all below most (line.level + 1) (below line.name)))

deepest : (below : Lists) (most : ℕ) (line : Line) → most ≤ line.level → Follows below (most - line.level) line []
deepest below most line over =
    let none : most - line.level ≡ 0 = omega arith in
    ap (λ left. lines_under below left line) none

by_level : (below : Lists) (most : ℕ) (line : Line) (lower : Bool) → nat_lt line.level most ≡ lower → Follows below (most - line.level) line (pending below most (cond lower (map (line_at (line.level + 1)) (reverse (below line.name))) []))
by_level below most line true is = let lt : line.level < most = grind (arith, nat_tests) in deeper below most line lt
by_level below most line false is = let le : most ≤ line.level = grind (arith, nat_tests) in deepest below most line le

-- the last one is the next line, and what stands below it is opened then
pub pending_next : (below : Lists) (most : ℕ) (opened : List Line) (line : Line) → pending below most (opened ++ line ∷ []) ≡ line ∷ pending below most (opened ++ opened_below below most line)
pending_next below most opened line =
    pending_append below most opened (line ∷ [])
    ∙ ap (λ (ls : List Line). ls ++ pending below most opened) (by_level below most line (nat_lt line.level most) refl)
    ∙ ap (λ ls. line ∷ ls) (sym (pending_append below most opened (opened_below below most line)))

-- at first those at level 0 are opened
pub begun : (below : Lists) (most : ℕ) (lines none opened : List Line) (names tops : List (List ℕ)) → lines ≡ [] → none ≡ [] → names ≡ tops → opened ≡ none ++ map (line_at 0) (reverse names) → lines ++ pending below most opened ≡ flat_map (lines_under below most) (map (line_at 0) tops)
begun below most lines none opened names tops no_lines nothing is fresh =
    let steps : most - 0 ≡ most = omega arith in
    ap (λ (ls : List Line). ls ++ pending below most opened) no_lines
    ∙ ap (pending below most) (fresh ∙ ap (λ (ls : List Line). ls ++ map (line_at 0) (reverse names)) nothing)
    ∙ pending_all below most 0 names
    ∙ ap (λ left. flat_map (lines_under below left) (map (line_at 0) names)) steps
    ∙ ap (λ ns. flat_map (lines_under below most) (map (line_at 0) ns)) is

-- what comes of those that were opened begins with the line that is taken
taken : (below : Lists) (most : ℕ) (old rest new : List Line) (line : Line) → old ≡ rest ++ line ∷ [] → new ≡ rest ++ opened_below below most line → pending below most old ≡ line ∷ pending below most new
taken below most old rest new line was now =
    ap (pending below most) was ∙ pending_next below most rest line ∙ ap (λ ls. line ∷ pending below most ls) (sym now)

-- the line that is taken is written
pub written : (below : Lists) (most : ℕ) (old rest new lines more whole : List Line) (line : Line) → old ≡ rest ++ line ∷ [] → new ≡ rest ++ opened_below below most line → more ≡ lines ++ line ∷ [] → lines ++ pending below most old ≡ whole → more ++ pending below most new ≡ whole
written below most old rest new lines more whole line was now pushed so_far =
    ap (λ ls. ls ++ pending below most new) pushed
    ∙ append_assoc lines (line ∷ []) (pending below most new)
    ∙ ap (λ ls. lines ++ ls) (sym (taken below most old rest new line was now))
    ∙ so_far

-- and then one less is left
pub one_less : (below : Lists) (most : ℕ) (old rest new : List Line) (line : Line) → old ≡ rest ++ line ∷ [] → new ≡ rest ++ opened_below below most line → length (pending below most new) < length (pending below most old)
one_less below most old rest new line was now =
    let longer : length (pending below most old) ≡ suc (length (pending below most new)) = ap length (taken below most old rest new line was now) in
    omega (arith, longer)

-- who stands where tells all lines
pub same_lines : (below other : Lists) (most : ℕ) (tops others : List (List ℕ)) → ((q : List ℕ) → below q ≡ other q) → tops ≡ others → flat_map (lines_under below most) (map (line_at 0) tops) ≡ flat_map (lines_under other most) (map (line_at 0) others)
same_lines below other most tops others same is =
    let e : below ≡ other = λ i q. same q i in
    ap (λ (b : Lists). flat_map (lines_under b most) (map (line_at 0) tops)) e
    ∙ ap (λ ns. flat_map (lines_under other most) (map (line_at 0) ns)) is
