-- What httparse answers of a front, and the head that its lines are.
use Rattle.std.proofs.Common.{◌≡◌, ◌≤◌, ℕ, List, [], ◌++◌, None, Some, refl, sym, ap, ◌∙◌, length, drop, arith, append-nil}
use Rattle.std.specs.declared.option.Option.{Option}
use Rattle.std.specs.declared.result.Result.{Result}
use Rattle.std.proofs.lemmas.List.{take_all}
use Rattle.httparse.specs.declared.Status.{Status}
use Rattle.httparse.specs.declared.Error.{Error}
use Rattle.httparse.specs.Outcome.{IsCompleteAnd}
use Rattle.httparse.specs.Grammar.{print_request, ReadsRequest, RequestHead}
use Rattle.httparse.specs.Spans.{IsRequestOf, FindsRequest}
use Rattle.httparse.specs.declared.spans.HeaderSpan.{HeaderSpan}
use Rattle.httparse.specs.declared.spans.RequestSpans.{RequestSpans}
use Rattle.hx_http.specs.Fronts.{Front, front_of, IsFront}
use Rattle.hx_http.specs.Heads.{Head, head_of, parts_of}
use Rattle.hx_http.specs.Inside.{head_by}
use Rattle.hx_http.specs.Laws.{LawOfHeads}
use Rattle.hx_http.proofs.Printing.{front-head, head-read, head_lines}
use Rattle.hx_http.proofs.Reading.{head-printed}

abbrev front_lines : Option Front → List (List ℕ)
front_lines None = []
front_lines (Some front) = front.lines

pub complete-read : (front : List ℕ) (headers : List HeaderSpan) (r : RequestSpans) → IsRequestOf front headers r → (lines : List (List ℕ)) → IsFront front lines → head_of lines ≡ Some (head_by front headers r)
complete-read front headers r of lines is =
    let h = of.0 in
    let at = of.1 in
    let found = front-head h (drop r.len front) at.reads.0 in
    let whole : front_of front ≡ Some (record { length = length (print_request h); lines = head_lines h }) = ap front_of at.reads.1 ∙ found in
    let same : lines ≡ head_lines h = ap front_lines (sym is ∙ whole) in
    let shows : parts_of h ≡ head_by front headers r = λ i. record { method = sym at.method i; target = sym at.path i; minor = sym at.version i; fields = sym at.fields i } in
    ap head_of same ∙ head-read h at.reads.0 ∙ ap (λ (p : Head). Some p) shows

pub unfinished-read : (front : List ℕ) (room : ℕ) (headers : List HeaderSpan) (result : Result (Status RequestSpans) Error) → FindsRequest front room headers result → room ≡ 64
    → ((P : RequestSpans → Type 0) → IsCompleteAnd result P → ⊥) → (lines : List (List ℕ)) → IsFront front lines → length lines ≤ 65 → head_of lines ≡ None
unfinished-read front room headers result finds is_room none lines is few = by_head (head_of lines) refl
  where
    by_head : (found : Option Head) → head_of lines ≡ found → head_of lines ≡ None
    by_head None e = e
    by_head (Some head) e =
        let printed = head-printed front (record { length = length front; lines = lines }) head is e in
        let reads : front ≡ print_request printed.tree ++ [] = sym (take_all (length front) front (omega arith)) ∙ printed.prints ∙ sym (append-nil (print_request printed.tree)) in
        let fits : length printed.tree.fields ≤ room = omega (arith, printed.many, few, is_room) in
        absurd (none _ (finds printed.tree [] (printed.is_head, reads) fits))

-- ---- the grammar

pub law_of_heads : LawOfHeads
law_of_heads bytes lines head is = (there, back)
  where
    there : head_of lines ≡ Some head → (h : RequestHead) × ReadsRequest bytes h [] × (parts_of h ≡ head)
    there e =
        let printed = head-printed bytes (record { length = length bytes; lines = lines }) head is e in
        let reads : bytes ≡ print_request printed.tree ++ [] = sym (take_all (length bytes) bytes (omega arith)) ∙ printed.prints ∙ sym (append-nil (print_request printed.tree)) in
        (printed.tree, (printed.is_head, reads), printed.shows)

    back : (h : RequestHead) × ReadsRequest bytes h [] × (parts_of h ≡ head) → head_of lines ≡ Some head
    back found =
        let h = found.0 in
        let reads = found.1 in
        let whole : front_of bytes ≡ Some (record { length = length (print_request h); lines = head_lines h }) = ap front_of reads.1 ∙ front-head h [] reads.0 in
        let same : lines ≡ head_lines h = ap front_lines (sym is ∙ whole) in
        ap head_of same ∙ head-read h reads.0 ∙ ap (λ (p : Head). Some p) found.2
