-- The lines of a script piece by piece.
use Rattle.std.proofs.Common.{◌≡◌, ℕ, suc, ◌+◌, ◌-◌, ◌≤◌, ◌<◌, List, [], ◌∷◌, ◌++◌, take, drop, length, refl, sym, ap, subst, ◌∙◌, append_assoc, append-nil, arith, length-append, length-take}
use Rattle.std.specs.Prelude.{◌==◌}
use Rattle.std.specs.declared.option.Option.{Option}
use Rattle.std.specs.List.{slice_split}
use Rattle.std.specs.Io.KnownBytes.{Consumes, IsAtEnd, Keeps}
use Rattle.std.proofs.lemmas.List.{take-append-drop, take_more}
use Rattle.std.proofs.Math.Seq.{drop-cons, take-add}
use Rattle.std.proofs.lemmas.List.Elements.{All-from_recursion}
use Rattle.std.proofs.lemmas.List.Splits.{slice_split_at, slice_split_none}
use Rattle.hx_ports.specs.Pieces.{OfBytes, most_stream_bytes}
use Rattle.hx_ports.proofs.Reading.{Consumes-none, Consumes-then, Consumes-end, Keeps-consumes, left_of, told_whole, told_end, told_none}
use Rattle.hx_core.specs.Refinement.{ClusterView}
use Rattle.hx_script.specs.Lines.{Line, script_lines, asking, lines_of_parts, unended}
use Rattle.hx_script.specs.Running.{Ran, Does, Cuts, HasNoEnd, IsWaiting, IsKept, EndsAt, most_kept, Feeds, CutsPiece, ReadsOn, ReadsFront}
use Rattle.hx_script.proofs.Kept.{asking-cons, asking-kept, script_lines-kept, HasNoEnd-append}
use Rattle.hx_script.proofs.Running.{Ran-none, Ran-more, Does-then, Does-cuts, Cuts-none, Cuts-more}
use Rattle.hx_script.proofs.Unended.{IsKept-start, IsKept-end, IsKept-more, IsKept-then, lines_behind}

-- ---- line feeds

-- a line ends
pub script_lines-end : (part rest : List ℕ) → HasNoEnd part → script_lines (part ++ 10 ∷ rest) ≡ asking part ++ script_lines rest
script_lines-end part rest none =
    ap lines_of_parts (slice_split_at (λ byte. byte == 10) part 10 rest (All-from_recursion _ part none) refl) ∙ asking-cons part (slice_split (λ byte. byte == 10) rest)

-- the script ends
pub script_lines-last : (part : List ℕ) → HasNoEnd part → script_lines part ≡ asking part
script_lines-last part none = ap lines_of_parts (slice_split_none (λ byte. byte == 10) part (All-from_recursion _ part none))

-- ---- a piece

pub Feeds-none : (waiting : List ℕ) (c : ClusterView) (x : Option (List ℕ)) → Feeds waiting [] waiting c c x x
Feeds-none waiting c x = record { lines = []; splits = λ rest. refl; does = Ran-none [] c x }

behind : (old piece more rest : List ℕ) → old ++ ((piece ++ more) ++ rest) ≡ old ++ (piece ++ (more ++ rest))
behind old piece more rest = ap (λ l. old ++ l) (append_assoc piece more rest)

-- a stretch waits, too
Feeds-more : (old piece now stretch : List ℕ) (a b : ClusterView) (x y : Option (List ℕ)) → Feeds old piece now a b x y → Feeds old (piece ++ stretch) (now ++ stretch) a b x y
Feeds-more old piece now stretch a b x y p =
    record {
      lines = p.lines;
      splits = λ rest. ap script_lines (behind old piece stretch rest) ∙ p.splits (stretch ++ rest) ∙ ap (λ l. p.lines ++ script_lines l) (sym (append_assoc now stretch rest));
      does = p.does;
    }

-- what is kept of what waits will do
Feeds-keep : (old piece now : List ℕ) (a b : ClusterView) (x y : Option (List ℕ)) → Feeds old piece now a b x y → HasNoEnd now → Feeds old piece (take most_kept now) a b x y
Feeds-keep old piece now a b x y p none = record { lines = p.lines; splits = λ rest. p.splits rest ∙ ap (λ l. p.lines ++ l) (script_lines-kept now rest none); does = p.does }

-- a line ends
Feeds-end : (old piece now : List ℕ) (a b c : ClusterView) (x y z : Option (List ℕ)) → Feeds old piece now a b x y → HasNoEnd now → Does (asking now) b c y z → Feeds old (piece ++ 10 ∷ []) [] a c x z
Feeds-end old piece now a b c x y z p none more =
    record {
      lines = p.lines ++ asking now;
      splits = λ rest. ap script_lines (behind old piece (10 ∷ []) rest) ∙ p.splits (10 ∷ rest) ∙ ap (λ l. p.lines ++ l) (script_lines-end now rest none) ∙ sym (append_assoc p.lines (asking now) (script_lines rest));
      does = Does-then p.lines (asking now) a b c x y z p.does more;
    }

-- the run was cut short in the line that a piece ends
Cuts-feed : (old piece front tail now : List ℕ) (a b c : ClusterView) (x y z : Option (List ℕ)) → Feeds old front now a b x y → HasNoEnd now → piece ≡ front ++ 10 ∷ tail → Cuts (asking now) b c y z → CutsPiece old piece a c x z
Cuts-feed old piece front tail now a b c x y z p none is cuts rest =
    let lines : script_lines (old ++ (piece ++ rest)) ≡ p.lines ++ (asking now ++ script_lines (tail ++ rest)) =
    ap (λ l. script_lines (old ++ (l ++ rest))) is ∙ ap (λ l. script_lines (old ++ l)) (append_assoc front (10 ∷ tail) rest) ∙ p.splits (10 ∷ (tail ++ rest)) ∙ ap (λ l. p.lines ++ l) (script_lines-end now (tail ++ rest) none) in
    subst (λ ls. Cuts ls a c x z) (sym lines) (Does-cuts p.lines (asking now ++ script_lines (tail ++ rest)) a b c x y z p.does (Cuts-more (asking now) (script_lines (tail ++ rest)) b c y z cuts))

-- nothing more of a piece was taken
Cuts-stop : (old piece front tail now : List ℕ) (a b : ClusterView) (x y : Option (List ℕ)) → Feeds old front now a b x y → piece ≡ front ++ tail → CutsPiece old piece a b x y
Cuts-stop old piece front tail now a b x y p is rest =
    let lines : script_lines (old ++ (piece ++ rest)) ≡ p.lines ++ script_lines (now ++ (tail ++ rest)) =
    ap (λ l. script_lines (old ++ (l ++ rest))) is ∙ ap (λ l. script_lines (old ++ l)) (append_assoc front tail rest) ∙ p.splits (tail ++ rest) in
    subst (λ ls. Cuts ls a b x y) (sym lines) (Does-cuts p.lines (script_lines (now ++ (tail ++ rest))) a b b x y y p.does (Cuts-none _ b y))

-- ---- a piece from a place on

pub add_back : (at end : ℕ) → at + end - at ≡ end
add_back at end = omega arith

-- around a line feed
around : (xs : List ℕ) (end : ℕ) → EndsAt xs end → xs ≡ take end xs ++ 10 ∷ drop (suc end) xs
around xs end p = sym (take-append-drop end xs) ∙ ap (λ l. take end xs ++ l) (drop-cons xs end 0 p.within ∙ ap (λ b. b ∷ drop (suc end) xs) p.is)

split_at : (piece : List ℕ) (at end : ℕ) → EndsAt (drop at piece) end → piece ≡ (take at piece ++ take end (drop at piece)) ++ 10 ∷ drop (suc end) (drop at piece)
split_at piece at end p = sym (take-append-drop at piece) ∙ ap (λ l. take at piece ++ l) (around (drop at piece) end p) ∙ sym (append_assoc (take at piece) (take end (drop at piece)) (10 ∷ drop (suc end) (drop at piece)))

-- what was taken once a line has ended
taken : (piece : List ℕ) (at end : ℕ) → EndsAt (drop at piece) end → take (at + (end + 1)) piece ≡ (take at piece ++ take end (drop at piece)) ++ 10 ∷ []
taken piece at end p =
    take-add at (end + 1) piece ∙ ap (λ l. take at piece ++ l) (take_more (drop at piece) end 0 p.within ∙ ap (λ b. take end (drop at piece) ++ b ∷ []) p.is) ∙ sym (append_assoc (take at piece) (take end (drop at piece)) (10 ∷ []))

-- a line ends behind the place
pub Feeds-line : (old piece now : List ℕ) (at end : ℕ) (a b c : ClusterView) (x y z : Option (List ℕ)) → Feeds old (take at piece) now a b x y → IsWaiting now → EndsAt (drop at piece) end
    → Does (asking (now ++ take end (drop at piece))) b c y z → Feeds old (take (at + (end + 1)) piece) [] a c x z
Feeds-line old piece now at end a b c x y z p waits ends more =
    let stretch = take end (drop at piece) in
    subst (λ l. Feeds old l [] a c x z) (sym (taken piece at end ends))
    (Feeds-end old (take at piece ++ stretch) (now ++ stretch) a b c x y z (Feeds-more old (take at piece) now stretch a b x y p) (HasNoEnd-append now stretch waits.no_end ends.before) more)

-- nothing waits in front of a line
pub Does-alone : (now part : List ℕ) (a b : ClusterView) (x y : Option (List ℕ)) → now ≡ [] → Does (asking part) a b x y → Does (asking (now ++ part)) a b x y
Does-alone now part a b x y none p = subst (λ front. Does (asking (front ++ part)) a b x y) (sym none) p

pub Cuts-alone : (now part : List ℕ) (a b : ClusterView) (x y : Option (List ℕ)) → now ≡ [] → Cuts (asking part) a b x y → Cuts (asking (now ++ part)) a b x y
Cuts-alone now part a b x y none p = subst (λ front. Cuts (asking (front ++ part)) a b x y) (sym none) p

-- what is kept of a line is answered as the line
pub Does-kept : (part kept : List ℕ) (a b : ClusterView) (x y : Option (List ℕ)) → kept ≡ take most_kept part → Does (asking kept) a b x y → Does (asking part) a b x y
Does-kept part kept a b x y is p = subst (λ ls. Does ls a b x y) (ap asking is ∙ asking-kept part) p

pub Cuts-kept : (part kept : List ℕ) (a b : ClusterView) (x y : Option (List ℕ)) → kept ≡ take most_kept part → Cuts (asking kept) a b x y → Cuts (asking part) a b x y
Cuts-kept part kept a b x y is p = subst (λ ls. Cuts ls a b x y) (ap asking is ∙ asking-kept part) p

-- the rest of a piece waits
pub Feeds-rest : (old piece now : List ℕ) (at : ℕ) (a b : ClusterView) (x y : Option (List ℕ)) → Feeds old (take at piece) now a b x y → IsWaiting now → HasNoEnd (drop at piece) → Feeds old piece (take most_kept (now ++ drop at piece)) a b x y
Feeds-rest old piece now at a b x y p waits none =
    subst (λ l. Feeds old l (take most_kept (now ++ drop at piece)) a b x y) (take-append-drop at piece)
    (Feeds-keep old (take at piece ++ drop at piece) (now ++ drop at piece) a b x y (Feeds-more old (take at piece) now (drop at piece) a b x y p) (HasNoEnd-append now (drop at piece) waits.no_end none))

-- the run was cut short in the line that ends behind the place
pub Cuts-line : (old piece now : List ℕ) (at end : ℕ) (a b c : ClusterView) (x y z : Option (List ℕ)) → Feeds old (take at piece) now a b x y → IsWaiting now → EndsAt (drop at piece) end
    → Cuts (asking (now ++ take end (drop at piece))) b c y z → CutsPiece old piece a c x z
Cuts-line old piece now at end a b c x y z p waits ends cuts =
    let stretch = take end (drop at piece) in
    Cuts-feed old piece (take at piece ++ stretch) (drop (suc end) (drop at piece)) (now ++ stretch) a b c x y z
    (Feeds-more old (take at piece) now stretch a b x y p) (HasNoEnd-append now stretch waits.no_end ends.before) (split_at piece at end ends) cuts

-- nothing of the line that ends behind the place is kept
pub IsKept-line : (old piece : List ℕ) (at end : ℕ) → EndsAt (drop at piece) end → IsKept (old ++ take (at + (end + 1)) piece) []
IsKept-line old piece at end ends =
    let line = take at piece ++ take end (drop at piece) in
    subst (λ l. IsKept (old ++ l) []) (sym (taken piece at end ends)) (subst (λ l. IsKept l []) (append_assoc old line (10 ∷ [])) (IsKept-end (old ++ line)))

-- the rest of a piece is kept
pub IsKept-rest : (old piece now : List ℕ) (at : ℕ) → IsKept (old ++ take at piece) now → HasNoEnd (drop at piece) → IsKept (old ++ piece) (take most_kept (now ++ drop at piece))
IsKept-rest old piece now at p none =
    let whole = append_assoc old (take at piece) (drop at piece) ∙ ap (λ l. old ++ l) (take-append-drop at piece) in
    subst (λ l. IsKept l (take most_kept (now ++ drop at piece))) whole (IsKept-more (old ++ take at piece) (drop at piece) now p none)

-- nothing behind the place was taken
pub Cuts-rest : (old piece now : List ℕ) (at : ℕ) (a b : ClusterView) (x y : Option (List ℕ)) → Feeds old (take at piece) now a b x y → CutsPiece old piece a b x y
Cuts-rest old piece now at a b x y p = Cuts-stop old piece (take at piece) (drop at piece) now a b x y p (sym (take-append-drop at piece))

-- ---- the whole script

-- a piece was taken behind what was
Feeds-then : (old piece now more new : List ℕ) (a b c : ClusterView) (x y z : Option (List ℕ)) → Feeds old piece now a b x y → Feeds now more new b c y z → Feeds old (piece ++ more) new a c x z
Feeds-then old piece now more new a b c x y z p q =
    record {
      lines = p.lines ++ q.lines;
      splits = λ rest. ap script_lines (behind old piece more rest) ∙ p.splits (more ++ rest) ∙ ap (λ l. p.lines ++ l) (q.splits rest) ∙ sym (append_assoc p.lines q.lines (script_lines (new ++ rest)));
      does = Does-then p.lines q.lines a b c x y z p.does q.does;
    }

-- the run was cut short in the piece behind what was taken
Cuts-then : (old piece now more : List ℕ) (a b c : ClusterView) (x y z : Option (List ℕ)) → Feeds old piece now a b x y → CutsPiece now more b c y z → CutsPiece old (piece ++ more) a c x z
Cuts-then old piece now more a b c x y z p q rest =
    subst (λ ls. Cuts ls a c x z) (sym (ap script_lines (behind old piece more rest) ∙ p.splits (more ++ rest)))
    (Does-cuts p.lines (script_lines (now ++ (more ++ rest))) a b c x y z p.does (q rest))

-- nothing was read
pub Cuts-unread : (s : Option (List ℕ)) (c : ClusterView) (x : Option (List ℕ)) → OfBytes s (λ script. Cuts (script_lines script) c c x x)
Cuts-unread s c x = (left_of s, told_none s, Cuts-none (script_lines (left_of s)) c x)

pub ReadsOn-start : (s : Option (List ℕ)) (c : ClusterView) (x : Option (List ℕ)) → ReadsOn s s 0 [] c c x x
ReadsOn-start s c x = record { bytes = []; read = Consumes-none s; many = refl; kept = IsKept-start [] (record { no_end = tt; few = omega arith }); feeds = Feeds-none [] c x }

-- the next piece was read and taken
pub ReadsOn-feed : (s l l' : Option (List ℕ)) (into waiting waiting' : List ℕ) (total n : ℕ) (a b c : ClusterView) (x y z : Option (List ℕ)) → ReadsOn s l total waiting a b x y → n ≤ length into → Consumes l l' (take n into)
    → IsKept (waiting ++ take n into) waiting' → Feeds waiting (take n into) waiting' b c y z → ReadsOn s l' (total + n) waiting' a c x z
ReadsOn-feed s l l' into waiting waiting' total n a b c x y z on within read kept feeds =
    let piece = take n into in
    record {
      bytes = on.bytes ++ piece;
      read = Consumes-then s l l' on.bytes piece on.read read;
      many = omega (arith, on.many, length-append on.bytes piece, length-take n into);
      kept = IsKept-then on.bytes piece waiting waiting' on.kept kept;
      feeds = Feeds-then [] on.bytes waiting piece waiting' a b c x y z on.feeds feeds;
    }

-- the lines of all that was read, once nothing is left
lines_read : (bytes waiting : List ℕ) (lines : List Line) → ((rest : List ℕ) → script_lines (bytes ++ rest) ≡ lines ++ script_lines (waiting ++ rest)) → HasNoEnd waiting → script_lines bytes ≡ lines ++ asking waiting
lines_read bytes waiting lines splits none =
    ap script_lines (sym (append-nil bytes)) ∙ splits [] ∙ ap (λ l. lines ++ script_lines l) (append-nil waiting) ∙ ap (λ l. lines ++ l) (script_lines-last waiting none)

pub ReadsOn-end : (s l l' : Option (List ℕ)) (waiting : List ℕ) (total : ℕ) (a b c : ClusterView) (x y z : Option (List ℕ)) → ReadsOn s l total waiting a b x y → Consumes l l' [] → IsAtEnd l' → total ≤ most_stream_bytes → HasNoEnd waiting → Does (asking waiting) b c y z
    → OfBytes s (λ script. (length script ≤ most_stream_bytes) × Does (script_lines script) a c x z)
ReadsOn-end s l l' waiting total a b c x y z on read end few none last = (
  on.bytes,
  told_end s l' on.bytes (Consumes-end s l l' on.bytes on.read read) end,
  (omega (arith, on.many, few), subst (λ ls. Does ls a c x z) (sym (lines_read on.bytes waiting on.feeds.lines on.feeds.splits none)) (Does-then on.feeds.lines (asking waiting) a b c x y z on.feeds.does last)),
)

pub ReadsOn-cut_last : (s l l' : Option (List ℕ)) (waiting : List ℕ) (total : ℕ) (a b c : ClusterView) (x y z : Option (List ℕ)) → ReadsOn s l total waiting a b x y → Consumes l l' [] → IsAtEnd l' → HasNoEnd waiting → Cuts (asking waiting) b c y z
    → OfBytes s (λ script. Cuts (script_lines script) a c x z)
ReadsOn-cut_last s l l' waiting total a b c x y z on read end none last = (
  on.bytes,
  told_end s l' on.bytes (Consumes-end s l l' on.bytes on.read read) end,
  subst (λ ls. Cuts ls a c x z) (sym (lines_read on.bytes waiting on.feeds.lines on.feeds.splits none)) (Does-cuts on.feeds.lines (asking waiting) a b c x y z on.feeds.does last),
)

-- the run was cut short in the next piece
pub ReadsOn-cut : (s l l' : Option (List ℕ)) (piece waiting : List ℕ) (total : ℕ) (a b c : ClusterView) (x y z : Option (List ℕ)) → ReadsOn s l total waiting a b x y → Consumes l l' piece → CutsPiece waiting piece b c y z
    → OfBytes s (λ script. Cuts (script_lines script) a c x z)
ReadsOn-cut s l l' piece waiting total a b c x y z on read cuts = (
  (on.bytes ++ piece) ++ left_of l',
  told_whole s l' (on.bytes ++ piece) (Consumes-then s l l' on.bytes piece on.read read),
  Cuts-then [] on.bytes waiting piece a b c x y z on.feeds cuts (left_of l'),
)

-- the next piece was not read, or was not taken
Cuts-front : (bytes waiting rest : List ℕ) (a b : ClusterView) (x y : Option (List ℕ)) → Feeds [] bytes waiting a b x y → Cuts (script_lines (bytes ++ rest)) a b x y
Cuts-front bytes waiting rest a b x y p = subst (λ ls. Cuts ls a b x y) (sym (p.splits rest)) (Does-cuts p.lines (script_lines (waiting ++ rest)) a b b x y y p.does (Cuts-none (script_lines (waiting ++ rest)) b y))

pub ReadsOn-fault : (s l l' : Option (List ℕ)) (waiting : List ℕ) (total : ℕ) (a b : ClusterView) (x y : Option (List ℕ)) → ReadsOn s l total waiting a b x y → Keeps l l' → OfBytes s (λ script. Cuts (script_lines script) a b x y)
ReadsOn-fault s l l' waiting total a b x y on kept = (
  on.bytes ++ left_of l',
  told_whole s l' on.bytes (Keeps-consumes s l l' on.bytes on.read kept),
  Cuts-front on.bytes waiting (left_of l') a b x y on.feeds,
)

-- each line that ended in what was read before was answered
pub ReadsOn-front : (s l l' : Option (List ℕ)) (waiting : List ℕ) (total : ℕ) (a b : ClusterView) (x y : Option (List ℕ)) → ReadsOn s l total waiting a b x y → Keeps l l' → ReadsFront s l' a b x y
ReadsOn-front s l l' waiting total a b x y on kept =
    let rest : List ℕ → List Line = λ more. script_lines (unended on.bytes ++ more) in
    record {
      bytes = on.bytes;
      read = Keeps-consumes s l l' on.bytes on.read kept;
      ran = λ more. subst (λ ls. Ran ls (rest more) [] a b x y) (sym (on.feeds.splits more ∙ ap (λ ls. on.feeds.lines ++ ls) (lines_behind on.bytes more waiting on.kept))) (Ran-more on.feeds.lines [] (rest more) [] a b x y on.feeds.does);
    }

-- with the next piece the script is too long
pub ReadsOn-long : (s l l' : Option (List ℕ)) (into waiting : List ℕ) (total n : ℕ) (a b : ClusterView) (x y : Option (List ℕ)) → ReadsOn s l total waiting a b x y → n ≤ length into → Consumes l l' (take n into) → most_stream_bytes < total + n
    → OfBytes s (λ script. (most_stream_bytes < length script) × Cuts (script_lines script) a b x y)
ReadsOn-long s l l' into waiting total n a b x y on within read long =
    let piece = take n into in (
      (on.bytes ++ piece) ++ left_of l',
      told_whole s l' (on.bytes ++ piece) (Consumes-then s l l' on.bytes piece on.read read),
      (
        omega (arith, on.many, long, length-append (on.bytes ++ piece) (left_of l'), length-append on.bytes piece, length-take n into),
        subst (λ bs. Cuts (script_lines bs) a b x y) (sym (append_assoc on.bytes piece (left_of l'))) (Cuts-front on.bytes waiting (piece ++ left_of l') a b x y on.feeds),
      ),
    )
