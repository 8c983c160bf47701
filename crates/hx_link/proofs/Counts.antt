-- What was read at each end of a link.
use Rattle.std.proofs.Common.{◌≡◌, ◌≤◌, ◌+◌, ℕ, false, List, [], ◌++◌, None, Some, refl, sym, ap, subst, ◌∙◌, append-nil, length, take, arith}
use Rattle.std.specs.declared.option.Option.{Option}
use Rattle.std.specs.Io.KnownBytes.{Consumes, Keeps}
use Rattle.hx_http.specs.Messages.{More, next_of}
use Rattle.hx_http.specs.Streams.{Question, Stream, behind, stream_of}
use Rattle.hx_http.proofs.Streams.{stream_waits}
use Rattle.hx_ports.specs.Pieces.{most_stream_bytes}
use Rattle.hx_link.specs.Exchanges.{Exchange}
use Rattle.hx_link.specs.Running.{Doing, Feeds, Does, HasRead, ReadsOn}
use Rattle.hx_link.specs.Reading.{ReadsFront}
use Rattle.hx_link.proofs.Pieces.{Feeds-none, Reads-fed}

keeps_none : (l l' : Option (List ℕ)) → Keeps l l' → Consumes l l' []
keeps_none None l' kept = tt
keeps_none (Some x) None kept = absurd kept
keeps_none (Some x) (Some y) kept = sym kept

consumes_none : (s : Option (List ℕ)) → Consumes s s []
consumes_none None = tt
consumes_none (Some x) = refl

-- nothing was read
pub count-none : (s : Option (List ℕ)) → HasRead s s (λ count. count ≤ most_stream_bytes)
count-none s = ([], consumes_none s, omega arith)

module _ {V : Type 0} (does : Doing Question V) (none : (s : V) → does s [] s) (more : (a b c : V) (first then : List (Exchange Question)) → does a first b → does b then c → does a (first ++ then) c) where
  -- so many bytes were read, with the next piece
  pub Reads-count : (s l l' : Option (List ℕ)) (into waiting : List ℕ) (total n : ℕ) (a b : V) (x y : Option (List ℕ)) (P : ℕ → Type 0) → ReadsOn does s l total waiting a b x y → n ≤ length into → Consumes l l' (take n into) → P (total + n) → HasRead s l' P
  Reads-count s l l' into waiting total n a b x y P on within read holds =
      let all = Reads-fed does none more s l l' into waiting (waiting ++ take n into) total n a b b x y y on within read (Feeds-none does none more (waiting ++ take n into) b y) in
      (all.bytes, all.read, subst P (sym all.many) holds)

  -- no more were
  pub Reads-count-none : (s l l' : Option (List ℕ)) (waiting : List ℕ) (total : ℕ) (a b : V) (x y : Option (List ℕ)) → ReadsOn does s l total waiting a b x y → Consumes l l' [] → total ≤ most_stream_bytes → HasRead s l' (λ count. count ≤ most_stream_bytes)
  Reads-count-none s l l' waiting total a b x y on read few = Reads-count s l l' [] waiting total 0 a b x y (λ count. count ≤ most_stream_bytes) on (omega arith) read (omega (arith, few))

  -- the read failed
  pub Reads-count-fault : (s l l' : Option (List ℕ)) (waiting : List ℕ) (total : ℕ) (a b : V) (x y : Option (List ℕ)) → ReadsOn does s l total waiting a b x y → Keeps l l' → total ≤ most_stream_bytes → HasRead s l' (λ count. count ≤ most_stream_bytes)
  Reads-count-fault s l l' waiting total a b x y on kept few = Reads-count-none s l l' waiting total a b x y on (keeps_none l l' kept) few

  -- and each message that was whole was answered
  pub Reads-front : (s l l' : Option (List ℕ)) (waiting : List ℕ) (total : ℕ) (a b : V) (x y : Option (List ℕ)) → ReadsOn does s l total waiting a b x y → Keeps l l' → next_of waiting ≡ More → ReadsFront does s l' a b x y
  Reads-front s l l' waiting total a b x y on kept waits =
      let all = Reads-fed does none more s l l' [] waiting waiting total 0 a b b x y y on (omega arith) (keeps_none l l' kept) (subst (λ w. Feeds does w waiting b b y y) (sym (append-nil waiting)) (Feeds-none does none more waiting b y)) in
      let whole : stream_of all.bytes ≡ record { questions = all.feeds.questions ++ []; ends = false; unused = waiting } =
      ap stream_of (sym (append-nil all.bytes)) ∙ all.feeds.splits [] ∙ ap (λ l. behind all.feeds.questions (stream_of l)) (append-nil waiting) ∙ ap (behind all.feeds.questions) (stream_waits waiting waits) in
      let asked : (stream_of all.bytes).questions ≡ all.feeds.questions = ap (λ (t : Stream). t.questions) whole ∙ append-nil all.feeds.questions in
      let left : (stream_of all.bytes).unused ≡ waiting = ap (λ (t : Stream). t.unused) whole in
      record {
        bytes = all.bytes;
        read = all.read;
        does_them = subst (λ qs. Does does qs a b x y) (sym asked) all.feeds.does_them;
        goes_on = λ rest. all.feeds.splits rest ∙ ap (λ qs. behind qs (stream_of (waiting ++ rest))) (sym asked) ∙ ap (λ w. behind (stream_of all.bytes).questions (stream_of (w ++ rest))) (sym left);
      }
