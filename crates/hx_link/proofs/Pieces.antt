-- A stream that is answered message by message.
use Rattle.std.proofs.Common.{◌≡◌, ◌≤◌, ◌+◌, ◌-◌, ℕ, Bool, true, false, List, [], ◌∷◌, ◌++◌, refl, sym, ap, subst, ◌∙◌, inl, inr, append_assoc, append-nil, drop, length, arith, take, length-append, length-take}
use Rattle.std.specs.declared.option.Option.{Option}
use Rattle.std.specs.Io.KnownBytes.{Consumes, IsAtEnd, Keeps}
use Rattle.std.proofs.lemmas.List.{take_rest}
use Rattle.hx_http.specs.Messages.{Message, Next, More, Whole, Refused, next_of}
use Rattle.hx_http.specs.Streams.{Question, Asked, Rejected, Stream, behind, stream_of}
use Rattle.hx_http.specs.declared.fault.HeadFault.{HeadFault}
use Rattle.hx_http.proofs.Streams.{stream_asked, stream_last, stream_refused, stream_waits}
use Rattle.hx_ports.specs.Pieces.{OfBytes}
use Rattle.hx_ports.proofs.Reading.{Consumes-none, Consumes-then, Consumes-end, Keeps-consumes, left_of, told_whole, told_end, told_none}
use Rattle.hx_link.specs.Exchanges.{Exchange}
use Rattle.hx_link.specs.Running.{Doing, Does, Cuts, Feeds, Ends, CutsPiece, ReadsOn, IsClosed, IsCutShort}
use Rattle.hx_link.specs.Inside.{EndsBy}
use Rattle.hx_link.specs.declared.link.LinkEnd.{LinkEnd}
use Rattle.hx_link.specs.declared.link.LinkEnd.TheVariants.{Closed, CutShort}
use Rattle.hx_link.proofs.Running.{Ran-none, Cuts-none, Ran-then, Does-cuts, Cuts-more}

pub behind-behind : (a b : List Question) (s : Stream) → behind a (behind b s) ≡ behind (a ++ b) s
behind-behind a b s = λ i. record { questions = sym (append_assoc a b s.questions) i; ends = s.ends; unused = s.unused }

-- what was found behind a place
pub found-here : (bytes : List ℕ) (at : ℕ) (next : Next) → next ≡ next_of (take (length bytes - at) (drop at bytes)) → next_of (drop at bytes) ≡ next
found-here bytes at next e = ap next_of (sym (take_rest bytes at)) ∙ sym e

module _ {V : Type 0} (does : Doing Question V) (none : (s : V) → does s [] s) (more : (a b c : V) (first then : List (Exchange Question)) → does a first b → does b then c → does a (first ++ then) c) where
  pub Feeds-none : (bytes : List ℕ) (c : V) (x : Option (List ℕ)) → Feeds does bytes bytes c c x x
  Feeds-none bytes c x = record { questions = []; splits = λ rest. refl; does_them = Ran-none does none [] c x }

  -- a message was answered
  pub Feeds-asked : (bytes waiting : List ℕ) (m : Message) (n : ℕ) (a b c : V) (x y z : Option (List ℕ)) → Feeds does bytes waiting a b x y → next_of waiting ≡ Whole m n → m.last ≡ false → Does does (Asked m ∷ []) b c y z
      → Feeds does bytes (drop n waiting) a c x z
  Feeds-asked bytes waiting m n a b c x y z p is on made =
      record {
        questions = p.questions ++ Asked m ∷ [];
        splits = λ rest. p.splits rest ∙ ap (behind p.questions) (stream_asked waiting rest m n is on) ∙ behind-behind p.questions (Asked m ∷ []) (stream_of (drop n waiting ++ rest));
        does_them = Ran-then does more p.questions (Asked m ∷ []) [] [] a b c x y z p.does_them made;
      }

  -- one that ends the link was
  pub Ends-last : (bytes waiting : List ℕ) (m : Message) (n : ℕ) (a b c : V) (x y z : Option (List ℕ)) → Feeds does bytes waiting a b x y → next_of waiting ≡ Whole m n → m.last ≡ true → Does does (Asked m ∷ []) b c y z → Ends does bytes a c x z
  Ends-last bytes waiting m n a b c x y z p is on made =
      record {
        questions = p.questions ++ Asked m ∷ [];
        asks = λ rest. ap (λ (s : Stream). s.questions) (p.splits rest ∙ ap (behind p.questions) (stream_last waiting rest m n is on));
        ends = λ rest. ap (λ (s : Stream). s.ends) (p.splits rest ∙ ap (behind p.questions) (stream_last waiting rest m n is on));
        does_them = Ran-then does more p.questions (Asked m ∷ []) [] [] a b c x y z p.does_them made;
      }

  -- a fault was
  pub Ends-refused : (bytes waiting : List ℕ) (fault : HeadFault) (a b c : V) (x y z : Option (List ℕ)) → Feeds does bytes waiting a b x y → next_of waiting ≡ Refused fault → Does does (Rejected fault ∷ []) b c y z → Ends does bytes a c x z
  Ends-refused bytes waiting fault a b c x y z p is made =
      record {
        questions = p.questions ++ Rejected fault ∷ [];
        asks = λ rest. ap (λ (s : Stream). s.questions) (p.splits rest ∙ ap (behind p.questions) (stream_refused waiting rest fault is));
        ends = λ rest. ap (λ (s : Stream). s.ends) (p.splits rest ∙ ap (behind p.questions) (stream_refused waiting rest fault is));
        does_them = Ran-then does more p.questions (Rejected fault ∷ []) [] [] a b c x y z p.does_them made;
      }

  -- the engine was cut short in a reply
  cut_in : (bytes waiting : List ℕ) (q : Question) (a b c : V) (x y z : Option (List ℕ)) → Feeds does bytes waiting a b x y → ((rest : List ℕ) → (behind_it : List Question) × ((stream_of (waiting ++ rest)).questions ≡ q ∷ behind_it)) → Cuts does (q ∷ []) b c y z → CutsPiece does bytes a c x z
  cut_in bytes waiting q a b c x y z p asks cuts rest =
      let here = asks rest in
      let all : (stream_of (bytes ++ rest)).questions ≡ p.questions ++ (q ∷ here.0) = ap (λ (s : Stream). s.questions) (p.splits rest) ∙ ap (λ l. p.questions ++ l) here.1 in
      subst (λ qs. Cuts does qs a c x z) (sym all) (Does-cuts does more p.questions (q ∷ here.0) a b c x y z p.does_them (Cuts-more does (q ∷ []) here.0 b c y z cuts))

  asks_message : (waiting : List ℕ) (m : Message) (n : ℕ) → next_of waiting ≡ Whole m n → (rest : List ℕ) → (behind_it : List Question) × ((stream_of (waiting ++ rest)).questions ≡ Asked m ∷ behind_it)
  asks_message waiting m n is rest = by_last m.last refl
    where
      by_last : (b : Bool) → m.last ≡ b → (behind_it : List Question) × ((stream_of (waiting ++ rest)).questions ≡ Asked m ∷ behind_it)
      by_last true on = ([], ap (λ (s : Stream). s.questions) (stream_last waiting rest m n is on))
      by_last false on = ((stream_of (drop n waiting ++ rest)).questions, ap (λ (s : Stream). s.questions) (stream_asked waiting rest m n is on))

  pub Cuts-asked : (bytes waiting : List ℕ) (m : Message) (n : ℕ) (a b c : V) (x y z : Option (List ℕ)) → Feeds does bytes waiting a b x y → next_of waiting ≡ Whole m n → Cuts does (Asked m ∷ []) b c y z → CutsPiece does bytes a c x z
  Cuts-asked bytes waiting m n a b c x y z p is cuts = cut_in bytes waiting (Asked m) a b c x y z p (asks_message waiting m n is) cuts

  pub Cuts-refused : (bytes waiting : List ℕ) (fault : HeadFault) (a b c : V) (x y z : Option (List ℕ)) → Feeds does bytes waiting a b x y → next_of waiting ≡ Refused fault → Cuts does (Rejected fault ∷ []) b c y z → CutsPiece does bytes a c x z
  Cuts-refused bytes waiting fault a b c x y z p is cuts = cut_in bytes waiting (Rejected fault) a b c x y z p (λ rest. ([], ap (λ (s : Stream). s.questions) (stream_refused waiting rest fault is))) cuts

  -- more bytes came behind what waits
  pub Feeds-more : (bytes waiting piece : List ℕ) (a b : V) (x y : Option (List ℕ)) → Feeds does bytes waiting a b x y → Feeds does (bytes ++ piece) (waiting ++ piece) a b x y
  Feeds-more bytes waiting piece a b x y p =
      record {
        questions = p.questions;
        splits = λ rest. ap stream_of (append_assoc bytes piece rest) ∙ p.splits (piece ++ rest) ∙ ap (λ l. behind p.questions (stream_of l)) (sym (append_assoc waiting piece rest));
        does_them = p.does_them;
      }

  -- and were answered
  pub Feeds-then : (bytes waiting new : List ℕ) (a b c : V) (x y z : Option (List ℕ)) → Feeds does bytes waiting a b x y → Feeds does waiting new b c y z → Feeds does bytes new a c x z
  Feeds-then bytes waiting new a b c x y z p q =
      record {
        questions = p.questions ++ q.questions;
        splits = λ rest. p.splits rest ∙ ap (behind p.questions) (q.splits rest) ∙ behind-behind p.questions q.questions (stream_of (new ++ rest));
        does_them = Ran-then does more p.questions q.questions [] [] a b c x y z p.does_them q.does_them;
      }

  pub Ends-then : (bytes waiting : List ℕ) (a b c : V) (x y z : Option (List ℕ)) → Feeds does bytes waiting a b x y → Ends does waiting b c y z → Ends does bytes a c x z
  Ends-then bytes waiting a b c x y z p q =
      record {
        questions = p.questions ++ q.questions;
        asks = λ rest. ap (λ (s : Stream). s.questions) (p.splits rest) ∙ ap (λ l. p.questions ++ l) (q.asks rest);
        ends = λ rest. ap (λ (s : Stream). s.ends) (p.splits rest) ∙ q.ends rest;
        does_them = Ran-then does more p.questions q.questions [] [] a b c x y z p.does_them q.does_them;
      }

  pub Cuts-then : (bytes waiting : List ℕ) (a b c : V) (x y z : Option (List ℕ)) → Feeds does bytes waiting a b x y → CutsPiece does waiting b c y z → CutsPiece does bytes a c x z
  Cuts-then bytes waiting a b c x y z p q rest =
      subst (λ qs. Cuts does qs a c x z) (sym (ap (λ (s : Stream). s.questions) (p.splits rest))) (Does-cuts does more p.questions (stream_of (waiting ++ rest)).questions a b c x y z p.does_them (q rest))

  -- nothing more was answered
  pub Cuts-stop : (bytes waiting : List ℕ) (a b : V) (x y : Option (List ℕ)) → Feeds does bytes waiting a b x y → CutsPiece does bytes a b x y
  Cuts-stop bytes waiting a b x y p rest =
      subst (λ qs. Cuts does qs a b x y) (sym (ap (λ (s : Stream). s.questions) (p.splits rest))) (Does-cuts does more p.questions (stream_of (waiting ++ rest)).questions a b b x y y p.does_them (Cuts-none does none (stream_of (waiting ++ rest)).questions b y))

-- ---- all that was read

module _ {V : Type 0} (does : Doing Question V) (none : (s : V) → does s [] s) (more : (a b c : V) (first then : List (Exchange Question)) → does a first b → does b then c → does a (first ++ then) c) where
  pub Reads-start : (s : Option (List ℕ)) (c : V) (x : Option (List ℕ)) → ReadsOn does s s 0 [] c c x x
  Reads-start s c x = record { bytes = []; read = Consumes-none s; many = refl; feeds = Feeds-none does none more [] c x }

  -- nothing was read
  pub Reads-unread : (s : Option (List ℕ)) (c : V) (x : Option (List ℕ)) → OfBytes s (λ bytes. Cuts does (stream_of bytes).questions c c x x)
  Reads-unread s c x = (left_of s, told_none s, Cuts-none does none (stream_of (left_of s)).questions c x)

  -- a piece came, and was answered but for what waits
  pub Reads-fed : (s l l' : Option (List ℕ)) (into waiting waiting' : List ℕ) (total n : ℕ) (a b c : V) (x y z : Option (List ℕ)) → ReadsOn does s l total waiting a b x y → n ≤ length into → Consumes l l' (take n into)
      → Feeds does (waiting ++ take n into) waiting' b c y z → ReadsOn does s l' (total + n) waiting' a c x z
  Reads-fed s l l' into waiting waiting' total n a b c x y z on within read fed =
      let piece = take n into in
      record {
        bytes = on.bytes ++ piece;
        read = Consumes-then s l l' on.bytes piece on.read read;
        many = omega (arith, on.many, length-append on.bytes piece, length-take n into);
        feeds = Feeds-then does none more (on.bytes ++ piece) (waiting ++ piece) waiting' a b c x y z (Feeds-more does none more on.bytes waiting piece a b x y on.feeds) fed;
      }

  -- a reply ended the link
  pub Reads-ended : (s l l' : Option (List ℕ)) (piece waiting : List ℕ) (total : ℕ) (a b c : V) (x y z : Option (List ℕ)) → ReadsOn does s l total waiting a b x y → Consumes l l' piece → Ends does (waiting ++ piece) b c y z
      → OfBytes s (λ bytes. IsClosed (stream_of bytes) × Does does (stream_of bytes).questions a c x z)
  Reads-ended s l l' piece waiting total a b c x y z on read ended =
      let all = Ends-then does none more (on.bytes ++ piece) (waiting ++ piece) a b c x y z (Feeds-more does none more on.bytes waiting piece a b x y on.feeds) ended in (
        (on.bytes ++ piece) ++ left_of l',
        told_whole s l' (on.bytes ++ piece) (Consumes-then s l l' on.bytes piece on.read read),
        (inl (all.ends (left_of l')), subst (λ qs. Does does qs a c x z) (sym (all.asks (left_of l'))) all.does_them),
      )

  -- the input ended
  at_end : (bytes waiting : List ℕ) (a b : V) (x y : Option (List ℕ)) (p : Feeds does bytes waiting a b x y) → next_of waiting ≡ More → stream_of bytes ≡ record { questions = p.questions; ends = false; unused = waiting }
  at_end bytes waiting a b x y p waits =
      ap stream_of (sym (append-nil bytes)) ∙ p.splits [] ∙ ap (λ l. behind p.questions (stream_of l)) (append-nil waiting) ∙ ap (behind p.questions) (stream_waits waiting waits)
      ∙ (λ i. record { questions = append-nil p.questions i; ends = false; unused = waiting })

  pub Reads-end : (s l l' : Option (List ℕ)) (waiting : List ℕ) (total : ℕ) (a b : V) (x y : Option (List ℕ)) → ReadsOn does s l total waiting a b x y → Consumes l l' [] → IsAtEnd l' → next_of waiting ≡ More
      → OfBytes s (λ bytes. ((stream_of bytes).ends ≡ false) × ((stream_of bytes).unused ≡ waiting) × Does does (stream_of bytes).questions a b x y)
  Reads-end s l l' waiting total a b x y on read end waits =
      let is = at_end on.bytes waiting a b x y on.feeds waits in (
        on.bytes,
        told_end s l' on.bytes (Consumes-end s l l' on.bytes on.read read) end,
        (ap (λ (t : Stream). t.ends) is, ap (λ (t : Stream). t.unused) is, subst (λ qs. Does does qs a b x y) (sym (ap (λ (t : Stream). t.questions) is)) on.feeds.does_them),
      )

  -- the engine was cut short in the next piece
  pub Reads-cut : (s l l' : Option (List ℕ)) (piece waiting : List ℕ) (total : ℕ) (a b c : V) (x y z : Option (List ℕ)) → ReadsOn does s l total waiting a b x y → Consumes l l' piece → CutsPiece does (waiting ++ piece) b c y z
      → OfBytes s (λ bytes. Cuts does (stream_of bytes).questions a c x z)
  Reads-cut s l l' piece waiting total a b c x y z on read cuts = (
    (on.bytes ++ piece) ++ left_of l',
    told_whole s l' (on.bytes ++ piece) (Consumes-then s l l' on.bytes piece on.read read),
    Cuts-then does none more (on.bytes ++ piece) (waiting ++ piece) a b c x y z (Feeds-more does none more on.bytes waiting piece a b x y on.feeds) cuts (left_of l'),
  )

  -- the next piece was read and not taken
  pub Reads-stop : (s l l' : Option (List ℕ)) (piece waiting : List ℕ) (total : ℕ) (a b : V) (x y : Option (List ℕ)) → ReadsOn does s l total waiting a b x y → Consumes l l' piece → OfBytes s (λ bytes. Cuts does (stream_of bytes).questions a b x y)
  Reads-stop s l l' piece waiting total a b x y on read = (
    (on.bytes ++ piece) ++ left_of l',
    told_whole s l' (on.bytes ++ piece) (Consumes-then s l l' on.bytes piece on.read read),
    Cuts-stop does none more (on.bytes ++ piece) (waiting ++ piece) a b x y (Feeds-more does none more on.bytes waiting piece a b x y on.feeds) (left_of l'),
  )

  -- the read failed
  pub Reads-fault : (s l l' : Option (List ℕ)) (waiting : List ℕ) (total : ℕ) (a b : V) (x y : Option (List ℕ)) → ReadsOn does s l total waiting a b x y → Keeps l l' → OfBytes s (λ bytes. Cuts does (stream_of bytes).questions a b x y)
  Reads-fault s l l' waiting total a b x y on kept = (
    on.bytes ++ left_of l',
    told_whole s l' on.bytes (Keeps-consumes s l l' on.bytes on.read kept),
    Cuts-stop does none more on.bytes waiting a b x y on.feeds (left_of l'),
  )

module _ {V : Type 0} (does : Doing Question V) (none : (s : V) → does s [] s) (more : (a b c : V) (first then : List (Exchange Question)) → does a first b → does b then c → does a (first ++ then) c) where
  -- all that was asked was answered, so nothing is left
  pub cut_of : (s : Option (List ℕ)) (a b : V) (x y : Option (List ℕ)) → OfBytes s (λ bytes. IsClosed (stream_of bytes) × Does does (stream_of bytes).questions a b x y) → OfBytes s (λ bytes. Cuts does (stream_of bytes).questions a b x y)
  cut_of s a b x y (bytes, is, (closed, ran)) = (bytes, is, record { rest = []; lacking = []; ran = ran })

  pub cut_end : (s : Option (List ℕ)) (waiting : List ℕ) (a b : V) (x y : Option (List ℕ)) → OfBytes s (λ bytes. ((stream_of bytes).ends ≡ false) × ((stream_of bytes).unused ≡ waiting) × Does does (stream_of bytes).questions a b x y) → OfBytes s (λ bytes. Cuts does (stream_of bytes).questions a b x y)
  cut_end s waiting a b x y (bytes, is, (on, unused, ran)) = (bytes, is, record { rest = []; lacking = []; ran = ran })

  pub closed_end : (s : Option (List ℕ)) (waiting : List ℕ) (end : LinkEnd) (a b : V) (x y : Option (List ℕ)) → EndsBy waiting end → OfBytes s (λ bytes. ((stream_of bytes).ends ≡ false) × ((stream_of bytes).unused ≡ waiting) × Does does (stream_of bytes).questions a b x y)
      → end ≡ Closed → OfBytes s (λ bytes. IsClosed (stream_of bytes) × Does does (stream_of bytes).questions a b x y)
  closed_end s waiting end a b x y (inl by) (bytes, is, (on, unused, ran)) closed = (bytes, is, (inr (unused ∙ by.0), ran))
  closed_end s waiting end a b x y (inr by) read closed = let e : CutShort ≡ Closed = sym by.1 ∙ closed in absurd (cc e)

  pub short_end : (s : Option (List ℕ)) (waiting : List ℕ) (end : LinkEnd) (a b : V) (x y : Option (List ℕ)) → EndsBy waiting end → OfBytes s (λ bytes. ((stream_of bytes).ends ≡ false) × ((stream_of bytes).unused ≡ waiting) × Does does (stream_of bytes).questions a b x y)
      → end ≡ CutShort → OfBytes s (λ bytes. IsCutShort (stream_of bytes) × Does does (stream_of bytes).questions a b x y)
  short_end s waiting end a b x y (inr by) (bytes, is, (on, unused, ran)) short = (bytes, is, ((on, λ e. by.0 (sym unused ∙ e)), ran))
  short_end s waiting end a b x y (inl by) read short = let e : Closed ≡ CutShort = sym by.1 ∙ short in absurd (cc e)
