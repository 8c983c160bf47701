-- What a stream asks, message by message.
use Rattle.std.proofs.Common.{◌≡◌, ◌≢◌, ◌≤◌, ◌+◌, ℕ, suc, zero, Bool, true, false, List, [], ◌∷◌, ◌++◌, None, Some, Ok, Err, refl, sym, ap, ◌∙◌, cond, length, take, drop, arith, length-drop, length-take}
use Rattle.std.specs.Prelude.{nat_le, nat_lt}
use Rattle.std.specs.declared.option.Option.{Option}
use Rattle.std.specs.declared.result.Result.{Result}
use Rattle.std.specs.Option.{option_map}
use Rattle.std.proofs.lemmas.List.{drop-append-le}
use Rattle.std.proofs.lemmas.Bool.Decides.{nat_tests}
use Rattle.hx_http.specs.Fronts.{Front, further, front_from, front_of}
use Rattle.hx_http.specs.Messages.{Message, message_of, Framing, framing_of, Next, More, Whole, Refused, body_behind, next_behind, next_by, next_of, most_front_bytes}
use Rattle.hx_http.specs.Streams.{Asked, Rejected, behind, stream_by, stream_within, stream_of}
use Rattle.hx_http.specs.declared.fault.HeadFault.{HeadFault}
use Rattle.hx_http.specs.declared.fault.HeadFault.TheVariants.{LargeHead}
use Rattle.hx_http.specs.Searches.{next_seen, message_seen, IfWhole}
use Rattle.hx_http.specs.declared.message.Next.{Next as Answered}
use Rattle.hx_http.specs.declared.message.Next.TheVariants as next_case
use Rattle.hx_http.proofs.Pieces.{front_fits, law_of_pieces}

-- ---- a message takes a byte at least, and lies in the bytes

pub front_takes : (a : List ℕ) (begun : Bool) (line : List ℕ) (f : Front) → front_from a begun line ≡ Some f → 1 ≤ f.length
front_takes [] begun line f e = absurd (cc e)
front_takes (byte ∷ a) begun line f e = inner _ e
  where
    inner : (found : Option Front) → option_map further found ≡ Some f → 1 ≤ f.length
    inner None e = absurd (cc e)
    inner (Some g) e =
        let is : further g ≡ f = cc e in
        let longer : g.length + 1 ≡ f.length = ap (λ (x : Front). x.length) is in
        omega arith

pub record Uses (bytes : List ℕ) (n : ℕ) : Type 0 where
  pub some : 1 ≤ n
  pub within : n ≤ length bytes

body_uses : (at : ℕ) (framing : Framing) (bytes : List ℕ) (m : Message) (n : ℕ) → 1 ≤ at → at ≤ length bytes → body_behind at framing (drop at bytes) ≡ Whole m n → Uses bytes n
body_uses at framing bytes m n some within e = by_test (nat_le framing.body_bytes (length (drop at bytes))) refl e
  where
    by_test : (b : Bool) → nat_le framing.body_bytes (length (drop at bytes)) ≡ b → cond b (Whole (message_of framing (take framing.body_bytes (drop at bytes))) (at + framing.body_bytes)) More ≡ Whole m n → Uses bytes n
    by_test false is e = absurd (cc e)
    by_test true is e =
        let few : framing.body_bytes ≤ length (drop at bytes) = grind (arith, nat_tests, is) in
        let same : at + framing.body_bytes ≡ n = cc e in
        record { some = omega arith; within = omega (arith, few, length-drop at bytes, same) }

pub whole_uses : (bytes : List ℕ) (m : Message) (n : ℕ) → next_of bytes ≡ Whole m n → Uses bytes n
whole_uses bytes m n e = by_front (front_of (take most_front_bytes bytes)) refl e
  where
    by_decided : (f : Front) → 1 ≤ f.length → f.length ≤ length bytes → (decided : Result Framing HeadFault) → next_behind f.length decided (drop f.length bytes) ≡ Whole m n → Uses bytes n
    by_decided f some within (Err fault) e = absurd (cc e)
    by_decided f some within (Ok framing) e = body_uses f.length framing bytes m n some within e

    short : (b : Bool) → cond b More (Refused LargeHead) ≡ Whole m n → Uses bytes n
    short true e = absurd (cc e)
    short false e = absurd (cc e)

    by_front : (found : Option Front) → front_of (take most_front_bytes bytes) ≡ found → next_by bytes found ≡ Whole m n → Uses bytes n
    by_front None is e = short (nat_lt (length bytes) most_front_bytes) e
    by_front (Some f) is e =
        let fits = front_fits (take most_front_bytes bytes) false [] f is in
        by_decided f (front_takes (take most_front_bytes bytes) false [] f is) (omega (arith, fits, length-take most_front_bytes bytes)) (framing_of f.lines) e

-- ---- steps

nothing : (steps : ℕ) → stream_within steps [] ≡ record { questions = []; ends = false; unused = [] }
nothing zero = refl
nothing (suc steps) = refl

enough : (k l : ℕ) (bytes : List ℕ) → length bytes ≤ k → length bytes ≤ l → stream_within k bytes ≡ stream_within l bytes
enough zero l [] few less = sym (nothing l)
enough zero l (byte ∷ bytes) few less = absurd (omega arith)
enough (suc k) zero [] few less = nothing (suc k)
enough (suc k) zero (byte ∷ bytes) few less = absurd (omega arith)
enough (suc k) (suc l) bytes few less = by_next (next_of bytes) refl (λ n uses. enough k l (drop n bytes) (shorter n k uses few) (shorter n l uses less))
  where
    shorter : (n k : ℕ) → Uses bytes n → length bytes ≤ suc k → length (drop n bytes) ≤ k
    shorter n k uses few = let some = uses.some in let within = uses.within in omega (arith, length-drop n bytes)

    by_last : (b : Bool) (m : Message) (n : ℕ) → stream_within k (drop n bytes) ≡ stream_within l (drop n bytes)
        → cond b (record { questions = Asked m ∷ []; ends = true; unused = drop n bytes }) (behind (Asked m ∷ []) (stream_within k (drop n bytes)))
        ≡ cond b (record { questions = Asked m ∷ []; ends = true; unused = drop n bytes }) (behind (Asked m ∷ []) (stream_within l (drop n bytes)))
    by_last true m n same = refl
    by_last false m n same = ap (behind (Asked m ∷ [])) same

    by_next : (next : Next) → next_of bytes ≡ next → ((n : ℕ) → Uses bytes n → stream_within k (drop n bytes) ≡ stream_within l (drop n bytes)) → stream_by next bytes (stream_within k) ≡ stream_by next bytes (stream_within l)
    by_next More is same = refl
    by_next (Refused fault) is same = refl
    by_next (Whole m n) is same = by_last m.last m n (same n (whole_uses bytes m n is))

-- the first message, and then what the bytes behind it ask
pub stream_steps : (bytes : List ℕ) → stream_of bytes ≡ stream_by (next_of bytes) bytes stream_of
stream_steps [] = refl
stream_steps (byte ∷ bytes) = by_next (next_of (byte ∷ bytes)) refl
  where
    by_last : (b : Bool) (m : Message) (n : ℕ) → stream_within (length bytes) (drop n (byte ∷ bytes)) ≡ stream_of (drop n (byte ∷ bytes))
        → cond b (record { questions = Asked m ∷ []; ends = true; unused = drop n (byte ∷ bytes) }) (behind (Asked m ∷ []) (stream_within (length bytes) (drop n (byte ∷ bytes))))
        ≡ cond b (record { questions = Asked m ∷ []; ends = true; unused = drop n (byte ∷ bytes) }) (behind (Asked m ∷ []) (stream_of (drop n (byte ∷ bytes))))
    by_last true m n same = refl
    by_last false m n same = ap (behind (Asked m ∷ [])) same

    by_next : (next : Next) → next_of (byte ∷ bytes) ≡ next → stream_by next (byte ∷ bytes) (stream_within (length bytes)) ≡ stream_by next (byte ∷ bytes) stream_of
    by_next More is = refl
    by_next (Refused fault) is = refl
    by_next (Whole m n) is =
        let uses = whole_uses (byte ∷ bytes) m n is in
        let some = uses.some in
        by_last m.last m n (enough (length bytes) (length (drop n (byte ∷ bytes))) (drop n (byte ∷ bytes)) (omega (arith, length-drop n (byte ∷ bytes))) (omega arith))

-- ---- whatever follows

not_more : (bytes : List ℕ) (next : Next) → next_of bytes ≡ next → (next ≡ More → ⊥) → next_of bytes ≢ More
not_more bytes next is some e = some (sym is ∙ e)

-- a message, and what follows it
pub stream_asked : (bytes more : List ℕ) (m : Message) (n : ℕ) → next_of bytes ≡ Whole m n → m.last ≡ false → stream_of (bytes ++ more) ≡ behind (Asked m ∷ []) (stream_of (drop n bytes ++ more))
stream_asked bytes more m n is on =
    let still : next_of (bytes ++ more) ≡ Whole m n = law_of_pieces bytes more (not_more bytes (Whole m n) is (λ e. absurd (cc e))) ∙ is in
    let uses = whole_uses bytes m n is in
    stream_steps (bytes ++ more) ∙ ap (λ next. stream_by next (bytes ++ more) stream_of) still
    ∙ ap (λ b. cond b (record { questions = Asked m ∷ []; ends = true; unused = drop n (bytes ++ more) }) (behind (Asked m ∷ []) (stream_of (drop n (bytes ++ more))))) on
    ∙ ap (λ l. behind (Asked m ∷ []) (stream_of l)) (drop-append-le n bytes more uses.within)

-- a message that ends the link
pub stream_last : (bytes more : List ℕ) (m : Message) (n : ℕ) → next_of bytes ≡ Whole m n → m.last ≡ true → stream_of (bytes ++ more) ≡ record { questions = Asked m ∷ []; ends = true; unused = drop n (bytes ++ more) }
stream_last bytes more m n is on =
    let still : next_of (bytes ++ more) ≡ Whole m n = law_of_pieces bytes more (not_more bytes (Whole m n) is (λ e. absurd (cc e))) ∙ is in
    stream_steps (bytes ++ more) ∙ ap (λ next. stream_by next (bytes ++ more) stream_of) still
    ∙ ap (λ b. cond b (record { questions = Asked m ∷ []; ends = true; unused = drop n (bytes ++ more) }) (behind (Asked m ∷ []) (stream_of (drop n (bytes ++ more))))) on

-- a fault ends it
pub stream_refused : (bytes more : List ℕ) (fault : HeadFault) → next_of bytes ≡ Refused fault → stream_of (bytes ++ more) ≡ record { questions = Rejected fault ∷ []; ends = true; unused = bytes ++ more }
stream_refused bytes more fault is =
    let still : next_of (bytes ++ more) ≡ Refused fault = law_of_pieces bytes more (not_more bytes (Refused fault) is (λ e. absurd (cc e))) ∙ is in
    stream_steps (bytes ++ more) ∙ ap (λ next. stream_by next (bytes ++ more) stream_of) still

-- bytes that are no message yet
pub stream_waits : (bytes : List ℕ) → next_of bytes ≡ More → stream_of bytes ≡ record { questions = []; ends = false; unused = bytes }
stream_waits bytes is = stream_steps bytes ∙ ap (λ next. stream_by next bytes stream_of) is

-- what the code answers lies in the bytes
pub used : (bytes : List ℕ) (next : Answered) → next_seen next ≡ next_of bytes → IfWhole next (λ n. (1 ≤ n) × (n ≤ length bytes))
used bytes (next_case.Whole m n) is = let uses = whole_uses bytes (message_seen m) n (sym is) in (uses.some, uses.within)
used bytes next_case.More is = tt
used bytes (next_case.Refused fault) is = tt
