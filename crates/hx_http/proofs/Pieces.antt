-- A front that has come stays the front, and what was decided stays decided, whatever follows.
use Rattle.std.proofs.Common.{◌≡◌, ◌≢◌, ◌≤◌, ◌<◌, ◌+◌, ℕ, suc, zero, Bool, true, false, List, [], ◌∷◌, ◌++◌, None, Some, Ok, Err, refl, sym, ap, ◌∙◌, cond, length, take, drop, min, subst, add-one, arith, length-append, length-take}
use Rattle.std.specs.Prelude.{◌==◌, nat_lt, nat_le}
use Rattle.std.specs.declared.option.Option.{Option}
use Rattle.std.specs.declared.result.Result.{Result}
use Rattle.std.specs.Option.{option_map}
use Rattle.std.specs.Str.Lines.{strip_carriage_return}
use Rattle.std.proofs.lemmas.List.{take-append-le, drop-append-le, take_all}
use Rattle.std.proofs.lemmas.Bool.Decides.{nat_tests}
use Rattle.hx_http.specs.Fronts.{Front, further, with_line, line_ended, front_from, front_of}
use Rattle.hx_http.specs.Messages.{Framing, framing_of, More, Refused, body_behind, next_behind, next_by, next_of, most_front_bytes}
use Rattle.hx_http.specs.declared.fault.HeadFault.{HeadFault}
use Rattle.hx_http.specs.declared.fault.HeadFault.TheVariants.{LargeHead}

-- what is there stays
abbrev pub Kept : {A : Type 0} → Option A → Option A → Type 0
Kept {A} old new = (a : A) → old ≡ Some a → new ≡ Some a

kept_map : {A B : Type 0} (f : A → B) (old new : Option A) → Kept old new → Kept (option_map f old) (option_map f new)
kept_map f None new kept b e = absurd (cc e)
kept_map f (Some a) new kept b e = rw (kept a refl) e

kept_cond : {A : Type 0} (test : Bool) (a a' b b' : Option A) → Kept a a' → Kept b b' → Kept (cond test a b) (cond test a' b')
kept_cond true a a' b b' p q = p
kept_cond false a a' b b' p q = q

kept_ended : (begun : Bool) (line : List ℕ) (old new : Bool → Option Front) → ((b : Bool) → Kept (old b) (new b)) → Kept (line_ended begun line old) (line_ended begun line new)
kept_ended false [] old new kept = kept false
kept_ended true [] old new kept = λ f e. e
kept_ended false (byte ∷ line) old new kept = kept_map (with_line (byte ∷ line)) (old true) (new true) (kept true)
kept_ended true (byte ∷ line) old new kept = kept_map (with_line (byte ∷ line)) (old true) (new true) (kept true)

pub front_kept : (a more : List ℕ) (begun : Bool) (line : List ℕ) → Kept (front_from a begun line) (front_from (a ++ more) begun line)
front_kept [] more begun line = λ f e. absurd (cc e)
front_kept (byte ∷ a) more begun line =
    kept_map further _ _
    (kept_cond (byte == 10) _ _ _ _
    (kept_ended begun (strip_carriage_return line) (λ b. front_from a b []) (λ b. front_from (a ++ more) b []) (λ b. front_kept a more b []))
    (front_kept a more begun (line ++ byte ∷ [])))

-- a front lies in the bytes
abbrev Fits : ℕ → Option Front → Type 0
Fits n found = (f : Front) → found ≡ Some f → f.length ≤ n

fits_further : (n : ℕ) (found : Option Front) → Fits n found → Fits (suc n) (option_map further found)
fits_further n None fits f e = absurd (cc e)
fits_further n (Some g) fits f e =
    let within = fits g refl in
    let is : further g ≡ f = cc e in
    let longer : g.length + 1 ≡ f.length = ap (λ (x : Front). x.length) is in
    omega arith

fits_line : (n : ℕ) (line : List ℕ) (found : Option Front) → Fits n found → Fits n (option_map (with_line line) found)
fits_line n line None fits f e = absurd (cc e)
fits_line n line (Some g) fits f e =
    let within = fits g refl in
    let is : with_line line g ≡ f = cc e in
    let same : g.length ≡ f.length = ap (λ (x : Front). x.length) is in
    omega arith

fits_ended : (n : ℕ) (begun : Bool) (line : List ℕ) (found : Bool → Option Front) → ((b : Bool) → Fits n (found b)) → Fits n (line_ended begun line found)
fits_ended n false [] found fits = fits false
fits_ended n true [] found fits = λ f e.
    let is : ◌≡◌ {A = Front} (record { length = 0; lines = [] }) f = cc e in
    let none : 0 ≡ f.length = ap (λ (x : Front). x.length) is in
    omega arith
fits_ended n false (byte ∷ line) found fits = fits_line n (byte ∷ line) (found true) (fits true)
fits_ended n true (byte ∷ line) found fits = fits_line n (byte ∷ line) (found true) (fits true)

fits_cond : (n : ℕ) (test : Bool) (a b : Option Front) → Fits n a → Fits n b → Fits n (cond test a b)
fits_cond n true a b p q = p
fits_cond n false a b p q = q

pub front_fits : (a : List ℕ) (begun : Bool) (line : List ℕ) → Fits (length a) (front_from a begun line)
front_fits [] begun line = λ f e. absurd (cc e)
front_fits (byte ∷ a) begun line =
    fits_further (length a) _
    (fits_cond (length a) (byte == 10) _ _
    (fits_ended (length a) begun (strip_carriage_return line) (λ b. front_from a b []) (λ b. front_fits a b []))
    (front_fits a begun (line ++ byte ∷ [])))

-- ---- the first bytes

pub take_grows : (n : ℕ) (bytes more : List ℕ) → (rest : List ℕ) × (take n (bytes ++ more) ≡ take n bytes ++ rest)
take_grows zero bytes more = ([], refl)
take_grows (suc n) [] more = (take (suc n) more, refl)
take_grows (suc n) (byte ∷ bytes) more = let grown = take_grows n bytes more in (grown.0, ap (λ l. byte ∷ l) grown.1)

-- ---- answers

body_kept : (at : ℕ) (framing : Framing) (rest more : List ℕ) → body_behind at framing rest ≢ More → body_behind at framing (rest ++ more) ≡ body_behind at framing rest
body_kept at framing rest more some = go (nat_le framing.body_bytes (length rest)) refl
  where
    go : (b : Bool) → nat_le framing.body_bytes (length rest) ≡ b → body_behind at framing (rest ++ more) ≡ body_behind at framing rest
    go false is = absurd (some (rw is refl))
    go true is =
        let few : framing.body_bytes ≤ length rest = grind (arith, nat_tests, is) in
        let longer : nat_le framing.body_bytes (length (rest ++ more)) ≡ true = grind (arith, nat_tests, few, length-append rest more) in
        rw (is, longer, take-append-le framing.body_bytes rest more few) refl

behind_kept : (at : ℕ) (decided : Result Framing HeadFault) (rest more : List ℕ) → next_behind at decided rest ≢ More → next_behind at decided (rest ++ more) ≡ next_behind at decided rest
behind_kept at (Err fault) rest more some = refl
behind_kept at (Ok framing) rest more some = body_kept at framing rest more some

-- by whether the front has come
next_kept : (bytes more : List ℕ) (found : Option Front) → front_of (take most_front_bytes bytes) ≡ found → next_of bytes ≢ More → next_of (bytes ++ more) ≡ next_of bytes
next_kept bytes more (Some front) is some =
    let grown = take_grows most_front_bytes bytes more in
    let still : front_of (take most_front_bytes (bytes ++ more)) ≡ Some front = rw grown.1 (front_kept (take most_front_bytes bytes) grown.0 false [] front is) in
    let within = front_fits (take most_front_bytes bytes) false [] front is in
    let few : front.length ≤ length bytes = omega (arith, within, length-take most_front_bytes bytes) in
    let here : next_of bytes ≡ next_behind front.length (framing_of front.lines) (drop front.length bytes) = rw is refl in
    rw (still, here, drop-append-le front.length bytes more few) (behind_kept front.length (framing_of front.lines) (drop front.length bytes) more (λ e. some (here ∙ e)))
next_kept bytes more None is some = go (nat_lt (length bytes) most_front_bytes) refl
  where
    go : (b : Bool) → nat_lt (length bytes) most_front_bytes ≡ b → next_of (bytes ++ more) ≡ next_of bytes
    go true short = absurd (some (rw (is, short) refl))
    go false long =
        let many : most_front_bytes ≤ length bytes = grind (arith, nat_tests, long) in
        let longer : nat_lt (length (bytes ++ more)) most_front_bytes ≡ false = grind (arith, nat_tests, many, length-append bytes more) in
        rw (take-append-le most_front_bytes bytes more many, is, long, longer) refl

pub law_of_pieces : (bytes more : List ℕ) → next_of bytes ≢ More → next_of (bytes ++ more) ≡ next_of bytes
law_of_pieces bytes more some = next_kept bytes more (front_of (take most_front_bytes bytes)) refl some

-- ---- a front alone

abbrev Cuts : List ℕ → Bool → List ℕ → Option Front → Type 0
Cuts bytes begun line found = (f : Front) → found ≡ Some f → front_from (take f.length bytes) begun line ≡ Some f

cut_feed : (byte : ℕ) (bytes line text : List ℕ) (begun : Bool) → ((b : Bool) → Cuts bytes b [] (front_from bytes b [])) → (f : Front) → line_ended begun text (λ (b : Bool). front_from bytes b []) ≡ Some f
    → line_ended begun text (λ (b : Bool). front_from (take f.length bytes) b []) ≡ Some f
cut_feed byte bytes line [] false cuts f e = cuts false f e
cut_feed byte bytes line [] true cuts f e = e
cut_feed byte bytes line (c ∷ text) false cuts f e = inside (front_from bytes true []) refl e
  where
    inside : (found : Option Front) → front_from bytes true [] ≡ found → option_map (with_line (c ∷ text)) found ≡ Some f → option_map (with_line (c ∷ text)) (front_from (take f.length bytes) true []) ≡ Some f
    inside None is e = absurd (cc e)
    inside (Some g) is e =
        let same : with_line (c ∷ text) g ≡ f = cc e in
        let length_is : g.length ≡ f.length = ap (λ (x : Front). x.length) same in
        ap (λ n. option_map (with_line (c ∷ text)) (front_from (take n bytes) true [])) (sym length_is) ∙ ap (option_map (with_line (c ∷ text))) (cuts true g is) ∙ e
cut_feed byte bytes line (c ∷ text) true cuts f e = inside (front_from bytes true []) refl e
  where
    inside : (found : Option Front) → front_from bytes true [] ≡ found → option_map (with_line (c ∷ text)) found ≡ Some f → option_map (with_line (c ∷ text)) (front_from (take f.length bytes) true []) ≡ Some f
    inside None is e = absurd (cc e)
    inside (Some g) is e =
        let same : with_line (c ∷ text) g ≡ f = cc e in
        let length_is : g.length ≡ f.length = ap (λ (x : Front). x.length) same in
        ap (λ n. option_map (with_line (c ∷ text)) (front_from (take n bytes) true [])) (sym length_is) ∙ ap (option_map (with_line (c ∷ text))) (cuts true g is) ∙ e

cut_step : (byte : ℕ) (bytes line : List ℕ) (begun : Bool) → ((b : Bool) → Cuts bytes b [] (front_from bytes b [])) → Cuts bytes begun (line ++ byte ∷ []) (front_from bytes begun (line ++ byte ∷ [])) → Cuts (byte ∷ bytes) begun line (front_from (byte ∷ bytes) begun line)
cut_step byte bytes line begun feeds on f e = by_test (byte == 10) refl e
  where
    ended : List ℕ → Option Front
    ended bytes = line_ended begun (strip_carriage_return line) (λ (b : Bool). front_from bytes b [])

    inside : (test : Bool) → (byte == 10) ≡ test → (g : Front) → cond test (ended bytes) (front_from bytes begun (line ++ byte ∷ [])) ≡ Some g
        → cond test (ended (take g.length bytes)) (front_from (take g.length bytes) begun (line ++ byte ∷ [])) ≡ Some g
    inside true is g e = cut_feed byte bytes line (strip_carriage_return line) begun feeds g e
    inside false is g e = on g e

    by_found : (test : Bool) → (byte == 10) ≡ test → (found : Option Front) → cond test (ended bytes) (front_from bytes begun (line ++ byte ∷ [])) ≡ found → option_map further found ≡ Some f → front_from (take f.length (byte ∷ bytes)) begun line ≡ Some f
    by_found test is None found_is e = absurd (cc e)
    by_found test is (Some g) found_is e =
        let same : further g ≡ f = cc e in
        let first : front_from (byte ∷ take g.length bytes) begun line ≡ option_map further (cond test (ended (take g.length bytes)) (front_from (take g.length bytes) begun (line ++ byte ∷ []))) =
        ap (λ t. option_map further (cond t (ended (take g.length bytes)) (front_from (take g.length bytes) begun (line ++ byte ∷ [])))) is in
        subst (λ (f : Front). front_from (take f.length (byte ∷ bytes)) begun line ≡ Some f) same
        (ap (λ n. front_from (take n (byte ∷ bytes)) begun line) (add-one g.length) ∙ first ∙ ap (option_map further) (inside test is g found_is))

    by_test : (test : Bool) → (byte == 10) ≡ test → front_from (byte ∷ bytes) begun line ≡ Some f → front_from (take f.length (byte ∷ bytes)) begun line ≡ Some f
    by_test test is e = by_found test is _ refl (ap (λ t. option_map further (cond t (ended bytes) (front_from bytes begun (line ++ byte ∷ [])))) (sym is) ∙ e)

pub front_cut : (bytes : List ℕ) (begun : Bool) (line : List ℕ) → Cuts bytes begun line (front_from bytes begun line)
front_cut [] begun line = λ f e. absurd (cc e)
front_cut (byte ∷ bytes) begun line = cut_step byte bytes line begun (λ b. front_cut bytes b []) (front_cut bytes begun (line ++ byte ∷ []))

-- ---- the first message, by what was found

pub room-taken : (bytes : List ℕ) (room : ℕ) → room ≡ min (length bytes) most_front_bytes → take room bytes ≡ take most_front_bytes bytes
room-taken bytes room room_is = by_length (nat_le (length bytes) most_front_bytes) refl
  where
    by_length : (b : Bool) → nat_le (length bytes) most_front_bytes ≡ b → take room bytes ≡ take most_front_bytes bytes
    by_length true few =
        let short : length bytes ≤ most_front_bytes = grind (arith, nat_tests, few) in
        take_all room bytes (omega (arith, room_is, short)) ∙ sym (take_all most_front_bytes bytes short)
    by_length false many =
        let long : most_front_bytes < length bytes = grind (arith, nat_tests, many) in
        let same : room ≡ most_front_bytes = omega (arith, room_is, long) in
        ap (λ n. take n bytes) same

-- the front that bytes begin with, and what its lines decide
pub record Found (bytes : List ℕ) (at : ℕ) (decided : Result Framing HeadFault) : Type 0 where
  pub texts : List (List ℕ)
  pub front : front_of (take most_front_bytes bytes) ≡ Some (record { length = at; lines = texts })
  pub decides : framing_of texts ≡ decided

-- the head was found
pub head-found : (bytes : List ℕ) (room at lines : ℕ) (decided : Result Framing HeadFault) → room ≡ min (length bytes) most_front_bytes
    → (texts : List (List ℕ)) × (length texts ≡ lines) × (front_of (take room bytes) ≡ Some (record { length = at; lines = texts })) → at ≤ room
    → ((texts : List (List ℕ)) → front_of (take at bytes) ≡ Some (record { length = length (take at bytes); lines = texts }) → length texts ≡ lines → framing_of texts ≡ decided)
    → Found bytes at decided
head-found bytes room at lines decided room_is found within decides =
    let front : Front = record { length = at; lines = found.0 } in
    let same_room : take room bytes ≡ take most_front_bytes bytes = room-taken bytes room room_is in
    let cut : front_of (take at (take room bytes)) ≡ Some front = front_cut (take room bytes) false [] front found.2 in
    let shorter : take at (take room bytes) ≡ take at bytes = taken_twice at room bytes within in
    let len : length (take at bytes) ≡ at = omega (arith, length-take at bytes, room_is) in
    let alone : front_of (take at bytes) ≡ Some (record { length = length (take at bytes); lines = found.0 }) = ap front_of (sym shorter) ∙ cut ∙ (λ i. Some (record { length = sym len i; lines = found.0 })) in
    record { texts = found.0; front = ap front_of (sym same_room) ∙ found.2; decides = decides found.0 alone found.1 }
  where
    taken_twice : (a b : ℕ) (bytes : List ℕ) → a ≤ b → take a (take b bytes) ≡ take a bytes
    taken_twice zero b bytes few = refl
    taken_twice (suc a) zero bytes few = absurd (omega arith)
    taken_twice (suc a) (suc b) [] few = refl
    taken_twice (suc a) (suc b) (byte ∷ bytes) few = ap (λ l. byte ∷ l) (taken_twice a b bytes (omega arith))

-- what it decides is the first message, with what stands behind it
pub next-found : (bytes : List ℕ) (at : ℕ) (decided : Result Framing HeadFault) → Found bytes at decided → next_behind at decided (drop at bytes) ≡ next_of bytes
next-found bytes at decided found = ap (λ d. next_behind at d (drop at bytes)) (sym found.decides) ∙ ap (next_by bytes) (sym found.front)

-- none was found
missing : (bytes : List ℕ) (room : ℕ) → room ≡ min (length bytes) most_front_bytes → front_of (take room bytes) ≡ None → (few : Bool) → nat_lt (length bytes) most_front_bytes ≡ few
    → cond few More (Refused LargeHead) ≡ next_of bytes
missing bytes room room_is none few few_is =
    let same : front_of (take most_front_bytes bytes) ≡ None = ap front_of (sym (room-taken bytes room room_is)) ∙ none in
    ap (λ b. cond b More (Refused LargeHead)) (sym few_is) ∙ ap (next_by bytes) (sym same)

pub more-here : (bytes : List ℕ) (room : ℕ) → room ≡ min (length bytes) most_front_bytes → front_of (take room bytes) ≡ None → length bytes < most_front_bytes → More ≡ next_of bytes
more-here bytes room room_is none few = missing bytes room room_is none true (grind (arith, nat_tests, few))

pub large-here : (bytes : List ℕ) (room : ℕ) → room ≡ min (length bytes) most_front_bytes → front_of (take room bytes) ≡ None → most_front_bytes ≤ length bytes → Refused LargeHead ≡ next_of bytes
large-here bytes room room_is none many = missing bytes room room_is none false (grind (arith, nat_tests, many))
