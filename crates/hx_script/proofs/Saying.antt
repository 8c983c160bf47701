-- Texts that are written one after another.
use Rattle.std.proofs.Common.{◌≡◌, ◌≤◌, ◌<◌, ℕ, ◌+◌, List, [], ◌∷◌, ◌++◌, Ok, Err, refl, sym, ap, subst, ◌∙◌, append_assoc, append-nil, take, drop, get_or, length, flat_map}
use Rattle.std.specs.Prelude.{IsErrAnd, ◌⊎◌}
use Rattle.std.specs.declared.option.Option.{Option}
use Rattle.std.specs.declared.result.Result.{Result}
use Rattle.std.specs.Io.KnownBytes.{Appends}
use Rattle.std.proofs.lemmas.Grind.{flat_map-append}
use Rattle.std.proofs.lemmas.List.{take_more, take-append-drop}
use Rattle.std.proofs.lemmas.Result.{on_ok_weaker, on_err_weaker}
use Rattle.hx_ports.specs.Causes.{Rose}
use Rattle.hx_ports.specs.Pieces.{IsCalm, WriteCause, WritesFront}
use Rattle.hx_ports.specs.Views.{SinkView}
use Rattle.hx_model.specs.declared.refusal.Refusal.{Refusal}
use Rattle.hx_ports.proofs.Writing.{Appends-nil, Appends-trans, calm_on}
use Rattle.hx_core.specs.Refinement.{ClusterView}
use Rattle.hx_script.specs.Running.{Said, SaysText, Serves}
use Rattle.hx_script.specs.declared.order.Order.{Order}

-- ---- fronts

front_more : (s t : List ℕ) (x y : Option (List ℕ)) → WritesFront s x y → WritesFront (s ++ t) x y
front_more s t x y p = record { front = p.front; lacking = p.lacking ++ t; whole = ap (λ l. l ++ t) p.whole ∙ append_assoc p.front p.lacking t; wrote = p.wrote }

front_after : (s t : List ℕ) (x y z : Option (List ℕ)) → Appends x y s → WritesFront t y z → WritesFront (s ++ t) x z
front_after s t x y z p q = record { front = s ++ q.front; lacking = q.lacking; whole = ap (λ l. s ++ l) q.whole ∙ sym (append_assoc s q.front q.lacking); wrote = Appends-trans x y z s q.front p q.wrote }

cause_after : {T E : Type 0} (a b c : SinkView) (r : Result T E) → IsCalm a b → WriteCause b c r → WriteCause a c r
cause_after a b c r p q =
    record {
      later = subst (λ n. n ≤ c.faults) p.faults q.later;
      longer = subst (λ n. n ≤ c.stalls) p.stalls q.longer;
      failed = on_err_weaker r (λ rose. subst (λ n. Rose a.faults c.faults ⊎ Rose n c.stalls) p.stalls (subst (λ n. Rose n c.faults ⊎ Rose b.stalls c.stalls) p.faults rose)) q.failed;
      still = on_ok_weaker r (λ calm. calm_on a b c p calm) q.still;
    }

-- the causes of a line that was served
pub Serves-cause : {T E : Type 0} (reading : Result Order Refusal) (a b : ClusterView) (x y : SinkView) (r : Result T E) → Serves reading a b x y r → WriteCause x y r
Serves-cause reading a b x y r p = cause_after x p.between y r p.said.calm p.says.cause

-- ---- texts

-- nothing was written
pub Said-none : (a : SinkView) → Said [] a a
Said-none a = record { calm = record { faults = refl; stalls = refl }; wrote = Appends-nil a.written }

-- one text, then another
pub Said-then : (s t : List ℕ) (a b c : SinkView) → Said s a b → Said t b c → Said (s ++ t) a c
Said-then s t a b c p q = record { calm = calm_on a b c p.calm q.calm; wrote = Appends-trans a.written b.written c.written s t p.wrote q.wrote }

pub Said-of : {T E : Type 0} (s : List ℕ) (a b : SinkView) (v : T) → SaysText {T = T} {E = E} s a b (Ok v) → Said s a b
Said-of s a b v p = record { calm = p.cause.still; wrote = p.whole }

-- one text after another
pub SaysText-after : {T E : Type 0} (s t : List ℕ) (a b c : SinkView) (r : Result T E) → Said s a b → SaysText t b c r → SaysText (s ++ t) a c r
SaysText-after s t a b c r p q =
    record {
      whole = on_ok_weaker r (λ wrote. Appends-trans a.written b.written c.written s t p.wrote wrote) q.whole;
      cut = on_err_weaker r (λ cut. front_after s t a.written b.written c.written p.wrote cut) q.cut;
      cause = cause_after a b c r p.calm q.cause;
    }

-- a text failed, and what follows isn't written
cut_err : {T U E F : Type 0} (s t : List ℕ) (a b : SinkView) (e : E) (f : F) → SaysText {T = T} s a b (Err e) → SaysText {T = U} (s ++ t) a b (Err f)
cut_err s t a b e f p = record { whole = tt; cut = front_more s t a.written b.written p.cut; cause = record { later = p.cause.later; longer = p.cause.longer; failed = p.cause.failed; still = tt } }

pub SaysText-cut : {T U E F : Type 0} (P : F → Type 0) (s t : List ℕ) (a b : SinkView) (e : E) (r : Result U F) → IsErrAnd r P → SaysText {T = T} s a b (Err e) → SaysText (s ++ t) a b r
SaysText-cut P s t a b e (Ok v) err p = absurd err
SaysText-cut P s t a b e (Err f) err p = cut_err s t a b e f p

-- ---- texts of a list

more : {A : Type 0} (f : A → List ℕ) (xs : List A) (i : ℕ) (d : A) → i < length xs → flat_map f (take (i + 1) xs) ≡ flat_map f (take i xs) ++ f (get_or xs i d)
more f xs i d h = ap (flat_map f) (take_more xs i d h) ∙ flat_map-append f (take i xs) (get_or xs i d ∷ []) ∙ ap (λ l. flat_map f (take i xs) ++ l) (append-nil (f (get_or xs i d)))

step : {A : Type 0} (f : A → List ℕ) (xs : List A) (i : ℕ) (d : A) → i < length xs → flat_map f xs ≡ flat_map f (take i xs) ++ (f (get_or xs i d) ++ flat_map f (drop (i + 1) xs))
step f xs i d h =
    let rest = flat_map f (drop (i + 1) xs) in
    ap (flat_map f) (sym (take-append-drop (i + 1) xs)) ∙ flat_map-append f (take (i + 1) xs) (drop (i + 1) xs) ∙ ap (λ l. l ++ rest) (more f xs i d h) ∙ append_assoc (flat_map f (take i xs)) (f (get_or xs i d)) rest

-- it failed
pub SaysText-stop : {A T U E F : Type 0} (P : F → Type 0) (f : A → List ℕ) (xs : List A) (i : ℕ) (d : A) (a b c : SinkView) (e : E) (r : Result U F) → IsErrAnd r P → i < length xs → Said (flat_map f (take i xs)) a b → SaysText {T = T} (f (get_or xs i d)) b c (Err e) → SaysText (flat_map f xs) a c r
SaysText-stop P f xs i d a b c e r err h p q =
    let front = flat_map f (take i xs) in
    let rest = flat_map f (drop (i + 1) xs) in
    let cut = SaysText-cut P (f (get_or xs i d)) rest b c e r err q in
    subst (λ l. SaysText l a c r) (sym (step f xs i d h)) (SaysText-after front (f (get_or xs i d) ++ rest) a b c r p cut)
