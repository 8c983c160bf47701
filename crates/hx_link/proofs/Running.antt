-- Exchanges put together.
use Rattle.std.proofs.Common.{◌≡◌, ℕ, List, [], ◌∷◌, ◌++◌, refl, sym, ap, ◌∙◌, inl, inr, append_assoc, append-nil}
use Rattle.std.specs.Prelude.{OnOk, OnErr}
use Rattle.std.specs.declared.option.Option.{Option}
use Rattle.std.specs.declared.result.Result.{Result}
use Rattle.std.specs.Io.KnownBytes.{Appends}
use Rattle.std.proofs.lemmas.List.{map-append}
use Rattle.std.proofs.lemmas.Result.{on_ok_weaker, on_err_weaker}
use Rattle.hx_ports.specs.Pieces.{WritesFront}
use Rattle.hx_ports.proofs.Writing.{Appends-nil, Appends-trans}
use Rattle.hx_link.specs.Exchanges.{Exchange, questions_of, texts_of, LacksLast}
use Rattle.hx_link.specs.Running.{Doing, Ran, Does, Cuts}

module _ {Q V : Type 0} (does : Doing Q V) where
  texts-append : (ts us : List (Exchange Q)) → texts_of (ts ++ us) ≡ texts_of ts ++ texts_of us
  texts-append [] us = refl
  texts-append (t ∷ ts) us = ap (λ l. t.text ++ l) (texts-append ts us) ∙ sym (append_assoc t.text (texts_of ts) (texts_of us))

  question_of : Exchange Q → Q
  question_of e = e.question

  LacksLast-before : (ts us : List (Exchange Q)) (lacking : List ℕ) → LacksLast us lacking → LacksLast (ts ++ us) lacking
  LacksLast-before ts us lacking (inl none) = inl none
  LacksLast-before ts us lacking (inr (before, last, front, ends, whole)) = inr (ts ++ before, last, front, ap (λ l. ts ++ l) ends ∙ sym (append_assoc ts before (last ∷ [])), whole)

  -- nothing was done
  pub Ran-none : ((s : V) → does s [] s) → (qs : List Q) (c : V) (x : Option (List ℕ)) → Ran does qs qs [] c c x x
  Ran-none none qs c x = record { exchanges = []; text = []; split = refl; does_them = none c; says = refl; lacks = inl refl; wrote = Appends-nil x }

  pub Cuts-none : ((s : V) → does s [] s) → (qs : List Q) (c : V) (x : Option (List ℕ)) → Cuts does qs c c x x
  Cuts-none none qs c x = record { rest = qs; lacking = []; ran = Ran-none none qs c x }

  -- more was answered
  pub Ran-then : ((a b c : V) (first then : List (Exchange Q)) → does a first b → does b then c → does a (first ++ then) c)
      → (qs ks rest : List Q) (lacking : List ℕ) (a b c : V) (x y z : Option (List ℕ)) → Does does qs a b x y → Ran does ks rest lacking b c y z → Ran does (qs ++ ks) rest lacking a c x z
  Ran-then more qs ks rest lacking a b c x y z p q =
      record {
        exchanges = p.exchanges ++ q.exchanges;
        text = p.text ++ q.text;
        split = ap (λ l. l ++ ks) (p.split ∙ append-nil (questions_of p.exchanges)) ∙ ap (λ l. questions_of p.exchanges ++ l) q.split ∙ sym (append_assoc (questions_of p.exchanges) (questions_of q.exchanges) rest) ∙ ap (λ l. l ++ rest) (sym (map-append (λ (e : Exchange Q). e.question) p.exchanges q.exchanges));
        does_them = more a b c p.exchanges q.exchanges p.does_them q.does_them;
        says = texts-append p.exchanges q.exchanges ∙ ap (λ l. l ++ texts_of q.exchanges) (p.says ∙ append-nil p.text) ∙ ap (λ l. p.text ++ l) q.says ∙ sym (append_assoc p.text q.text lacking);
        lacks = LacksLast-before p.exchanges q.exchanges lacking q.lacks;
        wrote = Appends-trans x y z p.text q.text p.wrote q.wrote;
      }

  pub Does-cuts : ((a b c : V) (first then : List (Exchange Q)) → does a first b → does b then c → does a (first ++ then) c)
      → (qs ks : List Q) (a b c : V) (x y z : Option (List ℕ)) → Does does qs a b x y → Cuts does ks b c y z → Cuts does (qs ++ ks) a c x z
  Does-cuts more qs ks a b c x y z p q = record { rest = q.rest; lacking = q.lacking; ran = Ran-then more qs ks q.rest q.lacking a b c x y z p q.ran }

  -- more stays unanswered
  pub Cuts-more : (qs more : List Q) (a b : V) (x y : Option (List ℕ)) → Cuts does qs a b x y → Cuts does (qs ++ more) a b x y
  Cuts-more qs more a b x y p =
      record {
        rest = p.rest ++ more;
        lacking = p.lacking;
        ran = record { exchanges = p.ran.exchanges; text = p.ran.text; split = ap (λ l. l ++ more) p.ran.split ∙ append_assoc (questions_of p.ran.exchanges) p.rest more; does_them = p.ran.does_them; says = p.ran.says; lacks = p.ran.lacks; wrote = p.ran.wrote };
      }

  -- one exchange: its text was written, or a front of it
  pub Does-one : (q : Q) (text : List ℕ) (a b : V) (x y : Option (List ℕ)) → does a (record { question = q; text = text } ∷ []) b → Appends x y text → Does does (q ∷ []) a b x y
  Does-one q text a b x y made wrote = record { exchanges = record { question = q; text = text } ∷ []; text = text; split = refl; does_them = made; says = refl; lacks = inl refl; wrote = wrote }

  pub Cuts-one : (q : Q) (text : List ℕ) (a b : V) (x y : Option (List ℕ)) → does a (record { question = q; text = text } ∷ []) b → WritesFront text x y → Cuts does (q ∷ []) a b x y
  Cuts-one q text a b x y made front =
      record {
        rest = [];
        lacking = front.lacking;
        ran = record { exchanges = record { question = q; text = text } ∷ []; text = front.front; split = refl; does_them = made; says = append-nil text ∙ front.whole; lacks = inr ([], record { question = q; text = text }, front.front, refl, front.whole); wrote = front.wrote };
      }

  pub on_ok-one : {T E : Type 0} (q : Q) (text : List ℕ) (a b : V) (x y : Option (List ℕ)) (r : Result T E) → does a (record { question = q; text = text } ∷ []) b → OnOk r (Appends x y text) → OnOk r (Does does (q ∷ []) a b x y)
  on_ok-one q text a b x y r made wrote = on_ok_weaker r (Does-one q text a b x y made) wrote

  pub on_err-one : {T E : Type 0} (q : Q) (text : List ℕ) (a b : V) (x y : Option (List ℕ)) (r : Result T E) → does a (record { question = q; text = text } ∷ []) b → OnErr r (WritesFront text x y) → OnErr r (Cuts does (q ∷ []) a b x y)
  on_err-one q text a b x y r made front = on_err_weaker r (Cuts-one q text a b x y made) front
