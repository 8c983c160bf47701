-- Runs of lines put together.
use Rattle.std.proofs.Common.{◌≡◌, ℕ, Bool, false, cond, List, [], ◌∷◌, ◌++◌, refl, sym, ap, subst, ◌∙◌, inl, inr, append_assoc, append-nil, map}
use Rattle.std.specs.Prelude.{OnOk, OnErr}
use Rattle.std.specs.declared.option.Option.{Option}
use Rattle.std.specs.declared.result.Result.{Result}
use Rattle.std.specs.List.{AllByRecursion}
use Rattle.std.specs.Str.Lines.{strip_carriage_return}
use Rattle.std.specs.Io.KnownBytes.{Appends}
use Rattle.std.proofs.lemmas.Grind.{flat_map-append}
use Rattle.std.proofs.lemmas.List.{map-append}
use Rattle.std.proofs.lemmas.Result.{on_ok_weaker, on_err_weaker}
use Rattle.hx_ports.specs.Pieces.{WritesFront}
use Rattle.hx_ports.specs.Views.{SinkView}
use Rattle.hx_ports.proofs.Writing.{Appends-nil, Appends-trans}
use Rattle.hx_model.specs.Machine.{History}
use Rattle.hx_core.specs.Refinement.{ClusterView, HasWorld, Simulates}
use Rattle.hx_script.specs.Lines.{Line, line_of_text, asking, is_asking}
use Rattle.hx_script.specs.Forms.{reading_of}
use Rattle.hx_script.specs.Bounded.{AreBounded}
use Rattle.hx_script.specs.Exchanges.{made_entries, Exchange, IsExchange, lines_of, entries_of, answer_lines, exchange_line, last_lines}
use Rattle.hx_script.specs.Running.{Ran, Does, Cuts, LacksLast, IsEndOf, HasMade, Serves}
use Rattle.hx_script.proofs.Simulating.{Simulates-none, Simulates-after}

-- ---- exchanges one after the other

each_append : (ts us : List Exchange) → AllByRecursion IsExchange ts → AllByRecursion IsExchange us → AllByRecursion IsExchange (ts ++ us)
each_append [] us p q = q
each_append (t ∷ ts) us p q = (p.0, each_append ts us p.1 q)

answer_lines-append : (ts us : List Exchange) → answer_lines (ts ++ us) ≡ answer_lines ts ++ answer_lines us
answer_lines-append [] us = refl
answer_lines-append (t ∷ ts) us = ap (λ l. exchange_line t ++ l) (answer_lines-append ts us) ∙ sym (append_assoc (exchange_line t) (answer_lines ts) (answer_lines us))

abbrev line_of_exchange : Exchange → Line
line_of_exchange exchange = exchange.line

abbrev entries_of_exchange : Exchange → History
entries_of_exchange exchange = made_entries exchange.made

lines_together : (ls ks rest : List Line) (ts us : List Exchange) → ls ≡ lines_of ts ++ [] → ks ≡ lines_of us ++ rest → ls ++ ks ≡ lines_of (ts ++ us) ++ rest
lines_together ls ks rest ts us p q =
    ap (λ l. l ++ ks) (p ∙ append-nil (lines_of ts)) ∙ ap (λ l. lines_of ts ++ l) q ∙ sym (append_assoc (lines_of ts) (lines_of us) rest) ∙ ap (λ l. l ++ rest) (sym (map-append line_of_exchange ts us))

texts_together : (ts us : List Exchange) (text more lacking : List ℕ) → answer_lines ts ≡ text ++ [] → answer_lines us ≡ more ++ lacking → answer_lines (ts ++ us) ≡ (text ++ more) ++ lacking
texts_together ts us text more lacking p q =
    answer_lines-append ts us ∙ ap (λ l. l ++ answer_lines us) (p ∙ append-nil text) ∙ ap (λ l. text ++ l) q ∙ sym (append_assoc text more lacking)

LacksLast-before : (ts us : List Exchange) (lacking : List ℕ) → LacksLast us lacking → LacksLast (ts ++ us) lacking
LacksLast-before ts us lacking (inl none) = inl none
LacksLast-before ts us lacking (inr (before, last, ends, whole)) = inr (ts ++ before, last, ap (λ l. ts ++ l) ends ∙ sym (append_assoc ts before (last ∷ [])), whole)

bounded_together : (ts us : List Exchange) (a b c : ClusterView) → AreBounded ts a b → AreBounded us b c → AreBounded (ts ++ us) a c
bounded_together [] us a b c p q = subst (λ (v : ClusterView). AreBounded us v c) p q
bounded_together (t ∷ ts) us a b c (first, (between, made, rest)) q = (first, (between, made, bounded_together ts us between b c rest q))

-- nothing was done
pub Ran-none : (ls : List Line) (c : ClusterView) (x : Option (List ℕ)) → Ran ls ls [] c c x x
Ran-none ls c x = record { exchanges = []; text = []; each = tt; split = refl; simulates = Simulates-none c; bounded = refl; says = refl; lacks = inl refl; wrote = Appends-nil x }

pub Cuts-none : (ls : List Line) (c : ClusterView) (x : Option (List ℕ)) → Cuts ls c c x x
Cuts-none ls c x = record { rest = ls; lacking = []; ran = Ran-none ls c x }

-- lines were answered after others
pub Ran-then : (ls ks rest : List Line) (lacking : List ℕ) (a b c : ClusterView) (x y z : Option (List ℕ)) → Does ls a b x y → Ran ks rest lacking b c y z → Ran (ls ++ ks) rest lacking a c x z
Ran-then ls ks rest lacking a b c x y z p q =
    record {
      exchanges = p.exchanges ++ q.exchanges;
      text = p.text ++ q.text;
      each = each_append p.exchanges q.exchanges p.each q.each;
      split = lines_together ls ks rest p.exchanges q.exchanges p.split q.split;
      simulates = λ stood. subst (λ es. Simulates a es c) (sym (flat_map-append entries_of_exchange p.exchanges q.exchanges)) (Simulates-after a b c (entries_of p.exchanges) (entries_of q.exchanges) p.simulates q.simulates stood);
      bounded = bounded_together p.exchanges q.exchanges a b c p.bounded q.bounded;
      says = texts_together p.exchanges q.exchanges p.text q.text lacking p.says q.says;
      lacks = LacksLast-before p.exchanges q.exchanges lacking q.lacks;
      wrote = Appends-trans x y z p.text q.text p.wrote q.wrote;
    }

pub Does-then : (ls ks : List Line) (a b c : ClusterView) (x y z : Option (List ℕ)) → Does ls a b x y → Does ks b c y z → Does (ls ++ ks) a c x z
Does-then ls ks a b c x y z p q = Ran-then ls ks [] [] a b c x y z p q

pub Does-cuts : (ls ks : List Line) (a b c : ClusterView) (x y z : Option (List ℕ)) → Does ls a b x y → Cuts ks b c y z → Cuts (ls ++ ks) a c x z
Does-cuts ls ks a b c x y z p q = record { rest = q.rest; lacking = q.lacking; ran = Ran-then ls ks q.rest q.lacking a b c x y z p q.ran }

-- more lines stay unanswered
pub Ran-more : (ls rest more : List Line) (lacking : List ℕ) (a b : ClusterView) (x y : Option (List ℕ)) → Ran ls rest lacking a b x y → Ran (ls ++ more) (rest ++ more) lacking a b x y
Ran-more ls rest more lacking a b x y p =
    record { exchanges = p.exchanges; text = p.text; each = p.each; split = ap (λ l. l ++ more) p.split ∙ append_assoc (lines_of p.exchanges) rest more; simulates = p.simulates; bounded = p.bounded; says = p.says; lacks = p.lacks; wrote = p.wrote }

pub Cuts-more : (ls more : List Line) (a b : ClusterView) (x y : Option (List ℕ)) → Cuts ls a b x y → Cuts (ls ++ more) a b x y
Cuts-more ls more a b x y p = record { rest = p.rest ++ more; lacking = p.lacking; ran = Ran-more ls p.rest more p.lacking a b x y p.ran }

-- ---- one line

simulates_one : (e : Exchange) (a b : ClusterView) → (HasWorld a → Simulates a (made_entries e.made) b) → HasWorld a → Simulates a (entries_of (e ∷ [])) b
simulates_one e a b p stood = subst (λ es. Simulates a es b) (sym (append-nil (made_entries e.made))) (p stood)

-- it was written
Does-made : (line : Line) (head end : List ℕ) (a b : ClusterView) (x y : Option (List ℕ)) → HasMade (reading_of line) head end a b → Appends x y (head ++ end) → Does (line ∷ []) a b x y
Does-made line head end a b x y p wrote =
    let exchange : Exchange = record { line = line; made = p.made; unsaid = p.unsaid } in
    record {
      exchanges = exchange ∷ [];
      text = head ++ end;
      each = (record { makes = p.makes; said = p.said }, tt);
      split = refl;
      simulates = simulates_one exchange a b p.simulates;
      bounded = (p.bounded, (b, p.simulates, refl));
      says = ap (λ l. l ++ []) p.whole;
      lacks = inl refl;
      wrote = wrote;
    }

-- an end of an end
IsEndOf-trans : (text end last : List ℕ) → IsEndOf text end → IsEndOf end last → IsEndOf text last
IsEndOf-trans text end last (front, p) (more, q) = (front ++ more, p ∙ ap (λ l. front ++ l) q ∙ sym (append_assoc front more last))

-- a front of its end was written, behind its head
Cuts-made : (line : Line) (head end : List ℕ) (a b : ClusterView) (x y z : Option (List ℕ)) → HasMade (reading_of line) head end a b → Appends x y head → WritesFront end y z → Cuts (line ∷ []) a b x z
Cuts-made line head end a b x y z p wrote q =
    let exchange : Exchange = record { line = line; made = p.made; unsaid = p.unsaid } in
    record {
      rest = [];
      lacking = q.lacking;
      ran = record {
        exchanges = exchange ∷ [];
        text = head ++ q.front;
        each = (record { makes = p.makes; said = p.said }, tt);
        split = refl;
        simulates = simulates_one exchange a b p.simulates;
        bounded = (p.bounded, (b, p.simulates, refl));
        says = append-nil (exchange_line exchange) ∙ p.whole ∙ ap (λ l. head ++ l) q.whole ∙ sym (append_assoc head q.front q.lacking);
        lacks = inr ([], exchange, refl, IsEndOf-trans (last_lines exchange) end q.lacking p.last (q.front, q.whole));
        wrote = Appends-trans x y z head q.front wrote q.wrote;
      };
    }

-- a line was served
pub Does-serves : {T E : Type 0} (line : Line) (a b : ClusterView) (x y : SinkView) (r : Result T E) → Serves (reading_of line) a b x y r → OnOk r (Does (line ∷ []) a b x.written y.written)
Does-serves line a b x y r p =
    on_ok_weaker r (λ wrote. Does-made line p.head p.end a b x.written y.written p.made (Appends-trans x.written p.between.written y.written p.head p.end p.said.wrote wrote)) p.says.whole

pub Cuts-serves : {T E : Type 0} (line : Line) (a b : ClusterView) (x y : SinkView) (r : Result T E) → Serves (reading_of line) a b x y r → OnErr r (Cuts (line ∷ []) a b x.written y.written)
Cuts-serves line a b x y r p = on_err_weaker r (Cuts-made line p.head p.end a b x.written p.between.written y.written p.made p.said.wrote) p.says.cut

-- ---- a part between line feeds

asking_is : (part text : List ℕ) (b : Bool) → text ≡ strip_carriage_return part → is_asking text ≡ b → asking part ≡ map line_of_text (cond b (text ∷ []) [])
asking_is part text b is asks = ap (λ l. map line_of_text (cond (is_asking l) (l ∷ []) [])) (sym is) ∙ ap (λ b. map line_of_text (cond b (text ∷ []) [])) asks

-- it asks nothing
pub Does-quiet : (part text : List ℕ) (c : ClusterView) (x : Option (List ℕ)) → text ≡ strip_carriage_return part → is_asking text ≡ false → Does (asking part) c c x x
Does-quiet part text c x is quiet = subst (λ ls. Does ls c c x x) (sym (asking_is part text false is quiet)) (Ran-none [] c x)
