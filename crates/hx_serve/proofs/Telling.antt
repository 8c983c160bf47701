-- What a door tells that handed links out.
use Rattle.std.proofs.Common.{◌≡◌, ◌<◌, ◌∙◌, ℕ, List, [], ◌∷◌, ◌++◌, None, Some, refl, sym, ap, subst, arith, append_assoc, append-nil, map}
use Rattle.std.specs.Prelude.{OnSome}
use Rattle.std.specs.declared.option.Option.{Option}
use Rattle.std.specs.List.{AllByRecursion}
use Rattle.std.specs.Io.KnownBytes.{Appends}
use Rattle.hx_link.specs.declared.link.LinkEnd.{LinkEnd}
use Rattle.hx_link.specs.declared.link.LinkEnd.TheVariants as end
use Rattle.hx_door.specs.Doors.{DoorView, Gains, Gives}
use Rattle.hx_serve.specs.Exchanges.{Exchange}
use Rattle.hx_serve.specs.Visits.{HasVisited, HaveVisited, IsEnd, IsVisit, LinkView, TellsScripts, TellsTexts, Visit, left_of, written_of}

-- ---- what comes

gives : (old new : Option (List (List ℕ))) (left : Option (List ℕ)) (scripts : List (List ℕ)) → old ≡ Some scripts → Gives old new left → (script : List ℕ) × (rest : List (List ℕ)) × (scripts ≡ script ∷ rest) × (new ≡ Some rest) × (left ≡ Some script)
gives old new left [] is p = absurd (subst (λ (o : Option (List (List ℕ))). Gives o new left) is p)
gives old new left (script ∷ rest) is p = let q = subst (λ (o : Option (List (List ℕ))). Gives o new left) is p in (script, rest, refl, q.0, q.1)

pub tells_scripts : (visits : List Visit) (x y : DoorView) → HaveVisited x visits y → TellsScripts x visits y
tells_scripts [] x y p scripts is = ([], scripts, refl, ap (λ (d : DoorView). d.coming) p ∙ is, refl)
tells_scripts (v ∷ visits) x y (between, one, others) scripts is =
    let (script, rest, whole, coming, left) = gives x.coming one.between.coming v.before.source.left scripts is one.hands.gives in
    let (sent, more, split, last, told) = tells_scripts visits between y others rest (ap (λ (d : DoorView). d.coming) one.takes.counts ∙ coming) in
    (script ∷ sent, more, whole ∙ ap (λ l. script ∷ l) split, last, ap (λ (o : Option (List ℕ)). o ∷ map left_of visits) left ∙ ap (λ l. Some script ∷ l) told)

-- ---- what was written

-- all that was written to a link is told where its sink tells it
appended : (x y : Option (List ℕ)) (text : List ℕ) → x ≡ Some [] → Appends x y text → (all : List ℕ) × (y ≡ Some all)
appended None y text is p = absurd cc
appended (Some s) None text is p = absurd p
appended (Some s) (Some all) text is p = (all, refl)

ended : (how : LinkEnd) (before after : LinkView) (exchanges : List Exchange) → IsEnd how before after exchanges → (text : List ℕ) × Appends before.sink.written after.sink.written text
ended end.Closed before after exchanges p = (p.2.1.text, p.2.1.wrote)
ended end.CutShort before after exchanges p = (p.2.1.text, p.2.1.wrote)
ended end.ReadFault before after exchanges p = (p.0.answers.text, p.0.answers.wrote)
ended end.WriteFault before after exchanges p = (p.0.2.answers.text, p.0.2.answers.wrote)
ended end.TooLong before after exchanges p = (p.0.2.answers.text, p.0.2.answers.wrote)
ended end.NoMemory before after exchanges p = (p.2.answers.text, p.2.answers.wrote)

blank : (old : Option (List (List ℕ))) (texts : List (List ℕ)) (x : Option (List ℕ)) → old ≡ Some texts → OnSome old (x ≡ Some []) → x ≡ Some []
blank None texts x is p = absurd cc
blank (Some s) texts x is p = p

gained : (old new : Option (List (List ℕ))) (written : Option (List ℕ)) (texts : List (List ℕ)) (text : List ℕ) → old ≡ Some texts → written ≡ Some text → Gains old new written → new ≡ Some (texts ++ text ∷ [])
gained old new written texts text is told p = subst (λ (w : Option (List ℕ)). Gains (Some texts) new w) told (subst (λ (o : Option (List (List ℕ))). Gains o new written) is p)

some_out : (x y : DoorView) → y.out ≡ x.out → 0 < x.out → 0 < y.out
some_out x y same some = omega (arith, same, some)

one_gained : (v : Visit) (x y : DoorView) (texts : List (List ℕ)) → IsVisit v → HasVisited x v y → x.written ≡ Some texts → (text : List ℕ) × (v.after.sink.written ≡ Some text) × (y.written ≡ Some (texts ++ text ∷ []))
one_gained v x y texts is one told =
    let (said, wrote) = ended v.end v.before v.after v.exchanges is.ends in
    let (text, all) = appended v.before.sink.written v.after.sink.written said (blank x.written texts v.before.sink.written told one.hands.blank) wrote in
    let kept : one.between.written ≡ Some texts = ap (λ (d : DoorView). d.written) one.hands.counts ∙ told in
    let some : 0 < one.between.out = omega (arith, ap (λ (d : DoorView). d.out) one.hands.counts) in
    (text, all, gained one.between.written y.written v.after.sink.written texts text kept all (one.takes.gains some))

pub tells_texts : (visits : List Visit) (x y : DoorView) → AllByRecursion IsVisit visits → HaveVisited x visits y → TellsTexts x visits y
tells_texts [] x y each p texts is = ([], ap (λ (d : DoorView). d.written) p ∙ is ∙ ap (λ l. Some l) (sym (append-nil texts)), refl)
tells_texts (v ∷ visits) x y each (between, one, others) texts is =
    let (text, all, gain) = one_gained v x between texts each.0 one is in
    let (got, last, told) = tells_texts visits between y each.1 others (texts ++ text ∷ []) gain in
    (text ∷ got, last ∙ ap (λ l. Some l) (append_assoc texts (text ∷ []) got), ap (λ (o : Option (List ℕ)). o ∷ map written_of visits) all ∙ ap (λ l. Some text ∷ l) told)
