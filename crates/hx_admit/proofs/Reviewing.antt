-- What a review promises, by how it ends.
--     refused_by         what stands against an ask
--     passed_on          an error that `?` passes on
--     served_found       what is found is served
--     listed_legal       what is listed is legal
--     passes_get, passes_list, passes_document, passes_events, passes_unchanged    asks that write nothing
--     since_legal        events are legal
--     refused_over, refused_under    the events that aren't there
--     may_none, may_one  no write, and one, may be made
--     served_replacement     what a PUT gives is served
--     found_replacement      the object that is there has its identity
--     given_stays        what requests give isn't on its way out
--     may_put, may_replace      an object with the next version, and that of a PUT, may be put
--     passes_create, passes_replace     asks of one write
--     passes_delete      a DELETE
use Rattle.std.proofs.Common.{◌≡◌, ◌<◌, ◌+◌, true≢false, ℕ, Bool, true, false, cond, filter, List, [], ◌∷◌, None, Some, Option, refl, sym, ap, subst, ◌∙◌, inl, inr, ◌⊎◌, nat_lt, ◌≤◌, le-ltb, lt-ltb, codes, arith}
use Rattle.std.specs.List.{AllByRecursion, IsDistinct}
use Rattle.std.proofs.lemmas.Bool.{not-true}
use Rattle.std.specs.Prelude.{Result, Ok, Err, IfErr, IsErrAnd}
use Rattle.hx_object.specs.Faults.{IsLegal}
use Rattle.hx_object.specs.declared.kind.Kind.{Kind}
use Rattle.hx_object.specs.declared.kind.Kind.TheVariants.{Secret}
use Rattle.hx_object.specs.declared.object.Id.{Id}
use Rattle.hx_object.specs.declared.object.Object.{Object}
use Rattle.hx_object.specs.declared.object.Payload.{Payload}
use Rattle.hx_object.specs.declared.object.Payload.TheVariants.{Namespace as NamespaceOf, Hierarchy, Anchor, Quota}
use Rattle.hx_model.specs.Answers.{refusal_of, writes_of, success, answer_found, is_listed, selected, same_object, with_status, replaced_by}
use Rattle.hx_discovery.specs.declared.document.Document.{Document}
use Rattle.hx_model.specs.Fields.{has_fields}
use Rattle.hx_model.specs.declared.fields.Fields.{Fields}
use Rattle.hx_model.specs.Limits.{is_namespace, bytes_in, greatest_version}
use Rattle.hx_model.specs.Serving.{IsServed, IsKept, IsLegalAnswer, is_given, is_kept, is_typed}
use Rattle.hx_model.specs.State.{State, Objects, object_at, has_home, with_version, state_after}
use Rattle.hx_model.specs.Tree.{is_terminating}
use Rattle.hx_model.specs.Valid.{IsStored, IsValid}
use Rattle.hx_model.specs.Windows.{events_since, is_over}
use Rattle.hx_model.specs.declared.event.Event.{Event}
use Rattle.hx_select.specs.Selectors.{selects}
use Rattle.hx_select.specs.declared.selector.Selector.{Selector}
use Rattle.hx_model.specs.declared.ask.Ask.{Ask}
use Rattle.hx_model.specs.declared.ask.Ask.TheVariants.{Get, List as ListOf, Create, Replace, Delete, Document as DocumentOf, Events as EventsSince}
use Rattle.hx_model.specs.declared.ask.Answer.{Answer}
use Rattle.hx_model.specs.declared.ask.Answer.TheVariants.{One, Many, Deleted, Document as Told, Events as Happened}
use Rattle.hx_model.specs.declared.key.Write.{Write}
use Rattle.hx_model.specs.declared.key.Write.TheVariants.{Put}
use Rattle.hx_model.specs.declared.refusal.Refusal.{Refusal}
use Rattle.hx_model.specs.declared.refusal.Refusal.TheVariants.{BadQuery, Expired, NoMemory}
use Rattle.hx_model.proofs.Lists.{all_filtered, all_more}
use Rattle.hx_model.proofs.Legality.{legal_with_version, legal_replaced, status_legal}
use Rattle.hx_model.proofs.Objects.{found_id}
use Rattle.hx_model.proofs.Planting.{terminating-replaced}
use Rattle.hx_model.proofs.Storing.{All-found}
use Rattle.hx_admit.specs.Inside.{IsRefusal, IsReplacement, IsDeletion, IsReviewed}
use Rattle.hx_model.specs.Denials.{refusal_by}
use Rattle.hx_admit.specs.Reviewing.{AreKept, Passes}
use Rattle.hx_model.specs.Writes.{MayPut, MayWrite, MayWriteAll, HasPlace, id_written}
use Rattle.hx_model.specs.declared.denial.Denial.{Denial}
use Rattle.hx_state.proofs.Counting.{valid_served}
use Rattle.hx_admit.proofs.Refusing.{replace_unchanged}
use Rattle.hx_admit.proofs.Ruled.{same_annotation}
use Rattle.hx_admit.proofs.Sameness.{differs}
use Rattle.hx_state.proofs.Alone.{alone_distinct, alone_apart, alone_naming}
use Rattle.hx_model.proofs.Objects.{object_at-put_itself}

-- ---- refusals

pub refused_by : (s : State) (ask : Ask) (id : Id) (denial : Denial) (refusal : Refusal) → refusal_of s ask ≡ Some (refusal_by id denial) → (refusal ≡ refusal_by id denial) ⊎ (refusal ≡ NoMemory) → IsRefusal s ask refusal
refused_by s ask id denial refusal e (inl is) = inr (e ∙ ap Some (sym is))
refused_by s ask id denial refusal e (inr is) = inl is

-- an error that `?` passes on
pub passed_on : {A E : Type 0} (P : E → Type 0) (result : Result A E) (error : E) → IsErrAnd result (λ found. found ≡ error) → P error → IfErr result P
passed_on P (Ok x) error is p = tt
passed_on P (Err found) error is p = subst P (sym is) p

-- ---- what is found, and what is listed

-- what is found is served
pub served_found : (s : State) (id : Id) (x : Object) → IsValid s → object_at s.objects id ≡ Some x → IsServed x
served_found s id x valid there = (All-found (IsStored s.last) id x s.objects valid.stored there).served

all_legal : (objects : Objects) → AllByRecursion IsServed objects → AllByRecursion IsLegal objects
all_legal [] all = tt
all_legal (x ∷ objects) all = (all.0.legal, all_legal objects all.1)

-- those of legal objects that pass a test
legal_among : (p : Object → Bool) (xs : Objects) → AllByRecursion IsLegal xs → AllByRecursion IsLegal (filter p xs)
legal_among p [] all = tt
legal_among p (x ∷ xs) all = elim (p x) as (λ b. AllByRecursion IsLegal (cond b (x ∷ filter p xs) (filter p xs))) [ true ↦ (all.0, legal_among p xs all.1) | false ↦ legal_among p xs all.1 ]

-- what is listed is legal
pub listed_legal : (s : State) → IsValid s → (kind : Kind) (ns : Option (List ℕ)) (selector : Selector) (fields : Fields) → AllByRecursion IsLegal (selected kind ns selector fields s.objects)
listed_legal s valid kind ns selector fields =
    legal_among (λ (x : Object). has_fields fields x.id) _ (legal_among (λ (x : Object). selects selector x.labels) _ (legal_among (is_listed kind ns) s.objects (all_legal s.objects (valid_served s valid))))

-- ---- asks that write nothing

not_less : (n : ℕ) → nat_lt n n ≡ false
not_less n = le-ltb n n (omega arith)

pub passes_get : (s : State) (id : Id) (x : Object) (writes : List Write) (says : Answer) → object_at s.objects id ≡ Some x → IsServed x → writes ≡ [] → says ≡ One x false → Passes s (Get id) writes says
passes_get s id x writes says there served none is =
    subst (λ ws. Passes s (Get id) ws says) (sym none) (subst (λ a. Passes s (Get id) [] a) (sym is) (record { passes = rw (there, not_less (bytes_in s.objects)) refl; changes = refl; says = ap (λ o. answer_found o false id) there; legal = served.legal }))

pub passes_list : (s : State) (kind : Kind) (ns : Option (List ℕ)) (selector : Selector) (fields : Fields) (writes : List Write) (says : Answer) → AllByRecursion IsLegal (selected kind ns selector fields s.objects) → writes ≡ [] → says ≡ Many kind (selected kind ns selector fields s.objects) s.last
    → Passes s (ListOf kind ns selector fields) writes says
passes_list s kind ns selector fields writes says legal none is =
    subst (λ ws. Passes s (ListOf kind ns selector fields) ws says) (sym none) (subst (λ a. Passes s (ListOf kind ns selector fields) [] a) (sym is)
    (record { passes = rw (not_less (bytes_in s.objects)) refl; changes = refl; says = refl; legal = legal }))

pub passes_document : (s : State) (document : Document) (writes : List Write) (says : Answer) → writes ≡ [] → says ≡ Told document → Passes s (DocumentOf document) writes says
passes_document s document writes says none is =
    subst (λ ws. Passes s (DocumentOf document) ws says) (sym none) (subst (λ a. Passes s (DocumentOf document) [] a) (sym is)
    (record { passes = rw (not_less (bytes_in s.objects)) refl; changes = refl; says = refl; legal = tt }))

-- the events since a version are legal
pub since_legal : (s : State) → IsValid s → (since : ℕ) → AllByRecursion (λ (e : Event). IsLegal e.object) (events_since since s.window.events)
since_legal s valid since =
    let legal = λ (e : Event). IsLegal e.object in
    all_filtered legal (is_over since) s.window.events (all_more legal (λ e. is_over since e ≡ true → legal e) s.window.events (λ e it _. it) valid.recent.legal)

pub passes_events : (s : State) (since : ℕ) (writes : List Write) (says : Answer) → AreKept s since → AllByRecursion (λ (e : Event). IsLegal e.object) (events_since since s.window.events) → writes ≡ [] → says ≡ Happened (events_since since s.window.events) s.last → Passes s (EventsSince since) writes says
passes_events s since writes says there legal none is =
    subst (λ ws. Passes s (EventsSince since) ws says) (sym none) (subst (λ a. Passes s (EventsSince since) [] a) (sym is)
    (record { passes = rw (le-ltb s.last since there.known, le-ltb since s.window.floor there.kept, not_less (bytes_in s.objects)) refl; changes = refl; says = refl; legal = legal }))

-- a version over the last one
pub refused_over : (s : State) (since : ℕ) (refusal : Refusal) → s.last < since → (refusal ≡ NoMemory) ⊎ (refusal ≡ BadQuery (codes "since")) → IsRefusal s (EventsSince since) refusal
refused_over s since refusal over (inl is) = inl is
refused_over s since refusal over (inr is) = inr ((rw (lt-ltb s.last since over) refl) ∙ ap Some (sym is))

-- a version under the floor
pub refused_under : (s : State) (since floor : ℕ) → since ≤ s.last → floor ≡ s.window.floor → since < s.window.floor → IsRefusal s (EventsSince since) (Expired floor)
refused_under s since floor known is under = inr ((rw (le-ltb s.last since known, lt-ltb since s.window.floor under) refl) ∙ ap (λ f. Some (Expired f)) (sym is))

-- the object that a PUT finds, and the one that it gives
legal_given : (s : State) (x old next : Object) (expected : Option ℕ) (skip : Bool) → IsReplacement s x old expected skip next → IsLegal (replaced_by old x)
legal_given s x old next expected skip r =
    let before : IsServed old = All-found IsServed x.id old s.objects (valid_served s r.valid) r.there in
    legal_replaced old x (status_legal old.id.kind old.payload before.legal.payload) r.served.legal

pub passes_unchanged : (s : State) (x old next : Object) (expected : Option ℕ) (skip : Bool) (writes : List Write) (says : Answer) → IsReplacement s x old expected skip next → next ≡ old → writes ≡ [] → says ≡ One old false → Passes s (Replace x expected skip) writes says
passes_unchanged s x old next expected skip writes says r same none answers =
    let quiet = replace_unchanged s x old next expected skip r same in
    subst (λ ws. Passes s (Replace x expected skip) ws says) (sym none) (subst (λ a. Passes s (Replace x expected skip) [] a) (sym answers) (record {
      passes = quiet.0;
      changes = quiet.1;
      says = ap (λ o. answer_found o false x.id) r.there;
      legal = subst (λ (y : Object). IsLegalAnswer (One y false)) (sym r.gives ∙ same) (legal_given s x old next expected skip r);
    }))

-- ---- writes that may be made

pub may_none : (s : State) (writes : List Write) → writes ≡ [] → MayWriteAll s writes
unfolding IsDistinct
may_none s writes none = subst (MayWriteAll s) (sym none) (record { each = tt; distinct = tt; apart = tt; alone = λ some. absurd (true≢false (sym some)); naming = omega arith; fits = λ some. absurd (some refl) })

pub may_one : (s : State) (write : Write) (writes : List Write) → MayWrite s write → s.last < greatest_version → writes ≡ write ∷ [] → MayWriteAll s writes
may_one s write writes may fits is =
    subst (MayWriteAll s) (sym is) (record { each = (may, tt); distinct = alone_distinct (id_written write); apart = alone_apart (id_written write); alone = λ _. refl; naming = alone_naming s.objects write; fits = λ some. fits })

-- what requests give isn't on its way out
pub given_stays : (payload : Payload) → is_given payload ≡ true → is_terminating payload ≡ false
given_stays (NamespaceOf t) given = not-true t given
given_stays _ given = refl

-- what may be stored under one version may be under another
kept_with_version : (x : Object) (version : ℕ) → IsKept x → IsKept (with_version x version)
kept_with_version x version kept = record { labels = kept.labels; annotations = kept.annotations; payload = kept.payload; typed = kept.typed }

-- an object with the next version
pub may_put : (s : State) (x : Object) → IsServed x → has_home s.objects x.id ≡ true → (is_namespace x.id.kind ≡ true → HasPlace (object_at s.objects x.id) x) → MayPut s (with_version x (s.last + 1))
may_put s x served home later = record {
  served = record { legal = legal_with_version x (s.last + 1) served.legal; kept = kept_with_version x (s.last + 1) served.kept };
  next = refl;
  home = home;
  place = λ is. each (object_at s.objects x.id) (later is);
}
  where
    each : (o : Option Object) → HasPlace o x → HasPlace o (with_version x (s.last + 1))
    each None p = p
    each (Some old) p = record { annotation = p.annotation; phase = p.phase }

-- ---- replacements

-- the payload that a PUT gives may be stored
still_kept : (old x : Payload) → is_kept old ≡ true → is_kept x ≡ true → is_kept (with_status old x) ≡ true
still_kept (NamespaceOf t) (NamespaceOf u) p q = refl
still_kept (Hierarchy a b c d) (Hierarchy e f g h) p q = refl
still_kept (Anchor s) (Anchor t) p q = refl
still_kept (Quota h s) (Quota k t) p q = refl
still_kept old x p q = q

-- and is of the type that is given
same_type : (old x : Payload) → is_typed Secret x ≡ true → is_typed Secret (with_status old x) ≡ true
same_type (NamespaceOf t) (NamespaceOf u) is = refl
same_type (Hierarchy a b c d) (Hierarchy e f g h) is = refl
same_type (Anchor s) (Anchor t) is = refl
same_type (Quota h s) (Quota k t) is = refl
same_type old x is = is

still_typed : (kind : Kind) (old x : Payload) → is_typed kind x ≡ true → is_typed kind (with_status old x) ≡ true
still_typed Secret old x is = same_type old x is
still_typed kind old x is = refl

kept_replaced : (old x : Object) → IsKept old → IsKept x → IsKept (replaced_by old x)
kept_replaced old x before kept = record {
  labels = kept.labels;
  annotations = kept.annotations;
  payload = still_kept old.payload x.payload before.payload kept.payload;
  typed = still_typed x.id.kind old.payload x.payload kept.typed;
}

-- the object that a PUT gives
module _ (s : State) (x old next : Object) (expected : Option ℕ) (skip : Bool) (r : IsReplacement s x old expected skip next) where
  served_before : IsServed old
  served_before = All-found IsServed x.id old s.objects (valid_served s r.valid) r.there

  served_given : IsServed (replaced_by old x)
  served_given = record { legal = legal_given s x old next expected skip r; kept = kept_replaced old x served_before.kept r.served.kept }

  pub served_replacement : IsServed next
  served_replacement = subst IsServed (sym r.gives) served_given

  -- the object that is there has its identity
  pub found_replacement : object_at s.objects next.id ≡ Some old
  found_replacement = ap (λ (y : Object). object_at s.objects y.id) r.gives ∙ r.there

  -- its namespace is that of the object that is there
  home_before : has_home s.objects x.id ≡ true
  home_before = ap (has_home s.objects) (found_id s.objects x.id old r.there) ∙ All-found (λ (y : Object). has_home s.objects y.id ≡ true) x.id old s.objects r.valid.housed r.there

  pub may_replace : MayPut s (with_version next (s.last + 1))
  may_replace =
      subst (λ (y : Object). MayPut s (with_version y (s.last + 1))) (sym r.gives)
      (may_put s (replaced_by old x) served_given home_before (λ is.
      subst (λ (o : Option Object). HasPlace o (replaced_by old x)) (sym r.there)
      (record { annotation = same_annotation s x old expected skip r.there r.passes is; phase = λ gone. terminating-replaced old x (sym (found_id s.objects x.id old r.there)) is served_before r.served ∙ gone })))

-- ---- asks of one write

passes_write : (s : State) (ask : Ask) (write : Write) (answer : Answer) (writes : List Write) (says : Answer) → refusal_of s ask ≡ None → writes_of s ask ≡ write ∷ [] → success s (state_after s (write ∷ [])) ask ≡ answer → IsLegalAnswer answer
    → IsReviewed write answer writes says → Passes s ask writes says
passes_write s ask write answer writes says passes changes is legal reviewed =
    subst (λ ws. Passes s ask ws says) (sym reviewed.writing) (subst (λ a. Passes s ask (write ∷ []) a) (sym reviewed.answers) (record { passes = passes; changes = changes; says = is; legal = legal }))

pub passes_create : (s : State) (x : Object) (skip : Bool) (writes : List Write) (says : Answer) → IsServed x → refusal_of s (Create x skip) ≡ None
    → IsReviewed (Put (with_version x (s.last + 1))) (One (with_version x (s.last + 1)) true) writes says → Passes s (Create x skip) writes says
passes_create s x skip writes says served passes reviewed =
    passes_write s (Create x skip) (Put (with_version x (s.last + 1))) (One (with_version x (s.last + 1)) true) writes says passes refl (ap (λ o. answer_found o true x.id) (object_at-put_itself (with_version x (s.last + 1)) s.objects)) (legal_with_version x (s.last + 1) served.legal) reviewed

pub passes_replace : (s : State) (x old next : Object) (expected : Option ℕ) (skip : Bool) (writes : List Write) (says : Answer) → IsReplacement s x old expected skip next → (next ≡ old → ⊥) → refusal_of s (Replace x expected skip) ≡ None
    → IsReviewed (Put (with_version next (s.last + 1))) (One (with_version next (s.last + 1)) false) writes says → Passes s (Replace x expected skip) writes says
passes_replace s x old next expected skip writes says r apart passes reviewed =
    let unlike : same_object (replaced_by old x) old ≡ false = differs (replaced_by old x) old (λ e. apart (r.gives ∙ e)) in
    let made = subst (λ (y : Object). IsReviewed (Put (with_version y (s.last + 1))) (One (with_version y (s.last + 1)) false) writes says) r.gives reviewed in
    let legal = legal_given s x old next expected skip r in
    let next = with_version (replaced_by old x) (s.last + 1) in
    let there : object_at s.objects x.id ≡ Some old = r.there in
    passes_write s (Replace x expected skip) (Put next) (One next false) writes says passes (rw (there, unlike) refl) (ap (λ o. answer_found o false x.id) (object_at-put_itself next s.objects)) (legal_with_version (replaced_by old x) (s.last + 1) legal) made

-- ---- removals

pub passes_delete : (s : State) (id : Id) (old : Object) (skip : Bool) (deletes writes : List Write) (says : Answer) → IsDeletion s id old skip deletes → refusal_of s (Delete id skip) ≡ None
    → writes ≡ deletes → says ≡ Deleted (state_after s deletes).last → Passes s (Delete id skip) writes says
passes_delete s id old skip deletes writes says d passes is answers =
    subst (λ ws. Passes s (Delete id skip) ws says) (sym is) (record { passes = passes; changes = sym d.changes; says = sym answers; legal = subst IsLegalAnswer (sym answers) tt })
