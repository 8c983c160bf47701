-- What a function adds to a list, by what its calls add.
--     grown           an equal list
--     grown_on        something behind what another call adds
--     grown_twice     something behind what two calls add
--     carried         the next item of a loop, and those of the rest
--     kept_next       the next item of a loop that keeps some
--     nothing         none
--     none_sent, none_held      nothing is sent of a kind that isn't propagated, or that has no objects
--     no_kind_marks   where a kind is ignored and propagated as before, nothing is marked
use Rattle.std.specs.Prelude.{flat_map, OnOk}
use Rattle.std.proofs.Common.{◌≡◌, ℕ, Bool, true, false, cond, not, ◌&&◌, Option, Some, None, List, [], ◌∷◌, ◌++◌, ◌+◌, ◌<◌, length, get_or, drop, filter, map, Result, Ok, Err, refl, sym, ap, ◌∙◌, append-nil, if◌then◌else◌}
use Rattle.std.proofs.lemmas.Bool.{and_parts}
use Rattle.std.proofs.lemmas.List.{append_assoc, at_drop_more}
use Rattle.hx_object.specs.declared.kind.Kind.{Kind}
use Rattle.hx_object.specs.declared.object.Mode.{Mode}
use Rattle.hx_object.specs.declared.object.Object.{Object}
use Rattle.hx_model.specs.Answers.{is_listed}
use Rattle.hx_model.specs.Exceptions.{none_of, passes, is_false}
use Rattle.hx_model.specs.Limits.{is_copy}
use Rattle.hx_model.specs.Moves.{mode_at}
use Rattle.hx_model.specs.Propagation.{is_propagated, is_source, stays_home}
use Rattle.hx_model.specs.State.{State, Objects}
use Rattle.hx_model.specs.Tree.{forest_of}
use Rattle.hx_model.specs.TreeLabels.{is_open}
use Rattle.hx_marks.specs.Law.{apart, copy_marks, differ, is_ignored, is_sent, key_for, kind_marks, listed_in, open_below, sent_from, source_marks}

pub grown : {A T E : Type 0} (r : Result T E) (new old xs ys : List A) → xs ≡ ys → OnOk r (new ≡ old ++ xs) → OnOk r (new ≡ old ++ ys)
grown (Ok x) new old xs ys same h = h ∙ ap (λ zs. old ++ zs) same
grown (Err e) new old xs ys same h = tt

pub grown_on : {A T E : Type 0} (r : Result T E) (new mid old xs ys zs : List A) → mid ≡ old ++ xs → xs ++ ys ≡ zs → OnOk r (new ≡ mid ++ ys) → OnOk r (new ≡ old ++ zs)
grown_on (Ok x) new mid old xs ys zs first same h = h ∙ ap (λ all. all ++ ys) first ∙ append_assoc old xs ys ∙ ap (λ all. old ++ all) same
grown_on (Err e) new mid old xs ys zs first same h = tt

pub grown_twice : {A T E : Type 0} (r : Result T E) (new mid first old xs ys zs : List A) → first ≡ old ++ xs → mid ≡ first ++ ys → OnOk r (new ≡ mid ++ zs) → OnOk r (new ≡ old ++ (xs ++ (ys ++ zs)))
grown_twice r new mid first old xs ys zs one two h =
    grown_on r new mid old (xs ++ ys) zs (xs ++ (ys ++ zs)) (two ∙ ap (λ all. all ++ ys) one ∙ append_assoc old xs ys) (append_assoc xs ys zs) h

-- a loop adds what it has of the next item: with the rest it is the same
pub carried : {A B : Type 0} (f : A → List B) (xs : List A) (i : ℕ) (x : A) (new mid start : List B) → i < length xs → x ≡ get_or xs i x → new ≡ mid ++ f x → mid ++ flat_map f (drop i xs) ≡ start → new ++ flat_map f (drop (i + 1) xs) ≡ start
carried f xs i x new mid start within is added before =
    let rest = flat_map f (drop (i + 1) xs) in
    ap (λ ys. ys ++ rest) added
    ∙ append_assoc mid (f x) rest
    ∙ ap (λ ys. mid ++ ys) (sym (at_drop_more (flat_map f) xs i x within ∙ ap (λ y. f y ++ rest) (sym is)))
    ∙ before

-- a loop keeps the next item, which passes a test
pub kept_next : {A : Type 0} (t : A → Bool) (xs : List A) (i : ℕ) (x : A) (new mid start : List A) → i < length xs → x ≡ get_or xs i x → t x ≡ true → new ≡ mid ++ x ∷ [] → mid ++ filter t (drop i xs) ≡ start → new ++ filter t (drop (i + 1) xs) ≡ start
kept_next t xs i x new mid start within is kept added before =
    let rest = filter t (drop (i + 1) xs) in
    ap (λ ys. ys ++ rest) added
    ∙ append_assoc mid (x ∷ []) rest
    ∙ ap (λ ys. mid ++ ys) (sym (at_drop_more (filter t) xs i x within ∙ ap (λ y. cond (t y) (y ∷ rest) rest) (sym is) ∙ ap (λ b. cond b (x ∷ rest) rest) kept))
    ∙ before

pub nothing : {A : Type 0} (old xs : List A) → xs ≡ [] → old ≡ old ++ xs
nothing old xs none = sym (append-nil old) ∙ ap (λ zs. old ++ zs) (sym none)

-- ---- filters that take nothing

none_kept : (t : Object → Bool) (xs : Objects) → ((x : Object) → t x ≡ false) → filter t xs ≡ []
none_kept t [] out = refl
none_kept t (x ∷ xs) out = ap (λ b. cond b (x ∷ filter t xs) (filter t xs)) (out x) ∙ none_kept t xs out

none_added : {A B : Type 0} (f : A → List B) (xs : List A) → ((x : A) → f x ≡ []) → flat_map f xs ≡ []
none_added f [] out = refl
none_added f (x ∷ xs) out = λ i. out x i ++ none_added f xs out i

unsent : (mode : Mode) (x : Object) → is_propagated mode ≡ false → is_sent mode x ≡ false
unsent mode x out = ap (λ b. b && (is_source x && (not (stays_home x) && passes is_false (none_of x)))) out

pub none_sent : (objects : Objects) (kind : Kind) (names : List (List ℕ)) → is_propagated (mode_at objects kind) ≡ false → sent_from objects kind names ≡ []
none_sent objects kind names out = none_added (λ a. filter (is_sent (mode_at objects kind)) (listed_in objects kind a)) names (λ a. none_kept (is_sent (mode_at objects kind)) (listed_in objects kind a) (λ x. unsent (mode_at objects kind) x out))

pub none_held : (objects : Objects) (kind : Kind) (names : List (List ℕ)) → ((ns : Option (List ℕ)) → filter (is_listed kind ns) objects ≡ []) → sent_from objects kind names ≡ []
none_held objects kind names none = none_added (λ a. filter (is_sent (mode_at objects kind)) (listed_in objects kind a)) names (λ a. ap (filter (is_sent (mode_at objects kind))) (none (Some a)))

-- ---- modes

alike : (a b : Bool) → not (differ a b) ≡ true → differ a b ≡ false
alike true true e = refl
alike true false e = sym e
alike false true e = sym e
alike false false e = refl

alike_and : (a b c : Bool) → not (differ a b) ≡ true → differ (a && c) (b && c) ≡ false
alike_and true true true e = refl
alike_and true true false e = refl
alike_and true false true e = sym e
alike_and true false false e = refl
alike_and false true true e = sym e
alike_and false true false e = refl
alike_and false false c e = refl

pub no_kind_marks : (s : State) (a b : Mode) (kind : Kind) → (not (differ (is_ignored a) (is_ignored b)) && not (differ (is_propagated a) (is_propagated b))) ≡ true → kind_marks s a b kind ≡ []
no_kind_marks s a b kind same =
    none_added (λ x. copy_marks (forest_of s) a b x ++ source_marks (forest_of s) a b x) (filter (is_listed kind None) s.objects)
    (λ x. λ i. copies x i ++ sources x i)
  where
    parts : (not (differ (is_ignored a) (is_ignored b)) ≡ true) × (not (differ (is_propagated a) (is_propagated b)) ≡ true)
    parts = and_parts (not (differ (is_ignored a) (is_ignored b))) (not (differ (is_propagated a) (is_propagated b))) same

    copies : (x : Object) → copy_marks (forest_of s) a b x ≡ []
    copies x = ap (λ t. if t && (is_copy x && is_open (forest_of s) x.id.ns) then key_for x.id.ns x ∷ [] else []) (alike (is_ignored a) (is_ignored b) parts.0)

    sources : (x : Object) → source_marks (forest_of s) a b x ≡ []
    sources x = ap (λ t. if t then map (λ m. key_for m x) (apart (open_below (forest_of s) x.id.ns) (x.id.ns ∷ [])) else [])
        (alike_and (is_propagated a) (is_propagated b) (is_source x && (not (stays_home x) && passes is_false (none_of x))) parts.1)
