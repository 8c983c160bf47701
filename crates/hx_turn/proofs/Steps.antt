-- That each step keeps the rule.
use Rattle.std.proofs.Common.{◌≡◌, ◌≢◌, ℕ, zero, suc, ◌+◌, ◌%◌, ◌^◌, ◌<◌, Bool, true, false, true≢false, cond, List, [], ◌∷◌, ◌++◌, set, slice_index, Option, Some, None, is_some, refl, sym, ap, subst, ◌∙◌, arith}
use Rattle.std.proofs.Math.Nat.{mod-add-mod}
use mathlib.Core.Option.{some, none, some-injective, some-ne-none}
use mathlib.Core.List.{IsPrefix}
use native.Mathlib.Decide.{ℕ_discrete}
use mathlib.Core.Logic.{dite}
use lib.ListN.{get_elem?}
use Rattle.atomic_table.specs.Table.{State, Me, step, Act, keeps, takes, gives, put_back, rest, Allows, Splits, Joins, opening, Final, Seen}
use Rattle.atomic_table.proofs.Lists.{one_turn, set_here, set_again, set_else, at_longer}
use Rattle.hx_turn.specs.declared.view.View.{View}
use Rattle.hx_turn.specs.Passes.{all_rights, carrying, after_entry, after_split, split_off, first_pass, spent, joined}
use Rattle.hx_turn.specs.Rule.{has_ticket, rights_of, Fits, Kept}
use Rattle.hx_turn.specs.Steps.{Draws, Looks, Hears, Leaves}
use Rattle.hx_turn.proofs.Lists.{total_set, two_at_most, total_le, total_snoc, each_snoc, pairs_snoc, each_set, each_unset, pairs_set, there, longer, whole, carrying_own, carrying_other}

pub same_Some : {X : Type 0} {x y : X} → Some x ≡ Some y → x ≡ y
same_Some e = cc

-- it waits for nothing, has nothing and has a right
abbrev pub IsFree : {E O : Type 0} → View E O → Type 0
IsFree v = (v.ticket ≡ None) × (v.inside ≡ false) × (0 < v.rights)

no_ticket : {E O : Type 0} (v : View E O) → v.ticket ≡ None → has_ticket v ≡ 0
no_ticket v e = ap (λ t. cond (is_some t) 1 0) e

one_ticket : {E O : Type 0} (v : View E O) (t : ℕ) → v.ticket ≡ Some t → has_ticket v ≡ 1
one_ticket v t e = ap (λ t. cond (is_some t) 1 0) e

module _ {E O T : Type 0} (stands : T → O → List (ℕ × E) → Type 0) (o : O) where
  pub draws : (slots id : ℕ) (me : Me (Option T) (View E O)) → me.0.ticket ≡ None → me.0.inside ≡ false → 0 < me.0.rights
      → Allows (Kept stands o) slots id me 0 (λ n. (n + 1) % 2 ^ 64) (Draws stands (step slots 0 1 0 none) me)
  draws slots id me bare out some_right s k len at small =
      let v = me.0 in
      let w = record v { ticket = Some k.tickets } in
      let mine = k.each id v at in
      let count = total_set has_ticket s.views id v w at in
      let weigh = total_set rights_of s.views id v w at in (
        w,
        keeps,
        tt,
        record {
          log = k.log;
          tickets = k.tickets + 1;
          serving = k.serving;
          given = k.given;
          words = ap (λ ws. set ws 0 ((slice_index ws 0 + 1) % 2 ^ 64)) k.words ∙ ap (λ n. n ∷ k.serving % 2 ^ 64 ∷ []) (mod-add-mod k.tickets (2 ^ 64) 1);
          waiting = omega (arith, count, k.waiting, no_ticket v bare);
          rights = omega (arith, weigh, k.rights);
          each = each_set (Fits o k.log (k.tickets + 1) k.serving k.given) s.views id w
              (λ i u ne e. let f = k.each i u e in record {
                waits = λ t h. (let p = f.waits t h in (p.0, omega (arith, p.1)));
                served = f.served;
                entitled = f.entitled;
                begins = f.begins;
                told = f.told;
                own = f.own;
                numbered = f.numbered;
                opened = f.opened;
                gives = f.gives;
              })
              (record {
                waits = λ t h. (let p : k.tickets ≡ t = same_Some h in omega (arith, k.waiting, p));
                served = λ h. absurd (true≢false (sym h ∙ out));
                entitled = omega (arith, some_right);
                begins = mine.begins;
                told = mine.told;
                own = mine.own;
                numbered = mine.numbered;
                opened = mine.opened;
                gives = mine.gives;
              });
          apart = λ i j a b t ei ej ea eb. pairs_set (λ i j a b. (t : ℕ) → a.ticket ≡ Some t → b.ticket ≡ Some t → i ≡ j) s.views id w
              (λ i j a b ei ej t ea eb. k.apart i j a b t ei ej ea eb)
              (λ j b ne e. (
                (λ t ha hb. absurd (let p : k.tickets ≡ t = same_Some ha in let q = ((k.each j b e).waits t hb).1 in omega (arith, p, q))),
                (λ t hb ha. absurd (let p : k.tickets ≡ t = same_Some ha in let q = ((k.each j b e).waits t hb).1 in omega (arith, p, q))),
              ))
              (λ t ha hb. refl) i j a b ei ej t ea eb;
          named = pairs_set (λ i j a b. 0 < rights_of a → 0 < rights_of b → a.number ≡ b.number → i ≡ j) s.views id w
              (λ i j a b ei ej pa pb h. k.named i j a b ei ej pa pb h)
              (λ j b ne e. ((λ pa pb h. k.named id j v b at e some_right pb h), (λ pb pa h. k.named j id b v e at pb some_right h)))
              (λ pa pb h. refl);
          one = pairs_set (λ i j a b. a.first ≡ true → b.first ≡ true → i ≡ j) s.views id w
              (λ i j a b ei ej f g. k.one i j a b ei ej f g)
              (λ j b ne h. ((λ f g. k.one id j me.0 b at h f g), (λ f g. k.one j id b me.0 h at f g)))
              (λ f g. refl);
          slot = λ free. k.slot (each_unset (λ u. u.inside ≡ false) s.views id v w at out free);
          unused = k.unused;
          stood = k.stood;
        },
        (k.tickets, ap (λ ws. slice_index ws 0) k.words, refl),
      )

  either_way : (b : Bool) → (b ≡ true → b ≡ false) → b ≡ false
  either_way true f = f refl
  either_way false f = refl

  pub looks : (slots id : ℕ) (me : Me (Option T) (View E O)) (t : ℕ) → me.0.ticket ≡ Some t → me.0.inside ≡ false
      → Allows (Kept stands o) slots id me 1 (λ n. n) (Looks stands (step slots 1 0 0 none) me)
  looks slots id me t has out s k len at small = dite (ℕ_discrete (slice_index s.words 1) (t % 2 ^ 64)) hit miss
    where
      v : View E O
      v = me.0

      mine : Fits o k.log k.tickets k.serving k.given me.0
      mine = k.each id me.0 at

      hit : slice_index s.words 1 ≡ t % 2 ^ 64
          → (w : View E O) × (a : Act (Option T)) × Rattle.atomic_table.specs.Table.Valid s.homes me.1 a
          × Kept stands o (Rattle.atomic_table.specs.Table.stepped s 1 (slice_index s.words 1) id me.1 w a)
          × Looks stands (step slots 1 0 0 none) me (slice_index s.words 1) (w, Rattle.atomic_table.specs.Table.carried_after me.1 a)
      hit e =
          let served : k.serving % 2 ^ 64 ≡ t % 2 ^ 64 = sym (ap (λ ws. slice_index ws 1) k.words) ∙ e in
          let p = mine.waits t has in
          let most = total_le has_ticket rights_of s.views (λ i u h. (k.each i u h).entitled) in
          let turn : k.serving ≡ t = one_turn k.serving t (2 ^ 64) p.0 (omega (arith, k.waiting, k.rights, most, p.1)) served in
          let free : (i : ℕ) (u : View E O) → get_elem? s.views i ≡ some u → u.inside ≡ false = λ i u h. either_way u.inside (λ in_it.
          let same : i ≡ id = k.apart i id u me.0 t h at (((k.each i u h).served in_it).0 ∙ ap Some turn) has in
          ap (λ (x : View E O). x.inside) (some-injective u me.0 (sym h ∙ ap (get_elem? s.views) same ∙ at)) ∙ out) in
          let got = k.slot free in
          let some_right : 0 < rights_of me.0 = (let r = mine.entitled in let one = one_ticket me.0 t has in omega (arith, r, one)) in
          let w = record me.0 { inside = true; seen = k.log } in
          let count = total_set has_ticket s.views id me.0 w at in
          let weigh = total_set rights_of s.views id me.0 w at in (
            w,
            takes 0 (Some got.0),
            got.1,
            record {
              log = k.log;
              tickets = k.tickets;
              serving = k.serving;
              given = k.given;
              words = ap (λ ws. set ws 1 (slice_index ws 1)) k.words;
              waiting = omega (arith, count, k.waiting);
              rights = omega (arith, weigh, k.rights);
              each = each_set (Fits o k.log k.tickets k.serving k.given) s.views id w (λ i u ne h. k.each i u h) (record {
                waits = mine.waits;
                served = λ h. (has ∙ ap Some (sym turn), refl);
                entitled = mine.entitled;
                begins = whole k.log;
                told = mine.told;
                own = mine.own;
                numbered = mine.numbered;
                opened = mine.opened;
                gives = mine.gives;
              });
              apart = λ i j a b n ei ej ea eb. pairs_set (λ i j a b. (n : ℕ) → a.ticket ≡ Some n → b.ticket ≡ Some n → i ≡ j) s.views id w
                  (λ i j a b ei ej n ea eb. k.apart i j a b n ei ej ea eb)
                  (λ j b ne h. ((λ n ha hb. k.apart id j me.0 b n at h ha hb), (λ n hb ha. k.apart j id b me.0 n h at hb ha)))
                  (λ n ha hb. refl) i j a b ei ej n ea eb;
              named = pairs_set (λ i j a b. 0 < rights_of a → 0 < rights_of b → a.number ≡ b.number → i ≡ j) s.views id w
                  (λ i j a b ei ej pa pb h. k.named i j a b ei ej pa pb h)
                  (λ j b ne h. ((λ pa pb q. k.named id j me.0 b at h pa pb q), (λ pb pa q. k.named j id b me.0 h at pb pa q)))
                  (λ pa pb h. refl);
              one = pairs_set (λ i j a b. a.first ≡ true → b.first ≡ true → i ≡ j) s.views id w
                  (λ i j a b ei ej f g. k.one i j a b ei ej f g)
                  (λ j b ne h. ((λ f g. k.one id j me.0 b at h f g), (λ f g. k.one j id b me.0 h at f g)))
                  (λ f g. refl);
              slot = λ none_in. absurd (true≢false (none_in id w (set_here s.views id w (there s.views id me.0 at))));
              unused = k.unused;
              stood = k.stood;
            },
            (λ n h. let q : t ≡ n = same_Some (sym has ∙ h) in (
              (λ _. (got.0, k.log, refl, mine.begins, mine.own some_right, (o, mine.opened some_right, got.2))),
              (λ ne. absurd (ne (e ∙ ap (λ m. m % 2 ^ 64) q))),
            )),
          )

      miss : slice_index s.words 1 ≢ t % 2 ^ 64
          → (w : View E O) × (a : Act (Option T)) × Rattle.atomic_table.specs.Table.Valid s.homes me.1 a
          × Kept stands o (Rattle.atomic_table.specs.Table.stepped s 1 (slice_index s.words 1) id me.1 w a)
          × Looks stands (step slots 1 0 0 none) me (slice_index s.words 1) (w, Rattle.atomic_table.specs.Table.carried_after me.1 a)
      miss ne =
          let same_words : set s.words 1 (slice_index s.words 1) ≡ s.words = ap (λ ws. set ws 1 (slice_index ws 1)) k.words ∙ sym k.words in (
            me.0,
            keeps,
            tt,
            subst (Kept stands o) (λ i. record { words = sym same_words i; homes = s.homes; views = sym (set_again s.views id me.0 at) i }) k,
            (λ n h. let q : t ≡ n = same_Some (sym has ∙ h) in (
              (λ e. absurd (ne (e ∙ ap (λ m. m % 2 ^ 64) (sym q)))),
              (λ _. refl),
            )),
          )

  pub leaves : (slots id : ℕ) (me : Me (Option T) (View E O)) (x : T) (e : E) (p : O) → slots ≡ 1 → me.0.inside ≡ true → me.1 ≡ (0, Some x) ∷ []
      → me.0.opening ≡ Some p → stands x p (me.0.seen ++ (me.0.number, e) ∷ [])
      → Allows (Kept stands o) slots id me 1 (λ n. (n + 1) % 2 ^ 64) (Leaves {T = T} e (step slots 1 1 0 none) me)
  leaves slots id me x e p one is_in carried has holds s k len at small =
      let v = me.0 in
      let w = after_entry v e in
      let mine = k.each id v at in
      let now = mine.served is_in in
      let some_right : 0 < rights_of v = (let r = mine.entitled in let o = one_ticket v k.serving now.0 in omega (arith, r, o)) in
      let count = total_set has_ticket s.views id v w at in
      let weigh = total_set rights_of s.views id v w at in (
        w,
        gives,
        tt,
        record {
          log = v.seen ++ (v.number, e) ∷ [];
          tickets = k.tickets;
          serving = k.serving + 1;
          given = k.given;
          words = ap (λ ws. set ws 1 ((slice_index ws 1 + 1) % 2 ^ 64)) k.words ∙ ap (λ n. k.tickets % 2 ^ 64 ∷ n ∷ []) (mod-add-mod k.serving (2 ^ 64) 1);
          waiting = omega (arith, count, k.waiting, one_ticket v k.serving now.0);
          rights = omega (arith, weigh, k.rights);
          each = each_set (Fits o (v.seen ++ (v.number, e) ∷ []) k.tickets (k.serving + 1) k.given) s.views id w
              (λ i u ne h. let f = k.each i u h in record {
                waits = λ t ht. (let p = f.waits t ht in dite (ℕ_discrete t k.serving)
                    (λ same. absurd (ne (k.apart i id u v t h at ht (now.0 ∙ ap Some (sym same)))))
                    (λ other. (omega (arith, p.0, other), p.1)));
                served = λ hi. absurd (ne (k.apart i id u v k.serving h at ((f.served hi).0) now.0));
                entitled = f.entitled;
                begins = longer u.seen v.seen (v.number, e) (subst (IsPrefix u.seen) (sym now.1) f.begins);
                told = longer u.told v.seen (v.number, e) (subst (IsPrefix u.told) (sym now.1) f.told);
                own = λ pu. carrying_other u.number v.number v.seen e (λ q. ne (k.named i id u v h at pu some_right q)) ∙ ap (carrying u.number) now.1 ∙ f.own pu;
                numbered = f.numbered;
                opened = f.opened;
                gives = f.gives;
              })
              (record {
                waits = λ t h. absurd (let p = h in cc);
                served = λ h. absurd (true≢false (sym h));
                entitled = omega arith;
                begins = whole (v.seen ++ (v.number, e) ∷ []);
                told = longer v.told v.seen (v.number, e) (subst (IsPrefix v.told) (sym now.1) mine.told);
                own = λ pv. carrying_own v.number v.seen e ∙ ap (λ l. l ++ (v.number, e) ∷ []) (ap (carrying v.number) now.1 ∙ mine.own some_right);
                numbered = mine.numbered;
                opened = mine.opened;
                gives = mine.gives;
              });
          apart = λ i j a b t ei ej ea eb. pairs_set (λ i j a b. (t : ℕ) → a.ticket ≡ Some t → b.ticket ≡ Some t → i ≡ j) s.views id w
              (λ i j a b ei ej t ea eb. k.apart i j a b t ei ej ea eb)
              (λ j b ne h. ((λ t ha hb. absurd (let p = ha in cc)), (λ t hb ha. absurd (let p = ha in cc))))
              (λ t ha hb. refl) i j a b ei ej t ea eb;
          named = pairs_set (λ i j a b. 0 < rights_of a → 0 < rights_of b → a.number ≡ b.number → i ≡ j) s.views id w
              (λ i j a b ei ej pa pb h. k.named i j a b ei ej pa pb h)
              (λ j b ne h. ((λ pa pb q. k.named id j v b at h some_right pb q), (λ pb pa q. k.named j id b v h at pb some_right q)))
              (λ pa pb h. refl);
          one = pairs_set (λ i j a b. a.first ≡ true → b.first ≡ true → i ≡ j) s.views id w
              (λ i j a b ei ej f g. k.one i j a b ei ej f g)
              (λ j b ne h. ((λ f g. k.one id j me.0 b at h f g), (λ f g. k.one j id b me.0 h at f g)))
              (λ f g. refl);
          slot = λ free. (x, ap (λ c. get_elem? (put_back s.homes c) 0) carried ∙ set_here s.homes 0 (some (Some x)) (omega (arith, len, one)), subst (λ q. stands x q (v.seen ++ (v.number, e) ∷ [])) (same_Some (sym has ∙ mine.opened some_right)) holds);
          unused = λ n h. carrying_other n v.number v.seen e (λ q. (let p = mine.numbered some_right in omega (arith, p, h, q))) ∙ ap (carrying n) now.1 ∙ k.unused n h;
          stood = (x, subst (λ q. stands x q (v.seen ++ (v.number, e) ∷ [])) (same_Some (sym has ∙ mine.opened some_right)) holds);
        },
        refl,
      )

  pub leaves_after : (slots id : ℕ) (old new : Me (Option T) (View E O)) (x : T) (e : E) (p : O) → slots ≡ 1 → old.0.inside ≡ true → old.1 ≡ (0, None) ∷ []
      → new ≡ (old.0, (0, Some x) ∷ rest old.1) → old.0.opening ≡ Some p → stands x p (old.0.seen ++ (old.0.number, e) ∷ [])
      → Allows (Kept stands o) slots id new 1 (λ n. (n + 1) % 2 ^ 64) (Leaves {T = T} e (step slots 1 1 0 none) new)
  leaves_after slots id old new x e p one is_in bare is has holds =
      let view : new.0 ≡ old.0 = ap (λ m. m.0) is in
      leaves slots id new x e p one (ap (λ (v : View E O). v.inside) view ∙ is_in) (ap (λ m. m.1) is ∙ ap (λ l. (0, Some x) ∷ rest l) bare) (ap (λ (v : View E O). v.opening) view ∙ has)
      (subst (λ (v : View E O). stands x p (v.seen ++ (v.number, e) ∷ [])) (sym view) holds)

  pub looks_still : (slots id : ℕ) (old new : Me (Option T) (View E O)) → new ≡ old → (t : ℕ) → old.0.ticket ≡ Some t → old.0.inside ≡ false
      → Allows (Kept stands o) slots id new 1 (λ n. n) (Looks stands (step slots 1 0 0 none) new)
  looks_still slots id old new same t has out = looks slots id new t (ap (λ m. m.0.ticket) same ∙ has) (ap (λ m. m.0.inside) same ∙ out)

  pub splits : (id : ℕ) (v : View E O) → v.first ≡ true → v.ticket ≡ None → 1 < v.rights → Splits (Kept stands o) id v (after_split v) (split_off v)
  splits id v one bare some_right s k at =
      let w = after_split v in
      let z = split_off v in
      let mine = k.each id v at in
      let gives = mine.gives one in
      let half : 0 < rights_of v = omega (arith, some_right) in
      let xs = set s.views id w in
      let count = total_set has_ticket s.views id v w at in
      let weigh = total_set rights_of s.views id v w at in
      record {
        log = k.log;
        tickets = k.tickets;
        serving = k.serving;
        given = k.given + 1;
        words = k.words;
        waiting = omega (arith, count, k.waiting, total_snoc has_ticket xs z);
        rights = omega (arith, weigh, k.rights, total_snoc rights_of xs z, some_right);
        each = each_snoc (Fits o k.log k.tickets k.serving (k.given + 1)) xs z
            (each_set (Fits o k.log k.tickets k.serving (k.given + 1)) s.views id w
            (λ i u ne h. let f = k.each i u h in record {
              waits = f.waits;
              served = f.served;
              entitled = f.entitled;
              begins = f.begins;
              told = f.told;
              own = f.own;
              numbered = λ pu. (let p = f.numbered pu in omega (arith, p));
              opened = f.opened;
              gives = λ q. absurd (ne (k.one i id u v h at q one));
            })
            (record {
              waits = mine.waits;
              served = mine.served;
              entitled = omega (arith, no_ticket v bare);
              begins = mine.begins;
              told = mine.told;
              own = λ pv. mine.own half;
              numbered = λ pv. (let p = mine.numbered half in omega (arith, p));
              opened = λ pv. mine.opened half;
              gives = λ q. omega (arith, gives);
            }))
            (record {
              waits = λ t h. absurd (let p = h in cc);
              served = λ h. absurd (true≢false (sym h));
              entitled = omega arith;
              begins = mine.begins;
              told = (k.log, refl);
              own = λ pv. k.unused v.given (omega (arith, gives));
              numbered = λ pv. omega (arith, gives);
              opened = λ pv. mine.opened half;
              gives = λ q. absurd (true≢false (sym q));
            });
        apart = λ i j a b t ei ej ea eb. pairs_snoc (λ i j a b. (t : ℕ) → a.ticket ≡ Some t → b.ticket ≡ Some t → i ≡ j) xs z
            (pairs_set (λ i j a b. (t : ℕ) → a.ticket ≡ Some t → b.ticket ≡ Some t → i ≡ j) s.views id w
            (λ i j a b ei ej t ea eb. k.apart i j a b t ei ej ea eb)
            (λ j b ne h. ((λ t ha hb. k.apart id j v b t at h ha hb), (λ t hb ha. k.apart j id b v t h at hb ha)))
            (λ t ha hb. refl))
            (λ j b h. ((λ t ha hb. absurd (let p = ha in cc)), (λ t hb ha. absurd (let p = ha in cc))))
            (λ t ha hb. refl) i j a b ei ej t ea eb;
        named = pairs_snoc (λ i j a b. 0 < rights_of a → 0 < rights_of b → a.number ≡ b.number → i ≡ j) xs z
            (pairs_set (λ i j a b. 0 < rights_of a → 0 < rights_of b → a.number ≡ b.number → i ≡ j) s.views id w
            (λ i j a b ei ej pa pb h. k.named i j a b ei ej pa pb h)
            (λ j b ne h. ((λ pa pb q. k.named id j v b at h half pb q), (λ pb pa q. k.named j id b v h at pb half q)))
            (λ pa pb h. refl))
            (λ j b h. let below : 0 < rights_of b → b.number < k.given = each_set (λ (u : View E O). 0 < rights_of u → u.number < k.given) s.views id w (λ i u ne e. (k.each i u e).numbered) (λ pv. mine.numbered half) j b h in (
              (λ pa pb q. absurd (let p = below pb in omega (arith, p, q, gives))),
              (λ pb pa q. absurd (let p = below pb in omega (arith, p, q, gives))),
            ))
            (λ pa pb h. refl);
        one = pairs_snoc (λ i j a b. a.first ≡ true → b.first ≡ true → i ≡ j) xs z
            (pairs_set (λ i j a b. a.first ≡ true → b.first ≡ true → i ≡ j) s.views id w
            (λ i j a b ei ej f g. k.one i j a b ei ej f g)
            (λ j b ne h. ((λ f g. k.one id j v b at h f g), (λ f g. k.one j id b v h at f g)))
            (λ f g. refl))
            (λ j b h. ((λ f g. absurd (true≢false (sym f))), (λ f g. absurd (true≢false (sym g)))))
            (λ f g. refl);
        slot = λ free. k.slot (each_unset (λ (u : View E O). u.inside ≡ false) s.views id v w at
            (free id w (at_longer xs (z ∷ []) id w (set_here s.views id w (there s.views id v at))))
            (λ i u e. free i u (at_longer xs (z ∷ []) i u e)));
        unused = λ n h. k.unused n (omega (arith, h));
        stood = k.stood;
      }

  -- a pass that is outside sees the whole history
  pub hears : (slots id : ℕ) (me : Me (Option T) (View E O)) → me.0.inside ≡ false → 0 < me.0.rights
      → Allows (Kept stands o) slots id me 0 (λ n. n) (Hears {T = T} stands (step slots 0 0 0 none) me)
  hears slots id me out some_right s k len at small =
      let v = me.0 in
      let w = record v { seen = k.log } in
      let mine = k.each id v at in
      let count = total_set has_ticket s.views id v w at in
      let weigh = total_set rights_of s.views id v w at in (
        w,
        keeps,
        tt,
        record {
          log = k.log;
          tickets = k.tickets;
          serving = k.serving;
          given = k.given;
          words = ap (λ ws. set ws 0 (slice_index ws 0)) k.words;
          waiting = omega (arith, count, k.waiting);
          rights = omega (arith, weigh, k.rights);
          each = each_set (Fits o k.log k.tickets k.serving k.given) s.views id w (λ i u ne h. k.each i u h) (record {
            waits = mine.waits;
            served = λ h. absurd (true≢false (sym h ∙ out));
            entitled = mine.entitled;
            begins = whole k.log;
            told = mine.told;
            own = mine.own;
            numbered = mine.numbered;
            opened = mine.opened;
            gives = mine.gives;
          });
          apart = λ i j a b n ei ej ea eb. pairs_set (λ i j a b. (n : ℕ) → a.ticket ≡ Some n → b.ticket ≡ Some n → i ≡ j) s.views id w
              (λ i j a b ei ej n ea eb. k.apart i j a b n ei ej ea eb)
              (λ j b ne h. ((λ n ha hb. k.apart id j me.0 b n at h ha hb), (λ n hb ha. k.apart j id b me.0 n h at hb ha)))
              (λ n ha hb. refl) i j a b ei ej n ea eb;
          named = pairs_set (λ i j a b. 0 < rights_of a → 0 < rights_of b → a.number ≡ b.number → i ≡ j) s.views id w
              (λ i j a b ei ej pa pb h. k.named i j a b ei ej pa pb h)
              (λ j b ne h. ((λ pa pb q. k.named id j me.0 b at h pa pb q), (λ pb pa q. k.named j id b me.0 h at pb pa q)))
              (λ pa pb h. refl);
          one = pairs_set (λ i j a b. a.first ≡ true → b.first ≡ true → i ≡ j) s.views id w
              (λ i j a b ei ej f g. k.one i j a b ei ej f g)
              (λ j b ne h. ((λ f g. k.one id j me.0 b at h f g), (λ f g. k.one j id b me.0 h at f g)))
              (λ f g. refl);
          slot = λ free. k.slot (each_unset (λ (u : View E O). u.inside ≡ false) s.views id v w at out free);
          unused = k.unused;
          stood = k.stood;
        },
        (k.log, refl, mine.begins, mine.told, (k.stood.0, o, mine.opened some_right, k.stood.1)),
      )

  pub hears_joined : (slots id : ℕ) (v w : View E O) (l : List (ℕ × Option T)) (me : Me (Option T) (View E O)) → me ≡ (joined v w, l) → IsFree v
      → Allows (Kept stands o) slots id me 0 (λ n. n) (Hears {T = T} stands (step slots 0 0 0 none) me)
  hears_joined slots id v w l me is ov = let p = ap (λ m. m.0.rights) is in let q = ov.2 in hears slots id me (ap (λ m. m.0.inside) is ∙ ov.1) (omega (arith, p, q))

  pub joins : (id : ℕ) (v : View E O) (other : ℕ) (w : View E O) → IsFree v → IsFree w → Joins (Kept stands o) id v other w (joined v w) spent
  joins id v other w ov ow s k at apart_seats at_other =
      let z = joined v w in
      let xs = set s.views id z in
      let mine = k.each id v at in
      let theirs = k.each other w (sym (set_else s.views id other z apart_seats) ∙ at_other) in
      let count = total_set has_ticket s.views id v z at in
      let weigh = total_set rights_of s.views id v z at in
      let count' = total_set has_ticket xs other w spent at_other in
      let weigh' = total_set rights_of xs other w spent at_other in
      let some_right = ov.2 in
      record {
        log = k.log;
        tickets = k.tickets;
        serving = k.serving;
        given = k.given;
        words = k.words;
        waiting = omega (arith, count, count', k.waiting, no_ticket w ow.0);
        rights = omega (arith, weigh, weigh', k.rights);
        each = each_set (Fits o k.log k.tickets k.serving k.given) xs other spent
            (λ i u ne h. each_set (Fits o k.log k.tickets k.serving k.given) s.views id z (λ i u ne h. k.each i u h) (record {
              waits = mine.waits;
              served = λ h. absurd (true≢false (sym h ∙ ov.1));
              entitled = omega (arith, no_ticket v ov.0);
              begins = mine.begins;
              told = theirs.begins;
              own = λ p. mine.own some_right;
              numbered = λ p. mine.numbered some_right;
              opened = λ p. mine.opened some_right;
              gives = mine.gives;
            }) i u h)
            (record {
              waits = λ t h. absurd (let p = h in cc);
              served = λ h. absurd (true≢false (sym h));
              entitled = omega arith;
              begins = (k.log, refl);
              told = (k.log, refl);
              own = λ p. absurd (omega (arith, p));
              numbered = λ p. absurd (omega (arith, p));
              opened = λ p. absurd (omega (arith, p));
              gives = λ q. absurd (true≢false (sym q));
            });
        apart = λ i j a b t ei ej ea eb. pairs_set (λ i j a b. (t : ℕ) → a.ticket ≡ Some t → b.ticket ≡ Some t → i ≡ j) xs other spent
            (pairs_set (λ i j a b. (t : ℕ) → a.ticket ≡ Some t → b.ticket ≡ Some t → i ≡ j) s.views id z
            (λ i j a b ei ej t ea eb. k.apart i j a b t ei ej ea eb)
            (λ j b ne h. ((λ t ha hb. k.apart id j v b t at h ha hb), (λ t hb ha. k.apart j id b v t h at hb ha)))
            (λ t ha hb. refl))
            (λ j b ne h. ((λ t ha hb. absurd (let p = ha in cc)), (λ t hb ha. absurd (let p = ha in cc))))
            (λ t ha hb. refl) i j a b ei ej t ea eb;
        named = pairs_set (λ i j a b. 0 < rights_of a → 0 < rights_of b → a.number ≡ b.number → i ≡ j) xs other spent
            (pairs_set (λ i j a b. 0 < rights_of a → 0 < rights_of b → a.number ≡ b.number → i ≡ j) s.views id z
            (λ i j a b ei ej pa pb h. k.named i j a b ei ej pa pb h)
            (λ j b ne h. ((λ pa pb q. k.named id j v b at h some_right pb q), (λ pb pa q. k.named j id b v h at pb some_right q)))
            (λ pa pb h. refl))
            (λ j b ne h. ((λ pa pb q. absurd (omega (arith, pa))), (λ pb pa q. absurd (omega (arith, pa)))))
            (λ pa pb h. refl);
        one = pairs_set (λ i j a b. a.first ≡ true → b.first ≡ true → i ≡ j) xs other spent
            (pairs_set (λ i j a b. a.first ≡ true → b.first ≡ true → i ≡ j) s.views id z
            (λ i j a b ei ej f g. k.one i j a b ei ej f g)
            (λ j b ne h. ((λ f g. k.one id j v b at h f g), (λ f g. k.one j id b v h at f g)))
            (λ f g. refl))
            (λ j b ne h. ((λ f g. absurd (true≢false (sym f))), (λ f g. absurd (true≢false (sym g)))))
            (λ f g. refl);
        slot = λ free. k.slot (each_unset (λ (u : View E O). u.inside ≡ false) s.views id v z at ov.1
            (each_unset (λ (u : View E O). u.inside ≡ false) xs other w spent at_other ow.1 free));
        unused = k.unused;
        stood = k.stood;
      }

  -- has every right in one view, no other is inside
  pub closes : (s : State (Option T) (View E O)) (id : ℕ) (v : View E O) → Kept stands o s → get_elem? s.views id ≡ some v → v.inside ≡ false → v.rights ≡ all_rights
      → (x : T) × (get_elem? s.homes 0 ≡ some (some (Some x))) × ((log : List (ℕ × E)) × IsPrefix v.seen log × ((p : O) × (v.opening ≡ Some p) × stands x p log))
  closes s id v k at out all =
      let free : (i : ℕ) (u : View E O) → get_elem? s.views i ≡ some u → u.inside ≡ false = λ i u h. either_way u.inside (λ in_it. dite (ℕ_discrete i id)
      (λ same. ap (λ (x : View E O). x.inside) (some-injective u v (sym h ∙ ap (get_elem? s.views) same ∙ at)) ∙ out)
      (λ ne. absurd (
      let f = k.each i u h in
      let two = two_at_most rights_of s.views i id u v ne h at in
      let r = f.entitled in
      let o = one_ticket u k.serving (f.served in_it).0 in omega (arith, two, k.rights, all, r, o)))) in
      let got = k.slot free in (got.0, got.1, (k.log, (k.each id v at).begins, (o, (k.each id v at).opened (omega (arith, all)), got.2)))

  pub ended : (id : ℕ) (v : View E O) (ws : List ℕ) (xs : List (Option T)) → Final (Seen (Kept stands o) id v) ws xs → v.inside ≡ false → v.rights ≡ all_rights
      → (x : T) × (get_elem? xs 0 ≡ some (Some x)) × ((log : List (ℕ × E)) × IsPrefix v.seen log × ((p : O) × (v.opening ≡ Some p) × stands x p log))
  ended id v ws xs f out all = let got = closes f.0 id v f.1.0 f.1.1 out all in (got.0, f.4 0 (Some got.0) got.1, got.2)

  pub opens : (x : T) → stands x o [] → Kept stands o (opening (0 ∷ 0 ∷ []) (Some x ∷ []) (first_pass o))
  opens x holds = record {
    log = [];
    tickets = 0;
    serving = 0;
    given = 1;
    words = refl;
    waiting = refl;
    rights = refl;
    each = each_snoc (Fits o [] 0 0 1) [] (first_pass o) (λ i u e. absurd (some-ne-none u (sym e))) (record {
      waits = λ t h. absurd (let p = h in cc);
      served = λ h. absurd (true≢false (sym h));
      entitled = omega arith;
      begins = whole [];
      told = whole [];
      own = λ p. refl;
      numbered = λ p. omega arith;
      opened = λ p. refl;
      gives = λ q. refl;
    });
    apart = λ i j a b t ei ej ea eb. only i j a b ei ej;
    named = λ i j a b ei ej pa pb q. only i j a b ei ej;
    one = λ i j a b ei ej f g. only i j a b ei ej;
    slot = λ free. (x, refl, holds);
    unused = λ n h. refl;
    stood = (x, holds);
  }
    where
      only : (i j : ℕ) (a b : View E O) → get_elem? (first_pass {E = E} o ∷ []) i ≡ some a → get_elem? (first_pass {E = E} o ∷ []) j ≡ some b → i ≡ j
      only zero zero a b ei ej = refl
      only zero (suc j) a b ei ej = absurd (some-ne-none b (sym ej))
      only (suc i) j a b ei ej = absurd (some-ne-none a (sym ei))

pub taken : {A : Type 0} (l m : List (ℕ × A)) (y : ℕ × A) → l ≡ y ∷ m → l ≡ y ∷ rest l
taken l m y e = e ∙ ap (λ k. y ∷ k) (sym (ap rest e))
