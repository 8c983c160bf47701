-- Histories of a door.
--     led_more               one thing more
--     law_of_doors           what a history tells of a door
use Rattle.std.proofs.Common.{◌≡◌, ◌≤◌, ◌+◌, ℕ, zero, suc, Bool, true, false, cond, [], ◌∷◌, ◌++◌, refl, sym, ap, subst, ◌∙◌, inl, inr, arith, true≢false, append_assoc, append-nil}
use Rattle.std.specs.Prelude.{◌⊎◌, ◌||◌}
use Rattle.std.specs.List.{list_any}
use Rattle.hx_ports.specs.Calls.{next_number}
use Rattle.hx_ports.specs.Causes.{Rose}
use Rattle.hx_door.specs.Doors.{DoorView, Closes}
use Rattle.hx_sessions.specs.declared.door.Told.{Told}
use Rattle.hx_sessions.specs.declared.door.Told.TheVariants as told
use Rattle.hx_sessions.specs.Held.{HeldView, DoorLog, Links, Ends, Fails, Returns, Leads, HaveLed, Stands, held_at, is_link, is_end, is_fault, links_in, ends_in, fails_in, risen}

pub led_more : (o : HeldView) (log : DoorLog) (m h : HeldView) (n : ℕ) (e : Told) → HaveLed o log m → Leads m e h → HaveLed o (log ++ (n, e) ∷ []) h
led_more o [] m h n e p q = (h, subst (λ (x : HeldView). Leads x e h) p q, refl)
led_more o (x ∷ log) m h n e (between, one, rest) q = (between, one, led_more between log m h n e rest q)

-- ---- what one thing more tells

links_by : (b : Bool) (x y k : ℕ) → x ≡ y + k → cond b (1 + x) x ≡ cond b (1 + y) y + k
links_by true x y k e = omega (arith, e)
links_by false x y k e = e

abbrev links_of : Told → ℕ
links_of e = cond (is_link e) 1 0

links_one : (b : Bool) → cond b (1 + 0) 0 ≡ 0 + cond b 1 0
links_one true = refl
links_one false = refl

links_snoc : (log : DoorLog) (n : ℕ) (e : Told) → links_in (log ++ (n, e) ∷ []) ≡ links_in log + links_of e
links_snoc [] n e = links_one (is_link e)
links_snoc (x ∷ log) n e = links_by (is_link x.1) (links_in (log ++ (n, e) ∷ [])) (links_in log) (links_of e) (links_snoc log n e)

or_false : (b : Bool) → (b || false) ≡ b
or_false true = refl
or_false false = refl

any_snoc : (test : ℕ × Told → Bool) (log : DoorLog) (e : ℕ × Told) → list_any test (log ++ e ∷ []) ≡ (list_any test log || test e)
any_snoc test [] e = or_false (test e)
any_snoc test (x ∷ log) e = any_by (test x) (list_any test (log ++ e ∷ [])) (list_any test log) (test e) (any_snoc test log e) where
  any_by : (b x y z : Bool) → x ≡ (y || z) → (b || x) ≡ ((b || y) || z)
  any_by true x y z p = refl
  any_by false x y z p = p

same_or : (x y z : Bool) → x ≡ (y || z) → z ≡ false → x ≡ y
same_or x true z p q = p
same_or x false z p q = p ∙ q

set_or : (x y z : Bool) → x ≡ (y || z) → z ≡ true → x ≡ true
set_or x true z p q = p
set_or x false z p q = p ∙ q

risen_next : (n c : ℕ) → risen (suc n) c ≡ next_number (risen n c)
risen_next zero c = refl
risen_next (suc n) c = risen_next n (next_number c)

-- ---- what holds of a door all along

record Goes (limit : ℕ) (old : DoorView) (log : DoorLog) (h : HeldView) : Type 0 where
  pub most : h.most ≡ limit
  pub taken : h.taken ≡ links_in log
  pub few : h.taken ≤ limit
  pub handed : h.door.handed ≡ risen (links_in log) old.handed
  pub rose : h.failed ≡ true → Rose old.faults h.door.faults
  pub still : h.failed ≡ false → h.door.faults ≡ old.faults
  pub over : h.over ≡ true → h.failed ≡ false → (h.taken ≡ limit) ⊎ (h.door.closed ≡ true)
  pub failed : h.failed ≡ fails_in log
  pub ends : ends_in log ≡ true → h.over ≡ true

ends_snoc : (log : DoorLog) (n : ℕ) (e : Told) → ends_in (log ++ (n, e) ∷ []) ≡ (ends_in log || is_end e)
ends_snoc log n e = any_snoc (λ (x : ℕ × Told). is_end x.1) log (n, e)

fails_snoc : (log : DoorLog) (n : ℕ) (e : Told) → fails_in (log ++ (n, e) ∷ []) ≡ (fails_in log || is_fault e)
fails_snoc log n e = any_snoc (λ (x : ℕ × Told). is_fault x.1) log (n, e)

-- a link was handed out
linked : (limit : ℕ) (old : DoorView) (log : DoorLog) (n : ℕ) (m h : HeldView) → Goes limit old log m → Links m h → Goes limit old (log ++ (n, told.Linked) ∷ []) h
linked limit old log n m h g p =
    let links : links_in (log ++ (n, told.Linked) ∷ []) ≡ suc (links_in log) = omega (arith, links_snoc log n told.Linked) in
    let taken : h.taken ≡ m.taken + 1 = ap (λ (x : HeldView). x.taken) p.counts in
    let failed : h.failed ≡ m.failed = ap (λ (x : HeldView). x.failed) p.counts in
    let over : h.over ≡ m.over = ap (λ (x : HeldView). x.over) p.counts in
    let faults : h.door.faults ≡ m.door.faults = ap (λ (d : DoorView). d.faults) p.hands.counts in
    let handed : h.door.handed ≡ next_number m.door.handed = ap (λ (d : DoorView). d.handed) p.hands.counts in
    record {
      most = ap (λ (x : HeldView). x.most) p.counts ∙ g.most;
      taken = omega (arith, taken, g.taken, links);
      few = omega (arith, taken, p.few, g.most);
      handed = handed ∙ ap next_number g.handed ∙ sym (risen_next (links_in log) old.handed) ∙ ap (λ k. risen k old.handed) (sym links);
      rose = λ e. subst (λ k. Rose old.faults k) (sym faults) (g.rose (sym failed ∙ e));
      still = λ e. faults ∙ g.still (sym failed ∙ e);
      over = λ e f. absurd (unfinished (g.over (sym over ∙ e) (sym failed ∙ f)));
      failed = failed ∙ g.failed ∙ sym (same_or _ _ _ (fails_snoc log n told.Linked) refl);
      ends = λ e. over ∙ g.ends (sym (same_or _ _ _ (ends_snoc log n told.Linked) refl) ∙ e);
    } where
      unfinished : (m.taken ≡ limit) ⊎ (m.door.closed ≡ true) → ⊥
      unfinished (inl e) = omega (arith, e, p.few, g.most)
      unfinished (inr e) = true≢false (sym e ∙ p.hands.unclosed)

-- a door that is closed, or as it was, has counted nothing
closes_handed : (x y : DoorView) → (y ≡ x) ⊎ Closes x y → y.handed ≡ x.handed
closes_handed x y (inl e) = ap (λ (d : DoorView). d.handed) e
closes_handed x y (inr p) = ap (λ (d : DoorView). d.handed) p.stays

closes_faults : (x y : DoorView) → (y ≡ x) ⊎ Closes x y → y.faults ≡ x.faults
closes_faults x y (inl e) = ap (λ (d : DoorView). d.faults) e
closes_faults x y (inr p) = ap (λ (d : DoorView). d.faults) p.stays

closes_closed : (x y : DoorView) → (y ≡ x) ⊎ Closes x y → x.closed ≡ true → y.closed ≡ true
closes_closed x y (inl e) c = ap (λ (d : DoorView). d.closed) e ∙ c
closes_closed x y (inr p) c = ap (λ (d : DoorView). d.closed) p.stays

-- no link more is asked for
ended : (limit : ℕ) (old : DoorView) (log : DoorLog) (n : ℕ) (m h : HeldView) → Goes limit old log m → Ends m h → Goes limit old (log ++ (n, told.Over) ∷ []) h
ended limit old log n m h g p =
    let links : links_in (log ++ (n, told.Over) ∷ []) ≡ links_in log = omega (arith, links_snoc log n told.Over) in
    let taken : h.taken ≡ m.taken = ap (λ (x : HeldView). x.taken) p.counts in
    let failed : h.failed ≡ m.failed = ap (λ (x : HeldView). x.failed) p.counts in
    let faults = closes_faults m.door h.door p.door in
    record {
      most = ap (λ (x : HeldView). x.most) p.counts ∙ g.most;
      taken = omega (arith, taken, g.taken, links);
      few = omega (arith, taken, g.few);
      handed = closes_handed m.door h.door p.door ∙ g.handed ∙ ap (λ k. risen k old.handed) (sym links);
      rose = λ e. subst (λ k. Rose old.faults k) (sym faults) (g.rose (sym failed ∙ e));
      still = λ e. faults ∙ g.still (sym failed ∙ e);
      over = λ e f. why p.why taken (sym failed ∙ f);
      failed = failed ∙ g.failed ∙ sym (same_or _ _ _ (fails_snoc log n told.Over) refl);
      ends = λ e. ap (λ (x : HeldView). x.over) p.counts;
    } where
      known : (m.taken ≡ limit) ⊎ (m.door.closed ≡ true) → h.taken ≡ m.taken → (h.taken ≡ limit) ⊎ (h.door.closed ≡ true)
      known (inl e) taken = inl (taken ∙ e)
      known (inr e) taken = inr (closes_closed m.door h.door p.door e)

      why : (m.over ≡ true) ⊎ ((m.most ≤ m.taken) ⊎ (h.door.closed ≡ true)) → h.taken ≡ m.taken → m.failed ≡ false → (h.taken ≡ limit) ⊎ (h.door.closed ≡ true)
      why (inl e) taken f = known (g.over e f) taken
      why (inr (inl e)) taken f = inl (omega (arith, taken, e, g.few, g.most))
      why (inr (inr e)) taken f = inr e

-- the door failed
failed : (limit : ℕ) (old : DoorView) (log : DoorLog) (n : ℕ) (m h : HeldView) → Goes limit old log m → Fails m h → Goes limit old (log ++ (n, told.Failed) ∷ []) h
failed limit old log n m h g p =
    let links : links_in (log ++ (n, told.Failed) ∷ []) ≡ links_in log = omega (arith, links_snoc log n told.Failed) in
    let taken : h.taken ≡ m.taken = ap (λ (x : HeldView). x.taken) p.counts in
    let fails : h.failed ≡ true = ap (λ (x : HeldView). x.failed) p.counts in
    record {
      most = ap (λ (x : HeldView). x.most) p.counts ∙ g.most;
      taken = omega (arith, taken, g.taken, links);
      few = omega (arith, taken, g.few);
      handed = ap (λ (d : DoorView). d.handed) p.stays ∙ g.handed ∙ ap (λ k. risen k old.handed) (sym links);
      rose = λ e. rises m.failed refl;
      still = λ e. absurd (true≢false (sym fails ∙ e));
      over = λ e f. absurd (true≢false (sym fails ∙ f));
      failed = fails ∙ sym (set_or _ _ _ (fails_snoc log n told.Failed) refl);
      ends = λ e. ap (λ (x : HeldView). x.over) p.counts;
    } where
      rises : (b : Bool) → m.failed ≡ b → Rose old.faults h.door.faults
      rises true e = omega (arith, g.rose e, p.later)
      rises false e = subst (λ k. Rose k h.door.faults) (g.still e) p.rose

-- a link was taken back
returned : (limit : ℕ) (old : DoorView) (log : DoorLog) (n : ℕ) (m h : HeldView) → Goes limit old log m → Returns m h → Goes limit old (log ++ (n, told.Back) ∷ []) h
returned limit old log n m h g p =
    let links : links_in (log ++ (n, told.Back) ∷ []) ≡ links_in log = omega (arith, links_snoc log n told.Back) in
    let taken : h.taken ≡ m.taken = ap (λ (x : HeldView). x.taken) p.counts in
    let failed : h.failed ≡ m.failed = ap (λ (x : HeldView). x.failed) p.counts in
    let over : h.over ≡ m.over = ap (λ (x : HeldView). x.over) p.counts in
    let faults : h.door.faults ≡ m.door.faults = ap (λ (d : DoorView). d.faults) p.takes.counts in
    record {
      most = ap (λ (x : HeldView). x.most) p.counts ∙ g.most;
      taken = omega (arith, taken, g.taken, links);
      few = omega (arith, taken, g.few);
      handed = ap (λ (d : DoorView). d.handed) p.takes.counts ∙ g.handed ∙ ap (λ k. risen k old.handed) (sym links);
      rose = λ e. subst (λ k. Rose old.faults k) (sym faults) (g.rose (sym failed ∙ e));
      still = λ e. faults ∙ g.still (sym failed ∙ e);
      over = λ e f. known (g.over (sym over ∙ e) (sym failed ∙ f)) taken;
      failed = failed ∙ g.failed ∙ sym (same_or _ _ _ (fails_snoc log n told.Back) refl);
      ends = λ e. over ∙ g.ends (sym (same_or _ _ _ (ends_snoc log n told.Back) refl) ∙ e);
    } where
      known : (m.taken ≡ limit) ⊎ (m.door.closed ≡ true) → h.taken ≡ m.taken → (h.taken ≡ limit) ⊎ (h.door.closed ≡ true)
      known (inl e) taken = inl (taken ∙ e)
      known (inr e) taken = inr (ap (λ (d : DoorView). d.closed) p.takes.counts ∙ e)

goes : (limit : ℕ) (old : DoorView) (log : DoorLog) (n : ℕ) (e : Told) (m h : HeldView) → Goes limit old log m → Leads m e h → Goes limit old (log ++ (n, e) ∷ []) h
goes limit old log n told.Linked m h g p = linked limit old log n m h g p
goes limit old log n told.Over m h g p = ended limit old log n m h g p
goes limit old log n told.Failed m h g p = failed limit old log n m h g p
goes limit old log n told.Back m h g p = returned limit old log n m h g p

goes_on : (limit : ℕ) (old : DoorView) (before log : DoorLog) (m h : HeldView) → Goes limit old before m → HaveLed m log h → Goes limit old (before ++ log) h
goes_on limit old before [] m h g p = subst (λ (x : HeldView). Goes limit old (before ++ []) x) (sym p) (subst (λ (l : DoorLog). Goes limit old l m) (sym (append-nil before)) g)
goes_on limit old before (e ∷ log) m h g (between, one, rest) =
    subst (λ (l : DoorLog). Goes limit old l h) (append_assoc before (e ∷ []) log) (goes_on limit old (before ++ e ∷ []) log between h (goes limit old before e.0 e.1 m between g one) rest)

begins : (limit : ℕ) (old : DoorView) → Goes limit old [] (held_at old limit)
begins limit old =
    record { most = refl; taken = refl; few = omega arith; handed = refl; rose = λ e. absurd (true≢false (sym e)); still = λ e. refl; over = λ e f. absurd (true≢false (sym e)); failed = refl; ends = λ e. e }

pub door_law : (limit : ℕ) (old : DoorView) (log : DoorLog) (new : HeldView) → HaveLed (held_at old limit) log new → Stands limit old log new.door × (new.taken ≡ links_in log) × (new.failed ≡ fails_in log)
door_law limit old log new p =
    let g = goes_on limit old [] log (held_at old limit) new (begins limit old) p in (
      record {
        handed = g.handed;
        few = omega (arith, g.taken, g.few);
        failed = λ e. g.rose (g.failed ∙ e);
        still = λ e. g.still (g.failed ∙ e);
        ends = λ e f. told_why g.taken (g.over (g.ends e) (g.failed ∙ f));
      },
      g.taken,
      g.failed,
    ) where
      told_why : new.taken ≡ links_in log → (new.taken ≡ limit) ⊎ (new.door.closed ≡ true) → (links_in log ≡ limit) ⊎ (new.door.closed ≡ true)
      told_why taken (inl e) = inl (sym taken ∙ e)
      told_why taken (inr e) = inr e
