-- Whether one walk up the parents ends.
--     IsUnderRoot             a namespace has one without a parent in its chain
--     under_root, ends_root   a walk ends exactly where that is so
--     ends_below              who has one in its chain from which the walk ends
--     ends_parent, ends_chain      the walk from a parent ends, and those from all that are in its chain
--     ends_grown, ends_shrunk      walks end as before where a namespace comes or goes
--     ended_before            who ends with another parent of it, and isn't below it or it ended, ended before
use Rattle.std.specs.Prelude.{option_and_then}
use Rattle.std.proofs.Common.{◌≡◌, ℕ, zero, suc, ◌+◌, ◌-◌, ◌≤◌, ◌⊎◌, Bool, true, false, ◌&&◌, Option, Some, None, List, length, refl, sym, ap, ◌∙◌, subst, inl, inr, arith, true≢false}
use Rattle.std.specs.Str.{bytes_eq}
use Rattle.std.proofs.lemmas.Bool.{and_parts}
use Rattle.hx_model.specs.declared.node.Node.{Node}
use Rattle.hx_model.specs.Forest.{Forest, is_in, is_there, parent_of, chain_of, with_parent as forest_with_parent}
use Rattle.hx_model.specs.Moves.{chain_from}
use Rattle.hx_model.proofs.Climbing.{Above, itself, through, chain_above, above_chain, few, is_same}
use Rattle.hx_model.proofs.Moving.{moved_there, other_parent}
use Rattle.hx_model.proofs.Walking.{Ends, past_top, passing, Ends_length, chain_there}
use Rattle.hx_quota.specs.Inside.{ends_by, ends_up}
use Rattle.hx_quota.proofs.Attaching.{IsNew, alike, chain_new}
use Rattle.hx_quota.proofs.Ending.{more, shorter, there_by, parent_by}

abbrev pub IsUnderRoot : Forest → List ℕ → Type 0
IsUnderRoot f n = (a : List ℕ) × Above f n a × (parent_of f a ≡ None)

pub under_root : (f : Forest) (left : ℕ) (n : List ℕ) → ends_by left f (Some n) ≡ true → IsUnderRoot f n
under_root f zero n h = absurd (true≢false (sym h))
under_root f (suc left) n h = at (parent_of f n) refl (and_parts (is_there f n) (ends_by left f (parent_of f n)) h).1 (λ p on. under_root f left p on)
  where
    here : is_there f n ≡ true
    here = (and_parts (is_there f n) (ends_by left f (parent_of f n)) h).0

    at : (o : Option (List ℕ)) → parent_of f n ≡ o → ends_by left f o ≡ true → ((p : List ℕ) → ends_by left f (Some p) ≡ true → IsUnderRoot f p) → IsUnderRoot f n
    at None is on more_on = (n, itself here, is)
    at (Some p) is on more_on =
        let up = more_on p on in
        (up.0, through here is up.1, up.2)

-- a walk of as many steps as the chain has members
record HasEnd (f : Forest) (n : List ℕ) : Type 0 where
  pub steps : ℕ
  pub ends : Ends f (Some n) steps
  pub enough : ends_by steps f (Some n) ≡ true

end_of : (f : Forest) (n a : List ℕ) → Above f n a → parent_of f a ≡ None → HasEnd f n
end_of f n a (itself there) root = record {
  steps = 1;
  ends = passing there (subst (λ (o : Option (List ℕ)). Ends f o 0) (sym root) past_top);
  enough = (λ i. there i && ends_by 0 f (root i));
}
end_of f n a (through {p = p} there on rest) root =
    let next = end_of f p a rest root in
    record {
      steps = suc next.steps;
      ends = passing there (subst (λ (o : Option (List ℕ)). Ends f o next.steps) (sym on) next.ends);
      enough = (λ i. there i && ends_by next.steps f (on i)) ∙ next.enough;
    }

more_by : (f : Forest) (extra left : ℕ) (next : Option (List ℕ)) → ends_by left f next ≡ true → ends_by (left + extra) f next ≡ true
more_by f zero left next h = let same : left ≡ left + 0 = omega arith in subst (λ (k : ℕ). ends_by k f next ≡ true) same h
more_by f (suc extra) left next h =
    let on : suc (left + extra) ≡ left + suc extra = omega arith in
    subst (λ (k : ℕ). ends_by k f next ≡ true) on (more f (left + extra) next (more_by f extra left next h))

pub ends_root : (f : Forest) (n : List ℕ) → IsUnderRoot f n → ends_up f n ≡ true
ends_root f n up =
    let end = end_of f n up.0 up.1 up.2 in
    let long : length (chain_of f n) ≡ end.steps = Ends_length f (Some n) end.steps end.ends in
    let short : length (chain_of f n) ≤ length f = few f (chain_of f n) (chain_there f n) in
    let whole : end.steps + (length f - end.steps) ≡ length f = omega (arith, long, short) in
    subst (λ (k : ℕ). ends_by k f (Some n) ≡ true) whole (more_by f (length f - end.steps) end.steps (Some n) end.enough)

above_on : (f : Forest) (n b a : List ℕ) → Above f n b → Above f b a → Above f n a
above_on f n b a (itself there) up = up
above_on f n b a (through {p = p} there on rest) up = through there on (above_on f p b a rest up)

pub ends_below : (f : Forest) (n b : List ℕ) → Above f n b → ends_up f b ≡ true → ends_up f n ≡ true
ends_below f n b low h =
    let up = under_root f (length f) b h in
    ends_root f n (up.0, above_on f n b up.0 low up.1, up.2)

-- ---- chains of parents

pub ends_parent : (f : Forest) (n : List ℕ) → ends_up f n ≡ true → ends_by (length f) f (parent_of f n) ≡ true
ends_parent f n h = at (parent_of f n) refl
  where
    at : (o : Option (List ℕ)) → parent_of f n ≡ o → ends_by (length f) f o ≡ true
    at None is = refl
    at (Some p) is = shorter f n p (through (there_by f (length f) n h) is (itself (parent_by f (length f) n p h is))) (length f) h

pub ends_chain : (f : Forest) (o : Option (List ℕ)) → ends_by (length f) f o ≡ true → (q : List ℕ) → is_in q (chain_from f o) ≡ true → ends_up f q ≡ true
ends_chain f None h q mem = absurd (true≢false (sym mem))
ends_chain f (Some n) h q mem = shorter f n q (chain_above f n q mem) (length f) h

-- ---- one comes or goes

above_end : (f : Forest) (x a : List ℕ) → Above f x a → is_there f a ≡ true
above_end f x a (itself there) = there
above_end f x a (through {p = q} there on rest) = above_end f q a rest

module _ (f g : Forest) (n : List ℕ) (is : IsNew f g n) (m : List ℕ) (there : is_there g m ≡ true) where
  parent_alike : (a : List ℕ) → is_there g a ≡ true → parent_of f a ≡ parent_of g a
  parent_alike a here = ap (λ (o : Option Node). option_and_then (λ node. node.parent) o) (alike f g n is a here)

  pub ends_shrunk : ends_up f m ≡ true → ends_up g m ≡ true
  ends_shrunk h =
      let up = under_root f (length f) m h in
      let above = chain_above g m up.0 (sym (chain_new f g n is m up.0 there) ∙ above_chain f m up.0 up.1) in
      ends_root g m (up.0, above, sym (parent_alike up.0 (above_end g m up.0 above)) ∙ up.2)

  pub ends_grown : ends_up g m ≡ true → ends_up f m ≡ true
  ends_grown h =
      let up = under_root g (length g) m h in
      ends_root f m (up.0, chain_above f m up.0 (chain_new f g n is m up.0 there ∙ above_chain g m up.0 up.1), parent_alike up.0 (above_end g m up.0 up.1) ∙ up.2)

-- ---- one has another parent

module _ (f : Forest) (n : List ℕ) (parent : Option (List ℕ)) (here : is_there f n ≡ true) where
  abbrev then : Forest
  then = forest_with_parent n parent f

  there_now : (x : List ℕ) → is_there then x ≡ true → is_there f x ≡ true
  there_now x h = sym (moved_there f n parent x) ∙ h

  parent_now : (x : List ℕ) → bytes_eq n x ≡ false → (o : Option (List ℕ)) → parent_of then x ≡ o → parent_of f x ≡ o
  parent_now x out o is = sym (other_parent f n parent x out) ∙ is

  module _ (ended : (IsUnderRoot f n) ⊎ (IsUnderRoot then n → ⊥)) where
    it_was : (x : List ℕ) → bytes_eq n x ≡ true → IsUnderRoot then x → IsUnderRoot f x
    it_was x same up = elim ended [
      | inl was ↦ subst (λ (k : List ℕ). IsUnderRoot f k) (is_same n x same) was
      | inr never ↦ absurd (never (subst (λ (k : List ℕ). IsUnderRoot then k) (sym (is_same n x same)) up))
    ]

    root_step : (x q : List ℕ) → is_there then x ≡ true → parent_of then x ≡ Some q → IsUnderRoot then x → IsUnderRoot f q → (b : Bool) → bytes_eq n x ≡ b → IsUnderRoot f x
    root_step x q there on up top true same = it_was x same up
    root_step x q there on up top false out = (top.0, through (there_now x there) (parent_now x out (Some q) on) top.1, top.2)

    root_itself : (x : List ℕ) → is_there then x ≡ true → parent_of then x ≡ None → (b : Bool) → bytes_eq n x ≡ b → IsUnderRoot f x
    root_itself x there root true same = it_was x same (x, itself there, root)
    root_itself x there root false out = (x, itself (there_now x there), parent_now x out None root)

    root_before : (x a : List ℕ) → Above then x a → parent_of then a ≡ None → IsUnderRoot f x
    root_before x a (itself there) root = root_itself x there root (bytes_eq n x) refl
    root_before x a (through {p = q} there on rest) root = root_step x q there on (a, through there on rest, root) (root_before q a rest root) (bytes_eq n x) refl

  pub ended_before : ((ends_up f n ≡ true) ⊎ (ends_up then n ≡ false)) → (q : List ℕ) → ends_up then q ≡ true → ends_up f q ≡ true
  ended_before ended q h =
      let up = under_root then (length then) q h in
      ends_root f q (root_before either q up.0 up.1 up.2)
    where
      either : (IsUnderRoot f n) ⊎ (IsUnderRoot then n → ⊥)
      either = elim ended [
        | inl was ↦ inl (under_root f (length f) n was)
        | inr never ↦ inr (λ r. true≢false (sym (ends_root then n r) ∙ never))
      ]
