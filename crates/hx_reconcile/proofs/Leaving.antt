-- Where a source goes, by what was read of its exceptions.
--     kept_home       one that may not leave its namespace goes nowhere
--     unread          nor one whose tree selector can't be read
--     goes_by_both    another goes where both selectors hold
use Rattle.std.proofs.Common.{◌≡◌, ℕ, Bool, true, false, not, ◌&&◌, List, Some, None, refl, sym, ap, ◌∙◌, true≢false}
use Rattle.std.specs.Prelude.{Option}
use Rattle.hx_model.specs.Exceptions.{is_false, none_of, passes, select_allows, select_of, tree_select_allows, tree_select_in}
use Rattle.hx_model.specs.Propagation.{goes_to, is_source, stays_home}
use Rattle.hx_object.specs.declared.object.Mode.TheVariants.{Propagate}
use Rattle.hx_object.specs.declared.object.Object.{Object}
use Rattle.hx_reconcile.specs.Reaches.{allows}
use Rattle.hx_select.specs.declared.selector.Selector.{Selector}
use Rattle.hx_select.specs.Selectors.{selector_of, selects}
use Rattle.hx_select.specs.TreeSelects.{tree_select_of}

held : (source away first second none : Bool) → (source && (away && none)) ≡ false → false ≡ (source && (away && (first && (second && none))))
held false away first second none e = refl
held true false first second none e = refl
held true true false second none e = refl
held true true true false none e = refl
held true true true true none e = sym e

pub kept_home : (x : Object) → (is_source x && (not (stays_home x) && passes is_false (none_of x))) ≡ false → (labels : List (List ℕ × List ℕ)) → false ≡ goes_to Propagate x labels
kept_home x e labels =
    held (is_source x) (not (stays_home x)) (passes (λ text. select_allows labels (selector_of text)) (select_of x)) (passes (λ text. tree_select_allows labels (tree_select_of text)) (tree_select_in x)) (passes is_false (none_of x)) e

fails : (source away first none : Bool) → false ≡ (source && (away && (first && (false && none))))
fails false away first none = refl
fails true false first none = refl
fails true true false none = refl
fails true true true none = refl

-- one whose tree selector can't be read goes nowhere
pub unread : (x : Object) (found : Option Selector) → (found ≡ None)
    → ((labels : List (List ℕ × List ℕ)) → allows found labels ≡ passes (λ text. tree_select_allows labels (tree_select_of text)) (tree_select_in x))
    → (labels : List (List ℕ × List ℕ)) → false ≡ goes_to Propagate x labels
unread x found none says labels =
    fails (is_source x) (not (stays_home x)) (passes (λ text. select_allows labels (selector_of text)) (select_of x)) (passes is_false (none_of x))
    ∙ ap (λ second. is_source x && (not (stays_home x) && (passes (λ text. select_allows labels (selector_of text)) (select_of x) && (second && passes is_false (none_of x)))))
    (sym (ap (λ o. allows o labels) none) ∙ says labels)

leaves : (source away first second none : Bool) → (source && (away && none)) ≡ true → (first && second) ≡ (source && (away && (first && (second && none))))
leaves true true first second true e = kept first second
  where
    kept : (a b : Bool) → (a && b) ≡ (a && (b && true))
    kept true true = refl
    kept true false = refl
    kept false b = refl
leaves true true first second false e = absurd (true≢false (sym e))
leaves true false first second none e = absurd (true≢false (sym e))
leaves false away first second none e = absurd (true≢false (sym e))

-- one that may leave goes where both selectors hold
pub goes_by_both : (x : Object) (select tree_select : Selector) → (is_source x && (not (stays_home x) && passes is_false (none_of x))) ≡ true
    → (found : Option Selector) → found ≡ Some select → ((labels : List (List ℕ × List ℕ)) → allows found labels ≡ passes (λ text. select_allows labels (selector_of text)) (select_of x))
    → (tree_found : Option Selector) → tree_found ≡ Some tree_select
    → ((labels : List (List ℕ × List ℕ)) → allows tree_found labels ≡ passes (λ text. tree_select_allows labels (tree_select_of text)) (tree_select_in x))
    → (labels : List (List ℕ × List ℕ)) → (selects select labels && selects tree_select labels) ≡ goes_to Propagate x labels
goes_by_both x select tree_select may found is says tree_found tree_is tree_says labels =
    (λ i. (sym (ap (λ o. allows o labels) is) ∙ says labels) i && (sym (ap (λ o. allows o labels) tree_is) ∙ tree_says labels) i)
    ∙ leaves (is_source x) (not (stays_home x)) (passes (λ text. select_allows labels (selector_of text)) (select_of x)) (passes (λ text. tree_select_allows labels (tree_select_of text)) (tree_select_in x)) (passes is_false (none_of x)) may
