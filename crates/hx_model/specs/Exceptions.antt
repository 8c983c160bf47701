-- The exceptions to propagation: annotations of a source by which it goes to some of the namespaces below it, or to none (HNC user guide, "Limit the propagation of an object to descendant namespaces").
--     exception x key      the value of an exception. An empty one counts as absent
--     are_valid x          at most one exception, and one that can be read
--     is_allowed x labels  every exception lets the source go to a namespace of these labels
use Rattle.std.specs.Prelude.{ℕ, ◌+◌, Bool, true, false, ◌||◌, ◌&&◌, nat_le, List, ◌∷◌, codes, Option, Some, None, is_some, Result, Ok, Err, if◌then◌else◌}
use Rattle.std.specs.Option.{option_map_or}
use Rattle.std.specs.Str.{bytes_eq}
use Rattle.hx_object.specs.Pairs.{value_of}
use Rattle.hx_object.specs.WellKnown.{select_exception, tree_select_exception, none_exception}
use Rattle.hx_object.specs.declared.object.Object.{Object}
use Rattle.hx_select.specs.Selectors.{selector_of, selects}
use Rattle.hx_select.specs.TreeSelects.{tree_select_of, in_tree}
use Rattle.hx_select.specs.declared.selector.Selector.{Selector}
use Rattle.hx_select.specs.declared.selector.SelectFault.{SelectFault}
use Rattle.hx_select.specs.declared.tree_select.TreeSelect.{TreeSelect}
use Rattle.hx_select.specs.declared.tree_select.TreeFault.{TreeFault}

-- ---- the three

-- a value that isn't empty
abbrev pub filled : Option (List ℕ) → Option (List ℕ)
filled (Some (byte ∷ text)) = Some (byte ∷ text)
filled _ = None

abbrev pub exception : Object → List ℕ → Option (List ℕ)
exception x key = filled (value_of x.annotations key)

abbrev pub select_of : Object → Option (List ℕ)
select_of x = exception x select_exception

abbrev pub tree_select_in : Object → Option (List ℕ)
tree_select_in x = exception x tree_select_exception

abbrev pub none_of : Object → Option (List ℕ)
none_of x = exception x none_exception

-- ---- which are valid

abbrev pub is_ok : {A E : Type 0} → Result A E → Bool
is_ok (Ok a) = true
is_ok (Err e) = false

abbrev pub is_true : List ℕ → Bool
is_true text = bytes_eq text (codes "true")

abbrev pub is_false : List ℕ → Bool
is_false text = bytes_eq text (codes "false")

-- a test holds of an exception, where there is one
abbrev pub passes : (List ℕ → Bool) → Option (List ℕ) → Bool
passes test found = option_map_or test found true

-- each can be read: a selector, a list of names, a truth value
abbrev pub can_be_read : Object → Bool
can_be_read x =
    passes (λ text. is_ok (selector_of text)) (select_of x)
    && (passes (λ text. is_ok (tree_select_of text)) (tree_select_in x)
    && passes (λ text. is_true text || is_false text) (none_of x))

abbrev pub one_where : Bool → ℕ
one_where test = if test then 1 else 0

abbrev pub exceptions_in : Object → ℕ
exceptions_in x = one_where (is_some (select_of x)) + (one_where (is_some (tree_select_in x)) + one_where (is_some (none_of x)))

-- at most one, and one that can be read
abbrev pub are_valid : Object → Bool
are_valid x = nat_le (exceptions_in x) 1 && can_be_read x

-- ---- what they let go

-- a text that is read lets the labels pass; one that can't be read lets nothing pass
abbrev pub select_allows : List (List ℕ × List ℕ) → Result Selector SelectFault → Bool
select_allows labels (Ok selector) = selects selector labels
select_allows labels (Err fault) = false

abbrev pub tree_select_allows : List (List ℕ × List ℕ) → Result TreeSelect TreeFault → Bool
tree_select_allows labels (Ok selector) = in_tree selector labels
tree_select_allows labels (Err fault) = false

-- every exception lets the source go to a namespace of these labels
abbrev pub is_allowed : Object → List (List ℕ × List ℕ) → Bool
is_allowed x labels =
    passes (λ text. select_allows labels (selector_of text)) (select_of x)
    && (passes (λ text. tree_select_allows labels (tree_select_of text)) (tree_select_in x)
    && passes is_false (none_of x))
