-- Selectors and tree selectors on examples. Each value is worked out from the grammar by hand.
use Rattle.std.proofs.Common.{◌≡◌, ◌++◌, ℕ, List, Bool, true, false, [], ◌∷◌, Option, Some, None, codes, refl}
use Rattle.std.specs.Prelude.{Result, Ok, Err, replicate}
use Rattle.hx_object.specs.Names.{is_dns_label, is_dns_part, is_key, is_qualified_part, is_subdomain}
use Rattle.hx_object.specs.WellKnown.{tree_suffix}
use Rattle.hx_select.specs.declared.selector.Selector.{Selector}
use Rattle.hx_select.specs.declared.selector.Requirement.{Requirement}
use Rattle.hx_select.specs.declared.selector.Test.TheVariants.{There, Absent, In, NotIn}
use Rattle.hx_select.specs.declared.selector.SelectFault.{SelectFault}
use Rattle.hx_select.specs.declared.selector.SelectFault.TheVariants.{Syntax, BadKey, BadValue}
use Rattle.hx_select.specs.declared.tree_select.TreeSelect.{TreeSelect}
use Rattle.hx_select.specs.declared.tree_select.TreeFault.{TreeFault}
use Rattle.hx_select.specs.declared.tree_select.TreeFault.TheVariants as tree
use Rattle.hx_select.specs.Selectors.{everything, requirement, selector_of, selects}
use Rattle.hx_select.specs.TreeSelects.{in_tree, tree_select_of}

-- the label a=1
abbrev one_label : List (List ℕ × List ℕ)
one_label = (codes "a", codes "1") ∷ []

abbrev held : Result Selector SelectFault → Option Bool
held (Ok selector) = Some (selects selector one_label)
held (Err fault) = None

-- whether a text that is a selector holds for a=1
abbrev holds : List ℕ → Option Bool
holds text = held (selector_of text)

-- requirements that are joined
abbrev all_of : List Requirement → Result Selector SelectFault
all_of needs = Ok (record { needs = needs })

-- ---- what holds

joined : holds (codes "a in (1,2),!b") ≡ Some true
unfolding selector_of is_key is_qualified_part
joined = refl

other_value : holds (codes "b!=1") ≡ Some true
unfolding selector_of is_key is_qualified_part
other_value = refl

empty : holds [] ≡ Some true
unfolding selector_of is_key is_qualified_part
empty = refl

excluded : holds (codes "a notin (1)") ≡ Some false
unfolding selector_of is_key is_qualified_part
excluded = refl

there : holds (codes "a") ≡ Some true
unfolding selector_of is_key is_qualified_part
there = refl

not_there : holds (codes "b") ≡ Some false
unfolding selector_of is_key is_qualified_part
not_there = refl

absent : holds (codes "!a") ≡ Some false
unfolding selector_of is_key is_qualified_part
absent = refl

-- an empty value is a value, and not a label that isn't there
empty_value : holds (codes "b=") ≡ Some false
unfolding selector_of is_key is_qualified_part
empty_value = refl

-- ---- what is read

-- spaces alone are the selector that always holds
spaces : selector_of (codes "   ") ≡ Ok everything
unfolding selector_of
spaces = refl

two_values : selector_of (codes "a in (1,2),!b") ≡ all_of (requirement (codes "a") (In (codes "1" ∷ codes "2" ∷ [])) ∷ requirement (codes "b") Absent ∷ [])
unfolding selector_of is_key is_qualified_part
two_values = refl

-- `in` is an operator only behind a key
key_in : selector_of (codes "in in (in)") ≡ all_of (requirement (codes "in") (In (codes "in" ∷ [])) ∷ [])
unfolding selector_of is_key is_qualified_part
key_in = refl

not_notin : selector_of (codes "!notin,notin") ≡ all_of (requirement (codes "notin") Absent ∷ requirement (codes "notin") There ∷ [])
unfolding selector_of is_key is_qualified_part
not_notin = refl

-- a set without a word has one empty value, and so has each place between commas
empty_set : selector_of (codes "a in ()") ≡ all_of (requirement (codes "a") (In ([] ∷ [])) ∷ [])
unfolding selector_of is_key is_qualified_part
empty_set = refl

empty_values : selector_of (codes "a notin (,b,)") ≡ all_of (requirement (codes "a") (NotIn ([] ∷ codes "b" ∷ [] ∷ [])) ∷ [])
unfolding selector_of is_key is_qualified_part
empty_values = refl

no_value : selector_of (codes "a=") ≡ all_of (requirement (codes "a") (In ([] ∷ [])) ∷ [])
unfolding selector_of is_key is_qualified_part
no_value = refl

no_value_before_comma : selector_of (codes "a!=,b == 1") ≡ all_of (requirement (codes "a") (NotIn ([] ∷ [])) ∷ requirement (codes "b") (In (codes "1" ∷ [])) ∷ [])
unfolding selector_of is_key is_qualified_part
no_value_before_comma = refl

-- no space is needed between a word and a sign
no_space : selector_of (codes "a notin(x),b in(y)") ≡ all_of (requirement (codes "a") (NotIn (codes "x" ∷ [])) ∷ requirement (codes "b") (In (codes "y" ∷ [])) ∷ [])
unfolding selector_of is_key is_qualified_part
no_space = refl

subdomain : selector_of (codes "x.io/a") ≡ all_of (requirement (codes "x.io/a") There ∷ [])
unfolding selector_of is_key is_subdomain is_dns_part is_qualified_part
subdomain = refl

-- ---- faults

-- a text has a fault
abbrev faulty : List ℕ → SelectFault → Type 0
faulty text fault = selector_of text ≡ Err fault

angle : faulty (codes "a>1") (Syntax 1)
unfolding selector_of is_key is_qualified_part
angle = refl

open_set : faulty (codes "a in (1") (Syntax 7)
unfolding selector_of is_key is_qualified_part
open_set = refl

-- `==` and `=`: the second can't stand there
three_signs : faulty (codes "a===b") (Syntax 3)
unfolding selector_of is_key is_qualified_part
three_signs = refl

second_sign : faulty (codes "a=b=c") (Syntax 3)
unfolding selector_of is_key is_qualified_part
second_sign = refl

-- `!=` is one token, and so is `==`
sign_first : faulty (codes "!==a") (Syntax 0)
unfolding selector_of
sign_first = refl

signs_first : faulty (codes " ==a") (Syntax 1)
unfolding selector_of
signs_first = refl

-- `!` and `!=`
two_bangs : faulty (codes "!!=a") (Syntax 1)
unfolding selector_of
two_bangs = refl

comma_first : faulty (codes ",a") (Syntax 0)
unfolding selector_of
comma_first = refl

comma_last : faulty (codes "a,") (Syntax 2)
unfolding selector_of is_key is_qualified_part
comma_last = refl

comma_last_spaced : faulty (codes "a , ") (Syntax 4)
unfolding selector_of is_key is_qualified_part
comma_last_spaced = refl

two_commas : faulty (codes "a,,b") (Syntax 2)
unfolding selector_of is_key is_qualified_part
two_commas = refl

bang_alone : faulty (codes "!") (Syntax 1)
unfolding selector_of
bang_alone = refl

joined_operator : faulty (codes "ain (b)") (Syntax 4)
unfolding selector_of is_key is_qualified_part
joined_operator = refl

two_words : faulty (codes "a b") (Syntax 2)
unfolding selector_of is_key is_qualified_part
two_words = refl

no_set : faulty (codes "a in b") (Syntax 5)
unfolding selector_of is_key is_qualified_part
no_set = refl

two_words_in_set : faulty (codes "a in (b c)") (Syntax 8)
unfolding selector_of is_key is_qualified_part
two_words_in_set = refl

compared_absence : faulty (codes "!a=b") (Syntax 2)
unfolding selector_of is_key is_qualified_part
compared_absence = refl

bad_key : faulty (codes "a, -b") (BadKey 3)
unfolding selector_of is_key is_qualified_part
bad_key = refl

bad_value : faulty (codes "a in (1,-b)") (BadValue 8)
unfolding selector_of is_key is_qualified_part
bad_value = refl

-- a value of 63 bytes is the longest
long_value : faulty (codes "a = " ++ replicate 64 98) (BadValue 4)
unfolding selector_of is_key is_qualified_part
long_value = refl

longest_value : selector_of (codes "a = " ++ replicate 63 98) ≡ all_of (requirement (codes "a") (In (replicate 63 98 ∷ [])) ∷ [])
unfolding selector_of is_key is_qualified_part
longest_value = refl

-- the first fault counts
first_fault : faulty (codes "-a=-b,") (BadKey 0)
unfolding selector_of is_key is_qualified_part
first_fault = refl

-- ---- tree selectors

abbrev under : List (List ℕ) → List (List ℕ × List ℕ)
under [] = []
under (name ∷ names) = (name ++ tree_suffix, []) ∷ under names

abbrev naming : Option (List ℕ) → List (List ℕ) → Result TreeSelect TreeFault
naming name names = Ok (record { plain = name; not = names })

-- a text has a fault
abbrev tree_faulty : List ℕ → TreeFault → Type 0
tree_faulty text fault = tree_select_of text ≡ Err fault

plain : tree_select_of (codes " a ") ≡ naming (Some (codes "a")) []
unfolding tree_select_of is_dns_label
plain = refl

negated : tree_select_of (codes "!a , b,!c") ≡ naming (Some (codes "b")) (codes "a" ∷ codes "c" ∷ [])
unfolding tree_select_of is_dns_label
negated = refl

nothing : tree_faulty [] tree.Syntax
unfolding tree_select_of
nothing = refl

spaces_alone : tree_faulty (codes "  ") tree.Syntax
unfolding tree_select_of
spaces_alone = refl

empty_piece : tree_faulty (codes "a,,-b") tree.Syntax
unfolding tree_select_of is_dns_label
empty_piece = refl

spaced_name : tree_faulty (codes "! a") tree.BadName
unfolding tree_select_of is_dns_label
spaced_name = refl

bang_without_name : tree_faulty (codes "!") tree.BadName
unfolding tree_select_of is_dns_label
bang_without_name = refl

bad_name : tree_faulty (codes "a,B") tree.BadName
unfolding tree_select_of is_dns_label
bad_name = refl

two_plain : tree_faulty (codes "a,!b,c,-") tree.TwoPlain
unfolding tree_select_of is_dns_label
two_plain = refl

-- whatever the value of the label
plain_holds : in_tree (record { plain = Some (codes "a"); not = codes "b" ∷ [] }) (under (codes "a" ∷ codes "c" ∷ [])) ≡ true
plain_holds = refl

negated_fails : in_tree (record { plain = Some (codes "a"); not = codes "b" ∷ [] }) (under (codes "a" ∷ codes "b" ∷ [])) ≡ false
negated_fails = refl

plain_fails : in_tree (record { plain = Some (codes "a"); not = codes "b" ∷ [] }) (under (codes "c" ∷ [])) ≡ false
plain_fails = refl

negated_alone : in_tree (record { plain = None; not = codes "b" ∷ [] }) [] ≡ true
negated_alone = refl
