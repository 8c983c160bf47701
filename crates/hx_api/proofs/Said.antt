-- What a query says, by its parameters one after another.
use Rattle.std.proofs.Common.{◌≡◌, ℕ, List, [], ◌∷◌, Bool, true, false, not, Option, Some, None, option_map, option_and_then, unwrap_or, codes, refl, sym, ap, ◌∙◌, map}
use Rattle.std.specs.Prelude.{bytes_eq}
use Rattle.std.specs.Cow.{cow_str_bytes}
use Rattle.std.specs.Option.{option_or}
use Rattle.std.specs.declared.alloc.Global.{Global}
use Rattle.std.specs.declared.borrow.CowStr.{CowStr}
use Rattle.std.proofs.lemmas.Slice.Eq.{bytes_eq-Decides}
use Rattle.hx_object.specs.Pairs.{value_of}
use Rattle.hx_model.specs.First.{so}
use Rattle.hx_json.specs.LongDecimals.{long_decimal}
use Rattle.hx_json.specs.Reading.{is_long_decimal, number_in}
use Rattle.hx_api.specs.Inside.{IsReading, fields_said, given_in, is_filled, is_no_number, kept_text, name_of, over, said_by, selector_said}
use Rattle.hx_api.specs.Queries.{Parameters, is_given, is_other_admission, is_other_since, is_skip, since_in, text_pair}
use Rattle.hx_api.specs.declared.query.Parameter.{Parameter}
use Rattle.hx_api.specs.declared.query.Parameter.TheVariants.{Watch, FieldSelector, DryRun, Continue}
use Rattle.hx_api.specs.declared.query.Said.{Said}

-- ---- one more parameter

first_said : {A : Type 0} (o : Option A) (b : A) (y : Option A) → option_or (option_or o (Some b)) y ≡ option_or o (Some b)
first_said None b y = refl
first_said (Some a) b y = refl

pub admission : (x : Said) (value : List ℕ) (rest : Parameters)
    → over (record x { admission = option_or x.admission (Some (bytes_eq value (codes "skip"))) }) (said_by rest) ≡ over x (said_by ((codes "admission", value) ∷ rest))
unfolding over said_by
admission x value rest = rw (first_said x.admission) refl

pub since : (x : Said) (value : List ℕ) (rest : Parameters)
    → over (record x { since = option_or x.since (Some (long_decimal value)) }) (said_by rest) ≡ over x (said_by ((codes "since", value) ∷ rest))
unfolding over said_by
since x value rest = rw (first_said x.since) refl

pub watch : (x : Said) (value : List ℕ) (rest : Parameters)
    → over (record x { watch = option_or x.watch (Some (is_filled value)) }) (said_by rest) ≡ over x (said_by ((codes "watch", value) ∷ rest))
unfolding over said_by
watch x value rest = rw (first_said x.watch) refl

pub field_selector : (x : Said) (value : List ℕ) (rest : Parameters)
    → over (record x { field_selector = option_or x.field_selector (Some (is_filled value)) }) (said_by rest) ≡ over x (said_by ((codes "fieldSelector", value) ∷ rest))
unfolding over said_by
field_selector x value rest = rw (first_said x.field_selector) refl

pub dry_run : (x : Said) (value : List ℕ) (rest : Parameters)
    → over (record x { dry_run = option_or x.dry_run (Some (is_filled value)) }) (said_by rest) ≡ over x (said_by ((codes "dryRun", value) ∷ rest))
unfolding over said_by
dry_run x value rest = rw (first_said x.dry_run) refl

pub continued : (x : Said) (value : List ℕ) (rest : Parameters)
    → over (record x { continued = option_or x.continued (Some (is_filled value)) }) (said_by rest) ≡ over x (said_by ((codes "continue", value) ∷ rest))
unfolding over said_by
continued x value rest = rw (first_said x.continued) refl

differs : (name key : List ℕ) → (name ≡ key → ⊥) → bytes_eq key name ≡ false
differs name key other = by (bytes_eq key name) refl
  where
    by : (b : Bool) → bytes_eq key name ≡ b → b ≡ false
    by true is = absurd (other (sym ((bytes_eq-Decides key name).0 is)))
    by false is = refl

-- one that doesn't count
pub no_parameter : (x : Said) (name value : List ℕ) (rest : Parameters)
    → (name ≡ codes "admission" → ⊥) → (name ≡ codes "since" → ⊥) → (name ≡ codes "watch" → ⊥) → (name ≡ codes "fieldSelector" → ⊥)
    → (name ≡ codes "dryRun" → ⊥) → (name ≡ codes "continue" → ⊥) → over x (said_by rest) ≡ over x (said_by ((name, value) ∷ rest))
unfolding over said_by
no_parameter x name value rest a b c d e f =
    rw (differs name _ a, differs name _ b, differs name _ c, differs name _ d, differs name _ e, differs name _ f) refl

-- ---- the label selector

kept_or : (kept : Option (CowStr Global)) (value : CowStr Global) → kept_text (option_or kept (Some value)) ≡ option_or (kept_text kept) (Some (cow_str_bytes value))
kept_or None value = refl
kept_or (Some text) value = refl

first_kept : (kept : Option (List ℕ)) (value : List ℕ) (rest : Parameters) → option_or (option_or kept (Some value)) (selector_said rest) ≡ option_or kept (selector_said ((codes "labelSelector", value) ∷ rest))
first_kept None value rest = refl
first_kept (Some text) value rest = refl

pub selector : (kept : Option (CowStr Global)) (value : CowStr Global) (rest : Parameters)
    → option_or (kept_text (option_or kept (Some value))) (selector_said rest) ≡ option_or (kept_text kept) (selector_said ((codes "labelSelector", cow_str_bytes value) ∷ rest))
selector kept value rest = ap (λ o. option_or o (selector_said rest)) (kept_or kept value) ∙ first_kept (kept_text kept) (cow_str_bytes value) rest

-- ---- the field selector

first_fields : (kept : Option (List ℕ)) (value : List ℕ) (rest : Parameters) → option_or (option_or kept (Some value)) (fields_said rest) ≡ option_or kept (fields_said ((codes "fieldSelector", value) ∷ rest))
first_fields None value rest = refl
first_fields (Some text) value rest = refl

pub fields : (kept : Option (CowStr Global)) (value : CowStr Global) (rest : Parameters)
    → option_or (kept_text (option_or kept (Some value))) (fields_said rest) ≡ option_or (kept_text kept) (fields_said ((codes "fieldSelector", cow_str_bytes value) ∷ rest))
fields kept value rest = ap (λ o. option_or o (fields_said rest)) (kept_or kept value) ∙ first_fields (kept_text kept) (cow_str_bytes value) rest

-- one that is neither
pub not_labels : (kept : Option (List ℕ)) (name value : List ℕ) (rest : Parameters) → (name ≡ codes "labelSelector" → ⊥)
    → option_or kept (selector_said rest) ≡ option_or kept (selector_said ((name, value) ∷ rest))
not_labels kept name value rest other = rw (differs name (codes "labelSelector") other) refl

pub not_fields : (kept : Option (List ℕ)) (name value : List ℕ) (rest : Parameters) → (name ≡ codes "fieldSelector" → ⊥)
    → option_or kept (fields_said rest) ≡ option_or kept (fields_said ((name, value) ∷ rest))
not_fields kept name value rest other = rw (differs name (codes "fieldSelector") other) refl

-- ---- the end

or_none : {A : Type 0} (o : Option A) → option_or o None ≡ o
or_none None = refl
or_none (Some x) = refl

no_more : (kept : Option (List ℕ)) → option_or kept (selector_said []) ≡ kept
no_more kept = or_none kept

no_more_fields : (kept : Option (List ℕ)) → option_or kept (fields_said []) ≡ kept
no_more_fields kept = or_none kept

pub nothing_behind : (x : Said) → over x (said_by []) ≡ x
unfolding over said_by
nothing_behind x =
    rw (or_none x.admission, or_none x.since, or_none x.watch, or_none x.field_selector, or_none x.dry_run, or_none x.continued) refl

-- what was read where no pairs are left
pub read_all : (said : Said) (kept asked : Option (CowStr Global)) (query : Parameters) (pairs : List (List ℕ × List ℕ)) → pairs ≡ []
    → (said_by query ≡ over said (said_by (map text_pair pairs))) × (selector_said query ≡ option_or (kept_text kept) (selector_said (map text_pair pairs)))
    × (fields_said query ≡ option_or (kept_text asked) (fields_said (map text_pair pairs))) → IsReading query said kept asked
read_all said kept asked query pairs end h = record {
  says = sym (nothing_behind said) ∙ ap (λ ps. over said (said_by (map text_pair ps))) (sym end) ∙ sym h.0;
  selects = sym (no_more (kept_text kept)) ∙ ap (λ ps. option_or (kept_text kept) (selector_said (map text_pair ps))) (sym end) ∙ sym h.1;
  asks = sym (no_more_fields (kept_text asked)) ∙ ap (λ ps. option_or (kept_text asked) (fields_said (map text_pair ps))) (sym end) ∙ sym h.2;
}

-- ---- what is asked of it

skips : (o : Option (List ℕ)) → unwrap_or (option_map (λ value. bytes_eq value (codes "skip")) o) false ≡ is_skip o
skips None = refl
skips (Some value) = refl

pub skip : (x : Said) (query : Parameters) → x ≡ said_by query → unwrap_or x.admission false ≡ is_skip (value_of query (codes "admission"))
unfolding said_by
skip x query e = ap (λ (y : Said). unwrap_or y.admission false) e ∙ skips (value_of query (codes "admission"))

others : (o : Option (List ℕ)) → not (unwrap_or (option_map (λ value. bytes_eq value (codes "skip")) o) true) ≡ is_other_admission o
others None = refl
others (Some value) = refl

pub other_admission : (x : Said) (query : Parameters) → x ≡ said_by query → not (unwrap_or x.admission true) ≡ is_other_admission (value_of query (codes "admission"))
unfolding said_by
other_admission x query e = ap (λ (y : Said). not (unwrap_or y.admission true)) e ∙ others (value_of query (codes "admission"))

no_number : (b : Bool) (n : ℕ) → is_no_number (Some (so b n)) ≡ not b
no_number true n = refl
no_number false n = refl

no_numbers : (o : Option (List ℕ)) → is_no_number (option_map long_decimal o) ≡ is_other_since o
no_numbers None = refl
no_numbers (Some value) = no_number (is_long_decimal value) (number_in value)

pub other_since : (x : Said) (query : Parameters) → x ≡ said_by query → is_no_number x.since ≡ is_other_since (value_of query (codes "since"))
unfolding said_by
other_since x query e = ap (λ (y : Said). is_no_number y.since) e ∙ no_numbers (value_of query (codes "since"))

numbers : (o : Option (List ℕ)) → unwrap_or (option_map long_decimal o) None ≡ option_and_then long_decimal o
numbers None = refl
numbers (Some value) = refl

pub number : (x : Said) (query : Parameters) → x ≡ said_by query → unwrap_or x.since None ≡ since_in query
unfolding said_by
number x query e = ap (λ (y : Said). unwrap_or y.since None) e ∙ numbers (value_of query (codes "since"))

fills : (o : Option (List ℕ)) → unwrap_or (option_map is_filled o) false ≡ is_given o
fills None = refl
fills (Some []) = refl
fills (Some (byte ∷ value)) = refl

said_of : (query : Parameters) (parameter : Parameter) → unwrap_or (given_in (said_by query) parameter) false ≡ is_given (value_of query (name_of parameter))
unfolding said_by
said_of query Watch = fills (value_of query (codes "watch"))
said_of query FieldSelector = fills (value_of query (codes "fieldSelector"))
said_of query DryRun = fills (value_of query (codes "dryRun"))
said_of query Continue = fills (value_of query (codes "continue"))

pub given : (x : Said) (query : Parameters) (parameter : Parameter) → x ≡ said_by query → unwrap_or (given_in x parameter) false ≡ is_given (value_of query (name_of parameter))
given x query parameter e = ap (λ (y : Said). unwrap_or (given_in y parameter) false) e ∙ said_of query parameter
