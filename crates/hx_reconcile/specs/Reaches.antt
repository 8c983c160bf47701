-- What is read of a source's exceptions.
--     allows found labels      what was read lets labels pass
--     reaches reach labels     the source goes to a namespace of these labels
use Rattle.std.specs.Prelude.{ℕ, Bool, true, false, ◌&&◌, List, Option, Some, None}
use Rattle.hx_select.specs.Selectors.{selects}
use Rattle.hx_select.specs.declared.selector.Selector.{Selector}
use Rattle.hx_reconcile.specs.declared.reach.Reach.{Reach}
use Rattle.hx_reconcile.specs.declared.reach.Reach.TheVariants.{Nowhere, Everywhere, Where}

-- what can't be read lets nothing pass
abbrev pub allows : Option Selector → List (List ℕ × List ℕ) → Bool
allows None labels = false
allows (Some selector) labels = selects selector labels

-- the source goes to a namespace of these labels
abbrev pub reaches : Reach → List (List ℕ × List ℕ) → Bool
reaches Nowhere labels = false
reaches Everywhere labels = true
reaches (Where select tree_select) labels = selects select labels && selects tree_select labels
