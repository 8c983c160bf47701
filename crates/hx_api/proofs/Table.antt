-- The router finds a route of the table exactly where the definition of what a path names has a resource.
use Rattle.std.proofs.Common.{◌≡◌, inl, inr, ℕ, suc, ◌<◌, List, [], ◌∷◌, length, get_or, Some, None, true, false, refl, sym, ◌∙◌, subst, arith}
use Rattle.std.specs.Prelude.{⊤}
use Rattle.matchit.specs.Level.{IsText}
use Rattle.matchit.specs.Router.{RouteOf}
use Rattle.matchit.specs.Seek.{first}
use Rattle.matchit.proofs.OnLiterals.{matchit_on_literals}
use Rattle.hx_api.specs.Paths.{parts_of, resource_of}
use Rattle.hx_api.specs.InsideRoutes.{Rows, added, resource_on, table_rows}
use Rattle.hx_api.specs.declared.routes.Form.TheVariants.{Collection, Object, CollectionIn, ObjectIn}
use Rattle.hx_api.specs.declared.routes.Route.{Route}
use Rattle.hx_api.specs.declared.routes.Route.TheVariants.{Core, Group, Events}
use Rattle.hx_api.proofs.Fits.{fits, ArePlain, HasFit, HasNoFit, IsRouteOf}
use Rattle.hx_api.proofs.Named.{named, nameless, pieces_of}
use Rattle.hx_api.proofs.Pieces.{fits_parts, takes}
use Rattle.hx_api.proofs.Search.{first-IsRouteOf}

pub text_of : (path : List ℕ) → ((i : ℕ) → i < length path → get_or path i 0 < 256) → IsText path
text_of [] bytes = tt
text_of (b ∷ path) bytes = (bytes 0 (omega arith), text_of path (λ i within. bytes (suc i) (omega arith)))

plain : ArePlain table_rows
unfolding added matchit_on_literals
plain = (refl, (refl, (refl, (refl, (refl, (refl, (refl, (refl, (refl, tt)))))))))

-- each row's pattern takes the path where its route's parts take the path's
AreParts : List ℕ → Rows → Type 0
AreParts path [] = ⊤
AreParts path ((pattern, row) ∷ rows) = (fits pattern path ≡ takes (Some [] ∷ pieces_of row.value) (parts_of path)) × AreParts path rows

table_parts : (path : List ℕ) → AreParts path table_rows
unfolding AreParts added matchit_on_literals
table_parts path = (
  fits_parts (pieces_of (Core ObjectIn)) path refl,
  (
    fits_parts (pieces_of (Core CollectionIn)) path refl,
    (
      fits_parts (pieces_of (Core Object)) path refl,
      (
        fits_parts (pieces_of (Core Collection)) path refl,
        (
          fits_parts (pieces_of (Group ObjectIn)) path refl,
          (
            fits_parts (pieces_of (Group CollectionIn)) path refl,
            (
              fits_parts (pieces_of (Group Object)) path refl,
              (
                fits_parts (pieces_of (Group Collection)) path refl,
                (
                  fits_parts (pieces_of Events) path refl,
                  tt,
                ),
              ),
            ),
          ),
        ),
      ),
    ),
  ),
)

takes_found : (path : List ℕ) (rows : Rows) (found : RouteOf Route) → AreParts path rows → HasFit rows path found → takes (Some [] ∷ pieces_of found.value) (parts_of path) ≡ true
unfolding AreParts
takes_found path [] found parts fit = elim fit [ ]
takes_found path ((pattern, row) ∷ rows) found parts (inl (fit, is)) =
    subst (λ r. takes (Some [] ∷ pieces_of r.value) (parts_of path) ≡ true) is (sym parts.0 ∙ fit)
takes_found path ((pattern, row) ∷ rows) found parts (inr later) = takes_found path rows found parts.1 later

-- no row's route takes the path
TakesNone : List ℕ → Rows → Type 0
TakesNone path [] = ⊤
TakesNone path ((pattern, row) ∷ rows) = (takes (Some [] ∷ pieces_of row.value) (parts_of path) ≡ false) × TakesNone path rows

takes_none : (path : List ℕ) (rows : Rows) → AreParts path rows → HasNoFit rows path → TakesNone path rows
unfolding AreParts TakesNone
takes_none path [] parts none = tt
takes_none path ((pattern, row) ∷ rows) parts none = (sym parts.0 ∙ none.0, takes_none path rows parts.1 none.1)

each_route : (path : List ℕ) → TakesNone path table_rows → (route : Route) → takes (Some [] ∷ pieces_of route) (parts_of path) ≡ false
unfolding TakesNone added matchit_on_literals
each_route path none (Core ObjectIn) = none.0
each_route path none (Core CollectionIn) = none.1.0
each_route path none (Core Object) = none.1.1.0
each_route path none (Core Collection) = none.1.1.1.0
each_route path none (Group ObjectIn) = none.1.1.1.1.0
each_route path none (Group CollectionIn) = none.1.1.1.1.1.0
each_route path none (Group Object) = none.1.1.1.1.1.1.0
each_route path none (Group Collection) = none.1.1.1.1.1.1.1.0
each_route path none Events = none.1.1.1.1.1.1.1.1.0

answer : (path : List ℕ) → IsText path → IsRouteOf table_rows path (first table_rows path)
answer path text = first-IsRouteOf table_rows path plain text

-- the route that the router finds
pub found_resource : (path : List ℕ) (row : RouteOf Route) → IsText path → first table_rows path ≡ Some row → resource_on row.value (parts_of path) ≡ resource_of path
unfolding resource_of
found_resource path row text is =
    let fit : HasFit table_rows path row = subst (IsRouteOf table_rows path) is (answer path text) in
    named row.value (parts_of path) (takes_found path table_rows row (table_parts path) fit)

-- the router finds none
pub no_resource : (path : List ℕ) → IsText path → first table_rows path ≡ None → resource_of path ≡ None
unfolding resource_of
no_resource path text is =
    let none : HasNoFit table_rows path = subst (IsRouteOf table_rows path) is (answer path text) in
    nameless (parts_of path) (each_route path (takes_none path table_rows (table_parts path) none))
