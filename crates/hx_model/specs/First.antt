-- The first that holds.
--     so test a      a where the test holds
--     or_else a b    a where it is there, and else b
--     first xs       the first that is there
--     first_of f xs  the first that there is of one of them
use Rattle.std.specs.Prelude.{Bool, true, false, List, [], ◌∷◌, Option, Some, None}

abbrev pub so : {A : Type 0} → Bool → A → Option A
so true a = Some a
so false a = None

abbrev pub or_else : {A : Type 0} → Option A → Option A → Option A
or_else None b = b
or_else (Some a) b = Some a

abbrev pub first : {A : Type 0} → List (Option A) → Option A
first [] = None
first (x ∷ xs) = or_else x (first xs)

abbrev pub first_of : {A B : Type 0} → (A → Option B) → List A → Option B
first_of f [] = None
first_of f (x ∷ xs) = or_else (f x) (first_of f xs)
