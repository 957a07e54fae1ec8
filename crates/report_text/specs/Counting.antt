-- How the code counts places: one after another, in a map that keeps the order of its keys.
use Rattle.std.specs.Prelude.{ℕ, ◌+◌, List, [], ◌∷◌, Option, Some, None, if◌then◌else◌}
use Rattle.report_text.specs.declared.places.EndPlace.{EndPlace}
use Rattle.report_text.specs.Places.{same_place}

-- a place, if there is one
abbrev pub as_list : Option EndPlace → List EndPlace
as_list None = []
as_list (Some place) = place ∷ []

-- how often the place was counted
abbrev pub count_in : List (EndPlace × ℕ) → EndPlace → ℕ
count_in [] place = 0
count_in (e ∷ es) place = if same_place place e.0 then e.1 else count_in es place

-- counted once more: a place that is there keeps its turn, a new one goes last
abbrev pub add_place : List (EndPlace × ℕ) → EndPlace → List (EndPlace × ℕ)
add_place [] place = (place, 1) ∷ []
add_place (e ∷ es) place = if same_place place e.0 then (e.0, e.1 + 1) ∷ es else e ∷ add_place es place
