-- Lists that may be there or not, one behind another.
use Rattle.std.specs.Prelude.{List, [], ◌∷◌, ◌++◌, Option, Some, None}

-- two lists, one behind the other, where both are there
abbrev pub joined : {A : Type 0} → Option (List A) → Option (List A) → Option (List A)
joined None more = None
joined (Some xs) None = None
joined (Some xs) (Some more) = Some (xs ++ more)

-- the lists of these, one behind another, where all are there
abbrev pub all_joined : {X A : Type 0} → (X → Option (List A)) → List X → Option (List A)
all_joined f [] = Some []
all_joined f (x ∷ xs) = joined (f x) (all_joined f xs)
