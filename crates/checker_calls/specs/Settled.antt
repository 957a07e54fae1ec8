-- The first fault in the order of results.
use Rattle.std.specs.Prelude.{List, [], ◌∷◌, Result, Ok, Err}

module _ {T E : Type 0} where
  -- a value before those that follow, where no fault follows
  abbrev pub after_value : T → Result (List T) E → Result (List T) E
  after_value value (Ok values) = Ok (value ∷ values)
  after_value value (Err fault) = Err fault

  -- the values of results, or the first fault in their order
  abbrev pub settled : List (Result T E) → Result (List T) E
  settled [] = Ok []
  settled (Ok value ∷ results) = after_value value (settled results)
  settled (Err fault ∷ results) = Err fault
