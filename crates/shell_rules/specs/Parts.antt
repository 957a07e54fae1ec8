-- A property of what gives a value, of each of several parts.
use Rattle.std.specs.Prelude.{◌≡◌, Bool, List, [], ◌∷◌, Some}
use Rattle.shell_words.specs.Pieces.{PieceParts}
use Rattle.shell_rules.specs.State.{Text, Doing, Action, Funs}
use Rattle.shell_rules.specs.Calls.{found}

-- a property of what gives a value
abbrev pub Property : Type 1
Property = (A : Type 0) → Doing A → Type 0

module _ (Has : Property) where
  -- each of these has it
  abbrev pub Each : {A : Type 0} → List (Doing A) → Type 0
  Each [] = Unit {0}
  Each (doing ∷ more) = Has _ doing × Each more

  -- each function that is defined
  abbrev pub EachFun : Funs → Type 0
  EachFun f = (name : Text) (body : Action) → found name f ≡ Some body → Has _ body

  -- the members of an and-or list
  abbrev pub EachLink : List (Bool × Action) → Type 0
  EachLink [] = Unit {0}
  EachLink (link ∷ links) = Has _ link.1 × EachLink links

  -- the conditions and the bodies of an `if`
  abbrev pub EachArm : List (Action × Action) → Type 0
  EachArm [] = Unit {0}
  EachArm (arm ∷ arms) = Has _ arm.0 × Has _ arm.1 × EachArm arms

  -- the patterns of an arm of `case`
  abbrev pub EachPattern : List (List (Doing PieceParts)) → Type 0
  EachPattern [] = Unit {0}
  EachPattern (pattern ∷ patterns) = Each pattern × EachPattern patterns

  -- the patterns and the bodies of a `case`
  abbrev pub EachCaseArm : List (List (List (Doing PieceParts)) × Action) → Type 0
  EachCaseArm [] = Unit {0}
  EachCaseArm (arm ∷ arms) = EachPattern arm.0 × Has _ arm.1 × EachCaseArm arms

  -- the values of assignments
  abbrev pub EachSet : List (Text × Doing Text) → Type 0
  EachSet [] = Unit {0}
  EachSet (set ∷ sets) = Has _ set.1 × EachSet sets
