-- What holds of the names of commands.
use Rattle.std.specs.Prelude.{◌≡◌, ℕ, ◌||◌, List, [], ◌∷◌, map, filter, Some, codes}
use Rattle.std.specs.Option.{is_some}
use Rattle.script_names.specs.declared.command_names.Utility.{Utility}
use Rattle.script_names.specs.declared.command_names.SpecialBuiltIn.{SpecialBuiltIn}
use Rattle.script_names.specs.CommandNames.{Names, named, names_of, is_one_of, utility_named, special_named}
use Rattle.script_names.specs.CommandNames.{free_utilities, special_names, is_kept_name}

-- a name has something exactly where it is one of the names
abbrev pub NamesAreFound : {A : Type 0} → Names A → Type 0
NamesAreFound names = (name : List ℕ) → is_some (named names name) ≡ is_one_of name (names_of names)

-- each row counts: what is found by its name is what stands in it, so that no name stands twice for two things
abbrev pub EachRowCounts : {A : Type 0} → Names A → Type 0
EachRowCounts names = map (λ row. named names row.0) names ≡ map (λ row. Some row.1) names

-- each utility has a name
abbrev pub UtilitiesHaveNames : Type 0
UtilitiesHaveNames = (it : Utility) → (name : List ℕ) × (utility_named name ≡ Some it)

-- each special built-in has a name
abbrev pub SpecialsHaveNames : Type 0
SpecialsHaveNames = (it : SpecialBuiltIn) → (name : List ℕ) × (special_named name ≡ Some it)

-- of the names of special built-ins only `:` is that of a utility with a meaning as well
abbrev pub OnlyColonIsBoth : Type 0
OnlyColonIsBoth = filter (λ name. is_some (utility_named name)) special_names ≡ codes ":" ∷ []

-- What has a meaning is of three sorts: a name that no function may have, be it a utility's or a special built-in's, or
-- one of the utilities' names that a function may have. A function of such a name is the function's from its definition
-- on, and no command of a kept name is a function's, also where the name is computed.
abbrev pub MeaningsAreKeptOrFree : Type 0
MeaningsAreKeptOrFree = (name : List ℕ) →
    is_some (utility_named name) || is_some (special_named name)
    ≡ is_kept_name name || is_one_of name (names_of free_utilities)

-- no name is of both sorts: of those that functions may have none is kept
abbrev pub FreeNamesAreNotKept : Type 0
FreeNamesAreNotKept = filter is_kept_name (names_of free_utilities) ≡ []
