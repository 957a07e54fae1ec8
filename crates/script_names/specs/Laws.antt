-- What holds of words, paths and their parents.
use Rattle.std.specs.Prelude.{◌≡◌, ℕ, List, Some, None, All, IsTrue, false}
use Rattle.std.specs.List.{join_with_byte}
use Rattle.script_names.specs.Ascii.{slash}
use Rattle.script_names.specs.Names.{is_name}
use Rattle.script_names.specs.Paths.{PathParts, is_slash, components, spelled_names, path_fault, parent_of, joined}
use Rattle.script_names.specs.Paths.{IsStrictPrefix}

-- the components of a word, joined by slashes, are the word again
abbrev pub JoinsAgain : Type 0
JoinsAgain = (word : List ℕ) → join_with_byte slash (components word) ≡ word

-- a byte of a component is no slash
abbrev pub HasNoSlash : Type 0
HasNoSlash = (word : List ℕ) → All (λ part. All (λ b. is_slash b ≡ false) part) (components word)

-- what a word without fault spells are names
abbrev pub SpellsNames : Type 0
SpellsNames = (word : List ℕ) → path_fault word ≡ None → All (λ name. IsTrue (is_name name)) (spelled_names word)

-- the parent of a path with one name more has the path's names
abbrev pub ParentOfJoin : Type 0
ParentOfJoin = (path : PathParts) (name : List ℕ)
    → parent_of (joined path name) ≡ Some (record { names = path.names; slash = false })

-- a parent's names begin the path's
abbrev pub ParentBegins : Type 0
ParentBegins = (path parent : PathParts) → parent_of path ≡ Some parent → IsStrictPrefix parent.names path.names

-- a path's names begin those of the path with one name more
abbrev pub JoinIsLonger : Type 0
JoinIsLonger = (path : PathParts) (name : List ℕ) → IsStrictPrefix path.names (joined path name).names
