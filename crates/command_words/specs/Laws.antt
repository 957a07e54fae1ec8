-- What the form of the command line says: which words are a valid line, where words stop to begin one, and which
-- numbers it lets through.
use Rattle.std.specs.Prelude.{◌≡◌, ◌↔◌, ℕ, ◌+◌, ◌<◌, ◌≤◌, ◌⊎◌, List, ◌++◌, take, length, Ok, Err}
use Rattle.command_words.specs.declared.request.Request.{Request}
use Rattle.command_words.specs.declared.request.Request.TheVariants.{Load}
use Rattle.command_words.specs.declared.limits.TheConstants.{MOST_LOAD}
use Rattle.command_words.specs.Words.{form}
use Rattle.command_words.specs.CommandLines.{IsLine}

-- some valid line begins with these words
pub record BeginsLine (words : List (List ℕ)) : Type 0 where
  pub request : Request
  pub rest : List (List ℕ)
  pub line : IsLine (words ++ rest) request

-- with the first n words no valid line begins; or n is behind all words, and they are no valid line
abbrev pub LeavesLine : List (List ℕ) → ℕ → Type 0
LeavesLine words n =
    ((n ≤ length words) × (BeginsLine (take n words) → ⊥))
    ⊎ ((n ≡ length words + 1) × ((request : Request) → IsLine words request → ⊥))

-- the words spell a request exactly where they are a valid line for it: of `form` and `IsLine` one is to be believed
abbrev pub FormIsLine : Type 0
FormIsLine = (words : List (List ℕ)) (request : Request) → (form words ≡ Ok request) ↔ IsLine words request

-- where they spell none, the number that is named is the least one with which the words leave every valid line
abbrev pub FormIsLeast : Type 0
FormIsLeast =
    (words : List (List ℕ)) (n : ℕ) → form words ≡ Err n
    → ((k : ℕ) → k < n → BeginsLine (take k words)) × LeavesLine words n

-- a load is of a number from 1 to MOST_LOAD
abbrev pub LoadsAreSmall : Type 0
LoadsAreSmall =
    (words : List (List ℕ)) (number limit : ℕ) → form words ≡ Ok (Load number limit)
    → (1 ≤ number) × (number ≤ MOST_LOAD)
