-- A text that is cut at a byte.
use Rattle.std.specs.Prelude.{ℕ, Bool, not, ◌==◌, List}
use Rattle.std.specs.List.{slice_split, list_all}

-- what stands between the bytes `at` of a text, before the first and after the last too; a part may be empty
abbrev pub parts : ℕ → List ℕ → List (List ℕ)
parts at text = slice_split (λ b. b == at) text

-- no byte of a part is `at`
abbrev pub lacks : ℕ → List ℕ → Bool
lacks at part = list_all (λ b. not (b == at)) part
