-- The operands of `export`, as the code cuts them.
use Rattle.std.specs.Prelude.{ℕ, ◌+◌, List, length, drop, nat_lt, Option, Some, None, if◌then◌else◌}

-- what stands behind a place of a field, if there is anything
abbrev pub behind_equals : ℕ → List ℕ → Option (List ℕ)
behind_equals at field = if nat_lt at (length field) then Some (drop (at + 1) field) else None
