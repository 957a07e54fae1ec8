-- The texts that the rules on forms speak of.
use Rattle.std.specs.Prelude.{ℕ, List}

-- a string of bytes
abbrev pub Text : Type 0
Text = List ℕ
