-- How many entries a package may have.
use Rattle.std.specs.Prelude.{ℕ}

-- how many entries a package may have at most: as many as a file may have bytes
abbrev pub MOST_ENTRIES : ℕ
MOST_ENTRIES = 1048576
