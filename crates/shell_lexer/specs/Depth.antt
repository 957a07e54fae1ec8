-- How many command substitutions may stand inside one another. A limit says of each count of substitutions whether
-- one inside so many is too deep; each reading of a text is by such a limit.
use Rattle.std.specs.Prelude.{ℕ, Bool, false, nat_le}

-- the limit of `lex`: one inside 64 others is too deep
abbrev pub too_deep : ℕ → Bool
too_deep depth = nat_le 64 depth

-- no limit: none is too deep
abbrev pub no_limit : ℕ → Bool
no_limit depth = false
