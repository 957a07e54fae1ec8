-- Pieces of a text, one behind the other.
use Rattle.std.specs.Prelude.{ℕ, List, ◌++◌}

-- two pieces
unfoldable pub two : List ℕ → List ℕ → List ℕ
two a b = a ++ b

-- three
unfoldable pub three : List ℕ → List ℕ → List ℕ → List ℕ
three a b c = a ++ two b c

-- four
unfoldable pub four : List ℕ → List ℕ → List ℕ → List ℕ → List ℕ
four a b c d = two a b ++ two c d

-- five
unfoldable pub five : List ℕ → List ℕ → List ℕ → List ℕ → List ℕ → List ℕ
five a b c d e = two a b ++ three c d e

-- seven
unfoldable pub seven : List ℕ → List ℕ → List ℕ → List ℕ → List ℕ → List ℕ → List ℕ → List ℕ
seven a b c d e f g = three a b c ++ four d e f g

-- nine
unfoldable pub nine : List ℕ → List ℕ → List ℕ → List ℕ → List ℕ → List ℕ → List ℕ → List ℕ → List ℕ → List ℕ
nine a b c d e f g h i = four a b c d ++ five e f g h i
