-- The first of some forms, found one after another.
use Rattle.std.specs.Prelude.{Bool, ◌&&◌, ◌||◌, ◌==◌, nat_lt, List, [], ◌∷◌, Option, Some, None, if◌then◌else◌}
use Rattle.shell_forms.specs.Forms.{Found}
use Rattle.shell_forms.specs.First.{rank}

-- one form stands before another, or at the same offset and is named before it
abbrev pub is_sooner : Found → Found → Bool
is_sooner one other = nat_lt one.1 other.1 || ((one.1 == other.1) && nat_lt (rank one.0) (rank other.0))

-- the first of those so far and one more
abbrev pub sooner : Option Found → Found → Option Found
sooner None one = Some one
sooner (Some first) one = if is_sooner one first then Some one else Some first

-- the first of those so far and these
abbrev pub soonest : Option Found → List Found → Option Found
soonest first [] = first
soonest first (one ∷ rest) = soonest (sooner first one) rest
