-- The runs among the parts of a word are longest, and none is empty.
use Rattle.std.specs.Prelude.{Bool, true, false, not, ◌&&◌, List, [], ◌∷◌}
use Rattle.shell_lexer.specs.declared.token.RawPart.{RawPart}
use Rattle.shell_lexer.specs.declared.token.RawPart.TheVariants.{Plain, Quoted}

-- no plain run of these parts is empty, and none stands directly behind another; `behind` says that one stands
-- directly before the parts
abbrev pub plain_runs_are_longest : Bool → List RawPart → Bool
plain_runs_are_longest behind [] = true
plain_runs_are_longest behind (Plain [] ∷ ps) = false
plain_runs_are_longest behind (Plain (b ∷ bytes) ∷ ps) = not behind && plain_runs_are_longest true ps
plain_runs_are_longest behind (_ ∷ ps) = plain_runs_are_longest false ps

-- no quoted run of these parts is empty, and none stands directly behind another; `behind` says that one stands
-- directly before the parts
abbrev pub quoted_runs_are_longest : Bool → List RawPart → Bool
quoted_runs_are_longest behind [] = true
quoted_runs_are_longest behind (Quoted [] ∷ ps) = false
quoted_runs_are_longest behind (Quoted (b ∷ bytes) ∷ ps) = not behind && quoted_runs_are_longest true ps
quoted_runs_are_longest behind (_ ∷ ps) = quoted_runs_are_longest false ps
