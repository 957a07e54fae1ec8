-- What contracts see of a piece of a word.
use Rattle.std.specs.Prelude.{ℕ, Bool, List}

-- its bytes; whether they are split; whether they were quoted
pub record PieceParts : Type 0 where
  pub text : List ℕ
  pub split : Bool
  pub quoted : Bool
