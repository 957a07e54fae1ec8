-- What the loops keep: a reading of what is left gives one of the whole.
use Rattle.std.proofs.Common.{◌≡◌, ℕ, ◌≤◌, Bool, true, List, [], ◌++◌, length, drop}
use Rattle.shell_lexer.specs.declared.sight.ByteNote.{ByteNote}
use Rattle.shell_lexer.specs.declared.token.Token.{Token}
use Rattle.shell_lexer.specs.declared.token.RawPart.{RawPart}
use Rattle.shell_lexer.specs.Depth.{too_deep}
use Rattle.shell_lexer.specs.Text.{Bytes}
use Rattle.shell_lexer.specs.Reading.{Out, Read, behind, grown, IsItems, IsWord, IsInner}

pub record ItemsSoFar (text : Bytes) (depth from at parens place : ℕ) (out : List Token) : Type 0 where
  pub on : at ≤ place
  pub within : place ≤ length text
  pub few : parens ≤ place
  pub goes_on : (q : Out (List Token)) → IsItems too_deep (length text) depth from parens (drop place text) q → IsItems too_deep (length text) depth from 0 (drop at text) (behind out q)

pub record WordSoFar (text : Bytes) (depth at place : ℕ) (run : Bytes) (parts : List RawPart) (notes : List ByteNote) : Type 0 where
  pub on : at ≤ place
  pub within : place ≤ length text
  pub goes_on : (q : Out Read) → IsWord too_deep (length text) depth run (drop place text) q → IsWord too_deep (length text) depth [] (drop at text) (grown parts notes q)

-- the parts and notes behind those that were there before
pub record InnerSoFar (text : Bytes) (depth from at place : ℕ) (fresh : Bool) (run : Bytes) (old parts : List RawPart) (before notes : List ByteNote) : Type 0 where
  pub on : at ≤ place
  pub within : place ≤ length text
  pub new : List RawPart
  pub after : List ByteNote
  pub parts_are : parts ≡ old ++ new
  pub notes_are : notes ≡ before ++ after
  pub goes_on : (q : Out Read) → IsInner too_deep (length text) depth from fresh run (drop place text) q → IsInner too_deep (length text) depth from true [] (drop at text) (grown new after q)
