-- A text of named trees cut into its lines, and into the lines of one tree and those behind them.
use Rattle.std.specs.Prelude.{◌≡◌, ℕ, ◌+◌, ◌≤◌, ◌⊎◌, ◌==◌, All, IsTrue, List, [], ◌∷◌, ◌++◌, length, false, Option}
use Rattle.std.specs.List.{list_any, position}
use Rattle.script_names.specs.Ascii.{newline}
use Rattle.feature_trees.specs.TreeLines.{text_lines}
use Rattle.tree_predictions.specs.declared.lines.Block.{Block}
use Rattle.tree_predictions.specs.NamedTrees.{is_head}

-- where the first newline of a text stands
abbrev pub first_newline : List ℕ → Option ℕ
first_newline text = position (λ b. b == newline) text

-- the line has no newline, and stands at the beginning of a text, before a newline and the rest, or as all of it
pub record CutsLine (text line rest : List ℕ) : Type 0 where
  pub lacks : All (λ b. (b == newline) ≡ false) line
  pub cut : (text ≡ line ++ newline ∷ rest) ⊎ ((text ≡ line) × (rest ≡ []))

-- the lines of a text with more behind it are its own and those of the more
abbrev pub IsApart : List ℕ → Type 0
IsApart front = (more : List ℕ) → text_lines (front ++ more) ≡ text_lines front ++ text_lines more

-- a text begins with so many lines, of which none begins a tree
pub record IsFront (text : List ℕ) (lines : ℕ) (behind : List ℕ) : Type 0 where
  pub front : List ℕ
  pub whole : text ≡ front ++ behind
  pub none : list_any is_head (text_lines front) ≡ false
  pub count : lines ≡ length (text_lines front)
  pub few : lines + length behind ≤ length text
  pub apart : IsApart front ⊎ (behind ≡ [])

-- no line, or a first one that begins a tree
abbrev pub AreAtHead : List (List ℕ) → Type 0
AreAtHead [] = Unit {0}
AreAtHead (line ∷ lines) = IsTrue (is_head line)

-- the lines of a text before the first that begins a tree
pub record IsBlock (text : List ℕ) (block : Block) : Type 0 where
  pub lines : text_lines text ≡ text_lines block.text.now ++ text_lines block.behind.now
  pub none : list_any is_head (text_lines block.text.now) ≡ false
  pub count : block.lines ≡ length (text_lines block.text.now)
  pub few : block.lines + length block.behind.now ≤ length text
  pub next : AreAtHead (text_lines block.behind.now)
