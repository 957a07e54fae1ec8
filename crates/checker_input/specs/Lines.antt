-- What texts of lines come to: a value, or what is wrong with the least line at fault.
use Rattle.std.specs.Prelude.{◌≡◌, ◌≤◌, ℕ, List, length, Option, Some, None, Result, Ok, Err}
use Rattle.feature_trees.specs.declared.value.Value.{Value}
use Rattle.feature_trees.specs.declared.read.TreeFault.{TreeFault}
use Rattle.feature_trees.specs.declared.read.TreeFault.TheVariants as tree_fault
use Rattle.package_lists.specs.Entries.{EntryParts}
use Rattle.package_lists.specs.declared.fault.LineFault.{LineFault}
use Rattle.package_lists.specs.declared.fault.LineFault.TheVariants as line_fault
use Rattle.checker_input.specs.declared.faults.FileFault.{FileFault}

-- What a text of lines comes to, from what its lines say and the fault that names a line and why. Want
-- of memory is nothing that lines say.
abbrev pub LinesCome : {A : Type 0} → (ℕ → ℕ → FileFault) → Result A LineFault → Result A FileFault → Type 0
LinesCome fault (Ok value) result = result ≡ Ok value
LinesCome fault (Err (line_fault.Line line why)) result = result ≡ Err (fault line why)
LinesCome fault (Err line_fault.Memory) result = ⊥

-- what a text of the lines of a tree comes to
abbrev pub TreeComes : (ℕ → ℕ → FileFault) → Result Value TreeFault → Result Value FileFault → Type 0
TreeComes fault (Ok tree) result = result ≡ Ok tree
TreeComes fault (Err (tree_fault.Line line why)) result = result ≡ Err (fault line why)
TreeComes fault (Err tree_fault.Memory) result = ⊥

-- no more entries than the list that was read has bytes
abbrev pub AreFew : Option (List ℕ) → List EntryParts → Type 0
AreFew None entries = ⊥
AreFew (Some text) entries = length entries ≤ length text
