use Rattle.std.proofs.Common.{◌≡◌, ◌+◌, ◌<◌, ◌≤◌, ℕ, length}
use Rattle.clause_solver.specs.NewNames.{beginning, two_to}
use Rattle.clause_solver.proofs.NewNames.{AllLetters}
use Rattle.clause_solver.proofs.new_name.new_name.Given as goal

abbrev pub invariant-loop-i : goal.invariant-loop-i
invariant-loop-i l = record {
  long : length l.bytes.items ≡ l.i;
  letters : AllLetters l.bytes.items;
  half : (n : ℕ) × (l.i + n ≡ 32) × (l.room ≡ two_to n);
  most : beginning l.bytes.items l.vars ≤ l.left;
  few : l.left < l.room;
}
