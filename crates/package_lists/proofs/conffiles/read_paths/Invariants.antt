use Rattle.std.proofs.Common.{◌≡◌, ℕ, List, [], ◌+◌, map, take, drop}
use Rattle.package_lists.specs.Conffiles.{with_confs}
use Rattle.package_lists.specs.Paths.{is_among}
use Rattle.package_lists.specs.PathSets.{has}
use Rattle.package_lists.proofs.conffiles.read_paths.Given as goal

abbrev pub invariant-loop-line : goal.invariant-loop-line
invariant-loop-line l = record {
  rest : with_confs (l.number + 1) (has l.files) (map (λ line. line.now) (take l.line-index l.lines)) (map (λ line. line.now) (drop l.line-index l.lines))
      ≡ with_confs 1 (has l.files) [] (map (λ line. line.now) l.lines);
  named : (path : List ℕ) → has l.named path ≡ is_among (map (λ line. line.now) (take l.line-index l.lines)) path;
  counted : l.number ≡ l.line-index;
}
