use Rattle.std.proofs.Common.{◌≡◌, ℕ, List, subst}
use Rattle.std.specs.Prelude.{◌||◌}
use Rattle.std.specs.Str.{bytes_eq}
use Rattle.package_lists.specs.PathSets.{has}
use Rattle.script_names.proofs.TextSets.{adds}
use Rattle.package_lists.proofs.path_set.PathSet.add.Goals as goal

pub returns-clause-ok : goal.returns-clause-ok
returns-clause-ok c =
    subst (λ (path : List ℕ). (other : List ℕ) → has (record { alloc = c.args.self.now.alloc; paths = c.insert.new.self }) other ≡ (bytes_eq path other || has c.args.self.now other))
    c.in_ok-key.ensures.items
    (adds c.args.self.now.paths c.insert.new.self c.in_ok-key.key.items c.in_ok-insert.ensures.updates)
