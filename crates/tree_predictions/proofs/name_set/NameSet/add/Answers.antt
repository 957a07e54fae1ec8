use Rattle.std.proofs.Common.{◌≡◌, ℕ, List, subst}
use Rattle.std.specs.Prelude.{◌||◌}
use Rattle.std.specs.Str.{bytes_eq}
use Rattle.script_names.proofs.TextSets.{adds}
use Rattle.tree_predictions.specs.NameSets.{has}
use Rattle.tree_predictions.proofs.name_set.NameSet.add.Goals as goal

pub returns-clause-ok : goal.returns-clause-ok
returns-clause-ok c =
    subst (λ (name : List ℕ). (other : List ℕ) → has (record { alloc = c.args.self.now.alloc; names = c.insert.new.self }) other ≡ (bytes_eq name other || has c.args.self.now other))
    c.in_ok-key.ensures.items
    (adds c.args.self.now.names c.insert.new.self c.in_ok-key.key.items c.in_ok-insert.ensures.updates)
