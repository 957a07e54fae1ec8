use Rattle.std.proofs.Common.{◌≡◌, ◌∙◌, ℕ, List, ap, subst}
use Rattle.std.specs.Prelude.{◌||◌}
use Rattle.std.specs.Ordering.{is_eq}
use Rattle.feature_trees.specs.Tree.{name_cmp}
use Rattle.script_names.proofs.TextSets.{adds}
use Rattle.clause_solver.specs.NameSets.{has}
use Rattle.clause_solver.proofs.NameSets.{same_either_way}
use Rattle.clause_solver.proofs.name_set.NameSet.add.Goals as goal

pub returns : goal.returns
returns c =
    subst (λ (f : List ℕ). (g : List ℕ) → has (record { alloc = c.args.self.now.alloc; names = c.insert.new.self }) g ≡ (is_eq (name_cmp g f) || has c.args.self.now g))
    (c.in_ok-key.ensures.items ∙ c.as_slice.ensures.bytes)
    (λ g. adds c.args.self.now.names c.insert.new.self c.in_ok-key.key.items c.in_ok-insert.ensures.updates g
    ∙ ap (λ b. b || has c.args.self.now g) (same_either_way c.in_ok-key.key.items g))
