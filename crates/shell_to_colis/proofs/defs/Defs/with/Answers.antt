use Rattle.std.proofs.Common.{List, sym, subst, ◌∙◌}
use Rattle.colis_syntax.specs.declared.def.Def.{Def}
use Rattle.shell_to_colis.specs.DefNames.{AreTheNames}
use Rattle.shell_to_colis.proofs.DefNames.{names_more}
use Rattle.shell_to_colis.proofs.defs.Defs.with.Goals as goal

pub invariant_of-result : goal.invariant_of-result
invariant_of-result c =
    subst (λ (defs : List Def). AreTheNames defs c.insert.new.self) (sym c.in_ok-add.ensures.ok)
    (names_more c.self.inside.list c.args.def c.self.inside.names c.insert.new.self c.in_ok-name.name.items c.self.invariant
    (c.in_ok-name.ensures.items ∙ c.as_slice.ensures) c.in_ok-insert.ensures.updates)
