use Rattle.std.proofs.Common.{◌≡◌, false, [], ◌∷◌, subst, sym, ◌∙◌}
use Rattle.shell_forms.specs.Known.{first_in, is_at_most, Adds}
use Rattle.shell_forms.proofs.Added.{adds_new}
use Rattle.shell_forms.proofs.functions.Functions.add.Goals as goal

pub returns : goal.returns
returns c =
    subst (λ x. is_at_most (first_in c.args.self.now x) c.args.at ≡ false
    → Adds c.args.self.now (record { alloc = c.args.self.now.alloc; first = c.insert.new.self }) ((x, c.args.at) ∷ []))
    c.in_ok-key.ensures.items
    (λ e. adds_new c.args.self.now.first c.insert.new.self c.in_ok-key.key.items c.args.at c.in_ok-insert.ensures.updates e)
    (sym c.has.ensures ∙ c.if-has.false)
