use Rattle.std.proofs.Common.{ap, sym, ◌∙◌}
use Rattle.std.specs.FinMap as map
use Rattle.shell_words.proofs.Named.{get-named}
use Rattle.shell_words.proofs.env.Env.get.Goals as goal

pub returns : goal.returns
returns c = c.get.ensures.value ∙ sym (get-named c.args.name.now _) ∙ ap (λ m. map.get m c.args.name.now) c.self.view_is
