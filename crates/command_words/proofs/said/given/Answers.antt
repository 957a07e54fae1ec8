use Rattle.std.proofs.Common.{Some, ap, ◌∙◌}
use Rattle.std.specs.Option.{option_map}
use Rattle.command_words.proofs.Fitting.{found_given}
use Rattle.command_words.proofs.said.given.Goals as goal

pub returns-in-None : goal.returns-in-None
returns-in-None c = ap (option_map (λ s. s.text)) c.in-None.ensures ∙ found_given c.args.field c.args.said.now

pub returns-in-Some : goal.returns-in-Some
returns-in-Some c =
    ap Some c.as_str.ensures ∙ ap (option_map (λ s. s.text)) c.in-Some.ensures ∙ found_given c.args.field c.args.said.now
