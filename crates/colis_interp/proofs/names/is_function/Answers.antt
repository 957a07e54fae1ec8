use Rattle.std.proofs.Common.{sym, ◌∙◌}
use Rattle.std.specs.Str.{bytes_eq}
use Rattle.colis_interp.proofs.Answering.{any_map}
use Rattle.colis_interp.proofs.names.is_function.Goals as goal

pub returns : goal.returns
returns c = c.has_name.ensures ∙ sym (any_map (bytes_eq c.args.name.now) (λ def. def.name) c.args.functions.now)
