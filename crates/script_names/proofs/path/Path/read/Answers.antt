use Rattle.std.proofs.Common.{sym, ◌∙◌}
use Rattle.script_names.proofs.Parts.{spells_names}
use Rattle.script_names.proofs.path.Path.read.Goals as goal

pub read_names-requires : goal.read_names-requires
read_names-requires c = spells_names c.args.word.now (sym c.path_fault.ensures ∙ c.in-None.is)
