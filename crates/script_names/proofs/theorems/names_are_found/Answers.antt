use Rattle.std.proofs.Common.{refl}
use Rattle.script_names.specs.CommandNames.{utilities, special_built_ins}
use Rattle.script_names.proofs.Commands.{found}
use Rattle.script_names.proofs.theorems.names_are_found.Goals as goal

pub returns : goal.returns
returns c = record {
  utilities = found utilities;
  specials = found special_built_ins;
  utility_rows = refl;
  special_rows = refl;
}
