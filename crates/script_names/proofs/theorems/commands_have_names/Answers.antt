use Rattle.std.proofs.Common.{refl}
use Rattle.script_names.proofs.Commands.{utility_name, special_name, sorted}
use Rattle.script_names.proofs.theorems.commands_have_names.Goals as goal

pub returns : goal.returns
returns c = record { utilities = utility_name; specials = special_name; both = refl; sorts = sorted; free = refl }
