use Rattle.std.proofs.lemmas.List.Splits.{join_with_byte-slice_split}
use Rattle.script_names.proofs.Parts.{has_no_slash}
use Rattle.script_names.proofs.theorems.components_are_the_cut.Goals as goal

pub returns : goal.returns
returns c = record { joined = λ word. join_with_byte-slice_split 47 word; plain = has_no_slash }
