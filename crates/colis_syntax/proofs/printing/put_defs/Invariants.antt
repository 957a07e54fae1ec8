use Rattle.std.proofs.Common.{◌≡◌, ◌++◌, take}
use Rattle.std.specs.List.{flat_map}
use Rattle.colis_syntax.specs.ProgramText.{spaced, def_text}
use Rattle.colis_syntax.proofs.printing.put_defs.Given as goal

abbrev pub invariant-loop-def : goal.invariant-loop-def
invariant-loop-def l = l.text ≡ l.initial.text ++ flat_map (λ def. spaced (def_text def)) (take l.def-index l.defs)
