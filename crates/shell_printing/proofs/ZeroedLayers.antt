-- What each form of command and of part is with every offset 0, from its members.
use Rattle.std.proofs.Common.{◌≡◌, ℕ, Bool, List, map, Option, Some, None, sym, ap, ◌∙◌}
use Rattle.shell_syntax.specs.declared.redirect.Redirect.{Redirect}
use Rattle.shell_syntax.specs.declared.key.Key.{Key}
use Rattle.shell_syntax.specs.declared.syntax.Command.{Command}
use Rattle.shell_syntax.specs.declared.syntax.Command.TheVariants as v
use Rattle.shell_syntax.specs.declared.syntax.Part.{Part}
use Rattle.shell_syntax.specs.declared.syntax.Part.TheVariants as part
use Rattle.shell_syntax.specs.declared.syntax.Assign.{Assign, roll-Assign}
use Rattle.shell_syntax.specs.declared.syntax.CaseArm.{CaseArm, roll-CaseArm}
use Rattle.shell_syntax.specs.declared.syntax.IfArm.{IfArm, roll-IfArm}
use Rattle.shell_syntax.specs.declared.syntax.Link.{Link, roll-Link}
use Rattle.shell_syntax.specs.declared.syntax.Word.{Word, roll-Word}
use Rattle.shell_syntax.specs.declared.syntax.Command.TheOpen as o
use Rattle.shell_syntax.specs.declared.syntax.Command.TheFolds.{fold-roll-Command, fold-roll-Part, fold-roll-Assign, fold-roll-CaseArm, fold-roll-IfArm, fold-roll-Link, fold-roll-Word}
use Rattle.shell_grammar.specs.Look.{Text}
use Rattle.shell_printing.specs.Zeroed.{command_layer, part_layer, assign_layer, case_arm_layer, if_arm_layer, link_layer, word_layer, zeroed, zeroed_part, zeroed_assign, zeroed_case_arm, zeroed_if_arm, zeroed_link, zeroed_word}

pub zeroed_simple : (at : ℕ) (assigns : List Assign) (words : List Word) → zeroed (v.Simple at assigns words) ≡ command_layer (o.Simple at (map zeroed_assign assigns) (map zeroed_word words))
zeroed_simple at assigns words = ap zeroed (sym (v.rolls-Simple at assigns words)) ∙ fold-roll-Command Command Part Assign CaseArm IfArm Link Word command_layer part_layer assign_layer case_arm_layer if_arm_layer link_layer word_layer (o.Simple at assigns words)

pub zeroed_redirected : (at : ℕ) (body : Command) (redirects : List Redirect) → zeroed (v.Redirected at body redirects) ≡ command_layer (o.Redirected at (zeroed body) redirects)
zeroed_redirected at body redirects = ap zeroed (sym (v.rolls-Redirected at body redirects)) ∙ fold-roll-Command Command Part Assign CaseArm IfArm Link Word command_layer part_layer assign_layer case_arm_layer if_arm_layer link_layer word_layer (o.Redirected at body redirects)

pub zeroed_pipe : (at : ℕ) (parts : List Command) → zeroed (v.Pipe at parts) ≡ command_layer (o.Pipe at (map zeroed parts))
zeroed_pipe at parts = ap zeroed (sym (v.rolls-Pipe at parts)) ∙ fold-roll-Command Command Part Assign CaseArm IfArm Link Word command_layer part_layer assign_layer case_arm_layer if_arm_layer link_layer word_layer (o.Pipe at parts)

pub zeroed_not : (at : ℕ) (body : Command) → zeroed (v.Not at body) ≡ command_layer (o.Not at (zeroed body))
zeroed_not at body = ap zeroed (sym (v.rolls-Not at body)) ∙ fold-roll-Command Command Part Assign CaseArm IfArm Link Word command_layer part_layer assign_layer case_arm_layer if_arm_layer link_layer word_layer (o.Not at body)

pub zeroed_chain : (first : Command) (rest : List Link) → zeroed (v.Chain first rest) ≡ command_layer (o.Chain (zeroed first) (map zeroed_link rest))
zeroed_chain first rest = ap zeroed (sym (v.rolls-Chain first rest)) ∙ fold-roll-Command Command Part Assign CaseArm IfArm Link Word command_layer part_layer assign_layer case_arm_layer if_arm_layer link_layer word_layer (o.Chain first rest)

pub zeroed_seq : (parts : List Command) → zeroed (v.Seq parts) ≡ command_layer (o.Seq (map zeroed parts))
zeroed_seq parts = ap zeroed (sym (v.rolls-Seq parts)) ∙ fold-roll-Command Command Part Assign CaseArm IfArm Link Word command_layer part_layer assign_layer case_arm_layer if_arm_layer link_layer word_layer (o.Seq parts)

pub zeroed_if : (at : ℕ) (arms : List IfArm) → zeroed (v.If at arms None) ≡ command_layer (o.If at (map zeroed_if_arm arms) None)
zeroed_if at arms = ap zeroed (sym (v.rolls-If at arms None)) ∙ fold-roll-Command Command Part Assign CaseArm IfArm Link Word command_layer part_layer assign_layer case_arm_layer if_arm_layer link_layer word_layer (o.If at arms None)

pub zeroed_if_else : (at : ℕ) (arms : List IfArm) (otherwise : Command) → zeroed (v.If at arms (Some otherwise)) ≡ command_layer (o.If at (map zeroed_if_arm arms) (Some (zeroed otherwise)))
zeroed_if_else at arms otherwise = ap zeroed (sym (v.rolls-If at arms (Some otherwise))) ∙ fold-roll-Command Command Part Assign CaseArm IfArm Link Word command_layer part_layer assign_layer case_arm_layer if_arm_layer link_layer word_layer (o.If at arms (Some otherwise))

pub zeroed_for : (at : ℕ) (name : Text) (body : Command) → zeroed (v.For at name None body) ≡ command_layer (o.For at name None (zeroed body))
zeroed_for at name body = ap zeroed (sym (v.rolls-For at name None body)) ∙ fold-roll-Command Command Part Assign CaseArm IfArm Link Word command_layer part_layer assign_layer case_arm_layer if_arm_layer link_layer word_layer (o.For at name None body)

pub zeroed_for_in : (at : ℕ) (name : Text) (words : List Word) (body : Command) → zeroed (v.For at name (Some words) body) ≡ command_layer (o.For at name (Some (map zeroed_word words)) (zeroed body))
zeroed_for_in at name words body = ap zeroed (sym (v.rolls-For at name (Some words) body)) ∙ fold-roll-Command Command Part Assign CaseArm IfArm Link Word command_layer part_layer assign_layer case_arm_layer if_arm_layer link_layer word_layer (o.For at name (Some words) body)

pub zeroed_while : (at : ℕ) (until : Bool) (cond : Command) (body : Command) → zeroed (v.While at until cond body) ≡ command_layer (o.While at until (zeroed cond) (zeroed body))
zeroed_while at until cond body = ap zeroed (sym (v.rolls-While at until cond body)) ∙ fold-roll-Command Command Part Assign CaseArm IfArm Link Word command_layer part_layer assign_layer case_arm_layer if_arm_layer link_layer word_layer (o.While at until cond body)

pub zeroed_case : (at : ℕ) (subject : Word) (carms : List CaseArm) → zeroed (v.Case at subject carms) ≡ command_layer (o.Case at (zeroed_word subject) (map zeroed_case_arm carms))
zeroed_case at subject carms = ap zeroed (sym (v.rolls-Case at subject carms)) ∙ fold-roll-Command Command Part Assign CaseArm IfArm Link Word command_layer part_layer assign_layer case_arm_layer if_arm_layer link_layer word_layer (o.Case at subject carms)

pub zeroed_sub : (at : ℕ) (body : Command) → zeroed (v.Sub at body) ≡ command_layer (o.Sub at (zeroed body))
zeroed_sub at body = ap zeroed (sym (v.rolls-Sub at body)) ∙ fold-roll-Command Command Part Assign CaseArm IfArm Link Word command_layer part_layer assign_layer case_arm_layer if_arm_layer link_layer word_layer (o.Sub at body)

pub zeroed_define : (at : ℕ) (name : Text) (body : Command) → zeroed (v.Define at name body) ≡ command_layer (o.Define at name (zeroed body))
zeroed_define at name body = ap zeroed (sym (v.rolls-Define at name body)) ∙ fold-roll-Command Command Part Assign CaseArm IfArm Link Word command_layer part_layer assign_layer case_arm_layer if_arm_layer link_layer word_layer (o.Define at name body)

pub zeroed_plain : (bytes : Text) → zeroed_part (part.Plain bytes) ≡ part_layer (o.Plain bytes)
zeroed_plain bytes = ap zeroed_part (sym (part.rolls-Plain bytes)) ∙ fold-roll-Part Command Part Assign CaseArm IfArm Link Word command_layer part_layer assign_layer case_arm_layer if_arm_layer link_layer word_layer (o.Plain bytes)

pub zeroed_quoted : (bytes : Text) → zeroed_part (part.Quoted bytes) ≡ part_layer (o.Quoted bytes)
zeroed_quoted bytes = ap zeroed_part (sym (part.rolls-Quoted bytes)) ∙ fold-roll-Part Command Part Assign CaseArm IfArm Link Word command_layer part_layer assign_layer case_arm_layer if_arm_layer link_layer word_layer (o.Quoted bytes)

pub zeroed_param : (key : Key) (default : Option Text) (quoted : Bool) → zeroed_part (part.Param key default quoted) ≡ part_layer (o.Param key default quoted)
zeroed_param key default quoted = ap zeroed_part (sym (part.rolls-Param key default quoted)) ∙ fold-roll-Part Command Part Assign CaseArm IfArm Link Word command_layer part_layer assign_layer case_arm_layer if_arm_layer link_layer word_layer (o.Param key default quoted)

pub zeroed_all : zeroed_part part.All ≡ part_layer o.All
zeroed_all = ap zeroed_part (sym part.rolls-All) ∙ fold-roll-Part Command Part Assign CaseArm IfArm Link Word command_layer part_layer assign_layer case_arm_layer if_arm_layer link_layer word_layer o.All

pub zeroed_run : (at : ℕ) (body : Command) (quoted : Bool) → zeroed_part (part.Run at body quoted) ≡ part_layer (o.Run at (zeroed body) quoted)
zeroed_run at body quoted = ap zeroed_part (sym (part.rolls-Run at body quoted)) ∙ fold-roll-Part Command Part Assign CaseArm IfArm Link Word command_layer part_layer assign_layer case_arm_layer if_arm_layer link_layer word_layer (o.Run at body quoted)

pub zeroed_the_assign : (name : Text) (value : Word) → zeroed_assign (roll-Assign (record { name = name; value = value })) ≡ roll-Assign (record { name = name; value = zeroed_word value })
zeroed_the_assign name value = fold-roll-Assign Command Part Assign CaseArm IfArm Link Word command_layer part_layer assign_layer case_arm_layer if_arm_layer link_layer word_layer (record { name = name; value = value })

pub zeroed_the_case_arm : (patterns : List Word) (body : Command) → zeroed_case_arm (roll-CaseArm (record { patterns = patterns; body = body })) ≡ roll-CaseArm (record { patterns = map zeroed_word patterns; body = zeroed body })
zeroed_the_case_arm patterns body = fold-roll-CaseArm Command Part Assign CaseArm IfArm Link Word command_layer part_layer assign_layer case_arm_layer if_arm_layer link_layer word_layer (record { patterns = patterns; body = body })

pub zeroed_the_if_arm : (cond : Command) (body : Command) → zeroed_if_arm (roll-IfArm (record { cond = cond; body = body })) ≡ roll-IfArm (record { cond = zeroed cond; body = zeroed body })
zeroed_the_if_arm cond body = fold-roll-IfArm Command Part Assign CaseArm IfArm Link Word command_layer part_layer assign_layer case_arm_layer if_arm_layer link_layer word_layer (record { cond = cond; body = body })

pub zeroed_the_link : (and : Bool) (command : Command) → zeroed_link (roll-Link (record { and = and; command = command })) ≡ roll-Link (record { and = and; command = zeroed command })
zeroed_the_link and command = fold-roll-Link Command Part Assign CaseArm IfArm Link Word command_layer part_layer assign_layer case_arm_layer if_arm_layer link_layer word_layer (record { and = and; command = command })

pub zeroed_the_word : (at : ℕ) (parts : List Part) → zeroed_word (roll-Word (record { at = at; parts = parts })) ≡ roll-Word (record { at = 0; parts = map zeroed_part parts })
zeroed_the_word at parts = fold-roll-Word Command Part Assign CaseArm IfArm Link Word command_layer part_layer assign_layer case_arm_layer if_arm_layer link_layer word_layer (record { at = at; parts = parts })
