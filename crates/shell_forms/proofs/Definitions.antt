-- The definitions in each command, as those in its parts.
use Rattle.std.proofs.Common.{◌≡◌, ℕ, Bool, List, [], ◌∷◌, ◌++◌, map, Option, Some, None, sym, ap, ◌∙◌}
use Rattle.shell_syntax.specs.declared.redirect.Redirect.{Redirect}
use Rattle.shell_syntax.specs.declared.key.Key.{Key}
use Rattle.shell_syntax.specs.declared.syntax.Command.{Command}
use Rattle.shell_syntax.specs.declared.syntax.Command.TheVariants as v
use Rattle.shell_syntax.specs.declared.syntax.Part.TheVariants as part
use Rattle.shell_syntax.specs.declared.syntax.Assign.{Assign}
use Rattle.shell_syntax.specs.declared.syntax.CaseArm.{CaseArm, out-CaseArm}
use Rattle.shell_syntax.specs.declared.syntax.IfArm.{IfArm}
use Rattle.shell_syntax.specs.declared.syntax.Link.{Link}
use Rattle.shell_syntax.specs.declared.syntax.Word.{Word}
use Rattle.shell_syntax.specs.declared.syntax.Command.TheOpen as o
use Rattle.shell_syntax.specs.declared.syntax.Command.TheFolds.{fold-roll-Command, fold-roll-Part, fold_out-Assign, fold_out-CaseArm, fold_out-IfArm, fold_out-Link, fold_out-Word}
use Rattle.shell_forms.specs.Names.{Text}
use Rattle.shell_forms.specs.Functions.{Definitions, command_layer, part_layer, assign_layer, case_arm_layer, if_arm_layer, link_layer, word_layer, of_all, definitions, part_definitions, assign_definitions, case_arm_definitions, if_arm_definitions, link_definitions, word_definitions}

pub in_simple : (at : ℕ) (assigns : List Assign) (words : List Word) → definitions (v.Simple at assigns words) ≡ of_all (map assign_definitions assigns) ++ of_all (map word_definitions words)
in_simple at assigns words = ap definitions (sym (v.rolls-Simple at assigns words)) ∙ fold-roll-Command Definitions Definitions Definitions Definitions Definitions Definitions Definitions command_layer part_layer assign_layer case_arm_layer if_arm_layer link_layer word_layer (o.Simple at assigns words)

pub in_redirected : (at : ℕ) (body : Command) (redirects : List Redirect) → definitions (v.Redirected at body redirects) ≡ definitions body
in_redirected at body redirects = ap definitions (sym (v.rolls-Redirected at body redirects)) ∙ fold-roll-Command Definitions Definitions Definitions Definitions Definitions Definitions Definitions command_layer part_layer assign_layer case_arm_layer if_arm_layer link_layer word_layer (o.Redirected at body redirects)

pub in_pipe : (at : ℕ) (parts : List Command) → definitions (v.Pipe at parts) ≡ of_all (map definitions parts)
in_pipe at parts = ap definitions (sym (v.rolls-Pipe at parts)) ∙ fold-roll-Command Definitions Definitions Definitions Definitions Definitions Definitions Definitions command_layer part_layer assign_layer case_arm_layer if_arm_layer link_layer word_layer (o.Pipe at parts)

pub in_not : (at : ℕ) (body : Command) → definitions (v.Not at body) ≡ definitions body
in_not at body = ap definitions (sym (v.rolls-Not at body)) ∙ fold-roll-Command Definitions Definitions Definitions Definitions Definitions Definitions Definitions command_layer part_layer assign_layer case_arm_layer if_arm_layer link_layer word_layer (o.Not at body)

pub in_chain : (head : Command) (rest : List Link) → definitions (v.Chain head rest) ≡ definitions head ++ of_all (map link_definitions rest)
in_chain head rest = ap definitions (sym (v.rolls-Chain head rest)) ∙ fold-roll-Command Definitions Definitions Definitions Definitions Definitions Definitions Definitions command_layer part_layer assign_layer case_arm_layer if_arm_layer link_layer word_layer (o.Chain head rest)

pub in_seq : (parts : List Command) → definitions (v.Seq parts) ≡ of_all (map definitions parts)
in_seq parts = ap definitions (sym (v.rolls-Seq parts)) ∙ fold-roll-Command Definitions Definitions Definitions Definitions Definitions Definitions Definitions command_layer part_layer assign_layer case_arm_layer if_arm_layer link_layer word_layer (o.Seq parts)

pub in_while : (at : ℕ) (until : Bool) (condition : Command) (body : Command) → definitions (v.While at until condition body) ≡ definitions condition ++ definitions body
in_while at until condition body = ap definitions (sym (v.rolls-While at until condition body)) ∙ fold-roll-Command Definitions Definitions Definitions Definitions Definitions Definitions Definitions command_layer part_layer assign_layer case_arm_layer if_arm_layer link_layer word_layer (o.While at until condition body)

pub in_case : (at : ℕ) (subject : Word) (arms : List CaseArm) → definitions (v.Case at subject arms) ≡ word_definitions subject ++ of_all (map case_arm_definitions arms)
in_case at subject arms = ap definitions (sym (v.rolls-Case at subject arms)) ∙ fold-roll-Command Definitions Definitions Definitions Definitions Definitions Definitions Definitions command_layer part_layer assign_layer case_arm_layer if_arm_layer link_layer word_layer (o.Case at subject arms)

pub in_sub : (at : ℕ) (body : Command) → definitions (v.Sub at body) ≡ definitions body
in_sub at body = ap definitions (sym (v.rolls-Sub at body)) ∙ fold-roll-Command Definitions Definitions Definitions Definitions Definitions Definitions Definitions command_layer part_layer assign_layer case_arm_layer if_arm_layer link_layer word_layer (o.Sub at body)

pub in_define : (at : ℕ) (name : Text) (body : Command) → definitions (v.Define at name body) ≡ (name, at) ∷ definitions body
in_define at name body = ap definitions (sym (v.rolls-Define at name body)) ∙ fold-roll-Command Definitions Definitions Definitions Definitions Definitions Definitions Definitions command_layer part_layer assign_layer case_arm_layer if_arm_layer link_layer word_layer (o.Define at name body)

pub in_if_alone : (at : ℕ) (arms : List IfArm) → definitions (v.If at arms None) ≡ of_all (map if_arm_definitions arms) ++ []
in_if_alone at arms = ap definitions (sym (v.rolls-If at arms None)) ∙ fold-roll-Command Definitions Definitions Definitions Definitions Definitions Definitions Definitions command_layer part_layer assign_layer case_arm_layer if_arm_layer link_layer word_layer (o.If at arms None)

pub in_if : (at : ℕ) (arms : List IfArm) (body : Command) → definitions (v.If at arms (Some body)) ≡ of_all (map if_arm_definitions arms) ++ definitions body
in_if at arms body = ap definitions (sym (v.rolls-If at arms (Some body))) ∙ fold-roll-Command Definitions Definitions Definitions Definitions Definitions Definitions Definitions command_layer part_layer assign_layer case_arm_layer if_arm_layer link_layer word_layer (o.If at arms (Some body))

pub in_for_alone : (at : ℕ) (name : Text) (body : Command) → definitions (v.For at name None body) ≡ definitions body
in_for_alone at name body = ap definitions (sym (v.rolls-For at name None body)) ∙ fold-roll-Command Definitions Definitions Definitions Definitions Definitions Definitions Definitions command_layer part_layer assign_layer case_arm_layer if_arm_layer link_layer word_layer (o.For at name None body)

pub in_for : (at : ℕ) (name : Text) (words : List Word) (body : Command) → definitions (v.For at name (Some words) body) ≡ of_all (map word_definitions words) ++ definitions body
in_for at name words body = ap definitions (sym (v.rolls-For at name (Some words) body)) ∙ fold-roll-Command Definitions Definitions Definitions Definitions Definitions Definitions Definitions command_layer part_layer assign_layer case_arm_layer if_arm_layer link_layer word_layer (o.For at name (Some words) body)

pub in_plain : (bytes : Text) → part_definitions (part.Plain bytes) ≡ []
in_plain bytes = ap part_definitions (sym (part.rolls-Plain bytes)) ∙ fold-roll-Part Definitions Definitions Definitions Definitions Definitions Definitions Definitions command_layer part_layer assign_layer case_arm_layer if_arm_layer link_layer word_layer (o.Plain bytes)

pub in_quoted : (bytes : Text) → part_definitions (part.Quoted bytes) ≡ []
in_quoted bytes = ap part_definitions (sym (part.rolls-Quoted bytes)) ∙ fold-roll-Part Definitions Definitions Definitions Definitions Definitions Definitions Definitions command_layer part_layer assign_layer case_arm_layer if_arm_layer link_layer word_layer (o.Quoted bytes)

pub in_param : (key : Key) (default : Option Text) (quoted : Bool) → part_definitions (part.Param key default quoted) ≡ []
in_param key default quoted = ap part_definitions (sym (part.rolls-Param key default quoted)) ∙ fold-roll-Part Definitions Definitions Definitions Definitions Definitions Definitions Definitions command_layer part_layer assign_layer case_arm_layer if_arm_layer link_layer word_layer (o.Param key default quoted)

pub in_all : part_definitions part.All ≡ []
in_all = ap part_definitions (sym part.rolls-All) ∙ fold-roll-Part Definitions Definitions Definitions Definitions Definitions Definitions Definitions command_layer part_layer assign_layer case_arm_layer if_arm_layer link_layer word_layer o.All

pub in_run : (at : ℕ) (body : Command) (quoted : Bool) → part_definitions (part.Run at body quoted) ≡ definitions body
in_run at body quoted = ap part_definitions (sym (part.rolls-Run at body quoted)) ∙ fold-roll-Part Definitions Definitions Definitions Definitions Definitions Definitions Definitions command_layer part_layer assign_layer case_arm_layer if_arm_layer link_layer word_layer (o.Run at body quoted)

pub in_assign : (assign : Assign) → assign_definitions assign ≡ word_definitions assign.value
in_assign assign = fold_out-Assign Definitions Definitions Definitions Definitions Definitions Definitions Definitions command_layer part_layer assign_layer case_arm_layer if_arm_layer link_layer word_layer assign

pub in_case_arm : (arm : CaseArm) → case_arm_definitions arm ≡ of_all (map word_definitions (out-CaseArm arm).patterns) ++ definitions (out-CaseArm arm).body
in_case_arm arm = fold_out-CaseArm Definitions Definitions Definitions Definitions Definitions Definitions Definitions command_layer part_layer assign_layer case_arm_layer if_arm_layer link_layer word_layer arm

pub in_if_arm : (arm : IfArm) → if_arm_definitions arm ≡ definitions arm.cond ++ definitions arm.body
in_if_arm arm = fold_out-IfArm Definitions Definitions Definitions Definitions Definitions Definitions Definitions command_layer part_layer assign_layer case_arm_layer if_arm_layer link_layer word_layer arm

pub in_link : (link : Link) → link_definitions link ≡ definitions link.command
in_link link = fold_out-Link Definitions Definitions Definitions Definitions Definitions Definitions Definitions command_layer part_layer assign_layer case_arm_layer if_arm_layer link_layer word_layer link

pub in_word : (word : Word) → word_definitions word ≡ of_all (map part_definitions word.parts)
in_word word = fold_out-Word Definitions Definitions Definitions Definitions Definitions Definitions Definitions command_layer part_layer assign_layer case_arm_layer if_arm_layer link_layer word_layer word
