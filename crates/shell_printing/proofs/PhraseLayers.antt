-- The tokens of each form of command and of part, from those of its members.
use Rattle.std.proofs.Common.{◌≡◌, ℕ, Bool, List, map, Option, Some, None, sym, ap, ◌∙◌}
use Rattle.shell_syntax.specs.declared.redirect.Redirect.{Redirect}
use Rattle.shell_syntax.specs.declared.key.Key.{Key}
use Rattle.shell_syntax.specs.declared.syntax.Command.{Command}
use Rattle.shell_syntax.specs.declared.syntax.Command.TheVariants as v
use Rattle.shell_syntax.specs.declared.syntax.Part.{Part}
use Rattle.shell_syntax.specs.declared.syntax.Part.TheVariants as part
use Rattle.shell_syntax.specs.declared.syntax.Assign.{Assign, roll-Assign}
use Rattle.shell_syntax.specs.declared.syntax.CaseArm.{CaseArm, roll-CaseArm}
use Rattle.shell_syntax.specs.declared.syntax.IfArm.{IfArm, roll-IfArm}
use Rattle.shell_syntax.specs.declared.syntax.Link.{Link, roll-Link}
use Rattle.shell_syntax.specs.declared.syntax.Word.{Word, roll-Word}
use Rattle.shell_syntax.specs.declared.syntax.Command.TheOpen as o
use Rattle.shell_syntax.specs.declared.syntax.Command.TheFolds.{fold-roll-Command, fold-roll-Part, fold-roll-Assign, fold-roll-CaseArm, fold-roll-IfArm, fold-roll-Link, fold-roll-Word}
use Rattle.shell_grammar.specs.Look.{Text, Tokens}
use Rattle.shell_lexer.specs.declared.token.RawPart.{RawPart}
use Rattle.shell_printing.specs.PrintedTokens.{Phrase, command_layer, part_layer, assign_layer, case_arm_layer, if_arm_layer, link_layer, word_layer, phrase, raw_of, assign_raws, arm_tokens, condition_tokens, further_tokens, word_raws}

pub phrase_simple : (at : ℕ) (assigns : List Assign) (words : List Word) → phrase (v.Simple at assigns words) ≡ command_layer (o.Simple at (map assign_raws assigns) (map word_raws words))
phrase_simple at assigns words = ap phrase (sym (v.rolls-Simple at assigns words)) ∙ fold-roll-Command Phrase RawPart (List RawPart) Tokens Tokens Tokens (List RawPart) command_layer part_layer assign_layer case_arm_layer if_arm_layer link_layer word_layer (o.Simple at assigns words)

pub phrase_redirected : (at : ℕ) (body : Command) (redirects : List Redirect) → phrase (v.Redirected at body redirects) ≡ command_layer (o.Redirected at (phrase body) redirects)
phrase_redirected at body redirects = ap phrase (sym (v.rolls-Redirected at body redirects)) ∙ fold-roll-Command Phrase RawPart (List RawPart) Tokens Tokens Tokens (List RawPart) command_layer part_layer assign_layer case_arm_layer if_arm_layer link_layer word_layer (o.Redirected at body redirects)

pub phrase_pipe : (at : ℕ) (parts : List Command) → phrase (v.Pipe at parts) ≡ command_layer (o.Pipe at (map phrase parts))
phrase_pipe at parts = ap phrase (sym (v.rolls-Pipe at parts)) ∙ fold-roll-Command Phrase RawPart (List RawPart) Tokens Tokens Tokens (List RawPart) command_layer part_layer assign_layer case_arm_layer if_arm_layer link_layer word_layer (o.Pipe at parts)

pub phrase_not : (at : ℕ) (body : Command) → phrase (v.Not at body) ≡ command_layer (o.Not at (phrase body))
phrase_not at body = ap phrase (sym (v.rolls-Not at body)) ∙ fold-roll-Command Phrase RawPart (List RawPart) Tokens Tokens Tokens (List RawPart) command_layer part_layer assign_layer case_arm_layer if_arm_layer link_layer word_layer (o.Not at body)

pub phrase_chain : (first : Command) (rest : List Link) → phrase (v.Chain first rest) ≡ command_layer (o.Chain (phrase first) (map further_tokens rest))
phrase_chain first rest = ap phrase (sym (v.rolls-Chain first rest)) ∙ fold-roll-Command Phrase RawPart (List RawPart) Tokens Tokens Tokens (List RawPart) command_layer part_layer assign_layer case_arm_layer if_arm_layer link_layer word_layer (o.Chain first rest)

pub phrase_seq : (parts : List Command) → phrase (v.Seq parts) ≡ command_layer (o.Seq (map phrase parts))
phrase_seq parts = ap phrase (sym (v.rolls-Seq parts)) ∙ fold-roll-Command Phrase RawPart (List RawPart) Tokens Tokens Tokens (List RawPart) command_layer part_layer assign_layer case_arm_layer if_arm_layer link_layer word_layer (o.Seq parts)

pub phrase_if : (at : ℕ) (arms : List IfArm) → phrase (v.If at arms None) ≡ command_layer (o.If at (map condition_tokens arms) None)
phrase_if at arms = ap phrase (sym (v.rolls-If at arms None)) ∙ fold-roll-Command Phrase RawPart (List RawPart) Tokens Tokens Tokens (List RawPart) command_layer part_layer assign_layer case_arm_layer if_arm_layer link_layer word_layer (o.If at arms None)

pub phrase_if_else : (at : ℕ) (arms : List IfArm) (otherwise : Command) → phrase (v.If at arms (Some otherwise)) ≡ command_layer (o.If at (map condition_tokens arms) (Some (phrase otherwise)))
phrase_if_else at arms otherwise = ap phrase (sym (v.rolls-If at arms (Some otherwise))) ∙ fold-roll-Command Phrase RawPart (List RawPart) Tokens Tokens Tokens (List RawPart) command_layer part_layer assign_layer case_arm_layer if_arm_layer link_layer word_layer (o.If at arms (Some otherwise))

pub phrase_for : (at : ℕ) (name : Text) (body : Command) → phrase (v.For at name None body) ≡ command_layer (o.For at name None (phrase body))
phrase_for at name body = ap phrase (sym (v.rolls-For at name None body)) ∙ fold-roll-Command Phrase RawPart (List RawPart) Tokens Tokens Tokens (List RawPart) command_layer part_layer assign_layer case_arm_layer if_arm_layer link_layer word_layer (o.For at name None body)

pub phrase_for_in : (at : ℕ) (name : Text) (words : List Word) (body : Command) → phrase (v.For at name (Some words) body) ≡ command_layer (o.For at name (Some (map word_raws words)) (phrase body))
phrase_for_in at name words body = ap phrase (sym (v.rolls-For at name (Some words) body)) ∙ fold-roll-Command Phrase RawPart (List RawPart) Tokens Tokens Tokens (List RawPart) command_layer part_layer assign_layer case_arm_layer if_arm_layer link_layer word_layer (o.For at name (Some words) body)

pub phrase_while : (at : ℕ) (until : Bool) (cond : Command) (body : Command) → phrase (v.While at until cond body) ≡ command_layer (o.While at until (phrase cond) (phrase body))
phrase_while at until cond body = ap phrase (sym (v.rolls-While at until cond body)) ∙ fold-roll-Command Phrase RawPart (List RawPart) Tokens Tokens Tokens (List RawPart) command_layer part_layer assign_layer case_arm_layer if_arm_layer link_layer word_layer (o.While at until cond body)

pub phrase_case : (at : ℕ) (subject : Word) (carms : List CaseArm) → phrase (v.Case at subject carms) ≡ command_layer (o.Case at (word_raws subject) (map arm_tokens carms))
phrase_case at subject carms = ap phrase (sym (v.rolls-Case at subject carms)) ∙ fold-roll-Command Phrase RawPart (List RawPart) Tokens Tokens Tokens (List RawPart) command_layer part_layer assign_layer case_arm_layer if_arm_layer link_layer word_layer (o.Case at subject carms)

pub phrase_sub : (at : ℕ) (body : Command) → phrase (v.Sub at body) ≡ command_layer (o.Sub at (phrase body))
phrase_sub at body = ap phrase (sym (v.rolls-Sub at body)) ∙ fold-roll-Command Phrase RawPart (List RawPart) Tokens Tokens Tokens (List RawPart) command_layer part_layer assign_layer case_arm_layer if_arm_layer link_layer word_layer (o.Sub at body)

pub phrase_define : (at : ℕ) (name : Text) (body : Command) → phrase (v.Define at name body) ≡ command_layer (o.Define at name (phrase body))
phrase_define at name body = ap phrase (sym (v.rolls-Define at name body)) ∙ fold-roll-Command Phrase RawPart (List RawPart) Tokens Tokens Tokens (List RawPart) command_layer part_layer assign_layer case_arm_layer if_arm_layer link_layer word_layer (o.Define at name body)

pub phrase_plain : (bytes : Text) → raw_of (part.Plain bytes) ≡ part_layer (o.Plain bytes)
phrase_plain bytes = ap raw_of (sym (part.rolls-Plain bytes)) ∙ fold-roll-Part Phrase RawPart (List RawPart) Tokens Tokens Tokens (List RawPart) command_layer part_layer assign_layer case_arm_layer if_arm_layer link_layer word_layer (o.Plain bytes)

pub phrase_quoted : (bytes : Text) → raw_of (part.Quoted bytes) ≡ part_layer (o.Quoted bytes)
phrase_quoted bytes = ap raw_of (sym (part.rolls-Quoted bytes)) ∙ fold-roll-Part Phrase RawPart (List RawPart) Tokens Tokens Tokens (List RawPart) command_layer part_layer assign_layer case_arm_layer if_arm_layer link_layer word_layer (o.Quoted bytes)

pub phrase_param : (key : Key) (default : Option Text) (quoted : Bool) → raw_of (part.Param key default quoted) ≡ part_layer (o.Param key default quoted)
phrase_param key default quoted = ap raw_of (sym (part.rolls-Param key default quoted)) ∙ fold-roll-Part Phrase RawPart (List RawPart) Tokens Tokens Tokens (List RawPart) command_layer part_layer assign_layer case_arm_layer if_arm_layer link_layer word_layer (o.Param key default quoted)

pub phrase_all : raw_of part.All ≡ part_layer o.All
phrase_all = ap raw_of (sym part.rolls-All) ∙ fold-roll-Part Phrase RawPart (List RawPart) Tokens Tokens Tokens (List RawPart) command_layer part_layer assign_layer case_arm_layer if_arm_layer link_layer word_layer o.All

pub phrase_run : (at : ℕ) (body : Command) (quoted : Bool) → raw_of (part.Run at body quoted) ≡ part_layer (o.Run at (phrase body) quoted)
phrase_run at body quoted = ap raw_of (sym (part.rolls-Run at body quoted)) ∙ fold-roll-Part Phrase RawPart (List RawPart) Tokens Tokens Tokens (List RawPart) command_layer part_layer assign_layer case_arm_layer if_arm_layer link_layer word_layer (o.Run at body quoted)

pub phrase_the_assign : (name : Text) (value : Word) → assign_raws (roll-Assign (record { name = name; value = value })) ≡ assign_layer (record { name = name; value = word_raws value })
phrase_the_assign name value = fold-roll-Assign Phrase RawPart (List RawPart) Tokens Tokens Tokens (List RawPart) command_layer part_layer assign_layer case_arm_layer if_arm_layer link_layer word_layer (record { name = name; value = value })

pub phrase_the_case_arm : (patterns : List Word) (body : Command) → arm_tokens (roll-CaseArm (record { patterns = patterns; body = body })) ≡ case_arm_layer (record { patterns = map word_raws patterns; body = phrase body })
phrase_the_case_arm patterns body = fold-roll-CaseArm Phrase RawPart (List RawPart) Tokens Tokens Tokens (List RawPart) command_layer part_layer assign_layer case_arm_layer if_arm_layer link_layer word_layer (record { patterns = patterns; body = body })

pub phrase_the_if_arm : (cond : Command) (body : Command) → condition_tokens (roll-IfArm (record { cond = cond; body = body })) ≡ if_arm_layer (record { cond = phrase cond; body = phrase body })
phrase_the_if_arm cond body = fold-roll-IfArm Phrase RawPart (List RawPart) Tokens Tokens Tokens (List RawPart) command_layer part_layer assign_layer case_arm_layer if_arm_layer link_layer word_layer (record { cond = cond; body = body })

pub phrase_the_link : (and : Bool) (command : Command) → further_tokens (roll-Link (record { and = and; command = command })) ≡ link_layer (record { and = and; command = phrase command })
phrase_the_link and command = fold-roll-Link Phrase RawPart (List RawPart) Tokens Tokens Tokens (List RawPart) command_layer part_layer assign_layer case_arm_layer if_arm_layer link_layer word_layer (record { and = and; command = command })

pub phrase_the_word : (at : ℕ) (parts : List Part) → word_raws (roll-Word (record { at = at; parts = parts })) ≡ map raw_of parts
phrase_the_word at parts = fold-roll-Word Phrase RawPart (List RawPart) Tokens Tokens Tokens (List RawPart) command_layer part_layer assign_layer case_arm_layer if_arm_layer link_layer word_layer (record { at = at; parts = parts })
