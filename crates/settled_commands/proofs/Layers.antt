-- What is seen of each construct, by what is seen of its parts.
use Rattle.std.proofs.Common.{◌≡◌, refl, ℕ, Bool, true, false, List, [], ◌∷◌, ◌++◌, map, Option, Some, None, sym, ap, ◌∙◌}
use Rattle.std.specs.List.{flat_map}
use Rattle.std.proofs.lemmas.List.{append-nil}
use Rattle.shell_syntax.specs.declared.redirect.Redirect.{Redirect}
use Rattle.shell_syntax.specs.declared.key.Key.{Key}
use Rattle.shell_syntax.specs.declared.syntax.Command.{Command}
use Rattle.shell_syntax.specs.declared.syntax.Command.TheVariants as v
use Rattle.shell_syntax.specs.declared.syntax.Part.{Part}
use Rattle.shell_syntax.specs.declared.syntax.Part.TheVariants as part
use Rattle.shell_syntax.specs.declared.syntax.Assign.{Assign}
use Rattle.shell_syntax.specs.declared.syntax.CaseArm.{CaseArm, out-CaseArm}
use Rattle.shell_syntax.specs.declared.syntax.IfArm.{IfArm}
use Rattle.shell_syntax.specs.declared.syntax.Link.{Link}
use Rattle.shell_syntax.specs.declared.syntax.Word.{Word}
use Rattle.shell_syntax.specs.declared.syntax.Command.TheOpen as o
use Rattle.shell_syntax.specs.declared.syntax.Command.TheFolds.{fold-roll-Command, fold-roll-Part, fold_out-Assign, fold_out-CaseArm, fold_out-IfArm, fold_out-Link, fold_out-Word}
use Rattle.settled_commands.proofs.Behind.{both}
use Rattle.settled_commands.specs.declared.seen.SeenPart.{SeenPart}
use Rattle.settled_commands.specs.declared.seen.SeenPart.TheVariants.{Literal, Unknown}
use Rattle.settled_commands.specs.Seen.{Seen, PartSeen, WordSeen, AssignSeen, command_layer, part_layer, assign_layer, case_arm_layer, if_arm_layer, link_layer, word_layer, all_of, in_words, in_assigns, simple, head, expansion, alone}
use Rattle.settled_commands.specs.SeenParts.{words_commands, words_parts, assigns_commands, links_commands, arms_commands, arm_commands, case_arms_commands, simple_of}
use Rattle.settled_commands.specs.Seen.{commands_in, part_seen, assign_seen, case_arm_seen, if_arm_seen, link_seen, word_seen}

pub of_plain : (bytes : List ℕ) → part_seen (part.Plain bytes) ≡ alone (Literal bytes false)
of_plain bytes = ap part_seen (sym (part.rolls-Plain bytes)) ∙ fold-roll-Part Seen PartSeen AssignSeen Seen Seen Seen WordSeen command_layer part_layer assign_layer case_arm_layer if_arm_layer link_layer word_layer (o.Plain bytes)

pub of_quoted : (bytes : List ℕ) → part_seen (part.Quoted bytes) ≡ alone (Literal bytes true)
of_quoted bytes = ap part_seen (sym (part.rolls-Quoted bytes)) ∙ fold-roll-Part Seen PartSeen AssignSeen Seen Seen Seen WordSeen command_layer part_layer assign_layer case_arm_layer if_arm_layer link_layer word_layer (o.Quoted bytes)

pub of_param : (key : Key) (default : Option (List ℕ)) (quoted : Bool) → part_seen (part.Param key default quoted) ≡ alone (expansion key default quoted)
of_param key default quoted = ap part_seen (sym (part.rolls-Param key default quoted)) ∙ fold-roll-Part Seen PartSeen AssignSeen Seen Seen Seen WordSeen command_layer part_layer assign_layer case_arm_layer if_arm_layer link_layer word_layer (o.Param key default quoted)

pub of_all : part_seen part.All ≡ alone Unknown
of_all = ap part_seen (sym part.rolls-All) ∙ fold-roll-Part Seen PartSeen AssignSeen Seen Seen Seen WordSeen command_layer part_layer assign_layer case_arm_layer if_arm_layer link_layer word_layer o.All

pub of_run : (at : ℕ) (body : Command) (quoted : Bool) → part_seen (part.Run at body quoted) ≡ record { part = Unknown; commands = commands_in body }
of_run at body quoted = ap part_seen (sym (part.rolls-Run at body quoted)) ∙ fold-roll-Part Seen PartSeen AssignSeen Seen Seen Seen WordSeen command_layer part_layer assign_layer case_arm_layer if_arm_layer link_layer word_layer (o.Run at body quoted)

pub of_assign : (assign : Assign) → assign_seen assign ≡ record { name = assign.name; commands = (word_seen assign.value).commands }
of_assign assign = fold_out-Assign Seen PartSeen AssignSeen Seen Seen Seen WordSeen command_layer part_layer assign_layer case_arm_layer if_arm_layer link_layer word_layer assign

pub of_case_arm : (arm : CaseArm) → case_arm_seen arm ≡ in_words (map word_seen (out-CaseArm arm).patterns) ++ commands_in (out-CaseArm arm).body
of_case_arm arm = fold_out-CaseArm Seen PartSeen AssignSeen Seen Seen Seen WordSeen command_layer part_layer assign_layer case_arm_layer if_arm_layer link_layer word_layer arm

pub of_if_arm : (arm : IfArm) → if_arm_seen arm ≡ commands_in arm.cond ++ commands_in arm.body
of_if_arm arm = fold_out-IfArm Seen PartSeen AssignSeen Seen Seen Seen WordSeen command_layer part_layer assign_layer case_arm_layer if_arm_layer link_layer word_layer arm

pub of_link : (link : Link) → link_seen link ≡ commands_in link.command
of_link link = fold_out-Link Seen PartSeen AssignSeen Seen Seen Seen WordSeen command_layer part_layer assign_layer case_arm_layer if_arm_layer link_layer word_layer link

of_whole_word : (word : Word) → word_seen word ≡ record { parts = map (λ p. p.part) (map part_seen word.parts); commands = flat_map (λ p. p.commands) (map part_seen word.parts) }
of_whole_word word = fold_out-Word Seen PartSeen AssignSeen Seen Seen Seen WordSeen command_layer part_layer assign_layer case_arm_layer if_arm_layer link_layer word_layer word

each_part : (parts : List Part) → map (λ p. p.part) (map part_seen parts) ≡ map (λ p. (part_seen p).part) parts
each_part [] = refl
each_part (p ∷ parts) = ap (λ l. (part_seen p).part ∷ l) (each_part parts)

each_commands : (parts : List Part) → flat_map (λ p. p.commands) (map part_seen parts) ≡ flat_map (λ p. (part_seen p).commands) parts
each_commands [] = refl
each_commands (p ∷ parts) = ap (λ l. (part_seen p).commands ++ l) (each_commands parts)

pub word_parts : (word : Word) → (word_seen word).parts ≡ map (λ p. (part_seen p).part) word.parts
word_parts word = ap (λ w. w.parts) (of_whole_word word) ∙ each_part word.parts

pub word_commands : (word : Word) → (word_seen word).commands ≡ flat_map (λ p. (part_seen p).commands) word.parts
word_commands word = ap (λ w. w.commands) (of_whole_word word) ∙ each_commands word.parts

-- ---- lists of parts

pub words_are : (words : List Word) → in_words (map word_seen words) ≡ words_commands words
words_are [] = refl
words_are (word ∷ words) = ap (λ l. (word_seen word).commands ++ l) (words_are words)

pub parts_are : (words : List Word) → map (λ word. word.parts) (map word_seen words) ≡ words_parts words
parts_are [] = refl
parts_are (word ∷ words) = ap (λ l. (word_seen word).parts ∷ l) (parts_are words)

pub assigns_are : (assigns : List Assign) → in_assigns (map assign_seen assigns) ≡ assigns_commands assigns
assigns_are [] = refl
assigns_are (assign ∷ assigns) =
    ap (λ s. s.commands ++ in_assigns (map assign_seen assigns)) (of_assign assign)
    ∙ ap (λ l. (word_seen assign.value).commands ++ l) (assigns_are assigns)

pub names_are : (assigns : List Assign) → map (λ assign. assign.name) (map assign_seen assigns) ≡ map (λ assign. assign.name) assigns
names_are [] = refl
names_are (assign ∷ assigns) =
    ap (λ s. s.name ∷ map (λ a. a.name) (map assign_seen assigns)) (of_assign assign)
    ∙ ap (λ l. assign.name ∷ l) (names_are assigns)

pub commands_are : (commands : List Command) → all_of (map commands_in commands) ≡ flat_map commands_in commands
commands_are [] = refl
commands_are (command ∷ commands) = ap (λ l. commands_in command ++ l) (commands_are commands)

pub links_are : (links : List Link) → all_of (map link_seen links) ≡ links_commands links
links_are [] = refl
links_are (link ∷ links) =
    ap (λ s. s ++ all_of (map link_seen links)) (of_link link) ∙ ap (λ l. commands_in link.command ++ l) (links_are links)

pub arms_are : (arms : List IfArm) → all_of (map if_arm_seen arms) ≡ arms_commands arms
arms_are [] = refl
arms_are (arm ∷ arms) =
    ap (λ s. s ++ all_of (map if_arm_seen arms)) (of_if_arm arm)
    ∙ ap (λ l. (commands_in arm.cond ++ commands_in arm.body) ++ l) (arms_are arms)

case_arm_is : (arm : CaseArm) → case_arm_seen arm ≡ arm_commands arm
case_arm_is arm = of_case_arm arm ∙ ap (λ l. l ++ commands_in (out-CaseArm arm).body) (words_are (out-CaseArm arm).patterns)

pub case_arms_are : (arms : List CaseArm) → all_of (map case_arm_seen arms) ≡ case_arms_commands arms
case_arms_are [] = refl
case_arms_are (arm ∷ arms) =
    ap (λ s. s ++ all_of (map case_arm_seen arms)) (case_arm_is arm) ∙ ap (λ l. arm_commands arm ++ l) (case_arms_are arms)

simple_is : (assigns : List Assign) (words : List Word)
    → simple (map assign_seen assigns) (map word_seen words) ≡ assigns_commands assigns ++ (words_commands words ++ simple_of assigns words ∷ [])
simple_is assigns words =
    ap (λ l. l ++ (in_words (map word_seen words) ++ record { assigned = map (λ a. a.name) (map assign_seen assigns); words = map (λ w. w.parts) (map word_seen words) } ∷ [])) (assigns_are assigns)
    ∙ ap (λ l. assigns_commands assigns ++ (l ++ record { assigned = map (λ a. a.name) (map assign_seen assigns); words = map (λ w. w.parts) (map word_seen words) } ∷ [])) (words_are words)
    ∙ ap (λ l. assigns_commands assigns ++ (words_commands words ++ record { assigned = l; words = map (λ w. w.parts) (map word_seen words) } ∷ [])) (names_are assigns)
    ∙ ap (λ l. assigns_commands assigns ++ (words_commands words ++ record { assigned = map (λ a. a.name) assigns; words = l } ∷ [])) (parts_are words)

-- ---- commands

pub in_simple : (at : ℕ) (assigns : List Assign) (words : List Word) → commands_in (v.Simple at assigns words) ≡ assigns_commands assigns ++ (words_commands words ++ simple_of assigns words ∷ [])
in_simple at assigns words = ap commands_in (sym (v.rolls-Simple at assigns words)) ∙ fold-roll-Command Seen PartSeen AssignSeen Seen Seen Seen WordSeen command_layer part_layer assign_layer case_arm_layer if_arm_layer link_layer word_layer (o.Simple at assigns words) ∙ simple_is assigns words

pub in_redirected : (at : ℕ) (body : Command) (redirects : List Redirect) → commands_in (v.Redirected at body redirects) ≡ commands_in body
in_redirected at body redirects = ap commands_in (sym (v.rolls-Redirected at body redirects)) ∙ fold-roll-Command Seen PartSeen AssignSeen Seen Seen Seen WordSeen command_layer part_layer assign_layer case_arm_layer if_arm_layer link_layer word_layer (o.Redirected at body redirects)

pub in_pipe : (at : ℕ) (parts : List Command) → commands_in (v.Pipe at parts) ≡ flat_map commands_in parts
in_pipe at parts = ap commands_in (sym (v.rolls-Pipe at parts)) ∙ fold-roll-Command Seen PartSeen AssignSeen Seen Seen Seen WordSeen command_layer part_layer assign_layer case_arm_layer if_arm_layer link_layer word_layer (o.Pipe at parts) ∙ commands_are parts

pub in_not : (at : ℕ) (body : Command) → commands_in (v.Not at body) ≡ commands_in body
in_not at body = ap commands_in (sym (v.rolls-Not at body)) ∙ fold-roll-Command Seen PartSeen AssignSeen Seen Seen Seen WordSeen command_layer part_layer assign_layer case_arm_layer if_arm_layer link_layer word_layer (o.Not at body)

pub in_chain : (first : Command) (rest : List Link) → commands_in (v.Chain first rest) ≡ commands_in first ++ links_commands rest
in_chain first rest = ap commands_in (sym (v.rolls-Chain first rest)) ∙ fold-roll-Command Seen PartSeen AssignSeen Seen Seen Seen WordSeen command_layer part_layer assign_layer case_arm_layer if_arm_layer link_layer word_layer (o.Chain first rest) ∙ ap (λ l. commands_in first ++ l) (links_are rest)

pub in_seq : (parts : List Command) → commands_in (v.Seq parts) ≡ flat_map commands_in parts
in_seq parts = ap commands_in (sym (v.rolls-Seq parts)) ∙ fold-roll-Command Seen PartSeen AssignSeen Seen Seen Seen WordSeen command_layer part_layer assign_layer case_arm_layer if_arm_layer link_layer word_layer (o.Seq parts) ∙ commands_are parts

pub in_if_alone : (at : ℕ) (arms : List IfArm) → commands_in (v.If at arms None) ≡ arms_commands arms
in_if_alone at arms = ap commands_in (sym (v.rolls-If at arms None)) ∙ fold-roll-Command Seen PartSeen AssignSeen Seen Seen Seen WordSeen command_layer part_layer assign_layer case_arm_layer if_arm_layer link_layer word_layer (o.If at arms None) ∙ append-nil (all_of (map if_arm_seen arms)) ∙ arms_are arms

pub in_if : (at : ℕ) (arms : List IfArm) (body : Command) → commands_in (v.If at arms (Some body)) ≡ arms_commands arms ++ commands_in body
in_if at arms body = ap commands_in (sym (v.rolls-If at arms (Some body))) ∙ fold-roll-Command Seen PartSeen AssignSeen Seen Seen Seen WordSeen command_layer part_layer assign_layer case_arm_layer if_arm_layer link_layer word_layer (o.If at arms (Some body)) ∙ ap (λ l. l ++ commands_in body) (arms_are arms)

pub in_for_alone : (at : ℕ) (name : List ℕ) (body : Command) → commands_in (v.For at name None body) ≡ head name ∷ commands_in body
in_for_alone at name body = ap commands_in (sym (v.rolls-For at name None body)) ∙ fold-roll-Command Seen PartSeen AssignSeen Seen Seen Seen WordSeen command_layer part_layer assign_layer case_arm_layer if_arm_layer link_layer word_layer (o.For at name None body)

pub in_for : (at : ℕ) (name : List ℕ) (words : List Word) (body : Command) → commands_in (v.For at name (Some words) body) ≡ head name ∷ (words_commands words ++ commands_in body)
in_for at name words body = ap commands_in (sym (v.rolls-For at name (Some words) body)) ∙ fold-roll-Command Seen PartSeen AssignSeen Seen Seen Seen WordSeen command_layer part_layer assign_layer case_arm_layer if_arm_layer link_layer word_layer (o.For at name (Some words) body) ∙ ap (λ l. head name ∷ (l ++ commands_in body)) (words_are words)

pub in_while : (at : ℕ) (until : Bool) (cond : Command) (body : Command) → commands_in (v.While at until cond body) ≡ commands_in cond ++ commands_in body
in_while at until cond body = ap commands_in (sym (v.rolls-While at until cond body)) ∙ fold-roll-Command Seen PartSeen AssignSeen Seen Seen Seen WordSeen command_layer part_layer assign_layer case_arm_layer if_arm_layer link_layer word_layer (o.While at until cond body)

pub in_case : (at : ℕ) (subject : Word) (arms : List CaseArm) → commands_in (v.Case at subject arms) ≡ (word_seen subject).commands ++ case_arms_commands arms
in_case at subject arms = ap commands_in (sym (v.rolls-Case at subject arms)) ∙ fold-roll-Command Seen PartSeen AssignSeen Seen Seen Seen WordSeen command_layer part_layer assign_layer case_arm_layer if_arm_layer link_layer word_layer (o.Case at subject arms) ∙ ap (λ l. (word_seen subject).commands ++ l) (case_arms_are arms)

pub in_sub : (at : ℕ) (body : Command) → commands_in (v.Sub at body) ≡ commands_in body
in_sub at body = ap commands_in (sym (v.rolls-Sub at body)) ∙ fold-roll-Command Seen PartSeen AssignSeen Seen Seen Seen WordSeen command_layer part_layer assign_layer case_arm_layer if_arm_layer link_layer word_layer (o.Sub at body)

pub in_define : (at : ℕ) (name : List ℕ) (body : Command) → commands_in (v.Define at name body) ≡ commands_in body
in_define at name body = ap commands_in (sym (v.rolls-Define at name body)) ∙ fold-roll-Command Seen PartSeen AssignSeen Seen Seen Seen WordSeen command_layer part_layer assign_layer case_arm_layer if_arm_layer link_layer word_layer (o.Define at name body)

-- a simple command, behind what was added for its words
pub simple_added : (a b c d : Seen) (at : ℕ) (assigns : List Assign) (words : List Word) (names : List (List ℕ)) (parts : List (List SeenPart)) (command : Command)
    → command ≡ v.Simple at assigns words → b ≡ a ++ assigns_commands assigns → c ≡ b ++ words_commands words
    → names ≡ map (λ assign. assign.name) assigns → parts ≡ words_parts words
    → d ≡ c ++ record { assigned = names; words = parts } ∷ [] → d ≡ a ++ commands_in command
simple_added a b c d at assigns words names parts command is eb ec en ep ed =
    both a b d (assigns_commands assigns) (words_commands words ++ simple_of assigns words ∷ []) (commands_in command)
    (ap commands_in is ∙ in_simple at assigns words) eb
    (both b c d (words_commands words) (simple_of assigns words ∷ []) _ refl ec
    (ed ∙ ap (λ n. c ++ record { assigned = n; words = parts } ∷ []) en
    ∙ ap (λ w. c ++ record { assigned = map (λ assign. assign.name) assigns; words = w } ∷ []) ep))
