-- What the translation says of static words is what is read off their syntax.
use Rattle.std.proofs.Common.{◌≡◌, ℕ, List, [], ◌∷◌, length, map, refl, sym, ap, ◌∙◌, arith}
use Rattle.shell_syntax.specs.declared.syntax.Command.{Command}
use Rattle.shell_syntax.specs.declared.syntax.Command.TheVariants.{Simple, rolls-Simple}
use Rattle.shell_syntax.specs.declared.syntax.Part.{Part, out-Part, roll-Part, roll-out-Part}
use Rattle.shell_syntax.specs.declared.syntax.Assign.{Assign}
use Rattle.shell_syntax.specs.declared.syntax.CaseArm.{CaseArm, out-CaseArm}
use Rattle.shell_syntax.specs.declared.syntax.IfArm.{IfArm}
use Rattle.shell_syntax.specs.declared.syntax.Link.{Link}
use Rattle.shell_syntax.specs.declared.syntax.Word.{Word}
use Rattle.shell_syntax.specs.declared.syntax.Command.TheOpen as o
use Rattle.shell_syntax.specs.declared.syntax.Command.TheFolds.{fold-roll-Command, fold-roll-Part, fold_out-Word, fold_out-CaseArm}
use Rattle.shell_forms.specs.Words.{both_bytes}
use Rattle.shell_forms.specs.Seen.{layer_bytes, bytes_of, static_of}
use Rattle.colis_syntax.specs.declared.syntax.Stmt.{Stmt}
use Rattle.colis_syntax.specs.declared.syntax.SetTo.{SetTo}
use Rattle.colis_syntax.specs.declared.syntax.ChainPart.{ChainPart}
use Rattle.colis_syntax.specs.declared.syntax.StmtArm.{StmtArm}
use Rattle.colis_syntax.specs.declared.syntax.PatArm.{PatArm}
use Rattle.colis_syntax.specs.declared.def.Def.{Def}
use Rattle.shell_to_colis.specs.declared.kinds.Kind.{Kind}
use Rattle.shell_to_colis.specs.Translated.{To, PartTo, WordTo, static, static_word, kind_of, simple_to, arm_of, translated, part_to, assign_to, case_arm_to, word_to, command_layer, part_layer, assign_layer, case_arm_layer, if_arm_layer, link_layer, word_layer}

abbrev pub Layer : Type 0
Layer = o.Part-F Command Part Assign CaseArm IfArm Link Word

bytes_layer : (x : Layer) → (part_to (roll-Part x)).bytes ≡ layer_bytes x
bytes_layer (o.Plain bytes) = ap (λ (t : PartTo). t.bytes) (fold-roll-Part (To Stmt) PartTo (To SetTo) (To (List PatArm)) (To StmtArm) (To ChainPart) WordTo command_layer part_layer assign_layer case_arm_layer if_arm_layer link_layer word_layer (o.Plain bytes))
bytes_layer (o.Quoted bytes) = ap (λ (t : PartTo). t.bytes) (fold-roll-Part (To Stmt) PartTo (To SetTo) (To (List PatArm)) (To StmtArm) (To ChainPart) WordTo command_layer part_layer assign_layer case_arm_layer if_arm_layer link_layer word_layer (o.Quoted bytes))
bytes_layer (o.Param key default quoted) = ap (λ (t : PartTo). t.bytes) (fold-roll-Part (To Stmt) PartTo (To SetTo) (To (List PatArm)) (To StmtArm) (To ChainPart) WordTo command_layer part_layer assign_layer case_arm_layer if_arm_layer link_layer word_layer (o.Param key default quoted))
bytes_layer o.All = ap (λ (t : PartTo). t.bytes) (fold-roll-Part (To Stmt) PartTo (To SetTo) (To (List PatArm)) (To StmtArm) (To ChainPart) WordTo command_layer part_layer assign_layer case_arm_layer if_arm_layer link_layer word_layer o.All)
bytes_layer (o.Run at body quoted) = ap (λ (t : PartTo). t.bytes) (fold-roll-Part (To Stmt) PartTo (To SetTo) (To (List PatArm)) (To StmtArm) (To ChainPart) WordTo command_layer part_layer assign_layer case_arm_layer if_arm_layer link_layer word_layer (o.Run at body quoted))

bytes_same : (part : Part) → (part_to part).bytes ≡ bytes_of part
bytes_same part = ap (λ q. (part_to q).bytes) (sym (roll-out-Part part)) ∙ bytes_layer (out-Part part)

parts_same : (parts : List Part) → static (map part_to parts) ≡ static_of parts
parts_same [] = refl
parts_same (part ∷ parts) = λ i. both_bytes (bytes_same part i) (parts_same parts i)

word_same : (word : Word) → static (word_to word) ≡ static_word word
word_same word = ap static (fold_out-Word (To Stmt) PartTo (To SetTo) (To (List PatArm)) (To StmtArm) (To ChainPart) WordTo command_layer part_layer assign_layer case_arm_layer if_arm_layer link_layer word_layer word) ∙ parts_same word.parts

words_same : (words : List Word) → map static (map word_to words) ≡ map static_word words
words_same [] = refl
words_same (word ∷ words) = λ i. word_same word i ∷ words_same words i

-- a simple command, by its kind
pub translated_simple : (at : ℕ) (assigns : List Assign) (words : List Word) (defs : List Def) (k : Kind) → k ≡ kind_of (map static_word words) defs
    → simple_to at k (map assign_to assigns) (map word_to words) defs ≡ translated (Simple at assigns words) defs
translated_simple at assigns words defs k e =
    ap (λ k. simple_to at k (map assign_to assigns) (map word_to words) defs) (e ∙ ap (λ texts. kind_of texts defs) (sym (words_same words)))
    ∙ sym (ap (λ (t : To Stmt). t defs) (ap translated (sym (rolls-Simple at assigns words)) ∙ fold-roll-Command (To Stmt) PartTo (To SetTo) (To (List PatArm)) (To StmtArm) (To ChainPart) WordTo command_layer part_layer assign_layer case_arm_layer if_arm_layer link_layer word_layer (o.Simple at assigns words)))

-- an arm of `case` without a pattern
no_patterns : (ws : List Word) (body : Stmt) (defs : List Def) → length ws ≡ 0 → arm_of (map word_to ws) body defs ≡ []
no_patterns [] body defs e = refl
no_patterns (w ∷ ws) body defs e = absurd (omega (arith, e))

pub no_arm : (arm : CaseArm) (defs : List Def) → length (out-CaseArm arm).patterns ≡ 0 → case_arm_to arm defs ≡ []
no_arm arm defs e =
    ap (λ (t : To (List PatArm)). t defs) (fold_out-CaseArm (To Stmt) PartTo (To SetTo) (To (List PatArm)) (To StmtArm) (To ChainPart) WordTo command_layer part_layer assign_layer case_arm_layer if_arm_layer link_layer word_layer arm)
    ∙ no_patterns (out-CaseArm arm).patterns (translated (out-CaseArm arm).body defs) defs e
