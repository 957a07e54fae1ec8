-- What is printed for each form of command and of part, from what is printed for its members.
use Rattle.std.proofs.Common.{◌≡◌, ℕ, Bool, List, [], ◌∷◌, ◌++◌, map, Option, Some, None, codes, refl, sym, ap, ◌∙◌, append_assoc}
use Rattle.std.proofs.lemmas.List.Folds.{flat_map-map}
use Rattle.std.specs.List.{flat_map}
use Rattle.shell_syntax.specs.declared.redirect.Redirect.{Redirect}
use Rattle.shell_syntax.specs.declared.level.Level.TheVariants as level
use Rattle.shell_syntax.specs.declared.key.Key.{Key}
use Rattle.shell_syntax.specs.declared.syntax.Command.{Command}
use Rattle.shell_syntax.specs.declared.syntax.Command.TheVariants as v
use Rattle.shell_syntax.specs.declared.syntax.Part.{Part}
use Rattle.shell_syntax.specs.declared.syntax.Part.TheVariants as part
use Rattle.shell_syntax.specs.declared.syntax.Assign.{Assign}
use Rattle.shell_syntax.specs.declared.syntax.CaseArm.{CaseArm, out-CaseArm}
use Rattle.shell_syntax.specs.declared.syntax.IfArm.{IfArm}
use Rattle.shell_syntax.specs.declared.syntax.Link.{Link}
use Rattle.shell_syntax.specs.declared.syntax.Word.{Word}
use Rattle.shell_syntax.specs.declared.syntax.Command.TheOpen as o
use Rattle.shell_syntax.specs.declared.syntax.Command.TheFolds.{fold-roll-Command, fold-roll-Part, fold_out-Assign, fold_out-CaseArm, fold_out-IfArm, fold_out-Link, fold_out-Word}
use Rattle.shell_syntax.specs.PrintedParts.{Text, quoted_text, param_text, run_text}
use Rattle.shell_syntax.specs.Printed.{Printed, command_layer, part_layer, assign_layer, case_arm_layer, if_arm_layer, link_layer, word_layer, printed, part_text, assign_text, arm_text, condition_text, further_text, word_text, placed, between, spaced, redirect_text, redirected_text, if_head, else_text, for_head, in_words, loop_head, do_text, case_head, arms_text, arm_head, arm_body, sub_text, define_text, assign_text_of, if_arm_text, link_text}

-- texts of what is made of something else
pub between-map : {A B : Type 0} (separator : Text) (f : B → Text) (g : A → B) (xs : List A)
    → between separator f (map g xs) ≡ between separator (λ x. f (g x)) xs
between-map separator f g [] = refl
between-map separator f g (x ∷ xs) = ap (λ t. f (g x) ++ t) (flat_map-map (λ y. separator ++ f y) g xs)

pub level_simple : (at : ℕ) (assigns : List Assign) (words : List Word) → (printed (v.Simple at assigns words)).level ≡ level.Simple
level_simple at assigns words = ap (λ (p : Printed). p.level) (ap printed (sym (v.rolls-Simple at assigns words)) ∙ fold-roll-Command Printed Text Text Text Text Text Text command_layer part_layer assign_layer case_arm_layer if_arm_layer link_layer word_layer (o.Simple at assigns words))

pub text_simple : (at : ℕ) (assigns : List Assign) (words : List Word) → (printed (v.Simple at assigns words)).text ≡ flat_map (λ assign. spaced (assign_text assign)) assigns ++ flat_map (λ word. spaced (word_text word)) words
text_simple at assigns words =
    ap (λ (p : Printed). p.text) (ap printed (sym (v.rolls-Simple at assigns words)) ∙ fold-roll-Command Printed Text Text Text Text Text Text command_layer part_layer assign_layer case_arm_layer if_arm_layer link_layer word_layer (o.Simple at assigns words)) ∙ ap (λ t. t ++ flat_map spaced (map word_text words)) (flat_map-map spaced assign_text assigns)
    ∙ ap (λ t. flat_map (λ assign. spaced (assign_text assign)) assigns ++ t) (flat_map-map spaced word_text words)

pub level_redirected : (at : ℕ) (body : Command) (redirects : List Redirect) → (printed (v.Redirected at body redirects)).level ≡ level.Command
level_redirected at body redirects = ap (λ (p : Printed). p.level) (ap printed (sym (v.rolls-Redirected at body redirects)) ∙ fold-roll-Command Printed Text Text Text Text Text Text command_layer part_layer assign_layer case_arm_layer if_arm_layer link_layer word_layer (o.Redirected at body redirects))

pub text_redirected : (at : ℕ) (body : Command) (redirects : List Redirect) → (printed (v.Redirected at body redirects)).text ≡ redirected_text (printed body) (flat_map redirect_text redirects)
text_redirected at body redirects =
    ap (λ (p : Printed). p.text) (ap printed (sym (v.rolls-Redirected at body redirects)) ∙ fold-roll-Command Printed Text Text Text Text Text Text command_layer part_layer assign_layer case_arm_layer if_arm_layer link_layer word_layer (o.Redirected at body redirects))

pub level_pipe : (at : ℕ) (parts : List Command) → (printed (v.Pipe at parts)).level ≡ level.PipeSequence
level_pipe at parts = ap (λ (p : Printed). p.level) (ap printed (sym (v.rolls-Pipe at parts)) ∙ fold-roll-Command Printed Text Text Text Text Text Text command_layer part_layer assign_layer case_arm_layer if_arm_layer link_layer word_layer (o.Pipe at parts))

pub text_pipe : (at : ℕ) (parts : List Command) → (printed (v.Pipe at parts)).text ≡ between (codes " |") (λ command. placed level.Command (printed command)) parts
text_pipe at parts =
    ap (λ (p : Printed). p.text) (ap printed (sym (v.rolls-Pipe at parts)) ∙ fold-roll-Command Printed Text Text Text Text Text Text command_layer part_layer assign_layer case_arm_layer if_arm_layer link_layer word_layer (o.Pipe at parts)) ∙ between-map (codes " |") (placed level.Command) printed parts

pub level_not : (at : ℕ) (body : Command) → (printed (v.Not at body)).level ≡ level.Pipeline
level_not at body = ap (λ (p : Printed). p.level) (ap printed (sym (v.rolls-Not at body)) ∙ fold-roll-Command Printed Text Text Text Text Text Text command_layer part_layer assign_layer case_arm_layer if_arm_layer link_layer word_layer (o.Not at body))

pub text_not : (at : ℕ) (body : Command) → (printed (v.Not at body)).text ≡ codes " !" ++ placed level.PipeSequence (printed body)
text_not at body =
    ap (λ (p : Printed). p.text) (ap printed (sym (v.rolls-Not at body)) ∙ fold-roll-Command Printed Text Text Text Text Text Text command_layer part_layer assign_layer case_arm_layer if_arm_layer link_layer word_layer (o.Not at body))

pub level_chain : (first : Command) (rest : List Link) → (printed (v.Chain first rest)).level ≡ level.AndOr
level_chain first rest = ap (λ (p : Printed). p.level) (ap printed (sym (v.rolls-Chain first rest)) ∙ fold-roll-Command Printed Text Text Text Text Text Text command_layer part_layer assign_layer case_arm_layer if_arm_layer link_layer word_layer (o.Chain first rest))

pub text_chain : (first : Command) (rest : List Link) → (printed (v.Chain first rest)).text ≡ placed level.Pipeline (printed first) ++ flat_map further_text rest
text_chain first rest =
    ap (λ (p : Printed). p.text) (ap printed (sym (v.rolls-Chain first rest)) ∙ fold-roll-Command Printed Text Text Text Text Text Text command_layer part_layer assign_layer case_arm_layer if_arm_layer link_layer word_layer (o.Chain first rest)) ∙ ap (λ t. placed level.Pipeline (printed first) ++ t) (flat_map-map (λ link. link) further_text rest)

pub level_seq : (parts : List Command) → (printed (v.Seq parts)).level ≡ level.List
level_seq parts = ap (λ (p : Printed). p.level) (ap printed (sym (v.rolls-Seq parts)) ∙ fold-roll-Command Printed Text Text Text Text Text Text command_layer part_layer assign_layer case_arm_layer if_arm_layer link_layer word_layer (o.Seq parts))

pub text_seq : (parts : List Command) → (printed (v.Seq parts)).text ≡ between (codes "\n") (λ command. placed level.AndOr (printed command)) parts
text_seq parts =
    ap (λ (p : Printed). p.text) (ap printed (sym (v.rolls-Seq parts)) ∙ fold-roll-Command Printed Text Text Text Text Text Text command_layer part_layer assign_layer case_arm_layer if_arm_layer link_layer word_layer (o.Seq parts)) ∙ between-map (codes "\n") (placed level.AndOr) printed parts

pub level_if : (at : ℕ) (arms : List IfArm) (otherwise : Option Command) → (printed (v.If at arms otherwise)).level ≡ level.Compound
level_if at arms otherwise = ap (λ (p : Printed). p.level) (ap printed (sym (v.rolls-If at arms otherwise)) ∙ fold-roll-Command Printed Text Text Text Text Text Text command_layer part_layer assign_layer case_arm_layer if_arm_layer link_layer word_layer (o.If at arms otherwise))

pub level_for : (at : ℕ) (name : Text) (words : Option (List Word)) (body : Command) → (printed (v.For at name words body)).level ≡ level.Compound
level_for at name words body = ap (λ (p : Printed). p.level) (ap printed (sym (v.rolls-For at name words body)) ∙ fold-roll-Command Printed Text Text Text Text Text Text command_layer part_layer assign_layer case_arm_layer if_arm_layer link_layer word_layer (o.For at name words body))

pub level_while : (at : ℕ) (until : Bool) (cond : Command) (body : Command) → (printed (v.While at until cond body)).level ≡ level.Compound
level_while at until cond body = ap (λ (p : Printed). p.level) (ap printed (sym (v.rolls-While at until cond body)) ∙ fold-roll-Command Printed Text Text Text Text Text Text command_layer part_layer assign_layer case_arm_layer if_arm_layer link_layer word_layer (o.While at until cond body))

pub text_while : (at : ℕ) (until : Bool) (cond : Command) (body : Command) → (printed (v.While at until cond body)).text ≡ loop_head until (printed cond).text ++ do_text (printed body).text
text_while at until cond body =
    ap (λ (p : Printed). p.text) (ap printed (sym (v.rolls-While at until cond body)) ∙ fold-roll-Command Printed Text Text Text Text Text Text command_layer part_layer assign_layer case_arm_layer if_arm_layer link_layer word_layer (o.While at until cond body))

pub level_case : (at : ℕ) (subject : Word) (arms : List CaseArm) → (printed (v.Case at subject arms)).level ≡ level.Compound
level_case at subject arms = ap (λ (p : Printed). p.level) (ap printed (sym (v.rolls-Case at subject arms)) ∙ fold-roll-Command Printed Text Text Text Text Text Text command_layer part_layer assign_layer case_arm_layer if_arm_layer link_layer word_layer (o.Case at subject arms))

pub text_case : (at : ℕ) (subject : Word) (arms : List CaseArm) → (printed (v.Case at subject arms)).text ≡ case_head (word_text subject) ++ arms_text (flat_map arm_text arms)
text_case at subject arms =
    ap (λ (p : Printed). p.text) (ap printed (sym (v.rolls-Case at subject arms)) ∙ fold-roll-Command Printed Text Text Text Text Text Text command_layer part_layer assign_layer case_arm_layer if_arm_layer link_layer word_layer (o.Case at subject arms)) ∙ ap (λ t. case_head (word_text subject) ++ arms_text t) (flat_map-map (λ arm. arm) arm_text arms)

pub level_sub : (at : ℕ) (body : Command) → (printed (v.Sub at body)).level ≡ level.Compound
level_sub at body = ap (λ (p : Printed). p.level) (ap printed (sym (v.rolls-Sub at body)) ∙ fold-roll-Command Printed Text Text Text Text Text Text command_layer part_layer assign_layer case_arm_layer if_arm_layer link_layer word_layer (o.Sub at body))

pub text_sub : (at : ℕ) (body : Command) → (printed (v.Sub at body)).text ≡ sub_text (printed body).text
text_sub at body =
    ap (λ (p : Printed). p.text) (ap printed (sym (v.rolls-Sub at body)) ∙ fold-roll-Command Printed Text Text Text Text Text Text command_layer part_layer assign_layer case_arm_layer if_arm_layer link_layer word_layer (o.Sub at body))

pub level_define : (at : ℕ) (name : Text) (body : Command) → (printed (v.Define at name body)).level ≡ level.Command
level_define at name body = ap (λ (p : Printed). p.level) (ap printed (sym (v.rolls-Define at name body)) ∙ fold-roll-Command Printed Text Text Text Text Text Text command_layer part_layer assign_layer case_arm_layer if_arm_layer link_layer word_layer (o.Define at name body))

pub text_define : (at : ℕ) (name : Text) (body : Command) → (printed (v.Define at name body)).text ≡ define_text name (printed body).text
text_define at name body =
    ap (λ (p : Printed). p.text) (ap printed (sym (v.rolls-Define at name body)) ∙ fold-roll-Command Printed Text Text Text Text Text Text command_layer part_layer assign_layer case_arm_layer if_arm_layer link_layer word_layer (o.Define at name body))

pub text_if : (at : ℕ) (arms : List IfArm) → (printed (v.If at arms None)).text ≡ if_head (between (codes "\n elif") condition_text arms) ++ codes "\n fi"
text_if at arms =
    ap (λ (p : Printed). p.text) (ap printed (sym (v.rolls-If at arms None)) ∙ fold-roll-Command Printed Text Text Text Text Text Text command_layer part_layer assign_layer case_arm_layer if_arm_layer link_layer word_layer (o.If at arms None))
    ∙ ap (λ t. if_head t ++ codes "\n fi") (between-map (codes "\n elif") (λ arm. arm) condition_text arms)

pub text_if_else : (at : ℕ) (arms : List IfArm) (otherwise : Command)
    → (printed (v.If at arms (Some otherwise))).text ≡ if_head (between (codes "\n elif") condition_text arms) ++ else_text (printed otherwise).text
text_if_else at arms otherwise =
    ap (λ (p : Printed). p.text) (ap printed (sym (v.rolls-If at arms (Some otherwise))) ∙ fold-roll-Command Printed Text Text Text Text Text Text command_layer part_layer assign_layer case_arm_layer if_arm_layer link_layer word_layer (o.If at arms (Some otherwise)))
    ∙ ap (λ t. if_head t ++ else_text (printed otherwise).text) (between-map (codes "\n elif") (λ arm. arm) condition_text arms)

pub text_for : (at : ℕ) (name : Text) (body : Command) → (printed (v.For at name None body)).text ≡ for_head name ++ do_text (printed body).text
text_for at name body = ap (λ (p : Printed). p.text) (ap printed (sym (v.rolls-For at name None body)) ∙ fold-roll-Command Printed Text Text Text Text Text Text command_layer part_layer assign_layer case_arm_layer if_arm_layer link_layer word_layer (o.For at name None body))

pub text_for_in : (at : ℕ) (name : Text) (words : List Word) (body : Command)
    → (printed (v.For at name (Some words) body)).text
    ≡ for_head name ++ (in_words (flat_map (λ word. spaced (word_text word)) words) ++ do_text (printed body).text)
text_for_in at name words body =
    ap (λ (p : Printed). p.text) (ap printed (sym (v.rolls-For at name (Some words) body)) ∙ fold-roll-Command Printed Text Text Text Text Text Text command_layer part_layer assign_layer case_arm_layer if_arm_layer link_layer word_layer (o.For at name (Some words) body))
    ∙ ap (λ t. for_head name ++ (in_words t ++ do_text (printed body).text)) (flat_map-map spaced word_text words)

pub text_plain : (bytes : Text) → part_text (part.Plain bytes) ≡ bytes
text_plain bytes = ap part_text (sym (part.rolls-Plain bytes)) ∙ fold-roll-Part Printed Text Text Text Text Text Text command_layer part_layer assign_layer case_arm_layer if_arm_layer link_layer word_layer (o.Plain bytes)

pub text_quoted : (bytes : Text) → part_text (part.Quoted bytes) ≡ quoted_text bytes
text_quoted bytes = ap part_text (sym (part.rolls-Quoted bytes)) ∙ fold-roll-Part Printed Text Text Text Text Text Text command_layer part_layer assign_layer case_arm_layer if_arm_layer link_layer word_layer (o.Quoted bytes)

pub text_param : (key : Key) (default : Option Text) (quoted : Bool) → part_text (part.Param key default quoted) ≡ param_text key default quoted
text_param key default quoted = ap part_text (sym (part.rolls-Param key default quoted)) ∙ fold-roll-Part Printed Text Text Text Text Text Text command_layer part_layer assign_layer case_arm_layer if_arm_layer link_layer word_layer (o.Param key default quoted)

pub text_all : part_text part.All ≡ codes "\"$@\""
text_all = ap part_text (sym part.rolls-All) ∙ fold-roll-Part Printed Text Text Text Text Text Text command_layer part_layer assign_layer case_arm_layer if_arm_layer link_layer word_layer o.All

pub text_run : (at : ℕ) (body : Command) (quoted : Bool) → part_text (part.Run at body quoted) ≡ run_text (printed body).text quoted
text_run at body quoted = ap part_text (sym (part.rolls-Run at body quoted)) ∙ fold-roll-Part Printed Text Text Text Text Text Text command_layer part_layer assign_layer case_arm_layer if_arm_layer link_layer word_layer (o.Run at body quoted)

pub text_assign : (x : Assign) → assign_text x ≡ assign_text_of x.name (word_text x.value)
text_assign x = fold_out-Assign Printed Text Text Text Text Text Text command_layer part_layer assign_layer case_arm_layer if_arm_layer link_layer word_layer x

pub text_arm : (x : CaseArm) → arm_text x ≡ arm_head (between (codes " |") (λ word. spaced (word_text word)) (out-CaseArm x).patterns) ++ arm_body (printed (out-CaseArm x).body).text
text_arm x = fold_out-CaseArm Printed Text Text Text Text Text Text command_layer part_layer assign_layer case_arm_layer if_arm_layer link_layer word_layer x ∙ ap (λ t. arm_head t ++ arm_body (printed (out-CaseArm x).body).text) (between-map (codes " |") spaced word_text (out-CaseArm x).patterns)

pub text_condition : (x : IfArm) → condition_text x ≡ if_arm_text (printed x.cond).text (printed x.body).text
text_condition x = fold_out-IfArm Printed Text Text Text Text Text Text command_layer part_layer assign_layer case_arm_layer if_arm_layer link_layer word_layer x

pub text_further : (x : Link) → further_text x ≡ link_text x.and (placed level.Pipeline (printed x.command))
text_further x = fold_out-Link Printed Text Text Text Text Text Text command_layer part_layer assign_layer case_arm_layer if_arm_layer link_layer word_layer x

pub text_word : (x : Word) → word_text x ≡ flat_map part_text x.parts
text_word x = fold_out-Word Printed Text Text Text Text Text Text command_layer part_layer assign_layer case_arm_layer if_arm_layer link_layer word_layer x ∙ flat_map-map (λ part. part) part_text x.parts

-- ---- texts, one behind the other

pub two_of : {A B : Type 0} (g : A → Text) (h : B → Text) (a b c t : Text) (x x2 : A) (y y2 : B)
    → b ≡ a ++ g x → c ≡ b ++ h y → t ≡ g x2 ++ h y2 → x ≡ x2 → y ≡ y2 → c ≡ a ++ t
two_of g h a b c t x x2 y y2 first last all e f =
    last ∙ ap (λ l. l ++ h y) first ∙ append_assoc a (g x) (h y) ∙ ap (λ z. a ++ (g z ++ h y)) e ∙ ap (λ z. a ++ (g x2 ++ h z)) f
    ∙ ap (λ l. a ++ l) (sym all)

pub three_of : {A B C : Type 0} (g : A → Text) (h : B → Text) (k : C → Text) (a b c d t : Text) (x x2 : A) (y y2 : B) (z z2 : C)
    → b ≡ a ++ g x → c ≡ b ++ h y → d ≡ c ++ k z → t ≡ g x2 ++ (h y2 ++ k z2) → x ≡ x2 → y ≡ y2 → z ≡ z2 → d ≡ a ++ t
three_of g h k a b c d t x x2 y y2 z z2 first next last all e f i =
    last ∙ ap (λ l. l ++ k z) (two_of g h a b c (g x ++ h y) x x y y first next refl refl refl)
    ∙ append_assoc a (g x ++ h y) (k z) ∙ ap (λ l. a ++ l) (append_assoc (g x) (h y) (k z))
    ∙ ap (λ w. a ++ (g w ++ (h y ++ k z))) e ∙ ap (λ w. a ++ (g x2 ++ (h w ++ k z))) f ∙ ap (λ w. a ++ (g x2 ++ (h y2 ++ k w))) i
    ∙ ap (λ l. a ++ l) (sym all)

-- ---- what the printing of each form cites

pub ruleset levels = (level_simple, level_redirected, level_pipe, level_not, level_chain, level_seq, level_if, level_for, level_while, level_case, level_sub, level_define)

pub ruleset commands = (text_simple, text_redirected, text_pipe, text_not, text_chain, text_seq, text_if, text_if_else, text_for, text_for_in, text_while, text_case, text_sub, text_define)

pub ruleset parts = (text_plain, text_quoted, text_param, text_all, text_run)
