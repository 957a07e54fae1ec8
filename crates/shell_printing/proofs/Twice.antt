-- A script with every offset 0 stays as it is when its offsets are made 0 again.
use Rattle.std.proofs.Common.{◌≡◌, ℕ, Bool, List, [], ◌∷◌, map, Some, None, refl, sym, ap, ◌∙◌, subst}
use Rattle.shell_syntax.specs.declared.syntax.Command.{Command, roll-Command}
use Rattle.shell_syntax.specs.declared.syntax.Command.TheVariants as c
use Rattle.shell_syntax.specs.declared.syntax.Command.TheOpen as o
use Rattle.shell_syntax.specs.declared.syntax.Command.TheFolds.{ind-Command, map-Command, map-Part}
use Rattle.shell_syntax.specs.declared.syntax.Part.{Part, roll-Part}
use Rattle.shell_syntax.specs.declared.syntax.Part.TheVariants as part
use Rattle.shell_syntax.specs.declared.syntax.Assign.{Assign, roll-Assign}
use Rattle.shell_syntax.specs.declared.syntax.CaseArm.{CaseArm, roll-CaseArm}
use Rattle.shell_syntax.specs.declared.syntax.IfArm.{IfArm, roll-IfArm}
use Rattle.shell_syntax.specs.declared.syntax.Link.{Link, roll-Link}
use Rattle.shell_syntax.specs.declared.syntax.Word.{Word, roll-Word}
use Rattle.shell_grammar.specs.Look.{Text}
use Rattle.shell_printing.specs.Zeroed.{zeroed, zeroed_part, zeroed_assign, zeroed_case_arm, zeroed_if_arm, zeroed_link, zeroed_word}
use Rattle.shell_printing.proofs.ZeroedLayers.{zeroed_simple, zeroed_redirected, zeroed_pipe, zeroed_not, zeroed_chain, zeroed_seq, zeroed_if, zeroed_if_else, zeroed_for, zeroed_for_in, zeroed_while, zeroed_case, zeroed_sub, zeroed_define, zeroed_plain, zeroed_quoted, zeroed_param, zeroed_all, zeroed_run, zeroed_the_assign, zeroed_the_case_arm, zeroed_the_if_arm, zeroed_the_link, zeroed_the_word}
use Rattle.shell_printing.proofs.Offsets.{both}

abbrev P : Command → Type 0
P x = zeroed (zeroed x) ≡ zeroed x

abbrev Pp : Part → Type 0
Pp x = zeroed_part (zeroed_part x) ≡ zeroed_part x

abbrev Pa : Assign → Type 0
Pa x = zeroed_assign (zeroed_assign x) ≡ zeroed_assign x

abbrev Pc : CaseArm → Type 0
Pc x = zeroed_case_arm (zeroed_case_arm x) ≡ zeroed_case_arm x

abbrev Pi : IfArm → Type 0
Pi x = zeroed_if_arm (zeroed_if_arm x) ≡ zeroed_if_arm x

abbrev Pl : Link → Type 0
Pl x = zeroed_link (zeroed_link x) ≡ zeroed_link x

abbrev Pw : Word → Type 0
Pw x = zeroed_word (zeroed_word x) ≡ zeroed_word x

all : {A : Type 0} (f : A → A) (ys : List ((x : A) × (f (f x) ≡ f x))) → map f (map f (map (λ y. y.0) ys)) ≡ map f (map (λ y. y.0) ys)
all f [] = refl
all {A} f (y ∷ ys) = both (λ (x : A) (xs : List A). x ∷ xs) y.1 (all f ys)

abbrev base : o.Command-F ((x : Command) × P x) ((x : Part) × Pp x) ((x : Assign) × Pa x) ((x : CaseArm) × Pc x) ((x : IfArm) × Pi x) ((x : Link) × Pl x) ((x : Word) × Pw x) → o.Command-F Command Part Assign CaseArm IfArm Link Word
base y = map-Command _ _ _ _ _ _ _ Command Part Assign CaseArm IfArm Link Word (λ y. y.0) (λ y. y.0) (λ y. y.0) (λ y. y.0) (λ y. y.0) (λ y. y.0) (λ y. y.0) y

abbrev part_base : o.Part-F ((x : Command) × P x) ((x : Part) × Pp x) ((x : Assign) × Pa x) ((x : CaseArm) × Pc x) ((x : IfArm) × Pi x) ((x : Link) × Pl x) ((x : Word) × Pw x) → o.Part-F Command Part Assign CaseArm IfArm Link Word
part_base y = map-Part _ _ _ _ _ _ _ Command Part Assign CaseArm IfArm Link Word (λ y. y.0) (λ y. y.0) (λ y. y.0) (λ y. y.0) (λ y. y.0) (λ y. y.0) (λ y. y.0) y

command_twice : (y : o.Command-F ((x : Command) × P x) ((x : Part) × Pp x) ((x : Assign) × Pa x) ((x : CaseArm) × Pc x) ((x : IfArm) × Pi x) ((x : Link) × Pl x) ((x : Word) × Pw x)) → P (roll-Command (base y))
command_twice (o.Simple at xs ys) =
    let es = map (λ y. y.0) xs in
    let ws = map (λ y. y.0) ys in
    subst P (sym (c.rolls-Simple at es ws))
    (ap zeroed (zeroed_simple at es ws) ∙ zeroed_simple 0 (map zeroed_assign es) (map zeroed_word ws) ∙ both (c.Simple 0) (all zeroed_assign xs) (all zeroed_word ys) ∙ sym (zeroed_simple at es ws))
command_twice (o.Redirected at y rs) =
    subst P (sym (c.rolls-Redirected at y.0 rs)) (ap zeroed (zeroed_redirected at y.0 rs) ∙ zeroed_redirected 0 (zeroed y.0) rs ∙ ap (λ x. c.Redirected 0 x rs) y.1 ∙ sym (zeroed_redirected at y.0 rs))
command_twice (o.Pipe at ys) =
    let xs = map (λ y. y.0) ys in
    subst P (sym (c.rolls-Pipe at xs)) (ap zeroed (zeroed_pipe at xs) ∙ zeroed_pipe 0 (map zeroed xs) ∙ ap (c.Pipe 0) (all zeroed ys) ∙ sym (zeroed_pipe at xs))
command_twice (o.Not at y) = subst P (sym (c.rolls-Not at y.0)) (ap zeroed (zeroed_not at y.0) ∙ zeroed_not 0 (zeroed y.0) ∙ ap (c.Not 0) y.1 ∙ sym (zeroed_not at y.0))
command_twice (o.Chain y ys) =
    let ls = map (λ y. y.0) ys in
    subst P (sym (c.rolls-Chain y.0 ls)) (ap zeroed (zeroed_chain y.0 ls) ∙ zeroed_chain (zeroed y.0) (map zeroed_link ls) ∙ both c.Chain y.1 (all zeroed_link ys) ∙ sym (zeroed_chain y.0 ls))
command_twice (o.Seq ys) =
    let xs = map (λ y. y.0) ys in
    subst P (sym (c.rolls-Seq xs)) (ap zeroed (zeroed_seq xs) ∙ zeroed_seq (map zeroed xs) ∙ ap c.Seq (all zeroed ys) ∙ sym (zeroed_seq xs))
command_twice (o.If at ys None) =
    let es = map (λ y. y.0) ys in
    subst P (sym (c.rolls-If at es None)) (ap zeroed (zeroed_if at es) ∙ zeroed_if 0 (map zeroed_if_arm es) ∙ ap (λ es. c.If 0 es None) (all zeroed_if_arm ys) ∙ sym (zeroed_if at es))
command_twice (o.If at ys (Some y)) =
    let es = map (λ y. y.0) ys in
    subst P (sym (c.rolls-If at es (Some y.0)))
    (ap zeroed (zeroed_if_else at es y.0) ∙ zeroed_if_else 0 (map zeroed_if_arm es) (zeroed y.0) ∙ both (λ es x. c.If 0 es (Some x)) (all zeroed_if_arm ys) y.1 ∙ sym (zeroed_if_else at es y.0))
command_twice (o.For at name None y) =
    subst P (sym (c.rolls-For at name None y.0)) (ap zeroed (zeroed_for at name y.0) ∙ zeroed_for 0 name (zeroed y.0) ∙ ap (c.For 0 name None) y.1 ∙ sym (zeroed_for at name y.0))
command_twice (o.For at name (Some ys) y) =
    let ws = map (λ y. y.0) ys in
    subst P (sym (c.rolls-For at name (Some ws) y.0))
    (ap zeroed (zeroed_for_in at name ws y.0) ∙ zeroed_for_in 0 name (map zeroed_word ws) (zeroed y.0) ∙ both (λ ws x. c.For 0 name (Some ws) x) (all zeroed_word ys) y.1 ∙ sym (zeroed_for_in at name ws y.0))
command_twice (o.While at until y z) =
    subst P (sym (c.rolls-While at until y.0 z.0)) (ap zeroed (zeroed_while at until y.0 z.0) ∙ zeroed_while 0 until (zeroed y.0) (zeroed z.0) ∙ both (c.While 0 until) y.1 z.1 ∙ sym (zeroed_while at until y.0 z.0))
command_twice (o.Case at y ys) =
    let es = map (λ y. y.0) ys in
    subst P (sym (c.rolls-Case at y.0 es)) (ap zeroed (zeroed_case at y.0 es) ∙ zeroed_case 0 (zeroed_word y.0) (map zeroed_case_arm es) ∙ both (c.Case 0) y.1 (all zeroed_case_arm ys) ∙ sym (zeroed_case at y.0 es))
command_twice (o.Sub at y) = subst P (sym (c.rolls-Sub at y.0)) (ap zeroed (zeroed_sub at y.0) ∙ zeroed_sub 0 (zeroed y.0) ∙ ap (c.Sub 0) y.1 ∙ sym (zeroed_sub at y.0))
command_twice (o.Define at name y) =
    subst P (sym (c.rolls-Define at name y.0)) (ap zeroed (zeroed_define at name y.0) ∙ zeroed_define 0 name (zeroed y.0) ∙ ap (c.Define 0 name) y.1 ∙ sym (zeroed_define at name y.0))

part_twice : (y : o.Part-F ((x : Command) × P x) ((x : Part) × Pp x) ((x : Assign) × Pa x) ((x : CaseArm) × Pc x) ((x : IfArm) × Pi x) ((x : Link) × Pl x) ((x : Word) × Pw x)) → Pp (roll-Part (part_base y))
part_twice (o.Plain bytes) = subst Pp (sym (part.rolls-Plain bytes)) (ap zeroed_part (zeroed_plain bytes))
part_twice (o.Quoted bytes) = subst Pp (sym (part.rolls-Quoted bytes)) (ap zeroed_part (zeroed_quoted bytes))
part_twice (o.Param key default quoted) = subst Pp (sym (part.rolls-Param key default quoted)) (ap zeroed_part (zeroed_param key default quoted))
part_twice o.All = subst Pp (sym part.rolls-All) (ap zeroed_part zeroed_all)
part_twice (o.Run at y quoted) =
    subst Pp (sym (part.rolls-Run at y.0 quoted)) (ap zeroed_part (zeroed_run at y.0 quoted) ∙ zeroed_run 0 (zeroed y.0) quoted ∙ ap (λ x. part.Run 0 x quoted) y.1 ∙ sym (zeroed_run at y.0 quoted))

assign_twice : (name : Text) (w : Word) → Pw w → Pa (roll-Assign (record { name = name; value = w }))
assign_twice name w h =
    ap zeroed_assign (zeroed_the_assign name w) ∙ zeroed_the_assign name (zeroed_word w) ∙ ap (λ w. roll-Assign (record { name = name; value = w })) h ∙ sym (zeroed_the_assign name w)

case_arm_twice : (ys : List ((x : Word) × Pw x)) (x : Command) → P x → Pc (roll-CaseArm (record { patterns = map (λ y. y.0) ys; body = x }))
case_arm_twice ys x h =
    let ws = map (λ y. y.0) ys in
    ap zeroed_case_arm (zeroed_the_case_arm ws x) ∙ zeroed_the_case_arm (map zeroed_word ws) (zeroed x)
    ∙ both (λ ws x. roll-CaseArm (record { patterns = ws; body = x })) (all zeroed_word ys) h ∙ sym (zeroed_the_case_arm ws x)

if_arm_twice : (x y : Command) → P x → P y → Pi (roll-IfArm (record { cond = x; body = y }))
if_arm_twice x y h k =
    ap zeroed_if_arm (zeroed_the_if_arm x y) ∙ zeroed_the_if_arm (zeroed x) (zeroed y) ∙ both (λ x y. roll-IfArm (record { cond = x; body = y })) h k ∙ sym (zeroed_the_if_arm x y)

link_twice : (is_and : Bool) (x : Command) → P x → Pl (roll-Link (record { and = is_and; command = x }))
link_twice is_and x h =
    ap zeroed_link (zeroed_the_link is_and x) ∙ zeroed_the_link is_and (zeroed x) ∙ ap (λ x. roll-Link (record { and = is_and; command = x })) h ∙ sym (zeroed_the_link is_and x)

word_twice : (at : ℕ) (ys : List ((x : Part) × Pp x)) → Pw (roll-Word (record { at = at; parts = map (λ y. y.0) ys }))
word_twice at ys =
    let ps = map (λ y. y.0) ys in
    ap zeroed_word (zeroed_the_word at ps) ∙ zeroed_the_word 0 (map zeroed_part ps) ∙ ap (λ ps. roll-Word (record { at = 0; parts = ps })) (all zeroed_part ys) ∙ sym (zeroed_the_word at ps)

pub zeroed_twice : (x : Command) → zeroed (zeroed x) ≡ zeroed x
zeroed_twice = ind-Command P Pp Pa Pc Pi Pl Pw
    (λ x y is. subst (λ x. P (roll-Command x)) is (command_twice y))
    (λ x y is. subst (λ x. Pp (roll-Part x)) is (part_twice y))
    (λ x y is. subst (λ x. Pa (roll-Assign x)) is (assign_twice y.name y.value.0 y.value.1))
    (λ x y is. subst (λ x. Pc (roll-CaseArm x)) is (case_arm_twice y.patterns y.body.0 y.body.1))
    (λ x y is. subst (λ x. Pi (roll-IfArm x)) is (if_arm_twice y.cond.0 y.body.0 y.cond.1 y.body.1))
    (λ x y is. subst (λ x. Pl (roll-Link x)) is (link_twice y.and y.command.0 y.command.1))
    (λ x y is. subst (λ x. Pw (roll-Word x)) is (word_twice y.at y.parts))
