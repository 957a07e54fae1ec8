-- What is printed for each construct, from what is printed for its members.
use Rattle.std.proofs.Common.{◌≡◌, ℕ, Bool, List, [], ◌∷◌, ◌++◌, map, codes, refl, sym, ap, ◌∙◌, append_assoc}
use Rattle.std.proofs.lemmas.List.Folds.{flat_map-map}
use Rattle.std.specs.List.{flat_map}
use Rattle.script_names.specs.declared.reason.Reason.{Reason}
use Rattle.colis_syntax.specs.declared.syntax.Stmt.{Stmt}
use Rattle.colis_syntax.specs.declared.syntax.Stmt.TheVariants as v
use Rattle.colis_syntax.specs.declared.syntax.Str.{Str}
use Rattle.colis_syntax.specs.declared.syntax.Str.TheVariants as sv
use Rattle.colis_syntax.specs.declared.syntax.StrPiece.{StrPiece}
use Rattle.colis_syntax.specs.declared.syntax.StrPiece.TheVariants as pv
use Rattle.colis_syntax.specs.declared.syntax.Fields.{Fields}
use Rattle.colis_syntax.specs.declared.syntax.Fields.TheVariants as fv
use Rattle.colis_syntax.specs.declared.syntax.SetTo.{SetTo}
use Rattle.colis_syntax.specs.declared.syntax.ChainPart.{ChainPart}
use Rattle.colis_syntax.specs.declared.syntax.StmtArm.{StmtArm}
use Rattle.colis_syntax.specs.declared.syntax.PatArm.{PatArm}
use Rattle.colis_syntax.specs.declared.syntax.Fields.TheOpen as o
use Rattle.colis_syntax.specs.declared.syntax.Fields.TheFolds.{fold-roll-Stmt, fold-roll-Str, fold-roll-StrPiece, fold-roll-Fields, fold_out-SetTo, fold_out-ChainPart, fold_out-StmtArm, fold_out-PatArm}
use Rattle.colis_syntax.specs.ProgramText.{Text, fields_layer, stmt_layer, str_layer, piece_layer, part_layer, pat_arm_layer, set_layer, arm_layer, spaced, each_spaced, between, group, at_group, one_text, at_text, lit_text, var_text, arg_text, or_text, fun_text, chain_text, if_text, for_text, while_text, case_text, stop_text, set_text_of, arm_text_of, pat_arm_text_of, link_head, pattern_text_of, pattern_text, stmt_text, str_text, piece_text, field_text, set_text, part_text, arm_text, pat_arm_text}

-- texts of what is made of something else
pub between-map : {A B : Type 0} (f : B → Text) (g : A → B) (xs : List A) → between f (map g xs) ≡ between (λ x. f (g x)) xs
between-map f g [] = refl
between-map f g (x ∷ xs) = ap (λ t. f (g x) ++ t) (flat_map-map (λ y. spaced (f y)) g xs)

pub text_skip : stmt_text v.Skip ≡ codes "(skip)"
text_skip = ap stmt_text (sym v.rolls-Skip) ∙ fold-roll-Stmt Text Text Text Text Text Text Text Text fields_layer stmt_layer str_layer piece_layer part_layer pat_arm_layer set_layer arm_layer o.Skip

pub text_sets : (at : ℕ) (sets : List SetTo) → stmt_text (v.Set at sets) ≡ at_group (codes "(set") at (flat_map (λ set. spaced (set_text set)) sets)
text_sets at sets = ap stmt_text (sym (v.rolls-Set at sets)) ∙ fold-roll-Stmt Text Text Text Text Text Text Text Text fields_layer stmt_layer str_layer piece_layer part_layer pat_arm_layer set_layer arm_layer (o.Set at sets) ∙ ap (at_group (codes "(set") at) (flat_map-map spaced set_text sets)

pub text_call : (at : ℕ) (fields : List Fields) → stmt_text (v.Call at fields) ≡ at_group (codes "(call") at (flat_map (λ field. spaced (field_text field)) fields)
text_call at fields = ap stmt_text (sym (v.rolls-Call at fields)) ∙ fold-roll-Stmt Text Text Text Text Text Text Text Text fields_layer stmt_layer str_layer piece_layer part_layer pat_arm_layer set_layer arm_layer (o.Call at fields) ∙ ap (at_group (codes "(call") at) (flat_map-map spaced field_text fields)

pub text_exit : (at : ℕ) (fields : List Fields) → stmt_text (v.Exit at fields) ≡ at_group (codes "(exit") at (flat_map (λ field. spaced (field_text field)) fields)
text_exit at fields = ap stmt_text (sym (v.rolls-Exit at fields)) ∙ fold-roll-Stmt Text Text Text Text Text Text Text Text fields_layer stmt_layer str_layer piece_layer part_layer pat_arm_layer set_layer arm_layer (o.Exit at fields) ∙ ap (at_group (codes "(exit") at) (flat_map-map spaced field_text fields)

pub text_return : (at : ℕ) (fields : List Fields) → stmt_text (v.Return at fields) ≡ at_group (codes "(return") at (flat_map (λ field. spaced (field_text field)) fields)
text_return at fields = ap stmt_text (sym (v.rolls-Return at fields)) ∙ fold-roll-Stmt Text Text Text Text Text Text Text Text fields_layer stmt_layer str_layer piece_layer part_layer pat_arm_layer set_layer arm_layer (o.Return at fields) ∙ ap (at_group (codes "(return") at) (flat_map-map spaced field_text fields)

pub text_export : (at : ℕ) (fields : List Fields) → stmt_text (v.Export at fields) ≡ at_group (codes "(export") at (flat_map (λ field. spaced (field_text field)) fields)
text_export at fields = ap stmt_text (sym (v.rolls-Export at fields)) ∙ fold-roll-Stmt Text Text Text Text Text Text Text Text fields_layer stmt_layer str_layer piece_layer part_layer pat_arm_layer set_layer arm_layer (o.Export at fields) ∙ ap (at_group (codes "(export") at) (flat_map-map spaced field_text fields)

pub text_unset : (at : ℕ) (fields : List Fields) → stmt_text (v.Unset at fields) ≡ at_group (codes "(unset") at (flat_map (λ field. spaced (field_text field)) fields)
text_unset at fields = ap stmt_text (sym (v.rolls-Unset at fields)) ∙ fold-roll-Stmt Text Text Text Text Text Text Text Text fields_layer stmt_layer str_layer piece_layer part_layer pat_arm_layer set_layer arm_layer (o.Unset at fields) ∙ ap (at_group (codes "(unset") at) (flat_map-map spaced field_text fields)

pub text_fun : (at : ℕ) (name : Text) (fields : List Fields) → stmt_text (v.Fun at name fields) ≡ fun_text at name (flat_map (λ field. spaced (field_text field)) fields)
text_fun at name fields = ap stmt_text (sym (v.rolls-Fun at name fields)) ∙ fold-roll-Stmt Text Text Text Text Text Text Text Text fields_layer stmt_layer str_layer piece_layer part_layer pat_arm_layer set_layer arm_layer (o.Fun at name fields) ∙ ap (fun_text at name) (flat_map-map spaced field_text fields)

pub text_seq : (parts : List Stmt) → stmt_text (v.Seq parts) ≡ group (codes "(seq") (flat_map (λ stmt. spaced (stmt_text stmt)) parts)
text_seq parts = ap stmt_text (sym (v.rolls-Seq parts)) ∙ fold-roll-Stmt Text Text Text Text Text Text Text Text fields_layer stmt_layer str_layer piece_layer part_layer pat_arm_layer set_layer arm_layer (o.Seq parts) ∙ ap (group (codes "(seq")) (flat_map-map spaced stmt_text parts)

pub text_chain : (first : Stmt) (rest : List ChainPart) → stmt_text (v.Chain first rest) ≡ chain_text (stmt_text first) (flat_map (λ part. spaced (part_text part)) rest)
text_chain first rest = ap stmt_text (sym (v.rolls-Chain first rest)) ∙ fold-roll-Stmt Text Text Text Text Text Text Text Text fields_layer stmt_layer str_layer piece_layer part_layer pat_arm_layer set_layer arm_layer (o.Chain first rest) ∙ ap (chain_text (stmt_text first)) (flat_map-map spaced part_text rest)

pub text_not : (body : Stmt) → stmt_text (v.Not body) ≡ one_text (codes "(not") (stmt_text body)
text_not body = ap stmt_text (sym (v.rolls-Not body)) ∙ fold-roll-Stmt Text Text Text Text Text Text Text Text fields_layer stmt_layer str_layer piece_layer part_layer pat_arm_layer set_layer arm_layer (o.Not body)

pub text_if : (arms : List StmtArm) (last : Stmt) → stmt_text (v.If arms last) ≡ if_text (flat_map (λ arm. spaced (arm_text arm)) arms) (stmt_text last)
text_if arms last = ap stmt_text (sym (v.rolls-If arms last)) ∙ fold-roll-Stmt Text Text Text Text Text Text Text Text fields_layer stmt_layer str_layer piece_layer part_layer pat_arm_layer set_layer arm_layer (o.If arms last) ∙ ap (λ t. if_text t (stmt_text last)) (flat_map-map spaced arm_text arms)

pub text_for : (at : ℕ) (name : Text) (fields : List Fields) (body : Stmt) → stmt_text (v.For at name fields body) ≡ for_text at name (between field_text fields) (stmt_text body)
text_for at name fields body = ap stmt_text (sym (v.rolls-For at name fields body)) ∙ fold-roll-Stmt Text Text Text Text Text Text Text Text fields_layer stmt_layer str_layer piece_layer part_layer pat_arm_layer set_layer arm_layer (o.For at name fields body) ∙ ap (λ t. for_text at name t (stmt_text body)) (between-map (λ text. text) field_text fields)

pub text_while : (at : ℕ) (cond : Stmt) (body : Stmt) → stmt_text (v.While at cond body) ≡ while_text at (stmt_text cond) (stmt_text body)
text_while at cond body = ap stmt_text (sym (v.rolls-While at cond body)) ∙ fold-roll-Stmt Text Text Text Text Text Text Text Text fields_layer stmt_layer str_layer piece_layer part_layer pat_arm_layer set_layer arm_layer (o.While at cond body)

pub text_case : (at : ℕ) (subject : Str) (arms : List PatArm) → stmt_text (v.Case at subject arms) ≡ case_text at (str_text subject) (flat_map (λ arm. spaced (pat_arm_text arm)) arms)
text_case at subject arms = ap stmt_text (sym (v.rolls-Case at subject arms)) ∙ fold-roll-Stmt Text Text Text Text Text Text Text Text fields_layer stmt_layer str_layer piece_layer part_layer pat_arm_layer set_layer arm_layer (o.Case at subject arms) ∙ ap (case_text at (str_text subject)) (flat_map-map spaced pat_arm_text arms)

pub text_sub : (at : ℕ) (body : Stmt) → stmt_text (v.Sub at body) ≡ at_text (codes "(sub") at (stmt_text body)
text_sub at body = ap stmt_text (sym (v.rolls-Sub at body)) ∙ fold-roll-Stmt Text Text Text Text Text Text Text Text fields_layer stmt_layer str_layer piece_layer part_layer pat_arm_layer set_layer arm_layer (o.Sub at body)

pub text_err : (at : ℕ) (body : Stmt) → stmt_text (v.Err at body) ≡ at_text (codes "(err") at (stmt_text body)
text_err at body = ap stmt_text (sym (v.rolls-Err at body)) ∙ fold-roll-Stmt Text Text Text Text Text Text Text Text fields_layer stmt_layer str_layer piece_layer part_layer pat_arm_layer set_layer arm_layer (o.Err at body)

pub text_quiet : (body : Stmt) → stmt_text (v.Quiet body) ≡ one_text (codes "(quiet") (stmt_text body)
text_quiet body = ap stmt_text (sym (v.rolls-Quiet body)) ∙ fold-roll-Stmt Text Text Text Text Text Text Text Text fields_layer stmt_layer str_layer piece_layer part_layer pat_arm_layer set_layer arm_layer (o.Quiet body)

pub text_strict : stmt_text v.Strict ≡ codes "(strict)"
text_strict = ap stmt_text (sym v.rolls-Strict) ∙ fold-roll-Stmt Text Text Text Text Text Text Text Text fields_layer stmt_layer str_layer piece_layer part_layer pat_arm_layer set_layer arm_layer o.Strict

pub text_lax : stmt_text v.Lax ≡ codes "(lax)"
text_lax = ap stmt_text (sym v.rolls-Lax) ∙ fold-roll-Stmt Text Text Text Text Text Text Text Text fields_layer stmt_layer str_layer piece_layer part_layer pat_arm_layer set_layer arm_layer o.Lax

pub text_break : stmt_text v.Break ≡ codes "(break)"
text_break = ap stmt_text (sym v.rolls-Break) ∙ fold-roll-Stmt Text Text Text Text Text Text Text Text fields_layer stmt_layer str_layer piece_layer part_layer pat_arm_layer set_layer arm_layer o.Break

pub text_continue : stmt_text v.Continue ≡ codes "(continue)"
text_continue = ap stmt_text (sym v.rolls-Continue) ∙ fold-roll-Stmt Text Text Text Text Text Text Text Text fields_layer stmt_layer str_layer piece_layer part_layer pat_arm_layer set_layer arm_layer o.Continue

pub text_stop : (at : ℕ) (reason : Reason) → stmt_text (v.Stop at reason) ≡ stop_text at reason
text_stop at reason = ap stmt_text (sym (v.rolls-Stop at reason)) ∙ fold-roll-Stmt Text Text Text Text Text Text Text Text fields_layer stmt_layer str_layer piece_layer part_layer pat_arm_layer set_layer arm_layer (o.Stop at reason)

pub text_lit : (bytes : Text) → str_text (sv.Lit bytes) ≡ lit_text bytes
text_lit bytes = ap str_text (sym (sv.rolls-Lit bytes)) ∙ fold-roll-Str Text Text Text Text Text Text Text Text fields_layer stmt_layer str_layer piece_layer part_layer pat_arm_layer set_layer arm_layer (o.Lit bytes)

pub text_var : (name : Text) → str_text (sv.Var name) ≡ var_text name
text_var name = ap str_text (sym (sv.rolls-Var name)) ∙ fold-roll-Str Text Text Text Text Text Text Text Text fields_layer stmt_layer str_layer piece_layer part_layer pat_arm_layer set_layer arm_layer (o.Var name)

pub text_arg : (number : ℕ) → str_text (sv.Arg number) ≡ arg_text number
text_arg number = ap str_text (sym (sv.rolls-Arg number)) ∙ fold-roll-Str Text Text Text Text Text Text Text Text fields_layer stmt_layer str_layer piece_layer part_layer pat_arm_layer set_layer arm_layer (o.Arg number)

pub text_count : str_text sv.Count ≡ codes "(count)"
text_count = ap str_text (sym sv.rolls-Count) ∙ fold-roll-Str Text Text Text Text Text Text Text Text fields_layer stmt_layer str_layer piece_layer part_layer pat_arm_layer set_layer arm_layer o.Count

pub text_or : (first : Str) (other : Text) → str_text (sv.Or first other) ≡ or_text (str_text first) other
text_or first other = ap str_text (sym (sv.rolls-Or first other)) ∙ fold-roll-Str Text Text Text Text Text Text Text Text fields_layer stmt_layer str_layer piece_layer part_layer pat_arm_layer set_layer arm_layer (o.Or first other)

pub text_output : (body : Stmt) → str_text (sv.Output body) ≡ one_text (codes "(output") (stmt_text body)
text_output body = ap str_text (sym (sv.rolls-Output body)) ∙ fold-roll-Str Text Text Text Text Text Text Text Text fields_layer stmt_layer str_layer piece_layer part_layer pat_arm_layer set_layer arm_layer (o.Output body)

pub text_join : (parts : List Str) → str_text (sv.Join parts) ≡ group (codes "(join") (flat_map (λ string. spaced (str_text string)) parts)
text_join parts = ap str_text (sym (sv.rolls-Join parts)) ∙ fold-roll-Str Text Text Text Text Text Text Text Text fields_layer stmt_layer str_layer piece_layer part_layer pat_arm_layer set_layer arm_layer (o.Join parts) ∙ ap (group (codes "(join")) (flat_map-map spaced str_text parts)

pub text_plain : (string : Str) → piece_text (pv.Plain string) ≡ one_text (codes "(p") (str_text string)
text_plain string = ap piece_text (sym (pv.rolls-Plain string)) ∙ fold-roll-StrPiece Text Text Text Text Text Text Text Text fields_layer stmt_layer str_layer piece_layer part_layer pat_arm_layer set_layer arm_layer (o.Plain string)

pub text_quoted : (string : Str) → piece_text (pv.Quoted string) ≡ one_text (codes "(q") (str_text string)
text_quoted string = ap piece_text (sym (pv.rolls-Quoted string)) ∙ fold-roll-StrPiece Text Text Text Text Text Text Text Text fields_layer stmt_layer str_layer piece_layer part_layer pat_arm_layer set_layer arm_layer (o.Quoted string)

pub text_split : (string : Str) → piece_text (pv.Split string) ≡ one_text (codes "(s") (str_text string)
text_split string = ap piece_text (sym (pv.rolls-Split string)) ∙ fold-roll-StrPiece Text Text Text Text Text Text Text Text fields_layer stmt_layer str_layer piece_layer part_layer pat_arm_layer set_layer arm_layer (o.Split string)

pub text_word : (pieces : List StrPiece) → field_text (fv.Word pieces) ≡ group (codes "(word") (flat_map (λ piece. spaced (piece_text piece)) pieces)
text_word pieces = ap field_text (sym (fv.rolls-Word pieces)) ∙ fold-roll-Fields Text Text Text Text Text Text Text Text fields_layer stmt_layer str_layer piece_layer part_layer pat_arm_layer set_layer arm_layer (o.Word pieces) ∙ ap (group (codes "(word")) (flat_map-map spaced piece_text pieces)

pub text_args : field_text fv.Args ≡ codes "(args)"
text_args = ap field_text (sym fv.rolls-Args) ∙ fold-roll-Fields Text Text Text Text Text Text Text Text fields_layer stmt_layer str_layer piece_layer part_layer pat_arm_layer set_layer arm_layer o.Args

pub text_set : (x : SetTo) → set_text x ≡ set_text_of x.name (str_text x.value)
text_set x = fold_out-SetTo Text Text Text Text Text Text Text Text fields_layer stmt_layer str_layer piece_layer part_layer pat_arm_layer set_layer arm_layer x

pub text_part : (x : ChainPart) → part_text x ≡ one_text (link_head x.and) (stmt_text x.stmt)
text_part x = fold_out-ChainPart Text Text Text Text Text Text Text Text fields_layer stmt_layer str_layer piece_layer part_layer pat_arm_layer set_layer arm_layer x

pub text_arm : (x : StmtArm) → arm_text x ≡ arm_text_of (stmt_text x.cond) (stmt_text x.body)
text_arm x = fold_out-StmtArm Text Text Text Text Text Text Text Text fields_layer stmt_layer str_layer piece_layer part_layer pat_arm_layer set_layer arm_layer x

pub text_pat_arm : (x : PatArm) → pat_arm_text x ≡ pat_arm_text_of (between pattern_text x.patterns) (stmt_text x.body)
text_pat_arm x = fold_out-PatArm Text Text Text Text Text Text Text Text fields_layer stmt_layer str_layer piece_layer part_layer pat_arm_layer set_layer arm_layer x ∙ ap (λ t. pat_arm_text_of t (stmt_text x.body)) (between-map pattern_text_of (map piece_text) x.patterns)

pub text_pattern : (pieces : List StrPiece) → pattern_text pieces ≡ group (codes "(pat") (flat_map (λ piece. spaced (piece_text piece)) pieces)
text_pattern pieces = ap (group (codes "(pat")) (flat_map-map spaced piece_text pieces)

-- ---- texts, one behind the other

grow : (a b c x y : Text) → b ≡ a ++ x → c ≡ b ++ y → c ≡ a ++ (x ++ y)
grow a b c x y first next = next ∙ ap (λ l. l ++ y) first ∙ append_assoc a x y

pub put_pattern_text : (a b c d : Text) (pieces : List StrPiece) → b ≡ a ++ codes "(pat"
    → c ≡ b ++ flat_map (λ piece. spaced (piece_text piece)) pieces → d ≡ c ++ codes ")" → d ≡ a ++ pattern_text pieces
unfolding group
put_pattern_text a b c d pieces first next last =
    let members : Text = flat_map (λ piece. spaced (piece_text piece)) pieces in
    grow a c d (codes "(pat" ++ members) (codes ")") (grow a b c (codes "(pat") members first next) last
    ∙ ap (λ l. a ++ l) (sym (text_pattern pieces))

pub put_pat_arm_text : (a b c d e f : Text) (patterns : List (List StrPiece)) (arm : PatArm) → b ≡ a ++ codes "(("
    → c ≡ b ++ between pattern_text patterns → patterns ≡ arm.patterns → d ≡ c ++ codes ") " → e ≡ d ++ stmt_text arm.body
    → f ≡ e ++ codes ")" → f ≡ a ++ pat_arm_text arm
unfolding pat_arm_text_of
put_pat_arm_text a b c d e f patterns arm first second same third fourth fifth =
    let x1 : Text = codes "((" in
    let x2 : Text = between pattern_text arm.patterns in
    let x3 : Text = codes ") " in
    let x4 : Text = stmt_text arm.body in
    grow a e f (((x1 ++ x2) ++ x3) ++ x4) (codes ")")
    (grow a d e ((x1 ++ x2) ++ x3) x4
    (grow a c d (x1 ++ x2) x3 (grow a b c x1 x2 first (second ∙ ap (λ p. b ++ between pattern_text p) same)) third) fourth) fifth
    ∙ ap (λ l. a ++ l) (sym (text_pat_arm arm))

-- ---- what the printing of each type cites

pub ruleset of_stmts = (text_skip, text_sets, text_call, text_exit, text_return, text_export, text_unset, text_fun, text_seq, text_chain, text_not, text_if, text_for, text_while, text_case, text_sub, text_err, text_quiet, text_strict, text_lax, text_break, text_continue, text_stop)

pub ruleset of_strs = (text_lit, text_var, text_arg, text_count, text_or, text_output, text_join)

pub ruleset of_pieces = (text_plain, text_quoted, text_split)

pub ruleset of_fields = (text_word, text_args)
