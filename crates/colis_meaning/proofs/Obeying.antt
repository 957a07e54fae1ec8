-- A property that each rule keeps is one of what each program does: by one induction over the syntax.
use Rattle.std.proofs.Common.{◌≡◌, Bool, true, false, List, [], ◌∷◌, map, Option, Some, sym, subst}
use Rattle.std.proofs.Common.{if◌then◌else◌}
use Rattle.std.specs.Str.{bytes_eq}
use Rattle.colis_syntax.specs.declared.syntax.Stmt.{Stmt, roll-Stmt}
use Rattle.colis_syntax.specs.declared.syntax.Str.{Str, roll-Str}
use Rattle.colis_syntax.specs.declared.syntax.StrPiece.{StrPiece, roll-StrPiece}
use Rattle.colis_syntax.specs.declared.syntax.Fields.{Fields, roll-Fields}
use Rattle.colis_syntax.specs.declared.syntax.SetTo.{SetTo, roll-SetTo}
use Rattle.colis_syntax.specs.declared.syntax.ChainPart.{ChainPart, roll-ChainPart}
use Rattle.colis_syntax.specs.declared.syntax.StmtArm.{StmtArm, roll-StmtArm}
use Rattle.colis_syntax.specs.declared.syntax.PatArm.{PatArm, roll-PatArm}
use Rattle.colis_syntax.specs.declared.def.Def.{Def}
use Rattle.colis_syntax.specs.declared.syntax.Fields.TheOpen as o
use Rattle.colis_syntax.specs.declared.syntax.Fields.TheFolds.{fold-roll-Stmt, fold-roll-Str, fold-roll-StrPiece}
use Rattle.colis_syntax.specs.declared.syntax.Fields.TheFolds.{fold-roll-Fields, fold-roll-SetTo}
use Rattle.colis_syntax.specs.declared.syntax.Fields.TheFolds.{fold-roll-ChainPart}
use Rattle.colis_syntax.specs.declared.syntax.Fields.TheFolds.{fold-roll-StmtArm, fold-roll-PatArm, ind-Stmt}
use Rattle.colis_syntax.specs.declared.syntax.Fields.TheFolds.{map-Fields, map-Stmt, map-Str, map-StrPiece}
use Rattle.shell_rules.specs.State.{Doing, Action, Funs, Does, with}
use Rattle.shell_rules.specs.Calls.{found}
use Rattle.shell_rules.specs.Parts.{Property, Each, EachFun, EachLink, EachArm, EachPattern, EachCaseArm, EachSet}
use Rattle.shell_rules.specs.RuleLaws.{ExpansionsKeep, CommandsKeep, LoopsKeep, CallsKeep}
use Rattle.colis_meaning.specs.Meaning.{FieldsDo, StrDoes, PieceDoes, LinkDoes, CaseArmDoes, SetDoes, ArmDoes}
use Rattle.colis_meaning.specs.Meaning.{co_stmt, co_str, co_piece, co_fields, co_set, co_link, co_arm, co_case_arm}
use Rattle.colis_meaning.specs.Meaning.{stmt_layer, str_layer, piece_layer, fields_layer, set_layer, link_layer}
use Rattle.colis_meaning.specs.Meaning.{arm_layer, case_arm_layer, values_with, pieces_with, fields_with, are_static}
use Rattle.colis_meaning.specs.Meaning.{funs_of}

module _ (Has : Property) (expansions : ExpansionsKeep Has) (commands : CommandsKeep Has) (loops : LoopsKeep Has)
    (calls : CallsKeep Has) where
  -- what a part of the syntax does has the property where what the functions do has it
  abbrev Obeys : {A : Type 0} → (Funs → Doing A) → Type 0
  Obeys does = (f : Funs) → EachFun Has f → Has _ (does f)

  abbrev PF : Fields → Type 0
  PF q = Obeys (co_fields q).fields

  abbrev PS : Stmt → Type 0
  PS q = Obeys (co_stmt q)

  abbrev PT : Str → Type 0
  PT q = Obeys (co_str q).value

  abbrev PP : StrPiece → Type 0
  PP q = Obeys (co_piece q).piece

  abbrev PL : ChainPart → Type 0
  PL q = Obeys (λ f. (co_link q f).1)

  abbrev PC : PatArm → Type 0
  PC q = (f : Funs) → EachFun Has f → EachPattern Has (co_case_arm q f).0 × Has _ (co_case_arm q f).1

  abbrev PA : SetTo → Type 0
  PA q = Obeys (λ f. (co_set q f).1)

  abbrev PM : StmtArm → Type 0
  PM q = (f : Funs) → EachFun Has f → Has _ (co_arm q f).0 × Has _ (co_arm q f).1

  abbrev YF : Type 0
  YF = (q : Fields) × PF q

  abbrev YS : Type 0
  YS = (q : Stmt) × PS q

  abbrev YT : Type 0
  YT = (q : Str) × PT q

  abbrev YP : Type 0
  YP = (q : StrPiece) × PP q

  abbrev YL : Type 0
  YL = (q : ChainPart) × PL q

  abbrev YC : Type 0
  YC = (q : PatArm) × PC q

  abbrev YA : Type 0
  YA = (q : SetTo) × PA q

  abbrev YM : Type 0
  YM = (q : StmtArm) × PM q

  -- ---- lists of parts

  each_obeys : {Q A : Type 0} (f : Funs) → EachFun Has f → (g : Q → Funs → Doing A) (ys : List ((q : Q) × Obeys (g q)))
      → Each Has (with f (map g (map (λ y. y.0) ys)))
  each_obeys f hf g [] = tt
  each_obeys f hf g (y ∷ ys) = (y.1 f hf, each_obeys f hf g ys)

  strings_obey : (f : Funs) → EachFun Has f → (ys : List YT)
      → Each Has (values_with f (map co_str (map (λ y. y.0) ys)))
  strings_obey f hf [] = tt
  strings_obey f hf (y ∷ ys) = (y.1 f hf, strings_obey f hf ys)

  pieces_obey : (f : Funs) → EachFun Has f → (ys : List YP)
      → Each Has (pieces_with f (map co_piece (map (λ y. y.0) ys)))
  pieces_obey f hf [] = tt
  pieces_obey f hf (y ∷ ys) = (y.1 f hf, pieces_obey f hf ys)

  words_obey : (f : Funs) → EachFun Has f → (ys : List YF)
      → Each Has (fields_with f (map co_fields (map (λ y. y.0) ys)))
  words_obey f hf [] = tt
  words_obey f hf (y ∷ ys) = (y.1 f hf, words_obey f hf ys)

  links_obey : (f : Funs) → EachFun Has f → (ys : List YL) → EachLink Has (with f (map co_link (map (λ y. y.0) ys)))
  links_obey f hf [] = tt
  links_obey f hf (y ∷ ys) = (y.1 f hf, links_obey f hf ys)

  sets_obey : (f : Funs) → EachFun Has f → (ys : List YA) → EachSet Has (with f (map co_set (map (λ y. y.0) ys)))
  sets_obey f hf [] = tt
  sets_obey f hf (y ∷ ys) = (y.1 f hf, sets_obey f hf ys)

  arms_obey : (f : Funs) → EachFun Has f → (ys : List YM) → EachArm Has (with f (map co_arm (map (λ y. y.0) ys)))
  arms_obey f hf [] = tt
  arms_obey f hf (y ∷ ys) = let h = y.1 f hf in (h.0, h.1, arms_obey f hf ys)

  case_arms_obey : (f : Funs) → EachFun Has f → (ys : List YC) → EachCaseArm Has (with f (map co_case_arm (map (λ y. y.0) ys)))
  case_arms_obey f hf [] = tt
  case_arms_obey f hf (y ∷ ys) = let h = y.1 f hf in (h.0, h.1, case_arms_obey f hf ys)

  patterns_obey : (f : Funs) → EachFun Has f → (ys : List (List YP))
      → EachPattern Has (map (pieces_with f) (map (λ l. map co_piece l) (map (λ l. map (λ y. y.0) l) ys)))
  patterns_obey f hf [] = tt
  patterns_obey f hf (y ∷ ys) = (pieces_obey f hf y, patterns_obey f hf ys)

  -- ---- one layer

  abbrev base_stmt : o.Stmt-F YF YS YT YP YL YC YA YM → o.Stmt-F Fields Stmt Str StrPiece ChainPart PatArm SetTo StmtArm
  base_stmt y =
      map-Stmt YF YS YT YP YL YC YA YM Fields Stmt Str StrPiece ChainPart PatArm SetTo StmtArm
      (λ y. y.0) (λ y. y.0) (λ y. y.0) (λ y. y.0) (λ y. y.0) (λ y. y.0) (λ y. y.0) (λ y. y.0) y

  abbrev co_layer : o.Stmt-F Fields Stmt Str StrPiece ChainPart PatArm SetTo StmtArm → Does
  co_layer x = stmt_layer (map-Stmt Fields Stmt Str StrPiece ChainPart PatArm SetTo StmtArm
      FieldsDo Does StrDoes PieceDoes LinkDoes CaseArmDoes SetDoes ArmDoes
      co_fields co_stmt co_str co_piece co_link co_case_arm co_set co_arm x)

  stmt_obeys : (y : o.Stmt-F YF YS YT YP YL YC YA YM) → Obeys (co_layer (base_stmt y))
  stmt_obeys o.Skip f hf = commands.skip
  stmt_obeys (o.Set at sets) f hf = calls.assignments at _ (sets_obey f hf sets)
  stmt_obeys (o.Call at fields) f hf =
      calls.utility at (are_static (map co_fields (map (λ y. y.0) fields))) _ (words_obey f hf fields)
  stmt_obeys (o.Fun at name fields) f hf =
      calls.function at (found name f) _ (hf name) (words_obey f hf fields)
  stmt_obeys (o.Seq parts) f hf = commands.list _ (each_obeys f hf co_stmt parts)
  stmt_obeys (o.Chain first rest) f hf = commands.chain _ _ (first.1 f hf) (links_obey f hf rest)
  stmt_obeys (o.Not body) f hf = commands.negation _ (body.1 f hf)
  stmt_obeys (o.If arms last) f hf = commands.conditional _ _ (arms_obey f hf arms) (last.1 f hf)
  stmt_obeys (o.For at name fields body) f hf =
      loops.for_loop at name _ _ (words_obey f hf fields) (body.1 f hf)
  stmt_obeys (o.While at cond body) f hf = loops.while_loop at _ _ (cond.1 f hf) (body.1 f hf)
  stmt_obeys (o.Case at subject arms) f hf = loops.cases at _ _ (subject.1 f hf) (case_arms_obey f hf arms)
  stmt_obeys (o.Sub at body) f hf = commands.subshell at _ (body.1 f hf)
  stmt_obeys (o.Quiet body) f hf = commands.quiet _ (body.1 f hf)
  stmt_obeys (o.Err at body) f hf = commands.error_joined at _ (body.1 f hf)
  stmt_obeys o.Strict f hf = commands.strict
  stmt_obeys o.Lax f hf = commands.lax
  stmt_obeys (o.Exit at fields) f hf = calls.exits at _ (words_obey f hf fields)
  stmt_obeys (o.Return at fields) f hf = calls.returns at _ (words_obey f hf fields)
  stmt_obeys o.Break f hf = loops.breaks
  stmt_obeys o.Continue f hf = loops.continues
  stmt_obeys (o.Export at fields) f hf = calls.exports at _ (words_obey f hf fields)
  stmt_obeys (o.Unset at fields) f hf = calls.unsets at _ (words_obey f hf fields)
  stmt_obeys (o.Stop at reason) f hf = commands.stop at reason

  stmt_from : (x : o.Stmt-F Fields Stmt Str StrPiece ChainPart PatArm SetTo StmtArm) → Obeys (co_layer x)
      → PS (roll-Stmt x)
  stmt_from x h f hf =
      subst (λ (d : Does). Has _ (d f))
      (sym (fold-roll-Stmt FieldsDo Does StrDoes PieceDoes LinkDoes CaseArmDoes SetDoes ArmDoes
      fields_layer stmt_layer str_layer piece_layer link_layer case_arm_layer set_layer arm_layer x)) (h f hf)

  -- the same of the other types of the syntax
  abbrev str_of : o.Str-F Fields Stmt Str StrPiece ChainPart PatArm SetTo StmtArm → StrDoes
  str_of x = str_layer (map-Str Fields Stmt Str StrPiece ChainPart PatArm SetTo StmtArm
      FieldsDo Does StrDoes PieceDoes LinkDoes CaseArmDoes SetDoes ArmDoes
      co_fields co_stmt co_str co_piece co_link co_case_arm co_set co_arm x)

  abbrev base_str : o.Str-F YF YS YT YP YL YC YA YM → o.Str-F Fields Stmt Str StrPiece ChainPart PatArm SetTo StmtArm
  base_str y =
      map-Str YF YS YT YP YL YC YA YM Fields Stmt Str StrPiece ChainPart PatArm SetTo StmtArm
      (λ y. y.0) (λ y. y.0) (λ y. y.0) (λ y. y.0) (λ y. y.0) (λ y. y.0) (λ y. y.0) (λ y. y.0) y

  str_obeys : (y : o.Str-F YF YS YT YP YL YC YA YM) → Obeys (str_of (base_str y)).value
  str_obeys (o.Lit bytes) f hf = expansions.literal bytes
  str_obeys (o.Var name) f hf = expansions.variable name
  str_obeys (o.Arg number) f hf = expansions.argument number
  str_obeys o.Count f hf = expansions.count
  str_obeys (o.Or first other) f hf = expansions.default _ other (first.1 f hf)
  str_obeys (o.Output body) f hf = expansions.output _ (body.1 f hf)
  str_obeys (o.Join parts) f hf = expansions.join _ (strings_obey f hf parts)

  str_from : (x : o.Str-F Fields Stmt Str StrPiece ChainPart PatArm SetTo StmtArm) → Obeys (str_of x).value
      → PT (roll-Str x)
  str_from x h f hf =
      subst (λ (d : StrDoes). Has _ (d.value f))
      (sym (fold-roll-Str FieldsDo Does StrDoes PieceDoes LinkDoes CaseArmDoes SetDoes ArmDoes
      fields_layer stmt_layer str_layer piece_layer link_layer case_arm_layer set_layer arm_layer x)) (h f hf)

  abbrev piece_of : o.StrPiece-F Fields Stmt Str StrPiece ChainPart PatArm SetTo StmtArm → PieceDoes
  piece_of x = piece_layer (map-StrPiece Fields Stmt Str StrPiece ChainPart PatArm SetTo StmtArm
      FieldsDo Does StrDoes PieceDoes LinkDoes CaseArmDoes SetDoes ArmDoes
      co_fields co_stmt co_str co_piece co_link co_case_arm co_set co_arm x)

  abbrev base_piece : o.StrPiece-F YF YS YT YP YL YC YA YM
      → o.StrPiece-F Fields Stmt Str StrPiece ChainPart PatArm SetTo StmtArm
  base_piece y =
      map-StrPiece YF YS YT YP YL YC YA YM Fields Stmt Str StrPiece ChainPart PatArm SetTo StmtArm
      (λ y. y.0) (λ y. y.0) (λ y. y.0) (λ y. y.0) (λ y. y.0) (λ y. y.0) (λ y. y.0) (λ y. y.0) y

  piece_obeys : (y : o.StrPiece-F YF YS YT YP YL YC YA YM) → Obeys (piece_of (base_piece y)).piece
  piece_obeys (o.Plain string) f hf = expansions.plain _ (string.1 f hf)
  piece_obeys (o.Quoted string) f hf = expansions.quoted _ (string.1 f hf)
  piece_obeys (o.Split string) f hf = expansions.split _ (string.1 f hf)

  piece_from : (x : o.StrPiece-F Fields Stmt Str StrPiece ChainPart PatArm SetTo StmtArm) → Obeys (piece_of x).piece
      → PP (roll-StrPiece x)
  piece_from x h f hf =
      subst (λ (d : PieceDoes). Has _ (d.piece f))
      (sym (fold-roll-StrPiece FieldsDo Does StrDoes PieceDoes LinkDoes CaseArmDoes SetDoes ArmDoes
      fields_layer stmt_layer str_layer piece_layer link_layer case_arm_layer set_layer arm_layer x)) (h f hf)

  abbrev fields_from_parts : o.Fields-F Fields Stmt Str StrPiece ChainPart PatArm SetTo StmtArm → FieldsDo
  fields_from_parts x = fields_layer (map-Fields Fields Stmt Str StrPiece ChainPart PatArm SetTo StmtArm
      FieldsDo Does StrDoes PieceDoes LinkDoes CaseArmDoes SetDoes ArmDoes
      co_fields co_stmt co_str co_piece co_link co_case_arm co_set co_arm x)

  abbrev base_fields : o.Fields-F YF YS YT YP YL YC YA YM
      → o.Fields-F Fields Stmt Str StrPiece ChainPart PatArm SetTo StmtArm
  base_fields y =
      map-Fields YF YS YT YP YL YC YA YM Fields Stmt Str StrPiece ChainPart PatArm SetTo StmtArm
      (λ y. y.0) (λ y. y.0) (λ y. y.0) (λ y. y.0) (λ y. y.0) (λ y. y.0) (λ y. y.0) (λ y. y.0) y

  fields_obey : (y : o.Fields-F YF YS YT YP YL YC YA YM) → Obeys (fields_from_parts (base_fields y)).fields
  fields_obey (o.Word pieces) f hf = expansions.fields _ (pieces_obey f hf pieces)
  fields_obey o.Args f hf = expansions.arguments

  fields_from : (x : o.Fields-F Fields Stmt Str StrPiece ChainPart PatArm SetTo StmtArm)
      → Obeys (fields_from_parts x).fields → PF (roll-Fields x)
  fields_from x h f hf =
      subst (λ (d : FieldsDo). Has _ (d.fields f))
      (sym (fold-roll-Fields FieldsDo Does StrDoes PieceDoes LinkDoes CaseArmDoes SetDoes ArmDoes
      fields_layer stmt_layer str_layer piece_layer link_layer case_arm_layer set_layer arm_layer x)) (h f hf)

  -- ---- the induction

  -- so has what a statement does
  pub stmt_has : (q : Stmt) → Obeys (co_stmt q)
  stmt_has =
      ind-Stmt PF PS PT PP PL PC PA PM
      (λ x y is. subst (λ x. PF (roll-Fields x)) is (fields_from (base_fields y) (fields_obey y)))
      (λ x y is. subst (λ x. PS (roll-Stmt x)) is (stmt_from (base_stmt y) (stmt_obeys y)))
      (λ x y is. subst (λ x. PT (roll-Str x)) is (str_from (base_str y) (str_obeys y)))
      (λ x y is. subst (λ x. PP (roll-StrPiece x)) is (piece_from (base_piece y) (piece_obeys y)))
      (λ x y is. subst (λ x. PL (roll-ChainPart x)) is (λ f hf.
      subst (λ (d : LinkDoes). Has _ (d f).1)
      (sym (fold-roll-ChainPart FieldsDo Does StrDoes PieceDoes LinkDoes CaseArmDoes SetDoes ArmDoes
      fields_layer stmt_layer str_layer piece_layer link_layer case_arm_layer set_layer arm_layer _))
      (y.stmt.1 f hf)))
      (λ x y is. subst (λ x. PC (roll-PatArm x)) is (λ f hf.
      subst (λ (d : CaseArmDoes). EachPattern Has (d f).0 × Has _ (d f).1)
      (sym (fold-roll-PatArm FieldsDo Does StrDoes PieceDoes LinkDoes CaseArmDoes SetDoes ArmDoes
      fields_layer stmt_layer str_layer piece_layer link_layer case_arm_layer set_layer arm_layer _))
      (patterns_obey f hf y.patterns, y.body.1 f hf)))
      (λ x y is. subst (λ x. PA (roll-SetTo x)) is (λ f hf.
      subst (λ (d : SetDoes). Has _ (d f).1)
      (sym (fold-roll-SetTo FieldsDo Does StrDoes PieceDoes LinkDoes CaseArmDoes SetDoes ArmDoes
      fields_layer stmt_layer str_layer piece_layer link_layer case_arm_layer set_layer arm_layer _))
      (y.value.1 f hf)))
      (λ x y is. subst (λ x. PM (roll-StmtArm x)) is (λ f hf.
      subst (λ (d : ArmDoes). Has _ (d f).0 × Has _ (d f).1)
      (sym (fold-roll-StmtArm FieldsDo Does StrDoes PieceDoes LinkDoes CaseArmDoes SetDoes ArmDoes
      fields_layer stmt_layer str_layer piece_layer link_layer case_arm_layer set_layer arm_layer _))
      (y.cond.1 f hf, y.body.1 f hf)))

  -- ---- programs

  pub none_have : EachFun Has []
  none_have name body e = absurd (cc e)

  one_more : (test : Bool) (d a : Action) (rest : Option Action) → Has _ d
      → (rest ≡ Some a → Has _ a) → (if test then Some d else rest) ≡ Some a → Has _ a
  one_more true d a rest hd hr e = let same : d ≡ a = cc e in subst (λ (x : Action). Has _ x) same hd
  one_more false d a rest hd hr e = hr e

  -- functions behind others
  pub funs_have : (defs : List Def) (f : Funs) → EachFun Has f → EachFun Has (funs_of defs f)
  funs_have [] f h = h
  funs_have (def ∷ defs) f h =
      funs_have defs ((def.name, co_stmt def.body f) ∷ f) (λ name body e.
      one_more (bytes_eq def.name name) (co_stmt def.body f) body (found name f) (stmt_has def.body f h) (h name body)
      e)

  -- the body of a program
  pub program_has : (defs : List Def) (body : Stmt) → Has _ (co_stmt body (funs_of defs []))
  program_has defs body = stmt_has body (funs_of defs []) (funs_have defs [] none_have)
