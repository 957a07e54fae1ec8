-- The program that is made of a script's functions and statements.
use Rattle.std.proofs.Common.{◌≡◌, IsTrue, List, [], Option, Some, None, sym, ap, ◌∙◌, subst}
use Rattle.shell_syntax.specs.declared.script.Script.{Script}
use Rattle.shell_forms.specs.First.{script_forms}
use Rattle.colis_syntax.specs.declared.def.Def.{Def}
use Rattle.colis_syntax.specs.declared.syntax.Stmt.{Stmt}
use Rattle.colis_syntax.specs.WellFormed.{ProgramParts, is_well_formed, program_of as checked}
use Rattle.shell_to_colis.specs.Laws.{DoesTheSame}
use Rattle.shell_to_colis.specs.Members.{members_of}
use Rattle.shell_to_colis.specs.Translated.{defs_to, body_statements, seq_to, program_of}
use Rattle.shell_to_colis.proofs.WellFormed.{are_parts, is_program}
use Rattle.shell_to_colis.proofs.SameScript.{script_same}

abbrev pub or_this : Option ProgramParts → ProgramParts → ProgramParts
or_this None d = d
or_this (Some x) d = x

module _ (script : Script) (defs : List Def) (stmts : List Stmt) (body : Stmt)
    (none : script_forms script.body ≡ []) (parts : ◌≡◌ {A = List Def × List Stmt} (defs, stmts) (defs_to (members_of script.body) [], body_statements (members_of script.body) []))
    (is : body ≡ seq_to stmts) where
  -- the functions and the body are well formed
  pub well_formed : IsTrue (is_well_formed defs body)
  well_formed =
      ap (is_well_formed defs) is ∙ ap (λ (p : List Def × List Stmt). is_well_formed p.0 (seq_to p.1)) parts ∙ are_parts script none

  module _ (program : ProgramParts) (new : Some program ≡ checked script.strict defs body) where
    made : Some program ≡ Some (program_of script)
    made =
        new ∙ ap (λ b. checked script.strict defs b) (is ∙ ap (λ (p : List Def × List Stmt). seq_to p.1) parts)
        ∙ ap (λ (p : List Def × List Stmt). checked script.strict p.0 (seq_to (body_statements (members_of script.body) []))) parts
        ∙ is_program script none

    -- the program is that of the script
    pub is_its_program : program ≡ program_of script
    is_its_program = ap (λ o. or_this o program) made

    -- it does the same as the script that was accepted
    pub same : (accepted : Script) → script ≡ accepted → DoesTheSame accepted program
    same accepted e = subst (DoesTheSame accepted) (sym (is_its_program ∙ ap program_of e)) (script_same accepted)
