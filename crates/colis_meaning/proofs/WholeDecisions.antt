-- A whole run is a decision where its body is.
use Rattle.std.proofs.Common.{◌≡◌, true, ℕ, List, [], refl, sym, ap, ◌∙◌}
use Rattle.script_names.specs.declared.mark.Mark.{Mark}
use Rattle.feature_trees.specs.declared.value.Value.{Value}
use Rattle.utility_calls.specs.declared.acts.Act.{Act}
use Rattle.utility_calls.specs.Decisions.{Decided, Played, play}
use Rattle.shell_rules.specs.declared.state.Conc.{Conc}
use Rattle.shell_rules.specs.declared.run.End.{End}
use Rattle.shell_rules.specs.declared.run.End.TheVariants as end
use Rattle.shell_rules.specs.declared.leave.Leave.{Leave}
use Rattle.shell_rules.specs.declared.leave.Leave.TheVariants as leave
use Rattle.shell_rules.specs.Whole.{ended_by, place_in}
use Rattle.colis_syntax.specs.declared.syntax.Stmt.{Stmt}
use Rattle.colis_syntax.specs.declared.def.Def.{Def}
use Rattle.colis_syntax.specs.WellFormed.{ProgramParts}
use Rattle.colis_meaning.specs.Meaning.{co_stmt, funs_of, names_of}
use Rattle.colis_meaning.proofs.Obeying.{program_has}
use Rattle.colis_meaning.specs.Decided.{ended_of, IsDecided}
use Rattle.colis_meaning.proofs.Playing.{Came, On, Off, came, IsDecision, bind, bind_plays, bind_performed}
use Rattle.colis_meaning.proofs.DecidedRules.{Decisiveness, expansions_decided, commands_decided, loops_decided}
use Rattle.colis_meaning.proofs.DecidedRules.{calls_decided}

-- the end that a way to leave comes to
abbrev end_came : Leave → Conc → End
end_came leave.Broke c = end.Status c.status
end_came leave.Continued c = end.Status c.status
end_came leave.Returned c = end.Status c.status
end_came leave.Exited c = end.Status c.status
end_came (leave.Stopped reason site) c = end.Stopped reason site
end_came (leave.Bound site) c = end.Bound site

abbrev whole_came : Came (Unit {0}) → End × Conc
whole_came (On _ c b) = (end.Status c.status, c)
whole_came (Off how c b) = (end_came how c, c)

ended_is : (v : Came (Unit {0})) (tree : Value) (trace : List Mark) (acts : List Act)
    → ended_by (came v tree trace acts) ≡ ended_of (play (Decided (whole_came v)) tree trace acts)
ended_is (On _ c b) tree trace acts = refl
ended_is (Off leave.Broke c b) tree trace acts = refl
ended_is (Off leave.Continued c b) tree trace acts = refl
ended_is (Off leave.Returned c b) tree trace acts = refl
ended_is (Off leave.Exited c b) tree trace acts = refl
ended_is (Off (leave.Stopped reason site) c b) tree trace acts = refl
ended_is (Off (leave.Bound site) c b) tree trace acts = refl

-- the body of a program
program_decided : (defs : List Def) (body : Stmt) → IsDecision (co_stmt body (funs_of defs []))
program_decided = program_has Decisiveness expansions_decided commands_decided loops_decided calls_decided

pub runs_decided : (program : ProgramParts) (step : ℕ) (conc : Conc) → IsDecided program step conc
runs_decided program step conc =
    let d = program_decided program.defs program.body (place_in step (names_of program.defs)) conc true in
    record {
      decision = bind d.decision (λ v. Decided (whole_came v));
      performed = bind_performed d.decision (λ v. Decided (whole_came v)) d.performed (λ v. tt);
      played = λ tree trace.
          let p : Played (Came (Unit {0})) = play d.decision tree trace [] in
          ap ended_by (d.plays tree trace []) ∙ ended_is p.value p.tree p.trace p.acts
          ∙ ap ended_of (sym (bind_plays d.decision (λ v. Decided (whole_came v)) tree trace []));
    }
