-- A written run that is not bound is the same run with more turns.
use Rattle.std.proofs.Common.{◌≡◌, ◌⊎◌, inl, inr, ℕ, Bool, false, List, Option, Some, None, sym, ◌∙◌, subst}
use Rattle.std.specs.Prelude.{IsTrue, option_map}
use Rattle.script_names.specs.declared.mark.Mark.{Mark}
use Rattle.feature_trees.specs.declared.value.Value.{Value}
use Rattle.shell_rules.specs.declared.state.Conc.{Conc}
use Rattle.shell_rules.specs.Whole.{Ended}
use Rattle.shell_syntax.specs.declared.script.Script.{Script}
use Rattle.colis_meaning.specs.Meaning.{co_program}
use Rattle.colis_meaning.specs.Laws as programs
use Rattle.shell_to_colis.specs.Shell.{sh_script}
use Rattle.shell_to_colis.specs.Translated.{program_of}
use Rattle.shell_to_colis.specs.Laws.{ProgramsDoTheSame}
use Rattle.dpkg_scenarios.specs.Scripts.{script_of}
use Rattle.scenario_runs.specs.Runs.{Meaning}
use Rattle.scenario_runs.specs.Laws.{is_bound, IsSameWithMore, MoreTurnsOfPlans}
use Rattle.package_jobs.specs.Written.{side_of, script_meaning, written_plan}
use Rattle.package_jobs.specs.Laws.{MoreTurnsSameRun}

-- what a script does, and what else does the same
carried : (strict : Bool) (f g : ℕ → Conc → Value → List Mark → Ended)
    → ((step : ℕ) (conc : Conc) (tree : Value) (trace : List Mark) → g step conc tree trace ≡ f step conc tree trace)
    → IsSameWithMore (record { strict = strict; ends = f }) → IsSameWithMore (record { strict = strict; ends = g })
carried strict f g same law =
    let e : f ≡ g = λ i step conc tree trace. sym (same step conc tree trace) i in
    let P : (ℕ → Conc → Value → List Mark → Ended) → Type 0 = λ h. IsSameWithMore (record { strict = strict; ends = h }) in
    subst P e law

script_same : programs.MoreTurnsSameRun → ProgramsDoTheSame → (script : Script) → IsSameWithMore (script_meaning script)
script_same law does script =
    carried script.strict (co_program (program_of script)) (sh_script script) (does script)
    (λ n step conc tree trace. law n (program_of script) step conc tree trace)

scripts_same : (means : Script → Meaning) → ((script : Script) → IsSameWithMore (means script)) → (o : Option Script) (meaning : Meaning)
    → option_map means o ≡ Some meaning → IsSameWithMore meaning
scripts_same means each None meaning e = absurd (cc e)
scripts_same means each (Some script) meaning e = subst IsSameWithMore (same_meaning (means script) meaning e) (each script)
  where
    same_meaning : (a b : Meaning) → Some a ≡ Some b → a ≡ b
    same_meaning a b e = cc

not_bound : {A : Type 0} → (b : Bool) → IsTrue b ⊎ A → b ≡ false → A
not_bound b (inl t) e = absurd (cc (sym t ∙ e))
not_bound b (inr a) e = a

pub written_same : programs.MoreTurnsSameRun → ProgramsDoTheSame → MoreTurnsOfPlans → MoreTurnsSameRun
written_same law does plans scenario packages turns more tree run is_run free =
    not_bound (is_bound run.ending)
    (plans (written_plan scenario packages turns)
    (λ side script. scripts_same script_meaning (script_same law does) (script_of script (side_of packages side).scripts))
    more tree run is_run)
    free
