-- Sections from what is answered of each scenario; and that their status follows from what is explained.
use Rattle.std.proofs.Common.{◌≡◌, ℕ, ◌≤◌, Bool, true, false, List, [], ◌∷◌, ◌++◌, map, Result, Ok, Err, refl, sym, ap, subst, ◌∙◌, arith}
use Rattle.std.specs.Prelude.{◌||◌, ◌==◌}
use Rattle.std.specs.List.{AllZip, list_any}
use Rattle.dpkg_scenarios.specs.declared.scenario.Scenario.{Scenario}
use Rattle.dpkg_scenarios.specs.Verdicts.{joint_verdict}
use Rattle.command_words.specs.declared.request.View.{View}
use Rattle.checker_input.specs.declared.package.Packages.{Packages}
use Rattle.checker_input.specs.declared.sources.Sources.{Sources}
use Rattle.scenario_runs.specs.declared.replayed.Replayed.{Replayed}
use Rattle.feature_trees.specs.declared.value.Value.{Value}
use Rattle.std.specs.Prelude.{Option, OnOk}
use Rattle.script_names.specs.declared.memory.Memory.{Memory}
use Rattle.outcome_report.specs.declared.outcome_report.ReportPart.{ReportPart}
use Rattle.outcome_report.specs.declared.outcome_report.Report.{Report}
use Rattle.outcome_report.specs.OutcomeReport.{part_has, verdict_of}
use Rattle.explanation.specs.Sections.{part_text}
use Rattle.explanation_pages.specs.Parts.{page_part}
use Rattle.package_jobs.specs.Written.{written_run}
use Rattle.checker_calls.specs.declared.faults.TaskFault.{TaskFault}
use Rattle.checker_calls.specs.declared.faults.TaskFault.TheVariants.{Refused, Memory as NoMemory}
use Rattle.checker_calls.specs.declared.written.Written.{Written}
use Rattle.checker_calls.specs.Accounts.{AccountGives}
use Rattle.checker_calls.specs.Reports.{IsPartOf}
use Rattle.checker_calls.specs.Explanations.{Section, section_verdict, some_verdict, sections_verdict, is_missing, part_shown, reported_text, sections_text, IsSection, IsExplanationOf}
use Rattle.checker_calls.proofs.OneReport.{verdicts_alike}
use Rattle.checker_calls.proofs.Refused.{can_or_refused}

or_parts : (a b : Bool) → (a || b) ≡ false → (a ≡ false) × (b ≡ false)
or_parts true b e = absurd (cc e)
or_parts false b e = (refl, e)

-- an account that is the part itself
abbrev itself : ReportPart → ReportPart → Type 0
itself part account = part ≡ account

module _ (packages : Packages) (sources : Sources) (turns : ℕ) (view : View) (limit : ℕ) where
  one_section : (scenario : Scenario) (answer : Section) → AccountGives itself packages turns limit scenario answer
      → is_missing answer ≡ false → IsSection packages sources turns view limit scenario answer
  one_section scenario (Ok part) is there = subst (IsPartOf packages turns limit scenario) is.tells is.is
  one_section scenario (Err (Refused refusal)) is there = is
  one_section scenario (Err NoMemory) is there = absurd (cc there)

  pub all_sections : (scenarios : List Scenario) (answers : List Section)
      → AllZip (AccountGives itself packages turns limit) scenarios answers → list_any is_missing answers ≡ false
      → AllZip (IsSection packages sources turns view limit) scenarios answers
  all_sections [] [] all there = tt
  all_sections [] (answer ∷ answers) all there = absurd all
  all_sections (scenario ∷ scenarios) [] all there = absurd all
  all_sections (scenario ∷ scenarios) (answer ∷ answers) all there =
      let parts = or_parts (is_missing answer) (list_any is_missing answers) there in
      (one_section scenario answer all.0 parts.0, all_sections scenarios answers all.1 parts.1)

  -- ---- the status

  small_joint : (a b : Bool) → joint_verdict a b ≤ 2
  small_joint true b = omega arith
  small_joint false true = omega arith
  small_joint false false = omega arith

  pub explained : (scenarios : List Scenario) (answers : List Section) (text : List ℕ) (status : ℕ)
      → AllZip (AccountGives itself packages turns limit) scenarios answers → list_any is_missing answers ≡ false
      → text ≡ sections_text packages sources turns view answers → status ≡ sections_verdict answers
      → IsExplanationOf packages sources turns view limit scenarios text status
  explained scenarios answers text status all there text_is status_is = record {
    sections = answers;
    are = all_sections scenarios answers all there;
    text_is = text_is;
    status_is = status_is;
    small = subst (λ n. n ≤ 2) (sym status_is) (small_joint (some_verdict 1 answers) (some_verdict 2 answers));
  }

  or_none : (b : Bool) → b ≡ (b || false)
  or_none true = refl
  or_none false = refl

  -- a part alone makes of the status what a report of it makes of its own
  alone : (part : ReportPart) → section_verdict (Ok part) ≡ verdict_of (record { parts = part ∷ [] })
  alone part = λ i. joint_verdict (or_none (part_has 1 part) i) (or_none (part_has 2 part) i)

  one_verdict : (scenario : Scenario) (one other : Section) → IsSection packages sources turns view limit scenario one
      → IsSection packages sources turns view limit scenario other → section_verdict one ≡ section_verdict other
  one_verdict scenario (Ok part) (Ok peer) x y =
      let a : Report = record { parts = part ∷ [] } in
      let b : Report = record { parts = peer ∷ [] } in
      alone part ∙ verdicts_alike packages turns limit limit (scenario ∷ []) a b (x, tt) (y, tt) ∙ sym (alone peer)
  one_verdict scenario (Ok part) (Err (Refused refusal)) x y =
      absurd (can_or_refused packages turns limit scenario refusal x.bounded y)
  one_verdict scenario (Ok part) (Err NoMemory) x y = absurd y
  one_verdict scenario (Err (Refused refusal)) (Ok peer) x y =
      absurd (can_or_refused packages turns limit scenario refusal y.bounded x)
  one_verdict scenario (Err NoMemory) (Ok peer) x y = absurd x
  one_verdict scenario (Err (Refused refusal)) (Err fault) x y = refl
  one_verdict scenario (Err NoMemory) (Err fault) x y = absurd x

  verdicts : (scenarios : List Scenario) (one other : List Section)
      → AllZip (IsSection packages sources turns view limit) scenarios one
      → AllZip (IsSection packages sources turns view limit) scenarios other
      → map section_verdict one ≡ map section_verdict other
  verdicts [] [] [] x y = refl
  verdicts [] [] (s ∷ other) x y = absurd y
  verdicts [] (s ∷ one) other x y = absurd x
  verdicts (scenario ∷ scenarios) [] other x y = absurd x
  verdicts (scenario ∷ scenarios) (s ∷ one) [] x y = absurd y
  verdicts (scenario ∷ scenarios) (s ∷ one) (t ∷ other) x y =
      let first = one_verdict scenario s t x.0 y.0 in
      let rest = verdicts scenarios one other x.1 y.1 in
      λ i. first i ∷ rest i

  some_is : (verdict : ℕ) (sections : List Section)
      → some_verdict verdict sections ≡ list_any (λ n. n == verdict) (map section_verdict sections)
  some_is verdict [] = refl
  some_is verdict (s ∷ sections) = ap (λ b. (section_verdict s == verdict) || b) (some_is verdict sections)

  some_same : (verdict : ℕ) (one other : List Section) → map section_verdict one ≡ map section_verdict other
      → some_verdict verdict one ≡ some_verdict verdict other
  some_same verdict one other e =
      some_is verdict one ∙ ap (list_any (λ n. n == verdict)) e ∙ sym (some_is verdict other)

  pub sections_same : (scenarios : List Scenario) (one other : List Section)
      → AllZip (IsSection packages sources turns view limit) scenarios one
      → AllZip (IsSection packages sources turns view limit) scenarios other
      → sections_verdict one ≡ sections_verdict other
  sections_same scenarios one other x y =
      let e = verdicts scenarios one other x y in
      let a = some_same 1 one other e in
      let b = some_same 2 one other e in
      λ i. joint_verdict (a i) (b i)

-- what is said of a part by the runs of its job is said of it by its runs as the packages are written
pub part_said : (packages : Packages) (sources : Sources) (turns : ℕ) (view : View) (part : ReportPart)
    (run : Value → Option Replayed) (old new : List ℕ) (result : Result (Unit {0}) Memory)
    → ((tree : Value) → run tree ≡ written_run part.scenario packages turns tree)
    → OnOk result (new ≡ old ++ part_text sources packages view run part)
    → OnOk result (new ≡ old ++ reported_text packages sources turns view part)
part_said packages sources turns view part run old new result same is =
    let runs : run ≡ written_run part.scenario packages turns = λ i tree. same tree i in
    subst (λ r. OnOk result (new ≡ old ++ part_text sources packages view r part)) runs is

-- the same of what a page says of it
pub part_is_shown : (packages : Packages) (sources : Sources) (turns : ℕ) (part : ReportPart)
    (run : Value → Option Replayed) (old new : List ℕ) (result : Result (Unit {0}) Memory)
    → ((tree : Value) → run tree ≡ written_run part.scenario packages turns tree)
    → OnOk result (new ≡ old ++ page_part sources turns run part)
    → OnOk result (new ≡ old ++ part_shown packages sources turns part)
part_is_shown packages sources turns part run old new result same is =
    let runs : run ≡ written_run part.scenario packages turns = λ i tree. same tree i in
    subst (λ r. OnOk result (new ≡ old ++ page_part sources turns r part)) runs is
