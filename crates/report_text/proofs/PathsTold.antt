-- What is told of the paths so far, and of all of them.
use Rattle.std.proofs.Common.{◌≡◌, ℕ, suc, ◌+◌, Bool, false, List, [], ◌∷◌, ◌++◌, map, length, Option, refl, sym, ap, ◌∙◌, subst, arith, append_assoc, append-nil, length-append}
use Rattle.std.specs.Prelude.{◌||◌, ◌==◌}
use Rattle.std.specs.List.{flat_map, list_any}
use Rattle.std.proofs.Math.Bool.{or-false}
use Rattle.std.proofs.lemmas.List.Concat.{flat_map-append}
use Rattle.std.proofs.lemmas.List.Elements.{filter_map-append}
use Rattle.std.proofs.lemmas.List.Folds.{list_any-append}
use Rattle.feature_trees.specs.declared.value.Value.{Value}
use Rattle.case_paths.specs.Paths.{AllAlive, states}
use Rattle.clause_solver.specs.Stands.{Alive}
use Rattle.dpkg_scenarios.specs.declared.scenario.Scenario.{Scenario}
use Rattle.scenario_runs.specs.declared.replayed.Replayed.{Replayed}
use Rattle.scenario_outcomes.specs.OutcomeOf.{Path, IsOutcomeOf, AreOutcomes, ArePaths}
use Rattle.outcome_report.specs.declared.outcome_report.ReportEntry.{ReportEntry}
use Rattle.report_text.specs.declared.places.EndPlace.{EndPlace}
use Rattle.report_text.specs.declared.told_part.Telling.{Telling}
use Rattle.report_text.specs.declared.told_part.Telling.TheVariants.{Wholly, Briefly}
use Rattle.report_text.specs.declared.told_part.ToldPart.{ToldPart}
use Rattle.report_text.specs.Counting.{as_list}
use Rattle.outcome_report.specs.OutcomeReport.{AllEntries}
use Rattle.dpkg_scenarios.specs.Verdicts.{ending_verdict}
use Rattle.report_text.specs.BriefText.{brief_part}
use Rattle.report_text.specs.Places.{entry_place, end_places}
use Rattle.report_text.specs.ReportText.{heading, scenario_line, part_text}
use Rattle.report_text.specs.Telling.{PathReplays, PathsReplay, entry_lines, end_lines, AddsPath, TellsPaths}
use Rattle.report_text.specs.Told.{part_lines, IsTold}
use Rattle.report_text.specs.Whole.{IsRepresentableEntry, AllRepresentable}
use Rattle.report_text.proofs.Counted.{one_place}
use Rattle.outcome_report.proofs.Entries.{entries_more}
use Rattle.outcome_report.proofs.PartOf.{outcome_of}

-- ---- one more entry

outcomes_more : (first place : ℕ) (paths : List Path) (entries : List ReportEntry) (path : Path) (entry : ReportEntry)
    → AreOutcomes first paths (map outcome_of entries) → place ≡ first + length paths → IsOutcomeOf place path entry.outcome
    → AreOutcomes first (paths ++ path ∷ []) (map outcome_of (entries ++ entry ∷ []))
outcomes_more first place [] [] path entry all e one =
    let Q : ℕ → Type 0 = λ n. IsOutcomeOf n path entry.outcome in (subst Q (omega (arith, e)) one, tt)
outcomes_more first place [] (x ∷ entries) path entry all e one = absurd all
outcomes_more first place (p ∷ paths) [] path entry all e one = absurd all
outcomes_more first place (p ∷ paths) (x ∷ entries) path entry all e one =
    (all.0, outcomes_more (suc first) place paths entries path entry all.1 (omega (arith, e)) one)

representable_more : (entries : List ReportEntry) (entry : ReportEntry) → AllRepresentable entries → IsRepresentableEntry entry
    → AllRepresentable (entries ++ entry ∷ [])
representable_more [] entry all one = (one, tt)
representable_more (x ∷ entries) entry all one = (all.0, representable_more entries entry all.1 one)

text_more : (lines : ReportEntry → List ℕ) (begun old new : List ℕ) (entries : List ReportEntry) (entry : ReportEntry)
    → new ≡ old ++ lines entry → old ≡ begun ++ flat_map lines entries
    → new ≡ begun ++ flat_map lines (entries ++ entry ∷ [])
text_more lines begun old new entries entry e so_far =
    e ∙ ap (λ t. t ++ lines entry) so_far ∙ append_assoc begun (flat_map lines entries) (lines entry)
    ∙ ap (λ t. begun ++ (flat_map lines entries ++ t)) (sym (append-nil (lines entry)))
    ∙ ap (λ t. begun ++ t) (sym (flat_map-append lines entries (entry ∷ [])))

places_more : (old new : List EndPlace) (entries : List ReportEntry) (entry : ReportEntry) → new ≡ old ++ as_list (entry_place entry)
    → old ≡ end_places entries → new ≡ end_places (entries ++ entry ∷ [])
places_more old new entries entry e so_far =
    e ∙ ap (λ l. l ++ as_list (entry_place entry)) so_far
    ∙ ap (λ l. end_places entries ++ l) (sym (one_place entry_place entry))
    ∙ sym (filter_map-append entry_place entries (entry ∷ []))

-- whether the outcome of an entry makes this of the verdict
abbrev ends_so : ℕ → ReportEntry → Bool
ends_so verdict entry = ending_verdict entry.outcome.ending == verdict

any_more : (verdict : ℕ) (old new : Bool) (entries : List ReportEntry) (entry : ReportEntry) → new ≡ (old || ends_so verdict entry)
    → old ≡ list_any (ends_so verdict) entries → new ≡ list_any (ends_so verdict) (entries ++ entry ∷ [])
any_more verdict old new entries entry e so_far =
    e ∙ ap (λ b. b || ends_so verdict entry) so_far
    ∙ ap (λ b. list_any (ends_so verdict) entries || b) (sym (or-false (ends_so verdict entry)))
    ∙ sym (list_any-append (ends_so verdict) entries (entry ∷ []))

-- ---- the paths so far

-- what is told of the paths that were passed, behind the lines that were there before, and what is known of those left
pub record ToldSoFar (telling : Telling) (run : Value → Option Replayed) (all passed left : List Path) (begun : List ℕ)
    (number : ℕ) (told : ToldPart) (places : List EndPlace) : Type 0 where
  pub joined : passed ++ left ≡ all
  pub counted : number ≡ length passed
  pub alive : AllAlive (states left)
  pub replays : PathsReplay run number left
  pub entries : List ReportEntry
  pub outcomes : AreOutcomes 0 passed (map outcome_of entries)
  pub are : AllEntries run entries
  pub representable : AllRepresentable entries
  pub text : told.text ≡ begun ++ flat_map (entry_lines telling) entries
  pub places_are : places ≡ end_places entries
  pub failed : told.failed ≡ list_any (ends_so 1) entries
  pub unfinished : told.unfinished ≡ list_any (ends_so 2) entries

pub told_first : (telling : Telling) (run : Value → Option Replayed) (all left : List Path) (begun : List ℕ)
    (told : ToldPart) (places : List EndPlace) → left ≡ all → AllAlive (states all) → PathsReplay run 0 all → told.text ≡ begun → told.failed ≡ false
    → told.unfinished ≡ false → places ≡ [] → ToldSoFar telling run all [] left begun 0 told places
told_first telling run all left begun told places same alive replays text failed unfinished none =
    let P : List Path → Type 0 = λ xs. ToldSoFar telling run all [] xs begun 0 told places in
    let there : P all = record {
      joined = refl;
      counted = refl;
      alive = alive;
      replays = replays;
      entries = [];
      outcomes = tt;
      are = tt;
      representable = tt;
      text = text ∙ sym (append-nil begun);
      places_are = none;
      failed = failed;
      unfinished = unfinished;
    } in
    subst P (sym same) there

-- what has to be known of the next path
pub record Next (run : Value → Option Replayed) (all passed left : List Path) (number : ℕ) (path : Path) : Type 0 where
  pub joined : passed ++ path ∷ left ≡ all
  pub counted : number ≡ length passed
  pub alive : Alive path.state.store
  pub replays : PathReplays run number path

module _ (telling : Telling) (run : Value → Option Replayed) (all passed before left : List Path) (path : Path)
    (begun : List ℕ) (number : ℕ) (next : before ≡ path ∷ left) where
  pub next_of : (told : ToldPart) (places : List EndPlace) → ToldSoFar telling run all passed before begun number told places
      → Next run all passed left number path
  next_of told places so_far =
      let A : List Path → Type 0 = λ xs. AllAlive (states xs) in
      record {
        joined = ap (λ (xs : List Path). passed ++ xs) (sym next) ∙ so_far.joined;
        counted = so_far.counted;
        alive = (subst A next so_far.alive).0;
        replays = (subst (PathsReplay run number) next so_far.replays).0;
      }

  pub told_more : (old new : ToldPart) (places more : List EndPlace) → AddsPath telling run number path old new places more
      → ToldSoFar telling run all passed before begun number old places
      → ToldSoFar telling run all (passed ++ path ∷ []) left begun (number + 1) new more
  told_more old new places more adds so_far =
      let A : List Path → Type 0 = λ xs. AllAlive (states xs) in
      let R : ℕ → Type 0 = λ n. PathsReplay run n left in
      record {
        joined = append_assoc passed (path ∷ []) left ∙ ap (λ (xs : List Path). passed ++ xs) (sym next) ∙ so_far.joined;
        counted = omega (arith, so_far.counted, length-append passed (path ∷ []));
        alive = (subst A next so_far.alive).1;
        replays = subst R (omega arith) (subst (PathsReplay run number) next so_far.replays).1;
        entries = so_far.entries ++ adds.entry ∷ [];
        outcomes = outcomes_more 0 number passed so_far.entries path adds.entry so_far.outcomes (omega (arith, so_far.counted)) adds.outcome;
        are = entries_more run so_far.entries adds.entry so_far.are adds.is;
        representable = representable_more so_far.entries adds.entry so_far.representable adds.adds.representable;
        text = text_more (entry_lines telling) begun old.text new.text so_far.entries adds.entry adds.adds.text so_far.text;
        places_are = places_more places more so_far.entries adds.entry adds.adds.places_are so_far.places_are;
        failed = any_more 1 old.failed new.failed so_far.entries adds.entry adds.adds.failed so_far.failed;
        unfinished = any_more 2 old.unfinished new.unfinished so_far.entries adds.entry adds.adds.unfinished so_far.unfinished;
      }

-- ---- all paths

as_many : (first : ℕ) (paths : List Path) (entries : List ReportEntry) → AreOutcomes first paths (map outcome_of entries)
    → length paths ≡ length entries
as_many first [] [] all = refl
as_many first [] (x ∷ entries) all = absurd all
as_many first (p ∷ paths) [] all = absurd all
as_many first (p ∷ paths) (x ∷ entries) all = ap suc (as_many (suc first) paths entries all.1)

empty : (paths : List Path) → length paths ≡ 0 → paths ≡ []
empty [] none = refl
empty (p ∷ paths) none = absurd (omega (arith, none))

-- the lines of a part
part_so : (telling : Telling) (scenario : Scenario) (entries : List ReportEntry) (begun old new : List ℕ) (places : List EndPlace)
    → begun ≡ heading scenario (length entries) → old ≡ begun ++ flat_map (entry_lines telling) entries
    → places ≡ end_places entries → new ≡ old ++ end_lines telling places
    → new ≡ part_lines telling (record { scenario = scenario; entries = entries })
unfolding part_text brief_part scenario_line
part_so Wholly scenario entries begun old new places b o p n =
    let outcomes = flat_map (entry_lines Wholly) entries in
    let ends = end_lines Wholly (end_places entries) in
    n ∙ ap (λ (ps : List EndPlace). old ++ end_lines Wholly ps) p
    ∙ ap (λ (t : List ℕ). t ++ ends) (o ∙ ap (λ (t : List ℕ). t ++ outcomes) b)
part_so Briefly scenario entries begun old new places b o p n =
    n ∙ append-nil old ∙ o ∙ ap (λ (t : List ℕ). t ++ flat_map (entry_lines Briefly) entries) b

pub all_told : (telling : Telling) (run : Value → Option Replayed) (scenario : Scenario) (all passed left : List Path) (number : ℕ)
    (told last : ToldPart) (places : List EndPlace) → length left ≡ 0
    → last.text ≡ told.text ++ end_lines telling places → last.failed ≡ told.failed
    → last.unfinished ≡ told.unfinished
    → ToldSoFar telling run all passed left (heading scenario (length all)) number told places
    → TellsPaths telling run scenario all last
all_told telling run scenario all passed left number told last places none text failed unfinished so_far =
    let same : passed ≡ all =
    sym (append-nil passed) ∙ ap (λ (xs : List Path). passed ++ xs) (sym (empty left none)) ∙ so_far.joined in
    let P : List Path → Type 0 = λ xs. AreOutcomes 0 xs (map outcome_of so_far.entries) in
    let outcomes : P all = subst P same so_far.outcomes in
    let count : length all ≡ length so_far.entries = as_many 0 all so_far.entries outcomes in
    record {
      entries = so_far.entries;
      outcomes = outcomes;
      are = so_far.are;
      tells = record {
        representable = so_far.representable;
        text =
            part_so telling scenario so_far.entries (heading scenario (length all)) told.text last.text places
            (ap (heading scenario) count) so_far.text so_far.places_are text;
        failed = failed ∙ so_far.failed;
        unfinished = unfinished ∙ so_far.unfinished;
      };
    }

-- ---- the part

pub part_told : (telling : Telling) (run : Value → Option Replayed) (start : Value → Type 0) (limit : ℕ) (scenario : Scenario)
    (paths : List Path) (told : ToldPart) → ArePaths run start limit paths → TellsPaths telling run scenario paths told
    → IsTold telling run start limit scenario told
part_told telling run start limit scenario paths told are tells =
    let all = are.told (map outcome_of tells.entries) tells.outcomes in
    record {
      part = record { scenario = scenario; entries = tells.entries };
      of_scenario = refl;
      answers = (record { exact = all.0; entries = tells.are }, all.1, all.2);
      tells = tells.tells;
    }
