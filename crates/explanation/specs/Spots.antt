-- Where in a scenario a site is, for people: in a script, by line and column, with what is written there; or among the
-- acts of a step on files.
use Rattle.std.specs.Prelude.{ℕ, List, [], ◌++◌, replicate, codes, Option, Some, None}
use Rattle.std.specs.Fmt.{decimal}
use Rattle.script_names.specs.Ascii.{space}
use Rattle.script_names.specs.declared.mark.Site.{Site}
use Rattle.shown_texts.specs.Lines.{line}
use Rattle.shown_texts.specs.Show.{show}
use Rattle.dpkg_scenarios.specs.declared.scenario.Scenario.{Scenario}
use Rattle.dpkg_scenarios.specs.declared.scenario.ScriptKind.{ScriptKind}
use Rattle.dpkg_scenarios.specs.declared.scenario.Side.{Side}
use Rattle.dpkg_scenarios.specs.declared.scenario.Side.TheVariants.{New}
use Rattle.dpkg_scenarios.specs.declared.scenario.StepWork.{StepWork}
use Rattle.dpkg_scenarios.specs.declared.scenario.StepWork.TheVariants.{Script}
use Rattle.dpkg_scenarios.specs.Steps.{work_of}
use Rattle.checker_input.specs.declared.sources.Sources.{Sources}
use Rattle.script_places.specs.Positions.{position_of}
use Rattle.script_places.specs.SourceLines.{source_line}
use Rattle.script_places.specs.StepWords.{work_words}
use Rattle.explanation.specs.declared.spots.Spot.{Spot}
use Rattle.explanation.specs.declared.spots.Spot.TheVariants.{InScript, InFiles, Nowhere}
use Rattle.explanation.specs.Scripts.{folder_of, script_file, script_text}

-- the place in what is done in a step
abbrev pub spot_at : StepWork → ℕ → Spot
spot_at (Script side script) at = InScript side script at
spot_at work at = InFiles work at

-- the place in a step, where there is one
abbrev pub spot_by : Option StepWork → ℕ → Spot
spot_by None at = Nowhere
spot_by (Some work) at = spot_at work at

-- where a site is in a scenario
abbrev pub spot_of : Scenario → Option Site → Spot
spot_of scenario None = Nowhere
spot_of scenario (Some site) = spot_by (work_of scenario site.step) site.at

-- file, line and column of a byte of a script
unfoldable pub file_text : Sources → Side → ScriptKind → ℕ → List ℕ
file_text sources side script at =
    let place = position_of (script_text sources side script) at in
    script_file sources side script ++ codes ":" ++ decimal place.line ++ codes ":" ++ decimal place.column

-- where it is
abbrev pub spot_text : Sources → Spot → List ℕ
spot_text sources (InScript side script at) = file_text sources side script at
spot_text sources (InFiles work at) =
    show (folder_of sources New) ++ codes ": " ++ work_words work ++ codes ", act " ++ decimal at
spot_text sources Nowhere = show (folder_of sources New)

-- a line of a script, and below it a line that marks the command which begins at a byte
unfoldable pub source_text : List ℕ → ℕ → List ℕ
source_text script at =
    let source = source_line script at in
    line (codes "    " ++ source.text)
    ++ line (codes "    " ++ replicate source.before space ++ replicate source.marked 94)

-- what is written there in a script
abbrev pub written_text : Sources → Spot → List ℕ
written_text sources (InScript side script at) = source_text (script_text sources side script) at
written_text sources (InFiles work at) = []
written_text sources Nowhere = []
