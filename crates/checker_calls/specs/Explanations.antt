-- What is said of packages to people: for each scenario that is chosen a section, on all ways in which it can end, or
-- on why that is not known; and under which premises.
use Rattle.std.specs.Prelude.{◌≡◌, ℕ, ◌≤◌, Bool, true, false, ◌==◌, List, [], ◌++◌, codes, Result, Ok, Err, if◌then◌else◌}
use Rattle.std.specs.List.{AllZip, flat_map, list_any}
use Rattle.dpkg_scenarios.specs.declared.scenario.Scenario.{Scenario}
use Rattle.dpkg_scenarios.specs.Verdicts.{joint_verdict}
use Rattle.command_words.specs.declared.request.View.{View}
use Rattle.command_words.specs.declared.request.View.TheVariants.{Text, Places, Html, Outcome}
use Rattle.checker_input.specs.declared.package.Packages.{Packages}
use Rattle.checker_input.specs.declared.sources.Sources.{Sources}
use Rattle.package_jobs.specs.Written.{written_run}
use Rattle.outcome_report.specs.declared.outcome_report.ReportPart.{ReportPart}
use Rattle.explanation.specs.Heads.{verdict_words}
use Rattle.explanation.specs.Sections.{part_verdict, part_text, no_start_text, over_text}
use Rattle.explanation.specs.Heads.{legend_text}
use Rattle.explanation.specs.Premises.{premises_text}
use Rattle.explanation_pages.specs.Details.{verdict_class}
use Rattle.explanation_pages.specs.Pages.{page_begin, item_html, items_end, page_end}
use Rattle.explanation_pages.specs.Parts.{page_part, page_no_start, page_over}
use Rattle.checker_calls.specs.declared.faults.Refusal.TheVariants.{NoStart, Limit, Kept}
use Rattle.checker_calls.specs.declared.faults.TaskFault.{TaskFault}
use Rattle.checker_calls.specs.declared.faults.TaskFault.TheVariants.{Refused, Memory}
use Rattle.checker_calls.specs.declared.written.Written.{Written}
use Rattle.checker_calls.specs.Reports.{IsPartOf, IsRefused}

-- the part of a report on a scenario, or why there is none
abbrev pub Section : Type 0
Section = Result ReportPart TaskFault

-- what a section makes of the status: 1 where some outcome failed, else 2 where some is undecided, or where there is no
-- part
abbrev pub section_verdict : Section → ℕ
section_verdict (Ok part) = part_verdict part
section_verdict (Err fault) = 2

-- some section has this verdict
abbrev pub some_verdict : ℕ → List Section → Bool
some_verdict verdict sections = list_any (λ section. section_verdict section == verdict) sections

-- the status: 1 where some outcome of some scenario failed, else 2 where some is undecided or a scenario has no part
abbrev pub sections_verdict : List Section → ℕ
sections_verdict sections = joint_verdict (some_verdict 1 sections) (some_verdict 2 sections)

-- want of memory, which is no section
abbrev pub is_missing : Section → Bool
is_missing (Ok part) = false
is_missing (Err (Refused refusal)) = false
is_missing (Err Memory) = true

-- a view is the whole text
abbrev pub is_whole : View → Bool
is_whole Text = true
is_whole Places = false
is_whole Html = false
is_whole (Outcome number) = false

-- a view is a page
abbrev pub is_page : View → Bool
is_page Text = false
is_page Places = false
is_page Html = true
is_page (Outcome number) = false

-- a scenario that was examined, in the list of a page
abbrev pub examined_item : Scenario → ℕ → List ℕ
examined_item scenario verdict = item_html scenario (verdict_class verdict) (verdict_words verdict)

-- a scenario that was not
abbrev pub unexamined_item : Scenario → List ℕ
unexamined_item scenario = item_html scenario (codes "undecided") (codes "NOT EXAMINED")

-- a section in the list of a page
abbrev pub section_item : Section → List ℕ
section_item (Ok part) = examined_item part.scenario (part_verdict part)
section_item (Err (Refused (NoStart scenario))) = unexamined_item scenario
section_item (Err (Refused (Limit scenario limit))) = unexamined_item scenario
section_item (Err (Refused (Kept path))) = []
section_item (Err Memory) = []

-- A page is made of packages, which come from these sources, with so many turns of loops.
module _ (packages : Packages) (sources : Sources) (turns : ℕ) where
  -- what a page says of a part is said of its scenario's runs as the packages are written
  abbrev pub part_shown : ReportPart → List ℕ
  part_shown part = page_part sources turns (written_run part.scenario packages turns) part

  -- a section of a page
  abbrev pub section_shown : Section → List ℕ
  section_shown (Ok part) = part_shown part
  section_shown (Err (Refused (NoStart scenario))) = page_no_start sources packages scenario
  section_shown (Err (Refused (Limit scenario limit))) = page_over sources packages scenario limit
  section_shown (Err (Refused (Kept path))) = []
  section_shown (Err Memory) = []

  -- a page of all sections: a list of them, each of them, and the premises
  unfoldable pub page_text : List Section → List ℕ
  page_text sections =
      page_begin sources packages ++ flat_map section_item sections ++ items_end
      ++ flat_map section_shown sections ++ page_end sources packages.base turns

-- what an outcome is, before the whole text
abbrev pub legend_before : View → List ℕ
legend_before view = if is_whole view then legend_text else []

-- Packages are explained, which come from these sources, with so many turns of loops, in a view.
module _ (packages : Packages) (sources : Sources) (turns : ℕ) (view : View) where
  -- what is said of a part is said of its scenario's runs as the packages are written
  abbrev pub reported_text : ReportPart → List ℕ
  reported_text part = part_text sources packages view (written_run part.scenario packages turns) part

  -- the text of a section
  abbrev pub section_text : Section → List ℕ
  section_text (Ok part) = reported_text part
  section_text (Err (Refused (NoStart scenario))) = no_start_text sources packages view scenario
  section_text (Err (Refused (Limit scenario limit))) = over_text sources packages view scenario limit
  section_text (Err (Refused (Kept path))) = []
  section_text (Err Memory) = []

  -- the premises, behind the whole text
  abbrev pub premises_behind : List ℕ
  premises_behind = if is_whole view then premises_text sources packages.base else []

  -- the text of all sections, one behind another
  abbrev pub plain_text : List Section → List ℕ
  plain_text sections = legend_before view ++ (flat_map section_text sections ++ premises_behind)

  -- the text of all sections
  abbrev pub sections_text : List Section → List ℕ
  sections_text sections = if is_page view then page_text packages sources turns sections else plain_text sections

  -- with so many different traces at most in a scenario
  module _ (limit : ℕ) where
    -- the section has all ways in which the scenario's run can end, or says why the scenario has no report
    abbrev pub IsSection : Scenario → Section → Type 0
    IsSection scenario (Ok part) = IsPartOf packages turns limit scenario part
    IsSection scenario (Err (Refused refusal)) = IsRefused packages turns limit scenario refusal
    IsSection scenario (Err Memory) = ⊥

    -- the text is that of a section for each scenario, and the status is theirs
    pub record IsExplanationOf (scenarios : List Scenario) (text : List ℕ) (status : ℕ) : Type 0 where
      pub sections : List Section
      pub are : AllZip IsSection scenarios sections
      pub text_is : text ≡ sections_text sections
      pub status_is : status ≡ sections_verdict sections
      pub small : status ≤ 2

    -- ---- what the code answers

    -- the text and its status, or want of memory
    abbrev pub ExplanationGives : List Scenario → Result Written TaskFault → Type 0
    ExplanationGives scenarios (Ok written) = IsExplanationOf scenarios written.text written.status
    ExplanationGives scenarios (Err (Refused refusal)) = ⊥
    ExplanationGives scenarios (Err Memory) = Unit {0}
