-- Reports of whose parts this is told.
use Rattle.std.proofs.Common.{◌≡◌, ℕ, Bool, List, [], ◌∷◌, ◌++◌, refl, ap, ◌∙◌}
use Rattle.std.specs.Prelude.{◌||◌}
use Rattle.std.specs.List.{flat_map, list_any}
use Rattle.outcome_report.specs.declared.outcome_report.ReportPart.{ReportPart}
use Rattle.outcome_report.specs.declared.outcome_report.Report.{Report}
use Rattle.report_text.specs.declared.told_part.Telling.{Telling}
use Rattle.report_text.specs.declared.told_part.Telling.TheVariants.{Wholly, Briefly}
use Rattle.report_text.specs.declared.told_part.ToldPart.{ToldPart}
use Rattle.outcome_report.specs.OutcomeReport.{part_has, report_has, verdict_of}
use Rattle.dpkg_scenarios.specs.Verdicts.{joint_verdict}
use Rattle.report_text.specs.BriefText.{brief_text}
use Rattle.report_text.specs.ReportText.{line_of_verdict, verdict_line, report_text}
use Rattle.report_text.specs.Told.{first_line, lines_of, part_lines, report_lines, AreTold, told_verdict}
use Rattle.report_text.specs.Whole.{AllPartsRepresentable}

module _ (telling : Telling) where
  -- ---- the verdict

  failed_so : (parts : List ReportPart) (told : List ToldPart) → AreTold telling parts told
      → list_any (λ (one : ToldPart). one.failed) told ≡ list_any (part_has 1) parts
  failed_so [] [] are = refl
  failed_so [] (one ∷ told) are = absurd are
  failed_so (part ∷ parts) [] are = absurd are
  failed_so (part ∷ parts) (one ∷ told) are =
      ap (λ (b : Bool). b || list_any (λ (x : ToldPart). x.failed) told) are.0.failed
      ∙ ap (λ (b : Bool). part_has 1 part || b) (failed_so parts told are.1)

  unfinished_so : (parts : List ReportPart) (told : List ToldPart) → AreTold telling parts told
      → list_any (λ (one : ToldPart). one.unfinished) told ≡ list_any (part_has 2) parts
  unfinished_so [] [] are = refl
  unfinished_so [] (one ∷ told) are = absurd are
  unfinished_so (part ∷ parts) [] are = absurd are
  unfinished_so (part ∷ parts) (one ∷ told) are =
      ap (λ (b : Bool). b || list_any (λ (x : ToldPart). x.unfinished) told) are.0.unfinished
      ∙ ap (λ (b : Bool). part_has 2 part || b) (unfinished_so parts told are.1)

  pub verdict_so : (report : Report) (told : List ToldPart) → AreTold telling report.parts told → told_verdict told ≡ verdict_of report
  verdict_so report told are =
      ap (λ (b : Bool). joint_verdict b (list_any (λ (one : ToldPart). one.unfinished) told))
      (failed_so report.parts told are)
      ∙ ap (joint_verdict (report_has 1 report)) (unfinished_so report.parts told are)

  -- ---- the lines

  lines_so : (parts : List ReportPart) (told : List ToldPart) → AreTold telling parts told → flat_map lines_of told ≡ flat_map (part_lines telling) parts
  lines_so [] [] are = refl
  lines_so [] (one ∷ told) are = absurd are
  lines_so (part ∷ parts) [] are = absurd are
  lines_so (part ∷ parts) (one ∷ told) are =
      ap (λ (t : List ℕ). t ++ flat_map lines_of told) are.0.text
      ∙ ap (λ (t : List ℕ). part_lines telling part ++ t) (lines_so parts told are.1)

  joined_so : (report : Report) (told : List ToldPart) (lines text : List ℕ) (verdict : ℕ) → AreTold telling report.parts told
      → lines ≡ first_line telling ++ flat_map lines_of told → verdict ≡ told_verdict told → text ≡ lines ++ line_of_verdict verdict
      → text ≡ first_line telling ++ flat_map (part_lines telling) report.parts ++ verdict_line report
  unfolding verdict_line
  joined_so report told lines text verdict are l v e =
      e
      ∙ ap (λ (t : List ℕ). t ++ line_of_verdict verdict)
      (l ∙ ap (λ (t : List ℕ). first_line telling ++ t) (lines_so report.parts told are))
      ∙ ap (λ (n : ℕ). (first_line telling ++ flat_map (part_lines telling) report.parts) ++ line_of_verdict n)
      (v ∙ verdict_so report told are)

  -- ---- what the types represent

  pub all_representable : (parts : List ReportPart) (told : List ToldPart) → AreTold telling parts told → AllPartsRepresentable parts
  all_representable [] [] are = tt
  all_representable [] (one ∷ told) are = absurd are
  all_representable (part ∷ parts) [] are = absurd are
  all_representable (part ∷ parts) (one ∷ told) are = (are.0.representable, all_representable parts told are.1)

-- ---- the parts so far

-- the lines of the parts that were passed, behind the first line of a report that is told so
pub record JoinedSoFar (telling : Telling) (all passed left : List ToldPart) (text : List ℕ) : Type 0 where
  pub joined : passed ++ left ≡ all
  pub text_is : text ≡ first_line telling ++ flat_map lines_of passed

-- ---- the text

pub text_so : (telling : Telling) (report : Report) (told : List ToldPart) (lines text : List ℕ) (verdict : ℕ)
    → AreTold telling report.parts told → lines ≡ first_line telling ++ flat_map lines_of told → verdict ≡ told_verdict told
    → text ≡ lines ++ line_of_verdict verdict → text ≡ report_lines telling report
unfolding report_text brief_text
text_so Wholly = joined_so Wholly
text_so Briefly = joined_so Briefly
