use Rattle.std.proofs.Common.{◌≡◌, map, length}
use Rattle.outcome_report.specs.declared.outcome_report.ReportEntry.{ReportEntry}
use Rattle.start_facts.specs.ClauseFacts.{facts_of}
use Rattle.fact_boxes.specs.Rows.{columns_of}
use Rattle.outcome_groups.specs.Groups.{part_columns}
use Rattle.outcome_groups.proofs.telling.part_columns.Given as goal

abbrev pub invariant-loop-left : goal.invariant-loop-left
invariant-loop-left l =
    columns_of l.columns (map (λ (entry : ReportEntry). facts_of entry.outcome.clause) l.left) ≡ part_columns l.entries

abbrev pub decreases-loop-left : goal.decreases-loop-left
decreases-loop-left l = length l.left
