-- Outcomes that are numbered one after another.
use Rattle.std.specs.Prelude.{◌≡◌, ℕ, suc, List, [], ◌∷◌}
use Rattle.outcome_report.specs.declared.outcome_report.ReportEntry.{ReportEntry}
use Rattle.outcome_report.specs.declared.outcome_report.ReportPart.{ReportPart}

-- the outcomes are numbered from this number on
abbrev pub AreNumbered : ℕ → List ReportEntry → Type 0
AreNumbered n [] = Unit {0}
AreNumbered n (entry ∷ entries) = (entry.outcome.number ≡ n) × AreNumbered (suc n) entries

-- in each part they are numbered from 1 on
abbrev pub AllNumbered : List ReportPart → Type 0
AllNumbered [] = Unit {0}
AllNumbered (part ∷ parts) = AreNumbered 1 part.entries × AllNumbered parts
