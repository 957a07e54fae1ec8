use Rattle.std.proofs.Common.{◌≡◌, ◌++◌, take}
use Rattle.std.specs.List.{flat_map}
use Rattle.report_text.specs.BriefText.{brief_entry}
use Rattle.report_text.proofs.brief_text.put_entries.Given as goal

abbrev pub invariant-loop-entry : goal.invariant-loop-entry
invariant-loop-entry l = l.text ≡ l.initial.text ++ flat_map brief_entry (take l.entry-index l.entries)
