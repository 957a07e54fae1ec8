use Rattle.std.proofs.Common.{◌≡◌, ◌++◌, take}
use Rattle.std.specs.List.{flat_map}
use Rattle.report_text.specs.BriefText.{brief_part}
use Rattle.report_text.proofs.brief_text.put_parts.Given as goal

abbrev pub invariant-loop-part : goal.invariant-loop-part
invariant-loop-part l = l.text ≡ l.initial.text ++ flat_map brief_part (take l.part-index l.parts)
