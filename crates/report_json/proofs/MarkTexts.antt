-- The text of marks, made of the first and of the others.
use Rattle.std.proofs.Common.{◌≡◌, ℕ, ◌-◌, ◌≤◌, List, [], ◌∷◌, ◌++◌, length, map, take, drop, slice_index_or, ap, ◌∙◌, arith}
use Rattle.std.specs.List.{flat_map, join_with_byte}
use Rattle.std.proofs.lemmas.List.{take_all}
use Rattle.script_names.specs.declared.mark.Mark.{Mark}
use Rattle.shown_texts.specs.Marks.{mark_text}
use Rattle.report_text.specs.ReportText.{trace_mark}
use Rattle.report_text.proofs.TextApart.{marks_joined}

pub marks_printed : (ms : List Mark) (other : Mark) (none first all : List ℕ) → 1 ≤ length ms → none ≡ [] → first ≡ none ++ mark_text (slice_index_or ms 0 other)
    → all ≡ first ++ flat_map trace_mark (take (length ms - 1) (drop 1 ms)) → all ≡ join_with_byte 32 (map mark_text ms)
marks_printed [] other none first all some e f g = absurd (omega (arith, some))
marks_printed (m ∷ ms) other none first all some e f g =
    g ∙ ap (λ rest. first ++ flat_map trace_mark rest) (take_all (length (m ∷ ms) - 1) ms (omega arith))
    ∙ ap (λ t. t ++ flat_map trace_mark ms) (f ∙ ap (λ t. t ++ mark_text m) e) ∙ marks_joined m ms
