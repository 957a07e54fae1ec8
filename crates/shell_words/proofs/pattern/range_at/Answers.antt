use Rattle.std.proofs.Common.{inl, inr, ap, sym, ◌∙◌, ◌∷◌, ◌+◌, drop}
use Rattle.shell_words.specs.Patterns.{ranges}
use Rattle.shell_words.proofs.Reading.{ranges-one}
use Rattle.shell_words.proofs.pattern.range_at.Goals.{else-left-gt2-via-then-left-gt2+else-is_unquoted, else-left-gt2-via-else-left-gt2}
use Rattle.shell_words.proofs.pattern.range_at.Goals as goal

pub returns-else-left-gt2-clause-read : goal.returns-else-left-gt2-clause-read
returns-else-left-gt2-clause-read c =
    let same = ap (λ b. (b, b) ∷ ranges (drop (c.args.at + 1) c.args.letters.now)) (sym c.code-low.ensures) in
    elim c.else-left-gt2.branch [
      | else-left-gt2-via-then-left-gt2+else-is_unquoted w ↦ ranges-one c.args.letters.now c.args.at _ c.requires (inr (sym w.is_unquoted.ensures ∙ w.if-is_unquoted.false)) ∙ same
      | else-left-gt2-via-else-left-gt2 w ↦ ranges-one c.args.letters.now c.args.at _ c.requires (inl w.if-left-gt2.false) ∙ same
    ]
