use Rattle.std.proofs.Common.{◌+◌, ap, sym, ◌∙◌, arith}
use Rattle.shell_words.proofs.Cuts.{wanted, letter-more, blank-more, last-more}
use Rattle.shell_words.proofs.field.cut.Goals.{then-is_blank+in_ok-add_field, else-is_blank}
use Rattle.shell_words.proofs.field.cut.Goals as goal

pub loop-at-preserved : goal.loop-at-preserved
loop-at-preserved c =
    let w = c.args.word.now in
    elim c.if-is_blank.branch [
      | then-is_blank+in_ok-add_field b ↦ record {
        place = omega (arith, b.from-is);
        wanted = ap (λ fs. wanted w fs c.if-is_blank.from (c.loop-at.at + 1)) b.fields-is
            ∙ ap (λ n. wanted w b.add_field.new.fields n (c.loop-at.at + 1)) b.from-is
            ∙ blank-more w c.loop-at.fields c.loop-at.from c.loop-at.at c.loop-at.invariant.place _ b.add_field.new.fields c.loop-at-test.true
            (sym c.is_blank.ensures ∙ b.if-is_blank.true) c.loop-at.invariant.wanted b.in_ok-add_field.ensures;
      }
      | else-is_blank b ↦ record {
        place = omega (arith, b.from-is);
        wanted = ap (λ fs. wanted w fs c.if-is_blank.from (c.loop-at.at + 1)) b.fields-is
            ∙ ap (λ n. wanted w c.loop-at.fields n (c.loop-at.at + 1)) b.from-is
            ∙ letter-more w c.loop-at.fields c.loop-at.from c.loop-at.at c.loop-at.invariant.place _ c.loop-at-test.true
            (sym c.is_blank.ensures ∙ b.if-is_blank.false) c.loop-at.invariant.wanted;
      }
    ]

pub returns : goal.returns
returns c =
    last-more c.args.word.now c.loop-at.fields c.loop-at.from c.loop-at.at c.loop-at.invariant.place c.add_field-2.new.fields
    c.loop-at-test.false c.loop-at.auto.at-end c.loop-at.invariant.wanted c.in_ok-add_field-2.ensures
