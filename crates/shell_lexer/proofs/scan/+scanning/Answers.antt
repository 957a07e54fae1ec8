use Rattle.std.proofs.Common.{arith, length, ◌<◌, ◌≤◌, refl, [], true, false, ◌∙◌, sym, ap}
use Rattle.std.proofs.lemmas.Result.{err_from_is_err_and}
use Rattle.shell_lexer.specs.Late.{late}
use Rattle.shell_lexer.proofs.Begun.{word_begun}
use Rattle.shell_lexer.proofs.Steps.{sees_as, further_as, looks_as, further_look, items_passed, items_signed, items_worded, items_whole, items_unclosed, items_closed, items_fault, items_bad_word, token_bad, token_late, token_whole, word_byted, word_pieced, word_alled, word_doubled, word_ran, word_whole, word_fault, word_double_fault, word_run_fault, word_empty, inner_start, inner_byted, inner_pieced, inner_alled, inner_ran, inner_whole, inner_fault, inner_unclosed, inner_run_fault, inner_empty, sub_too_deep, sub_of_items}
use Rattle.shell_lexer.proofs.scan.+scanning.Goals as goal

pub substitution-returns-then-depth-ge-DEEPEST : goal.substitution-returns-then-depth-ge-DEEPEST
substitution-returns-then-depth-ge-DEEPEST t c =
    sub_too_deep c.args.text.now c.args.depth c.args.from c.args.at c.if-depth-ge-DEEPEST.true

pub substitution-returns : goal.substitution-returns
substitution-returns t c =
    sub_of_items c.args.text.now c.args.depth c.args.from c.args.at c.items.result c.if-depth-ge-DEEPEST.false c.items.ensures

pub items-returns-then-depth-eq0 : goal.items-returns-then-depth-eq0
items-returns-then-depth-eq0 t c =
    items_whole c.args.text.now c.args.depth c.args.from c.args.at c.tokens.parens c.tokens.place c.skip-here.result c.tokens.out c.tokens.invariant (record { within = c.skip-here.ensures.within; on = c.skip-here.ensures.on; skips = c.skip-here.ensures.skips }) (length c.args.text.now) (sees_as c.args.text.now c.in-End.is c.in_ok-sight.ensures.gives) c.if-depth-eq0.true refl

pub items-returns-in-End : goal.items-returns-in-End
items-returns-in-End t c =
    items_unclosed c.args.text.now c.args.depth c.args.from c.args.at c.tokens.parens c.tokens.place c.skip-here.result c.tokens.out c.tokens.invariant (record { within = c.skip-here.ensures.within; on = c.skip-here.ensures.on; skips = c.skip-here.ensures.skips }) (sees_as c.args.text.now c.in-End.is c.in_ok-sight.ensures.gives) c.if-depth-eq0.false

pub items-tokens-preserved-in-Passed : goal.items-tokens-preserved-in-Passed
items-tokens-preserved-in-Passed t c =
    items_passed c.args.text.now c.args.depth c.args.from c.args.at c.tokens.parens c.tokens.place c.skip-here.result c.tokens.out c.tokens.invariant (record { within = c.skip-here.ensures.within; on = c.skip-here.ensures.on; skips = c.skip-here.ensures.skips }) c.in-Passed.rest (sees_as c.args.text.now c.in-Passed.is c.in_ok-sight.ensures.gives) (further_as c.skip-here.result (length c.args.text.now) c.in-Passed.is c.in_ok-sight.ensures.further).0 (further_as c.skip-here.result (length c.args.text.now) c.in-Passed.is c.in_ok-sight.ensures.further).1

pub items-returns-then-closes : goal.items-returns-then-closes
items-returns-then-closes t c =
    items_closed c.args.text.now c.args.depth c.args.from c.args.at c.tokens.parens c.tokens.place c.skip-here.result c.tokens.out c.tokens.invariant (record { within = c.skip-here.ensures.within; on = c.skip-here.ensures.on; skips = c.skip-here.ensures.skips }) c.in-Operator.rest c.in-Operator.sign (sees_as c.args.text.now c.in-Operator.is c.in_ok-sight.ensures.gives) (further_as c.skip-here.result (length c.args.text.now) c.in-Operator.is c.in_ok-sight.ensures.further).0 (further_as c.skip-here.result (length c.args.text.now) c.in-Operator.is c.in_ok-sight.ensures.further).1 (sym c.closes.ensures ∙ c.if-closes.true)

pub items-tokens-preserved-in-Operator : goal.items-tokens-preserved-in-Operator
items-tokens-preserved-in-Operator t c =
    items_signed c.args.text.now c.args.depth c.args.from c.args.at c.tokens.parens c.tokens.place c.skip-here.result c.tokens.out c.tokens.invariant (record { within = c.skip-here.ensures.within; on = c.skip-here.ensures.on; skips = c.skip-here.ensures.skips }) c.in-Operator.rest c.in-Operator.sign c.token_kind-kind.result c.opened-parens.result c.add.new.self (sees_as c.args.text.now c.in-Operator.is c.in_ok-sight.ensures.gives) (further_as c.skip-here.result (length c.args.text.now) c.in-Operator.is c.in_ok-sight.ensures.further).0 (further_as c.skip-here.result (length c.args.text.now) c.in-Operator.is c.in_ok-sight.ensures.further).1 (sym c.closes.ensures ∙ c.if-closes.false) c.token_kind-kind.ensures c.opened-parens.ensures.gives c.opened-parens.ensures.few c.in_ok-add-in-Operator.ensures.ok

pub items-returns-in-Wrong : goal.items-returns-in-Wrong
items-returns-in-Wrong t c =
    items_fault c.args.text.now c.args.depth c.args.from c.args.at c.tokens.parens c.tokens.place c.skip-here.result c.tokens.out c.tokens.invariant (record { within = c.skip-here.ensures.within; on = c.skip-here.ensures.on; skips = c.skip-here.ensures.skips }) c.in-Wrong.fault (sees_as c.args.text.now c.in-Wrong.is c.in_ok-sight.ensures.gives)

pub items-returns-in_err-token-in-Word : goal.items-returns-in_err-token-in-Word
items-returns-in_err-token-in-Word t c =
    let p = err_from_is_err_and c.from_residual-in_err-token-in-Word.result c.from_residual-in_err-token-in-Word.ensures.1 in
    rw (p.1, p.2) (items_bad_word c.args.text.now c.args.depth c.args.from c.args.at c.tokens.parens c.tokens.place c.skip-here.result c.tokens.out c.tokens.invariant (record { within = c.skip-here.ensures.within; on = c.skip-here.ensures.on; skips = c.skip-here.ensures.skips }) c.in_err-token-in-Word.field-0.0 (sees_as c.args.text.now c.in-Word.is c.in_ok-sight.ensures.gives) c.in_err-token-in-Word.ensures)

pub items-tokens-smaller : goal.items-tokens-smaller
items-tokens-smaller t c =
    let on : c.tokens.place < c.in_ok-token-in-Word.rest = c.in_ok-token-in-Word.ensures.1 (word_begun c.args.text.now c.tokens.place c.skip-here.result (record { within = c.skip-here.ensures.within; on = c.skip-here.ensures.on; skips = c.skip-here.ensures.skips }) (sees_as c.args.text.now c.in-Word.is c.in_ok-sight.ensures.gives)) in
    let within : c.in_ok-token-in-Word.rest ≤ length c.args.text.now = c.in_ok-token-in-Word.ensures.0 in
    omega arith

pub items-tokens-preserved : goal.items-tokens-preserved
items-tokens-preserved t c =
    items_worded c.args.text.now c.args.depth c.args.from c.args.at c.tokens.parens c.tokens.place c.skip-here.result c.tokens.out c.tokens.invariant (record { within = c.skip-here.ensures.within; on = c.skip-here.ensures.on; skips = c.skip-here.ensures.skips }) c.in_ok-token-in-Word.rest c.in_ok-token-in-Word.token c.add-in-Word.new.self (sees_as c.args.text.now c.in-Word.is c.in_ok-sight.ensures.gives) c.in_ok-token-in-Word.ensures (c.in_ok-token-in-Word.ensures.1 (word_begun c.args.text.now c.tokens.place c.skip-here.result (record { within = c.skip-here.ensures.within; on = c.skip-here.ensures.on; skips = c.skip-here.ensures.skips }) (sees_as c.args.text.now c.in-Word.is c.in_ok-sight.ensures.gives))) c.in_ok-add-in-Word.ensures.ok

pub whole_word-returns-in_err-parts : goal.whole_word-returns-in_err-parts
whole_word-returns-in_err-parts t c =
    let p = err_from_is_err_and c.from_residual.result c.from_residual.ensures.1 in
    rw (p.1, p.2) (token_bad c.args.text.now c.args.depth c.args.place c.args.here c.in_err-parts.field-0.0 c.in_err-parts.ensures)

pub whole_word-returns-in-Some : goal.whole_word-returns-in-Some
whole_word-returns-in-Some t c =
    token_late c.args.text.now c.args.depth c.args.place c.args.here c.in_ok-parts.parts c.in_ok-parts.notes c.in_ok-parts.rest c.in-Some.fault c.in_ok-parts.ensures (ap (late c.args.depth c.args.here) (sym c.as_slice.ensures) ∙ sym c.in-Some.ensures)

pub whole_word-returns : goal.whole_word-returns
whole_word-returns t c =
    token_whole c.args.text.now c.args.depth c.args.place c.args.here c.in_ok-parts.parts c.in_ok-parts.notes c.in_ok-parts.rest c.in_ok-parts.ensures (ap (late c.args.depth c.args.here) (sym c.as_slice.ensures) ∙ sym c.in-None.ensures)

pub word-returns-in-Ends : goal.word-returns-in-Ends
word-returns-in-Ends t c =
    word_whole c.args.text.now c.args.depth c.args.at c.parts.place c.skip-here.result c.parts.run c.parts.parts c.parts.notes c.parts.invariant (record { within = c.skip-here.ensures.within; on = c.skip-here.ensures.on; skips = c.skip-here.ensures.skips }) _ (looks_as c.args.text.now c.in-Ends.is c.in_ok-look.ensures.gives) c.in_ok-flush-in-Ends.ensures

pub word-parts-preserved-in-Byte : goal.word-parts-preserved-in-Byte
word-parts-preserved-in-Byte t c =
    word_byted c.args.text.now c.args.depth c.args.at c.parts.place c.skip-here.result c.parts.run c.parts.parts c.parts.notes c.parts.invariant (record { within = c.skip-here.ensures.within; on = c.skip-here.ensures.on; skips = c.skip-here.ensures.skips }) c.in-Byte.rest c.in-Byte.byte _ _ (looks_as c.args.text.now c.in-Byte.is c.in_ok-look.ensures.gives) (further_look c.skip-here.result (length c.args.text.now) c.in-Byte.is c.in_ok-look.ensures.further).0 (further_look c.skip-here.result (length c.args.text.now) c.in-Byte.is c.in_ok-look.ensures.further).1 c.in_ok-push-in-Byte.ensures.ok c.in_ok-add-in-Byte.ensures.ok

pub word-parts-preserved-in-Piece : goal.word-parts-preserved-in-Piece
word-parts-preserved-in-Piece t c =
    word_empty c.args.text.now c.args.depth c.args.at c.in-Piece.rest _ _ _ c.in_ok-run-in-Piece.ensures.next (word_pieced c.args.text.now c.args.depth c.args.at c.parts.place c.skip-here.result c.parts.run c.parts.parts c.parts.notes c.parts.invariant (record { within = c.skip-here.ensures.within; on = c.skip-here.ensures.on; skips = c.skip-here.ensures.skips }) c.in-Piece.rest c.in-Piece.part _ _ (looks_as c.args.text.now c.in-Piece.is c.in_ok-look.ensures.gives) (further_look c.skip-here.result (length c.args.text.now) c.in-Piece.is c.in_ok-look.ensures.further).0 (further_look c.skip-here.result (length c.args.text.now) c.in-Piece.is c.in_ok-look.ensures.further).1 c.in_ok-run-in-Piece.ensures.parts c.in_ok-run-in-Piece.ensures.notes)

pub word-parts-preserved-in-AllArgs : goal.word-parts-preserved-in-AllArgs
word-parts-preserved-in-AllArgs t c =
    word_empty c.args.text.now c.args.depth c.args.at c.in-AllArgs.rest _ _ _ c.in_ok-run-in-AllArgs.ensures.next (word_alled c.args.text.now c.args.depth c.args.at c.parts.place c.skip-here.result c.parts.run c.parts.parts c.parts.notes c.parts.invariant (record { within = c.skip-here.ensures.within; on = c.skip-here.ensures.on; skips = c.skip-here.ensures.skips }) c.in-AllArgs.rest _ _ (looks_as c.args.text.now c.in-AllArgs.is c.in_ok-look.ensures.gives) (further_look c.skip-here.result (length c.args.text.now) c.in-AllArgs.is c.in_ok-look.ensures.further).0 (further_look c.skip-here.result (length c.args.text.now) c.in-AllArgs.is c.in_ok-look.ensures.further).1 c.in_ok-run-in-AllArgs.ensures.parts c.in_ok-run-in-AllArgs.ensures.notes)

pub word-parts-preserved-in-DoubleQuote : goal.word-parts-preserved-in-DoubleQuote
word-parts-preserved-in-DoubleQuote t c =
    word_empty c.args.text.now c.args.depth c.args.at c.in_ok-place-in-DoubleQuote.place _ _ _ c.new-run-in-DoubleQuote.ensures (word_doubled c.args.text.now c.args.depth c.args.at c.parts.place c.skip-here.result c.parts.run c.parts.parts c.parts.notes c.parts.invariant (record { within = c.skip-here.ensures.within; on = c.skip-here.ensures.on; skips = c.skip-here.ensures.skips }) c.in-DoubleQuote.begin c.in_ok-place-in-DoubleQuote.place _ _ _ _ (looks_as c.args.text.now c.in-DoubleQuote.is c.in_ok-look.ensures.gives) (further_look c.skip-here.result (length c.args.text.now) c.in-DoubleQuote.is c.in_ok-look.ensures.further).0 c.in_ok-flush-in-DoubleQuote.ensures c.in_ok-place-in-DoubleQuote.ensures c.in_ok-add-in-DoubleQuote.ensures.ok)

pub word-parts-preserved : goal.word-parts-preserved
word-parts-preserved t c =
    word_empty c.args.text.now c.args.depth c.args.at c.in_ok-tokens-in-Substitution.rest _ _ _ c.in_ok-run-in-Substitution.ensures.next (word_ran c.args.text.now c.args.depth c.args.at c.parts.place c.skip-here.result c.parts.run c.parts.parts c.parts.notes c.parts.invariant (record { within = c.skip-here.ensures.within; on = c.skip-here.ensures.on; skips = c.skip-here.ensures.skips }) c.in-Substitution.begin c.in_ok-tokens-in-Substitution.rest c.in_ok-tokens-in-Substitution.tokens c.run_part-part.result _ _ (looks_as c.args.text.now c.in-Substitution.is c.in_ok-look.ensures.gives) (further_look c.skip-here.result (length c.args.text.now) c.in-Substitution.is c.in_ok-look.ensures.further).0 c.in_ok-tokens-in-Substitution.ensures c.run_part-part.ensures c.in_ok-run-in-Substitution.ensures.parts c.in_ok-run-in-Substitution.ensures.notes)

pub word-returns-in-Bad : goal.word-returns-in-Bad
word-returns-in-Bad t c =
    word_fault c.args.text.now c.args.depth c.args.at c.parts.place c.skip-here.result c.parts.run c.parts.parts c.parts.notes c.parts.invariant (record { within = c.skip-here.ensures.within; on = c.skip-here.ensures.on; skips = c.skip-here.ensures.skips }) c.in-Bad.fault (looks_as c.args.text.now c.in-Bad.is c.in_ok-look.ensures.gives)

pub word-returns-in_err-place-in-DoubleQuote : goal.word-returns-in_err-place-in-DoubleQuote
word-returns-in_err-place-in-DoubleQuote t c =
    let p = err_from_is_err_and c.from_residual-in_err-place-in-DoubleQuote.result c.from_residual-in_err-place-in-DoubleQuote.ensures.1 in
    rw (p.1, p.2) (word_double_fault c.args.text.now c.args.depth c.args.at c.parts.place c.skip-here.result c.parts.run c.parts.parts c.parts.notes c.parts.invariant (record { within = c.skip-here.ensures.within; on = c.skip-here.ensures.on; skips = c.skip-here.ensures.skips }) c.in_err-place-in-DoubleQuote.field-0.0 c.in-DoubleQuote.begin c.flush-in-DoubleQuote.new.parts c.quoted.new.parts c.parts.notes c.quoted.new.notes (looks_as c.args.text.now c.in-DoubleQuote.is c.in_ok-look.ensures.gives) c.in_err-place-in-DoubleQuote.ensures)

pub word-returns-in_err-tokens-in-Substitution : goal.word-returns-in_err-tokens-in-Substitution
word-returns-in_err-tokens-in-Substitution t c =
    let p = err_from_is_err_and c.from_residual-in_err-tokens-in-Substitution.result c.from_residual-in_err-tokens-in-Substitution.ensures.1 in
    rw (p.1, p.2) (word_run_fault c.args.text.now c.args.depth c.args.at c.parts.place c.skip-here.result c.parts.run c.parts.parts c.parts.notes c.parts.invariant (record { within = c.skip-here.ensures.within; on = c.skip-here.ensures.on; skips = c.skip-here.ensures.skips }) c.in_err-tokens-in-Substitution.field-0.0 c.in-Substitution.begin (looks_as c.args.text.now c.in-Substitution.is c.in_ok-look.ensures.gives) c.in_err-tokens-in-Substitution.ensures)

pub quoted-inside-init : goal.quoted-inside-init
quoted-inside-init t c =
    inner_empty c.args.text.now c.args.depth c.args.from c.args.at c.args.at true _ c.args.parts.now _ c.args.notes.now _ c.new-run.ensures (inner_start c.args.text.now c.args.depth c.args.from c.args.at c.args.parts.now c.args.notes.now c.requires.within)

pub quoted-returns-in-Ends : goal.quoted-returns-in-Ends
quoted-returns-in-Ends t c =
    inner_unclosed c.args.text.now c.args.depth c.args.from c.args.at c.args.parts.now c.args.notes.now c.inside.place c.skip-here.result c.inside.fresh c.inside.run c.inside.parts c.inside.notes c.inside.invariant (record { within = c.skip-here.ensures.within; on = c.skip-here.ensures.on; skips = c.skip-here.ensures.skips }) [] [] (looks_as c.args.text.now c.in-Ends.is c.in_ok-inner.ensures.gives)

pub quoted-returns-in-DoubleQuote : goal.quoted-returns-in-DoubleQuote
quoted-returns-in-DoubleQuote t c =
    inner_whole c.args.text.now c.args.depth c.args.from c.args.at c.args.parts.now c.args.notes.now c.inside.place c.skip-here.result c.inside.fresh c.inside.run c.inside.parts c.inside.notes c.inside.invariant (record { within = c.skip-here.ensures.within; on = c.skip-here.ensures.on; skips = c.skip-here.ensures.skips }) c.in-DoubleQuote.rest _ (looks_as c.args.text.now c.in-DoubleQuote.is c.in_ok-inner.ensures.gives) (further_look c.skip-here.result (length c.args.text.now) c.in-DoubleQuote.is c.in_ok-inner.ensures.further).0 (further_look c.skip-here.result (length c.args.text.now) c.in-DoubleQuote.is c.in_ok-inner.ensures.further).1 c.in_ok-flush_last-in-DoubleQuote.ensures

pub quoted-inside-preserved-in-Byte : goal.quoted-inside-preserved-in-Byte
quoted-inside-preserved-in-Byte t c =
    inner_byted c.args.text.now c.args.depth c.args.from c.args.at c.args.parts.now c.args.notes.now c.inside.place c.skip-here.result c.inside.fresh c.inside.run c.inside.parts c.inside.notes c.inside.invariant (record { within = c.skip-here.ensures.within; on = c.skip-here.ensures.on; skips = c.skip-here.ensures.skips }) c.in-Byte.rest c.in-Byte.byte _ _ (looks_as c.args.text.now c.in-Byte.is c.in_ok-inner.ensures.gives) (further_look c.skip-here.result (length c.args.text.now) c.in-Byte.is c.in_ok-inner.ensures.further).0 (further_look c.skip-here.result (length c.args.text.now) c.in-Byte.is c.in_ok-inner.ensures.further).1 c.in_ok-push-in-Byte.ensures.ok c.in_ok-add-in-Byte.ensures.ok

pub quoted-inside-preserved-in-Piece : goal.quoted-inside-preserved-in-Piece
quoted-inside-preserved-in-Piece t c =
    inner_empty c.args.text.now c.args.depth c.args.from c.args.at c.in-Piece.rest false _ c.args.parts.now _ c.args.notes.now _ c.in_ok-run-in-Piece.ensures.next (inner_pieced c.args.text.now c.args.depth c.args.from c.args.at c.args.parts.now c.args.notes.now c.inside.place c.skip-here.result c.inside.fresh c.inside.run c.inside.parts c.inside.notes c.inside.invariant (record { within = c.skip-here.ensures.within; on = c.skip-here.ensures.on; skips = c.skip-here.ensures.skips }) c.in-Piece.rest c.in-Piece.part _ _ (looks_as c.args.text.now c.in-Piece.is c.in_ok-inner.ensures.gives) (further_look c.skip-here.result (length c.args.text.now) c.in-Piece.is c.in_ok-inner.ensures.further).0 (further_look c.skip-here.result (length c.args.text.now) c.in-Piece.is c.in_ok-inner.ensures.further).1 c.in_ok-run-in-Piece.ensures.parts c.in_ok-run-in-Piece.ensures.notes)

pub quoted-inside-preserved-in-AllArgs : goal.quoted-inside-preserved-in-AllArgs
quoted-inside-preserved-in-AllArgs t c =
    inner_empty c.args.text.now c.args.depth c.args.from c.args.at c.in-AllArgs.rest false _ c.args.parts.now _ c.args.notes.now _ c.in_ok-run-in-AllArgs.ensures.next (inner_alled c.args.text.now c.args.depth c.args.from c.args.at c.args.parts.now c.args.notes.now c.inside.place c.skip-here.result c.inside.fresh c.inside.run c.inside.parts c.inside.notes c.inside.invariant (record { within = c.skip-here.ensures.within; on = c.skip-here.ensures.on; skips = c.skip-here.ensures.skips }) c.in-AllArgs.rest _ _ (looks_as c.args.text.now c.in-AllArgs.is c.in_ok-inner.ensures.gives) (further_look c.skip-here.result (length c.args.text.now) c.in-AllArgs.is c.in_ok-inner.ensures.further).0 (further_look c.skip-here.result (length c.args.text.now) c.in-AllArgs.is c.in_ok-inner.ensures.further).1 c.in_ok-run-in-AllArgs.ensures.parts c.in_ok-run-in-AllArgs.ensures.notes)

pub quoted-inside-preserved : goal.quoted-inside-preserved
quoted-inside-preserved t c =
    inner_empty c.args.text.now c.args.depth c.args.from c.args.at c.in_ok-tokens-in-Substitution.rest false _ c.args.parts.now _ c.args.notes.now _ c.in_ok-run-in-Substitution.ensures.next (inner_ran c.args.text.now c.args.depth c.args.from c.args.at c.args.parts.now c.args.notes.now c.inside.place c.skip-here.result c.inside.fresh c.inside.run c.inside.parts c.inside.notes c.inside.invariant (record { within = c.skip-here.ensures.within; on = c.skip-here.ensures.on; skips = c.skip-here.ensures.skips }) c.in-Substitution.begin c.in_ok-tokens-in-Substitution.rest c.in_ok-tokens-in-Substitution.tokens c.run_part-part.result _ _ (looks_as c.args.text.now c.in-Substitution.is c.in_ok-inner.ensures.gives) (further_look c.skip-here.result (length c.args.text.now) c.in-Substitution.is c.in_ok-inner.ensures.further).0 c.in_ok-tokens-in-Substitution.ensures c.run_part-part.ensures c.in_ok-run-in-Substitution.ensures.parts c.in_ok-run-in-Substitution.ensures.notes)

pub quoted-returns-in_err-tokens-in-Substitution : goal.quoted-returns-in_err-tokens-in-Substitution
quoted-returns-in_err-tokens-in-Substitution t c =
    let p = err_from_is_err_and c.from_residual-in_err-tokens-in-Substitution.result c.from_residual-in_err-tokens-in-Substitution.ensures.1 in
    rw (p.1, p.2) (inner_run_fault c.args.text.now c.args.depth c.args.from c.args.at c.args.parts.now c.args.notes.now c.inside.place c.skip-here.result c.inside.fresh c.inside.run c.inside.parts c.inside.notes c.inside.invariant (record { within = c.skip-here.ensures.within; on = c.skip-here.ensures.on; skips = c.skip-here.ensures.skips }) c.in_err-tokens-in-Substitution.field-0.0 c.in-Substitution.begin [] [] (looks_as c.args.text.now c.in-Substitution.is c.in_ok-inner.ensures.gives) c.in_err-tokens-in-Substitution.ensures)

pub quoted-returns-in-Bad : goal.quoted-returns-in-Bad
quoted-returns-in-Bad t c =
    inner_fault c.args.text.now c.args.depth c.args.from c.args.at c.args.parts.now c.args.notes.now c.inside.place c.skip-here.result c.inside.fresh c.inside.run c.inside.parts c.inside.notes c.inside.invariant (record { within = c.skip-here.ensures.within; on = c.skip-here.ensures.on; skips = c.skip-here.ensures.skips }) c.in-Bad.fault [] [] (looks_as c.args.text.now c.in-Bad.is c.in_ok-inner.ensures.gives)
