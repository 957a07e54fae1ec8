-- Words in a row, one after another.
use Rattle.std.proofs.Common.{◌≡◌, ℕ, ◌+◌, ◌-◌, ◌≤◌, true, List, [], ◌∷◌, Option, Some, None, is_some, OnSome, IfSome, refl, sym, ap, ◌∙◌, drop, arith}
use Rattle.std.proofs.lemmas.Bool.{true≢false}
use Rattle.shell_lexer.specs.declared.token.RawPart.{RawPart}
use Rattle.shell_grammar.specs.Look.{Tokens, word, behind}
use Rattle.shell_parser.specs.Rooms.{one_more_word, words_in_row}
use Rattle.shell_parser.proofs.Steps.{step_on}

none_first : (ts : Tokens) → word ts ≡ None → words_in_row ts ≡ 0
none_first [] e = refl
none_first (t ∷ ts) e = ap (λ w. one_more_word w (words_in_row ts)) e

one_first : (ts : Tokens) (raws : List RawPart) → word ts ≡ Some raws → words_in_row ts ≡ 1 + words_in_row (behind ts)
one_first [] raws e = absurd (cc e)
one_first (t ∷ ts) raws e = ap (λ w. one_more_word w (words_in_row ts)) e

pub row_ends : (ts : Tokens) (at : ℕ) → word (drop at ts) ≡ None → words_in_row (drop at ts) ≡ 0
row_ends ts at e = none_first (drop at ts) e

pub row_goes_on : (ts : Tokens) (at : ℕ) (raws : List RawPart) → word (drop at ts) ≡ Some raws
    → words_in_row (drop at ts) ≡ 1 + words_in_row (drop (at + 1) ts)
row_goes_on ts at raws e = one_first (drop at ts) raws e ∙ ap (λ r. 1 + words_in_row r) (step_on ts at)

pub inside : {A : Type 0} (found : Option A) (P : Type 0) → is_some found ≡ true → OnSome found P → P
inside None P e h = absurd (true≢false (sym e))
inside (Some parts) P e h = h

pub row_step : {A : Type 0} (found : Option A) (raws : A → List RawPart) (ts : Tokens) (at now : ℕ) → is_some found ≡ true
    → IfSome found (λ parts. word (drop now ts) ≡ Some (raws parts)) → at ≤ now
    → (now - at) + words_in_row (drop now ts) ≡ words_in_row (drop at ts)
    → ((now + 1) - at) + words_in_row (drop (now + 1) ts) ≡ words_in_row (drop at ts)
row_step None raws ts at now e word_is le so_far = absurd (true≢false (sym e))
row_step (Some parts) raws ts at now e word_is le so_far =
    let goes = row_goes_on ts now (raws parts) word_is in omega (arith, goes, le, so_far)
