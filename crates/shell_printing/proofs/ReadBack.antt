-- The text of a printed script is cut into its tokens, which spell the script again.
use Rattle.std.proofs.Common.{◌≡◌, ℕ, ◌+◌, Bool, true, false, if◌then◌else◌, ◌&&◌, nat_eq, not, [], ◌∷◌, ◌++◌, append-nil, length, Some, None, refl, sym, ap, ◌∙◌, subst}
use Rattle.std.specs.List.{list_all}
use Rattle.shell_syntax.specs.Printed.{first_line, script_text}
use Rattle.shell_lexer.specs.declared.token.Lexed.{Lexed}
use Rattle.shell_lexer.specs.Depth.{too_deep}
use Rattle.shell_lexer.specs.FirstLine.{first_line as line_of, behind_line, interpreter, nul_from}
use Rattle.token_laws.specs.Laws.{PlainRunsAreLongest, PartsAreSpelled, AllArgsAreSpelled, SubstitutionsAreSpelled, DoubleQuotesAreSpelled}
use Rattle.shell_lexer.specs.Lexed.{IsBody}
use Rattle.shell_lexer.specs.Parts.{look, inner}
use Rattle.token_laws.specs.PrintedLaws.{QuotedIsOnePart, ParamIsOnePart, AllIsOnePart, SubstitutionsClose, OperatorsReadBack, WordTokensReadBack, AllTokensReadBack}
use Rattle.shell_lexer.specs.Reading.{Whole, IsItems, items_end}
use Rattle.shell_lexer.specs.Text.{Bytes}
use Rattle.shell_grammar.proofs.FromTable.{plain_script}
use Rattle.shell_grammar.proofs.Limits.{spelled}
use Rattle.shell_printing.specs.PrintedTokens.{script_tokens}
use Rattle.shell_printing.specs.TokenTexts.{tokens_text}
use Rattle.shell_printing.proofs.CleanTexts.{is_clean, IsClean}
use Rattle.shell_printing.specs.Laws.{PrintedTokensSpell, PrintedFirstLinesAreRead, PrintedTextsAreTokens, PrintedScriptsReadBack}
use Rattle.shell_printing.proofs.Backs.{false_true, clean_append}
use Rattle.shell_printing.proofs.CutClean.{later}
use Rattle.shell_printing.proofs.CutDollars.{either}
use Rattle.shell_printing.proofs.CutTokens.{cut_source}
use Rattle.shell_printing.proofs.PrintedBack.{script_back}

-- ---- no byte 0

no_nul_from : (at : ℕ) (text : Bytes) → IsClean text → nul_from at text ≡ None
no_nul_from at [] e = refl
no_nul_from at (b ∷ text) e = by (nat_eq b 0) refl e (no_nul_from (at + 1) text) where
  by : (it : Bool) → nat_eq b 0 ≡ it → (is_clean b && list_all is_clean text) ≡ true → (IsClean text → nul_from (at + 1) text ≡ None) → (if nat_eq b 0 then Some at else nul_from (at + 1) text) ≡ None
  by true f e more = absurd (false_true (sym (ap not f) ∙ left (is_clean b) (list_all is_clean text) e)) where
    left : (a b : Bool) → (a && b) ≡ true → a ≡ true
    left true b h = refl
    left false b h = h
  by false f e more = ap (λ x. if x then Some at else nul_from (at + 1) text) f ∙ more (right (is_clean b) (list_all is_clean text) e) where
    right : (a b : Bool) → (a && b) ≡ true → b ≡ true
    right true b h = h
    right false b h = absurd (false_true h)

no_nul_clean : (at : ℕ) (text : Bytes) → nul_from at text ≡ None → IsClean text
no_nul_clean at [] e = refl
no_nul_clean at (b ∷ text) e = by (nat_eq b 0) refl e (no_nul_clean (at + 1) text) where
  by : (it : Bool) → nat_eq b 0 ≡ it → (if nat_eq b 0 then Some at else nul_from (at + 1) text) ≡ None → (nul_from (at + 1) text ≡ None → IsClean text) → (is_clean b && list_all is_clean text) ≡ true
  by true f e more = absurd (cc (sym (ap (λ x. if x then Some at else nul_from (at + 1) text) f) ∙ e))
  by false f e more = ap (λ x. not x && list_all is_clean text) f ∙ more (sym (ap (λ x. if x then Some at else nul_from (at + 1) text) f) ∙ e)

line_clean : (text : Bytes) → IsClean text → IsClean (behind_line text)
line_clean [] e = e
line_clean (b ∷ text) e = either IsClean (nat_eq b 10) (later b text e) (line_clean text (later b text e))

first_clean : (strict : Bool) → IsClean (first_line strict)
first_clean true = refl
first_clean false = refl

-- ---- the whole text

module _ (words : WordTokensReadBack) (args : AllTokensReadBack) (quoted_law : QuotedIsOnePart) (param_law : ParamIsOnePart) (all_law : AllIsOnePart) (operators : OperatorsReadBack) (closing : SubstitutionsClose) (runs : PlainRunsAreLongest) (outside : PartsAreSpelled look false) (inside : PartsAreSpelled inner true) (all : AllArgsAreSpelled look) (all_inside : AllArgsAreSpelled inner)
    (subs : SubstitutionsAreSpelled look) (subs_inside : SubstitutionsAreSpelled inner) (quotes : DoubleQuotesAreSpelled look) (quotes_inside : DoubleQuotesAreSpelled inner)
    (texts : PrintedTextsAreTokens) (lines : PrintedFirstLinesAreRead) (spells : PrintedTokensSpell) where
  pub scripts_read_back : PrintedScriptsReadBack
  scripts_read_back text l script x s =
      let us = script_tokens script.body in
      let source = cut_source too_deep words args quoted_law param_law all_law closing runs outside inside all all_inside subs subs_inside quotes quotes_inside x.body (line_clean text (no_nul_clean 0 text x.no_nul)) in
      let grammar = plain_script l.end l.tokens script.body (spelled l.end l.tokens script.body s.rest s.reads) in
      let back = script_back too_deep words args operators grammar source in
      let printed = script_text script in
      let is : printed ≡ first_line script.strict ++ tokens_text us = texts script in
      let line = lines script.strict (tokens_text us) in
      let r = back.reads (length printed) 0 0 [] (Whole [] []) refl (λ e. refl) (items_end refl refl) in
      let read : IsItems too_deep (length printed) 0 0 0 (tokens_text us) (Whole r.0 []) =
      subst (λ t. IsItems too_deep (length printed) 0 0 0 t (Whole r.0 [])) (append-nil (tokens_text us))
      (subst (λ vs. IsItems too_deep (length printed) 0 0 0 (tokens_text us ++ []) (Whole vs [])) (append-nil r.0) r.2)
      in
      let body : IsBody too_deep printed (Whole r.0 []) = subst (λ t. IsItems too_deep (length printed) 0 0 0 t (Whole r.0 [])) (sym (ap behind_line is ∙ line.1)) read in
      let cut : Lexed = record { strict = script.strict; tokens = r.0; end = length printed } in
      let again = spells text l script.body (length printed) r.0 x s r.1 in (
        cut,
        again.0,
        record {
          no_nul = no_nul_from 0 printed (subst IsClean (sym is) (clean_append (first_line script.strict) (tokens_text us) (first_clean script.strict) back.clean));
          first = ap (λ t. interpreter (line_of t)) is ∙ line.0;
          body = body;
          end = refl;
        },
        refl,
        r.1,
        again.1,
        again.2,
      )
