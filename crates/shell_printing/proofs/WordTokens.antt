-- A word of a text is printed so that it is cut as one token of its parts but for their offsets, whatever is printed
-- for its substitutions, provided that this is read back.
use Rattle.std.proofs.Common.{◌≡◌, ℕ, Bool, true, false, List, [], ◌∷◌, ◌++◌, append-nil, Some, None, codes, refl, sym, ap, ◌∙◌, subst}
use Rattle.std.specs.List.{flat_map}
use Rattle.shell_syntax.specs.declared.syntax.Part.{Part}
use Rattle.shell_syntax.specs.PrintedParts.{double_quote, run_text}
use Rattle.shell_lexer.specs.declared.token.TokenKind.TheVariants as token
use Rattle.shell_lexer.specs.declared.token.RawPart.{RawPart, out-RawPart}
use Rattle.shell_lexer.specs.declared.token.RawPart.TheVariants as raw
use Rattle.shell_lexer.specs.declared.token.RawPart.TheOpen as o
use Rattle.shell_lexer.specs.Late.{late}
use Rattle.token_laws.specs.Laws.{PartsAreSpelled, AllArgsAreSpelled, SubstitutionsAreSpelled, DoubleQuotesAreSpelled}
use Rattle.shell_lexer.specs.Operators.{Word, sight, sight_at}
use Rattle.shell_lexer.specs.Parts.{look, inner}
use Rattle.token_laws.specs.PrintedLaws.{QuotedIsOnePart, ParamIsOnePart, AllIsOnePart, SubstitutionsClose, holds_no_run, holds_no_all, is_apart}
use Rattle.shell_lexer.specs.Reading.{Whole, Read, behind as preceded, token_at, IsItems, items_pass, items_word, IsWord}
use Rattle.shell_lexer.specs.Text.{Bytes, place, offset}
use Rattle.shell_grammar.specs.Reading.{plainly}
use Rattle.shell_printing.specs.PrintedTokens.{word_token}
use Rattle.shell_printing.specs.TokenTexts.{raw_text, token_text, tokens_text}
use Rattle.shell_printing.proofs.CleanTexts.{IsClean}
use Rattle.shell_printing.proofs.Texts.{word_is}
use Rattle.shell_grammar.proofs.RunsLeftOut.{Seen as SeenPart}
use Rattle.shell_printing.proofs.Backs.{clean_append, same_words, word_text}
use Rattle.shell_printing.proofs.CutClean.{AllClean, parts_clean}
use Rattle.shell_printing.proofs.Sources.{Likes, likes_none, likes_same, likes_run, WordBack, rolled}
use Rattle.shell_printing.proofs.WordBytes.{skip_first}
use Rattle.shell_printing.proofs.WordNotes.{says}
use Rattle.shell_printing.proofs.WordLate.{late_same}
use Rattle.shell_printing.proofs.WordParts.{run_raw}
use Rattle.shell_printing.proofs.WordShape.{tilde_shape, brace_shape, plainly_shape, no_all_shape}
use Rattle.shell_printing.proofs.WordClaim.{word_claim}

-- ---- no byte 0

no_run_by : (p : RawPart) (r : SeenPart) (x : Part) → out-RawPart p ≡ r → plainly r ≡ Some x → holds_no_run (p ∷ []) ≡ true
no_run_by p (o.Plain w) x e f = ap (λ p. holds_no_run (p ∷ [])) (rolled p (o.Plain w) e ∙ raw.rolls-Plain w)
no_run_by p (o.Quoted w) x e f = ap (λ p. holds_no_run (p ∷ [])) (rolled p (o.Quoted w) e ∙ raw.rolls-Quoted w)
no_run_by p (o.Param key default quoted) x e f = ap (λ p. holds_no_run (p ∷ [])) (rolled p (o.Param key default quoted) e ∙ raw.rolls-Param key default quoted)
no_run_by p o.All x e f = ap (λ p. holds_no_run (p ∷ [])) (rolled p o.All e ∙ raw.rolls-All)
no_run_by p (o.Run at ts quoted) x e f = absurd (cc f)

quote_clean : (quoted : Bool) → IsClean (double_quote quoted)
quote_clean true = refl
quote_clean _ = refl

run_clean : (body : Bytes) (quoted : Bool) → IsClean body → IsClean (run_text body quoted)
unfolding run_text
run_clean body quoted e =
    let q = double_quote quoted in
    clean_append (((q ++ codes "$(") ++ body) ++ codes " )") q (clean_append ((q ++ codes "$(") ++ body) (codes " )") (clean_append (q ++ codes "$(") body (clean_append q (codes "$(") (quote_clean quoted) refl) e) refl) (quote_clean quoted)

module _ (deep : ℕ → Bool) where
  likes_clean : {d : ℕ} {ps qs : List RawPart} → Likes deep d ps qs → AllClean ps → IsClean (flat_map raw_text qs)
  likes_clean likes_none a = refl
  likes_clean (likes_same {p = p} {q = q} {ps = ps} {qs = qs} x e f l) a =
      let own : IsClean (raw_text p) = subst IsClean (append-nil (raw_text p)) (parts_clean (p ∷ []) (no_run_by p (out-RawPart p) x refl e) (a.0, tt)) in
      clean_append (raw_text q) (flat_map raw_text qs) (subst (λ q. IsClean (raw_text q)) (sym f) own) (likes_clean l a.1)
  likes_clean (likes_run {p = p} {q = q} {ps = ps} {qs = qs} at ts us quoted e f g b l) a =
      let own : IsClean (raw_text q) = subst IsClean (sym (ap raw_text f ∙ run_raw us quoted)) (run_clean (tokens_text us) quoted b.clean) in
      clean_append (raw_text q) (flat_map raw_text qs) own (likes_clean l a.1)

  -- ---- the token

  module _ (quoted_law : QuotedIsOnePart) (param_law : ParamIsOnePart) (all_law : AllIsOnePart) (closing : SubstitutionsClose) (outside : PartsAreSpelled look false) (inside : PartsAreSpelled inner true) (args : AllArgsAreSpelled look)
      (subs : SubstitutionsAreSpelled look) (subs_inside : SubstitutionsAreSpelled inner) (quotes : DoubleQuotesAreSpelled look) where
    pub word_read : (len d at : ℕ) (spelled rest : Bytes) (v : Read) → sight len spelled ≡ Word → IsWord deep len d [] spelled (Whole v rest) → late d at v.1 ≡ None → AllClean v.0 → holds_no_all v.0 ≡ true
        → (qs : List RawPart) → Likes deep d v.0 qs → WordBack deep d v.0 qs
    word_read len d at spelled more v seen w nothing clean none qs likes = λ last ends. record {
      apart = λ rest e. ap is_apart (word_text qs rest);
      clean = subst IsClean (sym (append-nil (token_text (word_token qs)) ∙ word_is qs)) (likes_clean likes clean);
      reads = λ all start parens rest q e l x.
          let b = word_claim deep d quoted_law param_law all_law closing outside inside args subs subs_inside quotes all rest e w qs likes (λ f. l (ends f)) in
          let text = flat_map raw_text qs ++ rest in
          let same : b.suffix ++ rest ≡ text = ap (λ t. t ++ rest) (sym b.printed) in
          let reads : IsWord deep all d [] text (Whole b.read rest) = subst (λ t. IsWord deep all d [] t (Whole b.read rest)) same b.reads in
          let begins : sight all text ≡ Word = ap (sight all) (sym same) ∙ b.begins seen in
          let here = offset all text in
          let none_late : late d here b.read.1 ≡ None =
          late_same outside inside v.0 b.read.0 v b.read d at here (says outside inside v w) (says outside inside b.read reads) (tilde_shape b.shape true) (brace_shape b.shape) (plainly_shape b.shape (codes "case")) (no_all_shape b.shape ∙ none) nothing
          in (
            token_at here (token.Word b.read.0) ∷ [],
            same_words here b.read.0 qs b.same,
            subst (λ t. IsItems deep all d start parens t (preceded (token_at here (token.Word b.read.0) ∷ []) q)) (sym (word_text qs rest))
                (items_pass text (ap (λ u. sight_at all (place all u) u) (skip_first 32 text refl)) (items_word b.read rest q begins reads none_late x refl)),
          );
    }
