-- The tokens of a text that is cut are printed so that each is read back.
use Rattle.std.proofs.Common.{◌≡◌, ℕ, zero, suc, Bool, true, false, List, [], ◌∷◌, ◌++◌, ◌⊎◌, inl, inr, None, refl, sym, ap, ◌∙◌, subst, codes}
use Rattle.shell_syntax.specs.declared.syntax.Part.TheVariants as part
use Rattle.shell_lexer.specs.declared.token.Token.{Token}
use Rattle.shell_lexer.specs.declared.token.TokenKind.{out-TokenKind}
use Rattle.shell_lexer.specs.declared.token.TokenKind.TheVariants as token
use Rattle.shell_lexer.specs.declared.token.RawPart.{RawPart}
use Rattle.shell_lexer.specs.declared.token.RawPart.TheVariants as raw
use Rattle.shell_lexer.specs.declared.token.RawPart.TheOpen as o
use Rattle.shell_lexer.specs.Late.{late}
use Rattle.token_laws.specs.Laws.{PlainRunsAreLongest, PartsAreSpelled, AllArgsAreSpelled, SubstitutionsAreSpelled, DoubleQuotesAreSpelled}
use Rattle.token_laws.specs.LongestRuns.{plain_runs_are_longest}
use Rattle.shell_lexer.specs.Operators.{Word, sight}
use Rattle.shell_lexer.specs.Parts.{look, inner}
use Rattle.token_laws.specs.PrintedLaws.{QuotedIsOnePart, ParamIsOnePart, AllIsOnePart, SubstitutionsClose, holds_no_all, ends_in_backslash, WordTokensReadBack, AllTokensReadBack}
use Rattle.shell_lexer.specs.Reading.{Out, Whole, Stop, Read, behind, ended, token_at, plain_run, quoted_run, last_run, IsItems, items_end, items_pass, items_wrong, items_close, items_sign, items_word, items_late, items_bad, IsWord, word_ends, word_byte, word_piece, word_all, word_double, word_run, word_wrong, word_bad_double, word_bad_run, IsInner, inner_open, inner_ends, inner_byte, inner_piece, inner_all, inner_run, inner_wrong, inner_bad_run, IsSub, sub_deep, sub_items}
use Rattle.shell_lexer.specs.Text.{Bytes}
use Rattle.shell_grammar.specs.Look.{Tokens, kind_word}
use Rattle.shell_grammar.specs.Reading.{plainly}
use Rattle.shell_printing.proofs.CleanTexts.{IsClean}
use Rattle.shell_printing.specs.PrintedTokens.{word_token}
use Rattle.shell_printing.proofs.Signs.{NoWord, sight_no_word}
use Rattle.shell_printing.proofs.ZeroedTokens.{seen_kind, seen_all, seen_run}
use Rattle.shell_printing.proofs.Longest.{Simple, plain_simple, quoted_simple, all_simple, piece_simple}
use Rattle.shell_printing.proofs.Backs.{ReadsBack, wider, the_arguments}
use Rattle.shell_printing.proofs.CutArguments.{arguments}
use Rattle.shell_printing.proofs.CutClean.{AllClean, CleanSight, CleanByte, sight_clean, look_clean, inner_look_clean, clean_piece, clean_stands, inner_clean, sub_clean, read_clean}
use Rattle.shell_printing.proofs.CutEnds.{last_word}
use Rattle.shell_printing.proofs.Sources.{may_end, Likes, WordBack, Sound, no_token, other_token, word_token_of, SoundParts, no_part, other_part, substitution}
use Rattle.shell_printing.proofs.WordClaim.{simple_likes}
use Rattle.shell_printing.proofs.WordTokens.{word_read}

-- whether a word stands outside every substitution
abbrev outermost : ℕ → Bool
outermost zero = true
outermost (suc d) = false

module _ (deep : ℕ → Bool) where
  -- ---- lists of parts

  parts_append : {d : ℕ} (xs ys : List RawPart) → SoundParts deep d xs → SoundParts deep d ys → SoundParts deep d (xs ++ ys)
  parts_append [] ys no_part t = t
  parts_append (x ∷ xs) ys (other_part y e s) t = other_part y e (parts_append xs ys s t)
  parts_append (x ∷ xs) ys (substitution at ts quoted e g i s) t = substitution at ts quoted e g i (parts_append xs ys s t)

  one_sound : {d : ℕ} (p : RawPart) → Simple p → SoundParts deep d (p ∷ [])
  one_sound p n = other_part n.0 n.1 no_part

  plain_sound : {d : ℕ} (run : Bytes) → SoundParts deep d (plain_run run)
  plain_sound [] = no_part
  plain_sound (b ∷ run) = one_sound (raw.Plain (b ∷ run)) (plain_simple (b ∷ run))

  quoted_sound : {d : ℕ} (run : Bytes) → SoundParts deep d (quoted_run run)
  quoted_sound [] = no_part
  quoted_sound (b ∷ run) = one_sound (raw.Quoted (b ∷ run)) (quoted_simple (b ∷ run))

  last_sound : {d : ℕ} (fresh : Bool) (run : Bytes) → SoundParts deep d (last_run fresh run)
  last_sound true [] = one_sound (raw.Quoted []) (quoted_simple [])
  last_sound true (b ∷ run) = quoted_sound (b ∷ run)
  last_sound false run = quoted_sound run

  plain_before : {d : ℕ} (run : Bytes) (xs ys : List RawPart) → SoundParts deep d xs → SoundParts deep d ys → SoundParts deep d ((plain_run run ++ xs) ++ ys)
  plain_before run xs ys s t = parts_append (plain_run run ++ xs) ys (parts_append (plain_run run) xs (plain_sound run) s) t

  quoted_before : {d : ℕ} (run : Bytes) (xs ys : List RawPart) → SoundParts deep d xs → SoundParts deep d ys → SoundParts deep d ((quoted_run run ++ xs) ++ ys)
  quoted_before run xs ys s t = parts_append (quoted_run run ++ xs) ys (parts_append (quoted_run run) xs (quoted_sound run) s) t

  -- ---- whole outcomes

  abbrev IsSource : ℕ → Out (List Token) → Type 0
  IsSource d (Whole ts rest) = Sound deep d (outermost d) ts
  IsSource d (Stop f) = Unit {0}

  abbrev PartsSource : ℕ → Out Read → Type 0
  PartsSource d (Whole v rest) = SoundParts deep d v.0
  PartsSource d (Stop f) = Unit {0}

  abbrev SubSource : ℕ → Out (List Token) → Type 0
  SubSource d (Whole ts rest) = (deep d ≡ false) × Sound deep (suc d) false ts
  SubSource d (Stop f) = Unit {0}

  ended_source : (d start : ℕ) → IsSource d (ended d start)
  ended_source zero start = no_token
  ended_source (suc d) start = tt

  operator_source : (d : ℕ) (t : Token) (q : Out (List Token)) → kind_word (out-TokenKind t.kind) ≡ None → IsSource d q → IsSource d (behind (t ∷ []) q)
  operator_source d t (Stop f) e x = tt
  operator_source d t (Whole ts rest) e x = other_token e x

  word_source : (d at : ℕ) (v : Read) (q : Out (List Token)) → plain_runs_are_longest false v.0 ≡ true → ((qs : List RawPart) → Likes deep d v.0 qs → WordBack deep d v.0 qs)
      → (ends_in_backslash v.0 ≡ true → (ts : Tokens) (r : Bytes) → q ≡ Whole ts r → may_end (outermost d) ts ≡ true) → SoundParts deep d v.0 → IsSource d q → IsSource d (behind (token_at at (token.Word v.0) ∷ []) q)
  word_source d at v (Stop f) l b n p x = tt
  word_source d at v (Whole ts r) l b n p x = word_token_of v.0 (ap kind_word (seen_kind (o.Word v.0))) l b (λ h. n h ts r refl) p x

  sub_of : (d : ℕ) (q : Out (List Token)) → deep d ≡ false → IsSource (suc d) q → SubSource d q
  sub_of d (Whole ts rest) h x = (h, x)
  sub_of d (Stop f) h x = tt

  run_source : {d : ℕ} (at : ℕ) (ts : Tokens) (quoted : Bool) → (deep d ≡ false) × Sound deep (suc d) false ts → SoundParts deep d (raw.Run at ts quoted ∷ [])
  run_source at ts quoted s = substitution at ts quoted (seen_run at ts quoted) s.0 s.1 no_part

  -- ---- where the text ends

  nothing_left : {len d start parens : ℕ} {text : Bytes} {q : Out (List Token)} → IsItems deep len d start parens text q → text ≡ [] → q ≡ ended d start
  nothing_left (items_end h e) f = e
  nothing_left {len = len} (items_pass t h x) f = absurd (cc (sym h ∙ ap (sight len) f))
  nothing_left {len = len} (items_wrong g h e) f = absurd (cc (sym h ∙ ap (sight len) f))
  nothing_left {len = len} (items_close s t h c e) f = absurd (cc (sym h ∙ ap (sight len) f))
  nothing_left {len = len} (items_sign s t q1 h c x e) f = absurd (cc (sym h ∙ ap (sight len) f))
  nothing_left {len = len} (items_word v t q1 h w l x e) f = absurd (cc (sym h ∙ ap (sight len) f))
  nothing_left {len = len} (items_late v t g h w l e) f = absurd (cc (sym h ∙ ap (sight len) f))
  nothing_left {len = len} (items_bad g h w e) f = absurd (cc (sym h ∙ ap (sight len) f))

  ended_here : (d start : ℕ) (ts : Tokens) (r : Bytes) → ended d start ≡ Whole ts r → may_end (outermost d) ts ≡ true
  ended_here zero start ts r e = let none : ts ≡ [] = cc in ap (may_end true) none
  ended_here (suc d) start ts r e = absurd (cc e)

  module _ (words : WordTokensReadBack) (args : AllTokensReadBack) (quoted_law : QuotedIsOnePart) (param_law : ParamIsOnePart) (all_law : AllIsOnePart) (closing : SubstitutionsClose) (runs : PlainRunsAreLongest)
      (outside : PartsAreSpelled look false) (inside : PartsAreSpelled inner true) (all : AllArgsAreSpelled look) (all_inside : AllArgsAreSpelled inner)
      (subs : SubstitutionsAreSpelled look) (subs_inside : SubstitutionsAreSpelled inner) (quotes : DoubleQuotesAreSpelled look) (quotes_inside : DoubleQuotesAreSpelled inner) where
    word_back : (len d at : ℕ) (spelled rest : Bytes) (v : Read) → sight len spelled ≡ Word → IsWord deep len d [] spelled (Whole v rest) → late d at v.1 ≡ None → AllClean v.0
        → (qs : List RawPart) → Likes deep d v.0 qs → WordBack deep d v.0 qs
    word_back len d at spelled rest v seen w nothing clean qs likes = by (arguments outside inside at v w nothing) where
      by : (holds_no_all v.0 ≡ true) ⊎ (v.0 ≡ raw.All ∷ []) → WordBack deep d v.0 qs
      by (inl e) = word_read deep quoted_law param_law all_law closing outside inside all subs subs_inside quotes len d at spelled rest v seen w nothing clean e qs likes
      by (inr e) =
          let is : qs ≡ raw.All ∷ [] = simple_likes deep d raw.All part.All (ap plainly seen_all) qs (subst (λ ps. Likes deep d ps qs) e likes) in
          λ last ends. subst (λ ps. ReadsBack deep d last (word_token ps ∷ [])) (sym is) (wider deep (the_arguments deep words args))

    mutual
      items_source : {len d start parens : ℕ} {text : Bytes} {q : Out (List Token)} → IsItems deep len d start parens text q → IsClean text → IsSource d q
      items_source {d = d} {start = start} (items_end h e) k = subst (IsSource d) (sym e) (ended_source d start)
      items_source {len = len} {text = text} (items_pass t h x) k = items_source x (subst CleanSight h (sight_clean len text k))
      items_source {d = d} (items_wrong f h e) k = subst (IsSource d) (sym e) tt
      items_source {d = d} (items_close s t h c e) k = subst (IsSource d) (sym e) no_token
      items_source {len = len} {d = d} {text = text} (items_sign s t q1 h c x e) k =
          subst (IsSource d) (sym e) (operator_source d _ q1 (subst NoWord h (sight_no_word len text)) (items_source x (subst CleanSight h (sight_clean len text k))))
      items_source {len = len} {d = d} {start = start} {text = text} (items_word v t q1 h w l x e) k =
          let c = read_clean outside inside all all_inside subs subs_inside quotes quotes_inside v w k in
          subst (IsSource d) (sym e)
          (word_source d _ v q1 (runs deep len d text t v w) (word_back len d _ text t v h w l c.0)
          (λ f ts r g. ended_here d start ts r (sym (nothing_left x (last_word outside inside v w f)) ∙ g)) (parts_source w k) (items_source x c.1))
      items_source {d = d} (items_late v t f h w l e) k = subst (IsSource d) (sym e) tt
      items_source {d = d} (items_bad f h w e) k = subst (IsSource d) (sym e) tt

      parts_source : {len d : ℕ} {run text : Bytes} {q : Out Read} → IsWord deep len d run text q → IsClean text → PartsSource d q
      parts_source {d = d} {run = run} (word_ends h e) k = subst (PartsSource d) (sym e) (plain_sound run)
      parts_source {len = len} {d = d} {text = text} (word_byte b t (Whole v1 r1) h x e) k = let c = subst CleanByte h (look_clean len text k) in subst (PartsSource d) (sym e) (parts_source x c.1)
      parts_source {d = d} (word_byte b t (Stop f) h x e) k = subst (PartsSource d) (sym e) tt
      parts_source {len = len} {d = d} {run = run} {text = text} (word_piece p t (Whole v1 r1) h x e) k =
          let g = (outside len text t p).0 h in
          subst (PartsSource d) (sym e) (plain_before run (p ∷ []) v1.0 (one_sound p (piece_simple false p text t g)) (parts_source x (clean_piece false p text t g k).1))
      parts_source {d = d} (word_piece p t (Stop f) h x e) k = subst (PartsSource d) (sym e) tt
      parts_source {len = len} {d = d} {run = run} {text = text} (word_all t (Whole v1 r1) h x e) k =
          subst (PartsSource d) (sym e) (plain_before run (raw.All ∷ []) v1.0 (one_sound raw.All all_simple) (parts_source x (clean_stands (codes "$@") text t ((all len text t).0 h) k).1))
      parts_source {d = d} (word_all t (Stop f) h x e) k = subst (PartsSource d) (sym e) tt
      parts_source {len = len} {d = d} {run = run} {text = text} (word_double g v t (Whole v1 r1) h i x e) k =
          let c = (clean_stands (codes "\"") text g ((quotes len text g).0 h) k).1 in
          let rest_clean = (inner_clean outside inside all all_inside subs subs_inside quotes quotes_inside i refl c).1 in
          subst (PartsSource d) (sym e) (plain_before run v.0 v1.0 (inner_source i c) (parts_source x rest_clean))
      parts_source {d = d} (word_double g v t (Stop f) h i x e) k = subst (PartsSource d) (sym e) tt
      parts_source {len = len} {d = d} {run = run} {text = text} (word_run g ts t (Whole v1 r1) h i x e) k =
          let c = (clean_stands (codes "$(") text g ((subs len text g).0 h).stands k).1 in
          let rest_clean = sub_clean outside inside all all_inside subs subs_inside quotes quotes_inside i c in
          subst (PartsSource d) (sym e) (plain_before run (raw.Run _ ts false ∷ []) v1.0 (run_source _ ts false (sub_source i c)) (parts_source x rest_clean))
      parts_source {d = d} (word_run g ts t (Stop f) h i x e) k = subst (PartsSource d) (sym e) tt
      parts_source {d = d} (word_wrong f h e) k = subst (PartsSource d) (sym e) tt
      parts_source {d = d} (word_bad_double g f h i e) k = subst (PartsSource d) (sym e) tt
      parts_source {d = d} (word_bad_run g f h i e) k = subst (PartsSource d) (sym e) tt

      inner_source : {len d begun : ℕ} {fresh : Bool} {run text : Bytes} {q : Out Read} → IsInner deep len d begun fresh run text q → IsClean text → PartsSource d q
      inner_source {d = d} (inner_open h e) k = subst (PartsSource d) (sym e) tt
      inner_source {d = d} {fresh = fresh} {run = run} (inner_ends t h e) k = subst (PartsSource d) (sym e) (last_sound fresh run)
      inner_source {len = len} {d = d} {text = text} (inner_byte b t (Whole v1 r1) h x e) k = let c = subst CleanByte h (inner_look_clean len text k) in subst (PartsSource d) (sym e) (inner_source x c.1)
      inner_source {d = d} (inner_byte b t (Stop f) h x e) k = subst (PartsSource d) (sym e) tt
      inner_source {len = len} {d = d} {run = run} {text = text} (inner_piece p t (Whole v1 r1) h x e) k =
          let g = (inside len text t p).0 h in
          subst (PartsSource d) (sym e) (quoted_before run (p ∷ []) v1.0 (one_sound p (piece_simple true p text t g)) (inner_source x (clean_piece true p text t g k).1))
      inner_source {d = d} (inner_piece p t (Stop f) h x e) k = subst (PartsSource d) (sym e) tt
      inner_source {len = len} {d = d} {run = run} {text = text} (inner_all t (Whole v1 r1) h x e) k =
          subst (PartsSource d) (sym e) (quoted_before run (raw.All ∷ []) v1.0 (one_sound raw.All all_simple) (inner_source x (clean_stands (codes "$@") text t ((all_inside len text t).0 h) k).1))
      inner_source {d = d} (inner_all t (Stop f) h x e) k = subst (PartsSource d) (sym e) tt
      inner_source {len = len} {d = d} {run = run} {text = text} (inner_run g ts t (Whole v1 r1) h i x e) k =
          let c = (clean_stands (codes "$(") text g ((subs_inside len text g).0 h).stands k).1 in
          let rest_clean = sub_clean outside inside all all_inside subs subs_inside quotes quotes_inside i c in
          subst (PartsSource d) (sym e) (quoted_before run (raw.Run _ ts true ∷ []) v1.0 (run_source _ ts true (sub_source i c)) (inner_source x rest_clean))
      inner_source {d = d} (inner_run g ts t (Stop f) h i x e) k = subst (PartsSource d) (sym e) tt
      inner_source {d = d} (inner_wrong f h e) k = subst (PartsSource d) (sym e) tt
      inner_source {d = d} (inner_bad_run g f h i e) k = subst (PartsSource d) (sym e) tt

      sub_source : {len d begun : ℕ} {text : Bytes} {q : Out (List Token)} → IsSub deep len d begun text q → IsClean text → SubSource d q
      sub_source {d = d} (sub_deep h e) k = subst (SubSource d) (sym e) tt
      sub_source {d = d} {q = q} (sub_items h x) k = sub_of d q h (items_source x k)

    -- the tokens of a text
    pub cut_source : {len : ℕ} {text rest : Bytes} {ts : Tokens} → IsItems deep len 0 0 0 text (Whole ts rest) → IsClean text → Sound deep 0 true ts
    cut_source x k = items_source x k
