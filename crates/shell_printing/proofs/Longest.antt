-- In tokens that are cut from a text the runs of each word are longest, also in the words of substitutions.
use Rattle.std.proofs.Common.{◌≡◌, ℕ, zero, suc, Bool, true, false, List, [], ◌∷◌, ◌++◌, Some, None, sym, ap, subst}
use Rattle.shell_lexer.specs.declared.token.Token.{Token}
use Rattle.shell_lexer.specs.declared.token.TokenKind.{out-TokenKind}
use Rattle.shell_lexer.specs.declared.token.TokenKind.TheVariants as token
use Rattle.shell_lexer.specs.declared.token.RawPart.{RawPart, out-RawPart}
use Rattle.shell_lexer.specs.declared.token.RawPart.TheVariants as raw
use Rattle.shell_syntax.specs.declared.syntax.Part.{Part}
use Rattle.shell_syntax.specs.declared.syntax.Part.TheVariants as part
use Rattle.shell_lexer.specs.declared.token.RawPart.TheOpen as o
use Rattle.token_laws.specs.Laws.{PlainRunsAreLongest, PartsAreSpelled}
use Rattle.token_laws.specs.LongestRuns.{plain_runs_are_longest}
use Rattle.shell_lexer.specs.Parts.{look, inner}
use Rattle.shell_lexer.specs.Reading.{Out, Whole, Stop, Read, behind, ended, token_at, plain_run, quoted_run, last_run, IsItems, items_end, items_pass, items_wrong, items_close, items_sign, items_word, items_late, items_bad, IsWord, word_ends, word_byte, word_piece, word_all, word_double, word_run, word_wrong, word_bad_double, word_bad_run, IsInner, inner_open, inner_ends, inner_byte, inner_piece, inner_all, inner_run, inner_wrong, inner_bad_run, IsSub, sub_deep, sub_items}
use Rattle.shell_lexer.specs.SpelledParts.{IsPiece}
use Rattle.shell_lexer.specs.Text.{Bytes}
use Rattle.shell_grammar.specs.Look.{Tokens, kind_word}
use Rattle.shell_grammar.specs.Reading.{plainly}
use Rattle.shell_printing.specs.Laws.{CutRunsAreLongest}
use Rattle.shell_printing.specs.Runs.{RunsAreLongest, no_token, other_token, word_token, PartsAreLongest, no_part, other_part, substitution}
use Rattle.shell_printing.proofs.Signs.{NoWord, sight_no_word}
use Rattle.shell_printing.proofs.ZeroedTokens.{seen_kind, seen_plain, seen_quoted, seen_param, seen_all, seen_run}

-- ---- parts that are no substitution

-- a part without a substitution
abbrev pub Simple : RawPart → Type 0
Simple p = (x : Part) × (plainly (out-RawPart p) ≡ Some x)

pub plain_simple : (w : Bytes) → Simple (raw.Plain w)
plain_simple w = (part.Plain w, ap plainly (seen_plain w))

pub quoted_simple : (w : Bytes) → Simple (raw.Quoted w)
quoted_simple w = (part.Quoted w, ap plainly (seen_quoted w))

pub all_simple : Simple raw.All
all_simple = (part.All, ap plainly seen_all)

pub piece_simple : (inside : Bool) (p : RawPart) (text rest : Bytes) → IsPiece inside p text rest → Simple p
piece_simple inside (raw.Param key default quoted) text rest h = (part.Param key default quoted, ap plainly (seen_param key default quoted))
piece_simple inside (raw.Quoted bytes) text rest h = quoted_simple bytes
piece_simple inside _ text rest h = absurd h

-- ---- lists of parts

one_part : (p : RawPart) (ps : List RawPart) → Simple p → PartsAreLongest ps → PartsAreLongest (p ∷ ps)
one_part p ps n m = other_part n.0 n.1 m

long_append : (ps qs : List RawPart) → PartsAreLongest ps → PartsAreLongest qs → PartsAreLongest (ps ++ qs)
long_append [] qs no_part m = m
long_append (p ∷ ps) qs (other_part x e n) m = other_part x e (long_append ps qs n m)
long_append (p ∷ ps) qs (substitution at ts quoted e l n) m = substitution at ts quoted e l (long_append ps qs n m)

long_plain : (run : Bytes) → PartsAreLongest (plain_run run)
long_plain [] = no_part
long_plain (b ∷ run) = one_part (raw.Plain (b ∷ run)) [] (plain_simple (b ∷ run)) no_part

long_quoted : (run : Bytes) → PartsAreLongest (quoted_run run)
long_quoted [] = no_part
long_quoted (b ∷ run) = one_part (raw.Quoted (b ∷ run)) [] (quoted_simple (b ∷ run)) no_part

long_last : (fresh : Bool) (run : Bytes) → PartsAreLongest (last_run fresh run)
long_last true [] = one_part (raw.Quoted []) [] (quoted_simple []) no_part
long_last true (b ∷ run) = long_quoted (b ∷ run)
long_last false run = long_quoted run

long_run : (at : ℕ) (ts : Tokens) (quoted : Bool) → RunsAreLongest ts → PartsAreLongest (raw.Run at ts quoted ∷ [])
long_run at ts quoted m = substitution at ts quoted (seen_run at ts quoted) m no_part

-- ---- whole outcomes

abbrev ItemsLong : Out (List Token) → Type 0
ItemsLong (Whole ts rest) = RunsAreLongest ts
ItemsLong (Stop f) = Unit {0}

abbrev ReadLong : Out Read → Type 0
ReadLong (Whole v rest) = PartsAreLongest v.0
ReadLong (Stop f) = Unit {0}

long_ended : (depth start : ℕ) → ItemsLong (ended depth start)
long_ended zero start = no_token
long_ended (suc depth) start = tt

long_operator : (t : Token) (q : Out (List Token)) → kind_word (out-TokenKind t.kind) ≡ None → ItemsLong q → ItemsLong (behind (t ∷ []) q)
long_operator t (Stop f) e m = tt
long_operator t (Whole ts rest) e m = other_token e m

long_word : (at : ℕ) (ps : List RawPart) (q : Out (List Token)) → plain_runs_are_longest false ps ≡ true → PartsAreLongest ps → ItemsLong q → ItemsLong (behind (token_at at (token.Word ps) ∷ []) q)
long_word at ps (Stop f) l p m = tt
long_word at ps (Whole ts rest) l p m = word_token ps (ap kind_word (seen_kind (o.Word ps))) l p m

module _ (runs : PlainRunsAreLongest) (outside : PartsAreSpelled look false) (inside : PartsAreSpelled inner true) where
  mutual
    long_items : {deep : ℕ → Bool} {len depth begun parens : ℕ} {text : Bytes} {q : Out (List Token)} → IsItems deep len depth begun parens text q → ItemsLong q
    long_items {depth = depth} {begun = begun} (items_end h e) = subst ItemsLong (sym e) (long_ended depth begun)
    long_items (items_pass t h x) = long_items x
    long_items (items_wrong f h e) = subst ItemsLong (sym e) tt
    long_items (items_close s t h c e) = subst ItemsLong (sym e) no_token
    long_items {len = len} {text = text} (items_sign s t q1 h c x e) = subst ItemsLong (sym e) (long_operator _ q1 (subst NoWord h (sight_no_word len text)) (long_items x))
    long_items {deep} {len} {depth} {text = text} (items_word v t q1 h w l x e) = subst ItemsLong (sym e) (long_word _ v.0 q1 (runs deep len depth text t v w) (long_read w) (long_items x))
    long_items (items_late v t f h w l e) = subst ItemsLong (sym e) tt
    long_items (items_bad f h w e) = subst ItemsLong (sym e) tt

    long_read : {deep : ℕ → Bool} {len depth : ℕ} {run text : Bytes} {q : Out Read} → IsWord deep len depth run text q → ReadLong q
    long_read {run = run} (word_ends h e) = subst ReadLong (sym e) (long_plain run)
    long_read (word_byte b t (Whole v1 r1) h x e) = subst ReadLong (sym e) ((long_read x))
    long_read (word_byte b t (Stop f) h x e) = subst ReadLong (sym e) tt
    long_read {len = len} {run = run} {text = text} (word_piece p t (Whole v1 r1) h x e) = subst ReadLong (sym e) (long_append (plain_run run ++ p ∷ []) v1.0 (long_append (plain_run run) (p ∷ []) (long_plain run) (one_part p [] (piece_simple false p text t ((outside len text t p).0 h)) no_part)) (long_read x))
    long_read {len = len} {run = run} {text = text} (word_piece p t (Stop f) h x e) = subst ReadLong (sym e) tt
    long_read {run = run} (word_all t (Whole v1 r1) h x e) = subst ReadLong (sym e) (long_append (plain_run run ++ raw.All ∷ []) v1.0 (long_append (plain_run run) (raw.All ∷ []) (long_plain run) (one_part raw.All [] all_simple no_part)) (long_read x))
    long_read {run = run} (word_all t (Stop f) h x e) = subst ReadLong (sym e) tt
    long_read {run = run} (word_double g v t (Whole v1 r1) h i x e) = subst ReadLong (sym e) (long_append (plain_run run ++ v.0) v1.0 (long_append (plain_run run) v.0 (long_plain run) (long_inner i)) (long_read x))
    long_read {run = run} (word_double g v t (Stop f) h i x e) = subst ReadLong (sym e) tt
    long_read {run = run} (word_run g ts t (Whole v1 r1) h i x e) = subst ReadLong (sym e) (long_append (plain_run run ++ raw.Run _ ts false ∷ []) v1.0 (long_append (plain_run run) (raw.Run _ ts false ∷ []) (long_plain run) (long_run _ ts false (long_sub i))) (long_read x))
    long_read {run = run} (word_run g ts t (Stop f) h i x e) = subst ReadLong (sym e) tt
    long_read (word_wrong f h e) = subst ReadLong (sym e) tt
    long_read (word_bad_double g f h i e) = subst ReadLong (sym e) tt
    long_read (word_bad_run g f h i e) = subst ReadLong (sym e) tt

    long_inner : {deep : ℕ → Bool} {len depth begun : ℕ} {fresh : Bool} {run text : Bytes} {q : Out Read} → IsInner deep len depth begun fresh run text q → ReadLong q
    long_inner (inner_open h e) = subst ReadLong (sym e) tt
    long_inner {fresh = fresh} {run = run} (inner_ends t h e) = subst ReadLong (sym e) (long_last fresh run)
    long_inner (inner_byte b t (Whole v1 r1) h x e) = subst ReadLong (sym e) ((long_inner x))
    long_inner (inner_byte b t (Stop f) h x e) = subst ReadLong (sym e) tt
    long_inner {len = len} {run = run} {text = text} (inner_piece p t (Whole v1 r1) h x e) = subst ReadLong (sym e) (long_append (quoted_run run ++ p ∷ []) v1.0 (long_append (quoted_run run) (p ∷ []) (long_quoted run) (one_part p [] (piece_simple true p text t ((inside len text t p).0 h)) no_part)) (long_inner x))
    long_inner {len = len} {run = run} {text = text} (inner_piece p t (Stop f) h x e) = subst ReadLong (sym e) tt
    long_inner {run = run} (inner_all t (Whole v1 r1) h x e) = subst ReadLong (sym e) (long_append (quoted_run run ++ raw.All ∷ []) v1.0 (long_append (quoted_run run) (raw.All ∷ []) (long_quoted run) (one_part raw.All [] all_simple no_part)) (long_inner x))
    long_inner {run = run} (inner_all t (Stop f) h x e) = subst ReadLong (sym e) tt
    long_inner {run = run} (inner_run g ts t (Whole v1 r1) h i x e) = subst ReadLong (sym e) (long_append (quoted_run run ++ raw.Run _ ts true ∷ []) v1.0 (long_append (quoted_run run) (raw.Run _ ts true ∷ []) (long_quoted run) (long_run _ ts true (long_sub i))) (long_inner x))
    long_inner {run = run} (inner_run g ts t (Stop f) h i x e) = subst ReadLong (sym e) tt
    long_inner (inner_wrong f h e) = subst ReadLong (sym e) tt
    long_inner (inner_bad_run g f h i e) = subst ReadLong (sym e) tt

    long_sub : {deep : ℕ → Bool} {len depth begun : ℕ} {text : Bytes} {q : Out (List Token)} → IsSub deep len depth begun text q → ItemsLong q
    long_sub (sub_deep h e) = subst ItemsLong (sym e) tt
    long_sub (sub_items h x) = long_items x

  pub cut_long : CutRunsAreLongest
  cut_long deep text l x = long_items x.body
