-- Lines of one command of plain words each are read as those commands, one after another.
use Rattle.std.proofs.Common.{◌≡◌, ℕ, Bool, true, List, [], ◌∷◌, refl, sym, ap, ◌∙◌, subst}
use Rattle.shell_syntax.specs.declared.syntax.Command.{Command}
use Rattle.shell_syntax.specs.declared.syntax.Command.TheVariants as c
use Rattle.shell_syntax.specs.declared.syntax.Word.{Word}
use Rattle.shell_syntax.specs.declared.syntax.Part.TheVariants as part
use Rattle.shell_lexer.specs.declared.token.Token.{Token}
use Rattle.shell_lexer.specs.declared.token.TokenKind.{out-TokenKind, out-roll-TokenKind}
use Rattle.shell_lexer.specs.declared.token.TokenKind.TheVariants as token
use Rattle.shell_lexer.specs.declared.token.RawPart.{RawPart, out-RawPart, out-roll-RawPart}
use Rattle.shell_lexer.specs.declared.token.RawPart.TheVariants as raw
use Rattle.shell_lexer.specs.declared.token.RawPart.TheOpen as o
use Rattle.shell_lexer.specs.Reading.{token_at}
use Rattle.shell_grammar.specs.declared.items.Items.{Items}
use Rattle.shell_grammar.specs.declared.look.Look.{Look}
use Rattle.shell_grammar.specs.declared.look.Look.TheVariants.{AtEnd, Newline, Name, Other}
use Rattle.shell_grammar.specs.Look.{Text, Tokens, look, place, kind_look, kind_word, first_look, whole_look, reserved}
use Rattle.shell_grammar.specs.Grammar.{Rule, Script, Body, Newlines, Members, More, Behind, AndOr, Links, Pipeline, Piped}
use Rattle.shell_grammar.specs.Grammar.{Bars, ACommand, Named, SimpleItems, Sign, AWord, Tree, Value, Values}
use Rattle.shell_grammar.specs.Grammar.{production}
use Rattle.shell_grammar.specs.Reading.{Whole, Faultless, plainly, IsRule, rule, IsAll, no_more, one_more, IsSign, is, a_word}
use Rattle.shell_grammar.specs.Reading.{here, of, no_parts, plain_part}
use Rattle.shell_grammar.specs.Trees.{seq_of, word_at, Continues}

-- ---- how tokens look

abbrev pub plain_token : ℕ → Text → Token
plain_token at w = token_at at (token.Word (raw.Plain w ∷ []))

abbrev pub line_end : ℕ → Token
line_end at = token_at at token.Newline

abbrev pub plain_word : ℕ → Text → Word
plain_word at w = word_at at (part.Plain w ∷ [])

seen_word : (ps : List RawPart) → out-TokenKind (token.Word ps) ≡ o.Word ps
seen_word ps = ap out-TokenKind (sym (token.rolls-Word ps)) ∙ out-roll-TokenKind (o.Word ps)

seen_newline : out-TokenKind token.Newline ≡ o.Newline
seen_newline = ap out-TokenKind (sym token.rolls-Newline) ∙ out-roll-TokenKind o.Newline

seen_plain : (w : Text) → out-RawPart (raw.Plain w) ≡ o.Plain w
seen_plain w = ap out-RawPart (sym (raw.rolls-Plain w)) ∙ out-roll-RawPart (o.Plain w)

pub look_plain : (at : ℕ) (w : Text) (ts : Tokens) → look (plain_token at w ∷ ts) ≡ whole_look w (reserved w)
look_plain at w ts = ap kind_look (seen_word (raw.Plain w ∷ [])) ∙ ap (λ r. first_look r []) (seen_plain w)

look_newline : (at : ℕ) (ts : Tokens) → look (line_end at ∷ ts) ≡ Newline
look_newline at ts = ap kind_look seen_newline

module _ (deep : ℕ → Bool) (end : ℕ) where
  abbrev pub Reads : (n : Rule) → Tokens → Tree n → Tokens → Type 0
  Reads n ts v rest = IsRule deep 0 end n ts (Whole v rest)

  abbrev ReadsSign : (s : Sign) → Tokens → Value s → Tokens → Type 0
  ReadsSign s ts v rest = IsSign deep 0 end s ts (Whole v rest)

  abbrev ReadsAll : (ss : List Sign) → Tokens → Values ss → Tokens → Type 0
  ReadsAll ss ts vs rest = IsAll deep 0 end ss ts (Whole vs rest)

  -- ---- readings by their pieces

  done : (ts : Tokens) → ReadsAll [] ts tt ts
  done ts = no_more refl

  more : {s : Sign} {ss : List Sign} {ts next rest : Tokens} {v : Value s} {vs : Values ss} → ReadsSign s ts v next
      → ReadsAll ss next vs rest → ReadsAll (s ∷ ss) ts (v, vs) rest
  more {next = next} {rest = rest} {v = v} {vs = vs} x y = one_more v next (Whole vs rest) x y refl

  by_look : {n : Rule} {ts rest : Tokens} (l : Look) → look ts ≡ l → (vs : Values (production n l).signs)
      → ReadsAll (production n l).signs ts vs rest → Reads n ts ((production n l).tree vs) rest
  by_look {n} {ts} {rest} l e =
      subst (λ l. (vs : Values (production n l).signs) → ReadsAll (production n l).signs ts vs rest
      → Reads n ts ((production n l).tree vs) rest) e
      (λ vs x. rule (Whole vs rest) x refl)

  a_plain_word : (at : ℕ) (w : Text) (ts : Tokens) → ReadsSign AWord (plain_token at w ∷ ts) (plain_word at w) ts
  a_plain_word at w ts =
      a_word (raw.Plain w ∷ []) (part.Plain w ∷ []) (ap kind_word (seen_word (raw.Plain w ∷ [])))
      (plain_part (part.Plain w) (Faultless []) (ap plainly (seen_plain w)) (no_parts refl) refl) refl

  -- ---- a command of plain words

  abbrev words_alone : List Word → Items
  words_alone words = record { assigns = []; words = words; redirects = [] }

  abbrev pub Words : Tokens → List Word → Tokens → Type 0
  Words ts words rest = Reads (SimpleItems true) ts (words_alone words) rest

  pub no_word_more : (at : ℕ) (ts : Tokens) → Words (line_end at ∷ ts) [] (line_end at ∷ ts)
  no_word_more at ts = by_look Newline (look_newline at ts) tt (done (line_end at ∷ ts))

  pub word_more : (at : ℕ) (w : Text) (ts rest : Tokens) (words : List Word) → whole_look w (reserved w) ≡ Other
      → Words ts words rest → Words (plain_token at w ∷ ts) (plain_word at w ∷ words) rest
  word_more at w ts rest words e x =
      by_look Other (look_plain at w ts ∙ e) (plain_word at w, (words_alone words, tt)) (more (a_plain_word at w ts) (more (of x) (done rest)))

  -- the name of what is run, which is no reserved word, and at least one further word
  pub command : (at : ℕ) (w : Text) (ts rest : Tokens) (words : List Word) → whole_look w (reserved w) ≡ Name
      → look ts ≡ Other → Words ts words rest
      → Reads ACommand (plain_token at w ∷ ts) (c.Simple at [] (plain_word at w ∷ words)) rest
  command at w ts rest words e behind x =
      let tail : Reads Named ts (Continues (words_alone words)) rest = by_look Other behind (words_alone words, tt) (more (of x) (done rest)) in
      by_look Name (look_plain at w ts ∙ e) (at, (plain_word at w, (Continues (words_alone words), tt)))
      (more (here refl) (more (a_plain_word at w ts) (more (of tail) (done rest))))

  -- ---- commands, a line each

  module _ (at : ℕ) (ts rest : Tokens) (one : Command) (begins : look ts ≡ Name)
      (reads : Reads ACommand ts one (line_end at ∷ rest)) where
    abbrev behind : Tokens
    behind = line_end at ∷ rest

    bars : Reads Bars behind [] behind
    bars = by_look Newline (look_newline at rest) tt (done behind)

    links : Reads Links behind [] behind
    links = by_look Newline (look_newline at rest) tt (done behind)

    piped : Reads Piped ts one behind
    piped = by_look Name begins (place end ts, (one, ([], tt))) (more (here refl) (more (of reads) (more (of bars) (done behind))))

    pipeline : Reads Pipeline ts one behind
    pipeline = by_look Name begins (one, tt) (more (of piped) (done behind))

    and_or : Reads AndOr ts one behind
    and_or = by_look Name begins (one, ([], tt)) (more (of pipeline) (more (of links) (done behind)))

  -- what stands behind a newline: commands up to the tokens' end
  pub record Lines (ts : Tokens) (commands : List Command) : Type 0 where
    pub newlines : Reads Newlines ts tt ts
    pub reads : Reads Behind ts commands []

  pub no_line : Lines [] []
  no_line = record { newlines = by_look AtEnd refl tt (done []); reads = by_look AtEnd refl tt (done []) }

  further : (at : ℕ) (rest : Tokens) (commands : List Command) → Lines rest commands → Reads More (line_end at ∷ rest) commands []
  further at rest commands lines =
      by_look Newline (look_newline at rest) (at, (tt, (commands, tt)))
      (more (is (look_newline at rest) refl) (more (of lines.newlines) (more (of lines.reads) (done []))))

  pub line_more : (at : ℕ) (ts rest : Tokens) (one : Command) (commands : List Command) → look ts ≡ Name
      → Reads ACommand ts one (line_end at ∷ rest) → Lines rest commands → Lines ts (one ∷ commands)
  line_more at ts rest one commands begins reads lines = record {
    newlines = by_look Name begins tt (done ts);
    reads = by_look Name begins (one, (commands, tt))
        (more (of (and_or at ts rest one begins reads)) (more (of (further at rest commands lines)) (done [])));
  }

  pub whole_script : (at : ℕ) (ts rest : Tokens) (one : Command) (commands : List Command) → look ts ≡ Name
      → Reads ACommand ts one (line_end at ∷ rest) → Lines rest commands → Reads Script ts (seq_of (one ∷ commands)) []
  whole_script at ts rest one commands begins reads lines =
      let tree = seq_of (one ∷ commands) in
      let members : Reads Members ts tree [] =
      by_look Name begins (one, (commands, tt))
      (more (of (and_or at ts rest one begins reads)) (more (of (further at rest commands lines)) (done [])))
      in
      let body : Reads Body ts tree [] = by_look Name begins (tree, tt) (more (of members) (done [])) in
      by_look Name begins (tt, (tree, (end, tt)))
      (more (of (by_look Name begins tt (done ts))) (more (of body) (more (is refl refl) (done []))))
