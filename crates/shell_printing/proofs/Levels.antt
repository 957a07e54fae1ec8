-- How printed tokens are read: pieces of readings, and what a command's tokens are at each level of the grammar.
use Rattle.std.proofs.Common.{◌≡◌, ℕ, suc, Bool, true, false, if◌then◌else◌, nat_le, List, [], ◌∷◌, ◌++◌, append_assoc, ◌⊎◌, inl, inr, Some, None, codes, refl, sym, ap, ◌∙◌, subst}
use Rattle.shell_syntax.specs.declared.level.Level.{Level}
use Rattle.shell_syntax.specs.declared.level.Level.TheVariants as level
use Rattle.shell_syntax.specs.declared.syntax.Command.{Command}
use Rattle.shell_syntax.specs.declared.syntax.Command.TheVariants as c
use Rattle.shell_syntax.specs.Printed.{rank}
use Rattle.shell_lexer.specs.declared.token.TokenKind.{TokenKind}
use Rattle.shell_lexer.specs.declared.token.TokenKind.TheVariants as token
use Rattle.shell_lexer.specs.declared.token.RawPart.{RawPart}
use Rattle.shell_lexer.specs.declared.token.RawPart.TheVariants as raw
use Rattle.shell_lexer.specs.declared.token.RawPart.TheOpen as o
use Rattle.shell_grammar.specs.declared.form.CommandForm.TheVariants as command
use Rattle.shell_grammar.specs.declared.form.CompoundForm.TheVariants as compound
use Rattle.shell_grammar.specs.declared.items.Items.{Items}
use Rattle.shell_grammar.specs.declared.look.Look.{Look}
use Rattle.shell_grammar.specs.declared.look.Look.TheVariants.{AtEnd, Newline, DoubleSemi, AndAnd, OrOr, Bar, LeftParen, RightParen, Redirection, Keyword, Name, Assignment, Other}
use Rattle.shell_grammar.specs.declared.look.Reserved.TheVariants.{Open}
use Rattle.shell_grammar.specs.Forms.{command_form, compound_form, starts, is_some, is_word, redirection, link_and}
use Rattle.shell_grammar.specs.Grammar.{Rule, Newlines, Block, Members, More, Behind, AndOr, Links, Pipeline, Piped, Bars, ACommand, Compound, Braces, SimpleItems, Redirects, Sign, Is, Opens, Here, Tree, Value, Values, Production, production, production_more, production_behind, production_links, production_command, production_compound, production_redirects}
use Rattle.shell_grammar.specs.Look.{Text, Tokens, look, word, place, kind_look, kind_word, word_look, first_look, whole_look, reserved}
use Rattle.shell_grammar.specs.Reading.{Out, Whole, Stop, turned, Judged, Faultless, Faulty, after, IsRule, rule, IsAll, no_more, one_more, one_stops, IsSign, is, is_not, opens, opens_not, too_deep, a_word as reads_word, a_word_stops, no_word, here, never, of, inside, IsParts, no_parts, plain_part, run_part, run_stops, run_deep}
use Rattle.shell_lexer.proofs.PrintedBytes.{clash}
use Rattle.shell_grammar.proofs.Behind.{behind_pipeline, behind_list, is_newline, is_open, list_separator, list_newline, list_starts_none, start_newline, form_starts}
use Rattle.shell_printing.specs.Zeroed.{kind_layer, zeroed}
use Rattle.shell_printing.specs.PrintedTokens.{Phrase, word_token, plain_token, operator, line, braced, placed, phrase}
use Rattle.shell_printing.proofs.ZeroedTokens.{SeenKind, seen_kind, seen_plain}
use Rattle.shell_grammar.proofs.ToTable.{newlines_row, pipeline_row, bars_row}

-- ---- how printed tokens look

pub look_kind : (s : SeenKind) (ts : Tokens) → look (operator (kind_layer s) ∷ ts) ≡ kind_look s
look_kind s ts = ap kind_look (seen_kind s)

pub look_word : (raws : List RawPart) (ts : Tokens) → look (word_token raws ∷ ts) ≡ word_look raws
look_word raws ts = look_kind (o.Word raws) ts

pub look_plain : (w : Text) (ts : Tokens) → look (plain_token w ∷ ts) ≡ whole_look w (reserved w)
look_plain w ts = look_word (raw.Plain w ∷ []) ts ∙ ap (λ r. first_look r []) (seen_plain w)

pub word_of : (raws : List RawPart) (ts : Tokens) → word (word_token raws ∷ ts) ≡ Some raws
word_of raws ts = ap kind_word (seen_kind (o.Word raws))

-- ---- what may stand directly behind an and-or list, a pipeline, a command

abbrev pub after_and_or : Look → Bool
after_and_or AtEnd = true
after_and_or Newline = true
after_and_or DoubleSemi = true
after_and_or RightParen = true
after_and_or _ = false

abbrev pub after_pipeline : Look → Bool
after_pipeline AndAnd = true
after_pipeline OrOr = true
after_pipeline l = after_and_or l

abbrev pub after_command : Look → Bool
after_command Bar = true
after_command l = after_pipeline l

pub and_or_pipeline : (l : Look) → after_and_or l ≡ true → after_pipeline l ≡ true
and_or_pipeline AndAnd e = refl
and_or_pipeline OrOr e = refl
and_or_pipeline _ e = e

pub pipeline_command : (l : Look) → after_pipeline l ≡ true → after_command l ≡ true
pipeline_command Bar e = refl
pipeline_command _ e = e

pub no_redirect : (l : Look) → after_command l ≡ true → redirection l ≡ None
no_redirect (Redirection which) e = absurd (clash refl e)
no_redirect _ e = refl

pub not_a_word : (l : Look) → after_command l ≡ true → is_word l ≡ false
not_a_word (Keyword which) e = absurd (clash refl e)
not_a_word Name e = absurd (clash refl e)
not_a_word Assignment e = absurd (clash refl e)
not_a_word Other e = absurd (clash refl e)
not_a_word _ e = refl

pub not_open : (l : Look) → after_command l ≡ true → is_open l ≡ false
not_open LeftParen e = absurd (clash refl e)
not_open _ e = refl

pub no_bar : (l : Look) → after_pipeline l ≡ true → behind_pipeline l ≡ true
no_bar LeftParen e = absurd (clash refl e)
no_bar (Redirection which) e = absurd (clash refl e)
no_bar Bar e = absurd (clash refl e)
no_bar _ e = refl

pub no_link : (l : Look) → after_and_or l ≡ true → link_and l ≡ None
no_link AndAnd e = absurd (clash refl e)
no_link OrOr e = absurd (clash refl e)
no_link _ e = refl

-- ---- rows that are the same for many kinds of tokens

-- ---- the end of a list

-- what stands behind a list, and what is left of it behind the separator that belongs to the list
pub data Closes : Tokens → Tokens → Type 0 where
  closes_here : {rest : Tokens} → behind_list (look rest) ≡ true → after_and_or (look rest) ≡ true → Closes rest rest
  closes_line : {rest : Tokens} → behind_list (look rest) ≡ true → Closes (line ∷ rest) rest

pub closes_and_or : {behind rest : Tokens} → Closes behind rest → after_and_or (look behind) ≡ true
closes_and_or (closes_here b e) = e
closes_and_or (closes_line {rest = rest} b) = ap after_and_or (look_kind o.Newline rest)

abbrev is_whole : {A : Type 0} → Out A → Bool
is_whole (Whole v r) = true
is_whole (Stop f r) = false

abbrev is_faultless : Judged → Bool
is_faultless (Faultless ps) = true
is_faultless (Faulty f) = false

whole_turned : {A B : Type 0} (f : A → B) (q : Out A) → is_whole (turned f q) ≡ is_whole q
whole_turned f (Whole v r) = refl
whole_turned f (Stop g r) = refl

faultless_after : (p : _) (q : Judged) → is_faultless (after p q) ≡ is_faultless q
faultless_after p (Faultless ps) = refl
faultless_after p (Faulty f) = refl

module _ (deep : ℕ → Bool) where
  -- ---- readings by their pieces

  pub tok : {d : ℕ} {l : Look} (k : TokenKind) (ts : Tokens) → look (operator k ∷ ts) ≡ l → IsSign deep d 0 (Is l) (operator k ∷ ts) (Whole 0 ts)
  tok k ts e = is e refl

  pub opn : {d : ℕ} {l : Look} (k : TokenKind) (ts : Tokens) → deep d ≡ false → look (operator k ∷ ts) ≡ l → IsSign deep d 0 (Opens l) (operator k ∷ ts) (Whole 0 ts)
  opn k ts g e = opens e g refl

  pub hre : {d : ℕ} {ts : Tokens} → place 0 ts ≡ 0 → IsSign deep d 0 Here ts (Whole 0 ts)
  hre {ts = ts} p = here (ap (λ n. Whole n ts) (sym p))

  pub done : {d : ℕ} {ts : Tokens} → IsAll deep d 0 [] ts (Whole tt ts)
  done = no_more refl

  pub more : {d : ℕ} {s : Sign} {ss : List Sign} {ts t1 r : Tokens} {v : Value s} {vs : Values ss} → IsSign deep d 0 s ts (Whole v t1) → IsAll deep d 0 ss t1 (Whole vs r) → IsAll deep d 0 (s ∷ ss) ts (Whole (v, vs) r)
  more {t1 = t1} {r = r} {v = v} {vs = vs} x y = one_more v t1 (Whole vs r) x y refl

  pub made : {d : ℕ} {n : Rule} {ts r : Tokens} (p : Production n) → production n (look ts) ≡ p → (vs : Values p.signs) → IsAll deep d 0 p.signs ts (Whole vs r) → IsRule deep d 0 n ts (Whole (p.tree vs) r)
  made {d} {n} {ts} {r} p e vs x =
      subst (λ p. (vs : Values p.signs) → IsAll deep d 0 p.signs ts (Whole vs r) → IsRule deep d 0 n ts (Whole (p.tree vs) r)) e (λ vs x. rule (Whole vs r) x refl) vs x

  pub ruled : {d : ℕ} {n : Rule} {ts r : Tokens} (l : Look) → look ts ≡ l → (vs : Values (production n l).signs) → IsAll deep d 0 (production n l).signs ts (Whole vs r) → IsRule deep d 0 n ts (Whole ((production n l).tree vs) r)
  ruled {n = n} l e vs x = made (production n l) (ap (production n) e) vs x

  pub moved : {d : ℕ} {n : Rule} {ts us r : Tokens} {v : Tree n} → us ≡ ts → IsRule deep d 0 n ts (Whole v r) → IsRule deep d 0 n us (Whole v r)
  moved {d} {n} {r = r} {v = v} e x = subst (λ ts. IsRule deep d 0 n ts (Whole v r)) (sym e) x

  pub valued : {d : ℕ} {n : Rule} {ts r : Tokens} {v w : Tree n} → w ≡ v → IsRule deep d 0 n ts (Whole v r) → IsRule deep d 0 n ts (Whole w r)
  valued {d} {n} {ts} {r} e x = subst (λ v. IsRule deep d 0 n ts (Whole v r)) (sym e) x

  -- ---- nothing is there

  pub newlines_none : {d : ℕ} {ts : Tokens} → is_newline (look ts) ≡ false → IsRule deep d 0 Newlines ts (Whole tt ts)
  newlines_none {ts = ts} h = made _ (newlines_row (look ts) h) tt done

  pub one_newline : {d : ℕ} {ts : Tokens} → is_newline (look ts) ≡ false → IsRule deep d 0 Newlines (line ∷ ts) (Whole tt ts)
  one_newline {ts = ts} h = ruled Newline (look_kind o.Newline ts) (0, (tt, tt)) (more (tok token.Newline ts (look_kind o.Newline ts)) (more (of (newlines_none h)) done))

  pub redirects_none : {d : ℕ} {ts : Tokens} → after_command (look ts) ≡ true → IsRule deep d 0 Redirects ts (Whole [] ts)
  redirects_none {ts = ts} h = made (production_redirects None) (ap production_redirects (no_redirect (look ts) h)) tt done

  pub bars_none : {d : ℕ} {ts : Tokens} → after_pipeline (look ts) ≡ true → IsRule deep d 0 Bars ts (Whole [] ts)
  bars_none {ts = ts} h = made _ (bars_row (look ts) (no_bar (look ts) h)) tt done

  pub links_none : {d : ℕ} {ts : Tokens} → after_and_or (look ts) ≡ true → IsRule deep d 0 Links ts (Whole [] ts)
  links_none {ts = ts} h = made (production_links (look ts) None) (ap (production_links (look ts)) (no_link (look ts) h)) tt done

  behind_none : {d : ℕ} {ts : Tokens} → behind_list (look ts) ≡ true → IsRule deep d 0 Behind ts (Whole [] ts)
  behind_none {ts = ts} h = made (production_behind false) (ap production_behind (list_starts_none (look ts) h)) tt done

  pub closes_more : {d : ℕ} {behind rest : Tokens} → Closes behind rest → IsRule deep d 0 More behind (Whole [] rest)
  closes_more (closes_here {rest = rest} b e) = made (production_more (look rest) false) (ap (production_more (look rest)) (list_separator (look rest) b)) tt done
  closes_more (closes_line {rest = rest} b) =
      ruled Newline (look_kind o.Newline rest) (0, (tt, ([], tt)))
      (more (tok token.Newline rest (look_kind o.Newline rest)) (more (of (newlines_none (list_newline (look rest) b))) (more (of (behind_none b)) done)))

  -- ---- a command's tokens at each level

  pub record AsCommand (d : ℕ) (ts : Tokens) (z : Command) : Type 0 where
    pub begins : (rest : Tokens) → place 0 (ts ++ rest) ≡ 0
    pub looks : (rest : Tokens) → is_some (command_form (look (ts ++ rest))) ≡ true
    pub reads : (rest : Tokens) → after_command (look rest) ≡ true → IsRule deep d 0 ACommand (ts ++ rest) (Whole z rest)

  pub record AsCompound (d : ℕ) (ts : Tokens) (z : Command) : Type 0 where
    pub begins : (rest : Tokens) → place 0 (ts ++ rest) ≡ 0
    pub looks : (rest : Tokens) → command_form (look (ts ++ rest)) ≡ Some command.Compound
    pub reads : (rest : Tokens) → IsRule deep d 0 Compound (ts ++ rest) (Whole z rest)

  -- the items of a simple command, which may be none
  pub record AsItems (d : ℕ) (ts : Tokens) (z : Command) : Type 0 where
    pub items : Items
    pub is : z ≡ c.Simple 0 items.assigns items.words
    pub none : items.redirects ≡ []
    pub reads : (rest : Tokens) → after_command (look rest) ≡ true → IsRule deep d 0 (SimpleItems false) (ts ++ rest) (Whole items rest)

  pub record AsSequence (d : ℕ) (ts : Tokens) (z : Command) : Type 0 where
    pub begins : (rest : Tokens) → place 0 (ts ++ rest) ≡ 0
    pub looks : (rest : Tokens) → is_some (command_form (look (ts ++ rest))) ≡ true
    pub reads : (rest : Tokens) → after_pipeline (look rest) ≡ true → IsRule deep d 0 Piped (ts ++ rest) (Whole z rest)

  pub record AsPipeline (d : ℕ) (ts : Tokens) (z : Command) : Type 0 where
    pub looks : (rest : Tokens) → starts (look (ts ++ rest)) ≡ true
    pub reads : (rest : Tokens) → after_pipeline (look rest) ≡ true → IsRule deep d 0 Pipeline (ts ++ rest) (Whole z rest)

  pub record AsAndOr (d : ℕ) (ts : Tokens) (z : Command) : Type 0 where
    pub looks : (rest : Tokens) → starts (look (ts ++ rest)) ≡ true
    pub reads : (rest : Tokens) → after_and_or (look rest) ≡ true → IsRule deep d 0 AndOr (ts ++ rest) (Whole z rest)

  pub record AsList (d : ℕ) (ts : Tokens) (z : Command) : Type 0 where
    pub looks : (rest : Tokens) → starts (look (ts ++ rest)) ≡ true
    pub reads : (behind rest : Tokens) → Closes behind rest → IsRule deep d 0 Members (ts ++ behind) (Whole z rest)

  abbrev pub Own : Level → ℕ → Tokens → Command → Type 0
  Own level.Simple d ts z = AsItems d ts z × AsCommand d ts z
  Own level.Compound d ts z = AsCompound d ts z
  Own level.Command d ts z = AsCommand d ts z
  Own level.PipeSequence d ts z = AsSequence d ts z
  Own level.Pipeline d ts z = AsPipeline d ts z
  Own level.AndOr d ts z = AsAndOr d ts z
  Own level.List d ts z = AsList d ts z

  -- ---- from each level to those above it

  pub compound_command : {d : ℕ} {ts : Tokens} {z : Command} → AsCompound d ts z → AsCommand d ts z
  compound_command {z = z} x = record {
    begins = x.begins;
    looks = λ rest. ap is_some (x.looks rest);
    reads = λ rest e.
        made (production_command (Some command.Compound)) (ap production_command (x.looks rest)) (0, (z, ([], tt)))
        (more (hre (x.begins rest)) (more (of (x.reads rest)) (more (of (redirects_none e)) done)));
  }

  pub command_sequence : {d : ℕ} {ts : Tokens} {z : Command} → AsCommand d ts z → AsSequence d ts z
  command_sequence {ts = ts} {z = z} x = record {
    begins = x.begins;
    looks = x.looks;
    reads = λ rest e.
        ruled (look (ts ++ rest)) refl (0, (z, ([], tt)))
        (more (hre (x.begins rest)) (more (of (x.reads rest (pipeline_command (look rest) e))) (more (of (bars_none e)) done)));
  }

  pub sequence_pipeline : {d : ℕ} {ts : Tokens} {z : Command} → AsSequence d ts z → AsPipeline d ts z
  sequence_pipeline {ts = ts} {z = z} x = record {
    looks = λ rest. form_starts (look (ts ++ rest)) (x.looks rest);
    reads = λ rest e. made _ (pipeline_row (look (ts ++ rest)) (x.looks rest)) (z, tt) (more (of (x.reads rest e)) done);
  }

  pub pipeline_and_or : {d : ℕ} {ts : Tokens} {z : Command} → AsPipeline d ts z → AsAndOr d ts z
  pipeline_and_or {ts = ts} {z = z} x = record {
    looks = x.looks;
    reads = λ rest e.
        ruled (look (ts ++ rest)) refl (z, ([], tt))
        (more (of (x.reads rest (and_or_pipeline (look rest) e))) (more (of (links_none e)) done));
  }

  pub and_or_list : {d : ℕ} {ts : Tokens} {z : Command} → AsAndOr d ts z → AsList d ts z
  and_or_list {ts = ts} {z = z} x = record {
    looks = x.looks;
    reads = λ behind rest e.
        ruled (look (ts ++ behind)) refl (z, ([], tt))
        (more (of (x.reads behind (closes_and_or e))) (more (of (closes_more e)) done));
  }

  module _ {d : ℕ} {ts : Tokens} {z : Command} where
    pub up_command : (l : Level) → nat_le (rank l) 2 ≡ true → Own l d ts z → AsCommand d ts z
    up_command level.Simple e x = x.1
    up_command level.Compound e x = compound_command x
    up_command level.Command e x = x
    up_command level.PipeSequence e x = absurd (clash refl e)
    up_command level.Pipeline e x = absurd (clash refl e)
    up_command level.AndOr e x = absurd (clash refl e)
    up_command level.List e x = absurd (clash refl e)

    pub up_sequence : (l : Level) → nat_le (rank l) 3 ≡ true → Own l d ts z → AsSequence d ts z
    up_sequence level.Simple e x = command_sequence x.1
    up_sequence level.Compound e x = command_sequence (compound_command x)
    up_sequence level.Command e x = command_sequence x
    up_sequence level.PipeSequence e x = x
    up_sequence level.Pipeline e x = absurd (clash refl e)
    up_sequence level.AndOr e x = absurd (clash refl e)
    up_sequence level.List e x = absurd (clash refl e)

    pub up_pipeline : (l : Level) → nat_le (rank l) 4 ≡ true → Own l d ts z → AsPipeline d ts z
    up_pipeline level.Simple e x = sequence_pipeline (up_sequence level.Simple refl x)
    up_pipeline level.Compound e x = sequence_pipeline (up_sequence level.Compound refl x)
    up_pipeline level.Command e x = sequence_pipeline (up_sequence level.Command refl x)
    up_pipeline level.PipeSequence e x = sequence_pipeline x
    up_pipeline level.Pipeline e x = x
    up_pipeline level.AndOr e x = absurd (clash refl e)
    up_pipeline level.List e x = absurd (clash refl e)

    pub up_and_or : (l : Level) → nat_le (rank l) 5 ≡ true → Own l d ts z → AsAndOr d ts z
    up_and_or level.Simple e x = pipeline_and_or (up_pipeline level.Simple refl x)
    up_and_or level.Compound e x = pipeline_and_or (up_pipeline level.Compound refl x)
    up_and_or level.Command e x = pipeline_and_or (up_pipeline level.Command refl x)
    up_and_or level.PipeSequence e x = pipeline_and_or (up_pipeline level.PipeSequence refl x)
    up_and_or level.Pipeline e x = pipeline_and_or x
    up_and_or level.AndOr e x = x
    up_and_or level.List e x = absurd (clash refl e)

    pub up_list : (l : Level) → Own l d ts z → AsList d ts z
    up_list level.Simple x = and_or_list (up_and_or level.Simple refl x)
    up_list level.Compound x = and_or_list (up_and_or level.Compound refl x)
    up_list level.Command x = and_or_list (up_and_or level.Command refl x)
    up_list level.PipeSequence x = and_or_list (up_and_or level.PipeSequence refl x)
    up_list level.Pipeline x = and_or_list (up_and_or level.Pipeline refl x)
    up_list level.AndOr x = and_or_list x
    up_list level.List x = x

  -- ---- a block, and a list in braces

  pub block_read : {d : ℕ} {ts : Tokens} {z : Command} → AsList d ts z → (behind rest : Tokens) → Closes behind rest → IsRule deep d 0 Block (ts ++ behind) (Whole z rest)
  block_read {ts = ts} {z = z} x behind rest e =
      ruled (look (ts ++ behind)) refl (tt, (z, tt)) (more (of (newlines_none (start_newline (look (ts ++ behind)) (x.looks behind)))) (more (of (x.reads behind rest e)) done))

  pub braces_read : {d : ℕ} {ts : Tokens} {z : Command} → deep d ≡ false → AsList (suc d) ts z → (rest : Tokens) → IsRule deep d 0 Braces (braced ts ++ rest) (Whole z rest)
  braces_read {d} {ts} {z} g x rest =
      let close = plain_token (codes "}") in
      let tail = ts ++ line ∷ close ∷ rest in
      moved (ap (λ (m : Tokens). plain_token (codes "{") ∷ m) (append_assoc ts (line ∷ close ∷ []) rest))
      (ruled (Keyword Open) (look_plain (codes "{") tail) (0, (z, (0, tt)))
      (more (opn _ tail g (look_plain (codes "{") tail))
      (more (inside (block_read x (line ∷ close ∷ rest) (close ∷ rest) (closes_line (ap behind_list (look_plain (codes "}") rest)))))
      (more (tok _ rest (look_plain (codes "}") rest)) done))))

  pub braces_compound : {d : ℕ} {ts : Tokens} {z : Command} → deep d ≡ false → AsList (suc d) ts z → AsCompound d (braced ts) z
  braces_compound {d} {ts} {z} g x = record {
    begins = λ rest. refl;
    looks = λ rest. ap command_form (look_plain (codes "{") ((ts ++ line ∷ plain_token (codes "}") ∷ []) ++ rest));
    reads = λ rest.
        made (production_compound compound.Braces) (ap (λ l. production_compound (compound_form l)) (look_plain (codes "{") ((ts ++ line ∷ plain_token (codes "}") ∷ []) ++ rest)))
        (z, tt) (more (of (braces_read g x rest)) done);
  }

  -- ---- what is read at a level is read one level further out

  module _ (lower : (d : ℕ) → deep (suc d) ≡ false → deep d ≡ false) where
    opens_lower : (e d : ℕ) → e ≡ suc d → deep e ≡ false → deep d ≡ false
    opens_lower e d i g = lower d (ap deep (sym i) ∙ g)

    mutual
      low_rule : {e end : ℕ} {n : Rule} {ts : Tokens} {q : Out (Tree n)} → IsRule deep e end n ts q → (d : ℕ) → e ≡ suc d → is_whole q ≡ true → IsRule deep d end n ts q
      low_rule {n = n} {ts = ts} (rule q1 x e) d i h = rule q1 (low_all x d i (sym (whole_turned (production n (look ts)).tree q1) ∙ ap is_whole (sym e) ∙ h)) e

      low_all : {e end : ℕ} {ss : List Sign} {ts : Tokens} {q : Out (Values ss)} → IsAll deep e end ss ts q → (d : ℕ) → e ≡ suc d → is_whole q ≡ true → IsAll deep d end ss ts q
      low_all (no_more e) d i h = no_more e
      low_all (one_more v r q1 s x e) d i h = one_more v r q1 (low_sign s d i refl) (low_all x d i (sym (whole_turned (λ vs. (v, vs)) q1) ∙ ap is_whole (sym e) ∙ h)) e
      low_all (one_stops f r s e) d i h = absurd (clash (ap is_whole e) h)

      low_sign : {e end : ℕ} {s : Sign} {ts : Tokens} {q : Out (Value s)} → IsSign deep e end s ts q → (d : ℕ) → e ≡ suc d → is_whole q ≡ true → IsSign deep d end s ts q
      low_sign (is k e) d i h = is k e
      low_sign {e = e} (opens k g f) d i h = opens k (opens_lower e d i g) f
      low_sign (reads_word raws ps w x e) d i h = reads_word raws ps w (low_parts x d i refl) e
      low_sign (here e) d i h = here e
      low_sign (of x) d i h = of (low_rule x d i h)
      low_sign (inside x) d i h = inside (low_rule x (suc d) (ap suc i) h)
      low_sign (is_not k e) d i h = absurd (clash (ap is_whole e) h)
      low_sign (opens_not k e) d i h = absurd (clash (ap is_whole e) h)
      low_sign (too_deep k g e) d i h = absurd (clash (ap is_whole e) h)
      low_sign (a_word_stops raws f w x e) d i h = absurd (clash (ap is_whole e) h)
      low_sign (no_word w e) d i h = absurd (clash (ap is_whole e) h)
      low_sign (never e) d i h = absurd (clash (ap is_whole e) h)

      low_parts : {e : ℕ} {ps : List RawPart} {q : Judged} → IsParts deep e ps q → (d : ℕ) → e ≡ suc d → is_faultless q ≡ true → IsParts deep d ps q
      low_parts (no_parts e) d i h = no_parts e
      low_parts (plain_part x q1 a y e) d i h = plain_part x q1 a (low_parts y d i (sym (faultless_after x q1) ∙ ap is_faultless (sym e) ∙ h)) e
      low_parts {e = e} (run_part at ts b body rest q1 a g z y f) d i h =
          run_part at ts b body rest q1 a (opens_lower e d i g) (low_rule z (suc d) (ap suc i) refl) (low_parts y d i (sym (faultless_after _ q1) ∙ ap is_faultless (sym f) ∙ h)) f
      low_parts (run_stops at ts b fault rest a g z e) d i h = absurd (clash (ap is_faultless e) h)
      low_parts (run_deep at ts b a g e) d i h = absurd (clash (ap is_faultless e) h)

    low : {d end : ℕ} {n : Rule} {ts r : Tokens} {v : Tree n} → IsRule deep (suc d) end n ts (Whole v r) → IsRule deep d end n ts (Whole v r)
    low {d} x = low_rule x d refl refl

    low_command : {d : ℕ} {ts : Tokens} {z : Command} → AsCommand (suc d) ts z → AsCommand d ts z
    low_command x = record { begins = x.begins; looks = x.looks; reads = λ rest e. low (x.reads rest e) }

    pub low_own : (d : ℕ) (ts : Tokens) (z : Command) (l : Level) → Own l (suc d) ts z → Own l d ts z
    low_own d ts z level.Simple x = (record { items = x.0.items; is = x.0.is; none = x.0.none; reads = λ rest e. low (x.0.reads rest e) }, low_command x.1)
    low_own d ts z level.Compound x = record { begins = x.begins; looks = x.looks; reads = λ rest. low (x.reads rest) }
    low_own d ts z level.Command x = low_command x
    low_own d ts z level.PipeSequence x = record { begins = x.begins; looks = x.looks; reads = λ rest e. low (x.reads rest e) }
    low_own d ts z level.Pipeline x = record { looks = x.looks; reads = λ rest e. low (x.reads rest e) }
    low_own d ts z level.AndOr x = record { looks = x.looks; reads = λ rest e. low (x.reads rest e) }
    low_own d ts z level.List x = record { looks = x.looks; reads = λ behind rest e. low (x.reads behind rest e) }

    -- ---- commands at places

    -- a command is read at its own level
    abbrev pub Good : ℕ → Command → Type 0
    Good d x = Own (phrase x).level d (phrase x).tokens (zeroed x)

    -- the place covers the command, or it is read in braces
    abbrev pub Placeable : Level → ℕ → Command → Type 0
    Placeable place d x = ((nat_le (rank (phrase x).level) (rank place) ≡ true) × Good d x) ⊎ ((deep d ≡ false) × Good (suc d) x)

    placed_by : (place : Level) (d : ℕ) (x : Command) (U : Tokens → Type 0)
        → (nat_le (rank (phrase x).level) (rank place) ≡ true → Good d x → U (phrase x).tokens) → (AsCompound d (braced (phrase x).tokens) (zeroed x) → U (braced (phrase x).tokens))
        → Placeable place d x → U (placed place (phrase x))
    placed_by place d x U up out p = by (nat_le (rank (phrase x).level) (rank place)) refl p where
      by : (b : Bool) → nat_le (rank (phrase x).level) (rank place) ≡ b → Placeable place d x → U (if b then (phrase x).tokens else braced (phrase x).tokens)
      by true e (inl g) = up e g.1
      by true e (inr g) = up e (low_own d (phrase x).tokens (zeroed x) (phrase x).level g.1)
      by false e (inl g) = absurd (clash e g.0)
      by false e (inr g) = out (braces_compound g.0 (up_list (phrase x).level g.1))

    pub at_command : {d : ℕ} (x : Command) → Placeable level.Command d x → AsCommand d (placed level.Command (phrase x)) (zeroed x)
    at_command {d} x p = placed_by level.Command d x (λ ts. AsCommand d ts (zeroed x)) (λ e g. up_command (phrase x).level e g) compound_command p

    pub at_sequence : {d : ℕ} (x : Command) → Placeable level.PipeSequence d x → AsSequence d (placed level.PipeSequence (phrase x)) (zeroed x)
    at_sequence {d} x p = placed_by level.PipeSequence d x (λ ts. AsSequence d ts (zeroed x)) (λ e g. up_sequence (phrase x).level e g) (λ k. command_sequence (compound_command k)) p

    pub at_pipeline : {d : ℕ} (x : Command) → Placeable level.Pipeline d x → AsPipeline d (placed level.Pipeline (phrase x)) (zeroed x)
    at_pipeline {d} x p = placed_by level.Pipeline d x (λ ts. AsPipeline d ts (zeroed x)) (λ e g. up_pipeline (phrase x).level e g) (λ k. sequence_pipeline (command_sequence (compound_command k))) p

    pub at_and_or : {d : ℕ} (x : Command) → Placeable level.AndOr d x → AsAndOr d (placed level.AndOr (phrase x)) (zeroed x)
    at_and_or {d} x p = placed_by level.AndOr d x (λ ts. AsAndOr d ts (zeroed x)) (λ e g. up_and_or (phrase x).level e g) (λ k. pipeline_and_or (sequence_pipeline (command_sequence (compound_command k)))) p

    -- a command that is read inside one more level
    pub from_braces : (d : ℕ) (place : Level) (x : Command) → deep d ≡ false → Good (suc d) x → Placeable place d x
    from_braces d place x g y = inr (g, y)

    pub good_of : (d : ℕ) (place : Level) (x : Command) → Placeable place d x → Good d x
    good_of d place x (inl p) = p.1
    good_of d place x (inr p) = low_own d (phrase x).tokens (zeroed x) (phrase x).level p.1

    -- a command of this phrase
    pub good_by : (d : ℕ) (x : Command) (p : Phrase) (z : Command) → phrase x ≡ p → zeroed x ≡ z → Own p.level d p.tokens z → Good d x
    good_by d x p z e f own = subst (λ (p : Phrase). Own p.level d p.tokens (zeroed x)) (sym e) (subst (Own p.level d p.tokens) (sym f) own)

    pub placeable_by : (d : ℕ) (place : Level) (x : Command) (p : Phrase) (z : Command) → phrase x ≡ p → zeroed x ≡ z → nat_le (rank p.level) (rank place) ≡ true → Own p.level d p.tokens z → Placeable place d x
    placeable_by d place x p z e f le own = inl (ap (λ (p : Phrase). nat_le (rank p.level) (rank place)) e ∙ le, good_by d x p z e f own)
