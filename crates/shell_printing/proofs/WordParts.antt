-- Parts of words as they are printed: each is read as one part, the same but for its offsets, and a word may begin
-- with it.
use Rattle.std.proofs.Common.{◌≡◌, ℕ, suc, Bool, true, false, if◌then◌else◌, ◌||◌, nat_eq, not, List, [], ◌∷◌, ◌++◌, append_assoc, append-nil, Option, codes, refl, sym, ap, ◌∙◌, subst}
use Rattle.std.proofs.lemmas.List.Folds.{flat_map-map}
use Rattle.std.specs.List.{flat_map}
use Rattle.shell_syntax.specs.PrintedParts.{is_one_byte, escaped as escape, quoted_text, double_quote, key_text, default_text, param_text, run_text}
use Rattle.shell_syntax.specs.declared.key.Key.{Key}
use Rattle.shell_lexer.specs.declared.token.Token.{Token}
use Rattle.shell_lexer.specs.declared.token.TokenKind.{TokenKind}
use Rattle.shell_lexer.specs.declared.token.RawPart.{RawPart, out-RawPart}
use Rattle.shell_lexer.specs.declared.token.RawPart.TheVariants as raw
use Rattle.shell_lexer.specs.declared.token.RawPart.TheOpen as o
use Rattle.shell_lexer.specs.declared.token.RawPart.TheFolds.{fold-roll-RawPart}
use Rattle.token_laws.specs.Laws.{SubstitutionsAreSpelled}
use Rattle.shell_lexer.specs.Operators.{Word, sight, sight_at, numbered}
use Rattle.shell_lexer.specs.Parts.{look, inner, inner_at}
use Rattle.token_laws.specs.PrintedLaws.{IsOnePart, QuotedIsOnePart, ParamIsOnePart, AllIsOnePart, SubstitutionsClose, raw_text as lexed_text, is_apart}
use Rattle.shell_lexer.specs.Reading.{Whole, Read, plain_run, IsWord, word_run, word_double, IsInner, inner_ends, inner_run, IsSub, sub_items}
use Rattle.shell_lexer.specs.Spelling.{IsNotNext}
use Rattle.shell_lexer.specs.SpelledParts.{IsParam, IsSubstitution}
use Rattle.script_names.specs.ShellNames.{is_digit}
use Rattle.shell_lexer.specs.Text.{Bytes, skip, place, offset, head_is, cells, behind_run}
use Rattle.shell_grammar.specs.Look.{Tokens}
use Rattle.shell_printing.specs.TokenTexts.{raw_layer as raw_text_layer, kind_layer as kind_text_layer, token_layer as token_text_layer, raw_text, token_text, tokens_text}
use Rattle.shell_printing.specs.Zeroed.{raw_layer, kind_layer, token_layer, zeroed_raw, zeroed_tokens}
use Rattle.shell_printing.proofs.Backs.{false_true, true_false, ReadsBack, quoted_raw, param_raw, all_raw}
use Rattle.shell_printing.proofs.Sources.{Likes, likes_none, likes_same, likes_run, rolled}
use Rattle.shell_printing.proofs.WordBytes.{Steady, NoAngle, skip_first, cells_first, eq_of}
use Rattle.shell_printing.proofs.WordShape.{Shape, shape_none, shape_same, shape_run}
use Rattle.token_laws.proofs.PrintedRuns.{grouped}

-- ---- texts with which a word may begin

-- whatever is behind it
pub record Head (text : Bytes) : Type 0 where
  pub calm : (z : Bytes) → Steady (text ++ z)
  pub begins : (all : ℕ) (z : Bytes) → sight all (text ++ z) ≡ Word

pub steady_head : (a : ℕ) (t : Bytes) → nat_eq a 92 ≡ false → is_digit a ≡ false → NoAngle a → Steady (a ∷ t)
steady_head a t e g angle len number =
    ap (λ cs. numbered len number (skip (behind_run is_digit (a ∷ t) cs))) (cells_first a t e)
    ∙ ap (λ x. numbered len number (skip (if x then behind_run is_digit t (cells t) else a ∷ t))) g ∙ ap (numbered len number) (skip_first a t e) ∙ angle (place len (a ∷ t)) number t

quote_head : (y : Bytes) → Head (34 ∷ y)
quote_head y = record {
  calm = λ z. steady_head 34 (y ++ z) refl refl (λ n number more. refl);
  begins = λ all z. ap (λ u. sight_at all (place all u) u) (skip_first 34 (y ++ z) refl);
}

dollar_head : (y : Bytes) → Head (36 ∷ y)
dollar_head y = record {
  calm = λ z. steady_head 36 (y ++ z) refl refl (λ n number more. refl);
  begins = λ all z. ap (λ u. sight_at all (place all u) u) (skip_first 36 (y ++ z) refl);
}

pub back_kept : (b : ℕ) (t : Bytes) → nat_eq b 10 ≡ false → skip (92 ∷ b ∷ t) ≡ 92 ∷ b ∷ t
back_kept b t e = ap (λ x. if x then skip t else 92 ∷ b ∷ t) e

back_cells : (b : ℕ) (t : Bytes) → nat_eq b 10 ≡ false → cells (92 ∷ b ∷ t) ≡ (92, b ∷ t) ∷ cells (b ∷ t)
back_cells b t e = ap (λ x. if x then cells t else (92, b ∷ t) ∷ cells (b ∷ t)) e

back_head : (b : ℕ) → nat_eq b 10 ≡ false → Head (92 ∷ b ∷ [])
back_head b e = record {
  calm = λ z len number. ap (λ cs. numbered len number (skip (behind_run is_digit (92 ∷ b ∷ z) cs))) (back_cells b z e) ∙ ap (numbered len number) (back_kept b z e);
  begins = λ all z. ap (λ u. sight_at all (place all u) u) (back_kept b z e);
}

quoted_by : (w : Bytes) (one : Bool) → is_one_byte w ≡ one → quoted_text w ≡ (if one then codes "\\" ++ w else codes "\"" ++ flat_map escape w ++ codes "\"")
unfolding quoted_text
quoted_by w one e = ap (λ t. if t then codes "\\" ++ w else codes "\"" ++ flat_map escape w ++ codes "\"") e

quoted_double : (w : Bytes) → is_one_byte w ≡ false → Head (quoted_text w)
quoted_double w e = subst Head (sym (quoted_by w false e)) (quote_head (flat_map escape w ++ codes "\""))

pub one_byte_text : (b : ℕ) → nat_eq b 10 ≡ false → quoted_text (b ∷ []) ≡ 92 ∷ b ∷ []
one_byte_text b e = quoted_by (b ∷ []) true (ap not e)

quoted_head : (w : Bytes) → Head (quoted_text w)
quoted_head [] = quoted_double [] refl
quoted_head (b ∷ []) = by (nat_eq b 10) refl where
  by : (it : Bool) → nat_eq b 10 ≡ it → Head (quoted_text (b ∷ []))
  by true e = quoted_double (b ∷ []) (ap not e)
  by false e = subst Head (sym (one_byte_text b e)) (back_head b e)
quoted_head (b ∷ c ∷ w) = quoted_double (b ∷ c ∷ w) refl

param_head : (key : Key) (default : Option Bytes) (quoted : Bool) → Head (param_text key default quoted)
unfolding param_text
param_head key default true = quote_head (codes "${" ++ key_text key ++ default_text default ++ codes "}" ++ codes "\"")
param_head key default false = dollar_head (codes "{" ++ key_text key ++ default_text default ++ codes "}" ++ [])

run_head : (body : Bytes) (quoted : Bool) → Head (run_text body quoted)
unfolding run_text
run_head body true = quote_head (codes "$(" ++ body ++ codes " )" ++ codes "\"")
run_head body false = dollar_head (codes "(" ++ body ++ codes " )" ++ [])

-- ---- substitutions, as they are printed

run_texts : (body : Bytes) (quoted : Bool) (rest : Bytes) → run_text body quoted ++ rest ≡ double_quote quoted ++ (codes "$(" ++ (body ++ (codes " )" ++ (double_quote quoted ++ rest))))
unfolding run_text
run_texts body quoted rest = grouped (double_quote quoted) (codes "$(") body (codes " )") (double_quote quoted) rest

pub run_raw : (us : Tokens) (quoted : Bool) → raw_text (raw.Run 0 us quoted) ≡ run_text (tokens_text us) quoted
run_raw us quoted =
    ap raw_text (sym (raw.rolls-Run 0 us quoted)) ∙ fold-roll-RawPart Bytes Bytes Bytes raw_text_layer kind_text_layer token_text_layer (o.Run 0 us quoted) ∙ ap (λ t. run_text t quoted) (flat_map-map (λ t. t) token_text us)

pub zeroed_run : (at : ℕ) (ts : Tokens) (quoted : Bool) → zeroed_raw (raw.Run at ts quoted) ≡ raw.Run 0 (zeroed_tokens ts) quoted
zeroed_run at ts quoted = ap zeroed_raw (sym (raw.rolls-Run at ts quoted)) ∙ fold-roll-RawPart RawPart TokenKind Token raw_layer kind_layer token_layer (o.Run at ts quoted)

spaces : (b : ℕ) (t : Bytes) → (nat_eq b 32 || nat_eq b 10) ≡ true → IsNotNext 40 (b ∷ t)
spaces b t e = by (nat_eq b 32) refl e where
  by : (it : Bool) → nat_eq b 32 ≡ it → (it || nat_eq b 10) ≡ true → IsNotNext 40 (b ∷ t)
  by true f g = λ more h. absurd (true_false (ap (head_is 32) (sym (skip_first 32 t refl) ∙ subst (λ x. skip (x ∷ t) ≡ 40 ∷ more) (eq_of b 32 f) h)))
  by false f g = λ more h. absurd (true_false (ap (head_is 10) (sym (skip_first 10 t refl) ∙ subst (λ x. skip (x ∷ t) ≡ 40 ∷ more) (eq_of b 10 g) h)))

single_here : (t : Bytes) → is_apart t ≡ true → IsNotNext 40 t
single_here [] e = λ more h. absurd (cc h)
single_here (b ∷ t) e = spaces b t e

opens : (t : Bytes) → is_apart t ≡ true → IsSubstitution (36 ∷ 40 ∷ t) t
opens t e = record { stands = (40 ∷ t, refl, (t, skip_first 40 t refl, refl)); single = single_here t e }

-- ---- lists of parts that are alike

module _ (deep : ℕ → Bool) where
  pub record Split (d : ℕ) (xs ys qs : List RawPart) : Type 0 where
    pub front : List RawPart
    pub back : List RawPart
    pub is : qs ≡ front ++ back
    pub first : Likes deep d xs front
    pub later : Likes deep d ys back

  pub likes_split : {d : ℕ} (xs ys qs : List RawPart) → Likes deep d (xs ++ ys) qs → Split d xs ys qs
  likes_split [] ys qs l = record { front = []; back = qs; is = refl; first = likes_none; later = l }
  likes_split (p ∷ xs) ys [] l = elim l [ ]
  likes_split (p ∷ xs) ys (q ∷ qs) (likes_same x e f l) =
      let s = likes_split xs ys qs l in
      record { front = q ∷ s.front; back = s.back; is = ap (λ l. q ∷ l) s.is; first = likes_same x e f s.first; later = s.later }
  likes_split (p ∷ xs) ys (q ∷ qs) (likes_run at ts us quoted e f g b l) =
      let s = likes_split xs ys qs l in
      record { front = q ∷ s.front; back = s.back; is = ap (λ l. q ∷ l) s.is; first = likes_run at ts us quoted e f g b s.first; later = s.later }

  -- ---- one part

  -- how a part of the source that is printed as another is read, in any word
  pub record OneRead (d all : ℕ) (run : Bytes) (p q : RawPart) (rest : Bytes) (v : Read) (behind : Bytes) : Type 0 where
    pub part : RawPart
    pub read : Read
    pub is : read.0 ≡ plain_run run ++ (part ∷ v.0)
    pub same : zeroed_raw part ≡ zeroed_raw q
    pub shape : Shape (p ∷ []) (part ∷ [])
    pub reads : IsWord deep all d run (raw_text q ++ rest) (Whole read behind)

  pub record One (d : ℕ) (p q : RawPart) : Type 0 where
    pub reads : (all : ℕ) (run rest : Bytes) (v : Read) (behind : Bytes) → IsWord deep all d [] rest (Whole v behind) → OneRead d all run p q rest v behind
    pub head : Head (raw_text q)

  -- a part that is one part by a law of shell_lexer
  lawful : (d : ℕ) (p : RawPart) → raw_text p ≡ lexed_text p → IsOnePart p (lexed_text p) → Head (lexed_text p) → One d p p
  lawful d p e law head = record {
    reads = λ all run rest v behind w.
        let r = law deep all d run rest (Whole v behind) w in record {
          part = p;
          read = ((plain_run run ++ p ∷ []) ++ v.0, r.0 ++ v.1);
          is = append_assoc (plain_run run) (p ∷ []) v.0;
          same = refl;
          shape = shape_same p shape_none;
          reads = subst (λ t. IsWord deep all d run (t ++ rest) (Whole ((plain_run run ++ p ∷ []) ++ v.0, r.0 ++ v.1) behind)) (sym e) r.1;
        };
    head = subst Head (sym e) head;
  }

  module _ (quotes_law : QuotedIsOnePart) (param_law : ParamIsOnePart) (all_law : AllIsOnePart) where
    pub quoted_one : (d : ℕ) (w : Bytes) → One d (raw.Quoted w) (raw.Quoted w)
    quoted_one d w = lawful d (raw.Quoted w) (quoted_raw w) (quotes_law w) (quoted_head w)

    pub param_one : (d : ℕ) (key : Key) (default : Option Bytes) (quoted : Bool) (spelled behind : Bytes) → IsParam key default spelled behind → One d (raw.Param key default quoted) (raw.Param key default quoted)
    param_one d key default quoted spelled behind h = lawful d (raw.Param key default quoted) (param_raw key default quoted) (param_law key default quoted spelled behind h) (param_head key default quoted)

    pub all_one : (d : ℕ) → One d raw.All raw.All
    all_one d = lawful d raw.All all_raw all_law (quote_head (codes "$@\""))

  module _ (closing : SubstitutionsClose) (subs : SubstitutionsAreSpelled look) (subs_inside : SubstitutionsAreSpelled inner) where
    -- the tokens of a printed substitution, up to its end
    record Inside (d all start : ℕ) (us : Tokens) (rest : Bytes) : Type 0 where
      pub tokens : Tokens
      pub same : zeroed_tokens tokens ≡ zeroed_tokens us
      pub reads : IsSub deep all d start (tokens_text us ++ (codes " )" ++ rest)) (Whole tokens rest)

    inside_of : (d all start : ℕ) (us : Tokens) (rest : Bytes) → deep d ≡ false → ReadsBack deep (suc d) false us → Inside d all start us rest
    inside_of d all start us rest g b =
        let r = b.reads all start 0 (codes " )" ++ rest) (Whole [] rest) refl (λ f. absurd (false_true f)) (closing deep all d start rest) in
        record {
          tokens = r.0 ++ [];
          same = ap zeroed_tokens (append-nil r.0) ∙ r.1;
          reads = sub_items g r.2;
        }

    abbrev RunRead : ℕ → ℕ → Bytes → Tokens → Tokens → Bool → Bytes → Read → Bytes → Bytes → Type 0
    RunRead d all run ts us quoted rest v behind text =
        (at : ℕ) × (tokens : Tokens) × (read : Read) × (read.0 ≡ plain_run run ++ (raw.Run at tokens quoted ∷ v.0)) × (zeroed_tokens tokens ≡ zeroed_tokens us) × IsWord deep all d run text (Whole read behind)

    run_read : (d : ℕ) (at : ℕ) (ts us : Tokens) (quoted : Bool) → deep d ≡ false → ReadsBack deep (suc d) false us → (all : ℕ) (run rest : Bytes) (v : Read) (behind : Bytes) → IsWord deep all d [] rest (Whole v behind)
        → RunRead d all run ts us quoted rest v behind (double_quote quoted ++ (codes "$(" ++ (tokens_text us ++ (codes " )" ++ (double_quote quoted ++ rest)))))
    run_read d at ts us false g b all run rest v behind w =
        let begin = tokens_text us ++ (codes " )" ++ rest) in
        let start = offset all (36 ∷ 40 ∷ begin) in
        let i = inside_of d all start us rest g b in
        let seen = (subs all (36 ∷ 40 ∷ begin) begin).1 (opens begin (b.apart (codes " )" ++ rest) refl)) in
        (start, i.tokens, _, append_assoc (plain_run run) (raw.Run start i.tokens false ∷ []) v.0, i.same, word_run begin i.tokens rest (Whole v behind) seen i.reads w refl)
    run_read d at ts us true g b all run rest v behind w =
        let begin = tokens_text us ++ (codes " )" ++ (34 ∷ rest)) in
        let text = 36 ∷ 40 ∷ begin in
        let start = offset all text in
        let i = inside_of d all start us (34 ∷ rest) g b in
        let it = raw.Run start i.tokens true in
        let seen = (subs_inside all text begin).1 (opens begin (b.apart (codes " )" ++ (34 ∷ rest)) refl)) in
        let closed : IsInner deep all d (offset all (34 ∷ text)) false [] (34 ∷ rest) (Whole ([], []) rest) = inner_ends rest (ap (λ t. inner_at (place all t) t) (skip_first 34 rest refl)) refl in
        (start, i.tokens, _, append_assoc (plain_run run) (it ∷ []) v.0, i.same, word_double text (it ∷ [], _) rest (Whole v behind) refl (inner_run begin i.tokens (34 ∷ rest) (Whole ([], []) rest) seen i.reads closed refl) w refl)

    pub run_one : (d : ℕ) (p q : RawPart) (at : ℕ) (ts us : Tokens) (quoted : Bool) → out-RawPart p ≡ o.Run at ts quoted → q ≡ raw.Run 0 us quoted → deep d ≡ false → ReadsBack deep (suc d) false us → One d p q
    run_one d p q at ts us quoted e f g b =
        let source : p ≡ raw.Run at ts quoted = rolled p (o.Run at ts quoted) e ∙ raw.rolls-Run at ts quoted in
        let printed : raw_text q ≡ run_text (tokens_text us) quoted = ap raw_text f ∙ run_raw us quoted in
        record {
          reads = λ all run rest v behind w.
              let r = run_read d at ts us quoted g b all run rest v behind w in record {
                part = raw.Run r.0 r.1 quoted;
                read = r.2;
                is = r.3;
                same = zeroed_run r.0 r.1 quoted ∙ ap (λ l. raw.Run 0 l quoted) r.4 ∙ sym (zeroed_run 0 us quoted) ∙ ap zeroed_raw (sym f);
                shape = subst (λ p. Shape (p ∷ []) (raw.Run r.0 r.1 quoted ∷ [])) (sym source) (shape_run at r.0 ts r.1 quoted shape_none);
                reads = subst (λ t. IsWord deep all d run t (Whole r.2 behind)) (sym (ap (λ t. t ++ rest) printed ∙ run_texts (tokens_text us) quoted rest)) r.5;
              };
          head = subst Head (sym printed) (run_head (tokens_text us) quoted);
        }
