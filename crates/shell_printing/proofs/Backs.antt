-- Tokens whose texts, one after another, are cut into them again but for their offsets; and how such tokens are put
-- together.
use Rattle.std.proofs.Common.{◌≡◌, ℕ, zero, suc, ◌+◌, ◌-◌, Bool, true, false, if◌then◌else◌, ◌||◌, ◌&&◌, nat_eq, List, [], ◌∷◌, ◌++◌, append_assoc, append-nil, map, Some, None, codes, refl, sym, ap, ◌∙◌, subst, arith}
use Rattle.std.proofs.lemmas.Grind.{flat_map-append}
use Rattle.std.specs.List.{flat_map, list_all}
use Rattle.shell_syntax.specs.declared.form.Form.TheVariants as form
use Rattle.shell_syntax.specs.declared.redirect.Redirect.{Redirect}
use Rattle.shell_syntax.specs.declared.redirect.Redirect.TheVariants.{OutNull, ErrNull, InNull, OutToErr, ErrToOut}
use Rattle.shell_lexer.specs.declared.token.Token.{Token}
use Rattle.shell_lexer.specs.declared.token.TokenKind.{TokenKind}
use Rattle.shell_lexer.specs.declared.token.TokenKind.TheVariants as token
use Rattle.shell_lexer.specs.declared.token.RawPart.{RawPart}
use Rattle.shell_lexer.specs.declared.token.RawPart.TheVariants as raw
use Rattle.shell_lexer.specs.declared.token.RawPart.TheOpen as o
use Rattle.shell_lexer.specs.declared.token.RawPart.TheFolds.{fold-roll-RawPart, fold-roll-TokenKind, fold-roll-Token}
use Rattle.shell_lexer.specs.Late.{late, all_args, tilde, brace, is_plainly, found, sooner, as_fault}
use Rattle.shell_lexer.specs.Operators.{Sight, Operator, Word, sight}
use Rattle.shell_lexer.specs.Reading.{Out, Whole, Stop, Read, behind as preceded, token_at, kind_of_sign, opened, closes, IsItems, IsWord, word_ends, word_byte}
use Rattle.token_laws.specs.PrintedLaws.{raw_text as lexed_text, holds_no_run, holds_no_all, is_last, ends_in_backslash, is_apart, operator_text, OperatorsReadBack, WordTokensReadBack, AllTokensReadBack}
use Rattle.shell_lexer.specs.Text.{Bytes}
use Rattle.shell_grammar.specs.Look.{Tokens}
use Rattle.shell_printing.specs.PrintedTokens.{word_token, plain_token, operator, line, redirect_token}
use Rattle.shell_printing.specs.TokenTexts.{raw_layer as raw_text_layer, kind_layer as kind_text_layer, token_layer as token_text_layer, raw_text, token_text, tokens_text}
use Rattle.shell_printing.specs.Zeroed.{raw_layer, kind_layer, token_layer, zeroed_raw, zeroed_kind, zeroed_token, zeroed_tokens}
use Rattle.shell_printing.proofs.CleanTexts.{is_clean, IsClean}
use Rattle.shell_printing.proofs.Texts.{word_is, line_is, double_semi_is, and_is, or_is, bar_is, left_is, right_is, redirect_is, plain_raw}
use Rattle.shell_printing.proofs.Offsets.{both as two}

pub false_true : false ≡ true → ⊥
false_true e = cc

pub true_false : true ≡ false → ⊥
true_false e = cc

-- ---- no byte 0

pub clean_append : (s t : Bytes) → IsClean s → IsClean t → IsClean (s ++ t)
clean_append [] t e f = f
clean_append (b ∷ s) t e f = by (is_clean b) refl e (clean_append s t) where
  by : (it : Bool) → is_clean b ≡ it → (it && list_all is_clean s) ≡ true → (IsClean s → IsClean t → IsClean (s ++ t)) → (is_clean b && list_all is_clean (s ++ t)) ≡ true
  by true g h more = ap (λ x. x && list_all is_clean (s ++ t)) g ∙ more h f
  by false g h more = absurd (false_true h)

-- ---- offsets

pub map_append : {A B : Type 0} (f : A → B) (xs ys : List A) → map f (xs ++ ys) ≡ map f xs ++ map f ys
map_append f [] ys = refl
map_append f (x ∷ xs) ys = ap (λ l. f x ∷ l) (map_append f xs ys)

zeroed_at : (at : ℕ) (k : TokenKind) → zeroed_token (token_at at k) ≡ token_at 0 (zeroed_kind k)
zeroed_at at k = fold-roll-Token RawPart TokenKind Token raw_layer kind_layer token_layer (record { at = at; kind = k })

zeroed_of_word : (ws : List RawPart) → zeroed_kind (token.Word ws) ≡ token.Word (map zeroed_raw ws)
zeroed_of_word ws = ap zeroed_kind (sym (token.rolls-Word ws)) ∙ fold-roll-TokenKind RawPart TokenKind Token raw_layer kind_layer token_layer (o.Word ws)

pub same_words : (place : ℕ) (ws qs : List RawPart) → map zeroed_raw ws ≡ map zeroed_raw qs → zeroed_tokens (token_at place (token.Word ws) ∷ []) ≡ zeroed_tokens (word_token qs ∷ [])
same_words place ws qs e =
    ap (λ t. t ∷ []) (zeroed_at place (token.Word ws) ∙ ap (token_at 0) (zeroed_of_word ws ∙ ap token.Word e ∙ sym (zeroed_of_word qs)) ∙ sym (zeroed_at 0 (token.Word qs)))

same_operators : (at : ℕ) (k m : TokenKind) → k ≡ m → zeroed_tokens (token_at at k ∷ []) ≡ zeroed_tokens (operator m ∷ [])
same_operators at k m e = ap (λ t. t ∷ []) (zeroed_at at k ∙ ap (λ k. token_at 0 (zeroed_kind k)) e ∙ sym (zeroed_at 0 m))

-- ---- what is read behind tokens

preceded_none : (q : Out (List Token)) → preceded [] q ≡ q
preceded_none (Whole ts rest) = refl
preceded_none (Stop f) = refl

preceded_twice : (us vs : Tokens) (q : Out (List Token)) → preceded us (preceded vs q) ≡ preceded (us ++ vs) q
preceded_twice us vs (Whole ts rest) = ap (λ l. Whole l rest) (sym (append_assoc us vs ts))
preceded_twice us vs (Stop f) = refl

grouped : (us vs : Tokens) (rest : Bytes) → tokens_text (us ++ vs) ++ rest ≡ tokens_text us ++ (tokens_text vs ++ rest)
grouped us vs rest = ap (λ t. t ++ rest) (flat_map-append token_text us vs) ∙ append_assoc (tokens_text us) (tokens_text vs) rest

-- ---- operators by what is seen of a text

abbrev kind_at : Sight → TokenKind
kind_at (Operator which rest) = kind_of_sign which
kind_at _ = token.Newline

abbrev text_at : Sight → Bytes
text_at (Operator which rest) = operator_text which
text_at _ = []

abbrev opened_at : Sight → ℕ → ℕ
opened_at (Operator which rest) n = opened which n
opened_at _ n = n

abbrev closes_at : ℕ → ℕ → Sight → Bool
closes_at d n (Operator which rest) = closes d n which
closes_at d n _ = true

-- a form is looked for inside substitutions that is looked for outside them, or the word `case`
pub late_any : (d at : ℕ) (ms : _) → late zero at ms ≡ None → is_plainly (codes "case") ms ≡ false → late d at ms ≡ None
late_any zero at ms e n = e
late_any (suc d) at ms e n =
    ap (λ b. as_fault (sooner (found form.AllArgs (all_args ms)) (sooner (found form.Tilde (tilde true ms)) (sooner (found form.Brace (brace ms)) (found form.SubstCase (if b then Some at else None)))))) n ∙ e

-- ---- words without substitutions have the texts of shell_lexer's laws

pub quoted_raw : (w : Bytes) → raw_text (raw.Quoted w) ≡ lexed_text (raw.Quoted w)
quoted_raw w = ap raw_text (sym (raw.rolls-Quoted w)) ∙ fold-roll-RawPart Bytes Bytes Bytes raw_text_layer kind_text_layer token_text_layer (o.Quoted w)

pub param_raw : (key : _) (default : _) (quoted : Bool) → raw_text (raw.Param key default quoted) ≡ lexed_text (raw.Param key default quoted)
param_raw key default quoted = ap raw_text (sym (raw.rolls-Param key default quoted)) ∙ fold-roll-RawPart Bytes Bytes Bytes raw_text_layer kind_text_layer token_text_layer (o.Param key default quoted)

pub all_raw : raw_text raw.All ≡ lexed_text raw.All
all_raw = ap raw_text (sym raw.rolls-All) ∙ fold-roll-RawPart Bytes Bytes Bytes raw_text_layer kind_text_layer token_text_layer o.All

pub same_text : (ps : List RawPart) → holds_no_run ps ≡ true → flat_map raw_text ps ≡ flat_map lexed_text ps
same_text [] e = refl
same_text (raw.Plain w ∷ ps) e = two (λ (s t : Bytes). s ++ t) (plain_raw w) (same_text ps e)
same_text (raw.Quoted w ∷ ps) e = two (λ (s t : Bytes). s ++ t) (quoted_raw w) (same_text ps e)
same_text (raw.Param key default quoted ∷ ps) e = two (λ (s t : Bytes). s ++ t) (param_raw key default quoted) (same_text ps e)
same_text (raw.All ∷ ps) e = two (λ (s t : Bytes). s ++ t) all_raw (same_text ps e)
same_text (_ ∷ ps) e = absurd (false_true e)

pub word_text : (qs : List RawPart) (rest : Bytes) → tokens_text (word_token qs ∷ []) ++ rest ≡ 32 ∷ (flat_map raw_text qs ++ rest)
word_text qs rest = ap (λ t. t ++ rest) (append-nil (token_text (word_token qs)) ∙ word_is qs)

module _ (deep : ℕ → Bool) where
  -- The tokens' texts are read as these tokens, wherever a blank, a newline or nothing stands behind them, and no byte
  -- of them is 0. Where the last one may be a word that ends in a plain backslash, nothing.
  pub record ReadsBack (d : ℕ) (last : Bool) (us : Tokens) : Type 0 where
    pub apart : (rest : Bytes) → is_apart rest ≡ true → is_apart (tokens_text us ++ rest) ≡ true
    pub clean : IsClean (tokens_text us)
    pub reads : (len start parens : ℕ) (rest : Bytes) (q : Out (List Token)) → is_apart rest ≡ true → (last ≡ true → rest ≡ []) → IsItems deep len d start parens rest q
        → (vs : Tokens) × (zeroed_tokens vs ≡ zeroed_tokens us) × IsItems deep len d start parens (tokens_text us ++ rest) (preceded vs q)

  pub nothing : {d : ℕ} {last : Bool} → ReadsBack d last []
  nothing {d} = record {
    apart = λ rest e. e;
    clean = refl;
    reads = λ len start parens rest q e l x. ([], refl, subst (IsItems deep len d start parens rest) (sym (preceded_none q)) x);
  }

  pub wider : {d : ℕ} {last : Bool} {us : Tokens} → ReadsBack d false us → ReadsBack d last us
  wider x = record {
    apart = x.apart;
    clean = x.clean;
    reads = λ len start parens rest q e l z. x.reads len start parens rest q e (λ f. absurd (false_true f)) z;
  }

  pub joined : {d : ℕ} {last : Bool} {us vs : Tokens} → ReadsBack d false us → ReadsBack d last vs → ReadsBack d last (us ++ vs)
  joined {d} {last} {us} {vs} x y = record {
    apart = λ rest e. ap is_apart (grouped us vs rest) ∙ x.apart (tokens_text vs ++ rest) (y.apart rest e);
    clean = subst IsClean (sym (flat_map-append token_text us vs)) (clean_append (tokens_text us) (tokens_text vs) x.clean y.clean);
    reads = λ len start parens rest q e l z.
        let b = y.reads len start parens rest q e l z in
        let a = x.reads len start parens (tokens_text vs ++ rest) (preceded b.0 q) (y.apart rest e) (λ f. absurd (false_true f)) b.2 in (
          a.0 ++ b.0,
          map_append zeroed_token a.0 b.0 ∙ two (λ (xs ys : Tokens). xs ++ ys) a.1 b.1 ∙ sym (map_append zeroed_token us vs),
          subst (λ t. IsItems deep len d start parens t (preceded (a.0 ++ b.0) q)) (sym (grouped us vs rest))
              (subst (IsItems deep len d start parens (tokens_text us ++ (tokens_text vs ++ rest))) (preceded_twice a.0 b.0 q) a.2),
        );
  }

  -- ---- words

  module _ (words : WordTokensReadBack) (args : AllTokensReadBack) where
    -- a word without substitutions, which is read somewhere
    pub a_word : {d : ℕ} (len at : ℕ) (spelled rest : Bytes) (v : Read) → sight len spelled ≡ Word → IsWord deep len d [] spelled (Whole v rest) → late d at v.1 ≡ None
        → holds_no_run v.0 ≡ true → holds_no_all v.0 ≡ true → IsClean (flat_map raw_text v.0) → (last : Bool) → (ends_in_backslash v.0 ≡ true → last ≡ true) → ReadsBack d last (word_token v.0 ∷ [])
    a_word {d} len at spelled more v seen w nothing none no_all clean last ends = record {
      apart = λ rest e. ap is_apart (word_text v.0 rest);
      clean = subst IsClean (sym (append-nil (token_text (word_token v.0)) ∙ word_is v.0)) clean;
      reads = λ all start parens rest q e l x.
          let r = words deep len d at spelled more v seen w nothing none no_all all start parens rest q e (λ f. l (ends f)) x in (
            token_at r.0 (token.Word v.0) ∷ [],
            same_words r.0 v.0 v.0 refl,
            subst (λ t. IsItems deep all d start parens t (preceded (token_at r.0 (token.Word v.0) ∷ []) q)) (ap (λ t. 32 ∷ (t ++ rest)) (sym (same_text v.0 none)) ∙ sym (word_text v.0 rest)) r.1,
          );
    }

    -- the word `"$@"`
    pub the_arguments : {d : ℕ} → ReadsBack d false (word_token (raw.All ∷ []) ∷ [])
    the_arguments {d} = record {
      apart = λ rest e. ap is_apart (word_text (raw.All ∷ []) rest);
      clean = subst IsClean (sym (append-nil (token_text (word_token (raw.All ∷ []))) ∙ word_is (raw.All ∷ []) ∙ ap (λ t. 32 ∷ t) (same_text (raw.All ∷ []) refl))) refl;
      reads = λ all start parens rest q e l x.
          let r = args deep all d start parens rest q e x in (
            token_at r.0 (token.Word (raw.All ∷ [])) ∷ [],
            same_words r.0 (raw.All ∷ []) (raw.All ∷ []) refl,
            subst (λ t. IsItems deep all d start parens t (preceded (token_at r.0 (token.Word (raw.All ∷ [])) ∷ []) q)) (ap (λ t. 32 ∷ (t ++ rest)) (sym (same_text (raw.All ∷ []) refl)) ∙ sym (word_text (raw.All ∷ []) rest)) r.1,
          );
    }

    -- a reserved word but `case`
    keyword : {d : ℕ} (w : Bytes) (v : Read) → IsWord deep 0 d [] w (Whole v []) → v.0 ≡ raw.Plain w ∷ [] → sight 0 w ≡ Word → late zero 0 v.1 ≡ None → is_plainly (codes "case") v.1 ≡ false → IsClean w → is_last 92 w ≡ false
        → ReadsBack d false (plain_token w ∷ [])
    keyword {d} w v r is seen none case clean ends =
        subst (λ ps. ReadsBack d false (word_token ps ∷ [])) is
        (a_word 0 0 w [] v seen r (late_any d 0 v.1 none case) (ap holds_no_run is) (ap holds_no_all is) (subst (λ ps. IsClean (flat_map raw_text ps)) (sym is) (subst IsClean (sym (append-nil (raw_text (raw.Plain w)) ∙ plain_raw w)) clean)) false
        (λ f. absurd (true_false (sym f ∙ ap ends_in_backslash is ∙ ends))))

    pub opening : {d : ℕ} → ReadsBack d false (plain_token (codes "{") ∷ [])
    opening = keyword (codes "{") _ (word_byte 123 [] _ refl (word_ends refl refl) refl) refl refl refl refl refl refl

    pub closing : {d : ℕ} → ReadsBack d false (plain_token (codes "}") ∷ [])
    closing = keyword (codes "}") _ (word_byte 125 [] _ refl (word_ends refl refl) refl) refl refl refl refl refl refl

    pub bang : {d : ℕ} → ReadsBack d false (plain_token (codes "!") ∷ [])
    bang = keyword (codes "!") _ (word_byte 33 [] _ refl (word_ends refl refl) refl) refl refl refl refl refl refl

    pub an_if : {d : ℕ} → ReadsBack d false (plain_token (codes "if") ∷ [])
    an_if = keyword (codes "if") _ (word_byte 105 (codes "f") _ refl (word_byte 102 [] _ refl (word_ends refl refl) refl) refl) refl refl refl refl refl refl

    pub a_then : {d : ℕ} → ReadsBack d false (plain_token (codes "then") ∷ [])
    a_then = keyword (codes "then") _ (word_byte 116 (codes "hen") _ refl (word_byte 104 (codes "en") _ refl (word_byte 101 (codes "n") _ refl (word_byte 110 [] _ refl (word_ends refl refl) refl) refl) refl) refl) refl refl refl refl refl refl

    pub an_elif : {d : ℕ} → ReadsBack d false (plain_token (codes "elif") ∷ [])
    an_elif = keyword (codes "elif") _ (word_byte 101 (codes "lif") _ refl (word_byte 108 (codes "if") _ refl (word_byte 105 (codes "f") _ refl (word_byte 102 [] _ refl (word_ends refl refl) refl) refl) refl) refl) refl refl refl refl refl refl

    pub an_else : {d : ℕ} → ReadsBack d false (plain_token (codes "else") ∷ [])
    an_else = keyword (codes "else") _ (word_byte 101 (codes "lse") _ refl (word_byte 108 (codes "se") _ refl (word_byte 115 (codes "e") _ refl (word_byte 101 [] _ refl (word_ends refl refl) refl) refl) refl) refl) refl refl refl refl refl refl

    pub a_fi : {d : ℕ} → ReadsBack d false (plain_token (codes "fi") ∷ [])
    a_fi = keyword (codes "fi") _ (word_byte 102 (codes "i") _ refl (word_byte 105 [] _ refl (word_ends refl refl) refl) refl) refl refl refl refl refl refl

    pub a_for : {d : ℕ} → ReadsBack d false (plain_token (codes "for") ∷ [])
    a_for = keyword (codes "for") _ (word_byte 102 (codes "or") _ refl (word_byte 111 (codes "r") _ refl (word_byte 114 [] _ refl (word_ends refl refl) refl) refl) refl) refl refl refl refl refl refl

    pub an_in : {d : ℕ} → ReadsBack d false (plain_token (codes "in") ∷ [])
    an_in = keyword (codes "in") _ (word_byte 105 (codes "n") _ refl (word_byte 110 [] _ refl (word_ends refl refl) refl) refl) refl refl refl refl refl refl

    pub a_do : {d : ℕ} → ReadsBack d false (plain_token (codes "do") ∷ [])
    a_do = keyword (codes "do") _ (word_byte 100 (codes "o") _ refl (word_byte 111 [] _ refl (word_ends refl refl) refl) refl) refl refl refl refl refl refl

    pub a_done : {d : ℕ} → ReadsBack d false (plain_token (codes "done") ∷ [])
    a_done = keyword (codes "done") _ (word_byte 100 (codes "one") _ refl (word_byte 111 (codes "ne") _ refl (word_byte 110 (codes "e") _ refl (word_byte 101 [] _ refl (word_ends refl refl) refl) refl) refl) refl) refl refl refl refl refl refl

    pub a_while : {d : ℕ} → ReadsBack d false (plain_token (codes "while") ∷ [])
    a_while = keyword (codes "while") _ (word_byte 119 (codes "hile") _ refl (word_byte 104 (codes "ile") _ refl (word_byte 105 (codes "le") _ refl (word_byte 108 (codes "e") _ refl (word_byte 101 [] _ refl (word_ends refl refl) refl) refl) refl) refl) refl) refl refl refl refl refl refl

    pub an_until : {d : ℕ} → ReadsBack d false (plain_token (codes "until") ∷ [])
    an_until = keyword (codes "until") _ (word_byte 117 (codes "ntil") _ refl (word_byte 110 (codes "til") _ refl (word_byte 116 (codes "il") _ refl (word_byte 105 (codes "l") _ refl (word_byte 108 [] _ refl (word_ends refl refl) refl) refl) refl) refl) refl) refl refl refl refl refl refl

    pub an_esac : {d : ℕ} → ReadsBack d false (plain_token (codes "esac") ∷ [])
    an_esac = keyword (codes "esac") _ (word_byte 101 (codes "sac") _ refl (word_byte 115 (codes "ac") _ refl (word_byte 97 (codes "c") _ refl (word_byte 99 [] _ refl (word_ends refl refl) refl) refl) refl) refl) refl refl refl refl refl refl

  -- ---- operators

  module _ (operators : OperatorsReadBack) where
    read_at : (d len start parens : ℕ) (rest : Bytes) (q : Out (List Token)) (s : Sight) → is_apart rest ≡ true → closes_at d parens s ≡ false → IsItems deep len d start (opened_at s parens) rest q
        → (at : ℕ) × IsItems deep len d start parens (text_at s ++ rest) (preceded (token_at at (kind_at s) ∷ []) q)
    read_at d len start parens rest q (Operator which more) e c x = operators deep len d start parens which rest q e c x
    read_at d len start parens rest q _ e c x = absurd (true_false c)

    never_closes : (s : Sight) → ((p : ℕ) → closes_at zero p s ≡ false) → ((d : ℕ) → closes_at (suc d) zero s ≡ false) → ((d p : ℕ) → closes_at (suc d) (suc p) s ≡ false) → (d p : ℕ) → closes_at d p s ≡ false
    never_closes s outside first further zero p = outside p
    never_closes s outside first further (suc d) zero = first d
    never_closes s outside first further (suc d) (suc p) = further d p

    an_operator : {d : ℕ} (s : Sight) (k : TokenKind) (head : ℕ) (tail : Bytes) → kind_at s ≡ k → token_text (operator k) ≡ head ∷ tail → text_at s ≡ head ∷ tail → (nat_eq head 32 || nat_eq head 10) ≡ true → IsClean (head ∷ tail)
        → ((p : ℕ) → closes_at zero p s ≡ false) → ((d : ℕ) → closes_at (suc d) zero s ≡ false) → ((d p : ℕ) → closes_at (suc d) (suc p) s ≡ false) → ((p : ℕ) → opened_at s p ≡ p) → ReadsBack d false (operator k ∷ [])
    an_operator {d} s k head tail is text seen blank clean outside first further same =
        let whole : tokens_text (operator k ∷ []) ≡ head ∷ tail = append-nil (token_text (operator k)) ∙ text in
        record {
          apart = λ rest e. ap (λ t. is_apart (t ++ rest)) whole ∙ blank;
          clean = subst IsClean (sym whole) clean;
          reads = λ len start parens rest q e l x.
              let r = read_at d len start parens rest q s e (never_closes s outside first further d parens) (subst (λ p. IsItems deep len d start p rest q) (sym (same parens)) x) in (
                token_at r.0 (kind_at s) ∷ [],
                same_operators r.0 (kind_at s) k is,
                subst (λ t. IsItems deep len d start parens (t ++ rest) (preceded (token_at r.0 (kind_at s) ∷ []) q)) (seen ∙ sym whole) r.1,
              );
        }

    pub a_line : {d : ℕ} → ReadsBack d false (line ∷ [])
    a_line = an_operator (sight 0 (codes "\n")) token.Newline 10 [] refl line_is refl refl refl (λ p. refl) (λ d. refl) (λ d p. refl) (λ p. refl)

    pub double_semi : {d : ℕ} → ReadsBack d false (operator token.DoubleSemi ∷ [])
    double_semi = an_operator (sight 0 (codes ";;")) token.DoubleSemi 32 (codes ";;") refl double_semi_is refl refl refl (λ p. refl) (λ d. refl) (λ d p. refl) (λ p. refl)

    pub and_and : {d : ℕ} → ReadsBack d false (operator token.AndAnd ∷ [])
    and_and = an_operator (sight 0 (codes "&&")) token.AndAnd 32 (codes "&&") refl and_is refl refl refl (λ p. refl) (λ d. refl) (λ d p. refl) (λ p. refl)

    pub or_or : {d : ℕ} → ReadsBack d false (operator token.OrOr ∷ [])
    or_or = an_operator (sight 0 (codes "||")) token.OrOr 32 (codes "||") refl or_is refl refl refl (λ p. refl) (λ d. refl) (λ d p. refl) (λ p. refl)

    pub a_bar : {d : ℕ} → ReadsBack d false (operator token.Bar ∷ [])
    a_bar = an_operator (sight 0 (codes "|")) token.Bar 32 (codes "|") refl bar_is refl refl refl (λ p. refl) (λ d. refl) (λ d p. refl) (λ p. refl)

    pub redirect : {d : ℕ} (which : Redirect) → ReadsBack d false (redirect_token which ∷ [])
    redirect OutNull = an_operator (sight 0 (codes ">/dev/null")) (token.Redirect OutNull) 32 (codes ">/dev/null") refl (redirect_is OutNull) refl refl refl (λ p. refl) (λ d. refl) (λ d p. refl) (λ p. refl)
    redirect ErrNull = an_operator (sight 0 (codes "2>/dev/null")) (token.Redirect ErrNull) 32 (codes "2>/dev/null") refl (redirect_is ErrNull) refl refl refl (λ p. refl) (λ d. refl) (λ d p. refl) (λ p. refl)
    redirect InNull = an_operator (sight 0 (codes "</dev/null")) (token.Redirect InNull) 32 (codes "</dev/null") refl (redirect_is InNull) refl refl refl (λ p. refl) (λ d. refl) (λ d p. refl) (λ p. refl)
    redirect OutToErr = an_operator (sight 0 (codes ">&2")) (token.Redirect OutToErr) 32 (codes ">&2") refl (redirect_is OutToErr) refl refl refl (λ p. refl) (λ d. refl) (λ d p. refl) (λ p. refl)
    redirect ErrToOut = an_operator (sight 0 (codes "2>&1")) (token.Redirect ErrToOut) 32 (codes "2>&1") refl (redirect_is ErrToOut) refl refl refl (λ p. refl) (λ d. refl) (λ d p. refl) (λ p. refl)

    pub redirects : {d : ℕ} (rs : List Redirect) → ReadsBack d false (map redirect_token rs)
    redirects [] = nothing
    redirects (r ∷ rs) = joined {us = redirect_token r ∷ []} (redirect r) (redirects rs)

    -- ---- parentheses

    abbrev left : Sight
    left = sight 0 (codes "(")

    abbrev right : Sight
    right = sight 0 (codes ")")

    left_open : (d p : ℕ) → closes_at d p left ≡ false
    left_open zero p = refl
    left_open (suc d) zero = refl
    left_open (suc d) (suc p) = refl

    right_open : (d p : ℕ) → closes_at d (suc p) right ≡ false
    right_open zero p = refl
    right_open (suc d) p = refl

    plus_one : (p : ℕ) → suc p ≡ p + 1
    plus_one p = omega arith

    minus_one : (p : ℕ) → p ≡ suc p - 1
    minus_one p = omega arith

    left_text : tokens_text (operator token.LeftParen ∷ []) ≡ codes " ("
    left_text = append-nil (token_text (operator token.LeftParen)) ∙ left_is

    right_text : tokens_text (operator token.RightParen ∷ []) ≡ codes " )"
    right_text = append-nil (token_text (operator token.RightParen)) ∙ right_is

    pub in_parens : {d : ℕ} {us : Tokens} → ReadsBack d false us → ReadsBack d false (operator token.LeftParen ∷ (us ++ operator token.RightParen ∷ []))
    in_parens {d} {us} x =
        let close = operator token.RightParen ∷ [] in
        let open_tokens = operator token.LeftParen ∷ [] in
        let inside = us ++ close in
        let text : (rest : Bytes) → tokens_text (operator token.LeftParen ∷ inside) ++ rest ≡ codes " (" ++ (tokens_text us ++ (codes " )" ++ rest)) =
        (λ rest. grouped open_tokens inside rest ∙ two (λ (s t : Bytes). s ++ t) left_text (grouped us close rest ∙ ap (λ t. tokens_text us ++ (t ++ rest)) right_text))
        in
        record {
          apart = λ rest e. ap is_apart (text rest);
          clean = subst IsClean (sym (flat_map-append token_text open_tokens inside)) (clean_append (tokens_text open_tokens) (tokens_text inside) (subst IsClean (sym left_text) refl)
              (subst IsClean (sym (flat_map-append token_text us close)) (clean_append (tokens_text us) (tokens_text close) x.clean (subst IsClean (sym right_text) refl))));
          reads = λ len start parens rest q e l z.
              let c = read_at d len start (suc parens) rest q right e (right_open d parens) (subst (λ p. IsItems deep len d start p rest q) (minus_one parens) z) in
              let ends = token_at c.0 token.RightParen ∷ [] in
              let b = x.reads len start (suc parens) (codes " )" ++ rest) (preceded ends q) refl (λ f. absurd (false_true f)) c.1 in
              let a = read_at d len start parens (tokens_text us ++ (codes " )" ++ rest)) (preceded b.0 (preceded ends q)) left (x.apart (codes " )" ++ rest) refl) (left_open d parens)
              (subst (λ p. IsItems deep len d start p (tokens_text us ++ (codes " )" ++ rest)) (preceded b.0 (preceded ends q))) (plus_one parens) b.2)
              in
              let begins = token_at a.0 token.LeftParen ∷ [] in (
                begins ++ (b.0 ++ ends),
                two (λ (xs ys : Tokens). xs ++ ys) (same_operators a.0 token.LeftParen token.LeftParen refl)
                    (map_append zeroed_token b.0 ends ∙ two (λ (xs ys : Tokens). xs ++ ys) b.1 (same_operators c.0 token.RightParen token.RightParen refl) ∙ sym (map_append zeroed_token us close)),
                subst (λ t. IsItems deep len d start parens t (preceded (begins ++ (b.0 ++ ends)) q)) (sym (text rest))
                    (subst (IsItems deep len d start parens (codes " (" ++ (tokens_text us ++ (codes " )" ++ rest)))) (ap (preceded begins) (preceded_twice b.0 ends q) ∙ preceded_twice begins (b.0 ++ ends) q) a.1),
              );
        }
