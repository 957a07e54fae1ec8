-- The text of a value and a newline is read as the value. Here stands nothing of reports.
use Rattle.std.proofs.Common.{◌≡◌, ℕ, suc, ◌≤◌, Bool, true, false, cond, ◌&&◌, List, [], ◌∷◌, ◌++◌, max, Some, refl, sym, ap, ap₂, ◌∙◌, arith, append_assoc, append-nil}
use Rattle.std.specs.Prelude.{Option, option_and_then}
use Rattle.json.specs.Token.{Token, begin_object, end_object, begin_array, end_array, key, string, number, boolean, null, bad}
use Rattle.json.specs.Word.{ends_word, word}
use Rattle.json.specs.Lex.{Lexeme, token, comma, colon, string_token, lex, between, fresh, punctuate, tokens}
use Rattle.json.specs.Print.{escape, quoted, token_text, begins, ends, separator, print_from, print, IsPrintable, ArePrintable}
use Rattle.json.specs.Json as json
use Rattle.json.specs.Tree as tree
use Rattle.json.specs.Tree.{json_tokens}
use Rattle.json.proofs.Printed.Strings.{content-escape, lex-escape}
use Rattle.json.proofs.Printed.Numbers.{lex-number, in_word-ended}
use Rattle.json.proofs.Printed.Tokens.{tokens-print}
use Rattle.json.proofs.Printed.Trees.{ArePrintable-json_tokens, value-json_tokens}
use Rattle.serde_json.specs.Data as data_
use Rattle.serde_json.specs.Data.{Data, Items, Members}
use Rattle.serde_json.specs.Read.{of_json, max_depth, read}
use Rattle.serde_json.specs.Written.{outline, items_outline, members_outline, compact_text}
use Rattle.serde_json.proofs.Texts.{print-outline}

-- the value of what the grammar read, where nothing is left
abbrev whole : Option (json.Json × List Token) → Option Data
whole o = option_and_then of_json (option_and_then (λ p. json.if_last p.0 p.1) o)

-- ---- a newline behind the last token

abbrev token_lexemes : Token → List Lexeme
token_lexemes begin_object = token begin_object ∷ []
token_lexemes end_object = token end_object ∷ []
token_lexemes begin_array = token begin_array ∷ []
token_lexemes end_array = token end_array ∷ []
token_lexemes (key s) = token (string s) ∷ colon ∷ []
token_lexemes (string s) = token (string s) ∷ []
token_lexemes (number s) = token (number s) ∷ []
token_lexemes (boolean b) = token (boolean b) ∷ []
token_lexemes null = token null ∷ []
token_lexemes bad = []

abbrev lexemes : Bool → List Token → List Lexeme
lexemes c [] = []
lexemes c (t ∷ ts) = cond (c && begins t) (comma ∷ []) [] ++ (token_lexemes t ++ lexemes (ends t) ts)

behind_ends : (ts : List Token) (r : List ℕ) → ends_word r ≡ true → ends_word (print_from true ts ++ r) ≡ true
unfolding print_from
behind_ends [] r h = h
behind_ends (begin_object ∷ ts) r h = refl
behind_ends (end_object ∷ ts) r h = refl
behind_ends (begin_array ∷ ts) r h = refl
behind_ends (end_array ∷ ts) r h = refl
behind_ends (key s ∷ ts) r h = refl
behind_ends (string s ∷ ts) r h = refl
behind_ends (number s ∷ ts) r h = refl
behind_ends (boolean b ∷ ts) r h = refl
behind_ends (null ∷ ts) r h = refl
behind_ends (bad ∷ ts) r h = refl

lex_quoted : (s r : List ℕ) → lex between (quoted s ++ r) ≡ token (string s) ∷ lex between r
unfolding lex
lex_quoted s r =
    let e = append_assoc (escape s) (34 ∷ []) r in
    ap (λ l. lex between (34 ∷ l)) e ∙ ap₂ (λ o l. token (string_token o) ∷ l) (content-escape s r) (lex-escape s r)

lex_token : (t : Token) (r : List ℕ) → IsPrintable t → (ends t ≡ true → ends_word r ≡ true) → lex between (token_text t ++ r) ≡ token_lexemes t ++ lex between r
unfolding lex word
lex_token begin_object r h ended = refl
lex_token end_object r h ended = refl
lex_token begin_array r h ended = refl
lex_token end_array r h ended = refl
lex_token (key s) r h ended = ap (lex between) (append_assoc (quoted s) (58 ∷ []) r) ∙ lex_quoted s (58 ∷ r)
lex_token (string s) r h ended = lex_quoted s r
lex_token (number s) r h ended = lex-number s r h (ended refl)
lex_token (boolean true) r h ended = ap₂ (λ b l. token (cond b (boolean true) bad) ∷ l) (ended refl) (in_word-ended r (ended refl))
lex_token (boolean false) r h ended = ap₂ (λ b l. token (cond b (boolean false) bad) ∷ l) (ended refl) (in_word-ended r (ended refl))
lex_token null r h ended = ap₂ (λ b l. token (cond b null bad) ∷ l) (ended refl) (in_word-ended r (ended refl))
lex_token bad r h ended = absurd h

lex_comma : (b : Bool) (r : List ℕ) → lex between (cond b (44 ∷ []) [] ++ r) ≡ cond b (comma ∷ []) [] ++ lex between r
unfolding lex
lex_comma true r = refl
lex_comma false r = refl

-- what is printed is lexed alone, whatever that ends a word stands behind it
lex_behind : (c : Bool) (ts : List Token) (r : List ℕ) → ArePrintable ts → ends_word r ≡ true → lex between (print_from c ts ++ r) ≡ lexemes c ts ++ lex between r
unfolding print_from ArePrintable
lex_behind c [] r h e = refl
lex_behind c (t ∷ ts) r h e =
    let more = print_from (ends t) ts in
    ap (lex between) (append_assoc (separator c t) (token_text t ++ more) r ∙ ap (λ l. separator c t ++ l) (append_assoc (token_text t) more r))
    ∙ lex_comma (c && begins t) (token_text t ++ (more ++ r))
    ∙ ap (λ l. cond (c && begins t) (comma ∷ []) [] ++ l)
    (lex_token t (more ++ r) h.0 (λ k. ap (λ b. ends_word (print_from b ts ++ r)) k ∙ behind_ends ts r e)
    ∙ ap (λ l. token_lexemes t ++ l) (lex_behind (ends t) ts r h.1 e) ∙ sym (append_assoc (token_lexemes t) (lexemes (ends t) ts) (lex between r)))
    ∙ sym (append_assoc (cond (c && begins t) (comma ∷ []) []) (token_lexemes t ++ lexemes (ends t) ts) (lex between r))

-- a newline at the end changes no token
newline_same : (ts : List Token) → ArePrintable ts → tokens (print ts ++ 10 ∷ []) ≡ tokens (print ts)
unfolding lex
newline_same ts h =
    ap (punctuate fresh) (lex_behind false ts (10 ∷ []) h refl ∙ sym (ap (lex between) (sym (append-nil (print ts))) ∙ lex_behind false ts [] h refl))

-- ---- the text of a value

mutual
  same_depth : (d : Data) → tree.depth (outline d) ≡ data_.depth d
  same_depth data_.null = refl
  same_depth (data_.boolean b) = refl
  same_depth (data_.number n) = refl
  same_depth (data_.string s) = refl
  same_depth (data_.array ds) = ap suc (same_items_depth ds)
  same_depth (data_.object ms) = ap suc (same_members_depth ms)

  same_items_depth : (ds : Items) → tree.items_depth (items_outline ds) ≡ data_.items_depth ds
  same_items_depth data_.no_items = refl
  same_items_depth (data_.item d ds) = ap₂ max (same_depth d) (same_items_depth ds)

  same_members_depth : (ms : Members) → tree.members_depth (members_outline ms) ≡ data_.members_depth ms
  same_members_depth data_.no_members = refl
  same_members_depth (data_.member k d ms) = ap₂ max (same_depth d) (same_members_depth ms)

-- the text of a value and a newline is read as the value
pub text_read : (d : Data) → tree.HasNumbers (outline d) → of_json (outline d) ≡ Some d → data_.depth d ≤ max_depth
    → read (compact_text d ++ 10 ∷ []) ≡ Some d
text_read d numbers same low =
    let ts = json_tokens (outline d) in
    let printable = ArePrintable-json_tokens (outline d) numbers in
    let told = ap (λ s. tokens (s ++ 10 ∷ [])) (sym (print-outline d)) ∙ newline_same ts printable ∙ tokens-print ts printable in
    ap whole (ap (json.value max_depth) (told ∙ sym (append-nil ts)) ∙ value-json_tokens (outline d) max_depth [] (omega (arith, same_depth d, low))) ∙ same
