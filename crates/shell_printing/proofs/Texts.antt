-- What a command is printed as is the texts of its tokens, one after another.
use Rattle.std.proofs.Common.{◌≡◌, ℕ, Bool, true, false, if◌then◌else◌, nat_le, List, [], ◌∷◌, ◌++◌, append_assoc, append-nil, map, Some, None, codes, refl, sym, ap, ◌∙◌, subst}
use Rattle.std.proofs.lemmas.Grind.{flat_map-append}
use Rattle.std.proofs.lemmas.List.Folds.{flat_map-map}
use Rattle.std.specs.List.{flat_map}
use Rattle.shell_syntax.specs.declared.redirect.Redirect.{Redirect}
use Rattle.shell_syntax.specs.declared.level.Level.{Level}
use Rattle.shell_syntax.specs.declared.level.Level.TheVariants as level
use Rattle.shell_syntax.specs.declared.syntax.Command.{Command, roll-Command}
use Rattle.shell_syntax.specs.declared.syntax.Command.TheVariants as c
use Rattle.shell_syntax.specs.declared.syntax.Command.TheOpen as o
use Rattle.shell_syntax.specs.declared.syntax.Command.TheFolds.{ind-Command, map-Command, map-Part}
use Rattle.shell_syntax.specs.declared.syntax.Part.{Part, roll-Part}
use Rattle.shell_syntax.specs.declared.syntax.Part.TheVariants as part
use Rattle.shell_syntax.specs.declared.syntax.Assign.{Assign, roll-Assign}
use Rattle.shell_syntax.specs.declared.syntax.CaseArm.{CaseArm, roll-CaseArm, out-roll-CaseArm}
use Rattle.shell_syntax.specs.declared.syntax.IfArm.{IfArm, roll-IfArm}
use Rattle.shell_syntax.specs.declared.syntax.Link.{Link, roll-Link}
use Rattle.shell_syntax.specs.declared.syntax.Word.{Word, roll-Word}
use Rattle.shell_syntax.specs.PrintedParts.{Text, run_text}
use Rattle.shell_syntax.specs.Printed.{first_line, Printed, printed, part_text, assign_text, arm_text, condition_text, further_text, word_text, rank, is_simple, braced as braced_text, placed as placed_text, between as between_text, spaced, redirect_text, redirected_text, link_word, link_text, if_arm_text, if_head, else_text, for_head, in_words, loop_word, loop_head, do_text, arm_head, arm_body, case_head, arms_text, sub_text, define_text, assign_text_of}
use Rattle.shell_syntax.proofs.Layers.{level_simple, level_redirected, level_pipe, level_not, level_chain, level_seq, level_if, level_for, level_while, level_case, level_sub, level_define, text_simple, text_redirected, text_pipe, text_not, text_chain, text_seq, text_if, text_if_else, text_for, text_for_in, text_while, text_case, text_sub, text_define, text_plain, text_quoted, text_param, text_all, text_run, text_assign, text_arm, text_condition, text_further, text_word}
use Rattle.shell_lexer.specs.declared.token.Token.{Token}
use Rattle.shell_lexer.specs.declared.token.TokenKind.{TokenKind}
use Rattle.shell_lexer.specs.declared.token.TokenKind.TheVariants as token
use Rattle.shell_lexer.specs.declared.token.RawPart.{RawPart, roll-RawPart, out-RawPart, roll-out-RawPart}
use Rattle.shell_lexer.specs.declared.token.RawPart.TheVariants as raw
use Rattle.shell_lexer.specs.declared.token.RawPart.TheOpen as seen
use Rattle.shell_lexer.specs.declared.token.RawPart.TheFolds.{fold-roll-RawPart, fold-roll-TokenKind, fold-roll-Token}
use Rattle.shell_grammar.specs.Look.{Tokens}
use Rattle.shell_printing.specs.Laws.{PrintedTextsAreTokens}
use Rattle.shell_printing.specs.PrintedTokens.{Phrase, word_token, plain_token, operator, line, redirect_token, braced, placed, between, redirected_tokens, link_token, in_tokens, do_tokens, loop_token, assign_seen, assign_parts, phrase, raw_of, assign_raws, arm_tokens, condition_tokens, further_tokens, word_raws}
use Rattle.shell_printing.specs.TokenTexts.{raw_layer, kind_layer, token_layer, raw_text, kind_text, token_text, tokens_text}
use Rattle.shell_printing.proofs.PhraseLayers.{phrase_simple, phrase_redirected, phrase_pipe, phrase_not, phrase_chain, phrase_seq, phrase_if, phrase_if_else, phrase_for, phrase_for_in, phrase_while, phrase_case, phrase_sub, phrase_define, phrase_plain, phrase_quoted, phrase_param, phrase_all, phrase_run, phrase_the_assign, phrase_the_case_arm, phrase_the_if_arm, phrase_the_link, phrase_the_word}
use Rattle.shell_printing.proofs.Offsets.{both}

joins : {a a2 b b2 : Text} → a ≡ a2 → b ≡ b2 → a ++ b ≡ a2 ++ b2
joins e f = both (λ (a b : Text). a ++ b) e f

-- ---- single tokens

abbrev raws_text : List RawPart → Text
raws_text parts = flat_map raw_text parts

kind_of : (k : TokenKind) → token_text (operator k) ≡ kind_text k
kind_of k = fold-roll-Token Text Text Text raw_layer kind_layer token_layer (record { at = 0; kind = k })

pub word_is : (parts : List RawPart) → token_text (word_token parts) ≡ 32 ∷ flat_map raw_text parts
word_is parts =
    kind_of (token.Word parts) ∙ ap kind_text (sym (token.rolls-Word parts)) ∙ fold-roll-TokenKind Text Text Text raw_layer kind_layer token_layer (seen.Word parts)
    ∙ ap (λ t. 32 ∷ t) (flat_map-map (λ p. p) raw_text parts)

pub plain_raw : (w : Text) → raw_text (raw.Plain w) ≡ w
plain_raw w = ap raw_text (sym (raw.rolls-Plain w)) ∙ fold-roll-RawPart Text Text Text raw_layer kind_layer token_layer (seen.Plain w)

plain_is : (w : Text) → token_text (plain_token w) ≡ 32 ∷ w
plain_is w = word_is (raw.Plain w ∷ []) ∙ ap (λ t. 32 ∷ t) (append-nil (raw_text (raw.Plain w)) ∙ plain_raw w)

pub line_is : token_text line ≡ codes "\n"
line_is = kind_of token.Newline ∙ ap kind_text (sym token.rolls-Newline) ∙ fold-roll-TokenKind Text Text Text raw_layer kind_layer token_layer seen.Newline

pub double_semi_is : token_text (operator token.DoubleSemi) ≡ codes " ;;"
double_semi_is = kind_of token.DoubleSemi ∙ ap kind_text (sym token.rolls-DoubleSemi) ∙ fold-roll-TokenKind Text Text Text raw_layer kind_layer token_layer seen.DoubleSemi

pub and_is : token_text (operator token.AndAnd) ≡ codes " &&"
and_is = kind_of token.AndAnd ∙ ap kind_text (sym token.rolls-AndAnd) ∙ fold-roll-TokenKind Text Text Text raw_layer kind_layer token_layer seen.AndAnd

pub or_is : token_text (operator token.OrOr) ≡ codes " ||"
or_is = kind_of token.OrOr ∙ ap kind_text (sym token.rolls-OrOr) ∙ fold-roll-TokenKind Text Text Text raw_layer kind_layer token_layer seen.OrOr

pub bar_is : token_text (operator token.Bar) ≡ codes " |"
bar_is = kind_of token.Bar ∙ ap kind_text (sym token.rolls-Bar) ∙ fold-roll-TokenKind Text Text Text raw_layer kind_layer token_layer seen.Bar

pub left_is : token_text (operator token.LeftParen) ≡ codes " ("
left_is = kind_of token.LeftParen ∙ ap kind_text (sym token.rolls-LeftParen) ∙ fold-roll-TokenKind Text Text Text raw_layer kind_layer token_layer seen.LeftParen

pub right_is : token_text (operator token.RightParen) ≡ codes " )"
right_is = kind_of token.RightParen ∙ ap kind_text (sym token.rolls-RightParen) ∙ fold-roll-TokenKind Text Text Text raw_layer kind_layer token_layer seen.RightParen

pub redirect_is : (which : Redirect) → token_text (redirect_token which) ≡ redirect_text which
redirect_is which = kind_of (token.Redirect which) ∙ ap kind_text (sym (token.rolls-Redirect which)) ∙ fold-roll-TokenKind Text Text Text raw_layer kind_layer token_layer (seen.Redirect which)

link_is : (is_and : Bool) → token_text (link_token is_and) ≡ link_word is_and
link_is true = and_is
link_is false = or_is

loop_is : (until : Bool) → token_text (loop_token until) ≡ loop_word until
loop_is true = plain_is (codes "until")
loop_is false = plain_is (codes "while")

-- ---- texts, one behind the other

-- a text with nothing behind it
last : {x a : Text} → x ≡ a → x ++ [] ≡ a
last {x} e = append-nil x ∙ e

join : (ts us : Tokens) {a b : Text} → tokens_text ts ≡ a → tokens_text us ≡ b → tokens_text (ts ++ us) ≡ a ++ b
join ts us e f = flat_map-append token_text ts us ∙ joins e f

module _ {A : Type 0} {Q : A → Type 0} where
  flat_pairs : {B : Type 0} (f : A → Text) (k : A → B) (g : B → Tokens) → ((x : A) → Q x → tokens_text (g (k x)) ≡ f x) → (ys : List ((x : A) × Q x))
      → tokens_text (flat_map g (map k (map (λ y. y.0) ys))) ≡ flat_map f (map (λ y. y.0) ys)
  flat_pairs f k g h [] = refl
  flat_pairs f k g h (y ∷ ys) = join (g (k y.0)) (flat_map g (map k (map (λ y. y.0) ys))) (h y.0 y.1) (flat_pairs f k g h ys)

  between_pairs : {B : Type 0} (separator : Text) (by : Tokens) (f : A → Text) (k : A → B) (g : B → Tokens) → tokens_text by ≡ separator → ((x : A) → Q x → tokens_text (g (k x)) ≡ f x) → (ys : List ((x : A) × Q x))
      → tokens_text (between by g (map k (map (λ y. y.0) ys))) ≡ between_text separator f (map (λ y. y.0) ys)
  between_pairs separator by f k g e h [] = refl
  between_pairs separator by f k g e h (y ∷ ys) =
      join (g (k y.0)) (flat_map (λ b. by ++ g b) (map k (map (λ y. y.0) ys))) (h y.0 y.1)
      (flat_pairs (λ x. separator ++ f x) k (λ b. by ++ g b) (λ x q. join by (g (k x)) e (h x q)) ys)

  words_pairs : (f : A → Text) (k : A → List RawPart) → ((x : A) → Q x → raws_text (k x) ≡ f x) → (ys : List ((x : A) × Q x))
      → tokens_text (map word_token (map k (map (λ y. y.0) ys))) ≡ flat_map (λ x. spaced (f x)) (map (λ y. y.0) ys)
  words_pairs f k h [] = refl
  words_pairs f k h (y ∷ ys) = joins (word_is (k y.0) ∙ ap (λ t. 32 ∷ t) (h y.0 y.1)) (words_pairs f k h ys)

redirects_is : (rs : List Redirect) → tokens_text (map redirect_token rs) ≡ flat_map redirect_text rs
redirects_is [] = refl
redirects_is (r ∷ rs) = joins (redirect_is r) (redirects_is rs)

-- ---- what is shown of each type of the syntax

record Told (x : Command) : Type 0 where
  pub level : (phrase x).level ≡ (printed x).level
  pub text : tokens_text (phrase x).tokens ≡ (printed x).text

abbrev PartTold : Part → Type 0
PartTold x = raw_text (raw_of x) ≡ part_text x

abbrev AssignTold : Assign → Type 0
AssignTold x = raws_text (assign_raws x) ≡ assign_text x

abbrev CaseArmTold : CaseArm → Type 0
CaseArmTold x = tokens_text (arm_tokens x) ≡ arm_text x

abbrev IfArmTold : IfArm → Type 0
IfArmTold x = tokens_text (condition_tokens x) ≡ condition_text x

abbrev LinkTold : Link → Type 0
LinkTold x = tokens_text (further_tokens x) ≡ further_text x

abbrev WordTold : Word → Type 0
WordTold x = raws_text (word_raws x) ≡ word_text x

told : (x : Command) (p : Phrase) (q : Printed) → phrase x ≡ p → (printed x).level ≡ q.level → (printed x).text ≡ q.text → p.level ≡ q.level → tokens_text p.tokens ≡ q.text → Told x
told x p q e l t f g = record {
  level = ap (λ (p : Phrase). p.level) e ∙ f ∙ sym l;
  text = ap (λ (p : Phrase). tokens_text p.tokens) e ∙ g ∙ sym t;
}

braced_is : (ts : Tokens) (a : Text) → tokens_text ts ≡ a → tokens_text (braced ts) ≡ braced_text a
unfolding braced_text
braced_is ts a e = joins (plain_is (codes "{")) (join ts (line ∷ plain_token (codes "}") ∷ []) e (joins line_is (last (plain_is (codes "}")))))

placed_is : (place : Level) (x : Command) → Told x → tokens_text (placed place (phrase x)) ≡ placed_text place (printed x)
placed_is place x t = ap (λ l. tokens_text (if nat_le (rank l) (rank place) then (phrase x).tokens else braced (phrase x).tokens)) t.level ∙ by (nat_le (rank (printed x).level) (rank place)) where
  by : (b : Bool) → tokens_text (if b then (phrase x).tokens else braced (phrase x).tokens) ≡ (if b then (printed x).text else braced_text (printed x).text)
  by true = t.text
  by false = braced_is (phrase x).tokens (printed x).text t.text

redirected_is : (x : Command) (rs : List Redirect) → Told x → tokens_text (redirected_tokens (phrase x) (map redirect_token rs)) ≡ redirected_text (printed x) (flat_map redirect_text rs)
unfolding redirected_text
redirected_is x rs t =
    ap (λ l. tokens_text (if is_simple l then back ++ (phrase x).tokens else placed level.Compound (phrase x) ++ back)) t.level ∙ by (is_simple (printed x).level) where
      back : Tokens
      back = map redirect_token rs

      by : (b : Bool) → tokens_text (if b then back ++ (phrase x).tokens else placed level.Compound (phrase x) ++ back)
          ≡ (if b then flat_map redirect_text rs ++ (printed x).text else placed_text level.Compound (printed x) ++ flat_map redirect_text rs)
      by true = join back (phrase x).tokens (redirects_is rs) t.text
      by false = join (placed level.Compound (phrase x)) back (placed_is level.Compound x t) (redirects_is rs)

do_is : (ts : Tokens) (a : Text) → tokens_text ts ≡ a → tokens_text (do_tokens ts) ≡ do_text a
unfolding do_text
do_is ts a e = joins line_is (joins (plain_is (codes "do")) (join ts (line ∷ plain_token (codes "done") ∷ []) e (joins line_is (last (plain_is (codes "done"))))))

sub_is : (ts : Tokens) (a : Text) → tokens_text ts ≡ a → tokens_text (operator token.LeftParen ∷ (ts ++ operator token.RightParen ∷ [])) ≡ sub_text a
unfolding sub_text
sub_is ts a e = joins left_is (join ts (operator token.RightParen ∷ []) e (last right_is))

if_is : (ts : Tokens) (a : Text) → tokens_text ts ≡ a → tokens_text (plain_token (codes "if") ∷ (ts ++ line ∷ plain_token (codes "fi") ∷ [])) ≡ if_head a ++ codes "\n fi"
unfolding if_head
if_is ts a e = joins (plain_is (codes "if")) (join ts (line ∷ plain_token (codes "fi") ∷ []) e (joins line_is (last (plain_is (codes "fi")))))

if_else_is : (ts us : Tokens) (a b : Text) → tokens_text ts ≡ a → tokens_text us ≡ b
    → tokens_text (plain_token (codes "if") ∷ (ts ++ line ∷ plain_token (codes "else") ∷ (us ++ line ∷ plain_token (codes "fi") ∷ []))) ≡ if_head a ++ else_text b
unfolding if_head else_text
if_else_is ts us a b e f =
    joins (plain_is (codes "if")) (join ts (line ∷ plain_token (codes "else") ∷ (us ++ line ∷ plain_token (codes "fi") ∷ [])) e
    (joins line_is (joins (plain_is (codes "else")) (join us (line ∷ plain_token (codes "fi") ∷ []) f (joins line_is (last (plain_is (codes "fi"))))))))

for_is : (name : Text) (ts : Tokens) (a : Text) → tokens_text ts ≡ a → tokens_text (plain_token (codes "for") ∷ plain_token name ∷ ts) ≡ for_head name ++ a
unfolding for_head
for_is name ts a e = joins (plain_is (codes "for")) (joins (plain_is name) e)

in_is : (ts : Tokens) (a : Text) → tokens_text ts ≡ a → tokens_text (plain_token (codes "in") ∷ ts) ≡ in_words a
unfolding in_words
in_is ts a e = joins (plain_is (codes "in")) e

while_is : (until : Bool) (ts us : Tokens) (a b : Text) → tokens_text ts ≡ a → tokens_text us ≡ b → tokens_text (loop_token until ∷ (ts ++ us)) ≡ loop_head until a ++ b
unfolding loop_head
while_is until ts us a b e f = joins (loop_is until) (join ts us e f) ∙ sym (append_assoc (loop_word until) a b)

case_is : (raws : List RawPart) (ts : Tokens) (w a : Text) → raws_text raws ≡ w → tokens_text ts ≡ a
    → tokens_text (plain_token (codes "case") ∷ word_token raws ∷ plain_token (codes "in") ∷ (ts ++ line ∷ plain_token (codes "esac") ∷ [])) ≡ case_head w ++ arms_text a
unfolding case_head arms_text
case_is raws ts w a e f =
    joins (plain_is (codes "case")) (joins (word_is raws ∙ ap (λ t. 32 ∷ t) e) (joins (plain_is (codes "in"))
    (join ts (line ∷ plain_token (codes "esac") ∷ []) f (joins line_is (last (plain_is (codes "esac")))))))

define_is : (name : Text) (ts : Tokens) (a : Text) → tokens_text ts ≡ a → tokens_text (plain_token name ∷ operator token.LeftParen ∷ operator token.RightParen ∷ braced ts) ≡ define_text name a
unfolding define_text braced_text
define_is name ts a e =
    let end = codes "\n }" in
    joins (plain_is name) (joins left_is (joins right_is (braced_is ts a e)))
    ∙ ap (λ t. 32 ∷ t) (sym (append_assoc name (codes " ( ) {") (a ++ end)) ∙ sym (append_assoc (name ++ codes " ( ) {") a end))

arm_is : (ps ts : Tokens) (p a : Text) → tokens_text ps ≡ p → tokens_text ts ≡ a
    → tokens_text (line ∷ operator token.LeftParen ∷ (ps ++ operator token.RightParen ∷ (ts ++ operator token.DoubleSemi ∷ []))) ≡ arm_head p ++ arm_body a
unfolding arm_head arm_body
arm_is ps ts p a e f =
    joins line_is (joins left_is (join ps (operator token.RightParen ∷ (ts ++ operator token.DoubleSemi ∷ [])) e (joins right_is (join ts (operator token.DoubleSemi ∷ []) f (last double_semi_is)))))

condition_is : (ts us : Tokens) (a b : Text) → tokens_text ts ≡ a → tokens_text us ≡ b → tokens_text (ts ++ line ∷ plain_token (codes "then") ∷ us) ≡ if_arm_text a b
unfolding if_arm_text
condition_is ts us a b e f = join ts (line ∷ plain_token (codes "then") ∷ us) e (joins line_is (joins (plain_is (codes "then")) f)) ∙ sym (append_assoc a (codes "\n then") b)

further_is : (is_and : Bool) (ts : Tokens) (a : Text) → tokens_text ts ≡ a → tokens_text (link_token is_and ∷ ts) ≡ link_text is_and a
unfolding link_text
further_is is_and ts a e = joins (link_is is_and) e

-- ---- all forms of commands

abbrev Pairs : Type 0
Pairs = o.Command-F ((x : Command) × Told x) ((x : Part) × PartTold x) ((x : Assign) × AssignTold x) ((x : CaseArm) × CaseArmTold x) ((x : IfArm) × IfArmTold x) ((x : Link) × LinkTold x) ((x : Word) × WordTold x)

abbrev PartPairs : Type 0
PartPairs = o.Part-F ((x : Command) × Told x) ((x : Part) × PartTold x) ((x : Assign) × AssignTold x) ((x : CaseArm) × CaseArmTold x) ((x : IfArm) × IfArmTold x) ((x : Link) × LinkTold x) ((x : Word) × WordTold x)

abbrev base : Pairs → o.Command-F Command Part Assign CaseArm IfArm Link Word
base y = map-Command _ _ _ _ _ _ _ Command Part Assign CaseArm IfArm Link Word (λ y. y.0) (λ y. y.0) (λ y. y.0) (λ y. y.0) (λ y. y.0) (λ y. y.0) (λ y. y.0) y

abbrev part_base : PartPairs → o.Part-F Command Part Assign CaseArm IfArm Link Word
part_base y = map-Part _ _ _ _ _ _ _ Command Part Assign CaseArm IfArm Link Word (λ y. y.0) (λ y. y.0) (λ y. y.0) (λ y. y.0) (λ y. y.0) (λ y. y.0) (λ y. y.0) y

conditions_is : (ys : List ((x : IfArm) × IfArmTold x)) → tokens_text (between (line ∷ plain_token (codes "elif") ∷ []) (λ t. t) (map condition_tokens (map (λ y. y.0) ys))) ≡ between_text (codes "\n elif") condition_text (map (λ y. y.0) ys)
conditions_is ys = between_pairs (codes "\n elif") (line ∷ plain_token (codes "elif") ∷ []) condition_text condition_tokens (λ t. t) (joins line_is (last (plain_is (codes "elif")))) (λ x q. q) ys

command_told : (y : Pairs) → Told (roll-Command (base y))
command_told (o.Simple at xs ys) =
    let es = map (λ y. y.0) xs in
    let ws = map (λ y. y.0) ys in
    subst Told (sym (c.rolls-Simple at es ws))
    (told (c.Simple at es ws) _ (record { level = level.Simple; text = flat_map (λ x. spaced (assign_text x)) es ++ flat_map (λ x. spaced (word_text x)) ws }) (phrase_simple at es ws) (level_simple at es ws) (text_simple at es ws) refl
    (join (map word_token (map assign_raws es)) (map word_token (map word_raws ws)) (words_pairs assign_text assign_raws (λ x q. q) xs) (words_pairs word_text word_raws (λ x q. q) ys)))
command_told (o.Redirected at y rs) =
    subst Told (sym (c.rolls-Redirected at y.0 rs))
    (told (c.Redirected at y.0 rs) _ (record { level = level.Command; text = redirected_text (printed y.0) (flat_map redirect_text rs) }) (phrase_redirected at y.0 rs) (level_redirected at y.0 rs) (text_redirected at y.0 rs) refl
    (redirected_is y.0 rs y.1))
command_told (o.Pipe at ys) =
    let xs = map (λ y. y.0) ys in
    let text = between_text (codes " |") (λ x. placed_text level.Command (printed x)) xs in
    subst Told (sym (c.rolls-Pipe at xs))
    (told (c.Pipe at xs) _ (record { level = level.PipeSequence; text = text }) (phrase_pipe at xs) (level_pipe at xs) (text_pipe at xs) refl
    (between_pairs (codes " |") (operator token.Bar ∷ []) (λ x. placed_text level.Command (printed x)) phrase (placed level.Command) (last bar_is) (λ x q. placed_is level.Command x q) ys))
command_told (o.Not at y) =
    subst Told (sym (c.rolls-Not at y.0))
    (told (c.Not at y.0) _ (record { level = level.Pipeline; text = codes " !" ++ placed_text level.PipeSequence (printed y.0) }) (phrase_not at y.0) (level_not at y.0) (text_not at y.0) refl
    (joins (plain_is (codes "!")) (placed_is level.PipeSequence y.0 y.1)))
command_told (o.Chain y ys) =
    let ls = map (λ y. y.0) ys in
    let text = placed_text level.Pipeline (printed y.0) ++ flat_map further_text ls in
    subst Told (sym (c.rolls-Chain y.0 ls))
    (told (c.Chain y.0 ls) _ (record { level = level.AndOr; text = text }) (phrase_chain y.0 ls) (level_chain y.0 ls) (text_chain y.0 ls) refl
    (join (placed level.Pipeline (phrase y.0)) (flat_map (λ t. t) (map further_tokens ls)) (placed_is level.Pipeline y.0 y.1) (flat_pairs further_text further_tokens (λ t. t) (λ x q. q) ys)))
command_told (o.Seq ys) =
    let xs = map (λ y. y.0) ys in
    let text = between_text (codes "\n") (λ x. placed_text level.AndOr (printed x)) xs in
    subst Told (sym (c.rolls-Seq xs))
    (told (c.Seq xs) _ (record { level = level.List; text = text }) (phrase_seq xs) (level_seq xs) (text_seq xs) refl
    (between_pairs (codes "\n") (line ∷ []) (λ x. placed_text level.AndOr (printed x)) phrase (placed level.AndOr) (last line_is) (λ x q. placed_is level.AndOr x q) ys))
command_told (o.If at ys None) =
    let es = map (λ y. y.0) ys in
    let text = between_text (codes "\n elif") condition_text es in
    subst Told (sym (c.rolls-If at es None))
    (told (c.If at es None) _ (record { level = level.Compound; text = if_head text ++ codes "\n fi" }) (phrase_if at es) (level_if at es None) (text_if at es) refl
    (if_is (between (line ∷ plain_token (codes "elif") ∷ []) (λ t. t) (map condition_tokens es)) text (conditions_is ys)))
command_told (o.If at ys (Some y)) =
    let es = map (λ y. y.0) ys in
    let text = between_text (codes "\n elif") condition_text es in
    subst Told (sym (c.rolls-If at es (Some y.0)))
    (told (c.If at es (Some y.0)) _ (record { level = level.Compound; text = if_head text ++ else_text (printed y.0).text }) (phrase_if_else at es y.0) (level_if at es (Some y.0)) (text_if_else at es y.0) refl
    (if_else_is (between (line ∷ plain_token (codes "elif") ∷ []) (λ t. t) (map condition_tokens es)) (phrase y.0).tokens text (printed y.0).text (conditions_is ys) y.1.text))
command_told (o.For at name None y) =
    subst Told (sym (c.rolls-For at name None y.0))
    (told (c.For at name None y.0) _ (record { level = level.Compound; text = for_head name ++ do_text (printed y.0).text }) (phrase_for at name y.0) (level_for at name None y.0) (text_for at name y.0) refl
    (for_is name (do_tokens (phrase y.0).tokens) (do_text (printed y.0).text) (do_is (phrase y.0).tokens (printed y.0).text y.1.text)))
command_told (o.For at name (Some ys) y) =
    let ws = map (λ y. y.0) ys in
    let text = in_words (flat_map (λ x. spaced (word_text x)) ws) in
    subst Told (sym (c.rolls-For at name (Some ws) y.0))
    (told (c.For at name (Some ws) y.0) _ (record { level = level.Compound; text = for_head name ++ (text ++ do_text (printed y.0).text) }) (phrase_for_in at name ws y.0) (level_for at name (Some ws) y.0) (text_for_in at name ws y.0) refl
    (for_is name (in_tokens (Some (map word_raws ws)) ++ do_tokens (phrase y.0).tokens) (text ++ do_text (printed y.0).text)
    (join (in_tokens (Some (map word_raws ws))) (do_tokens (phrase y.0).tokens) (in_is (map word_token (map word_raws ws)) _ (words_pairs word_text word_raws (λ x q. q) ys)) (do_is (phrase y.0).tokens (printed y.0).text y.1.text))))
command_told (o.While at until y z) =
    subst Told (sym (c.rolls-While at until y.0 z.0))
    (told (c.While at until y.0 z.0) _ (record { level = level.Compound; text = loop_head until (printed y.0).text ++ do_text (printed z.0).text }) (phrase_while at until y.0 z.0) (level_while at until y.0 z.0) (text_while at until y.0 z.0) refl
    (while_is until (phrase y.0).tokens (do_tokens (phrase z.0).tokens) (printed y.0).text (do_text (printed z.0).text) y.1.text (do_is (phrase z.0).tokens (printed z.0).text z.1.text)))
command_told (o.Case at y ys) =
    let es = map (λ y. y.0) ys in
    subst Told (sym (c.rolls-Case at y.0 es))
    (told (c.Case at y.0 es) _ (record { level = level.Compound; text = case_head (word_text y.0) ++ arms_text (flat_map arm_text es) }) (phrase_case at y.0 es) (level_case at y.0 es) (text_case at y.0 es) refl
    (case_is (word_raws y.0) (flat_map (λ t. t) (map arm_tokens es)) (word_text y.0) (flat_map arm_text es) y.1 (flat_pairs arm_text arm_tokens (λ t. t) (λ x q. q) ys)))
command_told (o.Sub at y) =
    subst Told (sym (c.rolls-Sub at y.0))
    (told (c.Sub at y.0) _ (record { level = level.Compound; text = sub_text (printed y.0).text }) (phrase_sub at y.0) (level_sub at y.0) (text_sub at y.0) refl (sub_is (phrase y.0).tokens (printed y.0).text y.1.text))
command_told (o.Define at name y) =
    subst Told (sym (c.rolls-Define at name y.0))
    (told (c.Define at name y.0) _ (record { level = level.Command; text = define_text name (printed y.0).text }) (phrase_define at name y.0) (level_define at name y.0) (text_define at name y.0) refl
    (define_is name (phrase y.0).tokens (printed y.0).text y.1.text))

-- ---- parts, assignments, words

part_told : (y : PartPairs) → PartTold (roll-Part (part_base y))
part_told (o.Plain w) = subst PartTold (sym (part.rolls-Plain w)) (ap raw_text (phrase_plain w) ∙ plain_raw w ∙ sym (text_plain w))
part_told (o.Quoted w) =
    subst PartTold (sym (part.rolls-Quoted w))
    (ap raw_text (phrase_quoted w) ∙ ap raw_text (sym (raw.rolls-Quoted w)) ∙ fold-roll-RawPart Text Text Text raw_layer kind_layer token_layer (seen.Quoted w) ∙ sym (text_quoted w))
part_told (o.Param key default quoted) =
    subst PartTold (sym (part.rolls-Param key default quoted))
    (ap raw_text (phrase_param key default quoted) ∙ ap raw_text (sym (raw.rolls-Param key default quoted)) ∙ fold-roll-RawPart Text Text Text raw_layer kind_layer token_layer (seen.Param key default quoted) ∙ sym (text_param key default quoted))
part_told o.All = subst PartTold (sym part.rolls-All) (ap raw_text phrase_all ∙ ap raw_text (sym raw.rolls-All) ∙ fold-roll-RawPart Text Text Text raw_layer kind_layer token_layer seen.All ∙ sym text_all)
part_told (o.Run at y quoted) =
    let ts = (phrase y.0).tokens in
    subst PartTold (sym (part.rolls-Run at y.0 quoted))
    (ap raw_text (phrase_run at y.0 quoted) ∙ ap raw_text (sym (raw.rolls-Run 0 ts quoted)) ∙ fold-roll-RawPart Text Text Text raw_layer kind_layer token_layer (seen.Run 0 ts quoted)
    ∙ ap (λ t. run_text t quoted) (flat_map-map (λ t. t) token_text ts ∙ y.1.text) ∙ sym (text_run at y.0 quoted))

seen_is : (name : Text) (r : seen.RawPart-F RawPart TokenKind Token) (p : RawPart) (ps : List RawPart) → out-RawPart p ≡ r → raws_text (assign_seen name r p ps) ≡ (name ++ codes "=") ++ raws_text (p ∷ ps)
seen_is name (seen.Plain w) p ps e =
    let is : raw_text p ≡ w = ap raw_text (sym (roll-out-RawPart p) ∙ ap roll-RawPart e) ∙ fold-roll-RawPart Text Text Text raw_layer kind_layer token_layer (seen.Plain w) in
    joins (plain_raw (name ++ 61 ∷ w)) refl ∙ append_assoc name (61 ∷ w) (raws_text ps) ∙ sym (append_assoc name (codes "=") (w ++ raws_text ps)) ∙ ap (λ t. (name ++ codes "=") ++ (t ++ raws_text ps)) (sym is)
seen_is name (seen.Quoted w) p ps e = joins (plain_raw (name ++ 61 ∷ [])) refl
seen_is name (seen.Param key default quoted) p ps e = joins (plain_raw (name ++ 61 ∷ [])) refl
seen_is name seen.All p ps e = joins (plain_raw (name ++ 61 ∷ [])) refl
seen_is name (seen.Run at ts quoted) p ps e = joins (plain_raw (name ++ 61 ∷ [])) refl

parts_is : (name : Text) (ps : List RawPart) → raws_text (assign_parts name ps) ≡ (name ++ codes "=") ++ raws_text ps
parts_is name [] = joins (plain_raw (name ++ 61 ∷ [])) refl
parts_is name (p ∷ ps) = seen_is name (out-RawPart p) p ps refl

assign_told : (name : Text) (w : Word) → WordTold w → AssignTold (roll-Assign (record { name = name; value = w }))
unfolding assign_text_of
assign_told name w h =
    ap raws_text (phrase_the_assign name w) ∙ parts_is name (word_raws w) ∙ ap (λ t. (name ++ codes "=") ++ t) h ∙ sym (text_assign (roll-Assign (record { name = name; value = w })))

case_arm_told : (ys : List ((x : Word) × WordTold x)) (x : Command) → Told x → CaseArmTold (roll-CaseArm (record { patterns = map (λ y. y.0) ys; body = x }))
case_arm_told ys x h =
    let ws = map (λ y. y.0) ys in
    let made : o.CaseArm-F Command Part Assign CaseArm IfArm Link Word = record { patterns = ws; body = x } in
    let text = between_text (codes " |") (λ w. spaced (word_text w)) in
    ap tokens_text (phrase_the_case_arm ws x)
    ∙ arm_is (between (operator token.Bar ∷ []) (λ raws. word_token raws ∷ []) (map word_raws ws)) (phrase x).tokens (text ws) (printed x).text
    (between_pairs (codes " |") (operator token.Bar ∷ []) (λ w. spaced (word_text w)) word_raws (λ raws. word_token raws ∷ []) (last bar_is) (λ w q. last (word_is (word_raws w) ∙ ap (λ t. 32 ∷ t) q)) ys) h.text
    ∙ ap (λ (a : o.CaseArm-F Command Part Assign CaseArm IfArm Link Word). arm_head (text a.patterns) ++ arm_body (printed a.body).text) (sym (out-roll-CaseArm made))
    ∙ sym (text_arm (roll-CaseArm made))

if_arm_told : (x y : Command) → Told x → Told y → IfArmTold (roll-IfArm (record { cond = x; body = y }))
if_arm_told x y h k =
    ap tokens_text (phrase_the_if_arm x y) ∙ condition_is (phrase x).tokens (phrase y).tokens (printed x).text (printed y).text h.text k.text ∙ sym (text_condition (roll-IfArm (record { cond = x; body = y })))

link_told : (is_and : Bool) (x : Command) → Told x → LinkTold (roll-Link (record { and = is_and; command = x }))
link_told is_and x h =
    ap tokens_text (phrase_the_link is_and x) ∙ further_is is_and (placed level.Pipeline (phrase x)) (placed_text level.Pipeline (printed x)) (placed_is level.Pipeline x h)
    ∙ sym (text_further (roll-Link (record { and = is_and; command = x })))

parts_told : (ys : List ((x : Part) × PartTold x)) → raws_text (map raw_of (map (λ y. y.0) ys)) ≡ flat_map part_text (map (λ y. y.0) ys)
parts_told [] = refl
parts_told (y ∷ ys) = joins y.1 (parts_told ys)

word_told : (at : ℕ) (ys : List ((x : Part) × PartTold x)) → WordTold (roll-Word (record { at = at; parts = map (λ y. y.0) ys }))
word_told at ys = ap raws_text (phrase_the_word at (map (λ y. y.0) ys)) ∙ parts_told ys ∙ sym (text_word (roll-Word (record { at = at; parts = map (λ y. y.0) ys })))

all_told : (x : Command) → Told x
all_told = ind-Command Told PartTold AssignTold CaseArmTold IfArmTold LinkTold WordTold
    (λ x y is. subst (λ x. Told (roll-Command x)) is (command_told y))
    (λ x y is. subst (λ x. PartTold (roll-Part x)) is (part_told y))
    (λ x y is. subst (λ x. AssignTold (roll-Assign x)) is (assign_told y.name y.value.0 y.value.1))
    (λ x y is. subst (λ x. CaseArmTold (roll-CaseArm x)) is (case_arm_told y.patterns y.body.0 y.body.1))
    (λ x y is. subst (λ x. IfArmTold (roll-IfArm x)) is (if_arm_told y.cond.0 y.body.0 y.cond.1 y.body.1))
    (λ x y is. subst (λ x. LinkTold (roll-Link x)) is (link_told y.and y.command.0 y.command.1))
    (λ x y is. subst (λ x. WordTold (roll-Word x)) is (word_told y.at y.parts))

pub printed_texts_are_tokens : PrintedTextsAreTokens
printed_texts_are_tokens script = ap (λ t. first_line script.strict ++ t) (sym (all_told script.body).text)
