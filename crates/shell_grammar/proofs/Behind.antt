-- What a phrase of the plain grammar begins with, and what stands behind it.
use Rattle.std.proofs.Common.{◌≡◌, ℕ, Bool, true, false, if◌then◌else◌, List, [], ◌∷◌, ◌⊎◌, inl, inr, Option, Some, None, refl, sym, ap, ◌∙◌}
use Rattle.shell_syntax.specs.declared.syntax.Command.{Command}
use Rattle.shell_syntax.specs.declared.syntax.Word.{Word}
use Rattle.shell_syntax.specs.declared.syntax.Link.{Link}
use Rattle.shell_syntax.specs.declared.syntax.IfArm.{IfArm}
use Rattle.shell_syntax.specs.declared.syntax.CaseArm.{CaseArm}
use Rattle.shell_lexer.specs.declared.token.Token.{Token}
use Rattle.shell_lexer.specs.declared.token.TokenKind.{TokenKind, out-TokenKind}
use Rattle.shell_lexer.specs.declared.token.RawPart.{RawPart, out-RawPart}
use Rattle.shell_lexer.specs.declared.token.RawPart.TheOpen as o
use Rattle.shell_grammar.specs.declared.form.CommandForm.TheVariants as command
use Rattle.shell_grammar.specs.declared.items.Items.{Items}
use Rattle.shell_grammar.specs.declared.look.Look.{Look}
use Rattle.shell_grammar.specs.declared.look.Look.TheVariants.{AtEnd, Newline, Semi, DoubleSemi, AndAnd, OrOr, Bar, LeftParen, RightParen, Redirection, Keyword, Name, Assignment, Other}
use Rattle.shell_grammar.specs.declared.look.Reserved.{Reserved}
use Rattle.shell_grammar.specs.declared.look.Reserved.TheVariants.{Open, Close, Bang, Then, Elif, Else, Fi, Do, Done, Esac}
use Rattle.shell_grammar.specs.Forms.{command_form, starts, is_some, is_word, is_separator, link_and, redirection, ends_arm, loop_word}
use Rattle.script_names.specs.ShellNames.{is_shell_name}
use Rattle.shell_grammar.specs.Look.{Text, Tokens, look, word, kind_look, kind_word, word_look, begun_look, whole_look, first_look, reserved, begins_assignment}
use Rattle.shell_grammar.specs.PlainGrammar.{IsSeparator, semicolon, line_end, IsList, a_list, AreMembers, no_member, last_separator, one_member, IsAndOr, an_and_or, AreLinks, no_link, and_link, or_link, IsPipeline, plain_pipeline, not_pipeline, IsSequence, a_sequence, ArePiped, no_pipe, one_pipe, IsCommand, simple_command, compound_command, definition, IsCompound, brace_group, subshell, if_command, for_loop, while_loop, case_command, IsElse, no_else, elif_part, else_part, AreForWords, in_words, for_semicolon, no_in, AreArms, no_arm, last_arm, one_arm, IsArm, open_arm, arm_without_paren, IsArmRest, arm_rest, IsArmList, no_arm_list, arm_list, IsBraces, braces, IsSimple, begins_with_assignment, begins_with_redirect, begins_with_word, AreItems, no_item, assignment_item, redirect_item, word_item, IsWord, the_word}
use Rattle.shell_grammar.proofs.Unique.{none_some}
use Rattle.shell_lexer.proofs.PrintedBytes.{clash}

-- ---- what may stand behind a command, a pipeline, an and-or list, a list

abbrev pub behind_command : Look → Bool
behind_command LeftParen = false
behind_command (Redirection which) = false
behind_command _ = true

abbrev pub behind_pipeline : Look → Bool
behind_pipeline LeftParen = false
behind_pipeline (Redirection which) = false
behind_pipeline Bar = false
behind_pipeline _ = true

abbrev pub behind_and_or : Look → Bool
behind_and_or LeftParen = false
behind_and_or (Redirection which) = false
behind_and_or Bar = false
behind_and_or AndAnd = false
behind_and_or OrOr = false
behind_and_or _ = true

abbrev pub behind_list : Look → Bool
behind_list AtEnd = true
behind_list DoubleSemi = true
behind_list RightParen = true
behind_list (Keyword Close) = true
behind_list (Keyword Then) = true
behind_list (Keyword Elif) = true
behind_list (Keyword Else) = true
behind_list (Keyword Fi) = true
behind_list (Keyword Do) = true
behind_list (Keyword Done) = true
behind_list (Keyword Esac) = true
behind_list _ = false

abbrev pub is_newline : Look → Bool
is_newline Newline = true
is_newline _ = false

abbrev pub is_open : Look → Bool
is_open LeftParen = true
is_open _ = false

pub list_and_or : (l : Look) → behind_list l ≡ true → behind_and_or l ≡ true
list_and_or AtEnd e = refl
list_and_or DoubleSemi e = refl
list_and_or RightParen e = refl
list_and_or (Keyword which) e = refl
list_and_or _ e = absurd (clash refl e)

pub and_or_pipeline : (l : Look) → behind_and_or l ≡ true → behind_pipeline l ≡ true
and_or_pipeline LeftParen e = absurd (clash refl e)
and_or_pipeline (Redirection which) e = absurd (clash refl e)
and_or_pipeline Bar e = absurd (clash refl e)
and_or_pipeline AndAnd e = absurd (clash refl e)
and_or_pipeline OrOr e = absurd (clash refl e)
and_or_pipeline _ e = refl

pub pipeline_command : (l : Look) → behind_pipeline l ≡ true → behind_command l ≡ true
pipeline_command LeftParen e = absurd (clash refl e)
pipeline_command (Redirection which) e = absurd (clash refl e)
pipeline_command Bar e = refl
pipeline_command _ e = refl

pub list_separator : (l : Look) → behind_list l ≡ true → is_separator l ≡ false
list_separator Semi e = absurd (clash refl e)
list_separator Newline e = absurd (clash refl e)
list_separator _ e = refl

pub list_newline : (l : Look) → behind_list l ≡ true → is_newline l ≡ false
list_newline Newline e = absurd (clash refl e)
list_newline _ e = refl

pub list_starts_none : (l : Look) → behind_list l ≡ true → starts l ≡ false
list_starts_none AtEnd e = refl
list_starts_none DoubleSemi e = refl
list_starts_none RightParen e = refl
list_starts_none (Keyword Close) e = refl
list_starts_none (Keyword Then) e = refl
list_starts_none (Keyword Elif) e = refl
list_starts_none (Keyword Else) e = refl
list_starts_none (Keyword Fi) e = refl
list_starts_none (Keyword Do) e = refl
list_starts_none (Keyword Done) e = refl
list_starts_none (Keyword Esac) e = refl
list_starts_none _ e = absurd (clash refl e)

pub and_or_link : (l : Look) → behind_and_or l ≡ true → link_and l ≡ None
and_or_link AndAnd e = absurd (clash refl e)
and_or_link OrOr e = absurd (clash refl e)
and_or_link _ e = refl

pub command_redirection : (l : Look) → behind_command l ≡ true → redirection l ≡ None
command_redirection (Redirection which) e = absurd (clash refl e)
command_redirection _ e = refl

pub command_open : (l : Look) → behind_command l ≡ true → is_open l ≡ false
command_open LeftParen e = absurd (clash refl e)
command_open _ e = refl

-- ---- what a command may begin with

pub start_newline : (l : Look) → starts l ≡ true → is_newline l ≡ false
start_newline Newline e = absurd (clash refl e)
start_newline _ e = refl

pub start_arm : (l : Look) → starts l ≡ true → ends_arm l ≡ false
start_arm AtEnd e = absurd (clash refl e)
start_arm DoubleSemi e = absurd (clash refl e)
start_arm (Keyword Esac) e = absurd (clash refl e)
start_arm _ e = refl

pub form_starts : (l : Look) → is_some (command_form l) ≡ true → starts l ≡ true
form_starts (Keyword Bang) e = refl
form_starts _ e = e

pub ends_newline : (l : Look) → ends_arm l ≡ true → is_newline l ≡ false
ends_newline Newline e = absurd (clash refl e)
ends_newline _ e = refl

pub word_newline : (l : Look) → is_word l ≡ true → is_newline l ≡ false
word_newline Newline e = absurd (clash refl e)
word_newline _ e = refl

pub word_open : (l : Look) → is_word l ≡ true → is_open l ≡ false
word_open LeftParen e = absurd (clash refl e)
word_open _ e = refl

pub separator_word : (l : Look) → is_separator l ≡ true → is_word l ≡ false
separator_word Semi e = refl
separator_word Newline e = refl
separator_word _ e = absurd (clash refl e)

pub separator_and_or : (l : Look) → is_separator l ≡ true → behind_and_or l ≡ true
separator_and_or Semi e = refl
separator_and_or Newline e = refl
separator_and_or _ e = absurd (clash refl e)

-- a word that is no reserved one and no assignment
pub name_or_other : (l : Look) → is_word l ≡ true → ((which : Reserved) → l ≡ Keyword which → ⊥) → (l ≡ Assignment → ⊥) → (l ≡ Name) ⊎ (l ≡ Other)
name_or_other Name e k a = inl refl
name_or_other Other e k a = inr refl
name_or_other (Keyword which) e k a = absurd (k which refl)
name_or_other Assignment e k a = absurd (a refl)
name_or_other _ e k a = absurd (clash refl e)

-- ---- a word looks like one

pub begun_is_word : (b : Bool) → is_word (if b then Assignment else Other) ≡ true
begun_is_word true = refl
begun_is_word false = refl

pub whole_is_word : (w : Text) (r : Option Reserved) (b : Bool) → is_shell_name w ≡ b → is_word (whole_look w r) ≡ true
whole_is_word w (Some which) b e = refl
whole_is_word w None true e = ap (λ b. is_word (if b then Name else begun_look w)) e
whole_is_word w None false e = ap (λ b. is_word (if b then Name else begun_look w)) e ∙ begun_is_word (begins_assignment w)

pub seen_is_word : (r : o.RawPart-F RawPart TokenKind Token) (ps : List RawPart) → is_word (first_look r ps) ≡ true
seen_is_word (o.Plain w) [] = whole_is_word w (reserved w) (is_shell_name w) refl
seen_is_word (o.Plain w) (p ∷ ps) = begun_is_word (begins_assignment w)
seen_is_word (o.Quoted w) ps = refl
seen_is_word (o.Param key v b) ps = refl
seen_is_word o.All ps = refl
seen_is_word (o.Run at ts b) ps = refl

pub raws_are_word : (raws : List RawPart) → is_word (word_look raws) ≡ true
raws_are_word [] = refl
raws_are_word (p ∷ ps) = seen_is_word (out-RawPart p) ps

kind_is_word : (k : o.TokenKind-F RawPart TokenKind Token) (raws : List RawPart) → kind_word k ≡ Some raws → is_word (kind_look k) ≡ true
kind_is_word (o.Word ps) raws e = raws_are_word ps
kind_is_word o.Newline raws e = absurd (none_some refl e)
kind_is_word o.Semi raws e = absurd (none_some refl e)
kind_is_word o.DoubleSemi raws e = absurd (none_some refl e)
kind_is_word o.AndAnd raws e = absurd (none_some refl e)
kind_is_word o.OrOr raws e = absurd (none_some refl e)
kind_is_word o.Bar raws e = absurd (none_some refl e)
kind_is_word o.LeftParen raws e = absurd (none_some refl e)
kind_is_word o.RightParen raws e = absurd (none_some refl e)
kind_is_word (o.Redirect which) raws e = absurd (none_some refl e)

look_is_word : (ts : Tokens) (raws : List RawPart) → word ts ≡ Some raws → is_word (look ts) ≡ true
look_is_word [] raws e = absurd (none_some refl e)
look_is_word (t ∷ ts) raws e = kind_is_word (out-TokenKind t.kind) raws e

pub word_is : {end : ℕ} {ts rest : Tokens} {w : Word} → IsWord end ts w rest → is_word (look ts) ≡ true
word_is {ts = ts} (the_word raws ps w p e r) = look_is_word ts raws w

-- ---- what phrases begin with

pub braces_look : {end : ℕ} {ts rest : Tokens} {body : Command} → IsBraces end ts body rest → look ts ≡ Keyword Open
braces_look (braces s b x) = s.0

loop_command : (until : Bool) → command_form (loop_word until) ≡ Some command.Compound
loop_command true = refl
loop_command false = refl

pub compound_look : {end : ℕ} {ts rest : Tokens} {body : Command} → IsCompound end ts body rest → command_form (look ts) ≡ Some command.Compound
compound_look (brace_group b) = ap command_form (braces_look b)
compound_look (subshell x s b r e) = ap command_form s.0
compound_look (if_command v s x f e) = ap command_form s.0
compound_look (for_loop name words x s n m w d b f e) = ap command_form s.0
compound_look (while_loop until cond x s a d b f e) = ap command_form s.0 ∙ loop_command until
compound_look (case_command w arms s x n i m a f e) = ap command_form s.0

simple_look : {end : ℕ} {ts rest : Tokens} {body : Command} → IsSimple end ts body rest → is_some (command_form (look ts)) ≡ true
simple_look (begins_with_assignment w items k x m e) = ap (λ l. is_some (command_form l)) k
simple_look (begins_with_redirect which items s m e) = ap (λ l. is_some (command_form l)) s.0
simple_look {ts = ts} (begins_with_word w items k a x m e) =
    elim (name_or_other (look ts) (word_is x) k a) as (λ _. is_some (command_form (look ts)) ≡ true) [
      | inl h ↦ ap (λ l. is_some (command_form l)) h
      | inr h ↦ ap (λ l. is_some (command_form l)) h
    ]

pub command_look : {end : ℕ} {ts rest : Tokens} {body : Command} → IsCommand end ts body rest → is_some (command_form (look ts)) ≡ true
command_look (simple_command s) = simple_look s
command_look (compound_command x rs a m e) = ap is_some (compound_look a)
command_look (definition w x k a l r n b e) = ap (λ l. is_some (command_form l)) k

pub sequence_look : {end : ℕ} {ts rest : Tokens} {body : Command} → IsSequence end ts body rest → is_some (command_form (look ts)) ≡ true
sequence_look (a_sequence x xs a m e) = command_look a

pub pipeline_look : {end : ℕ} {ts rest : Tokens} {body : Command} → IsPipeline end ts body rest → starts (look ts) ≡ true
pipeline_look {ts = ts} (plain_pipeline s) = form_starts (look ts) (sequence_look s)
pipeline_look (not_pipeline x s q e) = ap starts s.0

pub and_or_look : {end : ℕ} {ts rest : Tokens} {body : Command} → IsAndOr end ts body rest → starts (look ts) ≡ true
and_or_look (an_and_or x links p m e) = pipeline_look p

pub list_look : {end : ℕ} {ts rest : Tokens} {body : Command} → IsList end ts body rest → starts (look ts) ≡ true
list_look (a_list x xs a m e) = and_or_look a

pub separator_look : {ts rest : Tokens} → IsSeparator ts rest → is_separator (look ts) ≡ true
separator_look (semicolon s n) = ap is_separator s.0
separator_look (line_end s n) = ap is_separator s.0

pub arm_rest_look : {end : ℕ} {ts rest : Tokens} {a : CaseArm} → IsArmRest end ts a rest → is_word (look ts) ≡ true
arm_rest_look (arm_rest w ws x a p s n l e) = word_is a

pub arm_esac : {end : ℕ} {ts rest : Tokens} {a : CaseArm} → IsArm end ts a rest → look ts ≡ Keyword Esac → ⊥
arm_esac (open_arm s x) h = cc (sym s.0 ∙ h)
arm_esac (arm_without_paren k x) h = k h

arm_newline : {end : ℕ} {ts rest : Tokens} {a : CaseArm} → IsArm end ts a rest → is_newline (look ts) ≡ false
arm_newline (open_arm s x) = ap is_newline s.0
arm_newline {ts = ts} (arm_without_paren k x) = word_newline (look ts) (arm_rest_look x)

pub arms_newline : {end : ℕ} {ts rest : Tokens} {arms : List CaseArm} → AreArms end ts arms rest → look rest ≡ Keyword Esac → is_newline (look ts) ≡ false
arms_newline (no_arm e f) k = ap (λ t. is_newline (look t)) (sym e) ∙ ap is_newline k
arms_newline (last_arm a x f) k = arm_newline x
arms_newline (one_arm a arms1 x s n m f) k = arm_newline x

pub arm_list_newline : {end : ℕ} {ts rest : Tokens} {body : Command} → IsArmList end ts body rest → ends_arm (look rest) ≡ true → is_newline (look ts) ≡ false
arm_list_newline {ts = ts} (no_arm_list e f) k = ends_newline (look ts) (ap (λ t. ends_arm (look t)) (sym e) ∙ k)
arm_list_newline {ts = ts} (arm_list l) k = start_newline (look ts) (list_look l)

pub for_words_newline : {end : ℕ} {ts rest : Tokens} {words : Option (List Word)} → AreForWords end ts words rest → look rest ≡ Keyword Do → is_newline (look ts) ≡ false
for_words_newline (in_words ws s m p f) k = ap is_newline s.0
for_words_newline (for_semicolon s n f) k = ap is_newline s.0
for_words_newline (no_in e f) k = ap (λ t. is_newline (look t)) (sym e) ∙ ap is_newline k

-- ---- what stands behind the first member of a list

pub members_behind : {end : ℕ} {ts rest : Tokens} {xs : List Command} → AreMembers end ts xs rest → behind_list (look rest) ≡ true → behind_and_or (look ts) ≡ true
members_behind {ts = ts} (no_member e f) h = list_and_or (look ts) (ap (λ t. behind_list (look t)) (sym e) ∙ h)
members_behind {ts = ts} (last_separator s f) h = separator_and_or (look ts) (separator_look s)
members_behind {ts = ts} (one_member x xs1 s a m f) h = separator_and_or (look ts) (separator_look s)

pub links_behind : {end : ℕ} {ts rest : Tokens} {links : List Link} → AreLinks end ts links rest → behind_and_or (look rest) ≡ true → behind_pipeline (look ts) ≡ true
links_behind {ts = ts} (no_link e f) h = and_or_pipeline (look ts) (ap (λ t. behind_and_or (look t)) (sym e) ∙ h)
links_behind (and_link x links1 s n p m f) h = ap behind_pipeline s.0
links_behind (or_link x links1 s n p m f) h = ap behind_pipeline s.0

pub piped_behind : {end : ℕ} {ts rest : Tokens} {xs : List Command} → ArePiped end ts xs rest → behind_pipeline (look rest) ≡ true → behind_command (look ts) ≡ true
piped_behind {ts = ts} (no_pipe e f) h = pipeline_command (look ts) (ap (λ t. behind_pipeline (look t)) (sym e) ∙ h)
piped_behind (one_pipe x xs1 s n a m f) h = ap behind_command s.0

pub else_behind : {end : ℕ} {ts rest : Tokens} {v : List IfArm × Option Command} → IsElse end ts v rest → look rest ≡ Keyword Fi → behind_list (look ts) ≡ true
else_behind (no_else e f) k = ap (λ t. behind_list (look t)) (sym e) ∙ ap behind_list k
else_behind (elif_part s x) k = ap behind_list s.0
else_behind (else_part x s b f) k = ap behind_list s.0

pub items_open : {end : ℕ} {b : Bool} {ts rest : Tokens} {items : Items} → AreItems end b ts items rest → behind_command (look rest) ≡ true → is_open (look ts) ≡ false
items_open {ts = ts} (no_item e w d f) h = command_open (look ts) (ap (λ t. behind_command (look t)) (sym e) ∙ h)
items_open (assignment_item w xs b k x m f) h = ap is_open k
items_open (redirect_item which xs s m f) h = ap is_open s.0
items_open {ts = ts} (word_item w xs n x m f) h = word_open (look ts) (word_is x)
