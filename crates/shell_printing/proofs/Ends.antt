-- Where the tokens of a production end, the words among them, and the word `case`.
use Rattle.std.proofs.Common.{◌≡◌, ℕ, suc, Bool, true, false, if◌then◌else◌, nat_le, List, [], ◌∷◌, map, Option, Some, None, codes, refl, sym, ap, ◌∙◌, subst, arith}
use Rattle.std.proofs.lemmas.Bool.{leb-true, le-leb}
use Rattle.std.proofs.lemmas.Slice.Eq.{bytes_eq-Decides}
use Rattle.std.specs.Str.{bytes_eq}
use Rattle.shell_syntax.specs.declared.redirect.Redirect.{Redirect}
use Rattle.shell_syntax.specs.declared.syntax.Command.{Command}
use Rattle.shell_syntax.specs.declared.syntax.Part.{Part}
use Rattle.shell_syntax.specs.declared.syntax.Part.TheVariants as part
use Rattle.shell_syntax.specs.declared.syntax.IfArm.{IfArm}
use Rattle.shell_syntax.specs.declared.syntax.Link.{Link}
use Rattle.shell_syntax.specs.declared.syntax.Word.{Word}
use Rattle.shell_lexer.specs.declared.token.RawPart.{RawPart, out-RawPart}
use Rattle.shell_lexer.specs.declared.token.RawPart.TheVariants as raw
use Rattle.shell_lexer.specs.declared.token.RawPart.TheOpen as o
use Rattle.token_laws.specs.LongestRuns.{plain_runs_are_longest}
use Rattle.shell_grammar.specs.declared.items.Items.{Items}
use Rattle.shell_grammar.specs.declared.look.Look.{Look}
use Rattle.shell_grammar.specs.declared.look.Look.TheVariants.{AtEnd, Keyword, Name, Assignment, Other}
use Rattle.shell_grammar.specs.declared.look.Reserved.{Reserved}
use Rattle.shell_grammar.specs.declared.look.Reserved.TheVariants.{Case}
use Rattle.shell_grammar.specs.Forms.{is_name_word}
use Rattle.script_names.specs.ShellNames.{is_shell_name}
use Rattle.shell_grammar.specs.Look.{Text, Tokens, look, word, kind_look, kind_word, word_look, whole_look, reserved, begins_assignment}
use Rattle.shell_grammar.specs.Reading.{plainly}
use Rattle.shell_grammar.specs.Trees.{no_items, word_at, word_text, assigned}
use Rattle.shell_grammar.specs.PlainGrammar.{AreNewlines, no_newline, newline, IsSeparator, semicolon, line_end, AreRedirects, no_redirect, one_redirect, AreMembers, no_member, last_separator, one_member, AreLinks, no_link, and_link, or_link, ArePiped, no_pipe, one_pipe, IsElse, no_else, elif_part, else_part, AreForWords, in_words, for_semicolon, no_in, AreWords, no_words, one_word, ArePatterns, no_pattern, one_pattern, AreItems, no_item, assignment_item, redirect_item, word_item, IsWord, the_word, PartsAre, no_part, a_part, a_substitution}
use Rattle.shell_grammar.proofs.Unique.{runs}
use Rattle.shell_printing.specs.PrintedTokens.{word_token, plain_token, raw_of, assign_raws, word_raws}
use Rattle.shell_printing.proofs.PhraseLayers.{phrase_plain, phrase_the_word}
use Rattle.shell_printing.proofs.ZeroedTokens.{SeenKind, seen_run}
use Rattle.shell_printing.proofs.Words.{plain_of, Alike, alike_none, alike_more, single, assigns, assign_same, word_text_plain, not_plain, not_plain_alike}
use Rattle.shell_printing.proofs.Sources.{may_end, same_part, Likes, likes_none, likes_same, likes_run, Sound, SoundParts, other_part, substitution}

-- ---- tests

pub higher : (n a b : ℕ) → nat_le a b ≡ true → nat_le n a ≡ true → nat_le n b ≡ true
higher n a b e f = let g = leb-true a b e in let h = leb-true n a f in le-leb n b (omega arith)

pub if_case : {A : Type 0} (Q : A → Type 0) (b : Bool) {x y : A} → (b ≡ true → Q x) → (b ≡ false → Q y) → Q (if b then x else y)
if_case Q true h g = h refl
if_case Q false h g = g refl

-- ---- where tokens end

abbrev pub IsToken : Look → Type 0
IsToken AtEnd = ⊥
IsToken _ = Unit {0}

pub stop : (last : Bool) {l : Look} (ts : Tokens) → look ts ≡ l → IsToken l → may_end last ts ≡ false
stop last [] e t = absurd (subst IsToken (sym e) t)
stop last (t ∷ ts) e i = refl

pub gone : {l : Look} (ts : Tokens) → look ts ≡ l → IsToken l → ts ≡ [] → ⊥
gone ts e t f = subst IsToken (sym e ∙ ap look f) t

pub separator_gone : {ts rest : Tokens} → IsSeparator ts rest → ts ≡ [] → ⊥
separator_gone {ts} (semicolon s n) f = gone ts s.0 tt f
separator_gone {ts} (line_end s n) f = gone ts s.0 tt f

pub separator_stop : (last : Bool) {ts rest : Tokens} → IsSeparator ts rest → may_end last ts ≡ false
separator_stop last {ts = ts} (semicolon s n) = stop last ts s.0 tt
separator_stop last {ts = ts} (line_end s n) = stop last ts s.0 tt

pub newlines_stop : (last : Bool) {ts rest : Tokens} → AreNewlines ts rest → may_end last rest ≡ false → may_end last ts ≡ false
newlines_stop last (no_newline e) f = ap (may_end last) (sym e) ∙ f
newlines_stop last {ts = ts} (newline s n) f = stop last ts s.0 tt

pub word_stop : (last : Bool) {end : ℕ} {ts rest : Tokens} {w : Word} → IsWord end ts w rest → may_end last ts ≡ false
word_stop last {ts = []} (the_word raws ps k p e f) = absurd (cc k)
word_stop last {ts = t ∷ ts} (the_word raws ps k p e f) = refl

word_gone : {end : ℕ} {ts rest : Tokens} {w : Word} → IsWord end ts w rest → ts ≡ [] → ⊥
word_gone (the_word raws ps k p e f) g = cc (sym k ∙ ap word g)

pub for_words_stop : (last : Bool) {end : ℕ} {ts rest : Tokens} {ws : Option (List Word)} → AreForWords end ts ws rest → may_end last rest ≡ false → may_end last ts ≡ false
for_words_stop last {ts = ts} (in_words ws s a p e) f = stop last ts s.0 tt
for_words_stop last {ts = ts} (for_semicolon s n e) f = stop last ts s.0 tt
for_words_stop last (no_in e g) f = ap (may_end last) (sym e) ∙ f

pub else_stop : (last : Bool) {end : ℕ} {ts rest : Tokens} {v : List IfArm × Option Command} → IsElse end ts v rest → may_end last rest ≡ false → may_end last ts ≡ false
else_stop last (no_else e g) f = ap (may_end last) (sym e) ∙ f
else_stop last {ts = ts} (elif_part s x) f = stop last ts s.0 tt
else_stop last {ts = ts} (else_part x s b e) f = stop last ts s.0 tt

pub members_end : {end : ℕ} {ts rest : Tokens} {xs : List Command} → AreMembers end ts xs rest → ts ≡ [] → (xs ≡ []) × (rest ≡ [])
members_end (no_member e f) g = (f, e ∙ g)
members_end (last_separator s f) g = absurd (separator_gone s g)
members_end (one_member x xs s a m e) g = absurd (separator_gone s g)

pub links_end : {end : ℕ} {ts rest : Tokens} {ls : List Link} → AreLinks end ts ls rest → ts ≡ [] → (ls ≡ []) × (rest ≡ [])
links_end (no_link e f) g = (f, e ∙ g)
links_end {ts = ts} (and_link x ls s n p m e) g = absurd (gone ts s.0 tt g)
links_end {ts = ts} (or_link x ls s n p m e) g = absurd (gone ts s.0 tt g)

pub piped_end : {end : ℕ} {ts rest : Tokens} {xs : List Command} → ArePiped end ts xs rest → ts ≡ [] → (xs ≡ []) × (rest ≡ [])
piped_end (no_pipe e f) g = (f, e ∙ g)
piped_end {ts = ts} (one_pipe x xs s n p m e) g = absurd (gone ts s.0 tt g)

pub words_end : {end : ℕ} {ts rest : Tokens} {ws : List Word} → AreWords end ts ws rest → ts ≡ [] → (ws ≡ []) × (rest ≡ [])
words_end (no_words e f) g = (f, e ∙ g)
words_end (one_word w ws x m e) g = absurd (word_gone x g)

pub patterns_end : {end : ℕ} {ts rest : Tokens} {ws : List Word} → ArePatterns end ts ws rest → ts ≡ [] → (ws ≡ []) × (rest ≡ [])
patterns_end (no_pattern e f) g = (f, e ∙ g)
patterns_end {ts = ts} (one_pattern w ws s x m e) g = absurd (gone ts s.0 tt g)

pub items_end : {end : ℕ} {b : Bool} {ts rest : Tokens} {items : Items} → AreItems end b ts items rest → ts ≡ [] → (items ≡ no_items) × (rest ≡ [])
items_end (no_item e i r f) g = (f, e ∙ g)
items_end (assignment_item w items i k x m e) g = absurd (word_gone x g)
items_end {ts = ts} (redirect_item which items s m e) g = absurd (gone ts s.0 tt g)
items_end (word_item w items i x m e) g = absurd (word_gone x g)

pub patterns_stop : (last : Bool) {end : ℕ} {ts rest : Tokens} {ws : List Word} → ArePatterns end ts ws rest → may_end last rest ≡ false → may_end last ts ≡ false
patterns_stop last (no_pattern e g) f = ap (may_end last) (sym e) ∙ f
patterns_stop last {ts = ts} (one_pattern w ws s x m e) f = stop last ts s.0 tt

pub redirects_end : {ts rest : Tokens} {rs : List Redirect} → AreRedirects ts rs rest → ts ≡ [] → rest ≡ []
redirects_end (no_redirect e f) g = e ∙ g
redirects_end {ts = ts} (one_redirect which rs s m e) g = absurd (gone ts s.0 tt g)

-- ---- the word `case`

abbrev IsCase : Text → Option Reserved → Type 0
IsCase w r = r ≡ Some Case → w ≡ codes "case"

pub case_of : (w : Text) → reserved w ≡ Some Case → w ≡ codes "case"
case_of w =
    if_case (IsCase w) (bytes_eq w (codes "{")) (λ e h. cc h) (λ e.
    if_case (IsCase w) (bytes_eq w (codes "}")) (λ e h. cc h) (λ e.
    if_case (IsCase w) (bytes_eq w (codes "!")) (λ e h. cc h) (λ e.
    if_case (IsCase w) (bytes_eq w (codes "if")) (λ e h. cc h) (λ e.
    if_case (IsCase w) (bytes_eq w (codes "then")) (λ e h. cc h) (λ e.
    if_case (IsCase w) (bytes_eq w (codes "elif")) (λ e h. cc h) (λ e.
    if_case (IsCase w) (bytes_eq w (codes "else")) (λ e h. cc h) (λ e.
    if_case (IsCase w) (bytes_eq w (codes "fi")) (λ e h. cc h) (λ e.
    if_case (IsCase w) (bytes_eq w (codes "for")) (λ e h. cc h) (λ e.
    if_case (IsCase w) (bytes_eq w (codes "in")) (λ e h. cc h) (λ e.
    if_case (IsCase w) (bytes_eq w (codes "do")) (λ e h. cc h) (λ e.
    if_case (IsCase w) (bytes_eq w (codes "done")) (λ e h. cc h) (λ e.
    if_case (IsCase w) (bytes_eq w (codes "while")) (λ e h. cc h) (λ e.
    if_case (IsCase w) (bytes_eq w (codes "until")) (λ e h. cc h) (λ e.
    if_case (IsCase w) (bytes_eq w (codes "case")) (λ e h. (bytes_eq-Decides w (codes "case")).0 e) (λ e.
    if_case (IsCase w) (bytes_eq w (codes "esac")) (λ e h. cc h) (λ e h. cc h))))))))))))))))

pub whole_case : (w : Text) (r : Option Reserved) → whole_look w r ≡ Keyword Case → r ≡ Some Case
whole_case w (Some which) e = ap Some cc
whole_case w None e = absurd (by (is_shell_name w) (begins_assignment w) e) where
  by : (a b : Bool) → (if a then Name else (if b then Assignment else Other)) ≡ Keyword Case → ⊥
  by true b e = cc e
  by false true e = cc e
  by false false e = cc e

pub keyword_word : (s : SeenKind) → kind_look s ≡ Keyword Case → kind_word s ≡ None → ⊥
keyword_word (o.Word ps) e f = cc f
keyword_word o.Newline e f = cc e
keyword_word o.Semi e f = cc e
keyword_word o.DoubleSemi e f = cc e
keyword_word o.AndAnd e f = cc e
keyword_word o.OrOr e f = cc e
keyword_word o.Bar e f = cc e
keyword_word o.LeftParen e f = cc e
keyword_word o.RightParen e f = cc e
keyword_word (o.Redirect which) e f = cc e

pub is_plain_part : (p : RawPart) (t : Text) → out-RawPart p ≡ o.Plain t → p ≡ raw.Plain t
is_plain_part p t e = sym (same_part p (part.Plain t) (ap plainly e)) ∙ phrase_plain t

-- ---- words

part_runs : (p : RawPart) {x : Part} {at : ℕ} {ts : Tokens} {quoted : Bool} → plainly (out-RawPart p) ≡ Some x → out-RawPart p ≡ o.Run at ts quoted → ⊥
part_runs p e f = cc (sym (ap plainly f) ∙ e)

-- the parts of a word that begins with a plain one
record PlainFirst (w : Text) (more : List RawPart) (ps : List Part) : Type 0 where
  pub others : List Part
  pub is : ps ≡ part.Plain w ∷ others
  pub rest : PartsAre more others

plain_first : {raws : List RawPart} {ps : List Part} (w : Text) (p : RawPart) (more : List RawPart) → PartsAre raws ps → raws ≡ p ∷ more → out-RawPart p ≡ o.Plain w → PlainFirst w more ps
plain_first w p more (no_part e) f g = absurd (cc f)
plain_first w p more (a_part {r = r} {raws = raws} x ps1 a m e) f g =
    let same : r ≡ p = cc in
    let rest : raws ≡ more = cc in
    let first : x ≡ part.Plain w = sym (plain_is x (sym (ap (λ p. plainly (out-RawPart p)) same ∙ ap plainly g) ∙ a)) in
    record { others = ps1; is = e ∙ ap (λ (x : Part). x ∷ ps1) first; rest = subst (λ more. PartsAre more ps1) rest m }
  where
    plain_is : (x : Part) → Some (part.Plain w) ≡ Some x → part.Plain w ≡ x
    plain_is x e = cc
plain_first w p more (a_substitution {r = r} at ts quoted body ps1 a sc m e) f g =
    let same : r ≡ p = cc in
    absurd (cc (sym a ∙ ap out-RawPart same ∙ g))

module _ (deep : ℕ → Bool) where
  pub alike : {d : ℕ} {ps qs : List RawPart} → Likes deep d ps qs → Alike ps qs
  alike likes_none = alike_none
  alike (likes_same x e f l) = alike_more (ap (λ p. plain_of (out-RawPart p)) f) (alike l)
  alike (likes_run at ts us quoted e f g b l) = alike_more (ap (λ p. plain_of (out-RawPart p)) f ∙ ap plain_of (seen_run 0 us quoted) ∙ sym (ap plain_of e)) (alike l)

  -- a word that is an assignment, and one that is a name
  pub assign_is : {d : ℕ} (at : ℕ) (raws : List RawPart) (ps : List Part) → PartsAre raws ps → Likes deep d raws (map raw_of ps) → plain_runs_are_longest false raws ≡ true → word_look raws ≡ Assignment
      → assign_raws (assigned (word_at at ps)) ≡ word_raws (word_at at ps)
  assign_is {d} at raws ps m l long e =
      let n = assigns raws e in
      let f = plain_first n.text n.part n.parts m n.is n.plain in
      let behind_first = alike_behind n.parts (map raw_of f.others) n.part (raw_of (part.Plain n.text)) (subst (λ raws. Alike raws (raw_of (part.Plain n.text) ∷ map raw_of f.others)) n.is (subst (λ ps. Alike raws (map raw_of ps)) f.is (alike l))) in
      let alone = not_plain_alike behind_first (not_plain n.text n.part n.parts n.plain (subst (λ raws. plain_runs_are_longest false raws ≡ true) n.is long)) in
      subst (λ ps. assign_raws (assigned (word_at at ps)) ≡ word_raws (word_at at ps)) (sym f.is) (assign_same at n.text f.others n.begins alone)
    where
      alike_behind : (ps qs : List RawPart) (p q : RawPart) → Alike (p ∷ ps) (q ∷ qs) → Alike ps qs
      alike_behind ps qs p q (alike_more e m) = m

  pub name_is : (at : ℕ) (raws : List RawPart) (ps : List Part) → PartsAre raws ps → is_name_word (word_look raws) ≡ true → plain_token (word_text (word_at at ps)) ≡ word_token (word_raws (word_at at ps))
  name_is at raws ps m e =
      let n = single raws e in
      let f = plain_first n.text n.part [] m n.is n.plain in
      let only : ps ≡ part.Plain n.text ∷ [] = f.is ∙ ap (λ (l : List Part). part.Plain n.text ∷ l) (no_others f.others f.rest) in
      ap (λ ps. plain_token (word_text (word_at at ps))) only ∙ ap plain_token (word_text_plain at n.text []) ∙ ap (λ p. word_token (p ∷ [])) (sym (phrase_plain n.text))
      ∙ ap word_token (sym (phrase_the_word at (part.Plain n.text ∷ []))) ∙ ap (λ ps. word_token (word_raws (word_at at ps))) (sym only)
    where
      no_others : (ps : List Part) → PartsAre [] ps → ps ≡ []
      no_others ps (no_part e) = e

  -- what is behind a part
  pub sound_parts_behind : {d : ℕ} {p : RawPart} {ps : List RawPart} → SoundParts deep d (p ∷ ps) → SoundParts deep d ps
  sound_parts_behind (other_part x e s) = s
  sound_parts_behind (substitution at ts quoted e g x s) = s

  pub sound_inside : {d : ℕ} {p : RawPart} {ps : List RawPart} (at : ℕ) (ts : Tokens) (quoted : Bool) → SoundParts deep d (p ∷ ps) → out-RawPart p ≡ o.Run at ts quoted → (deep d ≡ false) × Sound deep (suc d) false ts
  sound_inside {p = p} at ts quoted (other_part x e s) f = absurd (part_runs p e f)
  sound_inside {d} at ts quoted (substitution at2 us it e g x s) f = (g, subst (Sound deep (suc d) false) (runs (sym e ∙ f)).1 x)
