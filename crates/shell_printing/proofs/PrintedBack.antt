-- Where the tokens of a text spell a script, those of the printed script are read back: one induction over the plain
-- grammar, with a clause for each production.
use Rattle.std.proofs.Common.{◌≡◌, ℕ, Bool, true, false, if◌then◌else◌, nat_le, List, [], ◌∷◌, ◌++◌, append_assoc, append-nil, map, ◌⊎◌, inl, inr, Option, Some, None, codes, refl, sym, ap, ◌∙◌, subst}
use Rattle.std.specs.List.{flat_map}
use Rattle.shell_syntax.specs.declared.level.Level.{Level}
use Rattle.shell_syntax.specs.declared.level.Level.TheVariants as level
use Rattle.shell_syntax.specs.declared.redirect.Redirect.{Redirect}
use Rattle.shell_syntax.specs.declared.syntax.Command.{Command}
use Rattle.shell_syntax.specs.declared.syntax.Command.TheVariants as c
use Rattle.shell_syntax.specs.declared.syntax.Part.{Part}
use Rattle.shell_syntax.specs.declared.syntax.Part.TheVariants as part
use Rattle.shell_syntax.specs.declared.syntax.Assign.{Assign}
use Rattle.shell_syntax.specs.declared.syntax.CaseArm.{CaseArm}
use Rattle.shell_syntax.specs.declared.syntax.IfArm.{IfArm}
use Rattle.shell_syntax.specs.declared.syntax.Link.{Link}
use Rattle.shell_syntax.specs.declared.syntax.Word.{Word}
use Rattle.shell_syntax.specs.Printed.{rank, is_simple}
use Rattle.shell_lexer.specs.declared.token.TokenKind.{out-TokenKind}
use Rattle.shell_lexer.specs.declared.token.TokenKind.TheVariants as token
use Rattle.shell_lexer.specs.declared.token.RawPart.{RawPart}
use Rattle.shell_lexer.specs.declared.token.RawPart.TheVariants as raw
use Rattle.token_laws.specs.PrintedLaws.{OperatorsReadBack, WordTokensReadBack, AllTokensReadBack}
use Rattle.shell_grammar.specs.declared.items.Items.{Items}
use Rattle.shell_grammar.specs.declared.look.Look.{Look}
use Rattle.shell_grammar.specs.declared.look.Look.TheVariants.{Keyword, Assignment}
use Rattle.shell_grammar.specs.declared.look.Reserved.TheVariants.{Case}
use Rattle.shell_grammar.specs.Forms.{is_name_word}
use Rattle.shell_grammar.specs.Look.{Text, Tokens, look, behind, place, word_look, reserved}
use Rattle.shell_grammar.specs.Reading.{plainly}
use Rattle.shell_grammar.specs.Trees.{seq_of, pipe_of, chain_of, redirected, link, if_arm, case_arm, no_items, an_assign, a_word as word_item_of, a_redirect, joined as joined_items, simple as simple_of, word_at, word_text, assigned}
use Rattle.shell_grammar.specs.PlainGrammar.{Stands, AreNewlines, no_newline, newline, IsSeparator, semicolon, line_end, AreRedirects, no_redirect, one_redirect, IsScript, no_script, a_script, IsList, a_list, AreMembers, no_member, last_separator, one_member, IsAndOr, an_and_or, AreLinks, no_link, and_link, or_link, IsPipeline, plain_pipeline, not_pipeline, IsSequence, a_sequence, ArePiped, no_pipe, one_pipe, IsCommand, simple_command, compound_command, definition, IsBlock, a_block, IsCompound, brace_group, subshell, if_command, for_loop, while_loop, case_command, IsClause, a_clause, IsElse, no_else, elif_part, else_part, IsName, a_name, AreForWords, in_words, for_semicolon, no_in, AreWords, no_words, one_word, AreArms, no_arm, last_arm, one_arm, IsArm, open_arm, arm_without_paren, IsArmRest, arm_rest, ArePatterns, no_pattern, one_pattern, IsArmList, no_arm_list, arm_list, IsBraces, braces, IsSimple, begins_with_assignment, begins_with_redirect, begins_with_word, AreItems, no_item, assignment_item, redirect_item, word_item, IsWord, the_word, PartsAre, no_part, a_part, a_substitution}
use Rattle.shell_lexer.proofs.PrintedBytes.{clash}
use Rattle.shell_printing.specs.PrintedTokens.{Phrase, word_token, plain_token, operator, line, redirect_token, braced, placed, between, link_token, do_tokens, loop_token, phrase, raw_of, assign_raws, arm_tokens, condition_tokens, further_tokens, word_raws}
use Rattle.shell_printing.proofs.PhraseLayers.{phrase_simple, phrase_redirected, phrase_pipe, phrase_not, phrase_chain, phrase_seq, phrase_if, phrase_if_else, phrase_for, phrase_for_in, phrase_while, phrase_case, phrase_sub, phrase_define, phrase_run, phrase_the_case_arm, phrase_the_if_arm, phrase_the_link, phrase_the_word}
use Rattle.shell_printing.proofs.Words.{single, word_looks_so}
use Rattle.shell_printing.proofs.Backs.{ReadsBack, nothing, wider, joined, a_line, double_semi, and_and, or_or, a_bar, redirects, in_parens, opening, closing, bang, an_if, a_then, an_elif, an_else, a_fi, a_for, an_in, a_do, a_done, a_while, an_until, an_esac}
use Rattle.shell_printing.proofs.Sources.{may_end, same_part, Likes, likes_none, likes_same, likes_run, Sound, other_token, word_token_of, SoundParts, first_word, sound_behind}
use Rattle.shell_printing.proofs.Ends.{higher, stop, newlines_stop, separator_stop, word_stop, patterns_stop, for_words_stop, else_stop, members_end, links_end, piped_end, words_end, patterns_end, items_end, case_of, whole_case, keyword_word, is_plain_part, assign_is, name_is, sound_parts_behind, sound_inside}

-- commands behind the first of a list or of a pipeline
abbrev more_tokens : Tokens → Level → List Command → Tokens
more_tokens separator place xs = flat_map (λ y. separator ++ placed place y) (map phrase xs)

-- conditions with their bodies, each behind `elif`
abbrev more_arms : List IfArm → Tokens
more_arms arms = flat_map (λ y. (line ∷ plain_token (codes "elif") ∷ []) ++ y) (map condition_tokens arms)

-- the words of a simple command
abbrev simple_tokens : List Assign → List Word → Tokens
simple_tokens es ws = map word_token (map assign_raws es) ++ map word_token (map word_raws ws)

module _ (deep : ℕ → Bool) (words : WordTokensReadBack) (args : AllTokensReadBack) (operators : OperatorsReadBack) where
  abbrev Back : ℕ → Bool → Tokens → Type 0
  Back = ReadsBack deep

  abbrev Source : ℕ → Bool → Tokens → Type 0
  Source = Sound deep

  -- a command that is read back where the grammar has this name: as it stands, or in braces too
  abbrev Fits : Level → ℕ → Bool → Command → Type 0
  Fits place d last x = ((nat_le (rank (phrase x).level) (rank place) ≡ true) × Back d last (phrase x).tokens) ⊎ Back d false (phrase x).tokens

  whole : (place : Level) {d : ℕ} {last : Bool} (x : Command) → Fits place d last x → Back d last (phrase x).tokens
  whole place x (inl p) = p.1
  whole place x (inr b) = wider deep b

  braced_back : {d : ℕ} {us : Tokens} → Back d false us → Back d false (braced us)
  braced_back b = joined deep (opening deep words args) (joined deep b (joined deep (a_line deep operators) (closing deep words args)))

  placed_back : {d : ℕ} {last : Bool} (place : Level) (x : Command) → Fits place d last x → Back d last (placed place (phrase x))
  placed_back {d} {last} place x (inl p) = subst (λ it. Back d last (if it then (phrase x).tokens else braced (phrase x).tokens)) (sym p.0) p.1
  placed_back {d} {last} place x (inr b) = by (nat_le (rank (phrase x).level) (rank place)) where
    by : (it : Bool) → Back d last (if it then (phrase x).tokens else braced (phrase x).tokens)
    by true = wider deep b
    by false = wider deep (braced_back b)

  raised : {d : ℕ} {last : Bool} (low high : Level) (x : Command) → nat_le (rank low) (rank high) ≡ true → Fits low d last x → Fits high d last x
  raised low high x e (inl p) = inl (higher (rank (phrase x).level) (rank low) (rank high) e p.0, p.1)
  raised low high x e (inr b) = inr b

  fits_by : {d : ℕ} {last : Bool} (place : Level) (x : Command) (p : Phrase) → phrase x ≡ p → nat_le (rank p.level) (rank place) ≡ true → Back d last p.tokens → Fits place d last x
  fits_by {d} {last} place x p e r b = inl (ap (λ (p : Phrase). nat_le (rank p.level) (rank place)) e ∙ r, subst (λ (p : Phrase). Back d last p.tokens) (sym e) b)

  told_by : {d : ℕ} {last : Bool} (x : Command) (p : Phrase) → phrase x ≡ p → Back d last p.tokens → Back d last (phrase x).tokens
  told_by {d} {last} x p e b = subst (λ (p : Phrase). Back d last p.tokens) (sym e) b

  -- ---- what is behind

  back_at : {d : ℕ} (last : Bool) {us : Tokens} (ts rest : Tokens) → (ts ≡ [] → rest ≡ []) → Back d (may_end last ts) us → Back d (may_end last rest) us
  back_at {d} last {us} [] rest h b = subst (λ r. Back d (may_end last r) us) (sym (h refl)) b
  back_at last (t ∷ ts) rest h b = wider deep b

  fits_at : {d : ℕ} (last : Bool) (place : Level) (x : Command) (ts rest : Tokens) → (ts ≡ [] → rest ≡ []) → Fits place d (may_end last ts) x → Fits place d (may_end last rest) x
  fits_at last place x ts rest h (inl p) = inl (p.0, back_at last ts rest h p.1)
  fits_at last place x ts rest h (inr b) = inr b

  tail_at : {d : ℕ} (last : Bool) {us vs : Tokens} (ts rest : Tokens) → (ts ≡ [] → (vs ≡ []) × (rest ≡ [])) → Back d (may_end last ts) us → Back d (may_end last rest) vs → Back d (may_end last rest) (us ++ vs)
  tail_at {d} last {us} {vs} [] rest h x y =
      let e = h refl in
      subst (λ r. Back d (may_end last r) (us ++ vs)) (sym e.1) (subst (λ vs. Back d last (us ++ vs)) (sym e.0) (subst (Back d last) (sym (append-nil us)) x))
  tail_at last (t ∷ ts) rest h x y = joined deep x y

  closed : {d : ℕ} {b : Bool} {us : Tokens} → b ≡ false → Back d b us → Back d false us
  closed {d} {us = us} e x = subst (λ b. Back d b us) e x

  after : {d : ℕ} {last : Bool} {l : Look} {ts rest : Tokens} → Stands l ts rest → Source d last ts → Source d last rest
  after {d} {last} {ts = ts} s x = subst (Source d last) (sym s.1) (sound_behind deep ts x)

  newlines : {d : ℕ} {last : Bool} {ts rest : Tokens} → AreNewlines ts rest → Source d last ts → Source d last rest
  newlines {d} {last} (no_newline e) x = subst (Source d last) (sym e) x
  newlines (newline s n) x = newlines n (after s x)

  separator : {d : ℕ} {last : Bool} {ts rest : Tokens} → IsSeparator ts rest → Source d last ts → Source d last rest
  separator (semicolon s n) x = newlines n (after s x)
  separator (line_end s n) x = newlines n (after s x)

  redirections : {d : ℕ} {last : Bool} {ts rest : Tokens} {rs : List Redirect} → AreRedirects ts rs rest → Source d last ts → Source d last rest
  redirections {d} {last} (no_redirect e f) x = subst (Source d last) (sym e) x
  redirections (one_redirect which rs s m e) x = redirections m (after s x)

  -- `case` stands among the tokens of the text; inside substitutions it cannot
  case_back : {d : ℕ} {last : Bool} (ts : Tokens) → Source d last ts → look ts ≡ Keyword Case → may_end last (behind ts) ≡ false → Back d false (plain_token (codes "case") ∷ [])
  case_back [] x e f = absurd (cc e)
  case_back (t ∷ ts) (other_token g x) e f = absurd (keyword_word (out-TokenKind t.kind) e g)
  case_back {d} {last} (t ∷ ts) (word_token_of raws g l b n p x) e f =
      let looks : word_look raws ≡ Keyword Case = sym (word_looks_so (t ∷ ts) raws g) ∙ e in
      let s = single raws (ap is_name_word looks) in
      let same = whole_case s.text (reserved s.text) (s.looks ∙ looks) in
      let it : raws ≡ raw.Plain (codes "case") ∷ [] = s.is ∙ ap (λ p. p ∷ []) (is_plain_part s.part s.text s.plain ∙ ap raw.Plain (case_of s.text same)) in
      let likes : Likes deep d (s.part ∷ []) (s.part ∷ []) = likes_same (part.Plain s.text) (ap plainly s.plain) refl likes_none in
      subst (λ raws. Back d false (word_token raws ∷ [])) it (b raws (subst (λ raws. Likes deep d raws raws) (sym s.is) likes) false (λ h. sym f ∙ n h))

  -- ---- nodes that are made only where they have two members

  none_more : {xs : List Command} (separator : Tokens) (place : Level) → xs ≡ [] → more_tokens separator place xs ≡ []
  none_more separator place e = ap (more_tokens separator place) e

  seq_back : {d : ℕ} (last : Bool) (x : Command) (xs : List Command) (ts rest : Tokens) → (ts ≡ [] → (xs ≡ []) × (rest ≡ [])) → Fits level.AndOr d (may_end last ts) x
      → Back d (may_end last rest) (more_tokens (line ∷ []) level.AndOr xs) → Back d (may_end last rest) (phrase (seq_of (x ∷ xs))).tokens
  seq_back last x [] ts rest h f m = back_at last ts rest (λ e. (h e).1) (whole level.AndOr x f)
  seq_back last x (y ∷ ys) ts rest h f m =
      told_by (c.Seq (x ∷ y ∷ ys)) _ (phrase_seq (x ∷ y ∷ ys)) (tail_at last ts rest (λ e. (none_more (line ∷ []) level.AndOr (h e).0, (h e).1)) (placed_back level.AndOr x f) m)

  pipe_back : {d : ℕ} (last : Bool) (at : ℕ) (x : Command) (xs : List Command) (ts rest : Tokens) → (ts ≡ [] → (xs ≡ []) × (rest ≡ [])) → Fits level.Command d (may_end last ts) x
      → Back d (may_end last rest) (more_tokens (operator token.Bar ∷ []) level.Command xs) → Fits level.PipeSequence d (may_end last rest) (pipe_of at (x ∷ xs))
  pipe_back last at x [] ts rest h f m = raised level.Command level.PipeSequence x refl (fits_at last level.Command x ts rest (λ e. (h e).1) f)
  pipe_back last at x (y ∷ ys) ts rest h f m =
      fits_by level.PipeSequence (c.Pipe at (x ∷ y ∷ ys)) _ (phrase_pipe at (x ∷ y ∷ ys)) refl
      (tail_at last ts rest (λ e. (none_more (operator token.Bar ∷ []) level.Command (h e).0, (h e).1)) (placed_back level.Command x f) m)

  chain_back : {d : ℕ} (last : Bool) (x : Command) (ls : List Link) (ts rest : Tokens) → (ts ≡ [] → (ls ≡ []) × (rest ≡ [])) → Fits level.Pipeline d (may_end last ts) x
      → Back d (may_end last rest) (flat_map (λ t. t) (map further_tokens ls)) → Fits level.AndOr d (may_end last rest) (chain_of x ls)
  chain_back last x [] ts rest h f m = raised level.Pipeline level.AndOr x refl (fits_at last level.Pipeline x ts rest (λ e. (h e).1) f)
  chain_back last x (l ∷ ls) ts rest h f m =
      fits_by level.AndOr (c.Chain x (l ∷ ls)) _ (phrase_chain x (l ∷ ls)) refl
      (tail_at last ts rest (λ e. (ap (λ ls. flat_map (λ t. t) (map further_tokens ls)) (h e).0, (h e).1)) (placed_back level.Pipeline x f) m)

  link_back : {d : ℕ} (is_and : Bool) → Back d false (link_token is_and ∷ [])
  link_back true = and_and deep operators
  link_back false = or_or deep operators

  further_back : {d : ℕ} (last : Bool) (is_and : Bool) (x : Command) (ls : List Link) (ts rest : Tokens) → (ts ≡ [] → (ls ≡ []) × (rest ≡ [])) → Fits level.Pipeline d (may_end last ts) x
      → Back d (may_end last rest) (flat_map (λ t. t) (map further_tokens ls)) → Back d (may_end last rest) (flat_map (λ t. t) (map further_tokens (link is_and x ∷ ls)))
  further_back {d} last is_and x ls ts rest h f m =
      subst (λ l. Back d (may_end last rest) (l ++ flat_map (λ t. t) (map further_tokens ls))) (sym (phrase_the_link is_and x))
      (joined deep (link_back is_and) (tail_at last ts rest (λ e. (ap (λ ls. flat_map (λ t. t) (map further_tokens ls)) (h e).0, (h e).1)) (placed_back level.Pipeline x f) m))

  -- ---- commands with redirections

  redirected_back : {d : ℕ} (at : ℕ) (x : Command) (rs : List Redirect) → Back d false (phrase x).tokens → Back d false (phrase (redirected at x rs)).tokens
  redirected_back at x [] b = b
  redirected_back {d} at x (r ∷ rs) b = told_by (c.Redirected at x (r ∷ rs)) _ (phrase_redirected at x (r ∷ rs)) (by (is_simple (phrase x).level)) where
    back : Tokens
    back = map redirect_token (r ∷ rs)

    by : (it : Bool) → Back d false (if it then back ++ (phrase x).tokens else placed level.Compound (phrase x) ++ back)
    by true = joined deep (redirects deep operators (r ∷ rs)) b
    by false = joined deep (placed_back level.Compound x (inr b)) (redirects deep operators (r ∷ rs))

  simple_back : {d : ℕ} {last : Bool} (at : ℕ) (items : Items) → Back d last (simple_tokens items.assigns items.words) → Fits level.Command d last (simple_of at items)
  simple_back {d} {last} at items b = by items.redirects where
    plain : Command
    plain = c.Simple at items.assigns items.words

    level_is : (phrase plain).level ≡ level.Simple
    level_is = ap (λ (p : Phrase). p.level) (phrase_simple at items.assigns items.words)

    tokens_back : Back d last (phrase plain).tokens
    tokens_back = told_by plain _ (phrase_simple at items.assigns items.words) b

    by : (rs : List Redirect) → Fits level.Command d last (redirected at plain rs)
    by [] = inl (ap (λ l. nat_le (rank l) (rank level.Command)) level_is, tokens_back)
    by (r ∷ rs) =
        fits_by level.Command (c.Redirected at plain (r ∷ rs)) _ (phrase_redirected at plain (r ∷ rs)) refl
        (subst (λ l. Back d last (if is_simple l then map redirect_token (r ∷ rs) ++ (phrase plain).tokens else placed level.Compound (phrase plain) ++ map redirect_token (r ∷ rs))) (sym level_is)
        (joined deep (redirects deep operators (r ∷ rs)) tokens_back))

  -- ---- compound commands

  do_back : {d : ℕ} {us : Tokens} → Back d false us → Back d false (do_tokens us)
  do_back b = joined deep (a_line deep operators) (joined deep (a_do deep words args) (joined deep b (joined deep (a_line deep operators) (a_done deep words args))))

  loop_back : {d : ℕ} (until : Bool) → Back d false (loop_token until ∷ [])
  loop_back true = an_until deep words args
  loop_back false = a_while deep words args

  abbrev EndBack : ℕ → Option Command → Type 0
  EndBack d None = Unit {0}
  EndBack d (Some x) = Back d false (phrase x).tokens

  -- the conditions of an `if` with their bodies
  record ClauseBack (d : ℕ) (v : List IfArm × Option Command) : Type 0 where
    pub arm : IfArm
    pub others : List IfArm
    pub is : v.0 ≡ arm ∷ others
    pub first : Back d false (condition_tokens arm)
    pub later : Back d false (more_arms others)
    pub otherwise : EndBack d v.1

  condition_back : {d : ℕ} (x y : Command) → Back d false (phrase x).tokens → Back d false (phrase y).tokens → Back d false (condition_tokens (if_arm x y))
  condition_back {d} x y a b = subst (Back d false) (sym (phrase_the_if_arm x y)) (joined deep a (joined deep (a_line deep operators) (joined deep (a_then deep words args) b)))

  if_back : {d : ℕ} (at : ℕ) (v : List IfArm × Option Command) → ClauseBack d v → Back d false (phrase (c.If at v.0 v.1)).tokens
  if_back {d} at v k = subst (λ arms. Back d false (phrase (c.If at arms v.1)).tokens) (sym k.is) (by v.1 k.otherwise) where
    arms : List IfArm
    arms = k.arm ∷ k.others

    arms_back : Back d false (between (line ∷ plain_token (codes "elif") ∷ []) (λ arm. arm) (map condition_tokens arms))
    arms_back = joined deep k.first k.later

    by : (end : Option Command) → EndBack d end → Back d false (phrase (c.If at arms end)).tokens
    by None e = told_by (c.If at arms None) _ (phrase_if at arms) (joined deep (an_if deep words args) (joined deep arms_back (joined deep (a_line deep operators) (a_fi deep words args))))
    by (Some x) e =
        told_by (c.If at arms (Some x)) _ (phrase_if_else at arms x)
        (joined deep (an_if deep words args) (joined deep arms_back (joined deep (a_line deep operators) (joined deep (an_else deep words args) (joined deep e (joined deep (a_line deep operators) (a_fi deep words args)))))))

  abbrev InBack : ℕ → Option (List Word) → Type 0
  InBack d None = Unit {0}
  InBack d (Some ws) = Back d false (map word_token (map word_raws ws))

  for_back : {d : ℕ} (at : ℕ) (name : Text) (ws : Option (List Word)) (x : Command) → Back d false (plain_token name ∷ []) → InBack d ws → Back d false (phrase x).tokens → Back d false (phrase (c.For at name ws x)).tokens
  for_back at name None x n w b = told_by (c.For at name None x) _ (phrase_for at name x) (joined deep (a_for deep words args) (joined deep n (do_back b)))
  for_back at name (Some ws) x n w b =
      told_by (c.For at name (Some ws) x) _ (phrase_for_in at name ws x)
      (joined deep (a_for deep words args) (joined deep n (joined deep (an_in deep words args) (joined deep w (do_back b)))))

  while_back : {d : ℕ} (at : ℕ) (until : Bool) (x y : Command) → Back d false (phrase x).tokens → Back d false (phrase y).tokens → Back d false (phrase (c.While at until x y)).tokens
  while_back at until x y a b = told_by (c.While at until x y) _ (phrase_while at until x y) (joined deep (loop_back until) (joined deep a (do_back b)))

  case_command_back : {d : ℕ} (at : ℕ) (w : Word) (arms : List CaseArm) → Back d false (plain_token (codes "case") ∷ []) → Back d false (word_token (word_raws w) ∷ []) → Back d false (flat_map (λ t. t) (map arm_tokens arms))
      → Back d false (phrase (c.Case at w arms)).tokens
  case_command_back at w arms k b m =
      told_by (c.Case at w arms) _ (phrase_case at w arms)
      (joined deep k (joined deep b (joined deep (an_in deep words args) (joined deep m (joined deep (a_line deep operators) (an_esac deep words args))))))

  define_back : {d : ℕ} (at : ℕ) (name : Text) (x : Command) → Back d false (plain_token name ∷ []) → Back d false (phrase x).tokens → Back d false (phrase (c.Define at name x)).tokens
  define_back at name x n b = told_by (c.Define at name x) _ (phrase_define at name x) (joined deep n (joined deep (in_parens deep operators (nothing deep)) (braced_back b)))

  sub_back : {d : ℕ} (at : ℕ) (x : Command) → Back d false (phrase x).tokens → Back d false (phrase (c.Sub at x)).tokens
  sub_back at x b = told_by (c.Sub at x) _ (phrase_sub at x) (in_parens deep operators b)

  abbrev more_patterns : List Word → Tokens
  more_patterns ws = flat_map (λ y. (operator token.Bar ∷ []) ++ word_token y ∷ []) (map word_raws ws)

  arm_back : {d : ℕ} (w : Word) (ws : List Word) (x : Command) → Back d false (word_token (word_raws w) ∷ []) → Back d false (more_patterns ws) → Back d false (phrase x).tokens → Back d false (arm_tokens (case_arm (w ∷ ws) x))
  arm_back {d} w ws x b m t =
      let pats = word_token (word_raws w) ∷ more_patterns ws in
      let body = (phrase x).tokens ++ operator token.DoubleSemi ∷ [] in
      subst (Back d false) (sym (phrase_the_case_arm (w ∷ ws) x))
      (subst (λ l. Back d false (line ∷ operator token.LeftParen ∷ l)) (append_assoc pats (operator token.RightParen ∷ []) body)
      (joined deep (a_line deep operators) (joined deep (in_parens deep operators {us = pats} (joined deep b m)) (joined deep t (double_semi deep operators)))))

  empty_back : {d : ℕ} {last : Bool} (x : Command) → x ≡ c.Seq [] → Back d last (phrase x).tokens
  empty_back {d} {last} x e = subst (λ x. Back d last (phrase x).tokens) (sym e) (told_by (c.Seq []) _ (phrase_seq []) (nothing deep))

  -- ---- words

  record WordSaid (d : ℕ) (last : Bool) (l : Look) (w : Word) (rest : Tokens) : Type 0 where
    pub back : Back d (may_end last rest) (word_token (word_raws w) ∷ [])
    pub sound : Source d last rest
    pub assign : l ≡ Assignment → assign_raws (assigned w) ≡ word_raws w
    pub name : is_name_word l ≡ true → plain_token (word_text w) ≡ word_token (word_raws w)

  record ItemsSaid (d : ℕ) (last b : Bool) (items : Items) (rest : Tokens) : Type 0 where
    pub back : Back d (may_end last rest) (simple_tokens items.assigns items.words)
    pub sound : Source d last rest
    pub none : b ≡ true → items.assigns ≡ []

  named_back : {d : ℕ} {last : Bool} {l : Look} {w : Word} {rest : Tokens} → WordSaid d last l w rest → is_name_word l ≡ true → may_end last rest ≡ false → Back d false (plain_token (word_text w) ∷ [])
  named_back {d} k e f = subst (λ t. Back d false (t ∷ [])) (sym (k.name e)) (closed f k.back)

  none_items : {items : Items} {rest : Tokens} → (items ≡ no_items) × (rest ≡ []) → (simple_tokens items.assigns items.words ≡ []) × (rest ≡ [])
  none_items e = (ap (λ (i : Items). simple_tokens i.assigns i.words) e.0, e.1)

  -- an assignment, a redirection or a word before other items
  assignment_said : {d : ℕ} {last : Bool} {b : Bool} {l : Look} (w : Word) (items : Items) (ts rest : Tokens) → b ≡ false → l ≡ Assignment → (ts ≡ [] → (items ≡ no_items) × (rest ≡ []))
      → WordSaid d last l w ts → ItemsSaid d last false items rest → ItemsSaid d last b (joined_items (an_assign (assigned w)) items) rest
  assignment_said {d} {last} w items ts rest e f h k m = record {
    back = tail_at last ts rest (λ g. none_items (h g)) (subst (λ r. Back d (may_end last ts) (word_token r ∷ [])) (sym (k.assign f)) k.back) m.back;
    sound = m.sound;
    none = λ g. absurd (clash e g);
  }

  word_item_said : {d : ℕ} {last : Bool} {b : Bool} {l : Look} (w : Word) (items : Items) (ts rest : Tokens) → (ts ≡ [] → (items ≡ no_items) × (rest ≡ []))
      → WordSaid d last l w ts → ItemsSaid d last true items rest → ItemsSaid d last b (joined_items (word_item_of w) items) rest
  word_item_said {d} {last} w items ts rest h k m =
      let no_assigns = m.none refl in
      let tail : Back d (may_end last rest) (map word_token (map word_raws items.words)) = subst (λ es. Back d (may_end last rest) (simple_tokens es items.words)) no_assigns m.back in
      record {
        back = subst (λ es. Back d (may_end last rest) (simple_tokens es (w ∷ items.words))) (sym no_assigns)
            (tail_at last ts rest (λ g. (ap (λ (i : Items). map word_token (map word_raws i.words)) (h g).0, (h g).1)) k.back tail);
        sound = m.sound;
        none = λ g. no_assigns;
      }

  -- ---- the induction

  mutual
    script : {d : ℕ} {last : Bool} {end : ℕ} {ts : Tokens} {body : Command} → IsScript end ts body → Source d last ts → Back d last (phrase body).tokens
    script {body = body} (no_script n e) x = empty_back body e
    script (a_script n l) x = (a_list_said l (newlines n x)).0

    a_list_said : {d : ℕ} {last : Bool} {end : ℕ} {ts rest : Tokens} {body : Command} → IsList end ts body rest → Source d last ts → Back d (may_end last rest) (phrase body).tokens × Source d last rest
    a_list_said {d} {last} (a_list {t1 = t1} {rest = rest} x xs a m e) s =
        let p = and_or a s in
        let q = members m p.1 in
        (subst (λ body. Back d (may_end last rest) (phrase body).tokens) (sym e) (seq_back last x xs t1 rest (members_end m) p.0 q.0), q.1)

    members : {d : ℕ} {last : Bool} {end : ℕ} {ts rest : Tokens} {xs : List Command} → AreMembers end ts xs rest → Source d last ts
        → Back d (may_end last rest) (more_tokens (line ∷ []) level.AndOr xs) × Source d last rest
    members {d} {last} (no_member {rest = rest} e f) s = (subst (λ xs. Back d (may_end last rest) (more_tokens (line ∷ []) level.AndOr xs)) (sym f) (nothing deep), subst (Source d last) (sym e) s)
    members {d} {last} (last_separator {rest = rest} p f) s = (subst (λ xs. Back d (may_end last rest) (more_tokens (line ∷ []) level.AndOr xs)) (sym f) (nothing deep), separator p s)
    members {d} {last} (one_member {t2 = t2} {rest = rest} x xs p a m e) s =
        let k = and_or a (separator p s) in
        let q = members m k.1 in (
          subst (λ xs. Back d (may_end last rest) (more_tokens (line ∷ []) level.AndOr xs)) (sym e)
              (joined deep (a_line deep operators)
              (tail_at last t2 rest (λ g. (none_more (line ∷ []) level.AndOr (members_end m g).0, (members_end m g).1)) (placed_back level.AndOr x k.0) q.0)),
          q.1,
        )

    and_or : {d : ℕ} {last : Bool} {end : ℕ} {ts rest : Tokens} {body : Command} → IsAndOr end ts body rest → Source d last ts → Fits level.AndOr d (may_end last rest) body × Source d last rest
    and_or {d} {last} (an_and_or {t1 = t1} {rest = rest} x ls p m e) s =
        let k = pipeline p s in
        let q = links m k.1 in
        (subst (Fits level.AndOr d (may_end last rest)) (sym e) (chain_back last x ls t1 rest (links_end m) k.0 q.0), q.1)

    links : {d : ℕ} {last : Bool} {end : ℕ} {ts rest : Tokens} {ls : List Link} → AreLinks end ts ls rest → Source d last ts
        → Back d (may_end last rest) (flat_map (λ t. t) (map further_tokens ls)) × Source d last rest
    links {d} {last} (no_link {rest = rest} e f) s = (subst (λ ls. Back d (may_end last rest) (flat_map (λ t. t) (map further_tokens ls))) (sym f) (nothing deep), subst (Source d last) (sym e) s)
    links {d} {last} (and_link {t3 = t3} {rest = rest} x ls p n a m e) s =
        let k = pipeline a (newlines n (after p s)) in
        let q = links m k.1 in
        (subst (λ ls. Back d (may_end last rest) (flat_map (λ t. t) (map further_tokens ls))) (sym e) (further_back last true x ls t3 rest (links_end m) k.0 q.0), q.1)
    links {d} {last} (or_link {t3 = t3} {rest = rest} x ls p n a m e) s =
        let k = pipeline a (newlines n (after p s)) in
        let q = links m k.1 in
        (subst (λ ls. Back d (may_end last rest) (flat_map (λ t. t) (map further_tokens ls))) (sym e) (further_back last false x ls t3 rest (links_end m) k.0 q.0), q.1)

    pipeline : {d : ℕ} {last : Bool} {end : ℕ} {ts rest : Tokens} {body : Command} → IsPipeline end ts body rest → Source d last ts → Fits level.Pipeline d (may_end last rest) body × Source d last rest
    pipeline {body = body} (plain_pipeline a) s = let k = sequence a s in (raised level.PipeSequence level.Pipeline body refl k.0, k.1)
    pipeline {d} {last} (not_pipeline {end = end} {ts = ts} {rest = rest} x p a e) s =
        let k = sequence a (after p s) in (
          subst (Fits level.Pipeline d (may_end last rest)) (sym e)
              (fits_by level.Pipeline (c.Not (place end ts) x) _ (phrase_not (place end ts) x) refl (joined deep (bang deep words args) (placed_back level.PipeSequence x k.0))),
          k.1,
        )

    sequence : {d : ℕ} {last : Bool} {end : ℕ} {ts rest : Tokens} {body : Command} → IsSequence end ts body rest → Source d last ts → Fits level.PipeSequence d (may_end last rest) body × Source d last rest
    sequence {d} {last} (a_sequence {end = end} {ts = ts} {t1 = t1} {rest = rest} x xs a m e) s =
        let k = command a s in
        let q = piped m k.1 in
        (subst (Fits level.PipeSequence d (may_end last rest)) (sym e) (pipe_back last (place end ts) x xs t1 rest (piped_end m) k.0 q.0), q.1)

    piped : {d : ℕ} {last : Bool} {end : ℕ} {ts rest : Tokens} {xs : List Command} → ArePiped end ts xs rest → Source d last ts
        → Back d (may_end last rest) (more_tokens (operator token.Bar ∷ []) level.Command xs) × Source d last rest
    piped {d} {last} (no_pipe {rest = rest} e f) s = (subst (λ xs. Back d (may_end last rest) (more_tokens (operator token.Bar ∷ []) level.Command xs)) (sym f) (nothing deep), subst (Source d last) (sym e) s)
    piped {d} {last} (one_pipe {t3 = t3} {rest = rest} x xs p n a m e) s =
        let k = command a (newlines n (after p s)) in
        let q = piped m k.1 in (
          subst (λ xs. Back d (may_end last rest) (more_tokens (operator token.Bar ∷ []) level.Command xs)) (sym e)
              (joined deep (a_bar deep operators)
              (tail_at last t3 rest (λ g. (none_more (operator token.Bar ∷ []) level.Command (piped_end m g).0, (piped_end m g).1)) (placed_back level.Command x k.0) q.0)),
          q.1,
        )

    command : {d : ℕ} {last : Bool} {end : ℕ} {ts rest : Tokens} {body : Command} → IsCommand end ts body rest → Source d last ts → Fits level.Command d (may_end last rest) body × Source d last rest
    command (simple_command a) s = simple a s
    command {d} {last} (compound_command {end = end} {ts = ts} {rest = rest} x rs a m e) s =
        let k = compound a s in
        (inr (subst (λ body. Back d false (phrase body).tokens) (sym e) (redirected_back (place end ts) x rs k.0)), redirections m k.1)
    command {d} {last} (definition {end = end} {ts = ts} {t1 = t1} {rest = rest} w x l a p q n b e) s =
        let k = a_word_said a s in
        let y = group b (newlines n (after q (after p k.sound))) in (
          inr (subst (λ body. Back d false (phrase body).tokens) (sym e) (define_back (place end ts) (word_text w) x (named_back k (ap is_name_word l) (stop _ t1 p.0 tt)) y.0)),
          y.1,
        )

    block : {d : ℕ} {last : Bool} {end : ℕ} {ts rest : Tokens} {body : Command} → IsBlock end ts body rest → Source d last ts → Back d (may_end last rest) (phrase body).tokens × Source d last rest
    block (a_block n a) s = a_list_said a (newlines n s)

    group : {d : ℕ} {last : Bool} {end : ℕ} {ts rest : Tokens} {body : Command} → IsBraces end ts body rest → Source d last ts → Back d false (phrase body).tokens × Source d last rest
    group (braces {t2 = t2} p b q) s = let k = block b (after p s) in (closed (stop _ t2 q.0 tt) k.0, after q k.1)

    compound : {d : ℕ} {last : Bool} {end : ℕ} {ts rest : Tokens} {body : Command} → IsCompound end ts body rest → Source d last ts → Back d false (phrase body).tokens × Source d last rest
    compound (brace_group b) s = group b s
    compound {d} (subshell {end = end} {ts = ts} {t2 = t2} x p b q e) s =
        let k = block b (after p s) in
        (subst (λ body. Back d false (phrase body).tokens) (sym e) (sub_back (place end ts) x (closed (stop _ t2 q.0 tt) k.0)), after q k.1)
    compound {d} (if_command {end = end} {ts = ts} {t2 = t2} v p b q e) s =
        let k = clause b (after p s) (stop _ t2 q.0 tt) in
        (subst (λ body. Back d false (phrase body).tokens) (sym e) (if_back (place end ts) v k.0), after q k.1)
    compound {d} (for_loop {end = end} {ts = ts} {t2 = t2} {t4 = t4} {t6 = t6} name ws x p a n w q b r e) s =
        let k = a_name_said a (after p s) in
        let y = for_words w (newlines n k.1) in
        let z = block b (after q y.1) in
        let ended = newlines_stop _ n (for_words_stop _ w (stop _ t4 q.0 tt)) in
        (subst (λ body. Back d false (phrase body).tokens) (sym e) (for_back (place end ts) name ws x (closed ended k.0) y.0 (closed (stop _ t6 r.0 tt) z.0)), after r z.1)
    compound {d} (while_loop {end = end} {ts = ts} {t2 = t2} {t4 = t4} until x y p a q b r e) s =
        let k = block a (after p s) in
        let z = block b (after q k.1) in
        (subst (λ body. Back d false (phrase body).tokens) (sym e) (while_back (place end ts) until x y (closed (stop _ t2 q.0 tt) k.0) (closed (stop _ t4 r.0 tt) z.0)), after r z.1)
    compound {d} {last} (case_command {end = end} {ts = ts} {t1 = t1} {t2 = t2} {t3 = t3} {t6 = t6} w arms p a n q m b r e) s =
        let k = a_word_said a (after p s) in
        let y = arms_said b (newlines m (after q (newlines n k.sound))) (stop _ t6 r.0 tt) in
        let ended = newlines_stop _ n (stop _ t3 q.0 tt) in
        let word_here : may_end last (behind ts) ≡ false = ap (may_end last) (sym p.1) ∙ word_stop last a in
        (subst (λ body. Back d false (phrase body).tokens) (sym e) (case_command_back (place end ts) w arms (case_back ts s p.0 word_here) (closed ended k.back) y.0), after r y.1)

    clause : {d : ℕ} {last : Bool} {end : ℕ} {ts rest : Tokens} {v : List IfArm × Option Command} → IsClause end ts v rest → Source d last ts → may_end last rest ≡ false → ClauseBack d v × Source d last rest
    clause {d} (a_clause {t1 = t1} {t3 = t3} x y more a p b m e) s f =
        let k = block a s in
        let z = block b (after p k.1) in
        let q = others m z.1 f in (
          subst (ClauseBack d) (sym e) (record {
            arm = if_arm x y;
            others = more.0;
            is = refl;
            first = condition_back x y (closed (stop _ t1 p.0 tt) k.0) (closed (else_stop _ m f) z.0);
            later = q.0;
            otherwise = q.1;
          }),
          q.2,
        )

    others : {d : ℕ} {last : Bool} {end : ℕ} {ts rest : Tokens} {v : List IfArm × Option Command} → IsElse end ts v rest → Source d last ts → may_end last rest ≡ false
        → Back d false (more_arms v.0) × EndBack d v.1 × Source d last rest
    others {d} {last} (no_else {rest = rest} e g) s f = subst (λ (v : List IfArm × Option Command). Back d false (more_arms v.0) × EndBack d v.1 × Source d last rest) (sym g) (nothing deep, tt, subst (Source d last) (sym e) s)
    others {d} {last} {v = v} (elif_part p a) s f =
        let k = clause a (after p s) f in (
          subst (λ arms. Back d false (more_arms arms)) (sym k.0.is) (joined deep (a_line deep operators) (joined deep (an_elif deep words args) (joined deep k.0.first k.0.later))),
          k.0.otherwise,
          k.1,
        )
    others {d} {last} (else_part {rest = rest} x p b e) s f =
        let k = block b (after p s) in
        subst (λ (v : List IfArm × Option Command). Back d false (more_arms v.0) × EndBack d v.1 × Source d last rest) (sym e) (nothing deep, closed f k.0, k.1)

    a_name_said : {d : ℕ} {last : Bool} {end : ℕ} {ts rest : Tokens} {name : Text} → IsName end ts name rest → Source d last ts → Back d (may_end last rest) (plain_token name ∷ []) × Source d last rest
    a_name_said {d} {last} (a_name {rest = rest} w l a e) s =
        let k = a_word_said a s in
        (subst (λ t. Back d (may_end last rest) (t ∷ [])) (sym (k.name l) ∙ ap plain_token (sym e)) k.back, k.sound)

    for_words : {d : ℕ} {last : Bool} {end : ℕ} {ts rest : Tokens} {ws : Option (List Word)} → AreForWords end ts ws rest → Source d last ts → InBack d ws × Source d last rest
    for_words {d} (in_words {t2 = t2} ws p a q e) s = let k = words_said a (after p s) in (subst (InBack d) (sym e) (closed (separator_stop _ q) k.0), separator q k.1)
    for_words {d} (for_semicolon p n e) s = (subst (InBack d) (sym e) tt, newlines n (after p s))
    for_words {d} {last} (no_in f e) s = (subst (InBack d) (sym e) tt, subst (Source d last) (sym f) s)

    words_said : {d : ℕ} {last : Bool} {end : ℕ} {ts rest : Tokens} {ws : List Word} → AreWords end ts ws rest → Source d last ts → Back d (may_end last rest) (map word_token (map word_raws ws)) × Source d last rest
    words_said {d} {last} (no_words {rest = rest} e f) s = (subst (λ ws. Back d (may_end last rest) (map word_token (map word_raws ws))) (sym f) (nothing deep), subst (Source d last) (sym e) s)
    words_said {d} {last} (one_word {t1 = t1} {rest = rest} w ws a m e) s =
        let k = a_word_said a s in
        let q = words_said m k.sound in (
          subst (λ ws. Back d (may_end last rest) (map word_token (map word_raws ws))) (sym e)
              (tail_at last t1 rest (λ g. (ap (λ ws. map word_token (map word_raws ws)) (words_end m g).0, (words_end m g).1)) k.back q.0),
          q.1,
        )

    arms_said : {d : ℕ} {last : Bool} {end : ℕ} {ts rest : Tokens} {arms : List CaseArm} → AreArms end ts arms rest → Source d last ts → may_end last rest ≡ false
        → Back d false (flat_map (λ t. t) (map arm_tokens arms)) × Source d last rest
    arms_said {d} {last} (no_arm e g) s f = (subst (λ arms. Back d false (flat_map (λ t. t) (map arm_tokens arms))) (sym g) (nothing deep), subst (Source d last) (sym e) s)
    arms_said {d} (last_arm x a e) s f = let k = arm_said a s f in (subst (λ arms. Back d false (flat_map (λ t. t) (map arm_tokens arms))) (sym e) (joined deep k.0 (nothing deep)), k.1)
    arms_said {d} (one_arm {t1 = t1} x xs a p n m e) s f =
        let k = arm_said a s (stop _ t1 p.0 tt) in
        let q = arms_said m (newlines n (after p k.1)) f in
        (subst (λ arms. Back d false (flat_map (λ t. t) (map arm_tokens arms))) (sym e) (joined deep k.0 q.0), q.1)

    arm_said : {d : ℕ} {last : Bool} {end : ℕ} {ts rest : Tokens} {x : CaseArm} → IsArm end ts x rest → Source d last ts → may_end last rest ≡ false → Back d false (arm_tokens x) × Source d last rest
    arm_said (open_arm p a) s f = arm_rest_said a (after p s) f
    arm_said (arm_without_paren n a) s f = arm_rest_said a s f

    arm_rest_said : {d : ℕ} {last : Bool} {end : ℕ} {ts rest : Tokens} {x : CaseArm} → IsArmRest end ts x rest → Source d last ts → may_end last rest ≡ false → Back d false (arm_tokens x) × Source d last rest
    arm_rest_said {d} {last} (arm_rest {t1 = t1} {t2 = t2} w ws x a m p n b e) s f =
        let k = a_word_said a s in
        let q = patterns m k.sound in
        let y = arm_list_said b (newlines n (after p q.1)) in
        (subst (λ x. Back d false (arm_tokens x)) (sym e) (arm_back w ws x (closed (patterns_stop _ m (stop _ t2 p.0 tt)) k.back) (closed (stop _ t2 p.0 tt) q.0) (closed f y.0)), y.1)

    patterns : {d : ℕ} {last : Bool} {end : ℕ} {ts rest : Tokens} {ws : List Word} → ArePatterns end ts ws rest → Source d last ts → Back d (may_end last rest) (more_patterns ws) × Source d last rest
    patterns {d} {last} (no_pattern {rest = rest} e f) s = (subst (λ ws. Back d (may_end last rest) (more_patterns ws)) (sym f) (nothing deep), subst (Source d last) (sym e) s)
    patterns {d} {last} (one_pattern {t2 = t2} {rest = rest} w ws p a m e) s =
        let k = a_word_said a (after p s) in
        let q = patterns m k.sound in (
          subst (λ ws. Back d (may_end last rest) (more_patterns ws)) (sym e)
              (joined deep (a_bar deep operators) (tail_at last t2 rest (λ g. (ap more_patterns (patterns_end m g).0, (patterns_end m g).1)) k.back q.0)),
          q.1,
        )

    arm_list_said : {d : ℕ} {last : Bool} {end : ℕ} {ts rest : Tokens} {body : Command} → IsArmList end ts body rest → Source d last ts → Back d (may_end last rest) (phrase body).tokens × Source d last rest
    arm_list_said {d} {last} {body = body} (no_arm_list f e) s = (empty_back body e, subst (Source d last) (sym f) s)
    arm_list_said (arm_list a) s = a_list_said a s

    simple : {d : ℕ} {last : Bool} {end : ℕ} {ts rest : Tokens} {body : Command} → IsSimple end ts body rest → Source d last ts → Fits level.Command d (may_end last rest) body × Source d last rest
    simple {d} {last} (begins_with_assignment {end = end} {ts = ts} {t1 = t1} {rest = rest} w xs l a m e) s =
        let k = a_word_said a s in
        let q = assignment_said {b = false} w xs t1 rest refl l (items_end m) k (items m k.sound) in
        (subst (Fits level.Command d (may_end last rest)) (sym e) (simple_back (place end ts) (joined_items (an_assign (assigned w)) xs) q.back), q.sound)
    simple {d} {last} (begins_with_redirect {end = end} {ts = ts} {rest = rest} which xs p m e) s =
        let q = items m (after p s) in
        (subst (Fits level.Command d (may_end last rest)) (sym e) (simple_back (place end ts) (joined_items (a_redirect which) xs) q.back), q.sound)
    simple {d} {last} (begins_with_word {end = end} {ts = ts} {t1 = t1} {rest = rest} w xs n l a m e) s =
        let k = a_word_said a s in
        let q = word_item_said {b = true} w xs t1 rest (items_end m) k (items m k.sound) in
        (subst (Fits level.Command d (may_end last rest)) (sym e) (simple_back (place end ts) (joined_items (word_item_of w) xs) q.back), q.sound)

    items : {d : ℕ} {last : Bool} {end : ℕ} {b : Bool} {ts rest : Tokens} {xs : Items} → AreItems end b ts xs rest → Source d last ts → ItemsSaid d last b xs rest
    items {d} {last} {b = b} (no_item {rest = rest} e w r f) s = subst (λ xs. ItemsSaid d last b xs rest) (sym f) (record { back = nothing deep; sound = subst (Source d last) (sym e) s; none = λ g. refl })
    items {d} {last} {b = b} (assignment_item {t1 = t1} {rest = rest} w xs f l a m e) s =
        let k = a_word_said a s in
        subst (λ xs. ItemsSaid d last b xs rest) (sym e) (assignment_said w xs t1 rest f l (items_end m) k (items m k.sound))
    items {d} {last} {b = b} (redirect_item {rest = rest} which xs p m e) s =
        let q = items m (after p s) in
        subst (λ xs. ItemsSaid d last b xs rest) (sym e) (record { back = q.back; sound = q.sound; none = q.none })
    items {d} {last} {b = b} (word_item {t1 = t1} {rest = rest} w xs f a m e) s =
        let k = a_word_said a s in
        subst (λ xs. ItemsSaid d last b xs rest) (sym e) (word_item_said w xs t1 rest (items_end m) k (items m k.sound))

    a_word_said : {d : ℕ} {last : Bool} {end : ℕ} {ts rest : Tokens} {w : Word} → IsWord end ts w rest → Source d last ts → WordSaid d last (look ts) w rest
    a_word_said {d} {last} (the_word {end = end} {ts = ts} {rest = rest} raws ps k p e f) s =
        let g = first_word deep ts raws s k in
        let at = place end ts in
        let likes = parts p g.parts in
        let looks = word_looks_so ts raws k in
        subst (λ w. WordSaid d last (look ts) w rest) (sym e) (subst (WordSaid d last (look ts) (word_at at ps)) (sym f) (record {
          back = subst (λ r. Back d (may_end last (behind ts)) (word_token r ∷ [])) (sym (phrase_the_word at ps)) (g.back (map raw_of ps) likes);
          sound = g.others;
          assign = λ h. assign_is deep at raws ps p likes g.longest (sym looks ∙ h);
          name = λ h. name_is deep at raws ps p (ap is_name_word (sym looks) ∙ h);
        }))

    parts : {d : ℕ} {raws : List RawPart} {ps : List Part} → PartsAre raws ps → SoundParts deep d raws → Likes deep d raws (map raw_of ps)
    parts {d} (no_part e) s = subst (λ ps. Likes deep d [] (map raw_of ps)) (sym e) likes_none
    parts {d} (a_part {r = r} {raws = raws} x ps a m e) s = subst (λ ps. Likes deep d (r ∷ raws) (map raw_of ps)) (sym e) (likes_same x a (same_part r x a) (parts m (sound_parts_behind deep s)))
    parts {d} (a_substitution {r = r} {raws = raws} at ts quoted body ps a b m e) s =
        let g = sound_inside deep at ts quoted s a in
        subst (λ ps. Likes deep d (r ∷ raws) (map raw_of ps)) (sym e) (likes_run at ts (phrase body).tokens quoted a (phrase_run at body quoted) g.0 (script b g.1) (parts m (sound_parts_behind deep s)))

  pub script_back : {d : ℕ} {last : Bool} {end : ℕ} {ts : Tokens} {body : Command} → IsScript end ts body → Source d last ts → Back d last (phrase body).tokens
  script_back = script
