-- The table reads what is of the plain grammar.
use Rattle.std.proofs.Common.{◌≡◌, ℕ, suc, Bool, true, false, List, [], ◌∷◌, inl, inr, Option, Some, None, refl, sym, ap, ◌∙◌, subst}
use Rattle.shell_syntax.specs.declared.redirect.Redirect.{Redirect}
use Rattle.shell_syntax.specs.declared.syntax.Command.{Command}
use Rattle.shell_syntax.specs.declared.syntax.Command.TheVariants as c
use Rattle.shell_syntax.specs.declared.syntax.Word.{Word}
use Rattle.shell_syntax.specs.declared.syntax.Part.{Part}
use Rattle.shell_syntax.specs.declared.syntax.Link.{Link}
use Rattle.shell_syntax.specs.declared.syntax.IfArm.{IfArm}
use Rattle.shell_syntax.specs.declared.syntax.CaseArm.{CaseArm}
use Rattle.shell_lexer.specs.declared.token.RawPart.{RawPart}
use Rattle.shell_grammar.specs.declared.form.CommandForm.TheVariants as command
use Rattle.shell_grammar.specs.declared.form.CompoundForm.TheVariants as compound
use Rattle.shell_grammar.specs.declared.form.Item.TheVariants as an
use Rattle.shell_grammar.specs.declared.items.Items.{Items}
use Rattle.shell_grammar.specs.declared.look.Look.{Look}
use Rattle.shell_grammar.specs.declared.look.Look.TheVariants.{AtEnd, Newline, Semi, DoubleSemi, AndAnd, OrOr, Bar, LeftParen, RightParen, Redirection, Keyword, Name, Assignment, Other}
use Rattle.shell_grammar.specs.declared.look.Reserved.TheVariants.{Open, Bang, If, Elif, Else, Fi, For, In, Do, Case, Esac}
use Rattle.shell_grammar.specs.Forms.{command_form, compound_form, item, starts, is_some, is_word, redirection, ends_arm, loop_word}
use Rattle.shell_grammar.specs.Grammar.{Rule, Script, Body, Newlines, Block, Members, More, Behind, AndOr, Links, Pipeline, Piped, Bars, ACommand, Compound, Clause, Arms, ForName, ForWords, Each, Apart, CaseArms, CaseMore, OneArm, ArmRest, MorePatterns, ArmBody, Braces, Named, SimpleItems, Redirects, Sign, Is, Opens, AWord, Of, Tree, Value, Values, Production, production, production_more, production_behind, production_links, production_command, production_compound, production_name, production_each, production_arm_body, production_items, production_redirects}
use Rattle.shell_grammar.specs.Look.{Text, Tokens, look, place}
use Rattle.shell_grammar.specs.Reading.{Whole, Faultless, IsRule, rule, IsAll, no_more, one_more, IsSign, is, opens, a_word as reads_word, here, of, inside, IsParts, no_parts, plain_part, run_part}
use Rattle.shell_grammar.specs.Spelling.{no_limit, Spells}
use Rattle.shell_grammar.specs.Trees.{an_assign, a_word, a_redirect, joined, assigned, Defines, Continues, word_at}
use Rattle.shell_grammar.specs.PlainGrammar.{Stands, AreNewlines, no_newline, newline, IsSeparator, semicolon, line_end, AreRedirects, no_redirect, one_redirect, IsScript, no_script, a_script, IsList, a_list, AreMembers, no_member, last_separator, one_member, IsAndOr, an_and_or, AreLinks, no_link, and_link, or_link, IsPipeline, plain_pipeline, not_pipeline, IsSequence, a_sequence, ArePiped, no_pipe, one_pipe, IsCommand, simple_command, compound_command, definition, IsBlock, a_block, IsCompound, brace_group, subshell, if_command, for_loop, while_loop, case_command, IsClause, a_clause, IsElse, no_else, elif_part, else_part, IsName, a_name, AreForWords, in_words, for_semicolon, no_in, AreWords, no_words, one_word, AreArms, no_arm, last_arm, one_arm, IsArm, open_arm, arm_without_paren, IsArmRest, arm_rest, ArePatterns, no_pattern, one_pattern, IsArmList, no_arm_list, arm_list, IsBraces, braces, IsSimple, begins_with_assignment, begins_with_redirect, begins_with_word, AreItems, no_item, assignment_item, redirect_item, word_item, IsWord, the_word, PartsAre, no_part, a_part, a_substitution}
use Rattle.shell_lexer.proofs.PrintedBytes.{clash}
use Rattle.shell_grammar.proofs.Behind.{behind_command, behind_pipeline, behind_and_or, behind_list, is_newline, is_open, list_separator, list_newline, list_starts_none, and_or_link, command_redirection, start_newline, start_arm, form_starts, separator_word, name_or_other, word_is, braces_look, compound_look, command_look, sequence_look, and_or_look, list_look, pipeline_look, separator_look, arm_rest_look, arm_esac, arms_newline, arm_list_newline, for_words_newline, members_behind, links_behind, piped_behind, else_behind, items_open}

-- ---- readings by their pieces

tok : {d end : ℕ} {l : Look} {ts r : Tokens} → Stands l ts r → IsSign no_limit d end (Is l) ts (Whole (place end ts) r)
tok {end = end} {ts = ts} s = is s.0 (ap (Whole (place end ts)) s.1)

opn : {d end : ℕ} {l : Look} {ts r : Tokens} → Stands l ts r → IsSign no_limit d end (Opens l) ts (Whole (place end ts) r)
opn {end = end} {ts = ts} s = opens s.0 refl (ap (Whole (place end ts)) s.1)

done : {d end : ℕ} {ts : Tokens} → IsAll no_limit d end [] ts (Whole tt ts)
done = no_more refl

more : {d end : ℕ} {s : Sign} {ss : List Sign} {ts t1 r : Tokens} {v : Value s} {vs : Values ss} → IsSign no_limit d end s ts (Whole v t1) → IsAll no_limit d end ss t1 (Whole vs r) → IsAll no_limit d end (s ∷ ss) ts (Whole (v, vs) r)
more {t1 = t1} {r = r} {v = v} {vs = vs} x y = one_more v t1 (Whole vs r) x y refl

made : {d end : ℕ} {n : Rule} {ts r : Tokens} (p : Production n) → production n (look ts) ≡ p → (vs : Values p.signs) → IsAll no_limit d end p.signs ts (Whole vs r) → IsRule no_limit d end n ts (Whole (p.tree vs) r)
made {d} {end} {n} {ts} {r} p e vs x =
    subst (λ p. (vs : Values p.signs) → IsAll no_limit d end p.signs ts (Whole vs r) → IsRule no_limit d end n ts (Whole (p.tree vs) r)) e (λ vs x. rule (Whole vs r) x refl) vs x

ruled : {d end : ℕ} {n : Rule} {ts r : Tokens} (l : Look) → look ts ≡ l → (vs : Values (production n l).signs) → IsAll no_limit d end (production n l).signs ts (Whole vs r) → IsRule no_limit d end n ts (Whole ((production n l).tree vs) r)
ruled {n = n} l e vs x = made (production n l) (ap (production n) e) vs x

valued : {d end : ℕ} {n : Rule} {ts r : Tokens} {v v2 : Tree n} → v2 ≡ v → IsRule no_limit d end n ts (Whole v r) → IsRule no_limit d end n ts (Whole v2 r)
valued {d} {end} {n} {ts} {r} e x = subst (λ v. IsRule no_limit d end n ts (Whole v r)) (sym e) x

ended_at : {d end : ℕ} {n : Rule} {ts r : Tokens} {v : Tree n} → r ≡ ts → IsRule no_limit d end n ts (Whole v ts) → IsRule no_limit d end n ts (Whole v r)
ended_at {d} {end} {n} {ts} {v = v} e x = subst (λ r. IsRule no_limit d end n ts (Whole v r)) (sym e) x

-- ---- rows that are the same for many kinds of tokens

pub newlines_row : (l : Look) → is_newline l ≡ false → production Newlines l ≡ record { signs = []; tree = λ v. tt }
newlines_row Newline e = absurd (clash e refl)
newlines_row _ e = refl

pub body_row : (l : Look) → starts l ≡ true → production Body l ≡ record { signs = Of Members ∷ []; tree = λ v. v.0 }
body_row AtEnd e = absurd (clash refl e)
body_row _ e = refl

pub pipeline_row : (l : Look) → is_some (command_form l) ≡ true → production Pipeline l ≡ record { signs = Of Piped ∷ []; tree = λ v. v.0 }
pipeline_row (Keyword Bang) e = absurd (clash refl e)
pipeline_row _ e = refl

pub bars_row : (l : Look) → behind_pipeline l ≡ true → production Bars l ≡ record { signs = []; tree = λ v. [] }
bars_row Bar e = absurd (clash refl e)
bars_row _ e = refl

case_arms_row : (l : Look) → (l ≡ Keyword Esac → ⊥) → production CaseArms l ≡ record { signs = Of OneArm ∷ Of CaseMore ∷ []; tree = λ v. v.0 ∷ v.1.0 }
case_arms_row (Keyword Esac) h = absurd (h refl)
case_arms_row _ h = refl

one_arm_row : (l : Look) → is_word l ≡ true → production OneArm l ≡ record { signs = Of ArmRest ∷ []; tree = λ v. v.0 }
one_arm_row LeftParen e = absurd (clash refl e)
one_arm_row _ e = refl

pub named_row : (l : Look) → is_open l ≡ false → production Named l ≡ record { signs = Of (SimpleItems true) ∷ []; tree = λ v. Continues v.0 }
named_row LeftParen e = absurd (clash e refl)
named_row _ e = refl

loop_form : (until : Bool) → compound_form (loop_word until) ≡ compound.Loop until
loop_form true = refl
loop_form false = refl

pub item_redirection : (b : Bool) (which : Redirect) → item b (Redirection which) ≡ Some (an.Redirection which)
item_redirection true which = refl
item_redirection false which = refl

pub item_is_none : (b : Bool) (l : Look) → is_word l ≡ false → redirection l ≡ None → item b l ≡ None
item_is_none true (Redirection which) w d = absurd (cc d)
item_is_none false (Redirection which) w d = absurd (cc d)
item_is_none true (Keyword which) w d = absurd (clash w refl)
item_is_none false (Keyword which) w d = absurd (clash w refl)
item_is_none true Name w d = absurd (clash w refl)
item_is_none false Name w d = absurd (clash w refl)
item_is_none true Assignment w d = absurd (clash w refl)
item_is_none false Assignment w d = absurd (clash w refl)
item_is_none true Other w d = absurd (clash w refl)
item_is_none false Other w d = absurd (clash w refl)
item_is_none _ _ w d = refl

pub item_is_word : (b : Bool) (l : Look) → is_word l ≡ true → (b ≡ false → l ≡ Assignment → ⊥) → item b l ≡ Some an.Word
item_is_word false Assignment w n = absurd (n refl refl)
item_is_word true Assignment w n = refl
item_is_word true (Keyword which) w n = refl
item_is_word false (Keyword which) w n = refl
item_is_word true Name w n = refl
item_is_word false Name w n = refl
item_is_word true Other w n = refl
item_is_word false Other w n = refl
item_is_word _ _ w n = absurd (clash refl w)

-- ---- newlines, separators, redirections

to_newlines : (d end : ℕ) {ts rest : Tokens} → AreNewlines ts rest → is_newline (look rest) ≡ false → IsRule no_limit d end Newlines ts (Whole tt rest)
to_newlines d end {ts} (no_newline e) h = ended_at e (made _ (newlines_row (look ts) (ap (λ t. is_newline (look t)) (sym e) ∙ h)) tt done)
to_newlines d end (newline s n) h = ruled Newline s.0 (_, (tt, tt)) (more (tok s) (more (of (to_newlines d end n h)) done))

to_separator : (d end : ℕ) {ts rest : Tokens} → IsSeparator ts rest → is_newline (look rest) ≡ false → IsRule no_limit d end Apart ts (Whole tt rest)
to_separator d end (semicolon s n) h = ruled Semi s.0 (_, (tt, tt)) (more (tok s) (more (of (to_newlines d end n h)) done))
to_separator d end (line_end s n) h = ruled Newline s.0 (_, (tt, tt)) (more (tok s) (more (of (to_newlines d end n h)) done))

to_more : (d end : ℕ) {ts t1 rest : Tokens} {xs : List Command} → IsSeparator ts t1 → is_newline (look t1) ≡ false → IsRule no_limit d end Behind t1 (Whole xs rest) → IsRule no_limit d end More ts (Whole xs rest)
to_more d end {xs = xs} (semicolon s n) h b = ruled Semi s.0 (_, (tt, (xs, tt))) (more (tok s) (more (of (to_newlines d end n h)) (more (of b) done)))
to_more d end {xs = xs} (line_end s n) h b = ruled Newline s.0 (_, (tt, (xs, tt))) (more (tok s) (more (of (to_newlines d end n h)) (more (of b) done)))

to_redirects : (d end : ℕ) {ts rest : Tokens} {rs : List Redirect} → AreRedirects ts rs rest → behind_command (look rest) ≡ true → IsRule no_limit d end Redirects ts (Whole rs rest)
to_redirects d end {ts} (no_redirect e f) h = valued f (ended_at e (made (production_redirects None) (ap production_redirects (command_redirection (look ts) (ap (λ t. behind_command (look t)) (sym e) ∙ h))) tt done))
to_redirects d end (one_redirect which rs1 s m f) h = valued f (ruled (Redirection which) s.0 (_, (rs1, tt)) (more (tok s) (more (of (to_redirects d end m h)) done)))

-- ---- all phrases

mutual
  pub to_script : (d : ℕ) {end : ℕ} {ts : Tokens} {body : Command} → IsScript end ts body → IsRule no_limit d end Script ts (Whole body [])
  to_script d {end} {ts} (no_script n e) = valued e (ruled (look ts) refl (tt, (c.Seq [], (end, tt))) (more (of (to_newlines d end n refl)) (more (of (ruled AtEnd refl tt done)) (more (is refl refl) done))))
  to_script d {end} {ts} {body} (a_script {t1 = t1} n l) =
      ruled (look ts) refl (tt, (body, (end, tt))) (more (of (to_newlines d end n (start_newline (look t1) (list_look l))))
      (more (of (made _ (body_row (look t1) (list_look l)) (body, tt) (more (of (to_list d l refl)) done))) (more (is refl refl) done)))

  to_list : (d : ℕ) {end : ℕ} {ts rest : Tokens} {body : Command} → IsList end ts body rest → behind_list (look rest) ≡ true → IsRule no_limit d end Members ts (Whole body rest)
  to_list d {ts = ts} (a_list x xs a m e) h = valued e (ruled (look ts) refl (x, (xs, tt)) (more (of (to_and_or d a (members_behind m h))) (more (of (to_members d m h)) done)))

  to_members : (d : ℕ) {end : ℕ} {ts rest : Tokens} {xs : List Command} → AreMembers end ts xs rest → behind_list (look rest) ≡ true → IsRule no_limit d end More ts (Whole xs rest)
  to_members d {ts = ts} (no_member e f) h = valued f (ended_at e (made (production_more (look ts) false) (ap (production_more (look ts)) (list_separator (look ts) (ap (λ t. behind_list (look t)) (sym e) ∙ h))) tt done))
  to_members d {end} {rest = rest} (last_separator s f) h = valued f (to_more d end s (list_newline (look rest) h) (made (production_behind false) (ap production_behind (list_starts_none (look rest) h)) tt done))
  to_members d {end} (one_member {t1 = t1} x xs1 s a m f) h =
      valued f (to_more d end s (start_newline (look t1) (and_or_look a)) (made (production_behind true) (ap production_behind (and_or_look a)) (x, (xs1, tt))
      (more (of (to_and_or d a (members_behind m h))) (more (of (to_members d m h)) done))))

  to_and_or : (d : ℕ) {end : ℕ} {ts rest : Tokens} {body : Command} → IsAndOr end ts body rest → behind_and_or (look rest) ≡ true → IsRule no_limit d end AndOr ts (Whole body rest)
  to_and_or d {ts = ts} (an_and_or x links p m e) h = valued e (ruled (look ts) refl (x, (links, tt)) (more (of (to_pipeline d p (links_behind m h))) (more (of (to_links d m h)) done)))

  to_links : (d : ℕ) {end : ℕ} {ts rest : Tokens} {links : List Link} → AreLinks end ts links rest → behind_and_or (look rest) ≡ true → IsRule no_limit d end Links ts (Whole links rest)
  to_links d {ts = ts} (no_link e f) h = valued f (ended_at e (made (production_links (look ts) None) (ap (production_links (look ts)) (and_or_link (look ts) (ap (λ t. behind_and_or (look t)) (sym e) ∙ h))) tt done))
  to_links d {end} (and_link {t2 = t2} x links1 s n p m f) h =
      valued f (ruled AndAnd s.0 (_, (tt, (x, (links1, tt)))) (more (tok s) (more (of (to_newlines d end n (start_newline (look t2) (pipeline_look p)))) (more (of (to_pipeline d p (links_behind m h))) (more (of (to_links d m h)) done)))))
  to_links d {end} (or_link {t2 = t2} x links1 s n p m f) h =
      valued f (ruled OrOr s.0 (_, (tt, (x, (links1, tt)))) (more (tok s) (more (of (to_newlines d end n (start_newline (look t2) (pipeline_look p)))) (more (of (to_pipeline d p (links_behind m h))) (more (of (to_links d m h)) done)))))

  to_pipeline : (d : ℕ) {end : ℕ} {ts rest : Tokens} {body : Command} → IsPipeline end ts body rest → behind_pipeline (look rest) ≡ true → IsRule no_limit d end Pipeline ts (Whole body rest)
  to_pipeline d {ts = ts} {body = body} (plain_pipeline s) h = made _ (pipeline_row (look ts) (sequence_look s)) (body, tt) (more (of (to_sequence d s h)) done)
  to_pipeline d (not_pipeline x s q e) h = valued e (ruled (Keyword Bang) s.0 (_, (x, tt)) (more (tok s) (more (of (to_sequence d q h)) done)))

  to_sequence : (d : ℕ) {end : ℕ} {ts rest : Tokens} {body : Command} → IsSequence end ts body rest → behind_pipeline (look rest) ≡ true → IsRule no_limit d end Piped ts (Whole body rest)
  to_sequence d {ts = ts} (a_sequence x xs a m e) h = valued e (ruled (look ts) refl (_, (x, (xs, tt))) (more (here refl) (more (of (to_command d a (piped_behind m h))) (more (of (to_piped d m h)) done))))

  to_piped : (d : ℕ) {end : ℕ} {ts rest : Tokens} {xs : List Command} → ArePiped end ts xs rest → behind_pipeline (look rest) ≡ true → IsRule no_limit d end Bars ts (Whole xs rest)
  to_piped d {ts = ts} (no_pipe e f) h = valued f (ended_at e (made _ (bars_row (look ts) (ap (λ t. behind_pipeline (look t)) (sym e) ∙ h)) tt done))
  to_piped d {end} (one_pipe {t2 = t2} x xs1 s n a m f) h =
      valued f (ruled Bar s.0 (_, (tt, (x, (xs1, tt)))) (more (tok s) (more (of (to_newlines d end n (start_newline (look t2) (form_starts (look t2) (command_look a))))) (more (of (to_command d a (piped_behind m h))) (more (of (to_piped d m h)) done)))))

  to_command : (d : ℕ) {end : ℕ} {ts rest : Tokens} {body : Command} → IsCommand end ts body rest → behind_command (look rest) ≡ true → IsRule no_limit d end ACommand ts (Whole body rest)
  to_command d (simple_command s) h = to_simple d s h
  to_command d {end} (compound_command x rs a m e) h = valued e (made (production_command (Some command.Compound)) (ap production_command (compound_look a)) (_, (x, (rs, tt))) (more (here refl) (more (of (to_compound d a)) (more (of (to_redirects d end m h)) done))))
  to_command d {end} (definition {t4 = t4} w x k a l r n b e) h =
      valued e (ruled Name k (_, (w, (Defines x, tt))) (more (here refl) (more (to_word d a)
      (more (of (ruled LeftParen l.0 (_, (_, (tt, (x, tt)))) (more (tok l) (more (tok r) (more (of (to_newlines d end n (ap is_newline (braces_look b)))) (more (of (to_braces d b)) done)))))) done))))

  to_simple : (d : ℕ) {end : ℕ} {ts rest : Tokens} {body : Command} → IsSimple end ts body rest → behind_command (look rest) ≡ true → IsRule no_limit d end ACommand ts (Whole body rest)
  to_simple d (begins_with_assignment w items k a m e) h =
      valued e (ruled Assignment k (_, (joined (an_assign (assigned w)) items, tt)) (more (here refl) (more (of (ruled Assignment k (w, (items, tt)) (more (to_word d a) (more (of (to_items d m)) done)))) done)))
  to_simple d (begins_with_redirect which items s m e) h =
      valued e (ruled (Redirection which) s.0 (_, (joined (a_redirect which) items, tt)) (more (here refl) (more (of (ruled (Redirection which) s.0 (_, (items, tt)) (more (tok s) (more (of (to_items d m)) done)))) done)))
  to_simple d {end} {ts} {rest} {body} (begins_with_word {t1 = t1} w items k n a m e) h =
      elim (name_or_other (look ts) (word_is a) k n) as (λ _. IsRule no_limit d end ACommand ts (Whole body rest)) [
        | inl g ↦ valued e (ruled Name g (_, (w, (Continues items, tt))) (more (here refl) (more (to_word d a) (more (of (made _ (named_row (look t1) (items_open m h)) (items, tt) (more (of (to_items d m)) done))) done))))
        | inr g ↦ valued e (ruled Other g (_, (joined (a_word w) items, tt)) (more (here refl) (more (of (ruled Other g (w, (items, tt)) (more (to_word d a) (more (of (to_items d m)) done)))) done)))
      ]

  to_items : (d : ℕ) {end : ℕ} {b : Bool} {ts rest : Tokens} {items : Items} → AreItems end b ts items rest → IsRule no_limit d end (SimpleItems b) ts (Whole items rest)
  to_items d {b = b} {ts = ts} (no_item e w r f) = valued f (ended_at e (made (production_items b None) (ap (production_items b) (item_is_none b (look ts) w r)) tt done))
  to_items d {end} {b} {ts} {rest} {items} (assignment_item w items1 g k a m f) =
      subst (λ b. IsRule no_limit d end (SimpleItems b) ts (Whole items rest)) (sym g) (valued f (ruled Assignment k (w, (items1, tt)) (more (to_word d a) (more (of (to_items d m)) done))))
  to_items d {b = b} (redirect_item which items1 s m f) =
      valued f (made (production_items b (Some (an.Redirection which))) (ap (λ l. production (SimpleItems b) l) s.0 ∙ ap (production_items b) (item_redirection b which)) (_, (items1, tt)) (more (tok s) (more (of (to_items d m)) done)))
  to_items d {b = b} {ts = ts} (word_item w items1 n a m f) =
      valued f (made (production_items b (Some an.Word)) (ap (production_items b) (item_is_word b (look ts) (word_is a) n)) (w, (items1, tt)) (more (to_word d a) (more (of (to_items d m)) done)))

  to_block : (d : ℕ) {end : ℕ} {ts rest : Tokens} {body : Command} → IsBlock end ts body rest → behind_list (look rest) ≡ true → IsRule no_limit d end Block ts (Whole body rest)
  to_block d {end} {ts} {body = body} (a_block {t1 = t1} n l) h = ruled (look ts) refl (tt, (body, tt)) (more (of (to_newlines d end n (start_newline (look t1) (list_look l)))) (more (of (to_list d l h)) done))

  to_compound : (d : ℕ) {end : ℕ} {ts rest : Tokens} {body : Command} → IsCompound end ts body rest → IsRule no_limit d end Compound ts (Whole body rest)
  to_compound d {body = body} (brace_group b) = ruled (Keyword Open) (braces_look b) (body, tt) (more (of (to_braces d b)) done)
  to_compound d (subshell x s b r e) = valued e (ruled LeftParen s.0 (_, (x, (_, tt))) (more (opn s) (more (inside (to_block (suc d) b (ap behind_list r.0))) (more (tok r) done))))
  to_compound d (if_command v s x f e) = valued e (ruled (Keyword If) s.0 (_, (v, (_, tt))) (more (opn s) (more (inside (to_clause (suc d) x f.0)) (more (tok f) done))))
  to_compound d {end} (for_loop {t1 = t1} {t3 = t3} name words x s a n w o b f e) =
      valued e (ruled (Keyword For) s.0 (_, ((name, words, x), (_, tt))) (more (opn s) (more (inside (ruled (look t1) refl (name, (tt, (words, (_, (x, tt)))))
      (more (of (to_name (suc d) a)) (more (of (to_newlines (suc d) end n (for_words_newline w o.0))) (more (of (to_for_words (suc d) w o.0)) (more (tok o) (more (of (to_block (suc d) b (ap behind_list f.0))) done))))))) (more (tok f) done))))
  to_compound d (while_loop {t1 = t1} until cond x s a o b f e) =
      valued e (made (production_compound (compound.Loop until)) (ap (λ l. production Compound l) s.0 ∙ ap production_compound (loop_form until)) (_, ((cond, x), (_, tt))) (more (opn s)
      (more (inside (ruled (look t1) refl (cond, (_, (x, tt))) (more (of (to_block (suc d) a (ap behind_list o.0))) (more (tok o) (more (of (to_block (suc d) b (ap behind_list f.0))) done))))) (more (tok f) done))))
  to_compound d {end} (case_command {t1 = t1} w arms s a n i m x f e) =
      valued e (ruled (Keyword Case) s.0 (_, ((w, arms), (_, tt))) (more (opn s) (more (inside (ruled (look t1) refl (w, (tt, (_, (tt, (arms, tt)))))
      (more (to_word (suc d) a) (more (of (to_newlines (suc d) end n (ap is_newline i.0))) (more (tok i) (more (of (to_newlines (suc d) end m (arms_newline x f.0))) (more (of (to_arms (suc d) x f.0)) done))))))) (more (tok f) done))))

  to_clause : (d : ℕ) {end : ℕ} {ts rest : Tokens} {v : List IfArm × Option Command} → IsClause end ts v rest → look rest ≡ Keyword Fi → IsRule no_limit d end Clause ts (Whole v rest)
  to_clause d {ts = ts} (a_clause cond x more_arms a h b m e) k =
      valued e (ruled (look ts) refl (cond, (_, (x, (more_arms, tt)))) (more (of (to_block d a (ap behind_list h.0))) (more (tok h) (more (of (to_block d b (else_behind m k))) (more (of (to_else d m k)) done)))))

  to_else : (d : ℕ) {end : ℕ} {ts rest : Tokens} {v : List IfArm × Option Command} → IsElse end ts v rest → look rest ≡ Keyword Fi → IsRule no_limit d end Arms ts (Whole v rest)
  to_else d (no_else e f) k = valued f (ended_at e (ruled (Keyword Fi) (ap look (sym e) ∙ k) tt done))
  to_else d {v = v} (elif_part s x) k = ruled (Keyword Elif) s.0 (_, (v, tt)) (more (tok s) (more (of (to_clause d x k)) done))
  to_else d (else_part x s b f) k = valued f (ruled (Keyword Else) s.0 (_, (x, tt)) (more (tok s) (more (of (to_block d b (ap behind_list k))) done)))

  to_name : (d : ℕ) {end : ℕ} {ts rest : Tokens} {name : Text} → IsName end ts name rest → IsRule no_limit d end ForName ts (Whole name rest)
  to_name d (a_name w i a e) = valued e (made (production_name true) (ap production_name i) (w, tt) (more (to_word d a) done))

  to_for_words : (d : ℕ) {end : ℕ} {ts rest : Tokens} {words : Option (List Word)} → AreForWords end ts words rest → look rest ≡ Keyword Do → IsRule no_limit d end ForWords ts (Whole words rest)
  to_for_words d {end} (in_words {t2 = t2} ws s m p f) k =
      valued f (ruled (Keyword In) s.0 (_, (ws, (tt, tt))) (more (tok s) (more (of (to_words d m (separator_word (look t2) (separator_look p)))) (more (of (to_separator d end p (ap is_newline k))) done))))
  to_for_words d {end} (for_semicolon s n f) k = valued f (ruled Semi s.0 (_, (tt, tt)) (more (tok s) (more (of (to_newlines d end n (ap is_newline k))) done)))
  to_for_words d (no_in e f) k = valued f (ended_at e (ruled (Keyword Do) (ap look (sym e) ∙ k) tt done))

  to_words : (d : ℕ) {end : ℕ} {ts rest : Tokens} {ws : List Word} → AreWords end ts ws rest → is_word (look rest) ≡ false → IsRule no_limit d end Each ts (Whole ws rest)
  to_words d (no_words e f) h = valued f (ended_at e (made (production_each false) (ap production_each (ap (λ t. is_word (look t)) (sym e) ∙ h)) tt done))
  to_words d (one_word w ws1 a m f) h = valued f (made (production_each true) (ap production_each (word_is a)) (w, (ws1, tt)) (more (to_word d a) (more (of (to_words d m h)) done)))

  to_arms : (d : ℕ) {end : ℕ} {ts rest : Tokens} {arms : List CaseArm} → AreArms end ts arms rest → look rest ≡ Keyword Esac → IsRule no_limit d end CaseArms ts (Whole arms rest)
  to_arms d (no_arm e f) k = valued f (ended_at e (ruled (Keyword Esac) (ap look (sym e) ∙ k) tt done))
  to_arms d {ts = ts} (last_arm a x f) k = valued f (made _ (case_arms_row (look ts) (arm_esac x)) (a, ([], tt)) (more (of (to_arm d x (ap ends_arm k) (ap behind_list k))) (more (of (ruled (Keyword Esac) k tt done)) done)))
  to_arms d {end} {ts = ts} (one_arm a arms1 x s n m f) k =
      valued f (made _ (case_arms_row (look ts) (arm_esac x)) (a, (arms1, tt)) (more (of (to_arm d x (ap ends_arm s.0) (ap behind_list s.0)))
      (more (of (ruled DoubleSemi s.0 (_, (tt, (arms1, tt))) (more (tok s) (more (of (to_newlines d end n (arms_newline m k))) (more (of (to_arms d m k)) done))))) done)))

  to_arm : (d : ℕ) {end : ℕ} {ts rest : Tokens} {a : CaseArm} → IsArm end ts a rest → ends_arm (look rest) ≡ true → behind_list (look rest) ≡ true → IsRule no_limit d end OneArm ts (Whole a rest)
  to_arm d {a = a} (open_arm s x) g h = ruled LeftParen s.0 (_, (a, tt)) (more (tok s) (more (of (to_arm_rest d x g h)) done))
  to_arm d {ts = ts} {a = a} (arm_without_paren k x) g h = made _ (one_arm_row (look ts) (arm_rest_look x)) (a, tt) (more (of (to_arm_rest d x g h)) done)

  to_arm_rest : (d : ℕ) {end : ℕ} {ts rest : Tokens} {a : CaseArm} → IsArmRest end ts a rest → ends_arm (look rest) ≡ true → behind_list (look rest) ≡ true → IsRule no_limit d end ArmRest ts (Whole a rest)
  to_arm_rest d {end} {ts} (arm_rest w ws x a p s n l e) g h =
      valued e (ruled (look ts) refl (w ∷ ws, (_, (tt, (x, tt)))) (more (of (ruled (look ts) refl (w, (ws, tt)) (more (to_word d a) (more (of (to_patterns d p s.0)) done))))
      (more (tok s) (more (of (to_newlines d end n (arm_list_newline l g))) (more (of (to_arm_list d l g h)) done)))))

  to_patterns : (d : ℕ) {end : ℕ} {ts rest : Tokens} {ws : List Word} → ArePatterns end ts ws rest → look rest ≡ RightParen → IsRule no_limit d end MorePatterns ts (Whole ws rest)
  to_patterns d (no_pattern e f) k = valued f (ended_at e (ruled RightParen (ap look (sym e) ∙ k) tt done))
  to_patterns d (one_pattern w ws1 s a m f) k = valued f (ruled Bar s.0 (_, (w, (ws1, tt))) (more (tok s) (more (to_word d a) (more (of (to_patterns d m k)) done))))

  to_arm_list : (d : ℕ) {end : ℕ} {ts rest : Tokens} {body : Command} → IsArmList end ts body rest → ends_arm (look rest) ≡ true → behind_list (look rest) ≡ true → IsRule no_limit d end ArmBody ts (Whole body rest)
  to_arm_list d (no_arm_list e f) g h = valued f (ended_at e (made (production_arm_body true) (ap production_arm_body (ap (λ t. ends_arm (look t)) (sym e) ∙ g)) tt done))
  to_arm_list d {ts = ts} {body = body} (arm_list l) g h = made (production_arm_body false) (ap production_arm_body (start_arm (look ts) (list_look l))) (body, tt) (more (of (to_list d l h)) done)

  to_braces : (d : ℕ) {end : ℕ} {ts rest : Tokens} {body : Command} → IsBraces end ts body rest → IsRule no_limit d end Braces ts (Whole body rest)
  to_braces d {ts = ts} {body = body} (braces s b x) = ruled (look ts) refl (_, (body, (_, tt))) (more (opn s) (more (inside (to_block (suc d) b (ap behind_list x.0))) (more (tok x) done)))

  to_word : (d : ℕ) {end : ℕ} {ts rest : Tokens} {w : Word} → IsWord end ts w rest → IsSign no_limit d end AWord ts (Whole w rest)
  to_word d {end} {ts} {rest} (the_word raws ps w p e r) = reads_word raws ps w (to_parts d p) (ap (λ w. Whole w rest) e ∙ ap (Whole (word_at (place end ts) ps)) r)

  to_parts : (d : ℕ) {raws : List RawPart} {ps : List Part} → PartsAre raws ps → IsParts no_limit d raws (Faultless ps)
  to_parts d (no_part e) = no_parts (ap Faultless e)
  to_parts d (a_part x ps1 a y e) = plain_part x (Faultless ps1) a (to_parts d y) (ap Faultless e)
  to_parts d (a_substitution at ts quoted body ps1 a s y e) = run_part at ts quoted body [] (Faultless ps1) a refl (to_script (suc d) s) (to_parts d y) (ap Faultless e)

-- a script of the plain grammar is spelled
pub table_script : (end : ℕ) (ts : Tokens) (body : Command) → IsScript end ts body → Spells end ts body
table_script end ts body s = record { rest = []; reads = to_script 0 s }
