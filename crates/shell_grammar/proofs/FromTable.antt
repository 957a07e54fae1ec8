-- What the table reads is of the plain grammar.
use Rattle.std.proofs.Common.{◌≡◌, ℕ, Bool, true, false, List, [], ◌∷◌, ◌⊎◌, inl, inr, Option, Some, None, refl, sym, ap, ◌∙◌, subst}
use Rattle.shell_syntax.specs.declared.redirect.Redirect.{Redirect}
use Rattle.shell_syntax.specs.declared.syntax.Command.{Command}
use Rattle.shell_syntax.specs.declared.syntax.Command.TheVariants as c
use Rattle.shell_syntax.specs.declared.syntax.Word.{Word}
use Rattle.shell_syntax.specs.declared.syntax.Part.{Part}
use Rattle.shell_syntax.specs.declared.syntax.Part.TheVariants as part
use Rattle.shell_syntax.specs.declared.syntax.Link.{Link}
use Rattle.shell_syntax.specs.declared.syntax.CaseArm.{CaseArm}
use Rattle.shell_lexer.specs.declared.token.RawPart.{RawPart}
use Rattle.shell_grammar.specs.declared.form.CommandForm.{CommandForm}
use Rattle.shell_grammar.specs.declared.form.CommandForm.TheVariants as command
use Rattle.shell_grammar.specs.declared.form.CompoundForm.{CompoundForm}
use Rattle.shell_grammar.specs.declared.form.CompoundForm.TheVariants as compound
use Rattle.shell_grammar.specs.declared.form.Item.{Item}
use Rattle.shell_grammar.specs.declared.form.Item.TheVariants as an
use Rattle.shell_grammar.specs.declared.items.Items.{Items}
use Rattle.shell_grammar.specs.declared.look.Look.{Look}
use Rattle.shell_grammar.specs.declared.look.Look.TheVariants.{AtEnd, Newline, Semi, DoubleSemi, AndAnd, OrOr, Bar, LeftParen, Redirection, Keyword, Name, Assignment, Other}
use Rattle.shell_grammar.specs.declared.look.Reserved.{Reserved}
use Rattle.shell_grammar.specs.declared.look.Reserved.TheVariants.{Open, Bang, If, Elif, Else, While, Until, For, In, Done, Case, Esac}
use Rattle.shell_grammar.specs.Forms.{command_form, compound_form, item, starts, is_name_word, is_word, is_separator, link_and, redirection, ends_arm, loop_word}
use Rattle.shell_grammar.specs.Grammar.{Rule, Script, Body, Newlines, Block, Members, More, Behind, AndOr, Links, Pipeline, Piped, Bars, ACommand, Compound, Clause, Arms, Loop, ForRest, ForName, ForWords, Each, Apart, CaseRest, CaseArms, CaseMore, OneArm, ArmRest, Patterns, MorePatterns, ArmBody, Braces, Named, SimpleItems, Redirects, Sign, Is, Opens, AWord, Here, Never, Of, Inside, Tree, Value, Values, production, production_more, production_behind, production_links, production_command, production_compound, production_name, production_each, production_apart, production_arm_body, production_items, production_redirects}
use Rattle.shell_grammar.specs.Look.{Tokens, look, place}
use Rattle.shell_grammar.specs.Reading.{Out, Whole, Judged, Faultless, Faulty, after, IsRule, rule, IsAll, no_more, one_more, one_stops, IsSign, is, is_not, opens, opens_not, too_deep, a_word as reads_word, a_word_stops, no_word, here, never, of, inside, IsParts, no_parts, plain_part, run_part, run_stops, run_deep}
use Rattle.shell_grammar.specs.Spelling.{no_limit, Spells}
use Rattle.shell_grammar.specs.Trees.{pipe_of, redirected, link, case_arm, simple, named}
use Rattle.shell_grammar.specs.PlainGrammar.{Stands, AreNewlines, no_newline, newline, IsSeparator, semicolon, line_end, AreRedirects, no_redirect, one_redirect, IsScript, no_script, a_script, IsList, a_list, AreMembers, no_member, last_separator, one_member, IsAndOr, an_and_or, AreLinks, no_link, and_link, or_link, IsPipeline, plain_pipeline, not_pipeline, IsSequence, a_sequence, ArePiped, no_pipe, one_pipe, IsCommand, simple_command, compound_command, definition, IsBlock, a_block, IsCompound, brace_group, subshell, if_command, for_loop, while_loop, case_command, IsClause, a_clause, IsElse, no_else, elif_part, else_part, IsName, a_name, AreForWords, in_words, for_semicolon, no_in, AreWords, no_words, one_word, AreArms, no_arm, last_arm, one_arm, IsArm, open_arm, arm_without_paren, IsArmRest, arm_rest, ArePatterns, no_pattern, one_pattern, IsArmList, no_arm_list, arm_list, IsBraces, braces, IsSimple, begins_with_assignment, begins_with_redirect, begins_with_word, AreItems, no_item, assignment_item, redirect_item, word_item, IsWord, the_word, PartsAre, no_part, a_part, a_substitution}
use Rattle.shell_grammar.proofs.Unique.{not_both, wholes, same_faultless, somes, none_some}
use Rattle.shell_lexer.proofs.PrintedBytes.{clash}
use Rattle.shell_grammar.proofs.Begun.{whole_from}
use Rattle.shell_grammar.proofs.Faults.{ended, behind_end}

-- what each name of the table says in the plain grammar; where it is the rest of a production, it waits for the beginning
abbrev pub PlainRule : (n : Rule) → ℕ → Tokens → Tree n → Tokens → Type 0
PlainRule Script end ts v r = IsScript end ts v × (r ≡ [])
PlainRule Body end ts v r = ((r ≡ ts) × (v ≡ c.Seq [])) ⊎ IsList end ts v r
PlainRule Newlines end ts v r = AreNewlines ts r
PlainRule Block end ts v r = IsBlock end ts v r
PlainRule Members end ts v r = IsList end ts v r
PlainRule More end ts v r = AreMembers end ts v r
PlainRule Behind end ts v r = (t0 : Tokens) → IsSeparator t0 ts → AreMembers end t0 v r
PlainRule AndOr end ts v r = IsAndOr end ts v r
PlainRule Links end ts v r = AreLinks end ts v r
PlainRule Pipeline end ts v r = IsPipeline end ts v r
PlainRule Piped end ts v r = IsSequence end ts v r
PlainRule Bars end ts v r = ArePiped end ts v r
PlainRule ACommand end ts v r = IsCommand end ts v r
PlainRule Compound end ts v r = IsCompound end ts v r
PlainRule Clause end ts v r = IsClause end ts v r
PlainRule Arms end ts v r = IsElse end ts v r
PlainRule Loop end ts v r = (t0 rest : Tokens) (until : Bool) → Stands (loop_word until) t0 ts → Stands (Keyword Done) r rest → IsCompound end t0 (c.While (place end t0) until v.0 v.1) rest
PlainRule ForRest end ts v r = (t0 rest : Tokens) → Stands (Keyword For) t0 ts → Stands (Keyword Done) r rest → IsCompound end t0 (c.For (place end t0) v.0 v.1 v.2) rest
PlainRule ForName end ts v r = IsName end ts v r
PlainRule ForWords end ts v r = AreForWords end ts v r
PlainRule Each end ts v r = AreWords end ts v r
PlainRule Apart end ts v r = IsSeparator ts r
PlainRule CaseRest end ts v r = (t0 rest : Tokens) → Stands (Keyword Case) t0 ts → Stands (Keyword Esac) r rest → IsCompound end t0 (c.Case (place end t0) v.0 v.1) rest
PlainRule CaseArms end ts v r = AreArms end ts v r
PlainRule CaseMore end ts v r = (t0 : Tokens) (a : CaseArm) → IsArm end t0 a ts → AreArms end t0 (a ∷ v) r
PlainRule OneArm end ts v r = (look ts ≡ Keyword Esac → ⊥) → IsArm end ts v r
PlainRule ArmRest end ts v r = IsArmRest end ts v r
PlainRule Patterns end ts v r = (w : Word) × (ws : List Word) × (t1 : Tokens) × IsWord end ts w t1 × ArePatterns end t1 ws r × (v ≡ w ∷ ws)
PlainRule MorePatterns end ts v r = ArePatterns end ts v r
PlainRule ArmBody end ts v r = IsArmList end ts v r
PlainRule Braces end ts v r = IsBraces end ts v r
PlainRule Named end ts v r = (t0 : Tokens) (w : Word) → look t0 ≡ Name → IsWord end t0 w ts → IsCommand end t0 (named (place end t0) w v) r
PlainRule (SimpleItems b) end ts v r = AreItems end b ts v r
PlainRule Redirects end ts v r = AreRedirects ts v r

abbrev pub PlainSign : (s : Sign) → ℕ → Tokens → Value s → Tokens → Type 0
PlainSign (Is l) end ts v r = Stands l ts r × (v ≡ place end ts)
PlainSign (Opens l) end ts v r = Stands l ts r × (v ≡ place end ts)
PlainSign AWord end ts v r = IsWord end ts v r
PlainSign Here end ts v r = (r ≡ ts) × (v ≡ place end ts)
PlainSign Never end ts v r = ⊥
PlainSign (Of n) end ts v r = PlainRule n end ts v r
PlainSign (Inside n) end ts v r = PlainRule n end ts v r

pub data PlainAll (end : ℕ) : (ss : List Sign) → Tokens → Values ss → Tokens → Type 0 where
  no_signs : {ts : Tokens} {vs : Values []} → PlainAll end [] ts vs ts
  one_sign : {s : Sign} {ss : List Sign} {ts r : Tokens} {vs : Values (s ∷ ss)} (mid : Tokens) → PlainSign s end ts vs.0 mid → PlainAll end ss mid vs.1 r → PlainAll end (s ∷ ss) ts vs r

none_of : {end : ℕ} {ts r : Tokens} {vs : Values []} → PlainAll end [] ts vs r → r ≡ ts
none_of no_signs = refl

one_of : {end : ℕ} {s : Sign} {ts r : Tokens} {vs : Values (s ∷ [])} → PlainAll end (s ∷ []) ts vs r → PlainSign s end ts vs.0 r
one_of (one_sign t1 a no_signs) = a

two_of : {end : ℕ} {s s2 : Sign} {ts r : Tokens} {vs : Values (s ∷ s2 ∷ [])} → PlainAll end (s ∷ s2 ∷ []) ts vs r → (t1 : Tokens) × PlainSign s end ts vs.0 t1 × PlainSign s2 end t1 vs.1.0 r
two_of (one_sign t1 a x) = (t1, a, one_of x)

three_of : {end : ℕ} {s s2 s3 : Sign} {ts r : Tokens} {vs : Values (s ∷ s2 ∷ s3 ∷ [])} → PlainAll end (s ∷ s2 ∷ s3 ∷ []) ts vs r → (t1 : Tokens) × (t2 : Tokens) × PlainSign s end ts vs.0 t1 × PlainSign s2 end t1 vs.1.0 t2 × PlainSign s3 end t2 vs.1.1.0 r
three_of (one_sign t1 a x) = let m = two_of x in (t1, m.0, a, m.1, m.2)

four_of : {end : ℕ} {s s2 s3 s4 : Sign} {ts r : Tokens} {vs : Values (s ∷ s2 ∷ s3 ∷ s4 ∷ [])} → PlainAll end (s ∷ s2 ∷ s3 ∷ s4 ∷ []) ts vs r → (t1 : Tokens) × (t2 : Tokens) × (t3 : Tokens) × PlainSign s end ts vs.0 t1 × PlainSign s2 end t1 vs.1.0 t2 × PlainSign s3 end t2 vs.1.1.0 t3 × PlainSign s4 end t3 vs.1.1.1.0 r
four_of (one_sign t1 a x) = let m = three_of x in (t1, m.0, m.1, a, m.2, m.3, m.4)

-- ---- productions that a form or a test chooses

separator_is : (l : Look) (ts t1 t2 : Tokens) → is_separator l ≡ true → Stands l ts t1 → AreNewlines t1 t2 → IsSeparator ts t2
separator_is Semi ts t1 t2 e s n = semicolon s n
separator_is Newline ts t1 t2 e s n = line_end s n
separator_is _ ts t1 t2 e s n = absurd (clash refl e)

step_more : (end : ℕ) (l : Look) (b : Bool) (ts : Tokens) (vs : Values (production_more l b).signs) (r : Tokens) → is_separator l ≡ b → PlainAll end (production_more l b).signs ts vs r → AreMembers end ts ((production_more l b).tree vs) r
step_more end l true ts vs r e (one_sign t1 a (one_sign t2 n (one_sign t3 x no_signs))) = x ts (separator_is l ts t1 t2 e a.0 n)
step_more end l false ts vs r e no_signs = no_member refl refl

step_behind : (end : ℕ) (b : Bool) (ts : Tokens) (vs : Values (production_behind b).signs) (r : Tokens) → PlainAll end (production_behind b).signs ts vs r → PlainRule Behind end ts ((production_behind b).tree vs) r
step_behind end true ts vs r (one_sign t1 a (one_sign t2 m no_signs)) = λ t0 s. one_member _ _ s a m refl
step_behind end false ts vs r no_signs = λ t0 s. last_separator s refl

links_are : (end : ℕ) (l : Look) (is_and : Bool) (ts t1 t2 t3 r : Tokens) (x : Command) (links : List Link) → link_and l ≡ Some is_and → Stands l ts t1 → AreNewlines t1 t2 → IsPipeline end t2 x t3 → AreLinks end t3 links r → AreLinks end ts (link is_and x ∷ links) r
links_are end AndAnd is_and ts t1 t2 t3 r x links e s n p m = and_link x links s n p m (ap (λ b. link b x ∷ links) (sym (somes e)))
links_are end OrOr is_and ts t1 t2 t3 r x links e s n p m = or_link x links s n p m (ap (λ b. link b x ∷ links) (sym (somes e)))
links_are end _ is_and ts t1 t2 t3 r x links e s n p m = absurd (none_some refl e)

step_links : (end : ℕ) (l : Look) (b : Option Bool) (ts : Tokens) (vs : Values (production_links l b).signs) (r : Tokens) → link_and l ≡ b → PlainAll end (production_links l b).signs ts vs r → AreLinks end ts ((production_links l b).tree vs) r
step_links end l (Some is_and) ts vs r e (one_sign t1 a (one_sign t2 n (one_sign t3 p (one_sign t4 m no_signs)))) = links_are end l is_and ts t1 t2 t3 t4 vs.1.1.0 vs.1.1.1.0 e a.0 n p m
step_links end l None ts vs r e no_signs = no_link refl refl

-- a reserved word begins a compound command or none
pub keyword_form : (which : Reserved) → (command_form (Keyword which) ≡ Some command.Compound) ⊎ (command_form (Keyword which) ≡ None)
keyword_form Open = inl refl
keyword_form If = inl refl
keyword_form While = inl refl
keyword_form Until = inl refl
keyword_form For = inl refl
keyword_form Case = inl refl
keyword_form _ = inr refl

pub keyword_not_named : (which : Reserved) → command_form (Keyword which) ≡ Some command.Named → ⊥
keyword_not_named which e = elim (keyword_form which) as (λ _. ⊥) [ inl h ↦ cc (sym e ∙ h) | inr h ↦ cc (sym e ∙ h) ]

pub keyword_not_simple : (which : Reserved) → command_form (Keyword which) ≡ Some command.Simple → ⊥
keyword_not_simple which e = elim (keyword_form which) as (λ _. ⊥) [ inl h ↦ cc (sym e ∙ h) | inr h ↦ cc (sym e ∙ h) ]

pub named_look : (l : Look) → command_form l ≡ Some command.Named → l ≡ Name
named_look Name e = refl
named_look (Keyword which) e = absurd (keyword_not_named which e)
named_look _ e = absurd (cc e)

not_simple : (l : Look) → is_word l ≡ false → redirection l ≡ None → command_form l ≡ Some command.Simple → ⊥
not_simple (Redirection which) w d e = cc d
not_simple Assignment w d e = clash w refl
not_simple Other w d e = clash w refl
not_simple (Keyword which) w d e = keyword_not_simple which e
not_simple _ w d e = cc e

simple_from : {end : ℕ} {ts r : Tokens} {items : Items} → command_form (look ts) ≡ Some command.Simple → AreItems end false ts items r → IsSimple end ts (simple (place end ts) items) r
simple_from {ts = ts} f (no_item e w d i) = absurd (not_simple (look ts) w d f)
simple_from {end} {ts} f (assignment_item w xs b k x y e) = begins_with_assignment w xs k x y (ap (simple (place end ts)) e)
simple_from {end} {ts} f (redirect_item which xs s y e) = begins_with_redirect which xs s y (ap (simple (place end ts)) e)
simple_from {end} {ts} f (word_item w xs n x y e) = begins_with_word w xs (λ which h. keyword_not_simple which (ap command_form (sym h) ∙ f)) (n refl) x y (ap (simple (place end ts)) e)

step_command : (end : ℕ) (l : Look) (f : Option CommandForm) (ts : Tokens) (vs : Values (production_command f).signs) (r : Tokens) → look ts ≡ l → command_form l ≡ f → PlainAll end (production_command f).signs ts vs r → IsCommand end ts ((production_command f).tree vs) r
step_command end l (Some command.Compound) ts vs r k e (one_sign t1 h (one_sign t2 a (one_sign t3 b no_signs))) = compound_command vs.1.0 vs.1.1.0 (subst (λ t. IsCompound end t vs.1.0 t2) h.0 a) b (ap (λ n. redirected n vs.1.0 vs.1.1.0) h.1)
step_command end l (Some command.Named) ts vs r k e (one_sign t1 h (one_sign t2 w (one_sign t3 n no_signs))) =
    subst (λ at. IsCommand end ts (named at vs.1.0 vs.1.1.0) t3) (sym h.1) (n ts vs.1.0 (k ∙ named_look l e) (subst (λ t. IsWord end t vs.1.0 t2) h.0 w))
step_command end l (Some command.Simple) ts vs r k e (one_sign t1 h (one_sign t2 a no_signs)) =
    subst (λ at. IsCommand end ts (simple at vs.1.0) t2) (sym h.1) (simple_command (simple_from (ap command_form k ∙ e) (subst (λ t. AreItems end false t vs.1.0 t2) h.0 a)))
step_command end l None ts vs r k e (one_sign t1 a no_signs) = absurd a

step_compound : (end : ℕ) (f : CompoundForm) (ts : Tokens) (vs : Values (production_compound f).signs) (r : Tokens) → PlainAll end (production_compound f).signs ts vs r → IsCompound end ts ((production_compound f).tree vs) r
step_compound end compound.Subshell ts vs r (one_sign t1 a (one_sign t2 b (one_sign t3 x no_signs))) = subshell vs.1.0 a.0 b x.0 (ap (λ n. c.Sub n vs.1.0) a.1)
step_compound end compound.If ts vs r (one_sign t1 a (one_sign t2 b (one_sign t3 x no_signs))) = if_command vs.1.0 a.0 b x.0 (ap (λ n. c.If n vs.1.0.0 vs.1.0.1) a.1)
step_compound end compound.For ts vs r (one_sign t1 a (one_sign t2 b (one_sign t3 x no_signs))) = subst (λ n. IsCompound end ts (c.For n vs.1.0.0 vs.1.0.1 vs.1.0.2) t3) (sym a.1) (b ts t3 a.0 x.0)
step_compound end compound.Case ts vs r (one_sign t1 a (one_sign t2 b (one_sign t3 x no_signs))) = subst (λ n. IsCompound end ts (c.Case n vs.1.0.0 vs.1.0.1) t3) (sym a.1) (b ts t3 a.0 x.0)
step_compound end (compound.Loop until) ts vs r (one_sign t1 a (one_sign t2 b (one_sign t3 x no_signs))) = subst (λ n. IsCompound end ts (c.While n until vs.1.0.0 vs.1.0.1) t3) (sym a.1) (b ts t3 until a.0 x.0)
step_compound end compound.Braces ts vs r (one_sign t1 a no_signs) = brace_group a

step_name : (end : ℕ) (l : Look) (b : Bool) (ts : Tokens) (vs : Values (production_name b).signs) (r : Tokens) → look ts ≡ l → is_name_word l ≡ b → PlainAll end (production_name b).signs ts vs r → IsName end ts ((production_name b).tree vs) r
step_name end l true ts vs r k e (one_sign t1 w no_signs) = a_name vs.0 (ap is_name_word k ∙ e) w refl
step_name end l false ts vs r k e (one_sign t1 w no_signs) = absurd w

step_each : (end : ℕ) (b : Bool) (ts : Tokens) (vs : Values (production_each b).signs) (r : Tokens) → PlainAll end (production_each b).signs ts vs r → AreWords end ts ((production_each b).tree vs) r
step_each end true ts vs r (one_sign t1 w (one_sign t2 m no_signs)) = one_word _ _ w m refl
step_each end false ts vs r no_signs = no_words refl refl

step_apart : (end : ℕ) (l : Look) (b : Bool) (ts : Tokens) (vs : Values (production_apart l b).signs) (r : Tokens) → is_separator l ≡ b → PlainAll end (production_apart l b).signs ts vs r → IsSeparator ts r
step_apart end l true ts vs r e (one_sign t1 a (one_sign t2 n no_signs)) = separator_is l ts t1 t2 e a.0 n
step_apart end l false ts vs r e (one_sign t1 a no_signs) = absurd a

step_arm_body : (end : ℕ) (b : Bool) (ts : Tokens) (vs : Values (production_arm_body b).signs) (r : Tokens) → PlainAll end (production_arm_body b).signs ts vs r → IsArmList end ts ((production_arm_body b).tree vs) r
step_arm_body end true ts vs r no_signs = no_arm_list refl refl
step_arm_body end false ts vs r (one_sign t1 a no_signs) = arm_list a

pub item_assignment : (b : Bool) (l : Look) → item b l ≡ Some an.Assignment → (b ≡ false) × (l ≡ Assignment)
item_assignment false Assignment e = (refl, refl)
item_assignment true Assignment e = absurd (cc e)
item_assignment _ _ e = absurd (cc e)

item_none : (b : Bool) (l : Look) → item b l ≡ None → (is_word l ≡ false) × (redirection l ≡ None)
item_none true (Redirection which) e = absurd (cc e)
item_none false (Redirection which) e = absurd (cc e)
item_none true (Keyword which) e = absurd (cc e)
item_none false (Keyword which) e = absurd (cc e)
item_none true Name e = absurd (cc e)
item_none false Name e = absurd (cc e)
item_none true Assignment e = absurd (cc e)
item_none false Assignment e = absurd (cc e)
item_none true Other e = absurd (cc e)
item_none false Other e = absurd (cc e)
item_none _ _ e = (refl, refl)

pub no_assignment : (b : Bool) (l : Look) → item b l ≡ Some an.Word → b ≡ false → l ≡ Assignment → ⊥
no_assignment false Assignment e f h = cc e
no_assignment true l e f h = clash f refl
no_assignment _ _ e f h = cc h

step_items : (end : ℕ) (b : Bool) (l : Look) (i : Option Item) (ts : Tokens) (vs : Values (production_items b i).signs) (r : Tokens) → look ts ≡ l → item b l ≡ i → PlainAll end (production_items b i).signs ts vs r → AreItems end b ts ((production_items b i).tree vs) r
step_items end b l (Some an.Assignment) ts vs r k e (one_sign t1 w (one_sign t2 m no_signs)) =
    let h = item_assignment b l e in
    assignment_item _ vs.1.0 h.0 (k ∙ h.1) w (subst (λ b. AreItems end b t1 vs.1.0 t2) h.0 m) refl
step_items end b l (Some (an.Redirection which)) ts vs r k e (one_sign t1 a (one_sign t2 m no_signs)) = redirect_item which _ a.0 m refl
step_items end b l (Some an.Word) ts vs r k e (one_sign t1 w (one_sign t2 m no_signs)) = word_item _ _ (λ f h. no_assignment b l e f (sym k ∙ h)) w m refl
step_items end b l None ts vs r k e no_signs = let h = item_none b l e in no_item refl (ap is_word k ∙ h.0) (ap redirection k ∙ h.1) refl

step_redirects : (end : ℕ) (d : Option Redirect) (ts : Tokens) (vs : Values (production_redirects d).signs) (r : Tokens) → PlainAll end (production_redirects d).signs ts vs r → AreRedirects ts ((production_redirects d).tree vs) r
step_redirects end (Some which) ts vs r (one_sign t1 a (one_sign t2 m no_signs)) = one_redirect which _ a.0 m refl
step_redirects end None ts vs r no_signs = no_redirect refl refl

script_from : {end : ℕ} (ts t1 t2 t3 : Tokens) (v : Command) → AreNewlines ts t1 → PlainRule Body end t1 v t2 → Stands AtEnd t2 t3 → IsScript end ts v × (t3 ≡ [])
script_from ts t1 t2 t3 v n (inl b) s = (no_script (subst (AreNewlines ts) (sym b.0 ∙ ended t2 s.0) n) b.1, behind_end t2 t3 s.0 s.1)
script_from {end} ts t1 t2 t3 v n (inr b) s = (a_script n (subst (IsList end t1 v) (ended t2 s.0) b), behind_end t2 t3 s.0 s.1)

-- ---- all productions

step : (end : ℕ) (n : Rule) (l : Look) (ts : Tokens) (vs : Values (production n l).signs) (r : Tokens) → look ts ≡ l → PlainAll end (production n l).signs ts vs r → PlainRule n end ts ((production n l).tree vs) r
step end Script l ts vs r k (one_sign t1 n (one_sign t2 b (one_sign t3 x no_signs))) = script_from ts t1 t2 t3 vs.1.0 n b x.0
step end Body AtEnd ts vs r k x = inl (none_of x, refl)
step end Body l ts vs r k x = inr (one_of x)
step end Newlines Newline ts vs r k x = let m = two_of x in newline m.1.0 m.2
step end Newlines l ts vs r k x = no_newline (none_of x)
step end Block l ts vs r k (one_sign t1 a (one_sign t2 b no_signs)) = a_block a b
step end Members l ts vs r k (one_sign t1 a (one_sign t2 b no_signs)) = a_list _ _ a b refl
step end More l ts vs r k x = step_more end l (is_separator l) ts vs r refl x
step end Behind l ts vs r k x = step_behind end (starts l) ts vs r x
step end AndOr l ts vs r k (one_sign t1 a (one_sign t2 b no_signs)) = an_and_or _ _ a b refl
step end Links l ts vs r k x = step_links end l (link_and l) ts vs r refl x
step end Pipeline (Keyword Bang) ts vs r k x = let m = two_of x in not_pipeline vs.1.0 m.1.0 m.2 (ap (λ n. c.Not n vs.1.0) m.1.1)
step end Pipeline l ts vs r k x = plain_pipeline (one_of x)
step end Piped l ts vs r k (one_sign t1 h (one_sign t2 a (one_sign t3 b no_signs))) = a_sequence vs.1.0 vs.1.1.0 (subst (λ t. IsCommand end t vs.1.0 t2) h.0 a) b (ap (λ n. pipe_of n (vs.1.0 ∷ vs.1.1.0)) h.1)
step end Bars Bar ts vs r k x = let m = four_of x in one_pipe vs.1.1.0 vs.1.1.1.0 m.3.0 m.4 m.5 m.6 refl
step end Bars l ts vs r k x = no_pipe (none_of x) refl
step end ACommand l ts vs r k x = step_command end l (command_form l) ts vs r k refl x
step end Compound l ts vs r k x = step_compound end (compound_form l) ts vs r x
step end Clause l ts vs r k (one_sign t1 a (one_sign t2 h (one_sign t3 b (one_sign t4 m no_signs)))) = a_clause _ _ vs.1.1.1.0 a h.0 b m refl
step end Arms (Keyword Elif) ts vs r k x = let m = two_of x in elif_part m.1.0 m.2
step end Arms (Keyword Else) ts vs r k x = let m = two_of x in else_part vs.1.0 m.1.0 m.2 refl
step end Arms l ts vs r k x = no_else (none_of x) refl
step end Loop l ts vs r k (one_sign t1 a (one_sign t2 d (one_sign t3 b no_signs))) = λ t0 rest until s x. while_loop until vs.0 vs.1.1.0 s a d.0 b x refl
step end ForRest l ts vs r k (one_sign t1 a (one_sign t2 n (one_sign t3 w (one_sign t4 d (one_sign t5 b no_signs))))) = λ t0 rest s x. for_loop vs.0 vs.1.1.0 vs.1.1.1.1.0 s a n w d.0 b x refl
step end ForName l ts vs r k x = step_name end l (is_name_word l) ts vs r k refl x
step end ForWords (Keyword In) ts vs r k x = let m = three_of x in in_words vs.1.0 m.2.0 m.3 m.4 refl
step end ForWords Semi ts vs r k x = let m = two_of x in for_semicolon m.1.0 m.2 refl
step end ForWords l ts vs r k x = no_in (none_of x) refl
step end Each l ts vs r k x = step_each end (is_word l) ts vs r x
step end Apart l ts vs r k x = step_apart end l (is_separator l) ts vs r refl x
step end CaseRest l ts vs r k (one_sign t1 w (one_sign t2 n (one_sign t3 i (one_sign t4 m (one_sign t5 a no_signs))))) = λ t0 rest s x. case_command _ _ s w n i.0 m a x refl
step end CaseArms (Keyword Esac) ts vs r k x = no_arm (none_of x) refl
step end CaseArms l ts vs r k x = let m = two_of x in m.2 ts vs.0 (m.1 (λ h. cc (sym k ∙ h)))
step end CaseMore DoubleSemi ts vs r k x = let m = three_of x in λ t0 a y. one_arm a vs.1.1.0 y m.2.0 m.3 m.4 refl
step end CaseMore l ts vs r k x = λ t0 a y. last_arm a (subst (IsArm end t0 a) (sym (none_of x)) y) refl
step end OneArm LeftParen ts vs r k x = let m = two_of x in λ h. open_arm m.1.0 m.2
step end OneArm l ts vs r k x = λ h. arm_without_paren h (one_of x)
step end ArmRest l ts vs r k (one_sign t1 p (one_sign t2 s (one_sign t3 n (one_sign t4 b no_signs)))) = arm_rest p.0 p.1 vs.1.1.1.0 p.3 p.4 s.0 n b (ap (λ ws. case_arm ws vs.1.1.1.0) p.5)
step end Patterns l ts vs r k (one_sign t1 w (one_sign t2 m no_signs)) = (vs.0, vs.1.0, t1, w, m, refl)
step end MorePatterns Bar ts vs r k x = let m = three_of x in one_pattern vs.1.0 vs.1.1.0 m.2.0 m.3 m.4 refl
step end MorePatterns l ts vs r k x = no_pattern (none_of x) refl
step end ArmBody l ts vs r k x = step_arm_body end (ends_arm l) ts vs r x
step end Braces l ts vs r k (one_sign t1 a (one_sign t2 b (one_sign t3 x no_signs))) = braces a.0 b x.0
step end Named LeftParen ts vs r k x = let m = four_of x in λ t0 w f y. definition w vs.1.1.1.0 f y m.3.0 m.4.0 m.5 m.6 refl
step end Named l ts vs r k x = λ t0 w f y. simple_command (begins_with_word w vs.0 (λ which h. cc (sym f ∙ h)) (λ h. cc (sym f ∙ h)) y (one_of x) refl)
step end (SimpleItems b) l ts vs r k x = step_items end b l (item b l) ts vs r k refl x
step end Redirects l ts vs r k x = step_redirects end (redirection l) ts vs r x

-- ---- all readings

faultless_from : (p : Part) (q : Judged) (ps : List Part) → after p q ≡ Faultless ps → (ps2 : List Part) × (q ≡ Faultless ps2) × (ps ≡ p ∷ ps2)
faultless_from p (Faultless ps2) ps e = (ps2, refl, sym (same_faultless e))
faultless_from p (Faulty f) ps e = absurd (cc e)

mutual
  pub plain_rule : {d end : ℕ} {n : Rule} {ts : Tokens} {q : Out (Tree n)} → IsRule no_limit d end n ts q → (v : Tree n) (r : Tokens) → q ≡ Whole v r → PlainRule n end ts v r
  plain_rule {d} {end} {n} {ts} (rule q1 x e) v r h =
      let f = whole_from (production n (look ts)).tree q1 v r (sym e ∙ h) in
      subst (λ v. PlainRule n end ts v r) f.turns (step end n (look ts) ts f.value r refl (plain_all x f.value r f.is_whole))

  plain_all : {d end : ℕ} {ss : List Sign} {ts : Tokens} {q : Out (Values ss)} → IsAll no_limit d end ss ts q → (vs : Values ss) (r : Tokens) → q ≡ Whole vs r → PlainAll end ss ts vs r
  plain_all {d} {end} {ts = ts} (no_more e) vs r h = subst (PlainAll end [] ts vs) (wholes (sym e ∙ h)).1 no_signs
  plain_all {d} {end} {ts = ts} (one_more {s = s} {ss = ss} v0 r0 q1 s0 x e) vs r h =
      let f = whole_from (λ vs. (v0, vs)) q1 vs r (sym e ∙ h) in
      subst (λ vs. PlainAll end (s ∷ ss) ts vs r) f.turns (one_sign r0 (plain_sign s0 v0 r0 refl) (plain_all x f.value r f.is_whole))
  plain_all (one_stops f r0 s0 e) vs r h = absurd (not_both (sym (sym e ∙ h)))

  plain_sign : {d end : ℕ} {s : Sign} {ts : Tokens} {q : Out (Value s)} → IsSign no_limit d end s ts q → (v : Value s) (r : Tokens) → q ≡ Whole v r → PlainSign s end ts v r
  plain_sign (is k e) v r h = let w = wholes (sym e ∙ h) in ((k, sym w.1), sym w.0)
  plain_sign (is_not k e) v r h = absurd (not_both (sym (sym e ∙ h)))
  plain_sign (opens k g e) v r h = let w = wholes (sym e ∙ h) in ((k, sym w.1), sym w.0)
  plain_sign (opens_not k e) v r h = absurd (not_both (sym (sym e ∙ h)))
  plain_sign (too_deep k g e) v r h = absurd (not_both (sym (sym e ∙ h)))
  plain_sign (reads_word raws ps w x e) v r h = let k = wholes (sym e ∙ h) in the_word raws ps w (plain_parts x ps refl) (sym k.0) (sym k.1)
  plain_sign (a_word_stops raws f w x e) v r h = absurd (not_both (sym (sym e ∙ h)))
  plain_sign (no_word w e) v r h = absurd (not_both (sym (sym e ∙ h)))
  plain_sign (here e) v r h = let w = wholes (sym e ∙ h) in (sym w.1, sym w.0)
  plain_sign (never e) v r h = absurd (not_both (sym (sym e ∙ h)))
  plain_sign (of x) v r h = plain_rule x v r h
  plain_sign (inside x) v r h = plain_rule x v r h

  plain_parts : {d : ℕ} {raws : List RawPart} {q : Judged} → IsParts no_limit d raws q → (ps : List Part) → q ≡ Faultless ps → PartsAre raws ps
  plain_parts (no_parts e) ps h = no_part (same_faultless (sym h ∙ e))
  plain_parts (plain_part x q1 a y e) ps h = let m = faultless_from x q1 ps (sym e ∙ h) in a_part x m.0 a (plain_parts y m.0 m.1) m.2
  plain_parts (run_part at ts b body rest q1 a g z y e) ps h =
      let m = faultless_from (part.Run at body b) q1 ps (sym e ∙ h) in
      a_substitution at ts b body m.0 a (plain_rule z body rest refl).0 (plain_parts y m.0 m.1) m.2
  plain_parts (run_stops at ts b f rest a g z e) ps h = absurd (cc (sym e ∙ h))
  plain_parts (run_deep at ts b a g e) ps h = absurd (cc (sym e ∙ h))

-- what is spelled is a script of the plain grammar
pub plain_script : (end : ℕ) (ts : Tokens) (body : Command) → Spells end ts body → IsScript end ts body
plain_script end ts body s = (plain_rule s.reads body s.rest refl).0
