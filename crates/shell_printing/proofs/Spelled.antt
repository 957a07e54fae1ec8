-- Where tokens spell a script, the tokens of the printed script spell it with every offset 0: by one induction over how
-- the table reads, with a clause for each row.
use Rattle.std.proofs.Common.{◌≡◌, ℕ, suc, Bool, true, false, nat_le, leb, List, [], ◌∷◌, map, inl, inr, Option, Some, None, refl, sym, ap, ◌∙◌, subst, arith}
use Rattle.std.proofs.lemmas.Bool.{leb-true, le-leb}
use Rattle.shell_syntax.specs.declared.level.Level.{Level}
use Rattle.shell_syntax.specs.declared.level.Level.TheVariants as level
use Rattle.shell_syntax.specs.declared.redirect.Redirect.{Redirect}
use Rattle.shell_syntax.specs.declared.syntax.Command.{Command}
use Rattle.shell_syntax.specs.declared.syntax.Command.TheVariants as c
use Rattle.shell_syntax.specs.declared.syntax.Part.{Part}
use Rattle.shell_syntax.specs.declared.syntax.Part.TheVariants as part
use Rattle.shell_syntax.specs.declared.syntax.Assign.{Assign}
use Rattle.shell_syntax.specs.declared.syntax.IfArm.{IfArm}
use Rattle.shell_syntax.specs.declared.syntax.Link.{Link}
use Rattle.shell_syntax.specs.declared.syntax.Word.{Word}
use Rattle.shell_syntax.specs.Printed.{rank}
use Rattle.shell_lexer.specs.declared.token.RawPart.{RawPart, out-RawPart}
use Rattle.shell_lexer.specs.declared.token.RawPart.TheOpen as o
use Rattle.token_laws.specs.LongestRuns.{plain_runs_are_longest}
use Rattle.shell_grammar.specs.declared.form.CommandForm.{CommandForm}
use Rattle.shell_grammar.specs.declared.form.CommandForm.TheVariants as command
use Rattle.shell_grammar.specs.declared.form.CompoundForm.{CompoundForm}
use Rattle.shell_grammar.specs.declared.form.CompoundForm.TheVariants as compound
use Rattle.shell_grammar.specs.declared.form.Item.{Item}
use Rattle.shell_grammar.specs.declared.form.Item.TheVariants as an
use Rattle.shell_grammar.specs.declared.items.Items.{Items}
use Rattle.shell_grammar.specs.declared.look.Look.{Look}
use Rattle.shell_grammar.specs.declared.look.Look.TheVariants.{AtEnd, Semi, DoubleSemi, Bar, LeftParen, Redirection, Keyword, Name, Assignment, Other}
use Rattle.shell_grammar.specs.declared.look.Reserved.TheVariants.{Bang, Elif, Else, In, Esac}
use Rattle.shell_grammar.specs.Forms.{command_form, compound_form, item, starts, is_name_word, is_word, is_separator, link_and, ends_arm}
use Rattle.shell_grammar.specs.Grammar.{Rule, Script, Body, Newlines, Block, Members, More, Behind, AndOr, Links, Pipeline, Piped, Bars, ACommand, Compound, Clause, Arms, Loop, ForRest, ForName, ForWords, Each, Apart, CaseRest, CaseArms, CaseMore, OneArm, ArmRest, Patterns, MorePatterns, ArmBody, Braces, Named, SimpleItems, Redirects, Sign, Is, Opens, AWord, Here, Never, Of, Inside, Tree, Value, Values, production, production_more, production_behind, production_links, production_command, production_compound, production_name, production_each, production_arm_body, production_items}
use Rattle.shell_grammar.specs.Look.{Tokens, look, place, word_look}
use Rattle.shell_grammar.specs.Reading.{Out, Whole, Judged, Faultless, Faulty, after, plainly, IsRule, rule, IsAll, no_more, one_more, one_stops, IsSign, is, is_not, opens, opens_not, too_deep, a_word as reads_word, a_word_stops, no_word, here, never, of, inside, IsParts, no_parts, plain_part, run_part, run_stops, run_deep}
use Rattle.shell_grammar.specs.Spelling.{deep_64}
use Rattle.shell_grammar.specs.Trees.{seq_of, pipe_of, chain_of, redirected, case_arm, named, word_at, word_text, assigned, Tail, Defines, Continues}
use Rattle.shell_grammar.proofs.Unique.{not_both, wholes, same_faultless, runs, no_run}
use Rattle.shell_lexer.proofs.PrintedBytes.{clash}
use Rattle.shell_grammar.proofs.Begun.{whole_from}
use Rattle.shell_printing.specs.Zeroed.{zeroed, zeroed_part}
use Rattle.shell_printing.specs.PrintedTokens.{phrase, raw_of, word_raws, assign_raws, script_tokens}
use Rattle.shell_printing.specs.Runs.{RunsAreLongest, other_part, substitution, PartsAreLongest}
use Rattle.shell_printing.specs.Laws.{PrintedTokensSpellAgain}
use Rattle.shell_printing.proofs.PhraseLayers.{phrase_run}
use Rattle.shell_printing.proofs.ZeroedLayers.{zeroed_run}
use Rattle.shell_printing.proofs.ZeroedTokens.{seen_run}
use Rattle.shell_printing.proofs.Offsets.{offsets_do_not_matter}
use Rattle.shell_printing.proofs.Twice.{zeroed_twice}
use Rattle.shell_printing.proofs.Levels.{Good, Placeable, good_of}
use Rattle.shell_printing.proofs.Nodes.{AllOf, WordOk, AWordOk, AssignOk, FirstWords, Begins, with_assign, with_name, with_other, looks_so}
use Rattle.shell_printing.proofs.Phrases.{simple_good, simple_redirectable, compound_redirectable, redirected_good, pipe_good, not_good, LinkOk, chain_good, seq_good, sub_good, while_good, NameOk, WordsOk, for_good, Scripted, script_read, CaseArmOk, case_good, IfArmOk, OtherwiseOk, if_good, define_good}
use Rattle.shell_printing.proofs.Words.{plain_of, back, Alike, alike_none, alike_more, look_alike, single, assigns, assign_same, word_text_plain, not_plain, not_plain_alike, word_looks_so, longest_word, longest_behind}
use Rattle.shell_grammar.proofs.FromTable.{named_look, item_assignment, no_assignment, keyword_not_simple}
use Rattle.shell_printing.proofs.Ends.{higher}

-- ---- forms

-- a simple command that begins with a word that is no assignment begins with one that is no name either
other_look : (l : Look) → command_form l ≡ Some command.Simple → item false l ≡ Some an.Word → l ≡ Other
other_look Other e i = refl
other_look (Redirection which) e i = absurd (cc i)
other_look Assignment e i = absurd (cc i)
other_look (Keyword which) e i = absurd (keyword_not_simple which e)
other_look _ e i = absurd (cc e)

not_empty : (l : Look) → command_form l ≡ Some command.Simple → item false l ≡ None → ⊥
not_empty Other e i = cc i
not_empty (Redirection which) e i = cc i
not_empty Assignment e i = cc i
not_empty (Keyword which) e i = keyword_not_simple which e
not_empty _ e i = cc e

abbrev NonEmpty : {A : Type 0} → List A → Type 0
NonEmpty [] = ⊥
NonEmpty (x ∷ xs) = Unit {0}

faultless_from : (p : Part) (q : Judged) (ps : List Part) → after p q ≡ Faultless ps → (more : List Part) × (q ≡ Faultless more) × (ps ≡ p ∷ more)
faultless_from p (Faultless more) ps e = (more, refl, sym (same_faultless e))
faultless_from p (Faulty f) ps e = absurd (cc e)

module _ (deep : ℕ → Bool) (lower : (d : ℕ) → deep (suc d) ≡ false → deep d ≡ false) where
  abbrev Fits : Level → ℕ → Command → Type 0
  Fits place d x = Placeable deep lower place d x

  raised : {d : ℕ} (low high : Level) (x : Command) → nat_le (rank low) (rank high) ≡ true → Fits low d x → Fits high d x
  raised low high x e (inl p) = inl (higher (rank (phrase x).level) (rank low) (rank high) e p.0, p.1)
  raised low high x e (inr p) = inr p

  -- ---- words

  -- what is said of a word whose token looks so
  record WordSaid (d : ℕ) (l : Look) (w : Word) : Type 0 where
    pub ok : WordOk deep d l w
    pub name : is_name_word l ≡ true → looks_so deep (word_text w) ≡ l
    pub assign : l ≡ Assignment → assign_raws (assigned w) ≡ word_raws w

  record PartsSaid (d : ℕ) (raws : List RawPart) (ps : List Part) : Type 0 where
    pub reads : IsParts deep d (map raw_of ps) (Faultless (map zeroed_part ps))
    pub alike : Alike raws (map raw_of ps)
    pub first : (w : List ℕ) (p : RawPart) (more : List RawPart) → raws ≡ p ∷ more → out-RawPart p ≡ o.Plain w
        → (xs : List Part) × (ps ≡ part.Plain w ∷ xs) × Alike more (map raw_of xs)

  -- ---- the items of a simple command

  -- what stands first, before the first word or behind it
  data FirstItem (d : ℕ) (b : Bool) (l : Look) : List Assign → List Word → Type 0 where
    by_assign : {a : Assign} {es : List Assign} {ws : List Word} → FirstItem d b l (a ∷ es) ws
    by_word : {w : Word} {ws : List Word} → item b l ≡ Some an.Word → WordOk deep d l w → FirstItem d b l [] (w ∷ ws)
    by_none : item b l ≡ None → FirstItem d b l [] []

  record ItemsSaid (d : ℕ) (b : Bool) (l : Look) (items : Items) : Type 0 where
    pub assigns : AllOf (AssignOk deep d) items.assigns
    pub none : b ≡ true → items.assigns ≡ []
    pub later : b ≡ true → AllOf (AWordOk deep d) items.words
    pub first : b ≡ false → FirstWords deep d items.words
    pub begins : items.redirects ≡ [] → FirstItem d b l items.assigns items.words

  abbrev TailSaid : ℕ → Tail → Type 0
  TailSaid d (Defines x) = (deep d ≡ false) × Good deep lower (suc d) x
  TailSaid d (Continues items) = (l : Look) × ItemsSaid d true l items

  -- ---- what each name of the table says of its tree, by how its first token looks

  abbrev RuleSays : (n : Rule) → ℕ → Look → Tree n → Type 0
  RuleSays Script d l v = Scripted deep lower d v
  RuleSays Body d l v = Scripted deep lower d v
  RuleSays Newlines d l v = Unit {0}
  RuleSays Block d l v = Good deep lower d v
  RuleSays Members d l v = Good deep lower d v
  RuleSays More d l v = AllOf (Fits level.AndOr d) v
  RuleSays Behind d l v = AllOf (Fits level.AndOr d) v
  RuleSays AndOr d l v = Fits level.AndOr d v
  RuleSays Links d l v = AllOf (LinkOk deep lower d) v
  RuleSays Pipeline d l v = Fits level.Pipeline d v
  RuleSays Piped d l v = Fits level.PipeSequence d v
  RuleSays Bars d l v = AllOf (Fits level.Command d) v
  RuleSays ACommand d l v = Fits level.Command d v
  RuleSays Compound d l v = Fits level.Compound d v
  RuleSays Clause d l v = NonEmpty v.0 × AllOf (IfArmOk deep lower d) v.0 × OtherwiseOk deep lower d v.1
  RuleSays Arms d l v = AllOf (IfArmOk deep lower d) v.0 × OtherwiseOk deep lower d v.1
  RuleSays Loop d l v = Good deep lower d v.0 × Good deep lower d v.1
  RuleSays ForRest d l v = NameOk deep lower v.0 × WordsOk deep lower d v.1 × Good deep lower d v.2
  RuleSays ForName d l v = NameOk deep lower v
  RuleSays ForWords d l v = WordsOk deep lower d v
  RuleSays Each d l v = AllOf (AWordOk deep d) v
  RuleSays Apart d l v = Unit {0}
  RuleSays CaseRest d l v = AWordOk deep d v.0 × AllOf (CaseArmOk deep lower d) v.1
  RuleSays CaseArms d l v = AllOf (CaseArmOk deep lower d) v
  RuleSays CaseMore d l v = AllOf (CaseArmOk deep lower d) v
  RuleSays OneArm d l v = CaseArmOk deep lower d v
  RuleSays ArmRest d l v = CaseArmOk deep lower d v
  RuleSays Patterns d l v = NonEmpty v × AllOf (AWordOk deep d) v
  RuleSays MorePatterns d l v = AllOf (AWordOk deep d) v
  RuleSays ArmBody d l v = Scripted deep lower d v
  RuleSays Braces d l v = (deep d ≡ false) × Good deep lower (suc d) v
  RuleSays Named d l v = TailSaid d v
  RuleSays (SimpleItems b) d l v = ItemsSaid d b l v
  RuleSays Redirects d l v = Unit {0}

  abbrev SignSays : (s : Sign) → ℕ → Look → Value s → Type 0
  SignSays (Is k) d l v = Unit {0}
  SignSays (Opens k) d l v = deep d ≡ false
  SignSays AWord d l v = WordSaid d l v
  SignSays Here d l v = Unit {0}
  SignSays Never d l v = ⊥
  SignSays (Of n) d l v = RuleSays n d l v
  SignSays (Inside n) d l v = RuleSays n (suc d) l v

  -- what looks so behind a sign: behind `Here` the same
  abbrev Next : Sign → Look → Look → Type 0
  Next Here l m = m ≡ l
  Next s l m = Unit {0}

  data AllSaid (d : ℕ) : (ss : List Sign) → Look → Values ss → Type 0 where
    no_said : {l : Look} {vs : Values []} → AllSaid d [] l vs
    one_said : {s : Sign} {ss : List Sign} {l : Look} {vs : Values (s ∷ ss)} (m : Look) → SignSays s d l vs.0 → Next s l m → AllSaid d ss m vs.1 → AllSaid d (s ∷ ss) l vs

  one_of : {d : ℕ} {s : Sign} {l : Look} {vs : Values (s ∷ [])} → AllSaid d (s ∷ []) l vs → SignSays s d l vs.0
  one_of (one_said m a n no_said) = a

  two_of : {d : ℕ} {s s2 : Sign} {l : Look} {vs : Values (s ∷ s2 ∷ [])} → AllSaid d (s ∷ s2 ∷ []) l vs → (m : Look) × SignSays s d l vs.0 × SignSays s2 d m vs.1.0
  two_of (one_said m a n x) = (m, a, one_of x)

  three_of : {d : ℕ} {s s2 s3 : Sign} {l : Look} {vs : Values (s ∷ s2 ∷ s3 ∷ [])} → AllSaid d (s ∷ s2 ∷ s3 ∷ []) l vs → (m : Look) × (k : Look) × SignSays s d l vs.0 × SignSays s2 d m vs.1.0 × SignSays s3 d k vs.1.1.0
  three_of (one_said m a n x) = let t = two_of x in (m, t.0, a, t.1, t.2)

  -- the last of four
  four_of : {d : ℕ} {s s2 s3 s4 : Sign} {l : Look} {vs : Values (s ∷ s2 ∷ s3 ∷ s4 ∷ [])} → AllSaid d (s ∷ s2 ∷ s3 ∷ s4 ∷ []) l vs
      → (m : Look) × (k : Look) × (j : Look) × SignSays s d l vs.0 × SignSays s2 d m vs.1.0 × SignSays s3 d k vs.1.1.0 × SignSays s4 d j vs.1.1.1.0
  four_of (one_said m a n x) = let t = three_of x in (m, t.0, t.1, a, t.2, t.3, t.4)

  -- ---- productions that a form or a test chooses

  step_more : {d : ℕ} (l : Look) (b : Bool) (vs : Values (production_more l b).signs) → AllSaid d (production_more l b).signs l vs → AllOf (Fits level.AndOr d) ((production_more l b).tree vs)
  step_more l true vs x = let t = three_of x in t.4
  step_more l false vs x = tt

  step_behind : {d : ℕ} (l : Look) (b : Bool) (vs : Values (production_behind b).signs) → AllSaid d (production_behind b).signs l vs → AllOf (Fits level.AndOr d) ((production_behind b).tree vs)
  step_behind l true vs x = let t = two_of x in (t.1, t.2)
  step_behind l false vs x = tt

  step_links : {d : ℕ} (l : Look) (b : Option Bool) (vs : Values (production_links l b).signs) → AllSaid d (production_links l b).signs l vs → AllOf (LinkOk deep lower d) ((production_links l b).tree vs)
  step_links l (Some is_and) vs x = let t = four_of x in (record { is_and = is_and; body = vs.1.1.0; is = refl; good = t.5 }, t.6)
  step_links l None vs x = tt

  -- a simple command, with the redirections among its items
  simple_said : {d : ℕ} (at : ℕ) (es : List Assign) (ws : List Word) (rs : List Redirect) → AllOf (AssignOk deep d) es → FirstWords deep d ws → (rs ≡ [] → Begins deep d es ws) → Fits level.Command d (redirected at (c.Simple at es ws) rs)
  simple_said at es ws [] x y k = raised level.Simple level.Command (c.Simple at es ws) refl (simple_good deep lower at es ws x y (k refl))
  simple_said at es ws (r ∷ rs) x y k = redirected_good deep lower at (c.Simple at es ws) r rs (simple_redirectable deep lower at es ws x y)

  simple_begins : {d : ℕ} {l : Look} {es : List Assign} {ws : List Word} → command_form l ≡ Some command.Simple → FirstItem d false l es ws → Begins deep d es ws
  simple_begins e by_assign = with_assign
  simple_begins {d} {l} e (by_word {w = w} i k) = with_other (subst (λ l. WordOk deep d l w) (other_look l e i) k)
  simple_begins {l = l} e (by_none i) = absurd (not_empty l e i)

  -- words behind a first one
  words_behind : {d : ℕ} {l : Look} (w : Word) (ws : List Word) → WordOk deep d l w → (l ≡ Assignment → ⊥) → AllOf (AWordOk deep d) ws → FirstWords deep d (w ∷ ws)
  words_behind {l = l} w ws k n x = ((l, k, n), x)

  name_begins : {d : ℕ} (w : Word) (ws : List Word) (es : List Assign) → es ≡ [] → WordOk deep d Name w → Begins deep d es (w ∷ ws)
  name_begins {d} w ws es e k = subst (λ es. Begins deep d es (w ∷ ws)) (sym e) (with_name k)

  step_named : {d : ℕ} (at : ℕ) (w : Word) (t : Tail) → WordSaid d Name w → TailSaid d t → Fits level.Command d (named at w t)
  step_named at w (Defines x) k y = define_good deep lower at (word_text w) x y.0 (k.name refl) y.1
  step_named at w (Continues items) k y =
      let s = y.1 in
      simple_said at items.assigns (w ∷ items.words) items.redirects s.assigns (words_behind w items.words k.ok (λ h. cc h) (s.later refl)) (λ e. name_begins w items.words items.assigns (s.none refl) k.ok)

  redirected_said : {d : ℕ} (at : ℕ) (x : Command) (rs : List Redirect) → Fits level.Compound d x → Fits level.Command d (redirected at x rs)
  redirected_said at x [] p = raised level.Compound level.Command x refl p
  redirected_said at x (r ∷ rs) p = redirected_good deep lower at x r rs (compound_redirectable deep lower x p)

  step_command : {d : ℕ} (l : Look) (f : Option CommandForm) (vs : Values (production_command f).signs) → command_form l ≡ f → AllSaid d (production_command f).signs l vs → Fits level.Command d ((production_command f).tree vs)
  step_command l (Some command.Compound) vs e x = let t = three_of x in redirected_said vs.0 vs.1.0 vs.1.1.0 t.3
  step_command {d} l (Some command.Named) vs e (one_said m h n (one_said m2 w n2 (one_said m3 y n3 no_said))) =
      step_named vs.0 vs.1.0 vs.1.1.0 (subst (λ l. WordSaid d l vs.1.0) (n ∙ named_look l e) w) y
  step_command {d} l (Some command.Simple) vs e (one_said m h n (one_said m2 y n2 no_said)) =
      simple_said vs.0 vs.1.0.assigns vs.1.0.words vs.1.0.redirects y.assigns (y.first refl)
      (λ i. simple_begins e (subst (λ l. FirstItem d false l vs.1.0.assigns vs.1.0.words) n (y.begins i)))
  step_command l None vs e x = absurd (one_of x)

  if_said : {d : ℕ} (at : ℕ) (arms : List IfArm) (otherwise : Option Command) → deep d ≡ false → NonEmpty arms → AllOf (IfArmOk deep lower (suc d)) arms → OtherwiseOk deep lower (suc d) otherwise → Fits level.Compound d (c.If at arms otherwise)
  if_said at [] otherwise g n x y = absurd n
  if_said at (a ∷ arms) otherwise g n x y = if_good deep lower at a arms otherwise g x y

  step_compound : {d : ℕ} (l : Look) (f : CompoundForm) (vs : Values (production_compound f).signs) → AllSaid d (production_compound f).signs l vs → Fits level.Compound d ((production_compound f).tree vs)
  step_compound l compound.Subshell vs x = let t = three_of x in sub_good deep lower vs.0 vs.1.0 t.2 t.3
  step_compound l compound.If vs x = let t = three_of x in if_said vs.0 vs.1.0.0 vs.1.0.1 t.2 t.3.0 t.3.1 t.3.2
  step_compound l compound.For vs x = let t = three_of x in for_good deep lower vs.0 vs.1.0.0 vs.1.0.1 vs.1.0.2 t.2 t.3.0 t.3.1 t.3.2
  step_compound l compound.Case vs x = let t = three_of x in case_good deep lower vs.0 vs.1.0.0 vs.1.0.1 t.2 t.3.0 t.3.1
  step_compound l (compound.Loop until) vs x = let t = three_of x in while_good deep lower vs.0 until vs.1.0.0 vs.1.0.1 t.2 t.3.0 t.3.1
  step_compound l compound.Braces vs x = let b = one_of x in inr b

  step_name : {d : ℕ} (l : Look) (b : Bool) (vs : Values (production_name b).signs) → is_name_word l ≡ b → AllSaid d (production_name b).signs l vs → NameOk deep lower ((production_name b).tree vs)
  step_name l true vs e x = ap is_name_word ((one_of x).name e) ∙ e
  step_name l false vs e x = absurd (one_of x)

  step_each : {d : ℕ} (l : Look) (b : Bool) (vs : Values (production_each b).signs) → AllSaid d (production_each b).signs l vs → AllOf (AWordOk deep d) ((production_each b).tree vs)
  step_each l true vs x = let t = two_of x in ((l, t.1.ok), t.2)
  step_each l false vs x = tt

  step_arm_body : {d : ℕ} (l : Look) (b : Bool) (vs : Values (production_arm_body b).signs) → AllSaid d (production_arm_body b).signs l vs → Scripted deep lower d ((production_arm_body b).tree vs)
  step_arm_body l true vs x = inl refl
  step_arm_body l false vs x = inr (one_of x)

  first_word : {d : ℕ} {l : Look} {b : Bool} (w : Word) (ws : List Word) (es : List Assign) → es ≡ [] → item b l ≡ Some an.Word → WordOk deep d l w → FirstItem d b l es (w ∷ ws)
  first_word {d} {l} {b} w ws es e i k = subst (λ es. FirstItem d b l es (w ∷ ws)) (sym e) (by_word i k)

  step_items : {d : ℕ} (b : Bool) (l : Look) (i : Option Item) (vs : Values (production_items b i).signs) → item b l ≡ i → AllSaid d (production_items b i).signs l vs → ItemsSaid d b l ((production_items b i).tree vs)
  step_items {d} b l (Some an.Assignment) vs e x =
      let h = item_assignment b l e in
      let t = two_of x in
      let w = t.1 in
      record {
        assigns = (record { word = vs.0; is = refl; raws = w.assign h.1; reads = subst (λ l. WordOk deep d l vs.0) h.1 w.ok }, t.2.assigns);
        none = λ f. absurd (clash h.0 f);
        later = t.2.later;
        first = t.2.first;
        begins = λ e. by_assign;
      }
  step_items b l (Some (an.Redirection which)) vs e x =
      let t = two_of x in
      record {
        assigns = t.2.assigns;
        none = t.2.none;
        later = t.2.later;
        first = t.2.first;
        begins = λ e. absurd (cc e);
      }
  step_items b l (Some an.Word) vs e x =
      let t = two_of x in
      record {
        assigns = t.2.assigns;
        none = λ f. t.2.none refl;
        later = λ f. ((l, t.1.ok), t.2.later refl);
        first = λ f. words_behind vs.0 vs.1.0.words t.1.ok (no_assignment b l e f) (t.2.later refl);
        begins = λ f. first_word vs.0 vs.1.0.words vs.1.0.assigns (t.2.none refl) e t.1.ok;
      }
  step_items b l None vs e x = record { assigns = tt; none = λ f. refl; later = λ f. tt; first = λ f. tt; begins = λ f. by_none e }

  -- ---- nodes that are made only where they have two members

  seq_said : {d : ℕ} (x : Command) (xs : List Command) → Fits level.AndOr d x → AllOf (Fits level.AndOr d) xs → Good deep lower d (seq_of (x ∷ xs))
  seq_said {d} x [] p q = good_of deep lower d level.AndOr x p
  seq_said x (y ∷ xs) p q = seq_good deep lower x y xs (p, q)

  pipe_said : {d : ℕ} (at : ℕ) (x : Command) (xs : List Command) → Fits level.Command d x → AllOf (Fits level.Command d) xs → Fits level.PipeSequence d (pipe_of at (x ∷ xs))
  pipe_said at x [] p q = raised level.Command level.PipeSequence x refl p
  pipe_said at x (y ∷ xs) p q = pipe_good deep lower at x y xs (p, q)

  chain_said : {d : ℕ} (x : Command) (ls : List Link) → Fits level.Pipeline d x → AllOf (LinkOk deep lower d) ls → Fits level.AndOr d (chain_of x ls)
  chain_said x [] p q = raised level.Pipeline level.AndOr x refl p
  chain_said x (l ∷ ls) p q = chain_good deep lower x l ls p q

  arm_said : {d : ℕ} (ws : List Word) (x : Command) → NonEmpty ws → AllOf (AWordOk deep d) ws → Scripted deep lower d x → CaseArmOk deep lower d (case_arm ws x)
  arm_said [] x n p q = absurd n
  arm_said (w ∷ ws) x n p q = record { pattern = w; patterns = ws; body = x; is = refl; first = p.0; others = p.1; list = q }

  -- ---- all productions

  step : {d : ℕ} (n : Rule) (l : Look) (vs : Values (production n l).signs) → AllSaid d (production n l).signs l vs → RuleSays n d l ((production n l).tree vs)
  step Script l vs x = let t = three_of x in t.3
  step Body AtEnd vs x = inl refl
  step Body l vs x = inr (one_of x)
  step Newlines l vs x = tt
  step Block l vs x = let t = two_of x in t.2
  step Members l vs x = let t = two_of x in seq_said vs.0 vs.1.0 t.1 t.2
  step More l vs x = step_more l (is_separator l) vs x
  step Behind l vs x = step_behind l (starts l) vs x
  step AndOr l vs x = let t = two_of x in chain_said vs.0 vs.1.0 t.1 t.2
  step Links l vs x = step_links l (link_and l) vs x
  step Pipeline (Keyword Bang) vs x = let t = two_of x in not_good deep lower vs.0 vs.1.0 t.2
  step Pipeline l vs x = raised level.PipeSequence level.Pipeline vs.0 refl (one_of x)
  step Piped l vs x = let t = three_of x in pipe_said vs.0 vs.1.0 vs.1.1.0 t.3 t.4
  step Bars Bar vs x = let t = four_of x in (t.5, t.6)
  step Bars l vs x = tt
  step ACommand l vs x = step_command l (command_form l) vs refl x
  step Compound l vs x = step_compound l (compound_form l) vs x
  step Clause l vs x = let t = four_of x in (tt, (record { cond = vs.0; body = vs.1.1.0; is = refl; good_cond = t.3; good_body = t.5 }, t.6.0), t.6.1)
  step Arms (Keyword Elif) vs x = let t = two_of x in (t.2.1, t.2.2)
  step Arms (Keyword Else) vs x = let t = two_of x in (tt, t.2)
  step Arms l vs x = (tt, tt)
  step Loop l vs x = let t = three_of x in (t.2, t.4)
  step ForRest l vs (one_said m a n (one_said m2 b n2 (one_said m3 w n3 (one_said m4 e n4 (one_said m5 y n5 no_said))))) = (a, w, y)
  step ForName l vs x = step_name l (is_name_word l) vs refl x
  step ForWords (Keyword In) vs x = let t = three_of x in t.3
  step ForWords Semi vs x = tt
  step ForWords l vs x = tt
  step Each l vs x = step_each l (is_word l) vs x
  step Apart l vs x = tt
  step CaseRest l vs (one_said m w n (one_said m2 b n2 (one_said m3 i n3 (one_said m4 e n4 (one_said m5 y n5 no_said))))) = ((l, w.ok), y)
  step CaseArms (Keyword Esac) vs x = tt
  step CaseArms l vs x = let t = two_of x in (t.1, t.2)
  step CaseMore DoubleSemi vs x = let t = three_of x in t.4
  step CaseMore l vs x = tt
  step OneArm LeftParen vs x = let t = two_of x in t.2
  step OneArm l vs x = one_of x
  step ArmRest l vs x = let t = four_of x in arm_said vs.0 vs.1.1.1.0 t.3.0 t.3.1 t.6
  step Patterns l vs x = let t = two_of x in (tt, ((l, t.1.ok), t.2))
  step MorePatterns Bar vs x = let t = three_of x in ((t.0, t.3.ok), t.4)
  step MorePatterns l vs x = tt
  step ArmBody l vs x = step_arm_body l (ends_arm l) vs x
  step Braces l vs x = let t = three_of x in (t.2, t.3)
  step Named LeftParen vs x = let t = four_of x in t.6
  step Named l vs x = (l, one_of x)
  step (SimpleItems b) l vs x = step_items b l (item b l) vs refl x
  step Redirects l vs x = tt

  -- ---- words

  word_said : {d : ℕ} (at : ℕ) (raws : List RawPart) (ps : List Part) → PartsSaid d raws ps → plain_runs_are_longest false raws ≡ true → WordSaid d (word_look raws) (word_at at ps)
  word_said {d} at raws ps s long = record {
    ok = record { parts = s.reads; looks = look_alike s.alike };
    name = name;
    assign = assign;
  } where
    name : is_name_word (word_look raws) ≡ true → looks_so deep (word_text (word_at at ps)) ≡ word_look raws
    name e =
        let n = single raws e in
        let f = s.first n.text n.part [] n.is n.plain in
        ap (λ ps. looks_so deep (word_text (word_at at ps))) f.1 ∙ ap (looks_so deep) (word_text_plain at n.text f.0) ∙ n.looks

    assign : word_look raws ≡ Assignment → assign_raws (assigned (word_at at ps)) ≡ word_raws (word_at at ps)
    assign e =
        let n = assigns raws e in
        let f = s.first n.text n.part n.parts n.is n.plain in
        let alone = not_plain_alike f.2 (not_plain n.text n.part n.parts n.plain (subst (λ raws. plain_runs_are_longest false raws ≡ true) n.is long)) in
        subst (λ ps. assign_raws (assigned (word_at at ps)) ≡ word_raws (word_at at ps)) (sym f.1) (assign_same at n.text f.0 n.begins alone)

  substitution_long : {p : RawPart} {ps : List RawPart} (at : ℕ) (ts : Tokens) (quoted : Bool) → PartsAreLongest (p ∷ ps) → out-RawPart p ≡ o.Run at ts quoted → RunsAreLongest ts × PartsAreLongest ps
  substitution_long at ts quoted (other_part x e m) f = absurd (no_run e f)
  substitution_long at ts quoted (substitution at2 us it e l m) f = (subst RunsAreLongest (runs (sym e ∙ f)).1 l, m)

  plain_long : {p : RawPart} {ps : List RawPart} → PartsAreLongest (p ∷ ps) → PartsAreLongest ps
  plain_long (other_part x e m) = m
  plain_long (substitution at us it e l m) = m

  parts_plain : {d : ℕ} (p : RawPart) (raws : List RawPart) (x : Part) (ps : List Part) → plainly (out-RawPart p) ≡ Some x → PartsSaid d raws ps → PartsSaid d (p ∷ raws) (x ∷ ps)
  parts_plain p raws x ps e s =
      let k = back (out-RawPart p) x e in
      record {
        reads = plain_part (zeroed_part x) (Faultless (map zeroed_part ps)) k.reads s.reads refl;
        alike = alike_more k.same s.alike;
        first = λ w p2 more f g.
            let same : p ≡ p2 = cc in
            let rest : raws ≡ more = cc in
            (ps, ap (λ (x : Part). x ∷ ps) (k.text w (ap out-RawPart same ∙ g)), subst (λ more. Alike more (map raw_of ps)) rest s.alike);
      }

  parts_run : {d : ℕ} (p : RawPart) (raws : List RawPart) (at : ℕ) (ts : Tokens) (quoted : Bool) (body : Command) (ps : List Part) → out-RawPart p ≡ o.Run at ts quoted → deep d ≡ false → Scripted deep lower (suc d) body
      → PartsSaid d raws ps → PartsSaid d (p ∷ raws) (part.Run at body quoted ∷ ps)
  parts_run p raws at ts quoted body ps e g y s =
      let seen = ap out-RawPart (phrase_run at body quoted) ∙ seen_run 0 (phrase body).tokens quoted in
      record {
        reads = run_part 0 (phrase body).tokens quoted (zeroed body) [] (Faultless (map zeroed_part ps)) seen g (script_read deep lower body y) s.reads
            (ap (λ x. Faultless (x ∷ map zeroed_part ps)) (zeroed_run at body quoted));
        alike = alike_more (ap plain_of seen ∙ sym (ap plain_of e)) s.alike;
        first = λ w p2 more f g. let same : p ≡ p2 = cc in absurd (cc (sym e ∙ ap out-RawPart same ∙ g));
      }

  -- ---- all readings

  mutual
    rule_said : {d end : ℕ} {n : Rule} {ts : Tokens} {q : Out (Tree n)} → IsRule deep d end n ts q → (v : Tree n) (r : Tokens) → q ≡ Whole v r → RunsAreLongest ts → RuleSays n d (look ts) v × RunsAreLongest r
    rule_said {d} {end} {n} {ts} (rule q1 x e) v r h long =
        let f = whole_from (production n (look ts)).tree q1 v r (sym e ∙ h) in
        let a = all_said x f.value r f.is_whole long in
        (subst (λ v. RuleSays n d (look ts) v) f.turns (step n (look ts) f.value a.0), a.1)

    all_said : {d end : ℕ} {ss : List Sign} {ts : Tokens} {q : Out (Values ss)} → IsAll deep d end ss ts q → (vs : Values ss) (r : Tokens) → q ≡ Whole vs r → RunsAreLongest ts → AllSaid d ss (look ts) vs × RunsAreLongest r
    all_said (no_more e) vs r h long = (no_said, subst RunsAreLongest (wholes (sym e ∙ h)).1 long)
    all_said {d} {ts = ts} (one_more {s = s} {ss = ss} v0 r0 q1 s0 x e) vs r h long =
        let f = whole_from (λ vs. (v0, vs)) q1 vs r (sym e ∙ h) in
        let a = sign_said s0 v0 r0 refl long in
        let b = all_said x f.value r f.is_whole a.2 in
        (subst (λ vs. AllSaid d (s ∷ ss) (look ts) vs) f.turns (one_said (look r0) a.0 a.1 b.0), b.1)
    all_said (one_stops f r0 s0 e) vs r h long = absurd (not_both (sym (sym e ∙ h)))

    sign_said : {d end : ℕ} {s : Sign} {ts : Tokens} {q : Out (Value s)} → IsSign deep d end s ts q → (v : Value s) (r : Tokens) → q ≡ Whole v r → RunsAreLongest ts → SignSays s d (look ts) v × Next s (look ts) (look r) × RunsAreLongest r
    sign_said {ts = ts} (is k e) v r h long = (tt, tt, subst RunsAreLongest (wholes (sym e ∙ h)).1 (longest_behind ts long))
    sign_said {ts = ts} (opens k g e) v r h long = (g, tt, subst RunsAreLongest (wholes (sym e ∙ h)).1 (longest_behind ts long))
    sign_said {d} {end} {ts = ts} (reads_word raws ps w x e) v r h long =
        let k = wholes (sym e ∙ h) in
        let l = longest_word ts raws long w in
        let s = word_said (place end ts) raws ps (parts_said x ps refl l.1) l.0 in
        (subst (λ v. WordSaid d (look ts) v) k.0 (subst (λ l. WordSaid d l (word_at (place end ts) ps)) (sym (word_looks_so ts raws w)) s), tt, subst RunsAreLongest k.1 (longest_behind ts long))
    sign_said (here e) v r h long = let k = wholes (sym e ∙ h) in (tt, ap look (sym k.1), subst RunsAreLongest k.1 long)
    sign_said (of x) v r h long = let a = rule_said x v r h long in (a.0, tt, a.1)
    sign_said (inside x) v r h long = let a = rule_said x v r h long in (a.0, tt, a.1)
    sign_said (is_not k e) v r h long = absurd (not_both (sym (sym e ∙ h)))
    sign_said (opens_not k e) v r h long = absurd (not_both (sym (sym e ∙ h)))
    sign_said (too_deep k g e) v r h long = absurd (not_both (sym (sym e ∙ h)))
    sign_said (a_word_stops raws f w x e) v r h long = absurd (not_both (sym (sym e ∙ h)))
    sign_said (no_word w e) v r h long = absurd (not_both (sym (sym e ∙ h)))
    sign_said (never e) v r h long = absurd (not_both (sym (sym e ∙ h)))

    parts_said : {d : ℕ} {raws : List RawPart} {q : Judged} → IsParts deep d raws q → (ps : List Part) → q ≡ Faultless ps → PartsAreLongest raws → PartsSaid d raws ps
    parts_said {d} (no_parts e) ps h long = subst (PartsSaid d []) (same_faultless (sym e ∙ h)) (record { reads = no_parts refl; alike = alike_none; first = λ w p more f g. absurd (cc f) })
    parts_said {d} (plain_part {p = p} {ps = raws} x q1 a y e) ps h long =
        let m = faultless_from x q1 ps (sym e ∙ h) in
        subst (PartsSaid d (p ∷ raws)) (sym m.2) (parts_plain p raws x m.0 a (parts_said y m.0 m.1 (plain_long long)))
    parts_said {d} (run_part {p = p} {ps = raws} at ts quoted body rest q1 a g x y e) ps h long =
        let m = faultless_from (part.Run at body quoted) q1 ps (sym e ∙ h) in
        let l = substitution_long at ts quoted long a in
        subst (PartsSaid d (p ∷ raws)) (sym m.2) (parts_run p raws at ts quoted body m.0 a g (rule_said x body rest refl l.0).0 (parts_said y m.0 m.1 l.1))
    parts_said (run_stops at ts b f rest a g x e) ps h long = absurd (cc (sym e ∙ h))
    parts_said (run_deep at ts b a g e) ps h long = absurd (cc (sym e ∙ h))

  -- where tokens are read as a script, the printed tokens are read as it, with every offset 0
  pub printed_read : (end : ℕ) (ts rest : Tokens) (body : Command) → RunsAreLongest ts → IsRule deep 0 end Script ts (Whole body rest) → IsRule deep 0 0 Script (phrase body).tokens (Whole (zeroed body) [])
  printed_read end ts rest body long x = script_read deep lower body (rule_said x body rest refl long).0

-- ---- with the limit of 64 levels

lower_64 : (d : ℕ) → deep_64 (suc d) ≡ false → deep_64 d ≡ false
lower_64 d e = by (leb 64 d) refl where
  by : (b : Bool) → leb 64 d ≡ b → leb 64 d ≡ false
  by true f = absurd (clash e (le-leb 64 (suc d) (let g = leb-true 64 d f in omega arith)))
  by false f = f

pub printed_tokens_spell : PrintedTokensSpellAgain
printed_tokens_spell end other ts us body long s z =
    let x = printed_read deep_64 lower_64 end ts s.rest body long s.reads in
    let again = offsets_do_not_matter 0 other (script_tokens body) us (zeroed body) (record { rest = []; reads = x }) (sym z) in
    (again.0, again.1, again.2 ∙ zeroed_twice body)
