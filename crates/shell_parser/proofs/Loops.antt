-- Steps of `for` and `case`.
use Rattle.std.proofs.Common.{◌≡◌, ℕ, ◌+◌, Result, Ok, Err, true, false, List, [], ◌∷◌, ◌++◌, Option, Some, None, refl, sym, ap, ◌∙◌, subst, drop, append-nil}
use Rattle.shell_grammar.specs.declared.fault.ParseFault.{ParseFault}
use Rattle.shell_grammar.specs.declared.fault.ParseFault.TheVariants.{Syntax}
use Rattle.shell_grammar.specs.declared.look.Look.{Look}
use Rattle.shell_grammar.specs.declared.look.Look.TheVariants.{Semi, DoubleSemi, Bar, LeftParen, RightParen, Keyword}
use Rattle.shell_grammar.specs.declared.look.Reserved.TheVariants.{For, In, Do, Done, Case, Esac}
use Rattle.shell_grammar.specs.declared.form.CompoundForm.TheVariants as compound
use Rattle.shell_syntax.specs.declared.syntax.Command.{Command}
use Rattle.shell_syntax.specs.declared.syntax.Command.TheVariants as c
use Rattle.shell_syntax.specs.declared.syntax.CaseArm.{CaseArm}
use Rattle.shell_syntax.specs.declared.syntax.Word.{Word}
use Rattle.shell_grammar.specs.Look.{Text, Tokens, look, place}
use Rattle.shell_grammar.specs.Forms as form
use Rattle.shell_grammar.specs.Trees as tree
use Rattle.shell_grammar.specs.Grammar as g
use Rattle.shell_grammar.specs.Grammar.{Rule, Sign, Is, Opens, AWord, Here, Never, Of, Inside, Tree, Value, Values, Production, production}
use Rattle.shell_grammar.specs.Reading.{Out, Whole, Stop, turned, IsRule, rule, IsSign, never, of}
use Rattle.shell_grammar.specs.Spelling.{deep_64}
use Rattle.shell_parser.specs.Reads.{Stops, Reads}
use Rattle.shell_parser.specs.Reads.{EachFrom, PatternsFrom, CaseArmsFrom}
use Rattle.shell_parser.proofs.Steps.{list_begins, list_goes, made, ruled, made_stops, rule_stops, more_of, stop_later, stop_here, all_done, there, in_one, passed_on}

bare_words : (l : Look) → (l ≡ Keyword In → ⊥) → (l ≡ Semi → ⊥) → production g.ForWords l ≡ record { signs = []; tree = λ v. None }
bare_words (Keyword In) e f = absurd (e refl)
bare_words Semi e f = absurd (f refl)
bare_words l e f = refl

an_arm : (l : Look) → (l ≡ Keyword Esac → ⊥) → production g.CaseArms l ≡ record { signs = Of g.OneArm ∷ Of g.CaseMore ∷ []; tree = λ v. v.0 ∷ v.1.0 }
an_arm (Keyword Esac) e = absurd (e refl)
an_arm l e = refl

no_more_arms : (l : Look) → (l ≡ DoubleSemi → ⊥) → production g.CaseMore l ≡ record { signs = []; tree = λ v. [] }
no_more_arms DoubleSemi e = absurd (e refl)
no_more_arms l e = refl

plain_arm : (l : Look) → (l ≡ LeftParen → ⊥) → production g.OneArm l ≡ record { signs = Of g.ArmRest ∷ []; tree = λ v. v.0 }
plain_arm LeftParen e = absurd (e refl)
plain_arm l e = refl

no_patterns : (l : Look) → (l ≡ Bar → ⊥) → production g.MorePatterns l ≡ record { signs = []; tree = λ v. [] }
no_patterns Bar e = absurd (e refl)
no_patterns l e = refl

module _ {d end : ℕ} where
  -- ---- `for`

  pub for_ok : {ts r r2 r3 : Tokens} (v v2 n : ℕ) (name : Text) (words : Option (List Word)) (x : Command) → n ≡ v → form.compound_form (look ts) ≡ compound.For → IsSign deep_64 d end (Opens (Keyword For)) ts (Whole v r) → IsRule deep_64 (d + 1) end g.ForRest r (Whole (name, words, x) r2) → IsSign deep_64 d end (Is (Keyword Done)) r2 (Whole v2 r3) → IsRule deep_64 d end g.Compound ts (Whole (c.For n name words x) r3)
  for_ok {ts = ts} {r3 = r3} v v2 n name words x h l o b e = subst (λ n. IsRule deep_64 d end g.Compound ts (Whole (c.For n name words x) r3)) (sym h) (made (g.production_compound compound.For) (ap g.production_compound l) (Whole (v, ((name, words, x), (v2, tt))) r3) (more_of v ((name, words, x), (v2, tt)) o (more_of (name, words, x) (v2, tt) (in_one b) (more_of v2 tt e all_done))))

  pub for_first : {ts r : Tokens} (f : ParseFault) → form.compound_form (look ts) ≡ compound.For → IsSign deep_64 d end (Opens (Keyword For)) ts (Stop f r) → IsRule deep_64 d end g.Compound ts (Stop f r)
  for_first f l o = made_stops (g.production_compound compound.For) (ap g.production_compound l) (stop_here o)

  pub for_body : {ts r r2 : Tokens} (v : ℕ) (f : ParseFault) → form.compound_form (look ts) ≡ compound.For → IsSign deep_64 d end (Opens (Keyword For)) ts (Whole v r) → IsRule deep_64 (d + 1) end g.ForRest r (Stop f r2) → IsRule deep_64 d end g.Compound ts (Stop f r2)
  for_body v f l o b = made_stops (g.production_compound compound.For) (ap g.production_compound l) (stop_later v o (stop_here (in_one b)))

  pub for_last : {ts r r2 r3 : Tokens} (v : ℕ) (w : Text × Option (List Word) × Command) (f : ParseFault) → form.compound_form (look ts) ≡ compound.For → IsSign deep_64 d end (Opens (Keyword For)) ts (Whole v r) → IsRule deep_64 (d + 1) end g.ForRest r (Whole w r2) → IsSign deep_64 d end (Is (Keyword Done)) r2 (Stop f r3) → IsRule deep_64 d end g.Compound ts (Stop f r3)
  for_last v w f l o b e = made_stops (g.production_compound compound.For) (ap g.production_compound l) (stop_later v o (stop_later w (in_one b) (stop_here e)))

  pub rest_ok : {ts r r2 r3 r4 r5 : Tokens} (name : Text) (words : Option (List Word)) (v : ℕ) (x : Command) → IsRule deep_64 d end g.ForName ts (Whole name r) → IsRule deep_64 d end g.Newlines r (Whole tt r2) → IsRule deep_64 d end g.ForWords r2 (Whole words r3) → IsSign deep_64 d end (Is (Keyword Do)) r3 (Whole v r4) → IsRule deep_64 d end g.Block r4 (Whole x r5) → IsRule deep_64 d end g.ForRest ts (Whole (name, words, x) r5)
  rest_ok {r5 = r5} name words v x a n b s m = rule (Whole (name, (tt, (words, (v, (x, tt))))) r5) (more_of name _ (of a) (more_of tt _ (of n) (more_of words (v, (x, tt)) (of b) (more_of v (x, tt) s (more_of x tt (of m) all_done))))) refl

  pub rest_name : {ts r : Tokens} (f : ParseFault) → IsRule deep_64 d end g.ForName ts (Stop f r) → IsRule deep_64 d end g.ForRest ts (Stop f r)
  rest_name {r = r} f a = rule (Stop f r) (stop_here (of a)) refl

  pub rest_words : {ts r r2 r3 : Tokens} (name : Text) (f : ParseFault) → IsRule deep_64 d end g.ForName ts (Whole name r) → IsRule deep_64 d end g.Newlines r (Whole tt r2) → IsRule deep_64 d end g.ForWords r2 (Stop f r3) → IsRule deep_64 d end g.ForRest ts (Stop f r3)
  rest_words {r3 = r3} name f a n b = rule (Stop f r3) (stop_later name (of a) (stop_later tt (of n) (stop_here (of b)))) refl

  pub rest_do : {ts r r2 r3 r4 : Tokens} (name : Text) (words : Option (List Word)) (f : ParseFault) → IsRule deep_64 d end g.ForName ts (Whole name r) → IsRule deep_64 d end g.Newlines r (Whole tt r2) → IsRule deep_64 d end g.ForWords r2 (Whole words r3) → IsSign deep_64 d end (Is (Keyword Do)) r3 (Stop f r4) → IsRule deep_64 d end g.ForRest ts (Stop f r4)
  rest_do {r4 = r4} name words f a n b s = rule (Stop f r4) (stop_later name (of a) (stop_later tt (of n) (stop_later words (of b) (stop_here s)))) refl

  pub rest_body : {ts r r2 r3 r4 r5 : Tokens} (name : Text) (words : Option (List Word)) (v : ℕ) (f : ParseFault) → IsRule deep_64 d end g.ForName ts (Whole name r) → IsRule deep_64 d end g.Newlines r (Whole tt r2) → IsRule deep_64 d end g.ForWords r2 (Whole words r3) → IsSign deep_64 d end (Is (Keyword Do)) r3 (Whole v r4) → IsRule deep_64 d end g.Block r4 (Stop f r5) → IsRule deep_64 d end g.ForRest ts (Stop f r5)
  rest_body {r5 = r5} name words v f a n b s m = rule (Stop f r5) (stop_later name (of a) (stop_later tt (of n) (stop_later words (of b) (stop_later v s (stop_here (of m)))))) refl

  pub name_ok : {ts r : Tokens} (w : Word) (t : Text) → t ≡ tree.word_text w → form.is_name_word (look ts) ≡ true → IsSign deep_64 d end AWord ts (Whole w r) → IsRule deep_64 d end g.ForName ts (Whole t r)
  name_ok {ts = ts} {r = r} w t h e s = subst (λ t. IsRule deep_64 d end g.ForName ts (Whole t r)) (sym h) (made (g.production_name true) (ap g.production_name e) (Whole (w, tt) r) (more_of w tt s all_done))

  pub name_stops : {ts r : Tokens} (f : ParseFault) → form.is_name_word (look ts) ≡ true → IsSign deep_64 d end AWord ts (Stop f r) → IsRule deep_64 d end g.ForName ts (Stop f r)
  name_stops f e s = made_stops (g.production_name true) (ap g.production_name e) (stop_here s)

  pub name_none : (ts : Tokens) (n : ℕ) → form.is_name_word (look ts) ≡ false → n ≡ place end ts → Stops d end g.ForName ts (Syntax n)
  name_none ts n e f = record { rest = ts; reads = made_stops (g.production_name false) (ap g.production_name e) (stop_here (never (ap (λ n. Stop (Syntax n) ts) f))) }

  pub words_ok : (ts : Tokens) (at : ℕ) (r r2 : Tokens) (words : List Word) → look (drop at ts) ≡ Keyword In → IsRule deep_64 d end g.Each (drop (at + 1) ts) (Whole words r) → IsRule deep_64 d end g.Apart r (Whole tt r2) → IsRule deep_64 d end g.ForWords (drop at ts) (Whole (Some words) r2)
  words_ok ts at r r2 words e a b = ruled (Keyword In) e (Whole (place end (drop at ts), (words, (tt, tt))) r2) (more_of _ (words, (tt, tt)) (there ts at e) (more_of words (tt, tt) (of a) (more_of tt tt (of b) all_done)))

  pub words_stops : (ts : Tokens) (at : ℕ) (r : Tokens) (f : ParseFault) → look (drop at ts) ≡ Keyword In → IsRule deep_64 d end g.Each (drop (at + 1) ts) (Stop f r) → IsRule deep_64 d end g.ForWords (drop at ts) (Stop f r)
  words_stops ts at r f e a = rule_stops (Keyword In) e (stop_later _ (there ts at e) (stop_here (of a)))

  pub words_apart : (ts : Tokens) (at : ℕ) (r r2 : Tokens) (words : List Word) (f : ParseFault) → look (drop at ts) ≡ Keyword In → IsRule deep_64 d end g.Each (drop (at + 1) ts) (Whole words r) → IsRule deep_64 d end g.Apart r (Stop f r2) → IsRule deep_64 d end g.ForWords (drop at ts) (Stop f r2)
  words_apart ts at r r2 words f e a b = rule_stops (Keyword In) e (stop_later _ (there ts at e) (stop_later words (of a) (stop_here (of b))))

  pub words_semi : (ts : Tokens) (at : ℕ) (r : Tokens) → look (drop at ts) ≡ Semi → IsRule deep_64 d end g.Newlines (drop (at + 1) ts) (Whole tt r) → IsRule deep_64 d end g.ForWords (drop at ts) (Whole None r)
  words_semi ts at r e n = ruled Semi e (Whole (place end (drop at ts), (tt, tt)) r) (more_of _ (tt, tt) (there ts at e) (more_of tt tt (of n) all_done))

  pub words_none : (ts : Tokens) → (look ts ≡ Keyword In → ⊥) → (look ts ≡ Semi → ⊥) → IsRule deep_64 d end g.ForWords ts (Whole None ts)
  words_none ts e f = made _ (bare_words _ e f) (Whole tt ts) all_done

  pub apart_ok : (ts : Tokens) (at : ℕ) (r : Tokens) → form.is_separator (look (drop at ts)) ≡ true → IsRule deep_64 d end g.Newlines (drop (at + 1) ts) (Whole tt r) → IsRule deep_64 d end g.Apart (drop at ts) (Whole tt r)
  apart_ok ts at r s n = made (g.production_apart (look (drop at ts)) true) (ap (g.production_apart (look (drop at ts))) s) (Whole (place end (drop at ts), (tt, tt)) r) (more_of _ (tt, tt) (there ts at refl) (more_of tt tt (of n) all_done))

  pub apart_none : (ts : Tokens) (n : ℕ) → form.is_separator (look ts) ≡ false → n ≡ place end ts → Stops d end g.Apart ts (Syntax n)
  apart_none ts n s f = record { rest = ts; reads = made_stops (g.production_apart (look ts) false) (ap (g.production_apart (look ts)) s) (stop_here (never (ap (λ n. Stop (Syntax n) ts) f))) }

  -- ---- words of a `for`

  each_by : {ts r : Tokens} (w : Word) (q : Out (List Word)) → form.is_word (look ts) ≡ true → IsSign deep_64 d end AWord ts (Whole w r) → IsRule deep_64 d end g.Each r q → IsRule deep_64 d end g.Each ts (turned (λ us. w ∷ us) q)
  each_by w (Whole us r) e s m = made (g.production_each true) (ap g.production_each e) (Whole (w, (us, tt)) r) (more_of w (us, tt) s (more_of us tt (of m) all_done))
  each_by w (Stop f r) e s m = made_stops (g.production_each true) (ap g.production_each e) (stop_later w s (stop_here (of m)))

  pub each_begins : (all : Tokens) (xs : List Word) → xs ≡ [] → EachFrom d end all all xs
  each_begins all xs e q m = list_begins (IsRule deep_64 d end g.Each all) xs e q m

  pub each_goes : (all ts r : Tokens) (w : Word) (xs ys : List Word) → EachFrom d end all ts xs → form.is_word (look ts) ≡ true → IsSign deep_64 d end AWord ts (Whole w r) → ys ≡ xs ++ w ∷ [] → EachFrom d end all r ys
  each_goes all ts r w xs ys inv e s f q m = list_goes (IsRule deep_64 d end g.Each all) (λ l. l) xs ys w f q (inv (turned (λ us. w ∷ us) q) (each_by w q e s m))

  pub each_stops : (all ts r : Tokens) (f : ParseFault) (xs : List Word) → EachFrom d end all ts xs → form.is_word (look ts) ≡ true → IsSign deep_64 d end AWord ts (Stop f r) → IsRule deep_64 d end g.Each all (Stop f r)
  each_stops all ts r f xs inv e s = inv (Stop f r) (made_stops (g.production_each true) (ap g.production_each e) (stop_here s))

  pub each_end : (all ts : Tokens) (xs : List Word) → EachFrom d end all ts xs → form.is_word (look ts) ≡ false → IsRule deep_64 d end g.Each all (Whole xs ts)
  each_end all ts xs inv e = subst (λ ys. IsRule deep_64 d end g.Each all (Whole ys ts)) (append-nil xs) (inv (Whole [] ts) (made (g.production_each false) (ap g.production_each e) (Whole tt ts) all_done))

  -- ---- `case`

  pub case_ok : {ts r r2 r3 : Tokens} (v v2 n : ℕ) (w : Word) (arms : List CaseArm) → n ≡ v → form.compound_form (look ts) ≡ compound.Case → IsSign deep_64 d end (Opens (Keyword Case)) ts (Whole v r) → IsRule deep_64 (d + 1) end g.CaseRest r (Whole (w, arms) r2) → IsSign deep_64 d end (Is (Keyword Esac)) r2 (Whole v2 r3) → IsRule deep_64 d end g.Compound ts (Whole (c.Case n w arms) r3)
  case_ok {ts = ts} {r3 = r3} v v2 n w arms h l o b e = subst (λ n. IsRule deep_64 d end g.Compound ts (Whole (c.Case n w arms) r3)) (sym h) (made (g.production_compound compound.Case) (ap g.production_compound l) (Whole (v, ((w, arms), (v2, tt))) r3) (more_of v ((w, arms), (v2, tt)) o (more_of (w, arms) (v2, tt) (in_one b) (more_of v2 tt e all_done))))

  pub case_first : {ts r : Tokens} (f : ParseFault) → form.compound_form (look ts) ≡ compound.Case → IsSign deep_64 d end (Opens (Keyword Case)) ts (Stop f r) → IsRule deep_64 d end g.Compound ts (Stop f r)
  case_first f l o = made_stops (g.production_compound compound.Case) (ap g.production_compound l) (stop_here o)

  pub case_body : {ts r r2 : Tokens} (v : ℕ) (f : ParseFault) → form.compound_form (look ts) ≡ compound.Case → IsSign deep_64 d end (Opens (Keyword Case)) ts (Whole v r) → IsRule deep_64 (d + 1) end g.CaseRest r (Stop f r2) → IsRule deep_64 d end g.Compound ts (Stop f r2)
  case_body v f l o b = made_stops (g.production_compound compound.Case) (ap g.production_compound l) (stop_later v o (stop_here (in_one b)))

  pub case_last : {ts r r2 r3 : Tokens} (v : ℕ) (w : Word × List CaseArm) (f : ParseFault) → form.compound_form (look ts) ≡ compound.Case → IsSign deep_64 d end (Opens (Keyword Case)) ts (Whole v r) → IsRule deep_64 (d + 1) end g.CaseRest r (Whole w r2) → IsSign deep_64 d end (Is (Keyword Esac)) r2 (Stop f r3) → IsRule deep_64 d end g.Compound ts (Stop f r3)
  case_last v w f l o b e = made_stops (g.production_compound compound.Case) (ap g.production_compound l) (stop_later v o (stop_later w (in_one b) (stop_here e)))

  pub choice_ok : {ts r r2 r3 r4 r5 : Tokens} (w : Word) (v : ℕ) (arms : List CaseArm) → IsSign deep_64 d end AWord ts (Whole w r) → IsRule deep_64 d end g.Newlines r (Whole tt r2) → IsSign deep_64 d end (Is (Keyword In)) r2 (Whole v r3) → IsRule deep_64 d end g.Newlines r3 (Whole tt r4) → IsRule deep_64 d end g.CaseArms r4 (Whole arms r5) → IsRule deep_64 d end g.CaseRest ts (Whole (w, arms) r5)
  choice_ok {r5 = r5} w v arms a n s n2 m = rule (Whole (w, (tt, (v, (tt, (arms, tt))))) r5) (more_of w _ a (more_of tt _ (of n) (more_of v (tt, (arms, tt)) s (more_of tt (arms, tt) (of n2) (more_of arms tt (of m) all_done))))) refl

  pub choice_word : {ts r : Tokens} (f : ParseFault) → IsSign deep_64 d end AWord ts (Stop f r) → IsRule deep_64 d end g.CaseRest ts (Stop f r)
  choice_word {r = r} f a = rule (Stop f r) (stop_here a) refl

  pub choice_in : {ts r r2 r3 : Tokens} (w : Word) (f : ParseFault) → IsSign deep_64 d end AWord ts (Whole w r) → IsRule deep_64 d end g.Newlines r (Whole tt r2) → IsSign deep_64 d end (Is (Keyword In)) r2 (Stop f r3) → IsRule deep_64 d end g.CaseRest ts (Stop f r3)
  choice_in {r3 = r3} w f a n s = rule (Stop f r3) (stop_later w a (stop_later tt (of n) (stop_here s))) refl

  pub choice_arms : {ts r r2 r3 r4 r5 : Tokens} (w : Word) (v : ℕ) (f : ParseFault) → IsSign deep_64 d end AWord ts (Whole w r) → IsRule deep_64 d end g.Newlines r (Whole tt r2) → IsSign deep_64 d end (Is (Keyword In)) r2 (Whole v r3) → IsRule deep_64 d end g.Newlines r3 (Whole tt r4) → IsRule deep_64 d end g.CaseArms r4 (Stop f r5) → IsRule deep_64 d end g.CaseRest ts (Stop f r5)
  choice_arms {r5 = r5} w v f a n s n2 m = rule (Stop f r5) (stop_later w a (stop_later tt (of n) (stop_later v s (stop_later tt (of n2) (stop_here (of m)))))) refl

  -- ---- arms

  arms_by : {ts r : Tokens} (x : CaseArm) (q : Out (List CaseArm)) → (look ts ≡ Keyword Esac → ⊥) → IsRule deep_64 d end g.OneArm ts (Whole x r) → IsRule deep_64 d end g.CaseMore r q → IsRule deep_64 d end g.CaseArms ts (turned (λ us. x ∷ us) q)
  arms_by x (Whole us r) e a m = made _ (an_arm _ e) (Whole (x, (us, tt)) r) (more_of x (us, tt) (of a) (more_of us tt (of m) all_done))
  arms_by x (Stop f r) e a m = made_stops _ (an_arm _ e) (stop_later x (of a) (stop_here (of m)))

  more_arms : (ts : Tokens) (at : ℕ) (r : Tokens) (q : Out (List CaseArm)) → look (drop at ts) ≡ DoubleSemi → IsRule deep_64 d end g.Newlines (drop (at + 1) ts) (Whole tt r) → IsRule deep_64 d end g.CaseArms r q → IsRule deep_64 d end g.CaseMore (drop at ts) q
  more_arms ts at r (Whole us r2) e n m = ruled DoubleSemi e (Whole (place end (drop at ts), (tt, (us, tt))) r2) (more_of _ (tt, (us, tt)) (there ts at e) (more_of tt (us, tt) (of n) (more_of us tt (of m) all_done)))
  more_arms ts at r (Stop f r2) e n m = rule_stops DoubleSemi e (stop_later _ (there ts at e) (stop_later tt (of n) (stop_here (of m))))

  pub case_arms_begin : (all : Tokens) (xs : List CaseArm) → xs ≡ [] → CaseArmsFrom d end all all xs
  case_arms_begin all xs e q m = list_begins (IsRule deep_64 d end g.CaseArms all) xs e q m

  pub case_arms_go : (all now ts : Tokens) (at : ℕ) (r : Tokens) (x : CaseArm) (xs ys : List CaseArm) → CaseArmsFrom d end all now xs → (look now ≡ Keyword Esac → ⊥) → IsRule deep_64 d end g.OneArm now (Whole x (drop at ts)) → look (drop at ts) ≡ DoubleSemi → IsRule deep_64 d end g.Newlines (drop (at + 1) ts) (Whole tt r) → ys ≡ xs ++ x ∷ [] → CaseArmsFrom d end all r ys
  case_arms_go all now ts at r x xs ys inv e a s n f q m = list_goes (IsRule deep_64 d end g.CaseArms all) (λ l. l) xs ys x f q (inv (turned (λ us. x ∷ us) q) (arms_by x q e a (more_arms ts at r q s n m)))

  pub case_arms_stop : (all now r : Tokens) (f : ParseFault) (xs : List CaseArm) → CaseArmsFrom d end all now xs → (look now ≡ Keyword Esac → ⊥) → IsRule deep_64 d end g.OneArm now (Stop f r) → IsRule deep_64 d end g.CaseArms all (Stop f r)
  case_arms_stop all now r f xs inv e a = inv (Stop f r) (made_stops _ (an_arm _ e) (stop_here (of a)))

  pub case_arms_last : (all now r : Tokens) (x : CaseArm) (xs ys : List CaseArm) → CaseArmsFrom d end all now xs → (look now ≡ Keyword Esac → ⊥) → IsRule deep_64 d end g.OneArm now (Whole x r) → (look r ≡ DoubleSemi → ⊥) → ys ≡ xs ++ x ∷ [] → IsRule deep_64 d end g.CaseArms all (Whole ys r)
  case_arms_last all now r x xs ys inv e a s f = subst (λ ys. IsRule deep_64 d end g.CaseArms all (Whole ys r)) (sym f) (inv (Whole (x ∷ []) r) (arms_by x (Whole [] r) e a (made _ (no_more_arms _ s) (Whole tt r) all_done)))

  pub case_arms_end : (all ts : Tokens) (xs : List CaseArm) → CaseArmsFrom d end all ts xs → look ts ≡ Keyword Esac → IsRule deep_64 d end g.CaseArms all (Whole xs ts)
  case_arms_end all ts xs inv e = subst (λ ys. IsRule deep_64 d end g.CaseArms all (Whole ys ts)) (append-nil xs) (inv (Whole [] ts) (ruled (Keyword Esac) e (Whole tt ts) all_done))

  -- ---- one arm

  pub arm_paren : (ts : Tokens) (at : ℕ) → look (drop at ts) ≡ LeftParen → (q : Out CaseArm) → IsRule deep_64 d end g.ArmRest (drop (at + 1) ts) q → IsRule deep_64 d end g.OneArm (drop at ts) q
  arm_paren ts at e (Whole x r) m = ruled LeftParen e (Whole (place end (drop at ts), (x, tt)) r) (more_of _ (x, tt) (there ts at e) (more_of x tt (of m) all_done))
  arm_paren ts at e (Stop f r) m = rule_stops LeftParen e (stop_later _ (there ts at e) (stop_here (of m)))

  pub arm_plain : (ts : Tokens) → (look ts ≡ LeftParen → ⊥) → (q : Out CaseArm) → IsRule deep_64 d end g.ArmRest ts q → IsRule deep_64 d end g.OneArm ts q
  arm_plain ts e (Whole x r) m = made _ (plain_arm _ e) (Whole (x, tt) r) (more_of x tt (of m) all_done)
  arm_plain ts e (Stop f r) m = made_stops _ (plain_arm _ e) (stop_here (of m))

  pub case_arm_ok : {ts r r2 r3 r4 : Tokens} (ps : List Word) (v : ℕ) (x : Command) (a : CaseArm) → a ≡ tree.case_arm ps x → IsRule deep_64 d end g.Patterns ts (Whole ps r) → IsSign deep_64 d end (Is RightParen) r (Whole v r2) → IsRule deep_64 d end g.Newlines r2 (Whole tt r3) → IsRule deep_64 d end g.ArmBody r3 (Whole x r4) → IsRule deep_64 d end g.ArmRest ts (Whole a r4)
  case_arm_ok {ts = ts} {r4 = r4} ps v x a h b s n m = subst (λ a. IsRule deep_64 d end g.ArmRest ts (Whole a r4)) (sym h) (rule (Whole (ps, (v, (tt, (x, tt)))) r4) (more_of ps (v, (tt, (x, tt))) (of b) (more_of v (tt, (x, tt)) s (more_of tt (x, tt) (of n) (more_of x tt (of m) all_done)))) refl)

  pub case_arm_patterns : {ts r : Tokens} (f : ParseFault) → IsRule deep_64 d end g.Patterns ts (Stop f r) → IsRule deep_64 d end g.ArmRest ts (Stop f r)
  case_arm_patterns {r = r} f b = rule (Stop f r) (stop_here (of b)) refl

  pub case_arm_close : {ts r r2 : Tokens} (ps : List Word) (f : ParseFault) → IsRule deep_64 d end g.Patterns ts (Whole ps r) → IsSign deep_64 d end (Is RightParen) r (Stop f r2) → IsRule deep_64 d end g.ArmRest ts (Stop f r2)
  case_arm_close {r2 = r2} ps f b s = rule (Stop f r2) (stop_later ps (of b) (stop_here s)) refl

  pub case_arm_body : {ts r r2 r3 r4 : Tokens} (ps : List Word) (v : ℕ) (f : ParseFault) → IsRule deep_64 d end g.Patterns ts (Whole ps r) → IsSign deep_64 d end (Is RightParen) r (Whole v r2) → IsRule deep_64 d end g.Newlines r2 (Whole tt r3) → IsRule deep_64 d end g.ArmBody r3 (Stop f r4) → IsRule deep_64 d end g.ArmRest ts (Stop f r4)
  case_arm_body {r4 = r4} ps v f b s n m = rule (Stop f r4) (stop_later ps (of b) (stop_later v s (stop_later tt (of n) (stop_here (of m))))) refl

  patterns_first : {ts r : Tokens} (w : Word) (q : Out (List Word)) → IsSign deep_64 d end AWord ts (Whole w r) → IsRule deep_64 d end g.MorePatterns r q → IsRule deep_64 d end g.Patterns ts (turned (λ us. w ∷ us) q)
  patterns_first w (Whole us r2) a m = rule (Whole (w, (us, tt)) r2) (more_of w (us, tt) a (more_of us tt (of m) all_done)) refl
  patterns_first w (Stop f r2) a m = rule (Stop f r2) (stop_later w a (stop_here (of m))) refl

  patterns_by : (ts : Tokens) (at : ℕ) (r : Tokens) (w : Word) (q : Out (List Word)) → look (drop at ts) ≡ Bar → IsSign deep_64 d end AWord (drop (at + 1) ts) (Whole w r) → IsRule deep_64 d end g.MorePatterns r q → IsRule deep_64 d end g.MorePatterns (drop at ts) (turned (λ us. w ∷ us) q)
  patterns_by ts at r w (Whole us r2) e a m = ruled Bar e (Whole (place end (drop at ts), (w, (us, tt))) r2) (more_of _ (w, (us, tt)) (there ts at e) (more_of w (us, tt) a (more_of us tt (of m) all_done)))
  patterns_by ts at r w (Stop f r2) e a m = rule_stops Bar e (stop_later _ (there ts at e) (stop_later w a (stop_here (of m))))

  pub patterns_begin : (all r : Tokens) (w : Word) (none xs : List Word) → none ≡ [] → xs ≡ none ++ w ∷ [] → IsSign deep_64 d end AWord all (Whole w r) → PatternsFrom d end all r xs
  patterns_begin all r w none xs e f a q m = subst (λ xs. IsRule deep_64 d end g.Patterns all (turned (λ us. xs ++ us) q)) (sym (f ∙ ap (λ l. l ++ w ∷ []) e)) (patterns_first w q a m)

  pub patterns_stop : {ts r : Tokens} (f : ParseFault) → IsSign deep_64 d end AWord ts (Stop f r) → IsRule deep_64 d end g.Patterns ts (Stop f r)
  patterns_stop {r = r} f a = rule (Stop f r) (stop_here a) refl

  pub patterns_go : (all ts : Tokens) (at : ℕ) (r : Tokens) (w : Word) (xs ys : List Word) → PatternsFrom d end all (drop at ts) xs → look (drop at ts) ≡ Bar → IsSign deep_64 d end AWord (drop (at + 1) ts) (Whole w r) → ys ≡ xs ++ w ∷ [] → PatternsFrom d end all r ys
  patterns_go all ts at r w xs ys inv e a f q m = list_goes (IsRule deep_64 d end g.Patterns all) (λ l. l) xs ys w f q (inv (turned (λ us. w ∷ us) q) (patterns_by ts at r w q e a m))

  pub patterns_stops : (all ts : Tokens) (at : ℕ) (r : Tokens) (f : ParseFault) (xs : List Word) → PatternsFrom d end all (drop at ts) xs → look (drop at ts) ≡ Bar → IsSign deep_64 d end AWord (drop (at + 1) ts) (Stop f r) → IsRule deep_64 d end g.Patterns all (Stop f r)
  patterns_stops all ts at r f xs inv e a = inv (Stop f r) (rule_stops Bar e (stop_later _ (there ts at e) (stop_here a)))

  pub patterns_end : (all ts : Tokens) (xs : List Word) → PatternsFrom d end all ts xs → (look ts ≡ Bar → ⊥) → IsRule deep_64 d end g.Patterns all (Whole xs ts)
  patterns_end all ts xs inv e = subst (λ ys. IsRule deep_64 d end g.Patterns all (Whole ys ts)) (append-nil xs) (inv (Whole [] ts) (made _ (no_patterns _ e) (Whole tt ts) all_done))

  pub arm_body_none : {ts : Tokens} (xs : List Command) (t : Command) → xs ≡ [] → t ≡ tree.seq_of xs → form.ends_arm (look ts) ≡ true → IsRule deep_64 d end g.ArmBody ts (Whole t ts)
  arm_body_none {ts} xs t f h e = subst (λ t. IsRule deep_64 d end g.ArmBody ts (Whole t ts)) (ap tree.seq_of (sym f) ∙ sym h) (made (g.production_arm_body true) (ap g.production_arm_body e) (Whole tt ts) all_done)

  arm_body_ok : {ts r : Tokens} (x : Command) → form.ends_arm (look ts) ≡ false → IsRule deep_64 d end g.Members ts (Whole x r) → IsRule deep_64 d end g.ArmBody ts (Whole x r)
  arm_body_ok {r = r} x e m = made (g.production_arm_body false) (ap g.production_arm_body e) (Whole (x, tt) r) (more_of x tt (of m) all_done)

  arm_body_stops : {ts r : Tokens} (f : ParseFault) → form.ends_arm (look ts) ≡ false → IsRule deep_64 d end g.Members ts (Stop f r) → IsRule deep_64 d end g.ArmBody ts (Stop f r)
  arm_body_stops f e m = made_stops (g.production_arm_body false) (ap g.production_arm_body e) (stop_here (of m))

-- ---- what is read as what one of its signs is read as, with either outcome

-- the body of an arm that has one is read as a list
pub arm_body_reads : (d end : ℕ) (ts : Tokens) (at : ℕ) (result : Result (Command × ℕ) ParseFault) → form.ends_arm (look (drop at ts)) ≡ false → Reads d end g.Members ts at result → Reads d end g.ArmBody ts at result
arm_body_reads d end ts at (Ok v) e x = (x.0, x.1, arm_body_ok v.0 e x.2)
arm_body_reads d end ts at (Err fault) e x = passed_on (λ f r x. arm_body_stops f e x) fault x
