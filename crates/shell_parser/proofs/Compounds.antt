-- Steps of commands, groups, `if` and loops with a condition.
use Rattle.std.proofs.Common.{◌≡◌, ℕ, ◌+◌, Result, Ok, Err, Bool, List, [], ◌∷◌, ◌++◌, Option, Some, None, refl, sym, ap, ◌∙◌, subst, drop, append-nil, append_assoc}
use Rattle.shell_grammar.specs.declared.fault.ParseFault.{ParseFault}
use Rattle.shell_grammar.specs.declared.fault.ParseFault.TheVariants.{Syntax}
use Rattle.shell_grammar.specs.declared.look.Look.{Look}
use Rattle.shell_grammar.specs.declared.look.Look.TheVariants.{LeftParen, RightParen, Keyword}
use Rattle.shell_grammar.specs.declared.look.Reserved.TheVariants.{Open, Close, If, Then, Elif, Else, Fi, Do, Done}
use Rattle.shell_grammar.specs.declared.form.CommandForm.TheVariants as command
use Rattle.shell_grammar.specs.declared.form.CompoundForm.TheVariants as compound
use Rattle.shell_syntax.specs.declared.syntax.Command.{Command}
use Rattle.shell_syntax.specs.declared.syntax.Command.TheVariants as c
use Rattle.shell_syntax.specs.declared.syntax.IfArm.{IfArm}
use Rattle.shell_syntax.specs.declared.redirect.Redirect.{Redirect}
use Rattle.shell_grammar.specs.Look.{Tokens, look, place}
use Rattle.shell_grammar.specs.Forms as form
use Rattle.shell_grammar.specs.Trees as tree
use Rattle.shell_grammar.specs.Grammar as g
use Rattle.shell_grammar.specs.Grammar.{Rule, Sign, Is, Opens, AWord, Here, Never, Of, Inside, Tree, Value, Values, Production, production}
use Rattle.shell_grammar.specs.Reading.{Out, Whole, Stop, turned, IsRule, rule, IsSign, here, never, of}
use Rattle.shell_grammar.specs.Spelling.{deep_64}
use Rattle.shell_parser.specs.Reads.{Stops, Reads}
use Rattle.shell_parser.specs.Reads.{ArmsFrom, armed}
use Rattle.shell_parser.proofs.Steps.{made, ruled, made_stops, rule_stops, more_of, stop_later, stop_here, all_done, there, in_one, passed_on}

moved_arms : (xs : List IfArm) (x : IfArm) (q : Out (List IfArm × Option Command)) → turned (armed xs) (turned (armed (x ∷ [])) q) ≡ turned (armed (xs ++ x ∷ [])) q
moved_arms xs x (Whole us r) = ap (λ l. Whole (l, us.1) r) (sym (append_assoc xs (x ∷ []) us.0))
moved_arms xs x (Stop f r) = refl

no_arms : (l : Look) → (l ≡ Keyword Elif → ⊥) → (l ≡ Keyword Else → ⊥) → production g.Arms l ≡ record { signs = []; tree = λ v. ([], None) }
no_arms (Keyword Elif) e f = absurd (e refl)
no_arms (Keyword Else) e f = absurd (f refl)
no_arms l e f = refl

module _ {d end : ℕ} where
  -- ---- commands

  pub command_none : (ts : Tokens) (n : ℕ) → form.command_form (look ts) ≡ None → n ≡ place end ts → Stops d end g.ACommand ts (Syntax n)
  command_none ts n e f = record { rest = ts; reads = made_stops (g.production_command None) (ap g.production_command e) (stop_here (never (ap (λ n. Stop (Syntax n) ts) f))) }

  pub command_compound : {ts r r2 : Tokens} (x : Command) (rs : List Redirect) (n : ℕ) (t : Command) → n ≡ place end ts → t ≡ tree.redirected n x rs → form.command_form (look ts) ≡ Some command.Compound → IsRule deep_64 d end g.Compound ts (Whole x r) → IsRule deep_64 d end g.Redirects r (Whole rs r2) → IsRule deep_64 d end g.ACommand ts (Whole t r2)
  command_compound {ts = ts} {r2 = r2} x rs n t h k e a b = subst (λ t. IsRule deep_64 d end g.ACommand ts (Whole t r2)) (ap (λ n. tree.redirected n x rs) (sym h) ∙ sym k) (made (g.production_command (Some command.Compound)) (ap g.production_command e) (Whole (place end ts, (x, (rs, tt))) r2) (more_of _ (x, (rs, tt)) (here refl) (more_of x (rs, tt) (of a) (more_of rs tt (of b) all_done))))

  pub command_stops : {ts r : Tokens} (f : ParseFault) → form.command_form (look ts) ≡ Some command.Compound → IsRule deep_64 d end g.Compound ts (Stop f r) → IsRule deep_64 d end g.ACommand ts (Stop f r)
  command_stops {ts = ts} f e a = made_stops (g.production_command (Some command.Compound)) (ap g.production_command e) (stop_later (place end ts) (here refl) (stop_here (of a)))

  pub command_stops_later : {ts r r2 : Tokens} (x : Command) (f : ParseFault) → form.command_form (look ts) ≡ Some command.Compound → IsRule deep_64 d end g.Compound ts (Whole x r) → IsRule deep_64 d end g.Redirects r (Stop f r2) → IsRule deep_64 d end g.ACommand ts (Stop f r2)
  command_stops_later {ts = ts} x f e a b = made_stops (g.production_command (Some command.Compound)) (ap g.production_command e) (stop_later (place end ts) (here refl) (stop_later x (of a) (stop_here (of b))))

  -- ---- `{ }` and `( )`

  pub braces_ok : {ts r r2 r3 : Tokens} (v v2 : ℕ) (x : Command) → IsSign deep_64 d end (Opens (Keyword Open)) ts (Whole v r) → IsRule deep_64 (d + 1) end g.Block r (Whole x r2) → IsSign deep_64 d end (Is (Keyword Close)) r2 (Whole v2 r3) → IsRule deep_64 d end g.Braces ts (Whole x r3)
  braces_ok {r3 = r3} v v2 x o b e = rule (Whole (v, (x, (v2, tt))) r3) (more_of v (x, (v2, tt)) o (more_of x (v2, tt) (in_one b) (more_of v2 tt e all_done))) refl

  pub braces_first : {ts r : Tokens} (f : ParseFault) → IsSign deep_64 d end (Opens (Keyword Open)) ts (Stop f r) → IsRule deep_64 d end g.Braces ts (Stop f r)
  braces_first {r = r} f o = rule (Stop f r) (stop_here o) refl

  pub braces_body : {ts r r2 : Tokens} (v : ℕ) (f : ParseFault) → IsSign deep_64 d end (Opens (Keyword Open)) ts (Whole v r) → IsRule deep_64 (d + 1) end g.Block r (Stop f r2) → IsRule deep_64 d end g.Braces ts (Stop f r2)
  braces_body {r2 = r2} v f o b = rule (Stop f r2) (stop_later v o (stop_here (in_one b))) refl

  pub braces_last : {ts r r2 r3 : Tokens} (v : ℕ) (x : Command) (f : ParseFault) → IsSign deep_64 d end (Opens (Keyword Open)) ts (Whole v r) → IsRule deep_64 (d + 1) end g.Block r (Whole x r2) → IsSign deep_64 d end (Is (Keyword Close)) r2 (Stop f r3) → IsRule deep_64 d end g.Braces ts (Stop f r3)
  braces_last {r3 = r3} v x f o b e = rule (Stop f r3) (stop_later v o (stop_later x (in_one b) (stop_here e))) refl

  group_ok : {ts r : Tokens} (x : Command) → form.compound_form (look ts) ≡ compound.Braces → IsRule deep_64 d end g.Braces ts (Whole x r) → IsRule deep_64 d end g.Compound ts (Whole x r)
  group_ok {r = r} x e b = made (g.production_compound compound.Braces) (ap g.production_compound e) (Whole (x, tt) r) (more_of x tt (of b) all_done)

  group_stops : {ts r : Tokens} (f : ParseFault) → form.compound_form (look ts) ≡ compound.Braces → IsRule deep_64 d end g.Braces ts (Stop f r) → IsRule deep_64 d end g.Compound ts (Stop f r)
  group_stops f e b = made_stops (g.production_compound compound.Braces) (ap g.production_compound e) (stop_here (of b))

  pub subshell_ok : {ts r r2 r3 : Tokens} (v v2 : ℕ) (x : Command) (n : ℕ) → n ≡ v → form.compound_form (look ts) ≡ compound.Subshell → IsSign deep_64 d end (Opens LeftParen) ts (Whole v r) → IsRule deep_64 (d + 1) end g.Block r (Whole x r2) → IsSign deep_64 d end (Is RightParen) r2 (Whole v2 r3) → IsRule deep_64 d end g.Compound ts (Whole (c.Sub n x) r3)
  subshell_ok {ts = ts} {r3 = r3} v v2 x n h l o b e = subst (λ n. IsRule deep_64 d end g.Compound ts (Whole (c.Sub n x) r3)) (sym h) (made (g.production_compound compound.Subshell) (ap g.production_compound l) (Whole (v, (x, (v2, tt))) r3) (more_of v (x, (v2, tt)) o (more_of x (v2, tt) (in_one b) (more_of v2 tt e all_done))))

  pub subshell_first : {ts r : Tokens} (f : ParseFault) → form.compound_form (look ts) ≡ compound.Subshell → IsSign deep_64 d end (Opens LeftParen) ts (Stop f r) → IsRule deep_64 d end g.Compound ts (Stop f r)
  subshell_first f l o = made_stops (g.production_compound compound.Subshell) (ap g.production_compound l) (stop_here o)

  pub subshell_body : {ts r r2 : Tokens} (v : ℕ) (f : ParseFault) → form.compound_form (look ts) ≡ compound.Subshell → IsSign deep_64 d end (Opens LeftParen) ts (Whole v r) → IsRule deep_64 (d + 1) end g.Block r (Stop f r2) → IsRule deep_64 d end g.Compound ts (Stop f r2)
  subshell_body v f l o b = made_stops (g.production_compound compound.Subshell) (ap g.production_compound l) (stop_later v o (stop_here (in_one b)))

  pub subshell_last : {ts r r2 r3 : Tokens} (v : ℕ) (x : Command) (f : ParseFault) → form.compound_form (look ts) ≡ compound.Subshell → IsSign deep_64 d end (Opens LeftParen) ts (Whole v r) → IsRule deep_64 (d + 1) end g.Block r (Whole x r2) → IsSign deep_64 d end (Is RightParen) r2 (Stop f r3) → IsRule deep_64 d end g.Compound ts (Stop f r3)
  subshell_last v x f l o b e = made_stops (g.production_compound compound.Subshell) (ap g.production_compound l) (stop_later v o (stop_later x (in_one b) (stop_here e)))

  -- ---- `if`

  pub arm_ok : {ts r r2 r3 : Tokens} (x y : Command) (a : IfArm) (v : ℕ) → a ≡ tree.if_arm x y → IsRule deep_64 d end g.Block ts (Whole x r) → IsSign deep_64 d end (Is (Keyword Then)) r (Whole v r2) → IsRule deep_64 d end g.Block r2 (Whole y r3) → ArmsFrom d end ts r3 (a ∷ [])
  arm_ok {ts = ts} x y a v e b s b2 (Whole w r4) m = subst (λ a. IsRule deep_64 d end g.Clause ts (Whole (a ∷ w.0, w.1) r4)) (sym e) (rule (Whole (x, (v, (y, (w, tt)))) r4) (more_of x (v, (y, (w, tt))) (of b) (more_of v (y, (w, tt)) s (more_of y (w, tt) (of b2) (more_of w tt (of m) all_done)))) refl)
  arm_ok x y a v e b s b2 (Stop f r4) m = rule (Stop f r4) (stop_later x (of b) (stop_later v s (stop_later y (of b2) (stop_here (of m))))) refl

  pub arm_cond : {ts r : Tokens} (f : ParseFault) → IsRule deep_64 d end g.Block ts (Stop f r) → IsRule deep_64 d end g.Clause ts (Stop f r)
  arm_cond {r = r} f a = rule (Stop f r) (stop_here (of a)) refl

  pub arm_then : {ts r r2 : Tokens} (x : Command) (f : ParseFault) → IsRule deep_64 d end g.Block ts (Whole x r) → IsSign deep_64 d end (Is (Keyword Then)) r (Stop f r2) → IsRule deep_64 d end g.Clause ts (Stop f r2)
  arm_then {r2 = r2} x f a s = rule (Stop f r2) (stop_later x (of a) (stop_here s)) refl

  pub arm_body : {ts r r2 r3 : Tokens} (x : Command) (v : ℕ) (f : ParseFault) → IsRule deep_64 d end g.Block ts (Whole x r) → IsSign deep_64 d end (Is (Keyword Then)) r (Whole v r2) → IsRule deep_64 d end g.Block r2 (Stop f r3) → IsRule deep_64 d end g.Clause ts (Stop f r3)
  arm_body {r3 = r3} x v f a s b = rule (Stop f r3) (stop_later x (of a) (stop_later v s (stop_here (of b)))) refl

  pub arms_begin : (all r : Tokens) (x : IfArm) (none xs : List IfArm) → none ≡ [] → xs ≡ none ++ x ∷ [] → ArmsFrom d end all r (x ∷ []) → ArmsFrom d end all r xs
  arms_begin all r x none xs e f a = subst (ArmsFrom d end all r) (sym (f ∙ ap (λ l. l ++ x ∷ []) e)) a

  arms_elif : (ts : Tokens) (q : Out (List IfArm × Option Command)) (at : ℕ) → look (drop at ts) ≡ Keyword Elif → IsRule deep_64 d end g.Clause (drop (at + 1) ts) q → IsRule deep_64 d end g.Arms (drop at ts) q
  arms_elif ts (Whole w r2) at e m = ruled (Keyword Elif) e (Whole (place end (drop at ts), (w, tt)) r2) (more_of _ (w, tt) (there ts at e) (more_of w tt (of m) all_done))
  arms_elif ts (Stop f r2) at e m = rule_stops (Keyword Elif) e (stop_later _ (there ts at e) (stop_here (of m)))

  pub arms_goes : (all ts : Tokens) (at : ℕ) (r : Tokens) (x : IfArm) (xs ys : List IfArm) → ArmsFrom d end all (drop at ts) xs → look (drop at ts) ≡ Keyword Elif → ArmsFrom d end (drop (at + 1) ts) r (x ∷ []) → ys ≡ xs ++ x ∷ [] → ArmsFrom d end all r ys
  arms_goes all ts at r x xs ys inv e a f q m =
      subst (λ ys. IsRule deep_64 d end g.Clause all (turned (armed ys) q)) (sym f)
      (subst (IsRule deep_64 d end g.Clause all) (moved_arms xs x q) (inv (turned (armed (x ∷ [])) q) (arms_elif ts _ at e (a q m))))

  pub arms_stops : (all ts : Tokens) (at : ℕ) (r : Tokens) (f : ParseFault) (xs : List IfArm) → ArmsFrom d end all (drop at ts) xs → look (drop at ts) ≡ Keyword Elif → IsRule deep_64 d end g.Clause (drop (at + 1) ts) (Stop f r) → IsRule deep_64 d end g.Clause all (Stop f r)
  arms_stops all ts at r f xs inv e a = inv (Stop f r) (arms_elif ts (Stop f r) at e a)

  pub clause_else : (all ts : Tokens) (at : ℕ) (r : Tokens) (x : Command) (xs : List IfArm) → ArmsFrom d end all (drop at ts) xs → look (drop at ts) ≡ Keyword Else → IsRule deep_64 d end g.Block (drop (at + 1) ts) (Whole x r) → IsRule deep_64 d end g.Clause all (Whole (xs, Some x) r)
  clause_else all ts at r x xs inv e m = subst (λ l. IsRule deep_64 d end g.Clause all (Whole (l, Some x) r)) (append-nil xs) (inv (Whole ([], Some x) r) (ruled (Keyword Else) e (Whole (place end (drop at ts), (x, tt)) r) (more_of _ (x, tt) (there ts at e) (more_of x tt (of m) all_done))))

  pub clause_bad : (all ts : Tokens) (at : ℕ) (r : Tokens) (f : ParseFault) (xs : List IfArm) → ArmsFrom d end all (drop at ts) xs → look (drop at ts) ≡ Keyword Else → IsRule deep_64 d end g.Block (drop (at + 1) ts) (Stop f r) → IsRule deep_64 d end g.Clause all (Stop f r)
  clause_bad all ts at r f xs inv e m = inv (Stop f r) (rule_stops (Keyword Else) e (stop_later _ (there ts at e) (stop_here (of m))))

  pub clause_end : (all ts : Tokens) (xs : List IfArm) → ArmsFrom d end all ts xs → (look ts ≡ Keyword Elif → ⊥) → (look ts ≡ Keyword Else → ⊥) → IsRule deep_64 d end g.Clause all (Whole (xs, None) ts)
  clause_end all ts xs inv e f = subst (λ l. IsRule deep_64 d end g.Clause all (Whole (l, None) ts)) (append-nil xs) (inv (Whole ([], None) ts) (made _ (no_arms _ e f) (Whole tt ts) all_done))

  pub if_ok : {ts r r2 r3 : Tokens} (v v2 n : ℕ) (arms : List IfArm) (otherwise : Option Command) → n ≡ v → form.compound_form (look ts) ≡ compound.If → IsSign deep_64 d end (Opens (Keyword If)) ts (Whole v r) → IsRule deep_64 (d + 1) end g.Clause r (Whole (arms, otherwise) r2) → IsSign deep_64 d end (Is (Keyword Fi)) r2 (Whole v2 r3) → IsRule deep_64 d end g.Compound ts (Whole (c.If n arms otherwise) r3)
  if_ok {ts = ts} {r3 = r3} v v2 n arms otherwise h l o b e = subst (λ n. IsRule deep_64 d end g.Compound ts (Whole (c.If n arms otherwise) r3)) (sym h) (made (g.production_compound compound.If) (ap g.production_compound l) (Whole (v, ((arms, otherwise), (v2, tt))) r3) (more_of v ((arms, otherwise), (v2, tt)) o (more_of (arms, otherwise) (v2, tt) (in_one b) (more_of v2 tt e all_done))))

  pub if_first : {ts r : Tokens} (f : ParseFault) → form.compound_form (look ts) ≡ compound.If → IsSign deep_64 d end (Opens (Keyword If)) ts (Stop f r) → IsRule deep_64 d end g.Compound ts (Stop f r)
  if_first f l o = made_stops (g.production_compound compound.If) (ap g.production_compound l) (stop_here o)

  pub if_body : {ts r r2 : Tokens} (v : ℕ) (f : ParseFault) → form.compound_form (look ts) ≡ compound.If → IsSign deep_64 d end (Opens (Keyword If)) ts (Whole v r) → IsRule deep_64 (d + 1) end g.Clause r (Stop f r2) → IsRule deep_64 d end g.Compound ts (Stop f r2)
  if_body v f l o b = made_stops (g.production_compound compound.If) (ap g.production_compound l) (stop_later v o (stop_here (in_one b)))

  pub if_last : {ts r r2 r3 : Tokens} (v : ℕ) (w : List IfArm × Option Command) (f : ParseFault) → form.compound_form (look ts) ≡ compound.If → IsSign deep_64 d end (Opens (Keyword If)) ts (Whole v r) → IsRule deep_64 (d + 1) end g.Clause r (Whole w r2) → IsSign deep_64 d end (Is (Keyword Fi)) r2 (Stop f r3) → IsRule deep_64 d end g.Compound ts (Stop f r3)
  if_last v w f l o b e = made_stops (g.production_compound compound.If) (ap g.production_compound l) (stop_later v o (stop_later w (in_one b) (stop_here e)))

  -- ---- `while` and `until`

  pub turn_ok : {ts r r2 r3 : Tokens} (x y : Command) (v : ℕ) → IsRule deep_64 d end g.Block ts (Whole x r) → IsSign deep_64 d end (Is (Keyword Do)) r (Whole v r2) → IsRule deep_64 d end g.Block r2 (Whole y r3) → IsRule deep_64 d end g.Loop ts (Whole (x, y) r3)
  turn_ok {r3 = r3} x y v a s b = rule (Whole (x, (v, (y, tt))) r3) (more_of x (v, (y, tt)) (of a) (more_of v (y, tt) s (more_of y tt (of b) all_done))) refl

  pub turn_cond : {ts r : Tokens} (f : ParseFault) → IsRule deep_64 d end g.Block ts (Stop f r) → IsRule deep_64 d end g.Loop ts (Stop f r)
  turn_cond {r = r} f a = rule (Stop f r) (stop_here (of a)) refl

  pub turn_do : {ts r r2 : Tokens} (x : Command) (f : ParseFault) → IsRule deep_64 d end g.Block ts (Whole x r) → IsSign deep_64 d end (Is (Keyword Do)) r (Stop f r2) → IsRule deep_64 d end g.Loop ts (Stop f r2)
  turn_do {r2 = r2} x f a s = rule (Stop f r2) (stop_later x (of a) (stop_here s)) refl

  pub turn_body : {ts r r2 r3 : Tokens} (x : Command) (v : ℕ) (f : ParseFault) → IsRule deep_64 d end g.Block ts (Whole x r) → IsSign deep_64 d end (Is (Keyword Do)) r (Whole v r2) → IsRule deep_64 d end g.Block r2 (Stop f r3) → IsRule deep_64 d end g.Loop ts (Stop f r3)
  turn_body {r3 = r3} x v f a s b = rule (Stop f r3) (stop_later x (of a) (stop_later v s (stop_here (of b)))) refl

  -- the word as a variable, since the code computes it
  pub while_ok : (b : Bool) {ts r r2 r3 : Tokens} (w : Look) (v v2 n : ℕ) (x y : Command) → w ≡ form.loop_word b → n ≡ v → form.compound_form (look ts) ≡ compound.Loop b → IsSign deep_64 d end (Opens w) ts (Whole v r) → IsRule deep_64 (d + 1) end g.Loop r (Whole (x, y) r2) → IsSign deep_64 d end (Is (Keyword Done)) r2 (Whole v2 r3) → IsRule deep_64 d end g.Compound ts (Whole (c.While n b x y) r3)
  while_ok b {ts = ts} {r = r} {r3 = r3} w v v2 n x y i h l o m e = subst (λ n. IsRule deep_64 d end g.Compound ts (Whole (c.While n b x y) r3)) (sym h) (made (g.production_compound (compound.Loop b)) (ap g.production_compound l) (Whole (v, ((x, y), (v2, tt))) r3) (more_of v ((x, y), (v2, tt)) (subst (λ w. IsSign deep_64 d end (Opens w) ts (Whole v r)) i o) (more_of (x, y) (v2, tt) (in_one m) (more_of v2 tt e all_done))))

  pub while_first : (b : Bool) {ts r : Tokens} (w : Look) (f : ParseFault) → w ≡ form.loop_word b → form.compound_form (look ts) ≡ compound.Loop b → IsSign deep_64 d end (Opens w) ts (Stop f r) → IsRule deep_64 d end g.Compound ts (Stop f r)
  while_first b {ts = ts} {r = r} w f i l o = made_stops (g.production_compound (compound.Loop b)) (ap g.production_compound l) (stop_here (subst (λ w. IsSign deep_64 d end (Opens w) ts (Stop f r)) i o))

  pub while_body : (b : Bool) {ts r r2 : Tokens} (w : Look) (v : ℕ) (f : ParseFault) → w ≡ form.loop_word b → form.compound_form (look ts) ≡ compound.Loop b → IsSign deep_64 d end (Opens w) ts (Whole v r) → IsRule deep_64 (d + 1) end g.Loop r (Stop f r2) → IsRule deep_64 d end g.Compound ts (Stop f r2)
  while_body b {ts = ts} {r = r} w v f i l o m = made_stops (g.production_compound (compound.Loop b)) (ap g.production_compound l) (stop_later v (subst (λ w. IsSign deep_64 d end (Opens w) ts (Whole v r)) i o) (stop_here (in_one m)))

  pub while_last : (b : Bool) {ts r r2 r3 : Tokens} (w : Look) (v : ℕ) (u : Command × Command) (f : ParseFault) → w ≡ form.loop_word b → form.compound_form (look ts) ≡ compound.Loop b → IsSign deep_64 d end (Opens w) ts (Whole v r) → IsRule deep_64 (d + 1) end g.Loop r (Whole u r2) → IsSign deep_64 d end (Is (Keyword Done)) r2 (Stop f r3) → IsRule deep_64 d end g.Compound ts (Stop f r3)
  while_last b {ts = ts} {r = r} w v u f i l o m e = made_stops (g.production_compound (compound.Loop b)) (ap g.production_compound l) (stop_later v (subst (λ w. IsSign deep_64 d end (Opens w) ts (Whole v r)) i o) (stop_later u (in_one m) (stop_here e)))

-- ---- what is read as what one of its signs is read as, with either outcome

-- braces as a command are read as they stand
pub group_reads : (d end : ℕ) (ts : Tokens) (at : ℕ) (result : Result (Command × ℕ) ParseFault) → form.compound_form (look (drop at ts)) ≡ compound.Braces → Reads d end g.Braces ts at result → Reads d end g.Compound ts at result
group_reads d end ts at (Ok v) e x = (x.0, x.1, group_ok v.0 e x.2)
group_reads d end ts at (Err fault) e x = passed_on (λ f r x. group_stops f e x) fault x
