-- What a script begins with, whatever its substitutions hold, begins a script.
use Rattle.std.proofs.Common.{◌≡◌, ℕ, List, ◌++◌, refl, sym, ap, ◌∙◌, append-nil}
use Rattle.shell_syntax.specs.declared.syntax.Command.{Command}
use Rattle.shell_grammar.specs.Look.{Tokens, look, behind, place}
use Rattle.shell_grammar.specs.WithoutRuns.{without_runs, parts_without_runs}
use Rattle.shell_grammar.specs.Begins.{begins_rule, Begins}
use Rattle.shell_grammar.specs.Grammar.{Rule, Sign, Tree, Value, Values, production}
use Rattle.shell_grammar.specs.Reading.{Out, Whole, IsRule, rule, IsAll, no_more, one_more, one_stops, IsSign, is, is_not, opens, opens_not, too_deep, a_word, a_word_stops, no_word, here, never, of, inside}
use Rattle.shell_grammar.specs.Spelling.{no_limit, Spells}
use Rattle.shell_grammar.specs.Trees.{word_at}
use Rattle.shell_grammar.proofs.Unique.{not_both, wholes}
use Rattle.shell_grammar.proofs.RunsLeftOut.{look_without_runs, behind_without_runs, word_without_runs, option_without_runs, faultless_without_runs}
use Rattle.shell_grammar.proofs.Begun.{whole_from}
use Rattle.shell_grammar.proofs.Faults.{script_ends}
use Rattle.shell_grammar.proofs.Prefixes.{whole_rule}
use Rattle.shell_grammar.proofs.Told.{made_without_runs}

-- what is left behind one token
left_without_runs : (ts r : Tokens) → behind ts ≡ r → without_runs r ≡ behind (without_runs ts)
left_without_runs ts r e = ap without_runs (sym e) ∙ sym (behind_without_runs ts)

mutual
  rule_without_runs : {d end : ℕ} {n : Rule} {ts : Tokens} {q : Out (Tree n)} → IsRule no_limit d end n ts q → (v : Tree n) (r : Tokens) → q ≡ Whole v r → (v2 : Tree n) × IsRule no_limit d end n (without_runs ts) (Whole v2 (without_runs r))
  rule_without_runs {n = n} {ts = ts} (rule q1 x e) v r h =
      let f = whole_from (production n (look ts)).tree q1 v r (sym e ∙ h) in
      let m = all_without_runs x f.value r f.is_whole in
      ((production n (look ts)).tree m.0, made_without_runs (look ts) (look_without_runs ts) (Whole m.0 (without_runs r)) m.1)

  all_without_runs : {d end : ℕ} {ss : List Sign} {ts : Tokens} {q : Out (Values ss)} → IsAll no_limit d end ss ts q → (vs : Values ss) (r : Tokens) → q ≡ Whole vs r → (v2 : Values ss) × IsAll no_limit d end ss (without_runs ts) (Whole v2 (without_runs r))
  all_without_runs (no_more e) vs r h = (tt, no_more (ap (λ r. Whole tt (without_runs r)) (sym (wholes (sym e ∙ h)).1)))
  all_without_runs (one_more v0 r0 q1 s x e) vs r h =
      let f = whole_from (λ vs. (v0, vs)) q1 vs r (sym e ∙ h) in
      let a = sign_without_runs s v0 r0 refl in
      let m = all_without_runs x f.value r f.is_whole in
      ((a.0, m.0), one_more a.0 (without_runs r0) (Whole m.0 (without_runs r)) a.1 m.1 refl)
  all_without_runs (one_stops f r0 s e) vs r h = absurd (not_both (sym (sym e ∙ h)))

  sign_without_runs : {d end : ℕ} {s : Sign} {ts : Tokens} {q : Out (Value s)} → IsSign no_limit d end s ts q → (v : Value s) (r : Tokens) → q ≡ Whole v r → (v2 : Value s) × IsSign no_limit d end s (without_runs ts) (Whole v2 (without_runs r))
  sign_without_runs {end = end} {ts = ts} (is k e) v r h = (place end (without_runs ts), is (look_without_runs ts ∙ k) (ap (Whole (place end (without_runs ts))) (left_without_runs ts r (wholes (sym e ∙ h)).1)))
  sign_without_runs (is_not k e) v r h = absurd (not_both (sym (sym e ∙ h)))
  sign_without_runs {end = end} {ts = ts} (opens k g e) v r h = (place end (without_runs ts), opens (look_without_runs ts ∙ k) g (ap (Whole (place end (without_runs ts))) (left_without_runs ts r (wholes (sym e ∙ h)).1)))
  sign_without_runs (opens_not k e) v r h = absurd (not_both (sym (sym e ∙ h)))
  sign_without_runs (too_deep k g e) v r h = absurd (not_both (sym (sym e ∙ h)))
  sign_without_runs {d} {end} {ts = ts} (a_word raws ps w x e) v r h =
      let m = faultless_without_runs d raws in
      (word_at (place end (without_runs ts)) m.0, a_word (parts_without_runs raws) m.0 (word_without_runs ts ∙ ap option_without_runs w) m.1 (ap (Whole (word_at (place end (without_runs ts)) m.0)) (left_without_runs ts r (wholes (sym e ∙ h)).1)))
  sign_without_runs (a_word_stops raws f w x e) v r h = absurd (not_both (sym (sym e ∙ h)))
  sign_without_runs (no_word w e) v r h = absurd (not_both (sym (sym e ∙ h)))
  sign_without_runs {end = end} {ts = ts} (here e) v r h = (place end (without_runs ts), here (ap (Whole (place end (without_runs ts))) (ap without_runs (sym (wholes (sym e ∙ h)).1))))
  sign_without_runs (never e) v r h = absurd (not_both (sym (sym e ∙ h)))
  sign_without_runs (of x) v r h = let m = rule_without_runs x v r h in (m.0, of m.1)
  sign_without_runs (inside x) v r h = let m = rule_without_runs x v r h in (m.0, inside m.1)

pub script_begins : (end : ℕ) (ts front later : Tokens) (body : Command) → Spells end ts body → without_runs ts ≡ without_runs front ++ later → (level : ℕ) × Begins 0 end front level
script_begins end ts front later body s e =
    let m = rule_without_runs s.reads body s.rest refl in
    let f = whole_rule end m.1 (without_runs front) later later e (sym (append-nil later) ∙ ap (λ r. later ++ without_runs r) (sym (script_ends no_limit 0 end s.reads))) in
    (f.level, begins_rule f.begins)
