-- What is read within a limit is read without one, unless a token is too deep.
use Rattle.std.proofs.Common.{◌≡◌, ℕ, Bool, true, false, List, refl, sym, ap, ◌∙◌}
use Rattle.shell_syntax.specs.declared.syntax.Command.{Command}
use Rattle.shell_lexer.specs.declared.token.RawPart.{RawPart}
use Rattle.shell_grammar.specs.declared.fault.ParseFault.{ParseFault}
use Rattle.shell_grammar.specs.declared.fault.ParseFault.TheVariants.{Syntax, Deep, Memory}
use Rattle.shell_grammar.specs.Look.{Tokens, look}
use Rattle.shell_grammar.specs.Grammar.{Rule, Script, Sign, Tree, Value, Values, production}
use Rattle.shell_grammar.specs.Reading.{Out, Whole, Stop, turned, Judged, Faultless, Faulty, after, IsRule, rule, IsAll, no_more, one_more, one_stops, IsSign, is, is_not, opens, opens_not, too_deep, a_word, a_word_stops, no_word, here, never, of, inside, IsParts, no_parts, plain_part, run_part, run_stops, run_deep}
use Rattle.shell_grammar.specs.Spelling.{no_limit, deep_64, Spells, Stopped}
use Rattle.shell_grammar.proofs.Unique.{not_both, wholes, stops, same_rule}
use Rattle.shell_lexer.proofs.PrintedBytes.{clash}

abbrev pub is_deep_fault : ParseFault → Bool
is_deep_fault (Syntax at) = false
is_deep_fault (Deep at) = true
is_deep_fault Memory = false

abbrev is_deep : {A : Type 0} → Out A → Bool
is_deep (Whole v r) = false
is_deep (Stop f r) = is_deep_fault f

abbrev is_deep_part : Judged → Bool
is_deep_part (Faultless ps) = false
is_deep_part (Faulty f) = is_deep_fault f

deep_turned : {A B : Type 0} (f : A → B) (q : Out A) → is_deep (turned f q) ≡ is_deep q
deep_turned f (Whole v r) = refl
deep_turned f (Stop g r) = refl

deep_after : (p : _) (q : Judged) → is_deep_part (after p q) ≡ is_deep_part q
deep_after p (Faultless ps) = refl
deep_after p (Faulty f) = refl

module _ (deep : ℕ → Bool) where
  mutual
    pub free_rule : {d end : ℕ} {n : Rule} {ts : Tokens} {q : Out (Tree n)} → IsRule deep d end n ts q → is_deep q ≡ false → IsRule no_limit d end n ts q
    free_rule {n = n} {ts = ts} (rule q1 x e) h = rule q1 (free_all x (sym (deep_turned (production n (look ts)).tree q1) ∙ ap is_deep (sym e) ∙ h)) e

    pub free_all : {d end : ℕ} {ss : List Sign} {ts : Tokens} {q : Out (Values ss)} → IsAll deep d end ss ts q → is_deep q ≡ false → IsAll no_limit d end ss ts q
    free_all (no_more e) h = no_more e
    free_all (one_more v r q1 s x e) h = one_more v r q1 (free_sign s refl) (free_all x (sym (deep_turned (λ vs. (v, vs)) q1) ∙ ap is_deep (sym e) ∙ h)) e
    free_all (one_stops f r s e) h = one_stops f r (free_sign s (ap is_deep (sym e) ∙ h)) e

    pub free_sign : {d end : ℕ} {s : Sign} {ts : Tokens} {q : Out (Value s)} → IsSign deep d end s ts q → is_deep q ≡ false → IsSign no_limit d end s ts q
    free_sign (is k e) h = is k e
    free_sign (is_not k e) h = is_not k e
    free_sign (opens k g e) h = opens k refl e
    free_sign (opens_not k e) h = opens_not k e
    free_sign (too_deep k g e) h = absurd (clash (sym (ap is_deep e) ∙ h) refl)
    free_sign (a_word raws ps w x e) h = a_word raws ps w (free_parts x refl) e
    free_sign (a_word_stops raws fault w x e) h = a_word_stops raws fault w (free_parts x (ap is_deep (sym e) ∙ h)) e
    free_sign (no_word w e) h = no_word w e
    free_sign (here e) h = here e
    free_sign (never e) h = never e
    free_sign (of x) h = of (free_rule x h)
    free_sign (inside x) h = inside (free_rule x h)

    pub free_parts : {d : ℕ} {ps : List RawPart} {q : Judged} → IsParts deep d ps q → is_deep_part q ≡ false → IsParts no_limit d ps q
    free_parts (no_parts e) h = no_parts e
    free_parts (plain_part x q1 a y e) h = plain_part x q1 a (free_parts y (sym (deep_after x q1) ∙ ap is_deep_part (sym e) ∙ h)) e
    free_parts (run_part at ts b body rest q1 a d z y e) h = run_part at ts b body rest q1 a refl (free_rule z refl) (free_parts y (sym (deep_after _ q1) ∙ ap is_deep_part (sym e) ∙ h)) e
    free_parts (run_stops at ts b fault rest a d z e) h = run_stops at ts b fault rest a refl (free_rule z (ap is_deep_part (sym e) ∙ h)) e
    free_parts (run_deep at ts b a d e) h = absurd (clash (sym (ap is_deep_part e) ∙ h) refl)

-- tokens spell at most one script
pub one_script : (end : ℕ) (ts : Tokens) (a b : Command) → Spells end ts a → Spells end ts b → a ≡ b
one_script end ts a b x y = (wholes (same_rule no_limit x.reads y.reads)).0

-- what is read within the limit is spelled, and then no other fault is there
pub spelled : (end : ℕ) (ts : Tokens) (a : Command) (r : Tokens) → IsRule deep_64 0 end Script ts (Whole a r) → Spells end ts a
spelled end ts a r x = record { rest = r; reads = free_rule deep_64 x refl }

pub not_stopped : (end : ℕ) (ts : Tokens) (a : Command) (r : Tokens) → IsRule deep_64 0 end Script ts (Whole a r) → (f : ParseFault) → Stopped end ts f → ⊥
not_stopped end ts a r x f s = not_both (same_rule deep_64 x s.reads)

-- where the fault is one of syntax no script is spelled, and no token is too deep
pub not_spelled : (end : ℕ) (ts : Tokens) (at : ℕ) → Stopped end ts (Syntax at) → (a : Command) → Spells end ts a → ⊥
not_spelled end ts at s a x = not_both (same_rule no_limit x.reads (free_rule deep_64 s.reads refl))

pub one_fault : (end : ℕ) (ts : Tokens) (f g : ParseFault) → Stopped end ts f → Stopped end ts g → f ≡ g
one_fault end ts f g x y = (stops (same_rule deep_64 x.reads y.reads)).0
