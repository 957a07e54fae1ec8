-- Without a limit the number of levels outside does not matter; and what begins a script does so with one number of levels open.
use Rattle.std.proofs.Common.{◌≡◌, ℕ, suc, List, [], ◌∷◌, ◌++◌, refl, sym, ◌∙◌, subst, append-nil}
use Rattle.shell_lexer.specs.declared.token.Token.{Token}
use Rattle.shell_lexer.specs.declared.token.RawPart.{RawPart}
use Rattle.shell_grammar.specs.Look.{Tokens}
use Rattle.shell_grammar.specs.Grammar.{Rule, Sign, Tree, Value, Values}
use Rattle.shell_grammar.specs.Reading.{Out, Whole, Judged, IsRule, rule, IsAll, no_more, one_more, one_stops, IsSign, is, is_not, opens, opens_not, too_deep, a_word, a_word_stops, no_word, here, never, of, inside, IsParts, no_parts, plain_part, run_part, run_stops, run_deep}
use Rattle.shell_grammar.specs.Spelling.{no_limit}
use Rattle.shell_grammar.specs.Begins.{BeginsAll, begins_none, begins_first, begins_later, BeginsSign, begins_is, begins_opens, begins_word, begins_of, begins_inside, BeginsRule, begins_rule, Begins}
use Rattle.shell_grammar.proofs.Begun.{late_sign}
use Rattle.shell_grammar.proofs.Unique.{wholes, same_sign}

mutual
  pub level_rule : {d end : ℕ} {n : Rule} {ts : Tokens} {q : Out (Tree n)} → IsRule no_limit d end n ts q → (d2 : ℕ) → IsRule no_limit d2 end n ts q
  level_rule (rule q1 x e) d2 = rule q1 (level_all x d2) e

  level_all : {d end : ℕ} {ss : List Sign} {ts : Tokens} {q : Out (Values ss)} → IsAll no_limit d end ss ts q → (d2 : ℕ) → IsAll no_limit d2 end ss ts q
  level_all (no_more e) d2 = no_more e
  level_all (one_more v r q1 s x e) d2 = one_more v r q1 (level_sign s d2) (level_all x d2) e
  level_all (one_stops f r s e) d2 = one_stops f r (level_sign s d2) e

  level_sign : {d end : ℕ} {s : Sign} {ts : Tokens} {q : Out (Value s)} → IsSign no_limit d end s ts q → (d2 : ℕ) → IsSign no_limit d2 end s ts q
  level_sign (is k e) d2 = is k e
  level_sign (is_not k e) d2 = is_not k e
  level_sign (opens k g e) d2 = opens k g e
  level_sign (opens_not k e) d2 = opens_not k e
  level_sign (too_deep k g e) d2 = too_deep k g e
  level_sign (a_word raws ps w x e) d2 = a_word raws ps w (level_parts x d2) e
  level_sign (a_word_stops raws f w x e) d2 = a_word_stops raws f w (level_parts x d2) e
  level_sign (no_word w e) d2 = no_word w e
  level_sign (here e) d2 = here e
  level_sign (never e) d2 = never e
  level_sign (of x) d2 = of (level_rule x d2)
  level_sign (inside x) d2 = inside (level_rule x (suc d2))

  level_parts : {d : ℕ} {ps : List RawPart} {q : Judged} → IsParts no_limit d ps q → (d2 : ℕ) → IsParts no_limit d2 ps q
  level_parts (no_parts e) d2 = no_parts e
  level_parts (plain_part x q1 a y e) d2 = plain_part x q1 a (level_parts y d2) e
  level_parts (run_part at ts b body rest q1 a g z y e) d2 = run_part at ts b body rest q1 a g (level_rule z (suc d2)) (level_parts y d2) e
  level_parts (run_stops at ts b f rest a g z e) d2 = run_stops at ts b f rest a g (level_rule z (suc d2)) e
  level_parts (run_deep at ts b a g e) d2 = run_deep at ts b a g e

no_tail : (f : Tokens) (t : Token) (r : Tokens) → [] ≡ f ++ t ∷ r → ⊥
no_tail [] t r e = cc e
no_tail (a ∷ f) t r e = cc e

module _ (end : ℕ) where
  -- what begins a sign is not read as that sign and more
  not_past : {d l : ℕ} {s : Sign} {x : Tokens} (v : Value s) (t : Token) (r : Tokens) → BeginsSign end d s x l → IsSign no_limit d end s x (Whole v (t ∷ r)) → ⊥
  not_past {d} {s = s} {x = x} v t r b y =
      let tail = late_sign b [] (Whole v (t ∷ r)) (subst (λ x. IsSign no_limit d end s x (Whole v (t ∷ r))) (sym (append-nil x)) y) in
      no_tail tail.front t r tail.split

  mutual
    same_level_all : {d l l2 : ℕ} {ss : List Sign} {x : Tokens} → BeginsAll end d ss x l → BeginsAll end d ss x l2 → (t : Token) (u : Tokens) → x ≡ t ∷ u → l ≡ l2
    same_level_all (begins_none e g) b2 t u h = absurd (cc (sym e ∙ h))
    same_level_all (begins_first b) (begins_none e g) t u h = absurd (cc (sym e ∙ h))
    same_level_all (begins_first b) (begins_first b2) t u h = same_level_sign b b2 t u h
    same_level_all (begins_first b) (begins_later v t0 rest s0 b2) t u h = absurd (not_past v t0 rest b s0)
    same_level_all (begins_later v t0 rest s0 b) (begins_none e g) t u h = absurd (cc (sym e ∙ h))
    same_level_all (begins_later v t0 rest s0 b) (begins_first b2) t u h = absurd (not_past v t0 rest b2 s0)
    same_level_all {d} {l2 = l2} (begins_later {ss = ss} v t0 rest s0 b) (begins_later v2 t2 rest2 s2 b2) t u h =
        let same = wholes (same_sign no_limit s0 s2) in
        same_level_all b (subst (λ y. BeginsAll end d ss y l2) (sym same.1) b2) t0 rest refl

    same_level_sign : {d l l2 : ℕ} {s : Sign} {x : Tokens} → BeginsSign end d s x l → BeginsSign end d s x l2 → (t : Token) (u : Tokens) → x ≡ t ∷ u → l ≡ l2
    same_level_sign (begins_is a e k g) (begins_is a2 e2 k2 g2) t u h = g ∙ sym g2
    same_level_sign (begins_opens a e k g) (begins_opens a2 e2 k2 g2) t u h = g ∙ sym g2
    same_level_sign (begins_word a raws e k g) (begins_word a2 raws2 e2 k2 g2) t u h = g ∙ sym g2
    same_level_sign (begins_of b) (begins_of b2) t u h = same_level_rule b b2 t u h
    same_level_sign (begins_inside b) (begins_inside b2) t u h = same_level_rule b b2 t u h

    same_level_rule : {d l l2 : ℕ} {n : Rule} {x : Tokens} → BeginsRule end d n x l → BeginsRule end d n x l2 → (t : Token) (u : Tokens) → x ≡ t ∷ u → l ≡ l2
    same_level_rule (begins_rule b) (begins_rule b2) t u h = same_level_all b b2 t u h

-- tokens, of which there is one, begin a script with one number of levels open
pub same_level : (d end l l2 : ℕ) (u : Tokens) (t : Token) → Begins d end (u ++ t ∷ []) l → Begins d end (u ++ t ∷ []) l2 → l ≡ l2
same_level d end l l2 [] t b b2 = same_level_rule end b b2 _ _ refl
same_level d end l l2 (a ∷ u) t b b2 = same_level_rule end b b2 _ _ refl
