-- Tokens have one reading.
use Rattle.std.proofs.Common.{◌≡◌, ℕ, suc, Bool, List, Option, Some, None, sym, ap, ◌∙◌, subst}
use Rattle.shell_syntax.specs.declared.syntax.Command.{Command}
use Rattle.shell_syntax.specs.declared.syntax.Part.{Part}
use Rattle.shell_syntax.specs.declared.syntax.Part.TheVariants as part
use Rattle.shell_lexer.specs.declared.token.Token.{Token}
use Rattle.shell_lexer.specs.declared.token.TokenKind.{TokenKind}
use Rattle.shell_lexer.specs.declared.token.RawPart.{RawPart}
use Rattle.shell_lexer.specs.declared.token.RawPart.TheOpen as raw
use Rattle.shell_grammar.specs.declared.fault.ParseFault.{ParseFault}
use Rattle.shell_grammar.specs.declared.fault.ParseFault.TheVariants.{Deep}
use Rattle.shell_grammar.specs.Look.{Tokens, look, behind, place}
use Rattle.shell_grammar.specs.Grammar.{Rule, Script, Sign, Tree, Value, Values, production}
use Rattle.shell_grammar.specs.Trees.{word_at}
use Rattle.shell_grammar.specs.Reading.{Out, Whole, Stop, turned, Judged, Faultless, Faulty, after, plainly, IsRule, rule, IsAll, no_more, one_more, one_stops, IsSign, is, is_not, opens, opens_not, too_deep, a_word, a_word_stops, no_word, here, never, of, inside, IsParts, no_parts, plain_part, run_part, run_stops, run_deep}
use Rattle.shell_lexer.proofs.PrintedBytes.{clash}

pub not_both : {A : Type 0} {v : A} {f : ParseFault} {r r' : Tokens} → Whole v r ≡ Stop f r' → ⊥
not_both h = cc

-- the value and the rest of two equal readings
pub wholes : {A : Type 0} {v v' : A} {r r' : Tokens} → Whole v r ≡ Whole v' r' → (v ≡ v') × (r ≡ r')
wholes h = (cc, cc)

pub stops : {A : Type 0} {f f' : ParseFault} {r r' : Tokens} → ◌≡◌ {A = Out A} (Stop f r) (Stop f' r') → (f ≡ f') × (r ≡ r')
stops h = (cc, cc)

pub somes : {A : Type 0} {a b : A} → Some a ≡ Some b → a ≡ b
somes h = cc

pub same_faultless : {ps ps' : List Part} → Faultless ps ≡ Faultless ps' → ps ≡ ps'
same_faultless h = cc

pub faulties : {f f' : ParseFault} → Faulty f ≡ Faulty f' → f ≡ f'
faulties h = cc

pub runs : {at at' : ℕ} {ts ts' : Tokens} {b b' : Bool} → ◌≡◌ {A = raw.RawPart-F RawPart TokenKind Token} (raw.Run at ts b) (raw.Run at' ts' b') → (at ≡ at') × (ts ≡ ts') × (b ≡ b')
runs h = (cc, cc, cc)

-- a part is a substitution or none
pub no_run : {o : raw.RawPart-F RawPart TokenKind Token} {x : Part} {at : ℕ} {ts : Tokens} {b : Bool} → plainly o ≡ Some x → o ≡ raw.Run at ts b → ⊥
no_run e f = cc (sym e ∙ ap plainly f)

pub none_some : {A : Type 0} {a : A} {o : Option A} → o ≡ None → o ≡ Some a → ⊥
none_some e f = cc

module _ (deep : ℕ → Bool) where
  -- a substitution whose tokens were read so
  pub run_moved : {o : raw.RawPart-F RawPart TokenKind Token} {at at' : ℕ} {ts ts' : Tokens} {b b' : Bool} {d : ℕ} {q : Out Command} → o ≡ raw.Run at ts b → o ≡ raw.Run at' ts' b' → IsRule deep (suc d) at' Script ts' q → IsRule deep (suc d) at Script ts q
  run_moved {at = at} {ts' = ts'} {d = d} {q = q} e f x =
      let h = runs (sym f ∙ e) in
      let y = subst (λ at. IsRule deep (suc d) at Script ts' q) h.0 x in
      subst (λ ts. IsRule deep (suc d) at Script ts q) h.1 y

  mutual
    pub same_rule : {d end : ℕ} {n : Rule} {ts : Tokens} {q q' : Out (Tree n)} → IsRule deep d end n ts q → IsRule deep d end n ts q' → q ≡ q'
    same_rule {n = n} {ts = ts} (rule q1 x e) (rule q2 y f) = e ∙ ap (turned (production n (look ts)).tree) (same_all x y) ∙ sym f

    pub same_all : {d end : ℕ} {ss : List Sign} {ts : Tokens} {q q' : Out (Values ss)} → IsAll deep d end ss ts q → IsAll deep d end ss ts q' → q ≡ q'
    same_all (no_more e) (no_more f) = e ∙ sym f
    same_all {d = d} {end = end} (one_more {ss = ss} v r q1 s x e) (one_more v2 r2 q2 s2 x2 f) =
        let h = wholes (same_sign s s2) in
        let m = same_all x (subst (λ r. IsAll deep d end ss r q2) (sym h.1) x2) in
        e ∙ ap (turned (λ vs. (v, vs))) m ∙ ap (λ v. turned (λ vs. (v, vs)) q2) h.0 ∙ sym f
    same_all (one_more v r q1 s x e) (one_stops fault r2 s2 f) = absurd (not_both (same_sign s s2))
    same_all (one_stops fault r s e) (one_more v2 r2 q2 s2 x2 f) = absurd (not_both (sym (same_sign s s2)))
    same_all (one_stops fault r s e) (one_stops fault2 r2 s2 f) = e ∙ ap (λ q. elim q [ Whole v r ↦ Stop fault r | Stop g r ↦ Stop g r ]) (same_sign s s2) ∙ sym f

    pub same_sign : {d end : ℕ} {s : Sign} {ts : Tokens} {q q' : Out (Value s)} → IsSign deep d end s ts q → IsSign deep d end s ts q' → q ≡ q'
    same_sign (is l e) (is m f) = e ∙ sym f
    same_sign (is l e) (is_not m f) = absurd (m l)
    same_sign (is_not l e) (is m f) = absurd (l m)
    same_sign (is_not l e) (is_not m f) = e ∙ sym f
    same_sign (opens l d e) (opens m g f) = e ∙ sym f
    same_sign (opens l d e) (opens_not m f) = absurd (m l)
    same_sign (opens l d e) (too_deep m g f) = absurd (clash d g)
    same_sign (opens_not l e) (opens m g f) = absurd (l m)
    same_sign (opens_not l e) (opens_not m f) = e ∙ sym f
    same_sign (opens_not l e) (too_deep m g f) = absurd (l m)
    same_sign (too_deep l d e) (opens m g f) = absurd (clash g d)
    same_sign (too_deep l d e) (opens_not m f) = absurd (m l)
    same_sign (too_deep l d e) (too_deep m g f) = e ∙ sym f
    same_sign {d = d} {end = end} {ts = ts} (a_word raws ps w x e) (a_word raws2 ps2 w2 x2 f) =
        let h = same_faultless (same_parts x (subst (λ r. IsParts deep d r (Faultless ps2)) (somes (sym w2 ∙ w)) x2)) in
        e ∙ ap (λ ps. Whole (word_at (place end ts) ps) (behind ts)) h ∙ sym f
    same_sign {d = d} (a_word raws ps w x e) (a_word_stops raws2 fault w2 x2 f) = absurd (cc (same_parts x (subst (λ r. IsParts deep d r (Faulty fault)) (somes (sym w2 ∙ w)) x2)))
    same_sign (a_word raws ps w x e) (no_word w2 f) = absurd (none_some w2 w)
    same_sign {d = d} (a_word_stops raws fault w x e) (a_word raws2 ps2 w2 x2 f) = absurd (cc (same_parts x (subst (λ r. IsParts deep d r (Faultless ps2)) (somes (sym w2 ∙ w)) x2)))
    same_sign {d = d} {ts = ts} (a_word_stops raws fault w x e) (a_word_stops raws2 fault2 w2 x2 f) =
        let h = faulties (same_parts x (subst (λ r. IsParts deep d r (Faulty fault2)) (somes (sym w2 ∙ w)) x2)) in
        e ∙ ap (λ g. Stop g (behind ts)) h ∙ sym f
    same_sign (a_word_stops raws fault w x e) (no_word w2 f) = absurd (none_some w2 w)
    same_sign (no_word w e) (a_word raws2 ps2 w2 x2 f) = absurd (none_some w w2)
    same_sign (no_word w e) (a_word_stops raws2 fault w2 x2 f) = absurd (none_some w w2)
    same_sign (no_word w e) (no_word w2 f) = e ∙ sym f
    same_sign (here e) (here f) = e ∙ sym f
    same_sign (never e) (never f) = e ∙ sym f
    same_sign (of x) (of y) = same_rule x y
    same_sign (inside x) (inside y) = same_rule x y

    pub same_parts : {d : ℕ} {ps : List RawPart} {q q' : Judged} → IsParts deep d ps q → IsParts deep d ps q' → q ≡ q'
    same_parts (no_parts e) (no_parts f) = e ∙ sym f
    same_parts (plain_part x q1 a y e) (plain_part x2 q2 a2 y2 f) = e ∙ ap (λ x. after x q1) (somes (sym a ∙ a2)) ∙ ap (after x2) (same_parts y y2) ∙ sym f
    same_parts (plain_part x q1 a y e) (run_part at2 ts2 b2 body2 rest2 q2 a2 d2 z2 y2 f) = absurd (no_run a a2)
    same_parts (plain_part x q1 a y e) (run_stops at2 ts2 b2 fault2 rest2 a2 d2 z2 f) = absurd (no_run a a2)
    same_parts (plain_part x q1 a y e) (run_deep at2 ts2 b2 a2 d2 f) = absurd (no_run a a2)
    same_parts (run_part at ts b body rest q1 a d z y e) (plain_part x2 q2 a2 y2 f) = absurd (no_run a2 a)
    same_parts (run_part at ts b body rest q1 a d z y e) (run_part at2 ts2 b2 body2 rest2 q2 a2 d2 z2 y2 f) =
        let h = runs (sym a ∙ a2) in
        let k = wholes (same_rule z (run_moved a a2 z2)) in
        e ∙ ap (λ at. after (part.Run at body b) q1) h.0 ∙ ap (λ body. after (part.Run at2 body b) q1) k.0 ∙ ap (λ b. after (part.Run at2 body2 b) q1) h.2 ∙ ap (after (part.Run at2 body2 b2)) (same_parts y y2) ∙ sym f
    same_parts (run_part at ts b body rest q1 a d z y e) (run_stops at2 ts2 b2 fault2 rest2 a2 d2 z2 f) = absurd (not_both (same_rule z (run_moved a a2 z2)))
    same_parts (run_part at ts b body rest q1 a d z y e) (run_deep at2 ts2 b2 a2 d2 f) = absurd (clash d d2)
    same_parts (run_stops at ts b fault rest a d z e) (plain_part x2 q2 a2 y2 f) = absurd (no_run a2 a)
    same_parts (run_stops at ts b fault rest a d z e) (run_part at2 ts2 b2 body2 rest2 q2 a2 d2 z2 y2 f) = absurd (not_both (sym (same_rule z (run_moved a a2 z2))))
    same_parts (run_stops at ts b fault rest a d z e) (run_stops at2 ts2 b2 fault2 rest2 a2 d2 z2 f) = e ∙ ap Faulty (stops (same_rule z (run_moved a a2 z2))).0 ∙ sym f
    same_parts (run_stops at ts b fault rest a d z e) (run_deep at2 ts2 b2 a2 d2 f) = absurd (clash d d2)
    same_parts (run_deep at ts b a d e) (plain_part x2 q2 a2 y2 f) = absurd (no_run a2 a)
    same_parts (run_deep at ts b a d e) (run_part at2 ts2 b2 body2 rest2 q2 a2 d2 z2 y2 f) = absurd (clash d2 d)
    same_parts (run_deep at ts b a d e) (run_stops at2 ts2 b2 fault2 rest2 a2 d2 z2 f) = absurd (clash d2 d)
    same_parts (run_deep at ts b a d e) (run_deep at2 ts2 b2 a2 d2 f) = e ∙ ap (λ at. Faulty (Deep at)) (runs (sym a ∙ a2)).0 ∙ sym f
