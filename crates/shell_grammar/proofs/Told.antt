-- What a reading within 64 levels tells of its tokens: those before its end pass, and where it stops, with which fault.
use Rattle.std.proofs.Common.{◌≡◌, ◌<◌, ◌≤◌, ℕ, suc, Bool, true, false, if◌then◌else◌, List, [], ◌∷◌, ◌++◌, ◌⊎◌, inl, inr, Some, refl, sym, ap, ◌∙◌, subst, arith, append_assoc, append-nil}
use Rattle.std.proofs.lemmas.Bool.{leb-true, leb-false}
use Rattle.shell_syntax.specs.declared.syntax.Part.{Part}
use Rattle.shell_syntax.specs.declared.syntax.Part.TheVariants as part
use Rattle.shell_lexer.specs.declared.token.Token.{Token}
use Rattle.shell_lexer.specs.declared.token.TokenKind.{TokenKind, out-TokenKind}
use Rattle.shell_lexer.specs.declared.token.RawPart.{RawPart, out-RawPart}
use Rattle.shell_lexer.specs.declared.token.RawPart.TheOpen as o
use Rattle.shell_grammar.specs.declared.fault.ParseFault.{ParseFault}
use Rattle.shell_grammar.specs.declared.fault.ParseFault.TheVariants.{Syntax, Deep}
use Rattle.shell_grammar.specs.declared.look.Look.{Look}
use Rattle.shell_grammar.specs.declared.look.Look.TheVariants.{Assignment, Other}
use Rattle.shell_grammar.specs.Look.{Text, Tokens, look, word, behind, place, kind_look, kind_word, word_look, first_look, begins_assignment}
use Rattle.shell_grammar.specs.Forms.{is_token}
use Rattle.shell_grammar.specs.WithoutRuns.{without_runs, parts_without_runs, token_without_runs}
use Rattle.shell_grammar.specs.Grammar.{Rule, Script, Sign, Is, Opens, AWord, Here, Never, Of, Inside, Tree, Value, Values, production}
use Rattle.shell_grammar.specs.Reading.{Out, Whole, Stop, turned, Judged, Faultless, Faulty, after, plainly, IsRule, rule, IsAll, no_more, one_more, one_stops, IsSign, is, is_not, opens, opens_not, too_deep, a_word, a_word_stops, no_word, here, never, of, inside, IsParts, no_parts, plain_part, run_part, run_stops, run_deep}
use Rattle.shell_grammar.specs.Spelling.{no_limit, deep_64}
use Rattle.shell_grammar.specs.Trees.{word_at}
use Rattle.shell_grammar.specs.Begins.{BeginsAll, begins_first, begins_later, BeginsSign, begins_is, begins_opens, begins_word, begins_of, begins_inside, BeginsRule, begins_rule, Begins}
use Rattle.shell_grammar.specs.Places.{HoldScripts, Pass, FirstFault, at_token, at_end, FaultAt, cannot_follow, too_far_in, in_word, FaultIn, at_substitution, in_substitution, behind_part}
use Rattle.shell_grammar.proofs.Unique.{not_both, somes, none_some, same_rule}
use Rattle.shell_lexer.proofs.PrintedBytes.{clash}
use Rattle.shell_grammar.proofs.Limits.{free_rule, is_deep_fault}
use Rattle.shell_grammar.proofs.Levels.{level_rule}
use Rattle.shell_grammar.proofs.Fronts.{tails, too_long, same_front, in_either}
use Rattle.shell_grammar.proofs.Begun.{again_sign, late_rule}
use Rattle.shell_grammar.proofs.RunsLeftOut.{look_without_runs, place_without_runs, behind_without_runs, word_without_runs, option_without_runs, faultless_without_runs, append_without_runs}
use Rattle.shell_grammar.proofs.Fits.{Fits, fits, is_mark}

-- ---- tokens that are no common word hold no substitution

plain_holds : (d : ℕ) (p : RawPart) (x : Part) → plainly (out-RawPart p) ≡ Some x → HoldScripts d (p ∷ [])
plain_holds d p x e = record { parts = x ∷ []; reads = plain_part x (Faultless []) e (no_parts refl) refl }

begun_no_mark : (w : Text) (b : Bool) (l : Look) → (if b then Assignment else Other) ≡ l → is_mark l ≡ true → ⊥
begun_no_mark w true l e m = clash (ap is_mark (sym e)) m
begun_no_mark w false l e m = clash (ap is_mark (sym e)) m

mark_holds_seen : (d : ℕ) (r : o.RawPart-F RawPart TokenKind Token) (p : RawPart) (ps : List RawPart) (l : Look) → out-RawPart p ≡ r → first_look r ps ≡ l → is_mark l ≡ true → HoldScripts d (p ∷ ps)
mark_holds_seen d (o.Plain w) p [] l e k m = plain_holds d p (part.Plain w) (ap plainly e)
mark_holds_seen d (o.Plain w) p (p2 ∷ ps) l e k m = absurd (begun_no_mark w (begins_assignment w) l k m)
mark_holds_seen d (o.Quoted w) p ps l e k m = absurd (clash (ap is_mark (sym k)) m)
mark_holds_seen d (o.Param key v b) p ps l e k m = absurd (clash (ap is_mark (sym k)) m)
mark_holds_seen d o.All p ps l e k m = absurd (clash (ap is_mark (sym k)) m)
mark_holds_seen d (o.Run at ts b) p ps l e k m = absurd (clash (ap is_mark (sym k)) m)

mark_holds_word : (d : ℕ) (raws : List RawPart) (l : Look) → word_look raws ≡ l → is_mark l ≡ true → HoldScripts d raws
mark_holds_word d [] l k m = record { parts = []; reads = no_parts refl }
mark_holds_word d (p ∷ ps) l k m = mark_holds_seen d (out-RawPart p) p ps l refl k m

mark_holds_kind : (d : ℕ) (k : o.TokenKind-F RawPart TokenKind Token) (raws : List RawPart) (l : Look) → kind_look k ≡ l → is_mark l ≡ true → kind_word k ≡ Some raws → HoldScripts d raws
mark_holds_kind d (o.Word ps) raws l k m e = subst (HoldScripts d) (somes e) (mark_holds_word d ps l k m)
mark_holds_kind d o.Newline raws l k m e = absurd (none_some refl e)
mark_holds_kind d o.Semi raws l k m e = absurd (none_some refl e)
mark_holds_kind d o.DoubleSemi raws l k m e = absurd (none_some refl e)
mark_holds_kind d o.AndAnd raws l k m e = absurd (none_some refl e)
mark_holds_kind d o.OrOr raws l k m e = absurd (none_some refl e)
mark_holds_kind d o.Bar raws l k m e = absurd (none_some refl e)
mark_holds_kind d o.LeftParen raws l k m e = absurd (none_some refl e)
mark_holds_kind d o.RightParen raws l k m e = absurd (none_some refl e)
mark_holds_kind d (o.Redirect which) raws l k m e = absurd (none_some refl e)

mark_holds : (d : ℕ) (t : Token) (l : Look) → look (t ∷ []) ≡ l → is_mark l ≡ true → (raws : List RawPart) → word (t ∷ []) ≡ Some raws → HoldScripts d raws
mark_holds d t l k m raws e = mark_holds_kind d (out-TokenKind t.kind) raws l k m e

-- ---- tokens that are reached with so many levels open, and pass

module _ (R : Tokens → ℕ → Type 0) where
  -- the token behind these is reached with so many levels open, at most 64, and its substitutions are scripts there
  pub record PassesAt (u : Tokens) (t : Token) : Type 0 where
    pub level : ℕ
    pub reaches : R (u ++ t ∷ []) level
    pub within : level ≤ 64
    pub holds : (raws : List RawPart) → word (t ∷ []) ≡ Some raws → HoldScripts level raws

  -- each token of the list passes where it stands
  abbrev pub AllPass : Tokens → Type 0
  AllPass f = (u : Tokens) (t : Token) (w : Tokens) → f ≡ u ++ t ∷ w → PassesAt u t

  -- all up to a place
  pub record Read (ts rest : Tokens) : Type 0 where
    pub front : Tokens
    pub split : ts ≡ front ++ rest
    pub passes : AllPass front

-- why a token does not pass, though it is reached
pub data Why (level : ℕ) (t : Token) : ParseFault → Type 0 where
  opens_too_many : {f : ParseFault} → 64 < level → f ≡ Deep t.at → Why level t f
  holds_fault : {f : ParseFault} (raws : List RawPart) → level ≤ 64 → word (t ∷ []) ≡ Some raws → FaultIn level raws f → Why level t f

-- all up to such a token
pub record Faulted (R : Tokens → ℕ → Type 0) (ts : Tokens) (f : ParseFault) : Type 0 where
  pub front : Tokens
  pub token : Token
  pub rest : Tokens
  pub split : ts ≡ front ++ token ∷ rest
  pub passes : AllPass R front
  pub level : ℕ
  pub reaches : R (front ++ token ∷ []) level
  pub why : Why level token f

-- a token of a front is one of the whole
within_all : (ts f r u : Tokens) (t : Token) (w : Tokens) → ts ≡ f ++ r → f ≡ u ++ t ∷ w → ts ≡ u ++ t ∷ (w ++ r)
within_all ts f r u t w e h = e ∙ ap (λ x. x ++ r) h ∙ append_assoc u (t ∷ w) r

module _ (R R2 : Tokens → ℕ → Type 0) (ts : Tokens) (to : (u : Tokens) (t : Token) (w : Tokens) (l : ℕ) → ts ≡ u ++ t ∷ w → R (u ++ t ∷ []) l → R2 (u ++ t ∷ []) l) where
  passes_map : (f r : Tokens) → ts ≡ f ++ r → AllPass R f → AllPass R2 f
  passes_map f r e a = λ u t w h. let x = a u t w h in record { level = x.level; reaches = to u t (w ++ r) x.level (within_all ts f r u t w e h) x.reaches; within = x.within; holds = x.holds }

  read_map : (r : Tokens) → Read R ts r → Read R2 ts r
  read_map r x = record { front = x.front; split = x.split; passes = passes_map x.front r x.split x.passes }

  faulted_map : (f : ParseFault) → Faulted R ts f → Faulted R2 ts f
  faulted_map f x = record { front = x.front; token = x.token; rest = x.rest; split = x.split; passes = passes_map x.front (x.token ∷ x.rest) x.split x.passes; level = x.level; reaches = to x.front x.token x.rest x.level x.split x.reaches; why = x.why }

no_token : (u : Tokens) (t : Token) (w : Tokens) → [] ≡ u ++ t ∷ w → ⊥
no_token [] t w e = cc e
no_token (a ∷ u) t w e = cc e

none_pass : (R : Tokens → ℕ → Type 0) → AllPass R []
none_pass R = λ u t w e. absurd (no_token u t w e)

read_none : (R : Tokens → ℕ → Type 0) (ts : Tokens) → Read R ts ts
read_none R ts = record { front = []; split = refl; passes = none_pass R }

alone : (a : Token) (u : Tokens) (t : Token) (w : Tokens) → a ∷ [] ≡ u ++ t ∷ w → (u ≡ []) × (a ≡ t)
alone a [] t w e = (refl, (tails e).0)
alone a (b ∷ u) t w e = absurd (no_token u t w (tails e).1)

one_passes : (R : Tokens → ℕ → Type 0) (a : Token) → PassesAt R [] a → AllPass R (a ∷ [])
one_passes R a x = λ u t w e. let h = alone a u t w e in subst (λ u. PassesAt R u t) (sym h.0) (subst (PassesAt R []) h.1 x)

read_one : (R : Tokens → ℕ → Type 0) (ts : Tokens) → ((t : Token) (r : Tokens) → ts ≡ t ∷ r → PassesAt R [] t) → Read R ts (behind ts)
read_one R [] make = read_none R []
read_one R (t ∷ r) make = record { front = t ∷ []; split = refl; passes = one_passes R t (make t r refl) }

-- of two lists one behind the other
passes_both : (R1 R2 R : Tokens → ℕ → Type 0) (f f1 : Tokens) → AllPass R1 f → AllPass R2 f1 → ((x : Tokens) (l : ℕ) → R1 x l → R x l) → ((u : Tokens) (t : Token) (w : Tokens) (l : ℕ) → f1 ≡ u ++ t ∷ w → R2 (u ++ t ∷ []) l → R (f ++ (u ++ t ∷ [])) l) → AllPass R (f ++ f1)
passes_both R1 R2 R f f1 a b first later = λ u t w e.
    elim (in_either f f1 u t w e) as (λ _. PassesAt R u t) [
      | inl k ↦ (let x = a u t k.0 k.1 in record { level = x.level; reaches = first (u ++ t ∷ []) x.level x.reaches; within = x.within; holds = x.holds })
      | inr k ↦ (let x = b k.0 t w k.2 in record { level = x.level; reaches = subst (λ y. R y x.level) (sym (append_assoc f k.0 (t ∷ [])) ∙ ap (λ u. u ++ t ∷ []) (sym k.1)) (later k.0 t w x.level k.2 x.reaches); within = x.within; holds = x.holds })
    ]

-- ---- what is reached of a sign, of signs, of a rule

abbrev pub ReachSign : ℕ → ℕ → Sign → Tokens → ℕ → Type 0
ReachSign d end s x l = BeginsSign end d s (without_runs x) l

abbrev pub ReachAll : ℕ → ℕ → List Sign → Tokens → ℕ → Type 0
ReachAll d end ss x l = BeginsAll end d ss (without_runs x) l

-- behind a whole sign
behind_whole : (d end : ℕ) (s : Sign) (ss : List Sign) (ts r0 u1 : Tokens) (v2 : Value s) (l : ℕ) → ts ≡ u1 ++ r0 → IsSign no_limit d end s (without_runs ts) (Whole v2 (without_runs r0)) → (t0 : Token) (w w2 : Tokens) → r0 ≡ t0 ∷ w → BeginsAll end d ss (without_runs (t0 ∷ w2)) l → BeginsAll end d (s ∷ ss) (without_runs (u1 ++ t0 ∷ w2)) l
behind_whole d end s ss ts r0 u1 v2 l e x t0 w w2 h b =
    let a = again_sign x v2 (token_without_runs t0) (without_runs w) (ap (λ r. Whole v2 (without_runs r)) h) in
    let same = same_front a.front (without_runs u1) (without_runs (t0 ∷ w)) (sym a.split ∙ ap without_runs e ∙ append_without_runs u1 r0 ∙ ap (λ r. without_runs u1 ++ without_runs r) h) in
    subst (λ x. BeginsAll end d (s ∷ ss) x l) (ap (λ x. x ++ without_runs (t0 ∷ w2)) same ∙ sym (append_without_runs u1 (t0 ∷ w2)))
    (begins_later v2 (token_without_runs t0) (without_runs w2) (a.again (without_runs w2)) b)

reach_later : (d end : ℕ) (s : Sign) (ss : List Sign) (ts r0 f : Tokens) (v2 : Value s) → ts ≡ f ++ r0 → IsSign no_limit d end s (without_runs ts) (Whole v2 (without_runs r0)) → (u : Tokens) (t : Token) (w : Tokens) (l : ℕ) → r0 ≡ u ++ t ∷ w → ReachAll d end ss (u ++ t ∷ []) l → ReachAll d end (s ∷ ss) (f ++ (u ++ t ∷ [])) l
reach_later d end s ss ts r0 f v2 e x [] t w l h b = behind_whole d end s ss ts r0 f v2 l e x t w [] h b
reach_later d end s ss ts r0 f v2 e x (t0 ∷ u) t w l h b = behind_whole d end s ss ts r0 f v2 l e x t0 (u ++ t ∷ w) (u ++ t ∷ []) h b

seen_from : (ts u : Tokens) (t : Token) (w : Tokens) → ts ≡ u ++ t ∷ w → look ts ≡ look (without_runs (u ++ t ∷ []))
seen_from ts [] t w e = ap look e ∙ sym (look_without_runs (t ∷ []))
seen_from ts (a ∷ u) t w e = ap look e ∙ sym (look_without_runs (a ∷ (u ++ t ∷ [])))

reach_rule : (d end : ℕ) (n : Rule) (ts u : Tokens) (t : Token) (w : Tokens) (l : ℕ) → ts ≡ u ++ t ∷ w → ReachAll d end (production n (look ts)).signs (u ++ t ∷ []) l → BeginsRule end d n (without_runs (u ++ t ∷ [])) l
reach_rule d end n ts u t w l e b = begins_rule (subst (λ look. BeginsAll end d (production n look).signs (without_runs (u ++ t ∷ [])) l) (seen_from ts u t w e) b)

-- ---- the reading of the without_runs tokens, and what it tells

abbrev pub SignTold : ℕ → ℕ → (s : Sign) → Tokens → Out (Value s) → Type 0
SignTold d end s ts (Whole v r) = ((v2 : Value s) × IsSign no_limit d end s (without_runs ts) (Whole v2 (without_runs r))) × Read (ReachSign d end s) ts r
SignTold d end s ts (Stop f r) = (IsSign no_limit d end s (without_runs ts) (Stop f (without_runs r)) × (f ≡ Syntax (place end r)) × Read (ReachSign d end s) ts r) ⊎ Faulted (ReachSign d end s) ts f

abbrev pub AllTold : ℕ → ℕ → (ss : List Sign) → Tokens → Out (Values ss) → Type 0
AllTold d end ss ts (Whole v r) = ((v2 : Values ss) × IsAll no_limit d end ss (without_runs ts) (Whole v2 (without_runs r))) × Read (ReachAll d end ss) ts r
AllTold d end ss ts (Stop f r) = (IsAll no_limit d end ss (without_runs ts) (Stop f (without_runs r)) × (f ≡ Syntax (place end r)) × Read (ReachAll d end ss) ts r) ⊎ Faulted (ReachAll d end ss) ts f

abbrev pub RuleTold : ℕ → ℕ → (n : Rule) → Tokens → Out (Tree n) → Type 0
RuleTold d end n ts (Whole v r) = ((v2 : Tree n) × IsRule no_limit d end n (without_runs ts) (Whole v2 (without_runs r))) × Read (ReachAll d end (production n (look ts)).signs) ts r
RuleTold d end n ts (Stop f r) = (IsRule no_limit d end n (without_runs ts) (Stop f (without_runs r)) × (f ≡ Syntax (place end r)) × Read (ReachAll d end (production n (look ts)).signs) ts r) ⊎ Faulted (ReachAll d end (production n (look ts)).signs) ts f

module _ (d end : ℕ) (s : Sign) (ss : List Sign) (ts : Tokens) where
  first_reach : (u : Tokens) (t : Token) (w : Tokens) (l : ℕ) → ts ≡ u ++ t ∷ w → ReachSign d end s (u ++ t ∷ []) l → ReachAll d end (s ∷ ss) (u ++ t ∷ []) l
  first_reach u t w l e b = begins_first b

  module _ (r : Tokens) (v2 : Value s) (x : IsSign no_limit d end s (without_runs ts) (Whole v2 (without_runs r))) (a : Read (ReachSign d end s) ts r) where
    read_both : (r2 : Tokens) → Read (ReachAll d end ss) r r2 → Read (ReachAll d end (s ∷ ss)) ts r2
    read_both r2 m = record {
      front = a.front ++ m.front;
      split = a.split ∙ ap (λ r. a.front ++ r) m.split ∙ sym (append_assoc a.front m.front r2);
      passes = passes_both (ReachSign d end s) (ReachAll d end ss) (ReachAll d end (s ∷ ss)) a.front m.front a.passes m.passes (λ x l b. begins_first b)
          (λ u t w l e b. reach_later d end s ss ts r a.front v2 a.split x u t (w ++ r2) l (within_all r m.front r2 u t w m.split e) b);
    }

    faulted_both : (f : ParseFault) → Faulted (ReachAll d end ss) r f → Faulted (ReachAll d end (s ∷ ss)) ts f
    faulted_both f m = record {
      front = a.front ++ m.front;
      token = m.token;
      rest = m.rest;
      split = a.split ∙ ap (λ r. a.front ++ r) m.split ∙ sym (append_assoc a.front m.front (m.token ∷ m.rest));
      passes = passes_both (ReachSign d end s) (ReachAll d end ss) (ReachAll d end (s ∷ ss)) a.front m.front a.passes m.passes (λ x l b. begins_first b)
          (λ u t w l e b. reach_later d end s ss ts r a.front v2 a.split x u t (w ++ m.token ∷ m.rest) l (within_all r m.front (m.token ∷ m.rest) u t w m.split e) b);
      level = m.level;
      reaches = subst (λ y. ReachAll d end (s ∷ ss) y m.level) (sym (append_assoc a.front m.front (m.token ∷ [])))
          (reach_later d end s ss ts r a.front v2 a.split x m.front m.token m.rest m.level m.split m.reaches);
      why = m.why;
    }

  both_told : (r : Tokens) (v : Value s) (q1 : Out (Values ss)) → SignTold d end s ts (Whole v r) → AllTold d end ss r q1 → AllTold d end (s ∷ ss) ts (turned (λ vs. (v, vs)) q1)
  both_told r v (Whole vs r2) a m = (((a.0.0, m.0.0), one_more a.0.0 (without_runs r) (Whole m.0.0 (without_runs r2)) a.0.1 m.0.1 refl), read_both r a.0.0 a.0.1 a.1 r2 m.1)
  both_told r v (Stop f r2) a (inl m) = inl (one_more a.0.0 (without_runs r) (Stop f (without_runs r2)) a.0.1 m.0 refl, m.1, read_both r a.0.0 a.0.1 a.1 r2 m.2)
  both_told r v (Stop f r2) a (inr w) = inr (faulted_both r a.0.0 a.0.1 a.1 f w)

  stop_told : (f : ParseFault) (r : Tokens) → SignTold d end s ts (Stop f r) → AllTold d end (s ∷ ss) ts (Stop f r)
  stop_told f r (inl x) = inl (one_stops f (without_runs r) x.0 refl, x.1, read_map (ReachSign d end s) (ReachAll d end (s ∷ ss)) ts first_reach r x.2)
  stop_told f r (inr w) = inr (faulted_map (ReachSign d end s) (ReachAll d end (s ∷ ss)) ts first_reach f w)

pub made_without_runs : {d end : ℕ} {n : Rule} {ts : Tokens} (l : Look) → look ts ≡ l → (q : Out (Values (production n l).signs)) → IsAll no_limit d end (production n l).signs ts q → IsRule no_limit d end n ts (turned (production n l).tree q)
made_without_runs {d} {end} {n} {ts} l e q x = subst (λ l. (q : Out (Values (production n l).signs)) → IsAll no_limit d end (production n l).signs ts q → IsRule no_limit d end n ts (turned (production n l).tree q)) e (λ q x. rule q x refl) q x

rule_told : (d end : ℕ) (n : Rule) (ts : Tokens) (q1 : Out (Values (production n (look ts)).signs)) → AllTold d end (production n (look ts)).signs ts q1 → RuleTold d end n ts (turned (production n (look ts)).tree q1)
rule_told d end n ts (Whole v r) x = (((production n (look ts)).tree x.0.0, made_without_runs (look ts) (look_without_runs ts) (Whole x.0.0 (without_runs r)) x.0.1), x.1)
rule_told d end n ts (Stop f r) (inl x) = inl (made_without_runs (look ts) (look_without_runs ts) (Stop f (without_runs r)) x.0, x.1, x.2)
rule_told d end n ts (Stop f r) (inr w) = inr w

of_told : (d end : ℕ) (n : Rule) (ts : Tokens) (q : Out (Tree n)) → RuleTold d end n ts q → SignTold d end (Of n) ts q
of_told d end n ts (Whole v r) x = ((x.0.0, of x.0.1), read_map (ReachAll d end (production n (look ts)).signs) (ReachSign d end (Of n)) ts (λ u t w l e b. begins_of (reach_rule d end n ts u t w l e b)) r x.1)
of_told d end n ts (Stop f r) (inl x) = inl (of x.0, x.1, read_map (ReachAll d end (production n (look ts)).signs) (ReachSign d end (Of n)) ts (λ u t w l e b. begins_of (reach_rule d end n ts u t w l e b)) r x.2)
of_told d end n ts (Stop f r) (inr w) = inr (faulted_map (ReachAll d end (production n (look ts)).signs) (ReachSign d end (Of n)) ts (λ u t w l e b. begins_of (reach_rule d end n ts u t w l e b)) f w)

inside_told : (d end : ℕ) (n : Rule) (ts : Tokens) (q : Out (Tree n)) → RuleTold (suc d) end n ts q → SignTold d end (Inside n) ts q
inside_told d end n ts (Whole v r) x = ((x.0.0, inside x.0.1), read_map (ReachAll (suc d) end (production n (look ts)).signs) (ReachSign d end (Inside n)) ts (λ u t w l e b. begins_inside (reach_rule (suc d) end n ts u t w l e b)) r x.1)
inside_told d end n ts (Stop f r) (inl x) = inl (inside x.0, x.1, read_map (ReachAll (suc d) end (production n (look ts)).signs) (ReachSign d end (Inside n)) ts (λ u t w l e b. begins_inside (reach_rule (suc d) end n ts u t w l e b)) r x.2)
inside_told d end n ts (Stop f r) (inr w) = inr (faulted_map (ReachAll (suc d) end (production n (look ts)).signs) (ReachSign d end (Inside n)) ts (λ u t w l e b. begins_inside (reach_rule (suc d) end n ts u t w l e b)) f w)

-- ---- one token

is_told : (d end : ℕ) (l : Look) (ts : Tokens) → d ≤ 64 → is_mark l ≡ true → look ts ≡ l → SignTold d end (Is l) ts (Whole (place end ts) (behind ts))
is_told d end l ts h m k = (
  (place end ts, is (look_without_runs ts ∙ k) (ap (λ n. Whole n (without_runs (behind ts))) (sym (place_without_runs end ts)) ∙ ap (Whole (place end (without_runs ts))) (sym (behind_without_runs ts)))),
  read_one (ReachSign d end (Is l)) ts (λ t r g. record { level = d; reaches = begins_is (token_without_runs t) refl (look_without_runs (t ∷ []) ∙ ap look (sym g) ∙ k) refl; within = h; holds = mark_holds d t l (ap look (sym g) ∙ k) m }),
)

opens_told : (d end : ℕ) (l : Look) (ts : Tokens) → d < 64 → is_mark l ≡ true → look ts ≡ l → SignTold d end (Opens l) ts (Whole (place end ts) (behind ts))
opens_told d end l ts h m k = (
  (place end ts, opens (look_without_runs ts ∙ k) refl (ap (λ n. Whole n (without_runs (behind ts))) (sym (place_without_runs end ts)) ∙ ap (Whole (place end (without_runs ts))) (sym (behind_without_runs ts)))),
  read_one (ReachSign d end (Opens l)) ts (λ t r g. record { level = suc d; reaches = begins_opens (token_without_runs t) refl (look_without_runs (t ∷ []) ∙ ap look (sym g) ∙ k) refl; within = omega (arith, h); holds = mark_holds (suc d) t l (ap look (sym g) ∙ k) m }),
)

deep_told : (d end : ℕ) (l : Look) (ts : Tokens) → 64 ≤ d → is_token l ≡ true → look ts ≡ l → SignTold d end (Opens l) ts (Stop (Deep (place end ts)) ts)
deep_told d end l [] h m k = absurd (clash (ap is_token (sym k)) m)
deep_told d end l (t ∷ ts) h m k = inr (record {
  front = [];
  token = t;
  rest = ts;
  split = refl;
  passes = none_pass (ReachSign d end (Opens l));
  level = suc d;
  reaches = begins_opens (token_without_runs t) refl (look_without_runs (t ∷ []) ∙ k) refl;
  why = opens_too_many (omega (arith, h)) refl;
})

word_told : (d end : ℕ) (ts : Tokens) (raws : List RawPart) (ps : List Part) → d ≤ 64 → word ts ≡ Some raws → IsParts deep_64 d raws (Faultless ps) → SignTold d end AWord ts (Whole (word_at (place end ts) ps) (behind ts))
word_told d end ts raws ps h w x =
    let m = faultless_without_runs d raws in (
      (word_at (place end (without_runs ts)) m.0, a_word (parts_without_runs raws) m.0 (word_without_runs ts ∙ ap option_without_runs w) m.1 (ap (Whole (word_at (place end (without_runs ts)) m.0)) (sym (behind_without_runs ts)))),
      read_one (ReachSign d end AWord) ts (λ t r g. record { level = d; reaches = begins_word (token_without_runs t) (parts_without_runs raws) refl (word_without_runs (t ∷ []) ∙ ap option_without_runs (ap word (sym g) ∙ w)) refl; within = h; holds = λ raws2 w2. record { parts = ps; reads = subst (λ raws. IsParts deep_64 d raws (Faultless ps)) (somes (sym w ∙ ap word g ∙ w2)) x } }),
    )

word_fault_told : (d end : ℕ) (ts : Tokens) (raws : List RawPart) (f : ParseFault) → d ≤ 64 → word ts ≡ Some raws → FaultIn d raws f → SignTold d end AWord ts (Stop f (behind ts))
word_fault_told d end [] raws f h w x = absurd (none_some refl w)
word_fault_told d end (t ∷ ts) raws f h w x = inr (record {
  front = [];
  token = t;
  rest = ts;
  split = refl;
  passes = none_pass (ReachSign d end AWord);
  level = d;
  reaches = begins_word (token_without_runs t) (parts_without_runs raws) refl (word_without_runs (t ∷ []) ∙ ap option_without_runs w) refl;
  why = holds_fault raws h w x;
})

-- ---- where the tokens of a list are first at fault

-- behind tokens that are read without a fault of theirs the next one cannot follow
not_further : (d end : ℕ) (ts u : Tokens) (t : Token) (r : Tokens) (f : ParseFault) → ts ≡ u ++ t ∷ r → IsRule no_limit d end Script (without_runs ts) (Stop f (without_runs (t ∷ r))) → (l : ℕ) → Begins d end (u ++ t ∷ []) l → ⊥
not_further d end ts u t r f e x l b =
    let split = ap without_runs e ∙ append_without_runs u (t ∷ r) ∙ sym (append_assoc (without_runs u) (token_without_runs t ∷ []) (without_runs r)) ∙ ap (λ x. x ++ without_runs r) (sym (append_without_runs u (t ∷ []))) in
    let y = subst (λ ts. IsRule no_limit d end Script ts (Stop f (without_runs (t ∷ r)))) split x in
    let tail = late_rule b (without_runs r) (Stop f (without_runs (t ∷ r))) y in
    too_long (token_without_runs t) (without_runs r) tail.front tail.split

pub pass_front : (d end : ℕ) (ts f : Tokens) → AllPass (ReachAll d end (production Script (look ts)).signs) f → Pass d end f
pass_front d end ts f a = λ u t w e. let x = a u t w e in record { level = x.level; begins = begins_rule x.reaches; within = x.within; holds = x.holds }

why_at : (d end : ℕ) (u : Tokens) (t : Token) (l : ℕ) (f : ParseFault) → Begins d end (u ++ t ∷ []) l → Why l t f → FaultAt d end u t f
why_at d end u t l f b (opens_too_many h e) = too_far_in l b h e
why_at d end u t l f b (holds_fault raws h w x) = in_word l raws b h w x

fault_stands : (d end : ℕ) (ts : Tokens) (f : ParseFault) (r : Tokens) → IsRule deep_64 d end Script ts (Stop f r) → IsRule no_limit d end Script (without_runs ts) (Stop f (without_runs r)) → f ≡ Syntax (place end r) → Read (ReachAll d end (production Script (look ts)).signs) ts r → FirstFault d end ts f
fault_stands d end ts f [] x y e a = at_end
    (subst (Pass d end) (sym (append-nil a.front) ∙ sym a.split) (pass_front d end ts a.front a.passes))
    (λ body s. not_both (same_rule no_limit s.reads (level_rule (free_rule deep_64 x (ap is_deep_fault e)) 0)))
    e
fault_stands d end ts f (t ∷ r) x y e a = at_token a.front t r a.split (pass_front d end ts a.front a.passes) (cannot_follow (not_further d end ts a.front t r f a.split y) e)

pub fault_of : (d end : ℕ) (ts : Tokens) (f : ParseFault) (r : Tokens) → IsRule deep_64 d end Script ts (Stop f r) → RuleTold d end Script ts (Stop f r) → FirstFault d end ts f
fault_of d end ts f r x (inl y) = fault_stands d end ts f r x y.0 y.1 y.2
fault_of d end ts f r x (inr w) = at_token w.front w.token w.rest w.split (pass_front d end ts w.front w.passes) (why_at d end w.front w.token w.level f (begins_rule w.reaches) w.why)

-- ---- all readings

faulty_behind : (p : Part) (q : Judged) (f : ParseFault) → after p q ≡ Faulty f → q ≡ Faulty f
faulty_behind p (Faultless ps) f e = absurd (cc e)
faulty_behind p (Faulty g) f e = e

open_below : (d : ℕ) → deep_64 d ≡ false → d < 64
open_below d e = leb-false 64 d e

fits_on : {d end : ℕ} {ts r : Tokens} (s : Sign) (ss : List Sign) (v : Value s) → Fits d (s ∷ ss) → IsSign deep_64 d end s ts (Whole v r) → Fits d ss
fits_on (Is l) ss v f x = f.1
fits_on {d} (Opens l) ss v f (opens k g e) = f.2 (open_below d g)
fits_on (Opens l) ss v f (opens_not k e) = absurd (not_both e)
fits_on (Opens l) ss v f (too_deep k g e) = absurd (not_both e)
fits_on AWord ss v f x = f
fits_on Here ss v f x = f
fits_on Never ss v f x = f
fits_on (Of n) ss v f x = f
fits_on (Inside n) ss v f x = f.1

mutual
  pub told_rule : {d end : ℕ} {n : Rule} {ts : Tokens} {q : Out (Tree n)} → IsRule deep_64 d end n ts q → d ≤ 64 → RuleTold d end n ts q
  told_rule {d} {end} {n} {ts} (rule q1 x e) h = subst (RuleTold d end n ts) (sym e) (rule_told d end n ts q1 (told_all x h (fits d n (look ts))))

  told_all : {d end : ℕ} {ss : List Sign} {ts : Tokens} {q : Out (Values ss)} → IsAll deep_64 d end ss ts q → d ≤ 64 → Fits d ss → AllTold d end ss ts q
  told_all {d} {end} {ss} {ts} (no_more e) h f = subst (AllTold d end ss ts) (sym e) ((tt, no_more refl), read_none (ReachAll d end ss) ts)
  told_all {d} {end} {ss} {ts} (one_more {s = first} {ss = others} v r q1 s x e) h f = subst (AllTold d end ss ts) (sym e) (both_told d end first others ts r v q1 (told_sign s h others f) (told_all x h (fits_on first others v f s)))
  told_all {d} {end} {ss} {ts} (one_stops {s = first} {ss = others} g r s e) h f = subst (AllTold d end ss ts) (sym e) (stop_told d end first others ts g r (told_sign s h others f))

  told_sign : {d end : ℕ} {s : Sign} {ts : Tokens} {q : Out (Value s)} → IsSign deep_64 d end s ts q → d ≤ 64 → (ss : List Sign) → Fits d (s ∷ ss) → SignTold d end s ts q
  told_sign {d} {end} {s} {ts} (is {l = l} k e) h ss f = subst (SignTold d end s ts) (sym e) (is_told d end l ts h f.0 k)
  told_sign {d} {end} {s} {ts} (is_not {l = l} k e) h ss f = subst (SignTold d end s ts) (sym e) (inl (is_not (λ g. k (sym (look_without_runs ts) ∙ g)) (ap (λ n. Stop (Syntax n) (without_runs ts)) (sym (place_without_runs end ts))), refl, read_none (ReachSign d end s) ts))
  told_sign {d} {end} {s} {ts} (opens {l = l} k g e) h ss f = subst (SignTold d end s ts) (sym e) (opens_told d end l ts (open_below d g) f.1 k)
  told_sign {d} {end} {s} {ts} (opens_not {l = l} k e) h ss f = subst (SignTold d end s ts) (sym e) (inl (opens_not (λ g. k (sym (look_without_runs ts) ∙ g)) (ap (λ n. Stop (Syntax n) (without_runs ts)) (sym (place_without_runs end ts))), refl, read_none (ReachSign d end s) ts))
  told_sign {d} {end} {s} {ts} (too_deep {l = l} k g e) h ss f = subst (SignTold d end s ts) (sym e) (deep_told d end l ts (leb-true 64 d g) f.0 k)
  told_sign {d} {end} {s} {ts} (a_word raws ps w x e) h ss f = subst (SignTold d end s ts) (sym e) (word_told d end ts raws ps h w x)
  told_sign {d} {end} {s} {ts} (a_word_stops raws g w x e) h ss f = subst (SignTold d end s ts) (sym e) (word_fault_told d end ts raws g h w (told_parts x h g refl))
  told_sign {d} {end} {s} {ts} (no_word w e) h ss f = subst (SignTold d end s ts) (sym e) (inl (no_word (word_without_runs ts ∙ ap option_without_runs w) (ap (λ n. Stop (Syntax n) (without_runs ts)) (sym (place_without_runs end ts))), refl, read_none (ReachSign d end s) ts))
  told_sign {d} {end} {s} {ts} (here e) h ss f = subst (SignTold d end s ts) (sym e) ((place end ts, here (ap (λ n. Whole n (without_runs ts)) (sym (place_without_runs end ts)))), read_none (ReachSign d end s) ts)
  told_sign {d} {end} {s} {ts} (never e) h ss f = subst (SignTold d end s ts) (sym e) (inl (never (ap (λ n. Stop (Syntax n) (without_runs ts)) (sym (place_without_runs end ts))), refl, read_none (ReachSign d end s) ts))
  told_sign {d} {end} {ts = ts} {q = q} (of {n = n} x) h ss f = of_told d end n ts q (told_rule x h)
  told_sign {d} {end} {ts = ts} {q = q} (inside {n = n} x) h ss f = inside_told d end n ts q (told_rule x (omega (arith, f.0)))

  told_parts : {d : ℕ} {raws : List RawPart} {q : Judged} → IsParts deep_64 d raws q → d ≤ 64 → (f : ParseFault) → q ≡ Faulty f → FaultIn d raws f
  told_parts (no_parts e) h f k = absurd (cc (sym e ∙ k))
  told_parts {d} (plain_part {p = p} x q1 a y e) h f k = behind_part (plain_holds d p x a) (told_parts y h f (faulty_behind x q1 f (sym e ∙ k)))
  told_parts {d} (run_part at ts b body rest q1 a g z y e) h f k = behind_part (record { parts = part.Run at body b ∷ []; reads = run_part at ts b body rest (Faultless []) a g z (no_parts refl) refl }) (told_parts y h f (faulty_behind (part.Run at body b) q1 f (sym e ∙ k)))
  told_parts {d} (run_stops at ts b g rest a deep z e) h f k = in_substitution at ts b a (open_below d deep) (subst (FirstFault (suc d) at ts) (cc (sym e ∙ k)) (fault_of (suc d) at ts g rest z (told_rule z (omega (arith, open_below d deep)))))
  told_parts {d} (run_deep at ts b a deep e) h f k = at_substitution at ts b a (leb-true 64 d deep) (cc (sym e ∙ k))
