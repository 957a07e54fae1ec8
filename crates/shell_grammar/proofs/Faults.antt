-- Tokens have at most one first fault, and none where a script is spelled within 64 levels.
use Rattle.std.proofs.Common.{◌≡◌, ◌≤◌, ℕ, Bool, true, false, if◌then◌else◌, List, [], ◌∷◌, ◌++◌, Option, Some, None, refl, sym, ap, ◌∙◌, subst, arith, append-nil}
use Rattle.std.proofs.lemmas.Bool.{leb-false}
use Rattle.shell_syntax.specs.declared.syntax.Command.{Command}
use Rattle.shell_syntax.specs.declared.syntax.Part.{Part}
use Rattle.shell_syntax.specs.declared.syntax.Part.TheVariants as part
use Rattle.shell_lexer.specs.declared.token.Token.{Token}
use Rattle.shell_lexer.specs.declared.token.TokenKind.{TokenKind, out-TokenKind}
use Rattle.shell_lexer.specs.declared.token.RawPart.{RawPart, out-RawPart}
use Rattle.shell_lexer.specs.declared.token.RawPart.TheOpen as o
use Rattle.shell_grammar.specs.declared.fault.ParseFault.{ParseFault}
use Rattle.shell_grammar.specs.declared.fault.ParseFault.TheVariants.{Deep}
use Rattle.shell_grammar.specs.declared.look.Look.TheVariants.{AtEnd, Name, Assignment, Other}
use Rattle.shell_grammar.specs.declared.look.Reserved.{Reserved}
use Rattle.script_names.specs.ShellNames.{is_shell_name}
use Rattle.shell_grammar.specs.Look.{Text, Tokens, look, behind, kind_look, word_look, begun_look, whole_look, first_look, reserved, begins_assignment}
use Rattle.shell_grammar.specs.Forms.{is_token}
use Rattle.shell_grammar.specs.Grammar.{Script, Body, Newlines, Is, Of, Values, production}
use Rattle.shell_grammar.specs.Reading.{Whole, Judged, Faultless, Faulty, after, IsRule, rule, IsAll, no_more, one_more, one_stops, IsSign, is, is_not, IsParts, plain_part, run_part, run_stops, run_deep}
use Rattle.shell_grammar.specs.Spelling.{deep_64, SpellsWithin, Stopped}
use Rattle.shell_grammar.specs.Places.{HoldScripts, Passes, Pass, FirstFault, at_token, at_end, FaultAt, cannot_follow, too_far_in, in_word, FaultIn, at_substitution, in_substitution, behind_part, NoFault}
use Rattle.shell_grammar.proofs.Unique.{not_both, wholes, somes, runs, no_run, run_moved}
use Rattle.shell_lexer.proofs.PrintedBytes.{clash}
use Rattle.shell_grammar.proofs.Limits.{free_rule}
use Rattle.shell_grammar.proofs.Levels.{level_rule, same_level}
use Rattle.shell_grammar.proofs.Fronts.{order, Order, same, sooner, later}
use Rattle.shell_grammar.proofs.Begun.{whole_from}
use Rattle.shell_grammar.proofs.Told.{told_rule, pass_front, fault_of}

-- ---- a script has all tokens

begun_token : (b : Bool) → is_token (if b then Assignment else Other) ≡ true
begun_token true = refl
begun_token false = refl

whole_token : (w : Text) (r : Option Reserved) (b : Bool) → is_shell_name w ≡ b → is_token (whole_look w r) ≡ true
whole_token w (Some which) b e = refl
whole_token w None true e = ap (λ b. is_token (if b then Name else begun_look w)) e
whole_token w None false e = ap (λ b. is_token (if b then Name else begun_look w)) e ∙ begun_token (begins_assignment w)

seen_token : (r : o.RawPart-F RawPart TokenKind Token) (ps : List RawPart) → is_token (first_look r ps) ≡ true
seen_token (o.Plain w) [] = whole_token w (reserved w) (is_shell_name w) refl
seen_token (o.Plain w) (p ∷ ps) = begun_token (begins_assignment w)
seen_token (o.Quoted w) ps = refl
seen_token (o.Param key v b) ps = refl
seen_token o.All ps = refl
seen_token (o.Run at ts b) ps = refl

word_token : (raws : List RawPart) → is_token (word_look raws) ≡ true
word_token [] = refl
word_token (p ∷ ps) = seen_token (out-RawPart p) ps

kind_token : (k : o.TokenKind-F RawPart TokenKind Token) → is_token (kind_look k) ≡ true
kind_token (o.Word ps) = word_token ps
kind_token o.Newline = refl
kind_token o.Semi = refl
kind_token o.DoubleSemi = refl
kind_token o.AndAnd = refl
kind_token o.OrOr = refl
kind_token o.Bar = refl
kind_token o.LeftParen = refl
kind_token o.RightParen = refl
kind_token (o.Redirect which) = refl

-- at the end no token is left
pub ended : (ts : Tokens) → look ts ≡ AtEnd → ts ≡ []
ended [] e = refl
ended (t ∷ ts) e = absurd (clash (ap is_token e) (kind_token (out-TokenKind t.kind)))

pub behind_end : (ts r : Tokens) → look ts ≡ AtEnd → r ≡ behind ts → r ≡ []
behind_end ts r e h = h ∙ ap behind (ended ts e)

module _ (deep : ℕ → Bool) (d end : ℕ) where
  sign_ends : {ts r : Tokens} {v : ℕ} → IsSign deep d end (Is AtEnd) ts (Whole v r) → r ≡ []
  sign_ends {ts} {r} (is k e) = behind_end ts r k (wholes e).1
  sign_ends (is_not k e) = absurd (not_both e)

  none_ends : {ts r : Tokens} {v : Values []} → IsAll deep d end [] ts (Whole v r) → r ≡ ts
  none_ends (no_more e) = (wholes e).1

  last_ends : {ts r : Tokens} {v : Values (Is AtEnd ∷ [])} → IsAll deep d end (Is AtEnd ∷ []) ts (Whole v r) → r ≡ []
  last_ends {r = r} {v = v} (one_more v0 r0 q1 s x e) =
      let f = whole_from (λ vs. (v0, vs)) q1 v r (sym e) in
      none_ends (subst (IsAll deep d end [] r0) f.is_whole x) ∙ sign_ends s
  last_ends (one_stops f r0 s e) = absurd (not_both e)

  body_ends : {ts r : Tokens} {v : Values (Of Body ∷ Is AtEnd ∷ [])} → IsAll deep d end (Of Body ∷ Is AtEnd ∷ []) ts (Whole v r) → r ≡ []
  body_ends {r = r} {v = v} (one_more v0 r0 q1 s x e) =
      let f = whole_from (λ vs. (v0, vs)) q1 v r (sym e) in
      last_ends (subst (IsAll deep d end (Is AtEnd ∷ []) r0) f.is_whole x)
  body_ends (one_stops f r0 s e) = absurd (not_both e)

  all_end : {ts r : Tokens} {v : Values (Of Newlines ∷ Of Body ∷ Is AtEnd ∷ [])} → IsAll deep d end (Of Newlines ∷ Of Body ∷ Is AtEnd ∷ []) ts (Whole v r) → r ≡ []
  all_end {r = r} {v = v} (one_more v0 r0 q1 s x e) =
      let f = whole_from (λ vs. (v0, vs)) q1 v r (sym e) in
      body_ends (subst (IsAll deep d end (Of Body ∷ Is AtEnd ∷ []) r0) f.is_whole x)
  all_end (one_stops f r0 s e) = absurd (not_both e)

  -- a script's reading goes to the end
  pub script_ends : {ts r : Tokens} {body : Command} → IsRule deep d end Script ts (Whole body r) → r ≡ []
  script_ends {ts} {r} {body} (rule q1 x e) =
      let f = whole_from (production Script (look ts)).tree q1 body r (sym e) in
      all_end (subst (IsAll deep d end (production Script (look ts)).signs ts) f.is_whole x)

-- each of its tokens passes
pub pass_whole : (d end : ℕ) (ts : Tokens) (body : Command) (r : Tokens) → d ≤ 64 → IsRule deep_64 d end Script ts (Whole body r) → Pass d end ts
pass_whole d end ts body r h x =
    let a = (told_rule x h).1 in
    subst (Pass d end) (sym (append-nil a.front) ∙ ap (λ r. a.front ++ r) (sym (script_ends deep_64 d end x)) ∙ sym a.split) (pass_front d end ts a.front a.passes)

-- ---- what passes is not at fault

faultless_behind : (p : Part) (q : Judged) (ps : List Part) → after p q ≡ Faultless ps → (ps2 : List Part) × (q ≡ Faultless ps2)
faultless_behind p (Faultless ps2) ps e = (ps2, refl)
faultless_behind p (Faulty f) ps e = absurd (cc e)

mutual
  not_at : {d end : ℕ} {u : Tokens} {t : Token} {f : ParseFault} → FaultAt d end u t f → Passes d end u t → ⊥
  not_at (cannot_follow h e) p = h p.level p.begins
  not_at {d} {end} {u} {t} (too_far_in l b h e) p = let g = same_level d end l p.level u t b p.begins in let w = p.within in omega (arith, g, h, w)
  not_at {d} {end} {u} {t} (in_word l raws b h w x) p =
      let s = p.holds raws w in
      not_in x (subst (λ l. IsParts deep_64 l raws (Faultless s.parts)) (sym (same_level d end l p.level u t b p.begins)) s.reads) s.parts refl

  not_in : {l : ℕ} {raws : List RawPart} {f : ParseFault} {q : Judged} → FaultIn l raws f → IsParts deep_64 l raws q → (ps : List Part) → q ≡ Faultless ps → ⊥
  not_in (at_substitution at ts b a h e) (plain_part x q1 a2 y k) ps g = no_run a2 a
  not_in {l} (at_substitution at ts b a h e) (run_part at2 ts2 b2 body rest q1 a2 deep z y k) ps g = let lt = leb-false 64 l deep in omega (arith, h, lt)
  not_in (at_substitution at ts b a h e) (run_stops at2 ts2 b2 f rest a2 deep z k) ps g = cc (sym k ∙ g)
  not_in (at_substitution at ts b a h e) (run_deep at2 ts2 b2 a2 deep k) ps g = cc (sym k ∙ g)
  not_in (in_substitution at ts b a h x) (plain_part x2 q1 a2 y k) ps g = no_run a2 a
  not_in {l} (in_substitution at ts b a h x) (run_part at2 ts2 b2 body rest q1 a2 deep z y k) ps g = not_of x (omega (arith, h)) body rest (run_moved deep_64 a a2 z)
  not_in (in_substitution at ts b a h x) (run_stops at2 ts2 b2 f rest a2 deep z k) ps g = cc (sym k ∙ g)
  not_in (in_substitution at ts b a h x) (run_deep at2 ts2 b2 a2 deep k) ps g = cc (sym k ∙ g)
  not_in (behind_part h x) (plain_part p q1 a2 y k) ps g = let m = faultless_behind p q1 ps (sym k ∙ g) in not_in x y m.0 m.1
  not_in (behind_part h x) (run_part at2 ts2 b2 body rest q1 a2 deep z y k) ps g = let m = faultless_behind (part.Run at2 body b2) q1 ps (sym k ∙ g) in not_in x y m.0 m.1
  not_in (behind_part h x) (run_stops at2 ts2 b2 f rest a2 deep z k) ps g = cc (sym k ∙ g)
  not_in (behind_part h x) (run_deep at2 ts2 b2 a2 deep k) ps g = cc (sym k ∙ g)

  not_of : {d end : ℕ} {ts : Tokens} {f : ParseFault} → FirstFault d end ts f → d ≤ 64 → (body : Command) (r : Tokens) → IsRule deep_64 d end Script ts (Whole body r) → ⊥
  not_of {d} {end} {ts} (at_token u t w e p x) h body r z = not_at x (pass_whole d end ts body r h z u t w e)
  not_of (at_end p n e) h body r z = n body (record { rest = r; reads = level_rule (free_rule deep_64 z refl) 0 })

-- ---- one first fault

by_order : {u u2 : Tokens} {t t2 : Token} {w w2 : Tokens} {f g : ParseFault} → Order u t w u2 t2 w2 → (u ≡ u2 → t ≡ t2 → f ≡ g) → ((m : Tokens) → u2 ≡ u ++ t ∷ m → ⊥) → ((m : Tokens) → u ≡ u2 ++ t2 ∷ m → ⊥) → f ≡ g
by_order (same e h k) s a b = s e h
by_order (sooner m e) s a b = absurd (a m e)
by_order (later m e) s a b = absurd (b m e)

moved_at : {d end : ℕ} {u u2 : Tokens} {t t2 : Token} {f : ParseFault} → u ≡ u2 → t ≡ t2 → FaultAt d end u t f → FaultAt d end u2 t2 f
moved_at {d} {end} {u2 = u2} {t = t} {f = f} e h x = subst (λ t. FaultAt d end u2 t f) h (subst (λ u. FaultAt d end u t f) e x)

moved_in : {l l2 : ℕ} {raws raws2 : List RawPart} {f : ParseFault} → l ≡ l2 → raws ≡ raws2 → FaultIn l raws f → FaultIn l2 raws2 f
moved_in {l2 = l2} {raws = raws} {f = f} e h x = subst (λ raws. FaultIn l2 raws f) h (subst (λ l. FaultIn l raws f) e x)

moved_first : {d at at2 : ℕ} {ts ts2 : Tokens} {b b2 : Bool} {r : o.RawPart-F RawPart TokenKind Token} {f : ParseFault} → r ≡ o.Run at ts b → r ≡ o.Run at2 ts2 b2 → FirstFault d at ts f → FirstFault d at2 ts2 f
moved_first {d} {at2 = at2} {ts = ts} {f = f} e h x =
    let k = runs (sym e ∙ h) in
    subst (λ ts. FirstFault d at2 ts f) k.1 (subst (λ at. FirstFault d at ts f) k.0 x)

-- a part that is faultless is at no fault
not_held : {l : ℕ} {p : RawPart} {f : ParseFault} → FaultIn l (p ∷ []) f → HoldScripts l (p ∷ []) → ⊥
not_held x h = not_in x h.reads h.parts refl

mutual
  same_first : {d end : ℕ} {ts : Tokens} {f g : ParseFault} → FirstFault d end ts f → FirstFault d end ts g → f ≡ g
  same_first (at_token u t w e p x) (at_token u2 t2 w2 e2 p2 x2) =
      by_order (order u t w u2 t2 w2 (sym e ∙ e2)) (λ a b. same_at (moved_at a b x) x2) (λ m k. not_at x (p2 u t m k)) (λ m k. not_at x2 (p u2 t2 m k))
  same_first (at_token u t w e p x) (at_end p2 n k) = absurd (not_at x (p2 u t w e))
  same_first (at_end p n k) (at_token u2 t2 w2 e2 p2 x2) = absurd (not_at x2 (p u2 t2 w2 e2))
  same_first (at_end p n k) (at_end p2 n2 k2) = k ∙ sym k2

  same_at : {d end : ℕ} {u : Tokens} {t : Token} {f g : ParseFault} → FaultAt d end u t f → FaultAt d end u t g → f ≡ g
  same_at (cannot_follow h e) (cannot_follow h2 e2) = e ∙ sym e2
  same_at (cannot_follow h e) (too_far_in l2 b2 h2 e2) = absurd (h l2 b2)
  same_at (cannot_follow h e) (in_word l2 raws2 b2 h2 w2 x2) = absurd (h l2 b2)
  same_at (too_far_in l b h e) (cannot_follow h2 e2) = absurd (h2 l b)
  same_at (too_far_in l b h e) (too_far_in l2 b2 h2 e2) = e ∙ sym e2
  same_at {d} {end} {u} {t} (too_far_in l b h e) (in_word l2 raws2 b2 h2 w2 x2) = absurd (let g = same_level d end l l2 u t b b2 in omega (arith, g, h, h2))
  same_at (in_word l raws b h w x) (cannot_follow h2 e2) = absurd (h2 l b)
  same_at {d} {end} {u} {t} (in_word l raws b h w x) (too_far_in l2 b2 h2 e2) = absurd (let g = same_level d end l l2 u t b b2 in omega (arith, g, h, h2))
  same_at {d} {end} {u} {t} (in_word l raws b h w x) (in_word l2 raws2 b2 h2 w2 x2) = same_in (moved_in (same_level d end l l2 u t b b2) (somes (sym w ∙ w2)) x) x2

  same_in : {l : ℕ} {raws : List RawPart} {f g : ParseFault} → FaultIn l raws f → FaultIn l raws g → f ≡ g
  same_in (at_substitution at ts b a h e) (at_substitution at2 ts2 b2 a2 h2 e2) = e ∙ ap Deep (runs (sym a ∙ a2)).0 ∙ sym e2
  same_in (at_substitution at ts b a h e) (in_substitution at2 ts2 b2 a2 h2 x2) = absurd (omega (arith, h, h2))
  same_in (at_substitution at ts b a h e) (behind_part held x2) = absurd (not_held (at_substitution at ts b a h e) held)
  same_in (in_substitution at ts b a h x) (at_substitution at2 ts2 b2 a2 h2 e2) = absurd (omega (arith, h, h2))
  same_in (in_substitution at ts b a h x) (in_substitution at2 ts2 b2 a2 h2 x2) = same_first (moved_first a a2 x) x2
  same_in (in_substitution at ts b a h x) (behind_part held x2) = absurd (not_held (in_substitution at ts b a h x) held)
  same_in (behind_part held x) (at_substitution at2 ts2 b2 a2 h2 e2) = absurd (not_held (at_substitution at2 ts2 b2 a2 h2 e2) held)
  same_in (behind_part held x) (in_substitution at2 ts2 b2 a2 h2 x2) = absurd (not_held (in_substitution at2 ts2 b2 a2 h2 x2) held)
  same_in (behind_part held x) (behind_part held2 x2) = same_in x x2

-- ---- the laws

pub first_of_stopped : (end : ℕ) (ts : Tokens) (f : ParseFault) → Stopped end ts f → FirstFault 0 end ts f
first_of_stopped end ts f s = fault_of 0 end ts f s.rest s.reads (told_rule s.reads (omega arith))

pub none_within : (end : ℕ) (ts : Tokens) (body : Command) → SpellsWithin end ts body → NoFault end ts
none_within end ts body s = λ f x. not_of x (omega arith) body s.rest s.reads

pub one_first : (end : ℕ) (ts : Tokens) (f g : ParseFault) → FirstFault 0 end ts f → FirstFault 0 end ts g → f ≡ g
one_first end ts f g = same_first
