-- A text has one cut or one fault, and the scanner finds it.
use Rattle.std.proofs.Common.{◌≡◌, ℕ, Bool, List, [], ◌∷◌, Option, Some, None, Ok, Err, refl, sym, ap, ◌∙◌, subst, length, drop}
use Rattle.shell_lexer.specs.declared.fault.LexFault.{LexFault}
use Rattle.shell_lexer.specs.declared.fault.LexFault.TheVariants.{Nul, Interpreter, OpenQuote, OpenSubstitution, Unsupported, Deep, Memory}
use Rattle.shell_lexer.specs.declared.token.Token.{Token}
use Rattle.shell_lexer.specs.declared.token.TokenKind.TheVariants as token
use Rattle.shell_lexer.specs.declared.token.Lexed.{Lexed}
use Rattle.shell_lexer.specs.Depth.{too_deep}
use Rattle.shell_lexer.specs.Text.{Bytes, skip, place}
use Rattle.shell_lexer.specs.FirstLine.{first_line, behind_line, interpreter, nul_of}
use Rattle.shell_lexer.specs.Reading.{Out, Whole, Stop, behind, token_at, kind_of_sign, IsItems, items_end, items_pass, items_wrong, items_close, items_sign, items_word, items_late, items_bad}
use Rattle.shell_lexer.specs.Lexed.{Cut, CutBy, Begins, Faulty, IsBody, Caused}
use Rattle.shell_lexer.specs.Reads.{ItemsRead}
use Rattle.shell_lexer.proofs.Causes.{caused_map}
use Rattle.shell_lexer.proofs.FaultPlaces.{body_placed}
use Rattle.shell_lexer.proofs.Unique.{items_one, same_value, same_stop, no_stop}

same_strict : {x : Option Bool} {a b : Bool} → x ≡ Some a → x ≡ Some b → a ≡ b
same_strict e f = cc

abbrev made : Bool → List Token → ℕ → Lexed
made a t n = record { strict = a; tokens = t; end = n }

same_lexed : {a b : Bool} {t u : List Token} {m n : ℕ} → a ≡ b → t ≡ u → m ≡ n → made a t m ≡ made b u n
same_lexed e f g = rw (e, f, g) refl

pub cut_once : {deep : ℕ → Bool} (text : Bytes) (l other : Lexed) → CutBy deep text l → CutBy deep text other → l ≡ other
cut_once text l other c d = same_lexed (same_strict c.first d.first) (same_value (items_one c.body d.body)) (c.end ∙ sym d.end)

-- ---- faults

-- where a fault comes from
data Cause (text : Bytes) (f : LexFault) : Type 0 where
  by_nul : (at : ℕ) → nul_of text ≡ Some at → f ≡ Nul at → Cause text f
  by_first : nul_of text ≡ None → interpreter (first_line text) ≡ None → f ≡ Interpreter 0 → Cause text f
  by_body : Begins text → IsBody too_deep text (Stop f) → Cause text f

cause : (text : Bytes) (f : LexFault) → Faulty text f → Cause text f
cause text (Nul at) h = by_nul at h refl
cause text (Interpreter at) h = by_first h.0 h.1 (ap Interpreter h.2)
cause text (OpenQuote at) h = by_body h.0 h.1
cause text (OpenSubstitution at) h = by_body h.0 h.1
cause text (Unsupported form at) h = by_body h.0 h.1
cause text (Deep at) h = by_body h.0 h.1
cause text Memory h = absurd h

-- a fault behind the first line is the text's
pub body_faulty : (text : Bytes) (f : LexFault) → Begins text → IsBody too_deep text (Stop f) → Faulty text f
body_faulty text (Nul at) b x = absurd (body_placed text (Nul at) x)
body_faulty text (Interpreter at) b x = absurd (body_placed text (Interpreter at) x)
body_faulty text (OpenQuote at) b x = (b, x)
body_faulty text (OpenSubstitution at) b x = (b, x)
body_faulty text (Unsupported form at) b x = (b, x)
body_faulty text (Deep at) b x = (b, x)
body_faulty text Memory b x = absurd (body_placed text Memory x)

pub some_none : {A : Type 0} {x : Option A} {a : A} → x ≡ Some a → x ≡ None → ⊥
some_none e f = cc

same_place : {x : Option ℕ} {a b : ℕ} → x ≡ Some a → x ≡ Some b → a ≡ b
same_place e f = cc

causes_once : (text : Bytes) (f g : LexFault) → Cause text f → Cause text g → f ≡ g
causes_once text f g (by_nul at h e) (by_nul place i d) = e ∙ ap Nul (same_place h i) ∙ sym d
causes_once text f g (by_nul at h e) (by_first i j d) = absurd (some_none h i)
causes_once text f g (by_nul at h e) (by_body b y) = absurd (some_none h b.no_nul)
causes_once text f g (by_first i j d) (by_nul at h e) = absurd (some_none h i)
causes_once text f g (by_first i j d) (by_first i' j' d') = d ∙ sym d'
causes_once text f g (by_first i j d) (by_body b y) = absurd (some_none b.first j)
causes_once text f g (by_body b y) (by_nul at h e) = absurd (some_none h b.no_nul)
causes_once text f g (by_body b y) (by_first i j d) = absurd (some_none b.first j)
causes_once text f g (by_body b y) (by_body b' y') = same_stop (items_one y y') refl

-- a text has one fault at most
pub fault_once : (text : Bytes) (f g : LexFault) → Faulty text f → Faulty text g → g ≡ f
fault_once text f g h i = causes_once text g f (cause text g i) (cause text f h)

cause_or_cut : (text : Bytes) (f : LexFault) (l : Lexed) → Cause text f → Cut text l → ⊥
cause_or_cut text f l (by_nul at h e) c = some_none h c.no_nul
cause_or_cut text f l (by_first i j d) c = some_none c.first j
cause_or_cut text f l (by_body b y) c = no_stop (items_one c.body y)

-- a text with a fault has no cut
pub fault_or_cut : (text : Bytes) (f : LexFault) (l : Lexed) → Faulty text f → Cut text l → ⊥
fault_or_cut text f l h c = cause_or_cut text f l (cause text f h) c

-- ---- what the scanner gives

whole_rest : {A : Type 0} {v w : A} {r t : Bytes} → Whole v r ≡ Whole w t → t ≡ r
whole_rest e = cc

behind_whole : {A : Type 0} (xs v : List A) (r : Bytes) (q : Out (List A)) → behind xs q ≡ Whole v r → (w : List A) × (q ≡ Whole w r)
behind_whole xs v r (Whole w t) e = (w, ap (Whole w) (sym (whole_rest e)))
behind_whole xs v r (Stop f) e = absurd (no_stop (sym e))

-- outside substitutions a reading goes to the end
top_ends : {deep : ℕ → Bool} {len «from» parens : ℕ} {text : Bytes} {q : Out (List Token)} (v : List Token) (r : Bytes) → IsItems deep len 0 «from» parens text q → q ≡ Whole v r → r ≡ []
top_ends v r (items_end h e) is = sym (whole_rest (sym is ∙ e))
top_ends v r (items_pass t h x) is = top_ends v r x is
top_ends v r (items_wrong f h e) is = absurd (no_stop (sym is ∙ e))
top_ends v r (items_close s t h c e) is = absurd (cc c)
top_ends {deep} {len} {text = text} v r (items_sign s t q1 h c x e) is = let a = behind_whole (token_at (place len (skip text)) (kind_of_sign s) ∷ []) v r q1 (sym e ∙ is) in top_ends a.0 r x a.1
top_ends {deep} {len} {text = text} v r (items_word w t q1 h i l x e) is = let a = behind_whole (token_at (place len (skip text)) (token.Word w.0) ∷ []) v r q1 (sym e ∙ is) in top_ends a.0 r x a.1
top_ends v r (items_late w t f h i l e) is = absurd (no_stop (sym is ∙ e))
top_ends v r (items_bad f h i e) is = absurd (no_stop (sym is ∙ e))

module _ (text : Bytes) (strict : Bool) (begin : ℕ) (n : nul_of text ≡ None) (i : interpreter (first_line text) ≡ Some strict) (b : drop begin text ≡ behind_line text) where
  pub cut_read : (tokens : List Token) (end size : ℕ) → ItemsRead text 0 0 begin (Ok (tokens, end)) → size ≡ length text → Cut text (made strict tokens size)
  cut_read tokens end size r e =
      let none : drop end text ≡ [] = top_ends tokens (drop end text) r.2 refl in
      record { no_nul = n; first = i; end = e; body = subst (λ t. IsItems too_deep (length text) 0 0 0 t (Whole tokens [])) b (subst (λ r. IsItems too_deep (length text) 0 0 0 (drop begin text) (Whole tokens r)) none r.2) }

  pub fault_read : (f : LexFault) → ItemsRead text 0 0 begin (Err f) → Caused (Faulty text) f
  fault_read f r = caused_map (λ g. IsItems too_deep (length text) 0 0 0 (drop begin text) (Stop g)) (Faulty text) f
      (λ g x. body_faulty text g (record { no_nul = n; strict = strict; first = i }) (subst (λ t. IsItems too_deep (length text) 0 0 0 t (Stop g)) b x)) r

-- ---- the clauses of an answer

pub only_cut : (text : Bytes) (l : Lexed) → Cut text l → (other : Lexed) → Cut text other → other ≡ l
only_cut text l c other d = cut_once text other l d c

pub no_fault : (text : Bytes) (l : Lexed) → Cut text l → (f : LexFault) → Faulty text f → ⊥
no_fault text l c f h = fault_or_cut text f l h c

pub no_other : (text : Bytes) (f : LexFault) → Caused (Faulty text) f → Caused (λ fault. (other : LexFault) → Faulty text other → other ≡ fault) f
no_other text f h = caused_map (Faulty text) (λ fault. (other : LexFault) → Faulty text other → other ≡ fault) f (λ g x other y. fault_once text g other x y) h

pub no_cut : (text : Bytes) (f : LexFault) → Caused (Faulty text) f → Caused (λ fault. (l : Lexed) → Cut text l → ⊥) f
no_cut text f h = caused_map (Faulty text) (λ fault. (l : Lexed) → Cut text l → ⊥) f (λ g x l c. fault_or_cut text g l x c) h
