-- Words of the same parts, but for what their substitutions hold: in both the same is looked for once they are whole.
use Rattle.std.proofs.Common.{◌≡◌, ℕ, Bool, false, if◌then◌else◌, ◌&&◌, ◌||◌, nat_eq, not, List, [], ◌∷◌, ◌++◌, refl, ap, ◌∙◌}
use Rattle.shell_lexer.specs.declared.token.RawPart.{RawPart}
use Rattle.shell_lexer.specs.declared.token.RawPart.TheVariants as raw
use Rattle.token_laws.specs.PrintedLaws.{holds_no_all}
use Rattle.shell_lexer.specs.Text.{Bytes}
use Rattle.shell_grammar.specs.Look.{Tokens}
use Rattle.shell_printing.proofs.WordNotes.{no_tilde, list_in, no_brace, are_plainly}
use Rattle.token_laws.proofs.PrintedNotes.{brace_run, list_run, tilde_run, run_is}

-- the same parts, but for the tokens of substitutions
pub data Shape : List RawPart → List RawPart → Type 0 where
  shape_none : Shape [] []
  shape_same : {ps qs : List RawPart} (p : RawPart) → Shape ps qs → Shape (p ∷ ps) (p ∷ qs)
  shape_run : {ps qs : List RawPart} (at two : ℕ) (ts us : Tokens) (quoted : Bool) → Shape ps qs → Shape (raw.Run at ts quoted ∷ ps) (raw.Run two us quoted ∷ qs)

pub shape_of : (ps : List RawPart) → Shape ps ps
shape_of [] = shape_none
shape_of (p ∷ ps) = shape_same p (shape_of ps)

pub shape_append : {ps qs xs ys : List RawPart} → Shape ps qs → Shape xs ys → Shape (ps ++ xs) (qs ++ ys)
shape_append shape_none t = t
shape_append (shape_same p s) t = shape_same p (shape_append s t)
shape_append (shape_run at two ts us quoted s) t = shape_run at two ts us quoted (shape_append s t)

-- ---- a plain run, and what follows it

tilde_on : (w : Bytes) (may : Bool) (f g : Bool → Bool) → ((b : Bool) → f b ≡ g b) → tilde_run may w f ≡ tilde_run may w g
tilde_on [] may f g h = h may
tilde_on (b ∷ w) may f g h = ap (λ x. if may && nat_eq b 126 then false else x) (tilde_on w (nat_eq b 61 || nat_eq b 58) f g h)

list_on : (w : Bytes) (dot : Bool) (f g : Bool → Bool) → ((b : Bool) → f b ≡ g b) → list_run dot w f ≡ list_run dot w g
list_on [] dot f g h = h dot
list_on (b ∷ w) dot f g h = ap (λ x. (nat_eq b 44 || (dot && nat_eq b 46)) || x) (list_on w (nat_eq b 46) f g h)

brace_on : (w : Bytes) (x y : Bool) (f g : Bool → Bool) → x ≡ y → ((b : Bool) → f b ≡ g b) → brace_run w x f ≡ brace_run w y g
brace_on [] x y f g e h = e
brace_on (b ∷ w) x y f g e h =
    ap (λ l. if nat_eq b 123 then not l else brace_run w x f) (list_on w false f g h) ∙ ap (λ l. if nat_eq b 123 then not (list_run false w g) else l) (brace_on w x y f g e h)

plainly_on : (w cs : Bytes) (f g : Bytes → Bool) → ((cs : Bytes) → f cs ≡ g cs) → run_is cs w f ≡ run_is cs w g
plainly_on [] cs f g h = h cs
plainly_on (b ∷ w) [] f g h = refl
plainly_on (b ∷ w) (c ∷ cs) f g h = ap (λ x. nat_eq b c && x) (plainly_on w cs f g h)

-- ---- what is looked for

pub tilde_shape : {ps qs : List RawPart} → Shape ps qs → (may : Bool) → no_tilde qs may ≡ no_tilde ps may
tilde_shape shape_none may = refl
tilde_shape (shape_same {ps} {qs} (raw.Plain w) s) may = tilde_on w may (no_tilde qs) (no_tilde ps) (tilde_shape s)
tilde_shape (shape_same _ s) may = tilde_shape s false
tilde_shape (shape_run at two ts us quoted s) may = tilde_shape s false

list_shape : {ps qs : List RawPart} → Shape ps qs → (dot : Bool) → list_in qs dot ≡ list_in ps dot
list_shape shape_none dot = refl
list_shape (shape_same {ps} {qs} (raw.Plain w) s) dot = list_on w dot (list_in qs) (list_in ps) (list_shape s)
list_shape (shape_same _ s) dot = list_shape s false
list_shape (shape_run at two ts us quoted s) dot = list_shape s false

pub brace_shape : {ps qs : List RawPart} → Shape ps qs → no_brace qs ≡ no_brace ps
brace_shape shape_none = refl
brace_shape (shape_same {ps} {qs} (raw.Plain w) s) = brace_on w (no_brace qs) (no_brace ps) (list_in qs) (list_in ps) (brace_shape s) (list_shape s)
brace_shape (shape_same _ s) = brace_shape s
brace_shape (shape_run at two ts us quoted s) = brace_shape s

pub plainly_shape : {ps qs : List RawPart} → Shape ps qs → (cs : Bytes) → are_plainly qs cs ≡ are_plainly ps cs
plainly_shape shape_none cs = refl
plainly_shape (shape_same {ps} {qs} (raw.Plain w) s) cs = plainly_on w cs (are_plainly qs) (are_plainly ps) (plainly_shape s)
plainly_shape (shape_same _ s) cs = refl
plainly_shape (shape_run at two ts us quoted s) cs = refl

pub no_all_shape : {ps qs : List RawPart} → Shape ps qs → holds_no_all qs ≡ holds_no_all ps
no_all_shape shape_none = refl
no_all_shape (shape_same raw.All s) = refl
no_all_shape (shape_same _ s) = no_all_shape s
no_all_shape (shape_run at two ts us quoted s) = no_all_shape s
