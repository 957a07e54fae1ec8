-- A text comes to one accepted script, or to one refusal.
use Rattle.std.proofs.Common.{◌≡◌, ℕ, inl, inr, Bool, List, [], ◌∷◌, Result, Ok, Err, slice_index_or, refl, sym, ap, subst, ◌∙◌, arith}
use Rattle.std.specs.List.{Contains}
use Rattle.shell_syntax.specs.declared.form.Form.{Form as FormName}
use Rattle.shell_syntax.specs.declared.form.Form.TheVariants as form
use Rattle.shell_syntax.specs.declared.syntax.Command.{Command}
use Rattle.shell_syntax.specs.declared.script.Script.{Script}
use Rattle.shell_lexer.specs.declared.fault.LexFault.{LexFault}
use Rattle.shell_lexer.specs.declared.fault.LexFault.TheVariants as lexing
use Rattle.shell_lexer.specs.declared.token.Lexed.{Lexed}
use Rattle.shell_lexer.specs.Lexed.{Cut, Faulty}
use Rattle.shell_lexer.proofs.CutOnce.{cut_once, fault_once, fault_or_cut}
use Rattle.shell_grammar.specs.declared.fault.ParseFault.{ParseFault}
use Rattle.shell_grammar.specs.declared.fault.ParseFault.TheVariants as parsing
use Rattle.shell_grammar.specs.Look.{Tokens}
use Rattle.shell_grammar.specs.Spelling.{deep_64, SpellsWithin, Stopped}
use Rattle.shell_grammar.proofs.Unique.{wholes, same_rule}
use Rattle.shell_grammar.proofs.Limits.{not_stopped, one_fault}
use Rattle.shell_forms.specs.Forms.{Found}
use Rattle.shell_forms.specs.First.{rank, script_forms, NotBehind, IsFirst}
use Rattle.checker_input.specs.declared.script.ScriptFault.{ScriptFault}
use Rattle.checker_input.specs.declared.script.ScriptFault.TheVariants as reason
use Rattle.checker_input.specs.Script.{IsScript, IsAccepted, HasSyntaxFault, HasForm, TextComes}

-- ---- a text is one script

same_parts : {a b : Bool} {x y : Command} → a ≡ b → x ≡ y → ◌≡◌ {A = Script} (record { strict = a; body = x }) (record { strict = b; body = y })
same_parts e f = rw (e, f) refl

one_body : (end : ℕ) (ts : Tokens) (a b : Command) → SpellsWithin end ts a → SpellsWithin end ts b → a ≡ b
one_body end ts a b x y = (wholes (same_rule deep_64 x.reads y.reads)).0

one_script : (text : List ℕ) (a b : Script) → IsScript text a → IsScript text b → a ≡ b
one_script text a b x y =
    let same = cut_once text x.lexed y.lexed x.cut y.cut in
    let spells = subst (λ (l : Lexed). SpellsWithin l.end l.tokens a.body) same x.spells in
    same_parts (x.strict ∙ ap (λ (l : Lexed). l.strict) same ∙ sym y.strict) (one_body y.lexed.end y.lexed.tokens a.body b.body spells y.spells)

-- a script has no fault of syntax
no_syntax_fault : (text : List ℕ) (a : Script) (fault : ParseFault) → IsScript text a → HasSyntaxFault text fault → ⊥
no_syntax_fault text a fault x y =
    let same = cut_once text y.lexed x.lexed y.cut x.cut in
    not_stopped x.lexed.end x.lexed.tokens a.body x.spells.rest x.spells.reads fault (subst (λ (l : Lexed). Stopped l.end l.tokens fault) same y.stops)

one_syntax_fault : (text : List ℕ) (f g : ParseFault) → HasSyntaxFault text f → HasSyntaxFault text g → f ≡ g
one_syntax_fault text f g x y =
    let same = cut_once text x.lexed y.lexed x.cut y.cut in
    one_fault y.lexed.end y.lexed.tokens f g (subst (λ (l : Lexed). Stopped l.end l.tokens f) same x.stops) y.stops

-- ---- of forms one is the first

-- the forms by their rank
abbrev forms : List FormName
forms =
    form.Heredoc ∷ form.Arith ∷ form.Background ∷ form.Backquote ∷ form.Param ∷ form.AllArgs ∷ form.Redirect ∷ form.Tilde ∷ form.Brace
    ∷ form.SubstCase ∷ form.Option ∷ form.Ifs ∷ form.Prefix ∷ form.Export ∷ form.LoopExit ∷ form.Return ∷ form.FunctionPlace
    ∷ form.FunctionTwice ∷ form.FunctionName ∷ form.CallOrder ∷ []

abbrev ranked : ℕ → FormName
ranked n = slice_index_or forms n form.Heredoc

ranked_back : (f : FormName) → ranked (rank f) ≡ f
ranked_back form.Heredoc = refl
ranked_back form.Arith = refl
ranked_back form.Background = refl
ranked_back form.Backquote = refl
ranked_back form.Param = refl
ranked_back form.AllArgs = refl
ranked_back form.Redirect = refl
ranked_back form.Tilde = refl
ranked_back form.Brace = refl
ranked_back form.SubstCase = refl
ranked_back form.Option = refl
ranked_back form.Ifs = refl
ranked_back form.Prefix = refl
ranked_back form.Export = refl
ranked_back form.LoopExit = refl
ranked_back form.Return = refl
ranked_back form.FunctionPlace = refl
ranked_back form.FunctionTwice = refl
ranked_back form.FunctionName = refl
ranked_back form.CallOrder = refl

one_rank : (f g : FormName) → rank f ≡ rank g → f ≡ g
one_rank f g e = sym (ranked_back f) ∙ ap ranked e ∙ ranked_back g

same_found : {f g : FormName} {m n : ℕ} → f ≡ g → m ≡ n → ◌≡◌ {A = Found} (f, m) (g, n)
same_found e d = rw (e, d) refl

both_ways : (x y : Found) → NotBehind x y → NotBehind y x → x ≡ y
both_ways x y (inl a) (inl b) = absurd (omega (arith, a, b))
both_ways x y (inl a) (inr b) = absurd (omega (arith, a, b.0))
both_ways x y (inr a) (inl b) = absurd (omega (arith, a.0, b))
both_ways x y (inr a) (inr b) = same_found (one_rank x.0 y.0 (omega (arith, a.1, b.1))) a.0

one_first : (all : List Found) (x y : Found) → IsFirst all x → IsFirst all y → x ≡ y
one_first all x y f g =
    both_ways x y
    (subst (NotBehind x) g.stands.2 (f.first g.stands.0 y g.stands.1))
    (subst (NotBehind y) f.stands.2 (g.first f.stands.0 x f.stands.1))

-- of no forms none is the first
none_first : (all : List Found) (x : Found) → all ≡ [] → IsFirst all x → ⊥
none_first all x e f = let some = (subst (λ (xs : List Found). Contains xs x) e f.stands).1 in omega (arith, some)

one_form : (text : List ℕ) (f g : FormName) (m n : ℕ) → HasForm text f m → HasForm text g n → ◌≡◌ {A = Found} (f, m) (g, n)
one_form text f g m n x y =
    let same = one_script text x.script y.script x.is_script y.is_script in
    one_first (script_forms y.script.body) (f, m) (g, n) (subst (λ (s : Script). IsFirst (script_forms s.body) (f, m)) same x.first) y.first

no_form : (text : List ℕ) (f : FormName) (m : ℕ) (a : Script) → HasForm text f m → IsAccepted text a → ⊥
no_form text f m a x y =
    let same = one_script text x.script a x.is_script y.is_script in
    none_first (script_forms a.body) (f, m) y.none (subst (λ (s : Script). IsFirst (script_forms s.body) (f, m)) same x.first)

-- ---- what a text comes to, and why

-- a fault of tokens and a fault of syntax, as a reason; want of memory is no fault of a text
abbrev of_tokens : LexFault → ScriptFault
of_tokens (lexing.Nul at) = reason.Nul at
of_tokens (lexing.Interpreter at) = reason.Interpreter at
of_tokens (lexing.OpenQuote at) = reason.OpenQuote at
of_tokens (lexing.OpenSubstitution at) = reason.OpenSubstitution at
of_tokens (lexing.Unsupported form at) = reason.Unsupported form at
of_tokens (lexing.Deep at) = reason.DeepSubstitution at
of_tokens lexing.Memory = reason.Nul 0

abbrev of_syntax : ParseFault → ScriptFault
of_syntax (parsing.Syntax at) = reason.Syntax at
of_syntax (parsing.Deep at) = reason.Deep at
of_syntax parsing.Memory = reason.Syntax 0

-- a text is no accepted script for a reason, or it is one
data Why (text : List ℕ) (r : Result Script ScriptFault) : Type 0 where
  by_tokens : (f : LexFault) → Faulty text f → r ≡ Err (of_tokens f) → Why text r
  by_syntax : (f : ParseFault) → HasSyntaxFault text f → r ≡ Err (of_syntax f) → Why text r
  by_form : (f : FormName) (at : ℕ) → HasForm text f at → r ≡ Err (reason.Form f at) → Why text r
  by_script : (script : Script) → IsAccepted text script → r ≡ Ok script → Why text r

why : (text : List ℕ) (r : Result Script ScriptFault) → TextComes text r → Why text r
why text (Ok script) is = by_script script is refl
why text (Err (reason.Nul at)) is = by_tokens (lexing.Nul at) is refl
why text (Err (reason.Interpreter at)) is = by_tokens (lexing.Interpreter at) is refl
why text (Err (reason.OpenQuote at)) is = by_tokens (lexing.OpenQuote at) is refl
why text (Err (reason.OpenSubstitution at)) is = by_tokens (lexing.OpenSubstitution at) is refl
why text (Err (reason.Unsupported f at)) is = by_tokens (lexing.Unsupported f at) is refl
why text (Err (reason.DeepSubstitution at)) is = by_tokens (lexing.Deep at) is refl
why text (Err (reason.Syntax at)) is = by_syntax (parsing.Syntax at) is refl
why text (Err (reason.Deep at)) is = by_syntax (parsing.Deep at) is refl
why text (Err (reason.Form f at)) is = by_form f at is refl

-- a fault of tokens leaves no cut
no_cut : (text : List ℕ) (f : LexFault) (l : Lexed) → Faulty text f → Cut text l → ⊥
no_cut text f l h c = fault_or_cut text f l h c

once : (text : List ℕ) (r s : Result Script ScriptFault) → Why text r → Why text s → r ≡ s
once text r s (by_tokens f h e) (by_tokens g i d) = e ∙ ap (λ x. Err (of_tokens x)) (sym (fault_once text f g h i)) ∙ sym d
once text r s (by_tokens f h e) (by_syntax g i d) = absurd (no_cut text f i.lexed h i.cut)
once text r s (by_tokens f h e) (by_form g n i d) = absurd (no_cut text f i.is_script.lexed h i.is_script.cut)
once text r s (by_tokens f h e) (by_script c i d) = absurd (no_cut text f i.is_script.lexed h i.is_script.cut)
once text r s (by_syntax f h e) (by_tokens g i d) = absurd (no_cut text g h.lexed i h.cut)
once text r s (by_syntax f h e) (by_syntax g i d) = e ∙ ap (λ x. Err (of_syntax x)) (one_syntax_fault text f g h i) ∙ sym d
once text r s (by_syntax f h e) (by_form g n i d) = absurd (no_syntax_fault text i.script f i.is_script h)
once text r s (by_syntax f h e) (by_script c i d) = absurd (no_syntax_fault text c f i.is_script h)
once text r s (by_form f m h e) (by_tokens g i d) = absurd (no_cut text g h.is_script.lexed i h.is_script.cut)
once text r s (by_form f m h e) (by_syntax g i d) = absurd (no_syntax_fault text h.script g h.is_script i)
once text r s (by_form f m h e) (by_form g n i d) = e ∙ ap (λ (x : Found). Err (reason.Form x.0 x.1)) (one_form text f g m n h i) ∙ sym d
once text r s (by_form f m h e) (by_script c i d) = absurd (no_form text f m c h i)
once text r s (by_script b h e) (by_tokens g i d) = absurd (no_cut text g h.is_script.lexed i h.is_script.cut)
once text r s (by_script b h e) (by_syntax g i d) = absurd (no_syntax_fault text b g h.is_script i)
once text r s (by_script b h e) (by_form g n i d) = absurd (no_form text g n b i h)
once text r s (by_script b h e) (by_script c i d) = e ∙ ap Ok (one_script text b c h.is_script i.is_script) ∙ sym d

pub text_once : (text : List ℕ) (r s : Result Script ScriptFault) → TextComes text r → TextComes text s → r ≡ s
text_once text r s x y = once text r s (why text r x) (why text s y)
