-- Rests of a text: what is left behind some of its bytes.
use Rattle.std.proofs.Common.{◌≡◌, ℕ, Bool, ◌&&◌, nat_eq, [], ◌∷◌, ◌++◌, append_assoc, refl, sym, ap, ◌∙◌}
use Rattle.shell_syntax.specs.declared.redirect.Redirect.{Redirect}
use Rattle.shell_lexer.specs.declared.sight.Sign.{Sign}
use Rattle.shell_lexer.specs.declared.sight.Sign.TheVariants as s
use Rattle.shell_lexer.specs.declared.token.RawPart.{RawPart}
use Rattle.shell_lexer.specs.declared.token.RawPart.TheVariants as part
use Rattle.std.proofs.Common.{Option, codes}
use Rattle.shell_syntax.specs.declared.key.Key.{Key}
use Rattle.shell_lexer.specs.Text.{Bytes, skip}
use Rattle.shell_lexer.specs.Spelling.{Stands, IsOperator, IsRedirected, output, output_one, append, append_one, error, append_error, input, input_zero, output_to_error, output_one_to_error, error_to_output}
use Rattle.shell_lexer.specs.SpelledParts.{IsParam, name, name_braced, name_default, number, number_braced, number_default, count, count_braced, IsQuoted, single, escaped, IsPiece}
use Rattle.std.proofs.lemmas.Bool.{cond_both}

-- the rest is the text behind some bytes, perhaps none
abbrev pub Behind : Bytes → Bytes → Type 0
Behind text rest = (bytes : Bytes) × (text ≡ bytes ++ rest)

-- the rest is the text behind at least one byte that counts
abbrev pub Ahead : Bytes → Bytes → Type 0
Ahead text rest = (b : ℕ) × (bytes : Bytes) × (skip text ≡ b ∷ (bytes ++ rest))

pub behind_then : (text middle rest : Bytes) → Behind text middle → Behind middle rest → Behind text rest
behind_then text middle rest h g = (h.0 ++ g.0, h.1 ∙ ap (λ t. h.0 ++ t) g.1 ∙ sym (append_assoc h.0 g.0 rest))

pub ahead_then : (text middle rest : Bytes) → Ahead text middle → Behind middle rest → Ahead text rest
ahead_then text middle rest h g = (h.0, h.1 ++ g.0, h.2 ∙ ap (λ t. h.0 ∷ (h.1 ++ t)) g.1 ∙ ap (λ t. h.0 ∷ t) (sym (append_assoc h.1 g.0 rest)))

-- joined lines at the front
pub skip_behind : (text : Bytes) → Behind text (skip text)
skip_behind [] = ([], refl)
skip_behind (a ∷ []) = ([], refl)
skip_behind (a ∷ b ∷ rest) =
    cond_both (nat_eq a 92 && nat_eq b 10) (skip rest) (a ∷ b ∷ rest) (λ t. Behind (a ∷ b ∷ rest) t)
    (λ e. let more = skip_behind rest in (a ∷ b ∷ more.0, ap (λ t. a ∷ b ∷ t) more.1)) (λ e. ([], refl))

pub ahead_behind : (text rest : Bytes) → Ahead text rest → Behind text rest
ahead_behind text rest h = behind_then text (skip text) rest (skip_behind text) (h.0 ∷ h.1, h.2)

-- ---- what is spelled

pub stands_behind : (bytes text rest : Bytes) → Stands bytes text rest → Behind text rest
stands_behind [] text rest h = ([], h)
stands_behind (b ∷ bytes) text rest h =
    let more = stands_behind bytes h.0 rest h.2 in
    behind_then text (skip text) rest (skip_behind text) (b ∷ more.0, h.1 ∙ ap (λ t. b ∷ t) more.1)

pub stands_ahead : (b : ℕ) (bytes text rest : Bytes) → Stands (b ∷ bytes) text rest → Ahead text rest
stands_ahead b bytes text rest h = let more = stands_behind bytes h.0 rest h.2 in (b, more.0, h.1 ∙ ap (λ t. b ∷ t) more.1)

redirected_ahead : (which : Redirect) (text rest : Bytes) → IsRedirected which text rest → Ahead text rest
redirected_ahead which text rest (output n) = stands_ahead 62 (n.blanks ++ codes "/dev/null") text rest n.stands
redirected_ahead which text rest (output_one n) = stands_ahead 49 (62 ∷ (n.blanks ++ codes "/dev/null")) text rest n.stands
redirected_ahead which text rest (append n) = stands_ahead 62 (62 ∷ (n.blanks ++ codes "/dev/null")) text rest n.stands
redirected_ahead which text rest (append_one n) = stands_ahead 49 (62 ∷ 62 ∷ (n.blanks ++ codes "/dev/null")) text rest n.stands
redirected_ahead which text rest (error n) = stands_ahead 50 (62 ∷ (n.blanks ++ codes "/dev/null")) text rest n.stands
redirected_ahead which text rest (append_error n) = stands_ahead 50 (62 ∷ 62 ∷ (n.blanks ++ codes "/dev/null")) text rest n.stands
redirected_ahead which text rest (input n) = stands_ahead 60 (n.blanks ++ codes "/dev/null") text rest n.stands
redirected_ahead which text rest (input_zero n) = stands_ahead 48 (60 ∷ (n.blanks ++ codes "/dev/null")) text rest n.stands
redirected_ahead which text rest (output_to_error n) = stands_ahead 62 (codes "&2") text rest n.stands
redirected_ahead which text rest (output_one_to_error n) = stands_ahead 49 (codes ">&2") text rest n.stands
redirected_ahead which text rest (error_to_output n) = stands_ahead 50 (codes ">&1") text rest n.stands

pub operator_ahead : (which : Sign) (text rest : Bytes) → IsOperator which text rest → Ahead text rest
operator_ahead s.Newline text rest h = stands_ahead 10 [] text rest h
operator_ahead s.Semi text rest h = stands_ahead 59 [] text rest h.0
operator_ahead s.DoubleSemi text rest h = stands_ahead 59 (codes ";") text rest h
operator_ahead s.AndAnd text rest h = stands_ahead 38 (codes "&") text rest h
operator_ahead s.OrOr text rest h = stands_ahead 124 (codes "|") text rest h
operator_ahead s.Bar text rest h = stands_ahead 124 [] text rest h.0
operator_ahead s.LeftParen text rest h = stands_ahead 40 [] text rest h.0
operator_ahead s.RightParen text rest h = stands_ahead 41 [] text rest h
operator_ahead (s.Redirect which) text rest h = redirected_ahead which text rest h

param_ahead : (key : Key) (default : Option Bytes) (text rest : Bytes) → IsParam key default text rest → Ahead text rest
param_ahead key default text rest (name {name = n} v h l) = stands_ahead 36 n text rest h
param_ahead key default text rest (name_braced {name = n} v h) = stands_ahead 36 (123 ∷ (n ++ codes "}")) text rest h
param_ahead key default text rest (name_default {name = n} {default = d} v f h) = stands_ahead 36 (123 ∷ (n ++ (codes ":-" ++ (d ++ codes "}")))) text rest h
param_ahead key default text rest (number {digit = d} v h) = stands_ahead 36 (d ∷ []) text rest h
param_ahead key default text rest (number_braced {digit = d} v h) = stands_ahead 36 (123 ∷ d ∷ codes "}") text rest h
param_ahead key default text rest (number_default {digit = n} {default = d} v f h) = stands_ahead 36 (123 ∷ n ∷ (codes ":-" ++ (d ++ codes "}"))) text rest h
param_ahead key default text rest (count h) = stands_ahead 36 (codes "#") text rest h
param_ahead key default text rest (count_braced h) = stands_ahead 36 (codes "{#}") text rest h

quoted_ahead : (bytes text rest : Bytes) → IsQuoted bytes text rest → Ahead text rest
quoted_ahead bytes text rest (single all h) =
    ahead_then text (bytes ++ 39 ∷ rest) rest (stands_ahead 39 [] text (bytes ++ 39 ∷ rest) h) (bytes ++ 39 ∷ [], sym (append_assoc bytes (39 ∷ []) rest))
quoted_ahead bytes text rest (escaped {byte = b} h) = ahead_then text (b ∷ rest) rest (stands_ahead 92 [] text (b ∷ rest) h) (b ∷ [], refl)

pub piece_ahead : (inside : Bool) (it : RawPart) (text rest : Bytes) → IsPiece inside it text rest → Ahead text rest
piece_ahead inside (part.Param key default quoted) text rest h = param_ahead key default text rest h.1
piece_ahead inside (part.Quoted bytes) text rest h = quoted_ahead bytes text rest h.1
piece_ahead inside _ text rest h = absurd h
