-- One step of the loops over redirections and over a script's members.
use Rattle.std.proofs.Common.{◌≡◌, ℕ, suc, ◌+◌, ◌-◌, ◌<◌, ◌≤◌, List, [], ◌∷◌, ◌++◌, length, take, drop, get_or, refl, sym, ap, ◌∙◌, add-one, append_assoc, append-nil, arith}
use Rattle.std.proofs.Math.Seq.{drop-cons, take-suc}
use Rattle.std.proofs.lemmas.List.{drop_all, take_all}
use Rattle.shell_syntax.specs.declared.redirect.Redirect.{Redirect}
use Rattle.shell_syntax.specs.declared.syntax.Command.{Command}
use Rattle.colis_syntax.specs.declared.def.Def.{Def}
use Rattle.colis_syntax.specs.declared.syntax.Stmt.{Stmt}
use Rattle.shell_to_colis.specs.Translated.{translated, redirect_to, redirected_to, defs_behind, defs_to, body_statements}

-- the last redirection is inside
pub redirected_end : (at : ℕ) (rs : List Redirect) (r : Redirect) (s : Stmt) → redirected_to at (rs ++ r ∷ []) s ≡ redirected_to at rs (redirect_to at r s)
redirected_end at [] r s = refl
redirected_end at (x ∷ rs) r s = ap (redirect_to at x) (redirected_end at rs r s)

-- the last of some redirections is done
pub redirected_step : (at : ℕ) (left : List Redirect) (d : Redirect) (s more all : Stmt) → 1 ≤ length left → more ≡ redirect_to at (get_or left (length left - 1) d) s
    → redirected_to at left s ≡ all → redirected_to at (take (length left - 1) left) more ≡ all
redirected_step at left d s more all some e so_far =
    let n : ℕ = length left - 1 in
    let lt : n < length left = omega (arith, some) in
    let is : suc n ≡ length left = omega (arith, some) in
    ap (redirected_to at (take n left)) e ∙ sym (redirected_end at (take n left) (get_or left n d) s)
    ∙ ap (λ l. redirected_to at l s) (sym (take-suc left n d lt) ∙ ap (λ m. take m left) is ∙ take_all (length left) left (omega arith)) ∙ so_far

-- one member further on
member_at : (cs : List Command) (i : ℕ) (c : Command) → i < length cs → c ≡ get_or cs i c → drop i cs ≡ (c ∷ drop (i + 1) cs)
member_at cs i c lt is = drop-cons cs i c lt ∙ ap (λ x. x ∷ drop (suc i) cs) (sym is) ∙ ap (λ n. c ∷ drop n cs) (sym (add-one i))

pub defs_on : (cs : List Command) (i : ℕ) (c : Command) (defs next all : List Def) → i < length cs → c ≡ get_or cs i c
    → next ≡ defs_behind c defs → defs_to (drop i cs) defs ≡ all → defs_to (drop (i + 1) cs) next ≡ all
defs_on cs i c defs next all lt is e so_far =
    ap (defs_to (drop (i + 1) cs)) e ∙ ap (λ ms. defs_to ms defs) (sym (member_at cs i c lt is)) ∙ so_far

pub statements_on : (cs : List Command) (i : ℕ) (c : Command) (defs next : List Def) (stmts more all : List Stmt) → i < length cs → c ≡ get_or cs i c
    → next ≡ defs_behind c defs → more ≡ stmts ++ translated c defs ∷ [] → stmts ++ body_statements (drop i cs) defs ≡ all
    → more ++ body_statements (drop (i + 1) cs) next ≡ all
statements_on cs i c defs next stmts more all lt is e h so_far =
    ap (λ ds. more ++ body_statements (drop (i + 1) cs) ds) e
    ∙ ap (λ l. l ++ body_statements (drop (i + 1) cs) (defs_behind c defs)) h
    ∙ append_assoc stmts (translated c defs ∷ []) (body_statements (drop (i + 1) cs) (defs_behind c defs))
    ∙ ap (λ ms. stmts ++ body_statements ms defs) (sym (member_at cs i c lt is)) ∙ so_far

pub defs_end : (cs : List Command) (i : ℕ) (defs all : List Def) → length cs ≤ i → defs_to (drop i cs) defs ≡ all → defs ≡ all
defs_end cs i defs all end so_far = ap (λ ms. defs_to ms defs) (sym (drop_all i cs end)) ∙ so_far

pub statements_end : (cs : List Command) (i : ℕ) (defs : List Def) (stmts all : List Stmt) → length cs ≤ i
    → stmts ++ body_statements (drop i cs) defs ≡ all → stmts ≡ all
statements_end cs i defs stmts all end so_far =
    sym (append-nil stmts) ∙ ap (λ ms. stmts ++ body_statements ms defs) (sym (drop_all i cs end)) ∙ so_far
