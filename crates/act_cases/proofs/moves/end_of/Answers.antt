use Rattle.std.proofs.Common.{◌≡◌, ◌≢◌, ℕ, ◌+◌, ◌-◌, List, [], ◌∷◌, length, refl, sym, ◌∙◌, arith}
use Rattle.act_cases.specs.Looks.{end_of}
use Rattle.act_cases.proofs.Meets.{end_more}
use Rattle.act_cases.proofs.moves.end_of.Goals as goal

behind_some : (x y : ℕ) (names : List (List ℕ)) → length names ≢ 0 → y + (length names - 1) ≡ end_of x y names
behind_some x y [] ne = absurd (ne refl)
behind_some x y (f ∷ rest) ne =
    let e : y + (length (f ∷ rest) - 1) ≡ y + length rest = omega arith in e ∙ sym (end_more x y f rest)

pub returns-else-n-eq0 : goal.returns-else-n-eq0
returns-else-n-eq0 c = behind_some c.args.x c.args.y c.args.names.now c.if-n-eq0.false
