-- What is put back has a path with a name.
use Rattle.std.proofs.Common.{ℕ, ◌-◌, List, length, reverse, take, sym, subst, arith}
use Rattle.std.specs.Prelude.{All}
use Rattle.std.proofs.lemmas.List.{get_or-reverse, length-reverse}
use Rattle.std.proofs.lemmas.List.Elements.{All-take}
use Rattle.utility_calls.specs.declared.backs.Back.{Back}
use Rattle.utility_calls.specs.Backs.{IsNamed}
use Rattle.scenario_runs.specs.Runs.{restored}

all_reversed : {X : Type 0} (P : X → Type 0) (xs : List X) → All P xs → All P (reverse xs)
all_reversed P xs h k d lt =
    let high = length-reverse xs in
    subst P (sym (get_or-reverse xs k d (omega (arith, lt, high)))) (h (length xs - 1 - k) d (omega (arith, lt, high)))

pub restored_named : (backs : List Back) (n : ℕ) → All IsNamed backs → All IsNamed (restored backs n)
restored_named backs n h = all_reversed IsNamed (take n backs) (All-take IsNamed n backs h)
