-- A text that is added behind another.
use Rattle.std.proofs.Common.{◌≡◌, ℕ, List, ◌++◌, Result, Ok, Err, OnOk, ap, ◌∙◌, append_assoc}
use Rattle.script_names.specs.declared.memory.Memory.{Memory}

pub behind : (r : Result (Unit {0}) Memory) (t0 t1 t2 a b : List ℕ) → t1 ≡ t0 ++ a → OnOk r (t2 ≡ t1 ++ b) → OnOk r (t2 ≡ t0 ++ (a ++ b))
behind (Ok done) t0 t1 t2 a b e is = is ∙ ap (λ t. t ++ b) e ∙ append_assoc t0 a b
behind (Err missing) t0 t1 t2 a b e is = tt
