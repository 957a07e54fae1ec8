-- The usual base is what its text says.
use Rattle.std.proofs.Common.{◌≡◌, Ok, sym, ap}
use Rattle.system_base.specs.declared.base.Base.{Base}
use Rattle.system_base.specs.Bases.{base_of, known_of, usual, usual_text}

pub is_usual : (base : Base) → base_of usual_text ≡ Ok base → base ≡ usual
unfolding usual
is_usual base e = sym (ap known_of e)
