-- A valuation with one variable's value put in.
use Rattle.std.proofs.Common.{◌≡◌, ◌≢◌, ℕ, zero, suc, IsTrue, [], ◌∷◌, refl, ap, arith}
use Rattle.feature_trees.specs.declared.value.Value.{Value}
use Rattle.feature_trees.specs.declared.value.Value.TheVariants.{Absent}
use Rattle.feature_trees.specs.Sound.{sound}
use Rattle.tree_clauses.specs.Literals.{Valuation, value_of_variable, IsSound}

abbrev pub put_value : Valuation → ℕ → Value → Valuation
put_value [] zero v = v ∷ []
put_value [] (suc x) v = Absent ∷ put_value [] x v
put_value (w ∷ g) zero v = v ∷ g
put_value (w ∷ g) (suc x) v = w ∷ put_value g x v

pub put_same : (g : Valuation) (x : ℕ) (v : Value) → value_of_variable (put_value g x v) x ≡ v
put_same [] zero v = refl
put_same [] (suc x) v = put_same [] x v
put_same (w ∷ g) zero v = refl
put_same (w ∷ g) (suc x) v = put_same g x v

nothing : (x : ℕ) → value_of_variable [] x ≡ Absent
nothing zero = refl
nothing (suc x) = refl

pub put_other : (g : Valuation) (x y : ℕ) (v : Value) → y ≢ x → value_of_variable (put_value g x v) y ≡ value_of_variable g y
put_other [] zero zero v ne = absurd (ne refl)
put_other [] zero (suc y) v ne = refl
put_other [] (suc x) zero v ne = refl
put_other [] (suc x) (suc y) v ne = put_other [] x y v (λ e. ne (ap suc e))
put_other (w ∷ g) zero zero v ne = absurd (ne refl)
put_other (w ∷ g) zero (suc y) v ne = refl
put_other (w ∷ g) (suc x) zero v ne = refl
put_other (w ∷ g) (suc x) (suc y) v ne = put_other g x y v (λ e. ne (ap suc e))

first_sound : (w : Value) (g : Valuation) → IsSound (w ∷ g) → IsTrue (sound w)
first_sound w g s = s 0 Absent (omega arith)

rest_sound : (w : Value) (g : Valuation) → IsSound (w ∷ g) → IsSound g
rest_sound w g s = λ k d lt. s (suc k) d (omega arith)

more_sound : (w : Value) (g : Valuation) → IsTrue (sound w) → IsSound g → IsSound (w ∷ g)
more_sound w g one s zero d lt = one
more_sound w g one s (suc k) d lt = s k d (omega arith)

pub none_sound : IsSound []
none_sound k d lt = absurd (omega arith)

pub put_sound : (g : Valuation) (x : ℕ) (v : Value) → IsSound g → IsTrue (sound v) → IsSound (put_value g x v)
put_sound [] zero v s t = more_sound v [] t none_sound
put_sound [] (suc x) v s t = more_sound Absent (put_value [] x v) refl (put_sound [] x v none_sound t)
put_sound (w ∷ g) zero v s t = more_sound v g t (rest_sound w g s)
put_sound (w ∷ g) (suc x) v s t = more_sound w (put_value g x v) (first_sound w g s) (put_sound g x v (rest_sound w g s) t)

-- every value of it is sound, also past its end
pub sound_at : (g : Valuation) (x : ℕ) → IsSound g → IsTrue (sound (value_of_variable g x))
sound_at [] zero s = refl
sound_at [] (suc x) s = refl
sound_at (w ∷ g) zero s = first_sound w g s
sound_at (w ∷ g) (suc x) s = sound_at g x (rest_sound w g s)
