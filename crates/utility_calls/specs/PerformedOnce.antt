-- That an act meets the conditions of acts has one proof at most, so that a ghost field may say it.
use Rattle.std.specs.Prelude.{◌≢◌, ℕ, List, [], Option, Some, None, All, refl}
use Rattle.script_names.specs.Paths.{PathParts}
use Rattle.utility_calls.specs.declared.acts.Act.{Act}
use Rattle.utility_calls.specs.Acts.{IsPerformed, IsMove, MovesFrom, moved, path_of, place_of}

-- what is refused has one proof at most
none_once : IsProp ⊥
none_once x y = absurd x

-- two proofs that two values differ are one
pub other_once : {A : Type 0} (a b : A) → IsProp (a ≢ b)
other_once a b x y = λ i e. none_once (x e) (y e) i

move_by : (o : Option PathParts) (names : List (List ℕ)) → IsProp (MovesFrom o names)
move_by None names x y = refl
move_by (Some a) names x y = λ i e. none_once (x e) (y e) i

pub move_once : (a : Act) → IsProp (IsMove a)
move_once a = move_by (moved a) (place_of a)

pub performed_once : (a : Act) → IsProp (IsPerformed a)
performed_once a x y = λ i. (
  (λ e. (other_once (path_of a).names [] (x.0 e).0 (y.0 e).0 i, other_once (place_of a) [] (x.0 e).1 (y.0 e).1 i)),
  move_once a x.1 y.1 i,
)

pub all_once : (acts : List Act) → IsProp (All IsPerformed acts)
all_once acts x y = λ i k d lt. performed_once _ (x k d lt) (y k d lt) i
