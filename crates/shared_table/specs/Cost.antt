-- What a change of a shared list may cost.
use Rattle.std.specs.Prelude.{ℕ, ◌+◌, ◌^◌, ◌<◌, ◌≤◌, List, length}

-- from `before` to `after` there are at most as many steps as the number of items has digits to the base 16, plus one:
-- so for each number of digits that is enough, and hence for the least
abbrev pub TakesFewSteps : {A : Type 0} → List A → ℕ → ℕ → Type 0
TakesFewSteps items before after =
    (digits : ℕ) → 0 < digits → length items < 16 ^ digits → after ≤ before + (digits + 1)
