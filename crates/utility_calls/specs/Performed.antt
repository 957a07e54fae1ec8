-- The acts that a call comes to meet their conditions.
use Rattle.std.specs.Prelude.{ℕ, List, All}
use Rattle.utility_calls.specs.declared.planned.Planned.{Planned}
use Rattle.utility_calls.specs.declared.planned.Planned.TheVariants.{Known, Ask, Print, Change, Unspecified}
use Rattle.utility_calls.specs.Acts.{IsPerformed}
use Rattle.utility_calls.specs.Calls.{call}

-- each act of a planned call meets the conditions of acts
abbrev pub HasPerformedActs : Planned → Type 0
HasPerformedActs (Known status) = Unit {0}
HasPerformedActs (Ask act negate) = IsPerformed act
HasPerformedActs (Print text) = Unit {0}
HasPerformedActs (Change lists) = All (λ acts. All IsPerformed acts) lists
HasPerformedActs (Unspecified why) = Unit {0}

-- whatever the words of a call
abbrev pub CallsHavePerformedActs : Type 0
CallsHavePerformedActs = (words : List (List ℕ)) → HasPerformedActs (call words)
