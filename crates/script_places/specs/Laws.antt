-- What holds of the words: each row of each table has some, and those of what changes files begin with "fails:" exactly
-- where the row is a failure.
use Rattle.std.specs.Prelude.{◌≡◌, ℕ, Bool, true, false, not, ◌&&◌, List, take, codes, if◌then◌else◌}
use Rattle.std.specs.List.{list_all}
use Rattle.std.specs.Str.{bytes_eq}
use Rattle.script_names.specs.Paths.{is_filled}
use Rattle.script_names.specs.declared.reason.Done.{Done}
use Rattle.script_names.specs.declared.reason.Done.TheVariants.{Ok, Failed, Stopped}
use Rattle.utility_calls.specs.declared.acts.Act.{Act}
use Rattle.utility_calls.specs.declared.acts.Act.TheVariants.{Exists, IsReg, IsDir, IsLink, CanRun, IsSpecial}
use Rattle.utility_calls.specs.declared.backs.Back.{Back}
use Rattle.utility_calls.specs.declared.sights.Rule.{Rule}
use Rattle.utility_calls.specs.Acts.{is_below}
use Rattle.utility_calls.specs.Backs.{back_rules}
use Rattle.utility_calls.specs.Table.{rules}
use Rattle.script_places.specs.ActWords.{row_words}
use Rattle.script_places.specs.BackWords.{back_row_words}

-- whether words tell of a failure
abbrev pub tells_failure : List ℕ → Bool
tells_failure words = bytes_eq (take 6 words) (codes "fails:")

-- whether an answer is one
abbrev pub is_failure : Done → Bool
is_failure Ok = false
is_failure Failed = true
is_failure (Stopped reason) = false

-- whether an act is a test, whose failure is an answer as good as its success
abbrev pub is_test : Act → Bool
is_test (Exists p) = true
is_test (IsReg p) = true
is_test (IsDir p) = true
is_test (IsLink p) = true
is_test (CanRun p runs) = true
is_test (IsSpecial p kind) = true
is_test act = false

-- whether words fit a row: there are some, and they tell of a failure where it is one, and of none in a test
abbrev pub fit : Bool → List ℕ → Rule → Bool
fit test words r =
    is_filled words
    && (if is_failure r.answer && not test then tells_failure words else not (tells_failure words))

-- the words of each row of an act's own table fit it
abbrev pub ActWordsFit : Type 0
ActWordsFit = (act : Act)
    → list_all (λ r. fit (is_test act) (row_words act r.number) r) (rules (is_below act) act) ≡ true

-- the words of each row of what is put back fit it
abbrev pub BackWordsFit : Type 0
BackWordsFit = (back : Back) → list_all (λ r. fit false (back_row_words back r.number) r) (back_rules back) ≡ true
