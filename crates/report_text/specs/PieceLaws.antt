-- Scenarios, endings, traces and calls are read back from their texts.
use Rattle.std.specs.Prelude.{◌≡◌, ℕ, Bool, IsTrue, List, map, Option, Some}
use Rattle.std.specs.List.{list_all, join_with_byte}
use Rattle.script_names.specs.Ascii.{space}
use Rattle.shown_texts.specs.Marks.{mark_text, is_mark}
use Rattle.dpkg_scenarios.specs.Names.{scenario_name, scenario_named}
use Rattle.dpkg_scenarios.specs.Scenarios.{is_checked}
use Rattle.report_text.specs.PieceRead.{result_of, trace_of, call_of, is_ending, is_call}
use Rattle.report_text.specs.ReportText.{result_text, call_content}

-- each value's text is read as the value
abbrev pub IsReadBack : {X : Type 0} → (X → Bool) → (X → List ℕ) → (List ℕ → Option X) → Type 0
IsReadBack {X} is_value text_of value_of = (x : X) → IsTrue (is_value x) → value_of (text_of x) ≡ Some x

-- the texts of scenarios that a check answers for, of endings, traces and calls are read as their values
pub record PiecesReadBack : Type 0 where
  pub scenarios : IsReadBack is_checked scenario_name scenario_named
  pub endings : IsReadBack is_ending result_text result_of
  pub traces :
      IsReadBack (λ trace. list_all is_mark trace) (λ trace. join_with_byte space (map mark_text trace)) trace_of
  pub calls : IsReadBack is_call call_content call_of
