-- Lines as a list of texts in a value, and the text that they make.
use Rattle.std.proofs.Common.{◌≡◌, ℕ, List, [], ◌∷◌, ◌++◌, map, Some, sym, ap, ◌∙◌, append_assoc, append-nil}
use Rattle.serde_json.specs.Data.{string}
use Rattle.serde_json.specs.View.{items_of}
use Rattle.shown_texts.specs.Lines.{line, lines_text}
use Rattle.report_reader.specs.ReportRead.{lines_onto}

lines_added : (text : List ℕ) (ls : List (List ℕ)) → lines_onto text (items_of (map string ls)) ≡ Some (text ++ lines_text ls)
lines_added text [] = ap Some (sym (append-nil text))
lines_added text (l ∷ ls) = lines_added (text ++ line l) ls ∙ ap Some (append_assoc text (line l) (lines_text ls))

-- lines give their text
pub lines_back : (ls : List (List ℕ)) → lines_onto [] (items_of (map string ls)) ≡ Some (lines_text ls)
lines_back ls = lines_added [] ls
