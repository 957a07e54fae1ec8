-- A list of files has no more entries than bytes.
use Rattle.std.proofs.Common.{◌≡◌, ℕ, ◌+◌, ◌≤◌, Bool, true, false, List, [], ◌∷◌, length, Option, Some, None, Result, Ok, Err, refl, ap, subst, arith, length-append}
use Rattle.std.specs.Prelude.{◌==◌}
use Rattle.std.specs.List.{onto_first}
use Rattle.std.proofs.lemmas.List.{length-map}
use Rattle.std.proofs.lemmas.List.Splits.{slice_split-cons_yes, slice_split-cons_no, length-slice_split}
use Rattle.shown_texts.specs.Parts.{parts}
use Rattle.feature_trees.specs.TreeLines.{whole_lines, text_lines}
use Rattle.package_lists.specs.declared.fault.LineFault.{LineFault}
use Rattle.package_lists.specs.declared.list.Said.{Said}
use Rattle.package_lists.specs.declared.list.Said.TheVariants.{Nothing, Root, Names}
use Rattle.package_lists.specs.Entries.{EntryParts}
use Rattle.package_lists.specs.Faults.{and_then, IsAnswer}
use Rattle.package_lists.specs.Lists.{line_says, entry_why, with_entry, with_line, with_lines, finished, finished_entry, list_of}

-- ---- lines

-- with an empty part before the others, of which there is one at least
lines_more : (ps : List (List ℕ)) → 0 + 1 ≤ length ps → length (whole_lines ([] ∷ ps)) ≡ length (whole_lines ps) + 1
lines_more [] some = absurd (omega (arith, some))
lines_more (p ∷ ps) some = omega (arith)

-- with a byte before the first part
lines_longer : (b : ℕ) (ps : List (List ℕ)) → length (whole_lines (onto_first b ps)) ≤ length (whole_lines ps) + 1
lines_longer b [] = omega (arith)
lines_longer b (p ∷ []) = omega (arith)
lines_longer b (p ∷ q ∷ ps) = omega (arith)

lines_few : (text : List ℕ) → length (text_lines text) ≤ length text
lines_few [] = omega (arith)
lines_few (b ∷ bs) = step (b == 10) refl (lines_few bs)
  where
    step : (t : Bool) → (b == 10) ≡ t → length (text_lines bs) ≤ length bs → length (text_lines (b ∷ bs)) ≤ length (b ∷ bs)
    step true e rest =
        let is = ap (λ ps. length (whole_lines ps)) (slice_split-cons_yes (λ c. c == 10) b bs e) in
        let one = length-slice_split (λ c. c == 10) bs in
        omega (arith, is, lines_more (parts 10 bs) (omega (arith, one)), rest)
    step false e rest =
        let is = ap (λ ps. length (whole_lines ps)) (slice_split-cons_no (λ c. c == 10) b bs e) in
        omega (arith, is, lines_longer b (parts 10 bs), rest)

-- ---- entries

abbrev AtMost : ℕ → Result (List EntryParts) LineFault → Type 0
AtMost n (Ok entries) = length entries ≤ n
AtMost n (Err fault) = Unit {0}

entry_few : (n : ℕ) (before : List EntryParts) (entry : EntryParts) (why : Option ℕ)
    → AtMost (length before + 1) (with_entry n before entry why)
entry_few n before entry None = omega (arith, length-append before (entry ∷ []))
entry_few n before entry (Some why) = tt

line_few : (n : ℕ) (before : List EntryParts) (said : Said) → AtMost (length before + 1) (with_line n before said)
line_few n before Nothing = tt
line_few n before Root = omega (arith)
line_few n before (Names entry) = entry_few n before entry (entry_why before entry)

then_few : (more most : ℕ) (next : List EntryParts → Result (List EntryParts) LineFault) (r : Result (List EntryParts) LineFault)
    → ((entries : List EntryParts) → length entries ≤ more → AtMost most (next entries)) → AtMost more r → AtMost most (and_then next r)
then_few more most next (Ok entries) h few = h entries few
then_few more most next (Err fault) h few = tt

wider : (m n : ℕ) (r : Result (List EntryParts) LineFault) → m ≤ n → AtMost m r → AtMost n r
wider m n (Ok entries) le few = omega (arith, few, le)
wider m n (Err fault) le few = tt

with_few : (n : ℕ) (before : List EntryParts) (lines : List (List ℕ)) → AtMost (length before + length lines) (with_lines n before lines)
with_few n before [] = omega (arith)
with_few n before (line ∷ lines) =
    then_few (length before + 1) (length before + length (line ∷ lines)) (λ more. with_lines (n + 1) more lines)
    (with_line n before (line_says line))
    (λ entries le. wider (length entries + length lines) (length before + length (line ∷ lines)) (with_lines (n + 1) entries lines)
    (omega (arith, le)) (with_few (n + 1) entries lines))
    (line_few n before (line_says line))

list_few : (text : List ℕ) → AtMost (length text) (list_of text)
list_few text =
    then_few (length (text_lines text)) (length text) (λ all. Ok (finished all)) (with_lines 1 [] (text_lines text))
    (λ all le. omega (arith, length-map all (finished_entry all), le, lines_few text))
    (wider (length {A = EntryParts} [] + length (text_lines text)) (length (text_lines text)) (with_lines 1 [] (text_lines text)) (omega (arith))
    (with_few 1 [] (text_lines text)))

-- what was answered
pub answer_few : (text : List ℕ) (entries : List EntryParts) → IsAnswer (list_of text) (Ok entries) → length entries ≤ length text
answer_few text entries is = subst (AtMost (length text)) is (list_few text)
