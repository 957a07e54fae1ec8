-- A line says what it says as the first version of reports has it.
use Rattle.std.proofs.Common.{◌≡◌, ℕ, Bool, true, false, List, [], ◌∷◌, ◌++◌, take, drop, map, refl, sym, ap, ◌∙◌}
use Rattle.std.proofs.lemmas.List.{take-append-drop}
use Rattle.std.proofs.lemmas.Slice.Eq.{bytes_eq-Decides}
use Rattle.std.specs.Prelude.{codes, if◌then◌else◌}
use Rattle.std.specs.List.{list_all}
use Rattle.std.specs.Str.{bytes_eq}
use Rattle.std.proofs.lemmas.Bool.{and_parts, and_from}
use Rattle.shown_texts.specs.Parts.{parts}
use Rattle.shown_texts.specs.Lines.{is_line}
use Rattle.feature_trees.specs.TreeLines.{line_of_words, line_says}
use Rattle.feature_trees.specs.TreeText.{first_version_line}

-- with `o` in place of `p`, the words of a line say the same
alike : (words : List (List ℕ)) → line_of_words (codes "o" ∷ words) ≡ line_of_words (codes "p" ∷ words)
alike [] = refl
alike (path ∷ []) = refl
alike (path ∷ target ∷ []) = refl
alike (path ∷ target ∷ word ∷ words) = refl

-- a line with this beginning
begun : (line : List ℕ) → bytes_eq (take 2 line) (codes "p ") ≡ true → line ≡ codes "p " ++ drop 2 line
begun line e = sym (take-append-drop 2 line) ∙ ap (λ t. t ++ drop 2 line) ((bytes_eq-Decides (take 2 line) (codes "p ")).0 e)

pub says_same : (line : List ℕ) → line_says (first_version_line line) ≡ line_says line
says_same line = step (bytes_eq (take 2 line) (codes "p ")) refl
  where
    step : (t : Bool) → bytes_eq (take 2 line) (codes "p ") ≡ t
        → line_says (if t then codes "o " ++ drop 2 line else line) ≡ line_says line
    step true e = alike (parts 32 (drop 2 line)) ∙ sym (ap line_says (begun line e))
    step false e = refl

pub line_whole : (line : List ℕ) → is_line line ≡ true → is_line (first_version_line line) ≡ true
line_whole line h = step (bytes_eq (take 2 line) (codes "p ")) refl
  where
    step : (t : Bool) → bytes_eq (take 2 line) (codes "p ") ≡ t → is_line (if t then codes "o " ++ drop 2 line else line) ≡ true
    step true e = sym (ap is_line (begun line e)) ∙ h
    step false e = h

pub lines_whole : (lines : List (List ℕ)) → list_all is_line lines ≡ true → list_all is_line (map first_version_line lines) ≡ true
lines_whole [] h = refl
lines_whole (line ∷ lines) h =
    let k = and_parts (is_line line) (list_all is_line lines) h in
    and_from (is_line (first_version_line line)) _ (line_whole line k.0) (lines_whole lines k.1)

pub lines_say_same : (lines : List (List ℕ)) → map line_says (map first_version_line lines) ≡ map line_says lines
lines_say_same [] = refl
lines_say_same (line ∷ lines) =
    let first = says_same line in
    let rest = lines_say_same lines in
    λ i. first i ∷ rest i
