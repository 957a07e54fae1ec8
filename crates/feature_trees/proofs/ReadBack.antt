-- The text of a tree is read as the tree.
use Rattle.std.proofs.Common.{◌≡◌, ℕ, ◌+◌, ◌≤◌, Bool, true, false, IsTrue, List, [], ◌∷◌, map, Option, Some, None, Ok, Err, refl, sym, ap, ◌∙◌, arith}
use Rattle.std.specs.Prelude.{if◌then◌else◌}
use Rattle.std.specs.Option.{option_map, option_and_then}
use Rattle.script_names.specs.Paths.{is_filled}
use Rattle.shown_texts.specs.Parts.{parts}
use Rattle.shown_texts.specs.Lines.{lines_text, but_last}
use Rattle.shown_texts.proofs.LineTexts.{lines_read}
use Rattle.feature_trees.specs.declared.shape.Entry.{Entry}
use Rattle.feature_trees.specs.declared.value.Value.{Value}
use Rattle.feature_trees.specs.declared.value.Value.TheVariants.{Absent, Reg, Link, Special, Dir}
use Rattle.feature_trees.specs.declared.read.TheConstants.{MOST_NAMES}
use Rattle.feature_trees.specs.declared.read.TreeFault.TheVariants.{Line}
use Rattle.feature_trees.specs.declared.read.TreeLine.{TreeLine}
use Rattle.feature_trees.specs.Tree.{at, put, has_parents}
use Rattle.feature_trees.specs.Shape.{count_all}
use Rattle.feature_trees.specs.Sound.{IsTree, sound_all}
use Rattle.feature_trees.specs.Readable.{depth, of_bytes, entries_depth, entries_bytes}
use Rattle.feature_trees.specs.TreeLines.{is_there, whole_lines, text_lines, line_says, with_line, and_then, with_lines, tree_of}
use Rattle.feature_trees.specs.TreeText.{entries_lines, tree_lines, tree_text, first_version_line}
use Rattle.feature_trees.proofs.FirstVersion.{lines_whole as whole_firsts, lines_say_same}
use Rattle.feature_trees.proofs.TreeAdds.{add, add_all, adds, adds_build}
use Rattle.feature_trees.proofs.LinesBack.{AreReadable, listed, under, lines_back, lines_whole, lines_listed}

-- lines that end in a newline are the lines
whole_is : (ps ls : List (List ℕ)) → but_last ps ≡ Some ls → whole_lines ps ≡ ls
whole_is [] ls e = cc
whole_is (p ∷ []) ls e = step (is_filled p) e
  where
    step : (t : Bool) → (if t then None else Some []) ≡ Some ls → (if t then p ∷ [] else []) ≡ ls
    step true e = cc
    step false e = let same : ◌≡◌ {A = Option (List (List ℕ))} (Some []) (Some ls) = e in cc
whole_is (p ∷ q ∷ ps) ls e = step (but_last (q ∷ ps)) refl e (λ xs d. whole_is (q ∷ ps) xs d)
  where
    step : (o : Option (List (List ℕ))) → but_last (q ∷ ps) ≡ o → option_map (λ x. p ∷ x) o ≡ Some ls
        → ((xs : List (List ℕ)) → but_last (q ∷ ps) ≡ Some xs → whole_lines (q ∷ ps) ≡ xs) → whole_lines (p ∷ q ∷ ps) ≡ ls
    step None d e more = cc
    step (Some xs) d e more = let same : p ∷ xs ≡ ls = cc in ap (λ l. p ∷ l) (more xs d) ∙ same

-- a line that can be added stands
stands : (n : ℕ) (v u : Value) (x : TreeLine) → add v x ≡ Some u → with_line n v (Some x) ≡ Ok u
stands n v u x e = step (is_there (at v x.names)) (has_parents v x.names) e
  where
    step : (a b : Bool) → (if a then None else (if b then Some (put v x.names x.value) else None)) ≡ Some u
        → (if a then Err (Line n 2) else (if b then Ok (put v x.names x.value) else Err (Line n 3))) ≡ Ok u
    step true b e = cc
    step false true e = let same : put v x.names x.value ≡ u = cc in ap Ok same
    step false false e = cc

-- lines that say what can be added give the tree with it
all_stand : (n : ℕ) (v w : Value) (ls : List (List ℕ)) (xs : List TreeLine) → map line_says ls ≡ map Some xs → add_all v xs ≡ Some w → with_lines n v ls ≡ Ok w
all_stand n v w [] [] e f = let same : v ≡ w = cc in ap Ok same
all_stand n v w [] (x ∷ xs) e f = cc
all_stand n v w (l ∷ ls) [] e f = cc
all_stand n v w (l ∷ ls) (x ∷ xs) e f =
    let first : line_says l ≡ Some x = cc in
    let rest : map line_says ls ≡ map Some xs = cc in
    ap (λ said. and_then (λ u. with_lines (n + 1) u ls) (with_line n v said)) first
    ∙ goes (add v x) refl f (λ u d. all_stand (n + 1) u w ls xs rest d)
  where
    goes : (o : Option Value) → add v x ≡ o → option_and_then (λ u. add_all u xs) o ≡ Some w → ((u : Value) → add_all u xs ≡ Some w → with_lines (n + 1) u ls ≡ Ok w)
        → and_then (λ u. with_lines (n + 1) u ls) (with_line n v (Some x)) ≡ Ok w
    goes None d f more = cc
    goes (Some u) d f more = ap (and_then (λ u. with_lines (n + 1) u ls)) (stands n v u x d) ∙ more u f

under_none : (xs : List TreeLine) → map (under []) xs ≡ xs
under_none [] = refl
under_none (x ∷ xs) = ap (λ l. x ∷ l) (under_none xs)

entries_back : (es : List Entry) → sound_all es ≡ true → entries_bytes es ≡ true → entries_depth es ≤ MOST_NAMES → tree_of (lines_text (entries_lines es [])) ≡ Ok (Dir es)
entries_back es s b d =
    let k = count_all es in
    let ls = listed k [] es in
    let readable : AreReadable [] es = (refl, s, b, omega (arith, d)) in
    let lines : text_lines (lines_text ls) ≡ ls = whole_is (parts 10 (lines_text ls)) ls (lines_read ls (lines_whole k [] es readable)) in
    ap (λ ls. tree_of (lines_text ls)) (sym (lines_listed k [] es (omega arith)))
    ∙ ap (with_lines 1 (Dir [])) lines
    ∙ all_stand 1 (Dir []) (Dir es) ls (adds k es) (lines_back k [] es readable ∙ ap (map Some) (under_none (adds k es))) (adds_build k es s (omega arith))

-- as the first version has the lines
first_back : (es : List Entry) → sound_all es ≡ true → entries_bytes es ≡ true → entries_depth es ≤ MOST_NAMES → tree_of (lines_text (map first_version_line (entries_lines es []))) ≡ Ok (Dir es)
first_back es s b d =
    let k = count_all es in
    let ls = listed k [] es in
    let firsts = map first_version_line ls in
    let readable : AreReadable [] es = (refl, s, b, omega (arith, d)) in
    let lines : text_lines (lines_text firsts) ≡ firsts = whole_is (parts 10 (lines_text firsts)) firsts (lines_read firsts (whole_firsts ls (lines_whole k [] es readable))) in
    ap (λ ls. tree_of (lines_text (map first_version_line ls))) (sym (lines_listed k [] es (omega arith)))
    ∙ ap (with_lines 1 (Dir [])) lines
    ∙ all_stand 1 (Dir []) (Dir es) firsts (adds k es) (lines_say_same ls ∙ lines_back k [] es readable ∙ ap (map Some) (under_none (adds k es))) (adds_build k es s (omega arith))

pub first_read_back : (v : Value) → IsTree v → depth v ≤ MOST_NAMES → IsTrue (of_bytes v) → tree_of (lines_text (map first_version_line (tree_lines v))) ≡ Ok v
first_read_back Absent t d b = let e = t.dir in cc
first_read_back Reg t d b = let e = t.dir in cc
first_read_back (Link x) t d b = let e = t.dir in cc
first_read_back (Special s) t d b = let e = t.dir in cc
first_read_back (Dir es) t d b = first_back es t.sound b d

pub read_back : (v : Value) → IsTree v → depth v ≤ MOST_NAMES → IsTrue (of_bytes v) → tree_of (tree_text v) ≡ Ok v
read_back Absent t d b = let e = t.dir in cc
read_back Reg t d b = let e = t.dir in cc
read_back (Link x) t d b = let e = t.dir in cc
read_back (Special s) t d b = let e = t.dir in cc
read_back (Dir es) t d b = entries_back es t.sound b d
