-- The lines of a tree in a version are texts of ASCII, and tell the lines of the second.
use Rattle.std.proofs.Common.{◌≡◌, ℕ, zero, suc, Bool, true, false, List, [], ◌∷◌, ◌++◌, take, drop, map, refl, sym, ap, ◌∙◌, arith}
use Rattle.std.specs.Prelude.{not, ◌==◌, codes, if◌then◌else◌}
use Rattle.std.specs.List.{list_all}
use Rattle.std.specs.Str.{bytes_eq}
use Rattle.std.proofs.lemmas.Bool.{and_parts, and_from}
use Rattle.std.proofs.lemmas.List.{take-append-drop}
use Rattle.std.proofs.lemmas.Slice.Eq.{bytes_eq-Decides}
use Rattle.shown_texts.proofs.Lists.{all_both}
use Rattle.feature_trees.specs.declared.kind.Special.TheVariants.{Fifo, Socket, Block, Char}
use Rattle.feature_trees.specs.declared.shape.Entry.{Entry}
use Rattle.feature_trees.specs.declared.value.Value.{Value}
use Rattle.feature_trees.specs.declared.value.Value.TheVariants.{Absent, Reg, Link, Special, Dir}
use Rattle.feature_trees.specs.declared.version.Version.{Version}
use Rattle.feature_trees.specs.declared.version.Version.TheVariants.{First, Second}
use Rattle.feature_trees.specs.Shape.{count_all}
use Rattle.feature_trees.specs.Tree.{entries_of}
use Rattle.feature_trees.specs.TreeText.{tree_lines, first_version_line}
use Rattle.feature_trees.specs.View.{value_of, IsThere}
use Rattle.feature_trees.proofs.Kept.{value_there}
use Rattle.feature_trees.proofs.LinesBack.{spelled, value_line as own_line, listed, lines_listed}
use Rattle.report_text.specs.Whole.{IsRepresentableTree}
use Rattle.report_text.proofs.LowTexts.{low}
use Rattle.report_text.proofs.TextApart.{tree_low}
use Rattle.report_json.specs.ReportJson.{version_lines}

-- ---- texts of ASCII

-- a line with this beginning
begun : (l : List ℕ) → bytes_eq (take 2 l) (codes "p ") ≡ true → l ≡ codes "p " ++ drop 2 l
begun l e = sym (take-append-drop 2 l) ∙ ap (λ t. t ++ drop 2 l) ((bytes_eq-Decides (take 2 l) (codes "p ")).0 e)

first_low : (l : List ℕ) → low l ≡ true → low (first_version_line l) ≡ true
first_low l h = step (bytes_eq (take 2 l) (codes "p ")) refl
  where
    step : (t : Bool) → bytes_eq (take 2 l) (codes "p ") ≡ t → low (if t then codes "o " ++ drop 2 l else l) ≡ true
    step true e = sym (ap low (begun l e)) ∙ h
    step false e = h

firsts_low : (ls : List (List ℕ)) → list_all low ls ≡ true → list_all low (map first_version_line ls) ≡ true
firsts_low [] h = refl
firsts_low (l ∷ ls) h =
    let k = and_parts (low l) (list_all low ls) h in
    and_from (low (first_version_line l)) (list_all low (map first_version_line ls)) (first_low l k.0) (firsts_low ls k.1)

-- the lines of a tree are texts of ASCII
pub lines_low : (version : Version) (v : Value) → IsRepresentableTree v → list_all low (version_lines version v) ≡ true
lines_low First v h = firsts_low (tree_lines v) (tree_low v h)
lines_low Second v h = tree_low v h

-- ---- no line of a tree begins with `o`

abbrev is_present : List ℕ → Bool
is_present [] = true
is_present (b ∷ l) = not (b == 111)

own_present : (w : Value) (path : List ℕ) → IsThere w → is_present (own_line w path) ≡ true
own_present Absent path t = absurd t
own_present Reg path t = refl
own_present (Link b) path t = refl
own_present (Special Fifo) path t = refl
own_present (Special Socket) path t = refl
own_present (Special Block) path t = refl
own_present (Special Char) path t = refl
own_present (Dir es) path t = refl

listed_present : (k : ℕ) (p : List (List ℕ)) (es : List Entry) → list_all is_present (listed k p es) ≡ true
listed_present zero p es = refl
listed_present (suc k) p [] = refl
listed_present (suc k) p (e ∷ es) =
    let w = value_of e.node in
    let q = p ++ e.name ∷ [] in
    and_from (is_present (own_line w (spelled q))) _ (own_present w (spelled q) (value_there e.node))
    (all_both is_present (listed k q (entries_of w)) (listed k p es) (listed_present k q (entries_of w)) (listed_present k p es))

tree_present : (v : Value) → list_all is_present (tree_lines v) ≡ true
tree_present Absent = refl
tree_present Reg = refl
tree_present (Link b) = refl
tree_present (Special s) = refl
tree_present (Dir es) =
    ap (list_all is_present) (sym (lines_listed (count_all es) [] es (omega arith))) ∙ listed_present (count_all es) [] es

-- ---- so a line of the first version tells that of the second

abbrev second_line : List ℕ → List ℕ
second_line [] = []
second_line (b ∷ l) = if b == 111 then 112 ∷ l else b ∷ l

kept : (l : List ℕ) → is_present l ≡ true → second_line l ≡ l
kept [] h = refl
kept (b ∷ l) h = step (b == 111) h
  where
    step : (t : Bool) → not t ≡ true → (if t then 112 ∷ l else b ∷ l) ≡ b ∷ l
    step true h = cc
    step false h = refl

line_told : (l : List ℕ) → is_present l ≡ true → second_line (first_version_line l) ≡ l
line_told l h = step (bytes_eq (take 2 l) (codes "p ")) refl
  where
    step : (t : Bool) → bytes_eq (take 2 l) (codes "p ") ≡ t → second_line (if t then codes "o " ++ drop 2 l else l) ≡ l
    step true e = sym (begun l e)
    step false e = kept l h

lines_told : (ls : List (List ℕ)) → list_all is_present ls ≡ true → map second_line (map first_version_line ls) ≡ ls
lines_told [] h = refl
lines_told (l ∷ ls) h =
    let k = and_parts (is_present l) (list_all is_present ls) h in
    let first = line_told l k.0 in
    let rest = lines_told ls k.1 in
    λ i. first i ∷ rest i

-- two trees with the same lines in a version have the same lines
pub version_told : (version : Version) (v w : Value) → version_lines version v ≡ version_lines version w → tree_lines v ≡ tree_lines w
version_told First v w e = sym (lines_told (tree_lines v) (tree_present v)) ∙ ap (map second_line) e ∙ lines_told (tree_lines w) (tree_present w)
version_told Second v w e = e
