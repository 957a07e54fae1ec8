-- One more line of a tree's text.
use Rattle.std.proofs.Common.{◌≡◌, ℕ, ◌+◌, ◌<◌, Bool, true, false, List, [], ◌∷◌, length, get_or, drop, map, Option, Some, None, Result, Ok, Err, Bor, sym, ap, ◌∙◌, drop-cons, add-one}
use Rattle.std.specs.Prelude.{if◌then◌else◌}
use Rattle.feature_trees.specs.declared.kind.Kind.TheVariants as kind
use Rattle.feature_trees.specs.declared.value.Value.{Value}
use Rattle.feature_trees.specs.declared.value.Value.TheVariants.{Absent, Reg, Link, Special, Dir}
use Rattle.feature_trees.specs.declared.read.TreeFault.{TreeFault}
use Rattle.feature_trees.specs.declared.read.TreeFault.TheVariants.{Line}
use Rattle.feature_trees.specs.declared.read.TreeLine.{TreeLine}
use Rattle.feature_trees.specs.Tree.{at, kind_of, put, has_parents}
use Rattle.feature_trees.specs.TreeLines.{is_there, line_says, with_line, and_then, with_lines}

abbrev texts : List (Bor (List ℕ)) → List (List ℕ)
texts ls = map (λ line. line.now) ls

cut_one : (ls : List (Bor (List ℕ))) (i : ℕ) (d : Bor (List ℕ)) → i < length ls → texts (drop i ls) ≡ (get_or ls i d).now ∷ texts (drop (i + 1) ls)
cut_one ls i d lt = ap texts (drop-cons ls i d lt) ∙ ap (λ k. (get_or ls i d).now ∷ texts (drop k ls)) (sym (add-one i))

pub same_tree : (a b : Value) → ◌≡◌ {A = Result Value TreeFault} (Ok a) (Ok b) → a ≡ b
same_tree a b e = cc

named_dir : (n : ℕ) (tree more w : Value) (f : List ℕ) (p : List (List ℕ)) (here parents : Bool)
    → (if here then Err (Line n 2) else (if parents then Ok (put tree (f ∷ p) w) else Err (Line n 3))) ≡ Ok more → kind_of more ≡ kind.Dir
named_dir n tree more w f p true parents e = cc
named_dir n tree more w f p false true e = ap kind_of (sym (same_tree (put tree (f ∷ p) w) more e))
named_dir n tree more w f p false false e = cc

root_dir : (n : ℕ) (tree more w : Value) → (if is_there tree then Err (Line n 2) else Ok w) ≡ Ok more → kind_of tree ≡ kind.Dir → kind_of more ≡ kind.Dir
root_dir n Absent more w e d = cc
root_dir n Reg more w e d = cc
root_dir n (Link b) more w e d = cc
root_dir n (Special s) more w e d = cc
root_dir n (Dir es) more w e d = cc

-- a directory with a line is a directory
pub stays_dir : (n : ℕ) (tree more : Value) (line : Option TreeLine) → with_line n tree line ≡ Ok more → kind_of tree ≡ kind.Dir → kind_of more ≡ kind.Dir
stays_dir n tree more None e d = cc
stays_dir n tree more (Some line) e d = step line.names e
  where
    step : (p : List (List ℕ)) → (if is_there (at tree p) then Err (Line n 2) else (if has_parents tree p then Ok (put tree p line.value) else Err (Line n 3))) ≡ Ok more
        → kind_of more ≡ kind.Dir
    step [] e = root_dir n tree more line.value e d
    step (f ∷ p) e = named_dir n tree more line.value f p (is_there (at tree (f ∷ p))) (has_parents tree (f ∷ p)) e

module _ (n : ℕ) (tree : Value) (ls : List (Bor (List ℕ))) (i : ℕ) (d : Bor (List ℕ)) (lt : i < length ls) where
  -- the lines from here on are this one and the later ones
  from_here : with_lines n tree (texts (drop i ls)) ≡ and_then (λ more. with_lines (n + 1) more (texts (drop (i + 1) ls))) (with_line n tree (line_says (get_or ls i d).now))
  from_here = ap (with_lines n tree) (cut_one ls i d lt)

  -- a line that stands leaves the later ones
  pub one_more : (more : Value) (wanted : Result Value TreeFault) → with_line n tree (line_says (get_or ls i d).now) ≡ Ok more
      → with_lines n tree (texts (drop i ls)) ≡ wanted → with_lines (n + 1) more (texts (drop (i + 1) ls)) ≡ wanted
  one_more more wanted stands e = sym (ap (and_then (λ m. with_lines (n + 1) m (texts (drop (i + 1) ls)))) stands) ∙ sym from_here ∙ e

  -- a line at fault is the first of them
  pub first_fault : (fault : TreeFault) (wanted : Result Value TreeFault) → with_line n tree (line_says (get_or ls i d).now) ≡ Err fault
      → with_lines n tree (texts (drop i ls)) ≡ wanted → wanted ≡ Err fault
  first_fault fault wanted falls e = sym e ∙ from_here ∙ ap (and_then (λ m. with_lines (n + 1) m (texts (drop (i + 1) ls)))) falls

  -- and the tree stays a directory
  pub dir_more : (more : Value) → with_line n tree (line_says (get_or ls i d).now) ≡ Ok more → kind_of tree ≡ kind.Dir → kind_of more ≡ kind.Dir
  dir_more more stands dir = stays_dir n tree more (line_says (get_or ls i d).now) stands dir
