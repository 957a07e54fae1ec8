-- The edits of a directory that a literal makes, gathered one by one.
use Rattle.std.proofs.Common.{◌≡◌, ℕ, zero, suc, ◌+◌, ◌-◌, ◌<◌, ◌≤◌, List, [], ◌∷◌, ◌++◌, length, map, take, drop, get_or, Option, Some, Bor, refl, sym, ap, subst, ◌∙◌, arith, append-nil, append_assoc}
use Rattle.std.proofs.lemmas.List.{map_push}
use Rattle.feature_trees.specs.declared.shape.Entry.{Entry}
use Rattle.feature_trees.specs.declared.value.Value.{Value}
use Rattle.feature_trees.specs.Tree.{update}
use Rattle.tree_clauses.specs.declared.cell.Edit.{Edit}
use Rattle.tree_clauses.specs.declared.clause.Literal.{Literal}
use Rattle.tree_clauses.specs.Cells.{value_at, edited, IsEdit}
use Rattle.tree_clauses.specs.MadeValues.{entry_value, replaced}
use Rattle.tree_clauses.specs.Steps.{Known}
use Rattle.tree_clauses.proofs.CellEntries.{edited_push}
use Rattle.tree_clauses.proofs.Edited.{replaced_next}
use Rattle.tree_clauses.proofs.EditSearch.{names_of_edits}
use Rattle.tree_clauses.proofs.Passing.{rest_is}

-- the names from a place on
abbrev pub names_from : ℕ → List (Bor (List ℕ)) → List (List ℕ)
names_from i fs = map (λ (f : Bor (List ℕ)). f.now) (drop i fs)

names_at : (fs : List (Bor (List ℕ))) (i : ℕ) (d : Bor (List ℕ)) → i < length fs → names_from i fs ≡ (get_or fs i d).now ∷ names_from (i + 1) fs
names_at [] i d lt = absurd (omega arith)
names_at (f ∷ fs) zero d lt = refl
names_at (f ∷ fs) (suc i) d lt =
    let e : suc (i + 1) ≡ suc i + 1 = omega arith in
    names_at fs i d (omega arith) ∙ ap (λ k. (get_or fs i d).now ∷ names_from k (f ∷ fs)) e

-- one more edit
pub edits_go : (values : List Value) (known : Known) (y : ℕ) (fs : List (Bor (List ℕ))) (i : ℕ) (d : Bor (List ℕ)) (left : List Literal) (n : ℕ) (literal : Literal) (edits : List Edit) (edit : Edit) (new : List Edit) (all : List Entry → Option (List Entry))
    → i < length fs → n ≡ length left → 1 ≤ length left → literal ≡ get_or left 0 literal
    → IsEdit values (get_or fs i d).now (entry_value known y (get_or fs i d).now literal) (Some edit)
    → new ≡ edits ++ edit ∷ []
    → ((es : List Entry) → replaced known y (names_from i fs) left (edited values es edits) ≡ all es)
    → (es : List Entry) → replaced known y (names_from (i + 1) fs) (take (n - 1) (drop 1 left)) (edited values es new) ≡ all es
edits_go values known y fs i d [] n literal edits edit new all lt same w is h e inv es = absurd (omega arith)
edits_go values known y fs i d (l ∷ ls) n literal edits edit new all lt same w is h e inv es =
    let f = (get_or fs i d).now in
    let v = value_at values edit.place in
    let rest : take (n - 1) (drop 1 (l ∷ ls)) ≡ ls = ap (λ k. take (k - 1) (drop 1 (l ∷ ls))) same ∙ rest_is l ls in
    let first : entry_value known y f l ≡ Some v = subst (λ x. entry_value known y f x ≡ Some v) is h.0 in
    let old = edited values es edits in
    let grown : edited values es new ≡ update old f v =
    ap (edited values es) e ∙ edited_push values es edits edit ∙ ap (λ g. update old g v) h.1 in
    (λ k. replaced known y (names_from (i + 1) fs) (rest k) (grown k))
    ∙ sym (replaced_next known y f (names_from (i + 1) fs) l ls old v first)
    ∙ ap (λ ns. replaced known y ns (l ∷ ls) old) (sym (names_at fs i d lt))
    ∙ inv es

-- the names of the edits, and those that are left
pub names_go : (fs : List (Bor (List ℕ))) (i : ℕ) (d : Bor (List ℕ)) (edits new : List Edit) (edit : Edit) → i < length fs → edit.name ≡ (get_or fs i d).now → new ≡ edits ++ edit ∷ []
    → names_of_edits edits ++ names_from i fs ≡ names_from 0 fs → names_of_edits new ++ names_from (i + 1) fs ≡ names_from 0 fs
names_go fs i d edits new edit lt named e inv =
    let rest = names_from (i + 1) fs in
    ap (λ all. names_of_edits all ++ rest) e
    ∙ ap (λ ns. ns ++ rest) (map_push (λ (x : Edit). x.name) edits edit)
    ∙ append_assoc (names_of_edits edits) (edit.name ∷ []) rest
    ∙ ap (λ f. names_of_edits edits ++ f ∷ rest) named
    ∙ ap (λ ns. names_of_edits edits ++ ns) (sym (names_at fs i d lt))
    ∙ inv

none_from : (fs : List (Bor (List ℕ))) (i : ℕ) → length fs ≤ i → names_from i fs ≡ []
none_from [] zero le = refl
none_from [] (suc i) le = refl
none_from (f ∷ fs) zero le = absurd (omega arith)
none_from (f ∷ fs) (suc i) le = none_from fs i (omega arith)

pub names_end : (fs : List (Bor (List ℕ))) (i : ℕ) (edits : List Edit) → length fs ≤ i → names_of_edits edits ++ names_from i fs ≡ names_from 0 fs → names_of_edits edits ≡ names_from 0 fs
names_end fs i edits le inv = sym (append-nil (names_of_edits edits)) ∙ ap (λ ns. names_of_edits edits ++ ns) (sym (none_from fs i le)) ∙ inv
