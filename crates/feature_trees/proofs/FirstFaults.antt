-- A fault is that of the first line that cannot stand behind those before it.
use Rattle.std.proofs.Common.{◌≡◌, ◌≢◌, ℕ, ◌+◌, Bool, true, false, List, [], ◌∷◌, ◌++◌, length, Option, Some, None, Result, Ok, Err, inl, inr, refl, sym, ap, subst, ◌∙◌, arith}
use Rattle.std.specs.Prelude.{◌⊎◌, if◌then◌else◌}
use Rattle.std.proofs.lemmas.Bool.{and_from}
use Rattle.feature_trees.specs.declared.kind.Kind.TheVariants as kind
use Rattle.feature_trees.specs.declared.value.Value.{Value}
use Rattle.feature_trees.specs.declared.value.Value.TheVariants.{Absent, Reg, Link, Special, Dir}
use Rattle.feature_trees.specs.declared.read.TreeFault.{TreeFault}
use Rattle.feature_trees.specs.declared.read.TreeFault.TheVariants.{Line}
use Rattle.feature_trees.specs.declared.read.TreeLine.{TreeLine}
use Rattle.feature_trees.specs.TextLaws.{without_entries, IsSaid, IsRepeated, IsOrphan, IsWhy, IsFirstFault}
use Rattle.feature_trees.specs.Tree.{at, entry, put, has_parents, is_dir, kind_of}
use Rattle.feature_trees.specs.TreeLines.{line_says, is_there, with_line, and_then, with_lines, text_lines, tree_of}
use Rattle.feature_trees.specs.View.{IsThere}
use Rattle.feature_trees.proofs.Found.{at_Absent}
use Rattle.feature_trees.proofs.LinesStand.{After, Facts, said_facts, not_there, none_at, after_lines}

-- the first of these lines that cannot stand
record First (n : ℕ) (v : Value) (lines : List (List ℕ)) (k why : ℕ) : Type 0 where
  before : List (List ℕ)
  line : List ℕ
  after : List (List ℕ)
  cut : lines ≡ before ++ line ∷ after
  number : k ≡ length before + n
  tree : Value
  stand : with_lines n v before ≡ Ok tree
  falls : with_line k tree (line_says line) ≡ Err (Line k why)

-- a line's fault has its number
own_number : (n k why : ℕ) (v : Value) (said : Option TreeLine) → with_line n v said ≡ Err (Line k why) → n ≡ k
own_number n k why v None e = cc
own_number n k why v (Some x) e = step (is_there (at v x.names)) (has_parents v x.names) e
  where
    step : (a b : Bool) → (if a then Err (Line n 2) else (if b then Ok (put v x.names x.value) else Err (Line n 3))) ≡ Err (Line k why) → n ≡ k
    step true b e = cc
    step false true e = cc
    step false false e = cc

same_fault : (f g : TreeFault) → ◌≡◌ {A = Result Value TreeFault} (Err f) (Err g) → f ≡ g
same_fault f g e = cc

here_first : (n : ℕ) (v : Value) (line : List ℕ) (lines : List (List ℕ)) (k why : ℕ) → with_line n v (line_says line) ≡ Err (Line k why) → First n v (line ∷ lines) k why
here_first n v line lines k why e =
    let same = own_number n k why v (line_says line) e in
    record {
      before = [];
      line = line;
      after = lines;
      cut = refl;
      number = omega (arith, same);
      tree = v;
      stand = refl;
      falls = subst (λ m. with_line m v (line_says line) ≡ Err (Line k why)) same e;
    }

later_first : (n : ℕ) (v m : Value) (line : List ℕ) (lines : List (List ℕ)) (k why : ℕ) → with_line n v (line_says line) ≡ Ok m → First (n + 1) m lines k why → First n v (line ∷ lines) k why
later_first n v m line lines k why d f = record {
  before = line ∷ f.before;
  line = f.line;
  after = f.after;
  cut = ap (λ l. line ∷ l) f.cut;
  number = omega (arith, f.number);
  tree = f.tree;
  stand = ap (and_then (λ u. with_lines (n + 1) u f.before)) d ∙ f.stand;
  falls = f.falls;
}

first_of : (n : ℕ) (v : Value) (lines : List (List ℕ)) (k why : ℕ) → with_lines n v lines ≡ Err (Line k why) → First n v lines k why
first_of n v [] k why e = cc
first_of n v (line ∷ lines) k why e = step (with_line n v (line_says line)) refl e (λ m f. first_of (n + 1) m lines k why f)
  where
    step : (r : Result Value TreeFault) → with_line n v (line_says line) ≡ r → and_then (λ m. with_lines (n + 1) m lines) r ≡ Err (Line k why)
        → ((m : Value) → with_lines (n + 1) m lines ≡ Err (Line k why) → First (n + 1) m lines k why) → First n v (line ∷ lines) k why
    step (Ok m) d e more = later_first n v m line lines k why d (more m e)
    step (Err f) d e more = here_first n v line lines k why (d ∙ ap Err (same_fault f (Line k why) e))

-- ---- why

dir_above : (u : Value) (f : List ℕ) (p : List (List ℕ)) → is_dir (at (entry u f) p) ≡ true → is_dir u ≡ true
dir_above Absent f p h = let e = sym (ap is_dir (at_Absent p)) ∙ h in cc
dir_above Reg f p h = let e = sym (ap is_dir (at_Absent p)) ∙ h in cc
dir_above (Link b) f p h = let e = sym (ap is_dir (at_Absent p)) ∙ h in cc
dir_above (Special s) f p h = let e = sym (ap is_dir (at_Absent p)) ∙ h in cc
dir_above (Dir es) f p h = refl

-- below a directory an entry has its parents
parents_of : (u : Value) (p : List (List ℕ)) (f : List ℕ) → is_dir (at u p) ≡ true → has_parents u (p ++ f ∷ []) ≡ true
parents_of u [] f h = and_from (is_dir u) true h refl
parents_of u (g ∷ p) f h = and_from (is_dir u) (has_parents (entry u g) (p ++ f ∷ [])) (dir_above u g p h) (parents_of (entry u g) p f h)

dir_bare : (v : Value) → without_entries v ≡ Dir [] → is_dir v ≡ true
dir_bare Absent e = cc
dir_bare Reg e = cc
dir_bare (Link b) e = cc
dir_bare (Special s) e = cc
dir_bare (Dir es) e = refl

pub kind_dir : (v : Value) → kind_of v ≡ kind.Dir → is_dir v ≡ true
kind_dir Absent e = cc
kind_dir Reg e = cc
kind_dir (Link b) e = cc
kind_dir (Special s) e = cc
kind_dir (Dir es) e = refl

bare_there : (v : Value) → is_there v ≡ true → IsThere (without_entries v)
bare_there Absent h = cc
bare_there Reg h = tt
bare_there (Link b) h = tt
bare_there (Special s) h = tt
bare_there (Dir es) h = tt

-- a path, cut before its last name
record Cut (p : List (List ℕ)) : Type 0 where
  parent : List (List ℕ)
  name : List ℕ
  is : p ≡ parent ++ name ∷ []

cut_more : (f : List ℕ) (p : List (List ℕ)) → Cut p → Cut (f ∷ p)
cut_more f p c = record { parent = f ∷ c.parent; name = c.name; is = ap (λ l. f ∷ l) c.is }

cut_last : (p : List (List ℕ)) → p ≢ [] → Cut p
cut_last [] filled = absurd (filled refl)
cut_last (f ∷ []) filled = record { parent = []; name = f; is = refl }
cut_last (f ∷ g ∷ p) filled = cut_more f (g ∷ p) (cut_last (g ∷ p) (λ e. cc))

no_both : (b : Bool) → b ≡ true → b ≡ false → ⊥
no_both b t f = cc

module _ (before : List (List ℕ)) (line : List ℕ) (u : Value) (rest : After (Dir []) before u) (dir : kind_of u ≡ kind.Dir) (x : TreeLine) (says : line_says line ≡ Some x) where
  facts : Facts x
  facts = said_facts line x says

  repeated : is_there (at u x.names) ≡ true → IsRepeated before line
  repeated found = record { said = x; says = says; value = value; there = there; earlier = step (rest.to x.names value there refl) }
    where
      value : Value
      value = without_entries (at u x.names)

      there : IsThere value
      there = bare_there (at u x.names) found

      step : (without_entries (at (Dir []) x.names) ≡ value) ⊎ IsSaid before x.names value → IsSaid before x.names value
      step (inl e) = absurd (none_at x.names value facts.filled there e)
      step (inr h) = h

  orphan : is_there (at u x.names) ≡ false → has_parents u x.names ≡ false → IsOrphan before line
  orphan free lost = record {
    said = x;
    says = says;
    first = λ w t h. subst IsThere (sym (sym (ap without_entries (not_there (at u x.names) free)) ∙ rest.said x.names w t h)) t;
    parent = c.parent;
    name = c.name;
    path = c.is;
    below = λ e. no_both (has_parents u x.names) (found (ap is_dir (ap (at u) e) ∙ kind_dir u dir)) lost;
    alone = λ h. no_both (has_parents u x.names) (found (dir_bare (at u c.parent) (rest.said c.parent (Dir []) tt h))) lost;
  }
    where
      c : Cut x.names
      c = cut_last x.names facts.filled

      found : is_dir (at u c.parent) ≡ true → has_parents u x.names ≡ true
      found h = ap (has_parents u) c.is ∙ parents_of u c.parent c.name h

  why_said : (k why : ℕ) → with_line k u (Some x) ≡ Err (Line k why) → IsWhy before line why
  why_said k why e = step (is_there (at u x.names)) (has_parents u x.names) refl refl e
    where
      step : (a b : Bool) → is_there (at u x.names) ≡ a → has_parents u x.names ≡ b
          → (if a then Err (Line k 2) else (if b then Ok (put u x.names x.value) else Err (Line k 3))) ≡ Err (Line k why) → IsWhy before line why
      step true b c d e = inr (inl (cc, repeated c))
      step false true c d e = cc
      step false false c d e = inr (inr (cc, orphan c d))

why_of : (before : List (List ℕ)) (line : List ℕ) (u : Value) (k why : ℕ) → After (Dir []) before u → with_line k u (line_says line) ≡ Err (Line k why) → IsWhy before line why
why_of before line u k why rest e = step (line_says line) refl e
  where
    step : (o : Option TreeLine) → line_says line ≡ o → with_line k u o ≡ Err (Line k why) → IsWhy before line why
    step None d e = inl (cc, d)
    step (Some x) d e = why_said before line u rest (rest.dir refl) x d k why e

pub first_faults : (text : List ℕ) (n why : ℕ) → tree_of text ≡ Err (Line n why) → IsFirstFault text n why
first_faults text n why e =
    let f = first_of 1 (Dir []) (text_lines text) n why e in
    record {
      before = f.before;
      line = f.line;
      after = f.after;
      lines = f.cut;
      number = f.number;
      tree = f.tree;
      stand = f.stand;
      is_why = why_of f.before f.line f.tree n why (after_lines 1 (Dir []) f.tree f.before refl f.stand) f.falls;
    }
