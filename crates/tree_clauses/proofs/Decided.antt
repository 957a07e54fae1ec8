-- What is found of one literal: whether it holds, and the value that it gives its subject.
use Rattle.std.proofs.Common.{◌≡◌, ◌≢◌, ℕ, zero, suc, ◌<◌, ◌↔◌, inl, inr, Bool, true, nat_lt, IsTrue, List, [], ◌∷◌, length, Option, Some, None, map, drop, refl, sym, ap, subst, ◌∙◌, arith, Bor}
use Rattle.std.specs.List.{Contains}
use Rattle.std.specs.Option.{option_map}
use Rattle.std.proofs.lemmas.Bool.{lt-ltb}
use Rattle.feature_trees.specs.declared.shape.Entry.{Entry}
use Rattle.feature_trees.specs.declared.value.Value.{Value}
use Rattle.feature_trees.specs.declared.value.Value.TheVariants.{Absent, Reg, Link, Special, Dir}
use Rattle.feature_trees.specs.declared.kind.Kind.{Kind}
use Rattle.feature_trees.specs.declared.kind.Kind.TheVariants as kind
use Rattle.feature_trees.specs.declared.kind.Special.TheVariants.{Fifo, Socket, Block, Char}
use Rattle.feature_trees.specs.declared.kind.Kinds.{Kinds}
use Rattle.feature_trees.specs.Kinds.{has, of}
use Rattle.feature_trees.specs.Tree.{entry, kind_of, find, entries_of, is_dir}
use Rattle.feature_trees.specs.Sound.{sound}
use Rattle.feature_trees.specs.View as view
use Rattle.feature_trees.proofs.Laws.{Rises}
use Rattle.feature_trees.proofs.Kept.{same_finds, find_first, value_there}
use Rattle.tree_clauses.specs.declared.clause.Var.{Var}
use Rattle.tree_clauses.specs.declared.clause.Literal.{Literal}
use Rattle.tree_clauses.specs.declared.clause.Literal.TheVariants as L
use Rattle.tree_clauses.specs.Literals.{Valuation, value_of_variable, MeetsAll, AgreesOutside}
use Rattle.tree_clauses.specs.MadeValues.{replaced}
use Rattle.tree_clauses.specs.Solved.{IsInOrder, BeginEmpty, BeginWithEntries}
use Rattle.tree_clauses.specs.Steps.{Known, IsThere, FactIs, MadeIs}
use Rattle.tree_clauses.proofs.Values.{entry_is, dir_kind, rises_entries, empty_from}
use Rattle.tree_clauses.proofs.Orders.{same_order}
use Rattle.tree_clauses.proofs.Edited.{has_or_not, are_replaced, replaced_begin, replaced_missing}
use Rattle.tree_clauses.proofs.Valuations.{sound_at}

-- ---- facts on values

not_absent : {A : Type 0} (v : Value) → view.IsThere v → v ≡ Absent → A
not_absent v h e = absurd (subst view.IsThere e h)

pub has_entry_iff : (v : Value) (es : List Entry) (n : ℕ) → v ≡ Dir es → n ≡ length es → IsTrue (nat_lt 0 n) ↔ ((f : List ℕ) × (entry v f ≢ Absent))
has_entry_iff v [] n e l = (
  λ t. let bad : nat_lt 0 0 ≡ true = ap (nat_lt 0) (sym l) ∙ t in cc,
  λ h. absurd (h.1 (ap (λ w. entry w h.0) e)),
)
has_entry_iff v (x ∷ es) n e l = (
  λ t. (x.name, λ a. not_absent (view.value_of x.node) (value_there x.node) (sym (find_first x es) ∙ sym (ap (λ w. entry w x.name) e) ∙ a)),
  λ h. lt-ltb 0 n (omega arith),
)

pub dir_from : (v : Value) → is_dir v ≡ true → kind_of v ≡ kind.Dir
dir_from Absent e = cc
dir_from Reg e = cc
dir_from (Link b) e = cc
dir_from (Special s) e = cc
dir_from (Dir es) e = refl

-- ---- facts on variables

known_there : (known : Known) (x : ℕ) (v : Value) → Some v ≡ known x → IsThere (known x)
known_there known x v e = subst IsThere e tt

pub fact_entry : (known : Known) (x y : Var) (f : List ℕ) (v w : Value) (b : Bool) → Some v ≡ known x.0 → Some w ≡ known y.0 → IsTrue b ↔ (w ≡ entry v f) → FactIs known (L.Entry x f y) (Some b)
fact_entry known x y f v w b p q h = (
  λ numbers are. ((are x.0).1 (known_there known x.0 v p), (are y.0).1 (known_there known y.0 w q)),
  λ g s agrees.
      let at_x = agrees x.0 v (sym p) in
      let at_y = agrees y.0 w (sym q) in (
        λ t. at_y ∙ h.0 t ∙ ap (λ u. entry u f) (sym at_x),
        λ m. h.1 (sym at_y ∙ m ∙ ap (λ u. entry u f) at_x),
      ),
)

pub fact_target : (known : Known) (x : Var) (target : List ℕ) (v : Value) (b : Bool) → Some v ≡ known x.0 → IsTrue b ↔ (v ≡ Link target) → FactIs known (L.Target x target) (Some b)
fact_target known x target v b p h = (
  λ numbers are. (are x.0).1 (known_there known x.0 v p),
  λ g s agrees.
      let at_x = agrees x.0 v (sym p) in
      (λ t. at_x ∙ h.0 t, λ m. h.1 (sym at_x ∙ m)),
)

pub fact_fence : (known : Known) (x : Var) (names listed : List (List ℕ)) (v : Value) (b : Bool) → Some v ≡ known x.0 → listed ≡ names → IsTrue b ↔ ((f : List ℕ) → ¬ (Contains listed f) → entry v f ≡ Absent) → FactIs known (L.Fence x names) (Some b)
fact_fence known x names listed v b p same h = (
  λ numbers are. (are x.0).1 (known_there known x.0 v p),
  λ g s agrees.
      let at_x = agrees x.0 v (sym p) in (
        λ t f out. ap (λ u. entry u f) at_x ∙ h.0 t f (λ c. out (subst (λ ns. Contains ns f) same c)),
        λ m. h.1 (λ f out. ap (λ u. entry u f) (sym at_x) ∙ m f (λ c. out (subst (λ ns. Contains ns f) (sym same) c))),
      ),
)

pub fact_similar : (known : Known) (x y : Var) (names listed : List (List ℕ)) (v w : Value) (b : Bool) → Some w ≡ known y.0 → Some v ≡ known x.0 → listed ≡ names → IsTrue b ↔ ((kind_of w ≡ kind.Dir) × AgreesOutside w listed v) → FactIs known (L.Similar y names x) (Some b)
fact_similar known x y names listed v w b q p same h = (
  λ numbers are. ((are y.0).1 (known_there known y.0 w q), (are x.0).1 (known_there known x.0 v p)),
  λ g s agrees.
      let at_x = agrees x.0 v (sym p) in
      let at_y = agrees y.0 w (sym q) in (
        λ t.
            let k = h.0 t in (
              ap kind_of at_y ∙ k.0,
              λ f out. ap (λ u. entry u f) at_y ∙ k.1 f (λ c. out (subst (λ ns. Contains ns f) same c)) ∙ ap (λ u. entry u f) (sym at_x),
            ),
        λ m. h.1 (
          ap kind_of (sym at_y) ∙ m.0,
          λ f out. ap (λ u. entry u f) (sym at_y) ∙ m.1 f (λ c. out (subst (λ ns. Contains ns f) (sym same) c)) ∙ ap (λ u. entry u f) at_x,
        ),
      ),
)

-- ---- what a literal makes

only_dir : (k : Kind) → IsTrue (has (of kind.Dir) k) → k ≡ kind.Dir
only_dir kind.Absent h = cc
only_dir kind.Reg h = cc
only_dir kind.Link h = cc
only_dir (kind.Special Fifo) h = cc
only_dir (kind.Special Socket) h = cc
only_dir (kind.Special Block) h = cc
only_dir (kind.Special Char) h = cc
only_dir kind.Dir h = refl

begins_empty : (g : Valuation) (y : ℕ) (literals : List Literal) → BeginEmpty y literals → MeetsAll g literals → (f : List ℕ) → ¬ (Contains [] f) → entry (value_of_variable g y) f ≡ Absent
begins_empty g y [] h m f out = absurd h
begins_empty g y (L.Entry x n z ∷ more) h m f out = absurd h
begins_empty g y (L.Kind x kinds ∷ more) h m f out = absurd h
begins_empty g y (L.Fence x names ∷ more) h m f out =
    ap (λ i. entry (value_of_variable g i) f) (sym h.0) ∙ m.0 f (λ c. out (subst (λ ns. Contains ns f) h.1 c))
begins_empty g y (L.NotEmpty x ∷ more) h m f out = absurd h
begins_empty g y (L.Similar x names z ∷ more) h m f out = absurd h
begins_empty g y (L.Target x target ∷ more) h m f out = absurd h

pub empty_made : (y : Var) (kinds : Kinds) (literals : List Literal) (es : List Entry) → kinds ≡ of kind.Dir → BeginEmpty y.0 literals → es ≡ [] → (known : Known) → MadeIs known (L.Kind y kinds) literals (Some (Dir es))
empty_made y kinds literals es e begin none known = (
  λ numbers are. inr (inr (e, begin)),
  λ g s agrees m more.
      let d = only_dir (kind_of (value_of_variable g y.0)) (subst (λ k. IsTrue (has k (kind_of (value_of_variable g y.0)))) e m) in
      empty_from (value_of_variable g y.0) (sound_at g y.0 s) d (begins_empty g y.0 literals begin more) ∙ ap Dir (sym none),
  λ g s agrees at. subst (λ k. IsTrue (has k (kind_of (value_of_variable g y.0)))) (sym e)
      (subst (λ k. IsTrue (has (of kind.Dir) k)) (sym (ap kind_of at)) refl),
)

pub entry_made : (known : Known) (x y : Var) (f : List ℕ) (literals : List Literal) (o : Option Value) → o ≡ option_map (λ v. entry v f) (known x.0) → MadeIs known (L.Entry x f y) literals o
entry_made known x y f literals o e = step (known x.0) refl o e
  where
    none_some : {A : Type 0} (v : Value) → Some v ≡ None → A
    none_some v q = cc

    step : (k : Option Value) → known x.0 ≡ k → (o : Option Value) → o ≡ option_map (λ v. entry v f) k → MadeIs known (L.Entry x f y) literals o
    step None is None q = λ numbers are c. subst IsThere is ((are x.0).0 c)
    step None is (Some v) q = none_some v q
    step (Some v) is None q = none_some (entry v f) (sym q)
    step (Some v) is (Some w) q =
        let same : w ≡ entry v f = cc in (
          λ numbers are. (are x.0).1 (known_there known x.0 v (sym is)),
          λ g s agrees m more. m ∙ ap (λ u. entry u f) (agrees x.0 v is) ∙ sym same,
          λ g s agrees at. at ∙ same ∙ ap (λ u. entry u f) (sym (agrees x.0 v is)),
        )

pub similar_made : (known : Known) (x y : Var) (names rising : List (List ℕ)) (literals : List Literal) (from : Value) (es made : List Entry) → Some from ≡ known x.0 → IsTrue (sound from) → IsInOrder names rising → es ≡ entries_of from → Some made ≡ replaced known y.0 rising literals es → MadeIs known (L.Similar y names x) literals (Some (Dir made))
similar_made known x y names rising literals from es made p s order same e =
    let rises : Rises es = subst Rises (sym same) (rises_entries from s) in
    let find_is : (f : List ℕ) → find es f ≡ entry from f = λ f. ap (λ l. find l f) same ∙ entry_is from f in (
      λ numbers are. (
        (are x.0).1 (known_there known x.0 from p),
        (rising, order, replaced_begin known numbers y.0 rising literals es made are (sym e)),
      ),
      λ g t agrees m more.
          let u = value_of_variable g y.0 in
          let r = are_replaced known g y.0 rising literals es made agrees rises (sym e) in
          let at_x = agrees x.0 from (sym p) in
          dir_kind u m.0 ∙ ap Dir (same_finds (entries_of u) made (rises_entries u (sound_at g y.0 t)) r.rises (λ f. elim (has_or_not f rising) [
            | inl c ↦ entry_is u f ∙ sym (r.same more f c)
            | inr out ↦ entry_is u f ∙ m.1 f (λ c. out ((order.same f).0 c)) ∙ ap (λ w. entry w f) at_x ∙ sym (find_is f) ∙ sym (r.others f out)
          ])),
      λ g t agrees at.
          let r = are_replaced known g y.0 rising literals es made agrees rises (sym e) in
          let at_x = agrees x.0 from (sym p) in (
            ap kind_of at,
            λ f out. ap (λ w. entry w f) at ∙ r.others f (λ c. out ((order.same f).1 c)) ∙ find_is f ∙ ap (λ w. entry w f) (sym at_x),
          ),
    )

pub similar_unmade : (known : Known) (x y : Var) (names rising : List (List ℕ)) (literals : List Literal) (es : List Entry) → IsInOrder names rising → None ≡ replaced known y.0 rising literals es → MadeIs known (L.Similar y names x) literals None
similar_unmade known x y names rising literals es order e = λ numbers are h.
    let other = h.1 in
    let same : other.0 ≡ rising = same_order names other.0 rising other.1 order in
    replaced_missing known numbers y.0 rising literals es are (sym e)
    (subst (λ ns. BeginWithEntries numbers y.0 ns literals) same other.2)

-- no literal is left for a name
pub none_left : (known : Known) (y : ℕ) (fs : List (Bor (List ℕ))) (i : ℕ) (left : List Literal) (es : List Entry) → i < length fs → length left < 1 → None ≡ replaced known y (map (λ f. f.now) (drop i fs)) left es
none_left known y [] i left es w n = absurd (omega arith)
none_left known y (f ∷ fs) zero [] es w n = refl
none_left known y (f ∷ fs) zero (literal ∷ left) es w n = absurd (omega arith)
none_left known y (f ∷ fs) (suc i) left es w n = none_left known y fs i left es (omega arith) n
