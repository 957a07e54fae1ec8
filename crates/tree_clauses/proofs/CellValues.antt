-- Cells and their values: each value is that of its cell, from the values of all.
use Rattle.std.proofs.Common.{◌≡◌, ℕ, zero, suc, ◌+◌, ◌<◌, ◌≤◌, IsTrue, List, [], ◌∷◌, ◌++◌, length, refl, sym, ap, subst, ◌∙◌, arith, Option, Some, None, Bor, length-append}
use Rattle.std.specs.Option.{option_copied}
use Rattle.std.specs.Prelude.{slice_get, MatchOption}
use Rattle.std.proofs.Math.Seq.{get_or-append_seam}
use Rattle.std.proofs.Math.ListN.{get_or-append}
use Rattle.feature_trees.specs.declared.shape.Entry.{Entry}
use Rattle.feature_trees.specs.declared.value.Value.{Value}
use Rattle.feature_trees.specs.declared.value.Value.TheVariants as value
use Rattle.feature_trees.specs.Sound.{sound, sound_all}
use Rattle.feature_trees.specs.Tree.{update, entries_of}
use Rattle.feature_trees.proofs.Kept.{sound-update, sound_entries}
use Rattle.tree_clauses.specs.declared.cell.Edit.{Edit}
use Rattle.tree_clauses.specs.declared.cell.Cell.{Cell}
use Rattle.tree_clauses.specs.declared.cell.Cell.TheVariants as cell
use Rattle.tree_clauses.specs.Cells.{value_at, edited, cell_value, values_onto, values_of, AreBelow, IsBelow, AreInOrder, AreSound, AreCells, IsSeenSound, IsPlaced}
use Rattle.tree_clauses.proofs.Valuations.{sound_at}

-- as many values as cells
pub values_length : (values : List Value) (cells : List Cell) → length (values_onto values cells) ≡ length values + length cells
values_length values [] = omega arith
values_length values (c ∷ cells) =
    let more = values_length (values ++ cell_value values c ∷ []) cells in
    let one = length-append values (cell_value values c ∷ []) in
    omega (arith, more, one)

kept_before : (values : List Value) (v : Value) (place : ℕ) → place < length values → value_at (values ++ v ∷ []) place ≡ value_at values place
kept_before values v place lt = get_or-append values (v ∷ []) value.Absent place lt

-- the values of cells before stay
pub values_keep : (values : List Value) (cells : List Cell) (place : ℕ) → place < length values → value_at (values_onto values cells) place ≡ value_at values place
values_keep values [] place lt = refl
values_keep values (c ∷ cells) place lt =
    let v = cell_value values c in
    let one = length-append values (v ∷ []) in
    values_keep (values ++ v ∷ []) cells place (omega (arith, one, lt)) ∙ kept_before values v place lt

-- a cell has the same value from any values that are the same below its place
module _ (old new : List Value) (n : ℕ) (same : (place : ℕ) → place < n → value_at old place ≡ value_at new place) where
  same_edited : (es : List Entry) (edits : List Edit) → AreBelow n edits → edited old es edits ≡ edited new es edits
  same_edited es [] b = refl
  same_edited es (e ∷ edits) b =
      ap (λ v. edited old (update es e.name v) edits) (same e.place b.0)
      ∙ same_edited (update es e.name (value_at new e.place)) edits b.1

  pub same_cell : (c : Cell) → IsBelow n c → cell_value old c ≡ cell_value new c
  same_cell (cell.Seen v) b = refl
  same_cell cell.Absent b = refl
  same_cell cell.Reg b = refl
  same_cell (cell.Link target) b = refl
  same_cell cell.Empty b = refl
  same_cell (cell.Edited from edits) b =
      ap value.Dir (ap (λ v. edited old (entries_of v) edits) (same from b.0) ∙ same_edited (entries_of (value_at new from)) edits b.1)

-- the value at a place is that of its cell
pub at_onto : (values : List Value) (cells : List Cell) (k : ℕ) (c : Cell) → AreInOrder (length values) cells → Some c ≡ slice_get cells k
    → (k < length cells) × IsBelow (length values + k) c × (value_at (values_onto values cells) (length values + k) ≡ cell_value (values_onto values cells) c)
at_onto values [] k c o e = none_some c e
  where
    none_some : {A : Type 0} (c : Cell) → Some c ≡ None → A
    none_some c q = cc
at_onto values (d ∷ cells) zero c o e =
    let is : c ≡ d = cc in
    let n = length values in
    let zeroth : n + 0 ≡ n = omega arith in
    let v = cell_value values d in
    let one = length-append values (v ∷ []) in
    let all = values_onto (values ++ v ∷ []) cells in
    let keeps : (place : ℕ) → place < n → value_at values place ≡ value_at all place
    = λ place lt. sym (values_keep values (d ∷ cells) place lt) in
    let here : value_at all n ≡ v = values_keep (values ++ v ∷ []) cells n (omega (arith, one)) ∙ get_or-append_seam values v [] value.Absent in (
      omega arith,
      subst (λ x. IsBelow (n + 0) x) (sym is) (subst (λ m. IsBelow m d) (sym zeroth) o.0),
      subst (λ m. value_at all m ≡ cell_value all c) (sym zeroth)
          (here ∙ same_cell values all n keeps d o.0 ∙ ap (cell_value all) (sym is)),
    )
at_onto values (d ∷ cells) (suc k) c o e =
    let v = cell_value values d in
    let n = length values in
    let one = length-append values (v ∷ []) in
    let grown : suc n ≡ length (values ++ v ∷ []) = omega (arith, one) in
    let r = at_onto (values ++ v ∷ []) cells k c (subst (λ m. AreInOrder m cells) grown o.1) e in
    let at : length (values ++ v ∷ []) + k ≡ n + suc k = omega (arith, one) in
    let all = values_onto (values ++ v ∷ []) cells in (
      (let w = r.0 in omega arith),
      subst (λ m. IsBelow m c) at r.1,
      subst (λ m. value_at all m ≡ cell_value all c) at r.2,
    )

past_end : (values : List Value) (place : ℕ) → length values ≤ place → value_at values place ≡ value.Absent
past_end [] zero le = refl
past_end [] (suc place) le = refl
past_end (v ∷ values) zero le = absurd (omega arith)
past_end (v ∷ values) (suc place) le = past_end values place (omega arith)

no_cell : (cells : List Cell) (k : ℕ) → None ≡ slice_get cells k → length cells ≤ k
no_cell [] k e = omega arith
no_cell (c ∷ cells) zero e = let bad : None ≡ Some c = e in cc
no_cell (c ∷ cells) (suc k) e = let le = no_cell cells k e in omega arith

pub cell_there : (cells : List Cell) (k : ℕ) (c : Cell) → AreCells cells → Some c ≡ slice_get cells k
    → (k < length (values_of cells)) × IsBelow k c × (value_at (values_of cells) k ≡ cell_value (values_of cells) c)
cell_there cells k c are e =
    let long = values_length [] cells in
    let r = at_onto [] cells k c are.order e in
    let zeroth : 0 + k ≡ k = omega arith in (
      (let w = r.0 in omega (arith, long)),
      subst (λ n. IsBelow n c) zeroth r.1,
      subst (λ n. value_at (values_of cells) n ≡ cell_value (values_of cells) c) zeroth r.2,
    )

pub no_cell_there : (cells : List Cell) (k : ℕ) → None ≡ slice_get cells k → value_at (values_of cells) k ≡ value.Absent
no_cell_there cells k e =
    let long = values_length [] cells in
    let le = no_cell cells k e in
    past_end (values_of cells) k (omega (arith, long, le))

-- ---- one more cell

pub values_push : (values : List Value) (cells : List Cell) (c : Cell) → values_onto values (cells ++ c ∷ []) ≡ values_onto values cells ++ cell_value (values_onto values cells) c ∷ []
values_push values [] c = refl
values_push values (d ∷ cells) c = values_push (values ++ cell_value values d ∷ []) cells c

order_push : (n : ℕ) (cells : List Cell) (c : Cell) → AreInOrder n cells → IsBelow (n + length cells) c → AreInOrder n (cells ++ c ∷ [])
order_push n [] c o b = (let e : n + 0 ≡ n = omega arith in subst (λ m. IsBelow m c) e b, tt)
order_push n (d ∷ cells) c o b =
    let e : n + length (d ∷ cells) ≡ suc n + length cells = omega arith in
    (o.0, order_push (suc n) cells c o.1 (subst (λ m. IsBelow m c) e b))

sound_push : (values : List Value) (v : Value) → AreSound values → IsTrue (sound v) → AreSound (values ++ v ∷ [])
sound_push [] v s t zero d lt = t
sound_push [] v s t (suc k) d lt = absurd (omega arith)
sound_push (w ∷ values) v s t zero d lt = s 0 d (omega arith)
sound_push (w ∷ values) v s t (suc k) d lt = sound_push values v (λ j e m. s (suc j) e (omega arith)) t k d (omega arith)

pub edited_sound : (values : List Value) (es : List Entry) (edits : List Edit) → AreSound values → IsTrue (sound_all es) → IsTrue (sound_all (edited values es edits))
edited_sound values es [] s t = t
edited_sound values es (e ∷ edits) s t =
    let v = value_at values e.place in
    edited_sound values (update es e.name v) edits s (sound-update es e.name v t e.named (sound_at values e.place s))

pub cell_sound : (values : List Value) (c : Cell) → AreSound values → IsSeenSound c → IsTrue (sound (cell_value values c))
cell_sound values (cell.Seen v) s t = t
cell_sound values cell.Absent s t = refl
cell_sound values cell.Reg s t = refl
cell_sound values (cell.Link target) s t = refl
cell_sound values cell.Empty s t = refl
cell_sound values (cell.Edited from edits) s t =
    edited_sound values (entries_of (value_at values from)) edits s (sound_entries (value_at values from) (sound_at values from s))

pub cells_push : (cells : List Cell) (c : Cell) → AreCells cells → IsBelow (length (values_of cells)) c → IsSeenSound c → AreCells (cells ++ c ∷ [])
cells_push cells c are below seen =
    let long : length (values_of cells) ≡ 0 + length cells = values_length [] cells in
    record {
      order = order_push 0 cells c are.order (subst (λ n. IsBelow n c) long below);
      sound = subst AreSound (sym (values_push [] cells c)) (sound_push (values_of cells) (cell_value (values_of cells) c) are.sound (cell_sound (values_of cells) c are.sound seen));
    }

placed_end : (values : List Value) (v : Value) → IsPlaced values (values ++ v ∷ []) v (length values)
placed_end values v =
    let long = length-append values (v ∷ []) in
    record {
      within = omega (arith, long);
      value = get_or-append_seam values v [] value.Absent;
      grows = omega (arith, long);
      kept = kept_before values v;
    }

pub cell_placed : (cells : List Cell) (c : Cell) (place : ℕ) → place ≡ length cells → IsPlaced (values_of cells) (values_of (cells ++ c ∷ [])) (cell_value (values_of cells) c) place
cell_placed cells c place e =
    let counted = values_length [] cells in
    let long : length (values_of cells) ≡ length cells = omega (arith, counted) in
    let v = cell_value (values_of cells) c in
    subst (λ new. IsPlaced (values_of cells) new v place) (sym (values_push [] cells c))
    (subst (IsPlaced (values_of cells) (values_of cells ++ v ∷ []) v) (long ∙ sym e) (placed_end (values_of cells) v))

pub old_placed : (values : List Value) (place : ℕ) → place < length values → IsPlaced values values (value_at values place) place
old_placed values place lt = record { within = lt; value = refl; grows = omega arith; kept = λ other w. refl }

-- ---- what is read of cells

abbrev pub IsCellAt : List Value → ℕ → Option (Bor Cell) → Type 0
IsCellAt values k found =
    MatchOption found (value_at values k ≡ value.Absent)
    (λ c. (k < length values) × IsBelow k c.now × (value_at values k ≡ cell_value values c.now))

pub is_cell_at : (cells : List Cell) (k : ℕ) (found : Option (Bor Cell)) → AreCells cells → option_copied found ≡ slice_get cells k → IsCellAt (values_of cells) k found
is_cell_at cells k None are e = no_cell_there cells k e
is_cell_at cells k (Some c) are e = cell_there cells k c.now are e
