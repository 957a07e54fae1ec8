-- Entries of values that are made by edits.
use Rattle.std.proofs.Common.{◌≡◌, ℕ, ◌<◌, ◌≤◌, inl, inr, Bool, true, false, List, [], ◌∷◌, ◌++◌, length, refl, sym, ap, subst, ◌∙◌, arith, Option, Some, None}
use Rattle.std.specs.Prelude.{if◌then◌else◌}
use Rattle.std.specs.Str.{bytes_eq}
use Rattle.std.proofs.lemmas.Slice.Eq.{bytes_eq-Decides}
use Rattle.feature_trees.specs.declared.shape.Entry.{Entry}
use Rattle.feature_trees.specs.declared.value.Value.{Value}
use Rattle.feature_trees.specs.Tree.{entry, find, update, entries_of}
use Rattle.feature_trees.proofs.Laws.{Rises, find-update_same, find-update_other}
use Rattle.feature_trees.proofs.Kept.{rises_update}
use Rattle.tree_clauses.specs.declared.cell.Edit.{Edit}
use Rattle.tree_clauses.specs.declared.cell.Cell.TheVariants as cell
use Rattle.tree_clauses.specs.Cells.{value_at, edited, edited_along, cell_value, place_if, place_under, AreBelow, AreAllBelow, IsBelow, AreSound}
use Rattle.tree_clauses.proofs.Names.{bool_cases}
use Rattle.tree_clauses.proofs.Values.{entry_is, rises_entries}
use Rattle.tree_clauses.proofs.Valuations.{sound_at}

-- the value at a place that was found, else this one
abbrev pub found_or : List Value → Option ℕ → Value → Value
found_or values None v = v
found_or values (Some place) v = value_at values place

one_edit : (values : List Value) (es : List Entry) (e : Edit) (f : List ℕ) (found : Option ℕ) (v : Value) → Rises es → find es f ≡ found_or values found v → find (update es e.name (value_at values e.place)) f ≡ found_or values (place_if e f found) v
one_edit values es e f found v r h =
    let w = value_at values e.place in
    elim (bool_cases (bytes_eq e.name f)) [
      | inl t ↦
          subst (λ g. find (update es e.name w) g ≡ w) ((bytes_eq-Decides e.name f).0 t) (find-update_same es e.name w r)
          ∙ ap (λ b. found_or values (if b then Some e.place else found) v) (sym t)
      | inr n ↦
          find-update_other es e.name f w r (λ q. let t : bytes_eq e.name f ≡ true = (bytes_eq-Decides e.name f).1 q in cc)
          ∙ h ∙ ap (λ b. found_or values (if b then Some e.place else found) v) (sym n)
    ]

-- what stands under a name behind edits
pub edited_finds : (values : List Value) (es : List Entry) (edits : List Edit) (f : List ℕ) (found : Option ℕ) (v : Value) → Rises es → find es f ≡ found_or values found v → find (edited values es edits) f ≡ found_or values (place_under found f edits) v
edited_finds values es [] f found v r h = h
edited_finds values es (e ∷ edits) f found v r h =
    edited_finds values (update es e.name (value_at values e.place)) edits f (place_if e f found) v
    (rises_update es e.name (value_at values e.place) r) (one_edit values es e f found v r h)

-- a place that is found is below
abbrev IsSomeBelow : ℕ → Option ℕ → Type 0
IsSomeBelow n None = Unit {0}
IsSomeBelow n (Some place) = place < n

some_below : (n : ℕ) (b : Bool) (place : ℕ) (found : Option ℕ) → place < n → IsSomeBelow n found → IsSomeBelow n (if b then Some place else found)
some_below n true place found lt h = lt
some_below n false place found lt h = h

under_below : (n : ℕ) (found : Option ℕ) (f : List ℕ) (edits : List Edit) → AreBelow n edits → IsSomeBelow n found → IsSomeBelow n (place_under found f edits)
under_below n found f [] b h = h
under_below n found f (e ∷ edits) b h =
    under_below n (place_if e f found) f edits b.1 (some_below n (bytes_eq e.name f) e.place found b.0 h)

-- the entry of an edited cell
module _ (values : List Value) (at from : ℕ) (edits : List Edit) (f : List ℕ) (sound : AreSound values) (below : IsBelow at (cell.Edited from edits)) (is : value_at values at ≡ cell_value values (cell.Edited from edits)) where
  entry_by : entry (value_at values at) f ≡ found_or values (place_under None f edits) (entry (value_at values from) f)
  entry_by =
      let source = value_at values from in
      ap (λ v. entry v f) is
      ∙ edited_finds values (entries_of source) edits f None (entry source f) (rises_entries source (sound_at values from sound)) (entry_is source f)

  pub entry_found : (place : ℕ) → at < length values → place_under None f edits ≡ Some place → (place < length values) × (value_at values place ≡ entry (value_at values at) f)
  entry_found place within e =
      let low : IsSomeBelow at (Some place) = subst (IsSomeBelow at) e (under_below at None f edits below.1 tt) in
      let lt : place < at = low in (
        omega (arith, lt, within),
        sym (entry_by ∙ ap (λ o. found_or values o (entry (value_at values from) f)) e),
      )

  pub entry_passed : place_under None f edits ≡ None → entry (value_at values from) f ≡ entry (value_at values at) f
  entry_passed e = sym (entry_by ∙ ap (λ o. found_or values o (entry (value_at values from) f)) e)

-- ---- one more edit

pub edited_push : (values : List Value) (es : List Entry) (edits : List Edit) (e : Edit) → edited values es (edits ++ e ∷ []) ≡ update (edited values es edits) e.name (value_at values e.place)
edited_push values es [] e = refl
edited_push values es (d ∷ edits) e = edited_push values (update es d.name (value_at values d.place)) edits e

pub below_push : (n : ℕ) (edits : List Edit) (e : Edit) → AreBelow n edits → e.place < n → AreBelow n (edits ++ e ∷ [])
below_push n [] e b lt = (lt, tt)
below_push n (d ∷ edits) e b lt = (b.0, below_push n edits e b.1 lt)

-- ---- chains of edits

pub along_push : (values : List Value) (chain : List (List Edit)) (edits : List Edit) (es : List Entry) → edited_along values (chain ++ edits ∷ []) es ≡ edited_along values chain (edited values es edits)
along_push values [] edits es = refl
along_push values (more ∷ chain) edits es = ap (λ all. edited values all more) (along_push values chain edits es)

pub below_up : (n m : ℕ) (edits : List Edit) → n ≤ m → AreBelow n edits → AreBelow m edits
below_up n m [] le b = tt
below_up n m (e ∷ edits) le b = ((let lt = b.0 in omega (arith, le)), below_up n m edits le b.1)

pub all_below_push : (n : ℕ) (chain : List (List Edit)) (edits : List Edit) → AreAllBelow n chain → AreBelow n edits → AreAllBelow n (chain ++ edits ∷ [])
all_below_push n [] edits b one = (one, tt)
all_below_push n (more ∷ chain) edits b one = (b.0, all_below_push n chain edits b.1 one)

pub all_below_pop : (n : ℕ) (chain : List (List Edit)) (edits : List Edit) → AreAllBelow n (chain ++ edits ∷ []) → AreAllBelow n chain × AreBelow n edits
all_below_pop n [] edits b = (tt, b.0)
all_below_pop n (more ∷ chain) edits b = let p = all_below_pop n chain edits b.1 in ((b.0, p.0), p.1)
