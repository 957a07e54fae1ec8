-- Values of the file tree: their kinds, their entries, and values made of others.
use Rattle.std.proofs.Common.{◌≡◌, ◌≢◌, ℕ, zero, suc, ◌<◌, ◌⊎◌, inl, inr, IsTrue, List, [], ◌∷◌, get_or, refl, sym, ap, ◌∙◌, arith}
use Rattle.std.specs.List.{Contains}
use Rattle.script_names.specs.Names.{is_name}
use Rattle.feature_trees.specs.declared.kind.Kind.TheVariants as kind
use Rattle.feature_trees.specs.declared.value.Value.{Value}
use Rattle.feature_trees.specs.declared.value.Value.TheVariants.{Absent, Reg, Link, Special, Dir}
use Rattle.feature_trees.specs.Tree.{entry, kind_of, find, update, entries_of}
use Rattle.feature_trees.specs.Sound.{sound, sound_all}
use Rattle.feature_trees.proofs.Laws.{Rises, rises_of, find-update_same, find-update_other}
use Rattle.feature_trees.proofs.Kept.{sound-update, same_finds, sound_entries}
use Rattle.tree_clauses.specs.Literals.{AgreesOutside}
use Rattle.tree_clauses.proofs.Names.{name_cases}

-- a list of no name or one
contains_none : (f : List ℕ) → ¬ (Contains [] f)
contains_none f c = absurd (let w = c.1 in omega arith)

contains_one : (f g : List ℕ) → Contains (g ∷ []) f → f ≡ g
contains_one f g c = at_first c.0 c.1 c.2
  where
    at_first : (k : ℕ) → k < 1 → get_or (g ∷ []) k f ≡ f → f ≡ g
    at_first zero w e = sym e
    at_first (suc k) w e = absurd (omega arith)

-- only a directory has an entry
pub entry_of_dir : (v : Value) (f : List ℕ) → (kind_of v ≡ kind.Dir) ⊎ (entry v f ≡ Absent)
entry_of_dir Absent f = inr refl
entry_of_dir Reg f = inr refl
entry_of_dir (Link b) f = inr refl
entry_of_dir (Special s) f = inr refl
entry_of_dir (Dir es) f = inl refl

-- a value is absent or not
pub absent_or_not : (v : Value) → (v ≡ Absent) ⊎ (v ≢ Absent)
absent_or_not Absent = inl refl
absent_or_not Reg = inr (λ e. let q : kind.Reg ≡ kind.Absent = ap kind_of e in cc)
absent_or_not (Link b) = inr (λ e. let q : kind.Link ≡ kind.Absent = ap kind_of e in cc)
absent_or_not (Special s) = inr (λ e. let q : (kind.Special s) ≡ kind.Absent = ap kind_of e in cc)
absent_or_not (Dir es) = inr (λ e. let q : kind.Dir ≡ kind.Absent = ap kind_of e in cc)

pub present_kind : (v : Value) → v ≢ Absent → kind_of v ≢ kind.Absent
present_kind Absent h = λ e. h refl
present_kind Reg h = λ e. cc
present_kind (Link b) h = λ e. cc
present_kind (Special s) h = λ e. cc
present_kind (Dir es) h = λ e. cc

pub absent_kind : (v : Value) → kind_of v ≡ kind.Absent → v ≡ Absent
absent_kind Absent h = refl
absent_kind Reg h = cc
absent_kind (Link b) h = cc
absent_kind (Special s) h = cc
absent_kind (Dir es) h = cc

pub reg_kind : (v : Value) → kind_of v ≡ kind.Reg → v ≡ Reg
reg_kind Absent h = cc
reg_kind Reg h = refl
reg_kind (Link b) h = cc
reg_kind (Special s) h = cc
reg_kind (Dir es) h = cc

pub dir_kind : (v : Value) → kind_of v ≡ kind.Dir → v ≡ Dir (entries_of v)
dir_kind Absent h = cc
dir_kind Reg h = cc
dir_kind (Link b) h = cc
dir_kind (Special s) h = cc
dir_kind (Dir es) h = refl

-- an entry is found among the entries
pub entry_is : (v : Value) (f : List ℕ) → find (entries_of v) f ≡ entry v f
entry_is Absent f = refl
entry_is Reg f = refl
entry_is (Link b) f = refl
entry_is (Special s) f = refl
entry_is (Dir es) f = refl

pub rises_entries : (v : Value) → IsTrue (sound v) → Rises (entries_of v)
rises_entries v s = rises_of (entries_of v) (sound_entries v s)

-- a directory with one name replaced
pub derived_sound : (v w : Value) (f : List ℕ) → IsTrue (sound v) → IsTrue (sound w) → IsTrue (is_name f) → IsTrue (sound_all (update (entries_of v) f w))
derived_sound v w f s t n = sound-update (entries_of v) f w (sound_entries v s) n t

pub derived_same : (v w : Value) (f : List ℕ) → IsTrue (sound v) → entry (Dir (update (entries_of v) f w)) f ≡ w
derived_same v w f s = find-update_same (entries_of v) f w (rises_entries v s)

pub derived_other : (v w : Value) (f h : List ℕ) → IsTrue (sound v) → f ≢ h → entry (Dir (update (entries_of v) f w)) h ≡ entry v h
derived_other v w f h s ne = find-update_other (entries_of v) f h w (rises_entries v s) ne ∙ entry_is v h

pub derived_from : (u v w : Value) (f : List ℕ) → IsTrue (sound u) → IsTrue (sound v) → IsTrue (sound w) → IsTrue (is_name f) → kind_of u ≡ kind.Dir → AgreesOutside u (f ∷ []) v → w ≡ entry u f → u ≡ Dir (update (entries_of v) f w)
derived_from u v w f su sv sw n d agrees at_f =
    dir_kind u d ∙ ap Dir (same_finds (entries_of u) (update (entries_of v) f w) (rises_entries u su) (rises_of (update (entries_of v) f w) (derived_sound v w f sv sw n))
    (λ h. elim (name_cases f h) [
      | inl q ↦ ap (find (entries_of u)) (sym q.0) ∙ entry_is u f ∙ sym at_f ∙ sym (derived_same v w f sv) ∙ ap (find (update (entries_of v) f w)) q.0
      | inr ne ↦ entry_is u h ∙ agrees h (λ c. ne.0 (sym (contains_one h f c))) ∙ sym (derived_other v w f h sv ne.0)
    ]))

pub ensured_from : (u v : Value) → IsTrue (sound u) → IsTrue (sound v) → kind_of u ≡ kind.Dir → AgreesOutside u [] v → u ≡ Dir (entries_of v)
ensured_from u v su sv d agrees =
    dir_kind u d ∙ ap Dir (same_finds (entries_of u) (entries_of v) (rises_entries u su) (rises_entries v sv)
    (λ h. entry_is u h ∙ agrees h (contains_none h) ∙ sym (entry_is v h)))

pub empty_from : (u : Value) → IsTrue (sound u) → kind_of u ≡ kind.Dir → ((f : List ℕ) → ¬ (Contains [] f) → entry u f ≡ Absent) → u ≡ Dir []
empty_from u su d none =
    dir_kind u d ∙ ap Dir (same_finds (entries_of u) [] (rises_entries u su) tt (λ h. entry_is u h ∙ none h (contains_none h)))
