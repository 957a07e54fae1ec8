-- A put below one entry of a directory.
use Rattle.std.proofs.Common.{◌≡◌, ℕ, zero, suc, ◌<◌, ◌≤◌, false, IsTrue, List, [], ◌∷◌, length, drop, take, ◌-◌, set, get_or, Result, Ok, Err, OnOk, OnErr, refl, sym, ap, subst, ◌∙◌, arith}
use Rattle.std.proofs.lemmas.Grind.{common_steps}
use Rattle.feature_trees.specs.declared.put.PutFault.{PutFault}
use Rattle.feature_trees.specs.declared.value.NamedValue.{NamedValue}
use Rattle.feature_trees.specs.declared.value.Value.{Value}
use Rattle.feature_trees.specs.declared.value.Value.TheVariants.{Absent, Dir}
use Rattle.feature_trees.specs.Tree.{find, update, put, has_parents}
use Rattle.feature_trees.specs.View.{seen, IsThere, AllThere}
use Rattle.feature_trees.specs.Place.{IsAt, IsGap}
use Rattle.script_names.specs.Names.{is_name}
use Rattle.feature_trees.specs.Sound.{sound, sound_all}
use Rattle.feature_trees.proofs.Kept.{sound-update}
use Rattle.feature_trees.proofs.Found.{found_at, find_gap, seen-write, there-set, there_at}

-- a list of at least one item from its first and the others
pub cons_back : (xs : List (List ℕ)) (x : List ℕ) → 1 ≤ length xs → x ≡ get_or xs 0 x → x ∷ take (length xs - 1) (drop 1 xs) ≡ xs
cons_back [] x lt e = absurd (omega arith)
cons_back (y ∷ ys) x lt e = grind (arith, common_steps)

module _ (hs : List NamedValue) (f : List ℕ) (i : ℕ) (h : NamedValue) (rest more : List (List ℕ)) (g : List ℕ) (v new : Value)
    (all : AllThere hs) (is : IsAt hs f i) (e : h ≡ get_or hs i h) (joined : g ∷ more ≡ rest) where
  found : find (seen hs) f ≡ h.value
  found = found_at hs f i h all is ∙ ap (λ (x : NamedValue). x.value) (sym e)

  put_is : put h.value (g ∷ more) v ≡ put (find (seen hs) f) rest v
  put_is = ap (λ (x : Value). put x (g ∷ more) v) (sym found) ∙ ap (λ (p : List (List ℕ)). put (find (seen hs) f) p v) joined

  parents_is : has_parents h.value (g ∷ more) ≡ has_parents (find (seen hs) f) rest
  parents_is = ap (λ (x : Value). has_parents x (g ∷ more)) (sym found) ∙ ap (has_parents (find (seen hs) f)) joined

  there_new : (r : Result (Unit {0}) PutFault) → OnOk r (new ≡ put h.value (g ∷ more) v) → OnErr r (new ≡ h.value) → IsThere new
  there_new (Ok x) ok err = subst IsThere (sym ok) tt
  there_new (Err x) ok err = subst IsThere (sym err) (subst (λ (y : NamedValue). IsThere y.value) (sym e) (there_at hs i h all is.in_range))

  pub keeps_all : (r : Result (Unit {0}) PutFault) → OnOk r (new ≡ put h.value (g ∷ more) v) → OnErr r (new ≡ h.value) → AllThere (set hs i (record { name = h.name; value = new }))
  keeps_all r ok err = there-set hs i _ all (there_new r ok err)

  pub keeps_sound : (r : Result (Unit {0}) PutFault) → OnOk r (new ≡ put h.value (g ∷ more) v) → OnErr r (new ≡ h.value) → IsTrue (sound_all (seen hs)) → IsTrue (is_name f) → IsTrue (sound new) → IsTrue (sound_all (seen (set hs i (record { name = h.name; value = new }))))
  keeps_sound r ok err s n w = rw (seen-write hs f i h new (there_new r ok err) is e) (sound-update (seen hs) f new s n w)

  pub puts_below : (r : Result (Unit {0}) PutFault) → OnOk r (new ≡ put h.value (g ∷ more) v) → OnOk r (Dir (seen (set hs i (record { name = h.name; value = new }))) ≡ Dir (update (seen hs) f (put (find (seen hs) f) rest v)))
  puts_below (Ok x) ok = ap Dir (seen-write hs f i h new (subst IsThere (sym ok) tt) is e ∙ ap (update (seen hs) f) (ok ∙ put_is))
  puts_below (Err x) ok = tt

  pub parents_below : {A : Type 0} → (A → has_parents h.value (g ∷ more) ≡ false) × (has_parents h.value (g ∷ more) ≡ false → A) → (A → has_parents (find (seen hs) f) rest ≡ false) × (has_parents (find (seen hs) f) rest ≡ false → A)
  parents_below iff = (λ a. sym parents_is ∙ iff.0 a, λ b. iff.1 (parents_is ∙ b))

-- with no entry there is no parent
pub no_parents : (hs : List NamedValue) (f : List ℕ) (i : ℕ) (rest more : List (List ℕ)) (g : List ℕ) → IsGap hs f i → g ∷ more ≡ rest → has_parents (find (seen hs) f) rest ≡ false
no_parents hs f i rest more g gap joined = ap (λ (x : Value). has_parents x rest) (find_gap hs f i gap) ∙ ap (has_parents Absent) (sym joined)

-- what was put keeps the directory sound, and so does a refusal
pub set_sound : {A E : Type 0} (r : Result A E) (new old : List NamedValue) (f : List ℕ) (w : Value) → IsTrue (sound_all (seen old)) → IsTrue (is_name f) → IsTrue (sound w) → OnOk r (seen new ≡ update (seen old) f w) → OnErr r (new ≡ old) → IsTrue (sound_all (seen new))
set_sound (Ok x) new old f w s n v ok err = rw ok (sound-update (seen old) f w s n v)
set_sound (Err x) new old f w s n v ok err = rw err s

pub written_back : (hs : List NamedValue) (i : ℕ) (h d : NamedValue) → i < length hs → get_or (set hs i h) i d ≡ h
written_back [] i h d lt = absurd (omega arith)
written_back (x ∷ hs) zero h d lt = refl
written_back (x ∷ hs) (suc i) h d lt = written_back hs i h d (omega arith)
