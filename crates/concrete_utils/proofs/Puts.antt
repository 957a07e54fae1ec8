-- Puts below a path, and what stands below a link.
use Rattle.std.proofs.Common.{◌≡◌, true, false, Result, Ok, Err, OnOk, ◌≤◌, length, get_or, arith, List, ℕ, [], ◌∷◌, ◌++◌, refl, sym, ap, ◌∙◌}
use Rattle.feature_trees.specs.declared.value.Value.{Value}
use Rattle.feature_trees.specs.declared.value.Value.TheVariants as value
use Rattle.feature_trees.specs.Tree.{entry, at, put, update, entries_of, kind_of}
use Rattle.utility_calls.specs.Ways.{in_dir}
use Rattle.concrete_utils.specs.Ways.{is_link}
use Rattle.utility_calls.proofs.Ways.{nothing_within as in_nothing, at_absent as at_nothing}

-- a put below a path puts what stands there with it
pub put_below : (v : Value) (p q : List (List ℕ)) (w : Value) → put v p (put (at v p) q w) ≡ put v (p ++ q) w
put_below v [] q w = refl
put_below v (f ∷ p) q w = ap (λ (x : Value). value.Dir (update (entries_of v) f x)) (put_below (entry v f) p q w)

-- nothing stands below a link, and nothing there is in a directory
pub at_link : (v : Value) (g : List ℕ) (p : List (List ℕ)) → is_link (kind_of v) ≡ true → at v (g ∷ p) ≡ value.Absent
at_link value.Absent g p e = cc
at_link value.Reg g p e = cc
at_link (value.Link b) g p e = at_nothing p
at_link (value.Special s) g p e = cc
at_link (value.Dir es) g p e = cc

pub in_link : (v : Value) (g : List ℕ) (p : List (List ℕ)) → is_link (kind_of v) ≡ true → in_dir v (g ∷ p) ≡ false
in_link value.Absent g p e = cc
in_link value.Reg g p e = cc
in_link (value.Link b) g [] e = refl
in_link (value.Link b) g (h ∷ p) e = in_nothing (h ∷ p)
in_link (value.Special s) g p e = cc
in_link (value.Dir es) g p e = cc

-- what a change leaves is the same in other words
pub on_ok_is : {A E : Type 0} (r : Result A E) (new made : Value) {want : Value} → OnOk r (new ≡ made) → made ≡ want → OnOk r (new ≡ want)
on_ok_is (Ok x) new made h e = h ∙ e
on_ok_is (Err x) new made h e = tt

-- where the next name leads to a link, and further ones follow
linked : (v : Value) (f g : List ℕ) (next : Value) → f ≡ g → next ≡ entry v f → is_link (kind_of next) ≡ true → is_link (kind_of (entry v g)) ≡ true
linked v f g next is e link =
    sym (ap (λ (x : List ℕ). is_link (kind_of (entry v x))) is) ∙ sym (ap (λ (x : Value). is_link (kind_of x)) e) ∙ link

pub stops_in : (v : Value) (left : List (List ℕ)) (f : List ℕ) (next : Value) → 2 ≤ length left → f ≡ get_or left 0 f → next ≡ entry v f
    → is_link (kind_of next) ≡ true → in_dir v left ≡ false
stops_in v [] f next more is e link = absurd (omega arith)
stops_in v (g ∷ []) f next more is e link = absurd (omega arith)
stops_in v (g ∷ h ∷ rest) f next more is e link = in_link (entry v g) h rest (linked v f g next is e link)

pub stops_at : (v : Value) (left : List (List ℕ)) (f : List ℕ) (next : Value) → 2 ≤ length left → f ≡ get_or left 0 f → next ≡ entry v f
    → is_link (kind_of next) ≡ true → at v left ≡ value.Absent
stops_at v [] f next more is e link = absurd (omega arith)
stops_at v (g ∷ []) f next more is e link = absurd (omega arith)
stops_at v (g ∷ h ∷ rest) f next more is e link = at_link (entry v g) h rest (linked v f g next is e link)
