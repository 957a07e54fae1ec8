-- A walk down a path of the tree now, and the pairs of a store in which what stands there is as wanted.
use Rattle.std.proofs.Common.{◌≡◌, ◌↔◌, ℕ, zero, suc, ◌<◌, ◌≤◌, ◌+◌, List, [], ◌∷◌, ◌++◌, length, take, get_or, IsTrue, refl, sym, ◌∙◌, ap, subst, arith, add-one}
use Rattle.std.proofs.lemmas.Grind.{common_steps}
use Rattle.feature_trees.specs.declared.value.Value.{Value}
use Rattle.feature_trees.specs.declared.value.Value.TheVariants as value
use Rattle.feature_trees.specs.declared.kind.Kind.TheVariants.{Absent, Dir}
use Rattle.feature_trees.specs.Tree.{at, entry, kind_of}
use Rattle.feature_trees.specs.declared.kind.Kinds.{Kinds}
use Rattle.feature_trees.specs.Kinds.{has}
use Rattle.tree_clauses.specs.Literals.{Valuation, value_of_variable}
use Rattle.clause_solver.specs.Stands.{Seen, Stands, Extends, Fences, HasEntry}
use Rattle.clause_solver.specs.Pairs.{HasPair}
use Rattle.start_trees.specs.declared.need.Wanted.{Wanted}
use Rattle.start_trees.specs.declared.need.Wanted.TheVariants as wanted
use Rattle.start_trees.specs.Needs.{IsWanted, Leaves}
use Rattle.feature_trees.proofs.Laws.{at-append}

-- values of the first variables

value_take : (g : Valuation) (n x : ℕ) → x < n → value_of_variable (take n g) x ≡ value_of_variable g x
value_take [] n x lt = none n x
  where
    none : (n x : ℕ) → value_of_variable (take n []) x ≡ value.Absent
    none zero x = refl
    none (suc n) x = refl
value_take (v ∷ g) zero x lt = absurd (omega arith)
value_take (v ∷ g) (suc n) zero lt = refl
value_take (v ∷ g) (suc n) (suc x) lt = value_take g n x (omega arith)

absent_past : (g : Valuation) (x : ℕ) → length g ≤ x → value_of_variable g x ≡ value.Absent
absent_past [] x le = refl
absent_past (v ∷ g) zero le = absurd (omega arith)
absent_past (v ∷ g) (suc x) le = absent_past g x (omega arith)

not_dir : (v : Value) → v ≡ value.Absent → kind_of v ≡ Dir → ⊥
not_dir v e d = let a : kind_of v ≡ Absent = ap kind_of e in cc

below : (a b : ℕ) → (b ≤ a → ⊥) → a < b
below a zero h = absurd (h (omega arith))
below zero (suc b) h = omega arith
below (suc a) (suc b) h = let r : a < b = below a b (λ le. h (omega arith)) in omega arith

-- the tree now is a known variable
current_known : (s : Seen) (t : Value) (g : Valuation) → Stands s t g → s.current < s.count
current_known s t g st =
    let inside : s.current < length g = below s.current (length g) (λ le. not_dir _ (absent_past g s.current le) st.ends) in
    omega (arith, inside, st.counted)

take_counted : (g : Valuation) (n : ℕ) → length g ≡ n → take n g ≡ g
take_counted g n e = grind (arith, common_steps)

extends_itself : (s : Seen) → Extends s s
extends_itself s = record {
  more = omega arith;
  same = refl;
  down = λ t g st. let P : Valuation → Type 0 = λ h. Stands s t h in subst P (sym (take_counted g s.count st.counted)) st;
  up = λ t g st. (g, st, take_counted g s.count st.counted);
}

take_take : (m n : ℕ) (g : Valuation) → m ≤ n → take m (take n g) ≡ take m g
take_take m n g le = grind (arith, common_steps)

extends_further : (a b c : Seen) → Extends a b → Extends b c → Extends a c
extends_further a b c first second = record {
  more = omega (arith, first.more, second.more);
  same = second.same ∙ first.same;
  down = λ t g st.
      let P : Valuation → Type 0 = λ h. Stands a t h in
      subst P (take_take a.count b.count g first.more) (first.down t (take b.count g) (second.down t g st));
  up = λ t g st.
      let mid = first.up t g st in
      let last = second.up t mid.0 mid.1 in
      (last.0, last.1, sym (take_take a.count b.count last.0 first.more) ∙ ap (λ (h : Valuation). take a.count h) last.2 ∙ mid.2);
}

-- one more of a list

pub take_one : {A : Type 0} (xs : List A) (i : ℕ) (x : A) → i < length xs → x ≡ get_or xs i x → take (i + 1) xs ≡ take i xs ++ x ∷ []
take_one xs i x lt e = rw add-one (more xs i x lt e)
  where
    more : {A : Type 0} (xs : List A) (i : ℕ) (x : A) → i < length xs → x ≡ get_or xs i x → take (suc i) xs ≡ take i xs ++ x ∷ []
    more [] i x lt e = absurd (omega arith)
    more (y ∷ ys) zero x lt e = ap (λ z. z ∷ []) (sym e)
    more (y ∷ ys) (suc i) x lt e = ap (λ zs. y ∷ zs) (more ys i x (omega arith) e)

pub take_all : {A : Type 0} (xs : List A) (i : ℕ) → length xs ≤ i → take i xs ≡ xs
take_all [] zero le = refl
take_all [] (suc i) le = refl
take_all (x ∷ xs) zero le = absurd (omega arith)
take_all (x ∷ xs) (suc i) le = ap (λ zs. x ∷ zs) (take_all xs i (omega arith))

-- a variable of the new store that stands for what is at a path of the tree now
pub record Walked (old new : Seen) (names : List (List ℕ)) (x : ℕ) : Type 0 where
  pub extends : Extends old new
  pub known : x < new.count
  pub is : (t : Value) (g : Valuation) → Stands new t g → value_of_variable g x ≡ at (value_of_variable g new.current) names

-- at the tree now itself
pub walked_none : (s : Seen) (x : ℕ) → x ≡ s.current → x < s.count → Walked s s [] x
walked_none s x e lt = record { extends = extends_itself s; known = lt; is = λ t g st. ap (value_of_variable g) e }

-- one name further
pub walked_more : (old mid new : Seen) (names : List (List ℕ)) (f : List ℕ) (x y : ℕ) → Walked old mid names x → Extends mid new → HasEntry new x f y
    → Walked old new (names ++ f ∷ []) y
walked_more old mid new names f x y walked more has = record {
  extends = extends_further old mid new walked.extends more;
  known = has.known;
  is = λ t g st.
      let before = more.down t g st in
      let here : value_of_variable g x ≡ at (value_of_variable g new.current) names =
      sym (value_take g mid.count x walked.known) ∙ walked.is t (take mid.count g) before
      ∙ ap (λ (v : Value). at v names) (value_take g mid.count mid.current (current_known mid t (take mid.count g) before) ∙ ap (value_of_variable g) (sym more.same)) in
      has.is t g st ∙ ap (λ (v : Value). entry v f) here ∙ sym (at-append (value_of_variable g new.current) names (f ∷ []));
}

-- a store that is limited leaves those pairs in which the variable is of these kinds
pub limited_leaves : (old new : Seen) (x : ℕ) (k : Kinds) → new.count ≡ old.count → new.current ≡ old.current
    → ((t : Value) (g : Valuation) → Stands new t g ↔ (Stands old t g × IsTrue (has k (kind_of (value_of_variable g x)))))
    → Leaves old new x (wanted.Kinds k)
limited_leaves old new x k count same exact = record {
  more = omega (arith, count);
  same = same;
  down = λ t g st.
      let both = (exact t g).0 st in
      let P : Valuation → Type 0 = λ h. Stands old t h in
      (subst P (sym (take_counted g old.count both.0.counted)) both.0, both.1);
  up = λ t g st is. (g, (exact t g).1 (st, is), take_counted g old.count st.counted);
}

-- so does one that is led to a target, where the variable is a symbolic link with it
pub led_leaves : (old new : Seen) (x : ℕ) (b : List ℕ) → new.count ≡ old.count → new.current ≡ old.current
    → ((t : Value) (g : Valuation) → Stands new t g ↔ (Stands old t g × (value_of_variable g x ≡ value.Link b)))
    → Leaves old new x (wanted.Target b)
led_leaves old new x b count same exact = record {
  more = omega (arith, count);
  same = same;
  down = λ t g st.
      let both = (exact t g).0 st in
      let P : Valuation → Type 0 = λ h. Stands old t h in
      (subst P (sym (take_counted g old.count both.0.counted)) both.0, both.1);
  up = λ t g st is. (g, (exact t g).1 (st, is), take_counted g old.count st.counted);
}

-- and one that is fenced in
pub fenced_leaves : (old new : Seen) (x : ℕ) (names : List (List ℕ)) → Fences old new x names → Leaves old new x (wanted.Names names)
fenced_leaves old new x names f = record { more = f.more; same = f.same; down = f.down; up = f.up }

-- the pairs of a store in which the walked variable is as wanted
module _ (old mid new : Seen) (names : List (List ℕ)) (w : Wanted) (x : ℕ) (walked : Walked old mid names x) (leaves : Leaves mid new x w) where
  keeps : (t u : Value) → HasPair new t u → HasPair old t u × IsWanted w (at u names)
  keeps t u (g, st, e) =
      let both = leaves.down t g st in
      let m : Valuation = take mid.count g in
      let before = walked.extends.down t m both.0 in
      let then : value_of_variable m mid.current ≡ u =
      value_take g mid.count mid.current (current_known mid t m both.0) ∙ ap (value_of_variable g) (sym leaves.same) ∙ e in
      let first : value_of_variable (take old.count m) old.current ≡ u =
      value_take m old.count old.current (current_known old t (take old.count m) before) ∙ ap (value_of_variable m) (sym walked.extends.same) ∙ then in
      let stands_there : value_of_variable g x ≡ at u names =
      sym (value_take g mid.count x walked.known) ∙ walked.is t m both.0 ∙ ap (λ (v : Value). at v names) then in
      ((take old.count m, before, first), subst (λ (v : Value). IsWanted w v) stands_there both.1)

  kept : (t u : Value) → HasPair old t u → IsWanted w (at u names) → HasPair new t u
  kept t u (g, st, e) allowed =
      let up = walked.extends.up t g st in
      let h = up.0 in
      let now : value_of_variable h mid.current ≡ u =
      ap (value_of_variable h) walked.extends.same ∙ sym (value_take h old.count old.current (current_known old t g st)) ∙ ap (λ (k : Valuation). value_of_variable k old.current) up.2 ∙ e in
      let stands_there : value_of_variable h x ≡ at u names = walked.is t h up.1 ∙ ap (λ (v : Value). at v names) now in
      let last = leaves.up t h up.1 (subst (λ (v : Value). IsWanted w v) (sym stands_there) allowed) in
      let after : value_of_variable last.0 new.current ≡ u =
      ap (value_of_variable last.0) leaves.same ∙ sym (value_take last.0 mid.count mid.current (current_known mid t h up.1))
      ∙ ap (λ (k : Valuation). value_of_variable k mid.current) last.2 ∙ now in
      (last.0, last.1, after)

  pub wanted_pairs : (t u : Value) → HasPair new t u ↔ (HasPair old t u × IsWanted w (at u names))
  wanted_pairs t u = (keeps t u, λ both. kept t u both.0 both.1)
