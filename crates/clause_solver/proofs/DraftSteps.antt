-- What the steps of a draft come to.
use Rattle.std.proofs.Common.{◌≡◌, ◌≢◌, ℕ, ◌+◌, ◌<◌, inl, inr, IsTrue, Some, List, [], ◌∷◌, ◌++◌, length, take, refl, sym, ap, ◌∙◌, arith, subst, length-set}
use Rattle.std.proofs.lemmas.List.{get_or-take, take_all, length-append}
use Rattle.std.proofs.Math.Seq.{take-append_seam}
use Rattle.feature_trees.specs.declared.kind.Kinds.{Kinds}
use Rattle.feature_trees.specs.declared.value.Value.TheVariants as value
use Rattle.feature_trees.specs.Kinds.{has}
use Rattle.feature_trees.specs.Tree.{entry, kind_of}
use Rattle.tree_clauses.specs.declared.clause.Var.{Var}
use Rattle.tree_clauses.specs.declared.clause.Literal.TheVariants as L
use Rattle.tree_clauses.specs.Literals.{Valuation, value_of_variable, IsSound}
use Rattle.tree_clauses.proofs.Orders.{contains_nothing}
use Rattle.clause_solver.specs.declared.drafts.Draft.{Draft}
use Rattle.clause_solver.specs.declared.lists.Lists.{Lists}
use Rattle.clause_solver.specs.declared.variable.MadeValue.TheVariants as made
use Rattle.clause_solver.specs.declared.variable.Definition.{Definition}
use Rattle.clause_solver.specs.declared.variable.Definition.TheVariants.{Child, Made}
use Rattle.clause_solver.specs.declared.variable.Variable.{Variable}
use Rattle.clause_solver.specs.declared.appended.Found.TheVariants.{Known, Nothing, At}
use Rattle.clause_solver.specs.Appends.{IsAppended, IsSingle, LeadsTo}
use Rattle.clause_solver.specs.Decided.{AreDecided}
use Rattle.clause_solver.specs.Emptied.{IsWithin}
use Rattle.clause_solver.specs.Fresh.{fresh}
use Rattle.clause_solver.specs.Variables.{AllFit, Earlier, OnlyDir, IsChild, defined, narrowed, filled}
use Rattle.clause_solver.specs.Written.{var}
use Rattle.clause_solver.specs.Drafts.{place_in, Narrows, IsSteady, Says, IsPut, Adds, Makes}
use Rattle.clause_solver.proofs.Drafting.{narrows_nothing}
use Rattle.clause_solver.proofs.Filled.{filled_fits, fits_filled, filled_only}
use Rattle.clause_solver.proofs.Narrowed.{narrowed_fits, fits_narrowed, narrowed_only}
use Rattle.clause_solver.proofs.Names.{nat_cases}
use Rattle.clause_solver.proofs.OneMore.{longer, append_only, append_down, append_up, sound_push, sound_take, defined_sound}

-- a condition that variables with other facts put
narrows_by : (old new : List Variable) (P : Valuation → Type 0) → length new ≡ length old → (OnlyDir old 0 → OnlyDir new 0) → ((g : Valuation) → AllFit new g → AllFit old g × P g) → ((g : Valuation) → AllFit old g → P g → AllFit new g) → Narrows old new P
narrows_by old new P long first from to = record {
  more = rw long (omega arith);
  first = first;
  down = λ g l s fits.
      let whole : take (length old) g ≡ g = take_all (length old) g (omega (arith, l, long)) in
      subst (λ u. AllFit old u × P u) (sym whole) (from g fits);
  up = λ g l s fits p. (g, l ∙ sym long, s, to g fits p, take_all (length old) g (omega (arith, l)));
}

module _ (a : Draft) (x : Var) (n : ℕ) (steady : IsSteady a) (at : place_in a x.0 ≡ Some n) where
  inside : n < length a.lists.vars
  inside = steady.inside x.0 n at

  pub narrowed_says : (k : Kinds) (lists : Lists) → lists.vars ≡ narrowed a.lists.vars n k → AreDecided lists → Says a (record a { lists = lists }) (L.Kind x k)
  narrowed_says k lists e decided =
      let new : List Variable = narrowed a.lists.vars n k in
      record {
        here = L.Kind (var n) k;
        same = refl;
        steady = record { decided = decided; inside = λ y m p. rw (e, length-set) (steady.inside y m p) };
        narrows = rw e (narrows_by a.lists.vars new (λ g. IsTrue (has k (kind_of (value_of_variable g n)))) (length-set a.lists.vars n _) (narrowed_only a.lists.vars n k inside 0) (narrowed_fits a.lists.vars n k inside) (fits_narrowed a.lists.vars n k inside));
        is = λ g h agrees. (λ t. rw (agrees x.0 n at) t, λ t. rw (agrees x.0 n at) at t);
      }

  pub filled_says : (lists : Lists) → lists.vars ≡ filled a.lists.vars n → AreDecided lists → Says a (record a { lists = lists }) (L.NotEmpty x)
  filled_says lists e decided =
      let new : List Variable = filled a.lists.vars n in
      record {
        here = L.NotEmpty (var n);
        same = refl;
        steady = record { decided = decided; inside = λ y m p. rw (e, length-set) (steady.inside y m p) };
        narrows = rw e (narrows_by a.lists.vars new (λ g. (f : List ℕ) × (entry (value_of_variable g n) f ≢ value.Absent)) (length-set a.lists.vars n _) (filled_only a.lists.vars n inside 0) (filled_fits a.lists.vars n inside) (fits_filled a.lists.vars n inside));
        is = λ g h agrees. (λ t. rw (agrees x.0 n at) t, λ t. rw (agrees x.0 n at) at t);
      }

  pub without_says : (lists : Lists) → AreDecided lists → IsWithin a.lists.vars n [] lists.vars → Says a (record a { lists = lists }) (L.Fence x [])
  without_says lists decided w =
      let less = w.more in
      record {
        here = L.Fence (var n) [];
        same = refl;
        steady = record { decided = decided; inside = λ y m p. let b = steady.inside y m p in omega (arith, b, less) };
        narrows = record {
          more = less;
          first = w.first;
          down = λ g l s fits. let parts = w.down g l s fits in (parts.0, λ f out. parts.1 f (λ l. l));
          up = λ g l s fits none. w.up g l s fits (λ f out. none f (contains_nothing f));
        };
        is = λ g h agrees. (λ t. rw (agrees x.0 n at) t, λ t. rw (agrees x.0 n at) at t);
      }

-- one more variable is a place of the case
pub appended_adds : (a b c : Draft) (v y : ℕ) (d : Definition) → IsSteady a → Earlier a.lists.vars (length a.lists.vars) d → IsSingle a.lists.vars d → b.places ≡ a.places → IsAppended a.lists d b.lists y → AreDecided b.lists → IsPut b c v y → Adds a c v d
appended_adds a b c v y d steady before single places is decided put =
    let order = steady.decided.order in
    let long = longer a.lists.vars order d before in
    let new : List Variable = a.lists.vars ++ fresh d ∷ [] in
    let vars : c.lists.vars ≡ new = ap (λ (l : Lists). l.vars) put.lists ∙ is.variable in
    let other : (x : ℕ) → x ≢ v → place_in c x ≡ place_in a x = λ x ne. rw (sym places) (put.other x ne) in
    record {
      place = y;
      here = put.here;
      other = other;
      steady = record {
        decided = rw put.lists decided;
        inside = λ x n p. elim (nat_cases x v) [
          | inl e ↦
              let q : Some n ≡ Some y = sym p ∙ ap (place_in c) e ∙ put.here in
              let same : n ≡ y = cc in
              rw (vars, same, is.at, long) (omega arith)
          | inr ne ↦ let b = steady.inside x n (sym (other x ne) ∙ p) in rw (vars, long) (omega (arith, b))
        ];
      };
      keeps = rw vars (record {
        more = rw long (omega arith);
        first = append_only a.lists.vars order d before 0 order.some;
        down = λ g l s fits. ((append_down a.lists.vars order d before g fits).0, tt);
        up = λ g l s fits p.
            let w = defined g d in (
              g ++ w ∷ [],
              rw (long, length-append g (w ∷ [])) (ap (λ n. n + 1) l),
              sound_push g w s (defined_sound a.lists.vars (length a.lists.vars) g d before s),
              append_up a.lists.vars order d before g l fits,
              rw (sym l) (take-append_seam g (w ∷ [])),
            );
      });
      is = λ g l s fits. rw is.at (append_down a.lists.vars order d before g (rw vars at fits)).1;
    }

module _ (a c : Draft) (v x n : ℕ) (f : List ℕ) (steady : IsSteady a) (at : place_in a x ≡ Some n) where
  -- the entry is a variable that is there
  pub found_makes : (y : ℕ) → IsPut a c v y → y < length a.lists.vars → ((g : Valuation) → IsSound g → AllFit a.lists.vars g → entry (value_of_variable g n) f ≡ value_of_variable g y) → Makes a c v (Child x f)
  found_makes y put known leads =
      record {
        place = y;
        here = put.here;
        other = put.other;
        steady = record {
          decided = rw put.lists steady.decided;
          inside = λ z m p. elim (nat_cases z v) [
            | inl e ↦
                let q : Some m ≡ Some y = sym p ∙ ap (place_in c) e ∙ put.here in
                let same : m ≡ y = cc in
                rw (put.lists, same) known
            | inr ne ↦ rw put.lists (steady.inside z m (sym (put.other z ne) ∙ p))
          ];
        };
        keeps = rw put.lists (narrows_nothing a.lists.vars);
        is = λ g h l s fits agrees. sym (leads g s (rw put.lists at fits)) ∙ ap (λ u. entry u f) (sym (agrees x n at));
      }

  pub known_makes : (y : ℕ) → IsPut a c v y → LeadsTo a.lists.vars n f (Known y) → Makes a c v (Child x f)
  known_makes y put leads = found_makes y put leads.0 leads.1

  pub child_makes : (m y : ℕ) → IsPut a c v y → LeadsTo a.lists.vars n f (At m) → IsChild a.lists.vars m f y → Makes a c v (Child x f)
  child_makes m y put leads child = found_makes y put child.0 (λ g s fits. leads.2 g s fits ∙ sym ((fits y child.0).is ∙ ap (defined g) child.1))

  -- the entry is a new variable
  added_makes : (d : Definition) → Adds a c v d → ((g : Valuation) → IsSound g → AllFit a.lists.vars g → entry (value_of_variable g n) f ≡ defined g d) → ((g : Valuation) → defined (take (length a.lists.vars) g) d ≡ defined g d) → Makes a c v (Child x f)
  added_makes d adds leads same = record {
    place = adds.place;
    here = adds.here;
    other = adds.other;
    steady = adds.steady;
    keeps = adds.keeps;
    is = λ g h l s fits agrees.
        let m = length a.lists.vars in
        let less = adds.keeps.more in
        let parts = adds.keeps.down g l s fits in
        adds.is g l s fits ∙ sym (same g) ∙ sym (leads (take m g) (sound_take m g (omega (arith, l, less)) s) parts.0)
        ∙ ap (λ u. entry u f) (get_or-take m g n value.Absent (steady.inside x n at) ∙ sym (agrees x n at));
  }

  pub nothing_makes : Adds a c v (Made made.Absent) → LeadsTo a.lists.vars n f Nothing → Makes a c v (Child x f)
  nothing_makes adds leads = added_makes (Made made.Absent) adds leads (λ g. refl)

  pub entry_makes : (m : ℕ) → Adds a c v (Child m f) → LeadsTo a.lists.vars n f (At m) → Makes a c v (Child x f)
  entry_makes m adds leads = added_makes (Child m f) adds leads.2 (λ g. ap (λ u. entry u f) (get_or-take (length a.lists.vars) g m value.Absent leads.0))
