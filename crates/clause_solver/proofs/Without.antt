-- A variable with entries under some names alone: the stages put together.
use Rattle.std.proofs.Common.{◌≡◌, ℕ, ◌<◌, List, [], length, take, refl, sym, ap, ◌∙◌, arith, length-set, subst}
use Rattle.std.proofs.lemmas.List.{take_all, get_or-take, length-take-le}
use Rattle.feature_trees.specs.declared.value.Value.TheVariants as value
use Rattle.feature_trees.specs.Tree.{kind_of}
use Rattle.feature_trees.specs.declared.value.Value.{Value}
use Rattle.tree_clauses.proofs.Orders.{contains_nothing}
use Rattle.tree_clauses.specs.Literals.{value_of_variable}
use Rattle.clause_solver.specs.declared.variable.Variable.{Variable}
use Rattle.clause_solver.specs.Stands.{Empties, Fences, IsFenced}
use Rattle.clause_solver.specs.Variables.{AllFit, Ordered, AlwaysDir}
use Rattle.clause_solver.specs.Emptied.{ComesTo, IsEmptied, HasMore, HasNoneOutside, IsClosed, IsWithin, fenced}
use Rattle.clause_solver.proofs.Names.{listed_from_contains, contains_from_listed}
use Rattle.clause_solver.proofs.Pairs.{fits_from, fits_to}
use Rattle.clause_solver.proofs.OneMore.{seen_of, sound_take}
use Rattle.clause_solver.proofs.Fenced.{fenced_fits, fits_fenced, fenced_only}

pub fenced_closed : (old vars : List Variable) (n : ℕ) (names : List (List ℕ)) → 0 < length old → n < length old → HasMore old vars → IsClosed old n names (fenced vars n names)
fenced_closed old vars n names some inside m =
    let less = m.more in
    let inside' : n < length vars = omega (arith, inside, less) in
    record {
      more = rw length-set less;
      first = λ h. fenced_only vars n names inside' 0 (rw (m.old_at 0 some) h);
      down = λ g l fits.
          let parts = fenced_fits vars n names inside' g fits in
          (m.down g (rw length-set at l) parts.0, rw (get_or-take (length old) g n value.Absent inside) parts.1);
      up = λ g l s fits none.
          let r = m.up g l s fits in
          let same : value_of_variable r.0 n ≡ value_of_variable g n = sym (get_or-take (length old) r.0 n value.Absent inside) ∙ ap (λ u. value_of_variable u n) r.4 in
          (r.0, rw length-set r.1, r.2, fits_fenced vars n names inside' r.0 r.3 (rw same none), r.4);
    }

pub closed_within : (old mid : List Variable) (x n : ℕ) (fence names : List (List ℕ)) (new : List Variable) → ComesTo old x fence mid n names → IsClosed mid n names new → IsWithin old x fence new
closed_within old mid x n fence names new to closed =
    let long = to.narrower.long in
    let less = closed.more in
    record {
      more = rw (sym long) less;
      first = λ h. closed.first (λ k t. h k (to.narrower.kinds 0 k t));
      down = λ g l s fits.
          let parts = closed.down g l fits in
          let sound = sound_take (length mid) g (omega (arith, l, less)) s in
          subst (λ k. AllFit old (take k g) × HasNoneOutside (value_of_variable (take k g) x) fence) long (to.narrower.fits (take (length mid) g) parts.0, to.back (take (length mid) g) sound parts.0 parts.1);
      up = λ g l s fits none.
          let r = to.there g s fits none in
          let q = closed.up g (l ∙ sym long) s r.0 r.1 in
          (q.0, q.1, q.2, q.3, ap (λ k. take k q.0) (sym long) ∙ q.4);
    }

pub emptied_within : (old : List Variable) (x : ℕ) (fence : List (List ℕ)) (new : List Variable) → IsEmptied old x fence new → IsWithin old x fence new
emptied_within old x fence new e =
    let long = e.narrower.long in
    record {
      more = rw long (omega arith);
      first = λ h k t. h k (e.narrower.kinds 0 k t);
      down = λ g l s fits.
          let whole : take (length old) g ≡ g = take_all (length old) g (omega (arith, l, long)) in
          subst (λ u. AllFit old u × HasNoneOutside (value_of_variable u x) fence) (sym whole) (e.narrower.fits g fits, e.back g s fits);
      up = λ g l s fits none. (g, l ∙ sym long, s, e.there g s fits none, take_all (length old) g (omega (arith, l)));
    }

-- the tree now is a directory in the new pairs too
pub within_always : (old : List Variable) (x : ℕ) (fence : List (List ℕ)) (new : List Variable) (now : ℕ) → now < length old → IsWithin old x fence new → AlwaysDir old now → AlwaysDir new now
within_always old x fence new now known w h g l s fits =
    let less = w.more in
    let parts = w.down g l s fits in
    let sound = sound_take (length old) g (omega (arith, l, less)) s in
    rw (get_or-take (length old) g now value.Absent known) at (h (take (length old) g) (length-take-le (length old) g (omega (arith, l, less))) sound parts.0)

-- under the names of a list, or outside it
outside_listed : (v : Value) (names : List (List ℕ)) → IsFenced v names → HasNoneOutside v names
outside_listed v names none f out = none f (λ c. out (listed_from_contains f names c))

listed_outside : (v : Value) (names : List (List ℕ)) → HasNoneOutside v names → IsFenced v names
listed_outside v names none f out = none f (λ l. out (contains_from_listed f names l))

pub within_fences : (old : List Variable) (x : ℕ) (fence : List (List ℕ)) (new : List Variable) (now : ℕ) → Ordered old → Ordered new → x < length old → now < length old → IsWithin old x fence new → Fences (seen_of old now) (seen_of new now) x fence
within_fences old x fence new now order new_order inside known w =
    let less = w.more in
    record {
      more = less;
      same = refl;
      down = λ t g h.
          let parts = w.down g h.counted h.values (fits_from new g new_order h.values h.met) in
          let long = h.counted in
          let s = sound_take (length old) g (omega (arith, long, less)) h.values in (
            record {
              counted = length-take-le (length old) g (omega (arith, long, less));
              starts = rw (get_or-take (length old) g 0 value.Absent order.some) h.starts;
              tree = h.tree;
              ends = rw (get_or-take (length old) g now value.Absent known) h.ends;
              met = fits_to old (take (length old) g) s parts.0;
              values = s;
            },
            listed_outside (value_of_variable g x) fence (rw (get_or-take (length old) g x value.Absent inside) at parts.1),
          );
      up = λ t g h none.
          let r = w.up g h.counted h.values (fits_from old g order h.values h.met) (outside_listed (value_of_variable g x) fence none) in
          let at_old : (i : ℕ) → i < length old → value_of_variable r.0 i ≡ value_of_variable g i =
          λ i b. sym (get_or-take (length old) r.0 i value.Absent b) ∙ ap (λ u. value_of_variable u i) r.4 in (
            r.0,
            record {
              counted = r.1;
              starts = at_old 0 order.some ∙ h.starts;
              tree = h.tree;
              ends = ap kind_of (at_old now known) ∙ h.ends;
              met = fits_to new r.0 r.2 r.3;
              values = r.2;
            },
            r.4,
          );
    }

pub within_empties : (old : List Variable) (x : ℕ) (new : List Variable) (now : ℕ) → Ordered old → Ordered new → x < length old → now < length old → IsWithin old x [] new → Empties (seen_of old now) (seen_of new now) x
within_empties old x new now order new_order inside known w =
    let all = within_fences old x [] new now order new_order inside known w in
    record {
      more = all.more;
      same = all.same;
      down = λ t g h. let r = all.down t g h in (r.0, λ f. r.1 f (contains_nothing f));
      up = λ t g h none. all.up t g h (λ f out. none f);
    }
