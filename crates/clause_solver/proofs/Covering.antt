-- A clause with a store's literals covers the pairs of the store.
use Rattle.std.proofs.Common.{◌≡◌, ℕ, zero, suc, ◌+◌, ◌<◌, ◌↔◌, inl, inr, List, [], ◌∷◌, ◌++◌, length, refl, sym, ap, ◌∙◌, arith}
use Rattle.std.proofs.lemmas.List.{length-append, get_or_append_left}
use Rattle.std.proofs.Math.Seq.{get_or-append_seam}
use Rattle.feature_trees.specs.declared.value.Value.{Value}
use Rattle.feature_trees.specs.declared.value.Value.TheVariants as value
use Rattle.feature_trees.specs.Tree.{kind_of}
use Rattle.tree_clauses.specs.declared.clause.Clause.{Clause}
use Rattle.clause_solver.specs.declared.variable.Variable.{Variable}
use Rattle.tree_clauses.specs.Literals.{Valuation, value_of_variable, IsSound, MeetsAll, Covers}
use Rattle.clause_solver.specs.Stands.{Stands}
use Rattle.clause_solver.specs.Variables.{var_at, AllFit, Ordered, AlwaysDir, OnlyDir}
use Rattle.clause_solver.specs.Written.{literals_from}
use Rattle.clause_solver.proofs.Names.{last_cases}
use Rattle.clause_solver.proofs.Pairs.{sound_at, fits_from}
use Rattle.clause_solver.proofs.OneMore.{seen_of, fits_same, sound_push}
use Rattle.clause_solver.proofs.Alive.{stands_of}

-- the values of the first n variables
abbrev firsts : Valuation → ℕ → Valuation
firsts g zero = []
firsts g (suc n) = firsts g n ++ value_of_variable g n ∷ []

firsts_length : (g : Valuation) (n : ℕ) → length (firsts g n) ≡ n
firsts_length g zero = refl
firsts_length g (suc n) =
    let e = firsts_length g n in
    let more : length (firsts g (suc n)) ≡ length (firsts g n) + 1 = length-append (firsts g n) (value_of_variable g n ∷ []) in
    omega (arith, more, e)

firsts_at : (g : Valuation) (n i : ℕ) → i < n → value_of_variable g i ≡ value_of_variable (firsts g n) i
firsts_at g zero i w = absurd (omega arith)
firsts_at g (suc n) i w =
    let long = firsts_length g n in
    elim (last_cases i n (omega arith)) [
      | inl b ↦
          let b' : i < length (firsts g n) = omega (arith, long) in
          firsts_at g n i b ∙ sym (get_or_append_left (firsts g n) (value_of_variable g n ∷ []) value.Absent i b')
      | inr e ↦
          let e' : i ≡ length (firsts g n) = e ∙ sym long in
          ap (value_of_variable g) e ∙ sym (rw e' (get_or-append_seam (firsts g n) (value_of_variable g n) [] value.Absent))
    ]

firsts_sound : (g : Valuation) (n : ℕ) → IsSound g → IsSound (firsts g n)
firsts_sound g zero s = λ k d w. absurd (omega arith)
firsts_sound g (suc n) s = sound_push (firsts g n) (value_of_variable g n) (firsts_sound g n s) (sound_at g s n)

pub covers_iff : (vars : List Variable) (now : ℕ) → Ordered vars → now < length vars → AlwaysDir vars now → OnlyDir vars 0 → (c : Clause) → c.literals ≡ literals_from 0 vars → c.start.0 ≡ 0 → c.now.0 ≡ now → (t u : Value) → Covers c t u ↔ ((g : Valuation) × Stands (seen_of vars now) t g × (value_of_variable g now ≡ u))
covers_iff vars now order known tree start c literals first last t u = (
  λ h.
      let v = h.valuation in
      let n = length vars in
      let g = firsts v n in
      let met : MeetsAll v (literals_from 0 vars) = rw literals at h.met in
      let fits = fits_from vars v order h.values met in
      let fits' : AllFit vars g = λ i w. fits_same vars v g n (firsts_at v n) i (var_at vars i) w (order.earlier i w) (fits i w) in
      let stands = stands_of vars now order.some tree start g (firsts_length v n) (firsts_sound v n h.values) fits' in
      let begin : value_of_variable g 0 ≡ t = sym (firsts_at v n 0 order.some) ∙ ap (value_of_variable v) (sym first) ∙ h.starts in
      (g, rw begin at stands, sym (firsts_at v n now known) ∙ ap (value_of_variable v) (sym last) ∙ h.ends),
  λ (g, stands, ends).
      record {
        valuation = g;
        values = stands.values;
        starts = ap (value_of_variable g) first ∙ stands.starts;
        ends = ap (value_of_variable g) last ∙ ends;
        tree = ap kind_of (sym ends) ∙ stands.ends;
        met = rw literals stands.met;
      },
)
