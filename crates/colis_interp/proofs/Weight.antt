-- A measure for calls of functions, and the function that a call finds.
use Rattle.std.proofs.Common.{◌≡◌, ℕ, zero, suc, ◌+◌, ◌<◌, ◌≤◌, List, [], ◌∷◌, ◌++◌, length, take, get_or, Some, true, false, refl, ap, ◌∙◌, arith, if◌then◌else◌, ◌-◌}
use Rattle.std.specs.Str.{bytes_eq}
use Rattle.std.proofs.Math.Seq.{take-suc}
use Rattle.std.proofs.lemmas.Slice.Eq.{bytes_eq-Decides}
use Rattle.colis_syntax.specs.declared.syntax.Stmt.{size-Stmt}
use Rattle.colis_syntax.specs.declared.def.Def.{Def}
use Rattle.shell_rules.specs.State.{Text, Funs}
use Rattle.shell_rules.specs.Calls.{found}
use Rattle.colis_meaning.specs.Meaning.{co_stmt, funs_of}

abbrev pub weight : List Def → ℕ
weight [] = 0
weight (d ∷ ds) = size-Stmt d.body + 1 + weight ds

pub weight_take : (ds : List Def) (i : ℕ) (d : Def) → i < length ds → size-Stmt (get_or ds i d).body + weight (take i ds) < weight ds
weight_take [] i d lt = absurd (omega arith)
weight_take (x ∷ ds) zero d lt = omega arith
weight_take (x ∷ ds) (suc i) d lt = let h = weight_take ds i d (omega arith) in omega (arith, h)

funs_end : (xs : List Def) (d : Def) (f : Funs) → funs_of (xs ++ d ∷ []) f ≡ (d.name, co_stmt d.body (funs_of xs f)) ∷ funs_of xs f
funs_end [] d f = refl
funs_end (x ∷ xs) d f = funs_end xs d ((x.name, co_stmt x.body f) ∷ f)

-- the function at the end of a front
found_end : (ds : List Def) (i : ℕ) (d : Def) (x : Text) → i < length ds
    → found x (funs_of (take (suc i) ds) []) ≡ (if bytes_eq (get_or ds i d).name x then Some (co_stmt (get_or ds i d).body (funs_of (take i ds) [])) else found x (funs_of (take i ds) []))
found_end ds i d x lt = ap (λ l. found x (funs_of l [])) (take-suc ds i d lt) ∙ ap (found x) (funs_end (take i ds) (get_or ds i d) [])

same_at : (ds : List Def) (i : ℕ) (d e : Def) → i < length ds → get_or ds i d ≡ get_or ds i e
same_at [] i d e lt = absurd (omega arith)
same_at (x ∷ ds) zero d e lt = refl
same_at (x ∷ ds) (suc i) d e lt = same_at ds i d e (omega arith)

found_before : (ds : List Def) (end : ℕ) (d : Def) (x : Text) → 0 < end → end ≤ length ds
    → found x (funs_of (take end ds) []) ≡ (if bytes_eq (get_or ds (end - 1) d).name x then Some (co_stmt (get_or ds (end - 1) d).body (funs_of (take (end - 1) ds) [])) else found x (funs_of (take (end - 1) ds) []))
found_before ds end d x pos le = let e : end ≡ suc (end - 1) = omega arith in ap (λ n. found x (funs_of (take n ds) [])) e ∙ found_end ds (end - 1) d x (omega arith)

pub found_here : (ds : List Def) (end : ℕ) (d e : Def) (x : Text) → 0 < end → end ≤ length ds → (get_or ds (end - 1) e).name ≡ x → found x (funs_of (take end ds) []) ≡ Some (co_stmt (get_or ds (end - 1) d).body (funs_of (take (end - 1) ds) []))
found_here ds end d e x pos le same =
    found_before ds end d x pos le ∙ ap (λ b. if b then Some (co_stmt (get_or ds (end - 1) d).body (funs_of (take (end - 1) ds) [])) else found x (funs_of (take (end - 1) ds) []))
    ((bytes_eq-Decides (get_or ds (end - 1) d).name x).1 (ap (λ y. y.name) (same_at ds (end - 1) d e (omega arith)) ∙ same))

pub found_lower : (ds : List Def) (end : ℕ) (e : Def) (x : Text) → 0 < end → end ≤ length ds → ((get_or ds (end - 1) e).name ≡ x → ⊥) → found x (funs_of (take end ds) []) ≡ found x (funs_of (take (end - 1) ds) [])
found_lower ds end e x pos le other =
    found_before ds end e x pos le ∙ elim (bytes_eq (get_or ds (end - 1) e).name x) as (λ b. bytes_eq (get_or ds (end - 1) e).name x ≡ b → (if b then Some (co_stmt (get_or ds (end - 1) e).body (funs_of (take (end - 1) ds) [])) else found x (funs_of (take (end - 1) ds) [])) ≡ found x (funs_of (take (end - 1) ds) [])) [
      | true ↦ λ h. absurd (other ((bytes_eq-Decides (get_or ds (end - 1) e).name x).0 h))
      | false ↦ λ h. refl
    ] refl
