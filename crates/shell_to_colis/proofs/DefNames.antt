-- The names of functions with one more behind them.
use Rattle.std.proofs.Common.{◌≡◌, ℕ, Bool, true, false, List, [], ◌∷◌, ◌++◌, Vec, refl, sym, ap, ◌∙◌}
use Rattle.std.specs.Prelude.{◌||◌}
use Rattle.std.specs.BTreeSet.{BTreeSet, UpdatesBy}
use Rattle.std.specs.Str.{bytes_eq}
use Rattle.colis_syntax.specs.declared.def.Def.{Def}
use Rattle.colis_syntax.specs.WellFormed.{is_def}
use Rattle.shell_to_colis.specs.DefNames.{has_name, AreTheNames}
use Rattle.script_names.proofs.TextSets.{texts, key_cmp, adds}

either_first : (a b c : Bool) → (a || (b || c)) ≡ (b || (a || c))
either_first true true c = refl
either_first true false c = refl
either_first false true c = refl
either_first false false c = refl

-- a name is one of the functions' or that of the one behind them
one_behind : (defs : List Def) (def : Def) (name : List ℕ) → is_def name (defs ++ def ∷ []) ≡ (bytes_eq def.name name || is_def name defs)
one_behind [] def name = refl
one_behind (d ∷ defs) def name =
    ap (λ b. bytes_eq d.name name || b) (one_behind defs def name) ∙ either_first (bytes_eq d.name name) (bytes_eq def.name name) (is_def name defs)

module _ {A : Type 0} where
  -- the set of the functions' names with one more is that of the functions with one more
  pub names_more : (defs : List Def) (def : Def) (m n : BTreeSet (Vec ℕ A)) (name : List ℕ) → AreTheNames defs m → name ≡ def.name
      → UpdatesBy key_cmp (λ k. texts name k.items) m n true → AreTheNames (defs ++ def ∷ []) n
  names_more defs def m n name are is h q =
      adds m n name h q ∙ ap (λ (x : List ℕ). bytes_eq x q || has_name m q) is ∙ ap (λ b. bytes_eq def.name q || b) (are q)
      ∙ sym (one_behind defs def q)
