-- Parts of a call that are read one after another.
use Rattle.std.proofs.Common.{◌≡◌, ℕ, zero, suc, ◌+◌, ◌-◌, ◌≤◌, List, [], ◌∷◌, ◌++◌, take, Option, None, Result, Err, ap, sym, ◌∙◌, arith, false, subst}
use Rattle.script_names.specs.declared.reason.Reason.{Reason}
use Rattle.script_names.specs.declared.path.PathFault.{PathFault}
use Rattle.script_names.specs.declared.path.PathFault.TheVariants.{Empty, Nul, DotDot, Dot, LongName, Many, Memory}
use Rattle.script_names.specs.Paths.{stated}
use Rattle.utility_calls.specs.declared.fault.CallFault.{CallFault}
use Rattle.utility_calls.specs.declared.fault.CallFault.TheVariants as fault
use Rattle.utility_calls.specs.declared.acts.Act.{Act}
use Rattle.utility_calls.specs.declared.acts.Act.TheVariants.{EnsureDir}
use Rattle.utility_calls.specs.Gives.{Gives}
use Rattle.utility_calls.specs.Operands.{first_of, path_reason, call_fault, ensured}

-- the first part has a fault
pub wrong_first : {A B : Type 0} (why later : Option Reason) (v : A) (w : B) (f : CallFault) → Gives why v (Err f) → Gives (first_of why later) w (Err f)
wrong_first why later v w (fault.Because r) h = ap (λ o. first_of o later) h
wrong_first why later v w fault.Memory h = tt

-- the first part has none, and the later one, which is read of the value, answers so
pub then_later : {A B : Type 0} (why : Option Reason) (later : A → Option Reason) (made want : A) (w : B) (r : Result B CallFault)
    → (why ≡ None) × (made ≡ want) → Gives (later made) w r → Gives (first_of why (later want)) w r
then_later why later made want w r h g =
    subst (λ (o : Option Reason). Gives (first_of o (later want)) w r) (sym h.0) (subst (λ x. Gives (later x) w r) h.1 g)

-- the value that was wanted
pub wanted : {A : Type 0} (why : Option Reason) (made want : A) (r : Result A CallFault) → made ≡ want → Gives why made r → Gives why want r
wanted why made want r e g = subst (λ x. Gives why x r) e g

-- a word that spells no path
pub no_path : {A : Type 0} (o : Option PathFault) (names : List (List ℕ)) (v : A) (f : PathFault) → o ≡ stated f → Gives (path_reason o names) v (Err (call_fault f))
no_path o names v Empty e = ap (λ x. path_reason x names) e
no_path o names v Nul e = ap (λ x. path_reason x names) e
no_path o names v DotDot e = ap (λ x. path_reason x names) e
no_path o names v Dot e = ap (λ x. path_reason x names) e
no_path o names v LongName e = ap (λ x. path_reason x names) e
no_path o names v Many e = ap (λ x. path_reason x names) e
no_path o names v Memory e = tt

-- one more directory on the way
pub one_ensured : (names : List (List ℕ)) (count : ℕ) (acts : List Act) → 1 ≤ count → acts ≡ ensured names (count - 1)
    → acts ++ EnsureDir (record { names = take count names; slash = false }) ∷ [] ≡ ensured names (count + 1 - 1)
one_ensured names zero acts le e = absurd (omega arith)
one_ensured names (suc k) acts le e =
    let a : suc k - 1 ≡ k = omega arith in
    let b : suc k + 1 - 1 ≡ suc k = omega arith in
    ap (λ (xs : List Act). xs ++ EnsureDir (record { names = take (suc k) names; slash = false }) ∷ []) (e ∙ ap (ensured names) a) ∙ sym (ap (ensured names) b)
