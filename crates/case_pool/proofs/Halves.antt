-- The answers to two runs of jobs, one after the other.
use Rattle.std.proofs.Common.{◌≡◌, List, [], ◌∷◌, ◌++◌, Result, sym, subst}
use denote.Ref.{Bor}
use denote.Param.Members.{Shared}
use Rattle.script_names.specs.declared.memory.Memory.{Memory}
use Rattle.case_pool.specs.Jobs.{Answers}

module _ {F J R : Type 0} (g : Shared F (Bor J × Unit {0}) (Result R Memory)) (f : F) where
  -- the answers to the low jobs and those to the high ones answer both
  pub both : (low high : List J) (first second : List R)
      → Answers g f low first → Answers g f high second → Answers g f (low ++ high) (first ++ second)
  both [] high [] second one two = two
  both [] high (answer ∷ first) second one two = absurd one
  both (job ∷ low) high [] second one two = absurd one
  both (job ∷ low) high (answer ∷ first) second one two = (one.0, both low high first second one.1 two)

  -- the same of all jobs and all answers, which the two runs make up
  pub whole : (low high jobs : List J) (first second answers : List R) → low ++ high ≡ jobs → answers ≡ first ++ second
      → Answers g f low first → Answers g f high second → Answers g f jobs answers
  whole low high jobs first second answers ofJobs ofAnswers one two =
      subst (λ js. Answers g f js answers) ofJobs
      (subst (λ rs. Answers g f (low ++ high) rs) (sym ofAnswers) (both low high first second one two))
