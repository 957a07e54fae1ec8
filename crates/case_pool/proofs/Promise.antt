-- What a caller learns of the answers, from what its closure ensures.
use Rattle.std.proofs.Common.{List, [], ◌∷◌, Result, Ok, subst, Bor}
use Rattle.std.specs.List.{AllZip}
use denote.Param.Members.{Shared}
use Rattle.script_names.specs.declared.memory.Memory.{Memory}
use Rattle.case_pool.specs.Jobs.{Answers}

module _ {F J R : Type 0} (g : Shared F (Bor J × Unit {0}) (Result R Memory)) (f : F) (P : J → R → Type 0) where
  -- what the closure ensures of each answer holds at each place
  pub promised : ((p : Bor J) (answer : R) → g.post f (p, tt) (Ok answer) → P p.now answer)
      → (jobs : List J) (answers : List R) → Answers g f jobs answers → AllZip P jobs answers
  promised keeps [] [] all = tt
  promised keeps [] (answer ∷ answers) all = all
  promised keeps (job ∷ jobs) [] all = all
  promised keeps (job ∷ jobs) (answer ∷ answers) all =
      let here = subst (λ x. P x answer) all.0.shows (keeps all.0.shown answer all.0.says.met) in
      (here, promised keeps jobs answers all.1)
