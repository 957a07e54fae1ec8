-- What undoes the acts of an unpacking.
use Rattle.std.proofs.Common.{◌≡◌, ℕ, zero, suc, ◌≤◌, min, List, [], ◌∷◌, ◌++◌, length, drop, refl, sym, ap, ◌∙◌, arith}
use Rattle.std.specs.Prelude.{All}
use Rattle.std.proofs.Math.Nat.{suc-lt_of_lt-pred, zero-lt-suc}
use Rattle.std.proofs.Math.Seq.{drop-nil}
use Rattle.std.proofs.lemmas.List.{append-nil}
use Rattle.utility_calls.specs.declared.acts.Act.{Act}
use Rattle.utility_calls.specs.declared.acts.Act.TheVariants.{Exists, IsReg, IsDir, IsLink, IsSpecial, CanRun, MakeDir}
use Rattle.utility_calls.specs.declared.acts.Act.TheVariants.{EnsureDir, RemoveDir, Remove, Touch, Symlink, Move}
use Rattle.utility_calls.specs.declared.acts.Act.TheVariants.{Attr, Copy}
use Rattle.utility_calls.specs.declared.acts.Act.TheVariants.{PlaceFile, PlaceLink, PlaceConf, Discard, DiscardDir}
use Rattle.utility_calls.specs.declared.backs.Back.{Back}
use Rattle.utility_calls.specs.Acts.{path_of}
use Rattle.utility_calls.specs.Backs.{names_of, back_of, IsNamed}
use Rattle.scenario_runs.specs.Acts.{HasName, AreFileActs, AreFileBacks, backs_of}

-- what undoes an act has the path of the act that was done
done_names : (listed done : Act) → names_of (back_of listed done) ≡ (path_of done).names
done_names (Exists p) done = refl
done_names (IsReg p) done = refl
done_names (IsDir p) done = refl
done_names (IsLink p) done = refl
done_names (CanRun p runs) done = refl
done_names (IsSpecial p kind) done = refl
done_names (MakeDir p) done = refl
done_names (EnsureDir p) done = refl
done_names (RemoveDir p) done = refl
done_names (Remove p force deep) done = refl
done_names (Touch p) done = refl
done_names (Symlink p target last force) done = refl
done_names (Move a b) done = refl
done_names (Attr p) done = refl
done_names (Copy a b deep) done = refl
done_names (PlaceFile p) done = refl
done_names (PlaceLink p target) done = refl
done_names (PlaceConf p) done = refl
done_names (Discard p) done = refl
done_names (DiscardDir p) done = refl

backs_named : (listed acts : List Act) → All HasName acts → All IsNamed (backs_of listed acts)
backs_named [] acts h k d lt = absurd (omega arith)
backs_named (act ∷ listed) [] h k d lt = absurd (omega arith)
backs_named (act ∷ listed) (done ∷ acts) h zero d lt = λ e. h 0 done (zero-lt-suc (length acts)) (sym (done_names act done) ∙ e)
backs_named (act ∷ listed) (done ∷ acts) h (suc k) d lt =
    backs_named listed acts (λ n x less. h (suc n) x (suc-lt_of_lt-pred {m = length (done ∷ acts)} less)) k d (omega arith)

backs_few : (listed acts : List Act) → length (backs_of listed acts) ≤ length acts
backs_few [] acts = omega arith
backs_few (act ∷ listed) [] = omega arith
backs_few (act ∷ listed) (done ∷ acts) = let h = backs_few listed acts in omega (arith, h)

pub backs_sound : (listed acts : List Act) → AreFileActs acts → AreFileBacks (backs_of listed acts)
backs_sound listed acts sound = record {
  named = backs_named listed acts sound.named;
  few = let h = backs_few listed acts in let few = sound.few in omega (arith, h, few);
}

backs_of_nil : (listed : List Act) → backs_of listed [] ≡ []
backs_of_nil [] = refl
backs_of_nil (act ∷ listed) = refl

-- behind the end of one of both nothing is left
none_left : (listed acts : List Act) (i : ℕ) → min (length listed) (length acts) ≤ i → backs_of (drop i listed) (drop i acts) ≡ []
none_left [] acts i le = ap (λ xs. backs_of xs (drop i acts)) (drop-nil i)
none_left (act ∷ listed) [] i le =
    ap (backs_of (drop i (act ∷ listed))) (drop-nil i) ∙ backs_of_nil (drop i (act ∷ listed))
none_left (act ∷ listed) (done ∷ acts) zero le = absurd (omega (arith, le))
none_left (act ∷ listed) (done ∷ acts) (suc i) le = none_left listed acts i (omega (arith, le))

-- at the end all are there
pub all_there : (listed acts : List Act) (i : ℕ) (backs : List Back) → min (length listed) (length acts) ≤ i
    → backs_of listed acts ≡ backs ++ backs_of (drop i listed) (drop i acts) → backs ≡ backs_of listed acts
all_there listed acts i backs le e = sym (e ∙ ap (λ more. backs ++ more) (none_left listed acts i le) ∙ append-nil backs)
