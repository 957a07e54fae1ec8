-- The words of each row fit it, table by table.
use Rattle.std.proofs.Common.{◌≡◌, Bool, true, false, refl}
use Rattle.std.specs.List.{list_all}
use Rattle.utility_calls.specs.declared.acts.Act.TheVariants.{Exists, IsReg, IsDir, IsLink, CanRun, IsSpecial}
use Rattle.utility_calls.specs.declared.acts.Act.TheVariants.{MakeDir, EnsureDir, RemoveDir, Remove, Touch, Symlink}
use Rattle.utility_calls.specs.declared.acts.Act.TheVariants.{Move, Attr, Copy, PlaceFile, PlaceLink, PlaceConf}
use Rattle.utility_calls.specs.declared.acts.Act.TheVariants.{Discard, DiscardDir}
use Rattle.utility_calls.specs.declared.backs.Back.TheVariants.{Folder, File}
use Rattle.utility_calls.specs.Acts.{is_below}
use Rattle.utility_calls.specs.Table.{move_by}
use Rattle.script_places.specs.ActWords.{either_move_words, words_by}
use Rattle.script_places.specs.Laws.{ActWordsFit, BackWordsFit, fit}

-- those of a move, by whether its second path is below the first
moves_fit : (below : Bool)
    → list_all (λ r. fit false (words_by r.number (either_move_words below r.number)) r) (move_by below) ≡ true
moves_fit false = refl
moves_fit true = refl

pub acts_fit : ActWordsFit
acts_fit (Exists p) = refl
acts_fit (IsReg p) = refl
acts_fit (IsDir p) = refl
acts_fit (IsLink p) = refl
acts_fit (CanRun p false) = refl
acts_fit (CanRun p true) = refl
acts_fit (IsSpecial p kind) = refl
acts_fit (MakeDir p) = refl
acts_fit (EnsureDir p) = refl
acts_fit (RemoveDir p) = refl
acts_fit (Remove p false false) = refl
acts_fit (Remove p false true) = refl
acts_fit (Remove p true false) = refl
acts_fit (Remove p true true) = refl
acts_fit (Touch p) = refl
acts_fit (Symlink p target last false) = refl
acts_fit (Symlink p target last true) = refl
acts_fit (Move a b) = moves_fit (is_below (Move a b))
acts_fit (Attr p) = refl
acts_fit (Copy a b false) = refl
acts_fit (Copy a b true) = refl
acts_fit (PlaceFile p) = refl
acts_fit (PlaceLink p target) = refl
acts_fit (PlaceConf p) = refl
acts_fit (Discard p) = refl
acts_fit (DiscardDir p) = refl

pub backs_fit : BackWordsFit
backs_fit (Folder p) = refl
backs_fit (File p) = refl
