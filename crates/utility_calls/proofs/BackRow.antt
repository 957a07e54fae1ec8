-- Exactly one row of a back applies; what it changes is in a directory, and a directory stays one, and a sound tree
-- sound.
use Rattle.std.proofs.Common.{◌≡◌, ◌≢◌, ℕ, Bool, true, not, ◌||◌, IsTrue}
use Rattle.std.proofs.Common.{Option, Some, None, List, [], refl, sym, ap, subst, ◌∙◌, arith}
use Rattle.feature_trees.specs.declared.value.Value.{Value}
use Rattle.feature_trees.specs.declared.value.Value.TheVariants as value
use Rattle.feature_trees.specs.declared.kind.Kind.{Kind}
use Rattle.feature_trees.specs.declared.kind.Kind.TheVariants.{Absent, Reg, Link, Special, Dir}
use Rattle.feature_trees.specs.declared.kind.Special.TheVariants.{Fifo, Socket, Block, Char}
use Rattle.feature_trees.specs.Laws.{PutsStaySound}
use Rattle.feature_trees.specs.Sound.{sound}
use Rattle.feature_trees.specs.Tree.{at, kind_of}
use Rattle.utility_calls.specs.declared.backs.Back.{Back}
use Rattle.utility_calls.specs.declared.backs.Back.TheVariants.{Folder, File}
use Rattle.utility_calls.specs.declared.sights.Effect.{Effect}
use Rattle.utility_calls.specs.declared.sights.Effect.TheVariants.{Nothing, MakesDir, KeepsDir, MakesFile, MakesLink}
use Rattle.utility_calls.specs.declared.sights.Effect.TheVariants.{LinksInside, TakesAway, Moves, MovesInside, Copies}
use Rattle.utility_calls.specs.declared.sights.Effect.TheVariants.{CopiesInside}
use Rattle.utility_calls.specs.declared.sights.Row.{Row}
use Rattle.utility_calls.specs.declared.sights.Rule.{Rule}
use Rattle.utility_calls.specs.declared.sights.Sight.{Sight}
use Rattle.utility_calls.specs.ActChanges.{AreNames}
use Rattle.utility_calls.specs.Acts.{by_way}
use Rattle.utility_calls.specs.Backs.{names_of, folder_rules, file_rules, back_rules, kept_kind, back_sight}
use Rattle.utility_calls.specs.Backs.{back_row, put_back_by, IsNamed, BackApplies, on_way, own}
use Rattle.utility_calls.specs.BackLaws.{OneRow, OneBackRow, BacksKeepDirs, BacksKeepSound}
use Rattle.utility_calls.specs.BackLaws.{IsBackInDirectory, BacksAreInDirectories}
use Rattle.utility_calls.specs.Table.{first_row}
use Rattle.utility_calls.specs.Ways.{link_on_way}
use Rattle.utility_calls.proofs.Above.{some_in}
use Rattle.utility_calls.proofs.ActChanges.{put_dir, at_sound}
use Rattle.utility_calls.proofs.ActRow.{count, all_sights, each_sight, possible, given_possible, seen_possible}
use Rattle.utility_calls.proofs.ActRow.{does_one, only_row, some_row, none_on, clear_way}
use Rattle.utility_calls.proofs.Ways.{Found, found, counted}

-- ---- exactly one row of each table holds

folder_one : (k : Kind) (s : Sight) → possible s ≡ true → count k s folder_rules ≡ 1
folder_one Absent = does_one folder_rules Absent refl
folder_one Reg = does_one folder_rules Reg refl
folder_one Link = does_one folder_rules Link refl
folder_one (Special Fifo) = does_one folder_rules (Special Fifo) refl
folder_one (Special Socket) = does_one folder_rules (Special Socket) refl
folder_one (Special Block) = does_one folder_rules (Special Block) refl
folder_one (Special Char) = does_one folder_rules (Special Char) refl
folder_one Dir = does_one folder_rules Dir refl

file_one : (k : Kind) (s : Sight) → possible s ≡ true → count k s file_rules ≡ 1
file_one Absent = does_one file_rules Absent refl
file_one Reg = does_one file_rules Reg refl
file_one Link = does_one file_rules Link refl
file_one (Special Fifo) = does_one file_rules (Special Fifo) refl
file_one (Special Socket) = does_one file_rules (Special Socket) refl
file_one (Special Block) = does_one file_rules (Special Block) refl
file_one (Special Char) = does_one file_rules (Special Char) refl
file_one Dir = does_one file_rules Dir refl

rules_one : (b : Back) (k : Kind) (s : Sight) → possible s ≡ true → count k s (back_rules b) ≡ 1
rules_one (Folder p) k s h = folder_one k s h
rules_one (File p) k s h = file_one k s h

-- ---- the law

module _ (b : Back) (kept tree : Value) (named : IsNamed b) (dir : kind_of tree ≡ Dir) where
  abbrev own_row : Row
  own_row = first_row (back_rules b) (kept_kind b kept) (back_sight b tree)

  holds_one : count (kept_kind b kept) (back_sight b tree) (back_rules b) ≡ 1
  holds_one =
      rules_one b (kept_kind b kept) (back_sight b tree) (seen_possible tree value.Absent (names_of b) named)

  applies_by : (o : Option ℕ) → Found (names_of b) tree 0 o → BackApplies b kept tree (by_way o own_row).number
  applies_by (Some n) f =
      let is : f.k ≡ n = omega (arith, f.is) in
      subst (BackApplies b kept tree) is (on_way f.k f.low f.high f.link)
  applies_by None f =
      let one = some_row (kept_kind b kept) (back_sight b tree) (back_rules b) holds_one in
      let is : one.r.number ≡ own_row.number = ap (λ (r : Row). r.number) (sym one.first) in
      subst (BackApplies b kept tree) is (own one.r (clear_way tree (names_of b) 0 dir f) one.among one.holds)

  no_other : {n : ℕ} → BackApplies b kept tree n → n ≡ (back_row b kept tree).number
  no_other (on_way k low high e) =
      sym (ap (λ o. (by_way o own_row).number) (counted (names_of b) tree 0 k low high e) ∙ omega arith)
  no_other (own r clear among holds) =
      let none = none_on tree (names_of b) 0 clear in
      let is = only_row (kept_kind b kept) (back_sight b tree) (back_rules b) r holds_one among holds in
      sym (ap (λ (x : Row). x.number) (ap (λ o. by_way o own_row) none ∙ is))

  one_row : OneRow b kept tree
  one_row = record {
    applies = applies_by (link_on_way 0 tree (names_of b)) (found (names_of b) tree 0);
    alone = λ n a. no_other a;
  }

pub one_back_row : OneBackRow
one_back_row b kept tree named dir = one_row b kept tree named dir

-- ---- a directory stays one

dir_behind : (e : Effect) (names : List (List ℕ)) (kept tree : Value) → names ≢ [] → kind_of tree ≡ Dir
    → kind_of (put_back_by e names kept tree) ≡ Dir
dir_behind Nothing names kept tree ne d = d
dir_behind MakesDir names kept tree ne d = d
dir_behind KeepsDir names kept tree ne d = d
dir_behind MakesFile names kept tree ne d = d
dir_behind MakesLink names kept tree ne d = d
dir_behind LinksInside names kept tree ne d = d
dir_behind TakesAway names kept tree ne d = put_dir tree value.Absent names ne
dir_behind Moves names kept tree ne d = put_dir tree (at kept names) names ne
dir_behind MovesInside names kept tree ne d = d
dir_behind Copies names kept tree ne d = d
dir_behind CopiesInside names kept tree ne d = d

pub keep_dirs : BacksKeepDirs
keep_dirs b kept tree named d = dir_behind (back_row b kept tree).effect (names_of b) kept tree named d

-- ---- a sound tree stays sound

sound_behind : PutsStaySound → (e : Effect) (names : List (List ℕ)) (kept tree : Value) → AreNames names
    → IsTrue (sound kept) → IsTrue (sound tree) → IsTrue (sound (put_back_by e names kept tree))
sound_behind puts Nothing names kept tree n k s = s
sound_behind puts MakesDir names kept tree n k s = s
sound_behind puts KeepsDir names kept tree n k s = s
sound_behind puts MakesFile names kept tree n k s = s
sound_behind puts MakesLink names kept tree n k s = s
sound_behind puts LinksInside names kept tree n k s = s
sound_behind puts TakesAway names kept tree n k s = puts tree value.Absent names s refl n
sound_behind puts Moves names kept tree n k s = puts tree (at kept names) names s (at_sound names kept k) n
sound_behind puts MovesInside names kept tree n k s = s
sound_behind puts Copies names kept tree n k s = s
sound_behind puts CopiesInside names kept tree n k s = s

pub keep_sound : PutsStaySound → BacksKeepSound
keep_sound puts b kept tree n k s = sound_behind puts (back_row b kept tree).effect (names_of b) kept tree n k s

-- ---- what is put or taken away is in a directory

-- what each effect needs to see
abbrev needs : Effect → Sight → Bool
needs Nothing s = true
needs MakesDir s = true
needs KeepsDir s = true
needs MakesFile s = true
needs MakesLink s = true
needs LinksInside s = true
needs TakesAway s = s.in_dir
needs Moves s = s.in_dir
needs MovesInside s = true
needs Copies s = true
needs CopiesInside s = true

abbrev fits : List Rule → Kind → Sight → Bool
fits rs k s = not (possible s) || needs (first_row rs k s).effect s

folder_fits : (k : Kind) → all_sights (fits folder_rules k) ≡ true
folder_fits Absent = refl
folder_fits Reg = refl
folder_fits Link = refl
folder_fits (Special Fifo) = refl
folder_fits (Special Socket) = refl
folder_fits (Special Block) = refl
folder_fits (Special Char) = refl
folder_fits Dir = refl

file_fits : (k : Kind) → all_sights (fits file_rules k) ≡ true
file_fits Absent = refl
file_fits Reg = refl
file_fits Link = refl
file_fits (Special Fifo) = refl
file_fits (Special Socket) = refl
file_fits (Special Block) = refl
file_fits (Special Char) = refl
file_fits Dir = refl

rules_fit : (b : Back) (k : Kind) → all_sights (fits (back_rules b) k) ≡ true
rules_fit (Folder p) k = folder_fits k
rules_fit (File p) k = file_fits k

module _ (b : Back) (kept tree : Value) (named : IsNamed b) where
  abbrev seen : Sight
  seen = back_sight b tree

  abbrev k : Kind
  k = kept_kind b kept

  needed : needs (first_row (back_rules b) k seen).effect seen ≡ true
  needed =
      given_possible (possible seen) (needs (first_row (back_rules b) k seen).effect seen)
      (seen_possible tree value.Absent (names_of b) named) (each_sight (fits (back_rules b) k) (rules_fit b k) seen)

  in_place : (e : Effect) → needs e seen ≡ true → IsBackInDirectory e (names_of b) tree
  in_place Nothing h = tt
  in_place MakesDir h = tt
  in_place KeepsDir h = tt
  in_place MakesFile h = tt
  in_place MakesLink h = tt
  in_place LinksInside h = tt
  in_place TakesAway h = some_in tree (names_of b) named h
  in_place Moves h = some_in tree (names_of b) named h
  in_place MovesInside h = tt
  in_place Copies h = tt
  in_place CopiesInside h = tt

  by_link : (o : Option ℕ) → IsBackInDirectory (by_way o (first_row (back_rules b) k seen)).effect (names_of b) tree
  by_link None = in_place (first_row (back_rules b) k seen).effect needed
  by_link (Some n) = tt

  back_in : IsBackInDirectory (back_row b kept tree).effect (names_of b) tree
  back_in = by_link (link_on_way 0 tree (names_of b))

pub in_directories : BacksAreInDirectories
in_directories b kept tree named = back_in b kept tree named
