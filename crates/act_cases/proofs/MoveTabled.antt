-- What holds of each row of the tables of a move and of a copy.
use Rattle.std.proofs.Common.{◌≡◌, ◌<◌, Bool, true, false, not, ◌&&◌, ◌||◌, nat_lt, Option, Some, None, List, refl}
use Rattle.std.proofs.lemmas.Bool.{ltb-true, not-true}
use Rattle.feature_trees.specs.declared.kind.Kind.{Kind}
use Rattle.feature_trees.specs.declared.kind.Kind.TheVariants.{Absent}
use Rattle.feature_trees.specs.declared.kind.Kinds.{Kinds}
use Rattle.feature_trees.specs.Kinds.{has, but}
use Rattle.feature_trees.proofs.Laws.{and_parts}
use Rattle.utility_calls.specs.declared.acts.Act.{Act}
use Rattle.utility_calls.specs.declared.sights.Effect.{Effect}
use Rattle.utility_calls.specs.declared.sights.Effect.TheVariants.{Nothing, MakesDir, KeepsDir, MakesFile, MakesLink, LinksInside, TakesAway, Moves, MovesInside, Copies, CopiesInside}
use Rattle.utility_calls.specs.declared.sights.Rule.{Rule}
use Rattle.utility_calls.specs.Table.{rules, move_by, copy_by, is_source}
use Rattle.utility_calls.specs.Acts.{moved, source, is_below, is_prefix}
use Rattle.utility_calls.specs.ActRows.{IsAmong}
use Rattle.utility_calls.proofs.ActRow.{all_kinds, each_kind}
use Rattle.act_cases.specs.declared.moves.Moving.{Moving}
use Rattle.act_cases.specs.declared.moves.Moving.TheVariants as moving
use Rattle.act_cases.specs.Tables.{is_inner}
use Rattle.act_cases.specs.Moves.{is_anything, moving_of, copied, taken}
use Rattle.act_cases.specs.Cases.{HasSource}
use Rattle.act_cases.proofs.Tabled.{all_of, test_of, apart, implies}
use Rattle.act_cases.proofs.PlainCases.{is_through, implied}
use Rattle.act_cases.proofs.TwoPaths.{two_by, is_still}

-- whether something is moved, and whether something is moved or copied
abbrev pub is_moved : Moving → Bool
is_moved moving.Stays = false
is_moved moving.Moves = true
is_moved moving.Copies = false

abbrev pub is_placed : Moving → Bool
is_placed moving.Stays = false
is_placed moving.Moves = true
is_placed moving.Copies = true

-- whether the kinds are those of things that are there
abbrev pub there_only : Option Kinds → Bool
there_only None = false
there_only (Some ks) = not (has ks Absent)

-- whether a row, by whether it says nothing of the place, goes with what is moved or copied, by whether that stays
-- below its path
abbrev looks_by : Bool → Kinds → Bool → Option Kinds → Bool
looks_by true kinds any from = not any
looks_by false kinds true from = all_kinds (λ k. implies (is_source from k) (not (has kinds k)))
looks_by false kinds false from = all_kinds (λ k. implies (is_source from k) (has kinds k))

-- an effect of a move or a copy goes with whether the row looks below the place
abbrev pub move_fits : Effect → Bool → Bool
move_fits Nothing b = true
move_fits MakesDir b = false
move_fits KeepsDir b = false
move_fits MakesFile b = false
move_fits MakesLink b = false
move_fits LinksInside b = false
move_fits TakesAway b = false
move_fits Moves b = not b
move_fits MovesInside b = b
move_fits Copies b = not b
move_fits CopiesInside b = b

abbrev moves_well : Bool → Bool → Kinds → Rule → Bool
moves_well below still kinds r =
    nat_lt 64 r.number && (nat_lt r.number 128 && (looks_by below kinds (is_anything r.place) r.source
    && (move_fits r.effect (is_inner r.place) && (implies (is_placed (moving_of r.effect)) (not (is_anything r.place) && is_through r.place)
    && implies (is_moved (moving_of r.effect)) (not below && (not still && there_only r.source))))))

pub record MovesWell (below still : Bool) (kinds : Kinds) (r : Rule) : Type 0 where
  pub low : 64 < r.number
  pub high : r.number < 128
  pub looks : looks_by below kinds (is_anything r.place) r.source ≡ true
  pub fits : move_fits r.effect (is_inner r.place) ≡ true
  pub named : is_placed (moving_of r.effect) ≡ true → is_anything r.place ≡ false
  pub through : is_placed (moving_of r.effect) ≡ true → is_through r.place ≡ true
  pub beside : is_moved (moving_of r.effect) ≡ true → below ≡ false
  pub moves : is_moved (moving_of r.effect) ≡ true → still ≡ false
  pub source : is_moved (moving_of r.effect) ≡ true → there_only r.source ≡ true

well_is : (below still : Bool) (kinds : Kinds) (r : Rule) → moves_well below still kinds r ≡ true → MovesWell below still kinds r
well_is below still kinds r h =
    let a = and_parts (nat_lt 64 r.number) _ h in
    let b = and_parts (nat_lt r.number 128) _ a.1 in
    let c = and_parts (looks_by below kinds (is_anything r.place) r.source) _ b.1 in
    let d = and_parts (move_fits r.effect (is_inner r.place)) _ c.1 in
    let e = and_parts (implies (is_placed (moving_of r.effect)) (not (is_anything r.place) && is_through r.place)) _ d.1 in
    let f = implied (is_placed (moving_of r.effect)) (not (is_anything r.place) && is_through r.place) e.0 in
    let g = implied (is_moved (moving_of r.effect)) (not below && (not still && there_only r.source)) e.1 in
    record {
      low = ltb-true 64 r.number a.0;
      high = ltb-true r.number 128 b.0;
      looks = c.0;
      fits = d.0;
      named = λ m. not-true (is_anything r.place) (and_parts (not (is_anything r.place)) (is_through r.place) (f m)).0;
      through = λ m. (and_parts (not (is_anything r.place)) (is_through r.place) (f m)).1;
      beside = λ m. not-true below (and_parts (not below) _ (g m)).0;
      moves = λ m. not-true still (and_parts (not still) (there_only r.source) (and_parts (not below) _ (g m)).1).0;
      source = λ m. (and_parts (not still) (there_only r.source) (and_parts (not below) _ (g m)).1).1;
    }

-- ---- the tables

abbrev WellTabled : Bool → Bool → Kinds → List Rule → Type 0
WellTabled below still kinds rs = (all_of (moves_well below still kinds) rs ≡ true) × (apart rs ≡ true)

move_table : (below : Bool) → WellTabled below false (but Absent) (move_by below)
move_table true = (refl, refl)
move_table false = (refl, refl)

copy_table : (deep : Bool) → WellTabled false true (copied deep) (copy_by deep)
copy_table true = (refl, refl)
copy_table false = (refl, refl)

table_well : (act : Act) → HasSource (source act) → WellTabled (is_below act) (is_still (moved act)) (taken act) (rules (is_below act) act)
table_well =
    two_by (λ act. WellTabled (is_below act) (is_still (moved act)) (taken act) (rules (is_below act) act)) (λ a b. move_table (is_prefix a.names b.names))
    (λ a b deep. copy_table deep)

-- what holds of a row of an act's table
abbrev pub IsWell : Act → Rule → Type 0
IsWell act r = MovesWell (is_below act) (is_still (moved act)) (taken act) r

pub move_well : (act : Act) → HasSource (source act) → (r : Rule) → IsAmong r (rules (is_below act) act) → IsWell act r
move_well act two r among =
    well_is (is_below act) (is_still (moved act)) (taken act) r
    (test_of (moves_well (is_below act) (is_still (moved act)) (taken act)) (rules (is_below act) act) r (table_well act two).0 among)

pub moves_apart : (act : Act) → HasSource (source act) → apart (rules (is_below act) act) ≡ true
moves_apart act two = (table_well act two).1

-- ---- whether the way of the second path is looked at

-- a row that says something of the place is one of an act that looks at the way
pub looks_where : (below any : Bool) (kinds : Kinds) (o : Option Kinds) (k : Kind) → looks_by below kinds any o ≡ true → any ≡ false → is_source o k ≡ true → (below || has kinds k) ≡ true
looks_where true any kinds o k h e s = refl
looks_where false true kinds o k h e s = absurd (cc)
looks_where false false kinds o k h e s = implied (is_source o k) (has kinds k) (each_kind (λ k. implies (is_source o k) (has kinds k)) h k) s

-- and one that says nothing of it is one of an act that doesn't
pub looks_not : (below any : Bool) (kinds : Kinds) (o : Option Kinds) (k : Kind) → looks_by below kinds any o ≡ true → any ≡ true → is_source o k ≡ true → (below || has kinds k) ≡ false
looks_not true true kinds o k h e s = absurd (cc)
looks_not true false kinds o k h e s = absurd (cc)
looks_not false true kinds o k h e s =
    not-true (has kinds k) (implied (is_source o k) (not (has kinds k)) (each_kind (λ k. implies (is_source o k) (not (has kinds k))) h k) s)
looks_not false false kinds o k h e s = absurd (cc)
