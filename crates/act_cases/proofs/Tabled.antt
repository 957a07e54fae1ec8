-- What holds of each row of the tables of the acts on one path.
use Rattle.std.proofs.Common.{◌≡◌, ℕ, ◌<◌, inl, inr, Bool, true, false, not, ◌&&◌, ◌||◌, nat_lt, IsTrue, Option, Some, None, List, [], ◌∷◌, refl, sym, ap, ◌∙◌, arith}
use Rattle.std.proofs.lemmas.Bool.{ltb-true, not-true}
use Rattle.feature_trees.specs.declared.kind.Kinds.{Kinds}
use Rattle.feature_trees.proofs.Laws.{and_parts}
use Rattle.utility_calls.specs.declared.acts.Act.{Act}
use Rattle.utility_calls.specs.declared.acts.Act.TheVariants.{Exists, IsReg, IsDir, IsLink, CanRun, IsSpecial, MakeDir, EnsureDir, RemoveDir, Remove, Touch, Symlink, Move, Attr, Copy, PlaceFile, PlaceLink, PlaceConf, Discard, DiscardDir}
use Rattle.utility_calls.specs.declared.sights.Effect.{Effect}
use Rattle.utility_calls.specs.declared.sights.Effect.TheVariants.{Nothing, MakesDir, KeepsDir, MakesFile, MakesLink, LinksInside, TakesAway, Moves, MovesInside, Copies, CopiesInside}
use Rattle.utility_calls.specs.declared.sights.Rule.{Rule}
use Rattle.utility_calls.specs.Table.{rules, can_run_by, remove_by, symlink_by}
use Rattle.utility_calls.specs.Acts.{inner_name, is_question}
use Rattle.utility_calls.specs.ActRows.{IsAmong}
use Rattle.act_cases.specs.Tables.{is_inner}
use Rattle.act_cases.specs.Cases.{IsOnOnePath}
use Rattle.act_cases.proofs.RuleSees.{needs_name, some_name}

-- ---- tests of tables

abbrev pub all_of : (Rule → Bool) → List Rule → Bool
all_of p [] = true
all_of p (r ∷ rs) = p r && all_of p rs

pub test_of : (p : Rule → Bool) (rs : List Rule) (r : Rule) → all_of p rs ≡ true → IsAmong r rs → p r ≡ true
test_of p [] r h among = absurd among
test_of p (o ∷ rs) r h (inl e) = ap p e ∙ (and_parts (p o) (all_of p rs) h).0
test_of p (o ∷ rs) r h (inr among) = test_of p rs r (and_parts (p o) (all_of p rs) h).1 among

abbrev pub above : ℕ → List Rule → Bool
above n rs = all_of (λ r. nat_lt n r.number) rs

abbrev pub apart : List Rule → Bool
apart [] = true
apart (r ∷ rs) = above r.number rs && apart rs

pub above_one : (n : ℕ) (rs : List Rule) (r : Rule) → above n rs ≡ true → IsAmong r rs → n < r.number
above_one n rs r h among = ltb-true n r.number (test_of (λ o. nat_lt n o.number) rs r h among)

-- a row of a table is told by its number
pub same_rule : (rs : List Rule) (r q : Rule) → apart rs ≡ true → IsAmong r rs → IsAmong q rs → r.number ≡ q.number → r ≡ q
same_rule [] r q h a b e = absurd a
same_rule (o ∷ rs) r q h (inl a) (inl b) e = a ∙ sym b
same_rule (o ∷ rs) r q h (inl a) (inr b) e =
    let up = above_one o.number rs q (and_parts (above o.number rs) (apart rs) h).0 b in
    let is : r.number ≡ o.number = ap (λ (x : Rule). x.number) a in
    absurd (omega (arith, up, is, e))
same_rule (o ∷ rs) r q h (inr a) (inl b) e =
    let up = above_one o.number rs r (and_parts (above o.number rs) (apart rs) h).0 a in
    let is : q.number ≡ o.number = ap (λ (x : Rule). x.number) b in
    absurd (omega (arith, up, is, e))
same_rule (o ∷ rs) r q h (inr a) (inr b) e = same_rule rs r q (and_parts (above o.number rs) (apart rs) h).1 a b e

-- ---- what each row is

abbrev no_source : Option Kinds → Bool
no_source None = true
no_source (Some kinds) = false

-- an effect goes with whether the row looks below its path
abbrev pub effect_fits : Effect → Bool → Bool
effect_fits Nothing b = true
effect_fits MakesDir b = not b
effect_fits KeepsDir b = not b
effect_fits MakesFile b = not b
effect_fits MakesLink b = not b
effect_fits LinksInside b = b
effect_fits TakesAway b = not b
effect_fits Moves b = false
effect_fits MovesInside b = false
effect_fits Copies b = false
effect_fits CopiesInside b = false

abbrev pub implies : Bool → Bool → Bool
implies a b = not a || b

abbrev pub suits : Bool → Bool → Rule → Bool
suits asks inner r =
    no_source r.source && (nat_lt 64 r.number && (implies (needs_name r.place) (not asks) && (implies (is_inner r.place) inner && effect_fits r.effect (is_inner r.place))))

pub record Suits (asks inner : Bool) (r : Rule) : Type 0 where
  pub source : r.source ≡ None
  pub number : 64 < r.number
  pub needs : IsTrue (needs_name r.place) → asks ≡ false
  pub inner_name : IsTrue (is_inner r.place) → IsTrue inner
  pub effect : effect_fits r.effect (is_inner r.place) ≡ true

none_of : (o : Option Kinds) → no_source o ≡ true → o ≡ None
none_of None h = refl
none_of (Some kinds) h = cc

implied : (a b : Bool) → implies a b ≡ true → IsTrue a → IsTrue b
implied true b h a = h
implied false b h a = cc

pub suits_is : (asks inner : Bool) (r : Rule) → suits asks inner r ≡ true → Suits asks inner r
suits_is asks inner r h =
    let a = and_parts (no_source r.source) _ h in
    let b = and_parts (nat_lt 64 r.number) _ a.1 in
    let c = and_parts (implies (needs_name r.place) (not asks)) _ b.1 in
    let d = and_parts (implies (is_inner r.place) inner) _ c.1 in
    record {
      source = none_of r.source a.0;
      number = ltb-true 64 r.number b.0;
      needs = λ x. not-true asks (implied (needs_name r.place) (not asks) c.0 x);
      inner_name = λ x. implied (is_inner r.place) inner d.0 x;
      effect = d.1;
    }

-- ---- the tables

abbrev Tabled : List Rule → Bool → Bool → Type 0
Tabled rs asks inner = (all_of (suits asks inner) rs ≡ true) × (apart rs ≡ true)

runs_tabled : (runs : Bool) → Tabled (can_run_by runs) true false
runs_tabled false = (refl, refl)
runs_tabled true = (refl, refl)

remove_tabled : (force deep : Bool) → Tabled (remove_by force deep) false false
remove_tabled false false = (refl, refl)
remove_tabled false true = (refl, refl)
remove_tabled true false = (refl, refl)
remove_tabled true true = (refl, refl)

symlink_tabled : (force : Bool) → Tabled (symlink_by force) false true
symlink_tabled false = (refl, refl)
symlink_tabled true = (refl, refl)

pub tabled : (act : Act) → IsOnOnePath act → Tabled (rules false act) (is_question act) (some_name (inner_name act))
tabled (Exists p) one = (refl, refl)
tabled (IsReg p) one = (refl, refl)
tabled (IsDir p) one = (refl, refl)
tabled (IsLink p) one = (refl, refl)
tabled (CanRun p runs) one = runs_tabled runs
tabled (IsSpecial p kind) one = (refl, refl)
tabled (MakeDir p) one = (refl, refl)
tabled (EnsureDir p) one = (refl, refl)
tabled (RemoveDir p) one = (refl, refl)
tabled (Remove p force deep) one = remove_tabled force deep
tabled (Touch p) one = (refl, refl)
tabled (Symlink p target last force) one = symlink_tabled force
tabled (Move a b) one = absurd (cc)
tabled (Attr p) one = (refl, refl)
tabled (Copy a b deep) one = absurd (cc)
tabled (PlaceFile p) one = (refl, refl)
tabled (PlaceLink p target) one = (refl, refl)
tabled (PlaceConf p) one = (refl, refl)
tabled (Discard p) one = (refl, refl)
tabled (DiscardDir p) one = (refl, refl)
