-- How many looks hold, and that a look is a necessary condition.
use Rattle.std.proofs.Common.{◌≡◌, ◌≢◌, ℕ, zero, suc, ◌+◌, ◌<◌, ◌≤◌, Bool, true, false, List, [], ◌∷◌, ◌++◌, All, length, take, drop, get_or, None, refl, sym, ap, ◌∙◌, arith}
use Rattle.std.proofs.Math.Seq.{drop-cons}
use Rattle.std.specs.Prelude.{◌&&◌, nat_eq, if◌then◌else◌}
use Rattle.std.proofs.lemmas.Bool.{eqb-false}
use Rattle.std.specs.List.{list_all}
use Rattle.std.proofs.lemmas.List.{drop_all}
use Rattle.feature_trees.specs.declared.value.Value.{Value}
use Rattle.feature_trees.specs.declared.value.Value.TheVariants.{Absent, Reg, Link, Special, Dir}
use Rattle.feature_trees.specs.declared.kind.Kind.TheVariants as kind
use Rattle.feature_trees.specs.Tree.{kind_of, present}
use Rattle.start_facts.specs.declared.fact.Fact.{Fact}
use Rattle.start_facts.specs.declared.fact.Fact.TheVariants.{Kinds, Fence, Beside, Target}
use Rattle.start_facts.specs.declared.fact.PlaceFact.{PlaceFact}
use Rattle.start_facts.specs.PlaceFacts.{Holds}
use Rattle.tree_predictions.specs.declared.looks.Look.{Look}
use Rattle.tree_predictions.specs.Looks.{holds, held_of, look_of, looks_in, AllHold}

-- nothing has its kind
pub kind_none : (v : Value) → None ≡ present v → kind.Absent ≡ kind_of v
kind_none Absent e = refl
kind_none Reg e = cc
kind_none (Link b) e = cc
kind_none (Special s) e = cc
kind_none (Dir es) e = cc

pub same_look : (a b : Look) → a.names ≡ b.names → a.kinds ≡ b.kinds → a ≡ b
same_look a b e f = λ i. record { names = e i; kinds = f i }

pub differ : (n k m l : ℕ) → nat_eq n k ≡ false → n ≡ m → k ≡ l → m ≢ l
differ n k m l f e g same = eqb-false n k f (e ∙ same ∙ sym g)

-- ---- necessary

both : (a b : Bool) → a ≡ true → b ≡ true → (a && b) ≡ true
both a b e f = ap (λ x. x && b) e ∙ f

one_holds : (tree : Value) (place : List (List ℕ)) (fact : Fact) (rest : List Look) → Holds tree (record { place = place; fact = fact })
    → AllHold tree rest → AllHold tree (look_of place fact ++ rest)
one_holds tree place (Kinds kinds) rest here all = both (holds tree (record { names = place; kinds = kinds })) (list_all (holds tree) rest) here all
one_holds tree place (Fence names) rest here all = all
one_holds tree place (Beside names) rest here all = all
one_holds tree place (Target target) rest here all = all

-- where all facts hold all looks among them do
pub all_hold : (tree : Value) (facts : List PlaceFact) → All (Holds tree) facts → AllHold tree (looks_in facts)
all_hold tree [] all = refl
all_hold tree (fact ∷ facts) all =
    one_holds tree fact.place fact.fact (looks_in facts) (all 0 fact (omega arith)) (all_hold tree facts (λ k d lt. all (suc k) d (omega (arith, lt))))

-- ---- counting

-- one that fails is behind those that hold
pub fails_here : (tree : Value) (looks : List Look) (i : ℕ) (d : Look) → i < length looks → holds tree (get_or looks i d) ≡ false
    → held_of tree looks ≡ i + held_of tree (drop i looks) → i ≡ held_of tree looks
fails_here tree looks i d lt fails e =
    let none : held_of tree (drop i looks) ≡ 0 =
    ap (held_of tree) (drop-cons looks i d lt) ∙ ap (λ h. if h then suc (held_of tree (drop (suc i) looks)) else 0) fails in
    omega (arith, e, none)

pub holds_here : (tree : Value) (looks : List Look) (i : ℕ) (d : Look) → i < length looks → holds tree (get_or looks i d) ≡ true
    → held_of tree looks ≡ i + held_of tree (drop i looks) → held_of tree looks ≡ (i + 1) + held_of tree (drop (i + 1) looks)
holds_here tree looks i d lt here e =
    let one : held_of tree (drop i looks) ≡ suc (held_of tree (drop (suc i) looks)) =
    ap (held_of tree) (drop-cons looks i d lt) ∙ ap (λ h. if h then suc (held_of tree (drop (suc i) looks)) else 0) here in
    let next : held_of tree (drop (suc i) looks) ≡ held_of tree (drop (i + 1) looks) = ap (λ k. held_of tree (drop k looks)) (add_one i) in
    omega (arith, e, one, next)
  where
    add_one : (i : ℕ) → suc i ≡ i + 1
    add_one i = omega arith

pub holds_to_end : (tree : Value) (looks : List Look) (i : ℕ) → i ≡ length looks → held_of tree looks ≡ i + held_of tree (drop i looks) → i ≡ held_of tree looks
holds_to_end tree looks i end e =
    let none : held_of tree (drop i looks) ≡ 0 = ap (held_of tree) (drop_all i looks (omega (arith, end))) in
    omega (arith, e, none)

pub at_most : (tree : Value) (looks : List Look) → held_of tree looks ≤ length looks
at_most tree [] = omega arith
at_most tree (look ∷ looks) = step (holds tree look) (at_most tree looks)
  where
    step : (h : Bool) → held_of tree looks ≤ length looks → (if h then suc (held_of tree looks) else 0) ≤ length (look ∷ looks)
    step true le = omega (arith, le)
    step false le = omega arith

-- where all hold, so many hold as there are
pub all_counted : (tree : Value) (looks : List Look) → AllHold tree looks → held_of tree looks ≡ length looks
all_counted tree [] all = refl
all_counted tree (look ∷ looks) all = step (holds tree look) all (all_counted tree looks)
  where
    step : (h : Bool) → (h && list_all (holds tree) looks) ≡ true → (AllHold tree looks → held_of tree looks ≡ length looks)
        → (if h then suc (held_of tree looks) else 0) ≡ length (look ∷ looks)
    step true rest counted = let e = counted rest in omega (arith, e)
    step false rest counted = let bad : false ≡ true = rest in cc

-- ---- behind the looks of a clause before

module _ (tree : Value) (more : List Look) where
  -- where one of the shared looks fails, it fails
  pub stays : (before : List Look) (shared : ℕ) → shared ≤ length before → held_of tree before < shared
      → held_of tree before ≡ held_of tree (take shared before ++ more)
  stays before zero le lt = absurd (let bad : held_of tree before < 0 = lt in omega (arith, bad))
  stays [] (suc shared) le lt = absurd (let bad : suc shared ≤ 0 = le in omega (arith, bad))
  stays (look ∷ before) (suc shared) le lt = step (holds tree look) lt (stays before shared (omega (arith, le)))
    where
      step : (h : Bool) → (if h then suc (held_of tree before) else 0) < suc shared
          → (held_of tree before < shared → held_of tree before ≡ held_of tree (take shared before ++ more))
          → (if h then suc (held_of tree before) else 0) ≡ (if h then suc (held_of tree (take shared before ++ more)) else 0)
      step true lt same = ap suc (same (let low : suc (held_of tree before) < suc shared = lt in omega (arith, low)))
      step false lt same = refl

  -- where all of them hold, it goes by the others
  pub goes_on : (before : List Look) (shared : ℕ) → shared ≤ length before → shared ≤ held_of tree before
      → shared + held_of tree more ≡ held_of tree (take shared before ++ more)
  goes_on before zero le high = omega arith
  goes_on [] (suc shared) le high = absurd (let bad : suc shared ≤ 0 = le in omega (arith, bad))
  goes_on (look ∷ before) (suc shared) le high = step (holds tree look) high (goes_on before shared (omega (arith, le)))
    where
      step : (h : Bool) → suc shared ≤ (if h then suc (held_of tree before) else 0)
          → (shared ≤ held_of tree before → shared + held_of tree more ≡ held_of tree (take shared before ++ more))
          → suc shared + held_of tree more ≡ (if h then suc (held_of tree (take shared before ++ more)) else 0)
      step true high same =
          let e = same (let h : suc shared ≤ suc (held_of tree before) = high in omega (arith, h)) in omega (arith, e)
      step false high same = absurd (let bad : suc shared ≤ 0 = high in omega (arith, bad))

  size : (before : List Look) (shared : ℕ) → shared ≤ length before → length (take shared before ++ more) ≡ shared + length more
  size before zero le = omega arith
  size [] (suc shared) le = absurd (let bad : suc shared ≤ 0 = le in omega (arith, bad))
  size (look ∷ before) (suc shared) le = let e = size before shared (omega (arith, le)) in omega (arith, e)

  -- so not all hold
  pub not_shared : (before : List Look) (shared : ℕ) → shared ≤ length before → held_of tree before < shared
      → AllHold tree (take shared before ++ more) → ⊥
  not_shared before shared le lt all =
      let count = all_counted tree (take shared before ++ more) all in
      let same = stays before shared le lt in
      let whole = size before shared le in
      omega (arith, count, same, whole, lt)

  pub not_more : (before : List Look) (shared : ℕ) → shared ≤ length before → shared ≤ held_of tree before → held_of tree more ≢ length more
      → AllHold tree (take shared before ++ more) → ⊥
  not_more before shared le high ne all =
      let count = all_counted tree (take shared before ++ more) all in
      let same = goes_on before shared le high in
      let whole = size before shared le in
      ne (omega (arith, count, same, whole))
