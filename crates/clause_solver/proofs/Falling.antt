-- Kinds that fall: the entries of a place where a directory can be there no more, and what stands below them.
use Rattle.std.proofs.Common.{◌≡◌, ◌≢◌, ◌⊎◌, inl, inr, ℕ, ◌+◌, ◌<◌, ◌≤◌, ◌&&◌, Bool, true, IsTrue, Option, None, Some, List, length, refl, sym, ap, ◌∙◌, arith, set, length-set, get_or-set_other, get_or-set_same}
use Rattle.std.proofs.lemmas.Bool.{and_parts, and_from}
use Rattle.feature_trees.specs.declared.kind.Kind.{Kind}
use Rattle.feature_trees.specs.declared.kind.Kind.TheVariants.{Absent, Reg, Link, Special, Dir}
use Rattle.feature_trees.specs.declared.kind.Kinds.{Kinds}
use Rattle.feature_trees.specs.Kinds.{has}
use Rattle.clause_solver.specs.declared.kin.Kin.{Kin}
use Rattle.clause_solver.specs.declared.variable.Definition.{Definition}
use Rattle.clause_solver.specs.declared.variable.Definition.TheVariants.{Start, Child, Derived, Ensured, Made}
use Rattle.clause_solver.specs.declared.variable.Variable.{Variable}
use Rattle.clause_solver.specs.Variables.{var_at, Ordered}
use Rattle.clause_solver.specs.Greatest.{kind_at, best_by, best_of}
use Rattle.clause_solver.specs.Linked.{kin_at, IsChildOf, IsLastChild, AreLinked}
use Rattle.clause_solver.specs.Settled.{IsGreatest, IsShut, MayFall, Falls, AreSettled, IsSettledAt}
use Rattle.clause_solver.proofs.Links.{below_or, left_of, left_falls}
use Rattle.clause_solver.proofs.Names.{nat_cases}

pub absent_cases : (k : Kind) → (k ≡ Absent) ⊎ (k ≢ Absent)
absent_cases Absent = inl refl
absent_cases Reg = inr (λ e. cc)
absent_cases Link = inr (λ e. cc)
absent_cases (Special s) = inr (λ e. cc)
absent_cases Dir = inr (λ e. cc)

pub child_cases : (d : Definition) (m : ℕ) → ((f : List ℕ) × (d ≡ Child m f)) ⊎ ((p : ℕ) (f : List ℕ) → d ≡ Child p f → p ≢ m)
child_cases Start m = inr (λ p f e. let bad : Start ≡ Child p f = e in absurd (cc))
child_cases (Child p f) m = elim (nat_cases p m) [
  | inl e ↦ inl (f, ap (λ n. Child n f) e)
  | inr ne ↦ inr (λ q g e. let same : Child p f ≡ Child q g = e in let ep : p ≡ q = cc in λ z. ne (ep ∙ z))
]
child_cases (Derived x f y) m = inr (λ p g e. let bad : Derived x f y ≡ Child p g = e in absurd (cc))
child_cases (Ensured x) m = inr (λ p g e. let bad : Ensured x ≡ Child p g = e in absurd (cc))
child_cases (Made k) m = inr (λ p g e. let bad : Made k ≡ Child p g = e in absurd (cc))

-- the greatest kind of a variable depends on its parent's alone
pub best_parent : (vars : List Variable) (a b : List Kind) (ks : Kinds) (d : Definition) → ((p : ℕ) (f : List ℕ) → d ≡ Child p f → kind_at b p ≡ kind_at a p) → best_by vars b ks d ≡ best_by vars a ks d
best_parent vars a b ks Start h = refl
best_parent vars a b ks (Child p f) h = rw (h p f refl) refl
best_parent vars a b ks (Derived x f y) h = refl
best_parent vars a b ks (Ensured x) h = refl
best_parent vars a b ks (Made m) h = refl

-- an entry of what is absent is absent
shut_below : (vars : List Variable) (best : List Kind) (i m : ℕ) → IsChildOf vars m i → kind_at best m ≡ Absent → IsShut vars best i
shut_below vars best i m child z = rw (child.1, z) refl

-- the parent of an entry stands before it
pub parent_before : (vars : List Variable) (i p : ℕ) (f : List ℕ) → Ordered vars → i < length vars → (var_at vars i).definition ≡ Child p f → p < i
parent_before vars i p f order w e = (rw e at (order.earlier i w)).0

-- ---- kinds that fall, one after another

pub falls_nothing : (vars : List Variable) (bound : ℕ) (old : List Kind) → Falls vars bound old old true
falls_nothing vars bound old = record {
  same = refl;
  kept = λ i w. refl;
  absent = λ i. inl refl;
  may = (λ t i w ne. absurd (ne refl), λ all. refl);
}

pub falls_one : (vars : List Variable) (old : List Kind) (m : ℕ) (b : Bool) → length old ≡ length vars → m < length vars → kind_at old m ≢ Absent → b ≡ has (var_at vars m).kinds Absent → Falls vars m old (set old m Absent) b
falls_one vars old m b long inside some is =
    let inside' : m < length old = rw long inside in
    let here : kind_at (set old m Absent) m ≡ Absent = get_or-set_same old m Absent Absent inside' in
    let other : (i : ℕ) → i ≢ m → kind_at (set old m Absent) i ≡ kind_at old i = λ i ne. get_or-set_other old m i Absent Absent ne in
    record {
      same = length-set old m Absent;
      kept = λ i w. other i (λ e. omega (arith, w, e));
      absent = λ i. elim (nat_cases i m) [ inl e ↦ inr (rw e here) | inr ne ↦ inl (other i ne) ];
      may = (
        λ t i w ne. elim (nat_cases i m) [ inl e ↦ rw e (sym is ∙ t) | inr not_it ↦ absurd (ne (other i not_it)) ],
        λ all. is ∙ all m inside (λ e. some (sym e ∙ here)),
      );
    }

module _ (vars : List Variable) (low high : ℕ) (a b c : List Kind) (f g : Bool) (first : Falls vars low a b f) (second : Falls vars high b c g) where
  -- what became absent stays absent
  stays : (i : ℕ) → kind_at b i ≡ Absent → kind_at c i ≡ kind_at b i
  stays i z = elim (second.absent i) [ inl e ↦ e | inr e ↦ e ∙ sym z ]

  both_may : IsTrue f → IsTrue g → MayFall vars a c
  both_may t u i w ne = elim (first.absent i) [
    | inl d ↦ second.may.0 u i w (λ e. ne (e ∙ d))
    | inr d ↦ elim (absent_cases (kind_at a i)) [
      | inl z ↦ second.may.0 u i w (λ e. ne (e ∙ d ∙ sym z))
      | inr nz ↦ first.may.0 t i w (λ e. nz (sym e ∙ d))
    ]
  ]

  first_may : MayFall vars a c → MayFall vars a b
  first_may all i w ne = elim (first.absent i) [
    | inl d ↦ absurd (ne d)
    | inr d ↦ all i w (λ e. ne (sym (stays i d) ∙ e))
  ]

  second_may : MayFall vars a c → MayFall vars b c
  second_may all i w ne = elim (second.absent i) [
    | inl e ↦ absurd (ne e)
    | inr e ↦ elim (first.absent i) [
      | inl d ↦ all i w (λ q. ne (q ∙ sym d))
      | inr d ↦ absurd (ne (e ∙ sym d))
    ]
  ]

  pub falls_twice : low ≤ high → Falls vars low a c (f && g)
  falls_twice le = record {
    same = second.same ∙ first.same;
    kept = λ i w. second.kept i (omega (arith, w, le)) ∙ first.kept i w;
    absent = λ i. elim (second.absent i) [
      | inl e ↦ elim (first.absent i) [ inl d ↦ inl (e ∙ d) | inr d ↦ inr (e ∙ d) ]
      | inr e ↦ inr e
    ];
    may = (
      λ t. let q = and_parts f g t in both_may q.0 q.1,
      λ all. and_from f g (first.may.1 (first_may all)) (second.may.1 (second_may all)),
    );
  }

-- ---- one entry

-- an entry that stays
pub stays_settled : (vars : List Variable) (old : List Kind) (m : ℕ) → (IsShut vars old m → kind_at old m ≡ Absent) → IsSettledAt vars m old old true
stays_settled vars old m stays = record {
  falls = falls_nothing vars m old;
  greatest = λ i w h. elim h [
    | inl good ↦ good
    | inr s ↦ let shut : IsShut vars old m = rw (sym s.0) s.1 in rw s.0 (stays shut ∙ sym shut)
  ];
}

module _ (vars : List Variable) (old new : List Kind) (m : ℕ) (may below : Bool) (order : Ordered vars) (long : length old ≡ length vars) (inside : m < length vars) (shut : IsShut vars old m) (some : kind_at old m ≢ Absent) (is : may ≡ has (var_at vars m).kinds Absent) (s : AreSettled vars m (set old m Absent) new below) where
  here_absent : kind_at (set old m Absent) m ≡ Absent
  here_absent = get_or-set_same old m Absent Absent (rw long inside)

  -- the greatest kind of what is no entry of m stays
  best_stays : (i : ℕ) → ((p : ℕ) (f : List ℕ) → (var_at vars i).definition ≡ Child p f → p ≢ m) → best_of vars (set old m Absent) i ≡ best_of vars old i
  best_stays i other = best_parent vars old (set old m Absent) (var_at vars i).kinds (var_at vars i).definition (λ p f e. get_or-set_other old m p Absent Absent (other p f e))

  own_parent : (p : ℕ) (f : List ℕ) → (var_at vars m).definition ≡ Child p f → p ≢ m
  own_parent p f e = let w = parent_before vars m p f order inside e in λ q. omega (arith, w, q)

  here_greatest : IsGreatest vars (set old m Absent) m
  here_greatest = here_absent ∙ sym (best_stays m own_parent ∙ shut)

  ready : (i : ℕ) → i < length vars → IsGreatest vars old i ⊎ ((i ≡ m) × IsShut vars old i) → IsGreatest vars (set old m Absent) i ⊎ (IsChildOf vars m i × IsShut vars (set old m Absent) i)
  ready i w h = elim (nat_cases i m) [
    | inl e ↦ inl (rw e here_greatest)
    | inr ne ↦ elim h [
      | inr s ↦ absurd (ne s.0)
      | inl good ↦ elim (child_cases (var_at vars i).definition m) [
        | inl child ↦ inr (child, shut_below vars (set old m Absent) i m child here_absent)
        | inr other ↦ inl (get_or-set_other old m i Absent Absent ne ∙ good ∙ sym (best_stays i other))
      ]
    ]
  ]

  -- an entry that falls, and what stands below it
  pub fallen_settled : IsSettledAt vars m old new (may && below)
  fallen_settled = record {
    falls = falls_twice vars m (m + 1) old (set old m Absent) new may below (falls_one vars old m may long inside some is) s.falls (omega arith);
    greatest = λ i w h. s.greatest i w (ready i w h);
  }

-- ---- the entries of a place, from the last to the first

-- on the way: those from a number on have their greatest kinds
pub record AreGoneOver (vars : List Variable) (p : ℕ) (old new : List Kind) (fits : Bool) (rest : Option ℕ) : Type 0 where
  pub bound : ℕ
  pub low : bound ≤ length vars
  pub last : IsLastChild vars p bound rest
  pub falls : Falls vars (p + 1) old new fits
  pub greatest : (i : ℕ) → i < length vars → IsGreatest vars old i ⊎ (IsChildOf vars p i × IsShut vars old i) → IsGreatest vars new i ⊎ ((i < bound) × IsChildOf vars p i × IsShut vars new i)

module _ (vars : List Variable) (kin : List Kin) (p : ℕ) (old : List Kind) (linked : AreLinked vars kin) where
  pub first_gone : p < length vars → AreGoneOver vars p old old true (kin_at kin p).youngest
  first_gone inside = record {
    bound = length vars;
    low = omega arith;
    last = linked.youngest p inside;
    falls = falls_nothing vars (p + 1) old;
    greatest = λ i w h. elim h [ inl good ↦ inl good | inr s ↦ inr (w, s.0, s.1) ];
  }

  pub all_gone : (new : List Kind) (fits : Bool) → AreGoneOver vars p old new fits None → AreSettled vars p old new fits
  all_gone new fits g = record {
    falls = g.falls;
    greatest = λ i w h. elim (g.greatest i w h) [
      | inl good ↦ good
      | inr s ↦ absurd (g.last i s.0 s.1)
    ];
  }

  module _ (order : Ordered vars) (m : ℕ) (now : List Kind) (fits : Bool) (g : AreGoneOver vars p old now fits (Some m)) where
    pub gone_inside : m < length vars
    gone_inside = let low = g.low in let below = g.last.0 in omega (arith, low, below)

    pub gone_parent : p < m
    gone_parent = parent_before vars m p g.last.1.0 order gone_inside g.last.1.1

    pub gone_falls : left_of (kin_at kin m).older < left_of (Some m)
    gone_falls = left_falls vars p m (kin_at kin m).older (linked.older m p gone_inside g.last.1)

    module _ (new : List Kind) (entry : Bool) (s : IsSettledAt vars m now new entry) where
      -- an entry before m is shut as before
      still_shut : (i : ℕ) → i < m → i < length vars → IsShut vars now i → IsShut vars new i
      still_shut i low w shut =
          best_parent vars now new (var_at vars i).kinds (var_at vars i).definition (λ q f e. let b = parent_before vars i q f order w e in s.falls.kept q (omega (arith, b, low))) ∙ shut

      pub gone_on : AreGoneOver vars p old new (fits && entry) (kin_at kin m).older
      gone_on = record {
        bound = m;
        low = let w = gone_inside in omega (arith, w);
        last = linked.older m p gone_inside g.last.1;
        falls = let b = gone_parent in falls_twice vars (p + 1) m old now new fits entry g.falls s.falls (omega (arith, b));
        greatest = λ i w h. elim (g.greatest i w h) [
          | inl good ↦ inl (s.greatest i w (inl good))
          | inr t ↦ elim (nat_cases i m) [
            | inl e ↦ inl (s.greatest i w (inr (e, t.2)))
            | inr ne ↦ elim (below_or i m) [
              | inl low ↦ inr (low, t.1, still_shut i low w t.2)
              | inr le ↦ absurd (g.last.2 i (omega (arith, le, ne)) t.0 t.1)
            ]
          ]
        ];
      }
