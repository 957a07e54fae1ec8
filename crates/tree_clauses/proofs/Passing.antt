-- Going through the literals of a clause: what is left to be solved and met after each.
use Rattle.std.proofs.Common.{◌≡◌, ℕ, ◌-◌, ◌<◌, ◌≤◌, ◌⊎◌, ◌↔◌, inl, inr, Bool, true, false, IsTrue, List, [], ◌∷◌, length, take, drop, get_or, Option, Some, None, refl, sym, ap, subst, ◌∙◌, arith, take_all}
use Rattle.std.specs.List.{Contains}
use Rattle.std.specs.Prelude.{◌&&◌}
use Rattle.std.specs.Option.{option_map}
use Rattle.std.proofs.lemmas.Bool.{and_parts, and_from}
use Rattle.feature_trees.specs.declared.value.Value.{Value}
use Rattle.feature_trees.specs.Tree.{kind_of, is_dir}
use Rattle.feature_trees.specs.Sound.{sound}
use Rattle.tree_clauses.specs.declared.clause.Literal.{Literal}
use Rattle.tree_clauses.specs.declared.clause.Literal.TheVariants as L
use Rattle.tree_clauses.specs.declared.clause.Clause.{Clause}
use Rattle.tree_clauses.specs.Literals.{Valuation, value_of_variable, MeetsAll, IsSound, CoversTree}
use Rattle.tree_clauses.specs.Solved.{AllKnown, Makes, subject, Solves, done, made, fact}
use Rattle.tree_clauses.specs.Decides.{Decides}
use Rattle.tree_clauses.specs.Steps.{Known, IsThere, AreKnown, Agrees, CanBe, Gives, SolvedTo, FactIs, MadeIs, Passes, StepIs}
use Rattle.tree_clauses.proofs.Names.{nat_cases}
use Rattle.tree_clauses.proofs.Orders.{contains_head, contains_tail, contains_cases, contains_nothing}
use Rattle.tree_clauses.proofs.Valuations.{put_value, put_same, put_other, put_sound, none_sound}
use Rattle.feature_trees.proofs.FirstFaults.{kind_dir as dir_to}
use Rattle.tree_clauses.proofs.Decided.{dir_from}

-- the subject of a literal whose variables are known is known
pub subject_known : (numbers : List ℕ) (literal : Literal) → AllKnown numbers literal → Contains numbers (subject literal)
subject_known numbers (L.Entry x f y) h = h.1
subject_known numbers (L.Kind x kinds) h = h
subject_known numbers (L.Fence x names) h = h
subject_known numbers (L.NotEmpty x) h = h
subject_known numbers (L.Similar y names x) h = h.0
subject_known numbers (L.Target x target) h = h

-- how the first literal is solved
abbrev pub SolvesFirst : List ℕ → List Literal → List ℕ → Type 0
SolvesFirst numbers [] after = numbers ≡ after
SolvesFirst numbers (literal ∷ literals) after =
    ((¬ (Contains numbers (subject literal))) × Makes numbers literal literals × Solves (subject literal ∷ numbers) literals after)
    ⊎ (AllKnown numbers literal × Solves numbers literals after)

pub opened : {numbers after : List ℕ} {literals : List Literal} → Solves numbers literals after → SolvesFirst numbers literals after
opened done = refl
opened (made literal out makes rest) = inl (out, makes, rest)
opened (fact literal known rest) = inr (known, rest)

-- a value is there or not

is_there : (known : Known) (x : ℕ) (v : Value) → known x ≡ Some v → IsThere (known x)
is_there known x v e = subst IsThere (sym e) tt

is_not : {A : Type 0} (known : Known) (x : ℕ) → known x ≡ None → IsThere (known x) → A
is_not known x e h = absurd (subst IsThere e h)

one_value : (v w : Value) → Some v ≡ Some w → v ≡ w
one_value v w e = cc

-- a fact is passed
pub passes_fact : (known : Known) (literal : Literal) (literals : List Literal) (holds : Bool) → FactIs known literal (Some holds) → Passes known known literal literals holds
passes_fact known literal literals holds f = record {
  order = λ numbers are. (
    numbers,
    are,
    λ now. (
      λ h. elim (opened h.1) [
        | inl m ↦ absurd (m.0 (subject_known numbers literal (f.0 numbers are)))
        | inr m ↦ (h.0, m.1, h.2)
      ],
      λ h. (h.0, fact literal (f.0 numbers are) h.1, h.2),
    ),
  );
  stays = λ can. can;
  met = λ g s. (
    λ h. (h.0, h.1.1, (f.1 g s h.0).1 h.1.0),
    λ h. (h.0, ((f.1 g s h.0).0 h.2, h.1)),
  );
}

-- a literal that makes its subject known is passed

module _ (old new : Known) (y : ℕ) (v : Value) (gone : old y ≡ None) (gives : Gives old new y v) where
  knows_more : (numbers : List ℕ) → AreKnown numbers old → AreKnown (y ∷ numbers) new
  knows_more numbers are x = (
    λ c. elim (nat_cases x y) [
      | inl e ↦ subst (λ i. IsThere (new i)) (sym e) (is_there new y v gives.here)
      | inr ne ↦ elim (contains_cases y x numbers c) [
        | inl e ↦ absurd (ne (sym e))
        | inr d ↦ subst IsThere (sym (gives.other x ne)) ((are x).0 d)
      ]
    ],
    λ h. elim (nat_cases x y) [
      | inl e ↦ subst (Contains (y ∷ numbers)) (sym e) (contains_head y numbers)
      | inr ne ↦ contains_tail y x numbers ((are x).1 (subst IsThere (gives.other x ne) h))
    ],
  )

  agrees_more : (g : Valuation) → Agrees old g → value_of_variable g y ≡ v → Agrees new g
  agrees_more g agrees at x w e = elim (nat_cases x y) [
    | inl q ↦ ap (value_of_variable g) q ∙ at ∙ one_value v w (sym gives.here ∙ sym (ap new q) ∙ e)
    | inr ne ↦ agrees x w (sym (gives.other x ne) ∙ e)
  ]

  agrees_less : (g : Valuation) → Agrees new g → Agrees old g
  agrees_less g agrees x w e = elim (nat_cases x y) [
    | inl q ↦ let bad : None ≡ Some w = sym gone ∙ sym (ap old q) ∙ e in cc
    | inr ne ↦ agrees x w (gives.other x ne ∙ e)
  ]

  can_more : IsTrue (sound v) → CanBe old → CanBe new
  can_more s can =
      let g = can.0 in
      let put = put_value g y v in (
        put,
        put_sound g y v can.1 s,
        agrees_more put (λ x w e. elim (nat_cases x y) [
          | inl q ↦ let bad : None ≡ Some w = sym gone ∙ sym (ap old q) ∙ e in cc
          | inr ne ↦ put_other g y x v ne ∙ can.2 x w e
        ]) (put_same g y v),
      )

pub passes_made : (old new : Known) (literal : Literal) (literals : List Literal) (v : Value) → old (subject literal) ≡ None → Gives old new (subject literal) v → IsTrue (sound v) → MadeIs old literal literals (Some v) → Passes old new literal literals true
passes_made old new literal literals v gone gives s m =
    let y = subject literal in
    record {
      order = λ numbers are. (
        y ∷ numbers,
        knows_more old new y v gone gives numbers are,
        λ now. (
          λ h. elim (opened h.1) [
            | inl f ↦ (h.0, f.2, h.2)
            | inr f ↦ is_not old y gone ((are y).0 (subject_known numbers literal f.0))
          ],
          λ h. (h.0, made literal (λ c. is_not old y gone ((are y).0 c)) (m.0 numbers are) h.1, h.2),
        ),
      );
      stays = can_more old new y v gone gives s;
      met = λ g t. (
        λ h. (agrees_more old new y v gone gives g h.0 (m.1 g t h.0 h.1.0 h.1.1), h.1.1, refl),
        λ h. let less = agrees_less old new y v gone gives g h.0 in (less, (m.2 g t less (h.0 y v gives.here), h.1)),
      );
    }

-- a literal that is no fact, and whose subject is known or not made known, is in no solved order
pub stuck_known : (old new : Known) (literal : Literal) (literals : List Literal) → FactIs old literal None → IsThere (old (subject literal)) → StepIs old new literal literals None
stuck_known old new literal literals f e numbers now are h = elim (opened h.1) [
  | inl m ↦ m.0 ((are (subject literal)).1 e)
  | inr m ↦ f numbers are m.0
]

pub stuck_unmade : (old new : Known) (literal : Literal) (literals : List Literal) → FactIs old literal None → MadeIs old literal literals None → StepIs old new literal literals None
stuck_unmade old new literal literals f m numbers now are h = elim (opened h.1) [
  | inl k ↦ m numbers are k.1
  | inr k ↦ f numbers are k.0
]

-- ---- the whole way

-- what is left is solved and met just as all is from the start
pub record Going (start : ℕ) (tree : Value) (all : List Literal) (known : Known) (left : List Literal) (holds : Bool) : Type 0 where
  pub numbers : List ℕ
  pub are : AreKnown numbers known
  pub order : (now : ℕ) → SolvedTo (start ∷ []) all now ↔ SolvedTo numbers left now
  pub can : CanBe known
  pub met : (g : Valuation) → IsSound g → ((value_of_variable g start ≡ tree) × MeetsAll g all) ↔ (Agrees known g × MeetsAll g left × IsTrue holds)

pub begins : (start : ℕ) (tree : Value) (all : List Literal) (known : Known) → IsTrue (sound tree) → Gives (λ x. None) known start tree → Going start tree all known all true
begins start tree all known s gives =
    let none : Known = λ x. None in
    record {
      numbers = start ∷ [];
      are = knows_more none known start tree refl gives [] (λ x. (λ c. absurd (contains_nothing x c), λ h. absurd h));
      order = λ now. (λ h. h, λ h. h);
      can = can_more none known start tree refl gives s ([], none_sound, λ x w e. let bad : None ≡ Some w = e in cc);
      met = λ g t. (
        λ h. (agrees_more none known start tree refl gives g (λ x w e. let bad : None ≡ Some w = e in cc) h.0, h.1, refl),
        λ h. (h.0 start tree gives.here, h.1),
      );
    }

pub goes : (start : ℕ) (tree : Value) (all : List Literal) (known new : Known) (literal : Literal) (left : List Literal) (holds one : Bool) → Going start tree all known (literal ∷ left) holds → Passes known new literal left one → Going start tree all new left (holds && one)
goes start tree all known new literal left holds one h p =
    let next = p.order h.numbers h.are in
    record {
      numbers = next.0;
      are = next.1;
      order = λ now. (λ k. (next.2 now).0 ((h.order now).0 k), λ k. (h.order now).1 ((next.2 now).1 k));
      can = p.stays h.can;
      met = λ g s. (
        λ k.
            let a = (h.met g s).0 k in
            let b = (p.met g s).0 (a.0, a.1) in
            (b.0, b.1, and_from holds one a.2 b.2),
        λ k.
            let parts = and_parts holds one k.2 in
            let b = (p.met g s).1 (k.0, k.1, parts.1) in
            (h.met g s).1 (b.0, b.1, parts.0),
      );
    }

pub stops : (start : ℕ) (tree : Value) (all : List Literal) (known new : Known) (literal : Literal) (left : List Literal) (holds : Bool) (now : ℕ) → Going start tree all known (literal ∷ left) holds → StepIs known new literal left None → ¬ (SolvedTo (start ∷ []) all now)
stops start tree all known new literal left holds now h stuck k = stuck h.numbers now h.are ((h.order now).0 k)

pub ends_unknown : (start : ℕ) (tree : Value) (all : List Literal) (known : Known) (holds : Bool) (now : ℕ) → Going start tree all known [] holds → known now ≡ None → ¬ (SolvedTo (start ∷ []) all now)
ends_unknown start tree all known holds now h e k =
    let left = (h.order now).0 k in
    let same : h.numbers ≡ left.0 = opened left.1 in
    is_not known now e ((h.are now).0 (subst (λ ns. Contains ns now) (sym same) left.2))

pub ends_known : (clause : Clause) (tree : Value) (known : Known) (holds : Bool) (v : Value) → Going clause.start.0 tree clause.literals known [] holds → known clause.now.0 ≡ Some v → Decides clause tree (Some (holds && is_dir v))
ends_known clause tree known holds v h e =
    let now = clause.now.0 in
    let solved = (h.order now).1 (h.numbers, done, (h.are now).1 (is_there known now v e)) in (
      solved,
      (
        λ t.
            let parts = and_parts holds (is_dir v) t in
            let g = h.can.0 in
            let all = (h.met g h.can.1).1 (h.can.2, tt, parts.0) in
            let at = h.can.2 now v e in (
              v,
              record {
                valuation = g;
                values = h.can.1;
                starts = all.0;
                ends = at;
                tree = dir_from v parts.1;
                met = all.1;
              },
            ),
        λ c.
            let covers = c.1 in
            let g = covers.valuation in
            let k = (h.met g covers.values).0 (covers.starts, covers.met) in
            let same : v ≡ c.0 = sym (k.0 now v e) ∙ covers.ends in
            and_from holds (is_dir v) k.2 (dir_to v (ap kind_of same ∙ covers.tree)),
      ),
    )

-- whether the value of the variable is a directory, where it is known
pub ends_directory : (clause : Clause) (tree : Value) (known : Known) (holds b : Bool) → Going clause.start.0 tree clause.literals known [] holds → Some b ≡ option_map is_dir (known clause.now.0) → Decides clause tree (Some (holds && b))
ends_directory clause tree known holds b h e = step (known clause.now.0) refl e
  where
    step : (k : Option Value) → known clause.now.0 ≡ k → Some b ≡ option_map is_dir k → Decides clause tree (Some (holds && b))
    step None is q = let bad : Some b ≡ None = q in cc
    step (Some v) is q =
        let same : b ≡ is_dir v = cc in
        subst (λ d. Decides clause tree (Some (holds && d))) (sym same) (ends_known clause tree known holds v h is)

pub unknown_from : (k : Option Value) → None ≡ option_map is_dir k → k ≡ None
unknown_from None e = refl
unknown_from (Some v) e = let bad : None ≡ Some (is_dir v) = e in cc

-- ---- at the places of a list that is gone through

-- what is behind the first literal
pub rest_is : (l : Literal) (ls : List Literal) → take (length (l ∷ ls) - 1) (drop 1 (l ∷ ls)) ≡ ls
rest_is l ls = let e : length (l ∷ ls) - 1 ≡ length ls = omega arith in rw e (take_all (length ls) ls (omega arith))

pub goes_on : (start : ℕ) (tree : Value) (all : List Literal) (known new : Known) (left : List Literal) (n : ℕ) (literal : Literal) (holds one : Bool) → n ≡ length left → 1 ≤ length left → literal ≡ get_or left 0 literal → Going start tree all known left holds → StepIs known new literal (take (n - 1) (drop 1 left)) (Some one) → Going start tree all new (take (n - 1) (drop 1 left)) (holds && one)
goes_on start tree all known new [] n literal holds one same w is h p = absurd (omega arith)
goes_on start tree all known new (l ∷ ls) n literal holds one same w is h p =
    let e : take (n - 1) (drop 1 (l ∷ ls)) ≡ ls = ap (λ k. take (k - 1) (drop 1 (l ∷ ls))) same ∙ rest_is l ls in
    let p' : Passes known new literal ls one = subst (λ rest. Passes known new literal rest one) e p in
    let p'' : Passes known new l ls one = subst (λ x. Passes known new x ls one) is p' in
    subst (λ rest. Going start tree all new rest (holds && one)) (sym e) (goes start tree all known new l ls holds one h p'')

pub stops_at : (start : ℕ) (tree : Value) (all : List Literal) (known new : Known) (left : List Literal) (n : ℕ) (literal : Literal) (holds : Bool) (now : ℕ) → n ≡ length left → 1 ≤ length left → literal ≡ get_or left 0 literal → Going start tree all known left holds → StepIs known new literal (take (n - 1) (drop 1 left)) None → ¬ (SolvedTo (start ∷ []) all now)
stops_at start tree all known new [] n literal holds now same w is h p = absurd (omega arith)
stops_at start tree all known new (l ∷ ls) n literal holds now same w is h p =
    let e : take (n - 1) (drop 1 (l ∷ ls)) ≡ ls = ap (λ k. take (k - 1) (drop 1 (l ∷ ls))) same ∙ rest_is l ls in
    let p' : StepIs known new literal ls None = subst (λ rest. StepIs known new literal rest None) e p in
    let p'' : StepIs known new l ls None = subst (λ x. StepIs known new x ls None) is p' in
    stops start tree all known new l ls holds now h p''

pub nothing_left : (left : List Literal) → length left < 1 → left ≡ []
nothing_left [] w = refl
nothing_left (l ∷ ls) w = absurd (omega arith)

pub at_end : (start : ℕ) (tree : Value) (all : List Literal) (known : Known) (left : List Literal) (holds : Bool) → length left < 1 → Going start tree all known left holds → Going start tree all known [] holds
at_end start tree all known left holds w h = subst (λ l. Going start tree all known l holds) (nothing_left left w) h

pub none_from : (b : Bool) (k : Option Value) → IsTrue b ↔ IsThere k → b ≡ false → k ≡ None
none_from b (Some v) both e = let t : b ≡ true = both.1 tt in cc
none_from b None both e = refl

-- where a literal does not hold, the clause covers nothing
pub fails : (clause : Clause) (tree : Value) (known : Known) (left : List Literal) → Going clause.start.0 tree clause.literals known left false → ¬ (CoversTree clause tree)
fails clause tree known left h c =
    let covers = c.1 in
    let k = (h.met covers.valuation covers.values).0 (covers.starts, covers.met) in
    let bad : false ≡ true = k.2 in cc
