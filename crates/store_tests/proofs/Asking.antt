-- A question more on the way through paths that are asked for one after the other.
use Rattle.std.proofs.Common.{◌≡◌, ℕ, ◌+◌, ◌<◌, ◌≤◌, List, [], ◌∷◌, ◌++◌, length, get_or, drop, zero, suc, refl, sym, ap, ◌∙◌, arith}
use Rattle.std.proofs.lemmas.List.{drop_more}
use Rattle.script_names.specs.declared.mark.Mark.{Mark}
use Rattle.script_names.specs.declared.reason.Done.{Done}
use Rattle.script_names.specs.declared.reason.Done.TheVariants as answers
use Rattle.script_names.specs.Paths.{PathParts}
use Rattle.feature_trees.specs.declared.value.Value.{Value}
use Rattle.utility_calls.specs.declared.deeds.Deed.{Deed}
use Rattle.utility_calls.specs.declared.deeds.Deed.TheVariants.{Does}
use Rattle.utility_calls.specs.declared.acts.Act.TheVariants.{Exists}
use Rattle.utility_calls.specs.Acts.{row, tree_after}
use Rattle.utility_calls.specs.Decisions.{mark_at}
use Rattle.utility_calls.specs.Walks.{World, world, Walked, walk}
use Rattle.case_paths.specs.declared.state.Ran.{Ran}
use Rattle.case_paths.specs.Paths.{Gives}
use Rattle.store_tests.specs.TwoActs.{site_of}
use Rattle.store_tests.specs.Questions.{asked_from}

pub asked_next : (ps : List PathParts) (i n : ℕ) (p q : PathParts) (kept tree new : Value) (marks more : List Mark) (deeds done : List Deed) (all : Walked Done) → i < length ps → p ≡ get_or ps i p → q ≡ p → new ≡ tree_after (Exists q) tree → n ≡ (row (Exists q) tree).number → more ≡ marks ++ record { site = site_of 0; row = n } ∷ [] → done ≡ deeds ++ Does (Exists q) ∷ [] → walk (asked_from (drop i ps)) (world tree kept) marks deeds ≡ all → walk (asked_from (drop (i + 1) ps)) (world new kept) more done ≡ all
asked_next ps i n p q kept tree new marks more deeds done all lt at same after number marked asked h =
    let rest : drop i ps ≡ q ∷ drop (i + 1) ps = drop_more ps i p lt ∙ ap (λ x. x ∷ drop (i + 1) ps) (sym at ∙ sym same) in
    let mark : more ≡ marks ++ mark_at (site_of 0) (Exists q) tree ∷ [] = marked ∙ ap (λ (m : ℕ). marks ++ record { site = site_of 0; row = m } ∷ []) number in
    (λ j. walk (asked_from (drop (i + 1) ps)) (world (after j) kept) (mark j) (asked j)) ∙ sym (ap (λ l. walk (asked_from l) (world tree kept) marks deeds) rest) ∙ h

nothing_left : (ps : List PathParts) (i : ℕ) → length ps ≤ i → drop i ps ≡ []
nothing_left [] zero le = refl
nothing_left [] (suc i) le = refl
nothing_left (p ∷ ps) zero le = absurd (omega (arith, le))
nothing_left (p ∷ ps) (suc i) le = nothing_left ps i (omega (arith, le))

pub asked_all : (ps : List PathParts) (i : ℕ) (w : World) (marks : List Mark) (deeds : List Deed) (all : Walked Done) → length ps ≤ i → walk (asked_from (drop i ps)) w marks deeds ≡ all → Gives all (record { value = answers.Ok; trace = marks; deeds = deeds })
asked_all ps i w marks deeds all le h =
    let e : record { value = answers.Ok; world = w; trace = marks; deeds = deeds } ≡ all = sym (ap (λ l. walk (asked_from l) w marks deeds) (nothing_left ps i le)) ∙ h in
    record {
      value = ap (λ (p : Walked Done). p.value) e;
      trace = ap (λ (p : Walked Done). p.trace) e;
      deeds = ap (λ (p : Walked Done). p.deeds) e;
    }
