-- The next member of a list: an and-or list, arms and patterns of `case`.
use Rattle.std.proofs.Common.{◌≡◌, ◌<◌, ℕ, suc, ◌+◌, Bool, true, false, not, List, [], ◌∷◌, map, drop, length, get_or, add-one, Result, Err, if◌then◌else◌, refl, sym, ap, ◌∙◌, subst, arith}
use Rattle.std.specs.Prelude.{◌==◌}
use mathlib.Core.Bool.{beq}
use Rattle.std.proofs.Math.Seq.{drop-cons}
use Rattle.shell_words.specs.Pieces.{PieceParts}
use Rattle.shell_words.specs.Patterns.{pattern_letters}
use Rattle.colis_syntax.specs.declared.syntax.Stmt.{Stmt}
use Rattle.colis_syntax.specs.declared.syntax.Stmt.TheVariants as v
use Rattle.colis_syntax.specs.declared.syntax.StrPiece.{StrPiece}
use Rattle.colis_syntax.specs.declared.syntax.ChainPart.{ChainPart}
use Rattle.colis_syntax.specs.declared.syntax.PatArm.{PatArm}
use Rattle.colis_syntax.specs.declared.syntax.Fields.TheOpen as o
use Rattle.colis_syntax.specs.declared.syntax.Fields.TheFolds.{fold-roll-Stmt}
use Rattle.shell_rules.specs.State as st
use Rattle.shell_rules.specs.State.{Run, State, Place, Action, Funs, Does, then_do, except, with}
use Rattle.shell_rules.specs.Commands.{do_all, do_rest, do_links, do_chain, is_reached}
use Rattle.shell_rules.specs.Expansion.{do_pieces}
use Rattle.shell_rules.specs.Cases.{first_arm, some_pattern, pattern_answer}
use Rattle.colis_meaning.specs.Meaning.{FieldsDo, StrDoes, PieceDoes, LinkDoes, CaseArmDoes, SetDoes, ArmDoes, fields_layer, stmt_layer, str_layer, piece_layer, link_layer, case_arm_layer, set_layer, arm_layer, co_stmt, co_piece, co_link, co_case_arm, pieces_with}
use Rattle.colis_interp.specs.declared.shell.Shell.{Shell}
use Rattle.colis_interp.specs.declared.halt.Halt.{Halt}
use Rattle.colis_interp.specs.Runs.{Runs, state_of}
use Rattle.colis_interp.proofs.Steps.{halts, goes_on}
use Rattle.colis_interp.proofs.Structs.{link_at, case_arm_at}

-- a list from a place on: its member there, and the list behind it
cut : {A : Type 0} (xs : List A) (i : ℕ) (x d : A) → i < length xs → x ≡ get_or xs i d → drop i xs ≡ x ∷ drop (i + 1) xs
cut xs i x d lt e = drop-cons xs i d lt ∙ ap (λ y. y ∷ drop (suc i) xs) (sym e) ∙ ap (λ n. x ∷ drop n xs) (sym (add-one i))

-- ---- lists

pub all_rest : (stmts : List Stmt) (f : Funs) (p : Place) (s : State) → false ≡ (length stmts == 0) → do_all (with f (map co_stmt stmts)) p s ≡ do_rest (with f (map co_stmt stmts)) p s
all_rest [] f p s e = absurd (cc)
all_rest (stmt ∷ stmts) f p s e = refl

-- ---- and-or lists

pub same_of : (a b : Bool) → beq a b ≡ true → a ≡ b
same_of true true e = refl
same_of true false e = absurd (cc)
same_of false true e = absurd (cc)
same_of false false e = refl

pub other_of : (a b : Bool) → beq a b ≡ false → a ≡ b → ⊥
other_of true true e = absurd (cc)
other_of true false e = λ same. absurd (cc)
other_of false true e = λ same. absurd (cc)
other_of false false e = absurd (cc)

reached : (and : Bool) (s : State) → and ≡ s.conc.status → is_reached and s ≡ true
reached true s e = sym e
reached false s e = ap not (sym e)

is_off : (b : Bool) → (true ≡ b → ⊥) → b ≡ false
is_off true h = absurd (h refl)
is_off false h = refl

not_off : (b : Bool) → (false ≡ b → ⊥) → not b ≡ false
not_off true h = refl
not_off false h = absurd (h refl)

unreached : (and : Bool) (s : State) → (and ≡ s.conc.status → ⊥) → is_reached and s ≡ false
unreached true s h = is_off s.conc.status h
unreached false s h = not_off s.conc.status h

module _ (f : Funs) (p : Place) where
  -- a member that is reached, and is not the last
  next_link : (link : ChainPart) (rest : List ChainPart) (s : State) → 0 < length rest → link.and ≡ s.conc.status
      → do_links (with f (map co_link (link ∷ rest))) p s ≡ then_do (co_stmt link.stmt f (except p) s) (λ _ s. do_links (with f (map co_link rest)) p s)
  next_link link [] s lt e = absurd (omega arith)
  next_link link (other ∷ rest) s lt e =
      ap (λ (x : Bool × Action). do_links (x ∷ with f (map co_link (other ∷ rest))) p s) (link_at link f)
      ∙ ap (λ b. if b then then_do (co_stmt link.stmt f (except p) s) (λ _ s. do_links (with f (map co_link (other ∷ rest))) p s) else do_links (with f (map co_link (other ∷ rest))) p s) (reached link.and s e)

  -- one that is not reached
  passed_link : (link : ChainPart) (rest : List ChainPart) (s : State) → (link.and ≡ s.conc.status → ⊥)
      → do_links (with f (map co_link (link ∷ rest))) p s ≡ do_links (with f (map co_link rest)) p s
  passed_link link [] s h =
      ap (λ (x : Bool × Action). do_links (x ∷ []) p s) (link_at link f)
      ∙ ap (λ b. if b then co_stmt link.stmt f p s else st.Go tt s) (unreached link.and s h)
  passed_link link (other ∷ rest) s h =
      ap (λ (x : Bool × Action). do_links (x ∷ with f (map co_link (other ∷ rest))) p s) (link_at link f)
      ∙ ap (λ b. if b then then_do (co_stmt link.stmt f (except p) s) (λ _ s. do_links (with f (map co_link (other ∷ rest))) p s) else do_links (with f (map co_link (other ∷ rest))) p s) (unreached link.and s h)

  pub links_halt : (links : List ChainPart) (i : ℕ) (link d : ChainPart) (s : State) (h : Halt) (t : Shell) → i < length links → link ≡ get_or links i d
      → 0 < length (drop (i + 1) links) → link.and ≡ s.conc.status → Runs (co_stmt link.stmt f (except p) s) (Err h) t → Runs (do_links (with f (map co_link (drop i links))) p s) (Err h) t
  links_halt links i link d s h t lt is more e r =
      subst (λ q. Runs q (Err h) t) (sym (ap (λ l. do_links (with f (map co_link l)) p s) (cut links i link d lt is) ∙ next_link link (drop (i + 1) links) s more e))
      (halts (co_stmt link.stmt f (except p) s) (λ _ s. do_links (with f (map co_link (drop (i + 1) links))) p s) h t r)

  pub links_on : (links : List ChainPart) (i : ℕ) (link d : ChainPart) (s t : State) → i < length links → link ≡ get_or links i d
      → 0 < length (drop (i + 1) links) → link.and ≡ s.conc.status → co_stmt link.stmt f (except p) s ≡ st.Go tt t
      → do_links (with f (map co_link (drop i links))) p s ≡ do_links (with f (map co_link (drop (i + 1) links))) p t
  links_on links i link d s t lt is more e r =
      ap (λ l. do_links (with f (map co_link l)) p s) (cut links i link d lt is) ∙ next_link link (drop (i + 1) links) s more e
      ∙ ap (λ q. then_do q (λ _ s. do_links (with f (map co_link (drop (i + 1) links))) p s)) r

  pub links_passed : (links : List ChainPart) (i : ℕ) (link d : ChainPart) (s : State) → i < length links → link ≡ get_or links i d
      → (link.and ≡ s.conc.status → ⊥) → do_links (with f (map co_link (drop i links))) p s ≡ do_links (with f (map co_link (drop (i + 1) links))) p s
  links_passed links i link d s lt is h =
      ap (λ l. do_links (with f (map co_link l)) p s) (cut links i link d lt is) ∙ passed_link link (drop (i + 1) links) s h

  chain_at : (first : Stmt) (rest : List ChainPart) → co_stmt (v.Chain first rest) f ≡ do_chain (co_stmt first f) (with f (map co_link rest))
  chain_at first rest = ap (λ (d : Does). d f) (ap co_stmt (sym (v.rolls-Chain first rest)) ∙ fold-roll-Stmt FieldsDo Does StrDoes PieceDoes LinkDoes CaseArmDoes SetDoes ArmDoes fields_layer stmt_layer str_layer piece_layer link_layer case_arm_layer set_layer arm_layer (o.Chain first rest))

  chain_is : (stmt first same : Stmt) (rest : List ChainPart) (s : State) → stmt ≡ v.Chain first rest → same ≡ first → 0 < length rest
      → co_stmt stmt f p s ≡ then_do (co_stmt same f (except p) s) (λ _ s. do_links (with f (map co_link rest)) p s)
  chain_is stmt first same [] s e g lt = absurd (omega arith)
  chain_is stmt first same (link ∷ rest) s e g lt =
      ap (λ x. co_stmt x f p s) e ∙ ap (λ (d : Action). d p s) (chain_at first (link ∷ rest))
      ∙ ap (λ x. then_do (co_stmt x f (except p) s) (λ _ s. do_links (with f (map co_link (link ∷ rest))) p s)) (sym g)

  pub chain_halt : (stmt first same : Stmt) (rest : List ChainPart) (s : State) (h : Halt) (t : Shell) → stmt ≡ v.Chain first rest → same ≡ first → 0 < length rest
      → Runs (co_stmt same f (except p) s) (Err h) t → Runs (co_stmt stmt f p s) (Err h) t
  chain_halt stmt first same rest s h t e g lt r =
      subst (λ q. Runs q (Err h) t) (sym (chain_is stmt first same rest s e g lt)) (halts (co_stmt same f (except p) s) (λ _ s. do_links (with f (map co_link rest)) p s) h t r)

  pub chain_on : (stmt first same : Stmt) (rest links : List ChainPart) (s t : State) (r : Result (Unit {0}) Halt) (u : Shell) → stmt ≡ v.Chain first rest → same ≡ first → links ≡ rest → 0 < length rest
      → co_stmt same f (except p) s ≡ st.Go tt t → Runs (do_links (with f (map co_link links)) p t) r u → Runs (co_stmt stmt f p s) r u
  chain_on stmt first same rest links s t r u e g k lt a b =
      subst (λ q. Runs q r u) (sym (chain_is stmt first same rest s e g lt))
      (goes_on (co_stmt same f (except p) s) (λ _ s. do_links (with f (map co_link rest)) p s) tt t r u a (subst (λ l. Runs (do_links (with f (map co_link l)) p t) r u) k b))

  -- ---- `case`

  module _ (subject : List ℕ) (arms : List PatArm) (i : ℕ) (arm d : PatArm) (patterns : List (List StrPiece)) (s : State) (lt : i < length arms) (is : arm ≡ get_or arms i d) (same : patterns ≡ arm.patterns) where
    abbrev met_of : Run Bool
    met_of = some_pattern subject (map (pieces_with f) (map (λ pieces. map co_piece pieces) patterns)) p s

    abbrev behind_arm : Bool → State → Run (Unit {0})
    behind_arm met t = if met then co_stmt arm.body f p t else first_arm subject (with f (map co_case_arm (drop (i + 1) arms))) p t

    arm_is : first_arm subject (with f (map co_case_arm (drop i arms))) p s ≡ then_do met_of behind_arm
    arm_is =
        ap (λ l. first_arm subject (with f (map co_case_arm l)) p s) (cut arms i arm d lt is)
        ∙ ap (λ (x : List (List (st.Doing PieceParts)) × Action). first_arm subject (x ∷ with f (map co_case_arm (drop (i + 1) arms))) p s) (case_arm_at arm f)
        ∙ ap (λ (l : List (List StrPiece)). then_do (some_pattern subject (map (pieces_with f) (map (λ pieces. map co_piece pieces) l)) p s) behind_arm) (sym same)

    pub arms_halt : (h : Halt) (t : Shell) → Runs met_of (Err h) t → Runs (first_arm subject (with f (map co_case_arm (drop i arms))) p s) (Err h) t
    arms_halt h t r = subst (λ q. Runs q (Err h) t) (sym arm_is) (halts met_of behind_arm h t r)

    pub arms_met : (t : State) (met : Bool) (r : Result (Unit {0}) Halt) (u : Shell) → met_of ≡ st.Go met t → met ≡ true → Runs (co_stmt arm.body f p t) r u
        → Runs (first_arm subject (with f (map co_case_arm (drop i arms))) p s) r u
    arms_met t met r u e on h =
        subst (λ q. Runs q r u) (sym arm_is)
        (goes_on met_of behind_arm met t r u e (subst (λ b. Runs (behind_arm b t) r u) (sym on) h))

    pub arms_on : (t : State) (met : Bool) → met_of ≡ st.Go met t → met ≡ false
        → first_arm subject (with f (map co_case_arm (drop i arms))) p s ≡ first_arm subject (with f (map co_case_arm (drop (i + 1) arms))) p t
    arms_on t met e off = arm_is ∙ ap (λ q. then_do q behind_arm) e ∙ ap (λ b. behind_arm b t) off

  pub patterns_halt : (subject : List ℕ) (patterns : List (List StrPiece)) (i : ℕ) (pattern d : List StrPiece) (s : State) (pieces : List PieceParts) (t : Shell) (h : Halt) → i < length patterns → pattern ≡ get_or patterns i d
      → do_pieces (pieces_with f (map co_piece pattern)) p s ≡ st.Go pieces (state_of t) → Runs (pattern_answer subject (pattern_letters pieces) p (state_of t)) (Err h) t
      → Runs (some_pattern subject (map (pieces_with f) (map (λ pieces. map co_piece pieces) (drop i patterns))) p s) (Err h) t
  patterns_halt subject patterns i pattern d s pieces t h lt is e r =
      let later : Bool → State → Run Bool = λ met s. if met then st.Go true s else some_pattern subject (map (pieces_with f) (map (λ pieces. map co_piece pieces) (drop (i + 1) patterns))) p s in
      subst (λ l. Runs (some_pattern subject (map (pieces_with f) (map (λ pieces. map co_piece pieces) l)) p s) (Err h) t) (sym (cut patterns i pattern d lt is))
      (goes_on (do_pieces (pieces_with f (map co_piece pattern)) p s) (λ parts s. then_do (pattern_answer subject (pattern_letters parts) p s) later) pieces (state_of t) (Err h) t e
      (halts (pattern_answer subject (pattern_letters pieces) p (state_of t)) later h t r))
