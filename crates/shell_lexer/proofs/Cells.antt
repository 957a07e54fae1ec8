-- The bytes of a text that count, and its runs, by the next byte that counts.
use Rattle.std.proofs.Common.{Option, None, ◌≡◌, ℕ, ◌+◌, ◌<◌, ◌≤◌, Bool, true, false, if◌then◌else◌, ◌&&◌, nat_eq, List, [], ◌∷◌, ◌++◌, append_assoc, append-nil, drop, take, length, ◌-◌, get_or, refl, sym, ap, ◌∙◌, arith}
use Rattle.std.proofs.lemmas.Bool.{false≢true}
use Rattle.std.proofs.lemmas.List.{take_rest}
use Rattle.shell_lexer.specs.declared.byte_kind.RunKind.{RunKind}
use Rattle.shell_lexer.specs.Text.{Bytes, skip, cells, run_of, behind_run, run, behind, passes, head_is, tail, behind_next, behind_bytes}
use Rattle.shell_lexer.proofs.Fronts.{Here, skip_front, skip_end}

abbrev pub first_cell : Bytes → List (ℕ × Bytes)
first_cell [] = []
first_cell (a ∷ rest) = (a, rest) ∷ cells rest

pub if_both : {A B : Type 0} (f : A → B) (b : Bool) (u v : B) (x y : A) → (b ≡ true → u ≡ f x) → (b ≡ false → v ≡ f y) → (if b then u else v) ≡ f (if b then x else y)
if_both f true u v x y h k = h refl
if_both f false u v x y h k = k refl

-- a text's cells, by its next byte that counts
pub cells_by_skip : (text : Bytes) → cells text ≡ first_cell (skip text)
cells_by_skip [] = refl
cells_by_skip (a ∷ []) = refl
cells_by_skip (a ∷ b ∷ rest) = if_both first_cell (nat_eq a 92 && nat_eq b 10) (cells rest) ((a, b ∷ rest) ∷ cells (b ∷ rest)) (skip rest) (a ∷ b ∷ rest) (λ e. cells_by_skip rest) (λ e. refl)

behind_more : (test : ℕ → Bool) (a : ℕ) (text rest : Bytes) (cs : List (ℕ × Bytes)) → test a ≡ true → behind_run test text ((a, rest) ∷ cs) ≡ behind_run test rest cs
behind_more test a text rest cs e = rw e

behind_stop : (test : ℕ → Bool) (a : ℕ) (text rest : Bytes) (cs : List (ℕ × Bytes)) → test a ≡ false → behind_run test text ((a, rest) ∷ cs) ≡ text
behind_stop test a text rest cs e = rw e

run_more : (test : ℕ → Bool) (a : ℕ) (rest : Bytes) (cs : List (ℕ × Bytes)) → test a ≡ true → run_of test ((a, rest) ∷ cs) ≡ a ∷ run_of test cs
run_more test a rest cs e = rw e

run_stop : (test : ℕ → Bool) (a : ℕ) (rest : Bytes) (cs : List (ℕ × Bytes)) → test a ≡ false → run_of test ((a, rest) ∷ cs) ≡ []
run_stop test a rest cs e = rw e

-- the same by the next byte
pub behind_front : (which : RunKind) (text rest : Bytes) (a : ℕ) → skip text ≡ a ∷ rest → passes which a ≡ true → behind which text ≡ behind which rest
behind_front which text rest a s e = ap (behind_run (passes which) text) (cells_by_skip text ∙ ap first_cell s) ∙ behind_more (passes which) a text rest (cells rest) e

pub behind_other : (which : RunKind) (text rest : Bytes) (a : ℕ) → skip text ≡ a ∷ rest → passes which a ≡ false → behind which text ≡ text
behind_other which text rest a s e = ap (behind_run (passes which) text) (cells_by_skip text ∙ ap first_cell s) ∙ behind_stop (passes which) a text rest (cells rest) e

pub behind_end : (which : RunKind) (text : Bytes) → skip text ≡ [] → behind which text ≡ text
behind_end which text s = ap (behind_run (passes which) text) (cells_by_skip text ∙ ap first_cell s)

pub run_front : (which : RunKind) (text rest : Bytes) (a : ℕ) → skip text ≡ a ∷ rest → passes which a ≡ true → run which text ≡ a ∷ run which rest
run_front which text rest a s e = ap (run_of (passes which)) (cells_by_skip text ∙ ap first_cell s) ∙ run_more (passes which) a rest (cells rest) e

pub run_other : (which : RunKind) (text rest : Bytes) (a : ℕ) → skip text ≡ a ∷ rest → passes which a ≡ false → run which text ≡ []
run_other which text rest a s e = ap (run_of (passes which)) (cells_by_skip text ∙ ap first_cell s) ∙ run_stop (passes which) a rest (cells rest) e

pub run_none : (which : RunKind) (text : Bytes) → skip text ≡ [] → run which text ≡ []
run_none which text s = ap (run_of (passes which)) (cells_by_skip text ∙ ap first_cell s)

-- what was read of a run from a place on: the run is this and the run of what is left
pub record RunSoFar (which : RunKind) (s : Bytes) (at place : ℕ) (out : Bytes) : Type 0 where
  pub on : at ≤ place
  pub within : place ≤ length s
  pub run : run which (drop at s) ≡ out ++ run which (drop place s)
  pub behind : behind which (drop at s) ≡ behind which (drop place s)

pub run_begins : (which : RunKind) (s : Bytes) (at : ℕ) (out : Bytes) → at ≤ length s → out ≡ [] → RunSoFar which s at at out
run_begins which s at out le e = record { on = omega arith; within = le; run = ap (λ o. o ++ run which (drop at s)) (sym e); behind = refl }

pub run_goes_on : (which : RunKind) (s : Bytes) (at place here : ℕ) (out more : Bytes) → RunSoFar which s at place out → Here s place here → here < length s
    → passes which (get_or s here 0) ≡ true → more ≡ out ++ get_or s here 0 ∷ [] → RunSoFar which s at (here + 1) more
run_goes_on which s at place here out more r h lt e m =
    let k : place ≤ here = h.on in
    let j : at ≤ place = r.on in
    let f : skip (drop place s) ≡ get_or s here 0 ∷ drop (here + 1) s = skip_front s place here h lt in
    let next : Bytes = run which (drop (here + 1) s) in
    record {
      on = omega arith;
      within = omega arith;
      run = r.run ∙ ap (λ t. out ++ t) (run_front which (drop place s) (drop (here + 1) s) (get_or s here 0) f e) ∙ sym (append_assoc out (get_or s here 0 ∷ []) next) ∙ ap (λ o. o ++ next) (sym m);
      behind = r.behind ∙ behind_front which (drop place s) (drop (here + 1) s) (get_or s here 0) f e;
    }

-- the run is read where another byte comes, or the text's end
pub record RunRead (which : RunKind) (s : Bytes) (at place : ℕ) (out : Bytes) : Type 0 where
  pub run : out ≡ run which (drop at s)
  pub behind : drop place s ≡ behind which (drop at s)

pub run_other_read : (which : RunKind) (s : Bytes) (at place here : ℕ) (out : Bytes) → RunSoFar which s at place out → Here s place here → here < length s
    → passes which (get_or s here 0) ≡ false → RunRead which s at place out
run_other_read which s at place here out r h lt e =
    let f : skip (drop place s) ≡ get_or s here 0 ∷ drop (here + 1) s = skip_front s place here h lt in
    record {
      run = sym (r.run ∙ ap (λ t. out ++ t) (run_other which (drop place s) (drop (here + 1) s) (get_or s here 0) f e) ∙ append-nil out);
      behind = sym (r.behind ∙ behind_other which (drop place s) (drop (here + 1) s) (get_or s here 0) f e);
    }

pub run_end_read : (which : RunKind) (s : Bytes) (at place here : ℕ) (out : Bytes) → RunSoFar which s at place out → Here s place here → length s ≤ here → RunRead which s at place out
run_end_read which s at place here out r h le =
    let f : skip (drop place s) ≡ [] = skip_end s place here h le in
    record {
      run = sym (r.run ∙ ap (λ t. out ++ t) (run_none which (drop place s) f) ∙ append-nil out);
      behind = sym (r.behind ∙ behind_end which (drop place s) f);
    }

-- ---- fixed bytes

next_is : (b : ℕ) (more : Bytes → Option Bytes) (text : Bytes) → head_is b text ≡ true → behind_next b more text ≡ more (tail text)
next_is b more [] e = absurd (false≢true e)
next_is b more (a ∷ rest) e = rw e

next_is_not : (b : ℕ) (more : Bytes → Option Bytes) (text : Bytes) → head_is b text ≡ false → behind_next b more text ≡ None
next_is_not b more [] e = refl
next_is_not b more (a ∷ rest) e = rw e

-- the first of these bytes comes next
next_of : (wanted text rest : Bytes) → 1 ≤ length wanted → head_is (get_or wanted 0 0) (skip text) ≡ true → rest ≡ tail (skip text) → behind_bytes (drop 1 wanted) rest ≡ behind_bytes wanted text
next_of [] text rest le e r = absurd (omega arith)
next_of (b ∷ bytes) text rest le e r = ap (behind_bytes bytes) r ∙ sym (next_is b (behind_bytes bytes) (skip text) e)

pub wanted_next : (wanted text rest : Bytes) → 1 ≤ length wanted → head_is (get_or wanted 0 0) (skip text) ≡ true → rest ≡ tail (skip text)
    → behind_bytes (take (length wanted - 1) (drop 1 wanted)) rest ≡ behind_bytes wanted text
wanted_next wanted text rest le e r = ap (λ more. behind_bytes more rest) (take_rest wanted 1) ∙ next_of wanted text rest le e r

-- another comes
pub wanted_not : (wanted text : Bytes) → 1 ≤ length wanted → head_is (get_or wanted 0 0) (skip text) ≡ false → behind_bytes wanted text ≡ None
wanted_not [] text le e = absurd (omega arith)
wanted_not (b ∷ bytes) text le e = next_is_not b (behind_bytes bytes) (skip text) e
