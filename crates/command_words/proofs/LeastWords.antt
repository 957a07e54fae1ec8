-- The least number of words with which no line begins.
use Rattle.std.proofs.Common.{◌≡◌, ℕ, zero, suc, ◌+◌, ◌<◌, ◌≤◌, ◌⊎◌, List, [], ◌∷◌, ◌++◌, take, length, Option, Some, None, Result, Ok, Err, inl, inr, ⊎_elim, refl, sym, ap, subst, ◌∙◌, codes, arith}
use Rattle.std.specs.Option.{ok_or}
use Rattle.command_words.specs.declared.field.Command.{Command}
use Rattle.command_words.specs.declared.read.Begun.{Begun}
use Rattle.command_words.specs.declared.request.Request.{Request}
use Rattle.command_words.specs.declared.request.Request.TheVariants.{Translate}
use Rattle.command_words.specs.Fields.{command_named}
use Rattle.command_words.specs.Words.{step, after, start, finished, ended_form, line_form, command_form, form}
use Rattle.command_words.specs.CommandLines.{Texts, IsLine}
use Rattle.command_words.specs.Laws.{BeginsLine, LeavesLine, FormIsLeast}
use Rattle.command_words.proofs.Advance.{after_step}
use Rattle.command_words.proofs.ReadLines.{sound_after, sound_start, GoesOn, goes_on}
use Rattle.command_words.proofs.SpelledLines.{line_spells, spells_line}
use Rattle.command_words.proofs.LeastFaults.{completes}
use Rattle.command_words.proofs.Results.{no_fault, ok_value, fault_of}

-- ---- words behind words

pub after_on : (command : Command) (begun : Begun) (words rest : Texts) (n : ℕ) (final : Begun) → after command begun words n ≡ Ok final
    → (m : ℕ) × (after command begun (words ++ rest) n ≡ after command final rest m)
after_on command begun [] rest n final e = (n, ap (λ b. after command b rest n) (ap (ok_value final) e))
after_on command begun (word ∷ words) rest n final e =
    let s = goes_on command begun word words n final e in
    let later = after_on command s.next words rest (n + 1) final s.after_it in
    (later.0, after_step command begun s.next word (words ++ rest) n s.is ∙ later.1)

-- words that stop the line
abbrev Stops : Command → Begun → List ℕ → Texts → ℕ → ℕ → Type 0
Stops command begun word words n m =
    ((step command begun word ≡ None) × (n ≡ m)) ⊎ GoesOn command begun word words n (Err m)

stops_by : (command : Command) (begun : Begun) (word : List ℕ) (words : Texts) (n m : ℕ) (o : Option Begun) → step command begun word ≡ o
    → ◌≡◌ {A = Result Begun ℕ} (elim o as (λ _. Result Begun ℕ) [ None ↦ Err n | Some next ↦ after command next words (n + 1) ]) (Err m)
    → Stops command begun word words n m
stops_by command begun word words n m None e h = inl (e, ap (fault_of n) h)
stops_by command begun word words n m (Some next) e h = inr (record { next = next; is = e; after_it = h })

stops : (command : Command) (begun : Begun) (word : List ℕ) (words : Texts) (n m : ℕ) → after command begun (word ∷ words) n ≡ Err m
    → Stops command begun word words n m
stops command begun word words n m h = stops_by command begun word words n m (step command begun word) refl h

stop_step : (command : Command) (begun : Begun) (word : List ℕ) (words : Texts) (n : ℕ) → step command begun word ≡ None
    → after command begun (word ∷ words) n ≡ Err n
stop_step command begun word words n e =
    let go : Option Begun → Result Begun ℕ = λ o. elim o as (λ _. Result Begun ℕ) [ None ↦ Err n | Some b ↦ after command b words (n + 1) ] in
    ap go e

err : {m n : ℕ} → m ≡ n → ◌≡◌ {A = Result Begun ℕ} (Err m) (Err n)
err e = ap Err e

after_stops : (command : Command) (begun : Begun) (words rest : Texts) (n m : ℕ) → after command begun words n ≡ Err m
    → after command begun (words ++ rest) n ≡ Err m
after_stops command begun [] rest n m e = absurd (no_fault (sym e))
after_stops command begun (word ∷ words) rest n m e =
    ⊎_elim (λ h. stop_step command begun word (words ++ rest) n h.0 ∙ err h.1)
    (λ s. after_step command begun s.next word (words ++ rest) n s.is ∙ after_stops command s.next words rest (n + 1) m s.after_it)
    (stops command begun word words n m e)

-- ---- where they stop

-- the first words, so many, reach a line that is begun
abbrev Reaches : Command → Begun → Texts → ℕ → ℕ → Type 0
Reaches command begun words n i = (final : Begun) × (after command begun (take i words) n ≡ Ok final)

record StopsAt (command : Command) (begun : Begun) (words : Texts) (n m : ℕ) : Type 0 where
  place : ℕ
  is : m ≡ n + place
  inside : place < length words
  stopped : after command begun (take (suc place) words) n ≡ Err m
  before : (i : ℕ) → i ≤ place → Reaches command begun words n i

reaches_first : (command : Command) (begun : Begun) (words : Texts) (n i : ℕ) → i ≤ 0 → Reaches command begun words n i
reaches_first command begun words n zero le = (begun, refl)
reaches_first command begun words n (suc i) le = absurd (omega (arith, le))

reaches_next : (command : Command) (begun next : Begun) (word : List ℕ) (words : Texts) (n place i : ℕ)
    → step command begun word ≡ Some next → ((j : ℕ) → j ≤ place → Reaches command next words (n + 1) j) → i ≤ suc place
    → Reaches command begun (word ∷ words) n i
reaches_next command begun next word words n place zero e before le = (begun, refl)
reaches_next command begun next word words n place (suc i) e before le =
    let later = before i (omega (arith, le)) in
    (later.0, after_step command begun next word (take i words) n e ∙ later.1)

stop_here : (command : Command) (begun : Begun) (word : List ℕ) (words : Texts) (n m : ℕ) → step command begun word ≡ None → n ≡ m
    → StopsAt command begun (word ∷ words) n m
stop_here command begun word words n m none same =
    record {
      place = 0;
      is = omega (arith, same);
      inside = omega arith;
      stopped = stop_step command begun word [] n none ∙ err same;
      before = λ i le. reaches_first command begun (word ∷ words) n i le;
    }

stop_later : (command : Command) (begun next : Begun) (word : List ℕ) (words : Texts) (n m : ℕ) → step command begun word ≡ Some next
    → StopsAt command next words (n + 1) m → StopsAt command begun (word ∷ words) n m
stop_later command begun next word words n m e s =
    record {
      place = suc s.place;
      is = omega (arith, s.is);
      inside = omega (arith, s.inside);
      stopped = after_step command begun next word (take (suc s.place) words) n e ∙ s.stopped;
      before = λ i le. reaches_next command begun next word words n s.place i e s.before le;
    }

stop_at : (command : Command) (begun : Begun) (words : Texts) (n m : ℕ) → after command begun words n ≡ Err m
    → StopsAt command begun words n m
stop_at command begun [] n m e = absurd (no_fault (sym e))
stop_at command begun (word ∷ words) n m e =
    ⊎_elim (λ h. stop_here command begun word words n m h.0 h.1)
    (λ s. stop_later command begun s.next word words n m s.is (stop_at command s.next words (n + 1) m s.after_it))
    (stops command begun word words n m e)

all_reach : (command : Command) (begun : Begun) (words : Texts) (n : ℕ) (final : Begun) → after command begun words n ≡ Ok final
    → (i : ℕ) → Reaches command begun words n i
all_reach command begun [] n final e zero = (begun, refl)
all_reach command begun [] n final e (suc i) = (begun, refl)
all_reach command begun (word ∷ words) n final e zero = (begun, refl)
all_reach command begun (word ∷ words) n final e (suc i) =
    let s = goes_on command begun word words n final e in
    let later = all_reach command s.next words (n + 1) final s.after_it i in
    (later.0, after_step command begun s.next word (take i words) n s.is ∙ later.1)

-- ---- lines

no_words : BeginsLine []
no_words =
    record {
      request = Translate [];
      rest = codes "translate" ∷ [] ∷ [];
      line = spells_line (codes "translate" ∷ [] ∷ []) (Translate []) refl;
    }

-- the words behind a command's name
module _ (called : List ℕ) (command : Command) (names : command_named called ≡ Some command) where
  form_is : (words : Texts) → form (called ∷ words) ≡ line_form command words
  form_is words = ap (λ c. command_form c words) names

  begins : (words : Texts) (final : Begun) → after command start words 2 ≡ Ok final → BeginsLine (called ∷ words)
  begins words final e =
      let c = completes command final (sound_after command start words 2 final (sound_start command) e) in
      let on = after_on command start words c.rest 2 final e in
      let n = length (words ++ c.rest) + 2 in
      record {
        request = c.request;
        rest = c.rest;
        line = spells_line (called ∷ (words ++ c.rest)) c.request
            (form_is (words ++ c.rest) ∙ ap (ended_form command n) (on.1 ∙ c.leads on.0) ∙ ap (λ o. ok_or o n) c.makes_it);
      }

  no_line : (words rest : Texts) (m : ℕ) (request : Request) → after command start words 2 ≡ Err m
      → IsLine (called ∷ (words ++ rest)) request → ⊥
  no_line words rest m request e is =
      let stop = ap (ended_form command (length (words ++ rest) + 2)) (after_stops command start words rest 2 m e) in
      no_fault (sym (form_is (words ++ rest) ∙ stop) ∙ line_spells (called ∷ (words ++ rest)) request is)

  below : (words : Texts) (last k : ℕ) → ((i : ℕ) → i ≤ last → Reaches command start words 2 i) → k < suc (suc last)
      → BeginsLine (take k (called ∷ words))
  below words last zero reach lt = no_words
  below words last (suc i) reach lt = let r = reach i (omega (arith, lt)) in begins (take i words) r.0 r.1

  abbrev Least : Texts → ℕ → Type 0
  Least words n = ((k : ℕ) → k < n → BeginsLine (take k (called ∷ words))) × LeavesLine (called ∷ words) n

  stopped_least : (words : Texts) (m : ℕ) → after command start words 2 ≡ Err m → Least words m
  stopped_least words m e =
      let s = stop_at command start words 2 m e in
      let n : suc (suc s.place) ≡ m = omega (arith, s.is) in
      subst (Least words) n (
        λ k lt. below words s.place k s.before lt,
        inl (
          omega (arith, s.inside),
          λ b. no_line (take (suc s.place) words) b.rest m b.request s.stopped b.line,
        ),
      )

  unfinished_least : (words : Texts) (final : Begun) (n : ℕ) → after command start words 2 ≡ Ok final → form (called ∷ words) ≡ Err n
      → n ≡ length words + 2 → Least words n
  unfinished_least words final n e fault is = (
    λ k lt. below words (length words) k (λ i le. all_reach command start words 2 final e i) (omega (arith, lt, is)),
    inr (omega (arith, is), λ request line. no_fault (sym fault ∙ line_spells (called ∷ words) request line)),
  )

  ended_by : (words : Texts) (final : Begun) (n : ℕ) (o : Option Request) → ok_or o (length words + 2) ≡ Err n → n ≡ length words + 2
  ended_by words final n None e = sym (ap (fault_of n) e)
  ended_by words final n (Some request) e = absurd (no_fault (sym e))

  least_by : (words : Texts) (n : ℕ) (r : Result Begun ℕ) → after command start words 2 ≡ r → form (called ∷ words) ≡ Err n
      → ended_form command (length words + 2) r ≡ Err n → Least words n
  least_by words n (Err m) run fault e = subst (Least words) (ap (fault_of n) e) (stopped_least words m run)
  least_by words n (Ok final) run fault e =
      unfinished_least words final n run fault (ended_by words final n (finished command final) e)

  command_least : (words : Texts) (n : ℕ) → form (called ∷ words) ≡ Err n → Least words n
  command_least words n fault =
      least_by words n (after command start words 2) refl fault (sym (form_is words) ∙ fault)

-- what is said of words that leave every line with the n-th
abbrev LeastOf : Texts → ℕ → Type 0
LeastOf words n = ((k : ℕ) → k < n → BeginsLine (take k words)) × LeavesLine words n

below_one : (words : Texts) (k : ℕ) → k < 1 → BeginsLine (take k words)
below_one words zero lt = no_words
below_one words (suc k) lt = absurd (omega (arith, lt))

no_command : (called : List ℕ) (words : Texts) → command_named called ≡ None → LeastOf (called ∷ words) 1
no_command called words none = (
  λ k lt. below_one (called ∷ words) k lt,
  inl (
    omega arith,
    λ b. no_fault (sym (ap (λ c. command_form c b.rest) none) ∙ line_spells (called ∷ b.rest) b.request b.line),
  ),
)

least_by_name : (called : List ℕ) (words : Texts) (n : ℕ) (c : Option Command) → command_named called ≡ c
    → form (called ∷ words) ≡ Err n → LeastOf (called ∷ words) n
least_by_name called words n None none fault =
    let e : ◌≡◌ {A = Result Request ℕ} (Err 1) (Err n) = sym (ap (λ c. command_form c words) none) ∙ fault in
    subst (LeastOf (called ∷ words)) (ap (fault_of n) e) (no_command called words none)
least_by_name called words n (Some command) names fault = command_least called command names words n fault

nothing : (n : ℕ) → form [] ≡ Err n → LeastOf [] n
nothing n e =
    subst (LeastOf []) (ap (fault_of n) e)
    (λ k lt. below_one [] k lt, inr (refl, λ request line. no_fault (line_spells [] request line)))

pub form_is_least : FormIsLeast
form_is_least [] n e = nothing n e
form_is_least (called ∷ words) n e = least_by_name called words n (command_named called) refl e
