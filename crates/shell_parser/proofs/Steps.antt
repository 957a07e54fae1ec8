-- Steps of a reading at a place of a slice.
use Rattle.std.proofs.Common.{◌≡◌, ℕ, zero, suc, ◌+◌, ◌<◌, ◌≤◌, true, false, List, [], ◌∷◌, ◌++◌, refl, sym, ap, ◌∙◌, subst, arith, Ok, length, drop, append_assoc, add-one}
use Rattle.shell_grammar.specs.declared.fault.ParseFault.{ParseFault}
use Rattle.shell_grammar.specs.declared.fault.ParseFault.TheVariants.{Syntax, Deep, Memory}
use Rattle.shell_grammar.specs.declared.look.Look.{Look}
use Rattle.shell_grammar.specs.declared.look.Look.TheVariants.{AtEnd}
use Rattle.shell_grammar.specs.Look.{Tokens, look, behind, place}
use Rattle.shell_grammar.specs.Forms as form
use Rattle.shell_grammar.specs.Grammar.{Rule, Sign, Is, Opens, Inside, Tree, Value, Values, Production, production}
use Rattle.shell_grammar.specs.Reading.{Out, Whole, Stop, turned, IsRule, rule, IsAll, no_more, one_more, one_stops, IsSign, is, is_not, opens, opens_not, too_deep, inside}
use Rattle.shell_grammar.specs.Spelling.{deep_64}
use Rattle.shell_parser.specs.Reads.{Caused, Stops, SignStops, Takes}
use Rattle.std.proofs.lemmas.List.{drop_all}
use Rattle.std.proofs.lemmas.Bool.{lt-leb}

stepped : (ts : Tokens) (at : ℕ) → behind (drop at ts) ≡ drop (suc at) ts
stepped [] zero = refl
stepped [] (suc n) = refl
stepped (t ∷ ts) zero = refl
stepped (t ∷ ts) (suc n) = stepped ts n

pub step_on : (ts : Tokens) (at : ℕ) → behind (drop at ts) ≡ drop (at + 1) ts
step_on ts at = stepped ts at ∙ ap (λ n. drop n ts) (sym (add-one at))

pub end_of : (ts : Tokens) (at : ℕ) → length ts ≤ at → look (drop at ts) ≡ AtEnd
end_of ts at le = ap look (drop_all at ts le)

pub token_not_end : (l : Look) → form.is_token l ≡ true → AtEnd ≡ l → ⊥
token_not_end l e f = cc (sym e ∙ ap form.is_token (sym f))

pub shallow : (d : ℕ) → d < 64 → deep_64 d ≡ false
shallow d h = lt-leb 64 d h

pub no_token : (ts : Tokens) (at : ℕ) (l : Look) → length ts ≤ at → form.is_token l ≡ true → look (drop at ts) ≡ l → ⊥
no_token ts at l le e f = token_not_end l e (sym (end_of ts at le) ∙ f)

-- ---- what a loop keeps of the list that it grows

pub turned_on : {A B : Type 0} (f : List A → B) (xs : List A) (x : A) (q : Out (List A)) → turned (λ us. f (xs ++ us)) (turned (λ us. x ∷ us) q) ≡ turned (λ us. f ((xs ++ x ∷ []) ++ us)) q
turned_on f xs x (Whole us r) = ap (λ l. Whole (f l) r) (sym (append_assoc xs (x ∷ []) us))
turned_on f xs x (Stop g r) = refl

pub list_begins : {A : Type 0} (P : Out (List A) → Type 0) (xs : List A) → xs ≡ [] → (q : Out (List A)) → P q → P (turned (λ us. xs ++ us) q)
list_begins P xs e (Whole us r) m = subst (λ xs. P (Whole (xs ++ us) r)) (sym e) m
list_begins P xs e (Stop f r) m = m

pub list_goes : {A B : Type 0} (P : Out B → Type 0) (f : List A → B) (xs ys : List A) (x : A) → ys ≡ xs ++ x ∷ [] → (q : Out (List A)) → P (turned (λ us. f (xs ++ us)) (turned (λ us. x ∷ us) q)) → P (turned (λ us. f (ys ++ us)) q)
list_goes P f xs ys x e q m = subst (λ ys. P (turned (λ us. f (ys ++ us)) q)) (sym e) (subst P (turned_on f xs x q) m)

-- ---- a fault of a part is a fault of the whole

pub passed_on : {d d1 end end1 : ℕ} {n n1 : Rule} {ts ts1 : Tokens} → ((f : ParseFault) (r : Tokens) → IsRule deep_64 d1 end1 n1 ts1 (Stop f r) → IsRule deep_64 d end n ts (Stop f r)) → (fault : ParseFault) → Caused (Stops d1 end1 n1 ts1) fault → Caused (Stops d end n ts) fault
passed_on h (Syntax at) x = record { rest = x.rest; reads = h _ _ x.reads }
passed_on h (Deep at) x = record { rest = x.rest; reads = h _ _ x.reads }
passed_on h Memory x = tt

pub passed_sign : {d d1 end end1 : ℕ} {n : Rule} {s : Sign} {ts ts1 : Tokens} → ((f : ParseFault) (r : Tokens) → IsSign deep_64 d1 end1 s ts1 (Stop f r) → IsRule deep_64 d end n ts (Stop f r)) → (fault : ParseFault) → Caused (SignStops d1 end1 s ts1) fault → Caused (Stops d end n ts) fault
passed_sign h (Syntax at) x = record { rest = x.rest; reads = h _ _ x.reads }
passed_sign h (Deep at) x = record { rest = x.rest; reads = h _ _ x.reads }
passed_sign h Memory x = tt

module _ {d end : ℕ} where
  -- ---- a rule by its production, and by what stands there

  pub made : {n : Rule} {ts : Tokens} (p : Production n) → production n (look ts) ≡ p → (q : Out (Values p.signs)) → IsAll deep_64 d end p.signs ts q → IsRule deep_64 d end n ts (turned p.tree q)
  made {n} {ts} p e q x = subst (λ p. (q : Out (Values p.signs)) → IsAll deep_64 d end p.signs ts q → IsRule deep_64 d end n ts (turned p.tree q)) e (λ q x. rule q x refl) q x

  pub ruled : {n : Rule} {ts : Tokens} (l : Look) → look ts ≡ l → (q : Out (Values (production n l).signs)) → IsAll deep_64 d end (production n l).signs ts q → IsRule deep_64 d end n ts (turned (production n l).tree q)
  ruled {n} l e q x = made (production n l) (ap (production n) e) q x

  pub made_stops : {n : Rule} {ts r : Tokens} {f : ParseFault} (p : Production n) → production n (look ts) ≡ p → IsAll deep_64 d end p.signs ts (Stop f r) → IsRule deep_64 d end n ts (Stop f r)
  made_stops {r = r} {f = f} p e x = made p e (Stop f r) x

  -- a rule that stops where the signs of what stands there stop
  pub rule_stops : {n : Rule} {ts r : Tokens} {f : ParseFault} (l : Look) → look ts ≡ l → IsAll deep_64 d end (production n l).signs ts (Stop f r) → IsRule deep_64 d end n ts (Stop f r)
  rule_stops {r = r} {f = f} l e x = ruled l e (Stop f r) x

  -- ---- one sign after the other

  pub more_of : {s : Sign} {ss : List Sign} {ts r r2 : Tokens} (v : Value s) (vs : Values ss) → IsSign deep_64 d end s ts (Whole v r) → IsAll deep_64 d end ss r (Whole vs r2) → IsAll deep_64 d end (s ∷ ss) ts (Whole (v, vs) r2)
  more_of {r = r} {r2 = r2} v vs x y = one_more v r (Whole vs r2) x y refl

  pub stop_later : {s : Sign} {ss : List Sign} {ts r r2 : Tokens} {f : ParseFault} (v : Value s) → IsSign deep_64 d end s ts (Whole v r) → IsAll deep_64 d end ss r (Stop f r2) → IsAll deep_64 d end (s ∷ ss) ts (Stop f r2)
  stop_later {r = r} {r2 = r2} {f = f} v x y = one_more v r (Stop f r2) x y refl

  pub stop_here : {s : Sign} {ss : List Sign} {ts r : Tokens} {f : ParseFault} → IsSign deep_64 d end s ts (Stop f r) → IsAll deep_64 d end (s ∷ ss) ts (Stop f r)
  stop_here {r = r} {f = f} x = one_stops f r x refl

  pub all_done : {ts : Tokens} → IsAll deep_64 d end [] ts (Whole tt ts)
  all_done = no_more refl

  -- what a rule gives, made as a value of its own
  pub built : {n : Rule} {ts r : Tokens} {t u : Tree n} → t ≡ u → IsRule deep_64 d end n ts (Whole u r) → IsRule deep_64 d end n ts (Whole t r)
  built {n} {ts} {r} e x = subst (λ t. IsRule deep_64 d end n ts (Whole t r)) (sym e) x

  -- ---- single signs

  pub there : {l : Look} (ts : Tokens) (at : ℕ) → look (drop at ts) ≡ l → IsSign deep_64 d end (Is l) (drop at ts) (Whole (place end (drop at ts)) (drop (at + 1) ts))
  there ts at e = is e (ap (Whole (place end (drop at ts))) (sym (step_on ts at)))

  pub in_one : {n : Rule} {ts : Tokens} {q : Out (Tree n)} → IsRule deep_64 (d + 1) end n ts q → IsSign deep_64 d end (Inside n) ts q
  in_one {n} {ts} {q} x = inside (subst (λ k. IsRule deep_64 k end n ts q) (add-one d) x)

  pub takes_ok : (ts : Tokens) (at : ℕ) (want : Look) → at < length ts → look (drop at ts) ≡ want → Takes d end (Is want) (place end (drop at ts)) ts at (Ok (at + 1))
  takes_ok ts at want lt e = (omega arith, omega arith, there ts at e)

  pub takes_err : (ts : Tokens) (at n : ℕ) (want : Look) → (look (drop at ts) ≡ want → ⊥) → n ≡ place end (drop at ts) → SignStops d end (Is want) (drop at ts) (Syntax n)
  takes_err ts at n want no_look e = record { rest = drop at ts; reads = is_not no_look (ap (λ n. Stop (Syntax n) (drop at ts)) e) }

  pub opens_ok : (ts : Tokens) (at : ℕ) (want : Look) → at < length ts → look (drop at ts) ≡ want → deep_64 d ≡ false → Takes d end (Opens want) (place end (drop at ts)) ts at (Ok (at + 1))
  opens_ok ts at want lt e f = (omega arith, omega arith, opens e f (ap (Whole (place end (drop at ts))) (sym (step_on ts at))))

  pub opens_err : (ts : Tokens) (at n : ℕ) (want : Look) → (look (drop at ts) ≡ want → ⊥) → n ≡ place end (drop at ts) → SignStops d end (Opens want) (drop at ts) (Syntax n)
  opens_err ts at n want no_look e = record { rest = drop at ts; reads = opens_not no_look (ap (λ n. Stop (Syntax n) (drop at ts)) e) }

  pub opens_deep : (ts : Tokens) (at n : ℕ) (want : Look) → look (drop at ts) ≡ want → deep_64 d ≡ true → n ≡ place end (drop at ts) → SignStops d end (Opens want) (drop at ts) (Deep n)
  opens_deep ts at n want e f g = record { rest = drop at ts; reads = too_deep e f (ap (λ n. Stop (Deep n) (drop at ts)) g) }
