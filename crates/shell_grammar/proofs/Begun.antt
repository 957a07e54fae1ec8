-- What is read up to a place begins the rule, and nothing that goes further than a fault does.
use Rattle.std.proofs.Common.{◌≡◌, ℕ, suc, List, [], ◌∷◌, ◌++◌, Some, refl, sym, ap, ◌∙◌, subst, append_assoc}
use Rattle.shell_lexer.specs.declared.token.Token.{Token}
use Rattle.shell_lexer.specs.declared.token.RawPart.{RawPart}
use Rattle.shell_grammar.specs.declared.look.Look.{Look}
use Rattle.shell_grammar.specs.Look.{Tokens, look, word, behind, place}
use Rattle.shell_grammar.specs.Grammar.{Rule, Sign, Is, Opens, AWord, Here, Never, Of, Inside, Tree, Value, Values, production}
use Rattle.shell_grammar.specs.Reading.{Out, Whole, Stop, turned, IsRule, rule, IsAll, no_more, one_more, one_stops, IsSign, is, is_not, opens, opens_not, too_deep, a_word, a_word_stops, no_word, here, never, of, inside}
use Rattle.shell_grammar.specs.Spelling.{no_limit}
use Rattle.shell_grammar.specs.Trees.{word_at}
use Rattle.shell_grammar.specs.Begins.{BeginsAll, begins_none, begins_first, begins_later, BeginsSign, begins_is, begins_opens, begins_word, begins_of, begins_inside, BeginsRule, begins_rule}
use Rattle.shell_grammar.proofs.Unique.{not_both, wholes, none_some, same_sign}
use Rattle.shell_lexer.proofs.PrintedBytes.{clash}

abbrev pub rest_of : {A : Type 0} → Out A → Tokens
rest_of (Whole v r) = r
rest_of (Stop f r) = r

pub rest_turned : {A B : Type 0} (f : A → B) (q : Out A) → rest_of (turned f q) ≡ rest_of q
rest_turned f (Whole v r) = refl
rest_turned f (Stop g r) = refl

-- the whole reading behind a whole turned one
pub record From {A B : Type 0} (f : A → B) (q : Out A) (v : B) (r : Tokens) : Type 0 where
  pub value : A
  pub is_whole : q ≡ Whole value r
  pub turns : f value ≡ v

pub whole_from : {A B : Type 0} (f : A → B) (q : Out A) (v : B) (r : Tokens) → turned f q ≡ Whole v r → From f q v r
whole_from f (Whole a r2) v r e = let h = wholes e in record { value = a; is_whole = ap (Whole a) h.1; turns = h.0 }
whole_from f (Stop g r2) v r e = absurd (not_both (sym e))

-- the first token alone is looked at
look_same : (u : Tokens) (t : Token) (r r2 : Tokens) → look (u ++ t ∷ r) ≡ look (u ++ t ∷ r2)
look_same [] t r r2 = refl
look_same (a ∷ u) t r r2 = refl

-- ---- what is read before a token is read before it whatever follows the token

pub record Again (d end : ℕ) (s : Sign) (ts : Tokens) (v : Value s) (t : Token) (r : Tokens) : Type 0 where
  pub front : Tokens
  pub split : ts ≡ front ++ t ∷ r
  pub again : (r2 : Tokens) → IsSign no_limit d end s (front ++ t ∷ r2) (Whole v (t ∷ r2))

pub record AgainAll (d end : ℕ) (ss : List Sign) (ts : Tokens) (v : Values ss) (t : Token) (r : Tokens) : Type 0 where
  pub front : Tokens
  pub split : ts ≡ front ++ t ∷ r
  pub again : (r2 : Tokens) → IsAll no_limit d end ss (front ++ t ∷ r2) (Whole v (t ∷ r2))

pub record AgainRule (d end : ℕ) (n : Rule) (ts : Tokens) (v : Tree n) (t : Token) (r : Tokens) : Type 0 where
  pub front : Tokens
  pub split : ts ≡ front ++ t ∷ r
  pub again : (r2 : Tokens) → IsRule no_limit d end n (front ++ t ∷ r2) (Whole v (t ∷ r2))

-- two fronts, one behind the other
again_both : {d end : ℕ} {s : Sign} {ss : List Sign} (ts r0 : Tokens) (v : Value s) (vs : Values ss) (t : Token) (r : Tokens) → ((t0 : Token) (r00 : Tokens) → r0 ≡ t0 ∷ r00 → Again d end s ts v t0 r00) → AgainAll d end ss r0 vs t r → AgainAll d end (s ∷ ss) ts (v, vs) t r
again_both {d} {end} {s} {ss} ts r0 v vs t r first later =
    elim later.front as (λ u. r0 ≡ u ++ t ∷ r → ((r2 : Tokens) → IsAll no_limit d end ss (u ++ t ∷ r2) (Whole vs (t ∷ r2))) → AgainAll d end (s ∷ ss) ts (v, vs) t r) [
      | [] ↦ λ e k. (let a = first t r e in record { front = a.front; split = a.split; again = λ r2. one_more v (t ∷ r2) (Whole vs (t ∷ r2)) (a.again r2) (k r2) refl })
      | t0 ∷ u ↦ λ e k. (let a = first t0 (u ++ t ∷ r) e in record { front = a.front ++ t0 ∷ u; split = a.split ∙ sym (append_assoc a.front (t0 ∷ u) (t ∷ r)); again = λ r2. subst (λ x. IsAll no_limit d end (s ∷ ss) x (Whole (v, vs) (t ∷ r2))) (sym (append_assoc a.front (t0 ∷ u) (t ∷ r2))) (one_more v (t0 ∷ (u ++ t ∷ r2)) (Whole vs (t ∷ r2)) (a.again (u ++ t ∷ r2)) (k r2) refl) })
    ] later.split later.again

again_is : {d end : ℕ} (s : Sign) (v : Value s) (ts : Tokens) (t : Token) (r : Tokens) → ((t0 : Token) (r0 r1 : Tokens) → ts ≡ t0 ∷ r0 → IsSign no_limit d end s (t0 ∷ r1) (Whole v r1)) → behind ts ≡ t ∷ r → Again d end s ts v t r
again_is s v [] t r make e = absurd (cc e)
again_is s v (a ∷ ts) t r make e = record { front = a ∷ []; split = ap (λ x. a ∷ x) e; again = λ r2. make a ts (t ∷ r2) refl }

again_of : {d end : ℕ} {n : Rule} {ts : Tokens} {v : Tree n} {t : Token} {r : Tokens} → AgainRule d end n ts v t r → Again d end (Of n) ts v t r
again_of a = record { front = a.front; split = a.split; again = λ r2. of (a.again r2) }

again_inside : {d end : ℕ} {n : Rule} {ts : Tokens} {v : Tree n} {t : Token} {r : Tokens} → AgainRule (suc d) end n ts v t r → Again d end (Inside n) ts v t r
again_inside a = record { front = a.front; split = a.split; again = λ r2. inside (a.again r2) }

again_here : {d end : ℕ} (v : ℕ) (ts : Tokens) (t : Token) (r : Tokens) → Whole (place end ts) ts ≡ Whole v (t ∷ r) → Again d end Here ts v t r
again_here {d} {end} v ts t r e =
    let h = wholes e in
    record { front = []; split = h.1; again = λ r2. here (ap (λ n. Whole n (t ∷ r2)) (sym h.0 ∙ ap (place end) h.1)) }

again_ruled : {d end : ℕ} {n : Rule} (ts : Tokens) (v : Tree n) (t : Token) (r : Tokens) (v1 : Values (production n (look ts)).signs) → (production n (look ts)).tree v1 ≡ v → AgainAll d end (production n (look ts)).signs ts v1 t r → AgainRule d end n ts v t r
again_ruled {d} {end} {n} ts v t r v1 e a =
    subst (λ ts. (v1 : Values (production n (look ts)).signs) → (production n (look ts)).tree v1 ≡ v → ((r2 : Tokens) → IsAll no_limit d end (production n (look ts)).signs (a.front ++ t ∷ r2) (Whole v1 (t ∷ r2))) → AgainRule d end n ts v t r) (sym a.split)
    (λ v1 e k. record { front = a.front; split = refl; again = λ r2. ruled_again a.front r2 v1 e (k r2) }) v1 e a.again
  where
    ruled_again : (u : Tokens) (r2 : Tokens) (v1 : Values (production n (look (u ++ t ∷ r))).signs) → (production n (look (u ++ t ∷ r))).tree v1 ≡ v → IsAll no_limit d end (production n (look (u ++ t ∷ r))).signs (u ++ t ∷ r2) (Whole v1 (t ∷ r2)) → IsRule no_limit d end n (u ++ t ∷ r2) (Whole v (t ∷ r2))
    ruled_again [] r2 v1 e k = rule (Whole v1 (t ∷ r2)) k (ap (λ v. Whole v (t ∷ r2)) (sym e))
    ruled_again (a ∷ u) r2 v1 e k = rule (Whole v1 (t ∷ r2)) k (ap (λ v. Whole v (t ∷ r2)) (sym e))

mutual
  pub again_rule : {d end : ℕ} {n : Rule} {ts : Tokens} {q : Out (Tree n)} → IsRule no_limit d end n ts q → (v : Tree n) (t : Token) (r : Tokens) → q ≡ Whole v (t ∷ r) → AgainRule d end n ts v t r
  again_rule {n = n} {ts = ts} (rule q1 x e) v t r h =
      let f = whole_from (production n (look ts)).tree q1 v (t ∷ r) (sym e ∙ h) in
      again_ruled ts v t r f.value f.turns (again_all x f.value t r f.is_whole)

  pub again_all : {d end : ℕ} {ss : List Sign} {ts : Tokens} {q : Out (Values ss)} → IsAll no_limit d end ss ts q → (v : Values ss) (t : Token) (r : Tokens) → q ≡ Whole v (t ∷ r) → AgainAll d end ss ts v t r
  again_all (no_more e) v t r h = record { front = []; split = (wholes (sym e ∙ h)).1; again = λ r2. no_more refl }
  again_all {d = d} {end = end} {ts = ts} (one_more {s = s} {ss = ss} v0 r0 q1 s0 x e) v t r h =
      let f = whole_from (λ vs. (v0, vs)) q1 v (t ∷ r) (sym e ∙ h) in
      subst (λ v. AgainAll d end (s ∷ ss) ts v t r) f.turns (again_both ts r0 v0 f.value t r (λ t0 r00 g. again_sign s0 v0 t0 r00 (ap (Whole v0) g)) (again_all x f.value t r f.is_whole))
  again_all (one_stops fault r0 s0 e) v t r h = absurd (not_both (sym (sym e ∙ h)))

  pub again_sign : {d end : ℕ} {s : Sign} {ts : Tokens} {q : Out (Value s)} → IsSign no_limit d end s ts q → (v : Value s) (t : Token) (r : Tokens) → q ≡ Whole v (t ∷ r) → Again d end s ts v t r
  again_sign {d} {end} {ts = ts} (is {l = l} k e) v t r h =
      let w = wholes (sym e ∙ h) in
      again_is (Is l) v ts t r (λ t0 r0 r1 g. is (ap look (sym g) ∙ k) (ap (λ v. Whole v r1) (sym w.0 ∙ ap (place end) g))) w.1
  again_sign (is_not k e) v t r h = absurd (not_both (sym (sym e ∙ h)))
  again_sign {d} {end} {ts = ts} (opens {l = l} k g e) v t r h =
      let w = wholes (sym e ∙ h) in
      again_is (Opens l) v ts t r (λ t0 r0 r1 m. opens (ap look (sym m) ∙ k) g (ap (λ v. Whole v r1) (sym w.0 ∙ ap (place end) m))) w.1
  again_sign (opens_not k e) v t r h = absurd (not_both (sym (sym e ∙ h)))
  again_sign (too_deep k g e) v t r h = absurd (not_both (sym (sym e ∙ h)))
  again_sign {d} {end} {ts = ts} (a_word raws ps w x e) v t r h =
      let k = wholes (sym e ∙ h) in
      again_is AWord v ts t r (λ t0 r0 r1 m. a_word raws ps (ap word (sym m) ∙ w) x (ap (λ v. Whole v r1) (sym k.0 ∙ ap (λ ts. word_at (place end ts) ps) m))) k.1
  again_sign (a_word_stops raws fault w x e) v t r h = absurd (not_both (sym (sym e ∙ h)))
  again_sign (no_word w e) v t r h = absurd (not_both (sym (sym e ∙ h)))
  again_sign {ts = ts} (here e) v t r h = again_here v ts t r (sym e ∙ h)
  again_sign (never e) v t r h = absurd (not_both (sym (sym e ∙ h)))
  again_sign (of x) v t r h = again_of (again_rule x v t r h)
  again_sign (inside x) v t r h = again_inside (again_rule x v t r h)

-- ---- what is read up to the rest begins the rule

pub record Begun (d end : ℕ) (s : Sign) (ts rest : Tokens) : Type 0 where
  pub front : Tokens
  pub split : ts ≡ front ++ rest
  pub level : ℕ
  pub begins : (ss : List Sign) → BeginsAll end d (s ∷ ss) front level

pub record BegunAll (d end : ℕ) (ss : List Sign) (ts rest : Tokens) : Type 0 where
  pub front : Tokens
  pub split : ts ≡ front ++ rest
  pub level : ℕ
  pub begins : BeginsAll end d ss front level

begun_none : {d end : ℕ} (s : Sign) (ts : Tokens) → Begun d end s ts ts
begun_none {d} s ts = record { front = []; split = refl; level = d; begins = λ ss. begins_none refl refl }

begun_one : {d end l : ℕ} (s : Sign) (ts : Tokens) → ((t : Token) (r : Tokens) → ts ≡ t ∷ r → BeginsSign end d s (t ∷ []) l) → Begun d end s ts (behind ts)
begun_one {d} s [] make = begun_none s []
begun_one {l = l} s (t ∷ ts) make = record { front = t ∷ []; split = refl; level = l; begins = λ ss. begins_first (make t ts refl) }

-- the first sign is whole; where the others take no token, it begins them all
begun_both : {d end : ℕ} {s : Sign} {ss : List Sign} (ts r0 rest : Tokens) (v : Value s) → Begun d end s ts r0 → ((t0 : Token) (r00 : Tokens) → r0 ≡ t0 ∷ r00 → Again d end s ts v t0 r00) → BegunAll d end ss r0 rest → BegunAll d end (s ∷ ss) ts rest
begun_both {d} {end} {s} {ss} ts r0 rest v first again later =
    elim later.front as (λ u. r0 ≡ u ++ rest → BeginsAll end d ss u later.level → BegunAll d end (s ∷ ss) ts rest) [
      | [] ↦ λ e k. record { front = first.front; split = first.split ∙ ap (λ r. first.front ++ r) e; level = first.level; begins = first.begins ss }
      | t0 ∷ u ↦ λ e k. (let a = again t0 (u ++ rest) e in record { front = a.front ++ t0 ∷ u; split = a.split ∙ sym (append_assoc a.front (t0 ∷ u) rest); level = later.level; begins = behind_first (a.front) t0 u k (a.again u) })
    ] later.split later.begins
  where
    behind_first : (f : Tokens) (t0 : Token) (u : Tokens) → BeginsAll end d ss (t0 ∷ u) later.level → IsSign no_limit d end s (f ++ t0 ∷ u) (Whole v (t0 ∷ u)) → BeginsAll end d (s ∷ ss) (f ++ t0 ∷ u) later.level
    behind_first f t0 u k x = begins_later v t0 u x k

begun_of : {d end : ℕ} (n : Rule) (ts rest : Tokens) → BegunAll d end (production n (look ts)).signs ts rest → Begun d end (Of n) ts rest
begun_of {d} {end} n ts rest a =
    elim a.front as (λ u. ts ≡ u ++ rest → BeginsAll end d (production n (look ts)).signs u a.level → Begun d end (Of n) ts rest) [
      | [] ↦ λ e k. record { front = []; split = e; level = d; begins = λ ss. begins_none refl refl }
      | t ∷ u ↦ λ e k. record { front = t ∷ u; split = e; level = a.level; begins = λ ss. begins_first (begins_of (begins_rule (subst (λ x. BeginsAll end d (production n (look x)).signs (t ∷ u) a.level) e k))) }
    ] a.split a.begins

begun_inside : {d end : ℕ} (n : Rule) (ts rest : Tokens) → BegunAll (suc d) end (production n (look ts)).signs ts rest → Begun d end (Inside n) ts rest
begun_inside {d} {end} n ts rest a =
    elim a.front as (λ u. ts ≡ u ++ rest → BeginsAll end (suc d) (production n (look ts)).signs u a.level → Begun d end (Inside n) ts rest) [
      | [] ↦ λ e k. record { front = []; split = e; level = d; begins = λ ss. begins_none refl refl }
      | t ∷ u ↦ λ e k. record { front = t ∷ u; split = e; level = a.level; begins = λ ss. begins_first (begins_inside (begins_rule (subst (λ x. BeginsAll end (suc d) (production n (look x)).signs (t ∷ u) a.level) e k))) }
    ] a.split a.begins

moved : {d end : ℕ} {s : Sign} {ts : Tokens} {A : Type 0} (q q2 : Out A) → q ≡ q2 → Begun d end s ts (rest_of q2) → Begun d end s ts (rest_of q)
moved {d} {end} {s} {ts} q q2 e b = subst (Begun d end s ts) (ap rest_of (sym e)) b

moved_all : {d end : ℕ} {ss : List Sign} {ts : Tokens} {A : Type 0} (q : Out A) (r : Tokens) → rest_of q ≡ r → BegunAll d end ss ts r → BegunAll d end ss ts (rest_of q)
moved_all {d} {end} {ss} {ts} q r e b = subst (BegunAll d end ss ts) (sym e) b

mutual
  pub begun_rule : {d end : ℕ} {n : Rule} {ts : Tokens} {q : Out (Tree n)} → IsRule no_limit d end n ts q → BegunAll d end (production n (look ts)).signs ts (rest_of q)
  begun_rule {n = n} {ts = ts} {q = q} (rule q1 x e) = moved_all q (rest_of q1) (ap rest_of e ∙ rest_turned (production n (look ts)).tree q1) (begun_all x)

  pub begun_all : {d end : ℕ} {ss : List Sign} {ts : Tokens} {q : Out (Values ss)} → IsAll no_limit d end ss ts q → BegunAll d end ss ts (rest_of q)
  begun_all {d} {ts = ts} {q = q} (no_more e) = moved_all q ts (ap rest_of e) (record { front = []; split = refl; level = d; begins = begins_none refl refl })
  begun_all {ts = ts} {q = q} (one_more v r q1 s x e) =
      moved_all q (rest_of q1) (ap rest_of e ∙ rest_turned (λ vs. (v, vs)) q1) (begun_both ts r (rest_of q1) v (begun_sign s) (λ t0 r0 g. again_sign s v t0 r0 (ap (Whole v) g)) (begun_all x))
  begun_all {ss = ss} {q = q} (one_stops {ss = others} fault r s e) =
      let b = begun_sign s in
      moved_all q r (ap rest_of e) (record { front = b.front; split = b.split; level = b.level; begins = b.begins others })

  pub begun_sign : {d end : ℕ} {s : Sign} {ts : Tokens} {q : Out (Value s)} → IsSign no_limit d end s ts q → Begun d end s ts (rest_of q)
  begun_sign {q = q} (is k e) = moved q _ e (begun_one (Is _) _ (λ t r g. begins_is t refl (ap look (sym g) ∙ k) refl))
  begun_sign {q = q} (is_not k e) = moved q _ e (begun_none (Is _) _)
  begun_sign {q = q} (opens k g e) = moved q _ e (begun_one (Opens _) _ (λ t r m. begins_opens t refl (ap look (sym m) ∙ k) refl))
  begun_sign {q = q} (opens_not k e) = moved q _ e (begun_none (Opens _) _)
  begun_sign {q = q} (too_deep k g e) = moved q _ e (begun_none (Opens _) _)
  begun_sign {q = q} (a_word raws ps w x e) = moved q _ e (begun_one AWord _ (λ t r m. begins_word t raws refl (ap word (sym m) ∙ w) refl))
  begun_sign {q = q} (a_word_stops raws fault w x e) = moved q _ e (begun_one AWord _ (λ t r m. begins_word t raws refl (ap word (sym m) ∙ w) refl))
  begun_sign {q = q} (no_word w e) = moved q _ e (begun_none AWord _)
  begun_sign {q = q} (here e) = moved q _ e (begun_none Here _)
  begun_sign {q = q} (never e) = moved q _ e (begun_none Never _)
  begun_sign {q = q} (of x) = begun_of _ _ (rest_of q) (begun_rule x)
  begun_sign {q = q} (inside x) = begun_inside _ _ (rest_of q) (begun_rule x)

-- ---- what begins the rule is read to its end

pub record Tail (ts rest : Tokens) : Type 0 where
  pub front : Tokens
  pub split : ts ≡ front ++ rest

tail_tail : {a b c : Tokens} → Tail a b → Tail b c → Tail a c
tail_tail {c = c} x y = record { front = x.front ++ y.front; split = x.split ∙ ap (λ r. x.front ++ r) y.split ∙ sym (append_assoc x.front y.front c) }

tail_self : {A : Type 0} (q : Out A) (ts : Tokens) → rest_of q ≡ ts → Tail ts (rest_of q)
tail_self q ts e = record { front = []; split = sym e }

tail_moved : {A : Type 0} {ts : Tokens} (q : Out A) (r : Tokens) → rest_of q ≡ r → Tail ts r → Tail ts (rest_of q)
tail_moved {ts = ts} q r e x = subst (Tail ts) (sym e) x

tail_all : {d end : ℕ} {ss : List Sign} {ts : Tokens} {q : Out (Values ss)} → IsAll no_limit d end ss ts q → Tail ts (rest_of q)
tail_all x = let b = begun_all x in record { front = b.front; split = b.split }

tail_rule : {d end : ℕ} {n : Rule} {ts : Tokens} {q : Out (Tree n)} → IsRule no_limit d end n ts q → Tail ts (rest_of q)
tail_rule x = let b = begun_rule x in record { front = b.front; split = b.split }

-- a sign is read to the end y of its tokens, and the others from there on
late_first : {d end : ℕ} {s : Sign} {ss : List Sign} {ts y : Tokens} {q : Out (Values (s ∷ ss))} → ((q : Out (Value s)) → IsSign no_limit d end s ts q → Tail y (rest_of q)) → IsAll no_limit d end (s ∷ ss) ts q → Tail y (rest_of q)
late_first {q = q} h (one_more v r q1 s x e) = tail_moved q (rest_of q1) (ap rest_of e ∙ rest_turned (λ vs. (v, vs)) q1) (tail_tail (h (Whole v r) s) (tail_all x))
late_first {q = q} h (one_stops fault r s e) = tail_moved q r (ap rest_of e) (h (Stop fault r) s)

late_later : {d end : ℕ} {s : Sign} {ss : List Sign} {ts y : Tokens} {q : Out (Values (s ∷ ss))} (v : Value s) (r : Tokens) → IsSign no_limit d end s ts (Whole v r) → ((q : Out (Values ss)) → IsAll no_limit d end ss r q → Tail y (rest_of q)) → IsAll no_limit d end (s ∷ ss) ts q → Tail y (rest_of q)
late_later {d} {end} {ss = ss} {q = q} v r s0 h (one_more v2 r2 q1 s x e) =
    tail_moved q (rest_of q1) (ap rest_of e ∙ rest_turned (λ vs. (v2, vs)) q1) (h q1 (subst (λ r. IsAll no_limit d end ss r q1) (wholes (same_sign no_limit s s0)).1 x))
late_later v r s0 h (one_stops fault r2 s e) = absurd (not_both (same_sign no_limit s0 s))

late_ruled : {d end : ℕ} {n : Rule} (x y : Tokens) {q : Out (Tree n)} → ((q : Out (Values (production n (look x)).signs)) → IsAll no_limit d end (production n (look x)).signs (x ++ y) q → Tail y (rest_of q)) → IsRule no_limit d end n (x ++ y) q → Tail y (rest_of q)
late_ruled [] y h r = tail_rule r
late_ruled {n = n} (t ∷ x) y {q = q} h (rule q1 a e) = tail_moved q (rest_of q1) (ap rest_of e ∙ rest_turned (production n (look (t ∷ x))).tree q1) (h q1 a)

-- the same tokens, in two pieces
joined : (ts u : Tokens) (t : Token) (rest y : Tokens) → ts ≡ u ++ t ∷ rest → u ++ t ∷ (rest ++ y) ≡ ts ++ y
joined ts u t rest y e = sym (append_assoc u (t ∷ rest) y) ∙ ap (λ x. x ++ y) (sym e)

late_one : {d end : ℕ} {s : Sign} (x : Tokens) (t : Token) (y : Tokens) {q : Out (Value s)} → x ≡ t ∷ [] → ((q : Out (Value s)) → IsSign no_limit d end s (t ∷ y) q → rest_of q ≡ y) → IsSign no_limit d end s (x ++ y) q → Tail y (rest_of q)
late_one {d} {end} {s} x t y {q = q} e h k = tail_self q y (h q (subst (λ x. IsSign no_limit d end s (x ++ y) q) e k))

is_late : {d end : ℕ} {what : Look} (t : Token) (y : Tokens) → look (t ∷ []) ≡ what → (q : Out (Value (Is what))) → IsSign no_limit d end (Is what) (t ∷ y) q → rest_of q ≡ y
is_late t y k q (is m e) = ap rest_of e
is_late t y k q (is_not m e) = absurd (m k)

opens_late : {d end : ℕ} {what : Look} (t : Token) (y : Tokens) → look (t ∷ []) ≡ what → (q : Out (Value (Opens what))) → IsSign no_limit d end (Opens what) (t ∷ y) q → rest_of q ≡ y
opens_late t y k q (opens m f e) = ap rest_of e
opens_late t y k q (opens_not m e) = absurd (m k)
opens_late t y k q (too_deep m f e) = absurd (clash refl f)

word_late : {d end : ℕ} (t : Token) (y : Tokens) (raws : List RawPart) → word (t ∷ []) ≡ Some raws → (q : Out (Value AWord)) → IsSign no_limit d end AWord (t ∷ y) q → rest_of q ≡ y
word_late t y raws k q (a_word raws2 ps w x e) = ap rest_of e
word_late t y raws k q (a_word_stops raws2 fault w x e) = ap rest_of e
word_late t y raws k q (no_word w e) = absurd (none_some w k)

of_rule : {d end : ℕ} {n : Rule} {ts y : Tokens} {q : Out (Tree n)} → ((q : Out (Tree n)) → IsRule no_limit d end n ts q → Tail y (rest_of q)) → IsSign no_limit d end (Of n) ts q → Tail y (rest_of q)
of_rule {q = q} h (of x) = h q x

inside_rule : {d end : ℕ} {n : Rule} {ts y : Tokens} {q : Out (Tree n)} → ((q : Out (Tree n)) → IsRule no_limit (suc d) end n ts q → Tail y (rest_of q)) → IsSign no_limit d end (Inside n) ts q → Tail y (rest_of q)
inside_rule {q = q} h (inside x) = h q x

mutual
  pub late_all : {d end l : ℕ} {ss : List Sign} {x : Tokens} → BeginsAll end d ss x l → (y : Tokens) (q : Out (Values ss)) → IsAll no_limit d end ss (x ++ y) q → Tail y (rest_of q)
  late_all {d} {end} {ss = ss} (begins_none e g) y q k = tail_all (subst (λ x. IsAll no_limit d end ss (x ++ y) q) e k)
  late_all (begins_first b) y q k = late_first (late_sign b y) k
  late_all {d} {end} {x = x} (begins_later {s = s} v t rest s0 b) y q k =
      let a = again_sign s0 v t rest refl in
      late_later v (t ∷ (rest ++ y)) (subst (λ ts. IsSign no_limit d end s ts (Whole v (t ∷ (rest ++ y)))) (joined x a.front t rest y a.split) (a.again (rest ++ y))) (late_all b y) k

  pub late_sign : {d end l : ℕ} {s : Sign} {x : Tokens} → BeginsSign end d s x l → (y : Tokens) (q : Out (Value s)) → IsSign no_limit d end s (x ++ y) q → Tail y (rest_of q)
  late_sign {x = x} (begins_is t e k g) y q m = late_one x t y e (is_late t y (ap look (sym e) ∙ k)) m
  late_sign {x = x} (begins_opens t e k g) y q m = late_one x t y e (opens_late t y (ap look (sym e) ∙ k)) m
  late_sign {x = x} (begins_word t raws e k g) y q m = late_one x t y e (word_late t y raws (ap word (sym e) ∙ k)) m
  late_sign (begins_of b) y q m = of_rule (late_rule b y) m
  late_sign (begins_inside b) y q m = inside_rule (late_rule b y) m

  pub late_rule : {d end l : ℕ} {n : Rule} {x : Tokens} → BeginsRule end d n x l → (y : Tokens) (q : Out (Tree n)) → IsRule no_limit d end n (x ++ y) q → Tail y (rest_of q)
  late_rule {x = x} (begins_rule b) y q k = late_ruled x y (late_all b y) k
