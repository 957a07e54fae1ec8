-- How the texts of constructs go through the reading of nested text: which parts they add.
use Rattle.std.proofs.Common.{◌≡◌, ℕ, ◌-◌, ◌<◌, ◌^◌, Bool, true, List, [], ◌∷◌, ◌++◌, length, take, get_or, codes, decimal, refl, sym, ap, ◌∙◌, append_assoc, append-nil, arith}
use Rattle.std.specs.Prelude.{not, ◌&&◌, ◌==◌, if◌then◌else◌}
use Rattle.std.specs.List.{list_all}
use Rattle.std.proofs.lemmas.Bool.{and_parts, and_from, ne_eqb, not-true}
use Rattle.std.proofs.lemmas.Fmt.{decimal_nonempty}
use Rattle.shown_texts.specs.Show.{is_shown, show, are_bytes}
use Rattle.script_names.specs.ShellNames.{is_digit}
use Rattle.shown_texts.proofs.Lists.{all_weaker}
use Rattle.shown_texts.proofs.Spelled.{show_shown, show_long}
use Rattle.shown_texts.proofs.Numerals.{decimal_digits}
use Rattle.colis_reader.proofs.Lasts.{last_length, last_here, before_last}
use Rattle.colis_reader.specs.declared.nest.Nest.{Nest}
use Rattle.colis_reader.specs.declared.nest.Nest.TheVariants.{Node}
use Rattle.colis_reader.specs.Nesting.{Reading, reading, ended, opened, around, closed, step, run}

-- no word is begun
abbrev pub fresh : List Nest → List (List Nest) → Reading
fresh top up = reading [] top up

-- the text adds these parts, where no word is begun before it
abbrev pub Fills : List ℕ → List Nest → Type 0
Fills text ns = (top : List Nest) (up : List (List Nest)) → ended (run (fresh top up) text) ≡ fresh (top ++ ns) up

-- the text adds these parts, whatever stands before it
abbrev pub Adds : List ℕ → List Nest → Type 0
Adds text ns = (r : Reading) (top : List Nest) (up : List (List Nest)) → ended r ≡ fresh top up → ended (run r text) ≡ fresh (top ++ ns) up

-- the text begins a list, which has these members so far
abbrev pub Opens : List ℕ → List Nest → Type 0
Opens text ns = (top : List Nest) (up : List (List Nest)) → ended (run (fresh top up) text) ≡ fresh ns (up ++ top ∷ [])

-- the same, and ends in a space or with the parenthesis
abbrev pub Begins : List ℕ → List Nest → Type 0
Begins text ns = (top : List Nest) (up : List (List Nest)) → run (fresh top up) text ≡ fresh ns (up ++ top ∷ [])

pub run_on : (r : Reading) (a b : List ℕ) → run r (a ++ b) ≡ run (run r a) b
run_on r [] b = refl
run_on r (x ∷ a) b = run_on (step r x) a b

-- ---- members, one behind the other

pub fills_none : Fills [] []
fills_none top up = ap (λ l. fresh l up) (sym (append-nil top))

pub adds_none : Adds [] []
adds_none r top up e = e ∙ ap (λ l. fresh l up) (sym (append-nil top))

pub adds_space : (text : List ℕ) (ns : List Nest) → Fills text ns → Adds (32 ∷ text) ns
adds_space text ns f r top up e = ap (λ q. ended (run q text)) e ∙ f top up

pub adds_both : (a b : List ℕ) (ns ms : List Nest) → Adds a ns → Adds b ms → Adds (a ++ b) (ns ++ ms)
adds_both a b ns ms f g r top up e =
    ap ended (run_on r a b) ∙ g (run r a) (top ++ ns) up (f r top up e) ∙ ap (λ l. fresh l up) (append_assoc top ns ms)

pub fills_both : (a b : List ℕ) (ns ms : List Nest) → Fills a ns → Adds b ms → Fills (a ++ b) (ns ++ ms)
fills_both a b ns ms f g top up =
    ap ended (run_on (fresh top up) a b) ∙ g (run (fresh top up) a) (top ++ ns) up (f top up) ∙ ap (λ l. fresh l up) (append_assoc top ns ms)

-- ---- a list, member by member

pub blank : (a : List ℕ) (ns : List Nest) → Opens a ns → Begins (a ++ codes " ") ns
blank a ns f top up = run_on (fresh top up) a (32 ∷ []) ∙ f top up

pub filled : (a t : List ℕ) (ns ms : List Nest) → Begins a ns → Fills t ms → Opens (a ++ t) (ns ++ ms)
filled a t ns ms f g top up =
    ap ended (run_on (fresh top up) a t) ∙ ap (λ q. ended (run q t)) (f top up) ∙ g ns (up ++ top ∷ [])

pub added : (a t : List ℕ) (ns ms : List Nest) → Opens a ns → Adds t ms → Opens (a ++ t) (ns ++ ms)
added a t ns ms f g top up = ap ended (run_on (fresh top up) a t) ∙ g (run (fresh top up) a) ns (up ++ top ∷ []) (f top up)

around_last : (up : List (List Nest)) (top : List Nest) → around (up ++ top ∷ []) ≡ top
around_last up top = ap (λ k. get_or (up ++ top ∷ []) k []) (last_length up top) ∙ last_here up top []

outer_last : (up : List (List Nest)) (top : List Nest) → take (length (up ++ top ∷ []) - 1) (up ++ top ∷ []) ≡ up
outer_last up top = ap (λ k. take k (up ++ top ∷ [])) (last_length up top) ∙ before_last up top

pub closed_at : (ns top : List Nest) (up : List (List Nest)) → closed (fresh ns (up ++ top ∷ [])) ≡ fresh (top ++ Node [] ns ∷ []) up
closed_at ns top up =
    ap (λ l. fresh (l ++ Node [] ns ∷ []) (take (length (up ++ top ∷ []) - 1) (up ++ top ∷ []))) (around_last up top)
    ∙ ap (λ l. fresh (top ++ Node [] ns ∷ []) l) (outer_last up top)

-- the end of a list
pub shut : (a : List ℕ) (ns : List Nest) → Opens a ns → Fills (a ++ codes ")") (Node [] ns ∷ [])
shut a ns f top up =
    ap ended (run_on (fresh top up) a (41 ∷ [])) ∙ ap (λ q. ended (closed q)) (f top up) ∙ ap ended (closed_at ns top up)

-- a list within a list, and the space behind it
pub within : (a t : List ℕ) (ns ms : List Nest) → Opens a ns → Fills t ms → Begins (((a ++ codes " (") ++ t) ++ codes ") ") (ns ++ Node [] ms ∷ [])
within a t ns ms f g top up =
    let b = a ++ codes " (" in
    let begun : run (fresh top up) b ≡ fresh [] ((up ++ top ∷ []) ++ ns ∷ []) = run_on (fresh top up) a (codes " (") ∙ ap (λ q. opened (ended q)) (f top up) in
    let inside : ended (run (fresh top up) (b ++ t)) ≡ fresh ms ((up ++ top ∷ []) ++ ns ∷ []) =
    ap ended (run_on (fresh top up) b t) ∙ ap (λ q. ended (run q t)) begun ∙ g [] ((up ++ top ∷ []) ++ ns ∷ []) in
    run_on (fresh top up) (b ++ t) (codes ") ") ∙ ap (λ q. ended (closed q)) inside ∙ ap ended (closed_at ms ns (up ++ top ∷ []))

-- a list at the beginning of a list, and the space behind it
pub within_first : (t : List ℕ) (ms : List Nest) → Fills t ms → Begins ((codes "((" ++ t) ++ codes ") ") (Node [] ms ∷ [])
within_first t ms g top up =
    let inside : ended (run (fresh top up) (codes "((" ++ t)) ≡ fresh ms ((up ++ top ∷ []) ++ [] ∷ []) =
    ap ended (run_on (fresh top up) (codes "((") t) ∙ g [] ((up ++ top ∷ []) ++ [] ∷ []) in
    run_on (fresh top up) (codes "((" ++ t) (codes ") ") ∙ ap (λ q. ended (closed q)) inside ∙ ap ended (closed_at ms [] (up ++ top ∷ []))

-- ---- words

-- a byte that may stand in a word
abbrev pub is_letter : ℕ → Bool
is_letter b = not (b == 32) && (not (b == 40) && not (b == 41))

letter : (b : ℕ) (r : Reading) → is_letter b ≡ true → step r b ≡ reading (r.word ++ b ∷ []) r.top r.up
letter b r h =
    let k = and_parts (not (b == 32)) (not (b == 40) && not (b == 41)) h in
    let m = and_parts (not (b == 40)) (not (b == 41)) k.1 in
    let kept = reading (r.word ++ b ∷ []) r.top r.up in
    ap (λ t. if t then ended r else (if b == 40 then opened (ended r) else (if b == 41 then closed (ended r) else kept))) (not-true (b == 32) k.0)
    ∙ ap (λ t. if t then opened (ended r) else (if b == 41 then closed (ended r) else kept)) (not-true (b == 40) m.0)
    ∙ ap (λ t. if t then closed (ended r) else kept) (not-true (b == 41) m.1)

letters : (word text : List ℕ) (top : List Nest) (up : List (List Nest)) → list_all is_letter text ≡ true → run (reading word top up) text ≡ reading (word ++ text) top up
letters word [] top up h = ap (λ l. reading l top up) (sym (append-nil word))
letters word (b ∷ text) top up h =
    let k = and_parts (is_letter b) (list_all is_letter text) h in
    ap (λ q. run q text) (letter b (reading word top up) k.0) ∙ letters (word ++ b ∷ []) text top up k.1
    ∙ ap (λ l. reading l top up) (append_assoc word (b ∷ []) text)

-- a word with a byte
pub word_fills : (word : List ℕ) → 0 < length word → list_all is_letter word ≡ true → Fills word (Node word [] ∷ [])
word_fills [] long h top up = absurd (omega (arith, long))
word_fills (b ∷ word) long h top up =
    ap ended (letters [] (b ∷ word) top up h)
    ∙ ap (λ t. fresh (if t then top else top ++ Node (b ∷ word) [] ∷ []) up) (ne_eqb (length (b ∷ word)) 0 (λ e. omega (arith, e)))

pub shown_letter : (b : ℕ) → is_shown b ≡ true → is_letter b ≡ true
shown_letter b h = grind (arith)

digit_letter : (b : ℕ) → is_digit b ≡ true → is_letter b ≡ true
digit_letter b h = grind (arith)

-- bytes, by their spelling
pub show_fills : (bytes : List ℕ) → are_bytes bytes ≡ true → Fills (show bytes) (Node (show bytes) [] ∷ [])
show_fills bytes h = word_fills (show bytes) (show_long bytes) (all_weaker is_shown is_letter shown_letter (show bytes) (show_shown bytes h))

-- the word of a string of bytes
pub literal_fills : (bytes : List ℕ) → are_bytes bytes ≡ true → Fills (codes "=" ++ show bytes) (Node (codes "=" ++ show bytes) [] ∷ [])
literal_fills bytes h =
    word_fills (61 ∷ show bytes) (omega arith)
    (and_from true (list_all is_letter (show bytes)) refl (all_weaker is_shown is_letter shown_letter (show bytes) (show_shown bytes h)))

-- a number
pub number_fills : (n : ℕ) → n < 2 ^ 64 → Fills (decimal n) (Node (decimal n) [] ∷ [])
number_fills n small = word_fills (decimal n) (decimal_nonempty n small) (all_weaker is_digit is_letter digit_letter (decimal n) (decimal_digits n small))
