-- The text of a program is read as the program; what a text that was refused, and one that was read, says of all programs.
use Rattle.std.proofs.Common.{◌≡◌, Bool, true, false, List, [], ◌∷◌, ◌++◌, Option, Some, None, Ok, Err, Result, map, codes, refl, sym, ap, ◌∙◌}
use Rattle.std.specs.Prelude.{◌&&◌, if◌then◌else◌}
use Rattle.std.specs.List.{flat_map, list_all}
use Rattle.std.specs.Str.{bytes_eq}
use Rattle.std.proofs.lemmas.Bool.{and_parts}
use Rattle.shown_texts.specs.Show.{show, are_bytes}
use Rattle.colis_syntax.specs.declared.syntax.Stmt.{Stmt}
use Rattle.colis_syntax.specs.declared.def.Def.{Def}
use Rattle.colis_syntax.specs.WellFormed.{ProgramParts, is_well_formed, program_of}
use Rattle.colis_syntax.specs.ProgramText.{Text, spaced, stmt_text, def_text, program_head, program_text, program_text_of}
use Rattle.colis_reader.specs.declared.nest.Nest.{Nest}
use Rattle.colis_reader.specs.declared.nest.Nest.TheVariants.{Node}
use Rattle.colis_reader.specs.declared.fault.ProgramFault.{ProgramFault}
use Rattle.colis_reader.specs.declared.fault.ProgramFault.TheVariants.{Bad, Memory}
use Rattle.colis_reader.specs.Nesting.{step, closed, nests_of}
use Rattle.colis_reader.specs.Readings.{read, reads, member, but_last, last, node_read, parts_of}
use Rattle.colis_reader.specs.Representable.{stmt_representable, def_representable, is_program}
use Rattle.colis_reader.specs.ReadsProgram.{HasText, ReadsProgram, IsReadAs}
use Rattle.colis_reader.proofs.ReadNode.{word_node, def_node, program_node}
use Rattle.colis_reader.proofs.Fills.{Fills, Adds, Opens, fresh, run_on, closed_at, adds_none, adds_space, adds_both, added}
use Rattle.colis_reader.proofs.Shapes.{leaf, next, def_fills}
use Rattle.colis_reader.proofs.PartsKnown.{name_back}
use Rattle.colis_reader.proofs.Known.{stmt_known, but_last_read, last_read}

abbrev a_def : Text → Stmt → Def
a_def name body = record { name = name; body = body }

def_known : (d : Def) → def_representable d ≡ true → (n : Nest) × Fills (def_text d) (n ∷ []) × ((read n).def ≡ d)
unfolding node_read
def_known d h =
    let k = and_parts (are_bytes d.name) (stmt_representable d.body) h in
    let a = stmt_known d.body k.1 in
    let ns = leaf (codes "def") ∷ leaf (show d.name) ∷ a.0 ∷ [] in (
      Node [] ns,
      def_fills d.name (stmt_text d.body) a.0 k.0 a.1,
      def_node [] ns ∙ ap (λ l. a_def l (read a.0).stmt) (name_back d.name k.0) ∙ ap (a_def d.name) a.2,
    )

abbrev defs_text : List Def → Text
defs_text defs = flat_map (λ def. spaced (def_text def)) defs

defs_added : (defs : List Def) → list_all def_representable defs ≡ true
    → (ns : List Nest) × Adds (defs_text defs) ns × (map (λ r. r.def) (reads ns) ≡ defs)
defs_added [] h = ([], adds_none, refl)
defs_added (d ∷ defs) h =
    let k = and_parts (def_representable d) (list_all def_representable defs) h in
    let one = def_known d k.0 in
    let more = defs_added defs k.1 in (
      one.0 ∷ more.0,
      adds_both (32 ∷ def_text d) (defs_text defs) (one.0 ∷ []) more.0 (adds_space (def_text d) (one.0 ∷ []) one.1) more.1,
      ap (λ x. x ∷ map (λ r. r.def) (reads more.0)) one.2 ∙ ap (λ l. d ∷ l) more.2,
    )

-- the word for the strict flag
strict_word : Bool → Text
strict_word true = codes "strict"
strict_word false = codes "lax"

head_opens : (b : Bool) → Opens (program_head b) (leaf (codes "program") ∷ leaf (strict_word b) ∷ [])
unfolding strict_word
head_opens true = λ top up. refl
head_opens false = λ top up. refl

strict_back : (b : Bool) → bytes_eq (strict_word b) (codes "strict") ≡ b
unfolding strict_word
strict_back true = refl
strict_back false = refl

-- the members of a program's list
abbrev whole : Bool → List Nest → Nest → List Nest
whole strict ns n = leaf (codes "program") ∷ leaf (strict_word strict) ∷ (ns ++ n ∷ [])

program_nests : (p : ProgramParts) (ns : List Nest) (n : Nest) → Adds (defs_text p.defs) ns → Fills (stmt_text p.body) (n ∷ [])
    → nests_of (program_text p) ≡ Node [] (whole p.strict ns n) ∷ []
unfolding program_text_of
program_nests p ns n a f =
    let text = program_head p.strict ++ defs_text p.defs ++ codes " " ++ stmt_text p.body in
    let begun : Opens text (whole p.strict ns n) =
    next (program_head p.strict ++ defs_text p.defs) (stmt_text p.body) (leaf (codes "program") ∷ leaf (strict_word p.strict) ∷ ns) (n ∷ [])
    (added (program_head p.strict) (defs_text p.defs) (leaf (codes "program") ∷ leaf (strict_word p.strict) ∷ []) ns (head_opens p.strict) a) f in
    ap (λ r. r.top) (run_on (fresh [] []) text (codes ")\n") ∙ ap (λ q. step (closed q) 10) (begun [] []) ∙ ap (λ q. step q 10) (closed_at (whole p.strict ns n) [] []))

abbrev a_program : Bool → List Def → Stmt → ProgramParts
a_program strict defs body = record { strict = strict; defs = defs; body = body }

-- the text of a program is read as the program
pub program_read : (p : ProgramParts) → is_program p ≡ true → parts_of (program_text p) ≡ p
unfolding node_read
program_read p h =
    let k = and_parts (is_well_formed p.defs p.body) (list_all def_representable p.defs && stmt_representable p.body) h in
    let j = and_parts (list_all def_representable p.defs) (stmt_representable p.body) k.1 in
    let m = defs_added p.defs j.0 in
    let a = stmt_known p.body j.1 in
    let ends = reads (m.0 ++ a.0 ∷ []) in
    ap (λ l. (member (reads l) 0).program) (program_nests p m.0 a.0 m.1 a.1)
    ∙ program_node [] (whole p.strict m.0 a.0)
    ∙ ap (λ l. a_program (bytes_eq l (codes "strict")) (map (λ r. r.def) (but_last ends)) (last ends).stmt) (word_node (strict_word p.strict) [])
    ∙ ap (λ b. a_program b (map (λ r. r.def) (but_last ends)) (last ends).stmt) (strict_back p.strict)
    ∙ ap (λ rs. a_program p.strict (map (λ r. r.def) rs) (last ends).stmt) (but_last_read m.0 a.0)
    ∙ ap (λ r. a_program p.strict (map (λ r. r.def) (reads m.0)) r.stmt) (last_read m.0 a.0)
    ∙ ap (λ l. a_program p.strict l (read a.0).stmt) m.2
    ∙ ap (λ x. a_program p.strict p.defs x) a.2

pub texts_apart : (p q : ProgramParts) → is_program p ≡ true → is_program q ≡ true → program_text p ≡ program_text q → p ≡ q
texts_apart p q hp hq e = sym (program_read p hp) ∙ ap parts_of e ∙ program_read q hq

pub read_back : (p : ProgramParts) → is_program p ≡ true → (answer : Result ProgramParts ProgramFault) → ReadsProgram (program_text p) answer → IsReadAs p answer
read_back p h (Ok found) r = sym (r.2 p (h, refl))
read_back p h (Err Bad) r = r p (h, refl)
read_back p h (Err Memory) r = tt

-- ---- what reading a text says of all programs

-- what a text is read as, if that is well formed
abbrev pub found_in : Text → Option ProgramParts
found_in text = program_of (parts_of text).strict (parts_of text).defs (parts_of text).body

-- a program that has the text is found
found_is : (text : Text) (q : ProgramParts) → HasText text q → found_in text ≡ Some q
found_is text q has =
    let k = and_parts (is_well_formed q.defs q.body) (list_all def_representable q.defs && stmt_representable q.body) has.0 in
    ap (λ p. program_of p.strict p.defs p.body) (ap parts_of (sym has.1) ∙ program_read q has.0)
    ∙ ap (λ b. if b then Some q else None) k.0

some_same : {X : Type 0} (o : Option X) (x y : X) → o ≡ Some x → o ≡ Some y → x ≡ y
some_same o x y e f = cc

pub none_found : (text : Text) → found_in text ≡ None → ReadsProgram text (Err Bad)
none_found text none q has = let e = found_is text q has in cc

pub other_found : (text : Text) (p : ProgramParts) → found_in text ≡ Some p → ¬ (program_text p ≡ text) → ReadsProgram text (Err Bad)
other_found text p e other q has = other (ap program_text (some_same (found_in text) p q e (found_is text q has)) ∙ has.1)

sound : (p q : ProgramParts) → program_of p.strict p.defs p.body ≡ Some q → is_well_formed q.defs q.body ≡ true
sound p q e = step (is_well_formed p.defs p.body) refl e
  where
    step : (b : Bool) → is_well_formed p.defs p.body ≡ b → (if b then Some p else None) ≡ Some q → is_well_formed q.defs q.body ≡ true
    step true d e = let same : p ≡ q = cc e in ap (λ r. is_well_formed r.defs r.body) (sym same) ∙ d
    step false d e = cc

pub read_found : (text : Text) (p : ProgramParts) → found_in text ≡ Some p → program_text p ≡ text → ReadsProgram text (Ok p)
read_found text p e same =
    (sound (parts_of text) p e, same, λ q has. some_same (found_in text) q p (found_is text q has) e)

-- ---- the same, from what the code found

-- what these parts are read as, if that is well formed
abbrev pub found_from : List Nest → Option ProgramParts
found_from ns = program_of (member (reads ns) 0).program.strict (member (reads ns) 0).program.defs (member (reads ns) 0).program.body

given : (text : Text) (ns ms : List Nest) (o : Option ProgramParts) → ns ≡ nests_of text → ms ≡ ns → o ≡ found_from ms → found_in text ≡ o
given text ns ms o e f g = sym (g ∙ ap found_from (f ∙ e))

pub none_given : (text : Text) (ns ms : List Nest) (o : Option ProgramParts) → ns ≡ nests_of text → ms ≡ ns → o ≡ found_from ms → o ≡ None
    → ReadsProgram text (Err Bad)
none_given text ns ms o e f g k = none_found text (given text ns ms o e f g ∙ k)

pub other_given : (text : Text) (ns ms : List Nest) (o : Option ProgramParts) (p : ProgramParts) → ns ≡ nests_of text → ms ≡ ns → o ≡ found_from ms → o ≡ Some p
    → ¬ (program_text p ≡ text) → ReadsProgram text (Err Bad)
other_given text ns ms o p e f g k other = other_found text p (given text ns ms o e f g ∙ k) other

pub read_given : (text : Text) (ns ms : List Nest) (o : Option ProgramParts) (p : ProgramParts) → ns ≡ nests_of text → ms ≡ ns → o ≡ found_from ms → o ≡ Some p
    → program_text p ≡ text → ReadsProgram text (Ok p)
read_given text ns ms o p e f g k same = read_found text p (given text ns ms o e f g ∙ k) same
