-- Ends are the same by their test exactly where they are equal.
use Rattle.std.proofs.Common.{◌≡◌, ℕ, Bool, true, List, [], ◌∷◌, Option, Some, None, refl, sym, ap, ◌∙◌}
use Rattle.std.specs.Prelude.{◌&&◌, ◌==◌, slice_index_or}
use Rattle.std.proofs.lemmas.Bool.Decides.{Decides-eqb}
use Rattle.script_names.specs.declared.mark.Site.{Site}
use Rattle.script_names.specs.declared.reason.Reason.{Reason}
use Rattle.script_names.specs.declared.reason.Reason.TheVariants as reason
use Rattle.dpkg_scenarios.specs.declared.scenario.State.{State}
use Rattle.dpkg_scenarios.specs.declared.scenario.State.TheVariants.{Installed, Unpacked, HalfConfigured, HalfInstalled}
use Rattle.dpkg_scenarios.specs.declared.scenario.State.TheVariants.{ConfigFiles, NotInstalled}
use Rattle.dpkg_scenarios.specs.declared.scenario.Ending.{Ending}
use Rattle.dpkg_scenarios.specs.declared.scenario.Ending.TheVariants as ending
use Rattle.outcome_groups.specs.declared.ends.GroupEnd.{GroupEnd}
use Rattle.outcome_groups.specs.Ends.{state_number, reason_number, same_site, same_option, same_ending, same_end}
use Rattle.fact_boxes.proofs.Holding.{both_true}

abbrev states : List State
states = Installed ∷ Unpacked ∷ HalfConfigured ∷ HalfInstalled ∷ ConfigFiles ∷ NotInstalled ∷ []

state_back : (s : State) → slice_index_or states (state_number s) Installed ≡ s
state_back Installed = refl
state_back Unpacked = refl
state_back HalfConfigured = refl
state_back HalfInstalled = refl
state_back ConfigFiles = refl
state_back NotInstalled = refl

abbrev reasons : List Reason
reasons =
    reason.Call ∷ reason.Echo ∷ reason.Link ∷ reason.Slash ∷ reason.Root ∷ reason.Empty ∷ reason.DotDot ∷ reason.Dot
    ∷ reason.Long ∷ reason.Glob ∷ reason.Pattern ∷ reason.Pipe ∷ reason.Message ∷ reason.Strict ∷ reason.Status
    ∷ reason.Run ∷ reason.Same ∷ reason.Conffile ∷ reason.Restore ∷ []

reason_back : (r : Reason) → slice_index_or reasons (reason_number r) reason.Call ≡ r
reason_back reason.Call = refl
reason_back reason.Echo = refl
reason_back reason.Link = refl
reason_back reason.Slash = refl
reason_back reason.Root = refl
reason_back reason.Empty = refl
reason_back reason.DotDot = refl
reason_back reason.Dot = refl
reason_back reason.Long = refl
reason_back reason.Glob = refl
reason_back reason.Pattern = refl
reason_back reason.Pipe = refl
reason_back reason.Message = refl
reason_back reason.Strict = refl
reason_back reason.Status = refl
reason_back reason.Run = refl
reason_back reason.Same = refl
reason_back reason.Conffile = refl
reason_back reason.Restore = refl

same_states : (s t : State) → (state_number s == state_number t) ≡ true → s ≡ t
same_states s t e =
    sym (state_back s) ∙ ap (λ n. slice_index_or states n Installed) ((Decides-eqb (state_number s) (state_number t)).0 e) ∙ state_back t

same_reasons : (r q : Reason) → (reason_number r == reason_number q) ≡ true → r ≡ q
same_reasons r q e =
    sym (reason_back r) ∙ ap (λ n. slice_index_or reasons n reason.Call) ((Decides-eqb (reason_number r) (reason_number q)).0 e) ∙ reason_back q

same_sites : (a b : Site) → same_site a b ≡ true → a ≡ b
same_sites a b e =
    let parts = both_true (a.step == b.step) (a.at == b.at) e in
    λ i. record { step = (Decides-eqb a.step b.step).0 parts.0 i; at = (Decides-eqb a.at b.at).0 parts.1 i }

same_options : (a b : Option Site) → same_option a b ≡ true → a ≡ b
same_options None None e = refl
same_options None (Some b) e = cc
same_options (Some a) None e = cc
same_options (Some a) (Some b) e = λ i. Some (same_sites a b e i)

same_endings : (a b : Ending) → same_ending a b ≡ true → a ≡ b
same_endings (ending.Done s) (ending.Done t) e = λ i. ending.Done (same_states s t e i)
same_endings (ending.Done s) (ending.Failed t) e = cc
same_endings (ending.Done s) (ending.Incomplete q y) e = cc
same_endings (ending.Done s) (ending.Bound y) e = cc
same_endings (ending.Failed s) (ending.Done t) e = cc
same_endings (ending.Failed s) (ending.Failed t) e = λ i. ending.Failed (same_states s t e i)
same_endings (ending.Failed s) (ending.Incomplete q y) e = cc
same_endings (ending.Failed s) (ending.Bound y) e = cc
same_endings (ending.Incomplete r x) (ending.Done t) e = cc
same_endings (ending.Incomplete r x) (ending.Failed t) e = cc
same_endings (ending.Incomplete r x) (ending.Incomplete q y) e =
    let parts = both_true (reason_number r == reason_number q) (same_site x y) e in
    λ i. ending.Incomplete (same_reasons r q parts.0 i) (same_sites x y parts.1 i)
same_endings (ending.Incomplete r x) (ending.Bound y) e = cc
same_endings (ending.Bound x) (ending.Done t) e = cc
same_endings (ending.Bound x) (ending.Failed t) e = cc
same_endings (ending.Bound x) (ending.Incomplete q y) e = cc
same_endings (ending.Bound x) (ending.Bound y) e = λ i. ending.Bound (same_sites x y e i)

pub same_ends : (a b : GroupEnd) → same_end a b ≡ true → a ≡ b
same_ends a b e =
    let parts = both_true (same_ending a.ending b.ending) (same_option a.site b.site) e in
    λ i. record { ending = same_endings a.ending b.ending parts.0 i; site = same_options a.site b.site parts.1 i }

and_both : (a b : Bool) → a ≡ true → b ≡ true → (a && b) ≡ true
and_both a b p q = ap (λ c. c && b) p ∙ q

number_itself : (n : ℕ) → (n == n) ≡ true
number_itself n = (Decides-eqb n n).1 refl

site_itself : (a : Site) → same_site a a ≡ true
site_itself a = and_both (a.step == a.step) (a.at == a.at) (number_itself a.step) (number_itself a.at)

option_itself : (a : Option Site) → same_option a a ≡ true
option_itself None = refl
option_itself (Some a) = site_itself a

ending_itself : (a : Ending) → same_ending a a ≡ true
ending_itself (ending.Done s) = number_itself (state_number s)
ending_itself (ending.Failed s) = number_itself (state_number s)
ending_itself (ending.Incomplete r x) = and_both (reason_number r == reason_number r) (same_site x x) (number_itself (reason_number r)) (site_itself x)
ending_itself (ending.Bound x) = site_itself x

pub end_itself : (a : GroupEnd) → same_end a a ≡ true
end_itself a = and_both (same_ending a.ending a.ending) (same_option a.site a.site) (ending_itself a.ending) (option_itself a.site)
