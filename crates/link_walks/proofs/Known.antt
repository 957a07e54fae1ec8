-- Known links stay known behind a followed act.
use Rattle.std.proofs.Common.{◌≡◌, Bool, true, false, Option, Some, None, List, [], ◌∷◌, refl, sym, ap, subst, find, if◌then◌else◌}
use Rattle.std.specs.Option.{option_map, option_or}
use Rattle.feature_trees.specs.declared.value.Value.{Value}
use Rattle.feature_trees.specs.Sound.{IsTree}
use Rattle.feature_trees.proofs.Kept.{sound-put}
use Rattle.utility_calls.specs.declared.acts.Act.{Act}
use Rattle.utility_calls.specs.declared.acts.Act.TheVariants.{Exists}
use Rattle.utility_calls.specs.Acts.{tree_after, effect_on, IsPerformed}
use Rattle.utility_calls.specs.ActChanges.{HasNames}
use Rattle.utility_calls.proofs.ActChanges.{question_row}
use Rattle.link_walks.specs.Links.{LinkParts}
use Rattle.link_walks.specs.declared.walks.Reached.{Reached}
use Rattle.link_walks.specs.declared.walks.Reached.TheVariants.{At, Blocked}
use Rattle.link_walks.specs.Reaching.{reach}
use Rattle.link_walks.specs.Resolving.{AreStated}
use Rattle.link_walks.specs.Following.{along, changes_link, takes_reached, takes_end, asked_at}
use Rattle.link_walks.specs.Staying.{IsDirAt, LeadToDirs, AreKnown, LinksStay, NoLinksNoChange}
use Rattle.link_walks.proofs.Stays.{link_stays, dir_stays}

-- a test holds of none
abbrev AllNot : (LinkParts → Bool) → List LinkParts → Type 0
AllNot p [] = Unit {0}
AllNot p (x ∷ xs) = (p x ≡ false) × AllNot p xs

all_not : (p : LinkParts → Bool) (xs : List LinkParts) → find p xs ≡ None → AllNot p xs
all_not p [] e = tt
all_not p (x ∷ xs) e = by (p x) refl e (λ rest. all_not p xs rest)
  where
    by : (b : Bool) → p x ≡ b → (if b then Some x else find p xs) ≡ None → (find p xs ≡ None → AllNot p xs)
        → (p x ≡ false) × AllNot p xs
    by true h e later = absurd (cc)
    by false h e later = (h, later e)

module _ (there : Act) (tree : Value) (h : IsPerformed there) (n : HasNames there) (t : IsTree tree) where
  stated : (links : List LinkParts) → AreStated links tree → AllNot (changes_link there) links
      → AreStated links (tree_after there tree)
  stated [] s w = tt
  stated (link ∷ links) s w =
      (link_stays tree (λ v w p s t names. sound-put v p w s t names) t.sound link s.0 there h n w.0, stated links s.1 w.1)

  reached : (r : Reached) → IsDirAt tree r → takes_reached there r ≡ false → IsDirAt (tree_after there tree) r
  reached (At p) d w =
      dir_stays tree (λ v w p s t names. sound-put v p w s t names) t.sound p.names d there h n w
  reached (Blocked p) d w = d

  lead : (all links : List LinkParts) → LeadToDirs all links tree → AllNot (takes_end all there) links
      → LeadToDirs all links (tree_after there tree)
  lead all [] d w = tt
  lead all (link ∷ links) d w = (reached (reach all true link.at) d.0 w.0, lead all links d.1 w.1)

pub links_stay : LinksStay
links_stay links act tree h n t known =
    by (find (changes_link (along links act)) links) refl (find (takes_end links (along links act)) links) refl h n
  where
    asked : (link : LinkParts) → AreKnown links (tree_after (Exists link.at) tree)
    asked link =
        subst (AreKnown links) (sym (ap (λ e. effect_on e (Exists link.at) tree) (question_row (Exists link.at) tree refl))) known

    there : Act
    there = along links act

    at_link : Option LinkParts → Act
    at_link o = asked_at (option_map (λ link. link.at) o) there

    by : (o : Option LinkParts) → find (changes_link there) links ≡ o → (k : Option LinkParts)
        → find (takes_end links there) links ≡ k → IsPerformed (at_link (option_or o k))
        → HasNames (at_link (option_or o k)) → AreKnown links (tree_after (at_link (option_or o k)) tree)
    by (Some link) e k f h n = asked link
    by None e (Some link) f h n = asked link
    by None e None f h n = record {
      stated = stated there tree h n t links known.stated (all_not (changes_link there) links e);
      lead = lead there tree h n t links links known.lead (all_not (takes_end links there) links f);
    }

pub no_change : NoLinksNoChange
no_change planned = refl
