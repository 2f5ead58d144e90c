-- Ways on from alike ways are alike, and lead to no path from a way whose condition no inputs meet.
use Rattle.std.proofs.Common.{ℕ, [], ◌∷◌}
use Rattle.kn_term.specs.Terms.{Term}
use Rattle.kn_model.specs.Terms.{terms}
use Rattle.kn_model.specs.Packets.{Packet}
use Rattle.kn_model.specs.Nets.{Network}
use Rattle.kn_model.specs.Rows.{Here, Way}
use Rattle.kn_model.specs.Paths.{runs, arrives, cleared, doubled, with_loss, path_of}
use Rattle.kn_model.specs.Alikes.{OneByOne, TermAlike, ConditionAlike, AlikePath, AreGiven}
use Rattle.kn_model.proofs.Lists.{all-map}
use Rattle.kn_model.proofs.OneByOne.{pairs-map}
use Rattle.kn_model.proofs.AlikeRows.{runs_alike, arrives_alike, doubles, loses, clears}
use Rattle.kn_model.proofs.AlikeTerms.{keeps_terms, waits_self}
use Rattle.kn_model.proofs.AlikeGiven.{IsOut, IsShut, given_none, shut_kept, shut_decided}
use Rattle.kn_model.proofs.EachWay.{all_runs, all_arrives}
use Rattle.std.specs.List.{AllByRecursion}
use Rattle.kn_machine.specs.Ways.{AlikeWay}
use Rattle.kn_machine.specs.Effects.{here_of, IsIn}
use Rattle.kn_step.specs.Choices.{Onward, GoesOn, paths_by}
use Rattle.kn_machine.specs.declared.spot.Spot.{Spot}
use Rattle.kn_machine.proofs.Likeness.{mail_self, path_on}
use Rattle.kn_step.proofs.Turning.{here_good}

-- where all ways on are shut, no path has to be given
none_given : (go : Onward) (w : Way Term) → AllByRecursion IsShut (go w) → AreGiven [] (paths_by go w)
none_given go w h = given_none (paths_by go w) (all-map IsShut IsOut (path_of terms) (λ v i. i) (go w) h)

-- the paths of ways on from alike ways
pub paths_alike : (go : Onward) → GoesOn go → (w v : Way Term) → AlikeWay w v → OneByOne AlikePath (paths_by go w) (paths_by go v)
paths_alike go g w v h = pairs-map AlikeWay AlikePath (path_of terms) (path_of terms) path_on (go w) (go v) (g.alike w v h)

pub goes_one : GoesOn (λ w. w ∷ [])
goes_one = record { alike = λ w v h. (h, tt); shut = λ w h. none_given (λ u. u ∷ []) w (h, tt) }

pub goes_lost : GoesOn (λ w. with_loss terms w ∷ [])
goes_lost = record {
  alike = λ w v h. (loses terms terms TermAlike ConditionAlike ConditionAlike keeps_terms w v h, tt);
  shut = λ w h. none_given (λ u. with_loss terms u ∷ []) w (h, tt);
}

module _ (net : Network) (spot : Spot) (place : IsIn net spot) where
  abbrev here : Here Term
  here = here_of net spot

  alike_runs : (handler : ℕ) (w v : Way Term) → AlikeWay w v → OneByOne AlikeWay (runs terms here handler w) (runs terms here handler v)
  alike_runs handler w v h = runs_alike terms terms TermAlike ConditionAlike ConditionAlike keeps_terms here.node here.tick here.code here.links here.fuel here.mail here.mail (mail_self here.mail) handler w v h

  shut_runs : (handler : ℕ) (w : Way Term) → IsShut w → AllByRecursion IsShut (runs terms here handler w)
  shut_runs handler w h = all_runs terms here IsShut (shut_kept here) (here_good net spot place) shut_decided handler w h

  pub goes_runs : (handler : ℕ) → GoesOn (runs terms here handler)
  goes_runs handler = record { alike = alike_runs handler; shut = λ w h. none_given (runs terms here handler) w (shut_runs handler w h) }

  pub goes_again : GoesOn (λ w. runs terms here 0 (cleared terms w))
  goes_again = record {
    alike = λ w v h. alike_runs 0 (cleared terms w) (cleared terms v) (clears terms terms TermAlike ConditionAlike ConditionAlike keeps_terms w v h);
    shut = λ w h. none_given (λ u. runs terms here 0 (cleared terms u)) w (shut_runs 0 (cleared terms w) h);
  }

  pub goes_arrives : (p : Packet Term) → GoesOn (arrives terms here p)
  goes_arrives p = record {
    alike = λ w v h. arrives_alike terms terms TermAlike ConditionAlike ConditionAlike keeps_terms here.node here.tick here.code here.links here.fuel here.mail here.mail (mail_self here.mail) p p (waits_self p) w v h;
    shut = λ w h. none_given (arrives terms here p) w (all_arrives terms here IsShut (shut_kept here) (here_good net spot place) shut_decided p w h);
  }

  pub goes_doubled : (p : Packet Term) → GoesOn (λ w. runs terms here 1 (doubled terms here p w))
  goes_doubled p = record {
    alike = λ w v h.
        alike_runs 1 (doubled terms here p w) (doubled terms here p v)
        (doubles terms terms TermAlike ConditionAlike ConditionAlike keeps_terms here.node here.tick here.code here.links here.fuel here.mail here.mail (mail_self here.mail) p p (waits_self p) w v h);
    shut = λ w h. none_given (λ u. runs terms here 1 (doubled terms here p u)) w (shut_runs 1 (doubled terms here p w) h);
  }
