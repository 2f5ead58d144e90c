-- Alike ways run alike.
use Rattle.std.proofs.Common.{ℕ, Option, Some, None, refl}
use Rattle.kn_term.specs.Terms.{Term}
use Rattle.kn_model.specs.Terms.{terms}
use Rattle.kn_model.specs.Packets.{Packet}
use Rattle.kn_model.specs.Nets.{Network}
use Rattle.kn_model.specs.Rows.{Way}
use Rattle.kn_model.specs.Paths.{ways, path_of}
use Rattle.kn_model.specs.Alikes.{OneByOne, TermAlike, ConditionAlike, AlikePath, AlikeSend}
use Rattle.kn_model.proofs.OneByOne.{pairs-self}
use Rattle.kn_model.proofs.AlikeRows.{MailAlike, ways_alike, path_alike}
use Rattle.kn_model.proofs.AlikeTerms.{keeps_terms, alike_self, condition_self, send_self, waits_self}
use Rattle.kn_machine.specs.Ways.{AlikeWay}
use Rattle.kn_machine.specs.Effects.{here_of}
use Rattle.kn_machine.specs.declared.spot.Spot.{Spot}

pub mail_self : (o : Option (Packet Term)) → MailAlike TermAlike ConditionAlike o o
mail_self None = tt
mail_self (Some p) = waits_self p

-- a way is alike to itself
pub way_self : (w : Way Term) → AlikeWay w w
way_self w = record { state = alike_self w.state; pc = refl; bits = refl; literals = condition_self w.literals; sends = pairs-self AlikeSend send_self w.sends }

pub ways_on : (net : Network) (spot : Spot) (fuel : ℕ) (w v : Way Term) → AlikeWay w v → OneByOne AlikeWay (ways terms (here_of net spot) fuel w) (ways terms (here_of net spot) fuel v)
ways_on net spot fuel w v h =
    let here = here_of net spot in
    ways_alike terms terms TermAlike ConditionAlike ConditionAlike keeps_terms here.node here.tick here.code here.links here.fuel here.mail here.mail (mail_self here.mail) fuel w v h

pub path_on : (w v : Way Term) → AlikeWay w v → AlikePath (path_of terms w) (path_of terms v)
path_on w v h = path_alike terms terms TermAlike ConditionAlike ConditionAlike keeps_terms w v h
