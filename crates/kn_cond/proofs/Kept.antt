-- What callers need to know of a condition whose list of terms became longer, and of longer conditions.
use Rattle.std.proofs.Common.{◌≡◌, zero, suc, List, [], ◌∷◌, ◌++◌, refl, ap, ◌∙◌, arith}
use Rattle.std.specs.Prelude.{Bool, true, false, ◌&&◌}
use Rattle.kn_built.specs.Built.{Extends}
use Rattle.kn_term.specs.declared.node.Node.{Node}
use Rattle.kn_term.specs.declared.node.Literal.{Literal as Listed}
use Rattle.kn_term.specs.Terms.{Term, Valuation}
use Rattle.kn_term.proofs.Kept.{term_at-extends, nodes-extends}
use Rattle.kn_cond.specs.Conditions.{Condition, literal_holds, holds}
use Rattle.kn_cond.specs.Meanings.{literal_of, condition_of, StandIn}

-- the literals behind the first one stand too
pub StandIn-rest : (ns : List Node) (l : Listed) (ls : List Listed) → StandIn ns (l ∷ ls) → StandIn ns ls
StandIn-rest ns l ls stand place m e = stand (suc place) m e

-- literals that stand stay in a longer list of terms
pub StandIn-extends : (old new : List Node) (ls : List Listed) → Extends old new → StandIn old ls → StandIn new ls
StandIn-extends old new ls more stand place l e = omega (arith, stand place l e, nodes-extends old new more)

-- literals in front of literals stand where both do
pub StandIn-append : (ns : List Node) (ls more : List Listed) → StandIn ns ls → StandIn ns more → StandIn ns (ls ++ more)
StandIn-append ns [] more stand behind place m e = behind place m e
StandIn-append ns (l ∷ ls) more stand behind zero m e = stand zero m e
StandIn-append ns (l ∷ ls) more stand behind (suc place) m e = StandIn-append ns ls more (StandIn-rest ns l ls stand) behind place m e

-- literals mean the same in a longer list of terms
pub condition_of-extends : (old new : List Node) (ls : List Listed) → Extends old new → StandIn old ls → condition_of new ls ≡ condition_of old ls
condition_of-extends old new [] more stand = refl
condition_of-extends old new (l ∷ ls) more stand =
    let first = term_at-extends old new l.term.index more (stand zero l refl) in
    let rest = condition_of-extends old new ls more (StandIn-rest old l ls stand) in
    ap (λ (t : Term). record { value = t; truth = l.truth } ∷ condition_of new ls) first ∙ ap (λ (c : Condition). literal_of old l ∷ c) rest

-- joined literals mean the joined conditions
pub condition_of-append : (ns : List Node) (ls more : List Listed) → condition_of ns (ls ++ more) ≡ condition_of ns ls ++ condition_of ns more
condition_of-append ns [] more = refl
condition_of-append ns (l ∷ ls) more = ap (λ (c : Condition). literal_of ns l ∷ c) (condition_of-append ns ls more)

and_joined : (a b c : Bool) → (a && (b && c)) ≡ ((a && b) && c)
and_joined true b c = refl
and_joined false b c = refl

-- two joined conditions hold where both do
pub holds-append : (a : Valuation) (c d : Condition) → holds a (c ++ d) ≡ (holds a c && holds a d)
holds-append a [] d = refl
holds-append a (l ∷ c) d =
    ap (λ (b : Bool). literal_holds a l && b) (holds-append a c d) ∙ and_joined (literal_holds a l) (holds a c) (holds a d)

pub ruleset kept = (StandIn-extends, StandIn-append, condition_of-extends, condition_of-append, holds-append)
