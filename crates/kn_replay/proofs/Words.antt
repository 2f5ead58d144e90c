-- States over words that are alike but for their own conditions.
use Rattle.std.proofs.Common.{◌≡◌, ℕ, Bool, List, [], ◌∷◌, map, refl, sym, ap, subst, ◌∙◌}
use Rattle.kn_model.specs.Values.{Literal}
use Rattle.kn_model.specs.Packets.{Packet}
use Rattle.kn_model.specs.Nodes.{State, Node}
use Rattle.kn_model.specs.Scenarios.{got, got_all, close_node}
use Rattle.kn_model.specs.Packets.{Parcel}
use Rattle.kn_model.specs.Paths.{Path}
use Rattle.kn_model.specs.Alikes.{OneByOne, WaitsAlike, SentAlike, SameWord, Any, AlikeRun, AlikeRunPath}
use Rattle.kn_model.proofs.OneByOne.{pairs-self}
use Rattle.kn_conc.specs.Ways.{bare_packet, bare_path, bare_state}

pub waits_self : (p : Packet ℕ) → WaitsAlike SameWord p p
waits_self p = record { key = refl; payload = pairs-self SameWord (λ w. refl) p.payload }

pub alike_self : (s : State ℕ) → AlikeRun s s
alike_self s = record {
  trace = refl;
  outcome = refl;
  timers = refl;
  inputs = refl;
  sent = refl;
  losses = refl;
  duplications = refl;
  booted = refl;
  reboots = refl;
  registers = pairs-self SameWord (λ w. refl) s.registers;
  memory = pairs-self SameWord (λ w. refl) s.memory;
  queue = pairs-self (WaitsAlike SameWord) waits_self s.queue;
  own = tt;
}

-- own conditions are of no account
pub other_own : (s t : State ℕ) (c d : List (Literal ℕ)) → AlikeRun s t → AlikeRun (record s { own = c }) (record t { own = d })
other_own s t c d h = record {
  trace = h.trace;
  outcome = h.outcome;
  timers = h.timers;
  inputs = h.inputs;
  sent = h.sent;
  losses = h.losses;
  duplications = h.duplications;
  booted = h.booted;
  reboots = h.reboots;
  registers = h.registers;
  memory = h.memory;
  queue = h.queue;
  own = tt;
}

-- nor is which of two states that are the same without them
pub same_bare : (s u t : State ℕ) → bare_state s ≡ bare_state u → AlikeRun s t → AlikeRun u t
same_bare s u t e h = other_own (bare_state u) t u.own t.own (subst (λ (z : State ℕ). AlikeRun z t) e (other_own s t [] t.own h))

-- what is got in a tick changes only the own condition and the history
got_alike : (s : State ℕ) (ps : List (Parcel ℕ)) (y : Node ℕ) → AlikeRun s y.state → AlikeRun s (got_all y ps).state
got_alike s [] y h = h
got_alike s (p ∷ ps) y h = got_alike s ps (got y p) (other_own s y.state s.own (got y p).state.own h)

pub closed_alike : (s : State ℕ) (y : Node ℕ) → AlikeRun s y.state → AlikeRun s (close_node y).state
closed_alike s y h = got_alike s y.fresh y h

-- a packet as a run keeps it, and the definition's
pub record IsSend (u q : Packet ℕ) : Type 0 where
  pub waits : WaitsAlike SameWord u q
  pub to : u.to ≡ q.to

bare_send : (p u q : Packet ℕ) → bare_packet p ≡ bare_packet u → SentAlike SameWord Any p q → IsSend u q
bare_send p u q e h =
    let one : IsSend (bare_packet p) q = record { waits = record { key = h.key; payload = h.payload }; to = h.to } in
    let other : IsSend (bare_packet u) q = subst (λ (z : Packet ℕ). IsSend z q) e one in
    record { waits = record { key = other.waits.key; payload = other.waits.payload }; to = other.to }

bare_sends : (ps us qs : List (Packet ℕ)) → map bare_packet ps ≡ map bare_packet us → OneByOne (SentAlike SameWord Any) ps qs → OneByOne IsSend us qs
bare_sends [] [] [] e h = tt
bare_sends [] [] (q ∷ qs) e h = absurd h
bare_sends [] (u ∷ us) qs e h = absurd cc
bare_sends (p ∷ ps) us [] e h = absurd h
bare_sends (p ∷ ps) [] (q ∷ qs) e h = absurd cc
bare_sends (p ∷ ps) (u ∷ us) (q ∷ qs) e h =
    let head : bare_packet p ≡ bare_packet u = cc in
    let tail : map bare_packet ps ≡ map bare_packet us = cc in
    (bare_send p u q head h.0, bare_sends ps us qs tail h.1)

-- Of an event's paths from a state that a run keeps there is one, as it says; so there is one from the definition's state.
pub record IsOne (bits : List Bool) (next : State ℕ) (sends : List (Packet ℕ)) (qs : List (Path ℕ)) : Type 0 where
  pub path : Path ℕ
  pub only : qs ≡ path ∷ []
  pub same : bits ≡ path.bits
  pub state : AlikeRun next path.state
  pub sent : OneByOne IsSend sends path.sends

pub one_path : (bits : List Bool) (next : State ℕ) (sends : List (Packet ℕ)) (ps qs : List (Path ℕ))
    → map bare_path ps ≡ bare_path (record { bits = bits; literals = []; state = next; sends = sends }) ∷ [] → OneByOne AlikeRunPath ps qs → IsOne bits next sends qs
one_path bits next sends [] qs e h = absurd cc
one_path bits next sends (p ∷ r ∷ ps) qs e h = absurd cc
one_path bits next sends (p ∷ []) [] e h = absurd h
one_path bits next sends (p ∷ []) (q ∷ r ∷ qs) e h = absurd h.1
one_path bits next sends (p ∷ []) (q ∷ []) e h =
    let kept : Path ℕ = record { bits = bits; literals = []; state = next; sends = sends } in
    let same : bare_path p ≡ bare_path kept = cc in
    record {
      path = q;
      only = refl;
      same = sym (ap (λ (z : Path ℕ). z.bits) same) ∙ h.0.bits;
      state = same_bare p.state next q.state (ap (λ (z : Path ℕ). z.state) same) h.0.state;
      sent = bare_sends p.sends sends q.sends (ap (λ (z : Path ℕ). z.sends) same) h.0.sends;
    }
