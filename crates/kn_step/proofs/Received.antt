-- What a node receives: packets in its queue, and their guards in its own condition.
use Rattle.std.proofs.Common.{◌≡◌, ℕ, suc, ◌+◌, ◌<◌, Bool, true, List, [], ◌∷◌, ◌++◌, length, map, flat_map, take, get_or, Option, Some, None, Ok, Err, refl, sym, ap, subst, ◌∙◌, append_assoc, append-nil, eqb-true, arith}
use Rattle.std.specs.Prelude.{Result, IfOk, ◌==◌}
use Rattle.std.specs.declared.alloc.AllocError.{AllocError}
use Rattle.kn_built.proofs.Deciding.{both_true}
use Rattle.std.proofs.lemmas.List.{take_more}
use Rattle.kn_built.specs.Built.{Extends}
use Rattle.kn_built.specs.Putting.{put_all}
use Rattle.kn_term.specs.declared.node.Node.{Node}
use Rattle.kn_term.specs.declared.node.Ref.{Ref}
use Rattle.kn_term.specs.declared.node.Literal.{Literal as Listed}
use Rattle.kn_term.specs.Terms.{Term}
use Rattle.kn_term.specs.Nodes.{term_at}
use Rattle.kn_term.specs.Reached.{RootsStand}
use Rattle.kn_term.proofs.Kept.{term_at-extends, nodes-extends}
use Rattle.kn_cond.specs.Literals.{Literal}
use Rattle.kn_cond.specs.Conditions.{Condition, holds, that, StandsFor}
use Rattle.kn_cond.specs.Meanings.{literal_of, condition_of, StandIn}
use Rattle.kn_cond.specs.declared.standing.Standing.{Standing}
use Rattle.kn_cond.proofs.Kept.{StandIn-extends, StandIn-append, condition_of-extends, condition_of-append}
use Rattle.kn_packet.specs.Packets.{PacketView}
use Rattle.kn_packet.specs.Packets as kept
use Rattle.kn_node.specs.Views.{MachineView, ConfigView, IsConfig, terms_in}
use Rattle.kn_model.specs.Packets.{Packet, packet_le}
use Rattle.kn_model.specs.Nodes.{State}
use Rattle.kn_model.specs.Alikes.{ConditionAlike, Alike}
use Rattle.kn_model.proofs.AlikeTerms.{holds_join, joins, condition_self, condition_through, alike_self}
use Rattle.kn_model.proofs.Coverage.{put_all_map}
use Rattle.kn_machine.specs.Views.{packet_of, state_of, own_of, received}
use Rattle.kn_step.specs.Sides.{Implies}
use Rattle.kn_step.specs.Answers.{guards_of, OnReceived, OnLearned}
use Rattle.kn_step.proofs.OneMore.{implied_alike, one_stands}

pub one_more_stands : (ns : List Node) (ls : List Listed) (l : Listed) → StandIn ns ls → l.term.index < length ns → StandIn ns (ls ++ l ∷ [])
one_more_stands ns ls l h i = StandIn-append ns ls (l ∷ []) h (one_stands ns l i)

-- two conditions over a longer list
both_longer : (old new : List Node) (c more : List Listed) → Extends old new → StandIn old c → StandIn old more → condition_of new c ++ condition_of new more ≡ condition_of old c ++ condition_of old more
both_longer old new c more longer h i =
    ap (λ (d : Condition). d ++ condition_of new more) (condition_of-extends old new c longer h)
    ∙ ap (λ (d : Condition). condition_of old c ++ d) (condition_of-extends old new more longer i)

-- one literal more, which is said already, or which is added
pub said : (old new : List Node) (c more : List Listed) (l : Listed) → Extends old new → StandIn old c → StandIn old more → Implies (condition_of new c ++ condition_of new more) (literal_of new l)
    → ConditionAlike (condition_of new c ++ condition_of new more) ((condition_of old c ++ condition_of old more) ++ literal_of new l ∷ [])
said old new c more l longer h i implied =
    subst (λ (d : Condition). ConditionAlike (condition_of new c ++ condition_of new more) (d ++ literal_of new l ∷ [])) (both_longer old new c more longer h i)
    (implied_alike (condition_of new c ++ condition_of new more) (literal_of new l) implied)

pub added : (old new : List Node) (c more : List Listed) (l : Listed) → Extends old new → StandIn old c → StandIn old more
    → ConditionAlike (condition_of new c ++ condition_of new (more ++ l ∷ [])) ((condition_of old c ++ condition_of old more) ++ literal_of new l ∷ [])
added old new c more l longer h i =
    let one : Condition = literal_of new l ∷ [] in
    let parts : condition_of new c ++ condition_of new (more ++ l ∷ []) ≡ (condition_of old c ++ condition_of old more) ++ one =
    ap (λ (d : Condition). condition_of new c ++ d) (condition_of-append new more (l ∷ []))
    ∙ (sym (append_assoc (condition_of new c) (condition_of new more) one)
    ∙ ap (λ (d : Condition). d ++ one) (both_longer old new c more longer h i)) in
    subst (ConditionAlike (condition_of new c ++ condition_of new (more ++ l ∷ []))) parts (condition_self (condition_of new c ++ condition_of new (more ++ l ∷ [])))

-- one literal more behind what was alike
behind : (now before b d one : Condition) → ConditionAlike now (before ++ one) → ConditionAlike before (b ++ d) → ConditionAlike now (b ++ (d ++ one))
behind now before b d one h i =
    subst (ConditionAlike now) (append_assoc b d one) (condition_through now (before ++ one) ((b ++ d) ++ one) h (joins before (b ++ d) one one i (condition_self one)))

-- the same of a literal of another list, brought in
pub said_one : (old new other : List Node) (c more : List Listed) (l : Listed) (term : Ref) → term_at new term.index ≡ term_at other l.term.index → Extends old new → StandIn old c → StandIn old more
    → Implies (condition_of new c ++ condition_of new more) (literal_of new (record { term = term; truth = l.truth }))
    → ConditionAlike (condition_of new c ++ condition_of new more) ((condition_of old c ++ condition_of old more) ++ literal_of other l ∷ [])
said_one old new other c more l term is longer h i implied =
    subst (λ (t : Term). ConditionAlike (condition_of new c ++ condition_of new more) ((condition_of old c ++ condition_of old more) ++ record { value = t; truth = l.truth } ∷ [])) is
    (said old new c more (record { term = term; truth = l.truth }) longer h i implied)

pub added_one : (old new other : List Node) (c more after : List Listed) (l : Listed) (term : Ref) → term_at new term.index ≡ term_at other l.term.index → Extends old new → StandIn old c → StandIn old more
    → after ≡ more ++ record { term = term; truth = l.truth } ∷ []
    → ConditionAlike (condition_of new c ++ condition_of new after) ((condition_of old c ++ condition_of old more) ++ literal_of other l ∷ [])
added_one old new other c more after l term is longer h i e =
    subst (λ (ls : List Listed). ConditionAlike (condition_of new c ++ condition_of new ls) ((condition_of old c ++ condition_of old more) ++ literal_of other l ∷ [])) (sym e)
    (subst (λ (t : Term). ConditionAlike (condition_of new c ++ condition_of new (more ++ record { term = term; truth = l.truth } ∷ [])) ((condition_of old c ++ condition_of old more) ++ record { value = t; truth = l.truth } ∷ [])) is
    (added old new c more (record { term = term; truth = l.truth }) longer h i))

-- the literals of a guard so far, with one more
pub guard_more : (other own : List Node) (xs guard : List Listed) (i : ℕ) (l : Listed) (now before b : Condition) → xs ≡ guard → other ≡ own → i < length xs → get_or xs i l ≡ l
    → ConditionAlike now (before ++ literal_of other l ∷ []) → ConditionAlike before (b ++ condition_of own (take i guard)) → ConditionAlike now (b ++ condition_of own (take (i + 1) guard))
guard_more other own xs guard i l now before b same list inside is h e =
    let one : Condition = literal_of own l ∷ [] in
    let inside_own : i < length guard = subst (λ (ls : List Listed). i < length ls) same inside in
    let next : take (i + 1) guard ≡ take i guard ++ l ∷ [] = take_more guard i l inside_own ∙ ap (λ (m : Listed). take i guard ++ m ∷ []) (ap (λ (ls : List Listed). get_or ls i l) (sym same) ∙ is) in
    let all : condition_of own (take i guard) ++ one ≡ condition_of own (take (i + 1) guard) = sym (condition_of-append own (take i guard) (l ∷ [])) ∙ ap (condition_of own) (sym next) in
    subst (λ (g : Condition). ConditionAlike now (b ++ g)) all
    (behind now before b (condition_of own (take i guard)) one (subst (λ (ns : List Node). ConditionAlike now (before ++ literal_of ns l ∷ [])) list h) e)

-- what a condition implies, it implies with another one before or behind it
pub front_implies : (c d : Condition) (l : Literal Term) → Implies c l → Implies (c ++ d) l
front_implies c d l h a e = h a (both_true (holds a c) (holds a d) (sym (holds_join a c d) ∙ e)).0

pub behind_implies : (c d : Condition) (l : Literal Term) → Implies d l → Implies (c ++ d) l
behind_implies c d l h a e = h a (both_true (holds a c) (holds a d) (sym (holds_join a c d) ∙ e)).1

pub longer_through : (old middle new : List Node) → Extends old middle → Extends middle new → Extends old new
longer_through old middle new h i = (h.0 ++ i.0, i.1 ∙ (ap (λ (ns : List Node). ns ++ i.0) h.1 ∙ append_assoc old h.0 i.0))

guards_one : (ps : List PacketView) (p : PacketView) → guards_of (ps ++ p ∷ []) ≡ guards_of ps ++ condition_of p.terms p.guard
guards_one [] p = append-nil (condition_of p.terms p.guard)
guards_one (q ∷ ps) p = ap (λ (c : Condition). condition_of q.terms q.guard ++ c) (guards_one ps p) ∙ sym (append_assoc (condition_of q.terms q.guard) (guards_of ps) (condition_of p.terms p.guard))

-- the guards of packets so far, with one more
pub guards_more : (now before b : Condition) (inbox : List PacketView) (i : ℕ) (p : PacketView) → i < length inbox → p ≡ get_or inbox i p
    → ConditionAlike now (before ++ condition_of p.terms p.guard) → ConditionAlike before (b ++ guards_of (take i inbox)) → ConditionAlike now (b ++ guards_of (take (i + 1) inbox))
guards_more now before b inbox i p inside is h e =
    let all : guards_of (take i inbox) ++ condition_of p.terms p.guard ≡ guards_of (take (i + 1) inbox) =
    sym (guards_one (take i inbox) p)
    ∙ (ap (λ (q : PacketView). guards_of (take i inbox ++ q ∷ [])) is
    ∙ ap guards_of (sym (take_more inbox i p inside))) in
    subst (λ (g : Condition). ConditionAlike now (b ++ g)) all (behind now before b (guards_of (take i inbox)) (condition_of p.terms p.guard) h e)

-- a longer list of terms
roots_longer : (old new : List Node) (rs : List Ref) → Extends old new → RootsStand (length old) rs → RootsStand (length new) rs
roots_longer old new rs longer h i r e = let a = h i r e in let b = nodes-extends old new longer in omega (arith, a, b)

pub config_longer : (old new : List Node) (m : MachineView) (cond : List Listed) → Extends old new → IsConfig old m cond → IsConfig new m cond
config_longer old new m cond longer h = record {
  registers = roots_longer old new m.registers longer h.registers;
  memory = roots_longer old new m.memory longer h.memory;
  literals = StandIn-extends old new cond longer h.literals;
}

terms_longer : (old new : List Node) (rs : List Ref) → Extends old new → RootsStand (length old) rs → terms_in new rs ≡ terms_in old rs
terms_longer old new [] longer h = refl
terms_longer old new (r ∷ rs) longer h =
    ap (λ (t : Term). t ∷ terms_in new rs) (term_at-extends old new r.index longer (h 0 r refl))
    ∙ ap (λ (ts : List Term). term_at old r.index ∷ ts) (terms_longer old new rs longer (λ i s e. h (suc i) s e))

guards_seen : (ps : List PacketView) → guards_of ps ≡ flat_map (λ (p : Packet Term). p.guard) (map packet_of ps)
guards_seen [] = refl
guards_seen (p ∷ ps) = ap (λ (c : Condition). condition_of p.terms p.guard ++ c) (guards_seen ps)

-- a state whose own condition is alike
own_alike : (s : State Term) (c : Condition) → ConditionAlike c s.own → Alike (record s { own = c }) s
own_alike s c h =
    let self = alike_self s in
    record {
      trace = refl;
      outcome = refl;
      timers = refl;
      inputs = refl;
      sent = refl;
      losses = refl;
      duplications = refl;
      booted = refl;
      reboots = refl;
      registers = self.registers;
      memory = self.memory;
      queue = self.queue;
      own = h;
    }

-- a state over a longer list, with packets in its queue and literals that say what their guards say
abbrev pub queued : ConfigView → List Node → List PacketView → ConfigView
queued c new inbox = record c { terms = new; machine = record c.machine { queue = put_all kept.packet_le inbox c.machine.queue } }

module _ (conflicts : ℕ) (c : ConfigView) (new : List Node) (inbox : List PacketView) (more : List Listed) (longer : Extends c.terms new) (good : IsConfig c.terms c.machine c.cond) where
  own_queued : own_of (queued c new inbox) ≡ own_of c
  own_queued = condition_of-extends c.terms new c.cond longer good.literals

  pub queued_stands : StandsFor conflicts (that (own_of c)) c.standing → StandsFor conflicts (that (own_of (queued c new inbox))) c.standing
  queued_stands h = subst (λ (d : Condition). StandsFor conflicts (that d) c.standing) (sym own_queued) h

  state_queued : (own : Condition) → record (state_of (queued c new inbox)) { own = own } ≡ record (received (map packet_of inbox) (state_of c)) { own = own }
  state_queued own =
      let with : List Term → List Term → List (Packet Term) → State Term = λ registers memory queue. record (state_of c) { registers = registers; memory = memory; queue = queue; own = own } in
      ap (λ (ts : List Term). with ts (terms_in new c.machine.memory) (map packet_of (put_all kept.packet_le inbox c.machine.queue))) (terms_longer c.terms new c.machine.registers longer good.registers)
      ∙ (ap (λ (ts : List Term). with (terms_in c.terms c.machine.registers) ts (map packet_of (put_all kept.packet_le inbox c.machine.queue))) (terms_longer c.terms new c.machine.memory longer good.memory)
      ∙ ap (with (terms_in c.terms c.machine.registers) (terms_in c.terms c.machine.memory)) (sym (put_all_map kept.packet_le packet_le packet_of (λ x y. refl) inbox c.machine.queue)))

  told : ConditionAlike (condition_of new c.cond ++ condition_of new more) (own_of c ++ guards_of inbox) → ConditionAlike (own_of (queued c new inbox) ++ condition_of new more) (received (map packet_of inbox) (state_of c)).own
  told h = subst (λ (g : Condition). ConditionAlike (condition_of new c.cond ++ condition_of new more) (own_of c ++ g)) (guards_seen inbox) h

  pub learned : (o : Option ConfigView) → ConditionAlike (condition_of new c.cond ++ condition_of new more) (own_of c ++ guards_of inbox) → OnLearned conflicts (queued c new inbox) (condition_of new more) o → OnReceived conflicts c inbox o
  learned None alike h = λ a. sym ((told alike).holds a) ∙ h a
  learned (Some d) alike h =
      let own : Condition = own_of (queued c new inbox) ++ condition_of new more in
      record {
        node = h.2;
        history = h.3;
        alike = subst (λ (s : State Term). Alike s (received (map packet_of inbox) (state_of c))) (sym (h.0 ∙ state_queued own)) (own_alike (received (map packet_of inbox) (state_of c)) own (told alike));
        standing = h.1;
      }

-- the same of a state that is equal, from what learning gives
pub receive_stands : (conflicts : ℕ) (c v q : ConfigView) (new : List Node) (inbox : List PacketView) → Extends v.terms new → IsConfig v.terms v.machine v.cond → v ≡ c → q ≡ queued v new inbox
    → StandsFor conflicts (that (own_of c)) c.standing → StandsFor conflicts (that (own_of q)) q.standing
receive_stands conflicts c v q new inbox longer good e f h =
    subst (λ (u : ConfigView). StandsFor conflicts (that (own_of u)) u.standing) (sym f)
    (queued_stands conflicts v new inbox [] longer good (subst (λ (u : ConfigView). StandsFor conflicts (that (own_of u)) u.standing) (sym e) h))

pub receive_learned : (conflicts : ℕ) (c v q : ConfigView) (new : List Node) (inbox : List PacketView) (more : List Listed) (r : Result (Option ConfigView) AllocError) → Extends v.terms new → IsConfig v.terms v.machine v.cond → v ≡ c → q ≡ queued v new inbox
    → ConditionAlike (condition_of new v.cond ++ condition_of new more) (condition_of v.terms v.cond ++ guards_of inbox) → IfOk r (OnLearned conflicts q (condition_of q.terms more)) → IfOk r (OnReceived conflicts c inbox)
receive_learned conflicts c v q new inbox more (Err x) longer good e f alike h = tt
receive_learned conflicts c v q new inbox more (Ok o) longer good e f alike h =
    subst (λ (u : ConfigView). OnReceived conflicts u inbox o) e
    (learned conflicts v new inbox more longer good o alike (subst (λ (u : ConfigView). OnLearned conflicts u (condition_of u.terms more) o) f h))

-- no literals more
nothing_more : (ls : List Listed) → length ls ≡ 0 → ls ≡ []
nothing_more [] e = refl
nothing_more (l ∷ ls) e = absurd cc

pub learned_none : (conflicts : ℕ) (c : ConfigView) (more ls : List Listed) (b : Bool) → ls ≡ more → b ≡ (length ls == 0) → b ≡ true → StandsFor conflicts (that (own_of c)) c.standing → OnLearned conflicts c (condition_of c.terms more) (Some c)
learned_none conflicts c more ls b same is none h =
    subst (λ (ms : List Listed). OnLearned conflicts c (condition_of c.terms ms) (Some c)) (sym (nothing_more ls (eqb-true (length ls) 0 (sym is ∙ none))) ∙ same)
    (ap (λ (o : Condition). record (state_of c) { own = o }) (sym (append-nil (own_of c))), h, refl, refl)

-- more literals, with what is known of all
pub learned_more : (conflicts : ℕ) (c v : ConfigView) (more after : List Listed) (s : Standing) → v ≡ c → after ≡ v.cond ++ more → StandsFor conflicts (that (condition_of v.terms v.cond ++ condition_of v.terms more)) s
    → OnLearned conflicts c (condition_of c.terms more) (Some (record v { cond = after; standing = s }))
learned_more conflicts c v more after s e f h =
    let own : condition_of v.terms after ≡ own_of v ++ condition_of v.terms more = ap (condition_of v.terms) f ∙ condition_of-append v.terms v.cond more in
    subst (λ (u : ConfigView). OnLearned conflicts u (condition_of u.terms more) (Some (record v { cond = after; standing = s }))) e
    (ap (λ (o : Condition). record (state_of v) { own = o }) own, subst (λ (o : Condition). StandsFor conflicts (that o) s) (sym own) h, refl, refl)
