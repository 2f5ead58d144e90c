-- Where a way begins, and the path that it ends as.
use Rattle.std.proofs.Common.{◌≡◌, ℕ, Bool, List, [], ◌++◌, length, map, refl, sym, ap, subst, ◌∙◌, arith}
use Rattle.std.proofs.lemmas.List.{append-nil}
use Rattle.std.proofs.Math.Seq.{take-length}
use Rattle.kn_term.specs.declared.node.Node.{Node}
use Rattle.kn_term.specs.declared.node.Literal.{Literal}
use Rattle.kn_cond.specs.Conditions.{Condition}
use Rattle.kn_cond.specs.Meanings.{condition_of}
use Rattle.kn_node.specs.Views.{IsConfig, MachineView}
use Rattle.kn_model.specs.Terms.{terms}
use Rattle.kn_model.specs.Paths.{path_of}
use Rattle.kn_model.specs.Alikes.{ConditionAlike, AlikePath, AlikeSend}
use Rattle.kn_model.proofs.OneByOne.{pairs-self}
use Rattle.kn_model.proofs.AlikeTerms.{alike_self, condition_self, send_self}
use Rattle.kn_machine.specs.Views.{packet_of, state_with}
use Rattle.kn_machine.specs.Ways.{WayView, IsWay, way_of, known_of, before_of}
use Rattle.kn_machine.specs.Paths.{PathView, path_seen}

-- all literals are of before an event that begins
is_way_begun : (ns : List Node) (m : MachineView) (known : List Literal) → IsConfig ns m known → IsWay ns m.registers m.memory known (length known) []
is_way_begun ns m known h = record {
  registers_stand = h.registers;
  memory_stands = h.memory;
  known_stands = h.literals;
  literals_stand = λ place l e. absurd cc;
  few = omega arith;
  known = subst (λ (c : Condition). ConditionAlike (condition_of ns known) c) (sym (append-nil (before_of ns (length known) known) ∙ ap (condition_of ns) (take-length known))) (condition_self (condition_of ns known));
}

pub is_way_new : (ns : List Node) (m : MachineView) (known literals : List Literal) (own : ℕ) → IsConfig ns m known → own ≡ length known → literals ≡ [] → IsWay ns m.registers m.memory known own literals
is_way_new ns m known literals own h count none =
    subst (λ (k : ℕ). IsWay ns m.registers m.memory known k literals) (sym count)
    (subst (λ (ls : List Literal). IsWay ns m.registers m.memory known (length known) ls) (sym none) (is_way_begun ns m known h))

-- the path of a way has all that is known as its own condition
path_ends : (w : WayView) (node history : ℕ) → ConditionAlike (known_of w) (before_of w.terms w.own w.cond ++ condition_of w.terms w.literals)
    → AlikePath (path_seen (record {
      bits = w.bits;
      config = record { node = node; machine = w.machine; terms = w.terms; cond = w.cond; trace = w.trace ++ w.bits; history = history; standing = w.standing };
      sends = w.sends;
      literals = w.literals;
    })) (path_of terms (way_of w))
path_ends w node history known =
    let s = alike_self (state_with w.terms w.machine (w.trace ++ w.bits) (known_of w)) in
    record {
      bits = refl;
      literals = condition_self (condition_of w.terms w.literals);
      state = record {
        trace = refl;
        outcome = refl;
        timers = refl;
        inputs = refl;
        sent = refl;
        losses = refl;
        duplications = refl;
        booted = refl;
        reboots = refl;
        registers = s.registers;
        memory = s.memory;
        queue = s.queue;
        own = known;
      };
      sends = pairs-self AlikeSend send_self (map packet_of w.sends);
    }

pub path_is : (w u : WayView) (p : PathView) (trace : List Bool) (node history : ℕ) → u ≡ w → ConditionAlike (known_of u) (before_of u.terms u.own u.cond ++ condition_of u.terms u.literals) → trace ≡ u.trace ++ u.bits
    → p ≡ record {
      bits = u.bits;
      config = record { node = node; machine = u.machine; terms = u.terms; cond = u.cond; trace = trace; history = history; standing = u.standing };
      sends = u.sends;
      literals = u.literals;
    } → AlikePath (path_seen p) (path_of terms (way_of w))
path_is w u p trace node history e known more is =
    let at : List Bool → PathView = λ bs. record {
      bits = u.bits;
      config = record { node = node; machine = u.machine; terms = u.terms; cond = u.cond; trace = bs; history = history; standing = u.standing };
      sends = u.sends;
      literals = u.literals;
    } in
    subst (λ (z : WayView). AlikePath (path_seen p) (path_of terms (way_of z))) e
    (subst (λ (q : PathView). AlikePath (path_seen q) (path_of terms (way_of u))) (sym (is ∙ ap at more)) (path_ends u node history known))
