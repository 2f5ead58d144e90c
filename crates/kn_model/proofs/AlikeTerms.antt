-- Over terms and over words the rows keep what alike means.
use Rattle.std.proofs.Common.{◌≡◌, ◌⊎◌, inl, inr, ℕ, Bool, true, false, List, [], ◌∷◌, ◌++◌, refl, sym, ap, ◌∙◌}
use Rattle.std.specs.Prelude.{Contains, ◌&&◌}
use Rattle.kn_model.specs.Paths.{Path, event_paths}
use Rattle.std.proofs.lemmas.List.Elements.{Contains-append_left, Contains-append_right, Contains-append_cases}
use Rattle.kn_word.specs.Words.{val}
use Rattle.kn_word.specs.declared.Op.{Op}
use Rattle.kn_model.specs.Terms.{Term, Word, Input, Apply, Choice, Valuation, terms, words, ev, chosen_word, word_holds}
use Rattle.kn_model.specs.Packets.{Packet}
use Rattle.kn_packet.specs.declared.packet.Event.{Event}
use Rattle.kn_model.specs.Nodes.{State}
use Rattle.kn_model.specs.Nets.{Network}
use Rattle.kn_model.specs.Conditions.{Condition, Read, holds, reads_in, reads_of, literal_holds}
use Rattle.kn_model.proofs.JoinedQuery.{reads_append}
use Rattle.kn_model.specs.Alikes.{OneByOne, WaitsAlike, TermAlike, ConditionAlike, Alike, AlikePath, SameWord, Any, AlikeSend, AreGiven}
use Rattle.kn_model.specs.Laws.{AlikePaths, AlikeRuns, GivenOfAlike}
use Rattle.kn_model.proofs.OneByOne.{pairs-self, pairs-through}
use Rattle.kn_model.proofs.AlikeRows.{Keeps, due_alike, left_alike, paths_alike}

-- one list of reads has no more than another
abbrev Within : List Read → List Read → Type 0
Within rs qs = (r : Read) → Contains rs r → Contains qs r

within_append : (rs qs us vs : List Read) → Within rs qs → Within us vs → Within (rs ++ us) (qs ++ vs)
within_append rs qs us vs h i r c = go (Contains-append_cases rs us r c)
  where
    go : Contains rs r ⊎ Contains us r → Contains (qs ++ vs) r
    go (inl d) = Contains-append_left qs vs r (h r d)
    go (inr d) = Contains-append_right qs vs r (i r d)

pub holds_join : (a : Valuation) (c d : Condition) → holds a (c ++ d) ≡ (holds a c && holds a d)
holds_join a [] d = refl
holds_join a (l ∷ c) d = go (literal_holds a l) (holds_join a c d)
  where
    go : (b : Bool) → holds a (c ++ d) ≡ (holds a c && holds a d) → (b && holds a (c ++ d)) ≡ ((b && holds a c) && holds a d)
    go true h = h
    go false h = refl

pub joins : (c c' d d' : Condition) → ConditionAlike c c' → ConditionAlike d d' → ConditionAlike (c ++ d) (c' ++ d')
joins c c' d d' h i = record {
  holds = λ a. holds_join a c d ∙ (ap (λ (b : Bool). b && holds a d) (h.holds a) ∙ (ap (λ (b : Bool). holds a c' && b) (i.holds a) ∙ sym (holds_join a c' d')));
  reads = rw (reads_append c d, reads_append c' d') (within_append (reads_of c) (reads_of c') (reads_of d) (reads_of d') h.reads i.reads);
}

pub literal_alike : (x y : Term) (b : Bool) → TermAlike x y → ConditionAlike (record { value = x; truth = b } ∷ []) (record { value = y; truth = b } ∷ [])
literal_alike x y b h = record {
  holds = λ a. ap (λ (w : ℕ). word_holds (record { value = w; truth = b }) && true) (h.words a);
  reads = within_append (reads_in x) (reads_in y) [] [] h.reads (λ r c. c);
}

applies : (op : Op) (x x' y y' : Term) → TermAlike x x' → TermAlike y y' → TermAlike (Apply op x y) (Apply op x' y')
applies op x x' y y' h i = record {
  words = λ a. ap (λ (w : ℕ). val op w (ev a y)) (h.words a) ∙ ap (val op (ev a x')) (i.words a);
  reads = within_append (reads_in x) (reads_in x') (reads_in y) (reads_in y') h.reads i.reads;
}

picks : (x x' y y' z z' : Term) → TermAlike x x' → TermAlike y y' → TermAlike z z' → TermAlike (Choice x y z) (Choice x' y' z')
picks x x' y y' z z' h i j = record {
  words = λ a. ap (λ (w : ℕ). chosen_word w (ev a y) (ev a z)) (h.words a) ∙ (ap (λ (w : ℕ). chosen_word (ev a x') w (ev a z)) (i.words a) ∙ ap (chosen_word (ev a x') (ev a y')) (j.words a));
  reads = within_append (reads_in x) (reads_in x') (reads_in y ++ reads_in z) (reads_in y' ++ reads_in z') h.reads (within_append (reads_in y) (reads_in y') (reads_in z) (reads_in z') i.reads j.reads);
}

pub term_self : (x : Term) → TermAlike x x
term_self x = record { words = λ a. refl; reads = λ r c. c }

pub condition_self : (c : Condition) → ConditionAlike c c
condition_self c = record { holds = λ a. refl; reads = λ r d. d }

pub keeps_terms : Keeps terms terms TermAlike ConditionAlike ConditionAlike
keeps_terms = record {
  word = λ w. term_self (Word w);
  input = λ n i width. term_self (Input n i width);
  apply = applies;
  choice = picks;
  nothing = condition_self [];
  literal = literal_alike;
  join = joins;
  told = λ c c' h. h;
  joined = joins;
  sides = λ x x' b r. refl;
}

pub keeps_words : (a : Valuation) → Keeps (words a) (words a) SameWord Any Any
keeps_words a = record {
  word = λ w. refl;
  input = λ n i width. refl;
  apply = λ op x x' y y' h i. ap (λ (w : ℕ). val op w y) h ∙ ap (val op x') i;
  choice = λ x x' y y' z z' h i j. ap (λ (w : ℕ). chosen_word w y z) h ∙ (ap (λ (w : ℕ). chosen_word x' w z) i ∙ ap (chosen_word x' y') j);
  nothing = tt;
  literal = λ x x' b r. tt;
  join = λ c c' d d' h i. tt;
  told = λ c c' h. tt;
  joined = λ c c' d d' h i. tt;
  sides = λ x x' b r. ap (λ (w : ℕ). word_holds (record { value = w; truth = b })) r;
}

pub alike_paths : AlikePaths
alike_paths net n tick s t h = (due_alike TermAlike ConditionAlike net.limits.ticks tick s t h, left_alike TermAlike ConditionAlike net.limits.ticks tick s t h, λ e. paths_alike terms terms TermAlike ConditionAlike ConditionAlike keeps_terms net n tick e s t h)

pub alike_runs : AlikeRuns
alike_runs net a n tick s t h = (due_alike SameWord Any net.limits.ticks tick s t h, left_alike SameWord Any net.limits.ticks tick s t h, λ e. paths_alike (words a) (words a) SameWord Any Any (keeps_words a) net n tick e s t h)

-- alike to itself, and through a third
pub term_through : (x y z : Term) → TermAlike x y → TermAlike y z → TermAlike x z
term_through x y z h i = record { words = λ a. h.words a ∙ i.words a; reads = λ r c. i.reads r (h.reads r c) }

pub condition_through : (c d e : Condition) → ConditionAlike c d → ConditionAlike d e → ConditionAlike c e
condition_through c d e h i = record { holds = λ a. h.holds a ∙ i.holds a; reads = λ r x. i.reads r (h.reads r x) }

pub waits_self : (p : Packet Term) → WaitsAlike TermAlike p p
waits_self p = record { key = refl; payload = pairs-self TermAlike term_self p.payload }

pub waits_through : (p q r : Packet Term) → WaitsAlike TermAlike p q → WaitsAlike TermAlike q r → WaitsAlike TermAlike p r
waits_through p q r h i = record { key = h.key ∙ i.key; payload = pairs-through TermAlike TermAlike TermAlike term_through p.payload q.payload r.payload h.payload i.payload }

pub send_self : (p : Packet Term) → AlikeSend p p
send_self p = record { key = refl; to = refl; bits = refl; payload = pairs-self TermAlike term_self p.payload; guard = condition_self p.guard }

pub send_through : (p q r : Packet Term) → AlikeSend p q → AlikeSend q r → AlikeSend p r
send_through p q r h i = record {
  key = h.key ∙ i.key;
  to = h.to ∙ i.to;
  bits = h.bits ∙ i.bits;
  payload = pairs-through TermAlike TermAlike TermAlike term_through p.payload q.payload r.payload h.payload i.payload;
  guard = condition_through p.guard q.guard r.guard h.guard i.guard;
}

pub alike_self : (s : State Term) → Alike s s
alike_self s = record {
  trace = refl;
  outcome = refl;
  timers = refl;
  inputs = refl;
  sent = refl;
  losses = refl;
  duplications = refl;
  booted = refl;
  reboots = refl;
  registers = pairs-self TermAlike term_self s.registers;
  memory = pairs-self TermAlike term_self s.memory;
  queue = pairs-self (WaitsAlike TermAlike) waits_self s.queue;
  own = condition_self s.own;
}

pub alike_through : (s t u : State Term) → Alike s t → Alike t u → Alike s u
alike_through s t u h i = record {
  trace = h.trace ∙ i.trace;
  outcome = h.outcome ∙ i.outcome;
  timers = h.timers ∙ i.timers;
  inputs = h.inputs ∙ i.inputs;
  sent = h.sent ∙ i.sent;
  losses = h.losses ∙ i.losses;
  duplications = h.duplications ∙ i.duplications;
  booted = h.booted ∙ i.booted;
  reboots = h.reboots ∙ i.reboots;
  registers = pairs-through TermAlike TermAlike TermAlike term_through s.registers t.registers u.registers h.registers i.registers;
  memory = pairs-through TermAlike TermAlike TermAlike term_through s.memory t.memory u.memory h.memory i.memory;
  queue = pairs-through (WaitsAlike TermAlike) (WaitsAlike TermAlike) (WaitsAlike TermAlike) waits_through s.queue t.queue u.queue h.queue i.queue;
  own = condition_through s.own t.own u.own h.own i.own;
}

pub path_through : (p q r : Path Term) → AlikePath p q → AlikePath q r → AlikePath p r
path_through p q r h i = record {
  bits = h.bits ∙ i.bits;
  literals = condition_through p.literals q.literals r.literals h.literals i.literals;
  state = alike_through p.state q.state r.state h.state i.state;
  sends = pairs-through AlikeSend AlikeSend AlikeSend send_through p.sends q.sends r.sends h.sends i.sends;
}

-- paths that are given of some are given of those that these are alike to
pub given_on : (ps qs rs : List (Path Term)) → AreGiven ps qs → OneByOne AlikePath qs rs → AreGiven ps rs
given_on ps [] [] h i = h
given_on ps [] (r ∷ rs) h i = absurd i
given_on ps (q ∷ qs) [] h i = absurd i
given_on [] (q ∷ qs) (r ∷ rs) h i = (λ a. sym (i.0.state.own.holds a) ∙ h.0 a, given_on [] qs rs h.1 i.1)
given_on (p ∷ ps) (q ∷ qs) (r ∷ rs) (inl h) i = inl (path_through p q r h.0 i.0, given_on ps qs rs h.1 i.1)
given_on (p ∷ ps) (q ∷ qs) (r ∷ rs) (inr h) i = inr ((λ a. sym (i.0.state.own.holds a) ∙ h.0 a), given_on (p ∷ ps) qs rs h.1 i.1)

pub given_of_alike : GivenOfAlike
given_of_alike net n tick e s t ps h g = given_on ps (event_paths terms net n tick e s) (event_paths terms net n tick e t) g (paths_alike terms terms TermAlike ConditionAlike ConditionAlike keeps_terms net n tick e s t h)

-- values that simplify as they go: the rows with them are alike to those over terms
pub keeps_simplified : (apply : Op → Term → Term → Term) (choice : Term → Term → Term → Term) → ((op : Op) (x y : Term) → TermAlike (apply op x y) (Apply op x y)) → ((x y z : Term) → TermAlike (choice x y z) (Choice x y z))
    → Keeps (record { word = Word; input = Input; apply = apply; choice = choice; can_hold = λ l. true }) terms TermAlike ConditionAlike ConditionAlike
keeps_simplified apply choice less few = record {
  word = λ w. term_self (Word w);
  input = λ n i width. term_self (Input n i width);
  apply = λ op x x' y y' h i. term_through (apply op x y) (Apply op x y) (Apply op x' y') (less op x y) (applies op x x' y y' h i);
  choice = λ x x' y y' z z' h i j. term_through (choice x y z) (Choice x y z) (Choice x' y' z') (few x y z) (picks x x' y y' z z' h i j);
  nothing = condition_self [];
  literal = literal_alike;
  join = joins;
  told = λ c c' h. h;
  joined = joins;
  sides = λ x x' b r. refl;
}

-- So an event that simplifies as it goes has, from alike states, paths that are alike to the definitions'.
pub simplified_paths : (apply : Op → Term → Term → Term) (choice : Term → Term → Term → Term) → ((op : Op) (x y : Term) → TermAlike (apply op x y) (Apply op x y)) → ((x y z : Term) → TermAlike (choice x y z) (Choice x y z))
    → (net : Network) (n tick : ℕ) (e : Event) (s t : State Term) → Alike s t
    → OneByOne AlikePath (event_paths (record { word = Word; input = Input; apply = apply; choice = choice; can_hold = λ l. true }) net n tick e s) (event_paths terms net n tick e t)
simplified_paths apply choice less few net n tick e s t h =
    paths_alike (record { word = Word; input = Input; apply = apply; choice = choice; can_hold = λ l. true }) terms TermAlike ConditionAlike ConditionAlike (keeps_simplified apply choice less few) net n tick e s t h
