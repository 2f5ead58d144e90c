-- The laws of the model, as statements. A law is proved where a function of this crate has it as its contract.
use Rattle.std.specs.Prelude.{◌≡◌, ◌≢◌, ℕ, ◌+◌, slice_index_or, take, drop, ◌<◌, ◌≤◌, Bool, true, false, ◌⊎◌, List, [], ◌∷◌, ◌++◌, length, map, filter, flat_map, Contains, Some, None, slice_get}
use Rattle.std.specs.List.{AllByRecursion}
use Rattle.std.specs.Cmp.Lexicographic.{slice_cmp}
use Rattle.kn_code.specs.declared.program.Instr.{Instr}
use Rattle.kn_code.specs.declared.program.Instr.TheVariants as instrs
use Rattle.kn_code.specs.Code.{Code}
use Rattle.kn_model.specs.Terms.{Term, Valuation, terms, words}
use Rattle.kn_model.specs.Histories.{History, followed}
use Rattle.kn_packet.specs.declared.packet.Event.{Event}
use Rattle.kn_model.specs.Packets.{Packet, Parcel, put_all, packet_le}
use Rattle.kn_model.specs.Nodes.{State, Node}
use Rattle.kn_model.specs.Nets.{Network, Link}
use Rattle.kn_model.specs.Due.{due, held, left}
use Rattle.kn_model.specs.Paths.{Path, event_paths, paths}
use Rattle.kn_model.specs.Limits.{IsPrefix}
use Rattle.kn_model.specs.Scenarios.{Scenario, name_of, cob, copies, finish, receive, node_at, settled}
use Rattle.kn_model.specs.Conditions.{Condition, holds, that, that_with, IsImpossible, IsLeast, IsSmall, IsFar, StandsFor, IsLive}
use Rattle.kn_cond.specs.declared.standing.Standing.{Standing}
use Rattle.kn_model.specs.Deciding.{IsPlain, clashes, forced}
use Rattle.kn_model.specs.Concrete.{concrete, scenario_under, path_under, state_under}
use Rattle.kn_model.specs.Reports.{Rises, trace_cmp, ends, pick_condition}
use Rattle.kn_model.specs.Replays.{node_of, own_of}
use Rattle.kn_model.specs.Alikes.{MetAt, seen, OneByOne, Alike, AlikePath, AlikeSend, AlikeRun, AlikeRunPath, ConditionAlike, AreGiven}
use Rattle.kn_built.specs.Picks.{SameItems}
use Rattle.kn_model.specs.Least.{IsFirst}

-- a state with these packets in its queue
abbrev pub queued_all : {V : Type 0} → List (Packet V) → State V → State V
queued_all ps s = record s { queue = put_all packet_le ps s.queue }

-- what the laws need of a network: packets and timers come in later ticks
abbrev pub SetsLater : Instr → Type 0
SetsLater (instrs.Timer number d) = 1 ≤ d
SetsLater i = Unit {0}

pub record IsNet (net : Network) : Type 0 where
  pub delays : AllByRecursion (λ (l : Link). 1 ≤ l.delay) net.links
  pub timers : AllByRecursion (λ (c : Code). AllByRecursion SetsLater c.instrs) net.programs

-- Of copying the whole network, the members that hold under the inputs are the run on them, which is one network.
abbrev pub Coverage : Type 0
Coverage = (net : Network) (a : Valuation) (t : ℕ) → IsNet net → map (scenario_under a) (filter (λ (s : Scenario Term). holds a s.condition) (cob terms net t)) ≡ concrete net a t

-- The run on inputs is one network.
abbrev pub OneRun : Type 0
OneRun = (net : Network) (a : Valuation) (t : ℕ) → length (concrete net a t) ≡ 1

-- Events of two nodes commute, and so a tick may be finished from the copies that one event makes.
abbrev pub Commuting : Type 0
Commuting = (net : Network) (m n t : ℕ) (s : Scenario Term) → IsNet net → m ≢ n → m < length s.nodes → n < length s.nodes
    → SameItems (map seen (flat_map (copies terms net n t) (copies terms net m t s))) (map seen (flat_map (copies terms net m t) (copies terms net n t s)))

abbrev pub FinishFromCopies : Type 0
FinishFromCopies = (net : Network) (n t : ℕ) (s : Scenario Term) → IsNet net → length s.nodes ≡ length net.nodes → n < length net.nodes
    → SameItems (map seen (finish terms net t s)) (map seen (flat_map (finish terms net t) (copies terms net n t s)))

-- two lists of bits differ at a place that both have
abbrev pub Apart : List Bool → List Bool → Type 0
Apart [] ys = ⊥
Apart (x ∷ xs) [] = ⊥
Apart (false ∷ xs) (false ∷ ys) = Apart xs ys
Apart (false ∷ xs) (true ∷ ys) = Unit {0}
Apart (true ∷ xs) (false ∷ ys) = Unit {0}
Apart (true ∷ xs) (true ∷ ys) = Apart xs ys

abbrev pub AreApart : List (List Bool) → Type 0
AreApart [] = Unit {0}
AreApart (x ∷ xs) = AllByRecursion (Apart x) xs × AreApart xs

-- two lists of bits differ at a place that both have, and there the first has 0
abbrev pub Before : List Bool → List Bool → Type 0
Before [] ys = ⊥
Before (x ∷ xs) [] = ⊥
Before (false ∷ xs) (false ∷ ys) = Before xs ys
Before (false ∷ xs) (true ∷ ys) = Unit {0}
Before (true ∷ xs) (false ∷ ys) = ⊥
Before (true ∷ xs) (true ∷ ys) = Before xs ys

abbrev pub AreBefore : List (List Bool) → Type 0
AreBefore [] = Unit {0}
AreBefore (x ∷ xs) = AllByRecursion (Before x) xs × AreBefore xs

-- two names are apart at some node
abbrev pub NamesApart : List (List Bool) → List (List Bool) → Type 0
NamesApart [] ys = ⊥
NamesApart (x ∷ xs) [] = ⊥
NamesApart (x ∷ xs) (y ∷ ys) = Apart x y ⊎ NamesApart xs ys

abbrev pub AllNamesApart : List (List (List Bool)) → Type 0
AllNamesApart [] = Unit {0}
AllNamesApart (x ∷ xs) = AllByRecursion (NamesApart x) xs × AllNamesApart xs

-- No two members of the copied networks have one name, and so a name has one member.
abbrev pub DistinctNames : Type 0
DistinctNames = (net : Network) (t : ℕ) → IsNet net → AllNamesApart (map name_of (cob terms net t))

abbrev pub OneByName : Type 0
OneByName = (net : Network) (t : ℕ) (s u : Scenario Term) → IsNet net → Contains (cob terms net t) s → Contains (cob terms net t) u → name_of s ≡ name_of u → s ≡ u

-- In a network of at most one tick the names come in their order: node after node, and each trace bit by bit.
abbrev pub NamesRise : Type 0
NamesRise = (net : Network) → IsNet net → net.limits.ticks ≤ 1 → Rises (slice_cmp trace_cmp) (map name_of (ends net))

-- A node of a scenario is what its history makes.
abbrev pub HistoriesTell : Type 0
HistoriesTell = (net : Network) (t n : ℕ) (s : Scenario Term) (y : Node Term) → IsNet net → Contains (cob terms net t) s → slice_get s.nodes n ≡ Some y → node_of terms net n y.history ≡ y

-- A scenario's condition implies each node's own condition.
abbrev pub OwnImplied : Type 0
OwnImplied = (net : Network) (a : Valuation) (t : ℕ) (s : Scenario Term) (y : Node Term) → IsNet net → Contains (cob terms net t) s → Contains s.nodes y → holds a s.condition ≡ true → holds a y.state.own ≡ true

-- And so it does of each scenario that is met while a tick is run.
abbrev pub OwnImpliedWithin : Type 0
OwnImpliedWithin = (net : Network) (a : Valuation) (t n : ℕ) (s : Scenario Term) (y : Node Term) → IsNet net → MetAt terms net t n s → Contains s.nodes y → holds a s.condition ≡ true → holds a y.state.own ≡ true

-- And it asks no more than the own conditions of all nodes together.
abbrev pub ConditionIsOwn : Type 0
ConditionIsOwn = (net : Network) (a : Valuation) (t : ℕ) (s : Scenario Term) → IsNet net → Contains (cob terms net t) s → holds a s.condition ≡ holds a (pick_condition s.nodes)

-- So the run on inputs that meet the own conditions of a member's nodes ends as this member.
abbrev pub EndsAsMember : Type 0
EndsAsMember = (net : Network) (a : Valuation) (t : ℕ) (s : Scenario Term) → IsNet net → Contains (cob terms net t) s → holds a (pick_condition s.nodes) ≡ true → concrete net a t ≡ scenario_under a s ∷ []

-- A history's own condition implies that of each history that it begins with.
abbrev pub BeginningImplied : Type 0
BeginningImplied = (net : Network) (a : Valuation) (n : ℕ) (h more : History) → holds a (own_of net n (followed h more)) ≡ true → holds a (own_of net n h) ≡ true

-- Each path of a due event leaves less for the tick.
abbrev pub FallingWork : Type 0
FallingWork = (net : Network) (n t : ℕ) (e : Event) (s : State Term) → IsNet net → due net.limits.ticks t s ≡ Some e
    → AllByRecursion (λ (p : Path Term). left net.limits.ticks t p.state < left net.limits.ticks t s) (event_paths terms net n t e s)

-- This is so however the events of a node that ended are counted: also those that it will not run fall.
abbrev pub FallingHeld : Type 0
FallingHeld = (net : Network) (n t : ℕ) (e : Event) (s : State Term) → IsNet net → due net.limits.ticks t s ≡ Some e
    → AllByRecursion (λ (p : Path Term). held t p.state < held t s) (event_paths terms net n t e s)

-- What a node sends is from it, is no copy, and arrives later.
abbrev pub IsSentBy : ℕ → ℕ → Packet Term → Type 0
IsSentBy n t q = (q.from ≡ n) × (q.copy ≡ 0) × (t < q.arrival)

abbrev pub SendsLater : Type 0
SendsLater = (net : Network) (n t : ℕ) (e : Event) (s : State Term) → IsNet net
    → AllByRecursion (λ (p : Path Term). AllByRecursion (IsSentBy n t) p.sends) (event_paths terms net n t e s)

-- Of two paths of an event the bits differ at a place that both have.
abbrev pub PathsApart : Type 0
PathsApart = (net : Network) (n t : ℕ) (e : Event) (s : State Term) → IsNet net → AreApart (map (λ (p : Path Term). p.bits) (event_paths terms net n t e s))

-- And there the earlier one has 0.
abbrev pub PathsInOrder : Type 0
PathsInOrder = (net : Network) (n t : ℕ) (e : Event) (s : State Term) → IsNet net → AreBefore (map (λ (p : Path Term). p.bits) (event_paths terms net n t e s))

-- The paths of an event whose literals hold under the inputs are the paths over words.
abbrev pub EventsCovered : Type 0
EventsCovered = (net : Network) (a : Valuation) (n t : ℕ) (e : Event) (s : State Term) → IsNet net
    → map (path_under a) (filter (λ (p : Path Term). holds a p.literals) (event_paths terms net n t e s)) ≡ event_paths (words a) net n t e (state_under a s)

-- Packets that come in later ticks change no path of an event, and travel along in the queue.
abbrev pub LaterPacketsTravel : Type 0
LaterPacketsTravel = (net : Network) (n t : ℕ) (e : Event) (s : State Term) (ps : List (Packet Term)) → AllByRecursion (λ (p : Packet Term). (t < p.arrival) × (p.copy ≡ 0)) ps
    → event_paths terms net n t e (queued_all ps s) ≡ map (λ (p : Path Term). record p { state = queued_all ps p.state }) (event_paths terms net n t e s)

-- Parcels of two senders: in which order a node receives them makes no difference.
abbrev pub IsFrom : ℕ → Parcel Term → Type 0
IsFrom n p = p.packet.from ≡ n

abbrev pub ReceivingCommutes : Type 0
ReceivingCommutes = (a b i : ℕ) (ps qs : List (Parcel Term)) (y : Node Term) → a ≢ b → AllByRecursion (IsFrom a) ps → AllByRecursion (IsFrom b) qs
    → receive i ps (receive i qs y) ≡ receive i qs (receive i ps y)

-- As many turns as events are left are enough: then none is due.
abbrev pub SettledIsDone : Type 0
SettledIsDone = (net : Network) (n t : ℕ) (s : Scenario Term) → IsNet net → n < length s.nodes
    → AllByRecursion (λ (u : Scenario Term). due net.limits.ticks t (node_at terms u n).state ≡ None) (settled terms net t n s)

-- A condition that clashes is met by no inputs.
abbrev pub ClashIsImpossible : Type 0
ClashIsImpossible = (c : Condition) → clashes c ≡ true → IsImpossible (that c)

-- Of a condition on constants and inputs of one bit that does not clash, the inputs that it forces to be 1 are the least that meet it.
abbrev pub ForcedIsLeast : Type 0
ForcedIsLeast = (c : Condition) → IsPlain c → clashes c ≡ false → IsLeast (that c) (forced c)

-- The least words for what a condition reads are the first of all inputs that meet it.
abbrev pub LeastIsFirst : Type 0
LeastIsFirst = (c : Condition) (a : Valuation) → IsLeast (that c) a → IsFirst (λ b. holds b c ≡ true) a

-- Columns of one alternative each ask the same of the inputs as one condition that joins them.
abbrev pub JoinedIsOne : Type 0
JoinedIsOne = (c : Condition) (ds : List Condition) → that_with c (map (λ (d : Condition). d ∷ []) ds) ≡ that (c ++ flat_map (λ (d : Condition). d) ds)

-- One of some conditions, with the others as such columns, asks what they ask together, whatever the order.
abbrev pub OneAndOthers : Type 0
OneAndOthers = (cs : List Condition) (n : ℕ) → n < length cs
    → that_with (slice_index_or cs n []) (map (λ (d : Condition). d ∷ []) (take n cs ++ drop (n + 1) cs)) ≡ that (flat_map (λ (d : Condition). d) cs)

-- Alike states have the same events due, and an event's paths from them are alike, one by one in order.
abbrev pub AlikePaths : Type 0
AlikePaths = (net : Network) (n tick : ℕ) (s t : State Term) → Alike s t
    → (due net.limits.ticks tick s ≡ due net.limits.ticks tick t) × (left net.limits.ticks tick s ≡ left net.limits.ticks tick t)
    × ((e : Event) → OneByOne AlikePath (event_paths terms net n tick e s) (event_paths terms net n tick e t))

-- the same of runs on inputs
abbrev pub AlikeRuns : Type 0
AlikeRuns = (net : Network) (a : Valuation) (n tick : ℕ) (s t : State ℕ) → AlikeRun s t
    → (due net.limits.ticks tick s ≡ due net.limits.ticks tick t) × (left net.limits.ticks tick s ≡ left net.limits.ticks tick t)
    × ((e : Event) → OneByOne AlikeRunPath (event_paths (words a) net n tick e s) (event_paths (words a) net n tick e t))

-- A condition that is alike to another is small where the other is; what is far of it is far of the other, and its standing is one of the other's.
abbrev pub AlikeStandings : Type 0
AlikeStandings = (conflicts : ℕ) (c d : Condition) → ConditionAlike c d
    → (IsSmall conflicts (that d) → IsSmall conflicts (that c)) × (IsFar conflicts (that c) → IsFar conflicts (that d))
    × ((x : Standing) → StandsFor conflicts (that c) x → StandsFor conflicts (that d) x)

-- What is given of an event of a state is given of the event of each state that it is alike to.
abbrev pub GivenOfAlike : Type 0
GivenOfAlike = (net : Network) (n tick : ℕ) (e : Event) (s t : State Term) (ps : List (Path Term)) → Alike s t
    → AreGiven ps (event_paths terms net n tick e s) → AreGiven ps (event_paths terms net n tick e t)

-- Alike states that are sent alike packets stay alike, with the packets in the queue and with a guard in the own condition.
abbrev pub AlikeReceived : Type 0
AlikeReceived = (s t : State Term) → Alike s t
    → ((ps qs : List (Packet Term)) → OneByOne AlikeSend ps qs → Alike (queued_all ps s) (queued_all qs t))
    × ((p q : Packet Term) → AlikeSend p q → Alike (record s { own = s.own ++ p.guard }) (record t { own = t.own ++ q.guard }))

-- What given paths are: each is alike to one of the event's paths, their bits differ, and each path of the event is given or has an own condition that no inputs meet.
abbrev pub GivenMeans : Type 0
GivenMeans = (net : Network) (n tick : ℕ) (e : Event) (s : State Term) (ps : List (Path Term)) → IsNet net → AreGiven ps (event_paths terms net n tick e s)
    → AllByRecursion (λ (p : Path Term). (q : Path Term) × Contains (event_paths terms net n tick e s) q × AlikePath p q) ps
    × AreApart (map (λ (p : Path Term). p.bits) ps)
    × AllByRecursion (λ (q : Path Term). ((p : Path Term) × Contains ps p × AlikePath p q) ⊎ IsImpossible (that q.state.own)) (event_paths terms net n tick e s)

-- A live condition stays live in one that it is alike to, and a live prefix of a due event's path is one from each state that is alike.
abbrev pub AlikePrefixes : Type 0
AlikePrefixes = (net : Network) (n tick : ℕ) (s t : State Term) → Alike s t
    → (IsLive net.limits.conflicts (that s.own) → IsLive net.limits.conflicts (that t.own))
    × ((bits : List Bool) → IsPrefix net.limits.conflicts s (paths terms net n tick s) bits → IsPrefix net.limits.conflicts t (paths terms net n tick t) bits)
